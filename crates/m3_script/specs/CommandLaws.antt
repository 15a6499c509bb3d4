-- Commands that are printed are read back, form by form.
use Rattle.std.specs.Prelude.{◌≡◌, ℕ, List, [], ◌∷◌, codes, decimal, Some, None, Ok}
use Rattle.m3_base.specs.declared.command.Command.{Command}
use Rattle.m3_text.specs.declared.hexes.HexCase.{HexCase}
use Rattle.m3_text.specs.Hex.{hex_text}
use Rattle.m3_script.specs.CommandForms.{command_of}
use Rattle.m3_script.specs.InRange.{CommandInRange}

abbrev pub SendAgain : Type 0
SendAgain = (case : HexCase) (ep : ℕ) (payload : List ℕ) → CommandInRange (Command.Send ep payload None)
    → command_of case (codes "send" ∷ decimal ep ∷ hex_text payload ∷ []) ≡ Ok (Command.Send ep payload None)

abbrev pub CallAgain : Type 0
CallAgain = (case : HexCase) (ep : ℕ) (payload : List ℕ) (reply : ℕ) → CommandInRange (Command.Send ep payload (Some reply))
    → command_of case (codes "send" ∷ decimal ep ∷ hex_text payload ∷ codes "reply" ∷ decimal reply ∷ [])
    ≡ Ok (Command.Send ep payload (Some reply))

abbrev pub ReplyAgain : Type 0
ReplyAgain = (case : HexCase) (ep token : ℕ) (payload : List ℕ) → CommandInRange (Command.Reply ep token payload)
    → command_of case (codes "reply" ∷ decimal ep ∷ decimal token ∷ hex_text payload ∷ [])
    ≡ Ok (Command.Reply ep token payload)

abbrev pub FetchAgain : Type 0
FetchAgain = (case : HexCase) (ep : ℕ) → CommandInRange (Command.Fetch ep)
    → command_of case (codes "fetch" ∷ decimal ep ∷ []) ≡ Ok (Command.Fetch ep)

abbrev pub AcknowledgeAgain : Type 0
AcknowledgeAgain = (case : HexCase) (ep token : ℕ) → CommandInRange (Command.Acknowledge ep token)
    → command_of case (codes "ack" ∷ decimal ep ∷ decimal token ∷ []) ≡ Ok (Command.Acknowledge ep token)

abbrev pub ReadAgain : Type 0
ReadAgain = (case : HexCase) (ep off len : ℕ) → CommandInRange (Command.Read ep off len)
    → command_of case (codes "read" ∷ decimal ep ∷ decimal off ∷ decimal len ∷ []) ≡ Ok (Command.Read ep off len)

abbrev pub WriteAgain : Type 0
WriteAgain = (case : HexCase) (ep off : ℕ) (payload : List ℕ) → CommandInRange (Command.Write ep off payload)
    → command_of case (codes "write" ∷ decimal ep ∷ decimal off ∷ hex_text payload ∷ [])
    ≡ Ok (Command.Write ep off payload)
