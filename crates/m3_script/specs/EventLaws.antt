-- Events that are printed are read back, form by form, and so are turns with their moves.
use Rattle.std.specs.Prelude.{◌≡◌, ℕ, false, List, [], ◌∷◌, codes, decimal, Option, Some, None, Ok}
use Rattle.std.specs.Str.{bytes_eq}
use Rattle.m3_base.specs.declared.command.Command.{Command}
use Rattle.m3_base.specs.declared.event.Event.{Event}
use Rattle.m3_base.specs.declared.event.Made.{Made}
use Rattle.m3_base.specs.declared.order.FileLine.{FileLine}
use Rattle.m3_base.specs.declared.order.GrantLine.{GrantLine}
use Rattle.m3_base.specs.declared.order.Order.{Order}
use Rattle.m3_base.specs.declared.packet.Perm.{Perm}
use Rattle.m3_text.specs.declared.hexes.HexCase.{HexCase}
use Rattle.m3_text.specs.LineForm.{word}
use Rattle.m3_script.specs.CommandForms.{command_of}
use Rattle.m3_script.specs.Grants.{perm_of, grant_of}
use Rattle.m3_script.specs.Events.{event_of, move_of, entry_event_of}
use Rattle.m3_script.specs.InRange.{EventInRange, OrderInRange, FileInRange, MoveInRange, ActInRange}

abbrev pub TakeAgain : Type 0
TakeAgain = (case : HexCase) (to from : ℕ) → EventInRange (Event.Take to from)
    → event_of case (codes "take" ∷ decimal to ∷ decimal from ∷ []) ≡ Ok (Event.Take to from)

-- the words of a command make a do
abbrev pub DoAgain : Type 0
DoAgain = (case : HexCase) (act : ℕ) (command : Command) (ws : List (List ℕ)) → ActInRange act → command_of case ws ≡ Ok command
    → event_of case (codes "do" ∷ decimal act ∷ ws) ≡ Ok (Event.Do act command)

abbrev pub TendAgain : Type 0
TendAgain = (case : HexCase) (act : ℕ) → EventInRange (Event.Tend act) → event_of case (codes "tend" ∷ decimal act ∷ []) ≡ Ok (Event.Tend act)

abbrev pub TurnAgain : Type 0
TurnAgain = (case : HexCase) (act : ℕ) → EventInRange (Event.Turn act) → event_of case (codes "turn" ∷ decimal act ∷ []) ≡ Ok (Event.Turn act)

abbrev pub CloseAgain : Type 0
CloseAgain = (case : HexCase) → event_of case (codes "close" ∷ []) ≡ Ok Event.Close

abbrev pub SwitchAgain : Type 0
SwitchAgain = (case : HexCase) (tile act : ℕ) → OrderInRange (Order.Switch tile act)
    → event_of case (codes "switch" ∷ decimal tile ∷ decimal act ∷ []) ≡ Ok (Event.Order (Order.Switch tile act))

-- the words of a grant make an order
abbrev pub GrantAgain : Type 0
GrantAgain = (case : HexCase) (line : GrantLine) (ws : List (List ℕ)) → grant_of ws ≡ Ok line
    → event_of case (codes "grant" ∷ ws) ≡ Ok (Event.Order (Order.Grant line))

abbrev pub RevokeAgain : Type 0
RevokeAgain = (case : HexCase) (g : ℕ) → OrderInRange (Order.Revoke g)
    → event_of case (codes "revoke" ∷ decimal g ∷ []) ≡ Ok (Event.Order (Order.Revoke g))

abbrev pub CreateAgain : Type 0
CreateAgain = (case : HexCase) (name : List ℕ) → FileInRange (FileLine.Create name)
    → event_of case (codes "file" ∷ codes "create" ∷ name ∷ []) ≡ Ok (Event.File (FileLine.Create name))

abbrev pub ExtendAgain : Type 0
ExtendAgain = (case : HexCase) (name : List ℕ) (bytes : ℕ) → FileInRange (FileLine.Extend name bytes)
    → event_of case (codes "file" ∷ codes "extend" ∷ name ∷ decimal bytes ∷ [])
    ≡ Ok (Event.File (FileLine.Extend name bytes))

abbrev pub RemoveAgain : Type 0
RemoveAgain = (case : HexCase) (name : List ℕ) → FileInRange (FileLine.Remove name)
    → event_of case (codes "file" ∷ codes "remove" ∷ name ∷ []) ≡ Ok (Event.File (FileLine.Remove name))

-- a permission is by the word that is printed for it
abbrev pub OpenAgain : Type 0
OpenAgain = (case : HexCase) (name : List ℕ) (off act ep : ℕ) (perm : Perm) (w : List ℕ) → perm_of w ≡ Ok perm → FileInRange (FileLine.Open name off act ep perm)
    → event_of case (codes "file" ∷ codes "open" ∷ name ∷ decimal off ∷ decimal act ∷ decimal ep ∷ w ∷ [])
    ≡ Ok (Event.File (FileLine.Open name off act ep perm))

abbrev pub CloseFileAgain : Type 0
CloseFileAgain = (case : HexCase) (g : ℕ) → FileInRange (FileLine.Close g)
    → event_of case (codes "file" ∷ codes "close" ∷ decimal g ∷ []) ≡ Ok (Event.File (FileLine.Close g))

-- an event that is no turn is the same in an entry
abbrev pub EntryAgain : Type 0
EntryAgain = (case : HexCase) (ws : List (List ℕ)) (event : Event) → bytes_eq (word 0 ws) (codes "turn") ≡ false → event_of case ws ≡ Ok event
    → entry_event_of case ws ≡ Ok (event, None)

-- the words of a move make a turn with this move
abbrev pub MoveAgain : Type 0
MoveAgain = (case : HexCase) (act : ℕ) (made : Option Made) (ws : List (List ℕ)) → ActInRange act → move_of case ws ≡ Ok made
    → entry_event_of case (codes "turn" ∷ decimal act ∷ ws) ≡ Ok (Event.Turn act, made)

abbrev pub IdleMoveAgain : Type 0
IdleMoveAgain = (case : HexCase) → move_of case [] ≡ Ok None

abbrev pub AwaitMoveAgain : Type 0
AwaitMoveAgain = (case : HexCase) (ep : ℕ) → MoveInRange (Some (Made.Await ep))
    → move_of case (codes "await" ∷ decimal ep ∷ []) ≡ Ok (Some (Made.Await ep))

abbrev pub QuantumMoveAgain : Type 0
QuantumMoveAgain = (case : HexCase) → move_of case (codes "quantum" ∷ []) ≡ Ok (Some Made.Quantum)

abbrev pub EndMoveAgain : Type 0
EndMoveAgain = (case : HexCase) → move_of case (codes "end" ∷ []) ≡ Ok (Some Made.End)

-- the words of a command make a move
abbrev pub CommandMoveAgain : Type 0
CommandMoveAgain = (case : HexCase) (command : Command) (ws : List (List ℕ)) → command_of case ws ≡ Ok command
    → move_of case ws ≡ Ok (Some (Made.Command command))
