-- The words of a command.
use Rattle.std.specs.Prelude.{ℕ, List, [], ◌∷◌, codes, decimal, Option, Some, None}
use Rattle.m3_base.specs.declared.command.Command.{Command}
use Rattle.m3_text.specs.Hex.{hex_text}

-- a number behind its word, where there is one
abbrev pub optional : List ℕ → Option ℕ → List (List ℕ)
optional name None = []
optional name (Some n) = name ∷ decimal n ∷ []

abbrev pub command_words : Command → List (List ℕ)
command_words (Command.Send ep payload reply) =
    codes "send" ∷ decimal ep ∷ hex_text payload ∷ optional (codes "reply") reply
command_words (Command.Reply ep token payload) = codes "reply" ∷ decimal ep ∷ decimal token ∷ hex_text payload ∷ []
command_words (Command.Fetch ep) = codes "fetch" ∷ decimal ep ∷ []
command_words (Command.Acknowledge ep token) = codes "ack" ∷ decimal ep ∷ decimal token ∷ []
command_words (Command.Read ep off len) = codes "read" ∷ decimal ep ∷ decimal off ∷ decimal len ∷ []
command_words (Command.Write ep off payload) = codes "write" ∷ decimal ep ∷ decimal off ∷ hex_text payload ∷ []
