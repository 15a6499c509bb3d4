-- The forms of commands. A command is judged by its first word, and each form by the words after it.
use Rattle.std.specs.Prelude.{ℕ, ◌==◌, if◌then◌else◌, List, [], ◌∷◌, codes, drop, length, Result, Ok, Err, Some, None}
use Rattle.std.specs.Str.{bytes_eq}
use Rattle.m3_base.specs.declared.command.Command.{Command}
use Rattle.m3_text.specs.declared.hexes.HexCase.{HexCase}
use Rattle.m3_text.specs.declared.refusal.Why.{Why}
use Rattle.m3_text.specs.declared.refusal.Why.TheVariants as why
use Rattle.m3_text.specs.Refusable.{◌>>=◌}
use Rattle.m3_text.specs.Number.{number}
use Rattle.m3_text.specs.Hex.{hex_of}
use Rattle.m3_text.specs.LineForm.{word, count_test, form_test}

-- the numbers come first: their cause is told before that of the bytes
unfoldable pub send_of : HexCase → List (List ℕ) → Result Command Why
send_of case ws = do
  count ← count_test 2 ws
  ep ← number 0 15 (word 0 ws)
  payload ← hex_of case 8192 (word 1 ws)
  Ok (Command.Send ep payload None)

unfoldable pub call_of : HexCase → List (List ℕ) → Result Command Why
call_of case ws = do
  form ← form_test ([] ∷ [] ∷ codes "reply" ∷ [] ∷ []) ws
  ep ← number 0 15 (word 0 ws)
  reply ← number 0 15 (word 3 ws)
  payload ← hex_of case 8192 (word 1 ws)
  Ok (Command.Send ep payload (Some reply))

unfoldable pub reply_of : HexCase → List (List ℕ) → Result Command Why
reply_of case ws = do
  count ← count_test 3 ws
  ep ← number 0 15 (word 0 ws)
  token ← number 0 4294967295 (word 1 ws)
  payload ← hex_of case 8192 (word 2 ws)
  Ok (Command.Reply ep token payload)

unfoldable pub fetch_of : List (List ℕ) → Result Command Why
fetch_of ws = do
  count ← count_test 1 ws
  ep ← number 0 15 (word 0 ws)
  Ok (Command.Fetch ep)

unfoldable pub acknowledge_of : List (List ℕ) → Result Command Why
acknowledge_of ws = do
  count ← count_test 2 ws
  ep ← number 0 15 (word 0 ws)
  token ← number 0 4294967295 (word 1 ws)
  Ok (Command.Acknowledge ep token)

unfoldable pub read_of : List (List ℕ) → Result Command Why
read_of ws = do
  count ← count_test 3 ws
  ep ← number 0 15 (word 0 ws)
  off ← number 0 4294967295 (word 1 ws)
  len ← number 0 65535 (word 2 ws)
  Ok (Command.Read ep off len)

unfoldable pub write_of : HexCase → List (List ℕ) → Result Command Why
write_of case ws = do
  count ← count_test 3 ws
  ep ← number 0 15 (word 0 ws)
  off ← number 0 4294967295 (word 1 ws)
  payload ← hex_of case 8192 (word 2 ws)
  Ok (Command.Write ep off payload)

-- a send of four words more wants a reply
unfoldable pub any_send_of : HexCase → List (List ℕ) → Result Command Why
any_send_of case ws = if length ws == 4 then call_of case ws else send_of case ws

unfoldable pub command_of : HexCase → List (List ℕ) → Result Command Why
command_of case ws =
    if bytes_eq (word 0 ws) (codes "send") then any_send_of case (drop 1 ws)
    else if bytes_eq (word 0 ws) (codes "fetch") then fetch_of (drop 1 ws)
    else if bytes_eq (word 0 ws) (codes "ack") then acknowledge_of (drop 1 ws)
    else if bytes_eq (word 0 ws) (codes "reply") then reply_of case (drop 1 ws)
    else if bytes_eq (word 0 ws) (codes "read") then read_of (drop 1 ws)
    else if bytes_eq (word 0 ws) (codes "write") then write_of case (drop 1 ws)
    else Err why.Form
