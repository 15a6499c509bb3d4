-- The forms of events, as lines of a script and as parts of a journal's entries.
use Rattle.std.specs.Prelude.{ℕ, if◌then◌else◌, List, codes, drop, length, ◌==◌, Option, Some, None, Result, Ok, Err}
use Rattle.std.specs.Str.{bytes_eq}
use Rattle.m3_base.specs.declared.event.Event.{Event}
use Rattle.m3_base.specs.declared.event.Made.{Made}
use Rattle.m3_base.specs.declared.order.FileLine.{FileLine}
use Rattle.m3_base.specs.declared.order.Order.{Order}
use Rattle.m3_text.specs.declared.hexes.HexCase.{HexCase}
use Rattle.m3_text.specs.declared.refusal.Why.{Why}
use Rattle.m3_text.specs.declared.refusal.Why.TheVariants as why
use Rattle.m3_text.specs.Lines.{is_word}
use Rattle.m3_text.specs.Refusable.{◌>>=◌}
use Rattle.m3_text.specs.Number.{number}
use Rattle.m3_text.specs.LineForm.{word, count_test}
use Rattle.m3_text.specs.CauseOrder.{both}
use Rattle.m3_script.specs.CommandForms.{command_of}
use Rattle.m3_script.specs.Grants.{perm_of, grant_of}
use Rattle.m3_script.specs.Setups.{act_command_of}

-- ---- events of tiles and activities

unfoldable pub take_of : List (List ℕ) → Result Event Why
take_of ws = do
  count ← count_test 2 ws
  to ← number 0 15 (word 0 ws)
  from ← number 0 15 (word 1 ws)
  Ok (Event.Take to from)

unfoldable pub do_of : HexCase → List (List ℕ) → Result Event Why
do_of case ws = act_command_of case ws >>= λ x. Ok (Event.Do x.0 x.1)

unfoldable pub tend_of : List (List ℕ) → Result Event Why
tend_of ws = do
  count ← count_test 1 ws
  act ← number 0 63 (word 0 ws)
  Ok (Event.Tend act)

unfoldable pub turn_of : List (List ℕ) → Result Event Why
turn_of ws = do
  count ← count_test 1 ws
  act ← number 0 63 (word 0 ws)
  Ok (Event.Turn act)

unfoldable pub close_of : List (List ℕ) → Result Event Why
close_of ws = do
  count ← count_test 0 ws
  Ok Event.Close

-- ---- orders

unfoldable pub switch_of : List (List ℕ) → Result Order Why
switch_of ws = do
  count ← count_test 2 ws
  tile ← number 0 15 (word 0 ws)
  act ← number 0 63 (word 1 ws)
  Ok (Order.Switch tile act)

unfoldable pub revoke_of : List (List ℕ) → Result Order Why
revoke_of ws = do
  count ← count_test 1 ws
  g ← number 1 4096 (word 0 ws)
  Ok (Order.Revoke g)

unfoldable pub order_of : List (List ℕ) → Result Order Why
order_of ws =
    if bytes_eq (word 0 ws) (codes "switch") then switch_of (drop 1 ws)
    else if bytes_eq (word 0 ws) (codes "grant") then (grant_of (drop 1 ws) >>= λ line. Ok (Order.Grant line))
    else if bytes_eq (word 0 ws) (codes "revoke") then revoke_of (drop 1 ws)
    else Err why.Form

-- ---- lines on files

-- a name is any word; other bytes than visible characters fit no form
unfoldable pub name_of : List ℕ → Result (List ℕ) Why
name_of w = if is_word w then Ok w else Err why.Form

unfoldable pub create_of : List (List ℕ) → Result FileLine Why
create_of ws = do
  count ← count_test 1 ws
  name ← name_of (word 0 ws)
  Ok (FileLine.Create name)

unfoldable pub extend_of : List (List ℕ) → Result FileLine Why
extend_of ws = do
  count ← count_test 2 ws
  name ← name_of (word 0 ws)
  bytes ← number 1 4294967295 (word 1 ws)
  Ok (FileLine.Extend name bytes)

unfoldable pub remove_of : List (List ℕ) → Result FileLine Why
remove_of ws = do
  count ← count_test 1 ws
  name ← name_of (word 0 ws)
  Ok (FileLine.Remove name)

unfoldable pub open_of : List (List ℕ) → Result FileLine Why
open_of ws = do
  count ← count_test 5 ws
  name ← name_of (word 0 ws)
  perm ← perm_of (word 4 ws)
  off ← number 0 4294967295 (word 1 ws)
  act ← number 0 63 (word 2 ws)
  ep ← number 0 15 (word 3 ws)
  Ok (FileLine.Open name off act ep perm)

unfoldable pub close_file_of : List (List ℕ) → Result FileLine Why
close_file_of ws = do
  count ← count_test 1 ws
  g ← number 1 4096 (word 0 ws)
  Ok (FileLine.Close g)

-- a line on files, by the words after `file`
unfoldable pub file_of : List (List ℕ) → Result FileLine Why
file_of ws =
    if bytes_eq (word 0 ws) (codes "create") then create_of (drop 1 ws)
    else if bytes_eq (word 0 ws) (codes "extend") then extend_of (drop 1 ws)
    else if bytes_eq (word 0 ws) (codes "remove") then remove_of (drop 1 ws)
    else if bytes_eq (word 0 ws) (codes "open") then open_of (drop 1 ws)
    else if bytes_eq (word 0 ws) (codes "close") then close_file_of (drop 1 ws)
    else Err why.Form

-- ---- any event

unfoldable pub event_of : HexCase → List (List ℕ) → Result Event Why
event_of case ws =
    if bytes_eq (word 0 ws) (codes "take") then take_of (drop 1 ws)
    else if bytes_eq (word 0 ws) (codes "do") then do_of case (drop 1 ws)
    else if bytes_eq (word 0 ws) (codes "turn") then turn_of (drop 1 ws)
    else if bytes_eq (word 0 ws) (codes "tend") then tend_of (drop 1 ws)
    else if bytes_eq (word 0 ws) (codes "close") then close_of (drop 1 ws)
    else if bytes_eq (word 0 ws) (codes "file") then (file_of (drop 1 ws) >>= λ line. Ok (Event.File line))
    else (order_of ws >>= λ order. Ok (Event.Order order))

-- ---- the same in an entry, where a turn has its move behind it

unfoldable pub await_of : List (List ℕ) → Result (Option Made) Why
await_of ws = do
  count ← count_test 1 ws
  ep ← number 0 15 (word 0 ws)
  Ok (Some (Made.Await ep))

unfoldable pub quantum_of : List (List ℕ) → Result (Option Made) Why
quantum_of ws = do
  count ← count_test 0 ws
  Ok (Some Made.Quantum)

unfoldable pub end_of : List (List ℕ) → Result (Option Made) Why
end_of ws = do
  count ← count_test 0 ws
  Ok (Some Made.End)

-- the words of a move; an idle turn has none
unfoldable pub move_of : HexCase → List (List ℕ) → Result (Option Made) Why
move_of case ws =
    if length ws == 0 then Ok None
    else if bytes_eq (word 0 ws) (codes "await") then await_of (drop 1 ws)
    else if bytes_eq (word 0 ws) (codes "quantum") then quantum_of (drop 1 ws)
    else if bytes_eq (word 0 ws) (codes "end") then end_of (drop 1 ws)
    else (command_of case ws >>= λ command. Ok (Some (Made.Command command)))

-- an activity and its move, by the words after `turn`
unfoldable pub act_move_of : HexCase → List (List ℕ) → Result (ℕ × Option Made) Why
act_move_of case ws =
    if length ws == 0 then Err why.Form else both (number 0 63 (word 0 ws)) (move_of case (drop 1 ws))

unfoldable pub entry_event_of : HexCase → List (List ℕ) → Result (Event × Option Made) Why
entry_event_of case ws =
    if bytes_eq (word 0 ws) (codes "turn") then (act_move_of case (drop 1 ws) >>= λ x. Ok (Event.Turn x.0, x.1))
    else (event_of case ws >>= λ event. Ok (event, None))
