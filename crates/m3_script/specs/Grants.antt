-- The forms of grants: of a setup, or ordered while the machine runs.
use Rattle.std.specs.Prelude.{ℕ, if◌then◌else◌, List, [], ◌∷◌, codes, drop, Result, Ok, Err}
use Rattle.std.specs.Str.{bytes_eq}
use Rattle.m3_base.specs.declared.order.GrantLine.{GrantLine}
use Rattle.m3_base.specs.declared.packet.Perm.{Perm}
use Rattle.m3_text.specs.declared.refusal.Why.{Why}
use Rattle.m3_text.specs.declared.refusal.Why.TheVariants as why
use Rattle.m3_text.specs.Refusable.{◌>>=◌}
use Rattle.m3_text.specs.Number.{number}
use Rattle.m3_text.specs.LineForm.{word, form_test}

-- ---- the words of each form after its first, where an empty one stands for any word

unfoldable pub recv_form : List (List ℕ)
recv_form = [] ∷ [] ∷ codes "slots" ∷ [] ∷ codes "size" ∷ [] ∷ []

unfoldable pub send_form : List (List ℕ)
send_form = [] ∷ [] ∷ codes "of" ∷ [] ∷ codes "label" ∷ [] ∷ codes "credits" ∷ [] ∷ []

unfoldable pub range_form : List (List ℕ)
range_form = [] ∷ [] ∷ codes "at" ∷ [] ∷ codes "len" ∷ [] ∷ codes "perm" ∷ [] ∷ []

unfoldable pub part_form : List (List ℕ)
part_form = [] ∷ [] ∷ codes "of" ∷ [] ∷ codes "at" ∷ [] ∷ codes "len" ∷ [] ∷ codes "perm" ∷ [] ∷ []

-- ---- the forms

unfoldable pub perm_of : List ℕ → Result Perm Why
perm_of w =
    if bytes_eq w (codes "r") then Ok Perm.R
    else if bytes_eq w (codes "w") then Ok Perm.W
    else if bytes_eq w (codes "rw") then Ok Perm.Rw
    else Err why.Form

unfoldable pub recv_of : List (List ℕ) → Result GrantLine Why
recv_of ws = do
  form ← form_test recv_form ws
  act ← number 0 63 (word 0 ws)
  ep ← number 0 15 (word 1 ws)
  slots ← number 1 32 (word 3 ws)
  size ← number 1 512 (word 5 ws)
  Ok (GrantLine.Recv act ep slots size)

unfoldable pub send_of : List (List ℕ) → Result GrantLine Why
send_of ws = do
  form ← form_test send_form ws
  act ← number 0 63 (word 0 ws)
  ep ← number 0 15 (word 1 ws)
  of ← number 1 4096 (word 3 ws)
  label ← number 0 18446744073709551615 (word 5 ws)
  credits ← number 1 32 (word 7 ws)
  Ok (GrantLine.Send act ep of label credits)

-- the permission comes first: its form is told before a number of the line
unfoldable pub range_of : List (List ℕ) → Result GrantLine Why
range_of ws = do
  form ← form_test range_form ws
  perm ← perm_of (word 7 ws)
  act ← number 0 63 (word 0 ws)
  ep ← number 0 15 (word 1 ws)
  at ← number 0 4294967295 (word 3 ws)
  len ← number 1 4294967295 (word 5 ws)
  Ok (GrantLine.Range act ep at len perm)

unfoldable pub part_of : List (List ℕ) → Result GrantLine Why
part_of ws = do
  form ← form_test part_form ws
  perm ← perm_of (word 9 ws)
  act ← number 0 63 (word 0 ws)
  ep ← number 0 15 (word 1 ws)
  of ← number 1 4096 (word 3 ws)
  at ← number 0 4294967295 (word 5 ws)
  len ← number 1 4294967295 (word 7 ws)
  Ok (GrantLine.Part act ep of at len perm)

unfoldable pub grant_of : List (List ℕ) → Result GrantLine Why
grant_of ws =
    if bytes_eq (word 0 ws) (codes "recv") then recv_of (drop 1 ws)
    else if bytes_eq (word 0 ws) (codes "send") then send_of (drop 1 ws)
    else if bytes_eq (word 0 ws) (codes "range") then range_of (drop 1 ws)
    else if bytes_eq (word 0 ws) (codes "part") then part_of (drop 1 ws)
    else Err why.Form
