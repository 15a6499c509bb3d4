-- The least activity that can be tended, one seat after the other.
use Rattle.std.proofs.Common.{◌≡◌, ℕ, ◌+◌, ◌<◌, ◌≤◌, true, false, List, ◌∷◌, length, drop, get_or, Option, Some, None, refl, sym, ap, ◌∙◌, arith}
use Rattle.std.specs.Prelude.{if◌then◌else◌}
use Rattle.std.proofs.lemmas.Bool.Decides.{nat_tests}
use Rattle.std.proofs.lemmas.List.{drop_more, drop_all}
use Rattle.m3_base.specs.Placement.Driver.{least_of}
use Rattle.m3_model.specs.Kernel.State.{ActivityEntry}
use Rattle.m3_kernel.specs.declared.seat.Seat.{Seat as CodeSeat}
use Rattle.m3_kernel.specs.ActivityView.{seat_value, seats_of}
use Rattle.m3_model.specs.Kernel.Driver.{can_tend, least_tend}

-- the least so far, with what is left
abbrev pub with_left : Option ℕ → Option ℕ → Option ℕ
with_left None o = o
with_left (Some a) o = Some (least_of o a)

least_both : (o : Option ℕ) (a x : ℕ) → least_of (Some (least_of o x)) a ≡ least_of o (least_of (Some a) x)
least_both None a x = grind (arith, nat_tests)
least_both (Some b) a x = grind (arith, nat_tests)

one_seat : (least : Option ℕ) (x : ActivityEntry) (o : Option ℕ) → can_tend x ≡ true → with_left least (if can_tend x then Some (least_of o x.act) else o) ≡ with_left (Some (least_of least x.act)) o
one_seat least x o e = ap (λ b. with_left least (if b then Some (least_of o x.act) else o)) e ∙ by_least least
  where
    by_least : (l : Option ℕ) → with_left l (Some (least_of o x.act)) ≡ Some (least_of o (least_of l x.act))
    by_least None = refl
    by_least (Some a) = ap (λ n. Some n) (least_both o a x.act)

no_seat : (least : Option ℕ) (x : ActivityEntry) (o : Option ℕ) → can_tend x ≡ false → with_left least (if can_tend x then Some (least_of o x.act) else o) ≡ with_left least o
no_seat least x o e = ap (λ b. with_left least (if b then Some (least_of o x.act) else o)) e

module _ (seats : List CodeSeat) (i : ℕ) (y : CodeSeat) (within : i < length seats) (is : y ≡ get_or seats i y) where
  next_seat : seats_of (drop i seats) ≡ seat_value y ∷ seats_of (drop (i + 1) seats)
  next_seat = ap seats_of (drop_more seats i y within) ∙ ap (λ z. seat_value z ∷ seats_of (drop (i + 1) seats)) (sym is)

  pub tended : (least : Option ℕ) (all : Option ℕ) → can_tend (seat_value y) ≡ true → all ≡ with_left least (least_tend (seats_of (drop i seats))) → all ≡ with_left (Some (least_of least y.act)) (least_tend (seats_of (drop (i + 1) seats)))
  tended least all e inv = inv ∙ ap (λ xs. with_left least (least_tend xs)) next_seat ∙ one_seat least (seat_value y) (least_tend (seats_of (drop (i + 1) seats))) e

  pub passed_by : (least : Option ℕ) (all : Option ℕ) → can_tend (seat_value y) ≡ false → all ≡ with_left least (least_tend (seats_of (drop i seats))) → all ≡ with_left least (least_tend (seats_of (drop (i + 1) seats)))
  passed_by least all e inv = inv ∙ ap (λ xs. with_left least (least_tend xs)) next_seat ∙ no_seat least (seat_value y) (least_tend (seats_of (drop (i + 1) seats))) e

pub all_seen : (seats : List CodeSeat) (i : ℕ) (least all : Option ℕ) → length seats ≤ i → all ≡ with_left least (least_tend (seats_of (drop i seats))) → least ≡ all
all_seen seats i least all past inv = sym (inv ∙ ap (λ xs. with_left least (least_tend (seats_of xs))) (drop_all i seats past) ∙ by_least least)
  where
    by_least : (l : Option ℕ) → with_left l None ≡ l
    by_least None = refl
    by_least (Some a) = refl
