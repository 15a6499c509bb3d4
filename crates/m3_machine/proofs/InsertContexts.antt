-- Contexts are entered one after the other.
use Rattle.std.proofs.Common.{◌≡◌, ℕ, zero, suc, replicate, None, ◌∙◌, List, [], ◌∷◌, ◌++◌, Option, refl, sym, ap}
use Rattle.std.specs.Borrow.{Bor}
use Rattle.std.specs.Prelude.{Some, if◌then◌else◌}
use Rattle.m3_base.specs.Ideal.Context.{Context}
use Rattle.m3_base.specs.Ideal.State.{same_act}
use Rattle.m3_machine.specs.CreditCounts.{last_of, listed, Enters, EntersWhole}

pub last_both : (o : Option Context) (a : ℕ) (xs ys : List Context) → last_of o a (xs ++ ys) ≡ last_of (last_of o a xs) a ys
last_both o a [] ys = refl
last_both o a (c ∷ xs) ys = last_both (if same_act a c.act then Some c else o) a xs ys

pub enters_none : (old : List (Option (Bor Context))) → Enters [] old old
enters_none old = record { size = refl; found = λ a. refl }

pub enters_both : (xs ys : List Context) (a b c : List (Option (Bor Context))) → Enters xs a b → Enters ys b c → Enters (xs ++ ys) a c
enters_both xs ys a b c j k = record {
  size = k.size ∙ j.size;
  found = λ n. k.found n ∙ ap (λ o. last_of o n ys) (j.found n) ∙ sym (last_both (listed a n) n xs ys);
}

-- ---- into a table with a place for each

pub enters_none_whole : (old : List (Option (Bor Context))) → EntersWhole [] old old
enters_none_whole old size = enters_none old

pub enters_both_whole : (xs ys : List Context) (a b c : List (Option (Bor Context))) → EntersWhole xs a b → EntersWhole ys b c → EntersWhole (xs ++ ys) a c
enters_both_whole xs ys a b c j k size = let first = j size in enters_both xs ys a b c first (k (first.size ∙ size))

-- ---- an empty table

pub nobody_listed : (n a : ℕ) → listed (replicate n None) a ≡ None
nobody_listed zero a = refl
nobody_listed (suc n) zero = refl
nobody_listed (suc n) (suc a) = nobody_listed n a
