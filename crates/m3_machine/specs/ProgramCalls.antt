-- What the programs of a machine were called, and what they mean after it.
use Rattle.std.specs.Prelude.{◌≡◌, ◌↔◌, ℕ, List, [], length, map, slice_index_or, is_some, option_map, Option, Some, None}
use Rattle.m3_base.specs.declared.program.Move.{Move}
use Rattle.m3_base.specs.declared.program.Seen.{Seen}
use Rattle.m3_base.specs.Calls.JournalCalls.{Call}
use Rattle.m3_base.specs.Calls.Relation.{Leads}
use Rattle.m3_model.specs.Config.Site.{Site, has_program}

-- each activity that has a program has one here, by its number
abbrev pub HasPrograms : {P : Type 0} → Site → List (Option P) → Type 0
HasPrograms h table = (a : ℕ) → is_some (slice_index_or table a None) ≡ has_program h a

module _ {P : Type 0} (moves : P → List ℕ → Seen → Move → List ℕ → Type 0) where
  -- calls of an activity's program, which moves by the relation of the one at opening
  abbrev pub IsCalled : Option P → Option (List ℕ) → List Call → Option (List ℕ) → Type 0
  IsCalled None old cs new = new ≡ old
  IsCalled (Some p) (Some m) cs (Some n) = Leads (moves p) m cs n
  IsCalled (Some p) old cs new = ⊥

  -- of each activity
  abbrev pub AreCalled : List (Option P) → List (Option (List ℕ)) → (ℕ → List Call) → List (Option (List ℕ)) → Type 0
  AreCalled initial old calls new =
      (a : ℕ) → IsCalled (slice_index_or initial a None) (slice_index_or old a None) (calls a) (slice_index_or new a None)

  -- both have the same moves
  abbrev pub IsAlike : P → P → Type 0
  IsAlike p q = (a : List ℕ) (s : Seen) (m : Move) (b : List ℕ) → moves q a s m b ↔ moves p a s m b

  abbrev pub IsAlikeWhere : Option P → Option P → Type 0
  IsAlikeWhere None None = Unit {0}
  IsAlikeWhere (Some p) (Some q) = IsAlike p q
  IsAlikeWhere p q = ⊥

  -- each is alike the one at opening
  abbrev pub AreAlike : List (Option P) → List (Option P) → Type 0
  AreAlike initial programs = (a : ℕ) → IsAlikeWhere (slice_index_or initial a None) (slice_index_or programs a None)

-- what they mean
abbrev pub meanings_of : {P : Type 0} → (P → List ℕ) → List (Option P) → List (Option (List ℕ))
meanings_of meaning table = map (option_map meaning) table
