-- A payload that is lent for writing ends with the bytes that are left behind, as many as there were.
use Rattle.std.specs.Prelude.{ℕ, List, ◌++◌, take, drop, length}
use Rattle.std.specs.Borrow.{Lends, MutBor, Fml, Array, u8}
use Rattle.m3_base.specs.contracts.payload.Payload.{the_row}

-- the old bytes with these over them from the front on
abbrev pub over : List ℕ → List ℕ → List ℕ
over old bytes = take (length old) (bytes ++ drop (length bytes) old)

abbrev pub lends_bytes : MutBor (List ℕ) → MutBor (List ℕ) → Fml
lends_bytes s r = Lends the_row (Array u8 0) s r (over s.now)
