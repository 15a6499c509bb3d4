-- Reading from left to right: a value and the bytes after it, or the first byte at which no spelling goes on.
use Rattle.std.specs.Prelude.{◌≡◌, ℕ, zero, suc, ◌+◌, ◌*◌, nat_le, nat_lt, take, drop, ◌&&◌, ◌||◌, Bool, if◌then◌else◌, List, [], ◌∷◌, length, Option, Some, None, Result, Ok, Err, ⊤}
use Rattle.m3_wire.specs.declared.refusal.ReadError.{ReadError}
pub use Rattle.m3_wire.specs.declared.refusal.Fault.{Fault}
pub use Rattle.m3_wire.specs.declared.refusal.Fault.TheVariants.{Short, Bad}

infixl 10 ◌>>=◌
abbrev pub ◌>>=◌ : {A B : Type 0} → Result A Fault → (A → Result B Fault) → Result B Fault
(Ok x) >>= f = f x
(Err e) >>= f = Err e

-- whether a number from low to high may begin with bytes that stand for p, where the next byte counts m
abbrev pub is_digit_within : ℕ → ℕ → ℕ → ℕ → Bool
is_digit_within low high p m = nat_le p high && (nat_le low p || nat_le (p + m) high)

-- j more bytes of a number of which n is read and whose next byte counts m
abbrev pub number_from : ℕ → ℕ → ℕ → ℕ → ℕ → List ℕ → Result (ℕ × List ℕ) Fault
number_from low high zero n m bytes = Ok (n, bytes)
number_from low high (suc j) n m [] = Err Short
number_from low high (suc j) n m (c ∷ bytes) =
    if is_digit_within low high (n + m * c) (256 * m) then number_from low high j (n + m * c) (256 * m) bytes else Err (Bad (suc (length bytes)))

-- a number of so many bytes, the lowest first
unfoldable pub number : ℕ → ℕ → ℕ → List ℕ → Result (ℕ × List ℕ) Fault
number width low high bytes = number_from low high width 0 1 bytes

-- one byte that stands for something
abbrev pub picked_value : {X : Type 0} → Option X → List ℕ → Result (X × List ℕ) Fault
picked_value (Some x) bytes = Ok (x, bytes)
picked_value None bytes = Err (Bad (suc (length bytes)))

unfoldable pub coded : {X : Type 0} → (ℕ → Option X) → List ℕ → Result (X × List ℕ) Fault
coded pick [] = Err Short
coded pick (c ∷ bytes) = picked_value (pick c) bytes

-- one byte that passes a test
abbrev pub byte_passing : (ℕ → Bool) → ℕ → Option ℕ
byte_passing test c = if test c then Some c else None

abbrev pub byte : (ℕ → Bool) → List ℕ → Result (ℕ × List ℕ) Fault
byte test = coded (byte_passing test)

-- n bytes as they stand
unfoldable pub some_bytes : ℕ → List ℕ → Result (List ℕ × List ℕ) Fault
some_bytes n bytes = if nat_lt (length bytes) n then Err Short else Ok (take n bytes, drop n bytes)

-- a value, and another that may depend on it
unfoldable pub pair : {X Y : Type 0} → (List ℕ → Result (X × List ℕ) Fault) → (X → List ℕ → Result (Y × List ℕ) Fault) → List ℕ → Result ((X × Y) × List ℕ) Fault
pair first second bytes = do
  x ← first bytes
  y ← second x.0 x.1
  Ok ((x.0, y.0), y.1)

-- a value made of another
unfoldable pub mapped : {X Y : Type 0} → (X → Y) → (List ℕ → Result (X × List ℕ) Fault) → List ℕ → Result (Y × List ℕ) Fault
mapped f reader bytes = do
  x ← reader bytes
  Ok (f x.0, x.1)

-- a reading gives what a function returned, and leaves these bytes
abbrev pub Gives : {X : Type 0} → Result X Fault → List ℕ → Result (X × List ℕ) Fault → Type 0
Gives (Ok x) rest reading = reading ≡ Ok (x, rest)
Gives (Err e) rest reading = reading ≡ Err e

abbrev pub Fails : {Y : Type 0} → ReadError → Result Y Fault → Type 0
Fails ReadError.NoMemory reading = ⊤
Fails (ReadError.Bad fault) reading = reading ≡ Err fault

-- the same, unless memory ran out
abbrev pub Reads : {X : Type 0} → Result X ReadError → List ℕ → Result (X × List ℕ) Fault → Type 0
Reads (Ok x) rest reading = reading ≡ Ok (x, rest)
Reads (Err e) rest reading = Fails e reading
