-- Steps that may be refused, and what a function that makes them returns.
use Rattle.std.specs.Prelude.{◌≡◌, Result, Ok, Err, ⊤}
use Rattle.m3_text.specs.declared.refusal.Why.{Why}
use Rattle.m3_text.specs.declared.refusal.LineRefusal.{LineRefusal}

infixl 10 ◌>>=◌
abbrev pub ◌>>=◌ : {A B : Type 0} → Result A Why → (A → Result B Why) → Result B Why
(Ok x) >>= f = f x
(Err e) >>= f = Err e

-- the reading is refused for this cause, unless memory ran out
abbrev pub Fails : {Y : Type 0} → LineRefusal → Result Y Why → Type 0
Fails LineRefusal.NoMemory reading = ⊤
Fails (LineRefusal.Bad why) reading = reading ≡ Err why

-- what a function returned, seen by view, is what the reading is, unless memory ran out
abbrev pub Gives : {X Y : Type 0} → (X → Y) → Result X LineRefusal → Result Y Why → Type 0
Gives view (Ok x) reading = reading ≡ Ok (view x)
Gives view (Err e) reading = Fails e reading
