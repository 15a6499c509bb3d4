-- Results of readings.
use Rattle.std.proofs.Common.{◌≡◌, ℕ, Result, Ok, Err, refl, ap, inl, inr, ◌⊎◌}
use Rattle.m3_wire.specs.ByteReader.{Fault, Bad, ◌>>=◌}

abbrev pub ok : {A : Type 0} → A → Result A Fault
ok x = Ok x

abbrev pub err : (A : Type 0) → Fault → Result A Fault
err A d = Err d

pub ok_same : {A : Type 0} (x y : A) → ok x ≡ ok y → x ≡ y
ok_same x y g = cc

pub err_same : (A : Type 0) (c d : Fault) → err A c ≡ err A d → c ≡ d
err_same A c d e = cc

pub left_same : (A : Type 0) (k l : ℕ) → err A (Bad k) ≡ err A (Bad l) → k ≡ l
left_same A k l e = cc

pub ok_or_err : {A : Type 0} (r : Result A Fault) (x : A) (d : Fault) → r ≡ Ok x → r ≡ Err d → ⊥
ok_or_err r x d e f = cc

pub bind_ok : {A B : Type 0} (r : Result A Fault) (f : A → Result B Fault) (y : B) → (r >>= f) ≡ Ok y → (x : A) × (r ≡ Ok x) × (f x ≡ Ok y)
bind_ok (Ok x) f y e = (x, refl, e)
bind_ok (Err d) f y e = absurd cc

pub bind_err : {A B : Type 0} (r : Result A Fault) (f : A → Result B Fault) (d : Fault) → (r >>= f) ≡ Err d → (r ≡ Err d) ⊎ ((x : A) × (r ≡ Ok x) × (f x ≡ Err d))
bind_err (Ok x) f d e = inr (x, refl, e)
bind_err {A} {B} (Err c) f d e = inl (ap (err A) (err_same B c d e))
