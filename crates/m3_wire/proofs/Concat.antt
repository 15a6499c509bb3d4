-- Bytes put behind bytes, one after the other.
use Rattle.std.proofs.Common.{◌≡◌, ℕ, List, ◌++◌, Result, Ok, Err, OnOk, ap, ◌∙◌, append_assoc}

behind : {A E : Type 0} (r : Result A E) (new a b : List ℕ) → OnOk r (new ≡ a) → a ≡ b → OnOk r (new ≡ b)
behind (Ok x) new a b h e = h ∙ e
behind (Err x) new a b h e = h

pub behind2 : {A E : Type 0} (r : Result A E) (old x new a b : List ℕ) → x ≡ old ++ a → OnOk r (new ≡ x ++ b) → OnOk r (new ≡ old ++ (a ++ b))
behind2 r old x new a b e h = behind r new (x ++ b) (old ++ (a ++ b)) h (ap (λ (l : List ℕ). l ++ b) e ∙ append_assoc old a b)

pub behind3 : {A E : Type 0} (r : Result A E) (old x y new a b c : List ℕ) → x ≡ old ++ a → y ≡ x ++ b → OnOk r (new ≡ y ++ c) → OnOk r (new ≡ old ++ (a ++ (b ++ c)))
behind3 r old x y new a b c e f h = behind2 r old x new a (b ++ c) e (behind2 r x y new b c f h)

pub behind4 : {A E : Type 0} (r : Result A E) (old x y z new a b c d : List ℕ) → x ≡ old ++ a → y ≡ x ++ b → z ≡ y ++ c → OnOk r (new ≡ z ++ d) → OnOk r (new ≡ old ++ (a ++ (b ++ (c ++ d))))
behind4 r old x y z new a b c d e f g h = behind2 r old x new a (b ++ (c ++ d)) e (behind3 r x y z new b c d f g h)

-- the same where the two pieces are given by other names
pub behind2_same : {A E : Type 0} (r : Result A E) (old x new a a' b b' : List ℕ) → x ≡ old ++ a → a ≡ a' → OnOk r (new ≡ x ++ b) → b ≡ b' → OnOk r (new ≡ old ++ (a' ++ b'))
behind2_same r old x new a a' b b' e f h g = behind r new (old ++ (a ++ b)) (old ++ (a' ++ b')) (behind2 r old x new a b e h) (ap (λ (l : List ℕ). old ++ (l ++ b)) f ∙ ap (λ (l : List ℕ). old ++ (a' ++ l)) g)
