-- The digits of a number in decimal, put one after the other.
use Rattle.std.proofs.Common.{◌≡◌, ℕ, ◌+◌, ◌/◌, ◌%◌, ◌^◌, ◌<◌, ◌≤◌, List, [], ◌∷◌, ◌++◌, sym, ap, ◌∙◌, append_assoc, arith}
use Rattle.std.specs.Prelude.{decimal}
use Rattle.std.proofs.lemmas.Fmt.{decimal_digit, decimal_step}

pub one_figure : (old : List ℕ) (n : ℕ) → n < 10 → old ++ decimal n ≡ old ++ (48 + n) ∷ []
one_figure old n lt = ap (λ (ds : List ℕ). old ++ ds) (decimal_digit n lt)

-- the last digit is put behind the others
pub last_figure : (old mid new : List ℕ) (n : ℕ) → 10 ≤ n → n < 2 ^ 64 → mid ≡ old ++ decimal (n / 10) → new ≡ mid ++ (48 + n % 10) ∷ [] → new ≡ old ++ decimal n
last_figure old mid new n some fits first then =
    then ∙ ap (λ (ds : List ℕ). ds ++ (48 + n % 10) ∷ []) first ∙ append_assoc old (decimal (n / 10)) ((48 + n % 10) ∷ [])
    ∙ sym (ap (λ (ds : List ℕ). old ++ ds) (decimal_step n some fits))

pub two_figures : (old mid new : List ℕ) (n : ℕ) → 10 ≤ n → n < 100 → mid ≡ old ++ (48 + n / 10) ∷ [] → new ≡ mid ++ (48 + n % 10) ∷ [] → new ≡ old ++ decimal n
two_figures old mid new n some two first then =
    last_figure old mid new n some (omega arith) (first ∙ sym (one_figure old (n / 10) (omega arith))) then
