-- The parts of a line, read side by side.
use Rattle.std.proofs.Common.{◌≡◌, ℕ, zero, suc, ◌-◌, ◌<◌, List, [], ◌∷◌, ◌++◌, length, take, drop, Bor, Result, Ok, Err, refl, ap, arith, length-append, append_assoc}
use Rattle.std.proofs.lemmas.List.{take_all, map-append}
use Rattle.m3_text.specs.Lines.{texts}
use Rattle.m3_text.specs.declared.refusal.Why.{Why}
use Rattle.m3_text.specs.declared.refusal.LineRefusal.{LineRefusal}
use Rattle.m3_text.specs.declared.refusal.LineRefusal.TheVariants as refusals
use Rattle.m3_text.specs.Refusable.{Gives}
use Rattle.m3_text.specs.CauseOrder.{both, both_causes}

-- two parts that give what they read give it together
pub gives_both : {A B C D : Type 0} (va : A → C) (vb : B → D) (a : Result A LineRefusal) (b : Result B LineRefusal) (ra : Result C Why) (rb : Result D Why)
    → Gives va a ra → Gives vb b rb → Gives (λ x. (va x.0, vb x.1)) (both_causes a b) (both ra rb)
gives_both va vb (Ok a) (Ok b) ra rb p q = rw (p, q) refl
gives_both va vb (Ok a) (Err refusals.NoMemory) ra rb p q = tt
gives_both va vb (Ok a) (Err (refusals.Bad e)) ra rb p q = rw (p, q) refl
gives_both va vb (Err refusals.NoMemory) b ra rb p q = tt
gives_both va vb (Err (refusals.Bad d)) (Ok b) ra rb p q = rw (p, q) refl
gives_both va vb (Err (refusals.Bad d)) (Err refusals.NoMemory) ra rb p q = tt
gives_both va vb (Err (refusals.Bad d)) (Err (refusals.Bad e)) ra rb p q = rw (p, q) refl

pub texts_after : (ws : List (Bor (List ℕ))) (k : ℕ) → texts (take (length ws - k) (drop k ws)) ≡ drop k (texts ws)
texts_after ws zero = ap texts (take_all (length ws - 0) ws (omega arith))
texts_after [] (suc k) = let e : 0 - suc k ≡ 0 = omega arith in rw e refl
texts_after (w ∷ ws) (suc k) = let e : length (w ∷ ws) - suc k ≡ length ws - k = omega arith in rw e (texts_after ws k)

-- one word more is cut, where there is room for it
pub more_words : (most : ℕ) (fs gs : List (Bor (List ℕ))) (w : Bor (List ℕ)) (rest more all : List (List ℕ)) → length fs < most → gs ≡ fs ++ w ∷ []
    → rest ≡ w.now ∷ more → texts fs ++ take (most - length fs) rest ≡ all → texts gs ++ take (most - length gs) more ≡ all
more_words most fs gs w rest more all room is cut so_far =
    let len : most - length fs ≡ suc (most - length gs) = omega (arith, ap length is, length-append fs (w ∷ [])) in
    let before : texts fs ++ w.now ∷ take (most - length gs) more ≡ all = rw (len, cut) at so_far in
    let joined_texts : texts gs ≡ texts fs ++ w.now ∷ [] = rw (is, map-append) refl in
    rw (joined_texts, append_assoc) before
