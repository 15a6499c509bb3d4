-- The first words of a line decide what many words are taken for.
use Rattle.std.proofs.Common.{◌≡◌, ℕ, ◌≤◌, Bool, true, false, List, [], ◌∷◌, length, take, refl, arith, length-take-le}
use Rattle.std.specs.Prelude.{nat_lt}
use Rattle.std.proofs.lemmas.List.{take_all}
use Rattle.std.proofs.lemmas.Bool.Decides.{nat_tests}
use Rattle.m3_script.specs.declared.script.Mode.{Mode}
use Rattle.m3_script.specs.ScriptText.{State, is_skipped, words_of_line}

pub skipped_by_few : (ws : List (List ℕ)) → is_skipped (take 14 ws) ≡ is_skipped ws
skipped_by_few [] = refl
skipped_by_few (w ∷ ws) = refl

many : (ws : List (List ℕ)) → nat_lt 13 (length ws) ≡ true → nat_lt 13 (length (take 14 ws)) ≡ true
many ws h = let long : 14 ≤ length ws = grind (arith, nat_tests, h) in rw (length-take-le 14 ws long) refl

by_few : (b : Bool) (mode : Mode) (boxes : ℕ) (s : State) (ws : List (List ℕ)) → nat_lt 13 (length ws) ≡ b
    → words_of_line mode boxes s (take 14 ws) ≡ words_of_line mode boxes s ws
unfolding words_of_line
by_few true mode boxes s ws h = rw (many ws h, h) refl
by_few false mode boxes s ws h = let short : length ws ≤ 14 = grind (arith, nat_tests, h) in rw (take_all 14 ws short) refl

pub taken_by_few : (mode : Mode) (boxes : ℕ) (s : State) (ws : List (List ℕ)) → words_of_line mode boxes s (take 14 ws) ≡ words_of_line mode boxes s ws
taken_by_few mode boxes s ws = by_few (nat_lt 13 (length ws)) mode boxes s ws refl
