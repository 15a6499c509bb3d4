-- The first words of a line decide what many words are taken for.
use Rattle.std.proofs.Common.{◌≡◌, ℕ, ◌≤◌, Bool, true, false, List, length, take, refl, arith, length-take-le}
use Rattle.std.specs.Prelude.{nat_lt}
use Rattle.std.proofs.lemmas.List.{take_all}
use Rattle.std.proofs.lemmas.Bool.Decides.{nat_tests}
use Rattle.m3_journal.specs.Reading.Journals.{line_of_words}

many : (ws : List (List ℕ)) → nat_lt 21 (length ws) ≡ true → nat_lt 21 (length (take 22 ws)) ≡ true
many ws h = let long : 22 ≤ length ws = grind (arith, nat_tests, h) in rw (length-take-le 22 ws long) refl

by_few : (b : Bool) (ws : List (List ℕ)) → nat_lt 21 (length ws) ≡ b → line_of_words (take 22 ws) ≡ line_of_words ws
unfolding line_of_words
by_few true ws h = rw (many ws h, h) refl
by_few false ws h = let short : length ws ≤ 22 = grind (arith, nat_tests, h) in rw (take_all 22 ws short) refl

pub read_by_few : (ws : List (List ℕ)) → line_of_words (take 22 ws) ≡ line_of_words ws
read_by_few ws = by_few (nat_lt 21 (length ws)) ws refl
