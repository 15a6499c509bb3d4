-- A round more.
use Rattle.std.proofs.Common.{◌≡◌, ℕ, zero, suc, ◌+◌, List, ◌++◌, append_assoc, append-nil, ap, sym, ◌∙◌, arith}
use Rattle.std.specs.List.{flat_map, range_with_len}
use Rattle.m3_base.specs.declared.setup_line.SetupLine.{SetupLine}
use Rattle.m3_base.specs.Load.Setup.{rounds}

more : (round : ℕ → List SetupLine) (a n b : ℕ) → a + n ≡ b → flat_map round (range_with_len a (suc n)) ≡ flat_map round (range_with_len a n) ++ round b
more round a zero b e = let same : a ≡ b = omega (arith, e) in append-nil (round a) ∙ ap round same
more round a (suc n) b e =
    ap (λ l. round a ++ l) (more round (a + 1) n b (omega (arith, e))) ∙ sym (append_assoc (round a) (flat_map round (range_with_len (a + 1) n)) (round b))

rounds_more : (round : ℕ → ℕ → List SetupLine) (n a : ℕ) → rounds round (n + 1) a ≡ rounds round n a ++ round a n
rounds_more round n a = let on : n + 1 ≡ suc n = omega arith in ap (λ k. rounds round k a) on ∙ more (round a) 0 n n (omega arith)

pub one_more : (round : ℕ → ℕ → List SetupLine) (n a : ℕ) (first now next : List SetupLine) → now ≡ first ++ rounds round n a → next ≡ now ++ round a n → next ≡ first ++ rounds round (n + 1) a
one_more round n a first now next is added =
    added ∙ ap (λ l. l ++ round a n) is ∙ append_assoc first (rounds round n a) (round a n) ∙ ap (λ l. first ++ l) (sym (rounds_more round n a))
