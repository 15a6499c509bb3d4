-- The lines on credits, one more at a time, and by counts that are the same.
use Rattle.std.proofs.Common.{◌≡◌, ℕ, zero, suc, ◌+◌, ◌-◌, ◌<◌, ◌≤◌, ◌∙◌, Bool, true, false, List, [], ◌∷◌, ◌++◌, length, drop, get_or, min, slice_get, Option, Some, None, option_to_list, refl, sym, ap, append_assoc, append-nil, arith}
use Rattle.std.specs.Prelude.{if◌then◌else◌}
use Rattle.std.proofs.Math.ListN.{drop_of_length-le}
use Rattle.std.proofs.lemmas.Bool.Decides.{nat_tests}
use Rattle.m3_base.specs.declared.journal.AuditLine.{AuditLine}
use Rattle.m3_base.specs.declared.packet.Fresh.{Fresh}
use Rattle.m3_base.specs.declared.packet.Packet.{Packet}
use Rattle.m3_base.specs.Ideal.Context.{Context}
use Rattle.m3_base.specs.Ideal.State.{Grant, grant_in, is_live}
use Rattle.m3_endpoint.specs.Counters.{most}
use Rattle.m3_machine.specs.CreditCounts.{last_of, held, flying, queued}
use Rattle.m3_machine.specs.declared.credit_counts.CreditCounts.{CreditCounts}
use Rattle.m3_machine.specs.AuditView.{credit_line, live_lines_from, live_line, counts_lines, live_lines, AreCreditsOf}

-- ---- one grant more

-- the tail from the place i on, whose first grant has the number g
tail_more : (t : CreditCounts) (gs : List Grant) (i g : ℕ) → counts_lines t g (drop i gs) ≡ live_line t g (slice_get gs i) ++ counts_lines t (g + 1) (drop (suc i) gs)
tail_more t [] zero g = refl
tail_more t [] (suc i) g = sym (ap (counts_lines t (g + 1)) (drop_of_length-le {A = Grant} [] (let le : 0 ≤ suc (suc i) = omega arith in le)))
tail_more t (x ∷ gs) zero g = refl
tail_more t (x ∷ gs) (suc i) g = tail_more t gs i g

pub lines_more : (t : CreditCounts) (gs : List Grant) (g : ℕ) → 1 ≤ g → counts_lines t g (drop (g - 1) gs) ≡ live_line t g (grant_in gs g) ++ counts_lines t (g + 1) (drop (g + 1 - 1) gs)
lines_more t gs zero le = absurd (omega arith)
lines_more t gs (suc i) le =
    let at : slice_get gs i ≡ grant_in gs (suc i) = grind (arith, nat_tests) in
    let here : suc i - 1 ≡ i = omega arith in
    let next : suc i ≡ suc i + 1 - 1 = omega arith in
    ap (λ n. counts_lines t (suc i) (drop n gs)) here
    ∙ tail_more t gs i (suc i)
    ∙ ap (λ o. live_line t (suc i) o ++ counts_lines t (suc i + 1) (drop (suc i) gs)) at
    ∙ ap (λ n. live_line t (suc i) (grant_in gs (suc i)) ++ counts_lines t (suc i + 1) (drop n gs)) next

pub line_joined : (all new old tail next line : List AuditLine) → all ≡ old ++ tail → tail ≡ line ++ next → new ≡ old ++ line → all ≡ new ++ next
line_joined all new old tail next line e f g = e ∙ ap (λ l. old ++ l) f ∙ sym (append_assoc old line next) ∙ ap (λ l. l ++ next) (sym g)

pub no_line : {X : Type 0} (o : Option X) → ((x : X) → o ≡ Some x → ⊥) → option_to_list o ≡ []
no_line None other = refl
no_line (Some x) other = absurd (other x refl)

-- ---- the same counts

module _ (h f q k e p : ℕ → ℕ) (most : ℕ) (held : (g : ℕ) → g < most → h g ≡ k g) (flying : (g : ℕ) → g < most → f g ≡ e g) (queued : (g : ℕ) → g < most → q g ≡ p g) where
  line_same : (g : ℕ) (x : Fresh) → g < most → credit_line h f q g x ≡ credit_line k e p g x
  line_same g (Fresh.Send n to to_ep to_grant label size limit) low = λ i. AuditLine.Credit g (held g low i) (flying g low i) (queued g low i) limit ∷ []
  line_same g (Fresh.Receive n slots size) low = refl
  line_same g (Fresh.Memory n start len perm) low = refl

  live_same : (b : Bool) (g : ℕ) (x : Fresh) → g < most → (if b then credit_line h f q g x else []) ≡ (if b then credit_line k e p g x else [])
  live_same true g x low = line_same g x low
  live_same false g x low = refl

  pub lines_same : (gs : List Grant) (g : ℕ) → g + length gs ≤ most → live_lines_from h f q g gs ≡ live_lines_from k e p g gs
  lines_same [] g low = refl
  lines_same (x ∷ gs) g low = λ i. live_same (is_live x.standing) g x.fresh (omega arith) i ++ lines_same gs (g + 1) (omega arith) i

-- ---- all lines

pub counts_are : (t : CreditCounts) (cs : List Context) (ps : List Packet) (gs : List Grant) → AreCreditsOf cs ps t → length gs ≤ 4096 → counts_lines t 1 gs ≡ live_lines cs ps gs
counts_are t cs ps gs is few =
    lines_same (λ g. get_or t.held.items g 0) (λ g. get_or t.flying.items g 0) (λ g. get_or t.queued.items g 0)
    (λ g. min most (held g cs ps)) (λ g. min most (flying g (λ a. last_of None a cs) ps)) (λ g. min most (queued g cs)) 4097
    is.held_are.same is.flying_are.same is.queued_are.same gs 1 (omega arith)

pub lines_end : (t : CreditCounts) (gs : List Grant) (n : ℕ) → length gs < n → (lines : List AuditLine) → lines ++ counts_lines t n (drop (n - 1) gs) ≡ lines
lines_end t gs n past lines = ap (λ xs. lines ++ counts_lines t n xs) (drop_of_length-le gs (let le : length gs ≤ n - 1 = omega arith in le)) ∙ append-nil lines
