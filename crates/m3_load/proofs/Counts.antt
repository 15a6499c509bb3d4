-- A summary counts an entry more.
use Rattle.std.proofs.Common.{◌≡◌, ℕ, suc, ◌+◌, ◌<◌, ◌≤◌, Bool, true, false, List, [], ◌∷◌, ◌++◌, length, length-append, get_or, take, refl, ap, sym, ◌∙◌, arith}
use Rattle.std.proofs.Math.Seq.{take-suc}
use Rattle.m3_base.specs.declared.event.Said.{Said}
use Rattle.m3_base.specs.declared.event.Entry.{Entry}
use Rattle.m3_base.specs.Lists.Counting.{one}
use Rattle.m3_base.specs.Load.Summary.{is_fetch, is_bounce, is_switch, outcome_count, summary_lines}
use Rattle.m3_load.specs.SummaryLines.{lines_of, with_entry}
use Rattle.m3_load.specs.declared.summary.Summary.{Summary}

count_push : (test : Said → Bool) (es : List Entry) (e : Entry) → outcome_count test (es ++ e ∷ []) ≡ outcome_count test es + one (test e.outcome.said)
count_push test [] e = omega arith
count_push test (x ∷ xs) e = omega (arith, count_push test xs e)

pub one_at_most : (b : Bool) → one b ≤ 1
one_at_most true = omega arith
one_at_most false = omega arith

pub entry_taken : (es : List Entry) (i : ℕ) (e : Entry) → i < length es → e ≡ get_or es i e → take (i + 1) es ≡ take i es ++ e ∷ []
entry_taken es i e within is =
    let on : i + 1 ≡ suc i = omega arith in
    ap (λ n. take n es) on ∙ take-suc es i e within ∙ ap (λ x. take i es ++ x ∷ []) (sym is)

lines_with : (s : Summary) (load : ℕ) (es : List Entry) (e : Entry) → lines_of s ≡ summary_lines load es → lines_of (with_entry e s) ≡ summary_lines load (es ++ e ∷ [])
lines_with s load es e is =
    let same : s.load ≡ load = cc in
    let entries : s.entries ≡ length es = cc in
    let fetched : s.fetched ≡ outcome_count is_fetch es = cc in
    let bounced : s.bounced ≡ outcome_count is_bounce es = cc in
    let switches : s.switches ≡ outcome_count is_switch es = cc in
    rw (
      same,
      (let more : s.entries + 1 ≡ length (es ++ e ∷ []) = omega (arith, entries, length-append es (e ∷ [])) in more),
      ap (λ n. n + one (is_fetch e.outcome.said)) fetched ∙ sym (count_push is_fetch es e),
      ap (λ n. n + one (is_bounce e.outcome.said)) bounced ∙ sym (count_push is_bounce es e),
      ap (λ n. n + one (is_switch e.outcome.said)) switches ∙ sym (count_push is_switch es e),
    ) refl

pub lines_next : (s new : Summary) (load : ℕ) (es more : List Entry) (e : Entry) → lines_of s ≡ summary_lines load es → new ≡ with_entry e s → more ≡ es ++ e ∷ []
    → lines_of new ≡ summary_lines load more
lines_next s new load es more e is added grown = rw (added, grown) (lines_with s load es e is)
