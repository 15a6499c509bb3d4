-- A journal with one entry more: what is to be seen after it, its calls, and where they lead.
use Rattle.std.proofs.Common.{◌≡◌, ℕ, List, [], ◌∷◌, ◌++◌, refl, sym, subst, ◌∙◌, ap, append_assoc, append-nil}
use Rattle.m3_base.specs.declared.event.Entry.{Entry}
use Rattle.m3_base.specs.declared.program.Move.{Move}
use Rattle.m3_base.specs.declared.program.Seen.{Seen}
use Rattle.m3_base.specs.Calls.JournalCalls.{Call, Input, call_in, calls_from, input_after_event, input_along}
use Rattle.m3_base.specs.Calls.Relation.{Leads}
use Rattle.m3_base.specs.Ideal.State.{State}
use Rattle.m3_base.specs.Journal.Entry.{next_state, state_after_entries}

pub input_more : (a : ℕ) (s : State) (i : Input) (es : List Entry) (e : Entry) → input_along a s i (es ++ e ∷ []) ≡ input_after_event a (state_after_entries s es) (input_along a s i es) e.event e.outcome
input_more a s i [] e = refl
input_more a s i (x ∷ es) e = input_more a (next_state s x) (input_after_event a s i x.event x.outcome) es e

pub calls_more : (a : ℕ) (s : State) (i : Input) (es : List Entry) (e : Entry) → calls_from a s i (es ++ e ∷ []) ≡ calls_from a s i es ++ call_in a (input_along a s i es) e.event e.outcome
calls_more a s i [] e = append-nil (call_in a i e.event e.outcome)
calls_more a s i (x ∷ es) e =
    let j = input_after_event a s i x.event x.outcome in
    ap (λ l. call_in a i x.event x.outcome ++ l) (calls_more a (next_state s x) j es e)
    ∙ sym (append_assoc (call_in a i x.event x.outcome) (calls_from a (next_state s x) j es) (call_in a (input_along a (next_state s x) j es) e.event e.outcome))

module _ {M : Type 0} (moves : M → Seen → Move → M → Type 0) where
  -- more calls lead on from where the first led
  pub leads_both : (p q r : M) (cs ds : List Call) → Leads moves p cs q → Leads moves q ds r → Leads moves p (cs ++ ds) r
  leads_both p q r [] ds same led = subst (λ x. Leads moves x ds r) (sym same) led
  leads_both p q r (c ∷ cs) ds first led = (first.0, first.1, leads_both first.0 q r cs ds first.2 led)

  -- and one call more does
  pub leads_more : (p q r : M) (cs : List Call) (c : Call) → Leads moves p cs q → moves q c.seen c.move r → Leads moves p (cs ++ c ∷ []) r
  leads_more p q r cs c led step = leads_both p q r cs (c ∷ []) led (r, step, refl)
