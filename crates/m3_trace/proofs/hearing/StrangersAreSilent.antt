-- An activity that the setup doesn't declare has no call: no part makes a turn of it.
use Rattle.std.proofs.Common.{◌≡◌, ℕ, Bool, true, false, List, [], ◌∷◌, ◌++◌, Option, Some, None, refl, sym, subst, ◌∙◌, ap, arith}
use Rattle.std.specs.Prelude.{◌==◌, is_some, if◌then◌else◌}
use Rattle.std.proofs.lemmas.Bool.Decides.{nat_tests}
use Rattle.m3_base.specs.declared.event.Entry.{Entry}
use Rattle.m3_base.specs.declared.event.Event.{Event}
use Rattle.m3_base.specs.declared.event.Made.{Made}
use Rattle.m3_base.specs.declared.event.Outcome.{Outcome}
use Rattle.m3_base.specs.declared.program.Seen as program
use Rattle.m3_base.specs.Calls.JournalCalls.{Input, Known, all_calls, call_in, call_of_turn, last_input}
use Rattle.m3_base.specs.Ideal.State.{State}
use Rattle.m3_model.specs.Config.KnownActivities.{is_home}
use Rattle.m3_model.specs.Config.Site.{Home, Site, home_of, tile_in}
use Rattle.m3_model.specs.Machine.{Machine, MachineResult, done_by, machine_step, part_at, part_step}
use Rattle.m3_trace.specs.JournalEntry.{entry}
use Rattle.m3_trace.proofs.hearing.JournalGrows.{calls_more}

no_home : (o : Option Home) → is_some o ≡ false → tile_in o ≡ 0
no_home None e = refl
no_home (Some y) e = absurd (cc)

module _ (h : Site) (m : Machine) (a : ℕ) (stranger : is_home h a ≡ false) where
  no_turn : (made : Option Made) (d : MachineResult) → machine_step h m (Event.Turn a) made ≡ Some d → ⊥
  no_turn made d is =
      let none : None ≡ Some d = sym (ap (λ t. done_by t m (part_step h (part_at t m) (Event.Turn a) made None)) (no_home (home_of a h) stranger)) ∙ is in
      absurd (cc)

  no_call_in : (i : Input) (e : Event) (made : Option Made) (d : MachineResult) → machine_step h m e made ≡ Some d → call_in a i e d.outcome ≡ []
  no_call_in i (Event.Do b c) made d is = refl
  no_call_in i (Event.Turn b) made d is = by_act (b == a) refl
    where
      by_act : (c : Bool) → (b == a) ≡ c → (if c then call_of_turn i d.outcome.made else []) ≡ []
      by_act true e = absurd (no_turn made d (subst (λ n. machine_step h m (Event.Turn n) made ≡ Some d) (let z : b ≡ a = grind (arith, nat_tests, e) in z) is))
      by_act false e = refl
  no_call_in i (Event.Take to from) made d is = refl
  no_call_in i (Event.Tend b) made d is = refl
  no_call_in i Event.Close made d is = refl
  no_call_in i (Event.Order o) made d is = refl
  no_call_in i (Event.File l) made d is = refl

  -- none before, and none in one entry more
  pub silent_after : (s : State) (entries : List Entry) → all_calls a s entries ≡ [] → (e : Event) (made : Option Made) (o : Outcome) (next : Machine) → machine_step h m e made ≡ Some (record { outcome = o; machine = next }) → all_calls a s (entries ++ entry e o ∷ []) ≡ []
  silent_after s entries none e made o next step =
      calls_more a s (Known program.Seen.First) entries (entry e o)
      ∙ ap (λ l. l ++ call_in a (last_input a s entries) e o) none
      ∙ no_call_in (last_input a s entries) e made (record { outcome = o; machine = next }) step
