-- The front of a hold list is applied.
use Rattle.std.proofs.Common.{◌≡◌, ℕ, Bool, true, false, cond, List, [], ◌∷◌, Option, Some, None, refl, sym, ap, ◌∙◌, subst, arith}
use Rattle.std.specs.Prelude.{◌&&◌, not}
use Rattle.std.proofs.lemmas.Bool.Decides.{nat_tests}
use Rattle.m3_base.specs.declared.event.IdleWhy.{IdleWhy}
use Rattle.m3_base.specs.declared.packet.Packet.{Packet}
use Rattle.m3_base.specs.Ideal.Context.{Context}
use Rattle.m3_base.specs.Ideal.Arrival.{Arrival, arrive}
use Rattle.m3_base.specs.Ideal.Acceptance.{fits, arrive_fit}
use Rattle.m3_base.specs.Placement.Routing.{target}
use Rattle.m3_base.specs.Ideal.State.{same_act}
use Rattle.m3_base.proofs.KeyedList.{find-replaced_other}
use Rattle.m3_model.specs.Config.Site.{Site, tile_of, has_program}
use Rattle.m3_model.specs.Kernel.State.{SavedActivity, EntryResidency, Is_placed, Is_leaving, Is_resting, Is_coming, ActivityEntry, Kernel}
use Rattle.m3_model.specs.LocalStep.{LocalResult, idle_result}
use Rattle.m3_model.specs.Kernel.Step.{entry_act, entry_of, entry_for, with_entry, join_ready, route, route_to, answer_routed, after_tend, tend_arrived, arrived_context, after_packet, tend_away, tend_front, tend_entry, tend_by, kernel_tend}
use Rattle.m3_kernel.specs.ArrivalView.{arrival_of}
use Rattle.m3_kernel.specs.ActivityView.{place_of, away_in, first_held, deliverable_at, with_saved, Delivered}
use Rattle.m3_kernel.specs.ReadyJoin.{joins_at_tend}
use Rattle.m3_kernel.specs.StepContracts.{NoBack}
use Rattle.m3_kernel.specs.declared.came.Came.{Came}
use Rattle.m3_kernel.specs.declared.seat.Place.{Place}
use Rattle.m3_kernel.proofs.HeardAnswer.{IsAnswerTo, arrive_answers}

-- the seat with this, and the rest of its hold list
abbrev pub met_seat : ActivityEntry → (SavedActivity → EntryResidency) → SavedActivity → List Packet → ActivityEntry
met_seat x w y ps = record x { seating = w y; hold = ps }

-- the kernel with this seat, and it is ready where it is to be
abbrev pub met_kernel : Site → Kernel → Bool → ActivityEntry → Kernel
met_kernel h k b z = join_ready b (tile_of h z.act) z.act (with_entry z k)

module _ (h : Site) (k : Kernel) (x : ActivityEntry) (p : Packet) (ps : List Packet) (y : SavedActivity) (w : SavedActivity → EntryResidency) (ready : Bool) where
  abbrev is_ready : Bool
  is_ready = ready && (has_program h x.act && not y.ended)

  abbrev then_kernel : Option Arrival → Kernel
  then_kernel r = met_kernel h k is_ready (met_seat x w (after_packet p (arrived_context y.context r) y) ps)

  pub away_some : (r : Arrival) → arrive_fit y.context p ≡ Some r → tend_away h k x p ps y w ready ≡ after_tend h (tile_of h x.act) r.said r.freed k (answer_routed h (met_kernel h k is_ready (met_seat x w (after_packet p r.context y) ps)) r.answer)
  away_some r e = ap (λ o. tend_arrived h k (then_kernel o) x o) e

  pub away_none : arrive_fit y.context p ≡ None → tend_away h k x p ps y w ready ≡ idle_result IdleWhy.EmptyHold k
  away_none e = ap (λ o. tend_arrived h k (then_kernel o) x o) e

-- ---- by the seat

pub placed_idle : (h : Site) (k : Kernel) (a : ℕ) (x : ActivityEntry) → entry_of a k ≡ Some x → place_of x.seating ≡ Place.Placed → kernel_tend h k a ≡ idle_result IdleWhy.NotResting k
placed_idle h k a x found e = ap (tend_by h k) found ∙ by_seating x.seating e
  where
    by_seating : (w : EntryResidency) → place_of w ≡ Place.Placed → tend_entry h k x w ≡ idle_result IdleWhy.NotResting k
    by_seating Is_placed e = refl
    by_seating Is_leaving e = refl
    by_seating (Is_resting y) e = absurd (cc)
    by_seating (Is_coming y) e = absurd (cc)

pub leaving_idle : (h : Site) (k : Kernel) (a : ℕ) (x : ActivityEntry) → entry_of a k ≡ Some x → place_of x.seating ≡ Place.Leaving → kernel_tend h k a ≡ idle_result IdleWhy.NotResting k
leaving_idle h k a x found e = ap (tend_by h k) found ∙ by_seating x.seating e
  where
    by_seating : (w : EntryResidency) → place_of w ≡ Place.Leaving → tend_entry h k x w ≡ idle_result IdleWhy.NotResting k
    by_seating Is_placed e = refl
    by_seating Is_leaving e = refl
    by_seating (Is_resting y) e = absurd (cc)
    by_seating (Is_coming y) e = absurd (cc)

pub away_if : (w : EntryResidency) → (place_of w ≡ Place.Placed → ⊥) → (place_of w ≡ Place.Leaving → ⊥) → (y : SavedActivity) × (away_in w ≡ Some y)
away_if Is_placed e f = absurd (e refl)
away_if Is_leaving e f = absurd (f refl)
away_if (Is_resting y) e f = (y, refl)
away_if (Is_coming y) e f = (y, refl)

-- where it is away, the tend is of the front, as it sits
module _ (h : Site) (k : Kernel) (x : ActivityEntry) where
  fit_by : (c : Context) (p : Packet) (b : Bool) → fits c p ≡ b → arrive_fit c p ≡ cond b (arrive c p) None
  fit_by c p b e = ap (λ t. cond t (arrive c p) None) e

  -- what fits is answered to nobody that has a seat
  module _ (found : entry_of x.act k ≡ Some x) where
    joins : (a b c : ℕ) → same_act a c ≡ true → same_act b c ≡ true → same_act a b ≡ true
    joins a b c p q = grind (arith, nat_tests)

    still_none : (a : ℕ) (z : ActivityEntry) → z.act ≡ x.act → entry_of a k ≡ None → entry_of a (with_entry z k) ≡ None
    still_none a z same none =
        find-replaced_other entry_act same_act same_act a z k.seats joins (ap (same_act a) same ∙ apart (same_act a x.act) refl) ∙ none
      where
        apart : (b : Bool) → same_act a x.act ≡ b → same_act a x.act ≡ false
        apart false d = d
        apart true d =
            let n : a ≡ x.act = grind (arith, nat_tests, d) in
            let e : None ≡ Some x = sym none ∙ ap (λ j. entry_of j k) n ∙ found in
            absurd (cc)

    answer_none : (q : Packet) (a : ℕ) (b : Bool) (z : ActivityEntry) → target q ≡ Some a → z.act ≡ x.act → entry_of a k ≡ None → route h q (met_kernel h k b z) ≡ None
    answer_none q a true z e same none = ap (λ o. route_to h q (met_kernel h k true z) (entry_for o (met_kernel h k true z))) e ∙ ap (route_to h q (met_kernel h k true z)) (still_none a z same none)
    answer_none q a false z e same none = ap (λ o. route_to h q (with_entry z k) (entry_for o (with_entry z k))) e ∙ ap (route_to h q (with_entry z k)) (still_none a z same none)

    unanswered : (p : Packet) (ps : List Packet) (y : SavedActivity) (w : SavedActivity → EntryResidency) (ready : Bool) → NoBack k p → (o : Option Arrival) → arrive_fit y.context p ≡ o → ((r : Arrival) → o ≡ Some r → arrive y.context p ≡ Some r) → tend_away h k x p ps y w ready ≡ idle_result IdleWhy.EmptyHold k
    unanswered p ps y w ready b None e arrives = away_none h k x p ps y w ready e
    unanswered p ps y w ready b (Some r) e arrives =
        let to : IsAnswerTo (Some b.aim) r.answer = subst (λ (o : Option ℕ). IsAnswerTo o r.answer) b.answers (arrive_answers y.context p r (arrives r refl)) in
        away_some h k x p ps y w ready r e
        ∙ ap (λ o. after_tend h (tile_of h x.act) r.said r.freed k (answer_routed h (met_kernel h k (ready && (has_program h x.act && not y.ended)) (met_seat x w (after_packet p r.context y) ps)) o)) to.1.0
        ∙ ap (after_tend h (tile_of h x.act) r.said r.freed k) (answer_none to.0 b.aim (ready && (has_program h x.act && not y.ended)) (met_seat x w (after_packet p r.context y) ps) to.1.1 refl b.found)

    arrives_if : (c : Context) (p : Packet) (r : Arrival) (b : Bool) → fits c p ≡ b → cond b (arrive c p) None ≡ Some r → arrive c p ≡ Some r
    arrives_if c p r true e f = f
    arrives_if c p r false e f = absurd (cc)

    unanswered_front : (y : SavedActivity) (w : SavedActivity → EntryResidency) (ready : Bool) (ps : List Packet) (p : Packet) → deliverable_at (Some y) (first_held ps) ≡ Some p → NoBack k p → tend_front h k x ps y w ready ≡ idle_result IdleWhy.EmptyHold k
    unanswered_front y w ready [] p e b = refl
    unanswered_front y w ready (q ∷ qs) p e b =
        let same : q ≡ p = fit_same (fits y.context q) e in
        unanswered q qs y w ready (subst (λ (z : Packet). NoBack k z) (sym same) b) (arrive_fit y.context q) refl (λ r f. arrives_if y.context q r (fits y.context q) refl f)
      where
        fit_same : (t : Bool) → cond t (Some q) None ≡ Some p → q ≡ p
        fit_same true f = cc
        fit_same false f = absurd (cc)

    pub unanswered_idle : (w : EntryResidency) (y : SavedActivity) (p : Packet) → away_in w ≡ Some y → deliverable_at (away_in w) (first_held x.hold) ≡ Some p → NoBack k p → tend_entry h k x w ≡ idle_result IdleWhy.EmptyHold k
    unanswered_idle Is_placed y p e f b = absurd (cc)
    unanswered_idle Is_leaving y p e f b = absurd (cc)
    unanswered_idle (Is_resting z) y p e f b = unanswered_front z Is_resting true x.hold p f b
    unanswered_idle (Is_coming z) y p e f b = unanswered_front z Is_coming false x.hold p f b

  -- what fits is applied
  module _ (z : ActivityEntry) (came : Came) (m : Delivered x z came) where
    arrived : arrive_fit m.away.context m.packet ≡ Some (arrival_of came m.context)
    arrived = fit_by m.away.context m.packet true m.fit ∙ m.arrives

    abbrev now : EntryResidency → ActivityEntry
    now w = record x { seating = with_saved w (after_packet m.packet m.context m.away); hold = m.left }

    abbrev then_step : Bool → ActivityEntry → LocalResult Kernel
    then_step b v = after_tend h (tile_of h x.act) came.said came.freed k (answer_routed h (met_kernel h k b v) came.answer)

    by_seating : (w : EntryResidency) → away_in w ≡ Some m.away → tend_entry h k x w ≡ then_step (joins_at_tend h x.act w) (now w)
    by_seating Is_placed e = absurd (cc)
    by_seating Is_leaving e = absurd (cc)
    by_seating (Is_resting y) e =
        let f : m.away ≡ y = cc in
        ap (λ ps. tend_front h k x ps y Is_resting true) m.held
        ∙ ap (λ v. tend_front h k x (m.packet ∷ m.left) v Is_resting true) (sym f)
        ∙ away_some h k x m.packet m.left m.away Is_resting true (arrival_of came m.context) arrived
        ∙ ap (λ (v : SavedActivity). then_step (has_program h x.act && not v.ended) (now (Is_resting y))) f
    by_seating (Is_coming y) e =
        let f : y ≡ m.away = cc in
        ap (λ v. tend_front h k x x.hold v Is_coming false) f ∙ ap (λ ps. tend_front h k x ps m.away Is_coming false) m.held ∙ away_some h k x m.packet m.left m.away Is_coming false (arrival_of came m.context) arrived

    pub met_step : tend_entry h k x x.seating ≡ then_step (joins_at_tend h x.act x.seating) z
    met_step = by_seating x.seating m.was ∙ ap (then_step (joins_at_tend h x.act x.seating)) (sym m.seat)
