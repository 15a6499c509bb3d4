-- The lines that close the journal of a kept machine are those that the ideal state and the places have.
use Rattle.std.proofs.Common.{◌≡◌, ℕ, zero, suc, ◌+◌, ◌≤◌, ◌∙◌, Bool, true, false, min, List, [], ◌∷◌, ◌++◌, length, slice_get, Option, Some, None, is_none, refl, sym, ap, subst, arith}
use Rattle.std.specs.Prelude.{not, ◌&&◌, if◌then◌else◌}
use Rattle.std.proofs.lemmas.Bool.Decides.{nat_tests}
use Rattle.m3_base.specs.declared.journal.AuditLine.{AuditLine}
use Rattle.m3_base.specs.declared.event.Event.{Event}
use Rattle.m3_base.specs.declared.order.Order.{Order}
use Rattle.m3_base.specs.declared.packet.Fresh.{Fresh}
use Rattle.m3_base.specs.declared.packet.Packet.{Packet}
use Rattle.m3_base.specs.Ideal.Context.{Context}
use Rattle.m3_base.specs.Journal.Audit.{audit_lines}
use Rattle.m3_base.specs.Placement.Driver as driver
use Rattle.m3_base.specs.Ideal.Credits as ideal
use Rattle.m3_base.specs.Ideal.Credits.{credits}
use Rattle.m3_base.specs.Ideal.Acceptance.{is_form}
use Rattle.m3_base.specs.Journal.Legal as legal
use Rattle.m3_base.specs.Journal.Legal.{flights_lines}
use Rattle.m3_base.specs.Ideal.State.{State, Standing, Live, Closing, Closed, Done, Grant, grant_in, is_live, is_done, is_open}
use Rattle.m3_endpoint.specs.Counters.{most}
use Rattle.m3_laws.specs.Laws.{limit_of}
use Rattle.m3_laws.specs.GrantInvariant.{CreditsLawful}
use Rattle.m3_base.specs.Lists.EachElement.{Each}
use Rattle.m3_model.specs.Kernel.Step.{is_under_close}
use Rattle.m3_model.specs.Config.Site.{Site}
use Rattle.m3_model.specs.Machine.{Machine}
use Rattle.m3_model.specs.Abstraction.{ideal_of, placement_of, all_contexts, all_packets, all_closed, is_in, closed_if, closed_from}
use Rattle.m3_machine.specs.AuditView.{credit_line, live_lines_from, live_lines, held_count, flying_count, queued_count}
use Rattle.m3_model.specs.ShutGrants.{SentAreShut}
use Rattle.m3_trace.specs.Invariant.{MachineInvariant}
use Rattle.m3_trace.specs.DriverOfMachine.{tile_lines}
use Rattle.m3_model.specs.Invariant.Structure.{CloseWasSent}
use Rattle.m3_machine.specs.CreditCounts.{last_of, held, flying, queued}
use Rattle.m3_machine.proofs.CreditsAreIdeal.{held_is, queued_is, flying_is}
use Rattle.m3_trace.proofs.CountFlights.{length_by_name}
use Rattle.m3_trace.proofs.DriverTake.{tile_lines_are}
use Rattle.m3_refine.proofs.events.take.KernelTakesClosed.{get_closed}

-- ---- credits are few

form_limit : (f : Fresh) → is_form f ≡ true → limit_of f ≤ 32
form_limit (Fresh.Send g to to_ep to_grant label size limit) e = grind (arith, nat_tests, e)
form_limit (Fresh.Receive g slots size) e = omega arith
form_limit (Fresh.Memory g start len perm) e = omega arith

few : (n k : ℕ) → n ≡ k → k ≤ 32 → min most n ≡ k
few n k e le = omega arith

-- ---- line by line

module _ (s : State) (h f q : ℕ → ℕ) where
  line_if : (b : Bool) (g : ℕ) (x : Fresh) → (b ≡ true → credit_line h f q g x ≡ legal.credit_line s g x) → (if b then credit_line h f q g x else []) ≡ legal.credit_line_if b s g x
  line_if true g x k = k refl
  line_if false g x k = refl

  -- where a Closed is on its way, the kernel's grant isn't live
  same_live : (b : Bool) (x : Grant) → (b ≡ true → is_live x.standing ≡ false) → is_live x.standing ≡ is_live (closed_if b x).standing
  same_live true x k = k refl
  same_live false x k = refl

  same_fresh : (b : Bool) (x : Grant) → (closed_if b x).fresh ≡ x.fresh
  same_fresh true x = refl
  same_fresh false x = refl

  lines_as : (ns : List ℕ) (g : ℕ) (xs : List Grant) → ((i : ℕ) (x : Grant) → slice_get xs i ≡ Some x → (is_in ns (g + i) ≡ true → is_live x.standing ≡ false) × (is_live (closed_if (is_in ns (g + i)) x).standing ≡ true → credit_line h f q (g + i) x.fresh ≡ legal.credit_line s (g + i) x.fresh))
      → live_lines_from h f q g xs ≡ legal.credit_lines_from s g (closed_from g ns xs)
  lines_as ns g [] k = refl
  lines_as ns g (x ∷ xs) k =
      let here : g + 0 ≡ g = omega arith in
      let own = subst (λ n. (is_in ns n ≡ true → is_live x.standing ≡ false) × (is_live (closed_if (is_in ns n) x).standing ≡ true → credit_line h f q n x.fresh ≡ legal.credit_line s n x.fresh)) here (k 0 x refl) in
      let b = is_in ns g in
      let first : (if is_live x.standing then credit_line h f q g x.fresh else []) ≡ legal.credit_line_if (is_live (closed_if b x).standing) s g (closed_if b x).fresh =
      ap (λ w. if w then credit_line h f q g x.fresh else []) (same_live b x own.0)
      ∙ line_if (is_live (closed_if b x).standing) g x.fresh own.1
      ∙ ap (legal.credit_line_if (is_live (closed_if b x).standing) s g) (sym (same_fresh b x)) in
      (λ j. first j ++ lines_as ns (g + 1) xs (λ i y e. let n : g + suc i ≡ g + 1 + i = omega arith in
      subst (λ n. (is_in ns n ≡ true → is_live y.standing ≡ false) × (is_live (closed_if (is_in ns n) y).standing ≡ true → credit_line h f q n y.fresh ≡ legal.credit_line s n y.fresh)) n (k (suc i) y e)) j)

live_open : (w : Standing) → is_live w ≡ true → is_open w ≡ true
live_open Live e = refl
live_open Closing e = absurd (cc)
live_open Closed e = absurd (cc)
live_open Done e = absurd (cc)

shut_at : (gs : List Grant) (i : ℕ) (x : Grant) → SentAreShut gs → slice_get gs i ≡ Some x → x.close_sent ≡ true → is_live x.standing ≡ false
shut_at [] i x k e = absurd (none x e)
  where
    none : (x : Grant) → None ≡ Some x → ⊥
    none x h = cc
shut_at (y ∷ gs) zero x k e = let same : y ≡ x = cc in subst (λ (z : Grant). z.close_sent ≡ true → is_live z.standing ≡ false) same k.0
shut_at (y ∷ gs) (suc i) x k e = shut_at gs i x k.1 e

under_sent : (x : Grant) → is_under_close x ≡ true → x.close_sent ≡ true
under_sent x e = first x.close_sent (not (is_done x.standing)) e
  where
    first : (a b : Bool) → (a && b) ≡ true → a ≡ true
    first true b e = refl
    first false b e = absurd (cc)

-- ---- a kept machine

module _ (h : Site) (m : Machine) (kept : MachineInvariant h m) where
  abbrev cs : List Context
  cs = all_contexts m

  abbrev ps : List Packet
  ps = all_packets m

  line_as : (g : ℕ) (x : Fresh) → credits g (ideal_of m) ≤ 32 → credit_line (held_count cs ps) (flying_count cs ps) (queued_count cs ps) g x ≡ legal.credit_line (ideal_of m) g x
  line_as g (Fresh.Send n to to_ep to_grant label size limit) le =
      let a = few (held g cs ps) (ideal.credits_held g (ideal_of m)) (sym (held_is m g)) (omega arith) in
      let b = few (flying g (λ a. last_of None a cs) ps) (ideal.credits_flying g (ideal_of m)) (sym (flying_is m g kept.sound.acts)) (omega arith) in
      let c = few (queued g cs) (ideal.credits_queued g (ideal_of m)) (sym (queued_is m g)) (omega arith) in
      λ k. AuditLine.Credit g (a k) (b k) (c k) limit ∷ []
  line_as g (Fresh.Receive n slots size) le = refl
  line_as g (Fresh.Memory n start len perm) le = refl

  -- of the grant with i before it
  module _ (i : ℕ) (x : Grant) (e : slice_get m.kernel.grants i ≡ Some x) where
    abbrev its : Grant
    its = closed_if (is_in (all_closed m) (1 + i)) x

    not_live : is_in (all_closed m) (1 + i) ≡ true → is_live x.standing ≡ false
    not_live b =
        let found : grant_in m.kernel.grants (1 + i) ≡ Some x = grind (arith, nat_tests, e) in
        shut_at m.kernel.grants i x kept.shut e (under_sent x (subst CloseWasSent found (kept.sound.shut (1 + i) b)))

    own_line : is_live its.standing ≡ true → credit_line (held_count cs ps) (flying_count cs ps) (queued_count cs ps) (1 + i) x.fresh ≡ legal.credit_line (ideal_of m) (1 + i) x.fresh
    own_line live =
        let there = get_closed (all_closed m) 1 i m.kernel.grants x e in
        let found : grant_in (ideal_of m).grants (1 + i) ≡ Some its = grind (arith, nat_tests, there) in
        let lawful : CreditsLawful (Some its) (credits (1 + i) (ideal_of m)) = subst (λ o. CreditsLawful o (credits (1 + i) (ideal_of m))) found (kept.law.lawful.credits (1 + i)) in
        let sum : credits (1 + i) (ideal_of m) ≡ limit_of its.fresh = lawful (live_open its.standing live) in
        let le : limit_of its.fresh ≤ 32 = form_limit its.fresh (kept.law.proper.grants (1 + i) its found).form in
        line_as (1 + i) x.fresh (omega arith)

  pub credits_kept : live_lines cs ps m.kernel.grants ≡ legal.credit_lines (ideal_of m)
  credits_kept = lines_as (ideal_of m) (held_count cs ps) (flying_count cs ps) (queued_count cs ps) (all_closed m) 1 m.kernel.grants (λ i x e. (not_live i x e, own_line i x e))

  flights_kept : length (ideal_of m).flights ≤ most → AuditLine.Flights (min most (length ps)) ∷ [] ≡ flights_lines (ideal_of m)
  flights_kept le =
      let same : length (ideal_of m).flights ≡ length ps = length_by_name ps in
      ap (λ n. AuditLine.Flights n ∷ []) (let z : min most (length ps) ≡ length (ideal_of m).flights = omega arith in z)

  -- the lines of a kept machine with so few flights that they are counted
  pub audited : (left : List Order) (tiles : ℕ) (next : Option Event) → length (ideal_of m).flights ≤ most → next ≡ driver.next_event (ideal_of m) (placement_of h m) left
      → live_lines cs ps m.kernel.grants ++ tile_lines tiles m.tiles ++ (AuditLine.Flights (min most (length ps)) ∷ []) ++ AuditLine.Quiet (is_none next) ∷ [] ≡ audit_lines tiles (ideal_of m) (placement_of h m) left
  audited left tiles next le quiet k =
      credits_kept k ++ sym (tile_lines_are tiles h m) k ++ flights_kept le k ++ AuditLine.Quiet (is_none (quiet k)) ∷ []
