-- A command is issued at the context of its activity, and its flight goes out.
use Rattle.std.proofs.Common.{◌≡◌, ◌≢◌, ℕ, ◌+◌, ◌<◌, Bool, true, false, List, get_or-set_same, get_or-set_other, length-set, Some, None, Ok, refl, sym, subst, ap, ◌∙◌, arith}
use Rattle.std.specs.Prelude.{Option, Result, slice_index_or, slice_set}
use Rattle.m3_base.specs.declared.command.Command.{Command}
use Rattle.m3_base.specs.declared.packet.Packet.{Packet}
use Rattle.m3_base.specs.Ideal.Flights.{name_of}
use Rattle.m3_base.specs.Ideal.Context.{Context}
use Rattle.m3_base.specs.Ideal.Issue.{next_id}
use Rattle.m3_base.specs.Ideal.State.{State, act_of, act_before, same_act, context_of, put_context}
use Rattle.m3_base.specs.Ideal.Step.{issue_in, issued_in}
use Rattle.m3_base.proofs.Activities.{act_found, same_act-is, same_act-itself, same_act-joins}
use Rattle.m3_base.proofs.KeyedList.{find-replaced_other, find-replaced_same}
use Rattle.m3_ideal.specs.declared.issued.Issued.{Issued}
use Rattle.m3_ideal.specs.Contexts.{AtContext}
use Rattle.m3_ideal.specs.Ideal.Launch.{packet_of_issue, IsNextFlight, MayLaunch, nexts_after}
use Rattle.m3_ideal.specs.Ideal.NextNumbers.{next_of, SameNexts, AreNexts}
use Rattle.m3_ideal.specs.Issuing.{Numbers, IsNextOf, IssuesAt}
use Rattle.m3_ideal.specs.Lanes.{FlightTable}
use Rattle.m3_ideal.proofs.Numbers.{found_under, next_put, put_same}

-- ---- next numbers

pub nexts_kept : (nexts : List ℕ) (cs ds : List Context) (last : ℕ) → AreNexts nexts cs last → SameNexts cs ds → AreNexts nexts ds last
nexts_kept nexts cs ds last k same = record { size = k.size; of_kernel = k.of_kernel; of_acts = λ a h. k.of_acts a h ∙ sym (same a) }

next_flight : (a : ℕ) (c : Context) (cs : List Context) (p : Packet) (nexts : List ℕ) (f : FlightTable) (last : ℕ) → context_of a cs ≡ Some c → a < 64
    → AreNexts nexts cs last → f.nexts ≡ nexts → 0 < slice_index_or f.rooms a 0 → name_of p ≡ next_id c → IsNextFlight p f
next_flight a c cs p nexts f last at range k e room n =
    let who : (name_of p).issuer ≡ a = ap (λ z. z.issuer) n ∙ sym (act_found a c cs at) in
    let number : (name_of p).number ≡ c.next = ap (λ z. z.number) n in
    let next : c.next ≡ slice_index_or nexts a 0 = sym (k.of_acts a range ∙ ap next_of at) in
    record {
      range = omega (arith, who, range);
      room = subst (λ z. 0 < slice_index_or f.rooms z 0) (sym who) room;
      next = number ∙ next ∙ ap (λ z. slice_index_or z a 0) (sym e) ∙ ap (λ z. slice_index_or f.nexts z 0) (sym who);
    }

launch_at : (E : Type 0) (o : Option Context) (a : ℕ) (cs ds : List Context) (i : Issued) (command : Command) (nexts : List ℕ) (f : FlightTable) (last : ℕ) → o ≡ context_of a cs → a < 64
    → AreNexts nexts cs last → f.nexts ≡ nexts → 0 < slice_index_or f.rooms a 0 → AtContext o cs ds (λ c d. IssuesAt {E = E} (Ok (Some i)) command c d) → MayLaunch (packet_of_issue i) f
launch_at E None a cs ds i command nexts f last at range k e room h = absurd h
launch_at E (Some c) a cs ds i command nexts f last at range k e room h = by_kind i h.3.numbers
  where
    by_kind : (j : Issued) → Numbers j c h.0 → MayLaunch (packet_of_issue j) f
    by_kind (Issued.Refused why) n = tt
    by_kind Issued.Nothing n = tt
    by_kind (Issued.Fetched token m) n = tt
    by_kind (Issued.Acknowledged None) n = tt
    by_kind (Issued.Acknowledged (Some g)) n = next_flight a c cs g.1 nexts f last (sym at) range k e room n.name
    by_kind (Issued.Flies id p) n = next_flight a c cs p nexts f last (sym at) range k e room n.name

pub may_launch : {E : Type 0} (r : Result (Option Issued) E) (a : ℕ) (cs ds : List Context) (i : Issued) (command : Command) (nexts : List ℕ) (f : FlightTable) (last : ℕ) → r ≡ Ok (Some i) → a < 64
    → AreNexts nexts cs last → f.nexts ≡ nexts → 0 < slice_index_or f.rooms a 0 → AtContext (context_of a cs) cs ds (λ c d. IssuesAt r command c d) → MayLaunch (packet_of_issue i) f
may_launch {E} r a cs ds i command nexts f last e range k same room h =
    launch_at E (context_of a cs) a cs ds i command nexts f last refl range k same room (subst (λ z. AtContext (context_of a cs) cs ds (λ c d. IssuesAt z command c d)) e h)

-- the flight's number is used, and the next is the context's
nexts_used : (a : ℕ) (c d : Context) (cs : List Context) (p : Packet) (nexts : List ℕ) (last : ℕ) → context_of a cs ≡ Some c → a < 64 → d.act ≡ c.act → AreNexts nexts cs last → IsNextOf p c d
    → AreNexts (slice_set nexts (name_of p).issuer ((name_of p).number + 1)) (put_context d cs) last
nexts_used a c d cs p nexts last at range same k n =
    let number : (name_of p).number ≡ c.next = ap (λ z. z.number) n.name in
    let own : c.act ≡ a = sym (act_found a c cs at) in
    let who : (name_of p).issuer ≡ a = ap (λ z. z.issuer) n.name ∙ own in
    let there : context_of d.act cs ≡ Some c = found_under a c d cs at same in
    record {
      size = length-set nexts (name_of p).issuer ((name_of p).number + 1) ∙ k.size;
      of_kernel = get_or-set_other nexts (name_of p).issuer 64 ((name_of p).number + 1) 0 (λ e. omega (arith, e, who, range)) ∙ k.of_kernel;
      of_acts = λ b h. by_act b h (same_act b d.act) refl number (who ∙ sym own ∙ sym same) there;
    }
  where
    by_act : (b : ℕ) → b < 64 → (t : Bool) → same_act b d.act ≡ t → (name_of p).number ≡ c.next → (name_of p).issuer ≡ d.act → context_of d.act cs ≡ Some c
        → slice_index_or (slice_set nexts (name_of p).issuer ((name_of p).number + 1)) b 0 ≡ next_of (context_of b (put_context d cs))
    by_act b h true e number who there =
        let it : b ≡ (name_of p).issuer = same_act-is b d.act e ∙ sym who in
        let here : slice_index_or (slice_set nexts (name_of p).issuer ((name_of p).number + 1)) (name_of p).issuer 0 ≡ (name_of p).number + 1 = get_or-set_same nexts (name_of p).issuer ((name_of p).number + 1) 0 (omega (arith, it, h, k.size)) in
        ap (λ z. slice_index_or (slice_set nexts (name_of p).issuer ((name_of p).number + 1)) z 0) it ∙ here ∙ ap (λ z. z + 1) number ∙ sym n.next
        ∙ sym (ap (λ z. next_of (context_of z (put_context d cs))) (same_act-is b d.act e) ∙ ap next_of (find-replaced_same act_of same_act act_before d c cs (same_act-itself d.act) there))
    by_act b h false e number who there =
        let other : (name_of p).issuer ≢ b = λ w. absurd (let z : same_act b b ≡ false = ap (same_act b) (sym w ∙ who) ∙ e in let y : true ≡ false = sym (same_act-itself b) ∙ z in cc) in
        get_or-set_other nexts (name_of p).issuer b ((name_of p).number + 1) 0 (λ w. other (sym w)) ∙ k.of_acts b h
        ∙ sym (ap next_of (find-replaced_other act_of same_act act_before b d cs same_act-joins e))

nexts_at : (E : Type 0) (o : Option Context) (a : ℕ) (cs ds : List Context) (i : Issued) (command : Command) (nexts news : List ℕ) (last : ℕ) → o ≡ context_of a cs → a < 64
    → AreNexts nexts cs last → news ≡ nexts_after (packet_of_issue i) nexts → AtContext o cs ds (λ c d. IssuesAt {E = E} (Ok (Some i)) command c d) → AreNexts news ds last
nexts_at E None a cs ds i command nexts news last at range k e h = absurd h
nexts_at E (Some c) a cs ds i command nexts news last at range k e h =
    subst (λ z. AreNexts z ds last) (sym e) (subst (λ z. AreNexts (nexts_after (packet_of_issue i) nexts) z last) (sym h.2) (by_kind i h.3.numbers))
  where
    stays : h.0.next ≡ c.next → AreNexts nexts (put_context h.0 cs) last
    stays n = nexts_kept nexts cs (put_context h.0 cs) last k (λ b. next_put b c h.0 cs (found_under a c h.0 cs (sym at) h.1) n)

    by_kind : (j : Issued) → Numbers j c h.0 → AreNexts (nexts_after (packet_of_issue j) nexts) (put_context h.0 cs) last
    by_kind (Issued.Refused why) n = stays n
    by_kind Issued.Nothing n = stays n
    by_kind (Issued.Fetched token m) n = stays n
    by_kind (Issued.Acknowledged None) n = stays n
    by_kind (Issued.Acknowledged (Some g)) n = nexts_used a c h.0 cs g.1 nexts last (sym at) range h.1 k n
    by_kind (Issued.Flies id p) n = nexts_used a c h.0 cs p nexts last (sym at) range h.1 k n

-- where the command has to wait
waiting_nexts : (E : Type 0) (o : Option Context) (a : ℕ) (cs ds : List Context) (command : Command) (nexts : List ℕ) (last : ℕ) → o ≡ context_of a cs
    → AreNexts nexts cs last → AtContext o cs ds (λ c d. IssuesAt {E = E} (Ok None) command c d) → AreNexts nexts ds last
waiting_nexts E None a cs ds command nexts last at k h = absurd h
waiting_nexts E (Some c) a cs ds command nexts last at k h =
    subst (λ z. AreNexts nexts z last) (sym h.2)
    (nexts_kept nexts cs (put_context h.0 cs) last k (λ b. next_put b c h.0 cs (found_under a c h.0 cs (sym at) h.1) h.3.numbers))

pub issue_nexts : {E : Type 0} (r : Result (Option Issued) E) (a : ℕ) (cs ds : List Context) (i : Issued) (command : Command) (nexts same news : List ℕ) (last : ℕ) → r ≡ Ok (Some i) → a < 64
    → AreNexts nexts cs last → same ≡ nexts → news ≡ nexts_after (packet_of_issue i) same → AtContext (context_of a cs) cs ds (λ c d. IssuesAt r command c d) → AreNexts news ds last
issue_nexts {E} r a cs ds i command nexts same news last e range k w n h =
    nexts_at E (context_of a cs) a cs ds i command nexts news last refl range k (n ∙ ap (nexts_after (packet_of_issue i)) w) (subst (λ z. AtContext (context_of a cs) cs ds (λ c d. IssuesAt z command c d)) e h)

pub waits_nexts : {E : Type 0} (r : Result (Option Issued) E) (a : ℕ) (cs ds : List Context) (command : Command) (nexts same : List ℕ) (last : ℕ) → r ≡ Ok None
    → AreNexts nexts cs last → same ≡ nexts → AtContext (context_of a cs) cs ds (λ c d. IssuesAt r command c d) → AreNexts same ds last
waits_nexts {E} r a cs ds command nexts same last e k w h =
    subst (λ z. AreNexts z ds last) (sym w) (waiting_nexts E (context_of a cs) a cs ds command nexts last refl k (subst (λ z. AtContext (context_of a cs) cs ds (λ c d. IssuesAt z command c d)) e h))

-- ---- the step

-- where it waits there is no step, and the contexts stay
waits_at : (E : Type 0) (s : State) (a : ℕ) (command : Command) (ds : List Context) (o : Option Context) → o ≡ context_of a s.contexts → AtContext o s.contexts ds (λ c d. IssuesAt {E = E} (Ok None) command c d)
    → (issue_in s o command ≡ None) × (ds ≡ s.contexts)
waits_at E s a command ds None at h = absurd h
waits_at E s a command ds (Some c) at h =
    (ap (issued_in s) h.3.issues.0, h.2 ∙ ap (λ z. put_context z s.contexts) h.3.issues.1 ∙ put_same c s.contexts (found_under a c c s.contexts (sym at) refl))

pub waits_step : {E : Type 0} (r : Result (Option Issued) E) (s v : State) (a : ℕ) (command : Command) (ds : List Context) (fs : List Packet) → r ≡ Ok None → s ≡ v → AtContext (context_of a s.contexts) s.contexts ds (λ c d. IssuesAt r command c d)
    → fs ≡ s.flights → (issue_in v (context_of a v.contexts) command ≡ None) × (record s { contexts = ds; flights = fs } ≡ v)
waits_step {E} r s v a command ds fs e view h f =
    let both = waits_at E s a command ds (context_of a s.contexts) refl (subst (λ z. AtContext (context_of a s.contexts) s.contexts ds (λ c d. IssuesAt z command c d)) e h) in
    (subst (λ z. issue_in z (context_of a z.contexts) command ≡ None) view both.0, (λ i. record s { contexts = both.1 i; flights = f i }) ∙ view)
