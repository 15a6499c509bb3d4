-- Each step keeps it that the Close of a live grant was not sent, and at the opening none was sent.
use Rattle.std.proofs.Common.{◌≡◌, ℕ, suc, ◌+◌, ◌-◌, Bool, true, false, List, [], ◌∷◌, ◌++◌, length, Option, Some, None, refl, sym, subst, ◌∙◌, ap, arith}
use Rattle.std.specs.Prelude.{if◌then◌else◌, ◌&&◌}
use Rattle.m3_base.specs.declared.packet.Packet.{Packet}
use Rattle.m3_base.specs.declared.packet.Fresh.{Fresh}
use Rattle.m3_base.specs.declared.order.GrantLine.{GrantLine}
use Rattle.m3_base.specs.declared.order.Order.{Order}
use Rattle.m3_base.specs.declared.event.Event.{Event}
use Rattle.m3_base.specs.declared.event.Made.{Made}
use Rattle.m3_base.specs.declared.event.No.{No}
use Rattle.m3_base.specs.declared.event.Said.{Said}
use Rattle.m3_base.specs.declared.setup_line.SetupLine.{SetupLine}
use Rattle.m3_base.specs.Ideal.Opening.{opening, state_with_grant, with_line, with_lines}
use Rattle.m3_base.specs.Ideal.State.{Grant, State, context_of, grant_in, holder, holder_ep, is_live, parent_in, parent_of, undone}
use Rattle.m3_base.specs.Ideal.State as ideal
use Rattle.m3_base.specs.Ideal.GrantRules.{after_revoke, change_grant, closing_where, form, make_refusal, marks_under, may_close, new_grant, revoke_refusal, set_some, to_closing}
use Rattle.m3_base.specs.Placement.Order.{least_closing}
use Rattle.m3_base.proofs.GrantsByNumber.{grant_in-suc as numbered_back}
use Rattle.m3_merge.proofs.MergedIsRun.{each_append}
use Rattle.m3_model.specs.Config.FromSetup.{site_of}
use Rattle.m3_model.specs.Config.Site.{Home, Site}
use Rattle.m3_model.specs.Kernel.State.{Kernel}
use Rattle.m3_model.specs.Kernel.Step.{Routed, close_least, close_of, done_grant, entry_of, is_under_close, kernel_id, kernel_order, make_with, own_packet_out, revoke_with, route, take_closed}
use Rattle.m3_model.specs.LocalStep.{LocalResult, dropped_result}
use Rattle.m3_model.specs.Machine.{Machine, MachineResult, context_or_new, entry_at_opening, machine_step, opened_machine, tile_at, with_entries}
use Rattle.m3_model.specs.Abstraction.{all_closed, is_in}
use Rattle.m3_model.specs.Invariant.Structure.{CloseWasSent, MachineStructure}
use Rattle.m3_model.specs.ShutGrants.{SentAreShut}
use Rattle.m3_refine.proofs.abstraction.ClosedGrants.{numbered}
use Rattle.m3_refine.proofs.abstraction.OpeningLines.{each_get}
use Rattle.m3_refine.proofs.bounds.KernelFrame.{route_keeps, take_keeps, tend_keeps, switch_keeps}
use Rattle.m3_refine.proofs.bounds.PartStep.{KeptByParts, step_keeps}
use Rattle.m3_refine.proofs.events.order.DueGrants.{least_found}
use Rattle.m3_refine.proofs.lists.EachElement.{InSome, each_write}
use Rattle.m3_refine.proofs.opening.OpensRefines.{first_machine}

-- a grant of which this holds
abbrev IsShut : Grant → Type 0
IsShut x = x.close_sent ≡ true → is_live x.standing ≡ false

-- a grant whose Closed is on its way is not live: what a revoke asks
pub closing_not_live : (h : Site) (m : Machine) → MachineStructure h m → SentAreShut m.kernel.grants
    → (n : ℕ) (x : Grant) → is_in (all_closed m) n ≡ true → grant_in m.kernel.grants n ≡ Some x → is_live x.standing ≡ false
closing_not_live h m sound shut n x i e =
    let place = numbered m.kernel.grants n x e in
    each_get (λ y. y.close_sent ≡ true → is_live y.standing ≡ false) m.kernel.grants place.0 x shut place.2 sent
  where
    sent : x.close_sent ≡ true
    sent = let k : is_under_close x ≡ true = subst CloseWasSent e (sound.shut n i) in grind (arith, k)

-- ---- grants that change

changed_shut : (gs : List Grant) (g : ℕ) (f : Grant → Grant) → SentAreShut gs → ((x : Grant) → grant_in gs g ≡ Some x → IsShut (f x)) → SentAreShut (change_grant gs g f)
changed_shut gs g f shut k = by_grant (grant_in gs g) k
  where
    by_grant : (o : Option Grant) → ((x : Grant) → o ≡ Some x → IsShut (f x)) → SentAreShut (set_some gs g f o)
    by_grant None k = shut
    by_grant (Some x) k = each_write (λ y. y.close_sent ≡ true → is_live y.standing ≡ false) gs (g - 1) (f x) shut (k x refl)

closing_shut : (b : Bool) (x : Grant) → IsShut x → IsShut (to_closing b x)
closing_shut b x k = by_test b (is_live x.standing)
  where
    by_test : (b d : Bool) → IsShut (if b && d then record x { standing = ideal.Closing } else x)
    by_test true true = λ e. refl
    by_test true false = k
    by_test false d = k

where_shut : (bs : List Bool) (gs : List Grant) → SentAreShut gs → SentAreShut (closing_where bs gs)
where_shut [] gs k = k
where_shut (b ∷ bs) [] k = tt
where_shut (b ∷ bs) (x ∷ gs) k = (closing_shut b x k.0, where_shut bs gs k.1)

revoked_shut : (gs : List Grant) (g : ℕ) → SentAreShut gs → SentAreShut (after_revoke gs g)
revoked_shut gs g k =
    let marked = closing_where (marks_under g 1 [] gs) gs in
    let all = where_shut (marks_under g 1 [] gs) gs k in
    changed_shut marked g (λ x. record x { is_root = true }) all (λ x e. let n = numbered marked g x e in each_get (λ y. y.close_sent ≡ true → is_live y.standing ≡ false) marked n.0 x all n.2)

-- ---- the kernel's steps

module _ (h : Site) where
  abbrev Fact : ℕ → List Grant → Type 0
  Fact next gs = SentAreShut gs

  abbrev IsShutIn : LocalResult Kernel → Type 0
  IsShutIn d = SentAreShut d.part.grants

  closed_shut : (k : Kernel) (g : ℕ) (o : Option Grant) → SentAreShut k.grants → IsShutIn (take_closed k g o)
  closed_shut k g None l = l
  closed_shut k g (Some x) l = by_test (is_under_close x)
    where
      by_test : (b : Bool) → IsShutIn (if b then done_grant g x k else dropped_result k)
      by_test true = changed_shut k.grants g (λ y. record y { standing = ideal.Done }) l (λ y e s. refl)
      by_test false = l

  own_shut : (old : Kernel) (said : Bool → Said) (o : Option Routed) → SentAreShut old.grants → InSome (λ r. SentAreShut r.kernel.grants) o → IsShutIn (own_packet_out old said o)
  own_shut old said None l r = l
  own_shut old said (Some d) l r = r

  made_shut : (k : Kernel) (line : GrantLine) (o : Option No) (f : Option Fresh) → SentAreShut k.grants → IsShutIn (make_with h k line o f)
  made_shut k line (Some why) f l = l
  made_shut k line None None l = l
  made_shut k line None (Some f) l =
      let next = record k { next = k.next + 1; grants = k.grants ++ new_grant line f ∷ [] } in
      let p = Packet.Install (kernel_id k) (holder line) (holder_ep line) f in
      let all : SentAreShut next.grants = each_append (λ y. y.close_sent ≡ true → is_live y.standing ≡ false) k.grants (new_grant line f ∷ []) l ((λ e. absurd (cc)), tt) in
      own_shut k (λ held. Said.Granted (length k.grants + 1) (kernel_id k) held) (route h p next) l (route_keeps h (λ i gs. SentAreShut gs) p next all)

  revoke_shut : (k : Kernel) (g : ℕ) (o : Option No) → SentAreShut k.grants → IsShutIn (revoke_with k g o)
  revoke_shut k g (Some why) l = l
  revoke_shut k g None l = revoked_shut k.grants g l

  order_shut : (k : Kernel) (o : Order) → SentAreShut k.grants → IsShutIn (kernel_order h k o)
  order_shut k (Order.Switch t a) l = switch_keeps h (λ i gs. SentAreShut gs) k t (entry_of a k) l
  order_shut k (Order.Grant line) l = made_shut k line (make_refusal h.memory k.grants line) (form (length k.grants + 1) line (undone (parent_in k.grants (parent_of line)))) l
  order_shut k (Order.Revoke g) l = revoke_shut k g (revoke_refusal (grant_in k.grants g)) l

  -- only a closing grant's Close is sent
  sent_shut : (k : Kernel) (g : ℕ) (o : Option Grant) → grant_in k.grants g ≡ o → may_close k.grants g o ≡ true → SentAreShut k.grants → IsShutIn (close_of h k g o)
  sent_shut k g None e m l = l
  sent_shut k g (Some x) e m l =
      let next = record k { next = k.next + 1; grants = change_grant k.grants g (λ y. record y { close_sent = true }) } in
      let p = Packet.Close (kernel_id k) (holder x.line) (holder_ep x.line) g in
      let all : SentAreShut next.grants = changed_shut k.grants g (λ y. record y { close_sent = true }) l (λ y f s. let same : y ≡ x = one x y (sym e ∙ f) in ap (λ (z : Grant). is_live z.standing) same ∙ not_live) in
      own_shut k (λ held. Said.CloseSent g (kernel_id k) held) (route h p next) l (route_keeps h (λ i gs. SentAreShut gs) p next all)
    where
      one : (x y : Grant) → Some x ≡ Some y → y ≡ x
      one x y e = cc

      not_live : is_live x.standing ≡ false
      not_live = grind (arith, m)

  close_shut : (k : Kernel) (o : Option ℕ) → least_closing k.grants 1 k.grants ≡ o → SentAreShut k.grants → IsShutIn (close_least h k o)
  close_shut k None e l = l
  close_shut k (Some g) e l =
      let f = least_found k.grants 1 k.grants g e in
      let there : grant_in k.grants g ≡ Some f.1 = ap (grant_in k.grants) (let z = f.2 in let w : g ≡ suc f.0 = omega (arith, z) in w) ∙ numbered_back k.grants f.0 ∙ f.3 in
      sent_shut k g (grant_in k.grants g) refl (ap (may_close k.grants g) there ∙ f.4) l

  parts_shut : KeptByParts h (λ k. SentAreShut k.grants) (λ k. SentAreShut k.grants) (λ x. Unit {0})
  parts_shut = record {
    idle = λ k l. l;
    take = take_keeps h (λ i gs. SentAreShut gs) (λ k g l. closed_shut k g (grant_in k.grants g) l);
    tend = tend_keeps h (λ i gs. SentAreShut gs);
    close = λ k l. close_shut k (least_closing k.grants 1 k.grants) refl l;
    order = order_shut;
    memory = λ x q l. tt;
  }

-- each step keeps it
pub shut_kept : (h : Site) (m : Machine) (e : Event) (made : Option Made) (d : MachineResult) → SentAreShut m.kernel.grants → machine_step h m e made ≡ Some d → SentAreShut d.machine.kernel.grants
shut_kept h m e made d shut is = (step_keeps h (λ k. SentAreShut k.grants) (λ k. SentAreShut k.grants) (λ x. Unit {0}) (parts_shut h) m e made shut tt d is).0

-- ---- at opening

granted_shut : (s : State) (line : GrantLine) (o : Option Fresh) → SentAreShut s.grants → SentAreShut (state_with_grant s line o).grants
granted_shut s line None k = k
granted_shut s line (Some f) k = each_append (λ y. y.close_sent ≡ true → is_live y.standing ≡ false) s.grants (new_grant line f ∷ []) k ((λ e. absurd (cc)), tt)

line_shut : (s : State) (l : SetupLine) → SentAreShut s.grants → SentAreShut (with_line s l).grants
line_shut s (SetupLine.Act a t) k = k
line_shut s (SetupLine.Grant line) k = granted_shut s line (form (length s.grants + 1) line (parent_in s.grants (parent_of line))) k
line_shut s (SetupLine.Quantum q) k = k
line_shut s (SetupLine.Files g) k = k
line_shut s (SetupLine.Item a c) k = k
line_shut s (SetupLine.AwaitItem a ep) k = k
line_shut s (SetupLine.Writer a m d e chunk ring bytes) k = k
line_shut s (SetupLine.Reader a m d chunk ring fuel) k = k
line_shut s (SetupLine.Boxed a logic fuel) k = k

lines_shut : (s : State) (ls : List SetupLine) → SentAreShut s.grants → SentAreShut (with_lines s ls).grants
lines_shut s [] k = k
lines_shut s (l ∷ ls) k = lines_shut (with_line s l) ls (line_shut s l k)

entries_grants : (s : State) (xs : List Home) (m : Machine) → (with_entries s m xs).kernel.grants ≡ m.kernel.grants
entries_grants s [] m = refl
entries_grants s (x ∷ xs) m = entries_grants s xs (entry_at_opening x (context_or_new x.act (context_of x.act s.contexts)) (tile_at x.tile m) m)

-- at the opening no Close was sent
pub shut_at_opening : (memory : ℕ) (programs : List ℕ) (lines : List SetupLine) → SentAreShut (opened_machine memory programs lines).kernel.grants
shut_at_opening memory programs lines =
    let s = opening memory lines in
    subst SentAreShut (sym (entries_grants s (site_of memory programs lines).homes (first_machine s))) (lines_shut (opening memory []) lines tt)
