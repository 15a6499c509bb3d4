-- Each step raises the kernel's own next number by one at most: with an Install or a Close, and never else.
use Rattle.std.proofs.Common.{◌≡◌, ℕ, ◌+◌, ◌≤◌, Bool, true, false, [], ◌∷◌, ◌++◌, length, Option, Some, None, refl, ap, arith}
use Rattle.std.specs.Prelude.{if◌then◌else◌}
use Rattle.m3_base.specs.declared.packet.Packet.{Packet}
use Rattle.m3_base.specs.declared.packet.Fresh.{Fresh}
use Rattle.m3_base.specs.declared.order.GrantLine.{GrantLine}
use Rattle.m3_base.specs.declared.order.Order.{Order}
use Rattle.m3_base.specs.declared.event.Event.{Event}
use Rattle.m3_base.specs.declared.event.Made.{Made}
use Rattle.m3_base.specs.declared.event.No.{No}
use Rattle.m3_base.specs.declared.event.Said.{Said}
use Rattle.m3_base.specs.Ideal.State.{Grant, grant_in, holder, holder_ep, parent_in, parent_of, undone}
use Rattle.m3_base.specs.Ideal.GrantRules.{form, make_refusal, new_grant, revoke_refusal, change_grant}
use Rattle.m3_base.specs.Placement.Order.{least_closing}
use Rattle.m3_model.specs.Config.Site.{Site}
use Rattle.m3_model.specs.Kernel.State.{Kernel}
use Rattle.m3_model.specs.LocalStep.{LocalResult, dropped_result}
use Rattle.m3_model.specs.Kernel.Step.{Routed, close_least, close_of, done_grant, entry_of, is_under_close, kernel_id, kernel_order, kernel_take, kernel_tend, make_with, own_packet_out, revoke_with, route, switch, take_closed}
use Rattle.m3_model.specs.Machine.{Machine, MachineResult, machine_step}
use Rattle.m3_model.specs.KernelNumber.{HasLowKernel}
use Rattle.m3_refine.proofs.bounds.KernelFrame.{route_keeps, take_keeps, tend_keeps, switch_keeps}
use Rattle.m3_refine.proofs.bounds.PartStep.{KeptByParts, step_keeps}
use Rattle.m3_refine.proofs.lists.EachElement.{InSome}

-- ---- what raises it

module _ (h : Site) (n : ℕ) where
  abbrev Rises : LocalResult Kernel → Type 0
  Rises d = d.part.next ≤ n + 1

  kept : (d : LocalResult Kernel) → d.part.next ≡ n → Rises d
  kept d e = omega (arith, e)

  own_rises : (old : Kernel) (said : Bool → Said) (o : Option Routed) → old.next ≡ n → InSome (λ r. r.kernel.next ≡ n + 1) o → Rises (own_packet_out old said o)
  own_rises old said None l r = kept (own_packet_out old said None) l
  own_rises old said (Some d) l r = let z : d.kernel.next ≡ n + 1 = r in omega (arith, z)

  make_rises : (k : Kernel) (line : GrantLine) (o : Option No) (f : Option Fresh) → k.next ≡ n → Rises (make_with h k line o f)
  make_rises k line (Some why) f l = kept (make_with h k line (Some why) f) l
  make_rises k line None None l = kept (make_with h k line None None) l
  make_rises k line None (Some f) l =
      let next = record k { next = k.next + 1; grants = k.grants ++ new_grant line f ∷ [] } in
      let p = Packet.Install (kernel_id k) (holder line) (holder_ep line) f in
      own_rises k (λ held. Said.Granted (length k.grants + 1) (kernel_id k) held) (route h p next) l (route_keeps h (λ i gs. i ≡ n + 1) p next (ap (λ i. i + 1) l))

  revoke_rises : (k : Kernel) (g : ℕ) (o : Option No) → k.next ≡ n → Rises (revoke_with k g o)
  revoke_rises k g None l = kept (revoke_with k g None) l
  revoke_rises k g (Some why) l = kept (revoke_with k g (Some why)) l

  closed_keeps : (k : Kernel) (g : ℕ) (o : Option Grant) → k.next ≡ n → (take_closed k g o).part.next ≡ n
  closed_keeps k g None l = l
  closed_keeps k g (Some x) l = by_test (is_under_close x)
    where
      by_test : (b : Bool) → (if b then done_grant g x k else dropped_result k).part.next ≡ n
      by_test true = l
      by_test false = l

  order_rises : (k : Kernel) (o : Order) → k.next ≡ n → Rises (kernel_order h k o)
  order_rises k (Order.Switch t a) l = kept (switch h k t (entry_of a k)) (switch_keeps h (λ i gs. i ≡ n) k t (entry_of a k) l)
  order_rises k (Order.Grant line) l =
      make_rises k line (make_refusal h.memory k.grants line) (form (length k.grants + 1) line (undone (parent_in k.grants (parent_of line)))) l
  order_rises k (Order.Revoke g) l = revoke_rises k g (revoke_refusal (grant_in k.grants g)) l

  close_of_rises : (k : Kernel) (g : ℕ) (o : Option Grant) → k.next ≡ n → Rises (close_of h k g o)
  close_of_rises k g None l = kept (close_of h k g None) l
  close_of_rises k g (Some x) l =
      let next = record k { next = k.next + 1; grants = change_grant k.grants g (λ y. record y { close_sent = true }) } in
      let p = Packet.Close (kernel_id k) (holder x.line) (holder_ep x.line) g in
      own_rises k (λ held. Said.CloseSent g (kernel_id k) held) (route h p next) l (route_keeps h (λ i gs. i ≡ n + 1) p next (ap (λ i. i + 1) l))

  close_rises : (k : Kernel) (o : Option ℕ) → k.next ≡ n → Rises (close_least h k o)
  close_rises k None l = kept (close_least h k None) l
  close_rises k (Some g) l = close_of_rises k g (grant_in k.grants g) l

  parts_rise : KeptByParts h (λ k. k.next ≡ n) (λ k. k.next ≤ n + 1) (λ x. Unit {0})
  parts_rise = record {
    idle = λ k l. omega (arith, l);
    take = λ k q l. kept (kernel_take h k q) (take_keeps h (λ i gs. i ≡ n) (λ k g l. closed_keeps k g (grant_in k.grants g) l) k q l);
    tend = λ k a l. kept (kernel_tend h k a) (tend_keeps h (λ i gs. i ≡ n) k a l);
    close = λ k l. close_rises k (least_closing k.grants 1 k.grants) l;
    order = order_rises;
    memory = λ x q l. tt;
  }

-- ---- the machine

module _ (h : Site) (m : Machine) (e : Event) (made : Option Made) where
  -- each step raises the kernel's next number by one at most
  pub kernel_rises : (d : MachineResult) → machine_step h m e made ≡ Some d → d.machine.kernel.next ≤ m.kernel.next + 1
  kernel_rises d is = (step_keeps h (λ k. k.next ≡ m.kernel.next) (λ k. k.next ≤ m.kernel.next + 1) (λ x. Unit {0}) (parts_rise h m.kernel.next) m e made refl tt d is).0

  -- so it stays below the number of entries: each step adds one
  pub low_kernel : (n : ℕ) (d : MachineResult) → HasLowKernel n m → machine_step h m e made ≡ Some d → HasLowKernel (n + 1) d.machine
  low_kernel n d low is = let z = kernel_rises d is in omega (arith, z, low)
