-- The outcome of a close, of a grant and of a revoke belongs to its event by its form.
use Rattle.std.proofs.Common.{◌≡◌, ℕ, ◌+◌, Bool, true, false, [], ◌∷◌, length, Option, Some, None, refl, subst, ◌++◌}
use Rattle.std.specs.Prelude.{if◌then◌else◌, ◌&&◌}
use Rattle.m3_base.specs.declared.event.Event.{Event}
use Rattle.m3_base.specs.declared.event.No.{No}
use Rattle.m3_base.specs.declared.event.Said.{Said}
use Rattle.m3_base.specs.declared.ids.FlightId.{FlightId}
use Rattle.m3_base.specs.declared.order.GrantLine.{GrantLine}
use Rattle.m3_base.specs.declared.order.Order.{Order}
use Rattle.m3_base.specs.declared.packet.Fresh.{Fresh}
use Rattle.m3_base.specs.declared.packet.Packet.{Packet}
use Rattle.m3_base.specs.Ideal.State.{Grant, grant_in, holder, holder_ep, parent_in, parent_of, undone, is_done, is_live}
use Rattle.m3_base.specs.Ideal.GrantRules.{form, make_refusal, revoke_refusal, new_grant, change_grant}
use Rattle.m3_base.specs.Journal.OutcomeForms.{allows_for_grant, is_allowed_outcome}
use Rattle.m3_base.specs.Placement.Order.{least_closing}
use Rattle.m3_base.proofs.GrantRefusalCauses.{refusal_of_grants}
use Rattle.m3_model.specs.Config.Site.{Site}
use Rattle.m3_model.specs.Invariant.Housing.{IsPresent}
use Rattle.m3_model.specs.Kernel.State.{ActivityEntry, Kernel}
use Rattle.m3_model.specs.Kernel.Step.{Routed, entry_of, route_to, route, own_packet_out, kernel_id, make_with, revoke_with, close_of, close_least, kernel_close, kernel_order}

pub and_true : (b : Bool) → b ≡ true → (b && true) ≡ true
and_true true e = refl
and_true false e = e

-- ---- why a grant or a revoke is refused

revoke_allowed : (o : Option Grant) (why : No) → revoke_refusal o ≡ Some why → allows_for_grant why ≡ true
revoke_allowed None why e = let q : No.NoGrant ≡ why = cc in subst (λ w. allows_for_grant w ≡ true) q refl
revoke_allowed (Some x) why e = by_tests (is_done x.standing) (is_live x.standing) e
  where
    by_tests : (a b : Bool) → (if a then Some No.NoGrant else (if b then None else Some No.Closing)) ≡ Some why → allows_for_grant why ≡ true
    by_tests true b e = let q : No.NoGrant ≡ why = cc in subst (λ w. allows_for_grant w ≡ true) q refl
    by_tests false true e = absurd (cc)
    by_tests false false e = let q : No.Closing ≡ why = cc in subst (λ w. allows_for_grant w ≡ true) q refl

-- ---- the kernel's own packets

-- a grant's Install has a seat to go to
abbrev pub HolderIsSeated : Kernel → Event → Type 0
HolderIsSeated k (Event.Order (Order.Grant line)) = IsPresent (entry_of (holder line) k)
HolderIsSeated k e = Unit {0}

module _ (h : Site) where
  route_present : (p : Packet) (k : Kernel) (o : Option ActivityEntry) → IsPresent o → IsPresent (route_to h p k o)
  route_present p k None s = absurd s
  route_present p k (Some x) s = tt

  granted_form : (line : GrantLine) (old : Kernel) (g : ℕ) (id : FlightId) (o : Option Routed) → IsPresent o → is_allowed_outcome (Event.Order (Order.Grant line)) (own_packet_out old (λ held. Said.Granted g id held) o).outcome ≡ true
  granted_form line old g id None s = absurd s
  granted_form line old g id (Some r) s = refl

  made_form : (line : GrantLine) (k : Kernel) (why : Option No) (f : Option Fresh) → make_refusal h.memory k.grants line ≡ why → IsPresent (entry_of (holder line) k)
      → is_allowed_outcome (Event.Order (Order.Grant line)) (make_with h k line why f).outcome ≡ true
  made_form line k (Some why) f e s = and_true (allows_for_grant why) (refusal_of_grants h.memory k.grants line why e)
  made_form line k None None e s = refl
  made_form line k None (Some f) e s =
      let k1 : Kernel = record k { next = k.next + 1; grants = k.grants ++ new_grant line f ∷ [] } in
      let p : Packet = Packet.Install (kernel_id k) (holder line) (holder_ep line) f in
      granted_form line k (length k.grants + 1) (kernel_id k) (route h p k1) (route_present p k1 (entry_of (holder line) k) s)

  revoked_form : (k : Kernel) (g : ℕ) (why : Option No) → revoke_refusal (grant_in k.grants g) ≡ why → is_allowed_outcome (Event.Order (Order.Revoke g)) (revoke_with k g why).outcome ≡ true
  revoked_form k g (Some why) e = and_true (allows_for_grant why) (revoke_allowed (grant_in k.grants g) why e)
  revoked_form k g None e = refl

  pub grant_form : (k : Kernel) (line : GrantLine) → IsPresent (entry_of (holder line) k) → is_allowed_outcome (Event.Order (Order.Grant line)) (kernel_order h k (Order.Grant line)).outcome ≡ true
  grant_form k line s =
      made_form line k (make_refusal h.memory k.grants line) (form (length k.grants + 1) line (undone (parent_in k.grants (parent_of line)))) refl s

  pub revoke_form : (k : Kernel) (g : ℕ) → is_allowed_outcome (Event.Order (Order.Revoke g)) (kernel_order h k (Order.Revoke g)).outcome ≡ true
  revoke_form k g = revoked_form k g (revoke_refusal (grant_in k.grants g)) refl

  -- ---- a close

  sent_form : (old : Kernel) (g : ℕ) (id : FlightId) (o : Option Routed) → is_allowed_outcome Event.Close (own_packet_out old (λ held. Said.CloseSent g id held) o).outcome ≡ true
  sent_form old g id None = refl
  sent_form old g id (Some r) = refl

  due_form : (k : Kernel) (g : ℕ) (o : Option Grant) → is_allowed_outcome Event.Close (close_of h k g o).outcome ≡ true
  due_form k g None = refl
  due_form k g (Some x) =
      let k1 : Kernel = record k { next = k.next + 1; grants = change_grant k.grants g (λ y. record y { close_sent = true }) } in
      sent_form k g (kernel_id k) (route h (Packet.Close (kernel_id k) (holder x.line) (holder_ep x.line) g) k1)

  least_form : (k : Kernel) (o : Option ℕ) → is_allowed_outcome Event.Close (close_least h k o).outcome ≡ true
  least_form k None = refl
  least_form k (Some g) = due_form k g (grant_in k.grants g)

  pub close_form : (k : Kernel) → is_allowed_outcome Event.Close (kernel_close h k).outcome ≡ true
  close_form k = least_form k (least_closing k.grants 1 k.grants)
