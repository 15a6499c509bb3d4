-- Grants, revokes and Closes as steps of the kernel, and why they are refused.
use Rattle.std.proofs.Common.{◌≡◌, ℕ, ◌+◌, ◌-◌, Bool, true, false, List, [], ◌∷◌, ◌++◌, length, Option, Some, None, Result, Ok, Err, refl, sym, ap, ◌∙◌, arith}
use Rattle.std.specs.Prelude.{slice_get, is_none, not, ◌&&◌, ◌||◌, nat_le, if◌then◌else◌}
use Rattle.std.specs.List.{list_any}
use Rattle.std.specs.Result.{IsErr, IsErrAnd}
use Rattle.std.proofs.lemmas.Bool.Decides.{nat_tests}
use Rattle.m3_base.specs.declared.event.No.{No}
use Rattle.m3_base.specs.declared.event.Said.{Said}
use Rattle.m3_base.specs.declared.order.GrantLine.{GrantLine}
use Rattle.m3_base.specs.declared.order.Order.{Order}
use Rattle.m3_base.specs.declared.packet.Fresh.{Fresh}
use Rattle.m3_base.specs.declared.packet.Packet.{Packet}
use Rattle.m3_base.specs.Ideal.GrantRules.{first_no, form, fresh_of, holds_at, is_above_closing, is_closing_grant, is_crowded, is_more, is_open_child, is_outside, make_refusal, may_close, new_grant}
use Rattle.m3_base.specs.Ideal.State.{Standing, Live, Closing, Closed, Done, Grant, grant_in, holder, holder_ep, is_done, undone}
use Rattle.m3_base.specs.Placement.Order.{least_closing}
use Rattle.m3_base.specs.Setup.GrantTable.{above, with_made}
use Rattle.m3_base.specs.Setup.Rules.{with_grant}
use Rattle.std.proofs.lemmas.Bool.{and_parts}
use Rattle.m3_base.proofs.GrantsByNumber.{grant_in-last}
use Rattle.m3_core.specs.declared.parcel.Emit.{Emit}
use Rattle.m3_grants.specs.declared.refusal.GrantRefusal.{GrantRefusal}
use Rattle.m3_grants.specs.GrantTree.{cause}
use Rattle.m3_grants.proofs.NodeLookup.{least_due}
use Rattle.m3_model.specs.Config.Site.{Site}
use Rattle.m3_model.specs.Kernel.State.{Kernel}
use Rattle.m3_model.specs.Kernel.Step.{kernel_id, kernel_order, make_with, own_packet_out, route_to}
use Rattle.m3_model.specs.LocalStep.{LocalResult, local_result}
use Rattle.m3_kernel.specs.OrderAnswers.{RefusesOrder, refused_for}
use Rattle.m3_kernel.specs.ParcelView.{out_of}
use Rattle.m3_kernel.specs.StepContracts.{IsSeatOf, Routes}
use Rattle.m3_kernel.specs.declared.order.Ordered.{Ordered}
use Rattle.m3_kernel.specs.declared.order.OrderRefusal.{OrderRefusal}

pub none_some : {X : Type 0} (o : Option X) (x : X) → o ≡ None → o ≡ Some x → ⊥
none_some o x e f = cc

pub some_same : {X : Type 0} (x y : X) → Some x ≡ Some y → x ≡ y
some_same x y e = cc

-- the kernel with other grants
abbrev pub with_grants : Kernel → List Grant → Kernel
with_grants k gs = record k { grants = gs }

-- ---- refusals

-- the error that a refusal of the grants becomes
pub error_is : (r : Result Ordered OrderRefusal) (why : GrantRefusal) → IsErr r → IsErrAnd r (λ e. e ≡ refused_for why) → r ≡ Err (refused_for why)
error_is (Ok x) why is and = absurd (cc)
error_is (Err e) why is and = ap (λ z. Err z) and

pub refused : (r : GrantRefusal) (old new : Kernel) (step : LocalResult Kernel) → new ≡ old → ((why : No) → cause r ≡ Some why → step ≡ local_result (Said.No why) old []) → RefusesOrder (refused_for r) old new step
refused GrantRefusal.NoGrant old new step kept f = record { kept = kept; refused = f No.NoGrant refl }
refused GrantRefusal.Closing old new step kept f = record { kept = kept; refused = f No.Closing refl }
refused GrantRefusal.SlotTaken old new step kept f = record { kept = kept; refused = f No.SlotTaken refl }
refused GrantRefusal.OutsideParent old new step kept f = record { kept = kept; refused = f No.OutsideParent refl }
refused GrantRefusal.MorePermission old new step kept f = record { kept = kept; refused = f No.MorePermission refl }
refused GrantRefusal.TooMany old new step kept f = record { kept = kept; refused = f No.TooMany refl }
refused GrantRefusal.NoMemory old new step kept f = kept

-- ---- a grant

-- a line that isn't refused has a record
pub record_there : (memory : ℕ) (gs : List Grant) (line : GrantLine) → make_refusal memory gs line ≡ None → (f : Fresh) × (form (length gs + 1) line (above gs line) ≡ Some f)
record_there memory gs line free =
    let o = above gs line in
    by_form (form (length gs + 1) line o) (
    (is_above_closing o, No.Closing)
    ∷ (list_any (holds_at (holder line) (holder_ep line)) gs, No.SlotTaken)
    ∷ (is_outside memory line (fresh_of o), No.OutsideParent)
    ∷ (is_more line (fresh_of o), No.MorePermission)
    ∷ (nat_le 4096 (length gs) || is_crowded line gs, No.TooMany)
    ∷ []
    ) free
  where
    by_form : (o : Option Fresh) (ts : List (Bool × No)) → first_no ((is_none o, No.NoGrant) ∷ ts) ≡ None → (f : Fresh) × (o ≡ Some f)
    by_form None ts e = absurd (cc)
    by_form (Some f) ts e = (f, refl)

module _ (h : Site) (k : Kernel) (line : GrantLine) (memory : ℕ) (size : memory ≡ h.memory) where
  pub grant_refused : (why : No) → make_refusal memory k.grants line ≡ Some why → kernel_order h k (Order.Grant line) ≡ local_result (Said.No why) k []
  grant_refused why e =
      let r : make_refusal h.memory k.grants line ≡ Some why = ap (λ m. make_refusal m k.grants line) (sym size) ∙ e in
      ap (λ o. make_with h k line o (form (length k.grants + 1) line (above k.grants line))) r

  module _ (free : make_refusal memory k.grants line ≡ None) where
    abbrev pub made : Fresh
    made = (record_there memory k.grants line free).0

    -- the kernel with the grant, and with its number used
    abbrev pub with_new : Kernel
    with_new = record k { next = k.next + 1; grants = k.grants ++ new_grant line made ∷ [] }

    pub grants_new : with_made line k.grants ≡ with_new.grants
    grants_new = ap (with_grant line k.grants) (record_there memory k.grants line free).1

    pub record_new : fresh_of (undone (grant_in with_new.grants (length k.grants + 1))) ≡ Some made
    record_new = ap (λ o. fresh_of (undone o)) (grant_in-last k.grants (new_grant line made))

    abbrev pub install : Packet
    install = Packet.Install (kernel_id k) (holder line) (holder_ep line) made

    pub granted : (at : ℕ) → IsSeatOf k (holder line) at → (emit : Option Emit) (new : Kernel) (g : ℕ) → g ≡ length k.grants + 1 → Routes h with_new at install emit new
        → kernel_order h k (Order.Grant line) ≡ local_result (Said.Granted g (kernel_id k) (is_none emit)) new (out_of emit)
    granted at place emit new g number routes =
        let r : make_refusal h.memory k.grants line ≡ None = ap (λ m. make_refusal m k.grants line) (sym size) ∙ free in
        ap (λ o. make_with h k line o (form (length k.grants + 1) line (above k.grants line))) r
        ∙ ap (make_with h k line None) (record_there memory k.grants line free).1
        ∙ ap (λ o. own_packet_out k (λ held. Said.Granted (length k.grants + 1) (kernel_id k) held) (route_to h install with_new o)) (place.found ∙ sym place.here)
        ∙ ap (own_packet_out k (λ held. Said.Granted (length k.grants + 1) (kernel_id k) held)) routes
        ∙ ap (λ n. local_result (Said.Granted n (kernel_id k) (is_none emit)) new (out_of emit)) (sym number)

-- ---- a Close

not_done : (s : Standing) → is_closing_grant s ≡ true → is_done s ≡ false
not_done Live e = refl
not_done Closing e = refl
not_done Closed e = refl
not_done Done e = absurd (cc)

-- the grant that is due is there, and isn't done
pub due_there : (gs : List Grant) (g : ℕ) → least_closing gs 1 gs ≡ Some g → (x : Grant) × ((grant_in gs g ≡ Some x) × (undone (grant_in gs g) ≡ Some x))
due_there gs g e = by_grant (slice_get gs (g - 1)) refl (least_due gs 1 gs g e).1
  where
    at : grant_in gs g ≡ slice_get gs (g - 1)
    at = let some = (least_due gs 1 gs g e).0 in grind (arith, nat_tests, some)

    by_grant : (o : Option Grant) → slice_get gs (g - 1) ≡ o → may_close gs g o ≡ true → (x : Grant) × ((grant_in gs g ≡ Some x) × (undone (grant_in gs g) ≡ Some x))
    by_grant None w m = absurd (cc)
    by_grant (Some x) w m =
        let closes = (and_parts (is_closing_grant x.standing) (not x.close_sent && not (list_any (is_open_child g) gs)) m).0 in
        (x, (at ∙ w, ap undone (at ∙ w) ∙ ap (λ b. if b then None else Some x) (not_done x.standing closes)))
