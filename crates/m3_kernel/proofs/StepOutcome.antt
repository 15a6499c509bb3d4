-- What the code answers is what a local step says.
use Rattle.std.proofs.Common.{◌≡◌, ℕ, Bool, [], ◌++◌, Option, Some, None, Ok, sym, ap, ◌∙◌, subst}
use Rattle.std.specs.Prelude.{is_none}
use Rattle.m3_base.specs.declared.event.No.{No}
use Rattle.m3_base.specs.declared.event.Said.{Said}
use Rattle.m3_base.specs.declared.ids.FlightId.{FlightId}
use Rattle.m3_core.specs.declared.parcel.Emit.{Emit}
use Rattle.m3_grants.specs.declared.refusal.GrantRefusal.{GrantRefusal}
use Rattle.m3_grants.specs.GrantTree.{cause}
use Rattle.m3_model.specs.Kernel.State.{Kernel}
use Rattle.m3_model.specs.LocalStep.{LocalResult, local_result}
use Rattle.m3_kernel.specs.ParcelView.{out_of}
use Rattle.m3_kernel.specs.OrderAnswers.{Closes, Orders, Refuses, RefusesGrant, RefusesOrder, cause_of_order}
use Rattle.m3_kernel.specs.StepContracts.{Does}
use Rattle.m3_kernel.specs.declared.order.CloseSent.{CloseSent}
use Rattle.m3_kernel.specs.declared.order.Ordered.{Ordered}
use Rattle.m3_kernel.specs.declared.order.OrderRefusal.{OrderRefusal}
use Rattle.m3_kernel.specs.declared.done.Done.{Done}
use Rattle.m3_kernel.proofs.AnswerOut.{nothing_more}

abbrev pub said_done : Said → Option Emit → Done
said_done said first = record { outcome = record { made = None; said = said; restore = None }; first = first; second = None }

abbrev pub restored_done : Said → Option Emit → ℕ → Emit → Done
restored_done said first act second =
    record { outcome = record { made = None; said = said; restore = Some act }; first = first; second = Some second }

pub says_does : (done : Done) (said : Said) (first : Option Emit) (k : Kernel) (deed : LocalResult Kernel) → done ≡ said_done said first → deed ≡ local_result said k (out_of first) → Does done k deed
says_does done said first k deed e f = record {
  outcome = ap (λ d. d.outcome) e ∙ sym (ap (λ d. d.outcome) f);
  part = sym (ap (λ d. d.part) f);
  out = ap (λ d. out_of d.first ++ out_of d.second) e ∙ nothing_more (out_of first) ∙ sym (ap (λ d. d.out) f);
}

pub restores_does : (done : Done) (said : Said) (first : Option Emit) (act : ℕ) (second : Emit) (k : Kernel) (deed : LocalResult Kernel) → done ≡ restored_done said first act second → deed ≡ record { outcome = record { made = None; said = said; restore = Some act }; part = k; out = out_of first ++ out_of (Some second) } → Does done k deed
restores_does done said first act second k deed e f = record {
  outcome = ap (λ d. d.outcome) e ∙ sym (ap (λ d. d.outcome) f);
  part = sym (ap (λ d. d.part) f);
  out = ap (λ d. out_of d.first ++ out_of d.second) e ∙ sym (ap (λ d. d.out) f);
}

-- the same step
pub does_as : (done : Done) (k : Kernel) (d e : LocalResult Kernel) → d ≡ e → Does done k e → Does done k d
does_as done k d e same does = record {
  outcome = does.outcome ∙ sym (ap (λ x. x.outcome) same);
  part = does.part ∙ sym (ap (λ x. x.part) same);
  out = does.out ∙ sym (ap (λ x. x.out) same);
}

-- ---- orders and Closes

pub save_told : (done : Done) (leaving : ℕ) (e : Emit) → done ≡ said_done (Said.Save leaving) (Some e) → (old new : Kernel) (step : LocalResult Kernel) → Orders (Ok (Ordered.Save leaving e)) old new step → Does done new step
save_told done leaving e is old new step at = says_does done (Said.Save leaving) (Some e) new step is at

pub grant_told : (done : Done) (g : ℕ) (id : FlightId) (e : Option Emit) (held : Bool) → held ≡ is_none e → done ≡ said_done (Said.Granted g id held) e → (old new : Kernel) (step : LocalResult Kernel) → Orders (Ok (Ordered.Granted g id e)) old new step → Does done new step
grant_told done g id e held h is old new step at = says_does done (Said.Granted g id held) e new step is (at ∙ ap (λ b. local_result (Said.Granted g id b) new (out_of e)) (sym h))

pub revoke_told : (done : Done) (g : ℕ) → done ≡ said_done (Said.Revoking g) None → (old new : Kernel) (step : LocalResult Kernel) → Orders (Ok (Ordered.Revoking g)) old new step → Does done new step
revoke_told done g is old new step at = says_does done (Said.Revoking g) None new step is at

refuses_told : (done : Done) (why : No) (old new : Kernel) (step : LocalResult Kernel) → done ≡ said_done (Said.No why) None → Refuses why old new step → Does done new step
refuses_told done why old new step is r = says_does done (Said.No why) None new step is (r.refused ∙ ap (λ k. local_result (Said.No why) k []) (sym r.kept))

same_cause : (a b : No) → Some a ≡ Some b → a ≡ b
same_cause a b e = cc

-- of grants
grant_refused_told : (done : Done) (r : GrantRefusal) (why : No) → cause r ≡ Some why → done ≡ said_done (Said.No why) None → (old new : Kernel) (step : LocalResult Kernel) → RefusesGrant r old new step → Does done new step
grant_refused_told done r why e is old new step f = by_cause r e f
  where
    by_why : (a : No) → Some a ≡ Some why → Refuses a old new step → Does done new step
    by_why a e f = refuses_told done why old new step is (subst (λ (n : No). Refuses n old new step) (same_cause a why e) f)

    by_cause : (r : GrantRefusal) → cause r ≡ Some why → RefusesGrant r old new step → Does done new step
    by_cause GrantRefusal.NoGrant e f = by_why No.NoGrant e f
    by_cause GrantRefusal.Closing e f = by_why No.Closing e f
    by_cause GrantRefusal.SlotTaken e f = by_why No.SlotTaken e f
    by_cause GrantRefusal.OutsideParent e f = by_why No.OutsideParent e f
    by_cause GrantRefusal.MorePermission e f = by_why No.MorePermission e f
    by_cause GrantRefusal.TooMany e f = by_why No.TooMany e f
    by_cause GrantRefusal.NoMemory e f = absurd f

pub refused_told : (done : Done) (r : OrderRefusal) (why : No) → cause_of_order r ≡ Some why → done ≡ said_done (Said.No why) None → (old new : Kernel) (step : LocalResult Kernel) → RefusesOrder r old new step → Does done new step
refused_told done r why e is old new step f = by_cause r e f
  where
    by_why : (a : No) → Some a ≡ Some why → Refuses a old new step → Does done new step
    by_why a e f = refuses_told done why old new step is (subst (λ (n : No). Refuses n old new step) (same_cause a why e) f)

    by_cause : (r : OrderRefusal) → cause_of_order r ≡ Some why → RefusesOrder r old new step → Does done new step
    by_cause OrderRefusal.NotHome e f = by_why No.NotHome e f
    by_cause OrderRefusal.Already e f = by_why No.Already e f
    by_cause OrderRefusal.Leaving e f = by_why No.Leaving e f
    by_cause (OrderRefusal.Grant g) e f = grant_refused_told done g why e is old new step f
    by_cause OrderRefusal.NoMemory e f = absurd (cc)

-- no memory was left
pub unmade_kept : (r : OrderRefusal) → cause_of_order r ≡ None → (old new : Kernel) (step : LocalResult Kernel) → RefusesOrder r old new step → new ≡ old
unmade_kept OrderRefusal.NotHome e old new step f = f.kept
unmade_kept OrderRefusal.Already e old new step f = f.kept
unmade_kept OrderRefusal.Leaving e old new step f = f.kept
unmade_kept (OrderRefusal.Grant GrantRefusal.NoGrant) e old new step f = f.kept
unmade_kept (OrderRefusal.Grant GrantRefusal.Closing) e old new step f = f.kept
unmade_kept (OrderRefusal.Grant GrantRefusal.SlotTaken) e old new step f = f.kept
unmade_kept (OrderRefusal.Grant GrantRefusal.OutsideParent) e old new step f = f.kept
unmade_kept (OrderRefusal.Grant GrantRefusal.MorePermission) e old new step f = f.kept
unmade_kept (OrderRefusal.Grant GrantRefusal.TooMany) e old new step f = f.kept
unmade_kept (OrderRefusal.Grant GrantRefusal.NoMemory) e old new step f = absurd f
unmade_kept OrderRefusal.NoMemory e old new step f = f

pub close_told : (done : Done) (x : CloseSent) (held : Bool) → held ≡ is_none x.emit → done ≡ said_done (Said.CloseSent x.grant x.id held) x.emit → (new : Kernel) (step : LocalResult Kernel) → Closes (Some x) new step → Does done new step
close_told done x held h is new step at = says_does done (Said.CloseSent x.grant x.id held) x.emit new step is (at ∙ ap (λ b. local_result (Said.CloseSent x.grant x.id b) new (out_of x.emit)) (sym h))
