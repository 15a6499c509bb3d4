-- What orders and Closes come to, as the local steps have it.
use Rattle.std.specs.Prelude.{◌≡◌, ℕ, ◌<◌, true, [], Option, Some, None, Result, Ok, Err, is_none}
use Rattle.m3_base.specs.declared.event.IdleWhy.{IdleWhy}
use Rattle.m3_base.specs.declared.event.No.{No}
use Rattle.m3_base.specs.declared.event.Said.{Said}
use Rattle.m3_base.specs.declared.order.Order.{Order}
use Rattle.m3_base.specs.Placement.Order.{least_closing}
use Rattle.m3_base.specs.Ideal.State.{Grant, grant_in, holder}
use Rattle.m3_grants.specs.declared.refusal.GrantRefusal.{GrantRefusal}
use Rattle.m3_grants.specs.GrantTree.{cause}
use Rattle.m3_model.specs.Kernel.State.{Kernel}
use Rattle.m3_model.specs.Kernel.Step.{entry_of}
use Rattle.m3_model.specs.LocalStep.{LocalResult, local_result, idle_result}
use Rattle.m3_kernel.specs.KernelQueries.{is_seated}
use Rattle.m3_kernel.specs.ParcelView.{out_of}
use Rattle.m3_kernel.specs.declared.order.CloseSent.{CloseSent}
use Rattle.m3_kernel.specs.declared.order.Ordered.{Ordered}
use Rattle.m3_kernel.specs.declared.order.OrderRefusal.{OrderRefusal}

-- ---- what is asked

-- there is a number for one more packet of the kernel
abbrev pub HasNumber : Kernel → Type 0
HasNumber k = k.next < 4294967295

-- the holder of a grant that is to be made has a seat
abbrev pub HolderIsSeated : Kernel → Order → Type 0
HolderIsSeated k (Order.Grant line) = is_seated (entry_of (holder line) k) ≡ true
HolderIsSeated k o = Unit {0}

-- each grant's holder has a seat
abbrev pub HoldersAreSeated : Kernel → Type 0
HoldersAreSeated k = (g : ℕ) (x : Grant) → grant_in k.grants g ≡ Some x → is_seated (entry_of (holder x.line) k) ≡ true

-- a switch takes no memory
abbrev pub MayTakeMemory : Order → Type 0
MayTakeMemory (Order.Switch t a) = ⊥
MayTakeMemory o = Unit {0}

-- ---- orders

-- why an order is refused; that no memory is left isn't a cause
abbrev pub cause_of_order : OrderRefusal → Option No
cause_of_order OrderRefusal.NotHome = Some No.NotHome
cause_of_order OrderRefusal.Already = Some No.Already
cause_of_order OrderRefusal.Leaving = Some No.Leaving
cause_of_order (OrderRefusal.Grant why) = cause why
cause_of_order OrderRefusal.NoMemory = None

abbrev pub refused_for : GrantRefusal → OrderRefusal
refused_for GrantRefusal.NoMemory = OrderRefusal.NoMemory
refused_for why = OrderRefusal.Grant why

-- the step refuses so, and the kernel is as before
pub record Refuses (why : No) (old new : Kernel) (step : LocalResult Kernel) : Type 0 where
  pub kept : new ≡ old
  pub refused : step ≡ local_result (Said.No why) old []

-- the refusal of a grant or a revoke; that no memory is left isn't one
abbrev pub RefusesGrant : GrantRefusal → Kernel → Kernel → LocalResult Kernel → Type 0
RefusesGrant GrantRefusal.NoGrant = Refuses No.NoGrant
RefusesGrant GrantRefusal.Closing = Refuses No.Closing
RefusesGrant GrantRefusal.SlotTaken = Refuses No.SlotTaken
RefusesGrant GrantRefusal.OutsideParent = Refuses No.OutsideParent
RefusesGrant GrantRefusal.MorePermission = Refuses No.MorePermission
RefusesGrant GrantRefusal.TooMany = Refuses No.TooMany
RefusesGrant GrantRefusal.NoMemory = λ old new step. ⊥

abbrev pub RefusesOrder : OrderRefusal → Kernel → Kernel → LocalResult Kernel → Type 0
RefusesOrder OrderRefusal.NotHome = Refuses No.NotHome
RefusesOrder OrderRefusal.Already = Refuses No.Already
RefusesOrder OrderRefusal.Leaving = Refuses No.Leaving
RefusesOrder (OrderRefusal.Grant why) = RefusesGrant why
RefusesOrder OrderRefusal.NoMemory = λ old new step. new ≡ old

-- the answer to an order and the kernel after it are those of the local step; want of memory changes nothing
abbrev pub Orders : Result Ordered OrderRefusal → Kernel → Kernel → LocalResult Kernel → Type 0
Orders (Ok (Ordered.Save leaving emit)) old new step = step ≡ local_result (Said.Save leaving) new (out_of (Some emit))
Orders (Ok (Ordered.Granted g id emit)) old new step = step ≡ local_result (Said.Granted g id (is_none emit)) new (out_of emit)
Orders (Ok (Ordered.Revoking g)) old new step = step ≡ local_result (Said.Revoking g) new []
Orders (Err why) old new step = RefusesOrder why old new step

-- ---- Closes

abbrev pub is_sent : CloseSent → Kernel → LocalResult Kernel
is_sent x new = local_result (Said.CloseSent x.grant x.id (is_none x.emit)) new (out_of x.emit)

-- no Close exactly where no grant is due
abbrev pub IsNoneDue : Option CloseSent → Kernel → Type 0
IsNoneDue None k = least_closing k.grants 1 k.grants ≡ None
IsNoneDue (Some x) k = least_closing k.grants 1 k.grants ≡ Some x.grant

-- the Close of the grant that is due, or none, and the kernel after it are those of the local step
abbrev pub Closes : Option CloseSent → Kernel → LocalResult Kernel → Type 0
Closes None new step = step ≡ idle_result IdleWhy.NothingToClose new
Closes (Some x) new step = step ≡ is_sent x new
