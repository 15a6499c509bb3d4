-- A kernel after an activity joined a ready list, where it was to.
use Rattle.std.proofs.Common.{◌≡◌, ℕ, Bool, true, false, refl}
use Rattle.m3_model.specs.Kernel.State.{Kernel}
use Rattle.m3_model.specs.Kernel.Step.{join_ready}
use Rattle.m3_sched.specs.SchedView.{joined_lists}

pub join_is : (b : Bool) (t a : ℕ) (k : Kernel) → join_ready b t a k ≡ record k { ready = joined_lists b t a k.ready }
join_is true t a k = refl
join_is false t a k = refl
