-- What holds of a machine between any two steps: where its contexts and packets are.
use Rattle.std.specs.Prelude.{◌≡◌, ℕ, true, [], length, Option, Some, None}
use Rattle.m3_base.specs.Ideal.State.{Grant, grant_in, holder, context_of, DistinctActs}
use Rattle.m3_base.specs.Lists.EachElement.{Each}
use Rattle.m3_model.specs.Config.Site.{Site}
use Rattle.m3_model.specs.Config.KnownActivities.{is_home, is_named_context}
use Rattle.m3_model.specs.Kernel.Step.{is_under_close}
use Rattle.m3_model.specs.Machine.{Machine}
use Rattle.m3_model.specs.Abstraction.{all_contexts, all_packets, all_closed, is_in}
use Rattle.m3_model.specs.Invariant.Distinct.{DistinctClosed}
use Rattle.m3_model.specs.Invariant.Housing.{Housing, IsPresent, IsSetup}
use Rattle.m3_model.specs.Invariant.Parcels.{ParcelsOk}
use Rattle.m3_model.specs.Invariant.Scheduling.{Scheduling}
use Rattle.m3_base.specs.Ideal.FlightNames.{Distinct}

abbrev pub CloseWasSent : Option Grant → Type 0
CloseWasSent None = ⊥
CloseWasSent (Some x) = is_under_close x ≡ true

pub record MachineStructure (h : Site) (m : Machine) : Type 0 where
  pub setup : IsSetup h
  pub tiles : length m.tiles ≡ 16
  pub links : length m.links ≡ 256
  -- each activity has one context, wherever it is, and it names activities of the setup alone
  pub acts : DistinctActs (all_contexts m)
  pub known : (a : ℕ) → is_home h a ≡ true → IsPresent (context_of a (all_contexts m))
  pub named : Each (λ c. is_named_context h c ≡ true) (all_contexts m)
  -- no two packets have one name
  pub names : Distinct (all_packets m)
  pub housed : Housing h m
  pub parcels : ParcelsOk h m
  pub seated : Scheduling h m
  -- at most one Closed of a grant is on its way, after its Close was sent and before it is done
  pub closed : DistinctClosed (all_closed m)
  pub shut : (g : ℕ) → is_in (all_closed m) g ≡ true → CloseWasSent (grant_in m.kernel.grants g)
  -- grants are held by activities of the setup
  pub holders : Each (λ x. is_home h (holder x.line) ≡ true) m.kernel.grants
