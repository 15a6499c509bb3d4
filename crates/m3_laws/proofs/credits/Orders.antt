-- What the steps of grants do to credits.
use Rattle.std.proofs.Common.{◌≡◌, ◌≢◌, ℕ, ◌+◌, ◌<◌, false, length, Some, refl, ap, arith}
use Rattle.std.proofs.lemmas.Bool.Decides.{nat_tests}
use Rattle.m3_base.specs.declared.ids.FlightId.{FlightId}
use Rattle.m3_base.specs.declared.packet.Packet.{Packet}
use Rattle.m3_base.specs.declared.packet.Fresh.{Fresh}
use Rattle.m3_base.specs.declared.order.GrantLine.{GrantLine}
use Rattle.m3_base.specs.Lists.Counting.{one}
use Rattle.m3_base.specs.Ideal.Flights.{name_of, same_name, name_before, flight, end_flight}
use Rattle.m3_base.specs.Ideal.Context.{Endpoint, Free, Sends, Receives, Reaches, Context, endpoint, with_endpoint, new_endpoint}
use Rattle.m3_base.specs.Ideal.Landing.{closed_at}
use Rattle.m3_base.specs.Ideal.State.{State, Grant, holder, holder_ep, context_of, put_context, act_of, same_act, act_before}
use Rattle.m3_base.specs.Ideal.GrantRules.{with_grant_made, close_sent, kernel_id}
use Rattle.m3_base.specs.Ideal.Credits.{carries_credit, queued_credits, credits}
use Rattle.m3_base.proofs.KeyedList.{total-replaced, total-without, total-inserted, how_many-inserted, how_many-without}
use Rattle.m3_laws.proofs.credits.EndpointWeights.{weight, context_weight}
use Rattle.m3_laws.proofs.credits.Issue.{weight-with_endpoint}
use Rattle.m3_laws.proofs.credits.Land.{credits_are, how_many-agree, carries-put, SameBack}
use Rattle.m3_base.proofs.Counting.{total-set}
use Rattle.m3_base.specs.Ideal.Step.{after_ending}

-- Make: the new grant's limit waits in its Install
pub make_credits : (g : ℕ) (s : State) (line : GrantLine) (f : Fresh) → credits g (with_grant_made s line f) ≡ credits g s + queued_credits g (Packet.Install (kernel_id s) (holder line) (holder_ep line) f)
make_credits g s line f =
    let p : Packet = Packet.Install (kernel_id s) (holder line) (holder_ep line) f in
    omega (
      arith,
      credits_are g s,
      credits_are g (with_grant_made s line f),
      total-inserted name_of same_name name_before (queued_credits g) p s.flights,
      how_many-inserted name_of same_name name_before (carries_credit g s.contexts) p s.flights,
    )

-- Close is sent: nothing changes
pub close_credits : (g h : ℕ) (s : State) (x : Grant) → credits g (close_sent s h x) ≡ credits g s
close_credits g h s x =
    let p : Packet = Packet.Close (kernel_id s) (holder x.line) (holder_ep x.line) h in
    omega (
      arith,
      credits_are g s,
      credits_are g (close_sent s h x),
      total-inserted name_of same_name name_before (queued_credits g) p s.flights,
      how_many-inserted name_of same_name name_before (carries_credit g s.contexts) p s.flights,
    )

-- ---- a flight of the kernel's ends, and one endpoint changes

pub kernel_ended : (g : ℕ) (s : State) (id : FlightId) (c d : Context) (p : Packet) → SameBack c d → context_of d.act s.contexts ≡ Some c → flight id s.flights ≡ Some p → carries_credit g s.contexts p ≡ false → context_weight g d ≡ context_weight g c + queued_credits g p → credits g (after_ending s id d) ≡ credits g s
kernel_ended g s id c d p back at find none w =
    omega (
      arith,
      w,
      ap one none,
      credits_are g s,
      credits_are g (after_ending s id d),
      total-replaced act_of same_act act_before (context_weight g) d c s.contexts at,
      total-without name_of same_name name_before (queued_credits g) id p s.flights find,
      how_many-without name_of same_name name_before (carries_credit g s.contexts) id p s.flights find,
      how_many-agree (carries_credit g (put_context d s.contexts)) (carries_credit g s.contexts) (carries-put g s.contexts c d back at) (end_flight id s.flights),
    )

weight-opened : (g : ℕ) (f : Fresh) (id : FlightId) (to ep : ℕ) → weight g (new_endpoint f) ≡ queued_credits g (Packet.Install id to ep f)
weight-opened g (Fresh.Send h a b k label size limit) id to ep = grind (arith, nat_tests)
weight-opened g (Fresh.Receive h slots size) id to ep = refl
weight-opened g (Fresh.Memory h start length perm) id to ep = refl

weight-closed : (g : ℕ) (e : Endpoint) → weight g (closed_at e) ≡ weight g e
weight-closed g Free = refl
weight-closed g (Sends r) = refl
weight-closed g (Receives r) = refl
weight-closed g (Reaches r) = refl

-- an Install lands at a free endpoint; what other commands get back stays, if it was free for them too
pub install_weight : (g : ℕ) (c : Context) (ep : ℕ) (f : Fresh) (id : FlightId) (to : ℕ) → ep < length c.endpoints → endpoint c ep ≡ Free → context_weight g (with_endpoint c ep (new_endpoint f)) ≡ context_weight g c + queued_credits g (Packet.Install id to ep f)
install_weight g c ep f id to in' free = omega (arith, total-set (weight g) c.endpoints ep (new_endpoint f) Free in', ap (weight g) free, weight-opened g f id to ep)

pub close_weight : (g : ℕ) (c : Context) (ep : ℕ) → endpoint c ep ≢ Free → context_weight g (with_endpoint c ep (closed_at (endpoint c ep))) ≡ context_weight g c
close_weight g c ep used = omega (arith, weight-with_endpoint g c.endpoints ep (endpoint c ep) (closed_at (endpoint c ep)) refl used, weight-closed g (endpoint c ep))

-- an endpoint becomes free: exactly what it held and owed is gone
pub free_weight : (g : ℕ) (c : Context) (ep : ℕ) → endpoint c ep ≢ Free → context_weight g (with_endpoint c ep Free) + weight g (endpoint c ep) ≡ context_weight g c
free_weight g c ep used = omega (arith, weight-with_endpoint g c.endpoints ep (endpoint c ep) Free refl used)
