-- Each entry of a journal keeps the invariant.
use Rattle.std.proofs.Common.{◌≡◌, ℕ, Option, Some, None, refl}
use Rattle.m3_base.specs.declared.event.Event.{Event}
use Rattle.m3_base.specs.declared.event.Said.{Said}
use Rattle.m3_base.specs.declared.event.Made.{Made}
use Rattle.m3_base.specs.declared.event.Outcome.{Outcome}
use Rattle.m3_base.specs.declared.command.Command.{Command}
use Rattle.m3_base.specs.declared.order.Order.{Order}
use Rattle.m3_base.specs.Ideal.State.{State}
use Rattle.m3_base.specs.Ideal.Step.{RunResult, ideal_run}
use Rattle.m3_base.specs.Journal.Entry.{steps_of, ran_to, command_steps, await_steps, turn_steps, landing_steps, then_closed, close_steps}
use Rattle.m3_laws.specs.Laws.{AllFit}
use Rattle.m3_laws.specs.Invariant.{Invariant}
use Rattle.m3_laws.specs.JournalLaws.{FitsEvent}
use Rattle.m3_laws.proofs.invariant.step.Invariant.{invariant_run}

-- ---- an event's steps fit where the event does

command_fit : (a : ℕ) (c : Command) (said : Said) → AllFit (command_steps a c said)
command_fit a c (Said.Idle why) = tt
command_fit a c said = (tt, tt)

await_fit : (a ep : ℕ) (said : Said) → AllFit (await_steps a ep said)
await_fit a ep (Said.Idle why) = tt
await_fit a ep said = (tt, tt)

turn_fit : (a : ℕ) (made : Option Made) (said : Said) → AllFit (turn_steps a made said)
turn_fit a (Some (Made.Command c)) said = command_fit a c said
turn_fit a (Some (Made.Await ep)) said = await_fit a ep said
turn_fit a made said = tt

closed_fit : (o : Option ℕ) → AllFit (then_closed o)
closed_fit None = tt
closed_fit (Some g) = (tt, tt)

landing_fit : (said : Said) → AllFit (landing_steps said)
landing_fit (Said.Landed id) = (tt, tt)
landing_fit (Said.LandRefused id why) = (tt, tt)
landing_fit (Said.Credited id g) = (tt, tt)
landing_fit (Said.Discarded id g) = (tt, tt)
landing_fit (Said.Installed id g) = (tt, tt)
landing_fit (Said.Closing id g) = (tt, tt)
landing_fit (Said.Closed id g) = (tt, (tt, tt))
landing_fit (Said.Answered id answer closed) = (tt, closed_fit closed)
landing_fit (Said.Done g revoked) = (tt, tt)
landing_fit said = tt

close_fit : (said : Said) → AllFit (close_steps said)
close_fit (Said.CloseSent g id held) = (tt, tt)
close_fit said = tt

pub event_fits : (e : Event) (o : Outcome) → FitsEvent e → AllFit (steps_of e o)
event_fits (Event.Do a c) o p = command_fit a c o.said
event_fits (Event.Turn a) o p = turn_fit a o.made o.said
event_fits (Event.Take to from) o p = landing_fit o.said
event_fits (Event.Tend a) o p = landing_fit o.said
event_fits Event.Close o p = close_fit o.said
event_fits (Event.Order (Order.Switch t a)) o p = tt
event_fits (Event.Order (Order.Grant line)) o p = (p, tt)
event_fits (Event.Order (Order.Revoke g)) o p = (tt, tt)
event_fits (Event.File line) o p = tt

-- ---- what holds after an event's steps

pub event_keeps : (s : State) (e : Event) (o : Outcome) → FitsEvent e → Invariant s → Invariant (ran_to (ideal_run (steps_of e o) s) s)
event_keeps s e o p law = by_run (ideal_run (steps_of e o) s) refl
  where
    by_run : (r : Option RunResult) → ideal_run (steps_of e o) s ≡ r → Invariant (ran_to r s)
    by_run None w = law
    by_run (Some r) w = invariant_run s (steps_of e o) r (event_fits e o p) law w
