use Rattle.std.proofs.Common.{◌≡◌, ◌≤◌, [], length, subst}
use Rattle.m3_base.specs.Journal.Entry.{IsRun, state_after_entries}
use Rattle.m3_base.specs.Ideal.Opening.{opening}
use Rattle.m3_base.specs.Placement.Opening.{placement_at_opening}
use Rattle.m3_base.specs.Journal.Replies.{printed_replies, ideal_replies, steps_in}
use Rattle.m3_base.specs.Setup.Rules.{IsValid}
use Rattle.m3_base.proofs.PrintedReplies.{seen_given}
use Rattle.m3_laws.specs.JournalLaws.{AfterEach, KeepsLaws}
use Rattle.m3_trace.specs.Invariant.{PlacementRun}
use Rattle.m3_trace.proofs.ProgramCalls.{ends_last}
use Rattle.m3_trace.proofs.TraceGrows.{trace_run, trace_reaches, trace_places, trace_laws}
use Rattle.m3_base.specs.Calls.JournalCalls.{all_calls}
use Rattle.m3_machine.specs.ProgramCalls.{AreCalled, HasPrograms, meanings_of}
use Rattle.m3_model.specs.SetupOpening.{opened_site}
use Rattle.m3_trace.specs.ProgramEnds.{EndsLast}
use Rattle.m3_machine.specs.MachineView.{ideal, placement}
use Rattle.m3_machine.proofs.machine.Machine.recorder.Goals as goal

pub returns-clause-valid : goal.returns-clause-valid
returns-clause-valid g c = subst (λ w. IsValid w.setup) c.self.view_is c.self.invariant.trace.valid

pub returns-clause-few : goal.returns-clause-few
returns-clause-few g c = subst (λ w. length w.entries ≤ 2097152) c.self.view_is c.self.invariant.trace.few

pub returns-clause-run : goal.returns-clause-run
returns-clause-run g c =
    let m = c.self.inside in
    let s = g.R.Recorder.setup m.recorder in
    let es = g.R.Recorder.entries m.recorder in
    subst (λ w. IsRun (opening w.setup.memory w.setup.lines) w.entries) c.self.view_is (trace_run s es m.engine.machine c.self.invariant.trace)

pub returns-clause-reaches : goal.returns-clause-reaches
returns-clause-reaches g c =
    let m = c.self.inside in
    let s = g.R.Recorder.setup m.recorder in
    let es = g.R.Recorder.entries m.recorder in
    subst (λ w. state_after_entries (opening w.setup.memory w.setup.lines) w.entries ≡ ideal w) c.self.view_is (trace_reaches s es m.engine.machine c.self.invariant.trace)

pub returns-clause-replies : goal.returns-clause-replies
returns-clause-replies g c a =
    let m = c.self.inside in
    let s = g.R.Recorder.setup m.recorder in
    let es = g.R.Recorder.entries m.recorder in
    subst (λ w. printed_replies a (opening w.setup.memory w.setup.lines) w.entries ≡ ideal_replies a (opening w.setup.memory w.setup.lines) (steps_in w.entries)) c.self.view_is (
    seen_given a (opening s.memory s.lines) es (trace_run s es m.engine.machine c.self.invariant.trace)
    )

pub returns-clause-places : goal.returns-clause-places
returns-clause-places g c =
    let m = c.self.inside in
    let s = g.R.Recorder.setup m.recorder in
    let es = g.R.Recorder.entries m.recorder in
    subst (λ w. PlacementRun (opening w.setup.memory w.setup.lines) (placement_at_opening w.setup.lines) w.entries (placement w)) c.self.view_is (trace_places s es m.engine.machine c.self.invariant.trace)

pub returns-clause-laws : goal.returns-clause-laws
returns-clause-laws g c =
    let m = c.self.inside in
    let s = g.R.Recorder.setup m.recorder in
    let es = g.R.Recorder.entries m.recorder in
    subst (λ w. AfterEach (KeepsLaws (opening w.setup.memory w.setup.lines)) w.entries) c.self.view_is (trace_laws s es m.engine.machine c.self.invariant.trace)

pub returns-clause-reach : goal.returns-clause-reach
returns-clause-reach g c =
    subst (λ w. AreCalled g.P.Program.moves w.initial (meanings_of g.P.Program.meaning w.initial) (λ a. all_calls a (opening w.setup.memory w.setup.lines) w.entries) w.meanings) c.self.view_is c.self.invariant.calls

pub returns-clause-there : goal.returns-clause-there
returns-clause-there g c = subst (λ w. HasPrograms (opened_site w.setup) w.initial) c.self.view_is c.self.invariant.there

pub returns-clause-ends : goal.returns-clause-ends
returns-clause-ends g c a =
    let m = c.self.inside in
    let s = g.R.Recorder.setup m.recorder in
    let es = g.R.Recorder.entries m.recorder in
    subst (λ w. EndsLast (all_calls a (opening w.setup.memory w.setup.lines) w.entries)) c.self.view_is (ends_last s es m.engine.machine c.self.invariant.trace a)
