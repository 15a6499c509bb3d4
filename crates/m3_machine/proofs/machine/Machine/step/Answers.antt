use Rattle.std.proofs.Common.{◌≡◌, ◌<◌, ◌+◌, ◌++◌, ◌∷◌, [], List, Option, length, refl, sym, ap, subst, ◌∙◌, arith}
use Rattle.m3_base.specs.declared.event.Entry.{Entry}
use Rattle.m3_base.specs.declared.event.Event.{Event}
use Rattle.m3_base.specs.declared.order.Order.{Order}
use Rattle.m3_base.specs.DriverRun.Configuration.{orders_after}
use Rattle.m3_base.specs.Setup.Rules.{SetupValue}
use Rattle.m3_model.specs.Config.Site.{Site}
use Rattle.m3_model.specs.Events.{IsOfSetup}
use Rattle.m3_trace.specs.JournalEntry.{entry}
use Rattle.m3_machine.specs.EventNames.{NamesActs}
use Rattle.m3_machine.specs.MachineStep.{IsStep}
use Rattle.m3_machine.specs.MachineView.{MachineValue}
use Rattle.m3_machine.specs.OrdersLeft.{without_first}
use Rattle.m3_machine.specs.ProgramCalls.{meanings_of}
use Rattle.m3_machine.specs.RecorderEntries.{entries_with}
use Rattle.m3_machine.proofs.MachineSteps.{all_heard, all_there, kept_bounds, next_bounds, same_bounds, step_between, step_is}
use Rattle.m3_machine.proofs.OrdersLeft.{left_after}
use Rattle.m3_machine.proofs.SetupEvents.{of_setup}
use Rattle.m3_machine.proofs.machine.Machine.step.Goals as goal

pub make-requires-clause-declared : goal.make-requires-clause-declared
make-requires-clause-declared g c =
    let m = c.self.inside in
    let s = g.R.Recorder.setup m.recorder in
    let names : NamesActs s c.args.event = subst (λ w. NamesActs w.setup c.args.event) (sym c.self.view_is) c.requires.names in
    subst (λ (h : Site). IsOfSetup h c.args.event) (sym c.self.invariant.site) (of_setup s c.self.invariant.trace.valid c.args.event names)

pub make-requires-clause-heard : goal.make-requires-clause-heard
make-requires-clause-heard g c =
    let m = c.self.inside in
    all_heard g.P.Program.meaning g.P.Program.moves (g.R.Recorder.setup m.recorder) (g.R.Recorder.entries m.recorder) m.count m.engine m.orders m.initial.value.items m.programs.items c.self.invariant

pub make-requires-clause-there : goal.make-requires-clause-there
make-requires-clause-there g c =
    let m = c.self.inside in
    all_there g.P.Program.meaning g.P.Program.moves (g.R.Recorder.setup m.recorder) (g.R.Recorder.entries m.recorder) m.count m.engine m.orders m.initial.value.items m.programs.items c.self.invariant

pub invariant_of-self-in_err-outcome : goal.invariant_of-self-in_err-outcome
invariant_of-self-in_err-outcome g c =
    let m = c.self.inside in
    let s = g.R.Recorder.setup m.recorder in
    let es = g.R.Recorder.entries m.recorder in
    let old = m.engine in
    same_bounds g.P.Program.meaning g.P.Program.moves m.initial.value.items c.make.new.programs.items s (g.R.Recorder.setup c.note.new.self) es (g.R.Recorder.entries c.note.new.self) m.count old c.make.new.engine m.orders m.orders
    c.note.ensures.setup c.note.ensures.entries c.in_err-outcome.ensures.err refl
    (kept_bounds g.P.Program.meaning g.P.Program.moves s es m.count old m.orders m.initial.value.items m.programs.items c.self.invariant c.make.new.programs.items c.in_err-outcome.ensures.kept)

pub invariant_of-self-2 : goal.invariant_of-self-2
invariant_of-self-2 g c =
    let m = c.self.inside in
    let s = g.R.Recorder.setup m.recorder in
    let es = g.R.Recorder.entries m.recorder in
    let old = m.engine in
    let new = c.make.new.engine in
    let e = c.args.event in
    let o = c.in_ok-outcome.outcome in
    let names : NamesActs s e = subst (λ w. NamesActs w.setup e) (sym c.self.view_is) c.requires.names in
    let room : m.count < 2097152 = (let few = c.self.invariant.trace.few in let same = c.self.invariant.count in let more = c.if-self-eq-MOST_ENTRIES.false in omega arith) in
    let added : g.R.Recorder.entries c.add.new.self ≡ es ++ entry e o ∷ [] =
    c.add.ensures.entries ∙ (λ i. entries_with (c.note.ensures.entries i) (c.in_ok-note.ensures.pending i) o) in
    let left : c.spend.new.self ≡ orders_after m.orders e = c.spend.ensures ∙ ap (λ b. without_first b m.orders) c.is_order-spends.ensures ∙ left_after m.orders e in
    same_bounds g.P.Program.meaning g.P.Program.moves m.initial.value.items c.make.new.programs.items s (g.R.Recorder.setup c.add.new.self) (es ++ entry e o ∷ []) (g.R.Recorder.entries c.add.new.self) (m.count + 1) new new (orders_after m.orders e) c.spend.new.self
    (c.add.ensures.setup ∙ c.note.ensures.setup) added refl left
    (next_bounds g.P.Program.meaning g.P.Program.moves s es m.count old m.orders m.initial.value.items m.programs.items c.self.invariant new c.make.new.programs.items e o names c.in_ok-outcome.ensures.within c.in_ok-outcome.ensures.ok c.in_ok-outcome.ensures.asked room)

pub returns-clause-ok : goal.returns-clause-ok
returns-clause-ok g c =
    let m = c.self.inside in
    let s = g.R.Recorder.setup m.recorder in
    let es = g.R.Recorder.entries m.recorder in
    let old = m.engine in
    let new = c.make.new.engine in
    let e = c.args.event in
    let o = c.in_ok-outcome.outcome in
    let names : NamesActs s e = subst (λ w. NamesActs w.setup e) (sym c.self.view_is) c.requires.names in
    let setup : g.R.Recorder.setup c.add.new.self ≡ s = c.add.ensures.setup ∙ c.note.ensures.setup in
    let added : g.R.Recorder.entries c.add.new.self ≡ es ++ entry e o ∷ [] =
    c.add.ensures.entries ∙ (λ i. entries_with (c.note.ensures.entries i) (c.in_ok-note.ensures.pending i) o) in
    let left : c.spend.new.self ≡ orders_after m.orders e = c.spend.ensures ∙ ap (λ b. without_first b m.orders) c.is_order-spends.ensures ∙ left_after m.orders e in
    step_between g.P.Program.moves g.P.Program.meaning e s (g.R.Recorder.setup c.add.new.self) new.machine (es ++ entry e o ∷ []) (g.R.Recorder.entries c.add.new.self) (orders_after m.orders e) c.spend.new.self m.initial.value.items c.make.new.programs.items
    _ _ c.self.view_is setup added left
    (step_is g.P.Program.meaning g.P.Program.moves s es m.count old m.orders m.initial.value.items m.programs.items c.self.invariant new c.make.new.programs.items e o names c.in_ok-outcome.ensures.within c.in_ok-outcome.ensures.ok c.in_ok-outcome.ensures.asked)
