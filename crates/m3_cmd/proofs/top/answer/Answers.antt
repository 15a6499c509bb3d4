use Rattle.std.proofs.Common.{◌≤◌, length, sym, subst}
use Rattle.std.specs.Prelude.{IfOk}
use Rattle.m3_cmd.specs.CommandLine.{limit_of}
use Rattle.m3_cmd.specs.OutputContract.{IsAnswer}
use Rattle.m3_cmd.specs.declared.words.InputForm.{InputForm}
use Rattle.m3_cmd.proofs.top.answer.Goals as goal

pub run_script-requires : goal.run_script-requires
run_script-requires c = subst (λ (form : InputForm). length c.args.bytes.now ≤ limit_of form) c.in-Run.is c.requires

pub auto_script-requires : goal.auto_script-requires
auto_script-requires c = subst (λ (form : InputForm). length c.args.bytes.now ≤ limit_of form) c.in-Auto.is c.requires

pub check_journal-requires : goal.check_journal-requires
check_journal-requires c = subst (λ (form : InputForm). length c.args.bytes.now ≤ limit_of form) c.in-Check.is c.requires

pub show_packets-requires : goal.show_packets-requires
show_packets-requires c = subst (λ (form : InputForm). length c.args.bytes.now ≤ limit_of form) c.in-Show.is c.requires

pub returns-in-Run : goal.returns-in-Run
returns-in-Run c =
    subst (λ (form : InputForm). IfOk c.run_script.result (λ o. IsAnswer form c.args.bytes.now o.status o.text.items)) (sym c.in-Run.is) c.run_script.ensures

pub returns-in-Auto : goal.returns-in-Auto
returns-in-Auto c =
    subst (λ (form : InputForm). IfOk c.auto_script.result (λ o. IsAnswer form c.args.bytes.now o.status o.text.items)) (sym c.in-Auto.is) c.auto_script.ensures

pub returns-in-Check : goal.returns-in-Check
returns-in-Check c =
    subst (λ (form : InputForm). IfOk c.check_journal.result (λ o. IsAnswer form c.args.bytes.now o.status o.text.items)) (sym c.in-Check.is) c.check_journal.ensures

pub returns-in-Show : goal.returns-in-Show
returns-in-Show c =
    subst (λ (form : InputForm). IfOk c.show_packets.result (λ o. IsAnswer form c.args.bytes.now o.status o.text.items)) (sym c.in-Show.is) c.show_packets.ensures
