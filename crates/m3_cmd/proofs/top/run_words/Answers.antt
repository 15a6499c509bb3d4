use Rattle.std.proofs.Common.{◌≡◌, ℕ, ◌∷◌, [], refl, sym, inl, inr, ap, ◌∙◌, Some, subst}
use Rattle.m3_base.specs.Io.Streams.{Rose}
use Rattle.m3_cmd.specs.declared.words.Form.{Form}
use Rattle.m3_cmd.specs.declared.words.InputForm.{InputForm}
use Rattle.m3_cmd.specs.CommandLine.{Asks}
use Rattle.m3_cmd.specs.DriverContract.{IsLoadAnswer}
use Rattle.m3_cmd.specs.OutputContract.{IsComplete, IsFormAnswer, IsOutput, IsRead, IsReadAnswer}
use Rattle.m3_cmd.specs.Statuses.{OfBytes, usage_line}
use Rattle.m3_cmd.proofs.Outputs.{all_more, load_one, loaded_one, loads_fair, most_more, output_some, same_form, some_more, written_all, written_none, written_one, written_some}
use Rattle.m3_cmd.proofs.top.run_words.Goals as goal

-- ---- no form

pub returns-in-None-clause-prefix : goal.returns-in-None-clause-prefix
returns-in-None-clause-prefix g c = λ four.
    output_some (IsOutput c.args.words.now _ _ _) 1 usage_line _ _ (inl (sym c.read_form.ensures.form ∙ c.in-None.is, refl, refl)) (c.write_bytes.ensures.fault (λ e. cc) four).1

-- ---- a load

pub returns-in-Some-Load-clause-output : goal.returns-in-Some-Load-clause-output
returns-in-Some-Load-clause-output g c = λ not_four not_five.
    let asks : Asks c.args.words.now (Form.Load c.in-Some-Load.rounds) = sym c.read_form.ensures.form ∙ c.in-Some-Load.is ∙ ap (λ (f : Form). Some f) c.in-Some-Load.field-0-is in
    all_more (IsLoadAnswer c.in-Some-Load.rounds c.write_output.result)
    (IsOutput c.args.words.now (Rose (g.S.Source.faults c.args.source.now) (g.S.Source.faults c.args.source.now)) (g.S.Source.left c.args.source.now) (g.S.Source.left c.args.source.now) c.write_output.result) _ _
    (λ text is. inr (inl (c.in-Some-Load.rounds, asks, is)))
    (written_all (IsLoadAnswer c.in-Some-Load.rounds) _ c.run_load.result c.write_output.result _ _ c.run_load.ensures c.write_output.ensures not_four not_five)

pub returns-in-Some-Load-clause-prefix : goal.returns-in-Some-Load-clause-prefix
returns-in-Some-Load-clause-prefix g c = λ four.
    let asks : Asks c.args.words.now (Form.Load c.in-Some-Load.rounds) = sym c.read_form.ensures.form ∙ c.in-Some-Load.is ∙ ap (λ (f : Form). Some f) c.in-Some-Load.field-0-is in
    some_more (IsLoadAnswer c.in-Some-Load.rounds) (IsOutput c.args.words.now (Rose (g.S.Source.faults c.args.source.now) (g.S.Source.faults c.args.source.now)) (g.S.Source.left c.args.source.now) (g.S.Source.left c.args.source.now)) _ _
    (λ status text is. inr (inl (c.in-Some-Load.rounds, asks, is)))
    (written_some (IsLoadAnswer c.in-Some-Load.rounds) _ c.run_load.result c.write_output.result _ _ (loads_fair c.in-Some-Load.rounds) c.run_load.ensures c.write_output.ensures four).1

pub returns-in-Some-Load-clause-memory : goal.returns-in-Some-Load-clause-memory
returns-in-Some-Load-clause-memory g c = λ five.
    inl (written_none (IsLoadAnswer c.in-Some-Load.rounds) _ c.run_load.result c.write_output.result _ _ (loads_fair c.in-Some-Load.rounds) c.run_load.ensures c.write_output.ensures five)

pub returns-in-Some-Load-clause-write : goal.returns-in-Some-Load-clause-write
returns-in-Some-Load-clause-write g c = λ four.
    (written_some (IsLoadAnswer c.in-Some-Load.rounds) _ c.run_load.result c.write_output.result _ _ (loads_fair c.in-Some-Load.rounds) c.run_load.ensures c.write_output.ensures four).0

-- ---- a form that reads

pub returns-in-Some-Input-clause-prefix : goal.returns-in-Some-Input-clause-prefix
returns-in-Some-Input-clause-prefix g c = λ four.
    let rose = Rose (g.S.Source.faults c.args.source.now) (g.S.Source.faults c.run_input.new.source) in
    let left = g.S.Source.left c.args.source.now in
    let rest = g.S.Source.left c.run_input.new.source in
    let asks : Asks c.args.words.now (Form.Input c.in-Some-Input.form) = sym c.read_form.ensures.form ∙ c.in-Some-Input.is ∙ ap (λ (f : Form). Some f) c.in-Some-Input.field-0-is in
    some_more (IsRead c.in-Some-Input.form rose left rest) (IsOutput c.args.words.now rose left rest) _ _
    (λ status text is. inr (inr (c.in-Some-Input.form, asks, is))) (c.run_input.ensures.prefix four)

pub returns-in-Some-Input-clause-memory : goal.returns-in-Some-Input-clause-memory
returns-in-Some-Input-clause-memory g c = λ five.
    let left = g.S.Source.left c.args.source.now in
    let rest = g.S.Source.left c.run_input.new.source in
    let asks : Asks c.args.words.now (Form.Input c.in-Some-Input.form) = sym c.read_form.ensures.form ∙ c.in-Some-Input.is ∙ ap (λ (f : Form). Some f) c.in-Some-Input.field-0-is in
    most_more (IsReadAnswer c.in-Some-Input.form left rest) (IsFormAnswer c.args.words.now left rest) _ _
    (λ status text is. inr (c.in-Some-Input.form, asks, is)) (c.run_input.ensures.memory five)

pub returns-in-Some-Input-clause-complete : goal.returns-in-Some-Input-clause-complete
returns-in-Some-Input-clause-complete g c = λ form asked.
    let left = g.S.Source.left c.args.source.now in
    let asks : Asks c.args.words.now (Form.Input c.in-Some-Input.form) = sym c.read_form.ensures.form ∙ c.in-Some-Input.is ∙ ap (λ (f : Form). Some f) c.in-Some-Input.field-0-is in
    subst (λ (f : InputForm). OfBytes left (λ bytes. IsComplete f bytes c.run_input.result))
    (same_form c.args.words.now c.in-Some-Input.form form asks asked) c.run_input.ensures.complete
