use Rattle.std.proofs.Common.{◌≡◌, ◌≢◌, ◌≤◌, ◌⊎◌, ◌∷◌, [], length, refl, rules, subst, inl, inr}
use Rattle.m3_base.specs.Io.Streams.{Appends, GivesMore, GivesUpTo, Rose}
use Rattle.m3_cmd.specs.CommandLine.{limit_of}
use Rattle.m3_cmd.specs.OutputContract.{IsAnswer, IsRead, IsReadAnswer}
use Rattle.m3_cmd.specs.Statuses.{IsOneOf, read_fault_line, too_long_line}
use Rattle.m3_cmd.proofs.Outputs.{all_more, answer_one, answers_fair, faulty_complete, input_one, long_complete, no_read, none_left, output_some, read_answer, read_complete, some_more, written_all, written_none, written_one, written_some}
use Rattle.m3_cmd.proofs.top.run_input.Goals as goal

-- ---- the source fails, or gives too much

pub returns-in-Err-ReadFault-clause-prefix : goal.returns-in-Err-ReadFault-clause-prefix
returns-in-Err-ReadFault-clause-prefix g c = λ four.
    output_some (IsRead c.args.form (Rose (g.S.Source.faults c.args.source.now) (g.S.Source.faults c.read_all.new.source)) _ _) 3 read_fault_line _ _
    (inl ((let rose : Rose (g.S.Source.faults c.args.source.now) (g.S.Source.faults c.read_all.new.source) = search rules in rose), refl, refl))
    (c.write_bytes.ensures.fault (λ e. cc) four).1

pub returns-in-Err-ReadFault-clause-complete : goal.returns-in-Err-ReadFault-clause-complete
returns-in-Err-ReadFault-clause-complete g c =
    faulty_complete c.args.form (g.S.Source.left c.args.source.now) c.write_bytes.result (let fault : IsOneOf (3 ∷ 4 ∷ 5 ∷ []) c.write_bytes.result = search rules in fault)

pub returns-in-Err-TooLong-clause-prefix : goal.returns-in-Err-TooLong-clause-prefix
returns-in-Err-TooLong-clause-prefix g c = λ four.
    output_some (IsRead c.args.form _ (g.S.Source.left c.args.source.now) (g.S.Source.left c.read_all.new.source)) 8 too_long_line _ _
    (inr (inl (
      (subst (GivesMore (g.S.Source.left c.args.source.now) (g.S.Source.left c.read_all.new.source)) c.limit_of.ensures
          (let long : GivesMore (g.S.Source.left c.args.source.now) (g.S.Source.left c.read_all.new.source) c.limit_of.result = search rules in long)),
      refl,
      refl,
    )))
    (c.write_bytes-in-Err-TooLong.ensures.fault (λ e. cc) four).1

pub returns-in-Err-TooLong-clause-complete : goal.returns-in-Err-TooLong-clause-complete
returns-in-Err-TooLong-clause-complete g c =
    long_complete c.args.form (g.S.Source.left c.args.source.now) (g.S.Source.left c.read_all.new.source) c.write_bytes-in-Err-TooLong.result
    (subst (GivesMore (g.S.Source.left c.args.source.now) (g.S.Source.left c.read_all.new.source)) c.limit_of.ensures
    (let long : GivesMore (g.S.Source.left c.args.source.now) (g.S.Source.left c.read_all.new.source) c.limit_of.result = search rules in long))

pub returns-in-Err-NoMemory-clause-memory : goal.returns-in-Err-NoMemory-clause-memory
returns-in-Err-NoMemory-clause-memory g c = λ five.
    inl (let none : Appends (g.K.Sink.written c.args.sink.now) (g.K.Sink.written c.args.sink.now) [] = search rules in none)

pub returns-in-Err-NoMemory-clause-complete : goal.returns-in-Err-NoMemory-clause-complete
returns-in-Err-NoMemory-clause-complete g c = faulty_complete c.args.form (g.S.Source.left c.args.source.now) 5 (inr (inr (inl refl)))

-- ---- the bytes are answered

pub returns-in-Ok-clause-output : goal.returns-in-Ok-clause-output
returns-in-Ok-clause-output g c = λ not_four not_five.
    all_more (IsAnswer c.args.form c.as_slice.result.now c.write_output.result) (IsRead c.args.form _ (g.S.Source.left c.args.source.now) (g.S.Source.left c.read_all.new.source) c.write_output.result) _ _
    (λ text is. inr (inr (
    read_answer c.args.form (g.S.Source.left c.args.source.now) (g.S.Source.left c.read_all.new.source) c.in-Ok.bytes.items c.as_slice.result.now
    c.in-Ok.ensures.all c.as_slice.ensures.value (subst (λ n. length c.in-Ok.bytes.items ≤ n) c.limit_of.ensures c.in-Ok.ensures.within) c.write_output.result text is)))
    (written_all (IsAnswer c.args.form c.as_slice.result.now) _ c.answer.result c.write_output.result _ _ c.answer.ensures c.write_output.ensures not_four not_five)

pub returns-in-Ok-clause-prefix : goal.returns-in-Ok-clause-prefix
returns-in-Ok-clause-prefix g c = λ four.
    some_more (IsAnswer c.args.form c.as_slice.result.now) (IsRead c.args.form _ (g.S.Source.left c.args.source.now) (g.S.Source.left c.read_all.new.source)) _ _
    (λ status text is. inr (inr (
    read_answer c.args.form (g.S.Source.left c.args.source.now) (g.S.Source.left c.read_all.new.source) c.in-Ok.bytes.items c.as_slice.result.now
    c.in-Ok.ensures.all c.as_slice.ensures.value (subst (λ n. length c.in-Ok.bytes.items ≤ n) c.limit_of.ensures c.in-Ok.ensures.within) status text is)))
    (written_some (IsAnswer c.args.form c.as_slice.result.now) _ c.answer.result c.write_output.result _ _
    (answers_fair c.args.form c.as_slice.result.now) c.answer.ensures c.write_output.ensures four).1

pub returns-in-Ok-clause-memory : goal.returns-in-Ok-clause-memory
returns-in-Ok-clause-memory g c = λ five.
    inl (written_none (IsAnswer c.args.form c.as_slice.result.now) _ c.answer.result c.write_output.result _ _
    (answers_fair c.args.form c.as_slice.result.now) c.answer.ensures c.write_output.ensures five)

pub returns-in-Ok-clause-write : goal.returns-in-Ok-clause-write
returns-in-Ok-clause-write g c = λ four.
    (written_some (IsAnswer c.args.form c.as_slice.result.now) _ c.answer.result c.write_output.result _ _
    (answers_fair c.args.form c.as_slice.result.now) c.answer.ensures c.write_output.ensures four).0

pub returns-in-Ok-clause-read : goal.returns-in-Ok-clause-read
returns-in-Ok-clause-read g c = λ three.
    absurd ((no_read c.write_output.result (
    written_one (IsAnswer c.args.form c.as_slice.result.now) (0 ∷ 2 ∷ 6 ∷ 7 ∷ []) _ c.answer.result c.write_output.result _ _ c.answer.ensures
    (answer_one c.args.form c.as_slice.result.now) c.write_output.ensures)).0 three)

pub returns-in-Ok-clause-long : goal.returns-in-Ok-clause-long
returns-in-Ok-clause-long g c = λ eight.
    absurd ((no_read c.write_output.result (
    written_one (IsAnswer c.args.form c.as_slice.result.now) (0 ∷ 2 ∷ 6 ∷ 7 ∷ []) _ c.answer.result c.write_output.result _ _ c.answer.ensures
    (answer_one c.args.form c.as_slice.result.now) c.write_output.ensures)).1 eight)

pub returns-in-Ok-clause-statuses : goal.returns-in-Ok-clause-statuses
returns-in-Ok-clause-statuses g c =
    input_one c.write_output.result (
    written_one (IsAnswer c.args.form c.as_slice.result.now) (0 ∷ 2 ∷ 6 ∷ 7 ∷ []) _ c.answer.result c.write_output.result _ _ c.answer.ensures
    (answer_one c.args.form c.as_slice.result.now) c.write_output.ensures)

pub returns-in-Ok-clause-whole : goal.returns-in-Ok-clause-whole
returns-in-Ok-clause-whole g c = λ one. none_left (g.S.Source.left c.args.source.now) (g.S.Source.left c.read_all.new.source) c.in-Ok.bytes.items c.in-Ok.ensures.all

pub returns-in-Ok-clause-complete : goal.returns-in-Ok-clause-complete
returns-in-Ok-clause-complete g c =
    read_complete c.args.form (g.S.Source.left c.args.source.now) (g.S.Source.left c.read_all.new.source) c.in-Ok.bytes.items c.as_slice.result.now c.write_output.result _ _
    c.in-Ok.ensures.all c.as_slice.ensures.value
    (written_all (IsAnswer c.args.form c.as_slice.result.now) _ c.answer.result c.write_output.result _ _ c.answer.ensures c.write_output.ensures)
