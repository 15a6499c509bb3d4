use Rattle.std.proofs.Common.{◌≡◌, ◌∷◌, ◌++◌, length, subst, sym, ap, map, arith, ◌∙◌, rules}
use Rattle.std.specs.Vec.Iter.{into_iter_items}
use Rattle.m3_base.specs.Setup.Rules.{no_lines}
use Rattle.m3_programs.specs.SetupPrograms.{HaveItems, IsTableOf, IsShortLine, programs_from, setup_programs}
use Rattle.std.specs.List.{All}
use Rattle.m3_programs.proofs.Tables.{collected, collected_none, short_lines}
use Rattle.m3_programs.proofs.setup.programs_of.Goals as goal

pub table_of-requires : goal.table_of-requires
table_of-requires c =
    let s = c.args.setup.now in
    subst (All IsShortLine) (sym c.lines.ensures.lines) (short_lines s.lines (no_lines s.tiles s.memory) c.lines.ensures.valid.lines)

pub loop-program-preserved : goal.loop-program-preserved
loop-program-preserved c =
    let at = c.loop-program in
    let lines = c.args.setup.now.lines in
    let p = c.in-Some.program in
    let left = into_iter_items c.next.new.self in
    let steps : into_iter_items at.program-iterator ≡ p ∷ left = c.in-Some.ensures.steps.0 in
    let items = subst (λ ps. HaveItems at.act ps lines) steps at.invariant.items in
    record {
      got = collected at.act p left lines (map (λ x. (x.0, x.1)) at.programs.items) _ (setup_programs lines) items
          (subst (λ ps. map (λ x. (x.0, x.1)) at.programs.items ++ programs_from at.act (length ps) lines ≡ setup_programs lines) steps at.invariant.got) c.in_ok-push_program.ensures;
      items = items.1;
      left = (let short = ap length steps in omega (arith, at.invariant.left));
      len = (let gone = c.in-Some.ensures.steps.1 in let short = ap length steps in omega (arith, at.invariant.len));
    }

pub loop-program-init : goal.loop-program-init
loop-program-init c =
    let lines = c.args.setup.now.lines in
    let table = c.in_ok-table.table.items in
    let t : IsTableOf table lines = subst (IsTableOf table) c.lines.ensures.lines c.in_ok-table.ensures in
    let all = into_iter_items c.into_iter-program-iterator.result in
    let is : all ≡ table = c.into_iter-program-iterator.ensures.into_iter_gives.0 in
    let count : length all ≡ 64 = ap length is ∙ t.count in
    record {
      got = rw c.new-programs.ensures.items (collected_none all lines count);
      items = subst (λ ps. HaveItems 0 ps lines) (sym is) t.items;
      left = omega (arith, count);
      len = search rules;
    }
