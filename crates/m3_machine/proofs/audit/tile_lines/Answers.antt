use Rattle.std.proofs.Common.{◌≡◌, ◌<◌, ◌∷◌, ◌++◌, [], ◌∙◌, ℕ, sym, ap, subst, length, map, get_or, None, Some, arith}
use Rattle.std.specs.Option.{option_copied}
use Rattle.m3_base.specs.declared.journal.AuditLine.{AuditLine}
use Rattle.m3_engine.specs.TileView.{tiles_of}
use Rattle.m3_model.specs.Abstraction.{current_act}
use Rattle.m3_model.specs.Tile.Step.{act_in}
use Rattle.m3_machine.proofs.TileLines.{line_added, act_read}
use Rattle.m3_machine.proofs.audit.tile_lines.Goals as goal
use Rattle.m3_machine.proofs.audit.tile_lines.Goals.{in-None, in-Some}

pub loop-number-preserved : goal.loop-number-preserved
loop-number-preserved c =
    let tiles = c.args.tiles.now in
    let lines = c.loop-number.lines.items in
    let n = c.loop-number.number in
    let x = c.index-tiles-from.result in
    let a = c.match-current.act in
    let runs : a ≡ act_in x.tile.current = elim c.match-current.branch [
      | in-None w ↦ w.act-is ∙ ap act_in (sym (ap option_copied (w.in-None.is)) ∙ c.current.ensures)
      | in-Some w ↦ w.act-is ∙ ap Some w.act.ensures ∙ ap act_in (sym (ap option_copied (w.in-Some.is)) ∙ c.current.ensures)
    ] in
    let within : n < length tiles = let k = c.requires.count in let e = c.requires.tiles in let lt = c.loop-number-test.true in omega arith in
    let read : x ≡ get_or tiles n x = subst (λ (i : ℕ). x ≡ get_or tiles i x) c.from.ensures c.index-tiles-from.is in
    let here : a ≡ get_or (map current_act (tiles_of tiles)) n None = runs ∙ act_read tiles n x within read in
    let added : c.push.new.self.items ≡ lines ++ AuditLine.Tile n a ∷ [] =
    c.in_ok-push.ensures.items ∙ ap (λ (k : ℕ). lines ++ AuditLine.Tile k a ∷ []) c.new.ensures in
    c.loop-number.invariant ∙ line_added n c.args.count (map current_act (tiles_of tiles)) lines c.push.new.self.items a c.loop-number-test.true here added
