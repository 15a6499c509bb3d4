use Rattle.std.proofs.Common.{◌≡◌, ◌-◌, ◌++◌, map}
use Rattle.m3_engine.specs.TileView.{tiles_of}
use Rattle.m3_model.specs.Abstraction.{current_act}
use Rattle.m3_trace.specs.DriverOfMachine.{tile_lines, tile_lines_from}
use Rattle.m3_machine.proofs.audit.tile_lines.Given as goal

abbrev pub invariant-loop-number : goal.invariant-loop-number
invariant-loop-number l =
    l.initial.lines.items ++ tile_lines l.fn.count (tiles_of l.fn.tiles)
    ≡ l.lines.items ++ tile_lines_from l.number (l.fn.count - l.number) (map current_act (tiles_of l.fn.tiles))
