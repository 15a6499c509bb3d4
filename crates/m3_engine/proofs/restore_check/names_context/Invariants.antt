use Rattle.std.proofs.Common.{◌≡◌, ◌<◌, drop, length}
use Rattle.std.specs.List.{list_all}
use Rattle.m3_model.specs.Config.KnownActivities.{names_at}
use Rattle.m3_engine.proofs.restore_check.names_context.Given as goal

abbrev pub invariant-loop-ep : goal.invariant-loop-ep
invariant-loop-ep l =
    (list_all (names_at l.fn.site) l.fn.context.endpoints ≡ list_all (names_at l.fn.site) (drop l.ep l.fn.context.endpoints)) × (0 < l.ep → length l.fn.context.endpoints ≡ 16)
