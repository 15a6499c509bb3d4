use Rattle.std.proofs.Common.{◌≡◌, ◌<◌, drop, length}
use Rattle.std.specs.List.{list_all}
use Rattle.m3_model.specs.Config.KnownActivities.{has_bounded_token}
use Rattle.m3_engine.proofs.restore_check.has_low_tokens.Given as goal

abbrev pub invariant-loop-ep : goal.invariant-loop-ep
invariant-loop-ep l =
    (list_all has_bounded_token l.fn.context.endpoints ≡ list_all has_bounded_token (drop l.ep l.fn.context.endpoints)) × (0 < l.ep → length l.fn.context.endpoints ≡ 16)
