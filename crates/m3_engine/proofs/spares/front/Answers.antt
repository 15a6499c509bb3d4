use Rattle.std.proofs.Common.{◌≡◌, ◌≤◌, length, Some, sym, arith}
use Rattle.m3_base.specs.Ideal.Context.{endpoint}
use Rattle.m3_base.specs.Ideal.EndpointStep.{oldest_at}
use Rattle.m3_engine.proofs.ShortFront.{short_front}
use Rattle.m3_engine.proofs.spares.front.Goals as goal

pub copied-requires : goal.copied-requires
copied-requires c =
    let e = endpoint c.args.context.now c.in-Fetch.ep in
    let here : oldest_at e ≡ Some c.in-Some.message.now = sym c.in-Some.ensures in
    let short : length c.in-Some.message.now.payload ≤ 512 = short_front c.endpoint-record.result.now e c.in-Some.message.now c.endpoint-record.ensures.sound c.endpoint-record.ensures.same here in
    let room : 512 ≤ c.args.spare.now = c.requires in
    omega (arith, short, room)
