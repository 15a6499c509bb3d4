use Rattle.std.proofs.Common.{◌+◌, ◌++◌, ◌∙◌, min, ap}
use Rattle.m3_link.specs.LinkOps.{data_in}
use Rattle.m3_link.proofs.CountData.{no_data, all_counted}
use Rattle.m3_link.proofs.wires.counted.Goals as goal

pub loop-parcel-preserved : goal.loop-parcel-preserved
loop-parcel-preserved c = (
  (c.loop-parcel.invariant.0
      ∙ ap (λ ps. min 4294967295 (c.loop-parcel.count + data_in ps)) c.in-Some.ensures.steps
      ∙ ap (λ n. min 4294967295 (c.loop-parcel.count + n)) (no_data c.in-Some.parcel.now (c.next.new.self.head.now ++ c.next.new.self.wrapped.now) c.in_default.not-Data)),
  c.loop-parcel.invariant.1,
)

pub returns : goal.returns
returns c =
    all_counted (c.loop-parcel.parcel-iterator.head.now ++ c.loop-parcel.parcel-iterator.wrapped.now) c.loop-parcel.count _ (c.in-None.ensures.steps.0) c.loop-parcel.invariant.1 c.loop-parcel.invariant.0
