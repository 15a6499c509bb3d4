use Rattle.std.proofs.Common.{◌≤◌, ◌∙◌, min, sym, ap, zero-add, arith}
use Rattle.m3_link.specs.LinksView.{lists_in}
use Rattle.m3_link.specs.LinkOps.{data_on}
use Rattle.m3_link.proofs.CountData.{link_counted, links_counted}
use Rattle.m3_link.proofs.wires.total.Goals as goal

pub loop-link-init : goal.loop-link-init
loop-link-init c = (ap (min 4294967295) (sym (zero-add (data_on (lists_in c.args.links.now)))), omega arith)

pub loop-link-preserved : goal.loop-link-preserved
loop-link-preserved c =
    let most : c.counted-count.result ≤ 4294967295 = let e = c.counted-count.ensures in omega arith in
    ((c.loop-link.invariant.0 ∙ link_counted c.args.links.now c.loop-link.link-index c.link-item.result c.loop-link.count c.counted-count.result c.loop-link-test.true c.link-item.is c.counted-count.ensures), most)

pub returns : goal.returns
returns c =
    links_counted c.args.links.now c.loop-link.link-index c.loop-link.count (min 4294967295 (data_on (lists_in c.args.links.now))) c.loop-link-test.false c.loop-link.invariant.1 c.loop-link.invariant.0
