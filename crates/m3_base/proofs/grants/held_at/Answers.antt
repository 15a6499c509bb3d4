use Rattle.std.proofs.Common.{arith, ◌≡◌, ◌∙◌, ap, None, get_or}
use Rattle.m3_base.proofs.GrantTableLookup.{slot_is}
use Rattle.m3_base.proofs.grants.held_at.Goals as goal

pub returns-clause-held : goal.returns-clause-held
returns-clause-held c =
    let r = c.index-held-at.result in
    let at : r ≡ get_or c.args.held.now c.endpoint_index-at.result None = slot_is c.args.held.now c.endpoint_index-at.result r (omega (arith, c.requires, c.endpoint_index-at.ensures.range)) c.index-held-at.is in
    at ∙ ap (λ n. get_or c.args.held.now n None) c.endpoint_index-at.ensures.at
