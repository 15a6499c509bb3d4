use Rattle.std.proofs.Common.{sym, ◌∙◌}
use Rattle.m3_base.specs.Setup.GrantTable.{grants_of}
use Rattle.m3_base.proofs.GrantRefusalCauses.{refusal_of_grants}
use Rattle.m3_grants.proofs.grants.Grants.refusal.Goals as goal

pub refusal_of-requires : goal.refusal_of-requires
refusal_of-requires c =
    refusal_of_grants c.self.inside.memory (grants_of c.as_slice.result.now) c.args.line.now c.in_ok-no.no (sym c.grant_refusal.ensures ∙ c.in_ok-no.was)
