use Rattle.m3_base.proofs.grants.rules.grant_record.Goals as goal

pub returns-in-Send : goal.returns-in-Send
returns-in-Send c = rw c.in-Send.is (c.send_record.ensures c.in-Send.act c.in-Send.ep)

pub returns-in-Part : goal.returns-in-Part
returns-in-Part c = rw c.in-Part.is (c.part_record.ensures c.in-Part.act c.in-Part.ep c.in-Part.of)
