use Rattle.m3_core.proofs.MessageInvariant.{acknowledged_sound, kept_sound}
use Rattle.m3_core.proofs.slot.Slot.acknowledge.Goals as goal

pub invariant_of-self-2 : goal.invariant_of-self-2
invariant_of-self-2 c = acknowledged_sound c.args.token _ _ c.acknowledge.result c.acknowledge.ensures.freed c.acknowledge.ensures.refused (kept_sound _ _ _ c.in-Receive.is c.self.invariant)
