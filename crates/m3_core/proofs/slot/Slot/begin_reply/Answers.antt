use Rattle.m3_core.proofs.MessageInvariant.{marked_sound, kept_sound}
use Rattle.m3_core.proofs.slot.Slot.begin_reply.Goals as goal

pub invariant_of-self-2 : goal.invariant_of-self-2
invariant_of-self-2 c = marked_sound c.args.token _ _ c.begin_reply.result c.begin_reply.ensures.marked c.begin_reply.ensures.refused (kept_sound _ _ _ c.in-Receive.is c.self.invariant)
