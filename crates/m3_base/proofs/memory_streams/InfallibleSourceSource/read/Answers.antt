use Rattle.std.proofs.Common.{◌≡◌, sym, ap, length, min, take, drop}
use Rattle.m3_base.proofs.MemoryStreams.{gave}
use Rattle.m3_base.proofs.memory_streams.InfallibleSourceSource.read.Goals as goal

pub returns-clause-bytes : goal.returns-clause-bytes
returns-clause-bytes c =
    let count : c.give-n.result ≡ min (min (length c.give-n.new.into) c.self.inside.most) (length (drop c.self.inside.at c.self.inside.bytes.items)) = rw (sym c.as_slice.ensures.value) c.give-n.ensures.count in
    let front : take c.give-n.result c.give-n.new.into ≡ take c.give-n.result (drop c.self.inside.at c.self.inside.bytes.items) = rw (sym c.as_slice.ensures.value) c.give-n.ensures.front in
    rw (ap (λ s. s.left) (sym c.self.view_is)) (gave c.self.inside.bytes.items c.self.inside.at c.give-n.result (length c.give-n.new.into) c.self.inside.most c.give-n.new.into c.self.invariant.most count front)
