use Rattle.std.proofs.Common.{◌≡◌, ℕ, ◌-◌, List, length, take, ap}
use Rattle.m3_journal.proofs.Cuts.{side_is}
use Rattle.m3_journal.proofs.reading.entries.cut_event.Goals as goal

pub returns : goal.returns
returns c =
    let front : c.extend_from_slice.new.self.items ≡ take c.args.at c.args.words.now = rw c.clear.ensures.items at c.in_ok-extend_from_slice.ensures.items in
    side_is c.args.words.now c.extend_from_slice.new.self.items c.push.new.self.items _ c.args.at front c.in_ok-push.ensures.items
    (ap (λ (v : List ℕ). take (length v - 1) v) c.word-last.ensures)
