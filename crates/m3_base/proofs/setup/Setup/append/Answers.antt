use Rattle.std.proofs.Common.{arith, ◌≡◌, ◌++◌, ◌∷◌, [], subst, sym, false}
use Rattle.m3_base.specs.Setup.Rules.{SetupValue, breaks_rule, facts_of}
use Rattle.m3_base.proofs.SetupValidity.{Kept, kept_added}
use Rattle.m3_base.proofs.setup.Setup.append.Goals as goal

pub invariant_of-self-2 : goal.invariant_of-self-2
invariant_of-self-2 c =
    let P : SetupValue → Type 0 = λ s. breaks_rule c.args.line (facts_of s) ≡ false in
    let allowed : P (record { tiles = c.self.inside.facts.tiles; memory = c.self.inside.facts.memory; lines = c.self.inside.lines.items }) = subst P (sym c.self.view_is) c.requires in
    let lines : c.push_reserved.new.self.items ≡ c.self.inside.lines.items ++ c.args.line ∷ [] = grind (arith, c.push_reserved.ensures.items, c.reserve.ensures.items) in
    let told = c.in_ok-add_line.ensures in
    let k : Kept c.add_line.new.self c.push_reserved.new.self.items = kept_added c.self.inside.facts c.add_line.new.self c.self.inside.lines.items c.push_reserved.new.self.items c.args.line (record { facts = c.self.invariant.facts; valid = c.self.invariant.valid }) told.noted lines allowed told.range in
    record { facts = k.facts; valid = k.valid }
