use Rattle.std.proofs.Common.{◌≡◌, ℕ, ◌<◌, false, length, Some, None, sym, ap, ◌∙◌, subst, rules}
use Rattle.std.specs.Prelude.{is_some, Option}
use Rattle.m3_kernel.specs.ActivityView.{seat_value}
use Rattle.m3_kernel.specs.LookupTables.{berth_at}
use Rattle.m3_kernel.specs.StepContracts.{LeaverAt}
use Rattle.m3_kernel.proofs.TableLookup.{leaver_leaving, leaver_nobody, nobody_leaves, there_within, not_leaver, is_leaver, seat_here}
use Rattle.m3_kernel.proofs.state.State.leaver.Goals as goal

pub returns-then-is_some : goal.returns-then-is_some
returns-then-is_some c =
    leaver_leaving c.args.self.now c.requires c.args.tile (sym (ap (λ b. is_some b.leaving) c.berth-berth.ensures) ∙ sym c.is_some.ensures ∙ c.if-is_some.true)

pub returns-in_err-leaves : goal.returns-in_err-leaves
returns-in_err-leaves c =
    let s = c.args.self.now in
    let g : (berth_at s.berths.items c.args.tile).there ≡ None = sym (ap (λ b. b.there) c.berth-berth.ensures) ∙ c.in_err-leaves.was in
    subst (λ (o : Option ℕ). LeaverAt s c.args.tile o) (sym c.from_residual.ensures) (leaver_nobody s c.requires c.args.tile g)

pub index-requires : goal.index-requires
index-requires c =
    let e : c.in_ok-leaves.leaves < length c.args.self.now.seats.items = there_within c.args.self.now c.requires c.args.tile c.in_ok-leaves.leaves (sym (ap (λ b. b.there) c.berth-berth.ensures) ∙ c.in_ok-leaves.was) in
    search (rules, e)

pub returns-in-Placed : goal.returns-in-Placed
returns-in-Placed c =
    let s = c.args.self.now in
    let at = c.in_ok-leaves.leaves in
    let e : is_some (berth_at s.berths.items c.args.tile).leaving ≡ false = sym (ap (λ b. is_some b.leaving) c.berth-berth.ensures) ∙ sym c.is_some.ensures ∙ c.if-is_some.false in
    let g : (berth_at s.berths.items c.args.tile).there ≡ Some at = sym (ap (λ b. b.there) c.berth-berth.ensures) ∙ c.in_ok-leaves.was in
    let x = c.index.result.now in
    is_leaver s c.requires c.args.tile at g (seat_value x) (seat_here s.seats.items at x (there_within s c.requires c.args.tile at g) c.index.ensures) (nobody_leaves s c.requires c.args.tile e) (sym c.place.ensures ∙ c.in-Placed.is)

pub returns-in_default : goal.returns-in_default
returns-in_default c =
    let s = c.args.self.now in
    let at = c.in_ok-leaves.leaves in
    let g : (berth_at s.berths.items c.args.tile).there ≡ Some at = sym (ap (λ b. b.there) c.berth-berth.ensures) ∙ c.in_ok-leaves.was in
    let x = c.index.result.now in
    not_leaver s c.requires c.args.tile at g (seat_value x) (seat_here s.seats.items at x (there_within s c.requires c.args.tile at g) c.index.ensures) (λ q. c.in_default.not-Placed (c.place.ensures ∙ q))
