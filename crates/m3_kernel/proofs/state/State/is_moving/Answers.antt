use Rattle.std.proofs.Common.{◌≡◌, ◌<◌, true, false, length, Some, sym, ap, ◌∙◌, rules}
use Rattle.std.specs.Prelude.{is_some}
use Rattle.m3_kernel.specs.ActivityView.{seat_value}
use Rattle.m3_kernel.specs.LookupTables.{berth_at}
use Rattle.m3_kernel.proofs.TableLookup.{leaving_moving, nobody_moving, there_moving, nobody_leaves, there_within, seat_here}
use Rattle.m3_kernel.proofs.next_event.WantedSwitch.{coming_if, coming_not}
use Rattle.m3_kernel.proofs.state.State.is_moving.Goals as goal

pub returns-then-is_some : goal.returns-then-is_some
returns-then-is_some c =
    sym (leaving_moving c.args.self.now c.requires c.args.tile (sym (ap (λ b. is_some b.leaving) c.berth-berth.ensures) ∙ sym c.is_some.ensures ∙ c.if-is_some.true))

pub index-requires : goal.index-requires
index-requires c =
    let e : c.in-Some.at < length c.args.self.now.seats.items = there_within c.args.self.now c.requires c.args.tile c.in-Some.at (sym (ap (λ b. b.there) c.berth-berth.ensures) ∙ c.in-Some.is) in
    search (rules, e)

pub returns-in-None : goal.returns-in-None
returns-in-None c =
    let s = c.args.self.now in
    let e : is_some (berth_at s.berths.items c.args.tile).leaving ≡ false = sym (ap (λ b. is_some b.leaving) c.berth-berth.ensures) ∙ sym c.is_some.ensures ∙ c.if-is_some.false in
    sym (nobody_moving s c.requires c.args.tile (nobody_leaves s c.requires c.args.tile e) (sym (ap (λ b. b.there) c.berth-berth.ensures) ∙ c.in-None.is))

pub returns-in-Coming : goal.returns-in-Coming
returns-in-Coming c =
    let s = c.args.self.now in
    let at = c.in-Some.at in
    let e : is_some (berth_at s.berths.items c.args.tile).leaving ≡ false = sym (ap (λ b. is_some b.leaving) c.berth-berth.ensures) ∙ sym c.is_some.ensures ∙ c.if-is_some.false in
    let g : (berth_at s.berths.items c.args.tile).there ≡ Some at = sym (ap (λ b. b.there) c.berth-berth.ensures) ∙ c.in-Some.is in
    let x = c.index.result.now in
    sym (there_moving s c.requires c.args.tile at g (seat_value x) (seat_here s.seats.items at x (there_within s c.requires c.args.tile at g) c.index.ensures) (nobody_leaves s c.requires c.args.tile e) true
    (coming_if (seat_value x).seating (sym c.place.ensures ∙ c.in-Coming.is)))

pub returns-in_default : goal.returns-in_default
returns-in_default c =
    let s = c.args.self.now in
    let at = c.in-Some.at in
    let e : is_some (berth_at s.berths.items c.args.tile).leaving ≡ false = sym (ap (λ b. is_some b.leaving) c.berth-berth.ensures) ∙ sym c.is_some.ensures ∙ c.if-is_some.false in
    let g : (berth_at s.berths.items c.args.tile).there ≡ Some at = sym (ap (λ b. b.there) c.berth-berth.ensures) ∙ c.in-Some.is in
    let x = c.index.result.now in
    sym (there_moving s c.requires c.args.tile at g (seat_value x) (seat_here s.seats.items at x (there_within s c.requires c.args.tile at g) c.index.ensures) (nobody_leaves s c.requires c.args.tile e) false
    (coming_not (seat_value x).seating (λ q. c.in_default.not-Coming (c.place.ensures ∙ q))))
