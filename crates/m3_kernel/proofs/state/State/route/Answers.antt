use Rattle.std.proofs.Common.{refl, sym, ap, ◌∙◌, rules}
use Rattle.std.specs.Prelude.{◌==◌, ◌||◌}
use Rattle.m3_bit_set.specs.BitSet.{has_place}
use Rattle.m3_model.specs.Config.Site.{tile_of}
use Rattle.m3_model.specs.Kernel.Step.{is_placed_entry, is_leaving_entry, is_coming_entry}
use Rattle.m3_kernel.proofs.ChangeEntry.{code_here, room_of, routes_placed, routes_held, tables_now, held_added}
use Rattle.m3_kernel.proofs.state.State.route.Goals as goal

pub hold_packet-requires : goal.hold_packet-requires
hold_packet-requires c =
    let x = c.index_mut-seat.result.now in
    room_of x x.seating (c.requires.room x (code_here c.args.self.now.seats.items c.args.at x c.requires.there c.index_mut-seat.ensures.value)) (λ q. c.in_default.not-Placed (c.place.ensures ∙ q))

pub returns-in-Placed-clause-routes : goal.returns-in-Placed-clause-routes
returns-in-Placed-clause-routes c =
    let s = c.args.self.now in
    let x = c.index_mut-seat.result.now in
    routes_placed s c.requires.kept c.args.at x x c.requires.there c.index_mut-seat.ensures.value c.args.packet c.tile_of-to.result (sym c.place.ensures ∙ c.in-Placed.is) (c.tile_of-to.ensures ∙ ap (tile_of s.site) (c.number.ensures.same ∙ c.act.ensures)) refl

pub returns-in_default : goal.returns-in_default
returns-in_default c =
    let s = c.args.self.now in
    let kept = c.requires.kept in
    let x = c.index_mut-seat.result.now in
    let y = c.hold_packet.new.self in
    let was = c.index_mut-seat.ensures.value in
    record {
      kept = record { tables = tables_now s kept c.args.at x y c.requires.there was (ap (λ z. z.act) c.hold_packet.ensures) (ap (λ z. is_leaving_entry z.seating) c.hold_packet.ensures) (ap (λ z. is_placed_entry z.seating || is_coming_entry z.seating) c.hold_packet.ensures); held = held_added s kept c.args.at x y c.requires.there was c.insert.new.self (ap (λ z. z.act) c.hold_packet.ensures) (λ i. c.insert.ensures i ∙ ap (λ n. (i == n) || has_place s.held i) (c.from.ensures ∙ c.number-in_default.ensures.same ∙ c.act-act.ensures ∙ sym (ap (λ z. z.act) c.hold_packet.ensures))); memory = kept.memory };
      site = search rules;
      routes = routes_held s kept c.args.at x y c.requires.there was c.args.packet (λ q. c.in_default.not-Placed (c.place.ensures ∙ q)) c.hold_packet.ensures;
    }
