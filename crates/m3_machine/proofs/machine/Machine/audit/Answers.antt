use Rattle.std.proofs.Common.{◌≡◌, ℕ, ◌+◌, [], ◌∷◌, ◌++◌, length, length-append, min, is_none, ◌∙◌, ap, sym, subst, arith}
use Rattle.m3_base.specs.declared.journal.AuditLine.{AuditLine}
use Rattle.m3_base.specs.Setup.Rules.{SetupValue}
use Rattle.m3_base.specs.Journal.Audit.{audit_lines}
use Rattle.m3_base.specs.Placement.Driver as driver
use Rattle.m3_engine.specs.TileView.{tiles_of}
use Rattle.m3_endpoint.specs.Counters.{most}
use Rattle.m3_kernel.specs.ParcelView.{parcels_of}
use Rattle.m3_kernel.specs.ActivityView.{seats_of}
use Rattle.m3_link.specs.LinkOps.{data_on}
use Rattle.m3_model.specs.Abstraction.{ideal_of, placement_of, flat_map, flat_links, held_by, packets_in, all_contexts, all_packets}
use Rattle.m3_trace.specs.DriverOfMachine.{tile_lines}
use Rattle.m3_model.specs.SetupOpening.{opened_site}
use Rattle.m3_trace.proofs.TraceGrows.{trace_few}
use Rattle.m3_machine.specs.AuditView.{live_lines}
use Rattle.m3_machine.specs.Traversal.{contexts_of, packets_of}
use Rattle.m3_machine.specs.MachineView.{ideal, placement}
use Rattle.m3_machine.proofs.AuditIsIdeal.{audited}
use Rattle.m3_machine.proofs.TileLines.{all_lines, is_none_from}
use Rattle.m3_machine.proofs.CountPackets.{flights_are}
use Rattle.m3_machine.proofs.machine.Machine.audit.Goals as goal

pub returns : goal.returns
returns g c =
    let inside = c.self.inside in
    let s = g.R.Recorder.setup inside.recorder in
    let es = g.R.Recorder.entries inside.recorder in
    let m = inside.engine.machine in
    let lists = c.wires-wires.result.now.lists in
    let seats = seats_of c.seats-seats.result.now in
    let on : parcels_of lists ≡ m.links = c.wires-wires.ensures in
    let credits : live_lines (contexts_of (tiles_of c.tiles-tiles.result.now) seats (parcels_of lists)) (packets_of seats (parcels_of lists)) c.grants.result.now.grants ≡ live_lines (all_contexts m) (all_packets m) m.kernel.grants =
    (λ k. live_lines (contexts_of (c.tiles-tiles.ensures.tiles k) (c.seats-seats.ensures k) (on k)) (packets_of (c.seats-seats.ensures k) (on k)) (c.grants.ensures k)) in
    let size : c.tiles.result ≡ s.tiles = c.tiles.ensures ∙ ap (λ (x : SetupValue). x.tiles) c.setup.ensures in
    let tiled : tile_lines c.tiles.result (tiles_of c.tiles-tiles.result.now) ≡ tile_lines s.tiles m.tiles =
    (λ k. tile_lines (size k) (c.tiles-tiles.ensures.tiles k)) in
    let held = flat_map held_by m.kernel.seats in
    let all : length held + data_on lists ≡ length (held ++ flat_links packets_in (parcels_of lists)) = (let a = flights_are lists in let b = length-append held (flat_links packets_in (parcels_of lists)) in omega arith) in
    let flown : c.flights.result ≡ min most (length (all_packets m)) =
    c.flights.ensures
    ∙ ap (λ ss. min most (length (flat_map held_by ss) + data_on lists)) c.seats-seats.ensures
    ∙ ap (min most) all
    ∙ ap (λ ls. min most (length (held ++ flat_links packets_in ls))) on in
    let quiet : c.is_none.result ≡ is_none c.next.result = is_none_from c.is_none.result c.next.result c.is_none.ensures in
    let drives : c.next.result ≡ driver.next_event (ideal_of m) (placement_of (opened_site s) m) inside.orders =
    subst (λ w. c.next.result ≡ driver.next_event (ideal w) (placement w) w.left) (sym c.self.view_is) c.next.ensures.event in
    subst (λ w. c.push-2.new.self.items ≡ audit_lines w.setup.tiles (ideal w) (placement w) w.left) c.self.view_is (
    all_lines
    c.new-lines.result.items
    c.credit_lines.new.lines.items
    c.tile_lines.new.lines.items
    c.push.new.self.items
    c.push-2.new.self.items
    (live_lines (all_contexts m) (all_packets m) m.kernel.grants)
    (tile_lines s.tiles m.tiles)
    (AuditLine.Flights (min most (length (all_packets m))))
    (AuditLine.Quiet (is_none c.next.result))
    c.new-lines.ensures.items
    (c.in_ok-credit_lines.ensures ∙ ap (λ ls. c.new-lines.result.items ++ ls) credits)
    (c.in_ok-tile_lines.ensures ∙ ap (λ ls. c.credit_lines.new.lines.items ++ ls) tiled)
    (c.in_ok-push.ensures.items ∙ ap (λ (n : ℕ). c.tile_lines.new.lines.items ++ AuditLine.Flights n ∷ []) flown)
    (c.in_ok-push-2.ensures.items ∙ ap (λ b. c.push.new.self.items ++ AuditLine.Quiet b ∷ []) quiet)
    ∙ audited (opened_site s) m c.self.invariant.trace.ran.kept inside.orders s.tiles c.next.result (trace_few s es m c.self.invariant.trace) drives
    )
