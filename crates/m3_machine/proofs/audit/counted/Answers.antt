use Rattle.std.proofs.Common.{◌≡◌, ℕ, ◌∙◌, ap, refl, None, List, Option, length}
use Rattle.std.proofs.lemmas.List.{length-replicate}
use Rattle.std.specs.Borrow.{Bor}
use Rattle.m3_base.specs.Ideal.Context.{Context}
use Rattle.m3_kernel.specs.ParcelView.{parcels_of}
use Rattle.m3_kernel.specs.ActivityView.{seats_of}
use Rattle.m3_engine.specs.TileView.{tiles_of}
use Rattle.m3_machine.specs.CreditCounts.{listed, last_of}
use Rattle.m3_machine.specs.Traversal.{contexts_of, packets_of}
use Rattle.m3_machine.proofs.CountCredits.{tallied, counts_by_none, counts_by_both}
use Rattle.m3_machine.proofs.InsertContexts.{nobody_listed, enters_none_whole, enters_both_whole}
use Rattle.m3_machine.proofs.audit.counted.Goals as goal

pub visit_all-requires : goal.visit_all-requires
visit_all-requires c k = (
  (refl, tt),
  record {
    none = λ v. enters_none_whole v.contexts.items;
    both = λ cs ds ps qs a b d j l. enters_both_whole cs ds a.contexts.items b.contexts.items d.contexts.items j l;
  },
)

pub visit_all-requires-2 : goal.visit_all-requires-2
visit_all-requires-2 c k = (
  (refl, tt),
  record {
    none = λ v. counts_by_none v.contexts.contexts.items v.counts;
    both = λ cs ds ps qs a b d j l. counts_by_both cs ds ps qs a.contexts.contexts.items b.contexts.contexts.items d.contexts.contexts.items a.counts b.counts d.counts j l;
  },
)

pub returns : goal.returns
returns c =
    let seats = seats_of c.args.seats.now in
    let links = parcels_of c.args.links.now.lists in
    let cs = contexts_of (tiles_of c.args.tiles.now) seats links in
    let table = c.visit_all.new.visitor.contexts.items in
    let entered = c.visit_all.ensures (ap length c.in_ok-contexts.ensures ∙ length-replicate {A = Option (Bor Context)} 256 None) in
    let found : (a : ℕ) → listed table a ≡ last_of None a cs =
    λ a. entered.found a ∙ ap (λ o. last_of o a cs) (ap (λ (v : List (Option (Bor Context))). listed v a) c.in_ok-contexts.ensures ∙ nobody_listed 256 a) in
    tallied (listed table) cs (packets_of seats links) c.in_ok-counts.counts c.visit_all-2.new.visitor.counts c.in_ok-counts.ensures.held c.in_ok-counts.ensures.flying c.in_ok-counts.ensures.queued found c.visit_all-2.ensures.1
