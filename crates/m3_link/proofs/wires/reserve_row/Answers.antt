use Rattle.std.proofs.Common.{◌≡◌, ◌<◌, ℕ, map, length, length-set, set, arith, sym, ap, ◌∙◌, refl, ⊎_elim}
use Rattle.std.proofs.lemmas.Bool.{cases_eq}
use Rattle.m3_link.specs.LinkOps.{place, spare_at}
use Rattle.m3_link.specs.LinksView.{spare_in, wires_of}
use Rattle.m3_link.proofs.UpdateOneLink.{list_kept, spare_kept, there}
use Rattle.m3_link.proofs.wires.reserve_row.Goals as goal

pub returns-in_err-reserve-clause-lists : goal.returns-in_err-reserve-clause-lists
returns-in_err-reserve-clause-lists c =
    let links = c.loop-to.links.items in
    list_kept links c.place.result c.index_mut.result.now (omega (arith, c.loop-to.invariant.count, c.place.ensures.range)) c.index_mut.ensures.value (wires_of links) refl c.place.result refl c.reserve.new.self c.reserve.ensures.items
    ∙ c.loop-to.invariant.lists

pub returns-in_err-reserve-clause-more : goal.returns-in_err-reserve-clause-more
returns-in_err-reserve-clause-more c k =
    let links = c.loop-to.links.items in
    let a = c.loop-to.invariant.more k in
    let b = spare_kept links c.place.result c.index_mut.result.now (omega (arith, c.loop-to.invariant.count, c.place.ensures.range)) c.index_mut.ensures.value (wires_of links) refl c.place.result refl c.reserve.new.self c.reserve.ensures.len c.reserve.ensures.capacity k in
    omega (arith, a, b)

pub loop-to-preserved : goal.loop-to-preserved
loop-to-preserved c =
    let links = c.loop-to.links.items in
    let within : c.place.result < length links = omega (arith, c.loop-to.invariant.count, c.place.ensures.range) in
    let more = spare_kept links c.place.result c.index_mut.result.now within c.index_mut.ensures.value (wires_of links) refl c.place.result refl c.reserve.new.self c.reserve.ensures.len c.reserve.ensures.capacity in
    let at : place c.args.from c.loop-to.to ≡ c.place.result = sym (c.place.ensures.value ∙ ap (place c.args.from) c.new.ensures) in
    record {
      count = length-set links c.place.result c.reserve.new.self ∙ c.loop-to.invariant.count;
      lists = list_kept links c.place.result c.index_mut.result.now within c.index_mut.ensures.value (wires_of links) refl c.place.result refl c.reserve.new.self c.reserve.ensures.items ∙ c.loop-to.invariant.lists;
      room = λ to lt.
          ⊎_elim
          (λ (e : to ≡ c.loop-to.to).
          let here : spare_at (map spare_in (set links c.place.result c.reserve.new.self)) (place c.args.from to) ≡ spare_in c.reserve.new.self =
          ap (λ (t : ℕ). spare_at (map spare_in (set links c.place.result c.reserve.new.self)) (place c.args.from t)) e
          ∙ ap (spare_at (map spare_in (set links c.place.result c.reserve.new.self))) at
          ∙ there links c.place.result c.index_mut.result.now within c.index_mut.ensures.value (wires_of links) refl c.place.result refl c.reserve.new.self in
          let ok = c.in_ok-reserve.ensures.ok in
          omega (arith, here, ok))
          (λ (ne : to ≡ c.loop-to.to → ⊥).
          let a = c.loop-to.invariant.room to (omega (arith, lt, ne)) in
          let b = more (place c.args.from to) in
          omega (arith, a, b))
          (cases_eq to c.loop-to.to);
      more = λ k. let a = c.loop-to.invariant.more k in let b = more k in omega (arith, a, b);
    }
