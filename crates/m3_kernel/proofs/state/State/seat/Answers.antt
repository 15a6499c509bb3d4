use Rattle.std.proofs.Common.{◌≡◌, ℕ, ◌<◌, true, false, ◌∷◌, ◌++◌, [], ◌∙◌, length, sym, ap, subst, rules}
use Rattle.std.specs.Prelude.{is_some}
use Rattle.m3_model.specs.Config.Site.{tile_of, has_program}
use Rattle.m3_kernel.proofs.OpenedKernel.{seat_rests, seat_first, seat_ready, seat_opened, seat_held}
use Rattle.m3_kernel.proofs.state.State.seat.Goals as goal

pub returns-then-rests-clause-kept : goal.returns-then-rests-clause-kept
returns-then-rests-clause-kept c =
    let s = c.args.self.now in
    let kept = c.requires.kept in
    let items_is : c.push_reserved.new.self.items ≡ s.seats.items ++ c.new.result ∷ [] = c.push_reserved.ensures.items ∙ ap (λ xs. xs ++ c.new.result ∷ []) c.reserve.ensures.items in
    let count_is : c.len-at.result ≡ length s.seats.items = search rules in
    let low : c.args.act < 64 = subst (λ (n : ℕ). n < 64) c.number.ensures.same c.number.ensures.range in
    let some : is_some c.args.context ≡ true = (let e = c.is_some-rests.ensures in let f = c.if-rests.true in search rules) in
    record {
      tables = seat_rests s kept c.args.act low c.args.context c.requires.fresh c.new.result c.new.ensures c.push_reserved.new.self.items items_is c.from.result c.len-at.result (c.from.ensures ∙ c.number.ensures.same) count_is some;
      held = seat_held s kept c.args.act low c.args.context c.requires.fresh c.new.result c.new.ensures c.push_reserved.new.self.items items_is c.from.result c.len-at.result (c.from.ensures ∙ c.number.ensures.same) count_is;
      memory = kept.memory;
    }

pub returns-then-rests-clause-ok : goal.returns-then-rests-clause-ok
returns-then-rests-clause-ok c =
    let s = c.args.self.now in
    let kept = c.requires.kept in
    let items_is : c.push_reserved.new.self.items ≡ s.seats.items ++ c.new.result ∷ [] = c.push_reserved.ensures.items ∙ ap (λ xs. xs ++ c.new.result ∷ []) c.reserve.ensures.items in
    let count_is : c.len-at.result ≡ length s.seats.items = search rules in
    let low : c.args.act < 64 = subst (λ (n : ℕ). n < 64) c.number.ensures.same c.number.ensures.range in
    let some : is_some c.args.context ≡ true = (let e = c.is_some-rests.ensures in let f = c.if-rests.true in search rules) in
    let tile : c.tile_of-tile.result ≡ tile_of s.site c.args.act = c.tile_of-tile.ensures ∙ ap (tile_of s.site) c.number-2.ensures.same in
    let joins : c.has_program-joins.result ≡ has_program s.site c.args.act = c.has_program-joins.ensures ∙ ap (has_program s.site) c.number-then-rests.ensures.same in
    seat_ready s kept c.args.act low c.args.context c.requires.fresh c.new.result c.new.ensures c.push_reserved.new.self.items items_is c.from.result c.len-at.result (c.from.ensures ∙ c.number.ensures.same) count_is
    some c.tile_of-tile.result tile c.has_program-joins.result joins c.ready_if.new.self c.ready_if.ensures

pub returns-clause-kept : goal.returns-clause-kept
returns-clause-kept c =
    let s = c.args.self.now in
    let kept = c.requires.kept in
    let items_is : c.push_reserved.new.self.items ≡ s.seats.items ++ c.new.result ∷ [] = c.push_reserved.ensures.items ∙ ap (λ xs. xs ++ c.new.result ∷ []) c.reserve.ensures.items in
    let count_is : c.len-at.result ≡ length s.seats.items = search rules in
    let low : c.args.act < 64 = subst (λ (n : ℕ). n < 64) c.number.ensures.same c.number.ensures.range in
    let none : is_some c.args.context ≡ false = (let e = c.is_some-rests.ensures in let f = c.if-rests.false in search rules) in
    let tile : c.from-2.result ≡ tile_of s.site c.args.act = c.from-2.ensures ∙ c.number-3.ensures.same ∙ c.tile_of-tile.ensures ∙ ap (tile_of s.site) c.number-2.ensures.same in
    let low_tile : c.from-2.result < 16 = subst (λ (n : ℕ). n < 16) (sym c.from-2.ensures) c.number-3.ensures.range in
    record {
      tables = seat_first s kept c.args.act low c.args.context c.requires.fresh c.new.result c.new.ensures c.push_reserved.new.self.items items_is c.from.result c.len-at.result (c.from.ensures ∙ c.number.ensures.same) count_is
          c.from-2.result tile low_tile c.index_mut-2.result.now c.index_mut-2.ensures.value none c.requires.place;
      held = seat_held s kept c.args.act low c.args.context c.requires.fresh c.new.result c.new.ensures c.push_reserved.new.self.items items_is c.from.result c.len-at.result (c.from.ensures ∙ c.number.ensures.same) count_is;
      memory = kept.memory;
    }

pub returns-clause-ok : goal.returns-clause-ok
returns-clause-ok c =
    let s = c.args.self.now in
    let kept = c.requires.kept in
    let items_is : c.push_reserved.new.self.items ≡ s.seats.items ++ c.new.result ∷ [] = c.push_reserved.ensures.items ∙ ap (λ xs. xs ++ c.new.result ∷ []) c.reserve.ensures.items in
    let count_is : c.len-at.result ≡ length s.seats.items = search rules in
    let low : c.args.act < 64 = subst (λ (n : ℕ). n < 64) c.number.ensures.same c.number.ensures.range in
    let none : is_some c.args.context ≡ false = (let e = c.is_some-rests.ensures in let f = c.if-rests.false in search rules) in
    seat_opened s kept c.args.act low c.args.context c.requires.fresh c.new.result c.new.ensures c.push_reserved.new.self.items items_is c.from.result c.len-at.result (c.from.ensures ∙ c.number.ensures.same) count_is none
