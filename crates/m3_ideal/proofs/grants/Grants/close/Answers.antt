use Rattle.std.proofs.Common.{◌≡◌, ◌-◌, true, sym, subst, ap, ◌∙◌, rules}
use Rattle.std.specs.Prelude.{slice_set, slice_index_or}
use Rattle.m3_base.specs.Ideal.State.{Closed, is_done}
use Rattle.m3_ideal.specs.Tally.{IsTallied}
use Rattle.m3_ideal.proofs.Changes.{Rewrites, undone_goal, stays_goal, changed_read}
use Rattle.m3_ideal.proofs.grants.Grants.close.Goals.{then-is_done, else-is_done}
use Rattle.m3_ideal.proofs.grants.Grants.close.Goals as goal

pub invariant_of-self : goal.invariant_of-self
invariant_of-self c =
    let i = c.number.result - 1 in
    let y = c.set_standing.new.self in
    let made = c.self.inside.made.items in
    elim c.if-is_done.branch [
      | then-is_done w ↦
          let third : c.index_mut.result.now ≡ slice_index_or made i c.index_mut.result.now = c.index_mut.ensures.value ∙ ap (λ j. slice_index_or j.made.items i c.index_mut.result.now) w.self-inside-is in
          let r : Rewrites made i Closed c.index.result.now w.index-then-is_done.result.now c.index_mut.result.now y w.line-line.result = record { range = search rules; first = c.index.ensures; second = w.index-then-is_done.ensures; third = third; written = c.set_standing.ensures; line_is = w.line-line.ensures; act = w.place.ensures.act; ep = w.place.ensures.ep; parent = w.place.ensures.parent } in
          let d : is_done c.index.result.now.standing ≡ true = search rules in
          subst (λ j. IsTallied (slice_set j.made.items i y) j.held.items j.children.items) (sym w.self-inside-is)
          (undone_goal made c.self.inside.held.items c.self.inside.children.items w.raise.new.held.items w.raise.new.children.items i _ _ _ y w.line-line.result c.self.invariant r d w.raise.ensures.held w.raise.ensures.children)
      | else-is_done w ↦
          let third : c.index_mut.result.now ≡ slice_index_or made i c.index_mut.result.now = c.index_mut.ensures.value ∙ ap (λ j. slice_index_or j.made.items i c.index_mut.result.now) w.self-inside-is in
          let d : is_done c.index.result.now.standing ≡ is_done Closed = search rules in
          subst (λ j. IsTallied (slice_set j.made.items i y) j.held.items j.children.items) (sym w.self-inside-is)
          (stays_goal made c.self.inside.held.items c.self.inside.children.items i Closed c.index.result.now c.index_mut.result.now y c.self.invariant (search rules) c.index.ensures third c.set_standing.ensures d)
    ]

pub returns-after-is_done : goal.returns-after-is_done
returns-after-is_done c =
    let i = c.number.result - 1 in
    let y = c.set_standing.new.self in
    let made = c.self.inside.made.items in
    elim c.if-is_done.branch [
      | then-is_done w ↦
          let third : c.index_mut.result.now ≡ slice_index_or made i c.index_mut.result.now = c.index_mut.ensures.value ∙ ap (λ j. slice_index_or j.made.items i c.index_mut.result.now) w.self-inside-is in
          ap (λ j. slice_set j.made.items i y) w.self-inside-is
          ∙ changed_read made c.args.self.now c.number.result c.args.g (λ x. record x { standing = Closed }) c.index_mut.result.now y c.number.ensures.some c.number.ensures.same (search rules) third c.set_standing.ensures c.self.view_is
      | else-is_done w ↦
          let third : c.index_mut.result.now ≡ slice_index_or made i c.index_mut.result.now = c.index_mut.ensures.value ∙ ap (λ j. slice_index_or j.made.items i c.index_mut.result.now) w.self-inside-is in
          ap (λ j. slice_set j.made.items i y) w.self-inside-is
          ∙ changed_read made c.args.self.now c.number.result c.args.g (λ x. record x { standing = Closed }) c.index_mut.result.now y c.number.ensures.some c.number.ensures.same (search rules) third c.set_standing.ensures c.self.view_is
    ]
