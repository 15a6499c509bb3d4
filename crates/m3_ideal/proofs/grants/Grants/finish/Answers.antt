use Rattle.std.proofs.Common.{◌≡◌, ◌-◌, false, sym, subst, ap, ◌∙◌, rules}
use Rattle.std.specs.Prelude.{slice_set, slice_index_or}
use Rattle.m3_base.specs.Ideal.State.{Done, is_done}
use Rattle.m3_ideal.specs.Tally.{IsTallied}
use Rattle.m3_ideal.proofs.Changes.{Rewrites, done_goal, stays_goal, changed_read}
use Rattle.m3_ideal.proofs.grants.Grants.finish.Goals.{then-not-is_done, else-not-is_done}
use Rattle.m3_ideal.proofs.grants.Grants.finish.Goals as goal

pub invariant_of-self : goal.invariant_of-self
invariant_of-self c =
    let i = c.number.result - 1 in
    let y = c.set_standing.new.self in
    let made = c.self.inside.made.items in
    elim c.if-not-is_done.branch [
      | then-not-is_done w ↦
          let third : c.index_mut.result.now ≡ slice_index_or made i c.index_mut.result.now = c.index_mut.ensures.value ∙ ap (λ j. slice_index_or j.made.items i c.index_mut.result.now) w.self-inside-is in
          let r : Rewrites made i Done c.index.result.now w.index-then-not-is_done.result.now c.index_mut.result.now y w.line-line.result = record { range = search rules; first = c.index.ensures; second = w.index-then-not-is_done.ensures; third = third; written = c.set_standing.ensures; line_is = w.line-line.ensures; act = w.place.ensures.act; ep = w.place.ensures.ep; parent = w.place.ensures.parent } in
          let d : is_done c.index.result.now.standing ≡ false = search rules in
          subst (λ j. IsTallied (slice_set j.made.items i y) j.held.items j.children.items) (sym w.self-inside-is)
          (done_goal made c.self.inside.held.items c.self.inside.children.items w.lower.new.held.items w.lower.new.children.items i _ _ _ y w.line-line.result c.self.invariant r d w.lower.ensures.held w.lower.ensures.children)
      | else-not-is_done w ↦
          let third : c.index_mut.result.now ≡ slice_index_or made i c.index_mut.result.now = c.index_mut.ensures.value ∙ ap (λ j. slice_index_or j.made.items i c.index_mut.result.now) w.self-inside-is in
          let d : is_done c.index.result.now.standing ≡ is_done Done = search rules in
          subst (λ j. IsTallied (slice_set j.made.items i y) j.held.items j.children.items) (sym w.self-inside-is)
          (stays_goal made c.self.inside.held.items c.self.inside.children.items i Done c.index.result.now c.index_mut.result.now y c.self.invariant (search rules) c.index.ensures third c.set_standing.ensures d)
    ]

pub returns-after-not-is_done : goal.returns-after-not-is_done
returns-after-not-is_done c =
    let i = c.number.result - 1 in
    let y = c.set_standing.new.self in
    let made = c.self.inside.made.items in
    elim c.if-not-is_done.branch [
      | then-not-is_done w ↦
          let third : c.index_mut.result.now ≡ slice_index_or made i c.index_mut.result.now = c.index_mut.ensures.value ∙ ap (λ j. slice_index_or j.made.items i c.index_mut.result.now) w.self-inside-is in
          ap (λ j. slice_set j.made.items i y) w.self-inside-is
          ∙ changed_read made c.args.self.now c.number.result c.args.g (λ x. record x { standing = Done }) c.index_mut.result.now y c.number.ensures.some c.number.ensures.same (search rules) third c.set_standing.ensures c.self.view_is
      | else-not-is_done w ↦
          let third : c.index_mut.result.now ≡ slice_index_or made i c.index_mut.result.now = c.index_mut.ensures.value ∙ ap (λ j. slice_index_or j.made.items i c.index_mut.result.now) w.self-inside-is in
          ap (λ j. slice_set j.made.items i y) w.self-inside-is
          ∙ changed_read made c.args.self.now c.number.result c.args.g (λ x. record x { standing = Done }) c.index_mut.result.now y c.number.ensures.some c.number.ensures.same (search rules) third c.set_standing.ensures c.self.view_is
    ]
