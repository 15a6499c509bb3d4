use Rattle.std.proofs.Common.{◌≡◌, ℕ, ◌<◌, false, length, Some, None, sym, ap, ◌∙◌, subst, rules}
use Rattle.std.specs.Prelude.{is_some, Option}
use Rattle.m3_kernel.specs.ActivityView.{seat_value}
use Rattle.m3_kernel.specs.LookupTables.{berth_at}
use Rattle.m3_kernel.specs.KernelStateView.{kernel_in}
use Rattle.m3_kernel.specs.StepContracts.{DueAt}
use Rattle.m3_kernel.proofs.TableLookup.{due_leaving, due_nobody, nobody_leaves, there_within, not_due, is_due_here, seat_here}
use Rattle.m3_kernel.proofs.state.State.due.Goals as goal

pub returns-then-is_some : goal.returns-then-is_some
returns-then-is_some c =
    due_leaving c.args.self.now c.requires c.args.tile (sym (ap (λ b. is_some b.leaving) c.berth-berth.ensures) ∙ sym c.is_some.ensures ∙ c.if-is_some.true)

pub returns-in_err-at : goal.returns-in_err-at
returns-in_err-at c =
    let s = c.args.self.now in
    let e : is_some (berth_at s.berths.items c.args.tile).leaving ≡ false = sym (ap (λ b. is_some b.leaving) c.berth-berth.ensures) ∙ sym c.is_some.ensures ∙ c.if-is_some.false in
    let g : (berth_at s.berths.items c.args.tile).there ≡ None = sym (ap (λ b. b.there) c.berth-berth.ensures) ∙ c.in_err-at.was in
    subst (λ (o : Option ℕ). DueAt s.site c.args.tile (kernel_in s) o) (sym c.from_residual.ensures) (
    due_nobody s c.requires c.args.tile (nobody_leaves s c.requires c.args.tile e) g
    )

pub index-requires : goal.index-requires
index-requires c =
    let e : c.in_ok-at.at < length c.args.self.now.seats.items = there_within c.args.self.now c.requires c.args.tile c.in_ok-at.at (sym (ap (λ b. b.there) c.berth-berth.ensures) ∙ c.in_ok-at.was) in
    search (rules, e)

pub returns-then-is_due : goal.returns-then-is_due
returns-then-is_due c =
    let s = c.args.self.now in
    let at = c.in_ok-at.at in
    let e : is_some (berth_at s.berths.items c.args.tile).leaving ≡ false = sym (ap (λ b. is_some b.leaving) c.berth-berth.ensures) ∙ sym c.is_some.ensures ∙ c.if-is_some.false in
    let g : (berth_at s.berths.items c.args.tile).there ≡ Some at = sym (ap (λ b. b.there) c.berth-berth.ensures) ∙ c.in_ok-at.was in
    let x = c.index.result.now in
    is_due_here s c.requires c.args.tile at g (seat_value x) (seat_here s.seats.items at x (there_within s c.requires c.args.tile at g) c.index.ensures) (nobody_leaves s c.requires c.args.tile e) (sym c.is_due.ensures ∙ c.if-is_due.true)

pub returns-else-is_due : goal.returns-else-is_due
returns-else-is_due c =
    let s = c.args.self.now in
    let at = c.in_ok-at.at in
    let e : is_some (berth_at s.berths.items c.args.tile).leaving ≡ false = sym (ap (λ b. is_some b.leaving) c.berth-berth.ensures) ∙ sym c.is_some.ensures ∙ c.if-is_some.false in
    let g : (berth_at s.berths.items c.args.tile).there ≡ Some at = sym (ap (λ b. b.there) c.berth-berth.ensures) ∙ c.in_ok-at.was in
    let x = c.index.result.now in
    not_due s c.requires c.args.tile at g (seat_value x) (seat_here s.seats.items at x (there_within s c.requires c.args.tile at g) c.index.ensures) (nobody_leaves s c.requires c.args.tile e) (sym c.is_due.ensures ∙ c.if-is_due.false)
