-- Every step keeps what Saved says of its activity.
use Rattle.std.proofs.Common.{ℕ, zero, suc, [], get_or, refl, sym, subst, replicate}
use Rattle.m3_base.specs.declared.event.Event.{Event}
use Rattle.m3_base.specs.Ideal.GrantRules.{with_grant_made}
use Rattle.m3_base.specs.Placement.State.{actor, link}
use Rattle.m3_base.specs.Placement.Order.{least_closing}
use Rattle.m3_base.specs.Placement.Opening.{opening_placement}
use Rattle.m3_quiet.specs.Flags.{FlagsIn}
use Rattle.m3_quiet.proofs.Flags.Statements.{FlagsStay, FlagsOpen}
use Rattle.m3_quiet.proofs.Sums.Opening.{opens-links}
use Rattle.m3_quiet.proofs.Flags.Takes.{f-take, f-tend}
use Rattle.m3_quiet.proofs.Flags.Orders.{f-order, f-close}
use Rattle.m3_quiet.proofs.Flags.Commands.{f-turn_of, f-do}

pub flags_stay : FlagsStay
flags_stay s p (Event.Do a c) with_grant_made parted ok = f-do s p parted ok a c (actor a p) refl
flags_stay s p (Event.Turn a) with_grant_made parted ok = f-turn_of s p parted ok a with_grant_made (actor a p) refl
flags_stay s p (Event.Take to from) with_grant_made parted ok = f-take s p parted ok to from (link from to p) refl
flags_stay s p (Event.Tend a) with_grant_made parted ok = f-tend s p parted ok a (actor a p) refl
flags_stay s p Event.Close with_grant_made parted ok = f-close s p parted ok (least_closing s.grants 1 s.grants)
flags_stay s p (Event.Order o) with_grant_made parted ok = f-order s p parted ok o
flags_stay s p (Event.File line) with_grant_made parted ok = tt

pub flags_open : FlagsOpen
flags_open s ps lines k = subst (λ ls. FlagsIn s (opening_placement ps lines).actors (get_or ls k [])) (sym (opens-links ps lines)) (none 256 k)
  where
    none : (n j : ℕ) → FlagsIn s (opening_placement ps lines).actors (get_or (replicate n []) j [])
    none zero j = tt
    none (suc n) zero = tt
    none (suc n) (suc j) = none n j
