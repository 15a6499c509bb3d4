-- What the kernel does with grants.
use Rattle.std.specs.Prelude.{ℕ, ◌+◌, ◌-◌, Bool, true, false, not, ◌&&◌, ◌||◌, ◌==◌, nat_lt, nat_le, List, [], ◌∷◌, ◌++◌, length, slice_get, slice_set, count_by, Option, Some, None, is_none, if◌then◌else◌}
use Rattle.std.specs.List.{list_any}
use Rattle.m3_base.specs.declared.ids.FlightId.{FlightId}
use Rattle.m3_base.specs.declared.packet.Fresh.{Fresh}
use Rattle.m3_base.specs.declared.order.GrantLine.{GrantLine}
use Rattle.m3_base.specs.declared.packet.Packet.{Packet}
use Rattle.m3_base.specs.declared.packet.Perm.{Perm}
use Rattle.m3_base.specs.declared.event.No.{No}
use Rattle.m3_base.specs.Ideal.Flights.{kernel, new_flight}
use Rattle.m3_base.specs.Ideal.Issue.{may_read, may_write}
use Rattle.m3_base.specs.Ideal.State.{Standing, Live, Closing, Closed, Done, Grant, State, holder, holder_ep, parent_of, grant_in, parent_in, undone, is_done, is_live, is_child}

-- ---- the record that a new grant's line stands for

abbrev pub send_form : ℕ → ℕ → ℕ → ℕ → GrantLine → Fresh → Option Fresh
send_form g of label credits above (Fresh.Receive h slots size) =
    Some (Fresh.Send g (holder above) (holder_ep above) of label size credits)
send_form g of label credits above _ = None

abbrev pub part_form : ℕ → ℕ → ℕ → Perm → Fresh → Option Fresh
part_form g at len perm (Fresh.Memory h start length its) = Some (Fresh.Memory g (start + at) len perm)
part_form g at len perm _ = None

-- none where the line's parent isn't there, or isn't of the needed kind
abbrev pub form : ℕ → GrantLine → Option Grant → Option Fresh
form g (GrantLine.Recv act ep slots size) above = Some (Fresh.Receive g slots size)
form g (GrantLine.Send act ep of label credits) (Some above) = send_form g of label credits above.line above.fresh
form g (GrantLine.Send act ep of label credits) None = None
form g (GrantLine.Range act ep at len perm) above = Some (Fresh.Memory g at len perm)
form g (GrantLine.Part act ep of at len perm) (Some above) = part_form g at len perm above.fresh
form g (GrantLine.Part act ep of at len perm) None = None

-- ---- why a line is refused

abbrev pub is_above_closing : Option Grant → Bool
is_above_closing None = false
is_above_closing (Some above) = not (is_live above.standing)

-- the endpoint has a grant that isn't done
abbrev pub holds_at : ℕ → ℕ → Grant → Bool
holds_at act ep x = not (is_done x.standing) && ((holder x.line == act) && (holder_ep x.line == ep))

abbrev pub is_outside : ℕ → GrantLine → Option Fresh → Bool
is_outside memory (GrantLine.Range act ep at len perm) above = nat_lt memory (at + len)
is_outside memory (GrantLine.Part act ep of at len perm) (Some (Fresh.Memory h start length its)) = nat_lt length (at + len)
is_outside memory line above = false

abbrev pub is_within_perm : Perm → Perm → Bool
is_within_perm a b = (not (may_read a) || may_read b) && (not (may_write a) || may_write b)

abbrev pub is_more : GrantLine → Option Fresh → Bool
is_more (GrantLine.Part act ep of at len perm) (Some (Fresh.Memory h start length its)) = not (is_within_perm perm its)
is_more line above = false

abbrev pub fresh_of : Option Grant → Option Fresh
fresh_of None = None
fresh_of (Some x) = Some x.fresh

abbrev pub is_open_child : ℕ → Grant → Bool
is_open_child g x = is_child g x && not (is_done x.standing)

abbrev pub is_crowded : GrantLine → List Grant → Bool
is_crowded (GrantLine.Send act ep of label credits) gs = nat_le 64 (count_by (is_open_child of) gs)
is_crowded line gs = false

abbrev pub first_no : List (Bool × No) → Option No
first_no [] = None
first_no (t ∷ ts) = if t.0 then Some t.1 else first_no ts

abbrev pub make_refusal : ℕ → List Grant → GrantLine → Option No
make_refusal memory gs line =
    let above = undone (parent_in gs (parent_of line)) in
    first_no (
    (is_none (form (length gs + 1) line above), No.NoGrant)
    ∷ (is_above_closing above, No.Closing)
    ∷ (list_any (holds_at (holder line) (holder_ep line)) gs, No.SlotTaken)
    ∷ (is_outside memory line (fresh_of above), No.OutsideParent)
    ∷ (is_more line (fresh_of above), No.MorePermission)
    ∷ (nat_le 4096 (length gs) || is_crowded line gs, No.TooMany)
    ∷ []
    )

abbrev pub kernel_id : State → FlightId
kernel_id s = record { issuer = kernel; number = s.kernel_next }

abbrev pub new_grant : GrantLine → Fresh → Grant
new_grant line f = record { line = line; fresh = f; standing = Live; close_sent = false; is_root = false }

abbrev pub new_install : State → GrantLine → Fresh → Packet
new_install s line f = Packet.Install (kernel_id s) (holder line) (holder_ep line) f

abbrev pub with_grant_made : State → GrantLine → Fresh → State
with_grant_made s line f =
    record s {
      flights = new_flight (new_install s line f) s.flights;
      kernel_next = s.kernel_next + 1;
      grants = s.grants ++ new_grant line f ∷ [];
    }

-- ---- revoking

abbrev pub revoke_refusal : Option Grant → Option No
revoke_refusal None = Some No.NoGrant
revoke_refusal (Some x) = if is_done x.standing then Some No.NoGrant else (if is_live x.standing then None else Some No.Closing)

abbrev pub or_false : Option Bool → Bool
or_false None = false
or_false (Some b) = b

-- whether the grant with this parent is under a marked one
abbrev pub is_marked : Option ℕ → List Bool → Bool
is_marked None marks = false
is_marked (Some p) marks = or_false (slice_get marks (p - 1))

-- for each grant, whether it is g or under g: a parent stands before its children
abbrev pub marks_under : ℕ → ℕ → List Bool → List Grant → List Bool
marks_under g n marks [] = marks
marks_under g n marks (x ∷ gs) = marks_under g (n + 1) (marks ++ ((n == g) || is_marked (parent_of x.line) marks) ∷ []) gs

abbrev pub to_closing : Bool → Grant → Grant
to_closing b x = if b && is_live x.standing then record x { standing = Closing } else x

abbrev pub closing_where : List Bool → List Grant → List Grant
closing_where [] gs = gs
closing_where (b ∷ bs) [] = []
closing_where (b ∷ bs) (x ∷ gs) = to_closing b x ∷ closing_where bs gs

abbrev pub set_some : List Grant → ℕ → (Grant → Grant) → Option Grant → List Grant
set_some gs g change None = gs
set_some gs g change (Some x) = slice_set gs (g - 1) (change x)

abbrev pub change_grant : List Grant → ℕ → (Grant → Grant) → List Grant
change_grant gs g change = set_some gs g change (grant_in gs g)

abbrev pub to_root : Grant → Grant
to_root x = record x { is_root = true }

abbrev pub with_root_closing : List Grant → ℕ → List Grant
with_root_closing gs g = change_grant gs g to_root

abbrev pub after_revoke : List Grant → ℕ → List Grant
after_revoke gs g = with_root_closing (closing_where (marks_under g 1 [] gs) gs) g

-- ---- close and done

abbrev pub is_closing_grant : Standing → Bool
is_closing_grant Closing = true
is_closing_grant _ = false

abbrev pub is_closed_grant : Standing → Bool
is_closed_grant Closed = true
is_closed_grant _ = false

-- closing, with no child left, and its Close wasn't sent
abbrev pub may_close : List Grant → ℕ → Option Grant → Bool
may_close gs g None = false
may_close gs g (Some x) = is_closing_grant x.standing && (not x.close_sent && not (list_any (is_open_child g) gs))

abbrev pub to_sent : Grant → Grant
to_sent x = record x { close_sent = true }

abbrev pub to_done : Grant → Grant
to_done x = record x { standing = Done }

abbrev pub close_sent : State → ℕ → Grant → State
close_sent s g x =
    record s {
      flights = new_flight (Packet.Close (kernel_id s) (holder x.line) (holder_ep x.line) g) s.flights;
      kernel_next = s.kernel_next + 1;
      grants = change_grant s.grants g to_sent;
    }
