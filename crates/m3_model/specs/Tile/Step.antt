-- The local steps of a tile: a command, a turn, a take.
use Rattle.std.specs.Prelude.{ℕ, ◌+◌, Bool, true, false, not, ◌&&◌, ◌==◌, List, [], ◌∷◌, ◌++◌, length, Option, Some, None, is_some, if◌then◌else◌}
use Rattle.m3_base.specs.declared.command.Answer.{Answer}
use Rattle.m3_base.specs.declared.command.Reply.{Reply}
use Rattle.m3_base.specs.declared.packet.Packet.{Packet}
use Rattle.m3_base.specs.declared.command.Command.{Command}
use Rattle.m3_base.specs.declared.event.Made.{Made}
use Rattle.m3_base.specs.declared.event.Said.{Said}
use Rattle.m3_base.specs.declared.event.IdleWhy.{IdleWhy}
use Rattle.m3_base.specs.Lists.Keyed as keyed
use Rattle.m3_base.specs.Ideal.Flights.{name_of}
use Rattle.m3_base.specs.Ideal.Context.{Context, endpoint}
use Rattle.m3_base.specs.Ideal.Issue.{IssueOutcome, Gives, Flies, Issued, issue, is_busy}
use Rattle.m3_base.specs.Ideal.State.{same_act}
use Rattle.m3_base.specs.Ideal.Step.{has_unread}
use Rattle.m3_base.specs.Journal.Entry.{shown_told}
use Rattle.m3_base.specs.Ideal.Issue.{flies_always}
use Rattle.m3_base.specs.Placement.Routing.{target}
use Rattle.m3_base.specs.Placement.Take.{is_here}
use Rattle.m3_base.specs.Placement.Turn.{is_repeat}
use Rattle.m3_base.specs.Ideal.Arrival.{Arrival}
use Rattle.m3_base.specs.Ideal.Acceptance.{arrive_fit}
use Rattle.m3_model.specs.Config.KnownActivities.{is_named, is_named_context, has_bounded_counters}
use Rattle.m3_model.specs.Config.Site.{Site, tile_for, is_shared}
use Rattle.m3_model.specs.Parcel.{Heard, Parcel, Data, Save, Saved, Restore, Yield, Closed}
use Rattle.m3_model.specs.Tile.State.{Seen, Awake, Got, Waits, Resident, Tile}
use Rattle.m3_model.specs.LocalStep.{LocalResult, local_result, local_result_made, idle_result, dropped_result, data_out, closed_out, answer_tile, heard_in_answer}
use Rattle.m3_base.specs.Journal.Replies.{reply_of}

-- ---- what stays on a tile

abbrev pub resident_act : Resident → ℕ
resident_act x = x.act

abbrev pub resident_of : ℕ → Tile → Option Resident
resident_of a t = keyed.find resident_act same_act a t.stays

abbrev pub with_resident : Resident → Tile → Tile
with_resident x t = record t { stays = keyed.with_replaced resident_act same_act x t.stays }

abbrev pub with_current : Option Context → Tile → Tile
with_current c t = record t { current = c }

-- ---- what the program sees

abbrev pub seen_after_answer : Seen → Heard → Seen
seen_after_answer (Waits n) x = if n == x.number then Got (reply_of x.answer) else Waits n
seen_after_answer seen x = seen

abbrev pub seen_after_answers : Seen → List Heard → Seen
seen_after_answers seen [] = seen
seen_after_answers seen (x ∷ xs) = seen_after_answers (seen_after_answer seen x) xs

abbrev pub resident_after_answers : List Heard → Resident → Resident
resident_after_answers xs x = record x { seen = seen_after_answers x.seen xs }

abbrev pub seen_of_reply : IssueOutcome → Seen
seen_of_reply (Gives r) = Got r
seen_of_reply (Flies id) = Waits id.number

-- ---- a command

abbrev pub busy_with : Command → Context → Bool
busy_with c x = flies_always c && is_busy x

abbrev pub new_out : Site → Option Packet → List (ℕ × Parcel)
new_out h None = []
new_out h (Some p) = (tile_for h (target p), Data p) ∷ []

abbrev pub do_issued : Site → Tile → Option Issued → LocalResult Tile
do_issued h t None = idle_result IdleWhy.Busy t
do_issued h t (Some i) = local_result (shown_told i.told) (with_current (Some i.context) t) (new_out h i.packet)

abbrev pub do_at : Site → Tile → ℕ → Command → Option Context → LocalResult Tile
do_at h t a c None = idle_result IdleWhy.NotCurrent t
do_at h t a c (Some x) = if x.act == a then do_issued h t (issue x c) else idle_result IdleWhy.NotCurrent t

abbrev pub tile_do : Site → Tile → ℕ → Command → LocalResult Tile
tile_do h t a c = do_at h t a c t.current

-- ---- a turn

-- the quantum of this stay is used up
abbrev pub is_due : Site → Tile → Resident → Bool
is_due h t y = not y.yield_sent && (is_shared t.tile h.homes && (y.moves == h.quantum))

abbrev pub unread_at : Context → Option ℕ → Bool
unread_at x None = false
unread_at x (Some ep) = has_unread (endpoint x ep)

-- its pending Await has no unread message
abbrev pub is_waiting : Context → Resident → Bool
is_waiting x y = is_some y.pending && not (unread_at x y.pending)

-- a Yield, unless this stay has sent one
abbrev pub yield_out : Resident → List (ℕ × Parcel)
yield_out y = if y.yield_sent then [] else (0, Yield y.act) ∷ []

abbrev pub yield_out_of : Resident → Resident
yield_out_of y = if y.yield_sent then y else record y { yield_sent = true }

abbrev pub yield_result : Made → Said → Tile → Resident → LocalResult Tile
yield_result m said t y = local_result_made m said (with_resident (yield_out_of y) t) (yield_out y)

abbrev pub turn_issued : Site → Tile → Resident → Made → Option Issued → LocalResult Tile
turn_issued h t y m None = idle_result IdleWhy.Busy t
turn_issued h t y m (Some i) =
    local_result_made m (shown_told i.told) (
    with_resident (record y { moves = y.moves + 1; seen = seen_of_reply i.told }) (with_current (Some i.context) t)
    ) (new_out h i.packet)

abbrev pub turn_await : Tile → Resident → ℕ → Bool → LocalResult Tile
turn_await t y ep true =
    local_result_made (Made.Await ep) Said.Awake (with_resident (record y { pending = None; seen = Awake }) t) []
turn_await t y ep false =
    yield_result (Made.Await ep) (if y.yield_sent then Said.Asleep else Said.Yield) t (record y { pending = Some ep })

-- the program's move, which the machine asks for where no Await is pending
abbrev pub turn_move : Site → Tile → Context → Resident → Made → Option (LocalResult Tile)
turn_move h t x y (Made.Command c) =
    if is_some y.pending then None else Some (turn_issued h t y (Made.Command c) (issue x c))
turn_move h t x y (Made.Await ep) =
    if is_repeat y.pending ep then Some (turn_await t y ep (has_unread (endpoint x ep))) else None
turn_move h t x y Made.Quantum = None
turn_move h t x y Made.End =
    if is_some y.pending then None else Some (yield_result Made.End Said.Ended t (record y { ended = true }))

abbrev pub turn_quantum : Tile → Resident → Made → Option (LocalResult Tile)
turn_quantum t y Made.Quantum = Some (yield_result Made.Quantum Said.Yield t y)
turn_quantum t y m = None

abbrev pub turn_made : Site → Tile → Context → Resident → Option Made → Option (LocalResult Tile)
turn_made h t x y None = None
turn_made h t x y (Some m) = if is_due h t y then turn_quantum t y m else turn_move h t x y m

abbrev pub turn_by : Site → Tile → Context → Option Made → Option Resident → Option (LocalResult Tile)
turn_by h t x made None = None
turn_by h t x made (Some y) =
    if y.ended
    then Some (idle_result IdleWhy.Ended t)
    else (
    if not (length x.flying == 0)
    then Some (idle_result IdleWhy.Busy t)
    else (if y.yield_sent && is_waiting x y then Some (idle_result IdleWhy.Waiting t) else turn_made h t x y made)
    )

abbrev pub turn_at : Site → Tile → ℕ → Option Made → Option Context → Option (LocalResult Tile)
turn_at h t a made None = Some (idle_result IdleWhy.NotCurrent t)
turn_at h t a made (Some x) =
    if x.act == a then turn_by h t x made (resident_of a t) else Some (idle_result IdleWhy.NotCurrent t)

-- none where the turn can't make this move
abbrev pub tile_turn : Site → Tile → ℕ → Option Made → Option (LocalResult Tile)
tile_turn h t a made = turn_at h t a made t.current

-- ---- a take

abbrev pub heard_by : List Heard → Tile → Option Resident → Tile
heard_by xs t None = t
heard_by xs t (Some y) = with_resident (resident_after_answers xs y) t

abbrev pub take_arrived : Site → Tile → Packet → Option Arrival → LocalResult Tile
take_arrived h t p None = dropped_result t
take_arrived h t p (Some r) =
    local_result r.said (heard_by (heard_in_answer p) (with_current (Some r.context) t) (resident_of r.context.act t)) (
    data_out (answer_tile h r.answer) r.answer ++ closed_out r.freed
    )

abbrev pub act_in : Option Context → Option ℕ
act_in None = None
act_in (Some x) = Some x.act

-- it has to fit the context, and to name activities of the setup alone
abbrev pub arrive_named : Site → Context → Packet → Option Arrival
arrive_named h x p = if is_named h p then arrive_fit x p else None

abbrev pub take_here : Site → Tile → Packet → Option Context → LocalResult Tile
take_here h t p None = dropped_result t
take_here h t p (Some x) = take_arrived h t p (arrive_named h x p)

-- data for another activity goes to the kernel; a read or a write is for none, and no tile takes it
abbrev pub bounced : Tile → Packet → Option ℕ → LocalResult Tile
bounced t p None = dropped_result t
bounced t p (Some a) = local_result (Said.Bounced (name_of p)) t ((0, Data p) ∷ [])

-- data for the current activity arrives, data for another bounces
abbrev pub take_data : Site → Tile → Packet → LocalResult Tile
take_data h t p = if is_here (target p) (act_in t.current) then take_here h t p t.current else bounced t p (target p)

abbrev pub is_waiting_resident : Context → Option Resident → Bool
is_waiting_resident x None = false
is_waiting_resident x (Some y) = is_waiting x y

abbrev pub has_ended : Option Resident → Bool
has_ended None = false
has_ended (Some y) = y.ended

abbrev pub take_save : Tile → ℕ → Option Context → LocalResult Tile
take_save t a None = dropped_result t
take_save t a (Some x) =
    if x.act == a
    then local_result (Said.Saving a) (with_current None t) (
    (0, Saved x.act x (is_waiting_resident x (resident_of a t)) (has_ended (resident_of a t))) ∷ []
    )
    else dropped_result t

-- the stay begins, and its program hears what came while it was away
abbrev pub resident_at_restore : List Heard → Resident → Resident
resident_at_restore xs y = record y { moves = 0; yield_sent = false; seen = seen_after_answers y.seen xs }

abbrev pub after_restore : Tile → Context → List Heard → Option Resident → LocalResult Tile
after_restore t x xs None = dropped_result t
after_restore t x xs (Some y) =
    local_result (Said.Current x.act) (with_resident (resident_at_restore xs y) (with_current (Some x) t)) []

-- the context is of this activity; it names activities of the setup alone, and its numbers are low
abbrev pub may_return : Site → ℕ → Context → Bool
may_return h a x = (x.act == a) && (is_named_context h x && has_bounded_counters x)

-- nobody is there, the context may return, and its activity has its home here
abbrev pub take_restore : Site → Tile → ℕ → Context → List Heard → Option Context → LocalResult Tile
take_restore h t a x xs (Some y) = dropped_result t
take_restore h t a x xs None = if may_return h a x then after_restore t x xs (resident_of x.act t) else dropped_result t

abbrev pub tile_take : Site → Tile → Parcel → LocalResult Tile
tile_take h t (Data p) = take_data h t p
tile_take h t (Save a) = take_save t a t.current
tile_take h t (Restore a x xs) = take_restore h t a x xs t.current
tile_take h t (Saved a x w e) = dropped_result t
tile_take h t (Yield a) = dropped_result t
tile_take h t (Closed g) = dropped_result t
