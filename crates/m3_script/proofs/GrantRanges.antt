-- What is read of a script has the numbers of its grants in their ranges.
use Rattle.std.proofs.Common.{◌≡◌, ℕ, ◌<◌, Bool, true, false, List, Result, Ok, Err, refl, subst, arith, codes, drop}
use Rattle.std.specs.Str.{bytes_eq}
use Rattle.std.specs.Prelude.{◌&&◌, if◌then◌else◌, nat_lt, nat_le, IfOk, ⊤}
use Rattle.std.proofs.lemmas.Bool.Decides.{nat_tests}
use Rattle.m3_base.specs.declared.event.Event.{Event}
use Rattle.m3_base.specs.declared.order.GrantLine.{GrantLine}
use Rattle.m3_base.specs.declared.order.Order.{Order}
use Rattle.m3_base.specs.declared.setup_line.SetupLine.{SetupLine}
use Rattle.m3_base.specs.Limits.{is_within}
use Rattle.m3_text.specs.declared.hexes.HexCase.{HexCase}
use Rattle.m3_text.specs.declared.refusal.Why.{Why}
use Rattle.m3_text.specs.declared.refusal.Why.TheVariants as why
use Rattle.m3_text.specs.Refusable.{◌>>=◌}
use Rattle.m3_text.specs.Number.{number, is_decimal, read_on}
use Rattle.m3_text.specs.LineForm.{word, count_test, form_test}
use Rattle.m3_script.specs.declared.line.Line.{Line}
use Rattle.m3_script.specs.Events.{take_of, do_of, tend_of, turn_of, close_of, switch_of, revoke_of, order_of, file_of, event_of}
use Rattle.m3_script.specs.Grants.{perm_of, recv_form, send_form, range_form, part_form, recv_of, send_of, range_of, part_of, grant_of}
use Rattle.m3_script.specs.LineForms.{begins_event, begins_setup_line, line_of, opening_of}
use Rattle.m3_base.specs.Limits.{HasRanges}
use Rattle.m3_script.specs.Rules.{IsBuilt, IsInRanges, IsListed}
use Rattle.m3_script.proofs.ListedLines.{other_word, setup_line_listed, if_then}
use Rattle.m3_script.specs.Setups.{act_command_of, machine_of, setup_line_of}

-- ---- facts of what a reading gives

value_is : (decimal low high : Bool) (v n : ℕ) → (if decimal && low && high then Ok v else Err why.Number) ≡ Ok n → ((low && high) ≡ true) × (v ≡ n)
value_is true true true v n e = (refl, cc)
value_is true true false v n e = absurd cc
value_is true false high v n e = absurd cc
value_is false low high v n e = absurd cc

number_is : (low high : ℕ) (w : List ℕ) (n : ℕ) → number low high w ≡ Ok n → is_within low high n ≡ true
unfolding number
number_is low high w n e =
    let is = value_is (is_decimal w) (nat_le low (read_on 0 w)) (nat_le (read_on 0 w) high) (read_on 0 w) n e in
    subst (λ m. is_within low high m ≡ true) is.1 is.0

below : (n : ℕ) → is_within 0 15 n ≡ true → n < 16
below n h = grind (arith, nat_tests, h)

some : (n : ℕ) → is_within 1 4294967295 n ≡ true → nat_lt 0 n ≡ true
some n h = grind (arith, nat_tests, h)

and : (a b : Bool) → a ≡ true → b ≡ true → (a && b) ≡ true
and a b h k = rw (h, k) refl

-- ---- grants

recv_has : (ws : List (List ℕ)) → IfOk (recv_of ws) HasRanges
unfolding recv_of
recv_has ws =
    if_then HasRanges (form_test recv_form ws) _ (λ form fits.
    if_then HasRanges (number 0 63 (word 0 ws)) _ (λ act is_act.
    if_then HasRanges (number 0 15 (word 1 ws)) _ (λ ep is_ep.
    if_then HasRanges (number 1 32 (word 3 ws)) _ (λ slots is_slots.
    if_then HasRanges (number 1 512 (word 5 ws)) _ (λ size is_size.
    (below ep (number_is 0 15 _ ep is_ep), and _ _ (number_is 1 32 _ slots is_slots) (number_is 1 512 _ size is_size)))))))

send_has : (ws : List (List ℕ)) → IfOk (send_of ws) HasRanges
unfolding send_of
send_has ws =
    if_then HasRanges (form_test send_form ws) _ (λ form fits.
    if_then HasRanges (number 0 63 (word 0 ws)) _ (λ act is_act.
    if_then HasRanges (number 0 15 (word 1 ws)) _ (λ ep is_ep.
    if_then HasRanges (number 1 4096 (word 3 ws)) _ (λ of is_of.
    if_then HasRanges (number 0 18446744073709551615 (word 5 ws)) _ (λ label is_label.
    if_then HasRanges (number 1 32 (word 7 ws)) _ (λ credits is_credits.
    (below ep (number_is 0 15 _ ep is_ep), number_is 1 32 _ credits is_credits)))))))

range_has : (ws : List (List ℕ)) → IfOk (range_of ws) HasRanges
unfolding range_of
range_has ws =
    if_then HasRanges (form_test range_form ws) _ (λ form fits.
    if_then HasRanges (perm_of (word 7 ws)) _ (λ perm is_perm.
    if_then HasRanges (number 0 63 (word 0 ws)) _ (λ act is_act.
    if_then HasRanges (number 0 15 (word 1 ws)) _ (λ ep is_ep.
    if_then HasRanges (number 0 4294967295 (word 3 ws)) _ (λ at is_at.
    if_then HasRanges (number 1 4294967295 (word 5 ws)) _ (λ len is_len.
    (below ep (number_is 0 15 _ ep is_ep), some len (number_is 1 4294967295 _ len is_len))))))))

part_has : (ws : List (List ℕ)) → IfOk (part_of ws) HasRanges
unfolding part_of
part_has ws =
    if_then HasRanges (form_test part_form ws) _ (λ form fits.
    if_then HasRanges (perm_of (word 9 ws)) _ (λ perm is_perm.
    if_then HasRanges (number 0 63 (word 0 ws)) _ (λ act is_act.
    if_then HasRanges (number 0 15 (word 1 ws)) _ (λ ep is_ep.
    if_then HasRanges (number 1 4096 (word 3 ws)) _ (λ of is_of.
    if_then HasRanges (number 0 4294967295 (word 5 ws)) _ (λ at is_at.
    if_then HasRanges (number 1 4294967295 (word 7 ws)) _ (λ len is_len.
    (below ep (number_is 0 15 _ ep is_ep), some len (number_is 1 4294967295 _ len is_len)))))))))

grant_by : (recv send range part : Bool) (ws : List (List ℕ))
    → IfOk (if recv then recv_of ws else if send then send_of ws else if range then range_of ws else if part then part_of ws else Err why.Form) HasRanges
grant_by true send range part ws = recv_has ws
grant_by false true range part ws = send_has ws
grant_by false false true part ws = range_has ws
grant_by false false false true ws = part_has ws
grant_by false false false false ws = tt

grant_has : (ws : List (List ℕ)) → IfOk (grant_of ws) HasRanges
unfolding grant_of
grant_has ws =
    let w = word 0 ws in
    grant_by (bytes_eq w (codes "recv")) (bytes_eq w (codes "send")) (bytes_eq w (codes "range")) (bytes_eq w (codes "part")) (drop 1 ws)

-- ---- orders

abbrev OrderInRanges : Order → Type 0
OrderInRanges order = IsInRanges (Event.Order order)

switch_has : (ws : List (List ℕ)) → IfOk (switch_of ws) OrderInRanges
unfolding switch_of
switch_has ws =
    if_then OrderInRanges (count_test 2 ws) _ (λ count is_count.
    if_then OrderInRanges (number 0 15 (word 0 ws)) _ (λ tile is_tile.
    if_then OrderInRanges (number 0 63 (word 1 ws)) _ (λ act is_act. tt)))

revoke_has : (ws : List (List ℕ)) → IfOk (revoke_of ws) OrderInRanges
unfolding revoke_of
revoke_has ws =
    if_then OrderInRanges (count_test 1 ws) _ (λ count is_count.
    if_then OrderInRanges (number 1 4096 (word 0 ws)) _ (λ g is_g. tt))

ordered_has : (r : Result GrantLine Why) → IfOk r HasRanges → IfOk (r >>= λ line. Ok (Order.Grant line)) OrderInRanges
ordered_has (Ok line) has = has
ordered_has (Err w) has = tt

order_by : (switch grant revoke : Bool) (ws : List (List ℕ))
    → IfOk (if switch then switch_of ws else if grant then (grant_of ws >>= λ line. Ok (Order.Grant line)) else if revoke then revoke_of ws else Err why.Form) OrderInRanges
order_by true grant revoke ws = switch_has ws
order_by false true revoke ws = ordered_has (grant_of ws) (grant_has ws)
order_by false false true ws = revoke_has ws
order_by false false false ws = tt

order_has : (ws : List (List ℕ)) → IfOk (order_of ws) OrderInRanges
unfolding order_of
order_has ws = let w = word 0 ws in order_by (bytes_eq w (codes "switch")) (bytes_eq w (codes "grant")) (bytes_eq w (codes "revoke")) (drop 1 ws)

-- ---- events

-- the numbers of its grant are in their ranges, and it is built
abbrev pub FitsForms : Event → Type 0
FitsForms event = IsInRanges event × IsBuilt event

take_has : (ws : List (List ℕ)) → IfOk (take_of ws) FitsForms
unfolding take_of
take_has ws =
    if_then FitsForms (count_test 2 ws) _ (λ count is_count.
    if_then FitsForms (number 0 15 (word 0 ws)) _ (λ to is_to.
    if_then FitsForms (number 0 15 (word 1 ws)) _ (λ from is_from. (tt, tt))))

do_has : (case : HexCase) (ws : List (List ℕ)) → IfOk (do_of case ws) FitsForms
unfolding do_of
do_has case ws = if_then FitsForms (act_command_of case ws) _ (λ x is. (tt, tt))

turn_has : (ws : List (List ℕ)) → IfOk (turn_of ws) FitsForms
unfolding turn_of
turn_has ws =
    if_then FitsForms (count_test 1 ws) _ (λ count is_count.
    if_then FitsForms (number 0 63 (word 0 ws)) _ (λ act is_act. (tt, tt)))

tend_has : (ws : List (List ℕ)) → IfOk (tend_of ws) FitsForms
unfolding tend_of
tend_has ws =
    if_then FitsForms (count_test 1 ws) _ (λ count is_count.
    if_then FitsForms (number 0 63 (word 0 ws)) _ (λ act is_act. (tt, tt)))

close_has : (ws : List (List ℕ)) → IfOk (close_of ws) FitsForms
unfolding close_of
close_has ws = if_then FitsForms (count_test 0 ws) _ (λ count is_count. (tt, tt))

carried_has : (r : Result Order Why) → IfOk r OrderInRanges → IfOk (r >>= λ order. Ok (Event.Order order)) FitsForms
carried_has (Ok order) has = (has, tt)
carried_has (Err w) has = tt

event_by : (take do_ turn tend close file : Bool) (case : HexCase) (ws vs : List (List ℕ)) → file ≡ false
    → IfOk (
    if take then take_of vs
    else if do_ then do_of case vs
    else if turn then turn_of vs
    else if tend then tend_of vs
    else if close then close_of vs
    else if file then (file_of vs >>= λ line. Ok (Event.File line))
    else (order_of ws >>= λ order. Ok (Event.Order order))
    ) FitsForms
event_by true do_ turn tend close file case ws vs f = take_has vs
event_by false true turn tend close file case ws vs f = do_has case vs
event_by false false true tend close file case ws vs f = turn_has vs
event_by false false false true close file case ws vs f = tend_has vs
event_by false false false false true file case ws vs f = close_has vs
event_by false false false false false true case ws vs f = absurd cc
event_by false false false false false false case ws vs f = carried_has (order_of ws) (order_has ws)

event_has : (case : HexCase) (ws : List (List ℕ)) → begins_event (word 0 ws) ≡ true → IfOk (event_of case ws) FitsForms
unfolding event_of
event_has case ws begins =
    let w = word 0 ws in
    event_by (bytes_eq w (codes "take")) (bytes_eq w (codes "do")) (bytes_eq w (codes "turn")) (bytes_eq w (codes "tend")) (bytes_eq w (codes "close")) (bytes_eq w (codes "file"))
    case ws (drop 1 ws) (other_word begins_event w (codes "file") refl begins)

-- ---- lines

-- an event is built and has its numbers in their ranges, and a line of the setup gives no program of one line
abbrev pub LineInRanges : Line → Type 0
LineInRanges (Line.Event event) = FitsForms event
LineInRanges (Line.Setup line) = IsListed line
LineInRanges line = ⊤

event_line_has : (r : Result Event Why) → IfOk r FitsForms → IfOk (r >>= λ event. Ok (Line.Event event)) LineInRanges
event_line_has (Ok event) has = has
event_line_has (Err w) has = tt

setup_line_has : (r : Result SetupLine Why) → IfOk r IsListed → IfOk (r >>= λ line. Ok (Line.Setup line)) LineInRanges
setup_line_has (Ok line) has = has
setup_line_has (Err w) has = tt

opening_by : (machine begin : Bool) (vs : List (List ℕ))
    → IfOk (
    if machine then (machine_of vs >>= λ m. Ok (Line.Machine m.0 m.1))
    else if begin then (count_test 0 vs >>= λ count. Ok Line.Begin)
    else Err why.Form
    ) LineInRanges
opening_by true begin vs = if_then LineInRanges (machine_of vs) _ (λ m is. tt)
opening_by false true vs = if_then LineInRanges (count_test 0 vs) _ (λ count is. tt)
opening_by false false vs = tt

opening_has : (ws : List (List ℕ)) → IfOk (opening_of ws) LineInRanges
unfolding opening_of
opening_has ws = let w = word 0 ws in opening_by (bytes_eq w (codes "machine")) (bytes_eq w (codes "begin")) (drop 1 ws)

line_by : (event setup : Bool) (ws : List (List ℕ)) → begins_event (word 0 ws) ≡ event → begins_setup_line (word 0 ws) ≡ setup
    → IfOk (
    if event then (event_of HexCase.Either ws >>= λ e. Ok (Line.Event e))
    else if setup then (setup_line_of HexCase.Either ws >>= λ line. Ok (Line.Setup line))
    else opening_of ws
    ) LineInRanges
line_by true setup ws event begins = event_line_has (event_of HexCase.Either ws) (event_has HexCase.Either ws event)
line_by false true ws event begins = setup_line_has (setup_line_of HexCase.Either ws) (setup_line_listed HexCase.Either ws begins)
line_by false false ws event begins = opening_has ws

pub line_has : (ws : List (List ℕ)) → IfOk (line_of ws) LineInRanges
unfolding line_of
line_has ws = line_by (begins_event (word 0 ws)) (begins_setup_line (word 0 ws)) ws refl refl
