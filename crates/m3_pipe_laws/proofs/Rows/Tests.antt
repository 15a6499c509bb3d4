-- A pipe that runs: 20 bytes in chunks of 16 over a ring of 2 keep all premises of the theorem, and come through.
use Rattle.std.proofs.Common.{◌≡◌, ◌≢◌, ℕ, zero, suc, ◌+◌, ◌-◌, Bool, true, false, List, [], ◌∷◌, Some, None, refl, ◌∙◌, ap, arith}
use Rattle.std.specs.Prelude.{Option, ◌==◌, ◌&&◌, ◌||◌, not, slice_get}
use Rattle.std.proofs.lemmas.Bool.Decides.{nat_tests}
use Rattle.m3_base.specs.declared.packet.Packet.{Packet}
use Rattle.m3_base.specs.declared.command.Command.{Command}
use Rattle.m3_base.specs.declared.program.Move.{Move}
use Rattle.m3_base.specs.declared.program.Seen.{Seen}
use Rattle.m3_base.specs.declared.step.Step.{Step}
use Rattle.m3_base.specs.Ideal.Context.{Context}
use Rattle.m3_base.specs.Ideal.Issue.{Issued, issue}
use Rattle.m3_base.specs.Ideal.State.{State, Grant, context_of, grant_in, parent_of, is_number}
use Rattle.m3_base.specs.Ideal.Step.{ideal_step}
use Rattle.m3_base.specs.Ideal.MessageTraces.{state_after_steps}
use Rattle.m3_base.specs.ExtentFiles.Table.{same_bytes}
use Rattle.m3_laws.specs.Laws.{AllFit}
use Rattle.m3_pipe_laws.specs.Protocol.{Reaction, Writer, Reader}
use Rattle.m3_pipe_laws.specs.Pipe.{Player, player_after, Plays, IsMove, WritesOutside, IssuesOutside, CommandOutside, StepOutside, AllOutside, AllMakesApart}
use Rattle.std.proofs.lemmas.Bool.{and_parts}

-- ---- premises that compute

-- whether two moves are the same
same_bytes-is : (xs ys : List ℕ) → same_bytes xs ys ≡ true → xs ≡ ys
same_bytes-is [] [] q = refl
same_bytes-is [] (y ∷ ys) q = absurd (cc)
same_bytes-is (x ∷ xs) [] q = absurd (cc)
same_bytes-is (x ∷ xs) (y ∷ ys) q =
    let a : x ≡ y = grind (arith, nat_tests, q) in
    let b : xs ≡ ys = same_bytes-is xs ys (and_parts (x == y) (same_bytes xs ys) q).1 in
    cc

abbrev pub same_option : Option ℕ → Option ℕ → Bool
same_option None None = true
same_option (Some x) (Some y) = x == y
same_option a b = false

same_option-is : (a b : Option ℕ) → same_option a b ≡ true → a ≡ b
same_option-is None None q = refl
same_option-is None (Some y) q = absurd (cc)
same_option-is (Some x) None q = absurd (cc)
same_option-is (Some x) (Some y) q = let a : x ≡ y = grind (arith, nat_tests, q) in ap Some a

abbrev pub same_command : Command → Command → Bool
same_command (Command.Send ep payload to) (Command.Send ep' payload' to') = (ep == ep') && (same_bytes payload payload' && same_option to to')
same_command (Command.Reply ep token payload) (Command.Reply ep' token' payload') = (ep == ep') && ((token == token') && same_bytes payload payload')
same_command (Command.Fetch ep) (Command.Fetch ep') = ep == ep'
same_command (Command.Acknowledge ep token) (Command.Acknowledge ep' token') = (ep == ep') && (token == token')
same_command (Command.Read ep off len) (Command.Read ep' off' len') = (ep == ep') && ((off == off') && (len == len'))
same_command (Command.Write ep off payload) (Command.Write ep' off' payload') = (ep == ep') && ((off == off') && same_bytes payload payload')
same_command a b = false

same_command-is : (a b : Command) → same_command a b ≡ true → a ≡ b
same_command-is (Command.Send ep payload to) (Command.Send ep' payload' to') q =
    let a : ep ≡ ep' = grind (arith, nat_tests, (and_parts (ep == ep') (same_bytes payload payload' && same_option to to') q).0) in
    let r = (and_parts (ep == ep') (same_bytes payload payload' && same_option to to') q).1 in
    let b : payload ≡ payload' = same_bytes-is payload payload' (and_parts (same_bytes payload payload') (same_option to to') r).0 in
    let c : to ≡ to' = same_option-is to to' (and_parts (same_bytes payload payload') (same_option to to') r).1 in
    cc
same_command-is (Command.Send ep payload to) (Command.Reply ep' token' payload') q = absurd (cc)
same_command-is (Command.Send ep payload to) (Command.Fetch ep') q = absurd (cc)
same_command-is (Command.Send ep payload to) (Command.Acknowledge ep' token') q = absurd (cc)
same_command-is (Command.Send ep payload to) (Command.Read ep' off' len') q = absurd (cc)
same_command-is (Command.Send ep payload to) (Command.Write ep' off' payload') q = absurd (cc)
same_command-is (Command.Reply ep token payload) (Command.Send ep' payload' to') q = absurd (cc)
same_command-is (Command.Reply ep token payload) (Command.Reply ep' token' payload') q =
    let a : ep ≡ ep' = grind (arith, nat_tests, (and_parts (ep == ep') ((token == token') && same_bytes payload payload') q).0) in
    let r = (and_parts (ep == ep') ((token == token') && same_bytes payload payload') q).1 in
    let b : token ≡ token' = grind (arith, nat_tests, (and_parts (token == token') (same_bytes payload payload') r).0) in
    let c : payload ≡ payload' = same_bytes-is payload payload' (and_parts (token == token') (same_bytes payload payload') r).1 in
    cc
same_command-is (Command.Reply ep token payload) (Command.Fetch ep') q = absurd (cc)
same_command-is (Command.Reply ep token payload) (Command.Acknowledge ep' token') q = absurd (cc)
same_command-is (Command.Reply ep token payload) (Command.Read ep' off' len') q = absurd (cc)
same_command-is (Command.Reply ep token payload) (Command.Write ep' off' payload') q = absurd (cc)
same_command-is (Command.Fetch ep) (Command.Send ep' payload' to') q = absurd (cc)
same_command-is (Command.Fetch ep) (Command.Reply ep' token' payload') q = absurd (cc)
same_command-is (Command.Fetch ep) (Command.Fetch ep') q = let a : ep ≡ ep' = grind (arith, nat_tests, q) in ap Command.Fetch a
same_command-is (Command.Fetch ep) (Command.Acknowledge ep' token') q = absurd (cc)
same_command-is (Command.Fetch ep) (Command.Read ep' off' len') q = absurd (cc)
same_command-is (Command.Fetch ep) (Command.Write ep' off' payload') q = absurd (cc)
same_command-is (Command.Acknowledge ep token) (Command.Send ep' payload' to') q = absurd (cc)
same_command-is (Command.Acknowledge ep token) (Command.Reply ep' token' payload') q = absurd (cc)
same_command-is (Command.Acknowledge ep token) (Command.Fetch ep') q = absurd (cc)
same_command-is (Command.Acknowledge ep token) (Command.Acknowledge ep' token') q =
    let a : ep ≡ ep' = grind (arith, nat_tests, (and_parts (ep == ep') (token == token') q).0) in
    let b : token ≡ token' = grind (arith, nat_tests, (and_parts (ep == ep') (token == token') q).1) in
    cc
same_command-is (Command.Acknowledge ep token) (Command.Read ep' off' len') q = absurd (cc)
same_command-is (Command.Acknowledge ep token) (Command.Write ep' off' payload') q = absurd (cc)
same_command-is (Command.Read ep off len) (Command.Send ep' payload' to') q = absurd (cc)
same_command-is (Command.Read ep off len) (Command.Reply ep' token' payload') q = absurd (cc)
same_command-is (Command.Read ep off len) (Command.Fetch ep') q = absurd (cc)
same_command-is (Command.Read ep off len) (Command.Acknowledge ep' token') q = absurd (cc)
same_command-is (Command.Read ep off len) (Command.Read ep' off' len') q =
    let a : ep ≡ ep' = grind (arith, nat_tests, (and_parts (ep == ep') ((off == off') && (len == len')) q).0) in
    let r = (and_parts (ep == ep') ((off == off') && (len == len')) q).1 in
    let b : off ≡ off' = grind (arith, nat_tests, (and_parts (off == off') (len == len') r).0) in
    let c : len ≡ len' = grind (arith, nat_tests, (and_parts (off == off') (len == len') r).1) in
    cc
same_command-is (Command.Read ep off len) (Command.Write ep' off' payload') q = absurd (cc)
same_command-is (Command.Write ep off payload) (Command.Send ep' payload' to') q = absurd (cc)
same_command-is (Command.Write ep off payload) (Command.Reply ep' token' payload') q = absurd (cc)
same_command-is (Command.Write ep off payload) (Command.Fetch ep') q = absurd (cc)
same_command-is (Command.Write ep off payload) (Command.Acknowledge ep' token') q = absurd (cc)
same_command-is (Command.Write ep off payload) (Command.Read ep' off' len') q = absurd (cc)
same_command-is (Command.Write ep off payload) (Command.Write ep' off' payload') q =
    let a : ep ≡ ep' = grind (arith, nat_tests, (and_parts (ep == ep') ((off == off') && same_bytes payload payload') q).0) in
    let r = (and_parts (ep == ep') ((off == off') && same_bytes payload payload') q).1 in
    let b : off ≡ off' = grind (arith, nat_tests, (and_parts (off == off') (same_bytes payload payload') r).0) in
    let c : payload ≡ payload' = same_bytes-is payload payload' (and_parts (off == off') (same_bytes payload payload') r).1 in
    cc

abbrev pub wants_command : Option Move → Command → Bool
wants_command (Some (Move.Do a)) c = same_command a c
wants_command m c = false

wants_command-is : (m : Option Move) (c : Command) → wants_command m c ≡ true → m ≡ Some (Move.Do c)
wants_command-is (Some (Move.Do a)) c q = ap (λ z. Some (Move.Do z)) (same_command-is a c q)
wants_command-is (Some (Move.Await ep)) c q = absurd (cc)
wants_command-is (Some Move.Ended) c q = absurd (cc)
wants_command-is None c q = absurd (cc)

abbrev pub wants_await : Option Move → ℕ → Bool
wants_await (Some (Move.Await ep)) at = ep == at
wants_await m at = false

wants_await-is : (m : Option Move) (at : ℕ) → wants_await m at ≡ true → m ≡ Some (Move.Await at)
wants_await-is (Some (Move.Await ep)) at q = let a : ep ≡ at = grind (arith, nat_tests, q) in ap (λ z. Some (Move.Await z)) a
wants_await-is (Some (Move.Do a)) at q = absurd (cc)
wants_await-is (Some Move.Ended) at q = absurd (cc)
wants_await-is None at q = absurd (cc)

-- each step of the activity is what its program wants
abbrev pub is_move : {W : Type 0} → ℕ → Player W → Step → Bool
is_move a p (Step.Issue b c) = not (b == a) || wants_command p.wants c
is_move a p (Step.Await b ep) = not (b == a) || wants_await p.wants ep
is_move a p t = true

abbrev pub are_moves : {W : Type 0} → (W → Seen → Reaction W) → ℕ → Player W → State → List Step → Bool
are_moves step a p s [] = true
are_moves step a p s (t ∷ ts) = is_move a p t && are_moves step a (player_after step a p t (ideal_step s t)) (state_after_steps s (ideal_step s t)) ts

or_right : (a b : Bool) → a ≡ true → (not a || b) ≡ true → b ≡ true
or_right true b q h = h
or_right false b q h = absurd (cc)

module _ {W : Type 0} (step : W → Seen → Reaction W) (a : ℕ) where
  move_by : (p : Player W) (t : Step) → is_move a p t ≡ true → IsMove step a p t
  move_by p (Step.Issue b c) q = λ z. wants_command-is p.wants c (or_right (b == a) (wants_command p.wants c) z q)
  move_by p (Step.Await b ep) q = λ z. wants_await-is p.wants ep (or_right (b == a) (wants_await p.wants ep) z q)
  move_by p (Step.Land id) q = tt
  move_by p (Step.Answered id) q = tt
  move_by p (Step.Make line) q = tt
  move_by p (Step.Revoke g) q = tt
  move_by p (Step.Close g) q = tt
  move_by p (Step.Closed g) q = tt
  move_by p (Step.Done g) q = tt

  pub plays_by : (p : Player W) (s : State) (ts : List Step) → are_moves step a p s ts ≡ true → Plays step a p s ts
  plays_by p s [] q = tt
  plays_by p s (t ∷ ts) q = (move_by p t (and_parts (is_move a p t) _ q).0, plays_by (player_after step a p t (ideal_step s t)) (state_after_steps s (ideal_step s t)) ts (and_parts (is_move a p t) _ q).1)

-- no other activity writes at all
abbrev pub quiet_packet : Option Packet → Bool
quiet_packet (Some (Packet.Write id g place payload)) = false
quiet_packet p = true

abbrev pub quiet_issued : Option Issued → Bool
quiet_issued None = true
quiet_issued (Some i) = quiet_packet i.packet

abbrev pub quiet_context : Option Context → Command → Bool
quiet_context None c = true
quiet_context (Some x) c = quiet_issued (issue x c)

abbrev pub quiet_step : ℕ → State → Step → Bool
quiet_step w s (Step.Issue a c) = (a == w) || quiet_context (context_of a s.contexts) c
quiet_step w s t = true

abbrev pub all_quiet : ℕ → State → List Step → Bool
all_quiet w s [] = true
all_quiet w s (t ∷ ts) = quiet_step w s t && all_quiet w (state_after_steps s (ideal_step s t)) ts

packet_outside : (start len : ℕ) (p : Option Packet) → quiet_packet p ≡ true → WritesOutside start len p
packet_outside start len None q = tt
packet_outside start len (Some (Packet.Write id g place payload)) q = absurd (cc)
packet_outside start len (Some (Packet.Message to ep g m)) q = tt
packet_outside start len (Some (Packet.Credit id to g)) q = tt
packet_outside start len (Some (Packet.Read id g place buffer)) q = tt
packet_outside start len (Some (Packet.Answer id answer)) q = tt
packet_outside start len (Some (Packet.Install id to ep f)) q = tt
packet_outside start len (Some (Packet.Close id to ep g)) q = tt

issued_outside : (start len : ℕ) (o : Option Issued) → quiet_issued o ≡ true → IssuesOutside start len o
issued_outside start len None q = tt
issued_outside start len (Some i) q = packet_outside start len i.packet q

context_outside : (start len : ℕ) (o : Option Context) (c : Command) → quiet_context o c ≡ true → CommandOutside start len o c
context_outside start len None c q = tt
context_outside start len (Some x) c q = issued_outside start len (issue x c) q

step_outside : (w start len : ℕ) (s : State) (t : Step) → quiet_step w s t ≡ true → StepOutside w start len s t
step_outside w start len s (Step.Issue a c) q = λ ne. context_outside start len (context_of a s.contexts) c (by_act (a == w) refl q ne)
  where
    by_act : (b : Bool) → (a == w) ≡ b → (b || quiet_context (context_of a s.contexts) c) ≡ true → a ≢ w → quiet_context (context_of a s.contexts) c ≡ true
    by_act true u q ne = absurd (ne (grind (arith, nat_tests, u)))
    by_act false u q ne = q
step_outside w start len s (Step.Await a ep) q = tt
step_outside w start len s (Step.Land id) q = tt
step_outside w start len s (Step.Answered id) q = tt
step_outside w start len s (Step.Make line) q = tt
step_outside w start len s (Step.Revoke g) q = tt
step_outside w start len s (Step.Close g) q = tt
step_outside w start len s (Step.Closed g) q = tt
step_outside w start len s (Step.Done g) q = tt

pub outside_by : (w start len : ℕ) (s : State) (ts : List Step) → all_quiet w s ts ≡ true → AllOutside w start len s ts
outside_by w start len s [] q = tt
outside_by w start len s (t ∷ ts) q = (step_outside w start len s t (and_parts (quiet_step w s t) _ q).0, outside_by w start len (state_after_steps s (ideal_step s t)) ts (and_parts (quiet_step w s t) _ q).1)

-- no orders
abbrev pub is_order : Step → Bool
is_order (Step.Make line) = true
is_order t = false

abbrev pub no_orders : List Step → Bool
no_orders [] = true
no_orders (t ∷ ts) = not (is_order t) && no_orders ts

pub makes_by : (w r : ℕ) (writer : Writer) (reader : Reader) (inbox replies : ℕ) (ts : List Step) → no_orders ts ≡ true → AllMakesApart w r writer reader inbox replies ts
makes_by w r writer reader inbox replies [] q = tt
makes_by w r writer reader inbox replies (Step.Make line ∷ ts) q = absurd (cc)
makes_by w r writer reader inbox replies (Step.Issue a c ∷ ts) q = (tt, makes_by w r writer reader inbox replies ts q)
makes_by w r writer reader inbox replies (Step.Await a ep ∷ ts) q = (tt, makes_by w r writer reader inbox replies ts q)
makes_by w r writer reader inbox replies (Step.Land id ∷ ts) q = (tt, makes_by w r writer reader inbox replies ts q)
makes_by w r writer reader inbox replies (Step.Answered id ∷ ts) q = (tt, makes_by w r writer reader inbox replies ts q)
makes_by w r writer reader inbox replies (Step.Revoke g ∷ ts) q = (tt, makes_by w r writer reader inbox replies ts q)
makes_by w r writer reader inbox replies (Step.Close g ∷ ts) q = (tt, makes_by w r writer reader inbox replies ts q)
makes_by w r writer reader inbox replies (Step.Closed g ∷ ts) q = (tt, makes_by w r writer reader inbox replies ts q)
makes_by w r writer reader inbox replies (Step.Done g ∷ ts) q = (tt, makes_by w r writer reader inbox replies ts q)

pub fit_by : (ts : List Step) → no_orders ts ≡ true → AllFit ts
fit_by [] q = tt
fit_by (Step.Make line ∷ ts) q = absurd (cc)
fit_by (Step.Issue a c ∷ ts) q = (tt, fit_by ts q)
fit_by (Step.Await a ep ∷ ts) q = (tt, fit_by ts q)
fit_by (Step.Land id ∷ ts) q = (tt, fit_by ts q)
fit_by (Step.Answered id ∷ ts) q = (tt, fit_by ts q)
fit_by (Step.Revoke g ∷ ts) q = (tt, fit_by ts q)
fit_by (Step.Close g ∷ ts) q = (tt, fit_by ts q)
fit_by (Step.Closed g ∷ ts) q = (tt, fit_by ts q)
fit_by (Step.Done g ∷ ts) q = (tt, fit_by ts q)

-- which grants have this parent
abbrev pub none_under : ℕ → List Grant → Bool
none_under p [] = true
none_under p (x ∷ gs) = not (is_number p (parent_of x.line)) && none_under p gs

pub under_none : (p : ℕ) (gs : List Grant) (j : ℕ) (x : Grant) → none_under p gs ≡ true → slice_get gs j ≡ Some x → parent_of x.line ≢ Some p
under_none p [] j x q at = absurd (cc)
under_none p (y ∷ gs) zero x q at = λ z.
    let same : y ≡ x = cc in
    let is : is_number p (parent_of y.line) ≡ true = ap (λ v. is_number p (parent_of v.line)) same ∙ (ap (is_number p) z ∙ grind (arith, nat_tests)) in
    absurd (let u = (and_parts (not (is_number p (parent_of y.line))) _ q).0 in grind (arith, is, u))
under_none p (y ∷ gs) (suc j) x q at = under_none p gs j x (and_parts (not (is_number p (parent_of y.line))) _ q).1 at

pub in_slice : (gs : List Grant) (g : ℕ) (x : Grant) → grant_in gs g ≡ Some x → (j : ℕ) × ((slice_get gs j ≡ Some x) × (g ≡ j + 1))
in_slice gs g x at = (g - 1, (grind (arith, nat_tests, at), grind (arith, nat_tests, at)))

-- the only grant with this parent has the number g
abbrev pub only_under : ℕ → ℕ → ℕ → List Grant → Bool
only_under p g n [] = true
only_under p g n (x ∷ gs) = (not (is_number p (parent_of x.line)) || (n == g)) && only_under p g (n + 1) gs

pub under_only : (p g n : ℕ) (gs : List Grant) (j : ℕ) (x : Grant) → only_under p g n gs ≡ true → slice_get gs j ≡ Some x → parent_of x.line ≡ Some p → n + j ≡ g
under_only p g n [] j x q at z = absurd (cc)
under_only p g n (y ∷ gs) zero x q at z =
    let same : y ≡ x = cc in
    let is : is_number p (parent_of y.line) ≡ true = ap (λ v. is_number p (parent_of v.line)) same ∙ (ap (is_number p) z ∙ grind (arith, nat_tests)) in
    let u : (n == g) ≡ true = or_right (is_number p (parent_of y.line)) (n == g) is (and_parts (not (is_number p (parent_of y.line)) || (n == g)) _ q).0 in
    grind (arith, nat_tests, u)
under_only p g n (y ∷ gs) (suc j) x q at z =
    let rest = under_only p g (n + 1) gs j x (and_parts (not (is_number p (parent_of y.line)) || (n == g)) _ q).1 at z in
    omega (arith, rest)
