-- A resident has ended once its program made its end, and no other step of a part ends one.
use Rattle.std.proofs.Common.{◌≡◌, ℕ, ◌+◌, Bool, true, false, List, [], ◌∷◌, length, Option, Some, None, refl, sym, subst, ◌∙◌, ap, arith}
use Rattle.std.proofs.Math.Bool.{or-false}
use Rattle.std.specs.Prelude.{◌==◌, ◌&&◌, ◌||◌, not, is_some, if◌then◌else◌}
use Rattle.std.proofs.lemmas.Bool.Decides.{nat_tests}
use Rattle.m3_base.specs.declared.command.Command.{Command}
use Rattle.m3_base.specs.declared.event.Event.{Event}
use Rattle.m3_base.specs.declared.event.IdleWhy.{IdleWhy}
use Rattle.m3_base.specs.declared.event.Made.{Made}
use Rattle.m3_base.specs.declared.event.Outcome.{Outcome}
use Rattle.m3_base.specs.declared.event.Said.{Said}
use Rattle.m3_base.specs.declared.packet.Packet.{Packet}
use Rattle.m3_base.specs.Ideal.Arrival.{Arrival}
use Rattle.m3_base.specs.Ideal.Context.{Context, endpoint}
use Rattle.m3_base.specs.Ideal.Issue.{Issued, issue}
use Rattle.m3_base.specs.Ideal.Step.{has_unread}
use Rattle.m3_base.specs.Journal.Entry.{shown_told}
use Rattle.m3_base.specs.Placement.Routing.{target}
use Rattle.m3_base.specs.Placement.Take.{is_here}
use Rattle.m3_base.specs.Placement.Turn.{is_repeat}
use Rattle.m3_model.specs.Config.Site.{Site}
use Rattle.m3_model.specs.LocalStep.{LocalResult, dropped_result, heard_in_answer, idle_result, local_result, local_result_made}
use Rattle.m3_model.specs.Kernel.State.{Kernel}
use Rattle.m3_model.specs.Machine.{Kernel_part, Machine, Memory_part, Part, Tile_part, of_turn, part_step, with_part}
use Rattle.m3_model.specs.Parcel.{Closed, Data, Heard, Parcel, Restore, Save, Saved, Yield}
use Rattle.m3_model.specs.Tile.State.{Awake, Resident, Tile}
use Rattle.m3_model.specs.Tile.Step.{act_in, after_restore, arrive_named, bounced, do_at, do_issued, has_ended, heard_by, is_due, is_waiting, is_waiting_resident, may_return, new_out, resident_after_answers, resident_at_restore, resident_of, seen_of_reply, take_arrived, take_here, take_restore, take_save, tile_take, tile_turn, turn_at, turn_await, turn_by, turn_issued, turn_made, turn_move, turn_quantum, with_current, with_resident, yield_result}
use Rattle.m3_refine.proofs.arrival.CurrentContext.{stay_key}
use Rattle.m3_refine.proofs.lists.EachElement.{InSome}
use Rattle.m3_trace.proofs.hearing.TileTellsAnswers.{resident_then}

abbrev pub is_end_made : Option Made → Bool
is_end_made (Some Made.End) = true
is_end_made made = false

-- whether the event is the end of the activity's program
abbrev pub ends_by : ℕ → Event → Outcome → Bool
ends_by a (Event.Turn b) o = if b == a then is_end_made o.made else false
ends_by a event o = false

-- ---- a turn

module _ (h : Site) (t : Tile) (b : ℕ) where
  -- who has ended makes no move, and who makes its end has ended then; of others nothing changes
  pub record TurnEnds (d : LocalResult Tile) : Type 0 where
    pub ends : has_ended (resident_of b d.part) ≡ (has_ended (resident_of b t) || is_end_made d.outcome.made)
    pub gone : has_ended (resident_of b t) ≡ true → d.outcome.made ≡ None
    pub others : (a : ℕ) → (b == a) ≡ false → has_ended (resident_of a d.part) ≡ has_ended (resident_of a t)

  idle_ends : (why : IdleWhy) → TurnEnds (idle_result why t)
  idle_ends why = record { ends = sym (or-false (has_ended (resident_of b t))); gone = λ e. refl; others = λ a d. refl }

  abbrev OfSome : Option (LocalResult Tile) → Type 0
  OfSome o = InSome TurnEnds o

  one_of : (c : Bool) (x y : Option (LocalResult Tile)) → OfSome x → OfSome y → OfSome (if c then x else y)
  one_of true x y k l = k
  one_of false x y k l = l

  module _ (x : Context) (y : Resident) (there : resident_of b t ≡ Some y) (going : y.ended ≡ false) where
    key : y.act ≡ b
    key = stay_key b t.stays y there

    its : resident_of y.act t ≡ Some y
    its = ap (λ n. resident_of n t) key ∙ there

    becomes : (z : Resident) → z.act ≡ y.act → (c : Option Context) (m : Made) (said : Said) (out : List (ℕ × Parcel)) → z.ended ≡ is_end_made (Some m) → TurnEnds (local_result_made m said (with_resident z (with_current c t)) out)
    becomes z same c m said out e = record {
      ends = now ∙ e ∙ grown;
      gone = λ k. absurd (let w : has_ended (resident_of b t) ≡ false = ap has_ended there ∙ going in cc);
      others = λ a d. resident_then (with_current c t) y z its same (λ n o. (b == n) ≡ false → has_ended o ≡ has_ended (resident_of n t)) a (λ k f. refl)
          (λ k f. absurd (let q : (b == a) ≡ true = grind (arith, nat_tests, k, key) in cc)) d;
    }
      where
        now : has_ended (resident_of b (with_resident z (with_current c t))) ≡ z.ended
        now = resident_then (with_current c t) y z its same (λ n o. n ≡ b → has_ended o ≡ z.ended) b
            (λ d f. absurd (let k : (b == y.act) ≡ true = grind (arith, nat_tests, key) in cc)) (λ k f. refl) refl

        grown : is_end_made (Some m) ≡ (has_ended (resident_of b t) || is_end_made (Some m))
        grown = ap (λ c. c || is_end_made (Some m)) (sym (ap has_ended there ∙ going))

    yields : (z : Resident) → z.act ≡ y.act → (m : Made) (said : Said) → z.ended ≡ is_end_made (Some m) → TurnEnds (yield_result m said t z)
    yields z same m said e = by_sent z.yield_sent
      where
        by_sent : (c : Bool) → TurnEnds (local_result_made m said (with_resident (if c then z else record z { yield_sent = true }) t) (if c then [] else (0, Yield z.act) ∷ []))
        by_sent true = becomes z same t.current m said [] e
        by_sent false = becomes (record z { yield_sent = true }) same t.current m said ((0, Yield z.act) ∷ []) e

    issued_ends : (c : Command) (o : Option Issued) → TurnEnds (turn_issued h t y (Made.Command c) o)
    issued_ends c None = idle_ends IdleWhy.Busy
    issued_ends c (Some i) = becomes (record y { moves = y.moves + 1; seen = seen_of_reply i.told }) refl (Some i.context) (Made.Command c) (shown_told i.told) (new_out h i.packet) going

    await_ends : (ep : ℕ) (u : Bool) → TurnEnds (turn_await t y ep u)
    await_ends ep true = becomes (record y { pending = None; seen = Awake }) refl t.current (Made.Await ep) Said.Awake [] going
    await_ends ep false = yields (record y { pending = Some ep }) refl (Made.Await ep) (if y.yield_sent then Said.Asleep else Said.Yield) going

    move_ends : (m : Made) → OfSome (turn_move h t x y m)
    move_ends (Made.Command c) = one_of (is_some y.pending) None (Some (turn_issued h t y (Made.Command c) (issue x c))) tt (issued_ends c (issue x c))
    move_ends (Made.Await ep) = one_of (is_repeat y.pending ep) (Some (turn_await t y ep (has_unread (endpoint x ep)))) None (await_ends ep (has_unread (endpoint x ep))) tt
    move_ends Made.Quantum = tt
    move_ends Made.End = one_of (is_some y.pending) None (Some (yield_result Made.End Said.Ended t (record y { ended = true }))) tt (yields (record y { ended = true }) refl Made.End Said.Ended refl)

    quantum_ends : (m : Made) → OfSome (turn_quantum t y m)
    quantum_ends Made.Quantum = yields y refl Made.Quantum Said.Yield going
    quantum_ends (Made.Command c) = tt
    quantum_ends (Made.Await ep) = tt
    quantum_ends Made.End = tt

    made_ends : (made : Option Made) → OfSome (turn_made h t x y made)
    made_ends None = tt
    made_ends (Some m) = one_of (is_due h t y) (turn_quantum t y m) (turn_move h t x y m) (quantum_ends m) (move_ends m)

  by_ends : (x : Context) (made : Option Made) (o : Option Resident) → resident_of b t ≡ o → OfSome (turn_by h t x made o)
  by_ends x made None e = tt
  by_ends x made (Some y) e = by_ended y.ended refl
    where
      by_ended : (c : Bool) → y.ended ≡ c → OfSome (if c then Some (idle_result IdleWhy.Ended t) else (if not (length x.flying == 0) then Some (idle_result IdleWhy.Busy t) else (if y.yield_sent && is_waiting x y then Some (idle_result IdleWhy.Waiting t) else turn_made h t x y made)))
      by_ended true k = idle_ends IdleWhy.Ended
      by_ended false k =
          one_of (not (length x.flying == 0)) (Some (idle_result IdleWhy.Busy t)) (if y.yield_sent && is_waiting x y then Some (idle_result IdleWhy.Waiting t) else turn_made h t x y made) (idle_ends IdleWhy.Busy)
          (one_of (y.yield_sent && is_waiting x y) (Some (idle_result IdleWhy.Waiting t)) (turn_made h t x y made) (idle_ends IdleWhy.Waiting) (made_ends x y e k made))

  pub turn_ends : (made : Option Made) → OfSome (tile_turn h t b made)
  turn_ends made = at_ends t.current
    where
      at_ends : (o : Option Context) → OfSome (turn_at h t b made o)
      at_ends None = idle_ends IdleWhy.NotCurrent
      at_ends (Some x) = one_of (x.act == b) (turn_by h t x made (resident_of b t)) (Some (idle_result IdleWhy.NotCurrent t)) (by_ends x made (resident_of b t) refl) (idle_ends IdleWhy.NotCurrent)

-- ---- any other step of a tile

module _ (h : Site) (t : Tile) (a : ℕ) where
  abbrev Stays : LocalResult Tile → Type 0
  Stays d = has_ended (resident_of a d.part) ≡ has_ended (resident_of a t)

  either : (c : Bool) (x y : LocalResult Tile) → Stays x → Stays y → Stays (if c then x else y)
  either true x y k l = k
  either false x y k l = l

  -- a resident in place of one that has ended as it has
  alike : (u : Tile) (y z : Resident) → resident_of y.act u ≡ Some y → z.act ≡ y.act → z.ended ≡ y.ended → has_ended (resident_of a (with_resident z u)) ≡ has_ended (resident_of a u)
  alike u y z there same e = resident_then u y z there same (λ n o. has_ended o ≡ has_ended (resident_of n u)) a (λ d. refl) (λ k. e ∙ ap has_ended (sym (ap (λ n. resident_of n u) k ∙ there)))

  its_own : (b : ℕ) (y : Resident) → resident_of b t ≡ Some y → resident_of y.act t ≡ Some y
  its_own b y e = ap (λ n. resident_of n t) (stay_key b t.stays y e) ∙ e

  issued_stays : (o : Option Issued) → Stays (do_issued h t o)
  issued_stays None = refl
  issued_stays (Some i) = refl

  do_stays : (b : ℕ) (c : Command) (o : Option Context) → Stays (do_at h t b c o)
  do_stays b c None = refl
  do_stays b c (Some x) = either (x.act == b) (do_issued h t (issue x c)) (idle_result IdleWhy.NotCurrent t) (issued_stays (issue x c)) refl

  heard_stays : (xs : List Heard) (c : Option Context) (b : ℕ) (o : Option Resident) → resident_of b t ≡ o → has_ended (resident_of a (heard_by xs (with_current c t) o)) ≡ has_ended (resident_of a t)
  heard_stays xs c b None e = refl
  heard_stays xs c b (Some y) e = alike (with_current c t) y (resident_after_answers xs y) (its_own b y e) refl refl

  arrived_stays : (p : Packet) (o : Option Arrival) → Stays (take_arrived h t p o)
  arrived_stays p None = refl
  arrived_stays p (Some r) = heard_stays (heard_in_answer p) (Some r.context) r.context.act (resident_of r.context.act t) refl

  here_stays : (p : Packet) (o : Option Context) → Stays (take_here h t p o)
  here_stays p None = refl
  here_stays p (Some x) = arrived_stays p (arrive_named h x p)

  bounced_stays : (p : Packet) (o : Option ℕ) → Stays (bounced t p o)
  bounced_stays p None = refl
  bounced_stays p (Some b) = refl

  save_stays : (b : ℕ) (o : Option Context) → Stays (take_save t b o)
  save_stays b None = refl
  save_stays b (Some x) =
      either (x.act == b) (local_result (Said.Saving b) (with_current None t) ((0, Saved x.act x (is_waiting_resident x (resident_of b t)) (has_ended (resident_of b t))) ∷ [])) (dropped_result t) refl refl

  restored_stays : (c : Context) (xs : List Heard) (o : Option Resident) → resident_of c.act t ≡ o → Stays (after_restore t c xs o)
  restored_stays c xs None e = refl
  restored_stays c xs (Some y) e = alike (with_current (Some c) t) y (resident_at_restore xs y) (its_own c.act y e) refl refl

  restore_stays : (b : ℕ) (c : Context) (xs : List Heard) (o : Option Context) → Stays (take_restore h t b c xs o)
  restore_stays b c xs (Some y) = refl
  restore_stays b c xs None = either (may_return h b c) (after_restore t c xs (resident_of c.act t)) (dropped_result t) (restored_stays c xs (resident_of c.act t) refl) refl

  take_stays : (q : Parcel) → Stays (tile_take h t q)
  take_stays (Data p) = either (is_here (target p) (act_in t.current)) (take_here h t p t.current) (bounced t p (target p)) (here_stays p t.current) (bounced_stays p (target p))
  take_stays (Save b) = save_stays b t.current
  take_stays (Restore b c xs) = restore_stays b c xs t.current
  take_stays (Saved b c w e) = refl
  take_stays (Yield b) = refl
  take_stays (Closed g) = refl

  -- ---- any step of the tile

  -- who has ended then
  abbrev pub TileEnds : Event → LocalResult Part → Type 0
  TileEnds e d = (u : Tile) × (d.part ≡ Tile_part u) × (has_ended (resident_of a u) ≡ (has_ended (resident_of a t) || ends_by a e d.outcome))

  plain : (e : Event) (d : LocalResult Tile) → ends_by a e d.outcome ≡ false → Stays d → (u : Tile) × (Tile_part d.part ≡ Tile_part u) × (has_ended (resident_of a u) ≡ (has_ended (resident_of a t) || ends_by a e d.outcome))
  plain e d none k = (d.part, refl, k ∙ sym (or-false (has_ended (resident_of a t))) ∙ ap (λ c. has_ended (resident_of a t) || c) (sym none))

  turned : (b : ℕ) (o : Option (LocalResult Tile)) → InSome (TurnEnds h t b) o → InSome (TileEnds (Event.Turn b)) (of_turn o)
  turned b None k = tt
  turned b (Some d) k = (d.part, refl, by_act (b == a) refl)
    where
      by_act : (c : Bool) → (b == a) ≡ c → has_ended (resident_of a d.part) ≡ (has_ended (resident_of a t) || (if c then is_end_made d.outcome.made else false))
      by_act true e = subst (λ n. has_ended (resident_of n d.part) ≡ (has_ended (resident_of n t) || is_end_made d.outcome.made)) (let z : b ≡ a = grind (arith, nat_tests, e) in z) k.ends
      by_act false e = k.others a e ∙ sym (or-false (has_ended (resident_of a t)))

  pub tile_ends : (e : Event) (made : Option Made) (q : Option Parcel) → InSome (TileEnds e) (part_step h (Tile_part t) e made q)
  tile_ends (Event.Take to from) made None = plain (Event.Take to from) (idle_result IdleWhy.EmptyLink t) refl refl
  tile_ends (Event.Take to from) made (Some q) = plain (Event.Take to from) (tile_take h t q) refl (take_stays q)
  tile_ends (Event.Do b c) made q = plain (Event.Do b c) (do_at h t b c t.current) refl (do_stays b c t.current)
  tile_ends (Event.Turn b) made q = turned b (tile_turn h t b made) (turn_ends h t b made)
  tile_ends (Event.Tend b) made q = tt
  tile_ends Event.Close made q = tt
  tile_ends (Event.Order o) made q = tt
  tile_ends (Event.File l) made q = tt

-- ---- the kernel and the memory have nobody, and end none

abbrev pub EndsNone : ℕ → Event → LocalResult Part → Type 0
EndsNone a e d = (ends_by a e d.outcome ≡ false) × ((t : ℕ) (m : Machine) → (with_part t d.part m).tiles ≡ m.tiles)

pub kernel_ends : (h : Site) (k : Kernel) (a : ℕ) (e : Event) (made : Option Made) (q : Option Parcel) → InSome (EndsNone a e) (part_step h (Kernel_part k) e made q)
kernel_ends h k a (Event.Take to from) made None = (refl, λ t m. refl)
kernel_ends h k a (Event.Take to from) made (Some q) = (refl, λ t m. refl)
kernel_ends h k a (Event.Do b c) made q = tt
kernel_ends h k a (Event.Turn b) made q = tt
kernel_ends h k a (Event.Tend b) made q = (refl, λ t m. refl)
kernel_ends h k a Event.Close made q = (refl, λ t m. refl)
kernel_ends h k a (Event.Order o) made q = (refl, λ t m. refl)
kernel_ends h k a (Event.File l) made q = tt

pub memory_ends : (h : Site) (x : List ℕ) (a : ℕ) (e : Event) (made : Option Made) (q : Option Parcel) → InSome (EndsNone a e) (part_step h (Memory_part x) e made q)
memory_ends h x a (Event.Take to from) made None = (refl, λ t m. refl)
memory_ends h x a (Event.Take to from) made (Some q) = (refl, λ t m. refl)
memory_ends h x a (Event.Do b c) made q = tt
memory_ends h x a (Event.Turn b) made q = tt
memory_ends h x a (Event.Tend b) made q = tt
memory_ends h x a Event.Close made q = tt
memory_ends h x a (Event.Order o) made q = tt
memory_ends h x a (Event.File l) made q = tt
