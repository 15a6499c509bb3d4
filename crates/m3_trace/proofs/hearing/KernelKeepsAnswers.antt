-- The kernel's local steps over what an activity is still to hear: what it has heard goes out with its Restore, and is kept
-- until then; a tend adds what it tells.
use Rattle.std.proofs.Common.{◌≡◌, ℕ, Bool, true, false, List, [], ◌∷◌, ◌++◌, map, Option, Some, None, refl, sym, subst, ◌∙◌, ap, arith, append_assoc, append-nil}
use Rattle.std.specs.Prelude.{◌==◌, ◌&&◌, if◌then◌else◌}
use Rattle.std.specs.List.{list_any}
use Rattle.std.proofs.lemmas.Bool.Decides.{nat_tests}
use Rattle.std.proofs.lemmas.Option.{same_Some}
use Rattle.m3_base.specs.declared.event.Said.{Said}
use Rattle.m3_model.specs.Abstraction.{flat_map}
use Rattle.m3_model.specs.Config.Site.{Home, Site, home_act, tile_of}
use Rattle.m3_model.specs.Invariant.Distinct.{DistinctHomes}
use Rattle.m3_model.specs.Kernel.State.{ActivityEntry, EntryResidency, Is_coming, Is_leaving, Is_placed, Is_resting, Kernel, SavedActivity}
use Rattle.m3_model.specs.Kernel.Step.{entry_act, entry_of, first_due, is_due_entry, is_leaving_at, is_placed_entry, placed_at, then_restore, with_entry, with_restore, with_restore_of}
use Rattle.m3_model.specs.LocalStep.{LocalResult}
use Rattle.m3_model.specs.Parcel.{Closed, Data, Heard, Parcel, Restore, Save, Saved, Yield}
use Rattle.m3_refine.proofs.abstraction.EntriesMatchActors.{AreSeats, are_seats, order_replaced, seat_entry}
use Rattle.m3_refine.proofs.abstraction.ReplaceEntry.{seat_then}
use Rattle.m3_refine.proofs.events.take.RouteStep.{itself}
use Rattle.m3_refine.proofs.lists.EachElement.{InSome}
use Rattle.m3_refine.proofs.lists.Insertion.{each-append}
use Rattle.m3_trace.specs.Hearing.{entry_heard, residency_heard}
use Rattle.m3_trace.proofs.hearing.OutcomesTell.{heard_said}

-- ---- whose context an entry has

abbrev pub OwnContext : ℕ → EntryResidency → Type 0
OwnContext n Is_placed = Unit {0}
OwnContext n Is_leaving = Unit {0}
OwnContext n (Is_resting y) = y.context.act ≡ n
OwnContext n (Is_coming y) = y.context.act ≡ n

-- the entries are those of the setup, and each has a context of its own activity
pub record KernelOwn (h : Site) (k : Kernel) : Type 0 where
  pub order : map entry_act k.seats ≡ map home_act h.homes
  pub own : (z : ActivityEntry) → entry_of z.act k ≡ Some z → OwnContext z.act z.seating

-- the entry, where there is one, is the kernel's entry of its activity
abbrev pub IsEntryOf : Kernel → Option ActivityEntry → Type 0
IsEntryOf k o = InSome (λ b. entry_of b.act k ≡ Some b) o

module _ (h : Site) (apart : DistinctHomes h.homes) where
  due_there : (t : ℕ) (k : Kernel) (xs : List ActivityEntry) (ys : List Home) → AreSeats h k xs ys → IsEntryOf k (first_due h t xs)
  due_there t k [] [] s = tt
  due_there t k [] (y ∷ ys) s = absurd s
  due_there t k (x ∷ xs) [] s = absurd s
  due_there t k (x ∷ xs) (y ∷ ys) s = by_test (is_due_entry h t x) (due_there t k xs ys s.1)
    where
      by_test : (b : Bool) → IsEntryOf k (first_due h t xs) → IsEntryOf k (if b then Some x else first_due h t xs)
      by_test true r = seat_entry h k x y s.0
      by_test false r = r

  abbrev pub StandsPlaced : Kernel → Option ActivityEntry → Type 0
  StandsPlaced k o = InSome (λ b. (entry_of b.act k ≡ Some b) × (is_placed_entry b.seating ≡ true)) o

  pub placed_there : (t : ℕ) (k : Kernel) (xs : List ActivityEntry) (ys : List Home) → AreSeats h k xs ys → StandsPlaced k (placed_at h t xs)
  placed_there t k [] [] s = tt
  placed_there t k [] (y ∷ ys) s = absurd s
  placed_there t k (x ∷ xs) [] s = absurd s
  placed_there t k (x ∷ xs) (y ∷ ys) s = by_test (tile_of h x.act == t) (is_placed_entry x.seating) refl (placed_there t k xs ys s.1)
    where
      by_test : (b c : Bool) → is_placed_entry x.seating ≡ c → StandsPlaced k (placed_at h t xs) → StandsPlaced k (if b && c then Some x else placed_at h t xs)
      by_test true true e r = (seat_entry h k x y s.0, e)
      by_test true false e r = r
      by_test false c e r = r

  -- ---- what is heard of an activity

  module _ (a : ℕ) where
    abbrev pub heard_when : ℕ → Parcel → List Heard
    heard_when u (Data p) = []
    heard_when u (Save b) = []
    heard_when u (Saved b c waiting ended) = []
    heard_when u (Restore b c xs) = if (u == tile_of h a) && (b == a) then xs else []
    heard_when u (Yield b) = []
    heard_when u (Closed g) = []

    -- in the parcels that go to its tile
    abbrev pub heard_sent : List (ℕ × Parcel) → List Heard
    heard_sent out = flat_map (λ (x : ℕ × Parcel). heard_when x.0 x.1) out

    pub sent_both : (xs ys : List (ℕ × Parcel)) → heard_sent (xs ++ ys) ≡ heard_sent xs ++ heard_sent ys
    sent_both xs ys = each-append (λ (x : ℕ × Parcel). heard_when x.0 x.1) xs ys

    abbrev pub heard_at : Kernel → List Heard
    heard_at k = entry_heard (entry_of a k)

    -- what goes out and what stays is as much as before
    abbrev pub KeepsHeard : Kernel → LocalResult Kernel → Type 0
    KeepsHeard k d = heard_sent d.out ++ heard_at d.part ≡ heard_at k

    -- and the outcome tells it nothing
    abbrev pub KeepsQuiet : Kernel → LocalResult Kernel → Type 0
    KeepsQuiet k d = KeepsHeard k d × (heard_said a d.outcome.said ≡ [])

    -- or it is what was there, and what the outcome tells it
    abbrev pub TellsHeard : Kernel → LocalResult Kernel → Type 0
    TellsHeard k d = heard_sent d.out ++ heard_at d.part ≡ heard_at k ++ heard_said a d.outcome.said

    pub quiet_tells : (k : Kernel) (d : LocalResult Kernel) → KeepsQuiet k d → TellsHeard k d
    quiet_tells k d q = q.0 ∙ sym (append-nil (heard_at k)) ∙ ap (λ l. heard_at k ++ l) (sym q.1)

    pub either : (P : LocalResult Kernel → Type 0) (b : Bool) (x y : LocalResult Kernel) → (b ≡ true → P x) → (b ≡ false → P y) → P (if b then x else y)
    either P true x y f g = f refl
    either P false x y f g = g refl

    -- ---- an entry in place of another

    module _ (k : Kernel) (o : KernelOwn h k) (x y : ActivityEntry) (there : entry_of x.act k ≡ Some x) (same : y.act ≡ x.act) where
      pub own_then : OwnContext x.act y.seating → KernelOwn h (with_entry y k)
      own_then its = record {
        order = order_replaced y k.seats ∙ o.order;
        own = λ z f. seat_then k.seats x y there same (λ n r. r ≡ Some z → OwnContext z.act z.seating) z.act (λ d. o.own z)
            (λ e s. subst (λ (w : ActivityEntry). OwnContext w.act w.seating) (same_Some y z s) (subst (λ n. OwnContext n y.seating) (sym same) its)) f;
      }

      pub heard_then : (hs : List Heard) → (a ≡ x.act → residency_heard y.seating ≡ residency_heard x.seating ++ hs) → ((a == x.act) ≡ false → hs ≡ []) → heard_at (with_entry y k) ≡ heard_at k ++ hs
      heard_then hs now none =
          seat_then k.seats x y there same (λ n r. entry_heard r ≡ entry_heard (entry_of n k) ++ hs) a
          (λ d. sym (append-nil (heard_at k)) ∙ ap (λ l. heard_at k ++ l) (sym (none d)))
          (λ e. now e ∙ ap (λ r. entry_heard r ++ hs) (sym (ap (λ n. entry_of n k) e ∙ there)))

      pub heard_still : residency_heard y.seating ≡ residency_heard x.seating → heard_at (with_entry y k) ≡ heard_at k
      heard_still e = heard_then [] (λ i. e ∙ sym (append-nil (residency_heard x.seating))) (λ d. refl) ∙ append-nil (heard_at k)

    -- ---- who comes

    module _ (said : Said) (t : ℕ) (k : Kernel) (own : KernelOwn h k) (out : List (ℕ × Parcel)) where
      -- what goes out and what stays is what went out before and is there
      abbrev Comes : LocalResult Kernel → Type 0
      Comes d = (heard_sent d.out ++ heard_at d.part ≡ heard_sent out ++ heard_at k) × (d.outcome.said ≡ said)

      if_none : (b c : Bool) (xs : List Heard) → c ≡ false → (if b && c then xs else []) ≡ []
      if_none true c xs e = ap (λ d. if d then xs else []) e
      if_none false c xs e = refl

      module _ (x : ActivityEntry) (y : SavedActivity) (there : entry_of x.act k ≡ Some x) (comes : x.seating ≡ Is_coming y) where
        abbrev placed : ActivityEntry
        placed = record x { seating = Is_placed }

        act_is : y.context.act ≡ x.act
        act_is = subst (OwnContext x.act) comes (own.own x there)

        goes : heard_when (tile_of h x.act) (Restore y.context.act y.context y.heard) ++ heard_at (with_entry placed k) ≡ heard_at k
        goes =
            seat_then k.seats x placed there refl (λ n r. n ≡ a → heard_when (tile_of h x.act) (Restore y.context.act y.context y.heard) ++ entry_heard r ≡ heard_at k) a
            (λ d i. let e : (y.context.act == a) ≡ false = grind (arith, nat_tests, d, act_is) in ap (λ l. l ++ heard_at k) (if_none (tile_of h x.act == tile_of h a) (y.context.act == a) y.heard e))
            (λ e i.
            let one : (tile_of h x.act == tile_of h a) ≡ true = ap (λ n. tile_of h n == tile_of h a) (sym e) ∙ itself (tile_of h a) in
            let two : (y.context.act == a) ≡ true = grind (arith, nat_tests, e, act_is) in
            append-nil (heard_when (tile_of h x.act) (Restore y.context.act y.context y.heard))
            ∙ ap (λ b. if b && (y.context.act == a) then y.heard else []) one
            ∙ ap (λ b. if b then y.heard else []) two
            ∙ ap residency_heard (sym comes)
            ∙ ap entry_heard (sym (ap (λ n. entry_of n k) e ∙ there)))
            refl

        goes_out : Comes (with_restore_of h said t k out x (Is_coming y))
        goes_out =
            let r = heard_when (tile_of h x.act) (Restore y.context.act y.context y.heard) in
            let left = heard_at (with_entry placed k) in (
              ap (λ l. l ++ left) (sent_both out ((tile_of h x.act, Restore y.context.act y.context y.heard) ∷ []))
                  ∙ ap (λ l. (heard_sent out ++ l) ++ left) (append-nil r)
                  ∙ append_assoc (heard_sent out) r left
                  ∙ ap (λ l. heard_sent out ++ l) goes,
              refl,
            )

      coming : (x : ActivityEntry) (w : EntryResidency) → entry_of x.act k ≡ Some x → x.seating ≡ w → Comes (with_restore_of h said t k out x w)
      coming x (Is_coming y) there e = goes_out x y there e
      coming x Is_placed there e = (refl, refl)
      coming x Is_leaving there e = (refl, refl)
      coming x (Is_resting y) there e = (refl, refl)

      maybe : (o : Option ActivityEntry) → IsEntryOf k o → Comes (with_restore h said t k out o)
      maybe None s = (refl, refl)
      maybe (Some x) s = coming x x.seating s refl

      pub comes_then : Comes (then_restore h said t k out)
      comes_then = maybe (if list_any (is_leaving_at h t) k.seats then None else first_due h t k.seats) (by_test (list_any (is_leaving_at h t) k.seats))
        where
          by_test : (b : Bool) → IsEntryOf k (if b then None else first_due h t k.seats)
          by_test true = tt
          by_test false = due_there t k k.seats h.homes (are_seats h k own.order apart)
