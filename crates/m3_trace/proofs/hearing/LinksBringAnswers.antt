-- What links have for an activity to hear: what parts take and send, and what a step makes of what its program is to see.
use Rattle.std.proofs.Common.{◌≡◌, ℕ, ◌+◌, ◌*◌, ◌<◌, ◌≤◌, Bool, true, false, cond, List, [], ◌∷◌, ◌++◌, length, get_or, set, Option, Some, None, refl, sym, subst, ◌∙◌, ap, arith, append_assoc, append-nil}
use Rattle.std.specs.Prelude.{◌==◌, ◌&&◌, if◌then◌else◌}
use Rattle.std.proofs.lemmas.Bool.Decides.{nat_tests}
use Rattle.std.proofs.lemmas.List.{get_or-set_other, get_or-set_same, length-set}
use Rattle.m3_base.specs.Ideal.Context.{Context}
use Rattle.m3_base.specs.Lists.EachElement.{Each}
use Rattle.m3_model.specs.Abstraction.{contexts_in, flat_map, residency_contexts}
use Rattle.m3_model.specs.Config.KnownActivities.{is_home}
use Rattle.m3_model.specs.Config.Site.{Site, tile_of}
use Rattle.m3_model.specs.Invariant.Housing.{resident_at}
use Rattle.m3_model.specs.Invariant.Parcels.{ParcelOk}
use Rattle.m3_model.specs.Invariant.Scheduling.{EntryOk}
use Rattle.m3_model.specs.Invariant.Structure.{MachineStructure}
use Rattle.m3_model.specs.Kernel.State.{ActivityEntry, EntryResidency, Is_coming, Is_leaving, Is_placed, Is_resting, Kernel}
use Rattle.m3_model.specs.Kernel.Step.{entry_of}
use Rattle.m3_model.specs.LocalStep.{LocalResult}
use Rattle.m3_model.specs.Machine.{Kernel_part, Machine, Memory_part, Tile_part, empty_tile, link_at, rest, tile_at, with_link, with_parcel, with_parcels, with_part}
use Rattle.m3_model.specs.Parcel.{Closed, Data, Heard, Parcel, Restore, Save, Saved, Yield}
use Rattle.m3_model.specs.Tile.State.{Tile}
use Rattle.m3_model.specs.Tile.Step.{resident_of}
use Rattle.m3_refine.proofs.abstraction.OtherContexts.{IsOther, by_contexts, none_at_entry, none_on_link}
use Rattle.m3_refine.proofs.abstraction.ReplaceEntry.{seat_key}
use Rattle.m3_refine.proofs.events.HomeTile.{home_range}
use Rattle.m3_refine.proofs.lists.Insertion.{each-append}
use Rattle.m3_refine.proofs.lists.Update.{get_or-set, links_set}
use Rattle.m3_refine.proofs.bounds.SameParts.{parts_with_parcels}
use Rattle.m3_trace.specs.Hearing.{entry_heard, heard_away, heard_in, program_input, residency_heard, resident_input, heard_on_link}
use Rattle.m3_trace.proofs.hearing.KernelKeepsAnswers.{KernelOwn, OwnContext, heard_at, heard_sent, heard_when}

-- each entry's context is of its own activity
own_context : (h : Site) (ts : List Tile) (x : ActivityEntry) (w : EntryResidency) → EntryOk h ts x w → OwnContext x.act w
own_context h ts x Is_placed k = tt
own_context h ts x Is_leaving k = tt
own_context h ts x (Is_resting y) k = k.0
own_context h ts x (Is_coming y) k = k.0

pub kernel_own : (h : Site) (m : Machine) → MachineStructure h m → KernelOwn h m.kernel
kernel_own h m sound = record { order = sound.housed.seats; own = λ z f. own_context h m.tiles z z.seating (sound.seated.seats z.act z f).0 }

module _ (h : Site) (m : Machine) (sound : MachineStructure h m) (a : ℕ) (known : is_home h a ≡ true) where
  abbrev u : ℕ
  u = tile_of h a

  two : 2 ≤ tile_of h a
  two = (home_range h m a sound known).0

  high : tile_of h a < 16
  high = (home_range h m a sound known).1

  abbrev Sent : List (ℕ × Parcel) → List Heard
  Sent out = heard_sent h sound.setup.homes a out

  -- ---- what is sent

  -- a tile or the memory sends on no link of the kernel's
  sent_elsewhere : (t : ℕ) → 1 ≤ t → (out : List (ℕ × Parcel)) (n : Machine) → link_at 0 (tile_of h a) (with_parcels t out n) ≡ link_at 0 (tile_of h a) n
  sent_elsewhere t low [] n = refl
  sent_elsewhere t low (x ∷ xs) n =
      sent_elsewhere t low xs (with_parcel t x n)
      ∙ get_or-set_other n.links (16 * t + x.0) (16 * 0 + tile_of h a) (link_at t x.0 n ++ x.1 ∷ []) [] (let k = high in omega (arith, low, k))

  when_here : (q : Parcel) (v : ℕ) → (v == tile_of h a) ≡ true → heard_when h sound.setup.homes a v q ≡ heard_in a q
  when_here (Data p) v e = refl
  when_here (Save b) v e = refl
  when_here (Saved b c w d) v e = refl
  when_here (Restore b c xs) v e = ap (λ z. if z && (b == a) then xs else []) e
  when_here (Yield b) v e = refl
  when_here (Closed g) v e = refl

  when_away : (q : Parcel) (v : ℕ) → (v == tile_of h a) ≡ false → heard_when h sound.setup.homes a v q ≡ []
  when_away (Data p) v e = refl
  when_away (Save b) v e = refl
  when_away (Saved b c w d) v e = refl
  when_away (Restore b c xs) v e = ap (λ z. if z && (b == a) then xs else []) e
  when_away (Yield b) v e = refl
  when_away (Closed g) v e = refl

  one_sent : (x : ℕ × Parcel) (n : Machine) → length n.links ≡ 256 → heard_on_link h (with_parcel 0 x n) a ≡ heard_on_link h n a ++ heard_when h sound.setup.homes a x.0 x.1
  one_sent x n len = by_test (x.0 == tile_of h a) refl
    where
      by_test : (b : Bool) → (x.0 == tile_of h a) ≡ b → heard_on_link h (with_parcel 0 x n) a ≡ heard_on_link h n a ++ heard_when h sound.setup.homes a x.0 x.1
      by_test true e =
          let k : x.0 ≡ tile_of h a = grind (arith, nat_tests, e) in
          ap (λ v. flat_map (heard_in a) (get_or (set n.links (16 * 0 + v) (link_at 0 v n ++ x.1 ∷ [])) (16 * 0 + tile_of h a) [])) k
          ∙ ap (flat_map (heard_in a)) (get_or-set_same n.links (16 * 0 + tile_of h a) (link_at 0 (tile_of h a) n ++ x.1 ∷ []) [] (let z = high in omega (arith, len, z)))
          ∙ each-append (heard_in a) (link_at 0 (tile_of h a) n) (x.1 ∷ [])
          ∙ ap (λ l. heard_on_link h n a ++ l) (append-nil (heard_in a x.1) ∙ sym (when_here x.1 x.0 e))
      by_test false e =
          ap (flat_map (heard_in a)) (get_or-set_other n.links (16 * 0 + x.0) (16 * 0 + tile_of h a) (link_at 0 x.0 n ++ x.1 ∷ []) [] (let z : (x.0 ≡ tile_of h a) → ⊥ = (λ i. absurd (let q : (x.0 == tile_of h a) ≡ true = grind (arith, nat_tests, i) in cc)) in (λ i. z (omega (arith, i)))))
          ∙ sym (append-nil (heard_on_link h n a)) ∙ ap (λ l. heard_on_link h n a ++ l) (sym (when_away x.1 x.0 e))

  sent_by_kernel : (out : List (ℕ × Parcel)) (n : Machine) → length n.links ≡ 256 → heard_on_link h (with_parcels 0 out n) a ≡ heard_on_link h n a ++ Sent out
  sent_by_kernel [] n len = sym (append-nil (heard_on_link h n a))
  sent_by_kernel (x ∷ xs) n len =
      sent_by_kernel xs (with_parcel 0 x n) (length-set n.links (16 * 0 + x.0) (link_at 0 x.0 n ++ x.1 ∷ []) ∙ len)
      ∙ ap (λ l. l ++ Sent xs) (one_sent x n len) ∙ append_assoc (heard_on_link h n a) (heard_when h sound.setup.homes a x.0 x.1) (Sent xs)

  -- ---- what is taken

  -- a take from a link whose front has nothing for it to hear
  pub taken_none : (from to : ℕ) → from < 16 → to < 16 → (l : List Parcel) → link_at from to m ≡ l → (from ≡ 0 → to ≡ tile_of h a → flat_map (heard_in a) (rest l) ≡ flat_map (heard_in a) l)
      → heard_on_link h (with_link from to (rest l) m) a ≡ heard_on_link h m a
  taken_none from to hf ht l g none =
      links_set m.links from to (rest l) hf ht sound.links (λ i j ps. flat_map (heard_in a) ps ≡ heard_on_link h m a) 0 (tile_of h a) high refl
      (λ e d. none e d ∙ ap (flat_map (heard_in a)) (sym g) ∙ ap (λ v. flat_map (heard_in a) (link_at v to m)) e ∙ ap (λ v. flat_map (heard_in a) (link_at 0 v m)) d)

  -- ---- what is to be seen after a step of a part

  module _ (m0 : Machine) (tiles : m0.tiles ≡ m.tiles) where
    pub after_kernel : (d : LocalResult Kernel) → heard_on_link h m0 a ≡ heard_on_link h m a → length m0.links ≡ 256
        → program_input h (with_parcels 0 d.out (with_part 0 (Kernel_part d.part) m0)) a ≡ resident_input (resident_at h m.tiles a) (heard_on_link h m a ++ (Sent d.out ++ heard_at h sound.setup.homes a d.part))
    after_kernel d same len =
        let n : Machine = with_part 0 (Kernel_part d.part) m0 in
        let r = parts_with_parcels 0 d.out n in
        ap (λ ts. resident_input (resident_at h ts a) (heard_away h (with_parcels 0 d.out n) a)) (r.tiles ∙ tiles)
        ∙ ap (λ k. resident_input (resident_at h m.tiles a) (heard_on_link h (with_parcels 0 d.out n) a ++ entry_heard (entry_of a k))) r.kernel
        ∙ ap (λ l. resident_input (resident_at h m.tiles a) (l ++ entry_heard (entry_of a d.part))) (sent_by_kernel d.out n len ∙ ap (λ l. l ++ Sent d.out) same)
        ∙ ap (resident_input (resident_at h m.tiles a)) (append_assoc (heard_on_link h m a) (Sent d.out) (entry_heard (entry_of a d.part)))

    module _ (kernel : m0.kernel ≡ m.kernel) where
      away_then : (t : ℕ) → 1 ≤ t → (out : List (ℕ × Parcel)) (n : Machine) → n.kernel ≡ m0.kernel → n.links ≡ m0.links → heard_away h (with_parcels t out n) a ≡ heard_on_link h m0 a ++ entry_heard (entry_of a m.kernel)
      away_then t low out n k l =
          ap (λ qs. flat_map (heard_in a) qs ++ entry_heard (entry_of a (with_parcels t out n).kernel)) (sent_elsewhere t low out n)
          ∙ ap (λ z. heard_on_link h n a ++ entry_heard (entry_of a z)) ((parts_with_parcels t out n).kernel ∙ k ∙ kernel)
          ∙ ap (λ z. flat_map (heard_in a) (get_or z (16 * 0 + tile_of h a) []) ++ entry_heard (entry_of a m.kernel)) l

      pub after_memory : (d : LocalResult (List ℕ)) → program_input h (with_parcels 1 d.out (with_part 1 (Memory_part d.part) m0)) a ≡ resident_input (resident_at h m.tiles a) (heard_on_link h m0 a ++ entry_heard (entry_of a m.kernel))
      after_memory d =
          let n : Machine = with_part 1 (Memory_part d.part) m0 in
          ap (λ ts. resident_input (resident_at h ts a) (heard_away h (with_parcels 1 d.out n) a)) ((parts_with_parcels 1 d.out n).tiles ∙ tiles)
          ∙ ap (resident_input (resident_at h m.tiles a)) (away_then 1 (omega arith) d.out n refl refl)

      -- where it is at home at that tile, and where it isn't
      pub after_tile : (t : ℕ) → 1 ≤ t → t < 16 → (d : LocalResult Tile)
          → program_input h (with_parcels t d.out (with_part t (Tile_part d.part) m0)) a ≡ resident_input (cond (t == tile_of h a) (resident_of a d.part) (resident_at h m.tiles a)) (heard_on_link h m0 a ++ entry_heard (entry_of a m.kernel))
      after_tile t low ht d =
          let n : Machine = with_part t (Tile_part d.part) m0 in
          ap (λ ts. resident_input (resident_at h ts a) (heard_away h (with_parcels t d.out n) a)) ((parts_with_parcels t d.out n).tiles ∙ ap (λ ts. set ts t d.part) tiles)
          ∙ ap (λ x. resident_input (resident_of a x) (heard_away h (with_parcels t d.out n) a)) (get_or-set m.tiles t (tile_of h a) d.part (empty_tile (tile_of h a)) (subst (λ k. t < k) (sym sound.tiles) ht))
          ∙ ap (λ o. resident_input o (heard_away h (with_parcels t d.out n) a)) (by_test (t == tile_of h a))
          ∙ ap (resident_input (cond (t == tile_of h a) (resident_of a d.part) (resident_at h m.tiles a))) (away_then t low d.out n refl refl)
        where
          by_test : (b : Bool) → resident_of a (cond b d.part (tile_at (tile_of h a) m)) ≡ cond b (resident_of a d.part) (resident_at h m.tiles a)
          by_test true = refl
          by_test false = refl

  -- ---- who is current has nothing to hear from elsewhere

  none_of_each : (qs : List Parcel) → Each (λ q. heard_in a q ≡ []) qs → flat_map (heard_in a) qs ≡ []
  none_of_each [] e = refl
  none_of_each (q ∷ qs) e = ap (λ l. l ++ flat_map (heard_in a) qs) e.0 ∙ none_of_each qs e.1

  module _ (t : ℕ) (ht : t < 16) (c : Context) (here : (tile_at t m).current ≡ Some c) (is : a ≡ c.act) where
    in_tiles : t < length m.tiles
    in_tiles = subst (λ n. t < n) (sym sound.tiles) ht

    no_restore : (q : Parcel) → Each (IsOther c.act) (contexts_in q) → ParcelOk h m.kernel m.tiles 0 (tile_of h a) q → heard_in a q ≡ []
    no_restore (Data p) e k = refl
    no_restore (Save b) e k = refl
    no_restore (Saved b d w f) e k = refl
    no_restore (Restore b d xs) e k =
        let o = e.0 in
        let s = k.3 in
        ap (λ z. if z then xs else []) (let z : (b == a) ≡ false = grind (arith, nat_tests, o, s, is) in z)
    no_restore (Yield b) e k = refl
    no_restore (Closed g) e k = refl

    none_on_way : heard_on_link h m a ≡ []
    none_on_way =
        none_of_each (link_at 0 (tile_of h a) m)
        (by_contexts (IsOther c.act) (ParcelOk h m.kernel m.tiles 0 (tile_of h a)) (λ q. heard_in a q ≡ []) no_restore (link_at 0 (tile_of h a) m)
        (none_on_link m t in_tiles c here sound.acts 0 (tile_of h a)) (sound.parcels 0 (tile_of h a) (omega arith) high))

    none_saved : (x : ActivityEntry) (w : EntryResidency) → x.act ≡ a → OwnContext x.act w → Each (IsOther c.act) (residency_contexts w) → residency_heard w ≡ []
    none_saved x Is_placed k o e = refl
    none_saved x Is_leaving k o e = refl
    none_saved x (Is_resting y) k o e = absurd (let d = e.0 in grind (arith, nat_tests, d, o, k, is))
    none_saved x (Is_coming y) k o e = absurd (let d = e.0 in grind (arith, nat_tests, d, o, k, is))

    none_at : (o : Option ActivityEntry) → entry_of a m.kernel ≡ o → entry_heard o ≡ []
    none_at None e = refl
    none_at (Some x) e =
        let key : x.act ≡ a = seat_key a m.kernel.seats x e in
        let there : entry_of x.act m.kernel ≡ Some x = ap (λ n. entry_of n m.kernel) key ∙ e in
        none_saved x x.seating key ((kernel_own h m sound).own x there) (none_at_entry m t in_tiles c here sound.acts x there)

    pub none_away : heard_away h m a ≡ []
    none_away = ap (λ l. l ++ entry_heard (entry_of a m.kernel)) none_on_way ∙ none_at (entry_of a m.kernel) refl
