-- A kernel in which one more activity has its seat, and then all.
use Rattle.std.proofs.Common.{◌≡◌, ℕ, zero, suc, ◌+◌, ◌<◌, ◌≤◌, Bool, true, false, cond, ◌⊎◌, inl, inr, List, [], ◌∷◌, ◌++◌, length, get_or, set, drop, map, replicate, Option, Some, None, refl, sym, ap, ◌∙◌, subst, arith, ⊎_elim}
use Rattle.std.specs.Prelude.{◌==◌, ◌&&◌, ◌||◌, is_some}
use Rattle.std.specs.List.{list_any}
use Rattle.std.proofs.lemmas.Bool.{cases_eq, cases_lt}
use Rattle.std.proofs.lemmas.Bool.Decides.{nat_tests}
use Rattle.std.proofs.lemmas.List.{get_or-set_same, get_or-set_other, get_or_past, length-set, length-map}
use Rattle.std.proofs.Math.ListN.{drop_of_length-le}
use Rattle.std.proofs.lemmas.Option.{none-some}
use Rattle.std.proofs.lemmas.List.Folds.{list_any-append}
use Rattle.m3_base.specs.Lists.Keyed as keyed
use Rattle.m3_base.specs.Lists.EachElement.{Each}
use Rattle.m3_base.specs.Ideal.Context.{Context}
use Rattle.m3_base.specs.Ideal.State.{State, same_act}
use Rattle.m3_base.specs.Ideal.Opening.{opening}
use Rattle.m3_base.specs.Setup.Rules.{SetupValue, facts_of, programmed_acts}
use Rattle.m3_base.proofs.SetupObligations.{valid_ties}
use Rattle.m3_model.specs.Config.Site.{Home, Site, has_program, home_has_program, tile_of, tile_in}
use Rattle.m3_model.specs.Invariant.Distinct.{DistinctHomes}
use Rattle.m3_model.specs.Tile.State.{Tile}
use Rattle.m3_model.specs.Kernel.State.{ActivityEntry, Kernel}
use Rattle.m3_model.specs.Kernel.Step.{entry_act, entry_of, join_ready, is_placed_entry, is_coming_entry}
use Rattle.m3_model.specs.Machine.{Machine, empty_tile, empty_tiles, new_stay, first_there, residency_at_opening, joined_ready, entry_at_opening, with_entries, opened_machine}
use Rattle.m3_kernel.specs.declared.site.tables.Home.{Home as CodeHome}
use Rattle.m3_kernel.specs.HomeTableView.{value_of}
use Rattle.m3_kernel.specs.ActivityView.{opened_as, new_seat}
use Rattle.m3_kernel.specs.LookupTables.{is_there_at}
use Rattle.m3_kernel.specs.KernelStateView.{KernelAt}
use Rattle.m3_model.specs.SetupOpening.{opened_site}
use Rattle.m3_kernel.specs.KernelOpening.{CanOpen, IsOpened, left_for, new_kernel, with_new_seat, is_taken, resting_with, left_where}
use Rattle.m3_kernel.proofs.HomeTable.{found, get_or_replicated}
use Rattle.m3_kernel.proofs.OpeningHomes.{Found, Waits, context_at_opening, each_found_home, each_waits, stands_still, valid_apart, next_home}
use Rattle.m3_base.proofs.KernelNumber.{kernel_next-with_lines}

-- ---- one seat more at the end

abbrev pub Fresh : Kernel → Home → Type 0
Fresh k x = entry_of x.act k ≡ None

pub entry_other : (a : ℕ) (xs : List ActivityEntry) (z : ActivityEntry) → (a == z.act) ≡ false → keyed.find entry_act same_act a (xs ++ z ∷ []) ≡ keyed.find entry_act same_act a xs
entry_other a [] z d = grind (arith, nat_tests, d)
entry_other a (y ∷ xs) z d = let r = entry_other a xs z in grind (arith, nat_tests, d, r)

pub entry_last : (xs : List ActivityEntry) (z : ActivityEntry) → keyed.find entry_act same_act z.act xs ≡ None → keyed.find entry_act same_act z.act (xs ++ z ∷ []) ≡ Some z
entry_last [] z e = grind (arith, nat_tests)
entry_last (y ∷ xs) z e = let r = entry_last xs z in grind (arith, nat_tests, e, r)

pub entry_kept : (a : ℕ) (xs : List ActivityEntry) (z y : ActivityEntry) → keyed.find entry_act same_act a xs ≡ Some y → keyed.find entry_act same_act a (xs ++ z ∷ []) ≡ Some y
entry_kept a [] z y e = absurd (cc)
entry_kept a (x ∷ xs) z y e = let r = entry_kept a xs z y in grind (arith, nat_tests, e, r)

pub fresh_more : (k : Kernel) (z : ActivityEntry) (xs : List Home) → found z.act xs ≡ None → Each (Fresh k) xs → Each (Fresh (record k { seats = k.seats ++ z ∷ [] })) xs
fresh_more k z [] e l = tt
fresh_more k z (x ∷ xs) e l =
    (entry_other x.act k.seats z (grind (arith, nat_tests, e)) ∙ l.0, fresh_more k z xs (let r : found z.act xs ≡ None = grind (arith, nat_tests, e) in r) l.1)

pub each_true : (P : Home → Type 0) → ((x : Home) → P x) → (xs : List Home) → Each P xs
each_true P f [] = tt
each_true P f (x ∷ xs) = (f x, each_true P f xs)

-- who isn't seated yet isn't ready
abbrev pub Unready : List (List ℕ) → Home → Type 0
Unready ready x = list_any (λ b. b == x.act) (get_or ready x.tile []) ≡ false

any_more : (a b : ℕ) (xs : List ℕ) → list_any (λ c. c == b) xs ≡ false → (a == b) ≡ false → list_any (λ c. c == b) (xs ++ a ∷ []) ≡ false
any_more a b xs e d = list_any-append (λ c. c == b) xs (a ∷ []) ∙ ap (λ p. p || ((a == b) || false)) e ∙ ap (λ p. p || false) d

unready_more : (ready : List (List ℕ)) (b : Bool) (t a : ℕ) → t < length ready → (xs : List Home) → found a xs ≡ None → Each (Unready ready) xs → Each (Unready (joined_ready b t a ready)) xs
unready_more ready false t a within xs e l = l
unready_more ready true t a within [] e l = tt
unready_more ready true t a within (x ∷ xs) e l =
    let other : (a == x.act) ≡ false = grind (arith, nat_tests, e) in
    let rest : found a xs ≡ None = grind (arith, nat_tests, e) in
    (by_tile other l.0 (cases_eq x.tile t), unready_more ready true t a within xs rest l.1)
  where
    by_tile : (a == x.act) ≡ false → Unready ready x → (x.tile ≡ t) ⊎ (x.tile ≡ t → ⊥) → Unready (set ready t (get_or ready t [] ++ a ∷ [])) x
    by_tile other none (inl same) =
        ap (λ u. list_any (λ b. b == x.act) (get_or (set ready t (get_or ready t [] ++ a ∷ [])) u [])) same
        ∙ ap (list_any (λ b. b == x.act)) (get_or-set_same ready t (get_or ready t [] ++ a ∷ []) [] within)
        ∙ any_more a x.act (get_or ready t []) (ap (λ u. list_any (λ b. b == x.act) (get_or ready u [])) (sym same) ∙ none) other
    by_tile other none (inr ne) = ap (list_any (λ b. b == x.act)) (get_or-set_other ready t x.tile (get_or ready t [] ++ a ∷ []) [] ne) ∙ none

joined_length : (ready : List (List ℕ)) (b : Bool) (t a : ℕ) → length (joined_ready b t a ready) ≡ length ready
joined_length ready true t a = length-set ready t (get_or ready t [] ++ a ∷ [])
joined_length ready false t a = refl

-- who isn't in the list joins at its back
joined_as : (b : Bool) (t a : ℕ) (k : Kernel) → list_any (λ c. c == a) (get_or k.ready t []) ≡ false → join_ready b t a k ≡ record k { ready = joined_ready b t a k.ready }
joined_as true t a k none = ap (λ p. record k { ready = set k.ready t (cond p (get_or k.ready t []) (get_or k.ready t [] ++ a ∷ [])) }) none
joined_as false t a k none = refl

different : (a t : ℕ) → (a ≡ t → ⊥) → (a == t) ≡ false
different a t n = by_test (a == t) refl
  where
    by_test : (b : Bool) → (a == t) ≡ b → b ≡ false
    by_test true e = absurd (n (grind (arith, nat_tests, e)))
    by_test false e = refl

is_true : (o : Option Context) (c : Context) → is_some (first_there o c) ≡ true
is_true None c = refl
is_true (Some x) c = refl

-- ---- how far the code has come

abbrev pub as_machine : State → Kernel → List Tile → Machine
as_machine st k ts = record { kernel = k; memory = st.memory; tiles = ts; links = replicate 256 [] }

-- the homes but these have their seats; `tiles` are those that the opening has then
pub record Progress (s : SetupValue) (first : List (Option Context)) (k : KernelAt) (table : List (Option Context)) (xs : List Home) : Type 0 where
  pub site : k.site ≡ opened_site s
  pub room : length table ≡ 64
  pub waits : Each (Waits s table) xs
  pub apart : DistinctHomes xs
  pub found : Each (Found (opened_site s).homes) xs
  pub lists : length k.kernel.ready ≡ 16
  pub unready : Each (Unready k.kernel.ready) xs
  pub fresh : Each (Fresh k.kernel) xs
  pub left : (a : ℕ) → get_or table a None ≡ left_for (entry_of a k.kernel) (get_or first a None)
  pub tiles : List Tile
  pub many : length tiles ≡ 16
  -- a tile has a current context exactly where somebody has a seat that is there
  pub there : (t : ℕ) → is_some (get_or tiles t (empty_tile t)).current ≡ is_taken k t
  pub opens : with_entries (opening s.memory s.lines) (as_machine (opening s.memory s.lines) k.kernel tiles) xs ≡ opened_machine s.memory (programmed_acts s.lines) s.lines

residency_is : (o : Option Context) (c : Context) → opened_as (resting_with (is_some o) (Some c)) ≡ residency_at_opening o c
residency_is None c = refl
residency_is (Some x) c = refl

module _ (s : SetupValue) (first : List (Option Context)) (k : KernelAt) (table : List (Option Context)) (x : Home) (xs : List Home) (so : Progress s first k table (x ∷ xs)) where
  abbrev st : State
  st = opening s.memory s.lines

  abbrev its : Context
  its = context_at_opening s x

  abbrev there : Tile
  there = get_or so.tiles x.tile (empty_tile x.tile)

  abbrev rests : Bool
  rests = is_some there.current

  pub is_fresh : entry_of x.act k.kernel ≡ None
  is_fresh = so.fresh.0

  pub its_home : tile_of k.site x.act ≡ x.tile
  its_home = ap (λ (h : Site). tile_of h x.act) so.site ∙ ap tile_in so.found.0

  pub has_context : is_some (get_or table x.act None) ≡ true
  has_context = ap is_some so.waits.0

  -- its seat
  abbrev z : ActivityEntry
  z = new_seat x.act (resting_with rests (Some its))

  abbrev joins : Bool
  joins = rests && x.has_program

  abbrev ready_now : List (List ℕ)
  ready_now = joined_ready joins x.tile x.act k.kernel.ready

  abbrev next : KernelAt
  next = record k { kernel = record k.kernel { seats = k.kernel.seats ++ z ∷ []; ready = ready_now } }

  its_program : has_program k.site x.act ≡ x.has_program
  its_program = ap (λ (h : Site). has_program h x.act) so.site ∙ ap home_has_program so.found.0

  abbrev more : Kernel
  more = record k.kernel { seats = k.kernel.seats ++ z ∷ [] }

  next_is : with_new_seat x.act (resting_with rests (Some its)) k ≡ next
  next_is =
      ap (λ b. record k { kernel = join_ready (b && has_program k.site x.act) (tile_of k.site x.act) x.act more }) (rests_by rests)
      ∙ ap (λ b. record k { kernel = join_ready (rests && b) (tile_of k.site x.act) x.act more }) its_program
      ∙ ap (λ t. record k { kernel = join_ready joins t x.act more }) its_home
      ∙ ap (λ q. record k { kernel = q }) (joined_as joins x.tile x.act more so.unready.0)
    where
      rests_by : (b : Bool) → is_some (resting_with b (Some its)) ≡ b
      rests_by true = refl
      rests_by false = refl

  abbrev tile_now : Tile
  tile_now = record there { current = first_there there.current its; stays = there.stays ++ new_stay x.act ∷ [] }

  -- it is the machine with this home seated
  seated_as : entry_at_opening x its there (as_machine st k.kernel so.tiles) ≡ as_machine st next.kernel (set so.tiles x.tile tile_now)
  seated_as =
      λ i. record {
        kernel = record k.kernel {
          seats = k.kernel.seats ++ record { act = x.act; seating = sym (residency_is there.current its) i; hold = [] } ∷ [];
          ready = ready_now;
        };
        memory = st.memory;
        tiles = set so.tiles x.tile tile_now;
        links = replicate 256 [];
      }

  -- ---- what is left of the table

  waits_now : (b : Bool) → Each (Waits s (left_where b x.act table)) xs
  waits_now true = stands_still (λ x. Some (context_at_opening s x)) table x.act xs so.apart.0 so.waits.1
  waits_now false = so.waits.1

  room_now : (b : Bool) → length (left_where b x.act table) ≡ 64
  room_now true = length-set table x.act None ∙ so.room
  room_now false = so.room

  left_other : (b : Bool) (a : ℕ) → (a ≡ x.act → ⊥) → get_or (left_where b x.act table) a None ≡ get_or table a None
  left_other true a ne = get_or-set_other table x.act a None None ne
  left_other false a ne = refl

  left_own : (b : Bool) → x.act < length table → get_or (left_where b x.act table) x.act None ≡ left_for (Some (new_seat x.act (resting_with b (Some its)))) (get_or first x.act None)
  left_own true low = get_or-set_same table x.act None None low
  left_own false low = so.left x.act ∙ ap (λ o. left_for o (get_or first x.act None)) is_fresh

  left_now : x.act < 64 → (a : ℕ) → get_or (left_where rests x.act table) a None ≡ left_for (entry_of a next.kernel) (get_or first a None)
  left_now low a =
      ⊎_elim
      (λ (same : a ≡ x.act).
      ap (λ i. get_or (left_where rests x.act table) i None) same
      ∙ left_own rests (let e = so.room in omega arith)
      ∙ ap (λ o. left_for o (get_or first x.act None)) (sym (entry_last k.kernel.seats z is_fresh))
      ∙ ap (λ i. left_for (entry_of i next.kernel) (get_or first i None)) (sym same))
      (λ (ne : a ≡ x.act → ⊥).
      left_other rests a ne
      ∙ so.left a
      ∙ ap (λ o. left_for o (get_or first a None)) (sym (entry_other a k.kernel.seats z (different a x.act ne))))
      (cases_eq a x.act)

  -- ---- who is there

  taken_more : (t : ℕ) → is_taken next t ≡ (is_taken k t || is_there_at k.site t z)
  taken_more t = list_any-append (is_there_at k.site t) k.kernel.seats (z ∷ []) ∙ ap (λ b. is_taken k t || b) (last (is_there_at k.site t z))
    where
      last : (b : Bool) → (b || false) ≡ b
      last true = refl
      last false = refl

  here : (o : Option Context) (b : Bool) → is_some o ≡ b → (b || (is_placed_entry (opened_as (resting_with (is_some o) (Some its))) || is_coming_entry (opened_as (resting_with (is_some o) (Some its))))) ≡ true
  here None b e = grind (arith, e)
  here (Some y) b e = grind (arith, e)

  taken_here : is_taken next x.tile ≡ true
  taken_here =
      let own : (tile_of k.site x.act == x.tile) ≡ true = (let e = its_home in grind (arith, nat_tests, e)) in
      taken_more x.tile
      ∙ ap (λ b. is_taken k x.tile || (b && (is_placed_entry z.seating || is_coming_entry z.seating))) own
      ∙ here there.current (is_taken k x.tile) (so.there x.tile)

  taken_elsewhere : (t : ℕ) → (t ≡ x.tile → ⊥) → is_taken next t ≡ is_taken k t
  taken_elsewhere t ne =
      let other : (tile_of k.site x.act == t) ≡ false = different (tile_of k.site x.act) t (λ w. ne (sym w ∙ its_home)) in
      taken_more t
      ∙ ap (λ b. is_taken k t || (b && (is_placed_entry z.seating || is_coming_entry z.seating))) other
      ∙ last (is_taken k t)
    where
      last : (b : Bool) → (b || false) ≡ b
      last true = refl
      last false = refl

  there_now : x.tile < 16 → (t : ℕ) → is_some (get_or (set so.tiles x.tile tile_now) t (empty_tile t)).current ≡ is_taken next t
  there_now low t =
      ⊎_elim
      (λ (same : t ≡ x.tile).
      ap (λ i. is_some (get_or (set so.tiles x.tile tile_now) i (empty_tile t)).current) same
      ∙ ap (λ (y : Tile). is_some y.current) (get_or-set_same so.tiles x.tile tile_now (empty_tile t) (let e = so.many in omega arith))
      ∙ is_true there.current its
      ∙ sym taken_here
      ∙ ap (is_taken next) (sym same))
      (λ (ne : t ≡ x.tile → ⊥).
      ap (λ (y : Tile). is_some y.current) (get_or-set_other so.tiles x.tile t tile_now (empty_tile t) ne)
      ∙ so.there t
      ∙ sym (taken_elsewhere t ne))
      (cases_eq t x.tile)

  low : x.act < 64
  low =
      ⊎_elim
      (λ (l : x.act < 64). l)
      (λ (h : 64 ≤ x.act). absurd (let n : get_or table x.act None ≡ None = get_or_past table x.act None (let e = so.room in omega arith) in none-some its (sym n ∙ so.waits.0)))
      (cases_lt x.act 64)

  progress_next : x.tile < 16 → Progress s first next (left_where rests x.act table) xs
  progress_next low_tile = record {
    site = so.site;
    room = room_now rests;
    waits = waits_now rests;
    apart = so.apart.1;
    found = so.found.1;
    lists = joined_length k.kernel.ready joins x.tile x.act ∙ so.lists;
    unready = unready_more k.kernel.ready joins x.tile x.act (let e = so.lists in omega arith) xs so.apart.0 so.unready.1;
    fresh = fresh_more k.kernel z xs so.apart.0 so.fresh.1;
    left = left_now low;
    tiles = set so.tiles x.tile tile_now;
    many = length-set so.tiles x.tile tile_now ∙ so.many;
    there = there_now low_tile;
    opens = ap (λ (m : Machine). with_entries st m xs) (sym seated_as) ∙ so.opens;
  }

  -- as the code has it
  pub progress_more : x.tile < 16 → (k' : KernelAt) → k' ≡ with_new_seat x.act (resting_with (is_taken k x.tile) (get_or table x.act None)) k
      → (table' : List (Option Context)) → table' ≡ left_where (is_taken k x.tile) x.act table → Progress s first k' table' xs
  progress_more low_tile k' seat table' left =
      let taken : is_taken k x.tile ≡ rests = sym (so.there x.tile) in
      let kernel_is : k' ≡ next = seat ∙ (λ i. with_new_seat x.act (resting_with (taken i) (so.waits.0 i)) k) ∙ next_is in
      let table_is : table' ≡ left_where rests x.act table = left ∙ ap (λ b. left_where b x.act table) taken in
      subst (λ (q : KernelAt). Progress s first q table' xs) (sym kernel_is) (
      subst (λ (ts : List (Option Context)). Progress s first next ts xs) (sym table_is) (progress_next low_tile)
      )

-- ---- the whole setup

-- the next home, as the code reads it
pub at_home : (s : SetupValue) (first : List (Option Context)) (k : KernelAt) (table : List (Option Context)) (all items : List CodeHome) (i : ℕ) (y : CodeHome) → Progress s first k table (drop i (opened_site s).homes)
    → map value_of all ≡ (opened_site s).homes → i < length all → map value_of items ≡ k.site.homes → y ≡ get_or items i y → Progress s first k table (value_of y ∷ drop (i + 1) (opened_site s).homes)
at_home s first k table all items i y so homes within lists is =
    next_home (Progress s first k table) (opened_site s).homes items i y (lists ∙ ap (λ (h : Site). h.homes) so.site) (subst (λ (n : ℕ). i < n) (sym (length-map all value_of) ∙ ap length homes) within) is so

pub progress_end : (s : SetupValue) (first : List (Option Context)) (k : KernelAt) (table : List (Option Context)) (all : List CodeHome) (i : ℕ) → Progress s first k table (drop i (opened_site s).homes)
    → map value_of all ≡ (opened_site s).homes → length all ≤ i → IsOpened s first table k
progress_end s first k table all i along homes past = record {
  site = so.site;
  kernel = ap (λ (m : Machine). m.kernel) so.opens;
  left = record { count = so.room; same = so.left };
}
  where
    so : Progress s first k table []
    so = subst (Progress s first k table) (drop_of_length-le (opened_site s).homes (subst (λ (n : ℕ). n ≤ i) (sym (length-map all value_of) ∙ ap length homes) past)) along

nobody_current : (ns : List ℕ) (t u : ℕ) → is_some (get_or (map empty_tile ns) t (empty_tile u)).current ≡ false
nobody_current [] t u = refl
nobody_current (n ∷ ns) zero u = refl
nobody_current (n ∷ ns) (suc t) u = nobody_current ns t u

pub progress_begin : (s : SetupValue) (first : List (Option Context)) → CanOpen s first → (k : KernelAt) → k.site ≡ opened_site s → k.kernel ≡ new_kernel (facts_of s).grants → Progress s first k first (opened_site s).homes
progress_begin s first o k site_is kernel_is =
    let st = opening s.memory s.lines in
    let opened : Kernel = record { seats = []; next = st.kernel_next; grants = st.grants; ready = replicate 16 []; yielded = replicate 16 false } in
    let kernel_opens : k.kernel ≡ opened =
    kernel_is ∙ (λ i. record { seats = []; next = sym (kernel_next-with_lines (record { memory = replicate s.memory 0; contexts = []; flights = []; kernel_next = 1; grants = [] }) s.lines) i; grants = (valid_ties s o.valid).grants i; ready = replicate 16 []; yielded = replicate 16 false }) in
    let apart : DistinctHomes (opened_site s).homes = valid_apart s o.valid in
    let all_found : Each (Found (opened_site s).homes) (opened_site s).homes = each_found_home (opened_site s).homes apart in
    record {
      site = site_is;
      room = o.contexts.count;
      waits = each_waits s o.valid first o.contexts.same (opened_site s).homes all_found;
      apart = apart;
      found = all_found;
      lists = ap (λ (q : Kernel). length q.ready) kernel_opens;
      unready = each_true (Unready k.kernel.ready) (λ x. ap (λ (q : Kernel). list_any (λ b. b == x.act) (get_or q.ready x.tile [])) kernel_opens ∙ ap (list_any (λ b. b == x.act)) (get_or_replicated 16 x.tile [])) (opened_site s).homes;
      fresh = each_true (Fresh k.kernel) (λ x. ap (λ (q : Kernel). entry_of x.act q) kernel_opens) (opened_site s).homes;
      left = λ a. ap (λ (q : Kernel). left_for (entry_of a q) (get_or first a None)) (sym kernel_opens);
      tiles = empty_tiles;
      many = refl;
      there = λ t. nobody_current (0 ∷ 1 ∷ 2 ∷ 3 ∷ 4 ∷ 5 ∷ 6 ∷ 7 ∷ 8 ∷ 9 ∷ 10 ∷ 11 ∷ 12 ∷ 13 ∷ 14 ∷ 15 ∷ []) t t ∙ ap (λ (q : Kernel). list_any (is_there_at k.site t) q.seats) (sym kernel_opens);
      opens = ap (λ (q : Kernel). with_entries st (as_machine st q empty_tiles) (opened_site s).homes) kernel_opens;
    }
