-- A machine's step from that of one of its parts, and what goes onto its links.
use Rattle.std.proofs.Common.{◌≡◌, ℕ, zero, suc, ◌+◌, ◌*◌, ◌<◌, ◌≤◌, Bool, true, false, List, [], ◌∷◌, ◌++◌, length, map, drop, get_or, set, Option, Some, None, Result, Ok, Err, IfOk, OnErr, refl, sym, ap, ◌∙◌, subst, arith, ⊎_elim}
use Rattle.std.specs.Prelude.{if◌then◌else◌, ◌==◌, is_some}
use Rattle.std.proofs.lemmas.List.{get_or-set_same, set-set, get_or_past, get_or_default, map-set, map-append, set-get_or}
use Rattle.std.proofs.lemmas.Bool.{cases_lt}
use Rattle.std.proofs.lemmas.Bool.Decides.{nat_tests}
use Rattle.m3_base.specs.declared.command.Command.{Command}
use Rattle.m3_base.specs.declared.order.Order.{Order}
use Rattle.m3_base.specs.Ideal.State.{holder, same_act}
use Rattle.m3_base.specs.Lists.Keyed as keyed
use Rattle.m3_base.specs.declared.event.Event.{Event}
use Rattle.m3_base.specs.declared.event.IdleWhy.{IdleWhy}
use Rattle.m3_base.specs.declared.event.Made.{Made}
use Rattle.m3_base.specs.declared.event.Said.{Said}
use Rattle.m3_base.specs.declared.event.Outcome.{Outcome}
use Rattle.m3_base.specs.Ideal.Context.{Context, Endpoint, Free, Sends, Receives, Reaches, endpoint}
use Rattle.m3_core.specs.declared.parcel.Emit.{Emit}
use Rattle.m3_core.specs.declared.parcel.Parcel.{Parcel as CodeParcel}
use Rattle.m3_link.specs.LinkOps.{place, list_at, with_pushed, with_popped, first, put_back}
use Rattle.m3_model.specs.Config.Site.{Site, Home, home_act}
use Rattle.m3_model.specs.Events.{IsOfSetup}
use Rattle.m3_model.specs.Kernel.State.{ActivityEntry, Kernel}
use Rattle.m3_model.specs.Kernel.Step.{entry_act, kernel_order}
use Rattle.m3_model.specs.Parcel.{Parcel}
use Rattle.m3_model.specs.Tile.State.{Resident, Tile}
use Rattle.m3_model.specs.StayMoves.{HasFewMoves, StaysAreShort}
use Rattle.m3_model.specs.LocalStep.{LocalResult, idle_result}
use Rattle.m3_model.specs.Config.KnownActivities.{next_token_at}
use Rattle.m3_core.specs.Preconditions.{HasTokenFor}
use Rattle.m3_core.specs.EndpointStep.{HasToken}
use Rattle.m3_model.specs.NumberBounds.{HasBoundedCounters, CountersBounded, CountersBoundedIn, TileBounded}
use Rattle.m3_model.specs.Tile.Step.{resident_act, resident_of}
use Rattle.m3_model.specs.Machine as machine
use Rattle.m3_kernel.specs.ParcelView.{parcel_of, parcels_of, out_of}
use Rattle.m3_kernel.specs.declared.done.Done.{Done}
use Rattle.m3_kernel.specs.StepContracts as kernel_does
use Rattle.m3_kernel.specs.KernelStateView.{KernelAt}
use Rattle.m3_kernel.specs.OrderAnswers.{HolderIsSeated, Orders}
use Rattle.m3_kernel.specs.declared.order.Ordered.{Ordered}
use Rattle.m3_kernel.specs.declared.order.OrderRefusal.{OrderRefusal}
use Rattle.m3_engine.specs.declared.tile.TileDid.{TileDid}
use Rattle.m3_engine.specs.TileStepView.{Does}
use Rattle.m3_base.specs.ExtentFiles.ScriptEntries.{plain_outcome as plain}
use Rattle.m3_engine.specs.TileView.{TileAt, CanIssue, tiles_of}
use Rattle.m3_engine.specs.TurnView.{CanTurn, IsShort, TurnDoes}
use Rattle.m3_engine.specs.PartsView.{Parts, linked, part_of, IsNoTake, DoesAt}
use Rattle.m3_engine.specs.EngineView.{Makes, out_links}
use Rattle.m3_refine.proofs.lists.EachElement.{InSome, each_found, each_read}
use Rattle.m3_kernel.proofs.AnswerOut.{nothing_more}

-- ---- links

pub parcels_at : (links : List (List CodeParcel)) (k : ℕ) → get_or (parcels_of links) k [] ≡ map parcel_of (get_or links k [])
parcels_at [] k = refl
parcels_at (l ∷ ls) zero = refl
parcels_at (l ∷ ls) (suc k) = parcels_at ls k

parcels_pushed : (links : List (List CodeParcel)) (k : ℕ) (p : CodeParcel) → parcels_of (with_pushed links k p) ≡ set (parcels_of links) k (get_or (parcels_of links) k [] ++ parcel_of p ∷ [])
parcels_pushed links k p =
    map-set (map parcel_of) links k (get_or links k [] ++ p ∷ [])
    ∙ ap (set (parcels_of links) k) (map-append parcel_of (get_or links k []) (p ∷ []) ∙ ap (λ ps. ps ++ parcel_of p ∷ []) (sym (parcels_at links k)))

-- a parcel joins its link
pub puts_out : (links new : List (List CodeParcel)) (from : ℕ) (emit : Option Emit) (e : Emit) → emit ≡ Some e → new ≡ with_pushed links (place from e.to) e.parcel → parcels_of new ≡ out_links from (out_of emit) (parcels_of links)
puts_out links new from emit e is to =
    ap parcels_of to ∙ parcels_pushed links (place from e.to) e.parcel ∙ ap (λ o. out_links from (out_of o) (parcels_of links)) (sym is)

pub out_both : (from : ℕ) (xs ys : List (ℕ × Parcel)) (links : List (List Parcel)) → out_links from ys (out_links from xs links) ≡ out_links from (xs ++ ys) links
out_both from [] ys links = refl
out_both from (x ∷ xs) ys links = out_both from xs ys (set links (16 * from + x.0) (get_or links (16 * from + x.0) [] ++ x.1 ∷ []))

-- a machine after what goes out is the machine with the links after it
pushed_links : (m : machine.Machine) (from : ℕ) (out : List (ℕ × Parcel)) → machine.with_parcels from out m ≡ record m { links = out_links from out m.links }
pushed_links m from [] = refl
pushed_links m from (x ∷ xs) = pushed_links (machine.with_parcel from x m) from xs

-- ---- the front of a link

first_is : (qs : List CodeParcel) (q : CodeParcel) → first qs ≡ Some q → qs ≡ q ∷ drop 1 qs
first_is [] q e = absurd (cc)
first_is (x ∷ qs) q e = ap (λ y. y ∷ qs) (same x q e)
  where
    same : (a b : CodeParcel) → Some a ≡ Some b → a ≡ b
    same a b w = cc

none_first : (qs : List CodeParcel) → first qs ≡ None → qs ≡ []
none_first [] e = refl
none_first (x ∷ qs) e = absurd (cc)

within_some : (links : List (List CodeParcel)) (k : ℕ) (q : CodeParcel) → first (list_at links k) ≡ Some q → k < length links
within_some links k q e =
    ⊎_elim
    (λ (lt : k < length links). lt)
    (λ (past : length links ≤ k). absurd (nothing (sym (ap first (get_or_past links k [] past)) ∙ e)))
    (cases_lt k (length links))
  where
    nothing : None ≡ Some q → ⊥
    nothing w = cc

-- a parcel that is put back is the front again
pub as_before : (links : List (List CodeParcel)) (k : ℕ) (q : CodeParcel) → first (list_at links k) ≡ Some q → put_back (with_popped links k) k q ≡ links
as_before links k q e =
    let within = within_some links k q e in
    set-set links k (drop 1 (list_at links k)) (q ∷ list_at (with_popped links k) k)
    ∙ ap (λ l. set links k (q ∷ l)) (get_or-set_same links k (drop 1 (list_at links k)) [] within)
    ∙ ap (set links k) (sym (first_is (list_at links k) q e))
    ∙ set-get_or links k []

-- an empty link stays as it is
pub popped_none : (links : List (List CodeParcel)) (k : ℕ) → first (list_at links k) ≡ None → with_popped links k ≡ links
popped_none links k e =
    let none = none_first (list_at links k) e in
    ap (λ l. set links k (drop 1 l)) none ∙ ap (set links k) (sym none) ∙ set-get_or links k []

-- ---- what a part did

pub kernel_at : (old : Parts) (now : KernelAt) (t : ℕ) (done : Done) (deed : LocalResult Kernel) (step : Option (LocalResult machine.Part)) → step ≡ Some (machine.of_kernel deed) → now.site ≡ old.site → kernel_does.Does done now.kernel deed
    → DoesAt t old (record { site = now.site; kernel = now.kernel; memory = old.memory; tiles = old.tiles }) done step
kernel_at old now t done deed step is site does = record {
  deed = machine.of_kernel deed;
  is = is;
  outcome = does.outcome;
  out = does.out;
  parts = λ links. ap (λ k. linked links (record old { kernel = k })) (sym does.part);
  site = site;
}

-- what the memory or a tile did, as the kernel tells it
abbrev pub single : TileDid → Done
single did = record { outcome = did.outcome; first = did.emit; second = None }

pub memory_at : (old : Parts) (now : List ℕ) (t : ℕ) (did : TileDid) (deed : LocalResult (List ℕ)) (step : Option (LocalResult machine.Part)) → step ≡ Some (machine.of_memory deed) → Does did now deed
    → DoesAt t old (record { site = old.site; kernel = old.kernel; memory = now; tiles = old.tiles }) (single did) step
memory_at old now t did deed step is does = record {
  deed = machine.of_memory deed;
  is = is;
  outcome = does.outcome;
  out = nothing_more (out_of did.emit) ∙ does.out;
  parts = λ links. ap (λ m. linked links (record old { memory = m })) (sym does.part);
  site = refl;
}

-- a machine's parts with these tiles
abbrev pub with_tiles : Parts → List TileAt → Parts
with_tiles p ts = record { site = p.site; kernel = p.kernel; memory = p.memory; tiles = tiles_of ts }

pub tile_at : (p : Parts) (ts : List TileAt) (at : ℕ) (now : TileAt) (t : ℕ) (did : TileDid) (deed : LocalResult Tile) (step : Option (LocalResult machine.Part)) → at ≡ t → step ≡ Some (machine.of_tile deed) → Does did now.tile deed
    → DoesAt t (with_tiles p ts) (with_tiles p (set ts at now)) (single did) step
tile_at p ts at now t did deed step here is does = record {
  deed = machine.of_tile deed;
  is = is;
  outcome = does.outcome;
  out = nothing_more (out_of did.emit) ∙ does.out;
  parts = λ links. ap (λ us. linked links (record p { tiles = us }))
      ((λ i. set (tiles_of ts) (sym here i) (sym does.part i)) ∙ sym (map-set (λ (x : TileAt). x.tile) ts at now));
  site = refl;
}

-- ---- which part a tile has

pub tile_there : (p : Parts) (t : ℕ) → 2 ≤ t → part_of t p ≡ machine.Tile_part (machine.tile_at t (linked [] p))
tile_there p t high = grind (arith, nat_tests, high)

pub read_tile : (p : Parts) (at t : ℕ) (read : Tile) → at ≡ t → at < length p.tiles → read ≡ get_or p.tiles at read → read ≡ machine.tile_at t (linked [] p)
read_tile p at t read here within is = is ∙ get_or_default p.tiles at read (machine.empty_tile t) within ∙ ap (λ k. get_or p.tiles k (machine.empty_tile t)) here

-- low numbers leave room for a command
pub can_issue : (n : ℕ) (m : machine.Machine) (t : ℕ) (c : Command) → n ≤ 2097152 → CountersBounded n m → CanIssue (machine.tile_at t m).current c
can_issue n m t c few low = by_current (machine.tile_at t m).current (each_read (TileBounded n) m.tiles t (machine.empty_tile t) low.tiles tt)
  where
    has_token : (x : Context) (c : Command) → HasBoundedCounters n x → HasTokenFor x c
    has_token x (Command.Fetch ep) l = by_endpoint (endpoint x ep) (l.tokens ep)
      where
        by_endpoint : (e : Endpoint) → next_token_at e ≤ n → HasToken e
        by_endpoint (Receives r) k = omega (arith, k, few)
        by_endpoint (Sends r) k = tt
        by_endpoint (Reaches r) k = tt
        by_endpoint Free k = tt
    has_token x (Command.Send ep payload reply) l = tt
    has_token x (Command.Reply ep number payload) l = tt
    has_token x (Command.Acknowledge ep number) l = tt
    has_token x (Command.Read ep off len) l = tt
    has_token x (Command.Write ep off payload) l = tt

    by_current : (o : Option Context) → CountersBoundedIn n o → CanIssue o c
    by_current None l = tt
    by_current (Some x) l = (let z = l.number in omega (arith, z, few), has_token x c l)

-- ---- the machine's step

-- the machine after what its part did, with what goes out on its links
module _ (t : ℕ) (old new : Parts) (done : Done) (step : Option (LocalResult machine.Part)) (does : DoesAt t old new done step) where
  pub after_deed : (base links : List (List Parcel)) → links ≡ out_links t (out_of done.first ++ out_of done.second) base
      → machine.done_by t (linked base old) step ≡ Some (record { outcome = done.outcome; machine = linked links new })
  after_deed base links out =
      ap (machine.done_by t (linked base old)) does.is
      ∙ ap Some (λ i. record {
        outcome = sym does.outcome i;
        machine = (ap (machine.with_parcels t does.deed.out) (does.parts base)
            ∙ pushed_links (linked base new) t does.deed.out
            ∙ ap (λ ls. linked ls new) (ap (λ o. out_links t o base) (sym does.out) ∙ sym out)) i;
      })

-- an event that takes no parcel
plain_step : (h : Site) (m : machine.Machine) (e : Event) (made : Option Made) → IsNoTake e → machine.machine_step h m e made ≡ machine.done_by (machine.tile_for_event h e) m (machine.part_step h (machine.part_at (machine.tile_for_event h e) m) e made None)
plain_step h m (Event.Do a c) made own = refl
plain_step h m (Event.Take to from) made own = absurd own
plain_step h m (Event.Turn a) made own = refl
plain_step h m (Event.Tend a) made own = refl
plain_step h m Event.Close made own = refl
plain_step h m (Event.Order o) made own = refl
plain_step h m (Event.File l) made own = refl

-- the event is no turn
abbrev pub IsNoTurn : Event → Type 0
IsNoTurn (Event.Turn a) = ⊥
IsNoTurn event = Unit {0}

-- no move is asked for where the event is no turn
unmoved : (h : Site) (part : machine.Part) (e : Event) (made : Option Made) (q : Option Parcel) → IsNoTurn e → machine.part_step h part e made q ≡ machine.part_step h part e None q
unmoved h part (Event.Turn a) made q other = absurd other
unmoved h (machine.Kernel_part k) (Event.Take to from) made (Some q) other = refl
unmoved h (machine.Memory_part x) (Event.Take to from) made (Some q) other = refl
unmoved h (machine.Tile_part t) (Event.Take to from) made (Some q) other = refl
unmoved h (machine.Kernel_part k) (Event.Take to from) made None other = refl
unmoved h (machine.Memory_part x) (Event.Take to from) made None other = refl
unmoved h (machine.Tile_part t) (Event.Take to from) made None other = refl
unmoved h (machine.Kernel_part k) (Event.Do a c) made q other = refl
unmoved h (machine.Memory_part x) (Event.Do a c) made q other = refl
unmoved h (machine.Tile_part t) (Event.Do a c) made q other = refl
unmoved h (machine.Kernel_part k) (Event.Tend a) made q other = refl
unmoved h (machine.Memory_part x) (Event.Tend a) made q other = refl
unmoved h (machine.Tile_part t) (Event.Tend a) made q other = refl
unmoved h (machine.Kernel_part k) Event.Close made q other = refl
unmoved h (machine.Memory_part x) Event.Close made q other = refl
unmoved h (machine.Tile_part t) Event.Close made q other = refl
unmoved h (machine.Kernel_part k) (Event.Order o) made q other = refl
unmoved h (machine.Memory_part x) (Event.Order o) made q other = refl
unmoved h (machine.Tile_part t) (Event.Order o) made q other = refl
unmoved h (machine.Kernel_part k) (Event.File l) made q other = refl
unmoved h (machine.Memory_part x) (Event.File l) made q other = refl
unmoved h (machine.Tile_part t) (Event.File l) made q other = refl

-- with the move that the outcome tells
pub makes_with : (old new : Parts) (links now : List (List Parcel)) (e : Event) (t : ℕ) (done : Done) → IsNoTake e → t ≡ machine.tile_for_event old.site e
    → DoesAt (machine.tile_for_event old.site e) old new done (machine.part_step old.site (part_of (machine.tile_for_event old.site e) old) e done.outcome.made None)
    → now ≡ out_links t (out_of done.first ++ out_of done.second) links
    → Makes (record { site = old.site; machine = linked links old }) e done.outcome (record { site = new.site; machine = linked now new })
makes_with old new links now e t done own here does out = record {
  moved =
      plain_step old.site (linked links old) e done.outcome.made own
      ∙ after_deed (machine.tile_for_event old.site e) old new done _ does links now (out ∙ ap (λ k. out_links k (out_of done.first ++ out_of done.second) links) here);
  site = does.site;
}

pub makes : (old new : Parts) (links now : List (List Parcel)) (e : Event) (t : ℕ) (done : Done) → IsNoTake e → IsNoTurn e → t ≡ machine.tile_for_event old.site e
    → DoesAt (machine.tile_for_event old.site e) old new done (machine.part_step old.site (part_of (machine.tile_for_event old.site e) old) e None None)
    → now ≡ out_links t (out_of done.first ++ out_of done.second) links
    → Makes (record { site = old.site; machine = linked links old }) e done.outcome (record { site = new.site; machine = linked now new })
makes old new links now e t done own other here does out =
    makes_with old new links now e t done own here (
    subst (DoesAt (machine.tile_for_event old.site e) old new done) (sym (unmoved old.site (part_of (machine.tile_for_event old.site e) old) e done.outcome.made None other)) does
    ) out

-- a take
module _ (old : Parts) (links : List (List CodeParcel)) (to from : ℕ) where
  abbrev still : machine.Machine
  still = linked (parcels_of links) old

  module _ (q : CodeParcel) (front : first (list_at links (place from to)) ≡ Some q) where
    abbrev left : List Parcel
    left = map parcel_of (drop 1 (get_or links (place from to) []))

    at_front : machine.link_at from to still ≡ parcel_of q ∷ left
    at_front = parcels_at links (place from to) ∙ ap (map parcel_of) (first_is (get_or links (place from to) []) q front)

    pub takes : (new : Parts) (now : List (List CodeParcel)) (done : Done)
        → DoesAt to old new done (machine.part_step old.site (part_of to old) (Event.Take to from) None (Some (parcel_of q)))
        → parcels_of now ≡ out_links to (out_of done.first ++ out_of done.second) (parcels_of (with_popped links (place from to)))
        → Makes (record { site = old.site; machine = still }) (Event.Take to from) done.outcome (record { site = new.site; machine = linked (parcels_of now) new })
    takes new now done does out = record {
      moved =
          ap (machine.done_by to (machine.with_link from to (machine.rest (machine.link_at from to still)) still)) (unmoved old.site (machine.part_at to still) (Event.Take to from) done.outcome.made (machine.front (machine.link_at from to still)) tt)
          ∙ ap (λ l. machine.done_by to (machine.with_link from to (machine.rest l) still) (machine.part_step old.site (machine.part_at to still) (Event.Take to from) None (machine.front l))) at_front
          ∙ after_deed to old new done _ does (set (parcels_of links) (place from to) left) (parcels_of now)
          (out ∙ ap (out_links to (out_of done.first ++ out_of done.second)) (map-set (map parcel_of) links (place from to) (drop 1 (get_or links (place from to) []))));
      site = does.site;
    }

  -- of nothing
  module _ (none : first (list_at links (place from to)) ≡ None) where
    idle_part : (part : machine.Part)
        → machine.done_by to (machine.with_link from to [] still) (machine.part_step old.site part (Event.Take to from) None None)
        ≡ machine.done_by to (machine.with_link from to [] still) (Some (idle_result IdleWhy.EmptyLink part))
    idle_part (machine.Kernel_part k) = refl
    idle_part (machine.Memory_part x) = refl
    idle_part (machine.Tile_part t) = refl

    with_same : (a b : Bool) → (to == 0) ≡ a → (to == 1) ≡ b → machine.with_part to (if a then machine.Kernel_part old.kernel else (if b then machine.Memory_part old.memory else machine.Tile_part (machine.tile_at to still))) still ≡ still
    with_same true b e f = refl
    with_same false true e f = refl
    with_same false false e f = ap (λ ts. record still { tiles = ts }) (set-get_or old.tiles to (machine.empty_tile to))

    no_link : machine.link_at from to still ≡ []
    no_link = parcels_at links (place from to) ∙ ap (map parcel_of) (none_first (get_or links (place from to) []) none)

    same_links : machine.with_link from to [] still ≡ still
    same_links = ap (λ l. machine.with_link from to l still) (sym no_link) ∙ ap (λ ls. record still { links = ls }) (set-get_or (parcels_of links) (place from to) [])

    pub takes_nothing : (o : Outcome) → o ≡ plain (Said.Idle IdleWhy.EmptyLink) → Makes (record { site = old.site; machine = still }) (Event.Take to from) o (record { site = old.site; machine = still })
    takes_nothing o says = record {
      moved =
          ap (machine.done_by to (machine.with_link from to (machine.rest (machine.link_at from to still)) still)) (unmoved old.site (machine.part_at to still) (Event.Take to from) o.made (machine.front (machine.link_at from to still)) tt)
          ∙ ap (λ l. machine.done_by to (machine.with_link from to (machine.rest l) still) (machine.part_step old.site (machine.part_at to still) (Event.Take to from) None (machine.front l))) no_link
          ∙ idle_part (machine.part_at to still)
          ∙ ap Some (λ i. record {
            outcome = sym says i;
            machine = (ap (λ (x : machine.Machine). machine.with_part to (machine.part_at to still) x) same_links ∙ with_same (to == 0) (to == 1) refl refl) i;
          });
      site = refl;
    }

-- ---- orders

seated_by : (a : ℕ) (xs : List ActivityEntry) (ys : List Home) → map entry_act xs ≡ map home_act ys → is_some (keyed.find home_act same_act a ys) ≡ true → is_some (keyed.find entry_act same_act a xs) ≡ true
seated_by a [] [] e h = h
seated_by a [] (y ∷ ys) e h = absurd (cc)
seated_by a (x ∷ xs) [] e h = absurd (cc)
seated_by a (x ∷ xs) (y ∷ ys) e h =
    let k : x.act ≡ y.act = cc in
    let f : map entry_act xs ≡ map home_act ys = cc in
    let r = seated_by a xs ys f in
    grind (arith, nat_tests, h, k, r)

-- who is to hold a grant has a seat
pub holder_seated : (p : Parts) (o : Order) → map entry_act p.kernel.seats ≡ map home_act p.site.homes → IsOfSetup p.site (Event.Order o) → HolderIsSeated p.kernel o
holder_seated p (Order.Grant line) e of = seated_by (holder line) p.kernel.seats p.site.homes e of.0
holder_seated p (Order.Switch t a) e of = tt
holder_seated p (Order.Revoke g) e of = tt

-- what the kernel did by an order
pub order_at : {E : Type 0} (old : Parts) (now : KernelAt) (o : Order) (answer : Result Ordered OrderRefusal) (done : Result Done E) → now.site ≡ old.site → kernel_does.TellsOrder answer done → Orders answer old.kernel now.kernel (kernel_order old.site old.kernel o)
    → IfOk done (λ d. DoesAt 0 old (record { site = now.site; kernel = now.kernel; memory = old.memory; tiles = old.tiles }) d (machine.part_step old.site (part_of 0 old) (Event.Order o) None None))
order_at old now o answer (Ok done) site tells orders = kernel_at old now 0 done (kernel_order old.site old.kernel o) _ refl site (tells old.kernel now.kernel (kernel_order old.site old.kernel o) orders)
order_at old now o answer (Err e) site tells orders = tt

pub order_kept : {E : Type 0} (old : Parts) (now : KernelAt) (o : Order) (answer : Result Ordered OrderRefusal) (done : Result Done E) → now.site ≡ old.site → kernel_does.TellsOrder answer done → Orders answer old.kernel now.kernel (kernel_order old.site old.kernel o)
    → OnErr done (record { site = now.site; kernel = now.kernel; memory = old.memory; tiles = old.tiles } ≡ old)
order_kept old now o answer (Ok done) site tells orders = tt
order_kept old now o answer (Err e) site tells orders = (λ i. record { site = site i; kernel = tells old.kernel now.kernel (kernel_order old.site old.kernel o) orders i; memory = old.memory; tiles = old.tiles })

-- ---- turns

-- a tile made a turn
pub turn_at : (p : Parts) (ts : List TileAt) (at : ℕ) (now : TileAt) (t : ℕ) (did : TileDid) (turn : Option (LocalResult Tile)) (step : Option (LocalResult machine.Part)) → at ≡ t → step ≡ machine.of_turn turn → TurnDoes did now.tile turn
    → DoesAt t (with_tiles p ts) (with_tiles p (set ts at now)) (single did) step
turn_at p ts at now t did None step here is does = absurd does
turn_at p ts at now t did (Some d) step here is does = tile_at p ts at now t did d step here is does

-- low numbers and short stays leave room for a move
pub can_turn : (n : ℕ) (m : machine.Machine) (t a : ℕ) (made : Option Made) → n ≤ 2097152 → CountersBounded n m → StaysAreShort n m → IsShort made → CanTurn (machine.tile_at t m) a made
can_turn n m t a None few low stays short = tt
can_turn n m t a (Some (Made.Await ep)) few low stays short = λ x y current found. tt
can_turn n m t a (Some Made.Quantum) few low stays short = λ x y current found. tt
can_turn n m t a (Some Made.End) few low stays short = λ x y current found. tt
can_turn n m t a (Some (Made.Command c)) few low stays short = λ x y current found.
    let issues : CanIssue (Some x) c = subst (λ (o : Option Context). CanIssue o c) current (can_issue n m t c few low) in
    let moves : InSome (λ (z : Resident). z.moves ≤ n) (resident_of a (machine.tile_at t m)) = each_found (λ (z : Resident). z.moves ≤ n) resident_act same_act a (machine.tile_at t m).stays (each_read (HasFewMoves n) m.tiles t (machine.empty_tile t) stays tt) in
    let few_moves : y.moves ≤ n = subst (InSome (λ (z : Resident). z.moves ≤ n)) found moves in
    (issues.0, issues.1, short, omega (arith, few_moves, few))
