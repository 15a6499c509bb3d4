-- A tile takes data, a Save and a Restore as its local steps say.
use Rattle.std.proofs.Common.{◌≡◌, ℕ, Bool, true, false, List, [], ◌∷◌, ◌++◌, Option, Some, None, refl, sym, ap, ◌∙◌, subst, arith}
use Rattle.std.specs.Prelude.{if◌then◌else◌, ◌==◌, ◌&&◌, is_some}
use Rattle.std.proofs.lemmas.Bool.Decides.{nat_tests}
use Rattle.m3_base.specs.declared.packet.Packet.{Packet}
use Rattle.m3_base.specs.declared.event.IdleWhy.{IdleWhy}
use Rattle.m3_base.specs.declared.event.Said.{Said}
use Rattle.m3_base.specs.Ideal.Acceptance.{fits, arrive_fit}
use Rattle.m3_base.specs.Ideal.Arrival.{Arrival, arrive}
use Rattle.m3_base.specs.Ideal.Context.{Context}
use Rattle.m3_base.specs.Placement.Routing.{target}
use Rattle.m3_base.specs.Placement.Take.{is_here}
use Rattle.m3_base.specs.ExtentFiles.ScriptEntries.{plain_outcome as plain}
use Rattle.m3_core.specs.declared.parcel.Heard.{Heard as CodeHeard}
use Rattle.m3_kernel.specs.ArrivalView.{arrival_of}
use Rattle.m3_kernel.specs.ParcelView.{heard_in, out_of}
use Rattle.m3_kernel.specs.declared.came.Came.{Came}
use Rattle.m3_model.specs.Config.KnownActivities.{is_named}
use Rattle.m3_model.specs.Config.Site.{Site}
use Rattle.m3_model.specs.LocalStep.{data_out, answer_tile, closed_out, local_result, dropped_result, heard_in_answer}
use Rattle.m3_model.specs.Parcel.{Heard, Saved}
use Rattle.m3_model.specs.Tile.State.{Resident, Tile}
use Rattle.m3_model.specs.Tile.Step.{new_out, heard_by, act_in, take_arrived, arrive_named, take_here, bounced, take_data, is_waiting_resident, has_ended, take_save, resident_after_answers, resident_at_restore, after_restore, may_return, take_restore, resident_of}
use Rattle.m3_engine.specs.StayView.{HearsOf, stay_in, stays_after_answers, replaced_if, with_stay}
use Rattle.m3_engine.specs.TileStepView.{Lands, Does}
use Rattle.m3_engine.specs.TileView.{TileAt, runs, accepts, TileHears}
use Rattle.m3_engine.specs.declared.tile.TileDid.{TileDid}
use Rattle.m3_refine.proofs.arrival.ArriveKeeps.{KeptBy, arrive_keeps}

-- the tile of these stays, with this current context
abbrev tile_with : ℕ → List Resident → Option Context → Tile
tile_with t ys c = record { tile = t; current = c; stays = ys }

abbrev at_site : Site → Tile → TileAt
at_site h t = record { site = h; tile = t }

-- ---- data

named_fit : (h : Site) (x : Context) (p : Packet) → is_named h p ≡ true → fits x p ≡ true → arrive_named h x p ≡ arrive x p
named_fit h x p named fit = ap (λ b. if b then arrive_fit x p else None) named ∙ ap (λ b. if b then arrive x p else None) fit

out_as : (h : Site) (o : Option Packet) → new_out h o ≡ data_out (answer_tile h o) o
out_as h None = refl
out_as h (Some p) = refl

pub lands_as : (h : Site) (d : TileDid) (old new : Context) (p : Packet) (came : Came) → is_named h p ≡ true → fits old p ≡ true → arrive old p ≡ Some (arrival_of came new)
    → d.outcome ≡ plain came.said → out_of d.emit ≡ new_out h came.answer ++ closed_out came.freed → Lands h d old new p
lands_as h d old new p came named fit is said sent = record {
  arrival = arrival_of came new;
  arrives = named_fit h old p named fit ∙ is;
  outcome = said;
  out = sent ∙ ap (λ o. o ++ closed_out came.freed) (out_as h came.answer);
  context = refl;
}

both : (a b : Bool) → (a && b) ≡ true → (a ≡ true) × (b ≡ true)
both true true e = (refl, refl)
both true false e = absurd (cc)
both false b e = absurd (cc)

pub is_accepted : (h : Site) (p : Packet) (o : Option Context) (x : Context) → accepts h p o ≡ true → o ≡ Some x → (is_named h p ≡ true) × (fits x p ≡ true)
is_accepted h p o x e some = both (is_named h p) (fits x p) (sym (ap (accepts h p) some) ∙ e)

-- what the program of a stay hears is what it hears of the packet
heard_same : (h : Site) (t : ℕ) (ys : List Resident) (p : Packet) (heard : Option CodeHeard) (new : Context) (o : Option Resident)
    → stay_in new.act ys ≡ o → ((y : Resident) → stay_in new.act ys ≡ Some y → HearsOf p y heard)
    → tile_with t (replaced_if (resident_after_answers (heard_in heard)) o ys) (Some new) ≡ heard_by (heard_in_answer p) (tile_with t ys (Some new)) o
heard_same h t ys p heard new None e hears = refl
heard_same h t ys p heard new (Some y) e hears = ap (λ z. tile_with t (with_stay z ys) (Some new)) (hears y e)

module _ (h : Site) (t : ℕ) (ys : List Resident) (x : Context) (p : Packet) (d : TileDid) (heard : Option CodeHeard) where
  abbrev was : Tile
  was = tile_with t ys (Some x)

  kept_act : (r : Arrival) → is_named h p ≡ true → fits x p ≡ true → arrive_named h x p ≡ Some r → r.context.act ≡ x.act
  kept_act r named fit e = (subst (KeptBy x p) (sym (named_fit h x p named fit) ∙ e) (arrive_keeps x p)).0

  takes_there : (new : Context) (after : List Resident) → is_named h p ≡ true → fits x p ≡ true → is_here (target p) (Some x.act) ≡ true
      → ((y : Resident) → stay_in x.act ys ≡ Some y → HearsOf p y heard) → Lands h d x new p → after ≡ stays_after_answers (heard_in heard) new.act ys
      → Does d (tile_with t after (Some new)) (take_data h was p)
  takes_there new after named fit here hears lands now =
      let act : new.act ≡ x.act = ap (λ (c : Context). c.act) lands.context ∙ kept_act lands.arrival named fit lands.arrives in
      let part : tile_with t after (Some new) ≡ heard_by (heard_in_answer p) (tile_with t ys (Some new)) (stay_in new.act ys) =
      ap (λ zs. tile_with t zs (Some new)) now ∙ heard_same h t ys p heard new (stay_in new.act ys) refl (λ y e. hears y (ap (λ a. stay_in a ys) (sym act) ∙ e)) in
      let step : take_data h was p ≡ take_arrived h was p (Some lands.arrival) =
      ap (λ b. if b then take_here h was p (Some x) else bounced was p (target p)) here ∙ ap (take_arrived h was p) lands.arrives in
      subst (Does d (tile_with t after (Some new))) (sym step) (
      record {
        outcome = lands.outcome;
        part = part ∙ ap (λ (c : Context). heard_by (heard_in_answer p) (tile_with t ys (Some c)) (stay_in c.act ys)) lands.context;
        out = lands.out;
      }
      )

pub takes_data : (h : Site) (old : TileAt) (t : ℕ) (ys : List Resident) (o : Option Context) (x new : Context) (p : Packet) (d : TileDid) (heard : Option CodeHeard) (after : List Resident)
    → at_site h (tile_with t ys o) ≡ old → o ≡ Some x → is_here (target p) (act_in old.tile.current) ≡ true → accepts old.site p old.tile.current ≡ true → TileHears p old.tile heard
    → Lands h d x new p → after ≡ stays_after_answers (heard_in heard) new.act ys → Does d (tile_with t after (Some new)) (take_data old.site old.tile p)
takes_data h old t ys o x new p d heard after is some here accepted hears lands now =
    let whole : at_site h (tile_with t ys (Some x)) ≡ old = ap (λ c. at_site h (tile_with t ys c)) (sym some) ∙ is in
    let current : old.tile.current ≡ Some x = ap (λ (y : TileAt). y.tile.current) (sym whole) in
    let fit = is_accepted h p old.tile.current x (ap (λ (y : TileAt). accepts y.site p old.tile.current) whole ∙ accepted) current in
    subst (λ (y : TileAt). Does d (tile_with t after (Some new)) (take_data y.site y.tile p)) whole (
    takes_there h t ys x p d heard new after fit.0 fit.1 (sym (ap (λ c. is_here (target p) (act_in c)) current) ∙ here)
    (λ y e. hears x y current (ap (λ (z : TileAt). resident_of x.act z.tile) (sym whole) ∙ e)) lands now
    )

-- a packet that doesn't fit is dropped
pub drops_data : (h : Site) (t : Tile) (p : Packet) → is_here (target p) (act_in t.current) ≡ true → accepts h p t.current ≡ false → take_data h t p ≡ dropped_result t
drops_data h t p here refused = ap (λ b. if b then take_here h t p t.current else bounced t p (target p)) here ∙ by_current t.current refused
  where
    by_fit : (x : Context) (a b : Bool) → (a && b) ≡ false → take_arrived h t p (if a then (if b then arrive x p else None) else None) ≡ dropped_result t
    by_fit x true true e = absurd (cc)
    by_fit x true false e = refl
    by_fit x false b e = refl

    by_current : (o : Option Context) → accepts h p o ≡ false → take_here h t p o ≡ dropped_result t
    by_current None e = refl
    by_current (Some x) e = by_fit x (is_named h p) (fits x p) e

-- ---- a Save

pub saves : (h : Site) (old : TileAt) (t a : ℕ) (ys : List Resident) (o : Option Context) (x : Context) (d : TileDid) → at_site h (tile_with t ys o) ≡ old → o ≡ Some x → runs a old.tile.current ≡ true
    → d.outcome ≡ plain (Said.Saving a) → out_of d.emit ≡ (0, Saved a x (is_waiting_resident x (stay_in a ys)) (has_ended (stay_in a ys))) ∷ []
    → Does d (tile_with t ys None) (take_save old.tile a old.tile.current)
saves h old t a ys o x d is some here said sent =
    let whole : at_site h (tile_with t ys (Some x)) ≡ old = ap (λ c. at_site h (tile_with t ys c)) (sym some) ∙ is in
    subst (λ (y : TileAt). Does d (tile_with t ys None) (take_save y.tile a y.tile.current)) whole (
    saves_there (subst (λ (y : TileAt). runs a y.tile.current ≡ true) (sym whole) here)
    )
  where
    saves_there : (x.act == a) ≡ true → Does d (tile_with t ys None) (take_save (tile_with t ys (Some x)) a (Some x))
    saves_there e =
        let same : a ≡ x.act = grind (arith, nat_tests, e) in
        subst (Does d (tile_with t ys None)) (
        sym (ap (λ b. if b then local_result (Said.Saving a) (tile_with t ys None) ((0, Saved x.act x (is_waiting_resident x (stay_in a ys)) (has_ended (stay_in a ys))) ∷ []) else dropped_result (tile_with t ys (Some x))) e)
        ) (record { outcome = said; part = refl; out = sent ∙ ap (λ n. (0, Saved n x (is_waiting_resident x (stay_in a ys)) (has_ended (stay_in a ys))) ∷ []) same })

-- ---- a Restore

module _ (h : Site) (old : TileAt) (t a : ℕ) (ys : List Resident) (o : Option Context) (x : Context) (xs : List Heard) (d : TileDid) (is : at_site h (tile_with t ys o) ≡ old) (none : is_some o ≡ false) (fit : may_return h a x ≡ true) where
  no_current : (c : Option Context) → is_some c ≡ false → c ≡ None
  no_current None e = refl
  no_current (Some c) e = absurd (cc)

  whole : at_site h (tile_with t ys None) ≡ old
  whole = ap (λ c. at_site h (tile_with t ys c)) (sym (no_current o none)) ∙ is

  restore_step : take_restore old.site old.tile a x xs old.tile.current ≡ after_restore (tile_with t ys None) x xs (stay_in x.act ys)
  restore_step =
      ap (λ (y : TileAt). take_restore y.site y.tile a x xs y.tile.current) (sym whole)
      ∙ ap (λ b. if b then after_restore (tile_with t ys None) x xs (stay_in x.act ys) else dropped_result (tile_with t ys None)) fit

  by_stay : (o : Option Resident) (after : List Resident) → is_some o ≡ true → after ≡ replaced_if (resident_at_restore xs) o ys → d.outcome ≡ plain (Said.Current x.act) → out_of d.emit ≡ []
      → Does d (tile_with t after (Some x)) (after_restore (tile_with t ys None) x xs o)
  by_stay None after there now said sent = absurd (cc)
  by_stay (Some y) after there now said sent = record { outcome = said; part = ap (λ zs. tile_with t zs (Some x)) now; out = sent }

  pub restores : (after : List Resident) → is_some (stay_in x.act ys) ≡ true → after ≡ replaced_if (resident_at_restore xs) (stay_in x.act ys) ys
      → d.outcome ≡ plain (Said.Current x.act) → out_of d.emit ≡ [] → Does d (tile_with t after (Some x)) (take_restore old.site old.tile a x xs old.tile.current)
  restores after there now said sent =
      subst (Does d (tile_with t after (Some x))) (sym restore_step) (by_stay (stay_in x.act ys) after there now said sent)

  no_stay : (o : Option Resident) → is_some o ≡ false → (after_restore (tile_with t ys None) x xs o ≡ dropped_result (tile_with t ys None)) × (replaced_if (resident_at_restore xs) o ys ≡ ys)
  no_stay None there = (refl, refl)
  no_stay (Some y) there = absurd (cc)

  pub restores_none : (after : List Resident) → is_some (stay_in x.act ys) ≡ false → after ≡ replaced_if (resident_at_restore xs) (stay_in x.act ys) ys
      → d.outcome ≡ plain (Said.Idle IdleWhy.EmptyLink) → out_of d.emit ≡ [] → Does d (tile_with t after o) (take_restore old.site old.tile a x xs old.tile.current)
  restores_none after there now said sent =
      let w = no_stay (stay_in x.act ys) there in
      subst (Does d (tile_with t after o)) (sym (restore_step ∙ w.0)) (
      record { outcome = said; part = λ i. tile_with t ((now ∙ w.1) i) (no_current o none i); out = sent }
      )

-- no Restore where somebody is
pub restores_nobody : (h : Site) (t : Tile) (a : ℕ) (x : Context) (xs : List Heard) (o : Option Context) → is_some o ≡ true → take_restore h t a x xs o ≡ dropped_result t
restores_nobody h t a x xs (Some y) there = refl
restores_nobody h t a x xs None there = absurd (cc)

-- nor of a context that may not return
pub restores_unfit : (h : Site) (t : Tile) (a : ℕ) (x : Context) (xs : List Heard) (o : Option Context) → may_return h a x ≡ false → take_restore h t a x xs o ≡ dropped_result t
restores_unfit h t a x xs (Some y) unfit = refl
restores_unfit h t a x xs None unfit = ap (λ b. if b then after_restore t x xs (resident_of x.act t) else dropped_result t) unfit
