-- What tiles and the memory send is neither an Install nor a Close.
use Rattle.std.proofs.Common.{◌≡◌, ℕ, ◌<◌, Bool, true, false, List, [], ◌∷◌, length, Option, Some, None, refl, subst, arith}
use Rattle.std.specs.Prelude.{if◌then◌else◌, ◌==◌}
use Rattle.m3_base.specs.declared.command.Answer.{Answer}
use Rattle.m3_base.specs.declared.command.Command.{Command}
use Rattle.m3_base.specs.declared.event.IdleWhy.{IdleWhy}
use Rattle.m3_base.specs.declared.event.Made.{Made}
use Rattle.m3_base.specs.declared.event.Said.{Said}
use Rattle.m3_base.specs.declared.packet.Packet.{Packet}
use Rattle.m3_base.specs.Ideal.Context.{Context}
use Rattle.m3_base.specs.Ideal.Landing.{bytes_at, written_at}
use Rattle.m3_base.specs.Ideal.Arrival.{Arrival}
use Rattle.m3_base.specs.Ideal.Issue.{Issued, issue}
use Rattle.m3_base.specs.Placement.Routing.{target}
use Rattle.m3_base.specs.Placement.Take.{is_here}
use Rattle.m3_merge.proofs.MergedIsRun.{each_append}
use Rattle.m3_model.specs.Config.Site.{Site, tile_of}
use Rattle.m3_model.specs.Parcel.{Heard, Parcel, Data, Save, Saved, Restore, Yield, Closed}
use Rattle.m3_model.specs.Tile.State.{Resident, Tile}
use Rattle.m3_model.specs.LocalStep.{LocalResult, local_result, idle_result, dropped_result, data_out, closed_out, answer_tile}
use Rattle.m3_model.specs.Tile.Step.{tile_do, do_at, do_issued, new_out, resident_of, with_current, act_in, arrive_named, take_arrived, take_here, bounced, take_data, is_waiting_resident, has_ended, take_save, after_restore, may_return, take_restore, tile_take, yield_out, tile_turn}
use Rattle.m3_model.specs.Memory.Step.{may_serve, serve_result, serve, memory_take}
use Rattle.m3_model.specs.Ways.{IsPlain}
use Rattle.m3_refine.proofs.events.turn.TurnResults.{HoldsInCases, each_turn}
use Rattle.m3_refine.proofs.lists.EachElement.{InSome}
use Rattle.m3_refine.proofs.ways.PlainPackets.{PlainIf, PlainIssued, PlainArrived, issue_plain, named_plain}
use Rattle.m3_refine.proofs.ways.KernelWays.{PlainParcel, AllPlain, closed_plain}
use Rattle.m3_refine.proofs.arrival.AnswerAndClosed.{tile_for-low}

abbrev pub SendsPlain : {S : Type 0} → LocalResult S → Type 0
SendsPlain d = AllPlain d.out

one_of : {S : Type 0} (b : Bool) (x y : LocalResult S) → SendsPlain x → SendsPlain y → SendsPlain (if b then x else y)
one_of true x y k l = k
one_of false x y k l = l

module _ (h : Site) (low : (a : ℕ) → tile_of h a < 16) where
  new_plain : (o : Option Packet) → PlainIf o → AllPlain (new_out h o)
  new_plain None k = tt
  new_plain (Some p) k = ((tile_for-low h low (target p), k), tt)

  answer_plain : (o : Option Packet) → PlainIf o → AllPlain (data_out (answer_tile h o) o)
  answer_plain None k = tt
  answer_plain (Some p) k = ((tile_for-low h low (target p), k), tt)

  -- ---- commands and turns

  issued_plain : (t : Tile) (o : Option Issued) → PlainIssued o → SendsPlain (do_issued h t o)
  issued_plain t None k = tt
  issued_plain t (Some i) k = new_plain i.packet k

  at_plain : (t : Tile) (a : ℕ) (c : Command) (o : Option Context) → SendsPlain (do_at h t a c o)
  at_plain t a c None = tt
  at_plain t a c (Some x) = one_of (x.act == a) (do_issued h t (issue x c)) (idle_result IdleWhy.NotCurrent t) (issued_plain t (issue x c) (issue_plain x c)) tt

  pub do_plain : (t : Tile) (a : ℕ) (c : Command) → SendsPlain (tile_do h t a c)
  do_plain t a c = at_plain t a c t.current

  abbrev pub PlainMade : {S : Type 0} → Option (LocalResult S) → Type 0
  PlainMade o = InSome SendsPlain o

  yield_plain : (y : Resident) → AllPlain (yield_out y)
  yield_plain y = by_sent y.yield_sent
    where
      by_sent : (b : Bool) → AllPlain (if b then [] else (0, Yield y.act) ∷ [])
      by_sent true = tt
      by_sent false = ((omega arith, tt), tt)

  turn_cases : (t : Tile) (a : ℕ) → HoldsInCases h t a SendsPlain
  turn_cases t a = record {
    idle = λ why e. tt;
    issued = λ x y c i e f is. new_plain i.packet (subst PlainIssued is (issue_plain x c));
    awake = λ ep y f. tt;
    yields = λ made said y z f same e. yield_plain z;
  }

  pub turn_plain : (t : Tile) (a : ℕ) (made : Option Made) → PlainMade (tile_turn h t a made)
  turn_plain t a made = each_turn h t a SendsPlain (turn_cases t a) made

  -- ---- takes

  arrived_plain : (t : Tile) (p : Packet) (o : Option Arrival) → PlainArrived o → SendsPlain (take_arrived h t p o)
  arrived_plain t p None k = tt
  arrived_plain t p (Some r) k =
      each_append (λ (x : ℕ × Parcel). (x.0 < 16) × PlainParcel x.1) (data_out (answer_tile h r.answer) r.answer) (closed_out r.freed) (answer_plain r.answer k) (closed_plain r.freed)

  here_plain : (t : Tile) (p : Packet) (o : Option Context) → SendsPlain (take_here h t p o)
  here_plain t p None = tt
  here_plain t p (Some x) = arrived_plain t p (arrive_named h x p) (named_plain h x p)

  bounced_plain : (t : Tile) (p : Packet) (o : Option ℕ) → IsPlain p → SendsPlain (bounced t p o)
  bounced_plain t p None k = tt
  bounced_plain t p (Some a) k = ((omega arith, k), tt)

  -- an Install or a Close isn't bounced
  abbrev pub StaysOwn : Tile → Parcel → Type 0
  StaysOwn t (Data p) = is_here (target p) (act_in t.current) ≡ false → IsPlain p
  StaysOwn t (Save a) = Unit {0}
  StaysOwn t (Saved a c waiting ended) = Unit {0}
  StaysOwn t (Restore a c xs) = Unit {0}
  StaysOwn t (Yield a) = Unit {0}
  StaysOwn t (Closed g) = Unit {0}

  data_plain : (t : Tile) (p : Packet) → (is_here (target p) (act_in t.current) ≡ false → IsPlain p) → SendsPlain (take_data h t p)
  data_plain t p f = by_here (is_here (target p) (act_in t.current)) refl
    where
      by_here : (b : Bool) → is_here (target p) (act_in t.current) ≡ b → SendsPlain (if b then take_here h t p t.current else bounced t p (target p))
      by_here true e = here_plain t p t.current
      by_here false e = bounced_plain t p (target p) (f e)

  save_plain : (t : Tile) (a : ℕ) (o : Option Context) → SendsPlain (take_save t a o)
  save_plain t a None = tt
  save_plain t a (Some x) =
      one_of (x.act == a) (local_result (Said.Saving a) (with_current None t) ((0, Saved x.act x (is_waiting_resident x (resident_of a t)) (has_ended (resident_of a t))) ∷ [])) (dropped_result t) ((omega arith, tt), tt) tt

  restored_plain : (t : Tile) (x : Context) (xs : List Heard) (o : Option Resident) → SendsPlain (after_restore t x xs o)
  restored_plain t x xs None = tt
  restored_plain t x xs (Some y) = tt

  restore_plain : (t : Tile) (a : ℕ) (x : Context) (xs : List Heard) (o : Option Context) → SendsPlain (take_restore h t a x xs o)
  restore_plain t a x xs (Some y) = tt
  restore_plain t a x xs None = one_of (may_return h a x) (after_restore t x xs (resident_of x.act t)) (dropped_result t) (restored_plain t x xs (resident_of x.act t)) tt

  pub take_plain : (t : Tile) (q : Parcel) → StaysOwn t q → SendsPlain (tile_take h t q)
  take_plain t (Data p) f = data_plain t p f
  take_plain t (Save a) f = save_plain t a t.current
  take_plain t (Restore a c xs) f = restore_plain t a c xs t.current
  take_plain t (Saved a c w e) f = tt
  take_plain t (Yield a) f = tt
  take_plain t (Closed g) f = tt

  -- ---- the memory

  serve_plain : (memory : List ℕ) (p : Packet) → SendsPlain (serve h memory p)
  serve_plain memory (Packet.Read id g place buffer) =
      one_of (may_serve h memory id place (length buffer)) (serve_result h memory id (Answer.Bytes (bytes_at place (length buffer) memory))) (dropped_result memory) ((low id.issuer, tt), tt) tt
  serve_plain memory (Packet.Write id g place payload) =
      one_of (may_serve h memory id place (length payload)) (serve_result h (written_at place payload memory) id Answer.Written) (dropped_result memory) ((low id.issuer, tt), tt) tt
  serve_plain memory (Packet.Message to ep g m) = tt
  serve_plain memory (Packet.Credit id to g) = tt
  serve_plain memory (Packet.Answer id answer) = tt
  serve_plain memory (Packet.Install id to ep f) = tt
  serve_plain memory (Packet.Close id to ep g) = tt

  pub memory_plain : (memory : List ℕ) (q : Parcel) → SendsPlain (memory_take h memory q)
  memory_plain memory (Data p) = serve_plain memory p
  memory_plain memory (Save a) = tt
  memory_plain memory (Saved a c w e) = tt
  memory_plain memory (Restore a c xs) = tt
  memory_plain memory (Yield a) = tt
  memory_plain memory (Closed g) = tt
