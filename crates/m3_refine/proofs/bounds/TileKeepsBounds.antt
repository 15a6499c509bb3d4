-- Each step of a tile or of the memory keeps next numbers and next tokens low.
use Rattle.std.proofs.Common.{ℕ, ◌+◌, Bool, true, false, List, [], ◌∷◌, Option, Some, None, length}
use Rattle.std.specs.Prelude.{if◌then◌else◌, ◌==◌}
use Rattle.m3_merge.proofs.MergedIsRun.{each_append}
use Rattle.m3_base.specs.declared.command.Answer.{Answer}
use Rattle.m3_base.specs.declared.command.Command.{Command}
use Rattle.m3_base.specs.declared.event.IdleWhy.{IdleWhy}
use Rattle.m3_base.specs.declared.event.Said.{Said}
use Rattle.m3_base.specs.declared.packet.Packet.{Packet}
use Rattle.m3_base.specs.Ideal.Context.{Context}
use Rattle.m3_base.specs.Ideal.Landing.{bytes_at, written_at}
use Rattle.m3_base.specs.Ideal.Arrival.{Arrival, arrive}
use Rattle.m3_base.specs.Ideal.Acceptance.{fits}
use Rattle.m3_base.specs.Ideal.Issue.{Issued, issue}
use Rattle.m3_base.specs.Placement.Routing.{target}
use Rattle.m3_base.specs.Placement.Take.{is_here}
use Rattle.m3_model.specs.Config.KnownActivities.{is_named}
use Rattle.m3_model.specs.Config.Site.{Site}
use Rattle.m3_model.specs.Parcel.{Heard, Parcel, Data, Save, Saved, Restore, Yield, Closed}
use Rattle.m3_model.specs.Tile.State.{Resident, Tile}
use Rattle.m3_model.specs.LocalStep.{local_result, idle_result, dropped_result, data_out, closed_out, answer_tile, heard_in_answer}
use Rattle.m3_model.specs.Tile.Step.{tile_do, do_at, do_issued, resident_of, with_current, act_in, heard_by, arrive_named, take_arrived, take_here, bounced, take_data, is_waiting_resident, has_ended, take_save, after_restore, may_return, take_restore, tile_take}
use Rattle.m3_model.specs.Memory.Step.{may_serve, serve_result, serve, memory_take}
use Rattle.m3_model.specs.Machine.{of_tile, of_memory}
use Rattle.m3_model.specs.NumberBounds.{HasBoundedCounters, CountersBoundedIn, TileBounded, ParcelBounded}
use Rattle.m3_refine.proofs.bounds.RiseByOne.{AllLow, issue_low, low_more}
use Rattle.m3_refine.proofs.bounds.ArriveKeepsBounds.{AllArrive, arrive_low}
use Rattle.m3_refine.proofs.bounds.BoundsOfParts.{LowDeed, low_in_more, low_data, low_new, low_closed}

-- ---- commands

module _ (h : Site) (n : ℕ) (t : Tile) (low : TileBounded n t) where
  issued_low : (o : Option Issued) → AllLow (n + 1) o → LowDeed (n + 1) (of_tile (do_issued h t o))
  issued_low None all = (low_in_more n t.current low, tt)
  issued_low (Some i) all = (all, low_new h (n + 1) i.packet)

  at_low : (a : ℕ) (c : Command) (o : Option Context) → CountersBoundedIn n o → LowDeed (n + 1) (of_tile (do_at h t a c o))
  at_low a c None l = (low_in_more n t.current low, tt)
  at_low a c (Some x) l = by_act (x.act == a)
    where
      by_act : (b : Bool) → LowDeed (n + 1) (of_tile (if b then do_issued h t (issue x c) else idle_result IdleWhy.NotCurrent t))
      by_act true = issued_low (issue x c) (issue_low n x c l)
      by_act false = (low_in_more n t.current low, tt)

  pub do_low : (a : ℕ) (c : Command) → LowDeed (n + 1) (of_tile (tile_do h t a c))
  do_low a c = at_low a c t.current low

  -- ---- data

  heard_current : (xs : List Heard) (u : Tile) (o : Option Resident) → CountersBoundedIn (n + 1) u.current → CountersBoundedIn (n + 1) (heard_by xs u o).current
  heard_current xs u None l = l
  heard_current xs u (Some y) l = l

  arrived_low : (p : Packet) (o : Option Arrival) → AllArrive n o → LowDeed (n + 1) (of_tile (take_arrived h t p o))
  arrived_low p None k = (low_in_more n t.current low, tt)
  arrived_low p (Some r) k = (
    heard_current (heard_in_answer p) (with_current (Some r.context) t) (resident_of r.context.act t) (low_more n r.context k),
    each_append (λ x. ParcelBounded (n + 1) x.1) (data_out (answer_tile h r.answer) r.answer) (closed_out r.freed) (low_data (n + 1) (answer_tile h r.answer) r.answer) (low_closed (n + 1) r.freed),
  )

  named_low : (c : Context) (p : Packet) → HasBoundedCounters n c → AllArrive n (arrive_named h c p)
  named_low c p l = by_named (is_named h p) (fits c p)
    where
      by_named : (a b : Bool) → AllArrive n (if a then (if b then arrive c p else None) else None)
      by_named false b = tt
      by_named true false = tt
      by_named true true = arrive_low n c p l

  here_low : (p : Packet) (o : Option Context) → CountersBoundedIn n o → LowDeed (n + 1) (of_tile (take_here h t p o))
  here_low p None l = (low_in_more n t.current low, tt)
  here_low p (Some x) l = arrived_low p (arrive_named h x p) (named_low x p l)

  bounced_low : (p : Packet) (o : Option ℕ) → LowDeed (n + 1) (of_tile (bounced t p o))
  bounced_low p None = (low_in_more n t.current low, tt)
  bounced_low p (Some a) = (low_in_more n t.current low, (tt, tt))

  data_low : (p : Packet) → LowDeed (n + 1) (of_tile (take_data h t p))
  data_low p = by_here (is_here (target p) (act_in t.current))
    where
      by_here : (b : Bool) → LowDeed (n + 1) (of_tile (if b then take_here h t p t.current else bounced t p (target p)))
      by_here true = here_low p t.current low
      by_here false = bounced_low p (target p)

  -- ---- Save and Restore

  save_low : (a : ℕ) (o : Option Context) → CountersBoundedIn n o → LowDeed (n + 1) (of_tile (take_save t a o))
  save_low a None l = (low_in_more n t.current low, tt)
  save_low a (Some x) l = by_act (x.act == a)
    where
      by_act : (b : Bool) → LowDeed (n + 1) (of_tile (if b then local_result (Said.Saving a) (with_current None t) ((0, Saved x.act x (is_waiting_resident x (resident_of a t)) (has_ended (resident_of a t))) ∷ []) else dropped_result t))
      by_act true = (tt, (low_more n x l, tt))
      by_act false = (low_in_more n t.current low, tt)

  restored_low : (c : Context) (xs : List Heard) (o : Option Resident) → HasBoundedCounters n c → LowDeed (n + 1) (of_tile (after_restore t c xs o))
  restored_low c xs None l = (low_in_more n t.current low, tt)
  restored_low c xs (Some y) l = (low_more n c l, tt)

  restore_low : (a : ℕ) (c : Context) (xs : List Heard) (o : Option Context) → HasBoundedCounters n c → LowDeed (n + 1) (of_tile (take_restore h t a c xs o))
  restore_low a c xs (Some y) l = (low_in_more n t.current low, tt)
  restore_low a c xs None l = by_fit (may_return h a c)
    where
      by_fit : (b : Bool) → LowDeed (n + 1) (of_tile (if b then after_restore t c xs (resident_of c.act t) else dropped_result t))
      by_fit true = restored_low c xs (resident_of c.act t) l
      by_fit false = (low_in_more n t.current low, tt)

  pub take_low : (q : Parcel) → ParcelBounded n q → LowDeed (n + 1) (of_tile (tile_take h t q))
  take_low (Data p) l = data_low p
  take_low (Save a) l = save_low a t.current low
  take_low (Restore a c xs) l = restore_low a c xs t.current l
  take_low (Saved a c w e) l = (low_in_more n t.current low, tt)
  take_low (Yield a) l = (low_in_more n t.current low, tt)
  take_low (Closed g) l = (low_in_more n t.current low, tt)

-- ---- the memory

module _ (h : Site) (n : ℕ) (memory : List ℕ) where
  serve_low : (p : Packet) → LowDeed n (of_memory (serve h memory p))
  serve_low (Packet.Read id g place buffer) = by_place (may_serve h memory id place (length buffer))
    where
      by_place : (b : Bool) → LowDeed n (of_memory (if b then serve_result h memory id (Answer.Bytes (bytes_at place (length buffer) memory)) else dropped_result memory))
      by_place true = (tt, (tt, tt))
      by_place false = (tt, tt)
  serve_low (Packet.Write id g place payload) = by_place (may_serve h memory id place (length payload))
    where
      by_place : (b : Bool) → LowDeed n (of_memory (if b then serve_result h (written_at place payload memory) id Answer.Written else dropped_result memory))
      by_place true = (tt, (tt, tt))
      by_place false = (tt, tt)
  serve_low (Packet.Message to ep g m) = (tt, tt)
  serve_low (Packet.Credit id to g) = (tt, tt)
  serve_low (Packet.Answer id answer) = (tt, tt)
  serve_low (Packet.Install id to ep f) = (tt, tt)
  serve_low (Packet.Close id to ep g) = (tt, tt)

  pub memory_low : (q : Parcel) → LowDeed n (of_memory (memory_take h memory q))
  memory_low (Data p) = serve_low p
  memory_low (Save a) = (tt, tt)
  memory_low (Saved a c w e) = (tt, tt)
  memory_low (Restore a c xs) = (tt, tt)
  memory_low (Yield a) = (tt, tt)
  memory_low (Closed g) = (tt, tt)
