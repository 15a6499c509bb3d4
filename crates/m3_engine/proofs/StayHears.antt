-- What a stay's program hears of an answer.
use Rattle.std.proofs.Common.{◌≡◌, true, false, List, [], ◌∷◌, length, refl, sym, ap, arith}
use Rattle.std.specs.Prelude.{if◌then◌else◌, ◌==◌, not, is_some, slice_get}
use Rattle.std.proofs.lemmas.Bool.Decides.{nat_tests}
use Rattle.m3_base.specs.declared.message.Message.{Message}
use Rattle.m3_base.specs.declared.packet.Packet.{Packet}
use Rattle.m3_base.specs.declared.ids.FlightId.{FlightId}
use Rattle.m3_base.specs.declared.command.Answer.{Answer}
use Rattle.m3_base.specs.Ideal.Context.{Endpoint, Free, Sends, Receives, Reaches}
use Rattle.m3_base.specs.Ideal.EndpointStep.{oldest_at}
use Rattle.m3_base.specs.Ideal.Step.{has_unread}
use Rattle.m3_base.specs.Journal.Replies.{reply_of}
use Rattle.m3_model.specs.LocalStep.{heard_in_answer}
use Rattle.m3_model.specs.Parcel.{Heard}
use Rattle.m3_model.specs.Tile.State.{First, Awake, Got, Waits, Resident, Seen}
use Rattle.m3_model.specs.Tile.Step.{resident_after_answers, seen_after_answer}
use Rattle.m3_engine.specs.StayView.{is_waiting_for}

pub unread_by_front : (e : Endpoint) → is_some (oldest_at e) ≡ has_unread e
unread_by_front Free = refl
unread_by_front (Sends r) = refl
unread_by_front (Reaches r) = refl
unread_by_front (Receives r) = by_list r.unread
  where
    by_list : (ms : List Message) → is_some (slice_get ms 0) ≡ not (length ms == 0)
    by_list [] = refl
    by_list (m ∷ ms) = grind (arith, nat_tests)

pub hears_it : (s : Seen) (x : Heard) → is_waiting_for x.number s ≡ true → seen_after_answer s x ≡ Got (reply_of x.answer)
hears_it (Waits n) x e = ap (λ b. if b then Got (reply_of x.answer) else Waits n) e
hears_it First x e = absurd (cc)
hears_it Awake x e = absurd (cc)
hears_it (Got r) x e = absurd (cc)

pub hears_not : (s : Seen) (x : Heard) → is_waiting_for x.number s ≡ false → seen_after_answer s x ≡ s
hears_not (Waits n) x e = ap (λ b. if b then Got (reply_of x.answer) else Waits n) e
hears_not First x e = refl
hears_not Awake x e = refl
hears_not (Got r) x e = refl

-- an answer that isn't waited for changes nothing
pub deaf_to : (y : Resident) (id : FlightId) (answer : Answer) → is_waiting_for id.number y.seen ≡ false → y ≡ resident_after_answers (heard_in_answer (Packet.Answer id answer)) y
deaf_to y id answer e = ap (λ s. record y { seen = s }) (sym (hears_not y.seen (record { number = id.number; answer = answer }) e))
