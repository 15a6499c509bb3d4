-- A stay as contracts see it, and what its program hears.
use Rattle.std.specs.Prelude.{◌≡◌, ℕ, ◌<◌, Bool, false, ◌==◌, List, length, slice_get, slice_set, Option, Some, None}
use Rattle.m3_base.specs.declared.packet.Packet.{Packet}
use Rattle.m3_base.specs.declared.program.Seen.{Seen as ProgramSeen}
use Rattle.m3_base.specs.Ideal.State.{same_act}
use Rattle.m3_base.specs.Lists.Keyed as keyed
use Rattle.m3_core.specs.declared.parcel.Heard.{Heard}
use Rattle.m3_kernel.specs.ParcelView.{heard_in}
use Rattle.m3_model.specs.LocalStep.{heard_in_answer}
use Rattle.m3_model.specs.Parcel.{Heard as HeardValue}
use Rattle.m3_model.specs.Tile.State.{First, Awake, Got, Waits, Resident, Seen}
use Rattle.m3_model.specs.Tile.Step.{resident_act, resident_after_answers}
use Rattle.m3_engine.specs.declared.stay.Hearing.{Hearing}
use Rattle.m3_engine.specs.declared.stay.Stay.TheInside.{Inside}

abbrev pub seen_value : Hearing → Seen
seen_value (Hearing.Known ProgramSeen.First) = First
seen_value (Hearing.Known (ProgramSeen.Answer r)) = Got r
seen_value (Hearing.Known ProgramSeen.Awake) = Awake
seen_value (Hearing.Waits n) = Waits n

abbrev pub stay_value : Inside → Resident
stay_value y = record {
  act = y.act;
  pending = y.pending;
  ended = y.ended;
  moves = y.moves;
  yield_sent = y.yield_sent;
  seen = seen_value y.hearing;
}

-- ---- what is heard

-- the program waits for the answer to the command of this number
abbrev pub is_waiting_for : ℕ → Seen → Bool
is_waiting_for n (Waits k) = k == n
is_waiting_for n seen = false

-- all that the program hears of the packet
abbrev pub HearsOf : Packet → Resident → Option Heard → Type 0
HearsOf p y heard = resident_after_answers (heard_in heard) y ≡ resident_after_answers (heard_in_answer p) y

-- ---- stays in a list

abbrev pub stay_in : ℕ → List Resident → Option Resident
stay_in a ys = keyed.find resident_act same_act a ys

abbrev pub with_stay : Resident → List Resident → List Resident
with_stay y ys = keyed.with_replaced resident_act same_act y ys

-- the activity's stay is at this place
pub record IsStayAt (ys : List Resident) (a at : ℕ) : Type 0 where
  pub within : at < length ys
  pub stay : Resident
  pub here : slice_get ys at ≡ Some stay
  pub act : stay.act ≡ a
  pub found : stay_in a ys ≡ Some stay
  pub set : (z : Resident) → z.act ≡ a → with_stay z ys ≡ slice_set ys at z

abbrev pub StayPlaceIs : List Resident → ℕ → Option ℕ → Type 0
StayPlaceIs ys a None = stay_in a ys ≡ None
StayPlaceIs ys a (Some at) = IsStayAt ys a at

abbrev pub replaced_if : (Resident → Resident) → Option Resident → List Resident → List Resident
replaced_if f None ys = ys
replaced_if f (Some y) ys = with_stay (f y) ys

-- the stays where the activity's program has heard this
abbrev pub stays_after_answers : List HeardValue → ℕ → List Resident → List Resident
stays_after_answers xs a ys = replaced_if (resident_after_answers xs) (stay_in a ys) ys
