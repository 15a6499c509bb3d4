-- One step of a part: its outcome, what the part is then, and what it sends.
use Rattle.std.specs.Prelude.{ℕ, List, [], ◌∷◌, Option, Some, None}
use Rattle.m3_base.specs.declared.packet.Packet.{Packet}
use Rattle.m3_base.specs.declared.event.Made.{Made}
use Rattle.m3_base.specs.declared.event.Said.{Said}
use Rattle.m3_base.specs.declared.event.IdleWhy.{IdleWhy}
use Rattle.m3_base.specs.declared.event.Outcome.{Outcome}
use Rattle.m3_base.specs.Placement.Routing.{target}
use Rattle.m3_model.specs.Config.Site.{Site, tile_for}
use Rattle.m3_model.specs.Parcel.{Closed, Data, Heard, Parcel}

-- ---- one step of a part

-- its outcome, what the part is then, and the parcels that it emits, each with its tile
pub record LocalResult (S : Type 0) : Type 0 where
  pub outcome : Outcome
  pub part : S
  pub out : List (ℕ × Parcel)

module _ {S : Type 0} where
  abbrev pub local_result : Said → S → List (ℕ × Parcel) → LocalResult S
  local_result said s out = record { outcome = record { made = None; said = said; restore = None }; part = s; out = out }

  abbrev pub local_result_made : Made → Said → S → List (ℕ × Parcel) → LocalResult S
  local_result_made m said s out = record { outcome = record { made = Some m; said = said; restore = None }; part = s; out = out }

  abbrev pub idle_result : IdleWhy → S → LocalResult S
  idle_result why s = local_result (Said.Idle why) s []

  -- a parcel that doesn't fit
  abbrev pub dropped_result : S → LocalResult S
  dropped_result s = idle_result IdleWhy.EmptyLink s

-- the answer that arose, on its way
abbrev pub data_out : ℕ → Option Packet → List (ℕ × Parcel)
data_out t None = []
data_out t (Some p) = (t, Data p) ∷ []

abbrev pub closed_out : Option ℕ → List (ℕ × Parcel)
closed_out None = []
closed_out (Some g) = (0, Closed g) ∷ []

-- an answer goes to its issuer's home
abbrev pub answer_tile : Site → Option Packet → ℕ
answer_tile h None = 0
answer_tile h (Some p) = tile_for h (target p)

-- what is heard of a packet
abbrev pub heard_in_answer : Packet → List Heard
heard_in_answer (Packet.Answer id answer) = record { number = id.number; answer = answer } ∷ []
heard_in_answer p = []
