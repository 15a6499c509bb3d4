-- The local step of the memory.
use Rattle.std.specs.Prelude.{ℕ, ◌+◌, Bool, ◌&&◌, nat_le, List, [], ◌∷◌, length, if◌then◌else◌}
use Rattle.m3_base.specs.declared.ids.FlightId.{FlightId}
use Rattle.m3_base.specs.declared.command.Answer.{Answer}
use Rattle.m3_base.specs.declared.packet.Packet.{Packet}
use Rattle.m3_base.specs.declared.event.Said.{Said}
use Rattle.m3_base.specs.Ideal.Landing.{bytes_at, written_at}
use Rattle.m3_model.specs.Config.KnownActivities.{is_home}
use Rattle.m3_model.specs.Config.Site.{Site, tile_of}
use Rattle.m3_model.specs.Parcel.{Parcel, Data}
use Rattle.m3_model.specs.LocalStep.{LocalResult, local_result, dropped_result}

-- the bytes lie inside memory, and an activity of the setup asks for them
abbrev pub may_serve : Site → List ℕ → FlightId → ℕ → ℕ → Bool
may_serve h memory id place size = is_home h id.issuer && nat_le (place + size) (length memory)

abbrev pub serve_result : Site → List ℕ → FlightId → Answer → LocalResult (List ℕ)
serve_result h memory id answer =
    local_result (Said.Landed id) memory ((tile_of h id.issuer, Data (Packet.Answer id answer)) ∷ [])

abbrev pub serve : Site → List ℕ → Packet → LocalResult (List ℕ)
serve h memory (Packet.Read id g place buffer) =
    if may_serve h memory id place (length buffer)
    then serve_result h memory id (Answer.Bytes (bytes_at place (length buffer) memory))
    else dropped_result memory
serve h memory (Packet.Write id g place payload) =
    if may_serve h memory id place (length payload)
    then serve_result h (written_at place payload memory) id Answer.Written
    else dropped_result memory
serve h memory p = dropped_result memory

abbrev pub memory_take : Site → List ℕ → Parcel → LocalResult (List ℕ)
memory_take h memory (Data p) = serve h memory p
memory_take h memory parcel = dropped_result memory
