-- The memory at its site, and which packets it serves.
use Rattle.std.specs.Prelude.{ℕ, Bool, false, List, length}
use Rattle.m3_base.specs.declared.packet.Packet.{Packet}
use Rattle.m3_model.specs.Config.Site.{Site}
use Rattle.m3_model.specs.Memory.Step.{may_serve}

-- its bytes and the site that it works at
pub record MemoryAt : Type 0 where
  pub site : Site
  pub memory : List ℕ

abbrev pub may_serve_packet : Site → List ℕ → Packet → Bool
may_serve_packet h memory (Packet.Read id g place buffer) = may_serve h memory id place (length buffer)
may_serve_packet h memory (Packet.Write id g place payload) = may_serve h memory id place (length payload)
may_serve_packet h memory p = false
