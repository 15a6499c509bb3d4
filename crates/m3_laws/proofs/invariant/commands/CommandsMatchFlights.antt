-- Commands and packets stand one for one.
use Rattle.std.proofs.Common.{◌≡◌, ℕ, Bool, true, false, List, Some, None, refl, sym, subst, ◌∙◌, ap}
use Rattle.std.specs.Prelude.{Option, ◌==◌, if◌then◌else◌}
use Rattle.m3_base.specs.declared.ids.FlightId.{FlightId}
use Rattle.m3_base.specs.declared.packet.Packet.{Packet}
use Rattle.m3_base.specs.Ideal.Flights.{flight, name_of}
use Rattle.m3_base.specs.Ideal.Context.{Kind, Sending, Replying, Reading, Writing, Flying, Endpoint, Context, endpoint}
use Rattle.m3_base.specs.Ideal.Landing.{flying_at}
use Rattle.m3_base.specs.Ideal.State.{State, context_of}
use Rattle.m3_laws.specs.WellFormed.{use_by, use_in, use_of, expects, uses_send, uses_reply}
use Rattle.m3_laws.specs.Invariant.{Invariant, InvariantMatches}
use Rattle.m3_laws.specs.CommandFlights.{AreZeros, IsFlightOf, HasFlight, CommandOf, HasCommand}
use Rattle.m3_base.proofs.FlightNames.{name_found}
use Rattle.m3_base.proofs.Activities.{act_found}

-- no packet of a command is expected where no command is
unexpected : (p : Packet) → expects None p ≡ true → (cs : List Context) → HasCommand cs p
unexpected (Packet.Message to ep h m) e cs = absurd (by_flags (m.header.flags == 0) e)
  where
    by_flags : (b : Bool) → (if b then uses_send m.header.send None else uses_reply None) ≡ true → ⊥
    by_flags true z = cc
    by_flags false z = cc
unexpected (Packet.Read id h place buffer) e cs = absurd (cc)
unexpected (Packet.Write id h place payload) e cs = absurd (cc)
unexpected (Packet.Answer id answer) e cs = absurd (cc)
unexpected (Packet.Credit id to h) e cs = tt
unexpected (Packet.Install id to ep f) e cs = tt
unexpected (Packet.Close id to ep h) e cs = tt

has_command : (cs : List Context) (p : Packet) → CommandOf cs p → HasCommand cs p
has_command cs (Packet.Message to ep h m) c = c
has_command cs (Packet.Read id h place buffer) c = c
has_command cs (Packet.Write id h place payload) c = c
has_command cs (Packet.Answer id answer) c = c
has_command cs (Packet.Credit id to h) c = tt
has_command cs (Packet.Install id to ep f) c = tt
has_command cs (Packet.Close id to ep h) c = tt

zeros_of : (k : Kind) (t : ℕ) (e : Endpoint) (x : FlightId) (h place : ℕ) (buffer : List ℕ) → IsFlightOf k t e (Packet.Read x h place buffer) → AreZeros buffer
zeros_of Reading t e x h place buffer z = z.1
zeros_of Sending t e x h place buffer z = absurd z
zeros_of Replying t e x h place buffer z = absurd z
zeros_of Writing t e x h place buffer z = absurd z

module _ (s : State) (law : Invariant s) where
  packet_command : (id : FlightId) (p : Packet) → flight id s.flights ≡ Some p → HasCommand s.contexts p
  packet_command id p find = by_context (context_of id.issuer s.contexts) refl
    where
      name : id ≡ name_of p
      name = name_found id p s.flights find

      expected : expects (use_of s.contexts id) p ≡ true
      expected = subst (λ z. expects (use_of s.contexts z) p ≡ true) (sym name) (law.proper.packets id p find).command

      by_flying : (c : Context) → context_of id.issuer s.contexts ≡ Some c → (o : Option Flying) → flying_at id.number c.flying ≡ o → HasCommand s.contexts p
      by_flying c at None e =
          let none : use_of s.contexts id ≡ None = ap (use_in id.number) at ∙ ap (use_by c) e in
          unexpected p (subst (λ z. expects z p ≡ true) none expected) s.contexts
      by_flying c at (Some f) e =
          let own : id.issuer ≡ c.act = act_found id.issuer c s.contexts at in
          let here : flight (record { issuer = c.act; number = id.number }) s.flights ≡ Some p = ap (λ z. flight (record { issuer = z; number = id.number }) s.flights) (sym own) ∙ find in
          has_command s.contexts p (
          record {
            context = c;
            command = f;
            issuer = subst (λ z. context_of z.issuer s.contexts ≡ Some c) name at;
            flies = subst (λ z. flying_at z.number c.flying ≡ Some f) name e;
            flight = subst (HasFlight f (endpoint c f.ep)) here (law.commands.flights id.issuer c at id.number f e);
          }
          )

      by_context : (o : Option Context) → context_of id.issuer s.contexts ≡ o → HasCommand s.contexts p
      by_context None e = unexpected p (subst (λ z. expects z p ≡ true) (ap (use_in id.number) e) expected) s.contexts
      by_context (Some c) e = by_flying c e (flying_at id.number c.flying) refl

pub commands_match : InvariantMatches
commands_match s law = record {
  distinct = law.lawful.placed.distinct;
  commands = law.commands.flights;
  packets = packet_command s law;
  reads = λ id x h place buffer find.
      let c = packet_command s law id (Packet.Read x h place buffer) find in
      zeros_of c.command.kind c.command.token (endpoint c.context c.command.ep) x h place buffer c.flight;
  marks = λ a c e. (law.commands.contexts a c e).marks;
}
