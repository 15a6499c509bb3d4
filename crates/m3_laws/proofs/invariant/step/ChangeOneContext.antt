-- One context and one flight change at a time.
use Rattle.std.proofs.Common.{◌≡◌, ◌≢◌, ℕ, ◌+◌, Bool, true, false, List, [], ◌∷◌, Some, None, refl, ◌∙◌, ap, arith}
use Rattle.std.specs.Prelude.{Option, ◌&&◌}
use Rattle.std.proofs.lemmas.Bool.Decides.{nat_tests}
use Rattle.m3_base.specs.declared.ids.FlightId.{FlightId}
use Rattle.m3_base.specs.declared.packet.Packet.{Packet}
use Rattle.m3_base.specs.Lists.Counting.{total, one, how_many}
use Rattle.m3_base.specs.Ideal.Flights.{name_of, same_name, name_before, flight, end_flight}
use Rattle.m3_base.specs.Ideal.Context.{Flying, Context}
use Rattle.m3_base.specs.Ideal.Landing.{flying_at}
use Rattle.m3_base.specs.Ideal.State.{context_of, put_context, act_of, same_act, act_before}
use Rattle.m3_base.specs.Ideal.Step.{with_packet}
use Rattle.m3_base.specs.Ideal.Credits.{gives_back_by, gives_back_in, is_refusal, carries_credit, queued_credits}
use Rattle.m3_base.proofs.KeyedList.{total-replaced, total-inserted, total-without, how_many-without, how_many-inserted, find-replaced_other, find-replaced_same}
use Rattle.m3_laws.proofs.credits.EndpointWeights.{context_weight}
use Rattle.m3_laws.proofs.credits.Issue.{bears, packet_weight}
use Rattle.m3_laws.proofs.invariant.step.IssueEffects.{EachSafe, OwnBack, NewPacket}
use Rattle.m3_base.specs.Ideal.FlightNames.{Apart, Distinct}
use Rattle.m3_base.proofs.FlightNames.{ended}
use Rattle.m3_laws.specs.CommandRecord.{CommandsHaveRecords, CommandHasRecord}
use Rattle.m3_base.proofs.Activities.{same_act-is, same_act-itself, same_act-joins}

-- c becomes d, and only the flying command n may change
pub record Moves (n : ℕ) (c d : Context) : Type 0 where
  pub act : d.act ≡ c.act
  pub each : EachSafe c.endpoints d.endpoints
  pub others : (k : ℕ) → k ≢ n → flying_at k d.flying ≡ flying_at k c.flying

back_of : (g : ℕ) (c d : Context) → EachSafe c.endpoints d.endpoints → (o : Option Flying) → CommandHasRecord c o → gives_back_by g d o ≡ gives_back_by g c o
back_of g c d each None h = refl
back_of g c d each (Some f) h = (each f.ep).back f.kind f.token h g

pub back_moved : (g n k : ℕ) (c d : Context) → Moves n c d → CommandsHaveRecords c → k ≢ n → gives_back_by g d (flying_at k d.flying) ≡ gives_back_by g c (flying_at k c.flying)
back_moved g n k c d m s ne = ap (gives_back_by g d) (m.others k ne) ∙ back_of g c d m.each (flying_at k c.flying) (s k)

-- what other commands get back stays the same
pub record Moved (n : ℕ) (c d : Context) : Type 0 where
  pub act : d.act ≡ c.act
  pub back : (g k : ℕ) → k ≢ n → gives_back_by g d (flying_at k d.flying) ≡ gives_back_by g c (flying_at k c.flying)

pub moved_back : (n : ℕ) (c d : Context) → Moves n c d → CommandsHaveRecords c → Moved n c d
moved_back n c d m s = record { act = m.act; back = λ g k ne. back_moved g n k c d m s ne }

pub back_in_moved : (g n : ℕ) (id : FlightId) (cs : List Context) (c d : Context) → Moved n c d → context_of d.act cs ≡ Some c → same_name (record { issuer = d.act; number = n }) id ≡ false → (b : Bool) → same_act id.issuer d.act ≡ b → gives_back_in g id.number (context_of id.issuer (put_context d cs)) ≡ gives_back_in g id.number (context_of id.issuer cs)
back_in_moved g n id cs c d m at ne false e = rw (find-replaced_other act_of same_act act_before id.issuer d cs same_act-joins e) refl
back_in_moved g n id cs c d m at ne true e =
    rw (same_act-is id.issuer d.act e, find-replaced_same act_of same_act act_before d c cs (same_act-itself d.act) at, at) (
    m.back g id.number (λ h. grind (arith, nat_tests, e, ne, h))
    )

pub carries_moved : (g n : ℕ) (cs : List Context) (c d : Context) → Moved n c d → context_of d.act cs ≡ Some c → (p : Packet) → same_name (record { issuer = d.act; number = n }) (name_of p) ≡ false → carries_credit g (put_context d cs) p ≡ carries_credit g cs p
carries_moved g n cs c d m at (Packet.Answer id answer) ne = ap (λ b. is_refusal answer && b) (back_in_moved g n id cs c d m at ne (same_act id.issuer d.act) refl)
carries_moved g n cs c d m at (Packet.Message to ep h x) ne = refl
carries_moved g n cs c d m at (Packet.Credit id to h) ne = refl
carries_moved g n cs c d m at (Packet.Read id h place buffer) ne = refl
carries_moved g n cs c d m at (Packet.Write id h place payload) ne = refl
carries_moved g n cs c d m at (Packet.Install id to ep f) ne = refl
carries_moved g n cs c d m at (Packet.Close id to ep h) ne = refl

pub how_many-apart : (p q : Packet → Bool) (id : FlightId) → ((x : Packet) → same_name id (name_of x) ≡ false → p x ≡ q x) → (fs : List Packet) → Apart id fs → how_many p fs ≡ how_many q fs
how_many-apart p q id h [] a = refl
how_many-apart p q id h (x ∷ fs) a = by_name (same_name id (name_of x)) refl (how_many-apart p q id h fs)
  where
    by_name : (b : Bool) → same_name id (name_of x) ≡ b → (Apart id fs → how_many p fs ≡ how_many q fs) → how_many p (x ∷ fs) ≡ how_many q (x ∷ fs)
    by_name true e ih = absurd (grind (arith, a, e))
    by_name false e ih = let y = h x e in let z = ih (grind (arith, a, e)) in grind (arith, y, z)

-- ---- a state's credits, where a command is issued

plain : (g : ℕ) (cs : List Context) (d : Context) (o : Option Flying) (p : Packet) → OwnBack d o p → (queued_credits g p ≡ 0) × (carries_credit g cs p ≡ bears g p)
plain g cs d o (Packet.Message to ep h x) own = (refl, refl)
plain g cs d o (Packet.Credit id to h) own = (refl, refl)
plain g cs d o (Packet.Read id h place buffer) own = (refl, refl)
plain g cs d o (Packet.Write id h place payload) own = (refl, refl)
plain g cs d o (Packet.Answer id answer) own = absurd own
plain g cs d o (Packet.Install id to ep f) own = absurd own
plain g cs d o (Packet.Close id to ep h) own = absurd own

pub credits_issued : (g n : ℕ) (cs : List Context) (fs : List Packet) (c d : Context) (mp : Option Packet) → Moved n c d → context_of d.act cs ≡ Some c → Apart (record { issuer = d.act; number = n }) fs → NewPacket c d mp → context_weight g d + packet_weight g mp ≡ context_weight g c →
    total (context_weight g) (put_context d cs) + total (queued_credits g) (with_packet mp fs) + how_many (carries_credit g (put_context d cs)) (with_packet mp fs) ≡ total (context_weight g) cs + total (queued_credits g) fs + how_many (carries_credit g cs) fs
credits_issued g n cs fs c d None m at apart new w =
    omega (
      arith,
      w,
      total-replaced act_of same_act act_before (context_weight g) d c cs at,
      how_many-apart (carries_credit g (put_context d cs)) (carries_credit g cs) (record { issuer = d.act; number = n }) (carries_moved g n cs c d m at) fs apart,
    )
credits_issued g n cs fs c d (Some p) m at apart new w =
    let facts = plain g (put_context d cs) d (flying_at c.next d.flying) p new.1 in
    omega (
      arith,
      w,
      facts.0,
      ap one facts.1,
      total-replaced act_of same_act act_before (context_weight g) d c cs at,
      total-inserted name_of same_name name_before (queued_credits g) p fs,
      how_many-inserted name_of same_name name_before (carries_credit g (put_context d cs)) p fs,
      how_many-apart (carries_credit g (put_context d cs)) (carries_credit g cs) (record { issuer = d.act; number = n }) (carries_moved g n cs c d m at) fs apart,
    )

-- ---- where a flight ends

pub credits_ended : (g : ℕ) (id : FlightId) (cs : List Context) (fs : List Packet) (c d : Context) (p : Packet) → Moved id.number c d → d.act ≡ id.issuer → context_of d.act cs ≡ Some c → flight id fs ≡ Some p → Distinct fs → queued_credits g p ≡ 0 → context_weight g d ≡ context_weight g c + one (carries_credit g cs p) →
    total (context_weight g) (put_context d cs) + total (queued_credits g) (end_flight id fs) + how_many (carries_credit g (put_context d cs)) (end_flight id fs) ≡ total (context_weight g) cs + total (queued_credits g) fs + how_many (carries_credit g cs) fs
credits_ended g id cs fs c d p m a at find ds z w =
    let apart : Apart (record { issuer = d.act; number = id.number }) (end_flight id fs) = rw a (ended id fs ds) in
    omega (
      arith,
      w,
      z,
      total-replaced act_of same_act act_before (context_weight g) d c cs at,
      total-without name_of same_name name_before (queued_credits g) id p fs find,
      how_many-without name_of same_name name_before (carries_credit g cs) id p fs find,
      how_many-apart (carries_credit g (put_context d cs)) (carries_credit g cs) (record { issuer = d.act; number = id.number }) (carries_moved g id.number cs c d m at) (end_flight id fs) apart,
    )
