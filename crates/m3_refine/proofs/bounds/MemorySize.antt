-- Each step keeps the memory's size, and at the opening it is what the setup says.
use Rattle.std.proofs.Common.{◌≡◌, ℕ, ◌+◌, Bool, true, false, List, [], ◌∷◌, length, Option, Some, refl, sym, ◌∙◌, ap, arith}
use Rattle.std.specs.Prelude.{if◌then◌else◌, ◌&&◌, nat_le}
use Rattle.std.proofs.lemmas.Bool.Decides.{nat_tests}
use Rattle.std.proofs.lemmas.List.{length-replicate}
use Rattle.m3_base.specs.declared.command.Answer.{Answer}
use Rattle.m3_base.specs.declared.packet.Packet.{Packet}
use Rattle.m3_base.specs.declared.event.Event.{Event}
use Rattle.m3_base.specs.declared.event.Made.{Made}
use Rattle.m3_base.specs.declared.setup_line.SetupLine.{SetupLine}
use Rattle.m3_base.specs.Ideal.Landing.{bytes_at, written_at}
use Rattle.m3_base.specs.Ideal.Opening.{opening}
use Rattle.m3_base.specs.Ideal.State.{State, context_of}
use Rattle.m3_base.proofs.MemorySize.{length-written_at, memory-with_lines}
use Rattle.m3_model.specs.Config.FromSetup.{site_of}
use Rattle.m3_model.specs.Config.KnownActivities.{is_home}
use Rattle.m3_model.specs.Config.Site.{Home, Site}
use Rattle.m3_model.specs.Parcel.{Parcel, Data, Save, Saved, Restore, Yield, Closed}
use Rattle.m3_model.specs.LocalStep.{dropped_result}
use Rattle.m3_model.specs.Memory.Step.{may_serve, memory_take, serve, serve_result}
use Rattle.m3_model.specs.Machine.{Machine, MachineResult, context_or_new, entry_at_opening, machine_step, opened_machine, tile_at, with_entries}
use Rattle.m3_model.specs.MemorySize.{HasMemorySize}
use Rattle.m3_refine.proofs.bounds.PartStep.{KeptByParts, step_keeps}
use Rattle.m3_refine.proofs.opening.OpensRefines.{first_machine}
use Rattle.m3_refine.proofs.opening.OpensSound.{site_is}

-- ---- the memory's step

module _ (h : Site) (n : ℕ) where
  abbrev HasSize : List ℕ → Type 0
  HasSize x = length x ≡ n

  serve_sized : (x : List ℕ) (p : Packet) → HasSize x → HasSize (serve h x p).part
  serve_sized x (Packet.Read id g place buffer) l = by_test (may_serve h x id place (length buffer))
    where
      by_test : (b : Bool) → HasSize (if b then serve_result h x id (Answer.Bytes (bytes_at place (length buffer) x)) else dropped_result x).part
      by_test true = l
      by_test false = l
  serve_sized x (Packet.Write id g place payload) l = by_test (may_serve h x id place (length payload)) refl
    where
      by_test : (b : Bool) → (is_home h id.issuer && nat_le (place + length payload) (length x)) ≡ b → HasSize (if b then serve_result h (written_at place payload x) id Answer.Written else dropped_result x).part
      by_test true e = length-written_at place payload x (let z : nat_le (place + length payload) (length x) ≡ true = both (is_home h id.issuer) (nat_le (place + length payload) (length x)) e in grind (arith, nat_tests, z)) ∙ l
        where
          both : (a b : Bool) → (a && b) ≡ true → b ≡ true
          both true b e = e
          both false b e = absurd (cc)
      by_test false e = l
  serve_sized x (Packet.Message to ep g m) l = l
  serve_sized x (Packet.Credit id to g) l = l
  serve_sized x (Packet.Answer id answer) l = l
  serve_sized x (Packet.Install id to ep f) l = l
  serve_sized x (Packet.Close id to ep g) l = l

  take_sized : (x : List ℕ) (q : Parcel) → HasSize x → HasSize (memory_take h x q).part
  take_sized x (Data p) l = serve_sized x p l
  take_sized x (Save a) l = l
  take_sized x (Saved a c w e) l = l
  take_sized x (Restore a c xs) l = l
  take_sized x (Yield a) l = l
  take_sized x (Closed g) l = l

  parts_sized : KeptByParts h (λ k. Unit {0}) (λ k. Unit {0}) (λ x. length x ≡ n)
  parts_sized = record {
    idle = λ k l. tt;
    take = λ k q l. tt;
    tend = λ k a l. tt;
    close = λ k l. tt;
    order = λ k o l. tt;
    memory = take_sized;
  }

-- each step keeps the memory's size
pub memory_kept : (h : Site) (m : Machine) (e : Event) (made : Option Made) (d : MachineResult) → HasMemorySize h m → machine_step h m e made ≡ Some d → HasMemorySize h d.machine
memory_kept h m e made d size is = (step_keeps h (λ k. Unit {0}) (λ k. Unit {0}) (λ x. length x ≡ h.memory) (parts_sized h h.memory) m e made tt size d is).1

-- ---- at opening

entries_memory : (s : State) (xs : List Home) (m : Machine) → (with_entries s m xs).memory ≡ m.memory
entries_memory s [] m = refl
entries_memory s (x ∷ xs) m = entries_memory s xs (entry_at_opening x (context_or_new x.act (context_of x.act s.contexts)) (tile_at x.tile m) m)

-- at the opening its size is what the setup says
pub memory_at_opening : (memory : ℕ) (programs : List ℕ) (lines : List SetupLine) → HasMemorySize (site_of memory programs lines) (opened_machine memory programs lines)
memory_at_opening memory programs lines =
    let first : Site = record { homes = []; quantum = 8; memory = memory } in
    let s = opening memory lines in
    ap length (entries_memory s (site_of memory programs lines).homes (first_machine s) ∙ memory-with_lines (opening memory []) lines)
    ∙ length-replicate memory 0
    ∙ sym (ap (λ (x : Site). x.memory) (site_is programs first lines))
