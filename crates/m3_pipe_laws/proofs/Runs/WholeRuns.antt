-- From one step to whole runs.
use Rattle.std.proofs.Common.{◌≡◌, ℕ, ◌*◌, ◌≤◌, List, [], ◌∷◌, ◌++◌, sym, subst, arith, append_assoc}
use Rattle.std.proofs.lemmas.List.{append-nil}
use Rattle.m3_base.specs.declared.step.Step.{Step}
use Rattle.m3_base.specs.Ideal.State.{State}
use Rattle.m3_base.specs.Ideal.Step.{ideal_step}
use Rattle.m3_base.specs.Ideal.MessageTraces.{state_after_steps}
use Rattle.m3_laws.specs.Laws.{AllFit}
use Rattle.m3_laws.specs.Invariant.{Invariant}
use Rattle.m3_laws.proofs.invariant.step.Invariant.{invariant_opening, invariant_after}
use Rattle.m3_pipe_laws.specs.Protocol.{WriterState, ReaderState, writer_step, reader_step}
use Rattle.m3_pipe_laws.specs.Pipe.{Player, player_after, player_along, Plays, written_bytes, written_bytes_at, last_bytes, read_bytes, read_bytes_at, AllOutside, AllMakesApart, PipesDeliver}
use Rattle.m3_base.specs.Lists.Prefixes.{IsPrefix}
use Rattle.m3_pipe_laws.specs.Ring.{pieces}
use Rattle.m3_pipe_laws.proofs.Invariant.Sides.{Sides, SidesOk}
use Rattle.m3_pipe_laws.proofs.Invariant.WholePipe.{PipeInvariant, StepsKeepPipe, OpeningHasPipe, sides_of}
use Rattle.m3_pipe_laws.proofs.Ring.Delivery.{pieces_more, pieces_data}

pub record Brings (e : Sides) (pr : Player ReaderState) (puts takes : List ℕ) : Type 0 where
  pub taken_put : IsPrefix takes puts
  pub put_bytes : IsPrefix puts e.writer.bytes
  pub has : pr.at.taken ≡ takes

stays_brings : (e : Sides) (s : State) (pw : Player WriterState) (pr : Player ReaderState) (last puts takes : List ℕ) → PipeInvariant e s pw pr last puts takes → Brings e pr puts takes
stays_brings e s pw pr last puts takes h =
    let ring = h.joined.ring in
    let least : h.marks.took ≤ h.marks.put = omega (arith, ring.took_most, ring.put_least, ring.ring.read_most) in
    record {
      taken_put = subst (λ z. IsPrefix z puts) (sym ring.takes) (subst (λ z. IsPrefix (pieces e.writer.chunk e.writer.bytes h.marks.took) z) (sym ring.puts) (pieces_more e.writer.chunk e.writer.bytes h.marks.took h.marks.put least));
      put_bytes = subst (λ z. IsPrefix z e.writer.bytes) (sym ring.puts) (pieces_data e.writer.chunk e.writer.bytes h.marks.put);
      has = sym h.joined.reader.taken;
    }

run_brings : StepsKeepPipe → (e : Sides) (s : State) (pw : Player WriterState) (pr : Player ReaderState) (last puts takes : List ℕ) (ts : List Step) → SidesOk e → Invariant s → AllFit ts → PipeInvariant e s pw pr last puts takes → AllMakesApart e.w e.r e.writer e.reader e.inbox.grant e.replies.grant ts → AllOutside e.w e.out.start (e.writer.ring * e.writer.chunk) s ts → Plays (writer_step e.writer) e.w pw s ts → Plays (reader_step e.reader) e.r pr s ts → Brings e (player_along (reader_step e.reader) e.r pr s ts) (puts ++ written_bytes e.w last s ts) (takes ++ read_bytes e.r s ts)
run_brings step e s pw pr last puts takes [] ok law fit h makes outside writes reads =
    subst (λ z. Brings e pr z (takes ++ [])) (sym (append-nil puts)) (subst (λ z. Brings e pr puts z) (sym (append-nil takes)) (stays_brings e s pw pr last puts takes h))
run_brings step e s pw pr last puts takes (t ∷ ts) ok law fit h makes outside writes reads =
    let next = step e s pw pr last puts takes t ok law h makes.0 outside.0 writes.0 reads.0 in
    let more = run_brings step e (state_after_steps s (ideal_step s t)) (player_after (writer_step e.writer) e.w pw t (ideal_step s t)) (player_after (reader_step e.reader) e.r pr t (ideal_step s t)) (last_bytes e.w last t) (puts ++ written_bytes_at e.w last t (ideal_step s t)) (takes ++ read_bytes_at e.r t (ideal_step s t)) ts ok (invariant_after s t fit.0 law) fit.1 next makes.1 outside.1 writes.1 reads.1 in
    subst (λ z. Brings e (player_along (reader_step e.reader) e.r pr s (t ∷ ts)) z (takes ++ read_bytes e.r s (t ∷ ts))) (append_assoc puts (written_bytes_at e.w last t (ideal_step s t)) (written_bytes e.w (last_bytes e.w last t) (state_after_steps s (ideal_step s t)) ts)) (subst (λ z. Brings e (player_along (reader_step e.reader) e.r pr s (t ∷ ts)) ((puts ++ written_bytes_at e.w last t (ideal_step s t)) ++ written_bytes e.w (last_bytes e.w last t) (state_after_steps s (ideal_step s t)) ts) z) (append_assoc takes (read_bytes_at e.r t (ideal_step s t)) (read_bytes e.r (state_after_steps s (ideal_step s t)) ts)) more)

-- with the step and the opening, the pipe theorem follows
pub pipes_by_steps : StepsKeepPipe → OpeningHasPipe → PipesDeliver
pipes_by_steps step open_stays setup steps w r writer reader valid fit p =
    let h = open_stays setup steps w r writer reader valid p in
    let ok : SidesOk (sides_of p) = record { apart = p.apart; numbers = p.numbers; same_start = p.same_start } in
    let b = run_brings step (sides_of p) _ _ _ [] [] [] steps ok (invariant_opening setup valid) fit h p.makes p.outside p.writes p.reads in
    record { taken_put = b.taken_put; put_bytes = b.put_bytes; has = b.has }
