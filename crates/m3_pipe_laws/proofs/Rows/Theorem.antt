-- The pipe theorem says something: a run keeps all its premises.
use Rattle.std.proofs.Common.{◌≡◌, ◌≢◌, ℕ, false, [], Some, refl, arith}
use Rattle.m3_base.specs.Ideal.Context.{MemoryRecord}
use Rattle.m3_base.specs.declared.packet.Perm.{Perm}
use Rattle.m3_base.specs.Ideal.State.{Grant, grant_in, parent_of}
use Rattle.m3_base.specs.Ideal.Opening.{opening}
use Rattle.m3_pipe_laws.specs.Protocol.{writer_step, reader_step}
use Rattle.m3_pipe_laws.specs.Pipe.{Pipe, writer_player, reader_player, Delivers}
use Rattle.m3_pipe_laws.specs.Rows.{writer_1, reader_1, setup_p1, p1}
use Rattle.m3_pipe_laws.proofs.Rows.Tests.{plays_by, outside_by, makes_by, fit_by, under_none, under_only, in_slice}
use Rattle.m3_pipe_laws.proofs.Rows.TwentyBytes.{p1_setup, p1_valid, p1_no_orders, p1_quiet, p1_writes, p1_reads}
use Rattle.m3_pipe_laws.proofs.Runs.WholeRuns.{pipes_by_steps}
use Rattle.m3_pipe_laws.proofs.Runs.Steps.{step_stays}
use Rattle.m3_pipe_laws.proofs.Runs.Opening.{opening_stays}

pub p1_out : MemoryRecord
p1_out = record { grant = 1; start = 0; length = 32; perm = Perm.Rw; closing = false }

p1_only : (g : ℕ) (x : Grant) → grant_in (opening 64 setup_p1).grants g ≡ Some x → parent_of x.line ≡ Some 3 → g ≡ 5
p1_only g x at z =
    let j = in_slice (opening 64 setup_p1).grants g x at in
    let n = under_only 3 5 1 (opening 64 setup_p1).grants j.0 x refl j.1.0 z in
    let m = j.1.1 in
    omega (arith, n, m)

p1_none : (g : ℕ) (x : Grant) → grant_in (opening 64 setup_p1).grants g ≡ Some x → parent_of x.line ≢ Some 4
p1_none g x at = let j = in_slice (opening 64 setup_p1).grants g x at in under_none 4 (opening 64 setup_p1).grants j.0 x refl j.1.0

pub p1_pipe : Pipe 64 setup_p1 p1.steps 0 1 writer_1 reader_1
p1_pipe = record {
  apart = λ z. absurd (cc);
  numbers = record { chunk = refl; ring = refl; chunk_least = omega arith; chunk_most = omega arith; ring_least = omega arith; ring_most = omega arith; bytes_most = omega arith };
  out = record { grant = 1; start = 0; length = 32; perm = Perm.Rw; closing = false };
  into = record { grant = 2; start = 0; length = 32; perm = Perm.R; closing = false };
  notices = record { grant = 5; to = 1; to_ep = 1; to_grant = 3; label = 1; size = 8; limit = 2; held = 2; closing = false };
  inbox = record { grant = 3; slots = 2; size = 8; unread = []; fetched = []; next_token = 0; closing = false };
  replies = record { grant = 4; slots = 2; size = 4; unread = []; fetched = []; next_token = 0; closing = false };
  out_at = refl;
  into_at = refl;
  notices_at = refl;
  inbox_at = refl;
  replies_at = refl;
  same_start = refl;
  out_length = omega arith;
  into_length = omega arith;
  inside = omega arith;
  target = refl;
  only_child = p1_only;
  no_child = p1_none;
  makes = makes_by 0 1 writer_1 reader_1 3 4 p1.steps p1_no_orders;
  outside = outside_by 0 0 32 (opening 64 setup_p1) p1.steps p1_quiet;
  writes = plays_by (writer_step writer_1) 0 (writer_player writer_1) (opening 64 setup_p1) p1.steps p1_writes;
  reads = plays_by (reader_step reader_1) 1 (reader_player reader_1) (opening 64 setup_p1) p1.steps p1_reads;
}

-- so the theorem holds of it, and what comes is not nothing: by row_p1 put and taken are its 20 bytes
pub p1_comes : Delivers 64 setup_p1 p1.steps 0 1 writer_1 reader_1
p1_comes = pipes_by_steps step_stays opening_stays p1_setup p1.steps 0 1 writer_1 reader_1 p1_valid (fit_by p1.steps p1_no_orders) p1_pipe
