-- The run of 20 bytes in chunks of 16 over a ring of 2 keeps all premises of the pipe theorem, and all bytes come through.
use Rattle.std.proofs.Common.{◌≡◌, true, refl, arith}
use Rattle.m3_base.specs.Ideal.Opening.{opening}
use Rattle.m3_base.specs.Setup.Rules.{SetupValue, IsValid}
use Rattle.m3_pipe_laws.specs.Protocol.{writer_step, reader_step}
use Rattle.m3_pipe_laws.specs.Pipe.{writer_player, reader_player}
use Rattle.m3_pipe_laws.specs.Rows.{writer_1, reader_1, setup_p1, p1}
use Rattle.m3_pipe_laws.proofs.Rows.Tests.{are_moves, all_quiet, no_orders}

abbrev pub p1_setup : SetupValue
p1_setup = record { tiles = 4; memory = 64; lines = setup_p1 }

pub p1_valid : IsValid p1_setup
p1_valid = record {
  machine = refl;
  lines = (refl, (omega arith, (refl, (omega arith, (refl, ((omega arith, omega arith), (refl, ((omega arith, omega arith), (refl, ((omega arith, omega arith), (refl, ((omega arith, omega arith), (refl, ((omega arith, omega arith), tt))))))))))))));
}

pub p1_no_orders : no_orders p1.steps ≡ true
p1_no_orders = refl

pub p1_quiet : all_quiet 0 (opening 64 setup_p1) p1.steps ≡ true
p1_quiet = refl

pub p1_writes : are_moves (writer_step writer_1) 0 (writer_player writer_1) (opening 64 setup_p1) p1.steps ≡ true
p1_writes = refl

pub p1_reads : are_moves (reader_step reader_1) 1 (reader_player reader_1) (opening 64 setup_p1) p1.steps ≡ true
p1_reads = refl
