-- Sources and sinks in memory as the code keeps them.
use Rattle.std.specs.Prelude.{◌≤◌, ◌<◌, drop, length, vec_capacity, Some, None, if◌then◌else◌}
use Rattle.m3_base.specs.declared.memory_streams.BytesSource.TheInside.{Inside}
use Rattle.m3_base.specs.declared.memory_streams.InfallibleSource.TheInside.{Inside as Sure}
use Rattle.m3_base.specs.declared.memory_streams.BytesSink.TheInside.{Inside as Sink}
use Rattle.m3_base.specs.declared.memory_streams.InfallibleSink.TheInside.{Inside as OpenSink}
use Rattle.m3_base.specs.Io.MemoryStreams.{Giving, Taking, SureGiving, SureTaking}

abbrev pub source_value : Inside → Giving
source_value s =
    record { left = drop s.at s.bytes.items; most = s.most; fails = s.fails.items; calls = s.calls; faults = s.faults }

pub record IsSource (s : Inside) : Type 0 where
  pub at : s.at ≤ length s.bytes.items
  pub most : 0 < s.most

abbrev pub sure_source_value : Sure → SureGiving
sure_source_value s = record { left = drop s.at s.bytes.items; most = s.most }

pub record IsSureSource (s : Sure) : Type 0 where
  pub at : s.at ≤ length s.bytes.items
  pub most : 0 < s.most

abbrev pub sink_value : Sink → Taking
sink_value s =
    record { written = s.bytes.items; room = s.room; most = s.most; fails = s.fails.items; calls = s.calls; faults = s.faults }

pub record IsSink (s : Sink) : Type 0 where
  pub room : s.room ≤ vec_capacity s.bytes
  pub within : length s.bytes.items ≤ s.room
  pub most : 0 < s.most

abbrev pub sure_sink_value : OpenSink → SureTaking
sure_sink_value s = record { written = if s.passed then None else Some s.bytes.items; room = s.room; most = s.most }

pub record IsSureSink (s : OpenSink) : Type 0 where
  pub room : s.room ≤ vec_capacity s.bytes
  pub within : length s.bytes.items ≤ s.room
  pub most : 0 < s.most
