-- What contracts see of a source and a sink in memory, and what a call leaves of it.
use Rattle.std.specs.Prelude.{ℕ, List, if◌then◌else◌}
use Rattle.io_edges.specs.Calls.{is_listed, one_more}

-- a source: the bytes left, the calls that are to fail, the number of the next call, and the calls that failed so far
pub record SourceState : Type 0 where
  pub left : List ℕ
  pub fails : List ℕ
  pub call : ℕ
  pub faults : ℕ

-- a sink: the bytes taken, and how many it may take in all without memory; of the failed calls, `no_room` counts those
-- that found no memory
pub record SinkState : Type 0 where
  pub taken : List ℕ
  pub reserved : ℕ
  pub fails : List ℕ
  pub call : ℕ
  pub faults : ℕ
  pub no_room : ℕ

-- after a read that failed: the call and its fault are counted, and all else stays
abbrev pub source_after_fault : SourceState → SourceState
source_after_fault source = record source { call = one_more source.call; faults = one_more source.faults }

-- after a write that failed: the call and its fault are counted, and one that isn't listed found no memory
abbrev pub sink_after_fault : SinkState → SinkState
sink_after_fault sink = record sink {
  call = one_more sink.call;
  faults = one_more sink.faults;
  no_room = if is_listed sink.fails sink.call then sink.no_room else one_more sink.no_room;
}
