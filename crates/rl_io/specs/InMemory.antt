-- The source and the sink in memory, as contracts see them.
use Rattle.std.specs.Prelude.{ℕ, ◌-◌, min, List, [], ◌++◌, length, drop}
use Rattle.rl_io.specs.Causes.{next_count}

-- a source: the bytes left, how many one call takes at most, the numbers of the calls that fail, and how many calls and faults there were
pub record SourceState : Type 0 where
  pub left : List ℕ
  pub chunk : ℕ
  pub failing : List ℕ
  pub calls : ℕ
  pub faults : ℕ

-- a source that no call was made of
abbrev pub fresh_source : List ℕ → ℕ → List ℕ → SourceState
fresh_source bytes chunk failing = record { left = bytes; chunk = chunk; failing = failing; calls = 0; faults = 0 }

-- after a call that took n bytes
abbrev pub after_take : ℕ → SourceState → SourceState
after_take n s = record s { left = drop n s.left; calls = next_count s.calls }

-- after a call that failed
abbrev pub after_failed_take : SourceState → SourceState
after_failed_take s = record s { calls = next_count s.calls; faults = next_count s.faults }

-- a sink: the bytes given, how many it has room for over all and takes at most in one call, the numbers of the calls that fail, and how many calls and faults there were
pub record SinkState : Type 0 where
  pub given : List ℕ
  pub room : ℕ
  pub chunk : ℕ
  pub failing : List ℕ
  pub calls : ℕ
  pub faults : ℕ

-- a sink that no call was made of
abbrev pub fresh_sink : ℕ → ℕ → List ℕ → SinkState
fresh_sink room chunk failing = record { given = []; room = room; chunk = chunk; failing = failing; calls = 0; faults = 0 }

-- how many bytes of a piece of that length a call takes, where it isn't to fail
abbrev pub share : SinkState → ℕ → ℕ
share s len = min len (min s.chunk (s.room - length s.given))

-- after a call that took these bytes
abbrev pub after_give : List ℕ → SinkState → SinkState
after_give bytes s = record s { given = s.given ++ bytes; calls = next_count s.calls }

-- after a call that failed
abbrev pub after_failed_give : SinkState → SinkState
after_failed_give s = record s { calls = next_count s.calls; faults = next_count s.faults }
