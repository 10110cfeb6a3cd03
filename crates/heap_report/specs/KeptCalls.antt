-- The open calls of a thread, as they are kept: each by its number and its instance, the oldest
-- first.
use Rattle.std.specs.Prelude.{◌≡◌, ℕ, ◌==◌, [], ◌∷◌, ◌++◌, List, filter, map, not, reverse, if◌then◌else◌}
use Rattle.std.specs.List.{slice_index_or}
use Rattle.machine_defs.specs.declared.entry.Entry.{Entry}
use Rattle.machine_defs.specs.declared.entry.Entry.TheVariants as entry
use Rattle.machine_defs.specs.Entries.{thread_of}
use Rattle.machine_defs.specs.History.{OpenCall}
use Rattle.heap_report.specs.declared.calls.Opened.{Opened}

-- what is kept of an open call
abbrev pub kept_of : OpenCall → Opened
kept_of o = record { call = o.call; inside = o.inside }

-- what is kept are these open calls, which are told the newest first
abbrev pub AreCallsKept : List Opened → List OpenCall → Type 0
AreCallsKept kept os = reverse kept ≡ map kept_of os

-- a call that was issued again is in another instance
abbrev pub moved_to : ℕ → ℕ → Opened → Opened
moved_to c i o = if o.call == c then record o { inside = i } else o

-- what is kept after an entry of the thread
abbrev pub told_to : Entry → List Opened → List Opened
told_to (entry.Call t c x i m args) kept = kept ++ record { call = c; inside = i } ∷ []
told_to (entry.Ret t c results) kept = filter (λ (o : Opened). not (o.call == c)) kept
told_to (entry.Unwound t c) kept = filter (λ (o : Opened). not (o.call == c)) kept
told_to (entry.Again t c x i) kept = map (moved_to c i) kept
told_to _ kept = kept

-- the calls that are kept of a thread: none where it isn't known
abbrev pub calls_of : List (List Opened) → ℕ → List Opened
calls_of threads t = slice_index_or threads t []

-- the calls of an entry's thread are told what it does, and those of all others stay
abbrev pub TellsThreads : Entry → List (List Opened) → List (List Opened) → Type 0
TellsThreads e old new = (t : ℕ) → calls_of new t ≡ (if thread_of e == t then told_to e (calls_of old t) else calls_of old t)
