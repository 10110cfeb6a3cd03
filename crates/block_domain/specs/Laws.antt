-- The laws of the block device and of its driver, over every run of every valid load.
use Rattle.std.specs.Prelude.{◌≡◌, ℕ, ◌<◌, ◌++◌, List, [], ◌∷◌, Some, slice_get, codes}
use Rattle.rl_defs.specs.declared.values.Value.{Value}
use Rattle.rl_defs.specs.declared.values.Value.TheVariants as value
use Rattle.machine_defs.specs.declared.values.Arg.TheVariants as arg
use Rattle.machine_defs.specs.declared.entry.Entry.{Entry}
use Rattle.machine_defs.specs.declared.entry.Entry.TheVariants as entry
use Rattle.rl_defs.specs.declared.load.LoadRows.{LoadRows}
use Rattle.rl_defs.specs.Valid.{Valid}
use Rattle.rl_defs.specs.Domains.{load_of_target, method_name}
use Rattle.machine_defs.specs.State.{State, Object}
use Rattle.machine_defs.specs.Loans.{object_of}
use Rattle.machine_defs.specs.ObjectRows.{block}
use Rattle.machine_defs.specs.Steps.{Turn}
use Rattle.machine_defs.specs.Runs.{Run}
use Rattle.machine_defs.specs.History.{Always, OpenCall, open_calls, turns_of}
use Rattle.block_domain.specs.Store.{cells_at, block_at}
use Rattle.block_domain.specs.Driver.{RunsDriver}

-- The cells of each object that is there, and each block of the device, are what the history tells.
pub record IsStore (L : LoadRows) (us : List Turn) (s : State) : Type 0 where
  pub objects : (o : ℕ) (x : Object) → object_of s o ≡ Some x → x.cells ≡ cells_at L us o
  pub blocks : (b : ℕ) → b < L.blocks → block s b ≡ block_at L us b

abbrev pub BlocksHoldWhatWasWritten : Type 0
BlocksHoldWhatWasWritten = (L : LoadRows) (H : List Entry) (s : State) → Valid L → Run L H s → IsStore L (turns_of H) s

-- the call is a `read` of the driver
pub record IsRead (L : LoadRows) (call : OpenCall) : Type 0 where
  pub driver : RunsDriver L (load_of_target L call.target)
  pub method : method_name L call.target call.method ≡ codes "read"

-- Among these turns thread t put block b into object o, by a `devget`, and its open calls were the
-- same then: so it is of the call that is its newest now, in the instance in which that still is.
pub record Got (L : LoadRows) (us : List Turn) (t o b : ℕ) : Type 0 where
  pub later : List Turn
  pub frees : List ℕ
  pub earlier : List Turn
  pub turns : us ≡ later ++ record { entry = entry.DevGet t o b; frees = frees } ∷ earlier
  pub same_call : open_calls earlier t ≡ open_calls us t

-- A `read` returns one object. By a `devget` of its own it got the block of the call's first
-- argument, and it has the cells that this block held before that.
pub record GivesBlock (L : LoadRows) (us : List Turn) (t : ℕ) (call : OpenCall) (results : List Value) : Type 0 where
  pub block : ℕ
  pub object : ℕ
  pub asked : slice_get call.args 0 ≡ Some (arg.Num block)
  pub given : results ≡ value.Obj object ∷ []
  pub got : Got L us t object block
  pub cells : cells_at L us object ≡ block_at L got.earlier block

-- what the `ret` of a `read` of the driver tells; t's newest open call is the one that returns
abbrev pub GivesWhatWasWritten : LoadRows → List Turn → Entry → Type 0
GivesWhatWasWritten L us (entry.Ret t c results) = (call : OpenCall) (others : List OpenCall) → open_calls us t ≡ call ∷ others → IsRead L call → GivesBlock L us t call results
GivesWhatWasWritten L us _ = Unit {0}

-- Each `read` of the driver that returned gave what the last `devput` to its block before its
-- `devget` had written, or zeros.
abbrev pub ReadsGiveWhatWasWritten : Type 0
ReadsGiveWhatWasWritten = (L : LoadRows) (H : List Entry) (s : State) → Valid L → Run L H s → Always (λ us u. GivesWhatWasWritten L us u.entry) (turns_of H)
