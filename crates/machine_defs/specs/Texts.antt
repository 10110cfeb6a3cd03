-- The texts of a history, its replies and its report: what a run prints.
use Rattle.std.specs.Prelude.{ℕ, ◌+◌, ◌-◌, ◌==◌, [], ◌∷◌, ◌++◌, List, codes, Option, Some, None, slice_get, Bool, true, false, if◌then◌else◌}
use Rattle.std.specs.Fmt.{decimal}
use Rattle.std.specs.List.{flat_map}
use Rattle.machine_defs.specs.declared.values.Owner.TheVariants as owner
use Rattle.machine_defs.specs.declared.values.Arg.TheVariants as arg
use Rattle.rl_defs.specs.declared.values.Value.TheVariants as value
use Rattle.machine_defs.specs.declared.values.RpcCode.TheVariants as code
use Rattle.machine_defs.specs.declared.values.Cause.TheVariants as cause
use Rattle.machine_defs.specs.declared.entry.Entry.TheVariants as entry
use Rattle.rl_defs.specs.declared.load.LoadRows.{LoadRows}
use Rattle.machine_defs.specs.declared.values.Owner.{Owner}
use Rattle.machine_defs.specs.declared.values.Arg.{Arg}
use Rattle.rl_defs.specs.declared.values.Value.{Value}
use Rattle.machine_defs.specs.declared.values.RpcCode.{RpcCode}
use Rattle.machine_defs.specs.declared.values.Cause.{Cause}
use Rattle.rl_defs.specs.declared.tables.StructRow.{StructRow}
use Rattle.machine_defs.specs.declared.entry.Entry.{Entry}
use Rattle.rl_defs.specs.Domains.{target_name, method_name}
use Rattle.machine_defs.specs.Entries.{thread_of, code_number}

-- a line of a text, with the byte that ends it
abbrev pub line : List ℕ → List ℕ
line text = text ++ 10 ∷ []

-- a blank and then the text
abbrev pub spaced : List ℕ → List ℕ
spaced text = 32 ∷ text

abbrev pub object_text : ℕ → List ℕ
object_text o = codes "o" ++ decimal o

abbrev pub client_text : ℕ → List ℕ
client_text t = codes "c" ++ decimal t

abbrev pub instance_text : ℕ → List ℕ
instance_text i = codes "i" ++ decimal i

abbrev pub target_text : LoadRows → ℕ → List ℕ
target_text L x = codes "@" ++ target_name L x

abbrev pub owner_text : Owner → List ℕ
owner_text (owner.Client t) = client_text t
owner_text (owner.Instance i) = instance_text i

abbrev pub arg_text : LoadRows → Arg → List ℕ
arg_text L (arg.Num n) = decimal n
arg_text L (arg.Moved o) = object_text o
arg_text L (arg.Lent o) = codes "&" ++ object_text o
arg_text L (arg.Cap x) = target_text L x

abbrev pub args_text : LoadRows → List Arg → List ℕ
args_text L args = flat_map (λ a. spaced (arg_text L a)) args

abbrev pub value_text : LoadRows → Value → List ℕ
value_text L (value.Num n) = decimal n
value_text L (value.Obj o) = object_text o
value_text L (value.Cap x) = target_text L x

abbrev pub values_text : LoadRows → List Value → List ℕ
values_text L values = flat_map (λ v. spaced (value_text L v)) values

abbrev pub numbers_text : List ℕ → List ℕ
numbers_text numbers = flat_map (λ n. spaced (decimal n)) numbers

abbrev pub code_text : RpcCode → List ℕ
code_text code.Gone = codes "gone"
code_text code.Unwound = codes "unwound"
code_text code.Deep = codes "deep"
code_text code.Order = codes "order"

abbrev pub cause_text : Cause → List ℕ
cause_text cause.Divide = codes "divide"
cause_text cause.Bounds = codes "bounds"
cause_text cause.Range = codes "range"
cause_text cause.Empty = codes "empty"
cause_text cause.Full = codes "full"
cause_text cause.Device = codes "device"
cause_text cause.HeapFull = codes "heapfull"
cause_text cause.Fuel = codes "fuel"
cause_text cause.Asked = codes "asked"
cause_text cause.Io = codes "io"

abbrev pub row_struct_name : Option StructRow → List ℕ
row_struct_name None = []
row_struct_name (Some s) = s.name

abbrev pub struct_name : LoadRows → ℕ → List ℕ
struct_name L ty = row_struct_name (slice_get L.tables.structs ty)

-- a word of an entry between blanks, and what follows
abbrev pub word : List ℕ → List ℕ → List ℕ
word w rest = 32 ∷ (w ++ rest)

-- the target, the method and the arguments of a call
abbrev pub called_text : LoadRows → ℕ → ℕ → List Arg → List ℕ
called_text L x m args = word (method_name L x m) (args_text L args)

-- what an entry says after its thread
abbrev pub act_text : LoadRows → Entry → List ℕ
act_text L (entry.Call t c x i m args) = word (codes "call") (word (decimal c) (word (target_name L x) (codes "/" ++ (instance_text i ++ called_text L x m args))))
act_text L (entry.Refuse t c k x m args) = word (codes "refuse") (word (decimal c) (word (code_text k) (word (target_name L x) (called_text L x m args))))
act_text L (entry.Ret t c results) = word (codes "ret") (word (decimal c) (values_text L results))
act_text L (entry.Unwound t c) = word (codes "unwound") (word (decimal c) [])
act_text L (entry.Reload t x i left) = word (codes "reload") (word (target_name L x) (word (instance_text i) (word (decimal left) [])))
act_text L (entry.Again t c x i) = word (codes "again") (word (decimal c) (word (target_name L x) (codes "/" ++ instance_text i)))
act_text L (entry.Trap t i k) = word (codes "trap") (word (instance_text i) (word (cause_text k) []))
act_text L (entry.Kill t i) = word (codes "kill") (word (instance_text i) [])
act_text L (entry.New t w o ty values) = word (codes "new") (word (owner_text w) (word (object_text o) (word (struct_name L ty) (numbers_text values))))
act_text L (entry.Drop t o) = word (codes "drop") (word (object_text o) [])
act_text L (entry.Set t o place values) = word (codes "set") (word (object_text o) (word (decimal place) (numbers_text values)))
act_text L (entry.Wput t i place v) = word (codes "wput") (word (instance_text i) (word (decimal place) (word (decimal v) [])))
act_text L (entry.Take t i slot o) = word (codes "take") (word (instance_text i) (word slot (word (object_text o) [])))
act_text L (entry.Put t i slot o) = word (codes "put") (word (instance_text i) (word slot (word (object_text o) [])))
act_text L (entry.DevGet t o block) = word (codes "devget") (word (object_text o) (word (decimal block) []))
act_text L (entry.DevPut t block o) = word (codes "devput") (word (decimal block) (word (object_text o) []))
act_text L (entry.Hang t o place v) = word (codes "hang") (word (object_text o) (word (decimal place) (word (object_text v) [])))
act_text L (entry.Unhang t o place v) = word (codes "unhang") (word (object_text o) (word (decimal place) (word (object_text v) [])))
act_text L (entry.Show t o values) = word (codes "show") (word (object_text o) (values_text L values))
act_text L (entry.Skip t k) = word (codes "skip") (word (decimal k) [])
act_text L (entry.Done t) = word (codes "done") []
act_text L (entry.Free o) = []

-- the line of an entry
abbrev pub entry_text : LoadRows → Entry → List ℕ
entry_text L (entry.Free o) = line (codes "free " ++ object_text o)
entry_text L e = line (client_text (thread_of e) ++ act_text L e)

abbrev pub history_text : LoadRows → List Entry → List ℕ
history_text L H = flat_map (entry_text L) H

-- what a history tells of a thread so far: how many of its calls are open, and how many commands it
-- has begun
pub record Tally : Type 0 where
  pub calls : ℕ
  pub commands : ℕ

abbrev pub no_tally : Tally
no_tally = record { calls = 0; commands = 0 }

-- an entry at which no call is open begins a command, but for a reload and the end of the script
abbrev pub begins_command : Entry → Bool
begins_command (entry.Reload t x i left) = false
begins_command (entry.Done t) = false
begins_command e = true

-- how many calls are open after an entry
abbrev pub open_after : Entry → ℕ → ℕ
open_after (entry.Call t c x i m args) n = n + 1
open_after (entry.Ret t c results) n = n - 1
open_after (entry.Unwound t c) n = n - 1
open_after e n = n

abbrev pub tally_of_own : Entry → Tally → Tally
tally_of_own e y = record {
  calls = open_after e y.calls;
  commands = if y.calls == 0 then (if begins_command e then y.commands + 1 else y.commands) else y.commands;
}

abbrev pub tally_after : ℕ → Tally → Entry → Tally
tally_after t y e = if thread_of e == t then tally_of_own e y else y

-- what entries tell of thread t, after what was told of it before
abbrev pub tally_from : ℕ → Tally → List Entry → Tally
tally_from t y [] = y
tally_from t y (e ∷ H) = tally_from t (tally_after t y e) H

abbrev pub tally : ℕ → List Entry → Tally
tally t H = tally_from t no_tally H

-- a reply of a thread's command with this number
abbrev pub reply_line : ℕ → ℕ → List ℕ → List ℕ → List ℕ
reply_line t k says rest = line (client_text t ++ word (decimal k) (word says rest))

-- the reply that an entry is, where it ends a command that has one; y is what was told of its
-- thread before it
abbrev pub reply_text : LoadRows → Tally → Entry → List ℕ
reply_text L y (entry.Ret t c results) = if y.calls == 1 then reply_line t y.commands (codes "ok") (values_text L results) else []
reply_text L y (entry.Unwound t c) = if y.calls == 1 then reply_line t y.commands (codes "error") (word (decimal 2) []) else []
reply_text L y (entry.Refuse t c k x m args) = if y.calls == 0 then reply_line t (y.commands + 1) (codes "error") (word (decimal (code_number k)) []) else []
reply_text L y (entry.Show t o values) = reply_line t (y.commands + 1) (codes "shown") (values_text L values)
reply_text L y (entry.Skip t k) = reply_line t (y.commands + 1) (codes "skipped") []
reply_text L y e = []

-- the replies of entries behind others
abbrev pub replies_after : LoadRows → List Entry → List Entry → List ℕ
replies_after L before [] = []
replies_after L before (e ∷ H) = reply_text L (tally (thread_of e) before) e ++ replies_after L (before ++ e ∷ []) H

abbrev pub replies_text : LoadRows → List Entry → List ℕ
replies_text L H = replies_after L [] H
