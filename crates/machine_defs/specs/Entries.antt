-- The thread of an entry, and the number of an error.
use Rattle.std.specs.Prelude.{ℕ}
use Rattle.machine_defs.specs.declared.entry.Entry.TheVariants as entry
use Rattle.machine_defs.specs.declared.values.RpcCode.TheVariants as code
use Rattle.machine_defs.specs.declared.entry.Entry.{Entry}
use Rattle.machine_defs.specs.declared.values.RpcCode.{RpcCode}

-- the thread of an entry, 0 of a `free`
abbrev pub thread_of : Entry → ℕ
thread_of (entry.Call t c x i m args) = t
thread_of (entry.Refuse t c k x m args) = t
thread_of (entry.Ret t c results) = t
thread_of (entry.Unwound t c) = t
thread_of (entry.Reload t x i left) = t
thread_of (entry.Again t c x i) = t
thread_of (entry.Trap t i k) = t
thread_of (entry.Kill t i) = t
thread_of (entry.New t w o ty values) = t
thread_of (entry.Drop t o) = t
thread_of (entry.Set t o place values) = t
thread_of (entry.Wput t i place v) = t
thread_of (entry.Take t i slot o) = t
thread_of (entry.Put t i slot o) = t
thread_of (entry.DevGet t o block) = t
thread_of (entry.DevPut t block o) = t
thread_of (entry.Hang t o place v) = t
thread_of (entry.Unhang t o place v) = t
thread_of (entry.Show t o values) = t
thread_of (entry.Skip t k) = t
thread_of (entry.Done t) = t
thread_of (entry.Free o) = 0

-- the number of an RpcError
abbrev pub code_number : RpcCode → ℕ
code_number code.Gone = 1
code_number code.Unwound = 2
code_number code.Deep = 3
code_number code.Order = 4
