-- A worked run: a domain calls itself until the stack is full. The 32nd call is refused, and all
-- the others return.
use Rattle.std.specs.Prelude.{ℕ, ◌-◌, true, List, [], ◌∷◌, ◌++◌, map, codes}
use Rattle.std.specs.List.{range_with_len}
use Rattle.rl_defs.specs.declared.code.CallArg.TheVariants as passes
use Rattle.rl_defs.specs.declared.code.DomainLine.TheVariants as form
use Rattle.rl_defs.specs.declared.code.HeadKind.TheVariants as head
use Rattle.rl_defs.specs.declared.code.Instr.TheVariants as instr
use Rattle.rl_defs.specs.declared.values.Value.TheVariants as value
use Rattle.rl_defs.specs.declared.load.LoadRows.{LoadRows}
use Rattle.rl_defs.specs.declared.load.Command.TheVariants as command
use Rattle.rl_defs.specs.declared.load.ScriptArg.TheVariants as given
use Rattle.rl_defs.specs.declared.tables.Kind.TheVariants as kind
use Rattle.rl_defs.specs.declared.tables.Tables.{Tables}
use Rattle.rl_defs.specs.DomainValue.{Domain}
use Rattle.machine_defs.specs.declared.values.Arg.{Arg}
use Rattle.machine_defs.specs.declared.values.Arg.TheVariants as arg
use Rattle.machine_defs.specs.declared.values.RpcCode.TheVariants as code
use Rattle.machine_defs.specs.declared.entry.Entry.{Entry}
use Rattle.machine_defs.specs.declared.entry.Entry.TheVariants as entry
use Rattle.machine_defs.specs.State.{State, start}
use Rattle.worked_runs.specs.Parts.{u64, tables, has_methods, method, r0, r1, r2, item, domain, load_of, client, plain_load, thread}
use Rattle.worked_runs.specs.WorkedRuns.{IsWorked}

-- trait R { fn r(&self, t: &dyn R) -> RpcResult<u64>; }
abbrev pub calling_tables : Tables
calling_tables = tables [] (has_methods (codes "R") (method (codes "r") (kind.Cap 0 ∷ []) (u64 ∷ []) ∷ []) ∷ [])

-- it calls what it is given with it, and returns the result or the code of the error
abbrev pub calling : Domain
calling = domain calling_tables
    (form.Domain (codes "D") (codes "R")
    ∷ form.Function (codes "r")
    ∷ form.Code (instr.Call r0 (codes "r") (passes.Passed r0 ∷ []) (r1 ∷ []) r2 (codes "bad"))
    ∷ form.Code (instr.Ret (r1 ∷ []))
    ∷ form.Head (codes "bad") (item r2 head.Num ∷ [])
    ∷ form.Code (instr.Ret (r2 ∷ []))
    ∷ form.Close
    ∷ form.Close
    ∷ [])

-- call rec.r(@rec)
abbrev pub full_stack : LoadRows
full_stack = plain_load calling_tables (calling ∷ []) (load_of (codes "rec") 0 [] ∷ [])
    (client (codes "x") (command.Call 1 0 (given.Target 1 ∷ []) [] ∷ []) ∷ [])

abbrev pub itself : List Arg
itself = arg.Cap 1 ∷ []

-- call number c, and the return of call number c
abbrev pub calls_itself : ℕ → Entry
calls_itself c = entry.Call 1 c 1 1 0 itself

abbrev pub returns_code : ℕ → Entry
returns_code c = entry.Ret 1 c (value.Num 3 ∷ [])

-- calls 1 to 31, the refused one, and the returns of calls 31 to 1
abbrev pub full_stack_history : List Entry
full_stack_history =
    map calls_itself (range_with_len 1 31)
    ++ (entry.Refuse 1 32 code.Deep 1 0 itself ∷ map (λ k. returns_code (31 - k)) (range_with_len 0 31))
    ++ (entry.Done 1 ∷ [])

-- where it ends: 32 calls and 31 returns were paid for
abbrev pub full_stack_end : State
full_stack_end = record (start full_stack) {
  threads = record (thread 9937 1 []) { done = true } ∷ [];
  next_call = 33;
}

abbrev pub IsFullStack : Type 0
IsFullStack = IsWorked full_stack full_stack_history full_stack_end
    (codes "history"
    ∷ codes "c1 call 1 rec/i1 r @rec"
    ∷ codes "c1 call 2 rec/i1 r @rec"
    ∷ codes "c1 call 3 rec/i1 r @rec"
    ∷ codes "c1 call 4 rec/i1 r @rec"
    ∷ codes "c1 call 5 rec/i1 r @rec"
    ∷ codes "c1 call 6 rec/i1 r @rec"
    ∷ codes "c1 call 7 rec/i1 r @rec"
    ∷ codes "c1 call 8 rec/i1 r @rec"
    ∷ codes "c1 call 9 rec/i1 r @rec"
    ∷ codes "c1 call 10 rec/i1 r @rec"
    ∷ codes "c1 call 11 rec/i1 r @rec"
    ∷ codes "c1 call 12 rec/i1 r @rec"
    ∷ codes "c1 call 13 rec/i1 r @rec"
    ∷ codes "c1 call 14 rec/i1 r @rec"
    ∷ codes "c1 call 15 rec/i1 r @rec"
    ∷ codes "c1 call 16 rec/i1 r @rec"
    ∷ codes "c1 call 17 rec/i1 r @rec"
    ∷ codes "c1 call 18 rec/i1 r @rec"
    ∷ codes "c1 call 19 rec/i1 r @rec"
    ∷ codes "c1 call 20 rec/i1 r @rec"
    ∷ codes "c1 call 21 rec/i1 r @rec"
    ∷ codes "c1 call 22 rec/i1 r @rec"
    ∷ codes "c1 call 23 rec/i1 r @rec"
    ∷ codes "c1 call 24 rec/i1 r @rec"
    ∷ codes "c1 call 25 rec/i1 r @rec"
    ∷ codes "c1 call 26 rec/i1 r @rec"
    ∷ codes "c1 call 27 rec/i1 r @rec"
    ∷ codes "c1 call 28 rec/i1 r @rec"
    ∷ codes "c1 call 29 rec/i1 r @rec"
    ∷ codes "c1 call 30 rec/i1 r @rec"
    ∷ codes "c1 call 31 rec/i1 r @rec"
    ∷ codes "c1 refuse 32 deep rec r @rec"
    ∷ codes "c1 ret 31 3"
    ∷ codes "c1 ret 30 3"
    ∷ codes "c1 ret 29 3"
    ∷ codes "c1 ret 28 3"
    ∷ codes "c1 ret 27 3"
    ∷ codes "c1 ret 26 3"
    ∷ codes "c1 ret 25 3"
    ∷ codes "c1 ret 24 3"
    ∷ codes "c1 ret 23 3"
    ∷ codes "c1 ret 22 3"
    ∷ codes "c1 ret 21 3"
    ∷ codes "c1 ret 20 3"
    ∷ codes "c1 ret 19 3"
    ∷ codes "c1 ret 18 3"
    ∷ codes "c1 ret 17 3"
    ∷ codes "c1 ret 16 3"
    ∷ codes "c1 ret 15 3"
    ∷ codes "c1 ret 14 3"
    ∷ codes "c1 ret 13 3"
    ∷ codes "c1 ret 12 3"
    ∷ codes "c1 ret 11 3"
    ∷ codes "c1 ret 10 3"
    ∷ codes "c1 ret 9 3"
    ∷ codes "c1 ret 8 3"
    ∷ codes "c1 ret 7 3"
    ∷ codes "c1 ret 6 3"
    ∷ codes "c1 ret 5 3"
    ∷ codes "c1 ret 4 3"
    ∷ codes "c1 ret 3 3"
    ∷ codes "c1 ret 2 3"
    ∷ codes "c1 ret 1 3"
    ∷ codes "c1 done"
    ∷ codes "replies"
    ∷ codes "c1 1 ok 3"
    ∷ codes "report"
    ∷ [])
