-- What a frame wants, in one line.
use Rattle.std.specs.Prelude.{ℕ, ◌+◌, Bool, true, false, List, [], ◌∷◌, ◌++◌, codes, Option, Some, None}
use Rattle.std.specs.List.{flat_map}
use Rattle.std.specs.Fmt.{decimal}
use Rattle.rl_defs.specs.declared.values.Value.{Value}
use Rattle.rl_defs.specs.declared.values.Value.TheVariants as value
use Rattle.machine_defs.specs.declared.values.Arg.{Arg}
use Rattle.machine_defs.specs.declared.values.Arg.TheVariants as arg
use Rattle.code_machine.specs.declared.act.Act.{Act}
use Rattle.code_machine.specs.declared.act.Act.TheVariants as act
use Rattle.machine_defs.specs.Texts.{spaced, object_text, cause_text}
use Rattle.rl_defs.specs.Registers.{Registers}
use Rattle.code_runs.specs.declared.run.Wanted.{Wanted}

-- an object is `o` and its number, a target `t` and its number
abbrev pub target_text : ℕ → List ℕ
target_text x = codes "t" ++ decimal x

abbrev pub arg_text : Arg → List ℕ
arg_text (arg.Num n) = decimal n
arg_text (arg.Moved o) = object_text o
arg_text (arg.Lent o) = codes "&" ++ object_text o
arg_text (arg.Cap x) = target_text x

abbrev pub args_text : List Arg → List ℕ
args_text args = flat_map (λ a. spaced (arg_text a)) args

abbrev pub value_text : Value → List ℕ
value_text (value.Num n) = decimal n
value_text (value.Obj o) = object_text o
value_text (value.Cap x) = target_text x

abbrev pub values_text : List Value → List ℕ
values_text values = flat_map (λ v. spaced (value_text v)) values

-- the instruction's word, and what it is done with, in the order of the instruction
abbrev pub act_text : Act → List ℕ
act_text (act.New s) = codes "new" ++ spaced (decimal s)
act_text (act.Drop o) = codes "drop" ++ spaced (object_text o)
act_text (act.Set o place v) = codes "set" ++ spaced (object_text o) ++ spaced (decimal place) ++ spaced (decimal v)
act_text (act.Wput place n) = codes "wput" ++ spaced (decimal place) ++ spaced (decimal n)
act_text (act.Take slot) = codes "take" ++ spaced (decimal slot)
act_text (act.Put slot o) = codes "put" ++ spaced (decimal slot) ++ spaced (object_text o)
act_text (act.DevGet o block) = codes "devget" ++ spaced (object_text o) ++ spaced (decimal block)
act_text (act.DevPut block o) = codes "devput" ++ spaced (decimal block) ++ spaced (object_text o)
act_text (act.Hang o place v) = codes "hang" ++ spaced (object_text o) ++ spaced (decimal place) ++ spaced (object_text v)
act_text (act.Unhang o place) = codes "unhang" ++ spaced (object_text o) ++ spaced (decimal place)
act_text (act.Call x m args) = codes "call" ++ spaced (target_text x) ++ spaced (decimal m) ++ args_text args
act_text (act.Ret values) = codes "ret" ++ values_text values
act_text (act.Trap c) = codes "trap" ++ spaced (cause_text c)

-- an act on a slot, a cell that an object hangs in, or a block
abbrev pub moves : Act → Bool
moves (act.Take slot) = true
moves (act.Put slot o) = true
moves (act.DevGet o block) = true
moves (act.DevPut block o) = true
moves (act.Hang o place v) = true
moves (act.Unhang o place) = true
moves _ = false

-- each register that holds something, with what it holds
abbrev pub register_text : ℕ → Option Value → List ℕ
register_text k None = []
register_text k (Some v) = codes ", r" ++ decimal k ++ spaced (value_text v)

abbrev pub registers_from : ℕ → Registers → List ℕ
registers_from k [] = []
registers_from k (v ∷ regs) = register_text k v ++ registers_from (k + 1) regs

-- the act, the fuel, the registers
abbrev pub wanted_text : Wanted → List ℕ
wanted_text w = act_text w.act ++ codes ", fuel" ++ spaced (decimal w.fuel) ++ registers_from 0 w.registers ++ codes "\n"
