-- Register work: what the lines of domain code come to, up to the next action or trap.
use Rattle.std.specs.Prelude.{ℕ, ◌+◌, ◌-◌, ◌*◌, ◌/◌, ◌%◌, ◌^◌, ◌==◌, ◌&&◌, [], ◌∷◌, Some, Bool, true, false, Option, zero, suc, None, nat_lt, bit_and, bit_or, bit_xor, List, unwrap_or, slice_get, map, is_some, is_none, if◌then◌else◌}
use Rattle.std.specs.List.{list_all}
use Rattle.std.specs.Option.{option_map_or}
use Rattle.rl_defs.specs.declared.values.Value.TheVariants as value
use Rattle.rl_defs.specs.declared.tables.Width.TheVariants as width
use Rattle.rl_defs.specs.declared.tables.Kind.TheVariants as kind
use Rattle.rl_defs.specs.declared.code.MathOp.TheVariants as op
use Rattle.rl_defs.specs.declared.code.DomainLine.TheVariants as line
use Rattle.machine_defs.specs.declared.frame.Action.TheVariants as action
use Rattle.machine_defs.specs.declared.values.Arg.TheVariants as given
use Rattle.rl_defs.specs.declared.code.CallArg.TheVariants as arg
use Rattle.machine_defs.specs.declared.values.Cause.TheVariants as cause
use Rattle.rl_defs.specs.declared.code.Instr.TheVariants as instr
use Rattle.machine_defs.specs.declared.frame.Answer.TheVariants as answer
use Rattle.rl_defs.specs.declared.code.Register.{Register}
use Rattle.rl_defs.specs.declared.values.Value.{Value}
use Rattle.rl_defs.specs.declared.code.Instr.{Instr}
use Rattle.rl_defs.specs.declared.tables.Kind.{Kind}
use Rattle.rl_defs.specs.declared.tables.Tables.{Tables}
use Rattle.rl_defs.specs.declared.code.MathOp.{MathOp}
use Rattle.machine_defs.specs.declared.frame.Action.{Action}
use Rattle.machine_defs.specs.declared.values.Cause.{Cause}
use Rattle.machine_defs.specs.declared.values.Arg.{Arg}
use Rattle.rl_defs.specs.declared.code.CallArg.{CallArg}
use Rattle.rl_defs.specs.declared.code.DomainLine.{DomainLine}
use Rattle.rl_defs.specs.declared.bundle.Numbered.{Numbered}
use Rattle.machine_defs.specs.declared.frame.Answer.{Answer}
use Rattle.rl_defs.specs.Registers.{with_value, Registers, value_in, kept, Stand, behind_heads}
use Rattle.rl_defs.specs.CodeKinds.{Need, Number, Copied, Owned, Object, Target, Passed, Read, reads, passed}
use Rattle.rl_defs.specs.Widths.{fits_width}
use Rattle.rl_defs.specs.DomainValue.{Domain}
use Rattle.rl_defs.specs.CodeNames.{cells_of, struct_number, method_number, method_named, params_of, results_of, method_at, import_number, slot_number, place_of_label, label_of_line}
use Rattle.machine_defs.specs.Sight.{Sight}
use Rattle.machine_defs.specs.Entries.{code_number}

abbrev pub with_number : Registers → Register → ℕ → Registers
with_number regs r n = with_value regs r (Some (value.Num n))

-- whether what a register holds is what is asked for
abbrev pub serves : Need → Option Value → Bool
serves Number (Some (value.Num n)) = true
serves Copied (Some v) = true
serves Owned (Some (value.Obj o)) = true
serves Object (Some (value.Obj o)) = true
serves Target (Some (value.Cap x)) = true
serves Passed (Some v) = true
serves _ _ = false

abbrev pub holds : Registers → Read → Bool
holds regs r = serves r.need (value_in regs r.register)

-- each register that the instruction reads holds what is asked for
abbrev pub reads_are_held : Registers → Instr → Bool
reads_are_held regs i = list_all (holds regs) (reads i)

-- the number, object or target that a register holds, where it does
abbrev pub number : Option Value → ℕ
number (Some (value.Num n)) = n
number _ = 0

abbrev pub object : Option Value → ℕ
object (Some (value.Obj o)) = o
object _ = 0

abbrev pub target : Option Value → ℕ
target (Some (value.Cap x)) = x
target _ = 0

abbrev pub number_in : Registers → Register → ℕ
number_in regs r = number (value_in regs r)

abbrev pub object_in : Registers → Register → ℕ
object_in regs r = object (value_in regs r)

-- a number doesn't exceed the width of its cell, parameter or result
abbrev pub number_fits : Kind → ℕ → Bool
number_fits (kind.Num w) n = fits_width w n
number_fits _ n = true

-- an operation on two numbers, None where it is a division by 0
abbrev pub unless_zero : ℕ → ℕ → Option ℕ
unless_zero zero n = None
unless_zero (suc by) n = Some n

abbrev pub bit : Bool → ℕ
bit true = 1
bit false = 0

abbrev pub calculate : MathOp → ℕ → ℕ → Option ℕ
calculate op.Add x y = Some ((x + y) % 2 ^ 64)
calculate op.Sub x y = Some ((x + 2 ^ 64 - y) % 2 ^ 64)
calculate op.Mul x y = Some ((x * y) % 2 ^ 64)
calculate op.Div x y = unless_zero y (x / y)
calculate op.Rem x y = unless_zero y (x % y)
calculate op.And x y = Some (bit_and x y)
calculate op.Or x y = Some (bit_or x y)
calculate op.Xor x y = Some (bit_xor x y)
calculate op.Lt x y = Some (bit (nat_lt x y))
calculate op.Eq x y = Some (bit (x == y))

-- an instruction goes on at the next line; goes on at its label; would make an action, or trap; or
-- meets a register that doesn't hold what it needs, or stands where no instruction does
pub data Outcome : Type 0 where
  Works : (regs : Registers) → Outcome
  Jumps : (regs : Registers) → Outcome
  Would : (act : Action) → Outcome
  Stuck : Outcome

abbrev pub traps : Cause → Outcome
traps c = Would (action.Trap c)

-- the number is put into the register, or there is none and the instruction traps
abbrev pub number_or_trap : Registers → Register → Cause → Option ℕ → Outcome
number_or_trap regs a c None = traps c
number_or_trap regs a c (Some n) = Works (with_number regs a n)

abbrev pub unless_trap : Bool → Cause → Action → Outcome
unless_trap true c act = Would act
unless_trap false c act = traps c

-- the argument of a call that a register gives
abbrev pub passed_value : Option Value → Arg
passed_value (Some (value.Obj o)) = given.Moved o
passed_value (Some (value.Cap x)) = given.Cap x
passed_value v = given.Num (number v)

abbrev pub given_by : Registers → CallArg → Arg
given_by regs (arg.Passed r) = passed_value (value_in regs r)
given_by regs (arg.Lent r) = given.Lent (object_in regs r)

-- each item fits the kind at its place, as far as both go
abbrev pub all_fit : {A : Type 0} → (Kind → A → Bool) → List Kind → List A → Bool
all_fit fit (k ∷ ks) (x ∷ xs) = fit k x && all_fit fit ks xs
all_fit fit _ _ = true

-- each number fits the parameter at its place
abbrev pub arg_fits : Kind → Arg → Bool
arg_fits k (given.Num n) = number_fits k n
arg_fits k _ = true

abbrev pub args_fit : List Kind → List Arg → Bool
args_fit ks args = all_fit arg_fits ks args

-- the value that a register gives as a result, and whether each number fits the result at its place
abbrev pub result_in : Registers → Register → Value
result_in regs r = unwrap_or (value_in regs r) (value.Num 0)

abbrev pub value_fits : Kind → Value → Bool
value_fits k (value.Num n) = number_fits k n
value_fits k _ = true

abbrev pub values_fit : List Kind → List Value → Bool
values_fit ks values = all_fit value_fits ks values

-- the kind of a struct's cell
abbrev pub cell_kind : Tables → ℕ → ℕ → Kind
cell_kind tables s place = unwrap_or (slice_get (cells_of tables s) place) (kind.Num width.W64)

-- the struct of the object that a register holds, and the trait of its target
abbrev pub struct_in : Sight → Registers → Register → ℕ
struct_in sight regs r = sight.types.struct_of (object_in regs r)

abbrev pub trait_in : Sight → Registers → Register → ℕ
trait_in sight regs r = sight.types.trait_of (target (value_in regs r))

-- setting a cell: the cell has to be there, and the number has to fit it

abbrev pub setting : Option ℕ → Kind → ℕ → ℕ → ℕ → Outcome
setting None k o place v = traps cause.Bounds
setting (Some old) k o place v = unless_trap (number_fits k v) cause.Range (action.Set o place (v ∷ []))

-- The table of the instructions, where each register that is read holds what is asked for. The
-- frame stands at line n of the domain; `live` objects are live.
abbrev pub meaning : Domain → ℕ → Sight → ℕ → Registers → Instr → Outcome
meaning d n sight live regs (instr.Const a k) = Works (with_number regs a k)
meaning d n sight live regs (instr.Copy a b) = Works (with_value regs a (value_in regs b))
meaning d n sight live regs (instr.Math o a b c) = number_or_trap regs a cause.Divide (calculate o (number_in regs b) (number_in regs c))
meaning d n sight live regs (instr.Jmp label) = Jumps regs
meaning d n sight live regs (instr.Jz a label) = if number_in regs a == 0 then Jumps regs else Works regs
meaning d n sight live regs (instr.Move a b) = Works (with_value (with_value regs b None) a (value_in regs b))
meaning d n sight live regs (instr.Get a o i) = number_or_trap regs a cause.Bounds (sight.cell (object_in regs o) (number_in regs i))
meaning d n sight live regs (instr.Wget a i) = number_or_trap regs a cause.Bounds (sight.word (number_in regs i))
meaning d n sight live regs (instr.Has a slot) = Works (with_number regs a (bit (is_some (sight.slot (slot_number d slot)))))
meaning d n sight live regs (instr.Cap a import) = Works (with_value regs a (Some (value.Cap (sight.bound (import_number d import)))))
meaning d n sight live regs (instr.DevSize a) = Works (with_number regs a sight.blocks)
meaning d n sight live regs (instr.New a ty) = unless_trap (nat_lt live 65536) cause.HeapFull (action.New (struct_number d.tables ty))
meaning d n sight live regs (instr.Drop a) = Would (action.Drop (object_in regs a))
meaning d n sight live regs (instr.Set o i v) =
    setting (sight.cell (object_in regs o) (number_in regs i)) (cell_kind d.tables (struct_in sight regs o) (number_in regs i)) (object_in regs o) (number_in regs i) (number_in regs v)
meaning d n sight live regs (instr.Wput i v) = unless_trap (is_some (sight.word (number_in regs i))) cause.Bounds (action.Wput (number_in regs i) (number_in regs v))
meaning d n sight live regs (instr.Take a slot) = unless_trap (is_some (sight.slot (slot_number d slot))) cause.Empty (action.Take (slot_number d slot))
meaning d n sight live regs (instr.Put slot a) = unless_trap (is_none (sight.slot (slot_number d slot))) cause.Full (action.Put (slot_number d slot) (object_in regs a))
meaning d n sight live regs (instr.DevGet o k) = unless_trap (nat_lt (number_in regs k) sight.blocks) cause.Device (action.DevGet (object_in regs o) (number_in regs k))
meaning d n sight live regs (instr.DevPut k o) = unless_trap (nat_lt (number_in regs k) sight.blocks) cause.Device (action.DevPut (number_in regs k) (object_in regs o))
meaning d n sight live regs (instr.Hang o place v) = unless_trap (is_none (sight.hung (object_in regs o) place)) cause.Full (action.Hang (object_in regs o) place (object_in regs v))
meaning d n sight live regs (instr.Unhang a o place) = unless_trap (is_some (sight.hung (object_in regs o) place)) cause.Empty (action.Unhang (object_in regs o) place)
meaning d n sight live regs (instr.Call c method args results code label) =
    unless_trap (args_fit (params_of (method_named d.tables (trait_in sight regs c) method)) (map (given_by regs) args)) cause.Range
    (action.Call (target (value_in regs c)) (unwrap_or (method_number d.tables (trait_in sight regs c) method) 0) (map (given_by regs) args))
meaning d n sight live regs (instr.Ret results) =
    unless_trap (values_fit (results_of (method_at d n)) (map (result_in regs) results)) cause.Range (action.Ret (map (result_in regs) results))
meaning d n sight live regs instr.Trap = traps cause.Asked

abbrev pub guarded : Bool → Outcome → Outcome
guarded true outcome = outcome
guarded false outcome = Stuck

abbrev pub form_meaning : Domain → ℕ → Sight → ℕ → Registers → DomainLine → Outcome
form_meaning d n sight live regs (line.Code i) = guarded (reads_are_held regs i) (meaning d n sight live regs i)
form_meaning d n sight live regs _ = Stuck

abbrev pub line_meaning : Domain → ℕ → Sight → ℕ → Registers → Option (Numbered DomainLine) → Outcome
line_meaning d n sight live regs l = option_map_or (λ l. form_meaning d n sight live regs l.form) l Stuck

-- behind a label's head, with the registers that it lists
abbrev pub entered_form : DomainLine → ℕ → Registers → Stand
entered_form (line.Head label items) place regs = record { at = place + 1; regs = kept items regs }
entered_form _ place regs = record { at = place; regs = regs }

abbrev pub entered_line : Option (Numbered DomainLine) → ℕ → Registers → Stand
entered_line l place regs = option_map_or (λ l. entered_form l.form place regs) l (record { at = place; regs = regs })

abbrev pub behind_head : Domain → ℕ → Registers → Stand
behind_head d place regs = entered_line (slice_get d.lines place) place regs

-- behind the head of the label that line n names
abbrev pub jumped : Domain → ℕ → Registers → Stand
jumped d n regs = behind_head d (unwrap_or (place_of_label d n (label_of_line (slice_get d.lines n))) 0) regs

-- where register work ends: before an action or a trap, with the fuel, the line and the registers
-- there
pub data Settled : Type 0 where
  Nowhere : Settled
  Before : (act : Action) (fuel : ℕ) (stand : Stand) → Settled

abbrev pub go_on : Domain → Outcome → (Stand → Settled) → ℕ → Stand → Settled
go_on d (Works regs) next fuel s = next (record { at = s.at + 1; regs = regs })
go_on d (Jumps regs) next fuel s = next (jumped d s.at regs)
go_on d (Would act) next fuel s = Before act fuel s
go_on d Stuck next fuel s = Nowhere

abbrev pub work : Domain → Sight → ℕ → Stand → Outcome
work d sight live s = line_meaning d s.at sight live s.regs (slice_get d.lines s.at)

-- The first action or trap from where a frame stands. Heads cost nothing. Each instruction costs 1,
-- but the one that acts or traps is charged with what it does; one that would begin at fuel 0 is
-- the trap `fuel`.
abbrev pub settle : Domain → Sight → ℕ → ℕ → Stand → Settled
settle d sight live zero s = Before (action.Trap cause.Fuel) 0 (behind_heads d s)
settle d sight live (suc fuel) s = go_on d (work d sight live (behind_heads d s)) (settle d sight live fuel) (suc fuel) (behind_heads d s)

abbrev pub give_up : Registers → Register → Option Value → Registers
give_up regs r (Some (value.Obj o)) = with_value regs r None
give_up regs r _ = regs

-- an object leaves its register
abbrev pub given_up : Registers → Register → Registers
given_up regs r = give_up regs r (value_in regs r)

abbrev pub all_given_up : List Register → Registers → Registers
all_given_up [] regs = regs
all_given_up (r ∷ rs) regs = all_given_up rs (given_up regs r)

abbrev pub put_values : List Register → List Value → Registers → Registers
put_values [] values regs = regs
put_values (r ∷ rs) [] regs = regs
put_values (r ∷ rs) (v ∷ values) regs = put_values rs values (with_value regs r (Some v))

-- the registers behind an answer
abbrev pub answered : Instr → Answer → Registers → Registers
answered (instr.New a ty) (answer.Made o) regs = with_value regs a (Some (value.Obj o))
answered (instr.Take a slot) (answer.Made o) regs = with_value regs a (Some (value.Obj o))
answered (instr.Unhang a o place) (answer.Made v) regs = with_value regs a (Some (value.Obj v))
answered (instr.Drop a) answer.Went regs = with_value regs a None
answered (instr.Put slot a) answer.Went regs = with_value regs a None
answered (instr.Hang o place v) answer.Went regs = with_value regs v None
answered (instr.Call c method args results e label) (answer.Back values) regs = put_values results values (all_given_up (passed args) regs)
answered (instr.Call c method args results e label) (answer.Failed failure) regs = with_number (all_given_up (passed args) regs) e (code_number failure)
answered i a regs = regs

-- where a frame stands behind an answer: at the next line, or, where its call failed, behind the
-- head of the call's label
abbrev pub after_answer_at : Domain → ℕ → Answer → Registers → Stand
after_answer_at d n (answer.Failed failure) regs = jumped d n regs
after_answer_at d n _ regs = record { at = n + 1; regs = regs }

abbrev pub after_answer : Domain → Stand → Instr → Answer → Stand
after_answer d s i a = after_answer_at d s.at a (answered i a s.regs)
