-- The kinds of the registers before a line of domain code.
use Rattle.std.specs.Prelude.{ℕ, ◌+◌, [], ◌∷◌, List, replicate, slice_set, fold, Bool, true, false, map, Option, None, Some, slice_get, zero, suc, if◌then◌else◌}
use Rattle.std.specs.List.{slice_index_or}
use Rattle.std.specs.Option.{option_map_or}
use Rattle.rl_defs.specs.declared.code.RegKind.TheVariants as kind
use Rattle.rl_defs.specs.declared.code.CallArg.TheVariants as arg
use Rattle.rl_defs.specs.declared.code.Instr.TheVariants as instr
use Rattle.rl_defs.specs.declared.tables.Kind.TheVariants as value
use Rattle.rl_defs.specs.declared.code.DomainLine.TheVariants as line
use Rattle.rl_defs.specs.declared.code.HeadKind.TheVariants as head
use Rattle.rl_defs.specs.declared.code.RegKind.{RegKind}
use Rattle.rl_defs.specs.declared.code.Register.{Register}
use Rattle.rl_defs.specs.declared.code.CallArg.{CallArg}
use Rattle.rl_defs.specs.declared.code.Instr.{Instr}
use Rattle.rl_defs.specs.declared.tables.Kind.{Kind}
use Rattle.rl_defs.specs.declared.tables.MethodRow.{MethodRow}
use Rattle.rl_defs.specs.declared.tables.Tables.{Tables}
use Rattle.rl_defs.specs.declared.code.HeadKind.{HeadKind}
use Rattle.rl_defs.specs.declared.code.HeadItem.{HeadItem}
use Rattle.rl_defs.specs.declared.code.DomainLine.{DomainLine}
use Rattle.rl_defs.specs.declared.bundle.Numbered.{Numbered}
use Rattle.rl_defs.specs.CodeNames.{method_named, cells_of, struct_number, results_of, slot_struct, import_trait, trait_number, params_of, domain_trait}
use Rattle.rl_defs.specs.DomainValue.{Domain}

-- what each of the registers `r0` to `r31` is known to hold
abbrev pub Kinds : Type 0
Kinds = List RegKind

abbrev pub no_kinds : Kinds
no_kinds = replicate 32 kind.Empty

abbrev pub kind_in : Kinds → Register → RegKind
kind_in kinds r = slice_index_or kinds r.number kind.Empty

abbrev pub with_kind : Kinds → Register → RegKind → Kinds
with_kind kinds r k = slice_set kinds r.number k

abbrev pub is_own : RegKind → Bool
is_own (kind.Own s) = true
is_own _ = false

-- what an instruction asks of a register: a number; what can be copied, which is a number, a lent object or an interface; an own
-- object; an own or lent object; an interface; what can be passed on, which is a number, an interface or an own object
pub data Need : Type 0 where
  Number : Need
  Copied : Need
  Owned : Need
  Object : Need
  Target : Need
  Passed : Need

-- a register that an instruction reads, and what is asked of it
pub record Read : Type 0 where
  pub register : Register
  pub need : Need

abbrev pub read : Register → Need → Read
read r need = record { register = r; need = need }

abbrev pub read_of_arg : CallArg → Read
read_of_arg (arg.Passed r) = read r Passed
read_of_arg (arg.Lent r) = read r Object

-- the registers that an instruction reads
abbrev pub reads : Instr → List Read
reads (instr.Copy a b) = read b Copied ∷ []
reads (instr.Math o a b c) = read b Number ∷ read c Number ∷ []
reads (instr.Jz a label) = read a Number ∷ []
reads (instr.Move a b) = read b Owned ∷ []
reads (instr.Get a o i) = read o Object ∷ read i Number ∷ []
reads (instr.Wget a i) = read i Number ∷ []
reads (instr.Drop a) = read a Owned ∷ []
reads (instr.Set o i v) = read o Owned ∷ read i Number ∷ read v Number ∷ []
reads (instr.Wput i v) = read i Number ∷ read v Number ∷ []
reads (instr.Put slot a) = read a Owned ∷ []
reads (instr.DevGet o n) = read o Owned ∷ read n Number ∷ []
reads (instr.DevPut n o) = read n Number ∷ read o Object ∷ []
reads (instr.Hang o place v) = read o Owned ∷ read v Owned ∷ []
reads (instr.Unhang a o place) = read o Owned ∷ []
reads (instr.Call target method args results code label) = read target Target ∷ map read_of_arg args
reads (instr.Ret results) = map (λ r. read r Passed) results
reads _ = []

-- an own object leaves its register
abbrev pub leave : Kinds → Register → Kinds
leave kinds r = if is_own (kind_in kinds r) then with_kind kinds r kind.Empty else kinds

abbrev pub leave_all : List Register → Kinds → Kinds
leave_all rs kinds = fold leave kinds rs

-- the registers of the arguments that aren't lent
abbrev pub passed : List CallArg → List Register
passed [] = []
passed (arg.Passed r ∷ args) = r ∷ passed args
passed (arg.Lent r ∷ args) = passed args

-- the registers whose objects an instruction moves, where they hold own ones
abbrev pub moved : Instr → List Register
moved (instr.Move a b) = b ∷ []
moved (instr.Drop a) = a ∷ []
moved (instr.Put slot a) = a ∷ []
moved (instr.Hang o place v) = v ∷ []
moved (instr.Call target method args results code label) = passed args
moved (instr.Ret results) = results
moved _ = []

-- the kinds once the objects that an instruction moves have left
abbrev pub left : Kinds → Instr → Kinds
left kinds i = leave_all (moved i) kinds

-- a register, and the kind of what is put into it
pub record Write : Type 0 where
  pub register : Register
  pub kind : RegKind

abbrev pub write : Register → RegKind → Write
write r k = record { register = r; kind = k }

-- numbers of any width are numbers
abbrev pub as_register : Kind → RegKind
as_register (value.Num width) = kind.Num
as_register (value.Own s) = kind.Own s
as_register (value.Lent s) = kind.Lent s
as_register (value.Cap t) = kind.Cap t

-- the method of this name of the interface that a register holds
abbrev pub method_called : Tables → RegKind → List ℕ → Option MethodRow
method_called tables (kind.Cap t) name = method_named tables t name
method_called tables _ name = None

-- the struct of the objects that hang in a cell of an object
abbrev pub hung_in : Option Kind → Option ℕ
hung_in (Some (value.Own s)) = Some s
hung_in _ = None

abbrev pub hung_at : Tables → RegKind → ℕ → Option ℕ
hung_at tables (kind.Own s) place = hung_in (slice_get (cells_of tables s) place)
hung_at tables _ place = None

abbrev pub own_kind : Option ℕ → RegKind
own_kind struct = option_map_or (λ s. kind.Own s) struct kind.Empty

-- kinds in these registers, one after the other
abbrev pub paired : List Kind → List Register → List Write
paired [] rs = []
paired (k ∷ ks) [] = []
paired (k ∷ ks) (r ∷ rs) = write r (as_register k) ∷ paired ks rs

-- what an instruction writes where control goes on at the next line
abbrev pub writes : Domain → Kinds → Instr → List Write
writes d kinds (instr.Const a n) = write a kind.Num ∷ []
writes d kinds (instr.Copy a b) = write a (kind_in kinds b) ∷ []
writes d kinds (instr.Math o a b c) = write a kind.Num ∷ []
writes d kinds (instr.Move a b) = write a (kind_in kinds b) ∷ []
writes d kinds (instr.Get a o i) = write a kind.Num ∷ []
writes d kinds (instr.Wget a i) = write a kind.Num ∷ []
writes d kinds (instr.Has a slot) = write a kind.Num ∷ []
writes d kinds (instr.Cap a import) = write a (kind.Cap (import_trait d import)) ∷ []
writes d kinds (instr.DevSize a) = write a kind.Num ∷ []
writes d kinds (instr.New a ty) = write a (kind.Own (struct_number d.tables ty)) ∷ []
writes d kinds (instr.Take a slot) = write a (kind.Own (slot_struct d slot)) ∷ []
writes d kinds (instr.Unhang a o place) = write a (own_kind (hung_at d.tables (kind_in kinds o) place)) ∷ []
writes d kinds (instr.Call target method args results code label) = paired (results_of (method_called d.tables (kind_in kinds target) method)) results
writes d kinds _ = []

abbrev pub put_all : List Write → Kinds → Kinds
put_all ws kinds = fold (λ before w. with_kind before w.register w.kind) kinds ws

-- the kinds at the next line
abbrev pub after : Domain → Kinds → Instr → Kinds
after d kinds i = put_all (writes d kinds i) (left kinds i)

-- the kinds at an instruction's label: behind a failed call the moved objects are gone, and the code has its register
abbrev pub at_label : Kinds → Instr → Kinds
at_label kinds (instr.Call target method args results code label) = with_kind (leave_all (passed args) kinds) code kind.Num
at_label kinds i = kinds

-- the kinds that a head lists, and no others
abbrev pub listed_kind : Tables → HeadKind → RegKind
listed_kind tables head.Num = kind.Num
listed_kind tables (head.Own ty) = kind.Own (struct_number tables ty)
listed_kind tables (head.Lent ty) = kind.Lent (struct_number tables ty)
listed_kind tables (head.Cap has) = kind.Cap (trait_number tables has)

abbrev pub listed : Tables → List HeadItem → List Write
listed tables items = map (λ item. write item.register (listed_kind tables item.kind)) items

abbrev pub head_kinds : Tables → List HeadItem → Kinds
head_kinds tables items = put_all (listed tables items) no_kinds

-- the parameters of a method stand in the first registers
abbrev pub put_from : ℕ → List Kind → Kinds → Kinds
put_from n [] kinds = kinds
put_from n (k ∷ ks) kinds = put_from (n + 1) ks (slice_set kinds n (as_register k))

abbrev pub entry_kinds : List Kind → Kinds
entry_kinds params = put_from 0 params no_kinds

-- the kinds behind a line
abbrev pub after_line : Domain → Kinds → DomainLine → Kinds
after_line d kinds (line.Function name) = entry_kinds (params_of (method_named d.tables (domain_trait d) name))
after_line d kinds (line.Head label items) = head_kinds d.tables items
after_line d kinds (line.Code i) = after d kinds i
after_line d kinds _ = kinds

abbrev pub after_some : Domain → Kinds → Option (Numbered DomainLine) → Kinds
after_some d kinds line = option_map_or (λ l. after_line d kinds l.form) line kinds

-- The kinds before a line. Each line has those that the line before it leaves; a function begins with its parameters, and a head makes
-- exactly the kinds that it lists.
abbrev pub kinds_at : Domain → ℕ → Kinds
kinds_at d zero = no_kinds
kinds_at d (suc n) = after_some d (kinds_at d n) (slice_get d.lines n)

-- the trait of the interface that a register is known to hold
abbrev pub trait_of_kind : RegKind → ℕ
trait_of_kind (kind.Cap t) = t
trait_of_kind _ = 0

-- the struct of an own or lent object
abbrev pub object_struct : RegKind → Option ℕ
object_struct (kind.Own s) = Some s
object_struct (kind.Lent s) = Some s
object_struct _ = None
