-- Names for parts of the definitions that proofs speak of.
use Rattle.std.specs.Prelude.{ℕ, Bool, List, [], ◌∷◌, length, Option, None, is_some, is_none}
use Rattle.std.specs.Option.{option_map, option_map_or, option_and_then, unwrap_or}
use Rattle.rl_defs.specs.declared.bundle.Numbered.{Numbered}
use Rattle.rl_defs.specs.declared.code.Register.{Register}
use Rattle.rl_defs.specs.declared.code.Instr.{Instr}
use Rattle.rl_defs.specs.declared.code.DomainLine.{DomainLine}
use Rattle.rl_defs.specs.declared.load.LoadRows.{LoadRows}
use Rattle.rl_defs.specs.declared.load.LoadRow.{LoadRow}
use Rattle.rl_defs.specs.declared.load.ShadowRow.{ShadowRow}
use Rattle.rl_defs.specs.declared.values.Value.{Value}
use Rattle.rl_defs.specs.DomainValue.{Domain}
use Rattle.rl_defs.specs.CodeKinds.{moved}
use Rattle.rl_defs.specs.Registers.{Stand}
use Rattle.machine_defs.specs.declared.values.Owner.{Owner}
use Rattle.machine_defs.specs.declared.values.Owner.TheVariants as owner
use Rattle.machine_defs.specs.declared.values.RpcCode.{RpcCode}
use Rattle.machine_defs.specs.declared.frame.Answer.{Answer}
use Rattle.machine_defs.specs.State.{State, StackFrame, Instance, Object, Shadow, Thread, stack, top, first_instance}
use Rattle.machine_defs.specs.Instructions.{after_answer}
use Rattle.machine_defs.specs.Wants.{Want, Nothing, wanted, by_top}
use Rattle.machine_defs.specs.Frames.{instr_of_form}
use Rattle.machine_defs.specs.Calling.{Wish, wish_of}

abbrev pub load_of_instance : Option Instance → ℕ
load_of_instance i = option_map_or (λ instance. instance.load) i 0

abbrev pub words_in : Option Instance → List ℕ
words_in i = option_map_or (λ instance. instance.words) i []

abbrev pub slots_in : Option Instance → List (Option ℕ)
slots_in i = option_map_or (λ instance. instance.slots) i []

abbrev pub content : Option (Option ℕ) → Option ℕ
content slot = unwrap_or slot None

abbrev pub struct_or_none : LoadRows → Option Object → ℕ
struct_or_none L x = option_map_or (λ x. x.ty) x (length L.tables.structs)

abbrev pub number_of_object : Option Object → Option ℕ
number_of_object x = option_map (λ x. x.number) x

abbrev pub owner_acting : ℕ → Option StackFrame → Owner
owner_acting t f = option_map_or (λ f. owner.Instance f.instance) f (owner.Client t)

abbrev pub instr_of_line : Option (Numbered DomainLine) → Option Instr
instr_of_line l = option_and_then (λ l. instr_of_form l.form) l

abbrev pub moved_by_instr : Option Instr → List Register
moved_by_instr i = option_map_or moved i []

abbrev pub stand_after : Domain → Stand → Answer → Option Instr → Stand
stand_after d stand a i = option_map_or (λ i. after_answer d stand i a) i stand

abbrev pub wish_in : LoadRows → State → ℕ → Option Thread → Option Wish
wish_in L s t thread = option_and_then (λ thread. wish_of L s t thread (wanted L s t)) thread

abbrev pub left_of : Option Shadow → ℕ
left_of shadow = option_map_or (λ shadow. shadow.left) shadow 0

abbrev pub is_none_code : Option RpcCode → Bool
is_none_code code = is_none code

abbrev pub instance_for : LoadRows → ℕ → Option LoadRow → List Instance
instance_for L k l = option_map_or (λ l. first_instance L k l ∷ []) l []

abbrev pub is_bound : Option Value → Bool
is_bound v = is_some v

abbrev pub by_thread : LoadRows → State → ℕ → Option Thread → Want
by_thread L s t thread = option_map_or (λ thread. by_top L s t thread (top (stack s t))) thread Nothing

abbrev pub restarts_in : Option ShadowRow → ℕ
restarts_in x = option_map_or (λ shadow. shadow.restarts) x 0
