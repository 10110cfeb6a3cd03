-- What is kept beside the lines of a checked domain, so that no step of a run looks a name up.
use Rattle.std.specs.Prelude.{◌≡◌, ℕ, Option, Some, None, unwrap_or, fold, List}
use Rattle.std.specs.Option.{option_and_then}
use Rattle.rl_defs.specs.declared.code.Instr.TheVariants as instr
use Rattle.rl_defs.specs.declared.code.Instr.{Instr}
use Rattle.rl_defs.specs.declared.code.Register.{Register}
use Rattle.rl_defs.specs.DomainValue.{Domain}
use Rattle.rl_defs.specs.CodeNames.{Function, method_number, domain_trait, function_at, struct_number, slot_number, import_number, label_of, place_of_label}
use Rattle.rl_defs.specs.CodeKinds.{Kinds, kind_in, trait_of_kind, object_struct, kinds_at, at_label}
use Rattle.rl_defs.specs.Registers.{Registers, with_value, behind_heads, Typing, Fits}

-- the method that a function is for, by its number
abbrev pub number_of_function : Domain → Option Function → Option ℕ
number_of_function d function = option_and_then (λ f. method_number d.tables (domain_trait d) f.name) function

-- The struct, slot, import or method that an instruction at line n names, by its number. A `ret` names the method of its function.
abbrev pub number_named : Domain → ℕ → Kinds → Instr → Option ℕ
number_named d n kinds (instr.New a ty) = Some (struct_number d.tables ty)
number_named d n kinds (instr.Has a slot) = Some (slot_number d slot)
number_named d n kinds (instr.Take a slot) = Some (slot_number d slot)
number_named d n kinds (instr.Put slot a) = Some (slot_number d slot)
number_named d n kinds (instr.Cap a import) = Some (import_number d import)
number_named d n kinds (instr.Call c method args results e label) = Some (unwrap_or (method_number d.tables (trait_of_kind (kind_in kinds c)) method) 0)
number_named d n kinds (instr.Ret results) = number_of_function d (function_at d.lines n)
number_named d n kinds _ = None

-- the trait of the interface that is called, or of the domain that returns, or the struct of the object whose cell is set
abbrev pub type_named : Domain → Kinds → Instr → Option ℕ
type_named d kinds (instr.Set o i v) = object_struct (kind_in kinds o)
type_named d kinds (instr.Call c method args results e label) = Some (trait_of_kind (kind_in kinds c))
type_named d kinds (instr.Ret results) = Some (domain_trait d)
type_named d kinds _ = None

-- these registers lose what they hold
abbrev pub emptied : List Register → Registers → Registers
emptied rs regs = fold (λ before r. with_value before r None) regs rs

-- Control that comes to a line, with registers that fit these kinds, stands at the line `to` behind the heads there, and these registers
-- are emptied.
abbrev pub Leads : Domain → Kinds → ℕ → ℕ → List Register → Type 0
Leads d kinds at to rs = (types : Typing) (regs : Registers) → Fits types kinds regs → behind_heads d (record { at = at; regs = regs }) ≡ record { at = to; regs = emptied rs regs }

-- what an instruction at a line names
pub record Names (d : Domain) (n : ℕ) (i : Instr) (number of label : ℕ) : Type 0 where
  pub named : (k : ℕ) → number_named d n (kinds_at d n) i ≡ Some k → number ≡ k
  pub typed : (k : ℕ) → type_named d (kinds_at d n) i ≡ Some k → of ≡ k
  pub place : (p : ℕ) → place_of_label d n (label_of i) ≡ Some p → label ≡ p

-- where control stands that comes to a line from the line before it
abbrev pub LeadsHere : Domain → ℕ → ℕ → List Register → Type 0
LeadsHere d n to rs = Leads d (kinds_at d n) n to rs

-- where control stands that goes to the label of an instruction
abbrev pub LeadsToLabel : Domain → ℕ → Instr → ℕ → List Register → Type 0
LeadsToLabel d n i to rs = (p : ℕ) → place_of_label d n (label_of i) ≡ Some p → Leads d (at_label (kinds_at d n) i) p to rs
