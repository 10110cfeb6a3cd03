-- What the text of a domain declares, and the rows that a load's numbers stand for.
use Rattle.std.specs.Prelude.{ℕ, zero, suc, ◌+◌, ◌-◌, ◌||◌, Bool, true, false, List, [], ◌∷◌, length, Option, Some, None, slice_get}
use Rattle.std.specs.List.{position_or_len, list_any}
use Rattle.rl_defs.specs.declared.bundle.Numbered.{Numbered}
use Rattle.rl_defs.specs.declared.code.DomainLine.{DomainLine}
use Rattle.rl_defs.specs.declared.code.DomainLine.TheVariants as line
use Rattle.rl_defs.specs.declared.code.Native.TheVariants as native
use Rattle.rl_defs.specs.DomainValue.{Domain}
use Rattle.rl_defs.specs.declared.load.LoadRows.{LoadRows}
use Rattle.rl_defs.specs.declared.load.LoadRow.{LoadRow}
use Rattle.rl_defs.specs.declared.load.ShadowRow.{ShadowRow}
use Rattle.rl_defs.specs.declared.tables.Tables.{Tables}
use Rattle.rl_defs.specs.declared.tables.TraitRow.{TraitRow}
use Rattle.rl_defs.specs.declared.tables.MethodRow.{MethodRow}
use Rattle.rl_defs.specs.Words.{same_bytes}

-- the lines of a domain, with their numbers in the bundle
abbrev pub Lines : Type 0
Lines = List (Numbered DomainLine)

abbrev pub domain_lines : Option Domain → Lines
domain_lines None = []
domain_lines (Some d) = d.lines

-- the lines of the domain with this number, from 0
abbrev pub domain_of : LoadRows → ℕ → Lines
domain_of L d = domain_lines (slice_get L.domains d)

-- how many words each instance has: the number of the `words` line, and 530 with the native body `rv6`
abbrev pub words_of_form : DomainLine → ℕ → ℕ
words_of_form (line.Words n) others = n
words_of_form (line.Native native.Rv6) others = 530
words_of_form _ others = others

abbrev pub words_of : Lines → ℕ
words_of [] = 0
words_of (l ∷ ls) = words_of_form l.form (words_of ls)

-- the names of the slots, in the order of the text
abbrev pub with_slot : DomainLine → List (List ℕ) → List (List ℕ)
with_slot (line.Slot name ty) others = name ∷ others
with_slot _ others = others

abbrev pub slots_of : Lines → List (List ℕ)
slots_of [] = []
slots_of (l ∷ ls) = with_slot l.form (slots_of ls)

-- the line is the head of the function with this name
abbrev pub begins_function : List ℕ → DomainLine → Bool
begins_function name (line.Function n) = same_bytes n name
begins_function name _ = false

-- the place of the first line of a function's body
abbrev pub body_of_function : Lines → List ℕ → ℕ
body_of_function lines name = position_or_len (λ l. begins_function name l.form) lines + 1

-- the name of the trait that a domain has
abbrev pub trait_of_form : DomainLine → List ℕ → List ℕ
trait_of_form (line.Domain name has) others = has
trait_of_form _ others = others

abbrev pub trait_name : Lines → List ℕ
trait_name [] = []
trait_name (l ∷ ls) = trait_of_form l.form (trait_name ls)

-- the trait of a name
abbrev pub trait_named : Tables → List ℕ → Option TraitRow
trait_named tables name = slice_get tables.traits (position_or_len (λ t. same_bytes t.name name) tables.traits)

-- a method of a trait by its number, from 0
abbrev pub method_in : Option TraitRow → ℕ → Option MethodRow
method_in None m = None
method_in (Some t) m = slice_get t.methods m

-- a row by its number, from 1
abbrev pub row : {A : Type 0} → List A → ℕ → Option A
row xs zero = None
row xs (suc k) = slice_get xs k

-- the load with this number
abbrev pub load_row : LoadRows → ℕ → Option LoadRow
load_row L k = row L.loads k

-- the shadow with this target's number: they are numbered on after the last load
abbrev pub shadow_row : LoadRows → ℕ → Option ShadowRow
shadow_row L x = row L.shadows (x - length L.loads)

-- the load of a target: a load is its own, and a shadow has the one that it stands for
abbrev pub load_of_shadow : Option ShadowRow → ℕ
load_of_shadow None = 0
load_of_shadow (Some x) = x.load

abbrev pub load_of_row : LoadRows → ℕ → Option LoadRow → ℕ
load_of_row L target None = load_of_shadow (shadow_row L target)
load_of_row L target (Some l) = target

abbrev pub load_of_target : LoadRows → ℕ → ℕ
load_of_target L target = load_of_row L target (load_row L target)

-- the lines of a load's domain
abbrev pub lines_of_row : LoadRows → Option LoadRow → Lines
lines_of_row L None = []
lines_of_row L (Some l) = domain_of L l.domain

abbrev pub lines_of_load : LoadRows → ℕ → Lines
lines_of_load L k = lines_of_row L (load_row L k)

-- whether a domain has a native body
abbrev pub names_native : DomainLine → Bool
names_native (line.Native n) = true
names_native _ = false

abbrev pub is_native : Lines → Bool
is_native lines = list_any (λ l. names_native l.form) lines

-- whether one thread at a time may be in a load's instances: where the plan says so, and with a native body always
abbrev pub is_serial_row : LoadRows → Option LoadRow → Bool
is_serial_row L None = false
is_serial_row L (Some l) = l.serial || is_native (domain_of L l.domain)

abbrev pub is_serial : LoadRows → ℕ → Bool
is_serial L k = is_serial_row L (load_row L k)

-- the method of a target
abbrev pub method_of : LoadRows → ℕ → ℕ → Option MethodRow
method_of L target m = method_in (trait_named L.tables (trait_name (lines_of_load L (load_of_target L target)))) m

-- the name of a target
abbrev pub shadow_name : Option ShadowRow → List ℕ
shadow_name None = []
shadow_name (Some x) = x.name

abbrev pub row_name : LoadRows → ℕ → Option LoadRow → List ℕ
row_name L target None = shadow_name (shadow_row L target)
row_name L target (Some l) = l.name

abbrev pub target_name : LoadRows → ℕ → List ℕ
target_name L target = row_name L target (load_row L target)

-- the name of a method of a target
abbrev pub method_row_name : Option MethodRow → List ℕ
method_row_name None = []
method_row_name (Some m) = m.name

abbrev pub method_name : LoadRows → ℕ → ℕ → List ℕ
method_name L target m = method_row_name (method_of L target m)
