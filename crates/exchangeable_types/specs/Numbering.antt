-- Where structs begin, and what a look-up of their names says.
use Rattle.std.specs.Prelude.{ℕ, ◌+◌, List, [], ◌∷◌, Option, Some, None, is_some, if◌then◌else◌, nat_eq}
use Rattle.std.specs.Cmp.Lexicographic.{pointwise}
use Rattle.rl_defs.specs.declared.bundle.Numbered.{Numbered}
use Rattle.rl_defs.specs.declared.idl.IdlLine.{IdlLine}
use Rattle.rl_defs.specs.declared.idl.IdlLine.TheVariants as form
use Rattle.rl_defs.specs.declared.idl.TypeText.{TypeText}
use Rattle.rl_defs.specs.declared.idl.Wrap.{Wrap}
use Rattle.rl_defs.specs.declared.idl.Wrap.TheVariants as wrap
use Rattle.rl_defs.specs.Interfaces.{Lines}

-- a look-up of names after one more name was noted, where it wasn't there before
abbrev pub noted : (List ℕ → Option ℕ) → List ℕ → ℕ → List ℕ → Option ℕ
noted place name number q = if is_some (place q) then place q else (if pointwise nat_eq name q then Some number else None)

abbrev pub start_before : ℕ → IdlLine → List ℕ → List ℕ
start_before k (form.Struct name) more = k ∷ more
start_before k _ more = more

-- the places of the first lines of structs, where the first of these lines stands at place k
abbrev pub starts_from : ℕ → Lines → List ℕ
starts_from k [] = []
starts_from k (x ∷ xs) = start_before k x.form (starts_from (k + 1) xs)

-- the type of a field line
abbrev pub line_type : IdlLine → Option TypeText
line_type (form.Field name ty) = Some ty
line_type _ = None

abbrev pub field_type : Option (Numbered IdlLine) → Option TypeText
field_type None = None
field_type (Some x) = line_type x.form

-- how often a wrap repeats what it wraps
abbrev pub repeats : Wrap → ℕ
repeats (wrap.Array n) = n
repeats _ = 1
