-- What is known of a script's names behind some of its lines.
use Rattle.std.specs.Prelude.{◌≡◌, ℕ, ◌&&◌, Bool, List, [], ◌++◌, Option, length}
use Rattle.rl_defs.specs.declared.bundle.ClientLine.{ClientLine}
use Rattle.rl_defs.specs.declared.bundle.ScriptArgText.{ScriptArgText}
use Rattle.rl_defs.specs.declared.tables.Kind.{Kind}
use Rattle.rl_defs.specs.declared.tables.MethodRow.{MethodRow}
use Rattle.rl_defs.specs.declared.tables.Tables.{Tables}
use Rattle.rl_defs.specs.declared.bundle.Bundle.{Bundle}
use Rattle.rl_defs.specs.BundleNames.{name_given}
use Rattle.rl_defs.specs.ScriptRules.{Bound, binds, gone_by, has_count, args_suit, names_suit}
use Rattle.rl_defs.specs.CodeNames.{params_of, results_of}

-- the names that were given, what they are bound to, and those whose objects were moved or dropped
pub record Known : Type 0 where
  pub names : List (List ℕ)
  pub bound : List Bound
  pub gone : List (List ℕ)

abbrev pub bound_name : List ℕ → Kind → Bound
bound_name name kind = record { name = name; kind = kind }

-- each name has its kind
pub record IsEven (names : List (List ℕ)) (kinds : List Kind) : Type 0 where
  pub even : length names ≡ length kinds

abbrev pub nothing : Known
nothing = record { names = []; bound = []; gone = [] }

-- what is known behind one more line
abbrev pub after : Tables → Bundle → Known → ClientLine → Known
after tables b k form = record { names = k.names ++ name_given form; bound = k.bound ++ binds tables b form; gone = k.gone ++ gone_by k.bound form }

-- names more, and what they are bound to
abbrev pub with_names : Known → List (List ℕ) → List Bound → Known
with_names k names bound = record { names = k.names ++ names; bound = k.bound ++ bound; gone = k.gone }

-- the sentences of rule 50 on a call of a method
abbrev pub call_suits : Tables → Bundle → List Bound → Option MethodRow → List ScriptArgText → List (List ℕ) → Bool
call_suits tables b bound method args names = has_count method args && (args_suit tables b bound (params_of method) args && names_suit (results_of method) names)
