-- How a call of a domain's method begins.
use Rattle.std.specs.Prelude.{ℕ, not, ◌&&◌, Bool, List, map, Option, None, if◌then◌else◌, is_some}
use Rattle.machine_defs.specs.declared.values.Arg.{Arg}
use Rattle.rl_defs.specs.declared.tables.MethodRow.{MethodRow}
use Rattle.machine_defs.specs.Arguments.{value_of}
use Rattle.rl_defs.specs.DomainValue.{Domain}
use Rattle.rl_defs.specs.Domains.{is_native}
use Rattle.rl_defs.specs.CodeNames.{params_of, method_named, method_number, domain_trait}
use Rattle.rl_defs.specs.Registers.{Typing}
use Rattle.machine_defs.specs.CodeFits.{are_values}

-- arguments are of the parameters of a method
abbrev pub are_given : Typing → Option MethodRow → List Arg → Bool
are_given types method args = are_values types (params_of method) (map value_of args)

-- the number of the domain's method of this name, where the arguments are of its parameters
abbrev pub method_for : Typing → Domain → List ℕ → List Arg → Option ℕ
method_for types d name args = if are_given types (method_named d.tables (domain_trait d) name) args then method_number d.tables (domain_trait d) name else None

-- the domain has no native body, and it has such a method
abbrev pub may_begin : Typing → Domain → List ℕ → List Arg → Bool
may_begin types d name args = not (is_native d.lines) && is_some (method_for types d name args)
