-- Rules 3 and 4 in the clients.
use Rattle.std.specs.Prelude.{◌≡◌, ℕ, ◌||◌, ◌⊎◌, Bool, List, [], ◌++◌, map}
use Rattle.rl_defs.specs.declared.bundle.ClientLine.{ClientLine}
use Rattle.rl_defs.specs.declared.bundle.ClientLine.TheVariants as client
use Rattle.rl_defs.specs.declared.bundle.Bundle.{Bundle}
use Rattle.rl_defs.specs.Refusals.{Failing}
use Rattle.rl_defs.specs.Interfaces.{struct_names}
use Rattle.rl_defs.specs.BundleNames.{client_given, name_given, target_names, given_by, scripts_of}
use Rattle.rl_defs.specs.NameRules.{GivenTwice, GivenTwiceInOne, struct_made, targets_called, names_used, NamesUnknown, UnknownScriptName}
use Rattle.bundle_names.specs.declared.clients.Scripts.{Scripts}
use Rattle.bundle_names.specs.declared.clients.Usable.{Usable}
use Rattle.bundle_names.specs.Tests.{repeats, has_unknown}

-- rule 4: a line of the clients names what nothing declares
abbrev pub ClientNamesNothing : Bundle → ℕ → Type 0
ClientNamesNothing b n =
    NamesUnknown b.clients.lines struct_made (struct_names b.idl.lines) n
    ⊎ (NamesUnknown b.clients.lines targets_called (target_names b) n
    ⊎ UnknownScriptName b n)

-- which of the rules 3 and 4 fail at which lines of the clients
abbrev pub FailsClientNames : Bundle → Failing
FailsClientNames b n rule = ((rule ≡ 3) × (GivenTwice (given_by client_given b.clients.lines) n ⊎ GivenTwiceInOne (map (given_by name_given) (scripts_of b.clients.lines)) n)) ⊎ ((rule ≡ 4) × ClientNamesNothing b n)

abbrev pub no_scripts : Scripts
no_scripts = record { clients = []; bound = [] }

-- a client begins with no names bound
abbrev pub bound_after : List (List ℕ) → ClientLine → List (List ℕ)
bound_after bound (client.Client name) = []
bound_after bound form = bound ++ name_given form

abbrev pub script_after : Scripts → ClientLine → Scripts
script_after s form = record { clients = s.clients ++ client_given form; bound = bound_after s.bound form }

-- a line gives a client's name again, or binds a script name again
abbrev pub names_again : Scripts → ClientLine → Bool
names_again s form = repeats s.clients (client_given form) || repeats s.bound (name_given form)

abbrev pub usable_names : Bundle → Usable
usable_names b = record { structs = struct_names b.idl.lines; targets = target_names b }

-- a line of the clients names what nothing declares, or a script name that no earlier line binds
abbrev pub uses_nothing : Usable → Scripts → ClientLine → Bool
uses_nothing u s form =
    has_unknown u.structs (struct_made form)
    || (has_unknown u.targets (targets_called form)
    || has_unknown s.bound (names_used form))
