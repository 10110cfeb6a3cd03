-- Rules 3 and 4 in the clients, line by line.
use Rattle.bundle_names.proofs.Lists.{get_map, get_map_back}
use Rattle.std.proofs.Common.{sym, subst, ◌≡◌, ℕ, Bool, true, false, ◌||◌, [], Some, ◌⊎◌, inl, inr, refl, map, subst, List}
use Rattle.std.specs.Prelude.{take}
use Rattle.rl_defs.specs.declared.bundle.ClientLine.{ClientLine}
use Rattle.rl_defs.specs.declared.bundle.Bundle.{Bundle}
use Rattle.rl_defs.specs.Interfaces.{struct_names}
use Rattle.rl_defs.specs.Parts.{block_behind, forms_of}
use Rattle.rl_defs.specs.BundleParts.{client_part, Outside}
use Rattle.rl_defs.specs.BundleNames.{given_by, names_of, client_given, name_given, target_names, scripts_of, Given}
use Rattle.rl_defs.specs.NameRules.{struct_made, targets_called, names_used, UnknownScriptName, GivenTwice, GivenTwiceInOne}
use Rattle.rl_defs.specs.BundleOrder.{Rise, numbers_of}
use Rattle.bundle_names.specs.declared.clients.Scripts.{Scripts}
use Rattle.bundle_names.specs.Tests.{repeats, has_unknown}
use Rattle.bundle_names.specs.ClientNames.{ClientNamesNothing, FailsClientNames, no_scripts, bound_after, script_after, names_again, usable_names, uses_nothing}
use Rattle.bundle_names.proofs.Naming.{unknown_used, used_unknown}
use Rattle.bundle_names.proofs.Walking.{Meets, meets_or, or_meets_first, or_meets_second, part_meets, meets_part, Left}
use Rattle.bundle_names.proofs.Giving.{given_more, given_before, twice_meets, meets_twice}
use Rattle.bundle_names.proofs.PlanLaws.{unknown_meets, meets_unknown}
use Rattle.bundle_names.proofs.ScriptLaws.{Test, SomeMeets, SkipsHeads, going_meets, meets_going, in_order, from_place, to_place}

-- a command binds a name again, or uses one that isn't bound
abbrev binds_again : Test
binds_again bound f = repeats bound (name_given f)

abbrev uses_unbound : Test
uses_unbound bound f = has_unknown bound (names_used f)

binds_skips : SkipsHeads binds_again
binds_skips = record { heads = λ bound name h. let f : false ≡ true = h in cc; closes = λ bound h. let f : false ≡ true = h in cc }

uses_skips : SkipsHeads uses_unbound
uses_skips = record { heads = λ bound name h. let f : false ≡ true = h in cc; closes = λ bound h. let f : false ≡ true = h in cc }

-- a script name that is bound again
twice_some : (b : Bundle) (n : ℕ) → GivenTwiceInOne (map (given_by name_given) (scripts_of b.clients.lines)) n → SomeMeets binds_again (scripts_of b.clients.lines) n
twice_some b n t =
    let script = get_map_back (given_by name_given) (scripts_of b.clients.lines) t.number t.names t.here in
    let at = to_place binds_again [] script.0 n (twice_meets name_given script.0 n (subst (λ (gs : List Given). GivenTwice gs n) (sym script.2) t.twice)) in
    record { number = t.number; script = script.0; there = script.1; meets = record { place = at.place; form = at.form; here = at.here; holds = at.holds } }

some_twice : (b : Bundle) (n : ℕ) → SomeMeets binds_again (scripts_of b.clients.lines) n → GivenTwiceInOne (map (given_by name_given) (scripts_of b.clients.lines)) n
some_twice b n s = record {
  number = s.number;
  names = given_by name_given s.script;
  here = get_map (given_by name_given) (scripts_of b.clients.lines) s.number s.script s.there;
  twice = meets_twice name_given s.script n (from_place binds_again [] s.script n s.meets.place s.meets.form s.meets.here s.meets.holds);
}

-- a script name that isn't bound
unknown_some : (b : Bundle) (n : ℕ) → UnknownScriptName b n → SomeMeets uses_unbound (scripts_of b.clients.lines) n
unknown_some b n u = let at = u.command in record { number = at.number; script = at.script; there = at.client; meets = record { place = at.place; form = at.form; here = at.here; holds = unknown_used (names_of (given_by name_given (take at.place at.script))) (names_used at.form) u.unknown } }

some_unknown : (b : Bundle) (n : ℕ) → SomeMeets uses_unbound (scripts_of b.clients.lines) n → UnknownScriptName b n
some_unknown b n s = record {
  command = record { script = s.script; number = s.number; client = s.there; place = s.meets.place; form = s.meets.form; here = s.meets.here };
  unknown = used_unknown (names_of (given_by name_given (take s.meets.place s.script))) (names_used s.meets.form) s.meets.holds;
}

abbrev clients_again : Scripts → ClientLine → Bool
clients_again s f = repeats s.clients (client_given f)

abbrev scripts_again : Scripts → ClientLine → Bool
scripts_again s f = repeats s.bound (name_given f)

abbrev scripts_unbound : Scripts → ClientLine → Bool
scripts_unbound s f = has_unknown s.bound (names_used f)

abbrev structs_unknown : Bundle → Scripts → ClientLine → Bool
structs_unknown b s f = has_unknown (struct_names b.idl.lines) (struct_made f)

abbrev targets_unknown : Bundle → Scripts → ClientLine → Bool
targets_unknown b s f = has_unknown (target_names b) (targets_called f)

abbrev from_targets : Bundle → Scripts → ClientLine → Bool
from_targets b s f = targets_unknown b s f || scripts_unbound s f

-- a line of the clients names what nothing declares
abbrev pub nothing_used : Bundle → Scripts → ClientLine → Bool
nothing_used b s f = uses_nothing (usable_names b) s f

-- the clients' lines are in order
abbrev InOrder : Bundle → Type 0
InOrder b = block_behind client_part (forms_of b.clients.lines) ≡ Some client_part.outside

client_again : (b : Bundle) (n : ℕ) → InOrder b → GivenTwice (given_by client_given b.clients.lines) n ⊎ GivenTwiceInOne (map (given_by name_given) (scripts_of b.clients.lines)) n → Meets script_after names_again no_scripts b.clients.lines n
client_again b n order (inl t) = or_meets_first script_after clients_again scripts_again no_scripts b.clients.lines n (part_meets script_after (given_more client_given) (given_before client_given) (λ s. s.clients) (λ s f. refl) no_scripts b.clients.lines n (twice_meets client_given b.clients.lines n t))
client_again b n order (inr t) = or_meets_second script_after clients_again scripts_again no_scripts b.clients.lines n (part_meets script_after bound_after binds_again (λ s. s.bound) (λ s f. refl) no_scripts b.clients.lines n (going_meets binds_again Outside [] b.clients.lines n (in_order b.clients.lines order) (twice_some b n t)))

again_client : (b : Bundle) (n : ℕ) → InOrder b → Meets script_after names_again no_scripts b.clients.lines n → GivenTwice (given_by client_given b.clients.lines) n ⊎ GivenTwiceInOne (map (given_by name_given) (scripts_of b.clients.lines)) n
again_client b n order h = elim (meets_or script_after clients_again scripts_again no_scripts b.clients.lines n h) [
  | inl t ↦ inl (meets_twice client_given b.clients.lines n (meets_part script_after (given_more client_given) (given_before client_given) (λ s. s.clients) (λ s f. refl) no_scripts b.clients.lines n t))
  | inr t ↦ inr (some_twice b n (meets_going binds_again binds_skips Outside [] b.clients.lines n (in_order b.clients.lines order) (meets_part script_after bound_after binds_again (λ s. s.bound) (λ s f. refl) no_scripts b.clients.lines n t)))
]

client_nothing : (b : Bundle) (n : ℕ) → InOrder b → ClientNamesNothing b n → Meets script_after (nothing_used b) no_scripts b.clients.lines n
client_nothing b n order (inl u) = or_meets_first script_after (structs_unknown b) (from_targets b) no_scripts b.clients.lines n (unknown_meets script_after no_scripts b.clients.lines struct_made (struct_names b.idl.lines) n u)
client_nothing b n order (inr (inl u)) = or_meets_second script_after (structs_unknown b) (from_targets b) no_scripts b.clients.lines n (or_meets_first script_after (targets_unknown b) scripts_unbound no_scripts b.clients.lines n (unknown_meets script_after no_scripts b.clients.lines targets_called (target_names b) n u))
client_nothing b n order (inr (inr u)) = or_meets_second script_after (structs_unknown b) (from_targets b) no_scripts b.clients.lines n (or_meets_second script_after (targets_unknown b) scripts_unbound no_scripts b.clients.lines n (part_meets script_after bound_after uses_unbound (λ s. s.bound) (λ s f. refl) no_scripts b.clients.lines n (going_meets uses_unbound Outside [] b.clients.lines n (in_order b.clients.lines order) (unknown_some b n u))))

nothing_client : (b : Bundle) (n : ℕ) → InOrder b → Meets script_after (nothing_used b) no_scripts b.clients.lines n → ClientNamesNothing b n
nothing_client b n order h = elim (meets_or script_after (structs_unknown b) (from_targets b) no_scripts b.clients.lines n h) [
  | inl u ↦ inl (meets_unknown script_after no_scripts b.clients.lines struct_made (struct_names b.idl.lines) n u)
  | inr r ↦ inr (elim (meets_or script_after (targets_unknown b) scripts_unbound no_scripts b.clients.lines n r) [
    | inl u ↦ inl (meets_unknown script_after no_scripts b.clients.lines targets_called (target_names b) n u)
    | inr u ↦ inr (some_unknown b n (meets_going uses_unbound uses_skips Outside [] b.clients.lines n (in_order b.clients.lines order) (meets_part script_after bound_after uses_unbound (λ s. s.bound) (λ s f. refl) no_scripts b.clients.lines n u)))
  ])
]

-- the rules fail in the clients where they fail line by line
pub clients_left : (b : Bundle) → InOrder b → Rise (numbers_of b.clients.lines) → Left (FailsClientNames b) script_after names_again (nothing_used b) no_scripts b.clients.lines
clients_left b order rises = record {
  to = λ n r f. elim f [ inl t ↦ inl (t.0, client_again b n order t.1) | inr u ↦ inr (u.0, client_nothing b n order u.1) ];
  of = λ n r f. elim f [ inl t ↦ inl (t.0, again_client b n order t.1) | inr u ↦ inr (u.0, nothing_client b n order u.1) ];
  rises = rises;
}
