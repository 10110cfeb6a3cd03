-- The load of the run that moves an object twice is valid.
use Rattle.std.proofs.Common.{◌≡◌, ℕ, zero, suc, inr, false, List, [], ◌∷◌, Some, refl, subst, arith, ◌≤◌}
use Rattle.std.specs.Prelude.{slice_get, codes}
use Rattle.rl_defs.specs.declared.tables.Kind.TheVariants as kind
use Rattle.rl_defs.specs.declared.tables.MethodRow.{MethodRow}
use Rattle.rl_defs.specs.declared.load.LoadRow.{LoadRow}
use Rattle.rl_defs.specs.declared.load.ClientRow.{ClientRow}
use Rattle.rl_defs.specs.declared.load.Command.{Command}
use Rattle.rl_defs.specs.declared.load.Command.TheVariants as command
use Rattle.rl_defs.specs.declared.load.ScriptArg.TheVariants as given
use Rattle.rl_defs.specs.Domains.{row, load_row}
use Rattle.rl_defs.specs.CodeNames.{structs_used, traits_used}
use Rattle.rl_defs.specs.TableSizes.{IsStructSmall, IsMethodSmall, IsTraitSmall, AreTablesSmall}
use Rattle.rl_defs.specs.ValidScripts.{BindsBefore, CallFits, CommandFits, IsValidScript}
use Rattle.rl_defs.specs.Valid.{IsOwnable, IsPassable, IsValidStruct, IsValidMethod, IsValidTrait, AreValidTables, IsValidDomain, IsValidLoad, IsValidShadow, Valid}
use Rattle.rl_defs.proofs.Lists.{in_list, pairs_of}
use Rattle.worked_runs.specs.Parts.{struct_p, client, load_of as load_row_of}
use Rattle.worked_runs.specs.MovedTwice.{pass_tables, returning, handing_on, moved_load}
use Rattle.worked_runs.proofs.Showing.{all_each, names_differ, lines_known, no_objects, rules_kept}

-- ---- tables

abbrev pass : MethodRow
pass = record { name = codes "p"; idempotent = false; params = kind.Own 0 ∷ []; results = kind.Own 0 ∷ [] }

tables_small : AreTablesSmall pass_tables
tables_small = record {
  few_structs = omega arith;
  few_traits = omega arith;
  structs = all_each IsStructSmall pass_tables.structs (omega arith, tt);
  traits = all_each IsTraitSmall pass_tables.traits (record { few = omega arith; methods = all_each IsMethodSmall (pass ∷ []) (record { params = omega arith; results = omega arith }, tt) }, tt);
}

valid_struct : IsValidStruct pass_tables struct_p
valid_struct = record {
  cells = all_each (IsOwnable pass_tables) struct_p.flat (tt, tt);
  one_deep = λ h g c d. no_objects struct_p.flat refl h c;
}

valid_method : IsValidMethod pass_tables pass
valid_method = record {
  params = all_each (IsPassable pass_tables) pass.params (omega arith, tt);
  results = all_each (IsOwnable pass_tables) pass.results (omega arith, tt);
  repeats = λ again. absurd (cc);
}

valid_tables : AreValidTables pass_tables
valid_tables = record {
  small = tables_small;
  structs = all_each (IsValidStruct pass_tables) pass_tables.structs (valid_struct, tt);
  traits = all_each (IsValidTrait pass_tables) pass_tables.traits (record { methods = all_each (IsValidMethod pass_tables) (pass ∷ []) (valid_method, tt); names = names_differ (codes "p" ∷ []) refl }, tt);
  names = names_differ (codes "P" ∷ codes "Pass" ∷ []) refl;
}

-- ---- domains

valid_returning : IsValidDomain pass_tables returning
valid_returning = record {
  checked_with = refl;
  keeps = record { short = omega arith; small = tables_small; ordered = (refl, refl, refl); rules = rules_kept returning refl };
  words = omega arith;
  slots = omega arith;
  slot_names = names_differ [] refl;
  import_names = names_differ [] refl;
  function_names = names_differ (codes "p" ∷ []) refl;
  structs = lines_known (codes "P" ∷ []) structs_used returning.lines refl;
  traits = lines_known (codes "Pass" ∷ []) traits_used returning.lines refl;
}

valid_handing_on : IsValidDomain pass_tables handing_on
valid_handing_on = record {
  checked_with = refl;
  keeps = record { short = omega arith; small = tables_small; ordered = (refl, refl, refl); rules = rules_kept handing_on refl };
  words = omega arith;
  slots = omega arith;
  slot_names = names_differ [] refl;
  import_names = names_differ (codes "next" ∷ []) refl;
  function_names = names_differ (codes "p" ∷ []) refl;
  structs = lines_known (codes "P" ∷ []) structs_used handing_on.lines refl;
  traits = lines_known (codes "Pass" ∷ []) traits_used handing_on.lines refl;
}

-- ---- loads

valid_loads : (k : ℕ) (load : LoadRow) → load_row moved_load k ≡ Some load → IsValidLoad moved_load k load
valid_loads zero load e = absurd cc
valid_loads (suc zero) load e =
    let same : load_row_of (codes "b") 0 [] ≡ load = cc in
    subst (IsValidLoad moved_load 1) same (record { domain = omega arith; binds = tt })
valid_loads (suc (suc zero)) load e =
    let same : load_row_of (codes "a") 1 (1 ∷ []) ≡ load = cc in
    subst (IsValidLoad moved_load 2) same (record { domain = omega arith; binds = (record { target = refl; trait = refl; before = omega arith }, tt) })
valid_loads (suc (suc (suc k))) load e = absurd cc

-- ---- the script

abbrev script : List Command
script = command.Let 0 0 (7 ∷ []) ∷ command.Call 2 0 (given.Name 0 ∷ []) (1 ∷ []) ∷ command.Drop 1 ∷ []

let_before : BindsBefore moved_load 1 1 0 (kind.Own 0)
let_before = record { binds = record { place = 0; next = command.Let 0 0 (7 ∷ []); here = refl; at = 0; name = refl; kind = refl }; before = omega arith }

call_before : BindsBefore moved_load 1 2 1 (kind.Own 0)
call_before = record { binds = record { place = 1; next = command.Call 2 0 (given.Name 0 ∷ []) (1 ∷ []); here = refl; at = 0; name = refl; kind = refl }; before = omega arith }

call_fits : CallFits moved_load 1 1 2 0 (given.Name 0 ∷ []) (1 ∷ [])
call_fits = record {
  target = refl;
  method = pass;
  here = refl;
  suits = (let_before, tt);
  moves = λ i j k s r e d f g. (let a = in_list (given.Name 0 ∷ []) i (given.Name k) e in let b = in_list (given.Name 0 ∷ []) j (given.Name k) f in omega (arith, a, b));
  lends = lends;
  count = inr refl;
  owned = λ none. absurd (cc);
} where
  lends : (i j k s : ℕ) → slice_get (given.Name 0 ∷ []) i ≡ Some (given.Name k) → slice_get (kind.Own 0 ∷ []) i ≡ Some (kind.Own s) → slice_get (given.Name 0 ∷ []) j ≡ Some (given.Lent k) → ⊥
  lends i zero k s e d f = absurd cc
  lends i (suc j) k s e d f = absurd cc

commands_fit : (p : ℕ) (c : Command) → slice_get script p ≡ Some c → CommandFits moved_load 1 p c
commands_fit zero c e =
    let same : command.Let 0 0 (7 ∷ []) ≡ c = cc in
    subst (CommandFits moved_load 1 0) same (omega arith, refl)
commands_fit (suc zero) c e =
    let same : command.Call 2 0 (given.Name 0 ∷ []) (1 ∷ []) ≡ c = cc in
    subst (CommandFits moved_load 1 1) same call_fits
commands_fit (suc (suc zero)) c e =
    let same : command.Drop 1 ≡ c = cc in
    subst (CommandFits moved_load 1 2) same (0, call_before)
commands_fit (suc (suc (suc p))) c e = absurd cc

names_numbered : (k n : ℕ) → slice_get (0 ∷ 1 ∷ []) k ≡ Some n → n ≡ k
names_numbered zero n e = cc
names_numbered (suc zero) n e = cc
names_numbered (suc (suc k)) n e = absurd cc

valid_clients : (t : ℕ) (c : ClientRow) → row moved_load.clients t ≡ Some c → IsValidScript moved_load t c.commands
valid_clients zero c e = absurd cc
valid_clients (suc zero) c e =
    let same : client (codes "x") script ≡ c = cc in
    subst (λ (x : ClientRow). IsValidScript moved_load 1 x.commands) same (record { few = omega arith; fits = commands_fit; names = names_numbered })
valid_clients (suc (suc t)) c e = absurd cc

pub moved_valid : Valid moved_load
moved_valid = record {
  tables = valid_tables;
  domains = all_each (IsValidDomain pass_tables) (returning ∷ handing_on ∷ []) (valid_returning, (valid_handing_on, tt));
  loads = valid_loads;
  shadows = all_each (IsValidShadow moved_load) [] tt;
  clients = valid_clients;
  one_shadow = pairs_of [] (λ j k n e d. absurd cc);
  target_names = names_differ (codes "b" ∷ codes "a" ∷ []) refl;
  client_names = names_differ (codes "x" ∷ []) refl;
  few_loads = omega arith;
  few_clients = omega arith;
  order = all_each (λ (t : ℕ). (1 ≤ t) × (t ≤ 1)) [] tt;
  fuel = (omega arith, omega arith);
  device = omega arith;
  blocks = omega arith;
}
