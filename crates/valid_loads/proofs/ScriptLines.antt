-- The commands of a client, by the lines of its script.
use Rattle.std.proofs.Common.{◌≡◌, ℕ, zero, suc, inr, Bool, true, false, cond, List, [], ◌∷◌, ◌++◌, map, Option, Some, None, refl, sym, ap, ◌∙◌}
use Rattle.std.specs.Prelude.{slice_get, unwrap_or}
use Rattle.std.specs.List.{flat_map}
use Rattle.rl_defs.specs.declared.bundle.Numbered.{Numbered}
use Rattle.rl_defs.specs.declared.bundle.Bundle.{Bundle}
use Rattle.rl_defs.specs.declared.bundle.ClientLine.{ClientLine}
use Rattle.rl_defs.specs.declared.bundle.ClientLine.TheVariants as client
use Rattle.rl_defs.specs.declared.tables.Tables.{Tables}
use Rattle.rl_defs.specs.declared.load.ClientRow.{ClientRow}
use Rattle.rl_defs.specs.declared.load.Command.{Command}
use Rattle.rl_defs.specs.BundleNames.{ClientLines, given_by, name_given, client_names, ends_client, commands_at, script_before, scripts_of}
use Rattle.rl_defs.specs.LoadOf.{load_of, script_names, name_number, commands_in, commands_of, client_rows, clients_of}
use Rattle.rl_defs.specs.Rows.{bound_by, row}
use Rattle.rl_defs.specs.Rows.{commands_of as commands_of_row}
use Rattle.rl_defs.proofs.Lists.{map_get, get_map}
use Rattle.valid_loads.proofs.Names.{Apart, given_apart, apart_place, names_flat}
use Rattle.valid_loads.proofs.Rules.{Kept, once}
use Rattle.valid_loads.proofs.Rows.{flat_alike}
use Rattle.rl_defs.proofs.Spots.{flat_flat}

-- ---- the script of a client

-- The script whose lines a client's commands come from.
pub record ScriptOf (tables : Tables) (b : Bundle) (t : ℕ) : Type 0 where
  pub script : ClientLines
  pub number : ℕ
  pub here : slice_get (scripts_of b.clients.lines) number ≡ Some script
  pub commands : commands_of_row (row (clients_of tables b) t) ≡ commands_of tables b script

client_at : (tables : Tables) (b : Bundle) (names : List (List ℕ)) (scripts : List ClientLines) (k : ℕ) (r : ClientRow) → slice_get (client_rows tables b names scripts) k ≡ Some r → (script : ClientLines) × (slice_get scripts k ≡ Some script) × (r.commands ≡ commands_of tables b script)
client_at tables b [] scripts k r e = absurd cc
client_at tables b (n ∷ names) [] k r e = absurd cc
client_at tables b (n ∷ names) (s ∷ scripts) zero r e =
    let same : record { name = n; commands = commands_of tables b s } ≡ r = cc in
    (s, refl, sym (ap (λ (x : ClientRow). x.commands) same))
client_at tables b (n ∷ names) (s ∷ scripts) (suc k) r e = client_at tables b names scripts k r e

-- a client with a command has a script
pub script_of : (tables : Tables) (b : Bundle) (t p : ℕ) (c : Command) → slice_get (commands_of_row (row (clients_of tables b) t)) p ≡ Some c → ScriptOf tables b t
script_of tables b zero p c e = absurd cc
script_of tables b (suc t) p c e = by (slice_get (clients_of tables b) t) refl where
  by : (o : Option ClientRow) → slice_get (clients_of tables b) t ≡ o → ScriptOf tables b (suc t)
  by None none = let bad : None ≡ Some c = sym (ap (λ (o : Option ClientRow). slice_get (commands_of_row o) p) none) ∙ e in absurd cc
  by (Some r) some =
      let s = client_at tables b (client_names b) (scripts_of b.clients.lines) t r some in
      record { script = s.0; number = t; here = s.1; commands = ap commands_of_row some ∙ s.2 }

-- a line of a script is a line of the clients
commands_get : (lines : ClientLines) (k : ℕ) (x : Numbered ClientLine) → slice_get (commands_at lines) k ≡ Some x → (j : ℕ) × (slice_get lines j ≡ Some x)
commands_get [] k x e = absurd cc
commands_get (l ∷ ls) k x e = by (ends_client l.form) k e (λ j d. commands_get ls j x d) where
  by : (b : Bool) (k : ℕ) → slice_get (cond b [] (l ∷ commands_at ls)) k ≡ Some x → ((j : ℕ) → slice_get (commands_at ls) j ≡ Some x → (i : ℕ) × (slice_get ls i ≡ Some x)) → (j : ℕ) × (slice_get (l ∷ ls) j ≡ Some x)
  by true k e more = absurd cc
  by false zero e more = (0, e)
  by false (suc k) e more = let r = more k e in (suc r.0, r.1)

pub line_of_script : (lines : ClientLines) (n : ℕ) (script : ClientLines) (k : ℕ) (x : Numbered ClientLine) → slice_get (scripts_of lines) n ≡ Some script → slice_get script k ≡ Some x → (j : ℕ) × (slice_get lines j ≡ Some x)
line_of_script [] n script k x e d = absurd cc
line_of_script (l ∷ ls) n script k x e d = by l.form n e (λ m h. line_of_script ls m script k x h d) where
  on : (j : ℕ) × (slice_get ls j ≡ Some x) → (j : ℕ) × (slice_get (l ∷ ls) j ≡ Some x)
  on r = (suc r.0, r.1)

  by : (f : ClientLine) (n : ℕ) → slice_get (script_before f (commands_at ls) (scripts_of ls)) n ≡ Some script → ((m : ℕ) → slice_get (scripts_of ls) m ≡ Some script → (j : ℕ) × (slice_get ls j ≡ Some x)) → (j : ℕ) × (slice_get (l ∷ ls) j ≡ Some x)
  by (client.Client name) zero h more =
      let same : commands_at ls ≡ script = cc in
      on (commands_get ls k x (ap (λ (s : ClientLines). slice_get s k) same ∙ d))
  by (client.Client name) (suc n) h more = on (more n h)
  by (client.Let name ty values) n h more = on (more n h)
  by (client.Text name ty bytes) n h more = on (more n h)
  by (client.Call target method args names) n h more = on (more n h)
  by (client.Show name) n h more = on (more n h)
  by (client.Drop name) n h more = on (more n h)
  by (client.Kill target) n h more = on (more n h)
  by client.Close n h more = on (more n h)

-- ---- the names of a script

-- the names that a script binds are apart
pub names_apart : (tables : Tables) (b : Bundle) → Kept tables b → (n : ℕ) (script : ClientLines) → slice_get (scripts_of b.clients.lines) n ≡ Some script → Apart (script_names script)
names_apart tables b h n script e = given_apart (given_by name_given script) (λ m t. once tables b h m (inr (inr (inr (inr (inr (record { number = n; names = given_by name_given script; here = get_map (given_by name_given) (scripts_of b.clients.lines) n script e; twice = t })))))))

one_bound : (tables : Tables) (b : Bundle) (names : List (List ℕ)) (f : ClientLine) → flat_map bound_by (commands_in tables b names f) ≡ map (name_number names) (name_given f)
one_bound tables b names (client.Let name ty values) = refl
one_bound tables b names (client.Text name ty bytes) = refl
one_bound tables b names (client.Call target method args results) = all (map (name_number names) results) where
  all : (xs : List ℕ) → xs ++ [] ≡ xs
  all [] = refl
  all (x ∷ xs) = ap (λ (ys : List ℕ). x ∷ ys) (all xs)
one_bound tables b names (client.Client name) = refl
one_bound tables b names (client.Show name) = refl
one_bound tables b names (client.Drop name) = refl
one_bound tables b names (client.Kill target) = refl
one_bound tables b names client.Close = refl

all_bound : (tables : Tables) (b : Bundle) (script : ClientLines) → flat_map bound_by (commands_of tables b script) ≡ map (name_number (script_names script)) (script_names script)
all_bound tables b script =
    flat_flat (λ (l : Numbered ClientLine). commands_in tables b (script_names script) l.form) bound_by script
    ∙ flat_alike (λ (l : Numbered ClientLine). name_given l.form) (λ (l : Numbered ClientLine). flat_map bound_by (commands_in tables b (script_names script) l.form)) (name_number (script_names script)) (λ l. one_bound tables b (script_names script) l.form) script
    ∙ ap (map (name_number (script_names script))) (sym (names_flat name_given script))

script_numbers : (tables : Tables) (b : Bundle) → Kept tables b → (n : ℕ) (script : ClientLines) → slice_get (scripts_of b.clients.lines) n ≡ Some script → (k x : ℕ) → slice_get (flat_map bound_by (commands_of tables b script)) k ≡ Some x → x ≡ k
script_numbers tables b h n script e k x at =
    let q = map_get (name_number (script_names script)) (script_names script) k x (ap (λ (xs : List ℕ). slice_get xs k) (sym (all_bound tables b script)) ∙ at) in
    sym q.2 ∙ ap (λ (o : Option ℕ). unwrap_or o 0) (apart_place (script_names script) k q.0 (names_apart tables b h n script e) q.1)

some_command : (cs : List Command) (k x : ℕ) → slice_get (flat_map bound_by cs) k ≡ Some x → (c : Command) × (slice_get cs 0 ≡ Some c)
some_command [] k x e = absurd cc
some_command (c ∷ cs) k x e = (c, refl)

-- the names that a client binds are numbered in their order
pub numbers : (tables : Tables) (b : Bundle) → Kept tables b → (t k x : ℕ) → slice_get (flat_map bound_by (commands_of_row (row (load_of tables b).clients t))) k ≡ Some x → x ≡ k
numbers tables b h t k x e =
    let c = some_command (commands_of_row (row (clients_of tables b) t)) k x e in
    let s = script_of tables b t 0 c.0 c.1 in
    script_numbers tables b h s.number s.script s.here k x (ap (λ (cs : List Command). slice_get (flat_map bound_by cs) k) (sym s.commands) ∙ e)
