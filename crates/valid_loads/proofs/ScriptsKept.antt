-- What each command of a script is given fits.
use Rattle.std.proofs.Common.{◌≡◌, ℕ, zero, suc, ◌<◌, ◌≤◌, ◌^◌, ◌⊎◌, inl, inr, true, false, not, ◌&&◌, List, [], ◌∷◌, length, map, Option, Some, None, refl, sym, ap, subst, ◌∙◌, arith, eqb-true, leb-true, lt-ltb}
use Rattle.std.specs.Prelude.{slice_get, unwrap_or, nat_le, ◌==◌}
use Rattle.std.specs.List.{list_any, list_all, Contains}
use Rattle.std.proofs.lemmas.List.{length-map}
use Rattle.rl_defs.specs.declared.bundle.Numbered.{Numbered}
use Rattle.rl_defs.specs.declared.bundle.Bundle.{Bundle}
use Rattle.rl_defs.specs.declared.bundle.ScriptArgText.{ScriptArgText}
use Rattle.rl_defs.specs.declared.bundle.ClientLine.{ClientLine}
use Rattle.rl_defs.specs.declared.bundle.ClientLine.TheVariants as client
use Rattle.rl_defs.specs.declared.tables.Width.TheVariants as width
use Rattle.rl_defs.specs.declared.tables.Kind.{Kind}
use Rattle.rl_defs.specs.declared.tables.Kind.TheVariants as kind
use Rattle.rl_defs.specs.declared.tables.StructRow.{StructRow}
use Rattle.rl_defs.specs.declared.tables.MethodRow.{MethodRow}
use Rattle.rl_defs.specs.declared.tables.Tables.{Tables}
use Rattle.rl_defs.specs.declared.load.Command.{Command}
use Rattle.rl_defs.specs.declared.load.Command.TheVariants as command
use Rattle.rl_defs.specs.Tokens.{is_text_byte}
use Rattle.rl_defs.specs.Interfaces.{place_of, struct_names}
use Rattle.rl_defs.specs.CodeNames.{struct_number, cells_of, params_of, results_of}
use Rattle.rl_defs.specs.NativeShapes.{is_number}
use Rattle.rl_defs.specs.NameRules.{struct_made}
use Rattle.rl_defs.specs.ScriptRules.{bound_before, kind_of, is_object, fits_cell, numbers_fit, bytes_fit, has_count, args_suit, is_own, names_suit, method_of_call}
use Rattle.rl_defs.specs.LoadOf.{load_of, script_names, name_number, arg_of, commands_in, target_number, method_number_of}
use Rattle.rl_defs.specs.Rows.{row}
use Rattle.rl_defs.specs.Rows.{commands_of as commands_of_row}
use Rattle.rl_defs.specs.Rows.{is_target}
use Rattle.rl_defs.specs.Widths.{numbers_suit, number_suits}
use Rattle.rl_defs.specs.ValidScripts.{BindsBefore, CallFits, CommandFits}
use Rattle.rl_defs.proofs.Lists.{and_left, and_right, in_list, both_true, at_contained}
use Rattle.valid_loads.proofs.Names.{declared_by, place_there}
use Rattle.valid_loads.proofs.Rules.{Kept, declared}
use Rattle.valid_loads.proofs.Texts.{text_bytes}
use Rattle.valid_loads.proofs.TablesKept.{any_at}
use Rattle.valid_loads.proofs.Traits.{struct_row_names}
use Rattle.rl_defs.proofs.Spots.{given_at}
use Rattle.valid_loads.proofs.ScriptLines.{script_of, line_of_script}
use Rattle.valid_loads.proofs.ScriptKinds.{ScriptLine, command_spot, kinds_kept, target_called, method_called, bound_earlier}
use Rattle.valid_loads.proofs.ScriptArgs.{call_args, moved_once, moved_unlent}

-- ---- objects that are made

cell_suits : (k : Kind) (n : ℕ) → fits_cell k n ≡ true → number_suits k n ≡ true
cell_suits (kind.Num w) n e = e
cell_suits (kind.Own s) n e = absurd cc
cell_suits (kind.Lent s) n e = absurd cc
cell_suits (kind.Cap c) n e = absurd cc

values_suit : (cells : List Kind) (values : List ℕ) → numbers_fit cells values ≡ true → numbers_suit cells values ≡ true
values_suit [] [] e = refl
values_suit (k ∷ cells) [] e = refl
values_suit [] (n ∷ values) e = absurd cc
values_suit (k ∷ cells) (n ∷ values) e =
    both_true (number_suits k n) (numbers_suit cells values) (cell_suits k n (and_left (fits_cell k n) (numbers_fit cells values) e)) (values_suit cells values (and_right (fits_cell k n) (numbers_fit cells values) e))

byte_cell : (k : Kind) (n : ℕ) → is_number width.W8 k ≡ true → is_text_byte n ≡ true → number_suits k n ≡ true
byte_cell (kind.Num width.W8) n e t =
    let le = leb-true n 0x7e (and_right (nat_le 0x20 n) (nat_le n 0x7e) (and_left (nat_le 0x20 n && nat_le n 0x7e) (not (n == 34)) t)) in
    lt-ltb n (2 ^ 8) (omega (arith, le))
byte_cell (kind.Num width.Bool) n e t = absurd cc
byte_cell (kind.Num width.W16) n e t = absurd cc
byte_cell (kind.Num width.W32) n e t = absurd cc
byte_cell (kind.Num width.W64) n e t = absurd cc
byte_cell (kind.Own s) n e t = absurd cc
byte_cell (kind.Lent s) n e t = absurd cc
byte_cell (kind.Cap c) n e t = absurd cc

bytes_suit : (cells : List Kind) (bytes : List ℕ) → list_all (is_number width.W8) cells ≡ true → length bytes ≤ length cells → list_all is_text_byte bytes ≡ true → numbers_suit cells bytes ≡ true
bytes_suit [] [] all le text = refl
bytes_suit (k ∷ cells) [] all le text = refl
bytes_suit [] (n ∷ bytes) all le text = absurd (omega (arith, le))
bytes_suit (k ∷ cells) (n ∷ bytes) all le text =
    both_true (number_suits k n) (numbers_suit cells bytes)
    (byte_cell k n (and_left (is_number width.W8 k) (list_all (is_number width.W8) cells) all) (and_left (is_text_byte n) (list_all is_text_byte bytes) text))
    (bytes_suit cells bytes (and_right (is_number width.W8 k) (list_all (is_number width.W8) cells) all) (omega (arith, le)) (and_right (is_text_byte n) (list_all is_text_byte bytes) text))

-- the struct of an object that is made
made_within : (tables : Tables) (b : Bundle) (t : ℕ) (form : ClientLine) → Kept tables b → ScriptLine tables b t form → (ty : List ℕ) → slice_get (struct_made form) 0 ≡ Some ty → struct_number tables ty < length tables.structs
made_within tables b t form h l ty e =
    let at = line_of_script b.clients.lines l.of.number l.of.script l.place (record { line = l.number; form = form }) l.of.here l.here in
    let p = declared_by b.clients.lines struct_made (struct_names b.idl.lines) (λ n u. declared tables b h n (inr (inr (inr (inr (inr (inr (inr (inr (inl u)))))))))) at.0 _ at.1 0 ty e in
    let names = map (λ (s : StructRow). s.name) tables.structs in
    let place : place_of ty names ≡ Some p.0 = ap (place_of ty) (sym (struct_row_names tables b h)) ∙ p.1 in
    let within = in_list names p.0 ty (place_there ty names p.0 place) in
    let number : struct_number tables ty ≡ p.0 = ap (λ (o : Option ℕ). unwrap_or o 0) place in
    omega (arith, within, number, length-map tables.structs (λ (s : StructRow). s.name))

text_suits : (tables : Tables) (b : Bundle) (t : ℕ) (name ty bytes : List ℕ) → Kept tables b → ScriptLine tables b t (client.Text name ty bytes) → numbers_suit (cells_of tables (struct_number tables ty)) bytes ≡ true
text_suits tables b t name ty bytes h l =
    let form = client.Text name ty bytes in
    let cells = cells_of tables (struct_number tables ty) in
    let at = line_of_script b.clients.lines l.of.number l.of.script l.place (record { line = l.number; form = form }) l.of.here l.here in
    let fit : bytes_fit cells bytes ≡ true = kinds_kept tables b t form h l in
    bytes_suit cells bytes (and_left (list_all (is_number width.W8) cells) (nat_le (length bytes) (length cells)) fit) (leb-true (length bytes) (length cells) (and_right (list_all (is_number width.W8) cells) (nat_le (length bytes) (length cells)) fit)) (text_bytes tables b h at.0 l.number name ty bytes at.1)

-- ---- calls

counts_match : (o : Option MethodRow) (m : MethodRow) (args : List ScriptArgText) → o ≡ Some m → has_count o args ≡ true → length m.params ≡ length args
counts_match None m args is e = absurd cc
counts_match (Some x) m args is e = let same : x ≡ m = cc in sym (ap (λ (y : MethodRow). length y.params) same) ∙ eqb-true (length x.params) (length args) e

names_count : (number : List ℕ → ℕ) (results : List Kind) (names : List (List ℕ)) → names_suit results names ≡ true → (map number names ≡ []) ⊎ (length (map number names) ≡ length results)
names_count number results [] e = inl refl
names_count number results (n ∷ names) e = inr (length-map (n ∷ names) number ∙ sym (eqb-true (length results) (length (n ∷ names)) e))

names_owned : (number : List ℕ → ℕ) (results : List Kind) (names : List (List ℕ)) → names_suit results names ≡ true → map number names ≡ [] → (s : ℕ) → Contains results (kind.Own s) → ⊥
names_owned number results [] e none s c =
    let at = at_contained results (kind.Own s) c in
    let there : list_any is_own results ≡ true = any_at is_own results at.0 (kind.Own s) at.1 refl in
    let bad : false ≡ true = sym (ap not there) ∙ e in
    absurd cc
names_owned number results (n ∷ names) e none s c = absurd cc

call_fits : (tables : Tables) (b : Bundle) (t : ℕ) (target method : List ℕ) (args : List ScriptArgText) (results : List (List ℕ)) → Kept tables b → (l : ScriptLine tables b t (client.Call target method args results)) (inner : ℕ) → CallFits (load_of tables b) t (command_spot tables b l.of.script l.place inner) (target_number b target) (method_number_of tables b target method) (map (arg_of b (script_names l.of.script)) args) (map (name_number (script_names l.of.script)) results)
call_fits tables b t target method args results h l inner =
    let form = client.Call target method args results in
    let bound = bound_before tables b l.of.script l.place in
    let o = method_of_call tables b target method in
    let to = target_called tables b t form h l 0 target refl in
    let m = method_called tables b t target method args results h l in
    let kept = kinds_kept tables b t form h l in
    let rest = and_right (has_count o args) (args_suit tables b bound (params_of o) args && names_suit (results_of o) results) kept in
    let suit : args_suit tables b bound m.row.params args ≡ true = ap (λ (x : Option MethodRow). args_suit tables b bound (params_of x) args) (sym m.named) ∙ and_left (args_suit tables b bound (params_of o) args) (names_suit (results_of o) results) rest in
    let names : names_suit m.row.results results ≡ true = ap (λ (x : Option MethodRow). names_suit (results_of x) results) (sym m.named) ∙ and_right (args_suit tables b bound (params_of o) args) (names_suit (results_of o) results) rest in
    let count = counts_match o m.row args m.named (and_left (has_count o args) (args_suit tables b bound (params_of o) args && names_suit (results_of o) results) kept) in
    record {
      target = ap (is_target (load_of tables b)) to.number ∙ to.is;
      method = m.row;
      here = m.here;
      suits = call_args tables b t target method args results h l inner m.row.params count suit;
      moves = moved_once tables b t target method args results h l m.row.params suit;
      lends = moved_unlent tables b t target method args results h l m.row.params suit;
      count = names_count (name_number (script_names l.of.script)) m.row.results results names;
      owned = names_owned (name_number (script_names l.of.script)) m.row.results results names;
    }

-- ---- commands

some_object : (o : Option Kind) → is_object o ≡ true → (s : ℕ) × (o ≡ Some (kind.Own s))
some_object (Some (kind.Own s)) e = (s, refl)
some_object (Some (kind.Num w)) e = absurd cc
some_object (Some (kind.Lent s)) e = absurd cc
some_object (Some (kind.Cap c)) e = absurd cc
some_object None e = absurd cc

object_earlier : (tables : Tables) (b : Bundle) (t : ℕ) (form : ClientLine) → Kept tables b → (l : ScriptLine tables b t form) (inner : ℕ) (name : List ℕ) → is_object (kind_of (bound_before tables b l.of.script l.place) name) ≡ true → (s : ℕ) × BindsBefore (load_of tables b) t (command_spot tables b l.of.script l.place inner) (name_number (script_names l.of.script) name) (kind.Own s)
object_earlier tables b t form h l inner name e =
    let s = some_object (kind_of (bound_before tables b l.of.script l.place) name) e in
    (s.0, bound_earlier tables b t form h l inner name (kind.Own s.0) s.1)

command_fits : (tables : Tables) (b : Bundle) (t : ℕ) (form : ClientLine) → Kept tables b → (l : ScriptLine tables b t form) (inner : ℕ) (c : Command) → slice_get (commands_in tables b (script_names l.of.script) form) inner ≡ Some c → CommandFits (load_of tables b) t (command_spot tables b l.of.script l.place inner) c
command_fits tables b t (client.Let name ty values) h l zero c e =
    let same : command.Let (name_number (script_names l.of.script) name) (struct_number tables ty) values ≡ c = cc in
    subst (CommandFits (load_of tables b) t (command_spot tables b l.of.script l.place 0)) same (made_within tables b t (client.Let name ty values) h l ty refl, values_suit (cells_of tables (struct_number tables ty)) values (kinds_kept tables b t (client.Let name ty values) h l))
command_fits tables b t (client.Text name ty bytes) h l zero c e =
    let same : command.Text (name_number (script_names l.of.script) name) (struct_number tables ty) bytes ≡ c = cc in
    subst (CommandFits (load_of tables b) t (command_spot tables b l.of.script l.place 0)) same (made_within tables b t (client.Text name ty bytes) h l ty refl, text_suits tables b t name ty bytes h l)
command_fits tables b t (client.Call target method args results) h l zero c e =
    let same : command.Call (target_number b target) (method_number_of tables b target method) (map (arg_of b (script_names l.of.script)) args) (map (name_number (script_names l.of.script)) results) ≡ c = cc in
    subst (CommandFits (load_of tables b) t (command_spot tables b l.of.script l.place 0)) same (call_fits tables b t target method args results h l 0)
command_fits tables b t (client.Show name) h l zero c e =
    let same : command.Show (name_number (script_names l.of.script) name) ≡ c = cc in
    subst (CommandFits (load_of tables b) t (command_spot tables b l.of.script l.place 0)) same (object_earlier tables b t (client.Show name) h l 0 name (kinds_kept tables b t (client.Show name) h l))
command_fits tables b t (client.Drop name) h l zero c e =
    let same : command.Drop (name_number (script_names l.of.script) name) ≡ c = cc in
    subst (CommandFits (load_of tables b) t (command_spot tables b l.of.script l.place 0)) same (object_earlier tables b t (client.Drop name) h l 0 name (kinds_kept tables b t (client.Drop name) h l))
command_fits tables b t (client.Kill target) h l zero c e =
    let same : command.Kill (target_number b target) ≡ c = cc in
    let to = target_called tables b t (client.Kill target) h l 0 target refl in
    subst (CommandFits (load_of tables b) t (command_spot tables b l.of.script l.place 0)) same (ap (is_target (load_of tables b)) to.number ∙ to.is)
command_fits tables b t (client.Let name ty values) h l (suc inner) c e = absurd cc
command_fits tables b t (client.Text name ty bytes) h l (suc inner) c e = absurd cc
command_fits tables b t (client.Call target method args results) h l (suc inner) c e = absurd cc
command_fits tables b t (client.Show name) h l (suc inner) c e = absurd cc
command_fits tables b t (client.Drop name) h l (suc inner) c e = absurd cc
command_fits tables b t (client.Kill target) h l (suc inner) c e = absurd cc
command_fits tables b t (client.Client name) h l inner c e = absurd cc
command_fits tables b t client.Close h l inner c e = absurd cc

pub fits : (tables : Tables) (b : Bundle) → Kept tables b → (t p : ℕ) (c : Command) → slice_get (commands_of_row (row (load_of tables b).clients t)) p ≡ Some c → CommandFits (load_of tables b) t p c
fits tables b h t p c e =
    let s = script_of tables b t p c e in
    let g = given_at (λ (x : Numbered ClientLine). commands_in tables b (script_names s.script) x.form) s.script p c (ap (λ (cs : List Command). slice_get cs p) (sym s.commands) ∙ e) in
    let l : ScriptLine tables b t g.item.form = record { of = s; place = g.place; number = g.item.line; here = g.here } in
    subst (λ (n : ℕ). CommandFits (load_of tables b) t n c) (sym g.is) (command_fits tables b t g.item.form h l g.inner c g.there)
