-- What the names of a script are bound to.
use Rattle.std.proofs.Common.{◌≡◌, ℕ, zero, suc, inl, inr, Bool, true, false, cond, nat_eq, List, [], ◌∷◌, map, take, Option, Some, None, refl, sym, ap, ◌∙◌}
use Rattle.std.specs.Prelude.{slice_get}
use Rattle.std.specs.Cmp.Lexicographic.{pointwise}
use Rattle.rl_defs.specs.declared.bundle.Numbered.{Numbered}
use Rattle.rl_defs.specs.declared.bundle.Bundle.{Bundle}
use Rattle.rl_defs.specs.declared.bundle.ScriptArgText.{ScriptArgText}
use Rattle.rl_defs.specs.declared.bundle.ClientLine.{ClientLine}
use Rattle.rl_defs.specs.declared.bundle.ClientLine.TheVariants as client
use Rattle.rl_defs.specs.declared.tables.Kind.{Kind}
use Rattle.rl_defs.specs.declared.tables.Kind.TheVariants as kind
use Rattle.rl_defs.specs.declared.tables.MethodRow.{MethodRow}
use Rattle.rl_defs.specs.declared.tables.Tables.{Tables}
use Rattle.rl_defs.specs.declared.load.Command.{Command}
use Rattle.rl_defs.specs.declared.load.Command.TheVariants as command
use Rattle.rl_defs.specs.CodeNames.{results_of}
use Rattle.rl_defs.specs.Domains.{method_of}
use Rattle.rl_defs.specs.BundleNames.{ClientLines, target_names}
use Rattle.rl_defs.specs.NameRules.{targets_called}
use Rattle.rl_defs.specs.ScriptRules.{Bound, paired, binds, bound_before, kind_of, keeps_kinds, has_count, method_of_call}
use Rattle.rl_defs.specs.LoadOf.{load_of, script_names, name_number, arg_of, commands_in, target_number, method_number_of}
use Rattle.rl_defs.specs.Rows.{bound_by}
use Rattle.rl_defs.specs.Rows.{kinds_given}
use Rattle.rl_defs.specs.ValidScripts.{BindsBefore}
use Rattle.rl_defs.proofs.Lists.{comes, not_false, and_left, get_map}
use Rattle.valid_loads.proofs.Names.{declared_by, same_name}
use Rattle.valid_loads.proofs.Rules.{Kept, declared}
use Rattle.valid_loads.proofs.TargetNames.{TargetNamed, target_named}
use Rattle.valid_loads.proofs.Traits.{method_is}
use Rattle.rl_defs.proofs.Spots.{spot, take_get, stands_at, spot_before}
use Rattle.valid_loads.proofs.ScriptLines.{ScriptOf, line_of_script}

-- ---- what a line of a script keeps

-- A line of a client's script, by its place there.
pub record ScriptLine (tables : Tables) (b : Bundle) (t : ℕ) (form : ClientLine) : Type 0 where
  pub of : ScriptOf tables b t
  pub place : ℕ
  pub number : ℕ
  pub here : slice_get of.script place ≡ Some (record { line = number; form = form })

pub kinds_kept : (tables : Tables) (b : Bundle) (t : ℕ) (form : ClientLine) → Kept tables b → (l : ScriptLine tables b t form) → keeps_kinds tables b (bound_before tables b l.of.script l.place) form ≡ true
kinds_kept tables b t form h l = not_false (keeps_kinds tables b (bound_before tables b l.of.script l.place) form) (λ broken. h.scripts l.number 50 (inl (
  refl,
  record {
    command = record { script = l.of.script; number = l.of.number; client = l.of.here; place = l.place; form = form; here = l.here };
    broken = broken;
  },
)))

-- the target that a line of a script calls or passes
pub target_called : (tables : Tables) (b : Bundle) (t : ℕ) (form : ClientLine) → Kept tables b → ScriptLine tables b t form → (i : ℕ) (target : List ℕ) → slice_get (targets_called form) i ≡ Some target → TargetNamed tables b target
target_called tables b t form h l i target e =
    let at = line_of_script b.clients.lines l.of.number l.of.script l.place (record { line = l.number; form = form }) l.of.here l.here in
    let p = declared_by b.clients.lines targets_called (target_names b) (λ n u. declared tables b h n (inr (inr (inr (inr (inr (inr (inr (inr (inr (inl u))))))))))) at.0 _ at.1 i target e in
    target_named tables b target p.0 h p.1

some_method : (o : Option MethodRow) (args : List ScriptArgText) → has_count o args ≡ true → (m : MethodRow) × (o ≡ Some m)
some_method None args e = absurd cc
some_method (Some m) args e = (m, refl)

-- A call's method, by its name and by its number.
pub record MethodCalled (tables : Tables) (b : Bundle) (target method : List ℕ) : Type 0 where
  pub row : MethodRow
  pub named : method_of_call tables b target method ≡ Some row
  pub here : method_of (load_of tables b) (target_number b target) (method_number_of tables b target method) ≡ Some row

pub method_called : (tables : Tables) (b : Bundle) (t : ℕ) (target method : List ℕ) (args : List ScriptArgText) (names : List (List ℕ)) → Kept tables b → ScriptLine tables b t (client.Call target method args names) → MethodCalled tables b target method
method_called tables b t target method args names h l =
    let to = target_called tables b t (client.Call target method args names) h l 0 target refl in
    let count = and_left (has_count (method_of_call tables b target method) args) _ (kinds_kept tables b t (client.Call target method args names) h l) in
    let m = some_method (method_of_call tables b target method) args count in
    record { row = m.0; named = m.1; here = method_is tables b target method h to m.0 m.1 }

-- ---- what binds a name

-- a name's kind is that of the first that is bound under it
record KindAt (bound : List Bound) (name : List ℕ) (of : Kind) : Type 0 where
  place : ℕ
  one : Bound
  here : slice_get bound place ≡ Some one
  is_name : one.name ≡ name
  is_kind : one.kind ≡ of

kind_at : (bound : List Bound) (name : List ℕ) (of : Kind) → kind_of bound name ≡ Some of → KindAt bound name of
kind_at [] name of e = absurd cc
kind_at (x ∷ bound) name of e = by (pointwise nat_eq x.name name) refl e (λ d. kind_at bound name of d) where
  by : (b : Bool) → pointwise nat_eq x.name name ≡ b → cond b (Some x.kind) (kind_of bound name) ≡ Some of → (kind_of bound name ≡ Some of → KindAt bound name of) → KindAt (x ∷ bound) name of
  by true is e more = record { place = 0; one = x; here = refl; is_name = same_name x.name name is; is_kind = cc }
  by false is e more = let k = more e in record { place = suc k.place; one = k.one; here = k.here; is_name = k.is_name; is_kind = k.is_kind }

-- A command of the client gives a name to values of a kind.
record Gives (tables : Tables) (b : Bundle) (names : List (List ℕ)) (form : ClientLine) (x : Bound) : Type 0 where
  next : Command
  here : slice_get (commands_in tables b names form) 0 ≡ Some next
  at : ℕ
  name : slice_get (bound_by next) at ≡ Some (name_number names x.name)
  kind : slice_get (kinds_given (load_of tables b) next) at ≡ Some x.kind

pair_at : (names : List (List ℕ)) (kinds : List Kind) (i : ℕ) (x : Bound) → slice_get (paired names kinds) i ≡ Some x → (slice_get names i ≡ Some x.name) × (slice_get kinds i ≡ Some x.kind)
pair_at [] kinds i x e = absurd cc
pair_at (n ∷ names) [] i x e = absurd cc
pair_at (n ∷ names) (k ∷ kinds) zero x e =
    let same : record { name = n; kind = k } ≡ x = cc in
    (ap (λ (y : Bound). Some y.name) same, ap (λ (y : Bound). Some y.kind) same)
pair_at (n ∷ names) (k ∷ kinds) (suc i) x e = pair_at names kinds i x e

gives : (tables : Tables) (b : Bundle) (t : ℕ) (names : List (List ℕ)) (form : ClientLine) (i : ℕ) (x : Bound) → Kept tables b → ScriptLine tables b t form → slice_get (binds tables b form) i ≡ Some x → Gives tables b names form x
gives tables b t names (client.Let name ty values) zero x h l e =
    let same : record { name = name; kind = kind.Own _ } ≡ x = cc in
    record { next = _; here = refl; at = 0; name = ap (λ (y : Bound). Some (name_number names y.name)) same; kind = ap (λ (y : Bound). Some y.kind) same }
gives tables b t names (client.Let name ty values) (suc i) x h l e = absurd cc
gives tables b t names (client.Text name ty bytes) zero x h l e =
    let same : record { name = name; kind = kind.Own _ } ≡ x = cc in
    record { next = _; here = refl; at = 0; name = ap (λ (y : Bound). Some (name_number names y.name)) same; kind = ap (λ (y : Bound). Some y.kind) same }
gives tables b t names (client.Text name ty bytes) (suc i) x h l e = absurd cc
gives tables b t names (client.Call target method args results) i x h l e =
    let pair = pair_at results (results_of (method_of_call tables b target method)) i x e in
    let m = method_called tables b t target method args results h l in
    record {
      next = command.Call (target_number b target) (method_number_of tables b target method) (map (arg_of b names) args) (map (name_number names) results);
      here = refl;
      at = i;
      name = get_map (name_number names) results i x.name pair.0;
      kind = ap (λ (o : Option MethodRow). slice_get (results_of o) i) (m.here ∙ sym m.named) ∙ pair.1;
    }
gives tables b t names (client.Client name) i x h l e = absurd cc
gives tables b t names (client.Show name) i x h l e = absurd cc
gives tables b t names (client.Drop name) i x h l e = absurd cc
gives tables b t names (client.Kill target) i x h l e = absurd cc
gives tables b t names client.Close i x h l e = absurd cc

-- the place of the command of a line
abbrev pub command_spot : (tables : Tables) (b : Bundle) (script : ClientLines) → ℕ → ℕ → ℕ
command_spot tables b script place inner = spot (λ (l : Numbered ClientLine). commands_in tables b (script_names script) l.form) script place inner

-- a name that has a kind before a line is bound by an earlier command
pub bound_earlier : (tables : Tables) (b : Bundle) (t : ℕ) (form : ClientLine) → Kept tables b → (l : ScriptLine tables b t form) (inner : ℕ) (name : List ℕ) (of : Kind) → kind_of (bound_before tables b l.of.script l.place) name ≡ Some of → BindsBefore (load_of tables b) t (command_spot tables b l.of.script l.place inner) (name_number (script_names l.of.script) name) of
bound_earlier tables b t form h l inner name of e =
    let script = l.of.script in
    let names = script_names script in
    let f : Numbered ClientLine → List Command = λ x. commands_in tables b names x.form in
    let k = kind_at (bound_before tables b script l.place) name of e in
    let c = comes (λ (x : Numbered ClientLine). binds tables b x.form) (take l.place script) k.place k.one k.here in
    let at = take_get script l.place c.place c.item c.here in
    let line : ScriptLine tables b t c.item.form = record { of = l.of; place = c.place; number = c.item.line; here = at.1 } in
    let g = gives tables b t names c.item.form c.inner k.one h line c.there in
    let command = stands_at f script c.place 0 c.item g.next at.1 g.here in
    let before = spot_before f script c.place l.place 0 inner c.item g.next at.0 at.1 g.here in
    record {
      binds = record {
        place = spot f script c.place 0;
        next = g.next;
        here = ap (λ (cs : List Command). slice_get cs (spot f script c.place 0)) l.of.commands ∙ command;
        at = g.at;
        name = g.name ∙ ap (λ (n : List ℕ). Some (name_number names n)) k.is_name;
        kind = g.kind ∙ ap (λ (d : Kind). Some d) k.is_kind;
      };
      before = before;
    }
