-- The arguments of a call suit its parameters.
use Rattle.std.proofs.Common.{◌≡◌, ℕ, zero, suc, ◌≤◌, inr, true, false, not, ◌&&◌, List, [], ◌∷◌, length, map, take, Option, Some, None, refl, sym, ap, subst, ◌∙◌, arith, eqb-true, leb-true}
use Rattle.std.specs.Prelude.{slice_get, unwrap_or, ◌==◌}
use Rattle.std.specs.List.{flat_map, list_any, AllZip}
use Rattle.rl_defs.specs.declared.bundle.Numbered.{Numbered}
use Rattle.rl_defs.specs.declared.bundle.Bundle.{Bundle}
use Rattle.rl_defs.specs.declared.bundle.ScriptArgText.{ScriptArgText}
use Rattle.rl_defs.specs.declared.bundle.ScriptArgText.TheVariants as written
use Rattle.rl_defs.specs.declared.bundle.ClientLine.{ClientLine}
use Rattle.rl_defs.specs.declared.bundle.ClientLine.TheVariants as client
use Rattle.rl_defs.specs.declared.tables.Width.{Width}
use Rattle.rl_defs.specs.declared.tables.Kind.{Kind}
use Rattle.rl_defs.specs.declared.tables.Kind.TheVariants as kind
use Rattle.rl_defs.specs.declared.tables.Tables.{Tables}
use Rattle.rl_defs.specs.declared.load.ScriptArg.TheVariants as arg
use Rattle.rl_defs.specs.Words.{same_bytes}
use Rattle.rl_defs.specs.Interfaces.{place_of}
use Rattle.rl_defs.specs.BundleNames.{given_by, names_of, name_given}
use Rattle.rl_defs.specs.NameRules.{names_used, name_passed, target_passed}
use Rattle.rl_defs.specs.Widths.{bits}
use Rattle.rl_defs.specs.ScriptRules.{Bound, bound_before, gone_before, kind_of, is_object, name_suits, lent_suits, suits, args_suit, is_among, moved_by, lent_by, are_distinct, keeps_owned, target_trait}
use Rattle.rl_defs.specs.LoadOf.{load_of, script_names, name_number, arg_of, target_number}
use Rattle.rl_defs.specs.Rows.{is_target, trait_if}
use Rattle.rl_defs.specs.ValidScripts.{BindsBefore, ArgFits}
use Rattle.rl_defs.proofs.Lists.{comes, goes, map_get, not_false, and_left, and_right, same_item}
use Rattle.valid_loads.proofs.Names.{Apart, known, names_flat, there_place, place_there, same_self}
use Rattle.valid_loads.proofs.Rules.{Kept, declared}
use Rattle.valid_loads.proofs.TargetNames.{TargetNamed}
use Rattle.valid_loads.proofs.Binds.{trait_of_target}
use Rattle.valid_loads.proofs.TablesKept.{any_at}
use Rattle.valid_loads.proofs.Traits.{target_trait_is}
use Rattle.rl_defs.proofs.Spots.{spot, stands_at, one_spot, take_get}
use Rattle.valid_loads.proofs.ScriptKinds.{ScriptLine, command_spot, bound_earlier, target_called}

-- ---- one argument

-- a target of a trait
target_fits : (tables : Tables) (b : Bundle) (name : List ℕ) (c : ℕ) → TargetNamed tables b name → (c == target_trait tables b name) ≡ true → (is_target (load_of tables b) (target_number b name) ≡ true) × (trait_if (load_of tables b) (is_target (load_of tables b) (target_number b name)) (target_number b name) ≡ c)
target_fits tables b name c t e =
    subst (λ (x : ℕ). (is_target (load_of tables b) x ≡ true) × (trait_if (load_of tables b) (is_target (load_of tables b) x) x ≡ c)) (sym t.number)
    (t.is, trait_of_target tables b name t ∙ sym (target_trait_is tables b name t) ∙ sym (eqb-true c (target_trait tables b name) e))

arg_fits : (tables : Tables) (b : Bundle) (t : ℕ) (form : ClientLine) → Kept tables b → (l : ScriptLine tables b t form) (inner : ℕ) (k : Kind) (a : ScriptArgText) → ((name : List ℕ) → a ≡ written.Target name → TargetNamed tables b name) → suits tables b (bound_before tables b l.of.script l.place) k a ≡ true → ArgFits (load_of tables b) t (command_spot tables b l.of.script l.place inner) k (arg_of b (script_names l.of.script) a)
arg_fits tables b t form h l inner (kind.Num w) (written.Num n) targets e = e
arg_fits tables b t form h l inner (kind.Own s) (written.Num n) targets e = absurd cc
arg_fits tables b t form h l inner (kind.Lent s) (written.Num n) targets e = absurd cc
arg_fits tables b t form h l inner (kind.Cap c) (written.Num n) targets e = absurd cc
arg_fits tables b t form h l inner (kind.Num w) (written.Name name) targets e = by (kind_of (bound_before tables b l.of.script l.place) name) refl e where
  by : (o : Option Kind) → kind_of (bound_before tables b l.of.script l.place) name ≡ o → name_suits (kind.Num w) o ≡ true → (v : Width) × BindsBefore (load_of tables b) t (command_spot tables b l.of.script l.place inner) (name_number (script_names l.of.script) name) (kind.Num v) × (bits v ≤ bits w)
  by (Some (kind.Num v)) is d = (v, bound_earlier tables b t form h l inner name (kind.Num v) is, leb-true (bits v) (bits w) d)
  by (Some (kind.Own s)) is d = absurd cc
  by (Some (kind.Lent s)) is d = absurd cc
  by (Some (kind.Cap c)) is d = absurd cc
  by None is d = absurd cc
arg_fits tables b t form h l inner (kind.Own s) (written.Name name) targets e = by (kind_of (bound_before tables b l.of.script l.place) name) refl e where
  by : (o : Option Kind) → kind_of (bound_before tables b l.of.script l.place) name ≡ o → name_suits (kind.Own s) o ≡ true → BindsBefore (load_of tables b) t (command_spot tables b l.of.script l.place inner) (name_number (script_names l.of.script) name) (kind.Own s)
  by (Some (kind.Own r)) is d = bound_earlier tables b t form h l inner name (kind.Own s) (is ∙ ap (λ (n : ℕ). Some (kind.Own n)) (sym (eqb-true s r d)))
  by (Some (kind.Num v)) is d = absurd cc
  by (Some (kind.Lent r)) is d = absurd cc
  by (Some (kind.Cap c)) is d = absurd cc
  by None is d = absurd cc
arg_fits tables b t form h l inner (kind.Lent s) (written.Name name) targets e = absurd cc
arg_fits tables b t form h l inner (kind.Cap c) (written.Name name) targets e = absurd cc
arg_fits tables b t form h l inner (kind.Lent s) (written.Lent name) targets e = by (kind_of (bound_before tables b l.of.script l.place) name) refl e where
  by : (o : Option Kind) → kind_of (bound_before tables b l.of.script l.place) name ≡ o → lent_suits (kind.Lent s) o ≡ true → BindsBefore (load_of tables b) t (command_spot tables b l.of.script l.place inner) (name_number (script_names l.of.script) name) (kind.Own s)
  by (Some (kind.Own r)) is d = bound_earlier tables b t form h l inner name (kind.Own s) (is ∙ ap (λ (n : ℕ). Some (kind.Own n)) (sym (eqb-true s r d)))
  by (Some (kind.Num v)) is d = absurd cc
  by (Some (kind.Lent r)) is d = absurd cc
  by (Some (kind.Cap c)) is d = absurd cc
  by None is d = absurd cc
arg_fits tables b t form h l inner (kind.Num w) (written.Lent name) targets e = absurd cc
arg_fits tables b t form h l inner (kind.Own s) (written.Lent name) targets e = absurd cc
arg_fits tables b t form h l inner (kind.Cap c) (written.Lent name) targets e = absurd cc
arg_fits tables b t form h l inner (kind.Cap c) (written.Target name) targets e = target_fits tables b name c (targets name refl) e
arg_fits tables b t form h l inner (kind.Num w) (written.Target name) targets e = absurd cc
arg_fits tables b t form h l inner (kind.Own s) (written.Target name) targets e = absurd cc
arg_fits tables b t form h l inner (kind.Lent s) (written.Target name) targets e = absurd cc

-- ---- all arguments

all_fit : (tables : Tables) (b : Bundle) (t : ℕ) (form : ClientLine) → Kept tables b → (l : ScriptLine tables b t form) (inner : ℕ) (kinds : List Kind) (args : List ScriptArgText) → ((i : ℕ) (name : List ℕ) → slice_get args i ≡ Some (written.Target name) → TargetNamed tables b name) → length kinds ≡ length args → args_suit tables b (bound_before tables b l.of.script l.place) kinds args ≡ true → AllZip (ArgFits (load_of tables b) t (command_spot tables b l.of.script l.place inner)) kinds (map (arg_of b (script_names l.of.script)) args)
all_fit tables b t form h l inner [] [] targets count e = tt
all_fit tables b t form h l inner [] (a ∷ args) targets count e = absurd (omega (arith, count))
all_fit tables b t form h l inner (k ∷ kinds) [] targets count e = absurd (omega (arith, count))
all_fit tables b t form h l inner (k ∷ kinds) (a ∷ args) targets count e =
    let bound = bound_before tables b l.of.script l.place in (
      arg_fits tables b t form h l inner k a (λ name is. targets 0 name (ap (λ (x : ScriptArgText). Some x) is)) (and_left (suits tables b bound k a) (args_suit tables b bound kinds args) e),
      all_fit tables b t form h l inner kinds args (λ i name is. targets (suc i) name is) (omega (arith, count)) (and_right (suits tables b bound k a) (args_suit tables b bound kinds args) e),
    )

-- the arguments of a call are of the parameters' kinds
pub call_args : (tables : Tables) (b : Bundle) (t : ℕ) (target method : List ℕ) (args : List ScriptArgText) (names : List (List ℕ)) → Kept tables b → (l : ScriptLine tables b t (client.Call target method args names)) (inner : ℕ) (kinds : List Kind) → length kinds ≡ length args → args_suit tables b (bound_before tables b l.of.script l.place) kinds args ≡ true → AllZip (ArgFits (load_of tables b) t (command_spot tables b l.of.script l.place inner)) kinds (map (arg_of b (script_names l.of.script)) args)
call_args tables b t target method args names h l inner kinds count e =
    all_fit tables b t (client.Call target method args names) h l inner kinds args (λ i name is.
    let g = goes target_passed args i 0 (written.Target name) name is refl in
    target_called tables b t (client.Call target method args names) h l (suc g.0) name g.1) count e

-- ---- names that are moved or lent

-- a name that a line uses is one that the script binds
used_place : (tables : Tables) (b : Bundle) (t : ℕ) (form : ClientLine) → Kept tables b → (l : ScriptLine tables b t form) (i : ℕ) (q : List ℕ) → slice_get (names_used form) i ≡ Some q → (p : ℕ) × (place_of q (script_names l.of.script) ≡ Some p)
used_place tables b t form h l i q e =
    let before = names_of (given_by name_given (take l.place l.of.script)) in
    let p = known (names_used form) before (λ u. declared tables b h l.number (inr (inr (inr (inr (inr (inr (inr (inr (inr (inr (record { command = record { script = l.of.script; number = l.of.number; client = l.of.here; place = l.place; form = form; here = l.here }; unknown = u })))))))))))) i q e in
    let c = comes (λ (x : Numbered ClientLine). name_given x.form) (take l.place l.of.script) p.0 q (ap (λ (ns : List (List ℕ)). slice_get ns p.0) (sym (names_flat name_given (take l.place l.of.script))) ∙ place_there q before p.0 p.1) in
    let at = take_get l.of.script l.place c.place c.item c.here in
    let g = goes (λ (x : Numbered ClientLine). name_given x.form) l.of.script c.place c.inner c.item q at.1 c.there in
    there_place q (script_names l.of.script) g.0 (ap (λ (ns : List (List ℕ)). slice_get ns g.0) (names_flat name_given l.of.script) ∙ g.1)

-- names of one number are one name
one_name : (names : List (List ℕ)) (q r : List ℕ) (i j : ℕ) → place_of q names ≡ Some i → place_of r names ≡ Some j → name_number names q ≡ name_number names r → q ≡ r
one_name names q r i j e d same =
    let first : name_number names q ≡ i = ap (λ (o : Option ℕ). unwrap_or o 0) e in
    let second : name_number names r ≡ j = ap (λ (o : Option ℕ). unwrap_or o 0) d in
    same_item names i j q r (sym first ∙ same ∙ second) (place_there q names i e) (place_there r names j d)

-- a name that isn't among others doesn't stand there
not_among : (n : List ℕ) (names : List (List ℕ)) (k : ℕ) → not (is_among n names) ≡ true → slice_get names k ≡ Some n → ⊥
not_among n names k never at =
    let there : is_among n names ≡ true = any_at (λ other. same_bytes other n) names k n at (same_self n) in
    let bad : false ≡ true = sym (ap not there) ∙ never in
    absurd cc

distinct_apart : (names : List (List ℕ)) → are_distinct names ≡ true → Apart names
distinct_apart [] e j k q f g = absurd cc
distinct_apart (n ∷ names) e zero zero q f g = refl
distinct_apart (n ∷ names) e zero (suc k) q f g =
    let same : q ≡ n = cc in
    absurd (not_among n names k (and_left (not (is_among n names)) (are_distinct names) e) (g ∙ ap (λ (x : List ℕ). Some x) same))
distinct_apart (n ∷ names) e (suc j) zero q f g =
    let same : q ≡ n = cc in
    absurd (not_among n names j (and_left (not (is_among n names)) (are_distinct names) e) (f ∙ ap (λ (x : List ℕ). Some x) same))
distinct_apart (n ∷ names) e (suc j) (suc k) q f g = ap (λ (m : ℕ). suc m) (distinct_apart names (and_right (not (is_among n names)) (are_distinct names) e) j k q f g)

-- an argument that is a name was written as one, and so is one that is lent
written_name : (b : Bundle) (names : List (List ℕ)) (a : ScriptArgText) (k : ℕ) → arg_of b names a ≡ arg.Name k → (q : List ℕ) × (a ≡ written.Name q) × (name_number names q ≡ k)
written_name b names (written.Name q) k e = (q, refl, cc)
written_name b names (written.Num n) k e = absurd cc
written_name b names (written.Lent q) k e = absurd cc
written_name b names (written.Target q) k e = absurd cc

written_lent : (b : Bundle) (names : List (List ℕ)) (a : ScriptArgText) (k : ℕ) → arg_of b names a ≡ arg.Lent k → (q : List ℕ) × (a ≡ written.Lent q) × (name_number names q ≡ k)
written_lent b names (written.Lent q) k e = (q, refl, cc)
written_lent b names (written.Num n) k e = absurd cc
written_lent b names (written.Name q) k e = absurd cc
written_lent b names (written.Target q) k e = absurd cc

-- an argument at a place suits the parameter there
suits_at : (tables : Tables) (b : Bundle) (bound : List Bound) (kinds : List Kind) (args : List ScriptArgText) (i : ℕ) (k : Kind) (a : ScriptArgText) → args_suit tables b bound kinds args ≡ true → slice_get kinds i ≡ Some k → slice_get args i ≡ Some a → suits tables b bound k a ≡ true
suits_at tables b bound [] args i k a e f g = absurd cc
suits_at tables b bound (x ∷ kinds) [] i k a e f g = absurd cc
suits_at tables b bound (x ∷ kinds) (y ∷ args) zero k a e f g =
    let one : x ≡ k = cc in
    let two : y ≡ a = cc in
    ap (λ (z : Kind). suits tables b bound z a) (sym one) ∙ ap (suits tables b bound x) (sym two) ∙ and_left (suits tables b bound x y) (args_suit tables b bound kinds args) e
suits_at tables b bound (x ∷ kinds) (y ∷ args) (suc i) k a e f g = suits_at tables b bound kinds args i k a (and_right (suits tables b bound x y) (args_suit tables b bound kinds args) e) f g

-- a name that is passed for an object is moved
own_moved : (o : Option Kind) (s : ℕ) → name_suits (kind.Own s) o ≡ true → is_object o ≡ true
own_moved (Some (kind.Own r)) s e = refl
own_moved (Some (kind.Num w)) s e = absurd cc
own_moved (Some (kind.Lent r)) s e = absurd cc
own_moved (Some (kind.Cap c)) s e = absurd cc
own_moved None s e = absurd cc

moved_there : (bound : List Bound) (q : List ℕ) → is_object (kind_of bound q) ≡ true → slice_get (moved_by bound (written.Name q)) 0 ≡ Some q
moved_there bound q e = rw e refl

-- What is known of an argument that moves an object.
record Moves (tables : Tables) (b : Bundle) (bound : List Bound) (names : List (List ℕ)) (args : List ScriptArgText) (i k : ℕ) : Type 0 where
  name : List ℕ
  here : slice_get args i ≡ Some (written.Name name)
  number : name_number names name ≡ k
  moved : slice_get (moved_by bound (written.Name name)) 0 ≡ Some name

moves_at : (tables : Tables) (b : Bundle) (bound : List Bound) (names : List (List ℕ)) (kinds : List Kind) (args : List ScriptArgText) (i k s : ℕ) → args_suit tables b bound kinds args ≡ true → slice_get (map (arg_of b names) args) i ≡ Some (arg.Name k) → slice_get kinds i ≡ Some (kind.Own s) → Moves tables b bound names args i k
moves_at tables b bound names kinds args i k s e at own =
    let a = map_get (arg_of b names) args i (arg.Name k) at in
    let q = written_name b names a.0 k a.2 in
    let here : slice_get args i ≡ Some (written.Name q.0) = a.1 ∙ ap (λ (x : ScriptArgText). Some x) q.1 in
    let suit = suits_at tables b bound kinds args i (kind.Own s) (written.Name q.0) e own here in
    record { name = q.0; here = here; number = q.2; moved = moved_there bound q.0 (own_moved (kind_of bound q.0) s suit) }

owned_kept : (tables : Tables) (b : Bundle) (t : ℕ) (form : ClientLine) → Kept tables b → (l : ScriptLine tables b t form) → keeps_owned (bound_before tables b l.of.script l.place) (gone_before tables b l.of.script l.place) form ≡ true
owned_kept tables b t form h l = not_false (keeps_owned (bound_before tables b l.of.script l.place) (gone_before tables b l.of.script l.place) form) (λ broken. h.scripts l.number 51 (inr (
  refl,
  record {
    command = record { script = l.of.script; number = l.of.number; client = l.of.here; place = l.place; form = form; here = l.here };
    broken = broken;
  },
)))

-- no name is moved twice
pub moved_once : (tables : Tables) (b : Bundle) (t : ℕ) (target method : List ℕ) (args : List ScriptArgText) (results : List (List ℕ)) → Kept tables b → (l : ScriptLine tables b t (client.Call target method args results)) (kinds : List Kind) → args_suit tables b (bound_before tables b l.of.script l.place) kinds args ≡ true → (i j k s r : ℕ) → slice_get (map (arg_of b (script_names l.of.script)) args) i ≡ Some (arg.Name k) → slice_get kinds i ≡ Some (kind.Own s) → slice_get (map (arg_of b (script_names l.of.script)) args) j ≡ Some (arg.Name k) → slice_get kinds j ≡ Some (kind.Own r) → i ≡ j
moved_once tables b t target method args results h l kinds e i j k s r at own to too =
    let form = client.Call target method args results in
    let bound = bound_before tables b l.of.script l.place in
    let names = script_names l.of.script in
    let one = moves_at tables b bound names kinds args i k s e at own in
    let two = moves_at tables b bound names kinds args j k r e to too in
    let first = goes name_passed args i 0 (written.Name one.name) one.name one.here refl in
    let second = goes name_passed args j 0 (written.Name two.name) two.name two.here refl in
    let p = used_place tables b t form h l first.0 one.name first.1 in
    let q = used_place tables b t form h l second.0 two.name second.1 in
    let same : two.name ≡ one.name = one_name names two.name one.name q.0 p.0 q.1 p.1 (two.number ∙ sym one.number) in
    let owned = owned_kept tables b t form h l in
    let rest = and_right _ (are_distinct (flat_map (moved_by bound) args) && not (list_any (λ name. is_among name (flat_map lent_by args)) (flat_map (moved_by bound) args))) owned in
    let apart = distinct_apart (flat_map (moved_by bound) args) (and_left (are_distinct (flat_map (moved_by bound) args)) _ rest) in
    let x = stands_at (moved_by bound) args i 0 (written.Name one.name) one.name one.here one.moved in
    let y = stands_at (moved_by bound) args j 0 (written.Name two.name) two.name two.here two.moved in
    let spots = apart (spot (moved_by bound) args i 0) (spot (moved_by bound) args j 0) one.name x (y ∙ ap (λ (n : List ℕ). Some n) same) in
    (one_spot (moved_by bound) args i j 0 0 (written.Name one.name) (written.Name two.name) one.name two.name one.here one.moved two.here two.moved spots).0

-- no name is moved and lent
pub moved_unlent : (tables : Tables) (b : Bundle) (t : ℕ) (target method : List ℕ) (args : List ScriptArgText) (results : List (List ℕ)) → Kept tables b → (l : ScriptLine tables b t (client.Call target method args results)) (kinds : List Kind) → args_suit tables b (bound_before tables b l.of.script l.place) kinds args ≡ true → (i j k s : ℕ) → slice_get (map (arg_of b (script_names l.of.script)) args) i ≡ Some (arg.Name k) → slice_get kinds i ≡ Some (kind.Own s) → slice_get (map (arg_of b (script_names l.of.script)) args) j ≡ Some (arg.Lent k) → ⊥
moved_unlent tables b t target method args results h l kinds e i j k s at own to =
    let form = client.Call target method args results in
    let bound = bound_before tables b l.of.script l.place in
    let names = script_names l.of.script in
    let one = moves_at tables b bound names kinds args i k s e at own in
    let a = map_get (arg_of b names) args j (arg.Lent k) to in
    let two = written_lent b names a.0 k a.2 in
    let here : slice_get args j ≡ Some (written.Lent two.0) = a.1 ∙ ap (λ (x : ScriptArgText). Some x) two.1 in
    let first = goes name_passed args i 0 (written.Name one.name) one.name one.here refl in
    let second = goes name_passed args j 0 (written.Lent two.0) two.0 here refl in
    let p = used_place tables b t form h l first.0 one.name first.1 in
    let q = used_place tables b t form h l second.0 two.0 second.1 in
    let same : two.0 ≡ one.name = one_name names two.0 one.name q.0 p.0 q.1 p.1 (two.2 ∙ sym one.number) in
    let owned = owned_kept tables b t form h l in
    let moved = flat_map (moved_by bound) args in
    let lent = flat_map lent_by args in
    let rest = and_right _ (are_distinct moved && not (list_any (λ name. is_among name lent) moved)) owned in
    let never = and_right (are_distinct moved) (not (list_any (λ name. is_among name lent) moved)) rest in
    let x = goes (moved_by bound) args i 0 (written.Name one.name) one.name one.here one.moved in
    let y = goes lent_by args j 0 (written.Lent two.0) two.0 here refl in
    let among : is_among one.name lent ≡ true = any_at (λ other. same_bytes other one.name) lent y.0 two.0 y.1 (ap (λ (n : List ℕ). same_bytes n one.name) same ∙ same_self one.name) in
    let there : list_any (λ name. is_among name lent) moved ≡ true = any_at (λ name. is_among name lent) moved x.0 one.name x.1 among in
    let bad : false ≡ true = sym (ap not there) ∙ never in
    absurd cc
