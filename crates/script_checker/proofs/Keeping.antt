-- What a line that keeps rule 50 says of the names that it uses and binds.
use Rattle.std.proofs.Common.{◌≡◌, ℕ, suc, Bool, true, false, ◌&&◌, List, [], ◌∷◌, ◌++◌, length, Option, Some, None, refl, sym, ap, ◌∙◌, arith, cond, nat_eq, map, eqb-true}
use Rattle.std.specs.Prelude.{is_some, unwrap_or}
use Rattle.std.specs.Option.{option_map}
use Rattle.std.specs.List.{flat_map}
use Rattle.std.specs.Cmp.Lexicographic.{pointwise}
use Rattle.rl_defs.specs.declared.bundle.ScriptArgText.{ScriptArgText}
use Rattle.rl_defs.specs.declared.bundle.ScriptArgText.TheVariants as arg
use Rattle.rl_defs.specs.declared.bundle.ClientLine.{ClientLine}
use Rattle.rl_defs.specs.declared.bundle.ClientLine.TheVariants as client
use Rattle.rl_defs.specs.declared.tables.Kind.{Kind}
use Rattle.rl_defs.specs.declared.tables.Kind.TheVariants as kind
use Rattle.rl_defs.specs.declared.tables.MethodRow.{MethodRow}
use Rattle.rl_defs.specs.declared.tables.Tables.{Tables}
use Rattle.rl_defs.specs.declared.load.ScriptArg.{ScriptArg}
use Rattle.rl_defs.specs.declared.load.ScriptArg.TheVariants as number
use Rattle.rl_defs.specs.declared.load.Command.TheVariants as command
use Rattle.rl_defs.specs.declared.bundle.Bundle.{Bundle}
use Rattle.rl_defs.specs.Interfaces.{place_of}
use Rattle.rl_defs.specs.CodeNames.{struct_number, params_of, results_of}
use Rattle.rl_defs.specs.BundleNames.{name_given}
use Rattle.rl_defs.specs.ScriptRules.{Bound, paired, binds, kind_of, is_object, name_suits, lent_suits, suits, args_suit, names_suit, has_count, keeps_kinds, moved_by, gone_by, method_of_call}
use Rattle.rl_defs.specs.LoadOf.{name_number, arg_of, commands_in, method_number_of, target_number}
use Rattle.script_checker.proofs.Naming.{place_grows, last_there, same_name, there_first, there_last}

pub both_true : (a b : Bool) → (a && b) ≡ true → (a ≡ true) × (b ≡ true)
both_true true b e = (refl, e)
both_true false b e = absurd cc

-- names that are bound
abbrev pub IsBound : List Bound → List ℕ → Type 0
IsBound bound q = (k : Kind) × (kind_of bound q ≡ Some k)

bound_step : (b : Bool) (x : Kind) (rest rest2 : Option Kind) (k : Kind) → ((j : Kind) → rest ≡ Some j → rest2 ≡ Some j) → cond b (Some x) rest ≡ Some k → cond b (Some x) rest2 ≡ Some k
bound_step true x rest rest2 k h e = e
bound_step false x rest rest2 k h e = h k e

-- a name that is bound stays bound to that
pub kind_grows : (bound more : List Bound) (q : List ℕ) (k : Kind) → kind_of bound q ≡ Some k → kind_of (bound ++ more) q ≡ Some k
kind_grows [] more q k e = absurd cc
kind_grows (x ∷ bound) more q k e = bound_step (pointwise nat_eq x.name q) x.kind (kind_of bound q) (kind_of (bound ++ more) q) k (λ j f. kind_grows bound more q j f) e

there_step : (b : Bool) (x k : Kind) (rest : Option Kind) (o : Option ℕ) → (rest ≡ Some k → is_some o ≡ true) → cond b (Some x) rest ≡ Some k → is_some (cond b (Some 0) (option_map (λ j. suc j) o)) ≡ true
there_step true x k rest o h e = refl
there_step false x k rest None h e = h e
there_step false x k rest (Some j) h e = refl

-- a name that is bound is among the names
pub bound_there : (bound : List Bound) (q : List ℕ) (k : Kind) → kind_of bound q ≡ Some k → is_some (place_of q (map (λ x. x.name) bound)) ≡ true
bound_there [] q k e = absurd cc
bound_there (x ∷ bound) q k e = there_step (pointwise nat_eq x.name q) x.kind k (kind_of bound q) (place_of q (map (λ y. y.name) bound)) (λ f. bound_there bound q k f) e

object_bound : (o : Option Kind) → is_object o ≡ true → (k : Kind) × (o ≡ Some k)
object_bound None e = absurd cc
object_bound (Some k) e = (k, refl)

name_bound : (param : Kind) (o : Option Kind) → name_suits param o ≡ true → (k : Kind) × (o ≡ Some k)
name_bound param (Some k) e = (k, refl)
name_bound (kind.Num w) None e = absurd cc
name_bound (kind.Own s) None e = absurd cc
name_bound (kind.Lent s) None e = absurd cc
name_bound (kind.Cap t) None e = absurd cc

lent_bound : (param : Kind) (o : Option Kind) → lent_suits param o ≡ true → (k : Kind) × (o ≡ Some k)
lent_bound param (Some k) e = (k, refl)
lent_bound (kind.Num w) None e = absurd cc
lent_bound (kind.Own s) None e = absurd cc
lent_bound (kind.Lent s) None e = absurd cc
lent_bound (kind.Cap t) None e = absurd cc

moved_same : (bound more : List Bound) (name : List ℕ) (k : Kind) → kind_of bound name ≡ Some k → moved_by (bound ++ more) (arg.Name name) ≡ moved_by bound (arg.Name name)
moved_same bound more name k e = ap (λ (o : Option Kind). cond (is_object o) (name ∷ []) []) (kind_grows bound more name k e ∙ sym e)

-- what an argument that suits its parameter moves, it moves also where more names are bound
moves_same : (tables : Tables) (b : Bundle) (bound more : List Bound) (k : Kind) (a : ScriptArgText) → suits tables b bound k a ≡ true → moved_by (bound ++ more) a ≡ moved_by bound a
moves_same tables b bound more k (arg.Num n) e = refl
moves_same tables b bound more k (arg.Name name) e = let h = name_bound k (kind_of bound name) e in moved_same bound more name h.0 h.1
moves_same tables b bound more k (arg.Lent name) e = refl
moves_same tables b bound more k (arg.Target name) e = refl

all_moved_same : (tables : Tables) (b : Bundle) (bound more : List Bound) (params : List Kind) (args : List ScriptArgText) → length params ≡ length args → args_suit tables b bound params args ≡ true → flat_map (moved_by (bound ++ more)) args ≡ flat_map (moved_by bound) args
all_moved_same tables b bound more params [] long e = refl
all_moved_same tables b bound more [] (a ∷ args) long e = absurd (omega (arith, long))
all_moved_same tables b bound more (k ∷ params) (a ∷ args) long e =
    let h = both_true (suits tables b bound k a) (args_suit tables b bound params args) e in
    ap (λ (names : List (List ℕ)). names ++ flat_map (moved_by (bound ++ more)) args) (moves_same tables b bound more k a h.0)
    ∙ ap (λ (names : List (List ℕ)). moved_by bound a ++ names) (all_moved_same tables b bound more params args (omega (arith, long)) h.1)

counts : (m : Option MethodRow) (args : List ScriptArgText) → has_count m args ≡ true → length (params_of m) ≡ length args
counts None args e = absurd cc
counts (Some m) args e = eqb-true (length m.params) (length args) e

-- what a line that keeps rule 50 moves or drops, it does also where more names are bound
pub gone_same : (tables : Tables) (b : Bundle) (bound more : List Bound) (form : ClientLine) → keeps_kinds tables b bound form ≡ true → gone_by (bound ++ more) form ≡ gone_by bound form
gone_same tables b bound more (client.Client name) e = refl
gone_same tables b bound more (client.Let name ty values) e = refl
gone_same tables b bound more (client.Text name ty bytes) e = refl
gone_same tables b bound more (client.Call target method args names) e =
    let m = method_of_call tables b target method in
    let h = both_true (has_count m args) (args_suit tables b bound (params_of m) args && names_suit (results_of m) names) e in
    let g = both_true (args_suit tables b bound (params_of m) args) (names_suit (results_of m) names) h.1 in
    all_moved_same tables b bound more (params_of m) args (counts m args h.0) g.0
gone_same tables b bound more (client.Show name) e = refl
gone_same tables b bound more (client.Drop name) e = refl
gone_same tables b bound more (client.Kill target) e = refl
gone_same tables b bound more client.Close e = refl

paired_names : (names : List (List ℕ)) (kinds : List Kind) → length kinds ≡ length names → map (λ x. x.name) (paired names kinds) ≡ names
paired_names [] kinds e = refl
paired_names (n ∷ ns) [] e = absurd (omega (arith, e))
paired_names (n ∷ ns) (k ∷ ks) e = ap (λ (xs : List (List ℕ)). n ∷ xs) (paired_names ns ks (omega (arith, e)))

suited_names : (results : List Kind) (names : List (List ℕ)) → names_suit results names ≡ true → map (λ x. x.name) (paired names results) ≡ names
suited_names results [] e = refl
suited_names results (n ∷ ns) e = paired_names (n ∷ ns) results (eqb-true (length results) (length (n ∷ ns)) e)

-- the names that a line gives are those that it binds
pub given_bound : (tables : Tables) (b : Bundle) (bound : List Bound) (form : ClientLine) → keeps_kinds tables b bound form ≡ true → map (λ x. x.name) (binds tables b form) ≡ name_given form
given_bound tables b bound (client.Client name) e = refl
given_bound tables b bound (client.Let name ty values) e = refl
given_bound tables b bound (client.Text name ty bytes) e = refl
given_bound tables b bound (client.Call target method args names) e =
    let m = method_of_call tables b target method in
    let h = both_true (has_count m args) (args_suit tables b bound (params_of m) args && names_suit (results_of m) names) e in
    let g = both_true (args_suit tables b bound (params_of m) args) (names_suit (results_of m) names) h.1 in
    suited_names (results_of m) names g.1
given_bound tables b bound (client.Show name) e = refl
given_bound tables b bound (client.Drop name) e = refl
given_bound tables b bound (client.Kill target) e = refl
given_bound tables b bound client.Close e = refl

-- numbers of names, where more names follow
number_grows : (q : List ℕ) (names more : List (List ℕ)) → is_some (place_of q names) ≡ true → name_number names q ≡ name_number (names ++ more) q
number_grows q names more e = ap (λ (o : Option ℕ). unwrap_or o 0) (sym (place_grows q names more e))

arg_same : (tables : Tables) (b : Bundle) (bound : List Bound) (names more : List (List ℕ)) (k : Kind) (a : ScriptArgText) → ((q : List ℕ) (j : Kind) → kind_of bound q ≡ Some j → is_some (place_of q names) ≡ true) → suits tables b bound k a ≡ true → arg_of b names a ≡ arg_of b (names ++ more) a
arg_same tables b bound names more k (arg.Num n) there e = refl
arg_same tables b bound names more k (arg.Name name) there e = let h = name_bound k (kind_of bound name) e in ap (λ (n : ℕ). number.Name n) (number_grows name names more (there name h.0 h.1))
arg_same tables b bound names more k (arg.Lent name) there e = let h = lent_bound k (kind_of bound name) e in ap (λ (n : ℕ). number.Lent n) (number_grows name names more (there name h.0 h.1))
arg_same tables b bound names more k (arg.Target name) there e = refl

args_same : (tables : Tables) (b : Bundle) (bound : List Bound) (names more : List (List ℕ)) (params : List Kind) (args : List ScriptArgText) → ((q : List ℕ) (j : Kind) → kind_of bound q ≡ Some j → is_some (place_of q names) ≡ true) → length params ≡ length args → args_suit tables b bound params args ≡ true → map (arg_of b names) args ≡ map (arg_of b (names ++ more)) args
args_same tables b bound names more params [] there long e = refl
args_same tables b bound names more [] (a ∷ args) there long e = absurd (omega (arith, long))
args_same tables b bound names more (k ∷ params) (a ∷ args) there long e =
    let h = both_true (suits tables b bound k a) (args_suit tables b bound params args) e in
    ap (λ (x : ScriptArg). x ∷ map (arg_of b names) args) (arg_same tables b bound names more k a there h.0)
    ∙ ap (λ (xs : List ScriptArg). arg_of b (names ++ more) a ∷ xs) (args_same tables b bound names more params args there (omega (arith, long)) h.1)

results_same : (names more results : List (List ℕ)) → ((q : List ℕ) → is_some (place_of q results) ≡ true → is_some (place_of q names) ≡ true) → map (name_number names) results ≡ map (name_number (names ++ more)) results
results_same names more [] there = refl
results_same names more (q ∷ results) there =
    ap (λ (n : ℕ). n ∷ map (name_number names) results) (number_grows q names more (there q (first (pointwise nat_eq q q) (option_map (λ j. suc j) (place_of q results)) (same_name q))))
    ∙ ap (λ (ns : List ℕ). name_number (names ++ more) q ∷ ns) (results_same names more results (λ p h. there p (later (pointwise nat_eq q p) (place_of p results) h))) where
      first : (b : Bool) (o : Option ℕ) → b ≡ true → is_some (cond b (Some 0) o) ≡ true
      first true o e = refl
      first false o e = absurd cc

      later : (b : Bool) (o : Option ℕ) → is_some o ≡ true → is_some (cond b (Some 0) (option_map (λ j. suc j) o)) ≡ true
      later true o e = refl
      later false None e = e
      later false (Some j) e = refl

-- a line that keeps rule 50 stands for the same command where more names follow
pub command_same : (tables : Tables) (b : Bundle) (bound : List Bound) (names more : List (List ℕ)) (form : ClientLine) → names ≡ map (λ x. x.name) bound → keeps_kinds tables b bound form ≡ true → commands_in tables b (names ++ name_given form) form ≡ commands_in tables b ((names ++ name_given form) ++ more) form
command_same tables b bound names more (client.Client name) are e = refl
command_same tables b bound names more (client.Let name ty values) are e = ap (λ (n : ℕ). command.Let n (struct_number tables ty) values ∷ []) (number_grows name (names ++ name ∷ []) more (last_there name names))
command_same tables b bound names more (client.Text name ty bytes) are e = ap (λ (n : ℕ). command.Text n (struct_number tables ty) bytes ∷ []) (number_grows name (names ++ name ∷ []) more (last_there name names))
command_same tables b bound names more (client.Call target method args results) are e =
    let m = method_of_call tables b target method in
    let h = both_true (has_count m args) (args_suit tables b bound (params_of m) args && names_suit (results_of m) results) e in
    let g = both_true (args_suit tables b bound (params_of m) args) (names_suit (results_of m) results) h.1 in
    let there : (q : List ℕ) (j : Kind) → kind_of bound q ≡ Some j → is_some (place_of q (names ++ results)) ≡ true = λ q j f. there_first q names results (ap (λ (ns : List (List ℕ)). is_some (place_of q ns)) are ∙ bound_there bound q j f) in
    ap (λ (xs : List ScriptArg). command.Call (target_number b target) (method_number_of tables b target method) xs (map (name_number (names ++ results)) results) ∷ []) (args_same tables b bound (names ++ results) more (params_of m) args there (counts m args h.0) g.0)
    ∙ ap (λ (ns : List ℕ). command.Call (target_number b target) (method_number_of tables b target method) (map (arg_of b ((names ++ results) ++ more)) args) ns ∷ []) (results_same (names ++ results) more results (λ q f. there_last q names results f))
command_same tables b bound names more (client.Show name) are e =
    let h = object_bound (kind_of bound name) e in
    ap (λ (n : ℕ). command.Show n ∷ []) (number_grows name (names ++ []) more (there_first name names [] (ap (λ (ns : List (List ℕ)). is_some (place_of name ns)) are ∙ bound_there bound name h.0 h.1)))
command_same tables b bound names more (client.Drop name) are e =
    let h = object_bound (kind_of bound name) e in
    ap (λ (n : ℕ). command.Drop n ∷ []) (number_grows name (names ++ []) more (there_first name names [] (ap (λ (ns : List (List ℕ)). is_some (place_of name ns)) are ∙ bound_there bound name h.0 h.1)))
command_same tables b bound names more (client.Kill target) are e = refl
command_same tables b bound names more client.Close are e = refl
