-- Which objects a client's arguments move and lend: those that the names hold.
use Rattle.std.proofs.Common.{◌≡◌, ℕ, zero, suc, ◌<◌, ◌≤◌, ◌==◌, List, [], ◌∷◌, map, Option, Some, None, slice_get, refl, ap, arith, inl, inr}
use Rattle.std.proofs.lemmas.Bool.{cases_Bool, cases_eq}
use Rattle.rl_defs.specs.declared.values.Value.{Value}
use Rattle.rl_defs.specs.declared.values.Value.TheVariants as value
use Rattle.machine_defs.specs.declared.values.Arg.{Arg}
use Rattle.machine_defs.specs.declared.values.Arg.TheVariants as arg
use Rattle.rl_defs.specs.declared.load.ScriptArg.{ScriptArg}
use Rattle.rl_defs.specs.declared.load.ScriptArg.TheVariants as given
use Rattle.machine_defs.specs.Loans.{count}
use Rattle.machine_defs.specs.Wants.{Names, name_held, given_arg, lent_arg, arg_of}
use Rattle.machine_defs.specs.Arguments.{moved_of, lent_of}
use Rattle.machine_laws.proofs.OwnEntries.{more_moved, more_lent}
use Rattle.machine_laws.proofs.OwnActs.{is_it}

one_most : (p o : ℕ) → count o (p ∷ []) ≤ 1
one_most p o = elim (cases_Bool (p == o)) [ inl e ↦ rw e (omega arith) | inr e ↦ rw e (omega arith) ]

moved_most : (o : ℕ) (a : Arg) → count o (moved_of (a ∷ [])) ≤ 1
moved_most o (arg.Num n) = omega arith
moved_most o (arg.Moved p) = one_most p o
moved_most o (arg.Lent p) = omega arith
moved_most o (arg.Cap x) = omega arith

-- what one argument moves or lends
moved_passed : (v : Option Value) (o : ℕ) → 0 < count o (moved_of (given_arg v ∷ [])) → v ≡ Some (value.Obj o)
moved_passed None o some = absurd (omega (arith, some))
moved_passed (Some (value.Num n)) o some = absurd (omega (arith, some))
moved_passed (Some (value.Cap x)) o some = absurd (omega (arith, some))
moved_passed (Some (value.Obj p)) o some = ap (λ q. Some (value.Obj q)) (is_it p o some)

moved_lent : (v : Option Value) (o : ℕ) → 0 < count o (moved_of (lent_arg v ∷ [])) → ⊥
moved_lent None o some = omega (arith, some)
moved_lent (Some (value.Num n)) o some = omega (arith, some)
moved_lent (Some (value.Obj p)) o some = omega (arith, some)
moved_lent (Some (value.Cap x)) o some = omega (arith, some)

lent_passed : (v : Option Value) (o : ℕ) → 0 < count o (lent_of (given_arg v ∷ [])) → ⊥
lent_passed None o some = omega (arith, some)
lent_passed (Some (value.Num n)) o some = omega (arith, some)
lent_passed (Some (value.Obj p)) o some = omega (arith, some)
lent_passed (Some (value.Cap x)) o some = omega (arith, some)

lent_lent : (v : Option Value) (o : ℕ) → 0 < count o (lent_of (lent_arg v ∷ [])) → v ≡ Some (value.Obj o)
lent_lent None o some = absurd (omega (arith, some))
lent_lent (Some (value.Num n)) o some = absurd (omega (arith, some))
lent_lent (Some (value.Cap x)) o some = absurd (omega (arith, some))
lent_lent (Some (value.Obj p)) o some = ap (λ q. Some (value.Obj q)) (is_it p o some)

-- the argument by which an object is moved, or lent
pub record Moves (names : Names) (args : List ScriptArg) (o : ℕ) : Type 0 where
  pub at : ℕ
  pub name : ℕ
  pub here : slice_get args at ≡ Some (given.Name name)
  pub holds : name_held names name ≡ Some (value.Obj o)

pub record Lends (names : Names) (args : List ScriptArg) (o : ℕ) : Type 0 where
  pub at : ℕ
  pub name : ℕ
  pub here : slice_get args at ≡ Some (given.Lent name)
  pub holds : name_held names name ≡ Some (value.Obj o)

moved_one : (names : Names) (a : ScriptArg) (o : ℕ) → 0 < count o (moved_of (arg_of names a ∷ [])) → (k : ℕ) × (a ≡ given.Name k) × (name_held names k ≡ Some (value.Obj o))
moved_one names (given.Num n) o some = absurd (omega (arith, some))
moved_one names (given.Target x) o some = absurd (omega (arith, some))
moved_one names (given.Lent k) o some = absurd (moved_lent (name_held names k) o some)
moved_one names (given.Name k) o some = (k, refl, moved_passed (name_held names k) o some)

lends_one : (names : Names) (a : ScriptArg) (args : List ScriptArg) (o : ℕ) → 0 < count o (lent_of (arg_of names a ∷ [])) → Lends names (a ∷ args) o
lends_one names (given.Num n) args o some = absurd (omega (arith, some))
lends_one names (given.Target x) args o some = absurd (omega (arith, some))
lends_one names (given.Name k) args o some = absurd (lent_passed (name_held names k) o some)
lends_one names (given.Lent k) args o some = record { at = zero; name = k; here = refl; holds = lent_lent (name_held names k) o some }

pub moves_some : (names : Names) (args : List ScriptArg) (o : ℕ) → 0 < count o (moved_of (map (arg_of names) args)) → Moves names args o
moves_some names [] o some = absurd (omega (arith, some))
moves_some names (a ∷ args) o some =
    let split = more_moved o (arg_of names a) (map (arg_of names) args) in
    elim (cases_eq (count o (moved_of (arg_of names a ∷ []))) 0) [
      | inl none ↦ let m = moves_some names args o (omega (arith, split, none, some)) in record { at = suc m.at; name = m.name; here = m.here; holds = m.holds }
      | inr here ↦ let m = moved_one names a o (omega (arith, here)) in record { at = zero; name = m.0; here = ap Some m.1; holds = m.2 }
    ]

pub lends_some : (names : Names) (args : List ScriptArg) (o : ℕ) → 0 < count o (lent_of (map (arg_of names) args)) → Lends names args o
lends_some names [] o some = absurd (omega (arith, some))
lends_some names (a ∷ args) o some =
    let split = more_lent o (arg_of names a) (map (arg_of names) args) in
    elim (cases_eq (count o (lent_of (arg_of names a ∷ []))) 0) [
      | inl none ↦ let m = lends_some names args o (omega (arith, split, none, some)) in record { at = suc m.at; name = m.name; here = m.here; holds = m.holds }
      | inr here ↦ lends_one names a args o (omega (arith, here))
    ]

-- an object that no two arguments move is moved once
pub moved_once : (names : Names) (args : List ScriptArg) (o : ℕ) → ((i j k l : ℕ) → slice_get args i ≡ Some (given.Name k) → name_held names k ≡ Some (value.Obj o) → slice_get args j ≡ Some (given.Name l) → name_held names l ≡ Some (value.Obj o) → i ≡ j)
    → count o (moved_of (map (arg_of names) args)) ≤ 1
moved_once names [] o apart = omega arith
moved_once names (a ∷ args) o apart =
    let split = more_moved o (arg_of names a) (map (arg_of names) args) in
    let most = moved_most o (arg_of names a) in
    let deeper = moved_once names args o (λ i j k l is holds is' holds'. (let e = apart (suc i) (suc j) k l is holds is' holds' in omega (arith, e))) in
    elim (cases_eq (count o (moved_of (map (arg_of names) args))) 0) [
      | inl none ↦ omega (arith, split, none, most)
      | inr later ↦ elim (cases_eq (count o (moved_of (arg_of names a ∷ []))) 0) [
        | inl none ↦ omega (arith, split, none, deeper)
        | inr here ↦ absurd (
            let x = moved_one names a o (omega (arith, here)) in
            let y = moves_some names args o (omega (arith, later)) in
            let e = apart zero (suc y.at) x.0 y.name (ap Some x.1) x.2 y.here y.holds in
            omega (arith, e))
      ]
    ]
