-- What a client's call passes: arguments of the kinds of the method's parameters, each object moved once and none moved and lent.
use Rattle.std.proofs.Common.{◌≡◌, ℕ, zero, suc, ◌<◌, ◌≤◌, ◌^◌, Bool, true, ◌&&◌, List, [], ◌∷◌, map, Option, Some, None, slice_get, refl, subst, ◌∙◌, arith}
use Rattle.std.specs.List.{list_all, flat_map, AllZip}
use Rattle.std.proofs.lemmas.Bool.{eq-eqb, ltb-true, lt-ltb, and_parts}
use Rattle.rl_defs.specs.declared.values.Value.{Value}
use Rattle.rl_defs.specs.declared.values.Value.TheVariants as value
use Rattle.rl_defs.specs.declared.tables.Kind.{Kind}
use Rattle.rl_defs.specs.declared.tables.Kind.TheVariants as kind
use Rattle.rl_defs.specs.declared.tables.Width.{Width}
use Rattle.rl_defs.specs.declared.tables.Width.TheVariants as width
use Rattle.rl_defs.specs.declared.load.LoadRows.{LoadRows}
use Rattle.rl_defs.specs.declared.load.ScriptArg.{ScriptArg}
use Rattle.rl_defs.specs.declared.load.ScriptArg.TheVariants as given
use Rattle.rl_defs.specs.Registers.{Typing}
use Rattle.rl_defs.specs.Widths.{fits_width}
use Rattle.rl_defs.specs.Widths.{bits}
use Rattle.machine_defs.specs.Wants.{Names, name_held, used_by_arg, given_arg, lent_arg, arg_of}
use Rattle.rl_defs.specs.Rows.{is_target, trait_if}
use Rattle.machine_defs.specs.NativeFits.{value_suits, arg_suits, args_suit}
use Rattle.rl_defs.specs.Rows.{BindsName}
use Rattle.rl_defs.specs.ValidScripts.{ArgFits}
use Rattle.machine_laws.proofs.Parts.{is_bound}

-- the names that these arguments use are bound
abbrev pub all_bound : Names → List ScriptArg → Bool
all_bound names args = list_all (λ k. is_bound (name_held names k)) (flat_map used_by_arg args)

bound_parts : (names : Names) (a : ScriptArg) (args : List ScriptArg) → all_bound names (a ∷ args) ≡ true → (all_bound names (a ∷ []) ≡ true) × (all_bound names args ≡ true)
bound_parts names (given.Num n) args is = (refl, is)
bound_parts names (given.Target x) args is = (refl, is)
bound_parts names (given.Name k) args is = let parts = and_parts (is_bound (name_held names k)) (all_bound names args) is in (rw parts.0 refl, parts.1)
bound_parts names (given.Lent k) args is = let parts = and_parts (is_bound (name_held names k)) (all_bound names args) is in (rw parts.0 refl, parts.1)

-- a number of a width is one of each wider
wider : (v w : Width) (n : ℕ) → fits_width v n ≡ true → bits v ≤ bits w → fits_width w n ≡ true
wider width.Bool width.Bool n is le = is
wider width.Bool w n is le = above w (let lt = ltb-true n 2 is in lt) le
  where
    above : (w : Width) → n < 2 → 1 ≤ bits w → fits_width w n ≡ true
    above width.Bool lt le' = lt-ltb n 2 lt
    above width.W8 lt le' = lt-ltb n (2 ^ 8) (omega (arith, lt))
    above width.W16 lt le' = lt-ltb n (2 ^ 16) (omega (arith, lt))
    above width.W32 lt le' = lt-ltb n (2 ^ 32) (omega (arith, lt))
    above width.W64 lt le' = lt-ltb n (2 ^ 64) (omega (arith, lt))
wider width.W8 width.Bool n is le = absurd (omega (arith, le))
wider width.W8 width.W8 n is le = is
wider width.W8 width.W16 n is le = lt-ltb n (2 ^ 16) (let lt = ltb-true n (2 ^ 8) is in omega (arith, lt))
wider width.W8 width.W32 n is le = lt-ltb n (2 ^ 32) (let lt = ltb-true n (2 ^ 8) is in omega (arith, lt))
wider width.W8 width.W64 n is le = lt-ltb n (2 ^ 64) (let lt = ltb-true n (2 ^ 8) is in omega (arith, lt))
wider width.W16 width.Bool n is le = absurd (omega (arith, le))
wider width.W16 width.W8 n is le = absurd (omega (arith, le))
wider width.W16 width.W16 n is le = is
wider width.W16 width.W32 n is le = lt-ltb n (2 ^ 32) (let lt = ltb-true n (2 ^ 16) is in omega (arith, lt))
wider width.W16 width.W64 n is le = lt-ltb n (2 ^ 64) (let lt = ltb-true n (2 ^ 16) is in omega (arith, lt))
wider width.W32 width.W32 n is le = is
wider width.W32 width.W64 n is le = lt-ltb n (2 ^ 64) (let lt = ltb-true n (2 ^ 32) is in omega (arith, lt))
wider width.W32 w n is le = absurd (omega (arith, le))
wider width.W64 width.W64 n is le = is
wider width.W64 w n is le = absurd (omega (arith, le))

-- the parameter of an argument
arg_at : (L : LoadRows) (t p : ℕ) (kinds : List Kind) (args : List ScriptArg) → AllZip (ArgFits L t p) kinds args → (i : ℕ) (a : ScriptArg) → slice_get args i ≡ Some a → (k : Kind) × (slice_get kinds i ≡ Some k) × ArgFits L t p k a
arg_at L t p [] [] fit i a is = absurd cc
arg_at L t p [] (b ∷ args) fit i a is = absurd fit
arg_at L t p (k ∷ kinds) [] fit i a is = absurd fit
arg_at L t p (k ∷ kinds) (b ∷ args) fit zero a is = let same : b ≡ a = cc in (k, refl, subst (ArgFits L t p k) same fit.0)
arg_at L t p (k ∷ kinds) (b ∷ args) fit (suc i) a is = arg_at L t p kinds args fit.1 i a is

module _ (L : LoadRows) (t p : ℕ) (types : Typing) (names : Names)
    (suits : (k : ℕ) (of : Kind) (v : Value) → BindsName L t k of → name_held names k ≡ Some v → value_suits types of v ≡ true)
    (traits : (x : ℕ) → types.trait_of x ≡ trait_if L (is_target L x) x) where
  number_passed : (v w : Width) (k : ℕ) → BindsName L t k (kind.Num v) → bits v ≤ bits w → (found : Option Value) → name_held names k ≡ found → (is_bound found && true) ≡ true → arg_suits types (kind.Num w) (given_arg found) ≡ true
  number_passed v w k binds le None e bound = absurd cc
  number_passed v w k binds le (Some (value.Num n)) e bound = wider v w n (suits k (kind.Num v) (value.Num n) binds e) le
  number_passed v w k binds le (Some (value.Obj o)) e bound = absurd (let h = suits k (kind.Num v) (value.Obj o) binds e in cc)
  number_passed v w k binds le (Some (value.Cap x)) e bound = absurd (let h = suits k (kind.Num v) (value.Cap x) binds e in cc)

  object_passed : (s k : ℕ) → BindsName L t k (kind.Own s) → (found : Option Value) → name_held names k ≡ found → (is_bound found && true) ≡ true → arg_suits types (kind.Own s) (given_arg found) ≡ true
  object_passed s k binds None e bound = absurd cc
  object_passed s k binds (Some (value.Num n)) e bound = absurd (let h = suits k (kind.Own s) (value.Num n) binds e in cc)
  object_passed s k binds (Some (value.Obj o)) e bound = suits k (kind.Own s) (value.Obj o) binds e
  object_passed s k binds (Some (value.Cap x)) e bound = absurd (let h = suits k (kind.Own s) (value.Cap x) binds e in cc)

  object_lent : (s k : ℕ) → BindsName L t k (kind.Own s) → (found : Option Value) → name_held names k ≡ found → (is_bound found && true) ≡ true → arg_suits types (kind.Lent s) (lent_arg found) ≡ true
  object_lent s k binds None e bound = absurd cc
  object_lent s k binds (Some (value.Num n)) e bound = absurd (let h = suits k (kind.Own s) (value.Num n) binds e in cc)
  object_lent s k binds (Some (value.Obj o)) e bound = suits k (kind.Own s) (value.Obj o) binds e
  object_lent s k binds (Some (value.Cap x)) e bound = absurd (let h = suits k (kind.Own s) (value.Cap x) binds e in cc)

  arg_holds : (k : Kind) (a : ScriptArg) → ArgFits L t p k a → all_bound names (a ∷ []) ≡ true → arg_suits types k (arg_of names a) ≡ true
  arg_holds (kind.Num w) (given.Num n) fit bound = fit
  arg_holds (kind.Num w) (given.Name k) fit bound = number_passed fit.0 w k fit.1.binds fit.2 (name_held names k) refl bound
  arg_holds (kind.Own s) (given.Name k) fit bound = object_passed s k fit.binds (name_held names k) refl bound
  arg_holds (kind.Lent s) (given.Lent k) fit bound = object_lent s k fit.binds (name_held names k) refl bound
  arg_holds (kind.Cap c) (given.Target x) fit bound = eq-eqb (types.trait_of x) c (traits x ∙ fit.1)
  arg_holds k a fit bound = absurd fit

  pub args_hold : (kinds : List Kind) (args : List ScriptArg) → AllZip (ArgFits L t p) kinds args → all_bound names args ≡ true → args_suit types kinds (map (arg_of names) args) ≡ true
  args_hold [] [] fit bound = refl
  args_hold [] (a ∷ args) fit bound = absurd fit
  args_hold (k ∷ kinds) [] fit bound = absurd fit
  args_hold (k ∷ kinds) (a ∷ args) fit bound =
      let parts = bound_parts names a args bound in
      rw (arg_holds k a fit.0 parts.0, args_hold kinds args fit.1 parts.1) refl

  -- an object that a name passes on is for a parameter that owns
  pub owned_at : (kinds : List Kind) (args : List ScriptArg) → AllZip (ArgFits L t p) kinds args → (i k o : ℕ) → slice_get args i ≡ Some (given.Name k) → name_held names k ≡ Some (value.Obj o) → (s : ℕ) × (slice_get kinds i ≡ Some (kind.Own s))
  owned_at kinds args fit i k o is holds = let r = arg_at L t p kinds args fit i (given.Name k) is in go r.0 r.1 r.2
    where
      go : (of : Kind) → slice_get kinds i ≡ Some of → ArgFits L t p of (given.Name k) → (s : ℕ) × (slice_get kinds i ≡ Some (kind.Own s))
      go (kind.Own s) e fit' = (s, e)
      go (kind.Num w) e fit' = absurd (let h = suits k (kind.Num fit'.0) (value.Obj o) fit'.1.binds holds in cc)
      go of e fit' = absurd fit'
