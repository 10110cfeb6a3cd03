-- What a call leaves of the names, place by place; and the objects that it moves.
use Rattle.std.proofs.Common.{◌≡◌, ◌≢◌, ◌∙◌, inl, inr, ℕ, zero, suc, ◌+◌, ◌<◌, ◌≤◌, ◌==◌, ◌||◌, List, [], ◌∷◌, Option, Some, None, Bool, true, false, length, map, set, get_or, refl, ap, sym, arith}
use Rattle.std.specs.List.{filter_map}
use Rattle.std.proofs.lemmas.List.{ext_get_or, get_or-map, get_or-set_other, length-set, length-map}
use Rattle.std.proofs.lemmas.Bool.Decides.{eqb_tells}
use Rattle.rl_defs.specs.declared.load.ScriptArg.TheVariants as given
use Rattle.rl_defs.specs.declared.values.Value.TheVariants as value
use Rattle.rl_defs.specs.declared.load.ScriptArg.{ScriptArg}
use Rattle.rl_defs.specs.declared.values.Value.{Value}
use Rattle.machine_defs.specs.declared.values.Arg.{Arg}
use Rattle.machine_defs.specs.Arguments.{has, moved_of}
use Rattle.machine_defs.specs.Calling.{unless_moved}
use Rattle.machine_defs.specs.Loans.{count}
use Rattle.machine_defs.specs.Sound.{object_held}
use Rattle.machine_defs.specs.Wants.{Names, name_held, arg_of, given_arg, lent_arg}
use Rattle.client_threads.specs.GivenUp.{AreHeldOnce, given_up_names, given_up_by, without_object}

-- what is left of a name's content, where the name is given up and where it isn't
abbrev pub left : Bool → Option Value → Option Value
left true (Some (value.Obj o)) = None
left _ held = held

-- the argument is this name
abbrev pub names_it : ℕ → ScriptArg → Bool
names_it k (given.Name j) = j == k
names_it k arg = false

abbrev pub is_named : ℕ → List ScriptArg → Bool
is_named k [] = false
is_named k (arg ∷ args) = names_it k arg || is_named k args

left_twice : (a b : Bool) (held : Option Value) → left b (left a held) ≡ left (a || b) held
left_twice false b held = refl
left_twice true false None = refl
left_twice true false (Some (value.Num n)) = refl
left_twice true false (Some (value.Obj o)) = refl
left_twice true false (Some (value.Cap x)) = refl
left_twice true true None = refl
left_twice true true (Some (value.Num n)) = refl
left_twice true true (Some (value.Obj o)) = refl
left_twice true true (Some (value.Cap x)) = refl

-- ---- one argument

none_there : (names : Names) (k : ℕ) → get_or (set names k None) k None ≡ None
none_there [] k = refl
none_there (v ∷ names) zero = refl
none_there (v ∷ names) (suc k) = none_there names k

other_left : (names : Names) (j k : ℕ) (held : Option Value) → j ≢ k → name_held (without_object j held names) k ≡ name_held names k
other_left names j k None apart = refl
other_left names j k (Some (value.Num n)) apart = refl
other_left names j k (Some (value.Obj o)) apart = get_or-set_other names j k None None (λ e. apart (sym e))
other_left names j k (Some (value.Cap x)) apart = refl

same_left : (names : Names) (k : ℕ) (held : Option Value) → name_held names k ≡ held → name_held (without_object k held names) k ≡ left true held
same_left names k None is = is
same_left names k (Some (value.Num n)) is = is
same_left names k (Some (value.Obj o)) is = none_there names k
same_left names k (Some (value.Cap x)) is = is

one_left : (names : Names) (k : ℕ) (arg : ScriptArg) → name_held (given_up_by arg names) k ≡ left (names_it k arg) (name_held names k)
one_left names k (given.Num n) = refl
one_left names k (given.Lent j) = refl
one_left names k (given.Target x) = refl
one_left names k (given.Name j) = elim (eqb_tells j k) [
  | inl a ↦
      ap (λ (i : ℕ). name_held (without_object i (name_held names i) names) k) a.1 ∙ same_left names k (name_held names k) refl
      ∙ sym (ap (λ (b : Bool). left b (name_held names k)) a.0)
  | inr b ↦ other_left names j k (name_held names j) b.1 ∙ sym (ap (λ (c : Bool). left c (name_held names k)) b.0)
]

long_left : (names : Names) (k : ℕ) (held : Option Value) → length (without_object k held names) ≡ length names
long_left names k None = refl
long_left names k (Some (value.Num n)) = refl
long_left names k (Some (value.Obj o)) = length-set names k None
long_left names k (Some (value.Cap x)) = refl

one_long : (names : Names) (arg : ScriptArg) → length (given_up_by arg names) ≡ length names
one_long names (given.Num n) = refl
one_long names (given.Lent j) = refl
one_long names (given.Target x) = refl
one_long names (given.Name j) = long_left names j (name_held names j)

-- ---- all arguments

all_left : (names : Names) (k : ℕ) (args : List ScriptArg) → name_held (given_up_names args names) k ≡ left (is_named k args) (name_held names k)
all_left names k [] = refl
all_left names k (arg ∷ args) =
    all_left (given_up_by arg names) k args ∙ ap (left (is_named k args)) (one_left names k arg)
    ∙ left_twice (names_it k arg) (is_named k args) (name_held names k)

all_long : (names : Names) (args : List ScriptArg) → length (given_up_names args names) ≡ length names
all_long names [] = refl
all_long names (arg ∷ args) = all_long (given_up_by arg names) args ∙ one_long names arg

-- ---- an object is held by one name at most

skipped : (o : ℕ) (v : Option Value) (names : Names) → count o (filter_map object_held names) ≤ count o (filter_map object_held (v ∷ names))
skipped o None names = omega arith
skipped o (Some (value.Num n)) names = omega arith
skipped o (Some (value.Obj p)) names = omega arith
skipped o (Some (value.Cap x)) names = omega arith

counted_first : (o : ℕ) (names : Names) → count o (filter_map object_held (Some (value.Obj o) ∷ names)) ≡ 1 + count o (filter_map object_held names)
counted_first o names = elim (eqb_tells o o) [
  | inl a ↦ rw a.0 refl
  | inr b ↦ absurd (b.1 refl)
]

counted : (o k : ℕ) (names : Names) → name_held names k ≡ Some (value.Obj o) → 0 < count o (filter_map object_held names)
counted o k [] there = absurd cc
counted o zero (v ∷ names) there =
    let is : count o (filter_map object_held (v ∷ names)) ≡ 1 + count o (filter_map object_held names) =
    ap (λ (w : Option Value). count o (filter_map object_held (w ∷ names))) there ∙ counted_first o names in
    omega arith
counted o (suc k) (v ∷ names) there = omega (arith, counted o k names there, skipped o v names)

first_alone : (o k : ℕ) (v : Option Value) (names : Names) → count o (filter_map object_held (v ∷ names)) ≤ 1 → v ≡ Some (value.Obj o)
    → name_held names k ≡ Some (value.Obj o) → ⊥
first_alone o k v names once here there =
    let is : count o (filter_map object_held (v ∷ names)) ≡ 1 + count o (filter_map object_held names) =
    ap (λ (w : Option Value). count o (filter_map object_held (w ∷ names))) here ∙ counted_first o names in
    omega (arith, counted o k names there)

one_name : (o j k : ℕ) (names : Names) → count o (filter_map object_held names) ≤ 1 → name_held names j ≡ Some (value.Obj o)
    → name_held names k ≡ Some (value.Obj o) → j ≡ k
one_name o j k [] once at there = absurd cc
one_name o zero zero (v ∷ names) once at there = refl
one_name o zero (suc k) (v ∷ names) once at there = absurd (first_alone o k v names once at there)
one_name o (suc j) zero (v ∷ names) once at there = absurd (first_alone o j v names once there at)
one_name o (suc j) (suc k) (v ∷ names) once at there =
    ap (λ (n : ℕ). suc n) (one_name o j k names (omega (arith, once, skipped o v names)) at there)

-- ---- the moved objects

-- a name moves an object where it is the one that holds it
moved_by_name : (names : Names) (o j k : ℕ) (args : List ScriptArg) (held : Option Value) → AreHeldOnce names
    → name_held names k ≡ Some (value.Obj o) → name_held names j ≡ held
    → has (moved_of (given_arg held ∷ map (arg_of names) args)) o ≡ (j == k || has (moved_of (map (arg_of names) args)) o)
moved_by_name names o j k args (Some (value.Obj p)) once there at = elim (eqb_tells j k) [
  | inl a ↦
      let both : Some (value.Obj p) ≡ Some (value.Obj o) = sym at ∙ ap (name_held names) a.1 ∙ there in
      let same : p ≡ o = cc in
      elim (eqb_tells p o) [
        | inl c ↦ rw (a.0, c.0) refl
        | inr c ↦ absurd (c.1 same)
      ]
  | inr b ↦
      elim (eqb_tells p o) [
        | inl c ↦ absurd (b.1 (one_name o j k names (once o) (at ∙ ap (λ (n : ℕ). Some (value.Obj n)) c.1) there))
        | inr c ↦ rw (b.0, c.0) refl
      ]
]
moved_by_name names o j k args held once there at = elim (eqb_tells j k) [
  | inl a ↦ let both : held ≡ Some (value.Obj o) = sym at ∙ ap (name_held names) a.1 ∙ there in absurd cc
  | inr b ↦ rw b.0 refl
]

-- what is lent isn't moved
lent_stays : (held : Option Value) (args : List Arg) → moved_of (lent_arg held ∷ args) ≡ moved_of args
lent_stays None args = refl
lent_stays (Some (value.Num n)) args = refl
lent_stays (Some (value.Obj o)) args = refl
lent_stays (Some (value.Cap x)) args = refl

moved_named : (names : Names) (o k : ℕ) (args : List ScriptArg) → AreHeldOnce names → name_held names k ≡ Some (value.Obj o)
    → has (moved_of (map (arg_of names) args)) o ≡ is_named k args
moved_named names o k [] once there = refl
moved_named names o k (given.Num n ∷ args) once there = moved_named names o k args once there
moved_named names o k (given.Target x ∷ args) once there = moved_named names o k args once there
moved_named names o k (given.Name j ∷ args) once there =
    moved_by_name names o j k args (name_held names j) once there refl ∙ ap (λ (b : Bool). j == k || b) (moved_named names o k args once there)
moved_named names o k (given.Lent j ∷ args) once there =
    ap (λ (os : List ℕ). has os o) (lent_stays (name_held names j) (map (arg_of names) args)) ∙ moved_named names o k args once there

stays : (moved : List ℕ) (b : Bool) (held : Option Value) → ((o : ℕ) → held ≡ Some (value.Obj o) → has moved o ≡ b)
    → left b held ≡ unless_moved moved held
stays moved true None same = refl
stays moved false None same = refl
stays moved true (Some (value.Num n)) same = refl
stays moved false (Some (value.Num n)) same = refl
stays moved true (Some (value.Cap x)) same = refl
stays moved false (Some (value.Cap x)) same = refl
stays moved true (Some (value.Obj o)) same = rw (same o refl) refl
stays moved false (Some (value.Obj o)) same = rw (same o refl) refl

-- where no object is held by two names, those names are given up that hold moved objects
pub moved_given_up : (names : Names) (args : List ScriptArg) → AreHeldOnce names
    → given_up_names args names ≡ map (unless_moved (moved_of (map (arg_of names) args))) names
moved_given_up names args once =
    ext_get_or None (given_up_names args names) (map (unless_moved (moved_of (map (arg_of names) args))) names)
    (all_long names args ∙ sym (length-map names (unless_moved (moved_of (map (arg_of names) args)))))
    (λ k within.
    let held : k < length names = omega (arith, within, all_long names args) in
    all_left names k args
    ∙ stays (moved_of (map (arg_of names) args)) (is_named k args) (name_held names k) (λ o there. moved_named names o k args once there)
    ∙ sym (get_or-map (unless_moved (moved_of (map (arg_of names) args))) names k None None held))
