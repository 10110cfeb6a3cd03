-- A frame that doesn't change fits on, where the objects that it has are of the same structs.
use Rattle.std.proofs.Common.{◌≡◌, ℕ, zero, suc, ◌==◌, Bool, true, false, ◌||◌, List, [], ◌∷◌, ◌++◌, length, Option, Some, None, refl, ap, ap₂, sym, subst, ◌∙◌, arith, inl, inr}
use Rattle.std.specs.List.{filter_map, list_all, slice_index_or}
use Rattle.std.proofs.lemmas.Bool.{cases_Bool, eq-eqb, and_parts, or_left}
use Rattle.std.proofs.lemmas.Option.{slice_get_past}
use Rattle.rl_defs.specs.declared.values.Value.{Value}
use Rattle.rl_defs.specs.declared.values.Value.TheVariants as value
use Rattle.machine_defs.specs.declared.values.Arg.{Arg}
use Rattle.machine_defs.specs.declared.values.Arg.TheVariants as arg
use Rattle.rl_defs.specs.declared.tables.Kind.{Kind}
use Rattle.rl_defs.specs.declared.tables.Kind.TheVariants as kind
use Rattle.machine_defs.specs.declared.frame.FrameBody.{FrameBody}
use Rattle.machine_defs.specs.declared.frame.FrameBody.TheVariants as body
use Rattle.machine_defs.specs.declared.frame.Action.{Action}
use Rattle.machine_defs.specs.declared.frame.Action.TheVariants as action
use Rattle.rl_defs.specs.declared.load.LoadRows.{LoadRows}
use Rattle.rl_defs.specs.DomainValue.{Domain}
use Rattle.rl_defs.specs.declared.code.Instr.{Instr}
use Rattle.rl_defs.specs.declared.code.Instr.TheVariants as instr
use Rattle.rl_defs.specs.Domains.{method_of, is_native}
use Rattle.rl_defs.specs.CodeNames.{cells_of, method_at}
use Rattle.rl_defs.specs.CodeKinds.{kinds_at, kind_in, left, method_called}
use Rattle.rl_defs.specs.Registers.{Typing}
use Rattle.machine_defs.specs.CodeFits.{FitsStand, FitsWaiting}
use Rattle.machine_defs.specs.State.{State, StackFrame, Object}
use Rattle.machine_defs.specs.Loans.{object_of}
use Rattle.machine_defs.specs.State.{instance_load}
use Rattle.machine_defs.specs.Arguments.{has, moved_of, lent_of}
use Rattle.machine_defs.specs.Arguments.{object_of_value}
use Rattle.machine_defs.specs.Objects.{kinds_of}
use Rattle.rl_defs.specs.Rows.{domain_of_load}
use Rattle.machine_defs.specs.Seen.{domain_of_instance, words}
use Rattle.machine_defs.specs.NativeFits.{arg_suits, args_suit, value_suits, values_suit, CanChoose}
use Rattle.machine_defs.specs.Seen.{types_of}
use Rattle.machine_defs.specs.Frames.{instr_at}
use Rattle.machine_defs.specs.Sound.{object_held}
use Rattle.machine_laws.specs.Registers.{Parted, Retyped}
use Rattle.machine_laws.specs.Fitting.{CodeRuns, CodeWaits, BodyFits}
use Rattle.machine_laws.proofs.OwnEntries.{stand_retyped, waiting_retyped}
use Rattle.machine_laws.proofs.Counts.{has_counted, counted_has}
use Rattle.machine_laws.proofs.Parts.{struct_or_none}

-- the objects that a body has, of its own or lent
abbrev pub body_objects : FrameBody Action → List ℕ
body_objects (body.Code at regs) = filter_map object_held regs
body_objects (body.Native held act) = held

abbrev pub has_object : StackFrame → ℕ → Bool
has_object f o = has (body_objects f.body) o || has f.lent o

-- two states agree on a frame: on the structs of its objects, and on its instance's load and count of words
pub record Agrees (L : LoadRows) (s z : State) (f : StackFrame) : Type 0 where
  pub structs : (o : ℕ) → has_object f o ≡ true → (types_of L z).struct_of o ≡ (types_of L s).struct_of o
  pub load : instance_load z f.instance ≡ instance_load s f.instance
  pub words : length (words z f.instance) ≡ length (words s f.instance)

-- an object that registers hold is among those that they have
pub register_has : (regs : List (Option Value)) (r o : ℕ) → slice_index_or regs r None ≡ Some (value.Obj o) → has (filter_map object_held regs) o ≡ true
register_has [] r o is = absurd cc
register_has (v ∷ regs) zero o is = rw is (let e = eq-eqb o o refl in rw e refl)
register_has (None ∷ regs) (suc r) o is = register_has regs r o is
register_has (Some (value.Num n) ∷ regs) (suc r) o is = register_has regs r o is
register_has (Some (value.Cap x) ∷ regs) (suc r) o is = register_has regs r o is
register_has (Some (value.Obj p) ∷ regs) (suc r) o is = let deeper = register_has regs r o is in elim (cases_Bool (p == o)) [
  | inl e ↦ rw e refl
  | inr e ↦ rw e deeper
]

-- the kinds of an object's cells are those of its struct
pub kinds_by_struct : (L : LoadRows) (s : State) (o : ℕ) → kinds_of L (object_of s o) ≡ cells_of L.tables ((types_of L s).struct_of o)
kinds_by_struct L s o = go (object_of s o)
  where
    go : (x : Option Object) → kinds_of L x ≡ cells_of L.tables (struct_or_none L x)
    go None = rw (slice_get_past L.tables.structs (length L.tables.structs) (omega arith)) refl
    go (Some x) = refl

-- arguments and values that suit, suit on
arg_same : (types other : Typing) (k : Kind) (a : Arg) → ((o : ℕ) → has (moved_of (a ∷ [])) o ≡ true → other.struct_of o ≡ types.struct_of o) → ((o : ℕ) → has (lent_of (a ∷ [])) o ≡ true → other.struct_of o ≡ types.struct_of o)
    → ((x : ℕ) → other.trait_of x ≡ types.trait_of x) → arg_suits types k a ≡ true → arg_suits other k a ≡ true
arg_same types other (kind.Num w) (arg.Num n) moved lent targets is = is
arg_same types other (kind.Own ty) (arg.Moved o) moved lent targets is = rw (moved o (rw (eq-eqb o o refl) refl)) is
arg_same types other (kind.Lent ty) (arg.Lent o) moved lent targets is = rw (lent o (rw (eq-eqb o o refl) refl)) is
arg_same types other (kind.Cap t) (arg.Cap x) moved lent targets is = rw (targets x) is
arg_same types other k a moved lent targets is = absurd cc

front_has : (xs ys : List ℕ) (o : ℕ) → has xs o ≡ true → has (xs ++ ys) o ≡ true
front_has [] ys o is = absurd cc
front_has (x ∷ xs) ys o is = elim (cases_Bool (x == o)) [
  | inl e ↦ rw e refl
  | inr e ↦ rw e (front_has xs ys o (let h : has xs o ≡ true = rw e at is in h))
]

moved_first : (a : Arg) (args : List Arg) (o : ℕ) → has (moved_of (a ∷ [])) o ≡ true → has (moved_of (a ∷ args)) o ≡ true
moved_first (arg.Moved p) args o is = front_has (p ∷ []) (moved_of args) o is
moved_first (arg.Num n) args o is = absurd cc
moved_first (arg.Lent p) args o is = absurd cc
moved_first (arg.Cap x) args o is = absurd cc

moved_later : (a : Arg) (args : List Arg) (o : ℕ) → has (moved_of args) o ≡ true → has (moved_of (a ∷ args)) o ≡ true
moved_later (arg.Moved p) args o is = elim (cases_Bool (p == o)) [ inl e ↦ rw e refl | inr e ↦ rw e is ]
moved_later (arg.Num n) args o is = is
moved_later (arg.Lent p) args o is = is
moved_later (arg.Cap x) args o is = is

lent_first : (a : Arg) (args : List Arg) (o : ℕ) → has (lent_of (a ∷ [])) o ≡ true → has (lent_of (a ∷ args)) o ≡ true
lent_first (arg.Lent p) args o is = front_has (p ∷ []) (lent_of args) o is
lent_first (arg.Num n) args o is = absurd cc
lent_first (arg.Moved p) args o is = absurd cc
lent_first (arg.Cap x) args o is = absurd cc

pub lent_later : (a : Arg) (args : List Arg) (o : ℕ) → has (lent_of args) o ≡ true → has (lent_of (a ∷ args)) o ≡ true
lent_later (arg.Lent p) args o is = elim (cases_Bool (p == o)) [ inl e ↦ rw e refl | inr e ↦ rw e is ]
lent_later (arg.Num n) args o is = is
lent_later (arg.Moved p) args o is = is
lent_later (arg.Cap x) args o is = is

pub args_same : (types other : Typing) (kinds : List Kind) (args : List Arg) → ((o : ℕ) → has (moved_of args) o ≡ true → other.struct_of o ≡ types.struct_of o) → ((o : ℕ) → has (lent_of args) o ≡ true → other.struct_of o ≡ types.struct_of o)
    → ((x : ℕ) → other.trait_of x ≡ types.trait_of x) → args_suit types kinds args ≡ true → args_suit other kinds args ≡ true
args_same types other [] [] moved lent targets is = refl
args_same types other (k ∷ kinds) (a ∷ args) moved lent targets is =
    let parts = and_parts (arg_suits types k a) (args_suit types kinds args) is in
    rw (
      arg_same types other k a (λ o h. moved o (moved_first a args o h)) (λ o h. lent o (lent_first a args o h)) targets parts.0,
      args_same types other kinds args (λ o h. moved o (moved_later a args o h)) (λ o h. lent o (lent_later a args o h)) targets parts.1,
    ) refl
args_same types other [] (a ∷ args) moved lent targets is = absurd cc
args_same types other (k ∷ kinds) [] moved lent targets is = absurd cc

pub value_same : (types other : Typing) (k : Kind) (v : Value) → ((o : ℕ) → v ≡ value.Obj o → other.struct_of o ≡ types.struct_of o) → ((x : ℕ) → other.trait_of x ≡ types.trait_of x) → value_suits types k v ≡ true → value_suits other k v ≡ true
value_same types other (kind.Num w) (value.Num n) objects targets is = is
value_same types other (kind.Own ty) (value.Obj o) objects targets is = rw (objects o refl) is
value_same types other (kind.Cap t) (value.Cap x) objects targets is = rw (targets x) is
value_same types other k v objects targets is = absurd cc

result_first : (v : Value) (values : List Value) (o : ℕ) → v ≡ value.Obj o → has (filter_map object_of_value (v ∷ values)) o ≡ true
result_first v values o is = rw is (let e = eq-eqb o o refl in rw e refl)

result_later : (v : Value) (values : List Value) (o : ℕ) → has (filter_map object_of_value values) o ≡ true → has (filter_map object_of_value (v ∷ values)) o ≡ true
result_later (value.Obj p) values o is = elim (cases_Bool (p == o)) [ inl e ↦ rw e refl | inr e ↦ rw e is ]
result_later (value.Num n) values o is = is
result_later (value.Cap x) values o is = is

pub values_same : (types other : Typing) (kinds : List Kind) (values : List Value) → ((o : ℕ) → has (filter_map object_of_value values) o ≡ true → other.struct_of o ≡ types.struct_of o) → ((x : ℕ) → other.trait_of x ≡ types.trait_of x)
    → values_suit types kinds values ≡ true → values_suit other kinds values ≡ true
values_same types other [] [] objects targets is = refl
values_same types other (k ∷ kinds) (v ∷ values) objects targets is =
    let parts = and_parts (value_suits types k v) (values_suit types kinds values) is in
    rw (
      value_same types other k v (λ o h. objects o (result_first v values o h)) targets parts.0,
      values_same types other kinds values (λ o h. objects o (result_later v values o h)) targets parts.1,
    ) refl
values_same types other [] (v ∷ values) objects targets is = absurd cc
values_same types other (k ∷ kinds) [] objects targets is = absurd cc

all_has : (xs os : List ℕ) → list_all (has xs) os ≡ true → (o : ℕ) → has os o ≡ true → has xs o ≡ true
all_has xs [] is o h = absurd cc
all_has xs (p ∷ os) is o h =
    let parts = and_parts (has xs p) (list_all (has xs) os) is in
    elim (cases_Bool (p == o)) [
      | inl e ↦ let same = Rattle.std.proofs.lemmas.Bool.eqb-true p o e in subst (λ n. has xs n ≡ true) same parts.0
      | inr e ↦ all_has xs os parts.1 o (let h' : has os o ≡ true = rw e at h in h')
    ]

all_either : (xs ys os : List ℕ) → list_all (λ o. has xs o || has ys o) os ≡ true → (o : ℕ) → has os o ≡ true → (has xs o || has ys o) ≡ true
all_either xs ys [] is o h = absurd cc
all_either xs ys (p ∷ os) is o h =
    let parts = and_parts (has xs p || has ys p) (list_all (λ o. has xs o || has ys o) os) is in
    elim (cases_Bool (p == o)) [
      | inl e ↦ let same = Rattle.std.proofs.lemmas.Bool.eqb-true p o e in subst (λ n. (has xs n || has ys n) ≡ true) same parts.0
      | inr e ↦ all_either xs ys os parts.1 o (let h' : has os o ≡ true = rw e at h in h')
    ]

-- what a native body may choose, it may choose on
pub choice_kept : (L : LoadRows) (s z : State) (f : StackFrame) (held : List ℕ) (act : Action) → ((o : ℕ) → (has held o || has f.lent o) ≡ true → (types_of L z).struct_of o ≡ (types_of L s).struct_of o) → instance_load z f.instance ≡ instance_load s f.instance → length (words z f.instance) ≡ length (words s f.instance)
    → CanChoose L s f held act → CanChoose L z f held act
choice_kept L s z f held (action.Set o k values) same load' words' can = record {
  holds = can.holds;
  some = can.some;
  suits =
      let kinds : kinds_of L (object_of z o) ≡ kinds_of L (object_of s o) = kinds_by_struct L z o ∙ ap (cells_of L.tables) (same o (or_left (has held o) (has f.lent o) can.holds)) ∙ sym (kinds_by_struct L s o) in
      rw kinds can.suits;
}
choice_kept L s z f held (action.Wput k v) same load' words' can = record { inside = rw words' can.inside; width = can.width }
choice_kept L s z f held (action.Call x m args) same load' words' can = record {
  import = can.import;
  bound = rw load' can.bound;
  method = can.method;
  row = can.row;
  suits = args_same (types_of L s) (types_of L z) can.method.params args
      (λ o h. same o (or_left (has held o) (has f.lent o) (all_has held (moved_of args) can.moves o h)))
      (λ o h. same o (all_either held f.lent (lent_of args) can.lends o h))
      (λ x. refl) can.suits;
  moves = can.moves;
  lends = can.lends;
  once = can.once;
  apart = can.apart;
  room = can.room;
}
choice_kept L s z f held (action.Ret results) same load' words' can = record {
  method = can.method;
  row = can.row;
  suits = values_same (types_of L s) (types_of L z) can.method.results results
      (λ o h. same o (or_left (has held o) (has f.lent o) (counted_has held o (let a = has_counted (filter_map object_of_value results) o h in let b = can.all o in omega (arith, a, b)))))
      (λ x. refl) can.suits;
  all = can.all;
}
choice_kept L s z f held other same load' words' can = can

module _ (L : LoadRows) (s z : State) (f : StackFrame) (agrees : Agrees L s z f) where
  domain_same : domain_of_instance L z f.instance ≡ domain_of_instance L s f.instance
  domain_same = ap (domain_of_load L) agrees.load

  retyped : (at : ℕ) (regs : List (Option Value)) → f.body ≡ body.Code at regs → Retyped (types_of L s) (types_of L z) regs
  retyped at regs is = record {
    objects = λ r o h. agrees.structs o (or_left (has (body_objects f.body) o) (has f.lent o) (rw is (register_has regs r o h)));
    targets = λ x. refl;
  }

  abbrev old' : Domain
  old' = domain_of_instance L s f.instance

  moved' : (P : Domain → Type 0) → P old' → P (domain_of_instance L z f.instance)
  moved' P p = subst P (sym domain_same) p

  runs_on : (at : ℕ) (regs : List (Option Value)) → f.body ≡ body.Code at regs → CodeRuns L s f at regs → CodeRuns L z f at regs
  runs_on at regs is runs = record {
    stands = moved' (λ d. FitsStand (types_of L z) d (record { at = at; regs = regs })) (stand_retyped (types_of L s) (types_of L z) old' (record { at = at; regs = regs }) (retyped at regs is) runs.stands);
    parted = moved' (λ d. Parted f.lent (kinds_at d at) regs) runs.parted;
    method = moved' (λ d. method_at d at ≡ method_of L f.target f.method) runs.method;
  }

  waits_on : (g : StackFrame) (at : ℕ) (regs : List (Option Value)) → f.body ≡ body.Code at regs → CodeWaits L s f at regs g → CodeWaits L z f at regs g
  waits_on g at regs is w =
      let call : Instr = instr.Call w.target w.name w.args w.results w.failed w.label in
      record {
        target = w.target;
        name = w.name;
        args = w.args;
        results = w.results;
        failed = w.failed;
        label = w.label;
        here = moved' (λ d. instr_at d at ≡ Some call) w.here;
        fits = moved' (λ d. FitsWaiting (types_of L z) d call (record { at = at; regs = regs })) (waiting_retyped (types_of L s) (types_of L z) old' call (record { at = at; regs = regs }) (retyped at regs is) w.fits);
        parted = moved' (λ d. Parted f.lent (left (kinds_at d at) call) regs) w.parted;
        method = moved' (λ d. method_at d at ≡ method_of L f.target f.method) w.method;
        calls = moved' (λ d. method_called d.tables (kind_in (kinds_at d at) w.target) w.name ≡ method_of L g.target g.method) w.calls;
      }

  pub body_kept : (above : List StackFrame) (b : FrameBody Action) → f.body ≡ b → BodyFits L s f above b → BodyFits L z f above b
  body_kept [] (body.Code at regs) is fits = (moved' (λ d. is_native d.lines ≡ false) fits.0, runs_on at regs is fits.1)
  body_kept (g ∷ above) (body.Code at regs) is fits = (moved' (λ d. is_native d.lines ≡ false) fits.0, waits_on g at regs is fits.1)
  body_kept [] (body.Native held act) is fits = (
    moved' (λ d. is_native d.lines ≡ true) fits.0,
    choice_kept L s z f held act (λ o h. agrees.structs o (rw is h)) agrees.load agrees.words fits.1,
  )
  body_kept (g ∷ above) (body.Native held act) is fits = (moved' (λ d. is_native d.lines ≡ true) fits.0, fits.1)

-- whatever stands above it, where that is for the same method
pub above_same : (L : LoadRows) (s : State) (f g h : StackFrame) (above : List StackFrame) (b : FrameBody Action) → h.target ≡ g.target → h.method ≡ g.method → h.args ≡ g.args → BodyFits L s f (g ∷ above) b → (rest : List StackFrame) → BodyFits L s f (h ∷ rest) b
above_same L s f g h above (body.Code at regs) target method args fits rest = (
  fits.0,
  record {
    target = fits.1.target;
    name = fits.1.name;
    args = fits.1.args;
    results = fits.1.results;
    failed = fits.1.failed;
    label = fits.1.label;
    here = fits.1.here;
    fits = fits.1.fits;
    parted = fits.1.parted;
    method = fits.1.method;
    calls = fits.1.calls ∙ sym (ap₂ (method_of L) target method);
  },
)
above_same L s f g h above (body.Native held act) target method args fits rest = (fits.0, rw (target, method, args) fits.1)
