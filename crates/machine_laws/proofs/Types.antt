-- What objects are there, and of which structs, after each change.
use Rattle.std.proofs.Common.{◌≡◌, ◌≢◌, ℕ, zero, suc, ◌+◌, ◌-◌, ◌<◌, ◌≤◌, ◌==◌, Bool, true, false, cond, if◌then◌else◌, not, List, [], ◌∷◌, ◌++◌, length, map, filter, Option, Some, None, refl, ap, sym, subst, ◌∙◌, arith, inl, inr}
use Rattle.std.proofs.lemmas.Bool.{cases_Bool, eqb-true}
use Rattle.machine_defs.specs.declared.values.Owner.{Owner}
use Rattle.rl_defs.specs.declared.load.LoadRows.{LoadRows}
use Rattle.machine_defs.specs.State.{State, Object}
use Rattle.machine_defs.specs.Loans.{object_of, is_doomed, sweep}
use Rattle.machine_defs.specs.Arguments.{has}
use Rattle.machine_defs.specs.Objects.{owned_by}
use Rattle.machine_defs.specs.Objects.{fresh_object, with_new, without, with_cells, with_cells_of}
use Rattle.machine_defs.specs.CallRows.{passed_to}
use Rattle.machine_defs.specs.Seen.{types_of}
use Rattle.machine_laws.specs.Shape.{Laid}
use Rattle.machine_laws.proofs.Objects.{found, found_filter, found_map, found_append, if_passes, changed, or_else}
use Rattle.machine_laws.proofs.Seats.{IsIn}
use Rattle.machine_laws.proofs.Parts.{struct_or_none}

-- each object that is there was there before, of the same struct, and as far as P says the same
pub record Was (P : Object → Object → Type 0) (s : State) (o : ℕ) (y : Object) : Type 0 where
  pub x : Object
  pub here : object_of s o ≡ Some x
  pub ty : x.ty ≡ y.ty
  pub alike : P x y

abbrev pub Stays : (Object → Object → Type 0) → State → State → Type 0
Stays P s z = (o : ℕ) (y : Object) → object_of z o ≡ Some y → Was P s o y

-- nothing about it, the count of its cells, its cells and place
abbrev pub AnyHow : Object → Object → Type 0
AnyHow x y = Unit {0}

abbrev pub Unchanged : Object → Object → Type 0
Unchanged x y = x ≡ y

pub structs_same : (L : LoadRows) (P : Object → Object → Type 0) (s z : State) (o : ℕ) → Stays P s z → IsIn z o → (types_of L z).struct_of o ≡ (types_of L s).struct_of o
structs_same L P s z o stays there =
    let was = stays o there.0 there.1 in
    ap (struct_or_none L) there.1 ∙ sym was.ty ∙ sym (ap (struct_or_none L) was.here)

pub stays_filter : (P : Object → Object → Type 0) → ((x : Object) → P x x) → (L : LoadRows) (s : State) (test : Object → Bool) → Laid L s → (o : ℕ) (y : Object) → found o (filter test s.objects) ≡ Some y → Was P s o y
stays_filter P same L s test laid o y is = go (object_of s o) refl
  where
    known : if_passes test (found o s.objects) ≡ Some y
    known = sym (found_filter test 0 s.next_object o s.objects laid.objects) ∙ is

    go : (x : Option Object) → object_of s o ≡ x → Was P s o y
    go None e = absurd (let k : if_passes test None ≡ Some y = rw e at known in cc)
    go (Some x) e =
        let k : if_passes test (Some x) ≡ Some y = rw e at known in
        elim (cases_Bool (test x)) [
          | inl yes' ↦ let k' : Some x ≡ Some y = rw yes' at k in let eq : x ≡ y = cc in record { x = x; here = e; ty = ap (λ (z : Object). z.ty) eq; alike = subst (P x) eq (same x) }
          | inr no' ↦ absurd (let k' : None ≡ Some y = rw no' at k in cc)
        ]

pub stays_map : (P : Object → Object → Type 0) (s : State) (g : Object → Object) → ((x : Object) → (g x).number ≡ x.number) → ((x : Object) → (g x).ty ≡ x.ty) → ((x : Object) → P x (g x)) → (o : ℕ) (y : Object) → found o (map g s.objects) ≡ Some y → Was P s o y
stays_map P s g number ty alike o y is = go (object_of s o) refl
  where
    known : changed g (found o s.objects) ≡ Some y
    known = sym (found_map g number o s.objects) ∙ is

    go : (x : Option Object) → object_of s o ≡ x → Was P s o y
    go None e = absurd (let k : changed g None ≡ Some y = rw e at known in cc)
    go (Some x) e =
        let k : changed g (Some x) ≡ Some y = rw e at known in
        let eq : g x ≡ y = cc in
        record { x = x; here = e; ty = sym (ty x) ∙ ap (λ (z : Object). z.ty) eq; alike = subst (P x) eq (alike x) }

pub stays_sweep : (P : Object → Object → Type 0) → ((x : Object) → P x x) → (L : LoadRows) (s : State) → Laid L s → Stays P s (sweep s)
stays_sweep P same L s laid o y is = stays_filter P same L s (λ x. not (is_doomed s x)) laid o y is

pub stays_without : (P : Object → Object → Type 0) → ((x : Object) → P x x) → (L : LoadRows) (s : State) (os : List ℕ) → Laid L s → Stays P s (without os s)
stays_without P same L s os laid o y is = stays_filter P same L s (λ x. not (has os x.number)) laid o y is

-- a change that a test chooses
chosen : (P : Object → Object → Type 0) → ((x : Object) → P x x) → (g : Object → Object) → ((x : Object) → P x (g x)) → (b : Bool) (x : Object) → P x (if b then g x else x)
chosen P same g alike true x = alike x
chosen P same g alike false x = same x

pub stays_chosen : (P : Object → Object → Type 0) → ((x : Object) → P x x) → (s : State) (test : Object → Bool) (g : Object → Object) → ((x : Object) → (g x).number ≡ x.number) → ((x : Object) → (g x).ty ≡ x.ty) → ((x : Object) → P x (g x))
    → (o : ℕ) (y : Object) → found o (map (λ x. if test x then g x else x) s.objects) ≡ Some y → Was P s o y
stays_chosen P same s test g number ty alike = stays_map P s (λ x. if test x then g x else x)
    (λ x. chosen (λ a b. b.number ≡ a.number) (λ a. refl) g number (test x) x)
    (λ x. chosen (λ a b. b.ty ≡ a.ty) (λ a. refl) g ty (test x) x)
    (λ x. chosen P same g alike (test x) x)

pub stays_given : (P : Object → Object → Type 0) → ((x : Object) → P x x) → ((x : Object) (w : Owner) → P x (owned_by w x)) → (s : State) (w : Owner) (os : List ℕ) → Stays P s (passed_to w os s)
stays_given P same alike s w os o y is = stays_chosen P same s (λ x. has os x.number) (owned_by w) (λ x. refl) (λ x. refl) (λ x. alike x w) o y is

pub stays_cells : (P : Object → Object → Type 0) → ((x : Object) → P x x) → (change : List ℕ → List ℕ) → ((x : Object) → P x (with_cells change x)) → (s : State) (v : ℕ) → Stays P s (with_cells_of v change s)
stays_cells P same change alike s v o y is = stays_chosen P same s (λ x. x.number == v) (with_cells change) (λ x. refl) (λ x. refl) alike o y is

-- one step after another
pub stays_then : (P : Object → Object → Type 0) → ((x y z : Object) → P x y → P y z → P x z) → (s m z : State) → Stays P s m → Stays P m z → Stays P s z
stays_then P trans s m z first second o y is =
    let b = second o y is in
    let a = first o b.x b.here in
    record { x = a.x; here = a.here; ty = a.ty ∙ b.ty; alike = trans a.x b.x y a.alike b.alike }

pub stays_still : (P : Object → Object → Type 0) → ((x : Object) → P x x) → (s : State) → Stays P s s
stays_still P same s o y is = record { x = y; here = is; ty = refl; alike = same y }

-- after a `new` what is there was there, or is the new object
pub new_or_old : (L : LoadRows) (s : State) (ty : ℕ) (w : Owner) (values : List ℕ) (o : ℕ) (y : Object) → object_of (with_new L ty w values s) o ≡ Some y
    → Rattle.std.proofs.Common.◌⊎◌ (object_of s o ≡ Some y) ((o ≡ s.next_object) × (y ≡ fresh_object L s.next_object ty w values))
new_or_old L s ty w values o y is = go (object_of s o) refl
  where
    known : or_else (found o s.objects) (found o (fresh_object L s.next_object ty w values ∷ [])) ≡ Some y
    known = sym (found_append o s.objects (fresh_object L s.next_object ty w values ∷ [])) ∙ is

    go : (x : Option Object) → object_of s o ≡ x → Rattle.std.proofs.Common.◌⊎◌ (object_of s o ≡ Some y) ((o ≡ s.next_object) × (y ≡ fresh_object L s.next_object ty w values))
    go (Some x) e = inl (e ∙ (let k : Some x ≡ Some y = rw e at known in k))
    go None e =
        let k : found o (fresh_object L s.next_object ty w values ∷ []) ≡ Some y = rw e at known in
        elim (cases_Bool (s.next_object == o)) [
          | inl is' ↦ let k' : Some (fresh_object L s.next_object ty w values) ≡ Some y = rw is' at k in let eq : fresh_object L s.next_object ty w values ≡ y = cc in inr (sym (eqb-true s.next_object o is'), sym eq)
          | inr isn't ↦ absurd (let k' : None ≡ Some y = rw isn't at k in cc)
        ]
