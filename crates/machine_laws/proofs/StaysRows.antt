-- What each row leaves of the objects that were there, and of the instances.
use Rattle.std.proofs.Common.{◌≡◌, ℕ, zero, suc, ◌==◌, ◌<◌, ◌≤◌, ◌⊎◌, inl, inr, Bool, true, false, List, [], ◌∷◌, ◌++◌, length, Some, slice_get, refl, ap, sym, subst, ◌∙◌, arith}
use Rattle.std.proofs.lemmas.Bool.{cases_eq}
use Rattle.std.proofs.lemmas.List.{length-set, length-append}
use Rattle.machine_defs.specs.declared.values.Owner.{Owner}
use Rattle.machine_defs.specs.declared.entry.Entry.{Entry}
use Rattle.machine_defs.specs.declared.entry.Entry.TheVariants as entry
use Rattle.rl_defs.specs.declared.load.LoadRows.{LoadRows}
use Rattle.rl_defs.specs.Domains.{load_row, load_of_target}
use Rattle.machine_defs.specs.State.{State, Object, Instance, Placement, Root, Hung, lives, is_live}
use Rattle.rl_defs.specs.Rows.{row}
use Rattle.machine_defs.specs.Loans.{object_of, sweep}
use Rattle.machine_defs.specs.State.{instance_load}
use Rattle.machine_defs.specs.Objects.{fresh_object, with_cells, with_placement, placed}
use Rattle.machine_defs.specs.Seen.{words, with_instance}
use Rattle.machine_defs.specs.CallRows.{reloaded}
use Rattle.machine_defs.specs.Steps.{Row}
use Rattle.machine_laws.specs.Ledger.{at}
use Rattle.machine_laws.specs.Shape.{Laid}
use Rattle.machine_laws.proofs.Rows.{at_same, at_other}
use Rattle.machine_laws.proofs.Instances.{row_unchanged, lives_kept, lives_ended, count_kept}
use Rattle.machine_laws.proofs.Types.{Stays, AnyHow, stays_sweep, stays_without, stays_given, stays_cells, stays_chosen, stays_then, stays_still, new_or_old}
use Rattle.machine_laws.proofs.Moves.{IsNew, IsWrite, IsHang, Moves, row_moves}
use Rattle.machine_laws.proofs.LaidRows.{laid_moves, laid_row}
use Rattle.machine_laws.proofs.Parts.{load_of_instance, words_in, instance_for}

-- what may be said of an object before and after a row of this entry: it stays so, is a root of any owner, and in some rows gets other cells or
-- hangs somewhere
pub record Carries (e : Entry) (P : Object → Object → Type 0) : Type 0 where
  pub same : (x : Object) → P x x
  pub behind : (x y z : Object) → P x y → P y z → P x z
  pub rooted : (x : Object) (w : Owner) → P x (with_placement (Root w) x)
  pub written : IsWrite e → (x : Object) (change : List ℕ → List ℕ) → P x (with_cells change x)
  pub hung : IsHang e → (x : Object) (parent place : ℕ) → P x (with_placement (Hung parent place) x)

-- objects stay where the state is laid out, and it stays so
abbrev pub StaysThere : LoadRows → (Object → Object → Type 0) → State → State → Type 0
StaysThere L P s z = Laid L s → Laid L z × Stays P s z

there_moves : (L : LoadRows) (e : Entry) (P : Object → Object → Type 0) → Carries e P → (IsNew e → ⊥) → Moves L e (StaysThere L P)
there_moves L e P c old = record {
  still = λ s laid. (laid, stays_still P c.same s);
  behind = λ s m z first second laid. (let a = first laid in let b = second a.0 in (b.0, stays_then P c.behind s m z a.1 b.1));
  frames = λ s t fs laid. ((laid_moves L e).frames s t fs laid, stays_still P c.same s);
  thread = λ s t thread laid. ((laid_moves L e).thread s t thread laid, stays_still P c.same s);
  number = λ s n laid. ((laid_moves L e).number s n laid, stays_still P c.same s);
  given = λ s w os laid. ((laid_moves L e).given s w os laid, stays_given P c.same (λ x v. c.rooted x v) s w os);
  gone = λ s os laid. ((laid_moves L e).gone s os laid, stays_without P c.same L s os laid);
  made = λ new. absurd (old new);
  cells = λ writes s o change laid. ((laid_moves L e).cells writes s o change laid, stays_cells P c.same change (λ x. c.written writes x change) s o);
  hung = λ hangs s o parent place laid. ((laid_moves L e).hung hangs s o parent place laid, placed_as s o (Hung parent place) (λ x. c.hung hangs x parent place));
  rooted = λ s o w laid. ((laid_moves L e).rooted s o w laid, placed_as s o (Root w) (λ x. c.rooted x w));
  word = λ s i k v laid. ((laid_moves L e).word s i k v laid, stays_still P c.same s);
  taken = λ s i k laid. ((laid_moves L e).taken s i k laid, stays_still P c.same s);
  filled = λ puts s i k o laid. ((laid_moves L e).filled puts s i k o laid, stays_still P c.same s);
  ends = λ s i laid. ((laid_moves L e).ends s i laid, stays_still P c.same s);
  device = λ saves s b cells laid. ((laid_moves L e).device saves s b cells laid, stays_still P c.same s);
  reload = λ s x left laid. ((laid_moves L e).reload s x left laid, stays_still P c.same s);
}
  where
    placed_as : (s : State) (o : ℕ) (p : Placement) → ((x : Object) → P x (with_placement p x)) → Stays P s (placed o p s)
    placed_as s o p alike q y is = stays_chosen P c.same s (λ x. x.number == o) (with_placement p) (λ x. refl) (λ x. refl) alike q y is

pub stays_as : (L : LoadRows) (s : State) (e : Entry) (made : State) (P : Object → Object → Type 0) → Carries e P → Laid L s → (IsNew e → ⊥) → Row L s e made → Stays P s made
stays_as L s e made P c laid old makes = (row_moves L (StaysThere L P) e (there_moves L e P c old) s made makes laid).1

-- a row that makes no object leaves those that were there
carries_any : (e : Entry) → Carries e AnyHow
carries_any e = record { same = λ x. tt; behind = λ x y z p q. tt; rooted = λ x w. tt; written = λ writes x change. tt; hung = λ hangs x parent place. tt }

pub stays_row : (L : LoadRows) (s : State) (e : Entry) (made : State) → Laid L s → (IsNew e → ⊥) → Row L s e made → Stays AnyHow s made
stays_row L s e made laid old makes = stays_as L s e made AnyHow (carries_any e) laid old makes

pub stays_swept : (L : LoadRows) (s : State) (e : Entry) (made : State) → Laid L s → (IsNew e → ⊥) → Row L s e made → Stays AnyHow s (sweep made)
stays_swept L s e made laid old makes = stays_then AnyHow (λ x y w p q. tt) s made (sweep made) (stays_row L s e made laid old makes) (stays_sweep AnyHow (λ x. tt) L made (laid_row L s e made laid makes))

-- after a `new` there is what was there, and the new object
pub new_stays : (L : LoadRows) (s : State) (t : ℕ) (w : Owner) (o ty : ℕ) (values : List ℕ) (made : State) → Row L s (entry.New t w o ty values) made
    → (q : ℕ) (y : Object) → object_of made q ≡ Some y → (object_of s q ≡ Some y) ⊎ ((q ≡ s.next_object) × (y ≡ fresh_object L s.next_object ty w values))
new_stays L s t w o ty values made r q y is = elim r.makes [
  | inl c ↦ new_or_old L s ty w values q y (ap (λ (z : State). object_of z q) (sym c.does.becomes) ∙ is)
  | inr f ↦
      let found = new_or_old L s ty w [] q y (ap (λ (z : State). object_of z q) (sym f.does.becomes) ∙ is) in
      subst (λ vs. (object_of s q ≡ Some y) ⊎ ((q ≡ s.next_object) × (y ≡ fresh_object L s.next_object ty w vs))) (sym f.blank) found
]

-- instances that were opened keep their loads and as many words, and none of them comes to life
pub record SameInstances (s z : State) : Type 0 where
  pub grows : length s.instances ≤ length z.instances
  pub loads : (i : ℕ) → i ≤ length s.instances → instance_load z i ≡ instance_load s i
  pub lives : (i : ℕ) → i ≤ length s.instances → is_live z i ≡ true → is_live s i ≡ true
  pub words : (i : ℕ) → i ≤ length s.instances → length (words z i) ≡ length (words s i)

instances_still : (s z : State) → z.instances ≡ s.instances → SameInstances s z
instances_still s z same = record {
  grows = (let e : length z.instances ≡ length s.instances = ap length same in omega (arith, e));
  loads = λ i le. ap (λ xs. load_of_instance (row xs i)) same;
  lives = λ i le up. ap (λ xs. lives (row xs i)) (sym same) ∙ up;
  words = λ i le. ap (λ xs. length (words_in (row xs i))) same;
}

instances_then : (s m z : State) → SameInstances s m → SameInstances m z → SameInstances s z
instances_then s m z a b = record {
  grows = (let p = a.grows in let q = b.grows in omega (arith, p, q));
  loads = λ i le. b.loads i (let p = a.grows in omega (arith, p, le)) ∙ a.loads i le;
  lives = λ i le up. a.lives i le (b.lives i (let p = a.grows in omega (arith, p, le)) up);
  words = λ i le. b.words i (let p = a.grows in omega (arith, p, le)) ∙ a.words i le;
}

-- an instance that changes, not its load and the count of its words
instances_change : (s : State) (i : ℕ) (change : Instance → Instance) → ((x : Instance) → (change x).load ≡ x.load) → ((x : Instance) → length (change x).words ≡ length x.words)
    → ((j : ℕ) → is_live (with_instance i change s) j ≡ true → is_live s j ≡ true) → SameInstances s (with_instance i change s)
instances_change s i change load' words' lives' = record {
  grows = (let e = count_kept s i change in omega (arith, e));
  loads = λ j le. row_unchanged load_of_instance s.instances i change load' j;
  lives = λ j le up. lives' j up;
  words = λ j le. row_unchanged (λ x. length (words_in x)) s.instances i change words' j;
}

at_false : (i : ℕ) (live : ℕ → Bool) (j : ℕ) → at i false live j ≡ true → live j ≡ true
at_false i live j up = elim (cases_eq j i) [
  | inl e ↦ absurd (let e' : at i false live j ≡ false = rw e (at_same i false live) in cc (e', up))
  | inr ne ↦ sym (at_other i false live j ne) ∙ up
]

-- a row of a list that grew at its end
pub row_front : {A : Type 0} (xs ys : List A) (j : ℕ) → j ≤ length xs → row (xs ++ ys) j ≡ row xs j
row_front xs ys zero le = refl
row_front xs ys (suc j) le = go xs j (omega (arith, le))
  where
    go : (xs : List _) (j : ℕ) → j < length xs → slice_get (xs ++ ys) j ≡ slice_get xs j
    go [] j lt = absurd (omega (arith, lt))
    go (x ∷ xs) zero lt = refl
    go (x ∷ xs) (suc j) lt = go xs j (omega (arith, lt))

instances_reload : (L : LoadRows) (s : State) (x i left : ℕ) → SameInstances s (reloaded L x i left s)
instances_reload L s x i left =
    let more : List Instance = instance_for L (load_of_target L x) (load_row L (load_of_target L x)) in
    record {
      grows = (let e = length-append s.instances more in omega (arith, e));
      loads = λ j le. ap load_of_instance (row_front s.instances more j le);
      lives = λ j le up. ap lives (sym (row_front s.instances more j le)) ∙ up;
      words = λ j le. ap (λ y. length (words_in y)) (row_front s.instances more j le);
    }

instance_moves : (L : LoadRows) (e : Entry) → Moves L e SameInstances
instance_moves L e = record {
  still = λ s. instances_still s s refl;
  behind = λ s m z a b. instances_then s m z a b;
  frames = λ s t fs. instances_still s _ refl;
  thread = λ s t thread. instances_still s _ refl;
  number = λ s c. instances_still s _ refl;
  given = λ s w os. instances_still s _ refl;
  gone = λ s os. instances_still s _ refl;
  made = λ new s ty w values. instances_still s _ refl;
  cells = λ writes s o change. instances_still s _ refl;
  hung = λ hangs s o parent place. instances_still s _ refl;
  rooted = λ s o w. instances_still s _ refl;
  word = λ s i k v. instances_change s i _ (λ x. refl) (λ x. length-set x.words k v) (λ j up. ap (λ (f : ℕ → Bool). f j) (sym (lives_kept s i _ (λ x. refl))) ∙ up);
  taken = λ s i k. instances_change s i _ (λ x. refl) (λ x. refl) (λ j up. ap (λ (f : ℕ → Bool). f j) (sym (lives_kept s i _ (λ x. refl))) ∙ up);
  filled = λ puts s i k o. instances_change s i _ (λ x. refl) (λ x. refl) (λ j up. ap (λ (f : ℕ → Bool). f j) (sym (lives_kept s i _ (λ x. refl))) ∙ up);
  ends = λ s i. instances_change s i _ (λ x. refl) (λ x. refl) (λ j up. at_false i (is_live s) j (ap (λ (f : ℕ → Bool). f j) (sym (lives_ended s i)) ∙ up));
  device = λ saves s b cells. instances_still s _ refl;
  reload = λ s x left. instances_reload L s x _ left;
}

pub instances_row : (L : LoadRows) (s : State) (e : Entry) (made : State) → Row L s e made → SameInstances s made
instances_row L s e made makes = row_moves L SameInstances e (instance_moves L e) s made makes
