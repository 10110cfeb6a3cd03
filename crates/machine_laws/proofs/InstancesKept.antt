-- Each row leaves instances of their loads, with as many words and slots as their domains.
use Rattle.std.proofs.Common.{◌≡◌, ℕ, zero, suc, ◌-◌, ◌<◌, ◌≤◌, List, [], ◌∷◌, ◌++◌, length, Option, Some, None, slice_get, slice_set, refl, ap, sym, subst, ◌∙◌, inl, inr}
use Rattle.std.proofs.lemmas.Bool.{cases_eq}
use Rattle.std.proofs.lemmas.List.{length-replicate, length-map, length-set}
use Rattle.machine_defs.specs.declared.entry.Entry.{Entry}
use Rattle.rl_defs.specs.declared.load.LoadRows.{LoadRows}
use Rattle.rl_defs.specs.declared.load.LoadRow.{LoadRow}
use Rattle.rl_defs.specs.DomainValue.{Domain}
use Rattle.rl_defs.specs.Domains.{load_row, load_of_target, domain_of, domain_lines, words_of, slots_of}
use Rattle.machine_defs.specs.State.{State, Instance, first_instance}
use Rattle.rl_defs.specs.Rows.{row}
use Rattle.machine_defs.specs.Loans.{sweep}
use Rattle.rl_defs.specs.Rows.{domain_or_none, domain_of_load}
use Rattle.machine_defs.specs.Seen.{with_instance}
use Rattle.machine_defs.specs.Steps.{Row}
use Rattle.machine_laws.specs.Fitting.{InstanceFits, Fitting}
use Rattle.machine_laws.proofs.Rows.{row_within, row_set_same, row_set_other}
use Rattle.machine_laws.proofs.Moves.{Moves, row_moves}
use Rattle.machine_laws.proofs.Parts.{instance_for}
use Rattle.rl_defs.specs.Valid.{Valid}

-- each instance is of a load
abbrev pub AllInstances : LoadRows → List Instance → Type 0
AllInstances L xs = (i : ℕ) (x : Instance) → row xs i ≡ Some x → InstanceFits L x

abbrev InstancesStay : LoadRows → State → State → Type 0
InstancesStay L s z = AllInstances L s.instances → AllInstances L z.instances

-- the lines of a load's domain, by the domain's number
domain_same : (L : LoadRows) (d : Option Domain) → domain_lines d ≡ (domain_or_none L d).lines
domain_same L None = refl
domain_same L (Some d) = refl

row_here : (L : LoadRows) (k : ℕ) (l : LoadRow) → load_row L k ≡ Some l → (0 < k) × (k ≤ length L.loads)
row_here L zero l is = absurd cc
row_here L (suc k) l is = row_within L.loads (suc k) l is

-- the first instance of a load
pub first_fits : (L : LoadRows) (k : ℕ) (l : LoadRow) → load_row L k ≡ Some l → InstanceFits L (first_instance L k l)
first_fits L k l is =
    let w = row_here L k l is in
    let lines : domain_of L l.domain ≡ (domain_of_load L k).lines = rw is (domain_same L (slice_get L.domains l.domain)) in
    record {
      some = w.0;
      within = w.1;
      words = length-replicate (words_of (domain_of L l.domain)) 0 ∙ ap words_of lines;
      slots = length-map (slots_of (domain_of L l.domain)) (λ slot. None) ∙ ap (λ ls. length (slots_of ls)) lines;
    }

-- one that changes, not its load nor how many words and slots it has
changed_fits : (L : LoadRows) (x y : Instance) → y.load ≡ x.load → length y.words ≡ length x.words → length y.slots ≡ length x.slots → InstanceFits L x → InstanceFits L y
changed_fits L x y a b c fits = record {
  some = subst (λ n. 0 < n) (sym a) fits.some;
  within = subst (λ n. n ≤ length L.loads) (sym a) fits.within;
  words = b ∙ fits.words ∙ ap (λ k. words_of (domain_of_load L k).lines) (sym a);
  slots = c ∙ fits.slots ∙ ap (λ k. length (slots_of (domain_of_load L k).lines)) (sym a);
}

instances_changed : (L : LoadRows) (s : State) (i : ℕ) (change : Instance → Instance) → ((x : Instance) → (change x).load ≡ x.load) → ((x : Instance) → length (change x).words ≡ length x.words) → ((x : Instance) → length (change x).slots ≡ length x.slots)
    → InstancesStay L s (with_instance i change s)
instances_changed L s i change load' words' slots' fits j y is = go (row s.instances i) refl
  where
    go : (here : Option Instance) → row s.instances i ≡ here → InstanceFits L y
    go None e = fits j y (let h : row s.instances j ≡ Some y = rw e at is in h)
    go (Some x) e =
        let w = row_within s.instances i x e in
        let known : row (slice_set s.instances (i - 1) (change x)) j ≡ Some y = rw e at is in
        elim (cases_eq j i) [
          | inl same ↦
              let there = row_set_same s.instances i (change x) w.0 w.1 in
              let k : row (slice_set s.instances (i - 1) (change x)) i ≡ Some y = rw same at known in
              let eq : change x ≡ y = (let h : Some (change x) ≡ Some y = sym there ∙ k in cc) in
              subst (InstanceFits L) eq (changed_fits L x (change x) (load' x) (words' x) (slots' x) (fits i x e))
          | inr ne ↦ fits j y (sym (row_set_other s.instances i j (change x) w.0 ne) ∙ known)
        ]

-- instances behind others
instances_grow : (L : LoadRows) (xs ys : List Instance) → AllInstances L xs → AllInstances L ys → AllInstances L (xs ++ ys)
instances_grow L [] ys a b i x is = b i x is
instances_grow L (x ∷ xs) ys a b zero y is = absurd cc
instances_grow L (x ∷ xs) ys a b (suc zero) y is = a 1 y is
instances_grow L (x ∷ xs) ys a b (suc (suc i)) y is = instances_grow L xs ys (λ j z h. later j z h) b (suc i) y is
  where
    later : (j : ℕ) (z : Instance) → row xs j ≡ Some z → InstanceFits L z
    later zero z h = absurd cc
    later (suc j) z h = a (suc (suc j)) z h

fresh_fits : (L : LoadRows) (k : ℕ) (l : Option LoadRow) → load_row L k ≡ l → AllInstances L (instance_for L k l)
fresh_fits L k None is i x here = none i here
  where
    none : (i : ℕ) → row [] i ≡ Some x → InstanceFits L x
    none zero h = absurd cc
    none (suc i) h = absurd cc
fresh_fits L k (Some l) is zero x here = absurd cc
fresh_fits L k (Some l) is (suc zero) x here = let e : first_instance L k l ≡ x = cc in subst (InstanceFits L) e (first_fits L k l is)
fresh_fits L k (Some l) is (suc (suc i)) x here = absurd cc

instance_moves : (L : LoadRows) (e : Entry) → Moves L e (InstancesStay L)
instance_moves L e = record {
  still = λ s fits. fits;
  behind = λ s m z a b fits. b (a fits);
  frames = λ s t fs fits. fits;
  thread = λ s t thread fits. fits;
  number = λ s c fits. fits;
  given = λ s w os fits. fits;
  gone = λ s os fits. fits;
  made = λ new s ty w values fits. fits;
  cells = λ writes s o change fits. fits;
  hung = λ hangs s o parent place fits. fits;
  rooted = λ s o w fits. fits;
  word = λ s i k v. instances_changed L s i _ (λ x. refl) (λ x. length-set x.words k v) (λ x. refl);
  taken = λ s i k. instances_changed L s i _ (λ x. refl) (λ x. refl) (λ x. length-set x.slots k None);
  filled = λ puts s i k o. instances_changed L s i _ (λ x. refl) (λ x. refl) (λ x. length-set x.slots k (Some o));
  ends = λ s i. instances_changed L s i _ (λ x. refl) (λ x. refl) (λ x. refl);
  device = λ saves s b cells fits. fits;
  reload = λ s x left fits. instances_grow L s.instances (instance_for L (load_of_target L x) (load_row L (load_of_target L x))) fits (fresh_fits L (load_of_target L x) (load_row L (load_of_target L x)) refl);
}

pub instances_fit : (L : LoadRows) (s : State) (e : Entry) (made : State) → Valid L → Fitting L s → Row L s e made → (i : ℕ) (x : Instance) → row (sweep made).instances i ≡ Some x → InstanceFits L x
instances_fit L s e made plans fits makes i x is = row_moves L (InstancesStay L) e (instance_moves L e) s made makes fits.instances i x is
