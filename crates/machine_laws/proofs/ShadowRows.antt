-- Shadows stand at the start and after each row.
use Rattle.std.proofs.Common.{◌≡◌, ◌≢◌, ℕ, zero, suc, ◌+◌, ◌-◌, ◌<◌, ◌≤◌, ◌==◌, cond, List, [], ◌∷◌, ◌++◌, length, map, Some, None, slice_get, slice_set, refl, ap, sym, subst, ◌∙◌, arith, inl, inr}
use Rattle.std.proofs.lemmas.Bool.{cases_eq, eq-eqb, ne_eqb}
use Rattle.std.proofs.lemmas.Option.{slice_get_past}
use Rattle.machine_defs.specs.declared.entry.Entry.{Entry}
use Rattle.machine_defs.specs.declared.entry.Entry.TheVariants as entry
use Rattle.rl_defs.specs.declared.load.LoadRows.{LoadRows}
use Rattle.rl_defs.specs.declared.load.LoadRow.{LoadRow}
use Rattle.rl_defs.specs.declared.load.ShadowRow.{ShadowRow}
use Rattle.rl_defs.specs.Domains.{load_row, load_of_target}
use Rattle.machine_defs.specs.State.{State, Instance, Shadow, first_instance, first_instances, first_shadow, start}
use Rattle.rl_defs.specs.Rows.{row}
use Rattle.machine_defs.specs.Loans.{sweep as sweep_state}
use Rattle.machine_defs.specs.State.{instance_load}
use Rattle.machine_defs.specs.CallRows.{Reloads}
use Rattle.machine_defs.specs.Steps.{Row}
use Rattle.machine_defs.specs.Sound.{ShadowsStand, instances_of}
use Rattle.rl_defs.proofs.ValidFacts.{one_shadow, shadow_loads}
use Rattle.machine_laws.specs.Shape.{Laid}
use Rattle.machine_laws.proofs.Rows.{row_within, row_set_same, row_set_other, item_there}
use Rattle.machine_laws.proofs.ReloadRow.{row_append_last, row_append_other}
use Rattle.machine_laws.proofs.CodeDoing.{load_there}
use Rattle.machine_laws.proofs.ShadowsKept.{same_row, still_stand}
use Rattle.machine_laws.proofs.Parts.{load_of_instance, instance_for}
use Rattle.rl_defs.specs.Valid.{Valid}

abbrev hit : ℕ → ℕ → ℕ
hit n k = cond (n == k) 1 0

-- how many instances of a load there are after one more
counted_more : (k : ℕ) (xs : List Instance) (y : Instance) → instances_of k (xs ++ y ∷ []) ≡ instances_of k xs + hit y.load k
counted_more k [] y = omega arith
counted_more k (x ∷ xs) y = let more = counted_more k xs y in omega (arith, more)

-- the load of a shadow's target is the shadow's
shadow_load : (L : LoadRows) (x : ℕ) (shadow : ShadowRow) → 0 < x - length L.loads → row L.shadows (x - length L.loads) ≡ Some shadow → load_of_target L x ≡ shadow.load
shadow_load L zero shadow some is = absurd (omega (arith, some))
shadow_load L (suc k) shadow some is =
    let past : slice_get L.loads k ≡ None = slice_get_past L.loads k (omega (arith, some)) in
    rw (past, is) refl

row_there : {A : Type 0} (xs : List A) (n : ℕ) → 0 < n → n ≤ length xs → (y : A) × (row xs n ≡ Some y)
row_there xs zero pos le = absurd (omega arith)
row_there xs (suc n) pos le = item_there xs n (omega (arith, le))

slice_row : {A : Type 0} (xs : List A) (k : ℕ) (y : A) → row xs k ≡ Some y → slice_get xs (k - 1) ≡ Some y
slice_row xs zero y e = absurd cc
slice_row xs (suc k) y e = let same : k ≡ suc k - 1 = omega arith in subst (λ n. slice_get xs n ≡ Some y) same e

loads_within : (L : LoadRows) → Valid L → (k : ℕ) (y : ShadowRow) → row L.shadows k ≡ Some y → (0 < y.load) × (y.load ≤ length L.loads)
loads_within L plans k y is = shadow_loads L plans (k - 1) y (slice_row L.shadows k y is)

module _ (L : LoadRows) (s : State) (t x i left : ℕ) (z : State) (plans : Valid L) (laid : Laid L s) (stand : ShadowsStand L s) (r : Reloads L s t x i left z) where
  behind : (0 < x - length L.loads) × (x - length L.loads ≤ length s.shadows)
  behind = row_within s.shadows (x - length L.loads) r.shadow r.of

  abbrev now : Shadow
  now = record { current = i; left = left }

  own : (own : ShadowRow) × (row L.shadows (x - length L.loads) ≡ Some own)
  own = row_there L.shadows (x - length L.loads) behind.0 (let e = laid.shadows in let b = behind.1 in omega (arith, e, b))

  load_is : load_of_target L x ≡ own.0.load
  load_is = shadow_load L x own.0 behind.0 own.1

  found : (l : LoadRow) × (load_row L (load_of_target L x) ≡ Some l)
  found = let w = loads_within L plans (x - length L.loads) own.0 own.1 in load_there L (load_of_target L x) (rw load_is w.0) (rw load_is w.1)

  abbrev fresh : Instance
  fresh = first_instance L (load_of_target L x) found.0

  instances_now : z.instances ≡ s.instances ++ fresh ∷ []
  instances_now = ap (λ (y : State). y.instances) r.becomes ∙ ap (λ f. s.instances ++ instance_for L (load_of_target L x) f) found.1

  shadows_now : z.shadows ≡ slice_set s.shadows (x - length L.loads - 1) now
  shadows_now = ap (λ (y : State). y.shadows) r.becomes

  load_of_new : instance_load z i ≡ own.0.load
  load_of_new = ap (λ is'. load_of_instance (row is' i)) instances_now ∙ ap (λ n. load_of_instance (row (s.instances ++ fresh ∷ []) n)) r.number ∙ ap load_of_instance (row_append_last s.instances fresh) ∙ load_is

  load_of_old : (j : ℕ) → j ≢ length s.instances + 1 → instance_load z j ≡ instance_load s j
  load_of_old j ne = ap (λ is'. load_of_instance (row is' j)) instances_now ∙ ap load_of_instance (row_append_other s.instances fresh j ne)

  -- the reloaded shadow
  here_now : (shadow : Shadow) (y : ShadowRow) → row z.shadows (x - length L.loads) ≡ Some shadow → row L.shadows (x - length L.loads) ≡ Some y → (shadow ≡ now) × (y ≡ own.0)
  here_now shadow y is there =
      let set = row_set_same s.shadows (x - length L.loads) now behind.0 behind.1 in
      let is' : row (slice_set s.shadows (x - length L.loads - 1) now) (x - length L.loads) ≡ Some shadow = sym (ap (λ xs. row xs (x - length L.loads)) shadows_now) ∙ is in
      let both : Some now ≡ Some shadow = sym set ∙ is' in
      let rows' : Some own.0 ≡ Some y = sym own.1 ∙ there in
      (cc, cc)

  -- the others
  there_still : (k : ℕ) (shadow : Shadow) → k ≢ x - length L.loads → row z.shadows k ≡ Some shadow → row s.shadows k ≡ Some shadow
  there_still k shadow ne is = sym (row_set_other s.shadows (x - length L.loads) k now behind.0 ne) ∙ sym (ap (λ xs. row xs k) shadows_now) ∙ is

  apart : (k : ℕ) (y : ShadowRow) → k ≢ x - length L.loads → row L.shadows k ≡ Some y → load_of_target L x ≢ y.load
  apart k y ne is same =
      let w = row_within L.shadows k y is in
      let one = one_shadow L plans (x - length L.loads - 1) (k - 1) own.0 y (slice_row L.shadows (x - length L.loads) own.0 own.1) (slice_row L.shadows k y is) (sym load_is ∙ same) in
      ne (let b = behind.0 in let p = w.0 in omega (arith, one, b, p))

  pub reload_stands : ShadowsStand L z
  reload_stands = record { current = current'; left = left' }
    where
      current' : (k : ℕ) (shadow : Shadow) (y : ShadowRow) → row z.shadows k ≡ Some shadow → row L.shadows k ≡ Some y → instance_load z shadow.current ≡ y.load
      current' k shadow y is there = elim (cases_eq k (x - length L.loads)) [
        | inl e ↦ (let h = here_now shadow y (subst (λ n. row z.shadows n ≡ Some shadow) e is) (subst (λ n. row L.shadows n ≡ Some y) e there) in ap (λ (w : Shadow). instance_load z w.current) h.0 ∙ load_of_new ∙ sym (ap (λ (w : ShadowRow). w.load) h.1))
        | inr ne ↦ (
            let old = stand.current k shadow y (there_still k shadow ne is) there in
            let some = (loads_within L plans k y there).0 in
            let opened : shadow.current ≢ length s.instances + 1 = λ e. (
            let none : row s.instances shadow.current ≡ None = rw e (Rattle.machine_laws.proofs.Told.row_past s.instances (length s.instances + 1) (omega arith)) in
            let zero' : instance_load s shadow.current ≡ 0 = ap load_of_instance none in
            omega (arith, old, some, zero')) in
            load_of_old shadow.current opened ∙ old)
      ]

      left' : (k : ℕ) (shadow : Shadow) (y : ShadowRow) → row z.shadows k ≡ Some shadow → row L.shadows k ≡ Some y → shadow.left + instances_of y.load z.instances ≡ y.restarts + 1
      left' k shadow y is there =
          let counted : instances_of y.load z.instances ≡ instances_of y.load s.instances + hit (load_of_target L x) y.load = ap (instances_of y.load) instances_now ∙ counted_more y.load s.instances fresh in
          elim (cases_eq k (x - length L.loads)) [
            | inl e ↦ (
                let h = here_now shadow y (subst (λ n. row z.shadows n ≡ Some shadow) e is) (subst (λ n. row L.shadows n ≡ Some y) e there) in
                let old = stand.left (x - length L.loads) r.shadow y r.of (subst (λ n. row L.shadows n ≡ Some y) e there) in
                let same' : load_of_target L x ≡ y.load = load_is ∙ sym (ap (λ (w : ShadowRow). w.load) h.1) in
                let one : hit (load_of_target L x) y.load ≡ 1 = rw (eq-eqb (load_of_target L x) y.load same') refl in
                let now' : shadow.left ≡ left = ap (λ (w : Shadow). w.left) h.0 in
                let spent = r.restarts in
                omega (arith, counted, old, one, now', spent))
            | inr ne ↦ (
                let old = stand.left k shadow y (there_still k shadow ne is) there in
                let none : hit (load_of_target L x) y.load ≡ 0 = rw (ne_eqb (load_of_target L x) y.load (apart k y ne there)) refl in
                omega (arith, counted, old, none))
          ]

-- Shadows stand after each row, and after the sweep, which leaves them.
pub shadows_stand : (L : LoadRows) (s : State) (e : Entry) (made : State) → Valid L → Laid L s → ShadowsStand L s → Row L s e made → ShadowsStand L (sweep_state made)
shadows_stand L s e made plans laid stand r = record { current = (behind e r).current; left = (behind e r).left }
  where
    behind : (e : Entry) → Row L s e made → ShadowsStand L made
    behind (entry.Reload t x i left) r' = reload_stands L s t x i left made plans laid stand r'
    behind (entry.Free o) r' = absurd r'
    behind other r' = still_stand L s made (same_row L s other made (λ n. n) r') stand

-- the first instances are one of each load
first_load : (L : LoadRows) (k : ℕ) (ls : List LoadRow) (n : ℕ) → n < length ls → load_of_instance (slice_get (first_instances L k ls) n) ≡ k + n
first_load L k [] n lt = absurd (omega (arith, lt))
first_load L k (l ∷ ls) zero lt = omega arith
first_load L k (l ∷ ls) (suc n) lt = first_load L (k + 1) ls n (omega (arith, lt)) ∙ omega arith

none_before : (L : LoadRows) (k n : ℕ) (ls : List LoadRow) → n < k → instances_of n (first_instances L k ls) ≡ 0
none_before L k n [] lt = refl
none_before L k n (l ∷ ls) lt =
    let rest = none_before L (k + 1) n ls (omega (arith, lt)) in
    let other : hit k n ≡ 0 = rw (ne_eqb k n (λ e. omega (arith, e, lt))) refl in
    omega (arith, rest, other)

first_count : (L : LoadRows) (k n : ℕ) (ls : List LoadRow) → k ≤ n → n < k + length ls → instances_of n (first_instances L k ls) ≡ 1
first_count L k n [] le lt = absurd (omega (arith, le, lt))
first_count L k n (l ∷ ls) le lt = elim (cases_eq k n) [
  | inl e ↦
      let rest = none_before L (k + 1) n ls (omega (arith, e)) in
      let one : hit k n ≡ 1 = rw (eq-eqb k n e) refl in
      omega (arith, rest, one)
  | inr ne ↦
      let rest = first_count L (k + 1) n ls (omega (arith, le, ne)) (omega (arith, lt)) in
      let other : hit k n ≡ 0 = rw (ne_eqb k n ne) refl in
      omega (arith, rest, other)
]

first_shadows : (xs : List ShadowRow) (k : ℕ) (x : ShadowRow) (shadow : Shadow) → slice_get (map first_shadow xs) k ≡ Some shadow → slice_get xs k ≡ Some x → shadow ≡ first_shadow x
first_shadows [] k x shadow a b = absurd cc
first_shadows (y ∷ ys) zero x shadow a b = cc
first_shadows (y ∷ ys) (suc k) x shadow a b = first_shadows ys k x shadow a b

-- at the start a shadow stands for the first instance of its load
pub shadows_start : (L : LoadRows) → Valid L → ShadowsStand L (start L)
shadows_start L plans = record { current = current'; left = left' }
  where
    is_first : (k : ℕ) (shadow : Shadow) (x : ShadowRow) → row (start L).shadows k ≡ Some shadow → row L.shadows k ≡ Some x → shadow ≡ first_shadow x
    is_first zero shadow x a b = absurd cc
    is_first (suc k) shadow x a b = first_shadows L.shadows k x shadow a b

    load_at : (n : ℕ) → 0 < n → n ≤ length L.loads → instance_load (start L) n ≡ n
    load_at zero pos le = absurd (omega arith)
    load_at (suc n) pos le = first_load L 1 L.loads n (omega (arith, le)) ∙ omega arith

    current' : (k : ℕ) (shadow : Shadow) (x : ShadowRow) → row (start L).shadows k ≡ Some shadow → row L.shadows k ≡ Some x → instance_load (start L) shadow.current ≡ x.load
    current' k shadow x a b = let w = loads_within L plans k x b in ap (λ (y : Shadow). instance_load (start L) y.current) (is_first k shadow x a b) ∙ load_at x.load w.0 w.1

    left' : (k : ℕ) (shadow : Shadow) (x : ShadowRow) → row (start L).shadows k ≡ Some shadow → row L.shadows k ≡ Some x → shadow.left + instances_of x.load (start L).instances ≡ x.restarts + 1
    left' k shadow x a b =
        let w = loads_within L plans k x b in
        let left'' : shadow.left ≡ x.restarts = ap (λ (y : Shadow). y.left) (is_first k shadow x a b) in
        let one = first_count L 1 x.load L.loads w.0 (let le = w.1 in omega (arith, le)) in
        omega (arith, left'', one)
