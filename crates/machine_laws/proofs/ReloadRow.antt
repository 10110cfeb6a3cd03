-- A reload is its row of the ledger.
use Rattle.std.proofs.Common.{◌≡◌, ◌≢◌, ℕ, zero, suc, ◌+◌, ◌-◌, ◌<◌, ◌≤◌, ◌==◌, Bool, true, false, cond, if◌then◌else◌, not, List, [], ◌∷◌, ◌++◌, length, map, replicate, Option, Some, None, slice_get, slice_set, refl, ap, ap₂, sym, subst, ◌∙◌, arith, inl, inr, add-one}
use mathlib.Core.Path.{fun_ext}
use Rattle.std.specs.List.{slice_index_or}
use Rattle.std.proofs.lemmas.Bool.{cases_eq}
use Rattle.machine_defs.specs.declared.entry.Entry.TheVariants as entry
use Rattle.rl_defs.specs.declared.load.LoadRows.{LoadRows}
use Rattle.rl_defs.specs.declared.load.LoadRow.{LoadRow}
use Rattle.rl_defs.specs.Domains.{load_row, load_of_target, domain_of, words_of, slots_of}
use Rattle.machine_defs.specs.State.{State, Instance, Shadow, Thread, lives, is_live, current, current_of, first_instance}
use Rattle.rl_defs.specs.Rows.{row}
use Rattle.machine_defs.specs.Calling.{is_undone}
use Rattle.rl_defs.specs.Rows.{is_target}
use Rattle.machine_defs.specs.Calling.{restarts_left, is_shadow}
use Rattle.machine_defs.specs.CallRows.{reloaded, Reloads}
use Rattle.machine_laws.specs.Ledger.{at}
use Rattle.machine_laws.specs.LedgerOf.{ledger_of}
use Rattle.machine_laws.specs.LedgerRows.{Row}
use Rattle.machine_laws.specs.Shape.{Laid}
use Rattle.machine_laws.proofs.Rows.{at_same, at_other, row_within, row_set_same, row_set_other, zeros}
use Rattle.machine_laws.proofs.Tops.{client_within, undone}
use Rattle.machine_laws.proofs.Instances.{words_read}
use Rattle.machine_laws.proofs.CallingRows.{current_same}
use Rattle.machine_laws.proofs.Parts.{load_of_instance, words_in, slots_in, left_of, instance_for}

-- the row of a list with one more
pub row_append_last : {A : Type 0} (xs : List A) (y : A) → row (xs ++ y ∷ []) (length xs + 1) ≡ Some y
row_append_last xs y = rw (add-one (length xs)) (go xs)
  where
    go : (xs : List _) → slice_get (xs ++ y ∷ []) (length xs) ≡ Some y
    go [] = refl
    go (x ∷ xs) = go xs

pub row_append_other : {A : Type 0} (xs : List A) (y : A) (j : ℕ) → j ≢ length xs + 1 → row (xs ++ y ∷ []) j ≡ row xs j
row_append_other xs y zero ne = refl
row_append_other xs y (suc j) ne = go xs j (λ e. ne (omega (arith, e)))
  where
    go : (xs : List _) (j : ℕ) → j ≢ length xs → slice_get (xs ++ y ∷ []) j ≡ slice_get xs j
    go [] zero ne' = absurd (ne' refl)
    go [] (suc j) ne' = refl
    go (x ∷ xs) zero ne' = refl
    go (x ∷ xs) (suc j) ne' = go xs j (λ e. ne' (ap (λ n. suc n) e))

pub rows_append : {A B : Type 0} (g : Option A → B) (xs : List A) (y : A) (j : ℕ) → g (row (xs ++ y ∷ []) j) ≡ at (length xs + 1) (g (Some y)) (λ k. g (row xs k)) j
rows_append g xs y j = elim (cases_eq j (length xs + 1)) [
  | inl e ↦ rw (e, row_append_last xs y, at_same (length xs + 1) (g (Some y)) (λ k. g (row xs k))) refl
  | inr ne ↦ rw (row_append_other xs y j ne, at_other (length xs + 1) (g (Some y)) (λ k. g (row xs k)) j ne) refl
]

empties : (names : List (List ℕ)) (k o : ℕ) → slice_get (map (λ name. None) names) k ≡ Some (Some o) → ⊥
empties [] k o e = cc
empties (n ∷ names) zero o e = cc
empties (n ∷ names) (suc k) o e = empties names k o e

module _ (L : LoadRows) (s z : State) (t x i left : ℕ) (laid : Laid L s) (thread : Thread) (of : row s.threads t ≡ Some thread) (ready : is_undone (row s.threads t) ≡ true) (r : Reloads L s t x i left z)
    (target : is_target L x ≡ true) (l : LoadRow) (loaded : load_row L (load_of_target L x) ≡ Some l) where
  abbrev fresh : Instance
  fresh = first_instance L (load_of_target L x) l

  abbrev shadow_now : Shadow
  shadow_now = record { current = i; left = left }

  behind : (0 < x - length L.loads) × (x - length L.loads ≤ length s.shadows)
  behind = row_within s.shadows (x - length L.loads) r.shadow r.of

  instances : (reloaded L x i left s).instances ≡ s.instances ++ fresh ∷ []
  instances = ap (λ found. s.instances ++ instance_for L (load_of_target L x) found) loaded

  by_number : {B : Type 0} (g : Option Instance → B) → ◌≡◌ {A = ℕ → B} (λ j. g (row (reloaded L x i left s).instances j)) (at i (g (Some fresh)) (λ j. g (row s.instances j)))
  by_number g = rw (instances, r.number) (fun_ext (λ j. rows_append g s.instances fresh j))

  words_now : ◌≡◌ {A = ℕ → ℕ → ℕ} (words_read (reloaded L x i left s)) (at i (λ k. 0) (words_read s))
  words_now =
      let all' = by_number {B = ℕ → ℕ} (λ found k. slice_index_or (words_in found) k 0) in
      let zero' : ◌≡◌ {A = ℕ → ℕ} (λ k. slice_index_or (replicate (words_of (domain_of L l.domain)) 0) k 0) (λ k. 0) = fun_ext (λ k. zeros (words_of (domain_of L l.domain)) k) in
      all' ∙ ap (λ (w : ℕ → ℕ). at i w (words_read s)) zero'

  by_shadow : {B : Type 0} (g : ℕ → Option Shadow → B) → ◌≡◌ {A = ℕ → B} (λ y. g y (row (reloaded L x i left s).shadows (y - length L.loads))) (at x (g x (Some shadow_now)) (λ y. g y (row s.shadows (y - length L.loads))))
  by_shadow g = fun_ext (λ y. each y)
    where
      each : (y : ℕ) → g y (row (slice_set s.shadows (x - length L.loads - 1) shadow_now) (y - length L.loads)) ≡ at x (g x (Some shadow_now)) (λ y. g y (row s.shadows (y - length L.loads))) y
      each y = elim (cases_eq y x) [
        | inl e ↦ rw (e, row_set_same s.shadows (x - length L.loads) shadow_now behind.0 behind.1, at_same x (g x (Some shadow_now)) (λ y. g y (row s.shadows (y - length L.loads)))) refl
        | inr ne ↦ rw (
          row_set_other s.shadows (x - length L.loads) (y - length L.loads) shadow_now behind.0 (λ e. let b = behind.0 in ne (omega arith)),
          at_other x (g x (Some shadow_now)) (λ y. g y (row s.shadows (y - length L.loads))) y ne,
        ) refl
      ]

  current_now : ◌≡◌ {A = ℕ → ℕ} ((ledger_of L (reloaded L x i left s)).current) (at x i ((ledger_of L s).current))
  current_now =
      let all' = by_shadow {B = ℕ} (λ y found. if is_target L y then current_of y found else 0) in
      all' ∙ rw target refl

  left_now : ◌≡◌ {A = ℕ → ℕ} (restarts_left L (reloaded L x i left s)) (at x left (restarts_left L s))
  left_now = by_shadow {B = ℕ} (λ y found. left_of found)

  shadowed : is_shadow L x ≡ true
  shadowed = let b = behind.0 in Rattle.std.proofs.Common.lt-ltb (length L.loads) x (omega arith)

  next_now : length (reloaded L x i left s).instances + 1 ≡ suc i
  next_now =
      let e : length (reloaded L x i left s).instances ≡ length s.instances + 1 = ap (λ is. length is) instances ∙ count s.instances in
      rw (e, r.number) (omega arith)
    where
      count : (xs : List Instance) → length (xs ++ fresh ∷ []) ≡ length xs + 1
      count [] = refl
      count (y ∷ ys) = let c = count ys in omega (arith, c)

  pub reload_row : Row L (ledger_of L s) (entry.Reload t x i left) (ledger_of L z)
  reload_row =
      let w = client_within L s t thread laid of in
      let now : current L s x ≡ r.shadow.current = ap (λ found. current_of x found) r.of in
      let dead : is_live s ((ledger_of L s).current x) ≡ false = rw (current_same L s x target, now) r.dead in
      let was : restarts_left L s x ≡ suc left = ap left_of r.of ∙ r.restarts ∙ add-one left in (
        w.0,
        w.1,
        rw of (undone s t thread of ready),
        shadowed,
        dead,
        was,
        r.number,
        map (λ name. None) (slots_of (domain_of L l.domain)),
        empties (slots_of (domain_of L l.domain)),
        ap (ledger_of L) r.becomes ∙ all_now (by_number load_of_instance) (by_number lives) words_now (by_number slots_in) current_now left_now next_now,
      )
    where
      all_now : {loads loads' : ℕ → ℕ} {live live' : ℕ → Bool} {words words' : ℕ → ℕ → ℕ} {slots slots' : ℕ → List (Option ℕ)} {current current' left left' : ℕ → ℕ} {next next' : ℕ}
          → loads ≡ loads' → live ≡ live' → words ≡ words' → slots ≡ slots' → current ≡ current' → left ≡ left' → next ≡ next'
          → record (ledger_of L s) { loads = loads; live = live; words = words; slots = slots; current = current; left = left; next_instance = next }
          ≡ record (ledger_of L s) { loads = loads'; live = live'; words = words'; slots = slots'; current = current'; left = left'; next_instance = next' }
      all_now a b c d e f g = rw (a, b, c, d, e, f, g) refl
