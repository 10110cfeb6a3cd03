-- Slots of live instances hold objects of their structs after each row, and the device keeps its blocks.
use Rattle.std.proofs.Common.{◌≡◌, ◌≢◌, ℕ, zero, suc, ◌+◌, ◌-◌, ◌<◌, ◌⊎◌, inl, inr, Bool, true, false, cond, List, [], ◌∷◌, ◌++◌, length, Option, Some, None, slice_get, slice_set, refl, ap, sym, subst, ◌∙◌, arith}
use Rattle.std.proofs.lemmas.Bool.{cases_eq, cases_lt}
use Rattle.machine_defs.specs.declared.values.Owner.TheVariants as owner
use Rattle.machine_defs.specs.declared.entry.Entry.{Entry}
use Rattle.machine_defs.specs.declared.entry.Entry.TheVariants as entry
use Rattle.rl_defs.specs.declared.load.LoadRows.{LoadRows}
use Rattle.rl_defs.specs.declared.load.LoadRow.{LoadRow}
use Rattle.rl_defs.specs.Domains.{load_row, load_of_target, domain_of, slots_of}
use Rattle.rl_defs.specs.CodeNames.{struct_number, type_at, slots as slots_declared}
use Rattle.machine_defs.specs.State.{State, Instance, Placement, lives, is_live}
use Rattle.rl_defs.specs.Rows.{row}
use Rattle.machine_defs.specs.Loans.{object_of, sweep}
use Rattle.machine_defs.specs.Calling.{with_fuel}
use Rattle.rl_defs.specs.Rows.{domain_of_load}
use Rattle.machine_defs.specs.Seen.{domain_of_instance, slots, in_slot, with_instance, with_slot}
use Rattle.machine_defs.specs.Seen.{types_of}
use Rattle.machine_defs.specs.CallRows.{reloaded}
use Rattle.machine_defs.specs.Steps.{Row}
use Rattle.machine_laws.specs.Ledger.{at}
use Rattle.machine_laws.specs.LedgerOf.{ledger_of}
use Rattle.machine_laws.specs.LedgerSound.{is_of, Owned}
use Rattle.machine_laws.specs.Shape.{Laid}
use Rattle.machine_laws.specs.Fitting.{Fitting}
use Rattle.machine_laws.proofs.Rows.{at_same, at_other, row_within}
use Rattle.machine_laws.proofs.Objects.{found_below}
use Rattle.machine_laws.proofs.Instances.{row_unchanged, live_there, lives_kept, lives_ended, slots_set}
use Rattle.machine_laws.proofs.Seats.{seats, IsIn}
use Rattle.machine_laws.proofs.FrameRows.{gone_on}
use Rattle.machine_laws.proofs.Present.{seated}
use Rattle.machine_laws.proofs.Types.{AnyHow, Unchanged, stays_sweep, structs_same}
use Rattle.machine_laws.proofs.Start.{at_mapped}
use Rattle.machine_laws.proofs.Moves.{IsPut, Moves, row_moves}
use Rattle.machine_laws.proofs.LaidRows.{laid_row}
use Rattle.machine_laws.proofs.StaysRows.{stays_swept, new_stays, instances_row, row_front}
use Rattle.machine_laws.proofs.ObjectsKept.{does_fit}
use Rattle.machine_laws.proofs.Unlent.{in_slots_some}
use Rattle.machine_laws.proofs.Parts.{slots_in, content, struct_or_none, instance_for}
use Rattle.rl_defs.specs.Valid.{Valid, AreValidTables}

-- a slot of a live instance was full so before
pub record WasFull (s : State) (i k o : ℕ) : Type 0 where
  pub up : is_live s i ≡ true
  pub full : in_slot s i k ≡ Some o

abbrev SlotsStay : State → State → Type 0
SlotsStay s z = (i k o : ℕ) → is_live z i ≡ true → in_slot z i k ≡ Some o → WasFull s i k o

-- instances that change, not their slots
slots_same : (s : State) (i : ℕ) (change : Instance → Instance) → ((x : Instance) → (change x).slots ≡ x.slots) → ((j : ℕ) → is_live (with_instance i change s) j ≡ true → is_live s j ≡ true) → SlotsStay s (with_instance i change s)
slots_same s i change keeps lives' j k o up full = record {
  up = lives' j up;
  full = ap (λ xs. content (slice_get xs k)) (sym (row_unchanged slots_in s.instances i change keeps j)) ∙ full;
}

live_same : (s : State) (i : ℕ) (change : Instance → Instance) → ((x : Instance) → (change x).live ≡ x.live) → (j : ℕ) → is_live (with_instance i change s) j ≡ true → is_live s j ≡ true
live_same s i change keeps j up = ap (λ (f : ℕ → Bool). f j) (sym (lives_kept s i change keeps)) ∙ up

live_ended : (s : State) (i j : ℕ) → is_live (Rattle.machine_defs.specs.Seen.ended i s) j ≡ true → is_live s j ≡ true
live_ended s i j up =
    let known : at i false (is_live s) j ≡ true = ap (λ (f : ℕ → Bool). f j) (sym (lives_ended s i)) ∙ up in
    elim (cases_eq j i) [
      | inl e ↦ absurd (let e' : at i false (is_live s) j ≡ false = rw e (at_same i false (is_live s)) in cc (e', known))
      | inr ne ↦ sym (at_other i false (is_live s) j ne) ∙ known
    ]

-- a slot that is set: what is in another is what was there, and what is in this one what was put there
set_full : (contents : List (Option ℕ)) (place k o : ℕ) (new : Option ℕ) → content (slice_get (slice_set contents place new) k) ≡ Some o → ((k ≡ place) × (new ≡ Some o)) ⊎ (content (slice_get contents k) ≡ Some o)
set_full [] place k o new full = inr full
set_full (c ∷ contents) zero zero o new full = inl (refl, full)
set_full (c ∷ contents) zero (suc k) o new full = inr full
set_full (c ∷ contents) (suc place) zero o new full = inr full
set_full (c ∷ contents) (suc place) (suc k) o new full = elim (set_full contents place k o new full) [
  | inl here ↦ inl (ap (λ n. suc n) here.0, here.1)
  | inr other ↦ inr other
]

-- a slot that was set, in an instance that may be there
pub slot_set : (s : State) (i place : ℕ) (new : Option ℕ) (j k o : ℕ) → is_live (with_slot i place new s) j ≡ true → in_slot (with_slot i place new s) j k ≡ Some o → ((j ≡ i) × (k ≡ place) × (new ≡ Some o)) ⊎ WasFull s j k o
slot_set s i place new j k o up full =
    let before = live_same s i _ (λ x. refl) j up in
    elim (cases_eq j i) [
      | inl e ↦
          let here : is_live s i ≡ true = subst (λ n. is_live s n ≡ true) e before in
          let now : slots (with_slot i place new s) i ≡ slice_set (slots s i) place new = ap (λ (f : ℕ → List (Option ℕ)). f i) (slots_set s i place new here) ∙ at_same i (slice_set (slots s i) place new) (slots s) in
          let full' : in_slot (with_slot i place new s) i k ≡ Some o = subst (λ n. in_slot (with_slot i place new s) n k ≡ Some o) e full in
          elim (set_full (slots s i) place k o new (ap (λ xs. content (slice_get xs k)) (sym now) ∙ full')) [
            | inl mine ↦ inl (e, mine.0, mine.1)
            | inr other ↦ inr (record { up = before; full = subst (λ n. in_slot s n k ≡ Some o) (sym e) other })
          ]
      | inr ne ↦ inr (record {
        up = before;
        full = other ne;
      })
    ]
  where
    other : j ≢ i → in_slot s j k ≡ Some o
    other ne = go (row s.instances i) refl
      where
        go : (here : Option Instance) → row s.instances i ≡ here → in_slot s j k ≡ Some o
        go None e = (let h : content (slice_get (slots_in (row s.instances j)) k) ≡ Some o = rw e at full in h)
        go (Some x) e =
            let w = row_within s.instances i x e in
            let h : content (slice_get (slots_in (row (slice_set s.instances (i - 1) (record x { slots = slice_set x.slots place new })) j)) k) ≡ Some o = rw e at full in
            ap (λ y. content (slice_get (slots_in y) k)) (sym (Rattle.machine_laws.proofs.Rows.row_set_other s.instances i j (record x { slots = slice_set x.slots place new }) w.0 ne)) ∙ h

-- the slots of an instance that is loaded again are empty
fresh_empty : (L : LoadRows) (n : ℕ) (l : Option LoadRow) (j k o : ℕ) → content (slice_get (slots_in (row (instance_for L n l) j)) k) ≡ Some o → ⊥
fresh_empty L n l zero k o full = cc
fresh_empty L n None (suc j) k o full = cc
fresh_empty L n (Some l) (suc zero) k o full = at_mapped (λ (x : Option (Option ℕ)). content x ≡ Some o → ⊥) (λ slot. None) (slots_of (domain_of L l.domain)) k (λ e. cc (e)) (λ slot e. cc (e)) full
fresh_empty L n (Some l) (suc (suc j)) k o full = cc

row_past : {A : Type 0} (xs ys : List A) (j : ℕ) → length xs < j → row (xs ++ ys) j ≡ row ys (j - length xs)
row_past xs ys zero lt = absurd (omega (arith, lt))
row_past [] ys (suc j) lt = let e : suc j - 0 ≡ suc j = omega arith in rw e refl
row_past (x ∷ xs) ys (suc zero) lt = absurd (omega (arith, lt))
row_past (x ∷ xs) ys (suc (suc j)) lt = let e : suc (suc j) - suc (length xs) ≡ suc j - length xs = omega arith in rw e (row_past xs ys (suc j) (omega (arith, lt)))

slots_reload : (L : LoadRows) (s : State) (x i left : ℕ) → SlotsStay s (reloaded L x i left s)
slots_reload L s x i left j k o up full = elim (cases_lt (length s.instances) j) [
  | inl lt ↦ absurd (fresh_empty L (load_of_target L x) (load_row L (load_of_target L x)) (j - length s.instances) k o (ap (λ y. content (slice_get (slots_in y) k)) (sym (row_past s.instances more j lt)) ∙ full))
  | inr le ↦
      let front = row_front s.instances more j le in
      record { up = ap lives (sym front) ∙ up; full = ap (λ y. content (slice_get (slots_in y) k)) (sym front) ∙ full }
]
  where
    more : List Instance
    more = instance_for L (load_of_target L x) (load_row L (load_of_target L x))

slots_still : (s : State) → SlotsStay s s
slots_still s i k o up full = record { up = up; full = full }

slot_moves : (L : LoadRows) (e : Entry) → (IsPut e → ⊥) → Moves L e SlotsStay
slot_moves L e fills = record {
  still = λ s. slots_still s;
  behind = λ s m z a b i k o up full. (let r = b i k o up full in a i k o r.up r.full);
  frames = λ s t fs. slots_still s;
  thread = λ s t thread. slots_still s;
  number = λ s c. slots_still s;
  given = λ s w os. slots_still s;
  gone = λ s os. slots_still s;
  made = λ new s ty w values. slots_still s;
  cells = λ writes s o change. slots_still s;
  hung = λ hangs s o parent place. slots_still s;
  rooted = λ s o w. slots_still s;
  word = λ s i k v. slots_same s i _ (λ x. refl) (live_same s i _ (λ x. refl));
  taken = λ s i place j k o up full. elim (slot_set s i place None j k o up full) [ inl mine ↦ absurd (let e' = mine.2 in cc) | inr was ↦ was ];
  filled = λ puts. absurd (fills puts);
  ends = λ s i. slots_same s i _ (λ x. refl) (live_ended s i);
  device = λ saves s b cells. slots_still s;
  reload = λ s x left. slots_reload L s x (length s.instances + 1) left;
}

-- an object in a slot of a live instance is in the heap
pub slot_there : (L : LoadRows) (s : State) (i k o : ℕ) → Owned L (ledger_of L s) → is_live s i ≡ true → in_slot s i k ≡ Some o → IsIn s o
slot_there L s i k o owned up full =
    let once = owned.once (owner.Instance i) o up in
    let some = in_slots_some (slots s i) k o full in
    go (seats s o) refl (let a : 0 < cond (is_of (owner.Instance i) (seats s o)) 1 0 = omega (arith, once, some) in a)
  where
    go : (p : Option Placement) → seats s o ≡ p → 0 < cond (is_of (owner.Instance i) p) 1 0 → IsIn s o
    go None e pos = absurd (omega (arith, pos))
    go (Some p) e pos = seated s o p e

module _ (L : LoadRows) (s : State) (plans : Valid L) (tables : AreValidTables L.tables) (laid : Laid L s) (owned : Owned L (ledger_of L s)) (fits : Fitting L s) where
  -- the struct of an object that was there and stays
  struct_stays : (made : State) (o : ℕ) (e : Entry) → Row L s e made → IsIn s o → IsIn (sweep made) o → (types_of L (sweep made)).struct_of o ≡ (types_of L s).struct_of o
  struct_stays made o (entry.New t w n ty values) makes before there =
      let was = stays_sweep Unchanged (λ y. refl) L made (laid_row L s (entry.New t w n ty values) made laid makes) o there.0 there.1 in
      let here : object_of made o ≡ Some there.0 = was.here ∙ ap (λ y. Some y) was.alike in
      elim (new_stays L s t w n ty values made makes o there.0 here) [
        | inl old ↦ ap (struct_or_none L) (there.1 ∙ sym old)
        | inr now ↦ absurd (let b = found_below 0 s.next_object o s.objects before.0 laid.objects before.1 in let eq = now.0 in omega (arith, b.1, eq))
      ]
  struct_stays made o e makes before there = structs_same L AnyHow s (sweep made) o (stays_swept L s e made laid (λ new. new) makes) there

  -- what a slot of an instance is declared for stays
  declared_stays : (made : State) (e : Entry) (i k : ℕ) → Row L s e made → is_live s i ≡ true → struct_number L.tables (type_at (slots_declared (domain_of_instance L made i).lines) (Some k)) ≡ struct_number L.tables (type_at (slots_declared (domain_of_instance L s i).lines) (Some k))
  declared_stays made e i k makes up =
      let x = live_there s i up in
      let within = row_within s.instances i x.0 x.1 in
      ap (λ load. struct_number L.tables (type_at (slots_declared (domain_of_load L load).lines) (Some k))) ((instances_row L s e made makes).loads i within.1)

  module _ (made : State) (owned' : Owned L (ledger_of L (sweep made))) where
    -- a slot that was full so before
    slots_before : (e : Entry) → Row L s e made → (i k o : ℕ) → is_live (sweep made) i ≡ true → in_slot (sweep made) i k ≡ Some o → WasFull s i k o
        → (types_of L (sweep made)).struct_of o ≡ struct_number L.tables (type_at (slots_declared (domain_of_instance L (sweep made) i).lines) (Some k))
    slots_before e makes i k o up full was =
        struct_stays made o e makes (slot_there L s i k o owned was.up was.full) (slot_there L (sweep made) i k o owned' up full)
        ∙ fits.slots i k o was.up was.full ∙ sym (declared_stays made e i k makes was.up)

    slots_put : (t n : ℕ) (slot : List ℕ) (v : ℕ) → Row L s (entry.Put t n slot v) made → (i k o : ℕ) → is_live (sweep made) i ≡ true → in_slot (sweep made) i k ≡ Some o
        → (types_of L (sweep made)).struct_of o ≡ struct_number L.tables (type_at (slots_declared (domain_of_instance L (sweep made) i).lines) (Some k))
    slots_put t n slot v makes i k o up full =
        let d = makes.does in
        let m : State = gone_on s t d.after (with_fuel (d.fuel - 1) d.thread) in
        let up' : is_live (with_slot n makes.place (Some v) m) i ≡ true = ap (λ (z : State). is_live z i) (sym d.becomes) ∙ up in
        let full' : in_slot (with_slot n makes.place (Some v) m) i k ≡ Some o = ap (λ (z : State). in_slot z i k) (sym d.becomes) ∙ full in
        let before : is_live s i ≡ true = live_same m n _ (λ x. refl) i up' in
        elim (slot_set m n makes.place (Some v) i k o up' full') [
          | inl mine ↦
              let same : v ≡ o = (let e = mine.2 in cc) in
              let suits : (types_of L s).struct_of v ≡ struct_number L.tables (type_at (slots_declared (domain_of_instance L s n).lines) (Some makes.place)) = does_fit plans tables laid fits (λ c e. cc) d in
              let suits' : (types_of L s).struct_of o ≡ struct_number L.tables (type_at (slots_declared (domain_of_instance L s i).lines) (Some k)) = rw (mine.0, mine.1, ← same) suits in
              structs_same L AnyHow s (sweep made) o (stays_swept L s (entry.Put t n slot v) made laid (λ new. new) makes) (slot_there L (sweep made) i k o owned' up full)
              ∙ suits' ∙ sym (declared_stays made (entry.Put t n slot v) i k makes before)
          | inr was ↦ slots_before (entry.Put t n slot v) makes i k o up full (record { up = before; full = was.full })
        ]

    slots_row : (e : Entry) → Row L s e made → (i k o : ℕ) → is_live (sweep made) i ≡ true → in_slot (sweep made) i k ≡ Some o
        → (types_of L (sweep made)).struct_of o ≡ struct_number L.tables (type_at (slots_declared (domain_of_instance L (sweep made) i).lines) (Some k))
    slots_row (entry.Put t n slot v) makes i k o up full = slots_put t n slot v makes i k o up full
    slots_row e makes i k o up full = slots_before e makes i k o up full (row_moves L SlotsStay e (slot_moves L e (λ puts. puts)) s made makes i k o up full)

pub slots_fit : (L : LoadRows) (s : State) (e : Entry) (made : State) → Valid L → AreValidTables L.tables → Laid L s → Owned L (ledger_of L s) → Owned L (ledger_of L (sweep made)) → Fitting L s → Row L s e made
    → (i k o : ℕ) → is_live (sweep made) i ≡ true → in_slot (sweep made) i k ≡ Some o
    → (types_of L (sweep made)).struct_of o ≡ struct_number L.tables (type_at (slots_declared (domain_of_instance L (sweep made) i).lines) (Some k))
slots_fit L s e made plans tables laid owned owned' fits makes i k o up full = slots_row L s plans tables laid owned fits made owned' e makes i k o up full
