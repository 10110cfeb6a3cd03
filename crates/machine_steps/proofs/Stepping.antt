-- A machine goes one step on: what its log and its state have become keeps what every machine keeps.
use Rattle.std.proofs.Common.{◌≡◌, ℕ, ◌+◌, ◌-◌, ◌<◌, ◌≤◌, true, false, List, [], ◌∷◌, ◌++◌, length, map, drop, Option, Some, None, refl, sym, ap, subst, ◌∙◌, arith, true≢false}
use Rattle.std.specs.List.{slice_index_or, list_any}
use Rattle.std.proofs.lemmas.List.{length-append, length-map, length-set}
use Rattle.machine_defs.specs.declared.entry.Entry.{Entry}
use Rattle.machine_defs.specs.declared.entry.Entry.TheVariants as entry
use Rattle.rl_defs.specs.declared.load.LoadRows.{LoadRows}
use Rattle.machine_defs.specs.State.{State}
use Rattle.rl_defs.specs.Rows.{row}
use Rattle.machine_defs.specs.Seen.{change_row}
use Rattle.machine_defs.specs.Entries.{thread_of}
use Rattle.machine_defs.specs.Loans.{loans, sweep, freed}
use Rattle.machine_defs.specs.Runs.{Run, GoesOn}
use Rattle.machine_defs.specs.Steps.{Row, Step, Turn}
use Rattle.step_laws.specs.StepLaws.{is_quiet}
use Rattle.rl_defs.specs.Valid.{Valid}
use Rattle.rl_defs.specs.CodeNames.{cells_of}
use Rattle.proxies.specs.Table.{proxies_of}
use Rattle.rref_heap.specs.HeapValue.{HeapRow, HeapRows, row_of, is_rref}
use Rattle.rref_heap.proofs.Objects.{row_of_map}
use Rattle.machine_steps.specs.declared.machine.Machine.TheInside.{Inside}
use Rattle.machine_steps.specs.Kept.{MayStep, Went, TurnsAreShort, begins_turn, IsCodeAlone, Agrees}
use Rattle.machine_steps.specs.Inside.{state_of, kept, IsKept}
use Rattle.machine_steps.specs.Known.{Known}

-- one step was made and logged, and all that a machine keeps is kept
pub record Stepped (w z : Inside) (e : Entry) : Type 0 where
  pub went : Went (kept w) (kept z) e
  pub kept : IsKept z

-- The entry was logged with what was freed behind it. The load and its proxies are the same, and there is room as before.
pub record Logged (w z : Inside) (e : Entry) (frees : List ℕ) : Type 0 where
  pub load : z.load ≡ w.load
  pub proxies : z.proxies ≡ w.proxies
  pub entries : z.log.entries ≡ w.log.entries ++ e ∷ map entry.Free frees
  pub spare : z.log.spare + length frees + 1 ≡ w.log.spare
  pub counts : length z.instances ≤ z.stacks.instances
  pub clients : w.heap.clients ≤ z.heap.clients
  pub owners : length z.instances < z.heap.instances

-- where a list is cut in two ways, the second cut is behind the first, or before it
data Cut {A : Type 0} (xs ys before behind : List A) (e : A) : Type 0 where
  Front : (rest : List A) → xs ≡ before ++ e ∷ rest → Cut xs ys before behind e
  Back : (more : List A) → before ≡ xs ++ more → ys ≡ more ++ e ∷ behind → Cut xs ys before behind e

same_head : {A : Type 0} (x y : A) (xs ys : List A) → (x ∷ xs) ≡ (y ∷ ys) → x ≡ y
same_head {A} x y xs ys same = ap (λ (zs : List A). slice_index_or zs 0 x) same

same_tail : {A : Type 0} (x y : A) (xs ys : List A) → (x ∷ xs) ≡ (y ∷ ys) → xs ≡ ys
same_tail {A} x y xs ys same = ap (λ (zs : List A). drop 1 zs) same

cut : {A : Type 0} (xs ys before behind : List A) (e : A) → xs ++ ys ≡ before ++ e ∷ behind → Cut xs ys before behind e
cut [] ys before behind e same = Back before refl same
cut (x ∷ xs) ys [] behind e same = Front xs (ap (λ y. y ∷ xs) (same_head x e (xs ++ ys) behind same))
cut (x ∷ xs) ys (b ∷ before) behind e same = go (cut xs ys before behind e (same_tail x b (xs ++ ys) (before ++ e ∷ behind) same))
  where
    first : x ≡ b
    first = same_head x b (xs ++ ys) (before ++ e ∷ behind) same

    go : Cut xs ys before behind e → Cut (x ∷ xs) ys (b ∷ before) behind e
    go (Front rest is) = Front rest (ap (λ zs. x ∷ zs) is ∙ ap (λ y. y ∷ (before ++ e ∷ rest)) first)
    go (Back more is rest) = Back more (ap (λ zs. b ∷ zs) is ∙ ap (λ y. y ∷ (xs ++ more)) (sym first)) rest

-- what is freed begins no turn
frees_begin_none : (frees : List ℕ) (before behind : List Entry) (e : Entry) → map entry.Free frees ≡ before ++ e ∷ behind → begins_turn e ≡ false
frees_begin_none [] [] behind e is = absurd cc
frees_begin_none [] (b ∷ before) behind e is = absurd cc
frees_begin_none (o ∷ frees) [] behind e is = ap begins_turn (sym (same_head (entry.Free o) e (map entry.Free frees) behind is))
frees_begin_none (o ∷ frees) (b ∷ before) behind e is = frees_begin_none frees before behind e (same_tail (entry.Free o) b (map entry.Free frees) (before ++ e ∷ behind) is)

short_more : (log : List Entry) (e : Entry) (frees : List ℕ) → TurnsAreShort log → length log < 262144 → TurnsAreShort (log ++ e ∷ map entry.Free frees)
short_more log e frees short few before behind x is begins = go (cut log (e ∷ map entry.Free frees) before behind x is)
  where
    go : Cut log (e ∷ map entry.Free frees) before behind x → length before < 262144
    go (Front rest same) = short before rest x same begins
    go (Back [] same rest) = (let n : length before ≡ length (log ++ []) = ap length same in omega (arith, n, length-append log [], few))
    go (Back (m ∷ more) same rest) = absurd (true≢false (sym begins ∙ frees_begin_none frees more behind x (same_tail e m (map entry.Free frees) (more ++ x ∷ behind) rest)))

-- a step is made
pub goes : (known : Known) {w z : Inside} (e : Entry) (made : State) (frees : List ℕ) → IsKept w → MayStep (kept w) (thread_of e) → Row w.load (state_of w) e made
    → frees ≡ freed made → state_of z ≡ sweep made → Logged w z e frees → Agrees w.load (state_of z) z.heap.rows → Stepped w z e
goes known {w} {z} e made frees k may makes freed' swept l agrees = record {
  went = record { frees = frees; step = step; log = l.entries; load = l.load };
  kept = record {
    valid = subst (λ L. Valid L) (sym l.load) k.valid;
    run = subst (λ L. Run L z.log.entries (state_of z)) (sym l.load) (GoesOn turn k.run step l.entries);
    turns = subst TurnsAreShort (sym l.entries) (short_more w.log.entries e frees k.turns may.short);
    agrees = subst (λ L. Agrees L (state_of z) z.heap.rows) (sym l.load) agrees;
    rooms = record {
      log = log_room;
      counts = l.counts;
      clients = subst (λ L. length L.clients < z.heap.clients) (sym l.load) (omega (arith, k.rooms.clients, l.clients));
      owners = l.owners;
    };
    found = l.proxies ∙ (k.found ∙ ap (λ L. proxies_of L) (sym l.load));
    code = subst (λ L. IsCodeAlone L) (sym l.load) k.code;
  };
}
  where
    turn : Turn
    turn = record { entry = e; frees = frees }

    step : Step w.load (state_of w) turn (state_of z)
    step = record { made = made; enabled = may.enabled; makes = makes; frees = freed'; swept = swept }

    log_room : 327680 ≤ length z.log.entries + z.log.spare
    log_room =
        let n : length z.log.entries ≡ length (w.log.entries ++ e ∷ map entry.Free frees) = ap length l.entries in
        let m : length (w.log.entries ++ e ∷ map entry.Free frees) ≡ length w.log.entries + length (e ∷ map entry.Free frees) = length-append w.log.entries (e ∷ map entry.Free frees) in
        let f : length (map entry.Free frees) ≡ length frees = length-map frees entry.Free in
        omega (arith, n, m, f, l.spare, k.rooms.log)

-- a step whose entry drops nothing and ends nothing frees nothing
pub goes_quietly : (known : Known) {w z : Inside} (e : Entry) (made : State) → IsKept w → MayStep (kept w) (thread_of e) → Row w.load (state_of w) e made → is_quiet e ≡ true
    → state_of z ≡ made → Logged w z e [] → Agrees w.load made z.heap.rows → Stepped w z e
goes_quietly known {w} {z} e made k may makes quiet is l agrees =
    let none = known.quiet w.load w.log.entries (state_of w) made e k.valid k.run may.enabled makes quiet in
    goes known e made [] k may makes (sym none.frees) (is ∙ sym none.stays) l (subst (λ s. Agrees w.load s z.heap.rows) (sym is) agrees)

-- there is room for the entry of a step
pub room_for_entry : {w : Inside} (t : ℕ) → IsKept w → MayStep (kept w) t → 0 < w.log.spare
room_for_entry t k may = omega (arith, k.rooms.log, may.short)

-- ---- what the heap keeps beside the objects

-- each row becomes one with the loans, the width and the struct that it had
abbrev pub KeepsRows : (Option HeapRow → Option HeapRow) → Type 0
KeepsRows f = (x : Option HeapRow) (r : HeapRow) → f x ≡ Some r → (q : HeapRow) × (x ≡ Some q) × (r.loans ≡ q.loans) × (r.nests ≡ q.nests) × (r.object.ty ≡ q.object.ty) × (r.leaves ≡ q.leaves)

-- where no loan comes or ends, what is beside the objects stays
pub agrees_lent : (L : LoadRows) (s z : State) (rows : HeapRows) → ((o : ℕ) → loans z o ≡ loans s o) → Agrees L s rows → Agrees L z rows
agrees_lent L s z rows same a o r here = let at = a o r here in record { lent = at.lent ∙ sym (same o); nests = at.nests; stays = at.stays }

pub agrees_mapped : (L : LoadRows) (s z : State) (rows : HeapRows) (f : Option HeapRow → Option HeapRow) → f None ≡ None → KeepsRows f → ((o : ℕ) → loans z o ≡ loans s o)
    → Agrees L s rows → Agrees L z (map f rows)
agrees_mapped L s z rows f none keeps same a o r here =
    let was = keeps (row_of rows o) r (sym (row_of_map f none rows o) ∙ here) in
    let at = a o was.0 was.1 in
    record {
      lent = was.2 ∙ (at.lent ∙ sym (same o));
      nests = was.3 ∙ (at.nests ∙ ap (λ ty. list_any is_rref (cells_of L.tables ty)) (sym was.4));
      stays = was.5 ∙ at.stays;
    }

-- ---- counts

pub count_changed : {A : Type 0} (xs : List A) (n : ℕ) (change : A → A) → length (change_row xs n change (row xs n)) ≡ length xs
count_changed {A} xs n change = go (row xs n)
  where
    go : (x : Option A) → length (change_row xs n change x) ≡ length xs
    go None = refl
    go (Some x) = length-set xs (n - 1) (change x)
