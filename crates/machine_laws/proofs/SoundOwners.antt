-- Roots are held once, and what hangs hangs alone.
use Rattle.std.proofs.Common.{◌≡◌, ℕ, zero, suc, ◌+◌, ◌<◌, ◌≤◌, ◌==◌, Bool, true, false, cond, not, List, [], ◌∷◌, length, Option, Some, None, refl, ap, sym, subst, ◌∙◌, arith, inl, inr}
use Rattle.std.proofs.lemmas.Bool.{cases_eq, eq-eqb, ne_eqb}
use Rattle.machine_defs.specs.declared.values.Owner.{Owner}
use Rattle.machine_defs.specs.declared.values.Owner.TheVariants as owner
use Rattle.rl_defs.specs.declared.load.LoadRows.{LoadRows}
use Rattle.machine_defs.specs.State.{State, StackFrame, Object, Hung, Thread, is_live, stack, frames_of}
use Rattle.rl_defs.specs.Rows.{row}
use Rattle.machine_defs.specs.Loans.{object_of, count, loans}
use Rattle.machine_defs.specs.Seen.{slots}
use Rattle.machine_laws.specs.Ledger.{sum_to}
use Rattle.machine_defs.specs.Steps.{Turn}
use Rattle.machine_defs.specs.Sound.{owner_lives, in_names, in_slots as in_slots_listed, own_in as own_in_frames, own_in_all, places, HeldOnce, HungAlone}
use Rattle.machine_laws.specs.Ledger.{alive}
use Rattle.machine_laws.specs.LedgerOf.{client_entry, entries_of, names_held, seat_of, ledger_of}
use Rattle.machine_laws.specs.LedgerSound.{in_slots, own_in, held, is_of}
use Rattle.machine_laws.specs.Shape.{Laid}
use Rattle.machine_laws.specs.Fitting.{Fitting}
use Rattle.machine_laws.proofs.Rows.{row_within}
use Rattle.machine_laws.proofs.Seats.{seats}
use Rattle.machine_laws.proofs.Stacks.{loans_same, sum_shift}
use Rattle.machine_laws.proofs.Owners.{same_self}
use Rattle.machine_laws.proofs.OwnerRows.{sum_none, none_is_of}
use Rattle.machine_laws.proofs.KeptSteps.{Kept}
use Rattle.machine_laws.proofs.SoundStacks.{root_seat, seat_root, own_entries, own_client}
use Rattle.machine_laws.proofs.Sums.{sum_same}

-- an owner of the machine that lives is alive in the ledger
lives_alive : (s : State) (w : Owner) → owner_lives s w ≡ true → alive (is_live s) w ≡ true
lives_alive s (owner.Client t) lives = refl
lives_alive s (owner.Instance i) lives = twice (is_live s i) lives
  where
    twice : (b : Bool) → not (not b) ≡ true → b ≡ true
    twice true e = refl
    twice false e = absurd cc

-- slots, names and frames are counted alike in a state and in its ledger
slots_same : (o : ℕ) (contents : List (Option ℕ)) → in_slots o contents ≡ in_slots_listed o contents
slots_same o [] = refl
slots_same o (None ∷ contents) = slots_same o contents
slots_same o (Some q ∷ contents) = let r = slots_same o contents in omega (arith, r)

names_same : (o : ℕ) (thread : Option Thread) → count o (names_held thread) ≡ in_names o thread
names_same o None = refl
names_same o (Some thread) = refl

own_sum : (i o : ℕ) (stacks : List (List StackFrame)) → sum_to (λ t. own_in_frames i o (frames_of (row stacks t))) (length stacks) ≡ own_in_all i o stacks
own_sum i o [] = refl
own_sum i o (fs ∷ stacks) =
    let deeper = own_sum i o stacks in
    let shift = sum_shift (λ t. own_in_frames i o (frames_of (row (fs ∷ stacks) t))) (length stacks) in
    let same = sum_same (λ t. own_in_frames i o (frames_of (row (fs ∷ stacks) (suc t)))) (λ t. own_in_frames i o (frames_of (row stacks t))) (length stacks) (λ t pos le. one t pos) in
    shift ∙ (let r = same ∙ deeper in ap (λ n. own_in_frames i o fs + n) r)
  where
    one : (t : ℕ) → 0 < t → own_in_frames i o (frames_of (row (fs ∷ stacks) (suc t))) ≡ own_in_frames i o (frames_of (row stacks t))
    one zero pos = absurd (omega arith)
    one (suc t) pos = refl

-- a sum of what only one of the numbers has
abbrev only : ℕ → (ℕ → ℕ) → ℕ → ℕ
only u g t = cond (u == t) (g t) 0

only_other : (u : ℕ) (g : ℕ → ℕ) (t : ℕ) → (u ≡ t → ⊥) → only u g t ≡ 0
only_other u g t ne = rw (ne_eqb u t ne) refl

only_self : (u : ℕ) (g : ℕ → ℕ) → only u g u ≡ g u
only_self u g = rw (eq-eqb u u refl) refl

sum_only : (u : ℕ) (g : ℕ → ℕ) (n : ℕ) → 0 < u → u ≤ n → sum_to (only u g) n ≡ g u
sum_only u g zero pos le = absurd (omega arith)
sum_only u g (suc n) pos le = elim (cases_eq u (suc n)) [
  | inl e ↦
      let none = sum_none (only u g) n (λ t p small. only_other u g t (λ is. omega (arith, is, e, small))) in
      let here : only u g (suc n) ≡ g u = subst (λ k. only u g k ≡ g u) e (only_self u g) in
      omega (arith, none, here)
  | inr ne ↦
      let here = only_other u g (suc n) ne in
      let deeper = sum_only u g n pos (omega (arith, le, ne)) in
      omega (arith, here, deeper)
]

-- a client's names are in the ledger's stack of the client
abbrev named : State → ℕ → ℕ → ℕ
named s o t = count o (names_held (row s.threads t))

sum_names : (s : State) (u o n : ℕ) → length s.threads ≡ n → sum_to (only u (named s o)) n ≡ in_names o (row s.threads u)
sum_names s u o n long = go (row s.threads u) refl
  where
    go : (found : Option Thread) → row s.threads u ≡ found → sum_to (only u (named s o)) n ≡ in_names o (row s.threads u)
    go (Some thread) is =
        let w = row_within s.threads u thread is in
        let le = w.1 in
        sum_only u (named s o) n w.0 (omega (arith, le, long)) ∙ names_same o (row s.threads u)
    go None is =
        let none : in_names o (row s.threads u) ≡ 0 = ap (in_names o) is in
        sum_none (only u (named s o)) n (λ t pos le. each t) ∙ sym none
      where
        each : (t : ℕ) → only u (named s o) t ≡ 0
        each t = elim (cases_eq u t) [
          | inl e ↦ subst (λ k. only u (named s o) k ≡ 0) e (only_self u (named s o) ∙ ap (λ x. count o (names_held x)) is)
          | inr ne ↦ only_other u (named s o) t ne
        ]

-- an owner has an object in as many places of a state as of its ledger
places_same : (L : LoadRows) (s : State) (w : Owner) (o : ℕ) → Laid L s → held L (ledger_of L s) w o ≡ places s w o
places_same L s (owner.Client u) o laid =
    let each = sum_same (λ t. own_in (owner.Client u) o (entries_of (stack s t) (client_entry s t ∷ []))) (only u (named s o)) (length L.clients) (λ t pos le. (let r = own_client u o (stack s t) (client_entry s t ∷ []) in omega (arith, r))) in
    let names = sum_names s u o (length L.clients) laid.threads in
    omega (arith, each, names)
places_same L s (owner.Instance i) o laid =
    let each = sum_same (λ t. own_in (owner.Instance i) o (entries_of (stack s t) (client_entry s t ∷ []))) (λ t. own_in_frames i o (stack s t)) (length L.clients) (λ t pos le. (let r = own_entries i o (stack s t) (client_entry s t ∷ []) in omega (arith, r))) in
    let frames : sum_to (λ t. own_in_frames i o (stack s t)) (length L.clients) ≡ own_in_all i o s.stacks = rw (← laid.stacks) (own_sum i o s.stacks) in
    let contents = slots_same o (slots s i) in
    omega (arith, each, frames, contents)

module _ (L : LoadRows) (us : List Turn) (s : State) (laid : Laid L s) (kept : Kept L us (ledger_of L s)) where
  -- A root of a live owner is in exactly one place of it; and a live owner has nothing else.
  pub held_once : HeldOnce s
  held_once = record {
    one_place = λ w o lives root. (
        let once = kept.owned.once w o (lives_alive s w lives) in
        let one : ◌≡◌ {A = ℕ} (cond (is_of w (seats s o)) 1 0) 1 = rw (root_seat s o w root, same_self w) refl in
        sym (places_same L s w o laid) ∙ (once ∙ one));
    no_other = λ w o lives unowned. (
        let once = kept.owned.once w o (lives_alive s w lives) in
        let none = none_is_of w (seats s o) (λ is. unowned (seat_root s o w is)) in
        sym (places_same L s w o laid) ∙ (once ∙ none));
  }

  -- what hangs is seated in its cell
  hung_seat : (x : Object) (o parent place : ℕ) → object_of s o ≡ Some x → x.placement ≡ Hung parent place → seats s o ≡ Some (Hung parent place)
  hung_seat x o parent place here is = ap seat_of here ∙ ap Some is

  unlent_hung : (o parent place : ℕ) → seats s o ≡ Some (Hung parent place) → loans s o ≡ 0
  unlent_hung o parent place hung = elim (cases_eq (loans s o) 0) [
    | inl e ↦ e
    | inr ne ↦ absurd (
        let same = loans_same L s o laid in
        let r = kept.owned.lent o (omega (arith, same, ne)) in
        let e = r.1 in
        cc (e, hung))
  ]

  -- What hangs, hangs alone in a cell for its struct, of a root, and isn't lent.
  pub hung_alone : Fitting L s → HungAlone L s
  hung_alone fits x parent place here is =
      let hung = hung_seat x x.number parent place here is in
      let r = kept.owned.hung x.number parent place hung in
      record {
        root = (r.0, seat_root s parent r.0 r.1);
        cell = (fits.objects x.number x here).hung parent place is;
        alone = λ y there also. kept.owned.cell y.number x.number parent place (hung_seat y y.number parent place there also) hung;
        unlent = unlent_hung x.number parent place hung;
      }
