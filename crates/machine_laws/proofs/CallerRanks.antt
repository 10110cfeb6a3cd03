-- Ranks, room and freedom to enter: what stands in no caller's way holds in the ledger too.
use Rattle.std.proofs.Common.{◌≡◌, ◌≢◌, ℕ, zero, suc, ◌+◌, ◌<◌, ◌==◌, nat_le, Bool, true, false, not, ◌&&◌, List, [], ◌∷◌, ◌++◌, length, Option, Some, None, refl, ap, sym, subst, ◌∙◌, arith, inl, inr, leb-false, leb-true}
use Rattle.std.specs.List.{list_any}
use Rattle.std.proofs.lemmas.Bool.{cases_Bool, eq-eqb, ne_eqb, and_parts, or_parts}
use Rattle.machine_defs.specs.declared.values.Owner.TheVariants as owner
use Rattle.rl_defs.specs.declared.load.LoadRows.{LoadRows}
use Rattle.rl_defs.specs.Domains.{is_serial}
use Rattle.machine_defs.specs.State.{State, StackFrame, is_live, stack, frames_of}
use Rattle.rl_defs.specs.Rows.{row}
use Rattle.machine_defs.specs.State.{instance_load}
use Rattle.machine_defs.specs.Calling.{outranks, is_in, others_in, is_taken}
use Rattle.machine_laws.specs.Ledger.{LedgerFrame}
use Rattle.machine_laws.specs.LedgerOf.{frame_entry, entries_of, ledger_of}
use Rattle.machine_laws.specs.LedgerRows.{enters, IsBelow, IsOutranked, IsFree}
use Rattle.machine_laws.proofs.Tops.{bottom, entries}

pub and_false : (a b : Bool) → (a && b) ≡ false → a ≡ true → b ≡ false
and_false true b e is = e
and_false false b e is = absurd cc

pub entries_length : (fs : List StackFrame) (below : List LedgerFrame) → length (entries_of fs below) ≡ length fs + length below
entries_length [] below = omega arith
entries_length (f ∷ fs) below = let r = entries_length fs (frame_entry f ∷ below) in omega (arith, r)

-- a frame that doesn't outrank
not_outranking : (L : LoadRows) (s : State) (rank : ℕ) (f : StackFrame) → outranks L s rank f ≡ false
    → (i : ℕ) → owner.Instance f.instance ≡ owner.Instance i → is_live s i ≡ true → is_serial L (instance_load s i) ≡ true → rank < instance_load s i
not_outranking L s rank f is i same lives serial =
    let e : f.instance ≡ i = cc in
    let lives' : is_live s f.instance ≡ true = subst (λ n. is_live s n ≡ true) (sym e) lives in
    let serial' : is_serial L (instance_load s f.instance) ≡ true = subst (λ n. is_serial L (instance_load s n) ≡ true) (sym e) serial in
    let both : (is_live s f.instance && is_serial L (instance_load s f.instance)) ≡ true = rw (lives', serial') refl in
    let le : nat_le (instance_load s f.instance) rank ≡ false = and_false (is_live s f.instance && is_serial L (instance_load s f.instance)) (nat_le (instance_load s f.instance) rank) is both in
    subst (λ n. rank < instance_load s n) e (leb-false (instance_load s f.instance) rank le)

pub all_below : (L : LoadRows) (s : State) (rank : ℕ) (fs : List StackFrame) (below : List LedgerFrame) → list_any (outranks L s rank) fs ≡ false
    → IsBelow L (ledger_of L s) rank below → IsBelow L (ledger_of L s) rank (entries_of fs below)
all_below L s rank [] below none under = under
all_below L s rank (f ∷ fs) below none under =
    let split = or_parts (outranks L s rank f) (list_any (outranks L s rank) fs) none in
    all_below L s rank fs (frame_entry f ∷ below) split.1 (not_outranking L s rank f split.0, under)

pub below_client : (L : LoadRows) (s : State) (rank t : ℕ) (own : Option _) → IsBelow L (ledger_of L s) rank (bottom t own ∷ [])
below_client L s rank t own = (λ i e. absurd cc, tt)

-- the entries of a stack: some frames over those below
pub entries_over : (fs : List StackFrame) (below : List LedgerFrame) → (over : List LedgerFrame) × (entries_of fs below ≡ over ++ below)
entries_over [] below = ([], refl)
entries_over (f ∷ fs) below = let r = entries_over fs (frame_entry f ∷ below) in (r.0 ++ frame_entry f ∷ [], r.1 ∙ shift r.0 (frame_entry f) below)
  where
    shift : (over : List LedgerFrame) (g : LedgerFrame) (below : List LedgerFrame) → over ++ g ∷ below ≡ (over ++ g ∷ []) ++ below
    shift [] g below = refl
    shift (h ∷ hs) g below = ap (λ rest. h ∷ rest) (shift hs g below)

pub some_outranks : (L : LoadRows) (s : State) (rank : ℕ) (fs : List StackFrame) (below : List LedgerFrame) → list_any (outranks L s rank) fs ≡ true → IsOutranked L (ledger_of L s) rank (entries_of fs below)
some_outranks L s rank [] below any' = absurd cc
some_outranks L s rank (f ∷ fs) below any' = elim (cases_Bool (outranks L s rank f)) [
  | inl here ↦
      let parts = and_parts (is_live s f.instance && is_serial L (instance_load s f.instance)) (nat_le (instance_load s f.instance) rank) here in
      let more = and_parts (is_live s f.instance) (is_serial L (instance_load s f.instance)) parts.0 in
      let over = entries_over fs (frame_entry f ∷ below) in
      record {
        frame = frame_entry f;
        over = over.0;
        under = below;
        among = over.1;
        inside = f.instance;
        party = refl;
        lives = more.0;
        serial = more.1;
        rank = leb-true (instance_load s f.instance) rank parts.1;
      }
  | inr not_here ↦ some_outranks L s rank fs (frame_entry f ∷ below) (let e : list_any (outranks L s rank) fs ≡ true = rw not_here at any' in e)
]

-- no other client has a frame in an instance that isn't taken
not_in : (i : ℕ) (fs : List StackFrame) (below : List LedgerFrame) → is_in i fs ≡ false → (enters i below → ⊥) → enters i (entries_of fs below) → ⊥
not_in i [] below none under here = under here
not_in i (f ∷ fs) below none under here =
    let split = or_parts (f.instance == i) (is_in i fs) none in
    not_in i fs (frame_entry f ∷ below) split.1 (λ h. first h) here
  where
    first : enters i (frame_entry f ∷ below) → ⊥
    first h = go h.1 h.3 h.4
      where
        go : (over : List LedgerFrame) → frame_entry f ∷ below ≡ over ++ h.0 ∷ h.2 → h.0.party ≡ owner.Instance i → ⊥
        go [] e p =
            let same : frame_entry f ≡ h.0 = cc in
            let inside : owner.Instance f.instance ≡ owner.Instance i = ap (λ (g : LedgerFrame). g.party) same ∙ p in
            let number : f.instance ≡ i = cc in
            let split = or_parts (f.instance == i) (is_in i fs) none in
            let yes' = eq-eqb f.instance i number in
            let no' = split.0 in cc
        go (g ∷ gs) e p = let rest : below ≡ gs ++ h.0 ∷ h.2 = cc in under (h.0, gs, h.2, rest, p)

client_enters : (i t : ℕ) (own : Option _) → enters i (bottom t own ∷ []) → ⊥
client_enters i t own h = go h.1 h.3 h.4
  where
    go : (over : List LedgerFrame) → bottom t own ∷ [] ≡ over ++ h.0 ∷ h.2 → h.0.party ≡ owner.Instance i → ⊥
    go [] e p = let same : bottom t own ≡ h.0 = cc in let no' : owner.Client t ≡ owner.Instance i = ap (λ (g : LedgerFrame). g.party) same ∙ p in cc
    go (g ∷ []) e p = cc
    go (g ∷ (g' ∷ gs)) e p = cc

others_none : (i t k : ℕ) (stacks : List (List StackFrame)) → others_in i t k stacks ≡ false → (j : ℕ) (fs : List StackFrame) → row stacks (suc j) ≡ Some fs → ((k + j ≡ t) → ⊥) → is_in i fs ≡ false
others_none i t k [] none j fs is ne = absurd cc
others_none i t k (gs ∷ stacks) none zero fs is ne =
    let split = or_parts (not (k == t) && is_in i gs) (others_in i t (k + 1) stacks) none in
    let apart : k ≢ t = λ e. ne (omega (arith, e)) in
    let same : gs ≡ fs = cc in
    let e : is_in i gs ≡ false = and_false (not (k == t)) (is_in i gs) split.0 (rw (ne_eqb k t apart) refl) in
    subst (λ x. is_in i x ≡ false) same e
others_none i t k (gs ∷ stacks) none (suc j) fs is ne =
    let split = or_parts (not (k == t) && is_in i gs) (others_in i t (k + 1) stacks) none in
    others_none i t (k + 1) stacks split.1 j fs is (λ e. ne (omega (arith, e)))

pub free_to_enter : (L : LoadRows) (s : State) (t i : ℕ) → is_taken L s t i ≡ false → IsFree L (ledger_of L s) t i
free_to_enter L s t i free serial u pos le ne here =
    let others : others_in i t 1 s.stacks ≡ false = and_false (is_serial L (instance_load s i)) (others_in i t 1 s.stacks) free serial in
    go u pos ne others here
  where
    go : (u : ℕ) → 0 < u → ((u ≡ t) → ⊥) → others_in i t 1 s.stacks ≡ false → enters i (entries u (stack s u) (row s.threads u)) → ⊥
    go zero pos' ne' others h = absurd (omega arith)
    go (suc j) pos' ne' others h = by_row (row s.stacks (suc j)) refl h
      where
        by_row : (found : Option (List StackFrame)) → row s.stacks (suc j) ≡ found → enters i (entries (suc j) (stack s (suc j)) (row s.threads (suc j))) → ⊥
        by_row None is h' = client_enters i (suc j) (row s.threads (suc j)) (let e : enters i (entries (suc j) (frames_of None) (row s.threads (suc j))) = rw is at h' in e)
        by_row (Some fs) is h' =
            let none = others_none i t 1 s.stacks others j fs is (λ e. ne' (omega (arith, e))) in
            not_in i fs (bottom (suc j) (row s.threads (suc j)) ∷ []) none (client_enters i (suc j) (row s.threads (suc j)))
            (let e : enters i (entries (suc j) fs (row s.threads (suc j))) = rw is at h' in e)
