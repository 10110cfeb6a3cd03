-- A frame of a state's stack, in the stack of the ledger.
use Rattle.std.proofs.Common.{◌≡◌, ℕ, ◌+◌, ◌<◌, ◌==◌, Bool, cond, List, [], ◌∷◌, ◌++◌, Option, Some, refl, ap, sym, ◌∙◌, arith, inl, inr}
use Rattle.std.proofs.lemmas.Bool.{cases_eq, ne_eqb}
use Rattle.machine_defs.specs.declared.values.Owner.{Owner}
use Rattle.machine_defs.specs.declared.values.Owner.TheVariants as owner
use Rattle.rl_defs.specs.declared.load.LoadRows.{LoadRows}
use Rattle.machine_defs.specs.State.{State, StackFrame, Placement, Root}
use Rattle.rl_defs.specs.Rows.{row}
use Rattle.machine_defs.specs.Loans.{count}
use Rattle.machine_defs.specs.Sound.{own_of, own_in as own_in_frames, IsRoot, IsFrame}
use Rattle.machine_laws.specs.Ledger.{LedgerFrame}
use Rattle.machine_laws.specs.LedgerOf.{frame_entry, entries_of, seat_of, ledger_of}
use Rattle.machine_laws.specs.LedgerSound.{own_in, Covered, Grounded}
use Rattle.machine_laws.proofs.Ranks.{BelowIn, RankedIn}
use Rattle.machine_laws.proofs.Tops.{bottom, entries}
use Rattle.machine_laws.proofs.Seats.{seats}
use Rattle.machine_laws.proofs.Present.{seated}
use Rattle.machine_laws.proofs.CallerRanks.{entries_over}

-- a root, by its seat
pub root_seat : (s : State) (o : ℕ) (w : Owner) → IsRoot s o w → seats s o ≡ Some (Root w)
root_seat s o w root = ap seat_of root.1 ∙ ap Some root.2

pub seat_root : (s : State) (o : ℕ) (w : Owner) → seats s o ≡ Some (Root w) → IsRoot s o w
seat_root s o w is =
    let x = seated s o (Root w) is in
    let e : Some x.0.placement ≡ Some (Root w) = sym (ap seat_of x.1) ∙ is in
    (x.0, x.1, cc)

-- the ledger lists the newest frame first: those above a frame, the frame, and those below it
pub entries_split : (below above : List StackFrame) (f : StackFrame) (rest : List LedgerFrame) → (over : List LedgerFrame) × (entries_of (below ++ f ∷ above) rest ≡ over ++ frame_entry f ∷ entries_of below rest)
entries_split [] above f rest = entries_over above (frame_entry f ∷ rest)
entries_split (g ∷ below) above f rest = entries_split below above f (frame_entry g ∷ rest)

-- there is a frame below, be it the client's own
pub entries_some : (fs : List StackFrame) (r : LedgerFrame) (rest : List LedgerFrame) → (g : LedgerFrame) × (gs : List LedgerFrame) × (entries_of fs (r ∷ rest) ≡ g ∷ gs)
entries_some [] r rest = (r, rest, refl)
entries_some (f ∷ fs) r rest = entries_some fs (frame_entry f) (r ∷ rest)

pub frame_splits : (L : LoadRows) (s : State) (t : ℕ) (below : List StackFrame) (f : StackFrame) → IsFrame s t below f → (over : List LedgerFrame) × ((ledger_of L s).stack t ≡ over ++ frame_entry f ∷ entries t below (row s.threads t))
frame_splits L s t below f here =
    let r = entries_split below here.above f (bottom t (row s.threads t) ∷ []) in
    (r.0, ap (λ fs. entries t fs (row s.threads t)) here.here ∙ r.1)

-- what instances have of their own in the frames of a stack, and what clients have
pub own_entries : (i o : ℕ) (fs : List StackFrame) (rest : List LedgerFrame) → own_in (owner.Instance i) o (entries_of fs rest) ≡ own_in_frames i o fs + own_in (owner.Instance i) o rest
own_entries i o [] rest = omega arith
own_entries i o (f ∷ fs) rest =
    let r = own_entries i o fs (frame_entry f ∷ rest) in
    let n = count o (own_of f) in
    let e : cond (i == f.instance) n 0 ≡ cond (f.instance == i) n 0 = ap (λ b. cond b n 0) (either_way i f.instance) in
    omega (arith, r, e)
  where
    either_way : (a b : ℕ) → (a == b) ≡ (b == a)
    either_way a b = elim (cases_eq a b) [
      | inl e ↦ rw e refl
      | inr ne ↦ rw (ne_eqb a b ne, ne_eqb b a (λ e. ne (sym e))) refl
    ]

pub own_client : (u o : ℕ) (fs : List StackFrame) (rest : List LedgerFrame) → own_in (owner.Client u) o (entries_of fs rest) ≡ own_in (owner.Client u) o rest
own_client u o [] rest = refl
own_client u o (f ∷ fs) rest = let r = own_client u o fs (frame_entry f ∷ rest) in omega (arith, r)

-- what holds of a stack holds from a frame of it on
pub covered_from : (live : ℕ → Bool) (seat : ℕ → Option Placement) (over fs : List LedgerFrame) → Covered live seat (over ++ fs) → Covered live seat fs
covered_from live seat [] fs c = c
covered_from live seat (g ∷ over) fs c = covered_from live seat over fs c.1

pub ranked_from : (L : LoadRows) (loads : ℕ → ℕ) (live : ℕ → Bool) (over fs : List LedgerFrame) → RankedIn L loads live (over ++ fs) → RankedIn L loads live fs
ranked_from L loads live [] fs r = r
ranked_from L loads live (g ∷ over) fs r = ranked_from L loads live over fs r.1

pub below_from : (L : LoadRows) (loads : ℕ → ℕ) (live : ℕ → Bool) (rank : ℕ) (over fs : List LedgerFrame) → BelowIn L loads live rank (over ++ fs) → BelowIn L loads live rank fs
below_from L loads live rank [] fs b = b
below_from L loads live rank (g ∷ over) fs b = below_from L loads live rank over fs b.1

pub grounded_from : (L : LoadRows) (loads : ℕ → ℕ) (ni nc t : ℕ) (over : List LedgerFrame) (f : LedgerFrame) (fs : List LedgerFrame) → Grounded L loads ni nc t (over ++ f ∷ fs) → Grounded L loads ni nc t (f ∷ fs)
grounded_from L loads ni nc t [] f fs g = g
grounded_from L loads ni nc t (h ∷ []) f fs g = g.4
grounded_from L loads ni nc t (h ∷ (k ∷ over)) f fs g = grounded_from L loads ni nc t (k ∷ over) f fs g.4

-- a frame has a greater number than each below it
pub rises_over : (L : LoadRows) (loads : ℕ → ℕ) (ni nc t : ℕ) (f : LedgerFrame) (over : List LedgerFrame) (g : LedgerFrame) (fs : List LedgerFrame) → Grounded L loads ni nc t (f ∷ (over ++ g ∷ fs)) → g.call < f.call
rises_over L loads ni nc t f [] g fs grounded = grounded.2
rises_over L loads ni nc t f (h ∷ over) g fs grounded =
    let deeper = rises_over L loads ni nc t h over g fs grounded.4 in
    let one : h.call < f.call = grounded.2 in
    omega (arith, deeper, one)
