-- Serial instances: ranks along a stack, and one client in each.
use Rattle.std.proofs.Common.{◌≡◌, ℕ, ◌<◌, ◌≤◌, Bool, true, false, cond, List, [], ◌∷◌, ◌++◌, refl, ap, sym, subst, arith, inl, inr, length}
use Rattle.std.proofs.lemmas.Bool.{cases_Bool, eq-eqb, ne_eqb}
use Rattle.machine_defs.specs.declared.values.Owner.TheVariants as owner
use Rattle.rl_defs.specs.declared.load.LoadRows.{LoadRows}
use Rattle.rl_defs.specs.Domains.{load_of_target, is_serial}
use Rattle.machine_defs.specs.Report.{same_owner}
use Rattle.machine_laws.specs.Ledger.{LedgerFrame, Ledger, at}
use Rattle.machine_laws.specs.LedgerRows.{enters, IsBelow}
use Rattle.machine_laws.specs.LedgerSound.{Grounded}
use Rattle.machine_laws.proofs.Owners.{same_is}
use Rattle.machine_laws.proofs.Rows.{at_other}

-- whether a frame of the instance is among these
abbrev pub is_entered : ℕ → List LedgerFrame → Bool
is_entered i [] = false
is_entered i (f ∷ fs) = cond (same_owner (owner.Instance i) f.party) true (is_entered i fs)

abbrev pub BelowIn : LoadRows → (ℕ → ℕ) → (ℕ → Bool) → ℕ → List LedgerFrame → Type 0
BelowIn L loads live rank [] = Unit {0}
BelowIn L loads live rank (f ∷ fs) = ((i : ℕ) → f.party ≡ owner.Instance i → live i ≡ true → is_serial L (loads i) ≡ true → rank < loads i) × BelowIn L loads live rank fs

-- a call into a serial load goes down in rank
abbrev pub RankedIn : LoadRows → (ℕ → ℕ) → (ℕ → Bool) → List LedgerFrame → Type 0
RankedIn L loads live [] = Unit {0}
RankedIn L loads live (f ∷ fs) = (is_serial L (load_of_target L f.target) ≡ true → BelowIn L loads live (load_of_target L f.target) fs) × RankedIn L loads live fs

-- a live serial instance has frames of one client alone
pub record RanksIn (L : LoadRows) (loads : ℕ → ℕ) (live : ℕ → Bool) (stack : ℕ → List LedgerFrame) : Type 0 where
  pub ranked : (t : ℕ) → 0 < t → t ≤ length L.clients → RankedIn L loads live (stack t)
  pub alone : (t u i : ℕ) → 0 < t → t ≤ length L.clients → 0 < u → u ≤ length L.clients → live i ≡ true → is_serial L (loads i) ≡ true → is_entered i (stack t) ≡ true → is_entered i (stack u) ≡ true → t ≡ u

abbrev pub Ranks : LoadRows → Ledger → Type 0
Ranks L s = RanksIn L s.loads s.live s.stack

pub below_in : (L : LoadRows) (s : Ledger) (rank : ℕ) (fs : List LedgerFrame) → IsBelow L s rank fs → BelowIn L s.loads s.live rank fs
below_in L s rank [] b = tt
below_in L s rank (f ∷ fs) b = (b.0, below_in L s rank fs b.1)

pub below_of : (L : LoadRows) (s : Ledger) (rank : ℕ) (fs : List LedgerFrame) → BelowIn L s.loads s.live rank fs → IsBelow L s rank fs
below_of L s rank [] b = tt
below_of L s rank (f ∷ fs) b = (b.0, below_of L s rank fs b.1)

-- the frame that the test finds, and the test at a frame
pub entered_frame : (i : ℕ) (fs : List LedgerFrame) → is_entered i fs ≡ true → enters i fs
entered_frame i [] e = absurd cc
entered_frame i (f ∷ fs) e = elim (cases_Bool (same_owner (owner.Instance i) f.party)) [
  | inl is ↦ (f, [], fs, refl, sym (same_is (owner.Instance i) f.party is))
  | inr is ↦ (let r = entered_frame i fs (rw is at e) in (r.0, f ∷ r.1, r.2, ap (λ gs. f ∷ gs) r.3, r.4))
]

pub frame_entered : (i : ℕ) (fs : List LedgerFrame) → enters i fs → is_entered i fs ≡ true
frame_entered i fs r = subst (λ gs. is_entered i gs ≡ true) (sym r.3) (at_frame r.1)
  where
    at_frame : (over : List LedgerFrame) → is_entered i (over ++ r.0 ∷ r.2) ≡ true
    at_frame [] = rw (r.4, eq-eqb i i refl) refl
    at_frame (g ∷ over) = elim (cases_Bool (same_owner (owner.Instance i) g.party)) [ inl is ↦ rw is refl | inr is ↦ rw is (at_frame over) ]

pub below_weaker : (L : LoadRows) (loads : ℕ → ℕ) (live live' : ℕ → Bool) (rank : ℕ) (fs : List LedgerFrame) → ((i : ℕ) → live' i ≡ true → live i ≡ true) → BelowIn L loads live rank fs → BelowIn L loads live' rank fs
below_weaker L loads live live' rank [] weaker b = tt
below_weaker L loads live live' rank (f ∷ fs) weaker b = (λ i is lives. b.0 i is (weaker i lives), below_weaker L loads live live' rank fs weaker b.1)

pub ranked_weaker : (L : LoadRows) (loads : ℕ → ℕ) (live live' : ℕ → Bool) (fs : List LedgerFrame) → ((i : ℕ) → live' i ≡ true → live i ≡ true) → RankedIn L loads live fs → RankedIn L loads live' fs
ranked_weaker L loads live live' [] weaker r = tt
ranked_weaker L loads live live' (f ∷ fs) weaker r = (λ serial. below_weaker L loads live live' (load_of_target L f.target) fs weaker (r.0 serial), ranked_weaker L loads live live' fs weaker r.1)

-- an instance that no frame is of may be opened
pub below_opened : (L : LoadRows) (loads : ℕ → ℕ) (live : ℕ → Bool) (rank i l ni nc t : ℕ) (fs : List LedgerFrame) → ni ≤ i → Grounded L loads ni nc t fs → BelowIn L loads live rank fs → BelowIn L (at i l loads) (at i true live) rank fs
below_opened L loads live rank i l ni nc t [] le g b = tt
below_opened L loads live rank i l ni nc t (f ∷ []) le g b = (λ j is. absurd (let e = g.0 in cc (e, is)), tt)
below_opened L loads live rank i l ni nc t (f ∷ h ∷ fs) le g b = (
  λ j is lives serial. (
      let ne : j ≡ i → ⊥ = λ same. (let lt = g.0.3 in let e : g.0.0 ≡ j = cc (g.0.1, is) in omega arith) in
      let e = at_other i l loads j ne in
      rw e (b.0 j is (rw (at_other i true live j ne) at lives) (rw e at serial))),
  below_opened L loads live rank i l ni nc t (h ∷ fs) le g.4 b.1,
)

pub ranked_opened : (L : LoadRows) (loads : ℕ → ℕ) (live : ℕ → Bool) (i l ni nc t : ℕ) (fs : List LedgerFrame) → ni ≤ i → Grounded L loads ni nc t fs → RankedIn L loads live fs → RankedIn L (at i l loads) (at i true live) fs
ranked_opened L loads live i l ni nc t [] le g r = tt
ranked_opened L loads live i l ni nc t (f ∷ []) le g r = (λ _. tt, tt)
ranked_opened L loads live i l ni nc t (f ∷ h ∷ fs) le g r = (
  λ serial. below_opened L loads live (load_of_target L f.target) i l ni nc t (h ∷ fs) le g.4 (r.0 serial),
  ranked_opened L loads live i l ni nc t (h ∷ fs) le g.4 r.1,
)

pub none_entered : (L : LoadRows) (loads : ℕ → ℕ) (ni nc t i : ℕ) (fs : List LedgerFrame) → Grounded L loads ni nc t fs → ni ≤ i → is_entered i fs ≡ false
none_entered L loads ni nc t i [] g le = refl
none_entered L loads ni nc t i (f ∷ []) g le = let e = g.0 in rw e refl
none_entered L loads ni nc t i (f ∷ h ∷ fs) g le = let e = g.0.1 in let l = g.0.3 in rw (e, ne_eqb i g.0.0 (λ is. omega arith)) (none_entered L loads ni nc t i (h ∷ fs) g.4 le)
