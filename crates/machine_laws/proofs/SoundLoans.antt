-- What is lent stands as it may.
use Rattle.std.proofs.Common.{◌≡◌, ℕ, zero, suc, ◌<◌, ◌⊎◌, true, false, List, [], ◌∷◌, Option, Some, None, slice_set, refl, ap, sym, subst, ◌∙◌, arith, inl, inr}
use Rattle.std.specs.List.{slice_index_or}
use Rattle.std.proofs.lemmas.Bool.{cases_Bool, cases_eq, ne_eqb}
use Rattle.std.proofs.lemmas.Option.{get_or_from_slice_get}
use Rattle.rl_defs.specs.declared.values.Value.{Value}
use Rattle.rl_defs.specs.declared.values.Value.TheVariants as value
use Rattle.machine_defs.specs.declared.values.Owner.{Owner}
use Rattle.machine_defs.specs.declared.values.Owner.TheVariants as owner
use Rattle.rl_defs.specs.declared.code.Register.{Register}
use Rattle.rl_defs.specs.declared.code.RegKind.{RegKind}
use Rattle.rl_defs.specs.declared.code.RegKind.TheVariants as held
use Rattle.rl_defs.specs.declared.code.Instr.TheVariants as instr
use Rattle.machine_defs.specs.declared.frame.FrameBody.TheVariants as body
use Rattle.rl_defs.specs.declared.load.LoadRows.{LoadRows}
use Rattle.rl_defs.specs.CodeKinds.{Kinds, kinds_at, kind_in, is_own, moved, leave, leave_all}
use Rattle.rl_defs.specs.Registers.{Typing, fits_kind}
use Rattle.machine_defs.specs.Arguments.{has}
use Rattle.machine_defs.specs.State.{State, StackFrame, is_live, stack}
use Rattle.rl_defs.specs.Rows.{row}
use Rattle.machine_defs.specs.Loans.{lent_in as lent_in_frames}
use Rattle.machine_defs.specs.Seen.{domain_of_instance}
use Rattle.machine_defs.specs.Seen.{types_of}
use Rattle.machine_defs.specs.Steps.{Turn}
use Rattle.machine_defs.specs.Sound.{own_in as own_in_frames, IsRoot, IsFrame, HoldsAs, LoansStand}
use Rattle.machine_laws.specs.Ledger.{alive, lent_in}
use Rattle.machine_laws.specs.LedgerOf.{frame_entry, client_entry, ledger_of}
use Rattle.machine_laws.specs.LedgerSound.{own_in, Covered}
use Rattle.machine_laws.specs.Shape.{Laid}
use Rattle.machine_laws.specs.Fitting.{BodyFits, StackFits, CallsFit, Fitting}
use Rattle.machine_laws.proofs.Tops.{bottom, entries}
use Rattle.machine_laws.proofs.Seats.{seats}
use Rattle.machine_laws.proofs.Stacks.{loans_same, lent_entries}
use Rattle.machine_laws.proofs.StackFits.{fits_split, calls_back}
use Rattle.machine_laws.proofs.OwnHeads.{index_other}
use Rattle.machine_laws.proofs.KeptSteps.{Kept}
use Rattle.machine_laws.proofs.SoundStacks.{root_seat, seat_root, frame_splits, own_entries, own_client, covered_from}
use Rattle.machine_laws.proofs.SoundOwners.{held_once}
use Rattle.machine_laws.proofs.Counts.{has_counted}

-- a register stays empty, and stays known to hold a lent object, where own objects leave
emptied : (kinds : Kinds) (a r : ℕ) → slice_index_or kinds r held.Empty ≡ held.Empty → slice_index_or (slice_set kinds a held.Empty) r held.Empty ≡ held.Empty
emptied [] a r is = refl
emptied (k ∷ kinds) zero zero is = refl
emptied (k ∷ kinds) zero (suc r) is = is
emptied (k ∷ kinds) (suc a) zero is = is
emptied (k ∷ kinds) (suc a) (suc r) is = emptied kinds a r is

-- a register keeps its kind or is emptied
kept_or_emptied : (kinds : Kinds) (a r : ℕ) → (slice_index_or (slice_set kinds a held.Empty) r held.Empty ≡ slice_index_or kinds r held.Empty) ⊎ (slice_index_or (slice_set kinds a held.Empty) r held.Empty ≡ held.Empty)
kept_or_emptied [] a r = inr refl
kept_or_emptied (k ∷ kinds) zero zero = inr refl
kept_or_emptied (k ∷ kinds) zero (suc r) = inl refl
kept_or_emptied (k ∷ kinds) (suc a) zero = inl refl
kept_or_emptied (k ∷ kinds) (suc a) (suc r) = kept_or_emptied kinds a r

lent_left : (kinds : Kinds) (q : Register) (r ty : ℕ) → slice_index_or kinds r held.Empty ≡ held.Lent ty → slice_index_or (leave kinds q) r held.Empty ≡ held.Lent ty
lent_left kinds q r ty is = elim (cases_Bool (is_own (kind_in kinds q))) [
  | inl own ↦ rw own (index_other kinds q.number r held.Empty held.Empty (λ same. apart same own) ∙ is)
  | inr other ↦ rw other is
]
  where
    apart : q.number ≡ r → is_own (kind_in kinds q) ≡ true → ⊥
    apart same own = let e : is_own (slice_index_or kinds q.number held.Empty) ≡ false = ap (λ n. is_own (slice_index_or kinds n held.Empty)) same ∙ ap is_own is in cc (e, own)

lent_stays : (rs : List Register) (kinds : Kinds) (r ty : ℕ) → slice_index_or kinds r held.Empty ≡ held.Lent ty → slice_index_or (leave_all rs kinds) r held.Empty ≡ held.Lent ty
lent_stays [] kinds r ty is = is
lent_stays (q ∷ rs) kinds r ty is = lent_stays rs (leave kinds q) r ty (lent_left kinds q r ty is)

empty_left : (kinds : Kinds) (q : Register) (r : ℕ) → slice_index_or kinds r held.Empty ≡ held.Empty → slice_index_or (leave kinds q) r held.Empty ≡ held.Empty
empty_left kinds q r is = elim (cases_Bool (is_own (kind_in kinds q))) [ inl own ↦ rw own (emptied kinds q.number r is) | inr other ↦ rw other is ]

empty_stays : (rs : List Register) (kinds : Kinds) (r : ℕ) → slice_index_or kinds r held.Empty ≡ held.Empty → slice_index_or (leave_all rs kinds) r held.Empty ≡ held.Empty
empty_stays [] kinds r is = is
empty_stays (q ∷ rs) kinds r is = empty_stays rs (leave kinds q) r (empty_left kinds q r is)

own_left : (kinds : Kinds) (q : Register) (r ty : ℕ) → slice_index_or kinds r held.Empty ≡ held.Own ty → (slice_index_or (leave kinds q) r held.Empty ≡ held.Own ty) ⊎ (slice_index_or (leave kinds q) r held.Empty ≡ held.Empty)
own_left kinds q r ty is = elim (cases_Bool (is_own (kind_in kinds q))) [
  | inl own ↦ rw own (elim (kept_or_emptied kinds q.number r) [ inl e ↦ inl (e ∙ is) | inr e ↦ inr e ])
  | inr other ↦ rw other (inl is)
]

own_stays : (rs : List Register) (kinds : Kinds) (r ty : ℕ) → slice_index_or kinds r held.Empty ≡ held.Own ty → (slice_index_or (leave_all rs kinds) r held.Empty ≡ held.Own ty) ⊎ (slice_index_or (leave_all rs kinds) r held.Empty ≡ held.Empty)
own_stays [] kinds r ty is = inl is
own_stays (q ∷ rs) kinds r ty is = elim (own_left kinds q r ty is) [
  | inl e ↦ own_stays rs (leave kinds q) r ty e
  | inr e ↦ inr (empty_stays rs (leave kinds q) r e)
]

-- a register that is known to be empty holds no object
empty_register : (types : Typing) (k : RegKind) (v : Option Value) (o : ℕ) → fits_kind types k v ≡ true → k ≡ held.Empty → v ≡ Some (value.Obj o) → ⊥
empty_register types k v o fits empty full = let f : fits_kind types held.Empty (Some (value.Obj o)) ≡ true = sym (ap (λ x. fits_kind types x v) empty ∙ ap (λ x. fits_kind types held.Empty x) full) ∙ fits in cc

-- code that runs or waits was lent what its registers known to hold lent objects have, and wasn't lent what those known to hold own ones have
module _ (L : LoadRows) (s : State) (f : StackFrame) (at : ℕ) (regs : List (Option Value)) (r ty o : ℕ) (here : slice_index_or regs r None ≡ Some (value.Obj o)) where
  abbrev kinds : Kinds
  kinds = kinds_at (domain_of_instance L s f.instance) at

  body_lent : (above : List StackFrame) → BodyFits L s f above (body.Code at regs) → slice_index_or kinds r held.Empty ≡ held.Lent ty → has f.lent o ≡ true
  body_lent [] fits is = fits.1.parted.lent r ty o is here
  body_lent (g ∷ above) fits is =
      let w = fits.1 in
      w.parted.lent r ty o (lent_stays (moved (instr.Call w.target w.name w.args w.results w.failed w.label)) kinds r ty is) here

  body_own : (above : List StackFrame) → BodyFits L s f above (body.Code at regs) → slice_index_or kinds r held.Empty ≡ held.Own ty → has f.lent o ≡ false
  body_own [] fits is = fits.1.parted.own r ty o is here
  body_own (g ∷ above) fits is =
      let w = fits.1 in
      elim (own_stays (moved (instr.Call w.target w.name w.args w.results w.failed w.label)) kinds r ty is) [
        | inl e ↦ w.parted.own r ty o e here
        | inr e ↦ absurd (empty_register (types_of L s) (slice_index_or (leave_all (moved (instr.Call w.target w.name w.args w.results w.failed w.label)) kinds) r held.Empty) (slice_index_or regs r None) o (w.fits.regs.each r) e here)
      ]

module _ (L : LoadRows) (us : List Turn) (s : State) (laid : Laid L s) (kept : Kept L us (ledger_of L s)) where
  -- what is lent to a frame of a live owner is held below the frame
  covered_at : (t o : ℕ) (w : Owner) (below : List StackFrame) (f : StackFrame) → IsFrame s t below f → has f.lent o ≡ true → IsRoot s o w → alive (is_live s) w ≡ true → 0 < own_in w o (entries t below (row s.threads t))
  covered_at t o w below f here lent root lives =
      let r = frame_splits L s t below f here in
      let c = covered_from (is_live s) (seats s) r.0 (frame_entry f ∷ entries t below (row s.threads t)) (subst (Covered (is_live s) (seats s)) r.1 (kept.owned.covered t)) in
      c.0 o w (has_counted f.lent o lent) (root_seat s o w root) lives

  client_below : (t u o : ℕ) (below : List StackFrame) (f : StackFrame) → IsFrame s t below f → has f.lent o ≡ true → IsRoot s o (owner.Client u) → t ≡ u
  client_below t u o below f here lent root = elim (cases_eq u t) [
    | inl e ↦ sym e
    | inr ne ↦ absurd (
        let some = covered_at t o (owner.Client u) below f here lent root refl in
        let same = own_client u o below (bottom t (row s.threads t) ∷ []) in
        let none : own_in (owner.Client u) o (bottom t (row s.threads t) ∷ []) ≡ 0 = rw (ne_eqb u t ne) refl in
        omega (arith, some, same, none))
  ]

  instance_below : (t i o : ℕ) (below : List StackFrame) (f : StackFrame) → IsFrame s t below f → has f.lent o ≡ true → IsRoot s o (owner.Instance i) → is_live s i ≡ true → 0 < own_in_frames i o below
  instance_below t i o below f here lent root lives =
      let some = covered_at t o (owner.Instance i) below f here lent root lives in
      let same = own_entries i o below (bottom t (row s.threads t) ∷ []) in
      omega (arith, some, same)

  lent_there : (t o : ℕ) → 0 < lent_in_frames o (stack s t) → 0 < lent_in o ((ledger_of L s).stack t)
  lent_there t o some = let e = lent_entries o (stack s t) (client_entry s t ∷ []) in omega (arith, some, e)

  body_at : Fitting L s → (t : ℕ) (below : List StackFrame) (f : StackFrame) → (here : IsFrame s t below f) → is_live s f.instance ≡ true → BodyFits L s f here.above f.body
  body_at fits t below f here lives = (fits_split L s below here.above f (subst (StackFits L s) here.here (fits.bodies t))).0 lives

  registers_lent : Fitting L s → (t o ty : ℕ) (below : List StackFrame) (f : StackFrame) → IsFrame s t below f → is_live s f.instance ≡ true → HoldsAs L s f (held.Lent ty) o → has f.lent o ≡ true
  registers_lent fits t o ty below f here lives h =
      let b = subst (BodyFits L s f here.above) h.code (body_at fits t below f here lives) in
      body_lent L s f h.at h.regs h.number ty o (get_or_from_slice_get h.regs h.number (Some (value.Obj o)) None h.object) here.above b (get_or_from_slice_get (kinds_at (domain_of_instance L s f.instance) h.at) h.number (held.Lent ty) held.Empty h.kind)

  registers_own : Fitting L s → (t o ty : ℕ) (below : List StackFrame) (f : StackFrame) → IsFrame s t below f → is_live s f.instance ≡ true → HoldsAs L s f (held.Own ty) o → has f.lent o ≡ false
  registers_own fits t o ty below f here lives h =
      let b = subst (BodyFits L s f here.above) h.code (body_at fits t below f here lives) in
      body_own L s f h.at h.regs h.number ty o (get_or_from_slice_get h.regs h.number (Some (value.Obj o)) None h.object) here.above b (get_or_from_slice_get (kinds_at (domain_of_instance L s f.instance) h.at) h.number (held.Own ty) held.Empty h.kind)

  -- What is lent is a root, to frames of one stack, above its owner's one place.
  pub loans_stand : Fitting L s → LoansStand L s
  loans_stand fits = record {
    ended = λ o i root dead. (let some = kept.owned.rest (owner.Instance i) o (root_seat s o (owner.Instance i) root) dead in let same = loans_same L s o laid in omega (arith, some, same));
    roots = λ o some. (let same = loans_same L s o laid in let r = kept.owned.lent o (omega (arith, some, same)) in (r.0, seat_root s o r.0 r.1));
    arguments = λ t below f here. (calls_back L s below (f ∷ here.above) (subst (CallsFit L s) here.here (fits.calls t))).0.lent;
    registers = registers_lent fits;
    owns = registers_own fits;
    one_stack = λ t u o here there. kept.owned.stacks t u o (lent_there t o here) (lent_there u o there);
    of_client = λ t u o below f here lent root. (client_below t u o below f here lent root, (held_once L us s laid kept).one_place (owner.Client u) o refl root);
    of_instance = instance_below;
  }
