-- What Fitting carries of a sound state: kinds, layout and numbers.
use Rattle.std.proofs.Common.{◌≡◌, ℕ, zero, suc, ◌<◌, ◌≤◌, ◌++◌, true, sym, List, [], ◌∷◌, length, Some, slice_get, refl, ap, subst, ◌∙◌, arith, inl, inr}
use Rattle.std.proofs.lemmas.Bool.{cases_lt}
use Rattle.machine_defs.specs.declared.values.Owner.TheVariants as owner
use Rattle.machine_defs.specs.declared.frame.FrameBody.{FrameBody}
use Rattle.machine_defs.specs.declared.frame.FrameBody.TheVariants as body
use Rattle.machine_defs.specs.declared.frame.Action.{Action}
use Rattle.rl_defs.specs.declared.load.LoadRows.{LoadRows}
use Rattle.machine_defs.specs.State.{State, StackFrame, Object, Thread, is_live, stack, frames_of}
use Rattle.rl_defs.specs.Rows.{row}
use Rattle.machine_defs.specs.Loans.{object_of}
use Rattle.machine_defs.specs.Steps.{Turn}
use Rattle.machine_defs.specs.Sound.{brought_by, IsFrame, BodyFits, KindsFit, NumbersFit, SizesFit, LaidOut}
use Rattle.machine_laws.specs.LedgerOf.{entries_of, is_done, client_entry, seat_of, ledger_of}
use Rattle.machine_laws.specs.Shape.{Rises, Laid}
use Rattle.machine_laws.specs.Fitting.{CallsFit, CallFits, StackFits, BodyFits as FitsBody, Fitting}
use Rattle.machine_laws.proofs.Objects.{found_below}
use Rattle.machine_laws.proofs.StackFits.{fits_split, calls_back}
use Rattle.machine_laws.proofs.HeldKept.{HoldsFew, AllFew, FewIn}
use Rattle.machine_laws.proofs.KeptSteps.{Kept}
use Rattle.machine_laws.proofs.CallerRanks.{entries_length}

-- at most 65,536 objects are live
abbrev pub Few : State → Type 0
Few s = length s.objects ≤ 65536

-- a body that fits among the frames of its stack is as a sound state has it
sound_body : (L : LoadRows) (s : State) (f : StackFrame) (above : List StackFrame) (b : FrameBody Action) → FitsBody L s f above b → BodyFits L s f above b
sound_body L s f [] (body.Code at regs) fits = fits.1.stands
sound_body L s f (g ∷ above) (body.Code at regs) fits = (let w = fits.1 in record {
  target = w.target;
  name = w.name;
  args = w.args;
  results = w.results;
  failed = w.failed;
  label = w.label;
  here = w.here;
  fits = w.fits;
  calls = w.calls;
})
sound_body L s f [] (body.Native held act) fits = fits
sound_body L s f (g ∷ above) (body.Native held act) fits = fits

-- an object further on has a greater number
rises_above : (n next k : ℕ) (xs : List Object) (y : Object) → Rises n next xs → slice_get xs k ≡ Some y → n < y.number
rises_above n next k [] y rises is = absurd cc
rises_above n next zero (x ∷ xs) y rises is = let e : x ≡ y = cc in subst (λ (z : Object). n < z.number) e rises.0
rises_above n next (suc k) (x ∷ xs) y rises is = let a = rises.0 in let b = rises_above x.number next k xs y rises.2 is in omega (arith, a, b)

rises_places : (n next j k : ℕ) (xs : List Object) (x y : Object) → Rises n next xs → j < k → slice_get xs j ≡ Some x → slice_get xs k ≡ Some y → x.number < y.number
rises_places n next j k [] x y rises lt a b = absurd cc
rises_places n next j zero (z ∷ xs) x y rises lt a b = absurd (omega (arith, lt))
rises_places n next zero (suc k) (z ∷ xs) x y rises lt a b = let e : z ≡ x = cc in subst (λ (w : Object). w.number < y.number) e (rises_above z.number next k xs y rises.2 b)
rises_places n next (suc j) (suc k) (z ∷ xs) x y rises lt a b = rises_places z.number next j k xs x y rises.2 (omega (arith, lt)) a b

-- a client that isn't there has no frames
no_stack : (xs : List (List StackFrame)) (t : ℕ) → length xs < t → frames_of (row xs t) ≡ []
no_stack xs zero lt = refl
no_stack [] (suc t) lt = refl
no_stack (x ∷ xs) (suc zero) lt = absurd (omega (arith, lt))
no_stack (x ∷ xs) (suc (suc t)) lt = no_stack xs (suc t) (omega (arith, lt))

few_split : (L : LoadRows) (below above : List StackFrame) (f : StackFrame) → AllFew L (below ++ f ∷ above) → HoldsFew f.body (brought_by L above)
few_split L [] above f few = few.0
few_split L (g ∷ below) above f few = few_split L below above f few.1

no_items : {A : Type 0} (xs : List A) → length xs ≡ 0 → xs ≡ []
no_items [] e = refl
no_items (x ∷ xs) e = absurd (omega (arith, e))

module _ (L : LoadRows) (s : State) (fits : Fitting L s) where
  call_at : (t : ℕ) (below : List StackFrame) (f : StackFrame) → IsFrame s t below f → CallFits L s f
  call_at t below f here =
      let back : CallsFit L s (f ∷ here.above) = calls_back L s below (f ∷ here.above) (subst (CallsFit L s) here.here (fits.calls t)) in
      back.0

  stack_at : (t : ℕ) (below : List StackFrame) (f : StackFrame) → (here : IsFrame s t below f) → StackFits L s (f ∷ here.above)
  stack_at t below f here = fits_split L s below here.above f (subst (StackFits L s) here.here (fits.bodies t))

  -- what frames, slots and script names hold is of the kinds given
  pub kinds_fit : FewIn L s → KindsFit L s
  kinds_fit few = record {
    arguments = λ t below f here. (let c = call_at t below f here in record { method = c.method; row = c.row; suits = c.args });
    bodies = λ t below f here lives. sound_body L s f here.above f.body ((stack_at t below f here).0 lives);
    room = λ t below f held act here is. subst (λ b. HoldsFew b (brought_by L here.above)) is (few_split L below here.above f (subst (AllFew L) here.here (few t)));
    slots = fits.slots;
    names = λ t k thread v of is. (fits.names t thread of).kinds k v is;
  }

  pub sizes_fit : SizesFit L s
  sizes_fit = record {
    load = λ i instance of. (let f = fits.instances i instance of in (f.some, f.within));
    words = λ i instance of. (fits.instances i instance of).words;
    slots = λ i instance of. (fits.instances i instance of).slots;
    blocks = fits.device.count;
    block = λ b cells is. (let f = fits.device.each b cells is in (f.size, f.words));
  }

-- lists are as long as the load's, stacks are small, and objects rise
pub laid_out : (L : LoadRows) (us : List Turn) (s : State) → Laid L s → Kept L us (ledger_of L s) → LaidOut L s
laid_out L us s laid kept = record {
  stacks = laid.stacks;
  threads = laid.threads;
  shadows = laid.shadows;
  heights = heights;
  done = λ t thread of done. no_items (stack s t) (
      let alone = kept.counted.emptied t (subst (λ found. is_done found ≡ true) (sym of) done) in
      let e = entries_length (stack s t) (client_entry s t ∷ []) in
      let one : length (entries_of (stack s t) (client_entry s t ∷ [])) ≡ 1 = ap (λ fs. length fs) alone.1 in
      omega (arith, e, one));
  objects = λ j k x y lt a b. rises_places 0 s.next_object j k s.objects x y laid.objects lt a b;
}
  where
    heights : (t : ℕ) → length (stack s t) ≤ 31
    heights zero = omega arith
    heights (suc t) = elim (cases_lt (length L.clients) (suc t)) [
      | inl lt ↦
          let none : stack s (suc t) ≡ [] = no_stack s.stacks (suc t) (let e = laid.stacks in omega (arith, e, lt)) in
          rw none (omega arith)
      | inr ge ↦
          let few = kept.placed.small (suc t) (omega arith) (omega (arith, ge)) in
          let e = entries_length (stack s (suc t)) (client_entry s (suc t) ∷ []) in
          omega (arith, few, e)
    ]

-- numbers fit: each is below the next one, and cells are within their widths
pub numbers_fit : (L : LoadRows) (us : List Turn) (s : State) → Laid L s → Kept L us (ledger_of L s) → Fitting L s → Few s → NumbersFit L s
numbers_fit L us s laid kept fits few = record {
  cells = λ x is. (fits.objects x.number x is).numbers;
  few = few;
  objects = λ x is. found_below 0 s.next_object x.number s.objects x laid.objects is;
  owners = λ o i root. (
      let seat : seat_of (object_of s o) ≡ Some (Rattle.machine_defs.specs.State.Root (owner.Instance i)) = ap seat_of root.1 ∙ ap (λ p. Some p) root.2 in
      let r = kept.placed.owners o i seat in
      (r.0, (let b = r.1 in omega (arith, b))));
}
