-- The top frame of a client is one of code that fits what it sees, and what it settles on is what its client wants.
use Rattle.std.proofs.Common.{◌≡◌, ℕ, zero, suc, ◌<◌, ◌≤◌, Bool, true, [], length, Option, Some, None, slice_get, refl, sym, ap, subst, ◌∙◌, arith, inl, inr, true≢false, if◌then◌else◌}
use Rattle.std.proofs.lemmas.Option.{slice_get_cases}
use Rattle.std.specs.Option.{option_map_or}
use Rattle.rl_defs.specs.declared.tables.StructRow.{StructRow}
use Rattle.rl_defs.specs.declared.load.LoadRows.{LoadRows}
use Rattle.rl_defs.specs.TableSizes.{IsStructSmall, AreTablesSmall}
use Rattle.rl_defs.specs.CodeNames.{cells_of, flat_of}
use Rattle.rl_defs.specs.Rows.{row}
use Rattle.rl_defs.specs.Registers.{Registers}
use Rattle.rl_defs.proofs.TableSizes.{all_at}
use Rattle.machine_defs.specs.declared.frame.Action.{Action}
use Rattle.machine_defs.specs.declared.frame.FrameBody.{FrameBody}
use Rattle.machine_defs.specs.declared.frame.FrameBody.TheVariants as body
use Rattle.machine_defs.specs.CodeFits.{FitsStand}
use Rattle.machine_defs.specs.Instructions.{Before, settle}
use Rattle.machine_defs.specs.Loans.{object_of}
use Rattle.machine_defs.specs.State.{StackFrame, Thread, top, stack, is_live}
use Rattle.machine_defs.specs.Seen.{types_of, seen}
use Rattle.machine_defs.specs.Frames.{below_top}
use Rattle.machine_defs.specs.Wants.{Want, Nothing, by_top, by_frame, by_body, settled}
use Rattle.machine_laws.specs.Fitting.{BodyFits, StackFits, CodeRuns}
use Rattle.machine_laws.proofs.Stacks.{top_splits}
use Rattle.machine_laws.proofs.StackFits.{fits_split}
use Rattle.machine_laws.proofs.Sights.{sees}
use Rattle.code_machine.specs.Fitting.{standing, Fitting}
use Rattle.rref_heap.specs.HeapValue.{object_in}
use Rattle.rref_heap.specs.Kept.{IsHeapOf}
use Rattle.rref_heap.proofs.Objects.{object_found}
use Rattle.trampolines.specs.Words as words
use Rattle.trampolines.proofs.Agreeing.{same_top, same_frames}
use Rattle.machine_steps.specs.declared.machine.Machine.TheInside.{Inside}
use Rattle.machine_steps.specs.declared.standing.Standing.{Standing}
use Rattle.machine_steps.specs.Inside.{state_of, kept, IsKept}
use Rattle.machine_steps.specs.Acting.{WouldAct, domain_in}
use Rattle.machine_steps.specs.Sights.{IsAtRest, seen_by_frame}
use Rattle.machine_steps.specs.Wishes.{IsLiveTop}
use Rattle.machine_steps.proofs.Acting.{holds}

-- ---- clients

module _ {w : Inside} (k : IsKept w) (t : ℕ) (client : (0 < t) × (t ≤ length w.load.clients)) where
  pub stack_there : (0 < t) × (t ≤ length w.stacks.frames)
  stack_there = (client.0, (let same = (holds k).laid.stacks in omega (arith, same, client.1)))

  pub thread_there : row w.threads t ≡ None → ⊥
  thread_there none = go t none client.0 (let same = (holds k).laid.threads in omega (arith, same, client.1))
    where
      go : (n : ℕ) → row w.threads n ≡ None → 0 < n → n ≤ length w.threads → ⊥
      go zero none pos le = omega (arith, pos)
      go (suc n) none pos le = elim (slice_get_cases w.threads n).1 [
        | inl some ↦ (let e = sym none ∙ some.2 in cc)
        | inr past ↦ omega (arith, past.0, le)
      ]

-- the top of a stack, as the stacks tell it
pub top_told : (w : Inside) (t : ℕ) → words.top (words.stack_of w.stacks.frames t) ≡ top (stack (state_of w) t)
top_told w t = same_top (words.stack_of w.stacks.frames t) ∙ ap top (same_frames (row w.stacks.frames t))

-- ---- the heap between steps

few_cells : (L : LoadRows) → AreTablesSmall L.tables → (ty : ℕ) → length (cells_of L.tables ty) ≤ 512
few_cells L small ty = go (slice_get L.tables.structs ty) refl
  where
    go : (x : Option StructRow) → slice_get L.tables.structs ty ≡ x → length (flat_of x) ≤ 512
    go None is = omega arith
    go (Some s) is = all_at IsStructSmall L.tables.structs ty s small.structs is

pub at_rest : {w : Inside} → IsKept w → IsHeapOf w.heap → IsAtRest w.heap.rows
at_rest {w} k heap o r here =
    let found : object_of (state_of w) o ≡ Some r.object = object_found w.heap.rows heap.numbered o ∙ ap object_in here in
    let count = ((holds k).fits.objects o r.object found).cells in
    record { stays = (k.agrees o r here).stays; few = (let few = few_cells w.load k.valid.tables.small r.object.ty in omega (arith, count, few)) }

-- ---- the top frame

module _ {w : Inside} (k : IsKept w) (t i : ℕ) (on : IsLiveTop (kept w) t i) where
  body_fits : BodyFits w.load (state_of w) on.frame [] on.frame.body
  body_fits =
      let split = top_splits (stack (state_of w) t) on.frame on.on_top in
      let all = subst (StackFits w.load (state_of w)) split ((holds k).fits.bodies t) in
      (fits_split w.load (state_of w) (below_top (stack (state_of w) t)) [] on.frame all).0 (subst (λ j. is_live (state_of w) j ≡ true) on.inside on.lives)

  pub top_is_code : (f : StackFrame) → top (stack (state_of w) t) ≡ Some f → words.is_code f.body ≡ true
  top_is_code f is = (let same : on.frame ≡ f = some_same (sym on.on_top ∙ is) in subst (λ g. words.is_code g.body ≡ true) same (go on.frame.body body_fits))
    where
      some_same : {x y : StackFrame} → ◌≡◌ {A = Option StackFrame} (Some x) (Some y) → x ≡ y
      some_same {x} {y} e = cc

      go : (b : FrameBody Action) → BodyFits w.load (state_of w) on.frame [] b → words.is_code b ≡ true
      go (body.Code at regs) fits = refl
      go (body.Native held act) fits = absurd (true≢false (sym fits.0 ∙ k.code _))

  module _ (at : ℕ) (regs : Registers) (f : StackFrame) (is_top : top (stack (state_of w) t) ≡ Some f) (is : f.body ≡ body.Code at regs) where
    same_frame : on.frame ≡ f
    same_frame = (let e = sym on.on_top ∙ is_top in cc)

    pub top_fits : Fitting (domain_in w.load w.instances i) (seen w.load (seen_by_frame w.instances w.heap.rows) i) (standing at regs)
    top_fits =
        let b : on.frame.body ≡ body.Code at regs = ap (λ g. g.body) same_frame ∙ is in
        let runs : CodeRuns w.load (state_of w) on.frame at regs = (subst (BodyFits w.load (state_of w) on.frame []) b body_fits).1 in
        record {
          types = types_of w.load (state_of w);
          stand = subst (λ j. FitsStand (types_of w.load (state_of w)) (domain_in w.load w.instances j) (standing at regs)) (sym on.inside) runs.stands;
          sees = sees w.load (state_of w) i k.valid (holds k).laid (holds k).fits on.lives;
        }

    pub top_would : (thread : Thread) → row w.threads t ≡ Some thread → (act : Action) (stand : Standing)
        → settle (domain_in w.load w.instances i) (seen w.load (seen_by_frame w.instances w.heap.rows) i) (length (state_of w).objects) thread.fuel (standing at regs) ≡ Before act stand.fuel (standing stand.line stand.registers)
        → WouldAct (kept w) t i act stand
    top_would thread of act stand settles = record {
      frame = f;
      on_top = is_top;
      inside = on.inside ∙ ap (λ g. g.instance) same_frame;
      wants = ap (λ x. by_thread x) of ∙ (ap (by_top w.load (state_of w) t thread) is_top ∙ (alive ∙ (ap (by_body w.load (state_of w) thread.fuel f) is ∙ ap (settled f) (settles' ∙ refl))));
    }
      where
        by_thread : Option Thread → Want
        by_thread x = option_map_or (λ thread. by_top w.load (state_of w) t thread (top (stack (state_of w) t))) x Nothing

        here : i ≡ f.instance
        here = on.inside ∙ ap (λ g. g.instance) same_frame

        alive : by_frame w.load (state_of w) thread.fuel f ≡ by_body w.load (state_of w) thread.fuel f f.body
        alive = ap (λ (b : Bool). if b then by_body w.load (state_of w) thread.fuel f f.body else Nothing) (subst (λ j. is_live (state_of w) j ≡ true) here on.lives)

        settles' : settle (domain_in w.load w.instances f.instance) (seen w.load (state_of w) f.instance) (length (state_of w).objects) thread.fuel (standing at regs) ≡ Before act stand.fuel (standing stand.line stand.registers)
        settles' = subst (λ j. settle (domain_in w.load w.instances j) (seen w.load (state_of w) j) (length (state_of w).objects) thread.fuel (standing at regs) ≡ Before act stand.fuel (standing stand.line stand.registers)) here settles
