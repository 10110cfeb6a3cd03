-- What it tells that a thread wants to do something: who acts, and that it lives.
use Rattle.std.proofs.Common.{◌≡◌, ℕ, zero, suc, true, [], length, Option, Some, None, slice_get, refl, sym, subst, inl, inr}
use Rattle.std.proofs.lemmas.Bool.{cases_Bool}
use Rattle.machine_defs.specs.declared.frame.Action.{Action}
use Rattle.machine_defs.specs.declared.frame.FrameBody.{FrameBody}
use Rattle.machine_defs.specs.declared.frame.FrameBody.TheVariants as body
use Rattle.rl_defs.specs.declared.load.LoadRows.{LoadRows}
use Rattle.rl_defs.specs.declared.load.Command.{Command}
use Rattle.machine_defs.specs.State.{State, StackFrame, Thread, is_live, stack}
use Rattle.rl_defs.specs.Rows.{row}
use Rattle.machine_defs.specs.Wants.{Want, Nothing, Acts, by_command, can_do}
use Rattle.machine_defs.specs.State.{top}
use Rattle.rl_defs.specs.Rows.{commands_of}
use Rattle.machine_defs.specs.Instructions.{Settled, Nowhere, Before, settle}
use Rattle.machine_defs.specs.Seen.{domain_of_instance, seen}
use Rattle.machine_defs.specs.Wants.{wanted, by_top, by_frame, by_body, settled}
use Rattle.machine_defs.specs.Frames.{with_body}
use Rattle.machine_laws.proofs.Stacks.{top_none}
use Rattle.machine_laws.proofs.Parts.{by_thread}

-- a thread that wants an action has a top frame, of a live instance; it stands before the action with another body alone
pub record ActsAs (L : LoadRows) (s : State) (t : ℕ) (act : Action) (fuel : ℕ) (frame : StackFrame) : Type 0 where
  pub thread : Thread
  pub of : row s.threads t ≡ Some thread
  pub f : StackFrame
  pub on_top : top (stack s t) ≡ Some f
  pub lives : is_live s f.instance ≡ true
  pub by : by_body L s thread.fuel f f.body ≡ Acts act fuel frame
  pub same : frame ≡ with_body f frame.body

-- a thread that wants a command has no frame
pub record CommandsAs (L : LoadRows) (s : State) (t : ℕ) (want : Want) : Type 0 where
  pub thread : Thread
  pub of : row s.threads t ≡ Some thread
  pub alone : stack s t ≡ []
  pub by : by_command s thread (slice_get (commands_of (row L.clients t)) thread.place) ≡ want

not_command : (s : State) (thread : Thread) (next : Option Command) (act : Action) (fuel : ℕ) (frame : StackFrame) → by_command s thread next ≡ Acts act fuel frame → ⊥
not_command s thread None act fuel frame e = cc
not_command s thread (Some c) act fuel frame e = elim (cases_Bool (can_do s thread.names c)) [
  | inl b ↦ let e' = rw b at e in cc
  | inr b ↦ let e' = rw b at e in cc
]

pub body_same : (L : LoadRows) (s : State) (fuel : ℕ) (f : StackFrame) (b : FrameBody Action) → f.body ≡ b → (act : Action) (rest : ℕ) (frame : StackFrame) → by_body L s fuel f b ≡ Acts act rest frame → frame ≡ with_body f frame.body
body_same L s fuel f (body.Code at regs) is act rest frame e = go (settle (domain_of_instance L s f.instance) (seen L s f.instance) (length s.objects) fuel (record { at = at; regs = regs })) e
  where
    go : (found : Settled) → settled f found ≡ Acts act rest frame → frame ≡ with_body f frame.body
    go Nowhere e' = absurd cc
    go (Before act' fuel' stand) e' = let same : frame ≡ with_body f (body.Code stand.at stand.regs) = cc in rw same refl
body_same L s zero f (body.Native held kept) is act rest frame e = let same : frame ≡ f = cc in rw same refl
body_same L s (suc fuel) f (body.Native held kept) is act rest frame e = let same : frame ≡ f = cc in rw same refl

pub acts_as : (L : LoadRows) (s : State) (t : ℕ) (act : Action) (fuel : ℕ) (frame : StackFrame) → wanted L s t ≡ Acts act fuel frame → ActsAs L s t act fuel frame
acts_as L s t act fuel frame wants = by_row (row s.threads t) refl
  where
    by_row : (thread : Option Thread) → row s.threads t ≡ thread → ActsAs L s t act fuel frame
    by_row None of = absurd (let e : by_thread L s t None ≡ Acts act fuel frame = rw of at wants in cc)
    by_row (Some thread) of = by_stack (top (stack s t)) refl
      where
        known : by_top L s t thread (top (stack s t)) ≡ Acts act fuel frame
        known = let e : by_thread L s t (Some thread) ≡ Acts act fuel frame = rw of at wants in e

        by_stack : (f : Option StackFrame) → top (stack s t) ≡ f → ActsAs L s t act fuel frame
        by_stack None on_top = absurd (not_command s thread (slice_get (commands_of (row L.clients t)) thread.place) act fuel frame (let e : by_top L s t thread None ≡ Acts act fuel frame = rw on_top at known in e))
        by_stack (Some f) on_top =
            let e : by_frame L s thread.fuel f ≡ Acts act fuel frame = rw on_top at known in
            elim (cases_Bool (is_live s f.instance)) [
              | inl lives ↦
                  let by : by_body L s thread.fuel f f.body ≡ Acts act fuel frame = rw lives at e in
                  record { thread = thread; of = of; f = f; on_top = on_top; lives = lives; by = by; same = body_same L s thread.fuel f f.body refl act fuel frame by }
              | inr dead ↦ absurd (let e' = rw dead at e in cc)
            ]

-- what no frame wants
abbrev pub OfClient : Want → Type 0
OfClient Nothing = ⊥
OfClient (Acts act fuel frame) = ⊥
OfClient _ = Unit {0}

frame_acts : (L : LoadRows) (s : State) (fuel : ℕ) (f : StackFrame) (b : FrameBody Action) → OfClient (by_body L s fuel f b) → ⊥
frame_acts L s fuel f (body.Code at regs) no' = go (settle (domain_of_instance L s f.instance) (seen L s f.instance) (length s.objects) fuel (record { at = at; regs = regs })) no'
  where
    go : (found : Settled) → OfClient (settled f found) → ⊥
    go Nowhere n = n
    go (Before act' fuel' stand) n = n
frame_acts L s zero f (body.Native held kept) no' = no'
frame_acts L s (suc fuel) f (body.Native held kept) no' = no'

pub commands_as : (L : LoadRows) (s : State) (t : ℕ) (want : Want) → OfClient want → wanted L s t ≡ want → CommandsAs L s t want
commands_as L s t want client wants = by_row (row s.threads t) refl
  where
    by_row : (thread : Option Thread) → row s.threads t ≡ thread → CommandsAs L s t want
    by_row None of = absurd (let e : by_thread L s t None ≡ want = rw of at wants in subst OfClient (sym e) client)
    by_row (Some thread) of = by_stack (top (stack s t)) refl
      where
        known : by_top L s t thread (top (stack s t)) ≡ want
        known = let e : by_thread L s t (Some thread) ≡ want = rw of at wants in e

        by_stack : (f : Option StackFrame) → top (stack s t) ≡ f → CommandsAs L s t want
        by_stack None on_top = record { thread = thread; of = of; alone = top_none (stack s t) on_top; by = let e : by_top L s t thread None ≡ want = rw on_top at known in e }
        by_stack (Some f) on_top =
            let e : by_frame L s thread.fuel f ≡ want = rw on_top at known in
            elim (cases_Bool (is_live s f.instance)) [
              | inl lives ↦ let by : by_body L s thread.fuel f f.body ≡ want = rw lives at e in absurd (frame_acts L s thread.fuel f f.body (subst OfClient (sym by) client))
              | inr dead ↦ absurd (let e' : Nothing ≡ want = rw dead at e in subst OfClient (sym e') client)
            ]
