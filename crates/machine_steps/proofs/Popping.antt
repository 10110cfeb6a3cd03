-- A frame that ends is popped: who is on top then, and what is known of the client.
use Rattle.std.proofs.Common.{◌≡◌, ℕ, ◌+◌, ◌-◌, ◌<◌, ◌≤◌, ◌^◌, List, [], ◌∷◌, length, slice_set, Option, Some, None, refl, sym, ap, subst, ◌∙◌, arith}
use Rattle.std.proofs.lemmas.List.{length-set}
use Rattle.rl_defs.specs.declared.load.LoadRows.{LoadRows}
use Rattle.rl_defs.specs.declared.load.Command.{Command}
use Rattle.rl_defs.specs.declared.load.Command.TheVariants as command
use Rattle.rl_defs.specs.declared.tables.MethodRow.{MethodRow}
use Rattle.rl_defs.specs.Domains.{method_of}
use Rattle.rl_defs.specs.Rows.{row, commands_of}
use Rattle.rl_defs.specs.Valid.{Valid}
use Rattle.rl_defs.proofs.Lists.{in_list}
use Rattle.rl_defs.proofs.ValidFacts.{script_at}
use Rattle.std.specs.Prelude.{slice_get}
use Rattle.machine_defs.specs.declared.frame.Answer.{Answer}
use Rattle.machine_defs.specs.State.{StackFrame, Thread, stack, top, frames_of}
use Rattle.machine_defs.specs.Seen.{types_of}
use Rattle.machine_defs.specs.Frames.{below_top, popped, acting}
use Rattle.machine_laws.proofs.Parts.{owner_acting}
use Rattle.machine_laws.proofs.Rows.{row_set_same}
use Rattle.machine_laws.proofs.Tops.{client_stack, client_within}
use Rattle.machine_laws.proofs.WaitingAnswers.{IsReply, ReplySuits}
use Rattle.rref_heap.specs.HeapValue.{HeapValue, MayOwn}
use Rattle.trampolines.specs.Words as words
use Rattle.trampolines.proofs.Agreeing.{same_top, same_frames}
use Rattle.machine_steps.specs.declared.machine.Machine.TheInside.{Inside}
use Rattle.machine_steps.specs.Inside.{state_of, IsKept}
use Rattle.machine_steps.specs.Known.{Known}
use Rattle.machine_steps.specs.Replying.{actor_in, MayBeTold}
use Rattle.machine_steps.proofs.Acting.{holds}
use Rattle.machine_steps.proofs.Told.{below_same, next_split, next_awaits}

-- a client's command is one of at most 1,000
pub place_small : (L : LoadRows) → Valid L → (t p : ℕ) (c : Command) → slice_get (commands_of (row L.clients t)) p ≡ Some c → p + 1 < 2 ^ 32
place_small L valid t p c is = omega (arith, in_list (commands_of (row L.clients t)) p c is, (script_at L valid t p c is).few)

module _ {w : Inside} (k : IsKept w) (t : ℕ) (thread : Thread) (of : row w.threads t ≡ Some thread) where
  pub client : (0 < t) × (t ≤ length w.stacks.frames)
  client = client_stack w.load (state_of w) t thread (holds k).laid of

  -- while the client has frames, its script stands at a call
  pub calling_place : (f : StackFrame) → top (stack (state_of w) t) ≡ Some f → (x : Thread) → row w.threads t ≡ Some x → x.place + 1 < 2 ^ 32
  calling_place f on_top x is = go (stack (state_of w) t) refl on_top
    where
      go : (fs : List StackFrame) → stack (state_of w) t ≡ fs → top fs ≡ Some f → x.place + 1 < 2 ^ 32
      go [] none e = absurd cc
      go (g ∷ above) some e =
          let calls = ((holds k).at t).calls g above x some is in
          place_small w.load k.valid t x.place (command.Call g.target g.method calls.0 calls.1) calls.2

  -- behind the pop
  module _ (frames : List (List StackFrame)) (is : frames ≡ words.with_stack_of w.stacks.frames t (words.below_top (words.stack_of w.stacks.frames t))) where
    pub popped_is : frames ≡ slice_set w.stacks.frames (t - 1) (below_top (stack (state_of w) t))
    popped_is = is ∙ ap (slice_set w.stacks.frames (t - 1)) (below_same (state_of w) t)

    pub popped_client : (0 < t) × (t ≤ length frames)
    popped_client = (client.0, omega (arith, client.1, ap length popped_is ∙ length-set w.stacks.frames (t - 1) (below_top (stack (state_of w) t))))

    pub popped_stack : frames_of (row frames t) ≡ below_top (stack (state_of w) t)
    popped_stack = ap (λ fs. frames_of (row fs t)) popped_is ∙ ap frames_of (row_set_same w.stacks.frames t (below_top (stack (state_of w) t)) client.0 client.1)

    pub popped_top : words.top (words.stack_of frames t) ≡ top (below_top (stack (state_of w) t))
    popped_top = same_top (words.stack_of frames t) ∙ (ap top (same_frames (row frames t)) ∙ ap top popped_stack)

    -- who acts then
    pub actor_is : actor_in frames t ≡ acting (popped t (state_of w)) t
    actor_is =
        ap (owner_acting t) (same_top (words.stack_of frames t) ∙ ap top (same_frames (row frames t)))
        ∙ ap (λ fs. owner_acting t (top (frames_of (row fs t)))) popped_is

    -- and who called may get the answer
    pub may_be_told : (f : StackFrame) → top (stack (state_of w) t) ≡ Some f → (a : Answer) → IsReply a → (method : MethodRow) → method_of w.load f.target f.method ≡ Some method
        → ReplySuits (types_of w.load (state_of w)) method.results a → (g : StackFrame) → words.top (words.stack_of frames t) ≡ Some g → MayBeTold w.load w.instances a g
    may_be_told f on_top a reply method called suits g there = next_awaits k t f on_top a reply method called suits g (sym popped_top ∙ there)

-- ---- who acts then may own objects

module _ (known : Known) {w : Inside} (k : IsKept w) (t : ℕ) (thread : Thread) (of : row w.threads t ≡ Some thread) (f : StackFrame) (on_top : top (stack (state_of w) t) ≡ Some f) where
  next_opened : (g : StackFrame) → top (below_top (stack (state_of w) t)) ≡ Some g → g.instance ≤ length w.instances
  next_opened g is =
      ((known.sound w.load w.log.entries (state_of w) k.valid k.run).frames.opened t (below_top (below_top (stack (state_of w) t))) g
      (record { above = f ∷ []; here = next_split k t f on_top g is })).1

  pub actor_owns : (heap : HeapValue) → heap.clients ≡ w.heap.clients → heap.instances ≡ w.heap.instances → MayOwn heap (acting (popped t (state_of w)) t)
  actor_owns heap clients instances = subst (λ fs. MayOwn heap (owner_acting t (top fs))) (sym (popped_stack k t thread of (slice_set w.stacks.frames (t - 1) (below_top (stack (state_of w) t))) (ap (slice_set w.stacks.frames (t - 1)) (sym (below_same (state_of w) t))))) (go (top (below_top (stack (state_of w) t))) refl)
    where
      go : (found : Option StackFrame) → top (below_top (stack (state_of w) t)) ≡ found → MayOwn heap (owner_acting t found)
      go None is = omega (arith, clients, k.rooms.clients, (client_within w.load (state_of w) t thread (holds k).laid of).1)
      go (Some g) is = omega (arith, instances, k.rooms.owners, next_opened g is)
