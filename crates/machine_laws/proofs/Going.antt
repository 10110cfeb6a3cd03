-- What each row makes of its client: the frames of its stack, and what its script's names hold.
use Rattle.std.proofs.Common.{◌≡◌, ℕ, ◌-◌, true, List, [], ◌∷◌, ◌++◌, map, Some, slice_get, refl, ap, sym, subst, ◌∙◌, arith, inl, inr}
use Rattle.machine_defs.specs.declared.values.RpcCode.{RpcCode}
use Rattle.machine_defs.specs.declared.frame.Action.{Action}
use Rattle.machine_defs.specs.declared.frame.Action.TheVariants as action
use Rattle.machine_defs.specs.declared.frame.Answer.{Answer}
use Rattle.machine_defs.specs.declared.frame.Answer.TheVariants as answer
use Rattle.rl_defs.specs.declared.load.LoadRows.{LoadRows}
use Rattle.rl_defs.specs.declared.load.Command.{Command}
use Rattle.rl_defs.specs.declared.load.Command.TheVariants as command
use Rattle.rl_defs.specs.Registers.{Typing}
use Rattle.machine_defs.specs.State.{State, StackFrame, Thread, stack, with_thread}
use Rattle.rl_defs.specs.Rows.{row}
use Rattle.rl_defs.specs.Rows.{commands_of}
use Rattle.machine_defs.specs.Wants.{arg_of}
use Rattle.machine_defs.specs.Calling.{Wish, unless_moved, is_undone}
use Rattle.machine_defs.specs.Arguments.{moved_of}
use Rattle.machine_defs.specs.Frames.{after_command}
use Rattle.machine_defs.specs.Frames.{Replies, below_top, with_top, waiting}
use Rattle.machine_defs.specs.Calling.{wish, with_fuel}
use Rattle.machine_defs.specs.CallRows.{command_done}
use Rattle.machine_defs.specs.ObjectRows.{Does, Commanded}
use Rattle.machine_laws.specs.Shape.{Laid}
use Rattle.machine_laws.specs.AtCall.{IsCallOf, AtCall}
use Rattle.machine_laws.proofs.Stacks.{top_pushed}
use Rattle.machine_laws.proofs.Acting.{acts_as}
use Rattle.machine_laws.proofs.Wishes.{ClientWish, FrameWish, wish_as}
use Rattle.machine_laws.proofs.FrameRows.{doing, actor, actor_after}
use Rattle.machine_laws.proofs.NameKinds.{commanding}
use Rattle.machine_laws.proofs.Turning.{Turned, turned_start, turned_thread, turned_alike, turned_top, RepliedAs, ToClient, ToFrame, ToDead, replied_as}
use Rattle.machine_laws.proofs.AtCalls.{SameLowest, lowest_self, lowest_then, lowest_top, lowest_pushed, stands_at}
use Rattle.machine_laws.proofs.Renaming.{Renamed, renamed_same, renamed_then, renamed_done, renamed_moved}

-- The client's frames and thread after a row. It stands at the call of the lowest frame, and its names hold what they did or what suits.
pub record Goes (L : LoadRows) (s z : State) (t : ℕ) (types : Typing) : Type 0 where
  pub old : Thread
  pub of : row s.threads t ≡ Some old
  pub frames : List StackFrame
  pub new : Thread
  pub turned : Turned s z t frames new
  pub stands : (f : StackFrame) (above : List StackFrame) → frames ≡ f ∷ above → IsCallOf (slice_get (commands_of (row L.clients t)) new.place) f.target f.method
  pub renamed : Renamed L types t old new

-- a caller that has paid: its frames, and those with the frame of its call above them
pub record Paid (L : LoadRows) (s : State) (t : ℕ) (types : Typing) (w : Wish) : Type 0 where
  pub old : Thread
  pub of : row s.threads t ≡ Some old
  pub frames : List StackFrame
  pub new : Thread
  pub turned : Turned s w.charged t frames new
  pub renamed : Renamed L types t old new
  pub place : new.place ≡ old.place
  pub lowest : SameLowest (stack s t) frames
  pub pushes : (g : StackFrame) → g.target ≡ w.target → g.method ≡ w.method → (f : StackFrame) (above : List StackFrame) → frames ++ g ∷ [] ≡ f ∷ above → IsCallOf (slice_get (commands_of (row L.clients t)) new.place) f.target f.method

-- a command that gives nothing
pub renamed_command : (L : LoadRows) (types : Typing) (t : ℕ) (thread : Thread) → Renamed L types t thread (command_done L t [] thread)
renamed_command L types t thread =
    let paid : Thread = with_fuel (L.fuel - 1) thread in
    renamed_then L types t thread paid (command_done L t [] thread) (renamed_same L types t thread paid refl (omega arith)) (renamed_done L types t paid)

module _ (L : LoadRows) (s : State) (laid : Laid L s) (at : (u : ℕ) → AtCall L s u) (t : ℕ) (types : Typing) where
  -- where the client has no frame
  pub goes_alone : (z : State) (old new : Thread) → row s.threads t ≡ Some old → stack s t ≡ [] → Turned s z t (stack s t) new → Renamed L types t old new → Goes L s z t types
  goes_alone z old new of alone turned renamed = record {
    old = old;
    of = of;
    frames = stack s t;
    new = new;
    turned = turned;
    stands = λ f above is. absurd (let e : [] ≡ f ∷ above = sym alone ∙ is in cc);
    renamed = renamed;
  }

  -- where its stack stays, and its script's place
  pub goes_still : (z : State) (old new : Thread) → row s.threads t ≡ Some old → Turned s z t (stack s t) new → new.place ≡ old.place → new.names ≡ old.names → Goes L s z t types
  goes_still z old new of turned place names = record {
    old = old;
    of = of;
    frames = stack s t;
    new = new;
    turned = turned;
    stands = stands_at L s t new.place old (stack s t) (at t) of place (lowest_self (stack s t));
    renamed = renamed_same L types t old new names (omega (arith, place));
  }

  -- where its top frame acts
  pub goes_does : {i : ℕ} {act : Action} {a : Answer} {z : State} (change : State → State) (d : Does L s t i act a change z) → is_undone (row s.threads t) ≡ true → ((m : State) → (change m).stacks ≡ m.stacks) → ((m : State) → (change m).threads ≡ m.threads) → Goes L s z t types
  goes_does {z = z} change d ready stacks threads =
      let new : Thread = with_fuel (d.fuel - 1) d.thread in
      let frames : List StackFrame = below_top (stack s t) ++ d.after ∷ [] in
      let mid : State = with_top t d.after (with_thread s t new) in
      let same = actor_after laid ready d in
      let lowest = lowest_top (stack s t) (actor laid ready d) d.after (doing laid ready d).on_top (ap (λ (g : StackFrame). g.target) same) (ap (λ (g : StackFrame). g.method) same) in
      let turned = turned_top s (with_thread s t new) t (stack s t) d.after new (turned_thread s s t (stack s t) d.thread new (turned_start L s t d.thread laid d.of)) in
      record {
        old = d.thread;
        of = d.of;
        frames = frames;
        new = new;
        turned = subst (λ y. Turned s y t frames new) (sym d.becomes) (turned_alike s mid (change mid) t frames new (stacks mid) (threads mid) turned);
        stands = stands_at L s t new.place d.thread frames (at t) d.of refl lowest;
        renamed = renamed_same L types t d.thread new refl (omega arith);
      }

  -- where its script does a command
  pub goes_command : {next : Command} {results : List _} {z : State} (change : State → State) (d : Commanded L s t next results change z) → ((m : State) → (change m).stacks ≡ m.stacks) → ((m : State) → (change m).threads ≡ m.threads) → Renamed L types t d.thread (command_done L t results d.thread) → Goes L s z t types
  goes_command {next = next} {results = results} {z = z} change d stacks threads renamed =
      let new : Thread = command_done L t results d.thread in
      let mid : State = with_thread s t new in
      let turned = turned_alike s mid (change mid) t (stack s t) new (stacks mid) (threads mid) (turned_thread s s t (stack s t) d.thread new (turned_start L s t d.thread laid d.of)) in
      goes_alone z d.thread new d.of (commanding L s t d.thread next d.of d.wants).alone (subst (λ y. Turned s y t (stack s t) new) (sym d.becomes) turned) renamed

  -- where a call of it fails
  pub goes_failed : (m z : State) (old thread : Thread) (frames : List StackFrame) (why : RpcCode) → row s.threads t ≡ Some old → Turned s m t frames thread → Renamed L types t old thread → thread.place ≡ old.place → SameLowest (stack s t) frames → Replies L m t (answer.Failed why) z → Goes L s z t types
  goes_failed m z old thread frames why of turned renamed place lowest replies = go (replied_as L s m z t (answer.Failed why) frames thread turned replies)
    where
      go : RepliedAs L s z t (answer.Failed why) frames thread → Goes L s z t types
      go (ToClient empty turned') = record {
        old = old;
        of = of;
        frames = [];
        new = after_command L t thread [];
        turned = turned';
        stands = λ f above is. absurd cc;
        renamed = renamed_then L types t old thread (after_command L t thread []) renamed (renamed_done L types t thread);
      }
      go (ToFrame f next on_top same turned') = record {
        old = old;
        of = of;
        frames = below_top frames ++ next ∷ [];
        new = thread;
        turned = turned';
        stands = stands_at L s t thread.place old (below_top frames ++ next ∷ []) (at t) of place (lowest_then (stack s t) frames (below_top frames ++ next ∷ []) lowest (lowest_top frames f next on_top (ap (λ (g : StackFrame). g.target) same) (ap (λ (g : StackFrame). g.method) same)));
        renamed = renamed;
      }
      go (ToDead turned') = record {
        old = old;
        of = of;
        frames = frames;
        new = thread;
        turned = turned';
        stands = stands_at L s t thread.place old frames (at t) of place lowest;
        renamed = renamed;
      }

  -- a client that calls
  client_paid : (w : Wish) → ClientWish L s t w → Paid L s t types w
  client_paid w c =
      let moved : List ℕ = moved_of (map (arg_of c.thread.names) c.given) in
      let new : Thread = record c.thread { fuel = L.fuel - 1; names = map (unless_moved moved) c.thread.names } in
      let charged_is : w.charged ≡ with_thread s t new = ap (λ (v : Wish). v.charged) c.is in
      let does = commanding L s t c.thread (command.Call w.target w.method c.given c.names) c.of c.wants in
      record {
        old = c.thread;
        of = c.of;
        frames = stack s t;
        new = new;
        turned = subst (λ y. Turned s y t (stack s t) new) (sym charged_is) (turned_thread s s t (stack s t) c.thread new (turned_start L s t c.thread laid c.of));
        renamed = renamed_moved L types t (L.fuel - 1) moved c.thread;
        place = refl;
        lowest = lowest_self (stack s t);
        pushes = λ g target method f above is.
            let only : g ∷ [] ≡ f ∷ above = ap (λ fs. fs ++ g ∷ []) (sym does.alone) ∙ is in
            let same : g ≡ f = cc in (
              c.given,
              c.names,
              does.here ∙ ap (λ x. Some (command.Call x w.method c.given c.names)) (sym target ∙ ap (λ (h : StackFrame). h.target) same) ∙ ap (λ m. Some (command.Call f.target m c.given c.names)) (sym method ∙ ap (λ (h : StackFrame). h.method) same),
            );
      }

  -- a frame that calls
  frame_paid : (w : Wish) → FrameWish L s t w → Paid L s t types w
  frame_paid w c =
      let acts = acts_as L s t (action.Call w.target w.method w.args) c.fuel c.frame c.wants in
      let waits : StackFrame = waiting L s (moved_of w.args) c.frame in
      let new : Thread = with_fuel (c.fuel - 1) c.thread in
      let frames : List StackFrame = below_top (stack s t) ++ waits ∷ [] in
      let charged_is : w.charged ≡ with_top t waits (with_thread s t new) = ap (λ (v : Wish). v.charged) c.is in
      let lowest = lowest_top (stack s t) acts.f waits acts.on_top (ap (λ (g : StackFrame). g.target) acts.same) (ap (λ (g : StackFrame). g.method) acts.same) in
      record {
        old = c.thread;
        of = c.of;
        frames = frames;
        new = new;
        turned = subst (λ y. Turned s y t frames new) (sym charged_is) (turned_top s (with_thread s t new) t (stack s t) waits new (turned_thread s s t (stack s t) c.thread new (turned_start L s t c.thread laid c.of)));
        renamed = renamed_same L types t c.thread new refl (omega arith);
        place = refl;
        lowest = lowest;
        pushes = λ g target method. stands_at L s t new.place c.thread (frames ++ g ∷ []) (at t) c.of refl (lowest_then (stack s t) frames (frames ++ g ∷ []) lowest (lowest_pushed frames waits g (top_pushed (below_top (stack s t)) waits)));
      }

  pub paid : (w : Wish) → wish L s t ≡ Some w → Paid L s t types w
  paid w wants = elim (wish_as L s t w wants) [ inl c ↦ client_paid w c | inr c ↦ frame_paid w c ]
