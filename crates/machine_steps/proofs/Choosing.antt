-- What a client comes to next, by what its call meets: it may make its step, waits, or needs its target to be loaded again.
use Rattle.std.proofs.Common.{◌≡◌, ℕ, zero, suc, ◌+◌, ◌<◌, ◌≤◌, ◌==◌, ◌&&◌, ◌||◌, not, Bool, true, false, List, length, map, Option, Some, None, slice_get, refl, sym, ap, ap₂, subst, ◌∙◌, arith, inl, inr, true≢false, if◌then◌else◌, is_some, is_none}
use Rattle.rl_defs.specs.declared.values.Value.{Value}
use Rattle.rl_defs.specs.declared.values.Value.TheVariants as value
use Rattle.rl_defs.specs.declared.load.Command.{Command}
use Rattle.rl_defs.specs.declared.load.Command.TheVariants as command
use Rattle.rl_defs.specs.declared.load.ScriptArg.{ScriptArg}
use Rattle.rl_defs.specs.declared.load.LoadRows.{LoadRows}
use Rattle.rl_defs.specs.declared.tables.Kind.TheVariants as kind
use Rattle.rl_defs.specs.Rows.{row, commands_of}
use Rattle.rl_defs.specs.ValidScripts.{BindsBefore, CommandFits, CallFits, ArgFits}
use Rattle.rl_defs.proofs.Lists.{zip_length}
use Rattle.rl_defs.proofs.ValidFacts.{command_fits, method_small}
use Rattle.machine_defs.specs.declared.values.Arg.{Arg}
use Rattle.machine_defs.specs.declared.frame.Action.TheVariants as action
use Rattle.machine_defs.specs.State.{State, StackFrame, Thread, stack, top, is_live, current}
use Rattle.machine_defs.specs.Wants.{Nothing, Commands, Skips, Finishes, wanted, by_top, by_body, by_command, arg_of, name_held, can_do}
use Rattle.machine_defs.specs.Calling.{Wish, wish, wish_of, client_wish, frame_wish, would_enter, would_reenter, waits, is_enabled, is_undone, refusal, is_taken, is_gone, is_reissuable, restarts_left}
use Rattle.machine_defs.specs.CallRows.{WouldReenter, is_over}
use Rattle.machine_laws.proofs.Acting.{acts_as}
use Rattle.machine_laws.proofs.CallingRows.{unrefused}
use Rattle.machine_laws.proofs.NameKinds.{held_suits}
use Rattle.machine_laws.proofs.Parts.{wish_in, by_thread}
use Rattle.proxies.specs.declared.crossing.Crossing.{Crossing}
use Rattle.proxies.specs.declared.crossing.Crossing.TheVariants as crossing
use Rattle.proxies.specs.declared.reentry.Reentry.{Reentry}
use Rattle.proxies.specs.declared.reentry.Reentry.TheVariants as reentry
use Rattle.proxies.specs.Crossing as cross
use Rattle.proxies.specs.Crossing.{seen_by_proxy, IsCrossing}
use Rattle.proxies.specs.Reentry as again
use Rattle.proxies.specs.Reentry.{IsReentry}
use Rattle.machine_steps.specs.declared.machine.Machine.TheInside.{Inside}
use Rattle.machine_steps.specs.declared.standing.Standing.{Standing}
use Rattle.machine_steps.specs.Kept.{Kept}
use Rattle.machine_steps.specs.Inside.{state_of, IsKept}
use Rattle.machine_steps.specs.Acting.{WouldAct, at_standing}
use Rattle.machine_steps.specs.Calls.{ClientCalls, MayReload, MayIssueAgain}
use Rattle.machine_steps.specs.Returning.{MayUnwind}
use Rattle.machine_steps.specs.Turns.{WaitsFor}
use Rattle.machine_steps.specs.Wishes.{IsDeadTop}
use Rattle.machine_steps.proofs.Acting.{holds}

-- ---- what the proxy sees is what the state has

abbrev seen : Inside → State
seen w = seen_by_proxy w.instances w.stacks.frames w.shadows

module _ (w : Inside) (t : ℕ) where
  pub crossing_same : (x : ℕ) (r : Crossing) → IsCrossing w.load (seen w) t x r → IsCrossing w.load (state_of w) t x r
  crossing_same x (crossing.Enter i) c = record { meets = record { unrefused = c.meets.unrefused; lives = c.meets.lives }; into = c.into; free = c.free }
  crossing_same x (crossing.Refuse why) c = c
  crossing_same x crossing.Reload c = record { unrefused = c.unrefused; dead = c.dead }
  crossing_same x (crossing.Wait h) c = record {
    meets = record { unrefused = c.meets.unrefused; lives = c.meets.lives };
    taken = c.taken;
    holder = record { holds = c.holder.holds; least = c.holder.least };
  }

  pub reentry_same : (f : StackFrame) (r : Reentry) → IsReentry w.load (seen w) t f r → IsReentry w.load (state_of w) t f r
  reentry_same f (reentry.Again i) c = record { meets = record { unended = c.meets.unended; lives = c.meets.lives }; into = c.into; free = c.free }
  reentry_same f reentry.Unwound c = c
  reentry_same f reentry.Reload c = record { unended = c.unended; dead = c.dead }
  reentry_same f (reentry.Wait h) c = record {
    meets = record { unended = c.meets.unended; lives = c.meets.lives };
    taken = c.taken;
    holder = record { holds = c.holder.holds; least = c.holder.least };
  }

-- ---- who waits

-- a restart is left where the target isn't gone for good
left_some : (n : ℕ) (b : Bool) → b ≡ true → (b && (n == 0)) ≡ false → 0 < n
left_some zero true is e = absurd (true≢false e)
left_some zero false is e = absurd (true≢false (sym is))
left_some (suc n) b is e = omega arith

no_more : (b : Bool) → b && false ≡ false
no_more true = refl
no_more false = refl

module _ (L : LoadRows) (s : State) (t : ℕ) where
  pub enabled_when : is_undone (row s.threads t) ≡ true → would_enter L s t (wish L s t) ≡ false → would_reenter L s t (top (stack s t)) ≡ false → is_enabled L s t ≡ true
  enabled_when undone enters reenters = ap₂ (λ a b. a && not b) undone (ap₂ (λ a b. a || b) enters reenters)

  disabled_when : waits L s t ≡ true → is_enabled L s t ≡ false
  disabled_when w = ap (λ b. is_undone (row s.threads t) && not b) w ∙ no_more (is_undone (row s.threads t))

  entering : (x : ℕ) (wished : Wish) → wish L s t ≡ Some wished → wished.target ≡ x
      → would_enter L s t (wish L s t) ≡ ((is_live s (current L s x) && is_none (refusal L s t x)) && is_taken L s t (current L s x))
  entering x wished wants same = ap (would_enter L s t) wants
      ∙ ap (λ n. (is_live s (current L s n) && is_none (refusal L s t n)) && is_taken L s t (current L s n)) same

-- ---- a call

module _ (w : Kept) (t x : ℕ) (undone : is_undone (row w.state.threads t) ≡ true) (wished : Wish) (wants : wish w.load w.state t ≡ Some wished) (target : wished.target ≡ x)
    (stays : would_reenter w.load w.state t (top (stack w.state t)) ≡ false) where
  abbrev goes_in : Bool → Bool → Bool → Bool
  goes_in lives unrefused taken = (lives && unrefused) && taken

  pub call_reloads : cross.NeedsReload w.load w.state t x → (is_enabled w.load w.state t ≡ true) × MayReload w t x
  call_reloads c = (
    enabled_when w.load w.state t undone
        (entering w.load w.state t x wished wants target ∙ ap (λ b. goes_in b (is_none (refusal w.load w.state t x)) (is_taken w.load w.state t (current w.load w.state x))) c.dead) stays,
    record {
      needed = inl (record { wished = wished; wants = wants; target = target; unrefused = c.unrefused });
      dead = c.dead;
      left = left_some (restarts_left w.load w.state x) (not (is_live w.state (current w.load w.state x))) (ap not c.dead) (unrefused w.load w.state t x c.unrefused).stays;
    },
  )

  pub call_waits : (h : ℕ) → cross.WaitsFor w.load w.state t x h → WaitsFor w t h
  call_waits h c = record {
    undone = undone;
    disabled = disabled_when w.load w.state t (ap₂ (λ a b. a || b)
        (entering w.load w.state t x wished wants target ∙ (ap₂ (λ a b. goes_in a b (is_taken w.load w.state t (current w.load w.state x))) c.meets.lives (ap (λ r. is_none r) c.meets.unrefused)
        ∙ c.taken)) stays);
    target = x;
    needed = inl (record { wished = wished; wants = wants; target = target; unrefused = c.meets.unrefused });
    holder = c.holder;
  }

-- the call of a script
pub wished_by_client : {w : Kept} {t x m : ℕ} {args : List Arg} → ClientCalls w t x m args → (wished : Wish) × (wish w.load w.state t ≡ Some wished) × (wished.target ≡ x)
wished_by_client {w} {t} {x} {m} c = (
  client_wish w.load w.state t c.thread x m (map (arg_of c.thread.names) c.given),
  ap (wish_in w.load w.state t) c.of ∙ ap (wish_of w.load w.state t c.thread) c.wants,
  refl,
)

-- the call of a frame
pub wished_by_frame : {w : Kept} {t j x m : ℕ} {args : List Arg} {stand : Standing} → WouldAct w t j (action.Call x m args) stand → (wished : Wish) × (wish w.load w.state t ≡ Some wished) × (wished.target ≡ x)
wished_by_frame {w} {t} {j} {x} {m} {args} {stand} would =
    let acts = acts_as w.load w.state t (action.Call x m args) stand.fuel (at_standing would.frame stand) would.wants in (
      frame_wish w.load w.state t acts.thread x m args stand.fuel (at_standing would.frame stand),
      ap (wish_in w.load w.state t) acts.of ∙ ap (wish_of w.load w.state t acts.thread) would.wants,
      refl,
    )

-- a client without a frame has none that is dead, nor has one whose top frame lives
pub alone_stays : (w : Kept) (t : ℕ) → top (stack w.state t) ≡ None → would_reenter w.load w.state t (top (stack w.state t)) ≡ false
alone_stays w t alone = ap (would_reenter w.load w.state t) alone

pub live_stays : (w : Kept) (t : ℕ) (f : StackFrame) → top (stack w.state t) ≡ Some f → is_live w.state f.instance ≡ true → would_reenter w.load w.state t (top (stack w.state t)) ≡ false
live_stays w t f on_top lives = ap (would_reenter w.load w.state t) on_top
    ∙ ap (λ b. ((not b && is_reissuable w.load f) && is_live w.state (current w.load w.state f.target)) && is_taken w.load w.state t (current w.load w.state f.target)) lives

-- ---- a dead frame

module _ (w : Kept) (t c x : ℕ) (undone : is_undone (row w.state.threads t) ≡ true) (dead : IsDeadTop w t c x) where
  no_wish : wish w.load w.state t ≡ None
  no_wish = go (row w.state.threads t) refl
    where
      go : (found : Option Thread) → row w.state.threads t ≡ found → wish w.load w.state t ≡ None
      go None is = ap (wish_in w.load w.state t) is
      go (Some thread) is = ap (wish_in w.load w.state t) is ∙ ap (wish_of w.load w.state t thread)
          (ap (by_thread w.load w.state t) is ∙ (ap (by_top w.load w.state t thread) dead.on_top
          ∙ ap (λ b. if b then by_body w.load w.state thread.fuel dead.frame dead.frame.body else Nothing) dead.dead))

  not_entering : would_enter w.load w.state t (wish w.load w.state t) ≡ false
  not_entering = ap (would_enter w.load w.state t) no_wish

  abbrev goes_back : Bool → Bool → Bool → Bool → Bool
  goes_back ended again lives taken = ((ended && again) && lives) && taken

  abbrev now_in : ℕ
  now_in = current w.load w.state dead.frame.target

  reentering : would_reenter w.load w.state t (top (stack w.state t)) ≡ goes_back true (is_reissuable w.load dead.frame) (is_live w.state now_in) (is_taken w.load w.state t now_in)
  reentering = ap (would_reenter w.load w.state t) dead.on_top
      ∙ ap (λ b. goes_back (not b) (is_reissuable w.load dead.frame) (is_live w.state now_in) (is_taken w.load w.state t now_in)) dead.dead

  -- a call that isn't over may be issued again, and its shadow isn't gone
  unover : (again gone : Bool) → (not again || gone) ≡ false → (again ≡ true) × (gone ≡ false)
  unover true gone e = (refl, e)
  unover false gone e = absurd (true≢false e)

  in_target : x ≡ dead.frame.target
  in_target = dead.through

  dead_call : Rattle.machine_steps.specs.Calls.IsDeadCall w t c dead.frame
  dead_call = record { on_top = dead.on_top; dead = dead.dead; call = dead.call }

  none_back : (again lives taken : Bool) → taken ≡ false → goes_back true again lives taken ≡ false
  none_back again lives taken is = ap (λ b. (again && lives) && b) is ∙ no_more (again && lives)

  pub dead_again : (i : ℕ) → again.Reenters w.load w.state t dead.frame i → (is_enabled w.load w.state t ≡ true) × MayIssueAgain w t c x i
  dead_again i r = (
    enabled_when w.load w.state t undone not_entering
        (reentering ∙ none_back (is_reissuable w.load dead.frame) (is_live w.state now_in) (is_taken w.load w.state t now_in) (subst (λ j. is_taken w.load w.state t j ≡ false) r.into r.free)),
    record {
      frame = dead.frame;
      of = dead_call;
      through = in_target;
      reissuable = (unover (is_reissuable w.load dead.frame) (is_gone w.load w.state dead.frame.target) r.meets.unended).0;
      into = subst (λ y. i ≡ current w.load w.state y) (sym in_target) r.into;
      lives = subst (λ j. is_live w.state j ≡ true) (sym r.into) r.meets.lives;
    },
  )

  -- a call that is over isn't issued again: it may not be, or the shadow's instance has ended
  over_stays : (again lives gone taken : Bool) → (not again || (not lives && gone)) ≡ true → goes_back true again lives taken ≡ false
  over_stays false lives gone taken e = refl
  over_stays true false gone taken e = refl
  over_stays true true gone taken e = absurd (true≢false (sym e))

  pub dead_unwinds : is_over w.load w.state dead.frame ≡ true → (is_enabled w.load w.state t ≡ true) × MayUnwind w t c
  dead_unwinds over = (
    enabled_when w.load w.state t undone not_entering
        (reentering ∙ over_stays (is_reissuable w.load dead.frame) (is_live w.state now_in) (restarts_left w.load w.state dead.frame.target == 0) (is_taken w.load w.state t now_in) over),
    record { frame = dead.frame; of = dead_call; over = over },
  )

  back_needed : is_reissuable w.load dead.frame ≡ true → WouldReenter w.load w.state t x
  back_needed reissuable = record { frame = dead.frame; on_top = dead.on_top; dead = ap not dead.dead; reissuable = reissuable; target = sym in_target }

  pub dead_reloads : again.NeedsReload w.load w.state dead.frame → (is_enabled w.load w.state t ≡ true) × MayReload w t x
  dead_reloads r =
      let u = unover (is_reissuable w.load dead.frame) (is_gone w.load w.state dead.frame.target) r.unended in (
        enabled_when w.load w.state t undone not_entering
            (reentering ∙ ap (λ b. goes_back true (is_reissuable w.load dead.frame) b (is_taken w.load w.state t now_in)) r.dead ∙ none_lives (is_reissuable w.load dead.frame) (is_taken w.load w.state t now_in)),
        record {
          needed = inr (back_needed u.0);
          dead = subst (λ y. is_live w.state (current w.load w.state y) ≡ false) (sym in_target) r.dead;
          left = subst (λ y. 0 < restarts_left w.load w.state y) (sym in_target)
              (left_some (restarts_left w.load w.state dead.frame.target) (not (is_live w.state now_in)) (ap not r.dead) u.1);
        },
      )
    where
      none_lives : (again taken : Bool) → goes_back true again false taken ≡ false
      none_lives true taken = refl
      none_lives false taken = refl

  pub dead_waits : (h : ℕ) → again.WaitsToReenter w.load w.state t dead.frame h → WaitsFor w t h
  dead_waits h r =
      let u = unover (is_reissuable w.load dead.frame) (is_gone w.load w.state dead.frame.target) r.meets.unended in
      let all : goes_back true (is_reissuable w.load dead.frame) (is_live w.state now_in) (is_taken w.load w.state t now_in) ≡ true =
      ap₂ (λ a b. goes_back true a b (is_taken w.load w.state t now_in)) u.0 r.meets.lives ∙ r.taken in
      record {
        undone = undone;
        disabled = disabled_when w.load w.state t (ap₂ (λ a b. a || b) not_entering (reentering ∙ all));
        target = x;
        needed = inr (back_needed u.0);
        holder = subst (λ y. cross.IsHolder w.state t (current w.load w.state y) h) (sym in_target) r.holder;
      }

-- ---- the names of a command

module _ {w : Inside} (k : IsKept w) (t : ℕ) (thread : Thread) (of : row w.threads t ≡ Some thread) (alone : top (stack (state_of w) t) ≡ None) (next : Command) (wants : wanted w.load (state_of w) t ≡ Commands next) where
  abbrev L : LoadRows
  L = w.load

  abbrev s : State
  s = state_of w

  -- the command is the script's next one, and can be done
  record IsNextCommand : Type 0 where
    here : slice_get (commands_of (row L.clients t)) thread.place ≡ Some next
    can : can_do s thread.names next ≡ true

  is_next : IsNextCommand
  is_next = go (slice_get (commands_of (row L.clients t)) thread.place) refl
    where
      by : wanted L s t ≡ by_command s thread (slice_get (commands_of (row L.clients t)) thread.place)
      by = ap (by_thread L s t) of ∙ ap (by_top L s t thread) alone

      go : (found : Option Command) → slice_get (commands_of (row L.clients t)) thread.place ≡ found → IsNextCommand
      go None is = absurd (let e : Finishes ≡ Commands next = sym (by ∙ ap (by_command s thread) is) ∙ wants in cc)
      go (Some c) is = doable (can_do s thread.names c) refl
        where
          said : wanted L s t ≡ (if can_do s thread.names c then Commands c else Skips (thread.place + 1))
          said = by ∙ ap (by_command s thread) is

          doable : (b : Bool) → can_do s thread.names c ≡ b → IsNextCommand
          doable true can =
              let e : Commands c ≡ Commands next = sym (said ∙ ap (λ b. if b then Commands c else Skips (thread.place + 1)) can) ∙ wants in
              let same : c ≡ next = cc in
              record { here = is ∙ ap (λ x. Some x) same; can = subst (λ x. can_do s thread.names x ≡ true) same can }
          doable false can = absurd (let e : Skips (thread.place + 1) ≡ Commands next = sym (said ∙ ap (λ b. if b then Commands c else Skips (thread.place + 1)) can) ∙ wants in cc)

  fits : CommandFits L t thread.place next
  fits = command_fits L k.valid t thread.place next is_next.here

  -- a name that is bound to an object holds one
  pub object_held : (n : ℕ) → is_some (name_held thread.names n) ≡ true → (ty : ℕ) × BindsBefore L t thread.place n (kind.Own ty) → (o : ℕ) × (name_held thread.names n ≡ Some (value.Obj o))
  object_held n bound binds = go (name_held thread.names n) refl
    where
      go : (v : Option Value) → name_held thread.names n ≡ v → (o : ℕ) × (name_held thread.names n ≡ Some (value.Obj o))
      go None is = absurd (let e : false ≡ true = sym (ap (λ (v : Option Value). is_some v) is) ∙ bound in true≢false (sym e))
      go (Some (value.Obj o)) is = (o, is)
      go (Some (value.Num n')) is = absurd (let e = held_suits L t k.valid s thread ((holds k).fits.names t thread of) n (kind.Own binds.0) (value.Num n') binds.1.binds is in cc)
      go (Some (value.Cap x)) is = absurd (let e = held_suits L t k.valid s thread ((holds k).fits.names t thread of) n (kind.Own binds.0) (value.Cap x) binds.1.binds is in cc)

  one_bound : (a b : Bool) → ((a && true) && b) ≡ true → a ≡ true
  one_bound true b e = refl
  one_bound false b e = absurd (true≢false (sym e))

  pub show_held : (n : ℕ) → next ≡ command.Show n → (o : ℕ) × (name_held thread.names n ≡ Some (value.Obj o))
  show_held n is = object_held n (one_bound (is_some (name_held thread.names n)) true (subst (λ c. can_do s thread.names c ≡ true) is is_next.can)) (subst (CommandFits L t thread.place) is fits)

  pub drop_held : (n : ℕ) → next ≡ command.Drop n → (o : ℕ) × (name_held thread.names n ≡ Some (value.Obj o))
  drop_held n is = object_held n (one_bound (is_some (name_held thread.names n)) true (subst (λ c. can_do s thread.names c ≡ true) is is_next.can)) (subst (CommandFits L t thread.place) is fits)

  pub call_few : (x m : ℕ) (args : List ScriptArg) (names : List ℕ) → next ≡ command.Call x m args names → length args ≤ 8
  call_few x m args names is =
      let call : CallFits L t thread.place x m args names = subst (CommandFits L t thread.place) is fits in
      let few = (method_small L k.valid x m call.method call.here).params in
      let many = zip_length (ArgFits L t thread.place) call.method.params args call.suits in
      omega (arith, few, many)
