-- An enabled thread has a step.
use Rattle.std.proofs.Common.{◌≡◌, ℕ, zero, suc, ◌+◌, ◌-◌, ◌<◌, ◌≤◌, ◌==◌, Bool, true, false, not, ◌&&◌, nat_lt, List, [], ◌∷◌, length, map, Option, Some, None, slice_get, is_some, refl, ap, ap₂, sym, subst, ◌∙◌, arith, inl, inr, true≢false, if◌then◌else◌}
use Rattle.std.proofs.lemmas.Bool.{cases_Bool, cases_eq, and_parts}
use Rattle.rl_defs.specs.declared.values.Value.{Value}
use Rattle.rl_defs.specs.declared.values.Value.TheVariants as value
use Rattle.rl_defs.specs.declared.tables.Kind.TheVariants as kind
use Rattle.rl_defs.specs.declared.load.LoadRows.{LoadRows}
use Rattle.rl_defs.specs.declared.load.Command.{Command}
use Rattle.rl_defs.specs.declared.load.Command.TheVariants as command
use Rattle.machine_defs.specs.declared.values.Owner.TheVariants as owner
use Rattle.machine_defs.specs.declared.values.RpcCode.{RpcCode}
use Rattle.machine_defs.specs.declared.values.RpcCode.TheVariants as code
use Rattle.machine_defs.specs.declared.values.Cause.TheVariants as cause
use Rattle.machine_defs.specs.declared.entry.Entry.{Entry}
use Rattle.machine_defs.specs.declared.entry.Entry.TheVariants as entry
use Rattle.machine_defs.specs.declared.frame.Action.{Action}
use Rattle.machine_defs.specs.declared.frame.Action.TheVariants as action
use Rattle.machine_defs.specs.declared.frame.Answer.TheVariants as answer
use Rattle.machine_defs.specs.declared.frame.FrameBody.{FrameBody}
use Rattle.machine_defs.specs.declared.frame.FrameBody.TheVariants as body
use Rattle.rl_defs.specs.DomainValue.{Domain}
use Rattle.rl_defs.specs.declared.code.Instr.{Instr}
use Rattle.rl_defs.specs.CodeKinds.{Kinds, kinds_at}
use Rattle.rl_defs.specs.Registers.{Registers}
use Rattle.rl_defs.specs.Rows.{row, commands_of}
use Rattle.rl_defs.specs.ValidScripts.{BindsBefore}
use Rattle.rl_defs.proofs.ValidFacts.{command_fits}
use Rattle.machine_defs.specs.Sight.{Sight}
use Rattle.machine_defs.specs.CodeLaws.{ComesTo}
use Rattle.machine_defs.specs.State.{State, StackFrame, Thread, Shadow, Hung, Root, stack, top, is_live, current, with_thread}
use Rattle.machine_defs.specs.Arguments.{moved_of}
use Rattle.machine_defs.specs.Loans.{object_of, freed, sweep}
use Rattle.machine_defs.specs.Objects.{cells_in, with_new, without, with_cells_of, overwritten, hung_in, placed, shown}
use Rattle.machine_defs.specs.Seen.{types_of, domain_of_instance, seen, in_slot, with_word, with_slot}
use Rattle.machine_defs.specs.NativeFits.{CanChoose}
use Rattle.machine_defs.specs.Wants.{arg_of, by_top, Nothing, Acts, Commands, Skips, wanted, by_body, by_command, can_do, unless_full, settled, name_held}
use Rattle.machine_defs.specs.Frames.{below_top, popped, with_top, with_body}
use Rattle.machine_defs.specs.Calling.{Wish, wish, wish_of, client_wish, frame_wish, refusal, restarts_left, is_undone, is_reissuable, with_fuel, is_enabled}
use Rattle.machine_defs.specs.CallRows.{Needs, IsDeadCall, numbered, call_entered, reloaded, after_return, command_done, is_over}
use Rattle.machine_defs.specs.Seen.{ended}
use Rattle.machine_defs.specs.ObjectRows.{IsSlot, block, instead, with_block, without_name}
use Rattle.machine_defs.specs.Entries.{thread_of}
use Rattle.machine_defs.specs.Steps.{Turn, Step, Row}
use Rattle.machine_defs.proofs.CodeSafe.{settles}
use Rattle.machine_laws.specs.LedgerOf.{ledger_of}
use Rattle.machine_laws.specs.LedgerSound.{Owned}
use Rattle.machine_laws.specs.Shape.{Laid}
use Rattle.machine_laws.specs.Fitting.{BodyFits, CodeRuns, CallFits, CallsFit, StackFits, Fitting}
use Rattle.machine_laws.proofs.Instances.{loads_kept}
use Rattle.machine_laws.proofs.Rows.{row_set_same, row_within}
use Rattle.machine_laws.proofs.Stacks.{top_splits}
use Rattle.machine_laws.proofs.StackFits.{calls_back, fits_split}
use Rattle.machine_laws.proofs.Wishes.{wish_as}
use Rattle.machine_laws.proofs.CodeDoing.{keeps_rules}
use Rattle.machine_laws.proofs.Sights.{sees}
use Rattle.machine_laws.proofs.OwnFits.{FitsAct, act_fits}
use Rattle.machine_laws.proofs.SlotNames.{IsNamed, act_named}
use Rattle.machine_laws.proofs.NameKinds.{held_suits}
use Rattle.machine_laws.proofs.CallingRows.{unrefused}
use Rattle.machine_laws.proofs.CallSteps.{called, not_waiting}
use Rattle.machine_laws.proofs.StepRows.{ClientFacts}
use Rattle.machine_laws.proofs.Parts.{wish_in, by_thread}
use Rattle.machine_laws.proofs.HasReply.{has_reply, has_beginning, has_done}
use Rattle.rl_defs.specs.Valid.{Valid, AreValidTables}

-- an entry of the thread whose row holds
abbrev pub HasRow : LoadRows → State → ℕ → Type 0
HasRow L s t = (e : Entry) × (made : State) × (thread_of e ≡ t) × Row L s e made

module _ (L : LoadRows) (s : State) (t : ℕ) (thread : Thread) (of : row s.threads t ≡ Some thread) where
  -- a shadow that is needed, whose instance has ended and that has a restart left, is loaded again
  reload_row : (x : ℕ) → is_live s (current L s x) ≡ false → 0 < restarts_left L s x → Needs L s t x → HasRow L s t
  reload_row x dead some needs = go (row s.shadows (x - length L.loads)) refl
    where
      go : (found : Option Shadow) → row s.shadows (x - length L.loads) ≡ found → HasRow L s t
      go None is = absurd (let e : 0 < 0 = rw is at some in omega (arith, e))
      go (Some shadow) is =
          let some' : 0 < shadow.left = rw is at some in
          let dead' : is_live s shadow.current ≡ false = rw is at dead in (
            entry.Reload t x (length s.instances + 1) (shadow.left - 1),
            reloaded L x (length s.instances + 1) (shadow.left - 1) s,
            refl,
            record { shadow = shadow; of = is; dead = dead'; restarts = omega (arith, some'); needed = needs; number = refl; becomes = refl },
          )

  -- what an action of the top frame needs besides
  abbrev Ready : ℕ → Action → Type 0
  Ready i (action.Take k) = (o : ℕ) × (in_slot s i k ≡ Some o) × ((name : List ℕ) × IsSlot L s i k name)
  Ready i (action.Put k o) = (in_slot s i k ≡ None) × ((name : List ℕ) × IsSlot L s i k name)
  Ready i (action.Hang o k v) = hung_in s o k ≡ None
  Ready i (action.Unhang o k) = (v : ℕ) × (hung_in s o k ≡ Some v)
  Ready i act = Unit {0}

  module _ (wish_row : (w : Wish) → wish L s t ≡ Some w → HasRow L s t) where
    acts_row : (act : Action) (fuel : ℕ) (frame : StackFrame) → wanted L s t ≡ Acts act fuel frame → Ready frame.instance act → HasRow L s t
    acts_row (action.Trap c) fuel frame wants ready = (
      entry.Trap t frame.instance c,
      ended frame.instance (with_thread s t (with_fuel fuel thread)),
      refl,
      record { thread = thread; fuel = fuel; frame = frame; of = of; wants = wants; inside = refl; becomes = refl },
    )
    acts_row (action.New ty) fuel frame wants ready =
        let d = has_done L s t thread (action.New ty) fuel frame (answer.Made s.next_object) (with_new L ty (owner.Instance frame.instance) []) of wants (λ m. refl) in
        (entry.New t (owner.Instance frame.instance) s.next_object ty [], d.0, refl, record { number = refl; makes = inr (record { inside = frame.instance; mine = refl; blank = refl; does = d.1 }) })
    acts_row (action.Drop o) fuel frame wants ready =
        let d = has_done L s t thread (action.Drop o) fuel frame answer.Went (without (o ∷ [])) of wants (λ m. refl) in
        (entry.Drop t o, d.0, refl, inr (frame.instance, d.1))
    acts_row (action.Set o at values) fuel frame wants ready =
        let d = has_done L s t thread (action.Set o at values) fuel frame answer.Went (with_cells_of o (overwritten at values)) of wants (λ m. refl) in
        (entry.Set t o at values, d.0, refl, (frame.instance, d.1))
    acts_row (action.Wput at v) fuel frame wants ready =
        let d = has_done L s t thread (action.Wput at v) fuel frame answer.Went (with_word frame.instance at v) of wants (λ m. loads_kept m frame.instance _ (λ x. refl)) in
        (entry.Wput t frame.instance at v, d.0, refl, d.1)
    acts_row (action.Take k) fuel frame wants ready =
        let d = has_done L s t thread (action.Take k) fuel frame (answer.Made ready.0) (with_slot frame.instance k None) of wants (λ m. loads_kept m frame.instance _ (λ x. refl)) in
        (entry.Take t frame.instance ready.2.0 ready.0, d.0, refl, record { place = k; named = ready.2.1; full = ready.1; does = d.1 })
    acts_row (action.Put k o) fuel frame wants ready =
        let d = has_done L s t thread (action.Put k o) fuel frame answer.Went (with_slot frame.instance k (Some o)) of wants (λ m. loads_kept m frame.instance _ (λ x. refl)) in
        (entry.Put t frame.instance ready.1.0 o, d.0, refl, record { place = k; named = ready.1.1; empty = ready.0; does = d.1 })
    acts_row (action.DevGet o b) fuel frame wants ready =
        let d = has_done L s t thread (action.DevGet o b) fuel frame answer.Went (with_cells_of o (instead (block s b))) of wants (λ m. refl) in
        (entry.DevGet t o b, d.0, refl, (frame.instance, d.1))
    acts_row (action.DevPut b o) fuel frame wants ready =
        let d = has_done L s t thread (action.DevPut b o) fuel frame answer.Went (with_block b (cells_in (object_of s o))) of wants (λ m. refl) in
        (entry.DevPut t b o, d.0, refl, (frame.instance, d.1))
    acts_row (action.Hang o k v) fuel frame wants ready =
        let d = has_done L s t thread (action.Hang o k v) fuel frame answer.Went (placed v (Hung o k)) of wants (λ m. refl) in
        (entry.Hang t o k v, d.0, refl, record { inside = frame.instance; empty = ready; does = d.1 })
    acts_row (action.Unhang o k) fuel frame wants ready =
        let d = has_done L s t thread (action.Unhang o k) fuel frame (answer.Made ready.0) (placed ready.0 (Root (owner.Instance frame.instance))) of wants (λ m. refl) in
        (entry.Unhang t o k ready.0, d.0, refl, record { inside = frame.instance; full = ready.1; does = d.1 })
    acts_row (action.Call x m args) fuel frame wants ready = wish_row (frame_wish L s t thread x m args fuel frame) (ap (wish_in L s t) of ∙ ap (wish_of L s t thread) wants)
    acts_row (action.Ret results) fuel frame wants ready =
        let within = row_within s.threads t thread of in
        let reply = has_reply L (after_return t fuel thread results s) t (answer.Back results) (with_fuel (fuel - 1) thread) (row_set_same s.threads t (with_fuel (fuel - 1) thread) within.0 within.1) in
        (entry.Ret t frame.call results, reply.0, refl, record { thread = thread; fuel = fuel; frame = frame; of = of; wants = wants; call = refl; replies = reply.1 })

-- what a native body chooses needs nothing besides
native_ready : (L : LoadRows) (s : State) (t : ℕ) (thread : Thread) (of : row s.threads t ≡ Some thread) (f : StackFrame) (held' : List ℕ) (act : Action) → CanChoose L s f held' act → (live : ℕ) → Ready L s t thread of f.instance (unless_full live act)
native_ready L s t thread of f held' (action.New ty) can live = elim (cases_Bool (nat_lt live 65536)) [
  | inl room ↦ rw room tt
  | inr full ↦ rw full tt
]
native_ready L s t thread of f held' (action.Take k) can live = absurd can
native_ready L s t thread of f held' (action.Put k o) can live = absurd can
native_ready L s t thread of f held' (action.Hang o k v) can live = absurd can
native_ready L s t thread of f held' (action.Unhang o k) can live = absurd can
native_ready L s t thread of f held' act can live = tt

-- what code would do has what it needs
code_ready : (L : LoadRows) (s : State) (t : ℕ) (thread : Thread) (of : row s.threads t ≡ Some thread) (f : StackFrame) (n : ℕ) (kinds : Kinds) (i : Instr) (act : Action) → FitsAct (types_of L s) (domain_of_instance L s f.instance) n (seen L s f.instance) (length s.objects) kinds i act → IsNamed (domain_of_instance L s f.instance) act → Ready L s t thread of f.instance act
code_ready L s t thread of f n kinds i (action.Take k) fits named = (fits.object, fits.there, named)
code_ready L s t thread of f n kinds i (action.Put k o) fits named = (fits.0, named)
code_ready L s t thread of f n kinds i (action.Hang o k v) fits named = fits.0
code_ready L s t thread of f n kinds i (action.Unhang o k) fits named = (fits.object, fits.there)
code_ready L s t thread of f n kinds i act fits named = tt

module _ (L : LoadRows) (s : State) (plans : Valid L) (tables : AreValidTables L.tables) (laid : Laid L s) (owned : Owned L (ledger_of L s)) (fits : Fitting L s) (clients : ClientFacts L s) (t : ℕ) (ready : is_undone (row s.threads t) ≡ true) (thread : Thread) (of : row s.threads t ≡ Some thread) where
  within : (0 < t) × (t ≤ length s.threads)
  within = row_within s.threads t thread of

  -- whoever wishes to call is refused, enters, or needs its target to be loaded again
  wish_row : (w : Wish) → wish L s t ≡ Some w → HasRow L s t
  wish_row w wants = go (refusal L s t w.target) refl
    where
      charged : (paid : Thread) × (row w.charged.threads t ≡ Some paid)
      charged = elim (wish_as L s t w wants) [
        | inl c ↦ (_, ap (λ (v : Wish). row v.charged.threads t) c.is ∙ row_set_same s.threads t _ within.0 within.1)
        | inr f ↦ (_, ap (λ (v : Wish). row v.charged.threads t) f.is ∙ row_set_same s.threads t (with_fuel (f.fuel - 1) f.thread) within.0 within.1)
      ]

      go : (refused : Option RpcCode) → refusal L s t w.target ≡ refused → HasRow L s t
      go (Some why) is =
          let reply = has_reply L (numbered s.next_call (without (moved_of w.args) w.charged)) t (answer.Failed why) charged.0 charged.1 in
          (entry.Refuse t s.next_call why w.target w.method w.args, reply.0, refl, record { charged = w.charged; wants = wants; refused = is; number = refl; replies = reply.1 })
      go None is = elim (cases_Bool (is_live s (current L s w.target))) [
        | inl lives ↦
            let k = called L s t plans tables laid owned fits clients.calls ready w wants in
            let begins = has_beginning L plans s.next_call w.target (current L s w.target) w.method w.args k.method k.target k.row in
            let made : State = call_entered t s.next_call (current L s w.target) w.args begins.0 w.charged in (
              entry.Call t s.next_call w.target (current L s w.target) w.method w.args,
              made,
              refl,
              record { charged = w.charged; frame = begins.0; wants = wants; unrefused = is; into = refl; lives = lives; number = refl; begins = begins.1 made; becomes = refl },
            )
        | inr dead ↦ reload_row L s t thread of w.target dead (left_some (restarts_left L s w.target) (not (is_live s (current L s w.target))) (ap not dead) (unrefused L s t w.target is).stays) (inl (record { wished = w; wants = wants; target = refl; unrefused = is }))
      ]
        where
          left_some : (n : ℕ) (b : Bool) → b ≡ true → (b && (n == 0)) ≡ false → 0 < n
          left_some zero true is' e = absurd (true≢false e)
          left_some zero false is' e = absurd (true≢false (sym is'))
          left_some (suc n) b is' e = omega arith

  -- the frame of an ended instance is unwound, begun again, or needs its shadow to be loaded again
  dead_row : (f : StackFrame) → top (stack s t) ≡ Some f → is_live s f.instance ≡ false → HasRow L s t
  dead_row f on_top dead = elim (cases_Bool (is_reissuable L f)) [
    | inl again ↦ elim (cases_Bool (is_live s (current L s f.target))) [
      | inl lives ↦
          let begins = has_beginning L plans f.call f.target (current L s f.target) f.method f.args call.method call.target call.row in
          let made : State = with_top t begins.0 s in (
            entry.Again t f.call f.target (current L s f.target),
            made,
            refl,
            record { dead = f; frame = begins.0; of = is_dead_call; through = refl; reissuable = again; into = refl; lives = lives; begins = begins.1 made; becomes = refl },
          )
      | inr gone ↦ elim (cases_eq (restarts_left L s f.target) 0) [
        | inl none ↦ unwound (rw (again, gone, none) refl)
        | inr some ↦ reload_row L s t thread of f.target gone (omega (arith, some)) (inr (record { frame = f; on_top = on_top; dead = ap not dead; reissuable = again; target = refl }))
      ]
    ]
    | inr never ↦ unwound (rw never refl)
  ]
    where
      is_dead_call : IsDeadCall s t f.call f
      is_dead_call = record { on_top = on_top; dead = ap not dead; call = refl }

      call : CallFits L s f
      call = (calls_back L s (below_top (stack s t)) (f ∷ []) (subst (CallsFit L s) (top_splits (stack s t) f on_top) (fits.calls t))).0

      unwound : is_over L s f ≡ true → HasRow L s t
      unwound over =
          let reply = has_reply L (popped t s) t (answer.Failed code.Unwound) thread of in
          (entry.Unwound t f.call, reply.0, refl, record { frame = f; of = is_dead_call; over = over; replies = reply.1 })

  -- a frame of a live instance makes its action
  live_row : (f : StackFrame) → top (stack s t) ≡ Some f → is_live s f.instance ≡ true → HasRow L s t
  live_row f on_top lives = go f.body refl
    where
      wants : wanted L s t ≡ by_body L s thread.fuel f f.body
      wants = ap (by_thread L s t) of ∙ (ap (by_top L s t thread) on_top ∙ ap (λ b. if b then by_body L s thread.fuel f f.body else Nothing) lives)

      body_fits : BodyFits L s f [] f.body
      body_fits = (fits_split L s (below_top (stack s t)) [] f (subst (StackFits L s) (top_splits (stack s t) f on_top) (fits.bodies t))).0 lives

      native : (held' : List ℕ) (act : Action) → f.body ≡ body.Native held' act → (fuel : ℕ) → thread.fuel ≡ fuel → HasRow L s t
      native held' act is zero none = acts_row L s t thread of wish_row (action.Trap cause.Fuel) 0 f (wants ∙ ap₂ (λ n b. by_body L s n f b) none is) tt
      native held' act is (suc fuel) some =
          let can = (subst (BodyFits L s f []) is body_fits).1 in
          acts_row L s t thread of wish_row (unless_full (length s.objects) act) (suc fuel) f (wants ∙ ap₂ (λ n b. by_body L s n f b) some is) (native_ready L s t thread of f held' act can (length s.objects))

      code' : (at : ℕ) (regs : Registers) → f.body ≡ body.Code at regs → HasRow L s t
      code' at regs is =
          let d : Domain = domain_of_instance L s f.instance in
          let sight : Sight = seen L s f.instance in
          let keeps = keeps_rules L s f.instance plans fits lives in
          let sees' = sees L s f.instance plans laid fits lives in
          let runs : CodeRuns L s f at regs = (subst (BodyFits L s f []) is body_fits).1 in
          let c : ComesTo (types_of L s) d sight (length s.objects) thread.fuel (record { at = at; regs = regs }) = settles d (types_of L s) sight (length s.objects) thread.fuel (record { at = at; regs = regs }) keeps sees' runs.stands in
          let frame : StackFrame = with_body f (body.Code c.stand.at c.stand.regs) in
          let wants' : wanted L s t ≡ Acts c.act c.rest frame = wants ∙ (ap (by_body L s thread.fuel f) is ∙ ap (settled f) c.settles) in
          acts_row L s t thread of wish_row c.act c.rest frame wants' (elim c.acts [
            | inl out ↦ subst (Ready L s t thread of f.instance) (sym out.1) tt
            | inr would ↦ code_ready L s t thread of f c.stand.at (kinds_at d c.stand.at) c.instr c.act
                (act_fits d (types_of L s) sight (length s.objects) c.instr c.stand c.act keeps sees' c.fits c.at would)
                (act_named d (types_of L s) sight (length s.objects) c.instr c.stand c.act keeps c.fits c.at would)
          ])

      go : (b : FrameBody Action) → f.body ≡ b → HasRow L s t
      go (body.Code at regs) is = code' at regs is
      go (body.Native held' act) is = native held' act is thread.fuel refl

  -- a client does its command
  module _ (next : Command) (here : slice_get (commands_of (row L.clients t)) thread.place ≡ Some next) (can : can_do s thread.names next ≡ true) (wants : wanted L s t ≡ Commands next) where
    -- a name that is bound to an object holds one
    object_held : (k : ℕ) → (is_some (name_held thread.names k) && true) ≡ true → (ty : ℕ) × BindsBefore L t thread.place k (kind.Own ty) → (o : ℕ) × (name_held thread.names k ≡ Some (value.Obj o))
    object_held k bound binds = go (name_held thread.names k) refl
      where
        go : (v : Option Value) → name_held thread.names k ≡ v → (o : ℕ) × (name_held thread.names k ≡ Some (value.Obj o))
        go None is = absurd (let e : false ≡ true = rw is at bound in true≢false (sym e))
        go (Some (value.Obj o)) is = (o, is)
        go (Some (value.Num n)) is = absurd (let e = held_suits L t plans s thread (fits.names t thread of) k (kind.Own binds.0) (value.Num n) binds.1.binds is in cc)
        go (Some (value.Cap x)) is = absurd (let e = held_suits L t plans s thread (fits.names t thread of) k (kind.Own binds.0) (value.Cap x) binds.1.binds is in cc)

    command_row : (c : Command) → c ≡ next → HasRow L s t
    command_row (command.Let name ty values) is =
        let made : State = with_new L ty (owner.Client t) values (with_thread s t (command_done L t (value.Obj s.next_object ∷ []) thread)) in
        (entry.New t (owner.Client t) s.next_object ty values, made, refl, record { number = refl; makes = inl (record { next = command.Let name ty values; gives = (refl, refl); mine = refl; does = record { thread = thread; of = of; wants = wants ∙ ap Commands (sym is); becomes = refl } }) })
    command_row (command.Text name ty bytes) is =
        let made : State = with_new L ty (owner.Client t) bytes (with_thread s t (command_done L t (value.Obj s.next_object ∷ []) thread)) in
        (entry.New t (owner.Client t) s.next_object ty bytes, made, refl, record { number = refl; makes = inl (record { next = command.Text name ty bytes; gives = (refl, refl); mine = refl; does = record { thread = thread; of = of; wants = wants ∙ ap Commands (sym is); becomes = refl } }) })
    command_row (command.Call x m args names) is =
        wish_row (client_wish L s t thread x m (map (arg_of thread.names) args)) (ap (wish_in L s t) of ∙ ap (wish_of L s t thread) (wants ∙ ap Commands (sym is)))
    command_row (command.Show k) is =
        let parts = and_parts (is_some (name_held thread.names k) && true) true (subst (λ c. can_do s thread.names c ≡ true) (sym is) can) in
        let o = object_held k parts.0 (command_fits L plans t thread.place (command.Show k) (here ∙ ap (λ c. Some c) (sym is))) in (
          entry.Show t o.0 (shown s o.0),
          with_thread s t (command_done L t [] thread),
          refl,
          record { thread = thread; name = k; of = of; object = o.1; lists = refl; does = record { thread = thread; of = of; wants = wants ∙ ap Commands (sym is); becomes = refl } },
        )
    command_row (command.Drop k) is =
        let parts = and_parts (is_some (name_held thread.names k) && true) true (subst (λ c. can_do s thread.names c ≡ true) (sym is) can) in
        let o = object_held k parts.0 (command_fits L plans t thread.place (command.Drop k) (here ∙ ap (λ c. Some c) (sym is))) in (
          entry.Drop t o.0,
          without (o.0 ∷ []) (with_thread s t (command_done L t [] (without_name k thread))),
          refl,
          inl (record { thread = thread; name = k; of = of; wants = wants ∙ ap Commands (sym is); object = o.1; becomes = refl }),
        )
    command_row (command.Kill x) is = (
      entry.Kill t (current L s x),
      ended (current L s x) (with_thread s t (command_done L t [] thread)),
      refl,
      record { thread = thread; target = x; of = of; wants = wants ∙ ap Commands (sym is); inside = refl; becomes = refl },
    )

  client_row : top (stack s t) ≡ None → HasRow L s t
  client_row alone = go (slice_get (commands_of (row L.clients t)) thread.place) refl
    where
      wants : wanted L s t ≡ by_command s thread (slice_get (commands_of (row L.clients t)) thread.place)
      wants = ap (by_thread L s t) of ∙ ap (by_top L s t thread) alone

      go : (next : Option Command) → slice_get (commands_of (row L.clients t)) thread.place ≡ next → HasRow L s t
      go None is = (entry.Done t, with_thread s t (record thread { done = true }), refl, record { thread = thread; of = of; wants = wants ∙ ap (by_command s thread) is; becomes = refl })
      go (Some c) is = elim (cases_Bool (can_do s thread.names c)) [
        | inl can ↦ command_row c is can (wants ∙ (ap (by_command s thread) is ∙ ap (λ b. if b then Commands c else Skips (thread.place + 1)) can)) c refl
        | inr can't ↦ (
          entry.Skip t (thread.place + 1),
          with_thread s t (command_done L t [] thread),
          refl,
          record { thread = thread; of = of; wants = wants ∙ (ap (by_command s thread) is ∙ ap (λ b. if b then Commands c else Skips (thread.place + 1)) can't); becomes = refl },
        )
      ]

  thread_row : HasRow L s t
  thread_row = go (top (stack s t)) refl
    where
      go : (f : Option StackFrame) → top (stack s t) ≡ f → HasRow L s t
      go None alone = client_row alone
      go (Some f) on_top = elim (cases_Bool (is_live s f.instance)) [
        | inl lives ↦ live_row f on_top lives
        | inr dead ↦ dead_row f on_top dead
      ]

-- an enabled thread has a step
pub has_step : (L : LoadRows) (s : State) → Valid L → AreValidTables L.tables → Laid L s → Owned L (ledger_of L s) → Fitting L s → ClientFacts L s → (t : ℕ) → is_enabled L s t ≡ true → (turn : Turn) × (z : State) × Step L s turn z × (thread_of turn.entry ≡ t)
has_step L s plans tables laid owned fits clients t enabled = go (row s.threads t) refl
  where
    ready : is_undone (row s.threads t) ≡ true
    ready = (not_waiting L s t enabled).0

    stepped : HasRow L s t → (turn : Turn) × (z : State) × Step L s turn z × (thread_of turn.entry ≡ t)
    stepped r = (
      record { entry = r.0; frees = freed r.1 },
      sweep r.1,
      record { made = r.1; enabled = subst (λ u. is_enabled L s u ≡ true) (sym r.2) enabled; makes = r.3; frees = refl; swept = refl },
      r.2,
    )

    go : (found : Option Thread) → row s.threads t ≡ found → (turn : Turn) × (z : State) × Step L s turn z × (thread_of turn.entry ≡ t)
    go None is = absurd (let e : false ≡ true = rw is at ready in true≢false (sym e))
    go (Some thread) is = stepped (thread_row L s plans tables laid owned fits clients t ready thread is)
