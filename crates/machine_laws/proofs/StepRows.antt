-- Each row of the machine, from a state in which everything fits, is a row of the ledger; and each step is a step of the ledger.
use Rattle.std.proofs.Common.{◌≡◌, ℕ, ◌<◌, ◌==◌, Bool, true, ◌⊎◌, List, [], ◌∷◌, length, find, Option, Some, None, slice_get, is_some, refl, ap, sym, subst, ◌∙◌, arith, inl, inr}
use Rattle.std.proofs.lemmas.Bool.{cases_Bool, eq-eqb}
use Rattle.std.proofs.lemmas.Option.{slice_get_within, slice_get-get_or}
use Rattle.rl_defs.specs.declared.values.Value.{Value}
use Rattle.rl_defs.specs.declared.values.Value.TheVariants as value
use Rattle.machine_defs.specs.declared.values.Owner.{Owner}
use Rattle.rl_defs.specs.declared.tables.Kind.TheVariants as kind
use Rattle.rl_defs.specs.declared.code.RegKind.TheVariants as held
use Rattle.machine_defs.specs.declared.entry.Entry.{Entry}
use Rattle.machine_defs.specs.declared.entry.Entry.TheVariants as entry
use Rattle.machine_defs.specs.declared.frame.Action.{Action}
use Rattle.machine_defs.specs.declared.frame.Action.TheVariants as action
use Rattle.machine_defs.specs.declared.frame.Answer.TheVariants as answer
use Rattle.machine_defs.specs.declared.frame.FrameBody.{FrameBody}
use Rattle.machine_defs.specs.declared.frame.FrameBody.TheVariants as body
use Rattle.rl_defs.specs.declared.load.LoadRows.{LoadRows}
use Rattle.rl_defs.specs.CodeNames.{cells_of}
use Rattle.rl_defs.specs.CodeKinds.{hung_at}
use Rattle.machine_defs.specs.State.{State, Object, Hung, is_live}
use Rattle.rl_defs.specs.Rows.{row}
use Rattle.machine_defs.specs.Loans.{count}
use Rattle.machine_defs.specs.Arguments.{has}
use Rattle.machine_defs.specs.Calling.{is_undone}
use Rattle.machine_defs.specs.State.{instance_load}
use Rattle.machine_defs.specs.Entries.{thread_of}
use Rattle.machine_defs.specs.Objects.{hangs_in, hung_in, placed}
use Rattle.rl_defs.specs.Rows.{domain_of_load}
use Rattle.machine_defs.specs.Seen.{words, slots, in_slot, with_word}
use Rattle.machine_defs.specs.Seen.{types_of}
use Rattle.rl_defs.specs.Rows.{is_target}
use Rattle.machine_defs.specs.Calling.{is_enabled}
use Rattle.machine_defs.specs.CallRows.{Kills, command_done}
use Rattle.machine_defs.specs.ObjectRows.{Does, ClientMakes, FrameMakes, ClientDrops, without_name, Shows, Hangs, IsSlot}
use Rattle.machine_defs.specs.Steps.{Row as RowOf, Turn, Step}
use Rattle.machine_defs.specs.Arguments.{objects_in}
use Rattle.rl_defs.proofs.ValidFacts.{domain_tables, one_deep}
use Rattle.machine_laws.specs.LedgerOf.{names_held, ledger_of}
use Rattle.machine_laws.specs.LedgerSound.{Owned}
use Rattle.machine_laws.specs.LedgerRows.{Exchanged, Row, LedgerStep}
use Rattle.machine_laws.specs.Shape.{Laid}
use Rattle.machine_laws.specs.Fitting.{Fitting}
use Rattle.machine_laws.proofs.Instances.{live_there}
use Rattle.machine_laws.proofs.Seats.{seats}
use Rattle.machine_laws.proofs.Sweeps.{sweep_same, freed_same}
use Rattle.machine_laws.proofs.Retyping.{kinds_by_struct}
use Rattle.machine_laws.proofs.FrameRows.{actor, actor_inside, actor_lives}
use Rattle.machine_laws.proofs.ClientRows.{trap_row, kill_row, client_new_row, client_drop_row, show_row, skip_row, done_row}
use Rattle.machine_laws.proofs.OwnDoing.{acting_code, native_went}
use Rattle.machine_laws.proofs.Present.{seated}
use Rattle.machine_laws.proofs.FrameSteps.{loads_same, drops, sets, puts_word, puts, gets_block, puts_block, makes, takes, hangs, unhangs}
use Rattle.machine_laws.proofs.Instances.{loads_kept}
use Rattle.machine_laws.proofs.CallSteps.{ClientsCall, calls, not_waiting}
use Rattle.machine_laws.proofs.ReturnSteps.{ClientGets}
use Rattle.machine_laws.proofs.EndSteps.{returns, unwinds, issues_again, reloads}
use Rattle.machine_laws.proofs.RefuseSteps.{refuses}
use Rattle.machine_laws.proofs.LaidRows.{laid_row}
use Rattle.machine_laws.proofs.Parts.{load_of_instance, number_of_object, slots_in, content}
use Rattle.rl_defs.specs.Valid.{Valid, AreValidTables}

-- What clients' scripts make sure of, in a state: their calls, what they get, make, drop, show and end.
pub record ClientFacts (L : LoadRows) (s : State) : Type 0 where
  pub calls : ClientsCall L s
  pub gets : ClientGets L s
  pub makes : (t : ℕ) (w : Owner) (o ty : ℕ) (values : List ℕ) (z : State) → o ≡ s.next_object → (m : ClientMakes L s t w o ty values z) → Exchanged (names_held (Some m.does.thread)) [] (o ∷ []) (names_held (Some (command_done L t (value.Obj o ∷ []) m.does.thread)))
  pub drops : (t o : ℕ) (z : State) → (d : ClientDrops L s t o z) → Exchanged (names_held (Some d.thread)) (o ∷ []) [] (names_held (Some (command_done L t [] (without_name d.name d.thread))))
  pub shows : (t o : ℕ) (values : List Value) (z : State) → (d : Shows L s t o values z) → (0 < count o (names_held (Some d.thread))) × ((v : ℕ) → has (objects_in values) v ≡ true → (k : ℕ) × (seats s v ≡ Some (Hung o k)))
  pub kills : (t i : ℕ) (z : State) → (k : Kills L s t i z) → is_target L k.target ≡ true

-- an object that is found hangs where it is found to hang
hangs_true : (o k : ℕ) → hangs_in o k (Hung o k) ≡ true
hangs_true o k = rw (eq-eqb o o refl, eq-eqb k k refl) refl

find_not : (test : Object → Bool) (q : ℕ) (xs : List Object) (x : Object) → find test xs ≡ None → find (λ y. y.number == q) xs ≡ Some x → test x ≡ true → ⊥
find_not test q [] x none is yes' = cc
find_not test q (y ∷ xs) x none is yes' = elim (cases_Bool (test y)) [
  | inl t ↦ let e : Some y ≡ None = rw t at none in cc
  | inr n ↦
      let none' : find test xs ≡ None = rw n at none in
      elim (cases_Bool (y.number == q)) [
        | inl here ↦ let e : Some y ≡ Some x = rw here at is in let same : y ≡ x = cc in let yes'' : test y ≡ true = ap test same ∙ yes' in cc
        | inr there ↦ find_not test q xs x none' (rw there at is) yes'
      ]
]

module _ (L : LoadRows) (s : State) (plans : Valid L) (tables : AreValidTables L.tables) (laid : Laid L s) (owned : Owned L (ledger_of L s)) (fits : Fitting L s) (clients : ClientFacts L s) where
  -- an empty cell has nothing hung in it
  empty_cell : (o k : ℕ) → hung_in s o k ≡ None → (q : ℕ) → seats s q ≡ Some (Hung o k) → ⊥
  empty_cell o k none q is =
      let x = seated s q (Hung o k) is in
      let place : x.0.placement ≡ Hung o k = (let e = is in let e' = x.1 in let h : seats s q ≡ Some x.0.placement = ap Rattle.machine_laws.specs.LedgerOf.seat_of e' in let h' : Some x.0.placement ≡ Some (Hung o k) = sym h ∙ e in cc) in
      let empty : find (λ y. hangs_in o k y.placement) s.objects ≡ None = nothing (find (λ y. hangs_in o k y.placement) s.objects) none in
      find_not (λ y. hangs_in o k y.placement) q s.objects x.0 empty x.1 (rw place (hangs_true o k))
    where
      nothing : (f : Option Object) → number_of_object f ≡ None → f ≡ None
      nothing None e = refl
      nothing (Some y) e = absurd cc

  -- where a word is put, there is one
  word_there : (t i k v : ℕ) (z : State) (ready : is_undone (row s.threads t) ≡ true) (d : Does L s t i (action.Wput k v) answer.Went (with_word i k v) z) → k < length (words s i)
  word_there t i k v z ready d =
      let load' = loads_same L s z t plans tables laid owned fits ready (with_word i k v) d (λ m. loads_kept m i _ (λ x. refl)) in
      let inside : (actor laid ready d).instance ≡ i = (let e = actor_inside laid ready d in cc) in
      subst (λ n. k < length (words s n)) inside (go load' (actor laid ready d).body refl)
    where
      some_within : (ws : List ℕ) → is_some (slice_get ws k) ≡ true → k < length ws
      some_within ws is = by (slice_get ws k) refl is
        where
          by : (x : Option ℕ) → slice_get ws k ≡ x → is_some x ≡ true → k < length ws
          by None e h = absurd cc
          by (Some n) e h = slice_get_within ws k n e

      go : (load' : instance_load z (actor laid ready d).instance ≡ instance_load s (actor laid ready d).instance) → (b : FrameBody Action) → (actor laid ready d).body ≡ b → k < length (words s (actor laid ready d).instance)
      go load' (body.Code at regs) is = some_within (words s (actor laid ready d).instance) (acting_code plans tables laid owned fits ready d tt load' at regs is).can.0
      go load' (body.Native held' kept) is = (native_went plans tables laid owned fits ready d tt load' held' kept is).1.inside

  -- an empty slot that has a name is there
  slot_there : (i k : ℕ) (name : List ℕ) → is_live s i ≡ true → IsSlot L s i k name → in_slot s i k ≡ None → slice_get (slots s i) k ≡ Some None
  slot_there i k name lives named empty =
      let x = live_there s i lives in
      let f = fits.instances i x.0 x.1 in
      let same : slots s i ≡ x.0.slots = ap slots_in x.1 in
      let load' : instance_load s i ≡ x.0.load = ap load_of_instance x.1 in
      let within : k < length (Rattle.rl_defs.specs.Domains.slots_of (domain_of_load L x.0.load).lines) = slice_get_within (Rattle.rl_defs.specs.Domains.slots_of (domain_of_load L x.0.load).lines) k name (subst (λ n. slice_get (Rattle.rl_defs.specs.Domains.slots_of (domain_of_load L n).lines) k ≡ Some name) load' named) in
      by (slots s i) (let e = f.slots in rw same (omega (arith, e, within))) empty
    where
      by : (contents : List (Option ℕ)) → k < length contents → content (slice_get contents k) ≡ None → slice_get contents k ≡ Some None
      by contents lt e = go (slice_get contents k) refl e
        where
          go : (c : Option (Option ℕ)) → slice_get contents k ≡ c → content c ≡ None → slice_get contents k ≡ Some None
          go None e' h = absurd (let there = slice_get-get_or contents k None lt in cc (e', there))
          go (Some None) e' h = e'
          go (Some (Some o)) e' h = absurd cc

  -- what is hung anew has nothing hung in it
  no_leaf : (t o k v : ℕ) (z : State) (ready : is_undone (row s.threads t) ≡ true) (h : Hangs L s t o k v z) → (q j : ℕ) → seats s q ≡ Some (Hung v j) → ⊥
  no_leaf t o k v z ready h q j is = go (actor laid ready h.does).body refl
    where
      load' : instance_load z (actor laid ready h.does).instance ≡ instance_load s (actor laid ready h.does).instance
      load' = loads_same L s z t plans tables laid owned fits ready (placed v (Hung o k)) h.does (λ m. refl)

      own_cell : (c : Option _) → Rattle.rl_defs.specs.CodeKinds.hung_in c ≡ Some ((types_of L s).struct_of v) → c ≡ Some (kind.Own ((types_of L s).struct_of v))
      own_cell None e = absurd cc
      own_cell (Some (kind.Own ty)) e = let h' : ty ≡ (types_of L s).struct_of v = cc in ap (λ n. Some (kind.Own n)) h'
      own_cell (Some (kind.Num w)) e = absurd cc
      own_cell (Some (kind.Lent ty)) e = absurd cc
      own_cell (Some (kind.Cap c)) e = absurd cc

      go : (b : FrameBody Action) → (actor laid ready h.does).body ≡ b → ⊥
      go (body.Code at regs) b =
          let c = acting_code plans tables laid owned fits ready h.does tt load' at regs b in
          let hung : hung_at L.tables (held.Own ((types_of L s).struct_of o)) k ≡ Some ((types_of L s).struct_of v) = subst (λ tb. hung_at tb (held.Own ((types_of L s).struct_of o)) k ≡ Some ((types_of L s).struct_of v)) (domain_tables L plans (instance_load s (actor laid ready h.does).instance)) c.can.1 in
          let cell = own_cell (slice_get (cells_of L.tables ((types_of L s).struct_of o)) k) hung in
          let x = seated s q (Hung v j) is in
          let place : x.0.placement ≡ Hung v j = (let e = is in let h' : seats s q ≡ Some x.0.placement = ap Rattle.machine_laws.specs.LedgerOf.seat_of x.1 in let h'' : Some x.0.placement ≡ Some (Hung v j) = sym h' ∙ e in cc) in
          let leaf = (fits.objects q x.0 x.1).hung v j place in
          let leaf' : slice_get (cells_of L.tables ((types_of L s).struct_of v)) j ≡ Some (kind.Own x.0.ty) = rw (kinds_by_struct L s v) at leaf in
          one_deep L.tables plans.tables ((types_of L s).struct_of o) k ((types_of L s).struct_of v) j x.0.ty cell leaf'
      go (body.Native held' kept) b = (native_went plans tables laid owned fits ready h.does tt load' held' kept b).1

  pub step_row : (e : Entry) (z : State) → is_enabled L s (thread_of e) ≡ true → RowOf L s e z → Row L (ledger_of L s) e (ledger_of L z)
  step_row (entry.Call t c x i m args) z enabled r = calls L s plans tables laid owned fits clients.calls t c x i m args z enabled r
  step_row (entry.Refuse t c why x m args) z enabled r = refuses L s plans tables laid owned fits clients.calls t c x m why args z (not_waiting L s t enabled).0 r
  step_row (entry.Ret t c results) z enabled r = returns L s plans tables laid owned fits clients.gets t c results z (not_waiting L s t enabled).0 r
  step_row (entry.Unwound t c) z enabled r = unwinds L s plans tables laid owned fits clients.gets t c z (not_waiting L s t enabled).0 r
  step_row (entry.Reload t x i left) z enabled r = reloads L s plans tables laid owned fits clients.calls t x i left z (not_waiting L s t enabled).0 r
  step_row (entry.Again t c x i) z enabled r = issues_again L s plans tables laid owned fits t c x i z enabled r
  step_row (entry.Trap t i cause) z enabled r = trap_row L s z t laid (not_waiting L s t enabled).0 i cause r
  step_row (entry.Kill t i) z enabled r = kill_row L s z t laid (not_waiting L s t enabled).0 i r (clients.kills t i z r)
  step_row (entry.New t w o ty values) z enabled r = by_maker r.makes
    where
      by_maker : ClientMakes L s t w o ty values z ⊎ FrameMakes L s t w o ty values z → Row L (ledger_of L s) (entry.New t w o ty values) (ledger_of L z)
      by_maker (inl m) = client_new_row L s z t laid (not_waiting L s t enabled).0 w o ty values r.number m (clients.makes t w o ty values z r.number m)
      by_maker (inr m) = makes L s z t plans tables laid owned fits (not_waiting L s t enabled).0 w o ty values r.number m
  step_row (entry.Drop t o) z enabled (inl d) = client_drop_row L s z t laid (not_waiting L s t enabled).0 o d (clients.drops t o z d)
  step_row (entry.Drop t o) z enabled (inr d) = drops L s z t plans tables laid owned fits (not_waiting L s t enabled).0 d.0 o d.1
  step_row (entry.Set t o k values) z enabled r = sets L s z t plans tables laid owned fits (not_waiting L s t enabled).0 r.0 o k values r.1
  step_row (entry.Wput t i k v) z enabled r = puts_word L s z t plans tables laid owned fits (not_waiting L s t enabled).0 i k v r (word_there t i k v z (not_waiting L s t enabled).0 r)
  step_row (entry.Take t i slot o) z enabled r = takes L s z t plans tables laid owned fits (not_waiting L s t enabled).0 i o slot r
  step_row (entry.Put t i slot o) z enabled r = puts L s z t plans tables laid owned fits (not_waiting L s t enabled).0 i o slot r (slot_there i r.place slot (actor_lives laid (not_waiting L s t enabled).0 r.does) r.named r.empty)
  step_row (entry.DevGet t o b) z enabled r = gets_block L s z t plans tables laid owned fits (not_waiting L s t enabled).0 r.0 o b r.1
  step_row (entry.DevPut t b o) z enabled r = puts_block L s z t plans tables laid owned fits (not_waiting L s t enabled).0 r.0 o b _ r.1
  step_row (entry.Hang t o k v) z enabled r = hangs L s z t plans tables laid owned fits (not_waiting L s t enabled).0 o k v r (empty_cell o k r.empty) (no_leaf t o k v z (not_waiting L s t enabled).0 r)
  step_row (entry.Unhang t o k v) z enabled r = unhangs L s z t plans tables laid owned fits (not_waiting L s t enabled).0 o k v r
  step_row (entry.Show t o values) z enabled r = show_row L s z t laid (not_waiting L s t enabled).0 o values r (clients.shows t o values z r).0 (clients.shows t o values z r).1
  step_row (entry.Skip t number) z enabled r = skip_row L s z t laid (not_waiting L s t enabled).0 number r
  step_row (entry.Done t) z enabled r = done_row L s z t laid (not_waiting L s t enabled).0 r
  step_row (entry.Free o) z enabled r = r

  -- each step of the machine is a step of its ledger
  pub step_ledger : (u : Turn) (z : State) → Step L s u z → LedgerStep L (ledger_of L s) u.entry u.frees (ledger_of L z)
  step_ledger u z step =
      let laid' = laid_row L s u.entry step.made laid step.makes in (
        ledger_of L step.made,
        step_row u.entry step.made step.enabled step.makes,
        step.frees ∙ freed_same L step.made laid',
        ap (ledger_of L) step.swept ∙ sweep_same L step.made laid',
      )
