-- What a frame that fits does is a row of the ledger.
use Rattle.std.proofs.Common.{◌≡◌, ◌≢◌, ℕ, ◌<◌, ◌==◌, true, false, cond, List, [], ◌∷◌, length, Some, None, slice_get, refl, ap, sym, subst, ◌∙◌, arith, inl, inr}
use Rattle.std.proofs.lemmas.Bool.{cases_Bool, cases_eq, eq-eqb, eqb-true}
use Rattle.machine_defs.specs.declared.values.Owner.{Owner}
use Rattle.machine_defs.specs.declared.values.Owner.TheVariants as owner
use Rattle.rl_defs.specs.declared.code.Instr.{Instr}
use Rattle.machine_defs.specs.declared.entry.Entry.TheVariants as entry
use Rattle.machine_defs.specs.declared.frame.Action.{Action}
use Rattle.machine_defs.specs.declared.frame.Action.TheVariants as action
use Rattle.machine_defs.specs.declared.frame.Answer.{Answer}
use Rattle.machine_defs.specs.declared.frame.Answer.TheVariants as answer
use Rattle.machine_defs.specs.declared.frame.FrameBody.TheVariants as body
use Rattle.rl_defs.specs.declared.load.LoadRows.{LoadRows}
use Rattle.rl_defs.specs.DomainValue.{Domain}
use Rattle.rl_defs.specs.CodeKinds.{Kinds, kinds_at}
use Rattle.rl_defs.specs.Registers.{Typing}
use Rattle.machine_defs.specs.CodeFits.{FitsAnswer}
use Rattle.rl_defs.specs.Registers.{Registers}
use Rattle.machine_defs.specs.Sight.{Sight}
use Rattle.machine_defs.specs.State.{State, StackFrame, Root, Hung, stack}
use Rattle.rl_defs.specs.Rows.{row}
use Rattle.machine_defs.specs.Loans.{count}
use Rattle.machine_defs.specs.Arguments.{has}
use Rattle.machine_defs.specs.Calling.{is_undone}
use Rattle.machine_defs.specs.State.{instance_load}
use Rattle.machine_defs.specs.Objects.{with_new, without, with_cells_of, overwritten, placed}
use Rattle.machine_defs.specs.Seen.{domain_of_instance, words, slots, in_slot, with_word, with_slot, seen}
use Rattle.machine_defs.specs.Seen.{types_of}
use Rattle.machine_defs.specs.ObjectRows.{Does, FrameMakes, instead, block, with_block, Takes, Puts, Hangs, Unhangs}
use Rattle.machine_defs.specs.Sound.{own_of}
use Rattle.machine_laws.specs.LedgerOf.{ledger_of}
use Rattle.machine_laws.specs.LedgerSound.{Owned}
use Rattle.machine_laws.specs.LedgerRows.{Row}
use Rattle.machine_laws.specs.Shape.{Laid}
use Rattle.machine_laws.specs.Fitting.{Fitting}
use Rattle.machine_laws.proofs.Objects.{found_below}
use Rattle.machine_laws.proofs.Instances.{loads_kept}
use Rattle.machine_laws.proofs.Seats.{seats, IsIn}
use Rattle.machine_laws.proofs.FrameRows.{doing, actor, actor_inside}
use Rattle.machine_laws.proofs.ActionRows.{new_row, drop_row, set_row, wput_row, take_row, put_row, devget_row, devput_row, hang_row, unhang_row}
use Rattle.machine_laws.proofs.Present.{own_root, seated}
use Rattle.machine_laws.proofs.Sights.{hung_there}
use Rattle.machine_laws.proofs.OwnFits.{FitsAct}
use Rattle.machine_laws.proofs.OwnAnswers.{Unlent, one_more}
use Rattle.machine_laws.proofs.OwnDoing.{IsDone, CodeAnswer, DoesOwn, does_own, acting_code}
use Rattle.machine_laws.proofs.Unlent.{next_unlent, hung_unlent, slot_unlent, registers_there}
use Rattle.rl_defs.specs.Valid.{Valid, AreValidTables}

-- an answer that brings nothing fits whatever the instruction does
pub went_fits : (types : Typing) (d : Domain) (n : ℕ) (sight : Sight) (live : ℕ) (kinds : Kinds) (i : Instr) (act : Action) → IsDone act answer.Went → FitsAct types d n sight live kinds i act → FitsAnswer types d kinds i answer.Went
went_fits types d n sight live kinds i (action.Drop o) done can = can
went_fits types d n sight live kinds i (action.Set o k values) done can = can.1
went_fits types d n sight live kinds i (action.Wput k v) done can = can.1
went_fits types d n sight live kinds i (action.Put k o) done can = can.2
went_fits types d n sight live kinds i (action.DevGet o b) done can = can.1
went_fits types d n sight live kinds i (action.DevPut b o) done can = can.1
went_fits types d n sight live kinds i (action.Hang q k o) done can = can.2
went_fits types d n sight live kinds i other done can = absurd done

none_received : (lent : List ℕ) → Unlent lent []
none_received lent o some = absurd (omega (arith, some))

pub one_unlent : (lent : List ℕ) (o : ℕ) → has lent o ≡ false → Unlent lent (o ∷ [])
one_unlent lent o out p some = elim (cases_Bool (o == p)) [
  | inl e ↦ subst (λ n. has lent n ≡ false) (eqb-true o p e) out
  | inr e ↦ absurd (let z : count p (o ∷ []) ≡ 0 = rw e refl in omega (arith, some, z))
]

-- the types of a state in which an object is to be
abbrev pub types_with : LoadRows → State → ℕ → ℕ → Typing
types_with L s o ty = record { struct_of = λ q. cond (q == o) ty ((types_of L s).struct_of q); trait_of = (types_of L s).trait_of }

module _ (L : LoadRows) (s z : State) (t : ℕ) (plans : Valid L) (tables : AreValidTables L.tables) (laid : Laid L s) (owned : Owned L (ledger_of L s)) (fits : Fitting L s) (ready : is_undone (row s.threads t) ≡ true) where
  -- an action that is answered by `Went`
  module _ {i : ℕ} {act : Action} {change : State → State} (d : Does L s t i act answer.Went change z) (done : IsDone act answer.Went) (load' : instance_load z (actor laid ready d).instance ≡ instance_load s (actor laid ready d).instance) where
    abbrev pub went_answer : (at : ℕ) (regs : Registers) → (is : (actor laid ready d).body ≡ body.Code at regs)
        → CodeAnswer L s (actor laid ready d) act answer.Went at (doing laid ready d).thread.fuel d.fuel regs d.frame (acting_code plans tables laid owned fits ready d done load' at regs is)
    went_answer at regs is =
        let c = acting_code plans tables laid owned fits ready d done load' at regs is in
        let f : StackFrame = actor laid ready d in
        record {
          types = types_of L s;
          re = record { objects = λ r o h. refl; targets = λ x. refl };
          fits = went_fits (types_of L s) (domain_of_instance L s f.instance) c.at_rest.stand.at (seen L s f.instance) (length s.objects) (kinds_at (domain_of_instance L s f.instance) c.at_rest.stand.at) c.instr act done c.can;
        }

    pub went_own : DoesOwn (actor laid ready d) d.after act answer.Went
    went_own = does_own plans tables laid owned fits ready d done load' went_answer (none_received (actor laid ready d).lent)

  -- the same loads, whatever words and slots became
  pub loads_same : {i : ℕ} {act : Action} {a : Answer} (change : State → State) (d : Does L s t i act a change z) → ((m : State) → instance_load (change m) ≡ instance_load m) → instance_load z (actor laid ready d).instance ≡ instance_load s (actor laid ready d).instance
  loads_same change d keeps = ap (λ (st : State). instance_load st (actor laid ready d).instance) d.becomes ∙ ap (λ (g : ℕ → ℕ). g (actor laid ready d).instance) (keeps _)

  pub drops : (i o : ℕ) (d : Does L s t i (action.Drop o) answer.Went (without (o ∷ [])) z) → Row L (ledger_of L s) (entry.Drop t o) (ledger_of L z)
  drops i o d =
      let own' = went_own d tt (loads_same (without (o ∷ [])) d (λ m. refl)) in
      drop_row L s z t laid ready i o d own'.trades

  pub sets : (i o k : ℕ) (values : List ℕ) (d : Does L s t i (action.Set o k values) answer.Went (with_cells_of o (overwritten k values)) z) → Row L (ledger_of L s) (entry.Set t o k values) (ledger_of L z)
  sets i o k values d =
      let own' = went_own d tt (loads_same (with_cells_of o (overwritten k values)) d (λ m. refl)) in
      set_row L s z t laid ready i o k values d (own'.uses o (one_more o)) own'.trades

  pub puts_word : (i k v : ℕ) (d : Does L s t i (action.Wput k v) answer.Went (with_word i k v) z) → k < length (words s i) → Row L (ledger_of L s) (entry.Wput t i k v) (ledger_of L z)
  puts_word i k v d inside =
      let own' = went_own d tt (loads_same (with_word i k v) d (λ m. loads_kept m i _ (λ x. refl))) in
      wput_row L s z t laid ready i k v d inside own'.trades

  pub puts : (i o : ℕ) (slot : List ℕ) (p : Puts L s t i slot o z) → slice_get (slots s i) p.place ≡ Some None → Row L (ledger_of L s) (entry.Put t i slot o) (ledger_of L z)
  puts i o slot p empty =
      let own' = went_own p.does tt (loads_same (with_slot i p.place (Some o)) p.does (λ m. loads_kept m i _ (λ x. refl))) in
      put_row L s z t laid ready i p.place o slot p.named empty p.does own'.trades

  pub gets_block : (i o b : ℕ) (d : Does L s t i (action.DevGet o b) answer.Went (with_cells_of o (instead (block s b))) z) → Row L (ledger_of L s) (entry.DevGet t o b) (ledger_of L z)
  gets_block i o b d =
      let own' = went_own d tt (loads_same (with_cells_of o (instead (block s b))) d (λ m. refl)) in
      devget_row L s z t laid ready i o b d (own'.uses o (one_more o)) own'.trades

  pub puts_block : (i o b : ℕ) (cells : List ℕ) (d : Does L s t i (action.DevPut b o) answer.Went (with_block b cells) z) → Row L (ledger_of L s) (entry.DevPut t b o) (ledger_of L z)
  puts_block i o b cells d =
      let own' = went_own d tt (loads_same (with_block b cells) d (λ m. refl)) in
      let reads = own'.shows o (one_more o) in
      devput_row L s z t laid ready i o b cells d (elim reads [ inl mine ↦ inl mine | inr lent ↦ inr (Rattle.machine_laws.proofs.Counts.has_counted (actor laid ready d).lent o lent) ]) own'.trades

  -- what a frame that acts has of its own is a root of its instance
  pub actor_root : {i : ℕ} {act : Action} {a : Answer} {change : State → State} (d : Does L s t i act a change z) (o : ℕ) → 0 < count o (own_of (actor laid ready d)) → seats s o ≡ Some (Root (owner.Instance (actor laid ready d).instance))
  actor_root d o some = own_root L s laid owned t o (Rattle.machine_defs.specs.Frames.below_top (stack s t)) [] (actor laid ready d) (Rattle.machine_laws.proofs.Stacks.top_splits (stack s t) (actor laid ready d) (doing laid ready d).on_top) (doing laid ready d).lives some

  -- an action that makes an object
  module _ (w : Owner) (o ty : ℕ) (values : List ℕ) (number : o ≡ s.next_object) (m : FrameMakes L s t w o ty values z) where
    pub new_load : instance_load z (actor laid ready m.does).instance ≡ instance_load s (actor laid ready m.does).instance
    new_load = loads_same (with_new L ty w []) m.does (λ n. refl)

    pub new_old : (q : ℕ) → IsIn s q → (types_with L s o ty).struct_of q ≡ (types_of L s).struct_of q
    new_old q there =
        let b = found_below 0 s.next_object q s.objects there.0 laid.objects there.1 in
        let apart : q ≢ o = λ e. omega (arith, b.1, e, number) in
        rw (Rattle.std.proofs.lemmas.Bool.ne_eqb q o apart) refl

    abbrev pub new_answer : (at : ℕ) (regs : Registers) → (is : (actor laid ready m.does).body ≡ body.Code at regs)
        → CodeAnswer L s (actor laid ready m.does) (action.New ty) (answer.Made o) at (doing laid ready m.does).thread.fuel m.does.fuel regs m.does.frame (acting_code plans tables laid owned fits ready m.does tt new_load at regs is)
    new_answer at regs is =
        let c = acting_code plans tables laid owned fits ready m.does tt new_load at regs is in
        let f : StackFrame = actor laid ready m.does in
        record {
          types = types_with L s o ty;
          re = record {
            objects = λ r q h. new_old q (registers_there L s laid owned t f (doing laid ready m.does).on_top regs c.at_rest.stand.regs at is (doing laid ready m.does).lives c.same r q h);
            targets = λ x. refl;
          };
          fits = c.can.1 (types_with L s o ty) o (rw (eq-eqb o o refl) refl);
        }

    pub new_unlent : has (actor laid ready m.does).lent o ≡ false
    new_unlent = subst (λ n. has (actor laid ready m.does).lent n ≡ false) (sym number) (next_unlent L s laid owned t (actor laid ready m.does) (doing laid ready m.does).on_top)

    pub new_own : DoesOwn (actor laid ready m.does) m.does.after (action.New ty) (answer.Made o)
    new_own = does_own plans tables laid owned fits ready m.does tt new_load new_answer (one_unlent (actor laid ready m.does).lent o new_unlent)

    pub makes : Row L (ledger_of L s) (entry.New t w o ty values) (ledger_of L z)
    makes = new_row L s z t laid ready w o ty values number m new_own.trades

  -- an action that brings an object out of a slot
  module _ (i o : ℕ) (slot : List ℕ) (p : Takes L s t i slot o z) where
    pub take_load : instance_load z (actor laid ready p.does).instance ≡ instance_load s (actor laid ready p.does).instance
    take_load = loads_same (with_slot i p.place None) p.does (λ m. loads_kept m i _ (λ x. refl))

    pub take_inside : (actor laid ready p.does).instance ≡ i
    take_inside = let e = actor_inside laid ready p.does in cc

    abbrev pub take_answer : (at : ℕ) (regs : Registers) → (is : (actor laid ready p.does).body ≡ body.Code at regs)
        → CodeAnswer L s (actor laid ready p.does) (action.Take p.place) (answer.Made o) at (doing laid ready p.does).thread.fuel p.does.fuel regs p.does.frame (acting_code plans tables laid owned fits ready p.does tt take_load at regs is)
    take_answer at regs is =
        let c = acting_code plans tables laid owned fits ready p.does tt take_load at regs is in
        let full : in_slot s (actor laid ready p.does).instance p.place ≡ Some o = subst (λ n. in_slot s n p.place ≡ Some o) (sym take_inside) p.full in
        let same : c.can.object ≡ o = (let h = c.can.there in cc) in
        record {
          types = types_of L s;
          re = record { objects = λ r q h. refl; targets = λ x. refl };
          fits = subst (λ n. FitsAnswer (types_of L s) (domain_of_instance L s (actor laid ready p.does).instance) (kinds_at (domain_of_instance L s (actor laid ready p.does).instance) c.at_rest.stand.at) c.instr (answer.Made n)) same c.can.answers;
        }

    pub take_unlent : has (actor laid ready p.does).lent o ≡ false
    take_unlent = slot_unlent L s laid owned t (actor laid ready p.does) (doing laid ready p.does).on_top p.place o (doing laid ready p.does).lives (subst (λ n. in_slot s n p.place ≡ Some o) (sym take_inside) p.full)

    pub take_own : DoesOwn (actor laid ready p.does) p.does.after (action.Take p.place) (answer.Made o)
    take_own = does_own plans tables laid owned fits ready p.does tt take_load take_answer (one_unlent (actor laid ready p.does).lent o take_unlent)

    pub takes : Row L (ledger_of L s) (entry.Take t i slot o) (ledger_of L z)
    takes = take_row L s z t laid ready i p.place o slot p.named p.full p.does take_own.trades

  -- an action that moves an object into a cell of another
  module _ (o k v : ℕ) (h : Hangs L s t o k v z) where
    pub hang_own : DoesOwn (actor laid ready h.does) h.does.after (action.Hang o k v) answer.Went
    hang_own = went_own h.does tt (loads_same (placed v (Hung o k)) h.does (λ m. refl))

    pub hangs : ((q : ℕ) → seats s q ≡ Some (Hung o k) → ⊥) → ((q j : ℕ) → seats s q ≡ Some (Hung v j) → ⊥) → Row L (ledger_of L s) (entry.Hang t o k v) (ledger_of L z)
    hangs empty leaf =
        let gone = hang_own.trades v in
        let one = one_more v in
        let v_own : 0 < count v (own_of (actor laid ready h.does)) = omega (arith, gone, one) in
        let root = actor_root h.does v v_own in
        hang_row L s z t laid ready h.inside o k v h.does (hang_own.keeps o (one_more o)) hang_own.trades (seated s v (Root (owner.Instance (actor laid ready h.does).instance)) root) empty leaf

  -- and out of it
  module _ (o k v : ℕ) (h : Unhangs L s t o k v z) where
    pub unhang_load : instance_load z (actor laid ready h.does).instance ≡ instance_load s (actor laid ready h.does).instance
    unhang_load = loads_same (placed v (Root (owner.Instance h.inside))) h.does (λ m. refl)

    pub unhang_seat : seats s v ≡ Some (Hung o k)
    unhang_seat = let r = hung_there L s o k v laid h.full in rw (r.1, ← r.2) refl

    abbrev pub unhang_answer : (at : ℕ) (regs : Registers) → (is : (actor laid ready h.does).body ≡ body.Code at regs)
        → CodeAnswer L s (actor laid ready h.does) (action.Unhang o k) (answer.Made v) at (doing laid ready h.does).thread.fuel h.does.fuel regs h.does.frame (acting_code plans tables laid owned fits ready h.does tt unhang_load at regs is)
    unhang_answer at regs is =
        let c = acting_code plans tables laid owned fits ready h.does tt unhang_load at regs is in
        let full = h.full in
        let same : c.can.object ≡ v = (let there = c.can.there in cc) in
        record {
          types = types_of L s;
          re = record { objects = λ r q e. refl; targets = λ x. refl };
          fits = subst (λ n. FitsAnswer (types_of L s) (domain_of_instance L s (actor laid ready h.does).instance) (kinds_at (domain_of_instance L s (actor laid ready h.does).instance) c.at_rest.stand.at) c.instr (answer.Made n)) same c.can.answers;
        }

    pub unhang_own : DoesOwn (actor laid ready h.does) h.does.after (action.Unhang o k) (answer.Made v)
    unhang_own = does_own plans tables laid owned fits ready h.does tt unhang_load unhang_answer (one_unlent (actor laid ready h.does).lent v (hung_unlent L s laid owned t (actor laid ready h.does) (doing laid ready h.does).on_top v o k unhang_seat))

    pub unhangs : Row L (ledger_of L s) (entry.Unhang t o k v) (ledger_of L z)
    unhangs =
        let r = hung_there L s o k v laid h.full in
        unhang_row L s z t laid ready h.inside o k v h.does (unhang_own.uses o (one_more o)) unhang_seat unhang_own.trades (r.0, r.1)
