-- A row is a chain of small changes of the state. What each of them keeps, the row keeps.
use Rattle.std.proofs.Common.{◌≡◌, ℕ, ◌+◌, ◌-◌, inl, inr, Bool, true, false, List, [], ◌∷◌, ◌++◌, length, Option, Some, None, ap, sym, subst}
use Rattle.std.specs.List.{filter_map}
use Rattle.rl_defs.specs.declared.values.Value.{Value}
use Rattle.machine_defs.specs.declared.values.Owner.{Owner}
use Rattle.machine_defs.specs.declared.values.Owner.TheVariants as owner
use Rattle.machine_defs.specs.declared.entry.Entry.{Entry}
use Rattle.machine_defs.specs.declared.entry.Entry.TheVariants as entry
use Rattle.machine_defs.specs.declared.frame.Action.{Action}
use Rattle.machine_defs.specs.declared.frame.Answer.{Answer}
use Rattle.machine_defs.specs.declared.frame.Answer.TheVariants as answer
use Rattle.rl_defs.specs.declared.load.LoadRows.{LoadRows}
use Rattle.rl_defs.specs.declared.load.Command.{Command}
use Rattle.machine_defs.specs.State.{State, StackFrame, Thread, Root, Hung, is_live, stack, with_stack, with_thread}
use Rattle.machine_defs.specs.State.{top}
use Rattle.machine_defs.specs.Calling.{Wish}
use Rattle.machine_defs.specs.Arguments.{moved_of}
use Rattle.machine_defs.specs.Arguments.{object_of_value}
use Rattle.machine_defs.specs.Frames.{after_command}
use Rattle.machine_defs.specs.Objects.{with_new, without, with_cells_of, overwritten, placed, cells_in}
use Rattle.machine_defs.specs.Loans.{object_of}
use Rattle.machine_defs.specs.Seen.{with_word, with_slot, ended}
use Rattle.machine_defs.specs.Frames.{AnswersFrame, AnswersTop, Replies, below_top, popped, with_top, acting, results_in}
use Rattle.machine_defs.specs.Calling.{wish, with_fuel}
use Rattle.machine_defs.specs.CallRows.{passed_to, numbered, call_entered, after_return, reloaded, command_done}
use Rattle.machine_defs.specs.ObjectRows.{Does, Commanded, with_block, block, instead}
use Rattle.machine_defs.specs.Steps.{Row}
use Rattle.machine_laws.proofs.Wishes.{wish_as}

abbrev pub IsNew : Entry → Type 0
IsNew (entry.New t w o ty values) = Unit {0}
IsNew _ = ⊥

-- an entry that gives an object other cells
abbrev pub IsWrite : Entry → Type 0
IsWrite (entry.Set t o place values) = Unit {0}
IsWrite (entry.DevGet t o b) = Unit {0}
IsWrite _ = ⊥

abbrev pub IsHang : Entry → Type 0
IsHang (entry.Hang t o place v) = Unit {0}
IsHang _ = ⊥

abbrev pub IsPut : Entry → Type 0
IsPut (entry.Put t i slot o) = Unit {0}
IsPut _ = ⊥

abbrev pub IsSave : Entry → Type 0
IsSave (entry.DevPut t b o) = Unit {0}
IsSave _ = ⊥

-- What holds of two states, one after the other, for each of the small changes: of a stack, a thread, the next call, the objects, an instance,
-- a block, or a shadow. Some come with some entries alone.
pub record Moves (L : LoadRows) (e : Entry) (P : State → State → Type 0) : Type 0 where
  pub still : (s : State) → P s s
  pub behind : (s m z : State) → P s m → P m z → P s z
  pub frames : (s : State) (t : ℕ) (fs : List StackFrame) → P s (with_stack s t fs)
  pub thread : (s : State) (t : ℕ) (thread : Thread) → P s (with_thread s t thread)
  pub number : (s : State) (c : ℕ) → P s (numbered c s)
  pub given : (s : State) (w : Owner) (os : List ℕ) → P s (passed_to w os s)
  pub gone : (s : State) (os : List ℕ) → P s (without os s)
  pub made : IsNew e → (s : State) (ty : ℕ) (w : Owner) (values : List ℕ) → P s (with_new L ty w values s)
  pub cells : IsWrite e → (s : State) (o : ℕ) (change : List ℕ → List ℕ) → P s (with_cells_of o change s)
  pub hung : IsHang e → (s : State) (o parent place : ℕ) → P s (placed o (Hung parent place) s)
  pub rooted : (s : State) (o : ℕ) (w : Owner) → P s (placed o (Root w) s)
  pub word : (s : State) (i k v : ℕ) → P s (with_word i k v s)
  pub taken : (s : State) (i k : ℕ) → P s (with_slot i k None s)
  pub filled : IsPut e → (s : State) (i k o : ℕ) → P s (with_slot i k (Some o) s)
  pub ends : (s : State) (i : ℕ) → P s (ended i s)
  pub device : IsSave e → (s : State) (b : ℕ) (cells : List ℕ) → P s (with_block b cells s)
  pub reload : (s : State) (x left : ℕ) → P s (reloaded L x (length s.instances + 1) left s)

module _ (L : LoadRows) (P : State → State → Type 0) where
  -- the state in which a frame has gone on and its thread was charged
  pub on_moves : (e : Entry) → Moves L e P → (s : State) (t : ℕ) (g : StackFrame) (thread : Thread) → P s (with_top t g (with_thread s t thread))
  on_moves e m s t g thread = m.behind s (with_thread s t thread) (with_top t g (with_thread s t thread)) (m.thread s t thread) (m.frames (with_thread s t thread) t (below_top (stack s t) ++ g ∷ []))

  pub does_moves : (e : Entry) → Moves L e P → (s z : State) (t i : ℕ) (act : Action) (a : Answer) (change : State → State) → ((x : State) → P x (change x)) → Does L s t i act a change z → P s z
  does_moves e m s z t i act a change keeps d =
      let mid : State = with_top t d.after (with_thread s t (with_fuel (d.fuel - 1) d.thread)) in
      subst (P s) (sym d.becomes) (m.behind s mid (change mid) (on_moves e m s t d.after (with_fuel (d.fuel - 1) d.thread)) (keeps mid))

  pub command_moves : (e : Entry) → Moves L e P → (s z : State) (t : ℕ) (next : Command) (results : List Value) (change : State → State) → ((x : State) → P x (change x)) → Commanded L s t next results change z → P s z
  command_moves e m s z t next results change keeps d =
      let mid : State = with_thread s t (command_done L t results d.thread) in
      subst (P s) (sym d.becomes) (m.behind s mid (change mid) (m.thread s t (command_done L t results d.thread)) (keeps mid))

  -- whoever gets an answer
  pub reply_moves : (e : Entry) → Moves L e P → (s : State) (t : ℕ) (a : Answer) (z : State) → Replies L s t a z → P s z
  reply_moves e m s t a z replies = by_top (top (stack s t)) replies
    where
      by_life : (f : StackFrame) (lives : Bool) → AnswersFrame L s t f a lives z → P s z
      by_life f true r = subst (P s) (sym r.becomes) (m.frames s t (below_top (stack s t) ++ r.frame ∷ []))
      by_life f false r = subst (P s) (sym r) (m.still s)

      by_top : (f : Option StackFrame) → AnswersTop L s t a f z → P s z
      by_top None r = subst (P s) (sym r.becomes) (m.thread s t (after_command L t r.thread (results_in a)))
      by_top (Some f) r = by_life f (is_live s f.instance) r

  -- a caller that has paid
  pub wish_moves : (e : Entry) → Moves L e P → (s : State) (t : ℕ) (w : Wish) → wish L s t ≡ Some w → P s w.charged
  wish_moves e m s t w wants = elim (wish_as L s t w wants) [
    | inl c ↦ let paid : w.charged ≡ with_thread s t _ = ap (λ (v : Wish). v.charged) c.is in subst (P s) (sym paid) (m.thread s t _)
    | inr f ↦ let paid : w.charged ≡ with_top t _ (with_thread s t (with_fuel (f.fuel - 1) f.thread)) = ap (λ (v : Wish). v.charged) f.is in subst (P s) (sym paid) (on_moves e m s t _ (with_fuel (f.fuel - 1) f.thread))
  ]

  pub row_moves : (e : Entry) → Moves L e P → (s z : State) → Row L s e z → P s z
  row_moves (entry.Call t c x i n args) m s z r =
      let paid = wish_moves (entry.Call t c x i n args) m s t _ r.wants in
      let w : Owner = owner.Instance i in
      let a : State = with_stack r.charged t (stack r.charged t ++ r.frame ∷ []) in
      let b : State = passed_to w (moved_of args) a in
      subst (P s) (sym r.becomes) (m.behind s r.charged (call_entered t c i args r.frame r.charged) paid
      (m.behind r.charged a (numbered c b) (m.frames r.charged t (stack r.charged t ++ r.frame ∷ [])) (m.behind a b (numbered c b) (m.given a w (moved_of args)) (m.number b c))))
  row_moves (entry.Refuse t c why x n args) m s z r =
      let paid = wish_moves (entry.Refuse t c why x n args) m s t _ r.wants in
      let a : State = without (moved_of args) r.charged in
      m.behind s r.charged z paid (m.behind r.charged a z (m.gone r.charged (moved_of args)) (m.behind a (numbered c a) z (m.number a c) (reply_moves (entry.Refuse t c why x n args) m (numbered c a) t (answer.Failed why) z r.replies)))
  row_moves (entry.Ret t c results) m s z r =
      let a : State = popped t s in
      let b : State = with_thread a t (with_fuel (r.fuel - 1) r.thread) in
      let d : State = after_return t r.fuel r.thread results s in
      m.behind s a z (m.frames s t (below_top (stack s t))) (m.behind a b z (m.thread a t (with_fuel (r.fuel - 1) r.thread))
      (m.behind b d z (m.given b (acting a t) (filter_map object_of_value results)) (reply_moves (entry.Ret t c results) m d t (answer.Back results) z r.replies)))
  row_moves (entry.Unwound t c) m s z r = m.behind s (popped t s) z (m.frames s t (below_top (stack s t))) (reply_moves (entry.Unwound t c) m (popped t s) t _ z r.replies)
  row_moves (entry.Reload t x i left) m s z r = subst (P s) (sym r.becomes) (subst (λ n. P s (reloaded L x n left s)) (sym r.number) (m.reload s x left))
  row_moves (entry.Again t c x i) m s z r = subst (P s) (sym r.becomes) (m.frames s t (below_top (stack s t) ++ r.frame ∷ []))
  row_moves (entry.Trap t i cause) m s z r = subst (P s) (sym r.becomes) (m.behind s (with_thread s t (with_fuel r.fuel r.thread)) _ (m.thread s t (with_fuel r.fuel r.thread)) (m.ends (with_thread s t (with_fuel r.fuel r.thread)) i))
  row_moves (entry.Kill t i) m s z r = subst (P s) (sym r.becomes) (m.behind s (with_thread s t (command_done L t [] r.thread)) _ (m.thread s t (command_done L t [] r.thread)) (m.ends (with_thread s t (command_done L t [] r.thread)) i))
  row_moves (entry.New t w o ty values) m s z r = elim r.makes [
    | inl c ↦ command_moves (entry.New t w o ty values) m s z t c.next (Rattle.rl_defs.specs.declared.values.Value.TheVariants.Obj o ∷ []) (with_new L ty w values) (λ x. m.made tt x ty w values) c.does
    | inr f ↦ does_moves (entry.New t w o ty values) m s z t f.inside _ _ (with_new L ty w []) (λ x. m.made tt x ty w []) f.does
  ]
  row_moves (entry.Drop t o) m s z r = elim r [
    | inl c ↦
        let mid : State = with_thread s t _ in
        subst (P s) (sym c.becomes) (m.behind s mid (without (o ∷ []) mid) (m.thread s t _) (m.gone mid (o ∷ [])))
    | inr f ↦ does_moves (entry.Drop t o) m s z t f.0 _ _ (without (o ∷ [])) (λ x. m.gone x (o ∷ [])) f.1
  ]
  row_moves (entry.Set t o place values) m s z r = does_moves (entry.Set t o place values) m s z t r.0 _ _ (with_cells_of o (overwritten place values)) (λ x. m.cells tt x o (overwritten place values)) r.1
  row_moves (entry.Wput t i place v) m s z r = does_moves (entry.Wput t i place v) m s z t i _ _ (with_word i place v) (λ x. m.word x i place v) r
  row_moves (entry.Take t i slot o) m s z r = does_moves (entry.Take t i slot o) m s z t i _ _ (with_slot i r.place None) (λ x. m.taken x i r.place) r.does
  row_moves (entry.Put t i slot o) m s z r = does_moves (entry.Put t i slot o) m s z t i _ _ (with_slot i r.place (Some o)) (λ x. m.filled tt x i r.place o) r.does
  row_moves (entry.DevGet t o b) m s z r = does_moves (entry.DevGet t o b) m s z t r.0 _ _ (with_cells_of o (instead (block s b))) (λ x. m.cells tt x o (instead (block s b))) r.1
  row_moves (entry.DevPut t b o) m s z r = does_moves (entry.DevPut t b o) m s z t r.0 _ _ (with_block b (cells_in (object_of s o))) (λ x. m.device tt x b (cells_in (object_of s o))) r.1
  row_moves (entry.Hang t o place v) m s z r = does_moves (entry.Hang t o place v) m s z t r.inside _ _ (placed v (Hung o place)) (λ x. m.hung tt x v o place) r.does
  row_moves (entry.Unhang t o place v) m s z r = does_moves (entry.Unhang t o place v) m s z t r.inside _ _ (placed v (Root (owner.Instance r.inside))) (λ x. m.rooted x v (owner.Instance r.inside)) r.does
  row_moves (entry.Show t o values) m s z r = command_moves (entry.Show t o values) m s z t _ _ _ (λ x. m.still x) r.does
  row_moves (entry.Skip t number) m s z r = subst (P s) (sym r.becomes) (m.thread s t (command_done L t [] r.thread))
  row_moves (entry.Done t) m s z r = subst (P s) (sym r.becomes) (m.thread s t (record r.thread { done = true }))
  row_moves (entry.Free o) m s z r = absurd r
