-- What each row counts: in any state.
use Rattle.std.proofs.Common.{◌≡◌, ℕ, suc, ◌+◌, ◌-◌, ◌≤◌, Bool, true, false, List, [], ◌∷◌, ◌++◌, length, filter, Option, Some, None, refl, ap, sym, subst, ◌∙◌, arith, inl, inr}
use Rattle.std.specs.Option.{option_map_or}
use Rattle.std.proofs.lemmas.Bool.{cases_Bool}
use Rattle.std.proofs.lemmas.List.{length-set, length-map, length-append}
use Rattle.rl_defs.specs.declared.load.LoadRows.{LoadRows}
use Rattle.rl_defs.specs.declared.load.LoadRow.{LoadRow}
use Rattle.rl_defs.specs.declared.values.Value.TheVariants as value
use Rattle.machine_defs.specs.declared.values.Owner.{Owner}
use Rattle.machine_defs.specs.declared.values.Owner.TheVariants as owner
use Rattle.rl_defs.specs.Domains.{load_row, load_of_target}
use Rattle.rl_defs.specs.Rows.{row}
use Rattle.machine_defs.specs.declared.entry.Entry.{Entry}
use Rattle.machine_defs.specs.declared.entry.Entry.TheVariants as entry
use Rattle.machine_defs.specs.declared.frame.Action.{Action}
use Rattle.machine_defs.specs.declared.frame.Answer.{Answer}
use Rattle.machine_defs.specs.State.{State, StackFrame, Object, Thread, Instance, Root, Hung, is_live, stack, top, with_stack, with_thread, first_instance, first_instances, start}
use Rattle.machine_defs.specs.Loans.{is_doomed, object_of}
use Rattle.machine_defs.specs.Arguments.{moved_of}
use Rattle.machine_defs.specs.Objects.{with_new, without, with_cells_of, overwritten, placed, cells_in}
use Rattle.machine_defs.specs.Seen.{change_row, with_instance, with_word, with_slot, ended}
use Rattle.machine_defs.specs.Frames.{AnswersFrame, AnswersTop, Replies, below_top, popped, with_top, results_in, after_command}
use Rattle.machine_defs.specs.Calling.{Wish, wish, with_fuel}
use Rattle.machine_defs.specs.CallRows.{numbered, passed_to, after_return, reloaded, command_done}
use Rattle.machine_defs.specs.ObjectRows.{Does, with_block, block, instead}
use Rattle.machine_defs.specs.Runs.{Begins, GoesOn, entries_of_turn}
use Rattle.machine_defs.specs.Steps.{Row}
use Rattle.machine_laws.proofs.Wishes.{wish_as}
use Rattle.step_laws.specs.StepLaws.{CountsUp, StepsCountUp, CountsEntries, RunsCountUp, FewObjects, ObjectsStayFew}
use Rattle.step_laws.proofs.MadeRows.{made_row}

-- as much is counted in one state as in the other
pub record CountsSame (s z : State) : Type 0 where
  pub calls : z.next_call ≡ s.next_call
  pub objects : z.next_object ≡ s.next_object
  pub instances : length z.instances ≡ length s.instances
  pub threads : length z.threads ≡ length s.threads
  pub stacks : length z.stacks ≡ length s.stacks
  pub shadows : length z.shadows ≡ length s.shadows
  pub blocks : length z.blocks ≡ length s.blocks

still : (s : State) → CountsSame s s
still s = record { calls = refl; objects = refl; instances = refl; threads = refl; stacks = refl; shadows = refl; blocks = refl }

behind : (s m z : State) → CountsSame s m → CountsSame m z → CountsSame s z
behind s m z a b = record {
  calls = b.calls ∙ a.calls;
  objects = b.objects ∙ a.objects;
  instances = b.instances ∙ a.instances;
  threads = b.threads ∙ a.threads;
  stacks = b.stacks ∙ a.stacks;
  shadows = b.shadows ∙ a.shadows;
  blocks = b.blocks ∙ a.blocks;
}

on_stack : (s : State) (t : ℕ) (frames : List StackFrame) → CountsSame s (with_stack s t frames)
on_stack s t frames = record { calls = refl; objects = refl; instances = refl; threads = refl; stacks = length-set s.stacks (t - 1) frames; shadows = refl; blocks = refl }

on_thread : (s : State) (t : ℕ) (thread : Thread) → CountsSame s (with_thread s t thread)
on_thread s t thread = record { calls = refl; objects = refl; instances = refl; threads = length-set s.threads (t - 1) thread; stacks = refl; shadows = refl; blocks = refl }

on_instance : (s : State) (i : ℕ) (change : Instance → Instance) → CountsSame s (with_instance i change s)
on_instance s i change = record { calls = refl; objects = refl; instances = changed (row s.instances i); threads = refl; stacks = refl; shadows = refl; blocks = refl }
  where
    changed : (here : Option Instance) → length (change_row s.instances i change here) ≡ length s.instances
    changed None = refl
    changed (Some x) = length-set s.instances (i - 1) (change x)

on_block : (s : State) (b : ℕ) (cells : List ℕ) → CountsSame s (with_block b cells s)
on_block s b cells = record { calls = refl; objects = refl; instances = refl; threads = refl; stacks = refl; shadows = refl; blocks = length-set s.blocks b cells }

-- a state with other objects
on_objects : (s : State) (objects : List _) → CountsSame s (record s { objects = objects })
on_objects s objects = record { calls = refl; objects = refl; instances = refl; threads = refl; stacks = refl; shadows = refl; blocks = refl }

on_top : (s : State) (t : ℕ) (f : StackFrame) (thread : Thread) → CountsSame s (with_top t f (with_thread s t thread))
on_top s t f thread = behind s (with_thread s t thread) (with_top t f (with_thread s t thread)) (on_thread s t thread) (on_stack (with_thread s t thread) t (below_top (stack s t) ++ f ∷ []))

-- so it is where both count one more
pub up : (s z : State) → CountsSame s z → CountsUp s z
up s z c = record {
  calls = (let e = c.calls in omega (arith, e));
  objects = (let e = c.objects in omega (arith, e));
  instances = (let e = c.instances in omega (arith, e));
  threads = c.threads;
  stacks = c.stacks;
  shadows = c.shadows;
  blocks = c.blocks;
}

-- a number of a call, an object or an instance is used, and then nothing more
used_call : (s m : State) (c : ℕ) → CountsSame s m → c ≡ s.next_call → CountsUp s (numbered c m)
used_call s m c same is = record {
  calls = omega (arith, is);
  objects = (let e = same.objects in omega (arith, e));
  instances = (let e = same.instances in omega (arith, e));
  threads = same.threads;
  stacks = same.stacks;
  shadows = same.shadows;
  blocks = same.blocks;
}

used_object : (L : LoadRows) (s m : State) (w : Owner) (ty : ℕ) (values : List ℕ) → CountsSame s m → CountsUp s (with_new L ty w values m)
used_object L s m w ty values same = record {
  calls = (let e = same.calls in omega (arith, e));
  objects = (let e = same.objects in omega (arith, e));
  instances = (let e = same.instances in omega (arith, e));
  threads = same.threads;
  stacks = same.stacks;
  shadows = same.shadows;
  blocks = same.blocks;
}

abbrev opened : LoadRows → ℕ → Option LoadRow → List Instance
opened L x l = option_map_or (λ l. first_instance L (load_of_target L x) l ∷ []) l []

used_instance : (L : LoadRows) (s : State) (x i left : ℕ) → CountsUp s (reloaded L x i left s)
used_instance L s x i left = record {
  calls = omega arith;
  objects = omega arith;
  instances = (let e = length-append s.instances (opened L x (load_row L (load_of_target L x))) in let one = at_most_one (load_row L (load_of_target L x)) in omega (arith, e, one));
  threads = refl;
  stacks = refl;
  shadows = length-set s.shadows (x - length L.loads - 1) (record { current = i; left = left });
  blocks = refl;
}
  where
    at_most_one : (l : Option LoadRow) → length (opened L x l) ≤ 1
    at_most_one None = omega arith
    at_most_one (Some l) = omega arith

counts_then : (s m z : State) → CountsUp s m → CountsSame m z → CountsUp s z
counts_then s m z up same = record {
  calls = (let a = up.calls in let e = same.calls in omega (arith, a, e));
  objects = (let a = up.objects in let e = same.objects in omega (arith, a, e));
  instances = (let a = up.instances in let e = same.instances in omega (arith, a, e));
  threads = same.threads ∙ up.threads;
  stacks = same.stacks ∙ up.stacks;
  shadows = same.shadows ∙ up.shadows;
  blocks = same.blocks ∙ up.blocks;
}

module _ (L : LoadRows) where
  does_same : (s z : State) (t i : ℕ) (act : Action) (a : Answer) (change : State → State) → ((m : State) → CountsSame m (change m)) → Does L s t i act a change z → CountsSame s z
  does_same s z t i act a change keeps d =
      let mid : State = with_top t d.after (with_thread s t (with_fuel (d.fuel - 1) d.thread)) in
      subst (CountsSame s) (sym d.becomes) (behind s mid (change mid) (on_top s t d.after (with_fuel (d.fuel - 1) d.thread)) (keeps mid))

  replies_same : (s z : State) (t : ℕ) (a : Answer) → Replies L s t a z → CountsSame s z
  replies_same s z t a replies = by_top (top (stack s t)) replies
    where
      by_life : (f : StackFrame) (lives : Bool) → AnswersFrame L s t f a lives z → CountsSame s z
      by_life f true r = subst (CountsSame s) (sym r.becomes) (on_stack s t (below_top (stack s t) ++ r.frame ∷ []))
      by_life f false r = subst (CountsSame s) (sym r) (still s)

      by_top : (f : Option StackFrame) → AnswersTop L s t a f z → CountsSame s z
      by_top None r = subst (CountsSame s) (sym r.becomes) (on_thread s t (after_command L t r.thread (results_in a)))
      by_top (Some f) r = by_life f (is_live s f.instance) r

  wish_same : (s : State) (t : ℕ) (w : Wish) → wish L s t ≡ Some w → CountsSame s w.charged
  wish_same s t w wants = elim (wish_as L s t w wants) [
    | inl c ↦ let paid : w.charged ≡ with_thread s t _ = ap (λ (v : Wish). v.charged) c.is in subst (CountsSame s) (sym paid) (on_thread s t _)
    | inr f ↦ let paid : w.charged ≡ with_top t _ (with_thread s t (with_fuel (f.fuel - 1) f.thread)) = ap (λ (v : Wish). v.charged) f.is in subst (CountsSame s) (sym paid) (on_top s t _ (with_fuel (f.fuel - 1) f.thread))
  ]

  does_up : (s z : State) (t i : ℕ) (act : Action) (a : Answer) (change : State → State) → ((m : State) → CountsSame m (change m)) → Does L s t i act a change z → CountsUp s z
  does_up s z t i act a change keeps d = up s z (does_same s z t i act a change keeps d)

  command_up : (s z : State) (t : ℕ) (thread : Thread) (change : State → State) → ((m : State) → CountsSame m (change m)) → z ≡ change (with_thread s t thread) → CountsUp s z
  command_up s z t thread change keeps is =
      let mid : State = with_thread s t thread in
      up s z (subst (CountsSame s) (sym is) (behind s mid (change mid) (on_thread s t thread) (keeps mid)))

  pub counts_row : (s z : State) (e : Entry) → Row L s e z → CountsUp s z
  counts_row s z (entry.Call t c x i m args) r =
      let paid = wish_same s t _ r.wants in
      let a : State = with_stack r.charged t (stack r.charged t ++ r.frame ∷ []) in
      let b : State = passed_to (owner.Instance i) (moved_of args) a in
      subst (CountsUp s) (sym r.becomes) (used_call s b c (behind s a b (behind s r.charged a paid (on_stack r.charged t (stack r.charged t ++ r.frame ∷ []))) (on_objects a b.objects)) r.number)
  counts_row s z (entry.Refuse t c why x m args) r =
      let paid = wish_same s t _ r.wants in
      let a : State = without (moved_of args) r.charged in
      counts_then s (numbered c a) z (used_call s a c (behind s r.charged a paid (on_objects r.charged a.objects)) r.number) (replies_same (numbered c a) z t _ r.replies)
  counts_row s z (entry.Ret t c results) r =
      let a : State = popped t s in
      let b : State = with_thread a t (with_fuel (r.fuel - 1) r.thread) in
      let d : State = after_return t r.fuel r.thread results s in
      let popping : CountsSame s a = on_stack s t (below_top (stack s t)) in
      let charging : CountsSame s b = behind s a b popping (on_thread a t (with_fuel (r.fuel - 1) r.thread)) in
      up s z (behind s d z (behind s b d charging (on_objects b d.objects)) (replies_same d z t _ r.replies))
  counts_row s z (entry.Unwound t c) r = up s z (behind s (popped t s) z (on_stack s t (below_top (stack s t))) (replies_same (popped t s) z t _ r.replies))
  counts_row s z (entry.Reload t x i left) r = subst (CountsUp s) (sym r.becomes) (used_instance L s x i left)
  counts_row s z (entry.Again t c x i) r = up s z (subst (CountsSame s) (sym r.becomes) (on_stack s t (below_top (stack s t) ++ r.frame ∷ [])))
  counts_row s z (entry.Trap t i cause) r = command_up s z t (with_fuel r.fuel r.thread) (ended i) (λ m. on_instance m i _) r.becomes
  counts_row s z (entry.Kill t i) r = command_up s z t (command_done L t [] r.thread) (ended i) (λ m. on_instance m i _) r.becomes
  counts_row s z (entry.New t w o ty values) r = elim r.makes [
    | inl c ↦
        let thread : Thread = command_done L t (value.Obj o ∷ []) c.does.thread in
        subst (CountsUp s) (sym c.does.becomes) (used_object L s (with_thread s t thread) w ty values (on_thread s t thread))
    | inr f ↦
        let d = f.does in
        let mid : State = with_top t d.after (with_thread s t (with_fuel (d.fuel - 1) d.thread)) in
        subst (CountsUp s) (sym d.becomes) (used_object L s mid w ty [] (on_top s t d.after (with_fuel (d.fuel - 1) d.thread)))
  ]
  counts_row s z (entry.Drop t o) r = elim r [
    | inl c ↦ command_up s z t _ (without (o ∷ [])) (λ m. on_objects m (without (o ∷ []) m).objects) c.becomes
    | inr f ↦ does_up s z t f.0 _ _ (without (o ∷ [])) (λ m. on_objects m (without (o ∷ []) m).objects) f.1
  ]
  counts_row s z (entry.Set t o place values) r = does_up s z t r.0 _ _ (with_cells_of o (overwritten place values)) (λ m. on_objects m (with_cells_of o (overwritten place values) m).objects) r.1
  counts_row s z (entry.Wput t i place v) r = does_up s z t i _ _ (with_word i place v) (λ m. on_instance m i _) r
  counts_row s z (entry.Take t i slot o) r = does_up s z t i _ _ (with_slot i r.place None) (λ m. on_instance m i _) r.does
  counts_row s z (entry.Put t i slot o) r = does_up s z t i _ _ (with_slot i r.place (Some o)) (λ m. on_instance m i _) r.does
  counts_row s z (entry.DevGet t o b) r = does_up s z t r.0 _ _ (with_cells_of o (instead (block s b))) (λ m. on_objects m (with_cells_of o (instead (block s b)) m).objects) r.1
  counts_row s z (entry.DevPut t b o) r = does_up s z t r.0 _ _ (with_block b (cells_in (object_of s o))) (λ m. on_block m b (cells_in (object_of s o))) r.1
  counts_row s z (entry.Hang t o place v) r = does_up s z t r.inside _ _ (placed v (Hung o place)) (λ m. on_objects m (placed v (Hung o place) m).objects) r.does
  counts_row s z (entry.Unhang t o place v) r = does_up s z t r.inside _ _ (placed v (Root (owner.Instance r.inside))) (λ m. on_objects m (placed v (Root (owner.Instance r.inside)) m).objects) r.does
  counts_row s z (entry.Show t o values) r = command_up s z t (command_done L t [] r.does.thread) (λ m. m) still r.does.becomes
  counts_row s z (entry.Skip t number) r = command_up s z t (command_done L t [] r.thread) (λ m. m) still r.becomes
  counts_row s z (entry.Done t) r = command_up s z t (record r.thread { done = true }) (λ m. m) still r.becomes
  counts_row s z (entry.Free o) r = absurd r

pub counts_up : StepsCountUp
counts_up L s made e row = counts_row L s made e row

first_few : (L : LoadRows) (k : ℕ) (ls : List LoadRow) → length (first_instances L k ls) ≡ length ls
first_few L k [] = refl
first_few L k (l ∷ ls) = ap suc (first_few L (k + 1) ls)

pub runs_counted : RunsCountUp
runs_counted L H s (Begins none is) =
    let first : CountsEntries L [] (start L) = record { calls = omega arith; objects = omega arith; instances = (let e = first_few L 1 L.loads in omega (arith, e)) } in
    subst (λ y. CountsEntries L H y) (sym is) (subst (λ G. CountsEntries L G (start L)) (sym none) first)
runs_counted L H s (GoesOn {G = G} {s = s'} u run step is) =
    let before = runs_counted L G s' run in
    let up = counts_row L s' step.made u.entry step.makes in
    let more : length H ≡ length G + length (entries_of_turn u) = ap length is ∙ length-append G (entries_of_turn u) in
    let calls : s.next_call ≡ step.made.next_call = ap (λ (y : State). y.next_call) step.swept in
    let objects : s.next_object ≡ step.made.next_object = ap (λ (y : State). y.next_object) step.swept in
    let instances : length s.instances ≡ length step.made.instances = ap (λ (y : State). length y.instances) step.swept in
    record {
      calls = (let a = before.calls in let b = up.calls in omega (arith, a, b, more, calls));
      objects = (let a = before.objects in let b = up.objects in omega (arith, a, b, more, objects));
      instances = (let a = before.instances in let b = up.instances in omega (arith, a, b, more, instances));
    }

filter_shorter : {A : Type 0} (test : A → Bool) (xs : List A) → length (filter test xs) ≤ length xs
filter_shorter test [] = omega arith
filter_shorter test (x ∷ xs) = let r = filter_shorter test xs in elim (cases_Bool (test x)) [
  | inl is ↦ rw is (omega (arith, r))
  | inr is ↦ rw is (omega (arith, r))
]

pub few_objects : (made : State) → length made.objects ≤ 65536 → FewObjects made
few_objects made few = record {
  objects = few;
  frees = (let e = length-map (filter (is_doomed made) made.objects) (λ (x : Object). x.number) in let less = filter_shorter (is_doomed made) made.objects in omega (arith, e, less, few));
}

pub objects_few : ObjectsStayFew
objects_few L H s made e valid run enabled row = few_objects made (made_row L H s made e valid run enabled row).few
