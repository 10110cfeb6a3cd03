-- At most 65,536 objects are live: at the start, after each row, and after each sweep.
use Rattle.std.proofs.Common.{◌≡◌, ℕ, zero, suc, ◌+◌, ◌<◌, ◌≤◌, Bool, true, false, not, ◌&&◌, inl, inr, nat_le, nat_lt, if◌then◌else◌, List, [], ◌∷◌, length, map, filter, Option, Some, None, slice_get, refl, ap, subst, ◌∙◌, arith, ltb-true, leb-false}
use Rattle.std.proofs.lemmas.Bool.{cases_Bool}
use Rattle.std.specs.List.{list_all}
use Rattle.std.proofs.lemmas.List.{length-map, length-append}
use Rattle.machine_defs.specs.declared.values.Owner.{Owner}
use Rattle.machine_defs.specs.declared.entry.Entry.{Entry}
use Rattle.machine_defs.specs.declared.entry.Entry.TheVariants as entry
use Rattle.machine_defs.specs.declared.values.Cause.TheVariants as cause
use Rattle.machine_defs.specs.declared.frame.Action.{Action}
use Rattle.machine_defs.specs.declared.frame.Action.TheVariants as action
use Rattle.machine_defs.specs.declared.frame.FrameBody.{FrameBody}
use Rattle.machine_defs.specs.declared.frame.FrameBody.TheVariants as body
use Rattle.rl_defs.specs.declared.load.LoadRows.{LoadRows}
use Rattle.rl_defs.specs.declared.load.Command.{Command}
use Rattle.rl_defs.specs.declared.load.Command.TheVariants as command
use Rattle.machine_defs.specs.State.{State, StackFrame, Object, Thread, start}
use Rattle.rl_defs.specs.Rows.{row}
use Rattle.machine_defs.specs.Loans.{sweep, is_doomed}
use Rattle.machine_defs.specs.Arguments.{has}
use Rattle.machine_defs.specs.Objects.{owned_by}
use Rattle.machine_defs.specs.Wants.{Commands, Skips, Acts, used, makes, can_do, name_held, by_command}
use Rattle.rl_defs.specs.Rows.{commands_of}
use Rattle.machine_defs.specs.Objects.{fresh_object}
use Rattle.machine_defs.specs.Wants.{by_body}
use Rattle.machine_defs.specs.ObjectRows.{Gives, Makes}
use Rattle.machine_defs.specs.Steps.{Row}
use Rattle.machine_laws.specs.Shape.{Laid}
use Rattle.machine_laws.specs.Fitting.{Fitting}
use Rattle.machine_laws.proofs.Acting.{ActsAs, acts_as, commands_as}
use Rattle.machine_laws.proofs.CodeDoing.{code_does}
use Rattle.machine_laws.proofs.Moves.{IsNew, Moves, row_moves}
use Rattle.machine_laws.proofs.SoundKinds.{Few}
use Rattle.machine_laws.proofs.Parts.{is_bound}
use Rattle.rl_defs.specs.Valid.{Valid, AreValidTables}

abbrev NoMore : State → State → Type 0
NoMore s z = length z.objects ≤ length s.objects

filter_shorter : {A : Type 0} (test : A → Bool) (xs : List A) → length (filter test xs) ≤ length xs
filter_shorter test [] = omega arith
filter_shorter test (x ∷ xs) = let r = filter_shorter test xs in elim (cases_Bool (test x)) [
  | inl yes' ↦ rw yes' (omega (arith, r))
  | inr no' ↦ rw no' (omega (arith, r))
]

as_many : (g : Object → Object) (xs : List Object) → length (map g xs) ≤ length xs
as_many g xs = let e = length-map xs g in omega (arith, e)

-- all but a `new` make no more objects
no_more_moves : (L : LoadRows) (e : Entry) → (IsNew e → ⊥) → Moves L e NoMore
no_more_moves L e old = record {
  still = λ s. omega arith;
  behind = λ s m z a b. omega (arith, a, b);
  frames = λ s t fs. omega arith;
  thread = λ s t thread. omega arith;
  number = λ s c. omega arith;
  given = λ s w os. as_many (λ x. if has os x.number then owned_by w x else x) s.objects;
  gone = λ s os. filter_shorter (λ x. not (has os x.number)) s.objects;
  made = λ new. absurd (old new);
  cells = λ writes s o change. as_many _ s.objects;
  hung = λ hangs s o parent place. as_many _ s.objects;
  rooted = λ s o w. as_many _ s.objects;
  word = λ s i k v. omega arith;
  taken = λ s i k. omega arith;
  filled = λ puts s i k o. omega arith;
  ends = λ s i. omega arith;
  device = λ saves s b cells. omega arith;
  reload = λ s x left. omega arith;
}

-- a command that is done and makes an object has room for it
has_room : (s : State) (thread : Thread) (c : Option Command) (next : Command) → by_command s thread c ≡ Commands next → makes next ≡ true → length s.objects < 65536
has_room s thread None next e new = absurd cc
has_room s thread (Some c) next e new = elim (cases_Bool (can_do s thread.names c)) [
  | inl can ↦
      let e' : Commands c ≡ Commands next = rw can at e in
      let same : c ≡ next = cc in
      room (list_all (λ k. is_bound (name_held thread.names k)) (used c)) (nat_le 65536 (length s.objects)) refl (rw (ap makes same ∙ new) at can)
  | inr not' ↦ absurd (let e' : Skips (thread.place + 1) ≡ Commands next = rw not' at e in cc)
]
  where
    room : (a b : Bool) → nat_le 65536 (length s.objects) ≡ b → (a && not (true && b)) ≡ true → length s.objects < 65536
    room true true is can = absurd cc
    room true false is can = leb-false 65536 (length s.objects) is
    room false b is can = absurd cc

gives_makes : (next : Command) (ty : ℕ) (values : List ℕ) → Gives next ty values → makes next ≡ true
gives_makes (command.Let name of given) ty values gives = refl
gives_makes (command.Text name of given) ty values gives = refl
gives_makes other ty values gives = absurd gives

-- a native body that makes an object has room for it
native_room : (L : LoadRows) (s : State) (f : StackFrame) (fuel : ℕ) (held : List ℕ) (kept : Action) (ty rest : ℕ) (frame : StackFrame) → by_body L s fuel f (body.Native held kept) ≡ Acts (action.New ty) rest frame → length s.objects < 65536
native_room L s f zero held kept ty rest frame e = absurd cc
native_room L s f (suc fuel) held (action.New of) ty rest frame e = elim (cases_Bool (nat_lt (length s.objects) 65536)) [
  | inl room ↦ ltb-true (length s.objects) 65536 room
  | inr full ↦ absurd (let e' : Acts (action.Trap cause.HeapFull) (suc fuel) f ≡ Acts (action.New ty) rest frame = rw full at e in cc)
]
native_room L s f (suc fuel) held other ty rest frame e = absurd cc

module _ (L : LoadRows) (s : State) (plans : Valid L) (tables : AreValidTables L.tables) (laid : Laid L s) (fits : Fitting L s) where
  frame_room : (t ty rest : ℕ) (frame : StackFrame) → ActsAs L s t (action.New ty) rest frame → length s.objects < 65536
  frame_room t ty rest frame doing = go doing.f.body refl
    where
      go : (b : FrameBody Action) → doing.f.body ≡ b → length s.objects < 65536
      go (body.Code at regs) is =
          let does = code_does L s plans tables laid fits t (action.New ty) rest frame doing at regs is (λ c e. cc) in
          ltb-true (length s.objects) 65536 does.can.0
      go (body.Native held kept) is = native_room L s doing.f doing.thread.fuel held kept ty rest frame (subst (λ b. by_body L s doing.thread.fuel doing.f b ≡ Acts (action.New ty) rest frame) is doing.by)

  made_few : (t : ℕ) (w : Owner) (o ty : ℕ) (values : List ℕ) (made : State) → Makes L s t w o ty values made → Few made
  made_few t w o ty values made r = elim r.makes [
    | inl c ↦
        let by = commands_as L s t (Commands c.next) tt c.does.wants in
        let room = has_room s by.thread (slice_get (commands_of (row L.clients t)) by.thread.place) c.next by.by (gives_makes c.next ty values c.gives) in
        let e : length made.objects ≡ length s.objects + 1 = ap (λ (z : State). length z.objects) c.does.becomes ∙ length-append s.objects ((fresh_object L s.next_object ty w values) ∷ []) in
        omega (arith, room, e)
    | inr f ↦
        let room = frame_room t ty f.does.fuel f.does.frame (acts_as L s t (action.New ty) f.does.fuel f.does.frame f.does.wants) in
        let e : length made.objects ≡ length s.objects + 1 = ap (λ (z : State). length z.objects) f.does.becomes ∙ length-append s.objects ((fresh_object L s.next_object ty w []) ∷ []) in
        omega (arith, room, e)
  ]

  others : (e : Entry) (made : State) → (IsNew e → ⊥) → Row L s e made → Few s → Few made
  others e made old makes few = let r = row_moves L NoMore e (no_more_moves L e old) s made makes in omega (arith, r, few)

  -- a row that makes an object has room for it, and the others make none
  pub few_row : (e : Entry) (made : State) → Row L s e made → Few s → Few made
  few_row (entry.New t w o ty values) made makes few = made_few t w o ty values made makes
  few_row other made makes few = others other made (λ new. new) makes few

-- a sweep takes objects away
pub few_sweep : (s : State) → Few s → Few (sweep s)
few_sweep s few = let r = filter_shorter (λ x. not (is_doomed s x)) s.objects in omega (arith, r, few)

pub few_start : (L : LoadRows) → Few (start L)
few_start L = omega arith
