-- What a client's own frame holds after what its script does, in the words of the ledger.
use Rattle.std.proofs.Common.{◌≡◌, ℕ, ◌+◌, ◌<◌, ◌==◌, true, false, ◌||◌, List, [], ◌∷◌, length, Option, Some, None, slice_get, slice_set, refl, ap, subst, ◌∙◌, arith, inl, inr}
use Rattle.std.proofs.lemmas.Bool.{cases_Bool, eqb-true}
use Rattle.rl_defs.specs.declared.values.Value.{Value}
use Rattle.rl_defs.specs.declared.values.Value.TheVariants as value
use Rattle.rl_defs.specs.declared.load.LoadRows.{LoadRows}
use Rattle.rl_defs.specs.declared.load.Command.{Command}
use Rattle.rl_defs.specs.declared.load.Command.TheVariants as command
use Rattle.machine_defs.specs.State.{State, Thread, Hung}
use Rattle.rl_defs.specs.Rows.{row, bound_by}
use Rattle.machine_defs.specs.Loans.{count, object_of}
use Rattle.rl_defs.specs.Rows.{commands_of}
use Rattle.machine_defs.specs.Wants.{name_held}
use Rattle.machine_defs.specs.Arguments.{has}
use Rattle.machine_defs.specs.Frames.{names_of, after_command}
use Rattle.machine_defs.specs.Objects.{hung_in, cells_in, cell_value, is_zero, listed, listed_from, shown}
use Rattle.machine_defs.specs.CallRows.{command_done}
use Rattle.machine_defs.specs.ObjectRows.{Gives, ClientMakes, ClientDrops, Shows, without_name}
use Rattle.machine_defs.specs.Arguments.{objects_in}
use Rattle.rl_defs.specs.Valid.{Valid}
use Rattle.machine_laws.specs.LedgerOf.{names_held, seat_of}
use Rattle.machine_laws.specs.LedgerRows.{Exchanged}
use Rattle.machine_laws.specs.Shape.{Laid}
use Rattle.machine_laws.specs.Fitting.{Fitting, NamesFit}
use Rattle.machine_laws.proofs.ClientRows.{bind_none}
use Rattle.machine_laws.proofs.Seats.{seats}
use Rattle.machine_laws.proofs.Sights.{hung_there}
use Rattle.machine_laws.proofs.NameCounts.{share, held_set, held_within, held_some}
use Rattle.machine_laws.proofs.NameBinds.{count_bound}
use Rattle.machine_laws.proofs.NameKinds.{commanding, command_unused}

-- the objects that a cell shows hang in it
objects_listed : (o at : ℕ) (s : State) (w : Value) (values : List Value) → ((v : ℕ) → has (objects_in values) v ≡ true → (k : ℕ) × (hung_in s o k ≡ Some v)) → ((v : ℕ) → w ≡ value.Obj v → hung_in s o at ≡ Some v)
    → (v : ℕ) → has (objects_in (listed w values)) v ≡ true → (k : ℕ) × (hung_in s o k ≡ Some v)
objects_listed o at s (value.Num n) [] later here v is = elim (cases_Bool (is_zero (value.Num n))) [
  | inl e ↦ absurd (let h : has (objects_in []) v ≡ true = rw e at is in cc)
  | inr e ↦ absurd (let h : has (objects_in (value.Num n ∷ [])) v ≡ true = rw e at is in cc)
]
objects_listed o at s (value.Cap x) [] later here v is = absurd cc
objects_listed o at s (value.Obj p) [] later here v is = elim (cases_Bool (p == v)) [
  | inl e ↦ (at, here v (ap value.Obj (eqb-true p v e)))
  | inr e ↦ absurd (let h : has (p ∷ []) v ≡ true = is in let h' : false ≡ true = rw e at h in cc)
]
objects_listed o at s (value.Num n) (x ∷ values) later here v is = later v is
objects_listed o at s (value.Cap c) (x ∷ values) later here v is = later v is
objects_listed o at s (value.Obj p) (x ∷ values) later here v is = elim (cases_Bool (p == v)) [
  | inl e ↦ (at, here v (ap value.Obj (eqb-true p v e)))
  | inr e ↦ later v (let h : (p == v || has (objects_in (x ∷ values)) v) ≡ true = is in rw e at h)
]

pub listed_hung : (s : State) (o at : ℕ) (cells : List ℕ) (v : ℕ) → has (objects_in (listed_from s o at cells)) v ≡ true → (k : ℕ) × (hung_in s o k ≡ Some v)
listed_hung s o at [] v is = absurd cc
listed_hung s o at (n ∷ cells) v is =
    objects_listed o at s (cell_value (hung_in s o at) n) (listed_from s o (at + 1) cells) (λ w h. listed_hung s o (at + 1) cells w h) (λ w e. cell (hung_in s o at) w refl e) v is
  where
    cell : (found : Option ℕ) (w : ℕ) → hung_in s o at ≡ found → cell_value found n ≡ value.Obj w → hung_in s o at ≡ Some w
    cell None w e shows = absurd cc
    cell (Some q) w e shows = let same : q ≡ w = cc in e ∙ ap Some same

-- what `show` lists of objects hangs in the object
pub shown_hung : (L : LoadRows) (s : State) (o : ℕ) → Laid L s → (v : ℕ) → has (objects_in (shown s o)) v ≡ true → (k : ℕ) × (seats s v ≡ Some (Hung o k))
shown_hung L s o laid v is =
    let r = listed_hung s o 0 (cells_in (object_of s o)) v is in
    let x = hung_there L s o r.0 v laid r.1 in
    (r.0, ap seat_of x.1 ∙ ap Some x.2)

module _ (L : LoadRows) (s z : State) (t : ℕ) (scripts : Valid L) (fits : Fitting L s) where
  -- the names of the command at the thread's place hold its results
  pub bound_held : (thread : Thread) → NamesFit L s t thread → (c : Command) → slice_get (commands_of (row L.clients t)) thread.place ≡ Some c → (values : List Value) → length (bound_by c) ≡ length values
      → Exchanged (names_held (Some thread)) [] (objects_in values) (names_held (Some (after_command L t thread values)))
  bound_held thread names c here values same o = rw here (let r = count_bound o (bound_by c) values thread.names (command_unused L t scripts s thread names c here) same in omega (arith, r))

  one_name : (next : Command) (ty : ℕ) (values : List ℕ) (w : Value) → Gives next ty values → length (bound_by next) ≡ length (w ∷ [])
  one_name (command.Let name of given) ty values w gives = refl
  one_name (command.Text name of given) ty values w gives = refl
  one_name other ty values w gives = absurd gives

  -- `let` and `text`
  pub makes_held : {w : _} (o ty : ℕ) (values : List ℕ) (m : ClientMakes L s t w o ty values z)
      → Exchanged (names_held (Some m.does.thread)) [] (o ∷ []) (names_held (Some (command_done L t (value.Obj o ∷ []) m.does.thread)))
  makes_held o ty values m =
      let c = commanding L s t m.does.thread m.next m.does.of m.does.wants in
      bound_held m.does.thread (fits.names t m.does.thread m.does.of) m.next c.here (value.Obj o ∷ []) (one_name m.next ty values (value.Obj o) m.gives)

  -- `drop`
  pub drops_held : (o : ℕ) (d : ClientDrops L s t o z) → Exchanged (names_held (Some d.thread)) (o ∷ []) [] (names_held (Some (command_done L t [] (without_name d.name d.thread))))
  drops_held o d p =
      let set = held_set p d.thread.names d.name None (held_within d.thread.names d.name (value.Obj o) d.object) in
      let one : share p (name_held d.thread.names d.name) ≡ count p (o ∷ []) = rw d.object refl in
      rw (bind_none (names_of (slice_get (commands_of (row L.clients t)) d.thread.place)) (slice_set d.thread.names d.name None)) (omega (arith, set, one))

  -- `show`
  pub shows_held : (o : ℕ) (values : List Value) (d : Shows L s t o values z) → 0 < count o (names_held (Some d.thread))
  shows_held o values d = held_some d.thread.names d.name o d.object

  pub shows_hung : (o : ℕ) (values : List Value) (d : Shows L s t o values z) → Laid L s → (v : ℕ) → has (objects_in values) v ≡ true → (k : ℕ) × (seats s v ≡ Some (Hung o k))
  shows_hung o values d laid v is = shown_hung L s o laid v (subst (λ xs. has (objects_in xs) v ≡ true) d.lists is)
