-- Each entry of each run names rows of its load.
use Rattle.std.proofs.Common.{◌≡◌, ℕ, ◌+◌, ◌<◌, ◌⊎◌, inl, inr, Bool, true, false, ◌==◌, List, [], ◌∷◌, length, map, All, Option, Some, None, refl, sym, ap, subst, arith}
use Rattle.std.specs.List.{AllByRecursion}
use Rattle.std.proofs.lemmas.Bool.Decides.{Decides-eqb}
use Rattle.std.proofs.lemmas.List.Elements.{recursion_from_All, All-from_recursion, All-append, All-cons, All-nil}
use Rattle.machine_defs.specs.declared.entry.Entry.{Entry}
use Rattle.machine_defs.specs.declared.entry.Entry.TheVariants as entry
use Rattle.machine_defs.specs.declared.values.Arg.{Arg}
use Rattle.machine_defs.specs.declared.values.Arg.TheVariants as arg
use Rattle.machine_defs.specs.declared.frame.Action.TheVariants as action
use Rattle.rl_defs.specs.declared.values.Value.{Value}
use Rattle.rl_defs.specs.declared.values.Value.TheVariants as value
use Rattle.rl_defs.specs.declared.load.LoadRows.{LoadRows}
use Rattle.rl_defs.specs.declared.load.Command.{Command}
use Rattle.rl_defs.specs.declared.load.Command.TheVariants as command
use Rattle.rl_defs.specs.declared.tables.Kind.{Kind}
use Rattle.rl_defs.specs.declared.tables.Kind.TheVariants as kind
use Rattle.rl_defs.specs.Rows.{row, is_target, trait_if}
use Rattle.rl_defs.specs.ValidScripts.{CommandFits}
use Rattle.rl_defs.specs.Valid.{Valid, IsOwnable, IsPassable}
use Rattle.rl_defs.proofs.Lists.{and_left, and_right}
use Rattle.rl_defs.proofs.ValidFacts.{method_kept, command_fits}
use Rattle.machine_defs.specs.NativeFits.{arg_suits, args_suit, value_suits, values_suit}
use Rattle.machine_defs.specs.State.{State}
use Rattle.machine_defs.specs.Objects.{shown, listed, listed_from, cell_value, is_zero, cells_in, hung_in}
use Rattle.machine_defs.specs.Loans.{object_of}
use Rattle.machine_defs.specs.Seen.{types_of}
use Rattle.machine_defs.specs.Entries.{thread_of}
use Rattle.machine_defs.specs.Calling.{is_enabled, is_undone, wish, Wish}
use Rattle.machine_defs.specs.CallRows.{WouldCall, WouldReenter}
use Rattle.machine_defs.specs.ObjectRows.{Gives}
use Rattle.machine_defs.specs.Steps.{Row, Step, Turn}
use Rattle.machine_defs.specs.History.{turns_of}
use Rattle.machine_defs.specs.Runs.{Run, Begins, GoesOn, entries_of_turn}
use Rattle.machine_defs.specs.EntryTexts.{IsTarget, NamesMethod, ArgNamesRows, ValueNamesRows, NamesRows, RunsNameRows}
use Rattle.machine_laws.specs.LedgerOf.{ledger_of}
use Rattle.machine_laws.specs.LedgerSound.{Owned}
use Rattle.machine_laws.specs.Shape.{Laid}
use Rattle.machine_laws.specs.Fitting.{Fitting}
use Rattle.machine_laws.proofs.Acting.{acts_as}
use Rattle.machine_laws.proofs.CallSteps.{ClientsCall, called, not_waiting}
use Rattle.machine_laws.proofs.EndSteps.{top_call}
use Rattle.machine_laws.proofs.ReturnSteps.{returns_well}
use Rattle.machine_laws.proofs.NameKinds.{commanding}
use Rattle.machine_laws.proofs.ScriptSteps.{client_facts}
use Rattle.machine_laws.proofs.LedgerRuns.{ledger_kept}
use Rattle.machine_laws.proofs.PlansOf.{plan_of}
use Rattle.machine_laws.proofs.EachRun.{holds_run}
use Rattle.text_laws.proofs.NewStructs.{frame_makes}

-- ---- arguments and values

-- what has one of the load's traits is a target
has_trait : (L : LoadRows) (x t : ℕ) → t < length L.tables.traits → (trait_if L (is_target L x) x == t) ≡ true → IsTarget L x
has_trait L x t less same = by (is_target L x) refl where
  by : (b : Bool) → is_target L x ≡ b → IsTarget L x
  by true is = is
  by false is =
      let e : trait_if L (is_target L x) x ≡ t = (Decides-eqb (trait_if L (is_target L x) x) t).0 same in
      let none : trait_if L (is_target L x) x ≡ length L.tables.traits = ap (λ (b : Bool). trait_if L b x) is in
      absurd (omega (arith, e, none))

arg_named : (L : LoadRows) (s : State) (k : Kind) (a : Arg) → IsPassable L.tables k → arg_suits (types_of L s) k a ≡ true → ArgNamesRows L a
arg_named L s k (arg.Num n) passable suits = tt
arg_named L s k (arg.Moved o) passable suits = tt
arg_named L s k (arg.Lent o) passable suits = tt
arg_named L s (kind.Cap t) (arg.Cap x) passable suits = has_trait L x t passable suits
arg_named L s (kind.Num w) (arg.Cap x) passable suits = let never : false ≡ true = suits in absurd cc
arg_named L s (kind.Own ty) (arg.Cap x) passable suits = let never : false ≡ true = suits in absurd cc
arg_named L s (kind.Lent ty) (arg.Cap x) passable suits = let never : false ≡ true = suits in absurd cc

args_named : (L : LoadRows) (s : State) (kinds : List Kind) (args : List Arg) → AllByRecursion (IsPassable L.tables) kinds → args_suit (types_of L s) kinds args ≡ true → AllByRecursion (ArgNamesRows L) args
args_named L s kinds [] passable suits = tt
args_named L s [] (a ∷ args) passable suits = let never : false ≡ true = suits in absurd cc
args_named L s (k ∷ kinds) (a ∷ args) passable suits = (
  arg_named L s k a passable.0 (and_left (arg_suits (types_of L s) k a) (args_suit (types_of L s) kinds args) suits),
  args_named L s kinds args passable.1 (and_right (arg_suits (types_of L s) k a) (args_suit (types_of L s) kinds args) suits),
)

value_named : (L : LoadRows) (s : State) (k : Kind) (v : Value) → IsOwnable L.tables k → value_suits (types_of L s) k v ≡ true → ValueNamesRows L v
value_named L s k (value.Num n) ownable suits = tt
value_named L s k (value.Obj o) ownable suits = tt
value_named L s (kind.Cap t) (value.Cap x) ownable suits = absurd ownable
value_named L s (kind.Num w) (value.Cap x) ownable suits = let never : false ≡ true = suits in absurd cc
value_named L s (kind.Own ty) (value.Cap x) ownable suits = let never : false ≡ true = suits in absurd cc
value_named L s (kind.Lent ty) (value.Cap x) ownable suits = absurd ownable

values_named : (L : LoadRows) (s : State) (kinds : List Kind) (values : List Value) → AllByRecursion (IsOwnable L.tables) kinds → values_suit (types_of L s) kinds values ≡ true → AllByRecursion (ValueNamesRows L) values
values_named L s kinds [] ownable suits = tt
values_named L s [] (v ∷ values) ownable suits = let never : false ≡ true = suits in absurd cc
values_named L s (k ∷ kinds) (v ∷ values) ownable suits = (
  value_named L s k v ownable.0 (and_left (value_suits (types_of L s) k v) (values_suit (types_of L s) kinds values) suits),
  values_named L s kinds values ownable.1 (and_right (value_suits (types_of L s) k v) (values_suit (types_of L s) kinds values) suits),
)

-- cells hold numbers and objects
cell_named : (L : LoadRows) (h : Option ℕ) (n : ℕ) → ValueNamesRows L (cell_value h n)
cell_named L None n = tt
cell_named L (Some v) n = tt

cons_named : (L : LoadRows) (v : Value) (values : List Value) (zero : Bool) → is_zero v ≡ zero → ValueNamesRows L v → AllByRecursion (ValueNamesRows L) values → AllByRecursion (ValueNamesRows L) (listed v values)
cons_named L v [] true is named rest = rw is tt
cons_named L v [] false is named rest = rw is (named, tt)
cons_named L v (w ∷ values) zero is named rest = (named, rest)

shown_named : (L : LoadRows) (s : State) (o at : ℕ) (cells : List ℕ) → AllByRecursion (ValueNamesRows L) (listed_from s o at cells)
shown_named L s o at [] = tt
shown_named L s o at (n ∷ cells) = cons_named L (cell_value (hung_in s o at) n) (listed_from s o (at + 1) cells) (is_zero (cell_value (hung_in s o at) n)) refl (cell_named L (hung_in s o at) n) (shown_named L s o (at + 1) cells)

-- ---- an entry

module _ (L : LoadRows) (s : State) (valid : Valid L) (laid : Laid L s) (owned : Owned L (ledger_of L s)) (fits : Fitting L s) (clients : ClientsCall L s) where
  -- a wished call
  call_named : (t x m : ℕ) (args : List Arg) (charged : State) → is_undone (row s.threads t) ≡ true → wish L s t ≡ Some (record { target = x; method = m; args = args; charged = charged }) → NamesMethod L x m × All (ArgNamesRows L) args
  call_named t x m args charged ready wants =
      let w : Wish = record { target = x; method = m; args = args; charged = charged } in
      let c = called L s t valid valid.tables laid owned fits clients ready w wants in
      let kinds = recursion_from_All (IsPassable L.tables) c.method.params (method_kept L valid x m c.method c.row).params in
      ((c.target, (c.method, c.row)), All-from_recursion (ArgNamesRows L) args (args_named L s c.method.params args kinds c.suits))

  needed : (t x : ℕ) → is_undone (row s.threads t) ≡ true → WouldCall L s t x ⊎ WouldReenter L s t x → IsTarget L x
  needed t x ready (inl c) = subst (IsTarget L) c.target (called L s t valid valid.tables laid owned fits clients ready c.wished c.wants).target
  needed t x ready (inr d) = subst (IsTarget L) d.target (top_call L s valid valid.tables laid owned fits t d.frame d.on_top).target

  -- what a client makes
  given_struct : (t p : ℕ) (next : Command) (ty : ℕ) (values : List ℕ) → Gives next ty values → CommandFits L t p next → ty < length L.tables.structs
  given_struct t p (command.Let name of given) ty values gives fit = let same = gives.0 in let less = fit.0 in omega (arith, same, less)
  given_struct t p (command.Text name of bytes) ty values gives fit = let same = gives.0 in let less = fit.0 in omega (arith, same, less)
  given_struct t p (command.Call target method args names) ty values gives fit = absurd gives
  given_struct t p (command.Show name) ty values gives fit = absurd gives
  given_struct t p (command.Drop name) ty values gives fit = absurd gives
  given_struct t p (command.Kill target) ty values gives fit = absurd gives

  row_named : (e : Entry) (made : State) → is_enabled L s (thread_of e) ≡ true → Row L s e made → NamesRows L e
  row_named (entry.Call t c x i m args) made enabled r = call_named t x m args r.charged (not_waiting L s t enabled).0 r.wants
  row_named (entry.Refuse t c k x m args) made enabled r = call_named t x m args r.charged (not_waiting L s t enabled).0 r.wants
  row_named (entry.Ret t c results) made enabled r =
      let acts = acts_as L s t (action.Ret results) r.fuel r.frame r.wants in
      let well = returns_well L s valid valid.tables laid owned fits t r.fuel results r.frame acts in
      let kinds = recursion_from_All (IsOwnable L.tables) well.method.results (method_kept L valid acts.f.target acts.f.method well.method well.row).results in
      All-from_recursion (ValueNamesRows L) results (values_named L s well.method.results results kinds well.suits)
  row_named (entry.Reload t x i left) made enabled r = needed t x (not_waiting L s t enabled).0 r.needed
  row_named (entry.Again t c x i) made enabled r = subst (IsTarget L) (sym r.through) (top_call L s valid valid.tables laid owned fits t r.dead r.of.on_top).target
  row_named (entry.New t w o ty values) made enabled r = elim r.makes [
    | inl c ↦ let next = commanding L s t c.does.thread c.next c.does.of c.does.wants in given_struct t c.does.thread.place c.next ty values c.gives (command_fits L valid t c.does.thread.place c.next next.here)
    | inr f ↦ frame_makes L s valid laid fits t ty f.does.fuel f.does.frame (acts_as L s t (action.New ty) f.does.fuel f.does.frame f.does.wants)
  ]
  row_named (entry.Show t o values) made enabled r = subst (All (ValueNamesRows L)) (sym r.lists) (All-from_recursion (ValueNamesRows L) (shown s o) (shown_named L s o 0 (cells_in (object_of s o))))
  row_named _ made enabled r = tt

-- ---- a run

frees_named : (L : LoadRows) (frees : List ℕ) → All (NamesRows L) (map entry.Free frees)
frees_named L [] = All-nil (NamesRows L)
frees_named L (o ∷ frees) = All-cons (NamesRows L) (entry.Free o) (map entry.Free frees) tt (frees_named L frees)

step_named : (L : LoadRows) (valid : Valid L) (G : List Entry) (s z : State) (turn : Turn) → Run L G s → Step L s turn z → NamesRows L turn.entry
step_named L valid G s z turn run step =
    let h = holds_run L valid valid.tables G s run in
    let kept = (ledger_kept L (turns_of G) (ledger_of L s) (plan_of L valid) h.run).0 in
    let facts = client_facts L s valid h.laid h.fits h.at kept.owned in
    row_named L s valid h.laid kept.owned h.fits facts.calls turn.entry step.made step.enabled step.makes

pub runs_name_rows : RunsNameRows
runs_name_rows L H s valid (Begins none is) = subst (All (NamesRows L)) (sym none) (All-nil (NamesRows L))
runs_name_rows L H s valid (GoesOn {G = G} {s = s'} turn run step is) =
    let before = runs_name_rows L G s' valid run in
    let first = step_named L valid G s' s turn run step in
    subst (All (NamesRows L)) (sym is) (All-append (NamesRows L) G (entries_of_turn turn) before (All-cons (NamesRows L) turn.entry (map entry.Free turn.frees) first (frees_named L turn.frees)))
