-- A client's call: its caller in the ledger, and what it passes.
use Rattle.std.proofs.Common.{◌≡◌, ℕ, ◌-◌, ◌<◌, ◌≤◌, true, false, List, [], map, Some, slice_get, refl, ap, sym, subst, ◌∙◌, arith, inl, inr}
use Rattle.std.specs.List.{list_any}
use Rattle.std.proofs.lemmas.Bool.{cases_Bool, and_parts}
use Rattle.rl_defs.specs.declared.values.Value.TheVariants as value
use Rattle.machine_defs.specs.declared.values.Arg.{Arg}
use Rattle.rl_defs.specs.declared.tables.Kind.TheVariants as kind
use Rattle.rl_defs.specs.declared.load.LoadRows.{LoadRows}
use Rattle.rl_defs.specs.declared.load.Command.{Command}
use Rattle.rl_defs.specs.declared.load.Command.TheVariants as command
use Rattle.rl_defs.specs.declared.load.ScriptArg.TheVariants as given
use Rattle.machine_defs.specs.State.{State, Thread, stack, with_thread}
use Rattle.rl_defs.specs.Rows.{row}
use Rattle.machine_defs.specs.Loans.{count}
use Rattle.machine_defs.specs.Wants.{name_held, arg_of}
use Rattle.machine_defs.specs.Calling.{Wish, unless_moved, outranks, is_undone}
use Rattle.machine_defs.specs.Arguments.{has, moved_of, lent_of}
use Rattle.machine_defs.specs.NativeFits.{args_suit}
use Rattle.machine_defs.specs.Seen.{types_of}
use Rattle.rl_defs.specs.ValidScripts.{CallFits}
use Rattle.rl_defs.specs.Valid.{Valid}
use Rattle.rl_defs.proofs.ValidFacts.{command_fits}
use Rattle.machine_laws.specs.LedgerOf.{names_held, ledger_of}
use Rattle.machine_laws.specs.LedgerSound.{Owned}
use Rattle.machine_laws.specs.LedgerRows.{Runs, MayPass}
use Rattle.machine_laws.specs.Shape.{Laid}
use Rattle.machine_laws.specs.Fitting.{Fitting, NamesFit}
use Rattle.machine_laws.proofs.Tops.{bottom, runs_client}
use Rattle.machine_laws.proofs.Pushing.{thread_ledger, laid_thread}
use Rattle.machine_laws.proofs.CallerRanks.{below_client}
use Rattle.machine_laws.proofs.Wishes.{ClientWish}
use Rattle.machine_laws.proofs.CallingRows.{Caller}
use Rattle.machine_laws.proofs.CallSteps.{Called, ClientsCall}
use Rattle.machine_laws.proofs.Counts.{none_counted, has_counted}
use Rattle.machine_laws.proofs.OwnRows.{at_most_once}
use Rattle.machine_laws.proofs.NameCounts.{objects_of, held_some, held_apart, count_kept}
use Rattle.machine_laws.proofs.NameKinds.{Commanding, commanding, held_suits}
use Rattle.machine_laws.proofs.ClientArgs.{all_bound, args_hold, owned_at}
use Rattle.machine_laws.proofs.ClientMoves.{moves_some, lends_some, moved_once}

module _ (L : LoadRows) (s : State) (t : ℕ) (scripts : Valid L) (laid : Laid L s) (owned : Owned L (ledger_of L s)) (fits : Fitting L s) (ready : is_undone (row s.threads t) ≡ true) (w : Wish) (wished : ClientWish L s t w) where
  abbrev pub thread : Thread
  thread = wished.thread

  abbrev pub args : List Arg
  args = map (arg_of thread.names) wished.given

  abbrev pub call : Command
  call = command.Call w.target w.method wished.given wished.names

  -- the client after its call, without the objects that it moves
  abbrev pub charged_thread : Thread
  charged_thread = record thread { fuel = L.fuel - 1; names = map (unless_moved (moved_of args)) thread.names }

  pub commands : Commanding L s t thread call
  commands = commanding L s t thread call wished.of wished.wants

  fit : CallFits L t thread.place w.target w.method wished.given wished.names
  fit = command_fits L scripts t thread.place call commands.here

  names : NamesFit L s t thread
  names = fits.names t thread wished.of

  bound : all_bound thread.names wished.given ≡ true
  bound = (and_parts (all_bound thread.names wished.given) true commands.can).0

  pub runs : Runs L (ledger_of L s) t (bottom t (Some thread)) []
  runs = runs_client L s t thread laid wished.of ready commands.alone

  pub none_outranks : (rank : ℕ) → list_any (outranks L s rank) (stack s t) ≡ true → ⊥
  none_outranks rank some = let e : false ≡ true = rw commands.alone at some in cc

  once : (o : ℕ) → count o (objects_of thread.names) ≤ 1
  once o = at_most_once L (ledger_of L s) owned t (bottom t (Some thread)) [] runs o

  owned_param : (i k o : ℕ) → slice_get wished.given i ≡ Some (given.Name k) → name_held thread.names k ≡ Some (value.Obj o) → (r : ℕ) × (slice_get fit.method.params i ≡ Some (kind.Own r))
  owned_param i k o is holds = owned_at L t thread.place (types_of L s) thread.names (λ j of v. held_suits L t scripts s thread names j of v) (λ x. refl) fit.method.params wished.given fit.suits i k o is holds

  moved_most : (o : ℕ) → count o (moved_of args) ≤ 1
  moved_most o = moved_once thread.names wished.given o (λ i j k l is holds is' holds'.
      let same = held_apart thread.names l k o (once o) holds' holds in
      let a = owned_param i k o is holds in
      let b = owned_param j l o is' holds' in
      fit.moves i j k a.0 b.0 is a.1 (is' ∙ ap (λ n. Some (given.Name n)) same) b.1)

  apart : (o : ℕ) → 0 < count o (moved_of args) → 0 < count o (lent_of args) → ⊥
  apart o moved lent =
      let x = moves_some thread.names wished.given o moved in
      let y = lends_some thread.names wished.given o lent in
      let same = held_apart thread.names y.name x.name o (once o) y.holds x.holds in
      let a = owned_param x.at x.name o x.here x.holds in
      fit.lends x.at y.at x.name a.0 x.here a.1 (y.here ∙ ap (λ n. Some (given.Lent n)) same)

  passes : MayPass (bottom t (Some thread)) args (names_held (Some charged_thread))
  passes = record {
    moved = λ o.
        let after = count_kept (moved_of args) o thread.names in
        elim (cases_Bool (has (moved_of args) o)) [
          | inl gone ↦
              let some = has_counted (moved_of args) o gone in
              let x = moves_some thread.names wished.given o some in
              let mine = held_some thread.names x.name o x.holds in
              let none : count o (objects_of (map (unless_moved (moved_of args)) thread.names)) ≡ 0 = rw gone at after in
              omega (arith, none, some, mine, moved_most o, once o)
          | inr stays ↦
              let none = none_counted (moved_of args) o stays in
              let same : count o (objects_of (map (unless_moved (moved_of args)) thread.names)) ≡ count o (objects_of thread.names) = rw stays at after in
              omega (arith, none, same)
        ];
    lent = λ o some.
        let y = lends_some thread.names wished.given o some in
        let mine = held_some thread.names y.name o y.holds in
        let after = count_kept (moved_of args) o thread.names in
        elim (cases_Bool (has (moved_of args) o)) [
          | inl gone ↦ absurd (apart o (has_counted (moved_of args) o gone) some)
          | inr stays ↦ let same : count o (objects_of (map (unless_moved (moved_of args)) thread.names)) ≡ count o (objects_of thread.names) = rw stays at after in inl (omega (arith, same, mine))
        ];
  }

  abbrev pub client_caller : Caller L s t w.charged
  client_caller =
      let charged_is : w.charged ≡ with_thread s t charged_thread = ap (λ (v : Wish). v.charged) wished.is in
      record {
        f = bottom t (Some thread);
        fs = [];
        own = names_held (Some charged_thread);
        runs = runs;
        ledger = ap (ledger_of L) charged_is ∙ thread_ledger L s t thread charged_thread laid wished.of refl commands.alone;
        laid = subst (Laid L) (sym charged_is) (laid_thread L s t charged_thread laid);
        objects = ap (λ (v : State). v.objects) charged_is;
        height = rw commands.alone refl;
        below = λ rank none. below_client L s rank t (Some thread);
        above = λ rank some. absurd (none_outranks rank some);
      }

  pub client_called : Called L s t w
  client_called =
      let args_is : w.args ≡ args = ap (λ (v : Wish). v.args) wished.is in
      record {
        caller = client_caller;
        target = fit.target;
        method = fit.method;
        row = fit.here;
        suits = subst (λ passed. args_suit (types_of L s) fit.method.params passed ≡ true) (sym args_is) (args_hold L t thread.place (types_of L s) thread.names (λ j of v. held_suits L t scripts s thread names j of v) (λ x. refl) fit.method.params wished.given fit.suits bound);
        passes = subst (λ passed. MayPass (bottom t (Some thread)) passed (names_held (Some charged_thread))) (sym args_is) passes;
        apart = λ o moved lent. apart o (subst (λ passed. 0 < count o (moved_of passed)) args_is moved) (subst (λ passed. 0 < count o (lent_of passed)) args_is lent);
      }

-- so the calls of clients pass what they may
pub clients_call : (L : LoadRows) (s : State) → Valid L → Laid L s → Owned L (ledger_of L s) → Fitting L s → ClientsCall L s
clients_call L s scripts laid owned fits t w ready wished = client_called L s t scripts laid owned fits ready w wished
