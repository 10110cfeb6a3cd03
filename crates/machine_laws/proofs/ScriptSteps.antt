-- What clients' scripts make sure of in a state in which everything fits: their calls, what they get, make, drop, show and end.
use Rattle.std.proofs.Common.{◌≡◌, ℕ, true, [], ap, sym, subst, arith}
use Rattle.machine_defs.specs.declared.frame.Answer.TheVariants as answer
use Rattle.rl_defs.specs.declared.load.LoadRows.{LoadRows}
use Rattle.rl_defs.specs.declared.load.Command.TheVariants as command
use Rattle.rl_defs.specs.CodeNames.{results_of}
use Rattle.machine_defs.specs.CodeFits.{are_values}
use Rattle.machine_defs.specs.State.{State}
use Rattle.machine_defs.specs.Loans.{count}
use Rattle.machine_defs.specs.Seen.{types_of}
use Rattle.rl_defs.specs.Rows.{is_target}
use Rattle.machine_defs.specs.CallRows.{Kills}
use Rattle.rl_defs.proofs.ValidFacts.{command_fits}
use Rattle.machine_laws.specs.LedgerOf.{ledger_of}
use Rattle.machine_laws.specs.LedgerSound.{Owned}
use Rattle.machine_laws.specs.Shape.{Laid}
use Rattle.machine_laws.specs.Fitting.{Fitting}
use Rattle.machine_laws.specs.AtCall.{AtCall}
use Rattle.machine_laws.proofs.ReturnSteps.{ClientGets}
use Rattle.machine_laws.proofs.StepRows.{ClientFacts}
use Rattle.machine_laws.proofs.NameBinds.{Unused}
use Rattle.machine_laws.proofs.NameKinds.{commanding, command_unused}
use Rattle.machine_laws.proofs.NamesHeld.{makes_held, drops_held, shows_held, shows_hung}
use Rattle.machine_laws.proofs.ClientCalls.{clients_call}
use Rattle.machine_laws.proofs.ClientAnswers.{back_held, failed_held}
use Rattle.rl_defs.specs.Valid.{Valid}

module _ (L : LoadRows) (s : State) (plans : Valid L) (laid : Laid L s) (fits : Fitting L s) (at : (t : ℕ) → AtCall L s t) where
  -- what a client gets for its call is in the names of the command that it stands at
  pub client_gets : ClientGets L s
  client_gets t f (answer.Back values) method thread alone called reply suits of =
      let calls = (at t).calls f [] thread alone of in
      let unused : Unused calls.1 thread.names = command_unused L t plans s thread (fits.names t thread of) (command.Call f.target f.method calls.0 calls.1) calls.2 in
      back_held L t plans thread f.target f.method calls unused (types_of L s) values (subst (λ m. are_values (types_of L s) (results_of m) values ≡ true) (sym called) suits)
  client_gets t f (answer.Failed why) method thread alone called reply suits of = λ o. (let e = ap (count o) (failed_held L t thread why) in omega (arith, e))
  client_gets t f (answer.Made o) method thread alone called reply suits of = absurd reply
  client_gets t f answer.Went method thread alone called reply suits of = absurd reply

  -- what a client ends is a target
  pub kills_target : (t i : ℕ) (z : State) → (k : Kills L s t i z) → is_target L k.target ≡ true
  kills_target t i z k =
      let c = commanding L s t k.thread (command.Kill k.target) k.of k.wants in
      command_fits L plans t k.thread.place (command.Kill k.target) c.here

  pub client_facts : Owned L (ledger_of L s) → ClientFacts L s
  client_facts owned = record {
    calls = clients_call L s plans laid owned fits;
    gets = client_gets;
    makes = λ t w o ty values z number m. makes_held L s z t plans fits o ty values m;
    drops = λ t o z d. drops_held L s z t plans fits o d;
    shows = λ t o values z d. (shows_held L s z t plans fits o values d, shows_hung L s z t plans fits o values d laid);
    kills = kills_target;
  }
