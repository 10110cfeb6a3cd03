-- What a client's command tells of the names of its script.
use Rattle.std.proofs.Common.{◌≡◌, ℕ, ◌+◌, true, [], Option, Some, None, slice_get, ap, subst, arith, inl, inr}
use Rattle.std.proofs.lemmas.Bool.{cases_Bool}
use Rattle.rl_defs.specs.declared.values.Value.{Value}
use Rattle.rl_defs.specs.declared.tables.Kind.{Kind}
use Rattle.rl_defs.specs.declared.load.LoadRows.{LoadRows}
use Rattle.rl_defs.specs.declared.load.Command.{Command}
use Rattle.machine_defs.specs.State.{State, Thread, stack}
use Rattle.rl_defs.specs.Rows.{row, bound_by}
use Rattle.machine_defs.specs.Wants.{Skips, Commands, by_command, can_do, name_held}
use Rattle.rl_defs.specs.Rows.{commands_of}
use Rattle.machine_defs.specs.NativeFits.{value_suits}
use Rattle.machine_defs.specs.Seen.{types_of}
use Rattle.rl_defs.specs.Rows.{BindsName, kinds_given}
use Rattle.machine_defs.specs.Wants.{wanted}
use Rattle.rl_defs.specs.Valid.{Valid}
use Rattle.rl_defs.proofs.ValidFacts.{bound_once}
use Rattle.machine_laws.specs.Fitting.{NamesFit}
use Rattle.machine_laws.proofs.Acting.{CommandsAs, commands_as}
use Rattle.machine_laws.proofs.NameBinds.{Unused}

-- The next command of a client that has no frame: it can be done.
pub record Commanding (L : LoadRows) (s : State) (t : ℕ) (thread : Thread) (next : Command) : Type 0 where
  pub alone : stack s t ≡ []
  pub here : slice_get (commands_of (row L.clients t)) thread.place ≡ Some next
  pub can : can_do s thread.names next ≡ true

pub commanding : (L : LoadRows) (s : State) (t : ℕ) (thread : Thread) (next : Command) → row s.threads t ≡ Some thread → wanted L s t ≡ Commands next → Commanding L s t thread next
commanding L s t thread next of wants = record { alone = doing.alone; here = found.0; can = found.1 }
  where
    doing : CommandsAs L s t (Commands next)
    doing = commands_as L s t (Commands next) tt wants

    same : doing.thread ≡ thread
    same = let e = doing.of in cc (e, of)

    by : by_command s thread (slice_get (commands_of (row L.clients t)) thread.place) ≡ Commands next
    by = subst (λ (x : Thread). by_command s x (slice_get (commands_of (row L.clients t)) x.place) ≡ Commands next) same doing.by

    go : (c : Option Command) → by_command s thread c ≡ Commands next → (c ≡ Some next) × (can_do s thread.names next ≡ true)
    go None e = absurd cc
    go (Some c) e = elim (cases_Bool (can_do s thread.names c)) [
      | inl can ↦ let e' : Commands c ≡ Commands next = rw can at e in let is : c ≡ next = cc in (ap Some is, subst (λ x. can_do s thread.names x ≡ true) is can)
      | inr can't ↦ absurd (let e' : Skips (thread.place + 1) ≡ Commands next = rw can't at e in cc)
    ]

    found : (slice_get (commands_of (row L.clients t)) thread.place ≡ Some next) × (can_do s thread.names next ≡ true)
    found = go (slice_get (commands_of (row L.clients t)) thread.place) by

module _ (L : LoadRows) (t : ℕ) (scripts : Valid L) where
  -- a name is of one kind
  pub one_kind : (k : ℕ) (a b : Kind) → BindsName L t k a → BindsName L t k b → a ≡ b
  one_kind k a b x y =
      let same = bound_once L scripts t x.place y.place x.at y.at k x.next y.next x.here y.here x.name y.name in
      let next : x.next ≡ y.next = go (x.here) (y.here) same.0 in
      let there : slice_get (kinds_given L x.next) x.at ≡ Some b = rw (next, same.1) y.kind in
      let here = x.kind in
      cc (here, there)
    where
      go : {p q : ℕ} {c d : Command} → slice_get (commands_of (row L.clients t)) p ≡ Some c → slice_get (commands_of (row L.clients t)) q ≡ Some d → p ≡ q → c ≡ d
      go at_p at_q same = cc

  -- so what it holds suits the kind that a command gives it
  pub held_suits : (s : State) (thread : Thread) → NamesFit L s t thread → (k : ℕ) (of : Kind) (v : Value) → BindsName L t k of → name_held thread.names k ≡ Some v → value_suits (types_of L s) of v ≡ true
  held_suits s thread fits k of v binds is =
      let r = fits.kinds k v is in
      subst (λ a. value_suits (types_of L s) a v ≡ true) (one_kind k r.0 of r.1 binds) r.2

  -- the names of the command at a thread's place are there and hold nothing
  pub command_unused : (s : State) (thread : Thread) → NamesFit L s t thread → (c : Command) → slice_get (commands_of (row L.clients t)) thread.place ≡ Some c → Unused (bound_by c) thread.names
  command_unused s thread fits c here = record {
    apart = λ i j k a b. (bound_once L scripts t thread.place thread.place i j k c c here here a b).1;
    none = λ i k is. fits.later k (thread.place, i, c, omega arith, here, is);
    room = λ i k is. fits.room k (thread.place, i, c, omega arith, here, is);
  }
