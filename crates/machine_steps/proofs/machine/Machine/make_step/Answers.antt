use Rattle.std.proofs.Common.{◌≡◌, ℕ, ◌+◌, ◌-◌, ◌<◌, true, List, length, Result, Ok, Err, refl, sym, subst, arith, true≢false}
use Rattle.std.specs.Result.{OnErr}
use Rattle.rl_defs.specs.declared.load.Command.{Command}
use Rattle.rl_defs.specs.declared.load.Command.TheVariants as command
use Rattle.machine_defs.specs.declared.values.Owner.TheVariants as owner
use Rattle.machine_defs.specs.declared.entry.Entry.TheVariants as entry
use Rattle.machine_defs.specs.Wants.{Commands, makes, wanted}
use Rattle.machine_defs.specs.ObjectRows.{Gives}
use Rattle.machine_defs.specs.Calling.{restarts_left}
use Rattle.machine_steps.specs.Kept.{Kept, Went}
use Rattle.machine_steps.specs.Calls.{MayReload}
use Rattle.machine_steps.specs.Next.{IsStep}
use Rattle.machine_steps.specs.Turns.{WentBy, Loads}
use Rattle.machine_steps.proofs.machine.Machine.make_step.Goals as goal

-- the client makes the object that its command gives
made_by : (old new : Kept) (t : ℕ) → length old.log < 262144 → (next : Command) → wanted old.load old.state t ≡ Commands next → makes next ≡ true
    → ((next : Command) (ty : ℕ) (values : List ℕ) → wanted old.load old.state t ≡ Commands next → Gives next ty values → Went old new (entry.New t (owner.Client t) old.state.next_object ty values)) → WentBy old new t
made_by old new t short (command.Let name ty values) wants is went = record { entry = _; by = refl; went = went (command.Let name ty values) ty values wants (refl, refl); short = short }
made_by old new t short (command.Text name ty bytes) wants is went = record { entry = _; by = refl; went = went (command.Text name ty bytes) ty bytes wants (refl, refl); short = short }
made_by old new t short (command.Call x m args names) wants is went = absurd (true≢false (sym is))
made_by old new t short (command.Show n) wants is went = absurd (true≢false (sym is))
made_by old new t short (command.Drop n) wants is went = absurd (true≢false (sym is))
made_by old new t short (command.Kill x) wants is went = absurd (true≢false (sym is))

-- what holds where it fails
on_err : {A E P : Type 0} (r : Result A E) → P → OnErr r P
on_err (Ok x) p = _
on_err (Err x) p = p

pub returns-in_err-reload-in-Reload-clause-err : goal.returns-in_err-reload-in-Reload-clause-err
returns-in_err-reload-in-Reload-clause-err c =
    let may : MayReload c.args.self.now c.args.t c.in-Reload.shadow = subst (IsStep c.args.self.now c.args.t c.args.stand.now) c.in-Reload.is c.requires.step in
    on_err c.from_residual-in_err-reload-in-Reload.result (c.in_err-reload-in-Reload.ensures.err, Loads c.in-Reload.shadow may.needed may.dead)

pub returns-in_ok-make_named-in-Make-clause-ok : goal.returns-in_ok-make_named-in-Make-clause-ok
returns-in_ok-make_named-in-Make-clause-ok c =
    let s = subst (IsStep c.args.self.now c.args.t c.args.stand.now) c.in-Make.is c.requires.step in
    made_by c.args.self.now c.make_named.new.self c.args.t c.requires.may.short s.0 s.1 s.2 c.in_ok-make_named-in-Make.ensures.ok

pub returns-in_ok-reload-in-Reload-clause-ok : goal.returns-in_ok-reload-in-Reload-clause-ok
returns-in_ok-reload-in-Reload-clause-ok c =
    let may : MayReload c.args.self.now c.args.t c.in-Reload.shadow = subst (IsStep c.args.self.now c.args.t c.args.stand.now) c.in-Reload.is c.requires.step in
    let left : restarts_left c.args.self.now.load c.args.self.now.state c.in-Reload.shadow ≡ restarts_left c.args.self.now.load c.args.self.now.state c.in-Reload.shadow - 1 + 1 = omega (arith, may.left) in
    record { entry = _; by = refl; went = c.in_ok-reload-in-Reload.ensures.ok (restarts_left c.args.self.now.load c.args.self.now.state c.in-Reload.shadow - 1) left; short = c.requires.may.short }
