use Rattle.std.proofs.Common.{◌≡◌, true, sym, subst}
use Rattle.rl_defs.specs.Rows.{row}
use Rattle.machine_defs.specs.Calling.{is_enabled, is_undone}
use Rattle.machine_steps.specs.Kept.{Kept}
use Rattle.machine_steps.specs.Inside.{kept}
use Rattle.machine_steps.specs.Calls.{MayIssueAgain, MayReload}
use Rattle.machine_steps.specs.Returning.{MayUnwind}
use Rattle.machine_steps.specs.Turns.{WaitsFor}
use Rattle.machine_steps.specs.Wishes.{IsDeadTop}
use Rattle.proxies.specs.declared.reentry.Reentry.TheVariants as reentry
use Rattle.machine_steps.proofs.Choosing.{reentry_same, dead_again, dead_unwinds, dead_reloads, dead_waits}
use Rattle.machine_steps.proofs.machine.Machine.next_of_dead.Goals as goal

pub returns-in-Again : goal.returns-in-Again
returns-in-Again c stand =
    let dead = subst (λ (w : Kept). IsDeadTop w c.args.t c.args.call c.args.target) (sym c.self.view_is) c.requires.dead in
    let undone = subst (λ (w : Kept). is_undone (row w.state.threads c.args.t) ≡ true) (sym c.self.view_is) c.requires.undone in
    subst (λ (w : Kept). (is_enabled w.load w.state c.args.t ≡ true) × MayIssueAgain w c.args.t c.args.call c.args.target c.in-Again.instance) c.self.view_is
    (dead_again (kept c.self.inside) c.args.t c.args.call c.args.target undone dead c.in-Again.instance
    (reentry_same c.self.inside c.args.t dead.frame (reentry.Again c.in-Again.instance) (c.in-Again.ensures dead.frame dead.on_top)))

pub returns-in-Unwound : goal.returns-in-Unwound
returns-in-Unwound c stand =
    let dead = subst (λ (w : Kept). IsDeadTop w c.args.t c.args.call c.args.target) (sym c.self.view_is) c.requires.dead in
    let undone = subst (λ (w : Kept). is_undone (row w.state.threads c.args.t) ≡ true) (sym c.self.view_is) c.requires.undone in
    subst (λ (w : Kept). (is_enabled w.load w.state c.args.t ≡ true) × MayUnwind w c.args.t c.args.call) c.self.view_is
    (dead_unwinds (kept c.self.inside) c.args.t c.args.call c.args.target undone dead
    (reentry_same c.self.inside c.args.t dead.frame reentry.Unwound (c.in-Unwound.ensures dead.frame dead.on_top)))

pub returns-in-Reload : goal.returns-in-Reload
returns-in-Reload c stand =
    let dead = subst (λ (w : Kept). IsDeadTop w c.args.t c.args.call c.args.target) (sym c.self.view_is) c.requires.dead in
    let undone = subst (λ (w : Kept). is_undone (row w.state.threads c.args.t) ≡ true) (sym c.self.view_is) c.requires.undone in
    subst (λ (w : Kept). (is_enabled w.load w.state c.args.t ≡ true) × MayReload w c.args.t c.args.target) c.self.view_is
    (dead_reloads (kept c.self.inside) c.args.t c.args.call c.args.target undone dead
    (reentry_same c.self.inside c.args.t dead.frame reentry.Reload (c.in-Reload.ensures dead.frame dead.on_top)))

pub returns-in-Wait : goal.returns-in-Wait
returns-in-Wait c stand =
    let dead = subst (λ (w : Kept). IsDeadTop w c.args.t c.args.call c.args.target) (sym c.self.view_is) c.requires.dead in
    let undone = subst (λ (w : Kept). is_undone (row w.state.threads c.args.t) ≡ true) (sym c.self.view_is) c.requires.undone in
    subst (λ (w : Kept). WaitsFor w c.args.t c.in-Wait.client) c.self.view_is
    (dead_waits (kept c.self.inside) c.args.t c.args.call c.args.target undone dead c.in-Wait.client
    (reentry_same c.self.inside c.args.t dead.frame (reentry.Wait c.in-Wait.client) (c.in-Wait.ensures dead.frame dead.on_top)))
