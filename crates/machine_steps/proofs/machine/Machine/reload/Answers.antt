use Rattle.std.proofs.Common.{refl, sym, ap, subst, arith}
use Rattle.machine_steps.specs.Kept.{MayStep}
use Rattle.machine_steps.specs.Calls.{MayReload}
use Rattle.machine_steps.proofs.ReloadSteps.{roomier, reload_target, restart, reload_stepped}
use Rattle.machine_steps.proofs.machine.Machine.reload.Goals as goal

pub invariant_of-self-in_err-open : goal.invariant_of-self-in_err-open
invariant_of-self-in_err-open c =
    let e = c.in_err-open.ensures.unchanged in
    roomier c.self.invariant c.reserve_owner.ensures.rows c.reserve_owner.ensures.clients c.reserve_owner.ensures.instances c.open.ensures.frames (omega (arith, ap (λ s. s.instances) e)) refl refl

pub reload-requires-clause-a_target : goal.reload-requires-clause-a_target
reload-requires-clause-a_target c =
    reload_target c.self.invariant c.args.t c.args.x (subst (λ w. MayStep w c.args.t) (sym c.self.view_is) c.requires.may) (subst (λ w. MayReload w c.args.t c.args.x) (sym c.self.view_is) c.requires.needs)

pub invariant_of-self-in_err-reload : goal.invariant_of-self-in_err-reload
invariant_of-self-in_err-reload c =
    roomier c.self.invariant c.reserve_owner.ensures.rows c.reserve_owner.ensures.clients c.reserve_owner.ensures.instances c.open.ensures.frames (omega (arith, c.in_ok-open.ensures.opened)) c.in_err-reload.ensures.unopened c.in_err-reload.ensures.shadows

pub invariant_of-self-2 : goal.invariant_of-self-2
invariant_of-self-2 c =
    let left = restart c.self.invariant c.args.t c.args.x (subst (λ w. MayStep w c.args.t) (sym c.self.view_is) c.requires.may) (subst (λ w. MayReload w c.args.t c.args.x) (sym c.self.view_is) c.requires.needs) in
    (reload_stepped c.self.invariant c.args.t c.args.x (subst (λ w. MayStep w c.args.t) (sym c.self.view_is) c.requires.may) (subst (λ w. MayReload w c.args.t c.args.x) (sym c.self.view_is) c.requires.needs)
    c.laws.ensures left.0 left.1 c.len.ensures c.left-left.ensures c.in_ok-reload.ensures.number c.put.ensures.entries c.put.ensures.spare c.reserve_owner.ensures.rows c.reserve_owner.ensures.clients c.in_ok-reserve_owner.ensures.ok
    c.open.ensures.frames c.in_ok-open.ensures.opened c.in_ok-reload.ensures.opened c.in_ok-reload.ensures.stands).kept

pub returns-clause-ok : goal.returns-clause-ok
returns-clause-ok c = rw (← c.self.view_is)
    (λ left is. (reload_stepped c.self.invariant c.args.t c.args.x (subst (λ w. MayStep w c.args.t) (sym c.self.view_is) c.requires.may) (subst (λ w. MayReload w c.args.t c.args.x) (sym c.self.view_is) c.requires.needs)
    c.laws.ensures left is c.len.ensures c.left-left.ensures c.in_ok-reload.ensures.number {heap = c.reserve_owner.new.self} c.put.ensures.entries c.put.ensures.spare c.reserve_owner.ensures.rows c.reserve_owner.ensures.clients c.in_ok-reserve_owner.ensures.ok
    c.open.ensures.frames c.in_ok-open.ensures.opened c.in_ok-reload.ensures.opened c.in_ok-reload.ensures.stands).went)
