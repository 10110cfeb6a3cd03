use Rattle.std.proofs.Common.{◌≡◌, ◌+◌, ℕ, sym, subst, ◌∙◌, ap, arith}
use Rattle.rl_defs.specs.LoadOf.{target_number}
use Rattle.script_checker.specs.Scopes.{Scoped, without_interfaces}
use Rattle.script_checker.proofs.Naming.{place_within}
use Rattle.script_checker.proofs.TargetLaws.{number_of_load, number_of_shadow, number_of_none}
use Rattle.script_checker.proofs.scope.Scope.target_number.Goals as goal

pub overflow_add-result : goal.overflow_add-result
overflow_add-result c = omega (arith, place_within c.args.name.now c.self.inside.loads.names c.in-Some.load (sym c.in-Some.ensures), c.self.invariant.numbered)

pub returns-in-Some : goal.returns-in-Some
returns-in-Some c =
    subst (λ (s : Scoped). c.in-Some.load + 1 ≡ target_number s.bundle c.args.name.now) c.self.view_is
    (number_of_load (without_interfaces c.self.inside.domains.now c.self.inside.plan.now c.self.inside.clients.now) c.args.name.now c.self.inside.loads.names c.in-Some.load c.self.invariant.loads_are (sym c.in-Some.ensures))

pub overflow_add-result-in-Some-place : goal.overflow_add-result-in-Some-place
overflow_add-result-in-Some-place c = omega (arith, place_within c.args.name.now c.self.inside.shadows.names c.in-Some-place.shadow (sym c.in-Some-place.ensures), c.self.invariant.numbered, c.len.ensures)

pub overflow_add-result-in-Some-place-2 : goal.overflow_add-result-in-Some-place-2
overflow_add-result-in-Some-place-2 c = omega (arith, place_within c.args.name.now c.self.inside.shadows.names c.in-Some-place.shadow (sym c.in-Some-place.ensures), c.self.invariant.numbered, c.len.ensures)

pub returns-in-Some-place : goal.returns-in-Some-place
returns-in-Some-place c =
    subst (λ (s : Scoped). c.len.result + c.in-Some-place.shadow + 1 ≡ target_number s.bundle c.args.name.now) c.self.view_is
    (ap (λ (n : ℕ). n + c.in-Some-place.shadow + 1) c.len.ensures ∙ number_of_shadow (without_interfaces c.self.inside.domains.now c.self.inside.plan.now c.self.inside.clients.now) c.args.name.now c.self.inside.loads.names c.self.inside.shadows.names c.in-Some-place.shadow c.self.invariant.loads_are c.self.invariant.shadows_are (sym c.in-None.ensures) (sym c.in-Some-place.ensures))

pub returns-in-None-place : goal.returns-in-None-place
returns-in-None-place c =
    subst (λ (s : Scoped). 0 ≡ target_number s.bundle c.args.name.now) c.self.view_is
    (number_of_none (without_interfaces c.self.inside.domains.now c.self.inside.plan.now c.self.inside.clients.now) c.args.name.now c.self.inside.loads.names c.self.inside.shadows.names c.self.invariant.loads_are c.self.invariant.shadows_are (sym c.in-None.ensures) (sym c.in-None-place.ensures))
