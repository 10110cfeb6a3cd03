use Rattle.std.proofs.Common.{◌≡◌, sym, subst, ◌∙◌}
use Rattle.rl_defs.specs.ScriptRules.{target_trait}
use Rattle.script_checker.specs.Scopes.{Scoped, without_interfaces}
use Rattle.script_checker.proofs.TargetLaws.{trait_of_load, trait_of_shadow}
use Rattle.script_checker.proofs.scope.Scope.target_trait.Goals as goal

pub returns-in-Some : goal.returns-in-Some
returns-in-Some c =
    subst (λ (s : Scoped). c.trait_at.result ≡ target_trait s.tables s.bundle c.args.name.now) c.self.view_is
    (c.trait_at.ensures ∙ trait_of_load c.self.inside.tables.now (without_interfaces c.self.inside.domains.now c.self.inside.plan.now c.self.inside.clients.now) c.args.name.now c.self.inside.loads.names c.self.inside.loads.traits c.in-Some.place c.self.invariant.loads_are c.self.invariant.loaded_are (sym c.in-Some.ensures))

pub returns-in-None : goal.returns-in-None
returns-in-None c =
    subst (λ (s : Scoped). c.trait_of.result ≡ target_trait s.tables s.bundle c.args.name.now) c.self.view_is
    (c.trait_of.ensures ∙ trait_of_shadow c.self.inside.tables.now (without_interfaces c.self.inside.domains.now c.self.inside.plan.now c.self.inside.clients.now) c.args.name.now c.self.inside.loads.names c.self.inside.shadows.names c.self.inside.shadows.traits c.self.invariant.loads_are c.self.invariant.shadows_are c.self.invariant.shadowed_are (sym c.in-None.ensures))
