use Rattle.std.proofs.Common.{◌≡◌, [], ◌∷◌, ◌++◌, subst}
use Rattle.rl_defs.specs.ScriptRules.{paired}
use Rattle.script_checker.specs.Known.{Known, bound_name}
use Rattle.script_checker.proofs.Naming.{view_more}
use Rattle.script_checker.proofs.bindings.Bindings.bind.Goals as goal

pub returns-in-Ok : goal.returns-in-Ok
returns-in-Ok c =
    subst (λ (s : Known). ◌≡◌ {A = Known} (record { names = c.add.new.names; bound = paired c.add.new.names c.push.new.kinds.items; gone = c.self.inside.gone }) (record { names = s.names ++ c.args.name.now ∷ []; bound = s.bound ++ bound_name c.args.name.now c.args.kind ∷ []; gone = s.gone })) c.self.view_is
    (view_more c.self.inside.names c.add.new.names c.self.inside.kinds.items c.push.new.kinds.items c.self.inside.gone c.args.name.now c.args.kind c.self.invariant c.in-Ok.ensures.added c.in_ok-push.ensures.added)
