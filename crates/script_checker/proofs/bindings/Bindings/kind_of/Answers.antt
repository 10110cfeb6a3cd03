use Rattle.std.proofs.Common.{◌≡◌, None, sym, subst, ◌∙◌}
use Rattle.rl_defs.specs.ScriptRules.{kind_of}
use Rattle.script_checker.specs.Known.{Known}
use Rattle.script_checker.proofs.Naming.{kind_found, kind_none}
use Rattle.script_checker.proofs.bindings.Bindings.kind_of.Goals as goal

pub returns-in-Some : goal.returns-in-Some
returns-in-Some c = subst (λ (s : Known). c.kind_at.result ≡ kind_of s.bound c.args.name.now) c.self.view_is (c.kind_at.ensures ∙ sym (kind_found c.self.inside.names c.self.inside.kinds.items c.args.name.now c.in-Some.place (sym c.in-Some.ensures)))

pub returns-in-None : goal.returns-in-None
returns-in-None c = subst (λ (s : Known). None ≡ kind_of s.bound c.args.name.now) c.self.view_is (sym (kind_none c.self.inside.names c.self.inside.kinds.items c.args.name.now (sym c.in-None.ensures)))
