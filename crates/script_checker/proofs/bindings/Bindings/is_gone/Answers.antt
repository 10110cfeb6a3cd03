use Rattle.std.proofs.Common.{◌≡◌, ℕ, Option, sym, ap, subst, ◌∙◌}
use Rattle.std.specs.Prelude.{is_some}
use Rattle.rl_defs.specs.ScriptRules.{is_among}
use Rattle.script_checker.specs.Known.{Known}
use Rattle.script_checker.proofs.Naming.{among_place}
use Rattle.script_checker.proofs.bindings.Bindings.is_gone.Goals as goal

pub returns : goal.returns
returns c = subst (λ (s : Known). c.is_some.result ≡ is_among c.args.name.now s.gone) c.self.view_is (c.is_some.ensures ∙ (ap (λ (o : Option ℕ). is_some o) c.place.ensures ∙ sym (among_place c.args.name.now c.self.inside.gone)))
