use Rattle.std.proofs.Common.{sym, ap, ◌∙◌}
use Rattle.std.specs.Option.{option_copied}
use Rattle.plan_checker.proofs.Looking.{other_missing, other_found, other_gone}
use Rattle.plan_checker.proofs.facts.DomainFacts.is_other_trait.Goals as goal

pub returns-in_default : goal.returns-in_default
returns-in_default c = other_missing c.self.inside.lines.now c.args.self.now c.target.inside.lines.now c.args.target.now c.args.import.now c.target.inside.has c.self.inside.imports.places c.self.view_is c.target.view_is c.self.invariant.places_are (sym c.place.ensures ∙ c.in_default.is) c.target.invariant.trait_is c.target.invariant.trait_named

pub returns-in-Some-get : goal.returns-in-Some-get
returns-in-Some-get c = other_found c.self.inside.lines.now c.args.self.now c.target.inside.lines.now c.args.target.now c.args.import.now c.in-Some-get.has.now c.target.inside.has c.self.inside.imports.places c.self.inside.imports.traits c.in-Some.place c.ne.result c.self.view_is c.target.view_is c.self.invariant.places_are c.self.invariant.traits_are (sym c.place.ensures ∙ c.in-Some.is) (sym c.get.ensures ∙ ap option_copied c.in-Some-get.is) c.target.invariant.trait_is c.ne.ensures

pub returns-in-None : goal.returns-in-None
returns-in-None c = other_gone c.self.inside.lines.now c.args.self.now c.target.inside.lines.now c.args.target.now c.args.import.now c.target.inside.has c.self.inside.imports.places c.self.inside.imports.traits c.in-Some.place c.self.view_is c.target.view_is c.self.invariant.places_are c.self.invariant.traits_are (sym c.place.ensures ∙ c.in-Some.is) (sym c.get.ensures ∙ ap option_copied c.in-None.is) c.target.invariant.trait_is c.target.invariant.trait_named
