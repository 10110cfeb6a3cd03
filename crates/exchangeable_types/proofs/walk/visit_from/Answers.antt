use Rattle.std.proofs.Common.{List, [], ◌∷◌, ◌++◌, subst}
use Rattle.exchangeable_types.specs.declared.walk.Visit.{Visit}
use Rattle.exchangeable_types.specs.Walk.{Walking}
use Rattle.exchangeable_types.proofs.Stack.{first_step}
use Rattle.exchangeable_types.proofs.walk.visit_from.Goals as goal

pub step-requires : goal.step-requires
step-requires c = subst (λ (vs : List Visit). Walking c.args.part.now.lines.now c.begin-first.new.states.items (vs ++ c.begin-first.result ∷ [])) c.as_slice.ensures.value c.begin-first.ensures.walking

pub walk-init : goal.walk-init
walk-init c =
    let first = first_step c.args.part.now.lines.now c.args.states.now.items c.begin-first.new.states.items c.step.new.states.items _ _ _ _ c.args.number c.requires.new c.begin-first.ensures c.in_ok-step.ensures in
    record { walking = c.in_ok-step.ensures.walking; visited = first.0; here = first.1 }
