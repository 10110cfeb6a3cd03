use Rattle.std.proofs.Common.{rules, ◌≡◌, ◌∙◌, ap, Bool, ◌||◌, ◌++◌, Some, length, refl, arith}
use Rattle.std.specs.Prelude.{slice_get}
use Rattle.std.proofs.lemmas.Option.{slice_get_read}
use Rattle.bundle_names.specs.Tests.{repeats}
use Rattle.bundle_names.proofs.Binding.{binds_begin, binds_more, binds_again, binds_all}
use Rattle.bundle_names.proofs.clients.bind_all.Goals as goal
use Rattle.bundle_names.proofs.clients.bind_all.Goals.{then-again, else-again}

pub names-init : goal.names-init
names-init c = binds_begin c.args.bound.now c.args.names.now

pub names-preserved : goal.names-preserved
names-preserved c =
    let here : slice_get c.args.names.now c.names.name-index ≡ Some c.name-item.result = slice_get_read c.args.names.now (length c.args.names.now) c.names.name-index c.name-item.result refl c.names-test.true c.name-item.is in
    let now : c.if-again.again ≡ (c.names.again || c.in_ok-repeated.repeated) = elim c.if-again.branch [ then-again w ↦ search rules | else-again w ↦ search rules ] in
    binds_more c.names.again c.if-again.again c.names.bound c.add.new.names c.args.names.now c.names.name-index c.name-item.result (repeats c.args.bound.now c.args.names.now) (c.args.bound.now ++ c.args.names.now) c.names.invariant here (now ∙ ap (λ (b : Bool). c.names.again || b) c.in_ok-repeated.ensures.again) c.in_ok-repeated.ensures.added

pub returns-clause-again : goal.returns-clause-again
returns-clause-again c = binds_again c.names.again c.names.bound c.args.names.now c.names.name-index (repeats c.args.bound.now c.args.names.now) (c.args.bound.now ++ c.args.names.now) (omega arith) c.names.invariant

pub returns-clause-bound : goal.returns-clause-bound
returns-clause-bound c = binds_all c.names.again c.names.bound c.args.names.now c.names.name-index (repeats c.args.bound.now c.args.names.now) (c.args.bound.now ++ c.args.names.now) (omega arith) c.names.invariant
