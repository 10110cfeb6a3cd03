use Rattle.std.proofs.Common.{◌≡◌, ℕ, List, [], ◌∷◌, ◌++◌, map, Some, length, refl, ap, ◌∙◌, arith, slice_get}
use Rattle.std.proofs.lemmas.Option.{slice_get_read}
use Rattle.rl_defs.specs.LoadOf.{number_in}
use Rattle.plan_checker.proofs.Gathering.{behind_first, behind_more, behind_all}
use Rattle.plan_checker.proofs.rows.put_clients.Goals as goal

pub names-init : goal.names-init
names-init c = behind_first (map (λ (name : List ℕ). number_in name c.args.clients.now)) c.args.names.now c.args.order.now

pub names-preserved : goal.names-preserved
names-preserved c =
    let here : slice_get c.args.names.now c.names.name-index ≡ Some c.name-item.result = slice_get_read c.args.names.now (length c.args.names.now) c.names.name-index c.name-item.result refl c.names-test.true c.name-item.is in
    behind_more (map (λ (name : List ℕ). number_in name c.args.clients.now)) c.args.names.now c.names.name-index c.name-item.result (number_in c.name-item.result c.args.clients.now ∷ []) c.args.order.now c.names.order c.push.new.self c.names.invariant here (λ rest. refl) (c.in_ok-push.ensures.ok ∙ ap (λ (n : ℕ). c.names.order ++ n ∷ []) c.number_in.ensures)

pub returns : goal.returns
returns c = behind_all (map (λ (name : List ℕ). number_in name c.args.clients.now)) c.args.names.now c.names.name-index c.args.order.now c.names.order c.names.invariant (omega arith) refl
