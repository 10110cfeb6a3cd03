use Rattle.std.proofs.Common.{◌≡◌, ℕ, List, [], ◌∷◌, ◌++◌, map, Some, length, refl, ap, ◌∙◌, arith, slice_get}
use Rattle.std.proofs.lemmas.Option.{slice_get_read}
use Rattle.rl_defs.specs.LoadOf.{target_number, bound_to}
use Rattle.plan_checker.proofs.Gathering.{gather_first, gather_more, gather_all}
use Rattle.plan_checker.proofs.rows.binds_of.Goals as goal

pub imports-init : goal.imports-init
imports-init c = gather_first (map (λ (import : List ℕ). target_number c.args.tables.now (bound_to c.args.tables.now c.args.load.now import))) c.args.imports.now c.new-binds.result c.new-binds.ensures

pub imports-preserved : goal.imports-preserved
imports-preserved c =
    let here : slice_get c.args.imports.now c.imports.import-index ≡ Some c.import-item.result = slice_get_read c.args.imports.now (length c.args.imports.now) c.imports.import-index c.import-item.result refl c.imports-test.true c.import-item.is in
    let number = target_number c.args.tables.now (bound_to c.args.tables.now c.args.load.now c.import-item.result) in
    gather_more (map (λ (import : List ℕ). target_number c.args.tables.now (bound_to c.args.tables.now c.args.load.now import))) c.args.imports.now c.imports.import-index c.import-item.result (number ∷ []) c.imports.binds c.push.new.self c.imports.invariant here (λ rest. refl) (c.in_ok-push.ensures.ok ∙ ap (λ (n : ℕ). c.imports.binds ++ n ∷ []) c.number_bound.ensures)

pub returns : goal.returns
returns c = gather_all (map (λ (import : List ℕ). target_number c.args.tables.now (bound_to c.args.tables.now c.args.load.now import))) c.args.imports.now c.imports.import-index c.imports.binds c.imports.invariant (omega arith) refl
