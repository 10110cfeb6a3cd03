use Rattle.std.proofs.Common.{◌≡◌, ℕ, ◌++◌, Bool, false, List, Some, length, refl, ap, ◌∙◌, arith, get_or}
use Rattle.std.specs.Prelude.{slice_get}
use Rattle.std.proofs.lemmas.Option.{slice_get_read}
use Rattle.bundle_names.specs.PlanNames.{imports_from}
use Rattle.bundle_names.proofs.Loading.{kept_more, kept_all}
use Rattle.bundle_names.proofs.known.imports_by_domain.Goals as goal

abbrev is_kept : List Bool → ℕ → Bool
is_kept marks number = get_or marks number false

pub domains-init : goal.domains-init
domains-init c = ap (λ (names : List (List (List ℕ))). names ++ imports_from (is_kept c.args.marks.now) 0 c.args.domains.now) (c.from_vec-all.ensures ∙ c.reserve.ensures.items ∙ c.new-room.ensures.items)

pub domains-preserved : goal.domains-preserved
domains-preserved c =
    let here : slice_get c.args.domains.now c.domains.number ≡ Some c.index-domains-number.result = slice_get_read c.args.domains.now (length c.args.domains.now) c.domains.number c.index-domains-number.result refl c.domains-test.true c.index-domains-number.is in
    kept_more (is_kept c.args.marks.now) c.args.domains.now c.domains.number c.index-domains-number.result (imports_from (is_kept c.args.marks.now) 0 c.args.domains.now) c.domains.all c.push.new.self c.in_ok-names.names here c.domains.invariant c.in_ok-push.ensures.ok c.in_ok-names.ensures

pub returns : goal.returns
returns c = kept_all (is_kept c.args.marks.now) c.args.domains.now c.domains.number (imports_from (is_kept c.args.marks.now) 0 c.args.domains.now) c.domains.all (omega (arith, c.domains-test.false)) c.domains.invariant
