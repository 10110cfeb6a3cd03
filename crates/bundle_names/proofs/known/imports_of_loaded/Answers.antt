use Rattle.std.proofs.Common.{◌≡◌, ℕ, ◌<◌, false, Bool, List, get_or, length, ap, subst, ◌∙◌, arith}
use Rattle.std.specs.Prelude.{IfOk}
use Rattle.rl_defs.specs.declared.code.DomainText.{DomainText}
use Rattle.bundle_names.specs.PlanNames.{known_names, is_loaded, imports_from}
use Rattle.bundle_names.proofs.Loading.{same_kept}
use Rattle.bundle_names.proofs.known.imports_of_loaded.Goals as goal

pub returns : goal.returns
returns c =
    let marked : (k : ℕ) → k < length c.args.bundle.now.domains → get_or c.as_slice.result.now k false ≡ is_loaded c.args.loaded.now c.args.domains.now k = λ k lt. ap (λ (bs : List Bool). get_or bs k false) c.as_slice.ensures.value ∙ c.in_ok-marks.ensures.marks k (omega (arith, lt, ap length c.as_slice-texts.ensures)) in
    let texts = ap (λ (ds : List DomainText). imports_from (λ k. get_or c.as_slice.result.now k false) 0 ds) c.as_slice-texts.ensures in
    let same = same_kept (λ k. get_or c.as_slice.result.now k false) (is_loaded c.args.loaded.now c.args.domains.now) 0 c.args.bundle.now.domains (λ k lt. marked k (omega (arith, lt))) in
    let known = ap (λ (ls : List (List ℕ)). imports_from (is_loaded ls c.args.domains.now) 0 c.args.bundle.now.domains) c.requires.loaded ∙ ap (λ (ns : List (List ℕ)). imports_from (is_loaded (known_names c.args.bundle.now).loaded ns) 0 c.args.bundle.now.domains) c.requires.domains in
    subst (λ (known : List (List (List ℕ))). IfOk c.imports_by_domain.result (λ all. all ≡ known)) (texts ∙ same ∙ known) c.imports_by_domain.ensures
