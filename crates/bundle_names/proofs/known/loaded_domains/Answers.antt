use Rattle.std.proofs.Common.{◌≡◌, ◌||◌, Bool, false, List, Some, replicate, length, refl, ap, ◌∙◌, arith, get_or}
use Rattle.std.specs.Prelude.{slice_get}
use Rattle.std.proofs.lemmas.List.{get_or-replicate, length-replicate}
use Rattle.std.proofs.lemmas.Option.{slice_get_read}
use Rattle.bundle_names.specs.PlanNames.{is_loaded}
use Rattle.bundle_names.proofs.Loading.{mark_more, mark_all}
use Rattle.bundle_names.proofs.known.loaded_domains.Goals as goal

pub loads-init : goal.loads-init
loads-init c =
    let items : c.in-Ok.marks.items ≡ replicate c.args.count false = c.in-Ok.ensures.items_if_clones_equal (λ y h. h) in
    (ap length items ∙ length-replicate c.args.count false, λ number lt. ap (λ (b : Bool). b || is_loaded c.args.loaded.now c.args.domains.now number) (ap (λ (bs : List Bool). get_or bs number false) items ∙ get_or-replicate c.args.count number false false lt))

pub loads-preserved : goal.loads-preserved
loads-preserved c =
    let here : slice_get c.args.loaded.now c.loads.name-index ≡ Some c.name-item.result = slice_get_read c.args.loaded.now (length c.args.loaded.now) c.loads.name-index c.name-item.result refl c.loads-test.true c.name-item.is in
    (c.mark.ensures.count ∙ c.loads.invariant.0, λ number lt. mark_more c.args.loaded.now c.args.domains.now c.loads.name-index c.name-item.result number (get_or c.loads.marks.items number false) (get_or c.mark.new.marks.items number false) (is_loaded c.args.loaded.now c.args.domains.now number) here (c.mark.ensures.marks number (omega (arith, lt, c.loads.invariant.0)) ∙ rw c.place.ensures refl) (c.loads.invariant.1 number lt))

pub returns-clause-marks : goal.returns-clause-marks
returns-clause-marks c = λ number lt. mark_all c.args.loaded.now c.args.domains.now c.loads.name-index number (get_or c.loads.marks.items number false) (is_loaded c.args.loaded.now c.args.domains.now number) c.loads-test.false (c.loads.invariant.1 number lt)
