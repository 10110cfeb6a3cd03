use Rattle.std.proofs.Common.{◌<◌, List, Bool, false, Some, length, arith, refl, sym, ap, ◌∙◌, get_or}
use Rattle.std.proofs.lemmas.Option.{slice_get-get_or}
use Rattle.exchangeable_types.proofs.Searches.{marks_none, marks_one}
use Rattle.exchangeable_types.proofs.search.mark.Goals as goal

pub returns : goal.returns
returns c =
    let lt : c.args.held < length c.args.seen.now.items = omega arith in
    marks_one c.args.seen.now.items _ c.args.waiting.now.items c.push.new.self.items c.args.held (slice_get-get_or c.args.seen.now.items c.args.held false lt ∙ ap (λ (b : Bool). Some b) (ap (λ (xs : List Bool). get_or xs c.args.held false) (sym c.as_slice.ensures.value) ∙ c.if-as_slice-held.false)) refl c.in_ok-push.ensures.items

pub returns-then-as_slice-held : goal.returns-then-as_slice-held
returns-then-as_slice-held c =
    let lt : c.args.held < length c.args.seen.now.items = omega arith in
    marks_none c.args.seen.now.items c.args.waiting.now.items c.args.held (slice_get-get_or c.args.seen.now.items c.args.held false lt ∙ ap (λ (b : Bool). Some b) (ap (λ (xs : List Bool). get_or xs c.args.held false) (sym c.as_slice.ensures.value) ∙ c.if-as_slice-held.true))
