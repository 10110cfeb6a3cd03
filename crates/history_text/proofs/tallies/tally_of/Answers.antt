use Rattle.std.proofs.Common.{ℕ, ◌≡◌, ◌<◌, ◌≤◌, length, get_or, ap, ◌∙◌, arith}
use Rattle.history_text.specs.Tallies.{told}
use Rattle.history_text.proofs.KeptTallies.{kept, none, place, told_at, told_none}
use Rattle.history_text.proofs.tallies.tally_of.Goals as goal

pub returns-then-place-tallies : goal.returns-then-place-tallies
returns-then-place-tallies c =
    let ts = c.args.tallies.now in
    let at = c.place_of-place.ensures in
    let less : place ts c.args.thread < length ts = omega arith in
    ap (λ (n : ℕ). told (get_or ts n (kept 0 none)).tally) at ∙ told_at ts c.args.thread (kept 0 none) less

pub returns : goal.returns
returns c =
    let ts = c.args.tallies.now in
    let at = c.place_of-place.ensures in
    let past : length ts ≤ place ts c.args.thread = omega arith in
    told_none ts c.args.thread past
