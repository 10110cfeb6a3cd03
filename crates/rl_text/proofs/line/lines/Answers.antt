use Rattle.std.proofs.Common.{◌≡◌, ◌+◌, ◌++◌, drop, List, [], ◌∷◌, ℕ, refl, arith, length-append}
use Rattle.rl_text.specs.Cuts.{IsCut}
use Rattle.rl_text.proofs.FollowLaws.{Follow-push, Follow-numbered, Ends-behind, texts_more, line_at}
use Rattle.rl_text.specs.declared.line.Line.{Line}
use Rattle.rl_text.proofs.line.lines.Goals as goal

pub lines-preserved : goal.lines-preserved
lines-preserved c =
    let bytes : List ℕ = c.args.bytes.now in
    let start : ℕ = c.lines.start in
    let text : ℕ = c.first_line-cut.result.text in
    let whole : ℕ = c.first_line-cut.result.whole in
    let cut : IsCut (drop start bytes) text whole = rw c.split_at.ensures.back at c.first_line-cut.ensures in
    let line : Line = line_at (c.len.result + 1) start (start + text) in
    let new : c.push.new.self.items ≡ c.lines.all.items ++ line ∷ [] = c.in_ok-push.ensures.items in
    record {
      within = omega arith;
      count = rw new (omega (arith, length-append c.lines.all.items (line ∷ [])));
      texts = rw new (texts_more bytes c.lines.all.items (c.len.result + 1) start text whole c.lines.invariant.texts cut);
      places = rw new (Follow-push bytes 1 0 c.lines.all.items start line (start + whole) c.lines.invariant.places (omega arith) refl (record { ordered = omega arith; inside = omega arith }) (Ends-behind bytes start text whole (omega arith) cut.ends));
    }

pub returns-clause-numbered : goal.returns-clause-numbered
returns-clause-numbered c = Follow-numbered _ _ _ _ _ c.lines.invariant.places
