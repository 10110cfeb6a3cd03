use Rattle.std.proofs.Common.{◌≡◌, ◌++◌, map, drop}
use Rattle.rl_text.specs.Canonical.{render_behind}
use Rattle.rl_text.specs.Pieces.{piece_token}
use Rattle.rl_text.proofs.render.put_rest.Given as goal

abbrev pub invariant-tokens : goal.invariant-tokens
invariant-tokens l = l.initial.out.items ++ render_behind (piece_token l.fn.first) (map piece_token l.rest) ≡ l.out.items ++ render_behind (piece_token l.last) (map piece_token (drop l.next-index l.rest))
