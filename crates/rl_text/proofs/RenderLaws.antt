-- Writing tokens one behind the other.
use Rattle.std.proofs.Common.{◌≡◌, ℕ, ◌+◌, ◌<◌, ◌≤◌, List, [], ◌∷◌, ◌++◌, length, drop, get_or, map, sym, ap, ◌∙◌, append_assoc, append-nil}
use Rattle.std.proofs.lemmas.List.{at_drop_more, drop_all}
use Rattle.rl_defs.specs.Tokens.{Token}
use Rattle.rl_text.specs.Canonical.{token_text, gap, render_behind}
use Rattle.rl_text.specs.declared.render.Piece.{Piece}
use Rattle.rl_text.specs.Pieces.{piece_token}

pub rest_more : (before out new : List ℕ) (last next : Piece) (rest : List Piece) (i : ℕ) → i < length rest → next ≡ get_or rest i next → before ≡ out ++ render_behind (piece_token last) (map piece_token (drop i rest)) → new ≡ out ++ (gap (piece_token last) (piece_token next) ++ token_text (piece_token next)) → before ≡ new ++ render_behind (piece_token next) (map piece_token (drop (i + 1) rest))
unfolding render_behind
rest_more before out new last next rest i lt here so_far new-is =
    let a : Token = piece_token last in
    let b : Token = piece_token next in
    let more : List ℕ = render_behind b (map piece_token (drop (i + 1) rest)) in
    let one : render_behind a (map piece_token (drop i rest)) ≡ gap a b ++ (token_text b ++ more) = at_drop_more (λ (xs : List Piece). render_behind a (map piece_token xs)) rest i next lt ∙ ap (λ (x : Piece). render_behind a (map piece_token (x ∷ drop (i + 1) rest))) (sym here) in
    so_far ∙ ap (λ (x : List ℕ). out ++ x) (one ∙ sym (append_assoc (gap a b) (token_text b) more)) ∙ sym (append_assoc out (gap a b ++ token_text b) more) ∙ ap (λ (x : List ℕ). x ++ more) (sym new-is)

pub rest_all : (before out : List ℕ) (last : Piece) (rest : List Piece) (i : ℕ) → length rest ≤ i → before ≡ out ++ render_behind (piece_token last) (map piece_token (drop i rest)) → out ≡ before
unfolding render_behind
rest_all before out last rest i le so_far =
    let none : drop i rest ≡ [] = drop_all i rest le in
    sym (so_far ∙ ap (λ (xs : List Piece). out ++ render_behind (piece_token last) (map piece_token xs)) none ∙ append-nil out)
