-- Lines that are put one behind the other.
use Rattle.std.proofs.Common.{◌≡◌, ℕ, ◌+◌, ◌<◌, ◌≤◌, List, [], ◌∷◌, ◌++◌, length, drop, map, refl, sym, ap, subst, ◌∙◌, append_assoc, append-nil}
use Rattle.std.proofs.lemmas.List.{at_drop_more, drop_all}
use Rattle.rl_text.specs.declared.line.Line.{Line}
use Rattle.rl_text.specs.Places.{text_of}
use Rattle.rl_text.proofs.ListPlaces.{line_at}
use Rattle.bundle_format.specs.Woven.{AreWoven, IsPut}

-- whatever the rest is written as, all is written so
abbrev pub Weaves : (queue texts left rest : List (List ℕ)) (out : List ℕ) → Type 0
Weaves queue texts left rest out = (more : List ℕ) → AreWoven left rest more → AreWoven queue texts (out ++ more)

abbrev texts_from : List ℕ → List Line → ℕ → List (List ℕ)
texts_from bytes lines i = map (text_of bytes) (drop i lines)

put_on : (queue texts left next rest : List (List ℕ)) (text old new : List ℕ) → Weaves queue texts left (text ∷ rest) old → IsPut left text next old new → Weaves queue texts next rest new
put_on queue texts left next rest text old new so (line, is, e) more woven =
    let all : old ++ (line ++ 10 ∷ more) ≡ new ++ more = sym (ap (λ (x : List ℕ). x ++ more) e ∙ append_assoc old (line ++ 10 ∷ []) more ∙ ap (λ (x : List ℕ). old ++ x) (append_assoc line (10 ∷ []) more)) in
    subst (λ (out : List ℕ). AreWoven queue texts out) all (so (line ++ 10 ∷ more) (line, next, more, is, refl, woven))

pub weaves_on : (queue texts left next : List (List ℕ)) (bytes : List ℕ) (lines : List Line) (i : ℕ) (old new : List ℕ) → i < length lines → Weaves queue texts left (map (text_of bytes) (drop i lines)) old → IsPut left (text_of bytes (line_at lines i)) next old new → Weaves queue texts next (map (text_of bytes) (drop (i + 1) lines)) new
weaves_on queue texts left next bytes lines i old new lt so put =
    let here : texts_from bytes lines i ≡ text_of bytes (line_at lines i) ∷ texts_from bytes lines (i + 1) = at_drop_more (map (text_of bytes)) lines i (record { number = 0; start = 0; «end» = 0 }) lt in
    put_on queue texts left next (texts_from bytes lines (i + 1)) (text_of bytes (line_at lines i)) old new (subst (λ (xs : List (List ℕ)). Weaves queue texts left xs old) here so) put

pub weaves_nothing : (queue : List (List ℕ)) (bytes : List ℕ) (lines : List Line) → Weaves queue (map (text_of bytes) lines) queue (map (text_of bytes) (drop 0 lines)) []
weaves_nothing queue bytes lines more woven = woven

pub weaves_all : (queue texts left : List (List ℕ)) (bytes : List ℕ) (lines : List Line) (i : ℕ) (out : List ℕ) → length lines ≤ i → Weaves queue texts left (map (text_of bytes) (drop i lines)) out → AreWoven queue texts out
weaves_all queue texts left bytes lines i out le so =
    let none : texts_from bytes lines i ≡ [] = ap (map (text_of bytes)) (drop_all i lines le) in
    subst (λ (x : List ℕ). AreWoven queue texts x) (append-nil out) (so [] (subst (λ (xs : List (List ℕ)). AreWoven left xs []) (sym none) refl))
