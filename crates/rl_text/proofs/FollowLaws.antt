-- Lines one after the other.
use Rattle.std.proofs.Common.{◌≡◌, ℕ, zero, suc, ◌+◌, ◌-◌, ◌≤◌, inl, inr, List, [], ◌∷◌, ◌++◌, length, take, drop, map, refl, sym, ap, ◌∙◌, arith, append_assoc}
use Rattle.std.specs.Prelude.{slice_get}
use Rattle.std.proofs.lemmas.List.{length-drop, append-nil, drop-drop, drop_all, map-append}
use Rattle.rl_defs.specs.Lines.{lines_of}
use Rattle.rl_text.specs.declared.line.Line.{Line}
use Rattle.rl_text.specs.Places.{text_of, Ends, Follow, AreNumbered, IsWithin}
use Rattle.rl_text.specs.Cuts.{IsCut}

pub Follow-push : (bytes : List ℕ) (number place : ℕ) (lines : List Line) (last : ℕ) (line : Line) (next : ℕ) → Follow bytes number place lines last → line.number ≡ number + length lines → line.start ≡ last → IsWithin bytes line → Ends bytes line.«end» next → Follow bytes number place (lines ++ line ∷ []) next
Follow-push bytes number place [] last line next h n s w e = (omega (arith, n), s ∙ sym h, w, (next, e, refl))
Follow-push bytes number place (l ∷ lines) last line next h n s w e = (h.0, h.1, h.2, (h.3.0, h.3.1, Follow-push bytes (number + 1) h.3.0 lines last line next h.3.2 (omega (arith, n)) s w e))

pub Follow-numbered : (bytes : List ℕ) (number place : ℕ) (lines : List Line) (last : ℕ) → Follow bytes number place lines last → AreNumbered bytes number lines
Follow-numbered bytes number place [] last h = tt
Follow-numbered bytes number place (l ∷ lines) last h = (h.0, h.2, Follow-numbered bytes (number + 1) h.3.0 lines last h.3.2)

pub get_behind : (bytes : List ℕ) (start k : ℕ) → slice_get (drop start bytes) k ≡ slice_get bytes (start + k)
get_behind bytes zero k = ap (slice_get bytes) (omega arith)
get_behind [] (suc start) k = refl
get_behind (c ∷ bytes) (suc start) k = get_behind bytes start k ∙ (let e : suc start + k ≡ suc (start + k) = omega arith in rw e refl)

pub Ends-behind : (bytes : List ℕ) (start place next : ℕ) → start ≤ length bytes → Ends (drop start bytes) place next → Ends bytes (start + place) (start + next)
Ends-behind bytes start place next le (inl h) = inl (sym (get_behind bytes start place) ∙ h.0, omega (arith, h.1))
Ends-behind bytes start place next le (inr (inl h)) =
    let one : start + place + 1 ≡ start + (place + 1) = omega arith in
    inr (inl (sym (get_behind bytes start place) ∙ h.0, rw one (sym (get_behind bytes start (place + 1)) ∙ h.1), omega (arith, h.2)))
Ends-behind bytes start place next le (inr (inr h)) = inr (inr (omega (arith, h.0, length-drop start bytes), omega (arith, h.1)))

abbrev pub line_at : ℕ → ℕ → ℕ → Line
line_at number start place = record { number = number; start = start; «end» = place }

pub texts_more : (bytes : List ℕ) (lines : List Line) (number start text whole : ℕ) → lines_of bytes ≡ map (text_of bytes) lines ++ lines_of (drop start bytes) → IsCut (drop start bytes) text whole → lines_of bytes ≡ map (text_of bytes) (lines ++ line_at number start (start + text) ∷ []) ++ lines_of (drop (start + whole) bytes)
texts_more bytes lines number start text whole so_far cut =
    let line : Line = line_at number start (start + text) in
    let same : start + text - start ≡ text = omega arith in
    let here : text_of bytes line ≡ take text (drop start bytes) = ap (λ (n : ℕ). take n (drop start bytes)) same in
    let back : drop whole (drop start bytes) ≡ drop (start + whole) bytes = drop-drop whole start bytes in
    so_far
    ∙ ap (λ (t : List (List ℕ)). map (text_of bytes) lines ++ t) (cut.first ∙ ap (λ (t : List ℕ). take text (drop start bytes) ∷ lines_of t) back ∙ ap (λ (t : List ℕ). t ∷ lines_of (drop (start + whole) bytes)) (sym here))
    ∙ sym (append_assoc (map (text_of bytes) lines) (text_of bytes line ∷ []) (lines_of (drop (start + whole) bytes)))
    ∙ ap (λ (t : List (List ℕ)). t ++ lines_of (drop (start + whole) bytes)) (sym (map-append (text_of bytes) lines (line ∷ [])))

pub texts_all : (bytes : List ℕ) (lines : List Line) (start : ℕ) → length bytes ≤ start → lines_of bytes ≡ map (text_of bytes) lines ++ lines_of (drop start bytes) → map (text_of bytes) lines ≡ lines_of bytes
texts_all bytes lines start le so_far =
    let none : drop start bytes ≡ [] = drop_all start bytes le in
    sym (so_far ∙ ap (λ (t : List ℕ). map (text_of bytes) lines ++ lines_of t) none ∙ append-nil (map (text_of bytes) lines))
