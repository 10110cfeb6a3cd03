-- Where parts begin and end, and at which lines rules 1 and 2 fail in them.
use Rattle.std.proofs.Common.{◌≡◌, ℕ, suc, ◌+◌, ◌-◌, ◌<◌, ◌≤◌, inl, inr, List, length, Some, refl, sym, ap, subst, ◌∙◌, arith}
use Rattle.std.specs.Prelude.{slice_get, slice_range}
use Rattle.std.proofs.lemmas.Bool.{cases_order}
use Rattle.rl_defs.specs.Parts.{Grammar, FailsPart}
use Rattle.rl_defs.specs.BundleParts as parts
use Rattle.rl_defs.specs.BundleParts.{HeaderAt, LineIs, IsPart, FailsIn}
use Rattle.rl_text.proofs.ListPlaces.{read_within}
use Rattle.bundle_parts.specs.Cuts.{IsSpan}
use Rattle.bundle_parts.proofs.HeaderLaws.{one_header_at}
use Rattle.bundle_parts.proofs.Ranges.{in_range, range_has, range_length}

-- the lines at which rules of a part may fail: from its first line up to the one behind its last
pub record IsAtPart (first : ℕ) (texts : List (List ℕ)) (line rule : ℕ) : Type 0 where
  pub from : first ≤ line
  pub upto : line ≤ first + length texts
  pub rules : rule ≤ 2

fails_inside : {Form Block : Type 0} (G : Grammar Form Block) (first : ℕ) (texts : List (List ℕ)) (line rule : ℕ) → FailsPart G first texts line rule → IsAtPart first texts line rule
fails_inside G first texts line rule (inl (is, f)) =
    let lt : f.behind < length texts = read_within texts f.behind f.text f.line.here in
    record { from = omega (arith, f.line.place); upto = omega (arith, f.line.place, lt); rules = omega (arith, is) }
fails_inside G first texts line rule (inr (is, inl f)) =
    let lt : f.behind < length texts = read_within texts f.behind f.text f.line.here in
    record { from = omega (arith, f.line.place); upto = omega (arith, f.line.place, lt); rules = omega (arith, is) }
fails_inside G first texts line rule (inr (is, inr f)) = record { from = omega (arith, f.place); upto = omega (arith, f.place); rules = omega (arith, is) }

pub fails_at : (h : parts.Header) (first : ℕ) (texts : List (List ℕ)) (line rule : ℕ) → FailsIn h first texts line rule → IsAtPart first texts line rule
fails_at parts.Interfaces first texts line rule f = fails_inside _ first texts line rule f
fails_at parts.Domains first texts line rule f = fails_inside _ first texts line rule f
fails_at parts.ThePlan first texts line rule f = fails_inside _ first texts line rule f
fails_at parts.TheClients first texts line rule f = fails_inside _ first texts line rule f

-- ---- headers and parts by their places

pub header_within : (texts : List (List ℕ)) (place : ℕ) (h : parts.Header) → HeaderAt texts (suc place) h → place < length texts
header_within texts place h x =
    let e : x.line.place ≡ place = omega (arith, x.line.number_of) in
    let lt : x.line.place < length texts = read_within texts x.line.place x.text x.line.here in
    omega (arith, e, lt)

pub some_line : (texts : List (List ℕ)) (number : ℕ) (h : parts.Header) → HeaderAt texts number h → (0 < number) × (number ≤ length texts)
some_line texts number h x =
    let lt : x.line.place < length texts = read_within texts x.line.place x.text x.line.here in
    (omega (arith, x.line.number_of), omega (arith, x.line.number_of, lt))

-- the text of a header, by its place
pub header_text : (texts : List (List ℕ)) (place : ℕ) (h : parts.Header) (x : HeaderAt texts (suc place) h) → slice_get texts place ≡ Some x.text
header_text texts place h x =
    let e : x.line.place ≡ place = omega (arith, x.line.number_of) in
    subst (λ (k : ℕ). slice_get texts k ≡ Some x.text) e x.line.here

last_within : (texts : List (List ℕ)) (h : parts.Header) (first : ℕ) (inside : List (List ℕ)) (p : IsPart texts h first inside) → p.last ≤ length texts
last_within texts h first inside p = elim p.stops [ inl e ↦ omega (arith, e) | inr x ↦ omega (arith, header_within texts p.last x.0 x.1) ]

-- no part goes on behind a header
goes_on : (texts : List (List ℕ)) (g h : parts.Header) (f k : ℕ) (xs ys : List (List ℕ)) (a : IsPart texts g f xs) (b : IsPart texts h k ys) → a.header ≡ b.header → a.last < b.last → ⊥
goes_on texts g h f k xs ys a b same less = elim a.stops [
  | inl e ↦ omega (arith, e, less, last_within texts h k ys b)
  | inr x ↦ stopped x.0 x.1
]
  where
    stopped : (i : parts.Header) → HeaderAt texts (suc a.last) i → ⊥
    stopped i x =
        let before : b.header ≤ a.last = omega (arith, same, a.behind_header) in
        let place : b.header + (a.last - b.header) ≡ a.last = omega (arith, before) in
        let here : slice_get texts (b.header + (a.last - b.header)) ≡ Some x.text = subst (λ (n : ℕ). slice_get texts n ≡ Some x.text) (sym place) (header_text texts a.last i x) in
        let inside : slice_get (slice_range texts b.header b.last) (a.last - b.header) ≡ Some x.text = range_has texts b.header b.last (a.last - b.header) x.text (omega (arith, place, less)) here in
        b.bare (a.last - b.header) x.text (ap (λ (zs : List (List ℕ)). slice_get zs (a.last - b.header)) b.lines ∙ inside) (i, x.is)

pub one_end : (texts : List (List ℕ)) (g h : parts.Header) (f k : ℕ) (xs ys : List (List ℕ)) (a : IsPart texts g f xs) (b : IsPart texts h k ys) → a.header ≡ b.header → a.last ≡ b.last
one_end texts g h f k xs ys a b same = elim (cases_order a.last b.last) [
  | inl e ↦ e
  | inr (inl less) ↦ absurd (goes_on texts g h f k xs ys a b same less)
  | inr (inr more) ↦ absurd (goes_on texts h g k f ys xs b a (sym same) more)
]

-- two parts behind one header are one part
pub record AreOnePart (g h : parts.Header) (f k : ℕ) (xs ys : List (List ℕ)) : Type 0 where
  pub header : g ≡ h
  pub first : f ≡ k
  pub inside : xs ≡ ys

pub one_part : (texts : List (List ℕ)) (g h : parts.Header) (f k : ℕ) (xs ys : List (List ℕ)) (a : IsPart texts g f xs) (b : IsPart texts h k ys) → a.header ≡ b.header → AreOnePart g h f k xs ys
one_part texts g h f k xs ys a b same =
    let last : a.last ≡ b.last = one_end texts g h f k xs ys a b same in
    record {
      header = one_header_at texts b.header g h (subst (λ (n : ℕ). HeaderAt texts n g) same a.begins) b.begins;
      first = a.behind ∙ ap suc same ∙ sym b.behind;
      inside = a.lines ∙ ap (λ (n : ℕ). slice_range texts n a.last) same ∙ ap (λ (n : ℕ). slice_range texts b.header n) last ∙ sym b.lines;
    }

abbrev pub first_of : ℕ → ℕ
first_of place = suc (suc place)

abbrev pub lines_between : List (List ℕ) → ℕ → ℕ → List (List ℕ)
lines_between texts place next = slice_range texts (suc place) next

pub next_within : (texts : List (List ℕ)) (h : parts.Header) (place next : ℕ) → IsSpan texts h place next → next ≤ length texts
next_within texts h place next s = elim s.stops [ inl e ↦ omega (arith, e) | inr x ↦ omega (arith, header_within texts next x.0 x.1) ]

pub span_part : (texts : List (List ℕ)) (h : parts.Header) (place next : ℕ) → IsSpan texts h place next → IsPart texts h (first_of place) (lines_between texts place next)
span_part texts h place next s = record {
  header = suc place;
  behind = refl;
  begins = s.header;
  last = next;
  behind_header = s.behind;
  lines = refl;
  stops = s.stops;
  bare = λ i text here any.
      let p = in_range texts (suc place) next i text here in
      s.none (suc (suc place + i)) any.0 (omega arith) (omega (arith, p.0)) (record { text = text; line = record { place = suc place + i; number_of = refl; here = p.1 }; is = any.1 });
}

-- a part behind the header of a span is the span's
pub span_is : (texts : List (List ℕ)) (h : parts.Header) (place next : ℕ) (s : IsSpan texts h place next) (g : parts.Header) (f : ℕ) (xs : List (List ℕ)) (a : IsPart texts g f xs) → a.header ≡ suc place → AreOnePart g h f (first_of place) xs (lines_between texts place next)
unfolding span_part
span_is texts h place next s g f xs a same = one_part texts g h f (first_of place) xs (lines_between texts place next) a (span_part texts h place next s) same

pub span_length : (texts : List (List ℕ)) (h : parts.Header) (place next : ℕ) → IsSpan texts h place next → first_of place + length (lines_between texts place next) ≡ suc next
span_length texts h place next s = omega (arith, range_length texts (suc place) next s.behind (next_within texts h place next s), s.behind)
