-- Cutting off a part where its header stands next.
use Rattle.std.proofs.Common.{◌≡◌, ℕ, suc, ◌+◌, ◌<◌, ◌≤◌, ◌⊎◌, inl, inr, true, false, eqb, List, [], length, map, Option, Some, None, refl, ap, subst, ◌∙◌, arith}
use Rattle.std.specs.Prelude.{slice_range}
use Rattle.std.proofs.lemmas.Bool.Decides.{nat_tests}
use Rattle.std.proofs.lemmas.List.{length-map}
use Rattle.rl_defs.specs.BundleParts as parts
use Rattle.rl_defs.specs.BundleParts.{HeaderAt, header_place}
use Rattle.rl_text.specs.declared.line.Line.{Line}
use Rattle.rl_text.specs.Places.{text_of}
use Rattle.bundle_parts.specs.declared.header.Header.{Header}
use Rattle.bundle_parts.specs.declared.cut.At.{At}
use Rattle.bundle_parts.specs.Headers.{header_of}
use Rattle.bundle_parts.specs.Cuts.{StandsAt, IsNext, Cuts, is_of}
use Rattle.bundle_parts.proofs.HeaderLaws.{one_header_at, one_place}
use Rattle.bundle_parts.proofs.PartEnds.{header_within}

is_that : (g h : Header) → eqb (header_place (header_of g)) (header_place (header_of h)) ≡ true → header_of g ≡ header_of h
is_that g h e = let same : header_place (header_of g) ≡ header_place (header_of h) = grind (arith, nat_tests) in one_place (header_of g) (header_of h) same

is_other : (g h : Header) → eqb (header_place (header_of g)) (header_place (header_of h)) ≡ false → header_of g ≡ header_of h → ⊥
is_other g h e same = let s : header_place (header_of g) ≡ header_place (header_of h) = ap header_place same in grind (arith, nat_tests)

header_stands : (texts : List (List ℕ)) (place : ℕ) (o : Option Header) (h : Header) → is_of o h ≡ true → StandsAt texts place o → HeaderAt texts (suc place) (header_of h)
header_stands texts place None h e stands = absurd cc
header_stands texts place (Some g) h e stands = subst (HeaderAt texts (suc place)) (is_that g h e) stands

header_absent : (texts : List (List ℕ)) (place : ℕ) (o : Option Header) (h : Header) → is_of o h ≡ false → StandsAt texts place o → HeaderAt texts (suc place) (header_of h) → ⊥
header_absent texts place None h e stands x = let lt : place < length texts = header_within texts place (header_of h) x in omega (arith, stands)
header_absent texts place (Some g) h e stands x = is_other g h e (one_header_at texts (suc place) (header_of g) (header_of h) stands x)

-- the lines go on behind a header
pub inside_lines : (bytes : List ℕ) (lines : List Line) (old : At) (h : Header) → is_of old.header h ≡ true → StandsAt (map (text_of bytes) lines) old.place old.header → old.place < length lines
inside_lines bytes lines old h e stands =
    let texts : List (List ℕ) = map (text_of bytes) lines in
    let lt : old.place < length texts = header_within texts old.place (header_of h) (header_stands texts old.place old.header h e stands) in
    omega (arith, lt, length-map lines (text_of bytes))

stops_at : (texts : List (List ℕ)) (place : ℕ) (o : Option Header) → StandsAt texts place o → (place ≡ length texts) ⊎ ((g : parts.Header) × HeaderAt texts (suc place) g)
stops_at texts place None stands = inl stands
stops_at texts place (Some g) stands = inr (header_of g, stands)

-- the place of a header, or of the end, is one of the lines, or behind them
pub next_inside : (bytes : List ℕ) (lines : List Line) (from : ℕ) (next : At) → IsNext (map (text_of bytes) lines) from next → next.place ≤ length lines
next_inside bytes lines from next n =
    let texts : List (List ℕ) = map (text_of bytes) lines in
    let le : next.place ≤ length texts = elim (stops_at texts next.place next.header n.stands) [ inl e ↦ omega (arith, e) | inr x ↦ omega (arith, header_within texts next.place x.0 x.1) ] in
    omega (arith, le, length-map lines (text_of bytes))

pub cuts_there : (lines : List Line) (texts : List (List ℕ)) (h : Header) (old next : At) (first : ℕ) (part : List Line) → first ≡ old.place + 1 → is_of old.header h ≡ true → StandsAt texts old.place old.header → IsNext texts first next → part ≡ slice_range lines first next.place → Cuts lines texts h old next part
cuts_there lines texts h old next first part first-is e stands n is =
    let same : first ≡ suc old.place = omega (arith, first-is) in
    let m : IsNext texts (suc old.place) next = subst (λ (i : ℕ). IsNext texts i next) same n in
    record {
      stands = m.stands;
      found = inl (record {
        span = record { header = header_stands texts old.place old.header h e stands; behind = m.behind; none = m.none; stops = stops_at texts next.place next.header m.stands };
        lines_of = is ∙ ap (λ (i : ℕ). slice_range lines i next.place) same;
      });
    }

pub cuts_absent : (lines : List Line) (texts : List (List ℕ)) (h : Header) (old : At) (part : List Line) → is_of old.header h ≡ false → StandsAt texts old.place old.header → part ≡ [] → Cuts lines texts h old old part
cuts_absent lines texts h old part e stands none = record { stands = stands; found = inr (record { other = header_absent texts old.place old.header h e stands; no_lines = none; same = refl }) }
