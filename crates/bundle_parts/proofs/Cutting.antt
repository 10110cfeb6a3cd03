-- Parts one after the other, and what fails before, in and behind them.
use Rattle.std.proofs.Common.{◌≡◌, ℕ, suc, ◌+◌, ◌<◌, ◌≤◌, ◌⊎◌, inl, inr, List, [], ◌∷◌, length, Option, Some, None, Err, refl, sym, ap, subst, ◌∙◌, arith}
use Rattle.std.specs.Prelude.{slice_get}
use Rattle.std.proofs.lemmas.Bool.{cases_lt, cases_order}
use Rattle.rl_defs.specs.declared.LoadFault.{LoadFault}
use Rattle.rl_defs.specs.declared.LoadFault.TheVariants.{Refused, Memory}
use Rattle.rl_defs.specs.Refusals.{IsFirst, Nowhere, NotAfter}
use Rattle.rl_defs.specs.Tokens.{Token, HasTokens, IsSkipped}
use Rattle.rl_defs.specs.BundleParts as parts
use Rattle.rl_defs.specs.BundleParts.{HeaderAt, LineIs, header_place, IsHeader, IsAnyHeader, IsPart, FailsIn, FailsInPart, IsBeforeAll, IsBrokenBefore, StandsBefore, IsOutOfOrder, FailsForms}
use Rattle.rl_text.proofs.ReadingLaws.{one_reading}
use Rattle.rl_text.proofs.ListPlaces.{read_within}
use Rattle.bundle_parts.specs.declared.header.Header.{Header}
use Rattle.bundle_parts.specs.declared.cut.At.{At}
use Rattle.bundle_parts.specs.Headers.{header_of, IsOther, Sees}
use Rattle.bundle_parts.specs.Cuts.{NoHeader, StandsAt, IsNext, IsRead, IsReached, IsSpan, Reaches}
use Rattle.bundle_parts.proofs.HeaderLaws.{one_header_at, one_place, one_text, place_below, skipped_no_header}
use Rattle.bundle_parts.proofs.PartEnds.{IsAtPart, fails_at, some_line, span_is, first_of, lines_between, span_part, span_length}

-- where a line of a number is a header, so is the line of an equal number
pub at_number : (texts : List (List ℕ)) (a b : ℕ) (h : parts.Header) → a ≡ b → HeaderAt texts a h → HeaderAt texts b h
at_number texts a b h e x = subst (λ (n : ℕ). HeaderAt texts n h) e x

-- a failing part's line stands behind its header
pub behind_header : (texts : List (List ℕ)) (line rule : ℕ) (f : FailsInPart texts line rule) → f.part.header < line
behind_header texts line rule f = omega (arith, f.part.behind, (fails_at f.header f.first f.inside line rule f.fails).from)

-- ---- lines before the first header

-- so many lines have no tokens
abbrev pub AreSkipped : List (List ℕ) → ℕ → Type 0
AreSkipped texts count = (place : ℕ) (text : List ℕ) → place < count → slice_get texts place ≡ Some text → IsSkipped text

pub skip_more : (texts : List (List ℕ)) (count : ℕ) (text : List ℕ) → slice_get texts count ≡ Some text → IsSkipped text → AreSkipped texts count → AreSkipped texts (count + 1)
skip_more texts count text here s all place other lt e = elim (cases_order place count) [
  | inl same ↦ (let f : slice_get texts count ≡ Some other = subst (λ (n : ℕ). slice_get texts n ≡ Some other) same e in let g : Some text ≡ Some other = sym here ∙ f in let q : text ≡ other = cc in subst IsSkipped q s)
  | inr (inl less) ↦ all place other less e
  | inr (inr more) ↦ absurd (omega arith)
]

-- no line of a number up to the count of skipped ones is a header
skipped_none : (texts : List (List ℕ)) (count : ℕ) → AreSkipped texts count → NoHeader texts 0 count
skipped_none texts count all number h some le x = skipped_no_header x.text (all x.line.place x.text (omega (arith, x.line.number_of)) x.line.here) (h, x.is)

skipped_text : (texts : List (List ℕ)) (count number : ℕ) (text : List ℕ) → AreSkipped texts count → LineIs texts number text → number ≤ count → IsSkipped text
skipped_text texts count number text all line le = all line.place text (omega (arith, line.number_of)) line.here

has_none : (first : Token) (more : List Token) (text : List ℕ) → IsSkipped text → HasTokens (first ∷ more) text → ⊥
has_none first more text s has = let e = one_reading [] (first ∷ more) text s has in cc

-- a line that no header stands before, nor is one, stands before the first header
before_first : (texts : List (List ℕ)) (place number : ℕ) (header : Option Header) (text : List ℕ) → StandsAt texts place header → IsBeforeAll texts number text → number ≤ place
before_first texts place number None text stands f =
    let lt : f.line.place < length texts = read_within texts f.line.place text f.line.here in
    omega (arith, stands, lt, f.line.number_of)
before_first texts place number (Some h) text stands f = elim (cases_lt place number) [
  | inl lt ↦ absurd (f.before (suc place) (header_of h) (omega arith) stands)
  | inr le ↦ le
]

-- neither rule fails before the first header where all lines before it are skipped
front_fine : (texts : List (List ℕ)) (place : ℕ) (header : Option Header) → StandsAt texts place header → AreSkipped texts place → (number : ℕ) → IsBrokenBefore texts number ⊎ StandsBefore texts number → ⊥
front_fine texts place header stands all number (inl f) =
    f.broken [] (skipped_text texts place number f.text all f.before.line (before_first texts place number header f.text stands f.before))
front_fine texts place header stands all number (inr f) =
    has_none f.first f.more f.text (skipped_text texts place number f.text all f.before.line (before_first texts place number header f.text stands f.before)) f.tokens

late : (texts : List (List ℕ)) (place number : ℕ) (h : parts.Header) → NoHeader texts 0 place → HeaderAt texts number h → place < number
late texts place number h none x = elim (cases_lt place number) [
  | inl lt ↦ lt
  | inr le ↦ absurd (none number h (omega (arith, (some_line texts number h x).0)) le x)
]

-- the lines before the first header are read
pub begun : (texts : List (List ℕ)) (place : ℕ) (header : Option Header) → StandsAt texts place header → AreSkipped texts place → IsRead texts 0 place
begun texts place header stands all =
    let none : NoHeader texts 0 place = skipped_none texts place all in
    record {
      order = λ number f. late texts place number f.header none f.here;
      fine = λ number rule f. late texts place f.part.header f.header none f.part.begins;
      front = front_fine texts place header stands all;
      early = λ number h le x. absurd (let lt : place < number = late texts place number h none x in omega arith);
      next = λ h x. inl (omega arith);
    }

here_before : (texts : List (List ℕ)) (count : ℕ) (text : List ℕ) → slice_get texts count ≡ Some text → AreSkipped texts count → (IsAnyHeader text → ⊥) → NoHeader texts 0 (suc count)
here_before texts count text here all no_header number h some le x = elim (cases_lt count number) [
  | inl lt ↦ no_header (h, subst (λ (t : List ℕ). IsHeader h t) (one_text texts number x.text text x.line (record { place = count; number_of = omega arith; here = here })) x.is)
  | inr less ↦ skipped_none texts count all number h some less x
]

-- what may fail up to a line before the first header, behind skipped ones, is a rule of the front at this line
front_first : (texts : List (List ℕ)) (count rule : ℕ) → FailsForms texts (suc count) rule → AreSkipped texts count → NoHeader texts 0 (suc count) → ((r : ℕ) → ((r ≡ 1) × IsBrokenBefore texts (suc count)) ⊎ ((r ≡ 2) × StandsBefore texts (suc count)) → rule ≤ r) → IsFirst (FailsForms texts) (suc count) rule
front_first texts count rule fails all none least = record { fails = fails; first = λ l r f. by_kind l r f }
  where
    at_front : (l r : ℕ) → ((r ≡ 1) × IsBrokenBefore texts l) ⊎ ((r ≡ 2) × StandsBefore texts l) → (l ≤ count → ⊥) → NotAfter (suc count) rule l r
    at_front l r f later = elim (cases_order l (suc count)) [
      | inl same ↦ inr (sym same, least r (subst (λ (n : ℕ). ((r ≡ 1) × IsBrokenBefore texts n) ⊎ ((r ≡ 2) × StandsBefore texts n)) same f))
      | inr (inl less) ↦ absurd (later (omega arith))
      | inr (inr more) ↦ inl more
    ]

    by_kind : (l r : ℕ) → FailsForms texts l r → NotAfter (suc count) rule l r
    by_kind l r (inl f) =
        let lt : f.part.header < l = behind_header texts l r f in
        let past : suc count < f.part.header = late texts (suc count) f.part.header f.header none f.part.begins in
        inl (omega arith)
    by_kind l r (inr (inl f)) = at_front l r (inl f) (λ le. f.1.broken [] (skipped_text texts count l f.1.text all f.1.before.line le))
    by_kind l r (inr (inr (is, inl f))) = at_front l r (inr (is, f)) (λ le. has_none f.first f.more f.text (skipped_text texts count l f.text all f.before.line le) f.tokens)
    by_kind l r (inr (inr (is, inr f))) = inl (late texts (suc count) l f.header none f.here)

before_all : (texts : List (List ℕ)) (count : ℕ) (text : List ℕ) → slice_get texts count ≡ Some text → NoHeader texts 0 (suc count) → IsBeforeAll texts (suc count) text
before_all texts count text here none = record {
  line = record { place = count; number_of = refl; here = here };
  before = λ earlier h le x. none earlier h (omega (arith, (some_line texts earlier h x).0)) le x;
}

-- a line before the first header that can have no tokens
pub broken_first : (texts : List (List ℕ)) (count : ℕ) (text : List ℕ) → slice_get texts count ≡ Some text → AreSkipped texts count → ((ts : List Token) → HasTokens ts text → ⊥) → IsFirst (FailsForms texts) (suc count) 1
broken_first texts count text here all broken =
    let none : NoHeader texts 0 (suc count) = here_before texts count text here all (λ x. broken _ x.1) in
    front_first texts count 1 (inr (inl (refl, record { text = text; before = before_all texts count text here none; broken = broken }))) all none
    (λ r f. elim f [ inl a ↦ omega (arith, a.0) | inr b ↦ omega (arith, b.0) ])

-- a line before the first header that has tokens
pub other_first : (texts : List (List ℕ)) (count : ℕ) (text : List ℕ) → slice_get texts count ≡ Some text → AreSkipped texts count → IsOther text → IsFirst (FailsForms texts) (suc count) 2
other_first texts count text here all o =
    let none : NoHeader texts 0 (suc count) = here_before texts count text here all o.no_header in
    let all_before : IsBeforeAll texts (suc count) text = before_all texts count text here none in
    front_first texts count 2 (inr (inr (refl, inl (record { text = text; before = all_before; first = o.first; more = o.more; tokens = o.tokens })))) all none
    (λ r f. elim f [
      | inl a ↦ absurd (a.1.broken (o.first ∷ o.more) (subst (λ (t : List ℕ). HasTokens (o.first ∷ o.more) t) (one_text texts (suc count) text a.1.text all_before.line a.1.before.line) o.tokens))
      | inr b ↦ omega (arith, b.0)
    ])

-- ---- a part that is missing

pub skip_part : (texts : List (List ℕ)) (h : parts.Header) (place : ℕ) → (HeaderAt texts (suc place) h → ⊥) → IsRead texts (header_place h) place → IsRead texts (suc (header_place h)) place
skip_part texts h place other read = record {
  order = read.order;
  fine = read.fine;
  front = read.front;
  early = λ number g le x. omega (arith, read.early number g le x);
  next = λ g x. elim (read.next g x) [ inl le ↦ inl (further g x le) | inr f ↦ inr f ];
}
  where
    further : (g : parts.Header) → HeaderAt texts (suc place) g → header_place h ≤ header_place g → suc (header_place h) ≤ header_place g
    further g x le = elim (cases_lt (header_place h) (header_place g)) [
      | inl lt ↦ omega (arith, lt)
      | inr ge ↦ absurd (other (subst (HeaderAt texts (suc place)) (one_place g h (omega arith)) x))
    ]

-- ---- a part that is there

-- no header that is out of order stands up to the next one
in_order : (texts : List (List ℕ)) (h : parts.Header) (place next : ℕ) → IsSpan texts h place next → IsRead texts (header_place h) place → (number : ℕ) → IsOutOfOrder texts number → next < number
in_order texts h place next s read number f =
    let lt : place < number = read.order number f in
    elim (cases_order number (suc place)) [
      | inl same ↦ absurd (own same)
      | inr (inl less) ↦ absurd (omega arith)
      | inr (inr more) ↦ elim (cases_lt next number) [ inl past ↦ past | inr le ↦ absurd (s.none number f.header more le f.here) ]
    ]
  where
    own : number ≡ suc place → ⊥
    own same =
        let is : f.header ≡ h = one_header_at texts (suc place) f.header h (at_number texts number (suc place) f.header same f.here) s.header in
        let before : f.earlier < number = f.before in
        let low : header_place f.other < header_place h = read.early f.earlier f.other (omega (arith, same, before)) f.there in
        let at_least : header_place f.header ≤ header_place f.other = f.behind in
        omega (arith, low, at_least, ap header_place is)

-- a part that fails is this one, or stands behind it
this_or_later : (texts : List (List ℕ)) (h : parts.Header) (place next : ℕ) → IsSpan texts h place next → IsRead texts (header_place h) place → (line rule : ℕ) (f : FailsInPart texts line rule) → FailsIn h (first_of place) (lines_between texts place next) line rule ⊎ (next < f.part.header)
this_or_later texts h place next s read line rule f =
    let lt : place < f.part.header = read.fine line rule f in
    elim (cases_order f.part.header (suc place)) [
      | inl same ↦ inl (this same)
      | inr (inl less) ↦ absurd (omega arith)
      | inr (inr more) ↦ inr (elim (cases_lt next f.part.header) [ inl past ↦ past | inr le ↦ absurd (s.none f.part.header f.header more le f.part.begins) ])
    ]
  where
    this : f.part.header ≡ suc place → FailsIn h (first_of place) (lines_between texts place next) line rule
    this same =
        let one = span_is texts h place next s f.header f.first f.inside f.part same in
        subst (λ (i : parts.Header). FailsIn i (first_of place) (lines_between texts place next) line rule) one.header
        (subst (λ (xs : List (List ℕ)). FailsIn f.header (first_of place) xs line rule) one.inside
        (subst (λ (n : ℕ). FailsIn f.header n f.inside line rule) one.first f.fails))

-- a header behind this one is out of order, or is of a later part
later_or_out : (texts : List (List ℕ)) (h : parts.Header) (place next : ℕ) → IsSpan texts h place next → (g : parts.Header) → HeaderAt texts (suc next) g → (suc (header_place h) ≤ header_place g) ⊎ IsOutOfOrder texts (suc next)
later_or_out texts h place next s g x = elim (cases_lt (header_place h) (header_place g)) [
  | inl lt ↦ inl (omega (arith, lt))
  | inr le ↦ inr (record { header = g; here = x; earlier = suc place; other = h; there = s.header; before = omega (arith, s.behind); behind = le })
]

pub take_part : (texts : List (List ℕ)) (h : parts.Header) (place next : ℕ) → IsSpan texts h place next → Nowhere (FailsIn h (first_of place) (lines_between texts place next)) → IsRead texts (header_place h) place → IsRead texts (suc (header_place h)) next
take_part texts h place next s nowhere read = record {
  order = in_order texts h place next s read;
  fine = λ line rule f. elim (this_or_later texts h place next s read line rule f) [ inl here ↦ absurd (nowhere line rule here) | inr past ↦ past ];
  front = read.front;
  early = λ number g le x. elim (cases_order number (suc place)) [
    | inl same ↦ (let is : g ≡ h = one_header_at texts (suc place) g h (at_number texts number (suc place) g same x) s.header in omega (arith, ap header_place is))
    | inr (inl less) ↦ omega (arith, read.early number g (omega arith) x)
    | inr (inr more) ↦ absurd (s.none number g more le x)
  ];
  next = later_or_out texts h place next s;
}

pub refuse_part : (texts : List (List ℕ)) (h : parts.Header) (place next line rule : ℕ) → IsSpan texts h place next → IsRead texts (header_place h) place → IsFirst (FailsIn h (first_of place) (lines_between texts place next)) line rule → IsFirst (FailsForms texts) line rule
refuse_part texts h place next line rule s read first = record {
  fails = inl (record { header = h; first = first_of place; inside = lines_between texts place next; part = span_part texts h place next s; fails = first.fails });
  first = λ l r f. by_kind l r f;
}
  where
    at : IsAtPart (first_of place) (lines_between texts place next) line rule
    at = fails_at h (first_of place) (lines_between texts place next) line rule first.fails

    upto : line ≤ suc next
    upto = omega (arith, at.upto, span_length texts h place next s)

    by_kind : (l r : ℕ) → FailsForms texts l r → NotAfter line rule l r
    by_kind l r (inl f) = elim (this_or_later texts h place next s read l r f) [
      | inl here ↦ first.first l r here
      | inr past ↦ (let lt : f.part.header < l = behind_header texts l r f in inl (omega (arith, past, upto)))
    ]
    by_kind l r (inr (inl f)) = absurd (read.front l (inl f.1))
    by_kind l r (inr (inr (is, inl f))) = absurd (read.front l (inr f))
    by_kind l r (inr (inr (is, inr f))) =
        let past : next < l = in_order texts h place next s read l f in
        elim (cases_lt line l) [ inl lt ↦ inl lt | inr ge ↦ inr (omega (arith, ge, past, upto), omega (arith, is, at.rules)) ]

-- ---- behind all parts

-- a header that is left is out of order
pub left_over : (texts : List (List ℕ)) (place : ℕ) (g : parts.Header) → IsRead texts 4 place → HeaderAt texts (suc place) g → IsFirst (FailsForms texts) (suc place) 2
left_over texts place g read x = record {
  fails = inr (inr (refl, inr (elim (read.next g x) [ inl le ↦ absurd (omega (arith, le, place_below g)) | inr f ↦ f ])));
  first = λ l r f. by_kind l r f;
}
  where
    by_kind : (l r : ℕ) → FailsForms texts l r → NotAfter (suc place) 2 l r
    by_kind l r (inl f) =
        let lt : f.part.header < l = behind_header texts l r f in
        let past : place < f.part.header = read.fine l r f in
        inl (omega arith)
    by_kind l r (inr (inl f)) = absurd (read.front l (inl f.1))
    by_kind l r (inr (inr (is, inl f))) = absurd (read.front l (inr f))
    by_kind l r (inr (inr (is, inr f))) =
        let past : place < l = read.order l f in
        elim (cases_lt (suc place) l) [ inl lt ↦ inl lt | inr ge ↦ inr (omega arith, omega (arith, is)) ]

-- where all lines are read, nothing fails
pub all_read : (texts : List (List ℕ)) (done place : ℕ) → place ≡ length texts → IsRead texts done place → Nowhere (FailsForms texts)
all_read texts done place e read l r (inl f) =
    let past : place < f.part.header = read.fine l r f in
    omega (arith, e, (some_line texts f.part.header f.header f.part.begins).1)
all_read texts done place e read l r (inr (inl f)) = read.front l (inl f.1)
all_read texts done place e read l r (inr (inr (is, inl f))) = read.front l (inr f)
all_read texts done place e read l r (inr (inr (is, inr f))) =
    let past : place < l = read.order l f in
    omega (arith, e, (some_line texts l f.header f.here).1)

-- ---- what code answers of the lines before the first header

abbrev header_here : ℕ → Header → At
header_here place h = record { place = place; header = Some h }

abbrev end_here : ℕ → At
end_here place = record { place = place; header = None }

pub header_begins : (texts : List (List ℕ)) (i place : ℕ) (text : List ℕ) (h : Header) → slice_get texts i ≡ Some text → place ≡ i → AreSkipped texts i → IsHeader (header_of h) text → IsReached texts 0 (header_here place h)
header_begins texts i place text h here same all is =
    let P : ℕ → Type 0 = λ n. IsReached texts 0 (header_here n h) in
    let x : HeaderAt texts (suc i) (header_of h) = record { text = text; line = record { place = i; number_of = refl; here = here }; is = is } in
    subst P (sym same) (record { stands = x; read = begun texts i (Some h) x all })

pub end_begins : (texts : List (List ℕ)) (i place : ℕ) → i ≡ length texts → place ≡ i → AreSkipped texts i → IsReached texts 0 (end_here place)
end_begins texts i place end same all =
    let P : ℕ → Type 0 = λ n. IsReached texts 0 (end_here n) in
    subst P (sym same) (record { stands = end; read = begun texts i None end all })

refusal : (texts : List (List ℕ)) (i number rule : ℕ) → number ≡ 1 + i → IsFirst (FailsForms texts) (suc i) rule → IsFirst (FailsForms texts) number rule
refusal texts i number rule is f = subst (λ (n : ℕ). IsFirst (FailsForms texts) n rule) (let e : suc i ≡ number = omega arith in e) f

pub other_refused : (texts : List (List ℕ)) (i number : ℕ) (text : List ℕ) (fault : LoadFault) → fault ≡ Refused (record { line = number; rule = 2 }) → slice_get texts i ≡ Some text → number ≡ 1 + i → AreSkipped texts i → IsOther text → Reaches texts (IsReached texts 0) (Err fault)
other_refused texts i number text fault is here number-is all o =
    let P : LoadFault → Type 0 = λ f. Reaches texts (IsReached texts 0) (Err f) in
    subst P (sym is) (refusal texts i number 2 number-is (other_first texts i text here all o))

pub fault_first : (texts : List (List ℕ)) (i number : ℕ) (text : List ℕ) (fault : LoadFault) → slice_get texts i ≡ Some text → number ≡ 1 + i → AreSkipped texts i → Sees number text (Err fault) → Reaches texts (IsReached texts 0) (Err fault)
fault_first texts i number text (Refused at) here number-is all s =
    subst (λ (r : ℕ). IsFirst (FailsForms texts) at.line r) (sym s.1) (refusal texts i at.line 1 (s.0 ∙ number-is) (broken_first texts i text here all s.2))
fault_first texts i number text Memory here number-is all s = tt

-- ---- what code finds of the next header

pub next_found : (texts : List (List ℕ)) (from place : ℕ) (text : List ℕ) (h : Header) → slice_get texts place ≡ Some text → from ≤ place → NoHeader texts from place → IsHeader (header_of h) text → IsNext texts from (header_here place h)
next_found texts from place text h here behind none is = record {
  behind = behind;
  stands = record { text = text; line = record { place = place; number_of = refl; here = here }; is = is };
  none = none;
}

pub next_passed : (texts : List (List ℕ)) (from place : ℕ) (text : List ℕ) → slice_get texts place ≡ Some text → NoHeader texts from place → (IsAnyHeader text → ⊥) → NoHeader texts from (place + 1)
next_passed texts from place text here none no_header number h lt le x = elim (cases_lt place number) [
  | inl more ↦ no_header (h, subst (λ (t : List ℕ). IsHeader h t) (one_text texts number x.text text x.line (record { place = place; number_of = omega arith; here = here })) x.is)
  | inr less ↦ none number h lt less x
]

pub next_end : (texts : List (List ℕ)) (from place : ℕ) → place ≡ length texts → from ≤ place → NoHeader texts from place → IsNext texts from (end_here place)
next_end texts from place end behind none = record { behind = behind; stands = end; none = none }
