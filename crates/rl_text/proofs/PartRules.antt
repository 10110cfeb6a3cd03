-- Rules 1 and 2 of a part, line by line, whatever its forms are.
use Rattle.std.proofs.Common.{◌≡◌, ℕ, ◌+◌, ◌<◌, ◌≤◌, inl, inr, List, [], ◌∷◌, ◌++◌, length, take, Option, Some, None, Ok, Err, refl, sym, ap, subst, ◌∙◌, arith}
use Rattle.std.specs.Prelude.{slice_get}
use Rattle.std.proofs.lemmas.Bool.{cases_lt, cases_order}
use Rattle.std.proofs.lemmas.List.{take_all, length-take, map-append}
use Rattle.std.proofs.lemmas.List.Sums.{fold-append}
use Rattle.rl_defs.specs.declared.LoadFault.{LoadFault}
use Rattle.rl_defs.specs.declared.LoadFault.TheVariants.{Refused, Memory}
use Rattle.rl_defs.specs.declared.bundle.Numbered.{Numbered}
use Rattle.rl_defs.specs.Refusals.{Failing, IsFirst, Nowhere, Answers}
use Rattle.rl_defs.specs.Tokens.{Token, IsSkipped}
use Rattle.rl_defs.specs.Parts.{Grammar, next_open, block_behind, forms_of, numbered, StandFor, IsNoForm, IsMisplaced, IsLeftOpen, FailsPart}
use Rattle.rl_text.specs.Forms.{IsRefused, OneForm, SkippedIsNoForm, OnePart}
use Rattle.rl_text.specs.PartSteps.{Stands, Skips, Barred, TakesLine}
use Rattle.rl_text.specs.Forms.{IsReading}
use Rattle.rl_text.proofs.FormLaws.{one_form, skipped_no_form}
use Rattle.rl_text.proofs.ListPlaces.{read_within, one_more}

-- What a part needs of its forms: a text is one form at most, and a text without tokens is none.
pub record AreForms {Form Block : Type 0} (G : Grammar Form Block) : Type 0 where
  pub one : OneForm G.is_line
  pub skipped : SkippedIsNoForm G.is_line

-- what a part needs of its forms, where its lines are read so
pub forms_read : {Form Block : Type 0} (G : Grammar Form Block) (read : List ℕ → List Token → Option Form) → IsReading G.is_line read → AreForms G
forms_read G read reading = record { one = one_form G.is_line read reading; skipped = skipped_no_form G.is_line read reading }

-- ---- what texts stand for

skip_last : {Form Block : Type 0} (G : Grammar Form Block) (number : ℕ) (texts : List (List ℕ)) (lines : List (Numbered Form)) (text : List ℕ) → StandFor G number texts lines → IsSkipped text → StandFor G number (texts ++ text ∷ []) lines
skip_last G number [] lines text h s = inl (s, h)
skip_last G number (t ∷ texts) lines text (inl h) s = inl (h.0, skip_last G (number + 1) texts lines text h.1 s)
skip_last G number (t ∷ texts) lines text (inr (form, more, is, f, h)) s = inr (form, more, is, f, skip_last G (number + 1) texts more text h s)

form_last : {Form Block : Type 0} (G : Grammar Form Block) (number place : ℕ) (texts : List (List ℕ)) (lines : List (Numbered Form)) (text : List ℕ) (form : Form) → StandFor G number texts lines → G.is_line form text → place ≡ number + length texts → StandFor G number (texts ++ text ∷ []) (lines ++ numbered place form ∷ [])
form_last {Form} G number place [] lines text form h f e =
    let here : numbered place form ≡ numbered number form = ap (λ (n : ℕ). numbered n form) (omega (arith, e)) in
    inr (form, [], ap (λ (x : List (Numbered Form)). x ++ numbered place form ∷ []) h ∙ ap (λ (x : Numbered Form). x ∷ []) here, f, refl)
form_last G number place (t ∷ texts) lines text form (inl h) f e = inl (h.0, form_last G (number + 1) place texts lines text form h.1 f (omega (arith, e)))
form_last {Form} G number place (t ∷ texts) lines text form (inr (g, more, is, x, h)) f e =
    inr (g, more ++ numbered place form ∷ [], ap (λ (y : List (Numbered Form)). y ++ numbered place form ∷ []) is, x, form_last G (number + 1) place texts more text form h f (omega (arith, e)))

-- texts stand for one list of lines at most
pub one_standing : {Form Block : Type 0} (G : Grammar Form Block) → AreForms G → OnePart G
one_standing G l number [] a b h g = h ∙ sym g
one_standing G l number (t ∷ texts) a b (inl h) (inl g) = one_standing G l (number + 1) texts a b h.1 g.1
one_standing G l number (t ∷ texts) a b (inl h) (inr (form, more, is, f, g)) = absurd (l.skipped t form h.0 f)
one_standing G l number (t ∷ texts) a b (inr (form, more, is, f, h)) (inl g) = absurd (l.skipped t form g.0 f)
one_standing {Form} G l number (t ∷ texts) a b (inr (form, more, is, f, h)) (inr (form2, more2, is2, f2, h2)) =
    is ∙ ap (λ (x : Form). numbered number x ∷ more) (l.one form form2 t f f2) ∙ ap (λ (x : List (Numbered Form)). numbered number form2 ∷ x) (one_standing G l (number + 1) texts more more2 h h2) ∙ sym is2

block_more : {Form Block : Type 0} (G : Grammar Form Block) (lines : List (Numbered Form)) (place : ℕ) (form : Form) → block_behind G (forms_of (lines ++ numbered place form ∷ [])) ≡ next_open G (block_behind G (forms_of lines)) form
block_more {Form} G lines place form = ap (block_behind G) (map-append (λ (x : Numbered Form). x.form) lines (numbered place form ∷ [])) ∙ fold-append (next_open G) (Some G.outside) (forms_of lines) (form ∷ [])

-- ---- lines so far

-- no rule fails before the line of this number
abbrev pub Before : Failing → ℕ → Type 0
Before F number = (n r : ℕ) → n < number → F n r → ⊥

-- what is known before the line at a place
pub record SoFar {Form Block : Type 0} (G : Grammar Form Block) (first : ℕ) (texts : List (List ℕ)) (i : ℕ) (lines : List (Numbered Form)) (block : Block) : Type 0 where
  pub stand : StandFor G first (take i texts) lines
  pub open_block : block_behind G (forms_of lines) ≡ Some block
  pub before : Before (FailsPart G first texts) (first + i)

same_place : (first i j : ℕ) (texts : List (List ℕ)) (a b : List ℕ) → first + i ≡ first + j → slice_get texts i ≡ Some a → slice_get texts j ≡ Some b → a ≡ b
same_place first i j texts a b e x y = let s : j ≡ i = omega (arith, e) in let z = subst (λ (k : ℕ). slice_get texts k ≡ Some b) s y in cc

-- a text with a form is refused by no rule, where the block allows the form
no_form_fails : {Form Block : Type 0} (G : Grammar Form Block) (first i : ℕ) (texts : List (List ℕ)) (text : List ℕ) (form : Form) → slice_get texts i ≡ Some text → G.is_line form text → IsNoForm G first texts (first + i) → ⊥
no_form_fails G first i texts text form here is h =
    let e = same_place first i h.behind texts text h.text h.line.place here h.line.here in
    h.no_form form (subst (λ (t : List ℕ). G.is_line form t) e is)

skip_no_form : {Form Block : Type 0} (G : Grammar Form Block) (first i : ℕ) (texts : List (List ℕ)) (text : List ℕ) → slice_get texts i ≡ Some text → IsSkipped text → IsNoForm G first texts (first + i) → ⊥
skip_no_form G first i texts text here s h =
    let e = same_place first i h.behind texts text h.text h.line.place here h.line.here in
    h.not_skipped (subst IsSkipped e s)

skip_misplaced : {Form Block : Type 0} (G : Grammar Form Block) → AreForms G → (first i : ℕ) (texts : List (List ℕ)) (text : List ℕ) → slice_get texts i ≡ Some text → IsSkipped text → IsMisplaced G first texts (first + i) → ⊥
skip_misplaced G l first i texts text here s h =
    let e = same_place first i h.behind texts text h.text h.line.place here h.line.here in
    l.skipped text h.form s (subst (λ (t : List ℕ). G.is_line h.form t) (sym e) h.is)

allowed_misplaced : {Form Block : Type 0} (G : Grammar Form Block) → AreForms G → (first i : ℕ) (texts : List (List ℕ)) (text : List ℕ) (form : Form) (lines : List (Numbered Form)) (block next : Block) → slice_get texts i ≡ Some text → G.is_line form text → StandFor G first (take i texts) lines → block_behind G (forms_of lines) ≡ Some block → G.next block form ≡ Some next → IsMisplaced G first texts (first + i) → ⊥
allowed_misplaced {Form} {Block} G l first i texts text form lines block next here is stand opened allowed h =
    let e = same_place first i h.behind texts text h.text h.line.place here h.line.here in
    let same : h.behind ≡ i = omega (arith, h.line.place) in
    let f : form ≡ h.form = l.one form h.form text is (subst (λ (t : List ℕ). G.is_line h.form t) (sym e) h.is) in
    let all : lines ≡ h.before = one_standing G l first (take i texts) lines h.before stand (subst (λ (k : ℕ). StandFor G first (take k texts) h.before) same h.stand) in
    let b : Some block ≡ Some h.block = sym opened ∙ ap (λ (x : List (Numbered Form)). block_behind G (forms_of x)) all ∙ h.open_block in
    let b2 : block ≡ h.block = cc in
    let g : G.next block form ≡ None = ap (λ (x : Block). G.next x form) b2 ∙ ap (G.next h.block) f ∙ h.barred in
    cc

open_later : {Form Block : Type 0} (G : Grammar Form Block) (first i : ℕ) (texts : List (List ℕ)) → i < length texts → IsLeftOpen G first texts (first + i) → ⊥
open_later G first i texts lt h = omega (arith, h.place)

pub more_before : (F : Failing) (number : ℕ) → Before F number → ((r : ℕ) → F number r → ⊥) → Before F (number + 1)
more_before F number before here n r lt f = elim (cases_order n number) [
  | inl same ↦ here r (subst (λ (m : ℕ). F m r) same f)
  | inr (inl less) ↦ before n r less f
  | inr (inr more) ↦ absurd (omega arith)
]

pub first_at : (F : Failing) (number rule : ℕ) → F number rule → Before F number → ((r : ℕ) → F number r → rule ≤ r) → IsFirst F number rule
first_at F number rule fails before least = record {
  fails = fails;
  first = λ n r f. elim (cases_order n number) [
    | inl same ↦ inr (sym same, least r (subst (λ (m : ℕ). F m r) same f))
    | inr (inl less) ↦ absurd (before n r less f)
    | inr (inr more) ↦ inl more
  ];
}

-- before the first line nothing stands, and nothing is refused
pub no_lines : {Form Block : Type 0} (G : Grammar Form Block) (first : ℕ) (texts : List (List ℕ)) → SoFar G first texts 0 [] G.outside
no_lines {Form} G first texts = record {
  stand = refl;
  open_block = refl;
  before = λ n r lt f. elim f [
    | inl a ↦ absurd (omega (arith, lt, a.1.line.place))
    | inr b ↦ elim b.1 [ inl c ↦ absurd (omega (arith, lt, c.line.place)) | inr c ↦ absurd (omega (arith, lt, c.place)) ]
  ];
}

-- ---- one line more

pub next_skips : {Form Block : Type 0} (G : Grammar Form Block) → AreForms G → (first i : ℕ) (texts : List (List ℕ)) (text : List ℕ) (block next : Block) (old new : List (Numbered Form)) → slice_get texts i ≡ Some text → SoFar G first texts i old block → Skips text block next old new → SoFar G first texts (i + 1) new next
next_skips G l first i texts text block next old new here so s =
    let F : Failing = FailsPart G first texts in
    let lt = read_within texts i text here in
    let fine : (r : ℕ) → F (first + i) r → ⊥ = λ r. λ (f : F (first + i) r). elim f [
      | inl a ↦ skip_no_form G first i texts text here s.skipped a.1
      | inr b ↦ elim b.1 [ inl c ↦ skip_misplaced G l first i texts text here s.skipped c | inr c ↦ open_later G first i texts lt c ]
    ] in
    let place : first + i + 1 ≡ first + (i + 1) = omega arith in
    record {
      stand = rw (one_more texts i text here, s.same_lines) (skip_last G first (take i texts) old text so.stand s.skipped);
      open_block = rw (s.same_lines, s.same_block) so.open_block;
      before = subst (Before F) place (more_before F (first + i) so.before fine);
    }

pub next_stands : {Form Block : Type 0} (G : Grammar Form Block) → AreForms G → (first i number : ℕ) (texts : List (List ℕ)) (text : List ℕ) (block next : Block) (old new : List (Numbered Form)) → slice_get texts i ≡ Some text → number ≡ first + i → SoFar G first texts i old block → Stands G number text block next old new → SoFar G first texts (i + 1) new next
next_stands {Form} {Block} G l first i number texts text block next old new here number-is so s =
    let F : Failing = FailsPart G first texts in
    let lt = read_within texts i text here in
    let fine : (r : ℕ) → F (first + i) r → ⊥ = λ r. λ (f : F (first + i) r). elim f [
      | inl a ↦ no_form_fails G first i texts text s.form here s.is a.1
      | inr b ↦ elim b.1 [ inl c ↦ allowed_misplaced G l first i texts text s.form old block next here s.is so.stand so.open_block s.allowed c | inr c ↦ open_later G first i texts lt c ]
    ] in
    let place : first + i + 1 ≡ first + (i + 1) = omega arith in
    let count : length (take i texts) ≡ i = omega (arith, length-take i texts) in
    record {
      stand = rw (one_more texts i text here, s.put) (form_last G first number (take i texts) old text s.form so.stand s.is (omega (arith, number-is, count)));
      open_block = rw s.put (block_more G old number s.form ∙ ap (λ (x : Option Block). next_open G x s.form) so.open_block ∙ s.allowed);
      before = subst (Before F) place (more_before F (first + i) so.before fine);
    }

pub next_line : {Form Block Code : Type 0} (G : Grammar Form Block) → AreForms G → (block_of : Code → Block) (first i number : ℕ) (texts : List (List ℕ)) (text : List ℕ) (block next : Code) (old new : List (Numbered Form)) → slice_get texts i ≡ Some text → number ≡ first + i → SoFar G first texts i old (block_of block) → TakesLine G block_of number text block old new (Ok next) → SoFar G first texts (i + 1) new (block_of next)
next_line G l block_of first i number texts text block next old new here number-is so (inl s) = next_skips G l first i texts text (block_of block) (block_of next) old new here so s
next_line G l block_of first i number texts text block next old new here number-is so (inr s) = next_stands G l first i number texts text (block_of block) (block_of next) old new here number-is so s

-- a line that rule 1 refuses
no_form_first : {Form Block : Type 0} (G : Grammar Form Block) (first i : ℕ) (texts : List (List ℕ)) (text : List ℕ) (block : Block) (old : List (Numbered Form)) → slice_get texts i ≡ Some text → SoFar G first texts i old block → IsRefused G.is_line text → IsFirst (FailsPart G first texts) (first + i) 1
no_form_first G first i texts text block old here so r =
    first_at (FailsPart G first texts) (first + i) 1 (inl (refl, record { behind = i; text = text; line = record { place = refl; here = here }; not_skipped = r.not_skipped; no_form = r.no_form })) so.before
    (λ r. λ (f : FailsPart G first texts (first + i) r). elim f [ inl a ↦ omega (arith, a.0) | inr b ↦ omega (arith, b.0) ])

-- a line that rule 2 refuses
barred_first : {Form Block : Type 0} (G : Grammar Form Block) (first i : ℕ) (texts : List (List ℕ)) (text : List ℕ) (block : Block) (old : List (Numbered Form)) → slice_get texts i ≡ Some text → SoFar G first texts i old block → Barred G text block → IsFirst (FailsPart G first texts) (first + i) 2
barred_first G first i texts text block old here so b =
    first_at (FailsPart G first texts) (first + i) 2 (inr (refl, inl (record { behind = i; text = text; line = record { place = refl; here = here }; form = b.form; is = b.is; before = old; stand = so.stand; block = block; open_block = so.open_block; barred = b.barred }))) so.before
    (λ r. λ (f : FailsPart G first texts (first + i) r). elim f [ inl a ↦ absurd (no_form_fails G first i texts text b.form here b.is a.1) | inr c ↦ omega (arith, c.0) ])

pub refused_line : {Form Block Code : Type 0} (G : Grammar Form Block) (block_of : Code → Block) (first i number : ℕ) (texts : List (List ℕ)) (text : List ℕ) (block : Code) (old new : List (Numbered Form)) (fault : LoadFault) → slice_get texts i ≡ Some text → number ≡ first + i → SoFar G first texts i old (block_of block) → TakesLine G block_of number text block old new (Err fault) → Answers {X = Unit {0}} (FailsPart G first texts) (λ _. Unit {0}) (Err fault)
refused_line G block_of first i number texts text block old new (Refused at) here number-is so (line-is, inl (rule-is, r)) =
    subst (λ (n : ℕ). IsFirst (FailsPart G first texts) n at.rule) (sym (line-is ∙ number-is)) (subst (λ (x : ℕ). IsFirst (FailsPart G first texts) (first + i) x) (sym rule-is) (no_form_first G first i texts text (block_of block) old here so r))
refused_line G block_of first i number texts text block old new (Refused at) here number-is so (line-is, inr (rule-is, b)) =
    subst (λ (n : ℕ). IsFirst (FailsPart G first texts) n at.rule) (sym (line-is ∙ number-is)) (subst (λ (x : ℕ). IsFirst (FailsPart G first texts) (first + i) x) (sym rule-is) (barred_first G first i texts text (block_of block) old here so b))
refused_line G block_of first i number texts text block old new Memory here number-is so h = tt

-- ---- behind the last line

whole_part : {Form Block : Type 0} (G : Grammar Form Block) (first i : ℕ) (texts : List (List ℕ)) (lines : List (Numbered Form)) (block : Block) → i ≡ length texts → SoFar G first texts i lines block → StandFor G first texts lines
whole_part G first i texts lines block e so = subst (λ (x : List (List ℕ)). StandFor G first x lines) (take_all i texts (omega (arith, e))) so.stand

pub left_open : {Form Block : Type 0} (G : Grammar Form Block) (first i : ℕ) (texts : List (List ℕ)) (lines : List (Numbered Form)) (block : Block) → i ≡ length texts → SoFar G first texts i lines block → (block ≡ G.outside → ⊥) → IsFirst (FailsPart G first texts) (first + i) 2
left_open G first i texts lines block e so inside =
    first_at (FailsPart G first texts) (first + i) 2 (inr (refl, inr (record { place = omega (arith, e); lines = lines; stand = whole_part G first i texts lines block e so; block = block; open_block = so.open_block; inside = inside }))) so.before
    (λ r. λ (f : FailsPart G first texts (first + i) r). elim f [
      | inl a ↦ absurd (omega (arith, e, a.1.line.place, read_within texts a.1.behind a.1.text a.1.line.here))
      | inr c ↦ omega (arith, c.0)
    ])

pub all_closed : {Form Block : Type 0} (G : Grammar Form Block) → AreForms G → (first i : ℕ) (texts : List (List ℕ)) (lines : List (Numbered Form)) (block : Block) → i ≡ length texts → SoFar G first texts i lines block → block ≡ G.outside → Nowhere (FailsPart G first texts) × StandFor G first texts lines
all_closed {Form} {Block} G l first i texts lines block e so closed =
    let all = whole_part G first i texts lines block e so in
    let none : Nowhere (FailsPart G first texts) = λ n r. λ (f : FailsPart G first texts n r). elim (cases_lt n (first + i)) [
      | inl lt ↦ so.before n r lt f
      | inr le ↦ elim f [
        | inl a ↦ omega (arith, e, le, a.1.line.place, read_within texts a.1.behind a.1.text a.1.line.here)
        | inr b ↦ elim b.1 [
          | inl c ↦ omega (arith, e, le, c.line.place, read_within texts c.behind c.text c.line.here)
          | inr c ↦ open_closed c
        ]
      ]
    ] in
    (none, all)
  where
    open_closed : {n : ℕ} → IsLeftOpen G first texts n → ⊥
    open_closed c =
        let same : c.lines ≡ lines = one_standing G l first texts c.lines lines c.stand (whole_part G first i texts lines block e so) in
        let b : Some c.block ≡ Some block = sym c.open_block ∙ ap (λ (x : List (Numbered Form)). block_behind G (forms_of x)) same ∙ so.open_block in
        let b2 : c.block ≡ block = cc in
        c.inside (b2 ∙ closed)
