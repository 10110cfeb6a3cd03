-- What the four parts have in common, and what reading one of them answers of the whole bundle.
use Rattle.std.proofs.Common.{◌≡◌, ℕ, zero, suc, ◌+◌, ◌≤◌, ◌⊎◌, inl, inr, List, [], ◌∷◌, length, map, take, drop, Result, Ok, Err, Some, refl, sym, ap, subst, ◌∙◌, arith}
use Rattle.std.specs.Prelude.{slice_get, slice_range, All}
use Rattle.std.proofs.lemmas.Bool.{cases_lt}
use Rattle.std.proofs.lemmas.List.{length-map}
use Rattle.rl_defs.specs.declared.LoadFault.{LoadFault}
use Rattle.rl_defs.specs.declared.LoadFault.TheVariants.{Refused, Memory}
use Rattle.rl_defs.specs.declared.bundle.Numbered.{Numbered}
use Rattle.rl_defs.specs.declared.code.DomainText.{DomainText}
use Rattle.rl_defs.specs.Refusals.{Nowhere, Answers}
use Rattle.rl_defs.specs.Parts.{Grammar, StandFor, FailsPart, block_behind, forms_of}
use Rattle.rl_defs.specs.IdlParts as interfaces
use Rattle.rl_defs.specs.IdlParts.{interface_part}
use Rattle.rl_defs.specs.DomainParts as domains
use Rattle.rl_defs.specs.DomainParts.{domain_part, domains_of, AreDomains}
use Rattle.rl_defs.specs.BundleParts as parts
use Rattle.rl_defs.specs.BundleParts.{HeaderAt, header_place, IsPart, FailsIn, plan_part, client_part}
use Rattle.rl_defs.specs.BundleOrder.{numbers_of, IsDomainText}
use Rattle.rl_defs.specs.declared.idl.Idl.{Idl}
use Rattle.rl_defs.specs.declared.bundle.Plan.{Plan}
use Rattle.rl_defs.specs.declared.bundle.Clients.{Clients}
use Rattle.rl_text.specs.declared.line.Line.{Line}
use Rattle.rl_text.specs.Places.{text_of, AreNumbered, first_number}
use Rattle.rl_text.proofs.ListPlaces.{read_within}
use Rattle.rl_text.proofs.PartRules.{AreForms}
use Rattle.idl_syntax.proofs.IdlLaws.{interface_forms}
use Rattle.domain_code.proofs.DomainLaws.{domain_forms}
use Rattle.bundle_parts.specs.declared.header.Header.{Header}
use Rattle.bundle_parts.specs.declared.cut.At.{At}
use Rattle.bundle_parts.specs.Headers.{header_of}
use Rattle.bundle_parts.specs.Cuts.{IsRead, IsReached, IsSpan, Cuts, Ascends, Reaches}
use Rattle.bundle_parts.specs.Parts.{Passed, Moves, idl_stands, no_idl, idl_numbers, idl_closed, domains_stand, no_domains, numbers_of_domains, domains_closed, plan_stands, no_plan, plan_numbers, plan_closed, clients_stand, no_clients, client_numbers, clients_closed}
use Rattle.bundle_parts.proofs.HeaderLaws.{one_header_at}
use Rattle.bundle_parts.proofs.Ranges.{range_map}
use Rattle.bundle_parts.proofs.PartEnds.{first_of, lines_between, span_part, span_length, next_within}
use Rattle.bundle_parts.proofs.Cutting.{at_number, skip_part, take_part, refuse_part}
use Rattle.bundle_parts.proofs.Numbers.{from_lower, part_ascends, domains_ascend}
use Rattle.bundle_parts.proofs.Closed.{TellsOutside, closed_behind, one_domains}

-- ---- a part without texts

no_text : (i : ℕ) (text : List ℕ) → slice_get {X = List ℕ} [] i ≡ Some text → ⊥
no_text i text e = omega (arith, read_within [] i text e)

none_fails : {Form Block : Type 0} (G : Grammar Form Block) (first line rule : ℕ) → FailsPart G first [] line rule → ⊥
none_fails G first line rule (inl (is, f)) = no_text f.behind f.text f.line.here
none_fails G first line rule (inr (is, inl f)) = no_text f.behind f.text f.line.here
none_fails {Form} {Block} G first line rule (inr (is, inr f)) =
    let none : f.lines ≡ [] = f.stand in
    let e : Some G.outside ≡ Some f.block = sym (ap (λ (x : List (Numbered Form)). block_behind G (forms_of x)) none) ∙ f.open_block in
    let same : f.block ≡ G.outside = cc in
    f.inside same

nothing_fails : (h : parts.Header) (first line rule : ℕ) → FailsIn h first [] line rule → ⊥
nothing_fails parts.Interfaces first line rule f = none_fails _ first line rule f
nothing_fails parts.Domains first line rule f = none_fails _ first line rule f
nothing_fails parts.ThePlan first line rule f = none_fails _ first line rule f
nothing_fails parts.TheClients first line rule f = none_fails _ first line rule f

-- ---- what is so of each part

-- What is needed of a part: what its texts stand for, that it has nothing without texts, that its lines' numbers rise, and what is so
-- of it where no rule fails.
pub record IsKind {X : Type 0} (h : parts.Header) (stands : X → ℕ → List (List ℕ) → Type 0) (none : X → Type 0) (numbers : X → List ℕ) (closed : X → Type 0) : Type 0 where
  pub nothing : (x : X) (first : ℕ) → stands x first [] → none x
  pub anywhere : (x : X) (a b : ℕ) → stands x a [] → stands x b []
  pub rises : (x : X) (first : ℕ) (texts : List (List ℕ)) → stands x first texts → Ascends first (numbers x) (first + length texts)
  pub no_numbers : (x : X) → none x → numbers x ≡ []
  pub closes : (x : X) (first : ℕ) (texts : List (List ℕ)) → Nowhere (FailsIn h first texts) → stands x first texts → closed x

there_passes : {X : Type 0} (h : parts.Header) (stands : X → ℕ → List (List ℕ) → Type 0) (none : X → Type 0) (numbers : X → List ℕ) (closed : X → Type 0) → IsKind h stands none numbers closed → (texts : List (List ℕ)) (old new : ℕ) (x : X) → IsSpan texts h old new → IsRead texts (header_place h) old → Nowhere (FailsIn h (first_of old) (lines_between texts old new)) → stands x (first_of old) (lines_between texts old new) → Passed texts h old new stands none numbers closed x
there_passes h stands none numbers closed kind texts old new x span read nowhere stand = (
  record {
    read = take_part texts h old new span nowhere read;
    forward = omega (arith, span.behind);
    others = λ number g lt le y. elim (cases_lt (suc old) number) [
      | inl more ↦ absurd (span.none number g more le y)
      | inr less ↦ one_header_at texts (suc old) g h (at_number texts number (suc old) g (omega arith) y) span.header
    ];
    has = inr (first_of old, lines_between texts old new, span_part texts h old new span, stand);
    rises = from_lower (first_of old) (suc old) (suc new) (numbers x) (omega arith) (subst (Ascends (first_of old) (numbers x)) (span_length texts h old new span) (kind.rises x (first_of old) (lines_between texts old new) stand));
  },
  kind.closes x (first_of old) (lines_between texts old new) nowhere stand,
)

absent_passes : {X : Type 0} (h : parts.Header) (stands : X → ℕ → List (List ℕ) → Type 0) (none : X → Type 0) (numbers : X → List ℕ) (closed : X → Type 0) → IsKind h stands none numbers closed → (texts : List (List ℕ)) (old new : ℕ) (x : X) → (HeaderAt texts (suc old) h → ⊥) → new ≡ old → IsRead texts (header_place h) old → stands x 1 [] → Passed texts h old new stands none numbers closed x
absent_passes h stands none numbers closed kind texts old new x other same read stand =
    let P : ℕ → Type 0 = λ n. Passed texts h old n stands none numbers closed x in
    let missing : none x = kind.nothing x 1 stand in
    subst P (sym same) (
      record {
        read = skip_part texts h old other read;
        forward = omega arith;
        others = λ number g lt le y. absurd (omega arith);
        has = inl (λ number le y. omega (arith, read.early number h le y), missing);
        rises = subst (λ (ns : List ℕ). Ascends (suc old) ns (suc old)) (sym (kind.no_numbers x missing)) (omega arith);
      },
      kind.closes x 1 [] (nothing_fails h 1) stand,
    )

-- ---- numbers of a part's lines

dropped : (bytes : List ℕ) (number count : ℕ) (lines : List Line) → AreNumbered bytes number lines → AreNumbered bytes (number + count) (drop count lines)
dropped bytes number zero lines h = subst (λ (n : ℕ). AreNumbered bytes n lines) (let e : number ≡ number + 0 = omega arith in e) h
dropped bytes number (suc count) [] h = tt
dropped bytes number (suc count) (l ∷ lines) h = subst (λ (n : ℕ). AreNumbered bytes n (drop count lines)) (let e : number + 1 + count ≡ number + suc count = omega arith in e) (dropped bytes (number + 1) count lines h.2)

taken : (bytes : List ℕ) (number count : ℕ) (lines : List Line) → AreNumbered bytes number lines → AreNumbered bytes number (take count lines)
taken bytes number zero lines h = tt
taken bytes number (suc count) [] h = tt
taken bytes number (suc count) (l ∷ lines) h = (h.0, h.1, taken bytes (number + 1) count lines h.2)

from_first : (bytes : List ℕ) (number : ℕ) (lines : List Line) → AreNumbered bytes number lines → AreNumbered bytes (first_number lines) lines
from_first bytes number [] h = tt
from_first bytes number (l ∷ lines) h = subst (λ (n : ℕ). AreNumbered bytes n (l ∷ lines)) (sym h.0) h

none_or_first : (bytes : List ℕ) (number : ℕ) (lines : List Line) → AreNumbered bytes number lines → (lines ≡ []) ⊎ (first_number lines ≡ number)
none_or_first bytes number [] h = inl refl
none_or_first bytes number (l ∷ lines) h = inr h.0

between_numbered : (bytes : List ℕ) (lines : List Line) (old new : ℕ) → AreNumbered bytes 1 lines → AreNumbered bytes (first_of old) (slice_range lines (suc old) new)
between_numbered bytes lines old new h =
    let e : 1 + suc old ≡ first_of old = omega arith in
    taken bytes (first_of old) _ (drop (suc old) lines) (subst (λ (n : ℕ). AreNumbered bytes n (drop (suc old) lines)) e (dropped bytes 1 (suc old) lines h))

-- the lines that were cut off are numbered upwards, and few
pub cut_numbered : (bytes : List ℕ) (lines : List Line) (texts : List (List ℕ)) (h : Header) (old new : At) (part : List Line) → AreNumbered bytes 1 lines → Cuts lines texts h old new part → AreNumbered bytes (first_number part) part
cut_numbered bytes lines texts h old new part numbered c = elim c.found [
  | inl there ↦ subst (λ (xs : List Line). AreNumbered bytes (first_number xs) xs) (sym there.lines_of) (from_first bytes (first_of old.place) (slice_range lines (suc old.place) new.place) (between_numbered bytes lines old.place new.place numbered))
  | inr absent ↦ subst (λ (xs : List Line). AreNumbered bytes (first_number xs) xs) (sym absent.no_lines) tt
]

-- ---- reading a part

abbrev pub Reading : {X : Type 0} → parts.Header → (X → ℕ → List (List ℕ) → Type 0) → ℕ → List (List ℕ) → Result X LoadFault → Type 0
Reading h stands first texts result = Answers (FailsIn h first texts) (λ x. stands x first texts) result

-- a part without texts is read the same whatever its first number is
other_first : {X : Type 0} (h : parts.Header) (stands : X → ℕ → List (List ℕ) → Type 0) → ((x : X) (a b : ℕ) → stands x a [] → stands x b []) → (a b : ℕ) (result : Result X LoadFault) → Reading h stands a [] result → Reading h stands b [] result
other_first h stands anywhere a b (Ok x) r = (nothing_fails h b, anywhere x a b r.1)
other_first h stands anywhere a b (Err (Refused at)) r = absurd (nothing_fails h a at.line at.rule r.fails)
other_first h stands anywhere a b (Err Memory) r = tt

read_there : {X : Type 0} (h : parts.Header) (stands : X → ℕ → List (List ℕ) → Type 0) → ((x : X) (a b : ℕ) → stands x a [] → stands x b []) → (bytes : List ℕ) (lines part : List Line) (old new : ℕ) (result : Result X LoadFault) → AreNumbered bytes 1 lines → part ≡ slice_range lines (suc old) new → Reading h stands (first_number part) (map (text_of bytes) part) result → Reading h stands (first_of old) (lines_between (map (text_of bytes) lines) old new) result
read_there h stands anywhere bytes lines part old new result numbered is r =
    let between : List Line = slice_range lines (suc old) new in
    let texts : map (text_of bytes) between ≡ lines_between (map (text_of bytes) lines) old new = range_map (text_of bytes) lines (suc old) new in
    let s : Reading h stands (first_number between) (map (text_of bytes) between) result = subst (λ (xs : List Line). Reading h stands (first_number xs) (map (text_of bytes) xs) result) is r in
    subst (λ (xs : List (List ℕ)). Reading h stands (first_of old) xs result) texts (elim (none_or_first bytes (first_of old) between (between_numbered bytes lines old new numbered)) [
      | inl none ↦ subst (λ (xs : List Line). Reading h stands (first_of old) (map (text_of bytes) xs) result) (sym none) (other_first h stands anywhere 1 (first_of old) result (subst (λ (xs : List Line). Reading h stands (first_number xs) (map (text_of bytes) xs) result) none s))
      | inr first ↦ subst (λ (n : ℕ). Reading h stands n (map (text_of bytes) between) result) first s
    ])

there_answers : {X : Type 0} (h : parts.Header) (stands : X → ℕ → List (List ℕ) → Type 0) (none : X → Type 0) (numbers : X → List ℕ) (closed : X → Type 0) → IsKind h stands none numbers closed → (texts : List (List ℕ)) (old new : ℕ) (result : Result X LoadFault) → IsSpan texts h old new → IsRead texts (header_place h) old → Reading h stands (first_of old) (lines_between texts old new) result → Reaches texts (Passed texts h old new stands none numbers closed) result
there_answers h stands none numbers closed kind texts old new (Ok x) span read r = there_passes h stands none numbers closed kind texts old new x span read r.0 r.1
there_answers h stands none numbers closed kind texts old new (Err (Refused at)) span read r = refuse_part texts h old new at.line at.rule span read r
there_answers h stands none numbers closed kind texts old new (Err Memory) span read r = tt

absent_answers : {X : Type 0} (h : parts.Header) (stands : X → ℕ → List (List ℕ) → Type 0) (none : X → Type 0) (numbers : X → List ℕ) (closed : X → Type 0) → IsKind h stands none numbers closed → (texts : List (List ℕ)) (old new : ℕ) (result : Result X LoadFault) → (HeaderAt texts (suc old) h → ⊥) → new ≡ old → IsRead texts (header_place h) old → Reading h stands 1 [] result → Reaches texts (Passed texts h old new stands none numbers closed) result
absent_answers h stands none numbers closed kind texts old new (Ok x) other same read r = absent_passes h stands none numbers closed kind texts old new x other same read r.1
absent_answers h stands none numbers closed kind texts old new (Err (Refused at)) other same read r = absurd (nothing_fails h 1 at.line at.rule r.fails)
absent_answers h stands none numbers closed kind texts old new (Err Memory) other same read r = tt

-- what reading the lines that were cut off answers of the bundle
pub part_answers : {X : Type 0} (h : Header) (stands : X → ℕ → List (List ℕ) → Type 0) (none : X → Type 0) (numbers : X → List ℕ) (closed : X → Type 0) → IsKind (header_of h) stands none numbers closed → (bytes : List ℕ) (lines part : List Line) (old new : At) (result : Result X LoadFault) → AreNumbered bytes 1 lines → Cuts lines (map (text_of bytes) lines) h old new part → IsRead (map (text_of bytes) lines) (header_place (header_of h)) old.place → Reading (header_of h) stands (first_number part) (map (text_of bytes) part) result → Reaches (map (text_of bytes) lines) (Passed (map (text_of bytes) lines) (header_of h) old.place new.place stands none numbers closed) result
part_answers {X} h stands none numbers closed kind bytes lines part old new result numbered c read r = elim c.found [
  | inl there ↦ there_answers (header_of h) stands none numbers closed kind (map (text_of bytes) lines) old.place new.place result there.span read (read_there (header_of h) stands kind.anywhere bytes lines part old.place new.place result numbered there.lines_of r)
  | inr absent ↦ absent_answers (header_of h) stands none numbers closed kind (map (text_of bytes) lines) old.place new.place result absent.other (ap (λ (at : At). at.place) absent.same) read (subst (λ (xs : List Line). Reading (header_of h) stands (first_number xs) (map (text_of bytes) xs) result) absent.no_lines r)
]

-- ---- the four parts

-- a part whose lines are what its texts stand for
abbrev pub Stands : {Form Block : Type 0} → Grammar Form Block → List (Numbered Form) → ℕ → List (List ℕ) → Type 0
Stands G lines first texts = StandFor G first texts lines

grammar_kind : {Form Block X : Type 0} (h : parts.Header) (G : Grammar Form Block) (lines_of : X → List (Numbered Form)) → AreForms G → TellsOutside G → ((first line rule : ℕ) (texts : List (List ℕ)) → FailsPart G first texts line rule → FailsIn h first texts line rule) → IsKind h (λ (x : X). Stands G (lines_of x)) (λ x. lines_of x ≡ []) (λ x. numbers_of (lines_of x)) (λ x. block_behind G (forms_of (lines_of x)) ≡ Some G.outside)
grammar_kind h G lines_of forms tells same = record {
  nothing = λ x first s. s;
  anywhere = λ x a b s. s;
  rises = λ x first texts s. part_ascends G first texts (lines_of x) s;
  no_numbers = λ x none. ap numbers_of none;
  closes = λ x first texts nowhere s. closed_behind G forms tells first texts (lines_of x) (λ l r f. nowhere l r (same first l r texts f)) s;
}

tells_interfaces : TellsOutside interface_part
tells_interfaces interfaces.Outside = inl refl
tells_interfaces interfaces.InStruct = inr (λ e. cc)
tells_interfaces interfaces.InTrait = inr (λ e. cc)
tells_interfaces interfaces.BeforeMethod = inr (λ e. cc)

tells_domains : TellsOutside domain_part
tells_domains domains.Outside = inl refl
tells_domains (domains.Declares words slots native) = inr (λ e. cc)
tells_domains domains.BehindFunction = inr (λ e. cc)
tells_domains domains.InFunction = inr (λ e. cc)
tells_domains domains.BehindEnd = inr (λ e. cc)

tells_clients : TellsOutside client_part
tells_clients parts.Outside = inl refl
tells_clients parts.InClient = inr (λ e. cc)

tells_plan : TellsOutside plan_part
tells_plan parts.Anywhere = inl refl

pub interface_kind : IsKind parts.Interfaces idl_stands no_idl idl_numbers idl_closed
interface_kind = grammar_kind parts.Interfaces interface_part (λ (x : Idl). x.lines) interface_forms tells_interfaces (λ first line rule texts f. f)

pub plan_kind : AreForms plan_part → IsKind parts.ThePlan plan_stands no_plan plan_numbers plan_closed
plan_kind forms = grammar_kind parts.ThePlan plan_part (λ (x : Plan). x.lines) forms tells_plan (λ first line rule texts f. f)

pub client_kind : AreForms client_part → IsKind parts.TheClients clients_stand no_clients client_numbers clients_closed
client_kind forms = grammar_kind parts.TheClients client_part (λ (x : Clients). x.lines) forms tells_clients (λ first line rule texts f. f)

pub domain_kind : IsKind parts.Domains domains_stand no_domains numbers_of_domains domains_closed
domain_kind = record {
  nothing = λ x first s. s.cut ∙ ap domains_of s.stand;
  anywhere = λ x a b s. record { lines = s.lines; stand = s.stand; cut = s.cut };
  rises = λ x first texts s. subst (λ (ds : List DomainText). Ascends first (numbers_of_domains ds) (first + length texts)) (sym s.cut) (domains_ascend first (first + length texts) s.lines (part_ascends domain_part first texts s.lines s.stand));
  no_numbers = λ x none. ap numbers_of_domains none;
  closes = λ x first texts nowhere s. subst (All IsDomainText) (sym s.cut) (one_domains domains.Outside s.lines (closed_behind domain_part domain_forms tells_domains first texts s.lines nowhere s.stand));
}

-- ---- what code answers at a part's place

reaches_more : {X : Type 0} (texts : List (List ℕ)) (P Q : X → Type 0) (result : Result X LoadFault) → ((x : X) → P x → Q x) → Reaches texts P result → Reaches texts Q result
reaches_more texts P Q (Ok x) f r = f x r
reaches_more texts P Q (Err (Refused at)) f r = r
reaches_more texts P Q (Err Memory) f r = tt

pub part_moves : {X : Type 0} (h : Header) (stands : X → ℕ → List (List ℕ) → Type 0) (none : X → Type 0) (numbers : X → List ℕ) (closed : X → Type 0) → IsKind (header_of h) stands none numbers closed → (bytes : List ℕ) (lines part : List Line) (old new : At) (result : Result X LoadFault) → AreNumbered bytes 1 lines → IsReached (map (text_of bytes) lines) (header_place (header_of h)) old → Cuts lines (map (text_of bytes) lines) h old new part → Reading (header_of h) stands (first_number part) (map (text_of bytes) part) result → Reaches (map (text_of bytes) lines) (Moves (map (text_of bytes) lines) (header_of h) old new stands none numbers closed) result
part_moves {X} h stands none numbers closed kind bytes lines part old new result numbered reached c r =
    reaches_more (map (text_of bytes) lines) (Passed (map (text_of bytes) lines) (header_of h) old.place new.place stands none numbers closed) (Moves (map (text_of bytes) lines) (header_of h) old new stands none numbers closed) result
    (λ x p. (record { stands = c.stands; read = p.0.read }, p))
    (part_answers h stands none numbers closed kind bytes lines part old new result numbered c reached.read r)

between_room : (bytes : List ℕ) (lines : List Line) (h : parts.Header) (old new : ℕ) → AreNumbered bytes 1 lines → length lines ≤ 1048576 → IsSpan (map (text_of bytes) lines) h old new → first_number (slice_range lines (suc old) new) + length (slice_range lines (suc old) new) ≤ 1048577
between_room bytes lines h old new numbered few span =
    let between : List Line = slice_range lines (suc old) new in
    let texts : List (List ℕ) = map (text_of bytes) lines in
    let count : first_of old + length (lines_between texts old new) ≡ suc new = span_length texts h old new span in
    let same : length between ≡ length (lines_between texts old new) = sym (length-map between (text_of bytes)) ∙ ap length (range_map (text_of bytes) lines (suc old) new) in
    let all : length texts ≡ length lines = length-map lines (text_of bytes) in
    let within : new ≤ length texts = next_within texts h old new span in
    elim (none_or_first bytes (first_of old) between (between_numbered bytes lines old new numbered)) [
      | inl none ↦ subst (λ (xs : List Line). first_number xs + length xs ≤ 1048577) (sym none) (omega arith)
      | inr first ↦ omega (arith, first, count, same, all, within, few)
    ]

-- the numbers of the lines that were cut off fit
pub cut_room : (bytes : List ℕ) (lines : List Line) (h : Header) (old new : At) (part : List Line) → AreNumbered bytes 1 lines → length lines ≤ 1048576 → Cuts lines (map (text_of bytes) lines) h old new part → first_number part + length part ≤ 1048577
cut_room bytes lines h old new part numbered few c = elim c.found [
  | inl there ↦ subst (λ (xs : List Line). first_number xs + length xs ≤ 1048577) (sym there.lines_of) (between_room bytes lines (header_of h) old.place new.place numbered few there.span)
  | inr absent ↦ subst (λ (xs : List Line). first_number xs + length xs ≤ 1048577) (sym absent.no_lines) (omega arith)
]
