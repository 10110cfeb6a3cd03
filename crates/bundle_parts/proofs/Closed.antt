-- Where no rule fails in a part, no block is open behind it, and each of its domains is one.
use Rattle.std.proofs.Common.{◌≡◌, ℕ, zero, suc, ◌+◌, ◌⊎◌, inl, inr, Bool, true, false, List, [], ◌∷◌, ◌++◌, length, Option, Some, None, refl, sym, ap, subst, ◌∙◌, append_assoc, append-nil, length-append, arith}
use Rattle.std.specs.Prelude.{slice_get, fold, All}
use Rattle.std.proofs.lemmas.List.{take_all}
use Rattle.rl_defs.specs.declared.bundle.Numbered.{Numbered}
use Rattle.rl_defs.specs.declared.code.DomainLine.{DomainLine}
use Rattle.rl_defs.specs.declared.code.DomainLine.TheVariants as line
use Rattle.rl_defs.specs.Domains.{Lines}
use Rattle.rl_defs.specs.Refusals.{Nowhere}
use Rattle.rl_defs.specs.Parts.{Grammar, next_open, block_behind, forms_of, numbered, StandFor, FailsPart}
use Rattle.rl_defs.specs.DomainParts as domains
use Rattle.rl_defs.specs.DomainParts.{domain_part, next_block, begins_domain, rest_of_domain, domains_of}
use Rattle.rl_defs.specs.BundleOrder.{IsDomainText}
use Rattle.rl_text.proofs.PartRules.{AreForms, SoFar, no_lines, next_skips, next_stands}

-- whether a block is the one outside any block
abbrev pub TellsOutside : {Form Block : Type 0} → Grammar Form Block → Type 0
TellsOutside {Form} {Block} G = (block : Block) → (block ≡ G.outside) ⊎ (block ≡ G.outside → ⊥)

at_end : {A : Type 0} (front : List A) (x : A) (more : List A) → slice_get (front ++ x ∷ more) (length front) ≡ Some x
at_end [] x more = refl
at_end (y ∷ front) x more = at_end front x more

whole_part : {Form Block : Type 0} (G : Grammar Form Block) (first i : ℕ) (texts : List (List ℕ)) (lines : List (Numbered Form)) (block : Block) → i ≡ length texts → SoFar G first texts i lines block → StandFor G first texts lines
whole_part G first i texts lines block e so = subst (λ (x : List (List ℕ)). StandFor G first x lines) (take_all i texts (omega (arith, e))) so.stand

-- at the end no block is open
none_open : {Form Block : Type 0} (G : Grammar Form Block) → TellsOutside G → (first i : ℕ) (texts : List (List ℕ)) (done : List (Numbered Form)) (block : Block) → Nowhere (FailsPart G first texts) → i ≡ length texts → SoFar G first texts i done block → block ≡ G.outside
none_open {Form} {Block} G tells first i texts done block nowhere e so = elim (tells block) [
  | inl is ↦ is
  | inr inside ↦ absurd (nowhere (first + length texts) 2 (inr (refl, inr (record { place = refl; lines = done; stand = whole_part G first i texts done block e so; block = block; open_block = so.open_block; inside = inside }))))
]

-- the block behind a form, where it may stand
step_on : {Form Block : Type 0} (G : Grammar Form Block) (block : Block) (form : Form) (forms : List Form) (o : Option Block) → G.next block form ≡ o → (G.next block form ≡ None → ⊥) → ((next : Block) → G.next block form ≡ Some next → fold (next_open G) (Some next) forms ≡ Some G.outside) → fold (next_open G) (G.next block form) forms ≡ Some G.outside
step_on G block form forms None is never on = absurd (never is)
step_on {Form} {Block} G block form forms (Some next) is never on = ap (λ (o : Option Block). fold (next_open G) o forms) is ∙ on next is

walk : {Form Block : Type 0} (G : Grammar Form Block) → AreForms G → TellsOutside G → (first : ℕ) (all front texts : List (List ℕ)) (done more : List (Numbered Form)) (block : Block) → Nowhere (FailsPart G first all) → all ≡ front ++ texts → SoFar G first all (length front) done block → StandFor G (first + length front) texts more → fold (next_open G) (Some block) (forms_of more) ≡ Some G.outside
walk {Form} {Block} G forms tells first all front [] done more block nowhere is so stand =
    let none : more ≡ [] = stand in
    let count : length front ≡ length all = sym (ap length (is ∙ append-nil front)) in
    let outside : block ≡ G.outside = none_open G tells first (length front) all done block nowhere count so in
    ap (λ (x : List (Numbered Form)). fold (next_open G) (Some block) (forms_of x)) none ∙ ap (λ (b : Block). Some b) outside
walk {Form} {Block} G forms tells first all front (text ∷ texts) done more block nowhere is so (inl h) =
    let here : slice_get all (length front) ≡ Some text = ap (λ (x : List (List ℕ)). slice_get x (length front)) is ∙ at_end front text texts in
    let next : SoFar G first all (length front + 1) done block = next_skips G forms first (length front) all text block block done done here so (record { skipped = h.0; same_block = refl; same_lines = refl }) in
    let count : length (front ++ text ∷ []) ≡ length front + 1 = length-append front (text ∷ []) in
    walk G forms tells first all (front ++ text ∷ []) texts done more block nowhere (is ∙ sym (append_assoc front (text ∷ []) texts)) (subst (λ (i : ℕ). SoFar G first all i done block) (sym count) next) (subst (λ (n : ℕ). StandFor G n texts more) (omega (arith, count)) h.1)
walk {Form} {Block} G forms tells first all front (text ∷ texts) done more block nowhere is so (inr (form, others, shape, f, h)) =
    let here : slice_get all (length front) ≡ Some text = ap (λ (x : List (List ℕ)). slice_get x (length front)) is ∙ at_end front text texts in
    let count : length (front ++ text ∷ []) ≡ length front + 1 = length-append front (text ∷ []) in
    let line : Numbered Form = numbered (first + length front) form in
    let so_next : (next : Block) → G.next block form ≡ Some next → SoFar G first all (length front + 1) (done ++ line ∷ []) next = λ next allowed. next_stands G forms first (length front) (first + length front) all text block next done (done ++ line ∷ []) here refl so (record { form = form; is = f; allowed = allowed; put = refl }) in
    ap (λ (x : List (Numbered Form)). fold (next_open G) (Some block) (forms_of x)) shape
    ∙ step_on G block form (forms_of others) (G.next block form) refl
    (λ barred. nowhere (first + length front) 2 (inr (refl, inl (record { behind = length front; text = text; line = record { place = refl; here = here }; form = form; is = f; before = done; stand = so.stand; block = block; open_block = so.open_block; barred = barred }))))
    (λ next allowed. walk G forms tells first all (front ++ text ∷ []) texts (done ++ line ∷ []) others next nowhere (is ∙ sym (append_assoc front (text ∷ []) texts)) (subst (λ (i : ℕ). SoFar G first all i (done ++ line ∷ []) next) (sym count) (so_next next allowed)) (subst (λ (m : ℕ). StandFor G m texts others) (omega (arith, count)) h))

-- behind the lines of a part in which no rule fails no block is open
pub closed_behind : {Form Block : Type 0} (G : Grammar Form Block) → AreForms G → TellsOutside G → (first : ℕ) (texts : List (List ℕ)) (lines : List (Numbered Form)) → Nowhere (FailsPart G first texts) → StandFor G first texts lines → block_behind G (forms_of lines) ≡ Some G.outside
closed_behind G forms tells first texts lines nowhere stand = walk G forms tells first texts [] texts [] lines G.outside nowhere refl (no_lines G first texts) (subst (λ (n : ℕ). StandFor G n texts lines) (omega arith) stand)

-- ---- domains

no_block : (forms : List DomainLine) → fold (next_open domain_part) None forms ≡ None
no_block [] = refl
no_block (form ∷ forms) = no_block forms

-- a line that begins a domain stands outside any block
begins_outside : (block : domains.DomainBlock) (form : DomainLine) → begins_domain form ≡ true → (next_block block form ≡ None) ⊎ (block ≡ domains.Outside)
begins_outside domains.Outside form e = inr refl
begins_outside (domains.Declares words slots native) (line.Domain name has) e = inl refl
begins_outside domains.BehindFunction (line.Domain name has) e = inl refl
begins_outside domains.InFunction (line.Domain name has) e = inl refl
begins_outside domains.BehindEnd (line.Domain name has) e = inl refl
begins_outside block form e = absurd cc

outside_at : (block : domains.DomainBlock) (l : Numbered DomainLine) (ls : Lines) → begins_domain l.form ≡ true → fold (next_open domain_part) (Some block) (forms_of (l ∷ ls)) ≡ Some domains.Outside → block ≡ domains.Outside
outside_at block l ls begins e = elim (begins_outside block l.form begins) [
  | inl barred ↦ (let f = sym (ap (λ (o : Option domains.DomainBlock). fold (next_open domain_part) o (forms_of ls)) barred) ∙ e in let g = sym (no_block (forms_of ls)) ∙ f in absurd cc)
  | inr is ↦ is
]

-- the block behind a line that is followed by others up to the end of a domain
next_is : (ls : Lines) (o : Option domains.DomainBlock) → fold (next_open domain_part) o (forms_of ls) ≡ Some domains.Outside → (next : domains.DomainBlock) × (o ≡ Some next)
next_is ls None e = absurd (let f = sym (no_block (forms_of ls)) ∙ e in cc)
next_is ls (Some next) e = (next, refl)

rest_step : (block : domains.DomainBlock) (l : Numbered DomainLine) (ls : Lines) (b : Bool) → begins_domain l.form ≡ b → fold (next_open domain_part) (Some block) (forms_of (l ∷ ls)) ≡ Some domains.Outside → ((next : domains.DomainBlock) → fold (next_open domain_part) (Some next) (forms_of ls) ≡ Some domains.Outside → fold (next_open domain_part) (Some next) (forms_of (rest_of_domain ls)) ≡ Some domains.Outside) → fold (next_open domain_part) (Some block) (forms_of (rest_of_domain (l ∷ ls))) ≡ Some domains.Outside
rest_step block l ls true begins e on = rw begins (ap (λ (b : domains.DomainBlock). Some b) (outside_at block l ls begins e))
rest_step block l ls false goes_on e on =
    let n = next_is ls (next_block block l.form) e in
    let f : fold (next_open domain_part) (Some n.0) (forms_of ls) ≡ Some domains.Outside = sym (ap (λ (o : Option domains.DomainBlock). fold (next_open domain_part) o (forms_of ls)) n.1) ∙ e in
    rw goes_on (ap (λ (o : Option domains.DomainBlock). fold (next_open domain_part) o (forms_of (rest_of_domain ls))) n.1 ∙ on n.0 f)

rest_closed : (block : domains.DomainBlock) (ls : Lines) → fold (next_open domain_part) (Some block) (forms_of ls) ≡ Some domains.Outside → fold (next_open domain_part) (Some block) (forms_of (rest_of_domain ls)) ≡ Some domains.Outside
rest_closed block [] e = e
rest_closed block (l ∷ ls) e = rest_step block l ls (begins_domain l.form) refl e (λ next f. rest_closed next ls f)

once_step : (l : Numbered DomainLine) (ls : Lines) (b : Bool) → begins_domain l.form ≡ b → rest_of_domain (rest_of_domain ls) ≡ rest_of_domain ls → rest_of_domain (rest_of_domain (l ∷ ls)) ≡ rest_of_domain (l ∷ ls)
once_step l ls true e more = rw e refl
once_step l ls false e more = rw (e, e) (ap (λ (xs : Lines). l ∷ xs) more)

rest_once : (ls : Lines) → rest_of_domain (rest_of_domain ls) ≡ rest_of_domain ls
rest_once [] = refl
rest_once (l ∷ ls) = once_step l ls (begins_domain l.form) refl (rest_once ls)

all_none : {X : Type 0} (P : X → Type 0) → All P []
all_none P k d lt = absurd (omega arith)

all_more : {X : Type 0} (P : X → Type 0) (x : X) (xs : List X) → P x → All P xs → All P (x ∷ xs)
all_more P x xs h more zero d lt = h
all_more P x xs h more (suc k) d lt = more k d (omega (arith, lt))

domains_step : (block : domains.DomainBlock) (l : Numbered DomainLine) (ls : Lines) (b : Bool) → begins_domain l.form ≡ b → fold (next_open domain_part) (Some block) (forms_of (l ∷ ls)) ≡ Some domains.Outside → ((next : domains.DomainBlock) → fold (next_open domain_part) (Some next) (forms_of ls) ≡ Some domains.Outside → All IsDomainText (domains_of ls)) → All IsDomainText (domains_of (l ∷ ls))
domains_step block l ls true begins e on =
    let n = next_is ls (next_block block l.form) e in
    let later : fold (next_open domain_part) (Some n.0) (forms_of ls) ≡ Some domains.Outside = sym (ap (λ (o : Option domains.DomainBlock). fold (next_open domain_part) o (forms_of ls)) n.1) ∙ e in
    let out : block ≡ domains.Outside = outside_at block l ls begins e in
    let whole : fold (next_open domain_part) (Some block) (forms_of (l ∷ rest_of_domain ls)) ≡ Some domains.Outside = ap (λ (o : Option domains.DomainBlock). fold (next_open domain_part) o (forms_of (rest_of_domain ls))) n.1 ∙ rest_closed n.0 ls later in
    let closed : block_behind domain_part (forms_of (l ∷ rest_of_domain ls)) ≡ Some domains.Outside = subst (λ (b : domains.DomainBlock). fold (next_open domain_part) (Some b) (forms_of (l ∷ rest_of_domain ls)) ≡ Some domains.Outside) out whole in
    rw begins (all_more IsDomainText (record { lines = l ∷ rest_of_domain ls }) (domains_of ls) (begins, rest_once ls, closed) (on n.0 later))
domains_step block l ls false goes_on e on =
    let n = next_is ls (next_block block l.form) e in
    let later : fold (next_open domain_part) (Some n.0) (forms_of ls) ≡ Some domains.Outside = sym (ap (λ (o : Option domains.DomainBlock). fold (next_open domain_part) o (forms_of ls)) n.1) ∙ e in
    rw goes_on (on n.0 later)

-- each domain of a part behind which no block is open is one domain
pub one_domains : (block : domains.DomainBlock) (ls : Lines) → fold (next_open domain_part) (Some block) (forms_of ls) ≡ Some domains.Outside → All IsDomainText (domains_of ls)
one_domains block [] e = all_none IsDomainText
one_domains block (l ∷ ls) e = domains_step block l ls (begins_domain l.form) refl e (λ next f. one_domains next ls f)
