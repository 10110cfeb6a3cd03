-- Where no rule fails in a part, no block is open behind it, and each of its domains is one.
use Rattle.std.proofs.Common.{◌≡◌, ℕ, zero, suc, ◌+◌, ◌⊎◌, inl, inr, Bool, true, false, List, [], ◌∷◌, ◌++◌, length, Option, Some, None, refl, sym, ap, subst, ◌∙◌, append_assoc, append-nil, length-append, arith}
use Rattle.std.specs.Prelude.{slice_get, fold, take}
use Rattle.rl_defs.specs.declared.bundle.Numbered.{Numbered}
use Rattle.rl_defs.specs.declared.code.DomainLine.{DomainLine}
use Rattle.rl_defs.specs.declared.code.DomainLine.TheVariants as line
use Rattle.rl_defs.specs.declared.code.DomainText.{DomainText}
use Rattle.rl_defs.specs.Domains.{Lines}
use Rattle.rl_defs.specs.Refusals.{Nowhere}
use Rattle.rl_defs.specs.Tokens.{IsSkipped}
use Rattle.rl_defs.specs.Parts.{Grammar, next_open, block_behind, forms_of, numbered, StandFor, FailsPart}
use Rattle.rl_defs.specs.DomainParts as domains
use Rattle.rl_defs.specs.DomainParts.{domain_part, next_block, begins_domain, rest_of_domain, domains_of}
use Rattle.rl_defs.specs.DomainParts.{IsOneDomain}

-- whether a block is the one outside any block
abbrev pub TellsOutside : {Form Block : Type 0} → Grammar Form Block → Type 0
TellsOutside {Form} {Block} G = (block : Block) → (block ≡ G.outside) ⊎ (block ≡ G.outside → ⊥)

at_end : {A : Type 0} (front : List A) (x : A) (more : List A) → slice_get (front ++ x ∷ more) (length front) ≡ Some x
at_end [] x more = refl
at_end (y ∷ front) x more = at_end front x more

take_front : {A : Type 0} (front more : List A) → take (length front) (front ++ more) ≡ front
take_front [] [] = refl
take_front [] (x ∷ more) = refl
take_front {A} (y ∷ front) more = ap (λ (xs : List A). y ∷ xs) (take_front front more)

-- texts with one more
stand_skip : {Form Block : Type 0} (G : Grammar Form Block) (first : ℕ) (front : List (List ℕ)) (text : List ℕ) (done : List (Numbered Form)) → StandFor G first front done → IsSkipped text → StandFor G first (front ++ text ∷ []) done
stand_skip G first [] text done h skipped = inl (skipped, h)
stand_skip G first (t ∷ front) text done (inl h) skipped = inl (h.0, stand_skip G (first + 1) front text done h.1 skipped)
stand_skip G first (t ∷ front) text done (inr (form, more, shape, f, h)) skipped = inr (form, more, shape, f, stand_skip G (first + 1) front text more h skipped)

stand_form : {Form Block : Type 0} (G : Grammar Form Block) (first n : ℕ) (front : List (List ℕ)) (text : List ℕ) (done : List (Numbered Form)) (form : Form) → StandFor G first front done → n ≡ first + length front → G.is_line form text → StandFor G first (front ++ text ∷ []) (done ++ numbered n form ∷ [])
stand_form {Form} G first n [] text done form h at f =
    let same : n ≡ first = omega (arith, at) in
    inr (form, [], ap (λ (ls : List (Numbered Form)). ls ++ numbered n form ∷ []) h ∙ ap (λ (m : ℕ). numbered m form ∷ []) same, f, refl)
stand_form G first n (t ∷ front) text done form (inl h) at f = inl (h.0, stand_form G (first + 1) n front text done form h.1 (omega (arith, at)) f)
stand_form {Form} G first n (t ∷ front) text done form (inr (other, more, shape, g, h)) at f =
    inr (other, more ++ numbered n form ∷ [], ap (λ (ls : List (Numbered Form)). ls ++ numbered n form ∷ []) shape, g, stand_form G (first + 1) n front text more form h (omega (arith, at)) f)

fold_more : {Form Block : Type 0} (G : Grammar Form Block) (o : Option Block) (done : List (Numbered Form)) (n : ℕ) (form : Form) → fold (next_open G) o (forms_of (done ++ numbered n form ∷ [])) ≡ next_open G (fold (next_open G) o (forms_of done)) form
fold_more G o [] n form = refl
fold_more G o (l ∷ done) n form = fold_more G (next_open G o l.form) done n form

-- What was read of a part: these texts stand for these lines, behind which this block is open.
record Read {Form Block : Type 0} (G : Grammar Form Block) (first : ℕ) (front : List (List ℕ)) (done : List (Numbered Form)) (block : Block) : Type 0 where
  stand : StandFor G first front done
  open_block : block_behind G (forms_of done) ≡ Some block

-- at the end no block is open
none_open : {Form Block : Type 0} (G : Grammar Form Block) → TellsOutside G → (first : ℕ) (texts : List (List ℕ)) (done : List (Numbered Form)) (block : Block) → Nowhere (FailsPart G first texts) → Read G first texts done block → block ≡ G.outside
none_open G tells first texts done block nowhere so = elim (tells block) [
  | inl is ↦ is
  | inr inside ↦ absurd (nowhere (first + length texts) 2 (inr (refl, inr (record { place = refl; lines = done; stand = so.stand; block = block; open_block = so.open_block; inside = inside }))))
]

-- the block behind a form, where it may stand
step_on : {Form Block : Type 0} (G : Grammar Form Block) (block : Block) (form : Form) (forms : List Form) (o : Option Block) → G.next block form ≡ o → (G.next block form ≡ None → ⊥) → ((next : Block) → G.next block form ≡ Some next → fold (next_open G) (Some next) forms ≡ Some G.outside) → fold (next_open G) (G.next block form) forms ≡ Some G.outside
step_on G block form forms None is never on = absurd (never is)
step_on {Form} {Block} G block form forms (Some next) is never on = ap (λ (o : Option Block). fold (next_open G) o forms) is ∙ on next is

walk : {Form Block : Type 0} (G : Grammar Form Block) → TellsOutside G → (first : ℕ) (all front texts : List (List ℕ)) (done more : List (Numbered Form)) (block : Block) → Nowhere (FailsPart G first all) → all ≡ front ++ texts → Read G first front done block → StandFor G (first + length front) texts more → fold (next_open G) (Some block) (forms_of more) ≡ Some G.outside
walk {Form} {Block} G tells first all front [] done more block nowhere is so stand =
    let none : more ≡ [] = stand in
    let whole : all ≡ front = is ∙ append-nil front in
    let outside : block ≡ G.outside = none_open G tells first front done block (subst (λ (ts : List (List ℕ)). Nowhere (FailsPart G first ts)) whole nowhere) so in
    ap (λ (x : List (Numbered Form)). fold (next_open G) (Some block) (forms_of x)) none ∙ ap (λ (b : Block). Some b) outside
walk {Form} {Block} G tells first all front (text ∷ texts) done more block nowhere is so (inl h) =
    let count : length (front ++ text ∷ []) ≡ length front + 1 = length-append front (text ∷ []) in
    walk G tells first all (front ++ text ∷ []) texts done more block nowhere (is ∙ sym (append_assoc front (text ∷ []) texts)) (record { stand = stand_skip G first front text done so.stand h.0; open_block = so.open_block }) (subst (λ (n : ℕ). StandFor G n texts more) (omega (arith, count)) h.1)
walk {Form} {Block} G tells first all front (text ∷ texts) done more block nowhere is so (inr (form, others, shape, f, h)) =
    let here : slice_get all (length front) ≡ Some text = ap (λ (x : List (List ℕ)). slice_get x (length front)) is ∙ at_end front text texts in
    let count : length (front ++ text ∷ []) ≡ length front + 1 = length-append front (text ∷ []) in
    let line : Numbered Form = numbered (first + length front) form in
    let before : take (length front) all ≡ front = ap (take (length front)) is ∙ take_front front (text ∷ texts) in
    ap (λ (x : List (Numbered Form)). fold (next_open G) (Some block) (forms_of x)) shape
    ∙ step_on G block form (forms_of others) (G.next block form) refl
    (λ barred. nowhere (first + length front) 2 (inr (refl, inl (record { behind = length front; text = text; line = record { place = refl; here = here }; form = form; is = f; before = done; stand = subst (λ (ts : List (List ℕ)). StandFor G first ts done) (sym before) so.stand; block = block; open_block = so.open_block; barred = barred }))))
    (λ next allowed. walk G tells first all (front ++ text ∷ []) texts (done ++ line ∷ []) others next nowhere (is ∙ sym (append_assoc front (text ∷ []) texts))
    (record { stand = stand_form G first (first + length front) front text done form so.stand refl f; open_block = fold_more G (Some G.outside) done (first + length front) form ∙ ap (λ (o : Option Block). next_open G o form) so.open_block ∙ allowed })
    (subst (λ (m : ℕ). StandFor G m texts others) (omega (arith, count)) h))

-- behind the lines of a part in which no rule fails no block is open
pub closed_behind : {Form Block : Type 0} (G : Grammar Form Block) → TellsOutside G → (first : ℕ) (texts : List (List ℕ)) (lines : List (Numbered Form)) → Nowhere (FailsPart G first texts) → StandFor G first texts lines → block_behind G (forms_of lines) ≡ Some G.outside
closed_behind {Form} G tells first texts lines nowhere stand = walk G tells first texts [] texts [] lines G.outside nowhere refl (record { stand = refl; open_block = refl }) (subst (λ (n : ℕ). StandFor G n texts lines) (omega arith) stand)

-- ---- domains

pub outside_or_not : (block : domains.DomainBlock) → (block ≡ domains.Outside) ⊎ (block ≡ domains.Outside → ⊥)
outside_or_not domains.Outside = inl refl
outside_or_not (domains.Declares words slots native) = inr (λ e. cc)
outside_or_not domains.BehindFunction = inr (λ e. cc)
outside_or_not domains.InFunction = inr (λ e. cc)
outside_or_not domains.BehindEnd = inr (λ e. cc)

no_block : (forms : List DomainLine) → fold (next_open domain_part) None forms ≡ None
no_block [] = refl
no_block (form ∷ forms) = no_block forms

-- a line that begins a domain stands outside any block
begins_outside : (block : domains.DomainBlock) (form : DomainLine) → begins_domain form ≡ true → (next_block block form ≡ None) ⊎ (block ≡ domains.Outside)
begins_outside domains.Outside form e = inr refl
begins_outside (domains.Declares words slots native) (line.Domain name has) e = inl refl
begins_outside domains.BehindFunction (line.Domain name has) e = inl refl
begins_outside domains.InFunction (line.Domain name has) e = inl refl
begins_outside domains.BehindEnd (line.Domain name has) e = inl refl
begins_outside block form e = absurd cc

outside_at : (block : domains.DomainBlock) (l : Numbered DomainLine) (ls : Lines) → begins_domain l.form ≡ true → fold (next_open domain_part) (Some block) (forms_of (l ∷ ls)) ≡ Some domains.Outside → block ≡ domains.Outside
outside_at block l ls begins e = elim (begins_outside block l.form begins) [
  | inl barred ↦ (let f = sym (ap (λ (o : Option domains.DomainBlock). fold (next_open domain_part) o (forms_of ls)) barred) ∙ e in let g = sym (no_block (forms_of ls)) ∙ f in absurd cc)
  | inr is ↦ is
]

-- the block behind a line that is followed by others up to the end of a domain
next_is : (ls : Lines) (o : Option domains.DomainBlock) → fold (next_open domain_part) o (forms_of ls) ≡ Some domains.Outside → (next : domains.DomainBlock) × (o ≡ Some next)
next_is ls None e = absurd (let f = sym (no_block (forms_of ls)) ∙ e in cc)
next_is ls (Some next) e = (next, refl)

rest_step : (block : domains.DomainBlock) (l : Numbered DomainLine) (ls : Lines) (b : Bool) → begins_domain l.form ≡ b → fold (next_open domain_part) (Some block) (forms_of (l ∷ ls)) ≡ Some domains.Outside → ((next : domains.DomainBlock) → fold (next_open domain_part) (Some next) (forms_of ls) ≡ Some domains.Outside → fold (next_open domain_part) (Some next) (forms_of (rest_of_domain ls)) ≡ Some domains.Outside) → fold (next_open domain_part) (Some block) (forms_of (rest_of_domain (l ∷ ls))) ≡ Some domains.Outside
rest_step block l ls true begins e on = rw begins (ap (λ (b : domains.DomainBlock). Some b) (outside_at block l ls begins e))
rest_step block l ls false goes_on e on =
    let n = next_is ls (next_block block l.form) e in
    let f : fold (next_open domain_part) (Some n.0) (forms_of ls) ≡ Some domains.Outside = sym (ap (λ (o : Option domains.DomainBlock). fold (next_open domain_part) o (forms_of ls)) n.1) ∙ e in
    rw goes_on (ap (λ (o : Option domains.DomainBlock). fold (next_open domain_part) o (forms_of (rest_of_domain ls))) n.1 ∙ on n.0 f)

rest_closed : (block : domains.DomainBlock) (ls : Lines) → fold (next_open domain_part) (Some block) (forms_of ls) ≡ Some domains.Outside → fold (next_open domain_part) (Some block) (forms_of (rest_of_domain ls)) ≡ Some domains.Outside
rest_closed block [] e = e
rest_closed block (l ∷ ls) e = rest_step block l ls (begins_domain l.form) refl e (λ next f. rest_closed next ls f)

once_step : (l : Numbered DomainLine) (ls : Lines) (b : Bool) → begins_domain l.form ≡ b → rest_of_domain (rest_of_domain ls) ≡ rest_of_domain ls → rest_of_domain (rest_of_domain (l ∷ ls)) ≡ rest_of_domain (l ∷ ls)
once_step l ls true e more = rw e refl
once_step l ls false e more = rw (e, e) (ap (λ (xs : Lines). l ∷ xs) more)

rest_once : (ls : Lines) → rest_of_domain (rest_of_domain ls) ≡ rest_of_domain ls
rest_once [] = refl
rest_once (l ∷ ls) = once_step l ls (begins_domain l.form) refl (rest_once ls)

-- each of some domains is one
abbrev pub EachOne : List DomainText → Type 0
EachOne ds = (k : ℕ) (d : DomainText) → slice_get ds k ≡ Some d → IsOneDomain d.lines

one_more : (d : DomainText) (ds : List DomainText) → IsOneDomain d.lines → EachOne ds → EachOne (d ∷ ds)
one_more d ds h more zero x e = let same : d ≡ x = cc in subst (λ (y : DomainText). IsOneDomain y.lines) same h
one_more d ds h more (suc k) x e = more k x e

domains_step : (block : domains.DomainBlock) (l : Numbered DomainLine) (ls : Lines) (b : Bool) → begins_domain l.form ≡ b → fold (next_open domain_part) (Some block) (forms_of (l ∷ ls)) ≡ Some domains.Outside → ((next : domains.DomainBlock) → fold (next_open domain_part) (Some next) (forms_of ls) ≡ Some domains.Outside → EachOne (domains_of ls)) → EachOne (domains_of (l ∷ ls))
domains_step block l ls true begins e on =
    let n = next_is ls (next_block block l.form) e in
    let later : fold (next_open domain_part) (Some n.0) (forms_of ls) ≡ Some domains.Outside = sym (ap (λ (o : Option domains.DomainBlock). fold (next_open domain_part) o (forms_of ls)) n.1) ∙ e in
    let out : block ≡ domains.Outside = outside_at block l ls begins e in
    let whole : fold (next_open domain_part) (Some block) (forms_of (l ∷ rest_of_domain ls)) ≡ Some domains.Outside = ap (λ (o : Option domains.DomainBlock). fold (next_open domain_part) o (forms_of (rest_of_domain ls))) n.1 ∙ rest_closed n.0 ls later in
    let closed : block_behind domain_part (forms_of (l ∷ rest_of_domain ls)) ≡ Some domains.Outside = subst (λ (b : domains.DomainBlock). fold (next_open domain_part) (Some b) (forms_of (l ∷ rest_of_domain ls)) ≡ Some domains.Outside) out whole in
    rw begins (one_more (record { lines = l ∷ rest_of_domain ls }) (domains_of ls) (begins, rest_once ls, closed) (on n.0 later))
domains_step block l ls false goes_on e on =
    let n = next_is ls (next_block block l.form) e in
    let later : fold (next_open domain_part) (Some n.0) (forms_of ls) ≡ Some domains.Outside = sym (ap (λ (o : Option domains.DomainBlock). fold (next_open domain_part) o (forms_of ls)) n.1) ∙ e in
    rw goes_on (on n.0 later)

-- each domain of a part behind which no block is open is one domain
pub one_domains : (block : domains.DomainBlock) (ls : Lines) → fold (next_open domain_part) (Some block) (forms_of ls) ≡ Some domains.Outside → EachOne (domains_of ls)
one_domains block [] e = λ k d at. absurd cc
one_domains block (l ∷ ls) e = domains_step block l ls (begins_domain l.form) refl e (λ next f. one_domains next ls f)
