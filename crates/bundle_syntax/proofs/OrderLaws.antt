-- Lines in an order in which they may stand are refused nowhere.
use Rattle.std.proofs.Common.{◌≡◌, ℕ, ◌+◌, inl, inr, List, [], ◌∷◌, ◌++◌, length, Option, Some, None, refl, sym, ap, subst, ◌∙◌, append_assoc, append-nil, length-append, arith}
use Rattle.std.specs.Prelude.{slice_get, fold}
use Rattle.rl_defs.specs.declared.bundle.Numbered.{Numbered}
use Rattle.rl_defs.specs.Refusals.{Nowhere}
use Rattle.rl_defs.specs.Parts.{Grammar, next_open, block_behind, forms_of, numbered, StandFor, FailsPart}
use Rattle.rl_text.proofs.PartRules.{AreForms, SoFar, no_lines, next_skips, next_stands, all_closed}

at_end : {A : Type 0} (front : List A) (x : A) (more : List A) → slice_get (front ++ x ∷ more) (length front) ≡ Some x
at_end [] x more = refl
at_end (y ∷ front) x more = at_end front x more

no_block : {Form Block : Type 0} (G : Grammar Form Block) (forms : List Form) → fold (next_open G) None forms ≡ None
no_block G [] = refl
no_block G (form ∷ forms) = no_block G forms

-- the block behind a line that is followed by others up to a whole part
next_is : {Form Block : Type 0} (G : Grammar Form Block) (block : Block) (form : Form) (forms : List Form) (o : Option Block) (last : Block) → G.next block form ≡ o → fold (next_open G) (Some block) (form ∷ forms) ≡ Some last → (next : Block) × (G.next block form ≡ Some next) × (fold (next_open G) (Some next) forms ≡ Some last)
next_is {Form} {Block} G block form forms (Some next) last is e = (next, is, sym (ap (λ (o : Option Block). fold (next_open G) o forms) is) ∙ e)
next_is {Form} {Block} G block form forms None last is e = absurd (let f = sym (no_block G forms) ∙ sym (ap (λ (o : Option Block). fold (next_open G) o forms) is) ∙ e in cc)

walk : {Form Block : Type 0} (G : Grammar Form Block) → AreForms G → (first : ℕ) (all front texts : List (List ℕ)) (done more : List (Numbered Form)) (block : Block) → all ≡ front ++ texts → SoFar G first all (length front) done block → StandFor G (first + length front) texts more → fold (next_open G) (Some block) (forms_of more) ≡ Some G.outside → Nowhere (FailsPart G first all)
walk {Form} {Block} G forms first all front [] done more block is so stand closed =
    let none : more ≡ [] = stand in
    let e : Some block ≡ Some G.outside = sym (ap (λ (x : List (Numbered Form)). fold (next_open G) (Some block) (forms_of x)) none) ∙ closed in
    let outside : block ≡ G.outside = cc in
    let count : length front ≡ length all = sym (ap length (is ∙ append-nil front)) in
    (all_closed G forms first (length front) all done block count so outside).0
walk {Form} {Block} G forms first all front (text ∷ texts) done more block is so (inl h) closed =
    let here : slice_get all (length front) ≡ Some text = ap (λ (x : List (List ℕ)). slice_get x (length front)) is ∙ at_end front text texts in
    let next : SoFar G first all (length front + 1) done block = next_skips G forms first (length front) all text block block done done here so (record { skipped = h.0; same_block = refl; same_lines = refl }) in
    let count : length (front ++ text ∷ []) ≡ length front + 1 = length-append front (text ∷ []) in
    walk G forms first all (front ++ text ∷ []) texts done more block (is ∙ sym (append_assoc front (text ∷ []) texts)) (subst (λ (i : ℕ). SoFar G first all i done block) (sym count) next) (subst (λ (n : ℕ). StandFor G n texts more) (omega (arith, count)) h.1) closed
walk {Form} {Block} G forms first all front (text ∷ texts) done more block is so (inr (form, others, shape, f, h)) closed =
    let here : slice_get all (length front) ≡ Some text = ap (λ (x : List (List ℕ)). slice_get x (length front)) is ∙ at_end front text texts in
    let line : Numbered Form = numbered (first + length front) form in
    let n = next_is G block form (forms_of others) (G.next block form) G.outside refl (sym (ap (λ (x : List (Numbered Form)). fold (next_open G) (Some block) (forms_of x)) shape) ∙ closed) in
    let next : SoFar G first all (length front + 1) (done ++ line ∷ []) n.0 = next_stands G forms first (length front) (first + length front) all text block n.0 done (done ++ line ∷ []) here refl so (record { form = form; is = f; allowed = n.1; put = refl }) in
    let count : length (front ++ text ∷ []) ≡ length front + 1 = length-append front (text ∷ []) in
    walk G forms first all (front ++ text ∷ []) texts (done ++ line ∷ []) others n.0 (is ∙ sym (append_assoc front (text ∷ []) texts)) (subst (λ (i : ℕ). SoFar G first all i (done ++ line ∷ []) n.0) (sym count) next) (subst (λ (m : ℕ). StandFor G m texts others) (omega (arith, count)) h) n.2

-- texts that stand for lines behind which no block is open, each in its place, are refused nowhere
pub ordered_nowhere : {Form Block : Type 0} (G : Grammar Form Block) → AreForms G → (first : ℕ) (texts : List (List ℕ)) (lines : List (Numbered Form)) → StandFor G first texts lines → block_behind G (forms_of lines) ≡ Some G.outside → Nowhere (FailsPart G first texts)
ordered_nowhere G forms first texts lines stand closed = walk G forms first texts [] texts [] lines G.outside refl (no_lines G first texts) (subst (λ (n : ℕ). StandFor G n texts lines) (omega arith) stand) closed
