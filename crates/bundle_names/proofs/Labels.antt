-- Labels of a function, line by line.
use Rattle.std.proofs.Common.{◌≡◌, ℕ, zero, suc, ◌+◌, ◌<◌, ◌≤◌, ◌⊎◌, inl, inr, true, false, List, [], ◌∷◌, ◌++◌, length, take, Option, Some, None, refl, sym, ap, subst, ◌∙◌, arith}
use Rattle.std.specs.Prelude.{slice_get, is_some}
use Rattle.std.proofs.lemmas.Bool.{cases_lt}
use Rattle.rl_defs.specs.declared.bundle.Numbered.{Numbered}
use Rattle.rl_defs.specs.declared.code.DomainLine.{DomainLine}
use Rattle.rl_defs.specs.declared.code.DomainLine.TheVariants as line
use Rattle.rl_defs.specs.declared.code.HeadItem.{HeadItem}
use Rattle.rl_defs.specs.Domains.{Lines}
use Rattle.rl_defs.specs.CodeNames.{Function, function_at, function_behind, function_behind_form}
use Rattle.rl_defs.specs.DomainParts.{IsOneDomain}
use Rattle.rl_defs.specs.CodeRules.{is_inside}
use Rattle.rl_defs.specs.Interfaces.{place_of}
use Rattle.rl_defs.proofs.CodeBlocks.{some_line, head_inside}
use Rattle.rl_defs.proofs.Places.{get_within}
use Rattle.bundle_names.specs.declared.roles.Role.TheVariants as role
use Rattle.bundle_names.specs.Scopes.{Scope, behind, behind_all, has_name, Repeats}
use Rattle.bundle_names.specs.DomainNames.{label_role}
use Rattle.bundle_names.proofs.Scoping.{in_push, in_front, in_last, behind_suc}
use Rattle.bundle_names.proofs.Lasting.{repeats_gives}

-- a head of the function stands before a place
pub record IsLabel (lines : Lines) (f : Option Function) (name : List ℕ) (k : ℕ) : Type 0 where
  pub place : ℕ
  pub before : place < k
  pub number : ℕ
  pub items : List HeadItem
  pub here : slice_get lines place ≡ Some (record { line = number; form = line.Head name items })
  pub function : function_at lines place ≡ f

-- The scope before a line has the labels of the function that the line stands in, and is open in a function.
record Labelled (lines : Lines) (k : ℕ) (f : Option Function) (scope : Scope) : Type 0 where
  opened : is_some f ≡ is_some scope
  first : (g : Function) → f ≡ Some g → g.first ≤ k
  known : (name : List ℕ) → has_name name scope ≡ true → IsLabel lines f name k
  all : (name : List ℕ) → is_some f ≡ true → IsLabel lines f name k → has_name name scope ≡ true

-- one place further, the labels so far are the same
further : (lines : Lines) (f : Option Function) (name : List ℕ) (k : ℕ) → IsLabel lines f name k → IsLabel lines f name (suc k)
further lines f name k h = record { place = h.place; before = omega (arith, h.before); number = h.number; items = h.items; here = h.here; function = h.function }

-- a label before the next place stands before this one, or here
nearer : (lines : Lines) (f : Option Function) (name : List ℕ) (k : ℕ) (x : Numbered DomainLine) → slice_get lines k ≡ Some x → IsLabel lines f name (suc k) → IsLabel lines f name k ⊎ ((items : List HeadItem) × (x.form ≡ line.Head name items))
nearer lines f name k x here h = elim (cases_lt h.place k) [
  | inl lt ↦ inl (record { place = h.place; before = lt; number = h.number; items = h.items; here = h.here; function = h.function })
  | inr ge ↦
      let same : h.place ≡ k = omega (arith, ge, h.before) in
      let both : Some x ≡ Some (record { line = h.number; form = line.Head name h.items }) = sym here ∙ subst (λ (p : ℕ). slice_get lines p ≡ Some (record { line = h.number; form = line.Head name h.items })) same h.here in
      let is : x ≡ record { line = h.number; form = line.Head name h.items } = cc in
      inr (h.items, ap (λ (y : Numbered DomainLine). y.form) is)
]

shut : (o : Option Function) → o ≡ None → is_some o ≡ true → ⊥
shut None e t = absurd cc
shut (Some f) e t = absurd cc

headed : (label : List ℕ) (items : List HeadItem) (name : List ℕ) (others : List HeadItem) → line.Head label items ≡ line.Head name others → label ≡ name
headed label items name others e = cc

module _ (lines : Lines) (k : ℕ) where
  -- a line that neither begins nor ends a function, and is no head
  passes : (f : Option Function) (scope : Scope) (x : Numbered DomainLine) → slice_get lines k ≡ Some x → ((name : List ℕ) (items : List HeadItem) → x.form ≡ line.Head name items → ⊥) → Labelled lines k f scope → Labelled lines (suc k) f scope
  passes f scope x here other h = record {
    opened = h.opened;
    first = λ g e. omega (arith, h.first g e);
    known = λ name e. further lines f name k (h.known name e);
    all = λ name is l. elim (nearer lines f name k x here l) [ inl a ↦ h.all name is a | inr b ↦ absurd (other name b.0 b.1) ];
  }

  ends : (f : Option Function) → f ≡ None → Labelled lines (suc k) f None
  ends f e = record {
    opened = ap is_some e;
    first = λ g h. (let both : None ≡ Some g = sym e ∙ h in absurd cc);
    known = λ name h. absurd cc;
    all = λ name is l. absurd (shut f e is);
  }

  begins : (f : Option Function) (name : List ℕ) → f ≡ Some (record { name = name; first = k + 1 }) → ((j : ℕ) (g : Function) → function_at lines j ≡ Some g → g.first ≤ j) → Labelled lines (suc k) f (Some [])
  begins f name e firsts = record {
    opened = ap is_some e;
    first = λ g h. (let both : Some g ≡ Some (record { name = name; first = k + 1 }) = sym h ∙ e in let same : g ≡ record { name = name; first = k + 1 } = cc in omega (arith, ap (λ (z : Function). z.first) same));
    known = λ other h. absurd cc;
    all = λ other is l. absurd (omega (arith, l.before, firsts l.place (record { name = name; first = k + 1 }) (l.function ∙ e)));
  }

  head : (f : Option Function) (scope : Scope) (number : ℕ) (label : List ℕ) (items : List HeadItem) → slice_get lines k ≡ Some (record { line = number; form = line.Head label items }) → function_at lines k ≡ f → Labelled lines k f scope → Labelled lines (suc k) f (behind (role.Gives label) scope)
  head f None number label items here at h = record {
    opened = h.opened;
    first = λ g e. omega (arith, h.first g e);
    known = λ name e. absurd cc;
    all = λ name is l. (let both : false ≡ true = sym h.opened ∙ is in absurd cc);
  }
  head f (Some names) number label items here at h = record {
    opened = h.opened;
    first = λ g e. omega (arith, h.first g e);
    known = λ name e. elim (in_push names label name e) [
      | inl a ↦ further lines f name k (h.known name a)
      | inr b ↦ subst (λ (q : List ℕ). IsLabel lines f q (suc k)) b (record { place = k; before = omega arith; number = number; items = items; here = here; function = at })
    ];
    all = λ name is l. elim (nearer lines f name k (record { line = number; form = line.Head label items }) here l) [
      | inl a ↦ in_front names label name (h.all name is a)
      | inr b ↦ (let same : label ≡ name = headed label items name b.0 b.1 in subst (λ (q : List ℕ). is_some (place_of q (names ++ label ∷ [])) ≡ true) same (in_last names label))
    ];
  }

-- a function begins before the lines that stand in it
pub first_before : (lines : Lines) (k : ℕ) (f : Function) → function_at lines k ≡ Some f → f.first ≤ k
first_before lines zero f e = absurd cc
first_before lines (suc k) f e = by (slice_get lines k) (function_at lines k) e (λ g h. first_before lines k g h) where
  form_by : (form : DomainLine) (o : Option Function) → function_behind_form k form o ≡ Some f → ((g : Function) → o ≡ Some g → g.first ≤ k) → f.first ≤ suc k
  form_by (line.Function name) o e h = let same : record { name = name; first = k + 1 } ≡ f = cc in omega (arith, ap (λ (z : Function). z.first) same)
  form_by line.Close o e h = absurd cc
  form_by (line.Domain a b) o e h = omega (arith, h f e)
  form_by (line.Words n) o e h = omega (arith, h f e)
  form_by (line.Slot a b) o e h = omega (arith, h f e)
  form_by (line.Import a b) o e h = omega (arith, h f e)
  form_by (line.Native b) o e h = omega (arith, h f e)
  form_by (line.Head a b) o e h = omega (arith, h f e)
  form_by (line.Code i) o e h = omega (arith, h f e)

  by : (x : Option (Numbered DomainLine)) (o : Option Function) → function_behind k x o ≡ Some f → ((g : Function) → o ≡ Some g → g.first ≤ k) → f.first ≤ suc k
  by None o e h = omega (arith, h f e)
  by (Some x) o e h = form_by x.form o e h

labelled_line : (lines : Lines) (k number : ℕ) (form : DomainLine) (scope : Scope) → slice_get lines k ≡ Some (record { line = number; form = form }) → Labelled lines k (function_at lines k) scope → Labelled lines (suc k) (function_behind_form k form (function_at lines k)) (behind (label_role form) scope)
labelled_line lines k number (line.Function name) scope here h = begins lines k (Some (record { name = name; first = k + 1 })) name refl (λ j g e. first_before lines j g e)
labelled_line lines k number line.Close scope here h = ends lines k None refl
labelled_line lines k number (line.Head label items) scope here h = head lines k (function_at lines k) scope number label items here refl h
labelled_line lines k number (line.Domain a b) scope here h = passes lines k (function_at lines k) scope (record { line = number; form = line.Domain a b }) here (λ name items e. absurd cc) h
labelled_line lines k number (line.Words n) scope here h = passes lines k (function_at lines k) scope (record { line = number; form = line.Words n }) here (λ name items e. absurd cc) h
labelled_line lines k number (line.Slot a b) scope here h = passes lines k (function_at lines k) scope (record { line = number; form = line.Slot a b }) here (λ name items e. absurd cc) h
labelled_line lines k number (line.Import a b) scope here h = passes lines k (function_at lines k) scope (record { line = number; form = line.Import a b }) here (λ name items e. absurd cc) h
labelled_line lines k number (line.Native b) scope here h = passes lines k (function_at lines k) scope (record { line = number; form = line.Native b }) here (λ name items e. absurd cc) h
labelled_line lines k number (line.Code i) scope here h = passes lines k (function_at lines k) scope (record { line = number; form = line.Code i }) here (λ name items e. absurd cc) h

labelled : (lines : Lines) (k : ℕ) → k ≤ length lines → Labelled lines k (function_at lines k) (behind_all label_role None (take k lines))
labelled lines zero le = by lines where
  by : (ls : Lines) → Labelled lines 0 None (behind_all label_role None (take 0 ls))
  by [] = record { opened = refl; first = λ g e. absurd cc; known = λ name e. absurd cc; all = λ name is l. absurd cc }
  by (x ∷ xs) = record { opened = refl; first = λ g e. absurd cc; known = λ name e. absurd cc; all = λ name is l. absurd cc }
labelled lines (suc k) le =
    let x = some_line lines k (omega (arith, le)) in
    let h = labelled_line lines k x.0.line x.0.form (behind_all label_role None (take k lines)) x.1 (labelled lines k (omega (arith, le))) in
    let scope = behind_suc label_role None lines k x.0 x.1 in
    let function : function_at lines (suc k) ≡ function_behind_form k x.0.form (function_at lines k) = ap (λ (o : Option (Numbered DomainLine)). function_behind k o (function_at lines k)) x.1 in
    subst (λ (s : Scope). Labelled lines (suc k) (function_at lines (suc k)) s) scope (subst (λ (f : Option Function). Labelled lines (suc k) f (behind (label_role x.0.form) (behind_all label_role None (take k lines)))) (sym function) h)

-- a label of the function stands earlier
pub record SameLabel (lines : Lines) (n : ℕ) : Type 0 where
  pub earlier : ℕ
  pub place : ℕ
  pub before : earlier < place
  pub name : List ℕ
  pub number : ℕ
  pub first : List HeadItem
  pub second : List HeadItem
  pub there : slice_get lines earlier ≡ Some (record { line = number; form = line.Head name first })
  pub here : slice_get lines place ≡ Some (record { line = n; form = line.Head name second })
  pub function : function_at lines earlier ≡ function_at lines place

gives_label : (form : DomainLine) (name : List ℕ) → label_role form ≡ role.Gives name → (items : List HeadItem) × (form ≡ line.Head name items)
gives_label (line.Head label items) name e = let same : label ≡ name = cc in (items, ap (λ (q : List ℕ). line.Head q items) same)
gives_label (line.Function x) name e = absurd cc
gives_label line.Close name e = absurd cc
gives_label (line.Domain a b) name e = absurd cc
gives_label (line.Words n) name e = absurd cc
gives_label (line.Slot a b) name e = absurd cc
gives_label (line.Import a b) name e = absurd cc
gives_label (line.Native b) name e = absurd cc
gives_label (line.Code i) name e = absurd cc

pub label_repeats : (lines : Lines) (n : ℕ) → Repeats label_role None lines n → SameLabel lines n
label_repeats lines n h =
    let g = repeats_gives (label_role h.form) (behind_all label_role None (take h.place lines)) h.again in
    let is = gives_label h.form g.0 g.1 in
    let within = get_within lines h.place (record { line = n; form = h.form }) h.here in
    let l = (labelled lines h.place (omega (arith, within))).known g.0 g.2 in
    record { earlier = l.place; place = h.place; before = l.before; name = g.0; number = l.number; first = l.items; second = is.0; there = l.here; here = h.here ∙ ap (λ (form : DomainLine). Some (record { line = n; form = form })) is.1; function = l.function }

pub repeats_label : (lines : Lines) (n : ℕ) → IsOneDomain lines → SameLabel lines n → Repeats label_role None lines n
repeats_label lines n one h =
    let within = get_within lines h.place (record { line = n; form = line.Head h.name h.second }) h.here in
    record {
      place = h.place;
      form = line.Head h.name h.second;
      here = h.here;
      again = (labelled lines h.place (omega (arith, within))).all h.name (inside (function_at lines h.place) (head_inside lines h.place n h.name h.second one h.here)) (record { place = h.earlier; before = h.before; number = h.number; items = h.first; here = h.there; function = h.function });
    } where
      inside : (o : Option Function) → is_inside o ≡ true → is_some o ≡ true
      inside None e = absurd cc
      inside (Some f) e = refl
