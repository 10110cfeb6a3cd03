-- The domain of a load.
use Rattle.std.specs.Option.{option_and_then}
use Rattle.std.proofs.Common.{◌≡◌, ℕ, suc, inl, inr, Bool, true, false, cond, List, [], ◌∷◌, ◌++◌, length, Option, Some, refl, sym, ap, subst, ◌∙◌, arith}
use Rattle.std.specs.Prelude.{slice_get, unwrap_or}
use Rattle.std.specs.List.{flat_map}
use Rattle.rl_defs.specs.declared.bundle.Numbered.{Numbered}
use Rattle.rl_defs.specs.declared.bundle.Bundle.{Bundle}
use Rattle.rl_defs.specs.declared.code.DomainText.{DomainText}
use Rattle.rl_defs.specs.declared.code.DomainLine.{DomainLine}
use Rattle.rl_defs.specs.declared.code.DomainLine.TheVariants as line
use Rattle.rl_defs.specs.declared.tables.Tables.{Tables}
use Rattle.rl_defs.specs.Interfaces.{place_of}
use Rattle.rl_defs.specs.Domains.{Lines}
use Rattle.rl_defs.specs.DomainParts.{begins_domain, rest_of_domain, domains_of}
use Rattle.rl_defs.specs.BundleNames.{domain_given, domains_loaded, domain_names, load_names, domain_lines, lines_of_domain, domain_of_load as domain_of, load_lines}
use Rattle.rl_defs.specs.LoadOf.{load_of, checked_with}
use Rattle.rl_defs.specs.Rows.{domain_of_load, domain_in, domain_or_none}
use Rattle.rl_defs.proofs.Lists.{get_map, list_at, in_list, length_both}
use Rattle.valid_loads.proofs.Names.{declared_by, names_flat, place_there}
use Rattle.valid_loads.proofs.Rules.{Kept, declared}
use Rattle.valid_loads.proofs.Rows.{LoadText, load_texts, load_row_of, row_at, load_line, domain_at, named_load}

-- ---- a domain's lines give one name for a domain

abbrev head_names : Lines → List (List ℕ)
head_names lines = flat_map (λ l. domain_given l.form) lines

begins_one : (f : DomainLine) → begins_domain f ≡ true → length (domain_given f) ≡ 1
begins_one (line.Domain name has) e = refl
begins_one f e = absurd cc

begins_none : (f : DomainLine) → begins_domain f ≡ false → domain_given f ≡ []
begins_none (line.Domain name has) e = absurd cc
begins_none f e = refl

rest_names : (lines : Lines) → head_names (rest_of_domain lines) ≡ []
rest_names [] = refl
rest_names (l ∷ ls) = by (begins_domain l.form) refl (rest_names ls) where
  by : (b : Bool) → begins_domain l.form ≡ b → head_names (rest_of_domain ls) ≡ [] → head_names (cond b [] (l ∷ rest_of_domain ls)) ≡ []
  by true e rest = refl
  by false e rest = ap (λ (ns : List (List ℕ)). ns ++ head_names (rest_of_domain ls)) (begins_none l.form e) ∙ rest

abbrev all_names : List DomainText → List (List ℕ)
all_names domains = flat_map (λ d. head_names d.lines) domains

head_count : (l : Numbered DomainLine) (ls : Lines) → begins_domain l.form ≡ true → length (head_names (l ∷ rest_of_domain ls)) ≡ 1
head_count l ls e = omega (arith, length_both (domain_given l.form) (head_names (rest_of_domain ls)), begins_one l.form e, ap (λ (ns : List (List ℕ)). length ns) (rest_names ls))

cut_count : (lines : Lines) → length (all_names (domains_of lines)) ≡ length (domains_of lines)
cut_count [] = refl
cut_count (l ∷ ls) = by (begins_domain l.form) refl (cut_count ls) where
  by : (b : Bool) → begins_domain l.form ≡ b → length (all_names (domains_of ls)) ≡ length (domains_of ls) → length (all_names (cond b (record { lines = l ∷ rest_of_domain ls } ∷ domains_of ls) (domains_of ls))) ≡ length (cond b (record { lines = l ∷ rest_of_domain ls } ∷ domains_of ls) (domains_of ls))
  by false e rest = rest
  by true e rest = omega (arith, length_both (head_names (l ∷ rest_of_domain ls)) (all_names (domains_of ls)), head_count l ls e, rest)

flat_append : {A B : Type 0} (f : A → List B) (xs ys : List A) → flat_map f (xs ++ ys) ≡ flat_map f xs ++ flat_map f ys
flat_append f [] ys = refl
flat_append {A} {B} f (x ∷ xs) ys = ap (λ (zs : List B). f x ++ zs) (flat_append f xs ys) ∙ sym (assoc (f x) (flat_map f xs) (flat_map f ys)) where
  assoc : (us vs ws : List B) → (us ++ vs) ++ ws ≡ us ++ (vs ++ ws)
  assoc [] vs ws = refl
  assoc (u ∷ us) vs ws = ap (λ (zs : List B). u ∷ zs) (assoc us vs ws)

flat_twice : (domains : List DomainText) → head_names (flat_map (λ d. d.lines) domains) ≡ all_names domains
flat_twice [] = refl
flat_twice (d ∷ ds) = flat_append (λ l. domain_given l.form) d.lines (flat_map (λ (d : DomainText). d.lines) ds) ∙ ap (λ (ns : List (List ℕ)). head_names d.lines ++ ns) (flat_twice ds)

-- there are as many names of domains as domains
pub domain_count : (tables : Tables) (b : Bundle) → Kept tables b → length (domain_names b) ≡ length b.domains
domain_count tables b h =
    ap (λ (ns : List (List ℕ)). length ns) (names_flat domain_given (domain_lines b) ∙ flat_twice b.domains)
    ∙ elim h.lines.domains [
      | inl missing ↦ subst (λ (ds : List DomainText). length (all_names ds) ≡ length ds) (sym missing.1) refl
      | inr part ↦ subst (λ (ds : List DomainText). length (all_names ds) ≡ length ds) (sym part.3.cut) (cut_count part.3.lines)
    ]

-- ---- a load's domain

-- The domain that a load's text names: its place, its text, and that it is the domain of the load's row.
pub record OfText (tables : Tables) (b : Bundle) (k : ℕ) (t : LoadText) : Type 0 where
  pub place : ℕ
  pub text : DomainText
  pub named : place_of t.domain (domain_names b) ≡ Some place
  pub here : slice_get b.domains place ≡ Some text
  pub lines : lines_of_domain b t.domain ≡ Some text.lines
  pub number : (load_row_of b t).domain ≡ place
  pub among : slice_get (load_of tables b).domains place ≡ Some (checked_with tables text)
  pub domain : domain_of_load (load_of tables b) (suc k) ≡ checked_with tables text

pub of_text : (tables : Tables) (b : Bundle) (k : ℕ) (t : LoadText) → Kept tables b → slice_get (load_texts b) k ≡ Some t → OfText tables b k t
of_text tables b k t h e =
    let line = load_line b k t e in
    let p = declared_by b.plan.lines domains_loaded (domain_names b) (λ n u. declared tables b h n (inr (inr (inr (inl u))))) line.place _ line.here 0 t.domain refl in
    let few = in_list (domain_names b) p.0 t.domain (place_there t.domain (domain_names b) p.0 p.1) in
    let d = list_at b.domains p.0 (omega (arith, few, domain_count tables b h)) in
    let number : (load_row_of b t).domain ≡ p.0 = ap (λ (o : Option ℕ). unwrap_or o 0) p.1 in
    let among : slice_get (load_of tables b).domains p.0 ≡ Some (checked_with tables d.0) = get_map (checked_with tables) b.domains p.0 d.0 d.1 in
    record {
      place = p.0;
      text = d.0;
      named = p.1;
      here = d.1;
      lines = lines_there b t.domain p.0 d.0 p.1 d.1;
      number = number;
      among = among;
      domain =
          ap (domain_in (load_of tables b)) (row_at b k t e)
          ∙ ap (λ (n : ℕ). domain_or_none (load_of tables b) (slice_get (load_of tables b).domains n)) number
          ∙ ap (domain_or_none (load_of tables b)) among;
    } where
      lines_there : (b : Bundle) (name : List ℕ) (place : ℕ) (d : DomainText) → place_of name (domain_names b) ≡ Some place → slice_get b.domains place ≡ Some d → lines_of_domain b name ≡ Some d.lines
      lines_there b name place d named here = rw (named, here) refl

-- A load by its name: where it stands, and its domain.
pub record LoadNamed (tables : Tables) (b : Bundle) (name : List ℕ) : Type 0 where
  pub place : ℕ
  pub named : place_of name (load_names b) ≡ Some place
  pub text : LoadText
  pub here : slice_get (load_texts b) place ≡ Some text
  pub of : OfText tables b place text
  pub is : load_lines b name ≡ Some of.text.lines

pub is_loaded : (b : Bundle) (name : List ℕ) (place : ℕ) (t : LoadText) → place_of name (load_names b) ≡ Some place → slice_get (load_texts b) place ≡ Some t → domain_of b name ≡ Some t.domain
is_loaded b name place t named here = rw named (domain_at b place t here)

pub load_named : (tables : Tables) (b : Bundle) (name : List ℕ) (place : ℕ) → Kept tables b → place_of name (load_names b) ≡ Some place → LoadNamed tables b name
load_named tables b name place h named =
    let t = named_load b place name (place_there name (load_names b) place named) in
    let d = of_text tables b place t.0 h t.1 in
    record { place = place; named = named; text = t.0; here = t.1; of = d; is = ap (option_and_then (lines_of_domain b)) (is_loaded b name place t.0 named t.1) ∙ d.lines }
