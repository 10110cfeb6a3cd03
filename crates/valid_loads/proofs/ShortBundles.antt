-- A bundle of few bytes has few lines, in each of its parts.
use Rattle.std.proofs.Common.{◌≡◌, ℕ, zero, suc, ◌+◌, ◌-◌, ◌≤◌, ◌==◌, inl, inr, Bool, true, false, cond, ◌&&◌, List, [], ◌∷◌, length, take, drop, Some, None, sym, ap, ◌∙◌, arith}
use Rattle.std.specs.Prelude.{slice_get}
use Rattle.rl_defs.specs.declared.bundle.Numbered.{Numbered}
use Rattle.rl_defs.specs.declared.bundle.Bundle.{Bundle}
use Rattle.rl_defs.specs.declared.idl.IdlLine.{IdlLine}
use Rattle.rl_defs.specs.declared.code.DomainLine.{DomainLine}
use Rattle.rl_defs.specs.declared.code.DomainText.{DomainText}
use Rattle.rl_defs.specs.declared.tables.Tables.{Tables}
use Rattle.rl_defs.specs.Lines.{lines_of, ends_line, put_first}
use Rattle.rl_defs.specs.Parts.{Grammar, StandFor}
use Rattle.rl_defs.specs.IdlParts.{interface_part}
use Rattle.rl_defs.specs.Domains.{Lines}
use Rattle.rl_defs.specs.DomainParts.{domain_part, begins_domain, rest_of_domain, domains_of}
use Rattle.rl_defs.specs.BundleParts.{Header, IsPart}
use Rattle.valid_loads.proofs.Rules.{Kept}

-- ---- lines of bytes

put_short : (c : ℕ) (lines : List (List ℕ)) (n : ℕ) → length lines ≤ n → length (put_first c lines) ≤ suc n
put_short c [] n le = omega arith
put_short c (line ∷ lines) n le = omega (arith, le)

line_step : (feed back : Bool) (c n : ℕ) (lines : List (List ℕ)) → length lines ≤ n → length (cond feed ([] ∷ lines) (cond back lines (put_first c lines))) ≤ suc n
line_step true back c n lines le = omega (arith, le)
line_step false true c n lines le = omega (arith, le)
line_step false false c n lines le = put_short c lines n le

-- bytes have no more lines than bytes
pub lines_short : (bytes : List ℕ) → length (lines_of bytes) ≤ length bytes
lines_short [] = omega arith
lines_short (c ∷ cs) = line_step (c == 10) ((c == 13) && ends_line cs) c (length cs) (lines_of cs) (lines_short cs)

-- ---- lines of a part

take_short : {A : Type 0} (n : ℕ) (xs : List A) → length (take n xs) ≤ length xs
take_short zero [] = omega arith
take_short zero (x ∷ xs) = omega arith
take_short (suc n) [] = omega arith
take_short (suc n) (x ∷ xs) = omega (arith, take_short n xs)

drop_short : {A : Type 0} (n : ℕ) (xs : List A) → length (drop n xs) ≤ length xs
drop_short zero [] = omega arith
drop_short zero (x ∷ xs) = omega arith
drop_short (suc n) [] = omega arith
drop_short (suc n) (x ∷ xs) = omega (arith, drop_short n xs)

inside_short : (texts : List (List ℕ)) (header : Header) (first : ℕ) (inside : List (List ℕ)) → IsPart texts header first inside → length inside ≤ length texts
inside_short texts header first inside p =
    omega (arith, ap (λ (ts : List (List ℕ)). length ts) p.lines, take_short (p.last - p.header) (drop p.header texts), drop_short p.header texts)

stand_short : {Form Block : Type 0} (G : Grammar Form Block) (first : ℕ) (texts : List (List ℕ)) (lines : List (Numbered Form)) → StandFor G first texts lines → length lines ≤ length texts
stand_short {Form} G first [] lines h = omega (arith, ap (λ (xs : List (Numbered Form)). length xs) h)
stand_short G first (t ∷ texts) lines (inl h) = omega (arith, stand_short G (first + 1) texts lines h.1)
stand_short {Form} G first (t ∷ texts) lines (inr (form, more, is, f, h)) = omega (arith, stand_short G (first + 1) texts more h, ap (λ (xs : List (Numbered Form)). length xs) is)

-- the interface part has no more lines than the bundle
pub idl_short : (tables : Tables) (b : Bundle) → (h : Kept tables b) → length b.idl.lines ≤ length h.texts
idl_short tables b h = elim h.lines.idl [
  | inl missing ↦ omega (arith, ap (λ (xs : List (Numbered IdlLine)). length xs) missing.1)
  | inr part ↦ omega (arith, inside_short h.texts _ part.0 part.1 part.2, stand_short interface_part part.0 part.1 b.idl.lines part.3)
]

-- ---- lines of a domain

rest_step : (b : Bool) (l : Numbered DomainLine) (ls rest : Lines) → length rest ≤ length ls → length (cond b [] (l ∷ rest)) ≤ length (l ∷ ls)
rest_step true l ls rest le = omega arith
rest_step false l ls rest le = omega (arith, le)

rest_short : (ls : Lines) → length (rest_of_domain ls) ≤ length ls
rest_short [] = omega arith
rest_short (l ∷ ls) = rest_step (begins_domain l.form) l ls (rest_of_domain ls) (rest_short ls)

cut_short : (lines : Lines) (k : ℕ) (d : DomainText) → slice_get (domains_of lines) k ≡ Some d → length d.lines ≤ length lines
cut_short [] k d e = absurd cc
cut_short (l ∷ ls) k d e = by (begins_domain l.form) k e (λ j h. cut_short ls j d h) where
  by : (b : Bool) (k : ℕ) → slice_get (cond b (record { lines = l ∷ rest_of_domain ls } ∷ domains_of ls) (domains_of ls)) k ≡ Some d → ((j : ℕ) → slice_get (domains_of ls) j ≡ Some d → length d.lines ≤ length ls) → length d.lines ≤ length (l ∷ ls)
  by true zero h more =
      let same : record { lines = l ∷ rest_of_domain ls } ≡ d = cc in
      omega (arith, ap (λ (x : DomainText). length x.lines) same, rest_short ls)
  by true (suc k) h more = omega (arith, more k h)
  by false k h more = omega (arith, more k h)

pub domain_short : (tables : Tables) (b : Bundle) → (h : Kept tables b) → (k : ℕ) (d : DomainText) → slice_get b.domains k ≡ Some d → length d.lines ≤ length h.texts
domain_short tables b h k d e = elim h.lines.domains [
  | inl missing ↦ (let bad : None ≡ Some d = sym (ap (λ (ds : List DomainText). slice_get ds k) missing.1) ∙ e in absurd cc)
  | inr part ↦ omega (
    arith,
    inside_short h.texts _ part.0 part.1 part.2,
    stand_short domain_part part.0 part.1 part.3.lines part.3.stand,
    cut_short part.3.lines k d (sym (ap (λ (ds : List DomainText). slice_get ds k) part.3.cut) ∙ e),
  )
]
