-- What one line adds to what all lines give.
use Rattle.std.proofs.Common.{◌≡◌, ℕ, ◌+◌, ◌≤◌, List, [], ◌∷◌, ◌++◌, map, length, refl, ap, ◌∙◌, arith, Some, length-append}
use Rattle.std.specs.Prelude.{slice_get}
use Rattle.std.specs.List.{flat_map}
use Rattle.rl_defs.specs.declared.bundle.Numbered.{Numbered}
use Rattle.rl_defs.specs.declared.code.DomainLine.{DomainLine}
use Rattle.rl_defs.specs.declared.code.DomainLine.TheVariants as line
use Rattle.rl_defs.specs.CodeNames.{Declared, imports, import_of_form}
use Rattle.rl_defs.specs.BundleNames.{Given, given, given_by, names_of}
use Rattle.plan_checker.specs.Facts.{import_names, import_traits}
use Rattle.plan_checker.proofs.Forms.{no_import}
use Rattle.plan_checker.proofs.Gathering.{Gathers, gather_first, gather_more, gather_none, gather_all}

names_behind : (n : ℕ) (ns : List (List ℕ)) (gs : List Given) → names_of (map (given n) ns ++ gs) ≡ ns ++ names_of gs
names_behind n [] gs = refl
names_behind n (x ∷ xs) gs = ap (λ ys. x ∷ ys) (names_behind n xs gs)

-- the names that lines give
abbrev pub gives : {Form : Type 0} → (Form → List (List ℕ)) → List (Numbered Form) → List (List ℕ)
gives names lines = names_of (given_by names lines)

pub give_step : {Form : Type 0} (names : Form → List (List ℕ)) (l : Numbered Form) (ns : List (List ℕ)) → names l.form ≡ ns → (rest : List (Numbered Form)) → gives names (l ∷ rest) ≡ ns ++ gives names rest
give_step names l ns is rest = ap (λ xs. names_of (map (given l.line) xs ++ given_by names rest)) is ∙ names_behind l.line ns (given_by names rest)

pub flat_step : {A X : Type 0} (g : A → List X) (x : A) (ys : List X) → g x ≡ ys → (rest : List A) → flat_map g (x ∷ rest) ≡ ys ++ flat_map g rest
flat_step g x ys is rest = ap (λ zs. zs ++ flat_map g rest) is

-- an import, or a line that is none
pub import_step : (l : Numbered DomainLine) (name has : List ℕ) → l.form ≡ line.Import name has → (rest : List (Numbered DomainLine)) → import_names (l ∷ rest) ≡ (name ∷ []) ++ import_names rest
import_step l name has is rest = ap (λ (f : DomainLine). map (λ (d : Declared). d.name) (import_of_form f (imports rest))) is

pub trait_step : (l : Numbered DomainLine) (name has : List ℕ) → l.form ≡ line.Import name has → (rest : List (Numbered DomainLine)) → import_traits (l ∷ rest) ≡ (has ∷ []) ++ import_traits rest
trait_step l name has is rest = ap (λ (f : DomainLine). map (λ (d : Declared). d.ty) (import_of_form f (imports rest))) is

pub import_none : (l : Numbered DomainLine) → ((name has : List ℕ) → l.form ≡ line.Import name has → ⊥) → (rest : List (Numbered DomainLine)) → import_names (l ∷ rest) ≡ import_names rest
import_none l h rest = ap (map (λ (d : Declared). d.name)) (no_import l.form (imports rest) h)

pub trait_none : (l : Numbered DomainLine) → ((name has : List ℕ) → l.form ≡ line.Import name has → ⊥) → (rest : List (Numbered DomainLine)) → import_traits (l ∷ rest) ≡ import_traits rest
trait_none l h rest = ap (map (λ (d : Declared). d.ty)) (no_import l.form (imports rest) h)

-- What is kept of the imports as the lines of a domain are read.
pub record ImportsTo (lines : List (Numbered DomainLine)) (at : ℕ) (places names traits : List (List ℕ)) : Type 0 where
  pub places_are : Gathers import_names lines at places
  pub names_are : Gathers import_names lines at names
  pub traits_are : Gathers import_traits lines at traits
  pub few : length places ≤ at

pub imports_first : (lines : List (Numbered DomainLine)) (places names traits : List (List ℕ)) → places ≡ [] → names ≡ [] → traits ≡ [] → ImportsTo lines 0 places names traits
imports_first lines places names traits p n t = record { places_are = gather_first import_names lines places p; names_are = gather_first import_names lines names n; traits_are = gather_first import_traits lines traits t; few = omega (arith, ap length p) }

one_more : (before after : List (List ℕ)) (name : List ℕ) (at : ℕ) → length before ≤ at → after ≡ before ++ name ∷ [] → length after ≤ at + 1
one_more before after name at le more = omega (arith, le, ap length more, length-append before (name ∷ []))

pub imports_more : (lines : List (Numbered DomainLine)) (at : ℕ) (l : Numbered DomainLine) (name has : List ℕ) (p1 n1 t1 p2 n2 t2 : List (List ℕ)) → ImportsTo lines at p1 n1 t1 → slice_get lines at ≡ Some l → l.form ≡ line.Import name has → p2 ≡ p1 ++ name ∷ [] → n2 ≡ n1 ++ name ∷ [] → t2 ≡ t1 ++ has ∷ [] → ImportsTo lines (at + 1) p2 n2 t2
imports_more lines at l name has p1 n1 t1 p2 n2 t2 h here is p n t = record {
  places_are = gather_more import_names lines at l (name ∷ []) p1 p2 h.places_are here (import_step l name has is) p;
  names_are = gather_more import_names lines at l (name ∷ []) n1 n2 h.names_are here (import_step l name has is) n;
  traits_are = gather_more import_traits lines at l (has ∷ []) t1 t2 h.traits_are here (trait_step l name has is) t;
  few = one_more p1 p2 name at h.few p;
}

pub imports_none : (lines : List (Numbered DomainLine)) (at : ℕ) (l : Numbered DomainLine) (p n t : List (List ℕ)) → ImportsTo lines at p n t → slice_get lines at ≡ Some l → ((name has : List ℕ) → l.form ≡ line.Import name has → ⊥) → ImportsTo lines (at + 1) p n t
imports_none lines at l p n t h here not = record {
  places_are = gather_none import_names lines at l p h.places_are here (import_none l not);
  names_are = gather_none import_names lines at l n h.names_are here (import_none l not);
  traits_are = gather_none import_traits lines at l t h.traits_are here (trait_none l not);
  few = omega (arith, h.few);
}

-- What is kept of names as lines are read.
pub record NamesTo {Form : Type 0} (give : Form → List (List ℕ)) (lines : List (Numbered Form)) (at : ℕ) (names : List (List ℕ)) : Type 0 where
  pub gathered : Gathers (gives give) lines at names
  pub few : length names ≤ at

pub names_first : {Form : Type 0} (give : Form → List (List ℕ)) (lines : List (Numbered Form)) (names : List (List ℕ)) → names ≡ [] → NamesTo give lines 0 names
names_first give lines names is = record { gathered = gather_first (gives give) lines names is; few = omega (arith, ap length is) }

pub names_more : {Form : Type 0} (give : Form → List (List ℕ)) (lines : List (Numbered Form)) (at : ℕ) (l : Numbered Form) (name : List ℕ) (before after : List (List ℕ)) → NamesTo give lines at before → slice_get lines at ≡ Some l → give l.form ≡ name ∷ [] → after ≡ before ++ name ∷ [] → NamesTo give lines (at + 1) after
names_more give lines at l name before after h here is more = record {
  gathered = gather_more (gives give) lines at l (name ∷ []) before after h.gathered here (give_step give l (name ∷ []) is) more;
  few = one_more before after name at h.few more;
}

pub names_none : {Form : Type 0} (give : Form → List (List ℕ)) (lines : List (Numbered Form)) (at : ℕ) (l : Numbered Form) (names : List (List ℕ)) → NamesTo give lines at names → slice_get lines at ≡ Some l → give l.form ≡ [] → NamesTo give lines (at + 1) names
names_none give lines at l names h here is = record { gathered = gather_none (gives give) lines at l names h.gathered here (give_step give l [] is); few = omega (arith, h.few) }

pub names_all : {Form : Type 0} (give : Form → List (List ℕ)) (lines : List (Numbered Form)) (at : ℕ) (names : List (List ℕ)) → NamesTo give lines at names → length lines ≤ at → names ≡ gives give lines
names_all give lines at names h le = gather_all (gives give) lines at names h.gathered le refl
