-- The rows of loads and shadows, by the lines of the plan.
use Rattle.std.proofs.Common.{◌≡◌, ℕ, zero, suc, List, [], ◌∷◌, ◌++◌, length, map, Some, refl, sym, ap, ◌∙◌}
use Rattle.std.specs.Prelude.{slice_get, unwrap_or}
use Rattle.std.specs.List.{flat_map}
use Rattle.std.proofs.lemmas.List.{length-map}
use Rattle.rl_defs.specs.declared.bundle.Numbered.{Numbered}
use Rattle.rl_defs.specs.declared.bundle.Bundle.{Bundle}
use Rattle.rl_defs.specs.declared.bundle.PlanLine.{PlanLine}
use Rattle.rl_defs.specs.declared.bundle.PlanLine.TheVariants as plan
use Rattle.rl_defs.specs.declared.load.LoadRow.{LoadRow}
use Rattle.rl_defs.specs.declared.load.ShadowRow.{ShadowRow}
use Rattle.rl_defs.specs.Interfaces.{place_of}
use Rattle.rl_defs.specs.BundleNames.{given_by, names_of, load_given, domains_loaded, load_names, domain_names, lines_of_domain, shadow_given, shadow_names, shadowed}
use Rattle.rl_defs.specs.LoadOf.{load_number, is_serial_in, binds_of, loads_in, loads_of, shadows_in, shadows_of}
use Rattle.rl_defs.proofs.Lists.{comes, map_get, get_map}
use Rattle.valid_loads.proofs.Names.{names_flat}

-- lists that are made alike, item by item
map_append : {A B : Type 0} (h : A → B) (xs ys : List A) → map h (xs ++ ys) ≡ map h xs ++ map h ys
map_append h [] ys = refl
map_append {A} {B} h (x ∷ xs) ys = ap (λ (zs : List B). h x ∷ zs) (map_append h xs ys)

pub flat_alike : {A B C : Type 0} (f : A → List B) (g : A → List C) (h : B → C) → ((x : A) → g x ≡ map h (f x)) → (xs : List A) → flat_map g xs ≡ map h (flat_map f xs)
flat_alike f g h each [] = refl
flat_alike {A} {B} {C} f g h each (x ∷ xs) =
    ap (λ (zs : List C). zs ++ flat_map g xs) (each x)
    ∙ ap (λ (zs : List C). map h (f x) ++ zs) (flat_alike f g h each xs)
    ∙ sym (map_append h (f x) (flat_map f xs))

-- what a `load` line says, and what a `shadow` line does
pub record LoadText : Type 0 where
  pub name : List ℕ
  pub domain : List ℕ

pub record ShadowText : Type 0 where
  pub name : List ℕ
  pub load : List ℕ
  pub restarts : ℕ

abbrev pub load_text : PlanLine → List LoadText
load_text (plan.Load name domain) = record { name = name; domain = domain } ∷ []
load_text _ = []

abbrev pub shadow_text : PlanLine → List ShadowText
shadow_text (plan.Shadow name load restarts) = record { name = name; load = load; restarts = restarts } ∷ []
shadow_text _ = []

abbrev pub load_texts : Bundle → List LoadText
load_texts b = flat_map (λ l. load_text l.form) b.plan.lines

abbrev pub shadow_texts : Bundle → List ShadowText
shadow_texts b = flat_map (λ l. shadow_text l.form) b.plan.lines

abbrev pub load_row_of : Bundle → LoadText → LoadRow
load_row_of b t = record {
  name = t.name;
  domain = unwrap_or (place_of t.domain (domain_names b)) 0;
  serial = is_serial_in b t.name;
  binds = binds_of b t.name (unwrap_or (lines_of_domain b t.domain) []);
}

abbrev pub shadow_row_of : Bundle → ShadowText → ShadowRow
shadow_row_of b t = record { name = t.name; load = load_number b t.load; restarts = t.restarts }

load_form : (b : Bundle) (f : PlanLine) → loads_in b f ≡ map (load_row_of b) (load_text f)
load_form b (plan.Load name domain) = refl
load_form b (plan.Bind load import target) = refl
load_form b (plan.Shadow name load restarts) = refl
load_form b (plan.Device load blocks) = refl
load_form b (plan.Serial load) = refl
load_form b (plan.Fuel n) = refl
load_form b (plan.Order clients) = refl

load_name_form : (f : PlanLine) → load_given f ≡ map (λ (t : LoadText). t.name) (load_text f)
load_name_form (plan.Load name domain) = refl
load_name_form (plan.Bind load import target) = refl
load_name_form (plan.Shadow name load restarts) = refl
load_name_form (plan.Device load blocks) = refl
load_name_form (plan.Serial load) = refl
load_name_form (plan.Fuel n) = refl
load_name_form (plan.Order clients) = refl

load_domain_form : (f : PlanLine) → domains_loaded f ≡ map (λ (t : LoadText). t.domain) (load_text f)
load_domain_form (plan.Load name domain) = refl
load_domain_form (plan.Bind load import target) = refl
load_domain_form (plan.Shadow name load restarts) = refl
load_domain_form (plan.Device load blocks) = refl
load_domain_form (plan.Serial load) = refl
load_domain_form (plan.Fuel n) = refl
load_domain_form (plan.Order clients) = refl

shadow_form : (b : Bundle) (f : PlanLine) → shadows_in b f ≡ map (shadow_row_of b) (shadow_text f)
shadow_form b (plan.Load name domain) = refl
shadow_form b (plan.Bind load import target) = refl
shadow_form b (plan.Shadow name load restarts) = refl
shadow_form b (plan.Device load blocks) = refl
shadow_form b (plan.Serial load) = refl
shadow_form b (plan.Fuel n) = refl
shadow_form b (plan.Order clients) = refl

shadow_name_form : (f : PlanLine) → shadow_given f ≡ map (λ (t : ShadowText). t.name) (shadow_text f)
shadow_name_form (plan.Load name domain) = refl
shadow_name_form (plan.Bind load import target) = refl
shadow_name_form (plan.Shadow name load restarts) = refl
shadow_name_form (plan.Device load blocks) = refl
shadow_name_form (plan.Serial load) = refl
shadow_name_form (plan.Fuel n) = refl
shadow_name_form (plan.Order clients) = refl

-- rows and names are made of the texts, one by one
pub loads_are : (b : Bundle) → loads_of b ≡ map (load_row_of b) (load_texts b)
loads_are b = flat_alike (λ (l : Numbered PlanLine). load_text l.form) (λ (l : Numbered PlanLine). loads_in b l.form) (load_row_of b) (λ l. load_form b l.form) b.plan.lines

pub load_names_are : (b : Bundle) → load_names b ≡ map (λ (t : LoadText). t.name) (load_texts b)
load_names_are b = names_flat load_given b.plan.lines ∙ flat_alike (λ (l : Numbered PlanLine). load_text l.form) (λ (l : Numbered PlanLine). load_given l.form) (λ (t : LoadText). t.name) (λ l. load_name_form l.form) b.plan.lines

pub load_domains_are : (b : Bundle) → names_of (given_by domains_loaded b.plan.lines) ≡ map (λ (t : LoadText). t.domain) (load_texts b)
load_domains_are b = names_flat domains_loaded b.plan.lines ∙ flat_alike (λ (l : Numbered PlanLine). load_text l.form) (λ (l : Numbered PlanLine). domains_loaded l.form) (λ (t : LoadText). t.domain) (λ l. load_domain_form l.form) b.plan.lines

pub shadows_are : (b : Bundle) → shadows_of b ≡ map (shadow_row_of b) (shadow_texts b)
shadows_are b = flat_alike (λ (l : Numbered PlanLine). shadow_text l.form) (λ (l : Numbered PlanLine). shadows_in b l.form) (shadow_row_of b) (λ l. shadow_form b l.form) b.plan.lines

pub shadow_names_are : (b : Bundle) → shadow_names b ≡ map (λ (t : ShadowText). t.name) (shadow_texts b)
shadow_names_are b = names_flat shadow_given b.plan.lines ∙ flat_alike (λ (l : Numbered PlanLine). shadow_text l.form) (λ (l : Numbered PlanLine). shadow_given l.form) (λ (t : ShadowText). t.name) (λ l. shadow_name_form l.form) b.plan.lines

shadow_load_form : (f : PlanLine) → shadowed f ≡ map (λ (t : ShadowText). t.load) (shadow_text f)
shadow_load_form (plan.Shadow name load restarts) = refl
shadow_load_form (plan.Load name domain) = refl
shadow_load_form (plan.Bind load import target) = refl
shadow_load_form (plan.Device load blocks) = refl
shadow_load_form (plan.Serial load) = refl
shadow_load_form (plan.Fuel n) = refl
shadow_load_form (plan.Order clients) = refl

-- the load that a shadow stands for
pub shadow_load_at : (b : Bundle) (k : ℕ) (t : ShadowText) → slice_get (shadow_texts b) k ≡ Some t → slice_get (names_of (given_by shadowed b.plan.lines)) k ≡ Some t.load
shadow_load_at b k t e =
    ap (λ (ns : List (List ℕ)). slice_get ns k) (names_flat shadowed b.plan.lines ∙ flat_alike (λ (l : Numbered PlanLine). shadow_text l.form) (λ (l : Numbered PlanLine). shadowed l.form) (λ (t : ShadowText). t.load) (λ l. shadow_load_form l.form) b.plan.lines)
    ∙ get_map (λ (t : ShadowText). t.load) (shadow_texts b) k t e

pub load_count : (b : Bundle) → length (load_names b) ≡ length (loads_of b)
load_count b = ap (λ (ns : List (List ℕ)). length ns) (load_names_are b) ∙ length-map (load_texts b) (λ (t : LoadText). t.name) ∙ sym (length-map (load_texts b) (load_row_of b)) ∙ ap (λ (rs : List LoadRow). length rs) (sym (loads_are b))

pub shadow_count : (b : Bundle) → length (shadow_names b) ≡ length (shadows_of b)
shadow_count b = ap (λ (ns : List (List ℕ)). length ns) (shadow_names_are b) ∙ length-map (shadow_texts b) (λ (t : ShadowText). t.name) ∙ sym (length-map (shadow_texts b) (shadow_row_of b)) ∙ ap (λ (rs : List ShadowRow). length rs) (sym (shadows_are b))

-- the text of a row
pub load_at : (b : Bundle) (k : ℕ) (l : LoadRow) → slice_get (loads_of b) k ≡ Some l → (t : LoadText) × (slice_get (load_texts b) k ≡ Some t) × (load_row_of b t ≡ l)
load_at b k l e = map_get (load_row_of b) (load_texts b) k l (ap (λ (rs : List LoadRow). slice_get rs k) (sym (loads_are b)) ∙ e)

pub row_at : (b : Bundle) (k : ℕ) (t : LoadText) → slice_get (load_texts b) k ≡ Some t → slice_get (loads_of b) k ≡ Some (load_row_of b t)
row_at b k t e = ap (λ (rs : List LoadRow). slice_get rs k) (loads_are b) ∙ get_map (load_row_of b) (load_texts b) k t e

pub name_at : (b : Bundle) (k : ℕ) (t : LoadText) → slice_get (load_texts b) k ≡ Some t → slice_get (load_names b) k ≡ Some t.name
name_at b k t e = ap (λ (ns : List (List ℕ)). slice_get ns k) (load_names_are b) ∙ get_map (λ (u : LoadText). u.name) (load_texts b) k t e

pub domain_at : (b : Bundle) (k : ℕ) (t : LoadText) → slice_get (load_texts b) k ≡ Some t → slice_get (names_of (given_by domains_loaded b.plan.lines)) k ≡ Some t.domain
domain_at b k t e = ap (λ (ns : List (List ℕ)). slice_get ns k) (load_domains_are b) ∙ get_map (λ (u : LoadText). u.domain) (load_texts b) k t e

pub named_load : (b : Bundle) (k : ℕ) (name : List ℕ) → slice_get (load_names b) k ≡ Some name → (t : LoadText) × (slice_get (load_texts b) k ≡ Some t) × (t.name ≡ name)
named_load b k name e = map_get (λ (u : LoadText). u.name) (load_texts b) k name (ap (λ (ns : List (List ℕ)). slice_get ns k) (sym (load_names_are b)) ∙ e)

pub shadow_at : (b : Bundle) (k : ℕ) (x : ShadowRow) → slice_get (shadows_of b) k ≡ Some x → (t : ShadowText) × (slice_get (shadow_texts b) k ≡ Some t) × (shadow_row_of b t ≡ x)
shadow_at b k x e = map_get (shadow_row_of b) (shadow_texts b) k x (ap (λ (rs : List ShadowRow). slice_get rs k) (sym (shadows_are b)) ∙ e)

pub shadow_row_at : (b : Bundle) (k : ℕ) (t : ShadowText) → slice_get (shadow_texts b) k ≡ Some t → slice_get (shadows_of b) k ≡ Some (shadow_row_of b t)
shadow_row_at b k t e = ap (λ (rs : List ShadowRow). slice_get rs k) (shadows_are b) ∙ get_map (shadow_row_of b) (shadow_texts b) k t e

-- the line of a text
pub record LineOf (b : Bundle) (form : PlanLine) : Type 0 where
  pub place : ℕ
  pub number : ℕ
  pub here : slice_get b.plan.lines place ≡ Some (record { line = number; form = form })

load_one : (f : PlanLine) (i : ℕ) (t : LoadText) → slice_get (load_text f) i ≡ Some t → f ≡ plan.Load t.name t.domain
load_one (plan.Load name domain) zero t e = let same : record { name = name; domain = domain } ≡ t = cc in ap (λ (u : LoadText). plan.Load u.name u.domain) same
load_one (plan.Load name domain) (suc i) t e = absurd cc
load_one (plan.Bind load import target) i t e = absurd cc
load_one (plan.Shadow name load restarts) i t e = absurd cc
load_one (plan.Device load blocks) i t e = absurd cc
load_one (plan.Serial load) i t e = absurd cc
load_one (plan.Fuel n) i t e = absurd cc
load_one (plan.Order clients) i t e = absurd cc

pub shadow_one : (f : PlanLine) (i : ℕ) (t : ShadowText) → slice_get (shadow_text f) i ≡ Some t → (f ≡ plan.Shadow t.name t.load t.restarts) × (i ≡ 0)
shadow_one (plan.Shadow name load restarts) zero t e = let same : record { name = name; load = load; restarts = restarts } ≡ t = cc in (ap (λ (u : ShadowText). plan.Shadow u.name u.load u.restarts) same, refl)
shadow_one (plan.Shadow name load restarts) (suc i) t e = absurd cc
shadow_one (plan.Load name domain) i t e = absurd cc
shadow_one (plan.Bind load import target) i t e = absurd cc
shadow_one (plan.Device load blocks) i t e = absurd cc
shadow_one (plan.Serial load) i t e = absurd cc
shadow_one (plan.Fuel n) i t e = absurd cc
shadow_one (plan.Order clients) i t e = absurd cc

pub line_is : (b : Bundle) (k : ℕ) (x : Numbered PlanLine) (form : PlanLine) → slice_get b.plan.lines k ≡ Some x → x.form ≡ form → LineOf b form
line_is b k x form e is = record { place = k; number = x.line; here = e ∙ ap (λ (f : PlanLine). Some (record { line = x.line; form = f })) is }

pub load_line : (b : Bundle) (k : ℕ) (t : LoadText) → slice_get (load_texts b) k ≡ Some t → LineOf b (plan.Load t.name t.domain)
load_line b k t e =
    let c = comes (λ (l : Numbered PlanLine). load_text l.form) b.plan.lines k t e in
    line_is b c.place c.item (plan.Load t.name t.domain) c.here (load_one c.item.form c.inner t c.there)

pub shadow_line : (b : Bundle) (k : ℕ) (t : ShadowText) → slice_get (shadow_texts b) k ≡ Some t → LineOf b (plan.Shadow t.name t.load t.restarts)
shadow_line b k t e =
    let c = comes (λ (l : Numbered PlanLine). shadow_text l.form) b.plan.lines k t e in
    line_is b c.place c.item (plan.Shadow t.name t.load t.restarts) c.here (shadow_one c.item.form c.inner t c.there).0
