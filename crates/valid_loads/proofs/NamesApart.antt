-- No two methods of a trait, no two structs and traits, no two targets and no two clients have one name.
use Rattle.rl_defs.specs.NameRules.{declared_given, methods_given}
use Rattle.std.proofs.Common.{◌≡◌, ℕ, ◌+◌, ◌<◌, ◌⊎◌, inl, inr, List, [], ◌∷◌, ◌++◌, map, length, Option, Some, None, refl, sym, ap, subst, ◌∙◌, arith}
use Rattle.std.specs.Prelude.{slice_get}
use Rattle.std.specs.Option.{option_to_list}
use Rattle.std.specs.List.{flat_map}
use Rattle.std.proofs.lemmas.Bool.{cases_order}
use Rattle.rl_defs.specs.declared.bundle.Numbered.{Numbered}
use Rattle.rl_defs.specs.declared.bundle.Bundle.{Bundle}
use Rattle.rl_defs.specs.declared.bundle.PlanLine.{PlanLine}
use Rattle.rl_defs.specs.declared.bundle.PlanLine.TheVariants as plan
use Rattle.rl_defs.specs.declared.idl.IdlLine.{IdlLine}
use Rattle.rl_defs.specs.declared.idl.IdlLine.TheVariants as form
use Rattle.rl_defs.specs.declared.tables.MethodRow.{MethodRow}
use Rattle.rl_defs.specs.declared.tables.StructRow.{StructRow}
use Rattle.rl_defs.specs.declared.tables.TraitRow.{TraitRow}
use Rattle.rl_defs.specs.declared.tables.Tables.{Tables}
use Rattle.rl_defs.specs.declared.load.LoadRow.{LoadRow}
use Rattle.rl_defs.specs.declared.load.ShadowRow.{ShadowRow}
use Rattle.rl_defs.specs.declared.load.ClientRow.{ClientRow}
use Rattle.rl_defs.specs.Interfaces.{Lines as IdlLines, MethodText, TraitText, traits_of, names_by, struct_name, trait_name}
use Rattle.rl_defs.specs.MethodRules.{AreMethodRows}
use Rattle.rl_defs.specs.BundleNames.{ClientLines, given_by, load_given, target_given, load_names, client_given, client_names, scripts_of, shadow_given, shadow_names, given}
use Rattle.rl_defs.specs.LoadOf.{loads_of, shadows_of, client_rows, clients_of}
use Rattle.rl_defs.proofs.Lists.{get_both, map_get, comes, get_map}
use Rattle.rl_defs.proofs.Spots.{stands_at, one_spot}
use Rattle.valid_loads.proofs.Names.{Apart, given_apart, apart_among, names_flat}
use Rattle.valid_loads.proofs.Rules.{Kept, once}
use Rattle.valid_loads.proofs.Rows.{load_names_are, loads_are, shadow_names_are, shadows_are, load_row_of, shadow_row_of, load_texts, shadow_texts}
use Rattle.valid_loads.proofs.Traits.{struct_row_names, trait_row_names}
use Rattle.valid_loads.proofs.Bounds.{client_scripts}
use Rattle.valid_loads.proofs.Binds.{targets_apart}

-- ---- the names of methods

pub row_names : (lines : IdlLines) (texts : List MethodText) (rows : List MethodRow) → AreMethodRows lines texts rows → map (λ (m : MethodText). m.name) texts ≡ map (λ (m : MethodRow). m.name) rows
row_names lines [] [] h = refl
row_names lines [] (r ∷ rows) h = absurd h
row_names lines (t ∷ texts) [] h = absurd h
row_names lines (t ∷ texts) (r ∷ rows) h = ap (λ (n : List ℕ). n ∷ map (λ (m : MethodText). m.name) texts) (sym h.0.name) ∙ ap (λ (ns : List (List ℕ)). r.name ∷ ns) (row_names lines texts rows h.1)

clash : (tables : Tables) (b : Bundle) → Kept tables b → (t : ℕ) (text : TraitText) → slice_get (traits_of b.idl.lines) t ≡ Some text → (j k : ℕ) (q : List ℕ) → j < k → slice_get (map (λ (m : MethodText). m.name) text.methods) j ≡ Some q → slice_get (map (λ (m : MethodText). m.name) text.methods) k ≡ Some q → ⊥
clash tables b h t text here j k q lt e d =
    let first = map_get (λ (m : MethodText). m.name) text.methods j q e in
    let second = map_get (λ (m : MethodText). m.name) text.methods k q d in
    h.names second.0.line 3 (inl (inl (
      refl,
      inr (inr (inl (record {
        number = t;
        names = methods_given text;
        here = get_map methods_given (traits_of b.idl.lines) t text here;
        twice = record {
          earlier = j;
          place = k;
          before = lt;
          first = given first.0.line first.0.name;
          second = given second.0.line second.0.name;
          there = get_map (λ (m : MethodText). given m.line m.name) text.methods j first.0 first.1;
          here = get_map (λ (m : MethodText). given m.line m.name) text.methods k second.0 second.1;
          line = refl;
          again = second.2 ∙ sym first.2;
        };
      }))),
    )))

pub text_apart : (tables : Tables) (b : Bundle) → Kept tables b → (t : ℕ) (text : TraitText) → slice_get (traits_of b.idl.lines) t ≡ Some text → Apart (map (λ (m : MethodText). m.name) text.methods)
text_apart tables b h t text here j k q e d = elim (cases_order j k) [
  | inl same ↦ same
  | inr (inl less) ↦ absurd (clash tables b h t text here j k q less e d)
  | inr (inr more) ↦ absurd (clash tables b h t text here k j q more d e)
]

-- ---- names of two kinds

-- each item gives names of one of the two kinds, or of none
abbrev IsOneOf : {A : Type 0} (f g h : A → List (List ℕ)) → A → Type 0
IsOneOf f g h x = ((g x ≡ f x) × (h x ≡ [])) ⊎ ((g x ≡ []) × (h x ≡ f x))

among_first : {A : Type 0} (f g h : A → List (List ℕ)) (x : A) → IsOneOf f g h x → (g x ≡ []) ⊎ (g x ≡ f x)
among_first f g h x (inl a) = inr a.0
among_first f g h x (inr b) = inl b.0

among_second : {A : Type 0} (f g h : A → List (List ℕ)) (x : A) → IsOneOf f g h x → (h x ≡ []) ⊎ (h x ≡ f x)
among_second f g h x (inl a) = inl a.1
among_second f g h x (inr b) = inr b.1

some_of : (xs ys : List (List ℕ)) (i : ℕ) (q : List ℕ) → (xs ≡ []) ⊎ (xs ≡ ys) → slice_get xs i ≡ Some q → slice_get ys i ≡ Some q
some_of xs ys i q (inl none) e = let bad : None ≡ Some q = sym (ap (λ (ns : List (List ℕ)). slice_get ns i) none) ∙ e in absurd cc
some_of xs ys i q (inr same) e = ap (λ (ns : List (List ℕ)). slice_get ns i) (sym same) ∙ e

not_both : {A : Type 0} (f g h : A → List (List ℕ)) (x : A) (i j : ℕ) (q : List ℕ) → IsOneOf f g h x → slice_get (g x) i ≡ Some q → slice_get (h x) j ≡ Some q → ⊥
not_both f g h x i j q (inl a) e d = let bad : None ≡ Some q = sym (ap (λ (ns : List (List ℕ)). slice_get ns j) a.1) ∙ d in absurd cc
not_both f g h x i j q (inr b) e d = let bad : None ≡ Some q = sym (ap (λ (ns : List (List ℕ)). slice_get ns i) b.0) ∙ e in absurd cc

across : {A : Type 0} (f g h : A → List (List ℕ)) → ((x : A) → IsOneOf f g h x) → (xs : List A) → Apart (flat_map f xs) → (j k : ℕ) (q : List ℕ) → slice_get (flat_map g xs) j ≡ Some q → slice_get (flat_map h xs) k ≡ Some q → ⊥
across {A} f g h each xs apart j k q e d =
    let c = comes g xs j q e in
    let z = comes h xs k q d in
    let one = some_of (g c.item) (f c.item) c.inner q (among_first f g h c.item (each c.item)) c.there in
    let two = some_of (h z.item) (f z.item) z.inner q (among_second f g h z.item (each z.item)) z.there in
    let spots = apart _ _ q (stands_at f xs c.place c.inner c.item q c.here one) (stands_at f xs z.place z.inner z.item q z.here two) in
    let place = (one_spot f xs c.place z.place c.inner z.inner c.item z.item q q c.here one z.here two spots).0 in
    let same : Some c.item ≡ Some z.item = sym c.here ∙ ap (slice_get xs) place ∙ z.here in
    let item : c.item ≡ z.item = cc in
    not_both f g h z.item c.inner z.inner q (each z.item) (subst (λ (x : A). slice_get (g x) c.inner ≡ Some q) item c.there) z.there

both_apart : {A : Type 0} (f g h : A → List (List ℕ)) → ((x : A) → IsOneOf f g h x) → (xs : List A) → Apart (flat_map f xs) → Apart (flat_map g xs ++ flat_map h xs)
both_apart f g h each xs apart j k q e d = by (get_both (flat_map g xs) (flat_map h xs) j q e) (get_both (flat_map g xs) (flat_map h xs) k q d) where
  firsts : Apart (flat_map g xs)
  firsts = apart_among f g (λ x. among_first f g h x (each x)) xs apart

  seconds : Apart (flat_map h xs)
  seconds = apart_among f h (λ x. among_second f g h x (each x)) xs apart

  by : (slice_get (flat_map g xs) j ≡ Some q) ⊎ ((i : ℕ) × (j ≡ length (flat_map g xs) + i) × (slice_get (flat_map h xs) i ≡ Some q)) → (slice_get (flat_map g xs) k ≡ Some q) ⊎ ((i : ℕ) × (k ≡ length (flat_map g xs) + i) × (slice_get (flat_map h xs) i ≡ Some q)) → j ≡ k
  by (inl a) (inl b) = firsts j k q a b
  by (inl a) (inr b) = absurd (across f g h each xs apart j b.0 q a b.2)
  by (inr a) (inl b) = absurd (across f g h each xs apart k a.0 q b a.2)
  by (inr a) (inr b) = let same = seconds a.0 b.0 q a.2 b.2 in omega (arith, a.1, b.1, same)

-- ---- structs and traits

abbrev named_by : (IdlLine → Option (List ℕ)) → Numbered IdlLine → List (List ℕ)
named_by name_of x = option_to_list (name_of x.form)

names_are : (name_of : IdlLine → Option (List ℕ)) (lines : IdlLines) → flat_map (named_by name_of) lines ≡ names_by name_of lines
names_are name_of [] = refl
names_are name_of (x ∷ xs) = ap (λ (ns : List (List ℕ)). option_to_list (name_of x.form) ++ ns) (names_are name_of xs)

struct_or_trait : (f : IdlLine) → ((option_to_list (struct_name f) ≡ declared_given f) × (option_to_list (trait_name f) ≡ [])) ⊎ ((option_to_list (struct_name f) ≡ []) × (option_to_list (trait_name f) ≡ declared_given f))
struct_or_trait (form.Struct name) = inl (refl, refl)
struct_or_trait (form.Trait name) = inr (refl, refl)
struct_or_trait (form.Field name ty) = inl (refl, refl)
struct_or_trait form.Idempotent = inl (refl, refl)
struct_or_trait (form.Method name params result) = inl (refl, refl)
struct_or_trait form.Close = inl (refl, refl)

declared_apart : (tables : Tables) (b : Bundle) → Kept tables b → Apart (flat_map (λ (l : Numbered IdlLine). declared_given l.form) b.idl.lines)
declared_apart tables b h = subst Apart (names_flat declared_given b.idl.lines) (given_apart (given_by declared_given b.idl.lines) (λ n t. h.names n 3 (inl (inl (refl, inl t)))))

pub types_apart : (tables : Tables) (b : Bundle) → Kept tables b → Apart (map (λ (s : StructRow). s.name) tables.structs ++ map (λ (t : TraitRow). t.name) tables.traits)
types_apart tables b h =
    subst (λ (ns : List (List ℕ)). Apart (ns ++ map (λ (t : TraitRow). t.name) tables.traits)) (names_are struct_name b.idl.lines ∙ struct_row_names tables b h)
    (subst (λ (ns : List (List ℕ)). Apart (flat_map (named_by struct_name) b.idl.lines ++ ns)) (names_are trait_name b.idl.lines ∙ trait_row_names tables b h)
    (both_apart (λ (l : Numbered IdlLine). declared_given l.form) (named_by struct_name) (named_by trait_name) (λ x. struct_or_trait x.form) b.idl.lines (declared_apart tables b h)))

-- ---- targets

load_or_shadow : (f : PlanLine) → ((load_given f ≡ target_given f) × (shadow_given f ≡ [])) ⊎ ((load_given f ≡ []) × (shadow_given f ≡ target_given f))
load_or_shadow (plan.Load name domain) = inl (refl, refl)
load_or_shadow (plan.Shadow name load restarts) = inr (refl, refl)
load_or_shadow (plan.Bind load import target) = inl (refl, refl)
load_or_shadow (plan.Device load blocks) = inl (refl, refl)
load_or_shadow (plan.Serial load) = inl (refl, refl)
load_or_shadow (plan.Fuel n) = inl (refl, refl)
load_or_shadow (plan.Order clients) = inl (refl, refl)

map_map : {A B C : Type 0} (f : A → B) (g : B → C) (xs : List A) → map (λ x. g (f x)) xs ≡ map g (map f xs)
map_map f g [] = refl
map_map {A} {B} {C} f g (x ∷ xs) = ap (λ (zs : List C). g (f x) ∷ zs) (map_map f g xs)

load_row_names : (b : Bundle) → load_names b ≡ map (λ (l : LoadRow). l.name) (loads_of b)
load_row_names b = load_names_are b ∙ map_map (load_row_of b) (λ (l : LoadRow). l.name) (load_texts b) ∙ ap (map (λ (l : LoadRow). l.name)) (sym (loads_are b))

shadow_row_names : (b : Bundle) → shadow_names b ≡ map (λ (x : ShadowRow). x.name) (shadows_of b)
shadow_row_names b = shadow_names_are b ∙ map_map (shadow_row_of b) (λ (x : ShadowRow). x.name) (shadow_texts b) ∙ ap (map (λ (x : ShadowRow). x.name)) (sym (shadows_are b))

pub target_names_apart : (tables : Tables) (b : Bundle) → Kept tables b → Apart (map (λ (l : LoadRow). l.name) (loads_of b) ++ map (λ (x : ShadowRow). x.name) (shadows_of b))
target_names_apart tables b h =
    subst (λ (ns : List (List ℕ)). Apart (ns ++ map (λ (x : ShadowRow). x.name) (shadows_of b))) (sym (names_flat load_given b.plan.lines) ∙ load_row_names b)
    (subst (λ (ns : List (List ℕ)). Apart (flat_map (λ (l : Numbered PlanLine). load_given l.form) b.plan.lines ++ ns)) (sym (names_flat shadow_given b.plan.lines) ∙ shadow_row_names b)
    (both_apart (λ (l : Numbered PlanLine). target_given l.form) (λ (l : Numbered PlanLine). load_given l.form) (λ (l : Numbered PlanLine). shadow_given l.form) (λ l. load_or_shadow l.form) b.plan.lines (targets_apart tables b h)))

-- ---- clients

row_names_are : (tables : Tables) (b : Bundle) (names : List (List ℕ)) (scripts : List ClientLines) → length names ≡ length scripts → names ≡ map (λ (c : ClientRow). c.name) (client_rows tables b names scripts)
row_names_are tables b [] [] e = refl
row_names_are tables b [] (s ∷ scripts) e = refl
row_names_are tables b (n ∷ names) [] e = absurd (omega (arith, e))
row_names_are tables b (n ∷ names) (s ∷ scripts) e = ap (λ (ns : List (List ℕ)). n ∷ ns) (row_names_are tables b names scripts (omega (arith, e)))

pub client_names_apart : (tables : Tables) (b : Bundle) → Kept tables b → Apart (map (λ (c : ClientRow). c.name) (clients_of tables b))
client_names_apart tables b h =
    subst Apart (row_names_are tables b (client_names b) (scripts_of b.clients.lines) (client_scripts b))
    (given_apart (given_by client_given b.clients.lines) (λ n t. once tables b h n (inr (inr (inr (inr (inl t)))))))
