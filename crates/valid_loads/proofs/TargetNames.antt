-- A target by its name: its number, and its load.
use Rattle.std.proofs.Common.{◌≡◌, ℕ, suc, ◌+◌, ◌-◌, ◌<◌, ◌⊎◌, inl, inr, true, List, length, Option, Some, None, refl, sym, ap, ◌∙◌, arith, le-leb}
use Rattle.std.specs.Prelude.{slice_get, nat_le}
use Rattle.std.specs.List.{flat_map}
use Rattle.rl_defs.specs.declared.bundle.Numbered.{Numbered}
use Rattle.rl_defs.specs.declared.bundle.Bundle.{Bundle}
use Rattle.rl_defs.specs.declared.bundle.PlanLine.{PlanLine}
use Rattle.rl_defs.specs.declared.bundle.PlanLine.TheVariants as plan
use Rattle.rl_defs.specs.declared.tables.Tables.{Tables}
use Rattle.rl_defs.specs.Interfaces.{place_of}
use Rattle.rl_defs.specs.Domains.{row, load_of_target, load_of_row}
use Rattle.rl_defs.specs.Domains.{load_of_shadow as load_of_shadow_row}
use Rattle.rl_defs.specs.BundleNames.{given_by, names_of, load_names, target_names, target_given, load_given, load_behind as load_of_name, shadow_given, shadow_names}
use Rattle.rl_defs.specs.LoadOf.{load_of, loads_of, shadows_of, target_number, counted}
use Rattle.rl_defs.specs.Rows.{is_target}
use Rattle.rl_defs.proofs.Lists.{comes, goes, map_get, list_past, in_list, both_true}
use Rattle.valid_loads.proofs.Names.{names_flat, place_there, there_place, place_first, place_second}
use Rattle.valid_loads.proofs.Rules.{Kept}
use Rattle.valid_loads.proofs.Rows.{shadow_load_at, ShadowText, shadow_texts, shadow_row_of, load_count, shadow_count, shadow_names_are, shadow_row_at, row_at}
use Rattle.valid_loads.proofs.Domains.{LoadNamed, load_named}
use Rattle.valid_loads.proofs.Shadows.{shadow_place}
use Rattle.valid_loads.proofs.Targets.{number_there}

-- A target by its name: its place among loads and shadows, and its load.
pub record TargetNamed (tables : Tables) (b : Bundle) (target : List ℕ) : Type 0 where
  pub place : ℕ
  pub number : target_number b target ≡ suc place
  pub load : List ℕ
  pub stands_for : load_of_name b target ≡ Some load
  pub loaded : LoadNamed tables b load
  pub row : load_of_target (load_of tables b) (suc place) ≡ suc loaded.place
  pub is : is_target (load_of tables b) (suc place) ≡ true

is_one : (tables : Tables) (b : Bundle) (p : ℕ) → p < length (loads_of b) + length (shadows_of b) → is_target (load_of tables b) (suc p) ≡ true
is_one tables b p lt = both_true (nat_le 1 (suc p)) (nat_le (suc p) (length (loads_of b) + length (shadows_of b))) (le-leb 1 (suc p) (omega arith)) (le-leb (suc p) (length (loads_of b) + length (shadows_of b)) lt)

-- ---- a load

own_load : (b : Bundle) (target : List ℕ) (p : ℕ) → place_of target (load_names b) ≡ Some p → load_of_name b target ≡ Some target
own_load b target p e = rw e refl

as_load : (tables : Tables) (b : Bundle) (target : List ℕ) (p : ℕ) → Kept tables b → place_of target (load_names b) ≡ Some p → TargetNamed tables b target
as_load tables b target p h e =
    let load = load_named tables b target p h e in
    let within = in_list (load_names b) load.place target (place_there target (load_names b) load.place load.named) in
    record {
      place = load.place;
      number = ap counted (place_first target (load_names b) (shadow_names b) load.place load.named);
      load = target;
      stands_for = own_load b target p e;
      loaded = load;
      row = ap (load_of_row (load_of tables b) (suc load.place)) (row_at b load.place load.text load.here);
      is = is_one tables b load.place (omega (arith, within, load_count b));
    }

-- ---- a shadow

shadow_stands : (b : Bundle) (target : List ℕ) (s : ℕ) (u : ShadowText) → place_of target (load_names b) ≡ None → place_of target (shadow_names b) ≡ Some s → slice_get (shadow_texts b) s ≡ Some u → load_of_name b target ≡ Some u.load
shadow_stands b target s u none e d = rw (none, e) (shadow_load_at b s u d)

shadow_row : (tables : Tables) (b : Bundle) (s n : ℕ) (u : ShadowText) → n ≡ length (loads_of b) → slice_get (shadow_texts b) s ≡ Some u → load_of_target (load_of tables b) (suc (n + s)) ≡ (shadow_row_of b u).load
shadow_row tables b s n u same d =
    let back : suc (n + s) - length (loads_of b) ≡ suc s = omega (arith, same) in
    ap (load_of_row (load_of tables b) (suc (n + s))) (list_past (loads_of b) (n + s) (omega (arith, same)))
    ∙ ap (λ (k : ℕ). load_of_shadow_row (row (shadows_of b) k)) back
    ∙ ap load_of_shadow_row (shadow_row_at b s u d)

as_shadow : (tables : Tables) (b : Bundle) (target : List ℕ) (s : ℕ) → Kept tables b → place_of target (load_names b) ≡ None → place_of target (shadow_names b) ≡ Some s → TargetNamed tables b target
as_shadow tables b target s h none e =
    let name = place_there target (shadow_names b) s e in
    let u = map_get (λ (t : ShadowText). t.name) (shadow_texts b) s target (ap (λ (ns : List (List ℕ)). slice_get ns s) (sym (shadow_names_are b)) ∙ name) in
    let p = shadow_place tables b h s u.0 u.1 in
    let load = load_named tables b u.0.load p.0 h p.1 in
    let within = in_list (shadow_names b) s target name in
    record {
      place = length (load_names b) + s;
      number = ap counted (place_second target (load_names b) (shadow_names b) s none e);
      load = u.0.load;
      stands_for = shadow_stands b target s u.0 none e u.1;
      loaded = load;
      row = shadow_row tables b s (length (load_names b)) u.0 (load_count b) u.1 ∙ number_there b u.0.load load.place load.named;
      is = is_one tables b (length (load_names b) + s) (omega (arith, within, load_count b, shadow_count b));
    }

-- ---- any target

-- a target's line is that of a load or of a shadow
load_or_shadow : (f : PlanLine) (i : ℕ) (q : List ℕ) → slice_get (target_given f) i ≡ Some q → (slice_get (load_given f) i ≡ Some q) ⊎ (slice_get (shadow_given f) i ≡ Some q)
load_or_shadow (plan.Load name domain) i q e = inl e
load_or_shadow (plan.Shadow name load restarts) i q e = inr e
load_or_shadow (plan.Bind load import target) i q e = absurd cc
load_or_shadow (plan.Device load blocks) i q e = absurd cc
load_or_shadow (plan.Serial load) i q e = absurd cc
load_or_shadow (plan.Fuel n) i q e = absurd cc
load_or_shadow (plan.Order clients) i q e = absurd cc

among : (b : Bundle) (f : PlanLine → List (List ℕ)) (k i : ℕ) (x : Numbered PlanLine) (q : List ℕ) → slice_get b.plan.lines k ≡ Some x → slice_get (f x.form) i ≡ Some q → (p : ℕ) × (place_of q (names_of (given_by f b.plan.lines)) ≡ Some p)
among b f k i x q e d =
    let g = goes (λ (l : Numbered PlanLine). f l.form) b.plan.lines k i x q e d in
    there_place q (names_of (given_by f b.plan.lines)) g.0 (ap (λ (ns : List (List ℕ)). slice_get ns g.0) (names_flat f b.plan.lines) ∙ g.1)

pub target_named : (tables : Tables) (b : Bundle) (target : List ℕ) (p : ℕ) → Kept tables b → place_of target (target_names b) ≡ Some p → TargetNamed tables b target
target_named tables b target p h e = by (place_of target (load_names b)) refl where
  line : (slice_get (flat_map (λ (l : Numbered PlanLine). target_given l.form) b.plan.lines) p ≡ Some target)
  line = ap (λ (ns : List (List ℕ)). slice_get ns p) (sym (names_flat target_given b.plan.lines)) ∙ place_there target (target_names b) p e

  shadow : place_of target (load_names b) ≡ None → (s : ℕ) × (place_of target (shadow_names b) ≡ Some s)
  shadow none =
      let c = comes (λ (l : Numbered PlanLine). target_given l.form) b.plan.lines p target line in
      elim (load_or_shadow c.item.form c.inner target c.there) [
        | inl a ↦ let r = among b load_given c.place c.inner c.item target c.here a in let bad : None ≡ Some r.0 = sym none ∙ r.1 in absurd cc
        | inr a ↦ among b shadow_given c.place c.inner c.item target c.here a
      ]

  by : (o : Option ℕ) → place_of target (load_names b) ≡ o → TargetNamed tables b target
  by (Some k) is = as_load tables b target k h is
  by None is = let s = shadow is in as_shadow tables b target s.0 h is s.1
