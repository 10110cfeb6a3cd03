-- Loads, shadows and binds, line by line.
use Rattle.std.proofs.Common.{◌≡◌, ℕ, ◌+◌, ◌<◌, ◌≤◌, ◌^◌, Bool, true, false, ◌&&◌, cond, List, [], ◌∷◌, ◌++◌, length, drop, Option, Some, None, refl, sym, ap, subst, ◌∙◌, arith}
use Rattle.std.specs.Prelude.{slice_get, is_some, IsTrue}
use Rattle.std.specs.List.{flat_map}
use Rattle.std.proofs.lemmas.List.{drop_all}
use Rattle.rl_defs.specs.Words.{is_name, same_bytes}
use Rattle.rl_defs.specs.declared.bundle.Numbered.{Numbered}
use Rattle.rl_defs.specs.declared.bundle.PlanLine.{PlanLine}
use Rattle.rl_defs.specs.declared.bundle.PlanLine.TheVariants as plan
use Rattle.rl_defs.specs.LoadOf.{bound_in}
use Rattle.rl_defs.proofs.Places.{drop_at}
use Rattle.name_tables.proofs.Placing.{same_name}
use Rattle.plan_checker.specs.Facts.{AreNames}
use Rattle.plan_checker.specs.Lookups.{PlanLines, binding, bound_at}
use Rattle.plan_checker.specs.Tables.{ArePairs, noted_pair}
use Rattle.plan_checker.proofs.Forms.{no_bind}
use Rattle.plan_checker.proofs.Placing as placing
use Rattle.plan_checker.proofs.Steps.{gives, NamesTo, names_first, names_more, names_none, names_all}

-- What is kept of pairs as lines are read.
pub record PairsTo (give beside : PlanLine → List (List ℕ)) (lines : PlanLines) (at : ℕ) (names others : List (List ℕ)) : Type 0 where
  pub names_are : NamesTo give lines at names
  pub others_are : NamesTo beside lines at others
  pub named : AreNames names

pub pairs_first : (give beside : PlanLine → List (List ℕ)) (lines : PlanLines) (names others : List (List ℕ)) → names ≡ [] → others ≡ [] → PairsTo give beside lines 0 names others
pairs_first give beside lines names others n o = record { names_are = names_first give lines names n; others_are = names_first beside lines others o; named = placing.names_none names n }

pub pairs_more : (give beside : PlanLine → List (List ℕ)) (lines : PlanLines) (at : ℕ) (l : Numbered PlanLine) (name other : List ℕ) (n1 o1 n2 o2 : List (List ℕ)) → PairsTo give beside lines at n1 o1 → slice_get lines at ≡ Some l → give l.form ≡ name ∷ [] → beside l.form ≡ other ∷ [] → n2 ≡ n1 ++ name ∷ [] → o2 ≡ o1 ++ other ∷ [] → IsTrue (is_name name) → PairsTo give beside lines (at + 1) n2 o2
pairs_more give beside lines at l name other n1 o1 n2 o2 h here g b n o is = record {
  names_are = names_more give lines at l name n1 n2 h.names_are here g n;
  others_are = names_more beside lines at l other o1 o2 h.others_are here b o;
  named = placing.names_more n1 n2 name h.named is n;
}

pub pairs_none : (give beside : PlanLine → List (List ℕ)) (lines : PlanLines) (at : ℕ) (l : Numbered PlanLine) (names others : List (List ℕ)) → PairsTo give beside lines at names others → slice_get lines at ≡ Some l → give l.form ≡ [] → beside l.form ≡ [] → PairsTo give beside lines (at + 1) names others
pairs_none give beside lines at l names others h here g b = record { names_are = names_none give lines at l names h.names_are here g; others_are = names_none beside lines at l others h.others_are here b; named = h.named }

pub pairs_all : (give beside : PlanLine → List (List ℕ)) (lines : PlanLines) (at : ℕ) (names others : List (List ℕ)) → PairsTo give beside lines at names others → length lines ≤ at → at ≤ length lines → length lines < 2 ^ 31 → ArePairs names others (gives give lines) (gives beside lines)
pairs_all give beside lines at names others h le ge few = record { names_are = names_all give lines at names h.names_are le; others_are = names_all beside lines at others h.others_are le; named = h.named; few = omega (arith, h.names_are.few) }

again : (target : List ℕ) (b : Bool) (o known : Option (List ℕ)) → (b ≡ true → o ≡ known) → is_some known ≡ true → o ≡ cond (is_some o) o (cond b (Some target) None)
again target b (Some x) known same some = refl
again target false None known same some = refl
again target true None (Some x) same some = let e : None ≡ Some x = same refl in absurd cc
again target true None None same some = absurd cc

fresh : (target : List ℕ) (b : Bool) (o known : Option (List ℕ)) → (b ≡ true → o ≡ known) → is_some known ≡ false → cond b (Some target) o ≡ cond (is_some o) o (cond b (Some target) None)
fresh target true None known same none = refl
fresh target true (Some x) (Some y) same none = absurd cc
fresh target true (Some x) None same none = let e : Some x ≡ None = same refl in absurd cc
fresh target false None known same none = refl
fresh target false (Some x) known same none = refl

both : (a b : Bool) → (a && b) ≡ true → (a ≡ true) × (b ≡ true)
both true true e = (refl, refl)
both true false e = absurd cc
both false b e = absurd cc

same_look : (look : List ℕ → List ℕ → Option (List ℕ)) (load import q r : List ℕ) → (same_bytes load q && same_bytes import r) ≡ true → look q r ≡ look load import
same_look look load import q r e =
    let parts = both (same_bytes load q) (same_bytes import r) e in
    ap (λ (x : List ℕ). look x r) (sym (same_name load q parts.0)) ∙ ap (look load) (sym (same_name import r parts.1))

-- a pair that is there stays
pub bind_again : (look : List ℕ → List ℕ → Option (List ℕ)) (load import target : List ℕ) → is_some (look load import) ≡ true → (q r : List ℕ) → look q r ≡ noted_pair (look q r) load import target q r
bind_again look load import target there q r = again target (same_bytes load q && same_bytes import r) (look q r) (look load import) (same_look look load import q r) there

-- a new pair
pub bind_new : (old new : List ℕ → List ℕ → Option (List ℕ)) (load import target : List ℕ) → is_some (old load import) ≡ false → (q r : List ℕ) → new q r ≡ cond (same_bytes load q && same_bytes import r) (Some target) (old q r) → new q r ≡ noted_pair (old q r) load import target q r
bind_new old new load import target none q r is = is ∙ fresh target (same_bytes load q && same_bytes import r) (old q r) (old load import) (same_look old load import q r) none

abbrev pub first_of : Option (List ℕ) → Option (List ℕ) → Option (List ℕ)
first_of (Some x) other = Some x
first_of None other = other

-- What is kept of binds as lines are read.
pub record BindsTo (look : List ℕ → List ℕ → Option (List ℕ)) (lines : PlanLines) (at : ℕ) : Type 0 where
  pub bound : (q r : List ℕ) → first_of (look q r) (bound_at (drop at lines) q r) ≡ bound_at lines q r
  pub loads : List (List ℕ)
  pub loads_are : NamesTo binding lines at loads
  pub named : AreNames loads

pub binds_first : (look : List ℕ → List ℕ → Option (List ℕ)) (lines : PlanLines) → ((q r : List ℕ) → look q r ≡ None) → BindsTo look lines 0
binds_first look lines none = record { bound = λ q r. ap (λ (o : Option (List ℕ)). first_of o (bound_at lines q r)) (none q r); loads = []; loads_are = names_first binding lines [] refl; named = placing.names_none [] refl }

bound_step : (b : Bool) (target : List ℕ) (rest : List (List ℕ)) (o : Option (List ℕ)) → first_of (cond (is_some o) o (cond b (Some target) None)) (slice_get rest 0) ≡ first_of o (slice_get (cond b (target ∷ []) [] ++ rest) 0)
bound_step b target rest (Some x) = refl
bound_step true target rest None = refl
bound_step false target rest None = refl

pub binds_more : (old new : List ℕ → List ℕ → Option (List ℕ)) (lines : PlanLines) (at : ℕ) (l : Numbered PlanLine) (load import target : List ℕ) → BindsTo old lines at → slice_get lines at ≡ Some l → l.form ≡ plan.Bind load import target → ((q r : List ℕ) → new q r ≡ noted_pair (old q r) load import target q r) → IsTrue (is_name load) → BindsTo new lines (at + 1)
binds_more old new lines at l load import target h here is step name = record {
  bound = λ q r.
      let rest = flat_map (λ (x : Numbered PlanLine). bound_in q r x.form) (drop (at + 1) lines) in
      let whole : bound_at (drop at lines) q r ≡ slice_get (cond (same_bytes load q && same_bytes import r) (target ∷ []) [] ++ rest) 0 = ap (λ (ls : PlanLines). bound_at ls q r) (drop_at lines at l here) ∙ ap (λ (f : PlanLine). slice_get (bound_in q r f ++ rest) 0) is in
      ap (λ (o : Option (List ℕ)). first_of o (slice_get rest 0)) (step q r) ∙ bound_step (same_bytes load q && same_bytes import r) target rest (old q r) ∙ ap (first_of (old q r)) (sym whole) ∙ h.bound q r;
  loads = h.loads ++ load ∷ [];
  loads_are = names_more binding lines at l load h.loads (h.loads ++ load ∷ []) h.loads_are here (ap binding is) refl;
  named = placing.names_more h.loads (h.loads ++ load ∷ []) load h.named name refl;
}

pub binds_none : (look : List ℕ → List ℕ → Option (List ℕ)) (lines : PlanLines) (at : ℕ) (l : Numbered PlanLine) → BindsTo look lines at → slice_get lines at ≡ Some l → ((load import target : List ℕ) → l.form ≡ plan.Bind load import target → ⊥) → BindsTo look lines (at + 1)
binds_none look lines at l h here not = record {
  bound = λ q r.
      let rest = flat_map (λ (x : Numbered PlanLine). bound_in q r x.form) (drop (at + 1) lines) in
      let whole : bound_at (drop at lines) q r ≡ slice_get rest 0 = ap (λ (ls : PlanLines). bound_at ls q r) (drop_at lines at l here) ∙ ap (λ (ts : List (List ℕ)). slice_get (ts ++ rest) 0) ((no_bind l.form not).bound q r) in
      ap (first_of (look q r)) (sym whole) ∙ h.bound q r;
  loads = h.loads;
  loads_are = names_none binding lines at l h.loads h.loads_are here (no_bind l.form not).load;
  named = h.named;
}

first_none : (o : Option (List ℕ)) → o ≡ first_of o None
first_none None = refl
first_none (Some x) = refl

pub binds_bound : (look : List ℕ → List ℕ → Option (List ℕ)) (lines : PlanLines) (at : ℕ) → BindsTo look lines at → length lines ≤ at → (q r : List ℕ) → look q r ≡ bound_at lines q r
binds_bound look lines at h le q r = first_none (look q r) ∙ ap (first_of (look q r)) (sym (ap (λ (ls : PlanLines). bound_at ls q r) (drop_all at lines le))) ∙ h.bound q r

pub binds_named : (look : List ℕ → List ℕ → Option (List ℕ)) (lines : PlanLines) (at : ℕ) → BindsTo look lines at → length lines ≤ at → AreNames (gives binding lines)
binds_named look lines at h le = subst AreNames (names_all binding lines at h.loads h.loads_are le) h.named
