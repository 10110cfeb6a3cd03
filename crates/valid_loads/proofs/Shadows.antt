-- A load has at most one shadow, a native one has none, and a shadow loads it again at most 16 times.
use Rattle.std.proofs.Common.{◌≡◌, ℕ, suc, ◌<◌, ◌≤◌, inl, inr, false, List, Some, refl, sym, ap, ◌∙◌, arith}
use Rattle.std.specs.Prelude.{slice_get}
use Rattle.std.proofs.lemmas.Bool.{cases_lt, cases_order}
use Rattle.rl_defs.specs.declared.bundle.Bundle.{Bundle}
use Rattle.rl_defs.specs.declared.tables.Tables.{Tables}
use Rattle.rl_defs.specs.declared.load.ShadowRow.{ShadowRow}
use Rattle.rl_defs.specs.Interfaces.{place_of}
use Rattle.rl_defs.specs.Domains.{is_native}
use Rattle.rl_defs.specs.DomainValue.{Domain}
use Rattle.rl_defs.specs.BundleNames.{load_names, given_by, shadowed}
use Rattle.rl_defs.specs.NameRules.{load_used}
use Rattle.rl_defs.specs.LoadOf.{load_of, load_number}
use Rattle.rl_defs.specs.Rows.{domain_of_load}
use Rattle.rl_defs.proofs.Lists.{not_true, same_item}
use Rattle.valid_loads.proofs.Names.{declared_by, place_there, given_apart}
use Rattle.valid_loads.proofs.Rules.{Kept, declared}
use Rattle.valid_loads.proofs.Rows.{shadow_load_at, ShadowText, shadow_texts, shadow_at, shadow_line}
use Rattle.valid_loads.proofs.Domains.{load_named}
use Rattle.valid_loads.proofs.Targets.{number_there}

pub shadow_place : (tables : Tables) (b : Bundle) → Kept tables b → (k : ℕ) (t : ShadowText) → slice_get (shadow_texts b) k ≡ Some t → (p : ℕ) × (place_of t.load (load_names b) ≡ Some p)
shadow_place tables b h k t e =
    let line = shadow_line b k t e in
    declared_by b.plan.lines load_used (load_names b) (λ n u. declared tables b h n (inr (inr (inr (inr (inl u)))))) line.place _ line.here 0 t.load refl

-- loads of one number have one name
same_load : (tables : Tables) (b : Bundle) → Kept tables b → (j k : ℕ) (t u : ShadowText) → slice_get (shadow_texts b) j ≡ Some t → slice_get (shadow_texts b) k ≡ Some u → load_number b t.load ≡ load_number b u.load → t.load ≡ u.load
same_load tables b h j k t u e d same =
    let p = shadow_place tables b h j t e in
    let q = shadow_place tables b h k u d in
    let one : suc p.0 ≡ suc q.0 = sym (number_there b t.load p.0 p.1) ∙ same ∙ number_there b u.load q.0 q.1 in
    same_item (load_names b) p.0 q.0 t.load u.load (omega (arith, one)) (place_there t.load (load_names b) p.0 p.1) (place_there u.load (load_names b) q.0 q.1)

clash : (tables : Tables) (b : Bundle) → Kept tables b → (j k : ℕ) (t u : ShadowText) → j < k → slice_get (shadow_texts b) j ≡ Some t → slice_get (shadow_texts b) k ≡ Some u → t.load ≡ u.load → ⊥
clash tables b h j k t u lt e d same =
    let apart = given_apart (given_by shadowed b.plan.lines) (λ n g. h.plan n 43 (inr (inr (inr (inl (refl, inr g)))))) in
    let is = apart j k u.load (shadow_load_at b j t e ∙ ap (λ (q : List ℕ). Some q) same) (shadow_load_at b k u d) in
    omega (arith, lt, is)

pub one : (tables : Tables) (b : Bundle) → Kept tables b → (j k : ℕ) (x y : ShadowRow) → slice_get (load_of tables b).shadows j ≡ Some x → slice_get (load_of tables b).shadows k ≡ Some y → x.load ≡ y.load → j ≡ k
one tables b h j k x y e d same =
    let t = shadow_at b j x e in
    let u = shadow_at b k y d in
    let numbers : load_number b t.0.load ≡ load_number b u.0.load = ap (λ (r : ShadowRow). r.load) t.2 ∙ same ∙ sym (ap (λ (r : ShadowRow). r.load) u.2) in
    let names = same_load tables b h j k t.0 u.0 t.1 u.1 numbers in
    elim (cases_order j k) [
      | inl is ↦ is
      | inr (inl less) ↦ absurd (clash tables b h j k t.0 u.0 less t.1 u.1 names)
      | inr (inr more) ↦ absurd (clash tables b h k j u.0 t.0 more u.1 t.1 (sym names))
    ]

pub code : (tables : Tables) (b : Bundle) → Kept tables b → (k : ℕ) (x : ShadowRow) → slice_get (load_of tables b).shadows k ≡ Some x → is_native (domain_of_load (load_of tables b) x.load).lines ≡ false
code tables b h k x e =
    let t = shadow_at b k x e in
    let line = shadow_line b k t.0 t.1 in
    let p = shadow_place tables b h k t.0 t.1 in
    let load = load_named tables b t.0.load p.0 h p.1 in
    let number : x.load ≡ suc load.place = sym (ap (λ (r : ShadowRow). r.load) t.2) ∙ number_there b t.0.load load.place load.named in
    let lines = ap (λ (n : ℕ). (domain_of_load (load_of tables b) n).lines) number ∙ ap (λ (d : Domain). d.lines) load.of.domain in
    not_true (is_native (domain_of_load (load_of tables b) x.load).lines) (λ native. h.plan line.number 43 (inr (inr (inr (inl (
      refl,
      inl (record {
        name = t.0.name;
        load = t.0.load;
        restarts = t.0.restarts;
        line = record { place = line.place; here = line.here };
        lines = load.of.text.lines;
        text = load.is;
        native = ap is_native (sym lines) ∙ native;
      }),
    ))))))

pub few : (tables : Tables) (b : Bundle) → Kept tables b → (k : ℕ) (x : ShadowRow) → slice_get (load_of tables b).shadows k ≡ Some x → x.restarts ≤ 16
few tables b h k x e =
    let t = shadow_at b k x e in
    let line = shadow_line b k t.0 t.1 in
    let restarts : t.0.restarts ≡ x.restarts = ap (λ (r : ShadowRow). r.restarts) t.2 in
    elim (cases_lt 16 t.0.restarts) [
      | inl many ↦ absurd (h.plan line.number 44 (inr (inr (inr (inr (inl (refl, record { name = t.0.name; load = t.0.load; restarts = t.0.restarts; line = record { place = line.place; here = line.here }; many = many })))))))
      | inr within ↦ omega (arith, within, restarts)
    ]
