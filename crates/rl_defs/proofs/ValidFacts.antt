-- What holds of a valid load, by the numbers of its rows.
use Rattle.std.proofs.Common.{◌≡◌, ℕ, zero, suc, ◌+◌, ◌-◌, ◌<◌, ◌≤◌, true, false, Bool, cond, List, [], ◌∷◌, length, map, Option, Some, None, refl, sym, ap, subst, ◌∙◌, arith, leb-true}
use Rattle.std.specs.Prelude.{slice_get, nat_le, nat_eq, unwrap_or}
use Rattle.std.specs.List.{flat_map, position_or_len, Contains}
use Rattle.std.specs.Cmp.Lexicographic.{pointwise}
use Rattle.std.proofs.lemmas.List.{length-map}
use Rattle.std.specs.Option.{option_map}
use Rattle.rl_defs.specs.declared.bundle.Numbered.{Numbered}
use Rattle.rl_defs.specs.declared.code.DomainLine.{DomainLine}
use Rattle.rl_defs.specs.declared.code.DomainLine.TheVariants as line
use Rattle.rl_defs.specs.declared.code.RegKind.TheVariants as held
use Rattle.rl_defs.specs.declared.tables.Kind.{Kind}
use Rattle.rl_defs.specs.declared.tables.Kind.TheVariants as kind
use Rattle.rl_defs.specs.declared.tables.StructRow.{StructRow}
use Rattle.rl_defs.specs.declared.tables.MethodRow.{MethodRow}
use Rattle.rl_defs.specs.declared.tables.TraitRow.{TraitRow}
use Rattle.rl_defs.specs.declared.tables.Tables.{Tables}
use Rattle.rl_defs.specs.declared.load.LoadRows.{LoadRows}
use Rattle.rl_defs.specs.declared.load.LoadRow.{LoadRow}
use Rattle.rl_defs.specs.declared.load.ShadowRow.{ShadowRow}
use Rattle.rl_defs.specs.declared.load.ClientRow.{ClientRow}
use Rattle.rl_defs.specs.declared.load.Command.{Command}
use Rattle.rl_defs.specs.DomainValue.{Domain}
use Rattle.rl_defs.specs.Words.{same_bytes}
use Rattle.rl_defs.specs.Interfaces.{place_of}
use Rattle.rl_defs.specs.Domains.{Lines, row, load_row, load_of_target, load_of_row, load_of_shadow, shadow_row, slots_of, words_of, method_of, method_in, trait_named, trait_name, trait_of_form, lines_of_load, lines_of_row, domain_lines}
use Rattle.rl_defs.specs.DomainParts.{IsOneDomain, begins_domain}
use Rattle.rl_defs.specs.CodeNames.{Declared, imports, type_at, type_of, cells_of, flat_of, methods_of, rows_of, method_number, trait_number, domain_trait, traits_used}
use Rattle.rl_defs.specs.CodeKinds.{hung_at, hung_in}
use Rattle.rl_defs.specs.TableSizes.{IsMethodSmall, IsTraitSmall}
use Rattle.rl_defs.specs.Rows.{is_target, trait_if, trait_of_target, domain_of_load, domain_in, domain_or_none, binds, binds_in, commands_of, bound_by}
use Rattle.rl_defs.specs.ValidScripts.{CommandFits, IsValidScript}
use Rattle.rl_defs.specs.Valid.{IsOwnable, IsValidStruct, IsValidMethod, IsValidTrait, AreValidTables, IsValidDomain, IsValidBind, IsValidShadow, Valid}
use Rattle.rl_defs.proofs.Lists.{and_right, in_list, list_at, get_map, all_at, contains_at, at_contained, of_pairs, zip_length, zip_at}
use Rattle.rl_defs.proofs.NamePlaces.{place_there, there_place, Apart, apart_place}
use Rattle.rl_defs.proofs.Spots.{spot, stands_at, one_spot}

-- ---- targets

-- the load of each shadow is one of the loads
abbrev pub Shadowed : LoadRows → Type 0
Shadowed L = (k : ℕ) (x : ShadowRow) → slice_get L.shadows k ≡ Some x → (0 < x.load) × (x.load ≤ length L.loads)

shadow_within : (L : LoadRows) (k : ℕ) → Shadowed L → load_of_shadow (row L.shadows k) ≤ length L.loads
shadow_within L zero s = omega arith
shadow_within L (suc k) s = by (slice_get L.shadows k) refl where
  by : (o : Option ShadowRow) → slice_get L.shadows k ≡ o → load_of_shadow o ≤ length L.loads
  by None e = omega arith
  by (Some x) e = (s k x e).1

pub target_within : (L : LoadRows) → Shadowed L → (x : ℕ) → load_of_target L x ≤ length L.loads
target_within L s zero = shadow_within L (0 - length L.loads) s
target_within L s (suc k) = by (slice_get L.loads k) refl where
  by : (o : Option LoadRow) → slice_get L.loads k ≡ o → load_of_row L (suc k) o ≤ length L.loads
  by (Some l) e = omega (arith, in_list L.loads k l e)
  by None e = shadow_within L (suc k - length L.loads) s

-- no item stands there
past : {A : Type 0} (xs : List A) (k : ℕ) → slice_get xs k ≡ None → length xs ≤ k
past [] k e = omega arith
past (x ∷ xs) zero e = absurd cc
past (x ∷ xs) (suc k) e = omega (arith, past xs k e)

pub target_there : (L : LoadRows) → Shadowed L → (x : ℕ) → is_target L x ≡ true → 0 < load_of_target L x
target_there L s zero t = absurd cc
target_there L s (suc k) t = by (slice_get L.loads k) refl where
  by : (o : Option LoadRow) → slice_get L.loads k ≡ o → 0 < load_of_row L (suc k) o
  by (Some l) e = omega arith
  by None e =
      let le = leb-true (suc k) (length L.loads + length L.shadows) (and_right (nat_le 1 (suc k)) (nat_le (suc k) (length L.loads + length L.shadows)) t) in
      let behind = past L.loads k e in
      let x = list_at L.shadows (k - length L.loads) (omega (arith, le, behind)) in
      let place : suc k - length L.loads ≡ suc (k - length L.loads) = omega (arith, behind) in
      let here : shadow_row L (suc k) ≡ Some x.0 = ap (row L.shadows) place ∙ x.1 in
      subst (λ (o : Option ShadowRow). 0 < load_of_shadow o) (sym here) (s (k - length L.loads) x.0 x.1).0

pub shadow_loads : (L : LoadRows) → Valid L → Shadowed L
shadow_loads L v k x e = (all_at (IsValidShadow L) L.shadows k x v.shadows e).load

pub one_shadow : (L : LoadRows) → Valid L → (j k : ℕ) (x y : ShadowRow) → slice_get L.shadows j ≡ Some x → slice_get L.shadows k ≡ Some y → x.load ≡ y.load → j ≡ k
one_shadow L v j k x y e d same =
    of_pairs (map (λ (s : ShadowRow). s.load) L.shadows) v.one_shadow j k x.load
    (get_map (λ (s : ShadowRow). s.load) L.shadows j x e)
    (get_map (λ (s : ShadowRow). s.load) L.shadows k y d ∙ ap (λ (n : ℕ). Some n) (sym same))

-- ---- domains

-- a load's domain is one of the domains
pub record DomainAt (L : LoadRows) (k : ℕ) (l : LoadRow) : Type 0 where
  pub here : slice_get L.domains l.domain ≡ Some (domain_of_load L k)
  pub is : IsValidDomain L.tables (domain_of_load L k)

pub domain_at : (L : LoadRows) → Valid L → (k : ℕ) (l : LoadRow) → load_row L k ≡ Some l → DomainAt L k l
domain_at L v k l e =
    let d = list_at L.domains l.domain (v.loads k l e).domain in
    let same : domain_of_load L k ≡ d.0 = ap (domain_in L) e ∙ ap (domain_or_none L) d.1 in
    record {
      here = d.1 ∙ ap (λ (x : Domain). Some x) (sym same);
      is = subst (IsValidDomain L.tables) (sym same) (all_at (IsValidDomain L.tables) L.domains l.domain d.0 v.domains d.1);
    }

-- what holds of each valid domain, and of no lines at all, holds of the domain of each number
pub each_domain : (L : LoadRows) → Valid L → (P : Domain → Type 0) → P (record { lines = []; tables = L.tables }) → ((d : Domain) → IsValidDomain L.tables d → P d) → (k : ℕ) → P (domain_of_load L k)
each_domain L v P none each k = by (load_row L k) refl where
  by : (o : Option LoadRow) → load_row L k ≡ o → P (domain_of_load L k)
  by None e = subst P (sym (ap (domain_in L) e)) none
  by (Some l) e = each (domain_of_load L k) (domain_at L v k l e).is

pub domain_tables : (L : LoadRows) → Valid L → (k : ℕ) → (domain_of_load L k).tables ≡ L.tables
domain_tables L v k = each_domain L v (λ d. d.tables ≡ L.tables) refl (λ d is. is.checked_with) k

pub few_words : (L : LoadRows) → Valid L → (k : ℕ) → words_of (domain_of_load L k).lines ≤ 4096
few_words L v k = each_domain L v (λ d. words_of d.lines ≤ 4096) (omega arith) (λ d is. is.words) k

pub slots_apart : (L : LoadRows) → Valid L → (k i j : ℕ) (name : List ℕ) → slice_get (slots_of (domain_of_load L k).lines) i ≡ Some name → slice_get (slots_of (domain_of_load L k).lines) j ≡ Some name → i ≡ j
slots_apart L v k = each_domain L v (λ d. Apart (slots_of d.lines)) (λ i j name e d. absurd cc) (λ d is. of_pairs (slots_of d.lines) is.slot_names) k

-- a load's lines are those of its domain
lines_or_none : (L : LoadRows) (o : Option Domain) → domain_lines o ≡ (domain_or_none L o).lines
lines_or_none L None = refl
lines_or_none L (Some d) = refl

lines_in_row : (L : LoadRows) (o : Option LoadRow) → lines_of_row L o ≡ (domain_in L o).lines
lines_in_row L None = refl
lines_in_row L (Some l) = lines_or_none L (slice_get L.domains l.domain)

pub same_lines : (L : LoadRows) (k : ℕ) → lines_of_load L k ≡ (domain_of_load L k).lines
same_lines L k = lines_in_row L (load_row L k)

-- ---- what is bound

pub binds_count : (L : LoadRows) → Valid L → (k : ℕ) → length (binds L k) ≡ length (imports (domain_of_load L k).lines)
binds_count L v k = by (load_row L k) refl where
  by : (o : Option LoadRow) → load_row L k ≡ o → length (binds L k) ≡ length (imports (domain_of_load L k).lines)
  by None e = rw e refl
  by (Some l) e = ap (λ (o : Option LoadRow). length (binds_in o)) e ∙ zip_length (IsValidBind L k) (imports (domain_of_load L k).lines) l.binds (v.loads k l e).binds

pub bind_at : (L : LoadRows) → Valid L → (k j x : ℕ) → slice_get (binds L k) j ≡ Some x → (i : Declared) × (slice_get (imports (domain_of_load L k).lines) j ≡ Some i) × IsValidBind L k i x
bind_at L v k j x e = by (load_row L k) refl where
  by : (o : Option LoadRow) → load_row L k ≡ o → (i : Declared) × (slice_get (imports (domain_of_load L k).lines) j ≡ Some i) × IsValidBind L k i x
  by None none = let bad : None ≡ Some x = sym (ap (λ (o : Option LoadRow). slice_get (binds_in o) j) none) ∙ e in absurd cc
  by (Some l) some = zip_at (IsValidBind L k) (imports (domain_of_load L k).lines) l.binds j x (v.loads k l some).binds (sym (ap (λ (o : Option LoadRow). slice_get (binds_in o) j) some) ∙ e)

pub bind_trait : (L : LoadRows) → Valid L → (k j x : ℕ) → slice_get (binds L k) j ≡ Some x → trait_of_target L x ≡ trait_number L.tables (type_at (imports (domain_of_load L k).lines) (Some j))
bind_trait L v k j x e = let r = bind_at L v k j x e in r.2.trait ∙ ap (λ (o : Option Declared). trait_number L.tables (type_of o)) (sym r.1)

-- ---- tables

pub cell_at : (tables : Tables) → AreValidTables tables → (s p : ℕ) (k : Kind) → slice_get (cells_of tables s) p ≡ Some k → (struct : StructRow) × (cells_of tables s ≡ struct.flat) × IsValidStruct tables struct
cell_at tables v s p k e = by (slice_get tables.structs s) refl where
  by : (o : Option StructRow) → slice_get tables.structs s ≡ o → (struct : StructRow) × (cells_of tables s ≡ struct.flat) × IsValidStruct tables struct
  by None none = let bad : None ≡ Some k = sym (ap (λ (o : Option StructRow). slice_get (flat_of o) p) none) ∙ e in absurd cc
  by (Some r) some = (r, ap flat_of some, all_at (IsValidStruct tables) tables.structs s r v.structs some)

-- what lies in a cell of an object in a cell is no object
pub one_deep : (tables : Tables) → AreValidTables tables → (s p h q g : ℕ) → slice_get (cells_of tables s) p ≡ Some (kind.Own h) → slice_get (cells_of tables h) q ≡ Some (kind.Own g) → ⊥
one_deep tables v s p h q g e d =
    let r = cell_at tables v s p (kind.Own h) e in
    r.2.one_deep h g (contains_at r.0.flat p (kind.Own h) (ap (λ (cs : List Kind). slice_get cs p) (sym r.1) ∙ e)) (contains_at (cells_of tables h) q (kind.Own g) d)

hung_cell : (cell : Option Kind) (s : ℕ) → hung_in cell ≡ Some s → cell ≡ Some (kind.Own s)
hung_cell (Some (kind.Own t)) s e = let same : t ≡ s = cc in ap (λ x. Some (kind.Own x)) same
hung_cell cell s e = absurd (cc)

-- no object hangs in one of its own struct
pub hangs_in_none : (tables : Tables) → AreValidTables tables → (s p : ℕ) → hung_at tables (held.Own s) p ≡ Some s → ⊥
hangs_in_none tables v s p e =
    let cell = hung_cell (slice_get (cells_of tables s) p) s e in
    one_deep tables v s p s p s cell cell

pub method_at : (tables : Tables) → AreValidTables tables → (t m : ℕ) (r : MethodRow) → slice_get (methods_of tables t) m ≡ Some r → IsValidMethod tables r
method_at tables v t m r e = by (slice_get tables.traits t) refl where
  by : (o : Option TraitRow) → slice_get tables.traits t ≡ o → IsValidMethod tables r
  by None none = let bad : None ≡ Some r = sym (ap (λ (o : Option TraitRow). slice_get (rows_of o) m) none) ∙ e in absurd cc
  by (Some x) some = all_at (IsValidMethod tables) x.methods m r (all_at (IsValidTrait tables) tables.traits t x v.traits some).methods (sym (ap (λ (o : Option TraitRow). slice_get (rows_of o) m) some) ∙ e)

-- a method's number is the one of its name
pub method_numbered : (tables : Tables) → AreValidTables tables → (t m : ℕ) (r : MethodRow) → slice_get (methods_of tables t) m ≡ Some r → method_number tables t r.name ≡ Some m
method_numbered tables v t m r e = by (slice_get tables.traits t) refl where
  by : (o : Option TraitRow) → slice_get tables.traits t ≡ o → method_number tables t r.name ≡ Some m
  by None none = let bad : None ≡ Some r = sym (ap (λ (o : Option TraitRow). slice_get (rows_of o) m) none) ∙ e in absurd cc
  by (Some x) some =
      let names = map (λ (y : MethodRow). y.name) (methods_of tables t) in
      let rows : methods_of tables t ≡ x.methods = ap rows_of some in
      let apart = subst (λ (ms : List MethodRow). Apart (map (λ (y : MethodRow). y.name) ms)) (sym rows) (of_pairs (map (λ (y : MethodRow). y.name) x.methods) (all_at (IsValidTrait tables) tables.traits t x v.traits some).names) in
      apart_place names m r.name apart (get_map (λ (y : MethodRow). y.name) (methods_of tables t) m r e)

-- no object is moved where it may be issued again, and none is lent to a caller
pub moves_none : (tables : Tables) (r : MethodRow) → IsValidMethod tables r → r.idempotent ≡ true → (p s : ℕ) → slice_get r.params p ≡ Some (kind.Own s) → ⊥
moves_none tables r v again p s e = v.repeats again s (contains_at r.params p (kind.Own s) e)

pub lends_none : (tables : Tables) (r : MethodRow) → IsValidMethod tables r → (p s : ℕ) → slice_get r.results p ≡ Some (kind.Lent s) → ⊥
lends_none tables r v p s e = all_at (IsOwnable tables) r.results p (kind.Lent s) v.results e

-- ---- the methods of a target

head_trait : (lines : Lines) → IsOneDomain lines → (n : ℕ) × (name : List ℕ) × (slice_get lines 0 ≡ Some (record { line = n; form = line.Domain name (trait_name lines) }))
head_trait [] one = absurd one
head_trait (l ∷ ls) one = by l.form refl one.0 where
  by : (f : DomainLine) → l.form ≡ f → begins_domain f ≡ true → (n : ℕ) × (name : List ℕ) × (Some l ≡ Some (record { line = n; form = line.Domain name (trait_of_form l.form (trait_name ls)) }))
  by (line.Domain name has) is begins = (l.line, name, ap (λ (f : DomainLine). Some (record { line = l.line; form = f })) (is ∙ ap (line.Domain name) (ap (λ (g : DomainLine). trait_of_form g (trait_name ls)) (sym is))))
  by f is begins = absurd cc

-- a row that is found by its name stands at the name's place
found : (name : List ℕ) (rows : List TraitRow) (p : ℕ) → place_of name (map (λ (t : TraitRow). t.name) rows) ≡ Some p → position_or_len (λ (t : TraitRow). same_bytes t.name name) rows ≡ p
found name [] p e = absurd cc
found name (r ∷ rows) p e = by (pointwise nat_eq r.name name) refl p (place_of name (map (λ (t : TraitRow). t.name) rows)) refl e (λ q d. found name rows q d) where
  by : (b : Bool) → pointwise nat_eq r.name name ≡ b → (p : ℕ) → (o : Option ℕ) → place_of name (map (λ (t : TraitRow). t.name) rows) ≡ o → cond b (Some 0) (option_map (λ (i : ℕ). suc i) o) ≡ Some p → ((q : ℕ) → place_of name (map (λ (t : TraitRow). t.name) rows) ≡ Some q → position_or_len (λ (t : TraitRow). same_bytes t.name name) rows ≡ q) → position_or_len (λ (t : TraitRow). same_bytes t.name name) (r ∷ rows) ≡ p
  by true is p o at e more = let same : 0 ≡ p = cc in rw is same
  by false is p None at e more = absurd cc
  by false is p (Some q) at e more = let same : suc q ≡ p = cc in let rest = more q at in rw is (omega (arith, rest, same))

-- the trait of a valid domain: its number is that of its name, and finds the rows that the name finds
pub record TraitAt (tables : Tables) (d : Domain) : Type 0 where
  pub is : domain_trait d ≡ trait_number tables (trait_name d.lines)
  pub within : domain_trait d < length tables.traits
  pub found : trait_named tables (trait_name d.lines) ≡ slice_get tables.traits (domain_trait d)

pub trait_at : (tables : Tables) (d : Domain) → IsValidDomain tables d → TraitAt tables d
trait_at tables d v =
    let names = map (λ (t : TraitRow). t.name) tables.traits in
    let head = head_trait d.lines v.keeps.ordered in
    let l : Numbered DomainLine = record { line = head.0; form = line.Domain head.1 (trait_name d.lines) } in
    let known = all_at (Contains names) (traits_used l.form) 0 (trait_name d.lines) (v.traits l (contains_at d.lines 0 l head.2)) refl in
    let at = at_contained names (trait_name d.lines) known in
    let p = there_place (trait_name d.lines) names at.0 at.1 in
    let number : trait_number tables (trait_name d.lines) ≡ p.0 = ap (λ (o : Option ℕ). unwrap_or o 0) p.1 in
    let is : domain_trait d ≡ trait_number tables (trait_name d.lines) = ap (λ (t : Tables). trait_number t (trait_name d.lines)) v.checked_with in
    let few = in_list names p.0 (trait_name d.lines) (place_there (trait_name d.lines) names p.0 p.1) in
    record {
      is = is;
      within = omega (arith, is, number, few, length-map tables.traits (λ (t : TraitRow). t.name));
      found = ap (slice_get tables.traits) (found (trait_name d.lines) tables.traits p.0 p.1 ∙ sym (is ∙ number));
    }

-- a target's domain is one of the domains
pub target_domain : (L : LoadRows) → Valid L → (x : ℕ) → is_target L x ≡ true → IsValidDomain L.tables (domain_of_load L (load_of_target L x))
target_domain L v x target = by (load_of_target L x) (target_there L (shadow_loads L v) x target) (target_within L (shadow_loads L v) x) where
  by : (k : ℕ) → 0 < k → k ≤ length L.loads → IsValidDomain L.tables (domain_of_load L k)
  by zero some few = absurd (omega (arith, some))
  by (suc p) some few = let l = list_at L.loads p few in (domain_at L v (suc p) l.0 l.1).is

rows_in : (o : Option TraitRow) (m : ℕ) → method_in o m ≡ slice_get (rows_of o) m
rows_in None m = refl
rows_in (Some t) m = refl

pub method_by_trait : (L : LoadRows) → Valid L → (x m : ℕ) → is_target L x ≡ true → method_of L x m ≡ slice_get (methods_of L.tables (trait_of_target L x)) m
method_by_trait L v x m target =
    let d = domain_of_load L (load_of_target L x) in
    let t = trait_at L.tables d (target_domain L v x target) in
    ap (λ (ls : Lines). method_in (trait_named L.tables (trait_name ls)) m) (same_lines L (load_of_target L x))
    ∙ ap (λ (o : Option TraitRow). method_in o m) t.found
    ∙ rows_in (slice_get L.tables.traits (domain_trait d)) m
    ∙ ap (λ (b : Bool). slice_get (methods_of L.tables (trait_if L b x)) m) (sym target)

pub method_kept : (L : LoadRows) → Valid L → (x m : ℕ) (r : MethodRow) → method_of L x m ≡ Some r → IsValidMethod L.tables r
method_kept L v x m r e =
    let t = position_or_len (λ (t : TraitRow). same_bytes t.name (trait_name (lines_of_load L (load_of_target L x)))) L.tables.traits in
    method_at L.tables v.tables t m r (sym (rows_in (slice_get L.tables.traits t) m) ∙ e)

pub method_small : (L : LoadRows) → Valid L → (x m : ℕ) (r : MethodRow) → method_of L x m ≡ Some r → IsMethodSmall r
method_small L v x m r e = by (trait_named L.tables (trait_name (lines_of_load L (load_of_target L x)))) refl e where
  by : (o : Option TraitRow) → trait_named L.tables (trait_name (lines_of_load L (load_of_target L x))) ≡ o → method_in o m ≡ Some r → IsMethodSmall r
  by None is d = absurd cc
  by (Some t) is d =
      let p = position_or_len (λ (y : TraitRow). same_bytes y.name (trait_name (lines_of_load L (load_of_target L x)))) L.tables.traits in
      all_at IsMethodSmall t.methods m r (all_at IsTraitSmall L.tables.traits p t v.tables.small.traits is).methods d

-- ---- scripts

pub script_at : (L : LoadRows) → Valid L → (t : ℕ) → (p : ℕ) (c : Command) → slice_get (commands_of (row L.clients t)) p ≡ Some c → IsValidScript L t (commands_of (row L.clients t))
script_at L v t p c e = by (row L.clients t) refl where
  by : (o : Option ClientRow) → row L.clients t ≡ o → IsValidScript L t (commands_of (row L.clients t))
  by None none = let bad : None ≡ Some c = sym (ap (λ (o : Option ClientRow). slice_get (commands_of o) p) none) ∙ e in absurd cc
  by (Some r) some = subst (λ (o : Option ClientRow). IsValidScript L t (commands_of o)) (sym some) (v.clients t r some)

pub command_fits : (L : LoadRows) → Valid L → (t p : ℕ) (c : Command) → slice_get (commands_of (row L.clients t)) p ≡ Some c → CommandFits L t p c
command_fits L v t p c e = (script_at L v t p c e).fits p c e

-- a name's number is below the count of names
pub name_within : (L : LoadRows) → Valid L → (t p i k : ℕ) (c : Command) → slice_get (commands_of (row L.clients t)) p ≡ Some c → slice_get (bound_by c) i ≡ Some k → k < length (flat_map bound_by (commands_of (row L.clients t)))
name_within L v t p i k c e x =
    let cs = commands_of (row L.clients t) in
    let at = stands_at bound_by cs p i c k e x in
    let is = (script_at L v t p c e).names (spot bound_by cs p i) k at in
    omega (arith, is, in_list (flat_map bound_by cs) (spot bound_by cs p i) k at)

-- each is bound by one command, at one place
pub bound_once : (L : LoadRows) → Valid L → (t p q i j k : ℕ) (c d : Command) → slice_get (commands_of (row L.clients t)) p ≡ Some c → slice_get (commands_of (row L.clients t)) q ≡ Some d → slice_get (bound_by c) i ≡ Some k → slice_get (bound_by d) j ≡ Some k → (p ≡ q) × (i ≡ j)
bound_once L v t p q i j k c d e f x y =
    let cs = commands_of (row L.clients t) in
    let names = (script_at L v t p c e).names in
    let first = names (spot bound_by cs p i) k (stands_at bound_by cs p i c k e x) in
    let second = names (spot bound_by cs q j) k (stands_at bound_by cs q j d k f y) in
    one_spot bound_by cs p q i j c d k k e x f y (sym first ∙ second)
