-- A load that is accepted is valid: its parts put together.
use Rattle.std.proofs.Common.{◌≡◌, ℕ, zero, suc, ◌≤◌, List, length, map, Option, Some, refl, sym, ap, subst, ◌∙◌, arith}
use Rattle.std.specs.Prelude.{slice_get, ◌≢◌, All}
use Rattle.std.specs.List.{AllPairs, AllZip}
use Rattle.rl_defs.specs.declared.bundle.Bundle.{Bundle}
use Rattle.rl_defs.specs.declared.code.DomainText.{DomainText}
use Rattle.rl_defs.specs.declared.tables.Kind.{Kind}
use Rattle.rl_defs.specs.declared.tables.Kind.TheVariants as kind
use Rattle.rl_defs.specs.declared.tables.StructRow.{StructRow}
use Rattle.rl_defs.specs.declared.tables.MethodRow.{MethodRow}
use Rattle.rl_defs.specs.declared.tables.TraitRow.{TraitRow}
use Rattle.rl_defs.specs.declared.tables.Tables.{Tables}
use Rattle.rl_defs.specs.declared.load.LoadRows.{LoadRows}
use Rattle.rl_defs.specs.declared.load.LoadRow.{LoadRow}
use Rattle.rl_defs.specs.declared.load.ShadowRow.{ShadowRow}
use Rattle.rl_defs.specs.declared.load.ClientRow.{ClientRow}
use Rattle.rl_defs.specs.Domains.{row, load_row, slots_of}
use Rattle.rl_defs.specs.CodeNames.{Declared, imports, functions, cells_of, flat_of, type_of, trait_number}
use Rattle.rl_defs.specs.LoadOf.{load_of, checked_with, shadows_of, clients_of, order_of}
use Rattle.rl_defs.specs.Acceptance.{Accepted}
use Rattle.rl_defs.specs.Rows.{domain_of_load, binds, binds_in, commands_of}
use Rattle.rl_defs.specs.ValidScripts.{IsValidScript}
use Rattle.rl_defs.specs.Valid.{IsOwnable, IsPassable, IsValidStruct, IsValidMethod, IsValidTrait, AreValidTables, IsValidDomain, IsValidBind, IsValidLoad, IsValidShadow, Valid}
use Rattle.rl_defs.proofs.Lists.{in_list, map_get, all_of, at_contained, pairs_of, zip_of}
use Rattle.valid_loads.proofs.Rules.{Kept, of_short}
use Rattle.valid_loads.proofs.Rows.{load_at}
use Rattle.valid_loads.proofs.Domains.{of_text}
use Rattle.valid_loads.proofs.Targets.{shadowed}
use Rattle.valid_loads.proofs.Slots.{slots_apart, functions_apart}
use Rattle.valid_loads.proofs.Binds.{imports_apart, each_bound, count}
use Rattle.valid_loads.proofs.Shadows.{one, code, few}
use Rattle.valid_loads.proofs.Bounds.{fuel, device, blocks, order, few_loads, few_clients}
use Rattle.valid_loads.proofs.TablesKept.{cells_kept, flat_cells, method_kept}
use Rattle.valid_loads.proofs.TableTexts.{trait_text}
use Rattle.valid_loads.proofs.NamesApart.{row_names, text_apart, types_apart, target_names_apart, client_names_apart}
use Rattle.valid_loads.proofs.NamesKept.{text_structs, text_traits}
use Rattle.valid_loads.proofs.SizesKept.{text_words, text_slots, few_commands}
use Rattle.valid_loads.proofs.DomainsKept.{small, domain_kept}
use Rattle.valid_loads.proofs.ScriptLines.{numbers}
use Rattle.valid_loads.proofs.ScriptsKept.{fits}
use Rattle.valid_loads.proofs.ShortBundles.{lines_short}
use Rattle.valid_loads.proofs.Names.{Apart}
use Rattle.rl_defs.specs.Interfaces.{traits_of}

-- ---- tables

valid_struct : (tables : Tables) (b : Bundle) → Kept tables b → (s : ℕ) (r : StructRow) → slice_get tables.structs s ≡ Some r → IsValidStruct tables r
valid_struct tables b h s r e =
    let cells : cells_of tables s ≡ r.flat = ap flat_of e in
    record {
      cells = all_of (IsOwnable tables) r.flat (λ p k c. cells_kept tables b h s p k (ap (λ (ks : List Kind). slice_get ks p) cells ∙ c));
      one_deep = λ o g c d.
          let x = at_contained r.flat (kind.Own o) c in
          let y = at_contained (cells_of tables o) (kind.Own g) d in
          flat_cells tables b h s x.0 o y.0 g (ap (λ (ks : List Kind). slice_get ks x.0) cells ∙ x.1) y.1;
    }

valid_method : (tables : Tables) (b : Bundle) → Kept tables b → (t m : ℕ) (x : TraitRow) (r : MethodRow) → slice_get tables.traits t ≡ Some x → slice_get x.methods m ≡ Some r → IsValidMethod tables r
valid_method tables b h t m x r e d =
    let k = method_kept tables b h t m x r e d in
    record {
      params = all_of (IsPassable tables) r.params k.takes;
      results = all_of (IsOwnable tables) r.results k.gives;
      repeats = λ again s c. let p = at_contained r.params (kind.Own s) c in k.still again p.0 s p.1;
    }

valid_trait : (tables : Tables) (b : Bundle) → Kept tables b → (t : ℕ) (x : TraitRow) → slice_get tables.traits t ≡ Some x → IsValidTrait tables x
valid_trait tables b h t x e =
    let text = trait_text b.idl.lines (traits_of b.idl.lines) tables.traits t x h.rows.traits e in
    record {
      methods = all_of (IsValidMethod tables) x.methods (λ m r d. valid_method tables b h t m x r e d);
      names = pairs_of (map (λ (m : MethodRow). m.name) x.methods) (subst Apart (row_names b.idl.lines text.0.methods x.methods text.2.methods) (text_apart tables b h t text.0 text.1));
    }

valid_tables : (tables : Tables) (b : Bundle) → (h : Kept tables b) → length h.texts ≤ 1048576 → AreValidTables tables
valid_tables tables b h few = record {
  small = small tables b h few;
  structs = all_of (IsValidStruct tables) tables.structs (valid_struct tables b h);
  traits = all_of (IsValidTrait tables) tables.traits (valid_trait tables b h);
  names = pairs_of _ (types_apart tables b h);
}

-- ---- domains

valid_domain : (tables : Tables) (b : Bundle) → (h : Kept tables b) → length h.texts ≤ 1048576 → (place : ℕ) (text : DomainText) → slice_get b.domains place ≡ Some text → IsValidDomain tables (checked_with tables text)
valid_domain tables b h few place text here = record {
  checked_with = refl;
  keeps = domain_kept tables b h few place text here;
  words = text_words tables b h place text here;
  slots = text_slots tables b h place text here;
  slot_names = pairs_of (slots_of text.lines) (slots_apart tables b h place text here);
  import_names = pairs_of (map (λ (d : Declared). d.name) (imports text.lines)) (imports_apart tables b h place text here);
  function_names = pairs_of (functions text.lines) (functions_apart tables b h place text here);
  structs = text_structs tables b h place text here;
  traits = text_traits tables b h place text here;
}

valid_domains : (tables : Tables) (b : Bundle) → (h : Kept tables b) → length h.texts ≤ 1048576 → All (IsValidDomain tables) (map (checked_with tables) b.domains)
valid_domains tables b h few = all_of (IsValidDomain tables) (map (checked_with tables) b.domains) (λ k d e.
    let x = map_get (checked_with tables) b.domains k d e in
    subst (IsValidDomain tables) x.2 (valid_domain tables b h few k x.0 x.1))

-- ---- the plan

valid_bind : (tables : Tables) (b : Bundle) → Kept tables b → (k j : ℕ) (i : Declared) (x : ℕ) → slice_get (imports (domain_of_load (load_of tables b) (suc k)).lines) j ≡ Some i → slice_get (binds (load_of tables b) (suc k)) j ≡ Some x → IsValidBind (load_of tables b) (suc k) i x
valid_bind tables b h k j i x at e =
    let is = each_bound tables b h k j x e in
    record { target = is.target; trait = is.trait ∙ ap (λ (o : Option Declared). trait_number tables (type_of o)) at; before = is.before }

valid_load : (tables : Tables) (b : Bundle) → Kept tables b → (k : ℕ) (l : LoadRow) → load_row (load_of tables b) k ≡ Some l → IsValidLoad (load_of tables b) k l
valid_load tables b h zero l e = absurd cc
valid_load tables b h (suc k) l e =
    let L = load_of tables b in
    let t = load_at b k l e in
    let d = of_text tables b k t.0 h t.1 in
    let of : binds L (suc k) ≡ l.binds = ap binds_in e in
    let number : l.domain ≡ d.place = sym (ap (λ (r : LoadRow). r.domain) t.2) ∙ d.number in
    let within = in_list L.domains d.place (checked_with tables d.text) d.among in
    record {
      domain = omega (arith, number, within);
      binds = subst (AllZip (IsValidBind L (suc k)) (imports (domain_of_load L (suc k)).lines)) of (zip_of (IsValidBind L (suc k)) (imports (domain_of_load L (suc k)).lines) (binds L (suc k)) (count tables b h (suc k)) (valid_bind tables b h k));
    }

valid_shadow : (tables : Tables) (b : Bundle) → Kept tables b → (k : ℕ) (x : ShadowRow) → slice_get (load_of tables b).shadows k ≡ Some x → IsValidShadow (load_of tables b) x
valid_shadow tables b h k x e = record { load = shadowed tables b h k x e; code = code tables b h k x e; restarts = few tables b h k x e }

one_shadow : (tables : Tables) (b : Bundle) → Kept tables b → AllPairs ◌≢◌ (map (λ (x : ShadowRow). x.load) (shadows_of b))
one_shadow tables b h = pairs_of (map (λ (x : ShadowRow). x.load) (shadows_of b)) (λ j k n e d.
    let x = map_get (λ (s : ShadowRow). s.load) (shadows_of b) j n e in
    let y = map_get (λ (s : ShadowRow). s.load) (shadows_of b) k n d in
    one tables b h j k x.0 y.0 x.1 y.1 (x.2 ∙ sym y.2))

-- ---- scripts

valid_script : (tables : Tables) (b : Bundle) → Kept tables b → (t : ℕ) (c : ClientRow) → row (load_of tables b).clients t ≡ Some c → IsValidScript (load_of tables b) t c.commands
valid_script tables b h t c e =
    let L = load_of tables b in
    subst (IsValidScript L t) (ap commands_of e) (record { few = few_commands tables b h t; fits = fits tables b h t; names = numbers tables b h t })

-- ---- the whole load

valid : (tables : Tables) (b : Bundle) → (h : Kept tables b) → length h.texts ≤ 1048576 → Valid (load_of tables b)
valid tables b h few = record {
  tables = valid_tables tables b h few;
  domains = valid_domains tables b h few;
  loads = valid_load tables b h;
  shadows = all_of (IsValidShadow (load_of tables b)) (shadows_of b) (valid_shadow tables b h);
  clients = valid_script tables b h;
  one_shadow = one_shadow tables b h;
  target_names = pairs_of _ (target_names_apart tables b h);
  client_names = pairs_of _ (client_names_apart tables b h);
  few_loads = few_loads tables b h;
  few_clients = few_clients tables b h;
  order = all_of (λ (t : ℕ). (1 ≤ t) × (t ≤ length (clients_of tables b))) (order_of b) (order tables b h);
  fuel = fuel tables b h;
  device = device tables b h;
  blocks = blocks tables b h;
}

pub accepted_valid : (bytes : List ℕ) (L : LoadRows) → length bytes ≤ 1048576 → Accepted bytes L → Valid L
accepted_valid bytes L short accepted = of_short Valid 1048576 valid bytes L (omega (arith, lines_short bytes, short)) accepted
