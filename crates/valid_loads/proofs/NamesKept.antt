-- The structs and traits that a domain names are those of the tables.
use Rattle.std.proofs.Common.{◌≡◌, ℕ, inl, inr, map, Some, sym, ap, ◌∙◌}
use Rattle.std.specs.Prelude.{slice_get}
use Rattle.std.specs.List.{All, Contains}
use Rattle.rl_defs.specs.declared.bundle.Numbered.{Numbered}
use Rattle.rl_defs.specs.declared.bundle.Bundle.{Bundle}
use Rattle.rl_defs.specs.declared.code.DomainLine.{DomainLine}
use Rattle.rl_defs.specs.declared.code.DomainText.{DomainText}
use Rattle.rl_defs.specs.declared.tables.StructRow.{StructRow}
use Rattle.rl_defs.specs.declared.tables.TraitRow.{TraitRow}
use Rattle.rl_defs.specs.declared.tables.Tables.{Tables}
use Rattle.rl_defs.specs.Interfaces.{place_of, struct_names, trait_names}
use Rattle.rl_defs.specs.BundleNames.{domain_lines}
use Rattle.rl_defs.specs.CodeNames.{structs_used, traits_used}
use Rattle.rl_defs.proofs.Lists.{goes, all_of, contains_at, at_contained}
use Rattle.valid_loads.proofs.Names.{declared_by, place_there}
use Rattle.valid_loads.proofs.Rules.{Kept, declared}
use Rattle.valid_loads.proofs.Traits.{struct_row_names, trait_row_names}

pub text_structs : (tables : Tables) (b : Bundle) → Kept tables b → (place : ℕ) (text : DomainText) → slice_get b.domains place ≡ Some text → (l : Numbered DomainLine) → Contains text.lines l → All (Contains (map (λ (s : StructRow). s.name) tables.structs)) (structs_used l.form)
text_structs tables b h place text here l c =
    let names = map (λ (s : StructRow). s.name) tables.structs in
    let n = at_contained text.lines l c in
    let at = goes (λ (d : DomainText). d.lines) b.domains place n.0 text l here n.1 in
    all_of (Contains names) (structs_used l.form) (λ i name used.
    let p = declared_by (domain_lines b) structs_used (struct_names b.idl.lines) (λ m u. declared tables b h m (inl u)) at.0 l at.1 i name used in
    contains_at names p.0 name (place_there name names p.0 (ap (place_of name) (sym (struct_row_names tables b h)) ∙ p.1)))

pub text_traits : (tables : Tables) (b : Bundle) → Kept tables b → (place : ℕ) (text : DomainText) → slice_get b.domains place ≡ Some text → (l : Numbered DomainLine) → Contains text.lines l → All (Contains (map (λ (t : TraitRow). t.name) tables.traits)) (traits_used l.form)
text_traits tables b h place text here l c =
    let names = map (λ (t : TraitRow). t.name) tables.traits in
    let n = at_contained text.lines l c in
    let at = goes (λ (d : DomainText). d.lines) b.domains place n.0 text l here n.1 in
    all_of (Contains names) (traits_used l.form) (λ i name used.
    let p = declared_by (domain_lines b) traits_used (trait_names b.idl.lines) (λ m u. declared tables b h m (inr (inl u))) at.0 l at.1 i name used in
    contains_at names p.0 name (place_there name names p.0 (ap (place_of name) (sym (trait_row_names tables b h)) ∙ p.1)))
