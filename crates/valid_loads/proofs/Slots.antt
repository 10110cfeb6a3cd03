-- No two slots and no two functions of a domain have one name.
use Rattle.rl_defs.proofs.Lists.{get_map}
use Rattle.std.proofs.Common.{◌≡◌, ℕ, inl, inr, List, [], ◌∷◌, ◌++◌, Some, refl, ap, subst, ◌∙◌}
use Rattle.std.specs.Prelude.{slice_get}
use Rattle.std.specs.List.{flat_map}
use Rattle.rl_defs.specs.declared.bundle.Bundle.{Bundle}
use Rattle.rl_defs.specs.declared.code.DomainText.{DomainText}
use Rattle.rl_defs.specs.declared.code.DomainLine.{DomainLine}
use Rattle.rl_defs.specs.declared.code.DomainLine.TheVariants as line
use Rattle.rl_defs.specs.declared.tables.Tables.{Tables}
use Rattle.rl_defs.specs.Domains.{Lines, slots_of, with_slot}
use Rattle.rl_defs.specs.CodeNames.{functions, function_of_form}
use Rattle.rl_defs.specs.BundleNames.{given_by, slot_given, function_given}
use Rattle.valid_loads.proofs.Names.{Apart, given_apart, names_flat}
use Rattle.valid_loads.proofs.Rules.{Kept, once}

with_form : (f : DomainLine) (others : List (List ℕ)) → slot_given f ++ others ≡ with_slot f others
with_form (line.Slot name ty) others = refl
with_form f others = refl

pub slot_names : (lines : Lines) → flat_map (λ l. slot_given l.form) lines ≡ slots_of lines
slot_names [] = refl
slot_names (l ∷ ls) = ap (λ (ns : List (List ℕ)). slot_given l.form ++ ns) (slot_names ls) ∙ with_form l.form (slots_of ls)

pub slots_apart : (tables : Tables) (b : Bundle) → Kept tables b → (place : ℕ) (text : DomainText) → slice_get b.domains place ≡ Some text → Apart (slots_of text.lines)
slots_apart tables b h place text here =
    subst Apart (names_flat slot_given text.lines ∙ slot_names text.lines)
    (given_apart (given_by slot_given text.lines) (λ n t. once tables b h n (inr (inl (inl (record { number = place; names = given_by slot_given text.lines; here = get_map (λ (d : DomainText). given_by slot_given d.lines) b.domains place text here; twice = t }))))))

function_form : (f : DomainLine) (others : List (List ℕ)) → function_given f ++ others ≡ function_of_form f others
function_form (line.Function name) others = refl
function_form f others = refl

pub function_names : (lines : Lines) → flat_map (λ l. function_given l.form) lines ≡ functions lines
function_names [] = refl
function_names (l ∷ ls) = ap (λ (ns : List (List ℕ)). function_given l.form ++ ns) (function_names ls) ∙ function_form l.form (functions ls)

pub functions_apart : (tables : Tables) (b : Bundle) → Kept tables b → (place : ℕ) (text : DomainText) → slice_get b.domains place ≡ Some text → Apart (functions text.lines)
functions_apart tables b h place text here =
    subst Apart (names_flat function_given text.lines ∙ function_names text.lines)
    (given_apart (given_by function_given text.lines) (λ n t. once tables b h n (inr (inl (inr (inr (record { number = place; names = given_by function_given text.lines; here = get_map (λ (d : DomainText). given_by function_given d.lines) b.domains place text here; twice = t })))))))
