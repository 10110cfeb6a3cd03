-- What a line of a domain gives and uses, by its form.
use Rattle.std.proofs.Common.{◌≡◌, ℕ, Bool, true, false, ◌||◌, List, [], ◌∷◌, ◌++◌, refl, sym, ap, ◌∙◌}
use Rattle.std.specs.List.{list_any, flat_map}
use Rattle.rl_defs.specs.declared.code.DomainLine.{DomainLine}
use Rattle.rl_defs.specs.declared.code.DomainLine.TheVariants as line
use Rattle.rl_defs.specs.declared.code.HeadItem.{HeadItem}
use Rattle.rl_defs.specs.declared.code.HeadKind.{HeadKind}
use Rattle.rl_defs.specs.declared.code.HeadKind.TheVariants as head
use Rattle.rl_defs.specs.declared.code.Instr.{Instr}
use Rattle.rl_defs.specs.declared.code.Instr.TheVariants as instr
use Rattle.rl_defs.specs.Interfaces.{place_of}
use Rattle.rl_defs.specs.BundleNames.{domain_given, slot_given, import_given, function_given}
use Rattle.rl_defs.specs.CodeNames.{struct_of_kind, trait_of_kind, structs_used, traits_used}
use Rattle.rl_defs.specs.NameRules.{IsUnknown}
use Rattle.bundle_names.specs.DomainNames.{domain_role, slot_role, import_role, function_role, is_absent, is_kind_unknown, names_unknown}
use Rattle.bundle_names.proofs.Lists.{none_of, of_none, any_at, any_of, any_append, or_false}
use Rattle.bundle_names.proofs.Lasting.{GivesTo, Giving, passes, gives, giving}

-- what each form of a line gives of domains, slots, imports and functions
each_gives : (form : DomainLine) → GivesTo (domain_role form) (domain_given form) × GivesTo (slot_role form) (slot_given form) × GivesTo (import_role form) (import_given form) × GivesTo (function_role form) (function_given form)
each_gives (line.Domain name has) = (gives name, passes, passes, passes)
each_gives (line.Words k) = (passes, passes, passes, passes)
each_gives (line.Slot name ty) = (passes, gives name, passes, passes)
each_gives (line.Import name has) = (passes, passes, gives name, passes)
each_gives (line.Native b) = (passes, passes, passes, passes)
each_gives (line.Function name) = (passes, passes, passes, gives name)
each_gives (line.Head label items) = (passes, passes, passes, passes)
each_gives (line.Code i) = (passes, passes, passes, passes)
each_gives line.Close = (passes, passes, passes, passes)

pub giving_domains : Giving domain_role domain_given
giving_domains = giving domain_role domain_given (λ form. (each_gives form).0)

pub giving_slots : Giving slot_role slot_given
giving_slots = giving slot_role slot_given (λ form. (each_gives form).1)

pub giving_imports : Giving import_role import_given
giving_imports = giving import_role import_given (λ form. (each_gives form).2)

pub giving_functions : Giving function_role function_given
giving_functions = giving function_role function_given (λ form. (each_gives form).3)

-- names that nothing declares
pub unknown_any : (names uses : List (List ℕ)) → list_any (is_absent names) uses ≡ true → IsUnknown uses names
unknown_any names uses e = let h = any_at (is_absent names) uses e in record { place = h.0; name = h.1; uses = h.2; unknown = none_of (place_of h.1 names) h.3 }

pub any_unknown : (names uses : List (List ℕ)) → IsUnknown uses names → list_any (is_absent names) uses ≡ true
any_unknown names uses h = any_of (is_absent names) uses h.place h.name h.uses (of_none (place_of h.name names) h.unknown)

shuffle : (a b c d : Bool) → ((a || b) || (c || d)) ≡ ((a || c) || (b || d))
shuffle true b c d = refl
shuffle false true true d = refl
shuffle false true false d = refl
shuffle false false c d = refl

-- of things that use structs and traits one uses what nothing declares
pub split_any : {A : Type 0} (f g : A → List (List ℕ)) (test : A → Bool) (structs traits : List (List ℕ)) → ((x : A) → test x ≡ (list_any (is_absent structs) (f x) || list_any (is_absent traits) (g x))) → (xs : List A) → list_any test xs ≡ (list_any (is_absent structs) (flat_map f xs) || list_any (is_absent traits) (flat_map g xs))
split_any f g test structs traits each [] = refl
split_any f g test structs traits each (x ∷ xs) =
    ap (λ (b : Bool). b || list_any test xs) (each x)
    ∙ ap (λ (b : Bool). (list_any (is_absent structs) (f x) || list_any (is_absent traits) (g x)) || b) (split_any f g test structs traits each xs)
    ∙ shuffle (list_any (is_absent structs) (f x)) (list_any (is_absent traits) (g x)) (list_any (is_absent structs) (flat_map f xs)) (list_any (is_absent traits) (flat_map g xs))
    ∙ ap (λ (b : Bool). b || (list_any (is_absent traits) (g x) || list_any (is_absent traits) (flat_map g xs))) (sym (any_append (is_absent structs) (f x) (flat_map f xs)))
    ∙ ap (λ (b : Bool). list_any (is_absent structs) (f x ++ flat_map f xs) || b) (sym (any_append (is_absent traits) (g x) (flat_map g xs)))

module _ (structs traits : List (List ℕ)) where
  kind_any : (k : HeadKind) → is_kind_unknown structs traits k ≡ (list_any (is_absent structs) (struct_of_kind k) || list_any (is_absent traits) (trait_of_kind k))
  kind_any head.Num = refl
  kind_any (head.Own ty) = or_false (is_absent structs ty) ∙ or_false (is_absent structs ty || false)
  kind_any (head.Lent ty) = or_false (is_absent structs ty) ∙ or_false (is_absent structs ty || false)
  kind_any (head.Cap has) = or_false (is_absent traits has)

  items_any : (items : List HeadItem) → list_any (λ item. is_kind_unknown structs traits item.kind) items ≡ (list_any (is_absent structs) (flat_map (λ item. struct_of_kind item.kind) items) || list_any (is_absent traits) (flat_map (λ item. trait_of_kind item.kind) items))
  items_any items = split_any (λ (item : HeadItem). struct_of_kind item.kind) (λ (item : HeadItem). trait_of_kind item.kind) (λ (item : HeadItem). is_kind_unknown structs traits item.kind) structs traits (λ item. kind_any item.kind) items

  -- what a line uses that nothing declares is a struct, a trait, or a function without a method
  abbrev pub any_use : List (List ℕ) → DomainLine → Bool
  any_use methods form = list_any (is_absent structs) (structs_used form) || (list_any (is_absent traits) (traits_used form) || list_any (is_absent methods) (function_given form))

  one : (b : Bool) → b ≡ ((b || false) || false)
  one true = refl
  one false = refl

  code_any : (methods : List (List ℕ)) (i : Instr) → names_unknown structs traits methods (line.Code i) ≡ any_use methods (line.Code i)
  code_any methods (instr.New a ty) = one (is_absent structs ty)
  code_any methods (instr.Const a n) = refl
  code_any methods (instr.Copy a b) = refl
  code_any methods (instr.Math op a b c) = refl
  code_any methods (instr.Jmp l) = refl
  code_any methods (instr.Jz a l) = refl
  code_any methods (instr.Move a b) = refl
  code_any methods (instr.Get a b c) = refl
  code_any methods (instr.Wget a b) = refl
  code_any methods (instr.Has a s) = refl
  code_any methods (instr.Cap a s) = refl
  code_any methods (instr.DevSize a) = refl
  code_any methods (instr.Drop a) = refl
  code_any methods (instr.Set a b c) = refl
  code_any methods (instr.Wput a b) = refl
  code_any methods (instr.Take a s) = refl
  code_any methods (instr.Put s a) = refl
  code_any methods (instr.DevGet a b) = refl
  code_any methods (instr.DevPut a b) = refl
  code_any methods (instr.Hang a n b) = refl
  code_any methods (instr.Unhang a b n) = refl
  code_any methods (instr.Call t m xs rs c l) = refl
  code_any methods (instr.Ret rs) = refl
  code_any methods instr.Trap = refl

  pub line_any : (methods : List (List ℕ)) (form : DomainLine) → names_unknown structs traits methods form ≡ any_use methods form
  line_any methods (line.Domain name has) = one (is_absent traits has)
  line_any methods (line.Words k) = refl
  line_any methods (line.Slot name ty) = one (is_absent structs ty)
  line_any methods (line.Import name has) = one (is_absent traits has)
  line_any methods (line.Native b) = refl
  line_any methods (line.Function name) = or_false (is_absent methods name)
  line_any methods (line.Head label items) = items_any items ∙ ap (λ (b : Bool). list_any (is_absent structs) (flat_map (λ item. struct_of_kind item.kind) items) || b) (or_false (list_any (is_absent traits) (flat_map (λ item. trait_of_kind item.kind) items)))
  line_any methods (line.Code i) = code_any methods i
  line_any methods line.Close = refl
