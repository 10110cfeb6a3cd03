-- The lines of a domain, up to the first that fails.
use Rattle.std.proofs.Common.{◌≡◌, ℕ, ◌+◌, ◌-◌, ◌^◌, ◌<◌, ◌≤◌, List, [], ◌∷◌, length, Option, Some, None, refl, sym, ap, ◌∙◌, arith, Err}
use Rattle.std.specs.Prelude.{slice_get}
use Rattle.std.proofs.lemmas.List.{take_all}
use Rattle.rl_defs.specs.declared.LoadFault.{LoadFault}
use Rattle.rl_defs.specs.declared.LoadFault.TheVariants.{Refused}
use Rattle.rl_defs.specs.declared.bundle.Numbered.{Numbered}
use Rattle.rl_defs.specs.declared.code.DomainLine.{DomainLine}
use Rattle.rl_defs.specs.Refusals.{Failing, Answers, Nowhere}
use Rattle.rl_defs.specs.Domains.{Lines, trait_name}
use Rattle.rl_defs.specs.DomainParts.{LinesRise}
use Rattle.bundle_names.specs.declared.domain_lines.DomainScopes.{DomainScopes}
use Rattle.bundle_names.specs.declared.interface_names.InterfaceNames.{InterfaceNames}
use Rattle.bundle_names.specs.Scopes.{Scope, names_in, behind_all, rule_when, FailsAt}
use Rattle.bundle_names.specs.DomainNames.{domain_role, slot_role, import_role, function_role, label_role, at_domain, declared_behind, declared_at, HasSpace, is_given_again, names_unknown, methods_of, FailsIn}
use Rattle.bundle_names.proofs.Scoping.{behind_more, few_names}
use Rattle.bundle_names.proofs.Scanning.{CleanTo, clean_more, clean_first, clean_all, line_passes, line_first, line_within, lines_later, refused_first}

-- which rules fail at the line at a place
abbrev pub FailsPlace : InterfaceNames → Scope → Lines → ℕ → Failing
FailsPlace known domains lines = FailsAt lines (λ k line. is_given_again line (declared_at domains lines k)) (λ k line. names_unknown known.structs known.traits (methods_of known (trait_name lines)) line)

-- what was given before a line, and that no line before it fails
pub record DomainTo (known : InterfaceNames) (domains : Scope) (lines : Lines) (k : ℕ) (d : DomainScopes) : Type 0 where
  pub given : d ≡ declared_at domains lines k
  pub clean : CleanTo (FailsPlace known domains lines) k

declared_more : (domains : Scope) (lines : Lines) (k : ℕ) (x : Numbered DomainLine) → slice_get lines k ≡ Some x → declared_behind x.form (declared_at domains lines k) ≡ declared_at domains lines (k + 1)
declared_more domains lines k x here = rw (behind_more domain_role domains lines k x here, behind_more slot_role (Some []) lines k x here, behind_more import_role (Some []) lines k x here, behind_more function_role (Some []) lines k x here, behind_more label_role None lines k x here) refl

pub has_space : (known : InterfaceNames) (domains : Scope) (lines : Lines) (k : ℕ) (d : DomainScopes) → DomainTo known domains lines k d → names_in domains + k < 2 ^ 32 - 1 → HasSpace d
has_space known domains lines k d h lt = rw (h.given) (record {
  domains = omega (arith, lt, few_names domain_role domains lines k);
  slots = omega (arith, lt, few_names slot_role (Some []) lines k);
  imports = omega (arith, lt, few_names import_role (Some []) lines k);
  functions = omega (arith, lt, few_names function_role (Some []) lines k);
  labels = omega (arith, lt, few_names label_role None lines k);
})

rule_is : (known : InterfaceNames) (domains : Scope) (lines : Lines) (k : ℕ) (x : Numbered DomainLine) (d : DomainScopes) (methods : List (List ℕ)) (rule wanted : Option ℕ) → d ≡ declared_at domains lines k → methods ≡ methods_of known (trait_name lines) → rule ≡ wanted → rule ≡ rule_when (is_given_again x.form d) (names_unknown known.structs known.traits methods x.form) → rule_when (is_given_again x.form (declared_at domains lines k)) (names_unknown known.structs known.traits (methods_of known (trait_name lines)) x.form) ≡ wanted
rule_is known domains lines k x d methods rule wanted ed em is e = ap (λ (h : DomainScopes). rule_when (is_given_again x.form h) (names_unknown known.structs known.traits (methods_of known (trait_name lines)) x.form)) (sym ed) ∙ ap (λ (ms : List (List ℕ)). rule_when (is_given_again x.form d) (names_unknown known.structs known.traits ms x.form)) (sym em) ∙ sym e ∙ is

pub domain_begins : (known : InterfaceNames) (domains : Scope) (lines : Lines) (d : DomainScopes) → d ≡ at_domain domains → DomainTo known domains lines 0 d
domain_begins known domains [] d e = record { given = e; clean = record { none = λ j l r lt f. omega (arith, lt) } }
domain_begins known domains (x ∷ xs) d e = record { given = e; clean = record { none = λ j l r lt f. omega (arith, lt) } }

pub domain_goes : (known : InterfaceNames) (domains : Scope) (lines : Lines) (k : ℕ) (x : Numbered DomainLine) (d new : DomainScopes) (methods : List (List ℕ)) (rule : Option ℕ) → DomainTo known domains lines k d → slice_get lines k ≡ Some x → methods ≡ methods_of known (trait_name lines) → rule ≡ None → rule ≡ rule_when (is_given_again x.form d) (names_unknown known.structs known.traits methods x.form) → new ≡ declared_behind x.form d → DomainTo known domains lines (k + 1) new
domain_goes known domains lines k x d new methods rule h here em none e is = record {
  given = is ∙ ap (declared_behind x.form) h.given ∙ declared_more domains lines k x here;
  clean = clean_more (FailsPlace known domains lines) k h.clean (line_passes lines (λ i line. is_given_again line (declared_at domains lines i)) (λ i line. names_unknown known.structs known.traits (methods_of known (trait_name lines)) line) k x here (rule_is known domains lines k x d methods rule None h.given em none e));
}

pub domain_finds : (known : InterfaceNames) (domains : Scope) (lines : Lines) (k : ℕ) (x : Numbered DomainLine) (d : DomainScopes) (methods : List (List ℕ)) (rule : Option ℕ) (first : ℕ) (fault : LoadFault) → LinesRise lines → DomainTo known domains lines k d → slice_get lines k ≡ Some x → methods ≡ methods_of known (trait_name lines) → rule ≡ Some first → rule ≡ rule_when (is_given_again x.form d) (names_unknown known.structs known.traits methods x.form) → fault ≡ Refused (record { line = x.line; rule = first }) → Answers {X = Unit {0}} (FailsIn known domains lines) (λ _. Unit {0}) (Err fault)
domain_finds known domains lines k x d methods rule first fault rises h here em some e is =
    let three = λ (i : ℕ) (line : DomainLine). is_given_again line (declared_at domains lines i) in
    let four = λ (i : ℕ) (line : DomainLine). names_unknown known.structs known.traits (methods_of known (trait_name lines)) line in
    let found = line_first lines three four k x here first (rule_is known domains lines k x d methods rule (Some first) h.given em some e) in
    refused_first {X = Unit {0}} (FailsIn known domains lines) (λ _. Unit {0}) fault x.line first is (clean_first (FailsPlace known domains lines) k x.line first (lines_later lines three four rises) h.clean found)

pub domain_ends : (known : InterfaceNames) (domains : Scope) (lines : Lines) (k : ℕ) (d : DomainScopes) → length lines ≤ k → DomainTo known domains lines k d → Nowhere (FailsIn known domains lines)
domain_ends known domains lines k d le h = clean_all (FailsPlace known domains lines) k (length lines) le (line_within lines (λ i line. is_given_again line (declared_at domains lines i)) (λ i line. names_unknown known.structs known.traits (methods_of known (trait_name lines)) line)) h.clean

pub domains_behind : (known : InterfaceNames) (domains : Scope) (lines : Lines) (k : ℕ) (d : DomainScopes) → length lines ≤ k → DomainTo known domains lines k d → d.domains ≡ behind_all domain_role domains lines
domains_behind known domains lines k d le h = ap (λ (z : DomainScopes). z.domains) h.given ∙ ap (behind_all domain_role domains) (take_all k lines le)
