-- The lines of an interface part, up to the first that fails.
use Rattle.std.proofs.Common.{◌≡◌, ℕ, ◌+◌, ◌-◌, ◌^◌, ◌<◌, ◌≤◌, List, [], length, Option, Some, None, refl, sym, ap, ◌∙◌, arith, Err}
use Rattle.std.specs.Prelude.{slice_get}
use Rattle.rl_defs.specs.declared.LoadFault.{LoadFault}
use Rattle.rl_defs.specs.declared.LoadFault.TheVariants.{Refused}
use Rattle.rl_defs.specs.declared.bundle.Numbered.{Numbered}
use Rattle.rl_defs.specs.declared.idl.IdlLine.{IdlLine}
use Rattle.rl_defs.specs.Refusals.{Answers, Nowhere}
use Rattle.rl_defs.specs.Interfaces.{Lines, Rises, struct_names, trait_names}
use Rattle.rl_defs.specs.NameRules.{FailsNames}
use Rattle.bundle_names.specs.declared.interface_lines.InterfaceScopes.{InterfaceScopes}
use Rattle.bundle_names.specs.Scopes.{rule_when, Somewhere}
use Rattle.bundle_names.specs.InterfaceLines.{declared_role, field_role, method_role, given_behind, given_at, HasRoom, is_repeated, has_unknown}
use Rattle.bundle_names.proofs.Scoping.{behind_more, few_names}
use Rattle.bundle_names.proofs.Scanning.{CleanTo, clean_more, clean_first, clean_all, answers_same, line_passes, line_first, line_within, lines_later, refused_first}
use Rattle.bundle_names.proofs.InterfaceNaming.{FailsLine, line_fails, fails_line}

-- what was given before a line, and that no line before it fails
pub record ScanTo (lines : Lines) (k : ℕ) (g : InterfaceScopes) : Type 0 where
  pub given : g ≡ given_at lines k
  pub clean : CleanTo (FailsLine lines) k

given_more : (lines : Lines) (k : ℕ) (x : Numbered IdlLine) → slice_get lines k ≡ Some x → given_behind x.form (given_at lines k) ≡ given_at lines (k + 1)
given_more lines k x here = rw (behind_more declared_role (Some []) lines k x here, behind_more field_role None lines k x here, behind_more method_role None lines k x here) refl

pub has_room : (lines : Lines) (k : ℕ) (g : InterfaceScopes) → ScanTo lines k g → k < 2 ^ 32 - 1 → HasRoom g
has_room lines k g h lt = rw (h.given) (record {
  declared = omega (arith, lt, few_names declared_role (Some []) lines k);
  fields = omega (arith, lt, few_names field_role None lines k);
  methods = omega (arith, lt, few_names method_role None lines k);
})

rule_is : (lines : Lines) (k : ℕ) (x : Numbered IdlLine) (g : InterfaceScopes) (structs traits : List (List ℕ)) (rule wanted : Option ℕ) → g ≡ given_at lines k → structs ≡ struct_names lines → traits ≡ trait_names lines → rule ≡ wanted → rule ≡ rule_when (is_repeated x.form g) (has_unknown structs traits x.form) → rule_when (is_repeated x.form (given_at lines k)) (has_unknown (struct_names lines) (trait_names lines) x.form) ≡ wanted
rule_is lines k x g structs traits rule wanted eg es et is e = ap (λ (h : InterfaceScopes). rule_when (is_repeated x.form h) (has_unknown (struct_names lines) (trait_names lines) x.form)) (sym eg) ∙ ap (λ (ss : List (List ℕ)). rule_when (is_repeated x.form g) (has_unknown ss (trait_names lines) x.form)) (sym es) ∙ ap (λ (ts : List (List ℕ)). rule_when (is_repeated x.form g) (has_unknown structs ts x.form)) (sym et) ∙ sym e ∙ is

pub scan_begins : (lines : Lines) (g : InterfaceScopes) → g ≡ given_at lines 0 → ScanTo lines 0 g
scan_begins lines g e = record { given = e; clean = record { none = λ j l r lt f. omega (arith, lt) } }

pub scan_goes : (lines : Lines) (k : ℕ) (x : Numbered IdlLine) (g new : InterfaceScopes) (structs traits : List (List ℕ)) (rule : Option ℕ) → ScanTo lines k g → slice_get lines k ≡ Some x → structs ≡ struct_names lines → traits ≡ trait_names lines → rule ≡ None → rule ≡ rule_when (is_repeated x.form g) (has_unknown structs traits x.form) → new ≡ given_behind x.form g → ScanTo lines (k + 1) new
scan_goes lines k x g new structs traits rule h here es et none e is = record {
  given = is ∙ ap (given_behind x.form) h.given ∙ given_more lines k x here;
  clean = clean_more (FailsLine lines) k h.clean (line_passes lines (λ i line. is_repeated line (given_at lines i)) (λ i line. has_unknown (struct_names lines) (trait_names lines) line) k x here (rule_is lines k x g structs traits rule None h.given es et none e));
}

pub scan_finds : (lines : Lines) (k : ℕ) (x : Numbered IdlLine) (g : InterfaceScopes) (structs traits : List (List ℕ)) (rule : Option ℕ) (first : ℕ) (fault : LoadFault) → Rises lines → ScanTo lines k g → slice_get lines k ≡ Some x → structs ≡ struct_names lines → traits ≡ trait_names lines → rule ≡ Some first → rule ≡ rule_when (is_repeated x.form g) (has_unknown structs traits x.form) → fault ≡ Refused (record { line = x.line; rule = first }) → Answers {X = Unit {0}} (FailsNames (record { lines = lines })) (λ _. Unit {0}) (Err fault)
scan_finds lines k x g structs traits rule first fault rises h here es et some e is =
    let three = λ (i : ℕ) (line : IdlLine). is_repeated line (given_at lines i) in
    let four = λ (i : ℕ) (line : IdlLine). has_unknown (struct_names lines) (trait_names lines) line in
    let found = line_first lines three four k x here first (rule_is lines k x g structs traits rule (Some first) h.given es et some e) in
    let all = clean_first (FailsLine lines) k x.line first (lines_later lines three four rises) h.clean found in
    answers_same {X = Unit {0}} (Somewhere (FailsLine lines)) (FailsNames (record { lines = lines })) (λ _. Unit {0}) (line_fails lines) (fails_line lines) (Err fault) (refused_first {X = Unit {0}} (Somewhere (FailsLine lines)) (λ _. Unit {0}) fault x.line first is all)

pub scan_ends : (lines : Lines) (k : ℕ) (g : InterfaceScopes) → length lines ≤ k → ScanTo lines k g → Nowhere (FailsNames (record { lines = lines }))
scan_ends lines k g le h l r f = clean_all (FailsLine lines) k (length lines) le (line_within lines (λ i line. is_repeated line (given_at lines i)) (λ i line. has_unknown (struct_names lines) (trait_names lines) line)) h.clean l r (fails_line lines l r f)
