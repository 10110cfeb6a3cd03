-- The names of the methods of each trait, line by line.
use Rattle.std.proofs.Common.{◌≡◌, ℕ, ◌+◌, ◌≤◌, Bool, true, false, List, ◌++◌, length, map, drop, Some, refl, sym, ap, ◌∙◌, arith, append_assoc, length-append}
use Rattle.std.specs.Prelude.{slice_get}
use Rattle.std.proofs.lemmas.List.{drop_all, append-nil}
use Rattle.rl_defs.specs.declared.bundle.Numbered.{Numbered}
use Rattle.rl_defs.specs.declared.idl.IdlLine.{IdlLine}
use Rattle.rl_defs.specs.Interfaces.{Lines}
use Rattle.rl_defs.specs.BundleNames.{Given, names_of}
use Rattle.rl_defs.proofs.Places.{drop_at}
use Rattle.bundle_names.specs.declared.roles.Role.{Role}
use Rattle.bundle_names.specs.declared.roles.Role.TheVariants as role
use Rattle.bundle_names.specs.Scopes.{member_before, members, scope_before, scopes}
use Rattle.bundle_names.specs.InterfaceLines.{method_role}
use Rattle.bundle_names.specs.DomainNames.{role_names, goes_on, role_tables, method_tables}

-- The names so far and those of the lines to come are those of all lines.
pub record MethodsTo (lines : Lines) (k : ℕ) (names : List (List ℕ)) : Type 0 where
  pub few : length names ≤ k
  pub all : names ++ names_of (members method_role (drop k lines)) ≡ names_of (members method_role lines)

goes : (r : Role) (n : ℕ) (ms : List Given) → goes_on r ≡ true → names_of (member_before n r ms) ≡ role_names r ++ names_of ms
goes role.Opens n ms e = absurd cc
goes role.Ends n ms e = absurd cc
goes role.Passes n ms e = refl
goes (role.Gives name) n ms e = refl

stops : (r : Role) (n : ℕ) (ms : List Given) → goes_on r ≡ false → names_of (member_before n r ms) ≡ role_names r
stops role.Opens n ms e = refl
stops role.Ends n ms e = refl
stops role.Passes n ms e = absurd cc
stops (role.Gives name) n ms e = absurd cc

few_names : (r : Role) → length (role_names r) ≤ 1
few_names role.Opens = omega arith
few_names role.Ends = omega arith
few_names role.Passes = omega arith
few_names (role.Gives name) = omega arith

pub methods_more : (lines : Lines) (k : ℕ) (names new : List (List ℕ)) (x : Numbered IdlLine) (r : Role) (on : Bool) → MethodsTo lines k names → slice_get lines k ≡ Some x → r ≡ method_role x.form → on ≡ goes_on r → on ≡ true → new ≡ names ++ role_names r → MethodsTo lines (k + 1) new
methods_more lines k names new x r on h here is o go e = rw e (record {
  few = omega (arith, length-append names (role_names r), few_names r, h.few);
  all = append_assoc names (role_names r) (names_of (members method_role (drop (k + 1) lines)))
      ∙ ap (λ (xs : List (List ℕ)). names ++ xs) (sym (goes r x.line (members method_role (drop (k + 1) lines)) (sym o ∙ go)))
      ∙ ap (λ (z : Role). names ++ names_of (member_before x.line z (members method_role (drop (k + 1) lines)))) is
      ∙ ap (λ (ls : Lines). names ++ names_of (members method_role ls)) (sym (drop_at lines k x here))
      ∙ h.all;
})

pub methods_stop : (lines : Lines) (k : ℕ) (names new : List (List ℕ)) (x : Numbered IdlLine) (r : Role) (on : Bool) → MethodsTo lines k names → slice_get lines k ≡ Some x → r ≡ method_role x.form → on ≡ goes_on r → on ≡ false → new ≡ names ++ role_names r → new ≡ names_of (members method_role lines)
methods_stop lines k names new x r on h here is o go e =
    e
    ∙ ap (λ (xs : List (List ℕ)). names ++ xs) (sym (stops r x.line (members method_role (drop (k + 1) lines)) (sym o ∙ go)))
    ∙ ap (λ (z : Role). names ++ names_of (member_before x.line z (members method_role (drop (k + 1) lines)))) is
    ∙ ap (λ (ls : Lines). names ++ names_of (members method_role ls)) (sym (drop_at lines k x here))
    ∙ h.all

pub methods_end : (lines : Lines) (k : ℕ) (names : List (List ℕ)) → length lines ≤ k → MethodsTo lines k names → names ≡ names_of (members method_role lines)
methods_end lines k names le h = sym (append-nil names) ∙ ap (λ (ls : Lines). names ++ names_of (members method_role ls)) (sym (drop_all k lines le)) ∙ h.all

-- the tables so far and those of the lines to come are those of all lines
pub record TablesTo (lines : Lines) (k : ℕ) (tables : List (List (List ℕ))) : Type 0 where
  pub all : tables ++ method_tables (drop k lines) ≡ method_tables lines

split : (r : Role) (ms : List Given) (bs : List (List Given)) → role_tables r (names_of ms) ++ map names_of bs ≡ map names_of (scope_before r ms bs)
split role.Opens ms bs = refl
split role.Ends ms bs = refl
split role.Passes ms bs = refl
split (role.Gives name) ms bs = refl

pub tables_more : (lines rest : Lines) (k : ℕ) (tables new : List (List (List ℕ))) (x : Numbered IdlLine) → TablesTo lines k tables → slice_get lines k ≡ Some x → rest ≡ drop (k + 1) lines → new ≡ tables ++ role_tables (method_role x.form) (names_of (members method_role rest)) → TablesTo lines (k + 1) new
tables_more lines rest k tables new x h here is e = rw (e, is) (record {
  all = append_assoc tables (role_tables (method_role x.form) (names_of (members method_role (drop (k + 1) lines)))) (method_tables (drop (k + 1) lines))
      ∙ ap (λ (ts : List (List (List ℕ))). tables ++ ts) (split (method_role x.form) (members method_role (drop (k + 1) lines)) (scopes method_role (drop (k + 1) lines)))
      ∙ ap (λ (ls : Lines). tables ++ method_tables ls) (sym (drop_at lines k x here))
      ∙ h.all;
})

pub tables_end : (lines : Lines) (k : ℕ) (tables : List (List (List ℕ))) → length lines ≤ k → TablesTo lines k tables → tables ≡ method_tables lines
tables_end lines k tables le h = sym (append-nil tables) ∙ ap (λ (ls : Lines). tables ++ method_tables ls) (sym (drop_all k lines le)) ∙ h.all
