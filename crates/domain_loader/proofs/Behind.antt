-- The phases behind the forms of a bundle, put together.
use Rattle.std.proofs.Common.{◌≡◌, ℕ, zero, suc, [], ◌∷◌, ◌⊎◌, inl, inr, ◌<◌, ◌≤◌, ◌^◌, ◌+◌, List, ◌++◌, map, length, Some, refl, sym, ap, subst, ◌∙◌, arith}
use Rattle.std.specs.Prelude.{slice_get, Result, Ok, Err}
use Rattle.rl_defs.specs.declared.LoadFault.{LoadFault}
use Rattle.rl_defs.specs.declared.LoadFault.TheVariants.{Refused, Memory}
use Rattle.rl_defs.specs.declared.bundle.Numbered.{Numbered}
use Rattle.rl_defs.specs.declared.bundle.Bundle.{Bundle}
use Rattle.rl_defs.specs.declared.bundle.Plan.{Plan}
use Rattle.rl_defs.specs.declared.bundle.Clients.{Clients}
use Rattle.rl_defs.specs.declared.idl.Idl.{Idl}
use Rattle.rl_defs.specs.declared.idl.IdlLine.{IdlLine}
use Rattle.rl_defs.specs.declared.code.DomainText.{DomainText}
use Rattle.rl_defs.specs.declared.tables.Tables.{Tables}
use Rattle.rl_defs.specs.declared.load.LoadRows.{LoadRows}
use Rattle.rl_defs.specs.DomainValue.{Domain}
use Rattle.rl_defs.specs.Refusals.{Failing, IsFirst, Nowhere, Answers, Then}
use Rattle.rl_defs.specs.Interfaces.{Rises}
use Rattle.rl_defs.specs.TypeRules.{FailsTypes}
use Rattle.rl_defs.specs.MethodRules.{FailsMethods, TableRows}
use Rattle.rl_defs.specs.PlanRules.{FailsPlanRules}
use Rattle.rl_defs.specs.ScriptRules.{FailsScripts}
use Rattle.rl_defs.specs.NameRules.{FailsBundleNames}
use Rattle.rl_defs.specs.BundleOrder.{IsOrdered, Rise, numbers_of, line_numbers, bundle_of, text_of}
use Rattle.rl_defs.specs.LoadOf.{checked_with, load_of}
use Rattle.rl_defs.specs.Acceptance.{Next, FailsDomain, FailsBehindTables, FailsBehindForms}
use Rattle.rl_defs.proofs.FirstRefusal.{second_answers}
use Rattle.proxy_tables.proofs.TableLaws.{tables_once}
use Rattle.domain_loader.specs.Phases.{InOrder, FailsDomains, IsLoadOf, load_with, AreSmallTables}
use Rattle.domain_loader.proofs.Composing.{refused_next, later_refused, answers_next, same_answers, other_words}
use Rattle.domain_loader.proofs.Apart.{numbers_in, rise_front, rise_behind, both_count}
use Rattle.domain_loader.proofs.Loads.{texts_stay}

-- ---- a refusal of the first two of three phases

widened : {X : Type 0} (F G : Failing) (S : X → Type 0) (H : X → Failing) (line rule : ℕ) → IsFirst (Next F G) line rule → IsFirst (Next F (Then G S H)) line rule
widened F G S H line rule h = record {
  fails = elim h.fails [ inl a ↦ inl a | inr b ↦ inr (b.0, inl b.1) ];
  first = λ l r f. elim f [
    | inl a ↦ h.first l r (inl a)
    | inr b ↦ elim b.1 [
      | inl g ↦ h.first l r (inr (b.0, g))
      | inr k ↦ elim h.fails [ inl a ↦ absurd (b.0 line rule a) | inr c ↦ absurd (k.0 line rule c.1) ]
    ]
  ];
}

pub tables_refused : (b : Bundle) (e : LoadFault) → Nowhere (FailsBundleNames b) → Answers {X = Tables} (Next (FailsTypes b.idl) (FailsMethods b.idl)) (AreSmallTables b.idl) (Err e) → Answers {X = LoadRows} (FailsBehindForms b) (IsLoadOf b) (Err e)
tables_refused b (Refused at) none h =
    answers_next {Y = LoadRows} (FailsBundleNames b) (Next (FailsTypes b.idl) (Then (FailsMethods b.idl) (TableRows b.idl) (FailsBehindTables b))) (IsLoadOf b) (Err (Refused at)) none
    (widened {X = Tables} (FailsTypes b.idl) (FailsMethods b.idl) (TableRows b.idl) (FailsBehindTables b) at.line at.rule h)
tables_refused b Memory none h = h

-- ---- the phases that need the tables

pub behind_tables : (b : Bundle) (tables : Tables) (r : Result LoadRows LoadFault) → Nowhere (FailsBundleNames b) → Nowhere (Next (FailsTypes b.idl) (FailsMethods b.idl)) → TableRows b.idl tables → Answers {X = LoadRows} (FailsBehindTables b tables) (IsLoadOf b) r → Answers {X = LoadRows} (FailsBehindForms b) (IsLoadOf b) r
behind_tables b tables r names none rows h =
    let types : Nowhere (FailsTypes b.idl) = λ l n f. none l n (inl f) in
    let methods : Nowhere (FailsMethods b.idl) = λ l n f. none l n (inr (types, f)) in
    answers_next {Y = LoadRows} (FailsBundleNames b) (Next (FailsTypes b.idl) (Then (FailsMethods b.idl) (TableRows b.idl) (FailsBehindTables b))) (IsLoadOf b) r names
    (answers_next {Y = LoadRows} (FailsTypes b.idl) (Then (FailsMethods b.idl) (TableRows b.idl) (FailsBehindTables b)) (IsLoadOf b) r types
    (second_answers {X = Tables} {Y = LoadRows} (FailsMethods b.idl) (TableRows b.idl) (FailsBehindTables b) (IsLoadOf b) tables methods rows (λ t is. tables_once b.idl t tables is rows) r h))

-- ---- domains

one_domain : (tables : Tables) (b : Bundle) (l n : ℕ) → FailsDomains tables b.domains l n → FailsDomain tables b l n
one_domain tables b l n f = record { place = f.place; text = f.text; here = f.here; fails = f.fails }

one_of_domains : (tables : Tables) (b : Bundle) (l n : ℕ) → FailsDomain tables b l n → FailsDomains tables b.domains l n
one_of_domains tables b l n f = record { place = f.place; text = f.text; here = f.here; fails = f.fails }

pub domains_refused : (b : Bundle) (tables : Tables) (e : LoadFault) → Answers {X = List Domain} (FailsDomains tables b.domains) (λ (xs : List Domain). xs ≡ map (checked_with tables) b.domains) (Err e) → Answers {X = LoadRows} (FailsBehindTables b tables) (IsLoadOf b) (Err e)
domains_refused b tables e h =
    refused_next {X = List Domain} {Y = LoadRows} (FailsDomain tables b) (Next (FailsPlanRules b) (FailsScripts tables b)) (λ (xs : List Domain). xs ≡ map (checked_with tables) b.domains) (IsLoadOf b) e
    (same_answers {Y = List Domain} (FailsDomains tables b.domains) (FailsDomain tables b) (λ (xs : List Domain). xs ≡ map (checked_with tables) b.domains) (Err e) (one_domain tables b) (one_of_domains tables b) h)

-- ---- the plan and the scripts

pub bundle_stays : (b : Bundle) (tables : Tables) (checked : List Domain) → checked ≡ map (checked_with tables) b.domains → bundle_of b.idl checked b.plan b.clients ≡ b
bundle_stays b tables checked is =
    ap (λ (ds : List Domain). bundle_of b.idl ds b.plan b.clients) is
    ∙ ap (λ (ds : List DomainText). record { idl = b.idl; domains = ds; plan = b.plan; clients = b.clients }) (texts_stay tables b.domains)

is_stood_for : (b : Bundle) (tables : Tables) (checked : List Domain) (L : LoadRows) → TableRows b.idl tables → checked ≡ map (checked_with tables) b.domains → L ≡ load_with tables checked b → IsLoadOf b L
is_stood_for b tables checked L rows is same = record { tables = tables; rows = rows; stands = same ∙ ap (λ (ds : List Domain). load_with tables ds b) is }

pub plan_answers : (b : Bundle) (tables : Tables) (checked : List Domain) (r : Result LoadRows LoadFault) → TableRows b.idl tables → Nowhere (FailsDomains tables b.domains) → checked ≡ map (checked_with tables) b.domains
    → Answers {X = LoadRows} (Next (FailsPlanRules (bundle_of b.idl checked b.plan b.clients)) (FailsScripts tables (bundle_of b.idl checked b.plan b.clients))) (λ (L : LoadRows). L ≡ load_with tables checked (bundle_of b.idl checked b.plan b.clients)) r
    → Answers {X = LoadRows} (FailsBehindTables b tables) (IsLoadOf b) r
plan_answers b tables checked r rows none is h =
    let here = subst (λ (x : Bundle). Answers {X = LoadRows} (Next (FailsPlanRules x) (FailsScripts tables x)) (λ (L : LoadRows). L ≡ load_with tables checked x) r) (bundle_stays b tables checked is) h in
    answers_next {Y = LoadRows} (FailsDomain tables b) (Next (FailsPlanRules b) (FailsScripts tables b)) (IsLoadOf b) r (λ l n f. none l n (one_of_domains tables b l n f))
    (other_words {Y = LoadRows} (Next (FailsPlanRules b) (FailsScripts tables b)) (λ (L : LoadRows). L ≡ load_with tables checked b) (IsLoadOf b) r (λ L same. is_stood_for b tables checked L rows is same) here)

-- ---- the order of the lines

idl_number : (lines : List (Numbered IdlLine)) (k : ℕ) (x : Numbered IdlLine) → slice_get lines k ≡ Some x → slice_get (numbers_of lines) k ≡ Some x.line
idl_number [] k x e = absurd cc
idl_number (y ∷ ys) zero x e = let same : y ≡ x = cc in ap (λ (z : Numbered IdlLine). Some z.line) same
idl_number (y ∷ ys) (suc k) x e = idl_number ys k x e

pub interfaces_rise : (b : Bundle) → IsOrdered b → Rises b.idl.lines
interfaces_rise b h j k x y lt at bt = rise_front (numbers_of b.idl.lines) (numbers_in b.domains ++ (numbers_of b.plan.lines ++ numbers_of b.clients.lines)) h.rises j k x.line y.line lt (idl_number b.idl.lines j x at) (idl_number b.idl.lines k y bt)

idl_count : (lines : List (Numbered IdlLine)) → length (numbers_of lines) ≡ length lines
idl_count [] = refl
idl_count (x ∷ xs) = omega (arith, idl_count xs)

pub interfaces_few : (b : Bundle) → IsOrdered b → length b.idl.lines < 2 ^ 32
interfaces_few b h = omega (arith, h.few, idl_count b.idl.lines, both_count (numbers_of b.idl.lines) (numbers_in b.domains ++ (numbers_of b.plan.lines ++ numbers_of b.clients.lines)))

pub domains_in_order : (b : Bundle) → IsOrdered b → InOrder b.domains
domains_in_order b h =
    let rest = numbers_of b.plan.lines ++ numbers_of b.clients.lines in
    record {
      each = h.domains;
      few = omega (arith, h.few, both_count (numbers_of b.idl.lines) (numbers_in b.domains ++ rest), both_count (numbers_in b.domains) rest);
      rises = rise_front (numbers_in b.domains) rest (rise_behind (numbers_of b.idl.lines) (numbers_in b.domains ++ rest) h.rises);
    }
