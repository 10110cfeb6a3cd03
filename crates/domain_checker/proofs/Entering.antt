-- Where the functions for methods begin.
use Rattle.std.proofs.Common.{◌≡◌, ℕ, ◌+◌, ◌<◌, ◌^◌, List, length, Option, Some, None, ap, subst, ◌∙◌, arith, map}
use Rattle.std.specs.Prelude.{slice_get, unwrap_or}
use Rattle.std.specs.Option.{option_map}
use Rattle.std.specs.List.{position_or_len}
use Rattle.std.proofs.lemmas.Option.{slice_get-map}
use Rattle.rl_defs.specs.declared.tables.MethodRow.{MethodRow}
use Rattle.rl_defs.specs.declared.tables.Tables.{Tables}
use Rattle.rl_defs.specs.declared.code.Register.{Register}
use Rattle.rl_defs.specs.declared.checked.LineRow.{LineRow}
use Rattle.rl_defs.specs.DomainValue.{Domain}
use Rattle.rl_defs.specs.Domains.{Lines, body_of_function, begins_function}
use Rattle.rl_defs.specs.CodeNames.{methods_of, domain_trait}
use Rattle.rl_defs.specs.Refusals.{Nowhere}
use Rattle.rl_defs.specs.CodeRules.{FailsCode}
use Rattle.rl_defs.specs.TableSizes.{AreTablesSmall}
use Rattle.rl_defs.specs.DomainParts.{IsOneDomain}
use Rattle.rl_defs.specs.CodeNames.{entry_at, entry_of}
use Rattle.rl_defs.specs.Checked.{IsChecked}
use Rattle.domain_checker.specs.Numbering.{body_from}
use Rattle.domain_checker.specs.Keeping.{AreRows, IsKept, entries_of, domain}
use Rattle.domain_checker.proofs.Bodies.{body_at}

pub entry_is : (q : List ℕ) (lines : Lines) (past : ℕ) → past ≡ length lines + 1 → unwrap_or (body_from q lines 0) past ≡ body_of_function lines q
entry_is q lines past is =
    let from : past ≡ 0 + length lines + 1 = omega arith in
    let to : 0 + position_or_len (λ l. begins_function q l.form) lines + 1 ≡ position_or_len (λ l. begins_function q l.form) lines + 1 = omega arith in
    ap (unwrap_or (body_from q lines 0)) from ∙ body_at q lines 0 ∙ to

begins_at : (d : Domain) (entries : List ℕ) → entries ≡ map (λ m. body_of_function d.lines m.name) (methods_of d.tables (domain_trait d)) → (m place : ℕ) → entry_at d m ≡ Some place → slice_get entries m ≡ Some place
begins_at d entries is m place e =
    ap (λ es. slice_get es m) is ∙ slice_get-map (λ (r : MethodRow). body_of_function d.lines r.name) (methods_of d.tables (domain_trait d)) m ∙ of (slice_get (methods_of d.tables (domain_trait d)) m) e where
      of : (o : Option MethodRow) → entry_of d o ≡ Some place → option_map (λ (r : MethodRow). body_of_function d.lines r.name) o ≡ Some place
      of None f = absurd cc
      of (Some r) f = f

-- what is kept beside the lines of a domain that keeps the rules
pub is_checked : (d : Domain) (rows : List LineRow) (pool : List Register) (entries : List ℕ) → length d.lines < 2 ^ 31 → AreTablesSmall d.tables → IsOneDomain d.lines → Nowhere (FailsCode d) → IsKept d pool rows entries → IsChecked d rows pool entries
is_checked d rows pool entries short small ordered rules kept = record {
  keeps = record { short = short; small = small; ordered = ordered; rules = rules };
  one_each = kept.rows_are.long;
  each = kept.rows_are.each;
  begins = begins_at d entries kept.entries_are;
}

pub entries_are : (s d : Domain) (methods : List MethodRow) (t : ℕ) (entries : List ℕ) → s ≡ d → entries ≡ map (λ m. body_of_function s.lines m.name) methods → methods ≡ methods_of d.tables t → t ≡ domain_trait s → entries ≡ entries_of d
entries_are s d methods t entries same is of trait_is =
    is
    ∙ ap (λ (ms : List MethodRow). map (λ (m : MethodRow). body_of_function s.lines m.name) ms) of
    ∙ ap (λ (k : ℕ). map (λ (m : MethodRow). body_of_function s.lines m.name) (methods_of d.tables k)) (trait_is ∙ ap domain_trait same)
    ∙ ap (λ (x : Domain). map (λ (m : MethodRow). body_of_function x.lines m.name) (methods_of d.tables (domain_trait d))) same

pub kept_whole : (s d : Domain) (pool : List Register) (rows : List LineRow) (entries : List ℕ) → s ≡ d → Nowhere (FailsCode s) × AreRows s pool rows (length s.lines) → entries ≡ entries_of d → Nowhere (FailsCode d) × IsKept d pool rows entries
kept_whole s d pool rows entries same h is =
    (subst (λ (x : Domain). Nowhere (FailsCode x)) same h.0, record { rows_are = subst (λ (x : Domain). AreRows x pool rows (length x.lines)) same h.1; entries_are = is })

pub domain_is : (ls ms : Lines) (t u : Tables) → ls ≡ ms → t ≡ u → domain ls t ≡ domain ms u
domain_is ls ms t u a b = ap (λ (x : Lines). domain x t) a ∙ ap (domain ms) b

pub checked_whole : (ls ms : Lines) (t u : Tables) (rows : List LineRow) (pool : List Register) (entries : List ℕ) → ls ≡ ms → t ≡ u → length ms < 2 ^ 31 → AreTablesSmall t → IsOneDomain ms → Nowhere (FailsCode (domain ls t)) × IsKept (domain ls t) pool rows entries → IsChecked (domain ms u) rows pool entries
checked_whole ls ms t u rows pool entries a b short small ordered h =
    let same : domain ls t ≡ domain ms u = domain_is ls ms t u a b in
    is_checked (domain ms u) rows pool entries short (subst AreTablesSmall b small) ordered (subst (λ (x : Domain). Nowhere (FailsCode x)) same h.0) (subst (λ (x : Domain). IsKept x pool rows entries) same h.1)

pub nowhere_in : (ls ms : Lines) (t u : Tables) → ls ≡ ms → t ≡ u → Nowhere (FailsCode (domain ls t)) → Nowhere (FailsCode (domain ms u))
nowhere_in ls ms t u a b h = subst (λ (x : Domain). Nowhere (FailsCode x)) (domain_is ls ms t u a b) h
