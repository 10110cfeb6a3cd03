-- Which bundles are accepted, and the first failing rule of the others.
use Rattle.std.specs.Prelude.{◌≡◌, ℕ, ◌⊎◌, List, slice_get, Some}
use Rattle.rl_defs.specs.declared.code.DomainText.{DomainText}
use Rattle.rl_defs.specs.declared.tables.Tables.{Tables}
use Rattle.rl_defs.specs.Refusals.{Failing, Nowhere, Then, IsFirst}
use Rattle.rl_defs.specs.Lines.{lines_of}
use Rattle.rl_defs.specs.TypeRules.{FailsTypes}
use Rattle.rl_defs.specs.MethodRules.{FailsMethods, TableRows}
use Rattle.rl_defs.specs.CodeRules.{FailsCode}
use Rattle.rl_defs.specs.declared.bundle.Bundle.{Bundle}
use Rattle.rl_defs.specs.BundleParts.{FailsForms, IsBundle}
use Rattle.rl_defs.specs.NameRules.{FailsBundleNames}
use Rattle.rl_defs.specs.PlanRules.{FailsPlanRules}
use Rattle.rl_defs.specs.ScriptRules.{FailsScripts}
use Rattle.rl_defs.specs.declared.load.LoadRows.{LoadRows}
use Rattle.rl_defs.specs.LoadOf.{load_of}

-- a later phase speaks only where nothing of an earlier one fails
abbrev pub Next : Failing → Failing → Failing
Next F G line rule = F line rule ⊎ (Nowhere F × G line rule)

-- a domain of the bundle fails a rule of domain code
pub record FailsDomain (tables : Tables) (b : Bundle) (line rule : ℕ) : Type 0 where
  pub place : ℕ
  pub text : DomainText
  pub here : slice_get b.domains place ≡ Some text
  pub fails : FailsCode (record { lines = text.lines; tables = tables }) line rule

-- rules 30 to 37, then 40 to 46, then 50 and 51
abbrev pub FailsBehindTables : Bundle → Tables → Failing
FailsBehindTables b tables = Next (FailsDomain tables b) (Next (FailsPlanRules b) (FailsScripts tables b))

-- rules 3 and 4, then 10 to 13, then 20 to 23, and then those that need the tables
abbrev pub FailsBehindForms : Bundle → Failing
FailsBehindForms b = Next (FailsBundleNames b) (Next (FailsTypes b.idl) (Then (FailsMethods b.idl) (TableRows b.idl) (FailsBehindTables b)))

-- which rules fail at which lines of a bundle: rules 1 and 2 first
abbrev pub Fails : List ℕ → Failing
Fails bytes = Then (FailsForms (lines_of bytes)) (IsBundle (lines_of bytes)) FailsBehindForms

-- the first failing line of the first phase that has one, and there the lowest rule
abbrev pub First : List ℕ → ℕ → ℕ → Type 0
First bytes line rule = IsFirst (Fails bytes) line rule

-- The bytes are accepted: no rule fails at any line, and they stand for this load.
pub record Accepted (bytes : List ℕ) (L : LoadRows) : Type 0 where
  pub keeps : Nowhere (Fails bytes)
  pub bundle : Bundle
  pub tables : Tables
  pub lines : IsBundle (lines_of bytes) bundle
  pub rows : TableRows bundle.idl tables
  pub stands : L ≡ load_of tables bundle
