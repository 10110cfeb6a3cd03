-- What an accepted bundle keeps, phase by phase.
use Rattle.std.proofs.Common.{ℕ, ◌≤◌, inl, inr, List, length, refl, sym, subst}
use Rattle.rl_defs.specs.declared.bundle.Bundle.{Bundle}
use Rattle.rl_defs.specs.declared.tables.Tables.{Tables}
use Rattle.rl_defs.specs.declared.load.LoadRows.{LoadRows}
use Rattle.rl_defs.specs.Refusals.{Nowhere}
use Rattle.rl_defs.specs.Lines.{lines_of}
use Rattle.rl_defs.specs.BundleParts.{FailsForms, IsBundle}
use Rattle.rl_defs.specs.TypeRules.{FailsTypes}
use Rattle.rl_defs.specs.MethodRules.{FailsMethods, TableRows}
use Rattle.rl_defs.specs.NameRules.{FailsBundleNames, RepeatsName, NamesNothing}
use Rattle.rl_defs.specs.PlanRules.{FailsPlanRules}
use Rattle.rl_defs.specs.ScriptRules.{FailsScripts}
use Rattle.rl_defs.specs.LoadOf.{load_of}
use Rattle.rl_defs.specs.Acceptance.{FailsDomain, FailsBehindTables, FailsBehindForms, Accepted}

-- A bundle that keeps all rules, with the rows of its interfaces.
pub record Kept (tables : Tables) (b : Bundle) : Type 0 where
  pub texts : List (List ℕ)
  pub lines : IsBundle texts b
  pub forms : Nowhere (FailsForms texts)
  pub names : Nowhere (FailsBundleNames b)
  pub types : Nowhere (FailsTypes b.idl)
  pub methods : Nowhere (FailsMethods b.idl)
  pub rows : TableRows b.idl tables
  pub code : Nowhere (FailsDomain tables b)
  pub plan : Nowhere (FailsPlanRules b)
  pub scripts : Nowhere (FailsScripts tables b)

kept : (bytes : List ℕ) (L : LoadRows) → (a : Accepted bytes L) → Kept a.tables a.bundle
kept bytes L a =
    let forms : Nowhere (FailsForms (lines_of bytes)) = λ l r f. a.keeps l r (inl f) in
    let behind : Nowhere (FailsBehindForms a.bundle) = λ l r f. a.keeps l r (inr (forms, (a.bundle, a.lines, f))) in
    let names : Nowhere (FailsBundleNames a.bundle) = λ l r f. behind l r (inl f) in
    let types : Nowhere (FailsTypes a.bundle.idl) = λ l r f. behind l r (inr (names, inl f)) in
    let methods : Nowhere (FailsMethods a.bundle.idl) = λ l r f. behind l r (inr (names, inr (types, inl f))) in
    let tables : Nowhere (FailsBehindTables a.bundle a.tables) = λ l r f. behind l r (inr (names, inr (types, inr (methods, (a.tables, a.rows, f))))) in
    let code : Nowhere (FailsDomain a.tables a.bundle) = λ l r f. tables l r (inl f) in
    let plan : Nowhere (FailsPlanRules a.bundle) = λ l r f. tables l r (inr (code, inl f)) in
    record {
      texts = lines_of bytes;
      lines = a.lines;
      forms = forms;
      names = names;
      types = types;
      methods = methods;
      rows = a.rows;
      code = code;
      plan = plan;
      scripts = λ l r f. tables l r (inr (code, inr (plan, f)));
    }

-- what holds of each load that a kept bundle of few lines stands for holds of each that few bytes are accepted as
pub of_short : (F : LoadRows → Type 0) (most : ℕ) → ((tables : Tables) (b : Bundle) → (h : Kept tables b) → length h.texts ≤ most → F (load_of tables b)) → (bytes : List ℕ) (L : LoadRows) → length (lines_of bytes) ≤ most → Accepted bytes L → F L
unfolding kept
of_short F most each bytes L few a = subst F (sym a.stands) (each a.tables a.bundle (kept bytes L a) few)

-- no name is given twice, and none is unknown
pub once : (tables : Tables) (b : Bundle) → Kept tables b → (n : ℕ) → RepeatsName b n → ⊥
once tables b h n r = h.names n 3 (inr (inl (refl, r)))

pub declared : (tables : Tables) (b : Bundle) → Kept tables b → (n : ℕ) → NamesNothing b n → ⊥
declared tables b h n r = h.names n 4 (inr (inr (refl, r)))
