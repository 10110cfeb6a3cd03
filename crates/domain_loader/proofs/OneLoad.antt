-- Bytes are accepted as one load at most.
use Rattle.std.proofs.Common.{◌≡◌, ℕ, List, inl, sym, ap, subst, ◌∙◌}
use Rattle.rl_defs.specs.declared.bundle.Bundle.{Bundle}
use Rattle.rl_defs.specs.declared.tables.Tables.{Tables}
use Rattle.rl_defs.specs.declared.load.LoadRows.{LoadRows}
use Rattle.rl_defs.specs.Lines.{lines_of}
use Rattle.rl_defs.specs.MethodRules.{TableRows}
use Rattle.rl_defs.specs.LoadOf.{load_of}
use Rattle.rl_defs.specs.Acceptance.{Accepted}
use Rattle.bundle_syntax.proofs.PlanLaws.{plan_forms}
use Rattle.bundle_syntax.proofs.ClientLaws.{client_forms}
use Rattle.bundle_parts.proofs.OneBundle.{one_bundle}
use Rattle.proxy_tables.proofs.TableLaws.{tables_once}

pub one_load : (bytes : List ℕ) (L M : LoadRows) → Accepted bytes L → Accepted bytes M → L ≡ M
one_load bytes L M a b =
    let bundles : a.bundle ≡ b.bundle = one_bundle plan_forms client_forms (lines_of bytes) a.bundle b.bundle a.lines b.lines (λ l r f. a.keeps l r (inl f)) in
    let rows : TableRows b.bundle.idl a.tables = subst (λ (x : Bundle). TableRows x.idl a.tables) bundles a.rows in
    let tables : a.tables ≡ b.tables = tables_once b.bundle.idl a.tables b.tables rows b.rows in
    a.stands
    ∙ ap (load_of a.tables) bundles
    ∙ ap (λ (t : Tables). load_of t b.bundle) tables
    ∙ sym b.stands
