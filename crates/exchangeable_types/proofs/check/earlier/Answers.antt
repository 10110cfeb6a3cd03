use Rattle.std.proofs.Common.{ℕ, Option, List, Result, subst}
use Rattle.rl_defs.specs.declared.LoadFault.{LoadFault}
use Rattle.rl_defs.specs.declared.tables.StructRow.{StructRow}
use Rattle.rl_defs.specs.Refusals.{Answers}
use Rattle.rl_defs.specs.TypeRules.{StructRows}
use Rattle.exchangeable_types.specs.declared.check.Types.{Types}
use Rattle.exchangeable_types.specs.Rows.{AllRows, FailsStructs}
use Rattle.exchangeable_types.specs.BadLines.{IsFirstBad}
use Rattle.exchangeable_types.proofs.Checks.{bad_first, no_refusal, first_answers}
use Rattle.exchangeable_types.proofs.check.earlier.Goals as goal

pub returns-in-Some : goal.returns-in-Some
returns-in-Some c =
    let bad = subst (λ (o : Option ℕ). IsFirstBad c.args.idl.now.lines o) c.in-Some.is c.requires.bad in
    let rows = subst (λ (r : Result (List StructRow) LoadFault). Answers (FailsStructs c.args.idl.now.lines) (AllRows c.args.idl.now.lines) r) c.in-Ok.is c.requires.rows in
    first_answers {X = Types} c.args.idl.now (λ types. StructRows c.args.idl.now types.structs) c.refused.result (bad_first c.args.idl.now c.in-Some.line c.refused.result bad (λ l r f. absurd (rows.0 l r f)) c.refused.ensures)

pub returns-in-None : goal.returns-in-None
returns-in-None c =
    let bad = subst (λ (o : Option ℕ). IsFirstBad c.args.idl.now.lines o) c.in-None.is c.requires.bad in
    let rows = subst (λ (r : Result (List StructRow) LoadFault). Answers (FailsStructs c.args.idl.now.lines) (AllRows c.args.idl.now.lines) r) c.in-Ok.is c.requires.rows in
    (no_refusal c.args.idl.now bad rows.0, rows.1.are)

pub returns-in-Err-Refused : goal.returns-in-Err-Refused
returns-in-Err-Refused c = first_answers {X = Types} c.args.idl.now (λ types. StructRows c.args.idl.now types.structs) c.earlier_refusal.result c.earlier_refusal.ensures
