use Rattle.std.proofs.Common.{◌≡◌, sym, subst}
use Rattle.rl_defs.specs.declared.tables.Tables.{Tables}
use Rattle.rl_defs.specs.TypeRules.{FailsTypes, StructRows}
use Rattle.rl_defs.specs.MethodRules.{FailsMethods, TableRows}
use Rattle.exchangeable_types.specs.declared.check.Types.{Types}
use Rattle.domain_loader.specs.Phases.{AreSmallTables}
use Rattle.domain_loader.proofs.Composing.{refused_next, later_refused, none_of_next}
use Rattle.domain_loader.proofs.Sizes.{small_tables}
use Rattle.domain_loader.proofs.tables.tables_of.Goals as goal

pub returns-in-Err : goal.returns-in-Err
returns-in-Err c = refused_next {X = Types} {Y = Tables} (FailsTypes c.args.idl.now) (FailsMethods c.args.idl.now) (λ t. StructRows c.args.idl.now t.structs) (AreSmallTables c.args.idl.now) c.in-Err.fault c.in-Err.ensures

pub returns-in-Err-build : goal.returns-in-Err-build
returns-in-Err-build c = later_refused {X = Tables} {Y = Tables} (FailsTypes c.args.idl.now) (FailsMethods c.args.idl.now) (TableRows c.args.idl.now) (AreSmallTables c.args.idl.now) c.in-Err-build.fault c.in-Ok.ensures.0 c.in-Err-build.ensures

pub returns-in-Ok-new : goal.returns-in-Ok-new
returns-in-Ok-new c =
    let none = c.in-Ok.ensures.0 in
    let more = c.in-Ok-build.ensures.0 in
    let rows = c.in-Ok-build.ensures.1 in
    (none_of_next (FailsTypes c.args.idl.now) (FailsMethods c.args.idl.now) none more, subst (λ (t : Tables). AreSmallTables c.args.idl.now t) (sym c.in-Ok-new.ensures) (record { rows = rows; small = small_tables c.args.idl.now c.in-Ok-build.tables c.requires.few none more rows }))
