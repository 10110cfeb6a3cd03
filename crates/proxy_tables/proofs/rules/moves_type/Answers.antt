use Rattle.std.proofs.Common.{◌≡◌, ◌≢◌, List, min, Option, sym, ap, ◌∙◌, arith}
use Rattle.std.specs.List.{list_any}
use Rattle.std.specs.Option.{option_to_list}
use Rattle.rl_defs.specs.declared.idl.Wrap.{Wrap}
use Rattle.rl_defs.specs.declared.tables.Kind.{Kind}
use Rattle.rl_defs.specs.Flattening.{times_of}
use Rattle.proxy_tables.specs.Rules.{is_own}
use Rattle.proxy_tables.proofs.Moving.{moves_fields, moves_plain, moves_none, own_single}
use Rattle.proxy_tables.proofs.Types.{each_row}
use Rattle.proxy_tables.proofs.rules.moves_type.Goals as goal

pub returns-then-times-eq0 : goal.returns-then-times-eq0
returns-then-times-eq0 c =
    let count = c.times.ensures ∙ ap (λ (ws : List Wrap). min 513 (times_of ws)) c.as_slice.ensures in
    let none : times_of c.args.ty.now.wraps ≡ 0 = omega (arith, count, c.if-times-eq0.true) in
    moves_none c.args.part.now.lines.now c.args.ty.now (each_row c.args.part.now.lines.now c.args.structs.now c.requires.are) none

pub returns-in-Some : goal.returns-in-Some
returns-in-Some c =
    let count = c.times.ensures ∙ ap (λ (ws : List Wrap). min 513 (times_of ws)) c.as_slice.ensures in
    let some : times_of c.args.ty.now.wraps ≢ 0 = omega (arith, count, c.if-times-eq0.false) in
    moves_fields c.args.part.now.lines.now c.args.ty.now c.in-Some.held c.row_flat.result.now c.has_own.result (sym c.in-Some.ensures) c.row_flat.ensures.flat some c.has_own.ensures

pub returns-in-Some-kind_held : goal.returns-in-Some-kind_held
returns-in-Some-kind_held c =
    let count = c.times.ensures ∙ ap (λ (ws : List Wrap). min 513 (times_of ws)) c.as_slice.ensures in
    let some : times_of c.args.ty.now.wraps ≢ 0 = omega (arith, count, c.if-times-eq0.false) in
    moves_plain c.args.part.now.lines.now c.args.ty.now c.is_own.result (sym c.in_default.ensures) some (c.is_own.ensures ∙ own_single c.in-Some-kind_held.kind ∙ ap (λ (o : Option Kind). list_any is_own (option_to_list o)) c.in-Some-kind_held.ensures)

pub returns-in-None : goal.returns-in-None
returns-in-None c =
    let count = c.times.ensures ∙ ap (λ (ws : List Wrap). min 513 (times_of ws)) c.as_slice.ensures in
    let some : times_of c.args.ty.now.wraps ≢ 0 = omega (arith, count, c.if-times-eq0.false) in
    moves_plain c.args.part.now.lines.now c.args.ty.now _ (sym c.in_default.ensures) some (ap (λ (o : Option Kind). list_any is_own (option_to_list o)) c.in-None.ensures)
