use Rattle.std.proofs.Common.{List, false, drop, sym, subst, arith}
use Rattle.rl_defs.specs.declared.idl.Param.{Param}
use Rattle.rl_defs.specs.Interfaces.{methods_of, param_types}
use Rattle.rl_defs.specs.Flattening.{Flattens}
use Rattle.rl_defs.proofs.Places.{get_within}
use Rattle.proxy_tables.proofs.Building.{methods_begin, methods_mark, methods_more, methods_past, methods_other}
use Rattle.proxy_tables.proofs.rows.method_rows.Goals as goal
use Rattle.proxy_tables.proofs.rows.method_rows.Goals.{in-Idempotent, in-Method+in_ok-row-in-Method+in_ok-push-in-Method}

pub methods-init : goal.methods-init
methods-init c = methods_begin c.args.part.now.lines.now c.args.start c.new-rows.result c.new-rows.ensures

pub returns-in_default-form : goal.returns-in_default-form
returns-in_default-form c = methods_other c.args.part.now.lines.now (methods_of (drop c.args.start c.args.part.now.lines.now) false) c.methods.rows c.methods.at c.methods.marked c.in-Some.line.now c.methods.invariant (sym c.in-Some.ensures) c.in_default-form.not-Idempotent (λ name params outcome e. c.in_default-form.not-Method name params outcome e)

pub overflow_add-at : goal.overflow_add-at
overflow_add-at c = omega (arith, get_within c.args.part.now.lines.now c.methods.at c.in-Some.line.now (sym c.in-Some.ensures), c.args.part.now.few)

pub methods-smaller : goal.methods-smaller
methods-smaller c = let lt = get_within c.args.part.now.lines.now c.methods.at c.in-Some.line.now (sym c.in-Some.ensures) in omega (arith, lt)

pub methods-preserved : goal.methods-preserved
methods-preserved c = elim c.match-line.branch [
  | in-Idempotent w ↦ rw (w.rows-is, w.marked-is) (methods_mark c.args.part.now.lines.now (methods_of (drop c.args.start c.args.part.now.lines.now) false) c.methods.rows c.methods.at c.methods.marked c.in-Some.line.now c.methods.invariant (sym c.in-Some.ensures) w.in-Idempotent.is)
  | in-Method+in_ok-row-in-Method+in_ok-push-in-Method w ↦ rw (w.rows-is, w.marked-is) (methods_more c.args.part.now.lines.now (methods_of (drop c.args.start c.args.part.now.lines.now) false) c.methods.rows w.push.new.self c.methods.at c.methods.marked c.in-Some.line.now w.in-Method.name w.in-Method.params w.in-Method.outcome w.in_ok-row-in-Method.row c.methods.invariant (sym c.in-Some.ensures) w.in-Method.is (record { name = w.in_ok-row-in-Method.ensures.name; idempotent = w.in_ok-row-in-Method.ensures.marked; params = subst (λ (ps : List Param). Flattens c.args.part.now.lines.now (param_types ps) w.in_ok-row-in-Method.row.params) w.as_slice.ensures w.in_ok-row-in-Method.ensures.params; results = w.in_ok-row-in-Method.ensures.results }) w.in_ok-push-in-Method.ensures.ok)
]

pub returns : goal.returns
returns c = methods_past c.args.part.now.lines.now (methods_of (drop c.args.start c.args.part.now.lines.now) false) c.methods.rows c.methods.at c.methods.marked c.methods.invariant (sym c.in_default.ensures)
