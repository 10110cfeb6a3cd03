use Rattle.std.proofs.Common.{◌≡◌, ℕ, ◌+◌, Option, length, ap, sym, ◌∙◌, arith, nat_eq, drop}
use Rattle.std.specs.Prelude.{unwrap_or}
use Rattle.std.specs.Option.{option_copied}
use Rattle.std.specs.Cmp.Lexicographic.{pointwise}
use Rattle.std.proofs.lemmas.Option.{slice_get_within}
use Rattle.indexmap.specs.IndexMap.{get}
use Rattle.rl_defs.specs.declared.code.DomainLine.{DomainLine}
use Rattle.rl_defs.specs.declared.tables.MethodRow.{MethodRow}
use Rattle.rl_defs.specs.declared.tables.Tables.{Tables}
use Rattle.rl_defs.specs.Domains.{Lines}
use Rattle.rl_defs.specs.CodeNames.{params_of, results_of, find_label, row_at, methods_of, method_number, method_named, domain_trait}
use Rattle.rl_defs.specs.CodeKinds.{no_kinds, put_from, after_line}
use Rattle.domain_checker.proofs.Stepping.{known_function, numbered_function}
use Rattle.domain_checker.proofs.here.enter.Goals as goal

pub overflow_add-place : goal.overflow_add-place
overflow_add-place c = omega (arith, c.args.here.now.known.short, c.args.here.now.known.within)

pub labels_from-requires-clause-within : goal.labels_from-requires-clause-within
labels_from-requires-clause-within c = omega (arith, slice_get_within c.args.here.now.scope.now.lines c.args.here.now.place c.args.line.now c.requires.here, ap length c.lines.ensures.value)

pub invariant_of-here-clause-known : goal.invariant_of-here-clause-known
invariant_of-here-clause-known c =
    let d = c.args.here.now.scope.now in
    let q = c.args.name.now in
    let method : option_copied c.method_numbered-method.result ≡ method_named d.tables (domain_trait d) q = c.method_numbered-method.ensures.value ∙ ap (λ (o : Option ℕ). row_at (methods_of c.tables-tables.result.now c.domain_trait-of.result) o) c.method_number-number.ensures ∙ ap (λ (t : Tables). method_named t c.domain_trait-of.result q) c.tables-tables.ensures ∙ ap (λ (k : ℕ). method_named d.tables k q) c.domain_trait-of.ensures in
    known_function d c.args.here.now.place c.args.line.now q c.args.here.now.kinds c.enter_method.new.kinds c.goes_on-here.result c.results_of-here.result.now (get (pointwise nat_eq) c.in_ok-labels.labels) c.args.here.now.known.short c.requires.here c.requires.name c.args.here.now.known.kinds_are
    (c.enter_method.ensures ∙ ap (λ (m : Option MethodRow). put_from 0 (params_of m) no_kinds) method ∙ ap (λ (f : DomainLine). after_line d c.args.here.now.kinds f) (sym c.requires.name))
    c.goes_on-here.ensures (c.results_of-here.ensures ∙ ap results_of method) (λ p. c.in_ok-labels.ensures p ∙ ap (λ (ls : Lines). find_label p (drop (c.args.here.now.place + 1) ls) (c.args.here.now.place + 1)) c.lines.ensures.value)

pub invariant_of-here-clause-numbered : goal.invariant_of-here-clause-numbered
invariant_of-here-clause-numbered c =
    numbered_function c.args.here.now.scope.now c.args.here.now.place c.args.line.now c.args.name.now c.unwrap_or-here.result c.requires.here c.requires.name
    (c.unwrap_or-here.ensures ∙ ap (λ o. unwrap_or o 0) (c.method_number-number.ensures ∙ ap (λ (t : Tables). method_number t c.domain_trait-of.result c.args.name.now) c.tables-tables.ensures ∙ ap (λ (k : ℕ). method_number c.args.here.now.scope.now.tables k c.args.name.now) c.domain_trait-of.ensures))
