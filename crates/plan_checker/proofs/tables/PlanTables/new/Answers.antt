use Rattle.std.proofs.Common.{refl, subst}
use Rattle.plan_checker.specs.Facts.{AreNames}
use Rattle.plan_checker.proofs.tables.PlanTables.new.Goals as goal

pub invariant_of-result : goal.invariant_of-result
invariant_of-result c = record {
  domains_are = c.in_ok-domains.ensures c.args.lines.now c.in_ok-loaded.ensures;
  loads_are = c.in_ok-loads.ensures;
  shadows_are = c.in_ok-shadows.ensures;
  serial_are = c.in_ok-serial.ensures;
  bound_is = c.in_ok-binds.ensures.bound;
  binding_named = c.in_ok-binds.ensures.named;
}

pub returns : goal.returns
returns c = record {
  value = refl;
  names = record { loads = subst AreNames c.in_ok-loads.ensures.names_are c.in_ok-loads.ensures.named; bindings = c.in_ok-binds.ensures.named };
}
