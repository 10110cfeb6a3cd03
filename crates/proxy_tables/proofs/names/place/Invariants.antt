use Rattle.std.proofs.Common.{◌≡◌, drop}
use Rattle.rl_defs.specs.Interfaces.{place_of}
use Rattle.proxy_tables.specs.Names.{method_names}
use Rattle.proxy_tables.proofs.Methods.{shifted}
use Rattle.proxy_tables.proofs.names.place.Given as goal

abbrev pub invariant-methods : goal.invariant-methods
invariant-methods l = record {
  number : l.number ≡ l.method-index;
  rest : place_of l.name (method_names l.methods) ≡ shifted l.method-index (place_of l.name (method_names (drop l.method-index l.methods)));
}
