use Rattle.rl_defs.specs.Interfaces.{struct_name}
use Rattle.bundle_names.proofs.NamesInOrder.{NamesTo}
use Rattle.bundle_names.proofs.interfaces.struct_names.Given as goal

abbrev pub invariant-lines : goal.invariant-lines
invariant-lines l = NamesTo struct_name l.lines l.line-index l.names
