use Rattle.std.proofs.Common.{◌++◌, drop}
use Rattle.bundle_names.specs.Tests.{repeats}
use Rattle.bundle_names.proofs.Binding.{Binds}
use Rattle.bundle_names.proofs.clients.bind_all.Given as goal

abbrev pub invariant-names : goal.invariant-names
invariant-names l = Binds l.again l.bound (drop l.name-index l.names) (repeats l.fn.bound l.names) (l.fn.bound ++ l.names)
