use Rattle.domain_checker.proofs.Looks.{few_methods}
use Rattle.domain_checker.proofs.tables.NamedTables.new.Goals as goal

pub methods_of_traits-requires : goal.methods_of_traits-requires
methods_of_traits-requires c = few_methods c.args.tables c.as_slice-3.result.now c.requires cc
