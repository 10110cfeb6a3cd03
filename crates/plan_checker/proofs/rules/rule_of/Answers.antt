use Rattle.plan_checker.proofs.Keeping.{loaded_by}
use Rattle.plan_checker.proofs.rules.rule_of.Goals as goal

pub is_unbound-unbound-requires : goal.is_unbound-unbound-requires
is_unbound-unbound-requires c = loaded_by c.args.tables.now c.args.form.now c.in-Load.name c.in-Load.domain c.requires c.in-Load.is
