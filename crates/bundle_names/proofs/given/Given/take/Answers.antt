use Rattle.std.proofs.Common.{refl, true}
use Rattle.bundle_names.proofs.GivenLaws.{on_ok, bind_given, fuel_given, order_given}
use Rattle.bundle_names.proofs.given.Given.take.Goals as goal

pub returns-in-Bind-clause-given : goal.returns-in-Bind-clause-given
returns-in-Bind-clause-given c = on_ok c.add_pair.result _ _ (λ puts. bind_given c.args.self.now (record { targets = c.args.self.now.targets; binds = c.add_pair.new.pairs; serials = c.args.self.now.serials; fuel = c.args.self.now.fuel; order = c.args.self.now.order }) c.in-Bind.load c.in-Bind.import c.in-Bind.target c.args.form.now c.in-Bind.is refl refl refl refl c.add_pair.ensures.named puts) c.add_pair.ensures.added

pub returns-in-Fuel-clause-given : goal.returns-in-Fuel-clause-given
returns-in-Fuel-clause-given c = fuel_given c.args.self.now (record { targets = c.args.self.now.targets; binds = c.args.self.now.binds; serials = c.args.self.now.serials; fuel = true; order = c.args.self.now.order }) c.in-Fuel.field-0 c.args.form.now c.in-Fuel.is refl refl refl refl refl

pub returns-in-Order-clause-given : goal.returns-in-Order-clause-given
returns-in-Order-clause-given c = order_given c.args.self.now (record { targets = c.args.self.now.targets; binds = c.args.self.now.binds; serials = c.args.self.now.serials; fuel = c.args.self.now.fuel; order = true }) c.in-Order.field-0 c.args.form.now c.in-Order.is refl refl refl refl refl
