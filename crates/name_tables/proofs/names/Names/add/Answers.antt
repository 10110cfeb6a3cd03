use Rattle.std.proofs.Common.{ℕ, length, Some, sym, ap, subst, ◌∙◌, nat_eq, arith}
use Rattle.std.specs.Prelude.{is_some}
use Rattle.std.specs.Cmp.Lexicographic.{pointwise}
use Rattle.indexmap.specs.IndexMap.{Updates}
use Rattle.name_tables.proofs.Placing.{placed_again, placed_new}
use Rattle.name_tables.proofs.names.Names.add.Goals as goal

pub invariant_of-self-in-Ok-None : goal.invariant_of-self-in-Ok-None
invariant_of-self-in-Ok-None c = placed_new c.self.inside.names.items c.push.new.names.items c.args.name.now c.self.inside.places c.insert.new.self c.self.invariant (omega (arith, c.requires.room, ap length c.self.view_is)) (ap is_some (sym c.in-Ok-None.ensures.old ∙ c.in-Ok-None.field-0-is)) c.in_ok-push.ensures.added (subst (λ (n : ℕ). Updates (pointwise nat_eq) c.self.inside.places c.insert.new.self c.args.name.now (Some n)) (c.len-place.ensures ∙ omega (arith, c.self.inside.names.ok)) c.in-Ok-None.ensures.updates)

pub invariant_of-self-in-Ok-Some : goal.invariant_of-self-in-Ok-Some
invariant_of-self-in-Ok-Some c = placed_again c.self.inside.names.items c.push.new.names.items c.args.name.now c.self.inside.places c.insert.new.self c.put_back.new.places c.len-place.result c.in-Ok-Some.earlier c.self.invariant (omega (arith, c.requires.room, ap length c.self.view_is)) (sym c.in-Ok-Some.ensures.old ∙ c.in-Ok-Some.field-0-is) c.in_ok-push.ensures.added c.in-Ok-Some.ensures.updates c.put_back.ensures
