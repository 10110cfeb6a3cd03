use Rattle.std.proofs.Common.{map, arith}
use Rattle.rl_text.specs.Places.{text_of}
use Rattle.bundle_syntax.proofs.PlanLaws.{plan_forms}
use Rattle.bundle_parts.specs.declared.header.Header.TheVariants as h
use Rattle.bundle_parts.specs.Parts.{plan_stands, no_plan, plan_numbers, plan_closed}
use Rattle.bundle_parts.proofs.PartKinds.{plan_kind, cut_numbered, cut_room, part_moves}
use Rattle.bundle_parts.proofs.read.take_plan.Goals as goal

pub read_plan-requires : goal.read_plan-requires
read_plan-requires c = record {
  numbered = cut_numbered c.args.bytes.now c.args.lines.now (map (text_of c.args.bytes.now) c.args.lines.now) h.Plan c.args.at.now c.part.new.at c.in_ok-inside.inside.now c.requires.numbered c.in_ok-inside.ensures;
  room = omega (arith, cut_room c.args.bytes.now c.args.lines.now h.Plan c.args.at.now c.part.new.at c.in_ok-inside.inside.now c.requires.numbered c.requires.few c.in_ok-inside.ensures);
}

pub returns : goal.returns
returns c = part_moves h.Plan plan_stands no_plan plan_numbers plan_closed (plan_kind plan_forms) c.args.bytes.now c.args.lines.now c.in_ok-inside.inside.now c.args.at.now c.part.new.at c.read_plan.result c.requires.numbered c.requires.reached c.in_ok-inside.ensures c.read_plan.ensures
