use Rattle.std.proofs.Common.{map, arith}
use Rattle.rl_text.specs.Places.{text_of}
use Rattle.bundle_parts.specs.declared.header.Header.TheVariants as h
use Rattle.bundle_parts.specs.Parts.{domains_stand, no_domains, numbers_of_domains, domains_closed}
use Rattle.bundle_parts.proofs.PartKinds.{domain_kind, cut_numbered, cut_room, part_moves}
use Rattle.bundle_parts.proofs.read.take_domains.Goals as goal

pub read_domains-requires : goal.read_domains-requires
read_domains-requires c = record {
  numbered = cut_numbered c.args.bytes.now c.args.lines.now (map (text_of c.args.bytes.now) c.args.lines.now) h.Domains c.args.at.now c.part.new.at c.in_ok-inside.inside.now c.requires.numbered c.in_ok-inside.ensures;
  room = omega (arith, cut_room c.args.bytes.now c.args.lines.now h.Domains c.args.at.now c.part.new.at c.in_ok-inside.inside.now c.requires.numbered c.requires.few c.in_ok-inside.ensures);
}

pub returns : goal.returns
returns c = part_moves h.Domains domains_stand no_domains numbers_of_domains domains_closed domain_kind c.args.bytes.now c.args.lines.now c.in_ok-inside.inside.now c.args.at.now c.part.new.at c.read_domains.result c.requires.numbered c.requires.reached c.in_ok-inside.ensures c.read_domains.ensures
