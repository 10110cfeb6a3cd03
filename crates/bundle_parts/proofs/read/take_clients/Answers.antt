use Rattle.std.proofs.Common.{map, arith}
use Rattle.rl_text.specs.Places.{text_of}
use Rattle.bundle_syntax.proofs.ClientLaws.{client_forms}
use Rattle.bundle_parts.specs.declared.header.Header.TheVariants as h
use Rattle.bundle_parts.specs.Parts.{clients_stand, no_clients, client_numbers, clients_closed}
use Rattle.bundle_parts.proofs.PartKinds.{client_kind, cut_numbered, cut_room, part_moves}
use Rattle.bundle_parts.proofs.read.take_clients.Goals as goal

pub read_clients-requires : goal.read_clients-requires
read_clients-requires c = record {
  numbered = cut_numbered c.args.bytes.now c.args.lines.now (map (text_of c.args.bytes.now) c.args.lines.now) h.Clients c.args.at.now c.part.new.at c.in_ok-inside.inside.now c.requires.numbered c.in_ok-inside.ensures;
  room = omega (arith, cut_room c.args.bytes.now c.args.lines.now h.Clients c.args.at.now c.part.new.at c.in_ok-inside.inside.now c.requires.numbered c.requires.few c.in_ok-inside.ensures);
}

pub returns : goal.returns
returns c = part_moves h.Clients clients_stand no_clients client_numbers clients_closed (client_kind client_forms) c.args.bytes.now c.args.lines.now c.in_ok-inside.inside.now c.args.at.now c.part.new.at c.read_clients.result c.requires.numbered c.requires.reached c.in_ok-inside.ensures c.read_clients.ensures
