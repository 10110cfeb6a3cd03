use Rattle.std.proofs.Common.{[], refl, inl}
use Rattle.refusal_notes.specs.Notes.{place_text, rule_text}
use Rattle.refusal_notes.proofs.Shown.{two_parts}
use Rattle.refusal_notes.proofs.note.short_note.Goals as goal

pub returns : goal.returns
returns c =
    let says = c.as_bytes.result.now in
    record {
      column = 1;
      width = 0;
      says = says;
      hints = [];
      named = c.put_rule.new.out.items;
      points = refl;
      other = inl (two_parts c.new-out.result.items (place_text c.args.at.line 1) (rule_text c.args.at.rule says) c.put_place.new.out.items c.put_rule.new.out.items c.new-out.ensures.items c.in_ok-put_place.ensures c.in_ok-put_rule.ensures);
      is = c.in_ok-put_section.ensures;
    }
