use Rattle.std.proofs.Common.{◌≡◌, ◌+◌, ◌++◌, [], ◌∷◌, take, sym, ap, ◌∙◌, arith}
use Rattle.std.proofs.lemmas.List.{take_more}
use Rattle.machine_defs.specs.declared.entry.Entry.{Entry}
use Rattle.machine_defs.specs.Texts.{tally}
use Rattle.machine_defs.specs.Entries.{thread_of}
use Rattle.history_text.specs.Tallies.{told, told_of}
use Rattle.history_text.proofs.Histories.{few_told, replied, told_more}
use Rattle.history_text.proofs.replies.put_replies.Goals as goal

pub put_reply-requires : goal.put_reply-requires
put_reply-requires c =
    let same : told c.tally_of-tally.result ≡ tally c.thread_of.result (take c.each.entry-index c.args.entries.now) =
    c.tally_of-tally.ensures ∙ rw c.deref.ensures.value (c.each.invariant.tallies c.thread_of.result) in
    omega (arith, few_told (told c.tally_of-tally.result) c.thread_of.result c.each.entry-index c.args.entries.now same (omega arith))

pub tell-requires-clause-calls : goal.tell-requires-clause-calls
tell-requires-clause-calls c =
    let t = thread_of c.entry-item.result in
    omega (arith, few_told (told_of c.each.tallies.items t) t c.each.entry-index c.args.entries.now (c.each.invariant.tallies t) (omega arith))

pub tell-requires-clause-commands : goal.tell-requires-clause-commands
tell-requires-clause-commands c =
    let t = thread_of c.entry-item.result in
    omega (arith, few_told (told_of c.each.tallies.items t) t c.each.entry-index c.args.entries.now (c.each.invariant.tallies t) (omega arith))

pub each-preserved : goal.each-preserved
each-preserved c =
    let more : take (c.each.entry-index + 1) c.args.entries.now ≡ take c.each.entry-index c.args.entries.now ++ c.entry-item.result ∷ [] =
    take_more c.args.entries.now c.each.entry-index c.entry-item.result (omega arith) ∙ ap (λ (e : Entry). take c.each.entry-index c.args.entries.now ++ e ∷ []) (sym c.entry-item.is) in
    let same : told c.tally_of-tally.result ≡ tally (thread_of c.entry-item.result) (take c.each.entry-index c.args.entries.now) =
    c.tally_of-tally.ensures ∙ rw (c.deref.ensures.value, c.thread_of.ensures) (c.each.invariant.tallies (thread_of c.entry-item.result)) in
    record {
      out = replied c.args.spellings.now c.args.entries.now c.each.entry-index c.entry-item.result c.args.out.now.items c.each.out.items c.put_reply.new.out.items (told c.tally_of-tally.result) more c.each.invariant.out same c.in_ok-put_reply.ensures.ok;
      tallies = λ t. told_more t c.each.entry-index c.args.entries.now c.entry-item.result (told_of c.each.tallies.items t) (told_of c.tell.new.tallies.items t) more (c.each.invariant.tallies t) (c.in_ok-tell.ensures t);
    }
