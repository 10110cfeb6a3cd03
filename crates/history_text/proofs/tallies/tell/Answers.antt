use Rattle.std.proofs.Common.{ℕ, List, ◌≡◌, ◌<◌, ◌≤◌, length, set, ap, ◌∙◌, arith}
use Rattle.machine_defs.specs.Texts.{tally_of_own}
use Rattle.history_text.specs.declared.tallies.ThreadTally.{ThreadTally}
use Rattle.history_text.specs.Tallies.{told_of}
use Rattle.history_text.proofs.KeptTallies.{kept, place, put_at, put_last, told_after}
use Rattle.history_text.proofs.tallies.tell.Goals as goal

pub returns-then-place-len : goal.returns-then-place-len
returns-then-place-len c =
    let ts = c.args.tallies.now.items in
    let t = c.thread_of-thread.result in
    let y = c.tally_after-tally.result in
    let at : c.place_of-place.result ≡ place ts t = c.place_of-place.ensures ∙ ap (λ (xs : List ThreadTally). place xs t) c.deref-2.ensures.value in
    let less : place ts t < length ts = omega (arith, c.len.ensures, c.args.tallies.now.ok.0) in
    let own = c.tally_after-tally.ensures ∙ ap (tally_of_own c.args.entry.now) (c.tally_of.ensures ∙ ap (λ (xs : List ThreadTally). told_of xs t) c.deref.ensures.value) in
    λ u. told_after ts (set ts c.place_of-place.result (kept t y)) c.args.entry.now y t u c.thread_of-thread.ensures (ap (λ (n : ℕ). set ts n (kept t y)) at ∙ put_at ts t y less) own

pub returns : goal.returns
returns c =
    let ts = c.args.tallies.now.items in
    let t = c.thread_of-thread.result in
    let y = c.tally_after-tally.result in
    let at : c.place_of-place.result ≡ place ts t = c.place_of-place.ensures ∙ ap (λ (xs : List ThreadTally). place xs t) c.deref-2.ensures.value in
    let past : length ts ≤ place ts t = omega (arith, c.len.ensures, c.args.tallies.now.ok.0) in
    let own = c.tally_after-tally.ensures ∙ ap (tally_of_own c.args.entry.now) (c.tally_of.ensures ∙ ap (λ (xs : List ThreadTally). told_of xs t) c.deref.ensures.value) in
    λ u. told_after ts c.push.new.self.items c.args.entry.now y t u c.thread_of-thread.ensures (c.in_ok-push.ensures.items ∙ put_last ts t y past) own
