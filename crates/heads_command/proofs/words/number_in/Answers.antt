use Rattle.std.proofs.Common.{◌≡◌, ℕ, ◌<◌, ◌≤◌, ◌^◌, List, [], ◌++◌, length, sym, ◌∙◌, arith, ap, refl}
use Rattle.std.proofs.lemmas.List.{append-nil}
use Rattle.std.specs.Fmt.{decimal}
use Rattle.heads_command.proofs.SpelledNumbers.{one_number}
use Rattle.heads_command.proofs.words.number_in.Goals as goal
use Rattle.heads_command.proofs.words.number_in.Goals.{then-n-eq0-via-then-n-eq0, then-n-eq0-via-else-n-eq0+then-n-from}

pub returns-in_err-n : goal.returns-in_err-n
returns-in_err-n c = rw c.from_residual.ensures (λ n is. c.in_err-n.ensures.none n [] (let f = is.few in omega arith) refl (is.spells ∙ sym (append-nil (decimal n))))

pub returns-then-not-is_empty : goal.returns-then-not-is_empty
returns-then-not-is_empty c n is = let found = c.in_ok-n.ensures.found in let x = one_number c.args.word.now c.in_ok-n.rest.now c.in_ok-n.n n found.0 found.1 found.2 is in
    let z = rw x.1 at c.is_empty.ensures in cc

pub returns-then-n-eq0 : goal.returns-then-n-eq0
returns-then-n-eq0 c n is = let found = c.in_ok-n.ensures.found in let x = one_number c.args.word.now c.in_ok-n.rest.now c.in_ok-n.n n found.0 found.1 found.2 is in let few = is.few in let some = is.some in
    elim c.then-n-eq0.branch [
      | then-n-eq0-via-then-n-eq0 w ↦ omega (arith, x.0, some, w.if-n-eq0.true)
      | then-n-eq0-via-else-n-eq0+then-n-from w ↦ omega (arith, x.0, few, w.if-n-from.true, w.from.ensures)
    ]
