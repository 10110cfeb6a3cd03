use Rattle.std.proofs.Common.{◌≡◌, ℕ, ◌+◌, ◌≤◌, List, ◌++◌, length, take, ap, ◌∙◌, rules, arith, length-append}
use Rattle.std.proofs.lemmas.Grind.{common_steps}
use Rattle.std.proofs.lemmas.List.{length-take-le, take-append-le, take-take}
use Rattle.std.proofs.Math.Seq.{take-append-add}
use Rattle.rl_io.proofs.Known.{Consumes-append, Consumes-keep}
use Rattle.rl_io.proofs.whole.read_whole.Goals as goal
use Rattle.rl_io.proofs.whole.read_whole.Goals.{else-filled-len-via-then-filled-len+else-is_err, else-filled-len-via-else-filled-len}

-- after n more bytes were written behind the first m
filled_more : (m n l : ℕ) (d b p e : List ℕ) → m ≤ length d → n ≤ length b → m + n ≤ l → take (m + n) (take l (take m d ++ (b ++ p) ++ e)) ≡ take m d ++ take n b
filled_more m n l d b p e h k i =
    let at : length (take m d) ≡ m = length-take-le m d h in
    let near : take n (b ++ p) ≡ take n b = take-append-le n b p k in
    let room : n ≤ length (b ++ p) = omega (arith, length-append b p) in
    let inside : m + n ≤ length (take m d ++ (b ++ p)) = omega (arith, at, length-append (take m d) (b ++ p)) in
    rw (take-take (m + n) l _ i, take-append-le (m + n) (take m d ++ (b ++ p)) e inside) (
    let seam = take-append-add (take m d) (b ++ p) n in
    (rw at at seam) ∙ ap (λ xs. take m d ++ xs) near)

pub returns-in-Ok-eq0-clause-not_long : goal.returns-in-Ok-eq0-clause-not_long
returns-in-Ok-eq0-clause-not_long g c = λ _. (c.truncate.new.self.items, search rules, grind (arith, common_steps))

pub takes-preserved : goal.takes-preserved
takes-preserved g c =
    let front : take c.takes.filled c.else-filled-len.bytes.items ≡ take c.takes.filled c.takes.bytes.items =
    elim c.else-filled-len.branch [
      | else-filled-len-via-then-filled-len+else-is_err w ↦ grind (arith, common_steps, w.lengthen.ensures.front)
      | else-filled-len-via-else-filled-len w ↦ cc
    ] in
    let room : c.takes.filled ≤ length c.deref_mut.result.now = grind (arith, common_steps) in
    let came : c.in-Ok.count ≤ length c.take.new.buf = search rules in
    let within : c.takes.filled + c.in-Ok.count ≤ c.else-filled-len.bytes.len = search rules in
    record {
      bytes = rw (filled_more, c.deref_mut.ensures.value, front) (Consumes-append _ _ _ _ _ c.takes.invariant.bytes c.in-Ok.ensures.bytes.0);
      within = search rules;
      later = search rules;
    }

pub returns-in-Err-clause-not_long : goal.returns-in-Err-clause-not_long
returns-in-Err-clause-not_long g c =
    λ _. (take c.takes.filled c.takes.bytes.items, search rules, Consumes-keep _ _ _ _ c.takes.invariant.bytes c.in-Err.ensures.bytes)
