use Rattle.std.proofs.Common.{◌≡◌, ℕ, ◌+◌, ◌∙◌, List, ◌++◌, take, get_or, sym, ap, arith, append_assoc, add-one}
use Rattle.machine_defs.specs.declared.heads.HeadWord.{HeadWord}
use Rattle.machine_defs.specs.declared.heads.HeadWord.TheVariants.{Vacant}
use Rattle.heads_command.specs.HeadsText.{row_text, rows_text}
use Rattle.heads_command.proofs.Lines.{one_row_more}
use Rattle.heads_command.proofs.text.put_rows.Goals as goal

pub loop-at-preserved : goal.loop-at-preserved
loop-at-preserved c = let n : ℕ = c.loop-at.at in let words : List HeadWord = c.args.words.now in let out : List ℕ = c.args.out.now.items in
    let row : List ℕ = row_text (n + 1) (get_or words n Vacant) in let swap : n + 1 ≡ 1 + n = omega arith in
    c.in_ok-put_row.ensures ∙ ap (λ (l : List ℕ). l ++ row) c.loop-at.invariant ∙ append_assoc out (rows_text 1 (take n words)) row
    ∙ ap (λ (l : List ℕ). out ++ l) (ap (λ (k : ℕ). rows_text 1 (take n words) ++ row_text k (get_or words n Vacant)) swap ∙ sym (one_row_more 1 n words c.loop-at-test.true) ∙ ap (λ (k : ℕ). rows_text 1 (take k words)) (sym (add-one n)))
