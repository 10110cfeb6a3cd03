use Rattle.std.proofs.Common.{◌≡◌, ℕ, ◌∙◌, List, [], ◌∷◌, ◌++◌, map, reverse, length, sym, ap, subst}
use Rattle.machine_defs.specs.declared.heads.View.{View}
use Rattle.machine_defs.specs.Heads.{head_of}
use Rattle.heads_command.specs.Workers.{AreHeads}
use Rattle.heads_command.proofs.Counts.{last_first, among_more}
use Rattle.heads_command.proofs.workers.claim_one.Goals as goal

pub returns-in-Ok-clause-held : goal.returns-in-Ok-clause-held
returns-in-Ok-clause-held c = let n : ℕ = c.args.table.now.heads in let h : ℕ = c.args.h in let r = c.requires.held in let own = c.requires.own.1 in let e = c.in-Ok.ensures.ok in let xs : List ℕ = c.args.held.now.items in
    let items : c.push_reserved.new.self.items ≡ xs ++ h ∷ [] = c.push_reserved.ensures.items ∙ ap (λ (l : List ℕ). l ++ h ∷ []) c.in_ok-reserve.ensures.items in (
      (
        ap (λ (v : View). map head_of v.titles) e ∙ ap (λ (l : List ℕ). h ∷ l) r.0.0 ∙ sym (ap reverse items ∙ last_first xs h),
        subst (AreHeads n) (sym items) (among_more n xs h r.0.1 own.0 own.1),
        ap (λ (v : View). v.claims) e ∙ r.0.2,
        ap (λ (v : View). v.loans) e ∙ r.0.3,
        ap (λ (v : View). v.rights) e ∙ r.0.4,
      ),
      (ap (λ (v : View). length v.released) e ∙ r.1.0, subst (AreHeads n) (sym (ap (λ (v : View). v.released) e)) r.1.1),
    )
