use Rattle.std.proofs.Common.{◌≡◌, ℕ, suc, ◌+◌, ◌∙◌, List, [], ◌∷◌, ◌++◌, map, reverse, length, sym, refl, ap, subst, arith, length-append}
use Rattle.machine_defs.specs.declared.heads.View.{View}
use Rattle.machine_defs.specs.Heads.{head_of}
use Rattle.rref_heads.specs.Passes.{view}
use Rattle.heads_command.specs.Workers.{AreHeads}
use Rattle.heads_command.proofs.Counts.{last_first, among_snoc, first_title}
use Rattle.heads_command.proofs.workers.end_all.Goals as goal

pub end-requires-clause-own : goal.end-requires-clause-own
end-requires-clause-own c = let t = c.args.table.now in let i = c.loop-h.invariant in let h : ℕ = c.in-Some.h in let rest : List ℕ = c.pop.new.self.items in let e : c.loop-h.held.items ≡ rest ++ h ∷ [] = c.in-Some.ensures.items in
    let a = among_snoc t.heads rest h (subst (AreHeads t.heads) e i.1.1) in (i.0, (a.1, a.2))

pub end-requires-clause-title : goal.end-requires-clause-title
end-requires-clause-title c = let i = c.loop-h.invariant in let h : ℕ = c.in-Some.h in let rest : List ℕ = c.pop.new.self.items in let e : c.loop-h.held.items ≡ rest ++ h ∷ [] = c.in-Some.ensures.items in let v : View = view c.loop-h.pass in
    (first_title v.titles h (reverse rest) (i.1.0 ∙ ap reverse e ∙ last_first rest h)).0

pub loop-h-preserved-in-Some-end : goal.loop-h-preserved-in-Some-end
loop-h-preserved-in-Some-end c = let t = c.args.table.now in let n : ℕ = t.heads in let i = c.loop-h.invariant in let h : ℕ = c.in-Some.h in let rest : List ℕ = c.pop.new.self.items in let e : c.loop-h.held.items ≡ rest ++ h ∷ [] = c.in-Some.ensures.items in
    let a = among_snoc n rest h (subst (AreHeads n) e i.1.1) in let v : View = view c.loop-h.pass in let taken = (first_title v.titles h (reverse rest) (i.1.0 ∙ ap reverse e ∙ last_first rest h)).1 in
    let did = c.in-Some-end.ensures.view in let long = length-append rest (h ∷ []) in let all : length c.loop-h.held.items ≡ length (rest ++ h ∷ []) = ap length e in let one : length (h ∷ []) ≡ 1 = refl in let room = i.3 in (
      c.end.ensures.same.0 ∙ i.0,
      (
        ap (λ (v : View). map head_of v.titles) did ∙ taken,
        a.0,
        ap (λ (v : View). v.claims) did ∙ i.1.2,
        ap (λ (v : View). v.loans) did ∙ i.1.3,
        ap (λ (v : View). v.rights) did ∙ i.1.4,
      ),
      (
        ap (λ (v : View). length v.released) did ∙ (let z : suc (length v.released) ≡ c.loop-h.got + 1 = (let y = i.2.0 in omega arith) in z),
        subst (AreHeads n) (sym (ap (λ (v : View). v.released) did)) (a.1, a.2, i.2.1),
      ),
      (omega arith),
    )

pub loop-h-preserved : goal.loop-h-preserved
loop-h-preserved c = let t = c.args.table.now in let n : ℕ = t.heads in let i = c.loop-h.invariant in let h : ℕ = c.in-Some.h in let rest : List ℕ = c.pop.new.self.items in let e : c.loop-h.held.items ≡ rest ++ h ∷ [] = c.in-Some.ensures.items in
    let a = among_snoc n rest h (subst (AreHeads n) e i.1.1) in let v : View = view c.loop-h.pass in let taken = (first_title v.titles h (reverse rest) (i.1.0 ∙ ap reverse e ∙ last_first rest h)).1 in
    let did = c.in-None.ensures.view in let long = length-append rest (h ∷ []) in let all : length c.loop-h.held.items ≡ length (rest ++ h ∷ []) = ap length e in let one : length (h ∷ []) ≡ 1 = refl in let room = i.3 in (
      c.end.ensures.same.0 ∙ i.0,
      (
        ap (λ (v : View). map head_of v.titles) did ∙ taken,
        a.0,
        ap (λ (v : View). v.claims) did ∙ i.1.2,
        ap (λ (v : View). v.loans) did ∙ i.1.3,
        ap (λ (v : View). v.rights) did ∙ i.1.4,
      ),
      (ap (λ (v : View). length v.released) did ∙ i.2.0, subst (AreHeads n) (sym (ap (λ (v : View). v.released) did)) i.2.1),
      (omega arith),
    )
