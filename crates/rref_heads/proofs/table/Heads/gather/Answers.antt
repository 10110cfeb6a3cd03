use Rattle.std.proofs.Common.{rules, ◌≡◌, ◌+◌, ◌∙◌, List, [], ◌∷◌, ◌++◌, length, refl, ap, subst, arith, length-append}
use Rattle.machine_defs.specs.declared.heads.View.{View}
use Rattle.rref_heads.specs.declared.table.Pass.{Pass}
use Rattle.machine_defs.specs.Heads.{how_many}
use Rattle.machine_defs.specs.HeadSteps.{both}
use Rattle.rref_heads.specs.Plays.{Seated}
use Rattle.rref_heads.specs.Passes.{AreEmpty, sum_over}
use Rattle.rref_heads.proofs.SeatsMeet.{joins, both_num}
use Rattle.rref_heads.proofs.PassLists.{sum_snoc, empty_snoc}
use Rattle.rref_heads.proofs.table.Heads.gather.Goals as goal

pub loop-pass-init : goal.loop-pass-init
loop-pass-init c = let t = c.args.self.now in let p : Pass = c.in-Some.field-0 in let rest : List Pass = c.pop.new.self.items in let e : c.args.passes.items ≡ rest ++ p ∷ [] = c.in-Some.ensures.items in
    let a = empty_snoc t rest p (subst (AreEmpty t) e c.requires.1) in let one = p.rests.1 in let long = length-append rest (p ∷ []) in let all : length c.args.passes.items ≡ length (rest ++ p ∷ []) = ap length e in (
      a.1,
      p.rests.0,
      (let z : length (p ∷ []) ≡ 1 = refl in omega arith),
      a.0,
      (λ k h. let s = sum_snoc k h rest p in let q : sum_over k h c.args.passes.items ≡ sum_over k h (rest ++ p ∷ []) = ap (sum_over k h) e in omega arith),
    )

pub join_seat-requires : goal.join_seat-requires
join_seat-requires c = let t = c.args.self.now in let i = c.loop-pass.invariant in let p : Pass = c.in-Some-pop.pass in let rest : List Pass = c.pop-in-loop-pass.new.self.items in let e : c.loop-pass.passes.items ≡ rest ++ p ∷ [] = c.in-Some-pop.ensures.items in
    let a = empty_snoc t rest p (subst (AreEmpty t) e i.3) in (
      i.0,
      a.1,
      p.rests.0,
      search rules,
      joins t.table.shared.key c.loop-pass.seat.id c.loop-pass.seat.me.0 p.seat.id p.seat.me.0,
    )

pub loop-pass-preserved : goal.loop-pass-preserved
loop-pass-preserved c = let t = c.args.self.now in let i = c.loop-pass.invariant in let p : Pass = c.in-Some-pop.pass in let rest : List Pass = c.pop-in-loop-pass.new.self.items in let e : c.loop-pass.passes.items ≡ rest ++ p ∷ [] = c.in-Some-pop.ensures.items in
    let a = empty_snoc t rest p (subst (AreEmpty t) e i.3) in let one = p.rests.1 in let long = length-append rest (p ∷ []) in let all : length c.loop-pass.passes.items ≡ length (rest ++ p ∷ []) = ap length e in
    let met = c.join_seat.ensures in let old : View = c.loop-pass.seat.me.0 in let many : c.join_seat.new.seat.me.0.passes ≡ old.passes + p.seat.me.0.passes = ap (λ (m : Seated). m.0.passes) met.2 in (
      met.0 ∙ i.0,
      ap (λ (m : Seated). m.1) met.2 ∙ i.1,
      (let z : length (p ∷ []) ≡ 1 = refl in let y = i.2 in omega arith),
      a.0,
      (λ k h. let s = sum_snoc k h rest p in let q : sum_over k h c.loop-pass.passes.items ≡ sum_over k h (rest ++ p ∷ []) = ap (sum_over k h) e in let b = both_num old p.seat.me.0 k h in
          let w : how_many k h c.join_seat.new.seat.me.0 ≡ how_many k h (both old p.seat.me.0) = ap (λ (m : Seated). how_many k h m.0) met.2 in let y = i.4 k h in omega arith),
    )
