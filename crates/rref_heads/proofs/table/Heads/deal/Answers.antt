use Rattle.std.proofs.Common.{rules, ◌≡◌, ℕ, ◌+◌, ◌-◌, ◌<◌, ◌≤◌, ◌∙◌, [], length, sym, ap, subst, arith}
use Rattle.machine_defs.specs.declared.heads.View.{View}
use Rattle.machine_defs.specs.Heads.{empty}
use Rattle.machine_defs.specs.HeadSteps.{one_fewer}
use Rattle.rref_heads.specs.Plays.{Seated}
use Rattle.rref_heads.specs.Passes.{AreFresh}
use Rattle.rref_heads.proofs.SeatsMeet.{splits}
use Rattle.rref_heads.proofs.PassLists.{fresh_more}
use Rattle.rref_heads.proofs.table.Heads.deal.Goals as goal

pub split_seat-other-requires : goal.split_seat-other-requires
split_seat-other-requires c = let t = c.args.self.now in let i = c.loop-number.invariant in let n : ℕ = c.loop-number.number in let before : n < t.seats - 1 = c.loop-number-test.true in
    let v : View = c.loop-number.seat.me.0 in let many : v.passes ≡ t.seats - n = ap (λ (m : Seated). m.0.passes) i.1 in (
      search rules,
      search rules,
      splits t.table.shared.key c.loop-number.seat.id v (omega arith),
    )

pub loop-number-preserved : goal.loop-number-preserved
loop-number-preserved c = let t = c.args.self.now in let i = c.loop-number.invariant in let n : ℕ = c.loop-number.number in let cut = c.split_seat-other.ensures in let more = c.in_ok-push.ensures.items in
    let rest : t.seats - n - 1 ≡ t.seats - (n + 1) = omega arith in let long = c.in_ok-push.ensures.len in (
      cut.0 ∙ i.0,
      cut.2 ∙ ap (λ (m : Seated). (one_fewer m.0, m.1)) i.1 ∙ ap (λ (z : ℕ). (empty z, [])) rest,
      search rules,
      subst (AreFresh t 0) (sym more) (fresh_more t 0 n c.loop-number.passes.items _ i.3 (sym i.2) (cut.3 ∙ i.0) (let z : n ≡ 0 + n = omega arith in z) (ap (λ (m : Seated). m.0) cut.4)),
    )

pub returns : goal.returns
returns c = let t = c.args.self.now in let i = c.loop-number.invariant in let n : ℕ = c.loop-number.number in let after : t.seats - 1 ≤ n = c.loop-number-test.false in let end = c.loop-number.auto.number-end in
    let few = t.few.0 in let last : ℕ = t.seats - 1 in let is : n ≡ last = omega arith in let more = c.in_ok-push-2.ensures.items in let one : t.seats - n ≡ 1 = omega arith in let long = c.in_ok-push-2.ensures.len in (
      (let z : length c.loop-number.passes.items ≡ n = i.2 in omega arith),
      subst (AreFresh t 0) (sym more)
          (fresh_more t 0 n c.loop-number.passes.items _ i.3 (sym i.2) i.0 (let z : last ≡ 0 + n = omega arith in z) (ap (λ (m : Seated). m.0) i.1 ∙ ap empty one)),
    )
