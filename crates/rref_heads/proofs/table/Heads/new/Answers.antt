use Rattle.std.proofs.Common.{rules, ◌≡◌, ℕ, ◌+◌, ◌∙◌, List, replicate, None, sym, refl, subst}
use Rattle.atomic_table.specs.Table.{opening}
use Rattle.machine_defs.specs.declared.heads.Size.{Size}
use Rattle.machine_defs.specs.Heads.{first}
use Rattle.rref_heads.specs.Plays.{Holds}
use Rattle.rref_heads.proofs.SeatsMeet.{starts}
use Rattle.rref_heads.proofs.table.Heads.new.Goals as goal

pub vacant-requires : goal.vacant-requires
vacant-requires c = let n : ℕ = c.args.heads in let size : Size = record { heads = c.args.heads; seats = c.args.seats } in let r = c.requires in
    let is : c.as_slice.result.now ≡ replicate (n + 1) 0 = c.as_slice.ensures.value ∙ c.in_ok-words.ensures.items_if_clones_equal (λ y e. search (rules, e)) in
    subst (λ (ws : List ℕ). Holds size (opening ws (replicate n None) (first size))) (sym is) (starts size n refl r.3 r.2)
