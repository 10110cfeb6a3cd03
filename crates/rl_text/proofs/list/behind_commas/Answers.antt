use Rattle.std.proofs.Common.{rules}
use Rattle.rl_text.proofs.ManyLaws.{is_true, is_false, goes_on, fails, stops, falls}
use Rattle.rl_text.proofs.list.behind_commas.Goals as goal

pub returns-in_err-item : goal.returns-in_err-item
returns-in_err-item g c = let f = fails g.I.Item.item_at _ _ _ _ c.read.new.left c.read.new.left _ (λ v. v) (λ v. v) c.items.invariant (is_true _ _ _ c.items-test.true c.skip_mark.ensures) c.in_err-item.ensures.gives in search rules

pub items-smaller : goal.items-smaller
items-smaller g c = falls _ _ _ (is_true _ _ _ c.items-test.true c.skip_mark.ensures) c.in_ok-item.ensures.fewer

pub items-preserved : goal.items-preserved
items-preserved g c = let p = goes_on g.I.Item.item_at _ _ _ _ _ _ c.items.invariant (is_true _ _ _ c.items-test.true c.skip_mark.ensures) c.in_ok-item.ensures.gives c.in_ok-item.ensures.fewer in rw c.in_ok-push.ensures.items p

pub returns : goal.returns
returns g c = let none = is_false _ _ _ c.items-test.false c.skip_mark.ensures in stops g.I.Item.item_at _ _ _ _ c.items.invariant none.0 none.1
