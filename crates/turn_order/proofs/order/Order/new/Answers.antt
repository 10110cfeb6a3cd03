use Rattle.std.proofs.Common.{◌∙◌, length, ap, arith}
use Rattle.rl_defs.specs.declared.load.LoadRows.{LoadRows}
use Rattle.turn_order.proofs.Naming.{order_is}
use Rattle.turn_order.proofs.order.Order.new.Goals as goal

pub returns : goal.returns
returns c = order_is c.args.load.now c.named_by-named.result _ _ _ _ _ _
    (c.as_slice.ensures ∙ ap (λ (R : LoadRows). R.order) c.rows-rows.ensures.value)
    (c.as_slice-2.ensures ∙ ap (λ (R : LoadRows). R.order) c.rows-rows.ensures.value)
    (c.len.ensures ∙ ap (λ (R : LoadRows). length R.clients) c.rows-rows.ensures.value)
    (omega (arith, ap (λ (R : LoadRows). length R.clients) c.rows-rows.ensures.value, c.rows-rows.ensures.valid.few_clients))
    c.named_by-named.ensures c.new-clients.ensures.items c.in_ok-extend_from_slice.ensures.items c.in_ok-put_others.ensures
