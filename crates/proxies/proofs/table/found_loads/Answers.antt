use Rattle.std.proofs.Common.{sym, ◌∙◌, ap, arith, ◌+◌}
use Rattle.std.proofs.lemmas.List.FromFn.{map-range_with_len_more}
use Rattle.proxies.specs.Table.{Found, found_at, trait_of_load}
use Rattle.proxies.proofs.Found.{found_next, load_itself}
use Rattle.proxies.proofs.table.found_loads.Goals as goal

pub loads-preserved : goal.loads-preserved
loads-preserved c =
    let more = map-range_with_len_more (found_at c.args.rows.now) 1 c.loads.before (c.loads.before + 1) (omega arith) in
    let load = ap (λ (f : Found). f.load) c.found_in.ensures in
    let itself = load_itself c.args.rows.now c.loads.before (omega arith) in
    let next = found_next c.args.rows.now (c.loads.before + 1) c.found_in.result (load ∙ sym itself) (ap (λ (f : Found). f.has) c.found_in.ensures ∙ ap (trait_of_load c.args.rows.now) (sym load)) in
    cc (more, next, c.in_ok-push.ensures.items)
