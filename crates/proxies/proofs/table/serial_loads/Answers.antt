use Rattle.std.proofs.Common.{arith, ◌+◌}
use Rattle.std.proofs.lemmas.List.FromFn.{map-range_with_len_more}
use Rattle.rl_defs.specs.Domains.{is_serial}
use Rattle.proxies.proofs.table.serial_loads.Goals as goal

pub loads-preserved : goal.loads-preserved
loads-preserved c =
    let more = map-range_with_len_more (is_serial c.args.rows.now) 1 c.loads.before (c.loads.before + 1) (omega arith) in
    cc (more, c.in_ok-push.ensures.items)
