use Rattle.std.proofs.Common.{◌≡◌, ◌+◌, ◌-◌, length, drop, get_or, arith, length-append, ap}
use Rattle.std.proofs.lemmas.Option.{slice_get-get_or}
use Rattle.domain_checker.specs.Heads.{run_at}
use Rattle.domain_checker.proofs.Runs.{run_here, runs_more}
use Rattle.domain_checker.proofs.ways.runs_of.Goals as goal

pub lines-preserved : goal.lines-preserved
lines-preserved c =
    let place = c.lines.place - 1 in
    let x = get_or c.args.lines.now place c.index-lines-place.result in
    let behind : c.lines.place ≡ place + 1 = omega arith in
    let run : c.run_of-next.result ≡ run_at (drop place c.args.lines.now) place = run_here c.args.lines.now place c.lines.place x c.lines.next c.run_of-next.result behind c.lines.invariant.next (slice_get-get_or c.args.lines.now place c.index-lines-place.result (omega arith)) c.run_of-next.ensures in
    record {
      count = omega (arith, simp length-append at (ap length c.in_ok-push.ensures.ok));
      next = run;
      right = runs_more c.args.lines.now c.lines.runs c.push.new.self place c.lines.place c.run_of-next.result c.lines.invariant.right behind c.lines.invariant.count run c.in_ok-push.ensures.ok;
    }
