use Rattle.std.proofs.Common.{◌++◌, List, ap, ◌∙◌, append_assoc}
use Rattle.std.specs.List.{flat_map}
use Rattle.machine_defs.specs.declared.values.Owner.TheVariants as owner
use Rattle.heap_report.specs.KeptAccounts.{Account}
use Rattle.heap_report.specs.Lines.{left_line, account_lines}
use Rattle.heap_report.proofs.Lines.{both, puts_after}
use Rattle.heap_report.proofs.report.put_report.Goals as goal

pub returns : goal.returns
returns c =
    let out = c.args.out.now.items in
    let objects = flat_map (left_line c.args.load.now c.args.reading.now.objects.rows.items) c.args.left.now in
    let clients = account_lines owner.Client 1 c.deref.result.now in
    let instances = account_lines owner.Instance 1 c.deref-2.result.now in
    let two = both out c.put_objects.new.out.items c.put_clients.new.out.items objects clients c.in_ok-put_objects.ensures c.in_ok-put_clients.ensures in
    puts_after c.put_instances.result out c.put_clients.new.out.items c.put_instances.new.out.items _ _ _ two c.put_instances.ensures
    (append_assoc objects clients instances
    ∙ (ap (λ (rows : List Account). objects ++ (account_lines owner.Client 1 rows ++ instances)) c.deref.ensures.value
    ∙ ap (λ (rows : List Account). objects ++ (account_lines owner.Client 1 c.args.reading.now.accounts.clients.items ++ account_lines owner.Instance 1 rows)) c.deref-2.ensures.value))
