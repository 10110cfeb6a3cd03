use Rattle.std.proofs.Common.{◌≡◌, ◌∙◌, ℕ, ap, subst, length, replicate, arith, refl}
use Rattle.rl_defs.specs.declared.load.LoadRows.{LoadRows}
use Rattle.rl_defs.specs.Valid.{Valid}
use Rattle.machine_defs.specs.State.{no_frames}
use Rattle.machine_defs.specs.declared.frame.Action.{Action}
use Rattle.trampolines.specs.Laid.{Laid}
use Rattle.machine_steps.proofs.Starting.{IsStart, start_kept, start_view}
use Rattle.machine_steps.proofs.machine.Machine.new.Goals as goal

-- what the parts are at the start
started : (c : goal.In_ok-log) → IsStart (record {
  load = c.args.load;
  proxies = c.in_ok-proxies.proxies;
  log = c.in_ok-log.log;
  heap = c.in_ok-heap.heap;
  instances = c.in_ok-instances.instances;
  stacks = c.in_ok-stacks.stacks;
  threads = c.in_ok-threads.threads;
  shadows = c.in_ok-shadows.shadows;
  blocks = c.in_ok-blocks.blocks;
  next_call = 1;
})
started c =
    let stacks = c.in_ok-stacks.ensures in
    let clients : c.len-clients.result ≡ length c.args.load.clients = c.len-clients.ensures ∙ ap (λ (L : LoadRows). length L.clients) c.rows-rows.ensures.value in
    let loads : c.len-loads.result ≡ length c.args.load.loads = c.len-loads.ensures ∙ ap (λ (L : LoadRows). length L.loads) c.rows-rows.ensures.value in
    record {
      log = c.in_ok-log.ensures.0;
      spare = c.in_ok-log.ensures.1;
      rows = c.in_ok-heap.ensures.0;
      clients = omega (arith, clients, c.in_ok-heap.ensures.1);
      owners = omega (arith, loads, c.in_ok-heap.ensures.2);
      instances = c.in_ok-instances.ensures;
      frames = ap (λ (laid : Laid Action). laid.frames) stacks ∙ ap (λ (n : ℕ). replicate n no_frames) clients;
      counts = ap (λ (laid : Laid Action). laid.instances) stacks ∙ loads;
      threads = c.in_ok-threads.ensures;
      shadows = c.in_ok-shadows.ensures;
      blocks = c.in_ok-blocks.ensures ∙ ap (λ (n : ℕ). replicate n (replicate 64 0)) (c.from.ensures ∙ ap (λ (L : LoadRows). L.blocks) c.rows-rows.ensures.value);
      call = refl;
      proxies = c.in_ok-proxies.ensures;
    }

pub invariant_of-result : goal.invariant_of-result
invariant_of-result c = start_kept (subst (λ (L : LoadRows). Valid L) c.load.view_is c.load.invariant) c.requires.code (started c)

pub returns : goal.returns
returns c = start_view (started c)
