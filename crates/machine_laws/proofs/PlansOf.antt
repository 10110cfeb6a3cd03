-- The targets and the slots of a valid load are as the laws of the ledger ask it.
use Rattle.rl_defs.specs.declared.load.LoadRows.{LoadRows}
use Rattle.rl_defs.specs.Valid.{Valid}
use Rattle.rl_defs.proofs.ValidFacts.{shadow_loads, target_within, target_there, slots_apart}
use Rattle.machine_laws.specs.LedgerSound.{IsPlan}

pub plan_of : (L : LoadRows) → Valid L → IsPlan L
plan_of L valid = record {
  targets = target_within L (shadow_loads L valid);
  some_load = target_there L (shadow_loads L valid);
  slots = λ k j l name at_j at_k. slots_apart L valid l j k name at_j at_k;
}
