use Rattle.machine_defs.specs.Runs.{AllDone}
use Rattle.domain_machine.specs.Finished.{IsLong, LacksMemory}
use Rattle.domain_machine.proofs.Going.{ran_none, ran_more, room_shrinks, ends_with}
use Rattle.domain_machine.proofs.world.World.finish.Goals as goal

pub rounds-init : goal.rounds-init
rounds-init c = ran_none c.args.self.now

pub round-requires : goal.round-requires
round-requires c = c.rounds.invariant.within

pub rounds-smaller : goal.rounds-smaller
rounds-smaller c = room_shrinks c.rounds.self c.round.new.self c.rounds.place c.in-Went.next c.in-Went.ensures

pub rounds-preserved : goal.rounds-preserved
rounds-preserved c = ran_more c.args.self.now c.rounds.self c.round.new.self c.rounds.place c.in-Went.next c.rounds.invariant c.in-Went.ensures

pub returns-in-AllDone : goal.returns-in-AllDone
returns-in-AllDone c =
    ends_with c.args.self.now c.rounds.self c.round.new.self c.rounds.place (λ w. AllDone w.state) c.rounds.invariant c.in-AllDone.ensures.0
    c.in-AllDone.ensures.1

pub returns-in-Long : goal.returns-in-Long
returns-in-Long c =
    ends_with c.args.self.now c.rounds.self c.round.new.self c.rounds.place (λ w. IsLong w) c.rounds.invariant c.in-Long.ensures.0 c.in-Long.ensures.1

pub returns-in-Memory : goal.returns-in-Memory
returns-in-Memory c =
    ends_with c.args.self.now c.rounds.self c.round.new.self c.rounds.place (λ w. LacksMemory w) c.rounds.invariant c.in-Memory.ensures.0
    c.in-Memory.ensures.1
