use Rattle.proxies.proofs.crossing.holder.Goals as goal

pub returns-clause-holder : goal.returns-clause-holder
returns-clause-holder g c shadows h is = record { holds = (c.holder.ensures.least h is).0; least = (c.holder.ensures.least h is).1 }
