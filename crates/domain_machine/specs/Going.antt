-- What comes of going round the order list until a client's turn is made.
use Rattle.std.specs.Prelude.{◌≡◌, ℕ, ◌<◌, length, Some}
use Rattle.machine_defs.specs.Runs.{AllDone, next_turn, order_of}
use Rattle.machine_steps.specs.Kept.{Kept}
use Rattle.machine_steps.specs.Turns.{WentBy}
use Rattle.domain_machine.specs.declared.world.Round.{Round}
use Rattle.domain_machine.specs.declared.world.Round.TheVariants as round
use Rattle.domain_machine.specs.Finished.{IsLong, LacksMemory}

-- The client made a step that comes next in going round from a place on. The next place is the one
-- after its own.
pub record WentNext (old new : Kept) (place next : ℕ) : Type 0 where
  pub client : ℕ
  pub comes : next_turn old.load old.state place ≡ Some (client, next)
  pub within : next < length (order_of old.load)
  pub went : WentBy old new client

-- what a round from a place on is answered
abbrev pub RoundAnswers : Kept → Kept → ℕ → Round → Type 0
RoundAnswers old new place (round.Went next) = WentNext old new place next
RoundAnswers old new place round.AllDone = (new ≡ old) × AllDone old.state
RoundAnswers old new place round.Long = (new ≡ old) × IsLong old
RoundAnswers old new place round.Memory = (new ≡ old) × LacksMemory old
