-- A bundle's forms, and what is behind them.
use Rattle.std.proofs.Common.{◌≡◌, ℕ, List, sym}
use Rattle.std.specs.Prelude.{Result, Ok, Err}
use Rattle.rl_defs.specs.declared.LoadFault.{LoadFault}
use Rattle.rl_defs.specs.declared.LoadFault.TheVariants.{Refused, Memory}
use Rattle.rl_defs.specs.declared.bundle.Bundle.{Bundle}
use Rattle.rl_defs.specs.declared.load.LoadRows.{LoadRows}
use Rattle.rl_defs.specs.Refusals.{Nowhere, Answers}
use Rattle.rl_defs.specs.Lines.{lines_of}
use Rattle.rl_defs.specs.BundleParts.{FailsForms, IsBundle}
use Rattle.rl_defs.specs.Acceptance.{Fails, FailsBehindForms, Accepted}
use Rattle.rl_defs.proofs.FirstRefusal.{second_answers, error_stays}
use Rattle.domain_loader.specs.Phases.{IsLoadOf}

accepts : (bytes : List ℕ) (b : Bundle) → IsBundle (lines_of bytes) b → (r : Result LoadRows LoadFault) → Answers {X = LoadRows} (Fails bytes) (IsLoadOf b) r → Answers {X = LoadRows} (Fails bytes) (Accepted bytes) r
accepts bytes b is (Ok L) h = (h.0, record { keeps = h.0; bundle = b; tables = h.1.tables; lines = is; rows = h.1.rows; stands = h.1.stands })
accepts bytes b is (Err (Refused at)) h = h
accepts bytes b is (Err Memory) h = h

-- where no form fails, what is behind the forms decides
pub behind_forms : (bytes : List ℕ) (b : Bundle) (r : Result LoadRows LoadFault) → ((c : Bundle) → IsBundle (lines_of bytes) c → c ≡ b) → Nowhere (FailsForms (lines_of bytes)) → IsBundle (lines_of bytes) b → Answers {X = LoadRows} (FailsBehindForms b) (IsLoadOf b) r → Answers {X = LoadRows} (Fails bytes) (Accepted bytes) r
behind_forms bytes b r one none is h = accepts bytes b is r (second_answers {X = Bundle} {Y = LoadRows} (FailsForms (lines_of bytes)) (IsBundle (lines_of bytes)) FailsBehindForms (IsLoadOf b) b none is one r h)

pub forms_refused : (bytes : List ℕ) (e : LoadFault) → Answers {X = Bundle} (FailsForms (lines_of bytes)) (IsBundle (lines_of bytes)) (Err e) → Answers {X = LoadRows} (Fails bytes) (Accepted bytes) (Err e)
forms_refused bytes e h = error_stays {X = Bundle} {Y = LoadRows} (FailsForms (lines_of bytes)) (IsBundle (lines_of bytes)) FailsBehindForms (Accepted bytes) e h
