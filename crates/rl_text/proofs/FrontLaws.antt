-- What is found at a place of a line stands within it.
use Rattle.std.proofs.Common.{ℕ, ◌+◌, ◌<◌, ◌≤◌, List, length, drop, Option, None, Some, arith}
use Rattle.std.specs.Prelude.{IfSome}
use Rattle.std.proofs.lemmas.List.{length-drop}
use Rattle.rl_text.specs.Scan.{token_at}
use Rattle.rl_text.specs.Lexemes.{token_of, Scans}
use Rattle.rl_text.specs.declared.scan.Front.{Front}
use Rattle.rl_text.proofs.FoundLaws.{token_at-found}

pub front_within : (line : List ℕ) (place : ℕ) (r : Option Front) → place ≤ length line → Scans line r (token_at (drop place line)) → IfSome r (λ f. (0 < f.count) × (place + f.count ≤ length line))
front_within line place None le h = tt
front_within line place (Some f) le h = let x = token_at-found (drop place line) (token_of line f.lexeme) f.count h in (x.some, omega (arith, x.within, length-drop place line))
