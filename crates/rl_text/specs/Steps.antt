-- What stands at a place of a line.
use Rattle.std.specs.Prelude.{◌≡◌, ℕ, ◌+◌, ◌-◌, ◌<◌, ◌≤◌, true, false, List, length, drop, None, Some}
use Rattle.rl_text.specs.declared.scan.Next.{Next}
use Rattle.rl_text.specs.declared.scan.Next.TheVariants.{End, Stray, Found}
use Rattle.rl_text.specs.declared.scan.Scanned.{Scanned}
use Rattle.rl_text.specs.Scan.{blanks, is_end, token_at}
use Rattle.rl_text.specs.Lexemes.{token_of}

-- the bytes behind the blanks at the front
abbrev pub body : List ℕ → List ℕ
body bytes = drop (blanks bytes) bytes

-- a token stands behind the blanks
pub record IsNext (line : List ℕ) (place : ℕ) (s : Scanned) : Type 0 where
  pub goes_on : is_end (body (drop place line)) ≡ false
  pub read : token_at (body (drop place line)) ≡ Some (token_of line s.lexeme, s.stop - s.start)
  pub begins : s.start ≡ place + blanks (drop place line)
  pub some : s.start < s.stop
  pub within : s.stop ≤ length line

-- nothing is left but a comment, no token stands there, or this one does
abbrev pub Steps : List ℕ → ℕ → Next → Type 0
Steps line place End = is_end (body (drop place line)) ≡ true
Steps line place Stray = (is_end (body (drop place line)) ≡ false) × (token_at (body (drop place line)) ≡ None)
Steps line place (Found s) = IsNext line place s
