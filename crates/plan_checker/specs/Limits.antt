-- Rule 46 in the domains and in the clients.
use Rattle.std.specs.Prelude.{◌≡◌, ℕ, ◌+◌, ◌<◌, ◌^◌, zero, suc, Bool, true, false, ◌||◌, nat_le, nat_lt, List, [], ◌∷◌, Option, Some, None, slice_get}
use Rattle.rl_defs.specs.declared.bundle.Numbered.{Numbered}
use Rattle.rl_defs.specs.declared.bundle.ClientLine.{ClientLine}
use Rattle.rl_defs.specs.declared.bundle.ClientLine.TheVariants as client
use Rattle.rl_defs.specs.declared.code.DomainLine.{DomainLine}
use Rattle.rl_defs.specs.declared.code.DomainLine.TheVariants as line
use Rattle.rl_defs.specs.Domains.{Lines}
use Rattle.rl_defs.specs.DomainValue.{Domain}
use Rattle.rl_defs.specs.BundleNames.{ClientLines, slot_given, client_given}
use Rattle.plan_checker.specs.LineScan.{LinesRise, FailsIn, given_before}

-- a line of a domain is too much behind so many slots
abbrev pub is_over_in_domain : ℕ → DomainLine → Bool
is_over_in_domain slots (line.Words n) = nat_lt 4096 n
is_over_in_domain slots (line.Slot name ty) = nat_le 64 slots
is_over_in_domain slots _ = false

abbrev pub FailsDomainLine : Lines → ℕ → DomainLine → ℕ → Type 0
FailsDomainLine lines place form rule = (rule ≡ 46) × (is_over_in_domain (given_before slot_given lines place) form ≡ true)

-- rule 46 in one of the domains
pub record FailsDomains (domains : List Domain) (n rule : ℕ) : Type 0 where
  pub number : ℕ
  pub domain : Domain
  pub there : slice_get domains number ≡ Some domain
  pub fails : FailsIn domain.lines (FailsDomainLine domain.lines) n rule

-- the lines of each domain are numbered upwards, and on from those of the domains before it
pub record DomainsRise (domains : List Domain) : Type 0 where
  pub each : (i : ℕ) (d : Domain) → slice_get domains i ≡ Some d → LinesRise d.lines
  pub apart : (i j : ℕ) (d e : Domain) (p q : ℕ) (x y : Numbered DomainLine) → i < j → slice_get domains i ≡ Some d → slice_get domains j ≡ Some e → slice_get d.lines p ≡ Some x → slice_get e.lines q ≡ Some y → x.line < y.line

-- nothing fails in the domains before one
pub record NoneBeforeDomain (domains : List Domain) (end : ℕ) : Type 0 where
  pub none : (i : ℕ) (d : Domain) (n rule : ℕ) → i < end → slice_get domains i ≡ Some d → FailsIn d.lines (FailsDomainLine d.lines) n rule → ⊥

-- How many commands of a client stand before a line, none outside of a client: so many behind the line, where so many stand before it.
abbrev pub commands_behind : Option ℕ → ClientLine → Option ℕ
commands_behind commands client.Close = None
commands_behind (Some n) _ = Some (n + 1)
commands_behind None (client.Client name) = Some 0
commands_behind None _ = None

abbrev pub commands_from : Option ℕ → ClientLines → ℕ → Option ℕ
commands_from commands lines zero = commands
commands_from commands [] (suc place) = commands
commands_from commands (l ∷ ls) (suc place) = commands_from (commands_behind commands l.form) ls place

abbrev pub commands_before : ClientLines → ℕ → Option ℕ
commands_before lines place = commands_from None lines place

-- a client has all the commands that it may have
abbrev pub is_full : Option ℕ → Bool
is_full None = false
is_full (Some n) = nat_le 1000 n

-- a line of the clients is too much behind so many clients, and so many commands of its client
abbrev pub is_over_in_clients : ℕ → Option ℕ → ClientLine → Bool
is_over_in_clients clients commands (client.Client name) = nat_le 16 clients || is_full commands
is_over_in_clients clients commands client.Close = false
is_over_in_clients clients commands _ = is_full commands

abbrev pub FailsClientLine : ClientLines → ℕ → ClientLine → ℕ → Type 0
FailsClientLine lines place form rule = (rule ≡ 46) × (is_over_in_clients (given_before client_given lines place) (commands_before lines place) form ≡ true)

-- there are fewer commands than 2^31
abbrev pub AreFew : Option ℕ → Type 0
AreFew None = Unit {0}
AreFew (Some n) = n < 2 ^ 31
