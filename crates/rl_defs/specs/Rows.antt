-- The rows of a load by their numbers: what a plan and its scripts bind, and of which kinds.
use Rattle.std.specs.Prelude.{ℕ, ◌+◌, [], ◌∷◌, ◌&&◌, ◌≡◌, List, Option, None, slice_get, Some, nat_le, Bool, length, true, false}
use Rattle.rl_defs.specs.declared.load.Command.TheVariants as command
use Rattle.rl_defs.specs.declared.tables.Kind.TheVariants as kind
use Rattle.rl_defs.specs.declared.load.Command.{Command}
use Rattle.rl_defs.specs.declared.load.ClientRow.{ClientRow}
use Rattle.rl_defs.specs.declared.load.LoadRows.{LoadRows}
use Rattle.rl_defs.specs.declared.load.LoadRow.{LoadRow}
use Rattle.rl_defs.specs.declared.tables.Kind.{Kind}
use Rattle.rl_defs.specs.DomainValue.{Domain}
pub use Rattle.rl_defs.specs.Domains.{row}
use Rattle.rl_defs.specs.Domains.{load_row, load_of_target, method_of}
use Rattle.rl_defs.specs.CodeNames.{domain_trait, results_of}

-- the script names that a command binds, each the place of its binding among those of the client
abbrev pub bound_by : Command → List ℕ
bound_by (command.Let name ty values) = name ∷ []
bound_by (command.Text name ty bytes) = name ∷ []
bound_by (command.Call target method args names) = names
bound_by _ = []

abbrev pub commands_of : Option ClientRow → List Command
commands_of None = []
commands_of (Some c) = c.commands

-- the domain of a load
abbrev pub domain_or_none : LoadRows → Option Domain → Domain
domain_or_none L None = record { lines = []; tables = L.tables }
domain_or_none L (Some d) = d

abbrev pub domain_in : LoadRows → Option LoadRow → Domain
domain_in L None = domain_or_none L None
domain_in L (Some l) = domain_or_none L (slice_get L.domains l.domain)

abbrev pub domain_of_load : LoadRows → ℕ → Domain
domain_of_load L k = domain_in L (load_row L k)

-- the targets that are bound to a load's imports
abbrev pub binds_in : Option LoadRow → List ℕ
binds_in None = []
binds_in (Some l) = l.binds

abbrev pub binds : LoadRows → ℕ → List ℕ
binds L k = binds_in (load_row L k)

abbrev pub is_target : LoadRows → ℕ → Bool
is_target L x = nat_le 1 x && nat_le x (length L.loads + length L.shadows)

abbrev pub trait_if : LoadRows → Bool → ℕ → ℕ
trait_if L true x = domain_trait (domain_of_load L (load_of_target L x))
trait_if L false x = length L.tables.traits

-- the trait of a target, and no trait's number where there is no such target
abbrev pub trait_of_target : LoadRows → ℕ → ℕ
trait_of_target L x = trait_if L (is_target L x) x

-- the kinds of the values that a command's names are bound to
abbrev pub kinds_given : LoadRows → Command → List Kind
kinds_given L (command.Let name ty values) = kind.Own ty ∷ []
kinds_given L (command.Text name ty bytes) = kind.Own ty ∷ []
kinds_given L (command.Call target method args names) = results_of (method_of L target method)
kinds_given L _ = []

-- a command of the client binds the name to values of this kind
pub record BindsName (L : LoadRows) (t k : ℕ) (of : Kind) : Type 0 where
  pub place : ℕ
  pub next : Command
  pub here : slice_get (commands_of (row L.clients t)) place ≡ Some next
  pub at : ℕ
  pub name : slice_get (bound_by next) at ≡ Some k
  pub kind : slice_get (kinds_given L next) at ≡ Some of
