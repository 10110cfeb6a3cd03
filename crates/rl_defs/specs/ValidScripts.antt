-- What a client's script may say: each command by itself, and the names that the commands bind.
use Rattle.std.specs.Prelude.{◌≡◌, ℕ, ◌<◌, ◌≤◌, ◌⊎◌, true, [], List, length, Some, slice_get}
use Rattle.std.specs.List.{flat_map, AllZip, Contains}
use Rattle.rl_defs.specs.declared.tables.Width.{Width}
use Rattle.rl_defs.specs.declared.tables.Kind.{Kind}
use Rattle.rl_defs.specs.declared.tables.Kind.TheVariants as kind
use Rattle.rl_defs.specs.declared.tables.MethodRow.{MethodRow}
use Rattle.rl_defs.specs.declared.load.LoadRows.{LoadRows}
use Rattle.rl_defs.specs.declared.load.Command.{Command}
use Rattle.rl_defs.specs.declared.load.Command.TheVariants as command
use Rattle.rl_defs.specs.declared.load.ScriptArg.{ScriptArg}
use Rattle.rl_defs.specs.declared.load.ScriptArg.TheVariants as arg
use Rattle.rl_defs.specs.CodeNames.{cells_of}
use Rattle.rl_defs.specs.Domains.{method_of}
use Rattle.rl_defs.specs.Widths.{fits_width, numbers_suit, bits}
use Rattle.rl_defs.specs.Rows.{BindsName, bound_by, is_target, trait_of_target}

-- client t's command at a place before p binds the name k to values of this kind
pub record BindsBefore (L : LoadRows) (t p k : ℕ) (of : Kind) : Type 0 where
  pub binds : BindsName L t k of
  pub before : binds.place < p

-- An argument fits its parameter: a number within the width; a name that an earlier command binds to a number of at most this width, or to
-- an object of the struct; a target of the trait.
abbrev pub ArgFits : LoadRows → ℕ → ℕ → Kind → ScriptArg → Type 0
ArgFits L t p (kind.Num w) (arg.Num n) = fits_width w n ≡ true
ArgFits L t p (kind.Num w) (arg.Name k) = (v : Width) × BindsBefore L t p k (kind.Num v) × (bits v ≤ bits w)
ArgFits L t p (kind.Own s) (arg.Name k) = BindsBefore L t p k (kind.Own s)
ArgFits L t p (kind.Lent s) (arg.Lent k) = BindsBefore L t p k (kind.Own s)
ArgFits L t p (kind.Cap c) (arg.Target x) = (is_target L x ≡ true) × (trait_of_target L x ≡ c)
ArgFits L t p _ _ = ⊥

-- A call is of a method of a target, and each parameter has an argument that fits. It moves no name twice and lends none that it moves.
-- It binds a name to each result, or none to any, and then no result is an object.
pub record CallFits (L : LoadRows) (t p x m : ℕ) (args : List ScriptArg) (names : List ℕ) : Type 0 where
  pub target : is_target L x ≡ true
  pub method : MethodRow
  pub here : method_of L x m ≡ Some method
  pub suits : AllZip (ArgFits L t p) method.params args
  pub moves : (i j k s r : ℕ) → slice_get args i ≡ Some (arg.Name k) → slice_get method.params i ≡ Some (kind.Own s)
      → slice_get args j ≡ Some (arg.Name k) → slice_get method.params j ≡ Some (kind.Own r) → i ≡ j
  pub lends : (i j k s : ℕ) → slice_get args i ≡ Some (arg.Name k) → slice_get method.params i ≡ Some (kind.Own s) → slice_get args j ≡ Some (arg.Lent k) → ⊥
  pub count : (names ≡ []) ⊎ (length names ≡ length method.results)
  pub owned : names ≡ [] → (s : ℕ) → Contains method.results (kind.Own s) → ⊥

-- the command at this place of client t's script fits
abbrev pub CommandFits : LoadRows → ℕ → ℕ → Command → Type 0
CommandFits L t p (command.Let k ty values) = (ty < length L.tables.structs) × (numbers_suit (cells_of L.tables ty) values ≡ true)
CommandFits L t p (command.Text k ty bytes) = (ty < length L.tables.structs) × (numbers_suit (cells_of L.tables ty) bytes ≡ true)
CommandFits L t p (command.Call x m args names) = CallFits L t p x m args names
CommandFits L t p (command.Show k) = (s : ℕ) × BindsBefore L t p k (kind.Own s)
CommandFits L t p (command.Drop k) = (s : ℕ) × BindsBefore L t p k (kind.Own s)
CommandFits L t p (command.Kill x) = is_target L x ≡ true

-- Client t has at most 1,000 commands, each of which fits. The names that they bind are numbered from 0, each as it is bound.
pub record IsValidScript (L : LoadRows) (t : ℕ) (commands : List Command) : Type 0 where
  pub few : length commands ≤ 1000
  pub fits : (p : ℕ) (c : Command) → slice_get commands p ≡ Some c → CommandFits L t p c
  pub names : (k n : ℕ) → slice_get (flat_map bound_by commands) k ≡ Some n → n ≡ k
