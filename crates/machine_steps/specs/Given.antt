-- What `let` and `text` give.
use Rattle.std.specs.Prelude.{ℕ, List, []}
use Rattle.rl_defs.specs.declared.load.Command.{Command}
use Rattle.rl_defs.specs.declared.load.Command.TheVariants as command

-- the name that is bound; 0 where a command makes no object
abbrev pub name_given : Command → ℕ
name_given (command.Let name ty values) = name
name_given (command.Text name ty bytes) = name
name_given _ = 0

-- the struct of the object; 0 where a command makes none
abbrev pub struct_given : Command → ℕ
struct_given (command.Let name ty values) = ty
struct_given (command.Text name ty bytes) = ty
struct_given _ = 0

-- the values of its first cells; none where a command makes none
abbrev pub values_given : Command → List ℕ
values_given (command.Let name ty values) = values
values_given (command.Text name ty bytes) = bytes
values_given _ = []
