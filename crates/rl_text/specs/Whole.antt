-- A reading of all tokens.
use Rattle.std.specs.Prelude.{◌≡◌, Option, Some, None, Result, Ok, Err}
use Rattle.rl_text.specs.declared.cursor.Stop.{Stop}
use Rattle.rl_text.specs.declared.cursor.Stop.TheVariants.{NoForm, Memory}

-- What a call returned is what reading gives. Want of memory is free.
abbrev pub GivesWhole : {X : Type 0} → Result X Stop → Option X → Type 0
GivesWhole (Ok x) read = read ≡ Some x
GivesWhole (Err NoForm) read = read ≡ None
GivesWhole (Err Memory) read = Unit {0}
