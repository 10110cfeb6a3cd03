-- A type in one more wrap.
use Rattle.std.specs.Prelude.{◌≡◌, Result, Ok, Err}
use Rattle.rl_defs.specs.declared.idl.Wrap.{Wrap}
use Rattle.rl_defs.specs.declared.idl.TypeText.{TypeText}
use Rattle.rl_text.specs.declared.cursor.Stop.{Stop}
use Rattle.rl_text.specs.declared.cursor.Stop.TheVariants.{NoForm, Memory}
use Rattle.idl_syntax.specs.Types.{wrapped}

abbrev pub Wraps : Wrap → TypeText → Result TypeText Stop → Type 0
Wraps w inner (Ok ty) = ty ≡ wrapped w inner
Wraps w inner (Err NoForm) = ⊥
Wraps w inner (Err Memory) = Unit {0}
