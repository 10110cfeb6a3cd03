-- The line of the plan that tokens spell.
use Rattle.std.specs.Prelude.{ℕ, List, Option, Some, codes}
use Rattle.rl_defs.specs.declared.bundle.PlanLine.{PlanLine}
use Rattle.rl_defs.specs.declared.bundle.PlanLine.TheVariants as plan
use Rattle.rl_defs.specs.declared.lexeme.Mark.TheVariants as m
use Rattle.rl_defs.specs.Tokens.{Token}
use Rattle.rl_text.specs.Reading.{Reader, ◌>>=◌, name_at, number_at, mark_at, word_at, end_at}
use Rattle.rl_text.specs.Many.{list_at}
use Rattle.bundle_syntax.specs.declared.plan.form.Verb.{Verb}
use Rattle.bundle_syntax.specs.declared.plan.form.Verb.TheVariants as verb
use Rattle.bundle_syntax.specs.PlanVerbs.{verb_of}

-- behind `load`
unfoldable pub load_at : Reader PlanLine
load_at ts = do
  name ← name_at ts
  a ← mark_at m.Equals name.1
  domain ← name_at a
  Some (plan.Load name.0 domain.0, domain.1)

unfoldable pub bind_at : Reader PlanLine
bind_at ts = do
  load ← name_at ts
  a ← mark_at m.Dot load.1
  import ← name_at a
  b ← mark_at m.Equals import.1
  target ← name_at b
  Some (plan.Bind load.0 import.0 target.0, target.1)

unfoldable pub shadow_at : Reader PlanLine
shadow_at ts = do
  name ← name_at ts
  a ← mark_at m.Equals name.1
  load ← name_at a
  b ← word_at (codes "restarts") load.1
  restarts ← number_at b
  Some (plan.Shadow name.0 load.0 restarts.0, restarts.1)

unfoldable pub device_at : Reader PlanLine
device_at ts = do
  load ← name_at ts
  blocks ← number_at load.1
  Some (plan.Device load.0 blocks.0, blocks.1)

unfoldable pub serial_at : Reader PlanLine
serial_at ts = do
  load ← name_at ts
  Some (plan.Serial load.0, load.1)

unfoldable pub fuel_at : Reader PlanLine
fuel_at ts = do
  n ← number_at ts
  Some (plan.Fuel n.0, n.1)

unfoldable pub order_at : Reader PlanLine
order_at ts = do
  clients ← list_at name_at ts
  Some (plan.Order clients.0, clients.1)

-- behind the word that a line begins with
abbrev pub operands_at : Verb → Reader PlanLine
operands_at verb.Load ts = load_at ts
operands_at verb.Bind ts = bind_at ts
operands_at verb.Shadow ts = shadow_at ts
operands_at verb.Device ts = device_at ts
operands_at verb.Serial ts = serial_at ts
operands_at verb.Fuel ts = fuel_at ts
operands_at verb.Order ts = order_at ts

-- behind a name
unfoldable pub by_word_at : List ℕ → Reader PlanLine
by_word_at name ts = do
  v ← verb_of name
  operands_at v ts

unfoldable pub form_at : Reader PlanLine
form_at ts = do
  name ← name_at ts
  by_word_at name.0 name.1

-- the line that all tokens spell
unfoldable pub line_at : List Token → Option PlanLine
line_at ts = do
  form ← form_at ts
  a ← end_at form.1
  Some form.0
