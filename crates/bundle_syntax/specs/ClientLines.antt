-- The line of the clients that tokens spell.
use Rattle.std.specs.Prelude.{ℕ, List, [], Option, Some, if◌then◌else◌, codes}
use Rattle.rl_defs.specs.declared.bundle.ScriptArgText.{ScriptArgText}
use Rattle.rl_defs.specs.declared.bundle.ScriptArgText.TheVariants as arg
use Rattle.rl_defs.specs.declared.bundle.ClientLine.{ClientLine}
use Rattle.rl_defs.specs.declared.bundle.ClientLine.TheVariants as client
use Rattle.rl_defs.specs.declared.lexeme.Mark.TheVariants as m
use Rattle.rl_defs.specs.Tokens.{Token}
use Rattle.rl_text.specs.Reading.{Reader, ◌>>=◌, either, name_at, number_at, text_at, mark_at, word_at, end_at, begins_number, begins_word}
use Rattle.rl_text.specs.Many.{list_at, some_at}
use Rattle.bundle_syntax.specs.declared.clients.form.Called.{Called}
use Rattle.bundle_syntax.specs.declared.clients.form.Verb.{Verb}
use Rattle.bundle_syntax.specs.declared.clients.form.Verb.TheVariants as verb
use Rattle.bundle_syntax.specs.ClientVerbs.{verb_of}

-- behind a `&`
abbrev pub lent_at : Reader ScriptArgText
lent_at ts = do
  name ← name_at ts
  Some (arg.Lent name.0, name.1)

-- behind a `@`
abbrev pub target_at : Reader ScriptArgText
target_at ts = do
  name ← name_at ts
  Some (arg.Target name.0, name.1)

abbrev pub number_arg_at : Reader ScriptArgText
number_arg_at ts = do
  n ← number_at ts
  Some (arg.Num n.0, n.1)

abbrev pub name_arg_at : Reader ScriptArgText
name_arg_at ts = do
  name ← name_at ts
  Some (arg.Name name.0, name.1)

-- a number or a name
unfoldable pub plain_at : Reader ScriptArgText
plain_at ts = if begins_number ts then number_arg_at ts else name_arg_at ts

-- an argument of a call
unfoldable pub arg_at : Reader ScriptArgText
arg_at ts = either (mark_at m.Ampersand ts) lent_at (either (mark_at m.At ts) target_at (plain_at ts))

-- behind `client`
unfoldable pub client_at : Reader ClientLine
client_at ts = do
  name ← name_at ts
  a ← mark_at m.OpenBrace name.1
  Some (client.Client name.0, a)

unfoldable pub let_at : Reader ClientLine
let_at ts = do
  name ← name_at ts
  a ← mark_at m.Equals name.1
  b ← word_at (codes "new") a
  ty ← name_at b
  values ← some_at number_at ty.1
  Some (client.Let name.0 ty.0 values.0, values.1)

unfoldable pub text_line_at : Reader ClientLine
text_line_at ts = do
  name ← name_at ts
  a ← mark_at m.Equals name.1
  ty ← name_at a
  bytes ← text_at ty.1
  Some (client.Text name.0 ty.0 bytes.0, bytes.1)

-- one argument or more, and the `)`
abbrev pub several_args_at : Reader (List ScriptArgText)
several_args_at ts = do
  args ← list_at arg_at ts
  a ← mark_at m.CloseParen args.1
  Some (args.0, a)

-- behind the `(` of a call
unfoldable pub args_at : Reader (List ScriptArgText)
args_at ts = either (mark_at m.CloseParen ts) (λ a. Some ([], a)) (several_args_at ts)

-- the names that a call binds, with their `->`, or none
unfoldable pub names_at : Reader (List (List ℕ))
names_at ts = either (mark_at m.Arrow ts) (list_at name_at) (Some ([], ts))

-- the target and the method of a call, with what stands before its arguments
unfoldable pub callee_at : Reader Called
callee_at ts = do
  a ← word_at (codes "call") ts
  target ← name_at a
  b ← mark_at m.Dot target.1
  method ← name_at b
  c ← mark_at m.OpenParen method.1
  Some (record { target = target.0; method = method.0 }, c)

-- what stands behind the `(` of a whole line that is a call
unfoldable pub behind_callee_at : Called → List Token → Option ClientLine
behind_callee_at callee ts = do
  args ← args_at ts
  names ← names_at args.1
  a ← end_at names.1
  Some (client.Call callee.target callee.method args.0 names.0)

-- a whole line that is a call
unfoldable pub call_line_at : List Token → Option ClientLine
call_line_at ts = do
  callee ← callee_at ts
  behind_callee_at callee.0 callee.1

unfoldable pub show_at : Reader ClientLine
show_at ts = do
  name ← name_at ts
  Some (client.Show name.0, name.1)

unfoldable pub drop_at : Reader ClientLine
drop_at ts = do
  name ← name_at ts
  Some (client.Drop name.0, name.1)

unfoldable pub kill_at : Reader ClientLine
kill_at ts = do
  target ← name_at ts
  Some (client.Kill target.0, target.1)

-- behind the word that a line begins with
abbrev pub operands_at : Verb → Reader ClientLine
operands_at verb.Client ts = client_at ts
operands_at verb.Let ts = let_at ts
operands_at verb.Text ts = text_line_at ts
operands_at verb.Show ts = show_at ts
operands_at verb.Drop ts = drop_at ts
operands_at verb.Kill ts = kill_at ts

-- behind a name
unfoldable pub by_word_at : List ℕ → Reader ClientLine
by_word_at name ts = do
  v ← verb_of name
  operands_at v ts

unfoldable pub word_line_at : Reader ClientLine
word_line_at ts = do
  name ← name_at ts
  by_word_at name.0 name.1

abbrev pub close_at : Reader ClientLine
close_at ts = Some (client.Close, ts)

unfoldable pub form_at : Reader ClientLine
form_at ts = either (mark_at m.CloseBrace ts) close_at (word_line_at ts)

-- a whole line that is no call
abbrev pub other_line_at : List Token → Option ClientLine
other_line_at ts = do
  form ← form_at ts
  a ← end_at form.1
  Some form.0

-- the line that all tokens spell
unfoldable pub line_at : List Token → Option ClientLine
line_at ts = if begins_word (codes "call") ts then call_line_at ts else other_line_at ts
