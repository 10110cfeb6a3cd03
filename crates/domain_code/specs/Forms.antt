-- The domain line that tokens spell.
use Rattle.std.specs.Prelude.{ℕ, ◌==◌, List, Option, None, Some, codes, if◌then◌else◌}
use Rattle.std.specs.Cmp.Lexicographic.{pointwise}
use Rattle.rl_defs.specs.declared.code.Instr.TheVariants as instr
use Rattle.rl_defs.specs.declared.code.Native.{Native}
use Rattle.rl_defs.specs.declared.code.Native.TheVariants as native
use Rattle.rl_defs.specs.declared.code.DomainLine.{DomainLine}
use Rattle.rl_defs.specs.declared.code.DomainLine.TheVariants as line
use Rattle.rl_defs.specs.declared.lexeme.Key.TheVariants as k
use Rattle.rl_defs.specs.declared.lexeme.Mark.TheVariants as m
use Rattle.rl_defs.specs.Tokens.{Token}
use Rattle.rl_text.specs.Reading.{Reader, ◌>>=◌, either, name_at, number_at, mark_at, key_at, end_at}
use Rattle.domain_code.specs.declared.verb.Verb.{Verb}
use Rattle.domain_code.specs.declared.verb.Verb.TheVariants as verb
use Rattle.domain_code.specs.declared.form.TwoNames.{TwoNames}
use Rattle.domain_code.specs.Verbs.{verb_of}
use Rattle.rl_text.specs.Many.{some_at}
use Rattle.domain_code.specs.Lists.{head_at}
use Rattle.domain_code.specs.Instructions.{const_at, one_at, two_at, three_at, named_at, jmp_at, put_at, hang_at, unhang_at, ret_at, call_at}

-- `NAME: NAME`
unfoldable pub pair_at : Reader TwoNames
pair_at ts = do
  name ← name_at ts
  a ← mark_at m.Colon name.1
  of ← name_at a
  Some (record { name = name.0; of = of.0 }, of.1)

-- behind `domain`
unfoldable pub domain_at : Reader DomainLine
domain_at ts = do
  pair ← pair_at ts
  a ← mark_at m.OpenBrace pair.1
  Some (line.Domain pair.0.name pair.0.of, a)

unfoldable pub slot_at : Reader DomainLine
slot_at ts = do
  pair ← pair_at ts
  Some (line.Slot pair.0.name pair.0.of, pair.1)

unfoldable pub import_at : Reader DomainLine
import_at ts = do
  pair ← pair_at ts
  Some (line.Import pair.0.name pair.0.of, pair.1)

unfoldable pub words_at : Reader DomainLine
words_at ts = do
  n ← number_at ts
  Some (line.Words n.0, n.1)

-- the native body of a word
unfoldable pub native_of : List ℕ → Option Native
native_of word =
    if pointwise ◌==◌ word (codes "fs") then Some native.Fs else
    (if pointwise ◌==◌ word (codes "rv6") then Some native.Rv6 else None)

abbrev pub named_native : List ℕ → Reader DomainLine
named_native word rest = do
  body ← native_of word
  Some (line.Native body, rest)

unfoldable pub native_at : Reader DomainLine
native_at ts = do
  name ← name_at ts
  named_native name.0 name.1

-- behind `fn`
unfoldable pub function_at : Reader DomainLine
function_at ts = do
  name ← name_at ts
  a ← mark_at m.OpenBrace name.1
  Some (line.Function name.0, a)

-- behind a label and its colon
unfoldable pub label_at : List ℕ → Reader DomainLine
label_at name ts = do
  heads ← some_at head_at ts
  Some (line.Head name heads.0, heads.1)

abbrev pub trap_at : Reader DomainLine
trap_at ts = Some (line.Code instr.Trap, ts)

-- behind the word that a line begins with
abbrev pub operands_at : Verb → Reader DomainLine
operands_at verb.Domain ts = domain_at ts
operands_at verb.Words ts = words_at ts
operands_at verb.Slot ts = slot_at ts
operands_at verb.Import ts = import_at ts
operands_at verb.Native ts = native_at ts
operands_at (verb.One v) ts = one_at v ts
operands_at (verb.Two v) ts = two_at v ts
operands_at (verb.Three v) ts = three_at v ts
operands_at (verb.Named v) ts = named_at v ts
operands_at verb.Jmp ts = jmp_at ts
operands_at verb.Put ts = put_at ts
operands_at verb.Hang ts = hang_at ts
operands_at verb.Unhang ts = unhang_at ts
operands_at verb.Call ts = call_at ts
operands_at verb.Ret ts = ret_at ts
operands_at verb.Trap ts = trap_at ts

-- behind a name that has no colon behind it
unfoldable pub by_word_at : List ℕ → Reader DomainLine
by_word_at name ts = do
  v ← verb_of name
  operands_at v ts

-- behind a name
unfoldable pub behind_name_at : List ℕ → Reader DomainLine
behind_name_at name ts = either (mark_at m.Colon ts) (label_at name) (by_word_at name ts)

unfoldable pub word_line_at : Reader DomainLine
word_line_at ts = do
  name ← name_at ts
  behind_name_at name.0 name.1

abbrev pub close_at : Reader DomainLine
close_at ts = Some (line.Close, ts)

unfoldable pub form_at : Reader DomainLine
form_at ts =
    either (key_at k.Const ts) const_at
    (either (key_at k.Fn ts) function_at
    (either (mark_at m.CloseBrace ts) close_at (word_line_at ts)))

-- the line that all tokens spell
unfoldable pub line_at : List Token → Option DomainLine
line_at ts = do
  form ← form_at ts
  a ← end_at form.1
  Some form.0
