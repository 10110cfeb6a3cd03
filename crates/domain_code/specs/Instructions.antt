-- Instructions, behind their words.
use Rattle.std.specs.Prelude.{ℕ, List, [], Some, codes}
use Rattle.rl_defs.specs.declared.code.Register.{Register}
use Rattle.rl_defs.specs.declared.code.CallArg.{CallArg}
use Rattle.rl_defs.specs.declared.code.Instr.{Instr}
use Rattle.rl_defs.specs.declared.code.Instr.TheVariants as instr
use Rattle.rl_defs.specs.declared.code.DomainLine.{DomainLine}
use Rattle.rl_defs.specs.declared.code.DomainLine.TheVariants as line
use Rattle.rl_defs.specs.declared.lexeme.Mark.TheVariants as m
use Rattle.rl_text.specs.Reading.{Reader, ◌>>=◌, either, name_at, mark_at, word_at}
use Rattle.domain_code.specs.declared.verb.One.{One}
use Rattle.domain_code.specs.declared.verb.One.TheVariants as one
use Rattle.domain_code.specs.declared.verb.Two.{Two}
use Rattle.domain_code.specs.declared.verb.Two.TheVariants as two
use Rattle.domain_code.specs.declared.verb.Three.{Three}
use Rattle.domain_code.specs.declared.verb.Three.TheVariants as three
use Rattle.domain_code.specs.declared.verb.Named.{Named}
use Rattle.domain_code.specs.declared.verb.Named.TheVariants as named
use Rattle.domain_code.specs.declared.instr.Landing.{Landing}
use Rattle.domain_code.specs.Operands.{register_at, next_register_at, next_name_at, next_number_at}
use Rattle.rl_text.specs.Many.{list_at, some_at}
use Rattle.domain_code.specs.Lists.{arg_at}

unfoldable pub const_at : Reader DomainLine
const_at ts = do
  a ← register_at ts
  n ← next_number_at a.1
  Some (line.Code (instr.Const a.0 n.0), n.1)

-- an instruction by its word and its registers
abbrev pub one_of : One → Register → Instr
one_of one.DevSize a = instr.DevSize a
one_of one.Drop a = instr.Drop a

abbrev pub two_of : Two → Register → Register → Instr
two_of two.Copy a b = instr.Copy a b
two_of two.Move a b = instr.Move a b
two_of two.Wget a b = instr.Wget a b
two_of two.Wput a b = instr.Wput a b
two_of two.DevGet a b = instr.DevGet a b
two_of two.DevPut a b = instr.DevPut a b

abbrev pub three_of : Three → Register → Register → Register → Instr
three_of (three.Math o) a b c = instr.Math o a b c
three_of three.Get a b c = instr.Get a b c
three_of three.Set a b c = instr.Set a b c

abbrev pub named_of : Named → Register → List ℕ → Instr
named_of named.Jz a name = instr.Jz a name
named_of named.Has a name = instr.Has a name
named_of named.Cap a name = instr.Cap a name
named_of named.New a name = instr.New a name
named_of named.Take a name = instr.Take a name

unfoldable pub one_at : One → Reader DomainLine
one_at verb ts = do
  a ← register_at ts
  Some (line.Code (one_of verb a.0), a.1)

unfoldable pub two_at : Two → Reader DomainLine
two_at verb ts = do
  a ← register_at ts
  b ← next_register_at a.1
  Some (line.Code (two_of verb a.0 b.0), b.1)

unfoldable pub three_at : Three → Reader DomainLine
three_at verb ts = do
  a ← register_at ts
  b ← next_register_at a.1
  c ← next_register_at b.1
  Some (line.Code (three_of verb a.0 b.0 c.0), c.1)

unfoldable pub named_at : Named → Reader DomainLine
named_at verb ts = do
  a ← register_at ts
  name ← next_name_at a.1
  Some (line.Code (named_of verb a.0 name.0), name.1)

unfoldable pub jmp_at : Reader DomainLine
jmp_at ts = do
  label ← name_at ts
  Some (line.Code (instr.Jmp label.0), label.1)

unfoldable pub put_at : Reader DomainLine
put_at ts = do
  slot ← name_at ts
  a ← next_register_at slot.1
  Some (line.Code (instr.Put slot.0 a.0), a.1)

unfoldable pub hang_at : Reader DomainLine
hang_at ts = do
  o ← register_at ts
  place ← next_number_at o.1
  v ← next_register_at place.1
  Some (line.Code (instr.Hang o.0 place.0 v.0), v.1)

unfoldable pub unhang_at : Reader DomainLine
unhang_at ts = do
  a ← register_at ts
  o ← next_register_at a.1
  place ← next_number_at o.1
  Some (line.Code (instr.Unhang a.0 o.0 place.0), place.1)

unfoldable pub ret_at : Reader DomainLine
ret_at ts = do
  results ← some_at register_at ts
  Some (line.Code (instr.Ret results.0), results.1)

-- one argument or more, and the `)`
abbrev pub several_args_at : Reader (List CallArg)
several_args_at ts = do
  args ← list_at arg_at ts
  a ← mark_at m.CloseParen args.1
  Some (args.0, a)

-- behind the `(` of a call
unfoldable pub args_at : Reader (List CallArg)
args_at ts = either (mark_at m.CloseParen ts) (λ a. Some ([], a)) (several_args_at ts)

-- the results of a call, with their `->`, or none
unfoldable pub results_at : Reader (List Register)
results_at ts = either (mark_at m.Arrow ts) (list_at register_at) (Some ([], ts))

-- where a call that failed goes on
unfoldable pub landing_at : Reader Landing
landing_at ts = do
  a ← word_at (codes "else") ts
  code ← register_at a
  label ← next_name_at code.1
  Some (record { code = code.0; label = label.0 }, label.1)

-- a call, behind its arguments
unfoldable pub behind_args_at : Register → List ℕ → List CallArg → Reader DomainLine
behind_args_at target method args ts = do
  results ← results_at ts
  landing ← landing_at results.1
  Some (line.Code (instr.Call target method args results.0 landing.0.code landing.0.label), landing.1)

unfoldable pub call_at : Reader DomainLine
call_at ts = do
  target ← register_at ts
  a ← mark_at m.Dot target.1
  method ← name_at a
  b ← mark_at m.OpenParen method.1
  args ← args_at b
  behind_args_at target.0 method.0 args.0 args.1
