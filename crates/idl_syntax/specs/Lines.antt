-- The interface line that tokens spell.
use Rattle.std.specs.Prelude.{ℕ, List, [], ◌∷◌, Option, None, Some, codes}
use Rattle.rl_defs.specs.declared.lexeme.Key.TheVariants as k
use Rattle.rl_defs.specs.declared.lexeme.Mark.TheVariants as m
use Rattle.rl_defs.specs.declared.idl.TypeText.{TypeText}
use Rattle.rl_defs.specs.declared.idl.Param.{Param}
use Rattle.rl_defs.specs.declared.idl.ResultText.{ResultText}
use Rattle.rl_defs.specs.declared.idl.ResultText.TheVariants.{Missing, Plain, Rpc}
use Rattle.rl_defs.specs.declared.idl.IdlLine.{IdlLine}
use Rattle.rl_defs.specs.declared.idl.IdlLine.TheVariants.{Struct, Field, Trait, Idempotent, Method, Close}
use Rattle.rl_defs.specs.Tokens.{Token}
use Rattle.rl_text.specs.Reading.{Reader, ◌>>=◌, either, name_at, mark_at, key_at, word_at, end_at}
use Rattle.rl_text.specs.Many.{all_at}
use Rattle.idl_syntax.specs.Types.{type_at}

-- TYPE: one that holds no other is 0 deep, and at most 8 deep they may be
abbrev pub whole_type_at : Reader TypeText
whole_type_at = type_at 9

unfoldable pub param_at : Reader Param
param_at ts = do
  name ← name_at ts
  a ← mark_at m.Colon name.1
  ty ← whole_type_at a
  Some (record { name = name.0; ty = ty.0 }, ty.1)

-- two types or more
abbrev pub several : TypeText → List TypeText → List Token → Option (List TypeText × List Token)
several first [] ts = None
several first (other ∷ more) ts = Some (first ∷ other ∷ more, ts)

-- behind the `(` of two types or more
unfoldable pub types_at : Reader (List TypeText)
types_at ts = do
  first ← whole_type_at ts
  more ← all_at whole_type_at first.1
  a ← mark_at m.CloseParen more.1
  several first.0 more.0 a

-- behind a `(` of OUT
abbrev pub parts_at : Reader (List TypeText)
parts_at ts = either (mark_at m.CloseParen ts) (λ a. Some ([], a)) (types_at ts)

abbrev pub one_at : Reader (List TypeText)
one_at ts = do
  ty ← whole_type_at ts
  Some (ty.0 ∷ [], ty.1)

-- OUT
unfoldable pub out_at : Reader (List TypeText)
out_at ts = either (mark_at m.OpenParen ts) parts_at (one_at ts)

-- behind `RpcResult`
abbrev pub rpc_at : Reader ResultText
rpc_at ts = do
  a ← mark_at m.Less ts
  out ← out_at a
  b ← mark_at m.Greater out.1
  Some (Rpc out.0, b)

abbrev pub plain_out_at : Reader ResultText
plain_out_at ts = do
  out ← out_at ts
  Some (Plain out.0, out.1)

abbrev pub behind_arrow_at : Reader ResultText
behind_arrow_at ts = either (key_at k.RpcResult ts) rpc_at (plain_out_at ts)

-- a result with its `->`, or nothing
unfoldable pub result_at : Reader ResultText
result_at ts = either (mark_at m.Arrow ts) behind_arrow_at (Some (Missing, ts))

-- a name and `{`
unfoldable pub head_at : Reader (List ℕ)
head_at ts = do
  name ← name_at ts
  a ← mark_at m.OpenBrace name.1
  Some (name.0, a)

abbrev pub struct_at : Reader IdlLine
struct_at ts = do
  name ← head_at ts
  Some (Struct name.0, name.1)

abbrev pub trait_at : Reader IdlLine
trait_at ts = do
  name ← head_at ts
  Some (Trait name.0, name.1)

-- what stands behind a comma, if there is one
abbrev pub behind_comma : List Token → List Token
behind_comma ts = or_same (mark_at m.Comma ts) ts where
  or_same : Option (List Token) → List Token → List Token
  or_same (Some rest) ts = rest
  or_same None ts = ts

unfoldable pub field_at : Reader IdlLine
field_at ts = do
  name ← name_at ts
  a ← mark_at m.Colon name.1
  ty ← whole_type_at a
  Some (Field name.0 ty.0, behind_comma ty.1)

-- behind `#`
unfoldable pub attribute_at : Reader IdlLine
attribute_at ts = do
  a ← mark_at m.OpenBracket ts
  b ← word_at (codes "idempotent") a
  c ← mark_at m.CloseBracket b
  Some (Idempotent, c)

-- a name and `(&self`
unfoldable pub receiver_at : Reader (List ℕ)
receiver_at ts = do
  name ← name_at ts
  a ← mark_at m.OpenParen name.1
  b ← mark_at m.Ampersand a
  c ← key_at k.SelfWord b
  Some (name.0, c)

-- behind `fn`
unfoldable pub method_at : Reader IdlLine
method_at ts = do
  name ← receiver_at ts
  params ← all_at param_at name.1
  a ← mark_at m.CloseParen params.1
  result ← result_at a
  b ← mark_at m.Semicolon result.1
  Some (Method name.0 params.0 result.0, b)

-- behind `pub`, or where that may be left out
unfoldable pub open_at : Reader IdlLine
open_at ts = either (key_at k.Struct ts) struct_at (either (key_at k.Trait ts) trait_at (field_at ts))

abbrev pub close_at : Reader IdlLine
close_at ts = Some (Close, ts)

unfoldable pub form_at : Reader IdlLine
form_at ts =
    either (key_at k.Pub ts) open_at
    (either (key_at k.Fn ts) method_at
    (either (mark_at m.Hash ts) attribute_at
    (either (mark_at m.CloseBrace ts) close_at (open_at ts))))

-- the line that all tokens spell
unfoldable pub line_at : List Token → Option IdlLine
line_at ts = do
  form ← form_at ts
  a ← end_at form.1
  Some form.0
