-- What a line lists: registers, arguments of a call, and registers of a head.
use Rattle.std.specs.Prelude.{ℕ, List, Some}
use Rattle.rl_defs.specs.declared.code.CallArg.{CallArg}
use Rattle.rl_defs.specs.declared.code.CallArg.TheVariants as arg
use Rattle.rl_defs.specs.declared.code.HeadKind.{HeadKind}
use Rattle.rl_defs.specs.declared.code.HeadKind.TheVariants as head
use Rattle.rl_defs.specs.declared.code.HeadItem.{HeadItem}
use Rattle.rl_defs.specs.declared.lexeme.Key.TheVariants as k
use Rattle.rl_defs.specs.declared.lexeme.Mark.TheVariants as m
use Rattle.rl_text.specs.Reading.{Reader, ◌>>=◌, either, name_at, mark_at, key_at}
use Rattle.domain_code.specs.Operands.{register_at}

-- behind a `&`
abbrev pub lent_at : Reader CallArg
lent_at ts = do
  r ← register_at ts
  Some (arg.Lent r.0, r.1)

abbrev pub passed_at : Reader CallArg
passed_at ts = do
  r ← register_at ts
  Some (arg.Passed r.0, r.1)

-- an argument of a call
unfoldable pub arg_at : Reader CallArg
arg_at ts = either (mark_at m.Ampersand ts) lent_at (passed_at ts)

-- behind an `RRef`
unfoldable pub struct_at : Reader (List ℕ)
struct_at ts = do
  a ← mark_at m.Less ts
  name ← name_at a
  b ← mark_at m.Greater name.1
  Some (name.0, b)

abbrev pub lent_struct_at : Reader HeadKind
lent_struct_at ts = do
  name ← struct_at ts
  Some (head.Lent name.0, name.1)

abbrev pub cap_at : Reader HeadKind
cap_at ts = do
  a ← key_at k.Dyn ts
  name ← name_at a
  Some (head.Cap name.0, name.1)

-- behind a `&`
unfoldable pub lent_kind_at : Reader HeadKind
lent_kind_at ts = either (key_at k.RRef ts) lent_struct_at (cap_at ts)

abbrev pub own_at : Reader HeadKind
own_at ts = do
  a ← key_at k.RRef ts
  name ← struct_at a
  Some (head.Own name.0, name.1)

-- what a head says of a register
unfoldable pub kind_at : Reader HeadKind
kind_at ts = either (key_at k.Num ts) (λ a. Some (head.Num, a)) (either (mark_at m.Ampersand ts) lent_kind_at (own_at ts))

unfoldable pub head_at : Reader HeadItem
head_at ts = do
  r ← register_at ts
  kind ← kind_at r.1
  Some (record { register = r.0; kind = kind.0 }, kind.1)
