-- The types at the front of tokens.
use Rattle.std.specs.Prelude.{ℕ, zero, suc, ◌&&◌, nat_le, List, [], ◌∷◌, Option, None, Some, if◌then◌else◌}
use Rattle.rl_defs.specs.declared.lexeme.Key.{Key}
use Rattle.rl_defs.specs.declared.lexeme.Key.TheVariants as k
use Rattle.rl_defs.specs.declared.lexeme.Mark.TheVariants as m
use Rattle.rl_defs.specs.declared.tables.Width.TheVariants as width
use Rattle.rl_defs.specs.declared.idl.Wrap.{Wrap}
use Rattle.rl_defs.specs.declared.idl.Wrap.TheVariants as wrap
use Rattle.rl_defs.specs.declared.idl.Base.{Base}
use Rattle.rl_defs.specs.declared.idl.Base.TheVariants as base
use Rattle.rl_defs.specs.declared.idl.TypeText.{TypeText}
use Rattle.rl_text.specs.Reading.{Reader, ◌>>=◌, either, name_at, number_at, mark_at, key_at, first_key, behind_first}

-- `<STRUCT>`
unfoldable pub angled_at : Reader (List ℕ)
angled_at ts = do
  a ← mark_at m.Less ts
  name ← name_at a
  b ← mark_at m.Greater name.1
  Some (name.0, b)

abbrev pub plain : Base → TypeText
plain b = record { wraps = []; base = b }

abbrev pub wrapped : Wrap → TypeText → TypeText
wrapped w ty = record { wraps = w ∷ ty.wraps; base = ty.base }

-- a type of one word, or `RRef<STRUCT>` or `fn()`, by the reserved word that comes first
abbrev pub base_by : Option Key → Reader Base
base_by (Some k.Bool) ts = Some (base.Num width.Bool, behind_first ts)
base_by (Some k.U8) ts = Some (base.Num width.W8, behind_first ts)
base_by (Some k.U16) ts = Some (base.Num width.W16, behind_first ts)
base_by (Some k.U32) ts = Some (base.Num width.W32, behind_first ts)
base_by (Some k.U64) ts = Some (base.Num width.W64, behind_first ts)
base_by (Some k.String) ts = Some (base.String, behind_first ts)
base_by (Some k.RRef) ts = do
  name ← angled_at (behind_first ts)
  Some (base.RRef name.0, name.1)
base_by (Some k.Fn) ts = do
  a ← mark_at m.OpenParen (behind_first ts)
  b ← mark_at m.CloseParen a
  Some (base.Function, b)
base_by (Some key) ts = None
base_by None ts = do
  name ← name_at ts
  Some (base.Struct name.0, name.1)

unfoldable pub base_at : Reader Base
base_at ts = base_by (first_key ts) ts

-- a type in a wrap
abbrev pub wrap_at : Wrap → Reader TypeText → Reader TypeText
wrap_at w inner ts = do
  ty ← inner ts
  Some (wrapped w ty.0, ty.1)

-- behind `[`
abbrev pub array_at : Reader TypeText → Reader TypeText
array_at inner ts = do
  ty ← inner ts
  a ← mark_at m.Semicolon ty.1
  n ← number_at a
  b ← mark_at m.CloseBracket n.1
  if nat_le 1 n.0 && nat_le n.0 65535 then Some (wrapped (wrap.Array n.0) ty.0, b) else None

-- behind `Box` or `Vec`
abbrev pub boxed_at : Wrap → Reader TypeText → Reader TypeText
boxed_at w inner ts = do
  a ← mark_at m.Less ts
  ty ← inner a
  b ← mark_at m.Greater ty.1
  Some (wrapped w ty.0, b)

-- behind `&`, by the reserved word that comes first
abbrev pub lent_by : Option Key → Reader TypeText → Reader TypeText
lent_by (Some k.RRef) inner ts = do
  name ← angled_at (behind_first ts)
  Some (plain (base.LentRRef name.0), name.1)
lent_by (Some k.Dyn) inner ts = do
  name ← name_at (behind_first ts)
  Some (plain (base.Dyn name.0), name.1)
lent_by (Some k.Mut) inner ts = wrap_at wrap.RefMut inner (behind_first ts)
lent_by (Some key) inner ts = wrap_at wrap.Ref inner ts
lent_by None inner ts = wrap_at wrap.Ref inner ts

abbrev pub lent_at : Reader TypeText → Reader TypeText
lent_at inner ts = lent_by (first_key ts) inner ts

-- behind `*`
abbrev pub pointer_by : Option Key → Reader TypeText → Reader TypeText
pointer_by (Some k.Const) inner ts = wrap_at wrap.PointerConst inner (behind_first ts)
pointer_by (Some k.Mut) inner ts = wrap_at wrap.PointerMut inner (behind_first ts)
pointer_by (Some key) inner ts = None
pointer_by None inner ts = None

abbrev pub pointer_at : Reader TypeText → Reader TypeText
pointer_at inner ts = pointer_by (first_key ts) inner ts

abbrev pub plain_at : Reader TypeText
plain_at ts = do
  b ← base_at ts
  Some (plain b.0, b.1)

-- a type in which at most so many types stand in one another, itself counted
unfoldable pub type_at : ℕ → Reader TypeText
type_at zero ts = None
type_at (suc room) ts =
    either (mark_at m.OpenBracket ts) (array_at (type_at room))
    (either (mark_at m.Ampersand ts) (lent_at (type_at room))
    (either (mark_at m.Star ts) (pointer_at (type_at room))
    (either (key_at k.Box ts) (boxed_at wrap.Box (type_at room))
    (either (key_at k.Vec ts) (boxed_at wrap.Vec (type_at room)) (plain_at ts)))))
