-- The line forms of the interface part, by their spellings.
use Rattle.std.specs.Prelude.{ℕ, ◌≤◌, Bool, List, [], ◌∷◌, ◌++◌, map, length, codes, if◌then◌else◌}
use Rattle.rl_defs.specs.declared.tables.Width.{Width}
use Rattle.rl_defs.specs.declared.tables.Width.TheVariants as width
use Rattle.rl_defs.specs.declared.idl.Wrap.{Wrap}
use Rattle.rl_defs.specs.declared.idl.Wrap.TheVariants as wrap
use Rattle.rl_defs.specs.declared.idl.Base.{Base}
use Rattle.rl_defs.specs.declared.idl.Base.TheVariants as base
use Rattle.rl_defs.specs.declared.idl.TypeText.{TypeText}
use Rattle.rl_defs.specs.declared.idl.Param.{Param}
use Rattle.rl_defs.specs.declared.idl.ResultText.{ResultText}
use Rattle.rl_defs.specs.declared.idl.ResultText.TheVariants.{Missing, Plain, Rpc}
use Rattle.rl_defs.specs.declared.idl.IdlLine.{IdlLine}
use Rattle.rl_defs.specs.declared.idl.IdlLine.TheVariants.{Struct, Field, Trait, Idempotent, Method, Close}
use Rattle.rl_defs.specs.declared.lexeme.Key.{Key}
use Rattle.rl_defs.specs.declared.lexeme.Key.TheVariants as k
use Rattle.rl_defs.specs.declared.lexeme.Mark.TheVariants as m
use Rattle.rl_defs.specs.Tokens.{Token, Name, Reserved, Number, Sign, HasTokens}

-- a number type
abbrev pub spell_width : Width → Key
spell_width width.Bool = k.Bool
spell_width width.W8 = k.U8
spell_width width.W16 = k.U16
spell_width width.W32 = k.U32
spell_width width.W64 = k.U64

-- the innermost part of a type
abbrev pub spell_base : Base → List Token
spell_base (base.Num w) = Reserved (spell_width w) ∷ []
spell_base (base.Struct name) = Name name ∷ []
spell_base (base.RRef name) = Reserved k.RRef ∷ Sign m.Less ∷ Name name ∷ Sign m.Greater ∷ []
spell_base (base.LentRRef name) = Sign m.Ampersand ∷ Reserved k.RRef ∷ Sign m.Less ∷ Name name ∷ Sign m.Greater ∷ []
spell_base (base.Dyn name) = Sign m.Ampersand ∷ Reserved k.Dyn ∷ Name name ∷ []
spell_base base.String = Reserved k.String ∷ []
spell_base base.Function = Reserved k.Fn ∷ Sign m.OpenParen ∷ Sign m.CloseParen ∷ []

-- a type in one more wrap
abbrev pub spell_wrap : Wrap → List Token → List Token
spell_wrap (wrap.Array n) inner = Sign m.OpenBracket ∷ inner ++ (Sign m.Semicolon ∷ Number n ∷ Sign m.CloseBracket ∷ [])
spell_wrap wrap.Box inner = Reserved k.Box ∷ Sign m.Less ∷ inner ++ (Sign m.Greater ∷ [])
spell_wrap wrap.Vec inner = Reserved k.Vec ∷ Sign m.Less ∷ inner ++ (Sign m.Greater ∷ [])
spell_wrap wrap.Ref inner = Sign m.Ampersand ∷ inner
spell_wrap wrap.RefMut inner = Sign m.Ampersand ∷ Reserved k.Mut ∷ inner
spell_wrap wrap.PointerConst inner = Sign m.Star ∷ Reserved k.Const ∷ inner
spell_wrap wrap.PointerMut inner = Sign m.Star ∷ Reserved k.Mut ∷ inner

-- wraps round an innermost part, the outermost first
abbrev pub spell_round : List Wrap → Base → List Token
spell_round [] b = spell_base b
spell_round (w ∷ ws) b = spell_wrap w (spell_round ws b)

abbrev pub spell_type : TypeText → List Token
spell_type ty = spell_round ty.wraps ty.base

-- parts with a comma before each
abbrev pub spell_more : {A : Type 0} → (A → List Token) → List A → List Token
spell_more spell [] = []
spell_more spell (a ∷ more) = Sign m.Comma ∷ spell a ++ spell_more spell more

abbrev pub spell_param : Param → List Token
spell_param p = Name p.name ∷ Sign m.Colon ∷ spell_type p.ty

-- OUT: nothing, one type, or more of them in parentheses
abbrev pub spell_out : List TypeText → List Token
spell_out [] = Sign m.OpenParen ∷ Sign m.CloseParen ∷ []
spell_out (ty ∷ []) = spell_type ty
spell_out (ty ∷ other ∷ more) = Sign m.OpenParen ∷ spell_type ty ++ (spell_more spell_type (other ∷ more) ++ (Sign m.CloseParen ∷ []))

-- what stands behind the parameters
abbrev pub spell_result : ResultText → List Token
spell_result Missing = []
spell_result (Plain out) = Sign m.Arrow ∷ spell_out out
spell_result (Rpc out) = Sign m.Arrow ∷ Reserved k.RpcResult ∷ Sign m.Less ∷ spell_out out ++ (Sign m.Greater ∷ [])

-- What the writer of a line is free in: `pub` may stand before a struct, a trait and a field, and a comma behind a field.
pub record Choice : Type 0 where
  pub public : Bool
  pub comma : Bool

abbrev pub maybe : Bool → Token → List Token
maybe chosen token = if chosen then token ∷ [] else []

-- the tokens of a line
abbrev pub spell_line : Choice → IdlLine → List Token
spell_line c (Struct name) = maybe c.public (Reserved k.Pub) ++ (Reserved k.Struct ∷ Name name ∷ Sign m.OpenBrace ∷ [])
spell_line c (Field name ty) = maybe c.public (Reserved k.Pub) ++ (Name name ∷ Sign m.Colon ∷ spell_type ty ++ maybe c.comma (Sign m.Comma))
spell_line c (Trait name) = maybe c.public (Reserved k.Pub) ++ (Reserved k.Trait ∷ Name name ∷ Sign m.OpenBrace ∷ [])
spell_line c Idempotent = Sign m.Hash ∷ Sign m.OpenBracket ∷ Name (codes "idempotent") ∷ Sign m.CloseBracket ∷ []
spell_line c (Method name params result) =
    Reserved k.Fn ∷ Name name ∷ Sign m.OpenParen ∷ Sign m.Ampersand ∷ Reserved k.SelfWord
    ∷ spell_more spell_param params ++ (Sign m.CloseParen ∷ spell_result result ++ (Sign m.Semicolon ∷ []))
spell_line c Close = Sign m.CloseBrace ∷ []

-- an array has 1 to 65,535 elements
abbrev pub IsWrap : Wrap → Type 0
IsWrap (wrap.Array n) = (1 ≤ n) × (n ≤ 65535)
IsWrap w = Unit {0}

-- `&RRef<STRUCT>` is one part, so that no `&` stands round an `RRef<STRUCT>` by itself.
abbrev pub MayHold : Wrap → List Wrap → Base → Type 0
MayHold wrap.Ref [] (base.RRef name) = ⊥
MayHold w ws b = Unit {0}

-- each wrap is one, and may hold what is in it
abbrev pub AreWraps : List Wrap → Base → Type 0
AreWraps [] b = Unit {0}
AreWraps (w ∷ ws) b = IsWrap w × MayHold w ws b × AreWraps ws b

-- Types nest at most 8 deep; one that holds no other is 0 deep.
pub record IsType (ty : TypeText) : Type 0 where
  pub depth : length ty.wraps ≤ 8
  pub wraps : AreWraps ty.wraps ty.base

abbrev pub AreTypes : List TypeText → Type 0
AreTypes [] = Unit {0}
AreTypes (ty ∷ more) = IsType ty × AreTypes more

abbrev pub AreParams : List Param → Type 0
AreParams params = AreTypes (map (λ p. p.ty) params)

abbrev pub IsResult : ResultText → Type 0
IsResult Missing = Unit {0}
IsResult (Plain out) = AreTypes out
IsResult (Rpc out) = AreTypes out

-- the types of a line are types
abbrev pub IsForm : IdlLine → Type 0
IsForm (Field name ty) = IsType ty
IsForm (Method name params result) = AreParams params × IsResult result
IsForm _ = Unit {0}

-- A text is a line of this form.
pub record IsIdlLine (form : IdlLine) (text : List ℕ) : Type 0 where
  pub choice : Choice
  pub tokens : HasTokens (spell_line choice form) text
  pub whole : IsForm form
