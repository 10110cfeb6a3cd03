-- The line forms of the domain part, by their spellings.
use Rattle.std.specs.Prelude.{ℕ, List, [], ◌∷◌, ◌++◌, codes, slice_range}
use Rattle.std.specs.Fmt.{decimal}
use Rattle.std.specs.Str.Parse.{IsNumeral}
use Rattle.rl_defs.specs.declared.code.Register.{Register}
use Rattle.rl_defs.specs.declared.code.MathOp.{MathOp}
use Rattle.rl_defs.specs.declared.code.MathOp.TheVariants as op
use Rattle.rl_defs.specs.declared.code.CallArg.{CallArg}
use Rattle.rl_defs.specs.declared.code.CallArg.TheVariants as arg
use Rattle.rl_defs.specs.declared.code.Instr.{Instr}
use Rattle.rl_defs.specs.declared.code.Instr.TheVariants as instr
use Rattle.rl_defs.specs.declared.code.HeadKind.{HeadKind}
use Rattle.rl_defs.specs.declared.code.HeadKind.TheVariants as head
use Rattle.rl_defs.specs.declared.code.HeadItem.{HeadItem}
use Rattle.rl_defs.specs.declared.code.Native.{Native}
use Rattle.rl_defs.specs.declared.code.Native.TheVariants as native
use Rattle.rl_defs.specs.declared.code.DomainLine.{DomainLine}
use Rattle.rl_defs.specs.declared.code.DomainLine.TheVariants as line
use Rattle.rl_defs.specs.declared.lexeme.Key.TheVariants as k
use Rattle.rl_defs.specs.declared.lexeme.Mark.TheVariants as m
use Rattle.rl_defs.specs.Tokens.{Token, Name, Reserved, Number, Sign, Placed, HasPlaced, HasTokens}
use Rattle.rl_defs.specs.IdlForms.{spell_more}

-- a register, `r0` to `r31`
abbrev pub spell_register : Register → Token
spell_register r = Name (codes "r" ++ decimal r.number)

-- parts with a comma between them
abbrev pub spell_some : {A : Type 0} → (A → List Token) → List A → List Token
spell_some spell [] = []
spell_some spell (a ∷ more) = spell a ++ spell_more spell more

abbrev pub spell_one : Register → List Token
spell_one r = spell_register r ∷ []

-- a comma, and a register behind it
abbrev pub behind_comma : Register → List Token
behind_comma r = Sign m.Comma ∷ spell_register r ∷ []

-- one, two or three registers
abbrev pub two : Register → Register → List Token
two a b = spell_register a ∷ behind_comma b

abbrev pub three : Register → Register → Register → List Token
three a b c = spell_register a ∷ behind_comma b ++ behind_comma c

abbrev pub spell_op : MathOp → List ℕ
spell_op op.Add = codes "add"
spell_op op.Sub = codes "sub"
spell_op op.Mul = codes "mul"
spell_op op.Div = codes "div"
spell_op op.Rem = codes "rem"
spell_op op.And = codes "and"
spell_op op.Or = codes "or"
spell_op op.Xor = codes "xor"
spell_op op.Lt = codes "lt"
spell_op op.Eq = codes "eq"

-- an argument of a call; a `&` stands before one that is lent
abbrev pub spell_arg : CallArg → List Token
spell_arg (arg.Passed r) = spell_one r
spell_arg (arg.Lent r) = Sign m.Ampersand ∷ spell_one r

-- the results of a call stand behind `->`, which is missing where there are none
abbrev pub spell_results : List Register → List Token
spell_results [] = []
spell_results (a ∷ more) = Sign m.Arrow ∷ spell_some spell_one (a ∷ more)

-- an instruction: its word, and its operands with commas between them
abbrev pub spell_instr : Instr → List Token
spell_instr (instr.Const a n) = Reserved k.Const ∷ spell_register a ∷ Sign m.Comma ∷ Number n ∷ []
spell_instr (instr.Copy a b) = Name (codes "copy") ∷ two a b
spell_instr (instr.Math o a b c) = Name (spell_op o) ∷ three a b c
spell_instr (instr.Jmp label) = Name (codes "jmp") ∷ Name label ∷ []
spell_instr (instr.Jz a label) = Name (codes "jz") ∷ spell_register a ∷ Sign m.Comma ∷ Name label ∷ []
spell_instr (instr.Move a b) = Name (codes "move") ∷ two a b
spell_instr (instr.Get a o i) = Name (codes "get") ∷ three a o i
spell_instr (instr.Wget a i) = Name (codes "wget") ∷ two a i
spell_instr (instr.Has a slot) = Name (codes "has") ∷ spell_register a ∷ Sign m.Comma ∷ Name slot ∷ []
spell_instr (instr.Cap a import) = Name (codes "cap") ∷ spell_register a ∷ Sign m.Comma ∷ Name import ∷ []
spell_instr (instr.DevSize a) = Name (codes "devsize") ∷ spell_one a
spell_instr (instr.New a ty) = Name (codes "new") ∷ spell_register a ∷ Sign m.Comma ∷ Name ty ∷ []
spell_instr (instr.Drop a) = Name (codes "drop") ∷ spell_one a
spell_instr (instr.Set o i v) = Name (codes "set") ∷ three o i v
spell_instr (instr.Wput i v) = Name (codes "wput") ∷ two i v
spell_instr (instr.Take a slot) = Name (codes "take") ∷ spell_register a ∷ Sign m.Comma ∷ Name slot ∷ []
spell_instr (instr.Put slot a) = Name (codes "put") ∷ Name slot ∷ behind_comma a
spell_instr (instr.DevGet o n) = Name (codes "devget") ∷ two o n
spell_instr (instr.DevPut n o) = Name (codes "devput") ∷ two n o
spell_instr (instr.Hang o place v) = Name (codes "hang") ∷ spell_register o ∷ Sign m.Comma ∷ Number place ∷ behind_comma v
spell_instr (instr.Unhang a o place) = Name (codes "unhang") ∷ two a o ++ (Sign m.Comma ∷ Number place ∷ [])
spell_instr (instr.Call target method args results code label) =
    Name (codes "call") ∷ spell_register target ∷ Sign m.Dot ∷ Name method ∷ Sign m.OpenParen
    ∷ spell_some spell_arg args ++ (Sign m.CloseParen ∷ spell_results results ++
    (Name (codes "else") ∷ spell_register code ∷ Sign m.Comma ∷ Name label ∷ []))
spell_instr (instr.Ret results) = Name (codes "ret") ∷ spell_some spell_one results
spell_instr instr.Trap = Name (codes "trap") ∷ []

-- what a head says of a register
abbrev pub spell_kind : HeadKind → List Token
spell_kind head.Num = Reserved k.Num ∷ []
spell_kind (head.Own ty) = Reserved k.RRef ∷ Sign m.Less ∷ Name ty ∷ Sign m.Greater ∷ []
spell_kind (head.Lent ty) = Sign m.Ampersand ∷ Reserved k.RRef ∷ Sign m.Less ∷ Name ty ∷ Sign m.Greater ∷ []
spell_kind (head.Cap has) = Sign m.Ampersand ∷ Reserved k.Dyn ∷ Name has ∷ []

abbrev pub spell_head : HeadItem → List Token
spell_head item = spell_register item.register ∷ spell_kind item.kind

abbrev pub spell_native : Native → List ℕ
spell_native native.Fs = codes "fs"
spell_native native.Rv6 = codes "rv6"

-- the tokens of a line
abbrev pub spell_line : DomainLine → List Token
spell_line (line.Domain name has) = Name (codes "domain") ∷ Name name ∷ Sign m.Colon ∷ Name has ∷ Sign m.OpenBrace ∷ []
spell_line (line.Words n) = Name (codes "words") ∷ Number n ∷ []
spell_line (line.Slot name ty) = Name (codes "slot") ∷ Name name ∷ Sign m.Colon ∷ Name ty ∷ []
spell_line (line.Import name has) = Name (codes "import") ∷ Name name ∷ Sign m.Colon ∷ Name has ∷ []
spell_line (line.Native body) = Name (codes "native") ∷ Name (spell_native body) ∷ []
spell_line (line.Function name) = Reserved k.Fn ∷ Name name ∷ Sign m.OpenBrace ∷ []
spell_line (line.Head label items) = Name label ∷ Sign m.Colon ∷ spell_some spell_head items
spell_line (line.Code i) = spell_instr i
spell_line line.Close = Sign m.CloseBrace ∷ []

-- a number of a line, by its place, is written in decimal digits
abbrev pub IsDecimal : List ℕ → Token → ℕ → ℕ → Type 0
IsDecimal text (Number n) start stop = IsNumeral 10 (slice_range text start stop)
IsDecimal text _ start stop = Unit {0}

abbrev pub AreDecimal : List ℕ → List Placed → Type 0
AreDecimal text [] = Unit {0}
AreDecimal text (p ∷ ps) = IsDecimal text p.token p.start p.stop × AreDecimal text ps

-- the numbers of a line are written in decimal digits
abbrev pub HasDecimals : List ℕ → Type 0
HasDecimals text = (ps : List Placed) × HasPlaced ps text × AreDecimal text ps

-- the place of a cell that is hung into, or taken from, is written in decimal digits. Other numbers may be hexadecimal
abbrev pub PlaceIsDecimal : DomainLine → List ℕ → Type 0
PlaceIsDecimal (line.Code (instr.Hang o place v)) text = HasDecimals text
PlaceIsDecimal (line.Code (instr.Unhang a o place)) text = HasDecimals text
PlaceIsDecimal _ text = Unit {0}

-- A text is a line of this form.
pub record IsDomainLine (form : DomainLine) (text : List ℕ) : Type 0 where
  pub tokens : HasTokens (spell_line form) text
  pub decimal : PlaceIsDecimal form text
