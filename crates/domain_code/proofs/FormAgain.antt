-- Lines: what is spelled so is read.
use Rattle.std.proofs.Common.{◌≡◌, ℕ, List, [], ◌∷◌, ◌++◌, Some, None, false, refl, ap, ◌∙◌, append_assoc}
use Rattle.std.specs.Prelude.{codes}
use Rattle.rl_defs.specs.declared.code.Register.{Register}
use Rattle.rl_defs.specs.declared.code.CallArg.{CallArg}
use Rattle.rl_defs.specs.declared.code.CallArg.TheVariants as arg
use Rattle.rl_defs.specs.declared.code.Instr.{Instr}
use Rattle.rl_defs.specs.declared.code.Instr.TheVariants as instr
use Rattle.rl_defs.specs.declared.code.HeadItem.{HeadItem}
use Rattle.rl_defs.specs.declared.code.Native.{Native}
use Rattle.rl_defs.specs.declared.code.Native.TheVariants as native
use Rattle.rl_defs.specs.declared.code.DomainLine.{DomainLine}
use Rattle.rl_defs.specs.declared.code.DomainLine.TheVariants as line
use Rattle.rl_defs.specs.declared.lexeme.Key.{Key}
use Rattle.rl_defs.specs.declared.lexeme.Key.TheVariants as k
use Rattle.rl_defs.specs.declared.lexeme.Mark.{Mark}
use Rattle.rl_defs.specs.declared.lexeme.Mark.TheVariants as m
use Rattle.rl_defs.specs.Tokens.{Token, Name, Reserved, Number, Sign}
use Rattle.rl_defs.specs.IdlForms.{spell_more}
use Rattle.rl_defs.specs.DomainForms.{spell_register, spell_one, spell_some, two, three, spell_arg, spell_results, spell_head, spell_native, spell_line}
use Rattle.rl_text.specs.Reading.{mark_at, key_at, end_at, none_left}
use Rattle.rl_text.proofs.PartLaws.{part, mark_again, key_again, name_again, number_again, word_again, end_again}
use Rattle.domain_code.specs.declared.verb.One.{One}
use Rattle.domain_code.specs.declared.verb.One.TheVariants as one
use Rattle.domain_code.specs.declared.verb.Two.{Two}
use Rattle.domain_code.specs.declared.verb.Two.TheVariants as pair
use Rattle.domain_code.specs.declared.verb.Three.{Three}
use Rattle.domain_code.specs.declared.verb.Three.TheVariants as triple
use Rattle.domain_code.specs.declared.verb.Named.{Named}
use Rattle.domain_code.specs.declared.verb.Named.TheVariants as named
use Rattle.domain_code.specs.declared.verb.Verb.{Verb}
use Rattle.domain_code.specs.declared.verb.Verb.TheVariants as verb
use Rattle.domain_code.specs.Verbs.{verb_text}
use Rattle.domain_code.specs.Operands.{register_at}
use Rattle.domain_code.specs.Lists.{arg_at, head_at}
use Rattle.domain_code.specs.Instructions.{one_of, two_of, three_of, named_of, const_at, one_at, two_at, three_at, named_at, jmp_at, put_at, hang_at, unhang_at, ret_at, args_at, results_at, landing_at, behind_args_at, call_at}
use Rattle.domain_code.specs.Forms.{pair_at, domain_at, slot_at, import_at, words_at, native_of, native_at, function_at, label_at, operands_at, by_word_at, behind_name_at, word_line_at, form_at, line_at}
use Rattle.domain_code.proofs.VerbLaws.{verb_again}
use Rattle.domain_code.proofs.OperandLaws.{register_again, next_register_again, next_name_again, next_number_again, registers_again}
use Rattle.domain_code.proofs.ListLaws.{list_again, some_again, arg_again, head_again}

-- ---- lines by the token that they begin with

no_key : (key : Key) (name : List ℕ) (ts : List Token) → key_at key (Name name ∷ ts) ≡ None
unfolding key_at
no_key key name ts = refl

no_mark : (mark : Mark) (name : List ℕ) (ts : List Token) → mark_at mark (Name name ∷ ts) ≡ None
unfolding mark_at
no_mark mark name ts = refl

-- a line that begins with a word, and has no colon behind it
word_line : (v : Verb) (ts : List Token) (l : DomainLine) → mark_at m.Colon ts ≡ None → operands_at v ts ≡ Some (part l []) → line_at (Name (verb_text v) ∷ ts) ≡ Some l
unfolding line_at form_at word_line_at behind_name_at by_word_at
word_line v ts l none e = rw (no_key k.Const (verb_text v) ts, no_key k.Fn (verb_text v) ts, no_mark m.CloseBrace (verb_text v) ts, name_again (verb_text v) ts, none, verb_again v, e, end_again) refl

-- the same behind a register or a name
named_line : (v : Verb) (name : List ℕ) (ts : List Token) (l : DomainLine) → operands_at v (Name name ∷ ts) ≡ Some (part l []) → line_at (Name (verb_text v) ∷ Name name ∷ ts) ≡ Some l
named_line v name ts l e = word_line v (Name name ∷ ts) l (no_mark m.Colon name ts) e

-- ---- instructions

const_again : (a : Register) (n : ℕ) → const_at (spell_register a ∷ Sign m.Comma ∷ Number n ∷ []) ≡ Some (part (line.Code (instr.Const a n)) [])
unfolding const_at
const_again a n = rw (register_again a (Sign m.Comma ∷ Number n ∷ []), next_number_again n []) refl

one_again : (v : One) (a : Register) → one_at v (spell_one a) ≡ Some (part (line.Code (one_of v a)) [])
unfolding one_at
one_again v a = rw (register_again a []) refl

two_again : (v : Two) (a b : Register) → two_at v (two a b) ≡ Some (part (line.Code (two_of v a b)) [])
unfolding two_at
two_again v a b = rw (register_again a (Sign m.Comma ∷ spell_register b ∷ []), next_register_again b []) refl

three_again : (v : Three) (a b c : Register) → three_at v (three a b c) ≡ Some (part (line.Code (three_of v a b c)) [])
unfolding three_at
three_again v a b c = rw (register_again a (Sign m.Comma ∷ spell_register b ∷ Sign m.Comma ∷ spell_register c ∷ []), next_register_again b (Sign m.Comma ∷ spell_register c ∷ []), next_register_again c []) refl

register_name_again : (v : Named) (a : Register) (name : List ℕ) → named_at v (spell_register a ∷ Sign m.Comma ∷ Name name ∷ []) ≡ Some (part (line.Code (named_of v a name)) [])
unfolding named_at
register_name_again v a name = rw (register_again a (Sign m.Comma ∷ Name name ∷ []), next_name_again name []) refl

jmp_again : (label : List ℕ) → jmp_at (Name label ∷ []) ≡ Some (part (line.Code (instr.Jmp label)) [])
unfolding jmp_at
jmp_again label = rw (name_again label []) refl

put_again : (slot : List ℕ) (a : Register) → put_at (Name slot ∷ Sign m.Comma ∷ spell_register a ∷ []) ≡ Some (part (line.Code (instr.Put slot a)) [])
unfolding put_at
put_again slot a = rw (name_again slot (Sign m.Comma ∷ spell_register a ∷ []), next_register_again a []) refl

hang_again : (o : Register) (place : ℕ) (v : Register) → hang_at (spell_register o ∷ Sign m.Comma ∷ Number place ∷ Sign m.Comma ∷ spell_register v ∷ []) ≡ Some (part (line.Code (instr.Hang o place v)) [])
unfolding hang_at
hang_again o place v = rw (register_again o (Sign m.Comma ∷ Number place ∷ Sign m.Comma ∷ spell_register v ∷ []), next_number_again place (Sign m.Comma ∷ spell_register v ∷ []), next_register_again v []) refl

unhang_again : (a o : Register) (place : ℕ) → unhang_at (spell_register a ∷ Sign m.Comma ∷ spell_register o ∷ Sign m.Comma ∷ Number place ∷ []) ≡ Some (part (line.Code (instr.Unhang a o place)) [])
unfolding unhang_at
unhang_again a o place = rw (register_again a (Sign m.Comma ∷ spell_register o ∷ Sign m.Comma ∷ Number place ∷ []), next_register_again o (Sign m.Comma ∷ Number place ∷ []), next_number_again place []) refl

something : (a : Register) (rest : List Token) → none_left (spell_one a ++ rest) ≡ false
something a rest = refl

ret_again : (results : List Register) → ret_at (spell_some spell_one results) ≡ Some (part (line.Code (instr.Ret results)) [])
unfolding ret_at
ret_again results = rw (some_again spell_one register_at registers_again something results) refl

-- ---- calls

no_close : (a : CallArg) (rest : List Token) → mark_at m.CloseParen (spell_arg a ++ rest) ≡ None
unfolding mark_at
no_close (arg.Passed r) rest = refl
no_close (arg.Lent r) rest = refl

no_comma_there : (rest : List Token) → mark_at m.Comma (Sign m.CloseParen ∷ rest) ≡ None
unfolding mark_at
no_comma_there rest = refl

args_again : (args : List CallArg) (rest : List Token) → args_at (spell_some spell_arg args ++ (Sign m.CloseParen ∷ rest)) ≡ Some (part args rest)
unfolding args_at
args_again [] rest = rw (mark_again m.CloseParen rest) refl
args_again (a ∷ more) rest =
    let close : List Token = Sign m.CloseParen ∷ rest in
    let group : spell_some spell_arg (a ∷ more) ++ close ≡ spell_arg a ++ (spell_more spell_arg more ++ close) = append_assoc (spell_arg a) (spell_more spell_arg more) close in
    let none : mark_at m.CloseParen (spell_some spell_arg (a ∷ more) ++ close) ≡ None = ap (mark_at m.CloseParen) group ∙ no_close a (spell_more spell_arg more ++ close) in
    rw (none, list_again spell_arg arg_at arg_again a more close (no_comma_there rest), mark_again m.CloseParen rest) refl

-- what stands behind the results
abbrev way : Register → List ℕ → List Token
way code label = Name (codes "else") ∷ spell_register code ∷ Sign m.Comma ∷ Name label ∷ []

results_again : (results : List Register) (code : Register) (label : List ℕ) → results_at (spell_results results ++ way code label) ≡ Some (part results (way code label))
unfolding results_at
results_again [] code label = rw (no_mark m.Arrow (codes "else") (spell_register code ∷ Sign m.Comma ∷ Name label ∷ [])) refl
results_again (a ∷ more) code label = rw (mark_again m.Arrow (spell_some spell_one (a ∷ more) ++ way code label)) (list_again spell_one register_at registers_again a more (way code label) (no_mark m.Comma (codes "else") (spell_register code ∷ Sign m.Comma ∷ Name label ∷ [])))

landing_again : (code : Register) (label : List ℕ) → landing_at (way code label) ≡ Some (part (record { code = code; label = label }) [])
unfolding landing_at
landing_again code label = rw (word_again (codes "else") (spell_register code ∷ Sign m.Comma ∷ Name label ∷ []), register_again code (Sign m.Comma ∷ Name label ∷ []), next_name_again label []) refl

behind_args_again : (target : Register) (method : List ℕ) (args : List CallArg) (results : List Register) (code : Register) (label : List ℕ) → behind_args_at target method args (spell_results results ++ way code label) ≡ Some (part (line.Code (instr.Call target method args results code label)) [])
unfolding behind_args_at
behind_args_again target method args results code label = rw (results_again results code label, landing_again code label) refl

call_again : (target : Register) (method : List ℕ) (args : List CallArg) (results : List Register) (code : Register) (label : List ℕ) →
    call_at (spell_register target ∷ Sign m.Dot ∷ Name method ∷ Sign m.OpenParen ∷ spell_some spell_arg args ++ (Sign m.CloseParen ∷ spell_results results ++ way code label)) ≡ Some (part (line.Code (instr.Call target method args results code label)) [])
unfolding call_at
call_again target method args results code label =
    let behind : List Token = spell_results results ++ way code label in
    let all : List Token = spell_some spell_arg args ++ (Sign m.CloseParen ∷ behind) in
    rw (register_again target (Sign m.Dot ∷ Name method ∷ Sign m.OpenParen ∷ all), mark_again m.Dot (Name method ∷ Sign m.OpenParen ∷ all), name_again method (Sign m.OpenParen ∷ all), mark_again m.OpenParen all, args_again args behind) (behind_args_again target method args results code label)

-- ---- other lines

pair_again : (name of : List ℕ) (rest : List Token) → pair_at (Name name ∷ Sign m.Colon ∷ Name of ∷ rest) ≡ Some (part (record { name = name; of = of }) rest)
unfolding pair_at
pair_again name of rest = rw (name_again name (Sign m.Colon ∷ Name of ∷ rest), mark_again m.Colon (Name of ∷ rest), name_again of rest) refl

domain_again : (name has : List ℕ) → domain_at (Name name ∷ Sign m.Colon ∷ Name has ∷ Sign m.OpenBrace ∷ []) ≡ Some (part (line.Domain name has) [])
unfolding domain_at
domain_again name has = rw (pair_again name has (Sign m.OpenBrace ∷ []), mark_again m.OpenBrace []) refl

slot_again : (name ty : List ℕ) → slot_at (Name name ∷ Sign m.Colon ∷ Name ty ∷ []) ≡ Some (part (line.Slot name ty) [])
unfolding slot_at
slot_again name ty = rw (pair_again name ty []) refl

import_again : (name has : List ℕ) → import_at (Name name ∷ Sign m.Colon ∷ Name has ∷ []) ≡ Some (part (line.Import name has) [])
unfolding import_at
import_again name has = rw (pair_again name has []) refl

words_again : (n : ℕ) → words_at (Number n ∷ []) ≡ Some (part (line.Words n) [])
unfolding words_at
words_again n = rw (number_again n []) refl

native_word : (body : Native) → native_of (spell_native body) ≡ Some body
unfolding native_of
native_word native.Fs = refl
native_word native.Rv6 = refl

native_again : (body : Native) → native_at (Name (spell_native body) ∷ []) ≡ Some (part (line.Native body) [])
unfolding native_at
native_again body = rw (name_again (spell_native body) [], native_word body) refl

no_colon : (n : ℕ) (ts : List Token) → mark_at m.Colon (Number n ∷ ts) ≡ None
unfolding mark_at
no_colon n ts = refl

no_colon_there : mark_at m.Colon [] ≡ None
unfolding mark_at
no_colon_there = refl

no_colon_registers : (results : List Register) → mark_at m.Colon (spell_some spell_one results) ≡ None
unfolding mark_at
no_colon_registers [] = refl
no_colon_registers (a ∷ more) = refl

const_line : (a : Register) (n : ℕ) → line_at (spell_line (line.Code (instr.Const a n))) ≡ Some (line.Code (instr.Const a n))
unfolding line_at form_at
const_line a n = rw (key_again k.Const (spell_register a ∷ Sign m.Comma ∷ Number n ∷ []), const_again a n, end_again) refl

no_const : (ts : List Token) → key_at k.Const (Reserved k.Fn ∷ ts) ≡ None
unfolding key_at
no_const ts = refl

function_line : (name : List ℕ) → line_at (spell_line (line.Function name)) ≡ Some (line.Function name)
unfolding line_at form_at function_at
function_line name = rw (no_const (Name name ∷ Sign m.OpenBrace ∷ []), key_again k.Fn (Name name ∷ Sign m.OpenBrace ∷ []), name_again name (Sign m.OpenBrace ∷ []), mark_again m.OpenBrace [], end_again) refl

head_something : (a : HeadItem) (rest : List Token) → none_left (spell_head a ++ rest) ≡ false
head_something a rest = refl

head_line : (label : List ℕ) (items : List HeadItem) → line_at (spell_line (line.Head label items)) ≡ Some (line.Head label items)
unfolding line_at form_at word_line_at behind_name_at label_at
head_line label items =
    let all : List Token = spell_some spell_head items in
    rw (no_key k.Const label (Sign m.Colon ∷ all), no_key k.Fn label (Sign m.Colon ∷ all), no_mark m.CloseBrace label (Sign m.Colon ∷ all), name_again label (Sign m.Colon ∷ all), mark_again m.Colon all, some_again spell_head head_at head_again head_something items, end_again) refl

close_line : line_at (spell_line line.Close) ≡ Some line.Close
unfolding line_at form_at key_at mark_at end_at
close_line = refl

instr_again : (i : Instr) → line_at (spell_line (line.Code i)) ≡ Some (line.Code i)
instr_again (instr.Const a n) = const_line a n
instr_again (instr.Copy a b) = named_line (verb.Two pair.Copy) _ _ _ (two_again pair.Copy a b)
instr_again (instr.Math o a b c) = named_line (verb.Three (triple.Math o)) _ _ _ (three_again (triple.Math o) a b c)
instr_again (instr.Jmp label) = named_line verb.Jmp _ _ _ (jmp_again label)
instr_again (instr.Jz a label) = named_line (verb.Named named.Jz) _ _ _ (register_name_again named.Jz a label)
instr_again (instr.Move a b) = named_line (verb.Two pair.Move) _ _ _ (two_again pair.Move a b)
instr_again (instr.Get a o i) = named_line (verb.Three triple.Get) _ _ _ (three_again triple.Get a o i)
instr_again (instr.Wget a i) = named_line (verb.Two pair.Wget) _ _ _ (two_again pair.Wget a i)
instr_again (instr.Has a slot) = named_line (verb.Named named.Has) _ _ _ (register_name_again named.Has a slot)
instr_again (instr.Cap a import) = named_line (verb.Named named.Cap) _ _ _ (register_name_again named.Cap a import)
instr_again (instr.DevSize a) = named_line (verb.One one.DevSize) _ _ _ (one_again one.DevSize a)
instr_again (instr.New a ty) = named_line (verb.Named named.New) _ _ _ (register_name_again named.New a ty)
instr_again (instr.Drop a) = named_line (verb.One one.Drop) _ _ _ (one_again one.Drop a)
instr_again (instr.Set o i v) = named_line (verb.Three triple.Set) _ _ _ (three_again triple.Set o i v)
instr_again (instr.Wput i v) = named_line (verb.Two pair.Wput) _ _ _ (two_again pair.Wput i v)
instr_again (instr.Take a slot) = named_line (verb.Named named.Take) _ _ _ (register_name_again named.Take a slot)
instr_again (instr.Put slot a) = named_line verb.Put _ _ _ (put_again slot a)
instr_again (instr.DevGet o n) = named_line (verb.Two pair.DevGet) _ _ _ (two_again pair.DevGet o n)
instr_again (instr.DevPut n o) = named_line (verb.Two pair.DevPut) _ _ _ (two_again pair.DevPut n o)
instr_again (instr.Hang o place v) = named_line verb.Hang _ _ _ (hang_again o place v)
instr_again (instr.Unhang a o place) = named_line verb.Unhang _ _ _ (unhang_again a o place)
instr_again (instr.Call target method args results code label) = named_line verb.Call _ _ _ (call_again target method args results code label)
instr_again (instr.Ret results) = word_line verb.Ret (spell_some spell_one results) _ (no_colon_registers results) (ret_again results)
instr_again instr.Trap = word_line verb.Trap [] _ no_colon_there refl

pub line_again : (l : DomainLine) → line_at (spell_line l) ≡ Some l
line_again (line.Domain name has) = named_line verb.Domain _ _ _ (domain_again name has)
line_again (line.Words n) = word_line verb.Words (Number n ∷ []) _ (no_colon n []) (words_again n)
line_again (line.Slot name ty) = named_line verb.Slot _ _ _ (slot_again name ty)
line_again (line.Import name has) = named_line verb.Import _ _ _ (import_again name has)
line_again (line.Native body) = named_line verb.Native _ _ _ (native_again body)
line_again (line.Function name) = function_line name
line_again (line.Head label items) = head_line label items
line_again (line.Code i) = instr_again i
line_again line.Close = close_line
