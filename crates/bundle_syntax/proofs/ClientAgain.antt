-- Lines of the clients: what is spelled so is read.
use Rattle.std.proofs.Common.{◌≡◌, ℕ, false, List, [], ◌∷◌, ◌++◌, Some, None, refl, ap, ◌∙◌, append_assoc}
use Rattle.std.specs.Prelude.{codes}
use Rattle.rl_defs.specs.declared.bundle.ScriptArgText.{ScriptArgText}
use Rattle.rl_defs.specs.declared.bundle.ScriptArgText.TheVariants as arg
use Rattle.rl_defs.specs.declared.bundle.ClientLine.{ClientLine}
use Rattle.rl_defs.specs.declared.bundle.ClientLine.TheVariants as client
use Rattle.rl_defs.specs.declared.lexeme.Mark.TheVariants as m
use Rattle.rl_defs.specs.Tokens.{Token, Name, Text, Sign}
use Rattle.rl_defs.specs.IdlForms.{spell_more}
use Rattle.rl_defs.specs.DomainForms.{spell_some}
use Rattle.rl_defs.specs.BundleForms.{spell_name, spell_number, spell_arg, spell_names, spell_client}
use Rattle.rl_text.specs.Reading.{name_at, number_at, text_at, mark_at, end_at, begins_word}
use Rattle.rl_text.proofs.PartLaws.{part, mark_again, name_again, number_again, word_again, end_again, Again}
use Rattle.bundle_syntax.specs.declared.clients.form.Verb.{Verb}
use Rattle.bundle_syntax.specs.declared.clients.form.Verb.TheVariants as verb
use Rattle.bundle_syntax.specs.ClientVerbs.{verb_text, verb_of}
use Rattle.bundle_syntax.specs.ClientLines.{plain_at, arg_at, client_at, let_at, text_line_at, args_at, names_at, callee_at, behind_callee_at, call_line_at, show_at, drop_at, kill_at, operands_at, by_word_at, word_line_at, form_at, line_at}
use Rattle.bundle_syntax.proofs.Readings.{Fine, list_again, list_whole, some_again, names_again, numbers_again, number_something}

verb_again : (v : Verb) → verb_of (verb_text v) ≡ Some v
unfolding verb_of
verb_again verb.Client = refl
verb_again verb.Let = refl
verb_again verb.Text = refl
verb_again verb.Show = refl
verb_again verb.Drop = refl
verb_again verb.Kill = refl

no_call : (v : Verb) (ts : List Token) → begins_word (codes "call") (Name (verb_text v) ∷ ts) ≡ false
no_call verb.Client ts = refl
no_call verb.Let ts = refl
no_call verb.Text ts = refl
no_call verb.Show ts = refl
no_call verb.Drop ts = refl
no_call verb.Kill ts = refl

no_close : (name : List ℕ) (ts : List Token) → mark_at m.CloseBrace (Name name ∷ ts) ≡ None
unfolding mark_at
no_close name ts = refl

word_line : (v : Verb) (ts : List Token) (l : ClientLine) → operands_at v ts ≡ Some (part l []) → line_at (Name (verb_text v) ∷ ts) ≡ Some l
unfolding line_at form_at word_line_at by_word_at
word_line v ts l e = rw (no_call v ts, no_close (verb_text v) ts, name_again (verb_text v) ts, verb_again v, e, end_again) refl

client_again : (name : List ℕ) → client_at (Name name ∷ Sign m.OpenBrace ∷ []) ≡ Some (part (client.Client name) [])
unfolding client_at
client_again name = rw (name_again name (Sign m.OpenBrace ∷ []), mark_again m.OpenBrace []) refl

let_again : (name ty : List ℕ) (values : List ℕ) → let_at (Name name ∷ Sign m.Equals ∷ Name (codes "new") ∷ Name ty ∷ spell_some spell_number values) ≡ Some (part (client.Let name ty values) [])
unfolding let_at
let_again name ty values =
    let all : List Token = spell_some spell_number values in
    rw (name_again name (Sign m.Equals ∷ Name (codes "new") ∷ Name ty ∷ all), mark_again m.Equals (Name (codes "new") ∷ Name ty ∷ all), word_again (codes "new") (Name ty ∷ all), name_again ty all, some_again spell_number number_at numbers_again number_something values) refl

text_again : (bytes : List ℕ) (rest : List Token) → text_at (Text bytes ∷ rest) ≡ Some (part bytes rest)
unfolding text_at
text_again bytes rest = refl

text_line_again : (name ty bytes : List ℕ) → text_line_at (Name name ∷ Sign m.Equals ∷ Name ty ∷ Text bytes ∷ []) ≡ Some (part (client.Text name ty bytes) [])
unfolding text_line_at
text_line_again name ty bytes = rw (name_again name (Sign m.Equals ∷ Name ty ∷ Text bytes ∷ []), mark_again m.Equals (Name ty ∷ Text bytes ∷ []), name_again ty (Text bytes ∷ []), text_again bytes []) refl

show_again : (name : List ℕ) → show_at (Name name ∷ []) ≡ Some (part (client.Show name) [])
unfolding show_at
show_again name = rw (name_again name []) refl

drop_again : (name : List ℕ) → drop_at (Name name ∷ []) ≡ Some (part (client.Drop name) [])
unfolding drop_at
drop_again name = rw (name_again name []) refl

kill_again : (target : List ℕ) → kill_at (Name target ∷ []) ≡ Some (part (client.Kill target) [])
unfolding kill_at
kill_again target = rw (name_again target []) refl

-- ---- calls

arg_again : Again spell_arg Fine arg_at
unfolding arg_at plain_at mark_at
arg_again (arg.Num n) rest valid = rw (number_again n rest) refl
arg_again (arg.Name name) rest valid = rw (name_again name rest) refl
arg_again (arg.Lent name) rest valid = rw (name_again name rest) refl
arg_again (arg.Target name) rest valid = rw (name_again name rest) refl

no_end : (a : ScriptArgText) (rest : List Token) → mark_at m.CloseParen (spell_arg a ++ rest) ≡ None
unfolding mark_at
no_end (arg.Num n) rest = refl
no_end (arg.Name name) rest = refl
no_end (arg.Lent name) rest = refl
no_end (arg.Target name) rest = refl

no_comma_there : (rest : List Token) → mark_at m.Comma (Sign m.CloseParen ∷ rest) ≡ None
unfolding mark_at
no_comma_there rest = refl

args_again : (args : List ScriptArgText) (rest : List Token) → args_at (spell_some spell_arg args ++ (Sign m.CloseParen ∷ rest)) ≡ Some (part args rest)
unfolding args_at
args_again [] rest = rw (mark_again m.CloseParen rest) refl
args_again (a ∷ more) rest =
    let close : List Token = Sign m.CloseParen ∷ rest in
    let group : spell_some spell_arg (a ∷ more) ++ close ≡ spell_arg a ++ (spell_more spell_arg more ++ close) = append_assoc (spell_arg a) (spell_more spell_arg more) close in
    let none : mark_at m.CloseParen (spell_some spell_arg (a ∷ more) ++ close) ≡ None = ap (mark_at m.CloseParen) group ∙ no_end a (spell_more spell_arg more ++ close) in
    rw (none, list_again spell_arg arg_at arg_again a more close (no_comma_there rest), mark_again m.CloseParen rest) refl

no_arrow : mark_at m.Arrow [] ≡ None
unfolding mark_at
no_arrow = refl

names_whole : (names : List (List ℕ)) → names_at (spell_names names) ≡ Some (part names [])
unfolding names_at
names_whole [] = rw no_arrow refl
names_whole (a ∷ more) = rw (mark_again m.Arrow (spell_some spell_name (a ∷ more))) (list_whole spell_name name_at names_again a more)

callee_again : (target method : List ℕ) (rest : List Token) → callee_at (Name (codes "call") ∷ Name target ∷ Sign m.Dot ∷ Name method ∷ Sign m.OpenParen ∷ rest) ≡ Some (part (record { target = target; method = method }) rest)
unfolding callee_at
callee_again target method rest = rw (word_again (codes "call") (Name target ∷ Sign m.Dot ∷ Name method ∷ Sign m.OpenParen ∷ rest), name_again target (Sign m.Dot ∷ Name method ∷ Sign m.OpenParen ∷ rest), mark_again m.Dot (Name method ∷ Sign m.OpenParen ∷ rest), name_again method (Sign m.OpenParen ∷ rest), mark_again m.OpenParen rest) refl

call_again : (target method : List ℕ) (args : List ScriptArgText) (names : List (List ℕ)) → call_line_at (spell_client (client.Call target method args names)) ≡ Some (client.Call target method args names)
unfolding call_line_at behind_callee_at
call_again target method args names = rw (callee_again target method (spell_some spell_arg args ++ (Sign m.CloseParen ∷ spell_names names)), args_again args (spell_names names), names_whole names, end_again) refl

call_line : (target method : List ℕ) (args : List ScriptArgText) (names : List (List ℕ)) → line_at (spell_client (client.Call target method args names)) ≡ Some (client.Call target method args names)
unfolding line_at
call_line target method args names = call_again target method args names

close_line : line_at (spell_client client.Close) ≡ Some client.Close
unfolding line_at form_at mark_at end_at
close_line = refl

pub line_again : (l : ClientLine) → line_at (spell_client l) ≡ Some l
line_again (client.Client name) = word_line verb.Client _ _ (client_again name)
line_again (client.Let name ty values) = word_line verb.Let _ _ (let_again name ty values)
line_again (client.Text name ty bytes) = word_line verb.Text _ _ (text_line_again name ty bytes)
line_again (client.Call target method args names) = call_line target method args names
line_again (client.Show name) = word_line verb.Show _ _ (show_again name)
line_again (client.Drop name) = word_line verb.Drop _ _ (drop_again name)
line_again (client.Kill target) = word_line verb.Kill _ _ (kill_again target)
line_again client.Close = close_line
