-- Lines of the clients: what is read is spelled so.
use Rattle.std.proofs.Common.{◌≡◌, ℕ, inl, inr, Bool, true, false, cond, List, [], ◌∷◌, ◌++◌, Some, refl, sym, ap, ◌∙◌, append_assoc, append-nil}
use Rattle.std.specs.Prelude.{codes}
use Rattle.rl_defs.specs.declared.bundle.ScriptArgText.{ScriptArgText}
use Rattle.rl_defs.specs.declared.bundle.ScriptArgText.TheVariants as arg
use Rattle.rl_defs.specs.declared.bundle.ClientLine.{ClientLine}
use Rattle.rl_defs.specs.declared.bundle.ClientLine.TheVariants as client
use Rattle.rl_defs.specs.declared.lexeme.Mark.TheVariants as m
use Rattle.rl_defs.specs.Tokens.{Token, Name, Reserved, Number, Text, Sign}
use Rattle.rl_defs.specs.DomainForms.{spell_some}
use Rattle.rl_defs.specs.BundleForms.{spell_name, spell_number, spell_arg, spell_names, spell_client}
use Rattle.rl_text.specs.Reading.{◌>>=◌, either, name_at, number_at, text_at, mark_at, word_at, end_at, begins_number, begins_word}
use Rattle.rl_text.specs.Many.{list_at, some_at}
use Rattle.rl_text.proofs.PartLaws.{part, both_parts, bind_some, either_some, mark_takes, mark_step, word_step, name_step, number_step, end_takes, Takes}
use Rattle.rl_text.proofs.ManyLaws.{Shortens, shortens}
use Rattle.bundle_syntax.specs.declared.clients.form.Called.{Called}
use Rattle.bundle_syntax.specs.declared.clients.form.Verb.{Verb}
use Rattle.bundle_syntax.specs.declared.clients.form.Verb.TheVariants as verb
use Rattle.bundle_syntax.specs.ClientVerbs.{verb_text, likely_verb, verb_of}
use Rattle.bundle_syntax.specs.ClientLines.{lent_at, target_at, number_arg_at, name_arg_at, plain_at, arg_at, client_at, let_at, text_line_at, several_args_at, args_at, names_at, callee_at, behind_callee_at, call_line_at, show_at, drop_at, kill_at, operands_at, by_word_at, word_line_at, close_at, form_at, other_line_at, line_at}
use Rattle.bundle_syntax.proofs.Readings.{Fine, Behind, behind, moved, whole_takes, word_is, list_takes, list_some, some_takes, names_take, numbers_take}

-- ---- words

verb_takes : (word : List ℕ) (v : Verb) → verb_of word ≡ Some v → word ≡ verb_text v
unfolding verb_of
verb_takes word v e = word_is verb_text (likely_verb word) word v e

-- ---- arguments

number_arg_takes : Takes spell_arg Fine number_arg_at
number_arg_takes ts a rest e =
    let x = number_step ts (λ n. Some (part (arg.Num n.0) n.1)) (part a rest) e in
    moved spell_arg Fine ts (arg.Num x.0.0) a x.0.1 rest x.2 x.1 tt

name_arg_takes : Takes spell_arg Fine name_arg_at
name_arg_takes ts a rest e =
    let x = name_step ts (λ n. Some (part (arg.Name n.0) n.1)) (part a rest) e in
    moved spell_arg Fine ts (arg.Name x.0.0) a x.0.1 rest x.2 x.1 tt

plain_case : (b : Bool) (ts : List Token) (a : ScriptArgText) (rest : List Token) → cond b (number_arg_at ts) (name_arg_at ts) ≡ Some (part a rest) → (ts ≡ spell_arg a ++ rest) × Fine a
plain_case true ts a rest e = number_arg_takes ts a rest e
plain_case false ts a rest e = name_arg_takes ts a rest e

plain_takes : Takes spell_arg Fine plain_at
unfolding plain_at
plain_takes ts a rest e = plain_case (begins_number ts) ts a rest e

lent_takes : Behind spell_arg Fine (Sign m.Ampersand) lent_at
lent_takes ts a rest e =
    let x = name_step ts (λ n. Some (part (arg.Lent n.0) n.1)) (part a rest) e in
    moved spell_arg Fine (Sign m.Ampersand ∷ ts) (arg.Lent x.0.0) a x.0.1 rest x.2 (ap (behind (Sign m.Ampersand)) x.1) tt

target_takes : Behind spell_arg Fine (Sign m.At) target_at
target_takes ts a rest e =
    let x = name_step ts (λ n. Some (part (arg.Target n.0) n.1)) (part a rest) e in
    moved spell_arg Fine (Sign m.At ∷ ts) (arg.Target x.0.0) a x.0.1 rest x.2 (ap (behind (Sign m.At)) x.1) tt

pub arg_takes : Takes spell_arg Fine arg_at
unfolding arg_at
arg_takes ts a rest e = elim (either_some (mark_at m.Ampersand ts) lent_at (either (mark_at m.At ts) target_at (plain_at ts)) (part a rest) e) [
  | inl x ↦ (mark_takes m.Ampersand ts x.x x.is ∙ (lent_takes x.x a rest x.gives).0, tt)
  | inr b ↦ elim (either_some (mark_at m.At ts) target_at (plain_at ts) (part a rest) b.1) [
    | inl x ↦ (mark_takes m.At ts x.x x.is ∙ (target_takes x.x a rest x.gives).0, tt)
    | inr c ↦ plain_takes ts a rest c.1
  ]
]

pub arg_shortens : Shortens arg_at
arg_shortens = shortens spell_arg Fine arg_at arg_takes

-- ---- lines by their words

abbrev Line : Verb → Type 0
Line v = Behind spell_client Fine (Name (verb_text v)) (operands_at v)

client_takes : Line verb.Client
unfolding client_at
client_takes ts l rest e =
    let x = name_step ts (λ name. mark_at m.OpenBrace name.1 >>= λ a. Some (part (client.Client name.0) a)) (part l rest) e in
    let y = mark_step m.OpenBrace x.0.1 (λ a. Some (part (client.Client x.0.0) a)) (part l rest) x.2 in
    moved spell_client Fine (Name (codes "client") ∷ ts) (client.Client x.0.0) l y.0 rest y.2 (ap (behind (Name (codes "client"))) (x.1 ∙ ap (behind (Name x.0.0)) y.1)) tt

let_takes : Line verb.Let
unfolding let_at
let_takes ts l rest e =
    let v = name_step ts (λ name. mark_at m.Equals name.1 >>= λ a. word_at (codes "new") a >>= λ b. name_at b >>= λ ty. some_at number_at ty.1 >>= λ values. Some (part (client.Let name.0 ty.0 values.0) values.1)) (part l rest) e in
    let w = mark_step m.Equals v.0.1 (λ a. word_at (codes "new") a >>= λ b. name_at b >>= λ ty. some_at number_at ty.1 >>= λ values. Some (part (client.Let v.0.0 ty.0 values.0) values.1)) (part l rest) v.2 in
    let x = word_step (codes "new") w.0 (λ b. name_at b >>= λ ty. some_at number_at ty.1 >>= λ values. Some (part (client.Let v.0.0 ty.0 values.0) values.1)) (part l rest) w.2 in
    let y = name_step x.0 (λ ty. some_at number_at ty.1 >>= λ values. Some (part (client.Let v.0.0 ty.0 values.0) values.1)) (part l rest) x.2 in
    let z = bind_some (some_at number_at y.0.1) (λ values. Some (part (client.Let v.0.0 y.0.0 values.0) values.1)) (part l rest) y.2 in
    moved spell_client Fine (Name (codes "let") ∷ ts) (client.Let v.0.0 y.0.0 z.0.0) l z.0.1 rest z.2 (
    ap (behind (Name (codes "let"))) (v.1 ∙ ap (behind (Name v.0.0)) (w.1 ∙ ap (behind (Sign m.Equals)) (x.1 ∙ ap (behind (Name (codes "new"))) (y.1 ∙ ap (behind (Name y.0.0)) (some_takes spell_number number_at numbers_take y.0.1 z.0.0 z.0.1 z.1)))))
    ) tt

text_takes : (ts : List Token) (bytes : List ℕ) (rest : List Token) → text_at ts ≡ Some (part bytes rest) → ts ≡ Text bytes ∷ rest
unfolding text_at
text_takes [] bytes rest e = absurd cc
text_takes (Name w ∷ ts) bytes rest e = absurd cc
text_takes (Reserved key ∷ ts) bytes rest e = absurd cc
text_takes (Number n ∷ ts) bytes rest e = absurd cc
text_takes (Text inner ∷ ts) bytes rest e = let q = both_parts (part inner ts) (part bytes rest) e in rw (q.0, q.1) refl
text_takes (Sign mark ∷ ts) bytes rest e = absurd cc

text_line_takes : Line verb.Text
unfolding text_line_at
text_line_takes ts l rest e =
    let v = name_step ts (λ name. mark_at m.Equals name.1 >>= λ a. name_at a >>= λ ty. text_at ty.1 >>= λ bytes. Some (part (client.Text name.0 ty.0 bytes.0) bytes.1)) (part l rest) e in
    let w = mark_step m.Equals v.0.1 (λ a. name_at a >>= λ ty. text_at ty.1 >>= λ bytes. Some (part (client.Text v.0.0 ty.0 bytes.0) bytes.1)) (part l rest) v.2 in
    let x = name_step w.0 (λ ty. text_at ty.1 >>= λ bytes. Some (part (client.Text v.0.0 ty.0 bytes.0) bytes.1)) (part l rest) w.2 in
    let y = bind_some (text_at x.0.1) (λ bytes. Some (part (client.Text v.0.0 x.0.0 bytes.0) bytes.1)) (part l rest) x.2 in
    moved spell_client Fine (Name (codes "text") ∷ ts) (client.Text v.0.0 x.0.0 y.0.0) l y.0.1 rest y.2 (
    ap (behind (Name (codes "text"))) (v.1 ∙ ap (behind (Name v.0.0)) (w.1 ∙ ap (behind (Sign m.Equals)) (x.1 ∙ ap (behind (Name x.0.0)) (text_takes x.0.1 y.0.0 y.0.1 y.1))))
    ) tt

show_takes : Line verb.Show
unfolding show_at
show_takes ts l rest e =
    let x = name_step ts (λ name. Some (part (client.Show name.0) name.1)) (part l rest) e in
    moved spell_client Fine (Name (codes "show") ∷ ts) (client.Show x.0.0) l x.0.1 rest x.2 (ap (behind (Name (codes "show"))) x.1) tt

drop_takes : Line verb.Drop
unfolding drop_at
drop_takes ts l rest e =
    let x = name_step ts (λ name. Some (part (client.Drop name.0) name.1)) (part l rest) e in
    moved spell_client Fine (Name (codes "drop") ∷ ts) (client.Drop x.0.0) l x.0.1 rest x.2 (ap (behind (Name (codes "drop"))) x.1) tt

kill_takes : Line verb.Kill
unfolding kill_at
kill_takes ts l rest e =
    let x = name_step ts (λ target. Some (part (client.Kill target.0) target.1)) (part l rest) e in
    moved spell_client Fine (Name (codes "kill") ∷ ts) (client.Kill x.0.0) l x.0.1 rest x.2 (ap (behind (Name (codes "kill"))) x.1) tt

operands_take : (v : Verb) → Line v
operands_take verb.Client ts l rest e = client_takes ts l rest e
operands_take verb.Let ts l rest e = let_takes ts l rest e
operands_take verb.Text ts l rest e = text_line_takes ts l rest e
operands_take verb.Show ts l rest e = show_takes ts l rest e
operands_take verb.Drop ts l rest e = drop_takes ts l rest e
operands_take verb.Kill ts l rest e = kill_takes ts l rest e

by_word_takes : (name : List ℕ) → Behind spell_client Fine (Name name) (by_word_at name)
unfolding by_word_at
by_word_takes name ts l rest e =
    let x = bind_some (verb_of name) (λ v. operands_at v ts) (part l rest) e in
    (ap (λ (w : List ℕ). Name w ∷ ts) (verb_takes name x.0 x.1) ∙ (operands_take x.0 ts l rest x.2).0, tt)

word_line_takes : Takes spell_client Fine word_line_at
unfolding word_line_at
word_line_takes ts l rest e =
    let x = name_step ts (λ name. by_word_at name.0 name.1) (part l rest) e in
    (x.1 ∙ (by_word_takes x.0.0 x.0.1 l rest x.2).0, tt)

form_takes : Takes spell_client Fine form_at
unfolding form_at
form_takes ts l rest e = elim (either_some (mark_at m.CloseBrace ts) close_at (word_line_at ts) (part l rest) e) [
  | inl x ↦ moved spell_client Fine ts client.Close l x.x rest x.gives (mark_takes m.CloseBrace ts x.x x.is) tt
  | inr b ↦ word_line_takes ts l rest b.1
]

-- ---- calls

abbrev close : List Token
close = Sign m.CloseParen ∷ []

args_spelled : List ScriptArgText → List Token
args_spelled args = spell_some spell_arg args ++ close

args_are : Takes args_spelled Fine args_at
unfolding args_at args_spelled
args_are ts args rest e = elim (either_some (mark_at m.CloseParen ts) (λ a. Some (part [] a)) (several_args_at ts) (part args rest) e) [
  | inl x ↦ moved args_spelled Fine ts [] args x.x rest x.gives (mark_takes m.CloseParen ts x.x x.is) tt
  | inr b ↦
      let x = bind_some (list_at arg_at ts) (λ l. mark_at m.CloseParen l.1 >>= λ a. Some (part l.0 a)) (part args rest) b.1 in
      let y = mark_step m.CloseParen x.0.1 (λ a. Some (part x.0.0 a)) (part args rest) x.2 in
      moved args_spelled Fine ts x.0.0 args y.0 rest y.2 (list_takes spell_arg arg_at arg_takes ts x.0.0 x.0.1 x.1 ∙ ap (λ (t : List Token). spell_some spell_arg x.0.0 ++ t) y.1 ∙ sym (append_assoc (spell_some spell_arg x.0.0) close y.0)) tt
]

names_shown : (ts behind rest : List Token) (names : List (List ℕ)) → ts ≡ Sign m.Arrow ∷ behind → list_at name_at behind ≡ Some (part names rest) → ts ≡ spell_names names ++ rest
names_shown ts behind rest [] is e = absurd (list_some name_at behind [] rest e refl)
names_shown ts behind rest (a ∷ more) is e = is ∙ ap (λ (t : List Token). Sign m.Arrow ∷ t) (list_takes spell_name name_at names_take behind (a ∷ more) rest e)

names_are : Takes spell_names Fine names_at
unfolding names_at
names_are ts names rest e = elim (either_some (mark_at m.Arrow ts) (list_at name_at) (Some (part [] ts)) (part names rest) e) [
  | inl x ↦ (names_shown ts x.x rest names (mark_takes m.Arrow ts x.x x.is) x.gives, tt)
  | inr b ↦ moved spell_names Fine ts [] names ts rest b.1 refl tt
]

abbrev callee : List ℕ → List ℕ → Called
callee target method = record { target = target; method = method }

-- a callee, and the tokens behind it
abbrev callee_before : List Token → Called → List Token
callee_before t c = Name (codes "call") ∷ Name c.target ∷ Sign m.Dot ∷ Name c.method ∷ Sign m.OpenParen ∷ t

callee_is : (ts : List Token) (c : Called) (rest : List Token) → callee_at ts ≡ Some (part c rest) → ts ≡ callee_before rest c
unfolding callee_at
callee_is ts c rest e =
    let v = word_step (codes "call") ts (λ a. name_at a >>= λ target. mark_at m.Dot target.1 >>= λ b. name_at b >>= λ method. mark_at m.OpenParen method.1 >>= λ d. Some (part (callee target.0 method.0) d)) (part c rest) e in
    let w = name_step v.0 (λ target. mark_at m.Dot target.1 >>= λ b. name_at b >>= λ method. mark_at m.OpenParen method.1 >>= λ d. Some (part (callee target.0 method.0) d)) (part c rest) v.2 in
    let x = mark_step m.Dot w.0.1 (λ b. name_at b >>= λ method. mark_at m.OpenParen method.1 >>= λ d. Some (part (callee w.0.0 method.0) d)) (part c rest) w.2 in
    let y = name_step x.0 (λ method. mark_at m.OpenParen method.1 >>= λ d. Some (part (callee w.0.0 method.0) d)) (part c rest) x.2 in
    let z = mark_step m.OpenParen y.0.1 (λ d. Some (part (callee w.0.0 y.0.0) d)) (part c rest) y.2 in
    let q = both_parts (part (callee w.0.0 y.0.0) z.0) (part c rest) z.2 in
    v.1 ∙ ap (behind (Name (codes "call"))) (w.1 ∙ ap (behind (Name w.0.0)) (x.1 ∙ ap (behind (Sign m.Dot)) (y.1 ∙ ap (behind (Name y.0.0)) z.1)))
    ∙ ap (callee_before z.0) q.0 ∙ ap (λ (t : List Token). callee_before t c) q.1

call_spelled : (c : Called) (args : List ScriptArgText) (names : List (List ℕ)) → callee_before (args_spelled args ++ spell_names names) c ≡ spell_client (client.Call c.target c.method args names)
unfolding args_spelled
call_spelled c args names = ap (λ (t : List Token). callee_before t c) (append_assoc (spell_some spell_arg args) close (spell_names names))

call_takes : (ts : List Token) (l : ClientLine) → call_line_at ts ≡ Some l → (ts ≡ spell_client l) × Fine l
unfolding call_line_at behind_callee_at
call_takes ts l e =
    let v = bind_some (callee_at ts) (λ c. behind_callee_at c.0 c.1) l e in
    let c : Called = v.0.0 in
    let w = bind_some (args_at v.0.1) (λ args. names_at args.1 >>= λ names. end_at names.1 >>= λ a. Some (client.Call c.target c.method args.0 names.0)) l v.2 in
    let x = bind_some (names_at w.0.1) (λ names. end_at names.1 >>= λ a. Some (client.Call c.target c.method w.0.0 names.0)) l w.2 in
    let y = bind_some (end_at x.0.1) (λ a. Some (client.Call c.target c.method w.0.0 x.0.0)) l x.2 in
    let none : x.0.1 ≡ [] = end_takes x.0.1 y.0 y.1 in
    let same : client.Call c.target c.method w.0.0 x.0.0 ≡ l = (let f = y.2 in cc) in
    let names : w.0.1 ≡ spell_names x.0.0 = (names_are w.0.1 x.0.0 x.0.1 x.1).0 ∙ ap (λ (t : List Token). spell_names x.0.0 ++ t) none ∙ append-nil (spell_names x.0.0) in
    let args : v.0.1 ≡ args_spelled w.0.0 ++ spell_names x.0.0 = (args_are v.0.1 w.0.0 w.0.1 w.1).0 ∙ ap (λ (t : List Token). args_spelled w.0.0 ++ t) names in
    (callee_is ts c v.0.1 v.1 ∙ ap (λ (t : List Token). callee_before t c) args ∙ call_spelled c w.0.0 x.0.0 ∙ ap spell_client same, tt)

line_case : (b : Bool) (ts : List Token) (l : ClientLine) → cond b (call_line_at ts) (other_line_at ts) ≡ Some l → (ts ≡ spell_client l) × Fine l
line_case true ts l e = call_takes ts l e
line_case false ts l e = whole_takes spell_client Fine form_at form_takes ts l e

pub line_takes : (ts : List Token) (l : ClientLine) → line_at ts ≡ Some l → ts ≡ spell_client l
unfolding line_at
line_takes ts l e = (line_case (begins_word (codes "call") ts) ts l e).0
