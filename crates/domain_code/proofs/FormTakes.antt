-- Lines: what is read is spelled so.
use Rattle.std.proofs.Common.{◌≡◌, ℕ, inl, inr, Bool, true, false, cond, List, [], ◌∷◌, ◌++◌, Some, None, refl, sym, ap, ◌∙◌, append-nil}
use Rattle.std.specs.Prelude.{codes, nat_eq}
use Rattle.std.specs.Cmp.Lexicographic.{pointwise}
use Rattle.std.proofs.lemmas.Slice.Eq.{slice_eq-Decides}
use Rattle.std.proofs.lemmas.Bool.Decides.{Decides-eqb}
use Rattle.rl_defs.specs.declared.code.Instr.TheVariants as instr
use Rattle.rl_defs.specs.declared.code.Native.{Native}
use Rattle.rl_defs.specs.declared.code.Native.TheVariants as native
use Rattle.rl_defs.specs.declared.code.DomainLine.{DomainLine}
use Rattle.rl_defs.specs.declared.code.DomainLine.TheVariants as line
use Rattle.rl_defs.specs.declared.lexeme.Key.TheVariants as k
use Rattle.rl_defs.specs.declared.lexeme.Mark.TheVariants as m
use Rattle.rl_defs.specs.Tokens.{Token, Name, Reserved, Sign}
use Rattle.rl_defs.specs.DomainForms.{spell_native, spell_head, spell_line}
use Rattle.rl_text.specs.Reading.{◌>>=◌, either, name_at, mark_at, key_at, end_at}
use Rattle.rl_text.proofs.PartLaws.{part, both_parts, bind_some, either_some, mark_takes, key_takes, end_takes, mark_step, name_step, number_step}
use Rattle.domain_code.specs.declared.verb.Verb.{Verb}
use Rattle.domain_code.specs.declared.verb.Verb.TheVariants as verb
use Rattle.domain_code.specs.declared.form.TwoNames.{TwoNames}
use Rattle.domain_code.specs.Verbs.{verb_text, verb_of}
use Rattle.rl_text.specs.Many.{some_at}
use Rattle.domain_code.specs.Lists.{head_at}
use Rattle.domain_code.specs.Instructions.{const_at}
use Rattle.domain_code.specs.Forms.{pair_at, domain_at, slot_at, import_at, words_at, native_of, named_native, native_at, function_at, label_at, trap_at, operands_at, by_word_at, behind_name_at, word_line_at, close_at, form_at, line_at}
use Rattle.domain_code.proofs.VerbLaws.{verb_takes}
use Rattle.domain_code.proofs.ListLaws.{some_takes, head_takes}
use Rattle.domain_code.proofs.InstrTakes.{Behind, moved, const_takes, one_takes, two_takes, three_takes, named_takes, jmp_takes, put_takes, hang_takes, unhang_takes, ret_takes, call_takes}

abbrev behind : Token → List Token → List Token
behind first t = first ∷ t

abbrev names : List ℕ → List ℕ → TwoNames
names name of = record { name = name; of = of }

pair_is : (ts : List Token) (p : TwoNames) (rest : List Token) → pair_at ts ≡ Some (part p rest) → ts ≡ Name p.name ∷ Sign m.Colon ∷ Name p.of ∷ rest
unfolding pair_at
pair_is ts p rest e =
    let x = name_step ts (λ name. mark_at m.Colon name.1 >>= λ a. name_at a >>= λ of. Some (part (names name.0 of.0) of.1)) (part p rest) e in
    let y = mark_step m.Colon x.0.1 (λ a. name_at a >>= λ of. Some (part (names x.0.0 of.0) of.1)) (part p rest) x.2 in
    let z = name_step y.0 (λ of. Some (part (names x.0.0 of.0) of.1)) (part p rest) y.2 in
    let q = both_parts (part (names x.0.0 z.0.0) z.0.1) (part p rest) z.2 in
    x.1 ∙ ap (behind (Name x.0.0)) (y.1 ∙ ap (behind (Sign m.Colon)) z.1) ∙ ap (λ (n : TwoNames). Name n.name ∷ Sign m.Colon ∷ Name n.of ∷ z.0.1) q.0 ∙ ap (λ (t : List Token). Name p.name ∷ Sign m.Colon ∷ Name p.of ∷ t) q.1

domain_takes : Behind (Name (codes "domain")) domain_at
unfolding domain_at
domain_takes ts l rest e =
    let x = bind_some (pair_at ts) (λ p. mark_at m.OpenBrace p.1 >>= λ a. Some (part (line.Domain p.0.name p.0.of) a)) (part l rest) e in
    let y = mark_step m.OpenBrace x.0.1 (λ a. Some (part (line.Domain x.0.0.name x.0.0.of) a)) (part l rest) x.2 in
    moved (Name (codes "domain") ∷ ts) (line.Domain x.0.0.name x.0.0.of) l y.0 rest y.2 (ap (behind (Name (codes "domain"))) (pair_is ts x.0.0 x.0.1 x.1 ∙ ap (λ (t : List Token). Name x.0.0.name ∷ Sign m.Colon ∷ Name x.0.0.of ∷ t) y.1))

slot_takes : Behind (Name (codes "slot")) slot_at
unfolding slot_at
slot_takes ts l rest e =
    let x = bind_some (pair_at ts) (λ p. Some (part (line.Slot p.0.name p.0.of) p.1)) (part l rest) e in
    moved (Name (codes "slot") ∷ ts) (line.Slot x.0.0.name x.0.0.of) l x.0.1 rest x.2 (ap (behind (Name (codes "slot"))) (pair_is ts x.0.0 x.0.1 x.1))

import_takes : Behind (Name (codes "import")) import_at
unfolding import_at
import_takes ts l rest e =
    let x = bind_some (pair_at ts) (λ p. Some (part (line.Import p.0.name p.0.of) p.1)) (part l rest) e in
    moved (Name (codes "import") ∷ ts) (line.Import x.0.0.name x.0.0.of) l x.0.1 rest x.2 (ap (behind (Name (codes "import"))) (pair_is ts x.0.0 x.0.1 x.1))

words_take : Behind (Name (codes "words")) words_at
unfolding words_at
words_take ts l rest e =
    let x = number_step ts (λ n. Some (part (line.Words n.0) n.1)) (part l rest) e in
    moved (Name (codes "words") ∷ ts) (line.Words x.0.0) l x.0.1 rest x.2 (ap (behind (Name (codes "words"))) x.1)

same_text : (left right : List ℕ) → pointwise nat_eq left right ≡ true → left ≡ right
same_text left right is = (slice_eq-Decides Decides-eqb left right true (sym is)).0 refl

native_case : (word : List ℕ) (body : Native) (a b : Bool) → pointwise nat_eq word (codes "fs") ≡ a → pointwise nat_eq word (codes "rv6") ≡ b → cond a (Some native.Fs) (cond b (Some native.Rv6) None) ≡ Some body → word ≡ spell_native body
native_case word body true b x y e = let same : native.Fs ≡ body = cc in same_text word (codes "fs") x ∙ ap spell_native same
native_case word body false true x y e = let same : native.Rv6 ≡ body = cc in same_text word (codes "rv6") y ∙ ap spell_native same
native_case word body false false x y e = absurd cc

native_is : (word : List ℕ) (body : Native) → native_of word ≡ Some body → word ≡ spell_native body
unfolding native_of
native_is word body e = native_case word body _ _ refl refl e

native_takes : Behind (Name (codes "native")) native_at
unfolding native_at
native_takes ts l rest e =
    let x = name_step ts (λ name. named_native name.0 name.1) (part l rest) e in
    let y = bind_some (native_of x.0.0) (λ body. Some (part (line.Native body) x.0.1)) (part l rest) x.2 in
    moved (Name (codes "native") ∷ ts) (line.Native y.0) l x.0.1 rest y.2 (ap (behind (Name (codes "native"))) (x.1 ∙ ap (λ (w : List ℕ). Name w ∷ x.0.1) (native_is x.0.0 y.0 y.1)))

function_takes : Behind (Reserved k.Fn) function_at
unfolding function_at
function_takes ts l rest e =
    let x = name_step ts (λ name. mark_at m.OpenBrace name.1 >>= λ a. Some (part (line.Function name.0) a)) (part l rest) e in
    let y = mark_step m.OpenBrace x.0.1 (λ a. Some (part (line.Function x.0.0) a)) (part l rest) x.2 in
    moved (Reserved k.Fn ∷ ts) (line.Function x.0.0) l y.0 rest y.2 (ap (behind (Reserved k.Fn)) (x.1 ∙ ap (behind (Name x.0.0)) y.1))

label_takes : (name : List ℕ) (ts after : List Token) (l : DomainLine) (rest : List Token) → ts ≡ Sign m.Colon ∷ after → label_at name after ≡ Some (part l rest) → Name name ∷ ts ≡ spell_line l ++ rest
unfolding label_at
label_takes name ts after l rest is e =
    let x = bind_some (some_at head_at after) (λ heads. Some (part (line.Head name heads.0) heads.1)) (part l rest) e in
    moved (Name name ∷ ts) (line.Head name x.0.0) l x.0.1 rest x.2 (ap (behind (Name name)) (is ∙ ap (behind (Sign m.Colon)) (some_takes spell_head head_at head_takes after x.0.0 x.0.1 x.1)))

trap_takes : Behind (Name (codes "trap")) trap_at
trap_takes ts l rest e = moved (Name (codes "trap") ∷ ts) (line.Code instr.Trap) l ts rest e refl

operands_take : (v : Verb) → Behind (Name (verb_text v)) (operands_at v)
operands_take verb.Domain ts l rest e = domain_takes ts l rest e
operands_take verb.Words ts l rest e = words_take ts l rest e
operands_take verb.Slot ts l rest e = slot_takes ts l rest e
operands_take verb.Import ts l rest e = import_takes ts l rest e
operands_take verb.Native ts l rest e = native_takes ts l rest e
operands_take (verb.One v) ts l rest e = one_takes v ts l rest e
operands_take (verb.Two v) ts l rest e = two_takes v ts l rest e
operands_take (verb.Three v) ts l rest e = three_takes v ts l rest e
operands_take (verb.Named v) ts l rest e = named_takes v ts l rest e
operands_take verb.Jmp ts l rest e = jmp_takes ts l rest e
operands_take verb.Put ts l rest e = put_takes ts l rest e
operands_take verb.Hang ts l rest e = hang_takes ts l rest e
operands_take verb.Unhang ts l rest e = unhang_takes ts l rest e
operands_take verb.Call ts l rest e = call_takes ts l rest e
operands_take verb.Ret ts l rest e = ret_takes ts l rest e
operands_take verb.Trap ts l rest e = trap_takes ts l rest e

by_word_takes : (name : List ℕ) → Behind (Name name) (by_word_at name)
unfolding by_word_at
by_word_takes name ts l rest e =
    let x = bind_some (verb_of name) (λ v. operands_at v ts) (part l rest) e in
    ap (λ (w : List ℕ). Name w ∷ ts) (verb_takes name x.0 x.1) ∙ operands_take x.0 ts l rest x.2

behind_name_takes : (name : List ℕ) → Behind (Name name) (behind_name_at name)
unfolding behind_name_at
behind_name_takes name ts l rest e = elim (either_some (mark_at m.Colon ts) (label_at name) (by_word_at name ts) (part l rest) e) [
  | inl x ↦ label_takes name ts x.x l rest (mark_takes m.Colon ts x.x x.is) x.gives
  | inr b ↦ by_word_takes name ts l rest b.1
]

word_line_takes : (ts : List Token) (l : DomainLine) (rest : List Token) → word_line_at ts ≡ Some (part l rest) → ts ≡ spell_line l ++ rest
unfolding word_line_at
word_line_takes ts l rest e =
    let x = name_step ts (λ name. behind_name_at name.0 name.1) (part l rest) e in
    x.1 ∙ behind_name_takes x.0.0 x.0.1 l rest x.2

form_takes : (ts : List Token) (l : DomainLine) (rest : List Token) → form_at ts ≡ Some (part l rest) → ts ≡ spell_line l ++ rest
unfolding form_at
form_takes ts l rest e = elim (either_some (key_at k.Const ts) const_at (either (key_at k.Fn ts) function_at (either (mark_at m.CloseBrace ts) close_at (word_line_at ts))) (part l rest) e) [
  | inl x ↦ key_takes k.Const ts x.x x.is ∙ const_takes x.x l rest x.gives
  | inr a ↦ elim (either_some (key_at k.Fn ts) function_at (either (mark_at m.CloseBrace ts) close_at (word_line_at ts)) (part l rest) a.1) [
    | inl x ↦ key_takes k.Fn ts x.x x.is ∙ function_takes x.x l rest x.gives
    | inr b ↦ elim (either_some (mark_at m.CloseBrace ts) close_at (word_line_at ts) (part l rest) b.1) [
      | inl x ↦ moved ts line.Close l x.x rest x.gives (mark_takes m.CloseBrace ts x.x x.is)
      | inr c ↦ word_line_takes ts l rest c.1
    ]
  ]
]

pub line_takes : (ts : List Token) (l : DomainLine) → line_at ts ≡ Some l → ts ≡ spell_line l
unfolding line_at
line_takes ts l e =
    let x = bind_some (form_at ts) (λ form. end_at form.1 >>= λ a. Some form.0) l e in
    let y = bind_some (end_at x.0.1) (λ a. Some x.0.0) l x.2 in
    let none : x.0.1 ≡ [] = end_takes x.0.1 y.0 y.1 in
    let same : x.0.0 ≡ l = (let f = y.2 in cc) in
    form_takes ts x.0.0 x.0.1 x.1 ∙ ap (λ (t : List Token). spell_line x.0.0 ++ t) none ∙ append-nil (spell_line x.0.0) ∙ ap spell_line same
