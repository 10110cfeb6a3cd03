-- Instructions: what is read is spelled so.
use Rattle.std.proofs.Common.{◌≡◌, ℕ, inl, inr, List, [], ◌∷◌, ◌++◌, Some, refl, sym, ap, ◌∙◌, append_assoc}
use Rattle.std.specs.Prelude.{codes}
use Rattle.rl_defs.specs.declared.code.Register.{Register}
use Rattle.rl_defs.specs.declared.code.CallArg.{CallArg}
use Rattle.rl_defs.specs.declared.code.Instr.TheVariants as instr
use Rattle.rl_defs.specs.declared.code.DomainLine.{DomainLine}
use Rattle.rl_defs.specs.declared.code.DomainLine.TheVariants as line
use Rattle.rl_defs.specs.declared.lexeme.Key.TheVariants as k
use Rattle.rl_defs.specs.declared.lexeme.Mark.TheVariants as m
use Rattle.rl_defs.specs.Tokens.{Token, Name, Reserved, Number, Sign}
use Rattle.rl_defs.specs.DomainForms.{spell_register, spell_one, spell_some, two, three, spell_arg, spell_results, spell_instr, spell_line}
use Rattle.rl_text.specs.Reading.{Reader, ◌>>=◌, name_at, mark_at}
use Rattle.rl_text.specs.Many.{all_at, list_at, some_at}
use Rattle.rl_text.proofs.PartLaws.{part, both_parts, bind_some, either_some, mark_takes, mark_step, word_step, name_step}
use Rattle.domain_code.specs.declared.verb.One.{One}
use Rattle.domain_code.specs.declared.verb.One.TheVariants as one
use Rattle.domain_code.specs.declared.verb.Two.{Two}
use Rattle.domain_code.specs.declared.verb.Two.TheVariants as pair
use Rattle.domain_code.specs.declared.verb.Three.{Three}
use Rattle.domain_code.specs.declared.verb.Three.TheVariants as triple
use Rattle.domain_code.specs.declared.verb.Named.{Named}
use Rattle.domain_code.specs.declared.verb.Named.TheVariants as named
use Rattle.domain_code.specs.declared.instr.Landing.{Landing}
use Rattle.domain_code.specs.Verbs.{one_text, two_text, three_text, named_text}
use Rattle.domain_code.specs.Operands.{register_at, next_register_at, next_name_at, next_number_at}
use Rattle.domain_code.specs.Lists.{arg_at}
use Rattle.domain_code.specs.Instructions.{one_of, two_of, three_of, named_of, const_at, one_at, two_at, three_at, named_at, jmp_at, put_at, hang_at, unhang_at, ret_at, several_args_at, args_at, results_at, landing_at, behind_args_at, call_at}
use Rattle.domain_code.proofs.OperandLaws.{register_step, next_register_step, next_name_step, next_number_step, registers_take}
use Rattle.domain_code.proofs.ListLaws.{list_takes, some_takes, arg_takes}

-- Behind a first token, what is read is the rest of the line's spelling.
abbrev pub Behind : Token → Reader DomainLine → Type 0
Behind first read = (ts : List Token) (l : DomainLine) (rest : List Token) → read ts ≡ Some (part l rest) → first ∷ ts ≡ spell_line l ++ rest

pub moved : (ts : List Token) (a b : DomainLine) (x y : List Token) → Some (part a x) ≡ Some (part b y) → ts ≡ spell_line a ++ x → ts ≡ spell_line b ++ y
moved ts a b x y e h = let q = both_parts (part a x) (part b y) e in h ∙ ap (λ (z : DomainLine). spell_line z ++ x) q.0 ∙ ap (λ (t : List Token). spell_line b ++ t) q.1

-- tokens behind others
abbrev behind : Token → List Token → List Token
behind first t = first ∷ t

pub const_takes : Behind (Reserved k.Const) const_at
unfolding const_at
const_takes ts l rest e =
    let a = register_step ts (λ a. next_number_at a.1 >>= λ n. Some (part (line.Code (instr.Const a.0 n.0)) n.1)) (part l rest) e in
    let n = next_number_step a.0.1 (λ n. Some (part (line.Code (instr.Const a.0.0 n.0)) n.1)) (part l rest) a.2 in
    moved (Reserved k.Const ∷ ts) (line.Code (instr.Const a.0.0 n.0.0)) l n.0.1 rest n.2 (ap (behind (Reserved k.Const)) (a.1 ∙ ap (behind (spell_register a.0.0)) n.1))

-- ---- by the shape of the operands

one_spelled : (v : One) (a : Register) → Name (one_text v) ∷ spell_one a ≡ spell_instr (one_of v a)
one_spelled one.DevSize a = refl
one_spelled one.Drop a = refl

pub one_takes : (v : One) → Behind (Name (one_text v)) (one_at v)
unfolding one_at
one_takes v ts l rest e =
    let a = register_step ts (λ a. Some (part (line.Code (one_of v a.0)) a.1)) (part l rest) e in
    moved (Name (one_text v) ∷ ts) (line.Code (one_of v a.0.0)) l a.0.1 rest a.2 (ap (behind (Name (one_text v))) a.1 ∙ ap (λ (t : List Token). t ++ a.0.1) (one_spelled v a.0.0))

two_spelled : (v : Two) (a b : Register) → Name (two_text v) ∷ two a b ≡ spell_instr (two_of v a b)
two_spelled pair.Copy a b = refl
two_spelled pair.Move a b = refl
two_spelled pair.Wget a b = refl
two_spelled pair.Wput a b = refl
two_spelled pair.DevGet a b = refl
two_spelled pair.DevPut a b = refl

pub two_takes : (v : Two) → Behind (Name (two_text v)) (two_at v)
unfolding two_at
two_takes v ts l rest e =
    let a = register_step ts (λ a. next_register_at a.1 >>= λ b. Some (part (line.Code (two_of v a.0 b.0)) b.1)) (part l rest) e in
    let b = next_register_step a.0.1 (λ b. Some (part (line.Code (two_of v a.0.0 b.0)) b.1)) (part l rest) a.2 in
    moved (Name (two_text v) ∷ ts) (line.Code (two_of v a.0.0 b.0.0)) l b.0.1 rest b.2 (ap (behind (Name (two_text v))) (a.1 ∙ ap (behind (spell_register a.0.0)) b.1) ∙ ap (λ (t : List Token). t ++ b.0.1) (two_spelled v a.0.0 b.0.0))

three_spelled : (v : Three) (a b c : Register) → Name (three_text v) ∷ three a b c ≡ spell_instr (three_of v a b c)
three_spelled (triple.Math o) a b c = refl
three_spelled triple.Get a b c = refl
three_spelled triple.Set a b c = refl

pub three_takes : (v : Three) → Behind (Name (three_text v)) (three_at v)
unfolding three_at
three_takes v ts l rest e =
    let a = register_step ts (λ a. next_register_at a.1 >>= λ b. next_register_at b.1 >>= λ c. Some (part (line.Code (three_of v a.0 b.0 c.0)) c.1)) (part l rest) e in
    let b = next_register_step a.0.1 (λ b. next_register_at b.1 >>= λ c. Some (part (line.Code (three_of v a.0.0 b.0 c.0)) c.1)) (part l rest) a.2 in
    let c = next_register_step b.0.1 (λ c. Some (part (line.Code (three_of v a.0.0 b.0.0 c.0)) c.1)) (part l rest) b.2 in
    moved (Name (three_text v) ∷ ts) (line.Code (three_of v a.0.0 b.0.0 c.0.0)) l c.0.1 rest c.2 (
    ap (behind (Name (three_text v))) (a.1 ∙ ap (behind (spell_register a.0.0)) (b.1 ∙ ap (λ (t : List Token). Sign m.Comma ∷ spell_register b.0.0 ∷ t) c.1))
    ∙ ap (λ (t : List Token). t ++ c.0.1) (three_spelled v a.0.0 b.0.0 c.0.0)
    )

named_spelled : (v : Named) (a : Register) (name : List ℕ) → Name (named_text v) ∷ spell_register a ∷ Sign m.Comma ∷ Name name ∷ [] ≡ spell_instr (named_of v a name)
named_spelled named.Jz a name = refl
named_spelled named.Has a name = refl
named_spelled named.Cap a name = refl
named_spelled named.New a name = refl
named_spelled named.Take a name = refl

pub named_takes : (v : Named) → Behind (Name (named_text v)) (named_at v)
unfolding named_at
named_takes v ts l rest e =
    let a = register_step ts (λ a. next_name_at a.1 >>= λ n. Some (part (line.Code (named_of v a.0 n.0)) n.1)) (part l rest) e in
    let n = next_name_step a.0.1 (λ n. Some (part (line.Code (named_of v a.0.0 n.0)) n.1)) (part l rest) a.2 in
    moved (Name (named_text v) ∷ ts) (line.Code (named_of v a.0.0 n.0.0)) l n.0.1 rest n.2 (ap (behind (Name (named_text v))) (a.1 ∙ ap (behind (spell_register a.0.0)) n.1) ∙ ap (λ (t : List Token). t ++ n.0.1) (named_spelled v a.0.0 n.0.0))

-- ---- the others

pub jmp_takes : Behind (Name (codes "jmp")) jmp_at
unfolding jmp_at
jmp_takes ts l rest e =
    let x = name_step ts (λ label. Some (part (line.Code (instr.Jmp label.0)) label.1)) (part l rest) e in
    moved (Name (codes "jmp") ∷ ts) (line.Code (instr.Jmp x.0.0)) l x.0.1 rest x.2 (ap (behind (Name (codes "jmp"))) x.1)

pub put_takes : Behind (Name (codes "put")) put_at
unfolding put_at
put_takes ts l rest e =
    let x = name_step ts (λ slot. next_register_at slot.1 >>= λ a. Some (part (line.Code (instr.Put slot.0 a.0)) a.1)) (part l rest) e in
    let a = next_register_step x.0.1 (λ a. Some (part (line.Code (instr.Put x.0.0 a.0)) a.1)) (part l rest) x.2 in
    moved (Name (codes "put") ∷ ts) (line.Code (instr.Put x.0.0 a.0.0)) l a.0.1 rest a.2 (ap (behind (Name (codes "put"))) (x.1 ∙ ap (behind (Name x.0.0)) a.1))

pub hang_takes : Behind (Name (codes "hang")) hang_at
unfolding hang_at
hang_takes ts l rest e =
    let o = register_step ts (λ o. next_number_at o.1 >>= λ n. next_register_at n.1 >>= λ v. Some (part (line.Code (instr.Hang o.0 n.0 v.0)) v.1)) (part l rest) e in
    let n = next_number_step o.0.1 (λ n. next_register_at n.1 >>= λ v. Some (part (line.Code (instr.Hang o.0.0 n.0 v.0)) v.1)) (part l rest) o.2 in
    let v = next_register_step n.0.1 (λ v. Some (part (line.Code (instr.Hang o.0.0 n.0.0 v.0)) v.1)) (part l rest) n.2 in
    moved (Name (codes "hang") ∷ ts) (line.Code (instr.Hang o.0.0 n.0.0 v.0.0)) l v.0.1 rest v.2 (
    ap (behind (Name (codes "hang"))) (o.1 ∙ ap (behind (spell_register o.0.0)) (n.1 ∙ ap (λ (t : List Token). Sign m.Comma ∷ Number n.0.0 ∷ t) v.1))
    )

pub unhang_takes : Behind (Name (codes "unhang")) unhang_at
unfolding unhang_at
unhang_takes ts l rest e =
    let a = register_step ts (λ a. next_register_at a.1 >>= λ o. next_number_at o.1 >>= λ n. Some (part (line.Code (instr.Unhang a.0 o.0 n.0)) n.1)) (part l rest) e in
    let o = next_register_step a.0.1 (λ o. next_number_at o.1 >>= λ n. Some (part (line.Code (instr.Unhang a.0.0 o.0 n.0)) n.1)) (part l rest) a.2 in
    let n = next_number_step o.0.1 (λ n. Some (part (line.Code (instr.Unhang a.0.0 o.0.0 n.0)) n.1)) (part l rest) o.2 in
    moved (Name (codes "unhang") ∷ ts) (line.Code (instr.Unhang a.0.0 o.0.0 n.0.0)) l n.0.1 rest n.2 (
    ap (behind (Name (codes "unhang"))) (a.1 ∙ ap (behind (spell_register a.0.0)) (o.1 ∙ ap (λ (t : List Token). Sign m.Comma ∷ spell_register o.0.0 ∷ t) n.1))
    )

pub ret_takes : Behind (Name (codes "ret")) ret_at
unfolding ret_at
ret_takes ts l rest e =
    let x = bind_some (some_at register_at ts) (λ results. Some (part (line.Code (instr.Ret results.0)) results.1)) (part l rest) e in
    moved (Name (codes "ret") ∷ ts) (line.Code (instr.Ret x.0.0)) l x.0.1 rest x.2 (ap (behind (Name (codes "ret"))) (some_takes spell_one register_at registers_take ts x.0.0 x.0.1 x.1))

-- ---- calls

parts_moved : {A : Type 0} (spell : A → List Token) (ts : List Token) (a b : A) (x y : List Token) → Some (part a x) ≡ Some (part b y) → ts ≡ spell a ++ x → ts ≡ spell b ++ y
parts_moved {A} spell ts a b x y e h = let q = both_parts (part a x) (part b y) e in h ∙ ap (λ (z : A). spell z ++ x) q.0 ∙ ap (λ (t : List Token). spell b ++ t) q.1

abbrev close : List Token
close = Sign m.CloseParen ∷ []

args_spelled : List CallArg → List Token
args_spelled args = spell_some spell_arg args ++ close

args_are : (ts : List Token) (args : List CallArg) (rest : List Token) → args_at ts ≡ Some (part args rest) → ts ≡ args_spelled args ++ rest
unfolding args_at args_spelled
args_are ts args rest e = elim (either_some (mark_at m.CloseParen ts) (λ a. Some (part [] a)) (several_args_at ts) (part args rest) e) [
  | inl x ↦ parts_moved args_spelled ts [] args x.x rest x.gives (mark_takes m.CloseParen ts x.x x.is)
  | inr b ↦
      let x = bind_some (list_at arg_at ts) (λ l. mark_at m.CloseParen l.1 >>= λ a. Some (part l.0 a)) (part args rest) b.1 in
      let y = mark_step m.CloseParen x.0.1 (λ a. Some (part x.0.0 a)) (part args rest) x.2 in
      parts_moved args_spelled ts x.0.0 args y.0 rest y.2 (list_takes spell_arg arg_at arg_takes ts x.0.0 x.0.1 x.1 ∙ ap (λ (t : List Token). spell_some spell_arg x.0.0 ++ t) y.1 ∙ sym (append_assoc (spell_some spell_arg x.0.0) close y.0))
]

nothing_there : (r : Register) (more : List Register) → r ∷ more ≡ [] → ⊥
nothing_there r more n = cc

results_shown : (ts behind rest : List Token) (results : List Register) → ts ≡ Sign m.Arrow ∷ behind → list_at register_at behind ≡ Some (part results rest) → ts ≡ spell_results results ++ rest
unfolding list_at
results_shown ts behind rest [] is e =
    let x = bind_some (register_at behind) (λ first. all_at register_at first.1 >>= λ more. Some (part (first.0 ∷ more.0) more.1)) (part [] rest) e in
    let y = bind_some (all_at register_at x.0.1) (λ more. Some (part (x.0.0 ∷ more.0) more.1)) (part [] rest) x.2 in
    let q = both_parts (part (x.0.0 ∷ y.0.0) y.0.1) (part [] rest) y.2 in
    absurd (nothing_there x.0.0 y.0.0 q.0)
results_shown ts behind rest (r ∷ more) is e = is ∙ ap (λ (t : List Token). Sign m.Arrow ∷ t) (list_takes spell_one register_at registers_take behind (r ∷ more) rest e)

results_are : (ts : List Token) (results : List Register) (rest : List Token) → results_at ts ≡ Some (part results rest) → ts ≡ spell_results results ++ rest
unfolding results_at
results_are ts results rest e = elim (either_some (mark_at m.Arrow ts) (list_at register_at) (Some (part [] ts)) (part results rest) e) [
  | inl x ↦ results_shown ts x.x rest results (mark_takes m.Arrow ts x.x x.is) x.gives
  | inr b ↦ parts_moved spell_results ts [] results ts rest b.1 refl
]

landing_spelled : Landing → List Token
landing_spelled l = Name (codes "else") ∷ spell_register l.code ∷ Sign m.Comma ∷ Name l.label ∷ []

abbrev landing : Register → List ℕ → Landing
landing code label = record { code = code; label = label }

landing_is : (ts : List Token) (l : Landing) (rest : List Token) → landing_at ts ≡ Some (part l rest) → ts ≡ landing_spelled l ++ rest
unfolding landing_at landing_spelled
landing_is ts l rest e =
    let x = word_step (codes "else") ts (λ a. register_at a >>= λ code. next_name_at code.1 >>= λ label. Some (part (landing code.0 label.0) label.1)) (part l rest) e in
    let y = register_step x.0 (λ code. next_name_at code.1 >>= λ label. Some (part (landing code.0 label.0) label.1)) (part l rest) x.2 in
    let z = next_name_step y.0.1 (λ label. Some (part (landing y.0.0 label.0) label.1)) (part l rest) y.2 in
    parts_moved landing_spelled ts (landing y.0.0 z.0.0) l z.0.1 rest z.2 (x.1 ∙ ap (behind (Name (codes "else"))) (y.1 ∙ ap (behind (spell_register y.0.0)) z.1))

call_moved : (target : Register) (method : List ℕ) (args : List CallArg) (results : List Register) (way : Landing) (rest : List Token) →
    Name (codes "call") ∷ spell_register target ∷ Sign m.Dot ∷ Name method ∷ Sign m.OpenParen ∷ (args_spelled args ++ (spell_results results ++ (landing_spelled way ++ rest)))
    ≡ spell_instr (instr.Call target method args results way.code way.label) ++ rest
unfolding args_spelled landing_spelled
call_moved target method args results way rest =
    let tail : List Token = landing_spelled way in
    let shown : List Token = spell_results results in
    let all : List Token = spell_some spell_arg args in
    let front : List Token → List Token = λ t. Name (codes "call") ∷ spell_register target ∷ Sign m.Dot ∷ Name method ∷ Sign m.OpenParen ∷ t in
    ap front (append_assoc all close (shown ++ (tail ++ rest)) ∙ ap (λ (t : List Token). all ++ (Sign m.CloseParen ∷ t)) (sym (append_assoc shown tail rest)) ∙ sym (append_assoc all (Sign m.CloseParen ∷ (shown ++ tail)) rest))

behind_args_take : (target : Register) (method : List ℕ) (args : List CallArg) (ts : List Token) (l : DomainLine) (rest : List Token) → behind_args_at target method args ts ≡ Some (part l rest) →
    Name (codes "call") ∷ spell_register target ∷ Sign m.Dot ∷ Name method ∷ Sign m.OpenParen ∷ (args_spelled args ++ ts) ≡ spell_line l ++ rest
unfolding behind_args_at
behind_args_take target method args ts l rest e =
    let x = bind_some (results_at ts) (λ results. landing_at results.1 >>= λ way. Some (part (line.Code (instr.Call target method args results.0 way.0.code way.0.label)) way.1)) (part l rest) e in
    let y = bind_some (landing_at x.0.1) (λ way. Some (part (line.Code (instr.Call target method args x.0.0 way.0.code way.0.label)) way.1)) (part l rest) x.2 in
    let front : List Token → List Token = λ t. Name (codes "call") ∷ spell_register target ∷ Sign m.Dot ∷ Name method ∷ Sign m.OpenParen ∷ (args_spelled args ++ t) in
    moved (front ts) (line.Code (instr.Call target method args x.0.0 y.0.0.code y.0.0.label)) l y.0.1 rest y.2 (
    ap front (results_are ts x.0.0 x.0.1 x.1 ∙ ap (λ (t : List Token). spell_results x.0.0 ++ t) (landing_is x.0.1 y.0.0 y.0.1 y.1)) ∙ call_moved target method args x.0.0 y.0.0 y.0.1
    )

pub call_takes : Behind (Name (codes "call")) call_at
unfolding call_at
call_takes ts l rest e =
    let v = register_step ts (λ target. mark_at m.Dot target.1 >>= λ a. name_at a >>= λ method. mark_at m.OpenParen method.1 >>= λ b. args_at b >>= λ args. behind_args_at target.0 method.0 args.0 args.1) (part l rest) e in
    let w = mark_step m.Dot v.0.1 (λ a. name_at a >>= λ method. mark_at m.OpenParen method.1 >>= λ b. args_at b >>= λ args. behind_args_at v.0.0 method.0 args.0 args.1) (part l rest) v.2 in
    let x = name_step w.0 (λ method. mark_at m.OpenParen method.1 >>= λ b. args_at b >>= λ args. behind_args_at v.0.0 method.0 args.0 args.1) (part l rest) w.2 in
    let y = mark_step m.OpenParen x.0.1 (λ b. args_at b >>= λ args. behind_args_at v.0.0 x.0.0 args.0 args.1) (part l rest) x.2 in
    let z = bind_some (args_at y.0) (λ args. behind_args_at v.0.0 x.0.0 args.0 args.1) (part l rest) y.2 in
    ap (behind (Name (codes "call"))) (v.1 ∙ ap (behind (spell_register v.0.0)) (w.1 ∙ ap (behind (Sign m.Dot)) (x.1 ∙ ap (behind (Name x.0.0)) (y.1 ∙ ap (behind (Sign m.OpenParen)) (args_are y.0 z.0.0 z.0.1 z.1)))))
    ∙ behind_args_take v.0.0 x.0.0 z.0.0 z.0.1 l rest z.2
