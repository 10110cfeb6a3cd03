-- What stands behind the word of a line: what is read is spelled so, and what is spelled so is read.
use Rattle.std.proofs.Common.{◌≡◌, ℕ, List, [], ◌∷◌, ◌++◌, Option, Some, refl, ap, ◌∙◌}
use Rattle.std.specs.Prelude.{codes}
use Rattle.std.specs.Fmt.{decimal}
use Rattle.rl_defs.specs.declared.code.Register.{Register}
use Rattle.rl_defs.specs.declared.lexeme.Mark.TheVariants as m
use Rattle.rl_defs.specs.Tokens.{Token, Name, Number, Sign}
use Rattle.rl_defs.specs.DomainForms.{spell_register, spell_one}
use Rattle.rl_text.specs.Reading.{◌>>=◌, name_at, number_at}
use Rattle.rl_text.proofs.PartLaws.{Part, part, both_parts, bind_some, mark_step, name_step, name_takes, number_takes, name_again, number_again, mark_again, Takes, Again}
use Rattle.rl_text.proofs.ManyLaws.{AllValid, Shortens, shortens}
use Rattle.domain_code.specs.Operands.{register_of, named_register, register_at, next_register_at, next_name_at, next_number_at}
use Rattle.domain_code.proofs.Registers.{register_takes, register_spelled}

-- each value of these parts keeps to its rules
abbrev pub Fine : {A : Type 0} → A → Type 0
Fine a = Unit {0}

pub all_fine : {A : Type 0} (l : List A) → AllValid Fine l
all_fine [] = tt
all_fine (a ∷ l) = (tt, all_fine l)

pub register_is : (ts : List Token) (r : Register) (rest : List Token) → register_at ts ≡ Some (part r rest) → ts ≡ spell_register r ∷ rest
unfolding register_at
register_is ts r rest e =
    let x = name_step ts (λ name. named_register name.0 name.1) (part r rest) e in
    let y = bind_some (register_of x.0.0) (λ s. Some (part s x.0.1)) (part r rest) x.2 in
    let q = both_parts (part y.0 x.0.1) (part r rest) y.2 in
    x.1 ∙ ap (λ (w : List ℕ). Name w ∷ x.0.1) (register_takes x.0.0 y.0 y.1) ∙ ap (λ (s : Register). spell_register s ∷ x.0.1) q.0 ∙ ap (λ (t : List Token). spell_register r ∷ t) q.1

pub register_again : (r : Register) (rest : List Token) → register_at (spell_register r ∷ rest) ≡ Some (part r rest)
unfolding register_at
register_again r rest = rw (name_again (codes "r" ++ decimal r.number) rest, register_spelled r) refl

pub register_step : {B : Type 0} (ts : List Token) (f : Part Register → Option B) (y : B) → (register_at ts >>= f) ≡ Some y → (x : Part Register) × (ts ≡ spell_register x.0 ∷ x.1) × (f x ≡ Some y)
register_step ts f y e = let p = bind_some (register_at ts) f y e in (p.0, register_is ts p.0.0 p.0.1 p.1, p.2)

next_register_is : (ts : List Token) (r : Register) (rest : List Token) → next_register_at ts ≡ Some (part r rest) → ts ≡ Sign m.Comma ∷ spell_register r ∷ rest
unfolding next_register_at
next_register_is ts r rest e =
    let x = mark_step m.Comma ts (λ a. register_at a) (part r rest) e in
    x.1 ∙ ap (λ (t : List Token). Sign m.Comma ∷ t) (register_is x.0 r rest x.2)

pub next_register_again : (r : Register) (rest : List Token) → next_register_at (Sign m.Comma ∷ spell_register r ∷ rest) ≡ Some (part r rest)
unfolding next_register_at
next_register_again r rest = rw (mark_again m.Comma (spell_register r ∷ rest)) (register_again r rest)

pub next_register_step : {B : Type 0} (ts : List Token) (f : Part Register → Option B) (y : B) → (next_register_at ts >>= f) ≡ Some y → (x : Part Register) × (ts ≡ Sign m.Comma ∷ spell_register x.0 ∷ x.1) × (f x ≡ Some y)
next_register_step ts f y e = let p = bind_some (next_register_at ts) f y e in (p.0, next_register_is ts p.0.0 p.0.1 p.1, p.2)

next_name_is : (ts : List Token) (name : List ℕ) (rest : List Token) → next_name_at ts ≡ Some (part name rest) → ts ≡ Sign m.Comma ∷ Name name ∷ rest
unfolding next_name_at
next_name_is ts name rest e =
    let x = mark_step m.Comma ts (λ a. name_at a) (part name rest) e in
    x.1 ∙ ap (λ (t : List Token). Sign m.Comma ∷ t) (name_takes x.0 name rest x.2)

pub next_name_again : (name : List ℕ) (rest : List Token) → next_name_at (Sign m.Comma ∷ Name name ∷ rest) ≡ Some (part name rest)
unfolding next_name_at
next_name_again name rest = rw (mark_again m.Comma (Name name ∷ rest)) (name_again name rest)

pub next_name_step : {B : Type 0} (ts : List Token) (f : Part (List ℕ) → Option B) (y : B) → (next_name_at ts >>= f) ≡ Some y → (x : Part (List ℕ)) × (ts ≡ Sign m.Comma ∷ Name x.0 ∷ x.1) × (f x ≡ Some y)
next_name_step ts f y e = let p = bind_some (next_name_at ts) f y e in (p.0, next_name_is ts p.0.0 p.0.1 p.1, p.2)

next_number_is : (ts : List Token) (n : ℕ) (rest : List Token) → next_number_at ts ≡ Some (part n rest) → ts ≡ Sign m.Comma ∷ Number n ∷ rest
unfolding next_number_at
next_number_is ts n rest e =
    let x = mark_step m.Comma ts (λ a. number_at a) (part n rest) e in
    x.1 ∙ ap (λ (t : List Token). Sign m.Comma ∷ t) (number_takes x.0 n rest x.2)

pub next_number_again : (n : ℕ) (rest : List Token) → next_number_at (Sign m.Comma ∷ Number n ∷ rest) ≡ Some (part n rest)
unfolding next_number_at
next_number_again n rest = rw (mark_again m.Comma (Number n ∷ rest)) (number_again n rest)

pub next_number_step : {B : Type 0} (ts : List Token) (f : Part ℕ → Option B) (y : B) → (next_number_at ts >>= f) ≡ Some y → (x : Part ℕ) × (ts ≡ Sign m.Comma ∷ Number x.0 ∷ x.1) × (f x ≡ Some y)
next_number_step ts f y e = let p = bind_some (next_number_at ts) f y e in (p.0, next_number_is ts p.0.0 p.0.1 p.1, p.2)

-- ---- registers in lists

pub registers_take : Takes spell_one Fine register_at
registers_take ts r rest e = (register_is ts r rest e, tt)

pub registers_again : Again spell_one Fine register_at
registers_again r rest valid = register_again r rest

pub register_shortens : Shortens register_at
register_shortens = shortens spell_one Fine register_at registers_take
