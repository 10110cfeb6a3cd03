-- Types and parameters: what is read is spelled so, and what is spelled so is read.
use Rattle.std.proofs.Common.{ℕ, List, ◌∷◌, ◌++◌, Some, refl, ap, subst, ◌∙◌, arith}
use Rattle.rl_defs.specs.declared.lexeme.Mark.TheVariants as m
use Rattle.rl_defs.specs.declared.idl.TypeText.{TypeText}
use Rattle.rl_defs.specs.declared.idl.Param.{Param}
use Rattle.rl_defs.specs.Tokens.{Token, Name, Sign}
use Rattle.rl_defs.specs.IdlForms.{spell_type, spell_param, IsType}
use Rattle.rl_text.specs.Reading.{◌>>=◌, mark_at}
use Rattle.rl_text.proofs.PartLaws.{part, both_parts, bind_some, mark_step, name_step, name_again, mark_again, Takes, Again}
use Rattle.rl_text.proofs.ManyLaws.{Shortens, shortens}
use Rattle.idl_syntax.specs.Lines.{whole_type_at, param_at}
use Rattle.idl_syntax.proofs.TypeLaws.{type_takes, type_again}

pub whole_takes : Takes spell_type IsType whole_type_at
whole_takes ts ty rest e = let p = type_takes 9 ts ty rest e in (p.0, record { depth = omega (arith, p.1.0); wraps = p.1.1 })

pub whole_again : Again spell_type IsType whole_type_at
whole_again ty rest valid = type_again 9 ty rest (omega (arith, valid.depth), valid.wraps)

abbrev pub IsParam : Param → Type 0
IsParam p = IsType p.ty

abbrev param : List ℕ → TypeText → Param
param name ty = record { name = name; ty = ty }

pub param_takes : Takes spell_param IsParam param_at
unfolding param_at
param_takes ts p rest e =
    let x = name_step ts (λ name. mark_at m.Colon name.1 >>= λ a. whole_type_at a >>= λ ty. Some (part (param name.0 ty.0) ty.1)) (part p rest) e in
    let y = mark_step m.Colon x.0.1 (λ a. whole_type_at a >>= λ ty. Some (part (param x.0.0 ty.0) ty.1)) (part p rest) x.2 in
    let z = bind_some (whole_type_at y.0) (λ ty. Some (part (param x.0.0 ty.0) ty.1)) (part p rest) y.2 in
    let w = whole_takes y.0 z.0.0 z.0.1 z.1 in
    let q = both_parts (part (param x.0.0 z.0.0) z.0.1) (part p rest) z.2 in (
      x.1 ∙ ap (λ (t : List Token). Name x.0.0 ∷ t) (y.1 ∙ ap (λ (t : List Token). Sign m.Colon ∷ t) w.0) ∙ ap (λ (a : Param). spell_param a ++ z.0.1) q.0 ∙ ap (λ (t : List Token). spell_param p ++ t) q.1,
      subst (λ (a : Param). IsParam a) q.0 w.1,
    )

pub param_again : Again spell_param IsParam param_at
unfolding param_at
param_again p rest valid = rw (name_again p.name (Sign m.Colon ∷ (spell_type p.ty ++ rest)), mark_again m.Colon (spell_type p.ty ++ rest), whole_again p.ty rest valid) refl

pub whole_type_shortens : Shortens whole_type_at
whole_type_shortens = shortens spell_type IsType whole_type_at whole_takes

pub param_shortens : Shortens param_at
param_shortens = shortens spell_param IsParam param_at param_takes
