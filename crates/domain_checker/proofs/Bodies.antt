-- Where the bodies of functions begin.
use Rattle.std.proofs.Common.{◌≡◌, ℕ, suc, ◌+◌, Bool, true, false, not, List, [], ◌∷◌, length, Option, Some, None, refl, ap, ◌∙◌, arith, cond, nat_eq}
use Rattle.std.specs.Prelude.{is_some, unwrap_or}
use Rattle.std.specs.Option.{option_map}
use Rattle.std.specs.List.{position_or_len}
use Rattle.std.specs.Cmp.Lexicographic.{pointwise}
use Rattle.rl_defs.specs.declared.code.DomainLine.{DomainLine}
use Rattle.rl_defs.specs.declared.code.DomainLine.TheVariants as line
use Rattle.rl_defs.specs.Interfaces.{place_of}
use Rattle.rl_defs.specs.Domains.{Lines, begins_function}
use Rattle.rl_defs.specs.CodeNames.{functions, function_of_form}
use Rattle.domain_checker.specs.Numbering.{body_from, body_behind}

-- a function of this name is there exactly where its body is
pub body_is : (q : List ℕ) (lines : Lines) (place : ℕ) → is_some (body_from q lines place) ≡ is_some (place_of q (functions lines))
body_is q [] place = refl
body_is q (l ∷ ls) place = of l.form (body_from q ls (place + 1)) (functions ls) (body_is q ls (place + 1)) where
  named : (same : Bool) (found : Option ℕ) (at : Option ℕ) → is_some found ≡ is_some at → is_some (cond same (Some (place + 1)) found) ≡ is_some (cond same (Some 0) (option_map (λ k. suc k) at))
  named true found at e = refl
  named false found None e = e
  named false found (Some k) e = e

  of : (form : DomainLine) (found : Option ℕ) (names : List (List ℕ)) → is_some found ≡ is_some (place_of q names) → is_some (body_behind q form place found) ≡ is_some (place_of q (function_of_form form names))
  of (line.Domain name has) found names e = e
  of (line.Words n) found names e = e
  of (line.Slot name ty) found names e = e
  of (line.Import name has) found names e = e
  of (line.Native body) found names e = e
  of (line.Function name) found names e = named (pointwise nat_eq name q) found (place_of q names) e
  of (line.Head label items) found names e = e
  of (line.Code i) found names e = e
  of line.Close found names e = e

-- the place that the definitions give, which is one past the end where there is no such function
pub body_at : (q : List ℕ) (lines : Lines) (place : ℕ) → unwrap_or (body_from q lines place) (place + length lines + 1) ≡ place + position_or_len (λ l. begins_function q l.form) lines + 1
body_at q [] place = refl
body_at q (l ∷ ls) place = of l.form (body_from q ls (place + 1)) (length ls) (position_or_len (λ m. begins_function q m.form) ls) (body_at q ls (place + 1)) where
  later : (found : Option ℕ) (len pos : ℕ) → unwrap_or found (place + 1 + len + 1) ≡ place + 1 + pos + 1 → unwrap_or found (place + suc len + 1) ≡ place + (1 + pos) + 1
  later found len pos e =
      let same : place + suc len + 1 ≡ place + 1 + len + 1 = omega arith in
      let at : place + 1 + pos + 1 ≡ place + (1 + pos) + 1 = omega arith in
      ap (unwrap_or found) same ∙ e ∙ at

  named : (same : Bool) (found : Option ℕ) (len pos : ℕ) → unwrap_or found (place + 1 + len + 1) ≡ place + 1 + pos + 1 → unwrap_or (cond same (Some (place + 1)) found) (place + suc len + 1) ≡ place + cond (not same) (1 + pos) 0 + 1
  named true found len pos e = omega arith
  named false found len pos e = later found len pos e

  of : (form : DomainLine) (found : Option ℕ) (len pos : ℕ) → unwrap_or found (place + 1 + len + 1) ≡ place + 1 + pos + 1 → unwrap_or (body_behind q form place found) (place + suc len + 1) ≡ place + cond (not (begins_function q form)) (1 + pos) 0 + 1
  of (line.Domain name has) found len pos e = later found len pos e
  of (line.Words n) found len pos e = later found len pos e
  of (line.Slot name ty) found len pos e = later found len pos e
  of (line.Import name has) found len pos e = later found len pos e
  of (line.Native body) found len pos e = later found len pos e
  of (line.Function name) found len pos e = named (pointwise nat_eq name q) found len pos e
  of (line.Head label items) found len pos e = later found len pos e
  of (line.Code i) found len pos e = later found len pos e
  of line.Close found len pos e = later found len pos e
