-- Lines of the plan: what is spelled so is read.
use Rattle.std.proofs.Common.{◌≡◌, ℕ, List, [], ◌∷◌, Some, refl}
use Rattle.std.specs.Prelude.{codes}
use Rattle.rl_defs.specs.declared.bundle.PlanLine.{PlanLine}
use Rattle.rl_defs.specs.declared.bundle.PlanLine.TheVariants as plan
use Rattle.rl_defs.specs.declared.lexeme.Mark.TheVariants as m
use Rattle.rl_defs.specs.Tokens.{Token, Name, Number, Sign}
use Rattle.rl_defs.specs.DomainForms.{spell_some}
use Rattle.rl_defs.specs.BundleForms.{spell_name, spell_plan, IsPlanForm}
use Rattle.rl_text.specs.Reading.{name_at}
use Rattle.rl_text.proofs.PartLaws.{part, mark_again, name_again, number_again, word_again, end_again}
use Rattle.bundle_syntax.specs.declared.plan.form.Verb.{Verb}
use Rattle.bundle_syntax.specs.declared.plan.form.Verb.TheVariants as verb
use Rattle.bundle_syntax.specs.PlanVerbs.{verb_text, verb_of}
use Rattle.bundle_syntax.specs.PlanLines.{load_at, bind_at, shadow_at, device_at, serial_at, fuel_at, order_at, operands_at, by_word_at, form_at, line_at}
use Rattle.bundle_syntax.proofs.Readings.{list_whole, names_again}

verb_again : (v : Verb) → verb_of (verb_text v) ≡ Some v
unfolding verb_of
verb_again verb.Load = refl
verb_again verb.Bind = refl
verb_again verb.Shadow = refl
verb_again verb.Device = refl
verb_again verb.Serial = refl
verb_again verb.Fuel = refl
verb_again verb.Order = refl

word_line : (v : Verb) (ts : List Token) (l : PlanLine) → operands_at v ts ≡ Some (part l []) → line_at (Name (verb_text v) ∷ ts) ≡ Some l
unfolding line_at form_at by_word_at
word_line v ts l e = rw (name_again (verb_text v) ts, verb_again v, e, end_again) refl

load_again : (name domain : List ℕ) → load_at (Name name ∷ Sign m.Equals ∷ Name domain ∷ []) ≡ Some (part (plan.Load name domain) [])
unfolding load_at
load_again name domain = rw (name_again name (Sign m.Equals ∷ Name domain ∷ []), mark_again m.Equals (Name domain ∷ []), name_again domain []) refl

bind_again : (load import target : List ℕ) → bind_at (Name load ∷ Sign m.Dot ∷ Name import ∷ Sign m.Equals ∷ Name target ∷ []) ≡ Some (part (plan.Bind load import target) [])
unfolding bind_at
bind_again load import target = rw (name_again load (Sign m.Dot ∷ Name import ∷ Sign m.Equals ∷ Name target ∷ []), mark_again m.Dot (Name import ∷ Sign m.Equals ∷ Name target ∷ []), name_again import (Sign m.Equals ∷ Name target ∷ []), mark_again m.Equals (Name target ∷ []), name_again target []) refl

shadow_again : (name load : List ℕ) (restarts : ℕ) → shadow_at (Name name ∷ Sign m.Equals ∷ Name load ∷ Name (codes "restarts") ∷ Number restarts ∷ []) ≡ Some (part (plan.Shadow name load restarts) [])
unfolding shadow_at
shadow_again name load restarts =
    let last : List Token = Number restarts ∷ [] in
    let tail : List Token = Name (codes "restarts") ∷ last in
    rw (name_again name (Sign m.Equals ∷ Name load ∷ tail), mark_again m.Equals (Name load ∷ tail), name_again load tail, word_again (codes "restarts") last, number_again restarts []) refl

device_again : (load : List ℕ) (blocks : ℕ) → device_at (Name load ∷ Number blocks ∷ []) ≡ Some (part (plan.Device load blocks) [])
unfolding device_at
device_again load blocks = rw (name_again load (Number blocks ∷ []), number_again blocks []) refl

serial_again : (load : List ℕ) → serial_at (Name load ∷ []) ≡ Some (part (plan.Serial load) [])
unfolding serial_at
serial_again load = rw (name_again load []) refl

fuel_again : (n : ℕ) → fuel_at (Number n ∷ []) ≡ Some (part (plan.Fuel n) [])
unfolding fuel_at
fuel_again n = rw (number_again n []) refl

order_again : (clients : List (List ℕ)) → (clients ≡ [] → ⊥) → order_at (spell_some spell_name clients) ≡ Some (part (plan.Order clients) [])
unfolding order_at
order_again [] some = absurd (some refl)
order_again (a ∷ more) some = rw (list_whole spell_name name_at names_again a more) refl

pub line_again : (l : PlanLine) → IsPlanForm l → line_at (spell_plan l) ≡ Some l
line_again (plan.Load name domain) h = word_line verb.Load _ _ (load_again name domain)
line_again (plan.Bind load import target) h = word_line verb.Bind _ _ (bind_again load import target)
line_again (plan.Shadow name load restarts) h = word_line verb.Shadow _ _ (shadow_again name load restarts)
line_again (plan.Device load blocks) h = word_line verb.Device _ _ (device_again load blocks)
line_again (plan.Serial load) h = word_line verb.Serial _ _ (serial_again load)
line_again (plan.Fuel n) h = word_line verb.Fuel _ _ (fuel_again n)
line_again (plan.Order clients) h = word_line verb.Order _ _ (order_again clients h)
