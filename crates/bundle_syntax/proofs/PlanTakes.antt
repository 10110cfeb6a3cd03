-- Lines of the plan: what is read is spelled so.
use Rattle.std.proofs.Common.{◌≡◌, ℕ, List, ◌∷◌, Some, ap, ◌∙◌}
use Rattle.std.specs.Prelude.{codes}
use Rattle.rl_defs.specs.declared.bundle.PlanLine.{PlanLine}
use Rattle.rl_defs.specs.declared.bundle.PlanLine.TheVariants as plan
use Rattle.rl_defs.specs.declared.lexeme.Mark.TheVariants as m
use Rattle.rl_defs.specs.Tokens.{Token, Name, Sign}
use Rattle.rl_defs.specs.BundleForms.{spell_name, spell_plan, IsPlanForm}
use Rattle.rl_text.specs.Reading.{◌>>=◌, name_at, number_at, mark_at, word_at}
use Rattle.rl_text.specs.Many.{list_at}
use Rattle.rl_text.proofs.PartLaws.{part, bind_some, mark_step, word_step, name_step, number_step, Takes}
use Rattle.bundle_syntax.specs.declared.plan.form.Verb.{Verb}
use Rattle.bundle_syntax.specs.declared.plan.form.Verb.TheVariants as verb
use Rattle.bundle_syntax.specs.PlanVerbs.{verb_text, likely_verb, verb_of}
use Rattle.bundle_syntax.specs.PlanLines.{load_at, bind_at, shadow_at, device_at, serial_at, fuel_at, order_at, operands_at, by_word_at, form_at, line_at}
use Rattle.bundle_syntax.proofs.Readings.{Behind, behind, moved, whole_takes, word_is, list_takes, list_some, names_take}

-- ---- words

verb_takes : (word : List ℕ) (v : Verb) → verb_of word ≡ Some v → word ≡ verb_text v
unfolding verb_of
verb_takes word v e = word_is verb_text (likely_verb word) word v e

-- ---- lines by their words

abbrev Line : Verb → Type 0
Line v = Behind spell_plan IsPlanForm (Name (verb_text v)) (operands_at v)

load_takes : Line verb.Load
unfolding load_at
load_takes ts l rest e =
    let x = name_step ts (λ name. mark_at m.Equals name.1 >>= λ a. name_at a >>= λ domain. Some (part (plan.Load name.0 domain.0) domain.1)) (part l rest) e in
    let y = mark_step m.Equals x.0.1 (λ a. name_at a >>= λ domain. Some (part (plan.Load x.0.0 domain.0) domain.1)) (part l rest) x.2 in
    let z = name_step y.0 (λ domain. Some (part (plan.Load x.0.0 domain.0) domain.1)) (part l rest) y.2 in
    moved spell_plan IsPlanForm (Name (codes "load") ∷ ts) (plan.Load x.0.0 z.0.0) l z.0.1 rest z.2 (ap (behind (Name (codes "load"))) (x.1 ∙ ap (behind (Name x.0.0)) (y.1 ∙ ap (behind (Sign m.Equals)) z.1))) tt

bind_takes : Line verb.Bind
unfolding bind_at
bind_takes ts l rest e =
    let v = name_step ts (λ load. mark_at m.Dot load.1 >>= λ a. name_at a >>= λ import. mark_at m.Equals import.1 >>= λ b. name_at b >>= λ target. Some (part (plan.Bind load.0 import.0 target.0) target.1)) (part l rest) e in
    let w = mark_step m.Dot v.0.1 (λ a. name_at a >>= λ import. mark_at m.Equals import.1 >>= λ b. name_at b >>= λ target. Some (part (plan.Bind v.0.0 import.0 target.0) target.1)) (part l rest) v.2 in
    let x = name_step w.0 (λ import. mark_at m.Equals import.1 >>= λ b. name_at b >>= λ target. Some (part (plan.Bind v.0.0 import.0 target.0) target.1)) (part l rest) w.2 in
    let y = mark_step m.Equals x.0.1 (λ b. name_at b >>= λ target. Some (part (plan.Bind v.0.0 x.0.0 target.0) target.1)) (part l rest) x.2 in
    let z = name_step y.0 (λ target. Some (part (plan.Bind v.0.0 x.0.0 target.0) target.1)) (part l rest) y.2 in
    moved spell_plan IsPlanForm (Name (codes "bind") ∷ ts) (plan.Bind v.0.0 x.0.0 z.0.0) l z.0.1 rest z.2 (
    ap (behind (Name (codes "bind"))) (v.1 ∙ ap (behind (Name v.0.0)) (w.1 ∙ ap (behind (Sign m.Dot)) (x.1 ∙ ap (behind (Name x.0.0)) (y.1 ∙ ap (behind (Sign m.Equals)) z.1))))
    ) tt

shadow_takes : Line verb.Shadow
unfolding shadow_at
shadow_takes ts l rest e =
    let v = name_step ts (λ name. mark_at m.Equals name.1 >>= λ a. name_at a >>= λ load. word_at (codes "restarts") load.1 >>= λ b. number_at b >>= λ n. Some (part (plan.Shadow name.0 load.0 n.0) n.1)) (part l rest) e in
    let w = mark_step m.Equals v.0.1 (λ a. name_at a >>= λ load. word_at (codes "restarts") load.1 >>= λ b. number_at b >>= λ n. Some (part (plan.Shadow v.0.0 load.0 n.0) n.1)) (part l rest) v.2 in
    let x = name_step w.0 (λ load. word_at (codes "restarts") load.1 >>= λ b. number_at b >>= λ n. Some (part (plan.Shadow v.0.0 load.0 n.0) n.1)) (part l rest) w.2 in
    let y = word_step (codes "restarts") x.0.1 (λ b. number_at b >>= λ n. Some (part (plan.Shadow v.0.0 x.0.0 n.0) n.1)) (part l rest) x.2 in
    let z = number_step y.0 (λ n. Some (part (plan.Shadow v.0.0 x.0.0 n.0) n.1)) (part l rest) y.2 in
    moved spell_plan IsPlanForm (Name (codes "shadow") ∷ ts) (plan.Shadow v.0.0 x.0.0 z.0.0) l z.0.1 rest z.2 (
    ap (behind (Name (codes "shadow"))) (v.1 ∙ ap (behind (Name v.0.0)) (w.1 ∙ ap (behind (Sign m.Equals)) (x.1 ∙ ap (behind (Name x.0.0)) (y.1 ∙ ap (behind (Name (codes "restarts"))) z.1))))
    ) tt

device_takes : Line verb.Device
unfolding device_at
device_takes ts l rest e =
    let x = name_step ts (λ load. number_at load.1 >>= λ n. Some (part (plan.Device load.0 n.0) n.1)) (part l rest) e in
    let y = number_step x.0.1 (λ n. Some (part (plan.Device x.0.0 n.0) n.1)) (part l rest) x.2 in
    moved spell_plan IsPlanForm (Name (codes "device") ∷ ts) (plan.Device x.0.0 y.0.0) l y.0.1 rest y.2 (ap (behind (Name (codes "device"))) (x.1 ∙ ap (behind (Name x.0.0)) y.1)) tt

serial_takes : Line verb.Serial
unfolding serial_at
serial_takes ts l rest e =
    let x = name_step ts (λ load. Some (part (plan.Serial load.0) load.1)) (part l rest) e in
    moved spell_plan IsPlanForm (Name (codes "serial") ∷ ts) (plan.Serial x.0.0) l x.0.1 rest x.2 (ap (behind (Name (codes "serial"))) x.1) tt

fuel_takes : Line verb.Fuel
unfolding fuel_at
fuel_takes ts l rest e =
    let x = number_step ts (λ n. Some (part (plan.Fuel n.0) n.1)) (part l rest) e in
    moved spell_plan IsPlanForm (Name (codes "fuel") ∷ ts) (plan.Fuel x.0.0) l x.0.1 rest x.2 (ap (behind (Name (codes "fuel"))) x.1) tt

order_takes : Line verb.Order
unfolding order_at
order_takes ts l rest e =
    let x = bind_some (list_at name_at ts) (λ clients. Some (part (plan.Order clients.0) clients.1)) (part l rest) e in
    moved spell_plan IsPlanForm (Name (codes "order") ∷ ts) (plan.Order x.0.0) l x.0.1 rest x.2 (ap (behind (Name (codes "order"))) (list_takes spell_name name_at names_take ts x.0.0 x.0.1 x.1)) (list_some name_at ts x.0.0 x.0.1 x.1)

operands_take : (v : Verb) → Line v
operands_take verb.Load ts l rest e = load_takes ts l rest e
operands_take verb.Bind ts l rest e = bind_takes ts l rest e
operands_take verb.Shadow ts l rest e = shadow_takes ts l rest e
operands_take verb.Device ts l rest e = device_takes ts l rest e
operands_take verb.Serial ts l rest e = serial_takes ts l rest e
operands_take verb.Fuel ts l rest e = fuel_takes ts l rest e
operands_take verb.Order ts l rest e = order_takes ts l rest e

by_word_takes : (name : List ℕ) → Behind spell_plan IsPlanForm (Name name) (by_word_at name)
unfolding by_word_at
by_word_takes name ts l rest e =
    let x = bind_some (verb_of name) (λ v. operands_at v ts) (part l rest) e in
    let p = operands_take x.0 ts l rest x.2 in
    (ap (λ (w : List ℕ). Name w ∷ ts) (verb_takes name x.0 x.1) ∙ p.0, p.1)

form_takes : Takes spell_plan IsPlanForm form_at
unfolding form_at
form_takes ts l rest e =
    let x = name_step ts (λ name. by_word_at name.0 name.1) (part l rest) e in
    let p = by_word_takes x.0.0 x.0.1 l rest x.2 in
    (x.1 ∙ p.0, p.1)

pub line_takes : (ts : List Token) (l : PlanLine) → line_at ts ≡ Some l → (ts ≡ spell_plan l) × IsPlanForm l
unfolding line_at
line_takes ts l e = whole_takes spell_plan IsPlanForm form_at form_takes ts l e
