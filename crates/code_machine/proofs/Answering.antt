-- Where a frame goes behind an answer.
use Rattle.std.proofs.Common.{◌≡◌, refl, sym, ◌∙◌, ap, subst, ℕ, ◌+◌, Some, slice_get}
use Rattle.std.specs.List.{slice_index_or}
use Rattle.std.proofs.lemmas.Option.{get_or_from_slice_get}
use Rattle.rl_defs.specs.declared.bundle.Numbered.{Numbered}
use Rattle.machine_defs.specs.declared.values.RpcCode.{RpcCode}
use Rattle.machine_defs.specs.declared.frame.Answer.{Answer}
use Rattle.machine_defs.specs.declared.frame.Answer.TheVariants as answer
use Rattle.rl_defs.specs.declared.code.Instr.{Instr}
use Rattle.rl_defs.specs.declared.code.DomainLine.{DomainLine}
use Rattle.rl_defs.specs.declared.code.DomainLine.TheVariants as line
use Rattle.rl_defs.specs.DomainValue.{Domain}
use Rattle.rl_defs.specs.Domains.{Lines}
use Rattle.rl_defs.specs.CodeKinds.{kinds_at}
use Rattle.rl_defs.specs.CodeNames.{label_of, place_of_label}
use Rattle.rl_defs.specs.Registers.{Registers, Stand}
use Rattle.machine_defs.specs.Instructions.{behind_head}
use Rattle.rl_defs.specs.CodeRules.{KeepsRules}
use Rattle.rl_defs.specs.Registers.{Typing}
use Rattle.machine_defs.specs.CodeFits.{FitsStand, FitsAnswer}
use Rattle.machine_defs.specs.Instructions.{answered, after_answer_at, after_answer}
use Rattle.machine_defs.specs.CodeLaws.{StandsAt}
use Rattle.machine_defs.proofs.CodeStands.{has_place, place_head, jumps_to}
use Rattle.machine_defs.proofs.CodeAnswers.{failed_label}
use Rattle.code_machine.specs.Fitting.{standing, Awaits, IsHead}

pub code_form : (xs lines : Lines) (n : ℕ) (l : Numbered DomainLine) (number : ℕ) (i : Instr) → xs ≡ lines → slice_get lines n ≡ Some (record { line = number; form = line.Code i }) → (slice_index_or xs n l).form ≡ line.Code i
code_form xs lines n l number i same here =
    ap (λ (ys : Lines). (slice_index_or ys n l).form) same ∙ ap (λ (x : Numbered DomainLine). x.form) (get_or_from_slice_get lines n _ l here)

pub same_instr : (xs lines : Lines) (n : ℕ) (l : Numbered DomainLine) (number : ℕ) (i j : Instr) → xs ≡ lines → slice_get lines n ≡ Some (record { line = number; form = line.Code i }) → (slice_index_or xs n l).form ≡ line.Code j → j ≡ i
same_instr xs lines n l number i j same here form =
    let e : line.Code j ≡ line.Code i = sym form ∙ code_form xs lines n l number i same here in
    cc

-- the place of the label of a call that failed
pub failed_place : (d : Domain) (s : Stand) (a : Answer) (f : RpcCode) → KeepsRules d → (await : Awaits d s a) → a ≡ answer.Failed f → (p : ℕ) × (place_of_label d s.at (label_of await.instr) ≡ Some p)
failed_place d s a f keeps await is =
    let label = failed_label await.types d (kinds_at d s.at) await.instr f (subst (λ x. FitsAnswer await.types d (kinds_at d s.at) await.instr x) is await.answer) in
    has_place d s.at await.at.number await.instr label.0 keeps await.at.here label.1

pub failed_head : (d : Domain) (s : Stand) (a : Answer) (f : RpcCode) (label : ℕ) → KeepsRules d → (await : Awaits d s a) → a ≡ answer.Failed f → ((p : ℕ) → place_of_label d s.at (label_of await.instr) ≡ Some p → label ≡ p) → IsHead d label
failed_head d s a f label keeps await is leads =
    let p = failed_place d s a f keeps await is in
    let head = place_head d s.at (label_of await.instr) p.0 p.1 in
    subst (λ n. IsHead d n) (sym (leads p.0 p.1)) (record { number = head.number; label = head.label; items = head.items; here = head.here })

pub failed_goes : (d : Domain) (n number p : ℕ) (i j : Instr) (a : Answer) (f : RpcCode) (regs made : Registers) (label : ℕ) (t : Stand) → slice_get d.lines n ≡ Some (record { line = number; form = line.Code i }) → place_of_label d n (label_of i) ≡ Some p → label ≡ p → a ≡ answer.Failed f → j ≡ i → made ≡ answered j a regs → behind_head d label made ≡ t → after_answer d (record { at = n; regs = regs }) i a ≡ t
failed_goes d n number p i j a f regs made label t here leads to is same made_is goes =
    let all = answered i a regs in
    let made_all : made ≡ all = made_is ∙ ap (λ x. answered x a regs) same in
    ap (λ x. after_answer_at d n x all) is
    ∙ (jumps_to d n number p i all here leads ∙ (ap (λ q. behind_head d q all) (sym to) ∙ (ap (behind_head d label) (sym made_all) ∙ goes)))

next_line : (d : Domain) (n : ℕ) (a : Answer) (regs : Registers) → ((f : RpcCode) → a ≡ answer.Failed f → ⊥) → after_answer_at d n a regs ≡ record { at = n + 1; regs = regs }
next_line d n (answer.Made o) regs not_failed = refl
next_line d n answer.Went regs not_failed = refl
next_line d n (answer.Back values) regs not_failed = refl
next_line d n (answer.Failed f) regs not_failed = absurd (not_failed f refl)

pub went_goes : (d : Domain) (n : ℕ) (i j : Instr) (a : Answer) (regs made : Registers) → ((f : RpcCode) → a ≡ answer.Failed f → ⊥) → j ≡ i → made ≡ answered j a regs → after_answer d (record { at = n; regs = regs }) i a ≡ record { at = n + 1; regs = made }
went_goes d n i j a regs made not_failed same made_is =
    next_line d n a (answered i a regs) not_failed ∙ ap (standing (n + 1)) (sym (made_is ∙ ap (λ x. answered x a regs) same))

pub fits_there : (d : Domain) (types : Typing) (i : Instr) (a : Answer) (s r t : Stand) → s ≡ r → (StandsAt d i r → after_answer d r i a ≡ t) → StandsAt d i s → FitsStand types d (after_answer d s i a) → FitsStand types d t
fits_there d types i a s r t same goes at fits =
    let there = goes (subst (λ x. StandsAt d i x) same at) in
    subst (λ x. FitsStand types d x) (ap (λ x. after_answer d x i a) same ∙ there) fits
