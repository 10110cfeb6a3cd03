-- Where a frame goes that fits.
use Rattle.std.proofs.Common.{◌≡◌, refl, sym, ◌∙◌, ap, subst, ℕ, zero, suc, ◌+◌, ◌-◌, ◌<◌, false, length, Option, Some, None, slice_get, is_some, arith}
use Rattle.std.specs.List.{slice_index_or}
use Rattle.std.proofs.lemmas.Option.{slice_get_past, slice_get_read}
use Rattle.rl_defs.specs.declared.bundle.Numbered.{Numbered}
use Rattle.rl_defs.specs.declared.code.DomainLine.{DomainLine}
use Rattle.rl_defs.specs.Domains.{Lines}
use Rattle.machine_defs.specs.declared.values.Cause.TheVariants as cause
use Rattle.machine_defs.specs.declared.frame.Action.{Action}
use Rattle.machine_defs.specs.declared.frame.Action.TheVariants as action
use Rattle.rl_defs.specs.declared.code.Instr.{Instr}
use Rattle.rl_defs.specs.declared.code.DomainLine.TheVariants as line
use Rattle.rl_defs.specs.DomainValue.{Domain}
use Rattle.machine_defs.specs.Sight.{Sight}
use Rattle.rl_defs.specs.CodeNames.{cells_of}
use Rattle.rl_defs.specs.CodeKinds.{kinds_at}
use Rattle.rl_defs.specs.CodeNames.{label_of, place_of_label}
use Rattle.rl_defs.specs.Registers.{Registers, Stand, behind_heads, through}
use Rattle.machine_defs.specs.Instructions.{Outcome, Works, Jumps, Would, entered_line, jumped, work, Before, go_on, settle, meaning}
use Rattle.rl_defs.specs.CodeRules.{KeepsRules}
use Rattle.rl_defs.specs.Registers.{Typing}
use Rattle.machine_defs.specs.CodeFits.{FitsStand, FitsSight, is_number_cell}
use Rattle.rl_defs.proofs.Places.{drop_at}
use Rattle.machine_defs.proofs.CodeSafe.{Safe, work_is, finds, safe_at, settles}
use Rattle.machine_defs.proofs.CodeStands.{comes_to_code, stands_next, has_place, place_head, stands_jumped, jumps_to}
use Rattle.rl_defs.proofs.TableSizes.{small_struct}
use Rattle.code_machine.specs.Fitting.{Fitting, AtInstr, IsNear, GoesToLabel}

no_number : (o : Option ℕ) → is_some o ≡ false → o ≡ None
no_number None e = refl
no_number (Some n) e = absurd (cc)

pub near : (d : Domain) (sight : Sight) (s : Stand) → KeepsRules d → Fitting d sight s → IsNear sight
near d sight s keeps fitting = record {
  few_cells = λ o at le.
      let small = small_struct d.tables (fitting.types.struct_of o) keeps.small in
      no_number (sight.cell o at) (fitting.sees.cells o at ∙ ap is_number_cell (slice_get_past (cells_of d.tables (fitting.types.struct_of o)) at (omega arith)));
  few_words = fitting.sees.words;
}

-- a line that was read
pub line_here : (xs lines : Lines) (n : ℕ) (l : Numbered DomainLine) (i : Instr) → xs ≡ lines → n < length lines → l ≡ slice_index_or xs n l → (slice_index_or xs n l).form ≡ line.Code i → slice_get lines n ≡ Some (record { line = l.line; form = line.Code i })
line_here xs lines n l i same within is form =
    slice_get_read lines (length lines) n l refl within (is ∙ ap (λ (ys : Lines). slice_index_or ys n l) same)
    ∙ ap (λ (f : DomainLine). Some (record { line = l.line; form = f })) (ap (λ (x : Numbered DomainLine). x.form) is ∙ form)

-- the instruction that is there is what is found there
pub work_means : (d : Domain) (sight : Sight) (live : ℕ) (s : Stand) (number : ℕ) (i : Instr) → KeepsRules d → Fitting d sight s → slice_get d.lines s.at ≡ Some (record { line = number; form = line.Code i }) → work d sight live s ≡ meaning d s.at sight live s.regs i
work_means d sight live s number i keeps fitting here = work_is d sight live s number i here (finds d fitting.types s number i keeps fitting.stand here)

-- a frame that fits and stands before an instruction
pub record Ready (d : Domain) (sight : Sight) (s : Stand) : Type 0 where
  pub fits : Fitting d sight s
  pub at : AtInstr d s

-- behind the heads it is ready
pub ready : (d : Domain) (sight : Sight) (s t : Stand) → KeepsRules d → Fitting d sight s → behind_heads d s ≡ t → Ready d sight t
ready d sight s t keeps fitting is =
    let code = comes_to_code d fitting.types s keeps fitting.stand in
    subst (λ x. Ready d sight x) is (record {
      fits = record { types = fitting.types; stand = code.stand; sees = fitting.sees };
      at = record { instr = code.instr; at = code.at };
    })

no_heads : (d : Domain) (s : Stand) → AtInstr d s → behind_heads d s ≡ s
no_heads d s code = ap (λ xs. through xs s.at s.regs) (drop_at d.lines s.at _ code.at.here)

-- from there work goes on
pub goes_next : (d : Domain) (sight : Sight) (live n : ℕ) (before behind : Registers) → KeepsRules d → Ready d sight (record { at = n; regs = before }) → work d sight live (record { at = n; regs = before }) ≡ Works behind → Fitting d sight (record { at = n + 1; regs = behind })
goes_next d sight live n before behind keeps from is =
    let types = from.fits.types in
    let at = from.at.at in
    let safely = subst (λ o. Safe types d (kinds_at d n) from.at.instr o) is (safe_at d types sight live (record { at = n; regs = before }) at.number from.at.instr keeps from.fits.sees from.fits.stand at.here) in
    record { types = types; stand = stands_next d types n at.number from.at.instr behind keeps from.fits.stand.inside at.here safely.1 safely.0; sees = from.fits.sees }

pub goes_label : (d : Domain) (sight : Sight) (live n : ℕ) (before behind : Registers) → KeepsRules d → Ready d sight (record { at = n; regs = before }) → work d sight live (record { at = n; regs = before }) ≡ Jumps behind → GoesToLabel d n behind × Fitting d sight (jumped d n behind)
goes_label d sight live n before behind keeps from is =
    let types = from.fits.types in
    let at = from.at.at in
    let i = from.at.instr in
    let safely = subst (λ o. Safe types d (kinds_at d n) i o) is (safe_at d types sight live (record { at = n; regs = before }) at.number i keeps from.fits.sees from.fits.stand at.here) in
    let p = has_place d n at.number i safely.1.0 keeps at.here safely.1.1 in (
      record { types = types; instr = i; at = record { number = at.number; here = at.here }; place = p.0; leads = p.1; fits = safely.0 },
      record { types = types; stand = stands_jumped d types n at.number i safely.1.0 behind keeps at.here safely.1.1 safely.0; sees = from.fits.sees },
    )

-- the heads behind a label are those behind its place
pub jumps_behind : (d : Domain) (n number p : ℕ) (i : Instr) (regs : Registers) → slice_get d.lines n ≡ Some (record { line = number; form = line.Code i }) → place_of_label d n (label_of i) ≡ Some p → behind_heads d (jumped d n regs) ≡ behind_heads d (record { at = p; regs = regs })
jumps_behind d n number p i regs here leads =
    let head = place_head d n (label_of i) p leads in
    ap (behind_heads d) (jumps_to d n number p i regs here leads ∙ ap (λ o. entered_line o p regs) head.here)
    ∙ sym (ap (λ xs. through xs p regs) (drop_at d.lines p _ head.here))

-- register work is the same from behind the heads
settle_same : (d : Domain) (sight : Sight) (live fuel : ℕ) (s t : Stand) → behind_heads d s ≡ behind_heads d t → settle d sight live fuel s ≡ settle d sight live fuel t
settle_same d sight live zero s t e = ap (λ b. Before (action.Trap cause.Fuel) 0 b) e
settle_same d sight live (suc f) s t e = ap (λ b. go_on d (work d sight live b) (settle d sight live f) (suc f) b) e

pub settle_behind : (d : Domain) (sight : Sight) (live fuel : ℕ) (s t : Stand) → KeepsRules d → Ready d sight t → behind_heads d s ≡ t → settle d sight live fuel s ≡ settle d sight live fuel t
settle_behind d sight live fuel s t keeps to is = settle_same d sight live fuel s t (is ∙ sym (no_heads d t to.at))

settle_work : (d : Domain) (sight : Sight) (live f : ℕ) (s : Stand) (o : Outcome) → AtInstr d s → work d sight live s ≡ o → settle d sight live (suc f) s ≡ go_on d o (settle d sight live f) (suc f) s
settle_work d sight live f s o code is =
    ap (λ b. go_on d (work d sight live b) (settle d sight live f) (suc f) b) (no_heads d s code)
    ∙ ap (λ x. go_on d x (settle d sight live f) (suc f) s) is

pub settle_next : (d : Domain) (sight : Sight) (live fuel n : ℕ) (before behind : Registers) → 0 < fuel → Ready d sight (record { at = n; regs = before }) → work d sight live (record { at = n; regs = before }) ≡ Works behind → settle d sight live fuel (record { at = n; regs = before }) ≡ settle d sight live (fuel - 1) (record { at = n + 1; regs = behind })
settle_next d sight live zero n before behind some from is = absurd (omega arith)
settle_next d sight live (suc f) n before behind some from is =
    let e : f ≡ suc f - 1 = omega arith in
    settle_work d sight live f (record { at = n; regs = before }) (Works behind) from.at is ∙ ap (λ x. settle d sight live x (record { at = n + 1; regs = behind })) e

pub settle_label : (d : Domain) (sight : Sight) (live fuel n : ℕ) (before behind : Registers) → 0 < fuel → Ready d sight (record { at = n; regs = before }) → work d sight live (record { at = n; regs = before }) ≡ Jumps behind → settle d sight live fuel (record { at = n; regs = before }) ≡ settle d sight live (fuel - 1) (jumped d n behind)
settle_label d sight live zero n before behind some from is = absurd (omega arith)
settle_label d sight live (suc f) n before behind some from is =
    let e : f ≡ suc f - 1 = omega arith in
    settle_work d sight live f (record { at = n; regs = before }) (Jumps behind) from.at is ∙ ap (λ x. settle d sight live x (jumped d n behind)) e

pub settle_acts : (d : Domain) (sight : Sight) (live fuel : ℕ) (s : Stand) (act : Action) → 0 < fuel → Ready d sight s → work d sight live s ≡ Would act → settle d sight live fuel s ≡ Before act fuel s
settle_acts d sight live zero s act some from is = absurd (omega arith)
settle_acts d sight live (suc f) s act some from is = settle_work d sight live f s (Would act) from.at is

pub settle_ends : (d : Domain) (sight : Sight) (live : ℕ) (s : Stand) → Ready d sight s → settle d sight live 0 s ≡ Before (action.Trap cause.Fuel) 0 s
settle_ends d sight live s from = ap (λ b. Before (action.Trap cause.Fuel) 0 b) (no_heads d s from.at)

-- where register work ends, the frame fits for the types for which it fitted
pub ends_fitting : (d : Domain) (types : Typing) (sight : Sight) (live fuel rest : ℕ) (s t : Stand) (act : Action) → KeepsRules d → settle d sight live fuel s ≡ Before act rest t → FitsStand types d s → FitsSight types d sight → FitsStand types d t
ends_fitting d types sight live fuel rest s t act keeps is stand sees =
    let comes = settles d types sight live fuel s keeps sees stand in
    let e : Before comes.act comes.rest comes.stand ≡ Before act rest t = sym comes.settles ∙ is in
    let same : comes.stand ≡ t = cc in
    subst (λ x. FitsStand types d x) same comes.fits
