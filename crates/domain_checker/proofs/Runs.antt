-- The runs of the lines, from the last line to the first.
use Rattle.std.proofs.Common.{◌≡◌, refl, ap, sym, ◌∙◌, ◌⊎◌, inl, inr, ℕ, zero, suc, ◌+◌, ◌-◌, ◌<◌, ◌≤◌, ◌||◌, Bool, true, false, List, [], ◌∷◌, ◌++◌, length, drop, None, Some, slice_get, arith}
use Rattle.std.specs.List.{list_any}
use Rattle.rl_defs.specs.declared.bundle.Numbered.{Numbered}
use Rattle.rl_defs.specs.declared.code.DomainLine.{DomainLine}
use Rattle.rl_defs.specs.declared.code.DomainLine.TheVariants as line
use Rattle.rl_defs.specs.Domains.{Lines}
use Rattle.rl_defs.proofs.Places.{get_last, drop_at}
use Rattle.domain_checker.specs.declared.ways.Run.{Run}
use Rattle.domain_checker.specs.Heads.{all_registers, run_form, run_at, is_head, AreRuns, AreKept}

-- the run of a line, by that of the next
pub run_here : (lines : Lines) (place next_place : ℕ) (x : Numbered DomainLine) (next here : Run) → next_place ≡ place + 1 → next ≡ run_at (drop next_place lines) next_place → slice_get lines place ≡ Some x → here ≡ run_form x.form place next → here ≡ run_at (drop place lines) place
run_here lines place next_place x next here behind next_is at is =
    is
    ∙ (ap (run_form x.form place) (next_is ∙ ap (λ n. run_at (drop n lines) n) behind)
    ∙ ap (λ ls. run_at ls place) (sym (drop_at lines place x at)))

run_case : (lines : Lines) (runs : List Run) (place : ℕ) (here : Run) → AreRuns lines runs → length runs + (place + 1) ≡ length lines → here ≡ run_at (drop place lines) place → (k p : ℕ) (run : Run) → k + 1 + p ≡ length lines → (slice_get runs k ≡ Some run) ⊎ ((k ≡ length runs) × (run ≡ here)) → run ≡ run_at (drop p lines) p
run_case lines runs place here are count is k p run at (inl before) = are.each k p run before at
run_case lines runs place here are count is k p run at (inr last) =
    let same : place ≡ p = omega (arith, last.0) in
    last.1 ∙ (is ∙ ap (λ q. run_at (drop q lines) q) same)

pub runs_more : (lines : Lines) (runs more : List Run) (place next_place : ℕ) (here : Run) → AreRuns lines runs → next_place ≡ place + 1 → length runs + next_place ≡ length lines → here ≡ run_at (drop place lines) place → more ≡ runs ++ here ∷ [] → AreRuns lines more
runs_more lines runs more place next_place here are behind count is more_is = record {
  each = λ k p run got at. run_case lines runs place here are (omega arith) is k p run at (get_last runs here k run (ap (λ xs. slice_get xs k) (sym more_is) ∙ got));
}

-- no runs
pub runs_none : (lines : Lines) → AreRuns lines []
runs_none lines = record { each = λ k p run got at. absurd cc }

first_false : (a b : Bool) → (a || b) ≡ false → a ≡ false
first_false true b e = absurd cc
first_false false b e = refl

rest_false : (a b : Bool) → (a || b) ≡ false → b ≡ false
rest_false true b e = absurd cc
rest_false false b e = e

-- a line that is no head stands for itself
stands : (form : DomainLine) (place : ℕ) (next : Run) → is_head form ≡ false → run_form form place next ≡ record { line = place; listed = all_registers }
stands (line.Domain name has) place next e = refl
stands (line.Words n) place next e = refl
stands (line.Slot name ty) place next e = refl
stands (line.Import name has) place next e = refl
stands (line.Native body) place next e = refl
stands (line.Function name) place next e = refl
stands (line.Head label items) place next e = absurd cc
stands (line.Code i) place next e = refl
stands line.Close place next e = refl

run_alone : (lines : Lines) (k place : ℕ) → list_any (λ l. is_head l.form) lines ≡ false → k < length lines → run_at (drop k lines) place ≡ record { line = place; listed = all_registers }
run_alone [] k place none within = absurd (omega (arith, within))
run_alone (l ∷ ls) zero place none within = stands l.form place (run_at ls (place + 1)) (first_false (is_head l.form) (list_any (λ m. is_head m.form) ls) none)
run_alone (l ∷ ls) (suc k) place none within = run_alone ls k place (rest_false (is_head l.form) (list_any (λ m. is_head m.form) ls) none) (omega (arith, within))

-- the run of a place, which is kept
pub run_kept : (lines : Lines) (runs : List Run) (place back : ℕ) (run : Run) → AreKept lines runs → back ≡ length lines - 1 - place → place < length lines → slice_get runs back ≡ Some run → run ≡ run_at (drop place lines) place
run_kept lines runs place back run kept is within got = kept.right.each back place run got (omega (arith, is))

beyond : (runs : List Run) (back : ℕ) → slice_get runs back ≡ None → length runs ≤ back
beyond [] back e = omega arith
beyond (r ∷ runs) zero e = absurd cc
beyond (r ∷ runs) (suc back) e = omega (arith, beyond runs back e)

-- the run of a place, which isn't kept
pub run_missing : (lines : Lines) (runs : List Run) (place back : ℕ) → AreKept lines runs → back ≡ length lines - 1 - place → place < length lines → slice_get runs back ≡ None → ◌≡◌ {A = Run} (record { line = place; listed = all_registers }) (run_at (drop place lines) place)
run_missing lines runs place back kept is within got = of (list_any (λ l. is_head l.form) lines) refl where
  of : (some : Bool) → list_any (λ l. is_head l.form) lines ≡ some → ◌≡◌ {A = Run} (record { line = place; listed = all_registers }) (run_at (drop place lines) place)
  of true head = absurd (omega (arith, is, kept.enough head, within, beyond runs back got))
  of false none = sym (run_alone lines place place none within)
