-- Control goes through the heads at a place at once.
use Rattle.std.proofs.Common.{◌≡◌, refl, ap, sym, ◌∙◌, ℕ, ◌+◌, ◌≤◌, ◌&&◌, Bool, true, false, List, [], ◌∷◌, length, map, Option, None, if◌then◌else◌, arith, bit_and}
use Rattle.rl_defs.specs.declared.values.Value.{Value}
use Rattle.rl_defs.specs.declared.code.HeadItem.{HeadItem}
use Rattle.rl_defs.specs.declared.code.DomainLine.{DomainLine}
use Rattle.rl_defs.specs.declared.code.DomainLine.TheVariants as line
use Rattle.rl_defs.specs.Domains.{Lines}
use Rattle.rl_defs.specs.Registers.{Registers, Stand, keep_from, kept, through_form, through}
use Rattle.domain_checker.specs.declared.ways.Run.{Run}
use Rattle.domain_checker.specs.Heads.{is_in, all_registers, with_items, run_form, run_at, keep_in}
use Rattle.domain_checker.proofs.SetLaws.{in_both, in_all, in_listed}

pub keep_items : (k : ℕ) (items : List HeadItem) (regs : Registers) → keep_from k (map (λ item. item.register) items) regs ≡ keep_in k (with_items 0 items) regs
keep_items k items [] = refl
keep_items k items (v ∷ regs) =
    ap (λ b. (if b then v else None) ∷ keep_from (k + 1) (map (λ item. item.register) items) regs) (sym (in_listed items k))
    ∙ ap (λ rs. (if is_in (with_items 0 items) k then v else None) ∷ rs) (keep_items (k + 1) items regs)

twice : (a b : Bool) (v : Option Value) → (if a then (if b then v else None) else None) ≡ (if a && b then v else None)
twice true b v = refl
twice false b v = refl

keep_twice : (k a b : ℕ) (regs : Registers) → keep_in k a (keep_in k b regs) ≡ keep_in k (bit_and a b) regs
keep_twice k a b [] = refl
keep_twice k a b (v ∷ regs) =
    ap (λ w. w ∷ keep_in (k + 1) a (keep_in (k + 1) b regs)) (twice (is_in a k) (is_in b k) v ∙ ap (λ t. if t then v else None) (sym (in_both a b k)))
    ∙ ap (λ rs. (if is_in (bit_and a b) k then v else None) ∷ rs) (keep_twice (k + 1) a b regs)

keep_all : (k : ℕ) (regs : Registers) → k + length regs ≤ 32 → keep_in k all_registers regs ≡ regs
keep_all k [] few = refl
keep_all k (v ∷ regs) few =
    ap (λ b. (if b then v else None) ∷ keep_in (k + 1) all_registers regs) (in_all k (omega arith))
    ∙ ap (λ rs. v ∷ rs) (keep_all (k + 1) regs (omega arith))

pub length-keep_in : (k set : ℕ) (regs : Registers) → length (keep_in k set regs) ≡ length regs
length-keep_in k set [] = refl
length-keep_in k set (v ∷ regs) = omega (arith, length-keep_in (k + 1) set regs)

-- what a run says of where control goes, and of the registers there
abbrev Follows : Run → (Registers → Stand) → Type 0
Follows run further = (regs : Registers) → length regs ≡ 32 → further regs ≡ record { at = run.line; regs = keep_in 0 run.listed regs }

stays : (at : ℕ) (regs : Registers) → length regs ≡ 32 → ◌≡◌ {A = Stand} (record { at = at; regs = regs }) (record { at = at; regs = keep_in 0 all_registers regs })
stays at regs all = ap (λ rs. record { at = at; regs = rs }) (sym (keep_all 0 regs (omega arith)))

passes : (items : List HeadItem) (next : Run) (further : Registers → Stand) → Follows next further → (regs : Registers) → length regs ≡ 32 → further (kept items regs) ≡ record { at = next.line; regs = keep_in 0 (bit_and next.listed (with_items 0 items)) regs }
passes items next further follows regs all =
    ap further (keep_items 0 items regs)
    ∙ (follows (keep_in 0 (with_items 0 items) regs) (length-keep_in 0 (with_items 0 items) regs ∙ all)
    ∙ ap (λ rs. record { at = next.line; regs = rs }) (keep_twice 0 next.listed (with_items 0 items) regs))

through_line : (form : DomainLine) (at : ℕ) (next : Run) (further : Registers → Stand) → Follows next further → Follows (run_form form at next) (λ regs. through_form form (record { at = at; regs = regs }) further)
through_line (line.Domain name has) at next further follows regs all = stays at regs all
through_line (line.Words n) at next further follows regs all = stays at regs all
through_line (line.Slot name ty) at next further follows regs all = stays at regs all
through_line (line.Import name has) at next further follows regs all = stays at regs all
through_line (line.Native body) at next further follows regs all = stays at regs all
through_line (line.Function name) at next further follows regs all = stays at regs all
through_line (line.Head label items) at next further follows regs all = passes items next further follows regs all
through_line (line.Code i) at next further follows regs all = stays at regs all
through_line line.Close at next further follows regs all = stays at regs all

pub through_run : (ls : Lines) (at : ℕ) → Follows (run_at ls at) (through ls at)
through_run [] at regs all = stays at regs all
through_run (l ∷ ls) at regs all = through_line l.form at (run_at ls (at + 1)) (through ls (at + 1)) (through_run ls (at + 1)) regs all
