-- Heads and jumps leave a frame its own objects.
use Rattle.std.proofs.Common.{◌≡◌, refl, sym, ◌∙◌, ap, subst, ℕ, zero, suc, ◌+◌, ◌-◌, ◌<◌, ◌==◌, Bool, true, false, not, ◌||◌, List, [], ◌∷◌, length, map, drop, Option, Some, None, slice_get, arith, zero-add, inl, inr}
use Rattle.std.specs.Prelude.{slice_set, if◌then◌else◌}
use Rattle.std.specs.List.{slice_index_or}
use Rattle.std.proofs.lemmas.Bool.{cases_eq, ne_eqb, not-true, or_parts, eqb-false}
use Rattle.std.proofs.lemmas.List.{get_or-set_same, get_or-set_other}
use Rattle.rl_defs.specs.declared.values.Value.{Value}
use Rattle.rl_defs.specs.declared.code.Register.{Register}
use Rattle.rl_defs.specs.declared.code.RegKind.{RegKind}
use Rattle.rl_defs.specs.declared.code.RegKind.TheVariants as held
use Rattle.rl_defs.specs.declared.code.HeadItem.{HeadItem}
use Rattle.rl_defs.specs.declared.code.Instr.{Instr}
use Rattle.rl_defs.specs.declared.code.DomainLine.{DomainLine}
use Rattle.rl_defs.specs.declared.code.DomainLine.TheVariants as line
use Rattle.rl_defs.specs.declared.tables.Tables.{Tables}
use Rattle.rl_defs.specs.DomainValue.{Domain}
use Rattle.machine_defs.specs.Loans.{count}
use Rattle.rl_defs.specs.CodeKinds.{Kinds, no_kinds, kinds_at, kind_in, with_kind, is_own, Write, put_all, listed, listed_kind, head_kinds, after, at_label}
use Rattle.rl_defs.specs.CodeRules.{same_kind, owns_nothing, without, enters, is_reached, enters_at, enters_line}
use Rattle.rl_defs.specs.CodeNames.{label_of, place_of_label}
use Rattle.rl_defs.specs.CodeRules.{KeepsRules}
use Rattle.rl_defs.specs.Registers.{Typing, Fits}
use Rattle.machine_defs.specs.CodeFits.{FitsStand}
use Rattle.rl_defs.specs.Registers.{Registers, Stand, is_listed, kept, through, behind_heads}
use Rattle.machine_defs.specs.Instructions.{behind_head, entered_line, jumped}
use Rattle.rl_defs.proofs.Places.{drop_at}
use Rattle.machine_defs.proofs.CodeRegisters.{and_left, and_right, same_is, keep_at, length-no_kinds, all_same}
use Rattle.rl_defs.proofs.CodeBlocks.{some_line}
use Rattle.machine_defs.proofs.CodeStands.{keeps_at, kinds_next, stands_behind, has_place, place_head, jumps_to, or_other}
use Rattle.machine_laws.specs.Registers.{own}
use Rattle.machine_laws.proofs.OwnCounts.{own_kept}
use Rattle.machine_laws.proofs.OwnMarks.{mark, Marked, mark_none, spare_in}
use Rattle.std.proofs.Math.ListN.{length-set}

pub index_other : {A : Type 0} (xs : List A) (a r : ℕ) (x other : A) → (a ≡ r → ⊥) → slice_index_or (slice_set xs a x) r other ≡ slice_index_or xs r other
index_other xs a r x other ne = get_or-set_other xs a r x other (λ e. ne (sym e))

abbrev registers : List HeadItem → List Register
registers items = map (λ item. item.register) items

-- a kind that is put stays as it is where each kind that is put is the register's own
set_agrees : (kinds base : Kinds) (a r : ℕ) (k : RegKind) → k ≡ slice_index_or kinds a held.Empty → a < length base → slice_index_or base r held.Empty ≡ slice_index_or kinds r held.Empty → slice_index_or (slice_set base a k) r held.Empty ≡ slice_index_or kinds r held.Empty
set_agrees kinds base a r k is lt e = elim (cases_eq a r) [
  | inl same ↦ ap (λ n. slice_index_or (slice_set base a k) n held.Empty) (sym same) ∙ (get_or-set_same base a k held.Empty lt ∙ (is ∙ ap (λ n. slice_index_or kinds n held.Empty) same))
  | inr ne ↦ index_other base a r k held.Empty ne ∙ e
]

put_agrees : (kinds : Kinds) (ws : List Write) (base : Kinds) (r : ℕ) → length base ≡ 32 → all_same kinds ws ≡ true → slice_index_or base r held.Empty ≡ slice_index_or kinds r held.Empty → slice_index_or (put_all ws base) r held.Empty ≡ slice_index_or kinds r held.Empty
put_agrees kinds [] base r wide same e = e
put_agrees kinds (w ∷ ws) base r wide same e =
    let below = w.register.below in
    put_agrees kinds ws (with_kind base w.register w.kind) r (length-set base w.register.number w.kind ∙ wide) (and_right (same_kind w.kind (kind_in kinds w.register)) (all_same kinds ws) same)
    (set_agrees kinds base w.register.number r w.kind (same_is w.kind (kind_in kinds w.register) (and_left (same_kind w.kind (kind_in kinds w.register)) (all_same kinds ws) same)) (omega arith) e)

put_listed : (kinds : Kinds) (tables : Tables) (items : List HeadItem) (base : Kinds) (r : ℕ) → length base ≡ 32 → all_same kinds (listed tables items) ≡ true → is_listed r (registers items) ≡ true → slice_index_or (put_all (listed tables items) base) r held.Empty ≡ slice_index_or kinds r held.Empty
put_listed kinds tables [] base r wide same is = absurd (cc)
put_listed kinds tables (x ∷ items) base r wide same is =
    let below = x.register.below in
    let k = listed_kind tables x.kind in
    let next = with_kind base x.register k in
    let width : length next ≡ 32 = length-set base x.register.number k ∙ wide in
    let rest = and_right (same_kind k (kind_in kinds x.register)) (all_same kinds (listed tables items)) same in
    let here : k ≡ kind_in kinds x.register = same_is k (kind_in kinds x.register) (and_left (same_kind k (kind_in kinds x.register)) (all_same kinds (listed tables items)) same) in
    elim (cases_eq x.register.number r) [
      | inl e ↦
          put_agrees kinds (listed tables items) next r width rest
          (ap (λ n. slice_index_or next n held.Empty) (sym e) ∙ (get_or-set_same base x.register.number k held.Empty (omega arith) ∙ (here ∙ ap (λ n. slice_index_or kinds n held.Empty) e)))
      | inr ne ↦
          put_listed kinds tables items next r width rest (sym (ap (λ b. b || is_listed r (registers items)) (ne_eqb x.register.number r ne)) ∙ is)
    ]

pub none_own : (kinds : Kinds) (r : ℕ) → owns_nothing kinds ≡ true → is_own (slice_index_or kinds r held.Empty) ≡ false
none_own [] r o = refl
none_own (k ∷ kinds) zero o = not-true (is_own k) (and_left (not (is_own k)) (owns_nothing kinds) o)
none_own (k ∷ kinds) (suc r) o = none_own kinds r (and_right (not (is_own k)) (owns_nothing kinds) o)

without_at : (rs : List Register) (kinds : Kinds) (r : ℕ) → is_listed r rs ≡ false → slice_index_or (without rs kinds) r held.Empty ≡ slice_index_or kinds r held.Empty
without_at [] kinds r is = refl
without_at (q ∷ rs) kinds r is =
    without_at rs (with_kind kinds q held.Empty) r (or_parts (q.number == r) (is_listed r rs) is).1
    ∙ index_other kinds q.number r held.Empty held.Empty (eqb-false q.number r (or_parts (q.number == r) (is_listed r rs) is).0)

-- what a head makes of registers
pub record Onward (lent : List ℕ) (d : Domain) (regs : Registers) (t : Stand) : Type 0 where
  pub marked : Marked lent (kinds_at d t.at) t.regs
  pub same : (p : ℕ) → count p (own lent t.regs) ≡ count p (own lent regs)

kept_mark : (lent : List ℕ) (k l : RegKind) (v : Option Value) (b : Bool) → (b ≡ true → k ≡ l) → mark lent l v ≡ true → mark lent k (if b then v else None) ≡ true
kept_mark lent k l v true e m = ap (λ x. mark lent x v) (e refl) ∙ m
kept_mark lent k l v false e m = mark_none lent k

pub head_marked : (lent : List ℕ) (d : Domain) (items : List HeadItem) (kinds : Kinds) (regs : Registers) → enters d items kinds ≡ true → Marked lent kinds regs → Marked lent (head_kinds d.tables items) (kept items regs)
head_marked lent d items kinds regs enter marked r =
    let same = and_left (all_same kinds (listed d.tables items)) (owns_nothing (without (registers items) kinds)) enter in
    ap (mark lent (slice_index_or (head_kinds d.tables items) r held.Empty)) (keep_at regs 0 r (registers items) ∙ ap (λ m. if is_listed m (registers items) then slice_index_or regs r None else None) (zero-add r))
    ∙ kept_mark lent (slice_index_or (head_kinds d.tables items) r held.Empty) (slice_index_or kinds r held.Empty) (slice_index_or regs r None) (is_listed r (registers items))
    (put_listed kinds d.tables items no_kinds r length-no_kinds same) (marked r)

pub head_same : (types : Typing) (lent : List ℕ) (d : Domain) (items : List HeadItem) (kinds : Kinds) (regs : Registers) (p : ℕ) → enters d items kinds ≡ true → Fits types kinds regs → Marked lent kinds regs → count p (own lent (kept items regs)) ≡ count p (own lent regs)
head_same types lent d items kinds regs p enter fit marked =
    let nothing = and_right (all_same kinds (listed d.tables items)) (owns_nothing (without (registers items) kinds)) enter in
    own_kept lent p 0 (registers items) regs (λ r e.
    spare_in types lent kinds regs p r fit marked
    (sym (ap is_own (without_at (registers items) kinds r (ap (λ m. is_listed m (registers items)) (sym (zero-add r)) ∙ e)))
    ∙ none_own (without (registers items) kinds) r nothing))

-- behind a head that is entered
pub behind_own : (types : Typing) (lent : List ℕ) (d : Domain) (n number : ℕ) (label : List ℕ) (items : List HeadItem) (kinds : Kinds) (regs : Registers) → slice_get d.lines n ≡ Some (record { line = number; form = line.Head label items }) → enters d items kinds ≡ true → Fits types kinds regs → Marked lent kinds regs → Onward lent d regs (record { at = n + 1; regs = kept items regs })
behind_own types lent d n number label items kinds regs here enter fit marked = record {
  marked = subst (λ k. Marked lent k (kept items regs)) (sym (kinds_next d n _ here)) (head_marked lent d items kinds regs enter marked);
  same = λ p. head_same types lent d items kinds regs p enter fit marked;
}

stays_own : (lent : List ℕ) (d : Domain) (s : Stand) → Marked lent (kinds_at d s.at) s.regs → Onward lent d s.regs s
stays_own lent d s marked = record { marked = marked; same = λ p. refl }

through_own_form : (d : Domain) (types : Typing) (lent : List ℕ) (n number : ℕ) (form : DomainLine) (regs : Registers) → KeepsRules d → FitsStand types d (record { at = n; regs = regs }) → Marked lent (kinds_at d n) regs → slice_get d.lines n ≡ Some (record { line = number; form = form }) → ((regs' : Registers) → FitsStand types d (record { at = n + 1; regs = regs' }) → Marked lent (kinds_at d (n + 1)) regs' → Onward lent d regs' (through (drop (n + 1) d.lines) (n + 1) regs')) → Onward lent d regs (through (record { line = number; form = form } ∷ drop (n + 1) d.lines) n regs)
through_own_form d types lent n number (line.Head label items) regs keeps stand marked here further =
    let enter = or_other (is_reached d n) (enters d items (kinds_at d n)) (keeps_at d n number (line.Head label items) keeps here).head stand.reached in
    let behind = behind_own types lent d n number label items (kinds_at d n) regs here enter stand.regs marked in
    let next = further (kept items regs) (stands_behind d types n number label items (kinds_at d n) regs keeps here enter stand.regs) behind.marked in
    record { marked = next.marked; same = λ p. next.same p ∙ behind.same p }
through_own_form d types lent n number form regs keeps stand marked here further = stays_own lent d (record { at = n; regs = regs }) marked

through_own : (d : Domain) (types : Typing) (lent : List ℕ) (k n : ℕ) (regs : Registers) → KeepsRules d → n + k ≡ length d.lines → FitsStand types d (record { at = n; regs = regs }) → Marked lent (kinds_at d n) regs → Onward lent d regs (through (drop n d.lines) n regs)
through_own d types lent zero n regs keeps e stand marked = let within = stand.within in absurd (omega arith)
through_own d types lent (suc k) n regs keeps e stand marked =
    let l = some_line d.lines n stand.within in
    subst (λ ls. Onward lent d regs (through ls n regs)) (sym (drop_at d.lines n l.0 l.1))
    (through_own_form d types lent n l.0.line l.0.form regs keeps stand marked l.1 (λ regs' next marks. through_own d types lent k (n + 1) regs' keeps (omega arith) next marks))

-- control that goes through heads
pub heads_own : (d : Domain) (types : Typing) (lent : List ℕ) (s : Stand) → KeepsRules d → FitsStand types d s → Marked lent (kinds_at d s.at) s.regs → Onward lent d s.regs (behind_heads d s)
heads_own d types lent s keeps stand marked =
    let within = stand.within in
    through_own d types lent (length d.lines - s.at) s.at s.regs keeps (omega arith) stand marked

-- control that jumps
label_own : (d : Domain) (types : Typing) (lent : List ℕ) (n number p : ℕ) (i : Instr) (regs : Registers) → KeepsRules d → slice_get d.lines n ≡ Some (record { line = number; form = line.Code i }) → place_of_label d n (label_of i) ≡ Some p → Fits types (at_label (kinds_at d n) i) regs → Marked lent (at_label (kinds_at d n) i) regs → Onward lent d regs (behind_head d p regs)
label_own d types lent n number p i regs keeps here at fit marked =
    let head = place_head d n (label_of i) p at in
    let enter : enters d head.items (at_label (kinds_at d n) i) ≡ true =
    sym (ap (λ o. enters_line d o (at_label (kinds_at d n) i)) head.here) ∙ (sym (ap (λ o. enters_at d o (at_label (kinds_at d n) i)) at) ∙ (keeps_at d n number (line.Code i) keeps here).enters) in
    subst (λ o. Onward lent d regs (entered_line o p regs)) (sym head.here)
    (behind_own types lent d p head.number head.label head.items (at_label (kinds_at d n) i) regs head.here enter fit marked)

pub jumped_own : (d : Domain) (types : Typing) (lent : List ℕ) (n number : ℕ) (i : Instr) (label : List ℕ) (regs : Registers) → KeepsRules d → slice_get d.lines n ≡ Some (record { line = number; form = line.Code i }) → label_of i ≡ Some label → Fits types (at_label (kinds_at d n) i) regs → Marked lent (at_label (kinds_at d n) i) regs → Onward lent d regs (jumped d n regs)
jumped_own d types lent n number i label regs keeps here is fit marked =
    let p = has_place d n number i label keeps here is in
    subst (λ s. Onward lent d regs s) (sym (jumps_to d n number p.0 i regs here p.1)) (label_own d types lent n number p.0 i regs keeps here p.1 fit marked)

-- control that goes on at the next line
pub next_own : (d : Domain) (lent : List ℕ) (n number : ℕ) (i : Instr) (regs : Registers) → slice_get d.lines n ≡ Some (record { line = number; form = line.Code i }) → Marked lent (after d (kinds_at d n) i) regs → Marked lent (kinds_at d (n + 1)) regs
next_own d lent n number i regs here marked = subst (λ k. Marked lent k regs) (sym (kinds_next d n _ here)) marked
