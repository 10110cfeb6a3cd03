-- Where a frame of domain code that keeps the rules stands, and where it goes from there.
use Rattle.std.proofs.Common.{◌≡◌, refl, sym, ◌∙◌, ap, subst, ℕ, zero, suc, ◌+◌, ◌-◌, ◌<◌, ◌==◌, Bool, true, false, not, ◌&&◌, ◌||◌, List, [], ◌∷◌, length, drop, Option, Some, None, slice_get, arith, add-one, suc-add, zero-add, true≢false, unwrap_or, is_some}
use Rattle.std.specs.Prelude.{if◌then◌else◌}
use Rattle.std.specs.List.{list_any}
use Rattle.std.proofs.lemmas.Bool.{eq-eqb}
use Rattle.std.proofs.lemmas.Option.{slice_get_within}
use Rattle.rl_defs.specs.declared.bundle.Numbered.{Numbered}
use Rattle.rl_defs.specs.declared.code.Instr.{Instr}
use Rattle.rl_defs.specs.declared.code.HeadItem.{HeadItem}
use Rattle.rl_defs.specs.declared.code.DomainLine.{DomainLine}
use Rattle.rl_defs.specs.declared.code.DomainLine.TheVariants as line
use Rattle.rl_defs.specs.Words.{same_bytes}
use Rattle.rl_defs.specs.Domains.{Lines}
use Rattle.rl_defs.specs.DomainParts.{ends}
use Rattle.rl_defs.specs.DomainValue.{Domain}
use Rattle.rl_defs.specs.CodeNames.{Function, function_at, function_behind, find_label, find_label_from, label_in, label_at}
use Rattle.rl_defs.specs.CodeKinds.{Kinds, kinds_at, after_line, after_some, after, at_label, head_kinds}
use Rattle.rl_defs.specs.CodeRules.{Sentence, sentences, is_inside, is_reached, goes_on, goes_on_from, has_label, enters, enters_at, enters_line, has_kinds, has_cell, has_apart, enters_label, enters_head, names_label, declares, has_functions, has_method, ends_before}
use Rattle.rl_defs.specs.CodeNames.{label_of, place_of_label}
use Rattle.rl_defs.specs.Registers.{Registers, Stand, kept, through, behind_heads}
use Rattle.machine_defs.specs.Instructions.{behind_head, entered_line, jumped}
use Rattle.rl_defs.specs.CodeNames.{label_of_line}
use Rattle.rl_defs.specs.CodeRules.{KeepsRules}
use Rattle.rl_defs.specs.Registers.{Typing, Fits}
use Rattle.machine_defs.specs.CodeFits.{FitsStand}
use Rattle.machine_defs.specs.CodeLaws.{StandsAt}
use Rattle.rl_defs.proofs.Places.{drop_at}
use Rattle.machine_defs.proofs.CodeRegisters.{head_fine}
use Rattle.rl_defs.proofs.CodeBlocks.{some_line, inside_below, line_inside, head_inside}

-- every sentence of a list is kept
abbrev pub AllKept : List Sentence → Type 0
AllKept [] = Unit {0}
AllKept (s ∷ ss) = (s.1 ≡ true) × AllKept ss

abbrev pub broken : ℕ → Sentence → Bool
broken rule s = not s.1 && (s.0 == rule)

pub here_kept : (rule : ℕ) (b rest : Bool) → (((not b && (rule == rule)) || rest) ≡ true → ⊥) → b ≡ true
here_kept rule true rest none = refl
here_kept rule false rest none = absurd (none (rw (eq-eqb rule rule refl) refl))

or_more : (a b : Bool) → b ≡ true → (a || b) ≡ true
or_more true b e = refl
or_more false b e = e

all_kept : (ss : List Sentence) → ((rule : ℕ) → list_any (broken rule) ss ≡ true → ⊥) → AllKept ss
all_kept [] none = tt
all_kept (s ∷ ss) none =
    (here_kept s.0 s.1 (list_any (broken s.0) ss) (none s.0), all_kept ss (λ rule e. none rule (or_more (broken rule s) (list_any (broken rule) ss) e)))

-- what a line keeps of the rules, as far as it is used
pub record KeptLine (d : Domain) (n : ℕ) (form : DomainLine) : Type 0 where
  pub kinds : has_kinds d n (kinds_at d n) form ≡ true
  pub cell : has_cell d (kinds_at d n) form ≡ true
  pub apart : has_apart form ≡ true
  pub enters : enters_label d n (kinds_at d n) form ≡ true
  pub head : enters_head d n (kinds_at d n) form ≡ true
  pub labels : names_label d n form ≡ true
  pub declared : declares d form ≡ true
  pub functions : has_functions d form ≡ true
  pub method : has_method d (kinds_at d n) form ≡ true
  pub ends : ends_before d n form ≡ true

-- a line of a domain that keeps the rules
pub keeps_at : (d : Domain) (n number : ℕ) (form : DomainLine) → KeepsRules d → slice_get d.lines n ≡ Some (record { line = number; form = form }) → KeptLine d n form
keeps_at d n number form keeps here =
    let all = all_kept (sentences d n form) (λ rule e. keeps.rules number rule (record { place = n; form = form; here = here; broken = e })) in
    record {
      kinds = all.0;
      cell = all.1.0;
      apart = all.1.1.0;
      enters = all.1.1.1.1.1.0;
      head = all.1.1.1.1.1.1.0;
      labels = all.1.1.1.1.1.1.1.0;
      declared = all.1.1.1.1.1.1.1.1.1.1.0;
      functions = all.1.1.1.1.1.1.1.1.1.1.1.1.1.0;
      method = all.1.1.1.1.1.1.1.1.1.1.1.1.1.1.0;
      ends = all.1.1.1.1.1.1.1.1.1.1.1.1.1.1.1.1.1.0;
    }

pub kinds_next : (d : Domain) (n : ℕ) (l : Numbered DomainLine) → slice_get d.lines n ≡ Some l → kinds_at d (n + 1) ≡ after_line d (kinds_at d n) l.form
kinds_next d n l here = rw add-one (ap (after_some d (kinds_at d n)) here)

pub function_next : (lines : Lines) (n : ℕ) (l : Numbered DomainLine) → slice_get lines n ≡ Some l → function_at lines (n + 1) ≡ function_behind n (Some l) (function_at lines n)
function_next lines n l here = rw add-one (ap (λ o. function_behind n o (function_at lines n)) here)

pub reached_next : (d : Domain) (n : ℕ) (l : Numbered DomainLine) → slice_get d.lines n ≡ Some l → is_reached d (n + 1) ≡ goes_on l.form
reached_next d n l here = rw add-one (ap goes_on_from here)

-- a frame at the next line of a function, with registers of the kinds there
stands_on : (d : Domain) (types : Typing) (n : ℕ) (regs : Registers) (kinds : Kinds) → KeepsRules d → n < length d.lines → is_inside (function_at d.lines (n + 1)) ≡ true → is_reached d (n + 1) ≡ true → kinds_at d (n + 1) ≡ kinds → Fits types kinds regs → FitsStand types d (record { at = n + 1; regs = regs })
stands_on d types n regs kinds keeps lt inside reached is fit = record {
  inside = inside;
  reached = reached;
  within = inside_below d.lines (n + 1) keeps.ordered (omega arith) inside;
  regs = subst (λ k. Fits types k regs) (sym is) fit;
}

-- it stands at the next line behind an instruction from which control goes on
pub stands_next : (d : Domain) (types : Typing) (n number : ℕ) (i : Instr) (regs : Registers) → KeepsRules d → is_inside (function_at d.lines n) ≡ true → slice_get d.lines n ≡ Some (record { line = number; form = line.Code i }) → ends i ≡ false → Fits types (after d (kinds_at d n) i) regs → FitsStand types d (record { at = n + 1; regs = regs })
stands_next d types n number i regs keeps inside here goes fit =
    stands_on d types n regs (after d (kinds_at d n) i) keeps (slice_get_within d.lines n _ here)
    (ap is_inside (function_next d.lines n _ here) ∙ inside)
    (reached_next d n _ here ∙ ap not goes)
    (kinds_next d n _ here) fit

-- it stands behind a head that it enters
pub stands_behind : (d : Domain) (types : Typing) (n number : ℕ) (label : List ℕ) (items : List HeadItem) (kinds : Kinds) (regs : Registers) → KeepsRules d → slice_get d.lines n ≡ Some (record { line = number; form = line.Head label items }) → enters d items kinds ≡ true → Fits types kinds regs → FitsStand types d (record { at = n + 1; regs = kept items regs })
stands_behind d types n number label items kinds regs keeps here enter fit =
    stands_on d types n (kept items regs) (head_kinds d.tables items) keeps (slice_get_within d.lines n _ here)
    (ap is_inside (function_next d.lines n _ here) ∙ head_inside d.lines n number label items keeps.ordered here)
    (reached_next d n _ here)
    (kinds_next d n _ here) (head_fine types d items kinds regs enter fit)

pub or_other : (a b : Bool) → (not a || b) ≡ true → a ≡ true → b ≡ true
or_other true b h e = h
or_other false b h e = absurd (true≢false (sym e))

not_both : (a b : Bool) → (not a || not b) ≡ true → a ≡ true → b ≡ true → ⊥
not_both true true h p q = cc
not_both true false h p q = cc
not_both false b h p q = cc

-- a frame stands at an instruction, and fits
pub record FitsCode (types : Typing) (d : Domain) (s : Stand) : Type 0 where
  pub stand : FitsStand types d s
  pub instr : Instr
  pub at : StandsAt d instr s

pub comes_form : (d : Domain) (types : Typing) (n number : ℕ) (form : DomainLine) (regs : Registers) → KeepsRules d → FitsStand types d (record { at = n; regs = regs }) → slice_get d.lines n ≡ Some (record { line = number; form = form }) → ((regs' : Registers) → FitsStand types d (record { at = n + 1; regs = regs' }) → FitsCode types d (through (drop (n + 1) d.lines) (n + 1) regs')) → FitsCode types d (through (record { line = number; form = form } ∷ drop (n + 1) d.lines) n regs)
comes_form d types n number (line.Code i) regs keeps stand here further = record { stand = stand; instr = i; at = record { number = number; here = here } }
comes_form d types n number (line.Head label items) regs keeps stand here further =
    further (kept items regs)
    (stands_behind d types n number label items (kinds_at d n) regs keeps here (or_other (is_reached d n) (enters d items (kinds_at d n)) (keeps_at d n number (line.Head label items) keeps here).head stand.reached) stand.regs)
comes_form d types n number line.Close regs keeps stand here further =
    absurd (not_both (is_inside (function_at d.lines n)) (is_reached d n) (keeps_at d n number line.Close keeps here).ends stand.inside stand.reached)
comes_form d types n number form regs keeps stand here further = absurd (true≢false (sym (line_inside d.lines n _ keeps.ordered here stand.inside)))

comes : (d : Domain) (types : Typing) (k n : ℕ) (regs : Registers) → KeepsRules d → n + k ≡ length d.lines → FitsStand types d (record { at = n; regs = regs }) → FitsCode types d (through (drop n d.lines) n regs)
comes d types zero n regs keeps e stand = let within = stand.within in absurd (omega arith)
comes d types (suc k) n regs keeps e stand =
    let l = some_line d.lines n stand.within in
    subst (λ ls. FitsCode types d (through ls n regs)) (sym (drop_at d.lines n l.0 l.1))
    (comes_form d types n l.0.line l.0.form regs keeps stand l.1 (λ regs' next. comes d types k (n + 1) regs' keeps (omega arith) next))

-- control comes to an instruction
pub comes_to_code : (d : Domain) (types : Typing) (s : Stand) → KeepsRules d → FitsStand types d s → FitsCode types d (behind_heads d s)
comes_to_code d types s keeps stand =
    let within = stand.within in
    comes d types (length d.lines - s.at) s.at s.regs keeps (omega arith) stand

-- the head of a label
pub record HeadAt (lines : Lines) (p : ℕ) : Type 0 where
  pub number : ℕ
  pub label : List ℕ
  pub items : List HeadItem
  pub here : slice_get lines p ≡ Some (record { line = number; form = line.Head label items })

record Found (lines : Lines) (from p : ℕ) : Type 0 where
  behind : ℕ
  place : p ≡ from + behind
  head : HeadAt lines behind

later : (l : Numbered DomainLine) (lines : Lines) (from p : ℕ) → Found lines (from + 1) p → Found (l ∷ lines) from p
later l lines from p f =
    let place = f.place in
    record { behind = suc f.behind; place = omega arith; head = record { number = f.head.number; label = f.head.label; items = f.head.items; here = f.head.here } }

found_head : (label name : List ℕ) (items : List HeadItem) (number : ℕ) (lines : Lines) (from p : ℕ) (same : Bool) → (find_label label lines (from + 1) ≡ Some p → Found lines (from + 1) p) → (if same then Some from else find_label label lines (from + 1)) ≡ Some p → Found (record { line = number; form = line.Head name items } ∷ lines) from p
found_head label name items number lines from p true rest h =
    let at : from ≡ p = cc in
    record { behind = 0; place = omega arith; head = record { number = number; label = name; items = items; here = refl } }
found_head label name items number lines from p false rest h = later _ lines from p (rest h)

found_form : (label : List ℕ) (number : ℕ) (form : DomainLine) (lines : Lines) (from p : ℕ) → (find_label label lines (from + 1) ≡ Some p → Found lines (from + 1) p) → find_label_from label form from (find_label label lines (from + 1)) ≡ Some p → Found (record { line = number; form = form } ∷ lines) from p
found_form label number line.Close lines from p rest h = absurd (cc)
found_form label number (line.Head name items) lines from p rest h = found_head label name items number lines from p (same_bytes name label) rest h
found_form label number (line.Domain name has) lines from p rest h = later _ lines from p (rest h)
found_form label number (line.Words k) lines from p rest h = later _ lines from p (rest h)
found_form label number (line.Slot name ty) lines from p rest h = later _ lines from p (rest h)
found_form label number (line.Import name has) lines from p rest h = later _ lines from p (rest h)
found_form label number (line.Native body) lines from p rest h = later _ lines from p (rest h)
found_form label number (line.Function name) lines from p rest h = later _ lines from p (rest h)
found_form label number (line.Code i) lines from p rest h = later _ lines from p (rest h)

found : (label : List ℕ) (lines : Lines) (from p : ℕ) → find_label label lines from ≡ Some p → Found lines from p
found label [] from p h = absurd (cc)
found label (l ∷ lines) from p h = found_form label l.line l.form lines from p (found label lines (from + 1) p) h

slice_get-drop : (xs : Lines) (s j : ℕ) → slice_get (drop s xs) j ≡ slice_get xs (s + j)
slice_get-drop xs zero j = rw zero-add refl
slice_get-drop [] (suc s) j = refl
slice_get-drop (x ∷ xs) (suc s) j = rw suc-add (slice_get-drop xs s j)

label_head : (lines : Lines) (f : Option Function) (label : List ℕ) (p : ℕ) → label_in lines f label ≡ Some p → HeadAt lines p
label_head lines None label p h = absurd (cc)
label_head lines (Some f) label p h =
    let there = found label (drop f.first lines) f.first p h in
    record {
      number = there.head.number;
      label = there.head.label;
      items = there.head.items;
      here = ap (slice_get lines) there.place ∙ (sym (slice_get-drop lines f.first there.behind) ∙ there.head.here);
    }

-- a label stands for a head
pub place_head : (d : Domain) (n : ℕ) (label : Option (List ℕ)) (p : ℕ) → place_of_label d n label ≡ Some p → HeadAt d.lines p
place_head d n None p h = absurd (cc)
place_head d n (Some label) p h = label_head d.lines (function_at d.lines n) label p h

there_is : (o : Option ℕ) → is_some o ≡ true → (p : ℕ) × (o ≡ Some p)
there_is None h = absurd (cc)
there_is (Some p) h = (p, refl)

label_there : (d : Domain) (n : ℕ) (o : Option (List ℕ)) (label : List ℕ) → has_label d n o ≡ true → o ≡ Some label → (p : ℕ) × (place_of_label d n o ≡ Some p)
label_there d n None label h e = absurd (cc)
label_there d n (Some x) label h e = there_is (label_at d.lines n x) h

-- the label of an instruction is there
pub has_place : (d : Domain) (n number : ℕ) (i : Instr) (label : List ℕ) → KeepsRules d → slice_get d.lines n ≡ Some (record { line = number; form = line.Code i }) → label_of i ≡ Some label → (p : ℕ) × (place_of_label d n (label_of i) ≡ Some p)
has_place d n number i label keeps here is =
    label_there d n (label_of i) label (keeps_at d n number (line.Code i) keeps here).labels is

-- it stands behind the head of its label, once control goes there
pub stands_label : (d : Domain) (types : Typing) (n number p : ℕ) (i : Instr) (regs : Registers) → KeepsRules d → slice_get d.lines n ≡ Some (record { line = number; form = line.Code i }) → place_of_label d n (label_of i) ≡ Some p → Fits types (at_label (kinds_at d n) i) regs → FitsStand types d (behind_head d p regs)
stands_label d types n number p i regs keeps here at fit =
    let head = place_head d n (label_of i) p at in
    let enter : enters d head.items (at_label (kinds_at d n) i) ≡ true =
    sym (ap (λ o. enters_line d o (at_label (kinds_at d n) i)) head.here) ∙ (sym (ap (λ o. enters_at d o (at_label (kinds_at d n) i)) at) ∙ (keeps_at d n number (line.Code i) keeps here).enters) in
    subst (λ o. FitsStand types d (entered_line o p regs)) (sym head.here)
    (stands_behind d types p head.number head.label head.items (at_label (kinds_at d n) i) regs keeps head.here enter fit)

pub jumps_to : (d : Domain) (n number p : ℕ) (i : Instr) (regs : Registers) → slice_get d.lines n ≡ Some (record { line = number; form = line.Code i }) → place_of_label d n (label_of i) ≡ Some p → jumped d n regs ≡ behind_head d p regs
jumps_to d n number p i regs here at =
    ap (λ o. behind_head d (unwrap_or (place_of_label d n (label_of_line o)) 0) regs) here ∙ ap (λ o. behind_head d (unwrap_or o 0) regs) at

-- it stands where it jumps to
pub stands_jumped : (d : Domain) (types : Typing) (n number : ℕ) (i : Instr) (label : List ℕ) (regs : Registers) → KeepsRules d → slice_get d.lines n ≡ Some (record { line = number; form = line.Code i }) → label_of i ≡ Some label → Fits types (at_label (kinds_at d n) i) regs → FitsStand types d (jumped d n regs)
stands_jumped d types n number i label regs keeps here is fit =
    let p = has_place d n number i label keeps here is in
    subst (λ s. FitsStand types d s) (sym (jumps_to d n number p.0 i regs here p.1)) (stands_label d types n number p.0 i regs keeps here p.1 fit)
