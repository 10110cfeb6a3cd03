-- A frame stays in the function that its call began with.
use Rattle.std.proofs.Common.{◌≡◌, refl, sym, ◌∙◌, ap, subst, ℕ, zero, suc, ◌+◌, ◌-◌, ◌<◌, ◌≤◌, Bool, true, false, List, [], ◌∷◌, length, drop, Option, Some, None, slice_get, arith, true≢false, add-one}
use Rattle.std.specs.Prelude.{if◌then◌else◌}
use Rattle.std.specs.List.{position_or_len}
use Rattle.std.proofs.lemmas.Option.{slice_get_within}
use Rattle.rl_defs.specs.declared.bundle.Numbered.{Numbered}
use Rattle.machine_defs.specs.declared.values.Arg.{Arg}
use Rattle.machine_defs.specs.declared.frame.Action.{Action}
use Rattle.machine_defs.specs.declared.frame.Answer.{Answer}
use Rattle.machine_defs.specs.declared.frame.Answer.TheVariants as answer
use Rattle.rl_defs.specs.declared.code.Instr.{Instr}
use Rattle.rl_defs.specs.declared.code.DomainLine.{DomainLine}
use Rattle.rl_defs.specs.declared.code.DomainLine.TheVariants as line
use Rattle.rl_defs.specs.Words.{same_bytes}
use Rattle.machine_defs.specs.Sight.{Sight}
use Rattle.rl_defs.specs.DomainValue.{Domain}
use Rattle.rl_defs.specs.Domains.{Lines, begins_function}
use Rattle.rl_defs.specs.CodeNames.{Function, function_at, function_behind, function_behind_form, find_label, find_label_from, label_in}
use Rattle.rl_defs.specs.CodeKinds.{kinds_at}
use Rattle.rl_defs.specs.CodeRules.{is_inside}
use Rattle.rl_defs.specs.CodeNames.{label_of, place_of_label}
use Rattle.rl_defs.specs.DomainParts.{IsOneDomain}
use Rattle.rl_defs.specs.CodeRules.{KeepsRules}
use Rattle.rl_defs.specs.Registers.{Typing}
use Rattle.machine_defs.specs.CodeFits.{FitsStand, FitsSight, FitsAnswer}
use Rattle.machine_defs.specs.Instructions.{answered, after_answer}
use Rattle.machine_defs.specs.CodeLaws.{StandsAt, FitsArguments}
use Rattle.rl_defs.specs.CodeNames.{entry_of, entry_at}
use Rattle.machine_defs.specs.Frames.{instr_at}
use Rattle.rl_defs.specs.Registers.{Registers, Stand, through, through_form, kept, behind_heads}
use Rattle.machine_defs.specs.Instructions.{entered_line, jumped, Outcome, Works, Jumps, Would, Stuck, Settled, Nowhere, Before, go_on, work, settle}
use Rattle.rl_defs.proofs.Places.{drop_at}
use Rattle.rl_defs.proofs.CodeBlocks.{some_line, inside_below, line_inside, stands_inside}
use Rattle.machine_defs.proofs.CodeSafe.{Safe, safe_at}
use Rattle.machine_defs.proofs.CodeStands.{function_next, comes_to_code, stands_next, stands_jumped, has_place, place_head, jumps_to}
use Rattle.machine_defs.proofs.CodeAnswers.{failed_label}
use Rattle.machine_laws.proofs.OwnEntries.{passes_first}
use Rattle.machine_laws.proofs.Contents.{same_list}
use Rattle.machine_laws.proofs.Parts.{instr_of_line}

-- the instruction of a stand is the one at its line
pub instr_here : (d : Domain) (i : Instr) (s : Stand) → StandsAt d i s → instr_at d s.at ≡ Some i
instr_here d i s at = ap instr_of_line at.here

-- a function is open from its first line on
abbrev Begins : Lines → Function → Type 0
Begins lines f = (function_at lines f.first ≡ Some f) × (f.first ≤ length lines)

first_form : (lines : Lines) (n : ℕ) (form : DomainLine) (before : Option Function) (f : Function) → n < length lines → function_at lines (suc n) ≡ function_behind_form n form before → (before ≡ Some f → Begins lines f) → function_behind_form n form before ≡ Some f → Begins lines f
first_form lines n (line.Function name) before f lt is earlier e =
    let first : n + 1 ≡ f.first = cc in
    (ap (function_at lines) (sym first) ∙ (ap (function_at lines) (add-one n) ∙ (is ∙ e)), omega arith)
first_form lines n line.Close before f lt is earlier e = absurd (cc)
first_form lines n other before f lt is earlier e = earlier e

first_line : (lines : Lines) (n : ℕ) (l : Option (Numbered DomainLine)) (f : Function) → slice_get lines n ≡ l → (function_at lines n ≡ Some f → Begins lines f) → function_behind n l (function_at lines n) ≡ Some f → Begins lines f
first_line lines n None f here earlier e = earlier e
first_line lines n (Some l) f here earlier e = first_form lines n l.form (function_at lines n) f (slice_get_within lines n l here) (ap (λ o. function_behind n o (function_at lines n)) here) earlier e

function_first : (lines : Lines) (n : ℕ) (f : Function) → function_at lines n ≡ Some f → Begins lines f
function_first lines zero f e = absurd (cc)
function_first lines (suc n) f e = first_line lines n (slice_get lines n) f refl (function_first lines n f) e

-- a label that is found from a line of a function is in that function
label_form : (lines : Lines) (q number p : ℕ) (label : List ℕ) (form : DomainLine) (f : Function) (further : Option ℕ) → function_at lines q ≡ Some f → stands_inside form ≡ true → (function_behind_form q form (Some f) ≡ Some f → further ≡ Some p → function_at lines p ≡ Some f) → find_label_from label form q further ≡ Some p → function_at lines p ≡ Some f
label_form lines q number p label (line.Head name items) f further is inside later e = chosen (same_bytes name label) further e (later refl) where
  chosen : (b : Bool) (o : Option ℕ) → (if b then Some q else o) ≡ Some p → (o ≡ Some p → function_at lines p ≡ Some f) → function_at lines p ≡ Some f
  chosen true o e' rest = let at : q ≡ p = cc in ap (function_at lines) (sym at) ∙ is
  chosen false o e' rest = rest e'
label_form lines q number p label (line.Code i) f further is inside later e = later refl e
label_form lines q number p label line.Close f further is inside later e = absurd (cc)
label_form lines q number p label form f further is inside later e = absurd (true≢false (sym inside))

label_function : (lines : Lines) (k q p : ℕ) (label : List ℕ) (f : Function) → IsOneDomain lines → q + k ≡ length lines → function_at lines q ≡ Some f → find_label label (drop q lines) q ≡ Some p → function_at lines p ≡ Some f
label_function lines zero q p label f one e is found = let below = inside_below lines q one (omega arith) (ap is_inside is) in absurd (omega arith)
label_function lines (suc k) q p label f one e is found =
    let l = some_line lines q (omega arith) in
    label_form lines q l.0.line p label l.0.form f (find_label label (drop (q + 1) lines) (q + 1)) is (line_inside lines q l.0 one l.1 (ap is_inside is))
    (λ stays further. label_function lines k (q + 1) p label f one (omega arith) (function_next lines q l.0 l.1 ∙ (ap (function_behind q (Some l.0)) is ∙ stays)) further)
    (sym (ap (λ ls. find_label label ls q) (drop_at lines q l.0 l.1)) ∙ found)

function_there : (o : Option Function) → is_inside o ≡ true → (f : Function) × (o ≡ Some f)
function_there None e = absurd (cc)
function_there (Some f) e = (f, refl)

place_function : (d : Domain) (n p : ℕ) (label : Option (List ℕ)) → IsOneDomain d.lines → is_inside (function_at d.lines n) ≡ true → place_of_label d n label ≡ Some p → function_at d.lines p ≡ function_at d.lines n
place_function d n p None one inside e = absurd (cc)
place_function d n p (Some label) one inside e =
    let f = function_there (function_at d.lines n) inside in
    let first = function_first d.lines n f.0 f.1 in
    let rest : f.0.first + (length d.lines - f.0.first) ≡ length d.lines = omega (arith, first.1) in
    label_function d.lines (length d.lines - f.0.first) f.0.first p label f.0 one rest first.0 (sym (ap (λ o. label_in d.lines o label) f.1) ∙ e) ∙ sym f.1

-- control that jumps, or goes through heads
pub jumped_function : (d : Domain) (n number : ℕ) (i : Instr) (label : List ℕ) (regs : Registers) → KeepsRules d → is_inside (function_at d.lines n) ≡ true → slice_get d.lines n ≡ Some (record { line = number; form = line.Code i }) → label_of i ≡ Some label → function_at d.lines (jumped d n regs).at ≡ function_at d.lines n
jumped_function d n number i label regs keeps inside here is =
    let p = has_place d n number i label keeps here is in
    let head = place_head d n (label_of i) p.0 p.1 in
    ap (λ (s : Stand). function_at d.lines s.at) (jumps_to d n number p.0 i regs here p.1 ∙ ap (λ o. entered_line o p.0 regs) head.here)
    ∙ (function_next d.lines p.0 _ head.here ∙ place_function d n p.0 (label_of i) keeps.ordered inside p.1)

drop_first : (xs ls : Lines) (l : Numbered DomainLine) (n : ℕ) → l ∷ ls ≡ drop n xs → (slice_get xs n ≡ Some l) × (ls ≡ drop (suc n) xs)
drop_first [] ls l zero e = absurd (cc)
drop_first [] ls l (suc n) e = absurd (cc)
drop_first (x ∷ xs) ls l zero e = (cc, cc)
drop_first (x ∷ xs) ls l (suc n) e = drop_first xs ls l n e

through_function_form : (lines : Lines) (n : ℕ) (l : Numbered DomainLine) (form : DomainLine) (regs : Registers) (further : Registers → Stand) → l.form ≡ form → slice_get lines n ≡ Some l → ((new : Registers) → function_at lines (further new).at ≡ function_at lines (n + 1)) → function_at lines (through_form form (record { at = n; regs = regs }) further).at ≡ function_at lines n
through_function_form lines n l (line.Head label items) regs further is here next =
    next (kept items regs) ∙ (function_next lines n l here ∙ ap (λ form. function_behind_form n form (function_at lines n)) is)
through_function_form lines n l form regs further is here next = refl

through_function : (lines ls : Lines) (n : ℕ) (regs : Registers) → ls ≡ drop n lines → function_at lines (through ls n regs).at ≡ function_at lines n
through_function lines [] n regs e = refl
through_function lines (l ∷ ls) n regs e =
    let first = drop_first lines ls l n e in
    through_function_form lines n l l.form regs (through ls (n + 1)) refl first.0 (λ new. through_function lines ls (n + 1) new (first.1 ∙ ap (λ m. drop m lines) (sym (add-one n))))

pub heads_function : (d : Domain) (s : Stand) → function_at d.lines (behind_heads d s).at ≡ function_at d.lines s.at
heads_function d s = through_function d.lines (drop s.at d.lines) s.at s.regs refl

-- register work stays in its function
abbrev EndsIn : Domain → Option Function → Settled → Type 0
EndsIn d f Nowhere = Unit {0}
EndsIn d f (Before act rest stand) = function_at d.lines stand.at ≡ f

onward_function : (d : Domain) (types : Typing) (sight : Sight) (live fuel : ℕ) (s : Stand) (i : Instr) (o : Outcome) → KeepsRules d → FitsStand types d s → (at : StandsAt d i s) → Safe types d (kinds_at d s.at) i o → ((next : Stand) → FitsStand types d next → EndsIn d (function_at d.lines next.at) (settle d sight live fuel next)) → EndsIn d (function_at d.lines s.at) (go_on d o (settle d sight live fuel) (suc fuel) s)
onward_function d types sight live fuel s i (Works regs) keeps stand at safely further =
    let next : Stand = record { at = s.at + 1; regs = regs } in
    subst (λ f. EndsIn d f (settle d sight live fuel next)) (function_next d.lines s.at _ at.here)
    (further next (stands_next d types s.at at.number i regs keeps stand.inside at.here safely.1 safely.0))
onward_function d types sight live fuel s i (Jumps regs) keeps stand at safely further =
    let next = jumped d s.at regs in
    subst (λ f. EndsIn d f (settle d sight live fuel next)) (jumped_function d s.at at.number i safely.1.0 regs keeps stand.inside at.here safely.1.1)
    (further next (stands_jumped d types s.at at.number i safely.1.0 regs keeps at.here safely.1.1 safely.0))
onward_function d types sight live fuel s i (Would act) keeps stand at safely further = refl
onward_function d types sight live fuel s i Stuck keeps stand at safely further = tt

ends_in : (d : Domain) (types : Typing) (sight : Sight) (live fuel : ℕ) (s : Stand) → KeepsRules d → FitsSight types d sight → FitsStand types d s → EndsIn d (function_at d.lines s.at) (settle d sight live fuel s)
ends_in d types sight live zero s keeps sees stand = heads_function d s
ends_in d types sight live (suc fuel) s keeps sees stand =
    let code = comes_to_code d types s keeps stand in
    let t = behind_heads d s in
    subst (λ f. EndsIn d f (go_on d (work d sight live t) (settle d sight live fuel) (suc fuel) t)) (heads_function d s)
    (onward_function d types sight live fuel t code.instr (work d sight live t) keeps code.stand code.at
    (safe_at d types sight live t code.at.number code.instr keeps sees code.stand code.at.here)
    (λ next stands. ends_in d types sight live fuel next keeps sees stands))

pub settle_function : (d : Domain) (types : Typing) (sight : Sight) (live fuel : ℕ) (s : Stand) (act : Action) (rest : ℕ) (stand : Stand) → KeepsRules d → FitsSight types d sight → FitsStand types d s → settle d sight live fuel s ≡ Before act rest stand → function_at d.lines stand.at ≡ function_at d.lines s.at
settle_function d types sight live fuel s act rest stand keeps sees fits is = subst (EndsIn d (function_at d.lines s.at)) is (ends_in d types sight live fuel s keeps sees fits)

-- and so does an answer
pub answer_function : (d : Domain) (types : Typing) (i : Instr) (a : Answer) (s : Stand) → KeepsRules d → is_inside (function_at d.lines s.at) ≡ true → StandsAt d i s → FitsAnswer types d (kinds_at d s.at) i a → function_at d.lines (after_answer d s i a).at ≡ function_at d.lines s.at
answer_function d types i (answer.Failed why) s keeps inside at fits =
    let label = failed_label types d (kinds_at d s.at) i why fits in
    jumped_function d s.at at.number i label.0 (answered i (answer.Failed why) s.regs) keeps inside at.here label.1
answer_function d types i (answer.Made o) s keeps inside at fits = function_next d.lines s.at _ at.here
answer_function d types i answer.Went s keeps inside at fits = function_next d.lines s.at _ at.here
answer_function d types i (answer.Back values) s keeps inside at fits = function_next d.lines s.at _ at.here

-- a frame begins in the function of its method
begins_form : (name : List ℕ) (n : ℕ) (form : DomainLine) (before : Option Function) → begins_function name form ≡ true → function_behind_form n form before ≡ Some (record { name = name; first = n + 1 })
begins_form name n (line.Function other) before b = ap (λ x. Some (record { name = x; first = n + 1 })) (same_list other name b)
begins_form name n form before b = absurd (cc)

pub entry_function : (d : Domain) (types : Typing) (m place : ℕ) (args : List Arg) → (given : FitsArguments types d m args) → entry_at d m ≡ Some place → place < length d.lines → function_at d.lines place ≡ Some (record { name = given.method.name; first = place })
entry_function d types m place args given at within =
    let name = given.method.name in
    let test = λ (l : Numbered DomainLine). begins_function name l.form in
    let p = position_or_len test d.lines in
    let e : Some (p + 1) ≡ Some place = sym (ap (entry_of d) given.row) ∙ at in
    let is : p + 1 ≡ place = cc in
    let l = some_line d.lines p (omega arith) in
    subst (λ n. function_at d.lines n ≡ Some (record { name = name; first = n })) is
    (function_next d.lines p l.0 l.1 ∙ begins_form name p l.0.form (function_at d.lines p) (passes_first test d.lines l.0 l.1))
