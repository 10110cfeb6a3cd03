-- The order of the lines of one domain, and the functions that they stand in.
use Rattle.std.proofs.Common.{◌≡◌, refl, sym, ◌∙◌, ap, ℕ, zero, suc, ◌+◌, ◌<◌, ◌≤◌, inl, inr, Bool, true, false, ◌||◌, List, [], ◌∷◌, length, drop, Option, Some, None, slice_get, arith, ◌-◌, suc-add, zero-add, true≢false}
use Rattle.std.specs.Prelude.{fold, if◌then◌else◌}
use Rattle.std.proofs.Math.Seq.{drop-length}
use Rattle.std.proofs.lemmas.Bool.{cases_lt}
use Rattle.std.proofs.lemmas.Option.{slice_get_within, slice_get_cases}
use Rattle.rl_defs.specs.declared.bundle.Numbered.{Numbered}
use Rattle.rl_defs.specs.declared.code.HeadItem.{HeadItem}
use Rattle.rl_defs.specs.declared.code.DomainLine.{DomainLine}
use Rattle.rl_defs.specs.declared.code.DomainLine.TheVariants as line
use Rattle.rl_defs.specs.Parts.{next_open, forms_of}
use Rattle.rl_defs.specs.Domains.{Lines}
use Rattle.rl_defs.specs.DomainParts.{DomainBlock, Outside, Declares, BehindFunction, InFunction, BehindEnd, unless, ends, next_block, domain_part}
use Rattle.rl_defs.specs.CodeNames.{Function, function_at, function_behind, function_behind_form}
use Rattle.rl_defs.specs.CodeRules.{is_inside}
use Rattle.rl_defs.specs.DomainParts.{IsOneDomain}
use Rattle.rl_defs.proofs.Places.{drop_suc}

abbrev is_body : DomainBlock → Bool
is_body InFunction = true
is_body BehindEnd = true
is_body _ = false

abbrev is_open_body : Option DomainBlock → Bool
is_open_body None = false
is_open_body (Some b) = is_body b

abbrev opened : Option DomainBlock → Option (Numbered DomainLine) → Option DomainBlock
opened b None = b
opened b (Some l) = next_open domain_part b l.form

-- the block that is open before line n
abbrev block_at : Lines → ℕ → Option DomainBlock
block_at lines zero = Some Outside
block_at lines (suc n) = opened (block_at lines n) (slice_get lines n)

-- a place below the count of lines has its line
pub some_line : (lines : Lines) (n : ℕ) → n < length lines → (l : Numbered DomainLine) × (slice_get lines n ≡ Some l)
some_line lines n lt = elim (slice_get_cases lines n).1 [
  | inl c ↦ (c.0, c.2)
  | inr c ↦ absurd (omega (arith, c.0))
]

behind_at : (lines : Lines) (k n : ℕ) → n + k ≡ length lines → fold (next_open domain_part) (block_at lines n) (forms_of (drop n lines)) ≡ block_at lines (length lines)
behind_at lines zero n e =
    let at : n ≡ length lines = omega arith in
    ap (λ m. fold (next_open domain_part) (block_at lines m) (forms_of (drop m lines))) at
    ∙ ap (λ xs. fold (next_open domain_part) (block_at lines (length lines)) (forms_of xs)) (drop-length lines)
behind_at lines (suc k) n e =
    let line_n = some_line lines n (omega arith) in
    ap (λ xs. fold (next_open domain_part) (block_at lines n) (forms_of xs)) (drop_suc lines n line_n.0 line_n.1)
    ∙ (ap (λ b. fold (next_open domain_part) b (forms_of (drop (suc n) lines))) (sym (ap (opened (block_at lines n)) line_n.1))
    ∙ behind_at lines k (suc n) (omega arith))

closes : (lines : Lines) → IsOneDomain lines → block_at lines (length lines) ≡ Some Outside
closes [] one = absurd one
closes (l ∷ ls) one = sym (behind_at (l ∷ ls) (length (l ∷ ls)) 0 (omega arith)) ∙ one.2

opened_none : (o : Option (Numbered DomainLine)) → opened None o ≡ None
opened_none None = refl
opened_none (Some l) = refl

stays_none : (lines : Lines) (k n : ℕ) → block_at lines n ≡ None → block_at lines (k + n) ≡ None
stays_none lines zero n e = rw zero-add e
stays_none lines (suc k) n e = rw suc-add (ap (λ b. opened b (slice_get lines (k + n))) (stays_none lines k n e) ∙ opened_none (slice_get lines (k + n)))

is_some_block : (o : Option DomainBlock) → (o ≡ None → ⊥) → (b : DomainBlock) × (o ≡ Some b)
is_some_block None barred = absurd (barred refl)
is_some_block (Some b) barred = (b, refl)

some_block : (lines : Lines) (n : ℕ) → IsOneDomain lines → n ≤ length lines → (b : DomainBlock) × (block_at lines n ≡ Some b)
some_block lines n one le =
    is_some_block (block_at lines n) (λ e.
    let at : length lines - n + n ≡ length lines = omega arith in
    let none : block_at lines (length lines - n + n) ≡ None = stays_none lines (length lines - n) n e in
    let ends_none : block_at lines (length lines) ≡ None = sym (ap (block_at lines) at) ∙ none in
    let outside = closes lines one in
    cc)

along : (x b : DomainBlock) (i : Bool) → i ≡ is_body x → Some x ≡ Some b → i ≡ is_body b
along x b i e h = let same : x ≡ b = cc in e ∙ ap is_body same

along_unless : (barred : Bool) (x b : DomainBlock) (i : Bool) → i ≡ is_body x → unless barred x ≡ Some b → i ≡ is_body b
along_unless true x b i e h = cc
along_unless false x b i e h = along x b i e h

body_either : (b : Bool) → true ≡ is_body (if b then BehindEnd else InFunction)
body_either true = refl
body_either false = refl

step_form : (n : ℕ) (form : DomainLine) (f : Option Function) (b next : DomainBlock) → is_inside f ≡ is_body b → next_block b form ≡ Some next → is_inside (function_behind_form n form f) ≡ is_body next
step_form n (line.Domain name has) f Outside next e h = along (Declares false false false) next (is_inside f) e h
step_form n (line.Words k) f (Declares words slots native) next e h = along_unless (words || native) (Declares true slots native) next (is_inside f) e h
step_form n (line.Slot name ty) f (Declares words slots native) next e h = along_unless native (Declares words true native) next (is_inside f) e h
step_form n (line.Import name has) f (Declares words slots native) next e h = along (Declares words slots native) next (is_inside f) e h
step_form n (line.Native body) f (Declares words slots native) next e h = along_unless (words || (slots || native)) (Declares words slots true) next (is_inside f) e h
step_form n (line.Function name) f (Declares words slots native) next e h = along_unless native InFunction next true refl h
step_form n (line.Function name) f BehindFunction next e h = along InFunction next true refl h
step_form n line.Close f (Declares words slots native) next e h = along Outside next false refl h
step_form n line.Close f BehindFunction next e h = along Outside next false refl h
step_form n line.Close f InFunction next e h = along BehindFunction next false refl h
step_form n line.Close f BehindEnd next e h = along BehindFunction next false refl h
step_form n (line.Head label items) f InFunction next e h = along InFunction next (is_inside f) e h
step_form n (line.Head label items) f BehindEnd next e h = along InFunction next (is_inside f) e h
step_form n (line.Code i) f InFunction next e h = along (if ends i then BehindEnd else InFunction) next (is_inside f) (e ∙ body_either (ends i)) h
step_form n form f b next e h = absurd (cc)

step : (n : ℕ) (o : Option (Numbered DomainLine)) (f : Option Function) (b : Option DomainBlock) (next : DomainBlock) → is_inside f ≡ is_open_body b → opened b o ≡ Some next → is_inside (function_behind n o f) ≡ is_open_body (opened b o)
step n None f b next e h = e
step n (Some l) f None next e h = absurd (cc)
step n (Some l) f (Some b) next e h = step_form n l.form f b next e h ∙ sym (ap is_open_body h)

inside_is : (lines : Lines) (n : ℕ) → IsOneDomain lines → n ≤ length lines → is_inside (function_at lines n) ≡ is_open_body (block_at lines n)
inside_is lines zero one le = refl
inside_is lines (suc n) one le =
    let next = some_block lines (suc n) one le in
    step n (slice_get lines n) (function_at lines n) (block_at lines n) next.0 (inside_is lines n one (omega arith)) next.1

-- no function is open at the end of a domain
pub inside_below : (lines : Lines) (n : ℕ) → IsOneDomain lines → n ≤ length lines → is_inside (function_at lines n) ≡ true → n < length lines
inside_below lines n one le inside =
    elim (cases_lt n (length lines)) [
      | inl lt ↦ lt
      | inr ge ↦
          let at : n ≡ length lines = omega arith in
          let body : is_open_body (block_at lines n) ≡ true = sym (inside_is lines n one le) ∙ inside in
          let shut : is_open_body (block_at lines n) ≡ false = ap (λ m. is_open_body (block_at lines m)) at ∙ ap is_open_body (closes lines one) in
          absurd (true≢false (sym body ∙ shut))
    ]

-- the lines that stand in a function
abbrev pub stands_inside : DomainLine → Bool
stands_inside (line.Head label items) = true
stands_inside (line.Code i) = true
stands_inside line.Close = true
stands_inside _ = false

inside_form : (form : DomainLine) (b next : DomainBlock) → is_body b ≡ true → next_block b form ≡ Some next → stands_inside form ≡ true
inside_form (line.Head label items) b next e h = refl
inside_form (line.Code i) b next e h = refl
inside_form line.Close b next e h = refl
inside_form form InFunction next e h = absurd (cc)
inside_form form BehindEnd next e h = absurd (cc)
inside_form form b next e h = absurd (true≢false (sym e))

head_form : (label : List ℕ) (items : List HeadItem) (b next : DomainBlock) → next_block b (line.Head label items) ≡ Some next → is_body b ≡ true
head_form label items InFunction next h = refl
head_form label items BehindEnd next h = refl
head_form label items b next h = absurd (cc)

-- a line, with the blocks before it and behind it
record Opens (lines : Lines) (n : ℕ) (l : Numbered DomainLine) : Type 0 where
  b : DomainBlock
  before : block_at lines n ≡ Some b
  next : DomainBlock
  behind : next_block b l.form ≡ Some next

opens : (lines : Lines) (n : ℕ) (l : Numbered DomainLine) → IsOneDomain lines → slice_get lines n ≡ Some l → Opens lines n l
opens lines n l one here =
    let within = slice_get_within lines n l here in
    let b = some_block lines n one (omega arith) in
    let next = some_block lines (suc n) one (omega arith) in
    record {
      b = b.0;
      before = b.1;
      next = next.0;
      behind = sym (ap (λ o. next_open domain_part o l.form) b.1) ∙ (sym (ap (opened (block_at lines n)) here) ∙ next.1);
    }

-- a line of a function is a head, an instruction or its end
pub line_inside : (lines : Lines) (n : ℕ) (l : Numbered DomainLine) → IsOneDomain lines → slice_get lines n ≡ Some l → is_inside (function_at lines n) ≡ true → stands_inside l.form ≡ true
line_inside lines n l one here inside =
    let o = opens lines n l one here in
    let within = slice_get_within lines n l here in
    inside_form l.form o.b o.next (sym (ap is_open_body o.before) ∙ (sym (inside_is lines n one (omega arith)) ∙ inside)) o.behind

-- a head stands in a function
pub head_inside : (lines : Lines) (n number : ℕ) (label : List ℕ) (items : List HeadItem) → IsOneDomain lines → slice_get lines n ≡ Some (record { line = number; form = line.Head label items }) → is_inside (function_at lines n) ≡ true
head_inside lines n number label items one here =
    let o = opens lines n _ one here in
    let within = slice_get_within lines n _ here in
    inside_is lines n one (omega arith) ∙ (ap is_open_body o.before ∙ head_form label items o.b o.next o.behind)
