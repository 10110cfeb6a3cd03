-- What is known before the next line.
use Rattle.std.proofs.Common.{◌≡◌, ℕ, ◌+◌, ◌<◌, Bool, true, false, List, [], ◌^◌, length, drop, Option, Some, None, refl, sym, ap, ◌∙◌, arith, add-one}
use Rattle.std.specs.Prelude.{slice_get, unwrap_or}
use Rattle.std.proofs.lemmas.Option.{slice_get_within}
use Rattle.rl_defs.specs.declared.bundle.Numbered.{Numbered}
use Rattle.rl_defs.specs.declared.code.DomainLine.{DomainLine}
use Rattle.rl_defs.specs.declared.code.DomainLine.TheVariants as line
use Rattle.rl_defs.specs.declared.tables.Kind.{Kind}
use Rattle.rl_defs.specs.DomainValue.{Domain}
use Rattle.rl_defs.specs.Domains.{Lines}
use Rattle.rl_defs.specs.CodeNames.{Function, function_at, function_behind_form, method_number, method_named, method_of_function, domain_trait, results_of, label_in, find_label}
use Rattle.rl_defs.specs.CodeKinds.{Kinds, kinds_at, no_kinds, after_line}
use Rattle.rl_defs.specs.LineRows.{number_of_function}
use Rattle.rl_defs.specs.CodeRules.{is_reached, goes_on, is_inside}
use Rattle.domain_checker.specs.Knowing.{Known}

kinds_next : (d : Domain) (n : ℕ) (l : Numbered DomainLine) (kinds next : Kinds) → slice_get d.lines n ≡ Some l → kinds ≡ kinds_at d n → next ≡ after_line d kinds l.form → next ≡ kinds_at d (n + 1)
kinds_next d n l kinds next here e is = is ∙ rw (add-one, here) (ap (λ ks. after_line d ks l.form) e)

reached_next : (d : Domain) (n : ℕ) (l : Numbered DomainLine) → slice_get d.lines n ≡ Some l → goes_on l.form ≡ is_reached d (n + 1)
reached_next d n l here = rw (add-one, here) refl

function_next : (lines : Lines) (n : ℕ) (l : Numbered DomainLine) → slice_get lines n ≡ Some l → function_at lines (n + 1) ≡ function_behind_form n l.form (function_at lines n)
function_next lines n l here = rw (add-one, here) refl

-- before the first line nothing is known
pub known_first : (d : Domain) (label : List ℕ → Option ℕ) → length d.lines < 2 ^ 31 → ((q : List ℕ) → label q ≡ None) → Known d 0 no_kinds false false [] label
known_first d label short none = record { short = short; within = omega arith; kinds_are = refl; reached_is = refl; inside_is = refl; results_are = refl; labels_are = none }

-- what is known where the function is known that the next line is in
known_in : (d : Domain) (n : ℕ) (l : Numbered DomainLine) (f : Option Function) (kinds next : Kinds) (reached inside : Bool) (results : List Kind) (label : List ℕ → Option ℕ) → length d.lines < 2 ^ 31 → slice_get d.lines n ≡ Some l → kinds ≡ kinds_at d n → next ≡ after_line d kinds l.form → reached ≡ goes_on l.form → function_at d.lines (n + 1) ≡ f → inside ≡ is_inside f → results ≡ results_of (method_of_function d f) → ((q : List ℕ) → label q ≡ label_in d.lines f q) → Known d (n + 1) next reached inside results label
known_in d n l f kinds next reached inside results label short here e is goes at in_f of label_is = record {
  short = short;
  within = omega (arith, slice_get_within d.lines n l here);
  kinds_are = kinds_next d n l kinds next here e is;
  reached_is = goes ∙ reached_next d n l here;
  inside_is = in_f ∙ ap is_inside (sym at);
  results_are = of ∙ ap (λ g. results_of (method_of_function d g)) (sym at);
  labels_are = λ q. label_is q ∙ ap (λ g. label_in d.lines g q) (sym at);
}

pub known_function : (d : Domain) (n : ℕ) (l : Numbered DomainLine) (name : List ℕ) (kinds next : Kinds) (reached : Bool) (results : List Kind) (label : List ℕ → Option ℕ) → length d.lines < 2 ^ 31 → slice_get d.lines n ≡ Some l → l.form ≡ line.Function name → kinds ≡ kinds_at d n → next ≡ after_line d kinds l.form → reached ≡ goes_on l.form → results ≡ results_of (method_named d.tables (domain_trait d) name) → ((q : List ℕ) → label q ≡ find_label q (drop (n + 1) d.lines) (n + 1)) → Known d (n + 1) next reached true results label
known_function d n l name kinds next reached results label short here form e is goes of label_is =
    known_in d n l (Some (record { name = name; first = n + 1 })) kinds next reached true results label short here e is goes (function_next d.lines n l here ∙ ap (λ f. function_behind_form n f (function_at d.lines n)) form) refl of label_is

pub known_close : (d : Domain) (n : ℕ) (l : Numbered DomainLine) (kinds next : Kinds) (reached : Bool) (label : List ℕ → Option ℕ) → length d.lines < 2 ^ 31 → slice_get d.lines n ≡ Some l → l.form ≡ line.Close → kinds ≡ kinds_at d n → next ≡ after_line d kinds l.form → reached ≡ goes_on l.form → ((q : List ℕ) → label q ≡ None) → Known d (n + 1) next reached false [] label
known_close d n l kinds next reached label short here form e is goes label_is =
    known_in d n l None kinds next reached false [] label short here e is goes (function_next d.lines n l here ∙ ap (λ f. function_behind_form n f (function_at d.lines n)) form) refl refl label_is

-- a line that begins or ends no function
same_function : (n : ℕ) (form : DomainLine) (before : Option Function) → ((name : List ℕ) → form ≡ line.Function name → ⊥) → (form ≡ line.Close → ⊥) → function_behind_form n form before ≡ before
same_function n (line.Domain name has) before f c = refl
same_function n (line.Words k) before f c = refl
same_function n (line.Slot name ty) before f c = refl
same_function n (line.Import name has) before f c = refl
same_function n (line.Native body) before f c = refl
same_function n (line.Function name) before f c = absurd (f name refl)
same_function n (line.Head label items) before f c = refl
same_function n (line.Code i) before f c = refl
same_function n line.Close before f c = absurd (c refl)

pub known_other : (d : Domain) (n : ℕ) (l : Numbered DomainLine) (kinds next : Kinds) (before reached inside : Bool) (results : List Kind) (label : List ℕ → Option ℕ) → Known d n kinds before inside results label → slice_get d.lines n ≡ Some l → ((name : List ℕ) → l.form ≡ line.Function name → ⊥) → (l.form ≡ line.Close → ⊥) → next ≡ after_line d kinds l.form → reached ≡ goes_on l.form → Known d (n + 1) next reached inside results label
known_other d n l kinds next before reached inside results label k here f c is goes =
    known_in d n l (function_at d.lines n) kinds next reached inside results label k.short here k.kinds_are is goes (function_next d.lines n l here ∙ same_function n l.form (function_at d.lines n) f c) k.inside_is k.results_are k.labels_are

-- the number of the method of the function that the next line is in
pub numbered_function : (d : Domain) (n : ℕ) (l : Numbered DomainLine) (name : List ℕ) (number : ℕ) → slice_get d.lines n ≡ Some l → l.form ≡ line.Function name → number ≡ unwrap_or (method_number d.tables (domain_trait d) name) 0 → number ≡ unwrap_or (number_of_function d (function_at d.lines (n + 1))) 0
numbered_function d n l name number here form is =
    is ∙ ap (λ f. unwrap_or (number_of_function d f) 0) (sym (function_next d.lines n l here ∙ ap (λ f. function_behind_form n f (function_at d.lines n)) form))

pub numbered_close : (d : Domain) (n : ℕ) (l : Numbered DomainLine) → slice_get d.lines n ≡ Some l → l.form ≡ line.Close → 0 ≡ unwrap_or (number_of_function d (function_at d.lines (n + 1))) 0
numbered_close d n l here form =
    ap (λ f. unwrap_or (number_of_function d f) 0) (sym (function_next d.lines n l here ∙ ap (λ f. function_behind_form n f (function_at d.lines n)) form))

pub numbered_other : (d : Domain) (n : ℕ) (l : Numbered DomainLine) (number : ℕ) → slice_get d.lines n ≡ Some l → ((name : List ℕ) → l.form ≡ line.Function name → ⊥) → (l.form ≡ line.Close → ⊥) → number ≡ unwrap_or (number_of_function d (function_at d.lines n)) 0 → number ≡ unwrap_or (number_of_function d (function_at d.lines (n + 1))) 0
numbered_other d n l number here f c is =
    is ∙ ap (λ g. unwrap_or (number_of_function d g) 0) (sym (function_next d.lines n l here ∙ same_function n l.form (function_at d.lines n) f c))
