-- Labels are places of lines.
use Rattle.std.proofs.Common.{◌≡◌, ℕ, zero, suc, ◌+◌, ◌<◌, ◌≤◌, Bool, true, false, List, [], ◌∷◌, length, drop, Option, Some, None, refl, sym, ap, arith, cond, length-drop}
use Rattle.std.specs.Prelude.{slice_get, IfSome}
use Rattle.std.proofs.lemmas.Option.{slice_get_within}
use Rattle.rl_defs.specs.declared.bundle.Numbered.{Numbered}
use Rattle.rl_defs.specs.declared.code.DomainLine.{DomainLine}
use Rattle.rl_defs.specs.declared.code.DomainLine.TheVariants as line
use Rattle.rl_defs.specs.Words.{same_bytes}
use Rattle.rl_defs.specs.Domains.{Lines}
use Rattle.rl_defs.specs.CodeNames.{Function, function_at, function_behind, function_behind_form, find_label, find_label_from, label_in, label_at}

find_within : (q : List ℕ) (lines : Lines) (place p : ℕ) → find_label q lines place ≡ Some p → p < place + length lines
find_within q [] place p e = absurd cc
find_within q (l ∷ ls) place p e = of l.form (find_label q ls (place + 1)) (λ f. find_within q ls (place + 1) p f) e where
  later : (further : Option ℕ) → (further ≡ Some p → p < place + 1 + length ls) → further ≡ Some p → p < place + suc (length ls)
  later further h f = omega (arith, h f)

  named : (same : Bool) (further : Option ℕ) → (further ≡ Some p → p < place + 1 + length ls) → cond same (Some place) further ≡ Some p → p < place + suc (length ls)
  named true further h f = let at : place ≡ p = cc in omega arith
  named false further h f = later further h f

  of : (form : DomainLine) (further : Option ℕ) → (further ≡ Some p → p < place + 1 + length ls) → find_label_from q form place further ≡ Some p → p < place + suc (length ls)
  of (line.Domain name has) further h f = later further h f
  of (line.Words n) further h f = later further h f
  of (line.Slot name ty) further h f = later further h f
  of (line.Import name has) further h f = later further h f
  of (line.Native body) further h f = later further h f
  of (line.Function name) further h f = later further h f
  of (line.Head label items) further h f = named (same_bytes label q) further h f
  of (line.Code i) further h f = later further h f
  of line.Close further h f = absurd cc

function_first : (lines : Lines) (n : ℕ) (f : Function) → function_at lines n ≡ Some f → f.first ≤ length lines
function_first lines zero f e = absurd cc
function_first lines (suc n) f e = behind (slice_get lines n) refl (function_at lines n) (λ h. function_first lines n f h) e where
  of : (form : DomainLine) (before : Option Function) → n < length lines → (before ≡ Some f → f.first ≤ length lines) → function_behind_form n form before ≡ Some f → f.first ≤ length lines
  of (line.Domain name has) before lt h g = h g
  of (line.Words k) before lt h g = h g
  of (line.Slot name ty) before lt h g = h g
  of (line.Import name has) before lt h g = h g
  of (line.Native body) before lt h g = h g
  of (line.Function name) before lt h g = first f g where
    first : (x : Function) → Some (record { name = name; first = n + 1 }) ≡ Some x → x.first ≤ length lines
    first x i = let is : record { name = name; first = n + 1 } ≡ x = cc in omega (arith, lt, ap (λ (y : Function). y.first) is)
  of (line.Head label items) before lt h g = h g
  of (line.Code i) before lt h g = h g
  of line.Close before lt h g = absurd cc

  behind : (o : Option (Numbered DomainLine)) → slice_get lines n ≡ o → (before : Option Function) → (before ≡ Some f → f.first ≤ length lines) → function_behind n o before ≡ Some f → f.first ≤ length lines
  behind None is before h g = h g
  behind (Some l) is before h g = of l.form before (slice_get_within lines n l is) h g

label_within : (lines : Lines) (n : ℕ) (q : List ℕ) (p : ℕ) → label_at lines n q ≡ Some p → p < length lines
label_within lines n q p e = at (function_at lines n) refl e where
  at : (f : Option Function) → function_at lines n ≡ f → label_in lines f q ≡ Some p → p < length lines
  at None is g = absurd cc
  at (Some f) is g = omega (arith, find_within q (drop f.first lines) f.first p g, length-drop f.first lines, function_first lines n f is)

pub some_within : (lines : Lines) (n : ℕ) (q : List ℕ) (o : Option ℕ) → o ≡ label_at lines n q → IfSome o (λ p. p < length lines)
some_within lines n q None e = tt
some_within lines n q (Some p) e = label_within lines n q p (sym e)
