-- Lines that are put behind domains, one after the other.
use Rattle.std.proofs.Common.{◌≡◌, true, false, List, [], ◌∷◌, ◌++◌, Result, Ok, Err, refl, sym, ap, append_assoc, append-nil}
use Rattle.std.specs.Prelude.{OnOk}
use Rattle.rl_defs.specs.declared.bundle.Numbered.{Numbered}
use Rattle.rl_defs.specs.declared.code.DomainLine.{DomainLine}
use Rattle.rl_defs.specs.declared.code.DomainText.{DomainText}
use Rattle.rl_defs.specs.Domains.{Lines}
use Rattle.rl_defs.specs.DomainParts.{begins_domain, rest_of_domain, domains_of}
use Rattle.domain_code.specs.Parts.{joined, Joins}

abbrev pub of_lines : Lines → DomainText
of_lines lines = record { lines = lines }

pub on_ok : {X E : Type 0} (r : Result X E) (P Q : Type 0) → (P → Q) → OnOk r P → OnOk r Q
on_ok (Ok x) P Q f h = f h
on_ok (Err e) P Q f h = tt

-- a line that begins a domain
one_more : (d : DomainText) (l : Numbered DomainLine) (rest : Lines) → begins_domain l.form ≡ true → d ∷ of_lines (l ∷ rest_of_domain rest) ∷ domains_of rest ≡ joined (d ∷ []) (l ∷ rest)
one_more d l rest begins = rw begins (ap (λ (lines : Lines). of_lines lines ∷ of_lines (l ∷ rest_of_domain rest) ∷ domains_of rest) (sym (append-nil d.lines)))

pub joins_new : (old : List DomainText) (l : Numbered DomainLine) → begins_domain l.form ≡ true → Joins old l (old ++ of_lines (l ∷ []) ∷ [])
joins_new [] l begins rest = rw begins refl
joins_new (d ∷ []) l begins rest = one_more d l rest begins
joins_new (d ∷ e ∷ more) l begins rest = ap (λ (ds : List DomainText). d ∷ ds) (joins_new (e ∷ more) l begins rest)

-- a line that belongs to the last domain
pub joins_last : (ds : List DomainText) (last : DomainText) (l : Numbered DomainLine) → begins_domain l.form ≡ false → Joins (ds ++ last ∷ []) l (ds ++ of_lines (last.lines ++ l ∷ []) ∷ [])
joins_last [] last l goes_on rest =
    rw goes_on (ap (λ (lines : Lines). of_lines lines ∷ domains_of rest) (append_assoc last.lines (l ∷ []) (rest_of_domain rest)))
joins_last (d ∷ []) last l goes_on rest = ap (λ (ds : List DomainText). d ∷ ds) (joins_last [] last l goes_on rest)
joins_last (d ∷ e ∷ more) last l goes_on rest = ap (λ (ds : List DomainText). d ∷ ds) (joins_last (e ∷ more) last l goes_on rest)

-- a line before the first domain
pub joins_nothing : (l : Numbered DomainLine) → begins_domain l.form ≡ false → Joins [] l []
joins_nothing l goes_on rest = rw goes_on refl

-- no lines stand behind domains
pub all_joined : (ds : List DomainText) → joined ds [] ≡ ds
all_joined [] = refl
all_joined (d ∷ []) = ap (λ (lines : Lines). of_lines lines ∷ []) (append-nil d.lines)
all_joined (d ∷ e ∷ more) = ap (λ (ds : List DomainText). d ∷ ds) (all_joined (e ∷ more))
