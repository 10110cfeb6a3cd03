-- Rules 1 and 2 of a domain part, line by line, and the domains of its lines.
use Rattle.std.proofs.Common.{◌≡◌, ℕ, ◌+◌, inl, inr, List, [], ◌∷◌, ◌++◌, length, Some, Ok, Err, refl, sym, ap, ◌∙◌, append_assoc, append-nil}
use Rattle.std.specs.Prelude.{slice_get}
use Rattle.rl_defs.specs.declared.LoadFault.{LoadFault}
use Rattle.rl_defs.specs.declared.LoadFault.TheVariants.{Refused, Memory}
use Rattle.rl_defs.specs.declared.bundle.Numbered.{Numbered}
use Rattle.rl_defs.specs.declared.code.DomainLine.{DomainLine}
use Rattle.rl_defs.specs.declared.code.DomainText.{DomainText}
use Rattle.rl_defs.specs.Domains.{Lines}
use Rattle.rl_defs.specs.Refusals.{IsFirst, Answers, Nowhere}
use Rattle.rl_defs.specs.Parts.{numbered}
use Rattle.rl_defs.specs.DomainParts as parts
use Rattle.rl_defs.specs.DomainParts.{domain_part, domains_of, FailsDomains, AreDomains}
use Rattle.rl_text.specs.PartSteps as steps
use Rattle.rl_text.proofs.PartRules.{SoFar, no_lines, next_line, refused_line, left_open, all_closed}
use Rattle.domain_code.specs.declared.part.Block.{Block}
use Rattle.domain_code.specs.declared.part.Block.TheVariants as b
use Rattle.domain_code.specs.Parts.{block_of, joined, TakesLine}
use Rattle.domain_code.proofs.DomainLaws.{domain_forms}
use Rattle.domain_code.proofs.Joining.{all_joined}

-- what is known before the line at a place: the lines so far, and that they are those of the domains so far
pub record ReadSoFar (first : ℕ) (texts : List (List ℕ)) (i : ℕ) (block : Block) (domains : List DomainText) : Type 0 where
  pub lines : Lines
  pub so : SoFar domain_part first texts i lines (block_of block)
  pub cut : (rest : Lines) → joined domains rest ≡ domains_of (lines ++ rest)

pub nothing_read : (first : ℕ) (texts : List (List ℕ)) → ReadSoFar first texts 0 b.Outside []
nothing_read first texts = record { lines = []; so = no_lines domain_part first texts; cut = λ rest. refl }

pub one_read : (first i number : ℕ) (texts : List (List ℕ)) (text : List ℕ) (block next : Block) (old new : List DomainText) → slice_get texts i ≡ Some text → number ≡ first + i → ReadSoFar first texts i block old → TakesLine number text block old new (Ok next) → ReadSoFar first texts (i + 1) next new
one_read first i number texts text block next old new here is r (inl s) = record {
  lines = r.lines;
  so = next_line domain_part domain_forms block_of first i number texts text block next r.lines r.lines here is r.so (inl (record { skipped = s.skipped; same_block = ap block_of s.same_block; same_lines = refl }));
  cut = λ rest. ap (λ (ds : List DomainText). joined ds rest) s.same_domains ∙ r.cut rest;
}
one_read first i number texts text block next old new here is r (inr s) =
    let line : Numbered DomainLine = numbered number s.form in
    record {
      lines = r.lines ++ line ∷ [];
      so = next_line domain_part domain_forms block_of first i number texts text block next r.lines (r.lines ++ line ∷ []) here is r.so (inr (record { form = s.form; is = s.is; allowed = s.allowed; put = refl }));
      cut = λ rest. s.put rest ∙ r.cut (line ∷ rest) ∙ ap domains_of (sym (append_assoc r.lines (line ∷ []) rest));
    }

refuses : (number : ℕ) (text : List ℕ) (block : Block) (old new : List DomainText) (lines more : Lines) (fault : LoadFault) → TakesLine number text block old new (Err fault) → steps.TakesLine domain_part block_of number text block lines more (Err fault)
refuses number text block old new lines more (Refused at) h = h
refuses number text block old new lines more Memory h = h

pub one_refused : (first i number : ℕ) (texts : List (List ℕ)) (text : List ℕ) (block : Block) (old new : List DomainText) (fault : LoadFault) → slice_get texts i ≡ Some text → number ≡ first + i → ReadSoFar first texts i block old → TakesLine number text block old new (Err fault) → Answers {X = Unit {0}} (FailsDomains first texts) (λ _. Unit {0}) (Err fault)
one_refused first i number texts text block old new fault here is r h = refused_line domain_part block_of first i number texts text block r.lines r.lines fault here is r.so (refuses number text block old new r.lines r.lines fault h)

pub part_open : (first i : ℕ) (texts : List (List ℕ)) (block : Block) (domains : List DomainText) → i ≡ length texts → ReadSoFar first texts i block domains → (block ≡ b.Outside → ⊥) → IsFirst (FailsDomains first texts) (first + i) 2
part_open first i texts block domains e r inside = left_open domain_part first i texts r.lines (block_of block) e r.so (not_outside block inside)
  where
    not_outside : (x : Block) → (x ≡ b.Outside → ⊥) → block_of x ≡ parts.Outside → ⊥
    not_outside b.Outside h same = h refl
    not_outside (b.Declares words slots native) h same = cc
    not_outside b.BehindFunction h same = cc
    not_outside b.InFunction h same = cc
    not_outside b.BehindEnd h same = cc

pub part_read : (first i : ℕ) (texts : List (List ℕ)) (block : Block) (domains : List DomainText) → i ≡ length texts → ReadSoFar first texts i block domains → block ≡ b.Outside → Nowhere (FailsDomains first texts) × AreDomains first texts domains
part_read first i texts block domains e r closed =
    let all = all_closed domain_part domain_forms first i texts r.lines (block_of block) e r.so (ap block_of closed) in
    (all.0, record { lines = r.lines; stand = all.1; cut = sym (all_joined domains) ∙ r.cut [] ∙ ap domains_of (append-nil r.lines) })
