-- All parts of a bundle together.
use Rattle.std.proofs.Common.{◌≡◌, ℕ, suc, ◌+◌, ◌<◌, ◌≤◌, ◌⊎◌, inl, inr, List, length, Option, Some, None, Err, subst, arith}
use Rattle.std.proofs.lemmas.Bool.{cases_lt}
use Rattle.rl_defs.specs.declared.bundle.Bundle.{Bundle}
use Rattle.rl_defs.specs.declared.LoadFault.{LoadFault}
use Rattle.rl_defs.specs.declared.LoadFault.TheVariants.{Refused, Memory}
use Rattle.rl_defs.specs.Refusals.{Nowhere, IsFirst, Answers}
use Rattle.rl_defs.proofs.FirstRefusal.{refuses}
use Rattle.rl_defs.specs.BundleParts as parts
use Rattle.rl_defs.specs.BundleParts.{HeaderAt, FailsForms, IsBundle, StandsIn, IsPart}
use Rattle.rl_defs.specs.BundleOrder.{line_numbers, IsOrdered}
use Rattle.bundle_parts.specs.Cuts.{Ascends, NoneUpTo, Reaches, IsReached, StandsAt}
use Rattle.bundle_parts.specs.declared.header.Header.{Header}
use Rattle.bundle_parts.specs.declared.cut.At.{At}
use Rattle.bundle_parts.specs.Headers.{header_of}
use Rattle.bundle_parts.specs.Parts.{Passed, idl_stands, no_idl, idl_numbers, idl_closed, domains_stand, no_domains, numbers_of_domains, domains_closed, plan_stands, no_plan, plan_numbers, plan_closed, clients_stand, no_clients, client_numbers, clients_closed}
use Rattle.bundle_parts.proofs.PartEnds.{some_line, header_within}
use Rattle.bundle_parts.proofs.Cutting.{all_read, left_over}
use Rattle.bundle_parts.proofs.Numbers.{one_behind, no_more_than, ascends_rise}

-- a header that was missing so far is missing behind a part of another one
none_on : (texts : List (List ℕ)) (h g : parts.Header) (old new : ℕ) → (h ≡ g → ⊥) → ((number : ℕ) (i : parts.Header) → old < number → number ≤ new → HeaderAt texts number i → i ≡ g) → NoneUpTo texts h old → NoneUpTo texts h new
none_on texts h g old new other others none number le x = elim (cases_lt old number) [
  | inl lt ↦ other (others number h lt le x)
  | inr early ↦ none number early x
]

stands_in : (texts : List (List ℕ)) (h : parts.Header) (place : ℕ) (stands : ℕ → List (List ℕ) → Type 0) (none : Type 0) → (NoneUpTo texts h place → NoneUpTo texts h (length texts)) → (NoneUpTo texts h place × none) ⊎ ((first : ℕ) × (inside : List (List ℕ)) × IsPart texts h first inside × stands first inside) → StandsIn texts h stands none
stands_in texts h place stands none on (inl (missing, nothing)) = inl (λ number x. on missing number (some_line texts number h x).1 x, nothing)
stands_in texts h place stands none on (inr there) = inr there

-- Each part is passed in turn, up to the end of the lines.
pub record ArePassed (texts : List (List ℕ)) (b : Bundle) (start first second third last : ℕ) : Type 0 where
  pub idl : Passed texts parts.Interfaces start first idl_stands no_idl idl_numbers idl_closed b.idl
  pub domains : Passed texts parts.Domains first second domains_stand no_domains numbers_of_domains domains_closed b.domains
  pub plan : Passed texts parts.ThePlan second third plan_stands no_plan plan_numbers plan_closed b.plan
  pub clients : Passed texts parts.TheClients third last clients_stand no_clients client_numbers clients_closed b.clients

bundle_is : (texts : List (List ℕ)) (b : Bundle) (start first second third last : ℕ) → last ≡ length texts → ArePassed texts b start first second third last → IsBundle texts b
bundle_is texts b start first second third last end p =
    let on_clients : (h : parts.Header) → (h ≡ parts.TheClients → ⊥) → NoneUpTo texts h third → NoneUpTo texts h (length texts) = λ h other none. subst (NoneUpTo texts h) end (none_on texts h parts.TheClients third last other p.clients.0.others none) in
    let on_plan : (h : parts.Header) → (h ≡ parts.TheClients → ⊥) → (h ≡ parts.ThePlan → ⊥) → NoneUpTo texts h second → NoneUpTo texts h (length texts) = λ h o1 o2 none. on_clients h o1 (none_on texts h parts.ThePlan second third o2 p.plan.0.others none) in
    record {
      idl = stands_in texts parts.Interfaces first (idl_stands b.idl) (no_idl b.idl) (λ none. on_plan parts.Interfaces (λ e. cc) (λ e. cc) (none_on texts parts.Interfaces parts.Domains first second (λ e. cc) p.domains.0.others none)) p.idl.0.has;
      domains = stands_in texts parts.Domains second (domains_stand b.domains) (no_domains b.domains) (λ none. on_plan parts.Domains (λ e. cc) (λ e. cc) none) p.domains.0.has;
      plan = stands_in texts parts.ThePlan third (plan_stands b.plan) (no_plan b.plan) (λ none. on_clients parts.ThePlan (λ e. cc) none) p.plan.0.has;
      clients = stands_in texts parts.TheClients last (clients_stand b.clients) (no_clients b.clients) (λ none. subst (NoneUpTo texts parts.TheClients) end none) p.clients.0.has;
    }

bundle_ascends : (texts : List (List ℕ)) (b : Bundle) (start first second third last : ℕ) → ArePassed texts b start first second third last → Ascends (suc start) (line_numbers b) (suc last)
bundle_ascends texts b start first second third last p =
    one_behind (suc start) (suc first) (suc last) (idl_numbers b.idl) _ p.idl.0.rises
    (one_behind (suc first) (suc second) (suc last) (numbers_of_domains b.domains) _ p.domains.0.rises
    (one_behind (suc second) (suc third) (suc last) (plan_numbers b.plan) (client_numbers b.clients) p.plan.0.rises p.clients.0.rises))

pub bundle_ordered : (texts : List (List ℕ)) (b : Bundle) (start first second third last : ℕ) → last ≡ length texts → length texts ≤ 1048576 → ArePassed texts b start first second third last → IsOrdered b
bundle_ordered texts b start first second third last end few p =
    let a : Ascends (suc start) (line_numbers b) (suc last) = bundle_ascends texts b start first second third last p in
    record {
      few = omega (arith, no_more_than (suc start) (suc last) (line_numbers b) a, end, few);
      rises = ascends_rise (suc start) (suc last) (line_numbers b) a;
      interfaces = p.idl.1;
      domains = p.domains.1;
      clients = p.clients.1;
    }

pub bundle_read : (texts : List (List ℕ)) (b : Bundle) (start first second third last : ℕ) → last ≡ length texts → ArePassed texts b start first second third last → Nowhere (FailsForms texts) × IsBundle texts b
bundle_read texts b start first second third last end p = (all_read texts 4 last end p.clients.0.read, bundle_is texts b start first second third last end p)

-- ---- what code answers of the whole bundle

pub fault_answers : {X Y : Type 0} (texts lines : List (List ℕ)) (P : X → Type 0) (W : Y → Type 0) (e : LoadFault) → texts ≡ lines → Reaches {X = X} texts P (Err e) → Answers {X = Y} (FailsForms lines) W (Err e)
fault_answers texts lines P W (Refused at) same r = subst (λ (xs : List (List ℕ)). IsFirst (FailsForms xs) at.line at.rule) same r
fault_answers texts lines P W Memory same r = tt

pub left_answers : {Y : Type 0} (texts lines : List (List ℕ)) (W : Y → Type 0) (number : ℕ) (at : At) (h : Header) (e : LoadFault) → e ≡ Refused (record { line = number; rule = 2 }) → number ≡ 1 + at.place → at.header ≡ Some h → texts ≡ lines → IsReached texts 4 at → Answers {X = Y} (FailsForms lines) W (Err e)
left_answers {Y} texts lines W number at h e is number-is header same reached =
    let x : HeaderAt texts (suc at.place) (header_of h) = subst (λ (o : Option Header). StandsAt texts at.place o) header reached.stands in
    let first : IsFirst (FailsForms texts) (suc at.place) 2 = left_over texts at.place (header_of h) reached.read x in
    let n : suc at.place ≡ number = omega (arith, number-is) in
    refuses {X = Y} (FailsForms lines) W e number 2 is (subst (λ (xs : List (List ℕ)). IsFirst (FailsForms xs) number 2) same (subst (λ (i : ℕ). IsFirst (FailsForms texts) i 2) n first))

pub left_inside : (texts : List (List ℕ)) (at : At) (h : Header) → at.header ≡ Some h → IsReached texts 4 at → at.place < length texts
left_inside texts at h header reached =
    let x : HeaderAt texts (suc at.place) (header_of h) = subst (λ (o : Option Header). StandsAt texts at.place o) header reached.stands in
    header_within texts at.place (header_of h) x

pub at_end : (texts : List (List ℕ)) (at : At) → at.header ≡ None → IsReached texts 4 at → at.place ≡ length texts
at_end texts at none reached = subst (λ (o : Option Header). StandsAt texts at.place o) none reached.stands

pub all_answers : (texts lines : List (List ℕ)) (b : Bundle) (start first second third last : ℕ) → last ≡ length texts → texts ≡ lines → ArePassed texts b start first second third last → Nowhere (FailsForms lines) × IsBundle lines b
all_answers texts lines b start first second third last end same p = subst (λ (xs : List (List ℕ)). Nowhere (FailsForms xs) × IsBundle xs b) same (bundle_read texts b start first second third last end p)
