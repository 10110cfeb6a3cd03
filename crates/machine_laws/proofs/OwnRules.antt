-- What a line of domain code keeps of the rules on own objects.
use Rattle.std.proofs.Common.{◌≡◌, ℕ, true, List, [], ◌∷◌, Some, slice_get}
use Rattle.std.specs.List.{list_any}
use Rattle.std.proofs.lemmas.Bool.{or_right}
use Rattle.rl_defs.specs.declared.code.DomainLine.{DomainLine}
use Rattle.rl_defs.specs.DomainValue.{Domain}
use Rattle.rl_defs.specs.CodeKinds.{kinds_at}
use Rattle.rl_defs.specs.CodeRules.{Sentence, sentences, spares_objects, leaves_nothing, moves_once, moves_or_lends}
use Rattle.rl_defs.specs.CodeRules.{KeepsRules}
use Rattle.machine_defs.proofs.CodeStands.{AllKept, broken, here_kept}

all_kept : (ss : List Sentence) → ((rule : ℕ) → list_any (broken rule) ss ≡ true → ⊥) → AllKept ss
all_kept [] none = tt
all_kept (s ∷ ss) none =
    (here_kept s.0 s.1 (list_any (broken s.0) ss) (none s.0), all_kept ss (λ rule e. none rule (or_right (broken rule s) (list_any (broken rule) ss) e)))

pub record KeepsOwn (d : Domain) (n : ℕ) (form : DomainLine) : Type 0 where
  pub spares : spares_objects (kinds_at d n) form ≡ true
  pub leaves : leaves_nothing (kinds_at d n) form ≡ true
  pub once : moves_once (kinds_at d n) form ≡ true
  pub apart : moves_or_lends (kinds_at d n) form ≡ true

pub keeps_own : (d : Domain) (n number : ℕ) (form : DomainLine) → KeepsRules d → slice_get d.lines n ≡ Some (record { line = number; form = form }) → KeepsOwn d n form
keeps_own d n number form keeps here =
    let all = all_kept (sentences d n form) (λ rule e. keeps.rules number rule (record { place = n; form = form; here = here; broken = e })) in
    record {
      spares = all.1.1.1.0;
      leaves = all.1.1.1.1.0;
      once = all.1.1.1.1.1.1.1.1.0;
      apart = all.1.1.1.1.1.1.1.1.1.0;
    }
