-- The lowest rule that a line breaks.
use Rattle.std.specs.Prelude.{◌≡◌, ◌≤◌, ℕ, Bool, true, false, List, [], ◌∷◌, Option, Some, None, if◌then◌else◌}
use Rattle.rl_defs.specs.declared.code.DomainLine.{DomainLine}
use Rattle.rl_defs.specs.DomainValue.{Domain}
use Rattle.rl_defs.specs.CodeKinds.{Kinds}
use Rattle.rl_defs.specs.CodeRules.{Sentence, has_kinds, has_cell, has_apart, spares_objects, leaves_nothing, enters_label, enters_head, names_label, moves_once, moves_or_lends, declares, has_its_words, has_import, has_functions, has_method, has_shape, has_one_struct, ends_before}

-- the rule of the first sentence that isn't kept
abbrev pub lowest : List Sentence → Option ℕ
lowest [] = None
lowest (s ∷ more) = if s.1 then lowest more else Some s.0

-- the sentences from a rule on, in the order of the rules
abbrev pub from_37 : Domain → ℕ → DomainLine → List Sentence
from_37 d n form = (37, ends_before d n form) ∷ []

abbrev pub from_36 : Domain → ℕ → Kinds → DomainLine → List Sentence
from_36 d n kinds form = (36, has_functions d form) ∷ (36, has_method d kinds form) ∷ (36, has_shape d form) ∷ (36, has_one_struct d form) ∷ from_37 d n form

abbrev pub from_35 : Domain → ℕ → Kinds → DomainLine → List Sentence
from_35 d n kinds form = (35, declares d form) ∷ (35, has_its_words d form) ∷ (35, has_import d form) ∷ from_36 d n kinds form

abbrev pub from_34 : Domain → ℕ → Kinds → DomainLine → List Sentence
from_34 d n kinds form = (34, moves_once kinds form) ∷ (34, moves_or_lends kinds form) ∷ from_35 d n kinds form

abbrev pub from_32 : Domain → ℕ → Kinds → DomainLine → List Sentence
from_32 d n kinds form = (32, enters_label d n kinds form) ∷ (32, enters_head d n kinds form) ∷ (33, names_label d n form) ∷ from_34 d n kinds form

abbrev pub from_31 : Domain → ℕ → Kinds → DomainLine → List Sentence
from_31 d n kinds form = (31, spares_objects kinds form) ∷ (31, leaves_nothing kinds form) ∷ from_32 d n kinds form

abbrev pub from_30 : Domain → ℕ → Kinds → DomainLine → List Sentence
from_30 d n kinds form = (30, has_kinds d n kinds form) ∷ (30, has_cell d kinds form) ∷ (30, has_apart form) ∷ from_31 d n kinds form

-- the lowest of the rules that are broken, none where no rule is
abbrev pub IsLowest : (ℕ → Bool) → Option ℕ → Type 0
IsLowest broken None = (r : ℕ) → broken r ≡ false
IsLowest broken (Some k) = (broken k ≡ true) × ((r : ℕ) → broken r ≡ true → k ≤ r)
