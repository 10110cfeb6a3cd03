-- What is known before a line of a domain.
use Rattle.std.specs.Prelude.{◌≡◌, ℕ, ◌≤◌, ◌<◌, ◌^◌, Bool, List, length, Option}
use Rattle.rl_defs.specs.declared.tables.Kind.{Kind}
use Rattle.rl_defs.specs.DomainValue.{Domain}
use Rattle.rl_defs.specs.CodeNames.{function_at, label_at, method_at, results_of}
use Rattle.rl_defs.specs.CodeKinds.{Kinds, kinds_at}
use Rattle.rl_defs.specs.CodeRules.{is_reached, is_inside}

-- Before line n: the kinds of the registers; whether the line is reached from the line before it; whether it is in a function, and what
-- the results and the labels of this function are.
pub record Known (d : Domain) (n : ℕ) (kinds : Kinds) (reached inside : Bool) (results : List Kind) (label : List ℕ → Option ℕ) : Type 0 where
  pub short : length d.lines < 2 ^ 31
  pub within : n ≤ length d.lines
  pub kinds_are : kinds ≡ kinds_at d n
  pub reached_is : reached ≡ is_reached d n
  pub inside_is : inside ≡ is_inside (function_at d.lines n)
  pub results_are : results ≡ results_of (method_at d n)
  pub labels_are : (q : List ℕ) → label q ≡ label_at d.lines n q
