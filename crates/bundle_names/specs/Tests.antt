-- Tests of names: given before, or given by nothing.
use Rattle.std.specs.Prelude.{ℕ, ◌||◌, Bool, true, false, List, [], ◌∷◌, ◌++◌, Option, Some, None, is_some, is_none, slice_get}
use Rattle.std.specs.List.{list_any}
use Rattle.rl_defs.specs.Interfaces.{place_of}

abbrev pub is_given : List (List ℕ) → List ℕ → Bool
is_given names name = is_some (place_of name names)

abbrev pub is_unknown : List (List ℕ) → List ℕ → Bool
is_unknown names name = is_none (place_of name names)

-- one of the names that are given now was given before, or earlier among them
abbrev pub repeats : List (List ℕ) → List (List ℕ) → Bool
repeats before [] = false
repeats before (name ∷ more) = is_given before name || repeats (before ++ name ∷ []) more

-- one of the names that are used is none of those declared
abbrev pub has_unknown : List (List ℕ) → List (List ℕ) → Bool
has_unknown declared used = list_any (is_unknown declared) used

-- the item at a place, where there is a place
abbrev pub item_at : {X : Type 0} → List X → Option ℕ → Option X
item_at items None = None
item_at items (Some place) = slice_get items place

-- there is a table, and the name isn't in it
abbrev pub lacks : Option (List (List ℕ)) → List ℕ → Bool
lacks None name = false
lacks (Some names) name = is_unknown names name

-- the lower of the rules that a line breaks: it gives a name again, or it names nothing
abbrev pub rule_of : Bool → Bool → Option ℕ
rule_of true nothing = Some 3
rule_of false true = Some 4
rule_of false false = None
