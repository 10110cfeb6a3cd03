-- What the two passes of a run hold, as lists that their callers keep, and how many heads are gone.
use Rattle.std.specs.Prelude.{◌≡◌, ℕ, ◌+◌, ◌≤◌, List, [], ◌∷◌, map, reverse, length}
use Rattle.machine_defs.specs.declared.heads.HeadWord.{HeadWord}
use Rattle.machine_defs.specs.declared.heads.View.{View}
use Rattle.machine_defs.specs.Heads.{head_of, due, released_entry}

-- each is a head of a table of n
abbrev pub AreHeads : ℕ → List ℕ → Type 0
AreHeads n [] = Unit {0}
AreHeads n (h ∷ hs) = (1 ≤ h) × (h ≤ n) × AreHeads n hs

-- its titles are of these heads, the last first, and it has nothing else
abbrev pub HoldsTitles : ℕ → List ℕ → View → Type 0
HoldsTitles n heads v = (map head_of v.titles ≡ reverse heads) × AreHeads n heads × (v.claims ≡ []) × (v.loans ≡ []) × (v.rights ≡ [])

-- its loans are of these heads, the last first, and it has nothing else
abbrev pub HoldsLoans : ℕ → List ℕ → View → Type 0
HoldsLoans n heads v = (v.loans ≡ reverse heads) × AreHeads n heads × (v.claims ≡ []) × (v.titles ≡ []) × (v.rights ≡ [])

-- it released so many heads of the table
abbrev pub Released : ℕ → ℕ → View → Type 0
Released n count v = (length v.released ≡ count) × AreHeads n v.released

-- how many of these words are gone
abbrev pub gone_count : List HeadWord → ℕ
gone_count [] = 0
gone_count (a ∷ words) = due a released_entry + gone_count words
