-- What a head word shows, what each view may have of a head, and the rule of the table.
use Rattle.std.specs.Prelude.{◌≡◌, ℕ, zero, suc, ◌+◌, ◌-◌, ◌*◌, ◌<◌, ◌≤◌, Bool, true, false, cond, ◌==◌, List, [], ◌∷◌, length, slice_index, Option, Some, None}
use mathlib.Core.Option.{some, none}
use mathlib.Core.Option as maybe
use lib.ListN.{get_elem?}
use Rattle.machine_defs.specs.declared.heads.HeadWord.{HeadWord}
use Rattle.machine_defs.specs.declared.heads.HeadWord.TheVariants.{Vacant, Busy, Gone, Live}
use Rattle.machine_defs.specs.declared.heads.Title.{Title}
use Rattle.machine_defs.specs.declared.heads.View.{View}
use Rattle.machine_defs.specs.declared.heads.Size.{Size}
use Rattle.machine_defs.specs.HeadSums.{total, count}

-- what a view may have of a head
pub data Kind : Type 0 where
  claim : Kind
  title : Kind
  loan : Kind
  right : Kind
  claimed_entry : Kind
  released_entry : Kind

abbrev pub head_of : Title → ℕ
head_of t = t.head

abbrev pub itself : ℕ → ℕ
itself h = h

-- the number that a view gives for a head
abbrev pub how_many : Kind → ℕ → View → ℕ
how_many claim h v = count itself h v.claims
how_many title h v = count head_of h v.titles
how_many loan h v = count itself h v.loans
how_many right h v = count itself h v.rights
how_many claimed_entry h v = count itself h v.claimed
how_many released_entry h v = count itself h v.released

-- one title, where a head is not ended and has no receiver
abbrev pub titles_of : Bool → Option ℕ → ℕ
titles_of true to = 0
titles_of false None = 1
titles_of false (Some t) = 0

-- one right of release, where a head is ended and has no loan
abbrev pub rights_of : Bool → ℕ → ℕ
rights_of true zero = 1
rights_of true (suc l) = 0
rights_of false l = 0

-- the sum over all views that a head word asks for
abbrev pub due : HeadWord → Kind → ℕ
due Vacant k = 0
due Busy claim = 1
due Busy claimed_entry = 1
due Busy k = 0
due Gone claimed_entry = 1
due Gone released_entry = 1
due Gone k = 0
due (Live l e to) claim = 0
due (Live l e to) title = titles_of e to
due (Live l e to) loan = l
due (Live l e to) right = rights_of e l
due (Live l e to) claimed_entry = 1
due (Live l e to) released_entry = 0

abbrev pub mark : Bool → ℕ
mark true = 1
mark false = 0

abbrev pub receiver_number : Option ℕ → ℕ
receiver_number None = 0
receiver_number (Some t) = t + 1

-- the number that the head word is
abbrev pub word_number : HeadWord → ℕ
word_number Vacant = 0
word_number Busy = 1
word_number Gone = 2
word_number (Live l e to) = 3 + 4 * l + 262144 * mark e + 524288 * receiver_number to

abbrev pub Fits : ℕ → HeadWord → Type 0
Fits seats Vacant = Unit {0}
Fits seats Busy = Unit {0}
Fits seats Gone = Unit {0}
Fits seats (Live l e to) = (l < 65536) × (receiver_number to ≤ seats)

-- a payload, where there is one
abbrev pub Slot : Type 0
Slot = Option (List ℕ)

-- a payload's place: none where a seat has it, else what is at home
abbrev pub Place : Type 0
Place = maybe.Option (maybe.Option Slot)

abbrev pub KeptUnless : ℕ → Place → Type 0
KeptUnless zero p = (l : List ℕ) × (p ≡ some (some (Some l)))
KeptUnless (suc n) p = p ≡ some none

-- where the payload of a head is
abbrev pub Home : HeadWord → Place → Type 0
Home Vacant p = p ≡ some (some None)
Home Busy p = p ≡ some none
Home Gone p = p ≡ some (some None)
Home (Live l e to) p = KeptUnless (rights_of e l) p

-- what the title of h among these knows
abbrev pub known : ℕ → List Title → Option (List ℕ)
known h [] = None
known h (t ∷ ts) = cond (t.head == h) t.list (known h ts)

-- the words, the payloads' places and the views of all seats. The word 0 belongs to the seats; the
-- head h has the word h and the place h - 1
pub record Table : Type 0 where
  pub words : List ℕ
  pub homes : List (maybe.Option Slot)
  pub views : List View

-- the list that a title knows is at home
abbrev pub IsKnown : ℕ → View → Place → Type 0
IsKnown h v p = (l : List ℕ) → known h v.titles ≡ Some l → p ≡ some (some (Some l))

pub record HeadKept (seats : ℕ) (s : Table) (h : ℕ) : Type 0 where
  pub word : HeadWord
  pub shows : slice_index s.words h ≡ word_number word
  pub fits : Fits seats word
  pub sums : (k : Kind) → total (how_many k h) s.views ≡ due word k
  pub home : Home word (get_elem? s.homes (h - 1))
  pub knows : (j : ℕ) (v : View) → get_elem? s.views j ≡ some v → IsKnown h v (get_elem? s.homes (h - 1))

abbrev pub passes : View → ℕ
passes v = v.passes

-- The rule of the table, between any two steps
pub record HeadRule (size : Size) (s : Table) : Type 0 where
  pub wide : length s.words ≡ size.heads + 1
  pub deep : length s.homes ≡ size.heads
  pub few : size.seats ≤ 64
  pub heads : (h : ℕ) → 1 ≤ h → h ≤ size.heads → HeadKept size.seats s h
  pub seats : total passes s.views ≡ size.seats
  pub spent : (j : ℕ) (v : View) → get_elem? s.views j ≡ some v → v.passes ≡ 0 → (k : Kind) (h : ℕ) → how_many k h v ≡ 0

abbrev pub empty : ℕ → View
empty n = record { claims = []; titles = []; loans = []; rights = []; claimed = []; released = []; looks = 0; last_head = 0; last_word = Vacant; left_word = Vacant; passes = n }

abbrev pub first : Size → View
first size = empty size.seats
