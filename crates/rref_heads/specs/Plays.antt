-- The rule and the kinds of step in the terms of the base crate: what each step tells the seat that
-- makes it.
use Rattle.std.specs.Prelude.{◌≡◌, ◌≢◌, ℕ, ◌+◌, ◌-◌, Bool, true, false, List, [], ◌∷◌, Some, None}
use Rattle.atomic_table.specs.Table.{State, Me, Step}
use Rattle.machine_defs.specs.declared.heads.HeadWord.{HeadWord}
use Rattle.machine_defs.specs.declared.heads.HeadWord.TheVariants.{Busy, Gone, Live}
use Rattle.machine_defs.specs.declared.heads.View.{View}
use Rattle.machine_defs.specs.declared.heads.Size.{Size}
use Rattle.machine_defs.specs.Heads.{Slot, Table, HeadRule, word_number, Fits, known}
use Rattle.machine_defs.specs.HeadSteps.{StepKind, Claim, Lend, GiveBack, TakeUp, End, Changes, published, lent_once_more, given_back_once, with_end, looked, claiming, publishing, lending, giving_back, with_right, releasing, without_title, taking_up, is_last, is_idle}

-- a table of the base crate, and the same as the definitions have it
abbrev pub TableState : Type 0
TableState = State Slot View

abbrev pub table_of : TableState → Table
table_of s = record { words = s.words; homes = s.homes; views = s.views }

abbrev pub Holds : Size → TableState → Type 0
Holds size s = HeadRule size (table_of s)

-- a seat: its view, and the places that it holds
abbrev pub Seated : Type 0
Seated = Me Slot View

abbrev pub looked_seat : ℕ → HeadWord → HeadWord → Seated → Seated
looked_seat h a b m = (looked h a b m.0, m.1)

-- a view changes, and no place
abbrev pub on_view : (ℕ → View → View) → ℕ → Seated → Seated
on_view f h m = (f h m.0, m.1)

-- the claim, and the payload's place, which is empty
abbrev pub claims_seat : ℕ → Seated → Seated
claims_seat h m = (claiming h m.0, (h - 1, None) ∷ m.1)

-- What a step tells the seat that makes it: of the step, the seat before, the number that was found
-- (of a store, the number that it left), and the seat after.

-- A compare and exchange looks at the head. Where it found the expected word, it left the other
-- one, and the seat does as `made` says; else it left the word as it was.
abbrev pub Tried : StepKind → (HeadWord → HeadWord) → (ℕ → Seated → Seated) → Step Slot → Seated → ℕ → Seated → Type 0
Tried kind left made st m n m' = (a : HeadWord) × (n ≡ word_number a) × Fits 64 a
    × (n ≡ st.first → Changes kind a (left a) × (st.second ≡ word_number (left a)) × (m' ≡ made st.word (looked_seat st.word a (left a) m)))
    × (n ≢ st.first → m' ≡ looked_seat st.word a a m)

-- A fetch looks at the head and does `f` to the view. Where `frees`, the seat gains the right of
-- release, with the payload, which is as `knows` says.
abbrev pub Fetched : StepKind → (HeadWord → HeadWord) → (HeadWord → Bool) → (ℕ → View → View) → (View → List ℕ → Type 0) → Step Slot → Seated → ℕ → Seated → Type 0
Fetched kind left frees f knows st m n m' = (a : HeadWord) × (n ≡ word_number a) × Fits 64 a × Changes kind a (left a)
    × (frees a ≡ true → (l : List ℕ) × knows m.0 l × (m' ≡ (with_right st.word (f st.word (looked st.word a (left a) m.0)), (st.word - 1, Some l) ∷ m.1)))
    × (frees a ≡ false → m' ≡ (f st.word (looked st.word a (left a) m.0), m.1))

abbrev pub busy : HeadWord → HeadWord
busy a = Busy

abbrev pub Claims : Step Slot → Seated → ℕ → Seated → Type 0
Claims = Tried Claim busy claims_seat

-- the store that publishes, once the payload l is in its place
abbrev pub Publishes : Step Slot → Seated → ℕ → Seated → Type 0
Publishes st m n m' = (n ≡ word_number published) × ((l : List ℕ) → m.1 ≡ (st.word - 1, Some l) ∷ [] → m' ≡ (publishing st.word l m.0, []))

abbrev pub Lends : Step Slot → Seated → ℕ → Seated → Type 0
Lends = Tried Lend lent_once_more (on_view lending)

abbrev pub GivesBack : Step Slot → Seated → ℕ → Seated → Type 0
GivesBack = Fetched GiveBack given_back_once is_last giving_back (λ v l. Unit {0})

-- the store that releases, once the payload is out of its place
abbrev pub Releases : Step Slot → Seated → ℕ → Seated → Type 0
Releases st m n m' = (n ≡ word_number Gone) × (m' ≡ (releasing st.word m.0, []))

abbrev pub to_published : HeadWord → HeadWord
to_published a = published

abbrev pub TakesUp : Step Slot → Seated → ℕ → Seated → Type 0
TakesUp = Tried TakeUp to_published (on_view taking_up)

-- a payload comes out as the title knew it
abbrev pub Ends : Step Slot → Seated → ℕ → Seated → Type 0
Ends st = Fetched End with_end is_idle without_title (λ v l. (k : List ℕ) → known st.word v.titles ≡ Some k → l ≡ k) st

-- the holder of the title adds the receiver's number to the word, and loses the title
abbrev pub PassesOn : Step Slot → Seated → ℕ → Seated → Type 0
PassesOn st m n m' = (loans : ℕ) × (to : ℕ) × (n ≡ word_number (Live loans false None)) × (n + st.first ≡ word_number (Live loans false (Some to)))
    × (m' ≡ (without_title st.word (looked st.word (Live loans false None) (Live loans false (Some to)) m.0), m.1))
