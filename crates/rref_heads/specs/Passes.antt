-- What a call may ask of a pass, how it leaves it, and what closing a table tells.
use Rattle.std.specs.Prelude.{◌≡◌, ℕ, suc, ◌+◌, ◌<◌, ◌≤◌, List, [], ◌∷◌, map, length, Some, None}
use mathlib.Core.Option.{some}
use lib.ListN.{get_elem?}
use Rattle.machine_defs.specs.declared.heads.HeadWord.{HeadWord}
use Rattle.machine_defs.specs.declared.heads.HeadWord.TheVariants.{Vacant, Busy, Gone, Live}
use Rattle.machine_defs.specs.declared.heads.View.{View}
use Rattle.machine_defs.specs.declared.heads.Size.{Size}
use Rattle.rref_heads.specs.declared.table.Heads.{Heads}
use Rattle.rref_heads.specs.declared.table.Pass.{Pass}
use Rattle.machine_defs.specs.HeadSums.{total}
use Rattle.machine_defs.specs.Heads.{Kind, how_many, due, empty, rights_of, word_number, Table}
use Rattle.machine_defs.specs.HeadSteps.{titled, looked}
use Rattle.machine_defs.specs.Heads.{Slot}

-- what the pass knows
abbrev pub view : Pass → View
view p = p.seat.me.0

-- the word that its last look found, and the word that it left
abbrev pub found : Pass → HeadWord
found p = (view p).last_word

abbrev pub left : Pass → HeadWord
left p = (view p).left_word

-- what the pass knew before a call, with the look that the call made
abbrev pub after_look : ℕ → Pass → Pass → View
after_look h before after = looked h (found after) (left after) (view before)

-- how large a table is
abbrev pub size_of : Heads → Size
size_of t = record { heads = t.heads; seats = t.seats }

-- the pass is of this table
abbrev pub IsPassOf : Heads → Pass → Type 0
IsPassOf t p = p.seat.table_id ≡ t.table.shared.table_id

-- the pass is of the same table, and has the same number
abbrev pub IsSamePass : Pass → Pass → Type 0
IsSamePass p q = (q.seat.table_id ≡ p.seat.table_id) × (q.number ≡ p.number)

abbrev pub IsHead : Heads → ℕ → Type 0
IsHead t h = (1 ≤ h) × (h ≤ t.heads)

-- no claim, title, loan or right
abbrev pub IsEmpty : View → Type 0
IsEmpty v = (v.claims ≡ []) × (v.titles ≡ []) × (v.loans ≡ []) × (v.rights ≡ [])

-- one loan more may begin: there is room in the word, no receiver, and the head isn't freed
abbrev pub MayLend : HeadWord → Type 0
MayLend (Live l e None) = (l < 65535) × (rights_of e l ≡ 0)
MayLend (Live l e (Some t)) = ⊥
MayLend Vacant = ⊥
MayLend Busy = ⊥
MayLend Gone = ⊥

-- the view after a claim of h with the payload l: the title is had, and h stands in the claimed
-- list
abbrev pub after_claim : ℕ → List ℕ → View → View
after_claim h l v = record v { titles = titled h (Some l) ∷ v.titles; claimed = h ∷ v.claimed; looks = v.looks + 1; last_head = h; last_word = Vacant; left_word = Busy }

-- h joins the released list
abbrev pub with_released : ℕ → View → View
with_released h v = record v { released = h ∷ v.released }

-- passes of one table that know nothing, numbered from n
abbrev pub AreFresh : Heads → ℕ → List Pass → Type 0
AreFresh t n [] = Unit {0}
AreFresh t n (p ∷ ps) = IsPassOf t p × (p.number ≡ n) × (view p ≡ empty 1) × AreFresh t (n + 1) ps

-- all of this table, with empty views
abbrev pub AreEmpty : Heads → List Pass → Type 0
AreEmpty t [] = Unit {0}
AreEmpty t (p ∷ ps) = IsPassOf t p × IsEmpty (view p) × AreEmpty t ps

-- the sum over the views of these passes
abbrev pub sum_over : Kind → ℕ → List Pass → ℕ
sum_over k h ps = total (how_many k h) (map view ps)

-- the payload is there exactly where the word is live; no closed table has a busy head
abbrev pub IsPayloadOf : HeadWord → Slot → Type 0
IsPayloadOf Vacant o = o ≡ None
IsPayloadOf Busy o = ⊥
IsPayloadOf Gone o = o ≡ None
IsPayloadOf (Live l e to) o = (x : List ℕ) × (o ≡ Some x)

-- What closing the table tells of one head: its word, which is what the views of all passes ask
-- for, and its payload.
abbrev pub IsClosedHead : List Pass → List HeadWord → List Slot → ℕ → Type 0
IsClosedHead ps words payloads i = (a : HeadWord) × (o : Slot) × (get_elem? words i ≡ some a) × (get_elem? payloads i ≡ some o) × ((k : Kind) → sum_over k (suc i) ps ≡ due a k) × IsPayloadOf a o

abbrev pub IsClosed : ℕ → List Pass → List HeadWord → List Slot → Type 0
IsClosed n ps words payloads = (length words ≡ n) × (length payloads ≡ n) × ((i : ℕ) → i < n → IsClosedHead ps words payloads i)

-- the table that these words, payloads and views make
abbrev pub closed_table : List HeadWord → List Slot → List Pass → Table
closed_table words payloads ps = record { words = 0 ∷ map word_number words; homes = map some payloads; views = map view ps }
