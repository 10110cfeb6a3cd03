-- The kinds of step on a head: what each does to the word, and to the view and the places of the
-- seat that makes it.
use Rattle.std.specs.Prelude.{◌≡◌, ℕ, zero, suc, ◌+◌, ◌-◌, Bool, true, false, ◌&&◌, List, ◌∷◌, ◌++◌, Option, Some, None}
use Rattle.machine_defs.specs.declared.heads.HeadWord.{HeadWord}
use Rattle.machine_defs.specs.declared.heads.HeadWord.TheVariants.{Vacant, Busy, Gone, Live}
use Rattle.machine_defs.specs.declared.heads.Title.{Title}
use Rattle.machine_defs.specs.declared.heads.View.{View}
use Rattle.machine_defs.specs.HeadSums.{less}
use Rattle.machine_defs.specs.Heads.{itself, head_of, rights_of, empty}

pub data StepKind : Type 0 where
  Claim : StepKind
  Publish : StepKind
  Lend : StepKind
  GiveBack : StepKind
  Release : StepKind
  PassOn : StepKind
  TakeUp : StepKind
  End : StepKind

-- published a moment ago: no loan, not ended, no receiver
abbrev pub published : HeadWord
published = Live 0 false None

-- The word that a step of each kind finds, and the word that it leaves. A head may be lent while it
-- isn't ended, or is lent already.
abbrev pub Changes : StepKind → HeadWord → HeadWord → Type 0
Changes Claim a b = (a ≡ Vacant) × (b ≡ Busy)
Changes Publish a b = (a ≡ Busy) × (b ≡ published)
Changes Lend a b = (loans : ℕ) × (ended : Bool) × (rights_of ended loans ≡ 0) × (a ≡ Live loans ended None) × (b ≡ Live (suc loans) ended None)
Changes GiveBack a b = (loans : ℕ) × (ended : Bool) × (to : Option ℕ) × (a ≡ Live (suc loans) ended to) × (b ≡ Live loans ended to)
Changes Release a b = (to : Option ℕ) × (a ≡ Live 0 true to) × (b ≡ Gone)
Changes PassOn a b = (loans : ℕ) × (to : ℕ) × (a ≡ Live loans false None) × (b ≡ Live loans false (Some to))
Changes TakeUp a b = (to : ℕ) × (a ≡ Live 0 false (Some to)) × (b ≡ published)
Changes End a b = (loans : ℕ) × (a ≡ Live loans false None) × (b ≡ Live loans true None)

-- the words that the steps leave which may find more than one
abbrev pub lent_once_more : HeadWord → HeadWord
lent_once_more (Live loans ended to) = Live (suc loans) ended to
lent_once_more a = a

abbrev pub given_back_once : HeadWord → HeadWord
given_back_once (Live (suc loans) ended to) = Live loans ended to
given_back_once a = a

abbrev pub with_end : HeadWord → HeadWord
with_end (Live loans ended to) = Live loans true to
with_end a = a

abbrev pub titled : ℕ → Option (List ℕ) → Title
titled h l = record { head = h; list = l }

-- one look more, at the head h, which showed a and was left as b
abbrev pub looked : ℕ → HeadWord → HeadWord → View → View
looked h a b v = record v { looks = v.looks + 1; last_head = h; last_word = a; left_word = b }

-- what each step does to the view, beside the look
abbrev pub claiming : ℕ → View → View
claiming h v = record v { claims = h ∷ v.claims; claimed = h ∷ v.claimed }

abbrev pub publishing : ℕ → List ℕ → View → View
publishing h l v = record v { claims = less itself h v.claims; titles = titled h (Some l) ∷ v.titles }

abbrev pub lending : ℕ → View → View
lending h v = record v { loans = h ∷ v.loans }

abbrev pub giving_back : ℕ → View → View
giving_back h v = record v { loans = less itself h v.loans }

abbrev pub with_right : ℕ → View → View
with_right h v = record v { rights = h ∷ v.rights }

abbrev pub releasing : ℕ → View → View
releasing h v = record v { rights = less itself h v.rights; released = h ∷ v.released }

abbrev pub without_title : ℕ → View → View
without_title h v = record v { titles = less head_of h v.titles }

abbrev pub taking_up : ℕ → View → View
taking_up h v = record v { titles = titled h None ∷ v.titles }

abbrev pub one_loan : ℕ → Bool
one_loan zero = false
one_loan (suc zero) = true
one_loan (suc (suc l)) = false

abbrev pub no_loan : ℕ → Bool
no_loan zero = true
no_loan (suc l) = false

-- ended, with one loan: giving that back frees the head
abbrev pub is_last : HeadWord → Bool
is_last (Live l e to) = e && one_loan l
is_last a = false

-- no loan: ending it frees the head
abbrev pub is_idle : HeadWord → Bool
is_idle (Live l e to) = no_loan l
is_idle a = false

-- a seat that stands for several passes, after one of them left
abbrev pub one_fewer : View → View
one_fewer v = record v { passes = v.passes - 1 }

abbrev pub one_pass : View → View
one_pass v = empty 1

-- all that two views have, with the looks of the first
abbrev pub both : View → View → View
both v w = record {
  claims = v.claims ++ w.claims;
  titles = v.titles ++ w.titles;
  loans = v.loans ++ w.loans;
  rights = v.rights ++ w.rights;
  claimed = v.claimed ++ w.claimed;
  released = v.released ++ w.released;
  looks = v.looks;
  last_head = v.last_head;
  last_word = v.last_word;
  left_word = v.left_word;
  passes = v.passes + w.passes;
}
