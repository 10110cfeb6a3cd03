-- Lists that are put together one line at a time.
use Rattle.std.proofs.Common.{◌≡◌, ℕ, ◌+◌, ◌≤◌, List, [], ◌∷◌, ◌++◌, length, drop, refl, sym, ap, ◌∙◌, Some, append_assoc}
use Rattle.std.specs.Prelude.{slice_get}
use Rattle.std.specs.List.{slice_index_or}
use Rattle.std.proofs.lemmas.List.{append-nil, drop_all}
use Rattle.rl_defs.proofs.Places.{drop_at}

-- what is gathered so far, and what the lines from a place on give, are what all lines give
pub record Gathers {A X : Type 0} (G : List A → List X) (xs : List A) (place : ℕ) (gathered : List X) : Type 0 where
  pub all : gathered ++ G (drop place xs) ≡ G xs

pub gather_first : {A X : Type 0} (G : List A → List X) (xs : List A) (gathered : List X) → gathered ≡ [] → Gathers G xs 0 gathered
gather_first G xs gathered none = record { all = ap (λ ys. ys ++ G xs) none }

pub gather_more : {A X : Type 0} (G : List A → List X) (xs : List A) (place : ℕ) (x : A) (ys before after : List X) → Gathers G xs place before → slice_get xs place ≡ Some x → ((rest : List A) → G (x ∷ rest) ≡ ys ++ G rest) → after ≡ before ++ ys → Gathers G xs (place + 1) after
gather_more G xs place x ys before after h here step more =
    let rest = drop (place + 1) xs in
    record { all = ap (λ zs. zs ++ G rest) more ∙ append_assoc before ys (G rest) ∙ ap (λ zs. before ++ zs) (sym (ap G (drop_at xs place x here) ∙ step rest)) ∙ h.all }

pub gather_none : {A X : Type 0} (G : List A → List X) (xs : List A) (place : ℕ) (x : A) (gathered : List X) → Gathers G xs place gathered → slice_get xs place ≡ Some x → ((rest : List A) → G (x ∷ rest) ≡ G rest) → Gathers G xs (place + 1) gathered
gather_none G xs place x gathered h here step =
    let rest = drop (place + 1) xs in
    record { all = ap (λ zs. gathered ++ zs) (sym (ap G (drop_at xs place x here) ∙ step rest)) ∙ h.all }

pub gather_all : {A X : Type 0} (G : List A → List X) (xs : List A) (place : ℕ) (gathered : List X) → Gathers G xs place gathered → length xs ≤ place → G [] ≡ [] → gathered ≡ G xs
gather_all G xs place gathered h le none = sym (append-nil gathered) ∙ ap (λ zs. gathered ++ zs) (sym none ∙ sym (ap G (drop_all place xs le))) ∙ h.all

-- the first thing that lines give
pub first_found : {A X : Type 0} (G : List A → List X) (xs : List A) (place : ℕ) (x : A) (y other : X) → Gathers G xs place [] → slice_get xs place ≡ Some x → ((rest : List A) → G (x ∷ rest) ≡ y ∷ G rest) → y ≡ slice_index_or (G xs) 0 other
first_found G xs place x y other h here step = sym (ap (λ zs. slice_index_or zs 0 other) (sym h.all ∙ ap G (drop_at xs place x here) ∙ step (drop (place + 1) xs)))

pub first_missing : {A X : Type 0} (G : List A → List X) (xs : List A) (place : ℕ) (other : X) → Gathers G xs place [] → length xs ≤ place → G [] ≡ [] → other ≡ slice_index_or (G xs) 0 other
first_missing G xs place other h le none = ap (λ zs. slice_index_or zs 0 other) (gather_all G xs place [] h le none)

-- the same behind what was there before
pub record GathersBehind {A X : Type 0} (G : List A → List X) (xs : List A) (place : ℕ) (before now : List X) : Type 0 where
  pub gathered : List X
  pub whole : now ≡ before ++ gathered
  pub all : Gathers G xs place gathered

pub behind_first : {A X : Type 0} (G : List A → List X) (xs : List A) (before : List X) → GathersBehind G xs 0 before before
behind_first G xs before = record { gathered = []; whole = sym (append-nil before); all = gather_first G xs [] refl }

pub behind_more : {A X : Type 0} (G : List A → List X) (xs : List A) (place : ℕ) (x : A) (ys before old new : List X) → GathersBehind G xs place before old → slice_get xs place ≡ Some x → ((rest : List A) → G (x ∷ rest) ≡ ys ++ G rest) → new ≡ old ++ ys → GathersBehind G xs (place + 1) before new
behind_more G xs place x ys before old new h here step more = record {
  gathered = h.gathered ++ ys;
  whole = more ∙ ap (λ zs. zs ++ ys) h.whole ∙ append_assoc before h.gathered ys;
  all = gather_more G xs place x ys h.gathered (h.gathered ++ ys) h.all here step refl;
}

pub behind_all : {A X : Type 0} (G : List A → List X) (xs : List A) (place : ℕ) (before now : List X) → GathersBehind G xs place before now → length xs ≤ place → G [] ≡ [] → now ≡ before ++ G xs
behind_all G xs place before now h le none = h.whole ∙ ap (λ zs. before ++ zs) (gather_all G xs place h.gathered h.all le none)
