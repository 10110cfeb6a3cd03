-- First instances.
use Rattle.std.proofs.Common.{◌≡◌, ◌∙◌, ℕ, zero, suc, ◌+◌, ◌-◌, ◌<◌, List, [], ◌∷◌, ◌++◌, Option, None, Bool, true, length, take, drop, map, replicate, refl, ap, sym, append_assoc, add-one, arith, drop-cons, slice_index_or}
use Rattle.std.proofs.lemmas.Simd.{splat_is_map}
use Rattle.rl_defs.specs.declared.load.LoadRows.{LoadRows}
use Rattle.rl_defs.specs.declared.load.LoadRow.{LoadRow}
use Rattle.rl_defs.specs.Domains.{Lines, domain_of, words_of, slots_of}
use Rattle.machine_defs.specs.State.{Instance, first_instance, first_instances}

take_of_none : {A : Type 0} (n : ℕ) (old : List A) → old ≡ [] → take n old ≡ []
take_of_none zero [] e = refl
take_of_none (suc n) [] e = refl
take_of_none n (x ∷ xs) e = cc

-- a fresh list that was filled up
pub filled : {A : Type 0} (n len : ℕ) (old new : List A) (x : A) → old ≡ [] → len ≡ 0 → new ≡ take n old ++ replicate (n - len) x → new ≡ replicate n x
filled n len old new x e l h =
    let none : take n old ≡ [] = take_of_none n old e in
    let many : n - len ≡ n = omega arith in
    h ∙ rw (none, many) refl

pub first_is : (L : LoadRows) (k : ℕ) (l : LoadRow) (lines : Lines) (words : List ℕ) (slots : List (Option ℕ)) (n m : ℕ)
    → lines ≡ domain_of L l.domain → n ≡ words_of lines → m ≡ length (slots_of lines) → words ≡ replicate n 0 → slots ≡ replicate m None
    → record { load = k; live = true; words = words; slots = slots } ≡ first_instance L k l
first_is L k l lines words slots n m of_lines of_words of_slots w s =
    let same_words : words ≡ replicate (words_of (domain_of L l.domain)) 0 = cc in
    let many : length (slots_of (domain_of L l.domain)) ≡ m = cc in
    let same_slots : slots ≡ map (λ slot. None) (slots_of (domain_of L l.domain)) = s ∙ splat_is_map (slots_of (domain_of L l.domain)) m None many in
    rw (same_words, same_slots) refl

-- of a list of loads, the first one's instance comes first
pub next_first : (L : LoadRows) (k i : ℕ) (loads : List LoadRow) (d : LoadRow) → i < length loads
    → first_instances L k (drop i loads) ≡ first_instance L k (slice_index_or loads i d) ∷ first_instances L (k + 1) (drop (i + 1) loads)
next_first L k i loads d within =
    let split : drop i loads ≡ slice_index_or loads i d ∷ drop (i + 1) loads = rw add-one (drop-cons loads i d within) in
    ap (first_instances L k) split
