-- Tables of names, one for each trait.
use Rattle.std.proofs.Common.{◌≡◌, ℕ, zero, suc, ◌+◌, ◌<◌, ◌^◌, List, [], ◌∷◌, ◌++◌, length, Option, Some, refl, sym, ap, subst, arith, map, take, add-one, All}
use Rattle.std.specs.Prelude.{slice_get}
use Rattle.std.proofs.lemmas.Option.{slice_get_within, get_or_from_slice_get}
use Rattle.std.proofs.lemmas.List.Elements.{All-get_or}
use Rattle.rl_defs.specs.declared.tables.TraitRow.{TraitRow}
use Rattle.rl_defs.specs.declared.tables.Tables.{Tables}
use Rattle.rl_defs.specs.Interfaces.{place_of}
use Rattle.rl_defs.specs.TableSizes.{AreTablesSmall, IsTraitSmall}
use Rattle.domain_checker.specs.Numbering.{look_in, AreLooks}

-- what all items of a list have
pub all_at : {A : Type 0} (P : A → Type 0) (xs : List A) (i : ℕ) (x : A) → All P xs → slice_get xs i ≡ Some x → P x
all_at P xs i x h e = subst P (get_or_from_slice_get xs i x x e) (All-get_or P xs i x (slice_get_within xs i x e) h)

looks_suc : {M : Type 0} (look : M → List ℕ → Option ℕ) (all : List M) (traits : List TraitRow) (m : M) (row : TraitRow) → length all ≡ length traits → AreLooks look all traits → ((q : List ℕ) → look m q ≡ place_of q (map (λ r. r.name) row.methods)) → AreLooks look (all ++ m ∷ []) (traits ++ row ∷ [])
looks_suc look [] [] m row long h new = record { long = refl; each = each } where
  each : (t : ℕ) (q : List ℕ) → look_in look (slice_get (m ∷ []) t) q ≡ place_of q (map (λ r. r.name) (Rattle.rl_defs.specs.CodeNames.rows_of (slice_get (row ∷ []) t)))
  each zero q = new q
  each (suc t) q = refl
looks_suc look [] (t ∷ traits) m row long h new = absurd (omega (arith, long))
looks_suc look (a ∷ all) [] m row long h new = absurd (omega (arith, long))
looks_suc look (a ∷ all) (t ∷ traits) m row long h new =
    let more = looks_suc look all traits m row (omega (arith, long)) (record { long = omega (arith, long); each = λ n q. h.each (suc n) q }) new in
    record { long = ap (λ (n : ℕ). suc n) more.long; each = each more } where
      each : AreLooks look (all ++ m ∷ []) (traits ++ row ∷ []) → (n : ℕ) (q : List ℕ) → look_in look (slice_get (a ∷ (all ++ m ∷ [])) n) q ≡ place_of q (map (λ r. r.name) (Rattle.rl_defs.specs.CodeNames.rows_of (slice_get (t ∷ (traits ++ row ∷ [])) n)))
      each more zero q = h.each zero q
      each more (suc n) q = more.each n q

take_suc_at : {A : Type 0} (xs : List A) (i : ℕ) (x : A) → slice_get xs i ≡ Some x → take (suc i) xs ≡ take i xs ++ x ∷ []
take_suc_at [] i x e = absurd cc
take_suc_at (y ∷ xs) zero x e = cc
take_suc_at (y ∷ xs) (suc i) x e = ap (λ ys. y ∷ ys) (take_suc_at xs i x e)

-- the items up to the one at i
pub take_at : {A : Type 0} (xs : List A) (i : ℕ) (x : A) → slice_get xs i ≡ Some x → take (i + 1) xs ≡ take i xs ++ x ∷ []
take_at xs i x e = rw add-one (take_suc_at xs i x e)

-- one trait more
pub looks_more : {M : Type 0} (look : M → List ℕ → Option ℕ) (old new : List M) (traits : List TraitRow) (i : ℕ) (m : M) (row : TraitRow) → new ≡ old ++ m ∷ [] → slice_get traits i ≡ Some row → AreLooks look old (take i traits) → ((q : List ℕ) → look m q ≡ place_of q (map (λ r. r.name) row.methods)) → AreLooks look new (take (i + 1) traits)
looks_more look old new traits i m row is here h more =
    subst (λ ms. AreLooks look ms (take (i + 1) traits)) (sym is) (subst (λ ts. AreLooks look (old ++ m ∷ []) ts) (sym (take_at traits i row here)) (looks_suc look old (take i traits) m row h.long h more))

-- the traits of small tables have few methods
pub few_methods : (tables : Tables) (traits : List TraitRow) → AreTablesSmall tables → traits ≡ tables.traits → (t : ℕ) (row : TraitRow) → slice_get traits t ≡ Some row → length row.methods < 2 ^ 32
few_methods tables traits small same t row e = (all_at IsTraitSmall tables.traits t row small.traits (subst (λ ts. slice_get ts t ≡ Some row) same e)).few
