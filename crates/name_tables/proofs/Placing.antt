-- The place of a name among names with one more.
use Rattle.std.proofs.Common.{◌≡◌, ℕ, suc, ◌-◌, ◌^◌, ◌<◌, Bool, true, false, List, [], ◌∷◌, ◌++◌, length, Option, Some, None, refl, sym, ap, ◌∙◌, arith, cond, nat_eq, length-append}
use Rattle.std.specs.Prelude.{is_some}
use Rattle.std.proofs.lemmas.Slice.Eq.{slice_eq-Decides}
use Rattle.std.proofs.lemmas.Bool.Decides.{Decides-eqb}
use Rattle.std.specs.Option.{option_map}
use Rattle.std.specs.Cmp.Lexicographic.{pointwise}
use Rattle.indexmap.specs.IndexMap.{IndexMap, get, Updates}
use Rattle.rl_defs.specs.Interfaces.{place_of}
use Rattle.name_tables.specs.Placed.{IsPlaced}

-- what stood there before stays, and the new name is last
pub place_of_push : (names : List (List ℕ)) (name q : List ℕ) → place_of q (names ++ name ∷ []) ≡ cond (is_some (place_of q names)) (place_of q names) (cond (pointwise nat_eq name q) (Some (length names)) None)
place_of_push [] name q = pushed_first (pointwise nat_eq name q) where
  pushed_first : (b : Bool) → cond b (Some 0) (option_map (λ k. suc k) None) ≡ cond b (Some 0) None
  pushed_first true = refl
  pushed_first false = refl
place_of_push (x ∷ xs) name q = pushed (pointwise nat_eq x q) (pointwise nat_eq name q) (place_of q xs) (place_of q (xs ++ name ∷ [])) (length xs) (place_of_push xs name q) where
  mapped : (b c : Bool) (old : Option ℕ) (n : ℕ) → option_map (λ k. suc k) (cond (is_some old) old (cond c (Some n) None)) ≡ cond (is_some (option_map (λ k. suc k) old)) (option_map (λ k. suc k) old) (cond c (Some (suc n)) None)
  mapped b c (Some k) n = refl
  mapped b true None n = refl
  mapped b false None n = refl

  pushed : (b c : Bool) (old new : Option ℕ) (n : ℕ) → new ≡ cond (is_some old) old (cond c (Some n) None) → cond b (Some 0) (option_map (λ k. suc k) new) ≡ cond (is_some (cond b (Some 0) (option_map (λ k. suc k) old))) (cond b (Some 0) (option_map (λ k. suc k) old)) (cond c (Some (suc n)) None)
  pushed true c old new n e = refl
  pushed false c old new n e = ap (option_map (λ k. suc k)) e ∙ mapped false c old n

-- names of equal bytes are equal
pub same_name : (left right : List ℕ) → pointwise nat_eq left right ≡ true → left ≡ right
same_name left right is = (slice_eq-Decides Decides-eqb left right true (sym is)).0 refl

-- what a look-up says, where a name that is there comes again
again : (b : Bool) (place known : Option ℕ) (n : ℕ) → (b ≡ true → place ≡ known) → is_some known ≡ true → place ≡ cond (is_some place) place (cond b (Some n) None)
again b (Some k) known n same some = refl
again false None known n same some = refl
again true None (Some k) n same some = let e : None ≡ Some k = same refl in absurd cc
again true None None n same some = absurd cc

-- where a new name comes
fresh : (b : Bool) (place known : Option ℕ) (n : ℕ) → (b ≡ true → place ≡ known) → is_some known ≡ false → cond b (Some n) place ≡ cond (is_some place) place (cond b (Some n) None)
fresh true None known n same none = refl
fresh true (Some k) (Some j) n same none = absurd cc
fresh true (Some k) None n same none = let e : Some k ≡ None = same refl in absurd cc
fresh false None known n same none = refl
fresh false (Some k) known n same none = refl

same_place : (names : List (List ℕ)) (name q : List ℕ) → pointwise nat_eq name q ≡ true → place_of q names ≡ place_of name names
same_place names name q e = ap (λ (x : List ℕ). place_of x names) (sym (same_name name q e))

few_more : (names : List (List ℕ)) (name : List ℕ) → length names < 2 ^ 32 - 1 → length (names ++ name ∷ []) < 2 ^ 32
few_more names name room = omega (arith, length-append names (name ∷ []), room)

-- what a look-up says, where a name got another place and its first one back
restored : (b : Bool) (o : Option ℕ) (first place : ℕ) → (b ≡ true → o ≡ Some first) → cond b (Some first) (cond b (Some place) o) ≡ o
restored true o first place h = sym (h refl)
restored false o first place h = refl

-- a name that is there comes again: it gets its first place back
pub placed_again : {S : Type 0} (names more : List (List ℕ)) (name : List ℕ) (old mid new : IndexMap (List ℕ) ℕ S) (place first : ℕ) → IsPlaced names old → length names < 2 ^ 32 - 1 → get (pointwise nat_eq) old name ≡ Some first → more ≡ names ++ name ∷ [] → Updates (pointwise nat_eq) old mid name (Some place) → Updates (pointwise nat_eq) mid new name (Some first) → IsPlaced more new
placed_again names more name old mid new place first h room there is puts back = rw is (record {
  few = few_more names name room;
  place = λ q. back.0 q ∙ ap (λ (o : Option ℕ). cond (pointwise nat_eq name q) (Some first) o) (puts.0 q) ∙ restored (pointwise nat_eq name q) (get (pointwise nat_eq) old q) first place (λ e. h.place q ∙ same_place names name q e ∙ sym (h.place name) ∙ there) ∙ h.place q ∙ again (pointwise nat_eq name q) (place_of q names) (place_of name names) (length names) (same_place names name q) (ap is_some (sym (h.place name) ∙ there)) ∙ sym (place_of_push names name q);
})

-- a new name is put into the table with its place
pub placed_new : {S : Type 0} (names more : List (List ℕ)) (name : List ℕ) (old new : IndexMap (List ℕ) ℕ S) → IsPlaced names old → length names < 2 ^ 32 - 1 → is_some (get (pointwise nat_eq) old name) ≡ false → more ≡ names ++ name ∷ [] → Updates (pointwise nat_eq) old new name (Some (length names)) → IsPlaced more new
placed_new names more name old new h room absent is puts = rw is (record {
  few = few_more names name room;
  place = λ q. puts.0 q ∙ ap (λ (o : Option ℕ). cond (pointwise nat_eq name q) (Some (length names)) o) (h.place q) ∙ fresh (pointwise nat_eq name q) (place_of q names) (place_of name names) (length names) (same_place names name q) (ap is_some (sym (h.place name)) ∙ absent) ∙ sym (place_of_push names name q);
})
