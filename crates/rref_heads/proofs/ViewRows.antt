-- What each step does to the numbers of its seat's view.
use Rattle.std.proofs.Common.{◌≡◌, ◌≢◌, ℕ, suc, ◌+◌, ◌≤◌, eqb, Bool, true, false, cond, List, [], ◌∷◌, Option, Some, None, sym, refl, ap, ◌∙◌, arith, eq-eqb, ne_eqb}
use mathlib.Core.Logic.{dite}
use native.Mathlib.Decide.{ℕ_discrete}
use Rattle.machine_defs.specs.declared.heads.HeadWord.{HeadWord}
use Rattle.machine_defs.specs.declared.heads.HeadWord.TheVariants.{Vacant, Busy, Gone, Live}
use Rattle.machine_defs.specs.declared.heads.Title.{Title}
use Rattle.machine_defs.specs.declared.heads.View.{View}
use Rattle.machine_defs.specs.HeadSums.{count, less}
use Rattle.machine_defs.specs.Heads.{Kind, claim, title, loan, right, claimed_entry, released_entry, head_of, itself, how_many, due, rights_of, titles_of, known}
use Rattle.machine_defs.specs.HeadSteps.{titled, looked, claiming, publishing, lending, giving_back, with_right, releasing, without_title, taking_up}
use Rattle.rref_heads.proofs.HeadSums.{count_here, count_less, count_apart, less_apart, less_here, less_else}
use Rattle.rref_heads.proofs.RuleKept.{Row}

known_else : (h j : ℕ) (l : Option (List ℕ)) (ts : List Title) → j ≢ h → known j (titled h l ∷ ts) ≡ known j ts
known_else h j l ts n = ap (λ b. cond b l (known j ts)) (ne_eqb h j (λ e. n (sym e)))

pub known_here : (h : ℕ) (l : Option (List ℕ)) (ts : List Title) → known h (titled h l ∷ ts) ≡ l
known_here h l ts = ap (λ b. cond b l (known h ts)) (eq-eqb h h refl)

known_less : (h j : ℕ) (ts : List Title) → j ≢ h → known j (less head_of h ts) ≡ known j ts
known_less h j [] n = refl
known_less h j (t ∷ ts) n = dite (ℕ_discrete t.head h)
    (λ e. ap (known j) (less_here head_of h t ts e) ∙ sym (ap (λ b. cond b t.list (known j ts)) (ne_eqb t.head j (λ q. n (sym q ∙ e)))))
    (λ o. ap (known j) (less_else head_of h t ts o) ∙ ap (λ r. cond (eqb t.head j) t.list r) (known_less h j ts n))

module _ (h : ℕ) where
  gain : (xs : List ℕ) → count itself h (h ∷ xs) ≡ suc (count itself h xs)
  gain xs = count_here itself h h xs refl

  gain_apart : (j : ℕ) (xs : List ℕ) → j ≢ h → count itself j (h ∷ xs) ≡ count itself j xs
  gain_apart j xs n = count_apart itself h j n h xs refl

  look_num : (a b : HeadWord) (v : View) (k : Kind) (j : ℕ) → how_many k j (looked h a b v) ≡ how_many k j v
  look_num a b v claim j = refl
  look_num a b v title j = refl
  look_num a b v loan j = refl
  look_num a b v right j = refl
  look_num a b v claimed_entry j = refl
  look_num a b v released_entry j = refl

  pub look_row : (a : HeadWord) (v : View) → Row h a a v (looked h a a v)
  look_row a v = record { here = λ k. ap (λ n. n + due a k) (look_num a a v k h); apart = λ k j n. look_num a a v k j; known_apart = λ j n. refl; as_many = refl }

  claim_here : (v : View) (k : Kind) → how_many k h (claiming h (looked h Vacant Busy v)) + due Vacant k ≡ how_many k h v + due Busy k
  claim_here v claim = let g = gain v.claims in omega arith
  claim_here v title = refl
  claim_here v loan = refl
  claim_here v right = refl
  claim_here v claimed_entry = let g = gain v.claimed in omega arith
  claim_here v released_entry = refl

  claim_apart : (v : View) (k : Kind) (j : ℕ) → j ≢ h → how_many k j (claiming h (looked h Vacant Busy v)) ≡ how_many k j v
  claim_apart v claim j n = gain_apart j v.claims n
  claim_apart v title j n = refl
  claim_apart v loan j n = refl
  claim_apart v right j n = refl
  claim_apart v claimed_entry j n = gain_apart j v.claimed n
  claim_apart v released_entry j n = refl

  pub claim_row : (v : View) → Row h Vacant Busy v (claiming h (looked h Vacant Busy v))
  claim_row v = record { here = claim_here v; apart = claim_apart v; known_apart = λ j n. refl; as_many = refl }

  publish_here : (v : View) (l : List ℕ) → 1 ≤ how_many claim h v → (k : Kind) → how_many k h (publishing h l v) + due Busy k ≡ how_many k h v + due (Live 0 false None) k
  publish_here v l p claim = let g = count_less itself h v.claims p in omega arith
  publish_here v l p title = let g = count_here head_of h (titled h (Some l)) v.titles refl in omega arith
  publish_here v l p loan = refl
  publish_here v l p right = refl
  publish_here v l p claimed_entry = refl
  publish_here v l p released_entry = refl

  publish_apart : (v : View) (l : List ℕ) (k : Kind) (j : ℕ) → j ≢ h → how_many k j (publishing h l v) ≡ how_many k j v
  publish_apart v l claim j n = less_apart itself h j n v.claims
  publish_apart v l title j n = count_apart head_of h j n (titled h (Some l)) v.titles refl
  publish_apart v l loan j n = refl
  publish_apart v l right j n = refl
  publish_apart v l claimed_entry j n = refl
  publish_apart v l released_entry j n = refl

  pub publish_row : (v : View) (l : List ℕ) → 1 ≤ how_many claim h v → Row h Busy (Live 0 false None) v (publishing h l v)
  publish_row v l p = record { here = publish_here v l p; apart = publish_apart v l; known_apart = λ j n. known_else h j (Some l) v.titles n; as_many = refl }

  lend_here : (v : View) (l : ℕ) (e : Bool) (to : Option ℕ) → rights_of e l ≡ 0 → rights_of e (suc l) ≡ 0 → (k : Kind) → how_many k h (lending h (looked h (Live l e to) (Live (suc l) e to) v)) + due (Live l e to) k ≡ how_many k h v + due (Live (suc l) e to) k
  lend_here v l e to a b claim = refl
  lend_here v l e to a b title = refl
  lend_here v l e to a b loan = let g = gain v.loans in omega arith
  lend_here v l e to a b right = omega arith
  lend_here v l e to a b claimed_entry = refl
  lend_here v l e to a b released_entry = refl

  lend_apart : (v : View) (a b : HeadWord) (k : Kind) (j : ℕ) → j ≢ h → how_many k j (lending h (looked h a b v)) ≡ how_many k j v
  lend_apart v a b claim j n = refl
  lend_apart v a b title j n = refl
  lend_apart v a b loan j n = gain_apart j v.loans n
  lend_apart v a b right j n = refl
  lend_apart v a b claimed_entry j n = refl
  lend_apart v a b released_entry j n = refl

  pub lend_row : (v : View) (l : ℕ) (e : Bool) (to : Option ℕ) → rights_of e l ≡ 0 → rights_of e (suc l) ≡ 0 → Row h (Live l e to) (Live (suc l) e to) v (lending h (looked h (Live l e to) (Live (suc l) e to) v))
  lend_row v l e to a b = record { here = lend_here v l e to a b; apart = lend_apart v (Live l e to) (Live (suc l) e to); known_apart = λ j n. refl; as_many = refl }

  back_apart : (v : View) (a b : HeadWord) (k : Kind) (j : ℕ) → j ≢ h → how_many k j (giving_back h (looked h a b v)) ≡ how_many k j v
  back_apart v a b claim j n = refl
  back_apart v a b title j n = refl
  back_apart v a b loan j n = less_apart itself h j n v.loans
  back_apart v a b right j n = refl
  back_apart v a b claimed_entry j n = refl
  back_apart v a b released_entry j n = refl

  back_here : (v : View) (l : ℕ) (e : Bool) (to : Option ℕ) → 1 ≤ how_many loan h v → rights_of e l ≡ 0 → rights_of e (suc l) ≡ 0 → (k : Kind)
      → how_many k h (giving_back h (looked h (Live (suc l) e to) (Live l e to) v)) + due (Live (suc l) e to) k ≡ how_many k h v + due (Live l e to) k
  back_here v l e to p a b claim = refl
  back_here v l e to p a b title = refl
  back_here v l e to p a b loan = let g = count_less itself h v.loans p in omega arith
  back_here v l e to p a b right = omega arith
  back_here v l e to p a b claimed_entry = refl
  back_here v l e to p a b released_entry = refl

  pub back_row : (v : View) (l : ℕ) (e : Bool) (to : Option ℕ) → 1 ≤ how_many loan h v → rights_of e l ≡ 0 → rights_of e (suc l) ≡ 0 → Row h (Live (suc l) e to) (Live l e to) v (giving_back h (looked h (Live (suc l) e to) (Live l e to) v))
  back_row v l e to p a b = record { here = back_here v l e to p a b; apart = back_apart v (Live (suc l) e to) (Live l e to); known_apart = λ j n. refl; as_many = refl }

  last_here : (v : View) (to : Option ℕ) → 1 ≤ how_many loan h v → (k : Kind) → how_many k h (with_right h (giving_back h (looked h (Live 1 true to) (Live 0 true to) v))) + due (Live 1 true to) k ≡ how_many k h v + due (Live 0 true to) k
  last_here v to p claim = refl
  last_here v to p title = refl
  last_here v to p loan = let g = count_less itself h v.loans p in omega arith
  last_here v to p right = let g = gain v.rights in omega arith
  last_here v to p claimed_entry = refl
  last_here v to p released_entry = refl

  last_apart : (v : View) (a b : HeadWord) (k : Kind) (j : ℕ) → j ≢ h → how_many k j (with_right h (giving_back h (looked h a b v))) ≡ how_many k j v
  last_apart v a b claim j n = refl
  last_apart v a b title j n = refl
  last_apart v a b loan j n = less_apart itself h j n v.loans
  last_apart v a b right j n = gain_apart j v.rights n
  last_apart v a b claimed_entry j n = refl
  last_apart v a b released_entry j n = refl

  pub last_row : (v : View) (to : Option ℕ) → 1 ≤ how_many loan h v → Row h (Live 1 true to) (Live 0 true to) v (with_right h (giving_back h (looked h (Live 1 true to) (Live 0 true to) v)))
  last_row v to p = record { here = last_here v to p; apart = last_apart v (Live 1 true to) (Live 0 true to); known_apart = λ j n. refl; as_many = refl }

  release_here : (v : View) (to : Option ℕ) → 1 ≤ how_many right h v → (k : Kind) → how_many k h (releasing h v) + due (Live 0 true to) k ≡ how_many k h v + due Gone k
  release_here v to p claim = refl
  release_here v to p title = refl
  release_here v to p loan = refl
  release_here v to p right = let g = count_less itself h v.rights p in omega arith
  release_here v to p claimed_entry = refl
  release_here v to p released_entry = let g = gain v.released in omega arith

  release_apart : (v : View) (k : Kind) (j : ℕ) → j ≢ h → how_many k j (releasing h v) ≡ how_many k j v
  release_apart v claim j n = refl
  release_apart v title j n = refl
  release_apart v loan j n = refl
  release_apart v right j n = less_apart itself h j n v.rights
  release_apart v claimed_entry j n = refl
  release_apart v released_entry j n = gain_apart j v.released n

  pub release_row : (v : View) (to : Option ℕ) → 1 ≤ how_many right h v → Row h (Live 0 true to) Gone v (releasing h v)
  release_row v to p = record { here = release_here v to p; apart = release_apart v; known_apart = λ j n. refl; as_many = refl }

  leave_here : (v : View) (l : ℕ) (e : Bool) (to : Option ℕ) → 1 ≤ how_many title h v → titles_of e to ≡ 0 → rights_of e l ≡ 0 → (k : Kind)
      → how_many k h (without_title h (looked h (Live l false None) (Live l e to) v)) + due (Live l false None) k ≡ how_many k h v + due (Live l e to) k
  leave_here v l e to p t r claim = refl
  leave_here v l e to p t r title = let g = count_less head_of h v.titles p in omega arith
  leave_here v l e to p t r loan = refl
  leave_here v l e to p t r right = omega arith
  leave_here v l e to p t r claimed_entry = refl
  leave_here v l e to p t r released_entry = refl

  leave_apart : (v : View) (a b : HeadWord) (k : Kind) (j : ℕ) → j ≢ h → how_many k j (without_title h (looked h a b v)) ≡ how_many k j v
  leave_apart v a b claim j n = refl
  leave_apart v a b title j n = less_apart head_of h j n v.titles
  leave_apart v a b loan j n = refl
  leave_apart v a b right j n = refl
  leave_apart v a b claimed_entry j n = refl
  leave_apart v a b released_entry j n = refl

  pub leave_row : (v : View) (l : ℕ) (e : Bool) (to : Option ℕ) → 1 ≤ how_many title h v → titles_of e to ≡ 0 → rights_of e l ≡ 0
      → Row h (Live l false None) (Live l e to) v (without_title h (looked h (Live l false None) (Live l e to) v))
  leave_row v l e to p t r = record { here = leave_here v l e to p t r; apart = leave_apart v (Live l false None) (Live l e to); known_apart = λ j n. known_less h j v.titles n; as_many = refl }

  end_here : (v : View) → 1 ≤ how_many title h v → (k : Kind) → how_many k h (with_right h (without_title h (looked h (Live 0 false None) (Live 0 true None) v))) + due (Live 0 false None) k ≡ how_many k h v + due (Live 0 true None) k
  end_here v p claim = refl
  end_here v p title = let g = count_less head_of h v.titles p in omega arith
  end_here v p loan = refl
  end_here v p right = let g = gain v.rights in omega arith
  end_here v p claimed_entry = refl
  end_here v p released_entry = refl

  end_apart : (v : View) (k : Kind) (j : ℕ) → j ≢ h → how_many k j (with_right h (without_title h (looked h (Live 0 false None) (Live 0 true None) v))) ≡ how_many k j v
  end_apart v claim j n = refl
  end_apart v title j n = less_apart head_of h j n v.titles
  end_apart v loan j n = refl
  end_apart v right j n = gain_apart j v.rights n
  end_apart v claimed_entry j n = refl
  end_apart v released_entry j n = refl

  pub end_row : (v : View) → 1 ≤ how_many title h v → Row h (Live 0 false None) (Live 0 true None) v (with_right h (without_title h (looked h (Live 0 false None) (Live 0 true None) v)))
  end_row v p = record { here = end_here v p; apart = end_apart v; known_apart = λ j n. known_less h j v.titles n; as_many = refl }

  take_here : (v : View) (t : ℕ) (k : Kind) → how_many k h (taking_up h (looked h (Live 0 false (Some t)) (Live 0 false None) v)) + due (Live 0 false (Some t)) k ≡ how_many k h v + due (Live 0 false None) k
  take_here v t claim = refl
  take_here v t title = let g = count_here head_of h (titled h None) v.titles refl in omega arith
  take_here v t loan = refl
  take_here v t right = refl
  take_here v t claimed_entry = refl
  take_here v t released_entry = refl

  take_apart : (v : View) (a b : HeadWord) (k : Kind) (j : ℕ) → j ≢ h → how_many k j (taking_up h (looked h a b v)) ≡ how_many k j v
  take_apart v a b claim j n = refl
  take_apart v a b title j n = count_apart head_of h j n (titled h None) v.titles refl
  take_apart v a b loan j n = refl
  take_apart v a b right j n = refl
  take_apart v a b claimed_entry j n = refl
  take_apart v a b released_entry j n = refl

  pub take_row : (v : View) (t : ℕ) → Row h (Live 0 false (Some t)) (Live 0 false None) v (taking_up h (looked h (Live 0 false (Some t)) (Live 0 false None) v))
  take_row v t = record { here = take_here v t; apart = take_apart v (Live 0 false (Some t)) (Live 0 false None); known_apart = λ j n. known_else h j None v.titles n; as_many = refl }
