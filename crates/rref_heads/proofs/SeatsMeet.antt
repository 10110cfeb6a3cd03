-- How the table starts, how seats part and meet, and what its last state tells.
use Rattle.std.proofs.Common.{◌≡◌, ◌≢◌, ℕ, zero, suc, ◌+◌, ◌-◌, ◌<◌, ◌≤◌, eqb, Bool, true, false, cond, List, [], ◌∷◌, ◌++◌, map, length, get_or, set, replicate, Option, Some, None, sym, refl, ap, ◌∙◌, subst, ◌⊎◌, ⊎_elim, inl, inr, arith}
use mathlib.Core.Option.{some, some-ne-none}
use lib.ListN.{get_elem?, length-map, length-replicate}
use Rattle.atomic_table.specs.Table.{Splits, Joins, opening}
use Rattle.atomic_table.proofs.Lists.{at_set, at_snoc, set_else}
use Rattle.machine_defs.specs.declared.heads.HeadWord.TheVariants.{Vacant}
use Rattle.machine_defs.specs.declared.heads.Title.{Title}
use Rattle.machine_defs.specs.declared.heads.View.{View}
use Rattle.machine_defs.specs.declared.heads.Size.{Size}
use Rattle.machine_defs.specs.HeadSums.{total, count}
use Rattle.machine_defs.specs.Heads.{Kind, claim, title, loan, right, claimed_entry, released_entry, head_of, itself, how_many, known, IsKnown, passes, empty, first}
use Rattle.rref_heads.specs.Plays.{TableState, Holds}
use Rattle.machine_defs.specs.HeadSteps.{one_fewer, one_pass, both}
use Rattle.rref_heads.proofs.HeadSums.{two_le, total_set, total_split, total_join, total_none}

pub none_of : (n : ℕ) (k : Kind) (h : ℕ) → how_many k h (empty n) ≡ 0
none_of n claim h = refl
none_of n title h = refl
none_of n loan h = refl
none_of n right h = refl
none_of n claimed_entry h = refl
none_of n released_entry h = refl

blank : (n i : ℕ) → i < n → get_elem? (map some (replicate {A = Option (List ℕ)} n None)) i ≡ some (some None)
blank zero i near = absurd (omega arith)
blank (suc n) zero near = refl
blank (suc n) (suc i) near = blank n i (omega arith)

zeros : (n i : ℕ) → get_or (replicate {A = ℕ} n 0) i 0 ≡ 0
zeros zero i = refl
zeros (suc n) zero = refl
zeros (suc n) (suc i) = zeros n i

pub some_none : (l : List ℕ) → None ≡ Some l → ⊥
some_none l q = Rattle.std.proofs.Common.true≢false (sym (ap is q))
  where
    is : Option (List ℕ) → Bool
    is None = false
    is (Some x) = true

pub starts : (size : Size) (n : ℕ) → size.heads ≡ n → size.seats ≤ 64 → 1 ≤ size.seats → Holds size (opening (replicate (n + 1) 0) (replicate n None) (first size))
starts size n is few seats = record {
  wide = length-replicate (n + 1) 0 ∙ ap (λ (z : ℕ). z + 1) (sym is);
  deep = length-map (replicate n None) some ∙ length-replicate n None ∙ sym is;
  few = few;
  heads = λ h pos le. record {
    word = Vacant;
    shows = zeros (n + 1) h;
    fits = tt;
    sums = λ k. ap (λ (z : ℕ). z + 0) (none_of size.seats k h);
    home = blank n (h - 1) (omega arith);
    knows = λ j v e. ⊎_elim (λ (x : get_elem? [] j ≡ some v). absurd (some-ne-none v (sym x)))
        (λ (x : first size ≡ v). λ l d. absurd (some_none l (ap (λ (u : View). known h u.titles) x ∙ d))) (at_snoc [] (first size) v j e);
  };
  seats = omega arith;
  spent = λ j v e. ⊎_elim (λ (x : get_elem? [] j ≡ some v). absurd (some-ne-none v (sym x)))
      (λ (x : first size ≡ v). λ z. absurd (let p : size.seats ≡ v.passes = ap passes x in omega arith)) (at_snoc [] (first size) v j e);
}

-- the views change, with the sums as before
reviewed : (size : Size) (s : TableState) (r : Holds size s) (vs : List View) → ((k : Kind) (h : ℕ) → total (how_many k h) vs ≡ total (how_many k h) s.views) → total passes vs ≡ total passes s.views
    → ((h : ℕ) (pos : 1 ≤ h) (le : h ≤ size.heads) (j : ℕ) (v : View) → get_elem? vs j ≡ some v → IsKnown h v (get_elem? s.homes (h - 1)))
    → ((j : ℕ) (v : View) → get_elem? vs j ≡ some v → v.passes ≡ 0 → (k : Kind) (h : ℕ) → how_many k h v ≡ 0) → Holds size record { words = s.words; homes = s.homes; views = vs }
reviewed size s r vs sums many knows spent = record {
  wide = r.wide;
  deep = r.deep;
  few = r.few;
  heads = λ h pos le. let ok = r.heads h pos le in record { word = ok.word; shows = ok.shows; fits = ok.fits; sums = λ k. sums k h ∙ ok.sums k; home = ok.home; knows = knows h pos le };
  seats = many ∙ r.seats;
  spent = spent;
}

fewer_num : (v : View) (k : Kind) (h : ℕ) → how_many k h (one_fewer v) ≡ how_many k h v
fewer_num v claim h = refl
fewer_num v title h = refl
fewer_num v loan h = refl
fewer_num v right h = refl
fewer_num v claimed_entry h = refl
fewer_num v released_entry h = refl

pub splits : (size : Size) (id : ℕ) (v : View) → 2 ≤ v.passes → Splits (Holds size) id v (one_fewer v) (one_pass v)
splits size id v two s r at = reviewed size s r (set s.views id (one_fewer v) ++ empty 1 ∷ [])
    (λ k h. total_split (how_many k h) s.views id v (one_fewer v) (empty 1) at (let a = fewer_num v k h in let b = none_of 1 k h in omega arith))
    (total_split passes s.views id v (one_fewer v) (empty 1) at (omega arith))
    (λ h pos le j u e. ⊎_elim
    (λ (x : get_elem? (set s.views id (one_fewer v)) j ≡ some u). ⊎_elim (λ (y : (j ≡ id) × (one_fewer v ≡ u)). subst (λ (z : View). IsKnown h z (get_elem? s.homes (h - 1))) y.1 ((r.heads h pos le).knows id v at))
    (λ (y : (j ≢ id) × (get_elem? s.views j ≡ some u)). (r.heads h pos le).knows j u y.1) (at_set s.views id j (one_fewer v) u x))
    (λ (x : empty 1 ≡ u). λ l d. absurd (some_none l (ap (λ (z : View). known h z.titles) x ∙ d))) (at_snoc (set s.views id (one_fewer v)) (empty 1) u j e))
    (λ j u e. ⊎_elim
    (λ (x : get_elem? (set s.views id (one_fewer v)) j ≡ some u). ⊎_elim (λ (y : (j ≡ id) × (one_fewer v ≡ u)). λ z. absurd (let p : v.passes - 1 ≡ u.passes = ap passes y.1 in omega arith))
    (λ (y : (j ≢ id) × (get_elem? s.views j ≡ some u)). r.spent j u y.1) (at_set s.views id j (one_fewer v) u x))
    (λ (x : empty 1 ≡ u). λ z. absurd (let p : 1 ≡ u.passes = ap passes x in omega arith)) (at_snoc (set s.views id (one_fewer v)) (empty 1) u j e))

count_append : {A : Type 0} (head : A → ℕ) (h : ℕ) (xs ys : List A) → count head h (xs ++ ys) ≡ count head h xs + count head h ys
count_append head h [] ys = omega arith
count_append head h (x ∷ xs) ys = let m = count_append head h xs ys in omega arith

pub both_num : (v w : View) (k : Kind) (h : ℕ) → how_many k h (both v w) ≡ how_many k h v + how_many k h w
both_num v w claim h = count_append itself h v.claims w.claims
both_num v w title h = count_append head_of h v.titles w.titles
both_num v w loan h = count_append itself h v.loans w.loans
both_num v w right h = count_append itself h v.rights w.rights
both_num v w claimed_entry h = count_append itself h v.claimed w.claimed
both_num v w released_entry h = count_append itself h v.released w.released

known_step : (b : Bool) (x o p q : Option (List ℕ)) (l : List ℕ) → (p ≡ Some l → (o ≡ Some l) ⊎ (q ≡ Some l)) → cond b x p ≡ Some l → (cond b x o ≡ Some l) ⊎ (q ≡ Some l)
known_step true x o p q l f e = inl e
known_step false x o p q l f e = f e

known_append : (h : ℕ) (ts us : List Title) (l : List ℕ) → known h (ts ++ us) ≡ Some l → (known h ts ≡ Some l) ⊎ (known h us ≡ Some l)
known_append h [] us l e = inr e
known_append h (t ∷ ts) us l e = known_step (eqb t.head h) t.list (known h ts) (known h (ts ++ us)) (known h us) l (λ q. known_append h ts us l q) e

pub joins : (size : Size) (id : ℕ) (v : View) (other : ℕ) (w : View) → Joins (Holds size) id v other w (both v w) (empty 0)
joins size id v other w s r at two at' = let b : View = both v w in let vs : List View = set s.views id b in let there : get_elem? s.views other ≡ some w = sym (set_else s.views id other b two) ∙ at' in
    reviewed size s r (set vs other (empty 0))
    (λ k h. total_join (how_many k h) s.views id other v w b (empty 0) at at' (let a = both_num v w k h in let z = none_of 0 k h in omega arith))
    (total_join passes s.views id other v w b (empty 0) at at' (omega arith))
    (λ h pos le j u e. ⊎_elim
    (λ (x : (j ≡ other) × (empty 0 ≡ u)). λ l d. absurd (some_none l (ap (λ (z : View). known h z.titles) x.1 ∙ d)))
    (λ (x : (j ≢ other) × (get_elem? vs j ≡ some u)). ⊎_elim
    (λ (y : (j ≡ id) × (b ≡ u)). subst (λ (z : View). IsKnown h z (get_elem? s.homes (h - 1))) y.1
    (λ l d. ⊎_elim (λ (q : known h v.titles ≡ Some l). (r.heads h pos le).knows id v at l q) (λ (q : known h w.titles ≡ Some l). (r.heads h pos le).knows other w there l q) (known_append h v.titles w.titles l d)))
    (λ (y : (j ≢ id) × (get_elem? s.views j ≡ some u)). (r.heads h pos le).knows j u y.1) (at_set s.views id j b u x.1))
    (at_set vs other j (empty 0) u e))
    (λ j u e. ⊎_elim
    (λ (x : (j ≡ other) × (empty 0 ≡ u)). λ z k h. ap (how_many k h) (sym x.1) ∙ none_of 0 k h)
    (λ (x : (j ≢ other) × (get_elem? vs j ≡ some u)). ⊎_elim
    (λ (y : (j ≡ id) × (b ≡ u)). λ z k h. let p : v.passes + w.passes ≡ 0 = ap passes y.1 ∙ z in let a = r.spent id v at (omega arith) k h in let c = r.spent other w there (omega arith) k h in
    ap (how_many k h) (sym y.1) ∙ both_num v w k h ∙ (omega arith))
    (λ (y : (j ≢ id) × (get_elem? s.views j ≡ some u)). r.spent j u y.1) (at_set s.views id j b u x.1))
    (at_set vs other j (empty 0) u e))

-- a view that stands for all passes has all that any view has
pub alone : (size : Size) (s : TableState) (r : Holds size s) (id : ℕ) (v : View) → get_elem? s.views id ≡ some v → v.passes ≡ size.seats → (k : Kind) (h : ℕ) → total (how_many k h) s.views ≡ how_many k h v
alone size s r id v at all k h = let t = total_set (how_many k h) s.views id v (empty 0) at in let z = none_of 0 k h in let o = r.seats in
    let rest : total (how_many k h) (set s.views id (empty 0)) ≡ 0 = total_none (how_many k h) (set s.views id (empty 0)) (λ j u e. ⊎_elim (λ (x : (j ≡ id) × (empty 0 ≡ u)). ap (how_many k h) (sym x.1) ∙ none_of 0 k h)
    (λ (x : (j ≢ id) × (get_elem? s.views j ≡ some u)). let n : id ≢ j = λ q. x.0 (sym q) in let m = two_le passes s.views id j v u n at x.1 in r.spent j u x.1 (omega arith) k h) (at_set s.views id j (empty 0) u e)) in
    omega arith
