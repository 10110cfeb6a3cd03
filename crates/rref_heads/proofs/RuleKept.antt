-- One step on one head keeps the rule of the table.
use Rattle.std.proofs.Common.{◌≡◌, ◌≢◌, ℕ, zero, suc, ◌+◌, ◌-◌, ◌<◌, ◌≤◌, eqb, Bool, true, false, cond, List, [], ◌∷◌, ◌++◌, length, get_or, set, Option, Some, None, sym, refl, ap, ◌∙◌, subst, ⊎_elim, arith, eq-eqb, ne_eqb, length-set, get_or-set_other, get_or-set_same}
use mathlib.Core.Logic.{dite}
use mathlib.Core.Option.{some, none}
use mathlib.Core.Option as maybe
use native.Mathlib.Decide.{ℕ_discrete}
use lib.ListN.{get_elem?}
use Rattle.atomic_table.proofs.Lists.{at_set}
use Rattle.machine_defs.specs.declared.heads.HeadWord.{HeadWord}
use Rattle.machine_defs.specs.declared.heads.Title.{Title}
use Rattle.machine_defs.specs.declared.heads.View.{View}
use Rattle.machine_defs.specs.declared.heads.Size.{Size}
use Rattle.machine_defs.specs.HeadSums.{total, count}
use Rattle.machine_defs.specs.Heads.{Kind, title, head_of, how_many, due, word_number, Fits, Place, Home, known, IsKnown, HeadKept, passes}
use Rattle.rref_heads.specs.Plays.{TableState, Holds}
use Rattle.rref_heads.proofs.HeadSums.{part_le, total_set, count_here, count_else}

none_some : (l : List ℕ) (o : Option (List ℕ)) → o ≡ None → o ≡ Some l → ⊥
none_some l o e d = absurd (true_not_false (ap is (sym d ∙ e)))
  where
    is : Option (List ℕ) → Bool
    is None = false
    is (Some x) = true

    true_not_false : true ≡ false → ⊥
    true_not_false q = search Rattle.std.proofs.Common.true≢false

-- a view with no title of h knows none
pub known_none : (h : ℕ) (ts : List Title) → count head_of h ts ≡ 0 → known h ts ≡ None
known_none h [] e = refl
known_none h (t ∷ ts) e = dite (ℕ_discrete t.head h)
    (λ q. absurd (let c = count_here head_of h t ts q in omega arith))
    (λ n. ap (λ b. cond b t.list (known h ts)) (ne_eqb t.head h n) ∙ known_none h ts (sym (count_else head_of h t ts n) ∙ e))

-- What a step on h, from the word a to the word b, does to the view of its seat
pub record Row (h : ℕ) (a b : HeadWord) (v w : View) : Type 0 where
  pub here : (k : Kind) → how_many k h w + due a k ≡ how_many k h v + due b k
  pub apart : (k : Kind) (j : ℕ) → j ≢ h → how_many k j w ≡ how_many k j v
  pub known_apart : (j : ℕ) → j ≢ h → known j w.titles ≡ known j v.titles
  pub as_many : w.passes ≡ v.passes

abbrev pub Homes : Type 0
Homes = List (maybe.Option (Option (List ℕ)))

module _ (size : Size) (s : TableState) (r : Holds size s) (id h : ℕ) (v w : View) (at : get_elem? s.views id ≡ some v) (pos : 1 ≤ h) (le : h ≤ size.heads) (a b : HeadWord)
    (is : (r.heads h pos le).word ≡ a) (row : Row h a b v w) where
  -- the sums at h after the step
  pub sums_after : (k : Kind) → total (how_many k h) (set s.views id w) ≡ due b k
  sums_after k = let t = total_set (how_many k h) s.views id v w at in let o : total (how_many k h) s.views ≡ due a k = (r.heads h pos le).sums k ∙ ap (λ x. due x k) is in let e = row.here k in omega arith

  -- where no view has a title of h after the step, none knows a list
  pub knows_none : (p : Place) → due b title ≡ 0 → (j : ℕ) (u : View) → get_elem? (set s.views id w) j ≡ some u → IsKnown h u p
  knows_none p z j u e l d = let m = part_le (how_many title h) (set s.views id w) j u e in let t = sums_after title in
      absurd (none_some l (known h u.titles) (known_none h u.titles (omega arith)) d)

  -- where no view has a title of h before the step, only the seat can know a list after it
  pub knows_mine : (p : Place) → due a title ≡ 0 → IsKnown h w p → (j : ℕ) (u : View) → get_elem? (set s.views id w) j ≡ some u → IsKnown h u p
  knows_mine p z mine j u e = ⊎_elim (λ (x : (j ≡ id) × (w ≡ u)). subst (λ (y : View). IsKnown h y p) x.1 mine)
      (λ (x : (j ≢ id) × (get_elem? s.views j ≡ some u)). λ l d. let m = part_le (how_many title h) s.views j u x.1 in let t : total (how_many title h) s.views ≡ due a title = (r.heads h pos le).sums title ∙ ap (λ q. due q title) is in
      absurd (none_some l (known h u.titles) (known_none h u.titles (omega arith)) d)) (at_set s.views id j w u e)

  -- where neither the place nor what the seat knows changes
  pub knows_same : (homes' : Homes) → get_elem? homes' (h - 1) ≡ get_elem? s.homes (h - 1) → known h w.titles ≡ known h v.titles
      → (j : ℕ) (u : View) → get_elem? (set s.views id w) j ≡ some u → IsKnown h u (get_elem? homes' (h - 1))
  knows_same homes' same like j u e = ⊎_elim
      (λ (x : (j ≡ id) × (w ≡ u)). subst (λ (y : View). IsKnown h y (get_elem? homes' (h - 1))) x.1 (λ l d. same ∙ (r.heads h pos le).knows id v at l (sym like ∙ d)))
      (λ (x : (j ≢ id) × (get_elem? s.views j ≡ some u)). λ l d. same ∙ (r.heads h pos le).knows j u x.1 l d) (at_set s.views id j w u e)

  pub kept : (homes' : Homes) → Fits size.seats b → 1 ≤ v.passes → length homes' ≡ length s.homes → ((j : ℕ) → j ≢ h - 1 → get_elem? homes' j ≡ get_elem? s.homes j) → Home b (get_elem? homes' (h - 1))
      → ((j : ℕ) (u : View) → get_elem? (set s.views id w) j ≡ some u → IsKnown h u (get_elem? homes' (h - 1))) → Holds size record { words = set s.words h (word_number b); homes = homes'; views = set s.views id w }
  kept homes' fits sits deep others home knows = record {
    wide = length-set s.words h (word_number b) ∙ r.wide;
    deep = deep ∙ r.deep;
    few = r.few;
    heads = λ j p q. dite (ℕ_discrete j h)
        (λ e. subst (HeadKept size.seats record { words = set s.words h (word_number b); homes = homes'; views = set s.views id w }) (sym e) record {
          word = b;
          shows = get_or-set_same s.words h (word_number b) 0 (let wd = r.wide in omega arith);
          fits = fits;
          sums = sums_after;
          home = home;
          knows = knows;
        })
        (λ n. let ok = r.heads j p q in let there : get_elem? homes' (j - 1) ≡ get_elem? s.homes (j - 1) = others (j - 1) (λ c. n (omega arith)) in record {
          word = ok.word;
          shows = get_or-set_other s.words h j (word_number b) 0 n ∙ ok.shows;
          fits = ok.fits;
          sums = λ k. let t = total_set (how_many k j) s.views id v w at in let o = ok.sums k in let e = row.apart k j n in omega arith;
          home = subst (Home ok.word) (sym there) ok.home;
          knows = λ i u e. ⊎_elim
              (λ (x : (i ≡ id) × (w ≡ u)). subst (λ (y : View). IsKnown j y (get_elem? homes' (j - 1))) x.1 (λ l d. there ∙ ok.knows id v at l (sym (row.known_apart j n) ∙ d)))
              (λ (x : (i ≢ id) × (get_elem? s.views i ≡ some u)). λ l d. there ∙ ok.knows i u x.1 l d) (at_set s.views id i w u e);
        });
    seats = let t = total_set passes s.views id v w at in let o = r.seats in let e = row.as_many in omega arith;
    spent = λ j u e. ⊎_elim (λ (x : (j ≡ id) × (w ≡ u)). λ z. absurd (let c : u.passes ≡ w.passes = ap passes (sym x.1) in let m = row.as_many in omega arith))
        (λ (x : (j ≢ id) × (get_elem? s.views j ≡ some u)). r.spent j u x.1) (at_set s.views id j w u e);
  }
