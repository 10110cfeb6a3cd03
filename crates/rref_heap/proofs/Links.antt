-- Links from which a root is taken out, and into which one is put.
use Rattle.std.proofs.Common.{◌≡◌, ℕ, zero, suc, ◌+◌, ◌<◌, ◌==◌, cond, true, false, Option, Some, None, refl, sym, ap, ◌∙◌, subst, arith, inl, inr}
use Rattle.std.proofs.lemmas.Bool.{cases_eq, cases_Bool, eq-eqb, eqb-true}
use Rattle.std.proofs.lemmas.List.{get_or-set_same, get_or-set_other, length-set}
use Rattle.machine_defs.specs.declared.values.Owner.{Owner}
use Rattle.machine_defs.specs.declared.values.Owner.TheVariants as owner
use Rattle.machine_defs.specs.Report.{same_owner}
use Rattle.rref_heap.specs.Links.{FirstRows, first_in, HasFirst, with_first, first_after, Link, NextOf, PrevOf, FirstOf, Linked, LinksBut}
use Rattle.rref_heap.proofs.Spots.{same_some, unequal}

pub same_is : (w v : Owner) → same_owner w v ≡ true → w ≡ v
same_is (owner.Client a) (owner.Client b) e = ap owner.Client (eqb-true a b e)
same_is (owner.Instance a) (owner.Instance b) e = ap owner.Instance (eqb-true a b e)
same_is (owner.Client a) (owner.Instance b) e = absurd cc
same_is (owner.Instance a) (owner.Client b) e = absurd cc

pub same_self : (w : Owner) → same_owner w w ≡ true
same_self (owner.Client a) = eq-eqb a a refl
same_self (owner.Instance a) = eq-eqb a a refl

pub differ : (w v : Owner) → same_owner w v ≡ false → w ≡ v → ⊥
differ w v unlike same = let x : true ≡ false = sym (same_self v) ∙ (ap (λ (u : Owner). same_owner u v) (sym same) ∙ unlike) in cc

-- the first roots where one is another
pub first_set : (f : FirstRows) (w : Owner) (n : ℕ) → HasFirst f w → first_in (with_first f w n) w ≡ n
first_set f (owner.Client c) n has = get_or-set_same f.clients c n 0 has
first_set f (owner.Instance i) n has = get_or-set_same f.instances i n 0 has

pub first_other : (f : FirstRows) (w v : Owner) (n : ℕ) → (v ≡ w → ⊥) → first_in (with_first f w n) v ≡ first_in f v
first_other f (owner.Client c) (owner.Client d) n ne = get_or-set_other f.clients c d n 0 (λ e. ne (ap owner.Client e))
first_other f (owner.Client c) (owner.Instance j) n ne = refl
first_other f (owner.Instance i) (owner.Client d) n ne = refl
first_other f (owner.Instance i) (owner.Instance j) n ne = get_or-set_other f.instances i j n 0 (λ e. ne (ap owner.Instance e))

pub has_set : (f : FirstRows) (w v : Owner) (n : ℕ) → HasFirst f v → HasFirst (with_first f w n) v
has_set f (owner.Client c) (owner.Client d) n has = rw (length-set f.clients c n) has
has_set f (owner.Client c) (owner.Instance j) n has = has
has_set f (owner.Instance i) (owner.Client d) n has = has
has_set f (owner.Instance i) (owner.Instance j) n has = rw (length-set f.instances i n) has

pub has_after : (f : FirstRows) (w v : Owner) (prev n : ℕ) → HasFirst f v → HasFirst (first_after f w prev n) v
has_after f w v zero n has = has_set f w v n has
has_after f w v (suc prev) n has = has

pub after_first : (f : FirstRows) (w : Owner) (prev n : ℕ) → prev ≡ 0 → first_after f w prev n ≡ with_first f w n
after_first f w zero n e = refl
after_first f w (suc prev) n e = absurd (omega arith)

pub after_later : (f : FirstRows) (w : Owner) (prev n : ℕ) → 0 < prev → first_after f w prev n ≡ f
after_later f w zero n lt = absurd (omega arith)
after_later f w (suc prev) n lt = refl

abbrev pub if_link : (Link → Link) → Option Link → Option Link
if_link change None = None
if_link change (Some q) = Some (change q)

-- what is linked to the neighbors of one that goes
abbrev pub around : Link → ℕ → Link → Link
around p n q = record q { next = cond (n == p.prev) p.next q.next; prev = cond (n == p.next) p.prev q.prev }

module _ (L L' : ℕ → Option Link) (f : FirstRows) (o : ℕ) (p : Link) (l : LinksBut L f 0) (is : L o ≡ Some p) (each : (n : ℕ) → L' n ≡ if_link (around p n) (L n)) where
  record Was (n : ℕ) (r : Link) : Type 0 where
    link : Link
    was : L n ≡ Some link
    now : r ≡ around p n link

  was_of : (n : ℕ) (r : Link) → L' n ≡ Some r → Was n r
  was_of n r now = go (L n) refl
    where
      go : (x : Option Link) → L n ≡ x → Was n r
      go None e = absurd (let x : None ≡ Some r = sym (each n ∙ ap (if_link (around p n)) e) ∙ now in cc)
      go (Some q) e = record { link = q; was = e; now = same_some (sym now ∙ (each n ∙ ap (if_link (around p n)) e)) }

  there : (n : ℕ) (q : Link) → L n ≡ Some q → 0 < n
  there zero q e = absurd (let x : None ≡ Some q = sym l.none ∙ e in cc)
  there (suc n) q e = omega arith

  not_zero : (n : ℕ) (q : Link) → L n ≡ Some q → n ≡ 0 → ⊥
  not_zero n q e z = let pos = there n q e in omega arith

  lp : Linked L f l.stamp l.top 0 o p
  lp = l.roots o p is (not_zero o p is)

  lq : (n : ℕ) (q : Link) → L n ≡ Some q → Linked L f l.stamp l.top 0 n q
  lq n q e = l.roots n q e (not_zero n q e)

  now_is : (n : ℕ) (q : Link) → L n ≡ Some q → L' n ≡ Some (around p n q)
  now_is n q e = each n ∙ ap (if_link (around p n)) e

  agree : (n : ℕ) (q r : Link) → L n ≡ Some q → L n ≡ Some r → q ≡ r
  agree n q r a b = same_some (sym a ∙ b)

  abbrev pub f' : FirstRows
  f' = first_after f p.owner p.prev p.next

  -- the next of the one before o is the one behind it
  next_over : (n : ℕ) (q : Link) → L n ≡ Some q → n ≡ p.prev → 0 < p.next → NextOf L' l.stamp o n (around p n q)
  next_over n q e at_prev pos =
      let pos_n : 0 < p.prev = let t = there n q e in omega arith in
      let back = lp.prev pos_n in
      let q_is : q ≡ back.link = agree n q back.link e (ap L at_prev ∙ back.is) in
      let q_next : q.next ≡ o = ap (λ (x : Link). x.next) q_is ∙ back.forth in
      let on = lp.next pos in
      let o_pos : 0 < o = there o p is in
      let mine = (lq n q e).next (omega arith) in
      let falls : l.stamp o < l.stamp n = subst (λ (k : ℕ). l.stamp k < l.stamp n) q_next mine.lower in
      let low = on.lower in
      let to : cond (n == p.prev) p.next q.next ≡ p.next = rw (eq-eqb n p.prev at_prev) refl in
      record {
        link = around p p.next on.link;
        is = rw to (now_is p.next on.link on.is);
        of = on.of ∙ sym (ap (λ (x : Link). x.owner) q_is ∙ back.of);
        back = rw (eq-eqb p.next p.next refl) (sym at_prev);
        lower = rw to (omega arith);
        other = λ same. (let low' : l.stamp o < l.stamp o = subst (λ (k : ℕ). l.stamp k < l.stamp o) (sym to ∙ same) low in omega arith);
      }

  -- another's next is as it was
  next_kept : (n : ℕ) (q : Link) → L n ≡ Some q → (n ≡ p.prev → ⊥) → (n ≡ o → ⊥) → 0 < q.next → NextOf L' l.stamp o n (around p n q)
  next_kept n q e ne out pos =
      let mine = (lq n q e).next pos in
      let to : cond (n == p.prev) p.next q.next ≡ q.next = rw (unequal n p.prev ne) refl in
      let apart : q.next ≡ p.next → ⊥ = λ same. (let on = lp.next (omega arith) in let one : mine.link ≡ on.link = agree p.next mine.link on.link (ap L (sym same) ∙ mine.is) on.is in out (sym mine.back ∙ (ap (λ (x : Link). x.prev) one ∙ on.back))) in
      record {
        link = around p q.next mine.link;
        is = rw to (now_is q.next mine.link mine.is);
        of = mine.of;
        back = rw (unequal q.next p.next apart) mine.back;
        lower = rw to mine.lower;
        other = λ same. (let e' : q.next ≡ o = sym to ∙ same in let one : mine.link ≡ p = agree o mine.link p (ap L (sym e') ∙ mine.is) is in ne (sym mine.back ∙ ap (λ (x : Link). x.prev) one));
      }

  prev_over : (n : ℕ) (q : Link) → L n ≡ Some q → n ≡ p.next → 0 < p.prev → PrevOf L' o n (around p n q)
  prev_over n q e at_next pos =
      let pos_n : 0 < p.next = let t = there n q e in omega arith in
      let on = lp.next pos_n in
      let q_is : q ≡ on.link = agree n q on.link e (ap L at_next ∙ on.is) in
      let back = lp.prev pos in
      let o_pos : 0 < o = there o p is in
      let forth = back.forth in
      let before = (lq p.prev back.link back.is).next (omega arith) in
      let falls : l.stamp o < l.stamp p.prev = subst (λ (k : ℕ). l.stamp k < l.stamp p.prev) forth before.lower in
      let to : cond (n == p.next) p.prev q.prev ≡ p.prev = rw (eq-eqb n p.next at_next) refl in
      record {
        link = around p p.prev back.link;
        is = rw to (now_is p.prev back.link back.is);
        of = back.of ∙ sym (ap (λ (x : Link). x.owner) q_is ∙ on.of);
        forth = rw (eq-eqb p.prev p.prev refl) (sym at_next);
        other = λ same. (let x : l.stamp o < l.stamp o = subst (λ (k : ℕ). l.stamp o < l.stamp k) (sym to ∙ same) falls in omega arith);
      }

  prev_kept : (n : ℕ) (q : Link) → L n ≡ Some q → (n ≡ p.next → ⊥) → (n ≡ o → ⊥) → 0 < q.prev → PrevOf L' o n (around p n q)
  prev_kept n q e ne out pos =
      let mine = (lq n q e).prev pos in
      let to : cond (n == p.next) p.prev q.prev ≡ q.prev = rw (unequal n p.next ne) refl in
      let apart : q.prev ≡ p.prev → ⊥ = λ same. (let back = lp.prev (omega arith) in let one : mine.link ≡ back.link = agree p.prev mine.link back.link (ap L (sym same) ∙ mine.is) back.is in out (sym mine.forth ∙ (ap (λ (x : Link). x.next) one ∙ back.forth))) in
      record {
        link = around p q.prev mine.link;
        is = rw to (now_is q.prev mine.link mine.is);
        of = mine.of;
        forth = rw (unequal q.prev p.prev apart) mine.forth;
        other = λ same. (let e' : q.prev ≡ o = sym to ∙ same in let one : mine.link ≡ p = agree o mine.link p (ap L (sym e') ∙ mine.is) is in ne (sym mine.forth ∙ ap (λ (x : Link). x.next) one));
      }

  first_now : (n : ℕ) (q : Link) → L n ≡ Some q → (n ≡ o → ⊥) → cond (n == p.next) p.prev q.prev ≡ 0 → first_in f' q.owner ≡ n
  first_now n q e out none = elim (cases_eq n p.next) [
    | inl at_next ↦ (
        let p_none : p.prev ≡ 0 = (rw (eq-eqb n p.next at_next) at none) in
        let on = lp.next (let t = there n q e in omega arith) in
        let q_is : q ≡ on.link = agree n q on.link e (ap L at_next ∙ on.is) in
        let own : q.owner ≡ p.owner = ap (λ (x : Link). x.owner) q_is ∙ on.of in
        ap (λ (g : FirstRows). first_in g q.owner) (after_first f p.owner p.prev p.next p_none) ∙ (ap (first_in (with_first f p.owner p.next)) own ∙ (first_set f p.owner p.next lp.has ∙ sym at_next)))
    | inr ne ↦ (
        let q_none : q.prev ≡ 0 = rw (unequal n p.next ne) at none in
        let here = (lq n q e).first q_none in
        elim (cases_eq p.prev 0) [
          | inr some ↦ ap (λ (g : FirstRows). first_in g q.owner) (after_later f p.owner p.prev p.next (omega arith)) ∙ here
          | inl p_none ↦ (
              let apart : q.owner ≡ p.owner → ⊥ = λ same. out (sym here ∙ (ap (first_in f) same ∙ lp.first p_none)) in
              ap (λ (g : FirstRows). first_in g q.owner) (after_first f p.owner p.prev p.next p_none) ∙ (first_other f p.owner q.owner p.next apart ∙ here))
        ])
  ]

  roots_now : (n : ℕ) (r : Link) → L' n ≡ Some r → (n ≡ o → ⊥) → Linked L' f' l.stamp l.top o n r
  roots_now n r now out =
      let w = was_of n r now in
      let mine = lq n w.link w.was in
      rw w.now (record {
        low = mine.low;
        next = λ pos. elim (cases_eq n p.prev) [
          | inl e ↦ next_over n w.link w.was e (rw (eq-eqb n p.prev e) at pos)
          | inr ne ↦ next_kept n w.link w.was ne out (rw (unequal n p.prev ne) at pos)
        ];
        prev = λ pos. elim (cases_eq n p.next) [
          | inl e ↦ prev_over n w.link w.was e (rw (eq-eqb n p.next e) at pos)
          | inr ne ↦ prev_kept n w.link w.was ne out (rw (unequal n p.next ne) at pos)
        ];
        first = λ none. first_now n w.link w.was out none;
        has = has_after f p.owner w.link.owner p.prev p.next mine.has;
      })

  head_at : (w : Owner) (m : ℕ) → 0 < m → m ≡ first_in f w → (p.prev ≡ 0 → w ≡ p.owner → ⊥) → FirstOf L' o w m
  head_at w m pos m_is kept =
      let h = l.heads w (omega arith) in
      let h_is : L m ≡ Some h.link = ap L m_is ∙ h.is in
      let o_pos : 0 < o = there o p is in
      let out : m ≡ o → ⊥ = λ e. (
      let one : h.link ≡ p = agree o h.link p (ap L (sym e) ∙ h_is) is in
      kept (sym (ap (λ (x : Link). x.prev) one) ∙ h.first) (sym h.of ∙ ap (λ (x : Link). x.owner) one)) in
      record {
        link = around p m h.link;
        is = now_is m h.link h_is;
        of = h.of;
        first = elim (cases_eq m p.next) [
          | inl e ↦ absurd (let on = lp.next (omega arith) in let one : h.link ≡ on.link = agree m h.link on.link h_is (ap L e ∙ on.is) in let x : 0 ≡ o = sym h.first ∙ (ap (λ (x : Link). x.prev) one ∙ on.back) in omega arith)
          | inr ne ↦ rw (unequal m p.next ne) h.first
        ];
        other = out;
      }

  heads_now : (w : Owner) → 0 < first_in f' w → FirstOf L' o w (first_in f' w)
  heads_now w pos = elim (cases_eq p.prev 0) [
    | inr some ↦ (
        let same : first_in f' w ≡ first_in f w = ap (λ (g : FirstRows). first_in g w) (after_later f p.owner p.prev p.next (omega arith)) in
        head_at w (first_in f' w) pos same (λ none x. some none))
    | inl p_none ↦ elim (cases_Bool (same_owner w p.owner)) [
      | inr no_owner ↦ (
          let apart : w ≡ p.owner → ⊥ = differ w p.owner no_owner in
          let same : first_in f' w ≡ first_in f w = ap (λ (g : FirstRows). first_in g w) (after_first f p.owner p.prev p.next p_none) ∙ first_other f p.owner w p.next apart in
          head_at w (first_in f' w) pos same (λ none x. apart x))
      | inl yes_owner ↦ (
          let own : w ≡ p.owner = same_is w p.owner yes_owner in
          let m_is : first_in f' w ≡ p.next = ap (λ (g : FirstRows). first_in g w) (after_first f p.owner p.prev p.next p_none) ∙ (ap (first_in (with_first f p.owner p.next)) own ∙ first_set f p.owner p.next lp.has) in
          let on = lp.next (omega arith) in
          let low = on.lower in
          rw m_is (record {
            link = around p p.next on.link;
            is = now_is p.next on.link on.is;
            of = on.of ∙ sym own;
            first = rw (eq-eqb p.next p.next refl) p_none;
            other = λ same. (let x : l.stamp o < l.stamp o = subst (λ (k : ℕ). l.stamp k < l.stamp o) same low in omega arith);
          }))
    ]
  ]

  -- the links without o
  pub unlinked : LinksBut L' f' o
  unlinked = record {
    stamp = l.stamp;
    top = l.top;
    none = each 0 ∙ ap (if_link (around p 0)) l.none;
    roots = roots_now;
    heads = heads_now;
  }

-- the same links, said of another function
pub same_links : (L L' : ℕ → Option Link) (f : FirstRows) (out : ℕ) → ((n : ℕ) → L' n ≡ L n) → LinksBut L f out → LinksBut L' f out
same_links L L' f out same l = record {
  stamp = l.stamp;
  top = l.top;
  none = same 0 ∙ l.none;
  roots = λ n p is other. (
      let q = l.roots n p (sym (same n) ∙ is) other in
      record {
        low = q.low;
        next = λ pos. (let x = q.next pos in record { link = x.link; is = same p.next ∙ x.is; of = x.of; back = x.back; lower = x.lower; other = x.other });
        prev = λ pos. (let x = q.prev pos in record { link = x.link; is = same p.prev ∙ x.is; of = x.of; forth = x.forth; other = x.other });
        first = q.first;
        has = q.has;
      });
  heads = λ w pos. (let x = l.heads w pos in record { link = x.link; is = same (first_in f w) ∙ x.is; of = x.of; first = x.first; other = x.other });
}

-- one that is out of the links has gone
pub out_gone : (L L' : ℕ → Option Link) (f : FirstRows) (o : ℕ) → L' o ≡ None → ((n : ℕ) → (n ≡ o → ⊥) → L' n ≡ L n) → LinksBut L f o → LinksBut L' f 0
out_gone L L' f o gone same l = record {
  stamp = l.stamp;
  top = l.top;
  none = elim (cases_eq 0 o) [
    | inl e ↦ ap L' e ∙ gone
    | inr ne ↦ same 0 ne ∙ l.none
  ];
  roots = λ n p is other. (
      let here : n ≡ o → ⊥ = λ e. (let x : None ≡ Some p = sym gone ∙ (ap L' (sym e) ∙ is) in cc) in
      let q = l.roots n p (sym (same n here) ∙ is) here in
      record {
        low = q.low;
        next = λ pos. (let x = q.next pos in record { link = x.link; is = same p.next x.other ∙ x.is; of = x.of; back = x.back; lower = x.lower; other = λ e. omega arith });
        prev = λ pos. (let x = q.prev pos in record { link = x.link; is = same p.prev x.other ∙ x.is; of = x.of; forth = x.forth; other = λ e. omega arith });
        first = q.first;
        has = q.has;
      });
  heads = λ w pos. (let x = l.heads w pos in record { link = x.link; is = same (first_in f w) x.other ∙ x.is; of = x.of; first = x.first; other = λ e. omega arith });
}

-- one has come in that isn't linked yet
pub out_came : (L L' : ℕ → Option Link) (f : FirstRows) (o : ℕ) → 0 < o → L o ≡ None → ((n : ℕ) → (n ≡ o → ⊥) → L' n ≡ L n) → LinksBut L f 0 → LinksBut L' f o
out_came L L' f o some absent same l = record {
  stamp = l.stamp;
  top = l.top;
  none = same 0 (λ e. omega arith) ∙ l.none;
  roots = λ n p is out. (
      let was : L n ≡ Some p = sym (same n out) ∙ is in
      let q = l.roots n p was (λ e. (let x : None ≡ Some p = sym l.none ∙ (ap L (sym e) ∙ was) in cc)) in
      record {
        low = q.low;
        next = λ pos. (let x = q.next pos in let ne : p.next ≡ o → ⊥ = apart p.next x.link x.is in record { link = x.link; is = same p.next ne ∙ x.is; of = x.of; back = x.back; lower = x.lower; other = ne });
        prev = λ pos. (let x = q.prev pos in let ne : p.prev ≡ o → ⊥ = apart p.prev x.link x.is in record { link = x.link; is = same p.prev ne ∙ x.is; of = x.of; forth = x.forth; other = ne });
        first = q.first;
        has = q.has;
      });
  heads = λ w pos. (let x = l.heads w pos in let ne : first_in f w ≡ o → ⊥ = apart (first_in f w) x.link x.is in record { link = x.link; is = same (first_in f w) ne ∙ x.is; of = x.of; first = x.first; other = ne });
}
  where
    apart : (n : ℕ) (q : Link) → L n ≡ Some q → n ≡ o → ⊥
    apart n q is e = let x : None ≡ Some q = sym absent ∙ (ap L (sym e) ∙ is) in cc

-- what is linked before the one that comes in first
abbrev pub before : ℕ → ℕ → ℕ → Link → Link
before o m n q = record q { prev = cond (n == m) o q.prev }

module _ (L L' : ℕ → Option Link) (f : FirstRows) (o : ℕ) (w : Owner) (l : LinksBut L f o) (has : HasFirst f w) (some : 0 < o) (here : L' o ≡ Some (record { owner = w; next = first_in f w; prev = 0 })) (each : (n : ℕ) → (n ≡ o → ⊥) → L' n ≡ if_link (before o (first_in f w) n) (L n)) where
  abbrev m : ℕ
  m = first_in f w

  abbrev stamp' : ℕ → ℕ
  stamp' n = cond (n == o) l.top (l.stamp n)

  at_o : stamp' o ≡ l.top
  at_o = rw (eq-eqb o o refl) refl

  elsewhere : (n : ℕ) → (n ≡ o → ⊥) → stamp' n ≡ l.stamp n
  elsewhere n ne = rw (unequal n o ne) refl

  record Stood (n : ℕ) (r : Link) : Type 0 where
    link : Link
    was : L n ≡ Some link
    now : r ≡ before o (first_in f w) n link

  stood : (n : ℕ) (r : Link) → (n ≡ o → ⊥) → L' n ≡ Some r → Stood n r
  stood n r out now = go (L n) refl
    where
      go : (x : Option Link) → L n ≡ x → Stood n r
      go None e = absurd (let x : None ≡ Some r = sym (each n out ∙ ap (if_link (before o (first_in f w) n)) e) ∙ now in cc)
      go (Some q) e = record { link = q; was = e; now = same_some (sym now ∙ (each n out ∙ ap (if_link (before o (first_in f w) n)) e)) }

  is_now : (n : ℕ) (q : Link) → (n ≡ o → ⊥) → L n ≡ Some q → L' n ≡ Some (before o (first_in f w) n q)
  is_now n q out e = each n out ∙ ap (if_link (before o (first_in f w) n)) e

  pos_of : (n : ℕ) (q : Link) → L n ≡ Some q → 0 < n
  pos_of zero q e = absurd (let x : None ≡ Some q = sym l.none ∙ e in cc)
  pos_of (suc n) q e = omega arith

  one_of : (n : ℕ) (q r : Link) → L n ≡ Some q → L n ≡ Some r → q ≡ r
  one_of n q r a b = same_some (sym a ∙ b)

  new_next : 0 < m → NextOf L' stamp' 0 o (record { owner = w; next = m; prev = 0 })
  new_next pos =
      let h = l.heads w pos in
      let low = (l.roots m h.link h.is h.other).low in
      record {
        link = before o m m h.link;
        is = is_now m h.link h.other h.is;
        of = h.of;
        back = rw (eq-eqb m m refl) refl;
        lower = rw (at_o, elsewhere m h.other) low;
        other = λ e. omega arith;
      }

  old_next : (n : ℕ) (q : Link) → (n ≡ o → ⊥) → L n ≡ Some q → 0 < q.next → NextOf L' stamp' 0 n (before o m n q)
  old_next n q out e pos =
      let x = (l.roots n q e out).next pos in
      let apart : q.next ≡ m → ⊥ = λ same. (
      let h = l.heads w (omega arith) in
      let one : x.link ≡ h.link = one_of m x.link h.link (ap L (sym same) ∙ x.is) h.is in
      let z : n ≡ 0 = sym x.back ∙ (ap (λ (k : Link). k.prev) one ∙ h.first) in
      let p = pos_of n q e in omega arith) in
      record {
        link = before o m q.next x.link;
        is = is_now q.next x.link x.other x.is;
        of = x.of;
        back = rw (unequal q.next m apart) x.back;
        lower = rw (elsewhere q.next x.other, elsewhere n out) x.lower;
        other = λ e. omega arith;
      }

  old_prev : (n : ℕ) (q : Link) → (n ≡ o → ⊥) → L n ≡ Some q → 0 < cond (n == m) o q.prev → PrevOf L' 0 n (before o m n q)
  old_prev n q out e pos = elim (cases_eq n m) [
    | inl same ↦ (
        let p = pos_of n q e in
        let h = l.heads w (omega arith) in
        let one : q ≡ h.link = one_of m q h.link (ap L (sym same) ∙ e) h.is in
        let to : cond (n == m) o q.prev ≡ o = rw (eq-eqb n m same) refl in
        record {
          link = record { owner = w; next = m; prev = 0 };
          is = ap L' to ∙ here;
          of = sym (ap (λ (k : Link). k.owner) one ∙ h.of);
          forth = sym same;
          other = λ z. omega arith;
        })
    | inr ne ↦ (
        let to : cond (n == m) o q.prev ≡ q.prev = rw (unequal n m ne) refl in
        let x = (l.roots n q e out).prev (omega arith) in
        record {
          link = before o m q.prev x.link;
          is = ap L' to ∙ is_now q.prev x.link x.other x.is;
          of = x.of;
          forth = x.forth;
          other = λ z. omega arith;
        })
  ]

  old_first : (n : ℕ) (q : Link) → (n ≡ o → ⊥) → L n ≡ Some q → cond (n == m) o q.prev ≡ 0 → first_in (with_first f w o) q.owner ≡ n
  old_first n q out e none = elim (cases_eq n m) [
    | inl same ↦ absurd (let z : o ≡ 0 = rw (eq-eqb n m same) at none in omega arith)
    | inr ne ↦ (
        let q_none : q.prev ≡ 0 = rw (unequal n m ne) at none in
        let mine = (l.roots n q e out).first q_none in
        first_other f w q.owner o (λ same. ne (sym mine ∙ ap (first_in f) same)) ∙ mine)
  ]

  joined_roots : (n : ℕ) (r : Link) → L' n ≡ Some r → (n ≡ 0 → ⊥) → Linked L' (with_first f w o) stamp' (l.top + 1) 0 n r
  joined_roots n r now some_n = elim (cases_eq n o) [
    | inl e ↦ (
        let mine : r ≡ record { owner = w; next = m; prev = 0 } = same_some (sym now ∙ (ap L' e ∙ here)) in
        rw (mine, e) (record {
          low = rw at_o (omega arith);
          next = λ pos. new_next pos;
          prev = λ pos. absurd (omega arith);
          first = λ none. first_set f w o has;
          has = has_set f w w o has;
        }))
    | inr ne ↦ (
        let s = stood n r ne now in
        let q = l.roots n s.link s.was ne in
        let low = q.low in
        rw s.now (record {
          low = rw (elsewhere n ne) (omega arith);
          next = λ pos. old_next n s.link ne s.was pos;
          prev = λ pos. old_prev n s.link ne s.was pos;
          first = λ none. old_first n s.link ne s.was none;
          has = has_set f w s.link.owner o q.has;
        }))
  ]

  joined_heads : (v : Owner) → 0 < first_in (with_first f w o) v → FirstOf L' 0 v (first_in (with_first f w o) v)
  joined_heads v pos = elim (cases_Bool (same_owner v w)) [
    | inl yes_owner ↦ (
        let own : v ≡ w = same_is v w yes_owner in
        let to : first_in (with_first f w o) v ≡ o = ap (first_in (with_first f w o)) own ∙ first_set f w o has in
        record {
          link = record { owner = w; next = m; prev = 0 };
          is = ap L' to ∙ here;
          of = sym own;
          first = refl;
          other = λ e. omega arith;
        })
    | inr no_owner ↦ (
        let apart : v ≡ w → ⊥ = differ v w no_owner in
        let to : first_in (with_first f w o) v ≡ first_in f v = first_other f w v o apart in
        let h = l.heads v (omega arith) in
        let ne : first_in f v ≡ m → ⊥ = λ same. (
        let g = l.heads w (omega arith) in
        let one : h.link ≡ g.link = one_of m h.link g.link (ap L (sym same) ∙ h.is) g.is in
        apart (sym h.of ∙ (ap (λ (k : Link). k.owner) one ∙ g.of))) in
        record {
          link = before o m (first_in f v) h.link;
          is = ap L' to ∙ is_now (first_in f v) h.link h.other h.is;
          of = h.of;
          first = rw (unequal (first_in f v) m ne) h.first;
          other = λ e. omega arith;
        })
  ]

  -- the links with o in front
  pub joined : LinksBut L' (with_first f w o) 0
  joined = record {
    stamp = λ n. cond (n == o) l.top (l.stamp n);
    top = l.top + 1;
    none = each 0 (λ e. omega arith) ∙ ap (if_link (before o (first_in f w) 0)) l.none;
    roots = joined_roots;
    heads = joined_heads;
  }
