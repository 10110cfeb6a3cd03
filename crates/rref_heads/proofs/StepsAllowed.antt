-- Each step may be made: whatever the table is, it keeps the rule and tells what its play says.
use Rattle.std.proofs.Common.{◌≡◌, ◌≢◌, ℕ, zero, suc, ◌+◌, ◌-◌, ◌*◌, ◌%◌, ◌^◌, ◌<◌, ◌≤◌, eqb, Bool, true, false, List, [], ◌∷◌, ◌++◌, length, get_or, set, Option, Some, None, sym, refl, ap, ◌∙◌, subst, ⊎_elim, arith, length-set, mod-eq_of_lt}
use mathlib.Core.Option.{some, none, some-injective}
use mathlib.Core.Option as maybe
use lib.ListN.{get_elem?}
use prog.Atomic.{either}
use Rattle.atomic_table.specs.Table.{step, Act, keeps, takes, gives, Valid, stepped, carried_after, Allows}
use Rattle.atomic_table.proofs.Lists.{set_here, set_else, exchanged}
use Rattle.machine_defs.specs.declared.heads.HeadWord.{HeadWord}
use Rattle.machine_defs.specs.declared.heads.HeadWord.TheVariants.{Vacant, Busy, Gone, Live}
use Rattle.machine_defs.specs.declared.heads.View.{View}
use Rattle.machine_defs.specs.declared.heads.Size.{Size}
use Rattle.machine_defs.specs.HeadSums.{count}
use Rattle.machine_defs.specs.Heads.{claim, title, loan, right, itself, how_many, due, rights_of, word_number, receiver_number, Fits, KeptUnless, Home, Place}
use Rattle.rref_heads.specs.Plays.{TableState, Holds}
use Rattle.machine_defs.specs.HeadSteps.{looked, claiming, publishing, lending, giving_back, with_right, releasing, without_title, taking_up, StepKind, Claim, Lend, TakeUp, Changes, lent_once_more}
use Rattle.rref_heads.specs.Plays.{Seated, looked_seat, on_view, claims_seat, busy, to_published, Tried, Claims, Publishes, Lends, GivesBack, Releases, TakesUp, Ends, PassesOn}
use Rattle.machine_defs.specs.Heads.{Slot}
use Rattle.rref_heads.specs.Passes.{MayLend}
use Rattle.rref_heads.proofs.HeadSums.{part_le, count_here}
use Rattle.rref_heads.proofs.WordNumbers.{word_number_inj, fits_more, word_number_small, less_four}
use Rattle.rref_heads.proofs.RuleKept.{Homes, kept, knows_none, knows_mine, knows_same}
use Rattle.rref_heads.proofs.ViewRows.{known_here, look_row, claim_row, publish_row, lend_row, back_row, last_row, release_row, leave_row, end_row, take_row}

busy_of : (a : HeadWord) → 1 ≤ due a claim → a ≡ Busy
busy_of Vacant p = absurd (omega arith)
busy_of Busy p = refl
busy_of Gone p = absurd (omega arith)
busy_of (Live l e to) p = absurd (omega arith)

lent_of : (a : HeadWord) → 1 ≤ due a loan → (l : ℕ) × (e : Bool) × (to : Option ℕ) × (a ≡ Live (suc l) e to)
lent_of Vacant p = absurd (omega arith)
lent_of Busy p = absurd (omega arith)
lent_of Gone p = absurd (omega arith)
lent_of (Live zero e to) p = absurd (omega arith)
lent_of (Live (suc l) e to) p = (l, e, to, refl)

titled_of : (a : HeadWord) → 1 ≤ due a title → (l : ℕ) × (a ≡ Live l false None)
titled_of Vacant p = absurd (omega arith)
titled_of Busy p = absurd (omega arith)
titled_of Gone p = absurd (omega arith)
titled_of (Live l true to) p = absurd (omega arith)
titled_of (Live l false None) p = (l, refl)
titled_of (Live l false (Some t)) p = absurd (omega arith)

righted_of : (a : HeadWord) → 1 ≤ due a right → (to : Option ℕ) × (a ≡ Live 0 true to)
righted_of Vacant p = absurd (omega arith)
righted_of Busy p = absurd (omega arith)
righted_of Gone p = absurd (omega arith)
righted_of (Live zero true to) p = (to, refl)
righted_of (Live (suc l) true to) p = absurd (omega arith)
righted_of (Live l false to) p = absurd (omega arith)

abbrev list_or : Slot → List ℕ
list_or None = []
list_or (Some l) = l

abbrev first_list : List (ℕ × Slot) → List ℕ
first_list [] = []
first_list (x ∷ xs) = list_or x.1

abbrev place_list : Place → List ℕ
place_list maybe.none = []
place_list (maybe.some maybe.none) = []
place_list (maybe.some (maybe.some o)) = list_or o

module _ (size : Size) (id h : ℕ) (pos : 1 ≤ h) (le : h ≤ size.heads) where
  Rule : TableState → Type 0
  Rule = Holds size

  -- what a step owes where the word becomes new
  abbrev Goes : TableState → Seated → (Seated → Type 0) → ℕ → Type 0
  Goes s me told new = (w : View) × (a : Act Slot) × Valid s.homes me.1 a × Holds size (stepped s h new id me.1 w a) × told (w, carried_after me.1 a)

  -- a compare and exchange that expects x
  pub tries : (kind : StepKind) (left : HeadWord → HeadWord) (made : ℕ → Seated → Seated) (me : Seated) (x : HeadWord) (slots : ℕ) → 1 ≤ me.0.passes → Fits 64 x → Changes kind x (left x)
      → ((s : TableState) (r : Holds size s) → get_elem? s.views id ≡ some me.0 → (r.heads h pos le).word ≡ x → Goes s me (λ m. m ≡ made h (looked_seat h x (left x) me)) (word_number (left x)))
      → Allows (Holds size) slots id me h (λ n. either (eqb n (word_number x)) (word_number (left x)) n) (Tried kind left made (step slots h (word_number x) (word_number (left x)) none) me)
  tries kind left made me x slots sits fx changes hit s r wide at _ = let n : ℕ = get_or s.words h 0 in let ok = r.heads h pos le in let a : HeadWord = ok.word in let v : View = me.0 in
      exchanged n (word_number x) (word_number (left x)) (Goes s me (Tried kind left made (step slots h (word_number x) (word_number (left x)) none) me n))
      (λ e. let t = hit s r at (word_number_inj size.seats 64 a x ok.fits fx (sym ok.shows ∙ e)) in (t.0, t.1, t.2, t.3, (x, e, fx, (λ _. (changes, refl, t.4)), (λ miss. absurd (miss e)))))
      (λ miss. let w : View = looked h a a v in (
        w,
        keeps,
        tt,
        subst (λ (z : ℕ). Holds size record { words = set s.words h z; homes = s.homes; views = set s.views id w }) (sym ok.shows)
            (kept size s r id h v w at pos le a a refl (look_row h a v) s.homes ok.fits sits refl (λ j _. refl) ok.home (knows_same size s r id h v w at pos le a a refl (look_row h a v) s.homes refl refl)),
        (a, ok.shows, fits_more size.seats 64 a r.few ok.fits, (λ e. absurd (miss e)), (λ _. refl)),
      ))

  pub claims : (me : Seated) (slots : ℕ) → 1 ≤ me.0.passes → Allows (Holds size) slots id me h (λ n. either (eqb n 0) 1 n) (Claims (step slots h 0 1 none) me)
  claims me slots sits = tries Claim busy claims_seat me Vacant slots sits tt (refl, refl) (λ s r at is. let v : View = me.0 in let w : View = claiming h (looked h Vacant Busy v) in let ok = r.heads h pos le in
      let there : get_elem? s.homes (h - 1) ≡ some (some None) = subst (λ (q : HeadWord). Home q (get_elem? s.homes (h - 1))) is ok.home in let homes' : Homes = set s.homes (h - 1) none in (
        w,
        takes (h - 1) None,
        there,
        kept size s r id h v w at pos le Vacant Busy is (claim_row h v) homes' tt sits (length-set s.homes (h - 1) none) (λ j n. set_else s.homes (h - 1) j none n) (set_here s.homes (h - 1) none (let d = r.deep in omega arith))
            (knows_none size s r id h v w at pos le Vacant Busy is (claim_row h v) (get_elem? homes' (h - 1)) refl),
        refl,
      ))

  pub publishes : (v : View) (l : List ℕ) (slots : ℕ) → 1 ≤ v.passes → 1 ≤ how_many claim h v
      → Allows (Holds size) slots id (v, (h - 1, Some l) ∷ []) h (λ _. 3) (λ _. Publishes (step slots h 3 0 none) (v, (h - 1, Some l) ∷ []) 3)
  publishes v l slots sits mine s r wide at _ = let w : View = publishing h l v in let ok = r.heads h pos le in let m = part_le (how_many claim h) s.views id v at in let t = ok.sums claim in
      let is : ok.word ≡ Busy = busy_of ok.word (omega arith) in let homes' : Homes = set s.homes (h - 1) (some (Some l)) in let here : get_elem? homes' (h - 1) ≡ some (some (Some l)) = set_here s.homes (h - 1) (some (Some l)) (let d = r.deep in omega arith) in
      let row = publish_row h v l mine in (
        w,
        gives,
        tt,
        kept size s r id h v w at pos le Busy (Live 0 false None) is row homes' (let z : 0 < 65536 = omega arith in let y : 0 ≤ size.seats = omega arith in (z, y)) sits (length-set s.homes (h - 1) (some (Some l))) (λ j n. set_else s.homes (h - 1) j (some (Some l)) n) (l, here)
            (knows_mine size s r id h v w at pos le Busy (Live 0 false None) is row (get_elem? homes' (h - 1)) refl
            (λ k e. here ∙ ap (λ (o : Slot). some (some o)) (sym (known_here h (Some l) v.titles) ∙ e))),
        (refl, (λ k e. ap (λ (z : List ℕ). (publishing h z v, [])) (ap first_list e))),
      )

  stays_none : (l : ℕ) (e : Bool) → rights_of e l ≡ 0 → rights_of e (suc l) ≡ 0
  stays_none l true z = refl
  stays_none l false z = refl

  pub lends : (me : Seated) (l : ℕ) (e : Bool) (slots : ℕ) → 1 ≤ me.0.passes → l < 65535 → rights_of e l ≡ 0
      → Allows (Holds size) slots id me h (λ n. either (eqb n (word_number (Live l e None))) (word_number (Live (suc l) e None)) n) (Lends (step slots h (word_number (Live l e None)) (word_number (Live (suc l) e None)) none) me)
  lends me l e slots sits few none_due = tries Lend lent_once_more (on_view lending) me (Live l e None) slots sits (let z : l < 65536 = omega arith in let y : 0 ≤ 64 = omega arith in (z, y)) (l, e, none_due, refl, refl) (λ s r at is.
      let v : View = me.0 in let a : HeadWord = Live l e None in let b : HeadWord = Live (suc l) e None in let w : View = lending h (looked h a b v) in let ok = r.heads h pos le in let next = stays_none l e none_due in let row = lend_row h v l e None none_due next in (
        w,
        keeps,
        tt,
        kept size s r id h v w at pos le a b is row s.homes (let z : suc l < 65536 = omega arith in let y : 0 ≤ size.seats = omega arith in (z, y)) sits refl (λ j _. refl)
            (subst (λ (n : ℕ). KeptUnless n (get_elem? s.homes (h - 1))) (none_due ∙ sym next) (subst (λ (q : HeadWord). Home q (get_elem? s.homes (h - 1))) is ok.home))
            (knows_same size s r id h v w at pos le a b is row s.homes refl refl),
        refl,
      ))

  one_fewer : (a : HeadWord) (l : ℕ) (e : Bool) (to : Option ℕ) → a ≡ Live (suc l) e to → Fits size.seats a → size.seats ≤ 64 → (word_number a + (2 ^ 64 - 4)) % 2 ^ 64 ≡ word_number (Live l e to)
  one_fewer a l e to is f few = let g = subst (Fits size.seats) is f in let g0 : suc l < 65536 = g.0 in let g1 : receiver_number to ≤ size.seats = g.1 in
      let small = word_number_small size.seats (Live l e to) few (let z : l < 65536 = omega arith in (z, g1)) in
      let same : word_number a ≡ word_number (Live l e to) + 4 = ap word_number is ∙ (let z : word_number (Live (suc l) e to) ≡ word_number (Live l e to) + 4 = omega arith in z) in
      ap (λ (z : ℕ). (z + (2 ^ 64 - 4)) % 2 ^ 64) same ∙ less_four (word_number (Live l e to)) small

  -- the payload of a live head with no right is at home
  at_home : (s : TableState) (r : Holds size s) (l : ℕ) (e : Bool) (to : Option ℕ) → (r.heads h pos le).word ≡ Live l e to → rights_of e l ≡ 0 → (p : List ℕ) × (get_elem? s.homes (h - 1) ≡ some (some (Some p)))
  at_home s r l e to is z = subst (λ (n : ℕ). KeptUnless n (get_elem? s.homes (h - 1))) z (subst (λ (q : HeadWord). Home q (get_elem? s.homes (h - 1))) is (r.heads h pos le).home)

  gives_back_from : (me : Seated) (s : TableState) (r : Holds size s) (slots : ℕ) → 1 ≤ me.0.passes → 1 ≤ how_many loan h me.0 → get_elem? s.views id ≡ some me.0 → (l : ℕ) (e : Bool) (to : Option ℕ) → (is : (r.heads h pos le).word ≡ Live (suc l) e to)
      → Goes s me (GivesBack (step slots h 4 0 none) me (get_or s.words h 0)) (word_number (Live l e to))
  gives_back_from me s r slots sits mine at zero true to is = let v : View = me.0 in let ok = r.heads h pos le in let a : HeadWord = Live 1 true to in let b : HeadWord = Live 0 true to in let w : View = with_right h (giving_back h (looked h a b v)) in
      let homes' : Homes = set s.homes (h - 1) none in let row = last_row h v to mine in let p = at_home s r 1 true to is refl in let fa = subst (Fits size.seats) is ok.fits in (
        w,
        takes (h - 1) (Some p.0),
        p.1,
        kept size s r id h v w at pos le a b is row homes' (let z : 0 < 65536 = omega arith in (z, fa.1)) sits (length-set s.homes (h - 1) none) (λ j n. set_else s.homes (h - 1) j none n) (set_here s.homes (h - 1) none (let d = r.deep in omega arith))
            (knows_none size s r id h v w at pos le a b is row (get_elem? homes' (h - 1)) refl),
        (a, ok.shows ∙ ap word_number is, fits_more size.seats 64 a r.few fa, (0, true, to, refl, refl), (λ _. (p.0, tt, refl)), (λ q. absurd (Rattle.std.proofs.Common.true≢false q))),
      )
  gives_back_from me s r slots sits mine at (suc l) true to is = let v : View = me.0 in let ok = r.heads h pos le in let a : HeadWord = Live (suc (suc l)) true to in let b : HeadWord = Live (suc l) true to in let w : View = giving_back h (looked h a b v) in
      let row = back_row h v (suc l) true to mine refl refl in let fa = subst (Fits size.seats) is ok.fits in let fl : suc (suc l) < 65536 = fa.0 in (
        w,
        keeps,
        tt,
        kept size s r id h v w at pos le a b is row s.homes (let z : suc l < 65536 = omega arith in (z, fa.1)) sits refl (λ j _. refl) (at_home s r (suc (suc l)) true to is refl) (knows_same size s r id h v w at pos le a b is row s.homes refl refl),
        (a, ok.shows ∙ ap word_number is, fits_more size.seats 64 a r.few fa, (suc l, true, to, refl, refl), (λ q. absurd (Rattle.std.proofs.Common.true≢false (sym q))), (λ _. refl)),
      )
  gives_back_from me s r slots sits mine at l false to is = let v : View = me.0 in let ok = r.heads h pos le in let a : HeadWord = Live (suc l) false to in let b : HeadWord = Live l false to in let w : View = giving_back h (looked h a b v) in
      let row = back_row h v l false to mine refl refl in let fa = subst (Fits size.seats) is ok.fits in let fl : suc l < 65536 = fa.0 in (
        w,
        keeps,
        tt,
        kept size s r id h v w at pos le a b is row s.homes (let z : l < 65536 = omega arith in (z, fa.1)) sits refl (λ j _. refl) (at_home s r (suc l) false to is refl) (knows_same size s r id h v w at pos le a b is row s.homes refl refl),
        (a, ok.shows ∙ ap word_number is, fits_more size.seats 64 a r.few fa, (l, false, to, refl, refl), (λ q. absurd (Rattle.std.proofs.Common.true≢false (sym q))), (λ _. refl)),
      )

  pub gives_back : (me : Seated) (slots : ℕ) → 1 ≤ me.0.passes → 1 ≤ how_many loan h me.0 → Allows (Holds size) slots id me h (λ n. (n + (2 ^ 64 - 4)) % 2 ^ 64) (GivesBack (step slots h 4 0 none) me)
  gives_back me slots sits mine s r wide at _ = let ok = r.heads h pos le in let m = part_le (how_many loan h) s.views id me.0 at in let t = ok.sums loan in let o = lent_of ok.word (omega arith) in
      subst (Goes s me (GivesBack (step slots h 4 0 none) me (get_or s.words h 0))) (sym (ap (λ (z : ℕ). (z + (2 ^ 64 - 4)) % 2 ^ 64) ok.shows ∙ one_fewer ok.word o.0 o.1 o.2 o.3 ok.fits r.few))
      (gives_back_from me s r slots sits mine at o.0 o.1 o.2 o.3)

  pub releases : (v : View) (slots : ℕ) → 1 ≤ v.passes → 1 ≤ how_many right h v → Allows (Holds size) slots id (v, (h - 1, None) ∷ []) h (λ _. 2) (λ _. Releases (step slots h 2 0 none) (v, (h - 1, None) ∷ []) 2)
  releases v slots sits mine s r wide at _ = let w : View = releasing h v in let ok = r.heads h pos le in let m = part_le (how_many right h) s.views id v at in let t = ok.sums right in let o = righted_of ok.word (omega arith) in let is = o.1 in
      let homes' : Homes = set s.homes (h - 1) (some None) in let row = release_row h v o.0 mine in (
        w,
        gives,
        tt,
        kept size s r id h v w at pos le (Live 0 true o.0) Gone is row homes' tt sits (length-set s.homes (h - 1) (some None)) (λ j n. set_else s.homes (h - 1) j (some None) n) (set_here s.homes (h - 1) (some None) (let d = r.deep in omega arith))
            (knows_none size s r id h v w at pos le (Live 0 true o.0) Gone is row (get_elem? homes' (h - 1)) refl),
        (refl, refl),
      )

  add_small : (a : HeadWord) (b : ℕ) (k : ℕ) → word_number a + k ≡ b → b < 2 ^ 63 → (word_number a + k) % 2 ^ 64 ≡ b
  add_small a b k e p = ap (λ (z : ℕ). z % 2 ^ 64) e ∙ mod-eq_of_lt (omega arith)

  ends_from : (me : Seated) (s : TableState) (r : Holds size s) (slots : ℕ) → 1 ≤ me.0.passes → 1 ≤ how_many title h me.0 → get_elem? s.views id ≡ some me.0 → (l : ℕ) → (is : (r.heads h pos le).word ≡ Live l false None)
      → Goes s me (Ends (step slots h 262144 0 none) me (get_or s.words h 0)) (word_number (Live l true None))
  ends_from me s r slots sits mine at zero is = let v : View = me.0 in let ok = r.heads h pos le in let a : HeadWord = Live 0 false None in let b : HeadWord = Live 0 true None in let w : View = with_right h (without_title h (looked h a b v)) in
      let homes' : Homes = set s.homes (h - 1) none in let row = end_row h v mine in let p = at_home s r 0 false None is refl in let fa = subst (Fits size.seats) is ok.fits in (
        w,
        takes (h - 1) (Some p.0),
        p.1,
        kept size s r id h v w at pos le a b is row homes' fa sits (length-set s.homes (h - 1) none) (λ j n. set_else s.homes (h - 1) j none n) (set_here s.homes (h - 1) none (let d = r.deep in omega arith))
            (knows_none size s r id h v w at pos le a b is row (get_elem? homes' (h - 1)) refl),
        (a, ok.shows ∙ ap word_number is, fits_more size.seats 64 a r.few fa, (0, refl, refl), (λ _. (p.0, (λ k q. ap place_list (sym p.1 ∙ ok.knows id v at k q)), refl)), (λ q. absurd (Rattle.std.proofs.Common.true≢false q))),
      )
  ends_from me s r slots sits mine at (suc l) is = let v : View = me.0 in let ok = r.heads h pos le in let a : HeadWord = Live (suc l) false None in let b : HeadWord = Live (suc l) true None in let w : View = without_title h (looked h a b v) in
      let row = leave_row h v (suc l) true None mine refl refl in let fa = subst (Fits size.seats) is ok.fits in (
        w,
        keeps,
        tt,
        kept size s r id h v w at pos le a b is row s.homes fa sits refl (λ j _. refl) (at_home s r (suc l) false None is refl) (knows_none size s r id h v w at pos le a b is row (get_elem? s.homes (h - 1)) refl),
        (a, ok.shows ∙ ap word_number is, fits_more size.seats 64 a r.few fa, (suc l, refl, refl), (λ q. absurd (Rattle.std.proofs.Common.true≢false (sym q))), (λ _. refl)),
      )

  pub ends : (me : Seated) (slots : ℕ) → 1 ≤ me.0.passes → 1 ≤ how_many title h me.0 → Allows (Holds size) slots id me h (λ n. (n + 262144) % 2 ^ 64) (Ends (step slots h 262144 0 none) me)
  ends me slots sits mine s r wide at _ = let ok = r.heads h pos le in let m = part_le (how_many title h) s.views id me.0 at in let t = ok.sums title in let o = titled_of ok.word (omega arith) in let l : ℕ = o.0 in let b : HeadWord = Live l true None in
      let fb : Fits size.seats b = subst (Fits size.seats) o.1 ok.fits in
      subst (Goes s me (Ends (step slots h 262144 0 none) me (get_or s.words h 0)))
      (sym (ap (λ (z : ℕ). (z + 262144) % 2 ^ 64) (ok.shows ∙ ap word_number o.1) ∙ add_small (Live l false None) (word_number b) 262144 (omega arith) (word_number_small size.seats b r.few fb)))
      (ends_from me s r slots sits mine at l o.1)

  pub passes_on : (me : Seated) (t slots k : ℕ) → 1 ≤ me.0.passes → 1 ≤ how_many title h me.0 → t < size.seats → k ≡ 524288 * (t + 1) → Allows (Holds size) slots id me h (λ n. (n + k) % 2 ^ 64) (PassesOn (step slots h k 0 none) me)
  passes_on me t slots k sits mine there many s r wide at _ = let ok = r.heads h pos le in let v : View = me.0 in let m = part_le (how_many title h) s.views id v at in let q = ok.sums title in let o = titled_of ok.word (omega arith) in let l : ℕ = o.0 in
      let a : HeadWord = Live l false None in let b : HeadWord = Live l false (Some t) in let fa : Fits size.seats a = subst (Fits size.seats) o.1 ok.fits in let fb : Fits size.seats b = (fa.0, (let z : t + 1 ≤ size.seats = omega arith in z)) in
      let w : View = without_title h (looked h a b v) in let row = leave_row h v l false (Some t) mine refl refl in
      subst (Goes s me (PassesOn (step slots h k 0 none) me (get_or s.words h 0))) (sym (ap (λ (z : ℕ). (z + k) % 2 ^ 64) (ok.shows ∙ ap word_number o.1) ∙ add_small a (word_number b) k (omega arith) (word_number_small size.seats b r.few fb))) (
        w,
        keeps,
        tt,
        kept size s r id h v w at pos le a b o.1 row s.homes fb sits refl (λ j _. refl) (at_home s r l false None o.1 refl) (knows_none size s r id h v w at pos le a b o.1 row (get_elem? s.homes (h - 1)) refl),
        (l, t, ok.shows ∙ ap word_number o.1, ap (λ (z : ℕ). z + k) (ok.shows ∙ ap word_number o.1) ∙ (let z : word_number a + k ≡ word_number b = omega arith in z), refl),
      )

  pub takes_up : (me : Seated) (t slots : ℕ) → 1 ≤ me.0.passes → t < 64
      → Allows (Holds size) slots id me h (λ n. either (eqb n (word_number (Live 0 false (Some t)))) (word_number (Live 0 false None)) n) (TakesUp (step slots h (word_number (Live 0 false (Some t))) (word_number (Live 0 false None)) none) me)
  takes_up me t slots sits small = tries TakeUp to_published (on_view taking_up) me (Live 0 false (Some t)) slots sits (let z : 0 < 65536 = omega arith in let y : t + 1 ≤ 64 = omega arith in (z, y)) (t, refl, refl) (λ s r at is.
      let v : View = me.0 in let a : HeadWord = Live 0 false (Some t) in let b : HeadWord = Live 0 false None in let w : View = taking_up h (looked h a b v) in let ok = r.heads h pos le in let row = take_row h v t in (
        w,
        keeps,
        tt,
        kept size s r id h v w at pos le a b is row s.homes (let z : 0 < 65536 = omega arith in let y : 0 ≤ size.seats = omega arith in (z, y)) sits refl (λ j _. refl) (at_home s r 0 false (Some t) is refl)
            (knows_mine size s r id h v w at pos le a b is row (get_elem? s.homes (h - 1)) refl (λ k q. absurd (nothing k (sym (known_here h None v.titles) ∙ q)))),
        refl,
      ))
    where
      nothing : (k : List ℕ) → None ≡ Some k → ⊥
      nothing k q = Rattle.std.proofs.Common.true≢false (sym (ap is q))
        where
          is : Option (List ℕ) → Bool
          is None = false
          is (Some x) = true

  pub publishes_at : (me : Seated) (v : View) (l : List ℕ) (slots : ℕ) → me ≡ (v, (h - 1, Some l) ∷ []) → 1 ≤ v.passes → 1 ≤ how_many claim h v → Allows (Holds size) slots id me h (λ _. 3) (λ _. Publishes (step slots h 3 0 none) me 3)
  publishes_at me v l slots e sits mine = subst (λ (m : Seated). Allows (Holds size) slots id m h (λ _. 3) (λ _. Publishes (step slots h 3 0 none) m 3)) (sym e) (publishes v l slots sits mine)

  pub releases_at : (me : Seated) (v : View) (slots : ℕ) → me ≡ (v, (h - 1, None) ∷ []) → 1 ≤ v.passes → 1 ≤ how_many right h v → Allows (Holds size) slots id me h (λ _. 2) (λ _. Releases (step slots h 2 0 none) me 2)
  releases_at me v slots e sits mine = subst (λ (m : Seated). Allows (Holds size) slots id m h (λ _. 2) (λ _. Releases (step slots h 2 0 none) m 2)) (sym e) (releases v slots sits mine)

pub has_head : (h : ℕ) (xs : List ℕ) → 1 ≤ count itself h (h ∷ xs)
has_head h xs = let c = count_here itself h h xs refl in omega arith

module _ (size : Size) (id h : ℕ) (pos : 1 ≤ h) (le : h ≤ size.heads) where
  pub lends_seen : (seen : HeadWord) (me : Seated) (old new slots : ℕ) → MayLend seen → old ≡ word_number seen → new ≡ old + 4 → 1 ≤ me.0.passes → Allows (Holds size) slots id me h (λ n. either (eqb n old) new n) (Lends (step slots h old new none) me)
  lends_seen (Live l e None) me old new slots may is next sits =
      let more : new ≡ word_number (Live (suc l) e None) = omega arith in
      subst (λ (z : ℕ × ℕ). Allows (Holds size) slots id me h (λ n. either (eqb n z.0) z.1 n) (Lends (step slots h z.0 z.1 none) me)) (λ i. (sym is i, sym more i)) (lends size id h pos le me l e slots sits may.0 may.1)
  lends_seen (Live l e (Some t)) me old new slots may is next sits = absurd may
  lends_seen Vacant me old new slots may is next sits = absurd may
  lends_seen Busy me old new slots may is next sits = absurd may
  lends_seen Gone me old new slots may is next sits = absurd may

  pub takes_up_seen : (seen : HeadWord) (t : ℕ) (me : Seated) (old slots : ℕ) → seen ≡ Live 0 false (Some t) → t < 64 → old ≡ word_number seen → 1 ≤ me.0.passes
      → Allows (Holds size) slots id me h (λ n. either (eqb n old) 3 n) (TakesUp (step slots h old 3 none) me)
  takes_up_seen seen t me old slots is small shows sits =
      subst (λ (z : ℕ). Allows (Holds size) slots id me h (λ n. either (eqb n z) 3 n) (TakesUp (step slots h z 3 none) me)) (sym (shows ∙ ap word_number is)) (takes_up size id h pos le me t slots sits small)

pub may_fits : (seen : HeadWord) → MayLend seen → Fits 64 seen
may_fits (Live l e None) may = let p : l < 65535 = may.0 in let z : l < 65536 = omega arith in let y : 0 ≤ 64 = omega arith in (z, y)
may_fits (Live l e (Some t)) may = absurd may
may_fits Vacant may = absurd may
may_fits Busy may = absurd may
may_fits Gone may = absurd may
