-- What hangs after each row hangs in a cell of its struct; and so the objects after each row fit.
use Rattle.std.proofs.Common.{◌≡◌, ℕ, ◌-◌, inl, inr, List, Option, Some, None, slice_get, refl, ap, sym, subst, ◌∙◌, arith}
use Rattle.machine_defs.specs.declared.values.Owner.{Owner}
use Rattle.rl_defs.specs.declared.tables.Kind.TheVariants as kind
use Rattle.machine_defs.specs.declared.entry.Entry.{Entry}
use Rattle.machine_defs.specs.declared.entry.Entry.TheVariants as entry
use Rattle.rl_defs.specs.declared.load.LoadRows.{LoadRows}
use Rattle.rl_defs.specs.CodeNames.{cells_of}
use Rattle.machine_defs.specs.State.{State, Object, Root, Hung}
use Rattle.machine_defs.specs.Loans.{object_of, sweep}
use Rattle.machine_defs.specs.Calling.{with_fuel}
use Rattle.machine_defs.specs.Objects.{kinds_of, with_placement}
use Rattle.machine_defs.specs.Seen.{types_of}
use Rattle.machine_defs.specs.Steps.{Row}
use Rattle.rl_defs.specs.Valid.{Valid, AreValidTables}
use Rattle.machine_laws.specs.LedgerOf.{seat_of, ledger_of}
use Rattle.machine_laws.specs.LedgerSound.{Owned}
use Rattle.machine_laws.specs.Shape.{Laid}
use Rattle.machine_laws.specs.Fitting.{ObjectFits, Fitting}
use Rattle.machine_laws.proofs.Objects.{found_below}
use Rattle.machine_laws.proofs.Seats.{seats, IsIn}
use Rattle.machine_laws.proofs.FrameRows.{gone_on}
use Rattle.machine_laws.proofs.Present.{seated}
use Rattle.machine_laws.proofs.Types.{Stays, AnyHow, Unchanged, stays_sweep}
use Rattle.machine_laws.proofs.Moves.{IsNew, IsHang}
use Rattle.machine_laws.proofs.LaidRows.{laid_row}
use Rattle.machine_laws.proofs.StaysRows.{stays_as, stays_row, new_stays}
use Rattle.machine_laws.proofs.CellsFit.{cells_count}
use Rattle.machine_laws.proofs.ObjectsKept.{does_fit, changed_as, HungSo, carries_hung, filled_row}
use Rattle.machine_laws.proofs.Parts.{struct_or_none}

-- the kinds of the cells of an object that stayed
kinds_stay : (L : LoadRows) (P : Object → Object → Type 0) (s z : State) (p : ℕ) → Stays P s z → IsIn z p → kinds_of L (object_of z p) ≡ kinds_of L (object_of s p)
kinds_stay L P s z p stays there =
    let was = stays p there.0 there.1 in
    ap (kinds_of L) there.1 ∙ ap (cells_of L.tables) (sym was.ty) ∙ sym (ap (kinds_of L) was.here)

module _ (L : LoadRows) (s : State) (plans : Valid L) (tables : AreValidTables L.tables) (scripts : Valid L) (laid : Laid L s) (fits : Fitting L s) where
  -- an object that was there, and hung so
  hung_before : (z : State) (q p k : ℕ) (x y : Object) → object_of s q ≡ Some x → x.ty ≡ y.ty → x.placement ≡ Hung p k → kinds_of L (object_of z p) ≡ kinds_of L (object_of s p) → slice_get (kinds_of L (object_of z p)) k ≡ Some (kind.Own y.ty)
  hung_before z q p k x y here ty hangs same = ap (λ ks. slice_get ks k) same ∙ (fits.objects q x here).hung p k hangs ∙ ap (λ t. Some (kind.Own t)) ty

  hung_same : (e : Entry) (z : State) → (IsNew e → ⊥) → (IsHang e → ⊥) → Row L s e z → (q p k : ℕ) (y : Object) → object_of z q ≡ Some y → y.placement ≡ Hung p k → IsIn z p → slice_get (kinds_of L (object_of z p)) k ≡ Some (kind.Own y.ty)
  hung_same e z old still makes q p k y is hangs there =
      let was = stays_as L s e z HungSo (carries_hung e still) laid old makes q y is in
      hung_before z q p k was.x y was.here was.ty (was.alike p k hangs) (kinds_stay L AnyHow s z p (stays_row L s e z laid old makes) there)

  -- a new object is a root
  hung_new : (t : ℕ) (w : Owner) (o ty : ℕ) (values : List ℕ) (z : State) → Row L s (entry.New t w o ty values) z → (q p k : ℕ) (y : Object) → object_of z q ≡ Some y → y.placement ≡ Hung p k → IsIn z p → slice_get (kinds_of L (object_of z p)) k ≡ Some (kind.Own y.ty)
  hung_new t w o ty values z makes q p k y is hangs there = elim (new_stays L s t w o ty values z makes q y is) [
    | inl old ↦ hung_before z q p k y y old refl hangs (same (object_of s p) refl ((fits.objects q y old).hung p k hangs))
    | inr new ↦ absurd (let e : Root w ≡ Hung p k = ap (λ (x : Object). x.placement) (sym new.1) ∙ hangs in cc)
  ]
    where
      same : (x : Option Object) → object_of s p ≡ x → slice_get (kinds_of L (object_of s p)) k ≡ Some (kind.Own y.ty) → kinds_of L (object_of z p) ≡ kinds_of L (object_of s p)
      same None e h = absurd (let h' : slice_get (kinds_of L None) k ≡ Some (kind.Own y.ty) = rw e at h in cc)
      same (Some x) e h = elim (new_stays L s t w o ty values z makes p there.0 there.1) [
        | inl old ↦ ap (kinds_of L) (there.1 ∙ sym old)
        | inr new ↦ absurd (let b = found_below 0 s.next_object p s.objects x laid.objects e in let eq = new.0 in omega (arith, b.1, eq))
      ]

  -- the object that is hung
  hung_now : (t o place v : ℕ) (z : State) → Row L s (entry.Hang t o place v) z → (q p k : ℕ) (y : Object) → object_of z q ≡ Some y → y.placement ≡ Hung p k → IsIn z p → slice_get (kinds_of L (object_of z p)) k ≡ Some (kind.Own y.ty)
  hung_now t o place v z makes q p k y is hangs there =
      let d = makes.does in
      let m : State = gone_on s t d.after (with_fuel (d.fuel - 1) d.thread) in
      let was = changed_as m v (with_placement (Hung o place)) (λ x. refl) q y (ap (λ (st : State). object_of st q) (sym d.becomes) ∙ is) in
      let here : object_of s q ≡ Some was.x = was.here in
      let kinds = kinds_stay L AnyHow s z p (stays_row L s (entry.Hang t o place v) z laid (λ e. e) makes) there in
      elim was.is [
        | inl mine ↦
            let suits : slice_get (kinds_of L (object_of s o)) place ≡ Some (kind.Own ((types_of L s).struct_of v)) = does_fit plans tables laid fits (λ c e. cc) d in
            let place' : Hung o place ≡ Hung p k = ap (λ (x : Object). x.placement) (sym mine.1) ∙ hangs in
            let same_p : o ≡ p = cc in
            let same_k : place ≡ k = cc in
            let struct : (types_of L s).struct_of v ≡ y.ty = ap (struct_or_none L) (subst (λ n. object_of s n ≡ Some was.x) mine.0 here) ∙ ap (λ (x : Object). x.ty) (sym mine.1) in
            ap (λ ks. slice_get ks k) kinds ∙ subst (λ n. slice_get (kinds_of L (object_of s p)) n ≡ Some (kind.Own y.ty)) same_k
            (subst (λ n. slice_get (kinds_of L (object_of s n)) place ≡ Some (kind.Own y.ty)) same_p (suits ∙ ap (λ ty. Some (kind.Own ty)) struct))
        | inr other ↦ hung_before z q p k was.x y here (ap (λ (x : Object). x.ty) (sym other)) (ap (λ (x : Object). x.placement) (sym other) ∙ hangs) kinds
      ]

  pub hung_row : (e : Entry) (z : State) → Row L s e z → (q p k : ℕ) (y : Object) → object_of z q ≡ Some y → y.placement ≡ Hung p k → IsIn z p → slice_get (kinds_of L (object_of z p)) k ≡ Some (kind.Own y.ty)
  hung_row (entry.New t w o ty values) z makes = hung_new t w o ty values z makes
  hung_row (entry.Hang t o place v) z makes = hung_now t o place v z makes
  hung_row e z makes = hung_same e z (λ new. new) (λ hangs. hangs) makes

-- Each object that a step leaves fits.
pub objects_fit : (L : LoadRows) (s : State) (e : Entry) (made : State) → Valid L → AreValidTables L.tables → Valid L → Laid L s → Owned L (ledger_of L (sweep made)) → Fitting L s → Row L s e made
    → (o : ℕ) (x : Object) → object_of (sweep made) o ≡ Some x → ObjectFits L (sweep made) x
objects_fit L s e made plans tables scripts laid owned fits makes o x is =
    let stays : Stays Unchanged made (sweep made) = stays_sweep Unchanged (λ y. refl) L made (laid_row L s e made laid makes) in
    let was = stays o x is in
    let here : object_of made o ≡ Some x = was.here ∙ ap (λ y. Some y) was.alike in
    let filled = filled_row L s plans tables scripts laid fits e made makes o x here in
    record {
      cells = cells_count (cells_of L.tables x.ty) x.cells filled;
      numbers = filled;
      hung = λ p k hangs. (
          let seat : seats (sweep made) o ≡ Some (Hung p k) = ap seat_of is ∙ ap (λ q. Some q) hangs in
          let root = owned.hung o p k seat in
          let there = seated (sweep made) p (Root root.0) root.1 in
          let parent = stays p there.0 there.1 in
          let kinds = kinds_stay L Unchanged made (sweep made) p stays there in
          ap (λ ks. slice_get ks k) kinds ∙ hung_row L s plans tables scripts laid fits e made makes o p k x here hangs (parent.x, parent.here));
    }
