-- The objects after each row have cells that fit.
use Rattle.std.proofs.Common.{◌≡◌, ℕ, ◌-◌, ◌<◌, ◌==◌, ◌⊎◌, inl, inr, true, if◌then◌else◌, List, [], length, Option, Some, None, slice_get, refl, ap, sym, subst, ◌∙◌, arith}
use Rattle.std.proofs.lemmas.Bool.{cases_Bool, eqb-true}
use Rattle.std.proofs.lemmas.Option.{slice_get-get_or}
use Rattle.machine_defs.specs.declared.values.Owner.{Owner}
use Rattle.machine_defs.specs.declared.entry.Entry.{Entry}
use Rattle.machine_defs.specs.declared.entry.Entry.TheVariants as entry
use Rattle.machine_defs.specs.declared.frame.Action.{Action}
use Rattle.machine_defs.specs.declared.frame.Answer.{Answer}
use Rattle.rl_defs.specs.declared.load.LoadRows.{LoadRows}
use Rattle.rl_defs.specs.declared.load.Command.{Command}
use Rattle.rl_defs.specs.declared.load.Command.TheVariants as command
use Rattle.rl_defs.specs.CodeNames.{cells_of}
use Rattle.machine_defs.specs.State.{State, StackFrame, Thread, Object, Hung}
use Rattle.rl_defs.specs.Rows.{row}
use Rattle.machine_defs.specs.Loans.{object_of}
use Rattle.machine_defs.specs.Wants.{Commands, by_command, can_do}
use Rattle.rl_defs.specs.Rows.{commands_of}
use Rattle.machine_defs.specs.Objects.{with_cells, change_object, overwritten}
use Rattle.rl_defs.specs.Widths.{numbers_suit}
use Rattle.machine_defs.specs.Calling.{with_fuel}
use Rattle.machine_defs.specs.ObjectRows.{Does, Gives, ClientMakes, block, instead}
use Rattle.machine_defs.specs.Sound.{cells_fit}
use Rattle.machine_defs.specs.Steps.{Row}
use Rattle.rl_defs.specs.ValidScripts.{CommandFits}
use Rattle.rl_defs.specs.Valid.{Valid, AreValidTables}
use Rattle.rl_defs.proofs.ValidFacts.{command_fits}
use Rattle.machine_laws.specs.Shape.{Laid}
use Rattle.machine_laws.specs.Fitting.{Fitting}
use Rattle.machine_laws.proofs.Objects.{found, found_map, found_number, changed}
use Rattle.machine_laws.proofs.FrameRows.{gone_on}
use Rattle.machine_laws.proofs.Acting.{acts_as, commands_as}
use Rattle.machine_laws.proofs.CodeDoing.{NotTrap}
use Rattle.machine_laws.proofs.Moves.{IsNew, IsWrite, IsHang}
use Rattle.machine_laws.proofs.LaidRows.{chosen_number}
use Rattle.machine_laws.proofs.StaysRows.{Carries, stays_as, new_stays}
use Rattle.machine_laws.proofs.CellsFit.{fresh_cells, written_cells, block_cells}
use Rattle.machine_laws.proofs.FrameWrites.{PutsFit, puts_fit}

-- what an action that is no trap puts somewhere fits there
pub does_fit : {L : LoadRows} {s : State} {t i : ℕ} {act : Action} {a : Answer} {change : State → State} {z : State} → Valid L → AreValidTables L.tables → Laid L s → Fitting L s → NotTrap act → Does L s t i act a change z → PutsFit L s i act
does_fit {L = L} {s = s} {t = t} {i = i} {act = act} plans tables laid fits no_trap d =
    let doing = acts_as L s t act d.fuel d.frame d.wants in
    let inside : doing.f.instance ≡ i = sym (ap (λ (g : StackFrame). g.instance) doing.same) ∙ sym d.inside in
    subst (λ n. PutsFit L s n act) inside (puts_fit L s plans tables laid fits t act d.fuel d.frame doing no_trap)

-- what a changed object was
pub record Changed (s : State) (o : ℕ) (g : Object → Object) (q : ℕ) (y : Object) : Type 0 where
  pub x : Object
  pub here : object_of s q ≡ Some x
  pub is : ((q ≡ o) × (y ≡ g x)) ⊎ (y ≡ x)

pub changed_as : (s : State) (o : ℕ) (g : Object → Object) → ((x : Object) → (g x).number ≡ x.number) → (q : ℕ) (y : Object) → object_of (change_object o g s) q ≡ Some y → Changed s o g q y
changed_as s o g keeps q y is = go (object_of s q) refl
  where
    known : changed (λ x. if x.number == o then g x else x) (object_of s q) ≡ Some y
    known = sym (found_map (λ x. if x.number == o then g x else x) (λ x. chosen_number (x.number == o) g keeps x) q s.objects) ∙ is

    go : (here : Option Object) → object_of s q ≡ here → Changed s o g q y
    go None e = absurd (let k : changed (λ x. if x.number == o then g x else x) None ≡ Some y = rw e at known in cc)
    go (Some x) e =
        let k : Some (if x.number == o then g x else x) ≡ Some y = rw e at known in
        elim (cases_Bool (x.number == o)) [
          | inl mine ↦
              let k' : Some (g x) ≡ Some y = rw mine at k in
              let eq : g x ≡ y = cc in
              record { x = x; here = e; is = inl (sym (found_number q s.objects x e) ∙ eqb-true x.number o mine, sym eq) }
          | inr other ↦
              let k' : Some x ≡ Some y = rw other at k in
              let eq : x ≡ y = cc in
              record { x = x; here = e; is = inr (sym eq) }
        ]

-- the cells of an object fit
abbrev pub IsFilled : LoadRows → Object → Type 0
IsFilled L x = cells_fit (cells_of L.tables x.ty) x.cells ≡ true

-- what an object without new cells carries, and what one carries that isn't hung
abbrev SameCells : Object → Object → Type 0
SameCells x y = x.cells ≡ y.cells

abbrev pub HungSo : Object → Object → Type 0
HungSo x y = (p k : ℕ) → y.placement ≡ Hung p k → x.placement ≡ Hung p k

carries_cells : (e : Entry) → (IsWrite e → ⊥) → Carries e SameCells
carries_cells e writes = record { same = λ x. refl; behind = λ x y z a b. a ∙ b; rooted = λ x w. refl; written = λ w x change. absurd (writes w); hung = λ hangs x parent place. refl }

pub carries_hung : (e : Entry) → (IsHang e → ⊥) → Carries e HungSo
carries_hung e hangs = record {
  same = λ x p k is. is;
  behind = λ x y z a b p k is. a p k (b p k is);
  rooted = λ x w p k is. absurd cc;
  written = λ writes x change p k is. is;
  hung = λ h x parent place. absurd (hangs h);
}

-- the command that a client does is the one at its place
command_here : (s : State) (thread : Thread) (next : Option Command) (c : Command) → by_command s thread next ≡ Commands c → next ≡ Some c
command_here s thread None c e = absurd cc
command_here s thread (Some d) c e = elim (cases_Bool (can_do s thread.names d)) [
  | inl b ↦ let e' : Commands d ≡ Commands c = rw b at e in cc
  | inr b ↦ absurd (let e' = rw b at e in cc)
]

values_suit : (L : LoadRows) (t p : ℕ) (c : Command) (ty : ℕ) (values : List ℕ) → Gives c ty values → CommandFits L t p c → numbers_suit (cells_of L.tables ty) values ≡ true
values_suit L t p (command.Let name of given) ty values gives fits = rw (gives.0, gives.1) fits.1
values_suit L t p (command.Text name of given) ty values gives fits = rw (gives.0, gives.1) fits.1
values_suit L t p other ty values gives fits = absurd gives

module _ (L : LoadRows) (s : State) (plans : Valid L) (tables : AreValidTables L.tables) (scripts : Valid L) (laid : Laid L s) (fits : Fitting L s) where
  filled_before : (o : ℕ) (x : Object) → object_of s o ≡ Some x → IsFilled L x
  filled_before o x is = (fits.objects o x is).numbers

  -- the cells of the objects that a row leaves, where it writes none
  filled_same : (e : Entry) (z : State) → (IsNew e → ⊥) → (IsWrite e → ⊥) → Row L s e z → (q : ℕ) (y : Object) → object_of z q ≡ Some y → IsFilled L y
  filled_same e z old still makes q y is =
      let was = stays_as L s e z SameCells (carries_cells e still) laid old makes q y is in
      let before = filled_before q was.x was.here in
      subst (λ cells. cells_fit (cells_of L.tables y.ty) cells ≡ true) was.alike (subst (λ ty. cells_fit (cells_of L.tables ty) was.x.cells ≡ true) was.ty before)

  -- a new object
  values_of : (t : ℕ) (w : Owner) (o ty : ℕ) (values : List ℕ) (z : State) → ClientMakes L s t w o ty values z → numbers_suit (cells_of L.tables ty) values ≡ true
  values_of t w o ty values z c =
      let doing = commands_as L s t (Commands c.next) tt c.does.wants in
      let here = command_here s doing.thread (slice_get (commands_of (row L.clients t)) doing.thread.place) c.next doing.by in
      values_suit L t doing.thread.place c.next ty values c.gives (command_fits L scripts t doing.thread.place c.next here)

  filled_new : (t : ℕ) (w : Owner) (o ty : ℕ) (values : List ℕ) (z : State) → Row L s (entry.New t w o ty values) z → (q : ℕ) (y : Object) → object_of z q ≡ Some y → IsFilled L y
  filled_new t w o ty values z makes q y is = elim (new_stays L s t w o ty values z makes q y is) [
    | inl old ↦ filled_before q y old
    | inr new ↦ subst (IsFilled L) (sym new.1) (fresh_cells (cells_of L.tables ty) values suits)
  ]
    where
      suits : numbers_suit (cells_of L.tables ty) values ≡ true
      suits = elim makes.makes [
        | inl c ↦ values_of t w o ty values z c
        | inr f ↦ rw f.blank refl
      ]

  -- an object that gets other cells
  filled_written : (o : ℕ) (change : List ℕ → List ℕ) (m : State) → m.objects ≡ s.objects → ((x : Object) → object_of s o ≡ Some x → IsFilled L (with_cells change x))
      → (q : ℕ) (y : Object) → object_of (change_object o (with_cells change) m) q ≡ Some y → IsFilled L y
  filled_written o change m same fills q y is =
      let was = changed_as m o (with_cells change) (λ x. refl) q y is in
      let here : object_of s q ≡ Some was.x = ap (found q) (sym same) ∙ was.here in
      elim was.is [
        | inl mine ↦ subst (IsFilled L) (sym mine.1) (fills was.x (subst (λ n. object_of s n ≡ Some was.x) mine.0 here))
        | inr other ↦ subst (IsFilled L) (sym other) (filled_before q was.x here)
      ]

  pub filled_row : (e : Entry) (z : State) → Row L s e z → (q : ℕ) (y : Object) → object_of z q ≡ Some y → IsFilled L y
  filled_row (entry.New t w o ty values) z makes = filled_new t w o ty values z makes
  filled_row (entry.Set t o place values) z makes =
      let d = makes.1 in
      let suits = does_fit plans tables laid fits (λ c e. cc) d in
      λ q y is. filled_written o (overwritten place values) (gone_on s t d.after (with_fuel (d.fuel - 1) d.thread)) refl
      (λ x here. written_cells (cells_of L.tables x.ty) place values x.cells (filled_before o x here) (rw here at suits)) q y (ap (λ (st : State). object_of st q) (sym d.becomes) ∙ is)
  filled_row (entry.DevGet t o b) z makes =
      let d = makes.1 in
      let suits = does_fit plans tables laid fits (λ c e. cc) d in
      let within : b < length s.blocks = (let lt = suits.1 in let e = fits.device.count in omega (arith, lt, e)) in
      let whole = fits.device.each b (block s b) (slice_get-get_or s.blocks b [] within) in
      λ q y is. filled_written o (instead (block s b)) (gone_on s t d.after (with_fuel (d.fuel - 1) d.thread)) refl
      (λ x here. block_cells (cells_of L.tables x.ty) (block s b) (let h = suits.0 in rw here at h) whole) q y (ap (λ (st : State). object_of st q) (sym d.becomes) ∙ is)
  filled_row e z makes = filled_same e z (λ new. new) (λ writes. writes) makes
