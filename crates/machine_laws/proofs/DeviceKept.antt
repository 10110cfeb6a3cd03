-- The device keeps its blocks after each row, each of 64 words.
use Rattle.std.proofs.Common.{◌≡◌, ℕ, zero, suc, ◌⊎◌, inl, inr, true, List, [], ◌∷◌, Option, Some, None, slice_get, slice_set, refl, ap, sym, subst, ◌∙◌}
use Rattle.std.proofs.lemmas.List.{length-set}
use Rattle.rl_defs.specs.declared.tables.Width.TheVariants as width
use Rattle.machine_defs.specs.declared.entry.Entry.{Entry}
use Rattle.machine_defs.specs.declared.entry.Entry.TheVariants as entry
use Rattle.rl_defs.specs.declared.load.LoadRows.{LoadRows}
use Rattle.rl_defs.specs.CodeNames.{cells_of}
use Rattle.rl_defs.specs.NativeShapes.{has_cells}
use Rattle.machine_defs.specs.State.{State, Object}
use Rattle.machine_defs.specs.Loans.{object_of, sweep}
use Rattle.machine_defs.specs.Objects.{kinds_of, cells_in}
use Rattle.machine_defs.specs.Steps.{Row}
use Rattle.machine_laws.specs.Shape.{Laid}
use Rattle.machine_laws.specs.Fitting.{BlockFits, DeviceFits, Fitting}
use Rattle.machine_laws.proofs.Moves.{IsSave, Moves, row_moves}
use Rattle.machine_laws.proofs.CellsFit.{cells_block}
use Rattle.machine_laws.proofs.ObjectsKept.{does_fit}
use Rattle.rl_defs.specs.Valid.{Valid, AreValidTables}

abbrev BlocksStay : State → State → Type 0
BlocksStay s z = z.blocks ≡ s.blocks

block_moves : (L : LoadRows) (e : Entry) → (IsSave e → ⊥) → Moves L e BlocksStay
block_moves L e saves = record {
  still = λ s. refl;
  behind = λ s m z a b. b ∙ a;
  frames = λ s t fs. refl;
  thread = λ s t thread. refl;
  number = λ s c. refl;
  given = λ s w os. refl;
  gone = λ s os. refl;
  made = λ new s ty w values. refl;
  cells = λ writes s o change. refl;
  hung = λ hangs s o parent place. refl;
  rooted = λ s o w. refl;
  word = λ s i k v. refl;
  taken = λ s i k. refl;
  filled = λ puts s i k o. refl;
  ends = λ s i. refl;
  device = λ saves'. absurd (saves saves');
  reload = λ s x left. refl;
}

-- a block of a list in which one was set
set_block : (blocks : List (List ℕ)) (b j : ℕ) (new cells : List ℕ) → slice_get (slice_set blocks b new) j ≡ Some cells → (cells ≡ new) ⊎ (slice_get blocks j ≡ Some cells)
set_block [] b j new cells is = inr is
set_block (x ∷ blocks) zero zero new cells is = inl cc
set_block (x ∷ blocks) zero (suc j) new cells is = inr is
set_block (x ∷ blocks) (suc b) zero new cells is = inr is
set_block (x ∷ blocks) (suc b) (suc j) new cells is = set_block blocks b j new cells is

module _ (L : LoadRows) (s : State) (plans : Valid L) (tables : AreValidTables L.tables) (laid : Laid L s) (fits : Fitting L s) where
  -- the cells of an object that holds a block
  held_block : (o : ℕ) → has_cells 64 width.W64 (kinds_of L (object_of s o)) ≡ true → BlockFits (cells_in (object_of s o))
  held_block o holds = go (object_of s o) refl holds
    where
      go : (x : Option Object) → object_of s o ≡ x → has_cells 64 width.W64 (kinds_of L x) ≡ true → BlockFits (cells_in x)
      go None e h = absurd cc
      go (Some x) e h = cells_block (cells_of L.tables x.ty) x.cells h (fits.objects o x e).numbers

  device_row : (made : State) (e : Entry) → Row L s e made → DeviceFits L made.blocks
  device_row made (entry.DevPut t b o) makes =
      let d = makes.1 in
      let whole = held_block o (does_fit plans tables laid fits (λ c e. cc) d) in
      subst (DeviceFits L) (ap (λ (z : State). z.blocks) (sym d.becomes)) (record {
        count = length-set s.blocks b (cells_in (object_of s o)) ∙ fits.device.count;
        each = λ j cells is. elim (set_block s.blocks b j (cells_in (object_of s o)) cells is) [
          | inl new ↦ subst BlockFits (sym new) whole
          | inr old ↦ fits.device.each j cells old
        ];
      })
  device_row made e makes = subst (DeviceFits L) (sym (row_moves L BlocksStay e (block_moves L e (λ saves. saves)) s made makes)) fits.device

pub device_fit : (L : LoadRows) (s : State) (e : Entry) (made : State) → Valid L → AreValidTables L.tables → Laid L s → Fitting L s → Row L s e made → DeviceFits L (sweep made).blocks
device_fit L s e made plans tables laid fits makes = device_row L s plans tables laid fits made e makes
