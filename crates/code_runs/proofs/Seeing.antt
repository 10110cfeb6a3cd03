-- A view that suits a domain shows its frames what they may see.
use Rattle.std.proofs.Common.{◌≡◌, refl, sym, ◌∙◌, ap, subst, ℕ, zero, suc, ◌<◌, ◌≤◌, ◌^◌, Bool, true, false, ◌&&◌, List, [], ◌∷◌, length, map, Option, Some, None, slice_get, is_some, arith}
use Rattle.std.specs.Prelude.{nat_le}
use Rattle.std.specs.List.{slice_index_or}
use Rattle.std.proofs.lemmas.Bool.{eqb-true}
use Rattle.std.proofs.lemmas.List.{length-map}
use Rattle.std.proofs.lemmas.Option.{slice_get_past}
use Rattle.rl_defs.specs.declared.tables.Kind.{Kind}
use Rattle.rl_defs.specs.declared.tables.Kind.TheVariants as kind
use Rattle.rl_defs.specs.declared.tables.Tables.{Tables}
use Rattle.rl_defs.specs.declared.code.RegKind.TheVariants as held
use Rattle.rl_defs.specs.Interfaces.{place_of}
use Rattle.rl_defs.specs.DomainValue.{Domain}
use Rattle.rl_defs.specs.CodeNames.{Declared, flat_of, cells_of, slots, imports, type_of, type_at, struct_number, trait_number}
use Rattle.rl_defs.specs.CodeKinds.{hung_in, hung_at}
use Rattle.rl_defs.specs.Registers.{Typing}
use Rattle.rl_defs.specs.TableSizes.{AreTablesSmall}
use Rattle.machine_defs.specs.CodeFits.{FitsSight, is_number_cell}
use Rattle.machine_defs.proofs.CodeSafe.{place_below}
use Rattle.code_runs.specs.declared.view.Cell.{Cell}
use Rattle.code_runs.specs.declared.view.Cell.TheVariants as cell
use Rattle.code_runs.specs.declared.view.SeenObject.{SeenObject}
use Rattle.code_runs.specs.declared.view.MemoryView.{MemoryView}
use Rattle.code_runs.specs.Seen.{cells_seen, number_of, hung_of, held_by, sight_of, struct_seen, types_of}
use Rattle.code_runs.specs.Suits.{cell_suits, cells_suit, objects_suit, slot_suits_as, slots_suit, bind_suits_as, binds_suit, suits}
use Rattle.code_runs.proofs.Pairing.{beside, nothing_beside}
use Rattle.rl_defs.proofs.Lists.{and_left, and_right}

-- each object has the cells of its struct
object_suits : (types : Typing) (tables : Tables) (os : List SeenObject) (o : ℕ) (x : SeenObject) → objects_suit types tables os ≡ true → slice_get os o ≡ Some x → cells_suit types x.cells (cells_of tables x.of) ≡ true
object_suits types tables [] o x all e = absurd cc
object_suits types tables (y ∷ os) zero x all e =
    let same : y ≡ x = cc in
    subst (λ z. cells_suit types z.cells (cells_of tables z.of) ≡ true) same (and_left (cells_suit types y.cells (cells_of tables y.of)) (objects_suit types tables os) all)
object_suits types tables (y ∷ os) (suc o) x all e = object_suits types tables os o x (and_right (cells_suit types y.cells (cells_of tables y.of)) (objects_suit types tables os) all) e

no_cells : (tables : Tables) → AreTablesSmall tables → cells_of tables (2 ^ 32) ≡ []
no_cells tables small = let few = small.few_structs in ap flat_of (slice_get_past tables.structs (2 ^ 32) (omega arith))

number_suits : (types : Typing) (c : Cell) (k : Kind) → cell_suits types c k ≡ true → is_some (number_of (Some c)) ≡ is_number_cell (Some k)
number_suits types (cell.Num n) (kind.Num w) e = refl
number_suits types cell.Empty (kind.Own s) e = refl
number_suits types (cell.Holds o) (kind.Own s) e = refl
number_suits types c k e = absurd cc

cell_here : (types : Typing) (cells : List Cell) (kinds : List Kind) (at : ℕ) (c : Option Cell) → slice_get cells at ≡ c → cells_suit types cells kinds ≡ true → is_some (number_of c) ≡ is_number_cell (slice_get kinds at)
cell_here types cells kinds at None e all = sym (ap is_number_cell (nothing_beside (cell_suits types) cells kinds at all e))
cell_here types cells kinds at (Some c) e all =
    let b = beside (cell_suits types) cells kinds at c all e in
    number_suits types c b.other b.suit ∙ sym (ap is_number_cell b.there)

cells_here : (types : Typing) (tables : Tables) (os : List SeenObject) (o at : ℕ) (x : Option SeenObject) → AreTablesSmall tables → objects_suit types tables os ≡ true → slice_get os o ≡ x → is_some (number_of (slice_get (cells_seen x) at)) ≡ is_number_cell (slice_get (cells_of tables (struct_seen x)) at)
cells_here types tables os o at None small all e = sym (ap (λ ks. is_number_cell (slice_get ks at)) (no_cells tables small))
cells_here types tables os o at (Some x) small all e = cell_here types x.cells (cells_of tables x.of) at (slice_get x.cells at) refl (object_suits types tables os o x all e)

hangs_suits : (types : Typing) (c : Cell) (k : Kind) (v : ℕ) → cell_suits types c k ≡ true → hung_of (Some c) ≡ Some v → hung_in (Some k) ≡ Some (types.struct_of v)
hangs_suits types (cell.Holds o) (kind.Own s) v e h =
    let same : o ≡ v = cc in
    ap (λ n. Some n) (sym (eqb-true (types.struct_of o) s e)) ∙ ap (λ n. Some (types.struct_of n)) same
hangs_suits types (cell.Num n) k v e h = absurd cc
hangs_suits types cell.Empty k v e h = absurd cc
hangs_suits types c k v e h = absurd cc

hangs_cell : (types : Typing) (cells : List Cell) (kinds : List Kind) (at v : ℕ) (c : Option Cell) → slice_get cells at ≡ c → cells_suit types cells kinds ≡ true → hung_of c ≡ Some v → hung_in (slice_get kinds at) ≡ Some (types.struct_of v)
hangs_cell types cells kinds at v None e all h = absurd cc
hangs_cell types cells kinds at v (Some c) e all h =
    let b = beside (cell_suits types) cells kinds at c all e in
    ap hung_in b.there ∙ hangs_suits types c b.other v b.suit h

hangs_here : (types : Typing) (tables : Tables) (os : List SeenObject) (o at v : ℕ) (x : Option SeenObject) → objects_suit types tables os ≡ true → slice_get os o ≡ x → hung_of (slice_get (cells_seen x) at) ≡ Some v → hung_at tables (held.Own (struct_seen x)) at ≡ Some (types.struct_of v)
hangs_here types tables os o at v None all e h = absurd cc
hangs_here types tables os o at v (Some x) all e h = hangs_cell types x.cells (cells_of tables x.of) at v (slice_get x.cells at) refl (object_suits types tables os o x all e) h

slot_holds : (types : Typing) (tables : Tables) (hs : List (Option ℕ)) (ds : List Declared) (k o : ℕ) (x : Option (Option ℕ)) → slice_get hs k ≡ x → slots_suit types tables hs ds ≡ true → held_by x ≡ Some o → types.struct_of o ≡ struct_number tables (type_at ds (Some k))
slot_holds types tables hs ds k o None e all h = absurd cc
slot_holds types tables hs ds k o (Some None) e all h = absurd cc
slot_holds types tables hs ds k o (Some (Some v)) e all h =
    let b = beside (slot_suits_as types tables) hs ds k (Some v) all e in
    let same : v ≡ o = cc in
    ap types.struct_of (sym same) ∙ eqb-true (types.struct_of v) (struct_number tables b.other.ty) b.suit ∙ ap (λ x. struct_number tables (type_of x)) (sym b.there)

bound_here : (types : Typing) (tables : Tables) (xs : List ℕ) (ds : List Declared) (k : ℕ) → binds_suit types tables xs ds ≡ true → k < length ds → types.trait_of (slice_index_or xs k 0) ≡ trait_number tables (type_at ds (Some k))
bound_here types tables [] [] k all lt = absurd (omega arith)
bound_here types tables [] (d ∷ ds) k all lt = absurd cc
bound_here types tables (x ∷ xs) [] k all lt = absurd cc
bound_here types tables (x ∷ xs) (d ∷ ds) zero all lt = eqb-true (types.trait_of x) (trait_number tables d.ty) (and_left (bind_suits_as types tables x d) (binds_suit types tables xs ds) all)
bound_here types tables (x ∷ xs) (d ∷ ds) (suc k) all lt = bound_here types tables xs ds k (and_right (bind_suits_as types tables x d) (binds_suit types tables xs ds) all) (omega arith)

le_true : (m n : ℕ) → nat_le m n ≡ true → m ≤ n
le_true m n e = grind arith

pub fits_sight : (v : MemoryView) (d : Domain) → AreTablesSmall d.tables → suits v d ≡ true → FitsSight (types_of v) d (sight_of v)
fits_sight v d small all =
    let types = types_of v in
    let words = nat_le (length v.words) 4096 in
    let objects = objects_suit types d.tables v.objects in
    let slotted = slots_suit types d.tables v.slots (slots d.lines) in
    let front = and_left ((words && objects) && slotted) (binds_suit types d.tables v.binds (imports d.lines)) all in
    let before = and_left (words && objects) slotted front in
    let there = and_right words objects before in
    let few : length v.words ≤ 4096 = le_true (length v.words) 4096 (and_left words objects before) in
    record {
      types_same = refl;
      cells = λ o at. cells_here types d.tables v.objects o at (slice_get v.objects o) small there refl;
      words = λ at le. slice_get_past v.words at (omega arith);
      slots = λ k o h. slot_holds types d.tables v.slots (slots d.lines) k o (slice_get v.slots k) refl (and_right (words && objects) slotted front) h;
      hung = λ o at w h. hangs_here types d.tables v.objects o at w (slice_get v.objects o) there refl h;
      bound = λ k lt. bound_here types d.tables v.binds (imports d.lines) k (and_right ((words && objects) && slotted) (binds_suit types d.tables v.binds (imports d.lines)) all) lt;
    }

-- a named row's place is a number
pub few_place : {A : Type 0} (f : A → List ℕ) (name : List ℕ) (rows all : List A) (k : ℕ) → rows ≡ all → length all < 2 ^ 32 → place_of name (map f rows) ≡ Some k → k < 2 ^ 32
few_place f name rows all k same few e =
    let lt = place_below name (map f rows) k e in
    let count = length-map rows f in
    let count' = ap length same in
    omega arith
