-- The cells are zeros, and there are as many to hang in where some are for an `RRef`.
use Rattle.std.proofs.Common.{◌≡◌, ◌==◌, ◌∙◌, ℕ, suc, List, [], ◌∷◌, Bool, true, not, if◌then◌else◌, length, replicate, refl, ap, sym, arith}
use Rattle.std.specs.List.{list_any}
use Rattle.std.proofs.lemmas.List.{length-replicate}
use Rattle.std.proofs.lemmas.Bool.{cases_Bool, ne_eqb}
use Rattle.std.proofs.Common.{inl, inr}
use Rattle.rl_defs.specs.declared.tables.Kind.{Kind}
use Rattle.rref_heap.specs.declared.heap.Ready.{Ready}
use Rattle.rref_heap.specs.HeapValue.{is_rref, Room}
use Rattle.rref_heap.specs.Store.{IsReadyFor}
use Rattle.rref_heap.proofs.heap.ready_for.Goals as goal

same_room : (a b : ℕ) (p q : Bool) → a ≡ b → p ≡ q → (let r : Room = record { cells = a; nests = p } in r) ≡ record { cells = b; nests = q }
same_room a b p q e f = rw (e, f) refl

some_kind : (kinds : List Kind) → list_any is_rref kinds ≡ true → not (length kinds == 0) ≡ true
some_kind [] e = absurd cc
some_kind (k ∷ kinds) e = ap not (ne_eqb (suc (length kinds)) 0 (λ e. omega arith))

ready_is : (r : Ready) (kinds : List Kind) (nests : Bool) (count : ℕ) → r.cells.items ≡ replicate (length kinds) 0 → nests ≡ list_any is_rref kinds → r.below.items ≡ replicate count 0 → count ≡ (if nests then length kinds else 0) → IsReadyFor r kinds
ready_is r kinds nests count cells any below counted =
    let len_cells : length r.cells.items ≡ length kinds = ap length cells ∙ length-replicate (length kinds) 0 in
    let len_below : length r.below.items ≡ count = ap length below ∙ length-replicate count 0 in
    record {
      cells = cells;
      below = below ∙ ap (λ (n : ℕ). replicate n 0) (sym len_below);
      wide = elim (cases_Bool nests) [
        | inl e ↦ (λ pos. (let c : count ≡ length kinds = rw e at counted in omega arith))
        | inr e ↦ (λ pos. absurd (let c : count ≡ 0 = rw e at counted in omega arith))
      ];
      room = elim (cases_Bool nests) [
        | inl e ↦ (let c : count ≡ length kinds = rw e at counted in
            same_room (length r.cells.items) (length kinds) (not (length r.below.items == 0)) (list_any is_rref kinds) len_cells
            (ap (λ (n : ℕ). not (n == 0)) (len_below ∙ c) ∙ (some_kind kinds (sym any ∙ e) ∙ sym (sym any ∙ e))))
        | inr e ↦ (let c : count ≡ 0 = rw e at counted in
            same_room (length r.cells.items) (length kinds) (not (length r.below.items == 0)) (list_any is_rref kinds) len_cells
            (ap (λ (n : ℕ). not (n == 0)) (len_below ∙ c) ∙ sym (sym any ∙ e)))
      ];
    }

pub returns : goal.returns
returns c = ready_is _ c.args.kinds.now (list_any is_rref c.args.kinds.now) c.width_for.result c.in_ok-cells.ensures refl c.in_ok-below.ensures c.width_for.ensures
