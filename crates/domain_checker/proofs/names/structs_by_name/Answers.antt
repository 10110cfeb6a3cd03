use Rattle.std.proofs.Common.{◌≡◌, ℕ, List, [], Some, map, length, nat_eq, refl, sym, ◌∙◌, arith, slice_get}
use Rattle.std.specs.Cmp.Lexicographic.{pointwise}
use Rattle.std.proofs.lemmas.Option.{slice_get_read}
use Rattle.indexmap.specs.IndexMap.{get}
use Rattle.rl_defs.specs.declared.tables.StructRow.{StructRow}
use Rattle.rl_defs.specs.Interfaces.{place_of}
use Rattle.domain_checker.proofs.Naming.{finds_row, finds_end, still_none}
use Rattle.domain_checker.proofs.names.structs_by_name.Goals as goal

pub structs-preserved : goal.structs-preserved
structs-preserved c =
    let here : slice_get c.args.structs.now c.structs.number ≡ Some c.index-structs-number.result = slice_get_read c.args.structs.now (length c.args.structs.now) c.structs.number c.index-structs-number.result refl c.structs-test.true c.index-structs-number.is in
    record {
      finds = finds_row (λ (s : StructRow). s.name) c.args.structs.now c.structs.number c.index-structs-number.result (get (pointwise nat_eq) c.structs.table) (get (pointwise nat_eq) c.note_named.new.table) here c.structs.invariant.finds (λ q. c.in_ok-note_named.ensures.noted q);
      named = still_none (get (pointwise nat_eq) c.structs.table) (get (pointwise nat_eq) c.note_named.new.table) c.index-structs-number.result.name c.structs.number c.in_ok-note_named.ensures.named (λ q. c.in_ok-note_named.ensures.noted q) c.structs.invariant.named;
    }

pub returns : goal.returns
returns c =
    let found : (q : List ℕ) → get (pointwise nat_eq) c.structs.table q ≡ place_of q (map (λ (s : StructRow). s.name) c.args.structs.now) = finds_end (λ (s : StructRow). s.name) c.args.structs.now c.structs.number (get (pointwise nat_eq) c.structs.table) (omega arith) c.structs.invariant.finds in
    record { found = found; named = sym (found []) ∙ c.structs.invariant.named }
