use Rattle.std.proofs.Common.{◌≡◌, ℕ, List, [], Some, map, length, nat_eq, refl, sym, ◌∙◌, arith, slice_get}
use Rattle.std.specs.Cmp.Lexicographic.{pointwise}
use Rattle.std.proofs.lemmas.Option.{slice_get_read}
use Rattle.indexmap.specs.IndexMap.{get}
use Rattle.rl_defs.specs.declared.tables.TraitRow.{TraitRow}
use Rattle.rl_defs.specs.Interfaces.{place_of}
use Rattle.domain_checker.proofs.Naming.{finds_row, finds_end, still_none}
use Rattle.domain_checker.proofs.names.traits_by_name.Goals as goal

pub traits-preserved : goal.traits-preserved
traits-preserved c =
    let here : slice_get c.args.traits.now c.traits.number ≡ Some c.index-traits-number.result = slice_get_read c.args.traits.now (length c.args.traits.now) c.traits.number c.index-traits-number.result refl c.traits-test.true c.index-traits-number.is in
    record {
      finds = finds_row (λ (s : TraitRow). s.name) c.args.traits.now c.traits.number c.index-traits-number.result (get (pointwise nat_eq) c.traits.table) (get (pointwise nat_eq) c.note_named.new.table) here c.traits.invariant.finds (λ q. c.in_ok-note_named.ensures.noted q);
      named = still_none (get (pointwise nat_eq) c.traits.table) (get (pointwise nat_eq) c.note_named.new.table) c.index-traits-number.result.name c.traits.number c.in_ok-note_named.ensures.named (λ q. c.in_ok-note_named.ensures.noted q) c.traits.invariant.named;
    }

pub returns : goal.returns
returns c =
    let found : (q : List ℕ) → get (pointwise nat_eq) c.traits.table q ≡ place_of q (map (λ (s : TraitRow). s.name) c.args.traits.now) = finds_end (λ (s : TraitRow). s.name) c.args.traits.now c.traits.number (get (pointwise nat_eq) c.traits.table) (omega arith) c.traits.invariant.finds in
    record { found = found; named = sym (found []) ∙ c.traits.invariant.named }
