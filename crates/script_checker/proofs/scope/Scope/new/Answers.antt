use Rattle.std.proofs.Common.{List, map, refl, ap, ◌∙◌, arith}
use Rattle.rl_defs.specs.declared.tables.StructRow.{StructRow}
use Rattle.rl_defs.specs.declared.tables.TraitRow.{TraitRow}
use Rattle.rl_defs.specs.BundleOrder.{text_of}
use Rattle.script_checker.specs.Scopes.{without_interfaces}
use Rattle.script_checker.proofs.TargetLaws.{load_traits_are, shadow_traits_are}
use Rattle.script_checker.proofs.scope.Scope.new.Goals as goal

pub invariant_of-result : goal.invariant_of-result
invariant_of-result c =
    let loaded = load_traits_are c.args.tables.now (without_interfaces c.args.domains.now c.args.plan.now c.args.clients.now) c.in_ok-traits.traits (map text_of c.args.domains.now) c.in_ok-loads.loads.traits (c.in_ok-traits.ensures ∙ ap (λ (ts : List TraitRow). map (λ t. t.name) ts) c.as_slice.ensures) refl c.in_ok-loads.ensures.traits in
    record {
      structs_are = c.in_ok-structs.ensures ∙ ap (λ (ss : List StructRow). map (λ s. s.name) ss) c.as_slice-2.ensures;
      methods_are = c.in_ok-methods.ensures ∙ ap (λ (ts : List TraitRow). map (λ t. map (λ m. m.name) t.methods) ts) c.as_slice-3.ensures;
      loads_are = c.in_ok-loads.ensures.names;
      loaded_are = loaded;
      shadows_are = c.in_ok-shadows.ensures.names;
      shadowed_are = shadow_traits_are c.args.tables.now (without_interfaces c.args.domains.now c.args.plan.now c.args.clients.now) c.in_ok-loads.loads.names c.in_ok-loads.loads.traits c.in_ok-shadows.shadows.traits c.in_ok-loads.ensures.names loaded c.in_ok-shadows.ensures.traits;
      numbered = omega (arith, c.len.ensures, c.len-2.ensures, c.if-len.false);
    }
