-- What fails in a bundle fails in one of its parts.
use Rattle.std.proofs.lemmas.Bool.Decides.{Decides-eqb}
use Rattle.std.specs.Option.{option_and_then}
use Rattle.std.proofs.lemmas.Slice.Eq.{slice_eq-Decides}
use Rattle.rl_defs.specs.NameRules.{GivenTwice}
use Rattle.std.proofs.Common.{◌≡◌, ℕ, inl, inr, Bool, true, false, not, nat_eq, nat_le, List, map, take, Option, Some, None, refl, sym, ap, subst, ◌∙◌, arith, le-leb, lt-ltb}
use Rattle.std.specs.Prelude.{slice_get, is_none, is_some, IsTrue}
use Rattle.std.specs.Cmp.Lexicographic.{pointwise}
use Rattle.rl_defs.specs.declared.idl.Idl.{Idl}
use Rattle.rl_defs.specs.declared.bundle.Plan.{Plan}
use Rattle.rl_defs.specs.declared.bundle.Clients.{Clients}
use Rattle.rl_defs.specs.declared.bundle.Bundle.{Bundle}
use Rattle.rl_defs.specs.declared.bundle.PlanLine.{PlanLine}
use Rattle.rl_defs.specs.declared.bundle.PlanLine.TheVariants as plan
use Rattle.rl_defs.specs.declared.bundle.ClientLine.{ClientLine}
use Rattle.rl_defs.specs.declared.bundle.ClientLine.TheVariants as client
use Rattle.rl_defs.specs.declared.code.DomainLine.{DomainLine}
use Rattle.rl_defs.specs.declared.code.DomainLine.TheVariants as line
use Rattle.rl_defs.specs.declared.code.DomainText.{DomainText}
use Rattle.rl_defs.specs.DomainValue.{Domain}
use Rattle.rl_defs.specs.Domains.{Lines, trait_name}
use Rattle.rl_defs.specs.CodeNames.{Declared, imports, place_in, type_at}
use Rattle.rl_defs.specs.Interfaces.{place_of}
use Rattle.rl_defs.specs.BundleNames.{given_by, load_given, slot_given, client_given, load_lines, target_lines, shadowed, device_given, load_names}
use Rattle.rl_defs.specs.BundleOrder.{bundle_of, text_of}
use Rattle.rl_defs.specs.Refusals.{HasLine}
use Rattle.rl_defs.specs.PlanRules.{IsUnbound, HasOtherTrait, IsBoundBackwards, ShadowsNative, RestartsTooOften, GoesOver, HasTooManySlots, HasTooManyCommands, HasTooManyWords, HasOtherFuel, HasOtherDevice, IsTooMuch, FailsPlanRules}
use Rattle.plan_checker.specs.Facts.{HasLoadNames}
use Rattle.plan_checker.specs.LineScan.{FailsIn, given_before}
use Rattle.plan_checker.specs.Limits.{FailsDomainLine, FailsDomains, FailsClientLine, is_over_in_clients, commands_before, is_full}
use Rattle.plan_checker.specs.Lookups.{PlanLines, plan_bundle, place_of_target, binding, bound_at}
use Rattle.plan_checker.specs.PlanTests.{has_unbound, differs, is_behind, has_native, loads_shadowed, FailsPlanLine}
use Rattle.plan_checker.specs.Parts.{FailsParts}
use Rattle.plan_checker.proofs.Dots.{NoDots, name_no_dot, bound_same}
use Rattle.plan_checker.proofs.Members.{any_there, or_first, or_second, get_names, named_at, load_one, slot_one, client_one, outside_test, domain_there, device_one, shadow_one, earlier_given}
use Rattle.plan_checker.proofs.Placing.{place_some}
use Rattle.plan_checker.proofs.Scanning.{given_at}
use Rattle.plan_checker.proofs.Scripts.{StandsBehind, in_scripts}

-- the loads that bind have no dots
pub no_dots : (lines : PlanLines) → HasLoadNames lines → NoDots lines
no_dots lines h = record { each = λ k n load import target here. name_no_dot load (named_at binding lines k n (plan.Bind load import target) load here refl h.bindings) }

module _ (idl : Idl) (domains : List Domain) (p : Plan) (c : Clients) where
  abbrev whole : Bundle
  whole = bundle_of idl domains p c

  abbrev part : Bundle
  part = plan_bundle domains p.lines

  abbrev InPlan : ℕ → ℕ → Type 0
  InPlan n rule = FailsIn p.lines (FailsPlanLine part) n rule

  at_line : (n rule : ℕ) (form : PlanLine) → (line : HasLine p.lines n form) → FailsPlanLine part line.place form rule → InPlan n rule
  at_line n rule form line fails = record { place = line.place; form = form; here = line.here; fails = fails }

  to_40 : (n : ℕ) → HasLoadNames p.lines → IsUnbound whole n → InPlan n 40
  to_40 n names h =
      let named : IsTrue (Rattle.rl_defs.specs.Words.is_name h.name) = named_at load_given p.lines h.line.place n (plan.Load h.name h.domain) h.name h.line.here refl names.loads in
      let test : is_none (bound_at p.lines h.name h.import.name) ≡ true = sym (bound_same p.lines h.name h.import.name (no_dots p.lines names) (name_no_dot h.name named)) ∙ ap is_none h.unbound in
      let any = any_there (λ (d : Declared). is_none (bound_at p.lines h.name d.name)) (imports h.lines) h.place h.import h.of test in
      at_line n 40 (plan.Load h.name h.domain) h.line (inl (refl, ap (has_unbound p.lines h.name) h.text ∙ any))

  to_41 : (n : ℕ) → HasOtherTrait whole n → InPlan n 41
  to_41 n h =
      let import = type_at (imports h.lines) (place_in h.import (imports h.lines)) in
      at_line n 41 (plan.Bind h.load h.import h.target) h.line
      (inl (refl, ap (λ (o : Option Lines). differs o h.import (target_lines part h.target)) h.binds ∙ ap (differs (Some h.lines) h.import) h.bound ∙ apart (pointwise nat_eq import (trait_name h.others)) (λ same. h.differ (sym ((slice_eq-Decides Decides-eqb import (trait_name h.others) (pointwise nat_eq import (trait_name h.others)) refl).0 same))))) where
        apart : (b : Bool) → (b ≡ true → ⊥) → not b ≡ true
        apart true never = absurd (never refl)
        apart false never = refl

  to_42 : (n : ℕ) → IsBoundBackwards whole n → InPlan n 42
  to_42 n h =
      at_line n 42 (plan.Bind h.load h.import h.target) h.line
      (inr (refl, ap (λ (o : Option ℕ). is_behind o (place_of_target part h.target)) h.binds ∙ ap (is_behind (Some h.place)) (ap (option_and_then (λ (l : List ℕ). place_of l (load_names part))) h.stands_for ∙ h.bound) ∙ le-leb h.place h.target_place h.behind))

  to_native : (n : ℕ) → ShadowsNative whole n → InPlan n 43
  to_native n h =
      at_line n 43 (plan.Shadow h.name h.load h.restarts) h.line
      (inl (refl, or_first (has_native (load_lines part h.load)) (is_some (place_of h.load (loads_shadowed (take h.line.place p.lines)))) (ap has_native h.text ∙ h.native)))

  to_again : (n : ℕ) → GivenTwice (given_by shadowed p.lines) n → InPlan n 43
  to_again n h =
      let at = given_at shadowed p.lines h.place h.second h.here in
      let form = shadow_one at.form at.index h.second.name at.name in
      let before = take at.place p.lines in
      let first = earlier_given shadowed p.lines at.place h.earlier h.first h.there (omega (arith, h.before, at.at, form.3)) in
      let name = get_names (given_by shadowed before) h.earlier h.first first ∙ ap (λ (q : List ℕ). Some q) (sym h.again) in
      record {
        place = at.place;
        form = at.form;
        here = at.here ∙ ap (λ (m : ℕ). Some (record { line = m; form = at.form })) h.line;
        fails = subst (λ (f : PlanLine). FailsPlanLine part at.place f 43) (sym form.2) (inl (refl, or_second (has_native (load_lines part h.second.name)) (is_some (place_of h.second.name (loads_shadowed before))) (place_some h.second.name (loads_shadowed before) h.earlier name)));
      }

  to_44 : (n : ℕ) → RestartsTooOften whole n → InPlan n 44
  to_44 n h = at_line n 44 (plan.Shadow h.name h.load h.restarts) h.line (inr (refl, lt-ltb 16 h.restarts h.many))

  to_45 : (n : ℕ) → GivenTwice (given_by device_given p.lines) n → InPlan n 45
  to_45 n h =
      let at = given_at device_given p.lines h.place h.second h.here in
      let form = device_one at.form at.index h.second.name at.name in
      record {
        place = at.place;
        form = at.form;
        here = at.here ∙ ap (λ (m : ℕ). Some (record { line = m; form = at.form })) h.line;
        fails = subst (λ (f : PlanLine). FailsPlanLine part at.place f 45) (sym form.2) (inl (refl, lt-ltb 0 (given_before device_given p.lines at.place) (omega (arith, h.before, at.at, form.3))));
      }

  to_loads : (n : ℕ) → GoesOver 64 (given_by load_given p.lines) n → InPlan n 46
  to_loads n h =
      let at = given_at load_given p.lines h.place h.one h.here in
      let form = load_one at.form at.index h.one.name at.name in
      record {
        place = at.place;
        form = at.form;
        here = at.here ∙ ap (λ (m : ℕ). Some (record { line = m; form = at.form })) h.line;
        fails = subst (λ (f : PlanLine). FailsPlanLine part at.place f 46) (sym form.1) (inr (refl, le-leb 64 (given_before load_given p.lines at.place) (omega (arith, h.over, at.at, form.2))));
      }

  to_clients : (n : ℕ) → GoesOver 16 (given_by client_given c.lines) n → FailsIn c.lines (FailsClientLine c.lines) n 46
  to_clients n h =
      let at = given_at client_given c.lines h.place h.one h.here in
      let form = client_one at.form at.index h.one.name at.name in
      record {
        place = at.place;
        form = at.form;
        here = at.here ∙ ap (λ (m : ℕ). Some (record { line = m; form = at.form })) h.line;
        fails = subst (λ (f : ClientLine). FailsClientLine c.lines at.place f 46) (sym form.0) (refl, or_first (nat_le 16 (given_before client_given c.lines at.place)) (is_full (commands_before c.lines at.place)) (le-leb 16 (given_before client_given c.lines at.place) (omega (arith, h.over, at.at, form.1))));
      }

  to_commands : (n : ℕ) → HasTooManyCommands whole n → FailsIn c.lines (FailsClientLine c.lines) n 46
  to_commands n h =
      let at = in_scripts None c.lines h.command.number h.command.place h.command.script (record { line = n; form = h.command.form }) h.command.client h.command.here in
      let full : is_full (commands_before c.lines at.place) ≡ true = ap is_full at.count ∙ le-leb 1000 at.commands (omega (arith, h.over, at.least)) in
      record { place = at.place; form = h.command.form; here = at.here; fails = (refl, over (given_before client_given c.lines at.place) (commands_before c.lines at.place) h.command.form full at.goes) } where
        over : (clients : ℕ) (commands : Option ℕ) (form : ClientLine) → is_full commands ≡ true → Rattle.plan_checker.proofs.Scripts.Goes form → is_over_in_clients clients commands form ≡ true
        over clients commands (client.Client name) full goes = or_second (nat_le 16 clients) (is_full commands) full
        over clients commands (client.Let name ty values) full goes = full
        over clients commands (client.Text name ty bytes) full goes = full
        over clients commands (client.Call target method args names) full goes = full
        over clients commands (client.Show name) full goes = full
        over clients commands (client.Drop name) full goes = full
        over clients commands (client.Kill target) full goes = full
        over clients commands client.Close full goes = absurd cc

  in_domain : (n : ℕ) (place : ℕ) (lines : Lines) → slice_get (map text_of domains) place ≡ Some (record { lines = lines }) → FailsIn lines (FailsDomainLine lines) n 46 → FailsDomains domains n 46
  in_domain n place lines here fails =
      let d = domain_there domains place (record { lines = lines }) here in
      record { number = place; domain = d.0; there = d.1; fails = subst (λ (ls : Lines). FailsIn ls (FailsDomainLine ls) n 46) (ap (λ (t : DomainText). t.lines) (sym d.2)) fails }

  to_slots : (n : ℕ) → HasTooManySlots whole n → FailsDomains domains n 46
  to_slots n h =
      let at = given_at slot_given h.lines h.over.place h.over.one h.over.here in
      let form = slot_one at.form at.index h.over.one.name at.name in
      in_domain n h.domain.place h.lines h.domain.here (record {
        place = at.place;
        form = at.form;
        here = at.here ∙ ap (λ (m : ℕ). Some (record { line = m; form = at.form })) h.over.line;
        fails = subst (λ (f : DomainLine). FailsDomainLine h.lines at.place f 46) (sym form.1) (refl, le-leb 64 (given_before slot_given h.lines at.place) (omega (arith, h.over.over, at.at, form.2)));
      })

  to_words : (n : ℕ) → HasTooManyWords whole n → FailsDomains domains n 46
  to_words n h = in_domain n h.domain.place h.lines h.domain.here (record { place = h.line.place; form = line.Words h.words; here = h.line.here; fails = (refl, lt-ltb 4096 h.words h.many) })

  to_fuel : (n : ℕ) → HasOtherFuel whole n → InPlan n 46
  to_fuel n h = at_line n 46 (plan.Fuel h.fuel) h.line (inr (refl, outside_test 1 1000000 h.fuel h.outside))

  to_device : (n : ℕ) → HasOtherDevice whole n → InPlan n 46
  to_device n h = at_line n 46 (plan.Device h.load h.blocks) h.line (inr (refl, outside_test 1 4096 h.blocks h.outside))

  to_46 : (n : ℕ) → IsTooMuch whole n → FailsParts domains part c.lines n 46
  to_46 n (inl h) = inr (inr (to_clients n h))
  to_46 n (inr (inl h)) = inr (inl (to_loads n h))
  to_46 n (inr (inr (inl h))) = inl (to_slots n h)
  to_46 n (inr (inr (inr (inl h)))) = inr (inr (to_commands n h))
  to_46 n (inr (inr (inr (inr (inl h))))) = inl (to_words n h)
  to_46 n (inr (inr (inr (inr (inr (inl h)))))) = inr (inl (to_fuel n h))
  to_46 n (inr (inr (inr (inr (inr (inr h)))))) = inr (inl (to_device n h))

  by_rule : (n rule least : ℕ) → rule ≡ least → FailsParts domains part c.lines n least → FailsParts domains part c.lines n rule
  by_rule n rule least is h = subst (λ (r : ℕ). FailsParts domains part c.lines n r) (sym is) h

  -- what fails in the whole bundle fails in a part
  pub to_parts : (n rule : ℕ) → HasLoadNames p.lines → FailsPlanRules whole n rule → FailsParts domains part c.lines n rule
  to_parts n rule names (inl h) = by_rule n rule 40 h.0 (inr (inl (to_40 n names h.1)))
  to_parts n rule names (inr (inl h)) = by_rule n rule 41 h.0 (inr (inl (to_41 n h.1)))
  to_parts n rule names (inr (inr (inl h))) = by_rule n rule 42 h.0 (inr (inl (to_42 n h.1)))
  to_parts n rule names (inr (inr (inr (inl h)))) = by_rule n rule 43 h.0 (inr (inl (elim h.1 [ inl x ↦ to_native n x | inr x ↦ to_again n x ])))
  to_parts n rule names (inr (inr (inr (inr (inl h))))) = by_rule n rule 44 h.0 (inr (inl (to_44 n h.1)))
  to_parts n rule names (inr (inr (inr (inr (inr (inl h)))))) = by_rule n rule 45 h.0 (inr (inl (to_45 n h.1)))
  to_parts n rule names (inr (inr (inr (inr (inr (inr h)))))) = by_rule n rule 46 h.0 (to_46 n h.1)
