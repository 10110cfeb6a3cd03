-- What fails in a part fails in the whole bundle.
use Rattle.std.proofs.lemmas.Bool.Decides.{Decides-eqb}
use Rattle.rl_defs.proofs.Places.{get_within}
use Rattle.std.specs.Option.{option_and_then}
use Rattle.std.proofs.lemmas.Slice.Eq.{slice_eq-Decides}
use Rattle.rl_defs.specs.NameRules.{GivenTwice}
use Rattle.std.proofs.Common.{◌≡◌, ℕ, inl, inr, Bool, true, false, not, nat_eq, nat_le, nat_lt, List, ◌∷◌, ◌++◌, take, Option, Some, None, refl, ◌∙◌, leb-true, ltb-true, [], sym}
use Rattle.std.specs.Prelude.{slice_get, is_none, is_some, IsTrue}
use Rattle.std.specs.Cmp.Lexicographic.{pointwise}
use Rattle.rl_defs.specs.declared.idl.Idl.{Idl}
use Rattle.rl_defs.specs.declared.bundle.Plan.{Plan}
use Rattle.rl_defs.specs.declared.bundle.Clients.{Clients}
use Rattle.rl_defs.specs.declared.bundle.Bundle.{Bundle}
use Rattle.rl_defs.specs.declared.bundle.PlanLine.{PlanLine}
use Rattle.rl_defs.specs.declared.bundle.PlanLine.TheVariants as plan
use Rattle.rl_defs.specs.declared.bundle.ClientLine.{ClientLine}
use Rattle.rl_defs.specs.declared.bundle.ClientLine.TheVariants as client
use Rattle.rl_defs.specs.declared.code.DomainLine.{DomainLine}
use Rattle.rl_defs.specs.declared.code.DomainLine.TheVariants as line
use Rattle.rl_defs.specs.DomainValue.{Domain}
use Rattle.rl_defs.specs.Domains.{Lines, trait_name}
use Rattle.rl_defs.specs.CodeNames.{Declared, imports, place_in, type_at}
use Rattle.rl_defs.specs.Interfaces.{place_of}
use Rattle.rl_defs.specs.BundleNames.{given, given_by, names_of, load_given, slot_given, client_given, load_names, lines_of_domain, load_behind, load_lines, target_lines, shadowed, device_given}
use Rattle.rl_defs.specs.BundleOrder.{bundle_of}
use Rattle.rl_defs.specs.Refusals.{HasLine}
use Rattle.rl_defs.specs.PlanRules.{IsUnbound, HasOtherTrait, IsBoundBackwards, ShadowsNative, GoesOver, HasTooManySlots, IsTooMuch, FailsPlanRules}
use Rattle.plan_checker.specs.Facts.{HasLoadNames}
use Rattle.plan_checker.specs.LineScan.{given_before}
use Rattle.plan_checker.specs.Limits.{is_over_in_domain, is_over_in_clients, commands_before, is_full}
use Rattle.plan_checker.specs.Lookups.{plan_bundle, place_of_target, bound_at}
use Rattle.plan_checker.specs.PlanTests.{has_unbound, differs, is_behind, has_native, loads_shadowed, FailsPlanLine}
use Rattle.plan_checker.specs.Parts.{FailsParts}
use Rattle.plan_checker.proofs.Dots.{name_no_dot, bound_same}
use Rattle.plan_checker.proofs.Members.{any_where, none_from, some_from, or_parts, get_giver, named_at, get_zero, device_one, outside_is, text_there, given_earlier}
use Rattle.plan_checker.proofs.Placing.{place_there}
use Rattle.plan_checker.proofs.Scanning.{given_at, given_here}
use Rattle.plan_checker.proofs.Scripts.{Goes, is_command}
use Rattle.plan_checker.proofs.ToParts.{no_dots}

module _ (idl : Idl) (domains : List Domain) (p : Plan) (c : Clients) where
  abbrev whole : Bundle
  whole = bundle_of idl domains p c

  abbrev part : Bundle
  part = plan_bundle domains p.lines

  abbrev Fails : ℕ → ℕ → Type 0
  Fails n rule = FailsPlanRules whole n rule

  abbrev plan_is : (n place : ℕ) (form : PlanLine) → slice_get p.lines place ≡ Some (record { line = n; form = form }) → HasLine p.lines n form
  plan_is n place form here = record { place = place; here = here }

  from_40 : (n place : ℕ) (name domain : List ℕ) → HasLoadNames p.lines → slice_get p.lines place ≡ Some (record { line = n; form = plan.Load name domain }) → (o : Option Lines) → lines_of_domain part domain ≡ o → has_unbound p.lines name o ≡ true → IsUnbound whole n
  from_40 n place name domain names here None is t = absurd cc
  from_40 n place name domain names here (Some text) is t =
      let named : IsTrue (Rattle.rl_defs.specs.Words.is_name name) = named_at load_given p.lines place n (plan.Load name domain) name here refl names.loads in
      let one = any_where (λ (d : Declared). is_none (bound_at p.lines name d.name)) (imports text) t in
      record {
        name = name;
        domain = domain;
        line = plan_is n place (plan.Load name domain) here;
        lines = text;
        text = is;
        place = one.place;
        import = one.one;
        of = one.here;
        unbound = none_from (place_of (name ++ 46 ∷ one.one.name) (names_of (given_by Rattle.rl_defs.specs.BundleNames.bind_given p.lines))) (bound_same p.lines name one.one.name (no_dots p.lines names) (name_no_dot name named) ∙ one.passes);
      }

  from_41 : (n place : ℕ) (load import target : List ℕ) → slice_get p.lines place ≡ Some (record { line = n; form = plan.Bind load import target }) → (o q : Option Lines) → load_lines part load ≡ o → target_lines part target ≡ q → differs o import q ≡ true → HasOtherTrait whole n
  from_41 n place load import target here None q is are t = absurd cc
  from_41 n place load import target here (Some binds) None is are t = absurd cc
  from_41 n place load import target here (Some binds) (Some bound) is are t =
      record {
        load = load;
        import = import;
        target = target;
        line = plan_is n place (plan.Bind load import target) here;
        lines = binds;
        binds = is;
        others = bound;
        bound = are;
        differ = λ same. other (pointwise nat_eq (type_at (imports binds) (place_in import (imports binds))) (trait_name bound)) ((slice_eq-Decides Decides-eqb (type_at (imports binds) (place_in import (imports binds))) (trait_name bound) (pointwise nat_eq (type_at (imports binds) (place_in import (imports binds))) (trait_name bound)) refl).1 (sym same)) t;
      } where
        other : (b : Bool) → b ≡ true → not b ≡ true → ⊥
        other true e d = absurd cc
        other false e d = absurd cc

  place_from : (target : List ℕ) (place : ℕ) (o : Option (List ℕ)) → load_behind part target ≡ o → option_and_then (λ l. place_of l (load_names part)) o ≡ Some place → (load : List ℕ) × (load_behind whole target ≡ Some load) × (place_of load (load_names whole) ≡ Some place)
  place_from target place None is e = absurd cc
  place_from target place (Some load) is e = (load, is, e)

  from_42 : (n place : ℕ) (load import target : List ℕ) → slice_get p.lines place ≡ Some (record { line = n; form = plan.Bind load import target }) → (o q : Option ℕ) → place_of load (load_names part) ≡ o → place_of_target part target ≡ q → is_behind o q ≡ true → IsBoundBackwards whole n
  from_42 n place load import target here None q is are t = absurd cc
  from_42 n place load import target here (Some k) None is are t = absurd cc
  from_42 n place load import target here (Some k) (Some j) is are t =
      let of = place_from target j (load_behind part target) refl are in
      record {
        load = load;
        import = import;
        target = target;
        line = plan_is n place (plan.Bind load import target) here;
        place = k;
        binds = is;
        target_load = of.0;
        stands_for = of.1;
        target_place = j;
        bound = of.2;
        behind = leb-true k j t;
      }

  from_native : (n place : ℕ) (name load : List ℕ) (restarts : ℕ) → slice_get p.lines place ≡ Some (record { line = n; form = plan.Shadow name load restarts }) → (o : Option Lines) → load_lines part load ≡ o → has_native o ≡ true → ShadowsNative whole n
  from_native n place name load restarts here None is t = absurd cc
  from_native n place name load restarts here (Some text) is t = record { name = name; load = load; restarts = restarts; line = plan_is n place (plan.Shadow name load restarts) here; lines = text; text = is; native = t }

  from_again : (n place : ℕ) (name load : List ℕ) (restarts : ℕ) → slice_get p.lines place ≡ Some (record { line = n; form = plan.Shadow name load restarts }) → is_some (place_of load (loads_shadowed (take place p.lines))) ≡ true → GivenTwice (given_by shadowed p.lines) n
  from_again n place name load restarts here t =
      let before = take place p.lines in
      let some = some_from (place_of load (loads_shadowed before)) t in
      let giver = get_giver (given_by shadowed before) some.0 load (place_there load (loads_shadowed before) some.0 some.1) in
      record {
        earlier = some.0;
        place = given_before shadowed p.lines place;
        before = get_within (given_by shadowed before) some.0 giver.one giver.here;
        first = giver.one;
        second = given n load;
        there = given_earlier shadowed p.lines place some.0 giver.one giver.here;
        here = given_here shadowed p.lines place n (plan.Shadow name load restarts) load here refl;
        line = refl;
        again = sym giver.name;
      }

  from_45 : (n place : ℕ) (load : List ℕ) (blocks : ℕ) → slice_get p.lines place ≡ Some (record { line = n; form = plan.Device load blocks }) → nat_lt 0 (given_before device_given p.lines place) ≡ true → GivenTwice (given_by device_given p.lines) n
  from_45 n place load blocks here t =
      let before = take place p.lines in
      let giver = get_zero (given_by device_given before) (ltb-true 0 (given_before device_given p.lines place) t) in
      let at = given_at device_given before 0 giver.0 giver.1 in
      let form = device_one at.form at.index giver.0.name at.name in
      record {
        earlier = 0;
        place = given_before device_given p.lines place;
        before = ltb-true 0 (given_before device_given p.lines place) t;
        first = giver.0;
        second = given n [];
        there = given_earlier device_given p.lines place 0 giver.0 giver.1;
        here = given_here device_given p.lines place n (plan.Device load blocks) [] here refl;
        line = refl;
        again = sym form.4;
      }

  loads_over : (n place : ℕ) (name domain : List ℕ) → slice_get p.lines place ≡ Some (record { line = n; form = plan.Load name domain }) → nat_le 64 (given_before load_given p.lines place) ≡ true → GoesOver 64 (given_by load_given p.lines) n
  loads_over n place name domain here t = record { place = given_before load_given p.lines place; over = leb-true 64 (given_before load_given p.lines place) t; one = given n name; here = given_here load_given p.lines place n (plan.Load name domain) name here refl; line = refl }

  from_46 : (n rule : ℕ) → rule ≡ 46 → IsTooMuch whole n → Fails n rule
  from_46 n rule is h = inr (inr (inr (inr (inr (inr (is, h))))))

  false_true : {X : Type 0} → false ≡ true → X
  false_true e = absurd cc

  -- what fails at a line of the plan
  from_line : (n rule place : ℕ) (form : PlanLine) → HasLoadNames p.lines → slice_get p.lines place ≡ Some (record { line = n; form = form }) → FailsPlanLine part place form rule → Fails n rule
  from_line n rule place (plan.Load name domain) names here (inl h) = inl (h.0, from_40 n place name domain names here (lines_of_domain part domain) refl h.1)
  from_line n rule place (plan.Load name domain) names here (inr h) = from_46 n rule h.0 (inr (inl (loads_over n place name domain here h.1)))
  from_line n rule place (plan.Bind load import target) names here (inl h) = inr (inl (h.0, from_41 n place load import target here (load_lines part load) (target_lines part target) refl refl h.1))
  from_line n rule place (plan.Bind load import target) names here (inr h) = inr (inr (inl (h.0, from_42 n place load import target here (place_of load (load_names part)) (place_of_target part target) refl refl h.1)))
  from_line n rule place (plan.Shadow name load restarts) names here (inl h) = inr (inr (inr (inl (h.0, elim (or_parts (has_native (load_lines part load)) (is_some (place_of load (loads_shadowed (take place p.lines)))) h.1) [ inl a ↦ inl (from_native n place name load restarts here (load_lines part load) refl a) | inr a ↦ inr (from_again n place name load restarts here a) ]))))
  from_line n rule place (plan.Shadow name load restarts) names here (inr h) = inr (inr (inr (inr (inl (h.0, record { name = name; load = load; restarts = restarts; line = plan_is n place (plan.Shadow name load restarts) here; many = ltb-true 16 restarts h.1 })))))
  from_line n rule place (plan.Device load blocks) names here (inl h) = inr (inr (inr (inr (inr (inl (h.0, from_45 n place load blocks here h.1))))))
  from_line n rule place (plan.Device load blocks) names here (inr h) = from_46 n rule h.0 (inr (inr (inr (inr (inr (inr (record { load = load; blocks = blocks; line = plan_is n place (plan.Device load blocks) here; outside = outside_is 1 4096 blocks h.1 })))))))
  from_line n rule place (plan.Serial load) names here (inl h) = false_true h.1
  from_line n rule place (plan.Serial load) names here (inr h) = false_true h.1
  from_line n rule place (plan.Fuel m) names here (inl h) = false_true h.1
  from_line n rule place (plan.Fuel m) names here (inr h) = from_46 n rule h.0 (inr (inr (inr (inr (inr (inl (record { fuel = m; line = plan_is n place (plan.Fuel m) here; outside = outside_is 1 1000000 m h.1 })))))))
  from_line n rule place (plan.Order clients) names here (inl h) = false_true h.1
  from_line n rule place (plan.Order clients) names here (inr h) = false_true h.1

  slots_over : (n place number : ℕ) (d : Domain) (name ty : List ℕ) → slice_get domains number ≡ Some d → slice_get d.lines place ≡ Some (record { line = n; form = line.Slot name ty }) → nat_le 64 (given_before slot_given d.lines place) ≡ true → HasTooManySlots whole n
  slots_over n place number d name ty there here t = record {
    lines = d.lines;
    domain = record { place = number; here = text_there domains number d there };
    over = record { place = given_before slot_given d.lines place; over = leb-true 64 (given_before slot_given d.lines place) t; one = given n name; here = given_here slot_given d.lines place n (line.Slot name ty) name here refl; line = refl };
  }

  from_domain : (n place number : ℕ) (d : Domain) (form : DomainLine) → slice_get domains number ≡ Some d → slice_get d.lines place ≡ Some (record { line = n; form = form }) → is_over_in_domain (given_before slot_given d.lines place) form ≡ true → IsTooMuch whole n
  from_domain n place number d (line.Words m) there here t = inr (inr (inr (inr (inl (record { lines = d.lines; domain = record { place = number; here = text_there domains number d there }; words = m; line = record { place = place; here = here }; many = ltb-true 4096 m t })))))
  from_domain n place number d (line.Slot name ty) there here t = inr (inr (inl (slots_over n place number d name ty there here t)))
  from_domain n place number d (line.Domain name has) there here t = false_true t
  from_domain n place number d (line.Import name has) there here t = false_true t
  from_domain n place number d (line.Native body) there here t = false_true t
  from_domain n place number d (line.Function name) there here t = false_true t
  from_domain n place number d (line.Head label items) there here t = false_true t
  from_domain n place number d (line.Code i) there here t = false_true t
  from_domain n place number d line.Close there here t = false_true t

  commands_over : (n place : ℕ) (form : ClientLine) → slice_get c.lines place ≡ Some (record { line = n; form = form }) → Goes form → (o : Option ℕ) → commands_before c.lines place ≡ o → is_full o ≡ true → IsTooMuch whole n
  commands_over n place form here goes None is t = false_true t
  commands_over n place form here goes (Some m) is t =
      let h = is_command c.lines place m (record { line = n; form = form }) is here goes in
      inr (inr (inr (inl (record { command = record { script = h.script; number = h.number; client = h.there; place = m; form = form; here = h.here }; over = leb-true 1000 m t }))))

  clients_over : (n place : ℕ) (name : List ℕ) → slice_get c.lines place ≡ Some (record { line = n; form = client.Client name }) → nat_le 16 (given_before client_given c.lines place) ≡ true → IsTooMuch whole n
  clients_over n place name here t = inl (record { place = given_before client_given c.lines place; over = leb-true 16 (given_before client_given c.lines place) t; one = given n name; here = given_here client_given c.lines place n (client.Client name) name here refl; line = refl })

  from_client : (n place : ℕ) (form : ClientLine) → slice_get c.lines place ≡ Some (record { line = n; form = form }) → is_over_in_clients (given_before client_given c.lines place) (commands_before c.lines place) form ≡ true → IsTooMuch whole n
  from_client n place (client.Client name) here t = elim (or_parts (nat_le 16 (given_before client_given c.lines place)) (is_full (commands_before c.lines place)) t) [ inl a ↦ clients_over n place name here a | inr a ↦ commands_over n place (client.Client name) here refl (commands_before c.lines place) refl a ]
  from_client n place (client.Let name ty values) here t = commands_over n place (client.Let name ty values) here refl (commands_before c.lines place) refl t
  from_client n place (client.Text name ty bytes) here t = commands_over n place (client.Text name ty bytes) here refl (commands_before c.lines place) refl t
  from_client n place (client.Call target method args names) here t = commands_over n place (client.Call target method args names) here refl (commands_before c.lines place) refl t
  from_client n place (client.Show name) here t = commands_over n place (client.Show name) here refl (commands_before c.lines place) refl t
  from_client n place (client.Drop name) here t = commands_over n place (client.Drop name) here refl (commands_before c.lines place) refl t
  from_client n place (client.Kill target) here t = commands_over n place (client.Kill target) here refl (commands_before c.lines place) refl t
  from_client n place client.Close here t = false_true t

  -- what fails in a part fails in the whole bundle
  pub from_parts : (n rule : ℕ) → HasLoadNames p.lines → FailsParts domains part c.lines n rule → Fails n rule
  from_parts n rule names (inl h) = from_46 n rule h.fails.fails.0 (from_domain n h.fails.place h.number h.domain h.fails.form h.there h.fails.here h.fails.fails.1)
  from_parts n rule names (inr (inl h)) = from_line n rule h.place h.form names h.here h.fails
  from_parts n rule names (inr (inr h)) = from_46 n rule h.fails.0 (from_client n h.place h.form h.here h.fails.1)
