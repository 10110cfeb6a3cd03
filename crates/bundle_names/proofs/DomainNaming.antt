-- Rules 3 and 4 in the domains, domain by domain.
use Rattle.bundle_names.proofs.Lasting.{given_repeats, repeats_given}
use Rattle.std.specs.Option.{option_map}
use Rattle.std.proofs.Common.{◌≡◌, ℕ, zero, suc, ◌⊎◌, inl, inr, true, List, [], ◌∷◌, map, take, Option, Some, None, refl, sym, ap, subst, ◌∙◌}
use Rattle.std.specs.Prelude.{slice_get, All, unwrap_or}
use Rattle.std.specs.List.{list_any}
use Rattle.rl_defs.specs.declared.bundle.Bundle.{Bundle}
use Rattle.rl_defs.specs.declared.code.DomainLine.{DomainLine}
use Rattle.rl_defs.specs.declared.code.DomainText.{DomainText}
use Rattle.rl_defs.specs.Domains.{Lines, trait_name}
use Rattle.rl_defs.specs.BundleOrder.{IsDomainText}
use Rattle.rl_defs.specs.Interfaces.{place_of, struct_names, trait_names, MethodText, TraitText, traits_of}
use Rattle.rl_defs.specs.BundleNames.{Given, given, given_by, domain_given, slot_given, import_given, function_given, domain_lines, names_of}
use Rattle.rl_defs.specs.CodeNames.{structs_used, traits_used}
use Rattle.rl_defs.specs.NameRules.{GivenTwice, LabelTwice, IsUnknown, NamesUnknown, methods_of_trait, UnknownFunction, GivenTwiceInOne, MemberTwice, methods_given, in_domains}
use Rattle.rl_defs.proofs.TableSizes.{all_at}
use Rattle.bundle_names.specs.declared.interface_names.InterfaceNames.{InterfaceNames}
use Rattle.bundle_names.specs.Scopes.{Scope, behind_all, repeats, Repeats, Somewhere}
use Rattle.bundle_names.specs.DomainNames.{FailsDomainNames, domain_role, slot_role, import_role, function_role, label_role, declared_at, is_given_again, is_absent, names_unknown, names_or, methods_in, methods_of, Knows, domains_before, FailsAtDomain}
use Rattle.bundle_names.proofs.Lists.{or_true, or_left, or_right, get_map, get_map_back}
use Rattle.bundle_names.proofs.DomainUses.{giving_domains, giving_slots, giving_imports, giving_functions, unknown_any, any_unknown, any_use, line_any}
use Rattle.bundle_names.proofs.Labels.{label_repeats, repeats_label}
use Rattle.bundle_names.proofs.FlatLines.{repeats_in_one, in_one_repeats, line_in_one, in_one_line}
use Rattle.bundle_names.proofs.InterfaceNaming.{trait_scopes}

-- the methods of a trait
names_map : (ms : List MethodText) → names_of (map (λ m. given m.line m.name) ms) ≡ map (λ m. m.name) ms
names_map [] = refl
names_map (m ∷ ms) = ap (λ (xs : List (List ℕ)). m.name ∷ xs) (names_map ms)

table_at : (ts : List TraitText) (t : ℕ) → names_or [] (slice_get (map names_of (map methods_given ts)) t) ≡ unwrap_or (option_map (λ (x : TraitText). map (λ (m : MethodText). m.name) x.methods) (slice_get ts t)) []
table_at [] t = refl
table_at (x ∷ xs) zero = names_map x.methods
table_at (x ∷ xs) (suc t) = table_at xs t

methods_at : (b : Bundle) (name : List ℕ) (o : Option ℕ) → place_of name (trait_names b.idl.lines) ≡ o → methods_in [] (map names_of (map methods_given (traits_of b.idl.lines))) o ≡ methods_of_trait b name
methods_at b name None e = rw e refl
methods_at b name (Some t) e = rw e (table_at (traits_of b.idl.lines) t)

pub methods_same : (b : Bundle) (known : InterfaceNames) (name : List ℕ) → Knows b.idl.lines known → methods_of known name ≡ methods_of_trait b name
methods_same b known name h =
    ap (λ (xs : List (List ℕ)). methods_in xs known.methods (place_of name known.traits)) h.nothing
    ∙ ap (λ (ms : List (List (List ℕ))). methods_in [] ms (place_of name known.traits)) (h.methods ∙ ap (λ (all : List (List Given)). map names_of all) (trait_scopes b.idl.lines))
    ∙ ap (λ (ts : List (List ℕ)). methods_in [] (map names_of (map methods_given (traits_of b.idl.lines))) (place_of name ts)) h.traits
    ∙ methods_at b name (place_of name (trait_names b.idl.lines)) refl

-- what a line gives again is one of five kinds
module _ (domains : Scope) (lines : Lines) (n : ℕ) where
  abbrev pub Again : Type 0
  Again = Repeats domain_role domains lines n ⊎ (Repeats slot_role (Some []) lines n ⊎ (Repeats import_role (Some []) lines n ⊎ (Repeats function_role (Some []) lines n ⊎ Repeats label_role None lines n)))

  pub again_at : (k : ℕ) (form : DomainLine) → slice_get lines k ≡ Some (record { line = n; form = form }) → is_given_again form (declared_at domains lines k) ≡ true → Again
  again_at k form here e = elim (or_true (repeats (domain_role form) (behind_all domain_role domains (take k lines))) _ e) [
    | inl a ↦ inl (record { place = k; form = form; here = here; again = a })
    | inr x ↦ inr (elim (or_true (repeats (slot_role form) (behind_all slot_role (Some []) (take k lines))) _ x) [
      | inl a ↦ inl (record { place = k; form = form; here = here; again = a })
      | inr y ↦ inr (elim (or_true (repeats (import_role form) (behind_all import_role (Some []) (take k lines))) _ y) [
        | inl a ↦ inl (record { place = k; form = form; here = here; again = a })
        | inr z ↦ inr (elim (or_true (repeats (function_role form) (behind_all function_role (Some []) (take k lines))) (repeats (label_role form) (behind_all label_role None (take k lines))) z) [
          | inl a ↦ inl (record { place = k; form = form; here = here; again = a })
          | inr w ↦ inr (record { place = k; form = form; here = here; again = w })
        ])
      ])
    ])
  ]

  -- a line that gives a name again
  pub record AgainAt : Type 0 where
    pub place : ℕ
    pub form : DomainLine
    pub here : slice_get lines place ≡ Some (record { line = n; form = form })
    pub again : is_given_again form (declared_at domains lines place) ≡ true

  at_again : Again → AgainAt
  at_again (inl h) = record { place = h.place; form = h.form; here = h.here; again = or_left (repeats (domain_role h.form) (behind_all domain_role domains (take h.place lines))) _ h.again }
  at_again (inr (inl h)) = record { place = h.place; form = h.form; here = h.here; again = or_right (repeats (domain_role h.form) (behind_all domain_role domains (take h.place lines))) _ (or_left (repeats (slot_role h.form) (behind_all slot_role (Some []) (take h.place lines))) _ h.again) }
  at_again (inr (inr (inl h))) = record { place = h.place; form = h.form; here = h.here; again = or_right (repeats (domain_role h.form) (behind_all domain_role domains (take h.place lines))) _ (or_right (repeats (slot_role h.form) (behind_all slot_role (Some []) (take h.place lines))) _ (or_left (repeats (import_role h.form) (behind_all import_role (Some []) (take h.place lines))) _ h.again)) }
  at_again (inr (inr (inr (inl h)))) = record { place = h.place; form = h.form; here = h.here; again = or_right (repeats (domain_role h.form) (behind_all domain_role domains (take h.place lines))) _ (or_right (repeats (slot_role h.form) (behind_all slot_role (Some []) (take h.place lines))) _ (or_right (repeats (import_role h.form) (behind_all import_role (Some []) (take h.place lines))) _ (or_left (repeats (function_role h.form) (behind_all function_role (Some []) (take h.place lines))) (repeats (label_role h.form) (behind_all label_role None (take h.place lines))) h.again))) }
  at_again (inr (inr (inr (inr h)))) = record { place = h.place; form = h.form; here = h.here; again = or_right (repeats (domain_role h.form) (behind_all domain_role domains (take h.place lines))) _ (or_right (repeats (slot_role h.form) (behind_all slot_role (Some []) (take h.place lines))) _ (or_right (repeats (import_role h.form) (behind_all import_role (Some []) (take h.place lines))) _ (or_right (repeats (function_role h.form) (behind_all function_role (Some []) (take h.place lines))) (repeats (label_role h.form) (behind_all label_role None (take h.place lines))) h.again))) }

module _ (b : Bundle) (known : InterfaceNames) (h : Knows b.idl.lines known) (n : ℕ) where
  -- what a domain gives twice, in the bundle
  of_domain : (names : DomainLine → List (List ℕ)) (d : ℕ) (t : DomainText) → slice_get b.domains d ≡ Some t → GivenTwice (given_by names t.lines) n → GivenTwiceInOne (in_domains names b) n
  of_domain names d t e a = record { number = d; names = given_by names t.lines; here = get_map (λ (x : DomainText). given_by names x.lines) b.domains d t e; twice = a }

  in_domain : (names : DomainLine → List (List ℕ)) → GivenTwiceInOne (in_domains names b) n → (t : DomainText) × (d : ℕ) × (slice_get b.domains d ≡ Some t) × GivenTwice (given_by names t.lines) n
  in_domain names a =
      let t = get_map_back (λ (x : DomainText). given_by names x.lines) b.domains a.number a.names a.here in
      (t.0, a.number, t.1, subst (λ (gs : List Given). GivenTwice gs n) (sym t.2) a.twice)

  -- rule 3, from a domain to the bundle
  repeated : (d : ℕ) (t : DomainText) → slice_get b.domains d ≡ Some t → Again (domains_before b.domains d) t.lines n → GivenTwice (given_by domain_given (domain_lines b)) n ⊎ (MemberTwice b n ⊎ LabelTwice b n)
  repeated d t e (inl a) = inl (given_repeats domain_role domain_given giving_domains (domain_lines b) n (in_one_repeats domain_role (Some []) b.domains n d t e a))
  repeated d t e (inr (inl a)) = inr (inl (inl (of_domain slot_given d t e (given_repeats slot_role slot_given giving_slots t.lines n a))))
  repeated d t e (inr (inr (inl a))) = inr (inl (inr (inl (of_domain import_given d t e (given_repeats import_role import_given giving_imports t.lines n a)))))
  repeated d t e (inr (inr (inr (inl a)))) = inr (inl (inr (inr (of_domain function_given d t e (given_repeats function_role function_given giving_functions t.lines n a)))))
  repeated d t e (inr (inr (inr (inr a)))) =
      let l = label_repeats t.lines n a in
      inr (inr (record { lines = t.lines; domain = record { place = d; here = e }; name = l.name; number = l.number; first = l.first; second = l.second; earlier = record { place = l.earlier; here = l.there }; later = record { place = l.place; here = l.here }; before = l.before; function = l.function }))

  -- rule 4, from a domain to the bundle
  abbrev Unknown : Type 0
  Unknown = NamesUnknown (domain_lines b) structs_used (struct_names b.idl.lines) n ⊎ (NamesUnknown (domain_lines b) traits_used (trait_names b.idl.lines) n ⊎ UnknownFunction b n)

  used : (d : ℕ) (t : DomainText) (k : ℕ) (form : DomainLine) → slice_get b.domains d ≡ Some t → slice_get t.lines k ≡ Some (record { line = n; form = form }) → names_unknown known.structs known.traits (methods_of known (trait_name t.lines)) form ≡ true → Unknown
  used d t k form e here u =
      let p = in_one_line b.domains d t k (record { line = n; form = form }) e here in
      elim (or_true (list_any (is_absent known.structs) (structs_used form)) _ (sym (line_any known.structs known.traits (methods_of known (trait_name t.lines)) form) ∙ u)) [
        | inl a ↦ inl (record { place = p.0; form = form; here = p.1; unknown = subst (λ (names : List (List ℕ)). IsUnknown (structs_used form) names) h.structs (unknown_any known.structs (structs_used form) a) })
        | inr c ↦ inr (elim (or_true (list_any (is_absent known.traits) (traits_used form)) (list_any (is_absent (methods_of known (trait_name t.lines))) (function_given form)) c) [
          | inl a ↦ inl (record { place = p.0; form = form; here = p.1; unknown = subst (λ (names : List (List ℕ)). IsUnknown (traits_used form) names) h.traits (unknown_any known.traits (traits_used form) a) })
          | inr a ↦ inr (record { lines = t.lines; domain = record { place = d; here = e }; unknown = record { place = k; form = form; here = here; unknown = subst (λ (names : List (List ℕ)). IsUnknown (function_given form) names) (methods_same b known (trait_name t.lines) h) (unknown_any (methods_of known (trait_name t.lines)) (function_given form) a) } })
        ])
      ]

  pub domain_fails : (r : ℕ) → Somewhere (FailsAtDomain known b.domains) n r → FailsDomainNames b n r
  domain_fails r (d, (t, e, (k, (form, here, inl a)))) = inl (a.0, repeated d t e (again_at (domains_before b.domains d) t.lines n k form here a.1))
  domain_fails r (d, (t, e, (k, (form, here, inr a)))) = inr (a.0, used d t k form e here a.1)

  -- and back
  three : (r d : ℕ) (t : DomainText) → slice_get b.domains d ≡ Some t → r ≡ 3 → Again (domains_before b.domains d) t.lines n → Somewhere (FailsAtDomain known b.domains) n r
  three r d t e is a = let x = at_again (domains_before b.domains d) t.lines n a in (d, (t, e, (x.place, (x.form, x.here, inl (is, x.again)))))

  four : (r d : ℕ) (t : DomainText) (k : ℕ) (form : DomainLine) → slice_get b.domains d ≡ Some t → slice_get t.lines k ≡ Some (record { line = n; form = form }) → r ≡ 4 → any_use known.structs known.traits (methods_of known (trait_name t.lines)) form ≡ true → Somewhere (FailsAtDomain known b.domains) n r
  four r d t k form e here is a = (d, (t, e, (k, (form, here, inr (is, line_any known.structs known.traits (methods_of known (trait_name t.lines)) form ∙ a)))))

  member : (r : ℕ) → r ≡ 3 → MemberTwice b n → Somewhere (FailsAtDomain known b.domains) n r
  member r is (inl a) = let x = in_domain slot_given a in three r x.1 x.0 x.2 is (inr (inl (repeats_given slot_role slot_given giving_slots x.0.lines n x.3)))
  member r is (inr (inl a)) = let x = in_domain import_given a in three r x.1 x.0 x.2 is (inr (inr (inl (repeats_given import_role import_given giving_imports x.0.lines n x.3))))
  member r is (inr (inr a)) = let x = in_domain function_given a in three r x.1 x.0 x.2 is (inr (inr (inr (inl (repeats_given function_role function_given giving_functions x.0.lines n x.3)))))

  pub fails_domain : All IsDomainText b.domains → (r : ℕ) → FailsDomainNames b n r → Somewhere (FailsAtDomain known b.domains) n r
  fails_domain each r (inl (is, inl a)) = let x = repeats_in_one domain_role (Some []) b.domains n (repeats_given domain_role domain_given giving_domains (domain_lines b) n a) in three r x.place x.text x.here is (inl x.again)
  fails_domain each r (inl (is, inr (inl a))) = member r is a
  fails_domain each r (inl (is, inr (inr a))) = three r a.domain.place (record { lines = a.lines }) a.domain.here is (inr (inr (inr (inr (repeats_label a.lines n (all_at IsDomainText b.domains a.domain.place (record { lines = a.lines }) each a.domain.here) (record { earlier = a.earlier.place; place = a.later.place; before = a.before; name = a.name; number = a.number; first = a.first; second = a.second; there = a.earlier.here; here = a.later.here; function = a.function }))))))
  fails_domain each r (inr (is, inl a)) =
      let x = line_in_one b.domains a.place (record { line = n; form = a.form }) a.here in
      four r x.0 x.1 x.3.0 a.form x.2 x.3.1 is (or_left (list_any (is_absent known.structs) (structs_used a.form)) _ (any_unknown known.structs (structs_used a.form) (subst (λ (names : List (List ℕ)). IsUnknown (structs_used a.form) names) (sym h.structs) a.unknown)))
  fails_domain each r (inr (is, inr (inl a))) =
      let x = line_in_one b.domains a.place (record { line = n; form = a.form }) a.here in
      four r x.0 x.1 x.3.0 a.form x.2 x.3.1 is (or_right (list_any (is_absent known.structs) (structs_used a.form)) _ (or_left (list_any (is_absent known.traits) (traits_used a.form)) (list_any (is_absent (methods_of known (trait_name x.1.lines))) (function_given a.form)) (any_unknown known.traits (traits_used a.form) (subst (λ (names : List (List ℕ)). IsUnknown (traits_used a.form) names) (sym h.traits) a.unknown))))
  fails_domain each r (inr (is, inr (inr a))) =
      four r a.domain.place (record { lines = a.lines }) a.unknown.place a.unknown.form a.domain.here a.unknown.here is (or_right (list_any (is_absent known.structs) (structs_used a.unknown.form)) _ (or_right (list_any (is_absent known.traits) (traits_used a.unknown.form)) (list_any (is_absent (methods_of known (trait_name a.lines))) (function_given a.unknown.form)) (any_unknown (methods_of known (trait_name a.lines)) (function_given a.unknown.form) (subst (λ (names : List (List ℕ)). IsUnknown (function_given a.unknown.form) names) (sym (methods_same b known (trait_name a.lines) h)) a.unknown.unknown))))
