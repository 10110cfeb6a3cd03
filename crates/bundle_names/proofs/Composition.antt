-- Parts one after the other: the first that fails has the first failing line.
use Rattle.std.proofs.Common.{ℕ, ◌≤◌, List, ◌++◌, length, ◌⊎◌, inl, inr, arith, length-append, Result, Ok, Err}
use Rattle.rl_defs.specs.declared.LoadFault.{LoadFault}
use Rattle.rl_defs.specs.declared.LoadFault.TheVariants.{Refused, Memory}
use Rattle.rl_defs.specs.declared.bundle.Numbered.{Numbered}
use Rattle.rl_defs.specs.declared.bundle.Bundle.{Bundle}
use Rattle.rl_defs.specs.declared.idl.IdlLine.{IdlLine}
use Rattle.rl_defs.specs.Refusals.{Failing, Nowhere, Answers}
use Rattle.rl_defs.specs.NameRules.{FailsNames, FailsBundleNames}
use Rattle.rl_defs.specs.Interfaces.{Rises}
use Rattle.rl_defs.specs.BundleOrder.{IsOrdered, Rise, numbers_of}
use Rattle.bundle_names.specs.DomainNames.{FailsDomainNames}
use Rattle.bundle_names.specs.PlanNames.{FailsPlanNames, given_after, gives_again, none_given}
use Rattle.bundle_names.specs.ClientNames.{FailsClientNames, script_after, names_again, no_scripts}
use Rattle.bundle_names.proofs.Walking.{meets_number}
use Rattle.bundle_names.proofs.PlanLaws.{plan_left, nothing_named}
use Rattle.bundle_names.proofs.ClientLaws.{clients_left, nothing_used}
use Rattle.bundle_names.proofs.PartNumbers.{IsNumber, domain_numbers, rise_front, rise_back, rise_across, in_front, in_back, interface_number, domains_number, plan_rises, clients_rise, number_at, length_numbers}

abbrev pub Answer : Type 0
Answer = Result (Unit {0}) LoadFault

abbrev Done : Unit {0} → Type 0
Done = λ _. Unit {0}

-- each failing line has one of these numbers
abbrev pub Within : Failing → List ℕ → Type 0
Within F numbers = (n r : ℕ) → F n r → IsNumber numbers n

abbrev pub Either : Failing → Failing → Failing
Either F G n r = F n r ⊎ G n r

-- what fails in the first part is the first
pub stops_first : (F G : Failing) (xs ys : List ℕ) → Rise (xs ++ ys) → Within F xs → Within G ys → (e : LoadFault) → Answers {X = Unit {0}} F Done (Err e) → Answers {X = Unit {0}} (Either F G) Done (Err e)
stops_first F G xs ys rises f g (Refused at) h = record {
  fails = inl h.fails;
  first = λ l r. λ (x : Either F G l r). elim x [
    | inl a ↦ h.first l r a
    | inr b ↦ inl (rise_across xs ys rises at.line l (f at.line at.rule h.fails) (g l r b))
  ];
}
stops_first F G xs ys rises f g Memory h = tt

-- where nothing fails in the first part, the answer of the second is that of both
pub goes_on : (F G : Failing) → Nowhere F → (result : Answer) → Answers {X = Unit {0}} G Done result → Answers {X = Unit {0}} (Either F G) Done result
goes_on F G none (Ok x) h = (λ l r. λ (y : Either F G l r). elim y [ inl a ↦ none l r a | inr b ↦ h.0 l r b ], tt)
goes_on F G none (Err (Refused at)) h = record {
  fails = inr h.fails;
  first = λ l r. λ (y : Either F G l r). elim y [ inl a ↦ absurd (none l r a) | inr b ↦ h.first l r b ];
}
goes_on F G none (Err Memory) h = tt

-- rules that fail at the same lines have the same answers
pub same_answers : (F G : Failing) → ((n r : ℕ) → F n r → G n r) → ((n r : ℕ) → G n r → F n r) → (result : Answer) → Answers {X = Unit {0}} F Done result → Answers {X = Unit {0}} G Done result
same_answers F G to of (Ok x) h = (λ l r g. h.0 l r (of l r g), tt)
same_answers F G to of (Err (Refused at)) h = record { fails = to at.line at.rule h.fails; first = λ l r g. h.first l r (of l r g) }
same_answers F G to of (Err Memory) h = tt

-- the parts of a bundle, in the order of the text
abbrev ClientParts : Bundle → Failing
ClientParts b = Either (FailsPlanNames b) (FailsClientNames b)

abbrev DomainParts : Bundle → Failing
DomainParts b = Either (FailsDomainNames b) (ClientParts b)

abbrev AllParts : Bundle → Failing
AllParts b = Either (FailsNames b.idl) (DomainParts b)

parts_fail : (b : Bundle) (n r : ℕ) → AllParts b n r → FailsBundleNames b n r
parts_fail b n r (inl f) = inl f
parts_fail b n r (inr (inl (inl (e, inl t)))) = inr (inl (e, inl t))
parts_fail b n r (inr (inl (inl (e, inr (inl t))))) = inr (inl (e, inr (inl t)))
parts_fail b n r (inr (inl (inl (e, inr (inr t))))) = inr (inl (e, inr (inr (inl t))))
parts_fail b n r (inr (inl (inr (e, inl u)))) = inr (inr (e, inl u))
parts_fail b n r (inr (inl (inr (e, inr (inl u))))) = inr (inr (e, inr (inl u)))
parts_fail b n r (inr (inl (inr (e, inr (inr u))))) = inr (inr (e, inr (inr (inl u))))
parts_fail b n r (inr (inr (inl (inl (e, t))))) = inr (inl (e, inr (inr (inr (inl t)))))
parts_fail b n r (inr (inr (inl (inr (e, inl u))))) = inr (inr (e, inr (inr (inr (inl u)))))
parts_fail b n r (inr (inr (inl (inr (e, inr (inl u)))))) = inr (inr (e, inr (inr (inr (inr (inl u))))))
parts_fail b n r (inr (inr (inl (inr (e, inr (inr (inl u))))))) = inr (inr (e, inr (inr (inr (inr (inr (inl u)))))))
parts_fail b n r (inr (inr (inl (inr (e, inr (inr (inr (inl u)))))))) = inr (inr (e, inr (inr (inr (inr (inr (inr (inl u))))))))
parts_fail b n r (inr (inr (inl (inr (e, inr (inr (inr (inr u)))))))) = inr (inr (e, inr (inr (inr (inr (inr (inr (inr (inl u)))))))))
parts_fail b n r (inr (inr (inr (inl (e, inl t))))) = inr (inl (e, inr (inr (inr (inr (inl t))))))
parts_fail b n r (inr (inr (inr (inl (e, inr t))))) = inr (inl (e, inr (inr (inr (inr (inr t))))))
parts_fail b n r (inr (inr (inr (inr (e, inl u))))) = inr (inr (e, inr (inr (inr (inr (inr (inr (inr (inr (inl u))))))))))
parts_fail b n r (inr (inr (inr (inr (e, inr (inl u)))))) = inr (inr (e, inr (inr (inr (inr (inr (inr (inr (inr (inr (inl u)))))))))))
parts_fail b n r (inr (inr (inr (inr (e, inr (inr u)))))) = inr (inr (e, inr (inr (inr (inr (inr (inr (inr (inr (inr (inr u)))))))))))

fail_parts : (b : Bundle) (n r : ℕ) → FailsBundleNames b n r → AllParts b n r
fail_parts b n r (inl f) = inl f
fail_parts b n r (inr (inl (e, inl t))) = inr (inl (inl (e, inl t)))
fail_parts b n r (inr (inl (e, inr (inl t)))) = inr (inl (inl (e, inr (inl t))))
fail_parts b n r (inr (inl (e, inr (inr (inl t))))) = inr (inl (inl (e, inr (inr t))))
fail_parts b n r (inr (inl (e, inr (inr (inr (inl t)))))) = inr (inr (inl (inl (e, t))))
fail_parts b n r (inr (inl (e, inr (inr (inr (inr (inl t))))))) = inr (inr (inr (inl (e, inl t))))
fail_parts b n r (inr (inl (e, inr (inr (inr (inr (inr t))))))) = inr (inr (inr (inl (e, inr t))))
fail_parts b n r (inr (inr (e, inl u))) = inr (inl (inr (e, inl u)))
fail_parts b n r (inr (inr (e, inr (inl u)))) = inr (inl (inr (e, inr (inl u))))
fail_parts b n r (inr (inr (e, inr (inr (inl u))))) = inr (inl (inr (e, inr (inr u))))
fail_parts b n r (inr (inr (e, inr (inr (inr (inl u)))))) = inr (inr (inl (inr (e, inl u))))
fail_parts b n r (inr (inr (e, inr (inr (inr (inr (inl u))))))) = inr (inr (inl (inr (e, inr (inl u)))))
fail_parts b n r (inr (inr (e, inr (inr (inr (inr (inr (inl u)))))))) = inr (inr (inl (inr (e, inr (inr (inl u))))))
fail_parts b n r (inr (inr (e, inr (inr (inr (inr (inr (inr (inl u))))))))) = inr (inr (inl (inr (e, inr (inr (inr (inl u)))))))
fail_parts b n r (inr (inr (e, inr (inr (inr (inr (inr (inr (inr (inl u)))))))))) = inr (inr (inl (inr (e, inr (inr (inr (inr u)))))))
fail_parts b n r (inr (inr (e, inr (inr (inr (inr (inr (inr (inr (inr (inl u))))))))))) = inr (inr (inr (inr (e, inl u))))
fail_parts b n r (inr (inr (e, inr (inr (inr (inr (inr (inr (inr (inr (inr (inl u)))))))))))) = inr (inr (inr (inr (e, inr (inl u)))))
fail_parts b n r (inr (inr (e, inr (inr (inr (inr (inr (inr (inr (inr (inr (inr u)))))))))))) = inr (inr (inr (inr (e, inr (inr u)))))

-- the lines at which the parts fail
plan_number : (b : Bundle) → IsOrdered b → Within (FailsPlanNames b) (numbers_of b.plan.lines)
plan_number b o = λ n r f. elim ((plan_left b (plan_rises b o.rises)).to n r f) [
  | inl t ↦ meets_number given_after gives_again none_given b.plan.lines n t.1
  | inr u ↦ meets_number given_after (nothing_named b) none_given b.plan.lines n u.1
]

client_number : (b : Bundle) → IsOrdered b → Within (FailsClientNames b) (numbers_of b.clients.lines)
client_number b o = λ n r f. elim ((clients_left b o.clients (clients_rise b o.rises)).to n r f) [
  | inl t ↦ meets_number script_after names_again no_scripts b.clients.lines n t.1
  | inr u ↦ meets_number script_after (nothing_used b) no_scripts b.clients.lines n u.1
]

clients_within : (b : Bundle) → IsOrdered b → Within (ClientParts b) (numbers_of b.plan.lines ++ numbers_of b.clients.lines)
clients_within b o = λ n r. λ (f : ClientParts b n r). elim f [
  | inl p ↦ in_front (numbers_of b.plan.lines) (numbers_of b.clients.lines) n (plan_number b o n r p)
  | inr c ↦ in_back (numbers_of b.plan.lines) (numbers_of b.clients.lines) n (client_number b o n r c)
]

domains_within : (b : Bundle) → IsOrdered b → Within (DomainParts b) (domain_numbers b.domains ++ (numbers_of b.plan.lines ++ numbers_of b.clients.lines))
domains_within b o = λ n r. λ (f : DomainParts b n r). elim f [
  | inl d ↦ in_front (domain_numbers b.domains) (numbers_of b.plan.lines ++ numbers_of b.clients.lines) n (domains_number b n r d)
  | inr c ↦ in_back (domain_numbers b.domains) (numbers_of b.plan.lines ++ numbers_of b.clients.lines) n (clients_within b o n r c)
]

rise_domains : (b : Bundle) → IsOrdered b → Rise (domain_numbers b.domains ++ (numbers_of b.plan.lines ++ numbers_of b.clients.lines))
rise_domains b o = rise_back (numbers_of b.idl.lines) (domain_numbers b.domains ++ (numbers_of b.plan.lines ++ numbers_of b.clients.lines)) o.rises

rise_clients : (b : Bundle) → IsOrdered b → Rise (numbers_of b.plan.lines ++ numbers_of b.clients.lines)
rise_clients b o = rise_back (domain_numbers b.domains) (numbers_of b.plan.lines ++ numbers_of b.clients.lines) (rise_domains b o)

whole : (b : Bundle) (result : Answer) → Answers {X = Unit {0}} (AllParts b) Done result → Answers {X = Unit {0}} (FailsBundleNames b) Done result
whole b result h = same_answers (AllParts b) (FailsBundleNames b) (parts_fail b) (fail_parts b) result h

-- the interface part fails
pub interfaces_answer : (b : Bundle) → IsOrdered b → (e : LoadFault) → Answers {X = Unit {0}} (FailsNames b.idl) Done (Err e) → Answers {X = Unit {0}} (FailsBundleNames b) Done (Err e)
interfaces_answer b o e h = whole b (Err e) (stops_first (FailsNames b.idl) (DomainParts b) (numbers_of b.idl.lines) (domain_numbers b.domains ++ (numbers_of b.plan.lines ++ numbers_of b.clients.lines)) o.rises (interface_number b.idl) (domains_within b o) e h)

-- the domains fail
pub domains_answer : (b : Bundle) → IsOrdered b → Nowhere (FailsNames b.idl) → (e : LoadFault) → Answers {X = Unit {0}} (FailsDomainNames b) Done (Err e) → Answers {X = Unit {0}} (FailsBundleNames b) Done (Err e)
domains_answer b o first e h = whole b (Err e) (goes_on (FailsNames b.idl) (DomainParts b) first (Err e) (stops_first (FailsDomainNames b) (ClientParts b) (domain_numbers b.domains) (numbers_of b.plan.lines ++ numbers_of b.clients.lines) (rise_domains b o) (domains_number b) (clients_within b o) e h))

-- the plan fails
pub plan_answer : (b : Bundle) → IsOrdered b → Nowhere (FailsNames b.idl) → Nowhere (FailsDomainNames b) → (e : LoadFault) → Answers {X = Unit {0}} (FailsPlanNames b) Done (Err e) → Answers {X = Unit {0}} (FailsBundleNames b) Done (Err e)
plan_answer b o first second e h = whole b (Err e) (goes_on (FailsNames b.idl) (DomainParts b) first (Err e) (goes_on (FailsDomainNames b) (ClientParts b) second (Err e) (stops_first (FailsPlanNames b) (FailsClientNames b) (numbers_of b.plan.lines) (numbers_of b.clients.lines) (rise_clients b o) (plan_number b o) (client_number b o) e h)))

-- what the clients answer, where nothing fails before them
pub clients_answer : (b : Bundle) → Nowhere (FailsNames b.idl) → Nowhere (FailsDomainNames b) → Nowhere (FailsPlanNames b) → (result : Answer) → Answers {X = Unit {0}} (FailsClientNames b) Done result → Answers {X = Unit {0}} (FailsBundleNames b) Done result
clients_answer b first second third result h = whole b result (goes_on (FailsNames b.idl) (DomainParts b) first result (goes_on (FailsDomainNames b) (ClientParts b) second result (goes_on (FailsPlanNames b) (FailsClientNames b) third result h)))

-- the lines of the interface part are few, and rise
rises_lines : (lines : List (Numbered IdlLine)) → Rise (numbers_of lines) → Rises lines
rises_lines lines h = λ j k x y lt p q. h j k x.line y.line lt (number_at lines j x p) (number_at lines k y q)

pub interface_rises : (b : Bundle) → IsOrdered b → Rises b.idl.lines
interface_rises b o = rises_lines b.idl.lines (rise_front (numbers_of b.idl.lines) (domain_numbers b.domains ++ (numbers_of b.plan.lines ++ numbers_of b.clients.lines)) o.rises)

pub interface_few : (b : Bundle) → IsOrdered b → length b.idl.lines ≤ 1048576
interface_few b o = omega (arith, o.few, length-append (numbers_of b.idl.lines) (domain_numbers b.domains ++ (numbers_of b.plan.lines ++ numbers_of b.clients.lines)), length_numbers b.idl.lines)
