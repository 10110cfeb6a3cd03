-- What is kept of the names that lines of the plan gave, one line more.
use Rattle.std.proofs.Common.{◌≡◌, ℕ, Bool, true, false, ◌||◌, List, [], ◌∷◌, ◌++◌, refl, sym, ◌∙◌, Result, Ok, Err}
use Rattle.std.specs.Prelude.{IsTrue, OnOk}
use Rattle.std.proofs.lemmas.List.{append-nil}
use Rattle.indexmap.specs.IndexSet.{contains, Updates}
use Rattle.rl_defs.specs.declared.bundle.PlanLine.{PlanLine}
use Rattle.rl_defs.specs.declared.bundle.PlanLine.TheVariants as plan
use Rattle.rl_defs.specs.Words.{is_name}
use Rattle.bundle_names.specs.declared.given.Given.{Given}
use Rattle.bundle_names.specs.Tests.{is_given}
use Rattle.bundle_names.specs.PlanNames.{GivenNames, given_after}
use Rattle.bundle_names.specs.GivenSoFar.{AreGiven, AreBound, Pair, same_pair}
use Rattle.bundle_names.proofs.Pairs.{bound_more, given_push}

pub on_ok : {T E : Type 0} (r : Result T E) (P Q : Type 0) → (P → Q) → OnOk r P → OnOk r Q
on_ok (Ok x) P Q f h = f h
on_ok (Err e) P Q f h = tt

same_more : (kept names : List (List ℕ)) → kept ≡ names → kept ≡ names ++ []
same_more kept names e = e ∙ sym (append-nil names)

bound_same : (has : Pair → Bool) (binds : List (List ℕ)) → AreBound has binds → AreBound has (binds ++ [])
bound_same has binds h = rw (append-nil binds) h

given_same : (b : Bool) (names : List (List ℕ)) → b ≡ is_given names [] → b ≡ is_given (names ++ []) []
given_same b names e = rw (append-nil names) e

once_more : (names : List (List ℕ)) → true ≡ is_given (names ++ [] ∷ []) []
once_more names = sym (given_push names [] [] ∙ by (is_given names [])) where
  by : (b : Bool) → (b || true) ≡ true
  by true = refl
  by false = refl

pub bind_given : (old new : Given) (load import target : List ℕ) (form : PlanLine) → form ≡ plan.Bind load import target → new.targets ≡ old.targets → new.serials ≡ old.serials → new.fuel ≡ old.fuel → new.order ≡ old.order → IsTrue (is_name load) → Updates same_pair old.binds new.binds (load, import) true → (names : GivenNames) → AreGiven old names → AreGiven new (given_after names form)
bind_given old new load import target form is t s f o named puts names h = rw is (record {
  targets = same_more new.targets names.targets (t ∙ h.targets);
  binds = bound_more (contains same_pair old.binds) (contains same_pair new.binds) names.binds load import named h.binds (λ q. puts.0 q);
  serials = same_more new.serials names.serials (s ∙ h.serials);
  fuel = given_same new.fuel names.fuels (f ∙ h.fuel);
  order = given_same new.order names.orders (o ∙ h.order);
})

pub fuel_given : (old new : Given) (n : ℕ) (form : PlanLine) → form ≡ plan.Fuel n → new.targets ≡ old.targets → new.binds ≡ old.binds → new.serials ≡ old.serials → new.fuel ≡ true → new.order ≡ old.order → (names : GivenNames) → AreGiven old names → AreGiven new (given_after names form)
fuel_given old new n form is t b s f o names h = rw is (record {
  targets = same_more new.targets names.targets (t ∙ h.targets);
  binds = bound_same (contains same_pair new.binds) names.binds (rw b h.binds);
  serials = same_more new.serials names.serials (s ∙ h.serials);
  fuel = f ∙ once_more names.fuels;
  order = given_same new.order names.orders (o ∙ h.order);
})

pub order_given : (old new : Given) (clients : List (List ℕ)) (form : PlanLine) → form ≡ plan.Order clients → new.targets ≡ old.targets → new.binds ≡ old.binds → new.serials ≡ old.serials → new.fuel ≡ old.fuel → new.order ≡ true → (names : GivenNames) → AreGiven old names → AreGiven new (given_after names form)
order_given old new clients form is t b s f o names h = rw is (record {
  targets = same_more new.targets names.targets (t ∙ h.targets);
  binds = bound_same (contains same_pair new.binds) names.binds (rw b h.binds);
  serials = same_more new.serials names.serials (s ∙ h.serials);
  fuel = given_same new.fuel names.fuels (f ∙ h.fuel);
  order = o ∙ once_more names.orders;
})
