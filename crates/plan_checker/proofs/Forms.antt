-- What lines of other forms don't give.
use Rattle.std.proofs.Common.{◌≡◌, ℕ, List, [], ◌∷◌, ◌++◌, refl, ap, ◌∙◌}
use Rattle.std.specs.List.{flat_map}
use Rattle.rl_defs.specs.declared.bundle.Numbered.{Numbered}
use Rattle.rl_defs.specs.declared.bundle.Bundle.{Bundle}
use Rattle.rl_defs.specs.declared.bundle.PlanLine.{PlanLine}
use Rattle.rl_defs.specs.declared.bundle.PlanLine.TheVariants as plan
use Rattle.rl_defs.specs.declared.bundle.ClientLine.{ClientLine}
use Rattle.rl_defs.specs.declared.bundle.ClientLine.TheVariants as client
use Rattle.rl_defs.specs.declared.code.DomainLine.{DomainLine}
use Rattle.rl_defs.specs.declared.code.DomainLine.TheVariants as line
use Rattle.rl_defs.specs.CodeNames.{Declared, import_of_form}
use Rattle.rl_defs.specs.BundleNames.{load_given, domains_loaded, serial_given, client_given, client_names, shadow_given, shadowed}
use Rattle.rl_defs.specs.LoadOf.{bound_in, loads_in, shadows_in, order_in, fuel_in, device_in, blocks_in}
use Rattle.plan_checker.specs.Lookups.{binding}
use Rattle.plan_checker.specs.Rows.{order_with}

pub record NoLoad (form : PlanLine) : Type 0 where
  pub name : load_given form ≡ []
  pub domain : domains_loaded form ≡ []
  pub row : (b : Bundle) → loads_in b form ≡ []

pub no_load : (form : PlanLine) → ((name domain : List ℕ) → form ≡ plan.Load name domain → ⊥) → NoLoad form
no_load (plan.Load name domain) h = absurd (h name domain refl)
no_load (plan.Bind load import target) h = record { name = refl; domain = refl; row = λ b. refl }
no_load (plan.Shadow name load restarts) h = record { name = refl; domain = refl; row = λ b. refl }
no_load (plan.Device load blocks) h = record { name = refl; domain = refl; row = λ b. refl }
no_load (plan.Serial load) h = record { name = refl; domain = refl; row = λ b. refl }
no_load (plan.Fuel n) h = record { name = refl; domain = refl; row = λ b. refl }
no_load (plan.Order clients) h = record { name = refl; domain = refl; row = λ b. refl }

pub record NoBind (form : PlanLine) : Type 0 where
  pub load : binding form ≡ []
  pub bound : (load import : List ℕ) → bound_in load import form ≡ []

pub no_bind : (form : PlanLine) → ((load import target : List ℕ) → form ≡ plan.Bind load import target → ⊥) → NoBind form
no_bind (plan.Load name domain) h = record { load = refl; bound = λ l i. refl }
no_bind (plan.Bind load import target) h = absurd (h load import target refl)
no_bind (plan.Shadow name load restarts) h = record { load = refl; bound = λ l i. refl }
no_bind (plan.Device load blocks) h = record { load = refl; bound = λ l i. refl }
no_bind (plan.Serial load) h = record { load = refl; bound = λ l i. refl }
no_bind (plan.Fuel n) h = record { load = refl; bound = λ l i. refl }
no_bind (plan.Order clients) h = record { load = refl; bound = λ l i. refl }

pub record NoShadow (form : PlanLine) : Type 0 where
  pub name : shadow_given form ≡ []
  pub load : shadowed form ≡ []
  pub row : (b : Bundle) → shadows_in b form ≡ []

pub no_shadow : (form : PlanLine) → ((name load : List ℕ) (restarts : ℕ) → form ≡ plan.Shadow name load restarts → ⊥) → NoShadow form
no_shadow (plan.Load name domain) h = record { name = refl; load = refl; row = λ b. refl }
no_shadow (plan.Bind load import target) h = record { name = refl; load = refl; row = λ b. refl }
no_shadow (plan.Shadow name load restarts) h = absurd (h name load restarts refl)
no_shadow (plan.Device load blocks) h = record { name = refl; load = refl; row = λ b. refl }
no_shadow (plan.Serial load) h = record { name = refl; load = refl; row = λ b. refl }
no_shadow (plan.Fuel n) h = record { name = refl; load = refl; row = λ b. refl }
no_shadow (plan.Order clients) h = record { name = refl; load = refl; row = λ b. refl }

pub record NoDevice (form : PlanLine) : Type 0 where
  pub load : (b : Bundle) → device_in b form ≡ []
  pub blocks : blocks_in form ≡ []

pub no_device : (form : PlanLine) → ((load : List ℕ) (blocks : ℕ) → form ≡ plan.Device load blocks → ⊥) → NoDevice form
no_device (plan.Load name domain) h = record { load = λ b. refl; blocks = refl }
no_device (plan.Bind load import target) h = record { load = λ b. refl; blocks = refl }
no_device (plan.Shadow name load restarts) h = record { load = λ b. refl; blocks = refl }
no_device (plan.Device load blocks) h = absurd (h load blocks refl)
no_device (plan.Serial load) h = record { load = λ b. refl; blocks = refl }
no_device (plan.Fuel n) h = record { load = λ b. refl; blocks = refl }
no_device (plan.Order clients) h = record { load = λ b. refl; blocks = refl }

pub no_serial : (form : PlanLine) → ((load : List ℕ) → form ≡ plan.Serial load → ⊥) → serial_given form ≡ []
no_serial (plan.Load name domain) h = refl
no_serial (plan.Bind load import target) h = refl
no_serial (plan.Shadow name load restarts) h = refl
no_serial (plan.Device load blocks) h = refl
no_serial (plan.Serial load) h = absurd (h load refl)
no_serial (plan.Fuel n) h = refl
no_serial (plan.Order clients) h = refl

pub no_fuel : (form : PlanLine) → ((n : ℕ) → form ≡ plan.Fuel n → ⊥) → fuel_in form ≡ []
no_fuel (plan.Load name domain) h = refl
no_fuel (plan.Bind load import target) h = refl
no_fuel (plan.Shadow name load restarts) h = refl
no_fuel (plan.Device load blocks) h = refl
no_fuel (plan.Serial load) h = refl
no_fuel (plan.Fuel n) h = absurd (h n refl)
no_fuel (plan.Order clients) h = refl

pub no_order : (form : PlanLine) (names : List (List ℕ)) → ((clients : List (List ℕ)) → form ≡ plan.Order clients → ⊥) → order_with names form ≡ []
no_order (plan.Load name domain) names h = refl
no_order (plan.Bind load import target) names h = refl
no_order (plan.Shadow name load restarts) names h = refl
no_order (plan.Device load blocks) names h = refl
no_order (plan.Serial load) names h = refl
no_order (plan.Fuel n) names h = refl
no_order (plan.Order clients) names h = absurd (h clients refl)

-- an `order` line gives the same by the bundle's clients and by their names
pub order_same : (b : Bundle) (form : PlanLine) → order_with (client_names b) form ≡ order_in b form
order_same b (plan.Load name domain) = refl
order_same b (plan.Bind load import target) = refl
order_same b (plan.Shadow name load restarts) = refl
order_same b (plan.Device load blocks) = refl
order_same b (plan.Serial load) = refl
order_same b (plan.Fuel n) = refl
order_same b (plan.Order clients) = refl

pub no_client : (form : ClientLine) → ((name : List ℕ) → form ≡ client.Client name → ⊥) → client_given form ≡ []
no_client (client.Client name) h = absurd (h name refl)
no_client (client.Let name ty values) h = refl
no_client (client.Text name ty bytes) h = refl
no_client (client.Call target method args names) h = refl
no_client (client.Show name) h = refl
no_client (client.Drop name) h = refl
no_client (client.Kill target) h = refl
no_client client.Close h = refl

pub no_import : (form : DomainLine) (others : List Declared) → ((name has : List ℕ) → form ≡ line.Import name has → ⊥) → import_of_form form others ≡ others
no_import (line.Domain name has) others h = refl
no_import (line.Words n) others h = refl
no_import (line.Slot name ty) others h = refl
no_import (line.Import name has) others h = absurd (h name has refl)
no_import (line.Native body) others h = refl
no_import (line.Function name) others h = refl
no_import (line.Head label items) others h = refl
no_import (line.Code i) others h = refl
no_import line.Close others h = refl

pub orders_same : (b : Bundle) (lines : List (Numbered PlanLine)) → flat_map (λ l. order_with (client_names b) l.form) lines ≡ flat_map (λ l. order_in b l.form) lines
orders_same b [] = refl
orders_same b (l ∷ ls) = ap (λ xs. xs ++ flat_map (λ (x : Numbered PlanLine). order_with (client_names b) x.form) ls) (order_same b l.form) ∙ ap (λ xs. order_in b l.form ++ xs) (orders_same b ls)
