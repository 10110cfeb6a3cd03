-- The line forms of the plan and of the clients, by their spellings.
use Rattle.std.specs.Prelude.{◌≢◌, ℕ, List, [], ◌∷◌, ◌++◌, codes}
use Rattle.rl_defs.specs.declared.bundle.PlanLine.{PlanLine}
use Rattle.rl_defs.specs.declared.bundle.PlanLine.TheVariants as plan
use Rattle.rl_defs.specs.declared.bundle.ScriptArgText.{ScriptArgText}
use Rattle.rl_defs.specs.declared.bundle.ScriptArgText.TheVariants as arg
use Rattle.rl_defs.specs.declared.bundle.ClientLine.{ClientLine}
use Rattle.rl_defs.specs.declared.bundle.ClientLine.TheVariants as client
use Rattle.rl_defs.specs.declared.lexeme.Mark.TheVariants as m
use Rattle.rl_defs.specs.Tokens.{Token, Name, Number, Text, Sign, HasTokens}
use Rattle.rl_defs.specs.DomainForms.{spell_some}

abbrev pub spell_name : List ℕ → List Token
spell_name name = Name name ∷ []

abbrev pub spell_number : ℕ → List Token
spell_number n = Number n ∷ []

-- the tokens of a line of the plan
abbrev pub spell_plan : PlanLine → List Token
spell_plan (plan.Load name domain) = Name (codes "load") ∷ Name name ∷ Sign m.Equals ∷ Name domain ∷ []
spell_plan (plan.Bind load import target) = Name (codes "bind") ∷ Name load ∷ Sign m.Dot ∷ Name import ∷ Sign m.Equals ∷ Name target ∷ []
spell_plan (plan.Shadow name load restarts) = Name (codes "shadow") ∷ Name name ∷ Sign m.Equals ∷ Name load ∷ Name (codes "restarts") ∷ Number restarts ∷ []
spell_plan (plan.Device load blocks) = Name (codes "device") ∷ Name load ∷ Number blocks ∷ []
spell_plan (plan.Serial load) = Name (codes "serial") ∷ Name load ∷ []
spell_plan (plan.Fuel n) = Name (codes "fuel") ∷ Number n ∷ []
spell_plan (plan.Order clients) = Name (codes "order") ∷ spell_some spell_name clients

-- an `order` line names one client or more
abbrev pub IsPlanForm : PlanLine → Type 0
IsPlanForm (plan.Order clients) = clients ≢ []
IsPlanForm _ = Unit {0}

-- A text is a line of the plan of this form.
pub record IsPlanLine (form : PlanLine) (text : List ℕ) : Type 0 where
  pub tokens : HasTokens (spell_plan form) text
  pub whole : IsPlanForm form

-- an argument of a client's call: a number, a name, `&` and a name that is lent, `@` and a target
abbrev pub spell_arg : ScriptArgText → List Token
spell_arg (arg.Num n) = Number n ∷ []
spell_arg (arg.Name name) = Name name ∷ []
spell_arg (arg.Lent name) = Sign m.Ampersand ∷ Name name ∷ []
spell_arg (arg.Target name) = Sign m.At ∷ Name name ∷ []

-- the names that a call binds stand behind `->`, which is missing where there are none
abbrev pub spell_names : List (List ℕ) → List Token
spell_names [] = []
spell_names (name ∷ more) = Sign m.Arrow ∷ spell_some spell_name (name ∷ more)

-- the tokens of a line of the clients
abbrev pub spell_client : ClientLine → List Token
spell_client (client.Client name) = Name (codes "client") ∷ Name name ∷ Sign m.OpenBrace ∷ []
spell_client (client.Let name ty values) = Name (codes "let") ∷ Name name ∷ Sign m.Equals ∷ Name (codes "new") ∷ Name ty ∷ spell_some spell_number values
spell_client (client.Text name ty bytes) = Name (codes "text") ∷ Name name ∷ Sign m.Equals ∷ Name ty ∷ Text bytes ∷ []
spell_client (client.Call target method args names) =
    Name (codes "call") ∷ Name target ∷ Sign m.Dot ∷ Name method ∷ Sign m.OpenParen ∷ spell_some spell_arg args ++ (Sign m.CloseParen ∷ spell_names names)
spell_client (client.Show name) = Name (codes "show") ∷ Name name ∷ []
spell_client (client.Drop name) = Name (codes "drop") ∷ Name name ∷ []
spell_client (client.Kill target) = Name (codes "kill") ∷ Name target ∷ []
spell_client client.Close = Sign m.CloseBrace ∷ []

-- A text is a line of the clients of this form.
abbrev pub IsClientLine : ClientLine → List ℕ → Type 0
IsClientLine form text = HasTokens (spell_client form) text
