-- What is kept of a domain while it is checked.
use Rattle.std.specs.Prelude.{◌≡◌, ℕ, ◌<◌, ◌^◌, List, length, Option, Bool, IfSome}
use Rattle.rl_defs.specs.DomainValue.{Domain}
use Rattle.rl_defs.specs.Domains.{is_native}
use Rattle.rl_defs.specs.CodeNames.{slots, imports, struct_number, trait_number, domain_trait, has_words}
use Rattle.domain_checker.specs.Numbering.{body_from, AreDeclared}

pub record IsScope {M : Type 0} (d : Domain) (of : ℕ) (slot : List ℕ → Option ℕ) (slot_types : List ℕ) (import : List ℕ → Option ℕ) (import_types : List ℕ) (body : M → List ℕ → Option ℕ) (bodies : Option M) (words native : Bool) : Type 0 where
  pub short : length d.lines < 2 ^ 31
  pub trait_is : of ≡ domain_trait d
  pub slots_are : AreDeclared slot slot_types (struct_number d.tables) (slots d.lines)
  pub imports_are : AreDeclared import import_types (trait_number d.tables) (imports d.lines)
  pub bodies_are : IfSome bodies (λ t. (q : List ℕ) → body t q ≡ body_from q d.lines 0)
  pub words_are : words ≡ has_words d.lines
  pub native_is : native ≡ is_native d.lines
