-- Whether the structs at some places are one.
use Rattle.std.specs.Prelude.{ℕ, ◌==◌, Bool, true, false, List, [], ◌∷◌, if◌then◌else◌}
use Rattle.domain_checker.specs.declared.native.Found.{Found}
use Rattle.domain_checker.specs.declared.native.Found.TheVariants.{Nothing, One, Different}

abbrev pub with_struct : Found → ℕ → Found
with_struct Nothing s = One s
with_struct (One t) s = if s == t then One t else Different
with_struct Different s = Different

-- with these structs, one after the other
abbrev pub with_all : Found → List ℕ → Found
with_all found [] = found
with_all found (s ∷ others) = with_all (with_struct found s) others

abbrev pub is_one : Found → Bool
is_one Different = false
is_one _ = true
