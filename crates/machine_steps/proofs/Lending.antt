-- The objects that arguments lend, one argument more.
use Rattle.std.proofs.Common.{◌≡◌, ℕ, ◌+◌, ◌<◌, ◌++◌, [], ◌∷◌, List, length, take, get_or, refl, ap, ◌∙◌, append-nil}
use Rattle.std.proofs.lemmas.List.{take_more}
use Rattle.std.proofs.lemmas.List.Elements.{filter_map-append}
use Rattle.machine_defs.specs.declared.values.Arg.{Arg}
use Rattle.machine_defs.specs.declared.values.Arg.TheVariants as arg
use Rattle.machine_defs.specs.Arguments.{lent_by, lent_of}

one_more : (args : List Arg) (i : ℕ) (d : Arg) → i < length args → lent_of (take (i + 1) args) ≡ lent_of (take i args) ++ lent_of (get_or args i d ∷ [])
one_more args i d within = ap lent_of (take_more args i d within) ∙ filter_map-append lent_by (take i args) (get_or args i d ∷ [])

pub lends_more : (args : List Arg) (i : ℕ) (d : Arg) (o : ℕ) → i < length args → get_or args i d ≡ arg.Lent o → lent_of (take (i + 1) args) ≡ lent_of (take i args) ++ o ∷ []
lends_more args i d o within is = one_more args i d within ∙ ap (λ a. lent_of (take i args) ++ lent_of (a ∷ [])) is

lends_none : (a : Arg) → ((o : ℕ) → a ≡ arg.Lent o → ⊥) → lent_of (a ∷ []) ≡ []
lends_none (arg.Num n) h = refl
lends_none (arg.Moved o) h = refl
lends_none (arg.Lent o) h = absurd (h o refl)
lends_none (arg.Cap x) h = refl

pub lends_no_more : (args : List Arg) (i : ℕ) (d : Arg) → i < length args → ((o : ℕ) → get_or args i d ≡ arg.Lent o → ⊥) → lent_of (take (i + 1) args) ≡ lent_of (take i args)
lends_no_more args i d within h = one_more args i d within ∙ (ap (λ os. lent_of (take i args) ++ os) (lends_none (get_or args i d) h) ∙ append-nil (lent_of (take i args)))
