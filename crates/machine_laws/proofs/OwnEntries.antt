-- A frame begins with the objects that its call moved as its own; and what holds of registers holds under each typing of their objects.
use Rattle.std.proofs.Common.{◌≡◌, refl, sym, ◌∙◌, ap, ℕ, zero, suc, ◌+◌, ◌-◌, ◌<◌, ◌==◌, Bool, true, false, cond, not, List, [], ◌∷◌, ◌++◌, length, map, Option, Some, None, slice_get, arith, one-add, inl, inr}
use Rattle.std.specs.Prelude.{replicate}
use Rattle.std.specs.List.{slice_index_or, position_or_len}
use Rattle.std.proofs.lemmas.List.{length-map}
use Rattle.std.proofs.lemmas.Bool.{cases_Bool, false_from_ne_true}
use Rattle.rl_defs.specs.declared.bundle.Numbered.{Numbered}
use Rattle.machine_defs.specs.declared.values.Arg.{Arg}
use Rattle.machine_defs.specs.declared.values.Arg.TheVariants as given
use Rattle.rl_defs.specs.declared.values.Value.{Value}
use Rattle.rl_defs.specs.declared.values.Value.TheVariants as value
use Rattle.rl_defs.specs.declared.code.RegKind.{RegKind}
use Rattle.rl_defs.specs.declared.code.RegKind.TheVariants as held
use Rattle.rl_defs.specs.declared.code.Instr.{Instr}
use Rattle.rl_defs.specs.declared.code.DomainLine.{DomainLine}
use Rattle.rl_defs.specs.declared.code.DomainLine.TheVariants as line
use Rattle.rl_defs.specs.declared.tables.Kind.{Kind}
use Rattle.rl_defs.specs.declared.tables.Kind.TheVariants as kind
use Rattle.rl_defs.specs.DomainValue.{Domain}
use Rattle.rl_defs.specs.Domains.{is_native, begins_function}
use Rattle.rl_defs.specs.CodeNames.{method_named, params_of, domain_trait}
use Rattle.rl_defs.specs.CodeKinds.{Kinds, kinds_at, as_register, entry_kinds, after_line, left}
use Rattle.machine_defs.specs.Loans.{count}
use Rattle.machine_defs.specs.Arguments.{has, value_of, moved_of, lent_of, entry_registers}
use Rattle.rl_defs.specs.CodeRules.{KeepsRules}
use Rattle.rl_defs.specs.Registers.{Typing, fits_kind, Fits}
use Rattle.machine_defs.specs.CodeFits.{FitsStand, FitsWaiting}
use Rattle.rl_defs.specs.Registers.{Registers, Stand}
use Rattle.rl_defs.specs.CodeNames.{entry_of, entry_at}
use Rattle.machine_defs.specs.CodeLaws.{FitsArguments}
use Rattle.machine_defs.proofs.CodeRegisters.{and_left, and_right}
use Rattle.rl_defs.proofs.CodeBlocks.{some_line}
use Rattle.machine_defs.proofs.CodeStands.{kinds_next}
use Rattle.machine_defs.proofs.CodeEntries.{as_many, entries_fit, entry_is, named_row}
use Rattle.rl_defs.proofs.TableSizes.{small_method}
use Rattle.machine_laws.specs.Registers.{own, Parted, is_passed_as, all_pass_as, Retyped}
use Rattle.machine_laws.proofs.OwnCounts.{weight, weight_of, own_first}
use Rattle.machine_laws.proofs.OwnMarks.{mark, parted_of}
use Rattle.machine_laws.proofs.OwnAnswers.{one_more}
use Rattle.machine_laws.proofs.Contents.{same_list}
use Rattle.machine_laws.proofs.Counts.{has_counted, counted_has}

-- the line before a function's first line is its head
pub passes_first : {A : Type 0} (test : A → Bool) (xs : List A) (x : A) → slice_get xs (position_or_len test xs) ≡ Some x → test x ≡ true
passes_first test [] x here = absurd (cc)
passes_first {A = A} test (y ∷ xs) x here = elim (cases_Bool (test y)) [
  | inl is ↦
      let first : slice_get (y ∷ xs) (position_or_len test (y ∷ xs)) ≡ Some y = ap (λ (b : Bool). slice_get (y ∷ xs) (cond (not b) (1 + position_or_len test xs) 0)) is in
      let same : y ≡ x = cc in
      ap test (sym same) ∙ is
  | inr isn't ↦
      let later : slice_get (y ∷ xs) (position_or_len test (y ∷ xs)) ≡ slice_get xs (position_or_len test xs) =
      ap (λ (b : Bool). slice_get (y ∷ xs) (cond (not b) (1 + position_or_len test xs) 0)) isn't ∙ ap (slice_get (y ∷ xs)) (one-add (position_or_len test xs)) in
      passes_first test xs x (sym later ∙ here)
]

begins_kinds : (d : Domain) (kinds : Kinds) (name : List ℕ) (form : DomainLine) → begins_function name form ≡ true → after_line d kinds form ≡ entry_kinds (params_of (method_named d.tables (domain_trait d) name))
begins_kinds d kinds name (line.Function n) b = ap (λ x. entry_kinds (params_of (method_named d.tables (domain_trait d) x))) (same_list n name b)
begins_kinds d kinds name form b = absurd (cc)

kinds_entered : (d : Domain) (types : Typing) (m place : ℕ) (args : List Arg) → (given : FitsArguments types d m args) → entry_at d m ≡ Some place → place < length d.lines → kinds_at d place ≡ entry_kinds given.method.params
kinds_entered d types m place args given at within =
    let name = given.method.name in
    let test = λ (l : Numbered DomainLine). begins_function name l.form in
    let p = position_or_len test d.lines in
    let e : Some (p + 1) ≡ Some place = sym (ap (entry_of d) given.row) ∙ at in
    let is : p + 1 ≡ place = cc in
    let l = some_line d.lines p (omega arith) in
    ap (kinds_at d) (sym is)
    ∙ (kinds_next d p l.0 l.1
    ∙ (begins_kinds d (kinds_at d p) name l.0.form (passes_first test d.lines l.0 l.1)
    ∙ ap entry_kinds (named_row d name m given.method given.named given.row)))

-- arguments in their registers
empty_marks : (lent : List ℕ) (j r : ℕ) → mark lent (slice_index_or (replicate j held.Empty) r held.Empty) (slice_index_or (replicate j None) r None) ≡ true
empty_marks lent zero r = refl
empty_marks lent (suc j) zero = refl
empty_marks lent (suc j) (suc r) = empty_marks lent j r

-- arguments that a list of loans parts: none that is moved is in it, and each that is lent is
record Parts (loans : List ℕ) (args : List Arg) : Type 0 where
  moved : (o : ℕ) → 0 < count o (moved_of args) → has loans o ≡ false
  lent : (o : ℕ) → 0 < count o (lent_of args) → has loans o ≡ true

pub more_moved : (o : ℕ) (a : Arg) (args : List Arg) → count o (moved_of (a ∷ args)) ≡ count o (moved_of (a ∷ [])) + count o (moved_of args)
more_moved o (given.Moved q) args = omega arith
more_moved o a args = omega arith

pub more_lent : (o : ℕ) (a : Arg) (args : List Arg) → count o (lent_of (a ∷ args)) ≡ count o (lent_of (a ∷ [])) + count o (lent_of args)
more_lent o (given.Lent q) args = omega arith
more_lent o a args = omega arith

parts_first : (lent : List ℕ) (a : Arg) (args : List Arg) → Parts lent (a ∷ args) → Parts lent (a ∷ [])
parts_first lent a args parts = record {
  moved = λ o some. parts.moved o (omega (arith, more_moved o a args));
  lent = λ o some. parts.lent o (omega (arith, more_lent o a args));
}

parts_rest : (lent : List ℕ) (a : Arg) (args : List Arg) → Parts lent (a ∷ args) → Parts lent args
parts_rest lent a args parts = record {
  moved = λ o some. parts.moved o (omega (arith, more_moved o a args));
  lent = λ o some. parts.lent o (omega (arith, more_lent o a args));
}

arg_mark : (lent : List ℕ) (k : Kind) (a : Arg) → is_passed_as k a ≡ true → Parts lent (a ∷ []) → mark lent (as_register k) (Some (value_of a)) ≡ true
arg_mark lent (kind.Own s) (given.Moved o) passes parts = ap not (parts.moved o (one_more o))
arg_mark lent (kind.Own s) (given.Lent o) passes parts = cc
arg_mark lent (kind.Lent s) (given.Lent o) passes parts = parts.lent o (one_more o)
arg_mark lent (kind.Lent s) (given.Moved o) passes parts = cc
arg_mark lent (kind.Own s) a passes parts = refl
arg_mark lent (kind.Lent s) a passes parts = refl
arg_mark lent k a passes parts = refl

args_marked : (lent : List ℕ) (ks : List Kind) (args : List Arg) (j r : ℕ) → length ks ≡ length args → all_pass_as ks args ≡ true → Parts lent args → mark lent (slice_index_or (map as_register ks ++ replicate j held.Empty) r held.Empty) (slice_index_or (map (λ a. Some (value_of a)) args ++ replicate j None) r None) ≡ true
args_marked lent [] [] j r many passes parts = empty_marks lent j r
args_marked lent [] (a ∷ args) j r many passes parts = absurd (omega arith)
args_marked lent (k ∷ ks) [] j r many passes parts = absurd (omega arith)
args_marked lent (k ∷ ks) (a ∷ args) j zero many passes parts = arg_mark lent k a (and_left (is_passed_as k a) (all_pass_as ks args) passes) (parts_first lent a args parts)
args_marked lent (k ∷ ks) (a ∷ args) j (suc r) many passes parts = args_marked lent ks args j r (omega arith) (and_right (is_passed_as k a) (all_pass_as ks args) passes) (parts_rest lent a args parts)

arg_weight : (lent : List ℕ) (p : ℕ) (a : Arg) → Parts lent (a ∷ []) → weight lent p (Some (value_of a)) ≡ count p (moved_of (a ∷ []))
arg_weight lent p (given.Num n) parts = refl
arg_weight lent p (given.Moved o) parts = ap (weight_of p o) (parts.moved o (one_more o))
arg_weight lent p (given.Lent o) parts = ap (weight_of p o) (parts.lent o (one_more o))
arg_weight lent p (given.Cap x) parts = refl

empty_count : (lent : List ℕ) (p j : ℕ) → count p (own lent (replicate j None)) ≡ 0
empty_count lent p zero = refl
empty_count lent p (suc j) = empty_count lent p j

args_counted : (lent : List ℕ) (p j : ℕ) (args : List Arg) → Parts lent args → count p (own lent (map (λ a. Some (value_of a)) args ++ replicate j None)) ≡ count p (moved_of args)
args_counted lent p j [] parts = empty_count lent p j
args_counted lent p j (a ∷ args) parts =
    omega (arith, own_first lent p (Some (value_of a)) (map (λ x. Some (value_of x)) args ++ replicate j None), arg_weight lent p a (parts_first lent a args parts), more_moved p a args, args_counted lent p j args (parts_rest lent a args parts))

-- A frame begins with registers that fit, and with what its call moved as its own.
pub record BeginsOwn (types : Typing) (d : Domain) (place : ℕ) (args : List Arg) : Type 0 where
  pub fits : FitsStand types d (record { at = place; regs = entry_registers args })
  pub parted : Parted (lent_of args) (kinds_at d place) (entry_registers args)
  pub counts : (p : ℕ) → count p (own (lent_of args) (entry_registers args)) ≡ count p (moved_of args)

pub begins_own : (d : Domain) (types : Typing) (m place : ℕ) (args : List Arg) → KeepsRules d → is_native d.lines ≡ false → (given : FitsArguments types d m args) → entry_at d m ≡ Some place → all_pass_as given.method.params args ≡ true → ((o : ℕ) → 0 < count o (moved_of args) → 0 < count o (lent_of args) → ⊥) → BeginsOwn types d place args
begins_own d types m place args keeps native given at passes apart =
    let fits = entries_fit d types m place args keeps native given at in
    let lent = lent_of args in
    let ks = given.method.params in
    let small = (small_method d.tables (domain_trait d) m given.method keeps.small given.row).params in
    let many : length ks ≡ length args = as_many types ks (map value_of args) given.values ∙ length-map args value_of in
    let parts : Parts lent args = record {
      moved = λ o some. false_from_ne_true (has lent o) (λ is. apart o some (has_counted lent o is));
      lent = λ o some. counted_has lent o some;
    } in
    record {
      fits = fits;
      parted = parted_of lent (kinds_at d place) (entry_registers args) (λ r.
          ap (λ kinds. mark lent (slice_index_or kinds r held.Empty) (slice_index_or (entry_registers args) r None)) (kinds_entered d types m place args given at fits.within ∙ entry_is ks (omega arith))
          ∙ (ap (λ n. mark lent (slice_index_or (map as_register ks ++ replicate (32 - n) held.Empty) r held.Empty) (slice_index_or (entry_registers args) r None)) many
          ∙ args_marked lent ks args (32 - length args) r many passes parts));
      counts = λ p. args_counted lent p (32 - length args) args parts;
    }

-- what fits one typing fits each that agrees with it
kind_retyped : (types other : Typing) (k : RegKind) (v : Option Value) → ((o : ℕ) → v ≡ Some (value.Obj o) → other.struct_of o ≡ types.struct_of o) → ((x : ℕ) → other.trait_of x ≡ types.trait_of x) → fits_kind types k v ≡ true → fits_kind other k v ≡ true
kind_retyped types other held.Empty None objects targets f = refl
kind_retyped types other held.Num (Some (value.Num n)) objects targets f = refl
kind_retyped types other (held.Own s) (Some (value.Obj o)) objects targets f = ap (λ n. n == s) (objects o refl) ∙ f
kind_retyped types other (held.Lent s) (Some (value.Obj o)) objects targets f = ap (λ n. n == s) (objects o refl) ∙ f
kind_retyped types other (held.Cap t) (Some (value.Cap x)) objects targets f = ap (λ n. n == t) (targets x) ∙ f
kind_retyped types other k v objects targets f = absurd (cc)

pub fits_retyped : (types other : Typing) (kinds : Kinds) (regs : Registers) → Retyped types other regs → Fits types kinds regs → Fits other kinds regs
fits_retyped types other kinds regs re fit = record {
  all = fit.all;
  each = λ r. kind_retyped types other (slice_index_or kinds r held.Empty) (slice_index_or regs r None) (re.objects r) re.targets (fit.each r);
}

pub stand_retyped : (types other : Typing) (d : Domain) (s : Stand) → Retyped types other s.regs → FitsStand types d s → FitsStand other d s
stand_retyped types other d s re stand = record { inside = stand.inside; reached = stand.reached; within = stand.within; regs = fits_retyped types other (kinds_at d s.at) s.regs re stand.regs }

pub waiting_retyped : (types other : Typing) (d : Domain) (i : Instr) (s : Stand) → Retyped types other s.regs → FitsWaiting types d i s → FitsWaiting other d i s
waiting_retyped types other d i s re waits = record { number = waits.number; here = waits.here; inside = waits.inside; regs = fits_retyped types other (left (kinds_at d s.at) i) s.regs re waits.regs }
