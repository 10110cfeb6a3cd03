-- The registers that are emptied on a way.
use Rattle.std.proofs.Common.{◌≡◌, ◌≢◌, refl, ap, sym, ◌∙◌, ◌⊎◌, inl, inr, ℕ, zero, suc, ◌+◌, ◌<◌, ◌==◌, nat_lt, ◌&&◌, ◌||◌, not, Bool, true, false, List, [], ◌∷◌, ◌++◌, length, drop, get_or, set, Option, None, Some, if◌then◌else◌, slice_range, arith, length-append, append_assoc, zero-add}
use Rattle.std.specs.List.{list_any, list_all, fold}
use Rattle.std.proofs.lemmas.List.{ext_get_or, length-set, get_or-set_other, append-nil}
use Rattle.std.proofs.lemmas.List.Folds.{drop_split, list_any-append}
use Rattle.std.proofs.Math.Seq.{drop-append_seam, drop-length}
use Rattle.std.proofs.Math.Bool.{or-false, or-true, and-false}
use Rattle.std.proofs.lemmas.Bool.{lt-ltb, le-ltb}
use Rattle.std.proofs.lemmas.Bool.Decides.{eqb_tells, leb_tells}
use Rattle.rl_defs.specs.declared.values.Value.{Value}
use Rattle.rl_defs.specs.declared.values.Value.TheVariants as value
use Rattle.rl_defs.specs.declared.code.Register.{Register}
use Rattle.rl_defs.specs.declared.code.RegKind.{RegKind}
use Rattle.rl_defs.specs.declared.code.RegKind.TheVariants as kind
use Rattle.rl_defs.specs.declared.tables.Tables.{Tables}
use Rattle.rl_defs.specs.Domains.{Lines}
use Rattle.rl_defs.specs.CodeKinds.{Kinds, is_own}
use Rattle.rl_defs.specs.CodeRules.{owns_nothing}
use Rattle.rl_defs.specs.Registers.{Registers, is_listed}
use Rattle.rl_defs.specs.Registers.{Typing, fits_kind, Fits}
use Rattle.rl_defs.specs.LineRows.{emptied, Leads}
use Rattle.domain_checker.specs.declared.ways.Run.{Run}
use Rattle.domain_checker.specs.Heads.{is_in, all_registers, run_at, keep_in, holds_some, holds_any, is_emptied, Puts, Grows}
use Rattle.domain_checker.proofs.Passing.{length-keep_in, through_run}
use Rattle.domain_checker.proofs.SetLaws.{in_all}

none_either : (b : Bool) → ◌≡◌ {A = Option Value} None (if b then None else None)
none_either true = refl
none_either false = refl

get_keep : (k s : ℕ) (regs : Registers) (j : ℕ) → get_or (keep_in k s regs) j None ≡ (if is_in s (k + j) then get_or regs j None else None)
get_keep k s [] j = none_either (is_in s (k + j))
get_keep k s (v ∷ regs) zero = ap (λ n. if is_in s n then v else None) (omega arith)
get_keep k s (v ∷ regs) (suc j) =
    let next : k + 1 + j ≡ k + suc j = omega arith in
    get_keep (k + 1) s regs j ∙ ap (λ n. if is_in s n then get_or regs j None else None) next

get_emptied_one : (regs : Registers) (r : ℕ) → get_or (set regs r None) r None ≡ None
get_emptied_one [] r = refl
get_emptied_one (v ∷ regs) zero = refl
get_emptied_one (v ∷ regs) (suc r) = get_emptied_one regs r

get_set_case : (regs : Registers) (r j : ℕ) → (((r == j) ≡ true) × (r ≡ j)) ⊎ (((r == j) ≡ false) × (r ≢ j)) → get_or (set regs r None) j None ≡ (if r == j then None else get_or regs j None)
get_set_case regs r j (inl same) = ap (λ n. get_or (set regs n None) j None) same.1 ∙ (get_emptied_one regs j ∙ ap (λ b. if b then None else get_or regs j None) (sym same.0))
get_set_case regs r j (inr other) = get_or-set_other regs r j None None (λ e. other.1 (sym e)) ∙ ap (λ b. if b then None else get_or regs j None) (sym other.0)

either_first : (a b : Bool) (v : Option Value) → (if b then None else (if a then None else v)) ≡ (if a || b then None else v)
either_first true b v = sym (none_either b)
either_first false b v = refl

get_emptied : (rs : List Register) (regs : Registers) (j : ℕ) → get_or (emptied rs regs) j None ≡ (if is_listed j rs then None else get_or regs j None)
get_emptied [] regs j = refl
get_emptied (r ∷ rs) regs j =
    get_emptied rs (set regs r.number None) j
    ∙ (ap (λ v. if is_listed j rs then None else v) (get_set_case regs r.number j (eqb_tells r.number j))
    ∙ either_first (r.number == j) (is_listed j rs) (get_or regs j None))

length-emptied : (rs : List Register) (regs : Registers) → length (emptied rs regs) ≡ length regs
length-emptied [] regs = refl
length-emptied (r ∷ rs) regs = length-emptied rs (set regs r.number None) ∙ length-set regs r.number None

-- what a register that fits its kind holds, where it is emptied if it isn't in a set and its kind isn't empty
one_register : (types : Typing) (k : RegKind) (inside : Bool) (v : Option Value) → fits_kind types k v ≡ true → (if inside then v else None) ≡ (if holds_some k && not inside then None else v)
one_register types kind.Empty true v fits = refl
one_register types kind.Num true v fits = refl
one_register types (kind.Own s) true v fits = refl
one_register types (kind.Lent s) true v fits = refl
one_register types (kind.Cap t) true v fits = refl
one_register types kind.Num false v fits = refl
one_register types (kind.Own s) false v fits = refl
one_register types (kind.Lent s) false v fits = refl
one_register types (kind.Cap t) false v fits = refl
one_register types kind.Empty false None fits = refl
one_register types kind.Empty false (Some (value.Num n)) fits = absurd cc
one_register types kind.Empty false (Some (value.Obj o)) fits = absurd cc
one_register types kind.Empty false (Some (value.Cap x)) fits = absurd cc

below_is : (r n : ℕ) → r < n → nat_lt r n ≡ true
below_is r n lt = lt-ltb r n lt

-- the registers of a put are emptied
pub emptied_is : (types : Typing) (kinds : Kinds) (s : ℕ) (regs : Registers) (added : List Register)
    → Fits types kinds regs
    → ((r : ℕ) → is_listed r added ≡ (nat_lt r 32 && is_emptied s (get_or kinds r kind.Empty) r))
    → keep_in 0 s regs ≡ emptied added regs
emptied_is types kinds s regs added fits are =
    ext_get_or None (keep_in 0 s regs) (emptied added regs) (length-keep_in 0 s regs ∙ sym (length-emptied added regs))
    (λ j lt.
    let short : j < 32 = omega (arith, length-keep_in 0 s regs, fits.all) in
    get_keep 0 s regs j
    ∙ (ap (λ n. if is_in s n then get_or regs j None else None) (zero-add j)
    ∙ (one_register types (get_or kinds j kind.Empty) (is_in s j) (get_or regs j None) (fits.each j)
    ∙ (ap (λ b. if b && is_emptied s (get_or kinds j kind.Empty) j then None else get_or regs j None) (sym (below_is j 32 short))
    ∙ (ap (λ b. if b then None else get_or regs j None) (sym (are j))
    ∙ sym (get_emptied added regs j))))))

part_added : (old added : List Register) → slice_range (old ++ added) (length old) (length (old ++ added)) ≡ added
part_added old added =
    sym (append-nil _)
    ∙ (ap (λ xs. slice_range (old ++ added) (length old) (length (old ++ added)) ++ xs) (sym (drop-length (old ++ added)))
    ∙ (sym (drop_split (old ++ added) (length old) (length (old ++ added)) (omega (arith, length-append old added)))
    ∙ drop-append_seam old added))

part_behind : (old new added : List Register) (from to : ℕ) → new ≡ old ++ added → from ≡ length old → to ≡ length new → slice_range new from to ≡ added
part_behind old new added from to is from_is to_is =
    ap (λ n. slice_range new n to) from_is
    ∙ (ap (λ n. slice_range new (length old) n) to_is
    ∙ (ap (λ xs. slice_range xs (length old) (length xs)) is ∙ part_added old added))

-- the registers that are put last in a pool are those that are emptied on the way
pub leads_there : (lines : Lines) (tables : Tables) (kinds : Kinds) (place : ℕ) (run : Run) (old new : List Register) (from to : ℕ)
    → run ≡ run_at (drop place lines) place
    → Puts kinds run.listed 32 old new
    → from ≡ length old
    → to ≡ length new
    → Leads (record { lines = lines; tables = tables }) kinds place run.line (slice_range new from to)
leads_there lines tables kinds place run old new from to run_is puts from_is to_is types regs fits =
    through_run (drop place lines) place regs fits.all
    ∙ (ap (λ r. record { at = r.line; regs = keep_in 0 r.listed regs }) (sym run_is)
    ∙ (ap (λ rs. record { at = run.line; regs = rs }) (emptied_is types kinds run.listed regs puts.added fits puts.are)
    ∙ ap (λ rs. record { at = run.line; regs = emptied rs regs }) (sym (part_behind old new puts.added from to puts.behind from_is to_is))))

pub puts_nothing : (kinds : Kinds) (s : ℕ) (old : List Register) → Puts kinds s 0 old old
puts_nothing kinds s old = record { added = []; behind = sym (append-nil old); few = omega arith; are = λ r. ap (λ b. b && is_emptied s (get_or kinds r kind.Empty) r) (sym (le-ltb r 0 (omega arith))) }

none_of : (k : RegKind) (s r : ℕ) → s ≡ all_registers → ((nat_lt r 32 ≡ true) × (r < 32)) ⊎ ((nat_lt r 32 ≡ false) × (32 < suc r)) → false ≡ (nat_lt r 32 && is_emptied s k r)
none_of k s r all (inl below) =
    let inside : is_in s r ≡ true = ap (λ n. is_in n r) all ∙ in_all r below.1 in
    sym (ap (λ b. nat_lt r 32 && (holds_some k && not b)) inside ∙ (ap (λ b. nat_lt r 32 && b) (and-false (holds_some k)) ∙ and-false (nat_lt r 32)))
none_of k s r all (inr above) = sym (ap (λ b. b && is_emptied s k r) above.0)

-- nothing is put where the set has all registers
pub puts_none : (kinds : Kinds) (s : ℕ) (old : List Register) → s ≡ all_registers → Puts kinds s 32 old old
puts_none kinds s old all = record { added = []; behind = sym (append-nil old); few = omega arith; are = λ r. none_of (get_or kinds r kind.Empty) s r all (leb_tells (suc r) 32) }

lt_case : (r n : ℕ) → n ≢ r → ((nat_lt r n ≡ true) × (r < n)) ⊎ ((nat_lt r n ≡ false) × (n < suc r)) → nat_lt r (n + 1) ≡ nat_lt r n
lt_case r n ne (inl below) = lt-ltb r (n + 1) (omega (arith, below.1)) ∙ sym below.0
lt_case r n ne (inr above) = le-ltb r (n + 1) (omega (arith, above.1)) ∙ sym above.0

-- a register of another number is below the next bound where it is below this one
lt_other : (r n : ℕ) → n ≢ r → nat_lt r (n + 1) ≡ nat_lt r n
lt_other r n ne = lt_case r n ne (leb_tells (suc r) n)

more_case : (r n number : ℕ) (before test : Bool) → number ≡ n → (n ≡ r → test ≡ true) → before ≡ (nat_lt r n && test) → (((n == r) ≡ true) × (n ≡ r)) ⊎ (((n == r) ≡ false) × (n ≢ r)) → (before || ((number == r) || false)) ≡ (nat_lt r (n + 1) && test)
more_case r n number before test is holds was (inl same) =
    ap (λ b. before || (b || false)) (ap (λ m. m == r) is ∙ same.0)
    ∙ (or-true before
    ∙ (ap (λ b. true && b) (sym (holds same.1)) ∙ ap (λ b. b && test) (sym (lt-ltb r (n + 1) (omega (arith, same.1))))))
more_case r n number before test is holds was (inr other) =
    ap (λ b. before || (b || false)) (ap (λ m. m == r) is ∙ other.0)
    ∙ (or-false before ∙ (was ∙ ap (λ b. b && test) (sym (lt_other r n other.1))))

same_case : (r n : ℕ) (before test : Bool) → (n ≡ r → test ≡ false) → before ≡ (nat_lt r n && test) → (((n == r) ≡ true) × (n ≡ r)) ⊎ (((n == r) ≡ false) × (n ≢ r)) → before ≡ (nat_lt r (n + 1) && test)
same_case r n before test holds was (inl same) =
    was
    ∙ (ap (λ b. nat_lt r n && b) (holds same.1)
    ∙ (and-false (nat_lt r n)
    ∙ (sym (and-false (nat_lt r (n + 1))) ∙ ap (λ b. nat_lt r (n + 1) && b) (sym (holds same.1)))))
same_case r n before test holds was (inr other) = was ∙ ap (λ b. b && test) (sym (lt_other r n other.1))

pub puts_more : (kinds : Kinds) (s n : ℕ) (old new next : List Register) (r : Register) → Puts kinds s n old new → r.number ≡ n → is_emptied s (get_or kinds n kind.Empty) n ≡ true → next ≡ new ++ r ∷ [] → Puts kinds s (n + 1) old next
puts_more kinds s n old new next r puts number emptied next_is = record {
  added = puts.added ++ r ∷ [];
  behind = next_is ∙ (ap (λ xs. xs ++ r ∷ []) puts.behind ∙ append_assoc old puts.added (r ∷ []));
  few = omega (arith, puts.few, length-append puts.added (r ∷ []));
  are = λ q. list_any-append (λ x. x.number == q) puts.added (r ∷ []) ∙ more_case q n r.number (is_listed q puts.added) (is_emptied s (get_or kinds q kind.Empty) q) number (λ e. ap (λ m. is_emptied s (get_or kinds m kind.Empty) m) (sym e) ∙ emptied) (puts.are q) (eqb_tells n q);
}

pub puts_same : (kinds : Kinds) (s n : ℕ) (old new : List Register) → Puts kinds s n old new → is_emptied s (get_or kinds n kind.Empty) n ≡ false → Puts kinds s (n + 1) old new
puts_same kinds s n old new puts kept = record {
  added = puts.added;
  behind = puts.behind;
  few = omega (arith, puts.few);
  are = λ q. same_case q n (is_listed q puts.added) (is_emptied s (get_or kinds q kind.Empty) q) (λ e. ap (λ m. is_emptied s (get_or kinds m kind.Empty) m) (sym e) ∙ kept) (puts.are q) (eqb_tells n q);
}

pub puts_grows : (kinds : Kinds) (s n : ℕ) (old new : List Register) → Puts kinds s n old new → Grows n old new
puts_grows kinds s n old new puts = record { added = puts.added; behind = puts.behind; few = puts.few }

-- no register holds anything
none_hold : (kinds : Kinds) (r : ℕ) → list_any holds_some kinds ≡ false → holds_some (get_or kinds r kind.Empty) ≡ false
none_hold [] r e = refl
none_hold (k ∷ kinds) zero e = first (holds_some k) (list_any holds_some kinds) e where
  first : (a b : Bool) → (a || b) ≡ false → a ≡ false
  first true b h = absurd cc
  first false b h = refl
none_hold (k ∷ kinds) (suc r) e = none_hold kinds r (rest (holds_some k) (list_any holds_some kinds) e) where
  rest : (a b : Bool) → (a || b) ≡ false → b ≡ false
  rest true b h = absurd cc
  rest false b h = h

or_all : (a b c : Bool) → ((a || b) || c) ≡ (a || (b || c))
or_all true b c = refl
or_all false b c = refl

or_none : (a : Bool) → a ≡ (a || false)
or_none true = refl
or_none false = refl

-- a test of each, put together
fold_any : {A : Type 0} (p : A → Bool) (found : Bool) (xs : List A) → fold (λ f x. f || p x) found xs ≡ (found || list_any p xs)
fold_any p found [] = or_none found
fold_any p found (x ∷ xs) = fold_any p (found || p x) xs ∙ or_all found (p x) (list_any p xs)

pub puts_empty : (kinds : Kinds) (s : ℕ) (old : List Register) → holds_any kinds ≡ false → Puts kinds s 32 old old
puts_empty kinds s old e = record {
  added = [];
  behind = sym (append-nil old);
  few = omega arith;
  are = λ r. none_at (nat_lt r 32) (not (is_in s r)) (holds_some (get_or kinds r kind.Empty)) (none_hold kinds r (sym (fold_any holds_some false kinds) ∙ e));
} where
  none_at : (a b c : Bool) → c ≡ false → false ≡ (a && (c && b))
  none_at true b c h = rw h refl
  none_at false b c h = refl

none_each : (kinds : Kinds) → not (list_any is_own kinds) ≡ list_all (λ k. not (is_own k)) kinds
none_each [] = refl
none_each (k ∷ kinds) = both (is_own k) (list_any is_own kinds) (list_all (λ x. not (is_own x)) kinds) (none_each kinds) where
  both : (a b c : Bool) → not b ≡ c → not (a || b) ≡ (not a && c)
  both true b c e = refl
  both false b c e = e

-- no register holds an own object
pub none_owned : (kinds : Kinds) → not (fold (λ found k. found || is_own k) false kinds) ≡ owns_nothing kinds
none_owned kinds = ap not (fold_any is_own false kinds) ∙ none_each kinds
