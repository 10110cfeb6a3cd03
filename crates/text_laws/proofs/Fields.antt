-- Owners, arguments, values and calls are read back from their texts.
use Rattle.std.proofs.Common.{◌≡◌, ℕ, ◌+◌, ◌%◌, ◌<◌, ◌≤◌, List, [], ◌∷◌, ◌++◌, All, true, sym, ap, subst, arith}
use Rattle.std.specs.Fmt.{decimal}
use Rattle.std.proofs.lemmas.Fmt.{decimal_by_steps}
use Rattle.std.proofs.lemmas.List.Elements.{recursion_from_All}
use Rattle.rl_defs.specs.declared.load.LoadRows.{LoadRows}
use Rattle.rl_defs.specs.declared.values.Value.{Value}
use Rattle.rl_defs.specs.declared.values.Value.TheVariants as value
use Rattle.machine_defs.specs.declared.values.Arg.{Arg}
use Rattle.machine_defs.specs.declared.values.Arg.TheVariants as arg
use Rattle.machine_defs.specs.declared.values.Owner.{Owner}
use Rattle.machine_defs.specs.declared.values.Owner.TheVariants as owner
use Rattle.rl_defs.specs.Valid.{Valid}
use Rattle.machine_defs.specs.Texts.{owner_text, arg_text, args_text, value_text, called_text}
use Rattle.machine_defs.specs.EntryTexts.{HasWords, Fits64, IsTarget, IsMethod}
use Rattle.text_laws.proofs.Told.{IsOwner, IsArg, IsValue}
use Rattle.text_laws.proofs.Tokens.{plain, ReadsBack, read, read_list, listed_stops}
use Rattle.text_laws.proofs.Spelled.{number, object, lent, client, instance}
use Rattle.text_laws.proofs.Named.{interface, method}

-- ---- first bytes

abbrev DigitFirst : List ℕ → Type 0
DigitFirst [] = ⊥
DigitFirst (d ∷ ds) = (48 ≤ d) × (d ≤ 57)

digit_first : (n : ℕ) → Fits64 n → DigitFirst (decimal n)
digit_first n fits = decimal_by_steps (λ m ds. DigitFirst ds) (λ m less. (omega arith, omega arith)) more n fits where
  more : (m : ℕ) (ds : List ℕ) → 10 ≤ m → DigitFirst ds → DigitFirst (ds ++ ((48 + m % 10) ∷ []))
  more m [] big h = absurd h
  more m (d ∷ ds) big h = h

no_digit : {A : Type 0} (n b : ℕ) (bytes : List ℕ) → Fits64 n → 57 < b → decimal n ≡ b ∷ bytes → A
no_digit n b bytes fits over e = let h : DigitFirst (b ∷ bytes) = subst DigitFirst e (digit_first n fits) in absurd (omega (arith, h.1))

low_digit : {A : Type 0} (n b : ℕ) (bytes : List ℕ) → Fits64 n → b < 48 → decimal n ≡ b ∷ bytes → A
low_digit n b bytes fits under e = let h : DigitFirst (b ∷ bytes) = subst DigitFirst e (digit_first n fits) in absurd (omega (arith, h.0))

pub unlike : {A : Type 0} (a b : ℕ) (r q : List ℕ) → a < b → a ∷ r ≡ b ∷ q → A
unlike a b r q less e = let same : a ≡ b = cc in absurd (omega arith)

-- ---- owners

owner_plain : (w : Owner) → IsOwner w → plain (owner_text w) ≡ true
owner_plain (owner.Client t) good = client.plain_text t good
owner_plain (owner.Instance i) good = instance.plain_text i good

owners_apart : (w v : Owner) → IsOwner w → IsOwner v → owner_text w ≡ owner_text v → w ≡ v
owners_apart (owner.Client t) (owner.Client u) good fine e = ap owner.Client (client.apart t u good fine e)
owners_apart (owner.Client t) (owner.Instance j) good fine e = unlike 99 105 (decimal t) (decimal j) (omega arith) e
owners_apart (owner.Instance i) (owner.Client u) good fine e = unlike 99 105 (decimal u) (decimal i) (omega arith) (sym e)
owners_apart (owner.Instance i) (owner.Instance j) good fine e = ap owner.Instance (instance.apart i j good fine e)

pub owned_by : ReadsBack IsOwner owner_text
owned_by = record { plain_text = owner_plain; apart = owners_apart }

module _ (L : LoadRows) (valid : Valid L) (words : HasWords L) where
  -- ---- arguments

  arg_plain : (a : Arg) → IsArg L a → plain (arg_text L a) ≡ true
  arg_plain (arg.Num n) good = number.plain_text n good
  arg_plain (arg.Moved o) good = object.plain_text o good
  arg_plain (arg.Lent o) good = lent.plain_text o good
  arg_plain (arg.Cap x) good = (interface L valid words).plain_text x good

  args_apart : (a b : Arg) → IsArg L a → IsArg L b → arg_text L a ≡ arg_text L b → a ≡ b
  args_apart (arg.Num m) (arg.Num n) good fine e = ap arg.Num (number.apart m n good fine e)
  args_apart (arg.Moved o) (arg.Moved p) good fine e = ap arg.Moved (object.apart o p good fine e)
  args_apart (arg.Lent o) (arg.Lent p) good fine e = ap arg.Lent (lent.apart o p good fine e)
  args_apart (arg.Cap x) (arg.Cap y) good fine e = ap arg.Cap ((interface L valid words).apart x y good fine e)
  args_apart (arg.Num m) (arg.Moved p) good fine e = no_digit m 111 _ good (omega arith) e
  args_apart (arg.Num m) (arg.Lent p) good fine e = low_digit m 38 _ good (omega arith) e
  args_apart (arg.Num m) (arg.Cap y) good fine e = no_digit m 64 _ good (omega arith) e
  args_apart (arg.Moved o) (arg.Num n) good fine e = no_digit n 111 _ fine (omega arith) (sym e)
  args_apart (arg.Lent o) (arg.Num n) good fine e = low_digit n 38 _ fine (omega arith) (sym e)
  args_apart (arg.Cap x) (arg.Num n) good fine e = no_digit n 64 _ fine (omega arith) (sym e)
  args_apart (arg.Moved o) (arg.Lent p) good fine e = unlike 38 111 _ _ (omega arith) (sym e)
  args_apart (arg.Moved o) (arg.Cap y) good fine e = unlike 64 111 _ _ (omega arith) (sym e)
  args_apart (arg.Lent o) (arg.Moved p) good fine e = unlike 38 111 _ _ (omega arith) e
  args_apart (arg.Lent o) (arg.Cap y) good fine e = unlike 38 64 _ _ (omega arith) e
  args_apart (arg.Cap x) (arg.Moved p) good fine e = unlike 64 111 _ _ (omega arith) e
  args_apart (arg.Cap x) (arg.Lent p) good fine e = unlike 38 64 _ _ (omega arith) (sym e)

  pub argument : ReadsBack (IsArg L) (arg_text L)
  argument = record { plain_text = arg_plain; apart = args_apart }

  -- ---- values

  value_plain : (v : Value) → IsValue L v → plain (value_text L v) ≡ true
  value_plain (value.Num n) good = number.plain_text n good
  value_plain (value.Obj o) good = object.plain_text o good
  value_plain (value.Cap x) good = (interface L valid words).plain_text x good

  values_apart : (v w : Value) → IsValue L v → IsValue L w → value_text L v ≡ value_text L w → v ≡ w
  values_apart (value.Num m) (value.Num n) good fine e = ap value.Num (number.apart m n good fine e)
  values_apart (value.Obj o) (value.Obj p) good fine e = ap value.Obj (object.apart o p good fine e)
  values_apart (value.Cap x) (value.Cap y) good fine e = ap value.Cap ((interface L valid words).apart x y good fine e)
  values_apart (value.Num m) (value.Obj p) good fine e = no_digit m 111 _ good (omega arith) e
  values_apart (value.Num m) (value.Cap y) good fine e = no_digit m 64 _ good (omega arith) e
  values_apart (value.Obj o) (value.Num n) good fine e = no_digit n 111 _ fine (omega arith) (sym e)
  values_apart (value.Cap x) (value.Num n) good fine e = no_digit n 64 _ fine (omega arith) (sym e)
  values_apart (value.Obj o) (value.Cap y) good fine e = unlike 64 111 _ _ (omega arith) (sym e)
  values_apart (value.Cap x) (value.Obj p) good fine e = unlike 64 111 _ _ (omega arith) e

  pub listed_value : ReadsBack (IsValue L) (value_text L)
  listed_value = record { plain_text = value_plain; apart = values_apart }

  -- ---- calls

  -- a method of a target and the arguments
  pub read_called : (x y m n : ℕ) (args more : List Arg) → x ≡ y → IsTarget L x → IsMethod L x m → IsMethod L y n → All (IsArg L) args → All (IsArg L) more → called_text L x m args ≡ called_text L y n more → (m ≡ n) × (args ≡ more)
  read_called x y m n args more same is has also good fine = subst (λ (z : ℕ). IsMethod L z n → called_text L x m args ≡ called_text L z n more → (m ≡ n) × (args ≡ more)) same at_one also where
    at_one : IsMethod L x n → called_text L x m args ≡ called_text L x n more → (m ≡ n) × (args ≡ more)
    at_one too e =
        let named = read (method L valid words x is) m n (args_text L args) (args_text L more) has too (listed_stops (arg_text L) args) (listed_stops (arg_text L) more) e in
        (named.0, read_list argument args more (recursion_from_All (IsArg L) args good) (recursion_from_All (IsArg L) more fine) named.1)
