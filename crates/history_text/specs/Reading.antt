-- What the words of a line are read as.
use Rattle.std.specs.Prelude.{ℕ, ◌+◌, ◌^◌, ◌==◌, ◌&&◌, nat_lt, nat_le, Bool, true, false, List, [], ◌∷◌, length, find, Option, Some, None, codes, if◌then◌else◌}
use Rattle.std.specs.List.{slice_split, before_first, after_first, position_or_len}
use Rattle.std.specs.Fmt.{decimal}
use Rattle.std.specs.Str.Parse.{digits_value}
use Rattle.rl_defs.specs.declared.load.LoadRows.{LoadRows}
use Rattle.rl_defs.specs.declared.tables.TraitRow.{TraitRow}
use Rattle.rl_defs.specs.declared.tables.MethodRow.{MethodRow}
use Rattle.rl_defs.specs.declared.values.Value.{Value}
use Rattle.rl_defs.specs.declared.values.Value.TheVariants as value
use Rattle.machine_defs.specs.declared.values.Arg.{Arg}
use Rattle.machine_defs.specs.declared.values.Arg.TheVariants as arg
use Rattle.machine_defs.specs.declared.values.Owner.{Owner}
use Rattle.machine_defs.specs.declared.values.Owner.TheVariants as owner
use Rattle.machine_defs.specs.declared.values.RpcCode.{RpcCode}
use Rattle.machine_defs.specs.declared.values.RpcCode.TheVariants as code
use Rattle.machine_defs.specs.declared.values.Cause.{Cause}
use Rattle.machine_defs.specs.declared.values.Cause.TheVariants as cause
use Rattle.rl_defs.specs.Words.{same_bytes, is_name}
use Rattle.rl_defs.specs.Domains.{load_of_target}
use Rattle.machine_defs.specs.Texts.{code_text, cause_text}
use Rattle.history_text.specs.Spelled.{trait_of}

infixl 10 ◌>>=◌
abbrev pub ◌>>=◌ : {A B : Type 0} → Option A → (A → Option B) → Option B
None >>= f = None
(Some x) >>= f = f x

-- ---- words

abbrev pub is_blank : ℕ → Bool
is_blank b = b == 32

-- what stands between the blanks of a text
abbrev pub words_of : List ℕ → List (List ℕ)
words_of text = slice_split is_blank text

-- those of a text that may be used up
abbrev pub words_left : Option (List ℕ) → List (List ℕ)
words_left None = []
words_left (Some text) = words_of text

-- the first word, empty where there is none, and the others
abbrev pub first : List (List ℕ) → List ℕ
first [] = []
first (w ∷ ws) = w

abbrev pub rest : List (List ℕ) → List (List ℕ)
rest [] = []
rest (w ∷ ws) = ws

-- this, where no word is left
abbrev pub ended : {A : Type 0} → List (List ℕ) → A → Option A
ended [] a = Some a
ended (w ∷ ws) a = None

-- ---- numbers

-- the number below a bound whose text this is
unfoldable pub number_in : ℕ → List ℕ → Option ℕ
number_in bound w = if same_bytes (decimal (digits_value 10 w)) w && nat_lt (digits_value 10 w) bound then Some (digits_value 10 w) else None

abbrev pub number_of_64 : List ℕ → Option ℕ
number_of_64 w = number_in (2 ^ 64) w

abbrev pub number_of_32 : List ℕ → Option ℕ
number_of_32 w = number_in (2 ^ 32) w

-- what follows this byte
abbrev pub behind : ℕ → List ℕ → Option (List ℕ)
behind c [] = None
behind c (b ∷ bs) = if b == c then Some bs else None

unfoldable pub object_in : List ℕ → Option ℕ
object_in w = behind 111 w >>= number_of_64

unfoldable pub instance_in : List ℕ → Option ℕ
instance_in w = behind 105 w >>= number_of_32

unfoldable pub client_in : List ℕ → Option ℕ
client_in w = behind 99 w >>= number_of_32

abbrev pub owner_by : ℕ → List ℕ → Option Owner
owner_by b bs = if b == 99 then (number_of_32 bs >>= λ t. Some (owner.Client t)) else (if b == 105 then (number_of_32 bs >>= λ i. Some (owner.Instance i)) else None)

unfoldable pub owner_in : List ℕ → Option Owner
owner_in [] = None
owner_in (b ∷ bs) = owner_by b bs

-- ---- names

-- a number of 32 bits
abbrev pub narrow : ℕ → Option ℕ
narrow n = if nat_lt n (2 ^ 32) then Some n else None

-- the place of the first row with this name, or the count of rows
abbrev pub place_of : {A : Type 0} → (A → List ℕ) → List A → List ℕ → ℕ
place_of name rows w = position_or_len (λ r. same_bytes (name r) w) rows

abbrev pub place_in : {A : Type 0} → (A → List ℕ) → List A → List ℕ → Option ℕ
place_in name rows w = if nat_lt (place_of name rows w) (length rows) then Some (place_of name rows w) else None

-- the number of the target with this name: of a load, or else of a shadow
abbrev pub shadow_place : LoadRows → List ℕ → Option ℕ → Option ℕ
shadow_place L w (Some k) = Some (k + 1)
shadow_place L w None = place_in (λ x. x.name) L.shadows w >>= λ k. Some (length L.loads + k + 1)

abbrev pub target_place : LoadRows → List ℕ → Option ℕ
target_place L w = shadow_place L w (place_in (λ l. l.name) L.loads w)

unfoldable pub target_in : LoadRows → List ℕ → Option ℕ
target_in L w = target_place L w >>= narrow

abbrev pub methods_of : Option TraitRow → List MethodRow
methods_of None = []
methods_of (Some t) = t.methods

unfoldable pub method_in : LoadRows → ℕ → List ℕ → Option ℕ
method_in L x w = place_in (λ m. m.name) (methods_of (trait_of L (load_of_target L x))) w >>= narrow

unfoldable pub struct_in : LoadRows → List ℕ → Option ℕ
struct_in L w = place_in (λ s. s.name) L.tables.structs w >>= narrow

unfoldable pub slot_in : List ℕ → Option (List ℕ)
slot_in w = if is_name w then Some w else None

-- a target, and behind a `/` an instance
abbrev pub is_slash : ℕ → Bool
is_slash b = b == 47

unfoldable pub entered_in : LoadRows → List ℕ → Option (ℕ × ℕ)
entered_in L w = do
  x ← target_in L (before_first is_slash w)
  i ← instance_in (after_first is_slash w)
  Some (x, i)

abbrev pub all_codes : List RpcCode
all_codes = code.Gone ∷ code.Unwound ∷ code.Deep ∷ code.Order ∷ []

unfoldable pub code_in : List ℕ → Option RpcCode
code_in w = find (λ k. same_bytes (code_text k) w) all_codes

abbrev pub all_causes : List Cause
all_causes = cause.Divide ∷ cause.Bounds ∷ cause.Range ∷ cause.Empty ∷ cause.Full ∷ cause.Device ∷ cause.HeapFull ∷ cause.Fuel ∷ cause.Asked ∷ cause.Io ∷ []

unfoldable pub cause_in : List ℕ → Option Cause
cause_in w = find (λ k. same_bytes (cause_text k) w) all_causes

-- ---- what is listed

abbrev pub arg_by : LoadRows → ℕ → List ℕ → Option Arg
arg_by L b bs =
    if b == 111 then (number_of_64 bs >>= λ o. Some (arg.Moved o))
    else (if b == 38 then (object_in bs >>= λ o. Some (arg.Lent o))
    else (if b == 64 then (target_in L bs >>= λ x. Some (arg.Cap x))
    else (number_of_64 (b ∷ bs) >>= λ n. Some (arg.Num n))))

unfoldable pub arg_in : LoadRows → List ℕ → Option Arg
arg_in L [] = None
arg_in L (b ∷ bs) = arg_by L b bs

abbrev pub value_by : LoadRows → ℕ → List ℕ → Option Value
value_by L b bs =
    if b == 111 then (number_of_64 bs >>= λ o. Some (value.Obj o))
    else (if b == 64 then (target_in L bs >>= λ x. Some (value.Cap x))
    else (number_of_64 (b ∷ bs) >>= λ n. Some (value.Num n)))

unfoldable pub value_in : LoadRows → List ℕ → Option Value
value_in L [] = None
value_in L (b ∷ bs) = value_by L b bs

-- each of the words
abbrev pub all_in : {A : Type 0} → (List ℕ → Option A) → List (List ℕ) → Option (List A)
all_in read [] = Some []
all_in read (w ∷ ws) = do
  a ← read w
  all ← all_in read ws
  Some (a ∷ all)

-- at most so many
abbrev pub few : {A : Type 0} → ℕ → Option (List A) → Option (List A)
few n None = None
few n (Some xs) = if nat_le (length xs) n then Some xs else None
