-- Numbers, objects, clients, instances, errors and causes are read back from their texts.
use Rattle.std.proofs.Common.{◌≡◌, ℕ, ◌+◌, ◌%◌, ◌<◌, ◌≤◌, Bool, true, false, List, [], ◌∷◌, ◌++◌, refl, sym, ap, ◌∙◌, arith}
use Rattle.std.specs.Prelude.{⊤, slice_index_or}
use Rattle.std.specs.Fmt.{decimal}
use Rattle.std.specs.List.{list_all, position_or_len}
use Rattle.std.proofs.lemmas.Bool.Decides.{nat_tests}
use Rattle.std.proofs.lemmas.Fmt.{decimal_by_steps, decimal_injective}
use Rattle.std.proofs.lemmas.List.Folds.{list_all-append}
use Rattle.machine_defs.specs.declared.values.RpcCode.{RpcCode}
use Rattle.machine_defs.specs.declared.values.RpcCode.TheVariants as code
use Rattle.machine_defs.specs.declared.values.Cause.{Cause}
use Rattle.machine_defs.specs.declared.values.Cause.TheVariants as cause
use Rattle.machine_defs.specs.Texts.{object_text, client_text, instance_text, code_text, cause_text}
use Rattle.machine_defs.specs.EntryTexts.{Fits64}
use Rattle.rl_defs.specs.Words.{is_word_byte, same_bytes}
use Rattle.rl_defs.proofs.Lists.{and_right}
use Rattle.text_laws.proofs.Tokens.{is_plain, plain, ReadsBack}

-- ---- numbers

-- a digit
pub digit_byte : (n : ℕ) → n < 10 → is_word_byte (48 + n) ≡ true
digit_byte n less = grind (arith, nat_tests)

pub digits_plain : (n : ℕ) → Fits64 n → list_all is_word_byte (decimal n) ≡ true
digits_plain n fits = decimal_by_steps (λ m ds. list_all is_word_byte ds ≡ true) one more n fits where
  one : (m : ℕ) → m < 10 → list_all is_word_byte ((48 + m) ∷ []) ≡ true
  one m less = rw (digit_byte m less) refl

  more : (m : ℕ) (ds : List ℕ) → 10 ≤ m → list_all is_word_byte ds ≡ true → list_all is_word_byte (ds ++ ((48 + m % 10) ∷ [])) ≡ true
  more m ds big so =
      let last : is_word_byte (48 + m % 10) ≡ true = digit_byte (m % 10) (omega arith) in
      rw (list_all-append is_word_byte ds ((48 + m % 10) ∷ []), so, last) refl

-- bytes of words are plain
plain_more : (b : ℕ) (bs : List ℕ) (t : Bool) → is_word_byte b ≡ t → list_all is_word_byte (b ∷ bs) ≡ true → plain bs ≡ true → plain (b ∷ bs) ≡ true
plain_more b bs true here is more = rw here more
plain_more b bs false here is more = let never : false ≡ true = rw here at is in absurd cc

pub words_plain : (bytes : List ℕ) → list_all is_word_byte bytes ≡ true → plain bytes ≡ true
words_plain [] is = refl
words_plain (b ∷ bs) is = plain_more b bs (is_word_byte b) refl is (words_plain bs (and_right (is_word_byte b) (list_all is_word_byte bs) is))

pub number : ReadsBack Fits64 decimal
number = record { plain_text = λ n fits. words_plain (decimal n) (digits_plain n fits); apart = λ m n first second e. decimal_injective m n first second e }

-- a plain byte in front of each text
pub prefixed : {A : Type 0} {Good : A → Type 0} {text : A → List ℕ} → ReadsBack Good text → (b : ℕ) → is_plain b ≡ true → ReadsBack Good (λ a. b ∷ text a)
prefixed {A} {Good} {text} known b is = record {
  plain_text = λ a good. rw (is, known.plain_text a good) refl;
  apart = λ a c good fine e. known.apart a c good fine (let same : b ∷ text a ≡ b ∷ text c = e in cc);
}

pub object : ReadsBack Fits64 object_text
object = prefixed number 111 refl

pub lent : ReadsBack Fits64 (λ o. 38 ∷ object_text o)
lent = prefixed object 38 refl

pub client : ReadsBack Fits64 client_text
client = prefixed number 99 refl

pub instance : ReadsBack Fits64 instance_text
instance = prefixed number 105 refl

-- ---- errors and causes

-- things that are found again from their texts
found_again : {A : Type 0} (text : A → List ℕ) (back : List ℕ → A) → ((a : A) → plain (text a) ≡ true) → ((a : A) → back (text a) ≡ a) → ReadsBack (λ a. ⊤) text
found_again text back is again = record { plain_text = λ a good. is a; apart = λ a b good fine e. sym (again a) ∙ ap back e ∙ again b }

-- the first of these things that has this text
abbrev pub first_with : {A : Type 0} → (A → List ℕ) → List A → A → List ℕ → A
first_with text things other bytes = slice_index_or things (position_or_len (λ a. same_bytes (text a) bytes) things) other

abbrev code_back : List ℕ → RpcCode
code_back = first_with code_text (code.Gone ∷ code.Unwound ∷ code.Deep ∷ code.Order ∷ []) code.Gone

code_plain : (k : RpcCode) → plain (code_text k) ≡ true
code_plain code.Gone = refl
code_plain code.Unwound = refl
code_plain code.Deep = refl
code_plain code.Order = refl

code_again : (k : RpcCode) → code_back (code_text k) ≡ k
code_again code.Gone = refl
code_again code.Unwound = refl
code_again code.Deep = refl
code_again code.Order = refl

pub error : ReadsBack (λ k. ⊤) code_text
error = found_again code_text code_back code_plain code_again

abbrev cause_back : List ℕ → Cause
cause_back = first_with cause_text (cause.Divide ∷ cause.Bounds ∷ cause.Range ∷ cause.Empty ∷ cause.Full ∷ cause.Device ∷ cause.HeapFull ∷ cause.Fuel ∷ cause.Asked ∷ cause.Io ∷ []) cause.Io

cause_plain : (k : Cause) → plain (cause_text k) ≡ true
cause_plain cause.Divide = refl
cause_plain cause.Bounds = refl
cause_plain cause.Range = refl
cause_plain cause.Empty = refl
cause_plain cause.Full = refl
cause_plain cause.Device = refl
cause_plain cause.HeapFull = refl
cause_plain cause.Fuel = refl
cause_plain cause.Asked = refl
cause_plain cause.Io = refl

cause_again : (k : Cause) → cause_back (cause_text k) ≡ k
cause_again cause.Divide = refl
cause_again cause.Bounds = refl
cause_again cause.Range = refl
cause_again cause.Empty = refl
cause_again cause.Full = refl
cause_again cause.Device = refl
cause_again cause.HeapFull = refl
cause_again cause.Fuel = refl
cause_again cause.Asked = refl
cause_again cause.Io = refl

pub ended_by : ReadsBack (λ k. ⊤) cause_text
ended_by = found_again cause_text cause_back cause_plain cause_again
