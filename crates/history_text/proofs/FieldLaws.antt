-- Numbers, owners, errors, causes and slots are read back from their texts.
use Rattle.std.proofs.Common.{◌≡◌, ℕ, ◌+◌, ◌%◌, ◌^◌, ◌<◌, ◌≤◌, Bool, true, false, ◌&&◌, List, [], ◌∷◌, ◌++◌, Option, Some, None, refl, sym, ap, ◌∙◌, subst, arith, eqb, ltb, cond}
use Rattle.std.specs.Prelude.{⊤, IsTrue, find, if◌then◌else◌}
use Rattle.std.specs.Fmt.{decimal}
use Rattle.std.specs.Str.Parse.{digits_value}
use Rattle.std.proofs.lemmas.Bool.{eqb-true, eq-eqb, ne_eqb, ltb-true, lt-ltb, and_parts}
use Rattle.std.proofs.lemmas.Option.{cond_some}
use Rattle.std.proofs.lemmas.Slice.Eq.{bytes_eq-Decides}
use Rattle.std.proofs.lemmas.Fmt.{digits_value-decimal, decimal_by_steps}
use Rattle.rl_defs.specs.Words.{same_bytes, is_name}
use Rattle.machine_defs.specs.declared.values.Owner.{Owner}
use Rattle.machine_defs.specs.declared.values.Owner.TheVariants as owner
use Rattle.machine_defs.specs.declared.values.RpcCode.{RpcCode}
use Rattle.machine_defs.specs.declared.values.RpcCode.TheVariants as code
use Rattle.machine_defs.specs.declared.values.Cause.{Cause}
use Rattle.machine_defs.specs.declared.values.Cause.TheVariants as cause
use Rattle.machine_defs.specs.Texts.{object_text, instance_text, client_text, owner_text, code_text, cause_text}
use Rattle.machine_defs.specs.EntryTexts.{Fits64}
use Rattle.history_text.specs.declared.verb.Verb.{Verb}
use Rattle.history_text.specs.declared.verb.Verb.TheVariants as verb
use Rattle.history_text.specs.Held.{Fits32, OwnerIsHeld}
use Rattle.history_text.specs.Verbs.{verb_text, all_verbs, verb_in}
use Rattle.history_text.specs.Reading.{◌>>=◌, number_in, number_of_64, number_of_32, behind, object_in, instance_in, client_in, owner_in, owner_by, slot_in, all_codes, code_in, all_causes, cause_in}
use Rattle.history_text.proofs.Numerals.{own}

-- What is read of a word has it as its text, and each text is read as what it is of.
pub record Reads {A : Type 0} (Good : A → Type 0) (text : A → List ℕ) (read : List ℕ → Option A) : Type 0 where
  pub takes : (w : List ℕ) (a : A) → read w ≡ Some a → (w ≡ text a) × Good a
  pub again : (a : A) → Good a → read (text a) ≡ Some a

pub bound : {A B : Type 0} (o : Option A) (f : A → Option B) (y : B) → (o >>= f) ≡ Some y → (x : A) × (o ≡ Some x) × (f x ≡ Some y)
bound None f y e = absurd cc
bound (Some x) f y e = (x, refl, e)

pub same : (x y : List ℕ) → same_bytes x y ≡ true → x ≡ y
same x y = (bytes_eq-Decides x y).0

pub alike : (x : List ℕ) → same_bytes x x ≡ true
alike x = (bytes_eq-Decides x x).1 refl

-- ---- numbers

number_takes : (most : ℕ) (w : List ℕ) (a : ℕ) → number_in most w ≡ Some a → (w ≡ decimal a) × (a < most)
unfolding number_in
number_takes most w a e =
    let parts = cond_some (same_bytes (decimal (digits_value 10 w)) w && ltb (digits_value 10 w) most) (digits_value 10 w) a e in
    let tests = and_parts (same_bytes (decimal (digits_value 10 w)) w) (ltb (digits_value 10 w) most) parts.0 in
    (sym (same (decimal (digits_value 10 w)) w tests.0) ∙ ap decimal parts.1, subst (λ (n : ℕ). n < most) parts.1 (ltb-true (digits_value 10 w) most tests.1))

number_again : (most n : ℕ) → most ≤ 2 ^ 64 → n < most → number_in most (decimal n) ≡ Some n
unfolding number_in
number_again most n le less =
    let back : digits_value 10 (decimal n) ≡ n = digits_value-decimal own n (omega arith) in
    rw (back, alike (decimal n), lt-ltb n most less) refl

number_reads : (most : ℕ) → most ≤ 2 ^ 64 → Reads (λ n. n < most) decimal (number_in most)
number_reads most le = record { takes = number_takes most; again = λ n less. number_again most n le less }

pub number_64 : Reads Fits64 decimal number_of_64
number_64 = number_reads (2 ^ 64) (omega arith)

pub number_32 : Reads Fits32 decimal number_of_32
number_32 = number_reads (2 ^ 32) (omega arith)

-- a byte in front
behind_takes : {A : Type 0} {Good : A → Type 0} {text : A → List ℕ} {read : List ℕ → Option A} (c : ℕ) → Reads Good text read → (w : List ℕ) (a : A) → (behind c w >>= read) ≡ Some a → (w ≡ c ∷ text a) × Good a
behind_takes c known [] a e = absurd cc
behind_takes {A} {Good} {text} {read} c known (b ∷ bs) a e = by (eqb b c) refl e where
  by : (t : Bool) → eqb b c ≡ t → ((if t then Some bs else None) >>= read) ≡ Some a → (b ∷ bs ≡ c ∷ text a) × Good a
  by true is f = let t = known.takes bs a f in let head = eqb-true b c is in let tail = t.0 in (cc, t.1)
  by false is f = absurd cc

behind_again : {A : Type 0} {Good : A → Type 0} {text : A → List ℕ} {read : List ℕ → Option A} (c : ℕ) → Reads Good text read → (a : A) → Good a → (behind c (c ∷ text a) >>= read) ≡ Some a
behind_again c known a good = rw (eq-eqb c c refl) (known.again a good)

pub object : Reads Fits64 object_text object_in
unfolding object_in
object = record { takes = behind_takes 111 number_64; again = behind_again 111 number_64 }

pub instance : Reads Fits32 instance_text instance_in
unfolding instance_in
instance = record { takes = behind_takes 105 number_32; again = behind_again 105 number_32 }

pub client : Reads Fits32 client_text client_in
unfolding client_in
client = record { takes = behind_takes 99 number_32; again = behind_again 99 number_32 }

-- ---- owners

owner_by_takes : (b : ℕ) (bs : List ℕ) (w : Owner) → owner_by b bs ≡ Some w → (b ∷ bs ≡ owner_text w) × OwnerIsHeld w
owner_by_takes b bs w e = by (eqb b 99) (eqb b 105) refl refl e where
  by : (s t : Bool) → eqb b 99 ≡ s → eqb b 105 ≡ t → (if s then (number_of_32 bs >>= λ t. Some (owner.Client t)) else (if t then (number_of_32 bs >>= λ i. Some (owner.Instance i)) else None)) ≡ Some w → (b ∷ bs ≡ owner_text w) × OwnerIsHeld w
  by true t is other f =
      let n = bound (number_of_32 bs) (λ t. Some (owner.Client t)) w f in
      let named : owner.Client n.0 ≡ w = cc (n.2) in
      let taken = number_32.takes bs n.0 n.1 in
      let head = eqb-true b 99 is in
      let tail = taken.0 in
      let whole : b ∷ bs ≡ owner_text (owner.Client n.0) = cc in
      subst (λ (v : Owner). (b ∷ bs ≡ owner_text v) × OwnerIsHeld v) named (whole, taken.1)
  by false true isnt is f =
      let n = bound (number_of_32 bs) (λ i. Some (owner.Instance i)) w f in
      let named : owner.Instance n.0 ≡ w = cc (n.2) in
      let taken = number_32.takes bs n.0 n.1 in
      let head = eqb-true b 105 is in
      let tail = taken.0 in
      let whole : b ∷ bs ≡ owner_text (owner.Instance n.0) = cc in
      subst (λ (v : Owner). (b ∷ bs ≡ owner_text v) × OwnerIsHeld v) named (whole, taken.1)
  by false false isnt other f = absurd cc

owner_takes : (word : List ℕ) (w : Owner) → owner_in word ≡ Some w → (word ≡ owner_text w) × OwnerIsHeld w
unfolding owner_in
owner_takes [] w e = absurd cc
owner_takes (b ∷ bs) w e = owner_by_takes b bs w e

owner_again : (w : Owner) → OwnerIsHeld w → owner_in (owner_text w) ≡ Some w
unfolding owner_in
owner_again (owner.Client t) fits = ap (λ (o : Option ℕ). o >>= λ t. Some (owner.Client t)) (number_32.again t fits)
owner_again (owner.Instance i) fits = ap (λ (o : Option ℕ). o >>= λ i. Some (owner.Instance i)) (number_32.again i fits)

pub owned : Reads OwnerIsHeld owner_text owner_in
owned = record { takes = owner_takes; again = owner_again }

-- ---- words of a table

found : {A : Type 0} (p : A → Bool) (x : A) (xs : List A) (a : A) → (find p xs ≡ Some a → p a ≡ true) → (t : Bool) → p x ≡ t → cond t (Some x) (find p xs) ≡ Some a → p a ≡ true
found p x xs a further true is e = let here : x ≡ a = cc in subst (λ y. p y ≡ true) here is
found p x xs a further false is e = further e

pub find_takes : {A : Type 0} (p : A → Bool) (xs : List A) (a : A) → find p xs ≡ Some a → p a ≡ true
find_takes p [] a e = absurd cc
find_takes p (x ∷ xs) a e = found p x xs a (find_takes p xs a) (p x) refl e

code_again : (k : RpcCode) → ⊤ → code_in (code_text k) ≡ Some k
unfolding code_in
code_again code.Gone fine = refl
code_again code.Unwound fine = refl
code_again code.Deep fine = refl
code_again code.Order fine = refl

code_takes : (w : List ℕ) (k : RpcCode) → code_in w ≡ Some k → (w ≡ code_text k) × ⊤
unfolding code_in
code_takes w k e = (sym (same (code_text k) w (find_takes (λ k. same_bytes (code_text k) w) all_codes k e)), tt)

pub error : Reads (λ k. ⊤) code_text code_in
error = record { takes = code_takes; again = code_again }

cause_again : (k : Cause) → ⊤ → cause_in (cause_text k) ≡ Some k
unfolding cause_in
cause_again cause.Divide fine = refl
cause_again cause.Bounds fine = refl
cause_again cause.Range fine = refl
cause_again cause.Empty fine = refl
cause_again cause.Full fine = refl
cause_again cause.Device fine = refl
cause_again cause.HeapFull fine = refl
cause_again cause.Fuel fine = refl
cause_again cause.Asked fine = refl
cause_again cause.Io fine = refl

cause_takes : (w : List ℕ) (k : Cause) → cause_in w ≡ Some k → (w ≡ cause_text k) × ⊤
unfolding cause_in
cause_takes w k e = (sym (same (cause_text k) w (find_takes (λ k. same_bytes (cause_text k) w) all_causes k e)), tt)

pub ended_by : Reads (λ k. ⊤) cause_text cause_in
ended_by = record { takes = cause_takes; again = cause_again }

verb_again : (v : Verb) → ⊤ → verb_in (verb_text v) ≡ Some v
unfolding verb_in
verb_again verb.Call fine = refl
verb_again verb.Refuse fine = refl
verb_again verb.Ret fine = refl
verb_again verb.Unwound fine = refl
verb_again verb.Reload fine = refl
verb_again verb.Again fine = refl
verb_again verb.Trap fine = refl
verb_again verb.Kill fine = refl
verb_again verb.New fine = refl
verb_again verb.Drop fine = refl
verb_again verb.Set fine = refl
verb_again verb.Wput fine = refl
verb_again verb.Take fine = refl
verb_again verb.Put fine = refl
verb_again verb.DevGet fine = refl
verb_again verb.DevPut fine = refl
verb_again verb.Hang fine = refl
verb_again verb.Unhang fine = refl
verb_again verb.Show fine = refl
verb_again verb.Skip fine = refl
verb_again verb.Done fine = refl

verb_takes : (w : List ℕ) (v : Verb) → verb_in w ≡ Some v → (w ≡ verb_text v) × ⊤
unfolding verb_in
verb_takes w v e = (sym (same (verb_text v) w (find_takes (λ v. same_bytes (verb_text v) w) all_verbs v e)), tt)

pub told_by : Reads (λ v. ⊤) verb_text verb_in
told_by = record { takes = verb_takes; again = verb_again }

-- ---- slots

slot_takes : (w s : List ℕ) → slot_in w ≡ Some s → (w ≡ s) × IsTrue (is_name s)
unfolding slot_in
slot_takes w s e =
    let parts = cond_some (is_name w) w s e in
    (parts.1, subst (λ (z : List ℕ). is_name z ≡ true) parts.1 parts.0)

slot_again : (s : List ℕ) → IsTrue (is_name s) → slot_in s ≡ Some s
unfolding slot_in
slot_again s is = rw is refl

pub slot : Reads (λ s. IsTrue (is_name s)) (λ s. s) slot_in
slot = record { takes = slot_takes; again = slot_again }

-- ---- first bytes of numbers

abbrev BeginsWithDigit : List ℕ → Type 0
BeginsWithDigit [] = ⊥
BeginsWithDigit (d ∷ ds) = (48 ≤ d) × (d ≤ 57)

digit_begins : (n : ℕ) → Fits64 n → BeginsWithDigit (decimal n)
digit_begins n fits = decimal_by_steps (λ m ds. BeginsWithDigit ds) (λ m less. (omega arith, omega arith)) more n fits where
  more : (m : ℕ) (ds : List ℕ) → 10 ≤ m → BeginsWithDigit ds → BeginsWithDigit (ds ++ ((48 + m % 10) ∷ []))
  more m [] big h = absurd h
  more m (d ∷ ds) big h = h

-- a number's text begins with a digit
pub record DigitFirst (text : List ℕ) : Type 0 where
  pub digit : ℕ
  pub others : List ℕ
  pub is : text ≡ digit ∷ others
  pub low : 48 ≤ digit
  pub high : digit ≤ 57

begins : (text : List ℕ) → BeginsWithDigit text → DigitFirst text
begins [] h = absurd h
begins (d ∷ ds) h = record { digit = d; others = ds; is = refl; low = h.0; high = h.1 }

pub digit_first : (n : ℕ) → Fits64 n → DigitFirst (decimal n)
digit_first n fits = begins (decimal n) (digit_begins n fits)
