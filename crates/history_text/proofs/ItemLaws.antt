-- Arguments, values and lists of them are read back from their texts, and a call's target with its instance.
use Rattle.std.proofs.Common.{◌≡◌, ℕ, suc, inl, inr, ◌+◌, ◌^◌, ◌<◌, ◌≤◌, Bool, true, false, not, List, [], ◌∷◌, ◌++◌, length, map, take, drop, get_or, Option, Some, None, refl, sym, ap, ◌∙◌, subst, arith, eqb, leb, le-leb, leb-true, append_assoc}
use Rattle.std.specs.Prelude.{⊤, if◌then◌else◌}
use Rattle.std.specs.List.{AllByRecursion, position_or_len, before_first, after_first, list_all}
use Rattle.std.specs.Fmt.{decimal}
use Rattle.std.proofs.lemmas.Bool.{eqb-true, ne_eqb, and_parts, not-true}
use Rattle.std.proofs.lemmas.Option.{cond_some}
use Rattle.std.proofs.lemmas.List.{take_at, drop_at, drop_all, length_push}
use Rattle.std.proofs.lemmas.List.Sums.{split_at_first, passes_at_first}
use Rattle.std.proofs.lemmas.Bool.{cases_lt}
use Rattle.rl_defs.specs.declared.load.LoadRows.{LoadRows}
use Rattle.rl_defs.specs.declared.values.Value.{Value}
use Rattle.rl_defs.specs.declared.values.Value.TheVariants as value
use Rattle.rl_defs.specs.Valid.{Valid}
use Rattle.rl_defs.specs.Domains.{target_name}
use Rattle.machine_defs.specs.declared.values.Arg.{Arg}
use Rattle.machine_defs.specs.declared.values.Arg.TheVariants as arg
use Rattle.machine_defs.specs.Texts.{arg_text, value_text, instance_text}
use Rattle.machine_defs.specs.EntryTexts.{HasWords, IsTarget, Fits64, ArgNamesRows, ValueNamesRows}
use Rattle.text_laws.proofs.Tokens.{is_plain, plain}
use Rattle.text_laws.proofs.Named.{target}
use Rattle.history_text.specs.Held.{Fits32, ArgIsHeld, ValueIsHeld}
use Rattle.history_text.specs.Reading.{◌>>=◌, number_of_64, object_in, instance_in, target_in, entered_in, is_slash, arg_in, arg_by, value_in, value_by, all_in, few}
use Rattle.history_text.proofs.FieldLaws.{Reads, bound, number_64, object, instance, digit_first}
use Rattle.history_text.proofs.NameLaws.{targets}

-- ---- bytes that a text lacks

abbrev pub lacks : ℕ → List ℕ → Bool
lacks c w = list_all (λ b. not (eqb b c)) w

other_byte : (c b : ℕ) → is_plain c ≡ false → is_plain b ≡ true → (t : Bool) → eqb b c ≡ t → not t ≡ true
other_byte c b off on true e = let same : is_plain b ≡ is_plain c = ap is_plain (eqb-true b c e) in cc
other_byte c b off on false e = refl

pub plain_lacks : (c : ℕ) → is_plain c ≡ false → (w : List ℕ) → plain w ≡ true → lacks c w ≡ true
plain_lacks c off [] is = refl
plain_lacks c off (b ∷ w) is =
    let parts = and_parts (is_plain b) (plain w) is in
    rw (other_byte c b off parts.0 (eqb b c) refl) (plain_lacks c off w parts.1)

-- ---- a target and an instance

slash_at : (w r : List ℕ) → lacks 47 w ≡ true → position_or_len is_slash (w ++ 47 ∷ r) ≡ length w
slash_at [] r off = refl
slash_at (b ∷ w) r off =
    let parts = and_parts (not (eqb b 47)) (lacks 47 w) off in
    rw (parts.0, slash_at w r parts.1) (omega arith)

before_slash : (w r : List ℕ) → lacks 47 w ≡ true → before_first is_slash (w ++ 47 ∷ r) ≡ w
before_slash w r off = rw (slash_at w r off) (take_at w (47 ∷ r) (length w) refl)

after_slash : (w r : List ℕ) → lacks 47 w ≡ true → after_first is_slash (w ++ 47 ∷ r) ≡ r
after_slash w r off =
    let whole : w ++ 47 ∷ r ≡ (w ++ 47 ∷ []) ++ r = sym (append_assoc w (47 ∷ []) r) in
    let end : drop (length w + 1) ((w ++ 47 ∷ []) ++ r) ≡ r = drop_at (w ++ 47 ∷ []) r (length w + 1) (length_push w 47) in
    rw (slash_at w r off) (ap (drop (length w + 1)) whole ∙ end)

-- where something stands behind the first slash, there is one
has_slash : (w : List ℕ) (b : ℕ) (bs : List ℕ) → after_first is_slash w ≡ b ∷ bs → w ≡ before_first is_slash w ++ 47 ∷ (b ∷ bs)
has_slash w b bs e = elim (cases_lt (position_or_len is_slash w) (length w)) [
  | inl less ↦
      let at = split_at_first is_slash w 0 less in
      let slash = eqb-true (get_or w (position_or_len is_slash w) 0) 47 (passes_at_first is_slash w 0 less) in
      at ∙ (ap (λ (c : ℕ). before_first is_slash w ++ c ∷ after_first is_slash w) slash ∙ ap (λ (r : List ℕ). before_first is_slash w ++ 47 ∷ r) e)
  | inr past ↦
      let none : after_first is_slash w ≡ [] = drop_all (position_or_len is_slash w + 1) w (omega arith) in
      absurd cc
]

module _ (L : LoadRows) (valid : Valid L) (words : HasWords L) where
  abbrev pub EnteredFits : ℕ × ℕ → Type 0
  EnteredFits at = (IsTarget L at.0 × Fits32 at.0) × Fits32 at.1

  abbrev pub entered_text : ℕ × ℕ → List ℕ
  entered_text at = target_name L at.0 ++ 47 ∷ instance_text at.1

  entered_takes : (w : List ℕ) (at : ℕ × ℕ) → entered_in L w ≡ Some at → (w ≡ entered_text at) × EnteredFits at
  unfolding entered_in
  entered_takes w at e =
      let x = bound (target_in L (before_first is_slash w)) (λ x. instance_in (after_first is_slash w) >>= λ i. Some (x, i)) at e in
      let i = bound (instance_in (after_first is_slash w)) (λ i. Some (x.0, i)) at x.2 in
      let named = (targets L valid words).takes (before_first is_slash w) x.0 x.1 in
      let told = instance.takes (after_first is_slash w) i.0 i.1 in
      let cut = has_slash w 105 (decimal i.0) told.0 in
      let pair : (x.0, i.0) ≡ at = cc (i.2) in
      let whole : w ≡ entered_text (x.0, i.0) = cut ∙ ap (λ (n : List ℕ). n ++ 47 ∷ instance_text i.0) named.0 in
      subst (λ (p : ℕ × ℕ). (w ≡ entered_text p) × EnteredFits p) pair (whole, (named.1, told.1))

  entered_again : (at : ℕ × ℕ) → EnteredFits at → entered_in L (entered_text at) ≡ Some at
  unfolding entered_in
  entered_again at good =
      let off : lacks 47 (target_name L at.0) ≡ true = plain_lacks 47 refl (target_name L at.0) ((target L valid words).plain_text at.0 good.0.0) in
      rw (before_slash (target_name L at.0) (instance_text at.1) off, after_slash (target_name L at.0) (instance_text at.1) off, (targets L valid words).again at.0 good.0, instance.again at.1 good.1) refl

  pub entered : Reads EnteredFits entered_text (entered_in L)
  entered = record { takes = entered_takes; again = entered_again }

  -- ---- arguments

  abbrev pub ArgFits : Arg → Type 0
  ArgFits a = ArgIsHeld a × ArgNamesRows L a

  arg_by_takes : (b : ℕ) (bs : List ℕ) (a : Arg) → arg_by L b bs ≡ Some a → (b ∷ bs ≡ arg_text L a) × ArgFits a
  arg_by_takes b bs a e = by (eqb b 111) (eqb b 38) (eqb b 64) refl refl refl e where
    by : (s t u : Bool) → eqb b 111 ≡ s → eqb b 38 ≡ t → eqb b 64 ≡ u → (if s then (number_of_64 bs >>= λ o. Some (arg.Moved o)) else (if t then (object_in bs >>= λ o. Some (arg.Lent o)) else (if u then (target_in L bs >>= λ x. Some (arg.Cap x)) else (number_of_64 (b ∷ bs) >>= λ n. Some (arg.Num n))))) ≡ Some a → (b ∷ bs ≡ arg_text L a) × ArgFits a
    by true t u is it its f =
        let n = bound (number_of_64 bs) (λ o. Some (arg.Moved o)) a f in
        let named : arg.Moved n.0 ≡ a = cc (n.2) in
        let taken = number_64.takes bs n.0 n.1 in
        let head = eqb-true b 111 is in
        let tail = taken.0 in
        let whole : b ∷ bs ≡ arg_text L (arg.Moved n.0) = cc in
        subst (λ (v : Arg). (b ∷ bs ≡ arg_text L v) × ArgFits v) named (whole, (taken.1, tt))
    by false true u is it its f =
        let n = bound (object_in bs) (λ o. Some (arg.Lent o)) a f in
        let named : arg.Lent n.0 ≡ a = cc (n.2) in
        let taken = object.takes bs n.0 n.1 in
        let head = eqb-true b 38 it in
        let tail = taken.0 in
        let whole : b ∷ bs ≡ arg_text L (arg.Lent n.0) = cc in
        subst (λ (v : Arg). (b ∷ bs ≡ arg_text L v) × ArgFits v) named (whole, (taken.1, tt))
    by false false true is it its f =
        let n = bound (target_in L bs) (λ x. Some (arg.Cap x)) a f in
        let named : arg.Cap n.0 ≡ a = cc (n.2) in
        let taken = (targets L valid words).takes bs n.0 n.1 in
        let head = eqb-true b 64 its in
        let tail = taken.0 in
        let whole : b ∷ bs ≡ arg_text L (arg.Cap n.0) = cc in
        subst (λ (v : Arg). (b ∷ bs ≡ arg_text L v) × ArgFits v) named (whole, (taken.1.1, taken.1.0))
    by false false false is it its f =
        let n = bound (number_of_64 (b ∷ bs)) (λ n. Some (arg.Num n)) a f in
        let named : arg.Num n.0 ≡ a = cc (n.2) in
        let taken = number_64.takes (b ∷ bs) n.0 n.1 in
        subst (λ (v : Arg). (b ∷ bs ≡ arg_text L v) × ArgFits v) named (taken.0, (taken.1, tt))

  arg_takes : (w : List ℕ) (a : Arg) → arg_in L w ≡ Some a → (w ≡ arg_text L a) × ArgFits a
  unfolding arg_in
  arg_takes [] a e = absurd cc
  arg_takes (b ∷ bs) a e = arg_by_takes b bs a e

  arg_number : (n : ℕ) → Fits64 n → arg_in L (decimal n) ≡ Some (arg.Num n)
  unfolding arg_in
  arg_number n fits =
      let f = digit_first n fits in
      let back : number_of_64 (f.digit ∷ f.others) ≡ Some n = ap number_of_64 (sym f.is) ∙ number_64.again n fits in
      let low = f.low in
      let high = f.high in
      let read : arg_by L f.digit f.others ≡ Some (arg.Num n) = rw (ne_eqb f.digit 111 (λ h. omega arith), ne_eqb f.digit 38 (λ h. omega arith), ne_eqb f.digit 64 (λ h. omega arith), back) refl in
      ap (arg_in L) f.is ∙ read

  arg_again : (a : Arg) → ArgFits a → arg_in L (arg_text L a) ≡ Some a
  unfolding arg_in
  arg_again (arg.Num n) good = arg_number n good.0
  arg_again (arg.Moved o) good = rw (number_64.again o good.0) refl
  arg_again (arg.Lent o) good = rw (object.again o good.0) refl
  arg_again (arg.Cap x) good = rw ((targets L valid words).again x (good.1, good.0)) refl

  pub argument : Reads ArgFits (arg_text L) (arg_in L)
  argument = record { takes = arg_takes; again = arg_again }

  -- ---- values

  abbrev pub ValueFits : Value → Type 0
  ValueFits v = ValueIsHeld v × ValueNamesRows L v

  value_by_takes : (b : ℕ) (bs : List ℕ) (a : Value) → value_by L b bs ≡ Some a → (b ∷ bs ≡ value_text L a) × ValueFits a
  value_by_takes b bs a e = by (eqb b 111) (eqb b 64) refl refl e where
    by : (s u : Bool) → eqb b 111 ≡ s → eqb b 64 ≡ u → (if s then (number_of_64 bs >>= λ o. Some (value.Obj o)) else (if u then (target_in L bs >>= λ x. Some (value.Cap x)) else (number_of_64 (b ∷ bs) >>= λ n. Some (value.Num n)))) ≡ Some a → (b ∷ bs ≡ value_text L a) × ValueFits a
    by true u is its f =
        let n = bound (number_of_64 bs) (λ o. Some (value.Obj o)) a f in
        let named : value.Obj n.0 ≡ a = cc (n.2) in
        let taken = number_64.takes bs n.0 n.1 in
        let head = eqb-true b 111 is in
        let tail = taken.0 in
        let whole : b ∷ bs ≡ value_text L (value.Obj n.0) = cc in
        subst (λ (v : Value). (b ∷ bs ≡ value_text L v) × ValueFits v) named (whole, (taken.1, tt))
    by false true is its f =
        let n = bound (target_in L bs) (λ x. Some (value.Cap x)) a f in
        let named : value.Cap n.0 ≡ a = cc (n.2) in
        let taken = (targets L valid words).takes bs n.0 n.1 in
        let head = eqb-true b 64 its in
        let tail = taken.0 in
        let whole : b ∷ bs ≡ value_text L (value.Cap n.0) = cc in
        subst (λ (v : Value). (b ∷ bs ≡ value_text L v) × ValueFits v) named (whole, (taken.1.1, taken.1.0))
    by false false is its f =
        let n = bound (number_of_64 (b ∷ bs)) (λ n. Some (value.Num n)) a f in
        let named : value.Num n.0 ≡ a = cc (n.2) in
        let taken = number_64.takes (b ∷ bs) n.0 n.1 in
        subst (λ (v : Value). (b ∷ bs ≡ value_text L v) × ValueFits v) named (taken.0, (taken.1, tt))

  value_takes : (w : List ℕ) (a : Value) → value_in L w ≡ Some a → (w ≡ value_text L a) × ValueFits a
  unfolding value_in
  value_takes [] a e = absurd cc
  value_takes (b ∷ bs) a e = value_by_takes b bs a e

  value_number : (n : ℕ) → Fits64 n → value_in L (decimal n) ≡ Some (value.Num n)
  unfolding value_in
  value_number n fits =
      let f = digit_first n fits in
      let back : number_of_64 (f.digit ∷ f.others) ≡ Some n = ap number_of_64 (sym f.is) ∙ number_64.again n fits in
      let low = f.low in
      let high = f.high in
      let read : value_by L f.digit f.others ≡ Some (value.Num n) = rw (ne_eqb f.digit 111 (λ h. omega arith), ne_eqb f.digit 64 (λ h. omega arith), back) refl in
      ap (value_in L) f.is ∙ read

  value_again : (v : Value) → ValueFits v → value_in L (value_text L v) ≡ Some v
  unfolding value_in
  value_again (value.Num n) good = value_number n good.0
  value_again (value.Obj o) good = rw (number_64.again o good.0) refl
  value_again (value.Cap x) good = rw ((targets L valid words).again x (good.1, good.0)) refl

  pub listed_value : Reads ValueFits (value_text L) (value_in L)
  listed_value = record { takes = value_takes; again = value_again }

-- ---- lists

pub all_takes : {A : Type 0} {Good : A → Type 0} {text : A → List ℕ} {read : List ℕ → Option A} → Reads Good text read → (ws : List (List ℕ)) (xs : List A) → all_in read ws ≡ Some xs → (ws ≡ map text xs) × AllByRecursion Good xs
all_takes known [] [] e = (refl, tt)
all_takes known [] (x ∷ xs) e = absurd cc
all_takes {A} {Good} {text} {read} known (w ∷ ws) xs e =
    let a = bound (read w) (λ a. all_in read ws >>= λ all. Some (a ∷ all)) xs e in
    let more = bound (all_in read ws) (λ all. Some (a.0 ∷ all)) xs a.2 in
    let whole : a.0 ∷ more.0 ≡ xs = cc (more.2) in
    let one = known.takes w a.0 a.1 in
    let others = all_takes known ws more.0 more.1 in
    let head = one.0 in
    let tail = others.0 in
    let spelled : w ∷ ws ≡ map text (a.0 ∷ more.0) = cc in
    subst (λ (ys : List A). (w ∷ ws ≡ map text ys) × AllByRecursion Good ys) whole (spelled, (one.1, others.1))

pub all_again : {A : Type 0} {Good : A → Type 0} {text : A → List ℕ} {read : List ℕ → Option A} → Reads Good text read → (xs : List A) → AllByRecursion Good xs → all_in read (map text xs) ≡ Some xs
all_again known [] good = refl
all_again known (x ∷ xs) good = rw (known.again x good.0, all_again known xs good.1) refl

pub few_takes : {A : Type 0} (n : ℕ) (o : Option (List A)) (xs : List A) → few n o ≡ Some xs → (o ≡ Some xs) × (length xs ≤ n)
few_takes n None xs e = absurd cc
few_takes {A} n (Some ys) xs e =
    let parts = cond_some (leb (length ys) n) ys xs e in
    (ap Some parts.1, subst (λ (zs : List A). length zs ≤ n) parts.1 (leb-true (length ys) n parts.0))

pub few_again : {A : Type 0} (n : ℕ) (xs : List A) → length xs ≤ n → few n (Some xs) ≡ Some xs
few_again n xs le = rw (le-leb (length xs) n le) refl
