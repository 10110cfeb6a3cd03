-- No two histories of a load have one text: each entry's text is one line.
use Rattle.std.proofs.Common.{All, ◌≡◌, ℕ, Bool, true, false, not, ◌==◌, List, [], ◌∷◌, ◌++◌, refl, sym, ap, ◌∙◌, append_assoc, arith, codes}
use Rattle.std.specs.List.{list_all, AllByRecursion}
use Rattle.std.proofs.lemmas.Bool.Decides.{Decides-eqb}
use Rattle.std.proofs.lemmas.List.Folds.{list_all-append}
use Rattle.std.proofs.lemmas.List.Elements.{recursion_from_All, All-weaker}
use Rattle.rl_defs.specs.declared.load.LoadRows.{LoadRows}
use Rattle.machine_defs.specs.declared.values.Arg.{Arg}
use Rattle.machine_defs.specs.declared.entry.Entry.{Entry}
use Rattle.machine_defs.specs.declared.entry.Entry.TheVariants as entry
use Rattle.rl_defs.specs.Valid.{Valid}
use Rattle.machine_defs.specs.Entries.{thread_of}
use Rattle.machine_defs.specs.Texts.{entry_text, history_text, act_text, called_text, args_text, client_text, instance_text, object_text}
use Rattle.machine_defs.specs.EntryTexts.{IsEntryOf, HasWords, IsTarget, IsMethod, Fits64, HistoriesAreApart}
use Rattle.text_laws.proofs.Told.{IsTold, IsArg, IsValue, told}
use Rattle.rl_defs.proofs.Lists.{and_left, and_right, both_true}
use Rattle.text_laws.proofs.Tokens.{is_plain, plain, front, listed, ReadsBack}
use Rattle.text_laws.proofs.Spelled.{number, object, client, instance, error, ended_by}
use Rattle.text_laws.proofs.Named.{target, struct, method}
use Rattle.text_laws.proofs.Fields.{owned_by, argument, listed_value}
use Rattle.text_laws.proofs.EntryKinds.{Acts, act_line}
use Rattle.text_laws.proofs.Apart.{slot_name, thread_fits, entries_apart}

-- no end of a line
abbrev goes_on : ℕ → Bool
goes_on b = not (b == 10)

abbrev one_line : List ℕ → Bool
one_line = list_all goes_on

plain_goes_on : (b : ℕ) (is : Bool) → (b == 10) ≡ is → is_plain b ≡ true → goes_on b ≡ true
plain_goes_on b false here plain = rw here refl
plain_goes_on b true here plain =
    let ten : b ≡ 10 = (Decides-eqb b 10).0 here in
    let never : false ≡ true = ap is_plain (sym ten) ∙ plain in
    absurd cc

plain_line : (bytes : List ℕ) → plain bytes ≡ true → one_line bytes ≡ true
plain_line [] is = refl
plain_line (b ∷ bs) is = both_true (goes_on b) (one_line bs) (plain_goes_on b (b == 10) refl (and_left (is_plain b) (plain bs) is)) (plain_line bs (and_right (is_plain b) (plain bs) is))

both_lines : (a b : List ℕ) → one_line a ≡ true → one_line b ≡ true → one_line (a ++ b) ≡ true
both_lines a b first second = list_all-append goes_on a b ∙ both_true (one_line a) (one_line b) first second

-- one of these, and what follows
then : {A : Type 0} {Good : A → Type 0} {text : A → List ℕ} → ReadsBack Good text → (a : A) (rest : List ℕ) → Good a → one_line rest ≡ true → one_line (text a ++ rest) ≡ true
then {A} {Good} {text} known a rest good more = both_lines (text a) rest (plain_line (text a) (known.plain_text a good)) more

all_listed : {A : Type 0} {Good : A → Type 0} {text : A → List ℕ} → ReadsBack Good text → (items : List A) → AllByRecursion Good items → one_line (listed text items) ≡ true
all_listed known [] good = refl
all_listed {A} {Good} {text} known (a ∷ items) good = then known a (listed text items) good.0 (all_listed known items good.1)

module _ (L : LoadRows) (valid : Valid L) (words : HasWords L) where
  called_line : (x m : ℕ) (args : List Arg) → IsTarget L x → IsMethod L x m → AllByRecursion (IsArg L) args → one_line (called_text L x m args) ≡ true
  called_line x m args is has good = then (method L valid words x is) m (args_text L args) has (all_listed (argument L valid words) args good)

  act_one_line : (e : Entry) → IsTold L e → one_line (act_text L e) ≡ true
  act_one_line (entry.Call t c x i m args) good = then number c _ good.1 (then (target L valid words) x _ good.2 (then instance i _ good.3 (called_line x m args good.2 good.4 (recursion_from_All (IsArg L) args good.5))))
  act_one_line (entry.Refuse t c k x m args) good = then number c _ good.1 (then error k _ tt (then (target L valid words) x _ good.2 (called_line x m args good.2 good.3 (recursion_from_All (IsArg L) args good.4))))
  act_one_line (entry.Ret t c results) good = then number c _ good.1 (all_listed (listed_value L valid words) results (recursion_from_All (IsValue L) results good.2))
  act_one_line (entry.Unwound t c) good = then number c _ good.1 refl
  act_one_line (entry.Reload t x i left) good = then (target L valid words) x _ good.1 (then instance i _ good.2 (then number left _ good.3 refl))
  act_one_line (entry.Again t c x i) good = then number c _ good.1 (then (target L valid words) x _ good.2 (plain_line (instance_text i) (instance.plain_text i good.3)))
  act_one_line (entry.Trap t i k) good = then instance i _ good.1 (then ended_by k _ tt refl)
  act_one_line (entry.Kill t i) good = then instance i _ good.1 refl
  act_one_line (entry.New t w o ty values) good = then owned_by w _ good.1 (then object o _ good.2 (then (struct L valid words) ty _ good.3 (all_listed number values (recursion_from_All Fits64 values good.4))))
  act_one_line (entry.Drop t o) good = then object o _ good.1 refl
  act_one_line (entry.Set t o place values) good = then object o _ good.1 (then number place _ good.2 (all_listed number values (recursion_from_All Fits64 values good.3)))
  act_one_line (entry.Wput t i place v) good = then instance i _ good.1 (then number place _ good.2 (then number v _ good.3 refl))
  act_one_line (entry.Take t i slot o) good = then instance i _ good.1 (then slot_name slot _ good.2 (then object o _ good.3 refl))
  act_one_line (entry.Put t i slot o) good = then instance i _ good.1 (then slot_name slot _ good.2 (then object o _ good.3 refl))
  act_one_line (entry.DevGet t o block) good = then object o _ good.1 (then number block _ good.2 refl)
  act_one_line (entry.DevPut t block o) good = then number block _ good.1 (then object o _ good.2 refl)
  act_one_line (entry.Hang t o place v) good = then object o _ good.1 (then number place _ good.2 (then object v _ good.3 refl))
  act_one_line (entry.Unhang t o place v) good = then object o _ good.1 (then number place _ good.2 (then object v _ good.3 refl))
  act_one_line (entry.Show t o values) good = then object o _ good.1 (all_listed (listed_value L valid words) values (recursion_from_All (IsValue L) values good.2))
  act_one_line (entry.Skip t k) good = then number k _ good.1 refl
  act_one_line (entry.Done t) good = refl
  act_one_line (entry.Free o) good = refl

  -- an entry's text is a line
  record IsLine (e : Entry) : Type 0 where
    pub text : List ℕ
    pub is : entry_text L e ≡ text ++ 10 ∷ []
    pub one : one_line text ≡ true

  act_is_line : (e : Entry) → IsTold L e → Acts e → IsLine e
  act_is_line e good acts = record {
    text = client_text (thread_of e) ++ act_text L e;
    is = act_line L e acts;
    one = then client (thread_of e) (act_text L e) (thread_fits L e good) (act_one_line e good);
  }

  is_line : (e : Entry) → IsTold L e → IsLine e
  is_line (entry.Free o) good = record { text = codes "free " ++ object_text o; is = refl; one = plain_line (object_text o) (object.plain_text o good) }
  is_line (entry.Call t c x i m args) good = act_is_line (entry.Call t c x i m args) good (omega arith)
  is_line (entry.Refuse t c k x m args) good = act_is_line (entry.Refuse t c k x m args) good (omega arith)
  is_line (entry.Ret t c results) good = act_is_line (entry.Ret t c results) good (omega arith)
  is_line (entry.Unwound t c) good = act_is_line (entry.Unwound t c) good (omega arith)
  is_line (entry.Reload t x i left) good = act_is_line (entry.Reload t x i left) good (omega arith)
  is_line (entry.Again t c x i) good = act_is_line (entry.Again t c x i) good (omega arith)
  is_line (entry.Trap t i k) good = act_is_line (entry.Trap t i k) good (omega arith)
  is_line (entry.Kill t i) good = act_is_line (entry.Kill t i) good (omega arith)
  is_line (entry.New t w o ty values) good = act_is_line (entry.New t w o ty values) good (omega arith)
  is_line (entry.Drop t o) good = act_is_line (entry.Drop t o) good (omega arith)
  is_line (entry.Set t o place values) good = act_is_line (entry.Set t o place values) good (omega arith)
  is_line (entry.Wput t i place v) good = act_is_line (entry.Wput t i place v) good (omega arith)
  is_line (entry.Take t i slot o) good = act_is_line (entry.Take t i slot o) good (omega arith)
  is_line (entry.Put t i slot o) good = act_is_line (entry.Put t i slot o) good (omega arith)
  is_line (entry.DevGet t o block) good = act_is_line (entry.DevGet t o block) good (omega arith)
  is_line (entry.DevPut t block o) good = act_is_line (entry.DevPut t block o) good (omega arith)
  is_line (entry.Hang t o place v) good = act_is_line (entry.Hang t o place v) good (omega arith)
  is_line (entry.Unhang t o place v) good = act_is_line (entry.Unhang t o place v) good (omega arith)
  is_line (entry.Show t o values) good = act_is_line (entry.Show t o values) good (omega arith)
  is_line (entry.Skip t k) good = act_is_line (entry.Skip t k) good (omega arith)
  is_line (entry.Done t) good = act_is_line (entry.Done t) good (omega arith)

  never_empty : {A : Type 0} (w r : List ℕ) → [] ≡ (w ++ 10 ∷ []) ++ r → A
  never_empty [] r e = absurd cc
  never_empty (b ∷ w) r e = absurd cc

  pub histories : (H G : List Entry) → AllByRecursion (IsTold L) H → AllByRecursion (IsTold L) G → history_text L H ≡ history_text L G → H ≡ G
  histories [] [] good fine same = refl
  histories [] (f ∷ G) good fine same = let b = is_line f fine.0 in never_empty b.text (history_text L G) (same ∙ ap (λ (w : List ℕ). w ++ history_text L G) b.is)
  histories (e ∷ H) [] good fine same = let a = is_line e good.0 in never_empty a.text (history_text L H) (sym same ∙ ap (λ (w : List ℕ). w ++ history_text L H) a.is)
  histories (e ∷ H) (f ∷ G) good fine same =
      let a = is_line e good.0 in
      let b = is_line f fine.0 in
      let first : entry_text L e ++ history_text L H ≡ a.text ++ 10 ∷ history_text L H = ap (λ (w : List ℕ). w ++ history_text L H) a.is ∙ append_assoc a.text (10 ∷ []) (history_text L H) in
      let second : entry_text L f ++ history_text L G ≡ b.text ++ 10 ∷ history_text L G = ap (λ (w : List ℕ). w ++ history_text L G) b.is ∙ append_assoc b.text (10 ∷ []) (history_text L G) in
      let lines = front goes_on a.text b.text (10 ∷ history_text L H) (10 ∷ history_text L G) a.one b.one refl refl (sym first ∙ same ∙ second) in
      let one : e ≡ f = entries_apart L valid words e f good.0 fine.0 (a.is ∙ ap (λ (w : List ℕ). w ++ 10 ∷ []) lines.0 ∙ sym b.is) in
      let left : history_text L H ≡ history_text L G = let both = lines.1 in cc in
      let rest : H ≡ G = histories H G good.1 fine.1 left in
      cc

all_told : {L : LoadRows} (H : List Entry) → All (IsEntryOf L) H → All (IsTold L) H
all_told {L} H good = All-weaker (IsEntryOf L) (IsTold L) (told L) H good

pub histories_apart : HistoriesAreApart
histories_apart L H G valid words good fine same = histories L valid words H G (recursion_from_All (IsTold L) H (all_told H good)) (recursion_from_All (IsTold L) G (all_told G fine)) same
