-- An entry's text as its words, with a blank between each two.
use Rattle.std.proofs.Common.{◌≡◌, ℕ, ◌+◌, ◌<◌, Bool, true, false, not, List, [], ◌∷◌, ◌++◌, map, refl, sym, ap, ◌∙◌, arith, eqb, append_assoc, append-nil, codes}
use Rattle.std.specs.Prelude.{⊤, IsTrue}
use Rattle.std.specs.List.{AllByRecursion, flat_map, join_with_byte, list_all}
use Rattle.std.specs.Fmt.{decimal}
use Rattle.std.proofs.lemmas.Bool.{and_parts, not-true}
use Rattle.std.proofs.lemmas.List.Folds.{list_all-append}
use Rattle.std.proofs.lemmas.List.Splits.{join_with_byte-slice_split}
use Rattle.rl_defs.specs.declared.load.LoadRows.{LoadRows}
use Rattle.rl_defs.specs.Domains.{target_name, method_name}
use Rattle.machine_defs.specs.declared.entry.Entry.{Entry}
use Rattle.machine_defs.specs.declared.entry.Entry.TheVariants as entry
use Rattle.machine_defs.specs.Entries.{thread_of}
use Rattle.machine_defs.specs.Texts.{entry_text, act_text, line, word, spaced, client_text, instance_text, object_text, owner_text, code_text, cause_text, struct_name, arg_text, args_text, value_text, values_text, numbers_text}
use Rattle.history_text.specs.Reading.{words_of}
use Rattle.history_text.proofs.ItemLaws.{lacks}

-- ---- words and blanks

-- a word with no blank ends at the next blank, or at the end
pub word_before : (w r : List ℕ) → lacks 32 w ≡ true → words_of (w ++ 32 ∷ r) ≡ w ∷ words_of r
word_before [] r off = refl
word_before (b ∷ w) r off =
    let parts = and_parts (not (eqb b 32)) (lacks 32 w) off in
    rw (not-true (eqb b 32) parts.0, word_before w r parts.1) refl

pub word_last : (w : List ℕ) → lacks 32 w ≡ true → words_of w ≡ w ∷ []
word_last [] off = refl
word_last (b ∷ w) off =
    let parts = and_parts (not (eqb b 32)) (lacks 32 w) off in
    rw (not-true (eqb b 32) parts.0, word_last w parts.1) refl

abbrev pub Lacking : List (List ℕ) → Type 0
Lacking ws = AllByRecursion (λ w. lacks 32 w ≡ true) ws

pub split_words : (w : List ℕ) (ws : List (List ℕ)) → lacks 32 w ≡ true → Lacking ws → words_of (w ++ flat_map spaced ws) ≡ w ∷ ws
split_words w [] off all = rw (append-nil w) (word_last w off)
split_words w (v ∷ ws) off all = word_before w (v ++ flat_map spaced ws) off ∙ ap (λ (vs : List (List ℕ)). w ∷ vs) (split_words v ws all.0 all.1)

joined : (w : List ℕ) (ws : List (List ℕ)) → join_with_byte 32 (w ∷ ws) ≡ w ++ flat_map spaced ws
joined w [] = sym (append-nil w)
joined w (v ∷ ws) = ap (λ (r : List ℕ). w ++ 32 ∷ r) (joined v ws)

pub whole_text : (text w : List ℕ) (ws : List (List ℕ)) → words_of text ≡ w ∷ ws → text ≡ w ++ flat_map spaced ws
whole_text text w ws e = sym (join_with_byte-slice_split 32 text) ∙ (ap (join_with_byte 32) e ∙ joined w ws)

listed : {A : Type 0} (text : A → List ℕ) (xs : List A) → flat_map (λ a. spaced (text a)) xs ≡ flat_map spaced (map text xs)
listed text [] = refl
listed text (x ∷ xs) = ap (λ (r : List ℕ). spaced (text x) ++ r) (listed text xs)

-- ---- the words of an entry

abbrev pub subject : Entry → List ℕ
subject (entry.Free o) = codes "free"
subject e = client_text (thread_of e)

abbrev pub at_text : LoadRows → ℕ → ℕ → List ℕ
at_text L x i = target_name L x ++ 47 ∷ instance_text i

abbrev pub others : LoadRows → Entry → List (List ℕ)
others L (entry.Call t c x i m args) = codes "call" ∷ decimal c ∷ at_text L x i ∷ method_name L x m ∷ map (arg_text L) args
others L (entry.Refuse t c k x m args) = codes "refuse" ∷ decimal c ∷ code_text k ∷ target_name L x ∷ method_name L x m ∷ map (arg_text L) args
others L (entry.Ret t c results) = codes "ret" ∷ decimal c ∷ map (value_text L) results
others L (entry.Unwound t c) = codes "unwound" ∷ decimal c ∷ []
others L (entry.Reload t x i left) = codes "reload" ∷ target_name L x ∷ instance_text i ∷ decimal left ∷ []
others L (entry.Again t c x i) = codes "again" ∷ decimal c ∷ at_text L x i ∷ []
others L (entry.Trap t i k) = codes "trap" ∷ instance_text i ∷ cause_text k ∷ []
others L (entry.Kill t i) = codes "kill" ∷ instance_text i ∷ []
others L (entry.New t w o ty values) = codes "new" ∷ owner_text w ∷ object_text o ∷ struct_name L ty ∷ map decimal values
others L (entry.Drop t o) = codes "drop" ∷ object_text o ∷ []
others L (entry.Set t o place values) = codes "set" ∷ object_text o ∷ decimal place ∷ map decimal values
others L (entry.Wput t i place v) = codes "wput" ∷ instance_text i ∷ decimal place ∷ decimal v ∷ []
others L (entry.Take t i slot o) = codes "take" ∷ instance_text i ∷ slot ∷ object_text o ∷ []
others L (entry.Put t i slot o) = codes "put" ∷ instance_text i ∷ slot ∷ object_text o ∷ []
others L (entry.DevGet t o block) = codes "devget" ∷ object_text o ∷ decimal block ∷ []
others L (entry.DevPut t block o) = codes "devput" ∷ decimal block ∷ object_text o ∷ []
others L (entry.Hang t o place v) = codes "hang" ∷ object_text o ∷ decimal place ∷ object_text v ∷ []
others L (entry.Unhang t o place v) = codes "unhang" ∷ object_text o ∷ decimal place ∷ object_text v ∷ []
others L (entry.Show t o values) = codes "show" ∷ object_text o ∷ map (value_text L) values
others L (entry.Skip t k) = codes "skip" ∷ decimal k ∷ []
others L (entry.Done t) = codes "done" ∷ []
others L (entry.Free o) = object_text o ∷ []

-- a text behind a thread
behind : (t : ℕ) (a b : List ℕ) → a ≡ b → (client_text t ++ a) ++ 10 ∷ [] ≡ (client_text t ++ b) ++ 10 ∷ []
behind t a b e = ap (λ (x : List ℕ). (client_text t ++ x) ++ 10 ∷ []) e

slash : (x i r : List ℕ) → x ++ (47 ∷ (i ++ r)) ≡ (x ++ 47 ∷ i) ++ r
slash x i r = sym (append_assoc x (47 ∷ i) r)

pub said : (L : LoadRows) (e : Entry) → entry_text L e ≡ (subject e ++ flat_map spaced (others L e)) ++ 10 ∷ []
said L (entry.Call t c x i m args) =
    behind t _ _ (ap (λ (r : List ℕ). word (codes "call") (word (decimal c) (32 ∷ r))) (ap (λ (r : List ℕ). target_name L x ++ (codes "/" ++ (instance_text i ++ word (method_name L x m) r))) (listed (arg_text L) args) ∙ slash (target_name L x) (instance_text i) (word (method_name L x m) (flat_map spaced (map (arg_text L) args)))))
said L (entry.Refuse t c k x m args) =
    behind t _ _ (ap (λ (r : List ℕ). word (codes "refuse") (word (decimal c) (word (code_text k) (word (target_name L x) (word (method_name L x m) r))))) (listed (arg_text L) args))
said L (entry.Ret t c results) = behind t _ _ (ap (λ (r : List ℕ). word (codes "ret") (word (decimal c) r)) (listed (value_text L) results))
said L (entry.Unwound t c) = refl
said L (entry.Reload t x i left) = refl
said L (entry.Again t c x i) =
    behind t _ _ (ap (λ (r : List ℕ). word (codes "again") (word (decimal c) (32 ∷ r))) (ap (λ (r : List ℕ). target_name L x ++ 47 ∷ r) (sym (append-nil (instance_text i))) ∙ slash (target_name L x) (instance_text i) []))
said L (entry.Trap t i k) = refl
said L (entry.Kill t i) = refl
said L (entry.New t w o ty values) =
    behind t _ _ (ap (λ (r : List ℕ). word (codes "new") (word (owner_text w) (word (object_text o) (word (struct_name L ty) r)))) (listed decimal values))
said L (entry.Drop t o) = refl
said L (entry.Set t o place values) = behind t _ _ (ap (λ (r : List ℕ). word (codes "set") (word (object_text o) (word (decimal place) r))) (listed decimal values))
said L (entry.Wput t i place v) = refl
said L (entry.Take t i slot o) = refl
said L (entry.Put t i slot o) = refl
said L (entry.DevGet t o block) = refl
said L (entry.DevPut t block o) = refl
said L (entry.Hang t o place v) = refl
said L (entry.Unhang t o place v) = refl
said L (entry.Show t o values) = behind t _ _ (ap (λ (r : List ℕ). word (codes "show") (word (object_text o) r)) (listed (value_text L) values))
said L (entry.Skip t k) = refl
said L (entry.Done t) = refl
said L (entry.Free o) = ap (λ (r : List ℕ). (codes "free" ++ 32 ∷ r) ++ 10 ∷ []) (sym (append-nil (object_text o)))
