-- No two entries of a load have one text.
use Rattle.std.proofs.Common.{◌≡◌, ℕ, inl, inr, List, [], ◌∷◌, ◌++◌, refl, sym, ap, ◌∙◌, ◌⊎◌, subst, arith, codes}
use Rattle.std.specs.Fmt.{decimal}
use Rattle.std.proofs.lemmas.List.{append_cancel_left, append_cancel_right}
use Rattle.std.proofs.lemmas.List.Elements.{recursion_from_All}
use Rattle.rl_defs.specs.declared.load.LoadRows.{LoadRows}
use Rattle.machine_defs.specs.declared.entry.Entry.{Entry}
use Rattle.machine_defs.specs.declared.entry.Entry.TheVariants as entry
use Rattle.rl_defs.specs.Valid.{Valid}
use Rattle.machine_defs.specs.Entries.{thread_of}
use Rattle.machine_defs.specs.Texts.{entry_text, act_text, value_text, client_text, instance_text, object_text, line, word}
use Rattle.machine_defs.specs.EntryTexts.{HasWords, IsWord, Fits64, TextsAreApart}
use Rattle.text_laws.proofs.Told.{IsTold, IsValue, told}
use Rattle.text_laws.proofs.Tokens.{ReadsBack, read, front, is_plain, read_list, listed_stops}
use Rattle.text_laws.proofs.Spelled.{number, object, client, instance, error, ended_by}
use Rattle.text_laws.proofs.Named.{word_plain, target, struct}
use Rattle.text_laws.proofs.Fields.{owned_by, listed_value, read_called, unlike}
use Rattle.text_laws.proofs.EntryKinds.{kind, Acts, same_kind, act_stops, act_line, free_or_acts}

pub slot_name : ReadsBack IsWord (λ name. name)
slot_name = record { plain_text = word_plain; apart = λ a b is also e. e }

-- what follows a word that is the same in both
after : (w r q : List ℕ) → word w r ≡ word w q → r ≡ q
after w r q e = append_cancel_left (32 ∷ w) r q e

-- the thread of an entry is a number of 64 bits
pub thread_fits : (L : LoadRows) (e : Entry) → IsTold L e → Fits64 (thread_of e)
thread_fits L (entry.Call t c x i m args) good = good.0
thread_fits L (entry.Refuse t c k x m args) good = good.0
thread_fits L (entry.Ret t c results) good = good.0
thread_fits L (entry.Unwound t c) good = good.0
thread_fits L (entry.Reload t x i left) good = good.0
thread_fits L (entry.Again t c x i) good = good.0
thread_fits L (entry.Trap t i k) good = good.0
thread_fits L (entry.Kill t i) good = good.0
thread_fits L (entry.New t w o ty values) good = good.0
thread_fits L (entry.Drop t o) good = good.0
thread_fits L (entry.Set t o place values) good = good.0
thread_fits L (entry.Wput t i place v) good = good.0
thread_fits L (entry.Take t i slot o) good = good.0
thread_fits L (entry.Put t i slot o) good = good.0
thread_fits L (entry.DevGet t o block) good = good.0
thread_fits L (entry.DevPut t block o) good = good.0
thread_fits L (entry.Hang t o place v) good = good.0
thread_fits L (entry.Unhang t o place v) good = good.0
thread_fits L (entry.Show t o values) good = good.0
thread_fits L (entry.Skip t k) good = good.0
thread_fits L (entry.Done t) good = good
thread_fits L (entry.Free o) good = omega arith

-- one, two and three fields behind a word
one_field : {A : Type 0} {Good : A → Type 0} {text : A → List ℕ} (w : List ℕ) → ReadsBack Good text → (a b : A) → Good a → Good b → word w (word (text a) []) ≡ word w (word (text b) []) → a ≡ b
one_field w known a b good fine e = (read known a b [] [] good fine refl refl (after w _ _ e)).0

two_fields : {A B : Type 0} {GoodA : A → Type 0} {GoodB : B → Type 0} {text_a : A → List ℕ} {text_b : B → List ℕ} (w : List ℕ) → ReadsBack GoodA text_a → ReadsBack GoodB text_b → (a a' : A) (b b' : B) → GoodA a → GoodA a' → GoodB b → GoodB b'
    → word w (word (text_a a) (word (text_b b) [])) ≡ word w (word (text_a a') (word (text_b b') [])) → (a ≡ a') × (b ≡ b')
two_fields {text_b = text_b} w first second a a' b b' good_a fine_a good_b fine_b e =
    let x = read first a a' (word (text_b b) []) (word (text_b b') []) good_a fine_a refl refl (after w _ _ e) in
    (x.0, (read second b b' [] [] good_b fine_b refl refl x.1).0)

three_fields : {A B C : Type 0} {GoodA : A → Type 0} {GoodB : B → Type 0} {GoodC : C → Type 0} {text_a : A → List ℕ} {text_b : B → List ℕ} {text_c : C → List ℕ} (w : List ℕ) → ReadsBack GoodA text_a → ReadsBack GoodB text_b → ReadsBack GoodC text_c
    → (a a' : A) (b b' : B) (c c' : C) → GoodA a → GoodA a' → GoodB b → GoodB b' → GoodC c → GoodC c'
    → word w (word (text_a a) (word (text_b b) (word (text_c c) []))) ≡ word w (word (text_a a') (word (text_b b') (word (text_c c') []))) → (a ≡ a') × (b ≡ b') × (c ≡ c')
three_fields {text_b = text_b} {text_c = text_c} w first second third a a' b b' c c' good_a fine_a good_b fine_b good_c fine_c e =
    let x = read first a a' (word (text_b b) (word (text_c c) [])) (word (text_b b') (word (text_c c') [])) good_a fine_a refl refl (after w _ _ e) in
    let y = read second b b' (word (text_c c) []) (word (text_c c') []) good_b fine_b refl refl x.1 in
    (x.0, y.0, (read third c c' [] [] good_c fine_c refl refl y.1).0)

module _ (L : LoadRows) (valid : Valid L) (words : HasWords L) where
  -- entries of one kind, of one thread, that say the same
  pub same_entry : (e f : Entry) → IsTold L e → IsTold L f → Acts e → kind e ≡ kind f → thread_of e ≡ thread_of f → act_text L e ≡ act_text L f → e ≡ f
  same_entry (entry.Call t c x i m args) (entry.Call t' c' x' i' m' args') good fine acts like thread says =
      let p0 = after (codes "call") _ _ says in
      let p1 = read number c c' _ _ good.1 fine.1 refl refl p0 in
      let same_c = p1.0 in
      let p2 = read (target L valid words) x x' _ _ good.2 fine.2 refl refl p1.1 in
      let same_x = p2.0 in
      let p3 = read instance i i' _ _ good.3 fine.3 refl refl p2.1 in
      let same_i = p3.0 in
      let p4 = read_called L valid words x x' m m' args args' same_x good.2 good.4 fine.4 good.5 fine.5 p3.1 in
      let same_m = p4.0 in
      let same_args = p4.1 in
      cc
  same_entry (entry.Refuse t c k x m args) (entry.Refuse t' c' k' x' m' args') good fine acts like thread says =
      let p0 = after (codes "refuse") _ _ says in
      let p1 = read number c c' _ _ good.1 fine.1 refl refl p0 in
      let same_c = p1.0 in
      let p2 = read error k k' _ _ tt tt refl refl p1.1 in
      let same_k = p2.0 in
      let p3 = read (target L valid words) x x' _ _ good.2 fine.2 refl refl p2.1 in
      let same_x = p3.0 in
      let p4 = read_called L valid words x x' m m' args args' same_x good.2 good.3 fine.3 good.4 fine.4 p3.1 in
      let same_m = p4.0 in
      let same_args = p4.1 in
      cc
  same_entry (entry.Ret t c results) (entry.Ret t' c' results') good fine acts like thread says =
      let p0 = after (codes "ret") _ _ says in
      let p1 = read number c c' _ _ good.1 fine.1 (listed_stops (value_text L) results) (listed_stops (value_text L) results') p0 in
      let same_c = p1.0 in
      let same_results = read_list (listed_value L valid words) results results' (recursion_from_All (IsValue L) results good.2) (recursion_from_All (IsValue L) results' fine.2) p1.1 in
      cc
  same_entry (entry.Unwound t c) (entry.Unwound t' c') good fine acts like thread says = let parts = one_field (codes "unwound") number c c' good.1 fine.1 says in cc
  same_entry (entry.Reload t x i left) (entry.Reload t' x' i' left') good fine acts like thread says = let parts = three_fields (codes "reload") (target L valid words) instance number x x' i i' left left' good.1 fine.1 good.2 fine.2 good.3 fine.3 says in cc
  same_entry (entry.Again t c x i) (entry.Again t' c' x' i') good fine acts like thread says =
      let p0 = after (codes "again") _ _ says in
      let p1 = read number c c' _ _ good.1 fine.1 refl refl p0 in
      let same_c = p1.0 in
      let p2 = read (target L valid words) x x' _ _ good.2 fine.2 refl refl p1.1 in
      let same_x = p2.0 in
      let same_i = instance.apart i i' good.3 fine.3 (append_cancel_left (codes "/") (instance_text i) (instance_text i') p2.1) in
      cc
  same_entry (entry.Trap t i k) (entry.Trap t' i' k') good fine acts like thread says = let parts = two_fields (codes "trap") instance ended_by i i' k k' good.1 fine.1 tt tt says in cc
  same_entry (entry.Kill t i) (entry.Kill t' i') good fine acts like thread says = let parts = one_field (codes "kill") instance i i' good.1 fine.1 says in cc
  same_entry (entry.New t w o ty values) (entry.New t' w' o' ty' values') good fine acts like thread says =
      let p0 = after (codes "new") _ _ says in
      let p1 = read owned_by w w' _ _ good.1 fine.1 refl refl p0 in
      let same_w = p1.0 in
      let p2 = read object o o' _ _ good.2 fine.2 refl refl p1.1 in
      let same_o = p2.0 in
      let p3 = read (struct L valid words) ty ty' _ _ good.3 fine.3 (listed_stops decimal values) (listed_stops decimal values') p2.1 in
      let same_ty = p3.0 in
      let same_values = read_list number values values' (recursion_from_All Fits64 values good.4) (recursion_from_All Fits64 values' fine.4) p3.1 in
      cc
  same_entry (entry.Drop t o) (entry.Drop t' o') good fine acts like thread says = let parts = one_field (codes "drop") object o o' good.1 fine.1 says in cc
  same_entry (entry.Set t o place values) (entry.Set t' o' place' values') good fine acts like thread says =
      let p0 = after (codes "set") _ _ says in
      let p1 = read object o o' _ _ good.1 fine.1 refl refl p0 in
      let same_o = p1.0 in
      let p2 = read number place place' _ _ good.2 fine.2 (listed_stops decimal values) (listed_stops decimal values') p1.1 in
      let same_place = p2.0 in
      let same_values = read_list number values values' (recursion_from_All Fits64 values good.3) (recursion_from_All Fits64 values' fine.3) p2.1 in
      cc
  same_entry (entry.Wput t i place v) (entry.Wput t' i' place' v') good fine acts like thread says = let parts = three_fields (codes "wput") instance number number i i' place place' v v' good.1 fine.1 good.2 fine.2 good.3 fine.3 says in cc
  same_entry (entry.Take t i slot o) (entry.Take t' i' slot' o') good fine acts like thread says = let parts = three_fields (codes "take") instance slot_name object i i' slot slot' o o' good.1 fine.1 good.2 fine.2 good.3 fine.3 says in cc
  same_entry (entry.Put t i slot o) (entry.Put t' i' slot' o') good fine acts like thread says = let parts = three_fields (codes "put") instance slot_name object i i' slot slot' o o' good.1 fine.1 good.2 fine.2 good.3 fine.3 says in cc
  same_entry (entry.DevGet t o block) (entry.DevGet t' o' block') good fine acts like thread says = let parts = two_fields (codes "devget") object number o o' block block' good.1 fine.1 good.2 fine.2 says in cc
  same_entry (entry.DevPut t block o) (entry.DevPut t' block' o') good fine acts like thread says = let parts = two_fields (codes "devput") number object block block' o o' good.1 fine.1 good.2 fine.2 says in cc
  same_entry (entry.Hang t o place v) (entry.Hang t' o' place' v') good fine acts like thread says = let parts = three_fields (codes "hang") object number object o o' place place' v v' good.1 fine.1 good.2 fine.2 good.3 fine.3 says in cc
  same_entry (entry.Unhang t o place v) (entry.Unhang t' o' place' v') good fine acts like thread says = let parts = three_fields (codes "unhang") object number object o o' place place' v v' good.1 fine.1 good.2 fine.2 good.3 fine.3 says in cc
  same_entry (entry.Show t o values) (entry.Show t' o' values') good fine acts like thread says =
      let p0 = after (codes "show") _ _ says in
      let p1 = read object o o' _ _ good.1 fine.1 (listed_stops (value_text L) values) (listed_stops (value_text L) values') p0 in
      let same_o = p1.0 in
      let same_values = read_list (listed_value L valid words) values values' (recursion_from_All (IsValue L) values good.2) (recursion_from_All (IsValue L) values' fine.2) p1.1 in
      cc
  same_entry (entry.Skip t k) (entry.Skip t' k') good fine acts like thread says = let parts = one_field (codes "skip") number k k' good.1 fine.1 says in cc
  same_entry (entry.Done t) (entry.Done t') good fine acts like thread says =
      cc
  same_entry (entry.Free o) f good fine acts like thread says = absurd (omega arith)
  same_entry e f good fine acts like thread says = absurd (omega (arith, like))

  -- entries of threads
  both_act : (e f : Entry) → IsTold L e → IsTold L f → Acts e → Acts f → entry_text L e ≡ entry_text L f → e ≡ f
  both_act e f good fine acts does same =
      let texts : line (client_text (thread_of e) ++ act_text L e) ≡ line (client_text (thread_of f) ++ act_text L f) = sym (act_line L e acts) ∙ same ∙ act_line L f does in
      let says = append_cancel_right (client_text (thread_of e) ++ act_text L e) (client_text (thread_of f) ++ act_text L f) (10 ∷ []) texts in
      let fronts = front is_plain (client_text (thread_of e)) (client_text (thread_of f)) (act_text L e) (act_text L f) (client.plain_text (thread_of e) (thread_fits L e good)) (client.plain_text (thread_of f) (thread_fits L f fine)) (act_stops L e) (act_stops L f) says in
      same_entry e f good fine acts (same_kind L e f acts does fronts.1) (client.apart (thread_of e) (thread_of f) (thread_fits L e good) (thread_fits L f fine) fronts.0) fronts.1

  -- a `free` and an entry of a thread
  free_unlike : {A : Type 0} (o : ℕ) (f : Entry) → Acts f → entry_text L (entry.Free o) ≡ entry_text L f → A
  free_unlike o f does same =
      let texts : entry_text L (entry.Free o) ≡ line (client_text (thread_of f) ++ act_text L f) = same ∙ act_line L f does in
      unlike 99 102 _ _ (omega arith) (sym texts)

  both_free : (o p : ℕ) → Fits64 o → Fits64 p → entry_text L (entry.Free o) ≡ entry_text L (entry.Free p) → entry.Free o ≡ entry.Free p
  both_free o p good fine same =
      let texts = append_cancel_right (codes "free " ++ object_text o) (codes "free " ++ object_text p) (10 ∷ []) same in
      ap entry.Free (object.apart o p good fine (append_cancel_left (codes "free ") (object_text o) (object_text p) texts))

  pub entries_apart : (e f : Entry) → IsTold L e → IsTold L f → entry_text L e ≡ entry_text L f → e ≡ f
  entries_apart e f good fine same = by (free_or_acts e) (free_or_acts f) where
    by : ((o : ℕ) × (e ≡ entry.Free o)) ⊎ Acts e → ((o : ℕ) × (f ≡ entry.Free o)) ⊎ Acts f → e ≡ f
    by (inr acts) (inr does) = both_act e f good fine acts does same
    by (inl is) (inr does) = free_unlike is.0 f does (ap (entry_text L) (sym is.1) ∙ same)
    by (inr acts) (inl is) = free_unlike is.0 e acts (ap (entry_text L) (sym is.1) ∙ sym same)
    by (inl is) (inl also) =
        let frees = both_free is.0 also.0 (subst (IsTold L) is.1 good) (subst (IsTold L) also.1 fine) (ap (entry_text L) (sym is.1) ∙ same ∙ ap (entry_text L) also.1) in
        is.1 ∙ frees ∙ sym also.1

pub texts_apart : TextsAreApart
texts_apart L e f valid words good fine same = entries_apart L valid words e f (told L e good) (told L f fine) same
