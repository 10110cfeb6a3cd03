-- The kind of an entry and its thread are read back from its text.
use Rattle.std.proofs.Common.{◌≡◌, ℕ, ◌<◌, ◌⊎◌, inl, inr, true, List, [], ◌∷◌, ◌++◌, refl, sym, ap, ◌∙◌, arith, codes}
use Rattle.std.specs.List.{position_or_len}
use Rattle.rl_defs.specs.declared.load.LoadRows.{LoadRows}
use Rattle.machine_defs.specs.declared.entry.Entry.{Entry}
use Rattle.machine_defs.specs.declared.entry.Entry.TheVariants as entry
use Rattle.rl_defs.specs.Words.{same_bytes}
use Rattle.machine_defs.specs.Entries.{thread_of}
use Rattle.machine_defs.specs.Texts.{entry_text, act_text, client_text, line}
use Rattle.text_laws.proofs.Tokens.{plain, stops, front, is_plain}

-- the first words of what entries say after their threads
abbrev kinds : List (List ℕ)
kinds = codes "call" ∷ codes "refuse" ∷ codes "ret" ∷ codes "unwound" ∷ codes "reload" ∷ codes "again" ∷ codes "trap" ∷ codes "kill" ∷ codes "new" ∷ codes "drop" ∷ codes "set" ∷ codes "wput" ∷ codes "take" ∷ codes "put" ∷ codes "devget" ∷ codes "devput" ∷ codes "hang" ∷ codes "unhang" ∷ codes "show" ∷ codes "skip" ∷ codes "done" ∷ []

-- the place of an entry's word among these, and their count for a `free`
abbrev pub kind : Entry → ℕ
kind (entry.Call t c x i m args) = 0
kind (entry.Refuse t c k x m args) = 1
kind (entry.Ret t c results) = 2
kind (entry.Unwound t c) = 3
kind (entry.Reload t x i left) = 4
kind (entry.Again t c x i) = 5
kind (entry.Trap t i k) = 6
kind (entry.Kill t i) = 7
kind (entry.New t w o ty values) = 8
kind (entry.Drop t o) = 9
kind (entry.Set t o place values) = 10
kind (entry.Wput t i place v) = 11
kind (entry.Take t i slot o) = 12
kind (entry.Put t i slot o) = 13
kind (entry.DevGet t o block) = 14
kind (entry.DevPut t block o) = 15
kind (entry.Hang t o place v) = 16
kind (entry.Unhang t o place v) = 17
kind (entry.Show t o values) = 18
kind (entry.Skip t k) = 19
kind (entry.Done t) = 20
kind (entry.Free o) = 21

abbrev pub Acts : Entry → Type 0
Acts e = kind e < 21

-- An entry's word, and what follows it.
record Worded (L : LoadRows) (e : Entry) : Type 0 where
  pub word : List ℕ
  pub rest : List ℕ
  pub says : act_text L e ≡ 32 ∷ (word ++ rest)
  pub word_plain : plain word ≡ true
  pub rest_stops : stops rest ≡ true
  pub at : position_or_len (λ w. same_bytes w word) kinds ≡ kind e

worded : (L : LoadRows) (e : Entry) → Acts e → Worded L e
worded L (entry.Call t c x i m args) acts = record { word = codes "call"; rest = _; says = refl; word_plain = refl; rest_stops = refl; at = refl }
worded L (entry.Refuse t c k x m args) acts = record { word = codes "refuse"; rest = _; says = refl; word_plain = refl; rest_stops = refl; at = refl }
worded L (entry.Ret t c results) acts = record { word = codes "ret"; rest = _; says = refl; word_plain = refl; rest_stops = refl; at = refl }
worded L (entry.Unwound t c) acts = record { word = codes "unwound"; rest = _; says = refl; word_plain = refl; rest_stops = refl; at = refl }
worded L (entry.Reload t x i left) acts = record { word = codes "reload"; rest = _; says = refl; word_plain = refl; rest_stops = refl; at = refl }
worded L (entry.Again t c x i) acts = record { word = codes "again"; rest = _; says = refl; word_plain = refl; rest_stops = refl; at = refl }
worded L (entry.Trap t i k) acts = record { word = codes "trap"; rest = _; says = refl; word_plain = refl; rest_stops = refl; at = refl }
worded L (entry.Kill t i) acts = record { word = codes "kill"; rest = _; says = refl; word_plain = refl; rest_stops = refl; at = refl }
worded L (entry.New t w o ty values) acts = record { word = codes "new"; rest = _; says = refl; word_plain = refl; rest_stops = refl; at = refl }
worded L (entry.Drop t o) acts = record { word = codes "drop"; rest = _; says = refl; word_plain = refl; rest_stops = refl; at = refl }
worded L (entry.Set t o place values) acts = record { word = codes "set"; rest = _; says = refl; word_plain = refl; rest_stops = refl; at = refl }
worded L (entry.Wput t i place v) acts = record { word = codes "wput"; rest = _; says = refl; word_plain = refl; rest_stops = refl; at = refl }
worded L (entry.Take t i slot o) acts = record { word = codes "take"; rest = _; says = refl; word_plain = refl; rest_stops = refl; at = refl }
worded L (entry.Put t i slot o) acts = record { word = codes "put"; rest = _; says = refl; word_plain = refl; rest_stops = refl; at = refl }
worded L (entry.DevGet t o block) acts = record { word = codes "devget"; rest = _; says = refl; word_plain = refl; rest_stops = refl; at = refl }
worded L (entry.DevPut t block o) acts = record { word = codes "devput"; rest = _; says = refl; word_plain = refl; rest_stops = refl; at = refl }
worded L (entry.Hang t o place v) acts = record { word = codes "hang"; rest = _; says = refl; word_plain = refl; rest_stops = refl; at = refl }
worded L (entry.Unhang t o place v) acts = record { word = codes "unhang"; rest = _; says = refl; word_plain = refl; rest_stops = refl; at = refl }
worded L (entry.Show t o values) acts = record { word = codes "show"; rest = _; says = refl; word_plain = refl; rest_stops = refl; at = refl }
worded L (entry.Skip t k) acts = record { word = codes "skip"; rest = _; says = refl; word_plain = refl; rest_stops = refl; at = refl }
worded L (entry.Done t) acts = record { word = codes "done"; rest = _; says = refl; word_plain = refl; rest_stops = refl; at = refl }
worded L (entry.Free o) acts = absurd (omega arith)

pub same_kind : (L : LoadRows) (e f : Entry) → Acts e → Acts f → act_text L e ≡ act_text L f → kind e ≡ kind f
same_kind L e f acts does same =
    let a = worded L e acts in
    let b = worded L f does in
    let both : 32 ∷ (a.word ++ a.rest) ≡ 32 ∷ (b.word ++ b.rest) = sym a.says ∙ same ∙ b.says in
    let fronts : a.word ++ a.rest ≡ b.word ++ b.rest = cc in
    let words = (front is_plain a.word b.word a.rest b.rest a.word_plain b.word_plain a.rest_stops b.rest_stops fronts).0 in
    sym a.at ∙ ap (λ (w : List ℕ). position_or_len (λ v. same_bytes v w) kinds) words ∙ b.at

pub act_stops : (L : LoadRows) (e : Entry) → stops (act_text L e) ≡ true
act_stops L (entry.Call t c x i m args) = refl
act_stops L (entry.Refuse t c k x m args) = refl
act_stops L (entry.Ret t c results) = refl
act_stops L (entry.Unwound t c) = refl
act_stops L (entry.Reload t x i left) = refl
act_stops L (entry.Again t c x i) = refl
act_stops L (entry.Trap t i k) = refl
act_stops L (entry.Kill t i) = refl
act_stops L (entry.New t w o ty values) = refl
act_stops L (entry.Drop t o) = refl
act_stops L (entry.Set t o place values) = refl
act_stops L (entry.Wput t i place v) = refl
act_stops L (entry.Take t i slot o) = refl
act_stops L (entry.Put t i slot o) = refl
act_stops L (entry.DevGet t o block) = refl
act_stops L (entry.DevPut t block o) = refl
act_stops L (entry.Hang t o place v) = refl
act_stops L (entry.Unhang t o place v) = refl
act_stops L (entry.Show t o values) = refl
act_stops L (entry.Skip t k) = refl
act_stops L (entry.Done t) = refl
act_stops L (entry.Free o) = refl

-- the line of an entry of a thread
pub act_line : (L : LoadRows) (e : Entry) → Acts e → entry_text L e ≡ line (client_text (thread_of e) ++ act_text L e)
act_line L (entry.Call t c x i m args) acts = refl
act_line L (entry.Refuse t c k x m args) acts = refl
act_line L (entry.Ret t c results) acts = refl
act_line L (entry.Unwound t c) acts = refl
act_line L (entry.Reload t x i left) acts = refl
act_line L (entry.Again t c x i) acts = refl
act_line L (entry.Trap t i k) acts = refl
act_line L (entry.Kill t i) acts = refl
act_line L (entry.New t w o ty values) acts = refl
act_line L (entry.Drop t o) acts = refl
act_line L (entry.Set t o place values) acts = refl
act_line L (entry.Wput t i place v) acts = refl
act_line L (entry.Take t i slot o) acts = refl
act_line L (entry.Put t i slot o) acts = refl
act_line L (entry.DevGet t o block) acts = refl
act_line L (entry.DevPut t block o) acts = refl
act_line L (entry.Hang t o place v) acts = refl
act_line L (entry.Unhang t o place v) acts = refl
act_line L (entry.Show t o values) acts = refl
act_line L (entry.Skip t k) acts = refl
act_line L (entry.Done t) acts = refl
act_line L (entry.Free o) acts = absurd (omega arith)

-- an entry is a `free` or one of a thread
pub free_or_acts : (e : Entry) → ((o : ℕ) × (e ≡ entry.Free o)) ⊎ Acts e
free_or_acts (entry.Free o) = inl (o, refl)
free_or_acts (entry.Call t c x i m args) = inr (omega arith)
free_or_acts (entry.Refuse t c k x m args) = inr (omega arith)
free_or_acts (entry.Ret t c results) = inr (omega arith)
free_or_acts (entry.Unwound t c) = inr (omega arith)
free_or_acts (entry.Reload t x i left) = inr (omega arith)
free_or_acts (entry.Again t c x i) = inr (omega arith)
free_or_acts (entry.Trap t i k) = inr (omega arith)
free_or_acts (entry.Kill t i) = inr (omega arith)
free_or_acts (entry.New t w o ty values) = inr (omega arith)
free_or_acts (entry.Drop t o) = inr (omega arith)
free_or_acts (entry.Set t o place values) = inr (omega arith)
free_or_acts (entry.Wput t i place v) = inr (omega arith)
free_or_acts (entry.Take t i slot o) = inr (omega arith)
free_or_acts (entry.Put t i slot o) = inr (omega arith)
free_or_acts (entry.DevGet t o block) = inr (omega arith)
free_or_acts (entry.DevPut t block o) = inr (omega arith)
free_or_acts (entry.Hang t o place v) = inr (omega arith)
free_or_acts (entry.Unhang t o place v) = inr (omega arith)
free_or_acts (entry.Show t o values) = inr (omega arith)
free_or_acts (entry.Skip t k) = inr (omega arith)
free_or_acts (entry.Done t) = inr (omega arith)
