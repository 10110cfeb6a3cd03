-- Tallies that are kept in a list, one for each thread.
use Rattle.std.proofs.Common.{◌≡◌, ℕ, zero, suc, ◌+◌, ◌<◌, ◌≤◌, Bool, true, false, List, [], ◌∷◌, ◌++◌, length, get_or, set, refl, sym, ap, ◌∙◌, subst, eqb, cond, arith}
use Rattle.std.specs.Prelude.{if◌then◌else◌}
use Rattle.std.specs.List.{position_or_len}
use Rattle.std.proofs.lemmas.Bool.{eqb-true, eq-eqb, eqb-false, ne_eqb}
use Rattle.history_text.specs.declared.tallies.Tally.{Tally}
use Rattle.history_text.specs.declared.tallies.ThreadTally.{ThreadTally}
use Rattle.machine_defs.specs.declared.entry.Entry.{Entry}
use Rattle.machine_defs.specs.Entries.{thread_of}
use Rattle.machine_defs.specs.Texts as text
use Rattle.machine_defs.specs.Texts.{tally_of_own, tally_after}
use Rattle.history_text.specs.Tallies.{told, told_of}

abbrev pub kept : ℕ → Tally → ThreadTally
kept t y = record { thread = t; tally = y }

abbrev pub place : List ThreadTally → ℕ → ℕ
place ts t = position_or_len (λ k. eqb k.thread t) ts

-- the tally of a thread in the place of the one that was kept, or behind all
abbrev pub put : List ThreadTally → ℕ → Tally → List ThreadTally
put [] t y = kept t y ∷ []
put (k ∷ ts) t y = if eqb k.thread t then kept t y ∷ ts else k ∷ put ts t y

place_yes : (k : ThreadTally) (ts : List ThreadTally) (t : ℕ) → eqb k.thread t ≡ true → place (k ∷ ts) t ≡ 0
place_yes k ts t is = rw is refl

place_no : (k : ThreadTally) (ts : List ThreadTally) (t : ℕ) → eqb k.thread t ≡ false → place (k ∷ ts) t ≡ suc (place ts t)
place_no k ts t isnt = let one : 1 + place ts t ≡ suc (place ts t) = omega arith in rw isnt one

pub put_at : (ts : List ThreadTally) (t : ℕ) (y : Tally) → place ts t < length ts → set ts (place ts t) (kept t y) ≡ put ts t y
put_at [] t y less = absurd (omega arith)
put_at (k ∷ ts) t y less = by (eqb k.thread t) refl (put_at ts t y) where
  by : (b : Bool) → eqb k.thread t ≡ b → (place ts t < length ts → set ts (place ts t) (kept t y) ≡ put ts t y) → set (k ∷ ts) (place (k ∷ ts) t) (kept t y) ≡ put (k ∷ ts) t y
  by true is more = ap (λ (n : ℕ). set (k ∷ ts) n (kept t y)) (place_yes k ts t is) ∙ rw is refl
  by false isnt more =
      let at = place_no k ts t isnt in
      let inside : place ts t < length ts = omega arith in
      ap (λ (n : ℕ). set (k ∷ ts) n (kept t y)) at ∙ (ap (λ (us : List ThreadTally). k ∷ us) (more inside) ∙ rw isnt refl)

pub put_last : (ts : List ThreadTally) (t : ℕ) (y : Tally) → length ts ≤ place ts t → ts ++ kept t y ∷ [] ≡ put ts t y
put_last [] t y past = refl
put_last (k ∷ ts) t y past = by (eqb k.thread t) refl (put_last ts t y) where
  by : (b : Bool) → eqb k.thread t ≡ b → (length ts ≤ place ts t → ts ++ kept t y ∷ [] ≡ put ts t y) → (k ∷ ts) ++ kept t y ∷ [] ≡ put (k ∷ ts) t y
  by true is more = let at = place_yes k ts t is in absurd (omega arith)
  by false isnt more =
      let at = place_no k ts t isnt in
      let behind : length ts ≤ place ts t = omega arith in
      ap (λ (us : List ThreadTally). k ∷ us) (more behind) ∙ rw isnt refl

-- what is told of a thread is where its tally is kept
pub told_at : (ts : List ThreadTally) (t : ℕ) (d : ThreadTally) → place ts t < length ts → told (get_or ts (place ts t) d).tally ≡ told_of ts t
told_at [] t d less = absurd (omega arith)
told_at (k ∷ ts) t d less = by (eqb k.thread t) refl (told_at ts t d) where
  by : (b : Bool) → eqb k.thread t ≡ b → (place ts t < length ts → told (get_or ts (place ts t) d).tally ≡ told_of ts t) → told (get_or (k ∷ ts) (place (k ∷ ts) t) d).tally ≡ told_of (k ∷ ts) t
  by true is more = ap (λ (n : ℕ). told (get_or (k ∷ ts) n d).tally) (place_yes k ts t is) ∙ rw is refl
  by false isnt more =
      let at = place_no k ts t isnt in
      let inside : place ts t < length ts = omega arith in
      ap (λ (n : ℕ). told (get_or (k ∷ ts) n d).tally) at ∙ (more inside ∙ rw isnt refl)

pub told_none : (ts : List ThreadTally) (t : ℕ) → length ts ≤ place ts t → text.no_tally ≡ told_of ts t
told_none [] t past = refl
told_none (k ∷ ts) t past = by (eqb k.thread t) refl (told_none ts t) where
  by : (b : Bool) → eqb k.thread t ≡ b → (length ts ≤ place ts t → text.no_tally ≡ told_of ts t) → text.no_tally ≡ told_of (k ∷ ts) t
  by true is more = let at = place_yes k ts t is in absurd (omega arith)
  by false isnt more =
      let at = place_no k ts t isnt in
      let behind : length ts ≤ place ts t = omega arith in
      more behind ∙ rw isnt refl

-- what is told of every thread once a tally is put
told_put : (ts : List ThreadTally) (t u : ℕ) (y : Tally) → told_of (put ts t y) u ≡ cond (eqb t u) (told y) (told_of ts u)
told_put [] t u y = refl
told_put (k ∷ ts) t u y = by (eqb k.thread t) (eqb k.thread u) refl refl (told_put ts t u y) where
  by : (b c : Bool) → eqb k.thread t ≡ b → eqb k.thread u ≡ c → told_of (put ts t y) u ≡ cond (eqb t u) (told y) (told_of ts u) → told_of (if b then kept t y ∷ ts else k ∷ put ts t y) u ≡ cond (eqb t u) (told y) (cond c (told k.tally) (told_of ts u))
  by true true is also more = let same : eqb t u ≡ true = eq-eqb t u (sym (eqb-true k.thread t is) ∙ eqb-true k.thread u also) in rw same refl
  by true false is isnt more = refl
  by false true isnt is more =
      let apart : eqb t u ≡ false = ne_eqb t u (λ e. eqb-false k.thread t isnt (eqb-true k.thread u is ∙ sym e)) in
      rw (is, apart) refl
  by false false isnt not more = rw not more

pub told_after : (ts us : List ThreadTally) (e : Entry) (y : Tally) (t u : ℕ) → t ≡ thread_of e → us ≡ put ts t y → told y ≡ tally_of_own e (told_of ts t) → told_of us u ≡ tally_after u (told_of ts u) e
told_after ts us e y t u at is own = ap (λ (vs : List ThreadTally). told_of vs u) is ∙ (told_put ts t u y ∙ by (eqb t u) refl) where
  by : (b : Bool) → eqb t u ≡ b → cond (eqb t u) (told y) (told_of ts u) ≡ tally_after u (told_of ts u) e
  by true same =
      let one : t ≡ u = eqb-true t u same in
      let there : eqb (thread_of e) u ≡ true = eq-eqb (thread_of e) u (sym at ∙ one) in
      rw (same, there) (own ∙ ap (λ (n : ℕ). tally_of_own e (told_of ts n)) one)
  by false apart =
      let elsewhere : eqb (thread_of e) u ≡ false = ne_eqb (thread_of e) u (λ f. eqb-false t u apart (at ∙ f)) in
      rw (apart, elsewhere) refl

-- what is told of nothing
abbrev pub none : Tally
none = record { calls = 0; commands = 0 }
