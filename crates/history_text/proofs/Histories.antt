-- What a history tells, one entry later.
use Rattle.std.proofs.Common.{◌≡◌, ℕ, ◌+◌, ◌≤◌, ◌<◌, Bool, true, false, List, [], ◌∷◌, ◌++◌, length, take, refl, sym, ap, ◌∙◌, arith, append_assoc, append-nil, cond, eqb}
use Rattle.std.proofs.lemmas.List.{length-take-le}
use Rattle.machine_defs.specs.declared.entry.Entry.{Entry}
use Rattle.machine_defs.specs.declared.entry.Entry.TheVariants as entry
use Rattle.rl_defs.specs.declared.load.LoadRows.{LoadRows}
use Rattle.machine_defs.specs.Texts.{Tally, no_tally, open_after, begins_command, tally_of_own, tally_after, tally_from, tally, reply_text, replies_after, replies_text}
use Rattle.machine_defs.specs.Entries.{thread_of}

-- the tally of a thread after one entry more
tally_from_push : (t : ℕ) (y : Tally) (H : List Entry) (e : Entry) → tally_from t y (H ++ e ∷ []) ≡ tally_after t (tally_from t y H) e
tally_from_push t y [] e = refl
tally_from_push t y (x ∷ H) e = tally_from_push t (tally_after t y x) H e

pub tally_push : (t : ℕ) (H : List Entry) (e : Entry) → tally t (H ++ e ∷ []) ≡ tally_after t (tally t H) e
tally_push t H e = tally_from_push t no_tally H e

-- a tally grows by at most one at an entry
opens_one : (e : Entry) (n : ℕ) → open_after e n ≤ n + 1
opens_one (entry.Call t c x i m args) n = omega arith
opens_one (entry.Ret t c results) n = omega arith
opens_one (entry.Unwound t c) n = omega arith
opens_one e n = omega arith

begins_one : (a b : Bool) (n : ℕ) → cond a (cond b (n + 1) n) n ≤ n + 1
begins_one true true n = omega arith
begins_one true false n = omega arith
begins_one false b n = omega arith

tells_one : (b : Bool) (e : Entry) (y : Tally) → ((cond b (tally_of_own e y) y).calls ≤ y.calls + 1) × ((cond b (tally_of_own e y) y).commands ≤ y.commands + 1)
tells_one true e y = (opens_one e y.calls, begins_one (eqb y.calls 0) (begins_command e) y.commands)
tells_one false e y = (omega arith, omega arith)

grows : (t : ℕ) (y : Tally) (H : List Entry) → ((tally_from t y H).calls ≤ y.calls + length H) × ((tally_from t y H).commands ≤ y.commands + length H)
grows t y [] = (omega arith, omega arith)
grows t y (e ∷ H) =
    let one = tells_one (eqb (thread_of e) t) e y in
    let more = grows t (tally_after t y e) H in
    (omega (arith, one.0, more.0), omega (arith, one.1, more.1))

-- a tally is at most the length of the history
pub few_calls : (t : ℕ) (H : List Entry) → (tally t H).calls ≤ length H
few_calls t H = omega (arith, (grows t no_tally H).0)

pub few_commands : (t : ℕ) (H : List Entry) → (tally t H).commands ≤ length H
few_commands t H = omega (arith, (grows t no_tally H).1)

-- the replies after one entry more
replies_after_push : (L : LoadRows) (B H : List Entry) (e : Entry) → replies_after L B (H ++ e ∷ []) ≡ replies_after L B H ++ reply_text L (tally (thread_of e) (B ++ H)) e
replies_after_push L B [] e = rw (append-nil B, append-nil) refl
replies_after_push L B (x ∷ H) e =
    rw (replies_after_push L (B ++ x ∷ []) H e, append_assoc B (x ∷ []) H) (sym (append_assoc (reply_text L (tally (thread_of x) B) x) (replies_after L (B ++ x ∷ []) H) (reply_text L (tally (thread_of e) (B ++ x ∷ H)) e)))

pub replies_push : (L : LoadRows) (H : List Entry) (e : Entry) → replies_text L (H ++ e ∷ []) ≡ replies_text L H ++ reply_text L (tally (thread_of e) H) e
replies_push L H e = replies_after_push L [] H e

-- what is told of the first entries is little
pub few_told : (y : Tally) (t i : ℕ) (H : List Entry) → y ≡ tally t (take i H) → i < length H → (y.calls ≤ i) × (y.commands ≤ i)
few_told y t i H e inside =
    let len : length (take i H) ≡ i = length-take-le i H (omega arith) in
    (omega (arith, len, ap (λ (z : Tally). z.calls) e, few_calls t (take i H)), omega (arith, len, ap (λ (z : Tally). z.commands) e, few_commands t (take i H)))

-- the replies to one entry more
pub replied : (L : LoadRows) (H : List Entry) (i : ℕ) (e : Entry) (old out new : List ℕ) (y : Tally) → take (i + 1) H ≡ take i H ++ e ∷ [] → out ≡ old ++ replies_text L (take i H) → y ≡ tally (thread_of e) (take i H) → new ≡ out ++ reply_text L y e → new ≡ old ++ replies_text L (take (i + 1) H)
replied L H i e old out new y more before same step =
    let after : replies_text L (take i H) ++ reply_text L y e ≡ replies_text L (take (i + 1) H) =
    ap (λ (z : Tally). replies_text L (take i H) ++ reply_text L z e) same ∙ (sym (replies_push L (take i H) e) ∙ ap (replies_text L) (sym more)) in
    step ∙ (ap (λ xs. xs ++ reply_text L y e) before ∙ (append_assoc old (replies_text L (take i H)) (reply_text L y e) ∙ ap (λ xs. old ++ xs) after))

-- and what is told of a thread
pub told_more : (t i : ℕ) (H : List Entry) (e : Entry) (y z : Tally) → take (i + 1) H ≡ take i H ++ e ∷ [] → y ≡ tally t (take i H) → z ≡ tally_after t y e → z ≡ tally t (take (i + 1) H)
told_more t i H e y z more before step =
    step ∙ (ap (λ (w : Tally). tally_after t w e) before ∙ (sym (tally_push t (take i H) e) ∙ ap (tally t) (sym more)))
