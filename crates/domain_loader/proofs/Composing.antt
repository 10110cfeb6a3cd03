-- One phase behind another: where the first fails, that is the answer; where it doesn't, the later one's answer is.
use Rattle.std.proofs.Common.{◌≡◌, ℕ, ◌⊎◌, inl, inr, refl}
use Rattle.std.specs.Prelude.{Result, Ok, Err}
use Rattle.rl_defs.specs.declared.LoadFault.{LoadFault}
use Rattle.rl_defs.specs.declared.LoadFault.TheVariants.{Refused, Memory}
use Rattle.rl_defs.specs.Refusals.{Failing, IsFirst, Nowhere, Answers}
use Rattle.rl_defs.specs.Acceptance.{Next}

-- a refusal of the first phase
pub first_of_next : (F G : Failing) (line rule : ℕ) → IsFirst F line rule → IsFirst (Next F G) line rule
first_of_next F G line rule h = record {
  fails = inl h.fails;
  first = λ l r f. elim f [ inl a ↦ h.first l r a | inr a ↦ absurd (a.0 line rule h.fails) ];
}

-- a refusal of the later one, where nothing of the first fails
pub later_of_next : (F G : Failing) (line rule : ℕ) → Nowhere F → IsFirst G line rule → IsFirst (Next F G) line rule
later_of_next F G line rule none h = record {
  fails = inr (none, h.fails);
  first = λ l r f. elim f [ inl a ↦ absurd (none l r a) | inr a ↦ h.first l r a.1 ];
}

pub none_of_next : (F G : Failing) → Nowhere F → Nowhere G → Nowhere (Next F G)
none_of_next F G none more l r f = elim f [ inl a ↦ none l r a | inr a ↦ more l r a.1 ]

-- the refusal that the first phase answers is the answer of both
pub refused_next : {X Y : Type 0} (F G : Failing) (S : X → Type 0) (T : Y → Type 0) (e : LoadFault) → Answers {X = X} F S (Err e) → Answers {X = Y} (Next F G) T (Err e)
refused_next F G S T (Refused at) h = first_of_next F G at.line at.rule h
refused_next F G S T Memory h = h

-- the refusal that the later phase answers is the answer of both, where nothing of the first fails
pub later_refused : {X Y : Type 0} (F G : Failing) (S : X → Type 0) (T : Y → Type 0) (e : LoadFault) → Nowhere F → Answers {X = X} G S (Err e) → Answers {X = Y} (Next F G) T (Err e)
later_refused F G S T (Refused at) none h = later_of_next F G at.line at.rule none h
later_refused F G S T Memory none h = h

-- what the later phase answers is the answer of both, where nothing of the first fails
pub answers_next : {Y : Type 0} (F G : Failing) (T : Y → Type 0) (r : Result Y LoadFault) → Nowhere F → Answers {X = Y} G T r → Answers {X = Y} (Next F G) T r
answers_next F G T (Ok y) none h = (none_of_next F G none h.0, h.1)
answers_next F G T (Err (Refused at)) none h = later_of_next F G at.line at.rule none h
answers_next F G T (Err Memory) none h = h

-- the same failing pairs, the same answers
pub same_answers : {Y : Type 0} (F G : Failing) (T : Y → Type 0) (r : Result Y LoadFault) → ((l n : ℕ) → F l n → G l n) → ((l n : ℕ) → G l n → F l n) → Answers {X = Y} F T r → Answers {X = Y} G T r
same_answers F G T (Ok y) to from h = (λ l n g. h.0 l n (from l n g), h.1)
same_answers F G T (Err (Refused at)) to from h = record { fails = to at.line at.rule h.fails; first = λ l n g. h.first l n (from l n g) }
same_answers F G T (Err Memory) to from h = h

-- what is answered may be told in other words
pub other_words : {Y : Type 0} (F : Failing) (S T : Y → Type 0) (r : Result Y LoadFault) → ((y : Y) → S y → T y) → Answers {X = Y} F S r → Answers {X = Y} F T r
other_words F S T (Ok y) so h = (h.0, so y h.1)
other_words F S T (Err (Refused at)) so h = h
other_words F S T (Err Memory) so h = h
