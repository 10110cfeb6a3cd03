-- Paths through fields outside RRef.
use Rattle.std.proofs.Common.{ℕ, List, [], ◌∷◌, ◌++◌, inl, inr}
use Rattle.rl_defs.specs.Interfaces.{Lines}
use Rattle.rl_defs.specs.Holding.{HasField, FieldsLead, Reaches, IsEndless, HasRRef, HoldsRRef}

leads_more : (lines : Lines) (s : ℕ) (us : List ℕ) (t u : ℕ) → FieldsLead lines s us t → HasField lines t u → FieldsLead lines s (us ++ t ∷ []) u
leads_more lines s [] t u h f = (h, f)
leads_more lines s (v ∷ us) t u h f = (h.0, leads_more lines v us t u h.1 f)

-- from s to t, and on by one field
pub reaches_more : (lines : Lines) (s t u : ℕ) → Reaches lines s t → HasField lines t u → Reaches lines s u
reaches_more lines s t u r f = (r.0 ++ t ∷ [], leads_more lines s r.0 t u r.1 f)

pub reaches_field : (lines : Lines) (s t : ℕ) → HasField lines s t → Reaches lines s t
reaches_field lines s t f = ([], f)

-- a field leads to an endless struct
pub endless_by_field : (lines : Lines) (s t : ℕ) → HasField lines s t → IsEndless lines t → IsEndless lines s
endless_by_field lines s t f e = (e.0, (t ∷ e.1.0, (f, e.1.1)), e.2)

-- a struct whose fields are not endless is not
pub fields_end : (lines : Lines) (s : ℕ) → ((t : ℕ) → HasField lines s t → IsEndless lines t → ⊥) → IsEndless lines s → ⊥
fields_end lines s safe (t, ([], f), round) = safe t f (t, round, round)
fields_end lines s safe (t, (u ∷ us, f), round) = safe u f.0 (t, (us, f.1), round)

no_lead : (lines : Lines) (clean : ℕ → Type 0) → ((s : ℕ) → clean s → HasRRef lines s → ⊥) → ((s t : ℕ) → clean s → HasField lines s t → clean t) → (s : ℕ) (us : List ℕ) (t : ℕ) → clean s → FieldsLead lines s us t → HasRRef lines t → ⊥
no_lead lines clean none closed s [] t c f h = none t (closed s t c f) h
no_lead lines clean none closed s (u ∷ us) t c f h = no_lead lines clean none closed u us t (closed s u c f.0) f.1 h

-- where no struct of a closed set has an RRef, none of them holds one
pub none_holds : (lines : Lines) (clean : ℕ → Type 0) → ((s : ℕ) → clean s → HasRRef lines s → ⊥) → ((s t : ℕ) → clean s → HasField lines s t → clean t) → (s : ℕ) → clean s → HoldsRRef lines s → ⊥
none_holds lines clean none closed s c (inl h) = none s c h
none_holds lines clean none closed s c (inr (t, r, h)) = no_lead lines clean none closed s r.0 t c r.1 h
