-- Rows that are built line by line.
use Rattle.std.proofs.Common.{◌≡◌, ℕ, ◌+◌, Bool, true, false, List, [], ◌∷◌, ◌++◌, drop, Some, None, inl, inr, refl, sym, ap, ◌∙◌, subst, append_assoc}
use Rattle.std.proofs.lemmas.List.{append-nil}
use Rattle.std.specs.Prelude.{slice_get}
use Rattle.rl_defs.specs.declared.bundle.Numbered.{Numbered}
use Rattle.rl_defs.specs.declared.idl.Idl.{Idl}
use Rattle.rl_defs.specs.declared.idl.IdlLine.{IdlLine}
use Rattle.rl_defs.specs.declared.idl.IdlLine.TheVariants as form
use Rattle.rl_defs.specs.declared.idl.Param.{Param}
use Rattle.rl_defs.specs.declared.idl.ResultText.{ResultText}
use Rattle.rl_defs.specs.declared.tables.MethodRow.{MethodRow}
use Rattle.rl_defs.specs.declared.tables.TraitRow.{TraitRow}
use Rattle.rl_defs.specs.Refusals.{Nowhere}
use Rattle.rl_defs.specs.Interfaces.{Lines, MethodText, TraitText, method_before, methods_of, trait_before, traits_of, trait_name}
use Rattle.rl_defs.specs.MethodRules.{IsMethodRow, AreMethodRows, IsTraitRow, AreTraitRows, FailsMethods}
use Rattle.rl_defs.proofs.Places.{drop_at, drop_past}
use Rattle.proxy_tables.specs.Built.{AllFit, MethodsTo, TraitsTo}
use Rattle.proxy_tables.proofs.Scanning.{method_at, many_params, many_results}

methods_push : (lines : Lines) (ms : List MethodText) (rows : List MethodRow) (m : MethodText) (row : MethodRow) → AreMethodRows lines ms rows → IsMethodRow lines m row → AreMethodRows lines (ms ++ m ∷ []) (rows ++ row ∷ [])
methods_push lines [] [] m row h is = (is, tt)
methods_push lines [] (r ∷ rs) m row h is = absurd h
methods_push lines (x ∷ xs) [] m row h is = absurd h
methods_push lines (x ∷ xs) (r ∷ rs) m row h is = (h.0, methods_push lines xs rs m row h.1 is)

traits_push : (lines : Lines) (ts : List TraitText) (rows : List TraitRow) (t : TraitText) (row : TraitRow) → AreTraitRows lines ts rows → IsTraitRow lines t row → AreTraitRows lines (ts ++ t ∷ []) (rows ++ row ∷ [])
traits_push lines [] [] t row h is = (is, tt)
traits_push lines [] (r ∷ rs) t row h is = absurd h
traits_push lines (x ∷ xs) [] t row h is = absurd h
traits_push lines (x ∷ xs) (r ∷ rs) t row h is = (h.0, traits_push lines xs rs t row h.1 is)

methods_at : (lines : Lines) (at : ℕ) (x : Numbered IdlLine) (marked : Bool) → slice_get lines at ≡ Some x → methods_of (drop at lines) marked ≡ method_before x.line x.form marked (methods_of (drop (at + 1) lines))
methods_at lines at x marked e = ap (λ (xs : Lines). methods_of xs marked) (drop_at lines at x e)

pub methods_begin : (lines : Lines) (at : ℕ) (rows : List MethodRow) → rows ≡ [] → MethodsTo lines (methods_of (drop at lines) false) rows at false
methods_begin lines at rows e = subst (λ (rs : List MethodRow). MethodsTo lines (methods_of (drop at lines) false) rs at false) (sym e) (record { passed = []; split = refl; are = tt })

-- a line that marks the next method
pub methods_mark : (lines : Lines) (all : List MethodText) (rows : List MethodRow) (at : ℕ) (marked : Bool) (x : Numbered IdlLine) → MethodsTo lines all rows at marked → slice_get lines at ≡ Some x → x.form ≡ form.Idempotent → MethodsTo lines all rows (at + 1) true
methods_mark lines all rows at marked x h here is = record {
  passed = h.passed;
  split = h.split ∙ ap (λ (ms : List MethodText). h.passed ++ ms) (methods_at lines at x marked here ∙ ap (λ (f : IdlLine). method_before x.line f marked (methods_of (drop (at + 1) lines))) is);
  are = h.are;
}

-- a method
pub methods_more : (lines : Lines) (all : List MethodText) (rows more : List MethodRow) (at : ℕ) (marked : Bool) (x : Numbered IdlLine) (name : List ℕ) (params : List Param) (outcome : ResultText) (row : MethodRow) → MethodsTo lines all rows at marked → slice_get lines at ≡ Some x → x.form ≡ form.Method name params outcome → IsMethodRow lines (record { line = x.line; name = name; idempotent = marked; params = params; result = outcome }) row → more ≡ rows ++ row ∷ [] → MethodsTo lines all more (at + 1) false
methods_more lines all rows more at marked x name params outcome row h here is r put =
    let m : MethodText = record { line = x.line; name = name; idempotent = marked; params = params; result = outcome } in
    subst (λ (rs : List MethodRow). MethodsTo lines all rs (at + 1) false) (sym put) (record {
      passed = h.passed ++ m ∷ [];
      split = h.split ∙ ap (λ (ms : List MethodText). h.passed ++ ms) (methods_at lines at x marked here ∙ ap (λ (f : IdlLine). method_before x.line f marked (methods_of (drop (at + 1) lines))) is) ∙ sym (append_assoc h.passed (m ∷ []) (methods_of (drop (at + 1) lines) false));
      are = methods_push lines h.passed rows m row h.are r;
    })

ended : (lines : Lines) (all : List MethodText) (rows : List MethodRow) (at : ℕ) (marked : Bool) → MethodsTo lines all rows at marked → methods_of (drop at lines) marked ≡ [] → AreMethodRows lines all rows
ended lines all rows at marked h e = subst (λ (ms : List MethodText). AreMethodRows lines ms rows) (sym (h.split ∙ ap (λ (ms : List MethodText). h.passed ++ ms) e ∙ append-nil h.passed)) h.are

pub methods_past : (lines : Lines) (all : List MethodText) (rows : List MethodRow) (at : ℕ) (marked : Bool) → MethodsTo lines all rows at marked → slice_get lines at ≡ None → AreMethodRows lines all rows
methods_past lines all rows at marked h e = ended lines all rows at marked h (ap (λ (xs : Lines). methods_of xs marked) (drop_past lines at e))

other_ends : (n : ℕ) (f : IdlLine) (marked : Bool) (more : Bool → List MethodText) → (f ≡ form.Idempotent → ⊥) → ((name : List ℕ) (params : List Param) (outcome : ResultText) → f ≡ form.Method name params outcome → ⊥) → method_before n f marked more ≡ []
other_ends n form.Idempotent marked more a b = absurd (a refl)
other_ends n (form.Method name params outcome) marked more a b = absurd (b name params outcome refl)
other_ends n (form.Struct name) marked more a b = refl
other_ends n (form.Field name ty) marked more a b = refl
other_ends n (form.Trait name) marked more a b = refl
other_ends n form.Close marked more a b = refl

-- any other line ends the methods
pub methods_other : (lines : Lines) (all : List MethodText) (rows : List MethodRow) (at : ℕ) (marked : Bool) (x : Numbered IdlLine) → MethodsTo lines all rows at marked → slice_get lines at ≡ Some x → (x.form ≡ form.Idempotent → ⊥) → ((name : List ℕ) (params : List Param) (outcome : ResultText) → x.form ≡ form.Method name params outcome → ⊥) → AreMethodRows lines all rows
methods_other lines all rows at marked x h here a b = ended lines all rows at marked h (methods_at lines at x marked here ∙ other_ends x.line x.form marked (methods_of (drop (at + 1) lines)) a b)

pub traits_begin : (lines : Lines) (rows : List TraitRow) → rows ≡ [] → TraitsTo lines rows 0
traits_begin lines rows e = subst (λ (rs : List TraitRow). TraitsTo lines rs 0) (sym e) (record { passed = []; split = refl; are = tt })

traits_at : (lines : Lines) (at : ℕ) (x : Numbered IdlLine) → slice_get lines at ≡ Some x → traits_of (drop at lines) ≡ trait_before x.line x.form (methods_of (drop (at + 1) lines) false) (traits_of (drop (at + 1) lines))
traits_at lines at x e = ap traits_of (drop_at lines at x e)

no_trait : (n : ℕ) (f : IdlLine) (ms : List MethodText) (ts : List TraitText) → trait_name f ≡ None → trait_before n f ms ts ≡ ts
no_trait n (form.Trait name) ms ts e = absurd cc
no_trait n form.Idempotent ms ts e = refl
no_trait n (form.Method name params outcome) ms ts e = refl
no_trait n (form.Struct name) ms ts e = refl
no_trait n (form.Field name ty) ms ts e = refl
no_trait n form.Close ms ts e = refl

a_trait : (n : ℕ) (f : IdlLine) (name : List ℕ) (ms : List MethodText) (ts : List TraitText) → trait_name f ≡ Some name → trait_before n f ms ts ≡ record { line = n; name = name; methods = ms } ∷ ts
a_trait n (form.Trait name') name ms ts e = let same : name' ≡ name = cc in ap (λ (s : List ℕ). text n s ms ∷ ts) same where
  text : ℕ → List ℕ → List MethodText → TraitText
  text k s m = record { line = k; name = s; methods = m }
a_trait n form.Idempotent name ms ts e = absurd cc
a_trait n (form.Method name' params outcome) name ms ts e = absurd cc
a_trait n (form.Struct name') name ms ts e = absurd cc
a_trait n (form.Field name' ty) name ms ts e = absurd cc
a_trait n form.Close name ms ts e = absurd cc

-- a line that begins no trait
pub traits_same : (lines : Lines) (rows : List TraitRow) (at : ℕ) (x : Numbered IdlLine) → TraitsTo lines rows at → slice_get lines at ≡ Some x → trait_name x.form ≡ None → TraitsTo lines rows (at + 1)
traits_same lines rows at x h here none = record {
  passed = h.passed;
  split = h.split ∙ ap (λ (ts : List TraitText). h.passed ++ ts) (traits_at lines at x here ∙ no_trait x.line x.form (methods_of (drop (at + 1) lines) false) (traits_of (drop (at + 1) lines)) none);
  are = h.are;
}

-- a trait
pub traits_more : (lines : Lines) (rows more : List TraitRow) (at : ℕ) (x : Numbered IdlLine) (name : List ℕ) (methods : List MethodRow) → TraitsTo lines rows at → slice_get lines at ≡ Some x → trait_name x.form ≡ Some name → AreMethodRows lines (methods_of (drop (at + 1) lines) false) methods → more ≡ rows ++ record { name = name; methods = methods } ∷ [] → TraitsTo lines more (at + 1)
traits_more lines rows more at x name methods h here is r put =
    let t : TraitText = record { line = x.line; name = name; methods = methods_of (drop (at + 1) lines) false } in
    subst (λ (rs : List TraitRow). TraitsTo lines rs (at + 1)) (sym put) (record {
      passed = h.passed ++ t ∷ [];
      split = h.split ∙ ap (λ (ts : List TraitText). h.passed ++ ts) (traits_at lines at x here ∙ a_trait x.line x.form name (methods_of (drop (at + 1) lines) false) (traits_of (drop (at + 1) lines)) is) ∙ sym (append_assoc h.passed (t ∷ []) (traits_of (drop (at + 1) lines)));
      are = traits_push lines h.passed rows t (record { name = name; methods = methods }) h.are (record { name = refl; methods = r });
    })

pub traits_end : (lines : Lines) (rows : List TraitRow) (at : ℕ) → TraitsTo lines rows at → slice_get lines at ≡ None → AreTraitRows lines (traits_of lines) rows
traits_end lines rows at h e = subst (λ (ts : List TraitText). AreTraitRows lines ts rows) (sym (h.split ∙ ap (λ (ts : List TraitText). h.passed ++ ts) (ap traits_of (drop_past lines at e)) ∙ append-nil h.passed)) h.are

-- where no rule fails, all methods fit
pub all_fit : (idl : Idl) → Nowhere (FailsMethods idl) → AllFit idl.lines
all_fit idl none = record {
  params = λ k n name params outcome here x. none n 23 (inr (inr (inr (refl, inl (many_params idl.lines n (method_at idl.lines k n name params outcome here) x)))));
  results = λ k n name params outcome here x. none n 23 (inr (inr (inr (refl, inr (many_results idl.lines n (method_at idl.lines k n name params outcome here) x)))));
}
