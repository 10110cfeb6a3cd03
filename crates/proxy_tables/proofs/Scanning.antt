-- The scan of the methods of a part.
use Rattle.std.proofs.Common.{◌≡◌, ℕ, zero, suc, ◌+◌, ◌<◌, ◌≤◌, Bool, true, false, ◌||◌, List, [], ◌∷◌, length, Some, None, ◌⊎◌, inl, inr, refl, sym, ap, ◌∙◌, subst, arith}
use Rattle.std.specs.Prelude.{slice_get, Err}
use Rattle.std.specs.List.{list_any}
use Rattle.std.proofs.lemmas.Bool.{cases_lt, cases_order}
use Rattle.rl_defs.specs.declared.LoadFault.{LoadFault}
use Rattle.rl_defs.specs.declared.LoadFault.TheVariants.{Refused}
use Rattle.rl_defs.specs.declared.bundle.Numbered.{Numbered}
use Rattle.rl_defs.specs.declared.idl.Idl.{Idl}
use Rattle.rl_defs.specs.declared.idl.IdlLine.{IdlLine}
use Rattle.rl_defs.specs.declared.idl.IdlLine.TheVariants as form
use Rattle.rl_defs.specs.declared.idl.Param.{Param}
use Rattle.rl_defs.specs.declared.idl.ResultText.{ResultText}
use Rattle.rl_defs.specs.declared.tables.Kind.{Kind}
use Rattle.rl_defs.specs.declared.tables.Kind.TheVariants as kind
use Rattle.rl_defs.specs.Refusals.{IsFirst, Nowhere, Answers}
use Rattle.rl_defs.specs.Interfaces.{Lines, Rises, param_types, result_types}
use Rattle.rl_defs.specs.MethodRules.{MethodAt, HasTooManyParams, HasTooManyResults, FailsMethods}
use Rattle.rl_defs.proofs.Places.{get_within}
use Rattle.proxy_tables.specs.Rules.{is_own, Exceeds, FailsMethod}
use Rattle.proxy_tables.specs.Scan.{IsLowestAt, is_mark, MarksAt, NoneTo}

own_place : (kinds : List Kind) → list_any is_own kinds ≡ true → (i : ℕ) × (held : ℕ) × (slice_get kinds i ≡ Some (kind.Own held))
own_place [] e = absurd cc
own_place (kind.Own held ∷ ks) e = (0, held, refl)
own_place (kind.Num w ∷ ks) e = let h = own_place ks e in (suc h.0, h.1, h.2)
own_place (kind.Lent held ∷ ks) e = let h = own_place ks e in (suc h.0, h.1, h.2)
own_place (kind.Cap held ∷ ks) e = let h = own_place ks e in (suc h.0, h.1, h.2)

place_own : (kinds : List Kind) (i held : ℕ) → slice_get kinds i ≡ Some (kind.Own held) → list_any is_own kinds ≡ true
place_own [] i held e = absurd cc
place_own (k ∷ ks) zero held e = first k e where
  first : (x : Kind) → Some x ≡ Some (kind.Own held) → list_any is_own (x ∷ ks) ≡ true
  first (kind.Own h) f = refl
  first (kind.Num w) f = absurd cc
  first (kind.Lent h) f = absurd cc
  first (kind.Cap h) f = absurd cc
place_own (k ∷ ks) (suc i) held e = step (is_own k) (list_any is_own ks) (place_own ks i held e) where
  step : (b c : Bool) → c ≡ true → (b || c) ≡ true
  step true c h = refl
  step false c h = h

-- one line has one number
one_place : (lines : Lines) (j k n : ℕ) (a b : IdlLine) → Rises lines → slice_get lines j ≡ Some (record { line = n; form = a }) → slice_get lines k ≡ Some (record { line = n; form = b }) → j ≡ k
one_place lines j k n a b rises p q = elim (cases_order j k) [
  | inl same ↦ same
  | inr (inl less) ↦ absurd (omega (arith, rises j k (record { line = n; form = a }) (record { line = n; form = b }) less p q))
  | inr (inr more) ↦ absurd (omega (arith, rises k j (record { line = n; form = b }) (record { line = n; form = a }) more q p))
]

same_form : (lines : Lines) (j k n : ℕ) (a b : IdlLine) → j ≡ k → slice_get lines j ≡ Some (record { line = n; form = a }) → slice_get lines k ≡ Some (record { line = n; form = b }) → a ≡ b
same_form lines j k n a b same p q = forms (record { line = n; form = a }) (record { line = n; form = b }) (sym (subst (λ (i : ℕ). slice_get lines i ≡ Some (record { line = n; form = a })) same p) ∙ q) where
  forms : (x y : Numbered IdlLine) → Some x ≡ Some y → x.form ≡ y.form
  forms x y e = let is : x ≡ y = cc in ap (λ (z : Numbered IdlLine). z.form) is

abbrev pub method_at : (lines : Lines) (k n : ℕ) (name : List ℕ) (params : List Param) (outcome : ResultText) → slice_get lines k ≡ Some (record { line = n; form = form.Method name params outcome }) → MethodAt lines n
method_at lines k n name params outcome here = record { name = name; params = params; result = outcome; here = record { place = k; here = here } }

pub many_params : (lines : Lines) (n : ℕ) (m : MethodAt lines n) → Exceeds lines (param_types m.params) 8 → HasTooManyParams lines n
many_params lines n m x = record { method = m; kinds = x.kinds; flat = x.flat; many = x.many }

pub many_results : (lines : Lines) (n : ℕ) (m : MethodAt lines n) → Exceeds lines (result_types m.result) 4 → HasTooManyResults lines n
many_results lines n m x = record { method = m; kinds = x.kinds; flat = x.flat; many = x.many }

-- a rule that fails at the method fails at its line
pub fails_at : (idl : Idl) (k n : ℕ) (marked : Bool) (name : List ℕ) (params : List Param) (outcome : ResultText) (r : ℕ) → MarksAt idl.lines k marked → slice_get idl.lines k ≡ Some (record { line = n; form = form.Method name params outcome }) → FailsMethod idl.lines marked params outcome r → FailsMethods idl n r
fails_at idl k n marked name params outcome r marks here (inl a) = inl (a.0, record { method = method_at idl.lines k n name params outcome here; plain = a.1 })
fails_at idl k n marked name params outcome r marks here (inr (inl a)) = inr (inl (a.0, record { method = method_at idl.lines k n name params outcome here; lent = a.1 }))
fails_at idl k n marked name params outcome r marks here (inr (inr (inl a))) =
    let mark = marks.mark a.1.0 in
    let own = own_place a.1.1.kinds a.1.1.own in
    inr (inr (inl (
      a.0,
      record {
        method = method_at idl.lines k n name params outcome here;
        mark = mark.0;
        before = mark.2;
        marks = mark.1;
        marked = mark.3;
        kinds = a.1.1.kinds;
        flat = a.1.1.flat;
        place = own.0;
        held = own.1;
        moved = own.2;
      },
    )))
fails_at idl k n marked name params outcome r marks here (inr (inr (inr (e, inl x)))) = inr (inr (inr (e, inl (many_params idl.lines n (method_at idl.lines k n name params outcome here) x))))
fails_at idl k n marked name params outcome r marks here (inr (inr (inr (e, inr x)))) = inr (inr (inr (e, inr (many_results idl.lines n (method_at idl.lines k n name params outcome here) x))))

abbrev IsMethod : IdlLine → Lines → Bool → ℕ → Type 0
IsMethod f lines marked r = (name : List ℕ) × (params : List Param) × (outcome : ResultText) × (f ≡ form.Method name params outcome) × FailsMethod lines marked params outcome r

found_method : (idl : Idl) (k n : ℕ) (f : IdlLine) → Rises idl.lines → slice_get idl.lines k ≡ Some (record { line = n; form = f }) → (m : MethodAt idl.lines n) → (m.here.place ≡ k) × (f ≡ form.Method m.name m.params m.result)
found_method idl k n f rises here m =
    let same = one_place idl.lines k m.here.place n f (form.Method m.name m.params m.result) rises here m.here.here in
    (sym same, same_form idl.lines k m.here.place n f (form.Method m.name m.params m.result) same here m.here.here)

-- a rule that fails at a line fails at the method there
fails_from : (idl : Idl) (k n : ℕ) (f : IdlLine) (marked : Bool) (r : ℕ) → Rises idl.lines → MarksAt idl.lines k marked → slice_get idl.lines k ≡ Some (record { line = n; form = f }) → FailsMethods idl n r → IsMethod f idl.lines marked r
fails_from idl k n f marked r rises marks here (inl (e, x)) = (x.method.name, x.method.params, x.method.result, (found_method idl k n f rises here x.method).1, inl (e, x.plain))
fails_from idl k n f marked r rises marks here (inr (inl (e, x))) = (x.method.name, x.method.params, x.method.result, (found_method idl k n f rises here x.method).1, inr (inl (e, x.lent)))
fails_from idl k n f marked r rises marks here (inr (inr (inl (e, x)))) =
    let at = found_method idl k n f rises here x.method in
    (x.method.name, x.method.params, x.method.result, at.1, inr (inr (inl (e, (marks.marks x.mark x.marks (x.before ∙ at.0) x.marked, record { kinds = x.kinds; flat = x.flat; own = place_own x.kinds x.place x.held x.moved })))))
fails_from idl k n f marked r rises marks here (inr (inr (inr (e, inl x)))) = (x.method.name, x.method.params, x.method.result, (found_method idl k n f rises here x.method).1, inr (inr (inr (e, inl (record { kinds = x.kinds; flat = x.flat; many = x.many })))))
fails_from idl k n f marked r rises marks here (inr (inr (inr (e, inr x)))) = (x.method.name, x.method.params, x.method.result, (found_method idl k n f rises here x.method).1, inr (inr (inr (e, inr (record { kinds = x.kinds; flat = x.flat; many = x.many })))))

none_at : (idl : Idl) (k n : ℕ) (f : IdlLine) (marked : Bool) (r : ℕ) → Rises idl.lines → MarksAt idl.lines k marked → slice_get idl.lines k ≡ Some (record { line = n; form = f }) → IsLowestAt idl.lines marked f None → FailsMethods idl n r → ⊥
none_at idl k n f marked r rises marks here lowest fails =
    let m = fails_from idl k n f marked r rises marks here fails in
    let none = subst (λ (x : IdlLine). IsLowestAt idl.lines marked x None) m.3 lowest in
    none r m.4

low_step : (idl : Idl) (k n : ℕ) (f : IdlLine) (marked : Bool) (rule : ℕ) → MarksAt idl.lines k marked → slice_get idl.lines k ≡ Some (record { line = n; form = f }) → IsLowestAt idl.lines marked f (Some rule) → FailsMethods idl n rule
low_step idl k n (form.Method name params outcome) marked rule marks here lowest = fails_at idl k n marked name params outcome rule marks here lowest.0
low_step idl k n (form.Struct name) marked rule marks here lowest = absurd cc
low_step idl k n (form.Field name ty) marked rule marks here lowest = absurd cc
low_step idl k n (form.Trait name) marked rule marks here lowest = absurd cc
low_step idl k n form.Idempotent marked rule marks here lowest = absurd cc
low_step idl k n form.Close marked rule marks here lowest = absurd cc

least_at : (idl : Idl) (k n : ℕ) (f : IdlLine) (marked : Bool) (rule r : ℕ) → Rises idl.lines → MarksAt idl.lines k marked → slice_get idl.lines k ≡ Some (record { line = n; form = f }) → IsLowestAt idl.lines marked f (Some rule) → FailsMethods idl n r → rule ≤ r
least_at idl k n f marked rule r rises marks here lowest fails =
    let m = fails_from idl k n f marked r rises marks here fails in
    let low = subst (λ (x : IdlLine). IsLowestAt idl.lines marked x (Some rule)) m.3 lowest in
    low.1 r m.4

-- what the scan keeps
pub record ScanTo (idl : Idl) (place : ℕ) (marked : Bool) : Type 0 where
  pub marks : MarksAt idl.lines place marked
  pub to : NoneTo idl place

pub scan_begins : (idl : Idl) → ScanTo idl 0 false
scan_begins idl = record {
  marks = record { mark = λ e. absurd cc; marks = λ m n e h. absurd (omega (arith, e)) };
  to = record { none = λ k x r lt e f. omega arith };
}

mark_form : (f : IdlLine) → is_mark f ≡ true → f ≡ form.Idempotent
mark_form form.Idempotent e = refl
mark_form (form.Struct name) e = absurd cc
mark_form (form.Field name ty) e = absurd cc
mark_form (form.Trait name) e = absurd cc
mark_form (form.Method name params outcome) e = absurd cc
mark_form form.Close e = absurd cc

pub scan_goes : (idl : Idl) (k : ℕ) (x : Numbered IdlLine) (marked : Bool) → Rises idl.lines → ScanTo idl k marked → slice_get idl.lines k ≡ Some x → IsLowestAt idl.lines marked x.form None → ScanTo idl (k + 1) (is_mark x.form)
scan_goes idl k x marked rises s here lowest = record {
  marks = record {
    mark = λ e. (k, x.line, refl, here ∙ ap (λ (f : IdlLine). Some (record { line = x.line; form = f })) (mark_form x.form e));
    marks = λ m n e h. let same : m ≡ k = omega (arith, e) in marked_here n (sym here ∙ subst (λ (i : ℕ). slice_get idl.lines i ≡ Some (record { line = n; form = form.Idempotent })) same h);
  };
  to = record {
    none = λ j y r lt e f. elim (cases_lt j k) [
      | inl a ↦ s.to.none j y r a e f
      | inr b ↦ let same : j ≡ k = omega arith in none_at idl k y.line y.form marked r rises s.marks (subst (λ (i : ℕ). slice_get idl.lines i ≡ Some y) same e) (lowest_here y (sym here ∙ subst (λ (i : ℕ). slice_get idl.lines i ≡ Some y) same e)) f
    ];
  };
} where
  marked_here : (n : ℕ) → Some x ≡ Some (record { line = n; form = form.Idempotent }) → is_mark x.form ≡ true
  marked_here n e = forms (record { line = n; form = form.Idempotent }) e refl where
    forms : (y : Numbered IdlLine) → Some x ≡ Some y → is_mark y.form ≡ true → is_mark x.form ≡ true
    forms y h t = let is : x ≡ y = cc in subst (λ (z : Numbered IdlLine). is_mark z.form ≡ true) (sym is) t

  lowest_here : (y : Numbered IdlLine) → Some x ≡ Some y → IsLowestAt idl.lines marked y.form None
  lowest_here y e = let is : x ≡ y = cc in subst (λ (z : Numbered IdlLine). IsLowestAt idl.lines marked z.form None) is lowest

-- the place of a line at which a rule fails
place_of_fail : (idl : Idl) (n r : ℕ) → FailsMethods idl n r → (k : ℕ) × (f : IdlLine) × (slice_get idl.lines k ≡ Some (record { line = n; form = f }))
place_of_fail idl n r (inl (e, x)) = (x.method.here.place, form.Method x.method.name x.method.params x.method.result, x.method.here.here)
place_of_fail idl n r (inr (inl (e, x))) = (x.method.here.place, form.Method x.method.name x.method.params x.method.result, x.method.here.here)
place_of_fail idl n r (inr (inr (inl (e, x)))) = (x.method.here.place, form.Method x.method.name x.method.params x.method.result, x.method.here.here)
place_of_fail idl n r (inr (inr (inr (e, inl x)))) = (x.method.here.place, form.Method x.method.name x.method.params x.method.result, x.method.here.here)
place_of_fail idl n r (inr (inr (inr (e, inr x)))) = (x.method.here.place, form.Method x.method.name x.method.params x.method.result, x.method.here.here)

pub scan_finds : (idl : Idl) (k : ℕ) (x : Numbered IdlLine) (marked : Bool) (rule : ℕ) → Rises idl.lines → ScanTo idl k marked → slice_get idl.lines k ≡ Some x → IsLowestAt idl.lines marked x.form (Some rule) → IsFirst (FailsMethods idl) x.line rule
scan_finds idl k x marked rule rises s here lowest = record {
  fails = low_step idl k x.line x.form marked rule s.marks here lowest;
  first = λ l r f. let p = place_of_fail idl l r f in elim (cases_order p.0 k) [
    | inl same ↦ at_line l r f (lines (record { line = l; form = p.1 }) (sym here ∙ subst (λ (i : ℕ). slice_get idl.lines i ≡ Some (record { line = l; form = p.1 })) same p.2))
    | inr (inl less) ↦ absurd (s.to.none p.0 (record { line = l; form = p.1 }) r less p.2 f)
    | inr (inr more) ↦ inl (rises k p.0 x (record { line = l; form = p.1 }) more here p.2)
  ];
} where
  lines : (y : Numbered IdlLine) → Some x ≡ Some y → x.line ≡ y.line
  lines y e = let is : x ≡ y = cc in ap (λ (z : Numbered IdlLine). z.line) is

  at_line : (l r : ℕ) → FailsMethods idl l r → x.line ≡ l → (x.line < l) ⊎ ((x.line ≡ l) × (rule ≤ r))
  at_line l r f same = inr (same, least_at idl k x.line x.form marked rule r rises s.marks here lowest (subst (λ (n : ℕ). FailsMethods idl n r) (sym same) f))

pub scan_ends : (idl : Idl) (k : ℕ) (marked : Bool) → length idl.lines ≤ k → ScanTo idl k marked → Nowhere (FailsMethods idl)
scan_ends idl k marked le s n r f =
    let p = place_of_fail idl n r f in
    s.to.none p.0 (record { line = n; form = p.1 }) r (omega (arith, le, get_within idl.lines p.0 (record { line = n; form = p.1 }) p.2)) p.2 f

pub refused_answers : {X : Type 0} (idl : Idl) (V : X → Type 0) (e : LoadFault) (line rule : ℕ) → e ≡ Refused (record { line = line; rule = rule }) → IsFirst (FailsMethods idl) line rule → Answers {X = X} (FailsMethods idl) V (Err e)
refused_answers {X} idl V e line rule is h = subst (λ (x : LoadFault). Answers {X = X} (FailsMethods idl) V (Err x)) (sym is) h
