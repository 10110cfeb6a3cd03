-- Whether types flatten to an RRef.
use Rattle.std.proofs.Common.{◌≡◌, ◌≢◌, ℕ, zero, suc, Bool, true, false, ◌||◌, List, [], ◌∷◌, ◌++◌, length, Option, Some, None, ◌⊎◌, inl, inr, refl, sym, ap, ◌∙◌, arith}
use Rattle.std.proofs.lemmas.List.{append-nil}
use Rattle.std.specs.Prelude.{IsTrue}
use Rattle.std.specs.Option.{option_to_list}
use Rattle.std.specs.List.{list_any}
use Rattle.rl_defs.specs.declared.idl.TypeText.{TypeText}
use Rattle.rl_defs.specs.declared.idl.Param.{Param}
use Rattle.rl_defs.specs.declared.idl.ResultText.{ResultText}
use Rattle.rl_defs.specs.declared.tables.Kind.{Kind}
use Rattle.rl_defs.specs.Interfaces.{Lines, types_at, param_types, result_types}
use Rattle.rl_defs.specs.Flattening.{struct_held, kind_held, times_of, copies, Flattens, Ends, Plain, Fields}
use Rattle.rl_defs.specs.TypeRules.{is_lent}
use Rattle.rl_defs.specs.MethodRules.{is_rpc}
use Rattle.rl_defs.proofs.FlatteningLaws.{flattens_once, flattens_append}
use Rattle.exchangeable_types.specs.declared.cells.Cells.{Cells}
use Rattle.exchangeable_types.specs.declared.cells.Cells.TheVariants.{Few, TooMany}
use Rattle.exchangeable_types.specs.Capped.{CellsOf}
use Rattle.proxy_tables.specs.Rules.{is_own, is_many, Moves, Exceeds, FailsMethod, IsLowest, IsMovedAgain, IsExceeding}

own-append : (a b : List Kind) → list_any is_own (a ++ b) ≡ (list_any is_own a || list_any is_own b)
own-append [] b = refl
own-append (k ∷ ks) b = step (is_own k) (list_any is_own (ks ++ b)) (list_any is_own ks) (own-append ks b) where
  step : (x whole front : Bool) → whole ≡ (front || list_any is_own b) → (x || whole) ≡ ((x || front) || list_any is_own b)
  step true whole front e = refl
  step false whole front e = e

or_same : (b : Bool) → (b || b) ≡ b
or_same true = refl
or_same false = refl

or_false : (b : Bool) → (b || false) ≡ b
or_false true = refl
or_false false = refl

own-copies : (n : ℕ) (ks : List Kind) → list_any is_own (copies (suc n) ks) ≡ list_any is_own ks
own-copies zero ks = own-append ks [] ∙ or_false (list_any is_own ks)
own-copies (suc n) ks = own-append ks (copies (suc n) ks) ∙ ap (λ (b : Bool). list_any is_own ks || b) (own-copies n ks) ∙ or_same (list_any is_own ks)

own_times : (n : ℕ) (ks : List Kind) → n ≢ 0 → list_any is_own (copies n ks ++ []) ≡ list_any is_own ks
own_times zero ks ne = absurd (ne refl)
own_times (suc n) ks ne = ap (list_any is_own) (append-nil (copies (suc n) ks)) ∙ own-copies n ks

own_none : (n : ℕ) (ks : List Kind) → n ≡ 0 → list_any is_own (copies n ks ++ []) ≡ false
own_none zero ks e = refl
own_none (suc n) ks e = absurd (omega arith)

-- a struct by value, so often
pub moves_fields : (lines : Lines) (ty : TypeText) (s : ℕ) (inner : List Kind) (b : Bool) → struct_held lines ty ≡ Some s → Flattens lines (types_at lines s) inner → times_of ty.wraps ≢ 0 → b ≡ list_any is_own inner → Moves lines (ty ∷ []) b
moves_fields lines ty s inner b held flat some is = record {
  kinds = copies (times_of ty.wraps) inner ++ [];
  flat = Fields ty [] s inner [] refl held flat (Ends refl refl) refl;
  own = own_times (times_of ty.wraps) inner some ∙ sym is;
}

-- one kind or none, so often
pub moves_plain : (lines : Lines) (ty : TypeText) (b : Bool) → struct_held lines ty ≡ None → times_of ty.wraps ≢ 0 → b ≡ list_any is_own (option_to_list (kind_held lines ty)) → Moves lines (ty ∷ []) b
moves_plain lines ty b plain some is = record {
  kinds = copies (times_of ty.wraps) (option_to_list (kind_held lines ty)) ++ [];
  flat = Plain ty [] [] refl plain (Ends refl refl) refl;
  own = own_times (times_of ty.wraps) (option_to_list (kind_held lines ty)) some ∙ sym is;
}

none_step : (lines : Lines) (ty : TypeText) (o : Option ℕ) → struct_held lines ty ≡ o → ((s : ℕ) → (inner : List Kind) × Flattens lines (types_at lines s) inner) → times_of ty.wraps ≡ 0 → Moves lines (ty ∷ []) false
none_step lines ty None e rows zero_times = record {
  kinds = copies (times_of ty.wraps) (option_to_list (kind_held lines ty)) ++ [];
  flat = Plain ty [] [] refl e (Ends refl refl) refl;
  own = own_none (times_of ty.wraps) (option_to_list (kind_held lines ty)) zero_times;
}
none_step lines ty (Some s) e rows zero_times = record {
  kinds = copies (times_of ty.wraps) (rows s).0 ++ [];
  flat = Fields ty [] s (rows s).0 [] refl e (rows s).1 (Ends refl refl) refl;
  own = own_none (times_of ty.wraps) (rows s).0 zero_times;
}

-- an array of no elements
pub moves_none : (lines : Lines) (ty : TypeText) → ((s : ℕ) → (inner : List Kind) × Flattens lines (types_at lines s) inner) → times_of ty.wraps ≡ 0 → Moves lines (ty ∷ []) false
moves_none lines ty rows e = none_step lines ty (struct_held lines ty) refl rows e

-- one type more
pub moves_more : (lines : Lines) (types : List TypeText) (ty : TypeText) (a b : Bool) → Moves lines types a → Moves lines (ty ∷ []) b → Moves lines (types ++ ty ∷ []) (a || b)
moves_more lines types ty a b m n = record {
  kinds = m.kinds ++ n.kinds;
  flat = flattens_append lines types (ty ∷ []) m.kinds n.kinds m.flat n.flat;
  own = own-append m.kinds n.kinds ∙ ap (λ (x : Bool). x || list_any is_own n.kinds) m.own ∙ ap (λ (x : Bool). a || x) n.own;
}

pub no_moves : (lines : Lines) → Moves lines [] false
no_moves lines = record { kinds = []; flat = Ends refl refl; own = refl }

-- types have one answer
pub moves_once : (lines : Lines) (types : List TypeText) → Moves lines types true → Moves lines types false → ⊥
moves_once lines types m n =
    let same = ap (list_any is_own) (flattens_once lines types m.kinds n.kinds m.flat n.flat) in
    let both : true ≡ false = sym m.own ∙ same ∙ n.own in
    cc

pub exceeds : (lines : Lines) (types : List TypeText) (limit : ℕ) (cells : Cells) → CellsOf lines limit types cells → is_many cells ≡ true → Exceeds lines types limit
exceeds lines types limit (Few list) c e = absurd cc
exceeds lines types limit TooMany c e = record { kinds = c.kinds; flat = c.flat; many = c.capped }

pub fits : (lines : Lines) (types : List TypeText) (limit : ℕ) (cells : Cells) → CellsOf lines limit types cells → is_many cells ≡ false → Exceeds lines types limit → ⊥
fits lines types limit TooMany c e x = cc
fits lines types limit (Few list) c e x = omega (arith, x.many, c.capped.1, ap length (flattens_once lines types x.kinds c.kinds x.flat c.flat))

-- both counts stay within their limits
pub within_both : (lines : Lines) (params results : List TypeText) (a b : Cells) → CellsOf lines 8 params a → CellsOf lines 4 results b → is_many a ≡ false → is_many b ≡ false → Exceeds lines params 8 ⊎ Exceeds lines results 4 → ⊥
within_both lines params results a b p r x y (inl h) = fits lines params 8 a p x h
within_both lines params results a b p r x y (inr h) = fits lines results 4 b r y h

pub own_single : (k : Kind) → is_own k ≡ list_any is_own (k ∷ [])
own_single k = sym (or_false (is_own k))

pub moved_again : (lines : Lines) (types : List TypeText) (marked found : Bool) → marked ≡ true → Moves lines types found → IsMovedAgain lines marked types found
moved_again lines types marked true e m = (e, m)
moved_again lines types marked false e m = λ h. moves_once lines types h.1 m

-- rules 20 to 22 don't fail
pub record Passes (lines : Lines) (marked : Bool) (params : List Param) (outcome : ResultText) : Type 0 where
  pub rpc : is_rpc outcome ≡ true
  pub lent : list_any (λ ty. is_lent ty.base) (result_types outcome) ≡ false
  pub again : IsTrue marked × Moves lines (param_types params) true → ⊥

-- only rule 23 may fail
pub only_counts : (lines : Lines) (marked : Bool) (params : List Param) (outcome : ResultText) → Passes lines marked params outcome → (r : ℕ) → FailsMethod lines marked params outcome r → (r ≡ 23) × (Exceeds lines (param_types params) 8 ⊎ Exceeds lines (result_types outcome) 4)
only_counts lines marked params outcome p r (inl a) = absurd (let both : true ≡ false = sym p.rpc ∙ a.1 in cc)
only_counts lines marked params outcome p r (inr (inl a)) = absurd (let both : false ≡ true = sym p.lent ∙ a.1 in cc)
only_counts lines marked params outcome p r (inr (inr (inl a))) = absurd (p.again a.1)
only_counts lines marked params outcome p r (inr (inr (inr a))) = a

pub lowest_count : (lines : Lines) (marked : Bool) (params : List Param) (outcome : ResultText) → Passes lines marked params outcome → Exceeds lines (param_types params) 8 ⊎ Exceeds lines (result_types outcome) 4 → IsLowest lines marked params outcome (Some 23)
lowest_count lines marked params outcome p x = (inr (inr (inr (refl, x))), λ r f. let o = only_counts lines marked params outcome p r f in omega (arith, o.0))

pub lowest_none : (lines : Lines) (marked : Bool) (params : List Param) (outcome : ResultText) → Passes lines marked params outcome → (Exceeds lines (param_types params) 8 ⊎ Exceeds lines (result_types outcome) 4 → ⊥) → IsLowest lines marked params outcome None
lowest_none lines marked params outcome p x = λ r f. x (only_counts lines marked params outcome p r f).1

pub exceeding : (lines : Lines) (params results : List TypeText) (a b : Cells) (more : Bool) → CellsOf lines 8 params a → CellsOf lines 4 results b → is_many a ≡ false → more ≡ is_many b → IsExceeding lines params results more
exceeding lines params results a b true p r x e = inr (exceeds lines results 4 b r (sym e))
exceeding lines params results a b false p r x e = within_both lines params results a b p r x (sym e)
