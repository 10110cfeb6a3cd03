-- Rows of lines.
use Rattle.std.proofs.Common.{◌≡◌, ℕ, ◌+◌, ◌≤◌, inl, inr, List, [], ◌∷◌, ◌++◌, Option, Some, None, sym, ap, subst, ◌∙◌, arith, length-append}
use Rattle.std.specs.Prelude.{slice_get, unwrap_or}
use Rattle.std.proofs.lemmas.List.{append-nil}
use Rattle.rl_defs.specs.declared.bundle.Numbered.{Numbered}
use Rattle.rl_defs.specs.declared.code.Register.{Register}
use Rattle.rl_defs.specs.declared.code.Instr.{Instr}
use Rattle.rl_defs.specs.declared.code.DomainLine.{DomainLine}
use Rattle.rl_defs.specs.declared.code.DomainLine.TheVariants as line
use Rattle.rl_defs.specs.declared.checked.Way.{Way}
use Rattle.rl_defs.specs.declared.checked.LineRow.{LineRow}
use Rattle.rl_defs.specs.DomainValue.{Domain}
use Rattle.rl_defs.specs.CodeKinds.{Kinds, kinds_at, at_label}
use Rattle.rl_defs.specs.CodeNames.{label_of, place_of_label}
use Rattle.rl_defs.specs.LineRows.{number_named, type_named, Leads, Names}
use Rattle.rl_defs.specs.Checked.{IsWithin, IsRow, emptied_on}
use Rattle.rl_defs.proofs.Places.{get_last}
use Rattle.domain_checker.specs.Heads.{Grows}
use Rattle.domain_checker.specs.Keeping.{AreRows}
use Rattle.domain_checker.proofs.PoolLaws.{within_grown, emptied_grown, row_grown}

pub grows_none : (most : ℕ) (pool : List Register) → Grows most pool pool
grows_none most pool = record { added = []; behind = sym (append-nil pool); few = omega arith }

pub grows_more : (a b : ℕ) (old new : List Register) → a ≤ b → Grows a old new → Grows b old new
grows_more a b old new le g = record { added = g.added; behind = g.behind; few = omega (arith, le, g.few) }

pub one_some : (o : Option ℕ) (a b : ℕ) → o ≡ Some a → o ≡ Some b → a ≡ b
one_some o a b e f = cc

-- a line has one form
pub one_form : (x y : Option (Numbered DomainLine)) (l : Numbered DomainLine) (k : ℕ) (form : DomainLine) → x ≡ Some l → x ≡ Some (record { line = k; form = form }) → l.form ≡ form
one_form x y l k form a b = forms (record { line = k; form = form }) (sym a ∙ b) where
  forms : (m : Numbered DomainLine) → Some l ≡ Some m → l.form ≡ m.form
  forms m e = let is : l ≡ m = cc in ap (λ (z : Numbered DomainLine). z.form) is

one_instr : (i j : Instr) → line.Code i ≡ line.Code j → i ≡ j
one_instr i j e = cc

some_is : (o : Option ℕ) (n k : ℕ) → n ≡ unwrap_or o 0 → o ≡ Some k → n ≡ k
some_is o n k e f = e ∙ ap (λ x. unwrap_or x 0) f

pub row_code : (d : Domain) (n : ℕ) (l : Numbered DomainLine) (i : Instr) (kinds : Kinds) (old pool : List Register) (number type label : ℕ) (here jump : Way) (to : Option ℕ) → slice_get d.lines n ≡ Some l → l.form ≡ line.Code i → kinds ≡ kinds_at d n → IsWithin old here → Leads d kinds n here.line (emptied_on old here) → Grows 32 old pool → IsWithin pool jump → ((p : ℕ) → to ≡ Some p → Leads d (at_label kinds i) p jump.line (emptied_on pool jump)) → to ≡ place_of_label d n (label_of i) → number ≡ unwrap_or (number_named d n kinds i) 0 → type ≡ unwrap_or (type_named d kinds i) 0 → label ≡ unwrap_or to 0 → IsRow d pool n (record { number = number; of = type; label = label; here = here; jump = jump })
row_code d n l i kinds old pool number type label here jump to at form known within leads grows jump_within jump_leads to_is number_is type_is label_is = record {
  here_within = within_grown 32 old pool here grows within;
  jump_within = jump_within;
  here = subst (λ ks. Leads d ks n here.line (emptied_on pool here)) known (subst (Leads d kinds n here.line) (sym (emptied_grown 32 old pool here grows within)) leads);
  names = λ k j e. subst (λ x. Names d n x number type label) (same k j e) names;
  jump = λ k j e. subst (λ x. (p : ℕ) → place_of_label d n (label_of x) ≡ Some p → Leads d (at_label (kinds_at d n) x) p jump.line (emptied_on pool jump)) (same k j e) jumps;
} where
  same : (k : ℕ) (j : Instr) → slice_get d.lines n ≡ Some (record { line = k; form = line.Code j }) → i ≡ j
  same k j e = one_instr i j (sym form ∙ one_form (slice_get d.lines n) None l k (line.Code j) at e)

  names : Names d n i number type label
  names = record {
    named = λ k e. some_is (number_named d n kinds i) number k number_is (ap (λ ks. number_named d n ks i) known ∙ e);
    typed = λ k e. some_is (type_named d kinds i) type k type_is (ap (λ ks. type_named d ks i) known ∙ e);
    place = λ p e. some_is to label p label_is (to_is ∙ e);
  }

  jumps : (p : ℕ) → place_of_label d n (label_of i) ≡ Some p → Leads d (at_label (kinds_at d n) i) p jump.line (emptied_on pool jump)
  jumps p e = subst (λ ks. Leads d (at_label ks i) p jump.line (emptied_on pool jump)) known (jump_leads p (to_is ∙ e))

pub row_other : (d : Domain) (n : ℕ) (l : Numbered DomainLine) (kinds : Kinds) (pool : List Register) (here : Way) → slice_get d.lines n ≡ Some l → ((i : Instr) → l.form ≡ line.Code i → ⊥) → kinds ≡ kinds_at d n → IsWithin pool here → Leads d kinds n here.line (emptied_on pool here) → IsRow d pool n (record { number = 0; of = 0; label = 0; here = here; jump = here })
row_other d n l kinds pool here at no_code known within leads = record {
  here_within = within;
  jump_within = within;
  here = subst (λ ks. Leads d ks n here.line (emptied_on pool here)) known leads;
  names = λ k j e. absurd (no_code j (one_form (slice_get d.lines n) None l k (line.Code j) at e));
  jump = λ k j e. absurd (no_code j (one_form (slice_get d.lines n) None l k (line.Code j) at e));
}

-- one row more
pub rows_more : (d : Domain) (most : ℕ) (old new : List Register) (rows more : List LineRow) (n : ℕ) (row : LineRow) → AreRows d old rows n → Grows most old new → IsRow d new n row → more ≡ rows ++ row ∷ [] → AreRows d new more (n + 1)
rows_more d most old new rows more n row h grows is added = subst (λ rs. AreRows d new rs (n + 1)) (sym added) (record {
  long = omega (arith, h.long, length-append rows (row ∷ []));
  each = λ m r e. elim (get_last rows row m r e) [
    | inl before ↦ row_grown d most old new m r grows (h.each m r before)
    | inr last ↦ subst (λ x. IsRow d new m x) (sym last.1) (subst (λ k. IsRow d new k row) (sym (last.0 ∙ h.long)) is)
  ];
})
