-- Where structs begin.
use Rattle.std.proofs.Common.{◌≡◌, ℕ, zero, suc, ◌+◌, ◌<◌, ◌≤◌, List, [], ◌∷◌, ◌++◌, length, drop, get_or, Some, refl, sym, ap, subst, ◌∙◌, arith}
use Rattle.std.specs.Prelude.{slice_get}
use Rattle.std.proofs.lemmas.Option.{slice_get-get_or}
use Rattle.rl_defs.specs.declared.idl.IdlLine.{IdlLine}
use Rattle.rl_defs.specs.declared.idl.IdlLine.TheVariants as form
use Rattle.rl_defs.specs.Interfaces.{Lines, structs_of, fields_of, types_of, types_at, field_types, struct_name, names_by, struct_names}
use Rattle.std.specs.Option.{option_to_list}
use Rattle.exchangeable_types.specs.Numbering.{start_before, starts_from}
use Rattle.exchangeable_types.specs.Walk.{StartsAt}

-- The struct of this number begins so many lines behind the first. Successors are written as such, so that the definition computes.
record StartsBehind (lines : Lines) (offset number place : ℕ) : Type 0 where
  pub behind : ℕ
  pub is : place ≡ offset + behind
  pub line : ℕ
  pub name : List ℕ
  pub here : slice_get lines behind ≡ Some (record { line = line; form = form.Struct name })
  pub text : slice_get (structs_of lines) number ≡ Some (record { line = line; name = name; fields = fields_of (drop (suc behind) lines) })

step : (n : ℕ) (line : IdlLine) (xs : Lines) (offset number place : ℕ) → ((m : ℕ) → slice_get (starts_from (offset + 1) xs) m ≡ Some place → StartsBehind xs (offset + 1) m place) → slice_get (start_before offset line (starts_from (offset + 1) xs)) number ≡ Some place → StartsBehind (record { line = n; form = line } ∷ xs) offset number place
step n (form.Struct name) xs offset zero place more e = record { behind = 0; is = omega (arith, place_is); line = n; name = name; here = refl; text = refl } where
  place_is : offset ≡ place
  place_is = cc
step n (form.Struct name) xs offset (suc m) place more e = let h = more m e in record { behind = suc h.behind; is = omega (arith, h.is); line = h.line; name = h.name; here = h.here; text = h.text }
step n (form.Field name ty) xs offset number place more e = let h = more number e in record { behind = suc h.behind; is = omega (arith, h.is); line = h.line; name = h.name; here = h.here; text = h.text }
step n (form.Trait name) xs offset number place more e = let h = more number e in record { behind = suc h.behind; is = omega (arith, h.is); line = h.line; name = h.name; here = h.here; text = h.text }
step n form.Idempotent xs offset number place more e = let h = more number e in record { behind = suc h.behind; is = omega (arith, h.is); line = h.line; name = h.name; here = h.here; text = h.text }
step n (form.Method name params result) xs offset number place more e = let h = more number e in record { behind = suc h.behind; is = omega (arith, h.is); line = h.line; name = h.name; here = h.here; text = h.text }
step n form.Close xs offset number place more e = let h = more number e in record { behind = suc h.behind; is = omega (arith, h.is); line = h.line; name = h.name; here = h.here; text = h.text }

starts : (lines : Lines) (offset number place : ℕ) → slice_get (starts_from offset lines) number ≡ Some place → StartsBehind lines offset number place
starts [] offset number place e = absurd cc
starts (x ∷ xs) offset number place e = step x.line x.form xs offset number place (λ m h. starts xs (offset + 1) m place h) e

-- where a struct begins
pub starts_at : (lines : Lines) (number place : ℕ) → slice_get (starts_from 0 lines) number ≡ Some place → StartsAt lines number place
starts_at lines number place e =
    let h = starts lines 0 number place e in
    let same : place ≡ h.behind = omega (arith, h.is) in
    let next : suc h.behind ≡ place + 1 = omega (arith, h.is) in
    record {
      line = h.line;
      name = h.name;
      here = subst (λ (k : ℕ). slice_get lines k ≡ Some (record { line = h.line; form = form.Struct h.name })) (sym same) h.here;
      text = subst (λ (k : ℕ). slice_get (structs_of lines) number ≡ Some (record { line = h.line; name = h.name; fields = fields_of (drop k lines) })) next h.text;
    }

starts_length : (lines : Lines) (offset : ℕ) → length (starts_from offset lines) ≡ length (names_by struct_name lines)
starts_length [] offset = refl
starts_length (x ∷ xs) offset = length_step x.form (starts_from (offset + 1) xs) (names_by struct_name xs) offset (starts_length xs (offset + 1)) where
  length_step : (line : IdlLine) (ks : List ℕ) (ns : List (List ℕ)) (offset : ℕ) → length ks ≡ length ns → length (start_before offset line ks) ≡ length (option_to_list (struct_name line) ++ ns)
  length_step (form.Struct name) ks ns offset e = omega (arith, e)
  length_step (form.Field name ty) ks ns offset e = e
  length_step (form.Trait name) ks ns offset e = e
  length_step form.Idempotent ks ns offset e = e
  length_step (form.Method name params result) ks ns offset e = e
  length_step form.Close ks ns offset e = e

-- as many structs begin as there are names of structs
pub starts_count : (lines : Lines) (starts : List ℕ) → starts ≡ starts_from 0 lines → length starts ≡ length (struct_names lines)
starts_count lines starts e = ap length e ∙ starts_length lines 0

-- the fields of a struct stand behind its first line
pub types_at_start : (lines : Lines) (number place : ℕ) → StartsAt lines number place → types_at lines number ≡ types_of (fields_of (drop (place + 1) lines))
types_at_start lines number place h = ap field_types h.text

-- what is read of the list of starts
pub starts_read : (lines : Lines) (starts : List ℕ) (number d : ℕ) → starts ≡ starts_from 0 lines → number < length starts → StartsAt lines number (get_or starts number d)
starts_read lines starts number d e lt = starts_at lines number (get_or starts number d) (subst (λ (xs : List ℕ). slice_get xs number ≡ Some (get_or starts number d)) e (slice_get-get_or starts number d lt))

names_few : (lines : Lines) → length (names_by struct_name lines) ≤ length lines
names_few [] = omega arith
names_few (x ∷ xs) = few x.form (names_by struct_name xs) (names_few xs) where
  few : (line : IdlLine) (ns : List (List ℕ)) → length ns ≤ length xs → length (option_to_list (struct_name line) ++ ns) ≤ suc (length xs)
  few (form.Struct name) ns e = omega (arith, e)
  few (form.Field name ty) ns e = omega (arith, e)
  few (form.Trait name) ns e = omega (arith, e)
  few form.Idempotent ns e = omega (arith, e)
  few (form.Method name params result) ns e = omega (arith, e)
  few form.Close ns e = omega (arith, e)

-- there are at most as many structs as lines
pub structs_few : (lines : Lines) → length (struct_names lines) ≤ length lines
structs_few lines = names_few lines
