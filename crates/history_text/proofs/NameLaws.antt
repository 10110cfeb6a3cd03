-- Targets, methods and structs are read back from their names, and a call's target with its instance.
use Rattle.std.proofs.Common.{◌≡◌, ℕ, zero, suc, ◌+◌, ◌-◌, ◌^◌, ◌<◌, ◌≤◌, Bool, true, false, ◌&&◌, List, [], ◌∷◌, ◌++◌, length, Option, Some, None, refl, sym, ap, ◌∙◌, subst, arith, eqb, ltb, leb, cond, get_or, drop, leb-true, le-leb}
use Rattle.std.specs.Prelude.{slice_get, find}
use Rattle.std.specs.List.{position_or_len, before_first, after_first}
use Rattle.std.proofs.lemmas.Bool.{ltb-true, ltb-false, lt-ltb, and_from, both_ways}
use Rattle.std.proofs.lemmas.Option.{cond_some, get_or_from_slice_get}
use Rattle.std.proofs.lemmas.List.Folds.{find_at}
use Rattle.std.proofs.lemmas.List.Sums.{fails_before_first}
use Rattle.rl_defs.proofs.Lists.{list_at, list_past, in_list, and_right}
use Rattle.rl_defs.specs.declared.load.LoadRows.{LoadRows}
use Rattle.rl_defs.specs.declared.load.LoadRow.{LoadRow}
use Rattle.rl_defs.specs.declared.load.ShadowRow.{ShadowRow}
use Rattle.rl_defs.specs.declared.tables.StructRow.{StructRow}
use Rattle.rl_defs.specs.declared.tables.TraitRow.{TraitRow}
use Rattle.rl_defs.specs.declared.tables.MethodRow.{MethodRow}
use Rattle.rl_defs.specs.Words.{same_bytes}
use Rattle.rl_defs.specs.Valid.{Valid}
use Rattle.rl_defs.specs.Domains as rows
use Rattle.rl_defs.specs.Domains.{row, row_name, shadow_row, shadow_name, target_name, method_name, method_of, method_row_name, load_of_target}
use Rattle.machine_defs.specs.Texts.{struct_name, row_struct_name}
use Rattle.machine_defs.specs.EntryTexts.{HasWords, IsTarget, IsMethod}
use Rattle.text_laws.proofs.Tokens.{ReadsBack}
use Rattle.text_laws.proofs.Named.{target, method, struct}
use Rattle.history_text.specs.Held.{Fits32}
use Rattle.history_text.specs.Spelled.{trait_of}
use Rattle.history_text.specs.Reading.{◌>>=◌, narrow, place_of, place_in, shadow_place, target_place, target_in, methods_of, method_in, struct_in}
use Rattle.history_text.proofs.FieldLaws.{Reads, bound, same, alike, find_takes}

-- ---- numbers of 32 bits

narrow_takes : (n m : ℕ) → narrow n ≡ Some m → (n ≡ m) × Fits32 m
narrow_takes n m e =
    let parts = cond_some (ltb n (2 ^ 32)) n m e in
    (parts.1, subst Fits32 parts.1 (ltb-true n (2 ^ 32) parts.0))

narrow_again : (n : ℕ) → Fits32 n → narrow n ≡ Some n
narrow_again n fits = rw (lt-ltb n (2 ^ 32) fits) refl

-- ---- places of rows

module _ {A : Type 0} (name : A → List ℕ) (xs : List A) (w : List ℕ) where
  abbrev is_named : A → Bool
  is_named r = same_bytes (name r) w

  pub at_place : (k : ℕ) → place_in name xs w ≡ Some k → (r : A) × (slice_get xs k ≡ Some r) × (name r ≡ w)
  at_place k e =
      let parts = cond_some (ltb (place_of name xs w) (length xs)) (place_of name xs w) k e in
      let at = list_at xs (place_of name xs w) (ltb-true (place_of name xs w) (length xs) parts.0) in
      let seen : is_named at.0 ≡ true = find_takes is_named xs at.0 (find_at is_named xs ∙ at.1) in
      (at.0, ap (slice_get xs) (sym parts.1) ∙ at.1, same (name at.0) w seen)

  past : (t : Bool) → cond t (Some (place_of name xs w)) None ≡ None → t ≡ false
  past true e = absurd cc
  past false e = refl

  pub not_placed : place_in name xs w ≡ None → (j : ℕ) (r : A) → slice_get xs j ≡ Some r → name r ≡ w → ⊥
  not_placed e j r here named =
      let all : length xs ≤ place_of name xs w = ltb-false (place_of name xs w) (length xs) (past (ltb (place_of name xs w) (length xs)) e) in
      let less = in_list xs j r here in
      let off : is_named (get_or xs j r) ≡ false = fails_before_first is_named xs j r (omega arith) in
      let at : get_or xs j r ≡ r = get_or_from_slice_get xs j r r here in
      let isnt : is_named r ≡ false = subst (λ (y : A). is_named y ≡ false) at off in
      let is : is_named r ≡ true = subst (λ (z : List ℕ). same_bytes (name r) z ≡ true) named (alike (name r)) in
      both_ways (is_named r) isnt is

-- ---- targets

none_past : {A : Type 0} (xs : List A) (j : ℕ) → slice_get xs j ≡ None → length xs ≤ j
none_past [] j e = omega arith
none_past (x ∷ xs) zero e = absurd cc
none_past (x ∷ xs) (suc j) e = omega (arith, none_past xs j e)

module _ (L : LoadRows) where
  target_there : (x : ℕ) → 1 ≤ x → x ≤ length L.loads + length L.shadows → IsTarget L x
  target_there x low high = and_from (leb 1 x) (leb x (length L.loads + length L.shadows)) (le-leb 1 x low) (le-leb x (length L.loads + length L.shadows) high)

  load_named : (j : ℕ) (l : LoadRow) → slice_get L.loads j ≡ Some l → target_name L (suc j) ≡ l.name
  load_named j l here = ap (row_name L (suc j)) here

  shadow_named : (j k : ℕ) (s : ShadowRow) → slice_get L.loads j ≡ None → suc j - length L.loads ≡ suc k → slice_get L.shadows k ≡ Some s → target_name L (suc j) ≡ s.name
  shadow_named j k s none back here =
      let row_is : shadow_row L (suc j) ≡ Some s = ap (row L.shadows) back ∙ here in
      ap (row_name L (suc j)) none ∙ ap shadow_name row_is

  target_found : (w : List ℕ) (x : ℕ) → target_place L w ≡ Some x → (w ≡ target_name L x) × IsTarget L x
  target_found w x e = by (place_in (λ l. l.name) L.loads w) refl e where
    by : (o : Option ℕ) → place_in (λ l. l.name) L.loads w ≡ o → shadow_place L w o ≡ Some x → (w ≡ target_name L x) × IsTarget L x
    by (Some k) is f =
        let at = at_place (λ (l : LoadRow). l.name) L.loads w k is in
        let less = in_list L.loads k at.0 at.1 in
        let that : k + 1 ≡ x = cc in
        let number : x ≡ suc k = omega arith in
        let named : target_name L (suc k) ≡ w = load_named k at.0 at.1 ∙ at.2 in
        let whole : (w ≡ target_name L (suc k)) × IsTarget L (suc k) = (sym named, target_there (suc k) (omega arith) (omega arith)) in
        subst (λ (y : ℕ). (w ≡ target_name L y) × IsTarget L y) (sym number) whole
    by None is f =
        let p = bound (place_in (λ x. x.name) L.shadows w) (λ k. Some (length L.loads + k + 1)) x f in
        let at = at_place (λ (s : ShadowRow). s.name) L.shadows w p.0 p.1 in
        let less = in_list L.shadows p.0 at.0 at.1 in
        let that : length L.loads + p.0 + 1 ≡ x = cc (p.2) in
        let number : x ≡ suc (length L.loads + p.0) = omega arith in
        let none : slice_get L.loads (length L.loads + p.0) ≡ None = list_past L.loads (length L.loads + p.0) (omega arith) in
        let named : target_name L (suc (length L.loads + p.0)) ≡ w = shadow_named (length L.loads + p.0) p.0 at.0 none (omega arith) at.1 ∙ at.2 in
        let whole : (w ≡ target_name L (suc (length L.loads + p.0))) × IsTarget L (suc (length L.loads + p.0)) = (sym named, target_there (suc (length L.loads + p.0)) (omega arith) (omega arith)) in
        subst (λ (y : ℕ). (w ≡ target_name L y) × IsTarget L y) (sym number) whole

  no_load : (w : List ℕ) (o : Option ℕ) → shadow_place L w o ≡ None → o ≡ None
  no_load w (Some k) e = absurd cc
  no_load w None e = refl

  no_shadow : (o : Option ℕ) → (o >>= λ k. Some (length L.loads + k + 1)) ≡ None → o ≡ None
  no_shadow (Some k) e = absurd cc
  no_shadow None e = refl

  target_missing : (w : List ℕ) → target_place L w ≡ None → (x : ℕ) → IsTarget L x → target_name L x ≡ w → ⊥
  target_missing w e zero is named = let never : false ≡ true = is in absurd cc
  target_missing w e (suc j) is named = by (slice_get L.loads j) refl where
    none : place_in (λ l. l.name) L.loads w ≡ None
    none = no_load w (place_in (λ l. l.name) L.loads w) e

    by : (o : Option LoadRow) → slice_get L.loads j ≡ o → ⊥
    by (Some l) here = not_placed (λ (l : LoadRow). l.name) L.loads w none j l here (sym (load_named j l here) ∙ named)
    by None here =
        let few : suc j ≤ length L.loads + length L.shadows = leb-true (suc j) (length L.loads + length L.shadows) (and_right (leb 1 (suc j)) (leb (suc j) (length L.loads + length L.shadows)) is) in
        let behind : length L.loads ≤ j = none_past L.loads j here in
        let at = list_at L.shadows (j - length L.loads) (omega arith) in
        let name_is = shadow_named j (j - length L.loads) at.0 here (omega arith) at.1 in
        let off : place_in (λ x. x.name) L.shadows w ≡ None = no_shadow (place_in (λ x. x.name) L.shadows w) (subst (λ (o : Option ℕ). shadow_place L w o ≡ None) none e) in
        not_placed (λ (s : ShadowRow). s.name) L.shadows w off (j - length L.loads) at.0 at.1 (sym name_is ∙ named)

  target_takes : (w : List ℕ) (x : ℕ) → target_in L w ≡ Some x → (w ≡ target_name L x) × (IsTarget L x × Fits32 x)
  unfolding target_in
  target_takes w x e =
      let p = bound (target_place L w) narrow x e in
      let at = target_found w p.0 p.1 in
      let n = narrow_takes p.0 x p.2 in
      let here = subst (λ (y : ℕ). (w ≡ target_name L y) × IsTarget L y) n.0 at in
      (here.0, (here.1, n.1))

  module _ (valid : Valid L) (words : HasWords L) where
    place_again : (x : ℕ) → IsTarget L x → target_place L (target_name L x) ≡ Some x
    place_again x is = by (target_place L (target_name L x)) refl where
      by : (o : Option ℕ) → target_place L (target_name L x) ≡ o → target_place L (target_name L x) ≡ Some x
      by (Some y) e =
          let at = target_found (target_name L x) y e in
          e ∙ ap Some ((target L valid words).apart y x at.1 is (sym at.0))
      by None e = absurd (target_missing (target_name L x) e x is refl)

    target_again : (x : ℕ) → IsTarget L x × Fits32 x → target_in L (target_name L x) ≡ Some x
    unfolding target_in
    target_again x good = ap (λ (o : Option ℕ). o >>= narrow) (place_again x good.0) ∙ narrow_again x good.1

    pub targets : Reads (λ x. IsTarget L x × Fits32 x) (target_name L) (target_in L)
    targets = record { takes = target_takes; again = target_again }

    -- ---- structs

    struct_row : (ty : ℕ) (s : StructRow) → slice_get L.tables.structs ty ≡ Some s → struct_name L ty ≡ s.name
    struct_row ty s here = ap row_struct_name here

    struct_takes : (w : List ℕ) (ty : ℕ) → struct_in L w ≡ Some ty → (w ≡ struct_name L ty) × ((ty < length L.tables.structs) × Fits32 ty)
    unfolding struct_in
    struct_takes w ty e =
        let p = bound (place_in (λ s. s.name) L.tables.structs w) narrow ty e in
        let at = at_place (λ (s : StructRow). s.name) L.tables.structs w p.0 p.1 in
        let n = narrow_takes p.0 ty p.2 in
        let whole : (w ≡ struct_name L p.0) × (p.0 < length L.tables.structs) = (sym (struct_row p.0 at.0 at.1 ∙ at.2), in_list L.tables.structs p.0 at.0 at.1) in
        let here = subst (λ (y : ℕ). (w ≡ struct_name L y) × (y < length L.tables.structs)) n.0 whole in
        (here.0, (here.1, n.1))

    struct_again : (ty : ℕ) → (ty < length L.tables.structs) × Fits32 ty → struct_in L (struct_name L ty) ≡ Some ty
    unfolding struct_in
    struct_again ty good = by (place_in (λ s. s.name) L.tables.structs (struct_name L ty)) refl where
      row_at : (s : StructRow) × (slice_get L.tables.structs ty ≡ Some s)
      row_at = list_at L.tables.structs ty good.0

      by : (o : Option ℕ) → place_in (λ s. s.name) L.tables.structs (struct_name L ty) ≡ o → (place_in (λ s. s.name) L.tables.structs (struct_name L ty) >>= narrow) ≡ Some ty
      by (Some k) e =
          let at = at_place (λ (s : StructRow). s.name) L.tables.structs (struct_name L ty) k e in
          let one : k ≡ ty = (struct L valid words).apart k ty (in_list L.tables.structs k at.0 at.1) good.0 (struct_row k at.0 at.1 ∙ at.2) in
          ap (λ (o : Option ℕ). o >>= narrow) (e ∙ ap Some one) ∙ narrow_again ty good.1
      by None e = absurd (not_placed (λ (s : StructRow). s.name) L.tables.structs (struct_name L ty) e ty row_at.0 row_at.1 (sym (struct_row ty row_at.0 row_at.1)))

    pub structs : Reads (λ ty. (ty < length L.tables.structs) × Fits32 ty) (struct_name L) (struct_in L)
    structs = record { takes = struct_takes; again = struct_again }

    -- ---- methods of a target

    module _ (x : ℕ) (is : IsTarget L x) where
      abbrev those : List MethodRow
      those = methods_of (trait_of L (load_of_target L x))

      same_row : (o : Option TraitRow) (m : ℕ) → slice_get (methods_of o) m ≡ rows.method_in o m
      same_row None m = refl
      same_row (Some t) m = refl

      method_row : (m : ℕ) (r : MethodRow) → slice_get those m ≡ Some r → method_of L x m ≡ Some r
      method_row m r here = sym (same_row (trait_of L (load_of_target L x)) m) ∙ here

      method_takes : (w : List ℕ) (m : ℕ) → method_in L x w ≡ Some m → (w ≡ method_name L x m) × (IsMethod L x m × Fits32 m)
      unfolding method_in
      method_takes w m e =
          let p = bound (place_in (λ m. m.name) those w) narrow m e in
          let at = at_place (λ (r : MethodRow). r.name) those w p.0 p.1 in
          let n = narrow_takes p.0 m p.2 in
          let there = method_row p.0 at.0 at.1 in
          let whole : (w ≡ method_name L x p.0) × IsMethod L x p.0 = (sym (ap method_row_name there ∙ at.2), (at.0, there)) in
          let here = subst (λ (y : ℕ). (w ≡ method_name L x y) × IsMethod L x y) n.0 whole in
          (here.0, (here.1, n.1))

      method_again : (m : ℕ) → IsMethod L x m × Fits32 m → method_in L x (method_name L x m) ≡ Some m
      unfolding method_in
      method_again m good = by (place_in (λ m. m.name) those (method_name L x m)) refl where
        row_at : slice_get those m ≡ Some good.0.0
        row_at = same_row (trait_of L (load_of_target L x)) m ∙ good.0.1

        by : (o : Option ℕ) → place_in (λ m. m.name) those (method_name L x m) ≡ o → (place_in (λ m. m.name) those (method_name L x m) >>= narrow) ≡ Some m
        by (Some k) e =
            let at = at_place (λ (r : MethodRow). r.name) those (method_name L x m) k e in
            let there = method_row k at.0 at.1 in
            let one : k ≡ m = (method L valid words x is).apart k m (at.0, there) good.0 (ap method_row_name there ∙ at.2) in
            ap (λ (o : Option ℕ). o >>= narrow) (e ∙ ap Some one) ∙ narrow_again m good.1
        by None e = absurd (not_placed (λ (r : MethodRow). r.name) those (method_name L x m) e m good.0.0 row_at (sym (ap method_row_name good.0.1)))

      pub methods : Reads (λ m. IsMethod L x m × Fits32 m) (method_name L x) (method_in L x)
      methods = record { takes = method_takes; again = method_again }
