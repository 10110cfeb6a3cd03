-- Targets, structs and methods of a valid load are read back from their names.
use Rattle.std.proofs.Common.{◌≡◌, ℕ, zero, suc, ◌+◌, ◌-◌, ◌<◌, ◌≤◌, true, false, ◌&&◌, List, [], ◌∷◌, ◌++◌, length, map, All, Option, Some, None, refl, sym, ap, ◌∙◌, subst, arith, leb-true}
use Rattle.std.proofs.lemmas.List.{length-map}
use Rattle.std.specs.Prelude.{slice_get, nat_le}
use Rattle.std.specs.List.{list_all}
use Rattle.rl_defs.specs.declared.load.LoadRows.{LoadRows}
use Rattle.rl_defs.specs.declared.load.LoadRow.{LoadRow}
use Rattle.rl_defs.specs.declared.load.ShadowRow.{ShadowRow}
use Rattle.rl_defs.specs.declared.tables.StructRow.{StructRow}
use Rattle.rl_defs.specs.declared.tables.TraitRow.{TraitRow}
use Rattle.rl_defs.specs.declared.tables.MethodRow.{MethodRow}
use Rattle.rl_defs.specs.Words.{is_word_byte, starts_word}
use Rattle.rl_defs.specs.Valid.{Valid}
use Rattle.rl_defs.specs.Domains.{row, shadow_row, row_name, shadow_name, target_name, method_name, method_of, method_row_name}
use Rattle.rl_defs.specs.Rows.{trait_of_target}
use Rattle.rl_defs.specs.CodeNames.{methods_of, rows_of, method_number}
use Rattle.rl_defs.proofs.ValidFacts.{method_by_trait, method_numbered}
use Rattle.machine_defs.specs.Texts.{target_text, struct_name, row_struct_name}
use Rattle.machine_defs.specs.EntryTexts.{IsWord, HasWords, IsTarget, IsMethod}
use Rattle.rl_defs.proofs.Lists.{and_right, get_map, get_first, get_second, list_at, all_at, of_pairs}
use Rattle.text_laws.proofs.Tokens.{plain, ReadsBack}
use Rattle.text_laws.proofs.Spelled.{words_plain, prefixed}

-- ---- words

pub word_plain : (name : List ℕ) → IsWord name → plain name ≡ true
word_plain name is = words_plain name (and_right (starts_word name && nat_le (length name) 24) (list_all is_word_byte name) is)

-- ---- targets

none_past : {A : Type 0} (xs : List A) (j : ℕ) → slice_get xs j ≡ None → length xs ≤ j
none_past [] j e = omega arith
none_past (x ∷ xs) zero e = absurd cc
none_past (x ∷ xs) (suc j) e = omega (arith, none_past xs j e)

module _ (L : LoadRows) (valid : Valid L) (words : HasWords L) where
  abbrev names : List (List ℕ)
  names = map (λ l. l.name) L.loads ++ map (λ x. x.name) L.shadows

  -- a target has its name in its place, and it is a word
  record TargetAt (x : ℕ) : Type 0 where
    pub place : ℕ
    pub number : x ≡ suc place
    pub named : slice_get names place ≡ Some (target_name L x)
    pub word : IsWord (target_name L x)

  target_at : (x : ℕ) → IsTarget L x → TargetAt x
  target_at zero is = let never : false ≡ true = is in absurd cc
  target_at (suc j) is = by (slice_get L.loads j) refl where
    by : (o : Option LoadRow) → slice_get L.loads j ≡ o → TargetAt (suc j)
    by (Some l) here =
        let name : target_name L (suc j) ≡ l.name = ap (row_name L (suc j)) here in
        record {
          place = j;
          number = refl;
          named = get_first (map (λ (k : LoadRow). k.name) L.loads) (map (λ (x : ShadowRow). x.name) L.shadows) j l.name (get_map (λ (k : LoadRow). k.name) L.loads j l here) ∙ ap Some (sym name);
          word = subst IsWord (sym name) (all_at (λ (k : LoadRow). IsWord k.name) L.loads j l words.loads here);
        }
    by None here =
        let few : suc j ≤ length L.loads + length L.shadows = leb-true (suc j) (length L.loads + length L.shadows) (and_right (nat_le 1 (suc j)) (nat_le (suc j) (length L.loads + length L.shadows)) is) in
        let past : length L.loads ≤ j = none_past L.loads j here in
        let at = list_at L.shadows (j - length L.loads) (omega arith) in
        let back : suc j - length L.loads ≡ suc (j - length L.loads) = omega arith in
        let row_is : shadow_row L (suc j) ≡ Some at.0 = ap (row L.shadows) back ∙ at.1 in
        let name : target_name L (suc j) ≡ at.0.name = ap (row_name L (suc j)) here ∙ ap shadow_name row_is in
        let behind : length (map (λ (k : LoadRow). k.name) L.loads) + (j - length L.loads) ≡ j = omega (arith, length-map L.loads (λ (k : LoadRow). k.name)) in
        record {
          place = j;
          number = refl;
          named = ap (slice_get names) (sym behind) ∙ get_second (map (λ (k : LoadRow). k.name) L.loads) (map (λ (x : ShadowRow). x.name) L.shadows) (j - length L.loads) ∙ get_map (λ (x : ShadowRow). x.name) L.shadows (j - length L.loads) at.0 at.1 ∙ ap Some (sym name);
          word = subst IsWord (sym name) (all_at (λ (x : ShadowRow). IsWord x.name) L.shadows (j - length L.loads) at.0 words.shadows at.1);
        }

  targets_apart : (x y : ℕ) → IsTarget L x → IsTarget L y → target_name L x ≡ target_name L y → x ≡ y
  targets_apart x y is also e =
      let a = target_at x is in
      let b = target_at y also in
      let same = of_pairs names valid.target_names a.place b.place (target_name L x) a.named (b.named ∙ ap Some (sym e)) in
      a.number ∙ ap suc same ∙ sym b.number

  pub target : ReadsBack (IsTarget L) (target_name L)
  target = record { plain_text = λ x is. word_plain (target_name L x) (target_at x is).word; apart = targets_apart }

  pub interface : ReadsBack (IsTarget L) (target_text L)
  interface = prefixed target 64 refl

  -- ---- structs

  struct_at : (ty : ℕ) → ty < length L.tables.structs → (s : StructRow) × (slice_get L.tables.structs ty ≡ Some s) × (struct_name L ty ≡ s.name)
  struct_at ty less = let at = list_at L.tables.structs ty less in (at.0, at.1, ap row_struct_name at.1)

  structs_apart : (a b : ℕ) → a < length L.tables.structs → b < length L.tables.structs → struct_name L a ≡ struct_name L b → a ≡ b
  structs_apart a b is also e =
      let s = struct_at a is in
      let z = struct_at b also in
      let first = get_first (map (λ (r : StructRow). r.name) L.tables.structs) (map (λ (t : TraitRow). t.name) L.tables.traits) a s.0.name (get_map (λ (r : StructRow). r.name) L.tables.structs a s.0 s.1) in
      let second = get_first (map (λ (r : StructRow). r.name) L.tables.structs) (map (λ (t : TraitRow). t.name) L.tables.traits) b z.0.name (get_map (λ (r : StructRow). r.name) L.tables.structs b z.0 z.1) in
      of_pairs (map (λ (r : StructRow). r.name) L.tables.structs ++ map (λ (t : TraitRow). t.name) L.tables.traits) valid.tables.names a b s.0.name first (second ∙ ap Some (sym z.2 ∙ sym e ∙ s.2))

  pub struct : ReadsBack (λ ty. ty < length L.tables.structs) (struct_name L)
  struct = record {
    plain_text = λ ty less. let s = struct_at ty less in word_plain (struct_name L ty) (subst IsWord (sym s.2) (all_at (λ (r : StructRow). IsWord r.name) L.tables.structs ty s.0 words.structs s.1));
    apart = structs_apart;
  }

  -- ---- methods of a target

  word_of_method : (t : ℕ) (o : Option TraitRow) → slice_get L.tables.traits t ≡ o → (m : ℕ) (r : MethodRow) → slice_get (methods_of L.tables t) m ≡ Some r → IsWord r.name
  word_of_method t None none m r e = let bad : None ≡ Some r = sym (ap (λ (o : Option TraitRow). slice_get (rows_of o) m) none) ∙ e in absurd cc
  word_of_method t (Some z) some m r e =
      let inside = all_at (λ (u : TraitRow). All (λ (y : MethodRow). IsWord y.name) u.methods) L.tables.traits t z words.methods some in
      all_at (λ (y : MethodRow). IsWord y.name) z.methods m r inside (sym (ap (λ (o : Option TraitRow). slice_get (rows_of o) m) some) ∙ e)

  module _ (x : ℕ) (is : IsTarget L x) where
    method_there : (m : ℕ) (r : MethodRow) → method_of L x m ≡ Some r → slice_get (methods_of L.tables (trait_of_target L x)) m ≡ Some r
    method_there m r e = sym (method_by_trait L valid x m is) ∙ e

    method_word : (m : ℕ) (r : MethodRow) → method_of L x m ≡ Some r → IsWord r.name
    method_word m r e = word_of_method (trait_of_target L x) (slice_get L.tables.traits (trait_of_target L x)) refl m r (method_there m r e)

    methods_apart : (m n : ℕ) → IsMethod L x m → IsMethod L x n → method_name L x m ≡ method_name L x n → m ≡ n
    methods_apart m n has also e =
        let first = method_numbered L.tables valid.tables (trait_of_target L x) m has.0 (method_there m has.0 has.1) in
        let second = method_numbered L.tables valid.tables (trait_of_target L x) n also.0 (method_there n also.0 also.1) in
        let same : has.0.name ≡ also.0.name = sym (ap method_row_name has.1) ∙ e ∙ ap method_row_name also.1 in
        let both : Some m ≡ Some n = sym first ∙ ap (method_number L.tables (trait_of_target L x)) same ∙ second in
        cc

    pub method : ReadsBack (IsMethod L x) (method_name L x)
    method = record {
      plain_text = λ m has. word_plain (method_name L x m) (subst IsWord (sym (ap method_row_name has.1)) (method_word m has.0 has.1));
      apart = methods_apart;
    }
