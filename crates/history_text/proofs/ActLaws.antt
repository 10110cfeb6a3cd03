-- Every entry of a load is read from its words, and what is read has these words.
use Rattle.std.proofs.Common.{◌≡◌, ℕ, ◌+◌, ◌^◌, ◌<◌, ◌≤◌, Bool, true, false, ◌&&◌, not, List, [], ◌∷◌, ◌++◌, length, map, All, Option, Some, None, refl, sym, ap, ◌∙◌, subst, arith, eqb, codes, cond}
use Rattle.std.specs.Prelude.{⊤, IsTrue, slice_get, if◌then◌else◌}
use Rattle.std.specs.List.{AllByRecursion, flat_map, slice_index_or, list_all}
use Rattle.std.specs.Fmt.{decimal}
use Rattle.std.proofs.lemmas.Bool.{and_from}
use Rattle.std.proofs.lemmas.List.Folds.{list_all-append}
use Rattle.std.proofs.lemmas.List.Elements.{All-from_recursion, recursion_from_All}
use Rattle.rl_defs.proofs.Lists.{list_at, all_at}
use Rattle.rl_defs.specs.declared.load.LoadRows.{LoadRows}
use Rattle.rl_defs.specs.declared.tables.TraitRow.{TraitRow}
use Rattle.rl_defs.specs.declared.tables.MethodRow.{MethodRow}
use Rattle.rl_defs.specs.declared.tables.StructRow.{StructRow}
use Rattle.rl_defs.specs.declared.values.Value.{Value}
use Rattle.rl_defs.specs.declared.values.Value.TheVariants as value
use Rattle.machine_defs.specs.declared.values.Arg.{Arg}
use Rattle.machine_defs.specs.declared.values.Arg.TheVariants as arg
use Rattle.machine_defs.specs.declared.values.Owner.{Owner}
use Rattle.machine_defs.specs.declared.values.Owner.TheVariants as owner
use Rattle.machine_defs.specs.declared.values.RpcCode.{RpcCode}
use Rattle.machine_defs.specs.declared.values.RpcCode.TheVariants as code
use Rattle.machine_defs.specs.declared.values.Cause.{Cause}
use Rattle.machine_defs.specs.declared.values.Cause.TheVariants as cause
use Rattle.machine_defs.specs.declared.entry.Entry.{Entry}
use Rattle.machine_defs.specs.declared.entry.Entry.TheVariants as entry
use Rattle.rl_defs.specs.Words.{is_word, is_name, same_bytes}
use Rattle.rl_defs.specs.Valid.{Valid}
use Rattle.rl_defs.specs.Domains.{target_name, method_name, method_of, method_row_name, load_of_target}
use Rattle.rl_defs.specs.Domains as rows
use Rattle.machine_defs.specs.Entries.{thread_of}
use Rattle.machine_defs.specs.Texts.{client_text, instance_text, object_text, owner_text, code_text, cause_text, struct_name, row_struct_name, arg_text, value_text}
use Rattle.machine_defs.specs.EntryTexts.{HasWords, IsWord, IsTarget, IsMethod, Fits64, ArgNamesRows, ValueNamesRows, NamesRows}
use Rattle.text_laws.proofs.Tokens.{plain}
use Rattle.text_laws.proofs.Spelled as plain_texts
use Rattle.text_laws.proofs.Named as plain_names
use Rattle.text_laws.proofs.Fields as plain_fields
use Rattle.text_laws.proofs.Told.{IsArg, IsValue}
use Rattle.history_text.specs.declared.verb.Verb.{Verb}
use Rattle.history_text.specs.declared.verb.Verb.TheVariants as verb
use Rattle.history_text.specs.Held.{Fits32, OwnerIsHeld, ArgIsHeld, ValueIsHeld, IsHeld, IsLoggable}
use Rattle.history_text.specs.Verbs.{verb_text, verb_in}
use Rattle.history_text.specs.Spelled.{trait_of}
use Rattle.history_text.specs.Reading.{◌>>=◌, first, rest, ended, number_of_64, number_of_32, object_in, instance_in, client_in, owner_in, target_in, method_in, struct_in, slot_in, entered_in, code_in, cause_in, arg_in, value_in, all_in, few}
use Rattle.history_text.specs.Acts as acts
use Rattle.history_text.proofs.FieldLaws.{Reads, bound, same, number_64, number_32, object, instance, client, owned, error, ended_by, told_by, slot, digit_first}
use Rattle.history_text.proofs.NameLaws.{targets, structs, methods}
use Rattle.history_text.proofs.ItemLaws.{lacks, plain_lacks, entered, entered_text, EnteredFits, ArgFits, argument, ValueFits, listed_value, all_takes, all_again, few_takes, few_again}
use Rattle.history_text.proofs.Said.{Lacking, subject, others, at_text}

-- ---- words that are there

abbrev pub filled : List ℕ → Bool
filled [] = false
filled (b ∷ bs) = true

number_filled : (n : ℕ) → Fits64 n → filled (decimal n) ≡ true
number_filled n fits = let f = digit_first n fits in ap filled f.is

word_filled : (w : List ℕ) → IsWord w → filled w ≡ true
word_filled [] is = let never : false ≡ true = is in absurd cc
word_filled (b ∷ bs) is = refl

cause_filled : (k : Cause) → filled (cause_text k) ≡ true
cause_filled cause.Divide = refl
cause_filled cause.Bounds = refl
cause_filled cause.Range = refl
cause_filled cause.Empty = refl
cause_filled cause.Full = refl
cause_filled cause.Device = refl
cause_filled cause.HeapFull = refl
cause_filled cause.Fuel = refl
cause_filled cause.Asked = refl
cause_filled cause.Io = refl

joined_filled : (x r : List ℕ) (b : ℕ) → filled (x ++ b ∷ r) ≡ true
joined_filled [] r b = refl
joined_filled (c ∷ x) r b = refl

not_filled : {A : Type 0} (w : List ℕ) → [] ≡ w → filled w ≡ true → A
not_filled w e is = let never : false ≡ true = ap filled e ∙ is in absurd cc

-- the last of these words is there, so all are
one_word : (ws : List (List ℕ)) (u : List ℕ) → first ws ≡ u → filled u ≡ true → ws ≡ u ∷ rest ws
one_word [] u a is = not_filled u a is
one_word (x ∷ ws) u a is = ap (λ (z : List ℕ). z ∷ ws) a

pub two_words : (ws : List (List ℕ)) (u v : List ℕ) → first ws ≡ u → first (rest ws) ≡ v → filled v ≡ true → ws ≡ u ∷ v ∷ rest (rest ws)
two_words [] u v a b is = not_filled v b is
two_words (x ∷ ws) u v a b is = let more = one_word ws v b is in let head : x ≡ u = a in cc

three_words : (ws : List (List ℕ)) (u v w : List ℕ) → first ws ≡ u → first (rest ws) ≡ v → first (rest (rest ws)) ≡ w → filled w ≡ true → ws ≡ u ∷ v ∷ w ∷ rest (rest (rest ws))
three_words [] u v w a b c is = not_filled w c is
three_words (x ∷ ws) u v w a b c is = let more = two_words ws v w b c is in let head : x ≡ u = a in cc

four_words : (ws : List (List ℕ)) (u v w z : List ℕ) → first ws ≡ u → first (rest ws) ≡ v → first (rest (rest ws)) ≡ w → first (rest (rest (rest ws))) ≡ z → filled z ≡ true → ws ≡ u ∷ v ∷ w ∷ z ∷ rest (rest (rest (rest ws)))
four_words [] u v w z a b c d is = not_filled z d is
four_words (x ∷ ws) u v w z a b c d is = let more = three_words ws v w z b c d is in let head : x ≡ u = a in cc

-- ---- what was read, step by step

pub record End1 {A R : Type 0} (oa : Option A) (ws : List (List ℕ)) (make : A → R) (r : R) : Type 0 where
  pub a : A
  pub is_a : oa ≡ Some a
  pub end : ws ≡ []
  pub made : make a ≡ r

pub end1 : {A R : Type 0} (oa : Option A) (ws : List (List ℕ)) (make : A → R) (r : R) → (oa >>= λ a. ended ws (make a)) ≡ Some r → End1 oa ws make r
end1 None ws make r e = absurd cc
end1 (Some a) [] make r e = record { a = a; is_a = refl; end = refl; made = cc }
end1 (Some a) (w ∷ ws) make r e = absurd cc

record End2 {A B R : Type 0} (oa : Option A) (ob : Option B) (ws : List (List ℕ)) (make : A → B → R) (r : R) : Type 0 where
  pub a : A
  pub b : B
  pub is_a : oa ≡ Some a
  pub is_b : ob ≡ Some b
  pub end : ws ≡ []
  pub made : make a b ≡ r

end2 : {A B R : Type 0} (oa : Option A) (ob : Option B) (ws : List (List ℕ)) (make : A → B → R) (r : R) → (oa >>= λ a. ob >>= λ b. ended ws (make a b)) ≡ Some r → End2 oa ob ws make r
end2 None ob ws make r e = absurd cc
end2 (Some a) ob ws make r e = let x = end1 ob ws (make a) r e in record { a = a; b = x.a; is_a = refl; is_b = x.is_a; end = x.end; made = x.made }

record End3 {A B C R : Type 0} (oa : Option A) (ob : Option B) (oc : Option C) (ws : List (List ℕ)) (make : A → B → C → R) (r : R) : Type 0 where
  pub a : A
  pub b : B
  pub c : C
  pub is_a : oa ≡ Some a
  pub is_b : ob ≡ Some b
  pub is_c : oc ≡ Some c
  pub end : ws ≡ []
  pub made : make a b c ≡ r

end3 : {A B C R : Type 0} (oa : Option A) (ob : Option B) (oc : Option C) (ws : List (List ℕ)) (make : A → B → C → R) (r : R) → (oa >>= λ a. ob >>= λ b. oc >>= λ c. ended ws (make a b c)) ≡ Some r → End3 oa ob oc ws make r
end3 None ob oc ws make r e = absurd cc
end3 (Some a) ob oc ws make r e = let x = end2 ob oc ws (make a) r e in record { a = a; b = x.a; c = x.b; is_a = refl; is_b = x.is_a; is_c = x.is_b; end = x.end; made = x.made }

-- ---- rows' names

module _ (L : LoadRows) (valid : Valid L) (words : HasWords L) where
  struct_filled : (ty : ℕ) → ty < length L.tables.structs → filled (struct_name L ty) ≡ true
  struct_filled ty less =
      let at = list_at L.tables.structs ty less in
      let word : IsWord at.0.name = all_at (λ (s : StructRow). IsWord s.name) L.tables.structs ty at.0 words.structs at.1 in
      ap filled (ap row_struct_name at.1) ∙ word_filled at.0.name word

  method_filled : (x m : ℕ) → IsMethod L x m → filled (method_name L x m) ≡ true
  method_filled x m has = ap filled (ap method_row_name has.1) ∙ word_filled has.0.name (by (trait_of L (load_of_target L x)) refl has.1) where
    by : (o : Option TraitRow) → trait_of L (load_of_target L x) ≡ o → rows.method_in o m ≡ Some has.0 → IsWord has.0.name
    by None is e = absurd cc
    by (Some t) is e =
        let inside : All (λ m. IsWord m.name) t.methods = all_at (λ (z : TraitRow). All (λ (y : MethodRow). IsWord y.name) z.methods) L.tables.traits _ t words.methods is in
        all_at (λ (y : MethodRow). IsWord y.name) t.methods m has.0 inside e

  -- ---- what the words behind a thread tell

  pub record Told (t : ℕ) (v : Verb) (ws : List (List ℕ)) (e : Entry) : Type 0 where
    pub thread : subject e ≡ client_text t
    pub tells : others L e ≡ verb_text v ∷ ws
    pub here : IsLoggable L e

  told : (t : ℕ) (v : Verb) (ws : List (List ℕ)) (f e : Entry) → f ≡ e → subject f ≡ client_text t → others L f ≡ verb_text v ∷ ws → IsHeld f → NamesRows L f → Told t v ws e
  told t v ws f e same thread tells held rows = subst (λ (g : Entry). Told t v ws g) same (record { thread = thread; tells = tells; here = record { held = held; rows = rows } })

  behind : (v ws us : List (List ℕ)) → ws ≡ us → v ++ us ≡ v ++ ws
  behind v ws us e = ap (λ (r : List (List ℕ)). v ++ r) (sym e)

  unwound_takes : (t : ℕ) (ws : List (List ℕ)) (e : Entry) → Fits32 t → acts.unwound_in t ws ≡ Some e → Told t verb.Unwound ws e
  unwound_takes t ws e fits f =
      let p = end1 (number_of_32 (first ws)) (rest ws) (entry.Unwound t) e f in
      let a = number_32.takes (first ws) p.a p.is_a in
      let low_a = a.1 in
      let here = one_word ws (decimal p.a) a.0 (number_filled p.a (omega arith)) in
      let spelled : ws ≡ decimal p.a ∷ [] = here ∙ ap (λ (r : List (List ℕ)). decimal p.a ∷ r) p.end in
      told t verb.Unwound ws (entry.Unwound t p.a) e p.made refl (behind (verb_text verb.Unwound ∷ []) ws (decimal p.a ∷ []) spelled) (fits, a.1) tt

  reload_takes : (t : ℕ) (ws : List (List ℕ)) (e : Entry) → Fits32 t → acts.reload_in L t ws ≡ Some e → Told t verb.Reload ws e
  reload_takes t ws e fits f =
      let p = end3 (target_in L (first ws)) (instance_in (first (rest ws))) (number_of_32 (first (rest (rest ws)))) (rest (rest (rest ws))) (entry.Reload t) e f in
      let a = (targets L valid words).takes (first ws) p.a p.is_a in
      let b = instance.takes (first (rest ws)) p.b p.is_b in
      let c = number_32.takes (first (rest (rest ws))) p.c p.is_c in
      let low_c = c.1 in
      let here = three_words ws (target_name L p.a) (instance_text p.b) (decimal p.c) a.0 b.0 c.0 (number_filled p.c (omega arith)) in
      let spelled : ws ≡ target_name L p.a ∷ instance_text p.b ∷ decimal p.c ∷ [] = here ∙ ap (λ (r : List (List ℕ)). target_name L p.a ∷ instance_text p.b ∷ decimal p.c ∷ r) p.end in
      told t verb.Reload ws (entry.Reload t p.a p.b p.c) e p.made refl (behind (verb_text verb.Reload ∷ []) ws (target_name L p.a ∷ instance_text p.b ∷ decimal p.c ∷ []) spelled) (fits, a.1.1, b.1, c.1) a.1.0

  again_takes : (t : ℕ) (ws : List (List ℕ)) (e : Entry) → Fits32 t → acts.again_in L t ws ≡ Some e → Told t verb.Again ws e
  again_takes t ws e fits f =
      let p = end2 (number_of_32 (first ws)) (entered_in L (first (rest ws))) (rest (rest ws)) (λ (c : ℕ) (at : ℕ × ℕ). entry.Again t c at.0 at.1) e f in
      let a = number_32.takes (first ws) p.a p.is_a in
      let b = (entered L valid words).takes (first (rest ws)) p.b p.is_b in
      let low_a = a.1 in
      let here = two_words ws (decimal p.a) (entered_text L valid words p.b) a.0 b.0 (joined_filled (target_name L p.b.0) (instance_text p.b.1) 47) in
      let spelled : ws ≡ decimal p.a ∷ entered_text L valid words p.b ∷ [] = here ∙ ap (λ (r : List (List ℕ)). decimal p.a ∷ entered_text L valid words p.b ∷ r) p.end in
      told t verb.Again ws (entry.Again t p.a p.b.0 p.b.1) e p.made refl (behind (verb_text verb.Again ∷ []) ws (decimal p.a ∷ entered_text L valid words p.b ∷ []) spelled) (fits, a.1, b.1.0.1, b.1.1) b.1.0.0

  trap_takes : (t : ℕ) (ws : List (List ℕ)) (e : Entry) → Fits32 t → acts.trap_in t ws ≡ Some e → Told t verb.Trap ws e
  trap_takes t ws e fits f =
      let p = end2 (instance_in (first ws)) (cause_in (first (rest ws))) (rest (rest ws)) (entry.Trap t) e f in
      let a = instance.takes (first ws) p.a p.is_a in
      let b = ended_by.takes (first (rest ws)) p.b p.is_b in
      let here = two_words ws (instance_text p.a) (cause_text p.b) a.0 b.0 (cause_filled p.b) in
      let spelled : ws ≡ instance_text p.a ∷ cause_text p.b ∷ [] = here ∙ ap (λ (r : List (List ℕ)). instance_text p.a ∷ cause_text p.b ∷ r) p.end in
      told t verb.Trap ws (entry.Trap t p.a p.b) e p.made refl (behind (verb_text verb.Trap ∷ []) ws (instance_text p.a ∷ cause_text p.b ∷ []) spelled) (fits, a.1) tt

  kill_takes : (t : ℕ) (ws : List (List ℕ)) (e : Entry) → Fits32 t → acts.kill_in t ws ≡ Some e → Told t verb.Kill ws e
  kill_takes t ws e fits f =
      let p = end1 (instance_in (first ws)) (rest ws) (entry.Kill t) e f in
      let a = instance.takes (first ws) p.a p.is_a in
      let here = one_word ws (instance_text p.a) a.0 (refl) in
      let spelled : ws ≡ instance_text p.a ∷ [] = here ∙ ap (λ (r : List (List ℕ)). instance_text p.a ∷ r) p.end in
      told t verb.Kill ws (entry.Kill t p.a) e p.made refl (behind (verb_text verb.Kill ∷ []) ws (instance_text p.a ∷ []) spelled) (fits, a.1) tt

  drop_takes : (t : ℕ) (ws : List (List ℕ)) (e : Entry) → Fits32 t → acts.drop_in t ws ≡ Some e → Told t verb.Drop ws e
  drop_takes t ws e fits f =
      let p = end1 (object_in (first ws)) (rest ws) (entry.Drop t) e f in
      let a = object.takes (first ws) p.a p.is_a in
      let here = one_word ws (object_text p.a) a.0 (refl) in
      let spelled : ws ≡ object_text p.a ∷ [] = here ∙ ap (λ (r : List (List ℕ)). object_text p.a ∷ r) p.end in
      told t verb.Drop ws (entry.Drop t p.a) e p.made refl (behind (verb_text verb.Drop ∷ []) ws (object_text p.a ∷ []) spelled) (fits, a.1) tt

  wput_takes : (t : ℕ) (ws : List (List ℕ)) (e : Entry) → Fits32 t → acts.wput_in t ws ≡ Some e → Told t verb.Wput ws e
  wput_takes t ws e fits f =
      let p = end3 (instance_in (first ws)) (number_of_32 (first (rest ws))) (number_of_64 (first (rest (rest ws)))) (rest (rest (rest ws))) (entry.Wput t) e f in
      let a = instance.takes (first ws) p.a p.is_a in
      let b = number_32.takes (first (rest ws)) p.b p.is_b in
      let c = number_64.takes (first (rest (rest ws))) p.c p.is_c in
      let low_b = b.1 in
      let here = three_words ws (instance_text p.a) (decimal p.b) (decimal p.c) a.0 b.0 c.0 (number_filled p.c c.1) in
      let spelled : ws ≡ instance_text p.a ∷ decimal p.b ∷ decimal p.c ∷ [] = here ∙ ap (λ (r : List (List ℕ)). instance_text p.a ∷ decimal p.b ∷ decimal p.c ∷ r) p.end in
      told t verb.Wput ws (entry.Wput t p.a p.b p.c) e p.made refl (behind (verb_text verb.Wput ∷ []) ws (instance_text p.a ∷ decimal p.b ∷ decimal p.c ∷ []) spelled) (fits, a.1, b.1, c.1) tt

  take_takes : (t : ℕ) (ws : List (List ℕ)) (e : Entry) → Fits32 t → acts.take_in t ws ≡ Some e → Told t verb.Take ws e
  take_takes t ws e fits f =
      let p = end3 (instance_in (first ws)) (slot_in (first (rest ws))) (object_in (first (rest (rest ws)))) (rest (rest (rest ws))) (entry.Take t) e f in
      let a = instance.takes (first ws) p.a p.is_a in
      let b = slot.takes (first (rest ws)) p.b p.is_b in
      let c = object.takes (first (rest (rest ws))) p.c p.is_c in
      let here = three_words ws (instance_text p.a) (p.b) (object_text p.c) a.0 b.0 c.0 (refl) in
      let spelled : ws ≡ instance_text p.a ∷ p.b ∷ object_text p.c ∷ [] = here ∙ ap (λ (r : List (List ℕ)). instance_text p.a ∷ p.b ∷ object_text p.c ∷ r) p.end in
      told t verb.Take ws (entry.Take t p.a p.b p.c) e p.made refl (behind (verb_text verb.Take ∷ []) ws (instance_text p.a ∷ p.b ∷ object_text p.c ∷ []) spelled) (fits, a.1, b.1, c.1) tt

  put_takes : (t : ℕ) (ws : List (List ℕ)) (e : Entry) → Fits32 t → acts.put_in t ws ≡ Some e → Told t verb.Put ws e
  put_takes t ws e fits f =
      let p = end3 (instance_in (first ws)) (slot_in (first (rest ws))) (object_in (first (rest (rest ws)))) (rest (rest (rest ws))) (entry.Put t) e f in
      let a = instance.takes (first ws) p.a p.is_a in
      let b = slot.takes (first (rest ws)) p.b p.is_b in
      let c = object.takes (first (rest (rest ws))) p.c p.is_c in
      let here = three_words ws (instance_text p.a) (p.b) (object_text p.c) a.0 b.0 c.0 (refl) in
      let spelled : ws ≡ instance_text p.a ∷ p.b ∷ object_text p.c ∷ [] = here ∙ ap (λ (r : List (List ℕ)). instance_text p.a ∷ p.b ∷ object_text p.c ∷ r) p.end in
      told t verb.Put ws (entry.Put t p.a p.b p.c) e p.made refl (behind (verb_text verb.Put ∷ []) ws (instance_text p.a ∷ p.b ∷ object_text p.c ∷ []) spelled) (fits, a.1, b.1, c.1) tt

  devget_takes : (t : ℕ) (ws : List (List ℕ)) (e : Entry) → Fits32 t → acts.devget_in t ws ≡ Some e → Told t verb.DevGet ws e
  devget_takes t ws e fits f =
      let p = end2 (object_in (first ws)) (number_of_64 (first (rest ws))) (rest (rest ws)) (entry.DevGet t) e f in
      let a = object.takes (first ws) p.a p.is_a in
      let b = number_64.takes (first (rest ws)) p.b p.is_b in
      let here = two_words ws (object_text p.a) (decimal p.b) a.0 b.0 (number_filled p.b b.1) in
      let spelled : ws ≡ object_text p.a ∷ decimal p.b ∷ [] = here ∙ ap (λ (r : List (List ℕ)). object_text p.a ∷ decimal p.b ∷ r) p.end in
      told t verb.DevGet ws (entry.DevGet t p.a p.b) e p.made refl (behind (verb_text verb.DevGet ∷ []) ws (object_text p.a ∷ decimal p.b ∷ []) spelled) (fits, a.1, b.1) tt

  devput_takes : (t : ℕ) (ws : List (List ℕ)) (e : Entry) → Fits32 t → acts.devput_in t ws ≡ Some e → Told t verb.DevPut ws e
  devput_takes t ws e fits f =
      let p = end2 (number_of_64 (first ws)) (object_in (first (rest ws))) (rest (rest ws)) (entry.DevPut t) e f in
      let a = number_64.takes (first ws) p.a p.is_a in
      let b = object.takes (first (rest ws)) p.b p.is_b in
      let here = two_words ws (decimal p.a) (object_text p.b) a.0 b.0 (refl) in
      let spelled : ws ≡ decimal p.a ∷ object_text p.b ∷ [] = here ∙ ap (λ (r : List (List ℕ)). decimal p.a ∷ object_text p.b ∷ r) p.end in
      told t verb.DevPut ws (entry.DevPut t p.a p.b) e p.made refl (behind (verb_text verb.DevPut ∷ []) ws (decimal p.a ∷ object_text p.b ∷ []) spelled) (fits, a.1, b.1) tt

  hang_takes : (t : ℕ) (ws : List (List ℕ)) (e : Entry) → Fits32 t → acts.hang_in t ws ≡ Some e → Told t verb.Hang ws e
  hang_takes t ws e fits f =
      let p = end3 (object_in (first ws)) (number_of_32 (first (rest ws))) (object_in (first (rest (rest ws)))) (rest (rest (rest ws))) (entry.Hang t) e f in
      let a = object.takes (first ws) p.a p.is_a in
      let b = number_32.takes (first (rest ws)) p.b p.is_b in
      let c = object.takes (first (rest (rest ws))) p.c p.is_c in
      let low_b = b.1 in
      let here = three_words ws (object_text p.a) (decimal p.b) (object_text p.c) a.0 b.0 c.0 (refl) in
      let spelled : ws ≡ object_text p.a ∷ decimal p.b ∷ object_text p.c ∷ [] = here ∙ ap (λ (r : List (List ℕ)). object_text p.a ∷ decimal p.b ∷ object_text p.c ∷ r) p.end in
      told t verb.Hang ws (entry.Hang t p.a p.b p.c) e p.made refl (behind (verb_text verb.Hang ∷ []) ws (object_text p.a ∷ decimal p.b ∷ object_text p.c ∷ []) spelled) (fits, a.1, b.1, c.1) tt

  unhang_takes : (t : ℕ) (ws : List (List ℕ)) (e : Entry) → Fits32 t → acts.unhang_in t ws ≡ Some e → Told t verb.Unhang ws e
  unhang_takes t ws e fits f =
      let p = end3 (object_in (first ws)) (number_of_32 (first (rest ws))) (object_in (first (rest (rest ws)))) (rest (rest (rest ws))) (entry.Unhang t) e f in
      let a = object.takes (first ws) p.a p.is_a in
      let b = number_32.takes (first (rest ws)) p.b p.is_b in
      let c = object.takes (first (rest (rest ws))) p.c p.is_c in
      let low_b = b.1 in
      let here = three_words ws (object_text p.a) (decimal p.b) (object_text p.c) a.0 b.0 c.0 (refl) in
      let spelled : ws ≡ object_text p.a ∷ decimal p.b ∷ object_text p.c ∷ [] = here ∙ ap (λ (r : List (List ℕ)). object_text p.a ∷ decimal p.b ∷ object_text p.c ∷ r) p.end in
      told t verb.Unhang ws (entry.Unhang t p.a p.b p.c) e p.made refl (behind (verb_text verb.Unhang ∷ []) ws (object_text p.a ∷ decimal p.b ∷ object_text p.c ∷ []) spelled) (fits, a.1, b.1, c.1) tt

  skip_takes : (t : ℕ) (ws : List (List ℕ)) (e : Entry) → Fits32 t → acts.skip_in t ws ≡ Some e → Told t verb.Skip ws e
  skip_takes t ws e fits f =
      let p = end1 (number_of_32 (first ws)) (rest ws) (entry.Skip t) e f in
      let a = number_32.takes (first ws) p.a p.is_a in
      let low_a = a.1 in
      let here = one_word ws (decimal p.a) a.0 (number_filled p.a (omega arith)) in
      let spelled : ws ≡ decimal p.a ∷ [] = here ∙ ap (λ (r : List (List ℕ)). decimal p.a ∷ r) p.end in
      told t verb.Skip ws (entry.Skip t p.a) e p.made refl (behind (verb_text verb.Skip ∷ []) ws (decimal p.a ∷ []) spelled) (fits, a.1) tt

  done_takes : (t : ℕ) (ws : List (List ℕ)) (e : Entry) → Fits32 t → acts.done_in t ws ≡ Some e → Told t verb.Done ws e
  done_takes t [] e fits f = let made : entry.Done t ≡ e = cc f in told t verb.Done [] (entry.Done t) e made refl refl fits tt
  done_takes t (w ∷ ws) e fits f = absurd cc

  -- ---- with arguments, results or values

  held_args : (args : List Arg) → AllByRecursion (ArgFits L valid words) args → All ArgIsHeld args × All (ArgNamesRows L) args
  held_args args all =
      let each = All-from_recursion (ArgFits L valid words) args all in
      (λ k d less. (each k d less).0, λ k d less. (each k d less).1)

  held_values : (values : List Value) → AllByRecursion (ValueFits L valid words) values → All ValueIsHeld values × All (ValueNamesRows L) values
  held_values values all =
      let each = All-from_recursion (ValueFits L valid words) values all in
      (λ k d less. (each k d less).0, λ k d less. (each k d less).1)

  call_takes : (t : ℕ) (ws : List (List ℕ)) (e : Entry) → Fits32 t → acts.call_in L t ws ≡ Some e → Told t verb.Call ws e
  call_takes t ws e fits f =
      let c = bound (number_of_32 (first ws)) (λ c. entered_in L (first (rest ws)) >>= λ at. method_in L at.0 (first (rest (rest ws))) >>= λ m. few 8 (all_in (arg_in L) (rest (rest (rest ws)))) >>= λ args. Some (entry.Call t c at.0 at.1 m args)) e f in
      let at = bound (entered_in L (first (rest ws))) (λ at. method_in L at.0 (first (rest (rest ws))) >>= λ m. few 8 (all_in (arg_in L) (rest (rest (rest ws)))) >>= λ args. Some (entry.Call t c.0 at.0 at.1 m args)) e c.2 in
      let m = bound (method_in L at.0.0 (first (rest (rest ws)))) (λ m. few 8 (all_in (arg_in L) (rest (rest (rest ws)))) >>= λ args. Some (entry.Call t c.0 at.0.0 at.0.1 m args)) e at.2 in
      let args = bound (few 8 (all_in (arg_in L) (rest (rest (rest ws))))) (λ args. Some (entry.Call t c.0 at.0.0 at.0.1 m.0 args)) e m.2 in
      let made : entry.Call t c.0 at.0.0 at.0.1 m.0 args.0 ≡ e = cc (args.2) in
      let c_is = number_32.takes (first ws) c.0 c.1 in
      let at_is = (entered L valid words).takes (first (rest ws)) at.0 at.1 in
      let m_is = (methods L valid words at.0.0 at_is.1.0.0).takes (first (rest (rest ws))) m.0 m.1 in
      let short = few_takes 8 (all_in (arg_in L) (rest (rest (rest ws)))) args.0 args.1 in
      let args_are = all_takes (argument L valid words) (rest (rest (rest ws))) args.0 short.0 in
      let each = held_args args.0 args_are.1 in
      let here = three_words ws (decimal c.0) (at_text L at.0.0 at.0.1) (method_name L at.0.0 m.0) c_is.0 at_is.0 m_is.0 (method_filled at.0.0 m.0 m_is.1.0) in
      let spelled : ws ≡ decimal c.0 ∷ at_text L at.0.0 at.0.1 ∷ method_name L at.0.0 m.0 ∷ map (arg_text L) args.0 = here ∙ ap (λ (r : List (List ℕ)). decimal c.0 ∷ at_text L at.0.0 at.0.1 ∷ method_name L at.0.0 m.0 ∷ r) args_are.0 in
      told t verb.Call ws (entry.Call t c.0 at.0.0 at.0.1 m.0 args.0) e made refl (ap (λ (r : List (List ℕ)). codes "call" ∷ r) (sym spelled)) (fits, c_is.1, at_is.1.0.1, at_is.1.1, m_is.1.1, short.1, each.0) ((at_is.1.0.0, m_is.1.0), each.1)

  refuse_takes : (t : ℕ) (ws : List (List ℕ)) (e : Entry) → Fits32 t → acts.refuse_in L t ws ≡ Some e → Told t verb.Refuse ws e
  refuse_takes t ws e fits f =
      let c = bound (number_of_32 (first ws)) (λ c. code_in (first (rest ws)) >>= λ k. target_in L (first (rest (rest ws))) >>= λ x. method_in L x (first (rest (rest (rest ws)))) >>= λ m. few 8 (all_in (arg_in L) (rest (rest (rest (rest ws))))) >>= λ args. Some (entry.Refuse t c k x m args)) e f in
      let k = bound (code_in (first (rest ws))) (λ k. target_in L (first (rest (rest ws))) >>= λ x. method_in L x (first (rest (rest (rest ws)))) >>= λ m. few 8 (all_in (arg_in L) (rest (rest (rest (rest ws))))) >>= λ args. Some (entry.Refuse t c.0 k x m args)) e c.2 in
      let x = bound (target_in L (first (rest (rest ws)))) (λ x. method_in L x (first (rest (rest (rest ws)))) >>= λ m. few 8 (all_in (arg_in L) (rest (rest (rest (rest ws))))) >>= λ args. Some (entry.Refuse t c.0 k.0 x m args)) e k.2 in
      let m = bound (method_in L x.0 (first (rest (rest (rest ws))))) (λ m. few 8 (all_in (arg_in L) (rest (rest (rest (rest ws))))) >>= λ args. Some (entry.Refuse t c.0 k.0 x.0 m args)) e x.2 in
      let args = bound (few 8 (all_in (arg_in L) (rest (rest (rest (rest ws)))))) (λ args. Some (entry.Refuse t c.0 k.0 x.0 m.0 args)) e m.2 in
      let made : entry.Refuse t c.0 k.0 x.0 m.0 args.0 ≡ e = cc (args.2) in
      let c_is = number_32.takes (first ws) c.0 c.1 in
      let k_is = error.takes (first (rest ws)) k.0 k.1 in
      let x_is = (targets L valid words).takes (first (rest (rest ws))) x.0 x.1 in
      let m_is = (methods L valid words x.0 x_is.1.0).takes (first (rest (rest (rest ws)))) m.0 m.1 in
      let short = few_takes 8 (all_in (arg_in L) (rest (rest (rest (rest ws))))) args.0 args.1 in
      let args_are = all_takes (argument L valid words) (rest (rest (rest (rest ws)))) args.0 short.0 in
      let each = held_args args.0 args_are.1 in
      let here = four_words ws (decimal c.0) (code_text k.0) (target_name L x.0) (method_name L x.0 m.0) c_is.0 k_is.0 x_is.0 m_is.0 (method_filled x.0 m.0 m_is.1.0) in
      let spelled : ws ≡ decimal c.0 ∷ code_text k.0 ∷ target_name L x.0 ∷ method_name L x.0 m.0 ∷ map (arg_text L) args.0 = here ∙ ap (λ (r : List (List ℕ)). decimal c.0 ∷ code_text k.0 ∷ target_name L x.0 ∷ method_name L x.0 m.0 ∷ r) args_are.0 in
      told t verb.Refuse ws (entry.Refuse t c.0 k.0 x.0 m.0 args.0) e made refl (ap (λ (r : List (List ℕ)). codes "refuse" ∷ r) (sym spelled)) (fits, c_is.1, x_is.1.1, m_is.1.1, short.1, each.0) ((x_is.1.0, m_is.1.0), each.1)

  ret_takes : (t : ℕ) (ws : List (List ℕ)) (e : Entry) → Fits32 t → acts.ret_in L t ws ≡ Some e → Told t verb.Ret ws e
  ret_takes t ws e fits f =
      let c = bound (number_of_32 (first ws)) (λ c. few 4 (all_in (value_in L) (rest ws)) >>= λ results. Some (entry.Ret t c results)) e f in
      let results = bound (few 4 (all_in (value_in L) (rest ws))) (λ results. Some (entry.Ret t c.0 results)) e c.2 in
      let made : entry.Ret t c.0 results.0 ≡ e = cc (results.2) in
      let c_is = number_32.takes (first ws) c.0 c.1 in
      let short = few_takes 4 (all_in (value_in L) (rest ws)) results.0 results.1 in
      let are = all_takes (listed_value L valid words) (rest ws) results.0 short.0 in
      let each = held_values results.0 are.1 in
      let low = c_is.1 in
      let here = one_word ws (decimal c.0) c_is.0 (number_filled c.0 (omega arith)) in
      let spelled : ws ≡ decimal c.0 ∷ map (value_text L) results.0 = here ∙ ap (λ (r : List (List ℕ)). decimal c.0 ∷ r) are.0 in
      told t verb.Ret ws (entry.Ret t c.0 results.0) e made refl (ap (λ (r : List (List ℕ)). codes "ret" ∷ r) (sym spelled)) (fits, c_is.1, short.1, each.0) each.1

  new_takes : (t : ℕ) (ws : List (List ℕ)) (e : Entry) → Fits32 t → acts.new_in L t ws ≡ Some e → Told t verb.New ws e
  new_takes t ws e fits f =
      let w = bound (owner_in (first ws)) (λ w. object_in (first (rest ws)) >>= λ o. struct_in L (first (rest (rest ws))) >>= λ ty. all_in number_of_64 (rest (rest (rest ws))) >>= λ values. Some (entry.New t w o ty values)) e f in
      let o = bound (object_in (first (rest ws))) (λ o. struct_in L (first (rest (rest ws))) >>= λ ty. all_in number_of_64 (rest (rest (rest ws))) >>= λ values. Some (entry.New t w.0 o ty values)) e w.2 in
      let ty = bound (struct_in L (first (rest (rest ws)))) (λ ty. all_in number_of_64 (rest (rest (rest ws))) >>= λ values. Some (entry.New t w.0 o.0 ty values)) e o.2 in
      let values = bound (all_in number_of_64 (rest (rest (rest ws)))) (λ values. Some (entry.New t w.0 o.0 ty.0 values)) e ty.2 in
      let made : entry.New t w.0 o.0 ty.0 values.0 ≡ e = cc (values.2) in
      let w_is = owned.takes (first ws) w.0 w.1 in
      let o_is = object.takes (first (rest ws)) o.0 o.1 in
      let ty_is = (structs L valid words).takes (first (rest (rest ws))) ty.0 ty.1 in
      let are = all_takes number_64 (rest (rest (rest ws))) values.0 values.1 in
      let here = three_words ws (owner_text w.0) (object_text o.0) (struct_name L ty.0) w_is.0 o_is.0 ty_is.0 (struct_filled ty.0 ty_is.1.0) in
      let spelled : ws ≡ owner_text w.0 ∷ object_text o.0 ∷ struct_name L ty.0 ∷ map decimal values.0 = here ∙ ap (λ (r : List (List ℕ)). owner_text w.0 ∷ object_text o.0 ∷ struct_name L ty.0 ∷ r) are.0 in
      told t verb.New ws (entry.New t w.0 o.0 ty.0 values.0) e made refl (ap (λ (r : List (List ℕ)). codes "new" ∷ r) (sym spelled)) (fits, w_is.1, o_is.1, ty_is.1.1, All-from_recursion Fits64 values.0 are.1) ty_is.1.0

  set_takes : (t : ℕ) (ws : List (List ℕ)) (e : Entry) → Fits32 t → acts.set_in t ws ≡ Some e → Told t verb.Set ws e
  set_takes t ws e fits f =
      let o = bound (object_in (first ws)) (λ o. number_of_32 (first (rest ws)) >>= λ place. all_in number_of_64 (rest (rest ws)) >>= λ values. Some (entry.Set t o place values)) e f in
      let place = bound (number_of_32 (first (rest ws))) (λ place. all_in number_of_64 (rest (rest ws)) >>= λ values. Some (entry.Set t o.0 place values)) e o.2 in
      let values = bound (all_in number_of_64 (rest (rest ws))) (λ values. Some (entry.Set t o.0 place.0 values)) e place.2 in
      let made : entry.Set t o.0 place.0 values.0 ≡ e = cc (values.2) in
      let o_is = object.takes (first ws) o.0 o.1 in
      let place_is = number_32.takes (first (rest ws)) place.0 place.1 in
      let are = all_takes number_64 (rest (rest ws)) values.0 values.1 in
      let low = place_is.1 in
      let here = two_words ws (object_text o.0) (decimal place.0) o_is.0 place_is.0 (number_filled place.0 (omega arith)) in
      let spelled : ws ≡ object_text o.0 ∷ decimal place.0 ∷ map decimal values.0 = here ∙ ap (λ (r : List (List ℕ)). object_text o.0 ∷ decimal place.0 ∷ r) are.0 in
      told t verb.Set ws (entry.Set t o.0 place.0 values.0) e made refl (ap (λ (r : List (List ℕ)). codes "set" ∷ r) (sym spelled)) (fits, o_is.1, place_is.1, All-from_recursion Fits64 values.0 are.1) tt

  show_takes : (t : ℕ) (ws : List (List ℕ)) (e : Entry) → Fits32 t → acts.show_in L t ws ≡ Some e → Told t verb.Show ws e
  show_takes t ws e fits f =
      let o = bound (object_in (first ws)) (λ o. all_in (value_in L) (rest ws) >>= λ values. Some (entry.Show t o values)) e f in
      let values = bound (all_in (value_in L) (rest ws)) (λ values. Some (entry.Show t o.0 values)) e o.2 in
      let made : entry.Show t o.0 values.0 ≡ e = cc (values.2) in
      let o_is = object.takes (first ws) o.0 o.1 in
      let are = all_takes (listed_value L valid words) (rest ws) values.0 values.1 in
      let each = held_values values.0 are.1 in
      let here = one_word ws (object_text o.0) o_is.0 refl in
      let spelled : ws ≡ object_text o.0 ∷ map (value_text L) values.0 = here ∙ ap (λ (r : List (List ℕ)). object_text o.0 ∷ r) are.0 in
      told t verb.Show ws (entry.Show t o.0 values.0) e made refl (ap (λ (r : List (List ℕ)). codes "show" ∷ r) (sym spelled)) (fits, o_is.1, each.0) each.1

  pub act_takes : (v : Verb) (t : ℕ) (ws : List (List ℕ)) (e : Entry) → Fits32 t → acts.act_in L v t ws ≡ Some e → Told t v ws e
  act_takes verb.Call t ws e fits f = call_takes t ws e fits f
  act_takes verb.Refuse t ws e fits f = refuse_takes t ws e fits f
  act_takes verb.Ret t ws e fits f = ret_takes t ws e fits f
  act_takes verb.Unwound t ws e fits f = unwound_takes t ws e fits f
  act_takes verb.Reload t ws e fits f = reload_takes t ws e fits f
  act_takes verb.Again t ws e fits f = again_takes t ws e fits f
  act_takes verb.Trap t ws e fits f = trap_takes t ws e fits f
  act_takes verb.Kill t ws e fits f = kill_takes t ws e fits f
  act_takes verb.New t ws e fits f = new_takes t ws e fits f
  act_takes verb.Drop t ws e fits f = drop_takes t ws e fits f
  act_takes verb.Set t ws e fits f = set_takes t ws e fits f
  act_takes verb.Wput t ws e fits f = wput_takes t ws e fits f
  act_takes verb.Take t ws e fits f = take_takes t ws e fits f
  act_takes verb.Put t ws e fits f = put_takes t ws e fits f
  act_takes verb.DevGet t ws e fits f = devget_takes t ws e fits f
  act_takes verb.DevPut t ws e fits f = devput_takes t ws e fits f
  act_takes verb.Hang t ws e fits f = hang_takes t ws e fits f
  act_takes verb.Unhang t ws e fits f = unhang_takes t ws e fits f
  act_takes verb.Show t ws e fits f = show_takes t ws e fits f
  act_takes verb.Skip t ws e fits f = skip_takes t ws e fits f
  act_takes verb.Done t ws e fits f = done_takes t ws e fits f
