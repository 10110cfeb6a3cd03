-- Every entry of a load is read from its line, and each line that is read is the text of what was read.
use Rattle.std.proofs.Common.{◌≡◌, ℕ, ◌+◌, ◌^◌, ◌<◌, ◌≤◌, Bool, true, false, ◌&&◌, not, List, [], ◌∷◌, ◌++◌, length, map, All, Option, Some, None, refl, sym, ap, ◌∙◌, subst, arith, eqb, codes, cond}
use Rattle.std.specs.Prelude.{⊤, IsTrue, MatchOption, ◌≢◌, if◌then◌else◌}
use Rattle.std.specs.List.{AllByRecursion, flat_map, slice_index_or, list_all}
use Rattle.std.specs.Fmt.{decimal}
use Rattle.std.proofs.lemmas.Bool.{and_from}
use Rattle.std.proofs.lemmas.List.Folds.{list_all-append}
use Rattle.std.proofs.lemmas.List.Elements.{All-from_recursion, recursion_from_All}
use Rattle.rl_defs.proofs.Lists.{and_left}
use Rattle.rl_defs.specs.declared.load.LoadRows.{LoadRows}
use Rattle.rl_defs.specs.declared.tables.TraitRow.{TraitRow}
use Rattle.rl_defs.specs.declared.tables.MethodRow.{MethodRow}
use Rattle.rl_defs.specs.declared.tables.StructRow.{StructRow}
use Rattle.rl_defs.specs.declared.values.Value.{Value}
use Rattle.rl_defs.specs.declared.values.Value.TheVariants as value
use Rattle.machine_defs.specs.declared.values.Arg.{Arg}
use Rattle.machine_defs.specs.declared.values.Arg.TheVariants as arg
use Rattle.machine_defs.specs.declared.values.Owner.{Owner}
use Rattle.machine_defs.specs.declared.values.Owner.TheVariants as owner
use Rattle.machine_defs.specs.declared.values.RpcCode.{RpcCode}
use Rattle.machine_defs.specs.declared.values.RpcCode.TheVariants as code
use Rattle.machine_defs.specs.declared.values.Cause.{Cause}
use Rattle.machine_defs.specs.declared.values.Cause.TheVariants as cause
use Rattle.machine_defs.specs.declared.entry.Entry.{Entry}
use Rattle.machine_defs.specs.declared.entry.Entry.TheVariants as entry
use Rattle.rl_defs.specs.Words.{is_word, is_name, is_reserved, same_bytes}
use Rattle.rl_defs.specs.Valid.{Valid}
use Rattle.rl_defs.specs.Domains.{target_name, method_name, method_of, method_row_name, load_of_target}
use Rattle.machine_defs.specs.Entries.{thread_of}
use Rattle.machine_defs.specs.Texts.{entry_text, spaced}
use Rattle.machine_defs.specs.Texts.{client_text, instance_text, object_text, owner_text, code_text, cause_text, struct_name, row_struct_name, arg_text, value_text}
use Rattle.machine_defs.specs.EntryTexts.{HasWords, IsWord, IsTarget, IsMethod, Fits64, ArgNamesRows, ValueNamesRows, NamesRows}
use Rattle.text_laws.proofs.Tokens.{plain}
use Rattle.text_laws.proofs.Spelled as plain_texts
use Rattle.text_laws.proofs.Named as plain_names
use Rattle.text_laws.proofs.Fields as plain_fields
use Rattle.text_laws.proofs.Told.{IsArg, IsValue}
use Rattle.history_text.specs.declared.verb.Verb.{Verb}
use Rattle.history_text.specs.declared.verb.Verb.TheVariants as verb
use Rattle.history_text.specs.Held.{Fits32, OwnerIsHeld, ArgIsHeld, ValueIsHeld, IsHeld, IsLoggable}
use Rattle.history_text.specs.Verbs.{verb_text, verb_in}
use Rattle.history_text.specs.Spelled.{trait_of}
use Rattle.history_text.specs.Reading.{◌>>=◌, first, rest, ended, number_of_64, number_of_32, object_in, instance_in, client_in, owner_in, target_in, method_in, struct_in, slot_in, entered_in, code_in, cause_in, arg_in, value_in, all_in, few}
use Rattle.history_text.specs.Acts as acts
use Rattle.history_text.proofs.FieldLaws.{Reads, bound, same, number_64, number_32, object, instance, client, owned, error, ended_by, told_by, slot, digit_first}
use Rattle.history_text.proofs.NameLaws.{targets, structs, methods}
use Rattle.history_text.proofs.ItemLaws.{lacks, plain_lacks, entered, entered_text, EnteredFits, ArgFits, argument, ValueFits, listed_value, all_takes, all_again, few_takes, few_again}
use Rattle.history_text.proofs.Said.{Lacking, subject, others, at_text, split_words, whole_text, said}
use Rattle.history_text.proofs.ActLaws.{filled, End1, end1, Told, act_takes, two_words}
use Rattle.std.proofs.lemmas.List.{append_cancel_right}
use Rattle.history_text.specs.Reading.{words_of}

wide : (n : ℕ) → Fits32 n → Fits64 n
wide n fits = omega arith

verb_filled : (v : Verb) → filled (verb_text v) ≡ true
verb_filled verb.Call = refl
verb_filled verb.Refuse = refl
verb_filled verb.Ret = refl
verb_filled verb.Unwound = refl
verb_filled verb.Reload = refl
verb_filled verb.Again = refl
verb_filled verb.Trap = refl
verb_filled verb.Kill = refl
verb_filled verb.New = refl
verb_filled verb.Drop = refl
verb_filled verb.Set = refl
verb_filled verb.Wput = refl
verb_filled verb.Take = refl
verb_filled verb.Put = refl
verb_filled verb.DevGet = refl
verb_filled verb.DevPut = refl
verb_filled verb.Hang = refl
verb_filled verb.Unhang = refl
verb_filled verb.Show = refl
verb_filled verb.Skip = refl
verb_filled verb.Done = refl

-- ---- no word has a blank

number_lacks : (n : ℕ) → Fits64 n → lacks 32 (decimal n) ≡ true
number_lacks n fits = plain_lacks 32 refl (decimal n) (plain_texts.number.plain_text n fits)

small_lacks : (n : ℕ) → Fits32 n → lacks 32 (decimal n) ≡ true
small_lacks n fits = number_lacks n (wide n fits)

object_lacks : (o : ℕ) → Fits64 o → lacks 32 (object_text o) ≡ true
object_lacks o fits = plain_lacks 32 refl (object_text o) (plain_texts.object.plain_text o fits)

instance_lacks : (i : ℕ) → Fits32 i → lacks 32 (instance_text i) ≡ true
instance_lacks i fits = plain_lacks 32 refl (instance_text i) (plain_texts.instance.plain_text i (wide i fits))

client_lacks : (t : ℕ) → Fits32 t → lacks 32 (client_text t) ≡ true
client_lacks t fits = plain_lacks 32 refl (client_text t) (plain_texts.client.plain_text t (wide t fits))

owner_lacks : (w : Owner) → OwnerIsHeld w → lacks 32 (owner_text w) ≡ true
owner_lacks (owner.Client t) fits = client_lacks t fits
owner_lacks (owner.Instance i) fits = instance_lacks i fits

code_lacks : (k : RpcCode) → lacks 32 (code_text k) ≡ true
code_lacks code.Gone = refl
code_lacks code.Unwound = refl
code_lacks code.Deep = refl
code_lacks code.Order = refl

cause_lacks : (k : Cause) → lacks 32 (cause_text k) ≡ true
cause_lacks cause.Divide = refl
cause_lacks cause.Bounds = refl
cause_lacks cause.Range = refl
cause_lacks cause.Empty = refl
cause_lacks cause.Full = refl
cause_lacks cause.Device = refl
cause_lacks cause.HeapFull = refl
cause_lacks cause.Fuel = refl
cause_lacks cause.Asked = refl
cause_lacks cause.Io = refl

slot_lacks : (s : List ℕ) → IsTrue (is_name s) → lacks 32 s ≡ true
slot_lacks s is = plain_lacks 32 refl s (plain_names.word_plain s (and_left (is_word s) (not (is_reserved s)) is))

all_lack : {A : Type 0} (Good : A → Type 0) (text : A → List ℕ) → ((a : A) → Good a → lacks 32 (text a) ≡ true) → (xs : List A) → AllByRecursion Good xs → Lacking (map text xs)
all_lack Good text each [] good = tt
all_lack Good text each (x ∷ xs) good = (each x good.0, all_lack Good text each xs good.1)

numbers_lack : (values : List ℕ) → All Fits64 values → Lacking (map decimal values)
numbers_lack values fits = all_lack Fits64 decimal number_lacks values (recursion_from_All Fits64 values fits)

module _ (L : LoadRows) (valid : Valid L) (words : HasWords L) where
  name_lacks : (x : ℕ) → IsTarget L x → lacks 32 (target_name L x) ≡ true
  name_lacks x is = plain_lacks 32 refl (target_name L x) ((plain_names.target L valid words).plain_text x is)

  at_lacks : (x i : ℕ) → IsTarget L x → Fits32 i → lacks 32 (at_text L x i) ≡ true
  at_lacks x i is fits = list_all-append (λ b. not (eqb b 32)) (target_name L x) (47 ∷ instance_text i) ∙ rw (name_lacks x is, instance_lacks i fits) refl

  method_lacks : (x m : ℕ) → IsTarget L x → IsMethod L x m → lacks 32 (method_name L x m) ≡ true
  method_lacks x m is has = plain_lacks 32 refl (method_name L x m) ((plain_names.method L valid words x is).plain_text m has)

  struct_lacks : (ty : ℕ) → ty < length L.tables.structs → lacks 32 (struct_name L ty) ≡ true
  struct_lacks ty less = plain_lacks 32 refl (struct_name L ty) ((plain_names.struct L valid words).plain_text ty less)

  as_arg : (a : Arg) → ArgFits L valid words a → IsArg L a
  as_arg (arg.Num n) good = good.0
  as_arg (arg.Moved o) good = good.0
  as_arg (arg.Lent o) good = good.0
  as_arg (arg.Cap x) good = good.1

  as_value : (v : Value) → ValueFits L valid words v → IsValue L v
  as_value (value.Num n) good = good.0
  as_value (value.Obj o) good = good.0
  as_value (value.Cap x) good = good.1

  arg_lacks : (a : Arg) → ArgFits L valid words a → lacks 32 (arg_text L a) ≡ true
  arg_lacks a good = plain_lacks 32 refl (arg_text L a) ((plain_fields.argument L valid words).plain_text a (as_arg a good))

  value_lacks : (v : Value) → ValueFits L valid words v → lacks 32 (value_text L v) ≡ true
  value_lacks v good = plain_lacks 32 refl (value_text L v) ((plain_fields.listed_value L valid words).plain_text v (as_value v good))

  both_args : (args : List Arg) → All ArgIsHeld args → All (ArgNamesRows L) args → AllByRecursion (ArgFits L valid words) args
  both_args args held rows = recursion_from_All (ArgFits L valid words) args (λ k d less. (held k d less, rows k d less))

  both_values : (values : List Value) → All ValueIsHeld values → All (ValueNamesRows L) values → AllByRecursion (ValueFits L valid words) values
  both_values values held rows = recursion_from_All (ValueFits L valid words) values (λ k d less. (held k d less, rows k d less))

  args_lack : (args : List Arg) → All ArgIsHeld args → All (ArgNamesRows L) args → Lacking (map (arg_text L) args)
  args_lack args held rows = all_lack (ArgFits L valid words) (arg_text L) arg_lacks args (both_args args held rows)

  values_lack : (values : List Value) → All ValueIsHeld values → All (ValueNamesRows L) values → Lacking (map (value_text L) values)
  values_lack values held rows = all_lack (ValueFits L valid words) (value_text L) value_lacks values (both_values values held rows)

  entry_lacks : (e : Entry) → IsHeld e → NamesRows L e → (lacks 32 (subject e) ≡ true) × Lacking (others L e)
  entry_lacks (entry.Call t c x i m args) h r = (client_lacks t h.0, (refl, (small_lacks c h.1, (at_lacks x i r.0.0 h.3, (method_lacks x m r.0.0 r.0.1, args_lack args h.6 r.1)))))
  entry_lacks (entry.Refuse t c k x m args) h r = (client_lacks t h.0, (refl, (small_lacks c h.1, (code_lacks k, (name_lacks x r.0.0, (method_lacks x m r.0.0 r.0.1, args_lack args h.5 r.1))))))
  entry_lacks (entry.Ret t c results) h r = (client_lacks t h.0, (refl, (small_lacks c h.1, values_lack results h.3 r)))
  entry_lacks (entry.Unwound t c) h r = (client_lacks t h.0, (refl, (small_lacks c h.1, tt)))
  entry_lacks (entry.Reload t x i left) h r = (client_lacks t h.0, (refl, (name_lacks x r, (instance_lacks i h.2, (small_lacks left h.3, tt)))))
  entry_lacks (entry.Again t c x i) h r = (client_lacks t h.0, (refl, (small_lacks c h.1, (at_lacks x i r h.3, tt))))
  entry_lacks (entry.Trap t i k) h r = (client_lacks t h.0, (refl, (instance_lacks i h.1, (cause_lacks k, tt))))
  entry_lacks (entry.Kill t i) h r = (client_lacks t h.0, (refl, (instance_lacks i h.1, tt)))
  entry_lacks (entry.New t w o ty values) h r = (client_lacks t h.0, (refl, (owner_lacks w h.1, (object_lacks o h.2, (struct_lacks ty r, numbers_lack values h.4)))))
  entry_lacks (entry.Drop t o) h r = (client_lacks t h.0, (refl, (object_lacks o h.1, tt)))
  entry_lacks (entry.Set t o place values) h r = (client_lacks t h.0, (refl, (object_lacks o h.1, (small_lacks place h.2, numbers_lack values h.3))))
  entry_lacks (entry.Wput t i place v) h r = (client_lacks t h.0, (refl, (instance_lacks i h.1, (small_lacks place h.2, (number_lacks v h.3, tt)))))
  entry_lacks (entry.Take t i slot o) h r = (client_lacks t h.0, (refl, (instance_lacks i h.1, (slot_lacks slot h.2, (object_lacks o h.3, tt)))))
  entry_lacks (entry.Put t i slot o) h r = (client_lacks t h.0, (refl, (instance_lacks i h.1, (slot_lacks slot h.2, (object_lacks o h.3, tt)))))
  entry_lacks (entry.DevGet t o block) h r = (client_lacks t h.0, (refl, (object_lacks o h.1, (number_lacks block h.2, tt))))
  entry_lacks (entry.DevPut t block o) h r = (client_lacks t h.0, (refl, (number_lacks block h.1, (object_lacks o h.2, tt))))
  entry_lacks (entry.Hang t o place v) h r = (client_lacks t h.0, (refl, (object_lacks o h.1, (small_lacks place h.2, (object_lacks v h.3, tt)))))
  entry_lacks (entry.Unhang t o place v) h r = (client_lacks t h.0, (refl, (object_lacks o h.1, (small_lacks place h.2, (object_lacks v h.3, tt)))))
  entry_lacks (entry.Show t o values) h r = (client_lacks t h.0, (refl, (object_lacks o h.1, values_lack values h.2 r)))
  entry_lacks (entry.Skip t k) h r = (client_lacks t h.0, (refl, (small_lacks k h.1, tt)))
  entry_lacks (entry.Done t) h r = (client_lacks t h, (refl, tt))
  entry_lacks (entry.Free o) h r = (refl, (object_lacks o h, tt))

  -- ---- every entry is read from its words

  told_again : (t : ℕ) (v : Verb) (ws : List (List ℕ)) (e : Entry) → Fits32 t → acts.act_in L v t ws ≡ Some e → acts.entry_in L (client_text t ∷ verb_text v ∷ ws) ≡ Some e
  told_again t v ws e fits act = rw (client.again t fits, told_by.again v tt) act

  entry_again : (e : Entry) → IsHeld e → NamesRows L e → acts.entry_in L (subject e ∷ others L e) ≡ Some e
  entry_again (entry.Call t c x i m args) h r = told_again t verb.Call (decimal c ∷ at_text L x i ∷ method_name L x m ∷ map (arg_text L) args) (entry.Call t c x i m args) h.0 (rw (number_32.again c h.1, (entered L valid words).again (x, i) ((r.0.0, h.2), h.3), (methods L valid words x r.0.0).again m (r.0.1, h.4), all_again (argument L valid words) args (both_args args h.6 r.1), few_again 8 args h.5) refl)
  entry_again (entry.Refuse t c k x m args) h r = told_again t verb.Refuse (decimal c ∷ code_text k ∷ target_name L x ∷ method_name L x m ∷ map (arg_text L) args) (entry.Refuse t c k x m args) h.0 (rw (number_32.again c h.1, error.again k tt, (targets L valid words).again x (r.0.0, h.2), (methods L valid words x r.0.0).again m (r.0.1, h.3), all_again (argument L valid words) args (both_args args h.5 r.1), few_again 8 args h.4) refl)
  entry_again (entry.Ret t c results) h r = told_again t verb.Ret (decimal c ∷ map (value_text L) results) (entry.Ret t c results) h.0 (rw (number_32.again c h.1, all_again (listed_value L valid words) results (both_values results h.3 r), few_again 4 results h.2) refl)
  entry_again (entry.Unwound t c) h r = told_again t verb.Unwound (decimal c ∷ []) (entry.Unwound t c) h.0 (rw (number_32.again c h.1) refl)
  entry_again (entry.Reload t x i left) h r = told_again t verb.Reload (target_name L x ∷ instance_text i ∷ decimal left ∷ []) (entry.Reload t x i left) h.0 (rw ((targets L valid words).again x (r, h.1), instance.again i h.2, number_32.again left h.3) refl)
  entry_again (entry.Again t c x i) h r = told_again t verb.Again (decimal c ∷ at_text L x i ∷ []) (entry.Again t c x i) h.0 (rw (number_32.again c h.1, (entered L valid words).again (x, i) ((r, h.2), h.3)) refl)
  entry_again (entry.Trap t i k) h r = told_again t verb.Trap (instance_text i ∷ cause_text k ∷ []) (entry.Trap t i k) h.0 (rw (instance.again i h.1, ended_by.again k tt) refl)
  entry_again (entry.Kill t i) h r = told_again t verb.Kill (instance_text i ∷ []) (entry.Kill t i) h.0 (rw (instance.again i h.1) refl)
  entry_again (entry.New t w o ty values) h r = told_again t verb.New (owner_text w ∷ object_text o ∷ struct_name L ty ∷ map decimal values) (entry.New t w o ty values) h.0 (rw (owned.again w h.1, object.again o h.2, (structs L valid words).again ty (r, h.3), all_again number_64 values (recursion_from_All Fits64 values h.4)) refl)
  entry_again (entry.Drop t o) h r = told_again t verb.Drop (object_text o ∷ []) (entry.Drop t o) h.0 (rw (object.again o h.1) refl)
  entry_again (entry.Set t o place values) h r = told_again t verb.Set (object_text o ∷ decimal place ∷ map decimal values) (entry.Set t o place values) h.0 (rw (object.again o h.1, number_32.again place h.2, all_again number_64 values (recursion_from_All Fits64 values h.3)) refl)
  entry_again (entry.Wput t i place v) h r = told_again t verb.Wput (instance_text i ∷ decimal place ∷ decimal v ∷ []) (entry.Wput t i place v) h.0 (rw (instance.again i h.1, number_32.again place h.2, number_64.again v h.3) refl)
  entry_again (entry.Take t i s o) h r = told_again t verb.Take (instance_text i ∷ s ∷ object_text o ∷ []) (entry.Take t i s o) h.0 (rw (instance.again i h.1, slot.again s h.2, object.again o h.3) refl)
  entry_again (entry.Put t i s o) h r = told_again t verb.Put (instance_text i ∷ s ∷ object_text o ∷ []) (entry.Put t i s o) h.0 (rw (instance.again i h.1, slot.again s h.2, object.again o h.3) refl)
  entry_again (entry.DevGet t o block) h r = told_again t verb.DevGet (object_text o ∷ decimal block ∷ []) (entry.DevGet t o block) h.0 (rw (object.again o h.1, number_64.again block h.2) refl)
  entry_again (entry.DevPut t block o) h r = told_again t verb.DevPut (decimal block ∷ object_text o ∷ []) (entry.DevPut t block o) h.0 (rw (number_64.again block h.1, object.again o h.2) refl)
  entry_again (entry.Hang t o place v) h r = told_again t verb.Hang (object_text o ∷ decimal place ∷ object_text v ∷ []) (entry.Hang t o place v) h.0 (rw (object.again o h.1, number_32.again place h.2, object.again v h.3) refl)
  entry_again (entry.Unhang t o place v) h r = told_again t verb.Unhang (object_text o ∷ decimal place ∷ object_text v ∷ []) (entry.Unhang t o place v) h.0 (rw (object.again o h.1, number_32.again place h.2, object.again v h.3) refl)
  entry_again (entry.Show t o values) h r = told_again t verb.Show (object_text o ∷ map (value_text L) values) (entry.Show t o values) h.0 (rw (object.again o h.1, all_again (listed_value L valid words) values (both_values values h.2 r)) refl)
  entry_again (entry.Skip t k) h r = told_again t verb.Skip (decimal k ∷ []) (entry.Skip t k) h.0 (rw (number_32.again k h.1) refl)
  entry_again (entry.Done t) h r = told_again t verb.Done [] (entry.Done t) h refl
  entry_again (entry.Free o) h r = rw (object.again o h) refl

  -- ---- what is read has these words

  entry_takes : (ws : List (List ℕ)) (e : Entry) → acts.entry_in L ws ≡ Some e → (ws ≡ subject e ∷ others L e) × IsLoggable L e
  entry_takes ws e f = by (same_bytes (codes "free") (first ws)) refl f where
    by : (t : Bool) → same_bytes (codes "free") (first ws) ≡ t → (if t then acts.free_in (rest ws) else acts.told_in L ws) ≡ Some e → (ws ≡ subject e ∷ others L e) × IsLoggable L e
    by true is g =
        let p = end1 (object_in (first (rest ws))) (rest (rest ws)) entry.Free e g in
        let o = object.takes (first (rest ws)) p.a p.is_a in
        let here = two_words ws (codes "free") (object_text p.a) (sym (same (codes "free") (first ws) is)) o.0 refl in
        let spelled : ws ≡ codes "free" ∷ object_text p.a ∷ [] = here ∙ ap (λ (r : List (List ℕ)). codes "free" ∷ object_text p.a ∷ r) p.end in
        subst (λ (z : Entry). (ws ≡ subject z ∷ others L z) × IsLoggable L z) p.made (spelled, record { held = o.1; rows = tt })
    by false isnt g =
        let t = bound (client_in (first ws)) (λ t. verb_in (first (rest ws)) >>= λ v. acts.act_in L v t (rest (rest ws))) e g in
        let v = bound (verb_in (first (rest ws))) (λ v. acts.act_in L v t.0 (rest (rest ws))) e t.2 in
        let t_is = client.takes (first ws) t.0 t.1 in
        let v_is = told_by.takes (first (rest ws)) v.0 v.1 in
        let act = act_takes L valid words v.0 t.0 (rest (rest ws)) e t_is.1 v.2 in
        let here = two_words ws (client_text t.0) (verb_text v.0) t_is.0 v_is.0 (verb_filled v.0) in
        let thread = act.thread in
        let tells = act.tells in
        let spelled : ws ≡ subject e ∷ others L e = cc in
        (spelled, act.here)

  -- ---- lines

  pub line_read : (text : List ℕ) (e : Entry) → acts.entry_in L (words_of text) ≡ Some e → (text ++ 10 ∷ [] ≡ entry_text L e) × IsLoggable L e
  line_read text e f =
      let taken = entry_takes (words_of text) e f in
      let whole = whole_text text (subject e) (others L e) taken.0 in
      (ap (λ (x : List ℕ). x ++ 10 ∷ []) whole ∙ sym (said L e), taken.1)

  pub line_unread : (text : List ℕ) (e : Entry) → acts.entry_in L (words_of text) ≡ None → IsLoggable L e → text ++ 10 ∷ [] ≡ entry_text L e → ⊥
  line_unread text e none good is =
      let whole : text ≡ subject e ++ flat_map spaced (others L e) = append_cancel_right text (subject e ++ flat_map spaced (others L e)) (10 ∷ []) (is ∙ said L e) in
      let off = entry_lacks e good.held good.rows in
      let split = ap words_of whole ∙ split_words (subject e) (others L e) off.0 off.1 in
      let some : acts.entry_in L (words_of text) ≡ Some e = ap (acts.entry_in L) split ∙ entry_again e good.held good.rows in
      let never : None ≡ Some e = sym none ∙ some in
      absurd cc

  pub line_law : (line text : List ℕ) → line ≡ text ++ 10 ∷ [] → (read : Option Entry) → read ≡ acts.entry_in L (words_of text) → MatchOption read ((e : Entry) → IsLoggable L e → line ≢ entry_text L e) (λ e. (line ≡ entry_text L e) × IsLoggable L e)
  line_law line text whole None e = λ f good is. line_unread text f (sym e) good (sym whole ∙ is)
  line_law line text whole (Some f) e = let t = line_read text f (sym e) in (whole ∙ t.0, t.1)

-- a line with no line feed at its end is none
pub no_line : (L : LoadRows) (line : List ℕ) → ((text : List ℕ) → line ≢ text ++ 10 ∷ []) → (e : Entry) → IsLoggable L e → line ≢ entry_text L e
no_line L line never e good is = never (subject e ++ flat_map spaced (others L e)) (is ∙ said L e)
