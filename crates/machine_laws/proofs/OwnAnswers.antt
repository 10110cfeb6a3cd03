-- What an answer brings is own.
use Rattle.std.proofs.Common.{◌≡◌, refl, sym, ◌∙◌, ap, subst, ℕ, zero, suc, ◌+◌, ◌<◌, ◌==◌, Bool, true, false, not, ◌&&◌, List, [], ◌∷◌, length, Option, Some, None, slice_get, arith}
use Rattle.std.specs.Prelude.{if◌then◌else◌, slice_set}
use Rattle.std.specs.List.{list_all}
use Rattle.std.proofs.lemmas.Bool.{eq-eqb, not-true, or_parts, eqb-false}
use Rattle.std.proofs.lemmas.List.{get_or-set_same}
use Rattle.rl_defs.specs.declared.values.Value.{Value}
use Rattle.rl_defs.specs.declared.values.Value.TheVariants as value
use Rattle.machine_defs.specs.declared.values.RpcCode.{RpcCode}
use Rattle.machine_defs.specs.declared.frame.Answer.{Answer}
use Rattle.machine_defs.specs.declared.frame.Answer.TheVariants as answer
use Rattle.rl_defs.specs.declared.code.Register.{Register}
use Rattle.rl_defs.specs.declared.code.RegKind.{RegKind}
use Rattle.rl_defs.specs.declared.code.RegKind.TheVariants as held
use Rattle.rl_defs.specs.declared.code.CallArg.{CallArg}
use Rattle.rl_defs.specs.declared.code.Instr.{Instr}
use Rattle.rl_defs.specs.declared.code.Instr.TheVariants as instr
use Rattle.rl_defs.specs.declared.code.DomainLine.TheVariants as line
use Rattle.rl_defs.specs.declared.tables.Kind.{Kind}
use Rattle.rl_defs.specs.declared.tables.Kind.TheVariants as kind
use Rattle.rl_defs.specs.declared.tables.Tables.{Tables}
use Rattle.rl_defs.specs.DomainValue.{Domain}
use Rattle.machine_defs.specs.Entries.{code_number}
use Rattle.machine_defs.specs.Loans.{count}
use Rattle.machine_defs.specs.Arguments.{has}
use Rattle.machine_defs.specs.Arguments.{objects_in}
use Rattle.rl_defs.specs.CodeNames.{results_of}
use Rattle.rl_defs.specs.CodeKinds.{Kinds, kinds_at, kind_in, with_kind, is_own, as_register, paired, put_all, leave, leave_all, passed, moved, left, after, at_label, hung_at, own_kind, method_called}
use Rattle.rl_defs.specs.CodeRules.{reads_are_met, is_among, are_distinct, has_apart, has_method, written, spares}
use Rattle.rl_defs.specs.CodeRules.{KeepsRules}
use Rattle.rl_defs.specs.Registers.{Typing, fits_kind, Fits}
use Rattle.machine_defs.specs.CodeFits.{FitsStand, FitsWaiting, FitsAnswer, are_values}
use Rattle.machine_defs.specs.Instructions.{give_up, all_given_up, put_values, answered, after_answer, after_answer_at}
use Rattle.machine_defs.specs.CodeLaws.{StandsAt}
use Rattle.rl_defs.specs.Registers.{Registers, value_in, with_value, Stand}
use Rattle.machine_defs.specs.Instructions.{with_number}
use Rattle.machine_defs.proofs.CodeRegisters.{and_left, and_right, Fine, set_fine, keep_all, left_none}
use Rattle.machine_defs.proofs.CodeStands.{keeps_at}
use Rattle.machine_defs.proofs.CodeAnswers.{waiting_answers_fit, gives_up, failed_label, moved_given, counts_match, behind_kinds as behind}
use Rattle.machine_defs.proofs.CodeWidths.{length-kinds_at, length-leave_all}
use Rattle.machine_laws.proofs.OwnTables.{results_plain}
use Rattle.machine_laws.specs.Registers.{own, Parted, is_lent_kind, received}
use Rattle.machine_laws.proofs.OwnCounts.{weight, weight_of}
use Rattle.machine_laws.proofs.OwnMarks.{mark, Marked, mark_set, mark_emptied, marked_of, parted_of, spare_set}
use Rattle.machine_laws.proofs.OwnRules.{keeps_own}
use Rattle.machine_laws.proofs.OwnHeads.{index_other, next_own, jumped_own}
use Rattle.machine_laws.proofs.OwnWork.{met_at}
use Rattle.machine_laws.proofs.OwnGiving.{marks_given}
use Rattle.machine_laws.proofs.OwnActs.{waiting}
use Rattle.rl_defs.specs.Valid.{AreValidTables}

-- none of the objects is lent
abbrev pub Unlent : List ℕ → List ℕ → Type 0
Unlent lent objects = (o : ℕ) → 0 < count o objects → has lent o ≡ false

-- registers with these objects more
pub record Gained (loans : List ℕ) (kinds : Kinds) (old : Registers) (got : List ℕ) (new : Registers) : Type 0 where
  pub marked : Marked loans kinds new
  pub counts : (p : ℕ) → count p (own loans new) ≡ count p (own loans old) + count p got

pub one_more : (o : ℕ) → 0 < count o (o ∷ [])
one_more o = rw (eq-eqb o o refl) (omega arith)

unlent_mark : (lent : List ℕ) (o : ℕ) → has lent o ≡ false → not (has lent o) ≡ true
unlent_mark lent o e = ap not e

unlent_weight : (lent : List ℕ) (p o : ℕ) → has lent o ≡ false → weight lent p (Some (value.Obj o)) ≡ count p (o ∷ [])
unlent_weight lent p o e = ap (weight_of p o) e

made_gains : (types : Typing) (lent : List ℕ) (kinds : Kinds) (regs : Registers) (a : Register) (k : RegKind) (o : ℕ) → Fits types kinds regs → Marked lent kinds regs → (spares kinds a && true) ≡ true → mark lent k (Some (value.Obj o)) ≡ true → has lent o ≡ false → Gained lent (with_kind kinds a k) regs (o ∷ []) (with_value regs a (Some (value.Obj o)))
made_gains types lent kinds regs a k o fit marked spared m unlent = record {
  marked = mark_set lent kinds regs a.number k (Some (value.Obj o)) marked m;
  counts = λ p. omega (arith, spare_set types lent kinds regs p a (Some (value.Obj o)) fit marked (not-true (is_own (kind_in kinds a)) (and_left (spares kinds a) true spared)), unlent_weight lent p o unlent);
}

hung_mark : (lent : List ℕ) (h : Option ℕ) (v : ℕ) → has lent v ≡ false → mark lent (own_kind h) (Some (value.Obj v)) ≡ true
hung_mark lent None v e = refl
hung_mark lent (Some s) v e = unlent_mark lent v e

-- a register whose object has left
left_spare : (kinds : Kinds) (a : Register) (b : Bool) → is_own (kind_in kinds a) ≡ b → length kinds ≡ 32 → is_own (kind_in (if b then with_kind kinds a held.Empty else kinds) a) ≡ false
left_spare kinds a true e wide = let below = a.below in ap is_own (get_or-set_same kinds a.number held.Empty held.Empty (omega arith))
left_spare kinds a false e wide = e

went_gains : (types : Typing) (lent : List ℕ) (kinds : Kinds) (regs : Registers) (a : Register) → length kinds ≡ 32 → Fits types (leave kinds a) regs → Marked lent (leave kinds a) regs → Gained lent (leave kinds a) regs [] (with_value regs a None)
went_gains types lent kinds regs a wide fit marked = record {
  marked = mark_emptied lent (leave kinds a) regs a.number marked;
  counts = λ p. spare_set types lent (leave kinds a) regs p a None fit marked (left_spare kinds a (is_own (kind_in kinds a)) refl wide);
}

stays_gains : (lent : List ℕ) (kinds : Kinds) (regs : Registers) → Marked lent kinds regs → Gained lent kinds regs [] regs
stays_gains lent kinds regs marked = record { marked = marked; counts = λ p. omega arith }

-- values in their registers
value_mark : (lent : List ℕ) (types : Typing) (k : Kind) (v : Value) → not (is_lent_kind k) ≡ true → Unlent lent (objects_in (v ∷ [])) → mark lent (as_register k) (Some v) ≡ true
value_mark lent types (kind.Own s) (value.Obj o) plain unlent = unlent_mark lent o (unlent o (one_more o))
value_mark lent types (kind.Lent s) v plain unlent = absurd (cc)
value_mark lent types (kind.Own s) v plain unlent = refl
value_mark lent types k v plain unlent = refl

value_weight : (lent : List ℕ) (p : ℕ) (v : Value) → Unlent lent (objects_in (v ∷ [])) → weight lent p (Some v) ≡ count p (objects_in (v ∷ []))
value_weight lent p (value.Num n) unlent = refl
value_weight lent p (value.Obj o) unlent = unlent_weight lent p o (unlent o (one_more o))
value_weight lent p (value.Cap x) unlent = refl

value_first : (p : ℕ) (v : Value) (values : List Value) → count p (objects_in (v ∷ values)) ≡ count p (objects_in (v ∷ [])) + count p (objects_in values)
value_first p (value.Num n) values = omega arith
value_first p (value.Obj o) values = omega arith
value_first p (value.Cap x) values = omega arith

others_spared : (kinds : Kinds) (r : Register) (k : RegKind) (rs : List Register) → is_among r rs ≡ false → list_all (spares kinds) rs ≡ true → list_all (spares (with_kind kinds r k)) rs ≡ true
others_spared kinds r k [] e spared = refl
others_spared kinds r k (q ∷ rs) e spared =
    let apart = eqb-false q.number r.number (or_parts (q.number == r.number) (is_among r rs) e).0 in
    let here : spares (with_kind kinds r k) q ≡ true = ap (λ x. not (is_own x)) (index_other kinds r.number q.number k held.Empty (λ s. apart (sym s))) ∙ and_left (spares kinds q) (list_all (spares kinds) rs) spared in
    rw here (others_spared kinds r k rs (or_parts (q.number == r.number) (is_among r rs) e).1 (and_right (spares kinds q) (list_all (spares kinds) rs) spared))

put_gains : (types : Typing) (lent : List ℕ) (ks : List Kind) (rs : List Register) (values : List Value) (kinds : Kinds) (regs : Registers) → length ks ≡ length rs → are_values types ks values ≡ true → list_all (λ k. not (is_lent_kind k)) ks ≡ true → list_all (spares kinds) rs ≡ true → are_distinct rs ≡ true → Fine types kinds regs → Marked lent kinds regs → Unlent lent (objects_in values) → Gained lent (put_all (paired ks rs) kinds) regs (objects_in values) (put_values rs values regs)
put_gains types lent [] [] [] kinds regs many are plain spared distinct fine marked unlent = stays_gains lent kinds regs marked
put_gains types lent [] [] (v ∷ values) kinds regs many are plain spared distinct fine marked unlent = absurd (cc)
put_gains types lent [] (r ∷ rs) values kinds regs many are plain spared distinct fine marked unlent = absurd (omega arith)
put_gains types lent (k ∷ ks) [] values kinds regs many are plain spared distinct fine marked unlent = absurd (omega arith)
put_gains types lent (k ∷ ks) (r ∷ rs) [] kinds regs many are plain spared distinct fine marked unlent = absurd (cc)
put_gains types lent (k ∷ ks) (r ∷ rs) (v ∷ values) kinds regs many are plain spared distinct fine marked unlent =
    let of = and_left (fits_kind types (as_register k) (Some v)) (are_values types ks values) are in
    let others = and_right (fits_kind types (as_register k) (Some v)) (are_values types ks values) are in
    let apart = not-true (is_among r rs) (and_left (not (is_among r rs)) (are_distinct rs) distinct) in
    let here : Unlent lent (objects_in (v ∷ [])) = λ o some. unlent o (omega (arith, value_first o v values)) in
    let later : Unlent lent (objects_in values) = λ o some. unlent o (omega (arith, value_first o v values)) in
    let plain_here = and_left (not (is_lent_kind k)) (list_all (λ x. not (is_lent_kind x)) ks) plain in
    let next_kinds = with_kind kinds r (as_register k) in
    let next_regs = with_value regs r (Some v) in
    let next = put_gains types lent ks rs values next_kinds next_regs (omega arith) others
    (and_right (not (is_lent_kind k)) (list_all (λ x. not (is_lent_kind x)) ks) plain)
    (others_spared kinds r (as_register k) rs apart (and_right (spares kinds r) (list_all (spares kinds) rs) spared))
    (and_right (not (is_among r rs)) (are_distinct rs) distinct)
    (set_fine types kinds regs r (as_register k) (Some v) fine of)
    (mark_set lent kinds regs r.number (as_register k) (Some v) marked (value_mark lent types k v plain_here here)) later in
    record {
      marked = next.marked;
      counts = λ p. omega (arith, next.counts p, value_first p v values, value_weight lent p v here, spare_set types lent kinds regs p r (Some v) fine.fits marked (not-true (is_own (kind_in kinds r)) (and_left (spares kinds r) (list_all (spares kinds) rs) spared)));
    }

set_twice : (regs : Registers) (a : ℕ) → slice_set (slice_set regs a None) a None ≡ slice_set regs a None
set_twice [] a = refl
set_twice (v ∷ regs) zero = refl
set_twice (v ∷ regs) (suc a) = ap (λ rest. v ∷ rest) (set_twice regs a)

-- what is known where a frame waits at an instruction
record Waits (types : Typing) (loans : List ℕ) (d : Domain) (kinds : Kinds) (i : Instr) (regs : Registers) : Type 0 where
  tables : AreValidTables d.tables
  wide : length kinds ≡ 32
  fits : Fits types (left kinds i) regs
  marked : Marked loans (left kinds i) regs
  met : reads_are_met kinds i ≡ true
  spared : list_all (spares (left kinds i)) (written i) ≡ true
  apart : has_apart (line.Code i) ≡ true
  method : has_method d kinds (line.Code i) ≡ true

-- what has been given up isn't given up again
stays_given : (types : Typing) (lent : List ℕ) (d : Domain) (kinds : Kinds) (i : Instr) (regs : Registers) → Waits types lent d kinds i regs → all_given_up (moved i) regs ≡ regs
stays_given types lent d kinds i regs waits = keep_all types (moved i) (left kinds i) regs waits.fits (left_none (moved i) kinds (moved_given kinds i waits.met))

-- no method that is called lends a result
plain_results : (tables : Tables) (k : RegKind) (name : List ℕ) → AreValidTables tables → list_all (λ x. not (is_lent_kind x)) (results_of (method_called tables k name)) ≡ true
plain_results tables (held.Cap t) name has = results_plain tables has t name
plain_results tables k name has = refl

back_gains : (types : Typing) (lent : List ℕ) (d : Domain) (kinds : Kinds) (c : Register) (method : List ℕ) (args : List CallArg) (results : List Register) (e : Register) (label : List ℕ) (values : List Value) (regs : Registers) → Waits types lent d kinds (instr.Call c method args results e label) regs → are_values types (results_of (method_called d.tables (kind_in kinds c) method)) values ≡ true → Unlent lent (objects_in values) → Gained lent (after d kinds (instr.Call c method args results e label)) regs (objects_in values) (put_values results values regs)
back_gains types lent d kinds c method args results e label values regs waits are unlent =
    let given = leave_all (passed args) kinds in
    put_gains types lent (results_of (method_called d.tables (kind_in kinds c) method)) results values given regs
    (counts_match (method_called d.tables (kind_in kinds c) method) args results waits.method) are (plain_results d.tables (kind_in kinds c) method waits.tables)
    (and_right (spares given e) (list_all (spares given) results) waits.spared) waits.apart
    (record { wide = length-leave_all (passed args) kinds ∙ waits.wide; fits = waits.fits }) waits.marked unlent

failed_gains : (types : Typing) (lent : List ℕ) (d : Domain) (kinds : Kinds) (c : Register) (method : List ℕ) (args : List CallArg) (results : List Register) (e : Register) (label : List ℕ) (failure : RpcCode) (regs : Registers) → Waits types lent d kinds (instr.Call c method args results e label) regs → Gained lent (at_label kinds (instr.Call c method args results e label)) regs [] (with_number regs e (code_number failure))
failed_gains types lent d kinds c method args results e label failure regs waits =
    let given = leave_all (passed args) kinds in
    record {
      marked = mark_set lent given regs e.number held.Num (Some (value.Num (code_number failure))) waits.marked refl;
      counts = λ p. spare_set types lent given regs p e (Some (value.Num (code_number failure))) waits.fits waits.marked (not-true (is_own (kind_in given e)) (and_left (spares given e) (list_all (spares given) results) waits.spared));
    }

gains : (types : Typing) (lent : List ℕ) (d : Domain) (kinds : Kinds) (i : Instr) (a : Answer) (regs : Registers) → Waits types lent d kinds i regs → FitsAnswer types d kinds i a → Unlent lent (received a) → Gained lent (behind d kinds i a) regs (received a) (answered i a regs)
gains types lent d kinds (instr.New a ty) (answer.Made o) regs waits fits unlent =
    made_gains types lent kinds regs a _ o waits.fits waits.marked waits.spared (unlent_mark lent o (unlent o (one_more o))) (unlent o (one_more o))
gains types lent d kinds (instr.Take a slot) (answer.Made o) regs waits fits unlent =
    made_gains types lent kinds regs a _ o waits.fits waits.marked waits.spared (unlent_mark lent o (unlent o (one_more o))) (unlent o (one_more o))
gains types lent d kinds (instr.Unhang a o place) (answer.Made v) regs waits fits unlent =
    made_gains types lent kinds regs a _ v waits.fits waits.marked waits.spared (hung_mark lent (hung_at d.tables (kind_in kinds o) place) v (unlent v (one_more v))) (unlent v (one_more v))
gains types lent d kinds (instr.Drop a) answer.Went regs waits fits unlent = went_gains types lent kinds regs a waits.wide waits.fits waits.marked
gains types lent d kinds (instr.Put slot a) answer.Went regs waits fits unlent = went_gains types lent kinds regs a waits.wide waits.fits waits.marked
gains types lent d kinds (instr.Hang o place v) answer.Went regs waits fits unlent = went_gains types lent kinds regs v waits.wide waits.fits waits.marked
gains types lent d kinds (instr.Set o i v) answer.Went regs waits fits unlent = stays_gains lent kinds regs waits.marked
gains types lent d kinds (instr.Wput i v) answer.Went regs waits fits unlent = stays_gains lent kinds regs waits.marked
gains types lent d kinds (instr.DevGet o k) answer.Went regs waits fits unlent = stays_gains lent kinds regs waits.marked
gains types lent d kinds (instr.DevPut k o) answer.Went regs waits fits unlent = stays_gains lent kinds regs waits.marked
gains types lent d kinds (instr.Call c method args results e label) (answer.Back values) regs waits fits unlent =
    subst (λ r. Gained lent (after d kinds (instr.Call c method args results e label)) regs (objects_in values) (put_values results values r)) (sym (stays_given types lent d kinds (instr.Call c method args results e label) regs waits))
    (back_gains types lent d kinds c method args results e label values regs waits fits unlent)
gains types lent d kinds (instr.Call c method args results e label) (answer.Failed failure) regs waits fits unlent =
    subst (λ r. Gained lent (at_label kinds (instr.Call c method args results e label)) regs [] (with_number r e (code_number failure))) (sym (stays_given types lent d kinds (instr.Call c method args results e label) regs waits))
    (failed_gains types lent d kinds c method args results e label failure regs waits)
gains types lent d kinds i a regs waits fits unlent = absurd fits

waits_at : (d : Domain) (types : Typing) (lent : List ℕ) (i : Instr) (s : Stand) → KeepsRules d → AreValidTables d.tables → FitsWaiting types d i s → Marked lent (left (kinds_at d s.at) i) s.regs → Waits types lent d (kinds_at d s.at) i s.regs
waits_at d types lent i s keeps tables waits marked =
    let kept = keeps_at d s.at waits.number (line.Code i) keeps waits.here in
    record {
      tables = tables;
      wide = length-kinds_at d s.at;
      fits = waits.regs;
      marked = marked;
      met = met_at d s.at waits.number i keeps waits.here;
      spared = (keeps_own d s.at waits.number (line.Code i) keeps waits.here).spares;
      apart = kept.apart;
      method = kept.method;
    }

-- Behind an answer a frame fits, and has the objects of its own that it had while it waited, and those that the answer brings.
pub record GainsOwn (types : Typing) (lent : List ℕ) (d : Domain) (old : Registers) (got : List ℕ) (stand : Stand) : Type 0 where
  pub fits : FitsStand types d stand
  pub parted : Parted lent (kinds_at d stand.at) stand.regs
  pub counts : (p : ℕ) → count p (own lent stand.regs) ≡ count p (own lent old) + count p got

next_gains : (d : Domain) (types : Typing) (lent : List ℕ) (n number : ℕ) (i : Instr) (old new : Registers) (got : List ℕ) → slice_get d.lines n ≡ Some (record { line = number; form = line.Code i }) → FitsStand types d (record { at = n + 1; regs = new }) → Gained lent (after d (kinds_at d n) i) old got new → GainsOwn types lent d old got (record { at = n + 1; regs = new })
next_gains d types lent n number i old new got here fits gained = record {
  fits = fits;
  parted = parted_of lent (kinds_at d (n + 1)) new (next_own d lent n number i new here gained.marked);
  counts = gained.counts;
}

failed_fits : (types : Typing) (lent : List ℕ) (d : Domain) (kinds : Kinds) (i : Instr) (failure : RpcCode) (regs : Registers) → Waits types lent d kinds i regs → FitsAnswer types d kinds i (answer.Failed failure) → Fits types (at_label kinds i) (answered i (answer.Failed failure) regs)
failed_fits types lent d kinds (instr.Call c method args results e label) failure regs waits fits =
    subst (λ r. Fits types (at_label kinds (instr.Call c method args results e label)) (with_number r e (code_number failure))) (sym (stays_given types lent d kinds (instr.Call c method args results e label) regs waits))
    (set_fine types (leave_all (passed args) kinds) regs e held.Num (Some (value.Num (code_number failure))) (record { wide = length-leave_all (passed args) kinds ∙ waits.wide; fits = waits.fits }) refl).fits
failed_fits types lent d kinds i failure regs waits fits = absurd fits

stands_gains : (d : Domain) (types : Typing) (lent : List ℕ) (i : Instr) (a : Answer) (s : Stand) → KeepsRules d → (waits : FitsWaiting types d i s) → Waits types lent d (kinds_at d s.at) i s.regs → FitsAnswer types d (kinds_at d s.at) i a → FitsStand types d (after_answer d s i a) → Gained lent (behind d (kinds_at d s.at) i a) s.regs (received a) (answered i a s.regs) → GainsOwn types lent d s.regs (received a) (after_answer d s i a)
stands_gains d types lent i (answer.Made o) s keeps waits knows answers fits gained = next_gains d types lent s.at waits.number i s.regs (answered i (answer.Made o) s.regs) (o ∷ []) waits.here fits gained
stands_gains d types lent i answer.Went s keeps waits knows answers fits gained = next_gains d types lent s.at waits.number i s.regs (answered i answer.Went s.regs) [] waits.here fits gained
stands_gains d types lent i (answer.Back values) s keeps waits knows answers fits gained = next_gains d types lent s.at waits.number i s.regs (answered i (answer.Back values) s.regs) (objects_in values) waits.here fits gained
stands_gains d types lent i (answer.Failed failure) s keeps waits knows answers fits gained =
    let label = failed_label types d (kinds_at d s.at) i failure answers in
    let new = answered i (answer.Failed failure) s.regs in
    let behind = jumped_own d types lent s.at waits.number i label.0 new keeps waits.here label.1 (failed_fits types lent d (kinds_at d s.at) i failure s.regs knows answers) gained.marked in
    let stand = after_answer d s i (answer.Failed failure) in
    record {
      fits = fits;
      parted = parted_of lent (kinds_at d stand.at) stand.regs behind.marked;
      counts = λ p. behind.same p ∙ gained.counts p;
    }

-- an answer to a frame that waits
pub waiting_gains : (d : Domain) (types : Typing) (lent : List ℕ) (i : Instr) (a : Answer) (s : Stand) → KeepsRules d → AreValidTables d.tables → FitsWaiting types d i s → Parted lent (left (kinds_at d s.at) i) s.regs → FitsAnswer types d (kinds_at d s.at) i a → Unlent lent (received a) → GainsOwn types lent d s.regs (received a) (after_answer d s i a)
waiting_gains d types lent i a s keeps tables waits parted fits unlent =
    let knows = waits_at d types lent i s keeps tables waits (marked_of lent (left (kinds_at d s.at) i) s.regs parted) in
    stands_gains d types lent i a s keeps waits knows fits (waiting_answers_fit d types i a s keeps waits fits)
    (gains types lent d (kinds_at d s.at) i a s.regs knows fits unlent)

-- an answer comes to the same whether what the instruction moves has been given up before, or only then
emptied_twice : (regs : Registers) (a : Register) (v : Option Value) → with_value (give_up regs a v) a None ≡ with_value regs a None
emptied_twice regs a (Some (value.Obj o)) = set_twice regs a.number
emptied_twice regs a None = refl
emptied_twice regs a (Some (value.Num n)) = refl
emptied_twice regs a (Some (value.Cap x)) = refl

given_twice : (types : Typing) (d : Domain) (i : Instr) (s : Stand) → KeepsRules d → FitsWaiting types d i (waiting i s) → all_given_up (moved i) (all_given_up (moved i) s.regs) ≡ all_given_up (moved i) s.regs
given_twice types d i s keeps waits =
    keep_all types (moved i) (left (kinds_at d s.at) i) (waiting i s).regs waits.regs (left_none (moved i) (kinds_at d s.at) (moved_given (kinds_at d s.at) i (met_at d s.at waits.number i keeps waits.here)))

same_answer : (types : Typing) (d : Domain) (i : Instr) (a : Answer) (s : Stand) → KeepsRules d → FitsWaiting types d i (waiting i s) → FitsAnswer types d (kinds_at d s.at) i a → answered i a (waiting i s).regs ≡ answered i a s.regs
same_answer types d (instr.Drop a) answer.Went s keeps waits fits = emptied_twice s.regs a (value_in s.regs a)
same_answer types d (instr.Put slot a) answer.Went s keeps waits fits = emptied_twice s.regs a (value_in s.regs a)
same_answer types d (instr.Hang o place v) answer.Went s keeps waits fits = emptied_twice s.regs v (value_in s.regs v)
same_answer types d (instr.Call c method args results e label) (answer.Back values) s keeps waits fits = ap (put_values results values) (given_twice types d (instr.Call c method args results e label) s keeps waits)
same_answer types d (instr.Call c method args results e label) (answer.Failed failure) s keeps waits fits = ap (λ r. with_number r e (code_number failure)) (given_twice types d (instr.Call c method args results e label) s keeps waits)
same_answer types d (instr.Move a b) ans s keeps waits fits = absurd fits
same_answer types d (instr.Ret results) ans s keeps waits fits = absurd fits
same_answer types d (instr.Drop a) ans s keeps waits fits = absurd fits
same_answer types d (instr.Put slot a) ans s keeps waits fits = absurd fits
same_answer types d (instr.Hang o place v) ans s keeps waits fits = absurd fits
same_answer types d (instr.Call c method args results e label) ans s keeps waits fits = absurd fits
same_answer types d i ans s keeps waits fits = refl

-- an answer to a frame that acts, where it gets it at once
pub answer_gains : (d : Domain) (types : Typing) (lent : List ℕ) (i : Instr) (a : Answer) (s : Stand) → KeepsRules d → AreValidTables d.tables → StandsAt d i s → FitsStand types d s → Parted lent (kinds_at d s.at) s.regs → FitsAnswer types d (kinds_at d s.at) i a → Unlent lent (received a) → GainsOwn types lent d (waiting i s).regs (received a) (after_answer d s i a)
answer_gains d types lent i a s keeps tables at stand parted fits unlent =
    let waits = gives_up d types i s keeps at stand in
    let marked = marks_given lent (moved i) (kinds_at d s.at) s.regs (marked_of lent (kinds_at d s.at) s.regs parted) in
    subst (λ r. GainsOwn types lent d (waiting i s).regs (received a) (after_answer_at d s.at a r)) (same_answer types d i a s keeps waits fits)
    (waiting_gains d types lent i a (waiting i s) keeps tables waits (parted_of lent (left (kinds_at d s.at) i) (waiting i s).regs marked) fits unlent)
