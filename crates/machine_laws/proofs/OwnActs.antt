-- An action gives away own objects of its frame, and uses others that are its own or lent to it.
use Rattle.std.proofs.Common.{◌≡◌, refl, sym, ◌∙◌, ap, subst, ℕ, ◌+◌, ◌<◌, ◌≤◌, ◌==◌, ◌⊎◌, Bool, true, false, cond, ◌&&◌, ◌||◌, List, [], ◌∷◌, map, Option, Some, None, slice_get, arith, true≢false, inl, inr, is_some}
use Rattle.std.specs.Prelude.{if◌then◌else◌}
use Rattle.std.specs.List.{slice_index_or, list_all, list_any, cons_option}
use Rattle.std.proofs.lemmas.Bool.{cases_Bool, cases_lt, eqb-true, eq-eqb, ne_eqb, not-true, or_right}
use Rattle.rl_defs.specs.declared.values.Value.{Value}
use Rattle.rl_defs.specs.declared.values.Value.TheVariants as value
use Rattle.machine_defs.specs.declared.values.Arg.{Arg}
use Rattle.machine_defs.specs.declared.values.Cause.{Cause}
use Rattle.machine_defs.specs.declared.values.Cause.TheVariants as cause
use Rattle.machine_defs.specs.declared.frame.Action.{Action}
use Rattle.machine_defs.specs.declared.frame.Action.TheVariants as action
use Rattle.rl_defs.specs.declared.code.Register.{Register}
use Rattle.rl_defs.specs.declared.code.RegKind.{RegKind}
use Rattle.rl_defs.specs.declared.code.RegKind.TheVariants as held
use Rattle.rl_defs.specs.declared.code.CallArg.{CallArg}
use Rattle.rl_defs.specs.declared.code.CallArg.TheVariants as arg
use Rattle.rl_defs.specs.declared.code.Instr.{Instr}
use Rattle.rl_defs.specs.declared.code.Instr.TheVariants as instr
use Rattle.rl_defs.specs.declared.code.DomainLine.TheVariants as line
use Rattle.rl_defs.specs.declared.tables.Kind.{Kind}
use Rattle.rl_defs.specs.declared.tables.Tables.{Tables}
use Rattle.machine_defs.specs.Sight.{Sight}
use Rattle.rl_defs.specs.DomainValue.{Domain}
use Rattle.machine_defs.specs.Loans.{count}
use Rattle.machine_defs.specs.Arguments.{has, moved_of, lent_of}
use Rattle.machine_defs.specs.Arguments.{objects_in}
use Rattle.machine_defs.specs.Sound.{object_held}
use Rattle.rl_defs.specs.CodeKinds.{Kinds, kinds_at, kind_in, is_own, Number, Owned, Object, Target, read_of_arg, leave_all, passed, moved, left, hung_at}
use Rattle.rl_defs.specs.CodeRules.{meets, is_met, reads_are_met, operands_suit, owning, is_among, has_cell, suits_cell, lent as lent_registers, moves_once, moves_or_lends, leaves_nothing, owns_nothing}
use Rattle.rl_defs.specs.CodeRules.{KeepsRules}
use Rattle.rl_defs.specs.Registers.{Typing, fits_kind}
use Rattle.machine_defs.specs.CodeFits.{FitsStand, FitsWaiting}
use Rattle.machine_defs.specs.Instructions.{given_up, all_given_up}
use Rattle.machine_defs.specs.CodeLaws.{StandsAt}
use Rattle.rl_defs.specs.Registers.{Registers, value_in, Stand}
use Rattle.machine_defs.specs.Instructions.{object, object_in, number_in, given_by, passed_value, result_in, struct_in, cell_kind, Outcome, Works, Jumps, Would, number_or_trap, unless_trap, setting, calculate, meaning, work}
use Rattle.machine_defs.proofs.CodeRegisters.{and_left, and_right, Fine, all_given, give_all_fine}
use Rattle.machine_defs.proofs.CodeSafe.{work_is, finds, owned_is as owned_own}
use Rattle.machine_defs.proofs.CodeStands.{keeps_at}
use Rattle.machine_defs.proofs.CodeAnswers.{gives_up, moved_given}
use Rattle.machine_defs.proofs.CodeWidths.{length-kinds_at}
use Rattle.rl_defs.proofs.ValidFacts.{hangs_in_none}
use Rattle.machine_laws.specs.Registers.{own, Parted, given_away, used, shown}
use Rattle.machine_laws.proofs.OwnCounts.{weight, own_least, own_none, own_unlent}
use Rattle.machine_laws.proofs.OwnMarks.{Marked, mark, marked_of, parted_of, spare_in, Owned as IsOwned, owned_in, owned_weight}
use Rattle.machine_laws.proofs.OwnRules.{keeps_own}
use Rattle.machine_laws.proofs.OwnHeads.{none_own}
use Rattle.machine_laws.proofs.OwnWork.{met_at}
use Rattle.machine_laws.proofs.OwnGiving.{objects_of, moved_objects, result_objects, others_keep, marks_given, give_counts, moved_distinct, owning_here, owning_rest}
use Rattle.rl_defs.specs.Valid.{AreValidTables}

-- a return leaves nothing
abbrev pub is_return : Action → Bool
is_return (action.Ret results) = true
is_return act = false

-- What an action leaves its frame, which waits with these registers: what it gives away is gone, what it uses is still own, and what it shows
-- is own or lent to it.
pub record Pays (lent : List ℕ) (old waiting : Registers) (act : Action) : Type 0 where
  pub gone : (p : ℕ) → count p (own lent waiting) + count p (given_away act) ≡ count p (own lent old)
  pub uses : (p : ℕ) → 0 < count p (used act) → 0 < count p (own lent waiting)
  pub shows : (p : ℕ) → 0 < count p (shown act) → (0 < count p (own lent waiting)) ⊎ (has lent p ≡ true)
  pub ends : is_return act ≡ true → (p : ℕ) → count p (own lent waiting) ≡ 0

-- a trap does nothing
abbrev pub PaysAct : List ℕ → Registers → Registers → Action → Type 0
PaysAct lent old waiting (action.Trap c) = Unit {0}
PaysAct lent old waiting act = Pays lent old waiting act

abbrev pub PaysWhen : List ℕ → Registers → Registers → Outcome → Type 0
PaysWhen lent old waiting (Would act) = PaysAct lent old waiting act
PaysWhen lent old waiting o = Unit {0}

-- what is known at an instruction
record Knows (types : Typing) (loans : List ℕ) (d : Domain) (n : ℕ) (kinds : Kinds) (regs : Registers) (i : Instr) : Type 0 where
  tables : AreValidTables d.tables
  fine : Fine types kinds regs
  marked : Marked loans kinds regs
  met : reads_are_met kinds i ≡ true
  suits : operands_suit d n kinds i ≡ true
  cell : has_cell d kinds (line.Code i) ≡ true
  once : moves_once kinds (line.Code i) ≡ true
  apart : moves_or_lends kinds (line.Code i) ≡ true
  leaves : leaves_nothing kinds (line.Code i) ≡ true

gone_by : (types : Typing) (lent : List ℕ) (d : Domain) (n : ℕ) (kinds : Kinds) (regs : Registers) (i : Instr) (given : List ℕ) → Knows types lent d n kinds regs i → ((p : ℕ) → count p (objects_of regs (moved i)) ≡ count p given) → (p : ℕ) → count p (own lent (all_given_up (moved i) regs)) + count p given ≡ count p (own lent regs)
gone_by types lent d n kinds regs i given knows same p =
    omega (arith, same p, give_counts types lent p (moved i) kinds regs knows.fine knows.marked (moved_given kinds i knows.met) (moved_distinct kinds i knows.once))

trap_number : (lent : List ℕ) (old waiting regs : Registers) (a : Register) (c : Cause) (n : Option ℕ) → PaysWhen lent old waiting (number_or_trap regs a c n)
trap_number lent old waiting regs a c None = tt
trap_number lent old waiting regs a c (Some n) = tt

jz_pays : (lent : List ℕ) (old waiting regs : Registers) (b : Bool) → PaysWhen lent old waiting (if b then Jumps regs else Works regs)
jz_pays lent old waiting regs true = tt
jz_pays lent old waiting regs false = tt

unless_pays : (lent : List ℕ) (old waiting : Registers) (allowed : Bool) (c : Cause) (act : Action) → PaysAct lent old waiting act → PaysWhen lent old waiting (unless_trap allowed c act)
unless_pays lent old waiting true c act pays = pays
unless_pays lent old waiting false c act pays = tt

set_pays : (lent : List ℕ) (old waiting : Registers) (cell : Option ℕ) (k : Kind) (o place v : ℕ) → Pays lent old waiting (action.Set o place (v ∷ [])) → PaysWhen lent old waiting (setting cell k o place v)
set_pays lent old waiting None k o place v pays = tt
set_pays lent old waiting (Some n) k o place v pays = unless_pays lent old waiting _ cause.Range (action.Set o place (v ∷ [])) pays

no_object : (p : ℕ) → 0 < count p [] → ⊥
no_object p lt = omega arith

-- the object in a register that is known to hold an own one
owned_met : (types : Typing) (lent : List ℕ) (kinds : Kinds) (regs : Registers) (r : Register) → Fine types kinds regs → Marked lent kinds regs → meets Owned (kind_in kinds r) ≡ true → IsOwned lent (value_in regs r)
owned_met types lent kinds regs r fine marked m = owned_in types lent kinds regs r.number fine.fits marked (owned_own (kind_in kinds r) m)

held_object : (lent : List ℕ) (regs : Registers) (r : Register) → (o : IsOwned lent (value_in regs r)) → object_in regs r ≡ o.object
held_object lent regs r o = ap object o.is

one_object : (lent : List ℕ) (regs : Registers) (r : Register) (p : ℕ) → IsOwned lent (value_in regs r) → count p (objects_of regs (r ∷ [])) ≡ count p (object_in regs r ∷ [])
one_object lent regs r p o = ap (λ v. count p (cons_option (object_held v) [])) o.is ∙ sym (ap (λ x. count p (x ∷ [])) (held_object lent regs r o))

-- it is among the own ones of registers that still have it
still_own : (lent : List ℕ) (regs new : Registers) (r : Register) (p : ℕ) → IsOwned lent (value_in regs r) → value_in new r ≡ value_in regs r → 0 < count p (object_in regs r ∷ []) → 0 < count p (own lent new)
still_own lent regs new r p o same some =
    omega (arith, own_least lent p new r.number, ap (weight lent p) same, owned_weight lent p (value_in regs r) o, ap (λ x. count p (x ∷ [])) (held_object lent regs r o))

-- an object that is the only one counted
pub is_it : (x p : ℕ) → 0 < count p (x ∷ []) → x ≡ p
is_it x p some = elim (cases_Bool (x == p)) [
  | inl is ↦ eqb-true x p is
  | inr isn't ↦ let none : count p (x ∷ []) ≡ 0 = ap (λ (b : Bool). (if b then 1 else 0) + 0) isn't in absurd (omega (arith, none))
]

lent_object : (types : Typing) (lent : List ℕ) (k : RegKind) (v : Option Value) → meets Object k ≡ true → is_own k ≡ false → fits_kind types k v ≡ true → mark lent k v ≡ true → has lent (object v) ≡ true
lent_object types lent (held.Lent s) (Some (value.Obj o)) m other f marked = marked
lent_object types lent k v m other f marked = cc

-- an object that is shown is own still, or lent
shows_one : (types : Typing) (lent : List ℕ) (kinds : Kinds) (regs new : Registers) (r : Register) (p : ℕ) → Fine types kinds regs → Marked lent kinds regs → meets Object (kind_in kinds r) ≡ true → (is_own (kind_in kinds r) ≡ true → value_in new r ≡ value_in regs r) → 0 < count p (object_in regs r ∷ []) → (0 < count p (own lent new)) ⊎ (has lent p ≡ true)
shows_one types lent kinds regs new r p fine marked m keeps some = elim (cases_Bool (is_own (kind_in kinds r))) [
  | inl is ↦ inl (still_own lent regs new r p (owned_in types lent kinds regs r.number fine.fits marked is) (keeps is) some)
  | inr isn't ↦
      let lends : has lent (object_in regs r) ≡ true = lent_object types lent (kind_in kinds r) (value_in regs r) m isn't (fine.fits.each r.number) (marked r.number) in
      inr (sym (ap (has lent) (is_it (object_in regs r) p some)) ∙ lends)
]

quiet : (lent : List ℕ) (regs : Registers) (act : Action) → given_away act ≡ [] → used act ≡ [] → shown act ≡ [] → is_return act ≡ false → Pays lent regs regs act
quiet lent regs act g u s n = record {
  gone = λ p. omega (arith, ap (count p) g);
  uses = λ p some. absurd (omega (arith, ap (count p) u));
  shows = λ p some. absurd (omega (arith, ap (count p) s));
  ends = λ r. absurd (true≢false (sym r ∙ n));
}

-- no object hangs in one of its own struct
hangs_self : (tables : Tables) (s place : ℕ) (h : Option ℕ) → AreValidTables tables → hung_at tables (held.Own s) place ≡ h → is_some h ≡ true → suits_cell h (held.Own s) ≡ true → ⊥
hangs_self tables s place None has e some suits = cc
hangs_self tables s place (Some t) has e some suits = hangs_in_none tables has s place (e ∙ ap (λ x. Some x) (eqb-true t s suits))

hang_kinds : (tables : Tables) (place : ℕ) (k w : RegKind) → AreValidTables tables → meets Owned k ≡ true → is_some (hung_at tables k place) ≡ true → suits_cell (hung_at tables k place) w ≡ true → k ≡ w → ⊥
hang_kinds tables place (held.Own s) w has m some suits e = hangs_self tables s place (hung_at tables (held.Own s) place) has refl some (ap (suits_cell (hung_at tables (held.Own s) place)) e ∙ suits)
hang_kinds tables place k w has m some suits e = cc

hang_apart : (tables : Tables) (kinds : Kinds) (o v : Register) (place : ℕ) → AreValidTables tables → meets Owned (kind_in kinds o) ≡ true → is_some (hung_at tables (kind_in kinds o) place) ≡ true → suits_cell (hung_at tables (kind_in kinds o) place) (kind_in kinds v) ≡ true → is_among o (v ∷ []) ≡ false
hang_apart tables kinds o v place has m some suits =
    rw (ne_eqb v.number o.number (λ e. hang_kinds tables place (kind_in kinds o) (kind_in kinds v) has m some suits (ap (λ n. slice_index_or kinds n held.Empty) (sym e)))) refl

-- a register that is lent in a call isn't among those that are moved
any_first : (b : Bool) (q : Register) (ls xs : List Register) → list_any (λ r. is_among r ls) (cond b (q ∷ xs) xs) ≡ cond b (is_among q ls || list_any (λ r. is_among r ls) xs) (list_any (λ r. is_among r ls) xs)
any_first true q ls xs = refl
any_first false q ls xs = refl

lent_apart : (kinds : Kinds) (l : Register) (ls ps : List Register) → is_own (kind_in kinds l) ≡ true → ((q : Register) → q.number ≡ l.number → is_among q ls ≡ true) → list_any (λ r. is_among r ls) (owning kinds ps) ≡ false → is_among l ps ≡ false
lent_apart kinds l ls [] o among e = refl
lent_apart kinds l ls (q ∷ ps) o among e =
    let first = sym (any_first (is_own (kind_in kinds q)) q ls (owning kinds ps)) ∙ e in
    let rest = list_any (λ r. is_among r ls) (owning kinds ps) in
    elim (cases_Bool (q.number == l.number)) [
      | inl is ↦
          let same = eqb-true q.number l.number is in
          absurd (owning_here (is_own (kind_in kinds q)) (is_among q ls) rest (ap (λ n. is_own (slice_index_or kinds n held.Empty)) same ∙ o) (among q same) first)
      | inr isn't ↦ rw isn't (lent_apart kinds l ls ps o among (owning_rest (is_own (kind_in kinds q)) rest (is_among q ls) first))
    ]

among_here : (l q : Register) (rest : List Register) → q.number ≡ l.number → is_among q (l ∷ rest) ≡ true
among_here l q rest e = rw (eq-eqb l.number q.number (sym e)) refl

lends_passed : (v : Option Value) (args : List Arg) (p : ℕ) → 0 < count p (lent_of (passed_value v ∷ args)) → 0 < count p (lent_of args)
lends_passed None args p some = some
lends_passed (Some (value.Num n)) args p some = some
lends_passed (Some (value.Obj o)) args p some = some
lends_passed (Some (value.Cap x)) args p some = some

-- what a call lends
lends : (types : Typing) (lent : List ℕ) (kinds : Kinds) (regs : Registers) (ps ls : List Register) (args : List CallArg) (p : ℕ) → Fine types kinds regs → Marked lent kinds regs → list_all (is_met kinds) (map read_of_arg args) ≡ true → list_any (λ r. is_among r ls) (owning kinds ps) ≡ false → ((q : Register) → is_among q (lent_registers args) ≡ true → is_among q ls ≡ true) → 0 < count p (lent_of (map (given_by regs) args)) → (0 < count p (own lent (all_given_up ps regs))) ⊎ (has lent p ≡ true)
lends types lent kinds regs ps ls [] p fine marked met apart among some = absurd (no_object p some)
lends types lent kinds regs ps ls (arg.Passed r ∷ args) p fine marked met apart among some =
    lends types lent kinds regs ps ls args p fine marked (and_right (is_met kinds (read_of_arg (arg.Passed r))) (list_all (is_met kinds) (map read_of_arg args)) met) apart among (lends_passed (value_in regs r) (map (given_by regs) args) p some)
lends types lent kinds regs ps ls (arg.Lent r ∷ args) p fine marked met apart among some =
    let here = and_left (meets Object (kind_in kinds r)) (list_all (is_met kinds) (map read_of_arg args)) met in
    let rest = and_right (meets Object (kind_in kinds r)) (list_all (is_met kinds) (map read_of_arg args)) met in
    elim (cases_lt 0 (count p (object_in regs r ∷ []))) [
      | inl lt ↦
          shows_one types lent kinds regs (all_given_up ps regs) r p fine marked here
          (λ o. others_keep ps regs r (lent_apart kinds r ls ps o (λ q e. among q (among_here r q (lent_registers args) e)) apart)) lt
      | inr ge ↦ lends types lent kinds regs ps ls args p fine marked rest apart (λ q e. among q (or_right (r.number == q.number) (is_among q (lent_registers args)) e)) (omega arith)
    ]

returned : (types : Typing) (lent : List ℕ) (kinds : Kinds) (regs : Registers) (results : List Register) (p : ℕ) → Fine types kinds regs → Marked lent kinds regs → all_given kinds results ≡ true → owns_nothing (leave_all results kinds) ≡ true → count p (own lent (all_given_up results regs)) ≡ 0
returned types lent kinds regs results p fine marked given leaves =
    let waiting = all_given_up results regs in
    own_none lent p waiting (λ r.
    spare_in types lent (leave_all results kinds) waiting p r (give_all_fine types results kinds regs fine given).fits (marks_given lent results kinds regs marked) (none_own (leave_all results kinds) r leaves))

-- each instruction
pays : (types : Typing) (lent : List ℕ) (d : Domain) (n : ℕ) (kinds : Kinds) (sight : Sight) (live : ℕ) (regs : Registers) (i : Instr) → Knows types lent d n kinds regs i → PaysWhen lent regs (all_given_up (moved i) regs) (meaning d n sight live regs i)
pays types lent d n kinds sight live regs (instr.Math o a b c) knows = trap_number lent regs regs regs a cause.Divide (calculate o (number_in regs b) (number_in regs c))
pays types lent d n kinds sight live regs (instr.Jz a label) knows = jz_pays lent regs regs regs (number_in regs a == 0)
pays types lent d n kinds sight live regs (instr.Get a o i) knows = trap_number lent regs regs regs a cause.Bounds _
pays types lent d n kinds sight live regs (instr.Wget a i) knows = trap_number lent regs regs regs a cause.Bounds _
pays types lent d n kinds sight live regs (instr.New a ty) knows = unless_pays lent regs regs _ cause.HeapFull (action.New _) (quiet lent regs (action.New _) refl refl refl refl)
pays types lent d n kinds sight live regs (instr.Drop a) knows =
    let o = owned_met types lent kinds regs a knows.fine knows.marked (and_left (meets Owned (kind_in kinds a)) true knows.met) in
    record {
      gone = gone_by types lent d n kinds regs (instr.Drop a) (object_in regs a ∷ []) knows (λ p. one_object lent regs a p o);
      uses = λ p some. absurd (no_object p some);
      shows = λ p some. absurd (no_object p some);
      ends = λ r. absurd (cc);
    }
pays types lent d n kinds sight live regs (instr.Set o i v) knows =
    let here = owned_met types lent kinds regs o knows.fine knows.marked (and_left (meets Owned (kind_in kinds o)) (meets Number (kind_in kinds i) && (meets Number (kind_in kinds v) && true)) knows.met) in
    set_pays lent regs regs (sight.cell (object_in regs o) (number_in regs i)) (cell_kind d.tables (struct_in sight regs o) (number_in regs i)) (object_in regs o) (number_in regs i) (number_in regs v) (record {
      gone = λ p. omega arith;
      uses = λ p some. still_own lent regs regs o p here refl some;
      shows = λ p some. absurd (no_object p some);
      ends = λ r. absurd (cc);
    })
pays types lent d n kinds sight live regs (instr.Wput i v) knows = unless_pays lent regs regs _ cause.Bounds (action.Wput _ _) (quiet lent regs (action.Wput _ _) refl refl refl refl)
pays types lent d n kinds sight live regs (instr.Take a slot) knows = unless_pays lent regs regs _ cause.Empty (action.Take _) (quiet lent regs (action.Take _) refl refl refl refl)
pays types lent d n kinds sight live regs (instr.Put slot a) knows =
    let o = owned_met types lent kinds regs a knows.fine knows.marked (and_left (meets Owned (kind_in kinds a)) true knows.met) in
    unless_pays lent regs (given_up regs a) _ cause.Full (action.Put _ (object_in regs a)) (record {
      gone = gone_by types lent d n kinds regs (instr.Put slot a) (object_in regs a ∷ []) knows (λ p. one_object lent regs a p o);
      uses = λ p some. absurd (no_object p some);
      shows = λ p some. absurd (no_object p some);
      ends = λ r. absurd (cc);
    })
pays types lent d n kinds sight live regs (instr.DevGet o k) knows =
    let here = owned_met types lent kinds regs o knows.fine knows.marked (and_left (meets Owned (kind_in kinds o)) (meets Number (kind_in kinds k) && true) knows.met) in
    unless_pays lent regs regs _ cause.Device (action.DevGet (object_in regs o) _) (record {
      gone = λ p. omega arith;
      uses = λ p some. still_own lent regs regs o p here refl some;
      shows = λ p some. absurd (no_object p some);
      ends = λ r. absurd (cc);
    })
pays types lent d n kinds sight live regs (instr.DevPut k o) knows =
    let here = and_left (meets Object (kind_in kinds o)) true (and_right (meets Number (kind_in kinds k)) (meets Object (kind_in kinds o) && true) knows.met) in
    unless_pays lent regs regs _ cause.Device (action.DevPut _ (object_in regs o)) (record {
      gone = λ p. omega arith;
      uses = λ p some. absurd (no_object p some);
      shows = λ p some. shows_one types lent kinds regs regs o p knows.fine knows.marked here (λ e. refl) some;
      ends = λ r. absurd (cc);
    })
pays types lent d n kinds sight live regs (instr.Hang o place v) knows =
    let holder = and_left (meets Owned (kind_in kinds o)) (meets Owned (kind_in kinds v) && true) knows.met in
    let hung = and_left (meets Owned (kind_in kinds v)) true (and_right (meets Owned (kind_in kinds o)) (meets Owned (kind_in kinds v) && true) knows.met) in
    let there = owned_met types lent kinds regs o knows.fine knows.marked holder in
    let here = owned_met types lent kinds regs v knows.fine knows.marked hung in
    unless_pays lent regs (given_up regs v) _ cause.Full (action.Hang (object_in regs o) place (object_in regs v)) (record {
      gone = gone_by types lent d n kinds regs (instr.Hang o place v) (object_in regs v ∷ []) knows (λ p. one_object lent regs v p here);
      uses = λ p some. still_own lent regs (given_up regs v) o p there (others_keep (v ∷ []) regs o (hang_apart d.tables kinds o v place knows.tables holder knows.cell knows.suits)) some;
      shows = λ p some. absurd (no_object p some);
      ends = λ r. absurd (cc);
    })
pays types lent d n kinds sight live regs (instr.Unhang a o place) knows =
    let here = owned_met types lent kinds regs o knows.fine knows.marked (and_left (meets Owned (kind_in kinds o)) true knows.met) in
    unless_pays lent regs regs _ cause.Empty (action.Unhang (object_in regs o) place) (record {
      gone = λ p. omega arith;
      uses = λ p some. still_own lent regs regs o p here refl some;
      shows = λ p some. absurd (no_object p some);
      ends = λ r. absurd (cc);
    })
pays types lent d n kinds sight live regs (instr.Call c method args results e label) knows =
    unless_pays lent regs (all_given_up (passed args) regs) _ cause.Range (action.Call _ _ (map (given_by regs) args)) (record {
      gone = gone_by types lent d n kinds regs (instr.Call c method args results e label) (moved_of (map (given_by regs) args)) knows (λ p. sym (ap (count p) (moved_objects regs args)));
      uses = λ p some. absurd (no_object p some);
      shows = λ p some.
          lends types lent kinds regs (passed args) (lent_registers args) args p knows.fine knows.marked (and_right (meets Target (kind_in kinds c)) (list_all (is_met kinds) (map read_of_arg args)) knows.met)
          (not-true (list_any (λ r. is_among r (lent_registers args)) (owning kinds (passed args))) knows.apart) (λ q x. x) some;
      ends = λ r. absurd (cc);
    })
pays types lent d n kinds sight live regs (instr.Ret results) knows =
    unless_pays lent regs (all_given_up results regs) _ cause.Range (action.Ret (map (result_in regs) results)) (record {
      gone = gone_by types lent d n kinds regs (instr.Ret results) (objects_in (map (result_in regs) results)) knows (λ p. sym (ap (count p) (result_objects regs results)));
      uses = λ p some. absurd (no_object p some);
      shows = λ p some. absurd (no_object p some);
      ends = λ r p. returned types lent kinds regs results p knows.fine knows.marked (moved_given kinds (instr.Ret results) knows.met) knows.leaves;
    })
pays types lent d n kinds sight live regs i knows = tt

knows_at : (d : Domain) (types : Typing) (lent : List ℕ) (s : Stand) (number : ℕ) (i : Instr) → KeepsRules d → AreValidTables d.tables → FitsStand types d s → Marked lent (kinds_at d s.at) s.regs → slice_get d.lines s.at ≡ Some (record { line = number; form = line.Code i }) → Knows types lent d s.at (kinds_at d s.at) s.regs i
knows_at d types lent s number i keeps tables stand marked here =
    let kept = keeps_at d s.at number (line.Code i) keeps here in
    let mine = keeps_own d s.at number (line.Code i) keeps here in
    let kinds = kinds_at d s.at in
    record {
      tables = tables;
      fine = record { wide = length-kinds_at d s.at; fits = stand.regs };
      marked = marked;
      met = met_at d s.at number i keeps here;
      suits = and_right (reads_are_met kinds i) (operands_suit d s.at kinds i) kept.kinds;
      cell = kept.cell;
      once = mine.once;
      apart = mine.apart;
      leaves = mine.leaves;
    }

-- a frame at an instruction, without the objects that this moves
abbrev pub waiting : Instr → Stand → Stand
waiting i s = record { at = s.at; regs = all_given_up (moved i) s.regs }

-- A frame that acts gives up what its instruction moves. It fits as one that waits, and has paid for its action.
pub record ActsOwn (types : Typing) (lent : List ℕ) (d : Domain) (i : Instr) (s : Stand) (act : Action) : Type 0 where
  pub fits : FitsWaiting types d i (waiting i s)
  pub parted : Parted lent (left (kinds_at d s.at) i) (waiting i s).regs
  pub pays : PaysAct lent s.regs (waiting i s).regs act

pub acts_own : (d : Domain) (types : Typing) (lent : List ℕ) (sight : Sight) (live : ℕ) (i : Instr) (s : Stand) (act : Action) → KeepsRules d → AreValidTables d.tables → FitsStand types d s → Parted lent (kinds_at d s.at) s.regs → StandsAt d i s → work d sight live s ≡ Would act → ActsOwn types lent d i s act
acts_own d types lent sight live i s act keeps tables stand parted at is =
    let kinds = kinds_at d s.at in
    let marked = marked_of lent kinds s.regs parted in
    let means : meaning d s.at sight live s.regs i ≡ Would act = sym (work_is d sight live s at.number i at.here (finds d types s at.number i keeps stand at.here)) ∙ is in
    record {
      fits = gives_up d types i s keeps at stand;
      parted = parted_of lent (left kinds i) (waiting i s).regs (marks_given lent (moved i) kinds s.regs marked);
      pays = subst (PaysWhen lent s.regs (waiting i s).regs) means (pays types lent d s.at kinds sight live s.regs i (knows_at d types lent s at.number i keeps tables stand marked at.here));
    }

-- no object is given away and shown at once, where each is own once
pub gives_or_shows : (lent : List ℕ) (old new : Registers) (act : Action) (o : ℕ) → Pays lent old new act → count o (own lent old) ≤ 1 → 0 < count o (given_away act) → 0 < count o (shown act) → ⊥
gives_or_shows lent old new act o pays once gives shows =
    let gone = pays.gone o in
    elim (pays.shows o shows) [
      | inl still ↦ omega arith
      | inr is ↦ true≢false (sym is ∙ own_unlent lent o old (omega arith))
    ]

-- a return gives away all that its frame has
pub returns_own : (lent : List ℕ) (old new : Registers) (results : List Value) (p : ℕ) → Pays lent old new (action.Ret results) → count p (objects_in results) ≡ count p (own lent old)
returns_own lent old new results p pays = omega (arith, pays.gone p, pays.ends refl p)
