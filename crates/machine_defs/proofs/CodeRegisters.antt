-- Registers that hold what their kinds say.
use Rattle.std.proofs.Common.{◌≡◌, refl, sym, ◌∙◌, ap, ℕ, zero, suc, ◌+◌, ◌<◌, ◌==◌, Bool, true, false, ◌&&◌, ◌||◌, List, [], ◌∷◌, length, map, Option, Some, None, arith, add-zero, zero-add}
use Rattle.std.specs.Prelude.{slice_set, replicate, if◌then◌else◌}
use Rattle.std.specs.List.{slice_index_or, list_all, list_any}
use Rattle.std.proofs.Math.ListN.{length-set}
use Rattle.std.proofs.lemmas.List.{length-replicate}
use Rattle.std.proofs.lemmas.Bool.{eqb-true, ne_eqb}
use lib.Dec.{eqb-suc-suc}
use Rattle.rl_defs.specs.declared.values.Value.{Value}
use Rattle.rl_defs.specs.declared.values.Value.TheVariants as value
use Rattle.rl_defs.specs.declared.code.Register.{Register}
use Rattle.rl_defs.specs.declared.code.RegKind.{RegKind}
use Rattle.rl_defs.specs.declared.code.RegKind.TheVariants as held
use Rattle.rl_defs.specs.declared.code.HeadItem.{HeadItem}
use Rattle.rl_defs.specs.declared.code.Instr.{Instr}
use Rattle.rl_defs.specs.declared.tables.Kind.{Kind}
use Rattle.rl_defs.specs.DomainValue.{Domain}
use Rattle.rl_defs.specs.CodeKinds.{Kinds, no_kinds, kind_in, with_kind, is_own, Need, Number, Copied, Owned, Object, Target, Passed, Read, reads, leave, leave_all, Write, put_all, paired, as_register, listed, head_kinds}
use Rattle.rl_defs.specs.CodeRules.{meets, is_met, reads_are_met, same_kind, owns_nothing, enters, without}
use Rattle.rl_defs.specs.Registers.{Registers, value_in, with_value, is_listed, keep_from, kept}
use Rattle.machine_defs.specs.Instructions.{serves, holds, reads_are_held}
use Rattle.rl_defs.specs.Registers.{Typing, fits_kind, Fits}
use Rattle.machine_defs.specs.CodeFits.{are_values}
use Rattle.machine_defs.specs.Instructions.{give_up, given_up, all_given_up, put_values}

pub and_left : (a b : Bool) → (a && b) ≡ true → a ≡ true
and_left true b h = refl
and_left false b h = h

pub and_right : (a b : Bool) → (a && b) ≡ true → b ≡ true
and_right true b h = h
and_right false b h = cc

-- a value of a kind that is asked for is what is asked for
pub met_has : (types : Typing) (need : Need) (k : RegKind) (v : Option Value) → meets need k ≡ true → fits_kind types k v ≡ true → serves need v ≡ true
met_has types Number held.Num (Some (value.Num n)) m f = refl
met_has types Copied held.Num (Some (value.Num n)) m f = refl
met_has types Copied (held.Lent s) (Some (value.Obj o)) m f = refl
met_has types Copied (held.Cap t) (Some (value.Cap x)) m f = refl
met_has types Owned (held.Own s) (Some (value.Obj o)) m f = refl
met_has types Object (held.Own s) (Some (value.Obj o)) m f = refl
met_has types Object (held.Lent s) (Some (value.Obj o)) m f = refl
met_has types Target (held.Cap t) (Some (value.Cap x)) m f = refl
met_has types Passed held.Num (Some (value.Num n)) m f = refl
met_has types Passed (held.Own s) (Some (value.Obj o)) m f = refl
met_has types Passed (held.Cap t) (Some (value.Cap x)) m f = refl
met_has types need k v m f = cc

all_held : (types : Typing) (kinds : Kinds) (regs : Registers) → Fits types kinds regs → (rs : List Read) → list_all (is_met kinds) rs ≡ true → list_all (holds regs) rs ≡ true
all_held types kinds regs fit [] m = refl
all_held types kinds regs fit (r ∷ rs) m =
    rw (met_has types r.need (kind_in kinds r.register) (value_in regs r.register) (and_left (is_met kinds r) (list_all (is_met kinds) rs) m) (fit.each r.register.number))
    (all_held types kinds regs fit rs (and_right (is_met kinds r) (list_all (is_met kinds) rs) m))

-- the checker's yes to what an instruction reads means that the registers hold it
pub reads_held : (types : Typing) (kinds : Kinds) (regs : Registers) (i : Instr) → Fits types kinds regs → reads_are_met kinds i ≡ true → reads_are_held regs i ≡ true
reads_held types kinds regs i fit m = all_held types kinds regs fit (reads i) m

set_each : (types : Typing) (kinds : Kinds) (regs : Registers) (a : ℕ) (k : RegKind) (v : Option Value) → a < length kinds → a < length regs → ((r : ℕ) → fits_kind types (slice_index_or kinds r held.Empty) (slice_index_or regs r None) ≡ true) → fits_kind types k v ≡ true → (r : ℕ) → fits_kind types (slice_index_or (slice_set kinds a k) r held.Empty) (slice_index_or (slice_set regs a v) r None) ≡ true
set_each types [] regs a k v lk lr each f r = absurd (omega arith)
set_each types (x ∷ kinds) [] a k v lk lr each f r = absurd (omega arith)
set_each types (x ∷ kinds) (y ∷ regs) zero k v lk lr each f zero = f
set_each types (x ∷ kinds) (y ∷ regs) zero k v lk lr each f (suc r) = each (suc r)
set_each types (x ∷ kinds) (y ∷ regs) (suc a) k v lk lr each f zero = each zero
set_each types (x ∷ kinds) (y ∷ regs) (suc a) k v lk lr each f (suc r) = set_each types kinds regs a k v (omega arith) (omega arith) (λ q. each (suc q)) f r

-- registers of the kinds of 32 registers
pub record Fine (types : Typing) (kinds : Kinds) (regs : Registers) : Type 0 where
  pub wide : length kinds ≡ 32
  pub fits : Fits types kinds regs

pub set_fine : (types : Typing) (kinds : Kinds) (regs : Registers) (a : Register) (k : RegKind) (v : Option Value) → Fine types kinds regs → fits_kind types k v ≡ true → Fine types (with_kind kinds a k) (with_value regs a v)
set_fine types kinds regs a k v fine f =
    let below = a.below in
    let wide = fine.wide in
    let all = fine.fits.all in
    record {
      wide = simp length-set fine.wide;
      fits = record {
        all = simp length-set fine.fits.all;
        each = set_each types kinds regs a.number k v (omega arith) (omega arith) fine.fits.each f;
      };
    }

abbrev pub is_given : RegKind → Bool
is_given (held.Lent s) = false
is_given _ = true

give_fine : (types : Typing) (kinds : Kinds) (regs : Registers) (r : Register) (k : RegKind) (v : Option Value) → Fine types kinds regs → is_given k ≡ true → fits_kind types k v ≡ true → Fine types (if is_own k then with_kind kinds r held.Empty else kinds) (give_up regs r v)
give_fine types kinds regs r held.Empty None fine g f = fine
give_fine types kinds regs r held.Num (Some (value.Num n)) fine g f = fine
give_fine types kinds regs r (held.Own s) (Some (value.Obj o)) fine g f = set_fine types kinds regs r held.Empty None fine refl
give_fine types kinds regs r (held.Cap t) (Some (value.Cap x)) fine g f = fine
give_fine types kinds regs r k v fine g f = absurd (cc)

-- an own object leaves its register
pub give_up_fine : (types : Typing) (kinds : Kinds) (regs : Registers) (r : Register) → Fine types kinds regs → is_given (kind_in kinds r) ≡ true → Fine types (leave kinds r) (given_up regs r)
give_up_fine types kinds regs r fine g = give_fine types kinds regs r (kind_in kinds r) (value_in regs r) fine g (fine.fits.each r.number)

set_given : (kinds : Kinds) (a r : ℕ) → is_given (slice_index_or kinds r held.Empty) ≡ true → is_given (slice_index_or (slice_set kinds a held.Empty) r held.Empty) ≡ true
set_given [] a r g = g
set_given (k ∷ kinds) zero zero g = refl
set_given (k ∷ kinds) zero (suc r) g = g
set_given (k ∷ kinds) (suc a) zero g = g
set_given (k ∷ kinds) (suc a) (suc r) g = set_given kinds a r g

leave_given : (kinds : Kinds) (a : Register) (own : Bool) (r : ℕ) → is_given (slice_index_or kinds r held.Empty) ≡ true → is_given (slice_index_or (if own then with_kind kinds a held.Empty else kinds) r held.Empty) ≡ true
leave_given kinds a true r g = set_given kinds a.number r g
leave_given kinds a false r g = g

-- none of the registers holds a lent object
abbrev pub all_given : Kinds → List Register → Bool
all_given kinds rs = list_all (λ r. is_given (kind_in kinds r)) rs

rest_given : (kinds : Kinds) (a : Register) (rs : List Register) → all_given kinds rs ≡ true → all_given (leave kinds a) rs ≡ true
rest_given kinds a [] g = refl
rest_given kinds a (r ∷ rs) g =
    rw (leave_given kinds a (is_own (kind_in kinds a)) r.number (and_left (is_given (kind_in kinds r)) (all_given kinds rs) g))
    (rest_given kinds a rs (and_right (is_given (kind_in kinds r)) (all_given kinds rs) g))

pub give_all_fine : (types : Typing) (rs : List Register) (kinds : Kinds) (regs : Registers) → Fine types kinds regs → all_given kinds rs ≡ true → Fine types (leave_all rs kinds) (all_given_up rs regs)
give_all_fine types [] kinds regs fine g = fine
give_all_fine types (r ∷ rs) kinds regs fine g =
    give_all_fine types rs (leave kinds r) (given_up regs r)
    (give_up_fine types kinds regs r fine (and_left (is_given (kind_in kinds r)) (all_given kinds rs) g))
    (rest_given kinds r rs (and_right (is_given (kind_in kinds r)) (all_given kinds rs) g))

-- a register that holds no object keeps what it holds
abbrev pub holds_none : RegKind → Bool
holds_none (held.Own s) = false
holds_none (held.Lent s) = false
holds_none _ = true

keep_value : (types : Typing) (regs : Registers) (r : Register) (k : RegKind) (v : Option Value) → holds_none k ≡ true → fits_kind types k v ≡ true → give_up regs r v ≡ regs
keep_value types regs r held.Empty None g f = refl
keep_value types regs r held.Num (Some (value.Num n)) g f = refl
keep_value types regs r (held.Cap t) (Some (value.Cap x)) g f = refl
keep_value types regs r k v g f = absurd (cc)

abbrev pub all_none : Kinds → List Register → Bool
all_none kinds rs = list_all (λ r. holds_none (kind_in kinds r)) rs

pub keep_all : (types : Typing) (rs : List Register) (kinds : Kinds) (regs : Registers) → Fits types kinds regs → all_none kinds rs ≡ true → all_given_up rs regs ≡ regs
keep_all types [] kinds regs fit g = refl
keep_all types (r ∷ rs) kinds regs fit g =
    ap (all_given_up rs) (keep_value types regs r (kind_in kinds r) (value_in regs r) (and_left (holds_none (kind_in kinds r)) (all_none kinds rs) g) (fit.each r.number))
    ∙ keep_all types rs kinds regs fit (and_right (holds_none (kind_in kinds r)) (all_none kinds rs) g)

set_none : (kinds : Kinds) (a r : ℕ) → holds_none (slice_index_or kinds r held.Empty) ≡ true → holds_none (slice_index_or (slice_set kinds a held.Empty) r held.Empty) ≡ true
set_none [] a r g = g
set_none (k ∷ kinds) zero zero g = refl
set_none (k ∷ kinds) zero (suc r) g = g
set_none (k ∷ kinds) (suc a) zero g = g
set_none (k ∷ kinds) (suc a) (suc r) g = set_none kinds a r g

leave_none : (kinds : Kinds) (a : Register) (own : Bool) (r : ℕ) → holds_none (slice_index_or kinds r held.Empty) ≡ true → holds_none (slice_index_or (if own then with_kind kinds a held.Empty else kinds) r held.Empty) ≡ true
leave_none kinds a true r g = set_none kinds a.number r g
leave_none kinds a false r g = g

all_leave_none : (rs : List Register) (kinds : Kinds) (r : ℕ) → holds_none (slice_index_or kinds r held.Empty) ≡ true → holds_none (slice_index_or (leave_all rs kinds) r held.Empty) ≡ true
all_leave_none [] kinds r g = g
all_leave_none (a ∷ rs) kinds r g = all_leave_none rs (leave kinds a) r (leave_none kinds a (is_own (kind_in kinds a)) r g)

set_here : (kinds : Kinds) (a : ℕ) → holds_none (slice_index_or (slice_set kinds a held.Empty) a held.Empty) ≡ true
set_here [] a = refl
set_here (k ∷ kinds) zero = refl
set_here (k ∷ kinds) (suc a) = set_here kinds a

left_here : (kinds : Kinds) (r : Register) (k : RegKind) → k ≡ kind_in kinds r → is_given k ≡ true → holds_none (kind_in (if is_own k then with_kind kinds r held.Empty else kinds) r) ≡ true
left_here kinds r held.Empty e g = rw (← e) refl
left_here kinds r held.Num e g = rw (← e) refl
left_here kinds r (held.Own s) e g = set_here kinds r.number
left_here kinds r (held.Lent s) e g = cc
left_here kinds r (held.Cap t) e g = rw (← e) refl

-- once they have left, none of the registers holds an object
pub left_none : (rs : List Register) (kinds : Kinds) → all_given kinds rs ≡ true → all_none (leave_all rs kinds) rs ≡ true
left_none [] kinds g = refl
left_none (r ∷ rs) kinds g =
    rw (all_leave_none rs (leave kinds r) r.number (left_here kinds r (kind_in kinds r) refl (and_left (is_given (kind_in kinds r)) (all_given kinds rs) g)))
    (left_none rs (leave kinds r) (rest_given kinds r rs (and_right (is_given (kind_in kinds r)) (all_given kinds rs) g)))

-- results in their registers
pub put_fine : (types : Typing) (ks : List Kind) (rs : List Register) (values : List Value) (kinds : Kinds) (regs : Registers) → length ks ≡ length rs → are_values types ks values ≡ true → Fine types kinds regs → Fine types (put_all (paired ks rs) kinds) (put_values rs values regs)
put_fine types [] [] values kinds regs count are fine = fine
put_fine types [] (r ∷ rs) values kinds regs count are fine = absurd (omega arith)
put_fine types (k ∷ ks) [] values kinds regs count are fine = absurd (omega arith)
put_fine types (k ∷ ks) (r ∷ rs) [] kinds regs count are fine = absurd (cc)
put_fine types (k ∷ ks) (r ∷ rs) (v ∷ values) kinds regs count are fine =
    put_fine types ks rs values (with_kind kinds r (as_register k)) (with_value regs r (Some v)) (omega arith)
    (and_right (fits_kind types (as_register k) (Some v)) (are_values types ks values) are)
    (set_fine types kinds regs r (as_register k) (Some v) fine (and_left (fits_kind types (as_register k) (Some v)) (are_values types ks values) are))

-- whether one of these is put into a register
abbrev pub is_put : ℕ → List Write → Bool
is_put r ws = list_any (λ w. w.register.number == r) ws

length-with_kind : (kinds : Kinds) (r : Register) (k : RegKind) → length (with_kind kinds r k) ≡ length kinds
length-with_kind kinds r k = length-set kinds r.number k

pub length-put_all : (ws : List Write) (kinds : Kinds) → length (put_all ws kinds) ≡ length kinds
length-put_all [] kinds = refl
length-put_all (w ∷ ws) kinds = length-put_all ws (with_kind kinds w.register w.kind) ∙ length-with_kind kinds w.register w.kind

put_at : (kinds : Kinds) (a r : ℕ) (k : RegKind) → a < length kinds → slice_index_or (slice_set kinds a k) r held.Empty ≡ (if a == r then k else slice_index_or kinds r held.Empty)
put_at [] a r k lt = absurd (omega arith)
put_at (x ∷ kinds) zero zero k lt = refl
put_at (x ∷ kinds) zero (suc r) k lt = ap (λ (b : Bool). if b then k else slice_index_or kinds r held.Empty) (sym (ne_eqb 0 (suc r) (λ e. omega arith)))
put_at (x ∷ kinds) (suc a) zero k lt = ap (λ (b : Bool). if b then k else x) (sym (ne_eqb (suc a) 0 (λ e. omega arith)))
put_at (x ∷ kinds) (suc a) (suc r) k lt = put_at kinds a r k (omega arith) ∙ ap (λ (b : Bool). if b then k else slice_index_or kinds r held.Empty) (sym (eqb-suc-suc a r))

pub same_is : (a b : RegKind) → same_kind a b ≡ true → a ≡ b
same_is held.Empty held.Empty e = refl
same_is held.Num held.Num e = refl
same_is (held.Own s) (held.Own t) e = ap (λ n. held.Own n) (eqb-true s t e)
same_is (held.Lent s) (held.Lent t) e = ap (λ n. held.Lent n) (eqb-true s t e)
same_is (held.Cap s) (held.Cap t) e = ap (λ n. held.Cap n) (eqb-true s t e)
same_is a b e = cc

chosen : (first rest : Bool) (k here base : RegKind) → (first ≡ true → k ≡ here) → (if rest then here else (if first then k else base)) ≡ (if first || rest then here else base)
chosen true true k here base e = refl
chosen true false k here base e = e refl
chosen false true k here base e = refl
chosen false false k here base e = refl

abbrev pub all_same : Kinds → List Write → Bool
all_same kinds ws = list_all (λ w. same_kind w.kind (kind_in kinds w.register)) ws

-- where each kind that is put is the register's own
put_same : (ws : List Write) (kinds base : Kinds) (r : ℕ) → length base ≡ 32 → all_same kinds ws ≡ true → slice_index_or (put_all ws base) r held.Empty ≡ (if is_put r ws then slice_index_or kinds r held.Empty else slice_index_or base r held.Empty)
put_same [] kinds base r wide same = refl
put_same (w ∷ ws) kinds base r wide same =
    let below = w.register.below in
    let here : w.kind ≡ kind_in kinds w.register = same_is w.kind (kind_in kinds w.register) (and_left (same_kind w.kind (kind_in kinds w.register)) (all_same kinds ws) same) in
    put_same ws kinds (with_kind base w.register w.kind) r (length-with_kind base w.register w.kind ∙ wide) (and_right (same_kind w.kind (kind_in kinds w.register)) (all_same kinds ws) same)
    ∙ (ap (λ k. if is_put r ws then slice_index_or kinds r held.Empty else k) (put_at base w.register.number r w.kind (omega arith))
    ∙ chosen (w.register.number == r) (is_put r ws) w.kind (slice_index_or kinds r held.Empty) (slice_index_or base r held.Empty) (λ e. here ∙ ap (λ n. slice_index_or kinds n held.Empty) (eqb-true w.register.number r e)))

keeps_none : (b : Bool) → let none : Option Value = None in none ≡ (if b then none else none)
keeps_none true = refl
keeps_none false = refl

pub keep_at : (regs : Registers) (n r : ℕ) (among : List Register) → slice_index_or (keep_from n among regs) r None ≡ (if is_listed (n + r) among then slice_index_or regs r None else None)
keep_at [] n r among = keeps_none (is_listed (n + r) among)
keep_at (v ∷ regs) n zero among = rw add-zero refl
keep_at (v ∷ regs) n (suc r) among = keep_at regs (n + 1) r among ∙ ap (λ m. if is_listed m among then slice_index_or regs r None else None) (omega arith)

pub length-keep : (regs : Registers) (n : ℕ) (among : List Register) → length (keep_from n among regs) ≡ length regs
length-keep [] n among = refl
length-keep (v ∷ regs) n among = ap suc (length-keep regs (n + 1) among)

listed_put : (d : Domain) (items : List HeadItem) (r : ℕ) → is_put r (listed d.tables items) ≡ is_listed r (map (λ item. item.register) items)
listed_put d [] r = refl
listed_put d (x ∷ items) r = ap (λ b. (x.register.number == r) || b) (listed_put d items r)

empty_at : (n r : ℕ) → slice_index_or (replicate n held.Empty) r held.Empty ≡ held.Empty
empty_at zero r = refl
empty_at (suc n) zero = refl
empty_at (suc n) (suc r) = empty_at n r

pub length-no_kinds : length no_kinds ≡ 32
length-no_kinds = length-replicate 32 held.Empty

either_fits : (types : Typing) (b : Bool) (k : RegKind) (v : Option Value) → fits_kind types k v ≡ true → fits_kind types (if b then k else held.Empty) (if b then v else None) ≡ true
either_fits types true k v f = f
either_fits types false k v f = refl

-- registers that enter a head are of its kinds once it has emptied the others
pub head_fine : (types : Typing) (d : Domain) (items : List HeadItem) (kinds : Kinds) (regs : Registers) → enters d items kinds ≡ true → Fits types kinds regs → Fits types (head_kinds d.tables items) (kept items regs)
head_fine types d items kinds regs enter fit =
    let same = and_left (all_same kinds (listed d.tables items)) (owns_nothing (without (map (λ item. item.register) items) kinds)) enter in
    let registers = map (λ item. item.register) items in
    record {
      all = length-keep regs 0 registers ∙ fit.all;
      each = λ r.
          let k : slice_index_or (head_kinds d.tables items) r held.Empty ≡ (if is_listed r registers then slice_index_or kinds r held.Empty else held.Empty) =
          put_same (listed d.tables items) kinds no_kinds r length-no_kinds same
          ∙ (ap (λ e. if is_put r (listed d.tables items) then slice_index_or kinds r held.Empty else e) (empty_at 32 r)
          ∙ ap (λ (b : Bool). if b then slice_index_or kinds r held.Empty else held.Empty) (listed_put d items r)) in
          let v : slice_index_or (kept items regs) r None ≡ (if is_listed r registers then slice_index_or regs r None else None) =
          keep_at regs 0 r registers ∙ ap (λ m. if is_listed m registers then slice_index_or regs r None else None) (zero-add r) in
          ap (λ x. fits_kind types x (slice_index_or (kept items regs) r None)) k
          ∙ (ap (λ x. fits_kind types (if is_listed r registers then slice_index_or kinds r held.Empty else held.Empty) x) v
          ∙ either_fits types (is_listed r registers) (slice_index_or kinds r held.Empty) (slice_index_or regs r None) (fit.each r));
    }
