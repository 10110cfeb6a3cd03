-- The registers that a head keeps, put into empty ones; results put into registers; arguments put into the first ones.
use Rattle.std.proofs.Common.{◌≡◌, refl, sym, ◌∙◌, ap, ℕ, zero, suc, ◌+◌, ◌-◌, ◌<◌, ◌≤◌, ◌==◌, Bool, true, false, ◌||◌, List, [], ◌∷◌, ◌++◌, length, map, take, drop, Option, Some, None, arith, zero-add, add-one}
use Rattle.std.specs.Prelude.{slice_set, replicate, if◌then◌else◌}
use Rattle.std.specs.List.{slice_index_or}
use Rattle.std.proofs.Math.ListN.{length-set, drop_of_length-le}
use Rattle.std.proofs.lemmas.List.{length-replicate}
use Rattle.std.proofs.lemmas.Bool.{eqb-true, ne_eqb}
use lib.Dec.{eqb-suc-suc}
use Rattle.machine_defs.specs.declared.values.Arg.{Arg}
use Rattle.rl_defs.specs.declared.values.Value.{Value}
use Rattle.rl_defs.specs.declared.code.Register.{Register}
use Rattle.rl_defs.specs.declared.code.HeadItem.{HeadItem}
use Rattle.machine_defs.specs.Arguments.{value_of}
use Rattle.rl_defs.specs.Registers.{Registers, value_in, with_value, is_listed, kept}
use Rattle.machine_defs.specs.Instructions.{put_values}
use Rattle.machine_defs.proofs.CodeRegisters.{keep_at, length-keep}

-- the listed registers of one frame, put into another
abbrev pub put_back : List HeadItem → Registers → Registers → Registers
put_back [] before regs = regs
put_back (x ∷ items) before regs = put_back items before (with_value regs x.register (value_in before x.register))

abbrev registers_of : List HeadItem → List Register
registers_of items = map (λ item. item.register) items

value_at : (base : Registers) (a r : ℕ) (v : Option Value) → a < length base → slice_index_or (slice_set base a v) r None ≡ (if a == r then v else slice_index_or base r None)
value_at [] a r v lt = absurd (omega arith)
value_at (x ∷ base) zero zero v lt = refl
value_at (x ∷ base) zero (suc r) v lt = ap (λ (b : Bool). if b then v else slice_index_or base r None) (sym (ne_eqb 0 (suc r) (λ e. omega arith)))
value_at (x ∷ base) (suc a) zero v lt = ap (λ (b : Bool). if b then v else x) (sym (ne_eqb (suc a) 0 (λ e. omega arith)))
value_at (x ∷ base) (suc a) (suc r) v lt = value_at base a r v (omega arith) ∙ ap (λ (b : Bool). if b then v else slice_index_or base r None) (sym (eqb-suc-suc a r))

chosen : (first rest : Bool) (v here base : Option Value) → (first ≡ true → v ≡ here) → (if rest then here else (if first then v else base)) ≡ (if first || rest then here else base)
chosen true true v here base e = refl
chosen true false v here base e = e refl
chosen false true v here base e = refl
chosen false false v here base e = refl

back_at : (items : List HeadItem) (before base : Registers) (r : ℕ) → length base ≡ 32 → slice_index_or (put_back items before base) r None ≡ (if is_listed r (registers_of items) then slice_index_or before r None else slice_index_or base r None)
back_at [] before base r wide = refl
back_at (x ∷ items) before base r wide =
    let below = x.register.below in
    let v = value_in before x.register in
    back_at items before (with_value base x.register v) r (length-set base x.register.number v ∙ wide)
    ∙ (ap (λ k. if is_listed r (registers_of items) then slice_index_or before r None else k) (value_at base x.register.number r v (omega arith))
    ∙ chosen (x.register.number == r) (is_listed r (registers_of items)) v (slice_index_or before r None) (slice_index_or base r None) (λ e. ap (λ n. slice_index_or before n None) (eqb-true x.register.number r e)))

length-put_back : (items : List HeadItem) (before base : Registers) → length (put_back items before base) ≡ length base
length-put_back [] before base = refl
length-put_back (x ∷ items) before base = length-put_back items before (with_value base x.register (value_in before x.register)) ∙ length-set base x.register.number (value_in before x.register)

none_at : (n r : ℕ) → let none : Option Value = None in slice_index_or (replicate n none) r none ≡ none
none_at zero r = refl
none_at (suc n) zero = refl
none_at (suc n) (suc r) = none_at n r

same_all : (xs ys : Registers) → length xs ≡ length ys → ((r : ℕ) → slice_index_or xs r None ≡ slice_index_or ys r None) → xs ≡ ys
same_all [] [] count each = refl
same_all [] (y ∷ ys) count each = absurd (omega arith)
same_all (x ∷ xs) [] count each = absurd (omega arith)
same_all (x ∷ xs) (y ∷ ys) count each =
    let here : x ≡ y = each 0 in
    let rest : xs ≡ ys = same_all xs ys (omega arith) (λ r. each (suc r)) in
    cc

-- what a head keeps is what it lists
pub kept_is : (items : List HeadItem) (before : Registers) → length before ≡ 32 → put_back items before (replicate 32 None) ≡ kept items before
kept_is items before wide =
    let registers = registers_of items in
    same_all (put_back items before (replicate 32 None)) (kept items before)
    (length-put_back items before (replicate 32 None) ∙ (length-replicate {A = Option Value} 32 None ∙ sym (length-keep before 0 registers ∙ wide)))
    (λ r.
    back_at items before (replicate 32 None) r (length-replicate {A = Option Value} 32 None)
    ∙ (ap (λ k. if is_listed r registers then slice_index_or before r None else k) (none_at 32 r)
    ∙ sym (keep_at before 0 r registers ∙ ap (λ m. if is_listed m registers then slice_index_or before r None else None) (zero-add r))))

put_none : (rs : List Register) (regs : Registers) → put_values rs [] regs ≡ regs
put_none [] regs = refl
put_none (r ∷ rs) regs = refl

-- where there are no more results, they are all put
pub values_stop : (rs : List Register) (values : List Value) (n : ℕ) (regs all : Registers) → length values ≤ n → put_values (drop n rs) (drop n values) regs ≡ all → regs ≡ all
values_stop rs values n regs all le same = sym (put_none (drop n rs) regs) ∙ (sym (ap (λ xs. put_values (drop n rs) xs regs) (drop_of_length-le values le)) ∙ same)

abbrev held_by : Arg → Option Value
held_by a = Some (value_of a)

set_args : (args : List Arg) (n j : ℕ) (d : Arg) → n < length args → slice_set (map held_by (take n args) ++ replicate (suc j) None) n (held_by (slice_index_or args n d)) ≡ map held_by (take (suc n) args) ++ replicate j None
set_args [] n j d lt = absurd (omega arith)
set_args (a ∷ args) zero j d lt = refl
set_args (a ∷ args) (suc n) j d lt = ap (λ xs. held_by a ∷ xs) (set_args args n j d (omega arith))

-- one argument more in its register
pub set_arg : (args : List Arg) (n : ℕ) (d : Arg) (regs : Registers) → n < length args → length args ≤ 32 → regs ≡ map (λ a. Some (value_of a)) (take n args) ++ replicate (32 - n) None → slice_set regs n (Some (value_of (slice_index_or args n d))) ≡ map (λ a. Some (value_of a)) (take (n + 1) args) ++ replicate (32 - (n + 1)) None
set_arg args n d regs lt le is =
    let more : 32 - n ≡ suc (32 - (n + 1)) = omega arith in
    ap (λ xs. slice_set xs n (held_by (slice_index_or args n d))) (is ∙ ap (λ k. map held_by (take n args) ++ replicate k None) more)
    ∙ (set_args args n (32 - (n + 1)) d lt ∙ ap (λ m. map held_by (take m args) ++ replicate (32 - (n + 1)) None) (sym (add-one n)))

-- once all listed registers are put back, the registers are those that the head keeps
pub keep_ends : (items : List HeadItem) (n : ℕ) (before old regs : Registers) → length items ≤ n → put_back (drop n items) before regs ≡ put_back items before (replicate 32 None) → before ≡ old → length old ≡ 32 → regs ≡ kept items old
keep_ends items n before old regs le same is wide =
    sym (ap (λ xs. put_back xs before regs) (drop_of_length-le items le))
    ∙ (same ∙ (ap (λ b. put_back items b (replicate 32 None)) is ∙ kept_is items old wide))
