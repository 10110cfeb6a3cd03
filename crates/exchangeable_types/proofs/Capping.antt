-- Kinds that are put behind others, up to a limit.
use Rattle.std.proofs.Common.{◌≡◌, ℕ, zero, suc, ◌+◌, ◌-◌, ◌*◌, ◌/◌, ◌%◌, ◌<◌, ◌≤◌, min, List, [], ◌∷◌, ◌++◌, length, take, replicate, inl, inr, refl, sym, ap, subst, ◌∙◌, arith, append_assoc, length-append}
use Rattle.std.proofs.Math.Nat.{mul-le-mul_left, div-add-mod}
use Rattle.std.proofs.lemmas.Bool.{cases_lt}
use Rattle.std.proofs.lemmas.List.{append-nil, take_all}
use Rattle.std.specs.Option.{option_to_list}
use Rattle.std.specs.Prelude.{Option, Some, None}
use Rattle.rl_defs.specs.declared.tables.Kind.{Kind}
use Rattle.rl_defs.specs.declared.idl.TypeText.{TypeText}
use Rattle.rl_defs.specs.Interfaces.{Lines, types_at}
use Rattle.rl_defs.specs.Flattening.{copies, times_of, struct_held, kind_held, Flattens, Ends}
use Rattle.rl_defs.proofs.FlatteningLaws.{length-copies, copies-nil, flattens_plain, flattens_fields}
use Rattle.exchangeable_types.specs.declared.cells.Cells.{Cells}
use Rattle.exchangeable_types.specs.declared.cells.Cells.TheVariants.{Few}
use Rattle.exchangeable_types.specs.Capped.{IsCapped, CellsOf}

-- where the counted copies are too many, so are all
pub over_more : (limit t n : ℕ) (list before kinds : List Kind) → t ≡ min 513 n → list ≡ before → limit < length list + length kinds * t → limit < length (before ++ copies n kinds)
over_more limit t n list before kinds e same over =
    let le : t ≤ n = omega arith in
    let len : length list ≡ length before = ap length same in
    omega (arith, mul-le-mul_left (length kinds) le, length-append before (copies n kinds), length-copies n kinds)

-- copies of no kind
pub no_copies : (list kinds : List Kind) (n : ℕ) → length kinds < 1 → list ≡ list ++ copies n kinds
no_copies list [] n none = sym (append-nil list) ∙ ap (λ (ks : List Kind). list ++ ks) (sym (copies-nil n))
no_copies list (k ∷ ks) n none = absurd (omega (arith, none))

-- copies of one kind
pub copies_one : (n : ℕ) (k : Kind) → replicate n k ≡ copies n (k ∷ [])
copies_one zero k = refl
copies_one (suc n) k = ap (λ (ks : List Kind). k ∷ ks) (copies_one n k)

-- one kind, so many times behind a list
pub filled : (list items more : List Kind) (k : Kind) (times whole old : ℕ) → items ≡ list → old ≡ length items → whole ≡ old + times → more ≡ take whole items ++ replicate (whole - old) k → more ≡ list ++ copies times (k ∷ [])
filled list items more k times whole old same len room is =
    let count : whole - old ≡ times = omega arith in
    is
    ∙ ap (λ (xs : List Kind). xs ++ replicate (whole - old) k) (take_all whole items (omega arith))
    ∙ ap (λ (n : ℕ). items ++ replicate n k) count
    ∙ ap (λ (xs : List Kind). items ++ xs) (copies_one times k)
    ∙ ap (λ (xs : List Kind). xs ++ copies times (k ∷ [])) same

-- copies behind copies
copies_add : (m n : ℕ) (kinds : List Kind) → copies (m + n) kinds ≡ copies m kinds ++ copies n kinds
copies_add zero n kinds = ap (λ (k : ℕ). copies k kinds) (omega arith)
copies_add (suc m) n kinds =
    let more : suc m + n ≡ suc (m + n) = omega arith in
    ap (λ (k : ℕ). copies k kinds) more ∙ ap (λ (ks : List Kind). kinds ++ ks) (copies_add m n kinds) ∙ sym (append_assoc kinds (copies m kinds) (copies n kinds))

-- copies of copies
copies_mul : (m n : ℕ) (kinds : List Kind) → copies m (copies n kinds) ≡ copies (m * n) kinds
copies_mul zero n kinds = let none : 0 ≡ zero * n = omega arith in ap (λ (k : ℕ). copies k kinds) none
copies_mul (suc m) n kinds =
    let more : n + m * n ≡ suc m * n = omega arith in
    ap (λ (ks : List Kind). copies n kinds ++ ks) (copies_mul m n kinds) ∙ sym (copies_add n (m * n) kinds) ∙ ap (λ (k : ℕ). copies k kinds) more

-- copies by blocks of 16, and the rest behind them
pub by_blocks : (times : ℕ) (kinds block old more last : List Kind) → block ≡ copies 16 kinds → more ≡ old ++ copies (times / 16) block → last ≡ more ++ copies (times % 16) kinds → last ≡ old ++ copies times kinds
by_blocks times kinds block old more last b m l =
    let whole : times / 16 * 16 + times % 16 ≡ times = omega (arith, div-add-mod times 16) in
    let blocks : copies (times / 16) block ≡ copies (times / 16 * 16) kinds = ap (λ (ks : List Kind). copies (times / 16) ks) b ∙ copies_mul (times / 16) 16 kinds in
    let both : copies (times / 16) block ++ copies (times % 16) kinds ≡ copies times kinds = ap (λ (ks : List Kind). ks ++ copies (times % 16) kinds) blocks ∙ sym (copies_add (times / 16 * 16) (times % 16) kinds) ∙ ap (λ (n : ℕ). copies n kinds) whole in
    l ∙ ap (λ (ks : List Kind). ks ++ copies (times % 16) kinds) m ∙ append_assoc old (copies (times / 16) block) (copies (times % 16) kinds) ∙ ap (λ (ks : List Kind). old ++ ks) both

-- where the counted copies are few, they are all
pub same_copies : (limit t n : ℕ) (kinds : List Kind) → limit ≤ 512 → t ≡ min 513 n → length kinds * t ≤ limit → copies t kinds ≡ copies n kinds
same_copies limit t n [] low e few = copies-nil t ∙ sym (copies-nil n)
same_copies limit t n (k ∷ ks) low e few = elim (cases_lt n 513) [
  | inl lt ↦ let same : t ≡ n = omega arith in ap (λ (m : ℕ). copies m (k ∷ ks)) same
  | inr ge ↦ let all : t ≡ 513 = omega arith in absurd (omega (arith, ap (λ (m : ℕ). length (k ∷ ks) * m) all))
]

pub few_more : (limit t n : ℕ) (list before kinds more : List Kind) → limit ≤ 512 → t ≡ min 513 n → list ≡ before → length list + length kinds * t ≤ limit → more ≡ list ++ copies t kinds → (more ≡ before ++ copies n kinds) × (length (before ++ copies n kinds) ≤ limit)
few_more limit t n list before kinds more low e same few is =
    let room : length kinds * t ≤ limit = omega arith in
    let copied = same_copies limit t n kinds low e room in
    let all : list ++ copies t kinds ≡ before ++ copies n kinds = ap (λ (xs : List Kind). xs ++ copies t kinds) same ∙ ap (λ (xs : List Kind). before ++ xs) copied in
    (is ∙ all, omega (arith, ap length all, length-append list (copies t kinds), length-copies t kinds))

-- no copy
pub none_more : (limit t n : ℕ) (before kinds : List Kind) (cells : Cells) → t ≡ min 513 n → t ≡ 0 → IsCapped limit before cells → IsCapped limit (before ++ copies n kinds) cells
none_more limit t zero before kinds cells e z h = subst (λ (xs : List Kind). IsCapped limit xs cells) (sym (append-nil before)) h
none_more limit t (suc n) before kinds cells e z h = absurd (omega arith)

-- one copy of too many is too many
pub many_more : (t n : ℕ) (before kinds : List Kind) → t ≡ min 513 n → 0 < t → 512 < length kinds → 512 < length (before ++ copies n kinds)
many_more t zero before kinds e some many = absurd (omega arith)
many_more t (suc n) before kinds e some many = omega (arith, length-append before (kinds ++ copies n kinds), length-append kinds (copies n kinds))

-- one more type that holds no struct
pub cells_plain : (lines : Lines) (limit : ℕ) (types : List TypeText) (ty : TypeText) (cells more : Cells) → struct_held lines ty ≡ None → ((before : List Kind) → IsCapped limit before cells → IsCapped limit (before ++ copies (times_of ty.wraps) (option_to_list (kind_held lines ty))) more) → CellsOf lines limit types cells → CellsOf lines limit (types ++ ty ∷ []) more
cells_plain lines limit types ty cells more plain puts h = record {
  kinds = h.kinds ++ copies (times_of ty.wraps) (option_to_list (kind_held lines ty));
  flat = flattens_plain lines types ty h.kinds plain h.flat;
  capped = puts h.kinds h.capped;
}

-- one more type that holds a struct by value
pub cells_fields : (lines : Lines) (limit : ℕ) (types : List TypeText) (ty : TypeText) (s : ℕ) (inner : List Kind) (cells more : Cells) → struct_held lines ty ≡ Some s → Flattens lines (types_at lines s) inner → ((before : List Kind) → IsCapped limit before cells → IsCapped limit (before ++ copies (times_of ty.wraps) inner) more) → CellsOf lines limit types cells → CellsOf lines limit (types ++ ty ∷ []) more
cells_fields lines limit types ty s inner cells more held flat puts h = record {
  kinds = h.kinds ++ copies (times_of ty.wraps) inner;
  flat = flattens_fields lines types ty s h.kinds inner held flat h.flat;
  capped = puts h.kinds h.capped;
}

pub no_cells : (lines : Lines) (limit : ℕ) (list : List Kind) → list ≡ [] → CellsOf lines limit [] (Few list)
no_cells lines limit list e = record { kinds = []; flat = Ends refl refl; capped = (e, omega arith) }

-- a type with no kind and no struct puts nothing behind
pub nothing_more : (lines : Lines) (limit n : ℕ) (ty : TypeText) (before : List Kind) (cells : Cells) → kind_held lines ty ≡ None → IsCapped limit before cells → IsCapped limit (before ++ copies n (option_to_list (kind_held lines ty))) cells
nothing_more lines limit n ty before cells none h =
    let same : before ++ copies n (option_to_list (kind_held lines ty)) ≡ before = ap (λ (o : Option Kind). before ++ copies n (option_to_list o)) none ∙ ap (λ (xs : List Kind). before ++ xs) (copies-nil n) ∙ append-nil before in
    subst (λ (xs : List Kind). IsCapped limit xs cells) (sym same) h

-- a type with a kind puts copies of it behind
pub kind_more : (lines : Lines) (limit n : ℕ) (ty : TypeText) (k : Kind) (before : List Kind) (more : Cells) → kind_held lines ty ≡ Some k → IsCapped limit (before ++ copies n (k ∷ [])) more → IsCapped limit (before ++ copies n (option_to_list (kind_held lines ty))) more
kind_more lines limit n ty k before more some h = subst (λ (o : Option Kind). IsCapped limit (before ++ copies n (option_to_list o)) more) (sym some) h
