-- What types flatten to: one list, part by part.
use Rattle.std.proofs.Common.{◌≡◌, ℕ, zero, suc, ◌+◌, ◌*◌, List, [], ◌∷◌, ◌++◌, length, Some, None, refl, sym, ap, subst, ◌∙◌, arith, add-one, append_assoc, length-append}
use Rattle.std.proofs.lemmas.List.{append-nil}
use Rattle.std.specs.Option.{option_to_list}
use Rattle.rl_defs.specs.declared.tables.Kind.{Kind}
use Rattle.rl_defs.specs.declared.tables.StructRow.{StructRow}
use Rattle.rl_defs.specs.declared.idl.Idl.{Idl}
use Rattle.rl_defs.specs.declared.idl.TypeText.{TypeText}
use Rattle.rl_defs.specs.Interfaces.{Lines, StructText, structs_of, types_at, types_of}
use Rattle.rl_defs.specs.Flattening.{struct_held, kind_held, times_of, copies, Flattens, Ends, Plain, Fields}
use Rattle.rl_defs.specs.TypeRules.{IsStructRow, AreStructRows, StructRows}

-- types flatten to one list of kinds
pub flattens_once : (lines : Lines) (types : List TypeText) (a b : List Kind) → Flattens lines types a → Flattens lines types b → a ≡ b
flattens_once lines types a b (Ends t k) (Ends t' k') = k ∙ sym k'
flattens_once lines types a b (Ends t k) (Plain ty rest more t' plain f k') = absurd cc
flattens_once lines types a b (Ends t k) (Fields ty rest s inner more t' held g f k') = absurd cc
flattens_once lines types a b (Plain ty rest more t plain f k) (Ends t' k') = absurd cc
flattens_once lines types a b (Plain ty rest more t plain f k) (Plain ty' rest' more' t' plain' f' k') =
    let same : ty ≡ ty' = cc in
    let tail : rest' ≡ rest = cc in
    let one = flattens_once lines rest more more' f (subst (λ (xs : List TypeText). Flattens lines xs more') tail f') in
    cc
flattens_once lines types a b (Plain ty rest more t plain f k) (Fields ty' rest' s inner more' t' held g f' k') =
    let same : ty ≡ ty' = cc in absurd cc
flattens_once lines types a b (Fields ty rest s inner more t held g f k) (Ends t' k') = absurd cc
flattens_once lines types a b (Fields ty rest s inner more t held g f k) (Plain ty' rest' more' t' plain f' k') =
    let same : ty ≡ ty' = cc in absurd cc
flattens_once lines types a b (Fields ty rest s inner more t held g f k) (Fields ty' rest' s' inner' more' t' held' g' f' k') =
    let same : ty ≡ ty' = cc in
    let tail : rest' ≡ rest = cc in
    let number : s' ≡ s = cc in
    let one = flattens_once lines rest more more' f (subst (λ (xs : List TypeText). Flattens lines xs more') tail f') in
    let two = flattens_once lines (types_at lines s) inner inner' g (subst (λ (n : ℕ). Flattens lines (types_at lines n) inner') number g') in
    cc

-- types one after the other flatten to their kinds one after the other
pub flattens_append : (lines : Lines) (types others : List TypeText) (a b : List Kind) → Flattens lines types a → Flattens lines others b → Flattens lines (types ++ others) (a ++ b)
flattens_append lines types others a b (Ends t k) h =
    rw (t, k) h
flattens_append lines types others a b (Plain ty rest more t plain f k) h =
    Plain ty (rest ++ others) (more ++ b) (ap (λ (xs : List TypeText). xs ++ others) t) plain (flattens_append lines rest others more b f h)
    (ap (λ (xs : List Kind). xs ++ b) k ∙ append_assoc (copies (times_of ty.wraps) (option_to_list (kind_held lines ty))) more b)
flattens_append lines types others a b (Fields ty rest s inner more t held g f k) h =
    Fields ty (rest ++ others) s inner (more ++ b) (ap (λ (xs : List TypeText). xs ++ others) t) held g (flattens_append lines rest others more b f h)
    (ap (λ (xs : List Kind). xs ++ b) k ∙ append_assoc (copies (times_of ty.wraps) inner) more b)

-- one more type that holds no struct by value
pub flattens_plain : (lines : Lines) (types : List TypeText) (ty : TypeText) (a : List Kind) → struct_held lines ty ≡ None → Flattens lines types a → Flattens lines (types ++ ty ∷ []) (a ++ copies (times_of ty.wraps) (option_to_list (kind_held lines ty)))
flattens_plain lines types ty a plain f =
    flattens_append lines types (ty ∷ []) a (copies (times_of ty.wraps) (option_to_list (kind_held lines ty))) f
    (Plain ty [] [] refl plain (Ends refl refl) (sym (append-nil (copies (times_of ty.wraps) (option_to_list (kind_held lines ty))))))

-- one more type that holds a struct by value
pub flattens_fields : (lines : Lines) (types : List TypeText) (ty : TypeText) (s : ℕ) (a inner : List Kind) → struct_held lines ty ≡ Some s → Flattens lines (types_at lines s) inner → Flattens lines types a → Flattens lines (types ++ ty ∷ []) (a ++ copies (times_of ty.wraps) inner)
flattens_fields lines types ty s a inner held g f =
    flattens_append lines types (ty ∷ []) a (copies (times_of ty.wraps) inner) f
    (Fields ty [] s inner [] refl held g (Ends refl refl) (sym (append-nil (copies (times_of ty.wraps) inner))))

pub length-copies : (n : ℕ) (kinds : List Kind) → length (copies n kinds) ≡ n * length kinds
length-copies zero kinds = omega arith
length-copies (suc n) kinds = omega (arith, length-append kinds (copies n kinds), length-copies n kinds)

pub copies-nil : (n : ℕ) → copies n [] ≡ []
copies-nil zero = refl
copies-nil (suc n) = copies-nil n

copies_suc : (n : ℕ) (kinds : List Kind) → copies (suc n) kinds ≡ copies n kinds ++ kinds
copies_suc zero kinds = append-nil kinds
copies_suc (suc n) kinds = ap (λ (xs : List Kind). kinds ++ xs) (copies_suc n kinds) ∙ sym (append_assoc kinds (copies n kinds) kinds)

pub copies_more : (n : ℕ) (kinds : List Kind) → copies (n + 1) kinds ≡ copies n kinds ++ kinds
copies_more n kinds = ap (λ (m : ℕ). copies m kinds) (add-one n) ∙ copies_suc n kinds

abbrev row_of : List ℕ → List Kind → StructRow
row_of name flat = record { name = name; flat = flat }

row_once : (lines : Lines) (t : StructText) (x y : StructRow) → IsStructRow lines t x → IsStructRow lines t y → x ≡ y
row_once lines t x y a b =
    let name : x.name ≡ y.name = a.name ∙ sym b.name in
    let flat : x.flat ≡ y.flat = flattens_once lines (types_of t.fields) x.flat y.flat a.flat b.flat in
    ap (λ (n : List ℕ). row_of n x.flat) name ∙ ap (row_of y.name) flat

rows_once : (lines : Lines) (ts : List StructText) (xs ys : List StructRow) → AreStructRows lines ts xs → AreStructRows lines ts ys → xs ≡ ys
rows_once lines [] [] [] a b = refl
rows_once lines [] [] (y ∷ ys) a b = absurd b
rows_once lines [] (x ∷ xs) ys a b = absurd a
rows_once lines (t ∷ ts) [] ys a b = absurd a
rows_once lines (t ∷ ts) (x ∷ xs) [] a b = absurd b
rows_once lines (t ∷ ts) (x ∷ xs) (y ∷ ys) a b =
    let head = row_once lines t x y a.0 b.0 in
    let tail = rows_once lines ts xs ys a.1 b.1 in
    cc

-- a part stands for one list of struct rows
pub struct_rows_once : (idl : Idl) (xs ys : List StructRow) → StructRows idl xs → StructRows idl ys → xs ≡ ys
struct_rows_once idl xs ys a b = rows_once idl.lines (structs_of idl.lines) xs ys a b
