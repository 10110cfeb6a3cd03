-- The rows of the structs that types hold.
use Rattle.std.proofs.Common.{◌≡◌, ℕ, zero, suc, ◌+◌, List, [], ◌∷◌, ◌++◌, length, take, add-one, Option, Some, None, refl, ap, subst, arith}
use Rattle.std.specs.Prelude.{slice_get}
use Rattle.rl_defs.specs.declared.idl.TypeText.{TypeText}
use Rattle.rl_defs.specs.declared.idl.Param.{Param}
use Rattle.rl_defs.specs.declared.tables.Kind.{Kind}
use Rattle.rl_defs.specs.declared.tables.StructRow.{StructRow}
use Rattle.rl_defs.specs.Interfaces.{Lines, StructText, structs_of, types_of, types_at, field_types, param_types}
use Rattle.rl_defs.specs.Flattening.{Flattens, Ends}
use Rattle.rl_defs.specs.TypeRules.{AreStructRows}

rows_length : (lines : Lines) (ts : List StructText) (rows : List StructRow) → AreStructRows lines ts rows → length rows ≡ length ts
rows_length lines [] [] h = refl
rows_length lines [] (r ∷ rs) h = absurd h
rows_length lines (t ∷ ts) [] h = absurd h
rows_length lines (t ∷ ts) (r ∷ rs) h = omega (arith, rows_length lines ts rs h.1)

rows_flat : (lines : Lines) (ts : List StructText) (rows : List StructRow) (s : ℕ) (row : StructRow) → AreStructRows lines ts rows → slice_get rows s ≡ Some row → Flattens lines (field_types (slice_get ts s)) row.flat
rows_flat lines [] [] s row h e = absurd cc
rows_flat lines [] (r ∷ rs) s row h e = absurd h
rows_flat lines (t ∷ ts) [] s row h e = absurd h
rows_flat lines (t ∷ ts) (r ∷ rs) zero row h e = let same : r ≡ row = cc in subst (λ (x : StructRow). Flattens lines (types_of t.fields) x.flat) same h.0.flat
rows_flat lines (t ∷ ts) (r ∷ rs) (suc s) row h e = rows_flat lines ts rs s row h.1 e

-- the row of a struct has what its fields flatten to
pub row_flat : (lines : Lines) (rows : List StructRow) (s : ℕ) (row : StructRow) → AreStructRows lines (structs_of lines) rows → slice_get rows s ≡ Some row → Flattens lines (types_at lines s) row.flat
row_flat lines rows s row h e = rows_flat lines (structs_of lines) rows s row h e

pub rows_count : (lines : Lines) (rows : List StructRow) → AreStructRows lines (structs_of lines) rows → length rows ≡ length (structs_of lines)
rows_count lines rows h = rows_length lines (structs_of lines) rows h

params_suc : (ps : List Param) (k : ℕ) (p : Param) → slice_get ps k ≡ Some p → param_types (take (suc k) ps) ≡ param_types (take k ps) ++ p.ty ∷ []
params_suc [] k p e = absurd cc
params_suc (q ∷ qs) zero p e = let same : q ≡ p = cc in ap (λ (x : Param). x.ty ∷ []) same
params_suc (q ∷ qs) (suc k) p e = ap (λ (ts : List TypeText). q.ty ∷ ts) (params_suc qs k p e)

-- one parameter more
pub params_more : (ps : List Param) (k : ℕ) (p : Param) → slice_get ps k ≡ Some p → param_types (take (k + 1) ps) ≡ param_types (take k ps) ++ p.ty ∷ []
params_more ps k p e = rw add-one (params_suc ps k p e)

missing : (lines : Lines) (ts : List StructText) (rows : List StructRow) (s : ℕ) → AreStructRows lines ts rows → slice_get rows s ≡ None → Flattens lines (field_types (slice_get ts s)) []
missing lines [] rows s h e = Ends refl refl
missing lines (t ∷ ts) [] s h e = absurd h
missing lines (t ∷ ts) (r ∷ rs) zero h e = absurd cc
missing lines (t ∷ ts) (r ∷ rs) (suc s) h e = missing lines ts rs s h.1 e

-- a struct that isn't there flattens to nothing
pub row_missing : (lines : Lines) (rows : List StructRow) (s : ℕ) → AreStructRows lines (structs_of lines) rows → slice_get rows s ≡ None → Flattens lines (types_at lines s) []
row_missing lines rows s h e = missing lines (structs_of lines) rows s h e

row_step : (lines : Lines) (rows : List StructRow) (s : ℕ) (o : Option StructRow) → AreStructRows lines (structs_of lines) rows → slice_get rows s ≡ o → (inner : List Kind) × Flattens lines (types_at lines s) inner
row_step lines rows s None h e = ([], row_missing lines rows s h e)
row_step lines rows s (Some row) h e = (row.flat, row_flat lines rows s row h e)

-- each struct flattens to something
pub each_row : (lines : Lines) (rows : List StructRow) → AreStructRows lines (structs_of lines) rows → (s : ℕ) → (inner : List Kind) × Flattens lines (types_at lines s) inner
each_row lines rows h s = row_step lines rows s (slice_get rows s) h refl
