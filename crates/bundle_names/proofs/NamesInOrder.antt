-- The names that lines declare, line by line.
use Rattle.std.proofs.Common.{◌≡◌, ℕ, ◌+◌, ◌≤◌, List, ◌++◌, length, drop, Option, Some, sym, ap, ◌∙◌, append_assoc}
use Rattle.std.specs.Prelude.{slice_get}
use Rattle.std.specs.Option.{option_to_list}
use Rattle.std.proofs.lemmas.List.{drop_all, append-nil}
use Rattle.rl_defs.specs.declared.bundle.Numbered.{Numbered}
use Rattle.rl_defs.specs.declared.idl.IdlLine.{IdlLine}
use Rattle.rl_defs.specs.Interfaces.{Lines, names_by}
use Rattle.rl_defs.proofs.Places.{drop_at}

-- The names so far and those of the lines to come are those of all lines.
pub record NamesTo (f : IdlLine → Option (List ℕ)) (lines : Lines) (k : ℕ) (names : List (List ℕ)) : Type 0 where
  pub all : names ++ names_by f (drop k lines) ≡ names_by f lines

pub names_more : (f : IdlLine → Option (List ℕ)) (lines : Lines) (k : ℕ) (names new : List (List ℕ)) (x : Numbered IdlLine) (o : Option (List ℕ)) → NamesTo f lines k names → slice_get lines k ≡ Some x → o ≡ f x.form → new ≡ names ++ option_to_list o → NamesTo f lines (k + 1) new
names_more f lines k names new x o h here is e = rw e (record {
  all = append_assoc names (option_to_list o) (names_by f (drop (k + 1) lines)) ∙ ap (λ (z : Option (List ℕ)). names ++ (option_to_list z ++ names_by f (drop (k + 1) lines))) is ∙ ap (λ (ls : Lines). names ++ names_by f ls) (sym (drop_at lines k x here)) ∙ h.all;
})

pub names_end : (f : IdlLine → Option (List ℕ)) (lines : Lines) (k : ℕ) (names : List (List ℕ)) → length lines ≤ k → NamesTo f lines k names → names ≡ names_by f lines
names_end f lines k names le h = sym (append-nil names) ∙ ap (λ (ls : Lines). names ++ names_by f ls) (sym (drop_all k lines le)) ∙ h.all
