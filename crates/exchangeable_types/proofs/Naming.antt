-- Names and their numbers, line by line.
use Rattle.std.proofs.Common.{◌≡◌, ℕ, zero, suc, ◌+◌, ◌≤◌, Bool, true, false, List, [], ◌∷◌, ◌++◌, length, take, drop, Option, Some, None, refl, sym, ap, ◌∙◌, arith, add-one, append_assoc, length-append, cond, nat_eq}
use Rattle.std.proofs.lemmas.List.{append-nil}
use Rattle.std.specs.Prelude.{slice_get, is_some}
use Rattle.std.specs.Option.{option_map, option_to_list}
use Rattle.std.specs.Cmp.Lexicographic.{pointwise}
use Rattle.rl_defs.specs.declared.bundle.Numbered.{Numbered}
use Rattle.rl_defs.specs.declared.idl.IdlLine.{IdlLine}
use Rattle.rl_defs.specs.Interfaces.{Lines, names_by, place_of}
use Rattle.rl_defs.proofs.Places.{drop_at}
use Rattle.exchangeable_types.specs.Numbering.{noted, start_before, starts_from}

names_suc : (f : IdlLine → Option (List ℕ)) (lines : Lines) (k : ℕ) (x : Numbered IdlLine) → slice_get lines k ≡ Some x → names_by f (take (suc k) lines) ≡ names_by f (take k lines) ++ option_to_list (f x.form)
names_suc f [] k x e = absurd cc
names_suc f (y ∷ ys) zero x e =
    let same : y ≡ x = cc in
    append-nil (option_to_list (f y.form)) ∙ ap (λ (z : Numbered IdlLine). option_to_list (f z.form)) same
names_suc f (y ∷ ys) (suc k) x e = ap (λ (ns : List (List ℕ)). option_to_list (f y.form) ++ ns) (names_suc f ys k x e) ∙ sym (append_assoc (option_to_list (f y.form)) (names_by f (take k ys)) (option_to_list (f x.form)))

-- the names up to the line at k
pub names_more : (f : IdlLine → Option (List ℕ)) (lines : Lines) (k : ℕ) (x : Numbered IdlLine) → slice_get lines k ≡ Some x → names_by f (take (k + 1) lines) ≡ names_by f (take k lines) ++ option_to_list (f x.form)
names_more f lines k x e = rw add-one (names_suc f lines k x e)

-- the place of a name among names with one more
pub place_of_push : (names : List (List ℕ)) (name q : List ℕ) → place_of q (names ++ name ∷ []) ≡ noted (λ p. place_of p names) name (length names) q
place_of_push [] name q = pushed_first (pointwise nat_eq name q) where
  pushed_first : (b : Bool) → cond b (Some 0) (option_map (λ k. suc k) None) ≡ cond b (Some 0) None
  pushed_first true = refl
  pushed_first false = refl
place_of_push (x ∷ xs) name q = pushed (pointwise nat_eq x q) (pointwise nat_eq name q) (place_of q xs) (place_of q (xs ++ name ∷ [])) (length xs) (place_of_push xs name q) where
  mapped : (b c : Bool) (old : Option ℕ) (n : ℕ) → option_map (λ k. suc k) (cond (is_some old) old (cond c (Some n) None)) ≡ cond (is_some (option_map (λ k. suc k) old)) (option_map (λ k. suc k) old) (cond c (Some (suc n)) None)
  mapped b c (Some k) n = refl
  mapped b true None n = refl
  mapped b false None n = refl

  pushed : (b c : Bool) (old new : Option ℕ) (n : ℕ) → new ≡ cond (is_some old) old (cond c (Some n) None) → cond b (Some 0) (option_map (λ k. suc k) new) ≡ cond (is_some (cond b (Some 0) (option_map (λ k. suc k) old))) (cond b (Some 0) (option_map (λ k. suc k) old)) (cond c (Some (suc n)) None)
  pushed true c old new n e = refl
  pushed false c old new n e = ap (option_map (λ k. suc k)) e ∙ mapped false c old n

-- the places where structs begin, from the line at k on
pub starts_more : (lines : Lines) (k : ℕ) (x : Numbered IdlLine) → slice_get lines k ≡ Some x → starts_from k (drop k lines) ≡ start_before k x.form (starts_from (k + 1) (drop (k + 1) lines))
starts_more lines k x e = ap (starts_from k) (drop_at lines k x e)

-- What a table of names keeps: the count so far, and what each look-up says.
pub record Counted (f : IdlLine → Option (List ℕ)) (lines : Lines) (k count : ℕ) (places : List ℕ → Option ℕ) : Type 0 where
  pub counts : count ≡ length (names_by f (take k lines))
  pub few : count ≤ k
  pub place : (q : List ℕ) → places q ≡ place_of q (names_by f (take k lines))

-- one more name
pub counted_more : (f : IdlLine → Option (List ℕ)) (lines : Lines) (k count : ℕ) (old new : List ℕ → Option ℕ) (x : Numbered IdlLine) (name : List ℕ) → Counted f lines k count old → slice_get lines k ≡ Some x → f x.form ≡ Some name → ((q : List ℕ) → new q ≡ noted old name count q) → Counted f lines (k + 1) (count + 1) new
counted_more f lines k count old new x name h here found step =
    let more : names_by f (take (k + 1) lines) ≡ names_by f (take k lines) ++ name ∷ [] = names_more f lines k x here ∙ ap (λ (o : Option (List ℕ)). names_by f (take k lines) ++ option_to_list o) found in
    record {
      counts = omega (arith, ap length more, length-append (names_by f (take k lines)) (name ∷ []), h.counts);
      few = omega (arith, h.few);
      place = λ q. step q ∙ ap (λ (o : Option ℕ). cond (is_some o) o (cond (pointwise nat_eq name q) (Some count) None)) (h.place q) ∙ ap (λ (n : ℕ). cond (is_some (place_of q (names_by f (take k lines)))) (place_of q (names_by f (take k lines))) (cond (pointwise nat_eq name q) (Some n) None)) h.counts ∙ sym (place_of_push (names_by f (take k lines)) name q) ∙ ap (place_of q) (sym more);
    }

-- a line that declares no name
pub counted_same : (f : IdlLine → Option (List ℕ)) (lines : Lines) (k count : ℕ) (old : List ℕ → Option ℕ) (x : Numbered IdlLine) → Counted f lines k count old → slice_get lines k ≡ Some x → f x.form ≡ None → Counted f lines (k + 1) count old
counted_same f lines k count old x h here none =
    let more : names_by f (take (k + 1) lines) ≡ names_by f (take k lines) = names_more f lines k x here ∙ ap (λ (o : Option (List ℕ)). names_by f (take k lines) ++ option_to_list o) none ∙ append-nil (names_by f (take k lines)) in
    record {
      counts = h.counts ∙ ap length (sym more);
      few = omega (arith, h.few);
      place = λ q. h.place q ∙ ap (place_of q) (sym more);
    }
