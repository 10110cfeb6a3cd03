-- What a frame sees is of the types of the state.
use Rattle.std.proofs.Common.{◌≡◌, ◌≢◌, ℕ, zero, suc, ◌<◌, ◌≤◌, ◌==◌, Bool, true, List, [], ◌∷◌, length, find, Option, Some, None, slice_get, is_some, refl, ap, subst, arith, inl, inr}
use Rattle.std.specs.List.{slice_index_or}
use Rattle.std.proofs.lemmas.Bool.{cases_Bool, eq-eqb, ne_eqb, eqb-true, and_parts}
use Rattle.std.proofs.lemmas.Option.{slice_get_past, slice_get-get_or}
use Rattle.rl_defs.specs.declared.tables.Kind.{Kind}
use Rattle.rl_defs.specs.declared.tables.Kind.TheVariants as kind
use Rattle.rl_defs.specs.declared.code.RegKind.TheVariants as held
use Rattle.rl_defs.specs.declared.load.LoadRows.{LoadRows}
use Rattle.rl_defs.specs.CodeNames.{cells_of, imports, trait_number, type_at}
use Rattle.rl_defs.specs.CodeKinds.{hung_at}
use Rattle.machine_defs.specs.CodeFits.{FitsSight, is_number_cell}
use Rattle.machine_defs.specs.State.{State, Instance, Object, Placement, Root, Hung, is_live}
use Rattle.rl_defs.specs.Rows.{row}
use Rattle.machine_defs.specs.Loans.{object_of}
use Rattle.machine_defs.specs.State.{instance_load}
use Rattle.machine_defs.specs.Objects.{kinds_of, if_number, number_cell, hangs_in, hung_in}
use Rattle.machine_defs.specs.Seen.{domain_of_instance, words, seen}
use Rattle.rl_defs.specs.Rows.{binds}
use Rattle.machine_defs.specs.Seen.{types_of}
use Rattle.rl_defs.proofs.ValidFacts.{bind_trait, binds_count, domain_tables, few_words}
use Rattle.machine_laws.specs.Shape.{Rises, Laid}
use Rattle.machine_laws.specs.Fitting.{Fitting}
use Rattle.machine_laws.proofs.Objects.{found, found_above}
use Rattle.machine_laws.proofs.Instances.{live_there}
use Rattle.machine_laws.proofs.Retyping.{kinds_by_struct}
use Rattle.machine_laws.proofs.Parts.{number_of_object, words_in, struct_or_none}
use Rattle.rl_defs.specs.Valid.{Valid}

-- an object that is found by a test is found by its number
pub found_self : (n next : ℕ) (test : Object → Bool) (xs : List Object) (x : Object) → Rises n next xs → find test xs ≡ Some x → (found x.number xs ≡ Some x) × (test x ≡ true)
found_self n next test [] x rises is = absurd cc
found_self n next test (y ∷ xs) x rises is = elim (cases_Bool (test y)) [
  | inl yes' ↦
      let e : Some y ≡ Some x = rw yes' at is in
      let same : y ≡ x = cc in
      subst (λ z. (found z.number (y ∷ xs) ≡ Some z) × (test z ≡ true)) same (rw (eq-eqb y.number y.number refl) refl, yes')
  | inr no' ↦
      let r = found_self y.number next test xs x rises.2 (rw no' at is) in
      let apart : y.number ≢ x.number = λ e. (let none = found_above y.number next x.number xs rises.2 (omega (arith, e)) in let h = r.0 in cc) in
      (rw (ne_eqb y.number x.number apart) r.0, r.1)
]

-- what hangs in a cell
pub hung_there : (L : LoadRows) (s : State) (o at v : ℕ) → Laid L s → hung_in s o at ≡ Some v → (x : Object) × (object_of s v ≡ Some x) × (x.placement ≡ Hung o at)
hung_there L s o at v laid is = go (find (λ x. hangs_in o at x.placement) s.objects) refl
  where
    place : (p : Placement) → hangs_in o at p ≡ true → p ≡ Hung o at
    place (Root w) e = absurd cc
    place (Hung q k) e =
        let parts = and_parts (q == o) (k == at) e in
        let a = eqb-true q o parts.0 in
        let b = eqb-true k at parts.1 in
        rw (a, b) refl

    go : (found' : Option Object) → find (λ x. hangs_in o at x.placement) s.objects ≡ found' → (x : Object) × (object_of s v ≡ Some x) × (x.placement ≡ Hung o at)
    go None e = absurd (let h : number_of_object None ≡ Some v = rw e at is in cc)
    go (Some x) e =
        let h : number_of_object (Some x) ≡ Some v = rw e at is in
        let number : x.number ≡ v = cc in
        let r = found_self 0 s.next_object (λ y. hangs_in o at y.placement) s.objects x laid.objects e in
        (x, subst (λ n. object_of s n ≡ Some x) number r.0, place x.placement r.1)

-- a cell shows a number exactly where its struct has one there
number_there : (kinds : List Kind) (cells : List ℕ) (at : ℕ) → length cells ≡ length kinds → is_some (if_number (slice_get kinds at) (slice_get cells at)) ≡ is_number_cell (slice_get kinds at)
number_there [] cells at same = refl
number_there (k ∷ kinds) [] at same = absurd (omega (arith, same))
number_there (kind.Num w ∷ kinds) (n ∷ cells) zero same = refl
number_there (kind.Own ty ∷ kinds) (n ∷ cells) zero same = refl
number_there (kind.Lent ty ∷ kinds) (n ∷ cells) zero same = refl
number_there (kind.Cap t ∷ kinds) (n ∷ cells) zero same = refl
number_there (k ∷ kinds) (n ∷ cells) (suc at) same = number_there kinds cells at (omega (arith, same))

pub sees : (L : LoadRows) (s : State) (i : ℕ) → Valid L → Laid L s → Fitting L s → is_live s i ≡ true → FitsSight (types_of L s) (domain_of_instance L s i) (seen L s i)
sees L s i plans laid fits lives = record {
  types_same = refl;
  cells = λ o at. rw (domain_tables L plans (instance_load s i)) (cell o at (object_of s o) refl);
  words = λ at le. slice_get_past (words s i) at (let w = wide in omega (arith, w, le));
  slots = λ k o is. rw (domain_tables L plans (instance_load s i)) (fits.slots i k o lives is);
  hung = λ o at v is. rw (domain_tables L plans (instance_load s i)) (hung o at v is);
  bound = λ k lt. rw (domain_tables L plans (instance_load s i)) (bound k lt);
}
  where
    instance : (x : Instance) × (row s.instances i ≡ Some x)
    instance = live_there s i lives

    wide : length (words s i) ≤ 4096
    wide =
        let x = instance.0 in
        let f = fits.instances i x instance.1 in
        let few = few_words L plans x.load in
        let here : words s i ≡ x.words = ap words_in instance.1 in
        rw here (let e = f.words in omega (arith, e, few))

    cell : (o at : ℕ) (x : Option Object) → object_of s o ≡ x → is_some (number_cell L s o at) ≡ is_number_cell (slice_get (cells_of L.tables ((types_of L s).struct_of o)) at)
    cell o at None e = rw (← kinds_by_struct L s o) (rw e refl)
    cell o at (Some x) e = rw (← kinds_by_struct L s o) (rw e (number_there (kinds_of L (Some x)) x.cells at (fits.objects o x e).cells))

    hung : (o at v : ℕ) → hung_in s o at ≡ Some v → hung_at L.tables (held.Own ((types_of L s).struct_of o)) at ≡ Some ((types_of L s).struct_of v)
    hung o at v is =
        let r = hung_there L s o at v laid is in
        let x = r.0 in
        let k = (fits.objects v x r.1).hung o at r.2 in
        let k' : slice_get (cells_of L.tables ((types_of L s).struct_of o)) at ≡ Some (kind.Own x.ty) = rw (kinds_by_struct L s o) at k in
        let ty : (types_of L s).struct_of v ≡ x.ty = ap (struct_or_none L) r.1 in
        rw (k', ty) refl

    bound : (k : ℕ) → k < length (imports (domain_of_instance L s i).lines) → (types_of L s).trait_of (slice_index_or (binds L (instance_load s i)) k 0) ≡ trait_number L.tables (type_at (imports (domain_of_instance L s i).lines) (Some k))
    bound k lt =
        let count = binds_count L plans (instance_load s i) in
        bind_trait L plans (instance_load s i) k (slice_index_or (binds L (instance_load s i)) k 0) (slice_get-get_or (binds L (instance_load s i)) k 0 (omega (arith, count, lt)))
