-- After each step script names hold what suits, and clients with frames stand at the call of the lowest of them.
use Rattle.std.proofs.Common.{◌≡◌, ◌≢◌, ℕ, true, List, Some, refl, ap, sym, subst, ◌∙◌, arith, inl, inr}
use Rattle.std.proofs.lemmas.Bool.{cases_eq, eq-eqb, ne_eqb}
use Rattle.machine_defs.specs.declared.values.Owner.{Owner}
use Rattle.machine_defs.specs.declared.entry.Entry.{Entry}
use Rattle.machine_defs.specs.declared.entry.Entry.TheVariants as entry
use Rattle.rl_defs.specs.declared.load.LoadRows.{LoadRows}
use Rattle.machine_defs.specs.State.{State, Object, Thread}
use Rattle.rl_defs.specs.Rows.{row}
use Rattle.machine_defs.specs.Loans.{object_of, sweep}
use Rattle.machine_defs.specs.Entries.{thread_of}
use Rattle.machine_defs.specs.Calling.{is_undone}
use Rattle.machine_defs.specs.Seen.{types_of}
use Rattle.rl_defs.specs.Rows.{is_target, trait_if}
use Rattle.machine_defs.specs.Steps.{Row}
use Rattle.machine_laws.specs.LedgerOf.{ledger_of}
use Rattle.machine_laws.specs.LedgerSound.{Owned}
use Rattle.machine_laws.specs.Shape.{Laid}
use Rattle.machine_laws.specs.Fitting.{NamesFit, Fitting}
use Rattle.machine_laws.specs.AtCall.{AtCall}
use Rattle.machine_laws.proofs.Objects.{found_below}
use Rattle.machine_laws.proofs.Seats.{IsIn}
use Rattle.machine_laws.proofs.Sweeps.{laid_sweep}
use Rattle.machine_laws.proofs.Types.{AnyHow, Unchanged, structs_same, stays_sweep}
use Rattle.machine_laws.proofs.LaidRows.{laid_row}
use Rattle.machine_laws.proofs.Moves.{IsNew}
use Rattle.machine_laws.proofs.StaysRows.{stays_swept, new_stays}
use Rattle.machine_laws.proofs.FrameSteps.{types_with}
use Rattle.machine_laws.proofs.NamesOwned.{name_there}
use Rattle.machine_laws.proofs.AtCalls.{at_calls_kept, at_call_swept}
use Rattle.machine_laws.proofs.Renaming.{Renamed, names_renamed, renamed_same}
use Rattle.machine_laws.proofs.Going.{Goes}
use Rattle.machine_laws.proofs.GoingRows.{types_behind, row_goes}
use Rattle.machine_laws.proofs.Parts.{struct_or_none}
use Rattle.rl_defs.specs.Valid.{Valid, AreValidTables}

module _ (L : LoadRows) (s : State) (laid : Laid L s) where
  -- objects that were there are of the same structs in the types after an entry
  types_before : (e : Entry) (z : State) → Row L s e z → (q : ℕ) → IsIn s q → (types_behind L s e).struct_of q ≡ (types_of L s).struct_of q
  types_before (entry.New t w o ty values) z r q there =
      let lt = (found_below 0 s.next_object q s.objects there.0 laid.objects there.1).1 in
      let apart : q ≢ o = λ e. omega (arith, lt, e, r.number) in
      rw (ne_eqb q o apart) refl
  types_before e z r q there = refl

  old_types : (e : Entry) (made : State) → (IsNew e → ⊥) → Row L s e made → (q : ℕ) → IsIn (sweep made) q → (types_of L (sweep made)).struct_of q ≡ (types_of L s).struct_of q
  old_types e made old r q there = structs_same L AnyHow s (sweep made) q (stays_swept L s e made laid old r) there

  new_types : (t : ℕ) (w : Owner) (o ty : ℕ) (values : List ℕ) (made : State) → Row L s (entry.New t w o ty values) made → (q : ℕ) → IsIn (sweep made) q → (types_of L (sweep made)).struct_of q ≡ (types_with L s o ty).struct_of q
  new_types t w o ty values made r q there =
      let swept = stays_sweep Unchanged (λ x. refl) L made (laid_row L s (entry.New t w o ty values) made laid r) q there.0 there.1 in
      let in_made : object_of made q ≡ Some there.0 = swept.here ∙ ap (λ x. Some x) swept.alike in
      let behind : (types_of L (sweep made)).struct_of q ≡ there.0.ty = ap (struct_or_none L) there.1 in
      behind ∙ elim (new_stays L s t w o ty values made r q there.0 in_made) [
        | inl old ↦
            let lt = (found_below 0 s.next_object q s.objects there.0 laid.objects old).1 in
            let apart : q ≢ o = λ e. omega (arith, lt, e, r.number) in
            rw (ne_eqb q o apart) (sym (ap (struct_or_none L) old))
        | inr new ↦ let is : q ≡ o = new.0 ∙ sym r.number in rw (eq-eqb q o is) (ap (λ (x : Object). x.ty) new.1)
      ]

  -- and objects that are there after it and its sweep are of the structs there
  types_after : (e : Entry) (made : State) → Row L s e made → (q : ℕ) → IsIn (sweep made) q → (types_of L (sweep made)).struct_of q ≡ (types_behind L s e).struct_of q
  types_after (entry.New t w o ty values) made r q there = new_types t w o ty values made r q there
  types_after (entry.Free o) made r q there = absurd r
  types_after other made r q there = old_types other made (λ no'. no') r q there

-- no type of a target changes
traits_behind : (L : LoadRows) (s : State) (e : Entry) (x : ℕ) → (types_behind L s e).trait_of x ≡ trait_if L (is_target L x) x
traits_behind L s (entry.New t w o ty values) x = refl
traits_behind L s e x = refl

module _ (L : LoadRows) (s : State) (plans : Valid L) (tables : AreValidTables L.tables) (laid : Laid L s) (owned : Owned L (ledger_of L s)) (fits : Fitting L s) (at : (u : ℕ) → AtCall L s u)
    (e : Entry) (made : State) (ready : is_undone (row s.threads (thread_of e)) ≡ true) (makes : Row L s e made) where
  goes : Goes L s made (thread_of e) (types_behind L s e)
  goes = row_goes L s plans tables laid owned fits at e made ready makes

  -- the names of each client fit after a row and its sweep
  pub names_fit : Owned L (ledger_of L (sweep made)) → (u : ℕ) (thread : Thread) → row (sweep made).threads u ≡ Some thread → NamesFit L (sweep made) u thread
  names_fit owned' u thread of = elim (cases_eq u (thread_of e)) [
    | inl same ↦
        let of' : row made.threads (thread_of e) ≡ Some thread = ap (row made.threads) (sym same) ∙ of in
        let new : goes.new ≡ thread = (let known = goes.turned.thread in cc (known, of')) in
        subst (λ n. NamesFit L (sweep made) n thread) (sym same) (subst (NamesFit L (sweep made) (thread_of e)) new (fit (thread_of e) goes.old goes.new goes.of goes.turned.thread goes.renamed))
    | inr apart ↦
        let of_old : row s.threads u ≡ Some thread = sym (goes.turned.other_threads u apart) ∙ of in
        fit u thread thread of_old of (renamed_same L (types_behind L s e) u thread thread refl (omega arith))
  ]
    where
      swept : Laid L (sweep made)
      swept = laid_sweep L made (laid_row L s e made laid makes)

      fit : (v : ℕ) (old new : Thread) → row s.threads v ≡ Some old → row (sweep made).threads v ≡ Some new → Renamed L (types_behind L s e) v old new → NamesFit L (sweep made) v new
      fit v old new was is renamed = names_renamed L s (sweep made) v (types_behind L s e) old new (fits.names v old was) renamed
          (λ o some. types_before L s laid e made makes o (name_there L s laid owned v old was o some))
          (λ o some. types_after L s laid e made makes o (name_there L (sweep made) swept owned' v new is o some))
          (traits_behind L s e)

  -- and each client with frames stands at the call of the lowest of them
  pub at_calls_fit : (u : ℕ) → AtCall L (sweep made) u
  at_calls_fit u = at_call_swept L made u (at_calls_kept L s made (thread_of e) goes.frames goes.new at goes.turned goes.stands u)
