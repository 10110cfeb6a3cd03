-- What a thread's top frame holds as its own keeps its cells while other threads go on.
use Rattle.std.proofs.Common.{◌≡◌, ◌≢◌, ℕ, zero, suc, ◌+◌, ◌<◌, ◌≤◌, true, false, not, List, [], ◌∷◌, ◌++◌, length, filter, Option, Some, None, slice_set, slice_index_or, refl, sym, subst, ◌∙◌, arith, inl, inr, codes}
use Rattle.std.specs.List.{filter_map}
use Rattle.std.proofs.lemmas.Bool.{cases_Bool, eq-eqb}
use Rattle.std.proofs.lemmas.List.{length-set}
use Rattle.rl_defs.specs.declared.code.RegKind.{RegKind}
use Rattle.rl_defs.specs.declared.code.RegKind.TheVariants as held
use Rattle.rl_defs.specs.declared.load.LoadRows.{LoadRows}
use Rattle.rl_defs.specs.declared.tables.Kind.{Kind}
use Rattle.rl_defs.specs.declared.tables.Tables.{Tables}
use Rattle.rl_defs.specs.declared.values.Value.{Value}
use Rattle.rl_defs.specs.declared.values.Value.TheVariants as value
use Rattle.rl_defs.specs.CodeKinds.{Kinds, kinds_at, no_kinds, put_from}
use Rattle.rl_defs.specs.CodeNames.{struct_number, params_of, method_named, domain_trait}
use Rattle.rl_defs.specs.Valid.{Valid}
use Rattle.machine_defs.specs.declared.entry.Entry.{Entry}
use Rattle.machine_defs.specs.declared.entry.Entry.TheVariants as entry
use Rattle.machine_defs.specs.declared.values.Owner.TheVariants as owner
use Rattle.machine_defs.specs.State.{State, StackFrame, Root, is_live, stack, top}
use Rattle.rl_defs.specs.Rows.{row}
use Rattle.machine_defs.specs.Arguments.{has}
use Rattle.machine_defs.specs.Entries.{thread_of}
use Rattle.machine_defs.specs.Frames.{below_top}
use Rattle.machine_defs.specs.History.{turns_of}
use Rattle.machine_defs.specs.Loans.{count}
use Rattle.machine_defs.specs.Runs.{Run}
use Rattle.machine_defs.specs.Sound.{own_of, object_held}
use Rattle.machine_defs.specs.Steps.{Turn}
use Rattle.machine_laws.specs.Fitting.{Fitting}
use Rattle.machine_laws.specs.LedgerOf.{ledger_of}
use Rattle.machine_laws.specs.LedgerSound.{own_in}
use Rattle.machine_laws.specs.Shape.{Laid}
use Rattle.machine_laws.proofs.EachRun.{holds_run}
use Rattle.machine_laws.proofs.KeptSteps.{Kept}
use Rattle.machine_laws.proofs.LedgerRuns.{ledger_kept}
use Rattle.machine_laws.proofs.Objects.{found_below}
use Rattle.machine_laws.proofs.Owners.{top_root, top_own, is_of_le}
use Rattle.machine_laws.proofs.PlansOf.{plan_of}
use Rattle.machine_laws.proofs.Present.{own_counted, own_root, seated, stack_within}
use Rattle.machine_laws.proofs.Seats.{seats}
use Rattle.machine_laws.proofs.Stacks.{top_splits}
use Rattle.machine_laws.proofs.Sums.{sum_two}
use Rattle.machine_laws.proofs.Tops.{bottom}
use Rattle.step_laws.proofs.MadeRows.{IsMade}
use Rattle.step_laws.proofs.Naming.{Owns, changes_row}
use Rattle.step_laws.specs.StepLaws.{changes}
use Rattle.block_domain.specs.Store.{store_after, store_at}
use Rattle.block_domain.proofs.Lines.{driver}
use Rattle.block_domain.proofs.Written.{told_other}

-- at its last line a `read` knows its register to hold an object of its own
put_length : (n : ℕ) (ks : List Kind) (kinds : Kinds) → length (put_from n ks kinds) ≡ length kinds
put_length n [] kinds = refl
put_length n (k ∷ ks) kinds = put_length (n + 1) ks (slice_set kinds n _) ∙ length-set kinds n _

kind_set : (kinds : Kinds) (k : RegKind) → 1 < length kinds → slice_index_or (slice_set kinds 1 k) 1 held.Empty ≡ k
kind_set [] k lt = absurd (omega (arith, lt))
kind_set (x ∷ []) k lt = absurd (omega (arith, lt))
kind_set (x ∷ y ∷ kinds) k lt = refl

pub knows_own : (ns : List ℕ) (tables : Tables) → slice_index_or (kinds_at (driver ns tables) 8) 1 held.Empty ≡ held.Own (struct_number tables (codes "Block"))
knows_own ns tables = kind_set (kinds_at (driver ns tables) 6) (held.Own (struct_number tables (codes "Block")))
    (let e : length (kinds_at (driver ns tables) 6) ≡ 32 = put_length 0 (params_of (method_named tables (domain_trait (driver ns tables)) (codes "read"))) no_kinds in omega (arith, e))

-- an object in a register that wasn't lent is the frame's own
pub own_in_register : (lent : List ℕ) (regs : List (Option Value)) (r o : ℕ) → slice_index_or regs r None ≡ Some (value.Obj o) → has lent o ≡ false → 0 < count o (filter (λ p. not (has lent p)) (filter_map object_held regs))
own_in_register lent [] r o is unlent = absurd cc
own_in_register lent (v ∷ regs) zero o is unlent = let e : v ≡ Some (value.Obj o) = is in rw e (rw unlent (rw (eq-eqb o o refl) (omega arith)))
own_in_register lent (v ∷ regs) (suc r) o is unlent = go v (own_in_register lent regs r o is unlent)
  where
    go : (w : Option Value) → 0 < count o (filter (λ p. not (has lent p)) (filter_map object_held regs)) → 0 < count o (filter (λ p. not (has lent p)) (filter_map object_held (w ∷ regs)))
    go (Some (value.Obj q)) deeper = elim (cases_Bool (has lent q)) [
      | inl a ↦ rw a (omega (arith, deeper))
      | inr a ↦ rw a (omega (arith, deeper))
    ]
    go other deeper = deeper

-- what is known of a state of a run
pub record Facts (L : LoadRows) (us : List Turn) (s : State) : Type 0 where
  pub laid : Laid L s
  pub fits : Fitting L s
  pub kept : Kept L us (ledger_of L s)

pub facts_of : (L : LoadRows) (H : List Entry) (s : State) → Valid L → Run L H s → Facts L (turns_of H) s
facts_of L H s valid run =
    let holds = holds_run L valid valid.tables H s run in
    record { laid = holds.laid; fits = holds.fits; kept = (ledger_kept L (turns_of H) (ledger_of L s) (plan_of L valid) holds.run).0 }

module _ (L : LoadRows) (us : List Turn) (s : State) (facts : Facts L us s) (t o : ℕ) (f : StackFrame) (on_top : top (stack s t) ≡ Some f) (lives : is_live s f.instance ≡ true) (mine : 0 < count o (own_of f)) where
  split : stack s t ≡ below_top (stack s t) ++ f ∷ []
  split = top_splits (stack s t) f on_top

  root : seats s o ≡ Some (Root (owner.Instance f.instance))
  root = own_root L s facts.laid facts.kept.owned t o (below_top (stack s t)) [] f split lives mine

  -- it is there, and so its number is used
  pub below_next : o < s.next_object
  below_next = let x = seated s o (Root (owner.Instance f.instance)) root in (found_below 0 s.next_object o s.objects x.0 facts.laid.objects x.1).1

  -- no other thread has it
  no_other : (u : ℕ) → u ≢ t → Owns L (ledger_of L s) u o → ⊥
  no_other u ne owns =
      let own = facts.kept.owned in
      let theirs = top_root L (ledger_of L s) own u owns.frame owns.below owns.runs o owns.own in
      let party : owns.frame.party ≡ owner.Instance f.instance = (let e = sym theirs ∙ root in cc) in
      let w = stack_within L s facts.laid own t (below_top (stack s t)) [] f split in
      let here : count o (own_of f) ≤ own_in (owner.Instance f.instance) o ((ledger_of L s).stack t) = rw split (own_counted o (below_top (stack s t)) [] f (bottom t (row s.threads t) ∷ [])) in
      let there' = top_own L (ledger_of L s) own u owns.frame owns.below owns.runs o owns.own in
      let there : count o owns.frame.own ≤ own_in (owner.Instance f.instance) o ((ledger_of L s).stack u) = subst (λ w. count o owns.frame.own ≤ own_in w o ((ledger_of L s).stack u)) party there' in
      let two = sum_two (λ k. own_in (owner.Instance f.instance) o ((ledger_of L s).stack k)) (length L.clients) u t owns.runs.some owns.runs.within w.0 w.1 ne in
      let once = own.once (owner.Instance f.instance) o lives in
      let small = is_of_le (owner.Instance f.instance) ((ledger_of L s).seat o) in
      let some = owns.own in
      omega (arith, here, there, two, once, small, mine, some)

  -- so it keeps its cells while another thread acts
  pub cells_kept : (e : Entry) (made : State) → thread_of e ≢ t → IsMade L s e made → (Rattle.machine_defs.specs.Steps.Row L s e made) → (store_after L e (store_at L us)).objects o ≡ (store_at L us).objects o
  cells_kept e made ne m makes = by_entry e ne m makes
    where
      untouched : (e : Entry) → thread_of e ≢ t → IsMade L s e made → (q : ℕ) → has (changes e) q ≡ true → o ≢ q
      untouched e ne m q among is = no_other (thread_of e) ne (changes_row L (ledger_of L s) facts.kept.owned e (ledger_of L made) m.row o (subst (λ n. has (changes e) n ≡ true) (sym is) among))

      alone : (q : ℕ) → has (q ∷ []) q ≡ true
      alone q = rw (eq-eqb q q refl) refl

      by_entry : (e : Entry) → thread_of e ≢ t → IsMade L s e made → Rattle.machine_defs.specs.Steps.Row L s e made → (store_after L e (store_at L us)).objects o ≡ (store_at L us).objects o
      by_entry (entry.New u w q ty values) ne m makes = told_other q _ (store_at L us).objects o (λ e. (let lt = below_next in let number = makes.number in omega (arith, lt, number, e)))
      by_entry (entry.Set u q place values) ne m makes = told_other q _ (store_at L us).objects o (untouched (entry.Set u q place values) ne m q (alone q))
      by_entry (entry.DevGet u q b) ne m makes = told_other q _ (store_at L us).objects o (untouched (entry.DevGet u q b) ne m q (alone q))
      by_entry other ne m makes = refl
