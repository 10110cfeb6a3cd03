-- What every step keeps holds at the start.
use Rattle.std.proofs.Common.{◌≡◌, ℕ, ◌<◌, ◌≤◌, true, not, [], ◌∷◌, Option, Some, None, refl, ap, sym, arith, inl, inr, slice_get, length}
use Rattle.std.proofs.lemmas.Bool.{cases_Bool}
use Rattle.machine_defs.specs.declared.values.Owner.{Owner}
use Rattle.machine_defs.specs.declared.values.Owner.TheVariants as owner
use Rattle.rl_defs.specs.declared.load.LoadRows.{LoadRows}
use Rattle.rl_defs.specs.Domains.{load_of_target}
use Rattle.machine_defs.specs.State.{start}
use Rattle.machine_defs.specs.Seen.{slots}
use Rattle.machine_defs.specs.Report.{same_owner}
use Rattle.machine_laws.specs.Ledger.{Ledger, lent_in}
use Rattle.machine_laws.specs.LedgerOf.{ledger_of}
use Rattle.machine_laws.specs.LedgerSound.{own_in, held, Owned, Placed, IsPlan}
use Rattle.machine_laws.proofs.Calls.{calls_of, CallsAgree}
use Rattle.machine_laws.proofs.OwnerRows.{sum_none, slots_empty}
use Rattle.machine_laws.proofs.HeapRows.{HeapAgrees}
use Rattle.machine_laws.proofs.CellRows.{CellsAgree}
use Rattle.machine_laws.proofs.Contents.{ContentsAgree}
use Rattle.machine_laws.proofs.Ranks.{is_entered, Ranks}
use Rattle.machine_laws.proofs.CountedCalls.{times_open, Counted}
use Rattle.machine_laws.proofs.KeptSteps.{Kept}
use Rattle.machine_laws.proofs.Start.{next_first, load_first, live_first, dead_past, word_first, slot_first, first_frame, stack_first, current_first, left_first}
use Rattle.machine_laws.proofs.Parts.{content}

module _ (L : LoadRows) where
  -- the ledger of the start
  abbrev pub first : Ledger
  first = ledger_of L (start L)

  own_none : (w : Owner) (o t : ℕ) → own_in w o (first.stack t) ≡ 0
  own_none w o t = rw (stack_first L t) (elim (cases_Bool (same_owner w (owner.Client t))) [ inl e ↦ rw e refl | inr e ↦ rw e refl ])

  lent_none : (o t : ℕ) → lent_in o (first.stack t) ≡ 0
  lent_none o t = rw (stack_first L t) refl

  held_none : (w : Owner) (o : ℕ) → held L first w o ≡ 0
  held_none (owner.Client u) o = let z = sum_none (λ t. own_in (owner.Client u) o (first.stack t)) (length L.clients) (λ t a b. own_none (owner.Client u) o t) in omega arith
  held_none (owner.Instance i) o =
      let z = sum_none (λ t. own_in (owner.Instance i) o (first.stack t)) (length L.clients) (λ t a b. own_none (owner.Instance i) o t) in
      let y = slots_empty o (slots (start L) i) (λ k. slot_first L i k o) in
      omega arith

  owned_first : Owned L first
  owned_first = record {
    once = λ w o lives. held_none w o;
    rest = λ w o is. absurd (cc (is));
    hung = λ o p k is. absurd (cc (is));
    cell = λ o q p k is. absurd (cc (is));
    lent = λ o some. absurd (let z = sum_none (λ t. lent_in o (first.stack t)) (length L.clients) (λ t a b. lent_none o t) in omega arith);
    stacks = λ t u o some. absurd (let z = lent_none o t in omega arith);
    within = λ t o some. absurd (let z = lent_none o t in omega arith);
    covered = λ t. rw (stack_first L t) ((λ o w some is. absurd (cc (is))), tt);
    fresh = λ o le. refl;
  }

  within_loads : (i : ℕ) → i < first.next_instance → i ≤ length L.loads
  within_loads i lt = let e = next_first L in omega arith

  placed_first : IsPlan L → Placed L first
  placed_first plan = record {
    grounded = λ t pos le. rw (stack_first L t) (refl, refl, omega arith);
    small = λ t pos le. rw (stack_first L t) (omega arith);
    current_of = λ x. rw (current_first L x) (let l = plan.targets x in (let e = next_first L in omega arith, load_first L (load_of_target L x) l));
    unopened = λ i le. dead_past L i (let e = next_first L in omega arith);
    no_instance = refl;
    no_load = refl;
    some_load = λ i pos lt. (let e = load_first L i (within_loads i lt) in omega arith);
    owners = λ o i is. absurd (cc (is));
    parents = λ o p k is. absurd (cc (is));
    zero_free = refl;
    some_object = omega arith;
  }

  calls_first : CallsAgree L [] first
  calls_first = record {
    opens = λ t pos le. rw (stack_first L t) refl;
    ends = λ i pos lt. ap not (sym (live_first L i pos (within_loads i lt)));
    never = λ i le. refl;
    currents = λ x. sym (current_first L x);
    calls = refl;
    instances = (let e = next_first L in omega arith);
    reloads = λ x. (let e = left_first L x in omega arith);
  }

  heap_first : HeapAgrees [] first
  heap_first = record {
    made = refl;
    root = λ o w is. absurd (cc (is));
    hung = λ o p k is. absurd (cc (is));
    away = λ o pos lt. absurd (omega arith);
    unborn = λ o high. (refl, refl);
  }

  cells_first : CellsAgree [] first
  cells_first = record { full = λ v p k is. absurd (cc (is)); stays = λ v p k x there is. absurd (cc (is)); unmade = λ p k high. refl }

  empty_slot : (i k : ℕ) (x : Option (Option ℕ)) → slice_get (slots (start L) i) k ≡ x → None ≡ content x
  empty_slot i k None is = refl
  empty_slot i k (Some None) is = refl
  empty_slot i k (Some (Some o)) is = absurd (slot_first L i k o is)

  contents_first : ContentsAgree L [] first
  contents_first = record {
    words_told = λ i k lt. sym (word_first L i k);
    slots_told = λ i k name lt is. empty_slot i k (slice_get (slots (start L) i) k) refl;
    no_words = λ i k le. refl;
    no_slots = λ i name le. refl;
  }

  ranks_first : Ranks L first
  ranks_first = record {
    ranked = λ t pos le. rw (stack_first L t) ((λ serial. tt), tt);
    alone = λ t u i pt lt pu lu lives serial e. absurd (let e' : is_entered i (first_frame L t ∷ []) ≡ true = rw (stack_first L t) at e in cc (e'));
  }

  counted_first : Counted L [] first
  counted_first = record {
    even = λ c. (let none = sum_none (λ t. times_open c (calls_of (first.stack t))) (length L.clients) (λ t a b. rw (stack_first L t) refl) in omega arith);
    later = λ c le. refl;
    at_most = λ c. omega arith;
    emptied = λ t done. (first_frame L t, stack_first L t);
  }

  pub start_kept : IsPlan L → Kept L [] first
  start_kept plan = record {
    owned = owned_first;
    placed = placed_first plan;
    ranks = ranks_first;
    calls = calls_first;
    heap = heap_first;
    cells = cells_first;
    contents = contents_first;
    counted = counted_first;
  }
