-- Objects that are doomed are freed, and the others stay; and a quiet step frees none.
use Rattle.std.proofs.Common.{◌≡◌, ℕ, suc, cond, not, Bool, true, false, List, [], ◌∷◌, map, filter, Some, slice_get, refl, ap, sym, ◌∙◌}
use Rattle.rl_defs.specs.declared.load.LoadRows.{LoadRows}
use Rattle.machine_defs.specs.declared.entry.Entry.{Entry}
use Rattle.machine_defs.specs.declared.entry.Entry.TheVariants as entry
use Rattle.machine_defs.specs.State.{State, Object}
use Rattle.machine_defs.specs.Loans.{is_doomed}
use Rattle.machine_laws.specs.LedgerOf.{ledger_of}
use Rattle.machine_laws.proofs.Stacks.{doomed_same}
use Rattle.step_laws.specs.StepLaws.{DoomsBy, FreesBy, FreesNothing, QuietStepsFreeNothing, KillsAgain, KillsAgainFreeNothing, DoomedAreFreed, ObjectsAreFound}
use Rattle.step_laws.proofs.LedgerQuiet.{EndsNothing, quiet_row, again_row, undoomed}
use Rattle.step_laws.proofs.MadeRows.{IsMade, IsEach, made_row, each_found}

-- tests that agree on a list, and one that no item passes
filter_alike : {A : Type 0} (p q : A → Bool) (xs : List A) → ((k : ℕ) (x : A) → slice_get xs k ≡ Some x → p x ≡ q x) → filter p xs ≡ filter q xs
filter_alike p q [] each = refl
filter_alike p q (x ∷ xs) each = rw (each 0 x refl) (ap (λ ys. cond (q x) (x ∷ ys) ys) (filter_alike p q xs (λ k y is. each (suc k) y is)))

filter_none : {A : Type 0} (xs : List A) → filter (λ x. false) xs ≡ []
filter_none [] = refl
filter_none (x ∷ xs) = filter_none xs

filter_all : {A : Type 0} (xs : List A) → filter (λ x. true) xs ≡ xs
filter_all [] = refl
filter_all (x ∷ xs) = ap (λ ys. x ∷ ys) (filter_all xs)

pub frees_by : (made : State) (test : Object → Bool) → IsEach made.objects → DoomsBy made test → FreesBy made test
frees_by made test each dooms = record {
  frees = ap (λ (xs : List Object). map (λ (x : Object). x.number) xs) (filter_alike (is_doomed made) test made.objects (λ k x is. dooms x (each k x is)));
  stays = ap (λ (xs : List Object). record made { objects = xs }) (filter_alike (λ x. not (is_doomed made x)) (λ x. not (test x)) made.objects (λ k x is. ap not (dooms x (each k x is))));
}

pub frees_nothing : (made : State) → IsEach made.objects → DoomsBy made (λ x. false) → FreesNothing made
frees_nothing made each spared =
    let none = frees_by made (λ x. false) each spared in
    record {
      frees = none.frees ∙ ap (λ (xs : List Object). map (λ (x : Object). x.number) xs) (filter_none made.objects);
      stays = none.stays ∙ ap (λ (xs : List Object). record made { objects = xs }) (filter_all made.objects);
    }

pub objects_found : ObjectsAreFound
objects_found L H s made e valid run enabled row = each_found 0 made.next_object made.objects (made_row L H s made e valid run enabled row).behind.objects

pub doomed_freed : DoomedAreFreed
doomed_freed L H s made e valid run enabled row test dooms = frees_by made test (objects_found L H s made e valid run enabled row) dooms

-- a row that ends nothing
ends_nothing : (L : LoadRows) (s made : State) (e : Entry) → IsMade L s e made → EndsNothing L (ledger_of L s) (ledger_of L made) → FreesNothing made
ends_nothing L s made e m nothing = frees_nothing made (each_found 0 made.next_object made.objects m.behind.objects)
    (λ x here. sym (doomed_same L made x m.behind here) ∙ undoomed L (ledger_of L s) m.owned (ledger_of L made) nothing x.number)

pub quiet_frees_nothing : QuietStepsFreeNothing
quiet_frees_nothing L H s made e valid run enabled row quiet =
    let m = made_row L H s made e valid run enabled row in
    ends_nothing L s made e m (quiet_row L (ledger_of L s) m.owned e (ledger_of L made) m.row quiet)

kill_again : (L : LoadRows) (s made : State) (e : Entry) → IsMade L s e made → KillsAgain s e → FreesNothing made
kill_again L s made (entry.Kill t i) m over = ends_nothing L s made (entry.Kill t i) m (again_row L (ledger_of L s) m.owned t i (ledger_of L made) m.row over)
kill_again L s made other m over = absurd over

pub kills_again : KillsAgainFreeNothing
kills_again L H s made e valid run enabled row over = kill_again L s made e (made_row L H s made e valid run enabled row) over
