-- Each row leaves the state laid out.
use Rattle.std.proofs.Common.{◌≡◌, ℕ, suc, ◌+◌, ◌-◌, ◌==◌, Bool, true, false, List, length, map, refl, ap, sym, subst, ◌∙◌, if◌then◌else◌, add-one, arith, not, ◌<◌}
use Rattle.std.proofs.lemmas.List.{length-set}
use Rattle.machine_defs.specs.declared.values.Owner.{Owner}
use Rattle.machine_defs.specs.declared.entry.Entry.{Entry}
use Rattle.rl_defs.specs.declared.load.LoadRows.{LoadRows}
use Rattle.machine_defs.specs.State.{State, Object, Root, Hung}
use Rattle.machine_defs.specs.Arguments.{has}
use Rattle.machine_defs.specs.Objects.{owned_by}
use Rattle.machine_defs.specs.Objects.{fresh_object, with_new, without, with_cells, with_placement}
use Rattle.machine_defs.specs.CallRows.{reloaded}
use Rattle.machine_defs.specs.Steps.{Row}
use Rattle.machine_laws.specs.Shape.{Rises, Laid}
use Rattle.machine_laws.proofs.Objects.{rises_filter, rises_map, rises_append}
use Rattle.machine_laws.proofs.Pushing.{laid_stack, laid_thread}
use Rattle.machine_laws.proofs.Moves.{Moves, row_moves}

-- what stays laid out
abbrev pub StaysLaid : LoadRows → State → State → Type 0
StaysLaid L s z = Laid L s → Laid L z

-- a change that a test chooses keeps the numbers
pub chosen_number : (b : Bool) (g : Object → Object) → ((x : Object) → (g x).number ≡ x.number) → (x : Object) → (if b then g x else x).number ≡ x.number
chosen_number true g keeps x = keeps x
chosen_number false g keeps x = refl

-- other objects of the same numbers
laid_objects : (L : LoadRows) (s : State) (test : Object → Bool) (g : Object → Object) → ((x : Object) → (g x).number ≡ x.number) → Laid L s → Laid L (record s { objects = map (λ x. if test x then g x else x) s.objects })
laid_objects L s test g keeps laid = record {
  stacks = laid.stacks;
  threads = laid.threads;
  shadows = laid.shadows;
  objects = rises_map (λ x. if test x then g x else x) (λ x. chosen_number (test x) g keeps x) 0 s.next_object s.objects laid.objects;
  started = laid.started;
}

-- nothing that the layout reads
pub laid_same : (L : LoadRows) (s z : State) → z.stacks ≡ s.stacks → z.threads ≡ s.threads → z.shadows ≡ s.shadows → z.objects ≡ s.objects → z.next_object ≡ s.next_object → Laid L s → Laid L z
laid_same L s z a b c d e laid = record {
  stacks = ap length a ∙ laid.stacks;
  threads = ap length b ∙ laid.threads;
  shadows = ap length c ∙ laid.shadows;
  objects = subst (λ n. Rises 0 n z.objects) (sym e) (subst (Rises 0 s.next_object) (sym d) laid.objects);
  started = subst (λ n. 0 < n) (sym e) laid.started;
}

pub laid_without : (L : LoadRows) (s : State) (os : List ℕ) → Laid L s → Laid L (without os s)
laid_without L s os laid = record {
  stacks = laid.stacks;
  threads = laid.threads;
  shadows = laid.shadows;
  objects = rises_filter (λ x. not (has os x.number)) 0 s.next_object s.objects laid.objects;
  started = laid.started;
}

laid_new : (L : LoadRows) (s : State) (ty : ℕ) (w : Owner) (values : List ℕ) → Laid L s → Laid L (with_new L ty w values s)
laid_new L s ty w values laid =
    let next : s.next_object + 1 ≡ suc s.next_object = add-one s.next_object in
    let rises = rises_append 0 s.next_object s.objects (fresh_object L s.next_object ty w values) laid.objects laid.started refl in
    record {
      stacks = laid.stacks;
      threads = laid.threads;
      shadows = laid.shadows;
      objects = subst (λ n. Rises 0 n (with_new L ty w values s).objects) (sym next) rises;
      started = (let a = laid.started in omega arith);
    }

laid_reload : (L : LoadRows) (s : State) (x i left : ℕ) → Laid L s → Laid L (reloaded L x i left s)
laid_reload L s x i left laid = record {
  stacks = laid.stacks;
  threads = laid.threads;
  shadows = length-set s.shadows (x - length L.loads - 1) (record { current = i; left = left }) ∙ laid.shadows;
  objects = laid.objects;
  started = laid.started;
}

pub laid_moves : (L : LoadRows) (e : Entry) → Moves L e (StaysLaid L)
laid_moves L e = record {
  still = λ s laid. laid;
  behind = λ s m z first second laid. second (first laid);
  frames = λ s t fs laid. laid_stack L s t fs laid;
  thread = λ s t thread laid. laid_thread L s t thread laid;
  number = λ s c laid. laid_same L s _ refl refl refl refl refl laid;
  given = λ s w os laid. laid_objects L s (λ x. has os x.number) (owned_by w) (λ x. refl) laid;
  gone = λ s os laid. laid_without L s os laid;
  made = λ new s ty w values laid. laid_new L s ty w values laid;
  cells = λ writes s o change laid. laid_objects L s (λ x. x.number == o) (with_cells change) (λ x. refl) laid;
  hung = λ hangs s o parent place laid. laid_objects L s (λ x. x.number == o) (with_placement (Hung parent place)) (λ x. refl) laid;
  rooted = λ s o w laid. laid_objects L s (λ x. x.number == o) (with_placement (Root w)) (λ x. refl) laid;
  word = λ s i k v laid. laid_same L s _ refl refl refl refl refl laid;
  taken = λ s i k laid. laid_same L s _ refl refl refl refl refl laid;
  filled = λ puts s i k o laid. laid_same L s _ refl refl refl refl refl laid;
  ends = λ s i laid. laid_same L s _ refl refl refl refl refl laid;
  device = λ saves s b cells laid. laid_same L s _ refl refl refl refl refl laid;
  reload = λ s x left laid. laid_reload L s x _ left laid;
}

pub laid_row : (L : LoadRows) (s : State) (e : Entry) (made : State) → Laid L s → Row L s e made → Laid L made
laid_row L s e made laid makes = row_moves L (StaysLaid L) e (laid_moves L e) s made makes laid
