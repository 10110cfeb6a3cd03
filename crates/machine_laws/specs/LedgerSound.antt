-- What holds of the ledger of every state of every run.
use Rattle.std.specs.Prelude.{◌≡◌, ℕ, ◌+◌, ◌<◌, ◌≤◌, ◌==◌, Bool, true, false, cond, List, [], ◌∷◌, length, Option, Some, None}
use Rattle.machine_defs.specs.declared.values.Owner.{Owner}
use Rattle.machine_defs.specs.declared.values.Owner.TheVariants as owner
use Rattle.rl_defs.specs.declared.load.LoadRows.{LoadRows}
use Rattle.rl_defs.specs.Domains.{load_of_target, slots_of}
use Rattle.machine_defs.specs.State.{Placement, Root, Hung}
use Rattle.machine_defs.specs.Loans.{count}
use Rattle.machine_defs.specs.Arguments.{lent_of}
use Rattle.machine_laws.specs.Ledger.{sum_to}
use Rattle.rl_defs.specs.Rows.{is_target}
use Rattle.rl_defs.specs.Rows.{domain_of_load}
use Rattle.machine_defs.specs.Report.{same_owner}
use Rattle.machine_laws.specs.Ledger.{LedgerFrame, Ledger, alive, lent_in, loans_in}
use Rattle.std.specs.Prelude.{slice_get}

-- how often an object stands in slots, and among what the frames of a party have of their own
abbrev pub in_slots : ℕ → List (Option ℕ) → ℕ
in_slots o [] = 0
in_slots o (None ∷ ks) = in_slots o ks
in_slots o (Some q ∷ ks) = cond (q == o) 1 0 + in_slots o ks

abbrev pub own_in : Owner → ℕ → List LedgerFrame → ℕ
own_in w o [] = 0
own_in w o (f ∷ fs) = cond (same_owner w f.party) (count o f.own) 0 + own_in w o fs

abbrev pub slots_held : (ℕ → List (Option ℕ)) → Owner → ℕ → ℕ
slots_held slots (owner.Client t) o = 0
slots_held slots (owner.Instance i) o = in_slots o (slots i)

-- in how many places an owner has an object
abbrev pub held_in : ℕ → (ℕ → List LedgerFrame) → (ℕ → List (Option ℕ)) → Owner → ℕ → ℕ
held_in n stack slots w o = slots_held slots w o + sum_to (λ t. own_in w o (stack t)) n

abbrev pub held : LoadRows → Ledger → Owner → ℕ → ℕ
held L s w o = held_in (length L.clients) s.stack s.slots w o

-- whether this is the place of a root of the owner
abbrev pub is_of : Owner → Option Placement → Bool
is_of w None = false
is_of w (Some (Root v)) = same_owner w v
is_of w (Some (Hung p k)) = false

-- each object lent to a frame is owned below it, while its owner lives
abbrev pub Covered : (ℕ → Bool) → (ℕ → Option Placement) → List LedgerFrame → Type 0
Covered live seat [] = Unit {0}
Covered live seat (f ∷ fs) = ((o : ℕ) (w : Owner) → 0 < count o f.lent → seat o ≡ Some (Root w) → alive live w ≡ true → 0 < own_in w o fs) × Covered live seat fs

pub record OwnedIn (n : ℕ) (live : ℕ → Bool) (stack : ℕ → List LedgerFrame) (seat : ℕ → Option Placement) (slots : ℕ → List (Option ℕ)) (next : ℕ) : Type 0 where
  -- a live owner has its roots in one place each, and nothing else
  pub once : (w : Owner) (o : ℕ) → alive live w ≡ true → held_in n stack slots w o ≡ cond (is_of w (seat o)) 1 0
  -- what an ended owner has is lent
  pub rest : (w : Owner) (o : ℕ) → seat o ≡ Some (Root w) → alive live w ≡ false → 0 < loans_in n stack o
  -- what hangs, hangs in a root, alone in its cell
  pub hung : (o p k : ℕ) → seat o ≡ Some (Hung p k) → (w : Owner) × (seat p ≡ Some (Root w))
  pub cell : (o q p k : ℕ) → seat o ≡ Some (Hung p k) → seat q ≡ Some (Hung p k) → o ≡ q
  -- what is lent is a root, in one stack, above its holder
  pub lent : (o : ℕ) → 0 < loans_in n stack o → (w : Owner) × (seat o ≡ Some (Root w))
  pub stacks : (t u o : ℕ) → 0 < lent_in o (stack t) → 0 < lent_in o (stack u) → t ≡ u
  pub within : (t o : ℕ) → 0 < lent_in o (stack t) → (0 < t) × (t ≤ n)
  pub covered : (t : ℕ) → Covered live seat (stack t)
  -- objects from the next number on aren't there
  pub fresh : (o : ℕ) → next ≤ o → seat o ≡ None

abbrev pub Owned : LoadRows → Ledger → Type 0
Owned L s = OwnedIn (length L.clients) s.live s.stack s.seat s.slots s.next_object

-- the frames of client t: above its own, each is of an opened instance of its target's load, and
-- call numbers fall downwards
abbrev pub Grounded : LoadRows → (ℕ → ℕ) → ℕ → ℕ → ℕ → List LedgerFrame → Type 0
Grounded L loads next_instance next_call t [] = ⊥
Grounded L loads next_instance next_call t (f ∷ []) = (f.party ≡ owner.Client t) × (f.lent ≡ []) × (f.call < next_call)
Grounded L loads next_instance next_call t (f ∷ (g ∷ fs)) =
    ((i : ℕ) × (f.party ≡ owner.Instance i) × (0 < i) × (i < next_instance) × (loads i ≡ load_of_target L f.target))
    × (f.lent ≡ lent_of f.args) × (g.call < f.call) × (f.call < next_call) × Grounded L loads next_instance next_call t (g ∷ fs)

pub record PlacedIn (L : LoadRows) (loads : ℕ → ℕ) (live : ℕ → Bool) (stack : ℕ → List LedgerFrame) (seat : ℕ → Option Placement) (current : ℕ → ℕ) (next_instance next_object next_call : ℕ) : Type 0 where
  pub grounded : (t : ℕ) → 0 < t → t ≤ length L.clients → Grounded L loads next_instance next_call t (stack t)
  pub small : (t : ℕ) → 0 < t → t ≤ length L.clients → length (stack t) ≤ 32
  pub current_of : (x : ℕ) → (current x < next_instance) × (loads (current x) ≡ load_of_target L x)
  pub unopened : (i : ℕ) → next_instance ≤ i → live i ≡ false
  -- instances are numbered from 1, and so are loads
  pub no_instance : live 0 ≡ false
  pub no_load : loads 0 ≡ 0
  pub some_load : (i : ℕ) → 0 < i → i < next_instance → 0 < loads i
  pub owners : (o i : ℕ) → seat o ≡ Some (Root (owner.Instance i)) → (0 < i) × (i < next_instance)
  pub parents : (o p k : ℕ) → seat o ≡ Some (Hung p k) → (0 < p) × (p < next_object)
  pub zero_free : seat 0 ≡ None
  pub some_object : 0 < next_object

abbrev pub Placed : LoadRows → Ledger → Type 0
Placed L s = PlacedIn L s.loads s.live s.stack s.seat s.current s.next_instance s.next_object s.next_call

-- What the laws ask of a load: its targets are of its loads, and the slots of a domain have names
-- of their own.
pub record IsPlan (L : LoadRows) : Type 0 where
  pub targets : (x : ℕ) → load_of_target L x ≤ length L.loads
  pub some_load : (x : ℕ) → is_target L x ≡ true → 0 < load_of_target L x
  pub slots : (k j l : ℕ) (name : List ℕ) → slice_get (slots_of (domain_of_load L l).lines) j ≡ Some name → slice_get (slots_of (domain_of_load L l).lines) k ≡ Some name → j ≡ k
