-- The ledger of a state: who runs, who owns and who has borrowed, as functions of numbers. The laws
-- of ownership are proved over it: it has no registers, no lines and no script.
use Rattle.std.specs.Prelude.{ℕ, zero, suc, ◌++◌, if◌then◌else◌, ◌+◌, ◌-◌, ◌==◌, Bool, true, false, cond, not, ◌&&◌, List, [], ◌∷◌, Option, Some, None}
use Rattle.machine_defs.specs.declared.values.Arg.{Arg}
use Rattle.machine_defs.specs.declared.values.Owner.{Owner}
use Rattle.machine_defs.specs.declared.values.Owner.TheVariants as owner
use Rattle.rl_defs.specs.declared.load.LoadRows.{LoadRows}
use Rattle.machine_defs.specs.State.{Placement, Root, Hung}
use Rattle.machine_defs.specs.Loans.{count}
use Rattle.std.specs.Prelude.{length}

-- a sum over the numbers from 1 to n, and those of them that pass a test, rising
abbrev pub sum_to : (ℕ → ℕ) → ℕ → ℕ
sum_to f zero = 0
sum_to f (suc n) = f (suc n) + sum_to f n

abbrev pub passing : (ℕ → Bool) → ℕ → List ℕ
passing passes zero = []
passing passes (suc n) = passing passes n ++ (if passes (suc n) then suc n ∷ [] else [])

-- a frame: who acts in it, its call, and the objects that it has of its own. The client's own frame
-- is the lowest of its stack; its objects are those of the script's names
pub record LedgerFrame : Type 0 where
  pub party : Owner
  pub call : ℕ
  pub target : ℕ
  pub method : ℕ
  pub args : List Arg
  pub lent : List ℕ
  pub own : List ℕ

-- Instances, objects, clients and targets by their numbers; the frames of a stack with the newest
-- first. The load of an instance; whether one was opened and lives; where an object that is in the
-- heap is.
pub record Ledger : Type 0 where
  pub loads : ℕ → ℕ
  pub live : ℕ → Bool
  pub words : ℕ → ℕ → ℕ
  pub slots : ℕ → List (Option ℕ)
  pub seat : ℕ → Option Placement
  pub stack : ℕ → List LedgerFrame
  pub done : ℕ → Bool
  pub current : ℕ → ℕ
  pub left : ℕ → ℕ
  pub next_instance : ℕ
  pub next_object : ℕ
  pub next_call : ℕ

-- f, but x at k
abbrev pub at : {A : Type 0} → ℕ → A → (ℕ → A) → ℕ → A
at k x f j = cond (j == k) x (f j)

-- a client, or a live instance
abbrev pub alive : (ℕ → Bool) → Owner → Bool
alive live (owner.Client t) = true
alive live (owner.Instance i) = live i

-- how often an object is lent in the frames, and over all stacks
abbrev pub lent_in : ℕ → List LedgerFrame → ℕ
lent_in o [] = 0
lent_in o (f ∷ fs) = count o f.lent + lent_in o fs

abbrev pub loans_in : ℕ → (ℕ → List LedgerFrame) → ℕ → ℕ
loans_in n stack o = sum_to (λ t. lent_in o (stack t)) n

abbrev pub loans : LoadRows → Ledger → ℕ → ℕ
loans L s o = loans_in (length L.clients) s.stack o

-- an owner that has ended, of an object without loans
abbrev pub is_lost : (ℕ → Bool) → ℕ → Owner → Bool
is_lost live loans w = not (alive live w) && (loans == 0)

-- what the object above is comes to: it is gone, or is itself to go
abbrev pub is_lost_above : (ℕ → Bool) → (ℕ → ℕ) → ℕ → Option Placement → Bool
is_lost_above live loans p None = true
is_lost_above live loans p (Some (Root w)) = is_lost live (loans p) w
is_lost_above live loans p (Some (Hung q k)) = false

abbrev pub is_doomed_at : (ℕ → Bool) → (ℕ → ℕ) → (ℕ → Option Placement) → ℕ → Option Placement → Bool
is_doomed_at live loans seat o None = false
is_doomed_at live loans seat o (Some (Root w)) = is_lost live (loans o) w
is_doomed_at live loans seat o (Some (Hung p k)) = is_lost_above live loans p (seat p)

abbrev pub is_doomed : LoadRows → Ledger → ℕ → Bool
is_doomed L s o = is_doomed_at s.live (loans L s) s.seat o (s.seat o)

abbrev pub sweep : LoadRows → Ledger → Ledger
sweep L s = record s { seat = λ o. cond (is_doomed L s o) None (s.seat o) }

abbrev pub freed : LoadRows → Ledger → List ℕ
freed L s = passing (is_doomed L s) (s.next_object - 1)
