-- Loans, and the objects that go when nobody can reach them any more.
use Rattle.std.specs.Prelude.{ℕ, ◌+◌, ◌==◌, ◌&&◌, [], ◌∷◌, List, not, Bool, false, find, Option, true, Some, None, filter, map, if◌then◌else◌}
use Rattle.machine_defs.specs.declared.values.Owner.TheVariants as owner
use Rattle.machine_defs.specs.declared.values.Owner.{Owner}
use Rattle.machine_defs.specs.State.{StackFrame, State, is_live, Object, Placement, Root, Hung}

-- how often a number stands in a list
abbrev pub count : ℕ → List ℕ → ℕ
count o [] = 0
count o (x ∷ xs) = (if x == o then 1 else 0) + count o xs

-- how often an object is lent to the frames of a stack
abbrev pub lent_in : ℕ → List StackFrame → ℕ
lent_in o [] = 0
lent_in o (f ∷ fs) = count o f.lent + lent_in o fs

-- how often an object is lent to the frames of all stacks
abbrev pub lent_in_all : ℕ → List (List StackFrame) → ℕ
lent_in_all o [] = 0
lent_in_all o (fs ∷ stacks) = lent_in o fs + lent_in_all o stacks

abbrev pub loans : State → ℕ → ℕ
loans s o = lent_in_all o s.stacks

-- a client never ends; an instance that doesn't live has ended
abbrev pub has_ended : State → Owner → Bool
has_ended s (owner.Client c) = false
has_ended s (owner.Instance i) = not (is_live s i)

-- the object of this number
abbrev pub object_of : State → ℕ → Option Object
object_of s o = find (λ x. x.number == o) s.objects

-- the owner has ended and nobody has borrowed the object
abbrev pub is_lost : State → ℕ → Owner → Bool
is_lost s o w = has_ended s w && (loans s o == 0)

-- a root is lost with its owner; what hangs goes with its parent, and when its parent has gone
abbrev pub is_lost_at : State → ℕ → Placement → Bool
is_lost_at s o (Root w) = is_lost s o w
is_lost_at s o (Hung parent place) = false

abbrev pub is_lost_parent : State → Option Object → Bool
is_lost_parent s None = true
is_lost_parent s (Some parent) = is_lost_at s parent.number parent.placement

abbrev pub is_doomed_at : State → ℕ → Placement → Bool
is_doomed_at s o (Root w) = is_lost s o w
is_doomed_at s o (Hung parent place) = is_lost_parent s (object_of s parent)

abbrev pub is_doomed : State → Object → Bool
is_doomed s x = is_doomed_at s x.number x.placement

-- the state without its doomed objects, and their numbers
abbrev pub sweep : State → State
sweep s = record s { objects = filter (λ x. not (is_doomed s x)) s.objects }

abbrev pub freed : State → List ℕ
freed s = map (λ x. x.number) (filter (is_doomed s) s.objects)
