-- The rows of the ledger: what each entry asks of it and makes of it.
use Rattle.std.specs.Prelude.{◌≡◌, ℕ, suc, ◌+◌, ◌<◌, ◌≤◌, true, false, cond, List, [], ◌∷◌, ◌++◌, length, Option, Some, None, slice_get, slice_set, ◌⊎◌}
use Rattle.machine_defs.specs.declared.values.Arg.{Arg}
use Rattle.machine_defs.specs.declared.values.Owner.{Owner}
use Rattle.machine_defs.specs.declared.values.Owner.TheVariants as owner
use Rattle.machine_defs.specs.declared.values.RpcCode.{RpcCode}
use Rattle.machine_defs.specs.declared.values.RpcCode.TheVariants as code
use Rattle.machine_defs.specs.declared.entry.Entry.{Entry}
use Rattle.machine_defs.specs.declared.entry.Entry.TheVariants as entry
use Rattle.rl_defs.specs.declared.load.LoadRows.{LoadRows}
use Rattle.rl_defs.specs.Domains.{load_of_target, is_serial, slots_of}
use Rattle.machine_defs.specs.State.{Placement, Root, Hung}
use Rattle.machine_defs.specs.Loans.{count}
use Rattle.machine_defs.specs.Arguments.{has, moved_of, lent_of}
use Rattle.rl_defs.specs.Rows.{is_target}
use Rattle.rl_defs.specs.Rows.{domain_of_load}
use Rattle.machine_defs.specs.Calling.{is_shadow, is_idempotent}
use Rattle.machine_defs.specs.Arguments.{objects_in}
use Rattle.machine_laws.specs.Ledger.{LedgerFrame, Ledger, at, alive, sweep, freed}

-- t is a client that isn't done, with f on top of fs, and f's party lives; or has ended
pub record Runs (L : LoadRows) (s : Ledger) (t : ℕ) (f : LedgerFrame) (fs : List LedgerFrame) : Type 0 where
  pub some : 0 < t
  pub within : t ≤ length L.clients
  pub undone : s.done t ≡ false
  pub stack : s.stack t ≡ f ∷ fs
  pub lives : alive s.live f.party ≡ true

pub record IsDead (L : LoadRows) (s : Ledger) (t : ℕ) (f : LedgerFrame) (fs : List LedgerFrame) : Type 0 where
  pub some : 0 < t
  pub within : t ≤ length L.clients
  pub undone : s.done t ≡ false
  pub stack : s.stack t ≡ f ∷ fs
  pub dead : alive s.live f.party ≡ false

-- the objects are the old ones, without those that were lost and with those that were gained
abbrev pub Exchanged : List ℕ → List ℕ → List ℕ → List ℕ → Type 0
Exchanged old «lost» gained new = (o : ℕ) → count o new + count o «lost» ≡ count o old + count o gained

-- objects pass to an owner, or leave the heap
abbrev pub give : List ℕ → Owner → (ℕ → Option Placement) → ℕ → Option Placement
give os w seat o = cond (has os o) (Some (Root w)) (seat o)

abbrev pub remove : List ℕ → (ℕ → Option Placement) → ℕ → Option Placement
remove os seat o = cond (has os o) None (seat o)

-- a frame of the instance is among these
abbrev pub enters : ℕ → List LedgerFrame → Type 0
enters i fs = (f : LedgerFrame) × (over : List LedgerFrame) × (under : List LedgerFrame) × (fs ≡ over ++ f ∷ under) × (f.party ≡ owner.Instance i)

-- where the instance is serial, no other client has a frame in it
abbrev pub IsFree : LoadRows → Ledger → ℕ → ℕ → Type 0
IsFree L s t i = is_serial L (s.loads i) ≡ true → (u : ℕ) → 0 < u → u ≤ length L.clients → ((u ≡ t) → ⊥) → enters i (s.stack u) → ⊥

-- the rank stands below each live serial instance of the frames
abbrev pub IsBelow : LoadRows → Ledger → ℕ → List LedgerFrame → Type 0
IsBelow L s rank [] = Unit {0}
IsBelow L s rank (f ∷ fs) = ((i : ℕ) → f.party ≡ owner.Instance i → s.live i ≡ true → is_serial L (s.loads i) ≡ true → rank < s.loads i) × IsBelow L s rank fs

-- some frame is in a live serial instance whose rank isn't above this one
pub record IsOutranked (L : LoadRows) (s : Ledger) (wanted : ℕ) (fs : List LedgerFrame) : Type 0 where
  pub frame : LedgerFrame
  pub over : List LedgerFrame
  pub under : List LedgerFrame
  pub among : fs ≡ over ++ frame ∷ under
  pub inside : ℕ
  pub party : frame.party ≡ owner.Instance inside
  pub lives : s.live inside ≡ true
  pub serial : is_serial L (s.loads inside) ≡ true
  pub rank : s.loads inside ≤ wanted

abbrev pub callee : ℕ → ℕ → ℕ → ℕ → List Arg → LedgerFrame
callee c x i m args = record { party = owner.Instance i; call = c; target = x; method = m; args = args; lent = lent_of args; own = moved_of args }

-- what a call asks of its arguments: what it moves is the frame's own, and what it lends is its own
-- or lent to it
pub record MayPass (f : LedgerFrame) (args : List Arg) (own : List ℕ) : Type 0 where
  pub moved : Exchanged f.own (moved_of args) [] own
  pub lent : (o : ℕ) → 0 < count o (lent_of args) → (0 < count o own) ⊎ (0 < count o f.lent)

pub record CallRow (L : LoadRows) (s : Ledger) (t c x i m : ℕ) (args : List Arg) (f : LedgerFrame) (fs : List LedgerFrame) (own : List ℕ) : Type 0 where
  pub runs : Runs L s t f fs
  pub number : c ≡ s.next_call
  pub into : i ≡ s.current x
  pub lives : s.live i ≡ true
  pub room : length fs < 31
  pub rank : is_serial L (load_of_target L x) ≡ true → IsBelow L s (load_of_target L x) (f ∷ fs)
  pub free : IsFree L s t i
  pub passes : MayPass f args own

-- why a call is refused; the frames are those of the stack, the client's own among them
abbrev pub IsRefused : LoadRows → Ledger → ℕ → RpcCode → List LedgerFrame → Type 0
IsRefused L s x code.Gone fs = (is_target L x ≡ true) × (s.live (s.current x) ≡ false) × (s.left x ≡ 0)
IsRefused L s x code.Deep fs = 31 < length fs
IsRefused L s x code.Order fs = (is_serial L (load_of_target L x) ≡ true) × IsOutranked L s (load_of_target L x) fs
IsRefused L s x code.Unwound fs = ⊥

-- the frame's call went through shadow x to an idempotent method
pub record MayReissue (L : LoadRows) (f : LedgerFrame) (x : ℕ) : Type 0 where
  pub through : f.target ≡ x
  pub shadow : is_shadow L x ≡ true
  pub idempotent : is_idempotent L x f.method ≡ true

-- a slot of an instance, by its name
abbrev pub IsSlot : LoadRows → Ledger → ℕ → ℕ → List ℕ → Type 0
IsSlot L s i k name = slice_get (slots_of (domain_of_load L (s.loads i)).lines) k ≡ Some name

-- the top frame with other objects of its own
abbrev pub with_own : ℕ → LedgerFrame → List ℕ → List LedgerFrame → (ℕ → List LedgerFrame) → ℕ → List LedgerFrame
with_own t f own fs stack = at t (record f { own = own } ∷ fs) stack

abbrev pub Row : LoadRows → Ledger → Entry → Ledger → Type 0
Row L s (entry.Call t c x i m args) z = (f : LedgerFrame) × (fs : List LedgerFrame) × (own : List ℕ) × CallRow L s t c x i m args f fs own
    × (z ≡ record s { stack = at t (callee c x i m args ∷ record f { own = own } ∷ fs) s.stack; seat = give (moved_of args) (owner.Instance i) s.seat; next_call = suc c })
Row L s (entry.Refuse t c why x m args) z = (f : LedgerFrame) × (fs : List LedgerFrame) × (own : List ℕ) × Runs L s t f fs × (c ≡ s.next_call) × IsRefused L s x why (f ∷ fs) × MayPass f args own
    × (z ≡ record s { stack = with_own t f own fs s.stack; seat = remove (moved_of args) s.seat; next_call = suc c })
-- a caller that lives gets the results; the stack of one that has ended stays
Row L s (entry.Ret t c results) z = (f : LedgerFrame) × (g : LedgerFrame) × (fs : List LedgerFrame) × (own : List ℕ) × Runs L s t f (g ∷ fs) × (c ≡ f.call) × Exchanged f.own (objects_in results) [] []
    × (alive s.live g.party ≡ true → Exchanged g.own [] (objects_in results) own)
    × (z ≡ record s { stack = with_own t g own fs s.stack; seat = give (objects_in results) g.party s.seat })
Row L s (entry.Unwound t c) z = (f : LedgerFrame) × (g : LedgerFrame) × (fs : List LedgerFrame) × (own : List ℕ) × IsDead L s t f (g ∷ fs) × (c ≡ f.call)
    × ((x : ℕ) → MayReissue L f x → (s.live (s.current x) ≡ false) × (s.left x ≡ 0))
    × (alive s.live g.party ≡ true → Exchanged g.own [] [] own)
    × (z ≡ record s { stack = with_own t g own fs s.stack })
Row L s (entry.Reload t x i left) z = (0 < t) × (t ≤ length L.clients) × (s.done t ≡ false) × (is_shadow L x ≡ true) × (s.live (s.current x) ≡ false) × (s.left x ≡ suc left) × (i ≡ s.next_instance)
    × (slots : List (Option ℕ)) × ((k o : ℕ) → slice_get slots k ≡ Some (Some o) → ⊥)
    × (z ≡ record s { loads = at i (load_of_target L x) s.loads; live = at i true s.live; slots = at i slots s.slots; words = at i (λ k. 0) s.words; current = at x i s.current; left = at x left s.left; next_instance = suc i })
Row L s (entry.Again t c x i) z = (f : LedgerFrame) × (fs : List LedgerFrame) × IsDead L s t f fs × (c ≡ f.call) × MayReissue L f x × (i ≡ s.current x) × (s.live i ≡ true) × IsFree L s t i
    × (z ≡ record s { stack = at t (record f { party = owner.Instance i; own = [] } ∷ fs) s.stack })
Row L s (entry.Trap t i cause) z = (f : LedgerFrame) × (fs : List LedgerFrame) × Runs L s t f fs × (f.party ≡ owner.Instance i) × (z ≡ record s { live = at i false s.live })
Row L s (entry.Kill t i) z = (f : LedgerFrame) × Runs L s t f [] × (x : ℕ) × (i ≡ s.current x) × (z ≡ record s { live = at i false s.live })
Row L s (entry.New t w o ty values) z = (f : LedgerFrame) × (fs : List LedgerFrame) × (own : List ℕ) × Runs L s t f fs × (w ≡ f.party) × (o ≡ s.next_object) × Exchanged f.own [] (o ∷ []) own
    × (z ≡ record s { stack = with_own t f own fs s.stack; seat = at o (Some (Root w)) s.seat; next_object = suc o })
Row L s (entry.Drop t o) z = (f : LedgerFrame) × (fs : List LedgerFrame) × (own : List ℕ) × Runs L s t f fs × Exchanged f.own (o ∷ []) [] own
    × (z ≡ record s { stack = with_own t f own fs s.stack; seat = at o None s.seat })
Row L s (entry.Set t o place values) z = (f : LedgerFrame) × (fs : List LedgerFrame) × (own : List ℕ) × Runs L s t f fs × (0 < count o f.own) × Exchanged f.own [] [] own × (z ≡ record s { stack = with_own t f own fs s.stack })
Row L s (entry.Wput t i place value) z = (f : LedgerFrame) × (fs : List LedgerFrame) × (own : List ℕ) × Runs L s t f fs × (f.party ≡ owner.Instance i) × Exchanged f.own [] [] own
    × (z ≡ record s { stack = with_own t f own fs s.stack; words = at i (at place value (s.words i)) s.words })
Row L s (entry.Take t i slot o) z = (k : ℕ) × (f : LedgerFrame) × (fs : List LedgerFrame) × (own : List ℕ) × Runs L s t f fs × (f.party ≡ owner.Instance i) × IsSlot L s i k slot × (slice_get (s.slots i) k ≡ Some (Some o)) × Exchanged f.own [] (o ∷ []) own
    × (z ≡ record s { stack = with_own t f own fs s.stack; slots = at i (slice_set (s.slots i) k None) s.slots })
Row L s (entry.Put t i slot o) z = (k : ℕ) × (f : LedgerFrame) × (fs : List LedgerFrame) × (own : List ℕ) × Runs L s t f fs × (f.party ≡ owner.Instance i) × IsSlot L s i k slot × (slice_get (s.slots i) k ≡ Some None) × Exchanged f.own (o ∷ []) [] own
    × (z ≡ record s { stack = with_own t f own fs s.stack; slots = at i (slice_set (s.slots i) k (Some o)) s.slots })
Row L s (entry.DevGet t o b) z = (f : LedgerFrame) × (fs : List LedgerFrame) × (own : List ℕ) × Runs L s t f fs × (0 < count o f.own) × Exchanged f.own [] [] own × (z ≡ record s { stack = with_own t f own fs s.stack })
Row L s (entry.DevPut t b o) z = (f : LedgerFrame) × (fs : List LedgerFrame) × (own : List ℕ) × Runs L s t f fs × ((0 < count o f.own) ⊎ (0 < count o f.lent)) × Exchanged f.own [] [] own × (z ≡ record s { stack = with_own t f own fs s.stack })
Row L s (entry.Hang t o k v) z = (f : LedgerFrame) × (fs : List LedgerFrame) × (own : List ℕ) × Runs L s t f fs × (0 < count o own) × Exchanged f.own (v ∷ []) [] own
    × ((q : ℕ) → s.seat q ≡ Some (Hung o k) → ⊥) × ((q j : ℕ) → s.seat q ≡ Some (Hung v j) → ⊥)
    × (z ≡ record s { stack = with_own t f own fs s.stack; seat = at v (Some (Hung o k)) s.seat })
Row L s (entry.Unhang t o k v) z = (f : LedgerFrame) × (fs : List LedgerFrame) × (own : List ℕ) × Runs L s t f fs × (0 < count o f.own) × (s.seat v ≡ Some (Hung o k)) × Exchanged f.own [] (v ∷ []) own
    × (z ≡ record s { stack = with_own t f own fs s.stack; seat = at v (Some (Root f.party)) s.seat })
Row L s (entry.Show t o values) z = (f : LedgerFrame) × Runs L s t f [] × (0 < count o f.own) × ((v : ℕ) → has (objects_in values) v ≡ true → (k : ℕ) × (s.seat v ≡ Some (Hung o k))) × (z ≡ s)
Row L s (entry.Skip t number) z = (f : LedgerFrame) × Runs L s t f [] × (z ≡ s)
Row L s (entry.Done t) z = (f : LedgerFrame) × Runs L s t f [] × (z ≡ record s { done = at t true s.done })
Row L s (entry.Free o) z = ⊥

-- a step of the ledger: an entry, and the objects that are freed after it
abbrev pub LedgerStep : LoadRows → Ledger → Entry → List ℕ → Ledger → Type 0
LedgerStep L s e frees z = (made : Ledger) × Row L s e made × (frees ≡ freed L made) × (z ≡ sweep L made)
