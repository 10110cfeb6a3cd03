-- Every call is answered once, and each end, reload and refusal has its cause in the history.
use Rattle.std.specs.Prelude.{◌≡◌, ℕ, ◌+◌, ◌≤◌, [], ◌∷◌, ◌++◌, ◌==◌, List, true, false, length, suc, if◌then◌else◌}
use Rattle.machine_defs.specs.declared.values.RpcCode.TheVariants as code
use Rattle.machine_defs.specs.declared.values.Owner.TheVariants as owner
use Rattle.machine_defs.specs.declared.entry.Entry.TheVariants as entry
use Rattle.rl_defs.specs.declared.load.LoadRows.{LoadRows}
use Rattle.machine_defs.specs.declared.values.RpcCode.{RpcCode}
use Rattle.machine_defs.specs.declared.entry.Entry.{Entry}
use Rattle.machine_defs.specs.Steps.{Turn}
use Rattle.machine_defs.specs.History.{times, OpenCall, open_calls, ended_at, current_at, reloads_of, restarts_of, actor_at, calls_made, reloads_made}
use Rattle.rl_defs.specs.Domains.{load_of_target, is_serial}
use Rattle.machine_defs.specs.Calling.{is_shadow, is_idempotent}

-- the call is the newest open one of the thread, and this holds of it
abbrev pub ClosesNewest : List Turn → ℕ → ℕ → (OpenCall → Type 0) → Type 0
ClosesNewest us t c Holds = (o : OpenCall) × (others : List OpenCall) × (open_calls us t ≡ o ∷ others) × (o.call ≡ c) × Holds o

-- the call went through a shadow to an idempotent method
pub record MayRepeat (L : LoadRows) (o : OpenCall) : Type 0 where
  pub shadow : is_shadow L o.target ≡ true
  pub idempotent : is_idempotent L o.target o.method ≡ true

-- the target's instance has ended, and it was reloaded as often as it may be
pub record IsGoneForGood (L : LoadRows) (us : List Turn) (x : ℕ) : Type 0 where
  pub ended : ended_at us (current_at L us x) ≡ true
  pub used_up : reloads_of us x ≡ restarts_of L x

-- some open call of the thread is in a live serial instance whose rank, its load's number, isn't
-- above the target's
pub record BreaksOrder (L : LoadRows) (us : List Turn) (t x : ℕ) : Type 0 where
  pub serial : is_serial L (load_of_target L x) ≡ true
  pub before : List OpenCall
  pub call : OpenCall
  pub others : List OpenCall
  pub open_now : open_calls us t ≡ before ++ call ∷ others
  pub lives : ended_at us call.inside ≡ false
  pub inside_serial : is_serial L (load_of_target L call.target) ≡ true
  pub rank : load_of_target L call.target ≤ load_of_target L x

abbrev pub Refused : LoadRows → List Turn → ℕ → RpcCode → ℕ → Type 0
Refused L us t code.Gone x = IsGoneForGood L us x
Refused L us t code.Deep x = length (open_calls us t) ≡ 31
Refused L us t code.Order x = BreaksOrder L us t x
Refused L us t code.Unwound x = ⊥

-- what a call that is unwound shows: its instance has ended, and it may not be issued again
pub record IsUnwound (L : LoadRows) (us : List Turn) (o : OpenCall) : Type 0 where
  pub ended : ended_at us o.inside ≡ true
  pub over : MayRepeat L o → IsGoneForGood L us o.target

-- what a call that is issued again shows
pub record IsRepeated (L : LoadRows) (us : List Turn) (x i : ℕ) (o : OpenCall) : Type 0 where
  pub through : o.target ≡ x
  pub may : MayRepeat L o
  pub ended : ended_at us o.inside ≡ true
  pub into : i ≡ current_at L us x
  pub lives : ended_at us i ≡ false

abbrev pub Answered : LoadRows → List Turn → Entry → Type 0
Answered L us (entry.Call t c x i m args) = (c ≡ suc (calls_made us)) × (i ≡ current_at L us x) × (ended_at us i ≡ false)
Answered L us (entry.Refuse t c why x m args) = (c ≡ suc (calls_made us)) × Refused L us t why x
Answered L us (entry.Ret t c results) = ClosesNewest us t c (λ o. ended_at us o.inside ≡ false)
Answered L us (entry.Unwound t c) = ClosesNewest us t c (IsUnwound L us)
Answered L us (entry.Reload t x i left) =
    (ended_at us (current_at L us x) ≡ true)
    × (i ≡ length L.loads + suc (reloads_made us))
    × (left + suc (reloads_of us x) ≡ restarts_of L x)
Answered L us (entry.Again t c x i) = ClosesNewest us t c (IsRepeated L us x i)
Answered L us (entry.Trap t i cause) = (actor_at us t ≡ owner.Instance i) × (ended_at us i ≡ false)
Answered L us (entry.Kill t i) = open_calls us t ≡ []
Answered L us _ = Unit {0}

-- how often a call is opened, and closed
abbrev pub opens_call : ℕ → Entry → ℕ
opens_call c (entry.Call t n x i m args) = if n == c then 1 else 0
opens_call c _ = 0

abbrev pub closes_call : ℕ → Entry → ℕ
closes_call c (entry.Ret t n results) = if n == c then 1 else 0
closes_call c (entry.Unwound t n) = if n == c then 1 else 0
closes_call c _ = 0

-- Each call that was opened was closed, once.
abbrev pub ClosedOnce : List Turn → Type 0
ClosedOnce us = (c : ℕ) → (times (closes_call c) us ≡ times (opens_call c) us) × (times (opens_call c) us ≤ 1)
