-- What each row says of calls, instances and restarts, in the words of the history before it.
use Rattle.std.proofs.Common.{◌≡◌, ℕ, zero, suc, ◌+◌, ◌-◌, ◌<◌, ◌≤◌, true, false, List, [], ◌∷◌, ◌++◌, Option, Some, None, refl, ap, sym, ◌∙◌, subst, arith, inl, inr, slice_get, length, nat_le}
use Rattle.std.proofs.lemmas.Bool.{cases_eq, and_from, le-leb}
use Rattle.std.proofs.lemmas.Option.{slice_get_within}
use Rattle.machine_defs.specs.declared.values.Owner.TheVariants as owner
use Rattle.machine_defs.specs.declared.values.RpcCode.{RpcCode}
use Rattle.machine_defs.specs.declared.values.RpcCode.TheVariants as code
use Rattle.machine_defs.specs.declared.entry.Entry.{Entry}
use Rattle.machine_defs.specs.declared.entry.Entry.TheVariants as entry
use Rattle.rl_defs.specs.declared.load.LoadRows.{LoadRows}
use Rattle.rl_defs.specs.declared.load.ShadowRow.{ShadowRow}
use Rattle.rl_defs.specs.Domains.{load_of_target, is_serial}
use Rattle.rl_defs.specs.Rows.{row}
use Rattle.machine_defs.specs.State.{lives}
use Rattle.rl_defs.specs.Rows.{is_target}
use Rattle.machine_defs.specs.Steps.{Turn}
use Rattle.machine_defs.specs.History.{OpenCall, ended_at, current_at, restarts_of}
use Rattle.machine_laws.proofs.Parts.{restarts_in}
use Rattle.machine_defs.specs.Answered.{ClosesNewest, IsGoneForGood, BreaksOrder, Refused, IsUnwound, IsRepeated, Answered}
use Rattle.machine_laws.specs.Ledger.{LedgerFrame, Ledger, alive}
use Rattle.machine_laws.specs.LedgerRows.{Runs, IsDead, IsOutranked, IsRefused, Row}
use Rattle.machine_laws.specs.LedgerSound.{Owned, Grounded, Placed, IsPlan}
use Rattle.machine_laws.proofs.Calls.{inside_of, call_of, calls_of, CallsAgree, ground}
use Rattle.machine_laws.proofs.PlaceRows.{live_some}
use Rattle.machine_laws.proofs.HeapRows.{HeapAgrees, acts_for}

pub length_calls : (f : LedgerFrame) (fs : List LedgerFrame) → length (calls_of (f ∷ fs)) ≡ length fs
length_calls f [] = refl
length_calls f (g ∷ fs) = ap suc (length_calls g fs)

-- a target with restarts has a load
pub restarted_target : (L : LoadRows) (x : ℕ) → 0 < restarts_of L x → is_target L x ≡ true
restarted_target L x some = go (x - length L.loads) refl
  where
    within : (n : ℕ) (shadow : Option ShadowRow) → x - length L.loads ≡ suc n → slice_get L.shadows n ≡ shadow → 0 < restarts_in shadow → is_target L x ≡ true
    within n None e is pos = absurd (omega arith)
    within n (Some shadow) e is pos = and_from (nat_le 1 x) (nat_le x (length L.loads + length L.shadows)) (le-leb 1 x (omega arith))
        (let lt = slice_get_within L.shadows n shadow is in le-leb x (length L.loads + length L.shadows) (omega arith))

    go : (d : ℕ) → x - length L.loads ≡ d → is_target L x ≡ true
    go zero e = absurd (let some' : 0 < restarts_in (row L.shadows 0) = rw e at some in omega arith)
    go (suc n) e = within n (slice_get L.shadows n) e refl (rw e at some)

-- so a target that has a restart left has a load
pub loaded : (L : LoadRows) (us : List Turn) (s : Ledger) → IsPlan L → CallsAgree L us s → (x n : ℕ) → s.left x ≡ suc n → 0 < load_of_target L x
loaded L us s plan c x n is = plan.some_load x (restarted_target L x (let a = c.reloads x in omega arith))

-- the open calls below and above that of a frame which isn't the client's own
pub record Parted (L : LoadRows) (loads : ℕ → ℕ) (next_instance : ℕ) (calls : List OpenCall) (f : LedgerFrame) (i : ℕ) : Type 0 where
  pub before : List OpenCall
  pub others : List OpenCall
  pub parts : calls ≡ before ++ call_of f ∷ others
  pub some : 0 < i
  pub opened : i < next_instance
  pub load : loads i ≡ load_of_target L f.target

pub parted : (L : LoadRows) (loads : ℕ → ℕ) (ni nc t i : ℕ) (f : LedgerFrame) (over under : List LedgerFrame) → Grounded L loads ni nc t (over ++ f ∷ under) → f.party ≡ owner.Instance i → Parted L loads ni (calls_of (over ++ f ∷ under)) f i
parted L loads ni nc t i f [] [] g is = absurd (let e = g.0 in cc (e, is))
parted L loads ni nc t i f [] (h ∷ under) g is =
    let e : g.0.0 ≡ i = cc (g.0.1, is) in
    record { before = []; others = calls_of (h ∷ under); parts = refl; some = rw (← e) g.0.2; opened = rw (← e) g.0.3; load = rw (← e) g.0.4 }
parted L loads ni nc t i f (a ∷ []) under g is =
    let r = parted L loads ni nc t i f [] under g.4 is in
    record { before = call_of a ∷ r.before; others = r.others; parts = ap (λ cs. call_of a ∷ cs) r.parts; some = r.some; opened = r.opened; load = r.load }
parted L loads ni nc t i f (a ∷ b ∷ over) under g is =
    let r = parted L loads ni nc t i f (b ∷ over) under g.4 is in
    record { before = call_of a ∷ r.before; others = r.others; parts = ap (λ cs. call_of a ∷ cs) r.parts; some = r.some; opened = r.opened; load = r.load }

module _ (L : LoadRows) (us : List Turn) (s : Ledger) (own : Owned L s) (c : CallsAgree L us s) (p : Placed L s) (h : HeapAgrees us s) where
  ended_live : (i : ℕ) → 0 < i → i < s.next_instance → s.live i ≡ true → ended_at us i ≡ false
  ended_live i pos lt lives = rw (c.ends i pos lt, lives) refl

  ended_dead : (i : ℕ) → 0 < i → i < s.next_instance → s.live i ≡ false → ended_at us i ≡ true
  ended_dead i pos lt dead = rw (c.ends i pos lt, dead) refl

  -- the instance that a target with a load stands for
  current_some : (x : ℕ) → 0 < load_of_target L x → 0 < s.current x
  current_some x some = elim (cases_eq (s.current x) 0) [
    | inl none ↦ absurd (let a = (p.current_of x).1 in let b : s.loads (s.current x) ≡ 0 = rw none p.no_load in omega arith)
    | inr more ↦ omega arith
  ]

  current_dead : (x : ℕ) → 0 < load_of_target L x → s.live (s.current x) ≡ false → ended_at us (current_at L us x) ≡ true
  current_dead x some dead = rw (c.currents x) (ended_dead (s.current x) (current_some x some) (p.current_of x).0 dead)

  current_live : (x i : ℕ) → i ≡ s.current x → s.live i ≡ true → ended_at us i ≡ false
  current_live x i is lives = ended_live i (live_some L s own p i lives) (let a = (p.current_of x).0 in omega arith) lives

  gone_for_good : (x : ℕ) → 0 < load_of_target L x → s.live (s.current x) ≡ false → s.left x ≡ 0 → IsGoneForGood L us x
  gone_for_good x some dead none = record { ended = current_dead x some dead; used_up = (let a = c.reloads x in omega arith) }

  -- a frame above the client's own has the newest call
  newest : (t n : ℕ) (f g : LedgerFrame) (fs : List LedgerFrame) (Holds : OpenCall → Type 0) → 0 < t → t ≤ length L.clients → s.stack t ≡ f ∷ g ∷ fs → n ≡ f.call → Holds (call_of f) → ClosesNewest us t n Holds
  newest t n f g fs Holds pos le is number holds = (call_of f, calls_of (g ∷ fs), c.opens t pos le ∙ ap calls_of is, sym number, holds)

  party_live : (t : ℕ) (f g : LedgerFrame) (fs : List LedgerFrame) → Runs L s t f (g ∷ fs) → ended_at us (inside_of f.party) ≡ false
  party_live t f g fs runs =
      let gr = ground L s p t f (g ∷ fs) runs.some runs.within runs.stack in
      let e = gr.0.1 in
      rw e (ended_live gr.0.0 gr.0.2 gr.0.3 (let l : alive s.live (owner.Instance gr.0.0) ≡ true = rw e at runs.lives in l))

  party_dead : (t : ℕ) (f g : LedgerFrame) (fs : List LedgerFrame) → IsDead L s t f (g ∷ fs) → ended_at us (inside_of f.party) ≡ true
  party_dead t f g fs dead =
      let gr = ground L s p t f (g ∷ fs) dead.some dead.within dead.stack in
      let e = gr.0.1 in
      rw e (ended_dead gr.0.0 gr.0.2 gr.0.3 (let l : alive s.live (owner.Instance gr.0.0) ≡ false = rw e at dead.dead in l))

  -- the target of a frame above the client's own has a load
  target_load : (t : ℕ) (f g : LedgerFrame) (fs : List LedgerFrame) → 0 < t → t ≤ length L.clients → s.stack t ≡ f ∷ g ∷ fs → 0 < load_of_target L f.target
  target_load t f g fs pos le is =
      let gr = ground L s p t f (g ∷ fs) pos le is in
      let a = p.some_load gr.0.0 gr.0.2 gr.0.3 in
      let e = gr.0.4 in
      omega arith

  again_newest : (t n : ℕ) (f : LedgerFrame) (fs : List LedgerFrame) → IsDead L s t f fs → n ≡ f.call → (Holds : OpenCall → Type 0) → (ended_at us (inside_of f.party) ≡ true → Holds (call_of f)) → ClosesNewest us t n Holds
  again_newest t n f [] dead number Holds holds = absurd (let e = (ground L s p t f [] dead.some dead.within dead.stack).0 in let l : alive s.live (owner.Client t) ≡ false = rw e at dead.dead in cc (l))
  again_newest t n f (g ∷ fs) dead number Holds holds = newest t n f g fs Holds dead.some dead.within dead.stack number (holds (party_dead t f g fs dead))

  -- an instance that acts hasn't ended
  pub actor_live : (t : ℕ) (f : LedgerFrame) (fs : List LedgerFrame) (i : ℕ) → Runs L s t f fs → f.party ≡ owner.Instance i → ended_at us i ≡ false
  actor_live t f [] i runs is = absurd (let e = (ground L s p t f [] runs.some runs.within runs.stack).0 in cc (e, is))
  actor_live t f (g ∷ fs) i runs is = let r : ended_at us (inside_of (owner.Instance i)) ≡ false = rw is at (party_live t f g fs runs) in r

  breaks_order : (t x : ℕ) (f : LedgerFrame) (fs : List LedgerFrame) → Runs L s t f fs → is_serial L (load_of_target L x) ≡ true → IsOutranked L s (load_of_target L x) (f ∷ fs) → BreaksOrder L us t x
  breaks_order t x f fs runs serial r =
      let g : Grounded L s.loads s.next_instance s.next_call t (r.over ++ r.frame ∷ r.under) = subst (Grounded L s.loads s.next_instance s.next_call t) r.among (ground L s p t f fs runs.some runs.within runs.stack) in
      let q = parted L s.loads s.next_instance s.next_call t r.inside r.frame r.over r.under g r.party in
      record {
        serial = serial;
        before = q.before;
        call = call_of r.frame;
        others = q.others;
        open_now = c.opens t runs.some runs.within ∙ ap calls_of (runs.stack ∙ r.among) ∙ q.parts;
        lives = rw r.party (ended_live r.inside q.some q.opened r.lives);
        inside_serial = ap (is_serial L) (sym q.load) ∙ r.serial;
        rank = rw (← q.load) r.rank;
      }

  refused : (t x : ℕ) (why : RpcCode) (f : LedgerFrame) (fs : List LedgerFrame) → IsPlan L → Runs L s t f fs → IsRefused L s x why (f ∷ fs) → Refused L us t why x
  refused t x code.Gone f fs plan runs r = gone_for_good x (plan.some_load x r.0) r.1 r.2
  refused t x code.Deep f fs plan runs r =
      let few : suc (length fs) ≤ 32 = rw runs.stack at (p.small t runs.some runs.within) in
      rw (c.opens t runs.some runs.within, runs.stack) (let a = length_calls f fs in omega arith)
  refused t x code.Order f fs plan runs r = breaks_order t x f fs runs r.0 r.1
  refused t x code.Unwound f fs plan runs r = absurd r

  pub answered : IsPlan L → (e : Entry) (z : Ledger) → Row L s e z → Answered L us e
  answered plan (entry.Call t n x i m args) z r = let row = r.3 in (row.number ∙ sym c.calls, row.into ∙ sym (c.currents x), current_live x i row.into row.lives)
  answered plan (entry.Refuse t n why x m args) z r = (r.4 ∙ sym c.calls, refused t x why r.0 r.1 plan r.3 r.5)
  answered plan (entry.Ret t n results) z r = newest t n r.0 r.1 r.2 (λ o. ended_at us o.inside ≡ false) r.4.some r.4.within r.4.stack r.5 (party_live t r.0 r.1 r.2 r.4)
  answered plan (entry.Unwound t n) z r = newest t n r.0 r.1 r.2 (IsUnwound L us) r.4.some r.4.within r.4.stack r.5 (record {
    ended = party_dead t r.0 r.1 r.2 r.4;
    over = λ may. (
        let q = r.6 r.0.target (record { through = refl; shadow = may.shadow; idempotent = may.idempotent }) in
        gone_for_good r.0.target (target_load t r.0 r.1 r.2 r.4.some r.4.within r.4.stack) q.0 q.1);
  })
  answered plan (entry.Reload t x i left) z r = (current_dead x (loaded L us s plan c x left r.5) r.4, r.6 ∙ sym c.instances, let a = c.reloads x in let b = r.5 in omega arith)
  answered plan (entry.Again t n x i) z r = again_newest t n r.0 r.1 r.2 r.3 (IsRepeated L us x i) (λ dead. record {
    through = r.4.through;
    may = record { shadow = rw r.4.through r.4.shadow; idempotent = rw r.4.through r.4.idempotent };
    ended = dead;
    into = r.5 ∙ sym (c.currents x);
    lives = current_live x i r.5 r.6;
  })
  answered plan (entry.Trap t i cause) z r = (acts_for L us s own c p h t r.0 r.1 r.2 ∙ r.3, actor_live t r.0 r.1 i r.2 r.3)
  answered plan (entry.Kill t i) z r = c.opens t r.1.some r.1.within ∙ ap calls_of r.1.stack
  answered plan (entry.New t w o ty values) z r = tt
  answered plan (entry.Drop t o) z r = tt
  answered plan (entry.Set t o place values) z r = tt
  answered plan (entry.Wput t i place value) z r = tt
  answered plan (entry.Take t i slot o) z r = tt
  answered plan (entry.Put t i slot o) z r = tt
  answered plan (entry.DevGet t o b) z r = tt
  answered plan (entry.DevPut t b o) z r = tt
  answered plan (entry.Hang t o k v) z r = tt
  answered plan (entry.Unhang t o k v) z r = tt
  answered plan (entry.Show t o values) z r = tt
  answered plan (entry.Skip t number) z r = tt
  answered plan (entry.Done t) z r = tt
  answered plan (entry.Free o) z r = absurd r
