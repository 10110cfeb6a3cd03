-- The readings of a history that tell the frames, the instances and the calls.
use Rattle.machine_defs.specs.Arguments.{lent_of}
use Rattle.machine_defs.specs.Loans.{count}
use Rattle.std.proofs.Common.{◌≡◌, ℕ, suc, ◌+◌, ◌<◌, ◌≤◌, ◌==◌, Bool, true, false, cond, not, List, [], ◌∷◌, refl, sym, ◌∙◌, subst, arith, length, filter, map, if◌then◌else◌}
use Rattle.std.proofs.lemmas.Bool.{eq-eqb, ne_eqb}
use Rattle.machine_defs.specs.declared.values.Owner.{Owner}
use Rattle.machine_defs.specs.declared.values.Owner.TheVariants as owner
use Rattle.machine_defs.specs.declared.entry.Entry.{Entry}
use Rattle.rl_defs.specs.declared.load.LoadRows.{LoadRows}
use Rattle.machine_defs.specs.Entries.{thread_of}
use Rattle.machine_defs.specs.Steps.{Turn}
use Rattle.machine_defs.specs.History.{OpenCall, open_after, open_calls, actor_in, ends, ended_at, current_after, current_at, is_call, calls_made, is_reload, reloads_made, is_reload_of, reloads_of, restarts_of}
use Rattle.machine_laws.specs.Ledger.{LedgerFrame, Ledger, at, lent_in}
use Rattle.machine_laws.specs.LedgerRows.{Runs}
use Rattle.machine_laws.specs.LedgerSound.{Grounded, Placed}
use Rattle.machine_laws.proofs.OneStack.{at_each}

-- the open call that a frame stands for
abbrev pub inside_of : Owner → ℕ
inside_of (owner.Client t) = 0
inside_of (owner.Instance i) = i

abbrev pub call_of : LedgerFrame → OpenCall
call_of f = record { call = f.call; target = f.target; method = f.method; args = f.args; inside = inside_of f.party }

abbrev pub calls_of : List LedgerFrame → List OpenCall
calls_of [] = []
calls_of (f ∷ []) = []
calls_of (f ∷ g ∷ fs) = call_of f ∷ calls_of (g ∷ fs)

pub record CallsAgreeIn (L : LoadRows) (us : List Turn) (live : ℕ → Bool) (stack : ℕ → List LedgerFrame) (current left : ℕ → ℕ) (next_instance next_call : ℕ) : Type 0 where
  pub opens : (t : ℕ) → 0 < t → t ≤ length L.clients → open_calls us t ≡ calls_of (stack t)
  pub ends : (i : ℕ) → 0 < i → i < next_instance → ended_at us i ≡ not (live i)
  pub never : (i : ℕ) → next_instance ≤ i → ended_at us i ≡ false
  pub currents : (x : ℕ) → current_at L us x ≡ current x
  pub calls : suc (calls_made us) ≡ next_call
  pub instances : length L.loads + suc (reloads_made us) ≡ next_instance
  pub reloads : (x : ℕ) → left x + reloads_of us x ≡ restarts_of L x

abbrev pub CallsAgree : LoadRows → List Turn → Ledger → Type 0
CallsAgree L us s = CallsAgreeIn L us s.live s.stack s.current s.left s.next_instance s.next_call

pub cond_same : {A : Type 0} (b : Bool) (x : A) → cond b x x ≡ x
cond_same true x = refl
cond_same false x = refl

pub calls_of_own : (f : LedgerFrame) (mine : List ℕ) (fs : List LedgerFrame) → calls_of (record f { own = mine } ∷ fs) ≡ calls_of (f ∷ fs)
calls_of_own f mine [] = refl
calls_of_own f mine (g ∷ fs) = refl

pub grounded_own : (L : LoadRows) (loads : ℕ → ℕ) (ni nc t : ℕ) (f : LedgerFrame) (mine : List ℕ) (fs : List LedgerFrame) → Grounded L loads ni nc t (f ∷ fs) → Grounded L loads ni nc t (record f { own = mine } ∷ fs)
grounded_own L loads ni nc t f mine [] g = g
grounded_own L loads ni nc t f mine (h ∷ fs) g = g

-- of the frames of a client's stack, and of who runs on top of it
pub ground : (L : LoadRows) (s : Ledger) → Placed L s → (t : ℕ) (f : LedgerFrame) (fs : List LedgerFrame) → 0 < t → t ≤ length L.clients → s.stack t ≡ f ∷ fs → Grounded L s.loads s.next_instance s.next_call t (f ∷ fs)
ground L s p t f fs pos le is = rw is at (p.grounded t pos le)

pub party_opened : (L : LoadRows) (loads : ℕ → ℕ) (ni nc t : ℕ) (f : LedgerFrame) (fs : List LedgerFrame) (i : ℕ) → Grounded L loads ni nc t (f ∷ fs) → f.party ≡ owner.Instance i → (0 < i) × (i < ni)
party_opened L loads ni nc t f [] i g is = absurd (cc (g.0, is))
party_opened L loads ni nc t f (h ∷ fs) i g is = let low = g.0.2 in let high = g.0.3 in let e : g.0.0 ≡ i = cc (g.0.1, is) in (omega arith, omega arith)

pub grounded_more : (L : LoadRows) (loads loads' : ℕ → ℕ) (ni ni' nc nc' t : ℕ) → ((i : ℕ) → i < ni → loads' i ≡ loads i) → ni ≤ ni' → nc ≤ nc' → (fs : List LedgerFrame) → Grounded L loads ni nc t fs → Grounded L loads' ni' nc' t fs
grounded_more L loads loads' ni ni' nc nc' t same le le' [] g = g
grounded_more L loads loads' ni ni' nc nc' t same le le' (f ∷ []) g = (g.0, g.1, omega (arith, g.2))
grounded_more L loads loads' ni ni' nc nc' t same le le' (f ∷ h ∷ fs) g =
    ((let p = g.0 in (p.0, p.1, p.2, omega (arith, p.3), same p.0 p.3 ∙ p.4)), g.1, g.2, omega (arith, g.3), grounded_more L loads loads' ni ni' nc nc' t same le le' (h ∷ fs) g.4)

-- who acts is the party of the top frame
pub actor_top : (L : LoadRows) (loads : ℕ → ℕ) (ni nc t : ℕ) (f : LedgerFrame) (fs : List LedgerFrame) → Grounded L loads ni nc t (f ∷ fs) → actor_in t (calls_of (f ∷ fs)) ≡ f.party
actor_top L loads ni nc t f [] g = sym g.0
actor_top L loads ni nc t f (h ∷ fs) g = let e = g.0.1 in rw e refl

-- what is left of open calls when one is closed or issued again, and how often they lend an object
abbrev pub closed : ℕ → List OpenCall → List OpenCall
closed c os = filter (λ o. not (o.call == c)) os

abbrev pub issued_again : ℕ → ℕ → List OpenCall → List OpenCall
issued_again c i os = map (λ (o : OpenCall). if o.call == c then record o { inside = i } else o) os

abbrev pub lent_in_calls : ℕ → List OpenCall → ℕ
lent_in_calls o [] = 0
lent_in_calls o (c ∷ cs) = count o (lent_of c.args) + lent_in_calls o cs

-- closing the newest call leaves the others, which have smaller numbers
pub closed_less : (L : LoadRows) (loads : ℕ → ℕ) (ni nc t c : ℕ) (f : LedgerFrame) (fs : List LedgerFrame) → Grounded L loads ni nc t (f ∷ fs) → f.call < c → closed c (calls_of (f ∷ fs)) ≡ calls_of (f ∷ fs)
closed_less L loads ni nc t c f [] g less = refl
closed_less L loads ni nc t c f (h ∷ fs) g less = rw (ne_eqb f.call c (λ e. omega arith), closed_less L loads ni nc t c h fs g.4 (let l = g.2 in omega arith)) refl

pub closed_top : (L : LoadRows) (loads : ℕ → ℕ) (ni nc t : ℕ) (f h : LedgerFrame) (fs : List LedgerFrame) → Grounded L loads ni nc t (f ∷ h ∷ fs) → closed f.call (calls_of (f ∷ h ∷ fs)) ≡ calls_of (h ∷ fs)
closed_top L loads ni nc t f h fs g = rw (eq-eqb f.call f.call refl) (closed_less L loads ni nc t f.call h fs g.4 g.2)

pub closed_newest : (L : LoadRows) (loads : ℕ → ℕ) (ni nc t n : ℕ) (f g : LedgerFrame) (fs : List LedgerFrame) → n ≡ f.call → Grounded L loads ni nc t (f ∷ g ∷ fs) → closed n (calls_of (f ∷ g ∷ fs)) ≡ calls_of (g ∷ fs)
closed_newest L loads ni nc t n f g fs is ground = subst (λ m. closed m (calls_of (f ∷ g ∷ fs)) ≡ calls_of (g ∷ fs)) (sym is) (closed_top L loads ni nc t f g fs ground)

pub again_less : (L : LoadRows) (loads : ℕ → ℕ) (ni nc t c i : ℕ) (f : LedgerFrame) (fs : List LedgerFrame) → Grounded L loads ni nc t (f ∷ fs) → f.call < c → issued_again c i (calls_of (f ∷ fs)) ≡ calls_of (f ∷ fs)
again_less L loads ni nc t c i f [] g less = refl
again_less L loads ni nc t c i f (h ∷ fs) g less = rw (ne_eqb f.call c (λ e. omega arith), again_less L loads ni nc t c i h fs g.4 (let l = g.2 in omega arith)) refl

-- loans by the open calls and by the frames
pub lent_same : (L : LoadRows) (loads : ℕ → ℕ) (ni nc t o : ℕ) (fs : List LedgerFrame) → Grounded L loads ni nc t fs → lent_in_calls o (calls_of fs) ≡ lent_in o fs
lent_same L loads ni nc t o [] g = refl
lent_same L loads ni nc t o (f ∷ []) g = let e = g.1 in rw e refl
lent_same L loads ni nc t o (f ∷ h ∷ fs) g = let e = g.1 in let r = lent_same L loads ni nc t o (h ∷ fs) g.4 in rw (e, r) refl

-- an entry that opens and closes no call, ends no instance and reloads nothing
pub record IsQuiet (e : Entry) : Type 0 where
  pub opens : (os : List OpenCall) → open_after e os ≡ os
  pub ends : (i : ℕ) → ends i e ≡ false
  pub currents : (x j : ℕ) → current_after x e j ≡ j
  pub calls : is_call e ≡ 0
  pub loads : is_reload e ≡ 0
  pub reloads : (x : ℕ) → is_reload_of x e ≡ 0

module _ (L : LoadRows) (us : List Turn) (s : Ledger) (c : CallsAgree L us s) (u : Turn) where
  -- the open calls after an entry of a thread whose stack changes
  pub opens_at : 0 < (thread_of u.entry) → (thread_of u.entry) ≤ length L.clients → (new : List LedgerFrame) → open_after u.entry (calls_of (s.stack (thread_of u.entry))) ≡ calls_of new
      → (t : ℕ) → 0 < t → t ≤ length L.clients → open_calls (u ∷ us) t ≡ calls_of (at (thread_of u.entry) new s.stack t)
  opens_at pos' le' new is t pos le = at_each (λ k fs. 0 < k → k ≤ length L.clients → open_calls (u ∷ us) k ≡ calls_of fs) (thread_of u.entry) new s.stack t
      (λ p l. rw (eq-eqb (thread_of u.entry) (thread_of u.entry) refl, c.opens (thread_of u.entry) pos' le') is)
      (λ ne p l. rw (ne_eqb (thread_of u.entry) t (λ e. ne (sym e))) (c.opens t p l)) pos le

  pub quiet_calls : IsQuiet u.entry → CallsAgree L (u ∷ us) s
  quiet_calls q = record {
    opens = λ t pos le. rw (q.opens (open_calls us t), cond_same (thread_of u.entry == t) (open_calls us t)) (c.opens t pos le);
    ends = λ i pos lt. rw (q.ends i) (c.ends i pos lt);
    never = λ i le. rw (q.ends i) (c.never i le);
    currents = λ x. rw (q.currents x (current_at L us x)) (c.currents x);
    calls = let z = q.calls in let r = c.calls in omega arith;
    instances = let z = q.loads in let r = c.instances in omega arith;
    reloads = λ x. let z = q.reloads x in let r = c.reloads x in omega arith;
  }

  -- the same where the top frame's own objects change
  pub quiet_top : IsQuiet u.entry → (f : LedgerFrame) (fs : List LedgerFrame) (mine : List ℕ) → Runs L s (thread_of u.entry) f fs
      → CallsAgreeIn L (u ∷ us) s.live (at (thread_of u.entry) (record f { own = mine } ∷ fs) s.stack) s.current s.left s.next_instance s.next_call
  quiet_top q f fs mine runs = let r = quiet_calls q in record {
    opens = opens_at runs.some runs.within (record f { own = mine } ∷ fs) (rw (runs.stack, q.opens (calls_of (f ∷ fs))) (sym (calls_of_own f mine fs)));
    ends = r.ends;
    never = r.never;
    currents = r.currents;
    calls = r.calls;
    instances = r.instances;
    reloads = r.reloads;
  }
