-- Shadows stand after every row: a reload spends one restart for one more instance, and no other row changes shadows or the loads of instances.
use Rattle.std.proofs.Common.{◌≡◌, ℕ, zero, suc, ◌+◌, ◌-◌, ◌==◌, Bool, true, false, cond, List, [], ◌∷◌, map, Option, Some, None, slice_get, slice_set, refl, ap, ap₂, sym, subst, ◌∙◌, arith, inl, inr}
use Rattle.machine_defs.specs.declared.entry.Entry.{Entry}
use Rattle.machine_defs.specs.declared.entry.Entry.TheVariants as entry
use Rattle.machine_defs.specs.declared.frame.Action.{Action}
use Rattle.machine_defs.specs.declared.frame.Answer.{Answer}
use Rattle.rl_defs.specs.declared.load.LoadRows.{LoadRows}
use Rattle.machine_defs.specs.State.{State, StackFrame, Instance, is_live, stack}
use Rattle.rl_defs.specs.Rows.{row}
use Rattle.machine_defs.specs.State.{top}
use Rattle.machine_defs.specs.Calling.{Wish}
use Rattle.machine_defs.specs.Seen.{with_instance}
use Rattle.machine_defs.specs.Frames.{Replies, AnswersTop, AnswersFrame}
use Rattle.machine_defs.specs.Calling.{wish}
use Rattle.machine_defs.specs.ObjectRows.{Does}
use Rattle.machine_defs.specs.Steps.{Row}
use Rattle.machine_defs.specs.Sound.{ShadowsStand, instances_of}
use Rattle.machine_laws.proofs.Wishes.{wish_as}
use Rattle.machine_laws.proofs.Parts.{load_of_instance}

-- the loads of instances, in order
abbrev pub loads_in : State → List ℕ
loads_in s = map (λ i. i.load) s.instances

-- two states have the same shadows, and instances of the same loads
pub record SameShadows (s z : State) : Type 0 where
  pub shadows : z.shadows ≡ s.shadows
  pub loads : loads_in z ≡ loads_in s

then : (s m z : State) → SameShadows s m → SameShadows m z → SameShadows s z
then s m z a b = record { shadows = b.shadows ∙ a.shadows; loads = b.loads ∙ a.loads }

alike : (s z : State) → z.shadows ≡ s.shadows → z.instances ≡ s.instances → SameShadows s z
alike s z shadows instances = record { shadows = shadows; loads = ap (map (λ i. i.load)) instances }

set_loads : (xs : List Instance) (k : ℕ) (x y : Instance) → slice_get xs k ≡ Some x → y.load ≡ x.load → map (λ i. i.load) (slice_set xs k y) ≡ map (λ i. i.load) xs
set_loads [] k x y is same = refl
set_loads (z ∷ zs) zero x y is same = let e : z ≡ x = cc in ap (λ n. n ∷ map (λ i. i.load) zs) (same ∙ ap (λ (i : Instance). i.load) (sym e))
set_loads (z ∷ zs) (suc k) x y is same = ap (λ ns. z.load ∷ ns) (set_loads zs k x y is same)

-- an instance that changes, but not its load
changed : (s : State) (i : ℕ) (change : Instance → Instance) → ((x : Instance) → (change x).load ≡ x.load) → SameShadows s (with_instance i change s)
changed s i change same = go (row s.instances i) refl
  where
    go : (found : Option Instance) → row s.instances i ≡ found → SameShadows s (with_instance i change s)
    go None e = rw e (alike s s refl refl)
    go (Some x) e = rw e (record { shadows = refl; loads = set_loads s.instances (i - 1) x (change x) (at i e) (same x) })
      where
        at : (i : ℕ) → row s.instances i ≡ Some x → slice_get s.instances (i - 1) ≡ Some x
        at zero e' = absurd cc
        at (suc i) e' = let same' : i ≡ suc i - 1 = omega arith in subst (λ k. slice_get s.instances k ≡ Some x) same' e'

reply_same : (L : LoadRows) (s z : State) (t : ℕ) (a : Answer) → Replies L s t a z → SameShadows s z
reply_same L s z t a replies = by_top (top (stack s t)) replies
  where
    by_life : (f : StackFrame) (lives : Bool) → AnswersFrame L s t f a lives z → SameShadows s z
    by_life f true r = alike s z (ap (λ (y : State). y.shadows) r.becomes) (ap (λ (y : State). y.instances) r.becomes)
    by_life f false r = alike s z (ap (λ (y : State). y.shadows) r) (ap (λ (y : State). y.instances) r)

    by_top : (f : Option StackFrame) → AnswersTop L s t a f z → SameShadows s z
    by_top None r = alike s z (ap (λ (y : State). y.shadows) r.becomes) (ap (λ (y : State). y.instances) r.becomes)
    by_top (Some f) r = by_life f (is_live s f.instance) r

wish_same : (L : LoadRows) (s : State) (t : ℕ) (w : Wish) → wish L s t ≡ Some w → SameShadows s w.charged
wish_same L s t w wants = elim (wish_as L s t w wants) [
  | inl c ↦ alike s w.charged (ap (λ (v : Wish). v.charged.shadows) c.is) (ap (λ (v : Wish). v.charged.instances) c.is)
  | inr f ↦ alike s w.charged (ap (λ (v : Wish). v.charged.shadows) f.is) (ap (λ (v : Wish). v.charged.instances) f.is)
]

-- a frame's action that changes an instance
does_same : (L : LoadRows) (s z : State) (t i : ℕ) (act : Action) (a : Answer) (j : ℕ) (change : Instance → Instance) → ((x : Instance) → (change x).load ≡ x.load) → Does L s t i act a (with_instance j change) z → SameShadows s z
does_same L s z t i act a j change same d = subst (SameShadows s) (sym d.becomes) (then s _ _ (alike s _ refl refl) (changed _ j change same))

abbrev pub IsReload : Entry → Type 0
IsReload (entry.Reload t x i left) = Unit {0}
IsReload _ = ⊥

pub same_row : (L : LoadRows) (s : State) (e : Entry) (z : State) → (IsReload e → ⊥) → Row L s e z → SameShadows s z
same_row L s (entry.Call t c x i m args) z other r = then s r.charged z (wish_same L s t _ r.wants) (alike r.charged z (ap (λ (y : State). y.shadows) r.becomes) (ap (λ (y : State). y.instances) r.becomes))
same_row L s (entry.Refuse t c why x m args) z other r = then s r.charged z (wish_same L s t _ r.wants) (then r.charged _ z (alike r.charged _ refl refl) (reply_same L _ z t _ r.replies))
same_row L s (entry.Ret t c results) z other r = then s _ z (alike s _ refl refl) (reply_same L _ z t _ r.replies)
same_row L s (entry.Unwound t c) z other r = then s _ z (alike s _ refl refl) (reply_same L _ z t _ r.replies)
same_row L s (entry.Reload t x i left) z other r = absurd (other tt)
same_row L s (entry.Again t c x i) z other r = alike s z (ap (λ (y : State). y.shadows) r.becomes) (ap (λ (y : State). y.instances) r.becomes)
same_row L s (entry.Trap t i cause) z other r = subst (SameShadows s) (sym r.becomes) (then s _ _ (alike s _ refl refl) (changed _ i _ (λ x. refl)))
same_row L s (entry.Kill t i) z other r = subst (SameShadows s) (sym r.becomes) (then s _ _ (alike s _ refl refl) (changed _ i _ (λ x. refl)))
same_row L s (entry.New t w o ty values) z other r = elim r.makes [
  | inl c ↦ alike s z (ap (λ (y : State). y.shadows) c.does.becomes) (ap (λ (y : State). y.instances) c.does.becomes)
  | inr f ↦ alike s z (ap (λ (y : State). y.shadows) f.does.becomes) (ap (λ (y : State). y.instances) f.does.becomes)
]
same_row L s (entry.Drop t o) z other r = elim r [
  | inl c ↦ alike s z (ap (λ (y : State). y.shadows) c.becomes) (ap (λ (y : State). y.instances) c.becomes)
  | inr f ↦ alike s z (ap (λ (y : State). y.shadows) f.1.becomes) (ap (λ (y : State). y.instances) f.1.becomes)
]
same_row L s (entry.Set t o k values) z other r = alike s z (ap (λ (y : State). y.shadows) r.1.becomes) (ap (λ (y : State). y.instances) r.1.becomes)
same_row L s (entry.Wput t i k v) z other r = does_same L s z t i _ _ i _ (λ x. refl) r
same_row L s (entry.Take t i slot o) z other r = does_same L s z t i _ _ i _ (λ x. refl) r.does
same_row L s (entry.Put t i slot o) z other r = does_same L s z t i _ _ i _ (λ x. refl) r.does
same_row L s (entry.DevGet t o b) z other r = alike s z (ap (λ (y : State). y.shadows) r.1.becomes) (ap (λ (y : State). y.instances) r.1.becomes)
same_row L s (entry.DevPut t b o) z other r = alike s z (ap (λ (y : State). y.shadows) r.1.becomes) (ap (λ (y : State). y.instances) r.1.becomes)
same_row L s (entry.Hang t o k v) z other r = alike s z (ap (λ (y : State). y.shadows) r.does.becomes) (ap (λ (y : State). y.instances) r.does.becomes)
same_row L s (entry.Unhang t o k v) z other r = alike s z (ap (λ (y : State). y.shadows) r.does.becomes) (ap (λ (y : State). y.instances) r.does.becomes)
same_row L s (entry.Show t o values) z other r = alike s z (ap (λ (y : State). y.shadows) r.does.becomes) (ap (λ (y : State). y.instances) r.does.becomes)
same_row L s (entry.Skip t number) z other r = alike s z (ap (λ (y : State). y.shadows) r.becomes) (ap (λ (y : State). y.instances) r.becomes)
same_row L s (entry.Done t) z other r = alike s z (ap (λ (y : State). y.shadows) r.becomes) (ap (λ (y : State). y.instances) r.becomes)
same_row L s (entry.Free o) z other r = absurd r

-- counts and loads are read off the loads alone
counts_by : (k : ℕ) (xs ys : List Instance) → map (λ i. i.load) xs ≡ map (λ i. i.load) ys → instances_of k xs ≡ instances_of k ys
counts_by k [] [] e = refl
counts_by k [] (y ∷ ys) e = absurd cc
counts_by k (x ∷ xs) [] e = absurd cc
counts_by k (x ∷ xs) (y ∷ ys) e =
    let first : x.load ≡ y.load = cc in
    let rest : map (λ i. i.load) xs ≡ map (λ i. i.load) ys = cc in
    ap₂ (λ n m. (cond (n == k) 1 0) + m) first (counts_by k xs ys rest)

loads_by : (xs ys : List Instance) → map (λ i. i.load) xs ≡ map (λ i. i.load) ys → (i : ℕ) → load_of_instance (row xs i) ≡ load_of_instance (row ys i)
loads_by [] [] e i = refl
loads_by [] (y ∷ ys) e i = absurd cc
loads_by (x ∷ xs) [] e i = absurd cc
loads_by (x ∷ xs) (y ∷ ys) e zero = refl
loads_by (x ∷ xs) (y ∷ ys) e (suc zero) = cc
loads_by (x ∷ xs) (y ∷ ys) e (suc (suc i)) = let rest : map (λ i. i.load) xs ≡ map (λ i. i.load) ys = cc in loads_by xs ys rest (suc i)

pub still_stand : (L : LoadRows) (s z : State) → SameShadows s z → ShadowsStand L s → ShadowsStand L z
still_stand L s z same stand = record {
  current = λ k shadow x here there. loads_by z.instances s.instances same.loads shadow.current ∙ stand.current k shadow x (sym (ap (λ xs. row xs k) same.shadows) ∙ here) there;
  left = λ k shadow x here there. ap (λ n. shadow.left + n) (counts_by x.load z.instances s.instances same.loads) ∙ stand.left k shadow x (sym (ap (λ xs. row xs k) same.shadows) ∙ here) there;
}
