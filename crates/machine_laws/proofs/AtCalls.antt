-- A client with frames stands at the call of the lowest of them: what keeps that so.
use Rattle.std.proofs.Common.{◌≡◌, ℕ, List, [], ◌∷◌, ◌++◌, Some, slice_get, refl, ap, sym, subst, ◌∙◌, inl, inr}
use Rattle.std.proofs.lemmas.Bool.{cases_eq}
use Rattle.rl_defs.specs.declared.load.LoadRows.{LoadRows}
use Rattle.rl_defs.specs.declared.load.Command.TheVariants as command
use Rattle.machine_defs.specs.State.{State, StackFrame, Thread, stack}
use Rattle.rl_defs.specs.Rows.{row}
use Rattle.machine_defs.specs.Loans.{sweep}
use Rattle.machine_defs.specs.State.{top}
use Rattle.rl_defs.specs.Rows.{commands_of}
use Rattle.machine_defs.specs.Frames.{below_top}
use Rattle.machine_laws.specs.AtCall.{IsCallOf, AtCall}
use Rattle.machine_laws.proofs.Turning.{Turned}

-- the lowest frame of the new frames is for the same target and method as that of the old ones
abbrev pub SameLowest : List StackFrame → List StackFrame → Type 0
SameLowest old new = (f : StackFrame) (above : List StackFrame) → new ≡ f ∷ above → (h : StackFrame) × (rest : List StackFrame) × (old ≡ h ∷ rest) × (f.target ≡ h.target) × (f.method ≡ h.method)

pub lowest_self : (fs : List StackFrame) → SameLowest fs fs
lowest_self fs f above is = (f, above, is, refl, refl)

pub lowest_then : (fs gs hs : List StackFrame) → SameLowest fs gs → SameLowest gs hs → SameLowest fs hs
lowest_then fs gs hs first second f above is =
    let b = second f above is in
    let a = first b.0 b.1 b.2 in
    (a.0, a.1, a.2, b.3 ∙ a.3, b.4 ∙ a.4)

pub lowest_top : (fs : List StackFrame) (f g : StackFrame) → top fs ≡ Some f → g.target ≡ f.target → g.method ≡ f.method → SameLowest fs (below_top fs ++ g ∷ [])
lowest_top [] f g on_top target method h above is = absurd cc
lowest_top (k ∷ []) f g on_top target method h above is =
    let same : k ≡ f = cc in
    let here : g ≡ h = cc in
    (k, [], refl, ap (λ (x : StackFrame). x.target) (sym here) ∙ target ∙ ap (λ (x : StackFrame). x.target) (sym same), ap (λ (x : StackFrame). x.method) (sym here) ∙ method ∙ ap (λ (x : StackFrame). x.method) (sym same))
lowest_top (k ∷ (l ∷ ls)) f g on_top target method h above is =
    let here : k ≡ h = cc in
    (k, l ∷ ls, refl, ap (λ (x : StackFrame). x.target) (sym here), ap (λ (x : StackFrame). x.method) (sym here))

pub lowest_popped : (fs : List StackFrame) → SameLowest fs (below_top fs)
lowest_popped [] h above is = absurd cc
lowest_popped (k ∷ []) h above is = absurd cc
lowest_popped (k ∷ (l ∷ ls)) h above is =
    let here : k ≡ h = cc in
    (k, l ∷ ls, refl, ap (λ (x : StackFrame). x.target) (sym here), ap (λ (x : StackFrame). x.method) (sym here))

pub lowest_pushed : (fs : List StackFrame) (f g : StackFrame) → top fs ≡ Some f → SameLowest fs (fs ++ g ∷ [])
lowest_pushed [] f g on_top h above is = absurd cc
lowest_pushed (k ∷ ks) f g on_top h above is =
    let here : k ≡ h = cc in
    (k, ks, refl, ap (λ (x : StackFrame). x.target) (sym here), ap (λ (x : StackFrame). x.method) (sym here))

-- what the frames stand at, where the script is at the same place
pub stands_at : (L : LoadRows) (s : State) (t place : ℕ) (old : Thread) (frames : List StackFrame) → AtCall L s t → row s.threads t ≡ Some old → place ≡ old.place → SameLowest (stack s t) frames
    → (f : StackFrame) (above : List StackFrame) → frames ≡ f ∷ above → IsCallOf (slice_get (commands_of (row L.clients t)) place) f.target f.method
stands_at L s t place old frames at of same lowest f above is =
    let l = lowest f above is in
    let c = at.calls l.0 l.1 old l.2 of in (
      c.0,
      c.1,
      ap (slice_get (commands_of (row L.clients t))) same ∙ c.2
          ∙ ap (λ x. Some (command.Call x l.0.method c.0 c.1)) (sym l.3) ∙ ap (λ m. Some (command.Call f.target m c.0 c.1)) (sym l.4),
    )

-- a step of one client keeps where all stand
pub at_calls_kept : (L : LoadRows) (s z : State) (t : ℕ) (frames : List StackFrame) (new : Thread) → ((u : ℕ) → AtCall L s u) → Turned s z t frames new
    → ((f : StackFrame) (above : List StackFrame) → frames ≡ f ∷ above → IsCallOf (slice_get (commands_of (row L.clients t)) new.place) f.target f.method) → (u : ℕ) → AtCall L z u
at_calls_kept L s z t frames new all turned stands u = elim (cases_eq u t) [
  | inl same ↦ subst (AtCall L z) (sym same) (record {
    calls = λ f above thread is of.
        let at = stands f above (sym turned.here ∙ is) in
        let e : new ≡ thread = (let a = turned.thread in cc (a, of)) in
        subst (λ (x : Thread). IsCallOf (slice_get (commands_of (row L.clients t)) x.place) f.target f.method) e at;
  })
  | inr apart ↦ record { calls = λ f above thread is of. (all u).calls f above thread (sym (turned.other_stacks u apart) ∙ is) (sym (turned.other_threads u apart) ∙ of) }
]

pub at_call_swept : (L : LoadRows) (s : State) (t : ℕ) → AtCall L s t → AtCall L (sweep s) t
at_call_swept L s t at = record { calls = λ f above thread is of. at.calls f above thread is of }
