-- Stacks whose frames fit: frames that stay, that change on top, that come and go.
use Rattle.std.proofs.Common.{◌≡◌, true, List, [], ◌∷◌, ◌++◌, refl, ap}
use Rattle.rl_defs.specs.declared.load.LoadRows.{LoadRows}
use Rattle.machine_defs.specs.State.{State, StackFrame, is_live}
use Rattle.machine_laws.specs.Fitting.{StackFits, CallsFit}
use Rattle.machine_laws.proofs.Retyping.{Agrees, body_kept}

-- two states agree on the live frames of a stack
abbrev pub AllAgree : LoadRows → State → State → List StackFrame → Type 0
AllAgree L s z [] = Unit {0}
AllAgree L s z (f ∷ fs) = (is_live z f.instance ≡ true → (is_live s f.instance ≡ true) × Agrees L s z f) × AllAgree L s z fs

pub stack_kept : (L : LoadRows) (s z : State) (fs : List StackFrame) → AllAgree L s z fs → StackFits L s fs → StackFits L z fs
stack_kept L s z [] agree fits = tt
stack_kept L s z (f ∷ fs) agree fits = (
  λ lives. (let a = agree.0 lives in body_kept L s z f a.1 fs f.body refl (fits.0 a.0)),
  stack_kept L s z fs agree.1 fits.1,
)

pub agree_each : (L : LoadRows) (s z : State) (fs : List StackFrame) → ((below above : List StackFrame) (f : StackFrame) → fs ≡ below ++ f ∷ above → is_live z f.instance ≡ true → (is_live s f.instance ≡ true) × Agrees L s z f) → AllAgree L s z fs
agree_each L s z [] each = tt
agree_each L s z (f ∷ fs) each = (each [] fs f refl, agree_each L s z fs (λ below above g is. each (f ∷ below) above g (ap (λ rest. f ∷ rest) is)))

-- the frames below the top fit below any top of the same method
abbrev pub BelowFits : LoadRows → State → List StackFrame → StackFrame → Type 0
BelowFits L s below top' = (h : StackFrame) (rest : List StackFrame) → h.target ≡ top'.target → h.method ≡ top'.method → h.args ≡ top'.args → (StackFits L s (h ∷ rest)) → StackFits L s (below ++ h ∷ rest)

pub fits_split : (L : LoadRows) (s : State) (below rest : List StackFrame) (f : StackFrame) → StackFits L s (below ++ f ∷ rest) → StackFits L s (f ∷ rest)
fits_split L s [] rest f fits = fits
fits_split L s (g ∷ below) rest f fits = fits_split L s below rest f fits.1

-- the calls of frames
pub calls_back : (L : LoadRows) (s : State) (fs gs : List StackFrame) → CallsFit L s (fs ++ gs) → CallsFit L s gs
calls_back L s [] gs fits = fits
calls_back L s (f ∷ fs) gs fits = calls_back L s fs gs fits.1
