-- Frames whose calls fit in the state before a row, with their loans in its heap: those of its stacks, whatever their body, and those that begin.
use Rattle.std.proofs.Common.{◌≡◌, ℕ, zero, suc, ◌-◌, Bool, true, false, List, [], ◌∷◌, ◌++◌, Option, Some, None, slice_get, slice_set, refl, ap, sym, subst, ◌∙◌, append_assoc}
use Rattle.std.proofs.lemmas.Bool.{eq-eqb, and_parts}
use Rattle.machine_defs.specs.declared.values.Arg.{Arg}
use Rattle.machine_defs.specs.declared.values.Arg.TheVariants as arg
use Rattle.rl_defs.specs.declared.tables.Kind.{Kind}
use Rattle.rl_defs.specs.declared.tables.Kind.TheVariants as kind
use Rattle.machine_defs.specs.declared.entry.Entry.{Entry}
use Rattle.machine_defs.specs.declared.frame.Action.{Action}
use Rattle.machine_defs.specs.declared.frame.Answer.{Answer}
use Rattle.machine_defs.specs.declared.frame.FrameBody.{FrameBody}
use Rattle.rl_defs.specs.declared.load.LoadRows.{LoadRows}
use Rattle.rl_defs.specs.Registers.{Typing}
use Rattle.machine_defs.specs.State.{State, StackFrame, Root, is_live, stack, with_stack, frames_of}
use Rattle.rl_defs.specs.Rows.{row}
use Rattle.machine_defs.specs.Loans.{sweep as sweep_state}
use Rattle.machine_defs.specs.Arguments.{has, lent_of}
use Rattle.machine_defs.specs.State.{top}
use Rattle.machine_defs.specs.NativeFits.{arg_suits, args_suit}
use Rattle.machine_defs.specs.Seen.{types_of}
use Rattle.machine_defs.specs.Frames.{below_top, with_top, with_body, Replies, AnswersTop, AnswersFrame}
use Rattle.machine_defs.specs.Sound.{arg_stands, args_stand}
use Rattle.machine_defs.specs.Steps.{Row as RowOf}
use Rattle.machine_laws.specs.LedgerOf.{ledger_of}
use Rattle.machine_laws.specs.LedgerSound.{Owned, Placed}
use Rattle.machine_laws.specs.Shape.{Laid}
use Rattle.machine_laws.specs.Fitting.{CallFits, CallsFit}
use Rattle.machine_laws.proofs.Seats.{IsIn}
use Rattle.machine_laws.proofs.Present.{lent_root, seated}
use Rattle.machine_laws.proofs.FrameRows.{answered_same}
use Rattle.machine_laws.proofs.Agreeing.{laid_z, types_old}
use Rattle.machine_laws.proofs.Retyping.{lent_later}

-- a frame whose call fits in s, with what was lent to it in the heap of s; each of a stack; and each of all stacks of another state
pub record Known (L : LoadRows) (s : State) (f : StackFrame) : Type 0 where
  pub fits : CallFits L s f
  pub there : (o : ℕ) → has f.lent o ≡ true → IsIn s o

abbrev pub AllKnown : LoadRows → State → List StackFrame → Type 0
AllKnown L s [] = Unit {0}
AllKnown L s (f ∷ fs) = Known L s f × AllKnown L s fs

abbrev pub KnownIn : LoadRows → State → State → Type 0
KnownIn L s m = (u : ℕ) → AllKnown L s (stack m u)

-- arguments that suit their parameters stand
arg_suiting : (types : Typing) (k : Kind) (a : Arg) → arg_suits types k a ≡ true → arg_stands types k a ≡ true
arg_suiting types k (arg.Num n) is = is
arg_suiting types k (arg.Lent o) is = is
arg_suiting types k (arg.Cap x) is = is
arg_suiting types (kind.Own ty) (arg.Moved o) is = refl
arg_suiting types other (arg.Moved o) is = absurd cc

pub args_suiting : (types : Typing) (kinds : List Kind) (args : List Arg) → args_suit types kinds args ≡ true → args_stand types kinds args ≡ true
args_suiting types [] [] is = refl
args_suiting types (k ∷ kinds) (a ∷ args) is =
    let parts = and_parts (arg_suits types k a) (args_suit types kinds args) is in
    rw (arg_suiting types k a parts.0, args_suiting types kinds args parts.1) refl
args_suiting types [] (a ∷ args) is = absurd cc
args_suiting types (k ∷ kinds) [] is = absurd cc

-- arguments that stand, stand on where what they lend is of the same structs
arg_standing : (types other : Typing) (k : Kind) (a : Arg) (args : List Arg) → ((o : ℕ) → has (lent_of (a ∷ args)) o ≡ true → other.struct_of o ≡ types.struct_of o) → ((x : ℕ) → other.trait_of x ≡ types.trait_of x) → arg_stands types k a ≡ true → arg_stands other k a ≡ true
arg_standing types other k (arg.Moved o) args lent targets is = is
arg_standing types other (kind.Num w) (arg.Num n) args lent targets is = is
arg_standing types other (kind.Lent ty) (arg.Lent o) args lent targets is = rw (lent o (rw (eq-eqb o o refl) refl)) is
arg_standing types other (kind.Cap t) (arg.Cap x) args lent targets is = rw (targets x) is
arg_standing types other k a args lent targets is = absurd cc

pub args_standing : (types other : Typing) (kinds : List Kind) (args : List Arg) → ((o : ℕ) → has (lent_of args) o ≡ true → other.struct_of o ≡ types.struct_of o) → ((x : ℕ) → other.trait_of x ≡ types.trait_of x) → args_stand types kinds args ≡ true → args_stand other kinds args ≡ true
args_standing types other [] [] lent targets is = refl
args_standing types other (k ∷ kinds) (a ∷ args) lent targets is =
    let parts = and_parts (arg_stands types k a) (args_stand types kinds args) is in
    rw (
      arg_standing types other k a args lent targets parts.0,
      args_standing types other kinds args (λ o h. lent o (lent_later a args o h)) targets parts.1,
    ) refl
args_standing types other [] (a ∷ args) lent targets is = absurd cc
args_standing types other (k ∷ kinds) [] lent targets is = absurd cc

-- a set row is the new one, and the others stay
pub set_each : {A : Type 0} (P : Option A → Type 0) (xs : List A) (n : ℕ) (y : A) → ((k : ℕ) → P (slice_get xs k)) → P (Some y) → (k : ℕ) → P (slice_get (slice_set xs n y) k)
set_each P [] n y each new k = each k
set_each P (x ∷ xs) zero y each new zero = new
set_each P (x ∷ xs) zero y each new (suc k) = each (suc k)
set_each P (x ∷ xs) (suc n) y each new zero = each zero
set_each P (x ∷ xs) (suc n) y each new (suc k) = set_each P xs n y (λ j. each (suc j)) new k

module _ (L : LoadRows) (s : State) where
  -- a call fits whatever the frame's body
  pub known_body : (f : StackFrame) (b : FrameBody Action) → Known L s f → Known L s (with_body f b)
  known_body f b known = record {
    fits = record { target = known.fits.target; method = known.fits.method; row = known.fits.row; args = known.fits.args; lent = known.fits.lent };
    there = known.there;
  }

  pub known_same : (f g : StackFrame) → g ≡ with_body f g.body → Known L s f → Known L s g
  known_same f g is known = subst (Known L s) (sym is) (known_body f g.body known)

  pub known_top : (fs : List StackFrame) (f : StackFrame) → AllKnown L s fs → top fs ≡ Some f → Known L s f
  known_top [] f all' e = absurd cc
  known_top (g ∷ []) f all' e = let same : g ≡ f = cc in subst (Known L s) same all'.0
  known_top (g ∷ (h ∷ hs)) f all' e = known_top (h ∷ hs) f all'.1 e

  pub known_below : (fs : List StackFrame) → AllKnown L s fs → AllKnown L s (below_top fs)
  known_below [] all' = tt
  known_below (f ∷ []) all' = tt
  known_below (f ∷ (g ∷ fs)) all' = (all'.0, known_below (g ∷ fs) all'.1)

  pub known_push : (fs : List StackFrame) (f : StackFrame) → AllKnown L s fs → Known L s f → AllKnown L s (fs ++ f ∷ [])
  known_push [] f all' known = (known, tt)
  known_push (g ∷ fs) f all' known = (all'.0, known_push fs f all'.1 known)

  -- stacks of which one is set to frames that are known
  pub known_set : (m : State) (t : ℕ) (fs : List StackFrame) → KnownIn L s m → AllKnown L s fs → KnownIn L s (with_stack m t fs)
  known_set m t fs known new zero = known zero
  known_set m t fs known new (suc u) = set_each (λ found. AllKnown L s (frames_of found)) m.stacks (t - 1) fs (λ k. known (suc k)) new u

  pub known_topped : (m : State) (t : ℕ) (f : StackFrame) → KnownIn L s m → Known L s f → KnownIn L s (with_top t f m)
  known_topped m t f known new = known_set m t (below_top (stack m t) ++ f ∷ []) known (known_push (below_top (stack m t)) f (known_below (stack m t) (known t)) new)

  pub known_stacks : (m z : State) → z.stacks ≡ m.stacks → KnownIn L s m → KnownIn L s z
  known_stacks m z same known u = subst (λ st. AllKnown L s (frames_of (row st u))) (sym same) (known u)

  -- an answered frame is one of the stacks with another body
  pub known_replied : (m z : State) (t : ℕ) (a : Answer) → KnownIn L s m → Replies L m t a z → KnownIn L s z
  known_replied m z t a known replies = by_top (top (stack m t)) refl replies
    where
      by_live : (f : StackFrame) → top (stack m t) ≡ Some f → (b : Bool) → AnswersFrame L m t f a b z → KnownIn L s z
      by_live f is false answers = known_stacks m z (ap (λ (y : State). y.stacks) answers) known
      by_live f is true answers = subst (KnownIn L s) (sym answers.becomes)
          (known_topped m t answers.frame known (known_same f answers.frame (answered_same L z f a f.body answers.frame answers.answers) (known_top (stack m t) f (known t) is)))

      by_top : (found : Option StackFrame) → top (stack m t) ≡ found → AnswersTop L m t a found z → KnownIn L s z
      by_top None is answers = known_stacks m z (ap (λ (y : State). y.stacks) answers.becomes) known
      by_top (Some f) is answers = by_live f is (is_live m f.instance) answers

-- the frames of a state in which calls fit are known in it
pub known_before : (L : LoadRows) (s : State) → Laid L s → Owned L (ledger_of L s) → ((t : ℕ) → CallsFit L s (stack s t)) → KnownIn L s s
known_before L s laid owned fits t = go [] (stack s t) refl (fits t)
  where
    go : (front fs : List StackFrame) → stack s t ≡ front ++ fs → CallsFit L s fs → AllKnown L s fs
    go front [] is fits' = tt
    go front (f ∷ fs) is fits' = (
      record { fits = fits'.0; there = λ o lent. (let root = lent_root L s laid owned t o front fs f is lent in seated s o (Root root.0) root.1) },
      go (front ++ f ∷ []) fs (is ∙ sym (append_assoc front (f ∷ []) fs)) fits'.1,
    )

-- where the frames of a row's stacks are known before it, their calls fit after it and its sweep
module _ (L : LoadRows) (s : State) (e : Entry) (made : State) (laid : Laid L s) (owned : Owned L (ledger_of L s)) (placed : Placed L (ledger_of L s)) (r : RowOf L s e made) (owned' : Owned L (ledger_of L (sweep_state made))) where
  known_fits : (u : ℕ) (below above : List StackFrame) (f : StackFrame) → stack (sweep_state made) u ≡ below ++ f ∷ above → Known L s f → CallFits L (sweep_state made) f
  known_fits u below above f here known = record {
    target = known.fits.target;
    method = known.fits.method;
    row = known.fits.row;
    args = args_standing (types_of L s) (types_of L (sweep_state made)) known.fits.method.params f.args
        (λ o some. (
        let lent : has f.lent o ≡ true = subst (λ os. has os o ≡ true) (sym known.fits.lent) some in
        let root = lent_root L (sweep_state made) (laid_z L s e made laid owned placed r owned') owned' u o below above f here lent in
        types_old L s e made laid owned placed r owned' o (known.there o lent) (seated (sweep_state made) o (Root root.0) root.1)))
        (λ x. refl) known.fits.args;
    lent = known.fits.lent;
  }

  pub known_behind : KnownIn L s made → (u : ℕ) → CallsFit L (sweep_state made) (stack (sweep_state made) u)
  known_behind known u = go [] (stack (sweep_state made) u) refl (known u)
    where
      go : (front fs : List StackFrame) → stack (sweep_state made) u ≡ front ++ fs → AllKnown L s fs → CallsFit L (sweep_state made) fs
      go front [] is known' = tt
      go front (f ∷ fs) is known' = (
        known_fits u front fs f is known'.0,
        go (front ++ f ∷ []) fs (is ∙ sym (append_assoc front (f ∷ []) fs)) known'.1,
      )
