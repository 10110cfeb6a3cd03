-- Calls that meet no refusal, and dead frames whose call may be issued again.
use Rattle.std.proofs.Common.{◌≡◌, refl, sym, ◌∙◌, ap, subst, ℕ, ◌+◌, ◌≤◌, ◌&&◌, ◌||◌, ◌==◌, not, nat_le, Bool, true, false, if◌then◌else◌, List, length, Some, None, arith}
use Rattle.std.proofs.lemmas.Bool.Decides.{nat_tests}
use Rattle.rl_defs.specs.declared.load.LoadRows.{LoadRows}
use Rattle.rl_defs.specs.Domains.{row}
use Rattle.machine_defs.specs.declared.values.RpcCode.TheVariants as code
use Rattle.machine_defs.specs.State.{State, Instance, Shadow, StackFrame, is_live, current, stack}
use Rattle.machine_defs.specs.State as state
use Rattle.machine_defs.specs.Calling.{is_deep, is_gone, breaks_order, restarts_left, is_reissuable}
use Rattle.trampolines.specs.Words.{stack_of}
use Rattle.trampolines.specs.Words as words
use Rattle.proxies.specs.Crossing.{seen_by_proxy, IsOpen}
use Rattle.proxies.specs.Reentry.{MayReenter}
use Rattle.proxies.proofs.Orders.{same_frames, same_top}

none_refuses : (a b c : Bool) → a ≡ false → b ≡ false → c ≡ false → (if a then Some code.Deep else (if b then Some code.Gone else (if c then Some code.Order else None))) ≡ None
none_refuses true b c deep gone order = cc
none_refuses false true c deep gone order = cc
none_refuses false false true deep gone order = cc
none_refuses false false false deep gone order = refl

few : (n : ℕ) → n + 1 ≤ 31 → nat_le 31 n ≡ false
few n le = grind (arith, nat_tests)

pub not_deep : (instances : List Instance) (frames : List (List StackFrame)) (shadows : List Shadow) (t : ℕ) → length (stack_of frames t) + 1 ≤ 31 → is_deep (seen_by_proxy instances frames shadows) t ≡ false
not_deep instances frames shadows t le =
    ap (λ fs. nat_le 31 (length fs)) (sym (same_frames (row frames t))) ∙ few (length (stack_of frames t)) le

pub not_gone : (L : LoadRows) (s : State) (x i : ℕ) → i ≡ current L s x → is_live s i ≡ true → is_gone L s x ≡ false
not_gone L s x i into lives = ap (λ b. not b && (restarts_left L s x == 0)) (subst (λ k. is_live s k ≡ true) into lives)

pub meets_none : (L : LoadRows) (s : State) (t x i : ℕ) → i ≡ current L s x → is_live s i ≡ true → is_deep s t ≡ false → breaks_order L s t x ≡ false → IsOpen L s t x
meets_none L s t x i into lives deep order = record {
  unrefused = none_refuses (is_deep s t) (is_gone L s x) (breaks_order L s t x) deep (not_gone L s x i into lives) order;
  lives = subst (λ k. is_live s k ≡ true) into lives;
}

-- the top frame of a stack, in both words
pub same_frame : (frames : List (List StackFrame)) (t : ℕ) (f g : StackFrame) → words.top (stack_of frames t) ≡ Some f → state.top (state.frames_of (row frames t)) ≡ Some g → f ≡ g
same_frame frames t f g one other =
    let same = same_top (stack_of frames t) ∙ ap state.top (same_frames (row frames t)) in
    let both : Some f ≡ Some g = sym one ∙ (same ∙ other) in
    cc

-- a call that may be issued again, through a target whose instance lives
pub reenters : (L : LoadRows) (s : State) (f : StackFrame) (i : ℕ) → is_reissuable L f ≡ true → i ≡ current L s f.target → is_live s i ≡ true → MayReenter L s f
reenters L s f i may into lives = record {
  unended = ap (λ b. not b || is_gone L s f.target) may ∙ not_gone L s f.target i into lives;
  lives = subst (λ k. is_live s k ≡ true) into lives;
}
