-- The start is laid out, and everything fits in it.
use Rattle.std.proofs.Common.{◌≡◌, ℕ, zero, suc, ◌+◌, ◌<◌, List, [], ◌∷◌, length, map, replicate, Option, Some, None, slice_get, refl, ap, sym, subst, ◌∙◌, arith}
use Rattle.std.specs.List.{flat_map}
use Rattle.std.proofs.lemmas.List.{length-replicate, length-map}
use Rattle.rl_defs.specs.declared.load.LoadRows.{LoadRows}
use Rattle.rl_defs.specs.declared.load.LoadRow.{LoadRow}
use Rattle.rl_defs.specs.declared.load.ClientRow.{ClientRow}
use Rattle.machine_defs.specs.State.{StackFrame, Instance, Thread, stack, start, first_instances, first_instance, first_thread, first_shadow, no_frames, frames_of}
use Rattle.rl_defs.specs.Rows.{row, bound_by}
use Rattle.machine_defs.specs.Wants.{name_held}
use Rattle.machine_defs.specs.Seen.{in_slot, slots}
use Rattle.rl_defs.specs.Valid.{Valid}
use Rattle.rl_defs.proofs.ValidFacts.{name_within}
use Rattle.machine_laws.specs.Shape.{Laid}
use Rattle.machine_laws.specs.Fitting.{StackFits, CallsFit, BlockFits, NamesFit, Fitting}
use Rattle.machine_laws.proofs.Start.{slot_first, row_mapped}
use Rattle.machine_laws.proofs.InstancesKept.{AllInstances, first_fits}
use Rattle.machine_laws.proofs.Parts.{content}

pub start_laid : (L : LoadRows) → Laid L (start L)
start_laid L = record {
  stacks = length-map L.clients (λ client. no_frames);
  threads = length-map L.clients first_thread;
  shadows = length-map L.shadows first_shadow;
  objects = tt;
  started = omega arith;
}

-- a first instance is that of its load
first_at : (L : LoadRows) (ls : List LoadRow) (k n : ℕ) (x : Instance) → slice_get (first_instances L k ls) n ≡ Some x → (l : LoadRow) × (slice_get ls n ≡ Some l) × (x ≡ first_instance L (k + n) l)
first_at L [] k n x is = absurd cc
first_at L (l ∷ ls) k zero x is = (l, refl, (let e : first_instance L k l ≡ x = cc in let n : k + 0 ≡ k = omega arith in sym e ∙ ap (λ j. first_instance L j l) (sym n)))
first_at L (l ∷ ls) k (suc n) x is =
    let r = first_at L ls (k + 1) n x is in
    let e : k + 1 + n ≡ k + suc n = omega arith in
    (r.0, r.1, r.2 ∙ ap (λ j. first_instance L j r.0) e)

start_instances : (L : LoadRows) → AllInstances L (start L).instances
start_instances L zero x is = absurd cc
start_instances L (suc n) x is =
    let r = first_at L L.loads 1 n x is in
    let e : 1 + n ≡ suc n = omega arith in
    rw (r.2, e) (first_fits L (suc n) r.0 r.1)

-- nothing in a list of nothing
none_at : (n k : ℕ) → name_held (replicate n None) k ≡ None
none_at zero k = refl
none_at (suc n) zero = refl
none_at (suc n) (suc k) = none_at n k

same_at : {A : Type 0} (n k : ℕ) (x y : A) → slice_get (replicate n x) k ≡ Some y → y ≡ x
same_at zero k x y is = absurd cc
same_at (suc n) zero x y is = cc
same_at (suc n) (suc k) x y is = same_at n k x y is

stack_empty : (L : LoadRows) (t : ℕ) → stack (start L) t ≡ []
stack_empty L t = row_mapped (λ (x : Option (List StackFrame)). frames_of x ≡ []) (λ client. no_frames) L.clients t refl (λ client. refl)

-- a first thread has names for what the script binds, and they hold nothing
names_start : (L : LoadRows) (t : ℕ) (client : ClientRow) → Valid L → row L.clients t ≡ Some client → NamesFit L (start L) t (first_thread client)
names_start L t client scripts of =
    let count : length (replicate (length (flat_map bound_by client.commands)) None) ≡ length (flat_map bound_by client.commands) = length-replicate (length (flat_map bound_by client.commands)) None in
    record {
      kinds = λ k v is. absurd (let e = none_at (length (flat_map bound_by client.commands)) k in cc (e, is));
      later = λ k binds. none_at (length (flat_map bound_by client.commands)) k;
      room = λ k binds. (
          let within = name_within L scripts t binds.0 binds.1 k binds.2 binds.4 binds.5 in
          let within' : k < length (flat_map bound_by client.commands) = rw of at within in
          subst (λ n. k < n) (sym count) within');
    }

thread_start : (L : LoadRows) (t : ℕ) (thread : Thread) → row (map first_thread L.clients) t ≡ Some thread → (client : ClientRow) × (row L.clients t ≡ Some client) × (thread ≡ first_thread client)
thread_start L zero thread is = absurd cc
thread_start L (suc t) thread is = go L.clients t is
  where
    go : (clients : List ClientRow) (t : ℕ) → slice_get (map first_thread clients) t ≡ Some thread → (client : ClientRow) × (slice_get clients t ≡ Some client) × (thread ≡ first_thread client)
    go [] t is = absurd cc
    go (c ∷ clients) zero is = (c, refl, cc)
    go (c ∷ clients) (suc t) is = go clients t is

-- an empty block
pub block_blank : BlockFits (replicate 64 0)
block_blank = record { size = refl; words = refl }

pub start_fitting : (L : LoadRows) → Valid L → Valid L → Fitting L (start L)
start_fitting L plans scripts = record {
  bodies = λ t. subst (StackFits L (start L)) (sym (stack_empty L t)) tt;
  calls = λ t. subst (CallsFit L (start L)) (sym (stack_empty L t)) tt;
  objects = λ o x is. absurd cc;
  instances = start_instances L;
  slots = λ i k o lives is. absurd (empty i k o is);
  names = λ t thread is. (
      let r = thread_start L t thread is in
      subst (NamesFit L (start L) t) (sym r.2) (names_start L t r.0 scripts r.1));
  device = record {
    count = length-replicate L.blocks (replicate 64 0);
    each = λ b cells is. subst BlockFits (sym (same_at L.blocks b (replicate 64 0) cells is)) block_blank;
  };
}
  where
    empty : (i k o : ℕ) → in_slot (start L) i k ≡ Some o → ⊥
    empty i k o is = go (slice_get (slots (start L) i) k) refl
      where
        go : (here : Option (Option ℕ)) → slice_get (slots (start L) i) k ≡ here → ⊥
        go None e = let h : content None ≡ Some o = rw e at is in cc
        go (Some c) e = let h : content (Some c) ≡ Some o = rw e at is in slot_first L i k o (e ∙ ap (λ y. Some y) h)
