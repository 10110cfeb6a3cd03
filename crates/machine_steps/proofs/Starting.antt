-- The start of a machine keeps what every machine keeps.
use Rattle.std.proofs.Common.{◌≡◌, ℕ, zero, suc, ◌+◌, ◌<◌, ◌≤◌, List, [], ◌∷◌, ◌++◌, length, map, replicate, Some, refl, sym, ap, ap₂, subst, ◌∙◌, arith}
use Rattle.machine_defs.specs.declared.entry.Entry.{Entry}
use Rattle.rl_defs.specs.declared.load.LoadRows.{LoadRows}
use Rattle.rl_defs.specs.declared.load.LoadRow.{LoadRow}
use Rattle.rl_defs.specs.Valid.{Valid}
use Rattle.machine_defs.specs.State.{State, start, first_instances, first_thread, first_shadow, no_frames}
use Rattle.machine_defs.specs.Runs.{Begins}
use Rattle.proxies.specs.Table.{proxies_of}
use Rattle.rref_heap.specs.HeapValue.{HeapRow, HeapRows, row_of, heap_objects}
use Rattle.machine_steps.specs.declared.machine.Machine.TheInside.{Inside}
use Rattle.machine_steps.specs.Kept.{Kept, IsCodeAlone}
use Rattle.machine_steps.specs.Inside.{state_of, kept, IsKept}
use Rattle.machine_steps.proofs.Acting.{same_parts}

replicate_is : {A B : Type 0} (y : B) (xs : List A) → replicate (length xs) y ≡ map (λ x. y) xs
replicate_is y [] = refl
replicate_is y (x ∷ xs) = ap (λ ys. y ∷ ys) (replicate_is y xs)

count_first : (L : LoadRows) (k : ℕ) (ls : List LoadRow) → length (first_instances L k ls) ≡ length ls
count_first L k [] = refl
count_first L k (l ∷ ls) = ap suc (count_first L (k + 1) ls)

none_there : (rows : HeapRows) → rows ≡ [] → (o : ℕ) (r : HeapRow) → row_of rows o ≡ Some r → ⊥
none_there rows none zero r here = absurd cc
none_there rows none (suc k) r here = let e : row_of [] (suc k) ≡ Some r = subst (λ xs. row_of xs (suc k) ≡ Some r) none here in cc

no_entry : (log before behind : List Entry) (e : Entry) → log ≡ [] → log ≡ before ++ e ∷ behind → ⊥
no_entry log [] behind e none is = let same : ◌≡◌ {A = List Entry} [] (e ∷ behind) = sym none ∙ is in cc
no_entry log (b ∷ before) behind e none is = let same : ◌≡◌ {A = List Entry} [] (b ∷ (before ++ e ∷ behind)) = sym none ∙ is in cc

-- the parts of the start
pub record IsStart (w : Inside) : Type 0 where
  pub log : w.log.entries ≡ []
  pub spare : 327680 ≤ w.log.spare
  pub rows : w.heap.rows ≡ []
  pub clients : length w.load.clients < w.heap.clients
  pub owners : length w.load.loads < w.heap.instances
  pub instances : w.instances ≡ first_instances w.load 1 w.load.loads
  pub frames : w.stacks.frames ≡ replicate (length w.load.clients) no_frames
  pub counts : w.stacks.instances ≡ length w.load.loads
  pub threads : w.threads ≡ map first_thread w.load.clients
  pub shadows : w.shadows ≡ map first_shadow w.load.shadows
  pub blocks : w.blocks ≡ replicate w.load.blocks (replicate 64 0)
  pub call : w.next_call ≡ 1
  pub proxies : w.proxies ≡ proxies_of w.load

pub start_state : {w : Inside} → IsStart w → state_of w ≡ start w.load
start_state {w} s = same_parts s.instances (ap heap_objects s.rows) (s.frames ∙ replicate_is no_frames w.load.clients) s.threads s.shadows s.blocks (ap (λ (rows : HeapRows). length rows + 1) s.rows) s.call

pub start_kept : {w : Inside} → Valid w.load → IsCodeAlone w.load → IsStart w → IsKept w
start_kept {w} valid code s =
    let many : length w.instances ≡ length w.load.loads = ap length s.instances ∙ count_first w.load 1 w.load.loads in
    record {
      valid = valid;
      run = Begins s.log (start_state s);
      turns = λ before behind e is begins. absurd (no_entry w.log.entries before behind e s.log is);
      agrees = λ o r here. absurd (none_there w.heap.rows s.rows o r here);
      rooms = record { log = omega (arith, s.spare); counts = omega (arith, many, s.counts); clients = s.clients; owners = omega (arith, many, s.owners) };
      found = s.proxies;
      code = code;
    }

abbrev kept_with : LoadRows → List Entry → State → Kept
kept_with L log state = record { load = L; log = log; state = state }

pub start_view : {w : Inside} → IsStart w → kept w ≡ record { load = w.load; log = []; state = start w.load }
start_view {w} s = ap₂ (kept_with w.load) s.log (start_state s)
