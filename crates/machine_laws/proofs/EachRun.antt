-- What holds at the start, and after each row, holds of every state of every run.
use Rattle.std.proofs.Common.{◌≡◌, ℕ, zero, suc, ◌≤◌, List, [], ◌∷◌, length, map, refl}
use Rattle.machine_defs.specs.declared.entry.Entry.{Entry}
use Rattle.rl_defs.specs.declared.load.LoadRows.{LoadRows}
use Rattle.machine_defs.specs.State.{State, stack, frames_of, no_frames, start}
use Rattle.rl_defs.specs.Rows.{row}
use Rattle.machine_defs.specs.Entries.{thread_of}
use Rattle.machine_defs.specs.Runs.{Run}
use Rattle.machine_defs.specs.History.{turns_of}
use Rattle.machine_defs.specs.Sound.{ShadowsStand}
use Rattle.machine_laws.specs.Fitting.{Fitting}
use Rattle.machine_laws.specs.AtCall.{AtCall}
use Rattle.machine_laws.proofs.PlansOf.{plan_of}
use Rattle.machine_laws.proofs.StartFits.{start_laid, start_fitting}
use Rattle.machine_laws.proofs.BodiesKept.{bodies_kept}
use Rattle.machine_laws.proofs.CallsKept.{calls_kept}
use Rattle.machine_laws.proofs.HungKept.{objects_fit}
use Rattle.machine_laws.proofs.InstancesKept.{instances_fit}
use Rattle.machine_laws.proofs.SlotsKept.{slots_fit}
use Rattle.machine_laws.proofs.DeviceKept.{device_fit}
use Rattle.machine_laws.proofs.NamesFitted.{names_fit, at_calls_fit}
use Rattle.machine_laws.proofs.FewKept.{few_row, few_sweep, few_start}
use Rattle.machine_laws.proofs.HeldKept.{FewIn, held_row, held_start}
use Rattle.machine_laws.proofs.ShadowRows.{shadows_stand, shadows_start}
use Rattle.machine_laws.proofs.CallSteps.{not_waiting}
use Rattle.machine_laws.proofs.Holds.{Holds, Keeps, holds_led}
use Rattle.rl_defs.specs.Valid.{Valid, AreValidTables}

-- everything fits after each row
fitting_kept : (L : LoadRows) → Keeps L (Fitting L)
fitting_kept L s e made f =
    let ready = (not_waiting L s (thread_of e) f.enabled).0 in
    record {
      bodies = bodies_kept L s f.plans f.tables f.laid f.owned f.placed f.fits f.facts.calls e made f.enabled f.row f.behind;
      calls = calls_kept L s e made f.plans f.tables f.laid f.owned f.placed f.fits f.facts f.row f.enabled f.behind;
      objects = objects_fit L s e made f.plans f.tables f.plans f.laid f.behind f.fits f.row;
      instances = instances_fit L s e made f.plans f.fits f.row;
      slots = slots_fit L s e made f.plans f.tables f.laid f.owned f.behind f.fits f.row;
      names = names_fit L s f.plans f.tables f.laid f.owned f.fits f.at e made ready f.row f.behind;
      device = device_fit L s e made f.plans f.tables f.laid f.fits f.row;
    }

at_kept : (L : LoadRows) → Keeps L (λ s. (t : ℕ) → AtCall L s t)
at_kept L s e made f = at_calls_fit L s f.plans f.tables f.laid f.owned f.fits f.at e made (not_waiting L s (thread_of e) f.enabled).0 f.row

few_kept : (L : LoadRows) → Keeps L (λ s. length s.objects ≤ 65536)
few_kept L s e made f = few_sweep made (few_row L s f.plans f.tables f.laid f.fits e made f.row f.few)

shadows_kept : (L : LoadRows) → Keeps L (ShadowsStand L)
shadows_kept L s e made f = shadows_stand L s e made f.plans f.laid f.shadows f.row

held_kept : (L : LoadRows) → Keeps L (FewIn L)
held_kept L s e made f = held_row L s f.plans f.tables f.laid f.owned f.fits f.facts f.held e made f.enabled f.row

-- a client has no frames at the start
no_frames_first : {A : Type 0} (xs : List A) (t : ℕ) → frames_of (row (map (λ x. no_frames) xs) t) ≡ []
no_frames_first xs zero = refl
no_frames_first [] (suc t) = refl
no_frames_first (x ∷ xs) (suc zero) = refl
no_frames_first (x ∷ xs) (suc (suc t)) = no_frames_first xs (suc t)

-- it holds at the start
pub holds_first : (L : LoadRows) → Valid L → Holds L [] (start L)
holds_first L plans = record {
  laid = start_laid L;
  run = refl;
  fits = start_fitting L plans plans;
  at = λ t. record { calls = λ f above thread here of. absurd (let none : stack (start L) t ≡ [] = no_frames_first L.clients t in cc (none, here)) };
  few = few_start L;
  shadows = shadows_start L plans;
  held = held_start L;
}

-- What holds of every state of every run.
pub holds_run : (L : LoadRows) (plans : Valid L) (tables : AreValidTables L.tables) (H : List Entry) (s : State) → Run L H s → Holds L (turns_of H) s
holds_run L plans tables H s run = holds_led L plans tables (plan_of L plans) (fitting_kept L) (at_kept L) (few_kept L) (shadows_kept L) (held_kept L) (holds_first L plans) H s run
