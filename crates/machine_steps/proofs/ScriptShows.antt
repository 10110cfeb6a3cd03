-- A client's `show` is a step.
use Rattle.std.proofs.Common.{◌≡◌, ℕ, ◌+◌, ◌-◌, ◌<◌, ◌^◌, false, true, List, [], ◌∷◌, ◌++◌, length, refl, sym, ap, ◌∙◌, arith}
use Rattle.std.proofs.lemmas.Bool.{eq-eqb}
use Rattle.machine_defs.specs.declared.entry.Entry.TheVariants as entry
use Rattle.rl_defs.specs.declared.load.Command.TheVariants as command
use Rattle.rl_defs.specs.declared.values.Value.{Value}
use Rattle.machine_defs.specs.declared.values.Owner.{Owner}
use Rattle.rl_defs.specs.Rows.{row}
use Rattle.rl_defs.proofs.TableSizes.{small_struct}
use Rattle.machine_defs.specs.LogValue.{LogValue}
use Rattle.machine_defs.specs.State.{Thread, with_thread}
use Rattle.machine_defs.specs.Arguments.{has}
use Rattle.machine_defs.specs.Objects.{cells_in, shown}
use Rattle.machine_defs.specs.Seen.{change_row}
use Rattle.machine_defs.specs.Calling.{with_fuel}
use Rattle.machine_defs.specs.CallRows.{command_done}
use Rattle.machine_defs.specs.Wants.{wanted, Commands}
use Rattle.machine_defs.specs.Sound.{IsRoot as IsRootIn}
use Rattle.machine_defs.specs.Steps.{Row}
use Rattle.rref_heap.specs.HeapValue.{cells_at, is_there, leaves_at}
use Rattle.rref_heap.proofs.Objects.{IsNumbered, object_found}
use Rattle.machine_steps.specs.declared.machine.Machine.TheInside.{Inside}
use Rattle.machine_steps.specs.Kept.{MayStep}
use Rattle.machine_steps.specs.Inside.{state_of, kept, IsKept}
use Rattle.machine_steps.specs.Known.{Known}
use Rattle.machine_steps.specs.Calls.{IsNamed}
use Rattle.machine_steps.specs.CellsShown.{heap_state}
use Rattle.machine_steps.proofs.Stepping.{Stepped}
use Rattle.machine_steps.proofs.Acting.{holds}
use Rattle.machine_steps.proofs.Commands.{changed_twice, done_with_none}
use Rattle.machine_steps.proofs.Dropped.{root_row, stays_known}
use Rattle.machine_steps.proofs.ScriptSteps.{thread_goes}
use Rattle.machine_steps.proofs.ShownCells.{shown_same}

module _ (known : Known) {w : Inside} (k : IsKept w) (numbered : IsNumbered w.heap.rows) (t name o : ℕ) (may : MayStep (kept w) t) (wants : wanted w.load (state_of w) t ≡ Commands (command.Show name)) (named : IsNamed (kept w) t name o) where
  show_row : (values : List Value) → values ≡ shown (state_of w) o → Row w.load (state_of w) (entry.Show t o values) (with_thread (state_of w) t (command_done w.load t [] named.thread))
  show_row values lists = record {
    thread = named.thread;
    name = name;
    of = named.of;
    object = named.holds;
    lists = lists;
    does = record { thread = named.thread; of = named.of; wants = wants; becomes = refl };
  }

  root : (v : Owner) × IsRootIn (state_of w) o v
  root =
      (known.roots w.load w.log.entries (state_of w) _ (entry.Show t o (shown (state_of w) o)) k.valid k.run may.enabled (show_row (shown (state_of w) o) refl)).seen
      o (let e : has (o ∷ []) o ≡ true = rw (eq-eqb o o refl) refl in e)

  pub shows_there : is_there w.heap.rows o ≡ true
  shows_there = let r = root_row {w = w} numbered o root.0 root.1 in rw r.is refl

  pub shows_kept : leaves_at w.heap.rows o ≡ false
  shows_kept = stays_known k numbered o root.0 root.1

  pub shows_few : length (cells_at w.heap.rows o) < 2 ^ 32
  shows_few =
      let x = root.1.0 in
      let here : cells_at w.heap.rows o ≡ x.cells = ap cells_in (sym (object_found w.heap.rows numbered o) ∙ root.1.1) in
      let n : length (cells_at w.heap.rows o) ≡ length x.cells = ap length here in
      let fits = ((holds k).fits.objects o x root.1.1).cells in
      let small = small_struct w.load.tables x.ty k.valid.tables.small in
      omega (arith, n, fits, small)

  pub show_goes : (fuel : ℕ) → fuel ≡ w.load.fuel - 1 → (values : List Value) → values ≡ shown (heap_state w.heap.rows) o → {log : LogValue} {fueled threads : List Thread}
      → log.entries ≡ w.log.entries ++ entry.Show t o values ∷ [] → log.spare + 1 ≡ w.log.spare
      → fueled ≡ change_row w.threads t (with_fuel fuel) (row w.threads t) → threads ≡ change_row fueled t (λ x. record x { place = x.place + 1 }) (row fueled t)
      → Stepped w (record w { log = log; threads = threads }) (entry.Show t o (shown (state_of w) o))
  show_goes fuel takes values are {log} {fueled} {threads} entries spare charged next =
      let lists : values ≡ shown (state_of w) o = are ∙ shown_same (heap_state w.heap.rows) (state_of w) refl o in
      thread_goes known k t (entry.Show t o (shown (state_of w) o)) named.thread (command_done w.load t [] named.thread) named.of may (show_row (shown (state_of w) o) refl) refl
      (λ x. record x { fuel = fuel; place = x.place + 1 }) (entries ∙ ap (λ vs. w.log.entries ++ entry.Show t o vs ∷ []) lists) spare
      (changed_twice w.threads fueled threads t (with_fuel fuel) (λ x. record x { place = x.place + 1 }) named.thread named.of charged next) (done_with_none w.load t fuel named.thread takes)
