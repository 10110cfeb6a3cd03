-- A client's `let` or `text` is a step.
use Rattle.std.proofs.Common.{◌≡◌, ℕ, ◌+◌, ◌-◌, ◌<◌, ◌≤◌, true, List, [], ◌∷◌, ◌++◌, length, map, slice_get, slice_set, Option, Some, refl, sym, ap, subst, ◌∙◌, arith, inl}
use Rattle.std.proofs.lemmas.Bool.{and_parts}
use Rattle.std.proofs.lemmas.List.{length-append}
use Rattle.rl_defs.specs.declared.load.LoadRows.{LoadRows}
use Rattle.rl_defs.specs.declared.load.Command.{Command}
use Rattle.rl_defs.specs.declared.load.Command.TheVariants as command
use Rattle.rl_defs.specs.declared.values.Value.TheVariants as value
use Rattle.rl_defs.specs.declared.tables.Kind.{Kind}
use Rattle.rl_defs.specs.declared.tables.StructRow.{StructRow}
use Rattle.rl_defs.specs.CodeNames.{cells_of, flat_of}
use Rattle.rl_defs.specs.Rows.{row, bound_by, commands_of}
use Rattle.rl_defs.specs.ValidScripts.{CommandFits}
use Rattle.rl_defs.specs.Widths.{number_suits, numbers_suit}
use Rattle.rl_defs.proofs.ValidFacts.{command_fits}
use Rattle.machine_defs.specs.declared.entry.Entry.TheVariants as entry
use Rattle.machine_defs.specs.declared.values.Owner.{Owner}
use Rattle.machine_defs.specs.declared.values.Owner.TheVariants as owner
use Rattle.machine_defs.specs.LogValue.{LogValue}
use Rattle.machine_defs.specs.State.{State, Thread, with_thread}
use Rattle.machine_defs.specs.Frames.{bind}
use Rattle.machine_defs.specs.Objects.{fresh_object, overwritten, with_cells, with_new}
use Rattle.machine_defs.specs.ObjectRows.{Gives}
use Rattle.machine_defs.specs.Seen.{change_row}
use Rattle.machine_defs.specs.Calling.{with_fuel}
use Rattle.machine_defs.specs.CallRows.{command_done}
use Rattle.machine_defs.specs.Wants.{wanted, Commands, makes}
use Rattle.machine_defs.specs.Steps.{Row}
use Rattle.machine_laws.proofs.Acting.{CommandsAs, commands_as}
use Rattle.machine_laws.proofs.NameKinds.{Commanding, commanding}
use Rattle.machine_laws.proofs.Rows.{item_there, row_within}
use Rattle.rref_heap.specs.Changing.{on_object, with_new_object}
use Rattle.rref_heap.specs.HeapValue.{HeapRows, HeapValue, cells_at, heap_objects, room_of}
use Rattle.rref_heap.proofs.Objects.{IsNumbered, objects_append}
use Rattle.machine_steps.specs.declared.machine.Machine.TheInside.{Inside}
use Rattle.machine_steps.specs.Kept.{MayStep, Agrees}
use Rattle.machine_steps.specs.Inside.{state_of, kept, IsKept}
use Rattle.machine_steps.specs.Known.{Known}
use Rattle.machine_steps.specs.Given.{name_given, struct_given, values_given}
use Rattle.machine_steps.proofs.Stepping.{Stepped, goes_quietly}
use Rattle.machine_steps.proofs.Acting.{holds, same_parts}
use Rattle.machine_steps.proofs.Commands.{changed_twice, done_with}
use Rattle.machine_steps.proofs.NewObjects.{agrees_with, blank_cells, blank_heap, heap_with, is_fresh, made_blank, row_with, set_with}

-- ---- what the command gives

gives_so : (next : Command) → makes next ≡ true → Gives next (struct_given next) (values_given next)
gives_so (command.Let name ty values) makes' = (refl, refl)
gives_so (command.Text name ty bytes) makes' = (refl, refl)
gives_so other makes' = absurd cc

pub given_so : (next : Command) (ty : ℕ) (values : List ℕ) → Gives next ty values → (ty ≡ struct_given next) × (values ≡ values_given next)
given_so (command.Let name of given) ty values gives = gives
given_so (command.Text name of given) ty values gives = gives
given_so other ty values gives = absurd gives

bound_so : (next : Command) → makes next ≡ true → bound_by next ≡ name_given next ∷ []
bound_so (command.Let name ty values) makes' = refl
bound_so (command.Text name ty bytes) makes' = refl
bound_so other makes' = absurd cc

fits_so : (L : LoadRows) (t p : ℕ) (next : Command) → makes next ≡ true → CommandFits L t p next
    → (struct_given next < length L.tables.structs) × (numbers_suit (cells_of L.tables (struct_given next)) (values_given next) ≡ true)
fits_so L t p (command.Let name ty values) makes' fits = fits
fits_so L t p (command.Text name ty bytes) makes' fits = fits
fits_so L t p other makes' fits = absurd cc

suits_few : (kinds : List Kind) (values : List ℕ) → numbers_suit kinds values ≡ true → length values ≤ length kinds
suits_few kinds [] suits = omega arith
suits_few [] (n ∷ values) suits = absurd cc
suits_few (k ∷ kinds) (n ∷ values) suits = let few = suits_few kinds values (and_parts (number_suits k n) (numbers_suit kinds values) suits).1 in omega (arith, few)

-- ---- the object is made

module _ (known : Known) {w : Inside} (k : IsKept w) (t : ℕ) (next : Command) (may : MayStep (kept w) t) (wants : wanted w.load (state_of w) t ≡ Commands next) (makes' : makes next ≡ true) where
  doing : CommandsAs w.load (state_of w) t (Commands next)
  doing = commands_as w.load (state_of w) t (Commands next) tt wants

  said : Commanding w.load (state_of w) t doing.thread next
  said = commanding w.load (state_of w) t doing.thread next doing.of wants

  fits : (struct_given next < length w.load.tables.structs) × (numbers_suit (cells_of w.load.tables (struct_given next)) (values_given next) ≡ true)
  fits = fits_so w.load t doing.thread.place next makes' (command_fits w.load k.valid t doing.thread.place next said.here)

  pub here_next : (thread : Thread) → row w.threads t ≡ Some thread → slice_get (commands_of (row w.load.clients t)) thread.place ≡ Some next
  here_next thread of = (commanding w.load (state_of w) t thread next of wants).here

  pub struct_there : (of : StructRow) × (slice_get w.load.tables.structs (struct_given next) ≡ Some of)
  struct_there = item_there w.load.tables.structs (struct_given next) fits.0

  abbrev number : ℕ
  number = length w.heap.rows + 1

  abbrev made : State
  made = with_new w.load (struct_given next) (owner.Client t) (values_given next) (with_thread (state_of w) t (command_done w.load t (value.Obj number ∷ []) doing.thread))

  make_row : Row w.load (state_of w) (entry.New t (owner.Client t) number (struct_given next) (values_given next)) made
  make_row = record {
    number = refl;
    makes = inl (record { next = next; gives = gives_so next makes'; mine = refl; does = record { thread = doing.thread; of = doing.of; wants = wants; becomes = refl } });
  }

  few_so : length (heap_objects w.heap.rows) < 65536
  few_so =
      let few = (known.few w.load w.log.entries (state_of w) made (entry.New t (owner.Client t) number (struct_given next) (values_given next)) k.valid k.run may.enabled make_row).objects in
      let n = length-append (heap_objects w.heap.rows) (fresh_object w.load number (struct_given next) (owner.Client t) (values_given next) ∷ []) in
      omega (arith, few, n)

  pub few_made : (rows : HeapRows) → rows ≡ w.heap.rows → length (heap_objects rows) < 65536
  few_made rows same = subst (λ rows. length (heap_objects rows) < 65536) (sym same) few_so

  pub client_owns : t < w.heap.clients
  client_owns =
      let within = (row_within w.threads t doing.thread doing.of).1 in
      let threads = (holds k).laid.threads in
      omega (arith, within, threads, k.rooms.clients)

  module _ {of : StructRow} (struct : slice_get w.load.tables.structs (struct_given next) ≡ Some of) where
    kinds_same : cells_of w.load.tables (struct_given next) ≡ of.flat
    kinds_same = ap flat_of struct

    pub values_within : {blank : HeapValue} {o : ℕ} {values : List ℕ} → blank ≡ blank_heap w.heap (struct_given next) (owner.Client t) of.flat → o ≡ number → values ≡ values_given next
        → 0 + length values ≤ length (cells_at blank.rows o)
    values_within {blank} {o} {values} is same given =
        let few = suits_few (cells_of w.load.tables (struct_given next)) (values_given next) fits.1 in
        let kinds : length (cells_of w.load.tables (struct_given next)) ≡ length of.flat = ap length kinds_same in
        let cells : length (cells_at blank.rows o) ≡ length (cells_at (blank_heap w.heap (struct_given next) (owner.Client t) of.flat).rows number) = ap (λ h. length (cells_at h.rows o)) is ∙ ap (λ n. length (cells_at (blank_heap w.heap (struct_given next) (owner.Client t) of.flat).rows n)) same in
        let all' = blank_cells w.heap (struct_given next) (owner.Client t) of.flat in
        let count : length values ≡ length (values_given next) = ap length given in
        omega (arith, few, kinds, cells, all', count)

    pub make_goes : (fuel name : ℕ) → fuel ≡ w.load.fuel - 1 → name ≡ name_given next
        → {log : LogValue} {heap : HeapValue} {fueled threads : List Thread}
        → log.entries ≡ w.log.entries ++ entry.New t (owner.Client t) number (struct_given next) (values_given next) ∷ [] → log.spare + 1 ≡ w.log.spare
        → heap ≡ heap_with w.heap (struct_given next) (owner.Client t) of.flat (values_given next)
        → fueled ≡ change_row w.threads t (with_fuel fuel) (row w.threads t)
        → threads ≡ change_row fueled t (λ x. record x { place = x.place + 1; names = bind (name ∷ []) (value.Obj number ∷ []) x.names }) (row fueled t)
        → Stepped w (record w { log = log; heap = heap; threads = threads }) (entry.New t (owner.Client t) number (struct_given next) (values_given next))
    make_goes fuel name takes named {log} {heap} {fueled} {threads} entries spare is charged ended' =
        let ty : ℕ = struct_given next in
        let v : Owner = owner.Client t in
        let change : Thread → Thread = λ x. record x { fuel = fuel; place = x.place + 1; names = bind (name ∷ []) (value.Obj number ∷ []) x.names } in
        let twice = changed_twice w.threads fueled threads t (with_fuel fuel) (λ x. record x { place = x.place + 1; names = bind (name ∷ []) (value.Obj number ∷ []) x.names }) doing.thread doing.of charged ended' in
        let objects : heap_objects heap.rows ≡ heap_objects w.heap.rows ++ fresh_object w.load number ty v (values_given next) ∷ [] =
        ap (λ h. heap_objects h.rows) is
        ∙ (objects_append w.heap.rows (row_with number ty v of.flat (values_given next)) ∙ ap (λ x. heap_objects w.heap.rows ++ x ∷ []) (is_fresh w.load number ty v of.flat (values_given next) kinds_same)) in
        let count : length (w.heap.rows ++ Some (row_with number ty v of.flat (values_given next)) ∷ []) ≡ length w.heap.rows + 1 = length-append w.heap.rows (Some (row_with number ty v of.flat (values_given next)) ∷ []) in
        let many : length heap.rows + 1 ≡ number + 1 = ap (λ h. length h.rows + 1) is ∙ ap (λ n. n + 1) count in
        let clients : heap.clients ≡ w.heap.clients = ap (λ h. h.clients) is in
        let owners : heap.instances ≡ w.heap.instances = ap (λ h. h.instances) is in
        goes_quietly known (entry.New t v number ty (values_given next)) made k may make_row refl
        (same_parts refl objects refl
        (twice ∙ (ap (change_row w.threads t change) doing.of ∙ ap (slice_set w.threads (t - 1)) (done_with w.load t fuel doing.thread next (name ∷ []) (value.Obj number ∷ []) said.here takes (ap (λ n. n ∷ []) named ∙ sym (bound_so next makes')))))
        refl refl many refl)
        (record { load = refl; proxies = refl; entries = entries; spare = omega (arith, spare); counts = k.rooms.counts; clients = omega (arith, clients); owners = omega (arith, owners, k.rooms.owners) })
        (subst (λ h. Agrees w.load made h.rows) (sym is) (agrees_with known k made ty v of.flat (values_given next) kinds_same (λ o. refl)))

-- ---- as the code makes it

pub gives_makes : (next : Command) (ty : ℕ) (values : List ℕ) → Gives next ty values → makes next ≡ true
gives_makes (command.Let name of given) ty values gives = refl
gives_makes (command.Text name of given) ty values gives = refl
gives_makes other ty values gives = absurd gives

-- the command that is found is the one that is wanted
pub next_is : (w : Inside) (t : ℕ) (next : Command) → wanted w.load (state_of w) t ≡ Commands next
    → (found : Option Command) → ((x : Thread) → row w.threads t ≡ Some x → found ≡ slice_get (commands_of (row w.load.clients t)) x.place) → (command : Command) → found ≡ Some command → command ≡ next
next_is w t next wants found tells command is =
    let c = commands_as w.load (state_of w) t (Commands next) tt wants in
    let e : Some command ≡ Some next = sym is ∙ (tells c.thread c.of ∙ (commanding w.load (state_of w) t c.thread next c.of wants).here) in
    cc

-- what the code has found out of the command, and the room that it has reserved
pub record Found (w : Inside) (next : Command) (of : StructRow) (named typed : ℕ) (valued : List ℕ) (ready : HeapValue) : Type 0 where
  pub name : named ≡ name_given next
  pub ty : typed ≡ struct_given next
  pub values : valued ≡ values_given next
  pub struct : slice_get w.load.tables.structs typed ≡ Some of
  pub reserved : ready ≡ record w.heap { ready = Some (room_of of.flat) }

module _ (known : Known) {w : Inside} (k : IsKept w) (t : ℕ) (next : Command) (may : MayStep (kept w) t) (wants : wanted w.load (state_of w) t ≡ Commands next) (makes' : makes next ≡ true)
    {of : StructRow} {name ty : ℕ} {values : List ℕ} {ready : HeapValue} (found : Found w next of name ty values ready) where
  struct_so : slice_get w.load.tables.structs (struct_given next) ≡ Some of
  struct_so = ap (λ n. slice_get w.load.tables.structs n) (sym found.ty) ∙ found.struct

  number_so : {o : ℕ} → o ≡ length ready.rows + 1 → o ≡ length w.heap.rows + 1
  number_so is = is ∙ ap (λ h. length h.rows + 1) found.reserved

  blank_so : {blank : HeapValue} → blank ≡ with_new_object ready ty (owner.Client t) → blank ≡ blank_heap w.heap (struct_given next) (owner.Client t) of.flat
  blank_so is = made_blank w.heap (struct_given next) (owner.Client t) of.flat found.reserved (is ∙ ap (λ n. with_new_object ready n (owner.Client t)) found.ty)

  pub make_few : length (heap_objects ready.rows) < 65536
  make_few = few_made known k t next may wants makes' ready.rows (ap (λ h. h.rows) found.reserved)

  pub make_owner : t < ready.clients
  make_owner = subst (λ h. t < h.clients) (sym found.reserved) (client_owns known k t next may wants makes')

  pub make_within : {blank : HeapValue} {o : ℕ} {first : List ℕ} → blank ≡ with_new_object ready ty (owner.Client t) → o ≡ length ready.rows + 1 → first ≡ values → 0 + length first ≤ length (cells_at blank.rows o)
  make_within is same first = values_within known k t next may wants makes' struct_so (blank_so is) (number_so same) (first ∙ found.values)

  pub make_goes_by : IsNumbered w.heap.rows → (fuel : ℕ) → fuel ≡ w.load.fuel - 1 → {o : ℕ} {first : List ℕ} {blank heap : HeapValue} {log : LogValue} {fueled threads : List Thread}
      → blank ≡ with_new_object ready ty (owner.Client t) → o ≡ length ready.rows + 1 → first ≡ values
      → heap ≡ record blank { rows = map (on_object o (with_cells (overwritten 0 first))) blank.rows }
      → log.entries ≡ w.log.entries ++ entry.New t (owner.Client t) o ty values ∷ [] → log.spare + 1 ≡ w.log.spare
      → fueled ≡ change_row w.threads t (with_fuel fuel) (row w.threads t)
      → threads ≡ change_row fueled t (λ x. record x { place = x.place + 1; names = bind (name ∷ []) (value.Obj o ∷ []) x.names }) (row fueled t)
      → Stepped w (record w { log = log; heap = heap; threads = threads }) (entry.New t (owner.Client t) (length w.heap.rows + 1) (struct_given next) (values_given next))
  make_goes_by numbered fuel takes {o} {first} {blank} {heap} {log} {fueled} {threads} is same firsts set entries spare charged next' =
      let heap_is = set_with w.heap (struct_given next) (owner.Client t) of.flat numbered (blank_so is) (number_so same) (firsts ∙ found.values) set in
      let e : entry.New t (owner.Client t) o ty values ≡ entry.New t (owner.Client t) (length w.heap.rows + 1) (struct_given next) (values_given next) = rw (number_so same, found.ty, found.values) refl in
      let after = next' ∙ ap (λ n. change_row fueled t (λ x. record x { place = x.place + 1; names = bind (name ∷ []) (value.Obj n ∷ []) x.names }) (row fueled t)) (number_so same) in
      make_goes known k t next may wants makes' struct_so fuel name takes found.name (entries ∙ ap (λ x. w.log.entries ++ x ∷ []) e) spare heap_is charged after
