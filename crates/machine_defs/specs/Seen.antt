-- What register work and native bodies see: their instance's words, slots and bindings, the types
-- and cells of objects, and the device.
use Rattle.std.specs.Prelude.{ℕ, ◌-◌, ◌==◌, [], List, Option, Some, None, slice_get, slice_set, length, false, if◌then◌else◌}
use Rattle.std.specs.List.{slice_index_or}
use Rattle.std.specs.Option.{option_map_or, unwrap_or}
use Rattle.rl_defs.specs.declared.load.LoadRows.{LoadRows}
use Rattle.rl_defs.specs.DomainValue.{Domain}
use Rattle.machine_defs.specs.State.{State, instance_load, Instance}
use Rattle.rl_defs.specs.Rows.{domain_of_load, row, binds, is_target, trait_if}
use Rattle.machine_defs.specs.Sight.{Sight}
use Rattle.machine_defs.specs.Loans.{object_of}
use Rattle.rl_defs.specs.Registers.{Typing}
use Rattle.machine_defs.specs.Objects.{number_cell, hung_in}

-- the domain whose code an instance runs
abbrev pub domain_of_instance : LoadRows → State → ℕ → Domain
domain_of_instance L s i = domain_of_load L (instance_load s i)

-- the words and slots of an instance
abbrev pub words : State → ℕ → List ℕ
words s i = option_map_or (λ instance. instance.words) (row s.instances i) []

abbrev pub slots : State → ℕ → List (Option ℕ)
slots s i = option_map_or (λ instance. instance.slots) (row s.instances i) []

-- the object in a slot
abbrev pub in_slot : State → ℕ → ℕ → Option ℕ
in_slot s i k = unwrap_or (slice_get (slots s i) k) None

-- how many blocks of the device a load sees: those of the `device` line where it is the device's
-- load, else none
abbrev pub blocks_seen : LoadRows → ℕ → ℕ
blocks_seen L k = if k == L.device_load then L.blocks else 0

-- of which struct each object is, and of which trait each target: an object that isn't there is of
-- no struct, a number that is no target of no trait
abbrev pub types_of : LoadRows → State → Typing
types_of L s = record {
  struct_of = λ o. option_map_or (λ x. x.ty) (object_of s o) (length L.tables.structs);
  trait_of = λ x. trait_if L (is_target L x) x;
}

abbrev pub seen : LoadRows → State → ℕ → Sight
seen L s i = record {
  types = types_of L s;
  cell = λ o at. number_cell L s o at;
  word = λ at. slice_get (words s i) at;
  slot = λ k. in_slot s i k;
  hung = λ o at. hung_in s o at;
  blocks = blocks_seen L (instance_load s i);
  bound = λ k. slice_index_or (binds L (instance_load s i)) k 0;
}

-- an instance that has changed
abbrev pub change_row : {A : Type 0} → List A → ℕ → (A → A) → Option A → List A
change_row xs n change None = xs
change_row xs n change (Some x) = slice_set xs (n - 1) (change x)

abbrev pub with_instance : ℕ → (Instance → Instance) → State → State
with_instance i change s = record s { instances = change_row s.instances i change (row s.instances i) }

abbrev pub with_word : ℕ → ℕ → ℕ → State → State
with_word i at v s = with_instance i (λ instance. record instance { words = slice_set instance.words at v }) s

abbrev pub with_slot : ℕ → ℕ → Option ℕ → State → State
with_slot i k content s = with_instance i (λ instance. record instance { slots = slice_set instance.slots k content }) s

-- the instance has ended; nothing else differs
abbrev pub ended : ℕ → State → State
ended i s = with_instance i (λ instance. record instance { live = false }) s
