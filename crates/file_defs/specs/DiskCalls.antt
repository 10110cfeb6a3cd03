-- The deeds of an instance of the file system: its calls on its disk.
use Rattle.std.specs.Prelude.{ℕ, ◌==◌, ◌&&◌, List, [], ◌∷◌, if◌then◌else◌}
use Rattle.std.specs.List.{slice_index_or}
use Rattle.rl_defs.specs.declared.values.Value.{Value}
use Rattle.machine_defs.specs.declared.entry.Entry.{Entry}
use Rattle.machine_defs.specs.declared.entry.Entry.TheVariants as entry
use Rattle.rl_defs.specs.declared.load.LoadRows.{LoadRows}
use Rattle.rl_defs.specs.declared.code.Native.TheVariants as native
use Rattle.machine_defs.specs.Steps.{Turn}
use Rattle.machine_defs.specs.History.{OpenCall, open_calls}
use Rattle.file_defs.specs.Deeds.{Deed, GotSize, GotBlock, PutBlock, Failed}
use Rattle.file_defs.specs.Calls.{number_at, object_at, result_at, object_result_at, before_call, import_target, newest_is_in, asks, since_entered}

-- the target that is bound as the disk of an instance
abbrev pub disk_of : LoadRows → ℕ → ℕ
disk_of L i = import_target L native.Fs i

-- What a call on a disk that returned was. The methods are `size`, `read` and `write`, in this order;
-- a block that was read has the cells of the object at the return, and one that was written those
-- at the call. Here and below `cells us o` is what an object's cells are behind these turns.
abbrev pub deed_of : (List Turn → ℕ → List ℕ) → List Turn → OpenCall → List Value → Deed
deed_of cells us c results =
    slice_index_or
    (GotSize (result_at results 0)
    ∷ GotBlock (number_at c.args 0) (cells us (object_result_at results 0))
    ∷ PutBlock (number_at c.args 0) (cells (before_call c.call us) (object_at c.args 1))
    ∷ [])
    c.method
    Failed

-- the deed of the newest open call, before those that were there
abbrev pub with_deed_of : (OpenCall → Deed) → List OpenCall → List Deed → List Deed
with_deed_of deed [] ds = ds
with_deed_of deed (c ∷ cs) ds = deed c ∷ ds

-- What an entry adds to the deeds of instance i, whose disk is target x: a call on it returned, ended
-- by the end of its instance, or was refused.
abbrev pub deeds_after : (List Turn → ℕ → List ℕ) → ℕ → ℕ → List Turn → Entry → List Deed → List Deed
deeds_after cells x i us (entry.Ret t c results) ds =
    if asks i x (open_calls us t)
    then with_deed_of (λ call. deed_of cells us call results) (open_calls us t) ds
    else ds
deeds_after cells x i us (entry.Unwound t c) ds = if asks i x (open_calls us t) then Failed ∷ ds else ds
deeds_after cells x i us (entry.Refuse t c why y m args) ds =
    if newest_is_in i (open_calls us t) && (y == x) then Failed ∷ ds else ds
deeds_after cells x i us _ ds = ds

-- all deeds of an instance, and those since a call last entered it
abbrev pub deeds_at : (List Turn → ℕ → List ℕ) → LoadRows → List Turn → ℕ → List Deed
deeds_at cells L [] i = []
deeds_at cells L (u ∷ us) i = deeds_after cells (disk_of L i) i us u.entry (deeds_at cells L us i)

abbrev pub deeds_in_call : (List Turn → ℕ → List ℕ) → LoadRows → List Turn → ℕ → List Deed
deeds_in_call cells L us i = since_entered (deeds_after cells (disk_of L i) i) us i
