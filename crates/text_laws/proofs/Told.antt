-- What is known of an entry of a load, field by field.
use Rattle.std.proofs.Common.{◌<◌, List, length, All}
use Rattle.std.specs.List.{slice_index_or}
use Rattle.rl_defs.specs.declared.load.LoadRows.{LoadRows}
use Rattle.rl_defs.specs.declared.values.Value.{Value}
use Rattle.rl_defs.specs.declared.values.Value.TheVariants as value
use Rattle.machine_defs.specs.declared.values.Arg.{Arg}
use Rattle.machine_defs.specs.declared.values.Arg.TheVariants as arg
use Rattle.machine_defs.specs.declared.values.Owner.{Owner}
use Rattle.machine_defs.specs.declared.entry.Entry.{Entry}
use Rattle.machine_defs.specs.declared.entry.Entry.TheVariants as entry
use Rattle.machine_defs.specs.EntryTexts.{IsWord, Fits64, IsTarget, IsMethod, OwnerFits64, ArgFits64, ValueFits64, IsWritten, ArgNamesRows, ValueNamesRows, NamesRows, IsEntryOf}

abbrev pub IsOwner : Owner → Type 0
IsOwner = OwnerFits64

abbrev pub IsArg : LoadRows → Arg → Type 0
IsArg L (arg.Num n) = Fits64 n
IsArg L (arg.Moved o) = Fits64 o
IsArg L (arg.Lent o) = Fits64 o
IsArg L (arg.Cap x) = IsTarget L x

abbrev pub IsValue : LoadRows → Value → Type 0
IsValue L (value.Num n) = Fits64 n
IsValue L (value.Obj o) = Fits64 o
IsValue L (value.Cap x) = IsTarget L x

-- what is known of an entry of a load, in the order of its fields
abbrev pub IsTold : LoadRows → Entry → Type 0
IsTold L (entry.Call t c x i m args) = Fits64 t × Fits64 c × IsTarget L x × Fits64 i × IsMethod L x m × All (IsArg L) args
IsTold L (entry.Refuse t c k x m args) = Fits64 t × Fits64 c × IsTarget L x × IsMethod L x m × All (IsArg L) args
IsTold L (entry.Ret t c results) = Fits64 t × Fits64 c × All (IsValue L) results
IsTold L (entry.Unwound t c) = Fits64 t × Fits64 c
IsTold L (entry.Reload t x i left) = Fits64 t × IsTarget L x × Fits64 i × Fits64 left
IsTold L (entry.Again t c x i) = Fits64 t × Fits64 c × IsTarget L x × Fits64 i
IsTold L (entry.Trap t i cause) = Fits64 t × Fits64 i
IsTold L (entry.Kill t i) = Fits64 t × Fits64 i
IsTold L (entry.New t w o ty values) = Fits64 t × IsOwner w × Fits64 o × (ty < length L.tables.structs) × All Fits64 values
IsTold L (entry.Drop t o) = Fits64 t × Fits64 o
IsTold L (entry.Set t o place values) = Fits64 t × Fits64 o × Fits64 place × All Fits64 values
IsTold L (entry.Wput t i place v) = Fits64 t × Fits64 i × Fits64 place × Fits64 v
IsTold L (entry.Take t i slot o) = Fits64 t × Fits64 i × IsWord slot × Fits64 o
IsTold L (entry.Put t i slot o) = Fits64 t × Fits64 i × IsWord slot × Fits64 o
IsTold L (entry.DevGet t o block) = Fits64 t × Fits64 o × Fits64 block
IsTold L (entry.DevPut t block o) = Fits64 t × Fits64 block × Fits64 o
IsTold L (entry.Hang t o place v) = Fits64 t × Fits64 o × Fits64 place × Fits64 v
IsTold L (entry.Unhang t o place v) = Fits64 t × Fits64 o × Fits64 place × Fits64 v
IsTold L (entry.Show t o values) = Fits64 t × Fits64 o × All (IsValue L) values
IsTold L (entry.Skip t k) = Fits64 t × Fits64 k
IsTold L (entry.Done t) = Fits64 t
IsTold L (entry.Free o) = Fits64 o

arg_of_both : (L : LoadRows) (a : Arg) → ArgFits64 a → ArgNamesRows L a → IsArg L a
arg_of_both L (arg.Num n) fits named = fits
arg_of_both L (arg.Moved o) fits named = fits
arg_of_both L (arg.Lent o) fits named = fits
arg_of_both L (arg.Cap x) fits named = named

value_of_both : (L : LoadRows) (v : Value) → ValueFits64 v → ValueNamesRows L v → IsValue L v
value_of_both L (value.Num n) fits named = fits
value_of_both L (value.Obj o) fits named = fits
value_of_both L (value.Cap x) fits named = named

each_arg : (L : LoadRows) (args : List Arg) → All ArgFits64 args → All (ArgNamesRows L) args → All (IsArg L) args
each_arg L args fits named k d less = arg_of_both L (slice_index_or args k d) (fits k d less) (named k d less)

each_value : (L : LoadRows) (values : List Value) → All ValueFits64 values → All (ValueNamesRows L) values → All (IsValue L) values
each_value L values fits named k d less = value_of_both L (slice_index_or values k d) (fits k d less) (named k d less)

told_parts : (L : LoadRows) (e : Entry) → IsWritten e → NamesRows L e → IsTold L e
told_parts L (entry.Call t c x i m args) w r = (w.0, w.1, r.0.0, w.2, r.0.1, each_arg L args w.3 r.1)
told_parts L (entry.Refuse t c k x m args) w r = (w.0, w.1, r.0.0, r.0.1, each_arg L args w.2 r.1)
told_parts L (entry.Ret t c results) w r = (w.0, w.1, each_value L results w.2 r)
told_parts L (entry.Unwound t c) w r = w
told_parts L (entry.Reload t x i left) w r = (w.0, r, w.1, w.2)
told_parts L (entry.Again t c x i) w r = (w.0, w.1, r, w.2)
told_parts L (entry.Trap t i k) w r = w
told_parts L (entry.Kill t i) w r = w
told_parts L (entry.New t by o ty values) w r = (w.0, w.1, w.2, r, w.3)
told_parts L (entry.Drop t o) w r = w
told_parts L (entry.Set t o place values) w r = w
told_parts L (entry.Wput t i place v) w r = w
told_parts L (entry.Take t i slot o) w r = w
told_parts L (entry.Put t i slot o) w r = w
told_parts L (entry.DevGet t o block) w r = w
told_parts L (entry.DevPut t block o) w r = w
told_parts L (entry.Hang t o place v) w r = w
told_parts L (entry.Unhang t o place v) w r = w
told_parts L (entry.Show t o values) w r = (w.0, w.1, each_value L values w.2 r)
told_parts L (entry.Skip t k) w r = w
told_parts L (entry.Done t) w r = w
told_parts L (entry.Free o) w r = w

pub told : (L : LoadRows) (e : Entry) → IsEntryOf L e → IsTold L e
told L e known = told_parts L e known.written known.rows
