-- An entry's text in two parts: what stands before its arguments, results or values, and these. And
-- what an entry tells of.
use Rattle.std.specs.Prelude.{ℕ, Bool, true, false, List, [], ◌++◌, codes}
use Rattle.rl_defs.specs.declared.load.LoadRows.{LoadRows}
use Rattle.machine_defs.specs.declared.entry.Entry.{Entry}
use Rattle.machine_defs.specs.declared.entry.Entry.TheVariants as entry
use Rattle.machine_defs.specs.Entries.{thread_of}
use Rattle.machine_defs.specs.Texts.{args_text, values_text, numbers_text, act_text, client_text, object_text}

-- the entry without what it lists
abbrev pub bare : Entry → Entry
bare (entry.Call t c x i m args) = entry.Call t c x i m []
bare (entry.Refuse t c k x m args) = entry.Refuse t c k x m []
bare (entry.Ret t c results) = entry.Ret t c []
bare (entry.New t w o ty values) = entry.New t w o ty []
bare (entry.Set t o place values) = entry.Set t o place []
bare (entry.Show t o values) = entry.Show t o []
bare e = e

-- what it lists
abbrev pub listed_text : LoadRows → Entry → List ℕ
listed_text L (entry.Call t c x i m args) = args_text L args
listed_text L (entry.Refuse t c k x m args) = args_text L args
listed_text L (entry.Ret t c results) = values_text L results
listed_text L (entry.New t w o ty values) = numbers_text values
listed_text L (entry.Set t o place values) = numbers_text values
listed_text L (entry.Show t o values) = values_text L values
listed_text L e = []

-- what stands before that
abbrev pub head_text : LoadRows → Entry → List ℕ
head_text L (entry.Free o) = codes "free " ++ object_text o
head_text L e = client_text (thread_of e) ++ act_text L (bare e)

-- the entry tells of a call, or of a shadow that is loaded again for one
abbrev pub tells_call : Entry → Bool
tells_call (entry.Call t c x i m args) = true
tells_call (entry.Refuse t c k x m args) = true
tells_call (entry.Ret t c results) = true
tells_call (entry.Unwound t c) = true
tells_call (entry.Reload t x i left) = true
tells_call (entry.Again t c x i) = true
tells_call e = false

-- the entry tells of an instance that ends, or of its words and slots
abbrev pub tells_instance : Entry → Bool
tells_instance (entry.Trap t i k) = true
tells_instance (entry.Kill t i) = true
tells_instance (entry.Wput t i place v) = true
tells_instance (entry.Take t i slot o) = true
tells_instance (entry.Put t i slot o) = true
tells_instance e = false
