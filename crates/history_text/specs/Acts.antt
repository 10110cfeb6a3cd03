-- What the words of a line are read as: an entry.
use Rattle.std.specs.Prelude.{ℕ, List, Option, Some, None, codes, if◌then◌else◌}
use Rattle.rl_defs.specs.declared.load.LoadRows.{LoadRows}
use Rattle.machine_defs.specs.declared.entry.Entry.{Entry}
use Rattle.machine_defs.specs.declared.entry.Entry.TheVariants as entry
use Rattle.rl_defs.specs.Words.{same_bytes}
use Rattle.history_text.specs.declared.verb.Verb.{Verb}
use Rattle.history_text.specs.declared.verb.Verb.TheVariants as verb
use Rattle.history_text.specs.Verbs.{verb_in}
use Rattle.history_text.specs.Reading.{◌>>=◌, first, rest, ended, words_of, number_of_64, number_of_32, object_in, instance_in, client_in, owner_in, target_in, method_in, struct_in, slot_in, entered_in, code_in, cause_in, arg_in, value_in, all_in, few}

-- what follows the word `call`, and so on
abbrev pub call_in : LoadRows → ℕ → List (List ℕ) → Option Entry
call_in L t ws = do
  c ← number_of_32 (first ws)
  at ← entered_in L (first (rest ws))
  m ← method_in L at.0 (first (rest (rest ws)))
  args ← few 8 (all_in (arg_in L) (rest (rest (rest ws))))
  Some (entry.Call t c at.0 at.1 m args)

abbrev pub refuse_in : LoadRows → ℕ → List (List ℕ) → Option Entry
refuse_in L t ws = do
  c ← number_of_32 (first ws)
  k ← code_in (first (rest ws))
  x ← target_in L (first (rest (rest ws)))
  m ← method_in L x (first (rest (rest (rest ws))))
  args ← few 8 (all_in (arg_in L) (rest (rest (rest (rest ws)))))
  Some (entry.Refuse t c k x m args)

abbrev pub ret_in : LoadRows → ℕ → List (List ℕ) → Option Entry
ret_in L t ws = do
  c ← number_of_32 (first ws)
  results ← few 4 (all_in (value_in L) (rest ws))
  Some (entry.Ret t c results)

abbrev pub unwound_in : ℕ → List (List ℕ) → Option Entry
unwound_in t ws = do
  c ← number_of_32 (first ws)
  ended (rest ws) (entry.Unwound t c)

abbrev pub reload_in : LoadRows → ℕ → List (List ℕ) → Option Entry
reload_in L t ws = do
  x ← target_in L (first ws)
  i ← instance_in (first (rest ws))
  left ← number_of_32 (first (rest (rest ws)))
  ended (rest (rest (rest ws))) (entry.Reload t x i left)

abbrev pub again_in : LoadRows → ℕ → List (List ℕ) → Option Entry
again_in L t ws = do
  c ← number_of_32 (first ws)
  at ← entered_in L (first (rest ws))
  ended (rest (rest ws)) (entry.Again t c at.0 at.1)

abbrev pub trap_in : ℕ → List (List ℕ) → Option Entry
trap_in t ws = do
  i ← instance_in (first ws)
  k ← cause_in (first (rest ws))
  ended (rest (rest ws)) (entry.Trap t i k)

abbrev pub kill_in : ℕ → List (List ℕ) → Option Entry
kill_in t ws = do
  i ← instance_in (first ws)
  ended (rest ws) (entry.Kill t i)

abbrev pub new_in : LoadRows → ℕ → List (List ℕ) → Option Entry
new_in L t ws = do
  w ← owner_in (first ws)
  o ← object_in (first (rest ws))
  ty ← struct_in L (first (rest (rest ws)))
  values ← all_in number_of_64 (rest (rest (rest ws)))
  Some (entry.New t w o ty values)

abbrev pub drop_in : ℕ → List (List ℕ) → Option Entry
drop_in t ws = do
  o ← object_in (first ws)
  ended (rest ws) (entry.Drop t o)

abbrev pub set_in : ℕ → List (List ℕ) → Option Entry
set_in t ws = do
  o ← object_in (first ws)
  place ← number_of_32 (first (rest ws))
  values ← all_in number_of_64 (rest (rest ws))
  Some (entry.Set t o place values)

abbrev pub wput_in : ℕ → List (List ℕ) → Option Entry
wput_in t ws = do
  i ← instance_in (first ws)
  place ← number_of_32 (first (rest ws))
  v ← number_of_64 (first (rest (rest ws)))
  ended (rest (rest (rest ws))) (entry.Wput t i place v)

abbrev pub take_in : ℕ → List (List ℕ) → Option Entry
take_in t ws = do
  i ← instance_in (first ws)
  slot ← slot_in (first (rest ws))
  o ← object_in (first (rest (rest ws)))
  ended (rest (rest (rest ws))) (entry.Take t i slot o)

abbrev pub put_in : ℕ → List (List ℕ) → Option Entry
put_in t ws = do
  i ← instance_in (first ws)
  slot ← slot_in (first (rest ws))
  o ← object_in (first (rest (rest ws)))
  ended (rest (rest (rest ws))) (entry.Put t i slot o)

abbrev pub devget_in : ℕ → List (List ℕ) → Option Entry
devget_in t ws = do
  o ← object_in (first ws)
  block ← number_of_64 (first (rest ws))
  ended (rest (rest ws)) (entry.DevGet t o block)

abbrev pub devput_in : ℕ → List (List ℕ) → Option Entry
devput_in t ws = do
  block ← number_of_64 (first ws)
  o ← object_in (first (rest ws))
  ended (rest (rest ws)) (entry.DevPut t block o)

abbrev pub hang_in : ℕ → List (List ℕ) → Option Entry
hang_in t ws = do
  o ← object_in (first ws)
  place ← number_of_32 (first (rest ws))
  v ← object_in (first (rest (rest ws)))
  ended (rest (rest (rest ws))) (entry.Hang t o place v)

abbrev pub unhang_in : ℕ → List (List ℕ) → Option Entry
unhang_in t ws = do
  o ← object_in (first ws)
  place ← number_of_32 (first (rest ws))
  v ← object_in (first (rest (rest ws)))
  ended (rest (rest (rest ws))) (entry.Unhang t o place v)

abbrev pub show_in : LoadRows → ℕ → List (List ℕ) → Option Entry
show_in L t ws = do
  o ← object_in (first ws)
  values ← all_in (value_in L) (rest ws)
  Some (entry.Show t o values)

abbrev pub skip_in : ℕ → List (List ℕ) → Option Entry
skip_in t ws = do
  k ← number_of_32 (first ws)
  ended (rest ws) (entry.Skip t k)

abbrev pub done_in : ℕ → List (List ℕ) → Option Entry
done_in t ws = ended ws (entry.Done t)

-- what follows a thread and this word
abbrev pub act_in : LoadRows → Verb → ℕ → List (List ℕ) → Option Entry
act_in L verb.Call t ws = call_in L t ws
act_in L verb.Refuse t ws = refuse_in L t ws
act_in L verb.Ret t ws = ret_in L t ws
act_in L verb.Unwound t ws = unwound_in t ws
act_in L verb.Reload t ws = reload_in L t ws
act_in L verb.Again t ws = again_in L t ws
act_in L verb.Trap t ws = trap_in t ws
act_in L verb.Kill t ws = kill_in t ws
act_in L verb.New t ws = new_in L t ws
act_in L verb.Drop t ws = drop_in t ws
act_in L verb.Set t ws = set_in t ws
act_in L verb.Wput t ws = wput_in t ws
act_in L verb.Take t ws = take_in t ws
act_in L verb.Put t ws = put_in t ws
act_in L verb.DevGet t ws = devget_in t ws
act_in L verb.DevPut t ws = devput_in t ws
act_in L verb.Hang t ws = hang_in t ws
act_in L verb.Unhang t ws = unhang_in t ws
act_in L verb.Show t ws = show_in L t ws
act_in L verb.Skip t ws = skip_in t ws
act_in L verb.Done t ws = done_in t ws

-- what follows the word `free`
abbrev pub free_in : List (List ℕ) → Option Entry
free_in ws = do
  o ← object_in (first ws)
  ended (rest ws) (entry.Free o)

-- what follows a thread
abbrev pub told_in : LoadRows → List (List ℕ) → Option Entry
told_in L ws = do
  t ← client_in (first ws)
  v ← verb_in (first (rest ws))
  act_in L v t (rest (rest ws))

-- the entry that these words say
abbrev pub entry_in : LoadRows → List (List ℕ) → Option Entry
entry_in L ws = if same_bytes (codes "free") (first ws) then free_in (rest ws) else told_in L ws
