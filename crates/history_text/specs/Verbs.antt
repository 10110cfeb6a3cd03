-- The words that say what an entry tells.
use Rattle.std.specs.Prelude.{ℕ, List, [], ◌∷◌, find, Option, codes}
use Rattle.rl_defs.specs.Words.{same_bytes}
use Rattle.history_text.specs.declared.verb.Verb.{Verb}
use Rattle.history_text.specs.declared.verb.Verb.TheVariants as verb

abbrev pub verb_text : Verb → List ℕ
verb_text verb.Call = codes "call"
verb_text verb.Refuse = codes "refuse"
verb_text verb.Ret = codes "ret"
verb_text verb.Unwound = codes "unwound"
verb_text verb.Reload = codes "reload"
verb_text verb.Again = codes "again"
verb_text verb.Trap = codes "trap"
verb_text verb.Kill = codes "kill"
verb_text verb.New = codes "new"
verb_text verb.Drop = codes "drop"
verb_text verb.Set = codes "set"
verb_text verb.Wput = codes "wput"
verb_text verb.Take = codes "take"
verb_text verb.Put = codes "put"
verb_text verb.DevGet = codes "devget"
verb_text verb.DevPut = codes "devput"
verb_text verb.Hang = codes "hang"
verb_text verb.Unhang = codes "unhang"
verb_text verb.Show = codes "show"
verb_text verb.Skip = codes "skip"
verb_text verb.Done = codes "done"

abbrev pub all_verbs : List Verb
all_verbs =
    verb.Wput ∷ verb.Call ∷ verb.Ret ∷ verb.Set ∷ verb.New ∷ verb.Drop ∷ verb.Refuse ∷ verb.Unwound ∷ verb.Reload ∷ verb.Again
    ∷ verb.Trap ∷ verb.Kill ∷ verb.Take ∷ verb.Put ∷ verb.DevGet ∷ verb.DevPut ∷ verb.Hang ∷ verb.Unhang ∷ verb.Show ∷ verb.Skip
    ∷ verb.Done ∷ []

-- what a word says
unfoldable pub verb_in : List ℕ → Option Verb
verb_in w = find (λ v. same_bytes (verb_text v) w) all_verbs
