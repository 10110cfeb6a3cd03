-- The report of a run: what is left on the shared heap, and what each owner made, received, passed
-- on and freed; and the summary.
use Rattle.std.specs.Prelude.{ℕ, ◌+◌, ◌==◌, ◌&&◌, not, Bool, true, false, if◌then◌else◌, List, [], ◌∷◌, ◌++◌, length, filter, map, codes, Option, None, Some}
use Rattle.std.specs.List.{flat_map, filter_map, range_with_len}
use Rattle.std.specs.Option.{option_map_or}
use Rattle.std.specs.Fmt.{decimal}
use Rattle.rl_defs.specs.declared.load.LoadRows.{LoadRows}
use Rattle.machine_defs.specs.declared.values.Owner.{Owner}
use Rattle.machine_defs.specs.declared.values.Owner.TheVariants as owner
use Rattle.machine_defs.specs.declared.entry.Entry.{Entry}
use Rattle.machine_defs.specs.declared.entry.Entry.TheVariants as entry
use Rattle.machine_defs.specs.State.{State, Object}
use Rattle.machine_defs.specs.Loans.{loans}
use Rattle.machine_defs.specs.Arguments.{moved_of, objects_in}
use Rattle.machine_defs.specs.Entries.{thread_of}
use Rattle.machine_defs.specs.Steps.{Turn}
use Rattle.machine_defs.specs.History.{dropped, turns_of, actor_at, owner_at, parent_at, gone_at, objects_made}
use Rattle.machine_defs.specs.Texts.{line, word, object_text, owner_text, struct_name, history_text, replies_text}

abbrev pub same_owner : Owner → Owner → Bool
same_owner (owner.Client t) (owner.Client u) = t == u
same_owner (owner.Instance i) (owner.Instance j) = i == j
same_owner _ _ = false

-- one where a test holds: what is counted
abbrev pub one_if : Bool → ℕ
one_if b = if b then 1 else 0

-- the objects that hang in an object before a place of the history
abbrev pub hangs_in : List Turn → ℕ → ℕ → Bool
hangs_in us o v = not (gone_at us v) && option_map_or (λ p. p == o) (parent_at us v) false

abbrev pub hung_below : List Turn → ℕ → List ℕ
hung_below us o = filter (hangs_in us o) (range_with_len 1 (objects_made us))

-- these objects, and those that hang in them
abbrev pub with_hung : List Turn → List ℕ → List ℕ
with_hung us os = flat_map (λ o. o ∷ hung_below us o) os

-- the objects that pass from one party to another at an entry
abbrev pub passing_at : Entry → List ℕ
passing_at (entry.Call t c x i m args) = moved_of args
passing_at (entry.Ret t c results) = objects_in results
passing_at _ = []

-- the owner that an entry makes an object for
abbrev pub maker_at : Entry → Option Owner
maker_at (entry.New t w o ty values) = Some w
maker_at _ = None

-- what an owner made, received, passed on and freed
pub record Account : Type 0 where
  pub made : ℕ
  pub received : ℕ
  pub passed : ℕ
  pub freed : ℕ

-- How many of these objects an owner has just after an entry, before any object is freed.
abbrev pub owned_by : List Turn → Owner → List ℕ → ℕ
owned_by us w os = length (filter (λ o. same_owner (owner_at us o) w) os)

-- An account by the turns of a history, the newest first: a `new` is made for its owner; what
-- passes at a `call` or `ret`, with what hangs in it, is passed on by who acts at it and received
-- by who acts after it; what an entry drops, and what is freed after it, is freed of its last
-- owner.
abbrev pub account : List Turn → Owner → Account
account [] w = record { made = 0; received = 0; passed = 0; freed = 0 }
account (u ∷ us) w = record {
  made = (account us w).made + one_if (option_map_or (same_owner w) (maker_at u.entry) false);
  received = (account us w).received + (if same_owner (actor_at (u ∷ us) (thread_of u.entry)) w then length (with_hung us (passing_at u.entry)) else 0);
  passed = (account us w).passed + (if same_owner (actor_at us (thread_of u.entry)) w then length (with_hung us (passing_at u.entry)) else 0);
  freed = (account us w).freed + owned_by us w (dropped u.entry) + owned_by (u ∷ us) w u.frees;
}

-- the line of an object that is left: its struct, its owner and its loans
abbrev pub object_line : LoadRows → List Turn → State → Object → List ℕ
object_line L us s x = line (object_text x.number ++ word (struct_name L x.ty) (word (owner_text (owner_at us x.number)) (word (decimal (loans s x.number)) [])))

-- the line of an owner, where it made, received, passed on or freed an object
abbrev pub account_text : Account → List ℕ
account_text a =
    word (codes "made") (word (decimal a.made) (word (codes "received") (word (decimal a.received) (word (codes "passed") (word (decimal a.passed) (word (codes "freed") (word (decimal a.freed) [])))))))

abbrev pub account_line : Owner → Account → List ℕ
account_line w a = if a.made + a.received + a.passed + a.freed == 0 then [] else line (owner_text w ++ account_text a)

-- clients come before instances
abbrev pub owners : LoadRows → State → List Owner
owners L s = map owner.Client (range_with_len 1 (length L.clients)) ++ map owner.Instance (range_with_len 1 (length s.instances))

abbrev pub report_text : LoadRows → List Entry → State → List ℕ
report_text L H s = flat_map (object_line L (turns_of H) s) s.objects ++ flat_map (λ w. account_line w (account (turns_of H) w)) (owners L s)

-- What a run prints.
abbrev pub out_text : LoadRows → List Entry → State → List ℕ
out_text L H s = line (codes "history") ++ (history_text L H ++ (line (codes "replies") ++ (replies_text L H ++ (line (codes "report") ++ report_text L H s))))

-- The summary of a run: how many entries there are, calls that entered, calls that failed, objects
-- made, freed and left.
abbrev pub enters : Entry → Bool
enters (entry.Call t c x i m args) = true
enters _ = false

abbrev pub fails : Entry → Bool
fails (entry.Refuse t c why x m args) = true
fails (entry.Unwound t c) = true
fails _ = false

abbrev pub frees_at : Entry → List ℕ
frees_at (entry.Free o) = o ∷ []
frees_at e = dropped e

abbrev pub summary_line : List ℕ → ℕ → List ℕ
summary_line says n = line (says ++ word (decimal n) [])

abbrev pub summary_text : List Entry → State → List ℕ
summary_text H s =
    summary_line (codes "entries") (length H) ++ (summary_line (codes "calls") (length (filter enters H))
    ++ (summary_line (codes "errors") (length (filter fails H)) ++ (summary_line (codes "made") (length (filter_map maker_at H))
    ++ (summary_line (codes "freed") (length (flat_map frees_at H)) ++ summary_line (codes "left") (length s.objects)))))
