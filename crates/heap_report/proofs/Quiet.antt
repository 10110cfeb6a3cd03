-- Entries that say nothing of calls and objects.
use Rattle.std.proofs.Common.{◌≡◌, ℕ, ◌==◌, ◌||◌, Bool, true, false, List, [], ◌∷◌, Option, None, length, filter, refl, sym, ap, ◌∙◌, cond, subst, arith}
use Rattle.std.specs.Option.{option_map_or}
use Rattle.machine_defs.specs.declared.entry.Entry.{Entry}
use Rattle.machine_defs.specs.declared.entry.Entry.TheVariants as entry
use Rattle.machine_defs.specs.declared.values.Owner.{Owner}
use Rattle.machine_defs.specs.Entries.{thread_of}
use Rattle.machine_defs.specs.Steps.{Turn}
use Rattle.machine_defs.specs.Arguments.{has}
use Rattle.machine_defs.specs.History.{actor_at, receiver_after, parent_after, dropped, is_new, with_entry}
use Rattle.machine_defs.specs.Report.{one_if, same_owner, maker_at, passing_at}
use Rattle.heap_report.specs.declared.calls.Opened.{Opened}
use Rattle.heap_report.specs.declared.objects.ObjectRecord.{ObjectRecord}
use Rattle.heap_report.specs.declared.reading.Reading.{Reading}
use Rattle.heap_report.specs.KeptCalls.{told_to, calls_of}
use Rattle.heap_report.specs.KeptAccounts.{Account, plus, account_of}
use Rattle.heap_report.specs.KeptObjects.{ToldObject, told_after, owner_in, with_hung}
use Rattle.heap_report.specs.Counting.{added_by}
use Rattle.heap_report.specs.Readings.{Reads, is_quiet}
use Rattle.heap_report.proofs.Told.{turn_read}

-- what an entry leaves as it was
record SaysNothing (e : Entry) : Type 0 where
  calls : (kept : List Opened) → told_to e kept ≡ kept
  receivers : (o : ℕ) (at after old : Owner) → receiver_after o e at after old ≡ old
  parents : (o : ℕ) (old : Option ℕ) → parent_after o e old ≡ old
  drops : dropped e ≡ []
  passes : passing_at e ≡ []
  makes : maker_at e ≡ None
  news : is_new e ≡ 0

quiet_says : (e : Entry) → is_quiet e ≡ true → SaysNothing e
quiet_says (entry.Reload t x i left) h = record { calls = λ k. refl; receivers = λ o a b c. refl; parents = λ o p. refl; drops = refl; passes = refl; makes = refl; news = refl }
quiet_says (entry.Trap t i cause) h = record { calls = λ k. refl; receivers = λ o a b c. refl; parents = λ o p. refl; drops = refl; passes = refl; makes = refl; news = refl }
quiet_says (entry.Kill t i) h = record { calls = λ k. refl; receivers = λ o a b c. refl; parents = λ o p. refl; drops = refl; passes = refl; makes = refl; news = refl }
quiet_says (entry.Set t p place values) h = record { calls = λ k. refl; receivers = λ o a b c. refl; parents = λ o p. refl; drops = refl; passes = refl; makes = refl; news = refl }
quiet_says (entry.Wput t i place v) h = record { calls = λ k. refl; receivers = λ o a b c. refl; parents = λ o p. refl; drops = refl; passes = refl; makes = refl; news = refl }
quiet_says (entry.Take t i slot p) h = record { calls = λ k. refl; receivers = λ o a b c. refl; parents = λ o p. refl; drops = refl; passes = refl; makes = refl; news = refl }
quiet_says (entry.Put t i slot p) h = record { calls = λ k. refl; receivers = λ o a b c. refl; parents = λ o p. refl; drops = refl; passes = refl; makes = refl; news = refl }
quiet_says (entry.DevGet t p block) h = record { calls = λ k. refl; receivers = λ o a b c. refl; parents = λ o p. refl; drops = refl; passes = refl; makes = refl; news = refl }
quiet_says (entry.DevPut t block p) h = record { calls = λ k. refl; receivers = λ o a b c. refl; parents = λ o p. refl; drops = refl; passes = refl; makes = refl; news = refl }
quiet_says (entry.Show t p values) h = record { calls = λ k. refl; receivers = λ o a b c. refl; parents = λ o p. refl; drops = refl; passes = refl; makes = refl; news = refl }
quiet_says (entry.Skip t n) h = record { calls = λ k. refl; receivers = λ o a b c. refl; parents = λ o p. refl; drops = refl; passes = refl; makes = refl; news = refl }
quiet_says (entry.Done t) h = record { calls = λ k. refl; receivers = λ o a b c. refl; parents = λ o p. refl; drops = refl; passes = refl; makes = refl; news = refl }
quiet_says _ h = absurd (cc)

same_both : {A : Type 0} (b : Bool) (x : A) → cond b x x ≡ x
same_both true x = refl
same_both false x = refl

same_account : (a b : Account) → a.made ≡ b.made → a.received ≡ b.received → a.passed ≡ b.passed → a.freed ≡ b.freed → a ≡ b
same_account a b m r p f =
    ap (λ (x : ℕ). record a { made = x }) m ∙ (ap (λ (x : ℕ). record a { made = b.made; received = x }) r ∙ (ap (λ (x : ℕ). record b { passed = x; freed = a.freed }) p ∙ ap (λ (x : ℕ). record b { freed = x }) f))

-- nothing is added to an account
nothing_added : (rows : List ObjectRecord) (made : ℕ) (e : Entry) (from to w : Owner) (a : Account) → SaysNothing e → a ≡ plus a (added_by rows made e from to w)
nothing_added rows made e from to w a says =
    let m : one_if (option_map_or (same_owner w) (maker_at e) false) ≡ 0 = ap (λ (x : Option Owner). one_if (option_map_or (same_owner w) x false)) says.makes in
    let r : cond (same_owner to w) (length (with_hung rows made (passing_at e))) 0 ≡ 0 = ap (λ (os : List ℕ). cond (same_owner to w) (length (with_hung rows made os)) 0) says.passes ∙ same_both (same_owner to w) 0 in
    let p : cond (same_owner from w) (length (with_hung rows made (passing_at e))) 0 ≡ 0 = ap (λ (os : List ℕ). cond (same_owner from w) (length (with_hung rows made os)) 0) says.passes ∙ same_both (same_owner from w) 0 in
    let f : length (filter (λ o. same_owner (owner_in rows o) w) (dropped e)) ≡ 0 = ap (λ (os : List ℕ). length (filter (λ o. same_owner (owner_in rows o) w) os)) says.drops in
    same_account a (plus a (added_by rows made e from to w)) (omega (arith, m)) (omega (arith, r)) (omega (arith, p)) (omega (arith, f))

same_object : (o : ℕ) (e : Entry) (from to : Owner) (x : ToldObject) → SaysNothing e → x ≡ told_after o e from to x
same_object o e from to x says =
    sym (ap (λ (r : Owner). record (told_after o e from to x) { receiver = r }) (says.receivers o from to x.receiver) ∙ (ap (λ (p : Option ℕ). record x { parent = p; gone = (told_after o e from to x).gone }) (says.parents o x.parent) ∙ ap (λ (os : List ℕ). record x { gone = has os o || x.gone }) says.drops))

quiet_read : (r : Reading) (us : List Turn) (e : Entry) → is_quiet e ≡ true → Reads r us → Reads (record r { begun = true }) (record { entry = e; frees = [] } ∷ us)
quiet_read r us e quiet reads =
    let says = quiet_says e quiet in
    let from = actor_at us (thread_of e) in
    let to = actor_at (record { entry = e; frees = [] } ∷ us) (thread_of e) in
    turn_read r (record r { begun = true }) us e from to reads
    (λ t. sym (ap (λ (k : List Opened). cond (thread_of e == t) k (calls_of r.threads.items t)) (says.calls (calls_of r.threads.items t)) ∙ same_both (thread_of e == t) (calls_of r.threads.items t)))
    refl refl (λ o. same_object o e from to _ says) reads.counted (omega (arith, says.news))
    (record { accounts = λ w listed. nothing_added r.objects.rows.items r.objects.made e from to w (account_of r.accounts w) says; clients = refl; instances = refl }) refl

begins_turn : (us : List Turn) (e : Entry) → is_quiet e ≡ true → with_entry us e ≡ record { entry = e; frees = [] } ∷ us
begins_turn us (entry.Free o) quiet = absurd (cc)
begins_turn us _ quiet = refl

pub quiet_told : (r : Reading) (us : List Turn) (e : Entry) → is_quiet e ≡ true → Reads r us → Reads (record r { begun = true }) (with_entry us e)
quiet_told r us e quiet reads = subst (λ (vs : List Turn). Reads (record r { begun = true }) vs) (sym (begins_turn us e quiet)) (quiet_read r us e quiet reads)
