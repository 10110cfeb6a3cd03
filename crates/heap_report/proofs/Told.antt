-- What is kept of a history agrees with what it tells, after one entry more.
use Rattle.std.proofs.Common.{◌≡◌, ℕ, ◌+◌, ◌==◌, ◌&&◌, ◌||◌, not, Bool, true, false, List, [], ◌∷◌, ◌++◌, Option, length, filter, map, reverse, unwrap_or, refl, sym, ap, ◌∙◌, subst, cond, append-nil, length-append, arith}
use Rattle.std.specs.List.{range_with_len, flat_map}
use Rattle.std.specs.Option.{option_map_or}
use Rattle.std.proofs.lemmas.List.{reverse-append, map-append}
use Rattle.std.proofs.lemmas.List.Elements.{filter-append}
use Rattle.std.proofs.lemmas.List.Folds.{list_any-append}
use Rattle.machine_defs.specs.declared.entry.Entry.{Entry}
use Rattle.machine_defs.specs.declared.entry.Entry.TheVariants as entry
use Rattle.machine_defs.specs.declared.values.Owner.{Owner}
use Rattle.machine_defs.specs.Arguments.{has}
use Rattle.machine_defs.specs.Entries.{thread_of}
use Rattle.machine_defs.specs.Steps.{Turn}
use Rattle.machine_defs.specs.History.{OpenCall, open_after, open_calls, freeing, actor_in, actor_at, owner_at, dropped, objects_made, is_new, parent_at, gone_at}
use Rattle.machine_defs.specs.Report as report
use Rattle.heap_report.specs.declared.calls.Opened.{Opened}
use Rattle.heap_report.specs.declared.objects.ObjectRecord.{ObjectRecord}
use Rattle.heap_report.specs.declared.reading.Reading.{Reading}
use Rattle.heap_report.specs.KeptCalls.{kept_of, AreCallsKept, moved_to, told_to, calls_of}
use Rattle.heap_report.specs.KeptAccounts as accounts
use Rattle.heap_report.specs.KeptObjects as kept
use Rattle.heap_report.specs.Counting.{passing, freed_of, added_by, one_freed}
use Rattle.heap_report.specs.Readings.{Reads}
use Rattle.heap_report.proofs.Growing.{still_listed}

-- ---- calls

reverse_cons : (x : Opened) (xs : List Opened) → reverse (x ∷ xs) ≡ reverse xs ++ x ∷ []
reverse_cons x xs = reverse-append (x ∷ []) xs

filter_last : (p : Opened → Bool) (x : Opened) (xs : List Opened) → filter p (reverse (x ∷ xs)) ≡ filter p (reverse xs) ++ filter p (x ∷ [])
filter_last p x xs = ap (filter p) (reverse_cons x xs) ∙ filter-append p (reverse xs) (x ∷ [])

reverse_chosen : (p : Opened → Bool) (x : Opened) (xs : List Opened) (b : Bool) → p x ≡ b → reverse (filter p xs) ≡ filter p (reverse xs) → reverse (cond b (x ∷ filter p xs) (filter p xs)) ≡ filter p (reverse xs) ++ cond b (x ∷ []) []
reverse_chosen p x xs true test rest = reverse_cons x (filter p xs) ∙ ap (λ (ys : List Opened). ys ++ x ∷ []) rest
reverse_chosen p x xs false test rest = rest ∙ sym (append-nil (filter p (reverse xs)))

-- what is kept in reverse, of a filter and of a map
reverse_filter : (p : Opened → Bool) (xs : List Opened) → reverse (filter p xs) ≡ filter p (reverse xs)
reverse_filter p [] = refl
reverse_filter p (x ∷ xs) = reverse_chosen p x xs (p x) refl (reverse_filter p xs) ∙ sym (filter_last p x xs)

reverse_map : (f : Opened → Opened) (xs : List Opened) → reverse (map f xs) ≡ map f (reverse xs)
reverse_map f [] = refl
reverse_map f (x ∷ xs) = reverse_cons (f x) (map f xs) ∙ (ap (λ (ys : List Opened). ys ++ f x ∷ []) (reverse_map f xs) ∙ sym (ap (map f) (reverse_cons x xs) ∙ map-append f (reverse xs) (x ∷ [])))

kept_chosen : (b : Bool) (o : OpenCall) (xs : List Opened) (os : List OpenCall) → xs ≡ map kept_of os → cond b (kept_of o ∷ xs) xs ≡ map kept_of (cond b (o ∷ os) os)
kept_chosen true o xs os e = ap (λ (ys : List Opened). kept_of o ∷ ys) e
kept_chosen false o xs os e = e

kept_filter : (c : ℕ) (os : List OpenCall) → filter (λ (o : Opened). not (o.call == c)) (map kept_of os) ≡ map kept_of (filter (λ (o : OpenCall). not (o.call == c)) os)
kept_filter c [] = refl
kept_filter c (o ∷ os) = kept_chosen (not (o.call == c)) o (filter (λ (x : Opened). not (x.call == c)) (map kept_of os)) (filter (λ (x : OpenCall). not (x.call == c)) os) (kept_filter c os)

kept_moved_one : (b : Bool) (i : ℕ) (o : OpenCall) → cond b (record (kept_of o) { inside = i }) (kept_of o) ≡ kept_of (cond b (record o { inside = i }) o)
kept_moved_one true i o = refl
kept_moved_one false i o = refl

kept_moved : (c i : ℕ) (os : List OpenCall) → map (moved_to c i) (map kept_of os) ≡ map kept_of (map (λ (o : OpenCall). cond (o.call == c) (record o { inside = i }) o) os)
kept_moved c i [] = refl
kept_moved c i (o ∷ os) =
    let first = kept_moved_one (o.call == c) i o in
    let rest = kept_moved c i os in
    cc

kept_after : (e : Entry) (kept : List Opened) (os : List OpenCall) → AreCallsKept kept os → AreCallsKept (told_to e kept) (open_after e os)
kept_after (entry.Call t c x i m args) kept os h = reverse-append kept (record { call = c; inside = i } ∷ []) ∙ ap (λ (ys : List Opened). record { call = c; inside = i } ∷ ys) h
kept_after (entry.Ret t c results) kept os h = reverse_filter (λ (o : Opened). not (o.call == c)) kept ∙ (ap (filter (λ (o : Opened). not (o.call == c))) h ∙ kept_filter c os)
kept_after (entry.Unwound t c) kept os h = reverse_filter (λ (o : Opened). not (o.call == c)) kept ∙ (ap (filter (λ (o : Opened). not (o.call == c))) h ∙ kept_filter c os)
kept_after (entry.Again t c x i) kept os h = reverse_map (moved_to c i) kept ∙ (ap (map (moved_to c i)) h ∙ kept_moved c i os)
kept_after _ kept os h = h

kept_by : (b : Bool) (e : Entry) (k k' : List Opened) (os : List OpenCall) → k' ≡ cond b (told_to e k) k → AreCallsKept k os → AreCallsKept k' (cond b (open_after e os) os)
kept_by true e k k' os is h = subst (λ (x : List Opened). AreCallsKept x (open_after e os)) (sym is) (kept_after e k os h)
kept_by false e k k' os is h = subst (λ (x : List Opened). AreCallsKept x os) (sym is) h

-- ---- objects

abbrev pub Agree : List ObjectRecord → List Turn → Type 0
Agree rows us = (o : ℕ) → kept.told (kept.record_at rows o) ≡ kept.told_at us o

pub owner_agrees : (rows : List ObjectRecord) (us : List Turn) (o : ℕ) → Agree rows us → kept.owner_in rows o ≡ owner_at us o
owner_agrees rows us o same =
    let parent : (kept.record_at rows o).parent ≡ parent_at us o = ap (λ (x : kept.ToldObject). x.parent) (same o) in
    ap (λ (p : Option ℕ). (kept.record_at rows (unwrap_or p o)).receiver) parent ∙ ap (λ (x : kept.ToldObject). x.receiver) (same (unwrap_or (parent_at us o) o))

filter_chosen : {X : Type 0} (b b' : Bool) (x : X) (xs ys : List X) → b ≡ b' → xs ≡ ys → cond b (x ∷ xs) xs ≡ cond b' (x ∷ ys) ys
filter_chosen b b' x xs ys e h = ap (λ (c : Bool). cond c (x ∷ xs) xs) e ∙ ap (λ (zs : List _). cond b' (x ∷ zs) zs) h

filter_alike : {X : Type 0} (f g : X → Bool) (xs : List X) → ((x : X) → f x ≡ g x) → filter f xs ≡ filter g xs
filter_alike f g [] same = refl
filter_alike f g (x ∷ xs) same = filter_chosen (f x) (g x) x (filter f xs) (filter g xs) (same x) (filter_alike f g xs same)

pub flat_map_alike : {X : Type 0} (f g : X → List ℕ) (xs : List X) → ((x : X) → f x ≡ g x) → flat_map f xs ≡ flat_map g xs
flat_map_alike f g [] same = refl
flat_map_alike f g (x ∷ xs) same =
    let first = same x in
    let rest = flat_map_alike f g xs same in
    cc

hung_agrees : (rows : List ObjectRecord) (made : ℕ) (us : List Turn) (o : ℕ) → Agree rows us → made ≡ objects_made us → kept.hung_in rows made o ≡ report.hung_below us o
hung_agrees rows made us o same count =
    filter_alike (kept.hangs_in rows o) (report.hangs_in us o) (range_with_len 1 made) (λ v. ap (λ (x : kept.ToldObject). not x.gone && kept.is_parent o x.parent) (same v)) ∙ ap (λ (m : ℕ). filter (report.hangs_in us o) (range_with_len 1 m)) count

passing_agrees : (rows : List ObjectRecord) (made : ℕ) (us : List Turn) (e : Entry) → Agree rows us → made ≡ objects_made us → passing rows made e ≡ length (report.with_hung us (report.passing_at e))
passing_agrees rows made us e same count = ap length (flat_map_alike (λ o. o ∷ kept.hung_in rows made o) (λ o. o ∷ report.hung_below us o) (report.passing_at e) (λ o. ap (λ (os : List ℕ). o ∷ os) (hung_agrees rows made us o same count)))

freed_agrees : (rows : List ObjectRecord) (us : List Turn) (w : Owner) (os : List ℕ) → Agree rows us → (freed_of rows os w).freed ≡ report.owned_by us w os
freed_agrees rows us w os same = ap length (filter_alike (λ o. report.same_owner (kept.owner_in rows o) w) (λ o. report.same_owner (owner_at us o) w) os (λ o. ap (λ (x : Owner). report.same_owner x w) (owner_agrees rows us o same)))

-- ---- accounts

same_account : (a b : report.Account) → a.made ≡ b.made → a.received ≡ b.received → a.passed ≡ b.passed → a.freed ≡ b.freed → a ≡ b
same_account a b m r p f =
    ap (λ (x : ℕ). record a { made = x }) m ∙ (ap (λ (x : ℕ). record a { made = b.made; received = x }) r ∙ (ap (λ (x : ℕ). record b { passed = x; freed = a.freed }) p ∙ ap (λ (x : ℕ). record b { freed = x }) f))

account_after : (rows : List ObjectRecord) (made : ℕ) (us : List Turn) (e : Entry) (from to w : Owner) (a a' : accounts.Account) → Agree rows us → made ≡ objects_made us → from ≡ actor_at us (thread_of e) → to ≡ actor_at (record { entry = e; frees = [] } ∷ us) (thread_of e) → accounts.told a ≡ report.account us w → a' ≡ accounts.plus a (added_by rows made e from to w) → accounts.told a' ≡ report.account (record { entry = e; frees = [] } ∷ us) w
account_after rows made us e from to w a a' same count acts enters before more =
    let count_is = passing_agrees rows made us e same count in
    let received : cond (report.same_owner to w) (passing rows made e) 0 ≡ cond (report.same_owner (actor_at (record { entry = e; frees = [] } ∷ us) (thread_of e)) w) (length (report.with_hung us (report.passing_at e))) 0 = ap (λ (x : Owner). cond (report.same_owner x w) (passing rows made e) 0) enters ∙ ap (λ (n : ℕ). cond (report.same_owner (actor_at (record { entry = e; frees = [] } ∷ us) (thread_of e)) w) n 0) count_is in
    let passed : cond (report.same_owner from w) (passing rows made e) 0 ≡ cond (report.same_owner (actor_at us (thread_of e)) w) (length (report.with_hung us (report.passing_at e))) 0 = ap (λ (x : Owner). cond (report.same_owner x w) (passing rows made e) 0) acts ∙ ap (λ (n : ℕ). cond (report.same_owner (actor_at us (thread_of e)) w) n 0) count_is in
    let freed = freed_agrees rows us w (dropped e) same in
    let m : a'.made ≡ (report.account (record { entry = e; frees = [] } ∷ us) w).made = ap (λ (x : accounts.Account). x.made) more ∙ ap (λ (x : report.Account). x.made + report.one_if (option_map_or (report.same_owner w) (report.maker_at e) false)) before in
    let r : a'.received ≡ (report.account (record { entry = e; frees = [] } ∷ us) w).received = omega (arith, ap (λ (x : accounts.Account). x.received) more, ap (λ (x : report.Account). x.received) before, received) in
    let p : a'.passed ≡ (report.account (record { entry = e; frees = [] } ∷ us) w).passed = omega (arith, ap (λ (x : accounts.Account). x.passed) more, ap (λ (x : report.Account). x.passed) before, passed) in
    let f : a'.freed ≡ (report.account (record { entry = e; frees = [] } ∷ us) w).freed = omega (arith, ap (λ (x : accounts.Account). x.freed) more, ap (λ (x : report.Account). x.freed) before, freed) in
    same_account (accounts.told a') (report.account (record { entry = e; frees = [] } ∷ us) w) m r p f

one_freed_of : (b : Bool) → (accounts.share b one_freed).freed ≡ report.one_if b
one_freed_of true = refl
one_freed_of false = refl

none_made_of : (b : Bool) → (accounts.share b one_freed).made ≡ 0
none_made_of true = refl
none_made_of false = refl

none_received_of : (b : Bool) → (accounts.share b one_freed).received ≡ 0
none_received_of true = refl
none_received_of false = refl

none_passed_of : (b : Bool) → (accounts.share b one_freed).passed ≡ 0
none_passed_of true = refl
none_passed_of false = refl

chosen_length : (p : ℕ → Bool) (o : ℕ) (b : Bool) → length (cond b (o ∷ []) []) ≡ report.one_if b
chosen_length p o true = refl
chosen_length p o false = refl

one_chosen : (p : ℕ → Bool) (os : List ℕ) (o : ℕ) → length (filter p (os ++ o ∷ [])) ≡ length (filter p os) + report.one_if (p o)
one_chosen p os o = ap length (filter-append p os (o ∷ [])) ∙ (length-append (filter p os) (filter p (o ∷ [])) ∙ ap (λ (n : ℕ). length (filter p os) + n) (chosen_length p o (p o)))

account_freed : (rows : List ObjectRecord) (u : Turn) (us : List Turn) (o : ℕ) (w : Owner) (a a' : accounts.Account) → Agree rows (u ∷ us) → accounts.told a ≡ report.account (u ∷ us) w → a' ≡ accounts.plus a (accounts.share (report.same_owner (kept.owner_in rows o) w) one_freed) → accounts.told a' ≡ report.account (record u { frees = u.frees ++ o ∷ [] } ∷ us) w
account_freed rows u us o w a a' same before more =
    let owner : report.one_if (report.same_owner (kept.owner_in rows o) w) ≡ report.one_if (report.same_owner (owner_at (u ∷ us) o) w) = ap (λ (x : Owner). report.one_if (report.same_owner x w)) (owner_agrees rows (u ∷ us) o same) in
    let one = one_chosen (λ v. report.same_owner (owner_at (u ∷ us) v) w) u.frees o in
    let b = report.same_owner (kept.owner_in rows o) w in
    let m : a'.made ≡ (report.account (u ∷ us) w).made = omega (arith, ap (λ (x : accounts.Account). x.made) more, ap (λ (x : report.Account). x.made) before, none_made_of b) in
    let r : a'.received ≡ (report.account (u ∷ us) w).received = omega (arith, ap (λ (x : accounts.Account). x.received) more, ap (λ (x : report.Account). x.received) before, none_received_of b) in
    let p : a'.passed ≡ (report.account (u ∷ us) w).passed = omega (arith, ap (λ (x : accounts.Account). x.passed) more, ap (λ (x : report.Account). x.passed) before, none_passed_of b) in
    let f : a'.freed ≡ (report.account (record u { frees = u.frees ++ o ∷ [] } ∷ us) w).freed = omega (arith, ap (λ (x : accounts.Account). x.freed) more, ap (λ (x : report.Account). x.freed) before, one_freed_of b, owner, one) in
    same_account (accounts.told a') (report.account (record u { frees = u.frees ++ o ∷ [] } ∷ us) w) m r p f

-- ---- one entry more

-- who acts, by what is kept of the calls
pub acts_at : (threads items : List (List Opened)) (t t' : ℕ) (us : List Turn) (w : Owner) → ((os : List OpenCall) → AreCallsKept (calls_of threads t) os → w ≡ actor_in t os) → threads ≡ items → t ≡ t' → ((u : ℕ) → AreCallsKept (calls_of items u) (open_calls us u)) → w ≡ actor_at us t'
acts_at threads items t t' us w acts same is kept =
    acts (open_calls us t) (subst (λ (x : List (List Opened)). AreCallsKept (calls_of x t) (open_calls us t)) (sym same) (kept t)) ∙ ap (λ (u : ℕ). actor_in u (open_calls us u)) is

pub threads_after : (threads threads' : List (List Opened)) (us : List Turn) (e : Entry) → ((t : ℕ) → calls_of threads' t ≡ cond (thread_of e == t) (told_to e (calls_of threads t)) (calls_of threads t)) → ((t : ℕ) → AreCallsKept (calls_of threads t) (open_calls us t)) → (t : ℕ) → AreCallsKept (calls_of threads' t) (open_calls (record { entry = e; frees = [] } ∷ us) t)
threads_after threads threads' us e calls kept = λ t. kept_by (thread_of e == t) e (calls_of threads t) (calls_of threads' t) (open_calls us t) (calls t) (kept t)

pub turn_read : (r r' : Reading) (us : List Turn) (e : Entry) (from to : Owner) → Reads r us
    → ((t : ℕ) → calls_of r'.threads.items t ≡ cond (thread_of e == t) (told_to e (calls_of r.threads.items t)) (calls_of r.threads.items t))
    → from ≡ actor_at us (thread_of e) → to ≡ actor_at (record { entry = e; frees = [] } ∷ us) (thread_of e)
    → ((o : ℕ) → kept.told (kept.record_at r'.objects.rows.items o) ≡ kept.told_after o e from to (kept.told (kept.record_at r.objects.rows.items o)))
    → kept.IsCounted r'.objects.rows.items r'.objects.made → r'.objects.made ≡ is_new e + r.objects.made
    → accounts.AccountsGrow r.accounts r'.accounts (added_by r.objects.rows.items r.objects.made e from to) → r'.begun ≡ true
    → Reads r' (record { entry = e; frees = [] } ∷ us)
turn_read r r' us e from to reads calls acts enters objects counted made grows begun = record {
  threads = threads_after r.threads.items r'.threads.items us e calls reads.threads;
  objects = λ o. objects o ∙ (ap (kept.told_after o e from to) (reads.objects o) ∙ (ap (λ (x : Owner). kept.told_after o e x to (kept.told_at us o)) acts ∙ ap (λ (x : Owner). kept.told_after o e (actor_at us (thread_of e)) x (kept.told_at us o)) enters));
  made = made ∙ ap (λ (n : ℕ). is_new e + n) reads.made;
  counted = counted;
  accounts = λ w listed. account_after r.objects.rows.items r.objects.made us e from to w (accounts.account_of r.accounts w) (accounts.account_of r'.accounts w) reads.objects reads.made acts enters
      (reads.accounts w (still_listed r'.accounts r.accounts w (sym grows.clients) (sym grows.instances) listed)) (grows.accounts w (still_listed r'.accounts r.accounts w (sym grows.clients) (sym grows.instances) listed));
  begun = begun;
}

or_true : (x y : Bool) → ((x || true) || y) ≡ true
or_true true y = refl
or_true false y = refl

or_false : (x y : Bool) → ((x || false) || y) ≡ (x || y)
or_false true y = refl
or_false false y = refl

-- an object is gone, or the same as before
gone_by : (b x y z : Bool) (k t : kept.ToldObject) → k ≡ cond b (record t { gone = true }) t → t.gone ≡ (x || y) → z ≡ (x || b) → k ≡ record t { gone = z || y }
gone_by true x y z k t is gone more =
    let now : (z || y) ≡ true = ap (λ (c : Bool). c || y) more ∙ or_true x y in
    is ∙ ap (λ (c : Bool). record t { gone = c }) (sym now)
gone_by false x y z k t is gone more =
    let now : (z || y) ≡ t.gone = ap (λ (c : Bool). c || y) more ∙ (or_false x y ∙ sym gone) in
    is ∙ ap (λ (c : Bool). record t { gone = c }) (sym now)

or_last : (b : Bool) → (b || false) ≡ b
or_last true = refl
or_last false = refl

one_had : (os : List ℕ) (o v : ℕ) → has (os ++ o ∷ []) v ≡ (has os v || (o == v))
one_had os o v = list_any-append (λ x. x == v) os (o ∷ []) ∙ ap (λ (b : Bool). has os v || b) (or_last (o == v))

pub free_read : (r r' : Reading) (us : List Turn) (o : ℕ) → r.begun ≡ true → Reads r us → ((t : ℕ) → calls_of r'.threads.items t ≡ calls_of r.threads.items t)
    → ((v : ℕ) → kept.told (kept.record_at r'.objects.rows.items v) ≡ cond (o == v) (record (kept.told (kept.record_at r.objects.rows.items v)) { gone = true }) (kept.told (kept.record_at r.objects.rows.items v)))
    → kept.IsCounted r'.objects.rows.items r'.objects.made → r'.objects.made ≡ r.objects.made
    → accounts.AccountsGrow r.accounts r'.accounts (λ w. accounts.share (report.same_owner (kept.owner_in r.objects.rows.items o) w) one_freed) → r'.begun ≡ r.begun
    → Reads r' (freeing o us)
free_read r r' [] o begun reads calls objects counted made grows begun' = absurd (let e : false ≡ true = sym reads.begun ∙ begun in cc)
free_read r r' (u ∷ us) o begun reads calls objects counted made grows begun' = record {
  threads = λ t. subst (λ (k : List Opened). AreCallsKept k (open_calls (u ∷ us) t)) (sym (calls t)) (reads.threads t);
  objects = λ v. gone_by (o == v) (has u.frees v) (has (dropped u.entry) v || gone_at us v) (has (u.frees ++ o ∷ []) v) (kept.told (kept.record_at r'.objects.rows.items v)) (kept.told_at (u ∷ us) v) (objects v ∙ ap (λ (x : kept.ToldObject). cond (o == v) (record x { gone = true }) x) (reads.objects v)) refl (one_had u.frees o v);
  made = made ∙ reads.made;
  counted = counted;
  accounts = λ w listed. account_freed r.objects.rows.items u us o w (accounts.account_of r.accounts w) (accounts.account_of r'.accounts w) reads.objects
      (reads.accounts w (still_listed r'.accounts r.accounts w (sym grows.clients) (sym grows.instances) listed)) (grows.accounts w (still_listed r'.accounts r.accounts w (sym grows.clients) (sym grows.instances) listed));
  begun = begun' ∙ reads.begun;
}
