-- Accounts that grow.
use Rattle.std.proofs.Common.{◌≡◌, ℕ, zero, suc, ◌+◌, ◌*◌, ◌≤◌, ◌<◌, ◌⊎◌, inl, inr, Bool, true, false, List, [], ◌∷◌, length, take, filter, get_or, refl, sym, ap, ◌∙◌, subst, cond, arith}
use Rattle.std.proofs.lemmas.List.{get_or_past}
use Rattle.std.proofs.lemmas.List.Filters.{length-filter_more}
use Rattle.std.proofs.lemmas.Bool.Decides.{leb_tells}
use Rattle.std.specs.Option.{option_map_or}
use Rattle.machine_defs.specs.declared.entry.Entry.{Entry}
use Rattle.machine_defs.specs.declared.values.Owner.{Owner}
use Rattle.machine_defs.specs.declared.values.Owner.TheVariants as owner
use Rattle.machine_defs.specs.History.{dropped}
use Rattle.machine_defs.specs.Report.{one_if, same_owner, maker_at}
use Rattle.heap_report.specs.declared.accounts.Accounts.{Accounts}
use Rattle.heap_report.specs.declared.objects.ObjectRecord.{ObjectRecord}
use Rattle.heap_report.specs.KeptAccounts.{Account, nothing, plus, account_at, account_of, has_number, lists, IsAtMost, AtMost, share, AccountsGrow}
use Rattle.heap_report.specs.KeptObjects.{owner_in}
use Rattle.heap_report.specs.Counting.{passed_on, passing, freed_of, added_by, one_freed, most_added}

-- an account that isn't listed has nothing in it
listed_or : (rows : List Account) (n : ℕ) → has_number rows n ⊎ (account_at rows n ≡ nothing)
listed_or rows zero = inr refl
listed_or rows (suc k) = elim (leb_tells (length rows) k) [ inl past ↦ inr (get_or_past rows k nothing past.1) | inr within ↦ inl (omega (arith, within.1), omega (arith, within.1)) ]

owner_listed : (a : Accounts) (w : Owner) → lists a w ⊎ (account_of a w ≡ nothing)
owner_listed a (owner.Client t) = listed_or a.clients.items t
owner_listed a (owner.Instance i) = listed_or a.instances.items i

-- the same owners are listed
pub still_listed : (a b : Accounts) (w : Owner) → length b.clients.items ≡ length a.clients.items → length b.instances.items ≡ length a.instances.items → lists a w → lists b w
still_listed a b (owner.Client t) clients instances h = (h.0, omega (arith, h.1))
still_listed a b (owner.Instance i) clients instances h = (h.0, omega (arith, h.1))

within_sum : (x y a b : Account) → IsAtMost x a → IsAtMost y b → IsAtMost (plus x y) (plus a b)
within_sum x y a b h k = record { made = omega arith; received = omega arith; passed = omega arith; freed = omega arith }

nothing_within : (a : Account) → IsAtMost nothing a
nothing_within a = record { made = omega arith; received = omega arith; passed = omega arith; freed = omega arith }

grown_by : (a b : Accounts) (f : Owner → Account) (m top : Account) (w : Owner) → AccountsGrow a b f → IsAtMost (f w) m → AtMost a top → lists b w ⊎ (account_of b w ≡ nothing) → IsAtMost (account_of b w) (plus top m)
grown_by a b f m top w grows small old (inl listed) =
    let here : account_of b w ≡ plus (account_of a w) (f w) = grows.accounts w (still_listed b a w (sym grows.clients) (sym grows.instances) listed) in
    subst (λ (x : Account). IsAtMost x (plus top m)) (sym here) (within_sum (account_of a w) (f w) top m (old w) small)
grown_by a b f m top w grows small old (inr none) = subst (λ (x : Account). IsAtMost x (plus top m)) (sym none) (nothing_within (plus top m))

-- accounts that grow have at most so much more
pub grown : (a b : Accounts) (f : Owner → Account) (m top : Account) → AccountsGrow a b f → ((w : Owner) → IsAtMost (f w) m) → AtMost a top → AtMost b (plus top m)
grown a b f m top grows small old = λ w. grown_by a b f m top w grows (small w) old (owner_listed b w)

pub within_more : (x a b : Account) → IsAtMost x a → IsAtMost a b → IsAtMost x b
within_more x a b h k = record { made = omega arith; received = omega arith; passed = omega arith; freed = omega arith }

pub at_most_more : (s : Accounts) (a b : Account) → AtMost s a → IsAtMost a b → AtMost s b
at_most_more s a b h k = λ w. within_more (account_of s w) a b (h w) k

plus_plus : (a b c : Account) → plus (plus a b) c ≡ plus a (plus b c)
plus_plus a b c =
    let m : (a.made + b.made) + c.made ≡ a.made + (b.made + c.made) = omega arith in
    let r : (a.received + b.received) + c.received ≡ a.received + (b.received + c.received) = omega arith in
    let p : (a.passed + b.passed) + c.passed ≡ a.passed + (b.passed + c.passed) = omega arith in
    let f : (a.freed + b.freed) + c.freed ≡ a.freed + (b.freed + c.freed) = omega arith in
    cc

-- accounts that grow twice
pub grown_twice : (a b c : Accounts) (f g h : Owner → Account) → AccountsGrow a b f → AccountsGrow b c g → ((w : Owner) → h w ≡ plus (f w) (g w)) → AccountsGrow a c h
grown_twice a b c f g h one two both = record {
  accounts = λ w listed.
      two.accounts w (still_listed a b w one.clients one.instances listed) ∙ (ap (λ (x : Account). plus x (g w)) (one.accounts w listed) ∙ (plus_plus (account_of a w) (f w) (g w) ∙ ap (plus (account_of a w)) (sym (both w))));
  clients = two.clients ∙ one.clients;
  instances = two.instances ∙ one.instances;
}

pub one_within : (b : Bool) → one_if b ≤ 1
one_within true = omega arith
one_within false = omega arith

pub share_within : (b : Bool) (a : Account) → IsAtMost (share b a) a
share_within true a = record { made = omega arith; received = omega arith; passed = omega arith; freed = omega arith }
share_within false a = nothing_within a

-- one object more is freed
freed_sum : (x y : ℕ) (b : Bool) → y ≡ x + cond b 1 0 → record nothing { freed = y } ≡ plus (record nothing { freed = x }) (share b one_freed)
freed_sum x y true e = ap (λ (n : ℕ). record nothing { freed = n }) e
freed_sum x y false e = ap (λ (n : ℕ). record nothing { freed = n }) e

pub freed_more : (rows : List ObjectRecord) (os : List ℕ) (i d : ℕ) (by w : Owner) → i < length os → by ≡ owner_in rows (get_or os i d) → freed_of rows (take (i + 1) os) w ≡ plus (freed_of rows (take i os) w) (share (same_owner by w) one_freed)
freed_more rows os i d by w within is =
    subst (λ (x : Owner). freed_of rows (take (i + 1) os) w ≡ plus (freed_of rows (take i os) w) (share (same_owner x w) one_freed)) (sym is)
    (freed_sum (length (filter (λ o. same_owner (owner_in rows o) w) (take i os))) (length (filter (λ o. same_owner (owner_in rows o) w) (take (i + 1) os))) (same_owner (owner_in rows (get_or os i d)) w) (length-filter_more (λ o. same_owner (owner_in rows o) w) os i d within))

-- what an entry adds is little
some_within : (b : Bool) (n m : ℕ) → n ≤ m → cond b n 0 ≤ m
some_within true n m h = h
some_within false n m h = omega arith

filter_by : {X : Type 0} (p : X → Bool) (x : X) (xs : List X) (b : Bool) → length (filter p xs) ≤ length xs → length (cond b (x ∷ filter p xs) (filter p xs)) ≤ suc (length xs)
filter_by p x xs true h = omega arith
filter_by p x xs false h = omega arith

filter_within : {X : Type 0} (p : X → Bool) (xs : List X) → length (filter p xs) ≤ length xs
filter_within p [] = omega arith
filter_within p (x ∷ xs) = filter_by p x xs (p x) (filter_within p xs)

pub added_within : (rows : List ObjectRecord) (made : ℕ) (e : Entry) (from to w : Owner) → passing rows made e ≤ 8 * (made + 1) → length (dropped e) ≤ 8 → IsAtMost (added_by rows made e from to w) (most_added made)
added_within rows made e from to w few short = record {
  made = one_within (option_map_or (same_owner w) (maker_at e) false);
  received = some_within (same_owner to w) (passing rows made e) (8 * (made + 1)) few;
  passed = some_within (same_owner from w) (passing rows made e) (8 * (made + 1)) few;
  freed = omega (arith, filter_within (λ o. same_owner (owner_in rows o) w) (dropped e), short);
}

pub passed_within : (from to : Owner) (n : ℕ) (w : Owner) → IsAtMost (passed_on from to n w) (record nothing { received = n; passed = n })
passed_within from to n w = record {
  made = omega arith;
  received = some_within (same_owner to w) n n (omega arith);
  passed = some_within (same_owner from w) n n (omega arith);
  freed = omega arith;
}
