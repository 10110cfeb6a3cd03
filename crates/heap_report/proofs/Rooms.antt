-- What is kept has room for what more entries add.
use Rattle.std.proofs.Common.{◌≡◌, ℕ, ◌+◌, ◌-◌, ◌^◌, ◌≤◌, ◌<◌, List, [], ◌∷◌, length, take, get_or, ap, sym, ◌∙◌, arith}
use Rattle.std.proofs.lemmas.List.{take_more}
use Rattle.std.proofs.lemmas.List.Sums.{fold-append}
use Rattle.machine_defs.specs.declared.entry.Entry.{Entry}
use Rattle.machine_defs.specs.declared.entry.Entry.TheVariants as entry
use Rattle.machine_defs.specs.declared.values.Owner.{Owner}
use Rattle.machine_defs.specs.Report.{same_owner}
use Rattle.machine_defs.specs.History.{is_new, with_entry, turns_of}
use Rattle.heap_report.specs.declared.reading.Reading.{Reading}
use Rattle.heap_report.specs.KeptAccounts.{Account, most, share, IsAtMost, AccountsGrow}
use Rattle.heap_report.specs.Counting.{most_added, one_freed}
use Rattle.heap_report.specs.Readings.{AccountsHaveRoom}
use Rattle.heap_report.proofs.Growing.{grown, at_most_more, share_within}

new_once : (e : Entry) → is_new e ≤ 1
new_once (entry.New t w o ty values) = omega arith
new_once _ = omega arith

pub room_more : (r : Reading) (n m : ℕ) → AccountsHaveRoom r n → n ≤ m → AccountsHaveRoom r m
room_more r n m room more = record {
  made = omega arith;
  accounts = at_most_more r.accounts (most n) (most m) room.accounts (record { made = omega arith; received = omega arith; passed = omega arith; freed = omega arith });
}

pub room_after : (r r' : Reading) (n : ℕ) (f : Owner → Account) (e : Entry) → AccountsHaveRoom r (2 ^ 30 - 1) → AccountsHaveRoom r n → r'.objects.made ≡ is_new e + r.objects.made → AccountsGrow r.accounts r'.accounts f → ((w : Owner) → IsAtMost (f w) (most_added r.objects.made)) → AccountsHaveRoom r' (n + 1)
room_after r r' n f e limit room made grows little =
    let few : r.objects.made ≤ 2 ^ 30 - 1 = limit.made in
    record {
      made = omega (arith, made, room.made, new_once e);
      accounts = at_most_more r'.accounts _ _ (grown r.accounts r'.accounts f (most_added r.objects.made) (most n) grows little room.accounts) (record { made = omega arith; received = omega arith; passed = omega arith; freed = omega arith });
    }

pub room_freed : (r r' : Reading) (n : ℕ) (x : Owner) → AccountsHaveRoom r n → r'.objects.made ≡ r.objects.made → AccountsGrow r.accounts r'.accounts (λ w. share (same_owner x w) one_freed) → AccountsHaveRoom r' (n + 1)
room_freed r r' n x room made grows = record {
  made = omega (arith, made, room.made);
  accounts = at_most_more r'.accounts _ _ (grown r.accounts r'.accounts (λ w. share (same_owner x w) one_freed) one_freed (most n) grows (λ w. share_within (same_owner x w) one_freed) room.accounts) (record { made = omega arith; received = omega arith; passed = omega arith; freed = omega arith });
}

pub turns_more : (H : List Entry) (i : ℕ) (e : Entry) → i < length H → e ≡ get_or H i e → with_entry (turns_of (take i H)) e ≡ turns_of (take (i + 1) H)
turns_more H i e within is =
    ap (with_entry (turns_of (take i H))) is ∙ sym (ap turns_of (take_more H i e within) ∙ fold-append with_entry [] (take i H) (get_or H i e ∷ []))
