-- The report, from what is kept of the whole history.
use Rattle.std.proofs.Common.{◌≡◌, ℕ, suc, ◌+◌, ◌<◌, ◌++◌, List, [], ◌∷◌, length, map, get_or, refl, sym, ap, ◌∙◌, subst, arith}
use Rattle.std.specs.List.{flat_map, range_with_len}
use Rattle.std.specs.Fmt.{decimal}
use Rattle.std.proofs.lemmas.List.Folds.{flat_map-map}
use Rattle.std.proofs.lemmas.Grind.{flat_map-append}
use Rattle.rl_defs.specs.declared.load.LoadRows.{LoadRows}
use Rattle.machine_defs.specs.declared.entry.Entry.{Entry}
use Rattle.machine_defs.specs.declared.values.Owner.{Owner}
use Rattle.machine_defs.specs.declared.values.Owner.TheVariants as owner
use Rattle.machine_defs.specs.State.{State}
use Rattle.machine_defs.specs.Loans.{loans}
use Rattle.machine_defs.specs.Steps.{Turn}
use Rattle.machine_defs.specs.History.{turns_of}
use Rattle.machine_defs.specs.Texts.{line, word, object_text, owner_text, struct_name}
use Rattle.machine_defs.specs.Report as report
use Rattle.heap_report.specs.declared.reading.Reading.{Reading}
use Rattle.heap_report.specs.declared.report.ObjectRow.{ObjectRow}
use Rattle.heap_report.specs.KeptAccounts.{Account, nothing, told}
use Rattle.heap_report.specs.Left.{row_of, AreLeft}
use Rattle.heap_report.specs.Lines.{left_line, account_lines, reading_text}
use Rattle.heap_report.specs.Readings.{Reads}
use Rattle.heap_report.proofs.Told.{owner_agrees, flat_map_alike}

left_told : (L : LoadRows) (us : List Turn) (s : State) (r : Reading) (left : List ObjectRow) → Reads r us → left ≡ map (row_of s) s.objects → flat_map (left_line L r.objects.rows.items) left ≡ flat_map (report.object_line L us s) s.objects
left_told L us s r left reads is =
    let rows = r.objects.rows.items in
    ap (flat_map (left_line L rows)) is ∙ (flat_map-map (left_line L rows) (row_of s) s.objects
    ∙ flat_map_alike (λ x. left_line L rows (row_of s x)) (report.object_line L us s) s.objects (λ x. ap (λ (w : Owner). line (object_text x.number ++ word (struct_name L x.ty) (word (owner_text w) (word (decimal (loans s x.number)) [])))) (owner_agrees rows us x.number reads.objects)))

-- the lines of accounts that agree with the history's, of the owners from one number on
lines_told : (of : ℕ → Owner) (us : List Turn) (rows : List Account) (k : ℕ) → ((j : ℕ) → j < length rows → told (get_or rows j nothing) ≡ report.account us (of (k + j))) → account_lines of k rows ≡ flat_map (λ w. report.account_line w (report.account us w)) (map of (range_with_len k (length rows)))
lines_told of us [] k same = refl
lines_told of us (a ∷ rows) k same =
    let e : k + 0 ≡ k = omega arith in
    let first : told a ≡ report.account us (of k) = subst (λ (n : ℕ). told a ≡ report.account us (of n)) e (same 0 (omega arith)) in
    let rest = lines_told of us rows (k + 1) (λ j h. let n : k + suc j ≡ (k + 1) + j = omega arith in subst (λ (m : ℕ). told (get_or rows j nothing) ≡ report.account us (of m)) n (same (suc j) (omega arith))) in
    ap (λ (x : report.Account). report.account_line (of k) x ++ account_lines of (k + 1) rows) first ∙ ap (λ (t : List ℕ). report.account_line (of k) (report.account us (of k)) ++ t) rest

client_told : (r : Reading) (us : List Turn) (j n : ℕ) → Reads r us → j < length r.accounts.clients.items → suc j ≡ n → told (get_or r.accounts.clients.items j nothing) ≡ report.account us (owner.Client n)
client_told r us j n reads within is = subst (λ (m : ℕ). told (get_or r.accounts.clients.items j nothing) ≡ report.account us (owner.Client m)) is (reads.accounts (owner.Client (suc j)) (omega arith, omega arith))

instance_told : (r : Reading) (us : List Turn) (j n : ℕ) → Reads r us → j < length r.accounts.instances.items → suc j ≡ n → told (get_or r.accounts.instances.items j nothing) ≡ report.account us (owner.Instance n)
instance_told r us j n reads within is = subst (λ (m : ℕ). told (get_or r.accounts.instances.items j nothing) ≡ report.account us (owner.Instance m)) is (reads.accounts (owner.Instance (suc j)) (omega arith, omega arith))

-- what is put from what is kept is the report
pub reported : (L : LoadRows) (H : List Entry) (s : State) (r : Reading) (left : List ObjectRow) (instances : ℕ) → Reads r (turns_of H) → length r.accounts.clients.items ≡ length L.clients → length r.accounts.instances.items ≡ instances → AreLeft left instances s → reading_text L r left ≡ report.report_text L H s
reported L H s r left instances reads clients opened are =
    let us = turns_of H in
    let f = λ (w : Owner). report.account_line w (report.account us w) in
    let objects = left_told L us s r left reads are.objects in
    let client_lines = lines_told owner.Client us r.accounts.clients.items 1 (λ j h. client_told r us j (1 + j) reads h (omega arith)) ∙ ap (λ (n : ℕ). flat_map f (map owner.Client (range_with_len 1 n))) clients in
    let instance_lines = lines_told owner.Instance us r.accounts.instances.items 1 (λ j h. instance_told r us j (1 + j) reads h (omega arith)) ∙ ap (λ (n : ℕ). flat_map f (map owner.Instance (range_with_len 1 n))) (opened ∙ are.opened) in
    ap (λ (t : List ℕ). t ++ (account_lines owner.Client 1 r.accounts.clients.items ++ account_lines owner.Instance 1 r.accounts.instances.items)) objects
    ∙ ap (λ (t : List ℕ). flat_map (report.object_line L us s) s.objects ++ t)
    (ap (λ (t : List ℕ). t ++ account_lines owner.Instance 1 r.accounts.instances.items) client_lines ∙ (ap (λ (t : List ℕ). flat_map f (map owner.Client (range_with_len 1 (length L.clients))) ++ t) instance_lines
    ∙ sym (flat_map-append f (map owner.Client (range_with_len 1 (length L.clients))) (map owner.Instance (range_with_len 1 (length s.instances))))))
