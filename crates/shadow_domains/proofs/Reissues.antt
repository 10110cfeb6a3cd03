-- Which calls may be issued again.
use Rattle.std.proofs.Common.{◌≡◌, ◌∙◌, Bool, ℕ, ◌<◌, ◌&&◌, Some, None, true, false, length, nat_lt, refl, ap, rules, arith}
use Rattle.rl_defs.specs.declared.load.LoadRows.{LoadRows}
use Rattle.rl_defs.specs.declared.tables.MethodRow.{MethodRow}
use Rattle.rl_defs.specs.Domains.{method_of}
use Rattle.machine_defs.specs.Calling.{is_shadow, is_idempotent}

pub reissues : (L M : LoadRows) (x m : ℕ) (row : MethodRow) → M ≡ L → length M.loads < x → Some row ≡ method_of M x m
    → row.idempotent ≡ (is_shadow L x && is_idempotent L x m)
reissues L M x m row same above here =
    let within : length L.loads < x = omega (arith, ap (λ (R : LoadRows). length R.loads) same) in
    let method : Some row ≡ method_of L x m = here ∙ ap (λ (R : LoadRows). method_of R x m) same in
    let shadow : nat_lt (length L.loads) x ≡ true = search rules in
    rw (shadow, ← method) refl

false_last : (b : Bool) → false ≡ (b && false)
false_last true = refl
false_last false = refl

pub reissues_none : (L M : LoadRows) (x m : ℕ) → M ≡ L → None ≡ method_of M x m → false ≡ (is_shadow L x && is_idempotent L x m)
reissues_none L M x m same here =
    let none : None ≡ method_of L x m = here ∙ ap (λ (R : LoadRows). method_of R x m) same in
    rw (← none) (false_last (is_shadow L x))
