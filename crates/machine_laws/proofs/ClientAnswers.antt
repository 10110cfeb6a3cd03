-- What a client's own frame holds after the answer to its call.
use Rattle.std.proofs.Common.{◌≡◌, ℕ, zero, suc, true, List, [], ◌∷◌, length, Some, slice_get, refl, ap, subst, arith, inl, inr, sym}
use Rattle.std.proofs.lemmas.Bool.{and_parts}
use Rattle.rl_defs.specs.declared.values.Value.{Value}
use Rattle.rl_defs.specs.declared.values.Value.TheVariants as value
use Rattle.machine_defs.specs.declared.values.RpcCode.{RpcCode}
use Rattle.machine_defs.specs.declared.frame.Answer.TheVariants as answer
use Rattle.rl_defs.specs.declared.tables.Kind.{Kind}
use Rattle.rl_defs.specs.declared.tables.Kind.TheVariants as kind
use Rattle.rl_defs.specs.declared.load.LoadRows.{LoadRows}
use Rattle.rl_defs.specs.declared.load.Command.TheVariants as command
use Rattle.rl_defs.specs.CodeKinds.{as_register}
use Rattle.rl_defs.specs.Registers.{Typing, fits_kind}
use Rattle.machine_defs.specs.CodeFits.{are_values}
use Rattle.rl_defs.specs.CodeNames.{results_of}
use Rattle.rl_defs.specs.Domains.{method_of}
use Rattle.machine_defs.specs.State.{Thread}
use Rattle.rl_defs.specs.Rows.{row}
use Rattle.machine_defs.specs.Loans.{count}
use Rattle.rl_defs.specs.Rows.{commands_of}
use Rattle.machine_defs.specs.Frames.{names_of, after_command}
use Rattle.machine_defs.specs.Frames.{results_in}
use Rattle.machine_defs.specs.NativeFits.{value_suits, values_suit}
use Rattle.rl_defs.specs.Rows.{BindsName}
use Rattle.machine_defs.specs.Arguments.{objects_in}
use Rattle.rl_defs.specs.ValidScripts.{CallFits}
use Rattle.machine_defs.proofs.CodeEntries.{as_many}
use Rattle.rl_defs.proofs.ValidFacts.{command_fits, lends_none, method_kept}
use Rattle.machine_laws.specs.LedgerOf.{names_held}
use Rattle.machine_laws.specs.LedgerRows.{Exchanged}
use Rattle.rl_defs.proofs.Lists.{contains_at}
use Rattle.machine_laws.specs.AtCall.{IsCallOf}
use Rattle.machine_laws.proofs.ClientRows.{bind_none}
use Rattle.machine_laws.proofs.NameBinds.{Unused, count_bound}
use Rattle.rl_defs.specs.Valid.{Valid}

pub are_length : (types : Typing) (kinds : List Kind) (values : List Value) → are_values types kinds values ≡ true → length values ≡ length kinds
are_length types kinds values is = sym (as_many types kinds values is)

-- a value at a place suits the kind there
pub suits_at : (types : Typing) (kinds : List Kind) (values : List Value) → values_suit types kinds values ≡ true → (i : ℕ) (v : Value) → slice_get values i ≡ Some v → (k : Kind) × (slice_get kinds i ≡ Some k) × (value_suits types k v ≡ true)
suits_at types [] [] is i v here = absurd cc
suits_at types [] (w ∷ values) is i v here = absurd cc
suits_at types (k ∷ kinds) [] is i v here = absurd cc
suits_at types (k ∷ kinds) (w ∷ values) is zero v here =
    let parts = and_parts (value_suits types k w) (values_suit types kinds values) is in
    let same : w ≡ v = cc in
    (k, refl, subst (λ x. value_suits types k x ≡ true) same parts.0)
suits_at types (k ∷ kinds) (w ∷ values) is (suc i) v here = suits_at types kinds values (and_parts (value_suits types k w) (values_suit types kinds values) is).1 i v here

-- no object is among values of which none is an object
no_objects : (types : Typing) (kinds : List Kind) (values : List Value) → are_values types kinds values ≡ true → ((q s : ℕ) → slice_get kinds q ≡ Some (kind.Own s) → ⊥) → ((q s : ℕ) → slice_get kinds q ≡ Some (kind.Lent s) → ⊥) → (o : ℕ) → count o (objects_in values) ≡ 0
no_objects types [] [] is none unlent o = refl
no_objects types [] (v ∷ values) is none unlent o = absurd cc
no_objects types (k ∷ kinds) [] is none unlent o = absurd cc
no_objects types (k ∷ kinds) (value.Num n ∷ values) is none unlent o = no_objects types kinds values (and_parts (fits_kind types (as_register k) (Some (value.Num n))) (are_values types kinds values) is).1 (λ q s here. none (suc q) s here) (λ q s here. unlent (suc q) s here) o
no_objects types (k ∷ kinds) (value.Cap x ∷ values) is none unlent o = no_objects types kinds values (and_parts (fits_kind types (as_register k) (Some (value.Cap x))) (are_values types kinds values) is).1 (λ q s here. none (suc q) s here) (λ q s here. unlent (suc q) s here) o
no_objects types (kind.Own s ∷ kinds) (value.Obj p ∷ values) is none unlent o = absurd (none zero s refl)
no_objects types (kind.Lent s ∷ kinds) (value.Obj p ∷ values) is none unlent o = absurd (unlent zero s refl)
no_objects types (kind.Num w ∷ kinds) (value.Obj p ∷ values) is none unlent o = absurd cc
no_objects types (kind.Cap t ∷ kinds) (value.Obj p ∷ values) is none unlent o = absurd cc

-- where the command at a thread's place is the call, its names hold the results that come back
module _ (L : LoadRows) (t : ℕ) (plans : Valid L) (thread : Thread) (x m : ℕ) (calls : IsCallOf (slice_get (commands_of (row L.clients t)) thread.place) x m) where
  call_fits : CallFits L t thread.place x m calls.0 calls.1
  call_fits = command_fits L plans t thread.place (command.Call x m calls.0 calls.1) calls.2

  results_same : results_of (method_of L x m) ≡ call_fits.method.results
  results_same = ap results_of call_fits.here

  pub back_held : Unused calls.1 thread.names → (types : Typing) (values : List Value) → are_values types (results_of (method_of L x m)) values ≡ true
      → Exchanged (names_held (Some thread)) [] (objects_in values) (names_held (Some (after_command L t thread values)))
  back_held unused types values suits o =
      let suits' : are_values types call_fits.method.results values ≡ true = rw results_same at suits in
      let kept = method_kept L plans x m call_fits.method call_fits.here in
      rw calls.2 (elim call_fits.count [
        | inl none ↦
            let z = no_objects types call_fits.method.results values suits' (λ q r e. call_fits.owned none r (contains_at call_fits.method.results q (kind.Own r) e)) (lends_none L.tables call_fits.method kept) o in
            rw none (omega (arith, z))
        | inr as_many ↦
            let n = are_length types call_fits.method.results values suits' in
            let r = count_bound o calls.1 values thread.names unused (omega (arith, n, as_many)) in
            omega (arith, r)
      ])

  -- and what each of them holds then suits the kind that the command gives it
  pub back_suits : (types : Typing) (values : List Value) → values_suit types (results_of (method_of L x m)) values ≡ true → (i k : ℕ) (v : Value) → slice_get calls.1 i ≡ Some k → slice_get values i ≡ Some v
      → (of : Kind) × BindsName L t k of × (value_suits types of v ≡ true)
  back_suits types values suits i k v name here =
      let r = suits_at types (results_of (method_of L x m)) values suits i v here in
      (r.0, record { place = thread.place; next = command.Call x m calls.0 calls.1; here = calls.2; at = i; name = name; kind = r.1 }, r.2)

-- an answer that fails brings nothing
pub failed_held : (L : LoadRows) (t : ℕ) (thread : Thread) (why : RpcCode) → names_held (Some (after_command L t thread (results_in (answer.Failed why)))) ≡ names_held (Some thread)
failed_held L t thread why = ap (λ names. names_held (Some (record thread { names = names }))) (bind_none (names_of (slice_get (commands_of (row L.clients t)) thread.place)) thread.names)
