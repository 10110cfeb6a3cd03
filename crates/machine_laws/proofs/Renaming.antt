-- Script names that fit after what a thread did.
use Rattle.std.proofs.Common.{◌≡◌, ℕ, ◌<◌, ◌≤◌, true, ◌⊎◌, List, [], length, map, Option, Some, None, slice_get, slice_set, ap, sym, ◌∙◌, arith, inl, inr}
use Rattle.std.proofs.lemmas.Bool.{cases_Bool, cases_eq}
use Rattle.std.proofs.lemmas.List.{length-set}
use Rattle.rl_defs.specs.declared.values.Value.{Value}
use Rattle.rl_defs.specs.declared.values.Value.TheVariants as value
use Rattle.rl_defs.specs.declared.tables.Kind.{Kind}
use Rattle.rl_defs.specs.declared.load.LoadRows.{LoadRows}
use Rattle.rl_defs.specs.declared.load.Command.{Command}
use Rattle.rl_defs.specs.Registers.{Typing}
use Rattle.machine_defs.specs.State.{State, Thread}
use Rattle.rl_defs.specs.Rows.{row, bound_by}
use Rattle.machine_defs.specs.Loans.{count}
use Rattle.rl_defs.specs.Rows.{commands_of}
use Rattle.machine_defs.specs.Wants.{name_held}
use Rattle.machine_defs.specs.Arguments.{has}
use Rattle.machine_defs.specs.Calling.{unless_moved}
use Rattle.machine_defs.specs.Frames.{names_of, after_command}
use Rattle.machine_defs.specs.NativeFits.{value_suits}
use Rattle.machine_defs.specs.Seen.{types_of}
use Rattle.rl_defs.specs.Rows.{is_target, trait_if}
use Rattle.machine_defs.specs.ObjectRows.{without_name}
use Rattle.rl_defs.specs.Rows.{BindsName}
use Rattle.rl_defs.specs.Valid.{Valid}
use Rattle.rl_defs.proofs.ValidFacts.{bound_once}
use Rattle.machine_laws.specs.Fitting.{BindsLater, NamesFit}
use Rattle.machine_laws.proofs.ClientRows.{bind_none}
use Rattle.machine_laws.proofs.Retyping.{value_same}
use Rattle.machine_laws.proofs.NameCounts.{objects_of, held_some, held_set_same, held_set_other, held_kept, kept_length}
use Rattle.machine_laws.proofs.NameBinds.{Unused, held_bound, bound_none, bound_length}

-- A thread's names hold what they did, or values that suit the kinds which commands give them. Those of commands still to come were so before, and
-- hold nothing if they held nothing.
pub record Renamed (L : LoadRows) (types : Typing) (t : ℕ) (old new : Thread) : Type 0 where
  pub holds : (k : ℕ) (v : Value) → name_held new.names k ≡ Some v → (name_held old.names k ≡ Some v) ⊎ ((of : Kind) × BindsName L t k of × (value_suits types of v ≡ true))
  pub place : old.place ≤ new.place
  pub later : (k : ℕ) → BindsLater L t new.place k → name_held old.names k ≡ None → name_held new.names k ≡ None
  pub room : length new.names ≡ length old.names

-- so they fit after it, where the types agree on objects that they hold
pub names_renamed : (L : LoadRows) (s z : State) (t : ℕ) (types : Typing) (old new : Thread) → NamesFit L s t old → Renamed L types t old new
    → ((o : ℕ) → 0 < count o (objects_of old.names) → types.struct_of o ≡ (types_of L s).struct_of o) → ((o : ℕ) → 0 < count o (objects_of new.names) → (types_of L z).struct_of o ≡ types.struct_of o) → ((x : ℕ) → types.trait_of x ≡ trait_if L (is_target L x) x)
    → NamesFit L z t new
names_renamed L s z t types old new fits renamed before behind traits = record {
  kinds = λ k v is.
      let now = λ (of : Kind) (suits : value_suits types of v ≡ true). value_same types (types_of L z) of v (λ o e. behind o (held_some new.names k o (is ∙ ap Some e))) (λ x. sym (traits x)) suits in
      elim (renamed.holds k v is) [
        | inl kept' ↦
            let r = fits.kinds k v kept' in
            (r.0, r.1, now r.0 (value_same (types_of L s) types r.0 v (λ o e. before o (held_some old.names k o (kept' ∙ ap Some e))) traits r.2))
        | inr new' ↦ (new'.0, new'.1, now new'.0 new'.2)
      ];
  later = λ k binds. renamed.later k binds (fits.later k (binds.0, binds.1, binds.2, (let a = binds.3 in let b = renamed.place in omega (arith, a, b)), binds.4, binds.5));
  room = λ k binds. (let a = fits.room k binds in let b = renamed.room in omega (arith, a, b));
}

-- names that stay, while the script may go on
pub renamed_same : (L : LoadRows) (types : Typing) (t : ℕ) (old new : Thread) → new.names ≡ old.names → old.place ≤ new.place → Renamed L types t old new
renamed_same L types t old new same le = record {
  holds = λ k v is. inl (ap (λ names. name_held names k) (sym same) ∙ is);
  place = le;
  later = λ k binds none. ap (λ names. name_held names k) same ∙ none;
  room = ap length same;
}

pub renamed_then : (L : LoadRows) (types : Typing) (t : ℕ) (old mid new : Thread) → Renamed L types t old mid → Renamed L types t mid new → Renamed L types t old new
renamed_then L types t old mid new first second = record {
  holds = λ k v is. elim (second.holds k v is) [ inl kept' ↦ first.holds k v kept' | inr new' ↦ inr new' ];
  place = (let a = first.place in let b = second.place in omega (arith, a, b));
  later = λ k binds none. second.later k binds (first.later k (binds.0, binds.1, binds.2, (let a = binds.3 in let b = second.place in omega (arith, a, b)), binds.4, binds.5) none);
  room = second.room ∙ first.room;
}

-- a command is done whose names hold nothing after it
pub renamed_done : (L : LoadRows) (types : Typing) (t : ℕ) (thread : Thread) → Renamed L types t thread (after_command L t thread [])
renamed_done L types t thread = renamed_same L types t thread (after_command L t thread []) (bind_none (names_of (slice_get (commands_of (row L.clients t)) thread.place)) thread.names) (omega arith)

-- a name is used up
pub renamed_unbound : (L : LoadRows) (types : Typing) (t k : ℕ) (thread : Thread) → k < length thread.names → Renamed L types t thread (without_name k thread)
renamed_unbound L types t k thread lt = record {
  holds = λ j v is. elim (cases_eq j k) [
    | inl same ↦ absurd (let e : None ≡ Some v = sym (held_set_same thread.names k None lt) ∙ ap (name_held (slice_set thread.names k None)) (sym same) ∙ is in cc)
    | inr apart ↦ inl (sym (held_set_other thread.names k j None apart) ∙ is)
  ];
  place = omega arith;
  later = λ j binds none. elim (cases_eq j k) [
    | inl same ↦ ap (name_held (slice_set thread.names k None)) same ∙ held_set_same thread.names k None lt
    | inr apart ↦ held_set_other thread.names k j None apart ∙ none
  ];
  room = length-set thread.names k None;
}

-- names whose objects are moved
pub renamed_moved : (L : LoadRows) (types : Typing) (t fuel : ℕ) (moved : List ℕ) (thread : Thread) → Renamed L types t thread (record thread { fuel = fuel; names = map (unless_moved moved) thread.names })
renamed_moved L types t fuel moved thread = record {
  holds = λ k v is. inl (still (name_held thread.names k) v (sym (held_kept moved thread.names k) ∙ is));
  place = omega arith;
  later = λ k binds none. held_kept moved thread.names k ∙ ap (unless_moved moved) none;
  room = kept_length moved thread.names;
}
  where
    still : (w : Option Value) (v : Value) → unless_moved moved w ≡ Some v → w ≡ Some v
    still None v e = e
    still (Some (value.Num n)) v e = e
    still (Some (value.Cap x)) v e = e
    still (Some (value.Obj o)) v e = elim (cases_Bool (has moved o)) [
      | inl gone ↦ absurd (let e' : None ≡ Some v = rw gone at e in cc)
      | inr stays ↦ rw stays at e
    ]

-- a command is done whose names hold its results
pub renamed_bound : (L : LoadRows) (types : Typing) (t : ℕ) (thread : Thread) (c : Command) (values : List Value) → Valid L → slice_get (commands_of (row L.clients t)) thread.place ≡ Some c → Unused (bound_by c) thread.names
    → ((i k : ℕ) (v : Value) → slice_get (bound_by c) i ≡ Some k → slice_get values i ≡ Some v → (of : Kind) × BindsName L t k of × (value_suits types of v ≡ true))
    → Renamed L types t thread (after_command L t thread values)
renamed_bound L types t thread c values scripts here unused suits = record {
  holds = λ k v is. elim (held_bound (bound_by c) values thread.names unused k v (rw here at is)) [
    | inl kept' ↦ inl kept'
    | inr new' ↦ inr (suits new'.0 k v new'.1 new'.2)
  ];
  place = omega arith;
  later = λ k binds none.
      let apart : (i : ℕ) → slice_get (bound_by c) i ≡ Some k → ⊥ = λ i name. (let e = bound_once L scripts t thread.place binds.0 i binds.1 k c binds.2 here binds.4 name binds.5 in let a = binds.3 in let e0 = e.0 in omega (arith, a, e0)) in
      rw here (bound_none (bound_by c) values thread.names k none apart);
  room = rw here (bound_length (bound_by c) values thread.names);
}
