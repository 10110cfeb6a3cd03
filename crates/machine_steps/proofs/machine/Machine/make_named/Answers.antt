use Rattle.std.proofs.Common.{◌≡◌, ◌∙◌, ◌-◌, ◌+◌, true, length, Some, None, slice_get, ap, sym, subst}
use Rattle.std.specs.Option.{option_copied}
use Rattle.rl_defs.specs.declared.load.Command.{Command}
use Rattle.machine_defs.specs.declared.entry.Entry.TheVariants as entry
use Rattle.machine_defs.specs.declared.values.Owner.TheVariants as owner
use Rattle.machine_defs.specs.Wants.{Commands, makes, wanted}
use Rattle.machine_steps.specs.Kept.{MayStep}
use Rattle.machine_steps.specs.Inside.{state_of}
use Rattle.machine_steps.specs.Given.{name_given, struct_given, values_given}
use Rattle.machine_steps.proofs.Stepping.{Stepped}
use Rattle.machine_steps.proofs.Commands.{command_counted}
use Rattle.machine_steps.proofs.NewObjects.{kept_reserving}
use Rattle.machine_steps.proofs.ScriptNews.{Found, gives_makes, given_so, next_is, struct_there, make_few, make_owner, make_within, make_goes_by}
use Rattle.machine_steps.proofs.machine.Machine.make_named.Goals as goal

pub unreachable-requires-in_default-struct_row : goal.unreachable-requires-in_default-struct_row
unreachable-requires-in_default-struct_row c =
    let same : c.in-Some.command.now ≡ c.requires.wants.0 = next_is c.self.inside c.args.t c.requires.wants.0 (subst (λ w. wanted w.load w.state c.args.t ≡ Commands c.requires.wants.0) (sym c.self.view_is) c.requires.wants.1) (option_copied c.next_command.result) c.next_command.ensures c.in-Some.command.now (ap option_copied c.in-Some.is) in
    let there = struct_there c.laws.ensures c.self.invariant c.args.t c.requires.wants.0 (subst (λ w. MayStep w c.args.t) (sym c.self.view_is) c.requires.may) (subst (λ w. wanted w.load w.state c.args.t ≡ Commands c.requires.wants.0) (sym c.self.view_is) c.requires.wants.1) c.requires.wants.2 in
    let e : None ≡ Some there.0 = sym (ap option_copied c.in_default-struct_row.is) ∙ (c.struct_row.ensures ∙ (ap (λ n. slice_get c.self.inside.load.tables.structs n) (c.struct_given-ty.ensures ∙ ap struct_given same) ∙ there.1)) in
    cc

pub invariant_of-self : goal.invariant_of-self
invariant_of-self c = kept_reserving c.self.invariant None c.in_err-reserve_one.ensures.err

pub make-o-requires-clause-few : goal.make-o-requires-clause-few
make-o-requires-clause-few c =
    let same : c.in-Some.command.now ≡ c.requires.wants.0 = next_is c.self.inside c.args.t c.requires.wants.0 (subst (λ w. wanted w.load w.state c.args.t ≡ Commands c.requires.wants.0) (sym c.self.view_is) c.requires.wants.1) (option_copied c.next_command.result) c.next_command.ensures c.in-Some.command.now (ap option_copied c.in-Some.is) in
    let found : Found c.self.inside c.requires.wants.0 c.in-Some-struct_row.of.now c.name_given-name.result c.struct_given-ty.result c.in_ok-values.values c.reserve_one.new.self = record {
      name = c.name_given-name.ensures ∙ ap name_given same;
      ty = c.struct_given-ty.ensures ∙ ap struct_given same;
      values = c.in_ok-values.ensures ∙ ap values_given same;
      struct = sym c.struct_row.ensures ∙ ap option_copied c.in-Some-struct_row.is;
      reserved = c.in_ok-reserve_one.ensures.ok;
    } in
    make_few c.laws.ensures c.self.invariant c.args.t c.requires.wants.0 (subst (λ w. MayStep w c.args.t) (sym c.self.view_is) c.requires.may) (subst (λ w. wanted w.load w.state c.args.t ≡ Commands c.requires.wants.0) (sym c.self.view_is) c.requires.wants.1) c.requires.wants.2 found

pub make-o-requires-clause-owner : goal.make-o-requires-clause-owner
make-o-requires-clause-owner c =
    let same : c.in-Some.command.now ≡ c.requires.wants.0 = next_is c.self.inside c.args.t c.requires.wants.0 (subst (λ w. wanted w.load w.state c.args.t ≡ Commands c.requires.wants.0) (sym c.self.view_is) c.requires.wants.1) (option_copied c.next_command.result) c.next_command.ensures c.in-Some.command.now (ap option_copied c.in-Some.is) in
    let found : Found c.self.inside c.requires.wants.0 c.in-Some-struct_row.of.now c.name_given-name.result c.struct_given-ty.result c.in_ok-values.values c.reserve_one.new.self = record {
      name = c.name_given-name.ensures ∙ ap name_given same;
      ty = c.struct_given-ty.ensures ∙ ap struct_given same;
      values = c.in_ok-values.ensures ∙ ap values_given same;
      struct = sym c.struct_row.ensures ∙ ap option_copied c.in-Some-struct_row.is;
      reserved = c.in_ok-reserve_one.ensures.ok;
    } in
    make_owner c.laws.ensures c.self.invariant c.args.t c.requires.wants.0 (subst (λ w. MayStep w c.args.t) (sym c.self.view_is) c.requires.may) (subst (λ w. wanted w.load w.state c.args.t ≡ Commands c.requires.wants.0) (sym c.self.view_is) c.requires.wants.1) c.requires.wants.2 found

pub set-requires-clause-within : goal.set-requires-clause-within
set-requires-clause-within c =
    let same : c.in-Some.command.now ≡ c.requires.wants.0 = next_is c.self.inside c.args.t c.requires.wants.0 (subst (λ w. wanted w.load w.state c.args.t ≡ Commands c.requires.wants.0) (sym c.self.view_is) c.requires.wants.1) (option_copied c.next_command.result) c.next_command.ensures c.in-Some.command.now (ap option_copied c.in-Some.is) in
    let found : Found c.self.inside c.requires.wants.0 c.in-Some-struct_row.of.now c.name_given-name.result c.struct_given-ty.result c.in_ok-values.values c.reserve_one.new.self = record {
      name = c.name_given-name.ensures ∙ ap name_given same;
      ty = c.struct_given-ty.ensures ∙ ap struct_given same;
      values = c.in_ok-values.ensures ∙ ap values_given same;
      struct = sym c.struct_row.ensures ∙ ap option_copied c.in-Some-struct_row.is;
      reserved = c.in_ok-reserve_one.ensures.ok;
    } in
    make_within c.laws.ensures c.self.invariant c.args.t c.requires.wants.0 (subst (λ w. MayStep w c.args.t) (sym c.self.view_is) c.requires.may) (subst (λ w. wanted w.load w.state c.args.t ≡ Commands c.requires.wants.0) (sym c.self.view_is) c.requires.wants.1) c.requires.wants.2 found c.make-o.ensures.made c.make-o.ensures.number c.as_slice.ensures

pub end_command-requires : goal.end_command-requires
end_command-requires c = command_counted c.self.inside.load (state_of c.self.inside) c.self.invariant.valid c.args.t c.saturating_sub.result c.requires.wants.0 (subst (λ w. wanted w.load w.state c.args.t ≡ Commands c.requires.wants.0) (sym c.self.view_is) c.requires.wants.1) c.set_fuel.ensures

-- the step, for the command that is wanted
made : (c : goal.After-end_command) (next : Command) → wanted c.self.inside.load (state_of c.self.inside) c.args.t ≡ Commands next → makes next ≡ true
    → Stepped c.self.inside (record c.self.inside { log = c.put.new.self; heap = c.set.new.self; threads = c.end_command.new.self }) (entry.New c.args.t (owner.Client c.args.t) (length c.self.inside.heap.rows + 1) (struct_given next) (values_given next))
made c next wants makes' =
    let same : c.in-Some.command.now ≡ next = next_is c.self.inside c.args.t next wants (option_copied c.next_command.result) c.next_command.ensures c.in-Some.command.now (ap option_copied c.in-Some.is) in
    let found : Found c.self.inside next c.in-Some-struct_row.of.now c.name_given-name.result c.struct_given-ty.result c.in_ok-values.values c.reserve_one.new.self = record {
      name = c.name_given-name.ensures ∙ ap name_given same;
      ty = c.struct_given-ty.ensures ∙ ap struct_given same;
      values = c.in_ok-values.ensures ∙ ap values_given same;
      struct = sym c.struct_row.ensures ∙ ap option_copied c.in-Some-struct_row.is;
      reserved = c.in_ok-reserve_one.ensures.ok;
    } in
    make_goes_by c.laws.ensures c.self.invariant c.args.t next (subst (λ w. MayStep w c.args.t) (sym c.self.view_is) c.requires.may) wants makes' found c.is_kept.ensures.numbered
    c.saturating_sub.result (c.saturating_sub.ensures ∙ ap (λ load. load.fuel - 1) c.rows.ensures.value)
    c.make-o.ensures.made c.make-o.ensures.number c.as_slice.ensures c.set.ensures c.put.ensures.entries c.put.ensures.spare c.set_fuel.ensures c.end_command.ensures

pub invariant_of-self-2 : goal.invariant_of-self-2
invariant_of-self-2 c = (made c c.requires.wants.0 (subst (λ w. wanted w.load w.state c.args.t ≡ Commands c.requires.wants.0) (sym c.self.view_is) c.requires.wants.1) c.requires.wants.2).kept

pub returns-clause-ok : goal.returns-clause-ok
returns-clause-ok c next ty values wants gives =
    let g = given_so next ty values gives in
    let m = made c next (subst (λ w. wanted w.load w.state c.args.t ≡ Commands next) (sym c.self.view_is) wants) (gives_makes next ty values gives) in
    rw (← c.self.view_is, g.0, g.1) m.went
