use Rattle.std.proofs.Common.{sym, ◌∙◌, ap}
use Rattle.rl_defs.specs.CodeKinds.{kinds_at}
use Rattle.rl_defs.specs.CodeNames.{methods_of, results_of}
use Rattle.std.specs.Prelude.{slice_get}
use Rattle.machine_defs.specs.CodeFits.{are_values}
use Rattle.code_machine.proofs.Naming.{at_line}
use Rattle.code_runs.specs.Seen.{sight_of, types_of}
use Rattle.code_runs.specs.Suits.{is_held}
use Rattle.code_runs.proofs.Answering.{fits_as, new_fits, take_fits, unhang_fits, back_fits, suits_as, new_is, take_is, back_is}
use Rattle.code_runs.proofs.answers.suits_instr.Goals as goal

pub returns-in-New-Made-clause-fits : goal.returns-in-New-Made-clause-fits
returns-in-New-Made-clause-fits c so =
    fits_as (types_of c.args.view.now) c.args.domain.now (kinds_at c.args.domain.now c.args.place) _ _ _ _ c.in-New-Made.is-0 c.in-New-Made.is-1
    (new_fits (types_of c.args.view.now) c.args.domain.now c.args.place _ _ c.row-row.result.number c.row-row.result.of c.row-row.result.label c.in-New-Made.object
    (at_line c.args.domain.now c.args.place c.args.instr.now _ _ _ _ c.requires.here c.row-row.ensures c.in-New-Made.is-0) (sym c.is_of.ensures ∙ so))

pub returns-in-Take-Made-clause-fits : goal.returns-in-Take-Made-clause-fits
returns-in-Take-Made-clause-fits c so =
    fits_as (types_of c.args.view.now) c.args.domain.now (kinds_at c.args.domain.now c.args.place) _ _ _ _ c.in-Take-Made.is-0 c.in-Take-Made.is-1
    (take_fits (types_of c.args.view.now) c.args.domain.now (sight_of c.args.view.now) c.args.place _ _ c.row-row.result.number c.row-row.result.of c.row-row.result.label c.in-Take-Made.object
    (at_line c.args.domain.now c.args.place c.args.instr.now _ _ _ _ c.requires.here c.row-row.ensures c.in-Take-Made.is-0) c.requires.sees
    (sym (c.is_held.ensures ∙ ap (λ x. is_held x c.in-Take-Made.object) c.slot.ensures) ∙ so))

pub returns-in-Unhang-Made-clause-fits : goal.returns-in-Unhang-Made-clause-fits
returns-in-Unhang-Made-clause-fits c so =
    fits_as (types_of c.args.view.now) c.args.domain.now (kinds_at c.args.domain.now c.args.place) _ _ _ _ c.in-Unhang-Made.is-0 c.in-Unhang-Made.is-1
    (unhang_fits (types_of c.args.view.now) c.args.domain.now (sight_of c.args.view.now) c.args.place c.args.registers.now _ c.in-Unhang-Made.from c.in-Unhang-Made.at c.row-row.result.number c.row-row.result.of c.row-row.result.label c.in-Unhang-Made.object
    (at_line c.args.domain.now c.args.place c.args.instr.now _ _ _ _ c.requires.here c.row-row.ensures c.in-Unhang-Made.is-0) c.requires.sees c.requires.stands
    (sym (c.is_held-in-Unhang-Made.ensures ∙ ap (λ x. is_held x c.in-Unhang-Made.object) (c.hung.ensures ∙ ap (λ o. (sight_of c.args.view.now).hung o c.in-Unhang-Made.at) c.object_in.ensures)) ∙ so))

pub returns-in-Call-Back-clause-fits : goal.returns-in-Call-Back-clause-fits
returns-in-Call-Back-clause-fits c so =
    fits_as (types_of c.args.view.now) c.args.domain.now (kinds_at c.args.domain.now c.args.place) _ _ _ _ c.in-Call-Back.is-0 c.in-Call-Back.is-1
    (back_fits (types_of c.args.view.now) c.args.domain.now c.args.place _ _ _ _ _ _ c.row-row.result.number c.row-row.result.of c.row-row.result.label c.in-Call-Back.values
    (at_line c.args.domain.now c.args.place c.args.instr.now _ _ _ _ c.requires.here c.row-row.ensures c.in-Call-Back.is-0)
    (sym (c.values_are.ensures ∙ ap (λ ks. are_values (types_of c.args.view.now) ks c.as_slice.result.now) (c.results_of.ensures ∙ ap (λ t. results_of (slice_get (methods_of t c.row-row.result.of) c.row-row.result.number)) c.tables.ensures) ∙ ap (λ vs. are_values (types_of c.args.view.now) (results_of (slice_get (methods_of c.args.domain.now.tables c.row-row.result.of) c.row-row.result.number)) vs) c.as_slice.ensures.value) ∙ so))

pub returns-in-New-Made-clause-exact : goal.returns-in-New-Made-clause-exact
returns-in-New-Made-clause-exact c =
    suits_as (types_of c.args.view.now) c.args.domain.now (sight_of c.args.view.now) (record { at = c.args.place; regs = c.args.registers.now }) _ _ _ _ _ c.in-New-Made.is-0 c.in-New-Made.is-1
    (c.is_of.ensures ∙ new_is (types_of c.args.view.now) c.args.domain.now (sight_of c.args.view.now) c.args.place c.args.registers.now _ _ c.row-row.result.number c.row-row.result.of c.row-row.result.label c.in-New-Made.object (at_line c.args.domain.now c.args.place c.args.instr.now _ _ _ _ c.requires.here c.row-row.ensures c.in-New-Made.is-0))

pub returns-in-Take-Made-clause-exact : goal.returns-in-Take-Made-clause-exact
returns-in-Take-Made-clause-exact c =
    suits_as (types_of c.args.view.now) c.args.domain.now (sight_of c.args.view.now) (record { at = c.args.place; regs = c.args.registers.now }) _ _ _ _ _ c.in-Take-Made.is-0 c.in-Take-Made.is-1
    (c.is_held.ensures ∙ ap (λ x. is_held x c.in-Take-Made.object) c.slot.ensures ∙ take_is (types_of c.args.view.now) c.args.domain.now (sight_of c.args.view.now) c.args.place c.args.registers.now _ _ c.row-row.result.number c.row-row.result.of c.row-row.result.label c.in-Take-Made.object (at_line c.args.domain.now c.args.place c.args.instr.now _ _ _ _ c.requires.here c.row-row.ensures c.in-Take-Made.is-0))

pub returns-in-Unhang-Made-clause-exact : goal.returns-in-Unhang-Made-clause-exact
returns-in-Unhang-Made-clause-exact c =
    suits_as (types_of c.args.view.now) c.args.domain.now (sight_of c.args.view.now) (record { at = c.args.place; regs = c.args.registers.now }) _ _ _ _ _ c.in-Unhang-Made.is-0 c.in-Unhang-Made.is-1
    (c.is_held-in-Unhang-Made.ensures ∙ ap (λ x. is_held x c.in-Unhang-Made.object) (c.hung.ensures ∙ ap (λ o. (sight_of c.args.view.now).hung o c.in-Unhang-Made.at) c.object_in.ensures))

pub returns-in-Call-Back-clause-exact : goal.returns-in-Call-Back-clause-exact
returns-in-Call-Back-clause-exact c =
    suits_as (types_of c.args.view.now) c.args.domain.now (sight_of c.args.view.now) (record { at = c.args.place; regs = c.args.registers.now }) _ _ _ _ _ c.in-Call-Back.is-0 c.in-Call-Back.is-1
    (c.values_are.ensures ∙ ap (λ ks. are_values (types_of c.args.view.now) ks c.as_slice.result.now) (c.results_of.ensures ∙ ap (λ t. results_of (slice_get (methods_of t c.row-row.result.of) c.row-row.result.number)) c.tables.ensures) ∙ ap (λ vs. are_values (types_of c.args.view.now) (results_of (slice_get (methods_of c.args.domain.now.tables c.row-row.result.of) c.row-row.result.number)) vs) c.as_slice.ensures.value ∙ back_is (types_of c.args.view.now) c.args.domain.now (sight_of c.args.view.now) c.args.place c.args.registers.now _ _ _ _ _ _ c.row-row.result.number c.row-row.result.of c.row-row.result.label c.in-Call-Back.values (at_line c.args.domain.now c.args.place c.args.instr.now _ _ _ _ c.requires.here c.row-row.ensures c.in-Call-Back.is-0))
