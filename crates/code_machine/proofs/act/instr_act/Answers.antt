use Rattle.std.proofs.Common.{◌≡◌, ◌≤◌, List, length, map, slice_get, subst, sym}
use Rattle.machine_defs.specs.declared.frame.Action.TheVariants as action
use Rattle.machine_defs.specs.declared.values.Cause.TheVariants as cause
use Rattle.rl_defs.specs.declared.code.CallArg.{CallArg}
use Rattle.rl_defs.specs.declared.code.Register.{Register}
use Rattle.rl_defs.specs.declared.tables.Tables.{Tables}
use Rattle.rl_defs.specs.CodeNames.{methods_of, params_of, results_of}
use Rattle.machine_defs.specs.Instructions.{Would, target, unless_trap, setting, cell_kind, object_in, number_in, args_fit, given_by, values_fit, result_in}
use Rattle.rl_defs.specs.Registers.{value_in}
use Rattle.code_machine.proofs.Naming.{at_line, acts, new_comes, take_comes, put_comes, set_comes, call_comes, call_few, ret_comes, ret_few, hang_near, unhang_near}
use Rattle.code_machine.specs.Act.{action_of}
use Rattle.code_machine.proofs.act.instr_act.Goals as goal

pub hang-requires : goal.hang-requires
hang-requires g c = hang_near _ _ _ _ _ _ _ _ (at_line c.args.domain.now c.args.place c.args.instr.now _ _ _ _ c.requires.here c.row-row.ensures c.in-Hang.is)

pub unhang-requires : goal.unhang-requires
unhang-requires g c = unhang_near _ _ _ _ _ _ _ _ (at_line c.args.domain.now c.args.place c.args.instr.now _ _ _ _ c.requires.here c.row-row.ensures c.in-Unhang.is)

pub returns-in-New : goal.returns-in-New
returns-in-New g c =
    acts c.args.domain.now c.args.place (g.V.View.sight c.args.view.now) c.args.live c.args.registers.now (action_of c.new_object.result) c.args.instr.now _ c.in-New.is
    (new_comes _ _ c.args.live c.args.registers.now (action_of c.new_object.result) _ _ _ _ _
    (at_line c.args.domain.now c.args.place c.args.instr.now _ _ _ _ c.requires.here c.row-row.ensures c.in-New.is) c.new_object.ensures)

pub returns-in-Take : goal.returns-in-Take
returns-in-Take g c =
    acts c.args.domain.now c.args.place (g.V.View.sight c.args.view.now) c.args.live c.args.registers.now (action_of c.take.result) c.args.instr.now _ c.in-Take.is
    (take_comes _ _ (g.V.View.sight c.args.view.now) c.args.registers.now (action_of c.take.result) _ _ _ _ _
    (at_line c.args.domain.now c.args.place c.args.instr.now _ _ _ _ c.requires.here c.row-row.ensures c.in-Take.is) c.take.ensures)

pub returns-in-Put : goal.returns-in-Put
returns-in-Put g c =
    acts c.args.domain.now c.args.place (g.V.View.sight c.args.view.now) c.args.live c.args.registers.now (action_of c.put_object.result) c.args.instr.now _ c.in-Put.is
    (put_comes _ _ (g.V.View.sight c.args.view.now) c.args.registers.now (action_of c.put_object.result) _ _ _ _ _
    (at_line c.args.domain.now c.args.place c.args.instr.now _ _ _ _ c.requires.here c.row-row.ensures c.in-Put.is) c.put_object.ensures)

pub returns-in-Set : goal.returns-in-Set
returns-in-Set g c =
    let regs = c.args.registers.now in
    let sight = g.V.View.sight c.args.view.now in
    let from_tables = subst (λ (t : Tables). setting (sight.cell (object_in regs c.in-Set.o) (number_in regs c.in-Set.i)) (cell_kind t c.row-row.result.of (number_in regs c.in-Set.i)) (object_in regs c.in-Set.o) (number_in regs c.in-Set.i) (number_in regs c.in-Set.v) ≡ Would (action_of c.set_cell.result)) c.tables.ensures c.set_cell.ensures in
    acts c.args.domain.now c.args.place (g.V.View.sight c.args.view.now) c.args.live c.args.registers.now (action_of c.set_cell.result) c.args.instr.now _ c.in-Set.is
    (set_comes _ _ (g.V.View.sight c.args.view.now) c.args.registers.now (action_of c.set_cell.result) _ _ _ _ _ _
    (at_line c.args.domain.now c.args.place c.args.instr.now _ _ _ _ c.requires.here c.row-row.ensures c.in-Set.is) c.requires.fits from_tables)

pub call-requires : goal.call-requires
call-requires g c =
    let few : length c.in-Call.args ≤ 8 = call_few _ _ _ _ _ _ _ _ _ _ _ (at_line c.args.domain.now c.args.place c.args.instr.now _ _ _ _ c.requires.here c.row-row.ensures c.in-Call.is) in
    subst (λ (xs : List CallArg). length xs ≤ 8) (sym c.as_slice.ensures) few

pub give_back-requires : goal.give_back-requires
give_back-requires g c =
    let few : length c.in-Ret.from ≤ 4 = ret_few _ _ _ _ _ _ (at_line c.args.domain.now c.args.place c.args.instr.now _ _ _ _ c.requires.here c.row-row.ensures c.in-Ret.is) in
    subst (λ (xs : List Register). length xs ≤ 4) (sym c.as_slice-in-Ret.ensures) few

pub returns-in-Call : goal.returns-in-Call
returns-in-Call g c =
    let regs = c.args.registers.now in
    let of = c.row-row.result.of in
    let number = c.row-row.result.number in
    let from_tables = subst (λ (t : Tables). unless_trap (args_fit (params_of (slice_get (methods_of t of) number)) (map (given_by regs) c.as_slice.result.now)) cause.Range (action.Call (target (value_in regs c.in-Call.target)) number (map (given_by regs) c.as_slice.result.now)) ≡ Would (action_of c.call.result)) c.tables-in-Call.ensures c.call.ensures in
    let comes = subst (λ (xs : List CallArg). unless_trap (args_fit (params_of (slice_get (methods_of c.args.domain.now.tables of) number)) (map (given_by regs) xs)) cause.Range (action.Call (target (value_in regs c.in-Call.target)) number (map (given_by regs) xs)) ≡ Would (action_of c.call.result)) c.as_slice.ensures from_tables in
    acts c.args.domain.now c.args.place (g.V.View.sight c.args.view.now) c.args.live regs (action_of c.call.result) c.args.instr.now _ c.in-Call.is
    (call_comes _ _ (g.V.View.sight c.args.view.now) regs (action_of c.call.result) _ _ _ _ _ _ _ _ _
    (at_line c.args.domain.now c.args.place c.args.instr.now _ _ _ _ c.requires.here c.row-row.ensures c.in-Call.is) c.requires.fits comes)

pub returns-in-Ret : goal.returns-in-Ret
returns-in-Ret g c =
    let regs = c.args.registers.now in
    let of = c.row-row.result.of in
    let number = c.row-row.result.number in
    let from_tables = subst (λ (t : Tables). unless_trap (values_fit (results_of (slice_get (methods_of t of) number)) (map (result_in regs) c.as_slice-in-Ret.result.now)) cause.Range (action.Ret (map (result_in regs) c.as_slice-in-Ret.result.now)) ≡ Would (action_of c.give_back.result)) c.tables-in-Ret.ensures c.give_back.ensures in
    let comes = subst (λ (xs : List Register). unless_trap (values_fit (results_of (slice_get (methods_of c.args.domain.now.tables of) number)) (map (result_in regs) xs)) cause.Range (action.Ret (map (result_in regs) xs)) ≡ Would (action_of c.give_back.result)) c.as_slice-in-Ret.ensures from_tables in
    acts c.args.domain.now c.args.place (g.V.View.sight c.args.view.now) c.args.live regs (action_of c.give_back.result) c.args.instr.now _ c.in-Ret.is
    (ret_comes _ _ regs (action_of c.give_back.result) _ _ _ _
    (at_line c.args.domain.now c.args.place c.args.instr.now _ _ _ _ c.requires.here c.row-row.ensures c.in-Ret.is) comes)
