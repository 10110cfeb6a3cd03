use Rattle.std.proofs.Common.{[], ◌∷◌, ◌++◌, List, ℕ, sym, subst, ap, ◌∙◌}
use Rattle.machine_defs.specs.declared.entry.Entry.TheVariants as entry
use Rattle.machine_defs.specs.declared.frame.Action.TheVariants as action
use Rattle.machine_defs.specs.declared.frame.Answer.TheVariants as answer
use Rattle.machine_steps.specs.Kept.{MayStep}
use Rattle.machine_steps.specs.Acting.{WouldAct}
use Rattle.machine_steps.proofs.Stepping.{Stepped}
use Rattle.machine_steps.proofs.Acting.{awaits}
use Rattle.machine_steps.proofs.CellActs.{set_acts, set_root, set_within, set_goes}
use Rattle.machine_steps.proofs.machine.Machine.set_cell.Goals as goal

pub go_on-requires-clause-code : goal.go_on-requires-clause-code
go_on-requires-clause-code c =
    (set_acts c.self.invariant c.is_kept.ensures c.args.t c.args.i c.args.o c.args.at c.args.value c.args.stand.now (subst (λ w. WouldAct w c.args.t c.args.i (action.Set c.args.o c.args.at (c.args.value ∷ [])) c.args.stand.now) (sym c.self.view_is) c.requires.wants)).code

pub go_on-requires-clause-awaits : goal.go_on-requires-clause-awaits
go_on-requires-clause-awaits c =
    let acts = set_acts c.self.invariant c.is_kept.ensures c.args.t c.args.i c.args.o c.args.at c.args.value c.args.stand.now (subst (λ w. WouldAct w c.args.t c.args.i (action.Set c.args.o c.args.at (c.args.value ∷ [])) c.args.stand.now) (sym c.self.view_is) c.requires.wants) in
    awaits acts answer.Went acts.can.1

pub set-requires-clause-there : goal.set-requires-clause-there
set-requires-clause-there c =
    (set_root c.self.invariant c.is_kept.ensures c.args.t c.args.i c.args.o c.args.at c.args.value c.args.stand.now (subst (λ w. WouldAct w c.args.t c.args.i (action.Set c.args.o c.args.at (c.args.value ∷ [])) c.args.stand.now) (sym c.self.view_is) c.requires.wants)
    c.laws.ensures (subst (λ w. MayStep w c.args.t) (sym c.self.view_is) c.requires.may)).1.there

pub set-requires-clause-within : goal.set-requires-clause-within
set-requires-clause-within c =
    set_within c.self.invariant c.is_kept.ensures c.args.t c.args.i c.args.o c.args.at c.args.value c.args.stand.now (subst (λ w. WouldAct w c.args.t c.args.i (action.Set c.args.o c.args.at (c.args.value ∷ [])) c.args.stand.now) (sym c.self.view_is) c.requires.wants)

stepped : (c : goal.After-set)
    → Stepped c.self.inside (record c.self.inside { log = c.put.new.self; heap = c.set.new.self; stacks = c.go_on.new.stacks; threads = c.go_on.new.threads }) (entry.Set c.args.t c.args.o c.args.at (c.args.value ∷ []))
stepped c =
    let listed = c.in_ok-push.ensures.ok ∙ ap (λ (vs : List ℕ). vs ++ c.args.value ∷ []) c.new-values.ensures in
    set_goes c.self.invariant c.is_kept.ensures c.args.t c.args.i c.args.o c.args.at c.args.value c.args.stand.now (subst (λ w. WouldAct w c.args.t c.args.i (action.Set c.args.o c.args.at (c.args.value ∷ [])) c.args.stand.now) (sym c.self.view_is) c.requires.wants)
    c.laws.ensures (subst (λ w. MayStep w c.args.t) (sym c.self.view_is) c.requires.may)
    (record {
      entries = c.put.ensures.entries ∙ ap (λ (vs : List ℕ). c.self.inside.log.entries ++ entry.Set c.args.t c.args.o c.args.at vs ∷ []) listed;
      spare = c.put.ensures.spare;
      frames = c.go_on.ensures.frames;
      counts = c.go_on.ensures.instances;
      charged = c.go_on.ensures.threads;
    })
    c.set.ensures

pub invariant_of-self : goal.invariant_of-self
invariant_of-self c = (stepped c).kept

pub returns-clause-ok : goal.returns-clause-ok
returns-clause-ok c = rw (← c.self.view_is) (stepped c).went
