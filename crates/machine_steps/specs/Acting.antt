-- What a frame of domain code would do.
use Rattle.std.specs.Prelude.{◌≡◌, ℕ, List, Some}
use Rattle.std.specs.Option.{option_map_or}
use Rattle.machine_defs.specs.declared.frame.Action.{Action}
use Rattle.machine_defs.specs.declared.frame.FrameBody.TheVariants as body
use Rattle.rl_defs.specs.declared.load.LoadRows.{LoadRows}
use Rattle.rl_defs.specs.DomainValue.{Domain}
use Rattle.rl_defs.specs.Rows.{row, domain_of_load}
use Rattle.machine_defs.specs.State.{Instance, StackFrame, stack, top}
use Rattle.machine_defs.specs.Frames.{with_body}
use Rattle.machine_defs.specs.Wants.{Acts, wanted}
use Rattle.machine_steps.specs.declared.standing.Standing.{Standing}
use Rattle.machine_steps.specs.Kept.{Kept}

-- the load of an instance, and the domain whose code it runs
abbrev pub load_in : List Instance → ℕ → ℕ
load_in instances i = option_map_or (λ x. x.load) (row instances i) 0

abbrev pub domain_in : LoadRows → List Instance → ℕ → Domain
domain_in L instances i = domain_of_load L (load_in instances i)

-- the frame, where it stands so
abbrev pub at_standing : StackFrame → Standing → StackFrame
at_standing f stand = with_body f (body.Code stand.line stand.registers)

-- Client t's top frame, of instance i, would make this action, and stands so before it.
pub record WouldAct (w : Kept) (t i : ℕ) (act : Action) (stand : Standing) : Type 0 where
  pub frame : StackFrame
  pub on_top : top (stack w.state t) ≡ Some frame
  pub inside : i ≡ frame.instance
  pub wants : wanted w.load w.state t ≡ Acts act stand.fuel (at_standing frame stand)
