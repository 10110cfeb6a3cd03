-- What fits in a state beside its ledger: frames stand where their code is, objects and slots are
-- of their types, and script names hold what their commands give.
use Rattle.std.specs.Prelude.{◌≡◌, ℕ, ◌<◌, ◌≤◌, true, false, List, [], ◌∷◌, length, Option, Some, None, slice_get}
use Rattle.std.specs.List.{list_all}
use Rattle.rl_defs.specs.declared.values.Value.{Value}
use Rattle.rl_defs.specs.declared.code.Register.{Register}
use Rattle.rl_defs.specs.declared.code.CallArg.{CallArg}
use Rattle.rl_defs.specs.declared.code.Instr.TheVariants as instr
use Rattle.rl_defs.specs.declared.tables.Width.TheVariants as width
use Rattle.rl_defs.specs.declared.tables.Kind.{Kind}
use Rattle.rl_defs.specs.declared.tables.Kind.TheVariants as kind
use Rattle.rl_defs.specs.declared.tables.MethodRow.{MethodRow}
use Rattle.machine_defs.specs.declared.frame.FrameBody.{FrameBody}
use Rattle.machine_defs.specs.declared.frame.FrameBody.TheVariants as body
use Rattle.machine_defs.specs.declared.frame.Action.{Action}
use Rattle.machine_defs.specs.declared.frame.Action.TheVariants as action
use Rattle.rl_defs.specs.declared.load.LoadRows.{LoadRows}
use Rattle.rl_defs.specs.declared.load.Command.{Command}
use Rattle.rl_defs.specs.Domains.{method_of, is_native, words_of, slots_of}
use Rattle.rl_defs.specs.CodeNames.{method_at, struct_number, type_at, slots as slots_declared}
use Rattle.rl_defs.specs.CodeKinds.{kinds_at, kind_in, left, method_called}
use Rattle.machine_defs.specs.CodeFits.{FitsStand, FitsWaiting}
use Rattle.rl_defs.specs.Widths.{fits_width}
use Rattle.machine_defs.specs.State.{State, StackFrame, Object, Instance, Thread, Hung, is_live, stack}
use Rattle.rl_defs.specs.Rows.{bound_by, row}
use Rattle.machine_defs.specs.Loans.{object_of}
use Rattle.rl_defs.specs.Rows.{commands_of}
use Rattle.machine_defs.specs.Wants.{name_held}
use Rattle.machine_defs.specs.Arguments.{lent_of}
use Rattle.machine_defs.specs.Objects.{kinds_of}
use Rattle.rl_defs.specs.Rows.{domain_of_load}
use Rattle.machine_defs.specs.Seen.{domain_of_instance, in_slot}
use Rattle.machine_defs.specs.NativeFits.{CanChoose, value_suits}
use Rattle.machine_defs.specs.Seen.{types_of}
use Rattle.rl_defs.specs.Rows.{is_target}
use Rattle.machine_defs.specs.Frames.{instr_at}
use Rattle.machine_defs.specs.Sound.{args_stand, cells_fit}
use Rattle.rl_defs.specs.Rows.{BindsName}
use Rattle.machine_laws.specs.Registers.{Parted}

-- Code that is on top stands at a line of the function for its method, with registers of the kinds
-- there.
pub record CodeRuns (L : LoadRows) (s : State) (f : StackFrame) (at : ℕ) (regs : List (Option Value)) : Type 0 where
  pub stands : FitsStand (types_of L s) (domain_of_instance L s f.instance) (record { at = at; regs = regs })
  pub parted : Parted f.lent (kinds_at (domain_of_instance L s f.instance) at) regs
  pub method : method_at (domain_of_instance L s f.instance) at ≡ method_of L f.target f.method

-- Code that waits stands at its call of the method that the frame above it is for, without the
-- objects that it moved.
pub record CodeWaits (L : LoadRows) (s : State) (f : StackFrame) (at : ℕ) (regs : List (Option Value)) (above : StackFrame) : Type 0 where
  pub target : Register
  pub name : List ℕ
  pub args : List CallArg
  pub results : List Register
  pub failed : Register
  pub label : List ℕ
  pub here : instr_at (domain_of_instance L s f.instance) at ≡ Some (instr.Call target name args results failed label)
  pub fits : FitsWaiting (types_of L s) (domain_of_instance L s f.instance) (instr.Call target name args results failed label) (record { at = at; regs = regs })
  pub parted : Parted f.lent (left (kinds_at (domain_of_instance L s f.instance) at) (instr.Call target name args results failed label)) regs
  pub method : method_at (domain_of_instance L s f.instance) at ≡ method_of L f.target f.method
  pub calls : method_called (domain_of_instance L s f.instance).tables (kind_in (kinds_at (domain_of_instance L s f.instance) at) target) name ≡ method_of L above.target above.method

-- a native body that waits has made the call of the frame above it
abbrev pub BodyFits : LoadRows → State → StackFrame → List StackFrame → FrameBody Action → Type 0
BodyFits L s f [] (body.Code at regs) = (is_native (domain_of_instance L s f.instance).lines ≡ false) × CodeRuns L s f at regs
BodyFits L s f (g ∷ above) (body.Code at regs) = (is_native (domain_of_instance L s f.instance).lines ≡ false) × CodeWaits L s f at regs g
BodyFits L s f [] (body.Native held act) = (is_native (domain_of_instance L s f.instance).lines ≡ true) × CanChoose L s f held act
BodyFits L s f (g ∷ above) (body.Native held act) = (is_native (domain_of_instance L s f.instance).lines ≡ true) × (act ≡ action.Call g.target g.method g.args)

-- the call of a frame is of a target and one of its methods, with arguments of the kinds of its
-- parameters
pub record CallFits (L : LoadRows) (s : State) (f : StackFrame) : Type 0 where
  pub target : is_target L f.target ≡ true
  pub method : MethodRow
  pub row : method_of L f.target f.method ≡ Some method
  pub args : args_stand (types_of L s) method.params f.args ≡ true
  pub lent : f.lent ≡ lent_of f.args

-- an object has as many cells as its struct, each with a number within its width, or 0 for an
-- `RRef`; what hangs in a cell is of the cell's struct
pub record ObjectFits (L : LoadRows) (s : State) (x : Object) : Type 0 where
  pub cells : length x.cells ≡ length (kinds_of L (Some x))
  pub numbers : cells_fit (kinds_of L (Some x)) x.cells ≡ true
  pub hung : (p k : ℕ) → x.placement ≡ Hung p k → slice_get (kinds_of L (object_of s p)) k ≡ Some (kind.Own x.ty)

-- an instance is of a load, and has as many words and slots as its domain
pub record InstanceFits (L : LoadRows) (i : Instance) : Type 0 where
  pub some : 0 < i.load
  pub within : i.load ≤ length L.loads
  pub words : length i.words ≡ words_of (domain_of_load L i.load).lines
  pub slots : length i.slots ≡ length (slots_of (domain_of_load L i.load).lines)

-- the commands from a place on
abbrev pub BindsLater : LoadRows → ℕ → ℕ → ℕ → Type 0
BindsLater L t place k = (at n : ℕ) × (next : Command) × (place ≤ at) × (slice_get (commands_of (row L.clients t)) at ≡ Some next) × (slice_get (bound_by next) n ≡ Some k)

-- a script's names hold values of the kinds that their commands give, and those of commands still
-- to come hold nothing
pub record NamesFit (L : LoadRows) (s : State) (t : ℕ) (thread : Thread) : Type 0 where
  pub kinds : (k : ℕ) (v : Value) → name_held thread.names k ≡ Some v → (of : Kind) × BindsName L t k of × (value_suits (types_of L s) of v ≡ true)
  pub later : (k : ℕ) → BindsLater L t thread.place k → name_held thread.names k ≡ None
  pub room : (k : ℕ) → BindsLater L t 0 k → k < length thread.names

-- the frames of a stack, the lowest first: each of a live instance fits what stands above it
abbrev pub StackFits : LoadRows → State → List StackFrame → Type 0
StackFits L s [] = Unit {0}
StackFits L s (f ∷ above) = (is_live s f.instance ≡ true → BodyFits L s f above f.body) × StackFits L s above

-- each of them is of a call that fits
abbrev pub CallsFit : LoadRows → State → List StackFrame → Type 0
CallsFit L s [] = Unit {0}
CallsFit L s (f ∷ above) = CallFits L s f × CallsFit L s above

-- the device has as many blocks as the load says, each of 64 words
pub record BlockFits (cells : List ℕ) : Type 0 where
  pub size : length cells ≡ 64
  pub words : list_all (fits_width width.W64) cells ≡ true

pub record DeviceFits (L : LoadRows) (blocks : List (List ℕ)) : Type 0 where
  pub count : length blocks ≡ L.blocks
  pub each : (b : ℕ) (cells : List ℕ) → slice_get blocks b ≡ Some cells → BlockFits cells

-- Everything fits.
pub record Fitting (L : LoadRows) (s : State) : Type 0 where
  pub bodies : (t : ℕ) → StackFits L s (stack s t)
  pub calls : (t : ℕ) → CallsFit L s (stack s t)
  pub objects : (o : ℕ) (x : Object) → object_of s o ≡ Some x → ObjectFits L s x
  pub instances : (i : ℕ) (instance : Instance) → row s.instances i ≡ Some instance → InstanceFits L instance
  pub slots : (i k o : ℕ) → is_live s i ≡ true → in_slot s i k ≡ Some o → (types_of L s).struct_of o ≡ struct_number L.tables (type_at (slots_declared (domain_of_instance L s i).lines) (Some k))
  pub names : (t : ℕ) (thread : Thread) → row s.threads t ≡ Some thread → NamesFit L s t thread
  pub device : DeviceFits L s.blocks
