-- What holds of every state of every run.
use Rattle.std.specs.Prelude.{◌≡◌, ℕ, ◌+◌, ◌<◌, ◌≤◌, ◌==◌, [], ◌∷◌, ◌++◌, not, Bool, Option, Some, List, filter, true, slice_get, false, length, if◌then◌else◌}
use Rattle.std.specs.List.{filter_map, list_all}
use Rattle.machine_defs.specs.declared.values.Owner.TheVariants as owner
use Rattle.machine_defs.specs.declared.frame.FrameBody.TheVariants as body
use Rattle.rl_defs.specs.declared.tables.Kind.TheVariants as kind
use Rattle.rl_defs.specs.declared.tables.Width.TheVariants as width
use Rattle.rl_defs.specs.declared.values.Value.TheVariants as value
use Rattle.rl_defs.specs.declared.code.RegKind.TheVariants as register
use Rattle.rl_defs.specs.declared.code.RegKind.{RegKind}
use Rattle.std.specs.Option.{option_and_then, option_map_or}
use Rattle.machine_defs.specs.declared.values.Arg.TheVariants as arg
use Rattle.rl_defs.specs.declared.code.Instr.TheVariants as instr
use Rattle.machine_defs.specs.declared.frame.Action.TheVariants as action
use Rattle.machine_defs.specs.declared.values.Owner.{Owner}
use Rattle.rl_defs.specs.declared.values.Value.{Value}
use Rattle.machine_defs.specs.declared.frame.FrameBody.{FrameBody}
use Rattle.machine_defs.specs.declared.frame.Action.{Action}
use Rattle.rl_defs.specs.declared.load.LoadRows.{LoadRows}
use Rattle.machine_defs.specs.declared.values.Arg.{Arg}
use Rattle.rl_defs.specs.declared.tables.Kind.{Kind}
use Rattle.rl_defs.specs.declared.tables.MethodRow.{MethodRow}
use Rattle.rl_defs.specs.declared.code.Register.{Register}
use Rattle.rl_defs.specs.declared.code.CallArg.{CallArg}
use Rattle.rl_defs.specs.declared.load.ShadowRow.{ShadowRow}
use Rattle.machine_defs.specs.State.{State, StackFrame, Thread, Instance, Object, Root, Hung, stack, is_live, instance_load, Shadow}
use Rattle.machine_defs.specs.Loans.{has_ended, count, object_of, loans, lent_in}
use Rattle.machine_defs.specs.Arguments.{has, object_of_value, lent_of}
use Rattle.machine_defs.specs.Seen.{slots, domain_of_instance, in_slot}
use Rattle.rl_defs.specs.Rows.{row, BindsName, domain_of_load}
use Rattle.machine_defs.specs.Objects.{kinds_of}
use Rattle.rl_defs.specs.CodeKinds.{kinds_at, kind_in, method_called}
use Rattle.rl_defs.specs.Domains.{load_of_target, is_serial, method_of, is_native, words_of, slots_of}
use Rattle.rl_defs.specs.Registers.{Typing}
use Rattle.machine_defs.specs.NativeFits.{each_fits, arg_suits, is_object, CanChoose, value_suits}
use Rattle.machine_defs.specs.Seen.{types_of}
use Rattle.machine_defs.specs.CodeFits.{FitsWaiting, FitsStand}
use Rattle.machine_defs.specs.Frames.{instr_at}
use Rattle.rl_defs.specs.CodeNames.{slots as slots_declared, results_of, struct_number, type_at}
use Rattle.machine_defs.specs.Wants.{name_held}
use Rattle.rl_defs.specs.Widths.{number_suits, fits_width}

-- an owner lives that is a client or a live instance
abbrev pub owner_lives : State → Owner → Bool
owner_lives s w = not (has_ended s w)

-- the objects that a frame has of its own: those in its registers that weren't lent to it, or those
-- that its native body holds
abbrev pub object_held : Option Value → Option ℕ
object_held v = option_and_then object_of_value v

abbrev pub own_of_body : List ℕ → FrameBody Action → List ℕ
own_of_body lent (body.Code at regs) = filter (λ o. not (has lent o)) (filter_map object_held regs)
own_of_body lent (body.Native held act) = held

abbrev pub own_of : StackFrame → List ℕ
own_of f = own_of_body f.lent f.body

-- in how many places an owner has an object: the script names of a client; the slots of an instance
-- and what its frames have of their own
abbrev pub in_names : ℕ → Option Thread → ℕ
in_names o thread = option_map_or (λ thread. count o (filter_map object_held thread.names)) thread 0

abbrev pub in_slots : ℕ → List (Option ℕ) → ℕ
in_slots o contents = count o (filter_map (λ slot. slot) contents)

abbrev pub own_in : ℕ → ℕ → List StackFrame → ℕ
own_in i o [] = 0
own_in i o (f ∷ fs) = (if f.instance == i then count o (own_of f) else 0) + own_in i o fs

abbrev pub own_in_all : ℕ → ℕ → List (List StackFrame) → ℕ
own_in_all i o [] = 0
own_in_all i o (fs ∷ stacks) = own_in i o fs + own_in_all i o stacks

abbrev pub places : State → Owner → ℕ → ℕ
places s (owner.Client t) o = in_names o (row s.threads t)
places s (owner.Instance i) o = in_slots o (slots s i) + own_in_all i o s.stacks

-- the object is a root, of this owner
abbrev pub IsRoot : State → ℕ → Owner → Type 0
IsRoot s o w = (x : Object) × (object_of s o ≡ Some x) × (x.placement ≡ Root w)

-- A root of a live owner is in exactly one place of it; and a live owner has nothing else.
pub record HeldOnce (s : State) : Type 0 where
  pub one_place : (w : Owner) (o : ℕ) → owner_lives s w ≡ true → IsRoot s o w → places s w o ≡ 1
  pub no_other : (w : Owner) (o : ℕ) → owner_lives s w ≡ true → (IsRoot s o w → ⊥) → places s w o ≡ 0

-- What hangs, hangs alone in a cell for its struct, of a root, and isn't lent.
pub record IsHung (L : LoadRows) (s : State) (x : Object) (parent place : ℕ) : Type 0 where
  pub root : (w : Owner) × IsRoot s parent w
  pub cell : slice_get (kinds_of L (object_of s parent)) place ≡ Some (kind.Own x.ty)
  pub alone : (y : Object) → object_of s y.number ≡ Some y → y.placement ≡ Hung parent place → y.number ≡ x.number
  pub unlent : loans s x.number ≡ 0

abbrev pub HungAlone : LoadRows → State → Type 0
HungAlone L s = (x : Object) (parent place : ℕ) → object_of s x.number ≡ Some x → x.placement ≡ Hung parent place → IsHung L s x parent place

-- a frame of a thread's stack, with the frames below it
pub record IsFrame (s : State) (t : ℕ) (below : List StackFrame) (f : StackFrame) : Type 0 where
  pub above : List StackFrame
  pub here : stack s t ≡ below ++ f ∷ above

-- a register that is known to hold an object, as one of this kind
pub record HoldsAs (L : LoadRows) (s : State) (f : StackFrame) (known : RegKind) (o : ℕ) : Type 0 where
  pub at : ℕ
  pub regs : List (Option Value)
  pub number : ℕ
  pub code : f.body ≡ body.Code at regs
  pub kind : slice_get (kinds_at (domain_of_instance L s f.instance) at) number ≡ Some known
  pub object : slice_get regs number ≡ Some (Some (value.Obj o))

-- What is lent is a root, to frames of one stack, and what its ended owner had is still lent. While
-- its owner lives, its one place is a frame below all of these, or a script name of that client.
pub record LoansStand (L : LoadRows) (s : State) : Type 0 where
  pub ended : (o i : ℕ) → IsRoot s o (owner.Instance i) → is_live s i ≡ false → 0 < loans s o
  pub roots : (o : ℕ) → 0 < loans s o → (w : Owner) × IsRoot s o w
  pub arguments : (t : ℕ) (below : List StackFrame) (f : StackFrame) → IsFrame s t below f → f.lent ≡ lent_of f.args
  pub registers : (t o ty : ℕ) (below : List StackFrame) (f : StackFrame) → IsFrame s t below f → is_live s f.instance ≡ true → HoldsAs L s f (register.Lent ty) o → has f.lent o ≡ true
  pub owns : (t o ty : ℕ) (below : List StackFrame) (f : StackFrame) → IsFrame s t below f → is_live s f.instance ≡ true → HoldsAs L s f (register.Own ty) o → has f.lent o ≡ false
  pub one_stack : (t u o : ℕ) → 0 < lent_in o (stack s t) → 0 < lent_in o (stack s u) → t ≡ u
  pub of_client : (t u o : ℕ) (below : List StackFrame) (f : StackFrame) → IsFrame s t below f → has f.lent o ≡ true → IsRoot s o (owner.Client u) → (t ≡ u) × (in_names o (row s.threads u) ≡ 1)
  pub of_instance : (t i o : ℕ) (below : List StackFrame) (f : StackFrame) → IsFrame s t below f → has f.lent o ≡ true → IsRoot s o (owner.Instance i) → is_live s i ≡ true → 0 < own_in i o below

-- A frame is in an instance of its target's load. A live serial instance has frames of one thread,
-- and calls into serial loads go down in rank: a frame whose load is serial ranks below each live
-- serial instance below it.
pub record FramesPlaced (L : LoadRows) (s : State) : Type 0 where
  pub loads : (t : ℕ) (below : List StackFrame) (f : StackFrame) → IsFrame s t below f → instance_load s f.instance ≡ load_of_target L f.target
  pub opened : (t : ℕ) (below : List StackFrame) (f : StackFrame) → IsFrame s t below f → (0 < f.instance) × (f.instance ≤ length s.instances)
  pub one_thread : (t u : ℕ) (below beside : List StackFrame) (f g : StackFrame) → IsFrame s t below f → IsFrame s u beside g → f.instance ≡ g.instance → is_live s f.instance ≡ true → is_serial L (instance_load s f.instance) ≡ true → t ≡ u
  pub ranks : (t : ℕ) (below under : List StackFrame) (f g : StackFrame) → IsFrame s t below f → (above : List StackFrame) → below ≡ under ++ g ∷ above → is_serial L (load_of_target L f.target) ≡ true → is_live s g.instance ≡ true → is_serial L (instance_load s g.instance) ≡ true → load_of_target L f.target < instance_load s g.instance
  pub numbers : (t : ℕ) (below : List StackFrame) (f : StackFrame) → IsFrame s t below f → f.call < s.next_call
  pub rising : (t : ℕ) (below under : List StackFrame) (f g : StackFrame) → IsFrame s t below f → (above : List StackFrame) → below ≡ under ++ g ∷ above → g.call < f.call

-- An argument that was moved may be anywhere by now; the others are of the kinds of the parameters
-- still.
abbrev pub arg_stands : Typing → Kind → Arg → Bool
arg_stands types k (arg.Moved o) = is_object k
arg_stands types k a = arg_suits types k a

abbrev pub args_stand : Typing → List Kind → List Arg → Bool
args_stand types kinds args = each_fits (arg_stands types) kinds args

pub record ArgumentsFit (L : LoadRows) (s : State) (f : StackFrame) : Type 0 where
  pub method : MethodRow
  pub row : method_of L f.target f.method ≡ Some method
  pub suits : args_stand (types_of L s) method.params f.args ≡ true

-- Code that waits stands at its call of the method that the frame above it is for, without the
-- objects that it moved: so it fits both ways on.
pub record WaitsFor (L : LoadRows) (s : State) (f : StackFrame) (at : ℕ) (regs : List (Option Value)) (above : StackFrame) : Type 0 where
  pub target : Register
  pub name : List ℕ
  pub args : List CallArg
  pub results : List Register
  pub failed : Register
  pub label : List ℕ
  pub here : instr_at (domain_of_instance L s f.instance) at ≡ Some (instr.Call target name args results failed label)
  pub fits : FitsWaiting (types_of L s) (domain_of_instance L s f.instance) (instr.Call target name args results failed label) (record { at = at; regs = regs })
  pub calls : method_called (domain_of_instance L s f.instance).tables (kind_in (kinds_at (domain_of_instance L s f.instance) at) target) name ≡ method_of L above.target above.method

-- A code frame of a live instance fits its line, and one that waits its call. A native frame is of
-- a native domain: the action that it wants fits it, and one that waits has made the call of the
-- frame above it.
abbrev pub BodyFits : LoadRows → State → StackFrame → List StackFrame → FrameBody Action → Type 0
BodyFits L s f [] (body.Code at regs) = FitsStand (types_of L s) (domain_of_instance L s f.instance) (record { at = at; regs = regs })
BodyFits L s f (g ∷ above) (body.Code at regs) = WaitsFor L s f at regs g
BodyFits L s f [] (body.Native held act) = (is_native (domain_of_instance L s f.instance).lines ≡ true) × CanChoose L s f held act
BodyFits L s f (g ∷ above) (body.Native held act) = (is_native (domain_of_instance L s f.instance).lines ≡ true) × (act ≡ action.Call g.target g.method g.args)

-- how many objects the call above a frame may yet bring it: the `RRef` results of its method
abbrev pub brought_by : LoadRows → List StackFrame → ℕ
brought_by L [] = 0
brought_by L (g ∷ above) = length (filter is_object (results_of (method_of L g.target g.method)))

-- What frames, slots and script names hold is of the kinds that code, domains and commands give
-- them; and a native frame has room for 8 objects, with those that its call may yet bring.
pub record KindsFit (L : LoadRows) (s : State) : Type 0 where
  pub arguments : (t : ℕ) (below : List StackFrame) (f : StackFrame) → IsFrame s t below f → ArgumentsFit L s f
  pub bodies : (t : ℕ) (below : List StackFrame) (f : StackFrame) → (here : IsFrame s t below f) → is_live s f.instance ≡ true → BodyFits L s f here.above f.body
  pub room : (t : ℕ) (below : List StackFrame) (f : StackFrame) (held : List ℕ) (act : Action) → (here : IsFrame s t below f) → f.body ≡ body.Native held act → length held + brought_by L here.above ≤ 8
  pub slots : (i k o : ℕ) → is_live s i ≡ true → in_slot s i k ≡ Some o → (types_of L s).struct_of o ≡ struct_number L.tables (type_at (slots_declared (domain_of_instance L s i).lines) (Some k))
  pub names : (t k : ℕ) (thread : Thread) (v : Value) → row s.threads t ≡ Some thread → name_held thread.names k ≡ Some v → (of : Kind) × BindsName L t k of × (value_suits (types_of L s) of v ≡ true)

-- A shadow stands for an instance of its load, and has as many restarts left as its load was not
-- loaded again.
abbrev pub instances_of : ℕ → List Instance → ℕ
instances_of k [] = 0
instances_of k (i ∷ others) = (if i.load == k then 1 else 0) + instances_of k others

pub record ShadowsStand (L : LoadRows) (s : State) : Type 0 where
  pub current : (k : ℕ) (shadow : Shadow) (x : ShadowRow) → row s.shadows k ≡ Some shadow → row L.shadows k ≡ Some x → instance_load s shadow.current ≡ x.load
  pub left : (k : ℕ) (shadow : Shadow) (x : ShadowRow) → row s.shadows k ≡ Some shadow → row L.shadows k ≡ Some x → shadow.left + instances_of x.load s.instances ≡ x.restarts + 1

-- the cells of an object: as many as its struct has, each number within its width, and 0 for an
-- `RRef`
abbrev pub cell_fits : Kind → ℕ → Bool
cell_fits (kind.Num w) n = number_suits (kind.Num w) n
cell_fits _ n = n == 0

abbrev pub cells_fit : List Kind → List ℕ → Bool
cells_fit kinds cells = each_fits cell_fits kinds cells

-- Cells fit their widths, at most 65,536 objects are live, and no number in use is as large as the
-- next one.
pub record NumbersFit (L : LoadRows) (s : State) : Type 0 where
  pub cells : (x : Object) → object_of s x.number ≡ Some x → cells_fit (kinds_of L (Some x)) x.cells ≡ true
  pub few : length s.objects ≤ 65536
  pub objects : (x : Object) → object_of s x.number ≡ Some x → (0 < x.number) × (x.number < s.next_object)
  pub owners : (o i : ℕ) → IsRoot s o (owner.Instance i) → (0 < i) × (i ≤ length s.instances)

-- An instance is of a load, with as many words and slots as its domain says. The device has as many
-- blocks as the plan says, each of 64 words.
pub record SizesFit (L : LoadRows) (s : State) : Type 0 where
  pub load : (i : ℕ) (instance : Instance) → row s.instances i ≡ Some instance → (0 < instance.load) × (instance.load ≤ length L.loads)
  pub words : (i : ℕ) (instance : Instance) → row s.instances i ≡ Some instance → length instance.words ≡ words_of (domain_of_load L instance.load).lines
  pub slots : (i : ℕ) (instance : Instance) → row s.instances i ≡ Some instance → length instance.slots ≡ length (slots_of (domain_of_load L instance.load).lines)
  pub blocks : length s.blocks ≡ L.blocks
  pub block : (b : ℕ) (cells : List ℕ) → slice_get s.blocks b ≡ Some cells → (length cells ≡ 64) × (list_all (fits_width width.W64) cells ≡ true)

-- Each client has a stack and a thread, each shadow a row; a stack has at most 31 frames above its
-- client, and none where the client is done; objects stand by rising number.
pub record LaidOut (L : LoadRows) (s : State) : Type 0 where
  pub stacks : length s.stacks ≡ length L.clients
  pub threads : length s.threads ≡ length L.clients
  pub shadows : length s.shadows ≡ length L.shadows
  pub heights : (t : ℕ) → length (stack s t) ≤ 31
  pub done : (t : ℕ) (thread : Thread) → row s.threads t ≡ Some thread → thread.done ≡ true → stack s t ≡ []
  pub objects : (j k : ℕ) (x y : Object) → j < k → slice_get s.objects j ≡ Some x → slice_get s.objects k ≡ Some y → x.number < y.number

-- Every state of every run is sound.
pub record Sound (L : LoadRows) (s : State) : Type 0 where
  pub laid : LaidOut L s
  pub held : HeldOnce s
  pub hung : HungAlone L s
  pub lent : LoansStand L s
  pub frames : FramesPlaced L s
  pub kinds : KindsFit L s
  pub shadows : ShadowsStand L s
  pub numbers : NumbersFit L s
  pub sizes : SizesFit L s
