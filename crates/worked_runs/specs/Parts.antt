-- What the worked runs share: struct P, rows of tables, lines, registers, threads and frames, and a
-- plain load.
use Rattle.std.specs.Prelude.{ℕ, ◌+◌, ◌-◌, ◌<◌, Bool, true, false, List, [], ◌∷◌, ◌++◌, length, replicate, Option, None, codes}
use Rattle.std.proofs.Common.{lit<}
use Rattle.rl_defs.specs.declared.bundle.Numbered.{Numbered}
use Rattle.rl_defs.specs.declared.code.DomainLine.{DomainLine}
use Rattle.rl_defs.specs.declared.code.Register.{Register}
use Rattle.rl_defs.specs.declared.code.HeadItem.{HeadItem}
use Rattle.rl_defs.specs.declared.code.HeadKind.{HeadKind}
use Rattle.rl_defs.specs.declared.values.Value.{Value}
use Rattle.machine_defs.specs.declared.values.Arg.{Arg}
use Rattle.machine_defs.specs.declared.frame.FrameBody.TheVariants as body
use Rattle.machine_defs.specs.declared.entry.Entry.{Entry}
use Rattle.rl_defs.specs.declared.load.LoadRows.{LoadRows}
use Rattle.rl_defs.specs.declared.load.LoadRow.{LoadRow}
use Rattle.rl_defs.specs.declared.load.ClientRow.{ClientRow}
use Rattle.rl_defs.specs.declared.load.Command.{Command}
use Rattle.rl_defs.specs.declared.tables.Tables.{Tables}
use Rattle.rl_defs.specs.declared.tables.StructRow.{StructRow}
use Rattle.rl_defs.specs.declared.tables.TraitRow.{TraitRow}
use Rattle.rl_defs.specs.declared.tables.MethodRow.{MethodRow}
use Rattle.rl_defs.specs.declared.tables.Kind.{Kind}
use Rattle.rl_defs.specs.declared.tables.Kind.TheVariants as kind
use Rattle.rl_defs.specs.declared.tables.Width.TheVariants as width
use Rattle.rl_defs.specs.DomainValue.{Domain}
use Rattle.machine_defs.specs.State.{StackFrame, Thread, Instance}
use Rattle.machine_defs.specs.Frames.{frame_of}
use Rattle.machine_defs.specs.Steps.{Turn}

-- the kind of a `u64`
abbrev pub u64 : Kind
u64 = kind.Num width.W64

-- `struct P { a: u64 }`, which stands first in each of these loads
abbrev pub struct_p : StructRow
struct_p = record { name = codes "P"; flat = u64 ∷ [] }

abbrev pub tables : List StructRow → List TraitRow → Tables
tables structs traits = record { structs = structs; traits = traits }

abbrev pub has_methods : List ℕ → List MethodRow → TraitRow
has_methods name methods = record { name = name; methods = methods }

-- a method that may be issued once only, and one that may be issued again
abbrev pub method : List ℕ → List Kind → List Kind → MethodRow
method name params results = record { name = name; idempotent = false; params = params; results = results }

abbrev pub repeatable : List ℕ → List Kind → List Kind → MethodRow
repeatable name params results = record { name = name; idempotent = true; params = params; results = results }

-- registers of code
abbrev pub register : (n : ℕ) → n < 32 → Register
register n below = record { number = n; below = below }

abbrev pub r0 : Register
r0 = register 0 (lit< tt)

abbrev pub r1 : Register
r1 = register 1 (lit< tt)

abbrev pub r2 : Register
r2 = register 2 (lit< tt)

abbrev pub r3 : Register
r3 = register 3 (lit< tt)

abbrev pub r4 : Register
r4 = register 4 (lit< tt)

abbrev pub r5 : Register
r5 = register 5 (lit< tt)

abbrev pub r6 : Register
r6 = register 6 (lit< tt)

abbrev pub r7 : Register
r7 = register 7 (lit< tt)

-- an item of a head
abbrev pub item : Register → HeadKind → HeadItem
item r k = record { register = r; kind = k }

-- lines, numbered from a line on
abbrev pub lines_from : ℕ → List DomainLine → List (Numbered DomainLine)
lines_from n [] = []
lines_from n (form ∷ forms) = record { line = n; form = form } ∷ lines_from (n + 1) forms

-- a domain of these lines
abbrev pub domain : Tables → List DomainLine → Domain
domain of forms = record { lines = lines_from 1 forms; tables = of }

-- a load of a domain, and one that one thread at a time may be in
abbrev pub load_of : List ℕ → ℕ → List ℕ → LoadRow
load_of name domain binds = record { name = name; domain = domain; serial = false; binds = binds }

abbrev pub serial_load : List ℕ → ℕ → List ℕ → LoadRow
serial_load name domain binds = record { name = name; domain = domain; serial = true; binds = binds }

abbrev pub client : List ℕ → List Command → ClientRow
client name commands = record { name = name; commands = commands }

-- a load with no shadow, no order line, the usual fuel and no device
abbrev pub plain_load : Tables → List Domain → List LoadRow → List ClientRow → LoadRows
plain_load of domains loads clients = record {
  tables = of;
  domains = domains;
  loads = loads;
  shadows = [];
  clients = clients;
  order = [];
  fuel = 10000;
  device_load = 0;
  blocks = 0;
}

-- a thread that isn't done: its fuel, its place in the script, and what its names hold
abbrev pub thread : ℕ → ℕ → List (Option Value) → Thread
thread fuel place names = record { fuel = fuel; place = place; names = names; done = false }

-- the 32 registers of a frame, of which the first hold these
abbrev pub holding : List (Option Value) → List (Option Value)
holding values = values ++ replicate (32 - length values) None

-- the frame of a call that stands at a line with these first registers
abbrev pub frame_at : ℕ → ℕ → ℕ → ℕ → List Arg → ℕ → List (Option Value) → StackFrame
frame_at call target instance method args at values = frame_of call target instance method args (body.Code at (holding values))

-- a turn behind which nothing is freed, and one behind which these objects are
abbrev pub quiet : Entry → Turn
quiet entry = record { entry = entry; frees = [] }

abbrev pub freeing : Entry → List ℕ → Turn
freeing entry frees = record { entry = entry; frees = frees }

-- an instance of a load with no words and no slots, live or ended
abbrev pub instance_of : ℕ → Bool → Instance
instance_of load live = record { load = load; live = live; words = []; slots = [] }
