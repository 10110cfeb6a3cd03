-- The traits that a native body and its import have to have: which methods, in which order, over which structs.
use Rattle.std.specs.Prelude.{ℕ, ◌==◌, ◌&&◌, not, Bool, true, false, List, [], ◌∷◌, ◌++◌, length, codes, if◌then◌else◌}
use Rattle.std.specs.List.{list_all}
use Rattle.rl_defs.specs.declared.code.Native.{Native}
use Rattle.rl_defs.specs.declared.code.Native.TheVariants as native
use Rattle.rl_defs.specs.declared.tables.Width.{Width}
use Rattle.rl_defs.specs.declared.tables.Width.TheVariants as width
use Rattle.rl_defs.specs.declared.tables.Kind.{Kind}
use Rattle.rl_defs.specs.declared.tables.Kind.TheVariants as value
use Rattle.rl_defs.specs.declared.tables.MethodRow.{MethodRow}
use Rattle.rl_defs.specs.declared.tables.Tables.{Tables}
use Rattle.rl_defs.specs.Words.{same_bytes}
use Rattle.rl_defs.specs.DomainValue.{Domain}
use Rattle.rl_defs.specs.CodeNames.{cells_of, methods_of, import_trait, domain_trait}

-- what a struct of these traits is for: a block of the device, a file's name, the bytes of a file
pub data Role : Type 0 where
  Block : Role
  FileName : Role
  Buffer : Role

-- a parameter or result: a number, an object that passes along, an object that is lent
pub data Shape : Type 0 where
  IsNumber : Width → Shape
  Passes : Role → Shape
  Lends : Role → Shape

pub record MethodShape : Type 0 where
  pub name : List ℕ
  pub idempotent : Bool
  pub params : List Shape
  pub results : List Shape

abbrev pub word : Shape
word = IsNumber width.W64

-- the block device
abbrev pub block_device : List MethodShape
block_device =
    record { name = codes "size"; idempotent = true; params = []; results = word ∷ [] }
    ∷ record { name = codes "read"; idempotent = true; params = word ∷ []; results = Passes Block ∷ [] }
    ∷ record { name = codes "write"; idempotent = true; params = word ∷ Lends Block ∷ []; results = [] }
    ∷ []

-- the file system
abbrev pub file_system : List MethodShape
file_system =
    record { name = codes "mkfs"; idempotent = false; params = []; results = word ∷ [] }
    ∷ record { name = codes "create"; idempotent = false; params = Lends FileName ∷ []; results = word ∷ word ∷ [] }
    ∷ record { name = codes "find"; idempotent = false; params = Lends FileName ∷ []; results = word ∷ word ∷ [] }
    ∷ record { name = codes "size"; idempotent = false; params = word ∷ []; results = word ∷ word ∷ [] }
    ∷ record { name = codes "read"; idempotent = false; params = word ∷ word ∷ word ∷ Passes Buffer ∷ []; results = word ∷ word ∷ Passes Buffer ∷ [] }
    ∷ record { name = codes "write"; idempotent = false; params = word ∷ word ∷ word ∷ Lends Buffer ∷ []; results = word ∷ [] }
    ∷ record { name = codes "remove"; idempotent = false; params = Lends FileName ∷ []; results = word ∷ [] }
    ∷ []

-- the calls after xv6
abbrev pub posix_calls : List MethodShape
posix_calls =
    record { name = codes "open"; idempotent = false; params = Lends FileName ∷ IsNumber width.Bool ∷ []; results = word ∷ word ∷ [] }
    ∷ record { name = codes "close"; idempotent = false; params = word ∷ []; results = word ∷ [] }
    ∷ record { name = codes "read"; idempotent = false; params = word ∷ word ∷ Passes Buffer ∷ []; results = word ∷ word ∷ Passes Buffer ∷ [] }
    ∷ record { name = codes "write"; idempotent = false; params = word ∷ word ∷ Lends Buffer ∷ []; results = word ∷ word ∷ [] }
    ∷ record { name = codes "seek"; idempotent = false; params = word ∷ word ∷ []; results = word ∷ [] }
    ∷ record { name = codes "unlink"; idempotent = false; params = Lends FileName ∷ []; results = word ∷ [] }
    ∷ record { name = codes "pipe_put"; idempotent = false; params = word ∷ []; results = word ∷ [] }
    ∷ record { name = codes "pipe_get"; idempotent = false; params = []; results = word ∷ word ∷ [] }
    ∷ []

abbrev pub same_width : Width → Width → Bool
same_width width.Bool width.Bool = true
same_width width.W8 width.W8 = true
same_width width.W16 width.W16 = true
same_width width.W32 width.W32 = true
same_width width.W64 width.W64 = true
same_width _ _ = false

abbrev pub is_number : Width → Kind → Bool
is_number w (value.Num v) = same_width w v
is_number w _ = false

-- so many cells, all of them numbers of this width
abbrev pub has_cells : ℕ → Width → List Kind → Bool
has_cells count w cells = (length cells == count) && list_all (is_number w) cells

-- a struct counts as its cells
abbrev pub serves : Role → List Kind → Bool
serves Block cells = has_cells 64 width.W64 cells
serves FileName cells = has_cells 32 width.W8 cells
serves Buffer cells = has_cells 512 width.W8 cells

abbrev pub is_shape : Tables → Shape → Kind → Bool
is_shape tables (IsNumber w) k = is_number w k
is_shape tables (Passes role) (value.Own s) = serves role (cells_of tables s)
is_shape tables (Lends role) (value.Lent s) = serves role (cells_of tables s)
is_shape tables _ _ = false

abbrev pub are_shapes : Tables → List Shape → List Kind → Bool
are_shapes tables [] [] = true
are_shapes tables (shape ∷ shapes) (k ∷ kinds) = is_shape tables shape k && are_shapes tables shapes kinds
are_shapes tables _ _ = false

abbrev pub same_mark : Bool → Bool → Bool
same_mark wanted marked = if wanted then marked else not marked

abbrev pub is_method : Tables → MethodShape → MethodRow → Bool
is_method tables shape row =
    same_bytes row.name shape.name && (same_mark shape.idempotent row.idempotent
    && (are_shapes tables shape.params row.params && are_shapes tables shape.results row.results))

abbrev pub are_methods : Tables → List MethodShape → List MethodRow → Bool
are_methods tables [] [] = true
are_methods tables (shape ∷ shapes) (row ∷ rows) = is_method tables shape row && are_methods tables shapes rows
are_methods tables _ _ = false

-- a native body: the shape of its trait, its import, and the shape of that
abbrev pub shape_of : Native → List MethodShape
shape_of native.Fs = file_system
shape_of native.Rv6 = posix_calls

abbrev pub import_of : Native → List ℕ
import_of native.Fs = codes "disk"
import_of native.Rv6 = codes "files"

abbrev pub import_shape : Native → List MethodShape
import_shape native.Fs = block_device
import_shape native.Rv6 = file_system

abbrev pub own_methods : Domain → List MethodRow
own_methods d = methods_of d.tables (domain_trait d)

abbrev pub import_methods : Domain → Native → List MethodRow
import_methods d body = methods_of d.tables (import_trait d (import_of body))

-- the traits of a native body, and of its import, are of their shapes
abbrev pub are_of_shape : Domain → Native → Bool
are_of_shape d body =
    are_methods d.tables (shape_of body) (own_methods d) && are_methods d.tables (import_shape body) (import_methods d body)

abbrev pub same_role : Role → Role → Bool
same_role Block Block = true
same_role FileName FileName = true
same_role Buffer Buffer = true
same_role _ _ = false

abbrev pub put_where : Bool → ℕ → List ℕ → List ℕ
put_where here s others = if here then s ∷ others else others

-- the struct at a place that is for this role
abbrev pub struct_at : Role → Shape → Kind → List ℕ → List ℕ
struct_at role (Passes r) (value.Own s) others = put_where (same_role role r) s others
struct_at role (Lends r) (value.Lent s) others = put_where (same_role role r) s others
struct_at role _ _ others = others

-- the structs at the places that are for this role
abbrev pub structs_for : Role → List Shape → List Kind → List ℕ
structs_for role [] kinds = []
structs_for role (shape ∷ shapes) [] = []
structs_for role (shape ∷ shapes) (k ∷ kinds) = struct_at role shape k (structs_for role shapes kinds)

abbrev pub structs_in : Role → List MethodShape → List MethodRow → List ℕ
structs_in role [] rows = []
structs_in role (shape ∷ shapes) [] = []
structs_in role (shape ∷ shapes) (row ∷ rows) = structs_for role shape.params row.params ++ (structs_for role shape.results row.results ++ structs_in role shapes rows)

abbrev pub structs_of : Domain → Native → Role → List ℕ
structs_of d body role = structs_in role (shape_of body) (own_methods d) ++ structs_in role (import_shape body) (import_methods d body)

abbrev pub are_one : List ℕ → Bool
are_one [] = true
are_one (s ∷ others) = list_all (λ t. t == s) others

-- the traits of a native body and of its import have one struct where they are to have one
abbrev pub have_one_struct : Domain → Native → Bool
have_one_struct d body =
    are_one (structs_of d body Block) && (are_one (structs_of d body FileName) && are_one (structs_of d body Buffer))
