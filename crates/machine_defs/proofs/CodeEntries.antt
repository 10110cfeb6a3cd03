-- A call of domain code that keeps the rules begins with a frame that fits.
use Rattle.std.proofs.Common.{◌≡◌, refl, sym, ◌∙◌, ap, subst, ℕ, zero, suc, ◌+◌, ◌-◌, ◌≤◌, ◌==◌, Bool, true, false, not, cond, ◌||◌, List, [], ◌∷◌, ◌++◌, length, map, Option, Some, None, slice_get, arith, one-add, suc-add, zero-add, append_assoc, length-append, true≢false, is_some}
use Rattle.std.specs.Prelude.{if◌then◌else◌, slice_set, replicate}
use Rattle.std.specs.List.{slice_index_or, list_all, position_or_len}
use Rattle.std.specs.Option.{option_map}
use Rattle.std.proofs.lemmas.List.{length-replicate, length-map}
use Rattle.std.proofs.lemmas.Bool.{eqb-true}
use Rattle.std.proofs.lemmas.Option.{slice_get_within}
use Rattle.rl_defs.specs.declared.bundle.Numbered.{Numbered}
use Rattle.machine_defs.specs.declared.values.Arg.{Arg}
use Rattle.rl_defs.specs.declared.values.Value.{Value}
use Rattle.rl_defs.specs.declared.code.RegKind.{RegKind}
use Rattle.rl_defs.specs.declared.code.RegKind.TheVariants as held
use Rattle.rl_defs.specs.declared.code.DomainLine.{DomainLine}
use Rattle.rl_defs.specs.declared.code.DomainLine.TheVariants as line
use Rattle.rl_defs.specs.declared.tables.Kind.{Kind}
use Rattle.rl_defs.specs.declared.tables.MethodRow.{MethodRow}
use Rattle.rl_defs.specs.Words.{same_bytes}
use Rattle.rl_defs.specs.Interfaces.{place_of}
use Rattle.rl_defs.specs.DomainValue.{Domain}
use Rattle.rl_defs.specs.Domains.{Lines, is_native, begins_function}
use Rattle.rl_defs.specs.DomainParts.{begins_domain}
use Rattle.rl_defs.specs.CodeNames.{function_at, function_of_form, functions, methods_of, method_number, method_named, row_at, params_of, domain_trait}
use Rattle.rl_defs.specs.CodeKinds.{Kinds, kinds_at, as_register, put_from, entry_kinds}
use Rattle.rl_defs.specs.CodeRules.{has_function, has_functions, is_inside}
use Rattle.machine_defs.specs.Arguments.{value_of, entry_registers}
use Rattle.rl_defs.specs.DomainParts.{IsOneDomain}
use Rattle.rl_defs.specs.CodeRules.{KeepsRules}
use Rattle.rl_defs.specs.Registers.{Typing, fits_kind, Fits}
use Rattle.machine_defs.specs.CodeFits.{FitsStand, are_values}
use Rattle.rl_defs.specs.CodeNames.{entry_of}
use Rattle.machine_defs.specs.CodeLaws.{FitsArguments, EntriesFit}
use Rattle.machine_defs.proofs.CodeRegisters.{and_left, and_right}
use Rattle.rl_defs.proofs.CodeBlocks.{inside_below}
use Rattle.machine_defs.proofs.CodeStands.{keeps_at, kinds_next, function_next, reached_next}
use Rattle.rl_defs.proofs.TableSizes.{small_method}

pub set_seam : (front : Kinds) (k y : RegKind) (rest : Kinds) → slice_set (front ++ k ∷ rest) (length front) y ≡ front ++ y ∷ rest
set_seam [] k y rest = refl
set_seam (x ∷ front) k y rest = ap (λ xs. x ∷ xs) (set_seam front k y rest)

pub put_behind : (front : Kinds) (ks : List Kind) (j : ℕ) → put_from (length front) ks (front ++ replicate (length ks + j) held.Empty) ≡ front ++ (map as_register ks ++ replicate j held.Empty)
put_behind front [] j = rw zero-add refl
put_behind front (k ∷ ks) j =
    let rest = replicate (length ks + j) held.Empty in
    let one : List RegKind = as_register k ∷ [] in
    let count : length front + 1 ≡ length (front ++ one) = omega (arith, length-append front one) in
    ap (λ n. put_from (length front + 1) ks (slice_set (front ++ replicate n held.Empty) (length front) (as_register k))) (suc-add (length ks) j)
    ∙ (ap (put_from (length front + 1) ks) (set_seam front held.Empty (as_register k) rest ∙ sym (append_assoc front one rest))
    ∙ (ap (λ n. put_from n ks ((front ++ one) ++ rest)) count
    ∙ (put_behind (front ++ one) ks j ∙ append_assoc front one (map as_register ks ++ replicate j held.Empty))))

-- the kinds at a function's first line are the parameters', and no others
pub entry_is : (ks : List Kind) → length ks ≤ 32 → entry_kinds ks ≡ map as_register ks ++ replicate (32 - length ks) held.Empty
entry_is ks le =
    let all : length ks + (32 - length ks) ≡ 32 = omega arith in
    ap (λ n. put_from 0 ks (replicate n held.Empty)) (sym all) ∙ put_behind [] ks (32 - length ks)

empty_fits : (types : Typing) (j r : ℕ) → fits_kind types (slice_index_or (replicate j held.Empty) r held.Empty) (slice_index_or (replicate j None) r None) ≡ true
empty_fits types zero r = refl
empty_fits types (suc j) zero = refl
empty_fits types (suc j) (suc r) = empty_fits types j r

given_fits : (types : Typing) (ks : List Kind) (args : List Arg) (j r : ℕ) → are_values types ks (map value_of args) ≡ true → fits_kind types (slice_index_or (map as_register ks ++ replicate j held.Empty) r held.Empty) (slice_index_or (map (λ a. Some (value_of a)) args ++ replicate j None) r None) ≡ true
given_fits types [] [] j r are = empty_fits types j r
given_fits types [] (a ∷ args) j r are = absurd (cc)
given_fits types (k ∷ ks) [] j r are = absurd (cc)
given_fits types (k ∷ ks) (a ∷ args) j zero are = and_left (fits_kind types (as_register k) (Some (value_of a))) (are_values types ks (map value_of args)) are
given_fits types (k ∷ ks) (a ∷ args) j (suc r) are = given_fits types ks args j r (and_right (fits_kind types (as_register k) (Some (value_of a))) (are_values types ks (map value_of args)) are)

pub as_many : (types : Typing) (ks : List Kind) (values : List Value) → are_values types ks values ≡ true → length ks ≡ length values
as_many types [] [] are = refl
as_many types [] (v ∷ values) are = absurd (cc)
as_many types (k ∷ ks) [] are = absurd (cc)
as_many types (k ∷ ks) (v ∷ values) are = ap suc (as_many types ks values (and_right (fits_kind types (as_register k) (Some v)) (are_values types ks values) are))

-- arguments of the parameters' kinds fit the kinds at a function's first line
entered_fits : (types : Typing) (ks : List Kind) (args : List Arg) → length ks ≤ 32 → are_values types ks (map value_of args) ≡ true → Fits types (entry_kinds ks) (entry_registers args)
entered_fits types ks args le are =
    let count : length ks ≡ length args = as_many types ks (map value_of args) are ∙ length-map args value_of in
    record {
      all = omega (arith, length-append (map (λ a. Some (value_of a)) args) (replicate (32 - length args) None), length-map args (λ a. Some (value_of a)), length-replicate {A = Option Value} (32 - length args) None);
      each = λ r.
          ap (λ kinds. fits_kind types (slice_index_or kinds r held.Empty) (slice_index_or (entry_registers args) r None)) (entry_is ks le)
          ∙ (ap (λ n. fits_kind types (slice_index_or (map as_register ks ++ replicate (32 - n) held.Empty) r held.Empty) (slice_index_or (entry_registers args) r None)) count
          ∙ given_fits types ks args (32 - length args) r are);
    }

-- the head of a function at a place
record FunctionAt (lines : Lines) (p : ℕ) (name : List ℕ) : Type 0 where
  number : ℕ
  has : List ℕ
  here : slice_get lines p ≡ Some (record { line = number; form = line.Function has })
  same : same_bytes has name ≡ true

function_later : (l : Numbered DomainLine) (lines : Lines) (p : ℕ) (name : List ℕ) → FunctionAt lines p name → FunctionAt (l ∷ lines) (1 + p) name
function_later l lines p name f = record { number = f.number; has = f.has; here = ap (slice_get (l ∷ lines)) (one-add p) ∙ f.here; same = f.same }

mapped_some : (o : Option ℕ) → is_some (option_map (λ k. suc k) o) ≡ true → is_some o ≡ true
mapped_some None h = h
mapped_some (Some k) h = refl

function_here : (number : ℕ) (has name : List ℕ) (lines : Lines) (same : Bool) → same_bytes has name ≡ same → (is_some (place_of name (functions lines)) ≡ true → FunctionAt lines (position_or_len (λ l. begins_function name l.form) lines) name) → is_some (if same then Some 0 else option_map (λ k. suc k) (place_of name (functions lines))) ≡ true → FunctionAt (record { line = number; form = line.Function has } ∷ lines) (cond (not same) (1 + position_or_len (λ l. begins_function name l.form) lines) 0) name
function_here number has name lines true e rest h = record { number = number; has = has; here = refl; same = e }
function_here number has name lines false e rest h = function_later _ lines (position_or_len (λ l. begins_function name l.form) lines) name (rest (mapped_some (place_of name (functions lines)) h))

function_form : (name : List ℕ) (number : ℕ) (form : DomainLine) (lines : Lines) → (is_some (place_of name (functions lines)) ≡ true → FunctionAt lines (position_or_len (λ l. begins_function name l.form) lines) name) → is_some (place_of name (function_of_form form (functions lines))) ≡ true → FunctionAt (record { line = number; form = form } ∷ lines) (cond (not (begins_function name form)) (1 + position_or_len (λ l. begins_function name l.form) lines) 0) name
function_form name number (line.Function has) lines rest h = function_here number has name lines (same_bytes has name) refl rest h
function_form name number (line.Domain n has) lines rest h = function_later _ lines (position_or_len (λ l. begins_function name l.form) lines) name (rest h)
function_form name number (line.Words k) lines rest h = function_later _ lines (position_or_len (λ l. begins_function name l.form) lines) name (rest h)
function_form name number (line.Slot n ty) lines rest h = function_later _ lines (position_or_len (λ l. begins_function name l.form) lines) name (rest h)
function_form name number (line.Import n has) lines rest h = function_later _ lines (position_or_len (λ l. begins_function name l.form) lines) name (rest h)
function_form name number (line.Native body) lines rest h = function_later _ lines (position_or_len (λ l. begins_function name l.form) lines) name (rest h)
function_form name number (line.Head label items) lines rest h = function_later _ lines (position_or_len (λ l. begins_function name l.form) lines) name (rest h)
function_form name number (line.Code i) lines rest h = function_later _ lines (position_or_len (λ l. begins_function name l.form) lines) name (rest h)
function_form name number line.Close lines rest h = function_later _ lines (position_or_len (λ l. begins_function name l.form) lines) name (rest h)

-- a name of a function has a head, which is found
function_found : (name : List ℕ) (lines : Lines) → is_some (place_of name (functions lines)) ≡ true → FunctionAt lines (position_or_len (λ l. begins_function name l.form) lines) name
function_found name [] h = absurd (cc)
function_found name (l ∷ lines) h = function_form name l.line l.form lines (function_found name lines) h

same_list : (xs ys : List ℕ) → same_bytes xs ys ≡ true → xs ≡ ys
same_list [] [] e = refl
same_list [] (y ∷ ys) e = absurd (cc)
same_list (x ∷ xs) [] e = absurd (cc)
same_list (x ∷ xs) (y ∷ ys) e =
    let here : x ≡ y = eqb-true x y (and_left (x == y) (same_bytes xs ys) e) in
    let rest : xs ≡ ys = same_list xs ys (and_right (x == y) (same_bytes xs ys) e) in
    cc

all_here : (d : Domain) (methods : List MethodRow) (m : ℕ) (row : MethodRow) → list_all (has_function d) methods ≡ true → slice_get methods m ≡ Some row → has_function d row ≡ true
all_here d [] m row all here = absurd (cc)
all_here d (x ∷ methods) zero row all here =
    let e : x ≡ row = cc in
    subst (λ y. has_function d y ≡ true) e (and_left (has_function d x) (list_all (has_function d) methods) all)
all_here d (x ∷ methods) (suc m) row all here = all_here d methods m row (and_right (has_function d x) (list_all (has_function d) methods) all) here

or_other : (a b : Bool) → a ≡ false → (a || b) ≡ true → b ≡ true
or_other true b e h = absurd (true≢false e)
or_other false b e h = h

keeps_form : (d : Domain) (form : DomainLine) → begins_domain form ≡ true → has_functions d form ≡ true → is_native d.lines ≡ false → list_all (has_function d) (methods_of d.tables (domain_trait d)) ≡ true
keeps_form d (line.Domain name has) begins kept native = or_other (is_native d.lines) _ native kept
keeps_form d form begins kept native = cc

keeps_first : (d : Domain) (lines : Lines) → d.lines ≡ lines → KeepsRules d → is_native d.lines ≡ false → list_all (has_function d) (methods_of d.tables (domain_trait d)) ≡ true
keeps_first d [] e keeps native = absurd (subst IsOneDomain e keeps.ordered)
keeps_first d (l ∷ lines) e keeps native =
    let one = subst IsOneDomain e keeps.ordered in
    keeps_form d l.form one.0 (keeps_at d 0 l.line l.form keeps (ap (λ (xs : Lines). slice_get xs 0) e)).functions native

pub named_row : (d : Domain) (name : List ℕ) (m : ℕ) (row : MethodRow) → method_number d.tables (domain_trait d) name ≡ Some m → slice_get (methods_of d.tables (domain_trait d)) m ≡ Some row → params_of (method_named d.tables (domain_trait d) name) ≡ row.params
named_row d name m row named here =
    ap (λ o. params_of (row_at (methods_of d.tables (domain_trait d)) o)) named ∙ ap params_of here

begins_fitting : (d : Domain) (types : Typing) (p : ℕ) (m : ℕ) (args : List Arg) → KeepsRules d → (given : FitsArguments types d m args) → FunctionAt d.lines p given.method.name → FitsStand types d (record { at = p + 1; regs = entry_registers args })
begins_fitting d types p m args keeps given f =
    let within = slice_get_within d.lines p _ f.here in
    let inside : is_inside (function_at d.lines (p + 1)) ≡ true = ap is_inside (function_next d.lines p _ f.here) in
    let name : f.has ≡ given.method.name = same_list f.has given.method.name f.same in
    let small = small_method d.tables (domain_trait d) m given.method keeps.small given.row in
    let params = small.params in
    let is : kinds_at d (p + 1) ≡ entry_kinds given.method.params =
    kinds_next d p _ f.here
    ∙ (ap (λ n. entry_kinds (params_of (method_named d.tables (domain_trait d) n))) name
    ∙ ap entry_kinds (named_row d given.method.name m given.method given.named given.row)) in
    record {
      inside = inside;
      reached = reached_next d p _ f.here;
      within = inside_below d.lines (p + 1) keeps.ordered (omega arith) inside;
      regs = subst (λ k. Fits types k (entry_registers args)) (sym is) (entered_fits types given.method.params args (omega arith) given.values);
    }

pub entries_fit : EntriesFit
entries_fit d types m place args keeps native given at =
    let has = all_here d (methods_of d.tables (domain_trait d)) m given.method (keeps_first d d.lines refl keeps native) given.row in
    let f = function_found given.method.name d.lines has in
    let p = position_or_len (λ l. begins_function given.method.name l.form) d.lines in
    let e : Some (p + 1) ≡ Some place = sym (ap (entry_of d) given.row) ∙ at in
    let is : p + 1 ≡ place = cc in
    subst (λ n. FitsStand types d (record { at = n; regs = entry_registers args })) is (begins_fitting d types p m args keeps given f)
