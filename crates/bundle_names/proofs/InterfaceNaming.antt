-- Rules 3 and 4 in an interface part, line by line.
use Rattle.bundle_names.proofs.DomainUses.{split_any, unknown_any, any_unknown}
use Rattle.bundle_names.specs.DomainNames.{is_absent}
use Rattle.std.proofs.Common.{◌≡◌, ℕ, ◌⊎◌, inl, inr, Bool, true, false, ◌||◌, List, [], ◌∷◌, ◌++◌, map, take, Some, None, refl, sym, ap, subst, ◌∙◌}
use Rattle.std.specs.Prelude.{slice_get, is_some}
use Rattle.std.specs.List.{list_any}
use Rattle.rl_defs.specs.declared.idl.IdlLine.{IdlLine}
use Rattle.rl_defs.specs.declared.idl.IdlLine.TheVariants as form
use Rattle.rl_defs.specs.declared.idl.Base.{Base}
use Rattle.rl_defs.specs.declared.idl.Base.TheVariants as base
use Rattle.rl_defs.specs.declared.idl.Param.{Param}
use Rattle.rl_defs.specs.declared.idl.TypeText.{TypeText}
use Rattle.rl_defs.specs.Interfaces.{Lines, FieldText, StructText, MethodText, TraitText, fields_of, field_before, structs_of, struct_before, methods_of, method_before, traits_of, trait_before, types_in, param_types, result_types, struct_names, trait_names, place_of}
use Rattle.rl_defs.specs.NameRules.{FailsNames, GivenTwice, GivenTwiceInOne, NamesUnknown, declared_given, fields_given, methods_given, params_given, struct_in, structs_named, trait_in, traits_named}
use Rattle.rl_defs.specs.BundleNames.{Given, given}
use Rattle.bundle_names.specs.declared.roles.Role.{Role}
use Rattle.bundle_names.specs.declared.roles.Role.TheVariants as role
use Rattle.bundle_names.specs.Scopes.{behind_all, repeats, Repeats, member_before, members, scope_before, scopes, TwiceBehind, ScopeTwice, FailsAt, Somewhere}
use Rattle.bundle_names.specs.InterfaceLines.{declared_role, field_role, method_role, is_twice, repeats_param, given_at, is_repeated, is_unknown, has_unknown}
use Rattle.bundle_names.proofs.Lists.{or_true, or_left, or_right, get_map, get_map_back, any_append, or_false}
use Rattle.bundle_names.proofs.Scoping.{no_open, unlift, lift, scope_repeats, repeats_twice}
use Rattle.bundle_names.proofs.Lasting.{GivesTo, Giving, passes, gives, giving, given_repeats, repeats_given, given_scope, scope_given, behind_given, given_behind}

-- structs and traits
declared_gives : (line : IdlLine) → GivesTo (declared_role line) (declared_given line)
declared_gives (form.Struct x) = gives x
declared_gives (form.Trait x) = gives x
declared_gives (form.Field x ty) = passes
declared_gives (form.Method x ps r) = passes
declared_gives form.Idempotent = passes
declared_gives form.Close = passes

giving_declared : Giving declared_role declared_given
giving_declared = giving declared_role declared_given declared_gives

-- what is given twice in one of the scopes that lines open, and back
scope_again : (f : IdlLine → Role) (lines : Lines) (n : ℕ) (all : List (List Given)) → scopes f lines ≡ all → GivenTwiceInOne all n → Repeats f None lines n
scope_again f lines n all is h = scope_repeats f None lines n (subst (λ (gs : List (List Given)). ScopeTwice gs n) (sym is) (given_scope all n h))

again_scope : (f : IdlLine → Role) (lines : Lines) (n : ℕ) (all : List (List Given)) → scopes f lines ≡ all → Repeats f None lines n → GivenTwiceInOne all n
again_scope f lines n all is h = elim (repeats_twice f None lines n h) [
  | inl a ↦ absurd a
  | inr b ↦ subst (λ (gs : List (List Given)). GivenTwiceInOne gs n) is (scope_given (scopes f lines) n b)
]

-- fields
field_member : (n : ℕ) (line : IdlLine) (more : List FieldText) → member_before n (field_role line) (map (λ f. given f.line f.name) more) ≡ map (λ f. given f.line f.name) (field_before n line more)
field_member n (form.Struct x) more = refl
field_member n (form.Trait x) more = refl
field_member n (form.Field x ty) more = refl
field_member n (form.Method x ps r) more = refl
field_member n form.Idempotent more = refl
field_member n form.Close more = refl

field_members : (lines : Lines) → members field_role lines ≡ map (λ f. given f.line f.name) (fields_of lines)
field_members [] = refl
field_members (l ∷ ls) = ap (member_before l.line (field_role l.form)) (field_members ls) ∙ field_member l.line l.form (fields_of ls)

struct_scope : (n : ℕ) (line : IdlLine) (fields : List FieldText) (more : List StructText) → scope_before (field_role line) (map (λ f. given f.line f.name) fields) (map fields_given more) ≡ map fields_given (struct_before n line fields more)
struct_scope n (form.Struct x) fields more = refl
struct_scope n (form.Trait x) fields more = refl
struct_scope n (form.Field x ty) fields more = refl
struct_scope n (form.Method x ps r) fields more = refl
struct_scope n form.Idempotent fields more = refl
struct_scope n form.Close fields more = refl

struct_scopes : (lines : Lines) → scopes field_role lines ≡ map fields_given (structs_of lines)
struct_scopes [] = refl
struct_scopes (l ∷ ls) = ap (λ (ms : List Given). scope_before (field_role l.form) ms (scopes field_role ls)) (field_members ls) ∙ ap (scope_before (field_role l.form) (map (λ f. given f.line f.name) (fields_of ls))) (struct_scopes ls) ∙ struct_scope l.line l.form (fields_of ls) (structs_of ls)

-- methods
method_member : (n : ℕ) (line : IdlLine) (marked : Bool) (more : Bool → List MethodText) (given_more : List Given) → ((b : Bool) → given_more ≡ map (λ m. given m.line m.name) (more b)) → member_before n (method_role line) given_more ≡ map (λ m. given m.line m.name) (method_before n line marked more)
method_member n (form.Struct x) marked more gs e = refl
method_member n (form.Trait x) marked more gs e = refl
method_member n (form.Field x ty) marked more gs e = refl
method_member n (form.Method x ps r) marked more gs e = ap (λ (all : List Given). given n x ∷ all) (e false)
method_member n form.Idempotent marked more gs e = e true
method_member n form.Close marked more gs e = refl

method_members : (lines : Lines) (marked : Bool) → members method_role lines ≡ map (λ m. given m.line m.name) (methods_of lines marked)
method_members [] marked = refl
method_members (l ∷ ls) marked = method_member l.line l.form marked (methods_of ls) (members method_role ls) (λ b. method_members ls b)

trait_scope : (n : ℕ) (line : IdlLine) (methods : List MethodText) (more : List TraitText) → scope_before (method_role line) (map (λ m. given m.line m.name) methods) (map methods_given more) ≡ map methods_given (trait_before n line methods more)
trait_scope n (form.Struct x) methods more = refl
trait_scope n (form.Trait x) methods more = refl
trait_scope n (form.Field x ty) methods more = refl
trait_scope n (form.Method x ps r) methods more = refl
trait_scope n form.Idempotent methods more = refl
trait_scope n form.Close methods more = refl

pub trait_scopes : (lines : Lines) → scopes method_role lines ≡ map methods_given (traits_of lines)
trait_scopes [] = refl
trait_scopes (l ∷ ls) = ap (λ (ms : List Given). scope_before (method_role l.form) ms (scopes method_role ls)) (method_members ls false) ∙ ap (scope_before (method_role l.form) (map (λ m. given m.line m.name) (methods_of ls false))) (trait_scopes ls) ∙ trait_scope l.line l.form (methods_of ls false) (traits_of ls)

-- parameters
twice_from : (names xs : List (List ℕ)) (n : ℕ) → TwiceBehind names (map (λ x. given n x) xs) n → is_twice names xs ≡ true
twice_from names [] n t = absurd (no_open (Some names) n t)
twice_from names (x ∷ xs) n t = elim (unlift (role.Gives x) (Some names) n (map (λ y. given n y) xs) n t) [
  | inl a ↦ or_left (is_some (place_of x names)) (is_twice (names ++ x ∷ []) xs) a.1
  | inr b ↦ or_right (is_some (place_of x names)) (is_twice (names ++ x ∷ []) xs) (twice_from (names ++ x ∷ []) xs n b)
]

from_twice : (names xs : List (List ℕ)) (n : ℕ) → is_twice names xs ≡ true → TwiceBehind names (map (λ x. given n x) xs) n
from_twice names [] n e = absurd cc
from_twice names (x ∷ xs) n e = elim (or_true (is_some (place_of x names)) (is_twice (names ++ x ∷ []) xs) e) [
  | inl a ↦ record { place = 0; name = x; here = refl; before = inl a }
  | inr b ↦ elim (lift (role.Gives x) (Some names) n (map (λ y. given n y) xs) [] n (from_twice (names ++ x ∷ []) xs n b)) [
    | inl t ↦ t
    | inr s ↦ absurd (no_scope n s)
  ]
] where
  no_scope : (n : ℕ) → ScopeTwice [] n → ⊥
  no_scope n s = by s.number s.gives s.here where
    by : (number : ℕ) (gives : List Given) → slice_get [] number ≡ Some gives → ⊥
    by number gives e = absurd cc

no_name : (place : ℕ) (g : Given) → slice_get [] place ≡ Some g → ⊥
no_name place g e = absurd cc

-- the names of parameters, with the number of their line
params_same : (n : ℕ) (ps : List Param) → map (λ (x : List ℕ). given n x) (map (λ (p : Param). p.name) ps) ≡ map (λ (p : Param). given n p.name) ps
params_same n [] = refl
params_same n (p ∷ ps) = ap (λ (gs : List Given). given n p.name ∷ gs) (params_same n ps)

line_repeats : (m n : ℕ) (line : IdlLine) → GivenTwice (params_given (record { line = m; form = line })) n → (m ≡ n) × (repeats_param line ≡ true)
line_repeats m n (form.Method x ps r) t =
    let second = get_map_back (λ (p : Param). given m p.name) ps t.place t.second t.here in
    let same : m ≡ n = ap (λ (g : Given). g.line) second.2 ∙ t.line in
    (same, twice_from [] (map (λ (p : Param). p.name) ps) n (given_behind (map (λ (q : List ℕ). given n q) (map (λ (p : Param). p.name) ps)) n (subst (λ (k : ℕ). GivenTwice (map (λ (q : List ℕ). given k q) (map (λ (p : Param). p.name) ps)) n) same (subst (λ (gs : List Given). GivenTwice gs n) (sym (params_same m ps)) t))))
line_repeats m n (form.Struct x) t = absurd (no_name t.place t.second t.here)
line_repeats m n (form.Trait x) t = absurd (no_name t.place t.second t.here)
line_repeats m n (form.Field x ty) t = absurd (no_name t.place t.second t.here)
line_repeats m n form.Idempotent t = absurd (no_name t.place t.second t.here)
line_repeats m n form.Close t = absurd (no_name t.place t.second t.here)

repeats_params : (lines : Lines) (n : ℕ) → GivenTwiceInOne (map params_given lines) n → (place : ℕ) × (line : IdlLine) × (slice_get lines place ≡ Some (record { line = n; form = line })) × (repeats_param line ≡ true)
repeats_params lines n h =
    let l = get_map_back params_given lines h.number h.names h.here in
    let t = line_repeats l.0.line n l.0.form (subst (λ (gs : List Given). GivenTwice gs n) (sym l.2) h.twice) in
    (h.number, l.0.form, l.1 ∙ ap (λ (m : ℕ). Some (record { line = m; form = l.0.form })) t.0, t.1)

params_repeat : (lines : Lines) (n place : ℕ) (line : IdlLine) → slice_get lines place ≡ Some (record { line = n; form = line }) → repeats_param line ≡ true → GivenTwiceInOne (map params_given lines) n
params_repeat lines n place (form.Method x ps r) here e =
    record {
      number = place;
      names = map (λ (p : Param). given n p.name) ps;
      here = get_map params_given lines place (record { line = n; form = form.Method x ps r }) here;
      twice = behind_given (map (λ (p : Param). given n p.name) ps) n (subst (λ (gs : List Given). TwiceBehind [] gs n) (params_same n ps) (from_twice [] (map (λ (p : Param). p.name) ps) n e));
    }
params_repeat lines n place (form.Struct x) here e = absurd cc
params_repeat lines n place (form.Trait x) here e = absurd cc
params_repeat lines n place (form.Field x ty) here e = absurd cc
params_repeat lines n place form.Idempotent here e = absurd cc
params_repeat lines n place form.Close here e = absurd cc

-- what a type names
module _ (structs traits : List (List ℕ)) where
  base_any : (b : Base) → is_unknown structs traits b ≡ (list_any (is_absent structs) (struct_in b) || list_any (is_absent traits) (trait_in b))
  base_any (base.Struct name) = or_false (is_absent structs name) ∙ or_false (is_absent structs name || false)
  base_any (base.RRef name) = or_false (is_absent structs name) ∙ or_false (is_absent structs name || false)
  base_any (base.LentRRef name) = or_false (is_absent structs name) ∙ or_false (is_absent structs name || false)
  base_any (base.Dyn name) = or_false (is_absent traits name)
  base_any (base.Num w) = refl
  base_any base.String = refl
  base_any base.Function = refl

  any_param : (ps : List Param) → list_any (λ p. is_unknown structs traits p.ty.base) ps ≡ list_any (λ t. is_unknown structs traits t.base) (param_types ps)
  any_param [] = refl
  any_param (p ∷ ps) = ap (λ (b : Bool). is_unknown structs traits p.ty.base || b) (any_param ps)

  any_type : (line : IdlLine) → has_unknown structs traits line ≡ list_any (λ t. is_unknown structs traits t.base) (types_in line)
  any_type (form.Field x ty) = or_false (is_unknown structs traits ty.base)
  any_type (form.Method x ps r) = ap (λ (b : Bool). b || list_any (λ t. is_unknown structs traits t.base) (result_types r)) (any_param ps) ∙ sym (any_append (λ (t : TypeText). is_unknown structs traits t.base) (param_types ps) (result_types r))
  any_type (form.Struct x) = refl
  any_type (form.Trait x) = refl
  any_type form.Idempotent = refl
  any_type form.Close = refl

  any_name : (line : IdlLine) → has_unknown structs traits line ≡ (list_any (is_absent structs) (structs_named line) || list_any (is_absent traits) (traits_named line))
  any_name line = any_type line ∙ split_any (λ (t : TypeText). struct_in t.base) (λ (t : TypeText). trait_in t.base) (λ (t : TypeText). is_unknown structs traits t.base) structs traits (λ t. base_any t.base) (types_in line)

unknown_at : (lines : Lines) (n place : ℕ) (line : IdlLine) → slice_get lines place ≡ Some (record { line = n; form = line }) → has_unknown (struct_names lines) (trait_names lines) line ≡ true → NamesUnknown lines structs_named (struct_names lines) n ⊎ NamesUnknown lines traits_named (trait_names lines) n
unknown_at lines n place line here e = elim (or_true (list_any (is_absent (struct_names lines)) (structs_named line)) (list_any (is_absent (trait_names lines)) (traits_named line)) (sym (any_name (struct_names lines) (trait_names lines) line) ∙ e)) [
  | inl a ↦ inl (record { place = place; form = line; here = here; unknown = unknown_any (struct_names lines) (structs_named line) a })
  | inr a ↦ inr (record { place = place; form = line; here = here; unknown = unknown_any (trait_names lines) (traits_named line) a })
]

-- which rules fail at the line at a place
abbrev pub FailsLine : Lines → ℕ → ℕ → ℕ → Type 0
FailsLine lines = FailsAt lines (λ k line. is_repeated line (given_at lines k)) (λ k line. has_unknown (struct_names lines) (trait_names lines) line)

fails_repeated : (lines : Lines) (n place : ℕ) (line : IdlLine) → slice_get lines place ≡ Some (record { line = n; form = line }) → is_repeated line (given_at lines place) ≡ true → FailsNames (record { lines = lines }) n 3
fails_repeated lines n place line here e = inl (
  refl,
  elim (or_true (repeats (declared_role line) (behind_all declared_role (Some []) (take place lines))) _ e) [
    | inl a ↦ inl (given_repeats declared_role declared_given giving_declared lines n (record { place = place; form = line; here = here; again = a }))
    | inr b ↦ inr (elim (or_true (repeats (field_role line) (behind_all field_role None (take place lines))) _ b) [
      | inl a ↦ inl (again_scope field_role lines n (map fields_given (structs_of lines)) (struct_scopes lines) (record { place = place; form = line; here = here; again = a }))
      | inr c ↦ inr (elim (or_true (repeats (method_role line) (behind_all method_role None (take place lines))) (repeats_param line) c) [
        | inl a ↦ inl (again_scope method_role lines n (map methods_given (traits_of lines)) (trait_scopes lines) (record { place = place; form = line; here = here; again = a }))
        | inr d ↦ inr (params_repeat lines n place line here d)
      ])
    ])
  ],
)

pub line_fails : (lines : Lines) (n r : ℕ) → Somewhere (FailsLine lines) n r → FailsNames (record { lines = lines }) n r
line_fails lines n r (place, (line, here, inl a)) = subst (λ (m : ℕ). FailsNames (record { lines = lines }) n m) (sym a.0) (fails_repeated lines n place line here a.1)
line_fails lines n r (place, (line, here, inr a)) = inr (a.0, unknown_at lines n place line here a.1)

module _ (lines : Lines) (n r : ℕ) where
  three : (place : ℕ) (line : IdlLine) → slice_get lines place ≡ Some (record { line = n; form = line }) → r ≡ 3 → is_repeated line (given_at lines place) ≡ true → Somewhere (FailsLine lines) n r
  three place line here e h = (place, (line, here, inl (e, h)))

  declared_fails : r ≡ 3 → Repeats declared_role (Some []) lines n → Somewhere (FailsLine lines) n r
  declared_fails e h = three h.place h.form h.here e (or_left (repeats (declared_role h.form) (behind_all declared_role (Some []) (take h.place lines))) _ h.again)

  field_fails : r ≡ 3 → Repeats field_role None lines n → Somewhere (FailsLine lines) n r
  field_fails e h = three h.place h.form h.here e (or_right (repeats (declared_role h.form) (behind_all declared_role (Some []) (take h.place lines))) _ (or_left (repeats (field_role h.form) (behind_all field_role None (take h.place lines))) _ h.again))

  method_fails : r ≡ 3 → Repeats method_role None lines n → Somewhere (FailsLine lines) n r
  method_fails e h = three h.place h.form h.here e (or_right (repeats (declared_role h.form) (behind_all declared_role (Some []) (take h.place lines))) _ (or_right (repeats (field_role h.form) (behind_all field_role None (take h.place lines))) _ (or_left (repeats (method_role h.form) (behind_all method_role None (take h.place lines))) (repeats_param h.form) h.again)))

  param_fails : r ≡ 3 → GivenTwiceInOne (map params_given lines) n → Somewhere (FailsLine lines) n r
  param_fails e t = let h = repeats_params lines n t in three h.0 h.1 h.2 e (or_right (repeats (declared_role h.1) (behind_all declared_role (Some []) (take h.0 lines))) _ (or_right (repeats (field_role h.1) (behind_all field_role None (take h.0 lines))) _ (or_right (repeats (method_role h.1) (behind_all method_role None (take h.0 lines))) (repeats_param h.1) h.3)))

  pub fails_line : FailsNames (record { lines = lines }) n r → Somewhere (FailsLine lines) n r
  fails_line (inl (e, inl h)) = declared_fails e (repeats_given declared_role declared_given giving_declared lines n h)
  fails_line (inl (e, inr (inl h))) = field_fails e (scope_again field_role lines n (map fields_given (structs_of lines)) (struct_scopes lines) h)
  fails_line (inl (e, inr (inr (inl h)))) = method_fails e (scope_again method_role lines n (map methods_given (traits_of lines)) (trait_scopes lines) h)
  fails_line (inl (e, inr (inr (inr h)))) = param_fails e h
  fails_line (inr (e, inl h)) = (h.place, (h.form, h.here, inr (e, any_name (struct_names lines) (trait_names lines) h.form ∙ or_left (list_any (is_absent (struct_names lines)) (structs_named h.form)) _ (any_unknown (struct_names lines) (structs_named h.form) h.unknown))))
  fails_line (inr (e, inr h)) = (h.place, (h.form, h.here, inr (e, any_name (struct_names lines) (trait_names lines) h.form ∙ or_right (list_any (is_absent (struct_names lines)) (structs_named h.form)) _ (any_unknown (trait_names lines) (traits_named h.form) h.unknown))))
