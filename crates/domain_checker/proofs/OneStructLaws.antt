-- Structs that are looked at one after the other.
use Rattle.std.proofs.Common.{◌≡◌, ℕ, ◌==◌, ap, sym, ◌∙◌, Bool, true, false, ◌&&◌, List, [], ◌∷◌, ◌++◌, fold, append_assoc, refl, if◌then◌else◌}
use Rattle.std.specs.List.{list_all, zip}
use Rattle.std.proofs.lemmas.List.{append-nil}
use Rattle.rl_defs.specs.declared.tables.Kind.{Kind}
use Rattle.rl_defs.specs.declared.tables.Kind.TheVariants as kind
use Rattle.rl_defs.specs.declared.tables.MethodRow.{MethodRow}
use Rattle.rl_defs.specs.NativeShapes as wanted
use Rattle.rl_defs.specs.NativeShapes.{same_role, put_where, struct_at, structs_for, structs_in, are_one}
use Rattle.domain_checker.specs.declared.native.Shape.{Shape}
use Rattle.domain_checker.specs.declared.native.MethodShape.{MethodShape}
use Rattle.domain_checker.specs.declared.native.Found.{Found}
use Rattle.domain_checker.specs.declared.native.Found.TheVariants.{Nothing, One, Different}
use Rattle.domain_checker.specs.Shapes.{shape_meant, shapes_meant, method_meant, methods_meant}
use Rattle.domain_checker.specs.OneStruct.{with_struct, with_all, is_one}

pub with_append : (found : Found) (xs ys : List ℕ) → with_all found (xs ++ ys) ≡ with_all (with_all found xs) ys
with_append found [] ys = refl
with_append found (x ∷ xs) ys = with_append (with_struct found x) xs ys

where_front : (b : Bool) (s : ℕ) (found : Found) (others : List ℕ) → with_all (with_all found (put_where b s [])) others ≡ with_all found (put_where b s others)
where_front true s found others = refl
where_front false s found others = refl

-- the struct at one place, before those at others
place_front : (role : wanted.Role) (shape : wanted.Shape) (k : Kind) (found : Found) (others : List ℕ) → with_all (with_all found (struct_at role shape k [])) others ≡ with_all found (struct_at role shape k others)
place_front role (wanted.IsNumber w) k found others = refl
place_front role (wanted.Passes r) (kind.Num w) found others = refl
place_front role (wanted.Passes r) (kind.Own s) found others = where_front (same_role role r) s found others
place_front role (wanted.Passes r) (kind.Lent s) found others = refl
place_front role (wanted.Passes r) (kind.Cap t) found others = refl
place_front role (wanted.Lends r) (kind.Num w) found others = refl
place_front role (wanted.Lends r) (kind.Own s) found others = refl
place_front role (wanted.Lends r) (kind.Lent s) found others = where_front (same_role role r) s found others
place_front role (wanted.Lends r) (kind.Cap t) found others = refl

pub places_fold : (role : wanted.Role) (shapes : List Shape) (kinds : List Kind) (found : Found) → fold (λ f p. with_all f (structs_for role (shape_meant p.0 ∷ []) (p.1 ∷ []))) found (zip shapes kinds) ≡ with_all found (structs_for role (shapes_meant shapes) kinds)
places_fold role [] kinds found = refl
places_fold role (s ∷ ss) [] found = refl
places_fold role (s ∷ ss) (k ∷ ks) found =
    places_fold role ss ks (with_all found (struct_at role (shape_meant s) k []))
    ∙ place_front role (shape_meant s) k found (structs_for role (shapes_meant ss) ks)

-- the structs in one method
abbrev of_method : wanted.Role → MethodShape → MethodRow → List ℕ
of_method role s row = structs_in role (method_meant s ∷ []) (row ∷ [])

of_method_before : (xs ys others : List ℕ) → (xs ++ (ys ++ [])) ++ others ≡ xs ++ (ys ++ others)
of_method_before xs ys others = ap (λ zs. (xs ++ zs) ++ others) (append-nil ys) ∙ append_assoc xs ys others

pub methods_fold : (role : wanted.Role) (shapes : List MethodShape) (rows : List MethodRow) (found : Found) → fold (λ f p. with_all f (structs_in role (method_meant p.0 ∷ []) (p.1 ∷ []))) found (zip shapes rows) ≡ with_all found (structs_in role (methods_meant shapes) rows)
methods_fold role [] rows found = refl
methods_fold role (s ∷ ss) [] found = refl
methods_fold role (s ∷ ss) (row ∷ rows) found =
    methods_fold role ss rows (with_all found (of_method role s row))
    ∙ (sym (with_append found (of_method role s row) (structs_in role (methods_meant ss) rows))
    ∙ ap (with_all found) (of_method_before (structs_for role (shapes_meant s.params.now) row.params) (structs_for role (shapes_meant s.results.now) row.results) (structs_in role (methods_meant ss) rows)))

-- the structs in one method: its parameters, then its results
pub in_method : (role : wanted.Role) (params results : List Shape) (ps rs : List Kind) (found between last : Found)
    → between ≡ fold (λ f p. with_all f (structs_for role (shape_meant p.0 ∷ []) (p.1 ∷ []))) found (zip params ps)
    → last ≡ fold (λ f p. with_all f (structs_for role (shape_meant p.0 ∷ []) (p.1 ∷ []))) between (zip results rs)
    → last ≡ with_all found (structs_for role (shapes_meant params) ps ++ (structs_for role (shapes_meant results) rs ++ []))
in_method role params results ps rs found between last first second =
    second ∙ (places_fold role results rs between
    ∙ (ap (λ f. with_all f (structs_for role (shapes_meant results) rs)) (first ∙ places_fold role params ps found)
    ∙ (sym (with_append found (structs_for role (shapes_meant params) ps) (structs_for role (shapes_meant results) rs))
    ∙ ap (λ ys. with_all found (structs_for role (shapes_meant params) ps ++ ys)) (sym (append-nil (structs_for role (shapes_meant results) rs))))))

stays_different : (others : List ℕ) → is_one (with_all Different others) ≡ false
stays_different [] = refl
stays_different (s ∷ others) = stays_different others

next_one : (b rest : Bool) (s : ℕ) (others : List ℕ) → is_one (with_all (One s) others) ≡ rest → is_one (with_all (if b then One s else Different) others) ≡ b && rest
next_one true rest s others e = e
next_one false rest s others e = stays_different others

stays_one : (s : ℕ) (others : List ℕ) → is_one (with_all (One s) others) ≡ list_all (λ t. t == s) others
stays_one s [] = refl
stays_one s (t ∷ others) = next_one (t == s) (list_all (λ t. t == s) others) s others (stays_one s others)

pub one_law : (all : List ℕ) → is_one (with_all Nothing all) ≡ are_one all
one_law [] = refl
one_law (s ∷ others) = stays_one s others

-- the structs in two traits
pub in_traits : (role : wanted.Role) (own theirs : List MethodShape) (own_rows their_rows : List MethodRow) (wanted_own wanted_theirs : List wanted.MethodShape) (between last : Found)
    → methods_meant own ≡ wanted_own
    → methods_meant theirs ≡ wanted_theirs
    → between ≡ fold (λ f p. with_all f (structs_in role (method_meant p.0 ∷ []) (p.1 ∷ []))) Nothing (zip own own_rows)
    → last ≡ fold (λ f p. with_all f (structs_in role (method_meant p.0 ∷ []) (p.1 ∷ []))) between (zip theirs their_rows)
    → is_one last ≡ are_one (structs_in role wanted_own own_rows ++ structs_in role wanted_theirs their_rows)
in_traits role own theirs own_rows their_rows wanted_own wanted_theirs between last own_is theirs_is first second =
    ap is_one
    (second ∙ (methods_fold role theirs their_rows between
    ∙ (ap (λ f. with_all f (structs_in role (methods_meant theirs) their_rows)) (first ∙ methods_fold role own own_rows Nothing)
    ∙ (sym (with_append Nothing (structs_in role (methods_meant own) own_rows) (structs_in role (methods_meant theirs) their_rows))
    ∙ (ap (λ shapes. with_all Nothing (structs_in role shapes own_rows ++ structs_in role (methods_meant theirs) their_rows)) own_is
    ∙ ap (λ shapes. with_all Nothing (structs_in role wanted_own own_rows ++ structs_in role shapes their_rows)) theirs_is)))))
    ∙ one_law (structs_in role wanted_own own_rows ++ structs_in role wanted_theirs their_rows)
