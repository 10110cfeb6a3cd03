-- The scripts of the clients, line by line.
use Rattle.std.proofs.Common.{◌≡◌, ℕ, zero, suc, Bool, List, [], ◌∷◌, ◌++◌, take, Option, Some, None, ◌⊎◌, inl, inr, refl, sym, ap, subst, ◌∙◌, append_assoc}
use Rattle.std.specs.Prelude.{slice_get, IsTrue, fold, if◌then◌else◌}
use Rattle.std.proofs.lemmas.List.{append-nil}
use Rattle.rl_defs.specs.declared.bundle.Numbered.{Numbered}
use Rattle.rl_defs.specs.declared.bundle.ClientLine.{ClientLine}
use Rattle.rl_defs.specs.declared.bundle.ClientLine.TheVariants as client
use Rattle.rl_defs.specs.Parts.{next_open, forms_of, block_behind}
use Rattle.rl_defs.specs.BundleParts.{client_part, ClientBlock, Outside, InClient}
use Rattle.rl_defs.specs.BundleNames.{ClientLines, given_by, names_of, name_given, commands_at, scripts_of, script_before, ends_client}
use Rattle.bundle_names.specs.ClientNames.{bound_after}
use Rattle.bundle_names.proofs.Walking.{Meets}
use Rattle.bundle_names.proofs.Listing.{names_of_append}

-- a test of a command, by the names that the earlier ones of its script bind
abbrev pub Test : Type 0
Test = List (List ℕ) → ClientLine → Bool

-- a command of a script passes a test
pub record ScriptMeets (test : Test) (script : ClientLines) (n : ℕ) : Type 0 where
  pub place : ℕ
  pub form : ClientLine
  pub here : slice_get script place ≡ Some (record { line = n; form = form })
  pub holds : IsTrue (test (names_of (given_by name_given (take place script))) form)

-- a command of one of the scripts does
pub record SomeMeets (test : Test) (scripts : List ClientLines) (n : ℕ) : Type 0 where
  pub number : ℕ
  pub script : ClientLines
  pub there : slice_get scripts number ≡ Some script
  pub meets : ScriptMeets test script n

-- the test passes over what is no command
pub record SkipsHeads (test : Test) : Type 0 where
  pub heads : (bound : List (List ℕ)) (name : List ℕ) → IsTrue (test bound (client.Client name)) → ⊥
  pub closes : (bound : List (List ℕ)) → IsTrue (test bound client.Close) → ⊥

-- a command at a place does
pub from_place : (test : Test) (bound : List (List ℕ)) (script : ClientLines) (n place : ℕ) (f : ClientLine) → slice_get script place ≡ Some (record { line = n; form = f }) → IsTrue (test (bound ++ names_of (given_by name_given (take place script))) f) → Meets (λ b g. b ++ name_given g) test bound script n
from_place test bound [] n place f e h = absurd cc
from_place test bound (x ∷ xs) n zero f e h = inl (at x e) where
  at : (y : Numbered ClientLine) → Some y ≡ Some (record { line = n; form = f }) → (y.line ≡ n) × IsTrue (test bound y.form)
  at y g = let is : y ≡ record { line = n; form = f } = cc in rw is (refl, subst (λ (b : List (List ℕ)). IsTrue (test b f)) (append-nil bound) h)
from_place test bound (x ∷ xs) n (suc place) f e h = inr (from_place test (bound ++ name_given x.form) xs n place f e (subst (λ (b : List (List ℕ)). IsTrue (test b f)) (ap (λ (ns : List (List ℕ)). bound ++ ns) (names_of_append x.line (name_given x.form) (given_by name_given (take place xs))) ∙ sym (append_assoc bound (name_given x.form) (names_of (given_by name_given (take place xs))))) h))

pub record At (test : Test) (bound : List (List ℕ)) (script : ClientLines) (n : ℕ) : Type 0 where
  pub place : ℕ
  pub form : ClientLine
  pub here : slice_get script place ≡ Some (record { line = n; form = form })
  pub holds : IsTrue (test (bound ++ names_of (given_by name_given (take place script))) form)

pub to_place : (test : Test) (bound : List (List ℕ)) (script : ClientLines) (n : ℕ) → Meets (λ b g. b ++ name_given g) test bound script n → At test bound script n
to_place test bound [] n h = absurd h
to_place test bound (x ∷ xs) n (inl h) = record { place = 0; form = x.form; here = rw (sym h.0) refl; holds = subst (λ (b : List (List ℕ)). IsTrue (test b x.form)) (sym (append-nil bound)) h.1 }
to_place test bound (x ∷ xs) n (inr h) =
    let rest = to_place test (bound ++ name_given x.form) xs n h in
    record { place = suc rest.place; form = rest.form; here = rest.here; holds = subst (λ (b : List (List ℕ)). IsTrue (test b rest.form)) (append_assoc bound (name_given x.form) (names_of (given_by name_given (take rest.place xs))) ∙ ap (λ (ns : List (List ℕ)). bound ++ ns) (sym (names_of_append x.line (name_given x.form) (given_by name_given (take rest.place xs))))) rest.holds }

-- a command of the script that these lines go on with, or of a later script
abbrev pub Going : Test → ClientBlock → List (List ℕ) → ClientLines → ℕ → Type 0
Going test Outside bound lines n = SomeMeets test (scripts_of lines) n
Going test InClient bound lines n = Meets (λ b g. b ++ name_given g) test bound (commands_at lines) n ⊎ SomeMeets test (scripts_of lines) n

no_scripts_meet : (test : Test) (n : ℕ) → SomeMeets test [] n → ⊥
no_scripts_meet test n s = there s.number s.there where
  there : (k : ℕ) → slice_get {X = ClientLines} [] k ≡ Some s.script → ⊥
  there k e = absurd cc

-- the first script, or one of the others
first_script : (test : Test) (script : ClientLines) (scripts : List ClientLines) (n : ℕ) → SomeMeets test (script ∷ scripts) n → Meets (λ b g. b ++ name_given g) test [] script n ⊎ SomeMeets test scripts n
first_script test script scripts n s = by s.number s.there where
  by : (k : ℕ) → slice_get (script ∷ scripts) k ≡ Some s.script → Meets (λ b g. b ++ name_given g) test [] script n ⊎ SomeMeets test scripts n
  by zero e = let same : s.script ≡ script = cc in inl (subst (λ (c : ClientLines). Meets (λ b g. b ++ name_given g) test [] c n) same (from_place test [] s.script n s.meets.place s.meets.form s.meets.here s.meets.holds))
  by (suc k) e = inr (record { number = k; script = s.script; there = e; meets = s.meets })

script_first : (test : Test) (script : ClientLines) (scripts : List ClientLines) (n : ℕ) → Meets (λ b g. b ++ name_given g) test [] script n → SomeMeets test (script ∷ scripts) n
script_first test script scripts n h = let at = to_place test [] script n h in record { number = 0; script = script; there = refl; meets = record { place = at.place; form = at.form; here = at.here; holds = at.holds } }

script_later : (test : Test) (script : ClientLines) (scripts : List ClientLines) (n : ℕ) → SomeMeets test scripts n → SomeMeets test (script ∷ scripts) n
script_later test script scripts n s = record { number = suc s.number; script = s.script; there = s.there; meets = s.meets }

-- the block behind lines, from one that is open
abbrev pub ends_at : Option ClientBlock → ClientLines → Option ClientBlock
ends_at block [] = block
ends_at block (x ∷ xs) = ends_at (next_open client_part block x.form) xs

nothing_opens : (lines : ClientLines) → ends_at None lines ≡ None
nothing_opens [] = refl
nothing_opens (x ∷ xs) = nothing_opens xs

stuck : (lines : ClientLines) → ends_at None lines ≡ Some Outside → ⊥
stuck lines e = let both : None ≡ Some Outside = sym (nothing_opens lines) ∙ e in cc

-- what is shown of the lines behind one
abbrev GoingMeets : Test → ClientLines → ℕ → Type 0
GoingMeets test xs n = (block : ClientBlock) (bound : List (List ℕ)) → ends_at (Some block) xs ≡ Some Outside → Going test block bound xs n → Meets bound_after test bound xs n

abbrev MeetsGoing : Test → ClientLines → ℕ → Type 0
MeetsGoing test xs n = (block : ClientBlock) (bound : List (List ℕ)) → ends_at (Some block) xs ≡ Some Outside → Meets bound_after test bound xs n → Going test block bound xs n

outside_meets : (test : Test) (bound : List (List ℕ)) (line : ℕ) (f : ClientLine) (xs : ClientLines) (n : ℕ) → GoingMeets test xs n → ends_at (next_open client_part (Some Outside) f) xs ≡ Some Outside → SomeMeets test (script_before f (commands_at xs) (scripts_of xs)) n → ((line ≡ n) × IsTrue (test bound f)) ⊎ Meets bound_after test (bound_after bound f) xs n
outside_meets test bound line (client.Client name) xs n rest d s = inr (rest InClient [] d (first_script test (commands_at xs) (scripts_of xs) n s))
outside_meets test bound line (client.Let name ty values) xs n rest d s = absurd (stuck xs d)
outside_meets test bound line (client.Text name ty bytes) xs n rest d s = absurd (stuck xs d)
outside_meets test bound line (client.Call target method args names) xs n rest d s = absurd (stuck xs d)
outside_meets test bound line (client.Show name) xs n rest d s = absurd (stuck xs d)
outside_meets test bound line (client.Drop name) xs n rest d s = absurd (stuck xs d)
outside_meets test bound line (client.Kill target) xs n rest d s = absurd (stuck xs d)
outside_meets test bound line client.Close xs n rest d s = absurd (stuck xs d)

command_meets : (test : Test) (bound : List (List ℕ)) (line : ℕ) (f : ClientLine) (xs : ClientLines) (n : ℕ) → GoingMeets test xs n → ends_at (Some InClient) xs ≡ Some Outside → (((line ≡ n) × IsTrue (test bound f)) ⊎ Meets (λ b g. b ++ name_given g) test (bound ++ name_given f) (commands_at xs) n) ⊎ SomeMeets test (scripts_of xs) n → ((line ≡ n) × IsTrue (test bound f)) ⊎ Meets bound_after test (bound ++ name_given f) xs n
command_meets test bound line f xs n rest d (inl (inl p)) = inl p
command_meets test bound line f xs n rest d (inl (inr p)) = inr (rest InClient (bound ++ name_given f) d (inl p))
command_meets test bound line f xs n rest d (inr p) = inr (rest InClient (bound ++ name_given f) d (inr p))

-- the commands from a line on
abbrev commands_from : ℕ → ClientLine → ClientLines → ClientLines
commands_from line f xs = if ends_client f then [] else record { line = line; form = f } ∷ commands_at xs

inside_meets : (test : Test) (bound : List (List ℕ)) (line : ℕ) (f : ClientLine) (xs : ClientLines) (n : ℕ) → GoingMeets test xs n → ends_at (next_open client_part (Some InClient) f) xs ≡ Some Outside → Meets (λ b g. b ++ name_given g) test bound (commands_from line f xs) n ⊎ SomeMeets test (script_before f (commands_at xs) (scripts_of xs)) n → ((line ≡ n) × IsTrue (test bound f)) ⊎ Meets bound_after test (bound_after bound f) xs n
inside_meets test bound line (client.Client name) xs n rest d s = absurd (stuck xs d)
inside_meets test bound line (client.Let name ty values) xs n rest d s = command_meets test bound line (client.Let name ty values) xs n rest d s
inside_meets test bound line (client.Text name ty bytes) xs n rest d s = command_meets test bound line (client.Text name ty bytes) xs n rest d s
inside_meets test bound line (client.Call target method args names) xs n rest d s = command_meets test bound line (client.Call target method args names) xs n rest d s
inside_meets test bound line (client.Show name) xs n rest d s = command_meets test bound line (client.Show name) xs n rest d s
inside_meets test bound line (client.Drop name) xs n rest d s = command_meets test bound line (client.Drop name) xs n rest d s
inside_meets test bound line (client.Kill target) xs n rest d s = command_meets test bound line (client.Kill target) xs n rest d s
inside_meets test bound line client.Close xs n rest d s = inr (rest Outside (bound ++ []) d (elim s [ inl p ↦ absurd p | inr p ↦ p ]))

-- of lines in order, a command of a script passes the test where the line does, by what the lines before it left
pub going_meets : (test : Test) (block : ClientBlock) (bound : List (List ℕ)) (lines : ClientLines) (n : ℕ) → ends_at (Some block) lines ≡ Some Outside → Going test block bound lines n → Meets bound_after test bound lines n
going_meets test Outside bound [] n e h = absurd (no_scripts_meet test n h)
going_meets test InClient bound [] n e h = absurd cc
going_meets test Outside bound (x ∷ xs) n e h = outside_meets test bound x.line x.form xs n (λ block b d g. going_meets test block b xs n d g) e h
going_meets test InClient bound (x ∷ xs) n e h = inside_meets test bound x.line x.form xs n (λ block b d g. going_meets test block b xs n d g) e h

meets_outside : (test : Test) → SkipsHeads test → (bound : List (List ℕ)) (line : ℕ) (f : ClientLine) (xs : ClientLines) (n : ℕ) → MeetsGoing test xs n → ends_at (next_open client_part (Some Outside) f) xs ≡ Some Outside → ((line ≡ n) × IsTrue (test bound f)) ⊎ Meets bound_after test (bound_after bound f) xs n → SomeMeets test (script_before f (commands_at xs) (scripts_of xs)) n
meets_outside test skips bound line (client.Client name) xs n rest d (inl p) = absurd (skips.heads bound name p.1)
meets_outside test skips bound line (client.Client name) xs n rest d (inr p) = elim (rest InClient [] d p) [
  | inl q ↦ script_first test (commands_at xs) (scripts_of xs) n q
  | inr q ↦ script_later test (commands_at xs) (scripts_of xs) n q
]
meets_outside test skips bound line (client.Let name ty values) xs n rest d s = absurd (stuck xs d)
meets_outside test skips bound line (client.Text name ty bytes) xs n rest d s = absurd (stuck xs d)
meets_outside test skips bound line (client.Call target method args names) xs n rest d s = absurd (stuck xs d)
meets_outside test skips bound line (client.Show name) xs n rest d s = absurd (stuck xs d)
meets_outside test skips bound line (client.Drop name) xs n rest d s = absurd (stuck xs d)
meets_outside test skips bound line (client.Kill target) xs n rest d s = absurd (stuck xs d)
meets_outside test skips bound line client.Close xs n rest d s = absurd (stuck xs d)

meets_command : (test : Test) (bound : List (List ℕ)) (line : ℕ) (f : ClientLine) (xs : ClientLines) (n : ℕ) → MeetsGoing test xs n → ends_at (Some InClient) xs ≡ Some Outside → ((line ≡ n) × IsTrue (test bound f)) ⊎ Meets bound_after test (bound ++ name_given f) xs n → (((line ≡ n) × IsTrue (test bound f)) ⊎ Meets (λ b g. b ++ name_given g) test (bound ++ name_given f) (commands_at xs) n) ⊎ SomeMeets test (scripts_of xs) n
meets_command test bound line f xs n rest d (inl p) = inl (inl p)
meets_command test bound line f xs n rest d (inr p) = elim (rest InClient (bound ++ name_given f) d p) [ inl q ↦ inl (inr q) | inr q ↦ inr q ]

meets_inside : (test : Test) → SkipsHeads test → (bound : List (List ℕ)) (line : ℕ) (f : ClientLine) (xs : ClientLines) (n : ℕ) → MeetsGoing test xs n → ends_at (next_open client_part (Some InClient) f) xs ≡ Some Outside → ((line ≡ n) × IsTrue (test bound f)) ⊎ Meets bound_after test (bound_after bound f) xs n → Meets (λ b g. b ++ name_given g) test bound (commands_from line f xs) n ⊎ SomeMeets test (script_before f (commands_at xs) (scripts_of xs)) n
meets_inside test skips bound line (client.Client name) xs n rest d s = absurd (stuck xs d)
meets_inside test skips bound line (client.Let name ty values) xs n rest d s = meets_command test bound line (client.Let name ty values) xs n rest d s
meets_inside test skips bound line (client.Text name ty bytes) xs n rest d s = meets_command test bound line (client.Text name ty bytes) xs n rest d s
meets_inside test skips bound line (client.Call target method args names) xs n rest d s = meets_command test bound line (client.Call target method args names) xs n rest d s
meets_inside test skips bound line (client.Show name) xs n rest d s = meets_command test bound line (client.Show name) xs n rest d s
meets_inside test skips bound line (client.Drop name) xs n rest d s = meets_command test bound line (client.Drop name) xs n rest d s
meets_inside test skips bound line (client.Kill target) xs n rest d s = meets_command test bound line (client.Kill target) xs n rest d s
meets_inside test skips bound line client.Close xs n rest d (inl p) = absurd (skips.closes bound p.1)
meets_inside test skips bound line client.Close xs n rest d (inr p) = inr (rest Outside (bound ++ []) d p)

pub meets_going : (test : Test) → SkipsHeads test → (block : ClientBlock) (bound : List (List ℕ)) (lines : ClientLines) (n : ℕ) → ends_at (Some block) lines ≡ Some Outside → Meets bound_after test bound lines n → Going test block bound lines n
meets_going test skips block bound [] n e h = absurd h
meets_going test skips Outside bound (x ∷ xs) n e h = meets_outside test skips bound x.line x.form xs n (λ block b d g. meets_going test skips block b xs n d g) e h
meets_going test skips InClient bound (x ∷ xs) n e h = meets_inside test skips bound x.line x.form xs n (λ block b d g. meets_going test skips block b xs n d g) e h

-- the grammar's block behind the lines
behind : (block : Option ClientBlock) (lines : ClientLines) → fold (next_open client_part) block (forms_of lines) ≡ ends_at block lines
behind block [] = refl
behind block (x ∷ xs) = behind (next_open client_part block x.form) xs

pub in_order : (lines : ClientLines) → block_behind client_part (forms_of lines) ≡ Some client_part.outside → ends_at (Some Outside) lines ≡ Some Outside
in_order lines e = sym (behind (Some Outside) lines) ∙ e
