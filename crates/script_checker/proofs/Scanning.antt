-- The first refusal in a script, place by place.
use Rattle.std.proofs.Common.{◌≡◌, ℕ, suc, Bool, true, false, not, List, [], ◌∷◌, ◌++◌, length, Option, Some, None, refl, sym, ap, ◌∙◌, cond, map, take, append_assoc}
use Rattle.std.specs.List.{flat_map}
use Rattle.std.proofs.lemmas.List.{append-nil, map-append}
use Rattle.std.proofs.lemmas.Grind.{flat_map-append}
use Rattle.std.proofs.Math.Seq.{take-append_seam}
use Rattle.rl_defs.specs.declared.Refusal.{Refusal}
use Rattle.rl_defs.specs.declared.bundle.Numbered.{Numbered}
use Rattle.rl_defs.specs.declared.bundle.ClientLine.{ClientLine}
use Rattle.rl_defs.specs.declared.load.Command.{Command}
use Rattle.rl_defs.specs.declared.tables.Tables.{Tables}
use Rattle.rl_defs.specs.declared.bundle.Bundle.{Bundle}
use Rattle.rl_defs.specs.BundleNames.{ClientLines, given_by, names_of, name_given}
use Rattle.rl_defs.specs.ScriptRules.{Bound, binds, bound_before, gone_before, gone_by, keeps_kinds, keeps_owned}
use Rattle.rl_defs.specs.LoadOf.{commands_in, commands_of, script_names}
use Rattle.script_checker.specs.Known.{Known, nothing, after}
use Rattle.script_checker.specs.Verdicts.{broken, refusal_at, first_of, verdict, commands_behind}
use Rattle.script_checker.proofs.Gathering.{given_more, given_append}
use Rattle.script_checker.proofs.Keeping.{gone_same, given_bound, command_same}

-- whether the line at a place of a script keeps rule 50, and rule 51
abbrev pub kinds_kept : Tables → Bundle → ClientLines → ℕ → ClientLine → Bool
kinds_kept tables b script place form = keeps_kinds tables b (bound_before tables b script place) form

abbrev pub owned_kept : Tables → Bundle → ClientLines → ℕ → ClientLine → Bool
owned_kept tables b script place form = keeps_owned (bound_before tables b script place) (gone_before tables b script place) form

abbrev pub failing : Bool → Bool → Option ℕ
failing kinds owned = cond (not kinds) (Some 50) (cond (not owned) (Some 51) None)

-- the first refusal from a place of a script on
abbrev pub scan : Tables → Bundle → ClientLines → ℕ → ClientLines → Option Refusal
scan tables b script place [] = None
scan tables b script place (l ∷ ls) = first_of (refusal_at l.line (failing (kinds_kept tables b script place l.form) (owned_kept tables b script place l.form))) (scan tables b script (suc place) ls)

-- what is known behind the first lines of a script
pub record Stands (tables : Tables) (b : Bundle) (script before rest : ClientLines) (k : Known) : Type 0 where
  pub whole : script ≡ before ++ rest
  pub bound : k.bound ≡ flat_map (λ l. binds tables b l.form) before
  pub gone : k.gone ≡ flat_map (λ l. gone_by (flat_map (λ x. binds tables b x.form) script) l.form) before
  pub names : k.names ≡ map (λ x. x.name) k.bound
  pub given : k.names ≡ names_of (given_by name_given before)

pub stands_first : (tables : Tables) (b : Bundle) (script : ClientLines) → Stands tables b script [] script nothing
stands_first tables b script = record { whole = refl; bound = refl; gone = refl; names = refl; given = refl }

seam : (script before rest : ClientLines) → script ≡ before ++ rest → take (length before) script ≡ before
seam script before rest e = ap (take (length before)) e ∙ take-append_seam before rest

bound_here : (tables : Tables) (b : Bundle) (script before rest : ClientLines) (k : Known) → Stands tables b script before rest k → bound_before tables b script (length before) ≡ k.bound
bound_here tables b script before rest k h = ap (flat_map (λ (l : Numbered ClientLine). binds tables b l.form)) (seam script before rest h.whole) ∙ sym h.bound

gone_here : (tables : Tables) (b : Bundle) (script before rest : ClientLines) (k : Known) → Stands tables b script before rest k → gone_before tables b script (length before) ≡ k.gone
gone_here tables b script before rest k h = ap (flat_map (λ (l : Numbered ClientLine). gone_by (flat_map (λ x. binds tables b x.form) script) l.form)) (seam script before rest h.whole) ∙ sym h.gone

broken_here : (tables : Tables) (b : Bundle) (script before rest : ClientLines) (k : Known) (form : ClientLine) → Stands tables b script before rest k → broken tables b k form ≡ failing (kinds_kept tables b script (length before) form) (owned_kept tables b script (length before) form)
broken_here tables b script before rest k form h =
    ap (λ (bs : List Bound). failing (keeps_kinds tables b bs form) (keeps_owned bs k.gone form)) (sym (bound_here tables b script before rest k h))
    ∙ ap (λ (gs : List (List ℕ)). failing (keeps_kinds tables b (bound_before tables b script (length before)) form) (keeps_owned (bound_before tables b script (length before)) gs form)) (sym (gone_here tables b script before rest k h))

pub kept_kinds : (kinds owned : Bool) → failing kinds owned ≡ None → kinds ≡ true
kept_kinds true owned e = refl
kept_kinds false owned e = absurd cc

flat_one : {A : Type 0} (f : Numbered ClientLine → List A) (before : ClientLines) (l : Numbered ClientLine) → flat_map f (before ++ l ∷ []) ≡ flat_map f before ++ f l
flat_one f before l = flat_map-append f before (l ∷ []) ∙ ap (λ xs. flat_map f before ++ xs) (append-nil (f l))

-- one line more, which keeps rule 50
pub stands_more : (tables : Tables) (b : Bundle) (script before rest : ClientLines) (l : Numbered ClientLine) (k : Known) → Stands tables b script before (l ∷ rest) k → keeps_kinds tables b k.bound l.form ≡ true → Stands tables b script (before ++ l ∷ []) rest (after tables b k l.form)
stands_more tables b script before rest l k h kept =
    let all : flat_map (λ (x : Numbered ClientLine). binds tables b x.form) script ≡ k.bound ++ flat_map (λ (x : Numbered ClientLine). binds tables b x.form) (l ∷ rest) =
    ap (flat_map (λ (x : Numbered ClientLine). binds tables b x.form)) h.whole
    ∙ flat_map-append (λ (x : Numbered ClientLine). binds tables b x.form) before (l ∷ rest)
    ∙ ap (λ (bs : List Bound). bs ++ flat_map (λ (x : Numbered ClientLine). binds tables b x.form) (l ∷ rest)) (sym h.bound) in
    let gone : gone_by (flat_map (λ (x : Numbered ClientLine). binds tables b x.form) script) l.form ≡ gone_by k.bound l.form =
    ap (λ (bs : List Bound). gone_by bs l.form) all ∙ gone_same tables b k.bound (flat_map (λ (x : Numbered ClientLine). binds tables b x.form) (l ∷ rest)) l.form kept in
    record {
      whole = h.whole ∙ sym (append_assoc before (l ∷ []) rest);
      bound = ap (λ (bs : List Bound). bs ++ binds tables b l.form) h.bound ∙ sym (flat_one (λ (x : Numbered ClientLine). binds tables b x.form) before l);
      gone =
          ap (λ (gs : List (List ℕ)). k.gone ++ gs) (sym gone)
          ∙ ap (λ (gs : List (List ℕ)). gs ++ gone_by (flat_map (λ (x : Numbered ClientLine). binds tables b x.form) script) l.form) h.gone
          ∙ sym (flat_one (λ (x : Numbered ClientLine). gone_by (flat_map (λ y. binds tables b y.form) script) x.form) before l);
      names =
          ap (λ (ns : List (List ℕ)). ns ++ name_given l.form) h.names
          ∙ ap (λ (ns : List (List ℕ)). map (λ (x : Bound). x.name) k.bound ++ ns) (sym (given_bound tables b k.bound l.form kept))
          ∙ sym (map-append (λ (x : Bound). x.name) k.bound (binds tables b l.form));
      given =
          ap (λ (ns : List (List ℕ)). ns ++ name_given l.form) h.given
          ∙ ap (λ (ns : List (List ℕ)). names_of (given_by name_given before) ++ ns) (sym (given_more name_given l [] ∙ append-nil (name_given l.form)))
          ∙ sym (given_append name_given before (l ∷ []));
    }

first_same : (n : ℕ) (o : Option ℕ) (x y : Option Refusal) → (o ≡ None → x ≡ y) → first_of (refusal_at n o) x ≡ first_of (refusal_at n o) y
first_same n None x y h = h refl
first_same n (Some r) x y h = refl

long_one : (before : ClientLines) (l : Numbered ClientLine) → length (before ++ l ∷ []) ≡ suc (length before)
long_one [] l = refl
long_one (x ∷ xs) l = ap (λ (n : ℕ). suc n) (long_one xs l)

-- the first refusal, line by line, is that place by place
pub same_scan : (tables : Tables) (b : Bundle) (script before rest : ClientLines) (k : Known) → Stands tables b script before rest k → verdict tables b k rest ≡ scan tables b script (length before) rest
same_scan tables b script before [] k h = refl
same_scan tables b script before (l ∷ ls) k h =
    first_same l.line (broken tables b k l.form) (verdict tables b (after tables b k l.form) ls) (scan tables b script (suc (length before)) ls)
    (λ e.
    same_scan tables b script (before ++ l ∷ []) ls (after tables b k l.form) (stands_more tables b script before ls l k h (kept_kinds (keeps_kinds tables b k.bound l.form) (keeps_owned k.bound k.gone l.form) e))
    ∙ ap (λ (n : ℕ). scan tables b script n ls) (long_one before l))
    ∙ ap (λ (o : Option ℕ). first_of (refusal_at l.line o) (scan tables b script (suc (length before)) ls)) (broken_here tables b script before (l ∷ ls) k l.form h)

pub none_first : (n : ℕ) (o : Option ℕ) (later : Option Refusal) → first_of (refusal_at n o) later ≡ None → (o ≡ None) × (later ≡ None)
none_first n None later e = (refl, e)
none_first n (Some r) later e = absurd cc

-- a script in which nothing is refused stands for its commands
pub commands_stand : (tables : Tables) (b : Bundle) (script before rest : ClientLines) (k : Known) → Stands tables b script before rest k → verdict tables b k rest ≡ None → commands_behind tables b k rest ≡ flat_map (λ l. commands_in tables b (script_names script) l.form) rest
commands_stand tables b script before [] k h e = refl
commands_stand tables b script before (l ∷ ls) k h e =
    let kept = none_first l.line (broken tables b k l.form) (verdict tables b (after tables b k l.form) ls) e in
    let kinds : keeps_kinds tables b k.bound l.form ≡ true = kept_kinds (keeps_kinds tables b k.bound l.form) (keeps_owned k.bound k.gone l.form) kept.0 in
    let names : script_names script ≡ (k.names ++ name_given l.form) ++ names_of (given_by name_given ls) =
    ap (λ (ls : ClientLines). names_of (given_by name_given ls)) h.whole
    ∙ given_append name_given before (l ∷ ls)
    ∙ ap (λ (ns : List (List ℕ)). names_of (given_by name_given before) ++ ns) (given_more name_given l ls)
    ∙ sym (append_assoc (names_of (given_by name_given before)) (name_given l.form) (names_of (given_by name_given ls)))
    ∙ ap (λ (ns : List (List ℕ)). (ns ++ name_given l.form) ++ names_of (given_by name_given ls)) (sym h.given) in
    ap (λ (cs : List Command). cs ++ commands_behind tables b (after tables b k l.form) ls) (command_same tables b k.bound k.names (names_of (given_by name_given ls)) l.form h.names kinds ∙ ap (λ (ns : List (List ℕ)). commands_in tables b ns l.form) (sym names))
    ∙ ap (λ (cs : List Command). commands_in tables b (script_names script) l.form ++ cs) (commands_stand tables b script (before ++ l ∷ []) ls (after tables b k l.form) (stands_more tables b script before ls l k h kinds) kept.1)

pub script_stands : (tables : Tables) (b : Bundle) (script : ClientLines) → verdict tables b nothing script ≡ None → commands_behind tables b nothing script ≡ commands_of tables b script
script_stands tables b script e = commands_stand tables b script [] script nothing (stands_first tables b script) e

pub script_scan : (tables : Tables) (b : Bundle) (script : ClientLines) → verdict tables b nothing script ≡ scan tables b script 0 script
script_scan tables b script = same_scan tables b script [] script nothing (stands_first tables b script)
