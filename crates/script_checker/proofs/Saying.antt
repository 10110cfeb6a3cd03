-- What is answered, line by line.
use Rattle.std.proofs.Common.{◌≡◌, ℕ, Bool, true, false, not, List, [], ◌∷◌, ◌++◌, Option, Some, None, Err, refl, sym, ap, subst, ◌∙◌, cond, append_assoc}
use Rattle.rl_defs.specs.declared.Refusal.{Refusal}
use Rattle.rl_defs.specs.declared.LoadFault.{LoadFault}
use Rattle.rl_defs.specs.declared.LoadFault.TheVariants.{Refused, Memory}
use Rattle.rl_defs.specs.declared.bundle.Numbered.{Numbered}
use Rattle.rl_defs.specs.declared.bundle.ClientLine.{ClientLine}
use Rattle.rl_defs.specs.declared.bundle.ClientLine.TheVariants as client
use Rattle.rl_defs.specs.declared.load.Command.{Command}
use Rattle.rl_defs.specs.declared.load.ClientRow.{ClientRow}
use Rattle.rl_defs.specs.declared.tables.Tables.{Tables}
use Rattle.rl_defs.specs.declared.bundle.Bundle.{Bundle}
use Rattle.rl_defs.specs.BundleNames.{ClientLines, commands_at}
use Rattle.rl_defs.specs.LoadOf.{commands_in}
use Rattle.script_checker.specs.Known.{Known, nothing, after}
use Rattle.script_checker.specs.Verdicts.{broken, refusal_at, first_of, verdict, commands_behind, script_verdict, verdict_of, row_before, rows_of, Says}

pub says_refused : {X : Type 0} (first : Option Refusal) (P : X → Type 0) (e : LoadFault) (line rule : ℕ) → e ≡ Refused (record { line = line; rule = rule }) → first ≡ Some (record { line = line; rule = rule }) → Says {X = X} first P (Err e)
says_refused {X} first P e line rule is h = let Q : LoadFault → Type 0 = λ x. Says {X = X} first P (Err x) in subst Q (sym is) h

-- an error that is answered to a part is answered to the whole
pub says_error : {X Y : Type 0} (first whole : Option Refusal) (P : X → Type 0) (Q : Y → Type 0) (e : LoadFault) → ((at : Refusal) → first ≡ Some at → whole ≡ Some at) → Says {X = X} first P (Err e) → Says {X = Y} whole Q (Err e)
says_error first whole P Q (Refused at) h says = h at says
says_error first whole P Q Memory h says = tt

pub refuses_50 : (line : ℕ) (kinds owned : Bool) → kinds ≡ false → refusal_at line (cond (not kinds) (Some 50) (cond (not owned) (Some 51) None)) ≡ Some (record { line = line; rule = 50 })
refuses_50 line true owned e = absurd cc
refuses_50 line false owned e = refl

pub refuses_51 : (line : ℕ) (kinds owned : Bool) → kinds ≡ true → owned ≡ false → refusal_at line (cond (not kinds) (Some 50) (cond (not owned) (Some 51) None)) ≡ Some (record { line = line; rule = 51 })
refuses_51 line true true e f = absurd cc
refuses_51 line true false e f = refl
refuses_51 line false owned e f = absurd cc

pub refuses_none : (line : ℕ) (kinds owned : Bool) → kinds ≡ true → owned ≡ true → refusal_at line (cond (not kinds) (Some 50) (cond (not owned) (Some 51) None)) ≡ None
refuses_none line true true e f = refl
refuses_none line true false e f = absurd cc
refuses_none line false owned e f = absurd cc

-- one line of a script
pub verdict_more : (tables : Tables) (b : Bundle) (k next : Known) (l : Numbered ClientLine) (ls rest : ClientLines) (total : Option Refusal) → ls ≡ l ∷ rest → verdict tables b k ls ≡ total → refusal_at l.line (broken tables b k l.form) ≡ None → next ≡ after tables b k l.form → verdict tables b next rest ≡ total
verdict_more tables b k next l ls rest total is h none step =
    ap (λ (n : Known). verdict tables b n rest) step
    ∙ ap (λ (o : Option Refusal). first_of o (verdict tables b (after tables b k l.form) rest)) (sym none)
    ∙ ap (λ (xs : ClientLines). verdict tables b k xs) (sym is)
    ∙ h

pub verdict_stops : (tables : Tables) (b : Bundle) (k : Known) (l : Numbered ClientLine) (ls rest : ClientLines) (total : Option Refusal) (at : Refusal) → ls ≡ l ∷ rest → verdict tables b k ls ≡ total → refusal_at l.line (broken tables b k l.form) ≡ Some at → total ≡ Some at
verdict_stops tables b k l ls rest total at is h some =
    sym h
    ∙ ap (λ (xs : ClientLines). verdict tables b k xs) is
    ∙ ap (λ (o : Option Refusal). first_of o (verdict tables b (after tables b k l.form) rest)) some

pub verdict_ends : (tables : Tables) (b : Bundle) (k : Known) (ls : ClientLines) (total : Option Refusal) → ls ≡ [] → verdict tables b k ls ≡ total → total ≡ None
verdict_ends tables b k ls total is h = sym h ∙ ap (λ (xs : ClientLines). verdict tables b k xs) is

pub commands_more : (tables : Tables) (b : Bundle) (k next : Known) (l : Numbered ClientLine) (ls rest : ClientLines) (old new total : List Command) → ls ≡ l ∷ rest → old ++ commands_behind tables b k ls ≡ total → next ≡ after tables b k l.form → new ≡ old ++ commands_in tables b next.names l.form → new ++ commands_behind tables b next rest ≡ total
commands_more tables b k next l ls rest old new total is h step more =
    ap (λ (cs : List Command). cs ++ commands_behind tables b next rest) more
    ∙ append_assoc old (commands_in tables b next.names l.form) (commands_behind tables b next rest)
    ∙ ap (λ (n : Known). old ++ (commands_in tables b n.names l.form ++ commands_behind tables b n rest)) step
    ∙ ap (λ (xs : ClientLines). old ++ commands_behind tables b k xs) (sym is)
    ∙ h

pub commands_end : (tables : Tables) (b : Bundle) (k : Known) (ls : ClientLines) (old total : List Command) → ls ≡ [] → old ++ commands_behind tables b k ls ≡ total → old ++ [] ≡ total
commands_end tables b k ls old total is h = ap (λ (xs : ClientLines). old ++ commands_behind tables b k xs) (sym is) ∙ h

-- one line of the clients
first_none : (o later : Option Refusal) → first_of o later ≡ first_of (first_of o None) later
first_none None later = refl
first_none (Some at) later = refl

later_verdict : (tables : Tables) (b : Bundle) (form : ClientLine) (ls : ClientLines) (later : Option Refusal) → script_verdict tables b form ls later ≡ first_of (script_verdict tables b form ls None) later
later_verdict tables b (client.Client name) ls later = first_none (verdict tables b nothing (commands_at ls)) later
later_verdict tables b (client.Let name ty values) ls later = refl
later_verdict tables b (client.Text name ty bytes) ls later = refl
later_verdict tables b (client.Call target method args names) ls later = refl
later_verdict tables b (client.Show name) ls later = refl
later_verdict tables b (client.Drop name) ls later = refl
later_verdict tables b (client.Kill target) ls later = refl
later_verdict tables b client.Close ls later = refl

later_rows : (tables : Tables) (b : Bundle) (form : ClientLine) (ls : ClientLines) (later : List ClientRow) → row_before tables b form ls later ≡ row_before tables b form ls [] ++ later
later_rows tables b (client.Client name) ls later = refl
later_rows tables b (client.Let name ty values) ls later = refl
later_rows tables b (client.Text name ty bytes) ls later = refl
later_rows tables b (client.Call target method args names) ls later = refl
later_rows tables b (client.Show name) ls later = refl
later_rows tables b (client.Drop name) ls later = refl
later_rows tables b (client.Kill target) ls later = refl
later_rows tables b client.Close ls later = refl

pub scripts_more : (tables : Tables) (b : Bundle) (l : Numbered ClientLine) (ls rest : ClientLines) (total : Option Refusal) → ls ≡ l ∷ rest → verdict_of tables b ls ≡ total → script_verdict tables b l.form rest None ≡ None → verdict_of tables b rest ≡ total
scripts_more tables b l ls rest total is h none =
    ap (λ (o : Option Refusal). first_of o (verdict_of tables b rest)) (sym none)
    ∙ sym (later_verdict tables b l.form rest (verdict_of tables b rest))
    ∙ ap (λ (xs : ClientLines). verdict_of tables b xs) (sym is)
    ∙ h

pub scripts_stop : (tables : Tables) (b : Bundle) (l : Numbered ClientLine) (ls rest : ClientLines) (total : Option Refusal) (at : Refusal) → ls ≡ l ∷ rest → verdict_of tables b ls ≡ total → script_verdict tables b l.form rest None ≡ Some at → total ≡ Some at
scripts_stop tables b l ls rest total at is h some =
    sym h
    ∙ ap (λ (xs : ClientLines). verdict_of tables b xs) is
    ∙ later_verdict tables b l.form rest (verdict_of tables b rest)
    ∙ ap (λ (o : Option Refusal). first_of o (verdict_of tables b rest)) some

pub rows_more : (tables : Tables) (b : Bundle) (l : Numbered ClientLine) (ls rest : ClientLines) (old new total : List ClientRow) → ls ≡ l ∷ rest → old ++ rows_of tables b ls ≡ total → new ≡ old ++ row_before tables b l.form rest [] → new ++ rows_of tables b rest ≡ total
rows_more tables b l ls rest old new total is h more =
    ap (λ (rs : List ClientRow). rs ++ rows_of tables b rest) more
    ∙ append_assoc old (row_before tables b l.form rest []) (rows_of tables b rest)
    ∙ ap (λ (rs : List ClientRow). old ++ rs) (sym (later_rows tables b l.form rest (rows_of tables b rest)))
    ∙ ap (λ (xs : ClientLines). old ++ rows_of tables b xs) (sym is)
    ∙ h
