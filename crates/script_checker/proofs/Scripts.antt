-- The first refusal in all scripts.
use Rattle.std.proofs.Common.{◌≡◌, ℕ, zero, suc, ◌+◌, ◌<◌, ◌⊎◌, inl, inr, List, [], ◌∷◌, ◌++◌, Option, Some, None, Result, Ok, Err, refl, sym, ap, subst, ◌∙◌, arith}
use Rattle.std.specs.Prelude.{slice_get, fold}
use Rattle.std.specs.List.{flat_map}
use Rattle.rl_defs.specs.declared.Refusal.{Refusal}
use Rattle.rl_defs.specs.declared.LoadFault.{LoadFault}
use Rattle.rl_defs.specs.declared.LoadFault.TheVariants.{Refused, Memory}
use Rattle.rl_defs.specs.declared.bundle.ClientLine.{ClientLine}
use Rattle.rl_defs.specs.declared.bundle.ClientLine.TheVariants as client
use Rattle.rl_defs.specs.declared.load.ClientRow.{ClientRow}
use Rattle.rl_defs.specs.declared.load.Command.{Command}
use Rattle.rl_defs.specs.declared.tables.Tables.{Tables}
use Rattle.rl_defs.specs.declared.bundle.Bundle.{Bundle}
use Rattle.rl_defs.specs.Refusals.{Failing, IsFirst, Nowhere, Answers}
use Rattle.rl_defs.specs.Parts.{forms_of, next_open}
use Rattle.rl_defs.specs.BundleParts.{ClientBlock, Outside, InClient, client_part}
use Rattle.rl_defs.specs.BundleNames.{ClientLines, given_by, names_of, client_given, commands_at, scripts_of}
use Rattle.rl_defs.specs.BundleOrder.{Rise, numbers_of, line_numbers, IsOrdered}
use Rattle.rl_defs.specs.NameRules.{CommandAt}
use Rattle.rl_defs.specs.ScriptRules.{FailsScripts}
use Rattle.rl_defs.specs.LoadOf.{client_rows, clients_of}
use Rattle.script_checker.specs.Known.{nothing}
use Rattle.script_checker.specs.Verdicts.{first_of, verdict, verdict_of, rows_of, script_verdict, row_before, Says}
use Rattle.script_checker.proofs.Scanning.{script_scan, script_stands}
use Rattle.script_checker.proofs.FirstLine.{BreaksAt, FailsFrom, FailsHere, IsBelow, Rising, scan_none, scan_some, fails_below, fails_at, fails_here}

-- a line of a script fails
abbrev pub FailsScript : Tables → Bundle → ClientLines → Failing
FailsScript tables b script n rule = FailsFrom tables b script 0 script n rule

-- a line of some script fails
abbrev FailsWith : Tables → Bundle → ClientLine → ClientLines → Failing → Failing
FailsWith tables b (client.Client name) ls others n rule = FailsScript tables b (commands_at ls) n rule ⊎ others n rule
FailsWith tables b _ ls others n rule = others n rule

abbrev pub FailsAmong : Tables → Bundle → ClientLines → Failing
FailsAmong tables b [] n rule = ⊥
FailsAmong tables b (l ∷ ls) n rule = FailsWith tables b l.form ls (FailsAmong tables b ls) n rule

-- up to the end of a client stands no head of another
abbrev HeadFreeWith : ClientLine → Type 0 → Type 0
HeadFreeWith (client.Client name) later = ⊥
HeadFreeWith client.Close later = Unit {0}
HeadFreeWith _ later = later

abbrev HeadFree : ClientLines → Type 0
HeadFree [] = Unit {0}
HeadFree (l ∷ ls) = HeadFreeWith l.form (HeadFree ls)

abbrev ClosedWith : ClientLine → Type 0 → Type 0
ClosedWith (client.Client name) free = free
ClosedWith _ free = Unit {0}

abbrev pub Closed : ClientLines → Type 0
Closed [] = Unit {0}
Closed (l ∷ ls) = ClosedWith l.form (HeadFree ls) × Closed ls

abbrev Behind : Option ClientBlock → ClientLines → Type 0
Behind o ls = fold (next_open client_part) o (forms_of ls) ≡ Some Outside

none_stays : (ls : ClientLines) → Behind None ls → ⊥
none_stays [] e = cc
none_stays (l ∷ ls) e = none_stays ls e

free_line : (n : ℕ) (form : ClientLine) (ls : ClientLines) → (Behind (Some InClient) ls → HeadFree ls) → Behind (Some InClient) (record { line = n; form = form } ∷ ls) → HeadFreeWith form (HeadFree ls)
free_line n (client.Client name) ls h e = none_stays ls e
free_line n (client.Let name ty values) ls h e = h e
free_line n (client.Text name ty bytes) ls h e = h e
free_line n (client.Call target method args names) ls h e = h e
free_line n (client.Show name) ls h e = h e
free_line n (client.Drop name) ls h e = h e
free_line n (client.Kill target) ls h e = h e
free_line n client.Close ls h e = tt

head_free : (ls : ClientLines) → Behind (Some InClient) ls → HeadFree ls
head_free [] e = tt
head_free (l ∷ ls) e = free_line l.line l.form ls (λ f. head_free ls f) e

closed_head : (o : Option ClientBlock) (n : ℕ) (name : List ℕ) (ls : ClientLines) → Behind o (record { line = n; form = client.Client name } ∷ ls) → HeadFree ls
closed_head None n name ls e = absurd (none_stays ls e)
closed_head (Some Outside) n name ls e = head_free ls e
closed_head (Some InClient) n name ls e = absurd (none_stays ls e)

closed_line : (o : Option ClientBlock) (n : ℕ) (form : ClientLine) (ls : ClientLines) → Behind o (record { line = n; form = form } ∷ ls) → ClosedWith form (HeadFree ls)
closed_line o n (client.Client name) ls e = closed_head o n name ls e
closed_line o n (client.Let name ty values) ls e = tt
closed_line o n (client.Text name ty bytes) ls e = tt
closed_line o n (client.Call target method args names) ls e = tt
closed_line o n (client.Show name) ls e = tt
closed_line o n (client.Drop name) ls e = tt
closed_line o n (client.Kill target) ls e = tt
closed_line o n client.Close ls e = tt

-- lines in the order of clients
pub closed : (o : Option ClientBlock) (ls : ClientLines) → Behind o ls → Closed ls
closed o [] e = tt
closed o (l ∷ ls) e = (closed_line o l.line l.form ls e, closed (next_open client_part o l.form) ls e)

-- the lines of a script are among the lines behind its head
below_commands : (m : ℕ) (ls : ClientLines) → IsBelow m ls → IsBelow m (commands_at ls)
below_commands m [] h = tt
below_commands m (l ∷ ls) h = at l.line l.form h.0 (below_commands m ls h.1) where
  at : (n : ℕ) (form : ClientLine) → m < n → IsBelow m (commands_at ls) → IsBelow m (commands_at (record { line = n; form = form } ∷ ls))
  at n (client.Client name) lt h = (lt, h)
  at n (client.Let name ty values) lt h = (lt, h)
  at n (client.Text name ty bytes) lt h = (lt, h)
  at n (client.Call target method args names) lt h = (lt, h)
  at n (client.Show name) lt h = (lt, h)
  at n (client.Drop name) lt h = (lt, h)
  at n (client.Kill target) lt h = (lt, h)
  at n client.Close lt h = tt

rising_line : (n : ℕ) (form : ClientLine) (ls : ClientLines) → IsBelow n (commands_at ls) → Rising (commands_at ls) → Rising (commands_at (record { line = n; form = form } ∷ ls))
rising_line n (client.Client name) ls lt h = (lt, h)
rising_line n (client.Let name ty values) ls lt h = (lt, h)
rising_line n (client.Text name ty bytes) ls lt h = (lt, h)
rising_line n (client.Call target method args names) ls lt h = (lt, h)
rising_line n (client.Show name) ls lt h = (lt, h)
rising_line n (client.Drop name) ls lt h = (lt, h)
rising_line n (client.Kill target) ls lt h = (lt, h)
rising_line n client.Close ls lt h = tt

pub rising_commands : (ls : ClientLines) → Rising ls → Rising (commands_at ls)
rising_commands [] h = tt
rising_commands (l ∷ ls) h = rising_line l.line l.form ls (below_commands l.line ls h.0) (rising_commands ls h.1)

among_line : (tables : Tables) (b : Bundle) (m n rule : ℕ) (form : ClientLine) (ls : ClientLines) → IsBelow m ls → (FailsAmong tables b ls n rule → m < n) → FailsWith tables b form ls (FailsAmong tables b ls) n rule → m < n
among_line tables b m n rule (client.Client name) ls h later f = elim f [ inl a ↦ fails_below tables b (commands_at ls) 0 (commands_at ls) m n rule (below_commands m ls h) a | inr g ↦ later g ]
among_line tables b m n rule (client.Let name ty values) ls h later f = later f
among_line tables b m n rule (client.Text name ty bytes) ls h later f = later f
among_line tables b m n rule (client.Call target method args names) ls h later f = later f
among_line tables b m n rule (client.Show name) ls h later f = later f
among_line tables b m n rule (client.Drop name) ls h later f = later f
among_line tables b m n rule (client.Kill target) ls h later f = later f
among_line tables b m n rule client.Close ls h later f = later f

among_below : (tables : Tables) (b : Bundle) (m n rule : ℕ) (ls : ClientLines) → IsBelow m ls → FailsAmong tables b ls n rule → m < n
among_below tables b m n rule [] h f = absurd f
among_below tables b m n rule (l ∷ ls) h f = among_line tables b m n rule l.form ls h.1 (λ g. among_below tables b m n rule ls h.1 g) f

-- what fails in a script stands before what fails in the later ones
before_line : (tables : Tables) (b : Bundle) (script : ClientLines) (place m r n s k : ℕ) (form : ClientLine) (ls : ClientLines) → IsBelow k ls → (HeadFree ls → FailsFrom tables b script (suc place) (commands_at ls) m r → FailsAmong tables b ls n s → m < n) → HeadFreeWith form (HeadFree ls) → FailsFrom tables b script place (commands_at (record { line = k; form = form } ∷ ls)) m r → FailsWith tables b form ls (FailsAmong tables b ls) n s → m < n
before_line tables b script place m r n s k (client.Client name) ls h later free f g = absurd free
before_line tables b script place m r n s k client.Close ls h later free f g = absurd f
before_line tables b script place m r n s k (client.Let name ty values) ls h later free f g = elim f [ inl a ↦ omega (arith, a.0, among_below tables b k n s ls h g) | inr e ↦ later free e g ]
before_line tables b script place m r n s k (client.Text name ty bytes) ls h later free f g = elim f [ inl a ↦ omega (arith, a.0, among_below tables b k n s ls h g) | inr e ↦ later free e g ]
before_line tables b script place m r n s k (client.Call target method args names) ls h later free f g = elim f [ inl a ↦ omega (arith, a.0, among_below tables b k n s ls h g) | inr e ↦ later free e g ]
before_line tables b script place m r n s k (client.Show name) ls h later free f g = elim f [ inl a ↦ omega (arith, a.0, among_below tables b k n s ls h g) | inr e ↦ later free e g ]
before_line tables b script place m r n s k (client.Drop name) ls h later free f g = elim f [ inl a ↦ omega (arith, a.0, among_below tables b k n s ls h g) | inr e ↦ later free e g ]
before_line tables b script place m r n s k (client.Kill target) ls h later free f g = elim f [ inl a ↦ omega (arith, a.0, among_below tables b k n s ls h g) | inr e ↦ later free e g ]

before_others : (tables : Tables) (b : Bundle) (script : ClientLines) (place m r n s : ℕ) (ls : ClientLines) → Rising ls → HeadFree ls → FailsFrom tables b script place (commands_at ls) m r → FailsAmong tables b ls n s → m < n
before_others tables b script place m r n s [] rises free f g = absurd g
before_others tables b script place m r n s (l ∷ ls) rises free f g = before_line tables b script place m r n s l.line l.form ls rises.0 (λ free f g. before_others tables b script (suc place) m r n s ls rises.1 free f g) free f g

-- the first refusal is none where no script fails
pub none_or : (o later : Option Refusal) → first_of o later ≡ None → (o ≡ None) × (later ≡ None)
none_or None later e = (refl, e)
none_or (Some at) later e = absurd cc

none_line : (tables : Tables) (b : Bundle) (form : ClientLine) (ls : ClientLines) → script_verdict tables b form ls (verdict_of tables b ls) ≡ None → (verdict_of tables b ls ≡ None → Nowhere (FailsAmong tables b ls)) → Nowhere (FailsWith tables b form ls (FailsAmong tables b ls))
none_line tables b (client.Client name) ls e later n rule f =
    let h = none_or (verdict tables b nothing (commands_at ls)) (verdict_of tables b ls) e in
    elim f [
      | inl a ↦ scan_none tables b (commands_at ls) 0 (commands_at ls) (sym (script_scan tables b (commands_at ls)) ∙ h.0) n rule a
      | inr g ↦ later h.1 n rule g
    ]
none_line tables b (client.Let name ty values) ls e later n rule f = later e n rule f
none_line tables b (client.Text name ty bytes) ls e later n rule f = later e n rule f
none_line tables b (client.Call target method args names) ls e later n rule f = later e n rule f
none_line tables b (client.Show name) ls e later n rule f = later e n rule f
none_line tables b (client.Drop name) ls e later n rule f = later e n rule f
none_line tables b (client.Kill target) ls e later n rule f = later e n rule f
none_line tables b client.Close ls e later n rule f = later e n rule f

pub none_among : (tables : Tables) (b : Bundle) (ls : ClientLines) → verdict_of tables b ls ≡ None → Nowhere (FailsAmong tables b ls)
none_among tables b [] e n rule f = f
none_among tables b (l ∷ ls) e n rule f = none_line tables b l.form ls e (λ g. none_among tables b ls g) n rule f

first_script : (tables : Tables) (b : Bundle) (ls : ClientLines) (at : Refusal) (o : Option Refusal) → Rising ls → HeadFree ls → verdict tables b nothing (commands_at ls) ≡ o → first_of o (verdict_of tables b ls) ≡ Some at → (verdict_of tables b ls ≡ Some at → IsFirst (FailsAmong tables b ls) at.line at.rule) → IsFirst (λ n rule. FailsScript tables b (commands_at ls) n rule ⊎ FailsAmong tables b ls n rule) at.line at.rule
first_script tables b ls at None rises free is e later =
    let h = later e in
    record {
      fails = inr h.fails;
      first = λ n r f. elim f [
        | inl a ↦ absurd (scan_none tables b (commands_at ls) 0 (commands_at ls) (sym (script_scan tables b (commands_at ls)) ∙ is) n r a)
        | inr g ↦ h.first n r g
      ];
    }
first_script tables b ls at (Some x) rises free is e later =
    let here : Some x ≡ Some at = e in
    let h = scan_some tables b (commands_at ls) 0 (commands_at ls) at (rising_commands ls rises) (sym (script_scan tables b (commands_at ls)) ∙ is ∙ here) in
    record {
      fails = inl h.fails;
      first = λ n r f. elim f [
        | inl a ↦ h.first n r a
        | inr g ↦ inl (before_others tables b (commands_at ls) 0 at.line at.rule n r ls rises free h.fails g)
      ];
    }

some_line : (tables : Tables) (b : Bundle) (form : ClientLine) (ls : ClientLines) (at : Refusal) → Rising ls → ClosedWith form (HeadFree ls) → script_verdict tables b form ls (verdict_of tables b ls) ≡ Some at → (verdict_of tables b ls ≡ Some at → IsFirst (FailsAmong tables b ls) at.line at.rule) → IsFirst (FailsWith tables b form ls (FailsAmong tables b ls)) at.line at.rule
some_line tables b (client.Client name) ls at rises free e later = first_script tables b ls at (verdict tables b nothing (commands_at ls)) rises free refl e later
some_line tables b (client.Let name ty values) ls at rises free e later = later e
some_line tables b (client.Text name ty bytes) ls at rises free e later = later e
some_line tables b (client.Call target method args names) ls at rises free e later = later e
some_line tables b (client.Show name) ls at rises free e later = later e
some_line tables b (client.Drop name) ls at rises free e later = later e
some_line tables b (client.Kill target) ls at rises free e later = later e
some_line tables b client.Close ls at rises free e later = later e

pub some_among : (tables : Tables) (b : Bundle) (ls : ClientLines) (at : Refusal) → Rising ls → Closed ls → verdict_of tables b ls ≡ Some at → IsFirst (FailsAmong tables b ls) at.line at.rule
some_among tables b [] at rises closes e = absurd cc
some_among tables b (l ∷ ls) at rises closes e = some_line tables b l.form ls at rises.1 closes.0 e (λ f. some_among tables b ls at rises.1 closes.1 f)

-- failures by the numbers of the scripts
pub record FailsNumbered (tables : Tables) (b : Bundle) (ls : ClientLines) (n rule : ℕ) : Type 0 where
  pub script : ClientLines
  pub number : ℕ
  pub client : slice_get (scripts_of ls) number ≡ Some script
  pub fails : FailsScript tables b script n rule

to_line : (tables : Tables) (b : Bundle) (k : ℕ) (form : ClientLine) (ls : ClientLines) (n rule : ℕ) → (FailsNumbered tables b ls n rule → FailsAmong tables b ls n rule) → FailsNumbered tables b (record { line = k; form = form } ∷ ls) n rule → FailsWith tables b form ls (FailsAmong tables b ls) n rule
to_line tables b k (client.Client name) ls n rule later f = at f.number f.client where
  at : (number : ℕ) → slice_get (commands_at ls ∷ scripts_of ls) number ≡ Some f.script → FailsScript tables b (commands_at ls) n rule ⊎ FailsAmong tables b ls n rule
  at zero e = let same : f.script ≡ commands_at ls = cc in inl (subst (λ (s : ClientLines). FailsScript tables b s n rule) same f.fails)
  at (suc i) e = inr (later (record { script = f.script; number = i; client = e; fails = f.fails }))
to_line tables b k (client.Let name ty values) ls n rule later f = later (record { script = f.script; number = f.number; client = f.client; fails = f.fails })
to_line tables b k (client.Text name ty bytes) ls n rule later f = later (record { script = f.script; number = f.number; client = f.client; fails = f.fails })
to_line tables b k (client.Call target method args names) ls n rule later f = later (record { script = f.script; number = f.number; client = f.client; fails = f.fails })
to_line tables b k (client.Show name) ls n rule later f = later (record { script = f.script; number = f.number; client = f.client; fails = f.fails })
to_line tables b k (client.Drop name) ls n rule later f = later (record { script = f.script; number = f.number; client = f.client; fails = f.fails })
to_line tables b k (client.Kill target) ls n rule later f = later (record { script = f.script; number = f.number; client = f.client; fails = f.fails })
to_line tables b k client.Close ls n rule later f = later (record { script = f.script; number = f.number; client = f.client; fails = f.fails })

pub to_among : (tables : Tables) (b : Bundle) (ls : ClientLines) (n rule : ℕ) → FailsNumbered tables b ls n rule → FailsAmong tables b ls n rule
to_among tables b [] n rule f = let e = f.client in absurd (empty f.number e) where
  empty : (number : ℕ) → slice_get (scripts_of []) number ≡ Some f.script → ⊥
  empty number e = cc
to_among tables b (l ∷ ls) n rule f = to_line tables b l.line l.form ls n rule (λ g. to_among tables b ls n rule g) f

from_line : (tables : Tables) (b : Bundle) (k : ℕ) (form : ClientLine) (ls : ClientLines) (n rule : ℕ) → (FailsAmong tables b ls n rule → FailsNumbered tables b ls n rule) → FailsWith tables b form ls (FailsAmong tables b ls) n rule → FailsNumbered tables b (record { line = k; form = form } ∷ ls) n rule
from_line tables b k (client.Client name) ls n rule later f = elim f [
  | inl a ↦ record { script = commands_at ls; number = 0; client = refl; fails = a }
  | inr g ↦ (let h = later g in record { script = h.script; number = suc h.number; client = h.client; fails = h.fails })
]
from_line tables b k (client.Let name ty values) ls n rule later f = let h = later f in record { script = h.script; number = h.number; client = h.client; fails = h.fails }
from_line tables b k (client.Text name ty bytes) ls n rule later f = let h = later f in record { script = h.script; number = h.number; client = h.client; fails = h.fails }
from_line tables b k (client.Call target method args names) ls n rule later f = let h = later f in record { script = h.script; number = h.number; client = h.client; fails = h.fails }
from_line tables b k (client.Show name) ls n rule later f = let h = later f in record { script = h.script; number = h.number; client = h.client; fails = h.fails }
from_line tables b k (client.Drop name) ls n rule later f = let h = later f in record { script = h.script; number = h.number; client = h.client; fails = h.fails }
from_line tables b k (client.Kill target) ls n rule later f = let h = later f in record { script = h.script; number = h.number; client = h.client; fails = h.fails }
from_line tables b k client.Close ls n rule later f = let h = later f in record { script = h.script; number = h.number; client = h.client; fails = h.fails }

pub from_among : (tables : Tables) (b : Bundle) (ls : ClientLines) (n rule : ℕ) → FailsAmong tables b ls n rule → FailsNumbered tables b ls n rule
from_among tables b [] n rule f = absurd f
from_among tables b (l ∷ ls) n rule f = from_line tables b l.line l.form ls n rule (λ g. from_among tables b ls n rule g) f

zero_sum : (i : ℕ) → i ≡ 0 + i
zero_sum i = omega arith

-- the rules' own words
pub to_rules : (tables : Tables) (b : Bundle) (n rule : ℕ) → FailsAmong tables b b.clients.lines n rule → FailsScripts tables b n rule
to_rules tables b n rule f = at (from_among tables b b.clients.lines n rule f) where
  command : (g : FailsNumbered tables b b.clients.lines n rule) (h : FailsHere tables b g.script 0 g.script n rule) → CommandAt b n
  command g h = record { script = g.script; number = g.number; client = g.client; place = h.index; form = h.form; here = h.here }

  with_place : (g : FailsNumbered tables b b.clients.lines n rule) (h : FailsHere tables b g.script 0 g.script n rule) → BreaksAt tables b g.script h.index h.form rule → FailsScripts tables b n rule
  with_place g h e = elim e [
    | inl a ↦ inl (a.0, record { command = command g h; broken = a.1 })
    | inr a ↦ inr (a.0, record { command = command g h; broken = a.1 })
  ]

  at : FailsNumbered tables b b.clients.lines n rule → FailsScripts tables b n rule
  at g = let h = fails_here tables b g.script 0 g.script n rule g.fails in with_place g h (subst (λ (p : ℕ). BreaksAt tables b g.script p h.form rule) (sym (zero_sum h.index)) h.breaks)

pub from_rules : (tables : Tables) (b : Bundle) (n rule : ℕ) → FailsScripts tables b n rule → FailsAmong tables b b.clients.lines n rule
from_rules tables b n rule f = elim f [
  | inl a ↦ at a.1.command (inl (a.0, a.1.broken))
  | inr a ↦ at a.1.command (inr (a.0, a.1.broken))
] where
  at : (c : CommandAt b n) → BreaksAt tables b c.script c.place c.form rule → FailsAmong tables b b.clients.lines n rule
  at c e = to_among tables b b.clients.lines n rule (record { script = c.script; number = c.number; client = c.client; fails = fails_at tables b c.script 0 c.script c.place n c.form rule c.here (subst (λ (p : ℕ). BreaksAt tables b c.script p c.form rule) (zero_sum c.place) e) })

pub no_rules : (tables : Tables) (b : Bundle) → verdict_of tables b b.clients.lines ≡ None → Nowhere (FailsScripts tables b)
no_rules tables b e n rule f = none_among tables b b.clients.lines e n rule (from_rules tables b n rule f)

pub first_rule : (tables : Tables) (b : Bundle) (at : Refusal) → Rising b.clients.lines → Closed b.clients.lines → verdict_of tables b b.clients.lines ≡ Some at → IsFirst (FailsScripts tables b) at.line at.rule
first_rule tables b at rises closes e =
    let h = some_among tables b b.clients.lines at rises closes e in
    record { fails = to_rules tables b at.line at.rule h.fails; first = λ n r f. h.first n r (from_rules tables b n r f) }

-- the rows of the clients
row_line : (tables : Tables) (b : Bundle) (k : ℕ) (form : ClientLine) (ls : ClientLines) → script_verdict tables b form ls (verdict_of tables b ls) ≡ None → (verdict_of tables b ls ≡ None → rows_of tables b ls ≡ client_rows tables b (names_of (given_by client_given ls)) (scripts_of ls)) → row_before tables b form ls (rows_of tables b ls) ≡ client_rows tables b (names_of (given_by client_given (record { line = k; form = form } ∷ ls))) (scripts_of (record { line = k; form = form } ∷ ls))
row_line tables b k (client.Client name) ls e later =
    let h = none_or (verdict tables b nothing (commands_at ls)) (verdict_of tables b ls) e in
    ap (λ (cs : List Command). record { name = name; commands = cs } ∷ rows_of tables b ls) (script_stands tables b (commands_at ls) h.0)
    ∙ ap (λ (rs : List ClientRow). record { name = name; commands = Rattle.rl_defs.specs.LoadOf.commands_of tables b (commands_at ls) } ∷ rs) (later h.1)
row_line tables b k (client.Let name ty values) ls e later = later e
row_line tables b k (client.Text name ty bytes) ls e later = later e
row_line tables b k (client.Call target method args names) ls e later = later e
row_line tables b k (client.Show name) ls e later = later e
row_line tables b k (client.Drop name) ls e later = later e
row_line tables b k (client.Kill target) ls e later = later e
row_line tables b k client.Close ls e later = later e

pub rows_stand : (tables : Tables) (b : Bundle) (ls : ClientLines) → verdict_of tables b ls ≡ None → rows_of tables b ls ≡ client_rows tables b (names_of (given_by client_given ls)) (scripts_of ls)
rows_stand tables b [] e = refl
rows_stand tables b (l ∷ ls) e = row_line tables b l.line l.form ls e (λ f. rows_stand tables b ls f)

-- lines that are numbered upwards
abbrev Above : ℕ → List ℕ → Type 0
Above n [] = Unit {0}
Above n (x ∷ xs) = (n < x) × Above n xs

abbrev Upwards : List ℕ → Type 0
Upwards [] = Unit {0}
Upwards (x ∷ xs) = Above x xs × Upwards xs

above_all : (n : ℕ) (xs : List ℕ) → ((j x : ℕ) → slice_get xs j ≡ Some x → n < x) → Above n xs
above_all n [] h = tt
above_all n (x ∷ xs) h = (h 0 x refl, above_all n xs (λ j y e. h (suc j) y e))

upwards : (xs : List ℕ) → Rise xs → Upwards xs
upwards [] h = tt
upwards (x ∷ xs) h = (above_all x xs (λ j y e. h 0 (suc j) x y (omega arith) refl e), upwards xs (λ j k y z lt e f. h (suc j) (suc k) y z (omega arith) e f))

upwards_last : (xs ys : List ℕ) → Upwards (xs ++ ys) → Upwards ys
upwards_last [] ys h = h
upwards_last (x ∷ xs) ys h = upwards_last xs ys h.1

below_lines : (n : ℕ) (ls : ClientLines) → Above n (numbers_of ls) → IsBelow n ls
below_lines n [] h = tt
below_lines n (l ∷ ls) h = (h.0, below_lines n ls h.1)

rising_lines : (ls : ClientLines) → Upwards (numbers_of ls) → Rising ls
rising_lines [] h = tt
rising_lines (l ∷ ls) h = (below_lines l.line ls h.0, rising_lines ls h.1)

-- the lines of the clients are the last of a bundle
pub rising_clients : (b : Bundle) → IsOrdered b → Rising b.clients.lines
rising_clients b h =
    rising_lines b.clients.lines
    (upwards_last (numbers_of b.plan.lines) (numbers_of b.clients.lines)
    (upwards_last (flat_map (λ d. numbers_of d.lines) b.domains) (numbers_of b.plan.lines ++ numbers_of b.clients.lines)
    (upwards_last (numbers_of b.idl.lines) (flat_map (λ d. numbers_of d.lines) b.domains ++ (numbers_of b.plan.lines ++ numbers_of b.clients.lines)) (upwards (line_numbers b) h.rises))))

pub closed_clients : (b : Bundle) → IsOrdered b → Closed b.clients.lines
closed_clients b h = closed (Some Outside) b.clients.lines h.clients

-- what is answered to a bundle whose clients are in order
pub answers : (tables : Tables) (b : Bundle) → Rising b.clients.lines → Closed b.clients.lines → (r : Result (List ClientRow) LoadFault) → Says (verdict_of tables b b.clients.lines) (λ rows. rows ≡ rows_of tables b b.clients.lines) r → Answers (FailsScripts tables b) (λ rows. rows ≡ clients_of tables b) r
answers tables b rises closes (Ok rows) says = (no_rules tables b says.0, says.1 ∙ rows_stand tables b b.clients.lines says.0)
answers tables b rises closes (Err (Refused at)) says = first_rule tables b at rises closes says
answers tables b rises closes (Err Memory) says = tt
