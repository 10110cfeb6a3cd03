-- How much a domain and a client have.
use Rattle.std.proofs.Common.{◌≡◌, ℕ, suc, ◌≤◌, ◌⊎◌, inl, inr, List, [], ◌∷◌, length, Some, refl, sym, ap, subst, ◌∙◌, arith}
use Rattle.std.specs.Prelude.{slice_get}
use Rattle.std.specs.List.{flat_map}
use Rattle.std.proofs.lemmas.Bool.{cases_lt}
use Rattle.std.proofs.lemmas.List.{length-map}
use Rattle.rl_defs.specs.declared.bundle.Numbered.{Numbered}
use Rattle.rl_defs.specs.declared.bundle.Bundle.{Bundle}
use Rattle.rl_defs.specs.declared.bundle.ClientLine.{ClientLine}
use Rattle.rl_defs.specs.declared.bundle.ClientLine.TheVariants as client
use Rattle.rl_defs.specs.declared.code.Native.TheVariants as native
use Rattle.rl_defs.specs.declared.code.DomainLine.{DomainLine}
use Rattle.rl_defs.specs.declared.code.DomainLine.TheVariants as line
use Rattle.rl_defs.specs.declared.code.DomainText.{DomainText}
use Rattle.rl_defs.specs.declared.tables.Tables.{Tables}
use Rattle.rl_defs.specs.declared.load.Command.{Command}
use Rattle.rl_defs.specs.Domains.{Lines, words_of, words_of_form, slots_of}
use Rattle.rl_defs.specs.BundleNames.{Given, ClientLines, given_by, slot_given, scripts_of}
use Rattle.rl_defs.specs.LoadOf.{script_names, commands_in, clients_of}
use Rattle.rl_defs.specs.Rows.{row}
use Rattle.rl_defs.specs.Rows.{commands_of as commands_of_row}
use Rattle.rl_defs.proofs.Lists.{list_at, length_both}
use Rattle.valid_loads.proofs.Names.{names_flat}
use Rattle.valid_loads.proofs.Rules.{Kept}
use Rattle.valid_loads.proofs.Slots.{slot_names}
use Rattle.valid_loads.proofs.Bounds.{few}
use Rattle.valid_loads.proofs.ScriptLines.{script_of}

-- ---- words

-- each `words` line gives so few
abbrev FewWords : Lines → Type 0
FewWords lines = (k n words : ℕ) → slice_get lines k ≡ Some (record { line = n; form = line.Words words }) → words ≤ 4096

words_step : (x : Numbered DomainLine) (f : DomainLine) (others : ℕ) → x.form ≡ f → ((n words : ℕ) → Some x ≡ Some (record { line = n; form = line.Words words }) → words ≤ 4096) → others ≤ 4096 → words_of_form f others ≤ 4096
words_step x (line.Words n) others is each rest = each x.line n (ap (λ (f : DomainLine). Some (record { line = x.line; form = f })) is)
words_step x (line.Native native.Rv6) others is each rest = omega arith
words_step x (line.Native native.Fs) others is each rest = rest
words_step x (line.Domain name has) others is each rest = rest
words_step x (line.Slot name ty) others is each rest = rest
words_step x (line.Import name has) others is each rest = rest
words_step x (line.Function name) others is each rest = rest
words_step x (line.Head label items) others is each rest = rest
words_step x (line.Code i) others is each rest = rest
words_step x line.Close others is each rest = rest

few_words : (lines : Lines) → FewWords lines → words_of lines ≤ 4096
few_words [] each = omega arith
few_words (x ∷ xs) each = words_step x x.form (words_of xs) refl (λ n words e. each 0 n words e) (few_words xs (λ k n words e. each (suc k) n words e))

pub text_words : (tables : Tables) (b : Bundle) → Kept tables b → (place : ℕ) (text : DomainText) → slice_get b.domains place ≡ Some text → words_of text.lines ≤ 4096
text_words tables b h place text here = few_words text.lines (λ k n words e. elim (cases_lt 4096 words) [
  | inl many ↦ absurd (h.plan n 46 (inr (inr (inr (inr (inr (inr (refl, inr (inr (inr (inr (inl (record { lines = text.lines; domain = record { place = place; here = here }; words = words; line = record { place = k; here = e }; many = many })))))))))))))
  | inr within ↦ within
])

-- ---- slots

pub text_slots : (tables : Tables) (b : Bundle) → Kept tables b → (place : ℕ) (text : DomainText) → slice_get b.domains place ≡ Some text → length (slots_of text.lines) ≤ 64
text_slots tables b h place text here =
    let gs = given_by slot_given text.lines in
    let count = few 64 gs (λ n over. h.plan n 46 (inr (inr (inr (inr (inr (inr (refl, inr (inr (inl (record { lines = text.lines; domain = record { place = place; here = here }; over = over }))))))))))) in
    omega (arith, count, length-map gs (λ (g : Given). g.name), ap (λ (ns : List (List ℕ)). length ns) (names_flat slot_given text.lines ∙ slot_names text.lines))

-- ---- commands

one_command : (tables : Tables) (b : Bundle) (names : List (List ℕ)) (f : ClientLine) → length (commands_in tables b names f) ≤ 1
one_command tables b names (client.Let name ty values) = omega arith
one_command tables b names (client.Text name ty bytes) = omega arith
one_command tables b names (client.Call target method args results) = omega arith
one_command tables b names (client.Show name) = omega arith
one_command tables b names (client.Drop name) = omega arith
one_command tables b names (client.Kill target) = omega arith
one_command tables b names (client.Client name) = omega arith
one_command tables b names client.Close = omega arith

commands_short : (tables : Tables) (b : Bundle) (names : List (List ℕ)) (lines : ClientLines) → length (flat_map (λ l. commands_in tables b names l.form) lines) ≤ length lines
commands_short tables b names [] = omega arith
commands_short tables b names (l ∷ ls) = omega (arith, length_both (commands_in tables b names l.form) (flat_map (λ (x : Numbered ClientLine). commands_in tables b names x.form) ls), one_command tables b names l.form, commands_short tables b names ls)

script_short : (tables : Tables) (b : Bundle) → Kept tables b → (n : ℕ) (script : ClientLines) → slice_get (scripts_of b.clients.lines) n ≡ Some script → length script ≤ 1000
script_short tables b h n script e = elim (cases_lt 1000 (length script)) [
  | inl many ↦ absurd (let x = list_at script 1000 many in h.plan x.0.line 46 (inr (inr (inr (inr (inr (inr (refl, inr (inr (inr (inl (record { command = record { script = script; number = n; client = e; place = 1000; form = x.0.form; here = x.1 }; over = omega arith }))))))))))))
  | inr within ↦ within
]

first_there : (cs : List Command) → (cs ≡ []) ⊎ ((c : Command) × (slice_get cs 0 ≡ Some c))
first_there [] = inl refl
first_there (c ∷ cs) = inr (c, refl)

pub few_commands : (tables : Tables) (b : Bundle) → Kept tables b → (t : ℕ) → length (commands_of_row (row (clients_of tables b) t)) ≤ 1000
few_commands tables b h t = elim (first_there (commands_of_row (row (clients_of tables b) t))) [
  | inl none ↦ subst (λ (cs : List Command). length cs ≤ 1000) (sym none) (omega arith)
  | inr first ↦
      let s = script_of tables b t 0 first.0 first.1 in
      omega (arith, ap (λ (cs : List Command). length cs) s.commands, commands_short tables b (script_names s.script) s.script, script_short tables b h s.number s.script s.here)
]
