-- The commands of a client, by the lines before them.
use Rattle.std.proofs.Common.{◌≡◌, ℕ, zero, suc, ◌+◌, ◌≤◌, ◌⊎◌, inl, inr, Bool, true, false, cond, List, [], ◌∷◌, Option, Some, None, refl, sym, ap, subst, ◌∙◌, arith}
use Rattle.std.specs.Prelude.{slice_get}
use Rattle.rl_defs.specs.declared.bundle.Numbered.{Numbered}
use Rattle.rl_defs.specs.declared.bundle.ClientLine.{ClientLine}
use Rattle.rl_defs.specs.declared.bundle.ClientLine.TheVariants as client
use Rattle.rl_defs.specs.BundleNames.{ClientLines, ends_client, commands_at, script_before, scripts_of}
use Rattle.plan_checker.specs.Limits.{commands_behind, commands_from}

-- the line is no end of a client
abbrev pub Goes : ClientLine → Type 0
Goes form = ends_client form ≡ false

one_more : (n : ℕ) (form : ClientLine) → Goes form → commands_behind (Some n) form ≡ Some (n + 1)
one_more n (client.Client name) g = refl
one_more n (client.Let name ty values) g = refl
one_more n (client.Text name ty bytes) g = refl
one_more n (client.Call target method args names) g = refl
one_more n (client.Show name) g = refl
one_more n (client.Drop name) g = refl
one_more n (client.Kill target) g = refl
one_more n client.Close g = absurd cc

no_more : (n : ℕ) (form : ClientLine) → ends_client form ≡ true → commands_behind (Some n) form ≡ None
no_more n (client.Client name) g = absurd cc
no_more n (client.Let name ty values) g = absurd cc
no_more n (client.Text name ty bytes) g = absurd cc
no_more n (client.Call target method args names) g = absurd cc
no_more n (client.Show name) g = absurd cc
no_more n (client.Drop name) g = absurd cc
no_more n (client.Kill target) g = absurd cc
no_more n client.Close g = refl

-- A line stands behind so many commands of a client, which are p at least.
pub record StandsBehind (o : Option ℕ) (lines : ClientLines) (p : ℕ) (l : Numbered ClientLine) : Type 0 where
  pub place : ℕ
  pub commands : ℕ
  pub here : slice_get lines place ≡ Some l
  pub goes : Goes l.form
  pub count : commands_from o lines place ≡ Some commands
  pub least : p ≤ commands

first_line : (c : ℕ) (x l : Numbered ClientLine) (xs : ClientLines) → Goes x.form → Some x ≡ Some l → StandsBehind (Some c) (x ∷ xs) c l
first_line c x l xs goes e = let same : x ≡ l = cc in record { place = 0; commands = c; here = e; goes = subst (λ (y : Numbered ClientLine). Goes y.form) same goes; count = refl; least = omega arith }

next_line : (o : Option ℕ) (x : Numbered ClientLine) (xs : ClientLines) (p : ℕ) (l : Numbered ClientLine) (next : Option ℕ) → commands_behind o x.form ≡ next → StandsBehind next xs p l → StandsBehind o (x ∷ xs) p l
next_line o x xs p l next is r = record { place = suc r.place; commands = r.commands; here = r.here; goes = r.goes; count = ap (λ (n : Option ℕ). commands_from n xs r.place) is ∙ r.count; least = r.least }

less : (o : Option ℕ) (ls : ClientLines) (p q : ℕ) (l : Numbered ClientLine) → q ≤ p → StandsBehind o ls p l → StandsBehind o ls q l
less o ls p q l le r = record { place = r.place; commands = r.commands; here = r.here; goes = r.goes; count = r.count; least = omega (arith, le, r.least) }

in_script : (c : ℕ) (ls : ClientLines) (p : ℕ) (l : Numbered ClientLine) → slice_get (commands_at ls) p ≡ Some l → StandsBehind (Some c) ls (c + p) l
in_script c [] p l e = absurd cc
in_script c (x ∷ xs) p l e = at (ends_client x.form) refl p e (λ n q h. in_script n xs q l h) where
  at : (b : Bool) → ends_client x.form ≡ b → (p : ℕ) → slice_get (cond b [] (x ∷ commands_at xs)) p ≡ Some l → ((n q : ℕ) → slice_get (commands_at xs) q ≡ Some l → StandsBehind (Some n) xs (n + q) l) → StandsBehind (Some c) (x ∷ xs) (c + p) l
  at true t p e more = absurd cc
  at false t zero e more = less (Some c) (x ∷ xs) c (c + 0) l (omega arith) (first_line c x l xs t e)
  at false t (suc q) e more = less (Some c) (x ∷ xs) (c + 1 + q) (c + suc q) l (omega arith) (next_line (Some c) x xs (c + 1 + q) l (Some (c + 1)) (one_more c x.form t) (more (c + 1) q e))

-- a command of a script stands behind as many at least
pub in_scripts : (o : Option ℕ) (lines : ClientLines) (number p : ℕ) (script : ClientLines) (l : Numbered ClientLine) → slice_get (scripts_of lines) number ≡ Some script → slice_get script p ≡ Some l → StandsBehind o lines p l
in_scripts o [] number p script l e f = absurd cc
in_scripts o (x ∷ xs) number p script l e f = by_form x.form refl number e (λ next n h. in_scripts next xs n p script l h f) where
  mine : (c : ℕ) (form : ClientLine) → commands_at xs ≡ script → commands_behind o form ≡ Some c → x.form ≡ form → StandsBehind o (x ∷ xs) p l
  mine c form same is at = less o (x ∷ xs) (c + p) p l (omega arith) (next_line o x xs (c + p) l (Some c) (ap (commands_behind o) at ∙ is) (in_script c xs p l (subst (λ (s : ClientLines). slice_get s p ≡ Some l) (sym same) f)))

  others : (form : ClientLine) (n : ℕ) → slice_get (scripts_of xs) n ≡ Some script → ((next : Option ℕ) (n : ℕ) → slice_get (scripts_of xs) n ≡ Some script → StandsBehind next xs p l) → StandsBehind o (x ∷ xs) p l
  others form n e more = next_line o x xs p l (commands_behind o x.form) refl (more (commands_behind o x.form) n e)

  opened : (name : List ℕ) (q : Option ℕ) → o ≡ q → commands_at xs ≡ script → x.form ≡ client.Client name → StandsBehind o (x ∷ xs) p l
  opened name None is same at = mine 0 (client.Client name) same (ap (λ (r : Option ℕ). commands_behind r (client.Client name)) is) at
  opened name (Some c) is same at = mine (c + 1) (client.Client name) same (ap (λ (r : Option ℕ). commands_behind r (client.Client name)) is) at

  by_form : (form : ClientLine) → x.form ≡ form → (number : ℕ) → slice_get (script_before form (commands_at xs) (scripts_of xs)) number ≡ Some script → ((next : Option ℕ) (n : ℕ) → slice_get (scripts_of xs) n ≡ Some script → StandsBehind next xs p l) → StandsBehind o (x ∷ xs) p l
  by_form (client.Client name) at zero e more = let same : commands_at xs ≡ script = cc in opened name o refl same at
  by_form (client.Client name) at (suc n) e more = others (client.Client name) n e more
  by_form (client.Let name ty values) at n e more = others (client.Let name ty values) n e more
  by_form (client.Text name ty bytes) at n e more = others (client.Text name ty bytes) n e more
  by_form (client.Call target method args names) at n e more = others (client.Call target method args names) n e more
  by_form (client.Show name) at n e more = others (client.Show name) n e more
  by_form (client.Drop name) at n e more = others (client.Drop name) n e more
  by_form (client.Kill target) at n e more = others (client.Kill target) n e more
  by_form client.Close at n e more = others client.Close n e more

-- A line is the command at this place of a script.
pub record IsCommand (lines : ClientLines) (m : ℕ) (l : Numbered ClientLine) : Type 0 where
  pub number : ℕ
  pub script : ClientLines
  pub there : slice_get (scripts_of lines) number ≡ Some script
  pub here : slice_get script m ≡ Some l

-- of the script that is open, where so many of its commands stand before these lines
abbrev IsOpenCommand : Option ℕ → ClientLines → ℕ → Numbered ClientLine → Type 0
IsOpenCommand None lines m l = ⊥
IsOpenCommand (Some c) lines m l = (q : ℕ) × (c + q ≡ m) × (slice_get (commands_at lines) q ≡ Some l)

later : (x : Numbered ClientLine) (xs : ClientLines) (m : ℕ) (l : Numbered ClientLine) → IsCommand xs m l → IsCommand (x ∷ xs) m l
later x xs m l h = by_form x.form where
  by_form : (form : ClientLine) → IsCommand (record { line = x.line; form = form } ∷ xs) m l
  by_form (client.Client name) = record { number = suc h.number; script = h.script; there = h.there; here = h.here }
  by_form (client.Let name ty values) = record { number = h.number; script = h.script; there = h.there; here = h.here }
  by_form (client.Text name ty bytes) = record { number = h.number; script = h.script; there = h.there; here = h.here }
  by_form (client.Call target method args names) = record { number = h.number; script = h.script; there = h.there; here = h.here }
  by_form (client.Show name) = record { number = h.number; script = h.script; there = h.there; here = h.here }
  by_form (client.Drop name) = record { number = h.number; script = h.script; there = h.there; here = h.here }
  by_form (client.Kill target) = record { number = h.number; script = h.script; there = h.there; here = h.here }
  by_form client.Close = record { number = h.number; script = h.script; there = h.there; here = h.here }

abbrev Found : Option ℕ → ClientLines → ℕ → Numbered ClientLine → Type 0
Found o lines m l = IsOpenCommand o lines m l ⊎ IsCommand lines m l

-- what is found behind a line is found from the line on
step : (o : Option ℕ) (x : Numbered ClientLine) (xs : ClientLines) (m : ℕ) (l : Numbered ClientLine) → Found (commands_behind o x.form) xs m l → Found o (x ∷ xs) m l
step o x xs m l (inr h) = inr (later x xs m l h)
step o x xs m l (inl h) = by_form o x.form refl h where
  going : (c : ℕ) (form : ClientLine) → x.form ≡ form → Goes form → IsOpenCommand (Some (c + 1)) xs m l → Found (Some c) (x ∷ xs) m l
  going c form at goes h = inl (suc h.0, omega (arith, h.1), ap (λ (b : Bool). slice_get (cond b [] (x ∷ commands_at xs)) (suc h.0)) (ap ends_client at ∙ goes) ∙ h.2)

  begun : (name : List ℕ) → x.form ≡ client.Client name → IsOpenCommand (Some 0) xs m l → Found None (x ∷ xs) m l
  begun name at h =
      let same : h.0 ≡ m = omega (arith, h.1) in
      inr (record { number = 0; script = commands_at xs; there = ap (λ (f : ClientLine). slice_get (script_before f (commands_at xs) (scripts_of xs)) 0) at; here = ap (λ (n : ℕ). slice_get (commands_at xs) n) (sym same) ∙ h.2 })

  by_form : (q : Option ℕ) (form : ClientLine) → x.form ≡ form → IsOpenCommand (commands_behind q form) xs m l → Found q (x ∷ xs) m l
  by_form None (client.Client name) at h = begun name at h
  by_form None (client.Let name ty values) at h = absurd h
  by_form None (client.Text name ty bytes) at h = absurd h
  by_form None (client.Call target method args names) at h = absurd h
  by_form None (client.Show name) at h = absurd h
  by_form None (client.Drop name) at h = absurd h
  by_form None (client.Kill target) at h = absurd h
  by_form None client.Close at h = absurd h
  by_form (Some c) (client.Client name) at h = going c (client.Client name) at refl h
  by_form (Some c) (client.Let name ty values) at h = going c (client.Let name ty values) at refl h
  by_form (Some c) (client.Text name ty bytes) at h = going c (client.Text name ty bytes) at refl h
  by_form (Some c) (client.Call target method args names) at h = going c (client.Call target method args names) at refl h
  by_form (Some c) (client.Show name) at h = going c (client.Show name) at refl h
  by_form (Some c) (client.Drop name) at h = going c (client.Drop name) at refl h
  by_form (Some c) (client.Kill target) at h = going c (client.Kill target) at refl h
  by_form (Some c) client.Close at h = absurd h

found_here : (o : Option ℕ) (x l : Numbered ClientLine) (xs : ClientLines) (m : ℕ) → o ≡ Some m → Some x ≡ Some l → Goes l.form → Found o (x ∷ xs) m l
found_here (Some c) x l xs m is e goes =
    let same : x ≡ l = cc in
    let count : c ≡ m = cc in
    inl (0, omega (arith, count), ap (λ (b : Bool). slice_get (cond b [] (x ∷ commands_at xs)) 0) (ap (λ (y : Numbered ClientLine). ends_client y.form) same ∙ goes) ∙ e)
found_here None x l xs m is e goes = absurd cc

find : (o : Option ℕ) (lines : ClientLines) (k m : ℕ) (l : Numbered ClientLine) → commands_from o lines k ≡ Some m → slice_get lines k ≡ Some l → Goes l.form → Found o lines m l
find o [] k m l count here goes = absurd cc
find o (x ∷ xs) zero m l count here goes = found_here o x l xs m count here goes
find o (x ∷ xs) (suc k) m l count here goes = step o x xs m l (find (commands_behind o x.form) xs k m l count here goes)

-- a line that stands behind so many commands is the command at that place of a script
pub is_command : (lines : ClientLines) (k m : ℕ) (l : Numbered ClientLine) → commands_from None lines k ≡ Some m → slice_get lines k ≡ Some l → Goes l.form → IsCommand lines m l
is_command lines k m l count here goes = elim (find None lines k m l count here goes) [ inl h ↦ absurd h | inr h ↦ h ]
