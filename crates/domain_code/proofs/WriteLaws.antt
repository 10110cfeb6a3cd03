-- Writing lines, one behind the other.
use Rattle.std.proofs.Common.{◌≡◌, ℕ, ◌+◌, ◌/◌, ◌%◌, ◌<◌, ◌≤◌, true, List, [], ◌∷◌, ◌++◌, length, drop, get_or, refl, sym, ap, ◌∙◌, append_assoc, append-nil, arith}
use Rattle.std.specs.Fmt.{decimal}
use Rattle.std.proofs.lemmas.Fmt.{decimal_digit, decimal_step}
use Rattle.std.proofs.lemmas.List.{at_drop_more, drop_all}
use Rattle.rl_defs.specs.declared.bundle.Numbered.{Numbered}
use Rattle.rl_defs.specs.declared.code.Register.{Register}
use Rattle.rl_defs.specs.declared.code.MathOp.TheVariants as op
use Rattle.rl_defs.specs.declared.code.DomainLine.{DomainLine}
use Rattle.rl_defs.specs.Words.{is_name}
use Rattle.rl_defs.specs.Domains.{Lines}
use Rattle.rl_defs.specs.Tokens.{Name}
use Rattle.rl_text.specs.Canonical.{render_line}
use Rattle.rl_defs.specs.DomainForms.{spell_one, spell_line}
use Rattle.domain_code.specs.DomainCanonical.{depth_of, depth_behind, write_lines}
use Rattle.domain_code.specs.declared.verb.One.TheVariants as one
use Rattle.domain_code.specs.declared.verb.Two.TheVariants as pair
use Rattle.domain_code.specs.declared.verb.Three.TheVariants as triple
use Rattle.domain_code.specs.declared.verb.Named.TheVariants as named
use Rattle.domain_code.specs.declared.verb.Verb.{Verb}
use Rattle.domain_code.specs.declared.verb.Verb.TheVariants as verb
use Rattle.domain_code.specs.Verbs.{verb_text}

-- a register whose number has one digit, or two
pub one_digit : (r : Register) → r.number < 10 → Name (114 ∷ (48 + r.number) ∷ []) ∷ [] ≡ spell_one r
one_digit r less = ap (λ (ds : List ℕ). Name (114 ∷ ds) ∷ []) (sym (decimal_digit r.number less))

two_decimal : (n : ℕ) → 10 ≤ n → n < 32 → decimal n ≡ (48 + n / 10) ∷ (48 + n % 10) ∷ []
two_decimal n more below = decimal_step n more (omega arith) ∙ ap (λ (xs : List ℕ). xs ++ ((48 + n % 10) ∷ [])) (decimal_digit (n / 10) (omega arith))

pub two_digits : (r : Register) → 10 ≤ r.number → Name (114 ∷ (48 + r.number / 10) ∷ (48 + r.number % 10) ∷ []) ∷ [] ≡ spell_one r
two_digits r more = ap (λ (ds : List ℕ). Name (114 ∷ ds) ∷ []) (sym (two_decimal r.number more r.below))

-- the words that lines begin with are names
pub verb_name : (v : Verb) → is_name (verb_text v) ≡ true
verb_name verb.Domain = refl
verb_name verb.Words = refl
verb_name verb.Slot = refl
verb_name verb.Import = refl
verb_name verb.Native = refl
verb_name (verb.One one.DevSize) = refl
verb_name (verb.One one.Drop) = refl
verb_name (verb.Two pair.Copy) = refl
verb_name (verb.Two pair.Move) = refl
verb_name (verb.Two pair.Wget) = refl
verb_name (verb.Two pair.Wput) = refl
verb_name (verb.Two pair.DevGet) = refl
verb_name (verb.Two pair.DevPut) = refl
verb_name (verb.Three (triple.Math op.Add)) = refl
verb_name (verb.Three (triple.Math op.Sub)) = refl
verb_name (verb.Three (triple.Math op.Mul)) = refl
verb_name (verb.Three (triple.Math op.Div)) = refl
verb_name (verb.Three (triple.Math op.Rem)) = refl
verb_name (verb.Three (triple.Math op.And)) = refl
verb_name (verb.Three (triple.Math op.Or)) = refl
verb_name (verb.Three (triple.Math op.Xor)) = refl
verb_name (verb.Three (triple.Math op.Lt)) = refl
verb_name (verb.Three (triple.Math op.Eq)) = refl
verb_name (verb.Three triple.Get) = refl
verb_name (verb.Three triple.Set) = refl
verb_name (verb.Named named.Jz) = refl
verb_name (verb.Named named.Has) = refl
verb_name (verb.Named named.Cap) = refl
verb_name (verb.Named named.New) = refl
verb_name (verb.Named named.Take) = refl
verb_name verb.Jmp = refl
verb_name verb.Put = refl
verb_name verb.Hang = refl
verb_name verb.Unhang = refl
verb_name verb.Call = refl
verb_name verb.Ret = refl
verb_name verb.Trap = refl

-- ---- lines

pub lines_step : (xs : Lines) (i open_blocks : ℕ) (x : Numbered DomainLine) (before out new : List ℕ) → i < length xs → x ≡ get_or xs i x → before ≡ out ++ write_lines open_blocks (drop i xs) → new ≡ out ++ render_line (depth_of open_blocks x.form) (spell_line x.form) → before ≡ new ++ write_lines (depth_behind open_blocks x.form) (drop (i + 1) xs)
unfolding write_lines
lines_step xs i open_blocks x before out new lt is so_far new-is =
    let here : List ℕ = render_line (depth_of open_blocks x.form) (spell_line x.form) in
    let more : List ℕ = write_lines (depth_behind open_blocks x.form) (drop (i + 1) xs) in
    let one : write_lines open_blocks (drop i xs) ≡ here ++ more = at_drop_more (write_lines open_blocks) xs i x lt ∙ ap (λ (y : Numbered DomainLine). write_lines open_blocks (y ∷ drop (i + 1) xs)) (sym is) in
    so_far ∙ ap (λ (t : List ℕ). out ++ t) one ∙ sym (append_assoc out here more) ∙ ap (λ (t : List ℕ). t ++ more) (sym new-is)

pub lines_all : (xs : Lines) (i open_blocks : ℕ) (before out : List ℕ) → length xs ≤ i → before ≡ out ++ write_lines open_blocks (drop i xs) → out ≡ before
unfolding write_lines
lines_all xs i open_blocks before out le so_far = sym (so_far ∙ ap (λ (t : Lines). out ++ write_lines open_blocks t) (drop_all i xs le) ∙ append-nil out)
