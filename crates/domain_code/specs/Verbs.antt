-- The words that lines of the domain part begin with, but for the reserved ones.
use Rattle.std.specs.Prelude.{ℕ, ◌==◌, List, [], ◌∷◌, Option, None, find, if◌then◌else◌, codes}
use Rattle.std.specs.Cmp.Lexicographic.{pointwise}
use Rattle.rl_defs.specs.declared.code.MathOp.{MathOp}
use Rattle.rl_defs.specs.declared.code.MathOp.TheVariants as op
use Rattle.rl_defs.specs.DomainForms.{spell_op}
use Rattle.domain_code.specs.declared.verb.One.{One}
use Rattle.domain_code.specs.declared.verb.One.TheVariants as one
use Rattle.domain_code.specs.declared.verb.Two.{Two}
use Rattle.domain_code.specs.declared.verb.Two.TheVariants as two
use Rattle.domain_code.specs.declared.verb.Three.{Three}
use Rattle.domain_code.specs.declared.verb.Three.TheVariants as three
use Rattle.domain_code.specs.declared.verb.Named.{Named}
use Rattle.domain_code.specs.declared.verb.Named.TheVariants as named
use Rattle.domain_code.specs.declared.verb.Verb.{Verb}
use Rattle.domain_code.specs.declared.verb.Verb.TheVariants as verb

abbrev pub one_text : One → List ℕ
one_text one.DevSize = codes "devsize"
one_text one.Drop = codes "drop"

abbrev pub two_text : Two → List ℕ
two_text two.Copy = codes "copy"
two_text two.Move = codes "move"
two_text two.Wget = codes "wget"
two_text two.Wput = codes "wput"
two_text two.DevGet = codes "devget"
two_text two.DevPut = codes "devput"

abbrev pub three_text : Three → List ℕ
three_text (three.Math o) = spell_op o
three_text three.Get = codes "get"
three_text three.Set = codes "set"

abbrev pub named_text : Named → List ℕ
named_text named.Jz = codes "jz"
named_text named.Has = codes "has"
named_text named.Cap = codes "cap"
named_text named.New = codes "new"
named_text named.Take = codes "take"

-- the bytes of a word
abbrev pub verb_text : Verb → List ℕ
verb_text verb.Domain = codes "domain"
verb_text verb.Words = codes "words"
verb_text verb.Slot = codes "slot"
verb_text verb.Import = codes "import"
verb_text verb.Native = codes "native"
verb_text (verb.One v) = one_text v
verb_text (verb.Two v) = two_text v
verb_text (verb.Three v) = three_text v
verb_text (verb.Named v) = named_text v
verb_text verb.Jmp = codes "jmp"
verb_text verb.Put = codes "put"
verb_text verb.Hang = codes "hang"
verb_text verb.Unhang = codes "unhang"
verb_text verb.Call = codes "call"
verb_text verb.Ret = codes "ret"
verb_text verb.Trap = codes "trap"

-- the first of these words that has these bytes
unfoldable pub among : List Verb → List ℕ → Option Verb
among verbs word = find (λ v. pointwise ◌==◌ (verb_text v) word) verbs

abbrev pub math : MathOp → Verb
math o = verb.Three (three.Math o)

-- the words that begin with a letter
abbrev pub with_letter : ℕ → List Verb
with_letter c =
    if c == 97 then math op.Add ∷ math op.And ∷ [] else
    (if c == 99 then verb.Two two.Copy ∷ verb.Named named.Cap ∷ verb.Call ∷ [] else
    (if c == 100 then verb.Domain ∷ verb.One one.Drop ∷ math op.Div ∷ verb.Two two.DevGet ∷ verb.Two two.DevPut ∷ verb.One one.DevSize ∷ [] else
    (if c == 101 then math op.Eq ∷ [] else
    (if c == 103 then verb.Three three.Get ∷ [] else
    (if c == 104 then verb.Named named.Has ∷ verb.Hang ∷ [] else
    (if c == 105 then verb.Import ∷ [] else
    (if c == 106 then verb.Jmp ∷ verb.Named named.Jz ∷ [] else
    (if c == 108 then math op.Lt ∷ [] else
    (if c == 109 then verb.Two two.Move ∷ math op.Mul ∷ [] else
    (if c == 110 then verb.Named named.New ∷ verb.Native ∷ [] else
    (if c == 111 then math op.Or ∷ [] else
    (if c == 112 then verb.Put ∷ [] else
    (if c == 114 then verb.Ret ∷ math op.Rem ∷ [] else
    (if c == 115 then verb.Three three.Set ∷ math op.Sub ∷ verb.Slot ∷ [] else
    (if c == 116 then verb.Named named.Take ∷ verb.Trap ∷ [] else
    (if c == 117 then verb.Unhang ∷ [] else
    (if c == 119 then verb.Two two.Wget ∷ verb.Two two.Wput ∷ verb.Words ∷ [] else
    (if c == 120 then math op.Xor ∷ [] else []))))))))))))))))))

-- the word of these bytes, of those that begin with a letter
abbrev pub beginning : ℕ → List ℕ → Option Verb
beginning c word = among (with_letter c) word

-- the word of these bytes
unfoldable pub verb_of : List ℕ → Option Verb
verb_of [] = None
verb_of (c ∷ cs) = beginning c (c ∷ cs)
