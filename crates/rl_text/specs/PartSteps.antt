-- Reading a part line by line, whatever its forms are.
use Rattle.std.specs.Prelude.{◌≡◌, ℕ, ◌⊎◌, List, [], ◌∷◌, ◌++◌, Option, Some, None, Result, Ok, Err}
use Rattle.rl_defs.specs.declared.LoadFault.{LoadFault}
use Rattle.rl_defs.specs.declared.LoadFault.TheVariants.{Refused, Memory}
use Rattle.rl_defs.specs.declared.bundle.Numbered.{Numbered}
use Rattle.rl_defs.specs.Tokens.{IsSkipped}
use Rattle.rl_defs.specs.Parts.{Grammar, numbered}
use Rattle.rl_text.specs.Forms.{IsRefused}

-- what code answers of where a line leads, if it may stand there: its block, which stands for a block of the grammar
abbrev pub GivesBlock : {Block Code : Type 0} → (Code → Block) → Option Code → Option Block → Type 0
GivesBlock block_of None next = next ≡ None
GivesBlock block_of (Some block) next = next ≡ Some (block_of block)

-- a line with tokens that may stand there
pub record Stands {Form Block : Type 0} (G : Grammar Form Block) (number : ℕ) (text : List ℕ) (block next : Block) (old new : List (Numbered Form)) : Type 0 where
  pub form : Form
  pub is : G.is_line form text
  pub allowed : G.next block form ≡ Some next
  pub put : new ≡ old ++ numbered number form ∷ []

-- a line without tokens changes nothing
pub record Skips {Form Block : Type 0} (text : List ℕ) (block next : Block) (old new : List (Numbered Form)) : Type 0 where
  pub skipped : IsSkipped text
  pub same_block : next ≡ block
  pub same_lines : new ≡ old

-- a line that may not stand there
pub record Barred {Form Block : Type 0} (G : Grammar Form Block) (text : List ℕ) (block : Block) : Type 0 where
  pub form : Form
  pub is : G.is_line form text
  pub barred : G.next block form ≡ None

-- What became of a line behind the lines so far: the block behind it, as the code's block stands for it, or rule 1 or 2.
abbrev pub TakesLine : {Form Block Code : Type 0} → Grammar Form Block → (Code → Block) → ℕ → List ℕ → Code → List (Numbered Form) → List (Numbered Form) → Result Code LoadFault → Type 0
TakesLine G block_of number text block old new (Ok next) = Skips text (block_of block) (block_of next) old new ⊎ Stands G number text (block_of block) (block_of next) old new
TakesLine G block_of number text block old new (Err (Refused at)) = (at.line ≡ number) × (((at.rule ≡ 1) × IsRefused G.is_line text) ⊎ ((at.rule ≡ 2) × Barred G text (block_of block)))
TakesLine G block_of number text block old new (Err Memory) = Unit {0}
