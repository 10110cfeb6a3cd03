-- What a call has read and written, by the way in which it ended. Bytes are spoken of where the source and the sink tell them.
use Rattle.std.specs.Prelude.{◌≡◌, ℕ, ◌≤◌, ◌⊎◌, List, [], ◌∷◌, ◌++◌, length, codes, Option}
use Rattle.std.specs.Fmt.{decimal}
use Rattle.std.specs.Io.KnownBytes.{Appends, Consumes, IsAtEnd}
use Rattle.rl_io.specs.Whole.{AppendsShort}
use Rattle.bundle_format.specs.Formatted.{IsFormatted, IsTooWide, IsRefusedAt}
use Rattle.bundle_format.specs.declared.calm.Reply.{Reply}
use Rattle.bundle_format.specs.declared.calm.Reply.TheVariants as reply

-- what is printed where a line is refused
abbrev pub refusal_text : ℕ → ℕ → List ℕ
refusal_text n rule = codes "refused line " ++ (decimal n ++ (codes " rule " ++ (decimal rule ++ 10 ∷ [])))

-- Rule 1 or 2 refuses the bundle, and the text says where.
pub record IsRefusal (bytes text : List ℕ) : Type 0 where
  pub line : ℕ
  pub rule : ℕ
  pub refused : IsRefusedAt bytes line rule
  pub is : text ≡ refusal_text line rule

-- what the bytes of a bundle are answered
abbrev pub Answers : List ℕ → Reply → Type 0
Answers bytes (reply.Formatted text) = IsFormatted bytes text.items
Answers bytes (reply.Refused text) = IsRefusal bytes text.items
Answers bytes reply.TooWide = IsTooWide bytes

-- All that the source had left was read, to its end: these bytes, at most so many. There are no words.
pub record ReadWhole (limit : ℕ) (words : List (List ℕ)) (left left' : Option (List ℕ)) (bytes : List ℕ) : Type 0 where
  pub asked : words ≡ []
  pub came : Consumes left left' bytes
  pub end : IsAtEnd left'
  pub few : length bytes ≤ limit

-- All was read, and the whole formatted bundle was written.
pub record WasDone (limit : ℕ) (words : List (List ℕ)) (left left' given given' : Option (List ℕ)) : Type 0 where
  pub bytes : List ℕ
  pub text : List ℕ
  pub read : ReadWhole limit words left left' bytes
  pub answer : IsFormatted bytes text
  pub written : Appends given given' text

-- All was read, and the whole refusal was written.
pub record WasRefused (limit : ℕ) (words : List (List ℕ)) (left left' given given' : Option (List ℕ)) : Type 0 where
  pub bytes : List ℕ
  pub text : List ℕ
  pub read : ReadWhole limit words left left' bytes
  pub answer : IsRefusal bytes text
  pub written : Appends given given' text

-- All was read, and can't be written in its canonical spelling.
pub record WasTooWide (limit : ℕ) (words : List (List ℕ)) (left left' : Option (List ℕ)) : Type 0 where
  pub bytes : List ℕ
  pub read : ReadWhole limit words left left' bytes
  pub answer : IsTooWide bytes

-- All was read, and a front of the text that answers it was written, but not the whole text.
pub record WasCutOff (limit : ℕ) (words : List (List ℕ)) (left left' given given' : Option (List ℕ)) : Type 0 where
  pub bytes : List ℕ
  pub text : List ℕ
  pub read : ReadWhole limit words left left' bytes
  pub answer : IsFormatted bytes text ⊎ IsRefusal bytes text
  pub written : AppendsShort given given' text
