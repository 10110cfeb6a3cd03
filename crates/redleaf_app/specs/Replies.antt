-- What the bytes of a bundle are answered.
use Rattle.std.specs.Prelude.{ℕ, List}
use Rattle.rl_defs.specs.declared.load.LoadRows.{LoadRows}
use Rattle.redleaf_app.specs.declared.command.Command.{Command}
use Rattle.redleaf_app.specs.declared.reply.Reply.{Reply}
use Rattle.redleaf_app.specs.declared.reply.Reply.TheVariants as reply
use Rattle.redleaf_app.specs.Outcomes.{IsAnswer, IsRefusal, IsFull, IsTextOfRun, IsTextOfFull, IsTextOfNative}

-- the text is the command's answer to the bytes, or its refusal of them, or tells of a run of them
-- that filled the history
abbrev pub Answers : Command → List ℕ → Reply → Type 0
Answers c bytes (reply.Answered text) = IsAnswer c bytes text.items
Answers c bytes (reply.Refused text) = IsRefusal c bytes text.items
Answers c bytes (reply.Long text) = IsFull c bytes text.items

-- the text is that of a run of the load, to its end or until the history was full, or says that the
-- load isn't built
abbrev pub TellsRunOf : LoadRows → Reply → Type 0
TellsRunOf L (reply.Answered text) = IsTextOfRun L text.items
TellsRunOf L (reply.Refused text) = IsTextOfNative L text.items
TellsRunOf L (reply.Long text) = IsTextOfFull L text.items
