use Rattle.trampolines.proofs.Agreeing.{same_top, same_below, same_others, same_frames}
use Rattle.trampolines.proofs.laws.words_agree.Goals as goal

pub returns : goal.returns
returns c = record { top = same_top; below_top = same_below; frames_of = same_frames; others_in = same_others }
