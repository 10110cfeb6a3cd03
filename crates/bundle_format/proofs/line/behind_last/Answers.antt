use Rattle.std.proofs.Common.{arith}
use Rattle.rl_text.specs.Places.{text_of}
use Rattle.bundle_format.proofs.Ends.{no_token, end_is, end_within}
use Rattle.bundle_format.proofs.line.behind_last.Goals as goal

pub overflow_sub-result : goal.overflow_sub-result
overflow_sub-result c =
    let r = c.requires in
    let e = end_is c.args.line.now.start no_token r.0 c.args.tokens.now r.2 c.in-len1-up.len_at_least in
    omega (arith, e)

pub returns-in-len1-up-clause-ends : goal.returns-in-len1-up-clause-ends
returns-in-len1-up-clause-ends c =
    let r = c.requires in
    let e = end_is c.args.line.now.start no_token r.0 c.args.tokens.now r.2 c.in-len1-up.len_at_least in
    (r.0, r.1, omega (arith, e))

pub returns-in-len1-up-clause-within : goal.returns-in-len1-up-clause-within
returns-in-len1-up-clause-within c =
    let r = c.requires in
    let e = end_is c.args.line.now.start no_token r.0 c.args.tokens.now r.2 c.in-len1-up.len_at_least in
    omega (arith, e, end_within 0 r.0 (text_of c.args.bytes.now c.args.line.now) r.1.tokens)
