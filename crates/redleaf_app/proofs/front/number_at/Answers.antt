use Rattle.std.proofs.Common.{◌++◌, sym, ap, ◌∙◌}
use Rattle.std.proofs.lemmas.List.{take-append-drop}
use Rattle.redleaf_app.proofs.Numbers.{digits_len_le, all_digits_len, drop-digits_len, number_is}
use Rattle.redleaf_app.proofs.front.number_at.Goals as goal

pub split_at-requires : goal.split_at-requires
split_at-requires c = rw c.digits_len.ensures (digits_len_le c.args.bytes.now)

pub number_of-requires : goal.number_of-requires
number_of-requires c = rw (c.split_at.ensures.front, c.digits_len.ensures) (all_digits_len c.args.bytes.now)

pub returns-in_err-number_of-clause-none : goal.returns-in_err-number_of-clause-none
returns-in_err-number_of-clause-none c =
    rw c.from_residual.ensures (λ n rest lt none e. c.in_err-number_of.ensures n lt (rw (c.split_at.ensures.front, c.digits_len.ensures) (number_is c.args.bytes.now n rest lt none e)))

pub returns-clause-found : goal.returns-clause-found
returns-clause-found c = (
  sym (take-append-drop c.digits_len.result c.args.bytes.now) ∙ rw (← c.split_at.ensures.front, ← c.split_at.ensures.back) (ap (λ xs. xs ++ c.split_at.result.1.now) c.in_ok-number_of.ensures.0),
  c.in_ok-number_of.ensures.1,
  rw (c.split_at.ensures.back, c.digits_len.ensures) (drop-digits_len c.args.bytes.now),
)
