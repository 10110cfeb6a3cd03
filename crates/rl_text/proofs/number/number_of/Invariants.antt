use Rattle.std.proofs.Common.{◌≡◌, ◌<◌, ◌^◌, take, true}
use Rattle.std.specs.List.{list_all}
use Rattle.std.specs.Str.Parse.{digits_value}
use Rattle.rl_text.proofs.NumberLaws.{is_digit_of}
use Rattle.rl_text.proofs.number.number_of.Given as goal

abbrev pub invariant-digits : goal.invariant-digits
invariant-digits l = record {
  all : list_all (is_digit_of l.radix) (take l.byte-index l.digits) ≡ true;
  value : l.value ≡ digits_value l.radix (take l.byte-index l.digits);
  fits : l.value < 2 ^ 64;
}
