-- `numerals::from_digits`: the bytes so far are digits, and the number is theirs and fits.
use Rattle.std.proofs.Common.{◌≡◌, ◌^◌, ◌<◌, true, take}
use Rattle.numerals.specs.Digits.{all_digits, value}
use Rattle.numerals.proofs.from_digits.Given as goal

abbrev pub invariant-loop-x : goal.invariant-loop-x
invariant-loop-x l = record {
  small : l.number < 2 ^ 64;
  digits : all_digits l.base (take l.x-index l.field) ≡ true;
  so_far : l.number ≡ value l.base 0 (take l.x-index l.field);
}
