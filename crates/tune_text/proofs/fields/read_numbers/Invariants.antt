-- `tune_text::fields::read_numbers`: the line's numbers are those that are read and those of the fields that are left. The measure is how many are to be read.
use Rattle.std.proofs.Common.{◌≡◌, ◌-◌, length, take}
use Rattle.tune_text.specs.Handed.{numbers_read}
use Rattle.tune_text.proofs.Laws.Splitting.{left, outcome}
use Rattle.tune_text.proofs.fields.read_numbers.Given as goal

abbrev pub invariant-loop-number : goal.invariant-loop-number
invariant-loop-number g l = record {
  sized : length l.number-items ≡ g.row.K;
  whole : numbers_read l.form g.row.K l.line ≡ outcome l.form g.row.K (take l.number-index l.number-items) (left l.fields);
}

abbrev pub decreases-loop-number : goal.decreases-loop-number
decreases-loop-number g l = l.number-index-end - l.number-index
