-- The worked texts, by computation. Assumes nothing.
use mathlib.Core.List.{map}
use mathlib.Core.Path.{◌≡◌, refl}
use Rattle.rules.proofs.Examples.{calls}
use Rattle.numerals.specs.Digits.{all_digits, value}
use Rattle.tune_text.specs.Fields.{cut, is_line}
use Rattle.std.specs.Fmt.{digits}
use Rattle.tune_text.specs.Lines.{coordinates}
use Rattle.tune_text.specs.Reading.{nothing_read, axes_read, cost_told, line_read, search_end, last_line}
use Rattle.tune_text.specs.Transcript.{lines_from, transcript}
use Rattle.tune_text.specs.Worked.{worked, printed_by, stated_by}

pub worked_texts : map printed_by worked ≡ map stated_by worked
unfolding calls cut all_digits value is_line digits coordinates nothing_read axes_read cost_told line_read search_end last_line lines_from transcript
worked_texts = refl
