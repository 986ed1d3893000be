-- Laws on a step over what is left of the input. Assumes nothing.
use mathlib.Core.List.{List, [], ◌∷◌}
use mathlib.Core.Path.{◌≡◌, sym}
use Prim.Native.Nat.{ℕ, ◌≤◌, ◌<◌}
use native.Mathlib.Omega.{arith}
use lib.Dec.{eqb, ltb}
use lib.ListN.{length, take, drop}
use mathlib.Core.Bool.{true, false}
use borrow.Author.Tests.{le-leb, lt-leb}
use Rattle.std.specs.Prelude.{Some, None}
use Rattle.std.specs.List.{position, position_or_len}
use Rattle.std.proofs.lemmas.List.{take_rest}
use Rattle.std.proofs.lemmas.Option.{cond_some}
use Rattle.std.proofs.lemmas.Bool.Decides.{nat_tests}
use Rattle.tune_text.specs.Scan.{index_of}
use Rattle.tune_text.specs.Fields.{newline}
use Rattle.tune_text.specs.Lines.{bad_line}
use Rattle.tune_text.specs.Reading.{line_read, last_line, is_over, is_done}
use Rattle.tune_text.specs.Transcript.{longest}
use Rattle.tune_text.specs.Steps.{line_step, last_step, passed, stepping}
use Rattle.tune_text.specs.declared.State.{State}
use Rattle.tune_text.proofs.Laws.Running.{step_done}

-- a whole line is left: it is read
pub step_on_line : (s : State) (left : List ℕ) (k : ℕ) → Some k ≡ position (λ x. eqb x newline) left
    → line_step s left ≡ passed s k (line_read s.progress.stage s.progress s.line (take k left))
unfolding line_step index_of
step_on_line s left k found =
    let at = cond_some (ltb (position_or_len (λ x. eqb x newline) left) (length left)) (position_or_len (λ x. eqb x newline) left) k (sym found) in
    rw (at.0, at.1)

-- a line with no newline is left: it is bad
pub step_without_newline : (s : State) (left : List ℕ) → 0 < length left → None ≡ position (λ x. eqb x newline) left
    → line_step s left ≡ last_step s (bad_line s.line)
unfolding line_step index_of
step_without_newline s [] some none = absurd (omega arith)
step_without_newline s (x ∷ xs) some none = grind (arith, nat_tests)

module _ (s : State) (bytes : List ℕ) where
  -- the input is too long
  pub step_too_long : is_done s.progress.stage ≡ false → 65536 < length bytes → stepping bytes s ≡ last_step s (bad_line 0)
  unfolding stepping
  step_too_long d h = rw (d, lt-leb (length bytes) longest h)

  -- the search is over: its last line is printed
  pub step_over :
      is_done s.progress.stage ≡ false → length bytes ≤ 65536 → is_over s.progress.stage s.progress.search ≡ true
      → stepping bytes s ≡ last_step s (last_line s.progress.stage s.progress.search)
  unfolding stepping
  step_over d h o = rw (d, le-leb (length bytes) longest h, o)

  -- else what is left of the input is read
  pub step_on :
      is_done s.progress.stage ≡ false → length bytes ≤ 65536 → is_over s.progress.stage s.progress.search ≡ false
      → stepping bytes s ≡ line_step s (drop s.position bytes)
  unfolding stepping
  step_on d h o = rw (d, le-leb (length bytes) longest h, o)

-- the four cases of a step
pub ruleset steps = (step_done, step_too_long, step_over, step_on)

-- the two cases of a step that reads a line
pub ruleset line_steps = (take_rest, step_on_line, step_without_newline)
