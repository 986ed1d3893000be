-- Laws on the last line of a search: nothing was read, the best is shown, or best is refused. Assumes nothing.
use mathlib.Core.Path.{◌≡◌}
use borrow.Author.Tests.{eq-eqb, ne_eqb}
use Rattle.std.specs.Prelude.{◌≢◌, Ok, Err}
use Rattle.rules.specs.Refusals.{number_of}
use Rattle.rules.specs.Calls.{showing}
use Rattle.rules.specs.declared.Refusal.{Refusal}
use Rattle.rules.specs.declared.Search.{Search}
use Rattle.rules.specs.declared.Vertex.{Vertex}
use Rattle.tune_text.specs.Lines.{best_line, end_line, refused_line}
use Rattle.tune_text.specs.Reading.{ending_of, search_end}

module _ (s : Search) where
  -- no reading was accepted
  pub end_unread : s.readings ≡ 0 → search_end s ≡ end_line (ending_of s.phase)
  unfolding search_end
  end_unread e = rw (eq-eqb s.readings 0 e)

  -- the best reading is shown
  pub end_shown : (v : Vertex) → s.readings ≢ 0 → showing s ≡ Ok v → search_end s ≡ best_line (ending_of s.phase) s.setup.n v
  unfolding search_end
  end_shown v h e = rw (ne_eqb s.readings 0 h, e)

  -- best is refused
  pub end_refused : (r : Refusal) → s.readings ≢ 0 → showing s ≡ Err r → search_end s ≡ refused_line (number_of r)
  unfolding search_end
  end_refused r h e = rw (ne_eqb s.readings 0 h, e)

-- the three last lines of a search
pub ruleset last_lines = (end_unread, end_shown, end_refused)
