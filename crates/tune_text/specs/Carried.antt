-- What the steps carry where costs are read: a search of the rules.
use Rattle.std.specs.Prelude.{List, ◌≡◌, Ok}
use Rattle.rules.specs.History.{Call, after}
use Rattle.tune_text.specs.Reading.{opening_of}
use Rattle.tune_text.specs.declared.Progress.{Progress}

-- the search that the steps carry where costs are read: an opening was accepted, and calls have made the search of it
pub record Carried (p : Progress) : Type 0 where
  pub accepted : (opening_of p.request).verdict ≡ Ok tt
  pub calls : List Call
  pub made : p.search ≡ after (opening_of p.request).search calls
