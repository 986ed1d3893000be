-- What an accepted call may take for granted: the bounds that refusal 12 has tested, and that the search has not ended.
use Rattle.std.specs.Prelude.{◌≡◌, true, false, [], ℕ, ◌≤◌}
use Rattle.rules.specs.Numbers.{max_budget}
use Rattle.rules.specs.View.{is_ended, gathered_in}
use Rattle.rules.specs.Calls.{sound_phase, sound_rule, sound_counts, all_costs}
use Rattle.rules.specs.declared.Search.{Search}
use Rattle.rules.specs.declared.Phase.{Phase}
use Rattle.rules.specs.declared.Phase.TheVariants.{Mirroring, Checking}
use Rattle.rules.specs.declared.Keeping.{Keeping}
use Rattle.rules.specs.declared.Keeping.TheVariants.{Told, Read}
use Rattle.rules.specs.declared.Decision.{Decision}
use Rattle.rules.specs.declared.Decision.TheVariants.{Go}

-- the companion that a phase reflects or asks; 0 where it has none
abbrev pub companion_in : Phase → ℕ
companion_in (Mirroring i) = i
companion_in (Checking i) = i
companion_in _ = 0

-- what the trial of a phase needs of its search
pub record Askable (s : Search) (phase : Phase) : Type 0 where
  pub low : 1 ≤ s.setup.n
  pub high : s.setup.n ≤ 8
  pub fits : gathered_in phase ≤ s.setup.n
  pub turns : companion_in phase ≤ s.setup.n
  pub live : is_ended phase ≡ false

-- what every step of a reading needs of its search; the phase's number is one of its trials, whichever companions have been read
pub record Ready (s : Search) : Type 0 where
  pub low : 1 ≤ s.setup.n
  pub high : s.setup.n ≤ 8
  pub rule : sound_rule s.setup.rule ≡ true
  pub phase : sound_phase s.setup.n s.readings [] s.phase ≡ true
  pub live : is_ended s.phase ≡ false
  pub counts : sound_counts max_budget s.counts ≡ true
  pub standing : all_costs s.standing.costs ≡ true
  pub gathered : all_costs s.gathered.costs ≡ true

-- the reading is kept as one of the reflections or companions 1 to n, if it is
abbrev pub Kept : ℕ → Keeping → Type 0
Kept n (Told i) = (1 ≤ i) × (i ≤ n)
Kept n (Read i) = (1 ≤ i) × (i ≤ n)
Kept n _ = Unit {0}

-- so it is by a decision
abbrev pub Placed : ℕ → Decision → Type 0
Placed n (Go keeping next) = Kept n keeping
Placed n _ = Unit {0}
