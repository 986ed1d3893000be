-- "Iteration", its table, the iteration of the multidirectional search, and the ends of builds, shrinks and probe rounds: what a reading decides, by
-- its phase and the costs. Of what a reading does, only the insertion and the best compare costs besides.
use Rattle.std.specs.Prelude.{Bool, cond, ℕ, ◌+◌, ◌-◌, ◌*◌, get_or, leb, ltb, eqb, Option, Some, None}
use Rattle.rules.specs.Companions.{next_unread}
use Rattle.rules.specs.declared.Search.{Search}
use Rattle.rules.specs.declared.Method.{Method}
use Rattle.rules.specs.declared.Method.TheVariants.{NelderMead, Multidirectional}
use Rattle.rules.specs.declared.Phase.{Phase}
use Rattle.rules.specs.declared.Phase.TheVariants.{Building, Reflecting, Expanding, Contracting, Shrinking, Basing, Mirroring, Checking, Probing, Ended}
use Rattle.rules.specs.declared.Side.{Side}
use Rattle.rules.specs.declared.Side.TheVariants.{Outside, Inside}
use Rattle.rules.specs.declared.Cause.TheVariants.{Settled}
use Rattle.rules.specs.declared.Piece.{Piece}
use Rattle.rules.specs.declared.Piece.TheVariants.{Build, Reflection, Expansion, Contraction, Shrink, Pattern}
use Rattle.rules.specs.declared.Newcomer.TheVariants.{Latest, Reflected}
use Rattle.rules.specs.declared.Keeping.{Keeping}
use Rattle.rules.specs.declared.Keeping.TheVariants.{Nothing, Joined, First, Told, Read}
use Rattle.rules.specs.declared.Change.{Change}
use Rattle.rules.specs.declared.Change.TheVariants.{Built, Mirrored, Swapped, Halved}
use Rattle.rules.specs.declared.Decision.{Decision}
use Rattle.rules.specs.declared.Decision.TheVariants.{Go, Take, Stand, Restart, Regroup}

-- "f1": the cost at place 1
abbrev pub f1 : Search → ℕ
f1 s = get_or s.standing.costs 0 0

-- "fn": the cost at place n
abbrev pub fn : Search → ℕ
fn s = get_or s.standing.costs (s.setup.n - 1) 0

-- "fw": the cost at place n+1
abbrev pub fw : Search → ℕ
fw s = get_or s.standing.costs s.setup.n 0

-- "cost fr": while e or a contraction is asked, r is the first of the gathered vertices
abbrev pub fr : Search → ℕ
fr s = get_or s.gathered.costs 0 0

-- trial i is the last of a build or a shrink, reflection i the last of an iteration
abbrev pub is_last : ℕ → Search → Bool
is_last i s = eqb i s.setup.n

-- with probe p "all 2n are told"
abbrev pub is_full : ℕ → Search → Bool
is_full p s = eqb (p + 1) (2 * s.setup.n)

-- the first row: "fr < f1", c being the cost that is told for r, here and in the next two
abbrev pub row1 : ℕ → Search → Bool
row1 c s = ltb c (f1 s)

-- the second row: "f1 ≤ fr < fn", the first being tried before
abbrev pub row2 : ℕ → Search → Bool
row2 c s = ltb c (fn s)

-- the third row: "fn ≤ fr < fw", the second being tried before; the fourth is what is left, "fr ≥ fw"
abbrev pub row3 : ℕ → Search → Bool
row3 c s = ltb c (fw s)

-- "take e if fe < fr"
abbrev pub wins_expanded : ℕ → Search → Bool
wins_expanded fe s = ltb fe (fr s)

-- the third row's "take it if fc ≤ fr", and the fourth's "take it if fc < fw"
abbrev pub wins : Side → ℕ → Search → Bool
wins Outside fc s = leb fc (fr s)
wins Inside fc s = ltb fc (fw s)

-- "The first reading lower than b's ends the round"
abbrev pub ends_round : ℕ → Search → Bool
ends_round f s = ltb f s.best.cost

-- "lower than the base", which stands at place 1
abbrev pub lower : ℕ → Search → Bool
lower f s = ltb f (f1 s)

-- "Otherwise it reads the unread companions in order", from the i-th on; "Otherwise companions become xi + ½·(x0 − xi)"
abbrev pub checks_from : ℕ → Keeping → Search → Decision
checks_from i keeping s =
    let j = next_unread s.setup.n s.standing.numbers i in
    cond (leb j s.setup.n) (Go keeping (Checking j)) (Regroup Halved)

-- "a restart builds around that point"; "A restart builds unread companions around the lower point"
abbrev pub restart : Method → Decision
restart NelderMead = Restart
restart Multidirectional = Regroup Built

-- what the cost f decides when it is told in each phase
unfoldable pub decided : Phase → Search → ℕ → Decision
decided (Building i) s f = cond (is_last i s) (Stand Build) (Go Joined (Building (i + 1)))
decided Reflecting s f =
    -- "ask e"; "take r"; "ask outside point"; "ask inside point"
    cond (row1 f s) (Go Joined Expanding)
    (cond (row2 f s) (Take Reflection Latest)
    (cond (row3 f s) (Go Joined (Contracting Outside)) (Go Joined (Contracting Inside))))
-- "take e .., else r"
decided Expanding s fe = Take Expansion (cond (wins_expanded fe s) Latest Reflected)
-- "take it .., else shrink"
decided (Contracting side) s fc = cond (wins side fc s) (Take Contraction Latest) (Go First (Shrinking 1))
-- "the simplex is replaced when all n are told"
decided (Shrinking j) s f = cond (is_last j s) (Stand Shrink) (Go Joined (Shrinking (j + 1)))
-- "A base x0 has n companions xi"
decided Basing s f = Regroup Built
-- "for i = 1 to n until one is lower than the base"
decided (Mirroring i) s f = cond (lower f s) (Regroup (Mirrored i)) (cond (is_last i s) (checks_from 1 (Told i) s) (Go (Told i) (Mirroring (i + 1))))
-- "until one is lower, which swaps"
decided (Checking i) s f = cond (lower f s) (Regroup (Swapped i)) (checks_from (i + 1) (Read i) s)
-- "If all 2n are told and none is lower, the search ends settled"
decided (Probing p) s f = cond (ends_round f s) (restart s.method) (cond (is_full p s) (Go Nothing (Ended Settled)) (Go Nothing (Probing (p + 1))))
decided (Ended cause) s f = Go Nothing (Ended cause)

-- a change ends a multidirectional iteration, except where companions are built: "readings are at most 1 + 2n·(finished iterations + 1) + probes"
abbrev pub completed : Change → Option Piece
completed Built = None
completed (Mirrored j) = Some Pattern
completed (Swapped j) = Some Pattern
completed Halved = Some Pattern

-- the piece that a decision finishes, if any
abbrev pub finished_by : Decision → Option Piece
finished_by (Go keeping next) = None
finished_by (Take piece who) = Some piece
finished_by (Stand piece) = Some piece
finished_by Restart = None
finished_by (Regroup change) = completed change
