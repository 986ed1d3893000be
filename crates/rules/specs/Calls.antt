-- "Refused calls", the rows of the later calls: ask, tell and best, their refusals in table order, and their answers.
use Rattle.std.specs.Prelude.{Bool, true, cond, not, ◌&&◌, ◌||◌, List, [], ◌∷◌, ℕ, zero, suc, ◌+◌, ◌*◌, get_or, take, leb, ltb, eqb, Result, Ok, Err, Float}
use Rattle.rules.specs.Binary64.{0ᶠ}
use Rattle.rules.specs.Numbers.{max_cost, max_budget, max_spread}
use Rattle.rules.specs.Simplex.{first_of, unpack}
use Rattle.rules.specs.View.{is_ended, gathered_in}
use Rattle.rules.specs.Trial.{axis, within, entry, trial}
use Rattle.rules.specs.Stop.{suits}
use Rattle.rules.specs.Accept.{accept}
use Rattle.rules.specs.Refusals.{Verdict, check, answered}
use Rattle.rules.specs.declared.Method.{Method}
use Rattle.rules.specs.declared.Method.TheVariants.{NelderMead, Multidirectional}
use Rattle.rules.specs.declared.Rule.{Rule}
use Rattle.rules.specs.declared.Rule.TheVariants.{Spread, Moved, Size}
use Rattle.rules.specs.declared.Phase.{Phase}
use Rattle.rules.specs.declared.Phase.TheVariants.{Building, Reflecting, Expanding, Contracting, Shrinking, Basing, Mirroring, Checking, Probing, Ended}
use Rattle.rules.specs.declared.Vertex.{Vertex}
use Rattle.rules.specs.declared.Simplex.{Simplex}
use Rattle.rules.specs.declared.Counts.{Counts}
use Rattle.rules.specs.declared.Setup.{Setup}
use Rattle.rules.specs.declared.Search.{Search}
use Rattle.rules.specs.declared.Asked.{Asked}
use Rattle.rules.specs.declared.Refusal.{Refusal}
use Rattle.rules.specs.declared.Refusal.TheVariants.{SearchEnded, CostTooHigh, WrongNumber, NoReading, Damaged}

-- not "a phase's vertex or probe number outside that phase's trials", ns being the numbers of the standing places: trial 0 is one of a build's
-- only before the first reading, and a companion is asked only where it is unread
abbrev pub sound_phase : ℕ → ℕ → List ℕ → Phase → Bool
sound_phase n readings ns (Building i) = leb i n && (eqb readings 0 || leb 1 i)
sound_phase n readings ns Reflecting = true
sound_phase n readings ns Expanding = true
sound_phase n readings ns (Contracting side) = true
sound_phase n readings ns (Shrinking j) = leb 1 j && leb j n
sound_phase n readings ns Basing = true
sound_phase n readings ns (Mirroring i) = leb 1 i && leb i n
sound_phase n readings ns (Checking i) = leb 1 i && leb i n && eqb (get_or ns i 0) 0
sound_phase n readings ns (Probing p) = ltb p (2 * n)
sound_phase n readings ns (Ended cause) = true

-- how many vertices stand: "before the first build ends it is empty", and from then on place 1 has a reading; "No simplex stands in this method"
abbrev pub standing_in : Method → ℕ → Simplex → ℕ
standing_in Multidirectional n places = 0
standing_in NelderMead n places = cond (eqb (get_or places.numbers 0 0) 0) 0 (n + 1)

-- the standing simplex
abbrev pub standing_of : Search → List Vertex
standing_of s = unpack (standing_in s.method s.setup.n s.standing) s.standing

-- how many gathered vertices are held to cost order: "the order claim and its check .. belong to Nelder-Mead"
abbrev pub ordered_in : Method → Phase → ℕ
ordered_in Multidirectional p = 0
ordered_in NelderMead p = gathered_in p

-- not "out of cost order"
unfoldable pub in_order : List ℕ → Bool
in_order [] = true
in_order (c ∷ []) = true
in_order (c ∷ (d ∷ ds)) = leb c d && in_order (d ∷ ds)

-- not "a held cost above 16,777,215"
unfoldable pub all_costs : List ℕ → Bool
all_costs [] = true
all_costs (c ∷ cs) = leb c max_cost && all_costs cs

-- not "a spread E above 4,294,967,295"
abbrev pub sound_rule : Rule → Bool
sound_rule (Spread e) = leb e max_spread
sound_rule (Moved e) = true
sound_rule (Size e) = true

-- not "a count above the budget" b
abbrev pub sound_counts : ℕ → Counts → Bool
sound_counts b c = leb c.builds b && leb c.reflections b && leb c.expansions b && leb c.contractions b && leb c.shrinks b && leb c.patterns b && leb c.probes b && leb c.unfinished b && leb c.directed b

-- f holds of the first k, as of the axes and of the companions below
unfoldable pub every : (ℕ → Bool) → ℕ → Bool
every f zero = true
every f (suc k) = every f k && f k

-- clamping does not change companion i on the first n axes, in this run of points
abbrev pub companion_within : Setup → List Float → ℕ → Bool
companion_within t ps i = every (λ a. within (axis t a) (entry ps a i)) t.n

-- not "any with a companion that clamping changes"; none stands while the base is asked
abbrev pub sound_companions : Method → Phase → Setup → List Float → Bool
sound_companions NelderMead p t ps = true
sound_companions Multidirectional Basing t ps = true
sound_companions Multidirectional p t ps = every (λ k. companion_within t ps (suc k)) t.n

-- none of the causes of refusal 12, in the order of its row and then of document 02, by what it reads: setup, method, phase, readings and
-- counts, the standing places, the costs of the gathered ones, the best cost
unfoldable pub sound : Setup → Method → Phase → ℕ → Counts → Simplex → List ℕ → ℕ → Bool
sound t m phase readings c standing gathered best =
    leb 1 t.n && leb t.n 8
    && ltb readings t.budget && sound_counts t.budget c && leb t.budget max_budget
    && sound_rule t.rule && sound_phase t.n readings standing.numbers phase
    && in_order (take (standing_in m t.n standing) standing.costs) && in_order (take (ordered_in m phase) gathered)
    && all_costs standing.costs && all_costs gathered && leb best max_cost
    && suits m t.rule && sound_companions m phase t standing.points

-- the search s meets none of them
abbrev pub intact : Search → Bool
intact s = sound s.setup s.method s.phase s.readings s.counts s.standing s.gathered.costs s.best.cost

-- refusal 12 begins with "search not ended": an ended search never meets it
abbrev pub undamaged : Search → Bool
undamaged s = is_ended s.phase || intact s

-- ask: 12, 8
unfoldable pub ask_verdict : Search → Verdict
ask_verdict s = check (undamaged s) Damaged (check (not (is_ended s.phase)) SearchEnded (Ok tt))

-- tell: 12, 8, 10, 9
unfoldable pub tell_verdict : Search → ℕ → ℕ → Verdict
tell_verdict s number cost =
    check (undamaged s) Damaged
    (check (not (is_ended s.phase)) SearchEnded
    (check (eqb number (s.readings + 1)) WrongNumber
    (check (leb cost max_cost) CostTooHigh (Ok tt))))

-- best: 12, 11
unfoldable pub best_verdict : Search → Verdict
best_verdict s = check (undamaged s) Damaged (check (not (eqb s.readings 0)) NoReading (Ok tt))

-- ask: "Ask answers the trial and its reading number and changes nothing"
unfoldable pub asking : Search → Result Asked Refusal
asking s = answered (ask_verdict s) (record { number = s.readings + 1; trial = trial s })

-- what a tell answers, and the search after it
pub record Told : Type 0 where
  pub verdict : Verdict
  pub search : Search

-- "A refused tell or query returns its number and the search as given"
abbrev pub told_by : Verdict → Search → ℕ → Told
told_by (Ok _) s c = record { verdict = Ok tt; search = accept s c }
told_by (Err r) s c = record { verdict = Err r; search = s }

-- tell, with its reading number and cost
unfoldable pub telling : Search → ℕ → ℕ → Told
telling s number cost = told_by (tell_verdict s number cost) s cost

-- best: the best reading; it changes nothing
unfoldable pub showing : Search → Result Vertex Refusal
showing s = answered (best_verdict s) (record { point = first_of s.setup.n 0ᶠ s.best.point; cost = s.best.cost; number = s.best.number })
