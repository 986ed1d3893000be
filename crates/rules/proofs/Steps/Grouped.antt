-- The invariant of every multidirectional search that an opening and calls have made, and of a search of either method. Assumes nothing.
use mathlib.Core.Path.{◌≡◌}
use mathlib.Core.Bool.{true, false}
use mathlib.Core.List.{List, [], Memᴰ}
use mathlib.Core.Logic.{◌⊎◌, ⊎_map}
use Prim.Native.Nat.{ℕ, ◌+◌, ◌-◌, ◌*◌, ◌≤◌, ◌<◌}
use lib.ListN.{length, get_or}
use lib.Ieee.{Float}
use Rattle.rules.specs.Simplex.{pack}
use Rattle.rules.specs.Trial.{made}
use Rattle.rules.specs.Companions.{unread_at, group}
use Rattle.rules.specs.Count.{same, count_in}
use Rattle.rules.specs.Stop.{suits}
use Rattle.rules.specs.declared.Method.TheVariants.{Multidirectional}
use Rattle.rules.specs.declared.Piece.{Piece}
use Rattle.rules.specs.declared.Piece.TheVariants.{Pattern}
use Rattle.rules.specs.declared.Vertex.{Vertex}
use Rattle.rules.specs.declared.Simplex.{Simplex}
use Rattle.rules.specs.declared.Counts.{Counts}
use Rattle.rules.specs.declared.Setup.{Setup}
use Rattle.rules.specs.declared.Search.{Search}
use Rattle.rules.specs.declared.Phase.{Phase}
use Rattle.rules.specs.declared.Phase.TheVariants.{Basing, Mirroring, Checking, Probing, Ended}
use Rattle.rules.specs.declared.Cause.TheVariants.{Settled, Budget}
use Rattle.rules.proofs.Steps.Invariant.{Noted, Gathers, Inv}

-- c is an unread companion, made of the numbers f, with so many stops; Q tells how such numbers came about
pub record Unread (Q : (ℕ → Float) → Type 0) (t : Setup) (c : Vertex) (stops : ℕ) : Type 0 where
  pub f : ℕ → Float
  pub origin : Q f
  pub are : c ≡ unread_at (made t t.n f)
  pub count : stops ≡ (made t t.n f).stops

-- c is a companion: one of the readings, or unread
abbrev pub Companion : ((ℕ → Float) → Type 0) → List Vertex → Setup → Vertex → ℕ → Type 0
Companion Q rs t c stops = Memᴰ c rs ⊎ Unread Q t c stops

-- the base b stands with its companions
pub record Grouped (Q : ℕ → (ℕ → Float) → Type 0) (rs : List Vertex) (t : Setup) (b : Vertex) (stops : List ℕ) (standing : Simplex) : Type 0 where
  pub f : ℕ → Vertex
  pub are : standing ≡ pack (group b f t.n)
  pub each : (i : ℕ) → 1 ≤ i → i ≤ t.n → Companion (Q i) rs t (f i) (get_or stops i 0)

-- nothing of Nelder-Mead counts; every other reading but the first was told in an iteration or as a probe, and a finished iteration took some
pub record Directed (n readings : ℕ) (c : Counts) : Type 0 where
  pub none : (p : Piece) → same p Pattern ≡ false → count_in p c ≡ 0
  pub none_open : c.unfinished ≡ 0
  pub equation : readings ≡ (1 - (1 - readings)) + c.directed + c.probes
  pub some : c.patterns ≤ c.directed
  pub few : c.directed ≤ 2 * n * (c.patterns + 1)

-- the running iteration has told at most k readings
abbrev pub Told : ℕ → ℕ → Counts → Type 0
Told k n c = c.directed ≤ 2 * n * c.patterns + k

-- reflection i is asked: those told before it are gathered
pub record AtMirror (i n : ℕ) (gs : List Vertex) (readings : ℕ) (c : Counts) : Type 0 where
  pub low : 1 ≤ i
  pub high : i ≤ n
  pub many : length gs ≡ i - 1
  pub some : 1 ≤ readings
  pub told : Told (i - 1) n c

-- companion i is asked, which is unread
pub record AtCheck (i n : ℕ) (numbers : List ℕ) (readings : ℕ) (c : Counts) : Type 0 where
  pub low : 1 ≤ i
  pub high : i ≤ n
  pub unread : get_or numbers i 0 ≡ 0
  pub some : 1 ≤ readings
  pub told : Told (n + (i - 1)) n c

-- a probe is asked
pub record AtProbe (p n readings : ℕ) (c : Counts) : Type 0 where
  pub low : p < 2 * n
  pub some : 1 ≤ readings
  pub told : Told 0 n c

-- what holds in each phase; those of the other method never come
abbrev pub AtMulti : Phase → Setup → List Vertex → List ℕ → ℕ → Counts → Type 0
AtMulti Basing t gs numbers readings c = readings ≡ 0
AtMulti (Mirroring i) t gs numbers readings c = AtMirror i t.n gs readings c
AtMulti (Checking i) t gs numbers readings c = AtCheck i t.n numbers readings c
AtMulti (Probing p) t gs numbers readings c = AtProbe p t.n readings c
AtMulti (Ended Settled) t gs numbers readings c = Unit {0}
AtMulti (Ended Budget) t gs numbers readings c = readings ≡ t.budget
AtMulti _ t gs numbers readings c = ⊥

-- rs: the readings of s; Q tells of which numbers a companion may be made
pub record MultiOf (Q : ℕ → (ℕ → Float) → Type 0) (rs : List Vertex) (s : Search) : Type 0 where
  pub method : s.method ≡ Multidirectional
  pub rule : suits Multidirectional s.setup.rule ≡ true
  pub gs : List Vertex
  pub noted : Noted rs s.setup s.readings s.best
  pub gathers : Gathers rs gs s.gathered
  pub blank : s.readings ≡ 0 → s.standing ≡ pack []
  pub grouped : 1 ≤ s.readings → Grouped Q rs s.setup s.best s.stops s.standing
  pub counts : Directed s.setup.n s.readings s.counts
  pub phase : AtMulti s.phase s.setup gs s.standing.numbers s.readings s.counts

-- of whichever numbers
abbrev pub Whichever : ℕ → (ℕ → Float) → Type 0
Whichever i f = Unit {0}

-- of none, where no companion is made yet
abbrev pub NoneYet : ℕ → (ℕ → Float) → Type 0
NoneYet i f = ⊥

abbrev pub Multi : List Vertex → Search → Type 0
Multi rs s = MultiOf Whichever rs s

-- what is true of some numbers is true of more
pub unread_more : {Q P : (ℕ → Float) → Type 0} (t : Setup) (c : Vertex) (stops : ℕ) → ((f : ℕ → Float) → Q f → P f) → Unread Q t c stops → Unread P t c stops
unread_more t c stops h u = record { f = u.f; origin = h u.f u.origin; are = u.are; count = u.count }

pub grouped_more : {Q P : ℕ → (ℕ → Float) → Type 0} (rs : List Vertex) (t : Setup) (b : Vertex) (stops : List ℕ) (standing : Simplex) → ((i : ℕ) (f : ℕ → Float) → Q i f → P i f)
    → Grouped Q rs t b stops standing → Grouped P rs t b stops standing
grouped_more rs t b stops standing h g =
    record { f = g.f; are = g.are; each = λ i a c. ⊎_map (λ m. m) (λ u. unread_more t (g.f i) (get_or stops i 0) (h i) u) (g.each i a c) }

pub multi_more : {Q P : ℕ → (ℕ → Float) → Type 0} (rs : List Vertex) (s : Search) → ((i : ℕ) (f : ℕ → Float) → Q i f → P i f) → MultiOf Q rs s → MultiOf P rs s
multi_more rs s h inv =
    record {
      method = inv.method;
      rule = inv.rule;
      gs = inv.gs;
      noted = inv.noted;
      gathers = inv.gathers;
      blank = inv.blank;
      grouped = λ l. grouped_more rs s.setup s.best s.stops s.standing h (inv.grouped l);
      counts = inv.counts;
      phase = inv.phase;
    }

-- a search of either method
abbrev pub AnyOf : (ℕ → (ℕ → Float) → Type 0) → List Vertex → Search → Type 0
AnyOf Q rs s = Inv rs s ⊎ MultiOf Q rs s

abbrev pub Any : List Vertex → Search → Type 0
Any rs s = AnyOf Whichever rs s

pub any_more : {Q P : ℕ → (ℕ → Float) → Type 0} (rs : List Vertex) (s : Search) → ((i : ℕ) (f : ℕ → Float) → Q i f → P i f) → AnyOf Q rs s → AnyOf P rs s
any_more rs s h any = ⊎_map (λ i. i) (λ i. multi_more rs s h i) any
