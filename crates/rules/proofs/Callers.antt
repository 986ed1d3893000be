-- What each caller relies on, of every search that an opening and calls have made. Assumes nothing.
use Rattle.std.specs.Prelude.{Option, Result, Ok, Err}
use mathlib.Core.Path.{◌≡◌, refl, sym, ap, ◌∙◌, subst}
use mathlib.Core.Bool.{Bool, true, false, true≢false, cond, and-eq-true_iff, not}
use mathlib.Core.List.{List, [], ◌∷◌, ◌++◌, Memᴰ}
use mathlib.Core.Logic.{◌↔◌, ◌⊎◌, inl, inr, ⊎_elim}
use Prim.Native.Nat.{ℕ, ◌+◌, ◌-◌, ◌*◌, ◌≤◌, ◌<◌}
use native.Mathlib.Omega.{arith}
use lib.ListN.{length, get_or}
use lib.Ieee.{Float, nan}
use borrow.Author.Tests.{ne_eqb, eq-eqb, lt-leb, not-true}
use Rattle.std.proofs.lemmas.Bool.{cases_Bool, cases_lt}
use Rattle.rules.specs.Binary64.{◌≤ᶠ◌, ◌<ᶠ◌}
use Rattle.rules.specs.Numbers.{max_cost}
use Rattle.rules.specs.Simplex.{cost_of, point_of, place}
use Rattle.rules.specs.View.{is_ended}
use Rattle.rules.specs.Trial.{no_axis, within, target, trial}
use Rattle.rules.specs.Refusals.{Verdict, check, answered}
use Rattle.rules.specs.Opening.{opening, fresh}
use Rattle.rules.specs.Accept.{gathered_of}
use Rattle.rules.specs.Calls.{standing_of, undamaged, ask_verdict, tell_verdict, best_verdict, asking, telling, showing, told_by}
use Rattle.rules.specs.History.{Call, tell, Event, told, after1, after, run, costs_in, joins, history1, history_from, history, reading}
use Rattle.rules.specs.Claims.{IsRead, IsBest, Within, StopsOf, Claims}
use Rattle.rules.specs.declared.Method.{Method}
use Rattle.rules.specs.declared.Method.TheVariants.{NelderMead, Multidirectional}
use Rattle.rules.specs.declared.Rule.{Rule}
use Rattle.rules.specs.declared.Axis.{Axis}
use Rattle.rules.specs.declared.Coefficients.{Coefficients}
use Rattle.rules.specs.declared.Setup.{Setup}
use Rattle.rules.specs.declared.Phase.{Phase}
use Rattle.rules.specs.declared.Phase.TheVariants.{Building, Reflecting, Expanding, Contracting, Shrinking, Basing, Mirroring, Checking, Probing, Ended}
use Rattle.rules.specs.declared.Search.{Search}
use Rattle.rules.specs.declared.Asked.{Asked}
use Rattle.rules.specs.declared.Vertex.{Vertex}
use Rattle.rules.specs.declared.Refusal.{Refusal}
use Rattle.rules.specs.declared.Refusal.TheVariants.{SearchEnded, CostTooHigh, WrongNumber, NoReading, Damaged}
use Rattle.rules.proofs.Laws.Clamp.{lt_le}
use Rattle.rules.proofs.Laws.Openings.{opened_verdict, opened_fresh, opened_axis}
use Rattle.rules.proofs.Laws.Histories.{Joined}
use Rattle.rules.proofs.Runs.Begun.{Begun, whole_run, run_noted}
use Rattle.rules.proofs.Runs.Calling.{run_undamaged, all_follow}
use Rattle.rules.proofs.Runs.Telling.{before_here, cost_here, joins_next, one_more, told_by_call}
use Rattle.rules.proofs.Claim.{opened_begun, claim}

-- ---- the calls' verdicts on a search that is not damaged

-- an answer that is not refusal 12
abbrev pub Not12 : {A : Type 0} → Result A Refusal → Type 0
Not12 r = r ≡ Err Damaged → ⊥

-- what holds where a check passes and where it refuses holds of it
pub check_elim : (P : Verdict → Type 0) (b : Bool) {r : Refusal} {v : Verdict} → (b ≡ true → P v) → (b ≡ false → P (Err r)) → P (check b r v)
check_elim P true f g = f refl
check_elim P false f g = g refl

-- where ask is refused, a tell is refused alike and the search stays: the checks of ask come first in a tell
refused_alike : {A : Type 0} (u e : Bool) (v : Verdict) (x : A) (s : Search) (c : ℕ) (r : Refusal)
    → answered (check u Damaged (check (not e) SearchEnded (Ok tt))) x ≡ Err r → told_by (check u Damaged (check (not e) SearchEnded v)) s c ≡ record { verdict = Err r; search = s }
refused_alike true true v x s c r h = let same : SearchEnded ≡ r = cc in rw same
refused_alike true false v x s c r h = let none : ⊥ = cc in absurd none
refused_alike false e v x s c r h = let same : Damaged ≡ r = cc in rw same

pub ask_refused : (s : Search) (r : Refusal) → asking s ≡ Err r → (k c : ℕ) → telling s k c ≡ record { verdict = Err r; search = s }
unfolding asking telling ask_verdict tell_verdict
ask_refused s r h k c = refused_alike (undamaged s) (is_ended s.phase) _ _ s c r h

module _ (s : Search) (h : undamaged s ≡ true) where
  -- a number that is not the next is refused as 10, or as 8 where the search has ended
  tell_wrong : (k c : ℕ) → (k ≡ s.readings + 1 → ⊥) → telling s k c ≡ record { verdict = Err (cond (is_ended s.phase) SearchEnded WrongNumber); search = s }
  unfolding telling tell_verdict
  tell_wrong k c d = rw (h, ne_eqb k (s.readings + 1) d) (⊎_elim (λ e. rw e) (λ e. rw e) (cases_Bool (is_ended s.phase)))

  -- the next number with a cost above the largest is refused as 9
  tell_high : (k c : ℕ) → is_ended s.phase ≡ false → k ≡ s.readings + 1 → max_cost < c → telling s k c ≡ record { verdict = Err CostTooHigh; search = s }
  unfolding telling tell_verdict
  tell_high k c live e high = rw (h, live, eq-eqb k (s.readings + 1) e, lt-leb c max_cost high)

  -- ask is refused as 8 once the search has ended
  ask_ended : is_ended s.phase ≡ true → asking s ≡ Err SearchEnded
  unfolding asking ask_verdict
  ask_ended e = rw (h, e)

  -- best is refused as 11 before the first reading
  best_none : s.readings ≡ 0 → showing s ≡ Err NoReading
  unfolding showing best_verdict
  best_none e = rw (h, eq-eqb s.readings 0 e)

  -- no call on a search that is not damaged is refused as 12
  ask_not_12 : Not12 (asking s)
  unfolding asking ask_verdict
  ask_not_12 e = grind (arith, h)

  best_not_12 : Not12 (showing s)
  unfolding showing best_verdict
  best_not_12 e = grind (arith, h)

  tell_not_12 : (k c : ℕ) → Not12 (telling s k c).verdict
  unfolding telling tell_verdict
  tell_not_12 k c e = grind (arith, h)

-- a companion is asked in a phase, or not
checking_or_not : (p : Phase) → ((i : ℕ) × (p ≡ Checking i)) ⊎ ((i : ℕ) → p ≡ Checking i → ⊥)
checking_or_not (Checking i) = inl (i, refl)
checking_or_not (Building k) = inr (λ i e. absurd cc)
checking_or_not Reflecting = inr (λ i e. absurd cc)
checking_or_not Expanding = inr (λ i e. absurd cc)
checking_or_not (Contracting side) = inr (λ i e. absurd cc)
checking_or_not (Shrinking k) = inr (λ i e. absurd cc)
checking_or_not Basing = inr (λ i e. absurd cc)
checking_or_not (Mirroring k) = inr (λ i e. absurd cc)
checking_or_not (Probing p) = inr (λ i e. absurd cc)
checking_or_not (Ended cause) = inr (λ i e. absurd cc)

-- ---- one call more at the end of a list

-- the search after a list of calls and one call more is what that call makes of the search after the list
pub after_snoc : (s : Search) (cs : List Call) (c : Call) → after s (cs ++ c ∷ []) ≡ after1 (after s cs) c
unfolding after
after_snoc s [] c = refl
after_snoc s (d ∷ cs) c = after_snoc (after1 s d) cs c

-- the history after a list of calls and one call more is what that call makes of the history after the list
history_snoc : (o : Search) (h : List Event) (cs : List Call) (c : Call) → history_from o h (cs ++ c ∷ []) ≡ history1 o (history_from o h cs) c
unfolding history_from
history_snoc o h [] c = refl
history_snoc o h (d ∷ cs) c = history_snoc o (history1 o h d) cs c

-- ---- every opening that is not refused, and every list of calls

module _ (m : Method) (n : ℕ) (axes : List Axis) (rule : Option Rule) (coefficients : Coefficients) (budget : ℕ) (accepted : (opening m n axes rule coefficients budget).verdict ≡ Ok tt) where
  -- the search as opened
  abbrev pub opened_search : Search
  opened_search = (opening m n axes rule coefficients budget).search

  setup_given : opened_search.setup ≡ (fresh m n axes rule coefficients budget).setup
  setup_given = ap (λ s. s.setup) (opened_fresh m n axes rule coefficients budget accepted)

  method_given : opened_search.method ≡ m
  unfolding fresh
  method_given = ap (λ s. s.method) (opened_fresh m n axes rule coefficients budget accepted)

  -- what the calls have made of the opened search, their history, and the costs of it
  abbrev pub reached : List Call → Search
  reached cs = after opened_search cs

  abbrev pub accepted_history : List Call → List Event
  accepted_history cs = history opened_search cs

  abbrev pub accepted_costs : List Call → List ℕ
  accepted_costs cs = costs_in (accepted_history cs)

  claims : (cs : List Call) → Claims opened_search (accepted_history cs) (reached cs)
  claims = claim m n axes rule coefficients budget accepted

  begun : Begun opened_search
  begun = opened_begun m n axes rule coefficients budget accepted

  -- the search is that of the rules over an accepted history
  followed : (cs : List Call) → Joined opened_search (accepted_history cs) × (reached cs ≡ run opened_search (accepted_history cs))
  unfolding run Joined
  followed cs = all_follow opened_search begun cs [] tt

  -- refusal 12 is never given
  pub sound_always : (cs : List Call) → undamaged (reached cs) ≡ true
  sound_always cs = rw (followed cs).1 (run_undamaged opened_search begun (accepted_history cs) (followed cs).0)

  pub never_12 : (cs : List Call) → Not12 (asking (reached cs)) × ((k c : ℕ) → Not12 (telling (reached cs) k c).verdict) × Not12 (showing (reached cs))
  never_12 cs = let h = sound_always cs in (ask_not_12 (reached cs) h, tell_not_12 (reached cs) h, best_not_12 (reached cs) h)

  -- tell accepts exactly when the history says so
  pub tell_exactly : (cs : List Call) (k c : ℕ) → ((telling (reached cs) k c).verdict ≡ Ok tt) ↔ (joins opened_search (accepted_history cs) k c ≡ true)
  tell_exactly cs = (claims cs).accepts

  -- ---- the controller: every trial lies within the limits that the opening gave

  -- v is permitted on the axis y: lo ≤ v ≤ hi; "A ring trial satisfies lo ≤ v < hi"
  abbrev pub PermittedOn : Axis → Float → Type 0
  PermittedOn y v = ((y.lo ≤ᶠ v) ≡ true) × ((v ≤ᶠ y.hi) ≡ true) × (y.ring ≡ true → (v <ᶠ y.hi) ≡ true)

  -- what lies within is permitted
  permitted_on : (y : Axis) (v : Float) → within y v ≡ true → PermittedOn y v
  permitted_on y v h =
      let both = simp and-eq-true_iff at h in
      ⊎_elim
      (λ e. let below = rw e at both.1 in (both.0, lt_le v y.hi below, λ r. below))
      (λ e. (both.0, rw e at both.1, λ r. absurd (true≢false (sym r ∙ e))))
      (cases_Bool y.ring)

  abbrev pub Permitted : List Float → Type 0
  Permitted x = (a : ℕ) → a < n → PermittedOn (get_or axes a no_axis) (get_or x a nan)

  permitted : (x : List Float) → Within opened_search.setup x → Permitted x
  unfolding fresh
  permitted x w a l =
      let given : Within (fresh m n axes rule coefficients budget).setup x = subst (λ (t : Setup). Within t x) setup_given w in
      let e = opened_axis m n axes rule coefficients budget (opened_verdict m n axes rule coefficients budget accepted) a l in
      permitted_on (get_or axes a no_axis) (get_or x a nan) (subst (λ (y : Axis). within y (get_or x a nan) ≡ true) e (given a l))

  pub controller_asked : (cs : List Call) → is_ended (reached cs).phase ≡ false → (a : Asked) × (asking (reached cs) ≡ Ok a) × Permitted a.trial.point
  controller_asked cs e =
      let a : Asked = record { number = length (accepted_costs cs) + 1; trial = trial (run opened_search (accepted_history cs)) } in
      let answers : asking (reached cs) ≡ Ok a = (claims cs).asks e in
      (a, answers, permitted a.trial.point ((claims cs).within_asked a answers))

  pub controller_told : (cs : List Call) (k : ℕ) → k < length (accepted_costs cs) → Permitted (reading opened_search (accepted_history cs) k).point
  controller_told cs k l = permitted (reading opened_search (accepted_history cs) k).point ((claims cs).within_told k l)

  -- its stops are as many axes, each another one and no ring, that stand on a limit that the opening gave
  abbrev pub OnLimit : List Float → ℕ → Type 0
  OnLimit x i =
      let y = get_or axes i no_axis in
      (i < n) × (y.ring ≡ false) × ((get_or x i nan ≡ y.lo) ⊎ (get_or x i nan ≡ y.hi))

  -- the numbers of which the stops were counted, when the trial was asked or its companion was made
  stops_by_phase : (cs : List Call) (a : Asked) → asking (reached cs) ≡ Ok a → opened_search.method ≡ Multidirectional
      → ((i : ℕ) × ((reached cs).phase ≡ Checking i)) ⊎ ((i : ℕ) → (reached cs).phase ≡ Checking i → ⊥) → (f : ℕ → Float) × StopsOf opened_search.setup f a.trial
  stops_by_phase cs a e md p =
      let now = run opened_search (accepted_history cs) in
      let of = (claims cs).multidirectional md in
      ⊎_elim (λ c. let r = of.stops_made a e c.0 c.1 in (r.0, r.2)) (λ c. (target now now.phase, of.stops_asked a e c)) p

  stops_by_method : (cs : List Call) (a : Asked) → asking (reached cs) ≡ Ok a → (k : Method) → opened_search.method ≡ k → (f : ℕ → Float) × StopsOf opened_search.setup f a.trial
  stops_by_method cs a e NelderMead is = let now = run opened_search (accepted_history cs) in (target now now.phase, ((claims cs).nelder_mead is).stops_asked a e)
  stops_by_method cs a e Multidirectional is = stops_by_phase cs a e is (checking_or_not (reached cs).phase)

  stops_known : (cs : List Call) (a : Asked) → asking (reached cs) ≡ Ok a → (f : ℕ → Float) × StopsOf opened_search.setup f a.trial
  stops_known cs a e = stops_by_method cs a e opened_search.method refl

  pub controller_stops : (cs : List Call) (a : Asked) → asking (reached cs) ≡ Ok a
      → (xs : List ℕ) × (a.trial.stops ≡ length xs) × ((i j : ℕ) → i < j → j < length xs → get_or xs i 0 < get_or xs j 0) × ((i : ℕ) → Memᴰ i xs → OnLimit a.trial.point i)
  unfolding fresh
  controller_stops cs a e =
      let x = a.trial.point in
      let given = opened_axis m n axes rule coefficients budget (opened_verdict m n axes rule coefficients budget accepted) in
      let counted = stops_known cs a e in
      let s : StopsOf (fresh m n axes rule coefficients budget).setup counted.0 a.trial = subst (λ (t : Setup). StopsOf t counted.0 a.trial) setup_given counted.1 in
      let stands : (i : ℕ) → Memᴰ i s.axes → OnLimit x i = λ i m.
      let o = (s.outside i).0 m in
      let on = subst (λ (y : Axis). (get_or x i nan ≡ y.lo) ⊎ (get_or x i nan ≡ y.hi)) (given i o.0) (s.on_limit i m) in
      (o.0, subst (λ (y : Axis). y.ring ≡ false) (given i o.0) o.1, on) in
      (s.axes, s.many, s.rising, stands)

  -- an ended search proposes nothing more
  pub controller_ended : (cs : List Call) → is_ended (reached cs).phase ≡ true → asking (reached cs) ≡ Err SearchEnded
  controller_ended cs e = ask_ended (reached cs) (sound_always cs) e

  -- ---- the camera: a number told twice, late or early is refused, and the search stays

  -- the answer to a tell whose number is not the next
  abbrev pub Unmoved : Search → ℕ → ℕ → Type 0
  Unmoved s k c = telling s k c ≡ record { verdict = Err (cond (is_ended s.phase) SearchEnded WrongNumber); search = s }

  pub camera_wrong : (cs : List Call) (k c : ℕ) → (k ≡ length (accepted_costs cs) + 1 → ⊥) → Unmoved (reached cs) k c
  camera_wrong cs k c d = tell_wrong (reached cs) (sound_always cs) k c (λ e. d (e ∙ ap (λ (m : ℕ). m + 1) (claims cs).readings))

  pub camera_twice : (cs : List Call) (k c d : ℕ) → (telling (reached cs) k c).verdict ≡ Ok tt → Unmoved (telling (reached cs) k c).search k d
  camera_twice cs k c d e =
      let more = cs ++ tell k c ∷ [] in
      let h = accepted_history cs in
      let j = ((claims cs).accepts k c).0 e in
      let longer : accepted_history more ≡ h ++ told c ∷ [] = history_snoc opened_search [] cs (tell k c) ∙ rw j in
      let costs : length (accepted_costs more) ≡ length (costs_in h) + 1 = rw longer (one_more opened_search h c) in
      let late : k ≡ length (accepted_costs more) + 1 → ⊥ = λ q. omega (arith, costs, joins_next opened_search h k c j) in
      rw (after_snoc opened_search cs (tell k c)) at (camera_wrong more k d late)

  -- where the search has not ended, the next number with a cost above the largest is refused as 9, and the search stays
  pub camera_high : (cs : List Call) (k c : ℕ) → is_ended (reached cs).phase ≡ false → k ≡ length (accepted_costs cs) + 1 → max_cost < c
      → telling (reached cs) k c ≡ record { verdict = Err CostTooHigh; search = reached cs }
  camera_high cs k c live e high = tell_high (reached cs) (sound_always cs) k c live (e ∙ ap (λ (m : ℕ). m + 1) (sym (claims cs).readings)) high

  -- ---- the panel: best answers the earliest reading that no accepted reading beats, and every vertex names its frame

  pub panel_best : (cs : List Call) → 0 < length (accepted_costs cs)
      → (v : Vertex) × (showing (reached cs) ≡ Ok v)
      × IsBest opened_search (accepted_history cs) v
      × ((j : ℕ) → j < length (accepted_costs cs) → v.cost ≤ (reading opened_search (accepted_history cs) j).cost)
  panel_best cs l =
      let b = (claims cs).best l in
      let cost : b.0.cost ≡ get_or (accepted_costs cs) (b.0.number - 1) 0 = ap cost_of b.1.read.very in
      (b.0, b.2, b.1, λ j m. rw cost (b.1.least.least j m))

  pub panel_none : (cs : List Call) → length (accepted_costs cs) ≡ 0 → showing (reached cs) ≡ Err NoReading
  panel_none cs e = best_none (reached cs) (sound_always cs) ((claims cs).readings ∙ e)

  -- the frame behind a vertex: the call that told its cost under its number, where ask would have answered its trial under that number
  pub record Frame (cs : List Call) (v : Vertex) : Type 0 where
    pub before : List Call
    pub since : List Call
    pub told_by : cs ≡ before ++ tell v.number v.cost ∷ since
    pub taken : (telling (reached before) v.number v.cost).verdict ≡ Ok tt
    pub asked : (a : Asked) × (asking (reached before) ≡ Ok a) × (a.number ≡ v.number) × (a.trial.point ≡ v.point)

  -- a reading names its frame
  frame : (cs : List Call) (v : Vertex) → IsRead opened_search (accepted_history cs) v → Frame cs v
  unfolding costs_in
  frame cs v r =
      let o = opened_search in
      let k = v.number - 1 in
      let t = told_by_call o [] cs k (omega arith) (omega (arith, r.from_1, r.accepted)) in
      let h = accepted_history t.before in
      let number : k + 1 ≡ v.number = omega (arith, r.from_1) in
      let told_before : length (costs_in h) ≡ k = omega (arith, joins_next o h (k + 1) t.cost t.joined) in
      let cost : v.cost ≡ t.cost = ap cost_of r.very ∙ cost_here (accepted_history cs) h t.rest t.cost k t.events told_before in
      let same = before_here (accepted_history cs) h t.rest t.cost k t.events told_before in
      let point : (trial (run o h)).point ≡ v.point = sym (ap point_of r.very ∙ ap (λ (p : List Event). (trial (run o p)).point) same) in
      let call : ◌≡◌ {A = Call} (tell (k + 1) t.cost) (tell v.number v.cost) = λ i. tell (number i) (sym cost i) in
      let live : is_ended (reached t.before).phase ≡ false = rw (claims t.before).carried (not-true _ (simp and-eq-true_iff at t.joined).0.0) in
      record {
        before = t.before;
        since = t.since;
        told_by = t.calls ∙ ap (λ (c : Call). t.before ++ c ∷ t.since) call;
        taken = subst (λ (i : ℕ). (telling (reached t.before) i v.cost).verdict ≡ Ok tt) number (rw cost (((claims t.before).accepts (k + 1) t.cost).1 t.joined));
        asked = (record { number = length (costs_in h) + 1; trial = trial (run o h) }, (claims t.before).asks live, omega arith, point);
      }

  -- what the panel may show: a vertex that stands or is gathered, or what best answers
  abbrev pub Shown : List Call → Vertex → Type 0
  Shown cs v = Memᴰ v (standing_of (reached cs)) ⊎ Memᴰ v (gathered_of (reached cs)) ⊎ (showing (reached cs) ≡ Ok v)

  -- what best answers is a reading
  shown_read : (cs : List Call) (v : Vertex) → showing (reached cs) ≡ Ok v → IsRead opened_search (accepted_history cs) v
  shown_read cs v e =
      let some : 0 < length (accepted_costs cs) =
      ⊎_elim (λ l. l) (λ z. let none = panel_none cs (omega arith) in absurd cc) (cases_lt 0 (length (accepted_costs cs))) in
      let b = (claims cs).best some in
      let same : b.0 ≡ v = let answers = b.2 in cc in
      rw (← same) b.1.read

  -- each names its frame
  pub panel_frame : (cs : List Call) (v : Vertex) → Shown cs v → Frame cs v
  panel_frame cs v s = ⊎_elim (λ m. frame cs v ((claims cs).vertices v m)) (⊎_elim (λ m. frame cs v ((claims cs).gathered v m)) (λ e. frame cs v (shown_read cs v e))) s

  -- so does the base of the multidirectional search
  pub panel_base : (cs : List Call) → m ≡ Multidirectional → 0 < length (accepted_costs cs) → Frame cs (place (reached cs).standing 0)
  panel_base cs md l = frame cs (place (reached cs).standing 0) (((claims cs).multidirectional (method_given ∙ md)).base_now l).read

  -- and each of its companions that has been read
  pub panel_companion : (cs : List Call) → m ≡ Multidirectional → 0 < length (accepted_costs cs) → (i : ℕ) → 1 ≤ i → i ≤ n
      → let c = place (reached cs).standing i in (c.number ≡ 0 → ⊥) → Frame cs c
  unfolding fresh
  panel_companion cs md l i low high numbered =
      let same : opened_search.setup.n ≡ n = ap (λ (t : Setup). t.n) setup_given in
      let c = (((claims cs).multidirectional (method_given ∙ md)).companions l i low (omega arith)).0 in
      ⊎_elim (λ u. absurd (numbered u.0)) (λ r. frame cs (place (reached cs).standing i) r) c

  -- ---- the schedule: the readings equation, from the first reading on

  pub schedule : (cs : List Call) → m ≡ NelderMead → let s = reached cs in 1 ≤ s.readings
      → s.readings ≡ 1 + n * s.counts.builds + s.counts.reflections + 2 * (s.counts.expansions + s.counts.contractions) + (n + 2) * s.counts.shrinks + s.counts.probes + s.counts.unfinished
  unfolding fresh
  schedule cs nm l =
      let given : opened_search.setup.n ≡ n = ap (λ (t : Setup). t.n) setup_given in
      rw given at (((claims cs).nelder_mead (method_given ∙ nm)).equation (omega (arith, (claims cs).readings)))

  -- in the multidirectional search readings are told in iterations and as probes, after the first, and at most 2n in each iteration
  pub schedule_directed : (cs : List Call) → m ≡ Multidirectional → let s = reached cs in 1 ≤ s.readings
      → (s.readings ≡ 1 + s.counts.directed + s.counts.probes) × (s.readings ≤ 1 + 2 * n * (s.counts.patterns + 1) + s.counts.probes)
  unfolding fresh
  schedule_directed cs md l =
      let given : opened_search.setup.n ≡ n = ap (λ (t : Setup). t.n) setup_given in
      let of = (claims cs).multidirectional (method_given ∙ md) in
      (of.equation (omega (arith, (claims cs).readings)), rw given at of.bound)

  -- there are never more readings than the budget
  pub schedule_budget : (cs : List Call) → (reached cs).readings ≤ budget
  unfolding fresh
  schedule_budget cs =
      let r = whole_run opened_search begun (accepted_history cs) (followed cs).0 in
      let noted = run_noted opened_search begun (accepted_history cs) (followed cs).0 in
      let given = ap (λ (t : Setup). t.budget) (r.kept ∙ setup_given) in
      rw (followed cs).1 (omega (arith, noted.below, given))
