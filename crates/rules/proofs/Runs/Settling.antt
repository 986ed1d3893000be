-- Settled exactly when a probe round has been told in full and none was lower. Assumes nothing.
use mathlib.Core.Path.{◌≡◌, refl, sym, ap, ◌∙◌, subst}
use mathlib.Core.Bool.{false, true≢false}
use mathlib.Core.List.{List, [], ◌∷◌, ◌++◌, map, map-append, append_assoc, append-nil}
use mathlib.Core.Logic.{◌≢◌, ⊎_elim}
use Prim.Native.Nat.{ℕ, zero, suc, ◌+◌, ◌*◌, ◌≤◌, ◌<◌, suc-le-suc}
use native.Mathlib.Omega.{arith}
use native.Mathlib.Nat.{not-suc-le-zero}
use lib.ListN.{length, get_or, length-append}
use lib.Seq.{append_snoc}
use Rattle.std.proofs.lemmas.Bool.Decides.{nat_tests}
use Rattle.std.proofs.lemmas.Bool.{cond_both}
use Rattle.std.proofs.lemmas.List.{places}
use Rattle.rules.specs.View.{is_ended}
use Rattle.rules.specs.Decide.{is_full, ends_round, restart, decided}
use Rattle.rules.specs.Accept.{reading_of, entrant, next_phase, is_met, spent_phase, is_spent, acted, accept}
use Rattle.rules.specs.History.{Event, told, step, run}
use Rattle.rules.specs.Tally.{probe_in, probe_by}
use Rattle.rules.specs.Claims.{FullRound}
use Rattle.rules.specs.declared.Method.{Method}
use Rattle.rules.specs.declared.Method.TheVariants.{NelderMead, Multidirectional}
use Rattle.rules.specs.declared.Vertex.{Vertex}
use Rattle.rules.specs.declared.Setup.{Setup}
use Rattle.rules.specs.declared.Search.{Search}
use Rattle.rules.specs.declared.Phase.{Phase}
use Rattle.rules.specs.declared.Phase.TheVariants.{Building, Mirroring, Probing, Ended}
use Rattle.rules.specs.declared.Cause.TheVariants.{Settled, Budget}
use Rattle.rules.specs.declared.Decision.{Decision}
use Rattle.rules.proofs.Laws.Tests.{spent_elim}
use Rattle.rules.proofs.Laws.Histories.{read_by, Joins, Joined, run_snoc}
use Rattle.rules.proofs.Steps.Grouped.{Any}
use Rattle.rules.proofs.Steps.Noting.{◌▹◌, best_stays}
use Rattle.rules.proofs.Steps.Stepping.{NoRound, BelowBudget}
use Rattle.rules.proofs.Steps.Accepting.{event_step}

-- ---- a probe told

-- the phase of a restart
abbrev restarted : Method → Phase
restarted NelderMead = Building 1
restarted Multidirectional = Mirroring 1

-- the restart of a method leads there
leads_there : (m : Method) (v : Vertex) (s : Search) → let d = restart m in next_phase d (is_met d (entrant d v s) s) m ≡ restarted m
leads_there NelderMead v s = refl
leads_there Multidirectional v s = refl

-- what becomes of a round at best cost b when probe j of 2n is told the cost c, and q is the phase after it
data Outcome (b c j n : ℕ) (q : Phase) : Type 0 where
  restarting : (m : Method) → c < b → q ≡ restarted m → Outcome b c j n q
  settling : b ≤ c → j + 1 ≡ 2 * n → q ≡ Ended Settled → Outcome b c j n q
  going : b ≤ c → j + 1 ≢ 2 * n → q ≡ Probing (j + 1) → Outcome b c j n q
  stopping : (b ≤ c → j + 1 ≢ 2 * n) → q ≡ Ended Budget → Outcome b c j n q

-- where the budget is spent, what was not settled ends with cause budget
spend : (b c j n : ℕ) (q : Phase) → Outcome b c j n q → is_ended q ≡ false → Outcome b c j n (Ended Budget)
spend b c j n q (restarting m l e) live = stopping (λ k. absurd (omega arith)) refl
spend b c j n q (settling l m e) live = absurd (true≢false (sym (ap is_ended e) ∙ live))
spend b c j n q (going l m e) live = stopping (λ k. m) refl
spend b c j n q (stopping m e) live = stopping m refl

-- a probe is told after other readings
some_read : (rs : List Vertex) (s : Search) → Any rs s → (j : ℕ) → s.phase ≡ Probing j → 1 ≤ s.readings
some_read rs s inv j e = ⊎_elim (λ i. (rw e at i.phase).0.some) (λ i. (rw e at i.phase).some) inv

module _ (s : Search) (c j : ℕ) (e : s.phase ≡ Probing j) where
  -- what the round comes to but for the budget is what it comes to, or the budget stops it
  spent : (q : Phase) → Outcome s.best.cost c j s.setup.n q → Outcome s.best.cost c j s.setup.n (spent_phase (is_spent s) q)
  spent q o = spent_elim (Outcome s.best.cost c j s.setup.n) (is_spent s) q (λ t live. spend s.best.cost c j s.setup.n q o live) o

  outcome : Outcome s.best.cost c j s.setup.n (accept s c).phase
  unfolding accept decided
  outcome =
      let P : Decision → Type 0 = λ d. Outcome s.best.cost c j s.setup.n (acted d (reading_of s c) s).phase in
      subst (λ (p : Phase). P (decided p s c)) (sym e)
      (cond_both (ends_round c s) _ _ P
      (λ t. rw (leads_there s.method (reading_of s c) s) (spent (restarted s.method) (restarting s.method (grind (arith, nat_tests)) refl)))
      (λ t.
      cond_both (is_full j s) _ _ P
      (λ d. spent (Ended Settled) (settling (grind (arith, nat_tests)) (grind (arith, nat_tests)) refl))
      (λ d. spent (Probing (j + 1)) (going (grind (arith, nat_tests)) (grind (arith, nat_tests)) refl))))

  -- a probe that is not lower leaves the best cost
  best_kept : (rs : List Vertex) → Any rs s → s.best.cost ≤ c → (accept s c).best.cost ≡ s.best.cost
  unfolding accept
  best_kept rs inv l = ap (λ (v : Vertex). v.cost) (best_stays s.readings (reading_of s c) s.best (some_read rs s inv j e) l)

-- ---- a full round settles

-- the last probe of a round, not lower than the best, settles the search
last_settles : (b c j n : ℕ) (q : Phase) → Outcome b c j n q → b ≤ c → j + 1 ≡ 2 * n → q ≡ Ended Settled
last_settles b c j n q (restarting k l e) h m = absurd (omega arith)
last_settles b c j n q (settling l k e) h m = e
last_settles b c j n q (going l k e) h m = absurd (k m)
last_settles b c j n q (stopping k e) h m = absurd (k h m)

-- after an earlier probe of a round, not lower than the best, the next probe follows, where the search goes on
earlier_goes : (b c j n : ℕ) (q : Phase) → Outcome b c j n q → b ≤ c → j + 1 ≢ 2 * n → is_ended q ≡ false → q ≡ Probing (j + 1)
earlier_goes b c j n q (restarting k l e) h m live = absurd (omega arith)
earlier_goes b c j n q (settling l k e) h m live = absurd (m k)
earlier_goes b c j n q (going l k e) h m live = e
earlier_goes b c j n q (stopping k e) h m live = absurd (true≢false (sym (ap is_ended e) ∙ live))

pub settles : (rs : List Vertex) (s : Search) → Any rs s → BelowBudget s → (q : List ℕ) (j : ℕ) → s.phase ≡ Probing j → j + length q ≡ 2 * s.setup.n → 1 ≤ length q
    → ((i : ℕ) → i < length q → s.best.cost ≤ get_or q i 0) → Joined s (map told q) → (run s (map told q)).phase ≡ Ended Settled
unfolding run Joined
settles rs s inv below [] j e many some low t = absurd (omega arith)
settles rs s inv below (c ∷ []) j e many some low t = last_settles s.best.cost c j s.setup.n (accept s c).phase (outcome s c j e) (low 0 (omega arith)) many
settles rs s inv below (c ∷ d ∷ q) j e many some low t =
    let l = low 0 (omega arith) in
    let k = earlier_goes s.best.cost c j s.setup.n (accept s c).phase (outcome s c j e) l (omega arith) t.1.0.0 in
    let g = event_step rs s inv below (told c) t.0 in
    let b = best_kept s c j e rs inv l in
    settles (rs ▹ reading_of s c) (accept s c) g.inv g.below (d ∷ q) (j + 1) k (rw g.kept (omega arith)) (omega arith) (λ i m. rw b (low (suc i) (suc-le-suc m))) t.1

-- ---- only a full round settles

-- the last j events of h are a round's costs, none of them lower than the best at its start, which is still b
pub record Round (o : Search) (h : List Event) (j b : ℕ) : Type 0 where
  pub before : List Event
  pub round : List ℕ
  pub splits : h ≡ before ++ map told round
  pub begins : (run o before).phase ≡ Probing 0
  pub many : length round ≡ j
  pub none_lower : (i : ℕ) → i < length round → (run o before).best.cost ≤ get_or round i 0
  pub same : (run o before).best.cost ≡ b

-- the history h ends with a full round
abbrev pub EndsFull : Search → List Event → Type 0
EndsFull o h = (before : List Event) × (round : List ℕ) × (h ≡ before ++ map told round) × FullRound o before round

-- what each phase says of the rounds of h, b being the best cost then
abbrev pub Rounds : Search → List Event → ℕ → Phase → Type 0
Rounds o h b (Probing j) = Round o h j b
Rounds o h b (Ended Settled) = EndsFull o h
Rounds o h b p = Unit {0}

-- a round begins with no cost told
round_begins : (o : Search) (h : List Event) (p : Phase) → (run o h).phase ≡ p → NoRound p → Rounds o h (run o h).best.cost p
round_begins o h (Probing zero) e f = record { before = h; round = []; splits = rw append-nil; begins = e; many = refl; none_lower = λ i l. absurd (not-suc-le-zero l); same = refl }
round_begins o h (Probing (suc p)) e f = absurd f
round_begins o h (Ended Settled) e f = absurd f
round_begins o h p e f = tt

-- one more cost that is not lower than the best makes a round one cost longer
round_more : (o : Search) (h : List Event) (j b c d : ℕ) → Round o h j b → b ≤ c → d ≡ b → Round o (h ++ told c ∷ []) (j + 1) d
round_more o h j b c d r l e =
    record {
      before = r.before;
      round = r.round ++ c ∷ [];
      splits = rw (r.splits, map-append told r.round (c ∷ []), append_assoc);
      begins = r.begins;
      many = length-append r.round (c ∷ []) ∙ rw r.many;
      none_lower = λ i m. grind (arith, places, r.same, r.none_lower i);
      same = r.same ∙ sym e;
    }

-- a round of 2n costs is a full round
round_full : (o : Search) (h : List Event) (j b : ℕ) → Round o h j b → j ≡ 2 * o.setup.n → EndsFull o h
round_full o h j b r e = (r.before, r.round, r.splits, record { begins = r.begins; full = r.many ∙ e; none_lower = r.none_lower })

-- a restart has no round
no_rounds : (o : Search) (h : List Event) (b : ℕ) (m : Method) → Rounds o h b (restarted m)
no_rounds o h b NelderMead = tt
no_rounds o h b Multidirectional = tt

round_on : (o : Search) (h : List Event) (j b c d : ℕ) (q : Phase) → Round o h j b → Outcome b c j o.setup.n q → (b ≤ c → d ≡ b) → Rounds o (h ++ told c ∷ []) d q
round_on o h j b c d q r (restarting m l e) k = rw e (no_rounds o (h ++ told c ∷ []) d m)
round_on o h j b c d q r (settling l m e) k = rw e (round_full o (h ++ told c ∷ []) (j + 1) d (round_more o h j b c d r l (k l)) m)
round_on o h j b c d q r (going l m e) k = rw e (round_more o h j b c d r l (k l))
round_on o h j b c d q r (stopping m e) k = rw e tt

-- ---- along a history

module _ (o : Search) (h : List Event) (s : Search) (is : run o h ≡ s) (rs : List Vertex) (inv : Any rs s) (below : BelowBudget s) (kept : s.setup ≡ o.setup) where
  -- the search after one event more
  next : (e : Event) → run o (h ++ e ∷ []) ≡ step s e
  next e = run_snoc o h e ∙ ap (λ (u : Search). step u e) is

  -- an event that is no probe has at most begun a round
  new_round : (e : Event) → Joins s e → probe_by s e ≡ 0 → Rounds o (h ++ e ∷ []) (step s e).best.cost (step s e).phase
  new_round e t none =
      let here = h ++ e ∷ [] in
      rw (next e) at (round_begins o here (run o here).phase refl (rw (next e) ((event_step rs s inv below e t).no_round none)))

  -- a probe carries its round on
  same_round : (c j : ℕ) → s.phase ≡ Probing j → Round o h j s.best.cost → Rounds o (h ++ told c ∷ []) (accept s c).best.cost (accept s c).phase
  same_round c j e r =
      let n : Outcome s.best.cost c j o.setup.n (accept s c).phase = subst (λ (t : Setup). Outcome s.best.cost c j t.n (accept s c).phase) kept (outcome s c j e) in
      round_on o h j s.best.cost c (accept s c).best.cost (accept s c).phase r n (best_kept s c j e rs inv)

  -- what a reading makes of the rounds, in every phase
  round_told : (c : ℕ) → Joins s (told c) → (p : Phase) → s.phase ≡ p → Rounds o h s.best.cost p → Rounds o (h ++ told c ∷ []) (accept s c).best.cost (accept s c).phase
  round_told c t (Probing j) e r = same_round c j e r
  round_told c t p e r = new_round (told c) t (ap probe_in e)

  round_step : (e : Event) → Joins s e → Rounds o h s.best.cost s.phase → Rounds o (h ++ e ∷ []) (step s e).best.cost (step s e).phase
  round_step (told c) t r = round_told c t s.phase refl r

pub rounds : (o : Search) (p : List Event) (s : Search) → run o p ≡ s → (rs : List Vertex) → Any rs s → BelowBudget s → s.setup ≡ o.setup → Rounds o p s.best.cost s.phase
    → (q : List Event) → Joined s q → Rounds o (p ++ q) (run s q).best.cost (run s q).phase
unfolding run Joined
rounds o p s is rs inv below kept r [] t = rw append-nil r
rounds o p s is rs inv below kept r (e ∷ q) t =
    let g = event_step rs s inv below e t.0 in
    rw (append_snoc p e q) at
    (rounds o (p ++ e ∷ []) (step s e) (next o p s is rs inv below kept e) (rs ++ read_by s e) g.inv g.below (g.kept ∙ kept) (round_step o p s is rs inv below kept e t.0 r) q t.1)
