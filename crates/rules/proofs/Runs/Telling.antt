-- The call that told a reading, found among the calls by the reading's number. Assumes nothing.
use mathlib.Core.Path.{◌≡◌, refl, ap, ◌∙◌, subst}
use mathlib.Core.Bool.{true, and-eq-true_iff}
use mathlib.Core.List.{List, [], ◌∷◌, ◌++◌, append_assoc, append-nil}
use mathlib.Core.Logic.{⊎_elim}
use Prim.Native.Nat.{ℕ, ◌+◌, ◌≤◌, ◌<◌}
use native.Mathlib.Nat.{eq-or-lt_of_le}
use native.Mathlib.Omega.{arith}
use lib.ListN.{length, get_or, length-append}
use borrow.Author.Tests.{eqb-true}
use Rattle.std.proofs.lemmas.Bool.{cond_both, cases_Bool}
use Rattle.rules.specs.History.{Call, ask, tell, best, Event, told, costs_in, joins, history1, history_from, before_cost}
use Rattle.rules.specs.declared.Search.{Search}
use Rattle.rules.proofs.Laws.Histories.{costs_in_append}

-- ---- a history cut at one of its costs

-- what comes before the first cost after p is p
before_first : (p : List Event) (c : ℕ) (q : List Event) → before_cost (length (costs_in p)) (p ++ told c ∷ q) ≡ p
unfolding before_cost costs_in
before_first [] c q = refl
before_first (told d ∷ p) c q = ap (λ (h : List Event). told d ∷ h) (before_first p c q)

-- and that cost is found there
cost_first : (p : List Event) (c : ℕ) (q : List Event) → get_or (costs_in (p ++ told c ∷ q)) (length (costs_in p)) 0 ≡ c
unfolding costs_in
cost_first [] c q = refl
cost_first (told d ∷ p) c q = cost_first p c q

-- the same of cost k of the history h
pub before_here : (h p q : List Event) (c k : ℕ) → h ≡ p ++ told c ∷ q → length (costs_in p) ≡ k → before_cost k h ≡ p
before_here h p q c k e l = rw (e, ← l) (before_first p c q)

pub cost_here : (h p q : List Event) (c k : ℕ) → h ≡ p ++ told c ∷ q → length (costs_in p) ≡ k → get_or (costs_in h) k 0 ≡ c
cost_here h p q c k e l = rw (e, ← l) (cost_first p c q)

-- ---- the calls

module _ (o : Search) where
  -- a tell that joins has the next number
  pub joins_next : (h : List Event) (k c : ℕ) → joins o h k c ≡ true → k ≡ length (costs_in h) + 1
  joins_next h k c e = eqb-true k (length (costs_in h) + 1) (simp and-eq-true_iff at e).0.1

  -- calls leave the history before them as it begins
  grows : (h : List Event) (cs : List Call) → (q : List Event) × (history_from o h cs ≡ h ++ q)
  unfolding history_from
  grows h [] = ([], rw append-nil)
  grows h (ask ∷ cs) = grows h cs
  grows h (best ∷ cs) = grows h cs
  grows h (tell k c ∷ cs) =
      cond_both (joins o h k c) _ _ (λ (p : List Event). (q : List Event) × (history_from o p cs ≡ h ++ q))
      (λ e. let r = grows (h ++ told c ∷ []) cs in (told c ∷ r.0, r.1 ∙ append_assoc h (told c ∷ []) r.0))
      (λ e. grows h cs)

  -- reading k of the calls cs, from 0, h being the history before them: the tell that told it, and what was called and told before and after
  pub record ToldBy (h : List Event) (cs : List Call) (k : ℕ) : Type 0 where
    pub before : List Call
    pub cost : ℕ
    pub since : List Call
    pub rest : List Event
    pub calls : cs ≡ before ++ tell (k + 1) cost ∷ since
    pub joined : joins o (history_from o h before) (k + 1) cost ≡ true
    pub events : history_from o h cs ≡ history_from o h before ++ told cost ∷ rest

  -- one call more in front
  later : (h p : List Event) (call : Call) (cs : List Call) (k : ℕ) → history1 o h call ≡ p → ToldBy p cs k → ToldBy h (call ∷ cs) k
  unfolding history_from
  later h p call cs k e t =
      record {
        before = call ∷ t.before;
        cost = t.cost;
        since = t.since;
        rest = t.rest;
        calls = ap (λ (l : List Call). call ∷ l) t.calls;
        joined = rw e t.joined;
        events = rw e t.events;
      }

  -- one cost told more makes the costs one more
  pub one_more : (h : List Event) (c : ℕ) → length (costs_in (h ++ told c ∷ [])) ≡ length (costs_in h) + 1
  unfolding costs_in
  one_more h c = rw (costs_in_append h (told c ∷ []), length-append (costs_in h) (c ∷ [])) refl

  -- the first of the calls tells it
  here : (h : List Event) (j c : ℕ) (cs : List Call) → joins o h j c ≡ true → ToldBy h (tell j c ∷ cs) (length (costs_in h))
  unfolding history_from
  here h j c cs e =
      let next = joins_next h j c e in
      let r = grows (h ++ told c ∷ []) cs in
      record {
        before = [];
        cost = c;
        since = cs;
        rest = r.0;
        calls = ap (λ (i : ℕ). tell i c ∷ cs) next;
        joined = subst (λ (i : ℕ). joins o h i c ≡ true) next e;
        events = rw e (r.1 ∙ append_assoc h (told c ∷ []) r.0);
      }

  -- every reading is told by one of the calls
  pub told_by_call : (h : List Event) (cs : List Call) (k : ℕ) → length (costs_in h) ≤ k → k < length (costs_in (history_from o h cs)) → ToldBy h cs k
  unfolding history_from
  told_by_call h [] k l m = absurd (omega arith)
  told_by_call h (ask ∷ cs) k l m = later h h ask cs k refl (told_by_call h cs k l m)
  told_by_call h (best ∷ cs) k l m = later h h best cs k refl (told_by_call h cs k l m)
  told_by_call h (tell j c ∷ cs) k l m =
      ⊎_elim
      (λ e.
      let more = h ++ told c ∷ [] in
      ⊎_elim (λ q. subst (λ (i : ℕ). ToldBy h (tell j c ∷ cs) i) q (here h j c cs e))
      (λ n. later h more (tell j c) cs k (rw e refl) (told_by_call more cs k (omega (arith, one_more h c, n)) (rw e at m))) (eq-or-lt_of_le l))
      (λ e. later h h (tell j c) cs k (rw e refl) (told_by_call h cs k l (rw e at m)))
      (cases_Bool (joins o h j c))
