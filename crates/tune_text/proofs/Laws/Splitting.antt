-- Laws on reading a line field by field: what `split` gives next, and what the fields that are left say of the line's numbers. Assumes nothing.
use mathlib.Core.Path.{◌≡◌, refl, sym, ap, subst, ◌∙◌}
use mathlib.Core.Bool.{Bool, true, false, not, cond, ◌&&◌, and-false}
use mathlib.Core.List.{List, [], ◌∷◌, ◌++◌, map, append-nil}
use Prim.Native.Nat.{ℕ, suc, ◌+◌, ◌≤◌, ◌<◌}
use native.Mathlib.Nat.{zero-add}
use native.Mathlib.Omega.{arith}
use lib.Dec.{eqb}
use lib.ListN.{length, take, get_or, set, length-append}
use lib.Seq.{append_snoc, take_all}
use borrow.Author.Tests.{eq-eqb, ne_eqb}
use denote.Param.Members.{Mut}
use denote.Ref.{Bor}
use Rattle.std.specs.Prelude.{Option, Some, None}
use Rattle.std.specs.Bool.{MatchBool, then_some}
use Rattle.std.specs.Option.{MatchOption, is_some}
use Rattle.std.specs.Fn.{CalledAt, ComputesKey}
use Rattle.std.specs.List.{All, list_all, slice_split, IsFirstMatchOrLen}
use Rattle.std.specs.Slice.Iter.{split_steps, split_rest, split_done, split_callee}
use Rattle.std.specs.declared.slice.Split.{Split}
use Rattle.std.proofs.lemmas.Grind.{common_steps}
use Rattle.std.proofs.lemmas.Fn.{always_returns_same}
use Rattle.std.proofs.lemmas.Option.{cond_some}
use Rattle.std.proofs.lemmas.List.{take_more_set, length-take-le}
use Rattle.std.proofs.lemmas.List.Splits.{slice_split_none, slice_split_at}
use Rattle.tune_text.specs.Fields.{space, cut, is_number, is_line, field_value}
use Rattle.tune_text.specs.Handed.{number_read, numbers_read}
use Rattle.tune_text.specs.declared.fields.Form.{Form}

-- ---- what `split` gives next

-- the fields that a `split` has still to give
abbrev pub left : {F : Type 0} → Split ℕ F → List (List ℕ)
left s = cond (split_done s) [] (cut space (split_rest s))

-- a text by its first field, x, and the rest of the text, where it is not done
first_field : (xs x rest : List ℕ) (done : Bool) → MatchBool done (xs ≡ x) ((y : ℕ) × (xs ≡ x ++ (y ∷ rest))) → IsFirstMatchOrLen (λ b. eqb b space) xs (length x)
    → cut space xs ≡ x ∷ cond done [] (cut space rest)
unfolding cut
first_field xs x rest true e h =
    ap (slice_split (λ b. eqb b space)) e ∙ slice_split_none (λ b. eqb b space) x (λ k d l. subst (λ ys. eqb (get_or ys k d) space ≡ false) e (h.0 k d (omega arith) l))
first_field xs x rest false e h =
    let front : All (λ b. eqb b space ≡ false) x = λ k d l. let a = h.0 k d (omega arith) l in let b = e.1 in grind (arith, common_steps) in
    let hit : eqb e.0 space ≡ true = let b = e.1 in let a = h.1 (grind (arith, common_steps)) e.0 in grind (arith, common_steps) in
    ap (slice_split (λ b. eqb b space)) e.1 ∙ slice_split_at (λ b. eqb b space) x e.0 rest front hit

-- where it gives a field, that is the first that is left
pub first_left : {F : Type 0} (g : Mut F (Bor ℕ × Unit {0}) Bool) (s u : Split ℕ F) (x : Bor (List ℕ)) → split_steps g s (Some x) u
    → ((y : ℕ) (b : Bool) (q : F) → CalledAt g (split_callee s) y b q → (q ≡ split_callee s) × (b ≡ eqb y space)) → left s ≡ x.now ∷ left u
first_left g s u x next test =
    let computes : ComputesKey g (λ b. eqb b space) (split_callee s) =
    always_returns_same g _ (split_callee s) (λ a r q k. let m = test a.0.now r q (record { shown = a.0; shows = refl; called = k }) in (m.1, m.0)) in
    rw next.0 (first_field (split_rest s) x.now (split_rest u) (split_done u) next.1 (next.2 (λ b. eqb b space) computes).1)

-- whether it gives one says whether one is left
pub some_left : {F : Type 0} (g : Mut F (Bor ℕ × Unit {0}) Bool) (s u : Split ℕ F) (r : Option (Bor (List ℕ))) → split_steps g s r u
    → ((y : ℕ) (b : Bool) (q : F) → CalledAt g (split_callee s) y b q → (q ≡ split_callee s) × (b ≡ eqb y space))
    → MatchOption r (left s ≡ []) (λ x. 0 < length (left s))
some_left g s u None next test = rw next.0
some_left g s u (Some x) next test = rw (first_left g s u x next test) (omega arith)

-- ---- the numbers of a line

-- a field that gives no number has another form
number_none : (f : Form) (p : List ℕ) → None ≡ number_read f p → is_number f p ≡ false
number_none f p = go (is_number f p)
  where
    go : (b : Bool) → ◌≡◌ {A = Option ℕ} None (cond b (Some (field_value f p)) None) → b ≡ false
    go true e = cc
    go false e = refl

-- the numbers of a line of k fields whose first fields have the numbers in front, and whose others are ps
pub outcome : Form → ℕ → List ℕ → List (List ℕ) → Option (List ℕ)
outcome f k front ps = cond (eqb (length front + length ps) k && list_all (is_number f) ps) (Some (front ++ map (field_value f) ps)) None

module _ (f : Form) (k : ℕ) where
  -- at first all fields are left
  pub outcome_first : (line : List ℕ) → numbers_read f k line ≡ outcome f k [] (cut space line)
  unfolding numbers_read is_line outcome
  outcome_first line = rw zero-add

  -- a line of too few fields or too many has no numbers
  outcome_count : (front : List ℕ) (ps : List (List ℕ)) → (length front + length ps ≡ k → ⊥) → outcome f k front ps ≡ None
  unfolding outcome
  outcome_count front ps h = rw (ne_eqb (length front + length ps) k h)

  -- nor has one with a field of another form
  pub outcome_other : (front p : List ℕ) (ps : List (List ℕ)) → None ≡ number_read f p → outcome f k front (p ∷ ps) ≡ None
  unfolding outcome
  outcome_other front p ps e = rw (number_none f p e, and-false (eqb (length front + suc (length ps)) k))

  -- where no field is left before field k there are too few
  pub outcome_few : (vs : List ℕ) (i : ℕ) → length vs ≡ k → i < k → outcome f k (take i vs) [] ≡ None
  outcome_few vs i l h = outcome_count (take i vs) [] (λ e. omega (arith, length-take-le {A = ℕ}))

  -- the number of the next field goes behind those before it
  pub outcome_more : (vs : List ℕ) (i v : ℕ) (p : List ℕ) (ps : List (List ℕ)) → i < length vs → Some v ≡ number_read f p
      → outcome f k (take i vs) (p ∷ ps) ≡ outcome f k (take (i + 1) (set vs i v)) ps
  unfolding outcome
  outcome_more vs i v p ps h e =
      let is = cond_some (is_number f p) (field_value f p) v (sym e) in
      let n : length (take i vs) + suc (length ps) ≡ length (take i vs ++ (v ∷ [])) + length ps = simp length-append (omega arith) in
      rw (take_more_set vs i v h, n, is.0, ← is.1, append_snoc)

  -- after field k the numbers of the k fields are the line's, if no field is left
  pub outcome_last : (vs : List ℕ) (i : ℕ) (r : Option (Bor (List ℕ))) (b : Bool) (ps : List (List ℕ)) → length vs ≡ k → k ≤ i
      → MatchOption r (ps ≡ []) (λ x. 0 < length ps) → is_some r ≡ not b → outcome f k (take i vs) ps ≡ then_some b vs
  unfolding outcome
  outcome_last vs i None true ps l h e t =
      let n : length vs + 0 ≡ k = omega arith in
      let m : length vs ≤ i = omega arith in
      rw (e, take_all i vs m, eq-eqb (length vs + 0) k n, append-nil)
  outcome_last vs i (Some x) false ps l h e t =
      let m : length vs ≤ i = omega arith in
      rw (take_all i vs m) (outcome_count vs ps (λ q. omega arith))
  outcome_last vs i None false ps l h e t = cc
  outcome_last vs i (Some x) true ps l h e t = cc
