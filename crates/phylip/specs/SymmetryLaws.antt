-- The laws of a matrix by the places of its rows. Assumes nothing.
--
--   first-is, agreed-start, agreed-more, agreed-differs, agreed-done     row i against the rows behind it
--   below-mem                                                  the numbers below n are below n
--   settled-start, settled-more, settled-not, settled-done     all rows
use Prim.Native.Nat.{ℕ, zero, suc, ◌+◌, ◌-◌, ◌≤◌, ◌<◌}
use Rattle.std.proofs.Common.{add-one, inl, inr, ◌∙◌, length-set, get_or-set_other}
use native.Mathlib.Omega.{arith}
use Rattle.std.specs.Prelude.{◌⊎◌, ◌≡◌, refl, Bool, true, false, ◌&&◌, List, eqb, length, get_or, set}
use Rattle.std.proofs.Math.Path.{sym, ap}
use Rattle.std.proofs.Math.Seq.{get_or-set_same}
use borrow.Author.Tests.{eqb-true, eq-eqb}
use Rattle.trees.specs.Plain.{every}
use Rattle.trees.specs.Phylip.{below}
use Rattle.theorems.specs.ListLaws.{Mem, less-or-not, equal_or_not, and_left, and_right, and-true, every-at, every-intro}
use Rattle.phylip.specs.declared.values.Reached.{Reached}
use Rattle.phylip.specs.Walk.{rest, value, next, nexts}
use Rattle.phylip.specs.Places.{ValueAt}
use Rattle.phylip.specs.Symmetry.{cell, symmetric_at, Agrees, Moved, AgreesAs, Agreed, Settled}

-- ---- values one behind another

nexts-next : (n : ℕ) (s : List ℕ) → nexts (n + 1) s ≡ next (nexts n s)
unfolding nexts
nexts-next n s = ap (λ (m : ℕ). nexts m s) (add-one n) ∙ go n s
  where
    go : (m : ℕ) (u : List ℕ) → nexts (suc m) u ≡ next (nexts m u)
    go zero u = refl
    go (suc m) u = go m (next u)

nexts-add : (i n : ℕ) (s : List ℕ) → nexts n (nexts i s) ≡ nexts (i + n) s
unfolding nexts
nexts-add zero n s = let e : 0 + n ≡ n = omega arith in rw e
nexts-add (suc i) n s = let e : suc i + n ≡ suc (i + n) = omega arith in rw e (nexts-add i n (next s))

below_other : (a b : ℕ) → a < b + 1 → (a ≡ b → ⊥) → a < b
below_other a b x y = omega arith

-- ---- row i against the rows behind it

module _ (f old : List ℕ) (i : ℕ) where
  pub agreed-start : (r : Reached) → ValueAt f (get_or old i 0) r → Agreed f i (i + 1) r.at old old
  unfolding Moved nexts
  agreed-start r h =
      let e : i + 1 - i ≡ 1 = omega arith in
      record {
        size = refl;
        behind = rw e h.behind;
        same = λ k a b. absurd (omega arith);
        moved = λ k a b. absurd (omega arith);
        kept = λ k a. refl;
      }

  pub first-is : (r : Reached) → ValueAt f (get_or old i 0) r → r.value ≡ cell f old i 0
  unfolding cell nexts
  first-is r h = h.is

  module _ (at : List ℕ) (j p : ℕ) (g : Agreed f i j p old at) (l : i < j) (a b : Reached) (ha : ValueAt f p a) (hb : ValueAt f (get_or at j 0) b) where
    own_is : a.value ≡ cell f old i (j - i)
    unfolding cell
    own_is = ha.is ∙ ap value g.behind

    other-is : b.value ≡ cell f old j 0
    unfolding cell nexts
    other-is = hb.is ∙ ap (λ (n : ℕ). value (rest f n)) (g.kept j (omega arith))

    pub agreed-differs : (t : ℕ) → j < t → (a.value ≡ b.value → ⊥) → Agrees f t i old → ⊥
    agreed-differs t m n h = n (own_is ∙ h.same j l m ∙ sym other-is)

    module _ (m : j < length at) (q : a.value ≡ b.value) where
      more_same : (k : ℕ) → i < k → k < j + 1 → cell f old i (k - i) ≡ cell f old k 0
      more_same k x y = go (equal_or_not k j)
        where
          go : (k ≡ j) ⊎ (k ≡ j → ⊥) → cell f old i (k - i) ≡ cell f old k 0
          go (inl e) = rw e (sym own_is ∙ q ∙ other-is)
          go (inr e) = g.same k x (below_other k j y e)

      more-moved : Moved f (i + 1) (j + 1) old (set at j b.at)
      unfolding Moved
      more-moved k x y = go (equal_or_not k j)
        where
          go : (k ≡ j) ⊎ (k ≡ j → ⊥) → rest f (get_or (set at j b.at) k 0) ≡ next (rest f (get_or old k 0))
          go (inl e) = rw (e, get_or-set_same at j b.at 0 m) (hb.behind ∙ ap (λ (n : ℕ). next (rest f n)) (g.kept j (omega arith)))
          go (inr e) = rw (get_or-set_other at j k b.at 0 e) (g.moved k x (below_other k j y e))

      pub agreed-more : Agreed f i (j + 1) a.at old (set at j b.at)
      agreed-more =
          let e : j - i + 1 ≡ j + 1 - i = omega arith in
          record {
            size = length-set at j b.at ∙ g.size;
            behind = ha.behind ∙ ap next g.behind ∙ sym (nexts-next (j - i) (rest f (get_or old i 0))) ∙ ap (λ (n : ℕ). nexts n (rest f (get_or old i 0))) e;
            same = more_same;
            moved = more-moved;
            kept = λ k x. get_or-set_other at j k b.at 0 (λ e. omega arith) ∙ g.kept k (omega arith);
          }

  pub agreed-done : (t j p : ℕ) (at : List ℕ) → Agreed f i j p old at → j ≡ t → cell f old i 0 ≡ 0 → Agrees f t i old × Moved f (i + 1) t old at
  agreed-done t j p at g e z = let h = rw e at g in (record { zero = z; same = h.same }, h.moved)

-- ---- all rows

mem_below : (n j : ℕ) → j < n → Mem j (below n)
unfolding below
mem_below zero j l = absurd (omega arith)
mem_below (suc n) j l = go (equal_or_not j n) (λ k. mem_below n j k)
  where
    go : (j ≡ n) ⊎ (j ≡ n → ⊥) → (j < n → Mem j (below n)) → (j ≡ n) ⊎ Mem j (below n)
    go (inl e) h = inl e
    go (inr e) h = inr (h (omega arith))

pub below-mem : (n j : ℕ) → Mem j (below n) → j < n
unfolding below
below-mem zero j x' = elim x' [ ]
below-mem (suc n) j (inl e) = omega arith
below-mem (suc n) j (inr m) = let h = below-mem n j m in omega arith

module _ (f old : List ℕ) (t : ℕ) where
  -- what is compared in row i, and what in its column j
  in_row : ℕ → ℕ → Bool
  in_row i j = eqb (cell f old i j) (cell f old j i)

  row_agrees : ℕ → Bool
  row_agrees i = eqb (cell f old i i) 0 && every (in_row i) (below t)

  symmetric-zero : symmetric_at f t old ≡ true → (i : ℕ) → i < t → cell f old i i ≡ 0
  unfolding symmetric_at row_agrees in_row
  symmetric-zero e i l = eqb-true (cell f old i i) 0 (and_left _ _ (every-at row_agrees (below t) e i (mem_below t i l)))

  symmetric-same : symmetric_at f t old ≡ true → (i j : ℕ) → i < t → j < t → cell f old i j ≡ cell f old j i
  unfolding symmetric_at row_agrees in_row
  symmetric-same e i j l m =
      eqb-true (cell f old i j) (cell f old j i)
      (every-at (in_row i) (below t) (and_right (eqb (cell f old i i) 0) (every (in_row i) (below t)) (every-at row_agrees (below t) e i (mem_below t i l))) j (mem_below t j m))

  symmetric-is : ((i : ℕ) → i < t → cell f old i i ≡ 0) → ((i j : ℕ) → i < t → j < t → cell f old i j ≡ cell f old j i) → symmetric_at f t old ≡ true
  unfolding symmetric_at row_agrees in_row
  symmetric-is z h =
      every-intro row_agrees (below t)
      (λ i a.
      and-true (eq-eqb (cell f old i i) 0 (z i (below-mem t i a)))
      (every-intro (in_row i) (below t) (λ j b. eq-eqb (cell f old i j) (cell f old j i) (h i j (below-mem t i a) (below-mem t j b)))))

  pub settled-start : Settled f t 0 old old
  unfolding nexts
  settled-start = record { size = refl; behind = λ j a b. refl; zero = λ k a. absurd (omega arith); same = λ k a. absurd (omega arith) }

  pub settled-done : (i : ℕ) (at : List ℕ) → Settled f t i old at → i ≡ t → symmetric_at f t old ≡ true
  settled-done i at g e = symmetric-is (λ k l. g.zero k (omega arith)) same
    where
      same : (a b : ℕ) → a < t → b < t → cell f old a b ≡ cell f old b a
      same a b x y = go (less-or-not a b)
        where
          go : (a < b) ⊎ (b ≤ a) → cell f old a b ≡ cell f old b a
          go (inl l) = g.same a (omega arith) b l y
          go (inr l) = go_on (equal_or_not b a)
            where
              go_on : (b ≡ a) ⊎ (b ≡ a → ⊥) → cell f old a b ≡ cell f old b a
              go_on (inl q) = rw q
              go_on (inr n) = sym (g.same b (omega arith) a (omega arith) x)

  module _ (i : ℕ) (at : List ℕ) (g : Settled f t i old at) (l : i < t) where
    cell-is : (j n : ℕ) → i ≤ j → j < t → cell f at j n ≡ cell f old j (i + n)
    unfolding cell
    cell-is j n a b = ap value (ap (nexts n) (g.behind j a b) ∙ nexts-add i n (rest f (get_or old j 0)))

    across-is : (j : ℕ) → i < j → j < t → cell f at i (j - i) ≡ cell f old i j
    across-is j a b = let e : i + (j - i) ≡ j = omega arith in rw e at (cell-is i (j - i) (omega arith) l)

    start_is : (j : ℕ) → i ≤ j → j < t → cell f at j 0 ≡ cell f old j i
    start_is j a b = let e : i + 0 ≡ i = omega arith in rw e at (cell-is j 0 a b)

    -- a symmetric matrix agrees in row i
    pub settled-not : (r : Bool) (new : List ℕ) → AgreesAs f t i at r new → r ≡ false → symmetric_at f t old ≡ false
    settled-not r new h e = go (symmetric_at f t old) refl
      where
        go : (b : Bool) → symmetric_at f t old ≡ b → b ≡ false
        go true q =
            absurd
            (h.no e
            (record {
              zero = start_is i (omega arith) l ∙ symmetric-zero q i l;
              same = λ j a b. across-is j a b ∙ symmetric-same q i j l b ∙ sym (start_is j (omega arith) b);
            }))
        go false q = refl

    module _ (new : List ℕ) (size : length new ≡ length at) (h : Agrees f t i at) (m : Moved f (i + 1) t at new) where
      more-zero : (k : ℕ) → k < i + 1 → cell f old k k ≡ 0
      more-zero k a = go (equal_or_not k i)
        where
          go : (k ≡ i) ⊎ (k ≡ i → ⊥) → cell f old k k ≡ 0
          go (inl e) = rw e (sym (start_is i (omega arith) l) ∙ h.zero)
          go (inr e) = g.zero k (below_other k i a e)

      more-cells : (k : ℕ) → k < i + 1 → (j : ℕ) → k < j → j < t → cell f old k j ≡ cell f old j k
      more-cells k a j b c = go (equal_or_not k i)
        where
          go : (k ≡ i) ⊎ (k ≡ i → ⊥) → cell f old k j ≡ cell f old j k
          go (inl e) = rw e (sym (across-is j (rw e at b) c) ∙ h.same j (rw e at b) c ∙ start_is j (omega arith) c)
          go (inr e) = g.same k (below_other k i a e) j b c

      pub settled-more : Settled f t (i + 1) old new
      unfolding Moved
      settled-more = record {
        size = size ∙ g.size;
        behind = λ j a b. m j a b ∙ ap next (g.behind j (omega arith) b) ∙ sym (nexts-next i (rest f (get_or old j 0)));
        zero = more-zero;
        same = more-cells;
      }
