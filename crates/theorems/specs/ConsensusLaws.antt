-- Laws of counts and of the two consensus rules.
--
--   count-nil, count-step, count-has, count-lacks, count_most     the count among no trees, among one tree more; at most all trees
--   common-tree          splits whose counts together exceed the trees have a tree in common
--   strict-majority      a strict split is a majority split, when there is a tree
--   majority-good, strict-good     the majority (strict) splits of trees are proper, rising, and agree in pairs
use Rattle.std.specs.Prelude.{ℕ, suc, ◌+◌, ◌*◌, ◌≤◌, ◌<◌, ◌≡◌, refl, ◌⊎◌, Bool, true, false, List, [], ◌∷◌, length, if◌then◌else◌}
use Rattle.std.proofs.Common.{arith, ◌∙◌, inl, inr, ltb-true, lt-ltb, eqb-true}
use Rattle.trees.specs.Plain.{every, keep, member}
use Rattle.trees.specs.Mask.{proper}
use Rattle.trees.specs.Consensus.{recorded, count, is_strict, is_majority, strict, majority}
use Rattle.trees.specs.Whole.{rising, agree_in_pairs, good_tree}
use Rattle.theorems.specs.ListLaws.{if-true, if-false, and_left, and_right, and-true, Mem, member-mem, every-at, every-intro, keep-mem, mem-keep, keep-step, keep-most}
use Rattle.theorems.specs.RisingLaws.{recorded-rising, recorded-mem, keep-rising, true-rising}
use Rattle.theorems.specs.SplitLaws.{pairs-at, pairs-intro}

-- ---- counts

pub count-nil : (m : ℕ) → count [] m ≡ 0
unfolding count
count-nil m = refl

pub count_most : (ts : List (List ℕ)) (m : ℕ) → count ts m ≤ length ts
unfolding count
count_most ts m = keep-most (member m) ts

module _ (t : List ℕ) (ts : List (List ℕ)) (m : ℕ) where
  pub count-step : count (t ∷ ts) m ≡ (if member m t then suc (count ts m) else count ts m)
  unfolding count
  count-step = keep-step (member m) t ts

  pub count-has : member m t ≡ true → count (t ∷ ts) m ≡ suc (count ts m)
  count-has e = count-step ∙ if-true (suc (count ts m)) (count ts m) e

  pub count-lacks : member m t ≡ false → count (t ∷ ts) m ≡ count ts m
  count-lacks e = count-step ∙ if-false (suc (count ts m)) (count ts m) e

-- "disagreeing splits then come in together": not where the counts together exceed the trees
pub common-tree : (ts : List (List ℕ)) (a b : ℕ) → length ts < count ts a + count ts b → (t : List ℕ) × Mem t ts × Mem a t × Mem b t
common-tree [] a b h = absurd (omega (arith, count-nil a, count-nil b))
common-tree (t ∷ ts) a b h = go (member a t) (member b t) refl refl (λ k. let r = common-tree ts a b k in (r.0, inr r.1, r.2, r.3))
  where
    go : (u v : Bool) → member a t ≡ u → member b t ≡ v → (length ts < count ts a + count ts b → (s : List ℕ) × ((s ≡ t) ⊎ Mem s ts) × Mem a s × Mem b s) → (s : List ℕ) × ((s ≡ t) ⊎ Mem s ts) × Mem a s × Mem b s
    go true true p q f = (t, inl refl, member-mem a t p, member-mem b t q)
    go true false p q f = f (omega (arith, count-has t ts a p, count-lacks t ts b q))
    go false true p q f = f (omega (arith, count-lacks t ts a p, count-has t ts b q))
    go false false p q f = f (omega (arith, count-lacks t ts a p, count-lacks t ts b q))

-- ---- the two rules

pub majority-mem : (ts : List (List ℕ)) (m : ℕ) → Mem m (majority ts) → Mem m (recorded ts) × (length ts < 2 * count ts m)
unfolding majority is_majority
majority-mem ts m h = let r = keep-mem (is_majority ts) (recorded ts) m h in (r.0, ltb-true (length ts) (2 * count ts m) r.1)

pub mem-majority : (ts : List (List ℕ)) (m : ℕ) → Mem m (recorded ts) → length ts < 2 * count ts m → Mem m (majority ts)
unfolding majority is_majority
mem-majority ts m h l = mem-keep (is_majority ts) (recorded ts) m h (lt-ltb (length ts) (2 * count ts m) l)

pub strict-mem : (ts : List (List ℕ)) (m : ℕ) → Mem m (strict ts) → Mem m (recorded ts) × (count ts m ≡ length ts)
unfolding strict is_strict
strict-mem ts m h = let r = keep-mem (is_strict ts) (recorded ts) m h in (r.0, eqb-true (count ts m) (length ts) r.1)

pub strict-majority : (ts : List (List ℕ)) → 0 < length ts → (m : ℕ) → Mem m (strict ts) → Mem m (majority ts)
strict-majority ts p m h = let r = strict-mem ts m h in mem-majority ts m r.0 (omega (arith, r.1))

-- ---- a consensus is in order

abbrev pub AllGood : ℕ → List (List ℕ) → Type 0
AllGood n ts = (t : List ℕ) → Mem t ts → good_tree n t ≡ true

pub good-proper : (n : ℕ) (t : List ℕ) → good_tree n t ≡ true → every (proper n) t ≡ true
unfolding good_tree
good-proper n t e = and_left _ _ e

pub good-rising : (n : ℕ) (t : List ℕ) → good_tree n t ≡ true → rising t ≡ true
unfolding good_tree
good-rising n t e = and_left _ _ (and_right (every (proper n) t) _ e)

pub good-pairs : (n : ℕ) (t : List ℕ) → good_tree n t ≡ true → agree_in_pairs t ≡ true
unfolding good_tree
good-pairs n t e = and_right (rising t) _ (and_right (every (proper n) t) _ e)

-- a part of the recorded splits whose members have trees in common
kept-good : (n : ℕ) (ts : List (List ℕ)) (p : ℕ → Bool) → AllGood n ts → ((a b : ℕ) → Mem a (keep p (recorded ts)) → Mem b (keep p (recorded ts)) → (t : List ℕ) × Mem t ts × Mem a t × Mem b t) → good_tree n (keep p (recorded ts)) ≡ true
unfolding good_tree
kept-good n ts p g f =
    and-true
    (every-intro (proper n) (keep p (recorded ts)) (λ m h. let r = recorded-mem ts m (keep-mem p (recorded ts) m h).0 in every-at (proper n) r.0 (good-proper n r.0 (g r.0 r.1)) m r.2))
    (and-true (true-rising (keep p (recorded ts)) (keep-rising p (recorded ts) (recorded-rising ts)))
    (pairs-intro (keep p (recorded ts)) (λ a b h k. let r = f a b h k in pairs-at r.0 (good-pairs n r.0 (g r.0 r.1)) a b r.2 r.3)))

pub majority-good : (n : ℕ) (ts : List (List ℕ)) → AllGood n ts → good_tree n (majority ts) ≡ true
unfolding majority
majority-good n ts g =
    kept-good n ts (is_majority ts) g
    (λ a b h k. common-tree ts a b (omega (arith, (majority-mem ts a h).1, (majority-mem ts b k).1)))

has-tree : (ts : List (List ℕ)) (t : List ℕ) → Mem t ts → 0 < length ts
has-tree [] t m = elim m [ ]
has-tree (u ∷ ts) t m = omega arith

pub strict-good : (n : ℕ) (ts : List (List ℕ)) → AllGood n ts → good_tree n (strict ts) ≡ true
unfolding strict
strict-good n ts g =
    kept-good n ts (is_strict ts) g
    (λ a b h k. let r = recorded-mem ts a (strict-mem ts a h).0 in common-tree ts a b (omega (arith, (strict-mem ts a h).1, (strict-mem ts b k).1, has-tree ts r.0 r.1)))
