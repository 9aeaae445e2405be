-- The groups of the majority tree: the one that is named for two taxa, and those of a whole collection.
--
--   Both i j m               the mask m has the taxa i and j, as a type
--   both_true, true-both     the test and the type
--   Smallest n i j ms x      x is a mask of ms and has the taxa i and j, none of ms that has both has fewer taxa, and of several as small it is
--                            the first
--   nearest-exactly          the mask that is named for two taxa is exactly that one
--   none-exactly             none is named exactly where no mask has both
--   first-taxon-none         so none is named for taxon 0 and another
--   none-all, some-group     their group is then all taxa; else it is that mask
--   nearest-either-way, group-either-way      the order of two taxa makes no difference
--   Sized n i j ms           no mask is named for two taxa, and their group is all taxa; or it has two taxa or more, and lacks two or more
--   group-size               a group is so sized
--   groups-proper            the majority splits of a whole collection are splits that all of this holds of
--   groups-read-back         they are those that its written majority tree reads back as
--   groups-by-cutting        and those that cutting an edge of that tree gives
use Rattle.std.specs.Prelude.{ℕ, ◌+◌, ◌≤◌, ◌<◌, ◌≡◌, refl, ◌⊎◌, ◌↔◌, Bool, true, false, ◌&&◌, ◌||◌, eqb, if◌then◌else◌}
use Rattle.std.proofs.Common.{le_of_lt, le_refl, le_trans, arith, ap, ap₂, sym, ◌∙◌, subst, inr, true≢false, leb-true, leb-false, eqb-true, eq-eqb, ne_eqb}
use Rattle.std.proofs.Math.Logic.{inl}
use mathlib.Core.List.{List, [], ◌∷◌, ◌++◌}
use Rattle.std.proofs.Math.Dec.{leb}
use Rattle.trees.specs.Plain.{every, gives}
use Rattle.trees.specs.Text.{before_end}
use Rattle.trees.specs.Mask.{has, ones_below, every_taxon, side, proper}
use Rattle.trees.specs.Tree.{Nodes, children}
use Rattle.trees.specs.Splits.{taxa, splits_of}
use Rattle.trees.specs.Verdict.{judged}
use Rattle.trees.specs.Consensus.{majority}
use Rattle.trees.specs.Written.{tree_of, written}
use Rattle.trees.specs.Held.{Held}
use Rattle.trees.specs.Groups.{has_both, nearer, nearest, group_of}
use Rattle.theorems.specs.ListLaws.{equal_or_not, by-test, if-true, if-false, and_left, and_right, and-true, or_cases, Mem, mem-right, every-at}
use Rattle.theorems.specs.BitLaws.{off_zero}
use Rattle.theorems.specs.OnesLaws.{below-ones}
use Rattle.theorems.specs.MaskLaws.{has_on, off-has, sub-below}
use Rattle.theorems.specs.ProperLaws.{proper-even, proper-two, proper-most, proper-sub, every-ones}
use Rattle.theorems.specs.OpeningLaws.{good-opening}
use Rattle.theorems.specs.ConsensusLaws.{good-proper}
use Rattle.theorems.specs.NameLaws.{good-count}
use Rattle.theorems.specs.WholeHeld.{whole}
use Rattle.theorems.specs.HeldLaws.{whole-facts}
use Rattle.theorems.specs.WrittenLaws.{tree-has-splits, written-tree-reads-back, written-before-end}
use Rattle.theorems.specs.ReadBackLaws.{names-good, majority-whole}
use Rattle.theorems.specs.EdgeLaws.{Hangs, splits-by-cutting}

-- ---- masks that have both

abbrev pub Both : ℕ → ℕ → ℕ → Type 0
Both i j m = (has m i ≡ true) × (has m j ≡ true)

pub both_true : (i j m : ℕ) → has_both i j m ≡ true → Both i j m
unfolding has_both
both_true i j m e = (and_left (has m i) (has m j) e, and_right (has m i) (has m j) e)

pub true-both : (i j m : ℕ) → Both i j m → has_both i j m ≡ true
unfolding has_both
true-both i j m h = and-true h.0 h.1

-- 0 has no taxon
both_some : (i j m : ℕ) → Both i j m → m ≡ 0 → ⊥
both_some i j m h z = true≢false (sym h.0 ∙ ap (λ (x : ℕ). has x i) z ∙ off-has 0 i (off_zero i))

-- ---- the smallest of them

-- "the smallest majority group that holds both"
pub record Smallest (n i j : ℕ) (ms : List ℕ) (x : ℕ) : Type 0 where
  pub before : List ℕ
  pub behind : List ℕ
  pub stands : ms ≡ before ++ x ∷ behind
  pub both : Both i j x
  pub least : (m : ℕ) → Mem m ms → Both i j m → ones_below n x ≤ ones_below n m
  pub first : (m : ℕ) → Mem m before → Both i j m → ones_below n x < ones_below n m

smallest-mem : (n i j : ℕ) (ms : List ℕ) (x : ℕ) → Smallest n i j ms x → Mem x ms
smallest-mem n i j ms x s = subst (Mem x) (sym s.stands) (mem-right x s.before (x ∷ s.behind) (inl refl))

module _ (n i j : ℕ) where
  -- what is named: none, or the smallest
  abbrev Named : List ℕ → ℕ → Type 0
  Named ms x = ((x ≡ 0) × ((m : ℕ) → Mem m ms → Both i j m → ⊥)) ⊎ Smallest n i j ms x

  -- a mask in front that is larger, or has not both
  in-front : (y : ℕ) (ms : List ℕ) (x : ℕ) → (Both i j y → ones_below n x < ones_below n y) → Smallest n i j ms x → Smallest n i j (y ∷ ms) x
  in-front y ms x f s = record {
    before = y ∷ s.before;
    behind = s.behind;
    stands = ap (λ (l : List ℕ). y ∷ l) s.stands;
    both = s.both;
    least = least;
    first = first;
  }
    where
      larger : (m : ℕ) → m ≡ y → Both i j m → ones_below n x < ones_below n m
      larger m e h = subst (λ (z : ℕ). ones_below n x < ones_below n z) (sym e) (f (subst (Both i j) e h))

      least : (m : ℕ) → (m ≡ y) ⊎ Mem m ms → Both i j m → ones_below n x ≤ ones_below n m
      least m (inl e) h = le_of_lt (larger m e h)
      least m (inr k) h = s.least m k h

      first : (m : ℕ) → (m ≡ y) ⊎ Mem m s.before → Both i j m → ones_below n x < ones_below n m
      first m (inl e) h = larger m e h
      first m (inr k) h = s.first m k h

  -- a mask that nothing behind it is smaller than
  in_place : (y : ℕ) (ms : List ℕ) → Both i j y → ((m : ℕ) → Mem m ms → Both i j m → ones_below n y ≤ ones_below n m) → Smallest n i j (y ∷ ms) y
  in_place y ms b f = record { before = []; behind = ms; stands = refl; both = b; least = least; first = λ m k. absurd k }
    where
      least : (m : ℕ) → (m ≡ y) ⊎ Mem m ms → Both i j m → ones_below n y ≤ ones_below n m
      least m (inl e) h = subst (λ (z : ℕ). ones_below n y ≤ ones_below n z) (sym e) (le_refl (ones_below n y))
      least m (inr k) h = f m k h

  -- y is named, or passed by
  taken : (y : ℕ) (ms : List ℕ) (x : ℕ) → Named ms x → Both i j y → (eqb x 0 || leb (ones_below n y) (ones_below n x)) ≡ true → Named (y ∷ ms) y
  taken y ms x (inl r) b e = inr (in_place y ms b (λ m k h. absurd (r.1 m k h)))
  taken y ms x (inr s) b e = inr (in_place y ms b (λ m k h. le_trans (go (or_cases (eqb x 0) _ e)) (s.least m k h)))
    where
      go : (eqb x 0 ≡ true) ⊎ (leb (ones_below n y) (ones_below n x) ≡ true) → ones_below n y ≤ ones_below n x
      go (inl z) = absurd (both_some i j x s.both (eqb-true x 0 z))
      go (inr l) = leb-true (ones_below n y) (ones_below n x) l

  passed : (y : ℕ) (ms : List ℕ) (x : ℕ) → Named ms x → (has_both i j y && (eqb x 0 || leb (ones_below n y) (ones_below n x))) ≡ false → Named (y ∷ ms) x
  passed y ms x (inl r) e = inl (r.0, none)
    where
      none : (m : ℕ) → (m ≡ y) ⊎ Mem m ms → Both i j m → ⊥
      none m (inl q) h =
          true≢false (sym (ap₂ (λ (a b : Bool). a && (b || leb (ones_below n y) (ones_below n x))) (true-both i j y (subst (Both i j) q h)) (eq-eqb x 0 r.0)) ∙ e)
      none m (inr k) h = r.1 m k h
  passed y ms x (inr s) e = inr (in-front y ms x fewer s)
    where
      fewer : Both i j y → ones_below n x < ones_below n y
      fewer h =
          leb-false (ones_below n y) (ones_below n x)
          (sym (ap₂ (λ (a b : Bool). a && (b || leb (ones_below n y) (ones_below n x))) (true-both i j y h) (ne_eqb x 0 (both_some i j x s.both))) ∙ e)

  named : (ms : List ℕ) → Named ms (nearest n i j ms)
  unfolding nearest nearer
  named [] = inl (refl, λ m k. absurd k)
  named (y ∷ ms) =
      let x = nearest n i j ms in
      by-test (Named (y ∷ ms)) (has_both i j y && (eqb x 0 || leb (ones_below n y) (ones_below n x)))
      (λ e. taken y ms x (named ms) (both_true i j y (and_left (has_both i j y) _ e)) (and_right (has_both i j y) _ e)) (passed y ms x (named ms))

-- ---- there is only one

one_place : (b c : List ℕ) (x y : ℕ) (d e : List ℕ) → b ++ x ∷ d ≡ c ++ y ∷ e → Mem x c ⊎ (Mem y b ⊎ (x ≡ y))
one_place [] [] x y d e q = inr (inr cc)
one_place [] (u ∷ c) x y d e q = inl (inl cc)
one_place (u ∷ b) [] x y d e q = inr (inl (inl cc))
one_place (u ∷ b) (v ∷ c) x y d e q = go (one_place b c x y d e cc)
  where
    go : Mem x c ⊎ (Mem y b ⊎ (x ≡ y)) → ((x ≡ v) ⊎ Mem x c) ⊎ (((y ≡ u) ⊎ Mem y b) ⊎ (x ≡ y))
    go (inl h) = inl (inr h)
    go (inr (inl h)) = inr (inl (inr h))
    go (inr (inr h)) = inr (inr h)

smallest-one : (n i j : ℕ) (ms : List ℕ) (x y : ℕ) → Smallest n i j ms x → Smallest n i j ms y → x ≡ y
smallest-one n i j ms x y s t = go (one_place s.before t.before x y s.behind t.behind (sym s.stands ∙ t.stands))
  where
    go : Mem x t.before ⊎ (Mem y s.before ⊎ (x ≡ y)) → x ≡ y
    go (inl h) = absurd (omega (arith, t.first x h s.both, s.least y (smallest-mem n i j ms y t) t.both))
    go (inr (inl h)) = absurd (omega (arith, s.first y h t.both, t.least x (smallest-mem n i j ms x s) s.both))
    go (inr (inr e)) = e

-- ---- the group that is named for two taxa

module _ (n i j : ℕ) (ms : List ℕ) where
  pub nearest-exactly : (x : ℕ) → ((nearest n i j ms ≡ x) × (x ≡ 0 → ⊥)) ↔ Smallest n i j ms x
  nearest-exactly x = (λ e. there (named n i j ms) e.0 e.1, λ s. (back s (named n i j ms), both_some i j x s.both))
    where
      there : Named n i j ms (nearest n i j ms) → nearest n i j ms ≡ x → (x ≡ 0 → ⊥) → Smallest n i j ms x
      there (inl r) e z = absurd (z (sym e ∙ r.0))
      there (inr s) e z = subst (Smallest n i j ms) e s

      back : Smallest n i j ms x → Named n i j ms (nearest n i j ms) → nearest n i j ms ≡ x
      back s (inl r) = absurd (r.1 x (smallest-mem n i j ms x s) s.both)
      back s (inr t) = smallest-one n i j ms (nearest n i j ms) x t s

  pub none-exactly : (nearest n i j ms ≡ 0) ↔ ((m : ℕ) → Mem m ms → Both i j m → ⊥)
  none-exactly = (λ e. there e (named n i j ms), λ p. back p (named n i j ms))
    where
      there : nearest n i j ms ≡ 0 → Named n i j ms (nearest n i j ms) → (m : ℕ) → Mem m ms → Both i j m → ⊥
      there e (inl r) = r.1
      there e (inr s) = absurd (both_some i j (nearest n i j ms) s.both e)

      back : ((m : ℕ) → Mem m ms → Both i j m → ⊥) → Named n i j ms (nearest n i j ms) → nearest n i j ms ≡ 0
      back p (inl r) = r.0
      back p (inr s) = absurd (p (nearest n i j ms) (smallest-mem n i j ms (nearest n i j ms) s) s.both)

  pub none-all : nearest n i j ms ≡ 0 → group_of n i j ms ≡ every_taxon n
  unfolding group_of
  none-all e = if-true (every_taxon n) (nearest n i j ms) (eq-eqb (nearest n i j ms) 0 e)

  pub some-group : (nearest n i j ms ≡ 0 → ⊥) → group_of n i j ms ≡ nearest n i j ms
  unfolding group_of
  some-group f = if-false (every_taxon n) (nearest n i j ms) (ne_eqb (nearest n i j ms) 0 f)

-- a split's mask is "the side WITHOUT taxon 0"
pub first-taxon-none : (n : ℕ) (ms : List ℕ) → every (proper n) ms ≡ true → (j : ℕ) → nearest n 0 j ms ≡ 0
first-taxon-none n ms good j = (none-exactly n 0 j ms).1 (λ m k h. proper-even n m (every-at (proper n) ms good m k) (has_on m 0 h.0))

-- ---- either way

both-either-way : (i j m : ℕ) → has_both i j m ≡ has_both j i m
unfolding has_both
both-either-way i j m = go (has m i) (has m j)
  where
    go : (a b : Bool) → (a && b) ≡ (b && a)
    go true true = refl
    go true false = refl
    go false true = refl
    go false false = refl

pub nearest-either-way : (n i j : ℕ) (ms : List ℕ) → nearest n i j ms ≡ nearest n j i ms
unfolding nearest nearer
nearest-either-way n i j [] = refl
nearest-either-way n i j (m ∷ ms) =
    ap₂ (λ (b : Bool) (x : ℕ). if b && (eqb x 0 || leb (ones_below n m) (ones_below n x)) then m else x) (both-either-way i j m) (nearest-either-way n i j ms)

pub group-either-way : (n i j : ℕ) (ms : List ℕ) → group_of n i j ms ≡ group_of n j i ms
unfolding group_of
group-either-way n i j ms = ap (λ (x : ℕ). if eqb x 0 then every_taxon n else x) (nearest-either-way n i j ms)

-- ---- how many taxa it has

abbrev pub Sized : ℕ → ℕ → ℕ → List ℕ → Type 0
Sized n i j ms =
    ((nearest n i j ms ≡ 0) × (ones_below n (group_of n i j ms) ≡ n))
    ⊎ ((nearest n i j ms ≡ 0 → ⊥) × (2 ≤ ones_below n (group_of n i j ms)) × (ones_below n (group_of n i j ms) + 2 ≤ n))

all-size : (n : ℕ) → ones_below n (every_taxon n) ≡ n
all-size n = below-ones n (every_taxon n) (sub-below n (every_taxon n) (λ k h. h)) ∙ every-ones n

proper-size : (n m : ℕ) → proper n m ≡ true → (2 ≤ ones_below n m) × (ones_below n m + 2 ≤ n)
proper-size n m p =
    let e = below-ones n m (sub-below n m (proper-sub n m p)) in
    (omega (arith, e, proper-two n m p), omega (arith, e, proper-two n m p, proper-most n m p))

pub group-size : (n : ℕ) (ms : List ℕ) → every (proper n) ms ≡ true → (i j : ℕ) → Sized n i j ms
group-size n ms good i j = go (equal_or_not (nearest n i j ms) 0)
  where
    go : (nearest n i j ms ≡ 0) ⊎ (nearest n i j ms ≡ 0 → ⊥) → Sized n i j ms
    go (inl z) = inl (z, ap (ones_below n) (none-all n i j ms z) ∙ all-size n)
    go (inr f) =
        let x = nearest n i j ms in
        let s = (nearest-exactly n i j ms x).0 (refl, f) in
        let p = proper-size n x (every-at (proper n) ms good x (smallest-mem n i j ms x s)) in
        let e = ap (ones_below n) (some-group n i j ms f) in
        inr (f, omega (arith, e, p.0), omega (arith, e, p.1))

-- ---- the groups of a whole collection

module _ (h : Held) (w : whole h ≡ true) where
  abbrev n : ℕ
  n = h.opening.numbers.taxa

  abbrev names : List (List ℕ)
  names = h.opening.names

  pub groups-proper : every (proper n) (majority h.trees) ≡ true
  groups-proper = good-proper n (majority h.trees) (majority-whole h w)

  pub groups-read-back : judged names (before_end false (written names (majority h.trees))) ≡ gives (majority h.trees)
  groups-read-back =
      let r = (good-opening h.opening (whole-facts h w).opening-good).ranges in
      ap (judged names) (written-before-end n names (majority h.trees) (names-good h w) (majority-whole h w) (omega (arith, r.least-taxa)))
      ∙ written-tree-reads-back n names (majority h.trees) (names-good h w) (majority-whole h w) (omega (arith, r.least-taxa)) r.most-taxa

  pub groups-by-cutting : (m : ℕ)
      → Mem m (majority h.trees) ↔ ((x : Nodes) × Hangs x (children (tree_of names (majority h.trees))) × (m ≡ side n (taxa names x)) × (proper n m ≡ true))
  groups-by-cutting m =
      subst (λ (l : List ℕ). Mem m l ↔ ((x : Nodes) × Hangs x (children (tree_of names (majority h.trees))) × (m ≡ side n (taxa names x)) × (proper n m ≡ true)))
      (tree-has-splits n names (majority h.trees) (names-good h w) (majority-whole h w))
      (subst (λ (k : ℕ). Mem m (splits_of names (tree_of names (majority h.trees))) ↔ ((x : Nodes) × Hangs x (children (tree_of names (majority h.trees))) × (m ≡ side k (taxa names x)) × (proper k m ≡ true)))
      (good-count n names (names-good h w)) (splits-by-cutting names (tree_of names (majority h.trees)) m))
