-- The distances that a collection answers: a metric on its trees, and a symmetric matrix with a zero diagonal.
--
--   distance-given        the answer for two trees that there are
--   distance-sym          the same both ways round, refusals too
--   distance_self         0 for a tree and itself
--   distance-zero         0 exactly for trees with the same splits
--   distance-triangle     the way over a third tree is no shorter
--   entry-distance        entry (i, j) of the matrix is the distance of the trees i and j
--   entry-sym, entry-diagonal     so entries (i, j) and (j, i) are equal, and entry (i, i) is 0
use Rattle.std.specs.Prelude.{ℕ, ◌+◌, ◌*◌, ◌≤◌, ◌<◌, ◌≡◌, ◌↔◌, Bool, ltb, if◌then◌else◌}
use Rattle.std.proofs.Common.{arith, sym, ◌∙◌, lt-ltb}
use Rattle.std.proofs.Math.Path.{refl, ap}
use Rattle.std.proofs.Math.Bool.{true, false}
use mathlib.Core.List.{List, []}
use Rattle.std.proofs.Math.ListN.{length, get_or}
use Rattle.trees.specs.Plain.{Answer, refused, gives}
use Rattle.trees.specs.Distance.{doubled, matrix}
use Rattle.trees.specs.Held.{Held}
use Rattle.trees.specs.Questions.{if_room, if_tree, tree, doubled_of, matrix_of}
use Rattle.trees.specs.Whole.{good_tree}
use Rattle.theorems.specs.ListLaws.{if-true}
use Rattle.theorems.specs.RisingLaws.{Rising, rising-true}
use Rattle.theorems.specs.DistanceLaws.{doubled-sym, doubled-self, doubled-zero, doubled-triangle}
use Rattle.theorems.specs.MatrixLaws.{matrix-at, matrix-sym, matrix-diagonal}
use Rattle.theorems.specs.OpeningLaws.{every-get_d}
use Rattle.theorems.specs.ConsensusLaws.{good-rising}
use Rattle.theorems.specs.HeldLaws.{Whole}

module _ (h : Held) where
  -- ---- two trees

  there : {A : Type 0} (i : ℕ) (a : Answer A) → i < length h.trees → if_tree h i a ≡ a
  unfolding if_tree
  there i a l = if-true a (refused 13) (lt-ltb i (length h.trees) l)

  pub distance-given : (i j : ℕ) → i < length h.trees → j < length h.trees → doubled_of h i j ≡ gives (doubled (tree h i) (tree h j))
  unfolding doubled_of
  distance-given i j a b = there i _ a ∙ there j (gives (doubled (tree h i) (tree h j))) b

  -- 13 for either tree
  either : {A : Type 0} (i j : ℕ) (a b : Answer A) → a ≡ b → if_tree h i (if_tree h j a) ≡ if_tree h j (if_tree h i b)
  unfolding if_tree
  either {A} i j a b e = go (ltb i (length h.trees)) (ltb j (length h.trees))
    where
      go : (p q : Bool) → (if p then if q then a else refused 13 else refused 13) ≡ (if q then if p then b else refused 13 else refused 13)
      go true true = e
      go true false = refl
      go false true = refl
      go false false = refl

  pub distance-sym : (i j : ℕ) → doubled_of h i j ≡ doubled_of h j i
  unfolding doubled_of
  distance-sym i j = either i j _ _ (ap gives (doubled-sym (tree h i) (tree h j)))

  pub distance_self : (i : ℕ) → i < length h.trees → doubled_of h i i ≡ gives 0
  distance_self i a = distance-given i i a a ∙ ap gives (doubled-self (tree h i))

  given-one : (a b : ℕ) → ◌≡◌ {A = Answer ℕ} (gives a) (gives b) → a ≡ b
  given-one a b e = cc

  -- ---- of a whole collection

  module _ (w : Whole h) where
    empty-good : (n : ℕ) → good_tree n [] ≡ true
    unfolding good_tree
    empty-good n = refl

    tree-rising : (i : ℕ) → Rising (tree h i)
    unfolding tree
    tree-rising i =
        let n = h.opening.numbers.taxa in
        rising-true (tree h i) (good-rising n (tree h i) (every-get_d (good_tree n) h.trees [] (empty-good n) w.trees-good i))

    pub distance-zero : (i j : ℕ) → i < length h.trees → j < length h.trees → (doubled_of h i j ≡ gives 0) ↔ (tree h i ≡ tree h j)
    distance-zero i j a b = (
      λ e. (doubled-zero (tree h i) (tree h j) (tree-rising i) (tree-rising j)).0 (given-one _ _ (sym (distance-given i j a b) ∙ e)),
      λ e. distance-given i j a b ∙ ap gives ((doubled-zero (tree h i) (tree h j) (tree-rising i) (tree-rising j)).1 e),
    )

    pub distance-triangle : (i j k x y z : ℕ) → i < length h.trees → j < length h.trees → k < length h.trees
        → doubled_of h i k ≡ gives x → doubled_of h i j ≡ gives y → doubled_of h j k ≡ gives z → x ≤ y + z
    distance-triangle i j k x y z a b c p q r =
        let u : doubled (tree h i) (tree h k) ≡ x = given-one _ _ (sym (distance-given i k a c) ∙ p) in
        let v : doubled (tree h i) (tree h j) ≡ y = given-one _ _ (sym (distance-given i j a b) ∙ q) in
        let t : doubled (tree h j) (tree h k) ≡ z = given-one _ _ (sym (distance-given j k b c) ∙ r) in
        omega (arith, doubled-triangle (tree h i) (tree h j) (tree h k) (tree-rising i) (tree-rising k))

  -- ---- the matrix, where there is room for it

  module _ (room : ℕ) (es : List ℕ) (e : matrix_of h room ≡ gives es) where
    entries : es ≡ matrix h.trees
    unfolding matrix_of if_room
    entries = go (ltb room (length (matrix h.trees))) e
      where
        go : (b : Bool) → (if b then refused 4 else gives (matrix h.trees)) ≡ gives es → es ≡ matrix h.trees
        go true q = cc
        go false q = cc

    pub entry-distance : (i j : ℕ) → i < length h.trees → j < length h.trees → doubled_of h i j ≡ gives (get_or es (i * length h.trees + j) 0)
    unfolding tree
    entry-distance i j a b = distance-given i j a b ∙ ap gives (sym (matrix-at h.trees i j a b) ∙ ap (λ (x : List ℕ). get_or x (i * length h.trees + j) 0) (sym entries))

    pub entry-sym : (i j : ℕ) → i < length h.trees → j < length h.trees → get_or es (i * length h.trees + j) 0 ≡ get_or es (j * length h.trees + i) 0
    entry-sym i j a b = rw entries (matrix-sym h.trees i j a b)

    pub entry-diagonal : (i : ℕ) → i < length h.trees → get_or es (i * length h.trees + i) 0 ≡ 0
    entry-diagonal i a = rw entries (matrix-diagonal h.trees i a)
