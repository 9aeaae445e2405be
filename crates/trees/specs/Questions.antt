-- The questions that a collection answers. None of them changes what it holds. `room` is how many elements a lent buffer has.
--
--   trees_held, splits_held   the number of accepted trees, of recorded splits
--   split_list               every recorded split and its count
--   split_number             one recorded split and its count
--   tree_number              the splits of one tree
--   one_sided_of, doubled_of   the distances of two trees
--   matrix_of                the doubled distances of all pairs
--   collisions_of            the collision number
--   strict_of, majority_of    the consensus trees, written
--   both_of                  both of them, into a buffer each
--   written_of               an accepted tree, written
--   weighted_of              the weighted distance of two trees
--   sums_of                  the shortest, longest and summed length of one recorded split
use Rattle.std.specs.Prelude.{ℕ, ◌||◌, List, [], ◌∷◌, map, ltb, eqb, length, get_or, Float, if◌then◌else◌}
use Rattle.std.proofs.Math.Option.{Option, none, some}
use Rattle.trees.specs.Plain.{member, Answer, refused, gives}
use Rattle.trees.specs.Value.{Length}
use Rattle.trees.specs.Distance.{one_sided, doubled, matrix}
use Rattle.trees.specs.Consensus.{recorded, count, strict, majority}
use Rattle.trees.specs.Hash.{collisions}
use Rattle.trees.specs.Written.{written}
use Rattle.trees.specs.Weighted.{weighted}
use Rattle.trees.specs.Sums.{Sums, sums}
use Rattle.trees.specs.Held.{Held}

-- 4: "a lent buffer is too short for the whole answer"
unfoldable pub if_room : {A : Type 0} → ℕ → List A → Answer (List A)
if_room room xs = if ltb room (length xs) then refused 4 else gives xs

-- 13: "no such tree"
unfoldable pub if_tree : {A : Type 0} → Held → ℕ → Answer A → Answer A
if_tree h i a = if ltb i (length h.trees) then a else refused 13

-- 14: "consensus of no trees"
unfoldable pub if_trees : {A : Type 0} → Held → Answer A → Answer A
if_trees h a = if eqb (length h.trees) 0 then refused 14 else a

unfoldable pub tree : Held → ℕ → List ℕ
tree h i = get_or h.trees i []

unfoldable pub trees_held : Held → Answer ℕ
trees_held h = gives (length h.trees)

unfoldable pub splits_held : Held → Answer ℕ
unfolding recorded
splits_held h = gives (length (recorded h.trees))

-- "Split list and counts come in rising order of mask"; a buffer each for masks and counts
unfoldable pub split_list : Held → ℕ → ℕ → Answer (List ℕ × List ℕ)
unfolding recorded count
split_list h mask_room count_room =
    let ms = recorded h.trees in
    if ltb mask_room (length ms) || ltb count_room (length ms) then refused 4 else gives (ms, map (count h.trees) ms)

-- 13: "no such .. split number"
unfoldable pub split_number : Held → ℕ → Answer (ℕ × ℕ)
unfolding recorded count
split_number h s =
    let ms = recorded h.trees in
    if ltb s (length ms) then gives (get_or ms s 0, count h.trees (get_or ms s 0)) else refused 13

unfoldable pub tree_number : Held → ℕ → ℕ → Answer (List ℕ)
unfolding if_tree if_room tree
tree_number h i room = if_tree h i (if_room room (tree h i))

unfoldable pub one_sided_of : Held → ℕ → ℕ → Answer ℕ
unfolding if_tree one_sided tree
one_sided_of h i j = if_tree h i (if_tree h j (gives (one_sided (tree h i) (tree h j))))

unfoldable pub doubled_of : Held → ℕ → ℕ → Answer ℕ
unfolding if_tree doubled tree
doubled_of h i j = if_tree h i (if_tree h j (gives (doubled (tree h i) (tree h j))))

-- "With no trees it writes nothing and answers 0 entries"
unfoldable pub matrix_of : Held → ℕ → Answer (List ℕ)
unfolding if_room matrix
matrix_of h room = if_room room (matrix h.trees)

unfoldable pub collisions_of : Held → Answer ℕ
unfolding collisions recorded
collisions_of h = gives (collisions h.opening.first h.opening.second h.opening.numbers.places (recorded h.trees))

unfoldable pub strict_of : Held → ℕ → Answer (List ℕ)
unfolding if_trees if_room written strict
strict_of h room = if_trees h (if_room room (written h.opening.names (strict h.trees)))

unfoldable pub majority_of : Held → ℕ → Answer (List ℕ)
unfolding if_trees if_room written majority
majority_of h room = if_trees h (if_room room (written h.opening.names (majority h.trees)))

-- what both answers give, or the first refusal
unfoldable pub together : {A B : Type 0} → Answer A → Answer B → Answer (A × B)
together (refused k) y = refused k
together (gives x) (refused k) = refused k
together (gives x) (gives y) = gives (x, y)

-- a buffer each for the strict and the majority tree
unfoldable pub both_of : Held → ℕ → ℕ → Answer (List ℕ × List ℕ)
unfolding together strict_of majority_of
both_of h strict_room majority_room = together (strict_of h strict_room) (majority_of h majority_room)

unfoldable pub written_of : Held → ℕ → ℕ → Answer (List ℕ)
unfolding if_tree if_room written tree
written_of h i room = if_tree h i (if_room room (written h.opening.names (tree h i)))

-- 18: "a length needed is absent or none are kept"
unfoldable pub if_kept : {A : Type 0} → Held → Answer A → Answer A
if_kept h a = if eqb h.opening.numbers.kept 0 then refused 18 else a

-- one given length more
unfoldable pub with_given : Length → Option (List Float) → Option (List Float)
with_given none r = none
with_given (some x) none = none
with_given (some x) (some xs) = some (x ∷ xs)

-- the lengths xs, if none of them is absent
unfoldable pub all_given : List Length → Option (List Float)
unfolding with_given
all_given [] = some []
all_given (x ∷ xs) = with_given x (all_given xs)

unfoldable pub if_given : {A : Type 0} → List Length → (List Float → A) → Answer A
unfolding all_given
if_given xs f = elim (all_given xs) [ none ↦ refused 18 | some ys ↦ gives (f ys) ]

unfoldable pub tree_lengths : Held → ℕ → List Length
tree_lengths h i = get_or h.lengths i []

-- the lengths of two trees, and what is made of them
unfoldable pub if_both_given : {A : Type 0} → List Length → List Length → (List Float → List Float → A) → Answer A
unfolding all_given if_given
if_both_given xs ys f = elim (all_given xs) [ none ↦ refused 18 | some vs ↦ if_given ys (f vs) ]

-- "18 .. after 13"; a tree's own distance from itself needs its lengths, too
unfoldable pub weighted_of : Held → ℕ → ℕ → Answer Float
unfolding if_tree if_kept if_both_given tree_lengths weighted tree
weighted_of h i j =
    if_tree h i (if_tree h j (if_kept h (if_both_given (tree_lengths h i) (tree_lengths h j) (λ xs ys. weighted (tree h i) xs (tree h j) ys))))

-- the length of the split m among the splits and lengths of a tree that has it
unfoldable pub length_for : ℕ → List ℕ → List Length → Length
length_for m [] xs = none
length_for m (a ∷ t) [] = none
length_for m (a ∷ t) (x ∷ xs) = if eqb m a then x else length_for m t xs

-- "over the trees having it", in tree order
unfoldable pub lengths_for : ℕ → List (List ℕ) → List (List Length) → List Length
unfolding member length_for
lengths_for m [] xss = []
lengths_for m (t ∷ ts) [] = []
lengths_for m (t ∷ ts) (xs ∷ xss) = if member m t then length_for m t xs ∷ lengths_for m ts xss else lengths_for m ts xss

-- "For a split number we also want the shortest, longest and summed length over the trees having it"
unfoldable pub sums_of : Held → ℕ → Answer Sums
unfolding recorded if_kept if_given lengths_for sums
sums_of h s =
    let ms = recorded h.trees in
    if ltb s (length ms) then if_kept h (if_given (lengths_for (get_or ms s 0) h.trees h.lengths) sums) else refused 13
