-- What the recursion that draws a tree puts. Of a node's lines the first continues the line that its branch stands in; before each other
-- one a prefix stands, which is one for all of them.
--
--   grown_lines ns ts s m r     the lines of the children of the node m that have the taxa r, with enough steps
--   each p ls                  the lines ls, each behind the prefix p and with its line end
--   drawn_text p ls             the same, but nothing stands before the first
--   leaf_line ns i              the line of taxon i
--   group_branch ts x           the branch to the group x, with its count in the trees ts
--   beside last                what stands below a branch: a bar, or a blank below the last
--   longer p last w            the prefix p, made longer for the lines behind the branch w
--   child_drawn ns ts s p last i x     a child behind its first byte: the leaf i, where x is 0, or the group x
--   count_in ms cs x            the count beside the mask x, of the masks ms and their counts cs
--   Counted ts ms cs           the counts cs of the masks ms in the trees ts, each below 65,536
--   Fits r p at e              no line is longer than 600 bytes: the lines of the taxa r, and one prefix, from `at` up to e
use Rattle.std.specs.Prelude.{ℕ, suc, ◌+◌, ◌*◌, ◌≤◌, ◌<◌, ◌≡◌, Bool, true, false, List, [], ◌∷◌, ◌++◌, map, eqb, length, get_or, if◌then◌else◌}
use Rattle.std.specs.Int.Count.{ones}
use Rattle.trees.specs.Plain.{bytes, byte}
use Rattle.trees.specs.Consensus.{count}
use Rattle.trees.specs.Written.{written_name}
use Rattle.trees.specs.Drawn.{branch_to, blank}
use Rattle.theorems.specs.DrawnBranches.{drawn_branches}

unfoldable pub grown_lines : List (List ℕ) → List (List ℕ) → List ℕ → ℕ → ℕ → List (List ℕ)
unfolding drawn_branches
grown_lines ns ts s m r = drawn_branches (suc (m + r)) ns ts s m r

unfoldable pub each : List ℕ → List (List ℕ) → List ℕ
each p [] = []
each p (l ∷ ls) = p ++ (l ++ (byte "\n" ∷ each p ls))

unfoldable pub drawn_text : List ℕ → List (List ℕ) → List ℕ
unfolding each
drawn_text p [] = []
drawn_text p (l ∷ ls) = l ++ (byte "\n" ∷ each p ls)

abbrev pub leaf_line : List (List ℕ) → ℕ → List ℕ
leaf_line ns i = bytes "- " ++ written_name (get_or ns i [])

abbrev pub group_branch : List (List ℕ) → ℕ → List ℕ
group_branch ts x = branch_to (count ts x)

unfoldable pub beside : Bool → ℕ
beside true = byte " "
beside false = byte "|"

unfoldable pub longer : List ℕ → Bool → List ℕ → List ℕ
unfolding beside blank
longer p last w = p ++ (beside last ∷ blank w)

unfoldable pub child_drawn : List (List ℕ) → List (List ℕ) → List ℕ → List ℕ → Bool → ℕ → ℕ → List ℕ
unfolding grown_lines drawn_text longer
child_drawn ns ts s p last i x =
    if eqb x 0 then leaf_line ns i ++ byte "\n" ∷ [] else group_branch ts x ++ drawn_text (longer p last (group_branch ts x)) (grown_lines ns ts s x x)

unfoldable pub count_in : List ℕ → List ℕ → ℕ → ℕ
count_in [] cs x = 0
count_in (m ∷ ms) [] x = 0
count_in (m ∷ ms) (c ∷ cs) x = if eqb m x then c else count_in ms cs x

pub record Counted (ts : List (List ℕ)) (ms cs : List ℕ) : Type 0 where
  pub counts : cs ≡ map (count ts) ms
  pub small : (x : ℕ) → count ts x < 65536

abbrev pub Fits : ℕ → List ℕ → ℕ → ℕ → Type 0
Fits r p at e = (r ≡ 0 → ⊥) → e + length p ≤ at + 600 * ones r
