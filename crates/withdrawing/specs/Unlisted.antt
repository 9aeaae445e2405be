-- What the steps of taking a tree from the lists leave of lent bytes.
--
--   CountedLess s k t      the bytes t are s, but each split of tree k counts one less
--   lengths_moved n k m s   the bytes s, with the lengths of the m trees behind tree k moved down by one number, where lengths are kept
--   TreesMoved s k t       the bytes t are s, but the trees behind tree k, and their lengths, have moved down by one number
use Rattle.std.specs.Prelude.{ℕ, suc, ◌+◌, ◌-◌, ◌*◌, ◌≤◌, ◌<◌, ◌≡◌, ◌⊎◌, List, eqb, length, get_or, if◌then◌else◌}
use Rattle.trees.specs.Plain.{member}
use Rattle.trees.specs.Opening.{Numbers, tree_bytes, branch_bytes}
use Rattle.fields.specs.Field.{number}
use Rattle.fields.specs.Run.{copied}
use Rattle.head.specs.Head.{numbers_at}
use Rattle.layout.specs.Store.{tree_from, masks_from, counts_from, links_from, branches_from, lengths_from, size_at, trees_held_at, splits_held_at, count_at, list_at}
use Rattle.layout.specs.UpToLaws.{one_if}
use Rattle.withdrawing.specs.WithoutLaws.{old_number}

pub record CountedLess (s : List ℕ) (k : ℕ) (t : List ℕ) : Type 0 where
  pub size : length t ≡ length s
  pub counts : (r : ℕ) → r < splits_held_at s → number 4 t (counts_from (numbers_at s) + 4 * r) ≡ count_at s r - one_if (member r (list_at s k))
  pub outside : (i : ℕ) → (i < counts_from (numbers_at s)) ⊎ (links_from (numbers_at s) ≤ i) → get_or t i 0 ≡ get_or s i 0

unfoldable pub lengths_moved : Numbers → ℕ → ℕ → List ℕ → List ℕ
unfolding copied
lengths_moved n k m s = if eqb n.kept 0 then s else copied s (lengths_from n k) s (lengths_from n k + branch_bytes) (branch_bytes * m)

pub record TreesMoved (s : List ℕ) (k : ℕ) (t : List ℕ) : Type 0 where
  pub size : length t ≡ length s
  pub trees : suc (number 2 t 10) ≡ trees_held_at s
  pub lists : (i b : ℕ) → suc i < trees_held_at s → b < tree_bytes
      → get_or t (tree_from (numbers_at s) i + b) 0 ≡ get_or s (tree_from (numbers_at s) (old_number k i) + b) 0
  pub branches : 1 ≤ (numbers_at s).kept → (i b : ℕ) → suc i < trees_held_at s → b < branch_bytes
      → get_or t (lengths_from (numbers_at s) i + b) 0 ≡ get_or s (lengths_from (numbers_at s) (old_number k i) + b) 0
  pub outside : (i : ℕ) → (i < 10) ⊎ (12 ≤ i) → (i < tree_from (numbers_at s) 0) ⊎ (masks_from (numbers_at s) ≤ i)
      → (i < branches_from (numbers_at s)) ⊎ (size_at s ≤ i) → get_or t i 0 ≡ get_or s i 0
