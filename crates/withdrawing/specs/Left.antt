-- A store's parts without a tree, and then without the rows that no tree lists any longer.
--
--   without_list k p     the parts p without tree k; each of its splits counts one less
--   stays p r           the split in row r counts for a tree
--   rows_left p n        the rows below n that stay, rising
--   new_row p r          the row that row r becomes: how many rows below it stay
--   entries_left p n     for each entry of a chain up to n (a row and one more, or 0 for its end) the entry that it becomes: that of its
--                       row, if the row stays, and else that of the next lower row of its place
--   new_entry p e        what the entry e becomes
--   without_rows p       the parts p without the rows that do not stay
--   Turned s p t        the lent bytes t have the parts p; the opening, the lanes and what lies behind the store are as in s
use Rattle.std.specs.Prelude.{ℕ, zero, suc, ◌-◌, Bool, List, [], ◌∷◌, ◌++◌, map, ltb, length, get_or, if◌then◌else◌}
use Rattle.trees.specs.Plain.{keep, member}
use Rattle.trees.specs.Withdrawing.{without_at}
use Rattle.head.specs.Head.{up_to}
use Rattle.layout.specs.Store.{Parts, splits_in, mask_in, identifier_in, count_in, link_in, list_in}
use Rattle.layout.specs.Becomes.{Becomes}
use Rattle.layout.specs.UpToLaws.{one_if}
use Rattle.withdrawing.specs.Withdrawn.{SameFront}

-- ---- without a tree

unfoldable pub without_list : ℕ → Parts → Parts
unfolding without_at one_if
without_list k p = record {
  masks = p.masks;
  identifiers = p.identifiers;
  counts = up_to (λ r. count_in p r - one_if (member r (list_in p k))) (splits_in p);
  links = p.links;
  order = p.order;
  starts = p.starts;
  lists = without_at k p.lists;
  branches = without_at k p.branches;
  lengths = p.lengths;
  texts = p.texts;
}

-- ---- without rows

unfoldable pub stays : Parts → ℕ → Bool
stays p r = ltb 0 (count_in p r)

unfoldable pub rows_left : Parts → ℕ → List ℕ
unfolding stays
rows_left p zero = []
rows_left p (suc n) = if stays p n then rows_left p n ++ n ∷ [] else rows_left p n

unfoldable pub new_row : Parts → ℕ → ℕ
unfolding rows_left
new_row p r = length (rows_left p r)

unfoldable pub entries_left : Parts → ℕ → List ℕ
unfolding stays new_row
entries_left p zero = 0 ∷ []
entries_left p (suc n) = entries_left p n ++ (if stays p n then suc (new_row p n) else get_or (entries_left p n) (link_in p n) 0) ∷ []

unfoldable pub new_entry : Parts → ℕ → ℕ
unfolding entries_left
new_entry p e = get_or (entries_left p (splits_in p)) e 0

-- "A split whose count falls to 0 leaves the table"
unfoldable pub without_rows : Parts → Parts
unfolding rows_left new_row new_entry keep stays
without_rows p = record {
  masks = map (mask_in p) (rows_left p (splits_in p));
  identifiers = map (identifier_in p) (rows_left p (splits_in p));
  counts = map (count_in p) (rows_left p (splits_in p));
  links = map (λ r. new_entry p (link_in p r)) (rows_left p (splits_in p));
  order = map (new_row p) (keep (stays p) p.order);
  starts = map (new_entry p) p.starts;
  lists = map (map (new_row p)) p.lists;
  branches = p.branches;
  lengths = p.lengths;
  texts = p.texts;
}

-- ---- the bytes

pub record Turned (s : List ℕ) (p : Parts) (t : List ℕ) : Type 0 where
  pub becomes : Becomes s p t
  pub front : SameFront s t
