-- What recording a tree asks and gives.
--
--   SplitsOf s n rs      the first n records are those of a tree's splits, with their places and identifiers
--   length_of_word w       the length that a word of 64 bits stands for
--   lengths_given s n ws  the lengths of a tree of n splits that the words ws stand for, where lengths are kept
--   LengthsOf s n ws     the words are there, and each length is finite and not minus zero
--   tree_given s n rs ws  the tree of the first n records, with the lengths of the words ws
--   new_in p ms           those of the masks ms that are new to the parts p
--   Stands l k m         the mask m stands in row k of the masks l
--   FoundAs p m r        the look for the split m in the parts p answers its row, or that it is not recorded
--   RowsOf p n rs rows   the rows of the first n records' masks, those of new ones behind the others
--   Grown s ms u         the lent bytes u are s with the new splits ms behind the others, listed by no tree
--   Accepts a s r t      the verdict a as to room: refused and nothing changed, or the tree recorded
use Rattle.std.specs.Prelude.{ℕ, ◌+◌, ◌*◌, ◌≤◌, ◌<◌, ◌≡◌, true, false, List, ◌++◌, map, eqb, length, get_or, take, if◌then◌else◌, Result, Option, None, Some}
use Rattle.std.proofs.Math.Option.{none, some}
use Rattle.std.specs.Float.{binary64}
use Rattle.std.specs.Float.Ieee.{of_bits}
use Rattle.trees.specs.Plain.{every, member, lacking, Answer, refused, gives}
use Rattle.trees.specs.Hash.{identifier}
use Rattle.trees.specs.Value.{Length}
use Rattle.trees.specs.Verdict.{Branches}
use Rattle.trees.specs.Held.{with_tree, accepted}
use Rattle.trees.specs.Whole.{good_tree, good_length}
use Rattle.doubles.specs.Stored.{all_ones}
use Rattle.answers.specs.Answers.{progress_given}
use Rattle.records.specs.Records.{wide, masks_of}
use Rattle.head.specs.Head.{numbers_at, second_at, opening_at}
use Rattle.layout.specs.Store.{size_at, Parts, parts_at, masks_in, branches_of, trees_held_at, held_at, held_in, most_splits}
use Rattle.layout.specs.WholeStore.{place_in}
use Rattle.layout.specs.Sound.{Sound}
use Rattle.store.specs.Lent.{Holds}
use Rattle.answers.specs.declared.Refusal.{Refusal}
use Rattle.answers.specs.declared.Tree.{Tree}

pub record SplitsOf (s : List ℕ) (n : ℕ) (rs : List ℕ) : Type 0 where
  pub few : n ≤ most_splits
  pub reach : wide * n ≤ length rs
  pub good : good_tree (numbers_at s).taxa (masks_of n rs) ≡ true
  pub placed : (j : ℕ) → j < n → get_or rs (wide * j + 1) 0 ≡ place_in s (get_or rs (wide * j) 0)
  pub identified : (j : ℕ) → j < n → get_or rs (wide * j + 2) 0 ≡ identifier (second_at s) (get_or rs (wide * j) 0)

-- "A branch has a length or has none": all ones for none, else the double with these bits
unfoldable pub length_of_word : ℕ → Length
unfolding of_bits
length_of_word w = if eqb w all_ones then none else some (of_bits binary64 w)

-- "Opening says whether lengths are kept": if so, one for each of the n splits
abbrev pub lengths_given : List ℕ → ℕ → List ℕ → List Length
lengths_given s n ws = map length_of_word (take (branches_of (numbers_at s) n) ws)

pub record LengthsOf (s : List ℕ) (n : ℕ) (ws : List ℕ) : Type 0 where
  pub reach : branches_of (numbers_at s) n ≤ length ws
  pub good : every good_length (lengths_given s n ws) ≡ true

abbrev pub tree_given : List ℕ → ℕ → List ℕ → List ℕ → Branches
tree_given s n rs ws = record { splits = masks_of n rs; lengths = lengths_given s n ws }

abbrev pub new_in : Parts → List ℕ → List ℕ
new_in p ms = lacking ms (masks_in p)

abbrev pub Stands : List ℕ → ℕ → ℕ → Type 0
Stands l k m = (k < length l) × (get_or l k 0 ≡ m)

unfoldable pub FoundAs : Parts → ℕ → Option ℕ → Type 0
FoundAs p m (Some k) = Stands p.masks k m
FoundAs p m None = member m (masks_in p) ≡ false

pub record RowsOf (p : Parts) (n : ℕ) (rs rows : List ℕ) : Type 0 where
  pub reach : n ≤ length rows
  pub each : (j : ℕ) → j < n → Stands (p.masks ++ new_in p (masks_of n rs)) (get_or rows j 0) (get_or rs (wide * j) 0)

pub record Grown (s ms u : List ℕ) : Type 0 where
  pub sound : Sound (opening_at u) (parts_at u)
  pub masks : (parts_at u).masks ≡ (parts_at s).masks ++ ms
  pub lists : (parts_at u).lists ≡ (parts_at s).lists
  pub held : held_at u ≡ held_at s
  pub opening : opening_at u ≡ opening_at s
  pub size : length u ≡ length s
  pub behind : (i : ℕ) → size_at s ≤ i → get_or u i 0 ≡ get_or s i 0

unfoldable pub Accepts : Answer Branches → List ℕ → Result (Option Tree) Refusal → List ℕ → Type 0
unfolding progress_given held_in with_tree
Accepts (refused k) s r t = (progress_given r ≡ refused k) × (t ≡ s)
Accepts (gives b) s r t = (progress_given r ≡ gives (accepted (trees_held_at s))) × Holds (with_tree (held_at s) b) s t
