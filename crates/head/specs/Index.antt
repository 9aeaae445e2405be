-- An index of the names by a key, so that a label is compared with few of them.
-- A taxon stands in it as its number and one more; 0 stands for none.
--
--   keys                          how many keys there are
--   key w                         a key, of bytes at both ends and in the middle of a name or label
--   next_with ns k i               the first taxon from i on whose name has the key k
--   Indexed ns starts links       the first taxon of each key, and for each taxon the next of its key
--   found_of o                     a search's answer
--   Below n f                     the taxon, if one is found, is below n
--   IndexedFrom ns i starts links     the index of the taxa from i on
--   Sought ns w n                 the search for the name w has come to the entry n
use Rattle.std.specs.Prelude.{◌≡◌, ℕ, zero, suc, ◌+◌, ◌-◌, ◌/◌, ◌%◌, ◌^◌, ◌<◌, ◌≤◌, List, [], ◌∷◌, length, drop, ◌==◌, ◌≢◌, slice_index, slice_index_or, if◌then◌else◌, None, Some, Option as CodeOption}
use Rattle.std.proofs.Math.Option.{Option, none, some}
use Rattle.trees.specs.Names.{taxon_from}
use Rattle.fields.specs.Field.{number}
use Rattle.answers.specs.declared.Taxon.{Taxon}

-- ---- the index

abbrev pub keys : ℕ
keys = 128

-- 8 bytes at the front, in the middle and at the end, as numbers; of a label of at most 8 bytes all of them, three times. The remainder by 113
-- parts labels that end in different numbers
unfoldable pub key : List ℕ → ℕ
unfolding number
key w = (number 8 w 0 + number 8 w (length w / 2 - 4) + number 8 w (length w - 8)) % 2 ^ 64 % 113

-- the first name with the key k, of names whose first is that of taxon i
unfoldable pub next_from : ℕ → ℕ → List (List ℕ) → ℕ
unfolding key
next_from k i [] = 0
next_from k i (v ∷ vs) = if key v == k then suc i else next_from k (suc i) vs

unfoldable pub next_with : List (List ℕ) → ℕ → ℕ → ℕ
unfolding next_from
next_with ns k i = next_from k i (drop i ns)

pub record Indexed (ns : List (List ℕ)) (starts links : List ℕ) : Type 0 where
  pub firsts : (k : ℕ) → k < keys → slice_index starts k ≡ next_with ns k 0
  pub nexts : (i : ℕ) → i < length ns → slice_index links i ≡ next_with ns (key (slice_index_or ns i [])) (i + 1)

-- ---- the answer

unfoldable pub found_of : Option ℕ → CodeOption Taxon
found_of none = None
found_of (some i) = Some (record { 0 = i })

unfoldable pub Below : ℕ → CodeOption Taxon → Type 0
Below n None = Unit
Below n (Some t) = t.0 < n

-- ---- halfway

pub record IndexedFrom (ns : List (List ℕ)) (from : ℕ) (starts links : List ℕ) : Type 0 where
  pub firsts : (k : ℕ) → k < keys → slice_index starts k ≡ next_with ns k from
  pub nexts : (i : ℕ) → from ≤ i → i < length ns → slice_index links i ≡ next_with ns (key (slice_index_or ns i [])) (i + 1)

-- what is found from the entry n on
unfoldable pub after : List (List ℕ) → List ℕ → ℕ → Option ℕ
unfolding taxon_from
after ns w zero = none
after ns w (suc i) = taxon_from i (drop i ns) w

pub record Sought (ns : List (List ℕ)) (w : List ℕ) (n : ℕ) : Type 0 where
  pub within : n ≤ length ns
  pub keyed : (n ≢ 0) → key (slice_index_or ns (n - 1) []) ≡ key w
  pub rest : after ns w n ≡ taxon_from 0 ns w

-- how far the search may still go from the entry n
unfoldable pub left : ℕ → ℕ
left zero = 0
left (suc i) = 64 - i
