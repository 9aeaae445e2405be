-- The verdict on a text over the names ns, as far as no collection is needed for it: 7 to 10 and 17, or the tree's splits.
--
--   leaf_fault ns seen ws   the fault of the leaves ws behind leaves with the taxa seen: 8, 9 or 10, or 0 for none
--   judged_tree ns t        the verdict on a tree
--   judged ns s            the verdict on the text s
--   Branches               a tree that was judged: its splits and, where lengths are kept, their lengths in the same order
--   judged_with k ns s      the verdict on the text s, 17 too where lengths are kept (k is 1)
use Rattle.std.specs.Prelude.{ℕ, zero, suc, ◌+◌, ◌^◌, List, [], ◌∷◌, eqb, length, if◌then◌else◌}
use Rattle.std.proofs.Math.Option.{none, some}
use Rattle.trees.specs.Plain.{Answer, refused, gives}
use Rattle.trees.specs.Mask.{has, every_taxon}
use Rattle.trees.specs.Tree.{Nodes, leaves}
use Rattle.trees.specs.Reading.{reading}
use Rattle.trees.specs.Names.{taxon_of}
use Rattle.trees.specs.Splits.{splits_of}
use Rattle.trees.specs.Value.{Length}
use Rattle.trees.specs.Lengths.{exact, lengths_of}

-- "leaves from left to right for 8 or 9, then 10": a leaf names no taxon, its taxon came before, a taxon is missing
unfoldable pub leaf_fault : List (List ℕ) → ℕ → List (List ℕ) → ℕ
unfolding taxon_of has every_taxon
leaf_fault ns seen [] = if eqb seen (every_taxon (length ns)) then 0 else 10
leaf_fault ns seen (w ∷ ws) = elim (taxon_of ns w) [ none ↦ 8 | some i ↦ if has seen i then 9 else leaf_fault ns (seen + 2 ^ i) ws ]

unfoldable pub judged_tree : List (List ℕ) → Nodes → Answer (List ℕ)
unfolding leaf_fault leaves splits_of
judged_tree ns t = elim (leaf_fault ns 0 (leaves t)) [ zero ↦ gives (splits_of ns t) | suc k ↦ refused (suc k) ]

-- "7 over all the text", then its leaves
unfoldable pub judged : List (List ℕ) → List ℕ → Answer (List ℕ)
unfolding reading judged_tree
judged ns s = elim (reading s) [ none ↦ refused 7 | some t ↦ judged_tree ns t ]

pub record Branches : Type 0 where
  pub splits : List ℕ
  pub lengths : List Length

-- "17 any length in the text outside the exact range, after 10"; if lengths are not kept, "all is as before"
unfoldable pub with_lengths : ℕ → List (List ℕ) → Nodes → Answer (List ℕ) → Answer Branches
unfolding exact lengths_of
with_lengths kept ns t (refused k) = refused k
with_lengths kept ns t (gives m) =
    if eqb kept 0 then gives (record { splits = m; lengths = [] })
    else if exact t then gives (record { splits = m; lengths = lengths_of ns t })
    else refused 17

unfoldable pub judged_with : ℕ → List (List ℕ) → List ℕ → Answer Branches
unfolding reading judged_tree with_lengths
judged_with kept ns s = elim (reading s) [ none ↦ refused 7 | some t ↦ with_lengths kept ns t (judged_tree ns t) ]
