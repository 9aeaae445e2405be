-- The laws of the root: the tree over the names of a good head, and its text. Assumes nothing.
--
--   taxa-most                 there are at most 64 taxa
--   root-ready                the branches of all taxa can be written
--   root-room                 how long they are
--   root-put                  what is stored: brackets around them, and a semicolon
use Rattle.std.specs.Prelude.{ℕ, suc, ◌+◌, ◌≤◌, ◌≡◌, true, List, [], ◌∷◌, ◌++◌, length, set}
use Rattle.std.proofs.Common.{arith, ap, ◌∙◌, append_assoc, length-append}
use Rattle.std.proofs.Math.Logic.{inl}
use Rattle.trees.specs.Mask.{every_taxon}
use Rattle.trees.specs.Names.{good_names}
use Rattle.trees.specs.Opening.{in_range, good_constants}
use Rattle.trees.specs.Whole.{good_tree, good_opening}
use Rattle.trees.specs.Written.{branches, tree_of, shown, parted, written}
use Rattle.theorems.specs.ListLaws.{and_right}
use Rattle.theorems.specs.ProperLaws.{proper-sub}
use Rattle.theorems.specs.BranchLaws.{Closed, split-proper}
use Rattle.theorems.specs.WrittenLaws.{written-length}
use Rattle.theorems.specs.OpeningLaws.{good-opening}
use Rattle.head.specs.Head.{numbers_at, names_at, opening_at}
use Rattle.head.specs.HeadLaws.{names-length}
use Rattle.putting.specs.Put.{Put}
use Rattle.writer.specs.Branch.{grown, branch_text, Ready}
use Rattle.putting.specs.PutLaws.{put_one, put_then}

written-text : (ns : List (List ℕ)) (s : List ℕ)
    → written ns s ≡ 40 ∷ (branch_text ns s (every_taxon (length ns)) (every_taxon (length ns)) ++ 41 ∷ 59 ∷ [])
unfolding written tree_of shown parted branch_text grown
written-text ns s =
    let a = every_taxon (length ns) in
    ap (λ (l : List ℕ). 40 ∷ l) (append_assoc (shown (branches (suc (a + a)) ns s a a)) (41 ∷ []) (59 ∷ []))

module _ (h : List ℕ) (g : good_opening (opening_at h) ≡ true) where
  taxa-least : 4 ≤ (numbers_at h).taxa
  unfolding opening_at
  taxa-least = (good-opening (opening_at h) g).ranges.least-taxa

  pub taxa-most : (numbers_at h).taxa ≤ 64
  unfolding opening_at
  taxa-most = (good-opening (opening_at h) g).ranges.most-taxa

  names-good : good_names (numbers_at h).taxa (names_at h) ≡ true
  unfolding good_opening opening_at
  names-good =
      let o = opening_at h in
      and_right (good_constants o.numbers o.first o.second) _ (and_right (in_range o.numbers) _ g)

  module _ (s : List ℕ) (t : good_tree (opening_at h).numbers.taxa s ≡ true) where
    splits-good : good_tree (numbers_at h).taxa s ≡ true
    unfolding opening_at
    splits-good = t

    -- every split is of some of all taxa
    all_closed : Closed s (every_taxon (numbers_at h).taxa) (every_taxon (numbers_at h).taxa)
    unfolding Closed
    all_closed y m l = inl (proper-sub (numbers_at h).taxa y (split-proper (numbers_at h).taxa (names_at h) s names-good splits-good y m))

    root-most : length (written (names_at h) s) ≤ 4349
    root-most = let l = taxa-least in written-length (numbers_at h).taxa (names_at h) s names-good splits-good (omega arith) taxa-most

    module _ (a : ℕ) (e : a ≡ every_taxon (numbers_at h).taxa) where
      pub root-ready : Ready (numbers_at h).taxa (names_at h) s a a
      root-ready = rw e (record { names = names-good; splits = splits-good; named = λ i o. o; inside = λ i o. o; closed = all_closed })

      root-text : written (names_at h) s ≡ 40 ∷ (branch_text (names_at h) s a a ++ 41 ∷ 59 ∷ [])
      root-text = rw (e, ← names-length h) (written-text (names_at h) s)

      pub root-room : length (branch_text (names_at h) s a a) + 3 ≤ 4349
      root-room =
          let l : length (written (names_at h) s) ≡ length (branch_text (names_at h) s a a) + 3 =
          ap length root-text ∙ omega (arith, length-append (branch_text (names_at h) s a a) (41 ∷ 59 ∷ [])) in
          omega (arith, root-most)

      pub root-put : {l u v w after : List ℕ} {z : ℕ} → u ≡ set l 0 40 → Put u 1 (branch_text (names_at h) s a a) v z → w ≡ set v z 41
          → after ≡ set w (z + 1) 59 → Put l 0 (written (names_at h) s) after (z + 2)
      root-put {z = z} b c d f =
          let q : z + 2 ≡ z + 1 + 1 = omega arith in
          rw (root-text, q) (put_then (put_one b) (put_then c (put_then (put_one d) (put_one f))))
