-- What is written: the tree of good splits has exactly these splits, its text is accepted with them, and it is short.
--
--   judged-gives               the verdict on a text that reads as a tree whose leaves have no fault gives the splits of that tree
--   split_below                a split is less than the mask of all taxa
--   tree-has-splits            the tree made of splits has exactly these splits
--   majority-tree-splits, strict-tree-splits     so the consensus trees have exactly the consensus splits
--   tree-faultless             its leaves have no fault
--   written-tree-reads-back    the verdict on what is written gives the splits that it was written from
--   written-readable           what is shown of it can be read back
--   written-tree-with-lengths  where lengths are kept they are absent, and it is not refused for them
--   written-closed, written-unended     without its semicolon: quotes are closed behind it, and no text ends in it
--   written-no-comment         nor does a comment begin in it
--   written-before-end         so what is written, up to its end, is what is shown
--   written-short              68 bytes for each of n taxa, less 3, are enough
--   written-length             so at most 4,349 bytes are written
use Rattle.std.specs.Prelude.{ℕ, zero, suc, ◌+◌, ◌*◌, ◌≤◌, ◌<◌, ◌≡◌, ◌⊎◌, true, if◌then◌else◌}
use Rattle.std.proofs.Common.{arith, sym, ◌∙◌, subst, inl, inr, length-append, eq-eqb}
use Rattle.std.proofs.Math.Path.{ap}
use Rattle.std.proofs.Math.Bool.{false}
use mathlib.Core.List.{List, [], ◌∷◌, ◌++◌}
use Rattle.std.proofs.Math.Option.{none, some}
use Rattle.std.specs.Int.Count.{ones}
use Rattle.std.proofs.Math.Dec.{eqb}
use Rattle.std.proofs.Math.ListN.{length, replicate}
use Rattle.trees.specs.Plain.{byte, Answer, refused, gives}
use Rattle.trees.specs.Text.{open_after, has_end, before_end}
use Rattle.trees.specs.Mask.{every_taxon, side, proper}
use Rattle.trees.specs.Tree.{Nodes, nil, inner, children, leaves, width}
use Rattle.trees.specs.Reading.{reading}
use Rattle.trees.specs.Names.{good_names}
use Rattle.trees.specs.Splits.{clusters, counted, splits_of}
use Rattle.trees.specs.Value.{Length}
use Rattle.trees.specs.Lengths.{tokens}
use Rattle.trees.specs.Verdict.{leaf_fault, judged_tree, judged, judged_with}
use Rattle.trees.specs.Consensus.{strict, majority}
use Rattle.trees.specs.Written.{branches, tree_of, shown, parted, written}
use Rattle.trees.specs.Whole.{good_tree}
use Rattle.theorems.specs.ListLaws.{if-true, Mem}
use Rattle.theorems.specs.RisingLaws.{rising-true, rising-same}
use Rattle.theorems.specs.QuoteLaws.{before-end}
use Rattle.theorems.specs.LabelLaws.{outside}
use Rattle.theorems.specs.WrittenNameLaws.{quotes_at}
use Rattle.theorems.specs.BitLaws.{On, off_zero, sub-le}
use Rattle.theorems.specs.OnesLaws.{ones_lt}
use Rattle.theorems.specs.MaskLaws.{every-on, side-even}
use Rattle.theorems.specs.SplitLaws.{cluster-sub, counted-mem, mem-counted, counted-rising}
use Rattle.theorems.specs.ConsensusLaws.{AllGood, good-rising, majority-good, strict-good}
use Rattle.theorems.specs.NameLaws.{good-count}
use Rattle.theorems.specs.GrammarLaws.{reading-sound}
use Rattle.theorems.specs.Refusing.{Inexact, kept_lengths}
use Rattle.theorems.specs.TreeLengthLaws.{readable-tokens, lengths-absent}
use Rattle.theorems.specs.LengthVerdictLaws.{with-given, exact-tree}
use Rattle.theorems.specs.Absent.{absent, without_lengths}
use Rattle.theorems.specs.ShownLaws.{Readable, readable-nil, readable-inner, shown-reading, shown-closed, shown-unended, shown-no-comment}
use Rattle.theorems.specs.ProperLaws.{every-ones, one-taxon, proper-even, proper-two, proper-most, proper-sub}
use Rattle.theorems.specs.BranchLaws.{extra-most, Done, split-proper, parted-length}
use Rattle.theorems.specs.TreeOfLaws.{branches-done}

-- ---- the verdict on a text that is read and has no faulty leaf

pub judged-gives : (ns : List (List ℕ)) (w : List ℕ) (t : Nodes) → reading w ≡ some t → leaf_fault ns 0 (leaves t) ≡ 0 → judged ns w ≡ gives (splits_of ns t)
unfolding judged judged_tree
judged-gives ns w t e z =
    ap (λ o. elim o as (λ _. Answer (List ℕ)) [ none ↦ refused 7 | some u ↦ judged_tree ns u ]) e
    ∙ ap (λ (k : ℕ). elim k as (λ _. Answer (List ℕ)) [ zero ↦ gives (splits_of ns t) | suc k ↦ refused (suc k) ]) z

-- two brackets and a semicolon
bracketed-length : (c : Nodes) → length (shown (inner c none nil) ++ 59 ∷ []) ≡ length (shown c) + 3
unfolding shown parted
bracketed-length c = omega (arith, length-append (shown c ++ 41 ∷ []) (59 ∷ []), length-append (shown c) (41 ∷ []))

-- ---- over good names and good splits

-- the children of the root
root_branches : ℕ → List (List ℕ) → List ℕ → Nodes
root_branches n ns s = branches (suc (every_taxon n + every_taxon n)) ns s (every_taxon n) (every_taxon n)

module _ (n : ℕ) (ns : List (List ℕ)) (s : List ℕ) (names : good_names n ns ≡ true) (good : good_tree n s ≡ true) where
  done : Done ns s (every_taxon n) (every_taxon n) (root_branches n ns s)
  unfolding root_branches
  done = branches-done n ns s names good

  tree-root : tree_of ns s ≡ inner (root_branches n ns s) none nil
  unfolding tree_of root_branches
  tree-root = ap (λ (k : ℕ). inner (branches (suc (every_taxon k + every_taxon k)) ns s (every_taxon k) (every_taxon k)) none nil) (good-count n ns names)

  -- two taxa or more are not in a split
  split-ones : (y : ℕ) → Mem y s → ones y + 2 ≤ n
  split-ones y h = omega (arith, proper-two n y (split-proper n ns s names good y h), proper-most n y (split-proper n ns s names good y h))

  pub split_below : (y : ℕ) → Mem y s → y < every_taxon n
  split_below y h = omega (arith, sub-le y (every_taxon n) (proper-sub n y (split-proper n ns s names good y h)), not-all)
    where
      not-all : y ≡ every_taxon n → ⊥
      not-all e = omega (arith, split-ones y h, ap ones e, every-ones n)

  counted-from : (y : ℕ) → Mem y (counted n (clusters ns (root_branches n ns s))) → Mem y s
  counted-from y h = go (done.built.sound r.0 r.1)
    where
      r : (c : ℕ) × Mem c (clusters ns (root_branches n ns s)) × (y ≡ side n c) × (proper n y ≡ true)
      r = counted-mem n (clusters ns (root_branches n ns s)) y h

      go : Mem r.0 s ⊎ (ones r.0 ≡ 1) → Mem y s
      go (inl m) = subst (λ (z : ℕ). Mem z s) (sym (r.2 ∙ side-even n r.0 (proper-even n r.0 (split-proper n ns s names good r.0 m)))) m
      go (inr e) = absurd (one-taxon n r.0 (λ i o. subst (λ (z : ℕ). On z i) done.built.masked (cluster-sub ns (root_branches n ns s) r.0 r.1 i o)) e (ap (proper n) (sym r.2) ∙ r.3))

  into-counted : (y : ℕ) → Mem y s → Mem y (counted n (clusters ns (root_branches n ns s)))
  into-counted y h =
      let p = split-proper n ns s names good y h in
      let e = side-even n y (proper-even n y p) in
      let c = done.built.complete y h (split_below y h) (proper-sub n y p) in
      subst (λ (z : ℕ). Mem z (counted n (clusters ns (root_branches n ns s)))) e (mem-counted n (clusters ns (root_branches n ns s)) y c (ap (proper n) e ∙ p))

  pub tree-has-splits : splits_of ns (tree_of ns s) ≡ s
  unfolding splits_of children
  tree-has-splits =
      ap (splits_of ns) tree-root ∙ ap (λ (k : ℕ). counted k (clusters ns (root_branches n ns s))) (good-count n ns names)
      ∙ rising-same (counted n (clusters ns (root_branches n ns s))) s (counted-rising n (clusters ns (root_branches n ns s))) (rising-true s (good-rising n s good)) counted-from into-counted

  -- ---- what is written is read back

  root-pair : 2 ≤ n → 2 ≤ width (root_branches n ns s)
  root-pair h = done.wide.two (omega (arith, every-ones n)) (λ y m l p. ones_lt y (every_taxon n) p l)

  root-readable : 2 ≤ n → (d : ℕ) → n ≤ d + 2 → Readable (suc d) (inner (root_branches n ns s) none nil)
  root-readable h d l = readable-inner (root-pair h) (done.readable d (omega (arith, every-ones n))) readable-nil

  tree-reading : 2 ≤ n → n ≤ 64 → reading (shown (tree_of ns s)) ≡ some (tree_of ns s)
  tree-reading h l = ap (λ t. reading (shown t)) tree-root ∙ shown-reading (root_branches n ns s) (root-readable h 62 l) ∙ ap some (sym tree-root)

  pub tree-faultless : leaf_fault ns 0 (leaves (tree_of ns s)) ≡ 0
  unfolding leaves leaf_fault
  tree-faultless =
      ap (λ t. leaf_fault ns 0 (leaves t)) tree-root ∙ done.faultless 0 [] (λ i h k. off_zero i h)
      ∙ if-true 0 10 (eq-eqb (0 + every_taxon n) (every_taxon (length ns)) (omega (arith, ap every_taxon (good-count n ns names))))

  pub written-tree-reads-back : 2 ≤ n → n ≤ 64 → judged ns (shown (tree_of ns s)) ≡ gives s
  written-tree-reads-back h l = judged-gives ns (shown (tree_of ns s)) (tree_of ns s) (tree-reading h l) tree-faultless ∙ ap gives tree-has-splits

  pub written-readable : 2 ≤ n → Readable (suc n) (tree_of ns s)
  written-readable h = subst (Readable (suc n)) (sym tree-root) (root-readable h n (omega arith))

  no_lengths : 2 ≤ n → tokens (tree_of ns s) ≡ []
  no_lengths h = readable-tokens (written-readable h)

  none-outside : (kept : ℕ) → 2 ≤ n → Inexact kept (tree_of ns s) → ⊥
  none-outside kept h o = subst (Mem o.1.0) (no_lengths h) o.1.1

  lengths-not-there : (kept : ℕ) → 2 ≤ n → kept_lengths kept ns (tree_of ns s) ≡ absent kept s
  unfolding absent
  lengths-not-there kept h =
      ap (λ (xs : List Length). if eqb kept 0 then [] else xs) (lengths-absent ns (tree_of ns s) (no_lengths h) ∙ ap (λ (l : List ℕ). replicate (length l) none) tree-has-splits)

  pub written-tree-with-lengths : (kept : ℕ) → 2 ≤ n → n ≤ 64 → judged_with kept ns (shown (tree_of ns s)) ≡ gives (without_lengths kept s)
  unfolding without_lengths
  written-tree-with-lengths kept h l =
      let t = tree_of ns s in
      with-given kept ns (shown t) t (reading-sound (shown t) t (tree-reading h l)) s (written-tree-reads-back h l)
      ∙ exact-tree kept ns t s (none-outside kept h)
      ∙ ap (λ (xs : List Length). gives (record { splits = s; lengths = xs })) (lengths-not-there kept h)

  -- ---- its last semicolon ends it

  pub written-closed : 2 ≤ n → open_after false (shown (tree_of ns s)) ≡ false
  written-closed h = shown-closed (written-readable h)

  pub written-unended : 2 ≤ n → has_end false (shown (tree_of ns s)) ≡ false
  written-unended h = shown-unended (written-readable h)

  pub written-no-comment : 2 ≤ n → outside (byte "[") false (shown (tree_of ns s)) ≡ false
  written-no-comment h = shown-no-comment (written-readable h)

  pub written-before-end : 2 ≤ n → before_end false (written ns s) ≡ shown (tree_of ns s)
  unfolding written
  written-before-end h = before-end [] false (shown (tree_of ns s)) (written-unended h) (written-closed h)

  -- ---- its length

  written-bytes : length (written ns s) ≡ length (shown (root_branches n ns s)) + 3
  unfolding written
  written-bytes = ap (λ t. length (shown t ++ 59 ∷ [])) tree-root ∙ bracketed-length (root_branches n ns s)

  root-three : 3 ≤ n → 3 ≤ width (root_branches n ns s)
  root-three h = done.wide.three (omega (arith, every-ones n)) (every-on n 0 (omega arith)) (λ y m. omega (arith, split-ones y m, every-ones n))

  pub written-short : 3 ≤ n → length (written ns s) + 3 ≤ 68 * n
  written-short h =
      let w = root-three h in
      omega (arith, written-bytes, parted-length (root_branches n ns s) (shown (root_branches n ns s)) (omega arith), done.short, every-ones n, extra-most (quotes_at ns) (every_taxon n))

  pub written-length : 3 ≤ n → n ≤ 64 → length (written ns s) ≤ 4349
  written-length h l = omega (arith, written-short h)

-- ---- the consensus trees

module _ (n : ℕ) (ns : List (List ℕ)) (ts : List (List ℕ)) (names : good_names n ns ≡ true) (all : AllGood n ts) where
  pub majority-tree-splits : splits_of ns (tree_of ns (majority ts)) ≡ majority ts
  majority-tree-splits = tree-has-splits n ns (majority ts) names (majority-good n ts all)

  pub strict-tree-splits : splits_of ns (tree_of ns (strict ts)) ≡ strict ts
  strict-tree-splits = tree-has-splits n ns (strict ts) names (strict-good n ts all)
