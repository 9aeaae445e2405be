-- Laws of a file's strict and majority tree.
--
--   every-fails, pairs-fail      where a test fails of some member, and masks that do not agree
--   Disagree l                   two masks of l do not agree
--   disagree-exactly             as the test says it
--   chosen p rs                  the masks of the records that pass a test
--   chosen-mem                   which they are
--   strict-in-exactly, majority-in-exactly     so of the two rules
--   chosen-good                  from a file that is well formed they make a tree, if they agree
--   majority-in-good, strict-in-good           so of the two rules
--   file-majority, file-strict   of the file of trees they are those of the trees
--   TreeOfFile p h f text        the text is the tree of what is chosen from the file f
--   tree-of-majority, tree-of-strict           what the calls give is such a text
--   file-tree-splits             it has exactly the chosen splits
--   file-tree-judged, file-tree-fed            and reads back as these
--   majority-of-file, strict-of-file           the calls on a collection's own file answer as the calls on the collection
--   consensus-of-empty           of an empty file 14
use Rattle.std.specs.Prelude.{ℕ, ◌*◌, ◌≤◌, ◌<◌, ◌⊎◌, ◌↔◌, Bool, ◌&&◌, ltb, eqb, length, if◌then◌else◌}
use native.Mathlib.Omega.{arith}
use Rattle.std.proofs.Math.Path.{◌≡◌, refl, ap, ap₂, sym, subst}
use Rattle.std.proofs.Common.{◌∙◌, inl, inr, true≢false}
use Rattle.std.proofs.Math.Bool.{true, false}
use mathlib.Core.List.{List, [], ◌∷◌}
use borrow.Author.Tests.{ltb-true, lt-ltb, eqb-true, eqb-false, eq-eqb, ne_eqb}
use Rattle.trees.specs.Plain.{every, keep, Answer, refused, gives}
use Rattle.trees.specs.Text.{before_end}
use Rattle.trees.specs.Mask.{agree, proper}
use Rattle.trees.specs.Splits.{splits_of as splits_in}
use Rattle.trees.specs.Verdict.{judged}
use Rattle.trees.specs.Consensus.{recorded, count, is_strict, is_majority, strict, majority}
use Rattle.trees.specs.Written.{tree_of, written}
use Rattle.trees.specs.Held.{Held, holding, lane_of, feeding}
use Rattle.trees.specs.Questions.{if_room, if_trees, strict_of, majority_of}
use Rattle.trees.specs.Whole.{agree_in_pairs, good_tree}
use Rattle.trees.specs.SplitFile.{Record, masks_of, splits_of, strict_in, majority_in}
use Rattle.trees.specs.SplitFileCall.{records_from, if_records, file_of, chosen_tree, strict_file_of, majority_file_of}
use Rattle.theorems.specs.ListLaws.{by-test, if-false, and-true, Mem, every-intro, keep-mem, mem-keep}
use Rattle.theorems.specs.RisingLaws.{Rising, true-rising}
use Rattle.theorems.specs.MaskLaws.{true-agree}
use Rattle.theorems.specs.SplitLaws.{pairs-at}
use Rattle.theorems.specs.OpeningLaws.{good-opening}
use Rattle.theorems.specs.ConsensusLaws.{good-pairs}
use Rattle.theorems.specs.WrittenLaws.{tree-has-splits, written-tree-reads-back, written-before-end}
use Rattle.theorems.specs.WholeHeld.{whole}
use Rattle.theorems.specs.HeldLaws.{whole-facts}
use Rattle.theorems.specs.ReadBackLaws.{names-good, strict-whole, majority-whole, ReadBack, reads-back}
use Rattle.theorems.specs.SplitFileLaws.{masks-mem, mem-masks, Formed, entry, listed}
use Rattle.theorems.specs.WrittenFileLaws.{splits-length, read-formed, ReadsAs, made_of, made_none, file-is, file-records}

-- ---- masks that do not agree

pub every-fails : {A : Type 0} (p : A → Bool) (l : List A) → every p l ≡ false → (x : A) × Mem x l × (p x ≡ false)
unfolding every
every-fails p [] e = absurd (true≢false e)
every-fails {A} p (y ∷ l) e = go (p y) refl e (every-fails p l)
  where
    go : (b : Bool) → p y ≡ b → (b && every p l) ≡ false → (every p l ≡ false → (x : A) × Mem x l × (p x ≡ false)) → (x : A) × ((x ≡ y) ⊎ Mem x l) × (p x ≡ false)
    go true q r f = let x = f r in (x.0, inr x.1, x.2)
    go false q r f = (y, inl refl, q)

-- "two chosen splits disagree"
abbrev pub Disagree : List ℕ → Type 0
Disagree l = (a b : ℕ) × Mem a l × Mem b l × (agree a b ≡ false)

pairs-fail : (l : List ℕ) → agree_in_pairs l ≡ false → Disagree l
unfolding agree_in_pairs
pairs-fail [] e = absurd (true≢false e)
pairs-fail (m ∷ l) e = go (every (agree m) l) refl e (pairs-fail l)
  where
    go : (b : Bool) → every (agree m) l ≡ b → (b && agree_in_pairs l) ≡ false → (agree_in_pairs l ≡ false → Disagree l) → Disagree (m ∷ l)
    go true q r f = let x = f r in (x.0, x.1, inr x.2, inr x.3, x.4)
    go false q r f = let x = every-fails (agree m) l q in (m, x.0, inl refl, inr x.1, x.2)

pub disagree-exactly : (l : List ℕ) → (agree_in_pairs l ≡ false) ↔ Disagree l
disagree-exactly l = (pairs-fail l, λ d. go d (agree_in_pairs l) refl)
  where
    go : Disagree l → (b : Bool) → agree_in_pairs l ≡ b → b ≡ false
    go d true e = absurd (true≢false (sym (true-agree d.0 d.1 (pairs-at l e d.0 d.1 d.2 d.3)) ∙ d.4))
    go d false e = refl

-- ---- what is chosen from records

abbrev pub chosen : (Record → Bool) → List Record → List ℕ
chosen p rs = masks_of (keep p rs)

-- "majority if twice its count is more than t", "strict if all t trees have it"
abbrev pub in_majority : Record → Bool
in_majority r = ltb r.trees (2 * r.count)

abbrev pub in_all : Record → Bool
in_all r = eqb r.count r.trees

module _ (p : Record → Bool) where
  pub chosen-mem : (rs : List Record) (m : ℕ) → Mem m (chosen p rs) ↔ ((r : Record) × Mem r rs × (p r ≡ true) × (r.mask ≡ m))
  chosen-mem rs m = (
    λ h. let x = masks-mem (keep p rs) m h in let k = keep-mem p rs x.0 x.1 in (x.0, k.0, k.1, x.2),
    λ x. subst (λ (y : ℕ). Mem y (chosen p rs)) x.3 (mem-masks (keep p rs) x.0 (mem-keep p rs x.0 x.1 x.2)),
  )

  chosen-rising : (rs : List Record) → Rising (masks_of rs) → Rising (chosen p rs)
  unfolding keep masks_of
  chosen-rising [] h = tt
  chosen-rising (r ∷ rs) h =
      by-test (λ (l : List Record). Rising (masks_of l)) (p r)
      (λ e. ((λ y k. let x = (chosen-mem rs y).0 k in h.0 y (subst (λ (z : ℕ). Mem z (masks_of rs)) x.3 (mem-masks rs x.0 x.1))), chosen-rising rs h.1))
      (λ e. chosen-rising rs h.1)

  -- "File counts may be such as no trees give": if what is chosen agrees, it makes a tree
  pub chosen-good : (n : ℕ) (rs : List Record) → Formed n rs → agree_in_pairs (chosen p rs) ≡ true → good_tree n (chosen p rs) ≡ true
  unfolding good_tree
  chosen-good n rs f e =
      and-true
      (every-intro (proper n) (chosen p rs) (λ m h. let x = (chosen-mem rs m).0 h in subst (λ (y : ℕ). proper n y ≡ true) x.3 (f.masks-proper x.0 x.1)))
      (and-true (true-rising (chosen p rs) (chosen-rising rs f.masks-rise)) e)

  chosen-listed : (c : ℕ → ℕ) (t : ℕ) (l : List ℕ) → chosen p (listed c t l) ≡ keep (λ x. p (entry c t x)) l
  unfolding keep masks_of
  chosen-listed c t [] = refl
  chosen-listed c t (m ∷ l) = go (p (entry c t m)) (keep p (listed c t l)) (keep (λ x. p (entry c t x)) l) (chosen-listed c t l)
    where
      go : (b : Bool) (rs : List Record) (k : List ℕ) → masks_of rs ≡ k → masks_of (if b then entry c t m ∷ rs else rs) ≡ (if b then m ∷ k else k)
      go true rs k e = ap (λ (l : List ℕ). m ∷ l) e
      go false rs k e = e

-- ---- the two rules

module _ (rs : List Record) where
  pub majority-in-exactly : (m : ℕ) → Mem m (majority_in rs) ↔ ((r : Record) × Mem r rs × (r.trees < 2 * r.count) × (r.mask ≡ m))
  unfolding majority_in
  majority-in-exactly m =
      let e = chosen-mem in_majority rs m in
      (λ h. let x = e.0 h in (x.0, x.1, ltb-true _ _ x.2, x.3), λ x. e.1 (x.0, x.1, lt-ltb _ _ x.2, x.3))

  pub strict-in-exactly : (m : ℕ) → Mem m (strict_in rs) ↔ ((r : Record) × Mem r rs × (r.count ≡ r.trees) × (r.mask ≡ m))
  unfolding strict_in
  strict-in-exactly m =
      let e = chosen-mem in_all rs m in
      (λ h. let x = e.0 h in (x.0, x.1, eqb-true _ _ x.2, x.3), λ x. e.1 (x.0, x.1, eq-eqb _ _ x.2, x.3))

  pub majority-in-good : (n : ℕ) → Formed n rs → agree_in_pairs (majority_in rs) ≡ true → good_tree n (majority_in rs) ≡ true
  unfolding majority_in
  majority-in-good n f e = chosen-good in_majority n rs f e

  pub strict-in-good : (n : ℕ) → Formed n rs → agree_in_pairs (strict_in rs) ≡ true → good_tree n (strict_in rs) ≡ true
  unfolding strict_in
  strict-in-good n f e = chosen-good in_all n rs f e

-- "majority if twice its count is more than t", "strict if all t trees have it": of the file of trees, as of the trees
pub file-majority : (ts : List (List ℕ)) → majority_in (splits_of ts) ≡ majority ts
unfolding majority_in splits_of majority is_majority
file-majority ts = chosen-listed in_majority (count ts) (length ts) (recorded ts)

pub file-strict : (ts : List (List ℕ)) → strict_in (splits_of ts) ≡ strict ts
unfolding strict_in splits_of strict is_strict
file-strict ts = chosen-listed in_all (count ts) (length ts) (recorded ts)

-- ---- the calls

-- the tree of what is chosen, from its tests: the file is empty; what is chosen agrees
abbrev pub chosen_by : Bool → Bool → Answer (List ℕ) → Answer (List ℕ)
chosen_by true y x = refused 14
chosen_by false true x = x
chosen_by false false x = refused 23

abbrev pub text_of : Held → List ℕ → ℕ → Answer (List ℕ)
text_of h s room = if_room room (written h.opening.names s)

pub chosen_by_lem : (h : Held) (rs : List Record) (s : List ℕ) (room : ℕ) → chosen_tree h rs s room ≡ chosen_by (eqb (length rs) 0) (agree_in_pairs s) (text_of h s room)
unfolding chosen_tree
chosen_by_lem h rs s room = go (eqb (length rs) 0) (agree_in_pairs s) (text_of h s room)
  where
    go : (x y : Bool) (z : Answer (List ℕ)) → (if x then refused 14 else if y then z else refused 23) ≡ chosen_by x y z
    go true y z = refl
    go false true z = refl
    go false false z = refl

-- the text is the tree of what is chosen from the file f
pub record TreeOfFile (p : Record → Bool) (h : Held) (f text : List ℕ) : Type 0 where
  pub records : List Record
  pub records-read : ReadsAs h f records
  pub some-record : 0 < length records
  pub chosen-agree : agree_in_pairs (chosen p records) ≡ true
  pub text-written : text ≡ written h.opening.names (chosen p records)

module _ (p : Record → Bool) (h : Held) (f : List ℕ) where
  abbrev taxa : ℕ
  taxa = h.opening.numbers.taxa

  abbrev pub tree_from : ℕ → Answer (List ℕ)
  tree_from room = if_records h f (λ rs. chosen_tree h rs (chosen p rs) room)

  tree-gives : (room : ℕ) (text : List ℕ) → tree_from room ≡ gives text → TreeOfFile p h f text
  unfolding if_room
  tree-gives room text e = go (records_from taxa f) refl
    where
      not-refused : (k : ℕ) → tree_from room ≡ refused k → ⊥
      not-refused k r = let z : ◌≡◌ {A = ℕ} 0 1 = cc in omega arith

      tree : (rs : List Record) → ReadsAs h f rs → (x y z : Bool) → eqb (length rs) 0 ≡ x → agree_in_pairs (chosen p rs) ≡ y
          → ltb room (length (written h.opening.names (chosen p rs))) ≡ z
          → tree_from room ≡ chosen_by x y (if z then refused 4 else gives (written h.opening.names (chosen p rs))) → TreeOfFile p h f text
      tree rs q true y z s t r w = absurd (not-refused 14 w)
      tree rs q false false z s t r w = absurd (not-refused 23 w)
      tree rs q false true true s t r w = absurd (not-refused 4 w)
      tree rs q false true false s t r w = record {
        records = rs;
        records-read = q;
        some-record = let k = eqb-false (length rs) 0 s in omega (arith, k);
        chosen-agree = t;
        text-written = cc;
      }

      go : (x : Answer (List Record)) → records_from taxa f ≡ x → TreeOfFile p h f text
      go (refused k) q = absurd (not-refused k (made_none h f _ k q))
      go (gives rs) q =
          tree rs q (eqb (length rs) 0) (agree_in_pairs (chosen p rs)) (ltb room (length (written h.opening.names (chosen p rs)))) refl refl refl
          (made_of h f _ rs q ∙ chosen_by_lem h rs (chosen p rs) room)

  -- what is chosen and agrees makes one tree, which reads back
  module _ (w : whole h ≡ true) (text : List ℕ) (t : TreeOfFile p h f text) where
    abbrev names : List (List ℕ)
    names = h.opening.names

    abbrev picked : List ℕ
    picked = chosen p t.records

    pub file-tree-good : good_tree taxa picked ≡ true
    file-tree-good = chosen-good p taxa t.records (read-formed taxa f t.records t.records-read) t.chosen-agree

    many : 4 ≤ taxa
    many = (good-opening h.opening (whole-facts h w).opening-good).ranges.least-taxa

    pub file-tree-splits : splits_in names (tree_of names picked) ≡ picked
    file-tree-splits = tree-has-splits taxa names picked (names-good h w) file-tree-good

    pub file-tree-judged : judged names (before_end false text) ≡ gives picked
    file-tree-judged =
        let k = many in
        ap (λ (x : List ℕ). judged names (before_end false x)) t.text-written
        ∙ ap (judged names) (written-before-end taxa names picked (names-good h w) file-tree-good (omega arith))
        ∙ written-tree-reads-back taxa names picked (names-good h w) file-tree-good (omega arith) (good-opening h.opening (whole-facts h w).opening-good).ranges.most-taxa

    -- "A tree that we write reads back as the same splits"
    pub file-tree-fed : (k : Held) → whole k ≡ true → k.opening.names ≡ names → (l : ℕ) → l < k.opening.numbers.lanes → lane_of k l ≡ holding []
        → ReadBack k picked (length text) (feeding k l text)
    file-tree-fed k kw same l lane empty =
        subst (λ (x : List ℕ). ReadBack k picked (length x) (feeding k l x)) (sym t.text-written) (reads-back h k w kw same l lane empty picked file-tree-good)

module _ (h : Held) (f : List ℕ) (room : ℕ) where
  pub tree-of-majority : (text : List ℕ) → majority_file_of h f room ≡ gives text → TreeOfFile in_majority h f text
  unfolding majority_file_of majority_in
  tree-of-majority text e = tree-gives in_majority h f room text e

  pub tree-of-strict : (text : List ℕ) → strict_file_of h f room ≡ gives text → TreeOfFile in_all h f text
  unfolding strict_file_of strict_in
  tree-of-strict text e = tree-gives in_all h f room text e

-- ---- the calls on a collection's own file

some-tree : (ts : List (List ℕ)) → 0 < length (recorded ts) → length ts ≡ 0 → ⊥
unfolding recorded
some-tree [] h e = omega arith
some-tree (t ∷ ts) h e = omega arith

module _ (h : Held) (w : whole h ≡ true) (i : ℕ) (f : List ℕ) (e : file_of h i ≡ gives f) (room : ℕ) where
  own : ReadsAs h f (splits_of h.trees)
  own = ap (records_from h.opening.numbers.taxa) (file-is h i f e) ∙ file-records h w

  own-tree : (s : List ℕ) → 0 < length (recorded h.trees) → agree_in_pairs s ≡ true → chosen_tree h (splits_of h.trees) s room ≡ if_trees h (text_of h s room)
  unfolding if_trees
  own-tree s k g =
      chosen_by_lem h (splits_of h.trees) s room
      ∙ ap₂ (λ (x y : Bool). chosen_by x y (text_of h s room)) (ne_eqb (length (splits_of h.trees)) 0 (λ z. omega (arith, splits-length h.trees))) g
      ∙ sym (if-false (refused 14) (text_of h s room) (ne_eqb (length h.trees) 0 (some-tree h.trees k)))

  pub majority-of-file : 0 < length (recorded h.trees) → majority_file_of h f room ≡ majority_of h room
  unfolding majority_file_of majority_of
  majority-of-file k =
      made_of h f _ (splits_of h.trees) own ∙ ap (λ (s : List ℕ). chosen_tree h (splits_of h.trees) s room) (file-majority h.trees)
      ∙ own-tree (majority h.trees) k (good-pairs _ (majority h.trees) (majority-whole h w))

  pub strict-of-file : 0 < length (recorded h.trees) → strict_file_of h f room ≡ strict_of h room
  unfolding strict_file_of strict_of
  strict-of-file k =
      made_of h f _ (splits_of h.trees) own ∙ ap (λ (s : List ℕ). chosen_tree h (splits_of h.trees) s room) (file-strict h.trees)
      ∙ own-tree (strict h.trees) k (good-pairs _ (strict h.trees) (strict-whole h w))

  -- "An empty file has no known number of trees: .. its consensus is 14"
  pub consensus-of-empty : length (recorded h.trees) ≡ 0 → (majority_file_of h f room ≡ refused 14) × (strict_file_of h f room ≡ refused 14)
  unfolding majority_file_of strict_file_of
  consensus-of-empty z = (made_of h f _ (splits_of h.trees) own ∙ none (majority_in (splits_of h.trees)), made_of h f _ (splits_of h.trees) own ∙ none (strict_in (splits_of h.trees)))
    where
      none : (s : List ℕ) → chosen_tree h (splits_of h.trees) s room ≡ refused 14
      none s =
          chosen_by_lem h (splits_of h.trees) s room
          ∙ ap (λ (x : Bool). chosen_by x (agree_in_pairs s) (text_of h s room)) (eq-eqb (length (splits_of h.trees)) 0 (splits-length h.trees ∙ z))
