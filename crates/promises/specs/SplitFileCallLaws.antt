-- What the calls on split files answer, of their own promises, on whole lent bytes. A file that a call writes is the first bytes of its
-- buffer, as many as it answers. Assumes nothing.
--
--   of_trees t a              a number of splits that is answered, with the number t of trees
--   written-bytes            the file of a collection has 16 bytes for each recorded split
--   written-reads-back       it reads as the splits and counts that the collection lists, with its number of trees, or 0 where it has no splits
--   majority-of-written, strict-of-written     its trees are byte for byte those that the collection's own calls write, where it is not empty
--   majority-of-none, strict-of-none           where it is empty they are 14
--   majority-tree-reads-back, strict-tree-reads-back     a file's tree reads back with exactly the splits that are chosen from the file
--   merge-either-way         two files merge alike in either order, unless one is no file
--   merge-three              three files merge alike either way
--   merge-of-written         the files of two collections merge as the file of a collection with the trees of both
--   read-splits-refused, merge-refused, majority-tree-refused, strict-tree-refused     each refusal is answered exactly where its fault is the
--                            first, and leaves the buffers
--   filled-refusal           a filled buffer is that of a refusal exactly where the answer is
--   answered                 what is answered y is z exactly where y is
use Rattle.std.specs.Prelude.{ℕ, ◌*◌, ◌<◌, ◌≡◌, refl, ◌↔◌, Bool, true, List, [], ◌++◌, length, take}
use Rattle.std.proofs.Common.{arith, subst, ◌∙◌, inl, inr}
use Rattle.std.proofs.Math.Path.{sym, ap}
use Rattle.std.proofs.Math.Logic.Iff.{trans as iff_trans}
use Rattle.trees.specs.Plain.{Answer, refused, gives}
use Rattle.trees.specs.Consensus.{recorded}
use Rattle.trees.specs.Held.{holding, lane_of}
use Rattle.trees.specs.Questions.{split_list}
use Rattle.trees.specs.SplitFile.{Record, record_bytes, splits_of, strict_in, majority_in}
use Rattle.trees.specs.SplitFileCall.{records_from, file_of, Splits, reading_of, merging_of, strict_file_of, majority_file_of}
use Rattle.trees.specs.Runs.{feed}
use Rattle.theorems.specs.OpeningLaws.{good-opening}
use Rattle.theorems.specs.HeldLaws.{whole-facts}
use Rattle.theorems.specs.SplitFileLaws.{bytes-length}
use Rattle.theorems.specs.WrittenFileLaws.{known_trees, splits-length, ReadsAs, made_of, made_none, file-is, with_trees, reading-back}
use Rattle.theorems.specs.MergeCallLaws.{merging-comm, merging-assoc, merging-trees}
use Rattle.theorems.specs.FileConsensusLaws.{chosen, in_majority, in_all, TreeOfFile, tree-of-majority, tree-of-strict, file-tree-good, majority-of-file, strict-of-file, consensus-of-empty}
use Rattle.theorems.specs.FileRefusalLaws.{FileRefused, file-refusals-in-order, InFile, ReadRefused, reading-refusals-in-order, MergeRefused, merging-refusals-in-order, TreeRefused, majority-refusals-in-order, strict-refusals-in-order}
use Rattle.answers.specs.Filled.{length_given, front, first_of, second_of}
use Rattle.answers.specs.AnswerLaws.{gives≢refused}
use Rattle.layout.specs.Store.{held_at}
use Rattle.layout.specs.WholeStore.{whole_at}
use Rattle.store.specs.HeldWholeLaws.{held_whole}
use Rattle.splitfile.specs.Files.{read_given, masks_read, counts_read}
use Rattle.promises.specs.Calls.{split-list, strict, majority, write-splits, read-splits, merge, strict_tree, majority-tree, Reply, filled, both_filled, each_filled, fill, fill_both, fill_read, reply, one, Told}
use Rattle.promises.specs.Steps.{Asked, Step}
use Rattle.promises.specs.StepLaws.{asked-follows}
use Rattle.promises.specs.ReadBackCallLaws.{given_is, ReadBackAs, text-reads-back}

-- ---- a collection's own file

abbrev pub of_trees : ℕ → Answer ℕ → Answer (ℕ × ℕ)
of_trees t (refused k) = refused k
of_trees t (gives n) = gives (t, n)

-- a split list that is answered, read from a file of t trees
read-as-listed : (t : ℕ) (x : Answer (List ℕ × List ℕ)) (masks counts : List ℕ) (n : Answer ℕ) (ms cs : List ℕ) → both_filled n ms cs ≡ fill_both x masks counts
    → fill_read (with_trees t x) masks counts ≡ each_filled (of_trees t n) ms cs
unfolding fill_both fill_read length_given first_of second_of front read_given masks_read counts_read
read-as-listed t (refused k) masks counts n ms cs e =
    let p : n ≡ refused k = cc in
    let q : ms ≡ masks = cc in
    let r : cs ≡ counts = cc in
    rw (p, q, r) refl
read-as-listed t (gives x) masks counts n ms cs e =
    let p : n ≡ gives (length x.0) = cc in
    let q : ms ≡ front (gives x.0) masks = cc in
    let r : cs ≡ front (gives x.1) counts = cc in
    rw (p, q, r) refl

module _ (s : List ℕ) (w : whole_at s ≡ true) (out : List ℕ) (n : ℕ) (left : List ℕ) (p : Asked s (write-splits out) (filled (gives n) left)) where
  abbrev trees : List (List ℕ)
  trees = (held_at s).trees

  -- what was written
  abbrev file : List ℕ
  file = take n left

  given : (file_of (held_at s) (length out) ≡ gives file) × (n ≡ length file)
  unfolding reply
  given = given_is (file_of (held_at s) (length out)) out n left (asked-follows s w (write-splits out) (filled (gives n) left) p)

  -- "files of 16-byte records"
  pub written-bytes : n ≡ record_bytes * length (recorded trees)
  written-bytes = given.1 ∙ ap length (file-is (held_at s) (length out) file given.0) ∙ bytes-length (splits_of trees) ∙ ap (λ (k : ℕ). record_bytes * k) (splits-length trees)

  -- "Reading what was written gives the same list"; of an empty file "no known number of trees"
  pub written-reads-back : (masks counts : List ℕ) (k : Answer ℕ) (ms cs : List ℕ) (a : Reply) → Asked s (split-list masks counts) (both_filled k ms cs)
      → Asked s (read-splits file masks counts) a → a ≡ each_filled (of_trees (known_trees trees) k) ms cs
  unfolding reply
  written-reads-back masks counts k ms cs a q r =
      let x = split_list (held_at s) (length masks) (length counts) in
      asked-follows s w (read-splits file masks counts) a r
      ∙ ap (λ y. fill_read y masks counts) (reading-back (held_at s) (held_whole s w) (length out) file given.0 (length masks) (length counts))
      ∙ read-as-listed (known_trees trees) x masks counts k ms cs (asked-follows s w (split-list masks counts) (both_filled k ms cs) q)

  module _ (text : List ℕ) (a : Reply) where
    -- "majority if twice its count is more than t", "strict if all t trees have it": of the file as of the trees
    pub majority-of-written : 0 < n → (b : Reply) → Asked s (majority-tree file text) a → Asked s (majority text) b → a ≡ b
    unfolding reply
    majority-of-written k b q r =
        asked-follows s w (majority-tree file text) a q
        ∙ ap (λ y. fill y text) (majority-of-file (held_at s) (held_whole s w) (length out) file given.0 (length text) (omega (arith, written-bytes)))
        ∙ sym (asked-follows s w (majority text) b r)

    pub strict-of-written : 0 < n → (b : Reply) → Asked s (strict_tree file text) a → Asked s (strict text) b → a ≡ b
    unfolding reply
    strict-of-written k b q r =
        asked-follows s w (strict_tree file text) a q
        ∙ ap (λ y. fill y text) (strict-of-file (held_at s) (held_whole s w) (length out) file given.0 (length text) (omega (arith, written-bytes)))
        ∙ sym (asked-follows s w (strict text) b r)

    -- "An empty file has no known number of trees: .. its consensus is 14", also of trees that have no splits, whose own tree the calls on the collection write
    pub majority-of-none : n ≡ 0 → Asked s (majority-tree file text) a → a ≡ filled (refused 14) text
    unfolding reply fill length_given front
    majority-of-none k q =
        asked-follows s w (majority-tree file text) a q
        ∙ ap (λ y. fill y text) (consensus-of-empty (held_at s) (held_whole s w) (length out) file given.0 (length text) (omega (arith, written-bytes))).0

    pub strict-of-none : n ≡ 0 → Asked s (strict_tree file text) a → a ≡ filled (refused 14) text
    unfolding reply fill length_given front
    strict-of-none k q =
        asked-follows s w (strict_tree file text) a q
        ∙ ap (λ y. fill y text) (consensus-of-empty (held_at s) (held_whole s w) (length out) file given.0 (length text) (omega (arith, written-bytes))).1

-- ---- a file's tree, fed whole to an empty lane of a collection over the same names

module _ (s u : List ℕ) (w : whole_at s ≡ true) (v : whole_at u ≡ true) (names : (held_at u).opening.names ≡ (held_at s).opening.names) (l : ℕ)
    (lane : l < (held_at u).opening.numbers.lanes) (empty : lane_of (held_at u) l ≡ holding []) (f out : List ℕ) (n : ℕ) (left : List ℕ)
    (a : Told) (t : List ℕ) (q : Step u (one (feed l (take n left))) a t) where
  chosen-reads-back : (p : Record → Bool) → n ≡ length (take n left) → (x : TreeOfFile p (held_at s) f (take n left)) → ReadBackAs u (chosen p x.records) n a t
  chosen-reads-back p e x =
      let c = chosen p x.records in
      let good = file-tree-good p (held_at s) f (held_whole s w) (take n left) x in
      let r = text-reads-back s u w v names l lane empty c good a t (subst (λ (y : List ℕ). Step u (one (feed l y)) a t) x.text-written q) in
      subst (λ (k : ℕ). ReadBackAs u c k a t) (sym (e ∙ ap length x.text-written)) r

  -- "A tree that we write reads back as the same splits"
  pub majority-tree-reads-back : Asked s (majority-tree f out) (filled (gives n) left) → (rs : List Record) × ReadsAs (held_at s) f rs × ReadBackAs u (majority_in rs) n a t
  unfolding reply majority_in
  majority-tree-reads-back p =
      let g = given_is (majority_file_of (held_at s) f (length out)) out n left (asked-follows s w (majority-tree f out) (filled (gives n) left) p) in
      let x = tree-of-majority (held_at s) f (length out) (take n left) g.0 in
      (x.records, x.records-read, chosen-reads-back in_majority g.1 x)

  pub strict-tree-reads-back : Asked s (strict_tree f out) (filled (gives n) left) → (rs : List Record) × ReadsAs (held_at s) f rs × ReadBackAs u (strict_in rs) n a t
  unfolding reply strict_in
  strict-tree-reads-back p =
      let g = given_is (strict_file_of (held_at s) f (length out)) out n left (asked-follows s w (strict_tree f out) (filled (gives n) left) p) in
      let x = tree-of-strict (held_at s) f (length out) (take n left) g.0 in
      (x.records, x.records-read, chosen-reads-back in_all g.1 x)

-- ---- merging

module _ (s : List ℕ) (w : whole_at s ≡ true) where
  abbrev taxa : ℕ
  taxa = (held_at s).opening.numbers.taxa

  merged-as : (f g out : List ℕ) (a : Reply) → Asked s (merge f g out) a → a ≡ fill (merging_of (held_at s) f g (length out)) out
  unfolding reply
  merged-as f g out a q = asked-follows s w (merge f g out) a q

  merged-given : (f g out : List ℕ) (n : ℕ) (left : List ℕ) → Asked s (merge f g out) (filled (gives n) left)
      → merging_of (held_at s) f g (length out) ≡ gives (take n left)
  merged-given f g out n left q = (given_is _ out n left (merged-as f g out (filled (gives n) left) q)).0

  -- "merged by adding counts and trees"; 19 and 20 are of the first file, then of the second
  pub merge-either-way : (f g out : List ℕ) (a b : Reply) → Asked s (merge f g out) a → Asked s (merge g f out) b
      → (a ≡ filled (refused 19) out → ⊥) → (a ≡ filled (refused 20) out → ⊥) → a ≡ b
  merge-either-way f g out a b p q no19 no20 = go (records_from taxa f) (records_from taxa g) refl refl
    where
      is : a ≡ fill (merging_of (held_at s) f g (length out)) out
      is = merged-as f g out a p

      no-file : (x : List ℕ) (k : ℕ) → FileRefused taxa x k → merging_of (held_at s) f g (length out) ≡ refused k → ⊥
      no-file x k (inl r) e = no19 (unfold fill length_given front in is ∙ ap (λ y. fill y out) e ∙ ap (λ (j : ℕ). filled (refused j) out) r.0)
      no-file x k (inr r) e = no20 (unfold fill length_given front in is ∙ ap (λ y. fill y out) e ∙ ap (λ (j : ℕ). filled (refused j) out) r.0)

      go : (x y : Answer (List Record)) → records_from taxa f ≡ x → records_from taxa g ≡ y → a ≡ b
      go (refused k) y d e = absurd (no-file f k ((file-refusals-in-order taxa f k).0 d) (unfold merging_of in made_none (held_at s) f _ k d))
      go (gives rs) (refused k) d e =
          absurd (no-file g k ((file-refusals-in-order taxa g k).0 e) (unfold merging_of in made_of (held_at s) f _ rs d ∙ made_none (held_at s) g _ k e))
      go (gives rs) (gives us) d e = is ∙ ap (λ y. fill y out) (merging-comm (held_at s) f g rs us d e (length out)) ∙ sym (merged-as g f out b q)

  -- the merged file of f and g with k, and f with that of g and k: the same bytes, or the same refusal
  pub merge-three : (f g k early late out : List ℕ) (i j : ℕ) (left right : List ℕ) (a b : Reply)
      → Asked s (merge f g early) (filled (gives i) left) → Asked s (merge g k late) (filled (gives j) right)
      → Asked s (merge (take i left) k out) a → Asked s (merge f (take j right) out) b → a ≡ b
  merge-three f g k early late out i j left right a b p q x y =
      let few = (good-opening (held_at s).opening (whole-facts (held_at s) (held_whole s w)).opening-good).ranges.most-taxa in
      merged-as (take i left) k out a x
      ∙ ap (λ y. fill y out)
      (merging-assoc (held_at s) few f g k (take i left) (take j right) (length early) (length late) (length out) (merged-given f g early i left p) (merged-given g k late j right q))
      ∙ sym (merged-as f (take j right) out b y)

-- "Two files over the same names are merged": the files of s and of u, where v holds the trees of both
module _ (s u v : List ℕ) (sw : whole_at s ≡ true) (uw : whole_at u ≡ true) (vw : whole_at v ≡ true) (names : (held_at u).opening.names ≡ (held_at s).opening.names)
    (both : (held_at v).trees ≡ (held_at s).trees ++ (held_at u).trees) where
  pub merge-of-written : (early late out : List ℕ) (n m : ℕ) (left right : List ℕ) (a b : Reply) → 0 < n → 0 < m
      → Asked s (write-splits early) (filled (gives n) left) → Asked u (write-splits late) (filled (gives m) right)
      → Asked s (merge (take n left) (take m right) out) a → Asked v (write-splits out) b → a ≡ b
  unfolding reply
  merge-of-written early late out n m left right a b i j p q x y =
      merged-as s sw (take n left) (take m right) out a x
      ∙ ap (λ y. fill y out)
      (merging-trees (held_at s) (held_at u) (held_at v) (held_whole s sw) (held_whole u uw) names both (length early) (length late) (take n left) (take m right)
      (given s sw early n left p).0 (given u uw late m right q).0 (omega (arith, written-bytes s sw early n left p)) (omega (arith, written-bytes u uw late m right q)) (length out))
      ∙ sym (asked-follows v vw (write-splits out) b y)

-- ---- refusals

-- a buffer that is filled with the answer x, and two that are filled with what a file reads as
pub filled-refusal : (x : Answer (List ℕ)) (out : List ℕ) (k : ℕ) → (fill x out ≡ filled (refused k) out) ↔ (x ≡ refused k)
unfolding fill length_given front
filled-refusal (refused j) out k = (λ e. cc, λ e. ap (λ y. fill y out) e)
filled-refusal (gives xs) out k = (λ e. absurd (gives≢refused (length xs) k cc), λ e. absurd (gives≢refused xs k e))

read-refusal : (x : Answer Splits) (masks counts : List ℕ) (k : ℕ) → (fill_read x masks counts ≡ each_filled (refused k) masks counts) ↔ (x ≡ refused k)
unfolding fill_read read_given masks_read counts_read front
read-refusal (refused j) masks counts k = (λ e. cc, λ e. ap (λ y. fill_read y masks counts) e)
read-refusal (gives x) masks counts k = (λ e. absurd (gives≢refused {A = ℕ × ℕ} (x.trees, length x.masks) k cc), λ e. absurd (gives≢refused x k e))

-- an answer that is y
pub answered : {a y z : Reply} → a ≡ y → (a ≡ z) ↔ (y ≡ z)
answered e = (λ d. sym e ∙ d, λ d. e ∙ d)

module _ (s : List ℕ) (w : whole_at s ≡ true) (f : List ℕ) (a : Reply) (k : ℕ) where
  -- "Refusals, in order after 1: 19 .., 20 ..; 4 last"
  pub read-splits-refused : (masks counts : List ℕ) → Asked s (read-splits f masks counts) a
      → (a ≡ each_filled (refused k) masks counts) ↔ InFile (held_at s) f k (ReadRefused (length masks) (length counts) k)
  unfolding reply
  read-splits-refused masks counts q =
      iff_trans (answered (asked-follows s w (read-splits f masks counts) a q))
      (iff_trans (read-refusal (reading_of (held_at s) f (length masks) (length counts)) masks counts k) (reading-refusals-in-order (held_at s) f (length masks) (length counts) k))

  -- 19 and 20 "both for the first file, then for the second"; then "21 .., 22 ..; 4 last"
  pub merge-refused : (g out : List ℕ) → Asked s (merge f g out) a
      → (a ≡ filled (refused k) out) ↔ InFile (held_at s) f k (λ x. InFile (held_at s) g k (λ y. MergeRefused x y (length out) k))
  merge-refused g out q =
      iff_trans (answered (merged-as s w f g out a q))
      (iff_trans (filled-refusal (merging_of (held_at s) f g (length out)) out k) (merging-refusals-in-order (held_at s) f g (length out) k))

  -- "its consensus is 14"; "23 two chosen splits disagree"; "4 last"
  pub majority-tree-refused : (out : List ℕ) → Asked s (majority-tree f out) a
      → (a ≡ filled (refused k) out) ↔ InFile (held_at s) f k (λ rs. TreeRefused (held_at s) rs (majority_in rs) (length out) k)
  unfolding reply
  majority-tree-refused out q =
      iff_trans (answered (asked-follows s w (majority-tree f out) a q))
      (iff_trans (filled-refusal (majority_file_of (held_at s) f (length out)) out k) (majority-refusals-in-order (held_at s) f (length out) k))

  pub strict-tree-refused : (out : List ℕ) → Asked s (strict_tree f out) a
      → (a ≡ filled (refused k) out) ↔ InFile (held_at s) f k (λ rs. TreeRefused (held_at s) rs (strict_in rs) (length out) k)
  unfolding reply
  strict-tree-refused out q =
      iff_trans (answered (asked-follows s w (strict_tree f out) a q))
      (iff_trans (filled-refusal (strict_file_of (held_at s) f (length out)) out k) (strict-refusals-in-order (held_at s) f (length out) k))
