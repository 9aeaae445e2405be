-- The lines of the sheet of a whole store, as the code writes them. Assumes nothing.
--
--   counts-put, split-put           the line of counts, and that of a split
--   cell row j                      the digits of place j of a row
--   rest f j                        the words of a row behind its first, when j are there
--   row-none, row_more, row_put     a row of distances, word by word
--   answer-shown, answer-text       a tree that a call answered
--   majority-line, majority-shown, majority-put     the majority tree
--   strict-line, strict-shown, strict-put           the strict tree
--   shown-word, shown-alone, shown-fits     what of it is short
--   answer-given, answer-none       it is the text, or `none`
use Prim.Native.Nat.{ℕ, zero, suc, ◌+◌, ◌≤◌, ◌<◌}
use Rattle.std.proofs.Common.{add-one, sym, ◌∙◌, take_at, le-ltb}
use native.Mathlib.Omega.{arith}
use Rattle.std.proofs.Math.Path.{◌≡◌, refl, ap, subst}
use Rattle.std.specs.Prelude.{Bool, eqb, get_or, take, drop, if◌then◌else◌, Result, Ok, Err, ℕ}
use Rattle.std.proofs.Math.Bool.{true, false}
use mathlib.Core.List.{List, [], ◌∷◌, ◌++◌, map, append_assoc, append-nil}
use Rattle.std.proofs.Math.ListN.{length, length-append, get_or-append}
use Rattle.std.proofs.lemmas.List.{length-map, drop-append-le}
use Rattle.trees.specs.Plain.{bytes, Answer, refused, gives}
use Rattle.trees.specs.Distance.{doubled}
use Rattle.trees.specs.Consensus.{recorded, count, strict, majority}
use Rattle.trees.specs.Written.{written}
use Rattle.trees.specs.Held.{Held}
use Rattle.trees.specs.Whole.{good_tree}
use Rattle.trees.specs.Questions.{if_room, if_trees, strict_of, majority_of}
use Rattle.theorems.specs.ConsensusLaws.{strict-good, majority-good}
use Rattle.answers.specs.declared.Refusal.{Refusal}
use Rattle.answers.specs.Answers.{number_given}
use Rattle.answers.specs.Filled.{length_given, front}
use Rattle.head.specs.Head.{from_to, up_to, numbers_at}
use Rattle.head.specs.HeadLaws.{up_to-length, up_to-same}
use Rattle.layout.specs.Store.{trees_held_at, splits_held_at, mask_at, count_at, order_at, split_at, tree_at, held_at}
use Rattle.layout.specs.WholeStore.{whole_at}
use Rattle.layout.specs.Columns.{up_to-more}
use Rattle.store.specs.RecordedAtLaws.{held-trees, trees-length, tree-at, recorded-length}
use Rattle.store.specs.HeldWholeLaws.{held-numbers}
use Rattle.store.specs.CountsLaws.{row_count, split-count}
use Rattle.putting.specs.Put.{Put}
use Rattle.putting.specs.PutLaws.{put-none, put_then, put_as}
use Rattle.putting.specs.Lines.{spaced, fields, line_of}
use Rattle.putting.specs.LinesLaws.{spaced-more}
use Rattle.consensus.specs.FewLaws.{tree-short, trees-good}
use Rattle.trees.specs.Decimal.{digits_of}
use Rattle.sheet.specs.Sheet.{counts_line, split_line, row_line, tree_text, tree_line, majority_line, strict_line}
use Rattle.sheet.specs.Lines.{answer_text, Shown}
use Rattle.sheet.specs.SheetLaws.{map_at}

-- ---- the line of counts

unfoldable counts_text : List ℕ → List ℕ → List ℕ → List ℕ → List ℕ
unfolding line_of bytes
counts_text a b c d = line_of (bytes "taxa" ∷ a ∷ bytes "trees" ∷ b ∷ bytes "refused" ∷ c ∷ bytes "splits" ∷ d ∷ [])

counts-text : (a b c d : List ℕ)
    → (116 ∷ 97 ∷ 120 ∷ 97 ∷ 32 ∷ a) ++ ((32 ∷ 116 ∷ 114 ∷ 101 ∷ 101 ∷ 115 ∷ 32 ∷ b) ++ ((32 ∷ 114 ∷ 101 ∷ 102 ∷ 117 ∷ 115 ∷ 101 ∷ 100 ∷ 32 ∷ c) ++ ((32 ∷ 115 ∷ 112 ∷ 108 ∷ 105 ∷ 116 ∷ 115 ∷ 32 ∷ d) ++ 10 ∷ [])))
    ≡ counts_text a b c d
unfolding counts_text
counts-text a b c d = simp (append_assoc, append-nil)

counts-is : (h : Held) (r : ℕ)
    → counts_line h r ≡ counts_text (digits_of h.opening.numbers.taxa) (digits_of (length h.trees)) (digits_of r) (digits_of (length (recorded h.trees)))
unfolding counts_line counts_text digits_of recorded
counts-is h r = refl

split_text : (a b : List ℕ) → a ++ ((32 ∷ b) ++ 10 ∷ []) ≡ line_of (a ∷ b ∷ [])
unfolding line_of fields spaced
split_text a b = simp (append_assoc, append-nil)

split-is-line : (h : Held) (m : ℕ) → line_of (digits_of m ∷ digits_of (count h.trees m) ∷ []) ≡ split_line h m
unfolding split_line line_of digits_of count
split-is-line h m = refl

module _ (s : List ℕ) (w : whole_at s ≡ true) where
  counts-held : (r : ℕ) → counts_text (digits_of (numbers_at s).taxa) (digits_of (trees_held_at s)) (digits_of r) (digits_of (splits_held_at s)) ≡ counts_line (held_at s) r
  counts-held r = rw (counts-is (held_at s) r, held-numbers s, trees-length s, recorded-length s w)

  pub counts-put : (r taxa trees splits : ℕ) → taxa ≡ (numbers_at s).taxa → trees ≡ trees_held_at s → splits ≡ splits_held_at s
      → {l i j k m after : List ℕ} {at a b c d z : ℕ}
      → Put l at (116 ∷ 97 ∷ 120 ∷ 97 ∷ 32 ∷ digits_of taxa) i a
      → Put i a (32 ∷ 116 ∷ 114 ∷ 101 ∷ 101 ∷ 115 ∷ 32 ∷ digits_of trees) j b
      → Put j b (32 ∷ 114 ∷ 101 ∷ 102 ∷ 117 ∷ 115 ∷ 101 ∷ 100 ∷ 32 ∷ digits_of r) k c
      → Put k c (32 ∷ 115 ∷ 112 ∷ 108 ∷ 105 ∷ 116 ∷ 115 ∷ 32 ∷ digits_of splits) m d
      → Put m d (10 ∷ []) after z
      → Put l at (counts_line (held_at s) r) after z
  counts-put r taxa trees splits e f g p q t u v =
      put_as (counts-text (digits_of taxa) (digits_of trees) (digits_of r) (digits_of splits) ∙ rw (e, f, g) (counts-held r)) (put_then p (put_then q (put_then t (put_then u v))))

  -- ---- the line of a split

  pub split-put : (k row mask n : ℕ) → k < splits_held_at s → row ≡ order_at s k → mask ≡ mask_at s row → n ≡ count_at s row
      → {l i j after : List ℕ} {at a b z : ℕ} → Put l at (digits_of mask) i a → Put i a (32 ∷ digits_of n) j b → Put j b (10 ∷ []) after z
      → Put l at (split_line (held_at s) (split_at s k)) after z
  split-put k row mask n h e f g p q t =
      let m : mask ≡ split_at s k = f ∙ ap (mask_at s) e in
      let c : n ≡ count (held_at s).trees (split_at s k) = row_count s k row n e g ∙ sym (split-count s w k h) in
      put_as (split_text (digits_of mask) (digits_of n) ∙ rw (m, c) (split-is-line (held_at s) (split_at s k))) (put_then p (put_then q t))

-- ---- a row of distances

-- the digits of place j of a row
unfoldable pub cell : List ℕ → ℕ → List ℕ
unfolding digits_of
cell row j = digits_of (get_or row j 0)

module _ {A B : Type 0} (f : A → B) (g : ℕ → A) where
  map-from : (k n : ℕ) → map f (from_to g k n) ≡ from_to (λ i. f (g i)) k n
  unfolding from_to
  map-from k zero = refl
  map-from k (suc n) = ap (λ (l : List B). f (g k) ∷ l) (map-from (suc k) n)

  map-up_to : (n : ℕ) → map f (up_to g n) ≡ up_to (λ i. f (g i)) n
  unfolding up_to
  map-up_to n = map-from 0 n

-- the words of a row behind its first, when j are there
unfoldable pub rest : (ℕ → List ℕ) → ℕ → List ℕ
unfolding spaced up_to
rest f j = spaced (drop 1 (up_to f j))

rest_more : (f : ℕ → List ℕ) (j : ℕ) → 1 ≤ j → rest f j ++ (32 ∷ f j) ≡ rest f (j + 1)
rest_more f j h = sym (rest-is (j + 1) ∙ rw (add-one j, up_to-more f j, drop-append-le 1 (up_to f j) (f j ∷ []) (omega (arith, up_to-length f j))) (spaced-more (drop 1 (up_to f j)) (f j)) ∙ ap (λ (v : List ℕ). v ++ (32 ∷ f j)) (sym (rest-is j)))
  where
    rest-is : (i : ℕ) → rest f i ≡ spaced (drop 1 (up_to f i))
    rest-is i = unfold rest spaced up_to in refl

rest_all : (f : ℕ → List ℕ) (n : ℕ) → 1 ≤ n → f 0 ++ rest f n ≡ fields (up_to f n)
unfolding rest fields up_to from_to
rest_all f zero h = absurd (omega arith)
rest_all f (suc n) h = refl

module _ (row : List ℕ) where
  pub row-none : (l : List ℕ) (a : ℕ) → Put l a (rest (cell row) 1) l a
  unfolding rest spaced up_to from_to
  row-none l a = put-none l a

  pub row_more : (j d : ℕ) → 1 ≤ j → d ≡ get_or row j 0 → {l k after : List ℕ} {a b z : ℕ}
      → Put l a (rest (cell row) j) k b → Put k b (32 ∷ digits_of d) after z → Put l a (rest (cell row) (j + 1)) after z
  row_more j d h e p q =
      let c : digits_of d ≡ cell row j = unfold cell digits_of in ap digits_of e in
      put_as (ap (λ (v : List ℕ). rest (cell row) j ++ (32 ∷ v)) c ∙ rest_more (cell row) j h) (put_then p q)

module _ (s : List ℕ) (i : ℕ) (row old : List ℕ) (e : row ≡ map (doubled (tree_at s i)) (held_at s).trees ++ drop (trees_held_at s) old) where
  row_at : (j : ℕ) → j < trees_held_at s → get_or row j 0 ≡ doubled (tree_at s i) (tree_at s j)
  row_at j h =
      let d = doubled (tree_at s i) in
      let n = trees-length s in
      ap (λ (l : List ℕ). get_or l j 0) e
      ∙ get_or-append (map d (held_at s).trees) (drop (trees_held_at s) old) 0 j (omega (arith, length-map (held_at s).trees d))
      ∙ map_at d (held_at s).trees j [] 0 (omega arith)
      ∙ ap d (tree-at s j h)

  row_is : (h : Held) → row_line h (tree_at s i) ≡ fields (map (λ u. digits_of (doubled (tree_at s i) u)) h.trees) ++ 10 ∷ []
  unfolding row_line line_of fields
  row_is h = refl

  row-cells : map (λ u. digits_of (doubled (tree_at s i) u)) (held_at s).trees ≡ up_to (cell row) (trees_held_at s)
  unfolding cell
  row-cells =
      rw (held-trees s) (map-up_to (λ u. digits_of (doubled (tree_at s i) u)) (tree_at s) (trees_held_at s))
      ∙ up_to-same (λ j. digits_of (doubled (tree_at s i) (tree_at s j))) (cell row) (trees_held_at s) (λ j h. ap digits_of (sym (row_at j h)))

  row-held : fields (up_to (cell row) (trees_held_at s)) ++ 10 ∷ [] ≡ row_line (held_at s) (tree_at s i)
  row-held = sym (row_is (held_at s) ∙ ap (λ (ws : List (List ℕ)). fields ws ++ 10 ∷ []) row-cells)

  pub row_put : (n d : ℕ) → n ≡ trees_held_at s → 1 ≤ n → d ≡ get_or row 0 0 → {l j k after : List ℕ} {a b z : ℕ}
      → Put l 0 (digits_of d) j a → Put j a (rest (cell row) n) k b → Put k b (10 ∷ []) after z
      → Put l 0 (row_line (held_at s) (tree_at s i)) after z
  row_put n d m h f p q t =
      let c : digits_of d ≡ cell row 0 = unfold cell digits_of in ap digits_of f in
      let g : digits_of d ++ rest (cell row) n ≡ fields (up_to (cell row) n) = ap (λ (v : List ℕ). v ++ rest (cell row) n) c ∙ rest_all (cell row) n h in
      put_as (ap (λ (v : List ℕ). v ++ 10 ∷ []) g ∙ rw m row-held) (put_then (put_then p q) t)

-- ---- a tree that a call answered

-- a refusal, as that of no trees, or the text
abbrev asked : Bool → List ℕ → Answer (List ℕ)
asked b t = if b then refused 14 else gives t

module _ (t old text : List ℕ) where
  pub answer-text : (b : Bool) (r : Result ℕ Refusal) → number_given r ≡ length_given (asked b t) → text ≡ front (asked b t) old
      → answer_text r text ≡ (if b then bytes "none" else t)
  unfolding number_given length_given front answer_text
  answer-text true (Err r) e f = refl
  answer-text true (Ok n) e f = absurd (no-gives n 14 e)
    where
      no-gives : (n k : ℕ) → ◌≡◌ {A = Answer ℕ} (gives n) (refused k) → ⊥
      no-gives n k e = let z : ◌≡◌ {A = ℕ} 0 1 = cc in omega arith
  answer-text false (Err r) e f = absurd (no-refused _ (length t) e)
    where
      no-refused : (k n : ℕ) → ◌≡◌ {A = Answer ℕ} (refused k) (gives n) → ⊥
      no-refused k n e = let z : ◌≡◌ {A = ℕ} 0 1 = cc in omega arith
  answer-text false (Ok n) e f = let m : n ≡ length t = cc in rw (f, m) (take_at t (drop (length t) old) (length t) refl)

  pub answer-shown : (word : List ℕ) → length word ≤ 2000 → length t ≤ 4349 → (b : Bool) (r : Result ℕ Refusal) → number_given r ≡ length_given (asked b t) → text ≡ front (asked b t) old
      → Shown r word text
  unfolding number_given length_given front Shown
  answer-shown word h l true (Err r) e f = h
  answer-shown word h l true (Ok n) e f = absurd (let z : ◌≡◌ {A = ℕ} 0 1 = cc in omega arith)
  answer-shown word h l false (Err r) e f = absurd (let z : ◌≡◌ {A = ℕ} 0 1 = cc in omega arith)
  answer-shown word h l false (Ok n) e f =
      let m : n ≡ length t = cc in
      (h, omega arith, omega (arith, ap length f, length-append t (drop (length t) old)))

-- ---- the two trees

tree-text-is : (h : Held) (splits : List ℕ) → (if eqb (length h.trees) 0 then bytes "none" else written h.opening.names splits) ≡ tree_text h splits
unfolding tree_text bytes written
tree-text-is h splits = refl

tree-text : (word t : List ℕ) → (word ++ 32 ∷ []) ++ (t ++ 10 ∷ []) ≡ line_of (word ∷ t ∷ [])
unfolding line_of fields spaced
tree-text word t = simp (append_assoc, append-nil)

pub majority-line : (h : Held) → (bytes "majority" ++ 32 ∷ []) ++ (tree_text h (majority h.trees) ++ 10 ∷ []) ≡ majority_line h
majority-line h = tree-text (bytes "majority") (tree_text h (majority h.trees)) ∙ line-is
  where
    line-is : line_of (bytes "majority" ∷ tree_text h (majority h.trees) ∷ []) ≡ majority_line h
    line-is = unfold majority_line tree_line line_of bytes tree_text majority in refl

pub strict-line : (h : Held) → (bytes "strict" ++ 32 ∷ []) ++ (tree_text h (strict h.trees) ++ 10 ∷ []) ≡ strict_line h
strict-line h = tree-text (bytes "strict") (tree_text h (strict h.trees)) ∙ line-is
  where
    line-is : line_of (bytes "strict" ∷ tree_text h (strict h.trees) ∷ []) ≡ strict_line h
    line-is = unfold strict_line tree_line line_of bytes tree_text strict in refl

module _ (s : List ℕ) (w : whole_at s ≡ true) where
  -- with so much room, a tree is refused only where there is none
  tree-asked : (room : ℕ) (t : List ℕ) → 4349 ≤ room → length t ≤ 4349 → if_trees (held_at s) (if_room room t) ≡ asked (eqb (length (held_at s).trees) 0) t
  unfolding if_trees if_room
  tree-asked room t h l = rw (le-ltb room (length t) (omega arith))

  module _ (old text : List ℕ) (h : 4349 ≤ length old) (r : Result ℕ Refusal) (splits : List ℕ) (g : good_tree (numbers_at s).taxa splits ≡ true)
      (x : Answer (List ℕ)) (q : x ≡ if_trees (held_at s) (if_room (length old) (written (held_at s).opening.names splits)))
      (e : number_given r ≡ length_given x) (f : text ≡ front x old) where
    abbrev none : Bool
    none = eqb (length (held_at s).trees) 0

    abbrev text_of : List ℕ
    text_of = written (held_at s).opening.names splits

    as-asked : x ≡ asked none text_of
    as-asked = q ∙ tree-asked (length old) text_of h (tree-short s w splits g)

    length-asked : number_given r ≡ length_given (asked none text_of)
    length-asked = e ∙ ap length_given as-asked

    front-asked : text ≡ front (asked none text_of) old
    front-asked = f ∙ ap (λ (y : Answer (List ℕ)). front y old) as-asked

    tree-shown : (word : List ℕ) → length word ≤ 2000 → Shown r word text
    tree-shown word k = answer-shown text_of old text word k (tree-short s w splits g) none r length-asked front-asked

    tree-put : (word : List ℕ) {l after : List ℕ} {at z : ℕ} → Put l at (word ++ (answer_text r text ++ 10 ∷ [])) after z
        → Put l at (word ++ (tree_text (held_at s) splits ++ 10 ∷ [])) after z
    tree-put word p = put_as (ap (λ (v : List ℕ). word ++ (v ++ 10 ∷ [])) (answer-text text_of old text none r length-asked front-asked ∙ tree-text-is (held_at s) splits)) p

  module _ (old text : List ℕ) (r : Result ℕ Refusal) where
    majority-asked : majority_of (held_at s) (length old) ≡ if_trees (held_at s) (if_room (length old) (written (held_at s).opening.names (majority (held_at s).trees)))
    unfolding majority_of
    majority-asked = refl

    module _ (e : number_given r ≡ length_given (majority_of (held_at s) (length old))) (f : text ≡ front (majority_of (held_at s) (length old)) old) (h : 4349 ≤ length old) where
      good : good_tree (numbers_at s).taxa (majority (held_at s).trees) ≡ true
      good = majority-good (numbers_at s).taxa (held_at s).trees (trees-good s w)

      pub majority-shown : (word : List ℕ) → length word ≤ 2000 → Shown r word text
      majority-shown = tree-shown old text h r _ good _ majority-asked e f

      pub majority-put : (word : List ℕ) {l after : List ℕ} {at z : ℕ} → Put l at (word ++ (answer_text r text ++ 10 ∷ [])) after z
          → Put l at (word ++ (tree_text (held_at s) (majority (held_at s).trees) ++ 10 ∷ [])) after z
      majority-put word p = tree-put old text h r _ good _ majority-asked e f word p

    strict-asked : strict_of (held_at s) (length old) ≡ if_trees (held_at s) (if_room (length old) (written (held_at s).opening.names (strict (held_at s).trees)))
    unfolding strict_of
    strict-asked = refl

    module _ (e : number_given r ≡ length_given (strict_of (held_at s) (length old))) (f : text ≡ front (strict_of (held_at s) (length old)) old) (h : 4349 ≤ length old) where
      good-strict : good_tree (numbers_at s).taxa (strict (held_at s).trees) ≡ true
      good-strict = strict-good (numbers_at s).taxa (held_at s).trees (trees-good s w)

      pub strict-shown : (word : List ℕ) → length word ≤ 2000 → Shown r word text
      strict-shown = tree-shown old text h r _ good-strict _ strict-asked e f

      pub strict-put : (word : List ℕ) {l after : List ℕ} {at z : ℕ} → Put l at (word ++ (answer_text r text ++ 10 ∷ [])) after z
          → Put l at (word ++ (tree_text (held_at s) (strict (held_at s).trees) ++ 10 ∷ [])) after z
      strict-put word p = tree-put old text h r _ good-strict _ strict-asked e f word p

-- ---- a tree as it was answered

module _ (r : Result ℕ Refusal) (word text : List ℕ) where
  pub shown-word : Shown r word text → length word ≤ 2000
  unfolding Shown
  shown-word h = go r h
    where
      go : (q : Result ℕ Refusal) → Shown q word text → length word ≤ 2000
      go (Ok n) k = k.0
      go (Err x) k = k

  pub shown-alone : Shown r word text → Shown r [] text
  unfolding Shown
  shown-alone h = go r h
    where
      go : (q : Result ℕ Refusal) → Shown q word text → Shown q [] text
      go (Ok n) k = (omega arith, k.1, k.2)
      go (Err x) k = omega arith

  pub shown-fits : (n : ℕ) → r ≡ Ok n → Shown r word text → (n ≤ 4352) × (n ≤ length text)
  unfolding Shown
  shown-fits n e h = let k = subst (λ (q : Result ℕ Refusal). Shown q word text) e h in (k.1, k.2)

module _ (r : Result ℕ Refusal) (text : List ℕ) {l after : List ℕ} {at z : ℕ} where
  pub answer-given : (n : ℕ) → r ≡ Ok n → Put l at (take n text) after z → Put l at (answer_text r text) after z
  unfolding answer_text
  answer-given n e p = put_as (sym (ap (λ (q : Result ℕ Refusal). answer_text q text) e)) p

  pub answer-none : (q : Refusal) → r ≡ Err q → Put l at (bytes "none") after z → Put l at (answer_text r text) after z
  unfolding answer_text
  answer-none q e p = put_as (sym (ap (λ (x : Result ℕ Refusal). answer_text x text) e)) p
