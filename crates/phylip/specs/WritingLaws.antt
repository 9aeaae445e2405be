-- What writing a matrix answers, and its lines one after another. Assumes nothing.
--
--   most-few                 the most bytes that the lines of t trees can have
-- of whole bytes:
--   trees-most               there are at most 1,024 trees
--   row-values               the distances of a tree are below 1,000
--   row-there, kept_next     they stand among eight rows, which are kept for the next
--   rows_more, rows_end      the lines from tree i on
--   rows_short, rows_few     they are no longer than so much for each tree
--   text-put                 the text: the number of trees, and the lines
--   text-short               it is no longer than the longest
--   phylip-short, phylip-given     4 where the buffer is too short, else the text at its front
use Rattle.std.specs.Prelude.{ℕ, zero, suc, ◌+◌, ◌*◌, ◌%◌, ◌≤◌, ◌<◌, ◌≡◌, refl, true, length, get_or, set, take, drop, Ok, Err}
use Rattle.std.proofs.Common.{zero-add, suc-mul, mul-le-mul, add-one, sym, ◌∙◌, length-drop, drop_of_length-le, drop-cons, length-take-le, get_or-take, get_or-drop, ext_get_or}
use native.Mathlib.Omega.{arith}
use Rattle.std.proofs.Math.Path.{ap}
use mathlib.Core.List.{List, [], ◌∷◌, ◌++◌, map}
use Rattle.std.proofs.Math.ListN.{length-append, length-map, get_or-map}
use Rattle.std.proofs.lemmas.List.Edits.{sets-eq}
use Rattle.trees.specs.Distance.{doubled}
use Rattle.trees.specs.Decimal.{digits_of}
use Rattle.trees.specs.Questions.{if_room}
use Rattle.trees.specs.Phylip.{row_text, row_texts, square_text}
use Rattle.trees.specs.PhylipCall.{phylip_text, phylip_of}
use Rattle.answers.specs.declared.Refusal.TheVariants as why
use Rattle.answers.specs.Filled.{FilledAs}
use Rattle.answers.specs.AnswerLaws.{filled-short, filled-given}
use Rattle.layout.specs.Store.{trees_held_at, tree_at, held_at}
use Rattle.layout.specs.WholeStore.{whole_at}
use Rattle.layout.specs.InsideLaws.{trees-few}
use Rattle.rows.specs.ReadLaws.{tree-length}
use Rattle.store.specs.RecordedAtLaws.{trees-length, tree-at}
use Rattle.store.specs.LentLaws.{when_whole}
use Rattle.distances.specs.Eight.{Block}
use Rattle.distances.specs.EightLaws.{block_same}
use Rattle.distances.specs.LackLaws.{one_sided-most}
use Rattle.distances.specs.WholeTreeLaws.{head_at, list-few}
use Rattle.distances.specs.RowLaws.{row-length, row-entry}
use Rattle.putting.specs.Put.{Put}
use Rattle.putting.specs.PutLaws.{put_one, put_then, put_as}
use Rattle.phylip.specs.Writing.{phylip_asked, distance_rows, Values, Kept, most_bytes}
use Rattle.phylip.specs.DigitLaws.{digits-few}
use Rattle.phylip.specs.LineLaws.{line-length}

pub most-few : (t : ℕ) → t ≤ 1024 → t * (4 * t + 11) ≤ 4205568
most-few t h =
    let b : 4 * t + 11 ≤ 4107 = omega arith in
    let m : t * (4 * t + 11) ≤ 1024 * 4107 = mul-le-mul h b in
    omega (arith, m)

rows_none : (i : ℕ) → row_texts i [] ≡ []
unfolding row_texts
rows_none i = refl

rows-first : (i : ℕ) (vs : List ℕ) (rows : List (List ℕ)) → row_texts i (vs ∷ rows) ≡ row_text i vs ++ row_texts (suc i) rows
unfolding row_texts
rows-first i vs rows = refl

module _ (s : List ℕ) (w : whole_at s ≡ true) where
  abbrev ts : List (List ℕ)
  ts = (held_at s).trees

  abbrev trees : ℕ
  trees = trees_held_at s

  abbrev row_of : ℕ → List ℕ
  row_of i = map (doubled (tree_at s i)) ts

  pub trees-most : trees ≤ 1024
  trees-most = trees-few s (head_at s w)

  -- ---- a tree's row

  distance-small : (i j : ℕ) → i < trees → j < trees → doubled (tree_at s i) (tree_at s j) < 1000
  unfolding doubled
  distance-small i j h k =
      omega (arith, one_sided-most (tree_at s i) (tree_at s j), one_sided-most (tree_at s j) (tree_at s i), tree-length s i, tree-length s j, list-few s w i h, list-few s w j k)

  pub row-values : (i : ℕ) → i < trees → Values (row_of i)
  row-values i h = record { small = λ j k. let b : j < trees = omega (arith, row-length s i) in rw (row-entry s i j b) (distance-small i j h b) }

  pub row-there : (i n : ℕ) (m row : List ℕ) → n ≡ trees → i < trees → Block s i m → row ≡ take n (drop (1024 * (i % 8)) m) → row ≡ row_of i
  row-there i n m row q h f e =
      e
      ∙ ap (λ (x : ℕ). take x (drop a m)) q
      ∙ ext_get_or 0 (take trees (drop a m)) (row_of i) (length-take-le trees (drop a m) long ∙ sym (row-length s i)) is
    where
      a : ℕ
      a = 1024 * (i % 8)

      long : trees ≤ length (drop a m)
      long = omega (arith, length-drop a m, f.room, trees-most)

      is : (j : ℕ) → j < length (take trees (drop a m)) → get_or (take trees (drop a m)) j 0 ≡ get_or (row_of i) j 0
      is j k =
          let b : j < trees = omega (arith, length-take-le trees (drop a m) long) in
          get_or-take trees (drop a m) j 0 b ∙ get_or-drop a m j 0 ∙ f.rows i j refl h b ∙ sym (row-entry s i j b)

  pub kept_next : (i : ℕ) (m : List ℕ) → Block s i m → Kept s (i + 1) m
  kept_next i m f = record { room = f.room; block = λ n. block_same s m i (i + 1) (omega (arith, n)) f }

  -- ---- the lines

  rows-length : length (distance_rows ts) ≡ trees
  unfolding distance_rows
  rows-length = length-map ts (λ t. map (doubled t) ts) ∙ trees-length s

  row_at : (i : ℕ) → i < trees → get_or (distance_rows ts) i (map (doubled []) ts) ≡ row_of i
  unfolding distance_rows
  row_at i h = get_or-map (λ (t : List ℕ). map (doubled t) ts) ts i [] ∙ ap (λ (t : List ℕ). map (doubled t) ts) (tree-at s i h)

  pub rows_more : (i : ℕ) → i < trees → row_texts i (drop i (distance_rows ts)) ≡ row_text i (row_of i) ++ row_texts (i + 1) (drop (i + 1) (distance_rows ts))
  rows_more i h =
      rw (drop-cons (distance_rows ts) i (map (doubled []) ts) (omega (arith, rows-length)), row_at i h, add-one i)
      (rows-first i (row_of i) (drop (suc i) (distance_rows ts)))

  pub rows_end : (i : ℕ) → trees ≤ i → row_texts i (drop i (distance_rows ts)) ≡ []
  rows_end i h =
      let e : length (distance_rows ts) ≤ i = omega (arith, rows-length) in
      rw (drop_of_length-le (distance_rows ts) e) (rows_none i)

  rows_left : (k i : ℕ) → i + k ≡ trees → length (row_texts i (drop i (distance_rows ts))) ≤ k * (4 * trees + 11)
  rows_left zero i e = rw (rows_end i (omega arith)) (omega arith)
  rows_left (suc k) i e =
      let h : i < trees = omega arith in
      rw (rows_more i h)
      (omega (
        arith,
        length-append (row_text i (row_of i)) (row_texts (i + 1) (drop (i + 1) (distance_rows ts))),
        line-length i (row_of i) (omega (arith, trees-most)) (row-values i h),
        row-length s i,
        rows_left k (i + 1) (omega arith),
        suc-mul k (4 * trees + 11),
      ))

  pub rows_short : length (row_texts 0 (distance_rows ts)) ≤ trees * (4 * trees + 11)
  rows_short = rows_left trees 0 (zero-add trees)

  pub rows_few : length (row_texts 0 (distance_rows ts)) ≤ 4205568
  rows_few = omega (arith, rows_short, most-few trees trees-most)

  -- ---- the text

  text-is : phylip_text ts ≡ digits_of trees ++ ((10 ∷ []) ++ row_texts 0 (distance_rows ts))
  unfolding phylip_text square_text distance_rows
  text-is = rw (length-map ts (λ (t : List ℕ). map (doubled t) ts), trees-length s)

  pub text-put : {l a b after : List ℕ} {e z : ℕ} (n : ℕ) → n ≡ trees → Put l 0 (digits_of n) a e → b ≡ set a e 10
      → Put b (e + 1) (row_texts 0 (distance_rows ts)) after z → Put l 0 (phylip_text ts) after z
  text-put n q p d r = put_as (rw q (sym text-is)) (put_then p (put_then (put_one d) r))

  pub text-short : length (phylip_text ts) ≤ most_bytes trees
  unfolding most_bytes
  text-short =
      rw text-is
      (omega (
        arith,
        length-append (digits_of trees) (10 ∷ row_texts 0 (distance_rows ts)),
        digits-few trees (omega (arith, trees-most)),
        rows_short,
      ))

  -- ---- the answer

  module _ (out : List ℕ) where
    asked : phylip_asked s (length out) ≡ if_room (length out) (phylip_text ts)
    unfolding phylip_of
    asked = when_whole s (λ h. phylip_of h (length out)) w

    pub phylip-short : length out < length (phylip_text ts) → FilledAs (phylip_asked s (length out)) (Err why.TooShort) out out
    phylip-short h = filled-short (phylip_asked s (length out)) out (phylip_text ts) asked h

    pub phylip-given : (m : List ℕ) (n : ℕ) → length (phylip_text ts) ≤ length out → Put out 0 (phylip_text ts) m n
        → FilledAs (phylip_asked s (length out)) (Ok n) out m
    phylip-given m n h p =
        let e : n ≡ length (phylip_text ts) = omega (arith, p.ends) in
        let q : m ≡ phylip_text ts ++ drop (length (phylip_text ts)) out = p.stored ∙ sets-eq (phylip_text ts) out 0 (omega arith) ∙ rw zero-add in
        filled-given (phylip_asked s (length out)) out (phylip_text ts) asked n m e (omega arith) q
