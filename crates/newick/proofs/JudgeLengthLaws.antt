-- The verdict where lengths are kept, over a tree that has been read: one law for each way out of `judge_lengths`, and what it asks.
--
--   lengths-faulty      the text is refused whatever its lengths
--   noting-fine         what `note_lengths` asks
--   lengths-inexact     a length is outside the exact range
--   placing-some, placing-asks     what `place_lengths` asks
--   lengths-placed      the lengths of the splits stand in their order
use Rattle.std.proofs.Common.{◌≡◌, ℕ, zero, suc, ◌+◌, ◌-◌, ◌*◌, ◌^◌, ◌<◌, ◌≤◌, Bool, true, false, not, eqb, List, [], ◌∷◌, ◌++◌, map, length, get_or, take, drop, sym, refl, ap, ◌∙◌, subst, ap₂, append_assoc, arith, length-append, take_at}
use mathlib.Core.List.{map-append}
use mathlib.Core.Option.{Option}
use lib.ListN.{length-map}
use lib.Seq.{sets-eq, take-append_seam}
use borrow.Author.Tests.{not-true, not-false}
use Rattle.std.specs.Prelude.{if◌then◌else◌, Result, Ok, Err}
use Rattle.trees.specs.Plain.{every, keep, gives}
use Rattle.trees.specs.Mask.{side, without}
use Rattle.trees.specs.Text.{Symbol, symbols}
use Rattle.trees.specs.Tree.{Nodes, nil, inner, leaves}
use Rattle.trees.specs.Grammar.{IsNode, is_leaf, is-inner, IsTree}
use Rattle.trees.specs.Splits.{taxa, counted, splits_of}
use Rattle.trees.specs.Opening.{Opening}
use Rattle.trees.specs.Lengths.{value_of, exact, lengths_of}
use Rattle.trees.specs.Verdict.{leaf_fault, with_lengths, judged_with}
use Rattle.theorems.specs.ListLaws.{if-true, if-false, Mem, keep_append}
use Rattle.theorems.specs.OnesLaws.{ones-zero}
use Rattle.theorems.specs.FewLaws.{leaves-count}
use Rattle.theorems.specs.OpeningLaws.{GoodOpening}
use Rattle.theorems.specs.GrammarLaws.{reading-sound}
use Rattle.theorems.specs.SplitLaws.{counted-mem, mem-counted, counted-rising}
use Rattle.theorems.specs.TreeLengthLaws.{lengths-count}
use Rattle.theorems.specs.LengthVerdictLaws.{with-refused, with-given}
use Rattle.answers.specs.Answers.{refusal_number}
use Rattle.answers.specs.declared.Refusal.{Refusal}
use Rattle.answers.specs.declared.Refusal.TheVariants as why
use Rattle.records.specs.Records.{wide, with_records, masks_of}
use Rattle.records.specs.RecordLaws.{masks-records}
use Rattle.head.specs.Head.{numbers_at, opening_at}
use Rattle.newick.specs.Splits.{inners}
use Rattle.newick.specs.Running.{span_masks}
use Rattle.newick.specs.Chains.{Spans, span_mask}
use Rattle.newick.specs.Words.{word_of}
use Rattle.newick.specs.Noting.{Fine, lengths_in, is_exact, LengthsNoted}
use Rattle.newick.specs.Placing.{ReadWord, words_at, slot_word, placed_words, Placeable}
use Rattle.newick.specs.Sound.{SoundTree, TreeRead}
use Rattle.newick.specs.Judge.{JudgedWith}
use Rattle.newick.proofs.CountedLaws.{counted-most}
use Rattle.newick.proofs.OrderLaws.{span-length, span-mem, mem-span}
use Rattle.newick.proofs.SymbolLaws.{inner_lengths, words_of, tree-fine, tree-lengths, tree-noted}
use Rattle.newick.proofs.TwiceLaws.{Sturdy, sturdy-tree, inners-once, sides-twice}
use Rattle.newick.proofs.EdgeWordLaws.{inners-size, splits-words}
use Rattle.newick.proofs.JudgeLaws.{sound-splits, sound-judged}

-- ---- a text that is refused whatever its lengths

pub lengths-faulty : (o : Opening) (s u l₀ l : List ℕ) (t : Result (ℕ × ℕ) Refusal) → TreeRead o s t u l₀ l → (r : Refusal) → t ≡ Err r → (v w : List ℕ) → JudgedWith o s (Err r) v w v w
unfolding TreeRead JudgedWith
lengths-faulty o s u l₀ l t p r e v w = (with-refused 1 o.names s (refusal_number r) (subst (λ z. TreeRead o s z u l₀ l) e p), refl, refl)

-- ---- lists

front_same : (a b : List ℕ) (x y : ℕ) → a ++ (x ∷ []) ≡ b ++ (y ∷ []) → a ≡ b
front_same a b x y e =
    let n : length a ≡ length b = omega (arith, ap length e, length-append a (x ∷ []), length-append b (y ∷ [])) in
    sym (take-append_seam a (x ∷ [])) ∙ ap₂ take n e ∙ take-append_seam b (y ∷ [])

without-least : (a b : ℕ) → without a b ≤ a
unfolding without
without-least a b = omega arith

words-there : (es : List (Option (List ℕ))) (r : List ℕ) (i : ℕ) → i < length es → ReadWord (get_or (words_of es ++ r) i 0)
words-there [] r i h = absurd (omega arith)
words-there (e ∷ es) r zero h = (e, refl)
words-there (e ∷ es) r (suc i) h = words-there es r i (omega arith)

-- how many nodes have one side
words_count : (n m : ℕ) (s l v : List ℕ) (j : ℕ) → length (words_at n s l v m j) ≡ length (keep (λ y. eqb (side n y) m) (span_masks s l j))
unfolding words_at span_masks keep
words_count n m s l v zero = refl
words_count n m s l v (suc j) =
    go (eqb (side n (span_mask s l j)) m) (words_count n m s l v j)
    ∙ sym (length-append (keep p (span_masks s l j)) (keep p (span_mask s l j ∷ [])))
    ∙ ap length (sym (keep_append p (span_masks s l j) (span_mask s l j ∷ [])))
  where
    p : ℕ → Bool
    p y = eqb (side n y) m

    go : (b : Bool) → length (words_at n s l v m j) ≡ length (keep (λ y. eqb (side n y) m) (span_masks s l j))
        → length (if b then words_at n s l v m j ++ (get_or v j 0 ∷ []) else words_at n s l v m j)
        ≡ length (keep (λ y. eqb (side n y) m) (span_masks s l j)) + length (if b then span_mask s l j ∷ [] else [])
    go true e = length-append (words_at n s l v m j) (get_or v j 0 ∷ []) ∙ ap (λ (k : ℕ). k + 1) e
    go false e = omega arith

-- ---- a tree with two names or more has children

abbrev HasChildren : Nodes → Type 0
HasChildren t = (c : Nodes) × (e : Option (List ℕ)) × (t ≡ inner c e nil)

has-children : (ns : List (List ℕ)) {d : ℕ} {ss : List Symbol} {t : Nodes} → 2 ≤ length ns → IsNode d ss t → leaf_fault ns 0 (leaves t) ≡ 0 → HasChildren t
unfolding leaves
has-children ns g (is_leaf {w = w} e) z = absurd (omega (arith, leaves-count ns 0 (w ∷ []) z, ones-zero))
has-children ns g (is-inner {c = c} {x = x} z n h l e) f = (c, x, refl)

-- ---- a tree whose leaves have no fault

module _ (o : Opening) (g : GoodOpening o) (s u l : List ℕ) (k n : ℕ) (w : SoundTree o s k n u l) where
  is-tree : IsTree s w.tree
  is-tree = reading-sound s w.tree w.reads

  pub noting-fine : Fine false (symbols s)
  noting-fine = tree-fine s w.tree is-tree

  exact-is : every is_exact (lengths_in false (symbols s)) ≡ exact w.tree
  unfolding exact
  exact-is = ap (every is_exact) (tree-lengths s w.tree is-tree)

  given : judged_with 1 o.names s ≡ with_lengths 1 o.names w.tree (gives (splits_of o.names w.tree))
  given = with-given 1 o.names s w.tree is-tree (splits_of o.names w.tree) (sound-judged o s u l g k n w)

  pub lengths-inexact : (v v' : List ℕ) (r : Bool) → LengthsNoted s v r v' → not r ≡ true → (x y : List ℕ) → JudgedWith o s (Err why.InexactLength) x y x y
  unfolding JudgedWith refusal_number with_lengths
  lengths-inexact v v' r p e x y = (given ∙ if-false _ _ (sym exact-is ∙ sym p.exact ∙ not-true r e), refl, refl)

  names-count : length o.names ≡ o.numbers.taxa
  names-count = g.named.count

  children : HasChildren w.tree
  children = has-children o.names (omega (arith, names-count, g.ranges.least-taxa)) is-tree w.no-fault

  abbrev low : Nodes
  low = children.0

  size : n ≡ suc (length (inners o.names low))
  unfolding inners
  size =
      sym (span-length u l n) ∙ ap length (w.masks ∙ ap (inners o.names) children.2)
      ∙ length-append (inners o.names low) (taxa o.names low ∷ [])
      ∙ omega arith

  pub placing-some : 1 ≤ n
  placing-some = omega (arith, size)

  low-masks : span_masks u l (n - 1) ≡ inners o.names low
  unfolding inners span_masks
  low-masks =
      let e : suc (n - 1) ≡ n = omega (arith, size) in
      front_same (span_masks u l (n - 1)) (inners o.names low) (span_mask u l (n - 1)) (taxa o.names low)
      (ap (span_masks u l) e ∙ w.masks ∙ ap (inners o.names) children.2)

  low-sturdy : Sturdy o.names low
  low-sturdy = (subst (Sturdy o.names) children.2 (sturdy-tree o.names is-tree w.no-fault)).2

  -- ---- the lengths are noted

  module _ (v v' : List ℕ) (room : length v ≡ 64) (r : Bool) (p : LengthsNoted s v r v') (yes : not r ≡ false) where
    lows-count : length (words_of (inner_lengths low)) ≡ n - 1
    lows-count = omega (arith, inners-size o.names low, size)

    all_words : words_of (inner_lengths w.tree) ≡ words_of (inner_lengths low) ++ (word_of (value_of children.1) ∷ [])
    unfolding inner_lengths
    all_words = ap (λ t. words_of (inner_lengths t)) children.2 ∙ map-append (λ e. word_of (value_of e)) (inner_lengths low) (children.1 ∷ [])

    abbrev rest : List ℕ
    rest = word_of (value_of children.1) ∷ drop (0 + length (words_of (inner_lengths w.tree))) v

    words_are : v' ≡ words_of (inner_lengths low) ++ rest
    words_are =
        p.words (not-false r yes)
        ∙ tree-noted s w.tree is-tree v
        ∙ sets-eq (words_of (inner_lengths w.tree)) v 0 (omega (arith, ap length all_words, length-append (words_of (inner_lengths low)) (word_of (value_of children.1) ∷ []), lows-count, w.spans.0, placing-some))
        ∙ ap (λ (y : List ℕ). y ++ drop (0 + length (words_of (inner_lengths w.tree))) v) all_words
        ∙ append_assoc (words_of (inner_lengths low)) (word_of (value_of children.1) ∷ []) (drop (0 + length (words_of (inner_lengths w.tree))) v)

    few : n - 1 ≤ length v'
    few = omega (arith, ap length words_are, length-append (words_of (inner_lengths low)) rest, lows-count)

    front-words : take (n - 1) v' ≡ words_of (inner_lengths low)
    front-words = ap (take (n - 1)) words_are ∙ take_at (words_of (inner_lengths low)) rest (n - 1) (omega (arith, lows-count))

    word_read : (i : ℕ) → i < n - 1 → ReadWord (get_or v' i 0)
    word_read i h = subst (λ (y : List ℕ). ReadWord (get_or y i 0)) (sym words_are) (words-there (inner_lengths low) rest i (omega (arith, lows-count, length-map (inner_lengths low) (λ e. word_of (value_of e)))))

    -- ---- and placed

    module _ (i : ℕ) (x t : List ℕ) (q : (i ≡ length (counted o.numbers.taxa (span_masks u l n))) × (t ≡ with_records o (counted o.numbers.taxa (span_masks u l n)) x)) where
      abbrev splits : List ℕ
      splits = counted o.numbers.taxa (span_masks u l n)

      stand : masks_of i t ≡ counted o.numbers.taxa (span_masks u l n)
      stand = ap₂ masks_of q.0 q.1 ∙ masks-records o splits _

      small : (j : ℕ) → j < n - 1 → span_mask u l j < 2 ^ o.numbers.taxa
      small j h =
          let within = w.spans.1.within j (omega arith) in
          omega (arith, (w.sums.1.each (get_or l (2 * j + 1) 0) within).small, without-least (get_or u (wide * get_or l (2 * j + 1) 0) 0) (get_or u (wide * get_or l (2 * j) 0) 0))

      low_small : (y : ℕ) → Mem y (inners o.names low) → y < 2 ^ o.numbers.taxa
      low_small y h =
          let e = mem-span u l (n - 1) y (subst (Mem y) (sym low-masks) h) in
          subst (λ (z : ℕ). z < 2 ^ o.numbers.taxa) (sym e.2) (small e.0 e.1)

      placeable : Placeable o.numbers.taxa u l v' (masks_of i t) (n - 1)
      placeable = record {
        small = small;
        rises = rw stand (counted-rising o.numbers.taxa (span_masks u l n));
        counts = rw stand (λ m h. (counted-mem o.numbers.taxa (span_masks u l n) m h).3);
        has = rw stand (λ j h c. mem-counted o.numbers.taxa (span_masks u l n) (span_mask u l j) (span-mem u l n j (omega arith)) c);
        twice = λ m. subst (λ (z : ℕ). z ≤ 2) (sym (words_count o.numbers.taxa m u l v' (n - 1) ∙ ap (λ y. length (keep (λ z. eqb (side o.numbers.taxa z) m) y)) low-masks)) (sides-twice o.numbers.taxa m (inners o.names low) (inners-once o.names low low-sturdy) low_small);
        words = word_read;
      }

      -- its taxa are a
      pub placing-asks : (a : ℕ) → a ≡ o.numbers.taxa → 192 ≤ length t → (y : List ℕ) → 64 ≤ length y
          → ((a ≤ 64) × (n - 1 ≤ 64) × Spans 64 (n - 1) l) × (((wide * i ≤ length t) × (i ≤ length y)) × Placeable a u l v' (masks_of i t) (n - 1))
      placing-asks a f b y c =
          let few-splits : i ≤ n = omega (arith, q.0, counted-most o.numbers.taxa (span_masks u l n), span-length u l n) in
          let most = w.spans.0 in (
            (
              omega (arith, g.ranges.most-taxa),
              omega arith,
              record { rises = λ j h. w.spans.1.rises j (omega arith); within = λ j h. omega (arith, w.spans.1.within j (omega arith), w.sums.0) },
            ),
            ((omega arith, omega arith), rw f placeable),
          )

      pub lengths-placed : (a : ℕ) → a ≡ o.numbers.taxa → (y z : List ℕ) → z ≡ placed_words a u l v' (masks_of i t) (n - 1) ++ drop i y → JudgedWith o s (Ok i) x y t z
      unfolding JudgedWith with_lengths
      lengths-placed a f y z e = (
        record { splits = splits_of o.names w.tree; lengths = lengths_of o.names w.tree },
        given ∙ if-true _ _ (sym exact-is ∙ sym p.exact ∙ not-false r yes),
        q.0 ∙ ap length same,
        q.1 ∙ ap (λ c. with_records o c x) same,
        e ∙ ap₂ (λ b (j : ℕ). b ++ drop j y) placed (q.0 ∙ ap length same ∙ sym (lengths-count o.names w.tree)),
      )
        where
          same : counted o.numbers.taxa (span_masks u l n) ≡ splits_of o.names w.tree
          same = sound-splits o s u l g k n w

          as-inner : (c : Nodes) → c ≡ inner low children.1 nil → map (λ m. slot_word (words_at (length o.names) u l v' m (n - 1))) (splits_of o.names c) ≡ map word_of (lengths_of o.names c)
          as-inner c f = rw f (splits-words o.names low children.1 u l v' (n - 1) few low-masks front-words)

          placed : placed_words a u l v' (masks_of i t) (n - 1) ≡ map word_of (lengths_of o.names w.tree)
          placed =
              ap₂ (λ (b : ℕ) ms. placed_words b u l v' ms (n - 1)) (f ∙ sym names-count) (stand ∙ same)
              ∙ as-inner w.tree children.2

-- the number of taxa, as the code has it
pub taxa-here : (h : List ℕ) (n : ℕ) → n ≡ (numbers_at h).taxa → n ≡ (opening_at h).numbers.taxa
unfolding opening_at
taxa-here h n e = e
