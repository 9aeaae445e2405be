-- The weighted distance of two trees of whole bytes, by what the bytes hold. Assumes nothing.
--
--   absent-one                          lengths of which one is absent are not all given
--   front-none, front-more, front-all   the first lengths, all given, at the front of a buffer: the loop that copies them
--   length-good                         a length that is read is good
--   tree-front, tree-count, tree-rises  a tree's masks at the front of a buffer
--   weighted-as                         the distance of the same masks
--   given-front, given-not              what copying the lengths of a tree says of them
--   of_both, both_of                     what is made of the lengths of two trees, by which of them are all given
--   first_absent, second-absent, both-given     where lengths are kept: 18 for either tree, or the distance
--   weighted-missing, weighted-other    13 for either tree
--   weighted-unkept, weighted-found     18 where lengths are not kept, else what is asked where they are
use Rattle.std.specs.Prelude.{ℕ, zero, suc, ◌+◌, ◌≤◌, ◌<◌, ◌≡◌, Bool, true, false, List, [], ◌∷◌, ◌++◌, length, get_or, set, take, drop, Float}
use Rattle.std.proofs.Common.{add-one, arith, sym, ◌∙◌, length-set, take-suc, take_at, get_or-set_same, eq-eqb, ne_eqb}
use Rattle.std.proofs.Math.Path.{refl, ap}
use Rattle.std.proofs.Math.Option.{Option, none, some}
use Rattle.std.proofs.Math.Seq.{take-length}
use Rattle.std.proofs.lemmas.List.{take-set-le}
use Rattle.trees.specs.Plain.{Answer, refused, gives}
use Rattle.trees.specs.Value.{Length}
use Rattle.trees.specs.Opening.{Numbers}
use Rattle.trees.specs.Weighted.{weighted}
use Rattle.trees.specs.Held.{Held}
use Rattle.trees.specs.Whole.{rising, good_length}
use Rattle.trees.specs.Questions.{if_tree, if_kept, with_given, all_given, if_given, if_both_given, tree_lengths, tree, weighted_of}
use Rattle.theorems.specs.ListLaws.{if-true, if-false}
use Rattle.theorems.specs.OpeningLaws.{every-get_d}
use Rattle.answers.specs.declared.Refusal.TheVariants as why
use Rattle.answers.specs.Answers.{refusal_number, refusing}
use Rattle.head.specs.Head.{numbers_at}
use Rattle.layout.specs.Store.{trees_held_at, list_at, tree_at, branches_at, held_at}
use Rattle.layout.specs.WholeStore.{whole_at}
use Rattle.layout.specs.WholeFacts.{whole-at-facts}
use Rattle.store.specs.RecordedAtLaws.{tree-at}
use Rattle.store.specs.HeldWholeLaws.{held-numbers, lengths-at}
use Rattle.store.specs.Lent.{if_whole}
use Rattle.store.specs.LentLaws.{tree-missing, tree-there, asked-missing, asked-there}
use Rattle.rows.specs.ReadLaws.{tree-length}
use Rattle.comparing.specs.Asked.{weighted_asked}
use Rattle.comparing.specs.Weighed.{if_copied, weighted_kept}

-- ---- lengths that are all given

absent-rest : (x : Length) → with_given x none ≡ none
unfolding with_given
absent-rest none = refl
absent-rest (some x) = refl

pub absent-one : (xs : List Length) (j : ℕ) → j < length xs → get_or xs j none ≡ none → all_given xs ≡ none
unfolding all_given with_given
absent-one [] j h e = absurd (omega arith)
absent-one (x ∷ xs) zero h e = ap (λ (y : Length). with_given y (all_given xs)) e
absent-one (x ∷ xs) (suc j) h e = ap (with_given x) (absent-one xs j (omega arith) e) ∙ absent-rest x

-- one more behind them
abbrev behind : Option (List Float) → Float → Option (List Float)
behind none v = none
behind (some xs) v = some (xs ++ v ∷ [])

behind-first : (x : Length) (o : Option (List Float)) (v : Float) → with_given x (behind o v) ≡ behind (with_given x o) v
unfolding with_given
behind-first none o v = refl
behind-first (some x) none v = refl
behind-first (some x) (some xs) v = refl

given-behind : (xs : List Length) (v : Float) → all_given (xs ++ some v ∷ []) ≡ behind (all_given xs) v
unfolding all_given with_given
given-behind [] v = refl
given-behind (x ∷ xs) v = ap (with_given x) (given-behind xs v) ∙ behind-first x (all_given xs) v

pub front-none : all_given [] ≡ some []
unfolding all_given
front-none = refl

module _ (xs : List Length) (l : List Float) (j : ℕ) (e : all_given (take j xs) ≡ some (take j l)) where
  pub front-more : (v : Float) → j < length xs → j < length l → get_or xs j none ≡ some v → all_given (take (j + 1) xs) ≡ some (take (j + 1) (set l j v))
  front-more v a b q =
      let f : take (suc j) xs ≡ take j xs ++ some v ∷ [] = take-suc xs j none a ∙ ap (λ (x : Length). take j xs ++ x ∷ []) q in
      let g : take (suc j) (set l j v) ≡ take j l ++ v ∷ [] =
      take-suc (set l j v) j v (rw (length-set l j v) b) ∙ rw (take-set-le j l j v (omega arith), get_or-set_same l j v v b) in
      rw (add-one j, f, g) (given-behind (take j xs) v ∙ ap (λ (o : Option (List Float)). behind o v) e)

  pub front-all : j ≡ length xs → all_given xs ≡ some (take j l)
  front-all h = ap all_given (sym (ap (λ (n : ℕ). take n xs) h ∙ take-length xs)) ∙ e

module _ (xs : List Length) (l : List Float) (k : ℕ) (r : Bool) (e : all_given xs ≡ if_copied r k l) where
  pub given-not : r ≡ false → all_given xs ≡ none
  unfolding if_copied
  given-not h = e ∙ if-false (some (take k l)) none h

  pub given-front : r ≡ true → (n : ℕ) → n ≡ k → all_given xs ≡ some (take n l)
  unfolding if_copied
  given-front h n q = e ∙ if-true (some (take k l)) none h ∙ ap (λ (m : ℕ). some (take m l)) (sym q)

-- ---- what is read of whole bytes

pub length-good : (s : List ℕ) → whole_at s ≡ true → (i : ℕ) → i < trees_held_at s → (j : ℕ) → good_length (get_or (branches_at s i) j none) ≡ true
length-good s w i h j = every-get_d good_length (branches_at s i) none (unfold good_length in refl) ((whole-at-facts s w).branches i h) j

module _ (s : List ℕ) (i n : ℕ) (l before : List ℕ) (e : n ≡ length (list_at s i)) (q : l ≡ tree_at s i ++ drop (length (list_at s i)) before) where
  pub tree-front : take n l ≡ tree_at s i
  tree-front = ap (take n) q ∙ take_at (tree_at s i) _ n (tree-length s i ∙ sym e)

  pub tree-count : n ≡ length (take n l)
  tree-count = e ∙ sym (tree-length s i) ∙ ap length (sym tree-front)

  pub tree-rises : whole_at s ≡ true → i < trees_held_at s → rising (take n l) ≡ true
  tree-rises w h = ap rising tree-front ∙ ((whole-at-facts s w).lists i h).tree-rising

pub weighted-as : (x : Float) (xs ys : List Float) (av cv bv dv : List ℕ) → x ≡ weighted av xs bv ys → av ≡ cv → bv ≡ dv → x ≡ weighted cv xs dv ys
weighted-as x xs ys av cv bv dv e p q = rw (← p, ← q) e

-- ---- 18, or the distance

-- the same by what the two trees give
module _ {A : Type 0} (f : List Float → List Float → A) where
  abbrev pub of_both : Option (List Float) → Option (List Float) → Answer A
  of_both none o = refused 18
  of_both (some xs) none = refused 18
  of_both (some xs) (some ys) = gives (f xs ys)

  second-of : (xs : List Float) (o : Option (List Float)) → elim o as (λ _. Answer A) [ none ↦ refused 18 | some ys ↦ gives (f xs ys) ] ≡ of_both (some xs) o
  second-of xs none = refl
  second-of xs (some ys) = refl

  pub both_of : (xs ys : List Length) → if_both_given xs ys f ≡ of_both (all_given xs) (all_given ys)
  unfolding if_both_given if_given
  both_of xs ys = go (all_given xs)
    where
      go : (o : Option (List Float)) → elim o as (λ _. Answer A) [ none ↦ refused 18 | some vs ↦ if_given ys (f vs) ] ≡ of_both o (all_given ys)
      go none = refl
      go (some vs) = second-of vs (all_given ys)

module _ (s : List ℕ) (a b : ℕ) where
  abbrev distance : List Float → List Float → Float
  distance xs ys = weighted (tree_at s a) xs (tree_at s b) ys

  module _ (o : Option (List Float)) (p : all_given (branches_at s a) ≡ o) where
    given-first : weighted_kept s a b ≡ of_both distance o (all_given (branches_at s b))
    given-first = both_of distance (branches_at s a) (branches_at s b) ∙ ap (λ (z : Option (List Float)). of_both distance z (all_given (branches_at s b))) p

  pub first_absent : all_given (branches_at s a) ≡ none → weighted_kept s a b ≡ refusing why.NoLength
  unfolding refusal_number
  first_absent e = given-first none e

  module _ (xs : List Float) (p : all_given (branches_at s a) ≡ some xs) where
    pub second-absent : all_given (branches_at s b) ≡ none → weighted_kept s a b ≡ refusing why.NoLength
    unfolding refusal_number
    second-absent e = given-first (some xs) p ∙ ap (of_both distance (some xs)) e

    pub both-given : (ys : List Float) → all_given (branches_at s b) ≡ some ys → weighted_kept s a b ≡ gives (weighted (tree_at s a) xs (tree_at s b) ys)
    both-given ys e = given-first (some xs) p ∙ ap (of_both distance (some xs)) e

-- ---- 1, 13, 18

module _ (s : List ℕ) (w : whole_at s ≡ true) (a b : ℕ) where
  -- what is asked behind both trees, and behind the first
  abbrev kept : Held → Answer Float
  kept h = if_kept h (if_both_given (tree_lengths h a) (tree_lengths h b) (λ xs ys. weighted (tree h a) xs (tree h b) ys))

  abbrev second : Held → Answer Float
  second h = if_tree h b (kept h)

  asked : weighted_asked s a b ≡ if_whole s (λ h. if_tree h a (second h))
  unfolding weighted_of
  asked = refl

  pub weighted-missing : trees_held_at s ≤ a → weighted_asked s a b ≡ refusing why.NoSuchNumber
  weighted-missing h = asked ∙ asked-missing s w second a h

  module _ (h : a < trees_held_at s) where
    pub weighted-other : trees_held_at s ≤ b → weighted_asked s a b ≡ refusing why.NoSuchNumber
    weighted-other k = asked ∙ asked-there s w second a h ∙ tree-missing s b _ k

    module _ (k : b < trees_held_at s) where
      both-there : weighted_asked s a b ≡ kept (held_at s)
      both-there = asked ∙ asked-there s w second a h ∙ tree-there s b _ k

      kept-is : (held_at s).opening.numbers.kept ≡ (numbers_at s).kept
      kept-is = ap (λ (n : Numbers). n.kept) (held-numbers s)

      pub weighted-unkept : (numbers_at s).kept ≡ 0 → weighted_asked s a b ≡ refusing why.NoLength
      unfolding if_kept refusal_number
      weighted-unkept z = both-there ∙ if-true _ _ (eq-eqb (held_at s).opening.numbers.kept 0 (kept-is ∙ z))

      held_kept : if_both_given (tree_lengths (held_at s) a) (tree_lengths (held_at s) b) (λ xs ys. weighted (tree (held_at s) a) xs (tree (held_at s) b) ys) ≡ weighted_kept s a b
      unfolding tree_lengths tree
      held_kept = rw (lengths-at s a, lengths-at s b, tree-at s a h, tree-at s b k)

      pub weighted-found : ((numbers_at s).kept ≡ 0 → ⊥) → weighted_asked s a b ≡ weighted_kept s a b
      unfolding if_kept
      weighted-found z = both-there ∙ if-false _ _ (ne_eqb (held_at s).opening.numbers.kept 0 (λ e. z (sym kept-is ∙ e))) ∙ held_kept
