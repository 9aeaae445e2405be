-- Laws of the verdict on a text, whether lengths are kept or not. Assumes nothing.
--
--   without-lengths, with-lengths     what the reader answers where they are not, and where they are
--   judged-refused, judged-gives      what is known of either answer
--   splits_of_lem, lengths-of     what accepting the tree asks
--   tree-given         the tree that is accepted is the one of the verdict
use Rattle.std.specs.Prelude.{ℕ, ◌+◌, ◌*◌, ◌≤◌, ◌<◌, ◌≡◌, refl, true, get_or, take, drop, if◌then◌else◌, Result, Ok, Err}
use Rattle.std.proofs.Common.{add-zero, arith, sym, ap₂, ◌∙◌, length-append, eqb-true, ne_eqb}
use Rattle.std.proofs.Math.Path.{ap, subst}
use mathlib.Core.List.{List, [], ◌∷◌, map}
use Rattle.std.proofs.Math.Option.{Option, none, some}
use Rattle.std.proofs.Math.Dec.{eqb}
use Rattle.std.specs.Float.{binary64}
use Rattle.std.specs.Float.Ieee.{of_bits, to_bits}
use Rattle.std.specs.Float.Ieee.Bits.{of_bits-to_bits}
use Rattle.std.specs.Float.Ieee.Fits.{add-fits}
use Rattle.std.proofs.Math.ListN.{length}
use Rattle.std.proofs.lemmas.List.{length-map}
use Rattle.std.proofs.Math.Seq.{take-append_seam}
use Rattle.trees.specs.Plain.{every, refused, gives}
use Rattle.trees.specs.Mask.{side}
use Rattle.trees.specs.Tree.{Nodes, children}
use Rattle.trees.specs.Opening.{Opening}
use Rattle.trees.specs.Splits.{splits_of}
use Rattle.trees.specs.Value.{Length, length_of}
use Rattle.trees.specs.Lengths.{edges, value_of, lengths_at, together, summed, lengths_of}
use Rattle.trees.specs.Verdict.{judged, Branches, judged_with}
use Rattle.trees.specs.Whole.{good_length, good_branches}
use Rattle.theorems.specs.ListLaws.{by-test, if-false, and_left, and_right}
use Rattle.theorems.specs.EdgeLengthLaws.{Edge}
use Rattle.theorems.specs.ValueLaws.{length-fits}
use Rattle.theorems.specs.ProperDoubleLaws.{no_ones}
use Rattle.theorems.specs.FaultLaws.{judged-accepts}
use Rattle.theorems.specs.FewLaws.{few-splits}
use Rattle.theorems.specs.LengthVerdictLaws.{with-accepts, with-good}
use Rattle.theorems.specs.NotKeptLaws.{as_before, judged-not-kept}
use Rattle.answers.specs.declared.Refusal.{Refusal}
use Rattle.answers.specs.Answers.{refusal_number}
use Rattle.doubles.specs.Stored.{all_ones}
use Rattle.doubles.specs.StoredLaws.{Fits}
use Rattle.records.specs.Records.{wide, record_of, records_of, with_records, masks_of}
use Rattle.records.specs.RecordLaws.{records-length, record-at, masks-records}
use Rattle.head.specs.Head.{numbers_at, first_at, second_at, opening_at}
use Rattle.layout.specs.Store.{branches_of, most_splits}
use Rattle.layout.specs.WholeStore.{whole_at}
use Rattle.store.specs.HeldWholeLaws.{opening-facts}
use Rattle.newick.specs.Words.{word_of, with_words}
use Rattle.newick.specs.Judge.{JudgedAs, JudgedWith}
use Rattle.recording.specs.Recording.{SplitsOf, length_of_word, lengths_given, LengthsOf, tree_given}
use Rattle.feeding.specs.Judging.{JudgedIn}

-- ---- the reader's answer

module _ (o : Opening) (s : List ℕ) (u v t : List ℕ) where
  pub without-lengths : (r : Result ℕ Refusal) → o.numbers.kept ≡ 0 → JudgedAs o s r u t → JudgedIn o s r u v t v
  unfolding JudgedIn JudgedAs as_before
  without-lengths (Err r) z h = (rw z (judged-not-kept o.names s ∙ ap as_before h.0), h.1, refl)
  without-lengths (Ok k) z h = (record { splits = h.0; lengths = [] }, rw z (judged-not-kept o.names s ∙ ap as_before h.1), h.2, h.3, refl)

  pub with-lengths : (r : Result ℕ Refusal) (w : List ℕ) → o.numbers.kept ≡ 1 → JudgedWith o s r u v t w → JudgedIn o s r u v t w
  unfolding JudgedIn JudgedWith
  with-lengths (Err r) w z h = (rw z h.0, h.1, h.2)
  with-lengths (Ok k) w z h = (h.0, rw z h.1, h.2, h.3, h.4)

module _ (o : Opening) (s : List ℕ) (r : Result ℕ Refusal) (u v t w : List ℕ) (h : JudgedIn o s r u v t w) where
  pub judged-refused : (q : Refusal) → r ≡ Err q → judged_with o.numbers.kept o.names s ≡ refused (refusal_number q)
  unfolding JudgedIn
  judged-refused q e = (subst (λ (z : Result ℕ Refusal). JudgedIn o s z u v t w) e h).0

  pub judged-gives : (k : ℕ) → r ≡ Ok k
      → (b : Branches) × (judged_with o.numbers.kept o.names s ≡ gives b) × (k ≡ length b.splits) × (t ≡ with_records o b.splits u) × (w ≡ with_words b.lengths v)
  unfolding JudgedIn
  judged-gives k e = subst (λ (z : Result ℕ Refusal). JudgedIn o s z u v t w) e h

-- ---- the lengths of a tree are doubles

abbrev AllFit : List Length → Type 0
AllFit [] = Unit {0}
AllFit (x ∷ xs) = Fits x × AllFit xs

value-fits : (e : Option (List ℕ)) → Fits (value_of e)
unfolding Fits
value-fits none = tt
value-fits (some w) = go (length_of w) refl
  where
    go : (x : Length) → length_of w ≡ x → Fits x
    go none e = tt
    go (some x) e = length-fits w x e

at-fit : (n m : ℕ) (es : List Edge) → AllFit (lengths_at n m es)
unfolding lengths_at
at-fit n m [] = tt
at-fit n m (e ∷ es) = by-test AllFit (eqb (side n e.0) m) (λ _. (value-fits e.1, at-fit n m es)) (λ _. at-fit n m es)

together-fits : (x y : Length) → Fits (together x y)
unfolding Fits together
together-fits none y = tt
together-fits (some x) none = tt
together-fits (some x) (some y) = add-fits binary64 x y

summed-fits : (xs : List Length) → AllFit xs → Fits (summed xs)
unfolding summed
summed-fits [] f = unfold Fits in tt
summed-fits (x ∷ []) f = f.0
summed-fits (x ∷ y ∷ xs) f = together-fits x y

map-fit : (g : ℕ → Length) → ((m : ℕ) → Fits (g m)) → (l : List ℕ) → AllFit (map g l)
map-fit g h [] = tt
map-fit g h (m ∷ l) = (h m, map-fit g h l)

lengths-fit : (ns : List (List ℕ)) (t : Nodes) → AllFit (lengths_of ns t)
unfolding lengths_of
lengths-fit ns t = map-fit _ (λ m. summed-fits (lengths_at (length ns) m (edges ns (children t))) (at-fit (length ns) m (edges ns (children t)))) (splits_of ns t)

-- ---- a word stands for its length

word_back : (x : Length) → good_length x ≡ true → Fits x → length_of_word (word_of x) ≡ x
unfolding length_of_word word_of good_length Fits
word_back none g f = refl
word_back (some x) g f = if-false none (some (of_bits binary64 (to_bits binary64 x))) (ne_eqb (to_bits binary64 x) all_ones (no_ones x f g)) ∙ ap some (of_bits-to_bits binary64 x f)

words_back : (xs : List Length) → every good_length xs ≡ true → AllFit xs → map length_of_word (map word_of xs) ≡ xs
unfolding every
words_back [] g f = refl
words_back (x ∷ xs) g f = ap₂ (λ (y : Length) (ys : List Length). y ∷ ys) (word_back x (and_left (good_length x) _ g) f.0) (words_back xs (and_right (good_length x) _ g) f.1)

-- ---- the records and the words at the fronts of two lists

module _ (s u text : List ℕ) (b : Branches) (k : ℕ) (old new v w : List ℕ) (whole : whole_at s ≡ true) (o : opening_at u ≡ opening_at s)
    (q : judged_with (opening_at s).numbers.kept (opening_at s).names text ≡ gives b) (e : k ≡ length b.splits)
    (t : new ≡ with_records (opening_at s) b.splits old) (y : w ≡ with_words b.lengths v) where
  abbrev x : List ℕ
  x = b.splits

  abbrev ns : List (List ℕ)
  ns = (opening_at s).names

  abbrev kept : ℕ
  kept = (opening_at s).numbers.kept

  -- its splits are those of the verdict without lengths
  splits-judged : judged ns text ≡ gives x
  splits-judged =
      let r = (with-accepts kept ns text b).0 q in
      (judged-accepts ns text (splits_of ns r.0)).1 (r.0, r.1, r.2, refl) ∙ ap (λ (c : Branches). gives c.splits) (sym r.4)

  named : length ns ≡ (opening_at s).numbers.taxa
  named = (opening-facts s whole).named.count

  few : length x ≤ most_splits
  few = let g = (opening-facts s whole).ranges in omega (arith, few-splits ns text x (omega (arith, named, g.least-taxa)) splits-judged, named, g.most-taxa)

  numbers-in : numbers_at u ≡ (opening_at s).numbers
  unfolding opening_at
  numbers-in = ap (λ (z : Opening). z.numbers) o

  first-in : first_at u ≡ (opening_at s).first
  unfolding opening_at
  first-in = ap (λ (z : Opening). z.first) o

  second-in : second_at u ≡ (opening_at s).second
  unfolding opening_at
  second-in = ap (λ (z : Opening). z.second) o

  word_in : (j i : ℕ) → j < k → i < wide → get_or new (wide * j + i) 0 ≡ get_or (record_of (opening_at s) (get_or x j 0)) i 0
  word_in j i h d = rw t (record-at (opening_at s) x (drop (wide * length x) old) j i (omega arith) d)

  mask-in : (j : ℕ) → j < k → get_or new (wide * j) 0 ≡ get_or x j 0
  mask-in j h = ap (λ (n : ℕ). get_or new n 0) (sym (add-zero (wide * j))) ∙ word_in j 0 h (omega arith)

  masks-are : masks_of k new ≡ x
  masks-are = rw (e, t) (masks-records (opening_at s) x (drop (wide * length x) old))

  pub splits_of_lem : SplitsOf u k new
  splits_of_lem = record {
    few = omega (arith, few, e);
    reach = rw t (omega (arith, e, records-length (opening_at s) x, length-append (records_of (opening_at s) x) (drop (wide * length x) old)));
    good = rw (numbers-in, masks-are, ← named) (with-good kept ns text b q).0;
    placed = λ j h. rw (first-in, numbers-in, mask-in j h) (word_in j 1 h (omega arith));
    identified = λ j h. rw (second-in, mask-in j h) (word_in j 2 h (omega arith));
  }

  lengths-all-good : every good_length b.lengths ≡ true
  unfolding good_branches
  lengths-all-good = and_right (eqb (length b.lengths) (if eqb kept 0 then 0 else length x)) _ (with-good kept ns text b q).1

  -- one for each split, or none
  as_many : branches_of (numbers_at u) k ≡ length b.lengths
  unfolding good_branches branches_of
  as_many = rw (numbers-in, e) (sym (eqb-true _ _ (and_left (eqb (length b.lengths) (if eqb kept 0 then 0 else length x)) _ (with-good kept ns text b q).1)))

  all_fit : AllFit b.lengths
  all_fit =
      let r = (with-accepts kept ns text b).0 q in
      subst AllFit (sym (ap (λ (c : Branches). c.lengths) r.4)) (by-test AllFit (eqb kept 0) (λ _. tt) (λ _. lengths-fit ns r.0))

  -- the words stand for its lengths
  lengths-back : lengths_given u k w ≡ b.lengths
  lengths-back =
      let n : branches_of (numbers_at u) k ≡ length (map word_of b.lengths) = as_many ∙ sym (length-map b.lengths word_of) in
      ap₂ (λ (i : ℕ) (z : List ℕ). map length_of_word (take i z)) n y
      ∙ ap (map length_of_word) (take-append_seam (map word_of b.lengths) (drop (length b.lengths) v))
      ∙ words_back b.lengths lengths-all-good all_fit

  pub lengths-of : LengthsOf u k w
  lengths-of = record {
    reach = rw y (omega (arith, as_many, length-map b.lengths word_of, length-append (map word_of b.lengths) (drop (length b.lengths) v)));
    good = rw lengths-back lengths-all-good;
  }

  pub tree-given : tree_given u k new w ≡ b
  tree-given = ap₂ (λ (m : List ℕ) (l : List Length). record { splits = m; lengths = l }) masks-are lengths-back
