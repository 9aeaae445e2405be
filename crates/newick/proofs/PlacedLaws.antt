-- The words of the splits' lengths, node by node.
--
--   cleared-placed  of no nodes: nothing is set
--   placing-skip    a node that gives no split
--   placing-has     the split of a node that gives one is in the list
--   placing-ready   what stands at its place is unset, or a length that was read
--   placing-put     and what is put there
--   Searching, searching-all, searching-low, searching-high, searching-done     looking for a split in a rising list
--   cleared_more, cleared-all     the places, unset
--   placing-done    behind all nodes
use Rattle.std.proofs.Common.{◌≡◌, ℕ, zero, suc, ◌+◌, ◌*◌, ◌<◌, ◌≤◌, Bool, true, false, not, eqb, ltb, ◌⊎◌, List, [], ◌∷◌, ◌++◌, map, length, get_or, drop, set, replicate, sym, refl, ap, ◌∙◌, subst, ap₂, inl, inr, ⊎_elim, true≢false, arith, length-append, ltb-false, ltb-true, eq-eqb, ne_eqb}
use lib.ListN.{length-replicate}
use lib.Seq.{sets, sets-eq}
use borrow.Author.Tests.{not-true, not-false}
use Rattle.std.specs.Prelude.{if◌then◌else◌}
use Rattle.trees.specs.Mask.{side, proper}
use Rattle.trees.specs.Lengths.{value_of}
use Rattle.theorems.specs.ListLaws.{by-test, if-true, if-false, less-or-not, equal_or_not, Mem, mem-get_d, mem-cases}
use Rattle.theorems.specs.RisingLaws.{Rising}
use Rattle.records.specs.Records.{wide, masks_of}
use Rattle.records.specs.RecordLaws.{masks-length, masks-at}
use Rattle.newick.specs.Chains.{span_mask}
use Rattle.newick.specs.Placing.{ReadWord, unset, with_word, words_at, slot_word, placed_words, Placeable}
use Rattle.newick.proofs.ShapeLaws.{sets-append}
use Rattle.newick.proofs.WordLaws.{value_read, word_set, with-one-more}

-- ---- rising lists

rising-less : (l : List ℕ) → Rising l → (p q : ℕ) → p < q → q < length l → get_or l p 0 < get_or l q 0
rising-less [] r p q h g = absurd (omega arith)
rising-less (x ∷ l) r zero zero h g = absurd (omega arith)
rising-less (x ∷ l) r zero (suc q) h g = r.0 (get_or l q 0) (mem-get_d l q (omega arith))
rising-less (x ∷ l) r (suc p) zero h g = absurd (omega arith)
rising-less (x ∷ l) r (suc p) (suc q) h g = rising-less l r.1 p q (omega arith) (omega arith)

-- m stands at p, which lies from a up to b: so it does where one half is left out
module _ (l : List ℕ) (r : Rising l) (m p q : ℕ) (e : get_or l p 0 ≡ m) (h : p < length l) (g : q < length l) where
  found-low : get_or l q 0 < m → q < p
  found-low f = ⊎_elim (λ k. k) (λ k. absurd (go (equal_or_not p q) k)) (less-or-not q p)
    where
      go : (p ≡ q) ⊎ (p ≡ q → ⊥) → p ≤ q → ⊥
      go (inl z) k = omega (arith, ap (λ (x : ℕ). get_or l x 0) z)
      go (inr z) k = omega (arith, rising-less l r p q (omega arith) g)

  found-high : m ≤ get_or l q 0 → p ≤ q
  found-high f = ⊎_elim (λ k. absurd (omega (arith, rising-less l r q p k h))) (λ k. k) (less-or-not q p)

mem-place : (l : List ℕ) (m : ℕ) → Mem m l → (p : ℕ) × (p < length l) × (get_or l p 0 ≡ m)
mem-place [] m x' = elim x' [ ]
mem-place (x ∷ l) m (inl e) = (0, omega arith, sym e)
mem-place (x ∷ l) m (inr k) = let r = mem-place l m k in (suc r.0, omega (arith, r.1), r.2)

-- ---- one of the words is changed

module _ (f g : ℕ → ℕ) (rest : List ℕ) where
  words-get : (ms : List ℕ) (p : ℕ) → p < length ms → get_or (map f ms ++ rest) p 0 ≡ f (get_or ms p 0)
  words-get [] p h = absurd (omega arith)
  words-get (m ∷ ms) zero h = refl
  words-get (m ∷ ms) (suc p) h = words-get ms p (omega arith)

  words_same : (ms : List ℕ) → ((m : ℕ) → Mem m ms → f m ≡ g m) → map f ms ≡ map g ms
  words_same [] h = refl
  words_same (m ∷ ms) h = ap₂ (λ (x : ℕ) (xs : List ℕ). x ∷ xs) (h m (inl refl)) (words_same ms (λ y k. h y (inr k)))

  words-set : (ms : List ℕ) → Rising ms → (p : ℕ) → p < length ms → ((m : ℕ) → Mem m ms → (m ≡ get_or ms p 0 → ⊥) → f m ≡ g m) → set (map f ms ++ rest) p (g (get_or ms p 0)) ≡ map g ms ++ rest
  words-set [] r p h s = absurd (omega arith)
  words-set (m ∷ ms) r zero h s = ap (λ (l : List ℕ). g m ∷ (l ++ rest)) (words_same ms (λ y k. s y (inr k) (λ e. omega (arith, r.0 y k))))
  words-set (m ∷ ms) r (suc p) h s =
      ap₂ (λ (x : ℕ) (xs : List ℕ). x ∷ xs) (s m (inl refl) (λ e. omega (arith, r.0 (get_or ms p 0) (mem-get_d ms p (omega arith)))))
      (words-set ms r.1 p (omega arith) (λ y k. s y (inr k)))

-- ---- the nodes

module _ (n : ℕ) (s l v : List ℕ) where
  abbrev at : ℕ → ℕ → List ℕ
  at m j = words_at n s l v m j

  words-hit : (m j : ℕ) → side n (span_mask s l j) ≡ m → at m (suc j) ≡ at m j ++ (get_or v j 0 ∷ [])
  unfolding words_at
  words-hit m j e = if-true _ _ (eq-eqb (side n (span_mask s l j)) m e)

  words-miss : (m j : ℕ) → (side n (span_mask s l j) ≡ m → ⊥) → at m (suc j) ≡ at m j
  unfolding words_at
  words-miss m j f = if-false _ _ (ne_eqb (side n (span_mask s l j)) m f)

  words_step : (m j : ℕ) → length (at m j) ≤ length (at m (suc j))
  unfolding words_at
  words_step m j = by-test (λ (y : List ℕ). length (at m j) ≤ length y) (eqb (side n (span_mask s l j)) m) (λ _. omega (arith, length-append (at m j) (get_or v j 0 ∷ []))) (λ _. omega arith)

  words-grow : (m i j : ℕ) → i ≤ j → length (at m i) ≤ length (at m j)
  words-grow m i zero h = let e : i ≡ 0 = omega arith in rw e (omega arith)
  words-grow m i (suc j) h = ⊎_elim (λ (k : i < suc j). omega (arith, words-grow m i j (omega arith), words_step m j)) (λ (k : suc j ≤ i). let e : i ≡ suc j = omega arith in rw e (omega arith)) (less-or-not i (suc j))

  words-read : (m j : ℕ) → ((i : ℕ) → i < j → ReadWord (get_or v i 0)) → (x : ℕ) → Mem x (at m j) → ReadWord x
  unfolding words_at
  words-read m zero f x k = absurd k
  words-read m (suc j) f x k = go (eqb (side n (span_mask s l j)) m) k (words-read m j (λ i h. f i (omega arith)) x)
    where
      go : (b : Bool) → Mem x (if b then at m j ++ (get_or v j 0 ∷ []) else at m j) → (Mem x (at m j) → ReadWord x) → ReadWord x
      go true q g = ⊎_elim (λ z. g z) (λ z. ⊎_elim (λ e. subst ReadWord (sym e) (f j (omega arith))) (λ y. absurd y) z) (mem-cases x (at m j) (get_or v j 0 ∷ []) q)
      go false q g = g q

  module _ (ms : List ℕ) where
    placed-none : placed_words n s l v ms 0 ≡ replicate (length ms) unset
    unfolding words_at slot_word
    placed-none = go ms
      where
        go : (ks : List ℕ) → map (λ m. slot_word (at m 0)) ks ≡ replicate (length ks) unset
        go [] = refl
        go (m ∷ ks) = ap (λ (y : List ℕ). unset ∷ y) (go ks)

    module _ (j : ℕ) (p : Placeable n s l v ms j) (i : ℕ) (h : i < j) where
      abbrev here : ℕ
      here = side n (span_mask s l i)

      abbrev word : ℕ → ℕ
      word m = slot_word (at m i)

      abbrev next : ℕ → ℕ
      next m = slot_word (at m (suc i))

      same : (m : ℕ) → (m ≡ here → ⊥) → word m ≡ next m
      same m f = sym (ap slot_word (words-miss m i (λ e. f (sym e))))

      placed-other : (b : Bool) → b ≡ proper n here → b ≡ false → placed_words n s l v ms i ≡ placed_words n s l v ms (suc i)
      placed-other b e f = words_same word next [] ms (λ m k. same m (λ z. true≢false (sym (p.counts m k) ∙ ap (proper n) z ∙ sym e ∙ f)))

      -- the split stands at q
      module _ (q : ℕ) (a : q < length ms) (e : get_or ms q 0 ≡ here) (rest : List ℕ) where
        abbrev stands : ℕ
        stands = get_or (placed_words n s l v ms i ++ rest) q 0

        stands-is : stands ≡ word here
        stands-is = words-get word next rest ms q a ∙ ap word e

        longer : length (at here i ++ (get_or v i 0 ∷ [])) ≤ 2
        longer = omega (arith, ap length (words-hit here i refl), words-grow here (suc i) j h, p.twice here)

        first_read : (x : ℕ) → at here i ≡ x ∷ [] → ReadWord x
        first_read x z = words-read here i (λ k g. p.words k (omega arith)) x (subst (Mem x) (sym z) (inl refl))

        placed-ready : ((stands ≡ unset) ⊎ ReadWord stands) × ReadWord (get_or v i 0)
        unfolding slot_word
        placed-ready = (subst (λ (y : ℕ). (y ≡ unset) ⊎ ReadWord y) (sym stands-is) (go (at here i) refl longer), p.words i h)
          where
            go : (xs : List ℕ) → at here i ≡ xs → length (xs ++ (get_or v i 0 ∷ [])) ≤ 2 → (slot_word xs ≡ unset) ⊎ ReadWord (slot_word xs)
            go [] z g = inl refl
            go (x ∷ []) z g = inr (first_read x z)
            go (x ∷ y ∷ xs) z g = absurd (omega (arith, length-append xs (get_or v i 0 ∷ [])))

        more : with_word stands (get_or v i 0) ≡ next (get_or ms q 0)
        more =
            ap (λ (y : ℕ). with_word y (get_or v i 0)) stands-is
            ∙ with-one-more (at here i) (get_or v i 0) longer (λ x z u. let r = first_read x z in word_set (value_of r.0) (value_read r.0) (sym r.1 ∙ u))
            ∙ sym (ap slot_word (words-hit here i refl))
            ∙ ap next (sym e)

        placed-more : set (placed_words n s l v ms i ++ rest) q (with_word stands (get_or v i 0)) ≡ placed_words n s l v ms (suc i) ++ rest
        placed-more =
            ap (set (placed_words n s l v ms i ++ rest) q) more
            ∙ words-set word next rest ms p.rises q a (λ m k f. same m (λ z. f (z ∙ sym e)))

-- ---- as the code goes through the nodes

placing-start : (n : ℕ) (s l v r : List ℕ) (k : ℕ) → replicate k unset ≡ placed_words n s l v (masks_of k r) 0
placing-start n s l v r k = sym (placed-none n s l v (masks_of k r) ∙ ap (λ (j : ℕ). replicate j unset) (masks-length k r))

-- node i has the side m
module _ (n : ℕ) (s l v ms : List ℕ) (j : ℕ) (p : Placeable n s l v ms j) (i : ℕ) (h : i < j) (m : ℕ) (e : m ≡ side n (span_mask s l i)) (out rest : List ℕ) (o : out ≡ placed_words n s l v ms i ++ rest) where
  step : suc i ≡ i + 1
  step = omega arith

  module _ (b : Bool) (f : b ≡ proper n m) where
    tested : b ≡ proper n (side n (span_mask s l i))
    tested = f ∙ ap (proper n) e

    pub placing-skip : not b ≡ true → out ≡ placed_words n s l v ms (i + 1) ++ rest
    placing-skip z = o ∙ ap (λ (y : List ℕ). y ++ rest) (placed-other n s l v ms j p i h b tested (not-true b z) ∙ ap (placed_words n s l v ms) step)

    pub placing-has : not b ≡ false → Mem m ms
    placing-has z = subst (λ (y : ℕ). Mem y ms) (sym e) (p.has i h (sym tested ∙ not-false b z))

  -- and stands at q
  module _ (q : ℕ) (a : q < length ms) (d : get_or ms q 0 ≡ m) where
    pub placing-ready : ((get_or out q 0 ≡ unset) ⊎ ReadWord (get_or out q 0)) × ReadWord (get_or v i 0)
    placing-ready = rw o (placed-ready n s l v ms j p i h q a (d ∙ e) rest)

    pub placing-put : (y : ℕ) → y ≡ with_word (get_or out q 0) (get_or v i 0) → set out q y ≡ placed_words n s l v ms (i + 1) ++ rest
    placing-put y z =
        ap₂ (λ (x : List ℕ) (w : ℕ). set x q w) o (z ∙ ap (λ (x : List ℕ). with_word (get_or x q 0) (get_or v i 0)) o)
        ∙ placed-more n s l v ms j p i h q a (d ∙ e) rest
        ∙ ap (λ (x : ℕ). placed_words n s l v ms x ++ rest) step

-- ---- looking for a split

pub record Searching (s : List ℕ) (k m low high : ℕ) : Type 0 where
  pub ordered : low ≤ high
  pub within : high ≤ k
  pub between : (p : ℕ) → p < k → get_or (masks_of k s) p 0 ≡ m → (low ≤ p) × (p ≤ high)

pub searching-all : (s : List ℕ) (k m : ℕ) → Searching s k m 0 k
searching-all s k m = record { ordered = omega arith; within = omega arith; between = λ p h e. (omega arith, omega arith) }

module _ (s : List ℕ) (k m low high : ℕ) (w : Searching s k m low high) (r : Rising (masks_of k s)) where
  module _ (q : ℕ) (a : low ≤ q) (b : q < high) (x : ℕ) (e : x ≡ get_or s (wide * q) 0) (t : Bool) (f : t ≡ ltb x m) where
    in_list : q < length (masks_of k s)
    in_list = omega (arith, masks-length k s, w.within)

    mask-there : get_or (masks_of k s) q 0 ≡ x
    mask-there = masks-at k s q (omega (arith, w.within)) ∙ sym e

    pub searching-low : t ≡ true → Searching s k m (q + 1) high
    searching-low z = record {
      ordered = omega arith;
      within = w.within;
      between = λ p h d. (omega (arith, found-low (masks_of k s) r m p q d (omega (arith, masks-length k s)) in_list (omega (arith, mask-there, ltb-true x m (sym f ∙ z)))), (w.between p h d).1);
    }

    pub searching-high : t ≡ false → Searching s k m low q
    searching-high z = record {
      ordered = a;
      within = omega (arith, w.within);
      between = λ p h d. ((w.between p h d).0, found-high (masks_of k s) r m p q d (omega (arith, masks-length k s)) in_list (omega (arith, mask-there, ltb-false x m (sym f ∙ z))));
    }

  pub searching-done : Mem m (masks_of k s) → high ≤ low → (low < k) × (get_or (masks_of k s) low 0 ≡ m)
  searching-done h g =
      let p = mem-place (masks_of k s) m h in
      let i : p.0 < k = omega (arith, p.1, masks-length k s) in
      let b = w.between p.0 i p.2 in
      let e : p.0 ≡ low = omega (arith, b.0, b.1, w.ordered) in
      (omega arith, ap (λ (y : ℕ). get_or (masks_of k s) y 0) (sym e) ∙ p.2)

-- ---- clearing the places

replicate_more : (i x : ℕ) → replicate i x ++ (x ∷ []) ≡ replicate (suc i) x
replicate_more zero x = refl
replicate_more (suc i) x = ap (λ (l : List ℕ). x ∷ l) (replicate_more i x)

pub cleared_more : (l : List ℕ) (i x : ℕ) → set (sets l 0 (replicate i x)) i x ≡ sets l 0 (replicate (i + 1) x)
cleared_more l i x =
    let e : i ≡ 0 + length (replicate i x) = omega (arith, length-replicate i x) in
    let f : suc i ≡ i + 1 = omega arith in
    ap (λ (j : ℕ). set (sets l 0 (replicate i x)) j x) e
    ∙ sym (sets-append (replicate i x) l 0 (x ∷ []))
    ∙ ap (sets l 0) (replicate_more i x ∙ ap (λ (j : ℕ). replicate j x) f)

pub cleared-all : (l : List ℕ) (k x : ℕ) → k ≤ length l → sets l 0 (replicate k x) ≡ replicate k x ++ drop k l
cleared-all l k x h =
    let e : 0 + length (replicate k x) ≡ k = omega (arith, length-replicate k x) in
    sets-eq (replicate k x) l 0 (omega arith) ∙ ap (λ (j : ℕ). replicate k x ++ drop j l) e

drop-replicate : (k x : ℕ) (l : List ℕ) → drop k (replicate k x ++ l) ≡ l
drop-replicate zero x l = refl
drop-replicate (suc k) x l = drop-replicate k x l

cleared-behind : (l t : List ℕ) (k x : ℕ) → t ≡ replicate k x ++ drop k l → drop k t ≡ drop k l
cleared-behind l t k x e = ap (drop k) e ∙ drop-replicate k x (drop k l)

pub cleared-placed : (n : ℕ) (s l v r : List ℕ) (k : ℕ) (out t : List ℕ) → t ≡ replicate k unset ++ drop k out → t ≡ placed_words n s l v (masks_of k r) 0 ++ drop k t
cleared-placed n s l v r k out t e = e ∙ ap₂ (λ (a b : List ℕ). a ++ b) (placing-start n s l v r k) (sym (cleared-behind out t k unset e))

-- all nodes, over places that were cleared first
pub placing-done : (n : ℕ) (s l v ms : List ℕ) (i j k : ℕ) (out mid first : List ℕ) → i ≡ j → mid ≡ replicate k unset ++ drop k first → out ≡ placed_words n s l v ms i ++ drop k mid
    → out ≡ placed_words n s l v ms j ++ drop k first
placing-done n s l v ms i j k out mid first e c o = o ∙ ap₂ (λ (x : ℕ) (y : List ℕ). placed_words n s l v ms x ++ y) e (cleared-behind first mid k unset c)
