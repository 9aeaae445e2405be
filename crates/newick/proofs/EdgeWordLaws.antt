-- The words of the lengths of a tree's inner nodes, split by split, are those of the splits' lengths.
use Rattle.std.proofs.Common.{◌≡◌, ℕ, zero, suc, ◌<◌, ◌≤◌, Bool, true, false, eqb, List, [], ◌∷◌, ◌++◌, map, length, get_or, take, sym, refl, ap, ◌∙◌, subst, ap₂, inl, inr, append-nil, arith, length-append, take-suc, eq-eqb, eqb-true}
use mathlib.Core.List.{map-append}
use mathlib.Core.Option.{Option}
use Rattle.std.specs.Prelude.{if◌then◌else◌}
use Rattle.trees.specs.Mask.{side, proper}
use Rattle.trees.specs.Tree.{Nodes, nil, leaf, inner, children}
use Rattle.trees.specs.Splits.{taxon, taxa, clusters, splits_of}
use Rattle.trees.specs.Value.{Length}
use Rattle.trees.specs.Lengths.{edges, value_of, lengths_at, summed, lengths_of}
use Rattle.theorems.specs.ListLaws.{by-test, Mem}
use Rattle.theorems.specs.EdgeLengthLaws.{Edge, cluster, edges-clusters}
use Rattle.theorems.specs.SplitLaws.{counted-mem}
use Rattle.theorems.specs.FewLaws.{leaf-never}
use Rattle.newick.specs.Running.{span_masks}
use Rattle.newick.specs.Chains.{span_mask}
use Rattle.newick.specs.Words.{word_of}
use Rattle.newick.specs.Placing.{words_at, slot_word}
use Rattle.newick.proofs.SymbolLaws.{inner_lengths, words_of}
use Rattle.newick.specs.Splits.{inners}
use Rattle.newick.proofs.WordLaws.{AllRead, value_read, slot-summed}

-- ---- the words of the nodes with the masks cs whose side is m

unfoldable words_in : ℕ → ℕ → List ℕ → List ℕ → List ℕ
unfolding side
words_in n m [] xs = []
words_in n m (c ∷ cs) [] = []
words_in n m (c ∷ cs) (x ∷ xs) = if eqb (side n c) m then x ∷ words_in n m cs xs else words_in n m cs xs

module _ (n m : ℕ) where
  words_append : (cs ds xs ys : List ℕ) → length cs ≡ length xs → words_in n m (cs ++ ds) (xs ++ ys) ≡ words_in n m cs xs ++ words_in n m ds ys
  unfolding words_in
  words_append [] ds [] ys e = refl
  words_append [] ds (x ∷ xs) ys e = absurd (omega arith)
  words_append (c ∷ cs) ds [] ys e = absurd (omega arith)
  words_append (c ∷ cs) ds (x ∷ xs) ys e = go (eqb (side n c) m) (words_append cs ds xs ys (omega arith))
    where
      go : (b : Bool) → words_in n m (cs ++ ds) (xs ++ ys) ≡ words_in n m cs xs ++ words_in n m ds ys
          → (if b then x ∷ words_in n m (cs ++ ds) (xs ++ ys) else words_in n m (cs ++ ds) (xs ++ ys)) ≡ (if b then x ∷ words_in n m cs xs else words_in n m cs xs) ++ words_in n m ds ys
      go true q = ap (λ (l : List ℕ). x ∷ l) q
      go false q = q

  lengths-append : (a b : List Edge) → lengths_at n m (a ++ b) ≡ lengths_at n m a ++ lengths_at n m b
  unfolding lengths_at
  lengths-append [] b = refl
  lengths-append (e ∷ a) b = go (eqb (side n e.0) m) (lengths-append a b)
    where
      go : (t : Bool) → lengths_at n m (a ++ b) ≡ lengths_at n m a ++ lengths_at n m b
          → (if t then value_of e.1 ∷ lengths_at n m (a ++ b) else lengths_at n m (a ++ b)) ≡ (if t then value_of e.1 ∷ lengths_at n m a else lengths_at n m a) ++ lengths_at n m b
      go true q = ap (λ (l : List Length). value_of e.1 ∷ l) q
      go false q = q

  -- as the code goes through them, one behind the other
  span-size : (s l : List ℕ) (j : ℕ) → length (span_masks s l j) ≡ j
  unfolding span_masks
  span-size s l zero = refl
  span-size s l (suc j) = omega (arith, length-append (span_masks s l j) (span_mask s l j ∷ []), span-size s l j)

  words-in : (s l v : List ℕ) (j : ℕ) → j ≤ length v → words_at n s l v m j ≡ words_in n m (span_masks s l j) (take j v)
  unfolding words_at span_masks words_in
  words-in s l v zero h = refl
  words-in s l v (suc j) h =
      go (eqb (side n (span_mask s l j)) m) (words-in s l v j (omega arith))
      ∙ sym (words_append (span_masks s l j) (span_mask s l j ∷ []) (take j v) (get_or v j 0 ∷ []) (omega (arith, span-size s l j, size j v (omega arith))))
      ∙ ap (words_in n m (span_masks s l j ++ (span_mask s l j ∷ []))) (sym (take-suc v j 0 (omega arith)))
    where
      size : (j : ℕ) (v : List ℕ) → j ≤ length v → length (take j v) ≡ j
      size zero v h = refl
      size (suc j) [] h = absurd (omega arith)
      size (suc j) (x ∷ v) h = ap suc (size j v (omega arith))

      go : (b : Bool) → words_at n s l v m j ≡ words_in n m (span_masks s l j) (take j v)
          → (if b then words_at n s l v m j ++ (get_or v j 0 ∷ []) else words_at n s l v m j) ≡ words_in n m (span_masks s l j) (take j v) ++ (if b then get_or v j 0 ∷ [] else [])
      go true e = ap (λ (y : List ℕ). y ++ (get_or v j 0 ∷ [])) e
      go false e = e ∙ sym (append-nil (words_in n m (span_masks s l j) (take j v)))

-- ---- inner nodes are enough: a leaf's edge gives no split

module _ (ns : List (List ℕ)) where
  pub inners-size : (t : Nodes) → length (inners ns t) ≡ length (words_of (inner_lengths t))
  unfolding inners inner_lengths
  inners-size nil = refl
  inners-size (leaf w e r) = inners-size r
  inners-size (inner c e r) =
      omega (
        arith,
        length-append (inners ns c) (taxa ns c ∷ inners ns r),
        inners-size c,
        inners-size r,
        ap length (map-append (λ x. word_of (value_of x)) (inner_lengths c) (e ∷ inner_lengths r)),
        length-append (words_of (inner_lengths c)) (word_of (value_of e) ∷ words_of (inner_lengths r)),
      )

  module _ (m : ℕ) (counts : proper (length ns) m ≡ true) where
    abbrev n : ℕ
    n = length ns

    edges-words : (t : Nodes) → map word_of (lengths_at n m (edges ns t)) ≡ words_in n m (inners ns t) (words_of (inner_lengths t))
    unfolding edges inners inner_lengths lengths_at words_in
    edges-words nil = refl
    edges-words (leaf w e r) =
        ap (map word_of)
        (by-test (λ (l : List Length). l ≡ lengths_at n m (edges ns r)) (eqb (side n (taxon ns w)) m)
        (λ q. absurd (leaf-never ns w (ap (proper n) (eqb-true (side n (taxon ns w)) m q) ∙ counts))) (λ q. refl))
        ∙ edges-words r
    edges-words (inner c e r) =
        ap (map word_of) (lengths-append n m (edges ns c) ((taxa ns c, e) ∷ edges ns r))
        ∙ map-append word_of (lengths_at n m (edges ns c)) (lengths_at n m ((taxa ns c, e) ∷ edges ns r))
        ∙ ap₂ (λ (a b : List ℕ). a ++ b) (edges-words c) (go (eqb (side n (taxa ns c)) m) (edges-words r))
        ∙ sym (words_append n m (inners ns c) (taxa ns c ∷ inners ns r) (words_of (inner_lengths c)) (word_of (value_of e) ∷ words_of (inner_lengths r)) (inners-size c))
        ∙ ap (words_in n m (inners ns c ++ (taxa ns c ∷ inners ns r))) (sym (map-append (λ x. word_of (value_of x)) (inner_lengths c) (e ∷ inner_lengths r)))
      where
        go : (b : Bool) → map word_of (lengths_at n m (edges ns r)) ≡ words_in n m (inners ns r) (words_of (inner_lengths r))
            → map word_of (if b then value_of e ∷ lengths_at n m (edges ns r) else lengths_at n m (edges ns r))
            ≡ (if b then word_of (value_of e) ∷ words_in n m (inners ns r) (words_of (inner_lengths r)) else words_in n m (inners ns r) (words_of (inner_lengths r)))
        go true q = ap (λ (l : List ℕ). word_of (value_of e) ∷ l) q
        go false q = q

-- ---- every split has an edge

lengths_read : (n m : ℕ) (es : List Edge) → AllRead (lengths_at n m es)
unfolding lengths_at
lengths_read n m [] = tt
lengths_read n m (e ∷ es) = by-test AllRead (eqb (side n e.0) m) (λ _. (value_read e.1, lengths_read n m es)) (λ _. lengths_read n m es)

some-edge : (n m x : ℕ) (es : List Edge) → Mem x (map cluster es) → m ≡ side n x → 0 < length (lengths_at n m es)
unfolding lengths_at
some-edge n m x [] k z = elim k [ ]
some-edge n m x (e ∷ es) (inl q) z = by-test (λ (l : List Length). 0 < length l) (eqb (side n e.0) m) (λ _. omega arith) (λ f. absurd (no f))
  where
    no : eqb (side n e.0) m ≡ false → ⊥
    no f = let g : eqb (side n e.0) m ≡ true = eq-eqb (side n e.0) m (sym (z ∙ ap (side n) q)) in let h : ◌≡◌ {A = Bool} true false = sym g ∙ f in absurd (let y : ◌≡◌ {A = ℕ} 0 1 = cc in omega arith)
some-edge n m x (e ∷ es) (inr k) z = by-test (λ (l : List Length). 0 < length l) (eqb (side n e.0) m) (λ _. omega arith) (λ _. some-edge n m x es k z)

map-members : {A : Type 0} (f g : ℕ → A) (l : List ℕ) → ((m : ℕ) → Mem m l → f m ≡ g m) → map f l ≡ map g l
map-members f g [] h = refl
map-members f g (m ∷ l) h = ap₂ (λ x xs. x ∷ xs) (h m (inl refl)) (map-members f g l (λ y k. h y (inr k)))

map-map : (f : ℕ → Length) (l : List ℕ) → map word_of (map f l) ≡ map (λ m. word_of (f m)) l
map-map f [] = refl
map-map f (m ∷ l) = ap (λ (xs : List ℕ). word_of (f m) ∷ xs) (map-map f l)

module _ (ns : List (List ℕ)) (c : Nodes) (e : Option (List ℕ)) (s l v : List ℕ) (j : ℕ) (few : j ≤ length v)
    (masks : span_masks s l j ≡ inners ns c) (words : take j v ≡ words_of (inner_lengths c)) where
  split-word : (m : ℕ) → Mem m (splits_of ns (inner c e nil)) → slot_word (words_at (length ns) s l v m j) ≡ word_of (summed (lengths_at (length ns) m (edges ns c)))
  unfolding splits_of children
  split-word m h =
      let p = counted-mem (length ns) (clusters ns c) m h in
      ap slot_word
      (words-in (length ns) m s l v j few
      ∙ ap₂ (words_in (length ns) m) masks words
      ∙ sym (edges-words ns m p.3 c))
      ∙ slot-summed (lengths_at (length ns) m (edges ns c)) (lengths_read (length ns) m (edges ns c))
      (some-edge (length ns) m p.0 (edges ns c) (subst (Mem p.0) (sym (edges-clusters ns c)) p.1) p.2)

  pub splits-words : map (λ m. slot_word (words_at (length ns) s l v m j)) (splits_of ns (inner c e nil)) ≡ map word_of (lengths_of ns (inner c e nil))
  unfolding lengths_of children
  splits-words =
      map-members (λ m. slot_word (words_at (length ns) s l v m j)) (λ m. word_of (summed (lengths_at (length ns) m (edges ns c)))) (splits_of ns (inner c e nil)) split-word
      ∙ sym (map-map (λ m. summed (lengths_at (length ns) m (edges ns c))) (splits_of ns (inner c e nil)))
