-- Laws of the lengths of a tree's splits.
--
--   lengths-count      there are as many as splits
--   lengths-good       each that is given is finite and not minus zero: read from the text, or the sum of two that were
--   readable-tokens    a tree that was written has no lengths
--   lengths-absent     and those of its splits are all absent
use Rattle.std.specs.Prelude.{ℕ, ◌≡◌, true, List, [], ◌∷◌, ◌++◌, map, eqb, length, replicate}
use Rattle.std.proofs.Common.{arith, ap, ap₂}
use Rattle.std.proofs.Math.Path.{refl}
use Rattle.std.proofs.Math.Option.{Option, none, some}
use Rattle.std.proofs.lemmas.List.{length-map}
use Rattle.trees.specs.Plain.{every}
use Rattle.trees.specs.Mask.{side}
use Rattle.trees.specs.Tree.{Nodes, nil, leaf, inner, children}
use Rattle.trees.specs.Splits.{taxa, splits_of}
use Rattle.trees.specs.Value.{Length, length_of}
use Rattle.trees.specs.Lengths.{edges, tokens, value_of, lengths_at, together, summed, lengths_of}
use Rattle.trees.specs.Whole.{good_length}
use Rattle.theorems.specs.ListLaws.{by-test, and-true}
use Rattle.theorems.specs.EdgeLengthLaws.{Edge}
use Rattle.theorems.specs.ShownLaws.{Readable, readable-nil, readable-leaf, readable-inner}
use Rattle.theorems.specs.LengthSumLaws.{Moderate, length-moderate, add-proper}

pub lengths-count : (ns : List (List ℕ)) (t : Nodes) → length (lengths_of ns t) ≡ length (splits_of ns t)
unfolding lengths_of
lengths-count ns t = length-map (splits_of ns t) _

-- the length of the split m
abbrev length_at : List (List ℕ) → Nodes → ℕ → Length
length_at ns t m = summed (lengths_at (length ns) m (edges ns (children t)))

-- ---- lengths that were read

-- a length that was read, or none
abbrev Read : Length → Type 0
Read none = Unit {0}
Read (some x) = Moderate x

abbrev AllRead : List Length → Type 0
AllRead [] = Unit {0}
AllRead (x ∷ xs) = Read x × AllRead xs

value_read : (e : Option (List ℕ)) → Read (value_of e)
value_read none = tt
value_read (some w) = go (length_of w) refl
  where
    go : (x : Length) → length_of w ≡ x → Read x
    go none e = tt
    go (some x) e = length-moderate w x e

lengths_read : (n m : ℕ) (es : List Edge) → AllRead (lengths_at n m es)
unfolding lengths_at
lengths_read n m [] = tt
lengths_read n m (e ∷ es) = by-test AllRead (eqb (side n e.0) m) (λ _. (value_read e.1, lengths_read n m es)) (λ _. lengths_read n m es)

read-good : (x : Length) → Read x → good_length x ≡ true
unfolding good_length
read-good none r = refl
read-good (some x) r = r.proper

together-good : (x y : Length) → Read x → Read y → good_length (together x y) ≡ true
unfolding good_length together
together-good none y r q = refl
together-good (some x) none r q = refl
together-good (some x) (some y) r q = add-proper x y r q

summed-good : (xs : List Length) → AllRead xs → good_length (summed xs) ≡ true
unfolding summed
summed-good [] r = unfold good_length in refl
summed-good (x ∷ []) r = read-good x r.0
summed-good (x ∷ y ∷ xs) r = together-good x y r.0 r.1.0

every_map : (f : ℕ → Length) → ((m : ℕ) → good_length (f m) ≡ true) → (l : List ℕ) → every good_length (map f l) ≡ true
unfolding every
every_map f h [] = refl
every_map f h (m ∷ l) = and-true (h m) (every_map f h l)

pub lengths-good : (ns : List (List ℕ)) (t : Nodes) → every good_length (lengths_of ns t) ≡ true
unfolding lengths_of
lengths-good ns t = every_map (length_at ns t) (λ m. summed-good (lengths_at (length ns) m (edges ns (children t))) (lengths_read (length ns) m (edges ns (children t)))) (splits_of ns t)

-- ---- a tree without lengths

pub readable-tokens : {d : ℕ} {t : Nodes} → Readable d t → tokens t ≡ []
unfolding tokens
readable-tokens readable-nil = refl
readable-tokens (readable-leaf q r) = readable-tokens r
readable-tokens (readable-inner h q r) = ap₂ (λ (a b : List (List ℕ)). a ++ b) (readable-tokens q) (readable-tokens r)

filled : (x : List ℕ) (ws : List (List ℕ)) → x ∷ ws ≡ [] → ⊥
filled x ws e = omega (arith, ap length e)

both-empty : (vs ws : List (List ℕ)) → vs ++ ws ≡ [] → (vs ≡ []) × (ws ≡ [])
both-empty [] ws e = (refl, e)
both-empty (x ∷ vs) ws e = absurd (filled x (vs ++ ws) e)

children-tokens : (t : Nodes) → tokens t ≡ [] → tokens (children t) ≡ []
unfolding tokens children
children-tokens nil e = refl
children-tokens (leaf w l r) e = refl
children-tokens (inner c none r) e = (both-empty (tokens c) (tokens r) e).0
children-tokens (inner c (some x) r) e = (both-empty (tokens c) (x ∷ tokens r) e).0

abbrev AllAbsent : List Edge → Type 0
AllAbsent [] = Unit {0}
AllAbsent (e ∷ es) = (e.1 ≡ none) × AllAbsent es

absent-append : (es fs : List Edge) → AllAbsent es → AllAbsent fs → AllAbsent (es ++ fs)
absent-append [] fs a b = b
absent-append (e ∷ es) fs a b = (a.0, absent-append es fs a.1 b)

module _ (ns : List (List ℕ)) where
  edges-absent : (t : Nodes) → tokens t ≡ [] → AllAbsent (edges ns t)
  unfolding tokens edges
  edges-absent nil e = tt
  edges-absent (leaf w none r) e = (refl, edges-absent r e)
  edges-absent (leaf w (some x) r) e = absurd (filled x (tokens r) e)
  edges-absent (inner c none r) e =
      let q = both-empty (tokens c) (tokens r) e in
      absent-append (edges ns c) ((taxa ns c, none) ∷ edges ns r) (edges-absent c q.0) (refl, edges-absent r q.1)
  edges-absent (inner c (some x) r) e = absurd (filled x (tokens r) (both-empty (tokens c) (x ∷ tokens r) e).1)

abbrev AllNone : List Length → Type 0
AllNone [] = Unit {0}
AllNone (x ∷ xs) = (x ≡ none) × AllNone xs

lengths_none : (n m : ℕ) (es : List Edge) → AllAbsent es → AllNone (lengths_at n m es)
unfolding lengths_at
lengths_none n m [] a = tt
lengths_none n m (e ∷ es) a = by-test AllNone (eqb (side n e.0) m) (λ _. (ap value_of a.0, lengths_none n m es a.1)) (λ _. lengths_none n m es a.1)

summed-none : (xs : List Length) → AllNone xs → summed xs ≡ none
unfolding summed together
summed-none [] a = refl
summed-none (x ∷ []) a = a.0
summed-none (x ∷ y ∷ xs) a = ap (λ (z : Length). together z y) a.0

map-none : (f : ℕ → Length) → ((m : ℕ) → f m ≡ none) → (l : List ℕ) → map f l ≡ replicate (length l) none
map-none f h [] = refl
map-none f h (m ∷ l) = ap₂ (λ (x : Length) (xs : List Length). x ∷ xs) (h m) (map-none f h l)

pub lengths-absent : (ns : List (List ℕ)) (t : Nodes) → tokens t ≡ [] → lengths_of ns t ≡ replicate (length (splits_of ns t)) none
unfolding lengths_of
lengths-absent ns t e =
    let es = edges ns (children t) in
    map-none (length_at ns t) (λ m. summed-none (lengths_at (length ns) m es) (lengths_none (length ns) m es (edges-absent ns (children t) (children-tokens t e)))) (splits_of ns t)
