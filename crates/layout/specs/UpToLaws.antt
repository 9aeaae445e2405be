-- Laws of the lists that a store's bytes are read as: members, order, one more at the end. Assumes nothing.
--
--   up_to-mem, mem-up_to            the members of a list made by `up_to`
--   length-map, map_at, map-mem, mem-map     a list with a function on each
--   mem-at                        each member stands somewhere
--   one_more, each_more           a list with one more at its end: how long it is, and what holds of each
--   rising-at                     what stands earlier in a rising list is less
--   count-append                  the count behind one more tree
--   one_if b, one-if, one-most     1 where the test b passes, 0 where it fails
--   listed_nil, listed_next, listed-step     how many of no trees list a split, and of one tree more
--   listed-most                   never more than there are trees
use Prim.Native.Nat.{ℕ, zero, suc, ◌+◌, ◌≤◌, ◌<◌}
use Rattle.std.proofs.Common.{add-one, sym, ap, ◌∙◌, length-append, take-suc}
use native.Mathlib.Omega.{arith}
use Rattle.std.specs.Prelude.{◌≡◌, refl, ◌⊎◌, Bool, true, false, List, [], ◌∷◌, ◌++◌, map, length, get_or, take, if◌then◌else◌}
use Rattle.std.proofs.Math.Logic.{inl, inr}
use Rattle.std.proofs.Math.ListN.{get_or-append}
use Rattle.std.proofs.lemmas.List.{get_or_at}
use Rattle.trees.specs.Plain.{member}
use Rattle.trees.specs.Consensus.{count}
use Rattle.theorems.specs.ListLaws.{less-or-not, Mem, mem-get_d, mem-where}
use Rattle.theorems.specs.RisingLaws.{Rising}
use Rattle.theorems.specs.ConsensusLaws.{count-step}
use Rattle.head.specs.Head.{from_to, up_to}
use Rattle.layout.specs.Store.{Parts, trees_in, list_in}
use Rattle.layout.specs.WholeStore.{listed_in}

-- ---- the members of a list

pub mem-at : (l : List ℕ) (k : ℕ) → Mem k l → (i : ℕ) × (i < length l) × (get_or l i 0 ≡ k)
mem-at l k h = mem-where l k 0 h

-- ---- one more at the end

module _ {A : Type 0} (l : List A) (x : A) where
  pub one_more : length (l ++ x ∷ []) ≡ suc (length l)
  one_more = length-append l (x ∷ []) ∙ add-one (length l)

  -- what holds of each place and its member, and of the next place and the new one, holds of all
  pub each_more : (d : A) (n : ℕ) → length l ≡ n → (P : ℕ → A → Type 0) → ((j : ℕ) → j < n → P j (get_or l j d)) → P n x
      → (j : ℕ) → j < suc n → P j (get_or (l ++ x ∷ []) j d)
  each_more d n e P f g j h = go (less-or-not j n)
    where
      go : (j < n) ⊎ (n ≤ j) → P j (get_or (l ++ x ∷ []) j d)
      go (inl b) = rw (get_or-append l (x ∷ []) d j (omega arith)) (f j b)
      go (inr b) = let i : j ≡ n = omega arith in rw (i, get_or_at l x [] d n e) g

-- ---- the members of a list made by a function

module _ {A : Type 0} (f : ℕ → A) where
  from-mem : (k n : ℕ) (x : A) → Mem x (from_to f k n) → (i : ℕ) × (k ≤ i) × (i < k + n) × (x ≡ f i)
  unfolding from_to
  from-mem k zero x x3 = elim x3 [ ]
  from-mem k (suc n) x (inl e) = (k, omega arith, omega arith, e)
  from-mem k (suc n) x (inr h) = let r = from-mem (suc k) n x h in (r.0, omega (arith, r.1), omega (arith, r.2), r.3)

  mem-from : (k n i : ℕ) → k ≤ i → i < k + n → Mem (f i) (from_to f k n)
  unfolding from_to
  mem-from k zero i a b = absurd (omega arith)
  mem-from k (suc n) i a b = go (less-or-not k i) (mem-from (suc k) n i)
    where
      go : (k < i) ⊎ (i ≤ k) → (suc k ≤ i → i < suc k + n → Mem (f i) (from_to f (suc k) n)) → Mem (f i) (f k ∷ from_to f (suc k) n)
      go (inl l) g = inr (g l (omega arith))
      go (inr l) g = let e : i ≡ k = omega arith in inl (ap f e)

  pub up_to-mem : (n : ℕ) (x : A) → Mem x (up_to f n) → (i : ℕ) × (i < n) × (x ≡ f i)
  unfolding up_to
  up_to-mem n x h = let r = from-mem 0 n x h in (r.0, omega (arith, r.2), r.3)

  pub mem-up_to : (n i : ℕ) → i < n → Mem (f i) (up_to f n)
  unfolding up_to
  mem-up_to n i h = mem-from 0 n i (omega arith) (omega arith)

-- ---- order

pub rising-at : (l : List ℕ) → Rising l → (i j : ℕ) → i < j → j < length l → get_or l i 0 < get_or l j 0
rising-at [] r i j a b = absurd (omega arith)
rising-at (x ∷ l) r i zero a b = absurd (omega arith)
rising-at (x ∷ l) r zero (suc j) a b = r.0 (get_or l j 0) (mem-get_d l j (omega arith))
rising-at (x ∷ l) r (suc i) (suc j) a b = rising-at l r.1 i j (omega arith) (omega arith)

-- ---- a list with a function on each

module _ (f : ℕ → ℕ) where
  pub length-map : (l : List ℕ) → length (map f l) ≡ length l
  length-map [] = refl
  length-map (x ∷ l) = ap suc (length-map l)

  pub map_at : (l : List ℕ) (j : ℕ) → j < length l → get_or (map f l) j 0 ≡ f (get_or l j 0)
  map_at [] j h = absurd (omega arith)
  map_at (x ∷ l) zero h = refl
  map_at (x ∷ l) (suc j) h = map_at l j (omega arith)

  pub map-mem : (l : List ℕ) (y : ℕ) → Mem y (map f l) → (k : ℕ) × Mem k l × (y ≡ f k)
  map-mem [] y x' = elim x' [ ]
  map-mem (x ∷ l) y (inl e) = (x, inl refl, e)
  map-mem (x ∷ l) y (inr h) = let r = map-mem l y h in (r.0, inr r.1, r.2)

  pub mem-map : (l : List ℕ) (k : ℕ) → Mem k l → Mem (f k) (map f l)
  mem-map [] k x' = elim x' [ ]
  mem-map (x ∷ l) k (inl e) = inl (ap f e)
  mem-map (x ∷ l) k (inr h) = inr (mem-map l k h)

-- ---- counts

pub count-append : (ts : List (List ℕ)) (t : List ℕ) (m : ℕ) → count (ts ++ t ∷ []) m ≡ (if member m t then suc (count ts m) else count ts m)
count-append [] t m = count-step t [] m
count-append (u ∷ ts) t m =
    count-step u (ts ++ t ∷ []) m ∙ go (member m u) (member m t) (count-append ts t m) ∙ ap (λ (c : ℕ). if member m t then suc c else c) (sym (count-step u ts m))
  where
    go : (a b : Bool) → count (ts ++ t ∷ []) m ≡ (if b then suc (count ts m) else count ts m)
        → (if a then suc (count (ts ++ t ∷ []) m) else count (ts ++ t ∷ []) m) ≡ (if b then suc (if a then suc (count ts m) else count ts m) else (if a then suc (count ts m) else count ts m))
    go true true e = ap suc e
    go true false e = ap suc e
    go false true e = e
    go false false e = e

pub listed_nil : (p : Parts) (k : ℕ) → listed_in p k 0 ≡ 0
unfolding listed_in
listed_nil p k = refl

pub listed_next : (p : Parts) (k t : ℕ) → t < trees_in p → listed_in p k (suc t) ≡ (if member k (list_in p t) then suc (listed_in p k t) else listed_in p k t)
unfolding listed_in
listed_next p k t h = ap (λ (ls : List (List ℕ)). count ls k) (take-suc p.lists t [] h) ∙ count-append (take t p.lists) (list_in p t) k

unfoldable pub one_if : Bool → ℕ
one_if b = if b then 1 else 0

pub one-if : (b : Bool) (n : ℕ) → (if b then suc n else n) ≡ n + one_if b
unfolding one_if
one-if true n = omega arith
one-if false n = omega arith

pub one-most : (b : Bool) → one_if b ≤ 1
unfolding one_if
one-most true = omega arith
one-most false = omega arith

pub listed-step : (p : Parts) (k t : ℕ) → t < trees_in p → listed_in p k (suc t) ≡ listed_in p k t + one_if (member k (list_in p t))
listed-step p k t h = listed_next p k t h ∙ one-if (member k (list_in p t)) (listed_in p k t)

pub listed-most : (p : Parts) (k t : ℕ) → t ≤ trees_in p → listed_in p k t ≤ t
listed-most p k zero h = omega (arith, listed_nil p k)
listed-most p k (suc t) h = omega (arith, listed-step p k t h, one-most (member k (list_in p t)), listed-most p k t (omega arith))
