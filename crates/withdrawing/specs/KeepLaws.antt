-- Lists with the same members, all different, and those of them that pass a test. Assumes nothing.
--
--   Apart l                       the members of l are all different
--   apart-most, apart-length      a list of different members is no longer than one that has them all; two of the same members are equally long
--   rising-apart                  a list is so where a function rises on it
--   keep-rises                    the members that pass a test rise as all do
--   keep_all                      all pass
--   keep_same                     tests that agree on the members keep the same
--   map-twice, map-self           a function on each, and then another; one that changes none
use Rattle.std.specs.Prelude.{ℕ, ◌<◌, ◌≤◌, ◌≡◌, refl, ◌⊎◌, Bool, true, List, [], ◌∷◌, map, length, get_or}
use Rattle.std.proofs.Common.{arith, sym, ap, ap₂, ◌∙◌, inl, inr}
use Rattle.trees.specs.Plain.{keep}
use Rattle.theorems.specs.ListLaws.{less-or-not, by-test, if-true, Mem, mem-get_d, keep-mem}
use Rattle.theorems.specs.RisingLaws.{Rising}
use Rattle.layout.specs.UpToLaws.{length-map, map_at, map-mem, mem-map, mem-at, rising-at}
use Rattle.layout.specs.PigeonLaws.{no_room}

-- ---- as many members

abbrev pub Apart : List ℕ → Type 0
Apart l = (i j : ℕ) → i < length l → j < length l → get_or l i 0 ≡ get_or l j 0 → i ≡ j

module _ (xs ys : List ℕ) (has : (x : ℕ) → Mem x xs → Mem x ys) where
  -- where the j-th of xs stands in ys
  stands : (j : ℕ) → (j < length xs) ⊎ (length xs ≤ j) → (i : ℕ) × (j < length xs → (i < length ys) × (get_or ys i 0 ≡ get_or xs j 0))
  stands j (inl h) = let r = mem-at ys (get_or xs j 0) (has _ (mem-get_d xs j h)) in (r.0, λ l. (r.1, r.2))
  stands j (inr h) = (0, λ l. absurd (omega arith))

  pub apart-most : Apart xs → length xs ≤ length ys
  apart-most d = go (less-or-not (length ys) (length xs))
    where
      at : (j : ℕ) → (i : ℕ) × (j < length xs → (i < length ys) × (get_or ys i 0 ≡ get_or xs j 0))
      at j = stands j (less-or-not j (length xs))

      go : (length ys < length xs) ⊎ (length xs ≤ length ys) → length xs ≤ length ys
      go (inl l) =
          absurd (no_room (length ys) (λ j. (at j).0) (λ j b. ((at j).1 (omega arith)).0)
          (λ i j a b e. d i j (omega arith) (omega arith) (sym ((at i).1 (omega arith)).1 ∙ ap (λ (x : ℕ). get_or ys x 0) e ∙ ((at j).1 (omega arith)).1)))
      go (inr l) = l

pub apart-length : (xs ys : List ℕ) → Apart xs → Apart ys → ((x : ℕ) → Mem x xs → Mem x ys) → ((x : ℕ) → Mem x ys → Mem x xs) → length xs ≡ length ys
apart-length xs ys a b f g = omega (arith, apart-most xs ys f a, apart-most ys xs g b)

pub rising-apart : (f : ℕ → ℕ) (l : List ℕ) → Rising (map f l) → Apart l
rising-apart f l r i j a b e = go (less-or-not i j) (less-or-not j i)
  where
    less : (x y : ℕ) → x < y → y < length l → f (get_or l x 0) < f (get_or l y 0)
    less x y h k = omega (arith, rising-at (map f l) r x y h (omega (arith, length-map f l)), map_at f l x (omega arith), map_at f l y k)

    go : (i < j) ⊎ (j ≤ i) → (j < i) ⊎ (i ≤ j) → i ≡ j
    go (inl h) q = absurd (omega (arith, less i j h b, ap f e))
    go (inr h) (inl q) = absurd (omega (arith, less j i q a, ap f e))
    go (inr h) (inr q) = omega arith

-- ---- members that pass

pub keep-rises : (f : ℕ → ℕ) (t : ℕ → Bool) (l : List ℕ) → Rising (map f l) → Rising (map f (keep t l))
unfolding keep
keep-rises f t [] r = tt
keep-rises f t (x ∷ l) r =
    let rest = keep-rises f t l r.1 in
    by-test (λ (k : List ℕ). Rising (map f k)) (t x)
    (λ e. ((λ y h. let k = map-mem f (keep t l) y h in rw k.2 (r.0 (f k.0) (mem-map f l k.0 (keep-mem t l k.0 k.1).0))), rest)) (λ e. rest)

pub keep_all : (t : ℕ → Bool) (l : List ℕ) → ((x : ℕ) → Mem x l → t x ≡ true) → keep t l ≡ l
unfolding keep
keep_all t [] h = refl
keep_all t (x ∷ l) h = if-true _ _ (h x (inl refl)) ∙ ap (λ (r : List ℕ). x ∷ r) (keep_all t l (λ y m. h y (inr m)))

-- ---- a function on each

pub map-twice : (f g h : ℕ → ℕ) (l : List ℕ) → ((x : ℕ) → Mem x l → g (f x) ≡ h x) → map g (map f l) ≡ map h l
map-twice f g h [] e = refl
map-twice f g h (x ∷ l) e = ap₂ (λ (y : ℕ) (r : List ℕ). y ∷ r) (e x (inl refl)) (map-twice f g h l (λ y m. e y (inr m)))

pub map-self : (f : ℕ → ℕ) (l : List ℕ) → ((x : ℕ) → Mem x l → f x ≡ x) → map f l ≡ l
map-self f [] e = refl
map-self f (x ∷ l) e = ap₂ (λ (y : ℕ) (r : List ℕ). y ∷ r) (e x (inl refl)) (map-self f l (λ y m. e y (inr m)))

pub keep_same : (p q : ℕ → Bool) (l : List ℕ) → ((x : ℕ) → Mem x l → p x ≡ q x) → keep p l ≡ keep q l
unfolding keep
keep_same p q [] f = refl
keep_same p q (x ∷ l) f = rw (f x (inl refl), keep_same p q l (λ y h. f y (inr h)))
