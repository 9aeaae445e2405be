-- The taxa of a mask, as a list.
--
--   up-to-below, mem-up-to, up-to-rising      the list of n taxa has exactly the numbers below n, and rises
--   taxa-in-exactly        the list of the taxa of a mask has exactly these
--   taxa-in-rising         it rises, so it has none twice
--   taxa-in-count          and it has as many as are counted in the mask
use Rattle.std.specs.Prelude.{ℕ, zero, suc, ◌<◌, ◌≡◌, refl, ◌⊎◌, ◌↔◌, Bool, true, false, [], ◌∷◌, ◌++◌, length, if◌then◌else◌}
use Rattle.std.proofs.Common.{arith, ap, ◌∙◌, inl, inr, length-append}
use Rattle.trees.specs.Plain.{keep}
use Rattle.trees.specs.Mask.{has, ones_below}
use Rattle.trees.specs.Groups.{up_to, taxa_in}
use Rattle.theorems.specs.ListLaws.{equal_or_not, Mem, mem-left, mem-right, mem-cases, keep_append, keep-mem, mem-keep}
use Rattle.theorems.specs.InTurnLaws.{InTurn, turn-append, turn-keep}

-- ---- n taxa

pub up-to-below : (n j : ℕ) → Mem j (up_to n) → j < n
unfolding up_to
up-to-below zero j h = elim h [ ]
up-to-below (suc n) j h = go (mem-cases j (up_to n) (n ∷ []) h) (up-to-below n j)
  where
    go : Mem j (up_to n) ⊎ Mem j (n ∷ []) → (Mem j (up_to n) → j < n) → j < suc n
    go (inr (inr x4)) f = elim x4 [ ]
    go (inl k) f = omega (arith, f k)
    go (inr (inl e)) f = omega arith

pub mem-up-to : (n j : ℕ) → j < n → Mem j (up_to n)
unfolding up_to
mem-up-to zero j h = absurd (omega arith)
mem-up-to (suc n) j h = go (equal_or_not j n) (mem-up-to n j)
  where
    go : (j ≡ n) ⊎ (j ≡ n → ⊥) → (j < n → Mem j (up_to n)) → Mem j (up_to n ++ n ∷ [])
    go (inl e) f = mem-right j (up_to n) (n ∷ []) (inl e)
    go (inr d) f = mem-left j (up_to n) (n ∷ []) (f (omega (arith, d)))

pub up-to-rising : (n : ℕ) → InTurn (λ x y. x < y) (up_to n)
unfolding up_to
up-to-rising zero = tt
up-to-rising (suc n) = turn-append (λ x y. x < y) (up_to n) (n ∷ []) (up-to-rising n) ((λ y k. absurd k), tt) (λ x y p q. last x y (up-to-below n x p) q)
  where
    last : (x y : ℕ) → x < n → Mem y (n ∷ []) → x < y
    last x y a (inr x'') = elim x'' [ ]
    last x y a (inl e) = omega arith

-- ---- the taxa of a mask

pub taxa-in-exactly : (n m j : ℕ) → Mem j (taxa_in n m) ↔ ((j < n) × (has m j ≡ true))
unfolding taxa_in
taxa-in-exactly n m j =
    (λ h. let r = keep-mem (has m) (up_to n) j h in (up-to-below n j r.0, r.1), λ r. mem-keep (has m) (up_to n) j (mem-up-to n j r.0) r.1)

pub taxa-in-rising : (n m : ℕ) → InTurn (λ x y. x < y) (taxa_in n m)
unfolding taxa_in
taxa-in-rising n m = turn-keep (λ x y. x < y) (has m) (up_to n) (up-to-rising n)

pub taxa-in-count : (n m : ℕ) → length (taxa_in n m) ≡ ones_below n m
unfolding taxa_in up_to ones_below keep
taxa-in-count zero m = refl
taxa-in-count (suc n) m = ap length (keep_append (has m) (up_to n) (n ∷ [])) ∙ go (has m n) (taxa-in-count n m)
  where
    go : (b : Bool) → length (keep (has m) (up_to n)) ≡ ones_below n m
        → length (keep (has m) (up_to n) ++ (if b then n ∷ [] else [])) ≡ (if b then suc (ones_below n m) else ones_below n m)
    go true e = omega (arith, e, length-append (keep (has m) (up_to n)) (n ∷ []))
    go false e = omega (arith, e, length-append (keep (has m) (up_to n)) [])
