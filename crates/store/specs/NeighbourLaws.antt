-- Rising lists, a number at a time. Assumes nothing.
--
--   neighbours-rise        a list rises where each number is below the next
--   rising-more            one number more, above all others
--   rising-before          each number of a rising list is above those before it
use Rattle.std.specs.Prelude.{◌≡◌, ℕ, suc, ◌<◌, ◌⊎◌, List, [], ◌∷◌, ◌++◌, length, take, drop, slice_index, refl}
use Rattle.std.proofs.Common.{arith, subst, ◌∙◌, inl, inr}
use Rattle.std.proofs.Math.Seq.{split_at}
use Rattle.theorems.specs.ListLaws.{Mem, mem-right, mem-cases}
use Rattle.theorems.specs.RisingLaws.{Rising}

pub neighbours-rise : (l : List ℕ) → ((i : ℕ) → suc i < length l → slice_index l i < slice_index l (suc i)) → Rising l
neighbours-rise [] up = tt
neighbours-rise (x ∷ []) up = ((λ y h. absurd h), tt)
neighbours-rise (x ∷ y ∷ l) up =
    let rest = neighbours-rise (y ∷ l) (λ i q. up (suc i) (omega arith)) in
    (above (up 0 (omega arith)) rest.0, rest)
  where
    above : x < y → ((z : ℕ) → Mem z l → y < z) → (z : ℕ) → Mem z (y ∷ l) → x < z
    above a f z (inl e) = rw e a
    above a f z (inr h) = omega (arith, f z h)

pub rising-more : (l : List ℕ) (x : ℕ) → Rising l → ((y : ℕ) → Mem y l → y < x) → Rising (l ++ x ∷ [])
rising-more [] x r f = ((λ y h. absurd h), tt)
rising-more (z ∷ l) x r f = ((λ y h. go y (mem-cases y l (x ∷ []) h)), rising-more l x r.1 (λ y h. f y (inr h)))
  where
    go : (y : ℕ) → Mem y l ⊎ Mem y (x ∷ []) → z < y
    go y (inr (inr x6)) = elim x6 [ ]
    go y (inl h) = r.0 y h
    go y (inr (inl e)) = rw e (f z (inl refl))

below_next : (l r : List ℕ) (x y : ℕ) → Rising (l ++ x ∷ r) → Mem y l → y < x
below_next [] r x y h x4 = elim x4 [ ]
below_next (z ∷ l) r x y h (inl e) = rw e (h.0 x (mem-right x l (x ∷ r) (inl refl)))
below_next (z ∷ l) r x y h (inr m) = below_next l r x y h.1 m

pub rising-before : (l : List ℕ) (j x y : ℕ) → j < length l → x ≡ slice_index l j → Rising l → Mem y (take j l) → y < x
rising-before l j x y h e r m =
    let s : l ≡ take j l ++ x ∷ drop (suc j) l = split_at l j 0 h ∙ rw e in
    below_next (take j l) _ x y (subst (λ (k : List ℕ). Rising k) s r) m
