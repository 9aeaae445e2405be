-- Lists that are one but for their order.
--
--   Perm l k        the lists l and k have the same elements, as often, in any order
--   perm-back       so have k and l
--   perm-equal      a list has its own order
--   perm-mem        they have the same members
--   perm-groups     two groups of elements change places
--   perm-front, perm-end    the same elements before, or behind
use Rattle.std.specs.Prelude.{◌≡◌, List, [], ◌∷◌, ◌++◌}
use Rattle.std.proofs.Common.{subst, inl, inr}
use Rattle.theorems.specs.ListLaws.{Mem}

pub data Perm {A : Type 0} : List A → List A → Type 0 where
  perm_same : {l : List A} → Perm l l
  perm-swap : {x y : A} {l : List A} → Perm (x ∷ y ∷ l) (y ∷ x ∷ l)
  perm-behind : {x : A} {l k : List A} → Perm l k → Perm (x ∷ l) (x ∷ k)
  perm-onward : {l k j : List A} → Perm l k → Perm k j → Perm l j

pub perm-back : {A : Type 0} {l k : List A} → Perm l k → Perm k l
perm-back perm_same = perm_same
perm-back perm-swap = perm-swap
perm-back (perm-behind p) = perm-behind (perm-back p)
perm-back (perm-onward p q) = perm-onward (perm-back q) (perm-back p)

pub perm-equal : {A : Type 0} {l k : List A} → l ≡ k → Perm l k
perm-equal {A} {l} e = subst (λ (z : List A). Perm l z) e perm_same

pub perm-mem : {A : Type 0} {l k : List A} → Perm l k → (x : A) → Mem x l → Mem x k
perm-mem perm_same x h = h
perm-mem perm-swap x (inl e) = inr (inl e)
perm-mem perm-swap x (inr (inl e)) = inl e
perm-mem perm-swap x (inr (inr h)) = inr (inr h)
perm-mem (perm-behind p) x (inl e) = inl e
perm-mem (perm-behind p) x (inr h) = inr (perm-mem p x h)
perm-mem (perm-onward p q) x h = perm-mem q x (perm-mem p x h)

-- one element goes behind the elements b, and then all elements of a
perm-past : {A : Type 0} (x : A) (b r : List A) → Perm (x ∷ (b ++ r)) (b ++ (x ∷ r))
perm-past x [] r = perm_same
perm-past x (y ∷ b) r = perm-onward perm-swap (perm-behind (perm-past x b r))

pub perm-groups : {A : Type 0} (a b r : List A) → Perm (a ++ (b ++ r)) (b ++ (a ++ r))
perm-groups [] b r = perm_same
perm-groups (x ∷ a) b r = perm-onward (perm-behind (perm-groups a b r)) (perm-past x b (a ++ r))

pub perm-front : {A : Type 0} (a : List A) {l k : List A} → Perm l k → Perm (a ++ l) (a ++ k)
perm-front [] p = p
perm-front (x ∷ a) p = perm-behind (perm-front a p)

pub perm-end : {A : Type 0} {l k : List A} (a : List A) → Perm l k → Perm (l ++ a) (k ++ a)
perm-end a perm_same = perm_same
perm-end a perm-swap = perm-swap
perm-end a (perm-behind p) = perm-behind (perm-end a p)
perm-end a (perm-onward p q) = perm-onward (perm-end a p) (perm-end a q)
