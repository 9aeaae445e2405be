-- Laws of distances: the doubled distance is a metric on split sets.
--
--   one_sided-nil, one_sided-step, one_sided-has, one_sided-lacks     the one-sided number of no splits, and of one split more
--   doubled-sym          it is symmetric
--   doubled-self         it is 0 for a tree and itself
--   doubled-zero         it is 0 exactly for equal split sets
--   doubled-triangle     the way over a third tree is no shorter
use Prim.Native.Nat.{ℕ, suc, ◌+◌, ◌≤◌}
use Rattle.std.proofs.Common.{arith, add_comm, ap, ap₂, sym, ◌∙◌, subst, inl, inr, true≢false, eqb-true, ne_eqb}
use Rattle.std.specs.Prelude.{◌≡◌, ◌⊎◌, ◌↔◌, Bool, ◌||◌, List, [], ◌∷◌, eqb, if◌then◌else◌}
use Rattle.std.proofs.Math.Path.{refl}
use Rattle.std.proofs.Math.Bool.{true, false, not}
use Rattle.trees.specs.Plain.{member}
use Rattle.trees.specs.Distance.{one_sided, doubled}
use Rattle.theorems.specs.ListLaws.{if-true, if-false, Mem, member-mem, mem-member, keep-step}
use Rattle.theorems.specs.RisingLaws.{Rising, rising-same}

pub doubled-sym : (a b : List ℕ) → doubled a b ≡ doubled b a
unfolding doubled
doubled-sym a b = add_comm (one_sided a b) (one_sided b a)

-- ---- one step

pub one_sided-nil : (b : List ℕ) → one_sided [] b ≡ 0
unfolding one_sided
one_sided-nil b = refl

module _ (m : ℕ) (a b : List ℕ) where
  pub one_sided-step : one_sided (m ∷ a) b ≡ (if member m b then one_sided a b else suc (one_sided a b))
  unfolding one_sided
  one_sided-step = keep-step (λ x. not (member x b)) m a ∙ turned (member m b)
    where
      turned : (t : Bool) → (if not t then suc (one_sided a b) else one_sided a b) ≡ (if t then one_sided a b else suc (one_sided a b))
      turned true = refl
      turned false = refl

  pub one_sided-has : member m b ≡ true → one_sided (m ∷ a) b ≡ one_sided a b
  one_sided-has e = one_sided-step ∙ if-true (one_sided a b) (suc (one_sided a b)) e

  pub one_sided-lacks : member m b ≡ false → one_sided (m ∷ a) b ≡ suc (one_sided a b)
  one_sided-lacks e = one_sided-step ∙ if-false (one_sided a b) (suc (one_sided a b)) e

  one_sided-more : one_sided a b ≤ one_sided (m ∷ a) b
  one_sided-more = go (member m b) refl
    where
      go : (t : Bool) → member m b ≡ t → one_sided a b ≤ one_sided (m ∷ a) b
      go true e = omega (arith, one_sided-has e)
      go false e = omega (arith, one_sided-lacks e)

-- ---- it is 0 exactly for equal split sets

pub zero-within : (a b : List ℕ) → one_sided a b ≡ 0 → (y : ℕ) → Mem y a → Mem y b
zero-within [] b z y h = elim h [ ]
zero-within (m ∷ a) b z y h = go (member m b) refl h (λ k. zero-within a b (omega (arith, one_sided-more m a b)) y k)
  where
    go : (t : Bool) → member m b ≡ t → (y ≡ m) ⊎ Mem y a → (Mem y a → Mem y b) → Mem y b
    go true e (inl q) f = subst (λ (x : ℕ). Mem x b) (sym q) (member-mem m b e)
    go true e (inr k) f = f k
    go false e k f = absurd (omega (arith, one_sided-lacks m a b e))

pub within-zero : (a b : List ℕ) → ((y : ℕ) → Mem y a → Mem y b) → one_sided a b ≡ 0
within-zero [] b f = one_sided-nil b
within-zero (m ∷ a) b f = one_sided-has m a b (mem-member m b (f m (inl refl))) ∙ within-zero a b (λ y h. f y (inr h))

pub doubled-self : (a : List ℕ) → doubled a a ≡ 0
unfolding doubled
doubled-self a = ap₂ ◌+◌ (within-zero a a (λ y h. h)) (within-zero a a (λ y h. h))

pub doubled-zero : (a b : List ℕ) → Rising a → Rising b → (doubled a b ≡ 0) ↔ (a ≡ b)
unfolding doubled
doubled-zero a b p q = (
  λ z. rising-same a b p q (zero-within a b (omega arith)) (zero-within b a (omega arith)),
  λ e. ap₂ ◌+◌ (within-zero a b (λ y h. subst (Mem y) e h)) (within-zero b a (λ y h. subst (Mem y) (sym e) h)),
)

-- ---- the triangle

-- a list without a member's first place
removed : ℕ → List ℕ → List ℕ
removed m [] = []
removed m (x ∷ b) = if eqb m x then b else x ∷ removed m b

removed-count : (m : ℕ) (b c : List ℕ) → member m c ≡ false → member m b ≡ true → one_sided b c ≡ suc (one_sided (removed m b) c)
unfolding member removed
removed-count m [] c f e = absurd (true≢false (sym e))
removed-count m (x ∷ b) c f e = go (eqb m x) refl e (λ q. removed-count m b c f q)
  where
    other : (t : Bool) → member x c ≡ t → one_sided b c ≡ suc (one_sided (removed m b) c) → one_sided (x ∷ b) c ≡ suc (one_sided (x ∷ removed m b) c)
    other true d q = one_sided-has x b c d ∙ q ∙ ap suc (sym (one_sided-has x (removed m b) c d))
    other false d q = one_sided-lacks x b c d ∙ ap suc (q ∙ sym (one_sided-lacks x (removed m b) c d))

    go : (t : Bool) → eqb m x ≡ t → (t || member m b) ≡ true → (member m b ≡ true → one_sided b c ≡ suc (one_sided (removed m b) c)) → one_sided (x ∷ b) c ≡ suc (one_sided (if t then b else x ∷ removed m b) c)
    go true d q ih = one_sided-lacks x b c (subst (λ (y : ℕ). member y c ≡ false) (eqb-true m x d) f)
    go false d q ih = other (member x c) refl (ih q)

removed-member : (m y : ℕ) (b : List ℕ) → (y ≡ m → ⊥) → member y (removed m b) ≡ member y b
unfolding member removed
removed-member m y [] n = refl
removed-member m y (x ∷ b) n = go (eqb m x) refl (removed-member m y b n)
  where
    go : (t : Bool) → eqb m x ≡ t → member y (removed m b) ≡ member y b → member y (if t then b else x ∷ removed m b) ≡ (eqb y x || member y b)
    go true d q = sym (ap (λ t. t || member y b) (ne_eqb y x (λ e. n (e ∙ sym (eqb-true m x d)))))
    go false d q = ap (λ t. eqb y x || t) q

removed-other : (m : ℕ) (a b : List ℕ) → (Mem m a → ⊥) → one_sided a (removed m b) ≡ one_sided a b
removed-other m [] b n = one_sided-nil (removed m b) ∙ sym (one_sided-nil b)
removed-other m (x ∷ a) b n =
    one_sided-step x a (removed m b)
    ∙ ap₂ (λ (t : Bool) (k : ℕ). if t then k else suc k) (removed-member m x b (λ e. n (inl (sym e)))) (removed-other m a b (λ h. n (inr h)))
    ∙ sym (one_sided-step x a b)

one_sided-triangle : (a b c : List ℕ) → Rising a → one_sided a c ≤ one_sided a b + one_sided b c
one_sided-triangle [] b c r = omega (arith, one_sided-nil c)
one_sided-triangle (m ∷ a) b c r = go (member m c) (member m b) refl refl (one_sided-triangle a b c r.1) (one_sided-triangle a (removed m b) c r.1)
  where
    again : Mem m a → ⊥
    again h = omega (arith, r.0 m h)

    go : (u v : Bool) → member m c ≡ u → member m b ≡ v → one_sided a c ≤ one_sided a b + one_sided b c → one_sided a c ≤ one_sided a (removed m b) + one_sided (removed m b) c
        → one_sided (m ∷ a) c ≤ one_sided (m ∷ a) b + one_sided b c
    go true v p q ih jh = omega (arith, one_sided-has m a c p, one_sided-more m a b)
    go false false p q ih jh = omega (arith, one_sided-lacks m a c p, one_sided-lacks m a b q)
    go false true p q ih jh = omega (arith, one_sided-lacks m a c p, one_sided-has m a b q, removed-count m b c p q, removed-other m a b again)

pub doubled-triangle : (a b c : List ℕ) → Rising a → Rising c → doubled a c ≤ doubled a b + doubled b c
unfolding doubled
doubled-triangle a b c p q = omega (arith, one_sided-triangle a b c p, one_sided-triangle c b a q)
