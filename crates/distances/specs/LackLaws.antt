-- Laws of the members of one list that another lacks. Assumes nothing.
--
--   one_sided-none        all of a list's members are lacking from no list at all
--   one_sided-most        at most all are lacking
--   one_sided-map         lists whose members are replaced by others, different for different members
--   one_sided-skip        a list lacks as much with one more member that is not asked for
--   one_sided-once        and one less with one that is asked for once
--   one_sided-keep        members that both lists have are left out of both
--   rising-different, different-map, different-keep     lists whose members are all different
--   one_sided-balance     what a has and b has not, beside b, is as much as what b has and a has not, beside a
use Rattle.std.specs.Prelude.{◌≡◌, ℕ, suc, ◌+◌, ◌≤◌, Bool, true, false, not, List, [], ◌∷◌, map, length, ◌==◌, ◌≢◌, refl, if◌then◌else◌}
use Rattle.std.proofs.Common.{arith, ap, sym, ◌∙◌, inl, inr, eqb-true, ne_eqb}
use Rattle.std.proofs.lemmas.Bool.{eqb-false}
use Rattle.trees.specs.Plain.{keep, member}
use Rattle.trees.specs.Distance.{one_sided}
use Rattle.theorems.specs.ListLaws.{Mem, same_bool, by-test, member-mem, mem-member, member-not, not-member, keep-mem, mem-keep, keep-most}
use Rattle.theorems.specs.RisingLaws.{Rising}
use Rattle.theorems.specs.DistanceLaws.{one_sided-nil, one_sided-step, one_sided-has, one_sided-lacks}
use Rattle.layout.specs.UpToLaws.{mem-map}
use Rattle.distances.specs.Short.{Different}

one_sided-none : (a : List ℕ) → one_sided a [] ≡ length a
unfolding member
one_sided-none [] = one_sided-nil []
one_sided-none (m ∷ a) = one_sided-lacks m a [] refl ∙ ap suc (one_sided-none a)

pub one_sided-most : (a b : List ℕ) → one_sided a b ≤ length a
unfolding one_sided
one_sided-most a b = keep-most (λ m. not (member m b)) a

pub one_sided-map : (f : ℕ → ℕ) (a b : List ℕ) → ((k : ℕ) → Mem k a → member (f k) (map f b) ≡ member k b) → one_sided (map f a) (map f b) ≡ one_sided a b
one_sided-map f [] b h = one_sided-nil (map f b) ∙ sym (one_sided-nil b)
one_sided-map f (k ∷ a) b h =
    one_sided-step (f k) (map f a) (map f b) ∙ rw (h k (inl refl), one_sided-map f a b (λ x m. h x (inr m))) (sym (one_sided-step k a b))

-- ---- one member more

module _ (m : ℕ) (b : List ℕ) where
  member-other : (y : ℕ) → (y ≢ m) → member y (m ∷ b) ≡ member y b
  unfolding member
  member-other y n = rw (ne_eqb y m n)

  one_sided-skip : (a : List ℕ) → (Mem m a → ⊥) → one_sided a (m ∷ b) ≡ one_sided a b
  one_sided-skip [] n = one_sided-nil (m ∷ b) ∙ sym (one_sided-nil b)
  one_sided-skip (y ∷ a) n =
      one_sided-step y a (m ∷ b) ∙ rw (member-other y (λ e. n (inl (sym e))), one_sided-skip a (λ h. n (inr h))) (sym (one_sided-step y a b))

  one_sided-once : (a : List ℕ) → Different a → Mem m a → member m b ≡ false → one_sided a b ≡ suc (one_sided a (m ∷ b))
  one_sided-once [] r h f = absurd h
  one_sided-once (y ∷ a) r h f = go (y == m) refl h (λ q. one_sided-once a r.1 q f)
    where
      other : (t : Bool) → member y b ≡ t → (y ≢ m) → one_sided a b ≡ suc (one_sided a (m ∷ b))
          → one_sided (y ∷ a) b ≡ suc (one_sided (y ∷ a) (m ∷ b))
      other true d n q = one_sided-has y a b d ∙ q ∙ ap suc (sym (one_sided-has y a (m ∷ b) (member-other y n ∙ d)))
      other false d n q = one_sided-lacks y a b d ∙ ap suc (q ∙ sym (one_sided-lacks y a (m ∷ b) (member-other y n ∙ d)))

      go : (t : Bool) → (y == m) ≡ t → Mem m (y ∷ a) → (Mem m a → one_sided a b ≡ suc (one_sided a (m ∷ b)))
          → one_sided (y ∷ a) b ≡ suc (one_sided (y ∷ a) (m ∷ b))
      go true d q ih =
          let e = eqb-true y m d in
          let x : one_sided (y ∷ a) (m ∷ b) ≡ one_sided a (m ∷ b) = one_sided-has y a (m ∷ b) (mem-member y (m ∷ b) (inl e)) in
          one_sided-lacks y a b (rw e f) ∙ ap suc (sym (x ∙ one_sided-skip a (λ k. r.0 (rw e k))))
      go false d (inl q) ih = absurd (eqb-false y m d (sym q))
      go false d (inr q) ih = other (member y b) refl (eqb-false y m d) (ih q)

-- ---- members that both have

member-keep : (p : ℕ → Bool) (k : ℕ) (b : List ℕ) → p k ≡ true → member k (keep p b) ≡ member k b
member-keep p k b e =
    same_bool _ _ (λ h. mem-member k b (keep-mem p b k (member-mem k (keep p b) h)).0) (λ h. mem-member k (keep p b) (mem-keep p b k (member-mem k b h) e))

pub one_sided-keep : (p : ℕ → Bool) (a b : List ℕ) → ((k : ℕ) → Mem k a → p k ≡ false → Mem k b) → one_sided (keep p a) (keep p b) ≡ one_sided a b
unfolding keep
one_sided-keep p [] b f = one_sided-nil (keep p b) ∙ sym (one_sided-nil b)
one_sided-keep p (k ∷ a) b f = go (p k) refl (one_sided-keep p a b (λ x h. f x (inr h)))
  where
    go : (t : Bool) → p k ≡ t → one_sided (keep p a) (keep p b) ≡ one_sided a b
        → one_sided (if t then k ∷ keep p a else keep p a) (keep p b) ≡ one_sided (k ∷ a) b
    go true e ih = one_sided-step k (keep p a) (keep p b) ∙ rw (member-keep p k b e, ih) (sym (one_sided-step k a b))
    go false e ih = ih ∙ sym (one_sided-has k a b (mem-member k b (f k (inl refl) e)))

-- ---- lists whose members are all different

pub rising-different : (l : List ℕ) → Rising l → Different l
rising-different [] r = tt
rising-different (x ∷ l) r = (λ h. omega (arith, r.0 x h), rising-different l r.1)

pub different-map : (f : ℕ → ℕ) (l : List ℕ) → Different (map f l) → Different l
different-map f [] d = tt
different-map f (x ∷ l) d = (λ h. d.0 (mem-map f l x h), different-map f l d.1)

pub different-keep : (p : ℕ → Bool) (l : List ℕ) → Different l → Different (keep p l)
unfolding keep
different-keep p [] d = tt
different-keep p (x ∷ l) d =
    let r = different-keep p l d.1 in
    by-test (λ (k : List ℕ). Different k) (p x) (λ e. (λ h. d.0 (keep-mem p l x h).0, r)) (λ e. r)

-- ---- both ways

pub one_sided-balance : (a b : List ℕ) → Different a → Different b → length a + one_sided b a ≡ length b + one_sided a b
one_sided-balance [] b p q = omega (arith, one_sided-none b, one_sided-nil b)
one_sided-balance (m ∷ a) b p q = go (member m b) refl (one_sided-balance a b p.1 q)
  where
    again : member m a ≡ false
    again = member-not m a p.0

    go : (t : Bool) → member m b ≡ t → length a + one_sided b a ≡ length b + one_sided a b
        → length (m ∷ a) + one_sided b (m ∷ a) ≡ length b + one_sided (m ∷ a) b
    go true e ih = omega (arith, one_sided-has m a b e, one_sided-once m a b q (member-mem m b e) again)
    go false e ih = omega (arith, one_sided-lacks m a b e, one_sided-skip m a b (not-member m b e))
