-- How many splits are recorded: behind one more tree, and of fewer trees.
--
--   fresh l t           the masks of t that are not in l
--   recorded-append     behind one more tree, its splits are put in
--   recorded_more       so its new splits are recorded besides
--   recorded-within     of trees that are all among others, no more are recorded than of those
--   recorded-same       of the same trees, in whatever order, the same are recorded
use Rattle.std.specs.Prelude.{ℕ, suc, ◌+◌, ◌≤◌, ◌≡◌, refl, ◌⊎◌, Bool, true, false, not, List, [], ◌∷◌, ◌++◌, ltb, eqb, length, if◌then◌else◌}
use Rattle.std.proofs.Common.{arith, ap, sym, ◌∙◌, subst, inl, inr, ⊎_elim, eqb-true}
use Rattle.trees.specs.Plain.{keep, member}
use Rattle.trees.specs.Splits.{insert}
use Rattle.trees.specs.Consensus.{insert_all, recorded}
use Rattle.theorems.specs.ListLaws.{by-test, Mem, mem-left, mem-right, mem-cases, member-mem, not-member}
use Rattle.theorems.specs.RisingLaws.{Rising, rising-same, rising-within, insert-mem, mem-insert, insert-rising, insert_all-rising, insert_all-mem, mem-insert_all, recorded-rising, recorded-mem, mem-recorded}

-- ---- one mask

insert-old : (m : ℕ) (l : List ℕ) → Rising l → Mem m l → insert m l ≡ l
insert-old m l r h =
    rising-same (insert m l) l (insert-rising m l r) r (λ y k. ⊎_elim (λ e. subst (λ z. Mem z l) (sym e) h) (λ q. q) (insert-mem m l y k)) (λ y k. mem-insert m l y (inr k))

insert-new : (m : ℕ) (l : List ℕ) → (Mem m l → ⊥) → length (insert m l) ≡ suc (length l)
unfolding insert
insert-new m [] f = refl
insert-new m (x ∷ l) f =
    by-test (λ (k : List ℕ). length k ≡ suc (suc (length l))) (ltb m x) (λ p. refl)
    (λ p. by-test (λ (k : List ℕ). length k ≡ suc (suc (length l))) (eqb m x) (λ q. absurd (f (inl (eqb-true m x q)))) (λ q. ap suc (insert-new m l (λ h. f (inr h)))))

-- ---- the masks of a tree

abbrev pub fresh : List ℕ → List ℕ → List ℕ
fresh l t = keep (λ m. not (member m l)) t

insert_all-length : (t l : List ℕ) → Rising t → Rising l → length (insert_all t l) ≡ length l + length (fresh l t)
unfolding insert_all keep
insert_all-length [] l r s = omega arith
insert_all-length (m ∷ t) l r s = go (member m l) refl (insert_all-length t l r.1 s)
  where
    later : (Mem m l → ⊥) → Mem m t ⊎ Mem m l → ⊥
    later f (inl h) = omega (arith, r.0 m h)
    later f (inr h) = f h

    go : (b : Bool) → member m l ≡ b → length (insert_all t l) ≡ length l + length (fresh l t) → length (insert m (insert_all t l)) ≡ length l + length (if not b then m ∷ fresh l t else fresh l t)
    go true e q = ap length (insert-old m (insert_all t l) (insert_all-rising t l s) (mem-insert_all t l m (inr (member-mem m l e)))) ∙ q
    go false e q = insert-new m (insert_all t l) (λ h. later (not-member m l e) (insert_all-mem t l m h)) ∙ omega (arith, q)

-- ---- one more tree

pub recorded-append : (ts : List (List ℕ)) (t : List ℕ) → recorded (ts ++ t ∷ []) ≡ insert_all t (recorded ts)
recorded-append ts t =
    rising-same (recorded (ts ++ t ∷ [])) (insert_all t (recorded ts)) (recorded-rising (ts ++ t ∷ [])) (insert_all-rising t (recorded ts) (recorded-rising ts))
    (λ y h. let r = recorded-mem (ts ++ t ∷ []) y h in forth y r.0 r.2 (mem-cases r.0 ts (t ∷ []) r.1))
    (λ y h. back y (insert_all-mem t (recorded ts) y h))
  where
    forth : (y : ℕ) (u : List ℕ) → Mem y u → Mem u ts ⊎ Mem u (t ∷ []) → Mem y (insert_all t (recorded ts))
    forth y u h (inr (inr x'')) = elim x'' [ ]
    forth y u h (inl k) = mem-insert_all t (recorded ts) y (inr (mem-recorded ts u y k h))
    forth y u h (inr (inl e)) = mem-insert_all t (recorded ts) y (inl (subst (Mem y) e h))

    back : (y : ℕ) → Mem y t ⊎ Mem y (recorded ts) → Mem y (recorded (ts ++ t ∷ []))
    back y (inl h) = mem-recorded (ts ++ t ∷ []) t y (mem-right t ts (t ∷ []) (inl refl)) h
    back y (inr h) = let r = recorded-mem ts y h in mem-recorded (ts ++ t ∷ []) r.0 y (mem-left r.0 ts (t ∷ []) r.1) r.2

pub recorded_more : (ts : List (List ℕ)) (t : List ℕ) → Rising t → length (recorded (ts ++ t ∷ [])) ≡ length (recorded ts) + length (fresh (recorded ts) t)
recorded_more ts t r = ap length (recorded-append ts t) ∙ insert_all-length t (recorded ts) r (recorded-rising ts)

-- ---- fewer trees

more-recorded : (ts us : List (List ℕ)) → ((t : List ℕ) → Mem t ts → Mem t us) → (y : ℕ) → Mem y (recorded ts) → Mem y (recorded us)
more-recorded ts us f y h = let r = recorded-mem ts y h in mem-recorded us r.0 y (f r.0 r.1) r.2

pub recorded-within : (ts us : List (List ℕ)) → ((t : List ℕ) → Mem t ts → Mem t us) → length (recorded ts) ≤ length (recorded us)
recorded-within ts us f = rising-within (recorded ts) (recorded us) (recorded-rising ts) (recorded-rising us) (more-recorded ts us f)

pub recorded-same : (ts us : List (List ℕ)) → ((t : List ℕ) → Mem t ts → Mem t us) → ((t : List ℕ) → Mem t us → Mem t ts) → recorded ts ≡ recorded us
recorded-same ts us f g = rising-same (recorded ts) (recorded us) (recorded-rising ts) (recorded-rising us) (more-recorded ts us f) (more-recorded us ts g)
