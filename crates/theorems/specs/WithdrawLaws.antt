-- Laws of withdrawing a tree: what it answers, and what is left.
--
--   without_fewer, without-past              one element fewer; there is no such element
--   without-before, without-behind           which element stands where
--   without-last, without-append             the last element; an element of the first of two lists
--   without-map, without-mem, every-without  a function on each, members, and tests that all pass
--   Elsewhere k xs d y                       y stands in the list xs, but not at k
--   without-others                           its members are those that stand elsewhere
--   without-again                            put in again at the end, its members are those of before
--   count-without                            the count of a split falls by one exactly where the tree had it
--   recorded-without                         a split is recorded afterwards exactly when another tree has it
--   withdrawing-by                           what withdrawing does, from its test
--   withdrawing-opening, withdrawing-texts   it changes neither the opening nor a lane
--   withdrawing-done, withdrawing-refused    what it answers and leaves where there is such a tree, and where there is none
--   thirteen-exactly                         13 exactly where there is none
use Prim.Native.Nat.{ℕ, zero, suc, ◌≤◌, ◌<◌}
use Rattle.std.proofs.Common.{arith, sym, ◌∙◌, subst, lt-ltb, le-ltb}
use Rattle.std.specs.Prelude.{◌≡◌, ◌⊎◌, ◌↔◌, Bool, ltb, length, get_or, if◌then◌else◌}
use Rattle.std.proofs.Math.Path.{refl, ap}
use Rattle.std.proofs.Math.Logic.{inl, inr}
use Rattle.std.proofs.Math.Bool.{true, false}
use mathlib.Core.List.{List, [], ◌∷◌, ◌++◌, map}
use Rattle.trees.specs.Plain.{every, member, Answer, refused, gives}
use Rattle.trees.specs.Consensus.{recorded, count}
use Rattle.trees.specs.Held.{Held}
use Rattle.trees.specs.Withdrawing.{without_at, without_tree, Withdrawn, withdrawing}
use Rattle.theorems.specs.ListLaws.{less-or-not, equal_or_not, Mem, mem-stands, mem-where, mem-left, mem-right, mem-cases, every-at, every-intro}
use Rattle.theorems.specs.ConsensusLaws.{count-step}
use Rattle.theorems.specs.CountLaws.{recorded-exactly}

-- ---- a list without an element

module _ {A : Type 0} where
  pub without_fewer : (k : ℕ) (xs : List A) → k < length xs → suc (length (without_at k xs)) ≡ length xs
  unfolding without_at
  without_fewer k [] h = absurd (omega arith)
  without_fewer zero (x ∷ xs) h = refl
  without_fewer (suc k) (x ∷ xs) h = ap suc (without_fewer k xs (omega arith))

  pub without-past : (k : ℕ) (xs : List A) → length xs ≤ k → without_at k xs ≡ xs
  unfolding without_at
  without-past k [] h = refl
  without-past zero (x ∷ xs) h = absurd (omega arith)
  without-past (suc k) (x ∷ xs) h = ap (λ (l : List A). x ∷ l) (without-past k xs (omega arith))

  pub without-before : (k : ℕ) (xs : List A) (i : ℕ) (d : A) → i < k → get_or (without_at k xs) i d ≡ get_or xs i d
  unfolding without_at
  without-before k [] i d h = refl
  without-before zero (x ∷ xs) i d h = absurd (omega arith)
  without-before (suc k) (x ∷ xs) zero d h = refl
  without-before (suc k) (x ∷ xs) (suc i) d h = without-before k xs i d (omega arith)

  -- "trees after it move down by one number"
  pub without-behind : (k : ℕ) (xs : List A) (i : ℕ) (d : A) → k ≤ i → get_or (without_at k xs) i d ≡ get_or xs (suc i) d
  unfolding without_at
  without-behind k [] i d h = refl
  without-behind zero (x ∷ xs) i d h = refl
  without-behind (suc k) (x ∷ xs) zero d h = absurd (omega arith)
  without-behind (suc k) (x ∷ xs) (suc i) d h = without-behind k xs i d (omega arith)

  pub without-append : (k : ℕ) (xs ys : List A) → k < length xs → without_at k (xs ++ ys) ≡ without_at k xs ++ ys
  unfolding without_at
  without-append k [] ys h = absurd (omega arith)
  without-append zero (x ∷ xs) ys h = refl
  without-append (suc k) (x ∷ xs) ys h = ap (λ (l : List A). x ∷ l) (without-append k xs ys (omega arith))

  pub without-last : (xs : List A) (x : A) → without_at (length xs) (xs ++ x ∷ []) ≡ xs
  unfolding without_at
  without-last [] x = refl
  without-last (y ∷ xs) x = ap (λ (l : List A). y ∷ l) (without-last xs x)

  pub without-mem : (k : ℕ) (xs : List A) (y : A) → Mem y (without_at k xs) → Mem y xs
  unfolding without_at
  without-mem (suc k) [] y m = elim m [ ]
  without-mem zero [] y m = elim m [ ]
  without-mem zero (x ∷ xs) y m = inr m
  without-mem (suc k) (x ∷ xs) y (inl e) = inl e
  without-mem (suc k) (x ∷ xs) y (inr m) = inr (without-mem k xs y m)

  pub every-without : (p : A → Bool) (k : ℕ) (xs : List A) → every p xs ≡ true → every p (without_at k xs) ≡ true
  every-without p k xs e = every-intro p (without_at k xs) (λ x m. every-at p xs e x (without-mem k xs x m))

pub without-map : {A B : Type 0} (f : A → B) (k : ℕ) (xs : List A) → map f (without_at k xs) ≡ without_at k (map f xs)
unfolding without_at
without-map f k [] = refl
without-map f zero (x ∷ xs) = refl
without-map {B = B} f (suc k) (x ∷ xs) = ap (λ (l : List B). f x ∷ l) (without-map f k xs)

-- y stands in xs, but not at k
abbrev pub Elsewhere : {A : Type 0} → ℕ → List A → A → A → Type 0
Elsewhere k xs d y = (i : ℕ) × (i < length xs) × (i ≡ k → ⊥) × (get_or xs i d ≡ y)

pub without-others : {A : Type 0} (k : ℕ) (xs : List A) (d y : A) → Mem y (without_at k xs) ↔ Elsewhere k xs d y
unfolding without_at
without-others k [] d y = ((λ m. absurd m), λ r. absurd (omega (arith, r.1)))
without-others zero (x ∷ xs) d y = (λ m. let r = mem-where xs y d m in (suc r.0, omega (arith, r.1), (λ e. omega arith), r.2), λ r. back r.0 r.1 r.2 r.3)
  where
    back : (i : ℕ) → i < suc (length xs) → (i ≡ 0 → ⊥) → get_or (x ∷ xs) i d ≡ y → Mem y xs
    back zero h f e = absurd (f refl)
    back (suc i) h f e = subst (λ z. Mem z xs) e (mem-stands xs i d (omega arith))
without-others {A} (suc k) (x ∷ xs) d y = let e = without-others k xs d y in (forth e.0, λ r. back e.1 r.0 r.1 r.2 r.3)
  where
    forth : (Mem y (without_at k xs) → Elsewhere k xs d y) → (y ≡ x) ⊎ Mem y (without_at k xs) → (i : ℕ) × (i < suc (length xs)) × (i ≡ suc k → ⊥) × (get_or (x ∷ xs) i d ≡ y)
    forth g (inl e) = (0, omega arith, (λ q. omega arith), sym e)
    forth g (inr m) = let r = g m in (suc r.0, omega (arith, r.1), (λ q. r.2 (omega arith)), r.3)

    back : (Elsewhere k xs d y → Mem y (without_at k xs)) → (i : ℕ) → i < suc (length xs) → (i ≡ suc k → ⊥) → get_or (x ∷ xs) i d ≡ y → (y ≡ x) ⊎ Mem y (without_at k xs)
    back g zero h f e = inl (sym e)
    back g (suc i) h f e = inr (g (i, omega arith, (λ q. f (ap suc q)), e))

pub without-again : {A : Type 0} (k : ℕ) (xs : List A) (d : A) → k < length xs → (y : A) → Mem y (without_at k xs ++ get_or xs k d ∷ []) ↔ Mem y xs
without-again k xs d l y = (λ m. forth (mem-cases y (without_at k xs) _ m), λ m. let r = mem-where xs y d m in back r.0 r.1 r.2 (equal_or_not r.0 k))
  where
    forth : Mem y (without_at k xs) ⊎ Mem y (get_or xs k d ∷ []) → Mem y xs
    forth (inr (inr x'')) = elim x'' [ ]
    forth (inl m) = without-mem k xs y m
    forth (inr (inl e)) = subst (λ z. Mem z xs) (sym e) (mem-stands xs k d l)

    back : (i : ℕ) → i < length xs → get_or xs i d ≡ y → (i ≡ k) ⊎ (i ≡ k → ⊥) → Mem y (without_at k xs ++ get_or xs k d ∷ [])
    back i b e (inl q) = mem-right y (without_at k xs) _ (inl (sym e ∙ ap (λ (j : ℕ). get_or xs j d) q))
    back i b e (inr f) = mem-left y (without_at k xs) _ ((without-others k xs d y).1 (i, b, f, e))

-- ---- splits and counts

pub count-without : (k : ℕ) (ts : List (List ℕ)) (m : ℕ) → k < length ts → count ts m ≡ (if member m (get_or ts k []) then suc (count (without_at k ts) m) else count (without_at k ts) m)
unfolding without_at
count-without k [] m h = absurd (omega arith)
count-without zero (t ∷ ts) m h = count-step t ts m
count-without (suc k) (t ∷ ts) m h =
    let f : ℕ → ℕ = λ n. if member m t then suc n else n in
    count-step t ts m ∙ ap f (count-without k ts m (omega arith)) ∙ go (member m t) (member m (get_or ts k [])) (count (without_at k ts) m)
    ∙ ap (λ (n : ℕ). if member m (get_or ts k []) then suc n else n) (sym (count-step t (without_at k ts) m))
  where
    go : (b c : Bool) (n : ℕ) → (if b then suc (if c then suc n else n) else if c then suc n else n) ≡ (if c then suc (if b then suc n else n) else if b then suc n else n)
    go true true n = refl
    go true false n = refl
    go false true n = refl
    go false false n = refl

-- "A split whose count falls to 0 leaves the table"
pub recorded-without : (k : ℕ) (ts : List (List ℕ)) (m : ℕ) → Mem m (recorded (without_at k ts)) ↔ ((i : ℕ) × (i < length ts) × (i ≡ k → ⊥) × Mem m (get_or ts i []))
recorded-without k ts m = (
  λ h. let r = (recorded-exactly (without_at k ts) m).0 h in let o = (without-others k ts [] r.0).0 r.1 in (o.0, o.1, o.2, subst (Mem m) (sym o.3) r.2),
  λ r. (recorded-exactly (without_at k ts) m).1 (get_or ts r.0 [], (without-others k ts [] (get_or ts r.0 [])).1 (r.0, r.1, r.2, refl), r.3),
)

-- ---- the call

-- what withdrawing does, from its test: there is such a tree
abbrev pub withdrawing_by : Bool → Held → ℕ → Withdrawn
withdrawing_by true h k = record { answer = gives tt; after = without_tree h k }
withdrawing_by false h k = record { answer = refused 13; after = h }

module _ (h : Held) (k : ℕ) where
  pub withdrawing-by : withdrawing h k ≡ withdrawing_by (ltb k (length h.trees)) h k
  unfolding withdrawing
  withdrawing-by = go (ltb k (length h.trees))
    where
      go : (b : Bool) → (if b then record { answer = gives tt; after = without_tree h k } else record { answer = refused 13; after = h }) ≡ withdrawing_by b h k
      go true = refl
      go false = refl

  pub withdrawing-opening : (withdrawing h k).after.opening ≡ h.opening
  unfolding without_tree
  withdrawing-opening = ap (λ (w : Withdrawn). w.after.opening) withdrawing-by ∙ go (ltb k (length h.trees))
    where
      go : (b : Bool) → (withdrawing_by b h k).after.opening ≡ h.opening
      go true = refl
      go false = refl

  -- "Lanes in mid-text are untouched"
  pub withdrawing-texts : (withdrawing h k).after.texts ≡ h.texts
  unfolding without_tree
  withdrawing-texts = ap (λ (w : Withdrawn). w.after.texts) withdrawing-by ∙ go (ltb k (length h.trees))
    where
      go : (b : Bool) → (withdrawing_by b h k).after.texts ≡ h.texts
      go true = refl
      go false = refl

  pub withdrawing-done : k < length h.trees → withdrawing h k ≡ record { answer = gives tt; after = without_tree h k }
  withdrawing-done l = withdrawing-by ∙ ap (λ (b : Bool). withdrawing_by b h k) (lt-ltb k (length h.trees) l)

  pub withdrawing-refused : length h.trees ≤ k → withdrawing h k ≡ record { answer = refused 13; after = h }
  withdrawing-refused l = withdrawing-by ∙ ap (λ (b : Bool). withdrawing_by b h k) (le-ltb k (length h.trees) l)

  -- "Refusals: 13 as before"
  pub thirteen-exactly : ((withdrawing h k).answer ≡ refused 13) ↔ (length h.trees ≤ k)
  thirteen-exactly = (λ e. go e (less-or-not k (length h.trees)), λ l. ap (λ (w : Withdrawn). w.answer) (withdrawing-refused l))
    where
      go : (withdrawing h k).answer ≡ refused 13 → (k < length h.trees) ⊎ (length h.trees ≤ k) → length h.trees ≤ k
      go e (inl l) = let q : ◌≡◌ {A = Answer (Unit {0})} (gives tt) (refused 13) = sym (ap (λ (w : Withdrawn). w.answer) (withdrawing-done l)) ∙ e in let z : ◌≡◌ {A = ℕ} 0 1 = cc in absurd (omega arith)
      go e (inr l) = l
