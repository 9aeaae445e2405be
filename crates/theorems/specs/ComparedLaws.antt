-- What comparing two sets of splits answers, exactly: the same set, or the smallest mask of one set alone, and which. Both lists rise.
--
--   Alone x a b          the mask x is in a and not in b
--   Below x a b          every mask smaller than x is in both or in neither
--   Says s m c           what the answer c says of the splits s of a text and m of the majority
--   compared-says        it is so
--   compared-exactly     and nothing else is: the answer is c exactly when what c says is so
--   text-ahead, majority-ahead, both-go-on     it is found by walking along both lists
--   same-splits          `same` exactly when the two lists are equal
--   same-distance        and exactly when the doubled distance is 0
use Rattle.std.specs.Prelude.{ℕ, ◌≤◌, ◌<◌, ◌≡◌, ◌⊎◌, ◌↔◌, Bool, true, false, ltb, if◌then◌else◌}
use Rattle.std.proofs.Common.{arith, ap, sym, inl, inr, ltb-true, ltb-false}
use Rattle.std.proofs.Math.Path.{refl, subst}
use Rattle.std.proofs.Math.Logic.{⊎_map}
use mathlib.Core.List.{List, [], ◌∷◌}
use Rattle.trees.specs.Plain.{member, lacking}
use Rattle.trees.specs.Distance.{doubled}
use Rattle.trees.specs.Claim.{Claimed, same, text_alone, majority_alone, smallest_alone, compared}
use Rattle.theorems.specs.ListLaws.{less-or-not, Mem, member-mem, not-member}
use Rattle.theorems.specs.RisingLaws.{Rising, rising-same, keep-rising}
use Rattle.theorems.specs.LackingLaws.{lacking-mem, mem-lacking}
use Rattle.theorems.specs.DistanceLaws.{doubled-zero}

-- "a mask that is in one set alone"
abbrev pub Alone : ℕ → List ℕ → List ℕ → Type 0
Alone x a b = Mem x a × (Mem x b → ⊥)

-- no smaller mask is
abbrev pub Below : ℕ → List ℕ → List ℕ → Type 0
Below x a b = (y : ℕ) → y < x → Mem y a ↔ Mem y b

-- "Accept it exactly when its splits are the majority splits .. If not, name the smallest mask that is in one set alone, and which set"
abbrev pub Says : List ℕ → List ℕ → Claimed → Type 0
Says s m same = (y : ℕ) → Mem y s ↔ Mem y m
Says s m (text_alone x) = Alone x s m × Below x s m
Says s m (majority_alone x) = Alone x m s × Below x s m

module _ (s m : List ℕ) where
  -- ---- never two answers

  not-smaller : (x y : ℕ) → Alone x s m ⊎ Alone x m s → Below y s m → y ≤ x
  not-smaller x y a b = go (less-or-not x y)
    where
      go : (x < y) ⊎ (y ≤ x) → y ≤ x
      go (inr l) = l
      go (inl l) = absurd (never a)
        where
          never : Alone x s m ⊎ Alone x m s → ⊥
          never (inl a) = a.1 ((b x l).0 a.0)
          never (inr a) = a.1 ((b x l).1 a.0)

  one-mask : (x y : ℕ) → Alone x s m ⊎ Alone x m s → Below x s m → Alone y s m ⊎ Alone y m s → Below y s m → x ≡ y
  one-mask x y a b c d = omega (arith, not-smaller x y a d, not-smaller y x c b)

  one_answer : (c d : Claimed) → Says s m c → Says s m d → c ≡ d
  one_answer same same p q = refl
  one_answer same (text_alone y) p q = absurd (q.0.1 ((p y).0 q.0.0))
  one_answer same (majority_alone y) p q = absurd (q.0.1 ((p y).1 q.0.0))
  one_answer (text_alone x) same p q = absurd (p.0.1 ((q x).0 p.0.0))
  one_answer (text_alone x) (text_alone y) p q = ap text_alone (one-mask x y (inl p.0) p.1 (inl q.0) q.1)
  one_answer (text_alone x) (majority_alone y) p q =
      absurd (p.0.1 (subst (λ (z : ℕ). Mem z m) (sym (one-mask x y (inl p.0) p.1 (inr q.0) q.1)) q.0.0))
  one_answer (majority_alone x) same p q = absurd (p.0.1 ((q x).1 p.0.0))
  one_answer (majority_alone x) (text_alone y) p q =
      absurd (p.0.1 (subst (λ (z : ℕ). Mem z s) (sym (one-mask x y (inr p.0) p.1 (inl q.0) q.1)) q.0.0))
  one_answer (majority_alone x) (majority_alone y) p q = ap majority_alone (one-mask x y (inr p.0) p.1 (inr q.0) q.1)

-- ---- what is answered is so

-- a mask that is in a and not among those of a alone is in b
not-alone : (a b : List ℕ) (y : ℕ) → Mem y a → (Mem y (lacking a b) → ⊥) → Mem y b
not-alone a b y h f = go (member y b) refl
  where
    go : (t : Bool) → member y b ≡ t → Mem y b
    go true e = member-mem y b e
    go false e = absurd (f (mem-lacking b a y h e))

alone : (a b : List ℕ) (x : ℕ) → Mem x (lacking a b) → Alone x a b
alone a b x h = let r = lacking-mem b a x h in (r.0, not-member x b r.1)

lacking-rising : (a b : List ℕ) → Rising a → Rising (lacking a b)
unfolding lacking
lacking-rising a b r = keep-rising _ a r

-- no mask of the list l is smaller than x
abbrev Least : ℕ → List ℕ → Type 0
Least x l = (y : ℕ) → Mem y l → x ≤ y

first-least : (x : ℕ) (l : List ℕ) → Rising (x ∷ l) → (z : ℕ) → z ≤ x → Least z (x ∷ l)
first-least x l r z h y (inl e) = omega arith
first-least x l r z h y (inr k) = omega (arith, r.0 y k)

module _ (s m : List ℕ) where
  below : (x : ℕ) → Least x (lacking s m) → Least x (lacking m s) → Below x s m
  below x f g y l = (λ h. not-alone s m y h (λ k. omega (arith, f y k)), λ h. not-alone m s y h (λ k. omega (arith, g y k)))

  pub compared-says : Rising s → Rising m → Says s m (compared s m)
  unfolding compared smallest_alone
  compared-says r q = go (lacking s m) (lacking m s) refl refl
    where
      text-least : (a : List ℕ) → lacking s m ≡ a → Rising a
      text-least a e = subst Rising e (lacking-rising s m r)

      majority-least : (b : List ℕ) → lacking m s ≡ b → Rising b
      majority-least b e = subst Rising e (lacking-rising m s q)

      under : (x : ℕ) (a b : List ℕ) → lacking s m ≡ a → lacking m s ≡ b → Least x a → Least x b → Below x s m
      under x a b e f k l = below x (subst (Least x) (sym e) k) (subst (Least x) (sym f) l)

      text-first : (x : ℕ) (a : List ℕ) → lacking s m ≡ x ∷ a → Alone x s m
      text-first x a e = alone s m x (subst (Mem x) (sym e) (inl refl))

      majority-first : (x : ℕ) (b : List ℕ) → lacking m s ≡ x ∷ b → Alone x m s
      majority-first x b e = alone m s x (subst (Mem x) (sym e) (inl refl))

      nothing : (x : ℕ) → Least x []
      nothing x y h = absurd h

      go : (a b : List ℕ) → lacking s m ≡ a → lacking m s ≡ b → Says s m (smallest_alone a b)
      go [] [] e f = λ y. (λ h. not-alone s m y h (λ k. subst (Mem y) e k), λ h. not-alone m s y h (λ k. subst (Mem y) f k))
      go (x ∷ a) [] e f = (text-first x a e, under x (x ∷ a) [] e f (first-least x a (text-least (x ∷ a) e) x (omega arith)) (nothing x))
      go [] (x ∷ b) e f = (majority-first x b f, under x [] (x ∷ b) e f (nothing x) (first-least x b (majority-least (x ∷ b) f) x (omega arith)))
      go (x ∷ a) (z ∷ b) e f = choose (ltb x z) refl
        where
          choose : (t : Bool) → ltb x z ≡ t → Says s m (if t then text_alone x else majority_alone z)
          choose true o = let l = ltb-true x z o in
              (text-first x a e, under x (x ∷ a) (z ∷ b) e f (first-least x a (text-least (x ∷ a) e) x (omega arith)) (first-least z b (majority-least (z ∷ b) f) x (omega arith)))
          choose false o = let l = ltb-false x z o in
              (majority-first z b f, under z (x ∷ a) (z ∷ b) e f (first-least x a (text-least (x ∷ a) e) z (omega arith)) (first-least z b (majority-least (z ∷ b) f) z (omega arith)))

  pub compared-exactly : Rising s → Rising m → (c : Claimed) → (compared s m ≡ c) ↔ Says s m c
  compared-exactly r q c = (λ e. subst (Says s m) e (compared-says r q), λ k. one_answer s m (compared s m) c (compared-says r q) k)

  pub same-splits : Rising s → Rising m → (compared s m ≡ same) ↔ (s ≡ m)
  same-splits r q = (
    λ e. let k = (compared-exactly r q same).0 e in rising-same s m r q (λ y. (k y).0) (λ y. (k y).1),
    λ e. (compared-exactly r q same).1 (λ y. (λ h. subst (Mem y) e h, λ h. subst (Mem y) (sym e) h)),
  )

  pub same-distance : Rising s → Rising m → (compared s m ≡ same) ↔ (doubled s m ≡ 0)
  same-distance r q = (λ e. (doubled-zero s m r q).1 ((same-splits r q).0 e), λ e. (same-splits r q).1 ((doubled-zero s m r q).0 e))

-- ---- both lists walked along

module _ (a : ℕ) (s m : List ℕ) (r : Rising (a ∷ s)) (q : Rising m) (f : (y : ℕ) → Mem y m → a < y) where
  first_alone : Alone a (a ∷ s) m
  first_alone = (inl refl, λ h. omega (arith, f a h))

  none-smaller : (y : ℕ) → y < a → Mem y (a ∷ s) → ⊥
  none-smaller y l (inl e) = omega arith
  none-smaller y l (inr h) = omega (arith, r.0 y h)

  -- the text's next mask is smaller than all that are left of the majority, if any are
  pub text-ahead : compared (a ∷ s) m ≡ text_alone a
  text-ahead = (compared-exactly (a ∷ s) m r q (text_alone a)).1 (first_alone, λ y l. (λ h. absurd (none-smaller y l h), λ h. absurd (omega (arith, f y h))))

  pub majority-ahead : compared m (a ∷ s) ≡ majority_alone a
  majority-ahead = (compared-exactly m (a ∷ s) q r (majority_alone a)).1 (first_alone, λ y l. (λ h. absurd (omega (arith, f y h)), λ h. absurd (none-smaller y l h)))

pub both-go-on : (a : ℕ) (s m : List ℕ) → Rising (a ∷ s) → Rising (a ∷ m) → compared (a ∷ s) (a ∷ m) ≡ compared s m
both-go-on a s m r q = (compared-exactly (a ∷ s) (a ∷ m) r q (compared s m)).1 (go (compared s m) (compared-says s m r.1 q.1))
  where
    more : (y : ℕ) → Mem y s ↔ Mem y m → Mem y (a ∷ s) ↔ Mem y (a ∷ m)
    more y f = (⊎_map (λ e. e) f.0, ⊎_map (λ e. e) f.1)

    not_first : (x : ℕ) (k l : List ℕ) → Rising (a ∷ k) → Alone x k l → Mem x (a ∷ l) → ⊥
    not_first x k l p b (inl e) = omega (arith, p.0 x b.0)
    not_first x k l p b (inr h) = b.1 h

    go : (c : Claimed) → Says s m c → Says (a ∷ s) (a ∷ m) c
    go same f = λ y. more y (f y)
    go (text_alone x) f = ((inr f.0.0, not_first x s m r f.0), λ y l. more y (f.1 y l))
    go (majority_alone x) f = ((inr f.0.0, not_first x m s q f.0), λ y l. more y (f.1 y l))
