-- Laws of the plain words: choices, tests over lists, members.
--
--   Mem x l         x is a member of l, as a type
--   by-test P b     what holds of both ways of a choice holds of the choice
--   by-elim P b     so it is where the choice is written as cases
--   less-or-not, equal_or_not     two numbers compared
--   same_bool       two tests are equal where each passes with the other
--   mem-stands, mem-get_d, mem-where     what stands in a list is a member, and each member stands somewhere
--   mem-flat, map-mem, mem-copies      what stands in lists one behind another, in a list with a function on each, and in copies of one number
--   every_append    a test that every member of two lists passes
--   map-append, map_same, map_back     a list with a function on each
--   keep_append     the members of two lists that pass a test
--   keep-step, keep-most     how many pass a test: one member more, and never more than there are
use Rattle.std.specs.Prelude.{ℕ, zero, suc, ◌≤◌, ◌<◌, ◌≡◌, refl, ◌⊎◌, Bool, true, false, ◌&&◌, ◌||◌, ltb, eqb, length, get_or, replicate, if◌then◌else◌}
use Rattle.std.proofs.Common.{arith, ap, ap₂, sym, ◌∙◌, inl, inr, ⊎_elim, true≢false, ltb-true, ltb-false, eqb-true, eq-eqb}
use Rattle.std.proofs.Math.Logic.{⊎_map}
use mathlib.Core.List.{List, [], ◌∷◌, ◌++◌, map, flat_map}
use Rattle.std.proofs.lemmas.Bool.{eqb-false}
use Rattle.trees.specs.Plain.{every, keep, member}

-- ---- two numbers

pub less-or-not : (a b : ℕ) → (a < b) ⊎ (b ≤ a)
less-or-not a b = go (ltb a b) refl
  where
    go : (t : Bool) → ltb a b ≡ t → (a < b) ⊎ (b ≤ a)
    go true e = inl (ltb-true a b e)
    go false e = inr (ltb-false a b e)

pub equal_or_not : (a b : ℕ) → (a ≡ b) ⊎ (a ≡ b → ⊥)
equal_or_not a b = go (eqb a b) refl
  where
    go : (t : Bool) → eqb a b ≡ t → (a ≡ b) ⊎ (a ≡ b → ⊥)
    go true e = inl (eqb-true a b e)
    go false e = inr (eqb-false a b e)

-- ---- choices and tests

pub same_bool : (p q : Bool) → (p ≡ true → q ≡ true) → (q ≡ true → p ≡ true) → p ≡ q
same_bool true q f g = sym (f refl)
same_bool false true f g = g refl
same_bool false false f g = refl

pub by-test : {A : Type 0} (P : A → Type 0) (b : Bool) {x y : A} → (b ≡ true → P x) → (b ≡ false → P y) → P (if b then x else y)
by-test P true f g = f refl
by-test P false f g = g refl

pub by-elim : {A : Type 0} (P : A → Type 0) (b : Bool) {x y : A} → (b ≡ true → P x) → (b ≡ false → P y) → P (elim b as (λ _. A) [ true ↦ x | false ↦ y ])
by-elim P true f g = f refl
by-elim P false f g = g refl

pub if-true : {A : Type 0} {b : Bool} (x y : A) → b ≡ true → (if b then x else y) ≡ x
if-true x y e = ap (λ b. if b then x else y) e

pub if-false : {A : Type 0} {b : Bool} (x y : A) → b ≡ false → (if b then x else y) ≡ y
if-false x y e = ap (λ b. if b then x else y) e

pub and_left : (a b : Bool) → (a && b) ≡ true → a ≡ true
and_left true b e = refl
and_left false b e = e

pub and_right : (a b : Bool) → (a && b) ≡ true → b ≡ true
and_right true b e = e
and_right false b e = absurd (true≢false (sym e))

pub and-true : {a b : Bool} → a ≡ true → b ≡ true → (a && b) ≡ true
and-true {a} {b} p q = ap (λ x. x && b) p ∙ q

pub or_cases : (a b : Bool) → (a || b) ≡ true → (a ≡ true) ⊎ (b ≡ true)
or_cases true b e = inl refl
or_cases false b e = inr e

pub or_left : (a b : Bool) → a ≡ true → (a || b) ≡ true
or_left true b e = refl
or_left false b e = absurd (true≢false (sym e))

pub or_right : (a b : Bool) → b ≡ true → (a || b) ≡ true
or_right true b e = refl
or_right false b e = e

-- ---- members

abbrev pub Mem : {A : Type 0} → A → List A → Type 0
Mem x [] = ⊥
Mem x (y ∷ l) = (x ≡ y) ⊎ Mem x l

pub mem-stands : {A : Type 0} (l : List A) (j : ℕ) (d : A) → j < length l → Mem (get_or l j d) l
mem-stands [] j d h = absurd (omega arith)
mem-stands (x ∷ l) zero d h = inl refl
mem-stands (x ∷ l) (suc j) d h = inr (mem-stands l j d (omega arith))

pub mem-get_d : (l : List ℕ) (j : ℕ) → j < length l → Mem (get_or l j 0) l
mem-get_d l j h = mem-stands l j 0 h

pub mem-where : {A : Type 0} (l : List A) (y d : A) → Mem y l → (i : ℕ) × (i < length l) × (get_or l i d ≡ y)
mem-where {A = A} [] y d x' = elim x' [ ]
mem-where (x ∷ l) y d (inl e) = (0, omega arith, sym e)
mem-where (x ∷ l) y d (inr m) = let r = mem-where l y d m in (suc r.0, omega (arith, r.1), r.2)

pub mem-left : {A : Type 0} (x : A) (l k : List A) → Mem x l → Mem x (l ++ k)
mem-left {A = A} x [] k x'' = elim x'' [ ]
mem-left x (y ∷ l) k (inl e) = inl e
mem-left x (y ∷ l) k (inr h) = inr (mem-left x l k h)

pub mem-right : {A : Type 0} (x : A) (l k : List A) → Mem x k → Mem x (l ++ k)
mem-right x [] k h = h
mem-right x (y ∷ l) k h = inr (mem-right x l k h)

pub mem-cases : {A : Type 0} (x : A) (l k : List A) → Mem x (l ++ k) → Mem x l ⊎ Mem x k
mem-cases x [] k h = inr h
mem-cases x (y ∷ l) k (inl e) = inl (inl e)
mem-cases x (y ∷ l) k (inr h) = ⊎_map (λ m. inr m) (λ m. m) (mem-cases x l k h)

pub mem-flat : {A B : Type 0} (f : A → List B) (b : B) (l : List A) → Mem b (flat_map f l) → (x : A) × Mem x l × Mem b (f x)
unfolding flat_map
mem-flat {A = A} {B = B} f b [] h = elim h [ ]
mem-flat f b (x ∷ l) h =
    ⊎_elim (λ m. (x, inl refl, m)) (λ m. let r = mem-flat f b l m in (r.0, inr r.1, r.2)) (mem-cases b (f x) (flat_map f l) h)

pub map-mem : {A B : Type 0} (f : A → B) (l : List A) (y : B) → Mem y (map f l) → (x : A) × Mem x l × (y ≡ f x)
map-mem {A = A} {B = B} f [] y x' = elim x' [ ]
map-mem f (x ∷ l) y (inl e) = (x, inl refl, e)
map-mem f (x ∷ l) y (inr h) = let r = map-mem f l y h in (r.0, inr r.1, r.2)

pub mem-copies : (k a b : ℕ) → Mem b (replicate k a) → b ≡ a
mem-copies zero a b x' = elim x' [ ]
mem-copies (suc k) a b (inl e) = e
mem-copies (suc k) a b (inr h) = mem-copies k a b h

pub member-mem : (m : ℕ) (l : List ℕ) → member m l ≡ true → Mem m l
unfolding member
member-mem m [] e = absurd (true≢false (sym e))
member-mem m (x ∷ l) e = ⊎_map (eqb-true m x) (λ q. member-mem m l q) (or_cases (eqb m x) (member m l) e)

pub mem-member : (m : ℕ) (l : List ℕ) → Mem m l → member m l ≡ true
unfolding member
mem-member m [] x' = elim x' [ ]
mem-member m (x ∷ l) (inl e) = or_left (eqb m x) (member m l) (eq-eqb m x e)
mem-member m (x ∷ l) (inr h) = or_right (eqb m x) (member m l) (mem-member m l h)

pub member-not : (m : ℕ) (l : List ℕ) → (Mem m l → ⊥) → member m l ≡ false
member-not m l f = go (member m l) refl
  where
    go : (b : Bool) → member m l ≡ b → b ≡ false
    go true e = absurd (f (member-mem m l e))
    go false e = refl

pub not-member : (m : ℕ) (l : List ℕ) → member m l ≡ false → Mem m l → ⊥
not-member m l e h = true≢false (sym (mem-member m l h) ∙ e)

-- ---- every member passes

pub every-at : {A : Type 0} (p : A → Bool) (l : List A) → every p l ≡ true → (x : A) → Mem x l → p x ≡ true
unfolding every
every-at {A = A} p [] e x x4 = elim x4 [ ]
every-at p (y ∷ l) e x (inl q) = ap p q ∙ and_left (p y) (every p l) e
every-at p (y ∷ l) e x (inr h) = every-at p l (and_right (p y) (every p l) e) x h

pub every-intro : {A : Type 0} (p : A → Bool) (l : List A) → ((x : A) → Mem x l → p x ≡ true) → every p l ≡ true
unfolding every
every-intro p [] f = refl
every-intro p (y ∷ l) f = and-true (f y (inl refl)) (every-intro p l (λ x h. f x (inr h)))

pub every_append : {A : Type 0} (p : A → Bool) (l r : List A) → every p l ≡ true → every p r ≡ true → every p (l ++ r) ≡ true
unfolding every
every_append p [] r a b = b
every_append p (x ∷ l) r a b = and-true (and_left (p x) (every p l) a) (every_append p l r (and_right (p x) (every p l) a) b)

-- ---- members that are kept

pub keep_append : (t : ℕ → Bool) (l r : List ℕ) → keep t (l ++ r) ≡ keep t l ++ keep t r
unfolding keep
keep_append t [] r = refl
keep_append t (x ∷ l) r = go (t x) (keep_append t l r)
  where
    go : (b : Bool) → keep t (l ++ r) ≡ keep t l ++ keep t r
        → (if b then x ∷ keep t (l ++ r) else keep t (l ++ r)) ≡ (if b then x ∷ keep t l else keep t l) ++ keep t r
    go true e = ap (λ (k : List ℕ). x ∷ k) e
    go false e = e

pub keep-mem : {A : Type 0} (p : A → Bool) (l : List A) (x : A) → Mem x (keep p l) → Mem x l × (p x ≡ true)
unfolding keep
keep-mem {A = A} p [] x h = elim h [ ]
keep-mem {A} p (y ∷ l) x h = go (p y) refl h (λ m. keep-mem p l x m)
  where
    go : (b : Bool) → p y ≡ b → Mem x (if b then y ∷ keep p l else keep p l) → (Mem x (keep p l) → Mem x l × (p x ≡ true)) → ((x ≡ y) ⊎ Mem x l) × (p x ≡ true)
    go true e (inl q) f = (inl q, ap p q ∙ e)
    go true e (inr m) f = (inr (f m).0, (f m).1)
    go false e m f = (inr (f m).0, (f m).1)

pub mem-keep : {A : Type 0} (p : A → Bool) (l : List A) (x : A) → Mem x l → p x ≡ true → Mem x (keep p l)
unfolding keep
mem-keep {A = A} p [] x x4 e = elim x4 [ ]
mem-keep {A} p (y ∷ l) x (inl q) e = by-test (λ (k : List A). Mem x k) (p y) (λ d. inl q) (λ d. absurd (true≢false (sym e ∙ ap p q ∙ d)))
mem-keep {A} p (y ∷ l) x (inr h) e = by-test (λ (k : List A). Mem x k) (p y) (λ d. inr (mem-keep p l x h e)) (λ d. mem-keep p l x h e)

-- ---- how many are kept

pub keep-step : {A : Type 0} (p : A → Bool) (x : A) (l : List A) → length (keep p (x ∷ l)) ≡ (if p x then suc (length (keep p l)) else length (keep p l))
unfolding keep
keep-step p x l = go (p x)
  where
    go : (b : Bool) → length (if b then x ∷ keep p l else keep p l) ≡ (if b then suc (length (keep p l)) else length (keep p l))
    go true = refl
    go false = refl

pub keep-most : {A : Type 0} (p : A → Bool) (l : List A) → length (keep p l) ≤ length l
unfolding keep
keep-most p [] = omega arith
keep-most {A} p (x ∷ l) =
    let h = keep-most p l in
    by-test (λ (k : List A). length k ≤ suc (length l)) (p x) (λ e. omega arith) (λ e. omega arith)

-- ---- a function on each

module _ (f : ℕ → ℕ) where
  pub map-append : (l r : List ℕ) → map f (l ++ r) ≡ map f l ++ map f r
  map-append [] r = refl
  map-append (x ∷ l) r = ap (λ (k : List ℕ). f x ∷ k) (map-append l r)

  pub map_same : (g : ℕ → ℕ) (l : List ℕ) → ((k : ℕ) → Mem k l → f k ≡ g k) → map f l ≡ map g l
  map_same g [] h = refl
  map_same g (x ∷ l) h = ap₂ (λ (y : ℕ) (r : List ℕ). y ∷ r) (h x (inl refl)) (map_same g l (λ k q. h k (inr q)))

  pub map_back : (g : ℕ → ℕ) (l : List ℕ) → ((m : ℕ) → Mem m l → g (f m) ≡ m) → map g (map f l) ≡ l
  map_back g [] h = refl
  map_back g (x ∷ l) h = ap₂ (λ (y : ℕ) (r : List ℕ). y ∷ r) (h x (inl refl)) (map_back g l (λ m k. h m (inr k)))
