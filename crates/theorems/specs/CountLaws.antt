-- How many trees have a split, and so which splits are recorded, strict and majority: exactly those that document 01 names.
--
--   recorded-exactly   a split is recorded exactly when a tree has it
--   mem-strict         a split that all trees have is strict, where there is a tree
--   strict-exactly     and no other is
--   majority-exactly   a split is a majority split exactly when twice its count is more than the number of trees
use Rattle.std.specs.Prelude.{ℕ, suc, ◌*◌, ◌<◌, ◌≡◌, refl, ◌⊎◌, ◌↔◌, Bool, true, false, List, [], ◌∷◌, length}
use Rattle.std.proofs.Common.{arith, ap, sym, ◌∙◌, subst, inl, inr, eq-eqb}
use Rattle.trees.specs.Plain.{member}
use Rattle.trees.specs.Consensus.{recorded, count, is_strict, strict, majority}
use Rattle.theorems.specs.ListLaws.{Mem, member-mem, mem-member, mem-keep}
use Rattle.theorems.specs.RisingLaws.{recorded-mem, mem-recorded}
use Rattle.theorems.specs.ConsensusLaws.{count-nil, count_most, count-has, count-lacks, majority-mem, mem-majority, strict-mem}

-- ---- counts

-- the trees of ts all have m
abbrev AllHave : List (List ℕ) → ℕ → Type 0
AllHave ts m = (t : List ℕ) → Mem t ts → Mem m t

all-count : (ts : List (List ℕ)) (m : ℕ) → AllHave ts m → count ts m ≡ length ts
all-count [] m f = count-nil m
all-count (t ∷ ts) m f = count-has t ts m (mem-member m t (f t (inl refl))) ∙ ap suc (all-count ts m (λ u h. f u (inr h)))

count-all : (ts : List (List ℕ)) (m : ℕ) → count ts m ≡ length ts → AllHave ts m
count-all [] m e = λ u h. absurd h
count-all (t ∷ ts) m e = go (member m t) refl (count-all ts m)
  where
    go : (b : Bool) → member m t ≡ b → (count ts m ≡ length ts → AllHave ts m) → AllHave (t ∷ ts) m
    go true q f u (inl p) = subst (Mem m) (sym p) (member-mem m t q)
    go true q f u (inr h) = f (omega (arith, count-has t ts m q)) u h
    go false q f u h = absurd (omega (arith, count-lacks t ts m q, count_most ts m))

some-has : (ts : List (List ℕ)) (m : ℕ) → 0 < count ts m → (t : List ℕ) × Mem t ts × Mem m t
some-has [] m h = absurd (omega (arith, count-nil m))
some-has (t ∷ ts) m h = go (member m t) refl (some-has ts m)
  where
    go : (b : Bool) → member m t ≡ b → (0 < count ts m → (u : List ℕ) × Mem u ts × Mem m u) → (u : List ℕ) × ((u ≡ t) ⊎ Mem u ts) × Mem m u
    go true q f = (t, inl refl, member-mem m t q)
    go false q f = let r = f (omega (arith, count-lacks t ts m q)) in (r.0, inr r.1, r.2)

-- ---- recorded, strict, majority

pub recorded-exactly : (ts : List (List ℕ)) (m : ℕ) → Mem m (recorded ts) ↔ ((t : List ℕ) × Mem t ts × Mem m t)
recorded-exactly ts m = (recorded-mem ts m, λ r. mem-recorded ts r.0 m r.1 r.2)

pub mem-strict : (ts : List (List ℕ)) (m : ℕ) → 0 < length ts → ((t : List ℕ) → Mem t ts → Mem m t) → Mem m (strict ts)
unfolding strict is_strict
mem-strict [] m h f = absurd (omega arith)
mem-strict (t ∷ ts) m h f =
    mem-keep (is_strict (t ∷ ts)) (recorded (t ∷ ts)) m (mem-recorded (t ∷ ts) t m (inl refl) (f t (inl refl))) (eq-eqb (count (t ∷ ts) m) (suc (length ts)) (all-count (t ∷ ts) m f))

pub strict-exactly : (ts : List (List ℕ)) (m : ℕ) → 0 < length ts → Mem m (strict ts) ↔ ((t : List ℕ) → Mem t ts → Mem m t)
strict-exactly ts m p = (λ h. count-all ts m (strict-mem ts m h).1, mem-strict ts m p)

pub majority-exactly : (ts : List (List ℕ)) (m : ℕ) → Mem m (majority ts) ↔ (length ts < 2 * count ts m)
majority-exactly ts m = (λ h. (majority-mem ts m h).1, λ l. let r = some-has ts m (omega arith) in mem-majority ts m (mem-recorded ts r.0 m r.1 r.2) l)
