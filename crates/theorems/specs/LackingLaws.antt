-- Laws of the numbers of one list that another lacks. Assumes nothing.
--
--   lacking-append, lacking-none     of two lists, and of none
--   lacking-old, lacking-new         behind one more that the other list has, or lacks
--   lacking-mem, mem-lacking         which they are
use Rattle.std.specs.Prelude.{ℕ, ◌≡◌, Bool, List, [], ◌∷◌, ◌++◌}
use Rattle.std.proofs.Math.Path.{refl, sym}
use Rattle.std.proofs.Common.{ap, append-nil}
use Rattle.std.proofs.Math.Bool.{true, false, not}
use Rattle.trees.specs.Plain.{keep, member, lacking}
use Rattle.theorems.specs.ListLaws.{if-true, if-false, Mem, keep_append, keep-mem, mem-keep}

module _ (k : List ℕ) where
  pub lacking-append : (l r : List ℕ) → lacking (l ++ r) k ≡ lacking l k ++ lacking r k
  unfolding lacking
  lacking-append l r = keep_append (λ m. not (member m k)) l r

  pub lacking-none : lacking [] k ≡ []
  unfolding lacking keep
  lacking-none = refl

  pub lacking-old : (l : List ℕ) (m : ℕ) → member m k ≡ true → lacking (l ++ m ∷ []) k ≡ lacking l k
  lacking-old l m e = rw (lacking-append l (m ∷ []), one) (append-nil (lacking l k))
    where
      one : lacking (m ∷ []) k ≡ []
      one = unfold lacking keep in if-false _ _ (ap not e)

  pub lacking-new : (l r : List ℕ) (m : ℕ) → member m k ≡ false → lacking (l ++ m ∷ r) k ≡ lacking l k ++ m ∷ lacking r k
  lacking-new l r m e = rw (lacking-append l (m ∷ r), one)
    where
      one : lacking (m ∷ r) k ≡ m ∷ lacking r k
      one = unfold lacking keep in if-true _ _ (ap not e)

  pub lacking-mem : (l : List ℕ) (m : ℕ) → Mem m (lacking l k) → Mem m l × (member m k ≡ false)
  unfolding lacking
  lacking-mem l m h = let r = keep-mem (λ x. not (member x k)) l m h in (r.0, go (member m k) r.1)
    where
      go : (b : Bool) → not b ≡ true → b ≡ false
      go true e = sym e
      go false e = refl

  pub mem-lacking : (l : List ℕ) (m : ℕ) → Mem m l → member m k ≡ false → Mem m (lacking l k)
  unfolding lacking
  mem-lacking l m h e = mem-keep (λ x. not (member x k)) l m h (ap not e)
