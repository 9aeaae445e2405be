-- Laws of the splits that enough of the trees have. Assumes nothing.
--
--   keep_same                        tests that are equal everywhere keep the same
--   chosen-strict, chosen-majority   those in all trees are the strict splits; those in half of them and one more, the majority splits
use Rattle.std.specs.Prelude.{ℕ, ◌+◌, ◌*◌, ◌/◌, ◌≡◌, refl, Bool, List, [], ◌∷◌, leb, ltb, eqb}
use Rattle.std.proofs.Common.{arith}
use Rattle.std.proofs.Math.ListN.{length}
use borrow.Author.Tests.{leb-true, le-leb, ltb-true, lt-ltb, eqb-true, eq-eqb}
use Rattle.theorems.specs.ListLaws.{same_bool}
use Rattle.trees.specs.Plain.{keep}
use Rattle.trees.specs.Consensus.{recorded, count, is_strict, is_majority, strict, majority}
use Rattle.theorems.specs.ConsensusLaws.{count_most}
use Rattle.consensus.specs.Chosen.{in_enough, chosen}

pub keep_same : (p q : ℕ → Bool) (l : List ℕ) → ((m : ℕ) → p m ≡ q m) → keep p l ≡ keep q l
unfolding keep
keep_same p q [] f = refl
keep_same p q (x ∷ l) f = rw (f x, keep_same p q l f)

module _ (ts : List (List ℕ)) where
  -- "strict if all t trees have it"
  pub chosen-strict : chosen (length ts) ts ≡ strict ts
  unfolding chosen in_enough strict is_strict
  chosen-strict =
      keep_same (in_enough (length ts) ts) (is_strict ts) (recorded ts)
      (λ m.
      let c = count ts m in
      let n = length ts in
      same_bool (leb n c) (eqb c n) (λ e. eq-eqb c n (omega (arith, leb-true n c e, count_most ts m))) (λ e. le-leb n c (omega (arith, eqb-true c n e))))

  -- "majority if twice its count is more than t"
  pub chosen-majority : chosen (length ts / 2 + 1) ts ≡ majority ts
  unfolding chosen in_enough majority is_majority
  chosen-majority =
      keep_same (in_enough (length ts / 2 + 1) ts) (is_majority ts) (recorded ts)
      (λ m.
      let c = count ts m in
      let n = length ts in
      same_bool (leb (n / 2 + 1) c) (ltb n (2 * c)) (λ e. lt-ltb n (2 * c) (omega (arith, leb-true (n / 2 + 1) c e)))
      (λ e. le-leb (n / 2 + 1) c (omega (arith, ltb-true n (2 * c) e))))
