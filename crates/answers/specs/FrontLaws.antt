-- Laws of the buffers that are lent for an answer: what a loop has copied into one, and its front. Assumes nothing.
--
--   copied-length     a buffer with the first j of some elements at its front is as long as it was
--   copied_more       one turn of a loop that copies
--   copied_all        at the loop's end
use Rattle.std.specs.Prelude.{ℕ, ◌+◌, ◌≤◌, ◌<◌, ◌≡◌, List, ◌++◌, length, get_or, set, take, drop}
use Rattle.std.proofs.Common.{zero-add, add-one, arith, ap, ◌∙◌}
use Rattle.std.proofs.Math.Seq.{take-length, paste-suc}
use Rattle.std.proofs.lemmas.List.Edits.{length-paste}

module _ (xs l t : List ℕ) (j : ℕ) (e : t ≡ take j xs ++ drop j l) where
  pub copied-length : j ≤ length xs → j ≤ length l → length t ≡ length l
  copied-length a b = ap length e ∙ rw (zero-add j) at (length-paste l 0 xs j (omega arith) a)

  pub copied_more : (v : ℕ) → j < length xs → j < length l → v ≡ get_or xs j 0 → set t j v ≡ take (j + 1) xs ++ drop (j + 1) l
  copied_more v a b q = rw (e, q, add-one j) (rw (zero-add j, zero-add) at (paste-suc l 0 xs j 0 (omega arith) a))

  pub copied_all : j ≡ length xs → t ≡ xs ++ drop j l
  copied_all h = e ∙ ap (λ (ys : List ℕ). ys ++ drop j l) (ap (λ (n : ℕ). take n xs) h ∙ take-length xs)
