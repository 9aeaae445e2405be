-- The laws of the search for a mask's count. Assumes nothing.
--
--   search-here, search-next, search-end     the mask stands at place j, stands behind it, is not among them
--   counted-length                           there are as many counts
--   count-found                              what is found of a mask of the list is its count
use Rattle.std.specs.Prelude.{ℕ, ◌+◌, ◌≤◌, ◌<◌, ◌≡◌, refl, ◌⊎◌, Bool, true, false, List, [], ◌∷◌, map, eqb, length, get_or, drop, if◌then◌else◌}
use Rattle.std.proofs.Math.Numerals.{add-one}
use Rattle.std.proofs.Common.{arith, sym, ap, ◌∙◌, inl, inr, drop_of_length-le, eqb-true}
use Rattle.std.proofs.lemmas.List.{length-map}
use Rattle.std.proofs.Math.Seq.{drop-cons}
use Rattle.std.proofs.lemmas.Bool.{eqb-false}
use Rattle.trees.specs.Consensus.{count}
use Rattle.theorems.specs.ListLaws.{Mem}
use Rattle.drawing.specs.Drawing.{count_in, Counted}

module _ (ms cs : List ℕ) (x j : ℕ) where
  module _ (h : j < length ms) (l : length ms ≤ length cs) where
    searched : count_in (drop j ms) (drop j cs) x ≡ (if eqb (get_or ms j 0) x then get_or cs j 0 else count_in (drop (j + 1) ms) (drop (j + 1) cs) x)
    unfolding count_in
    searched = rw (drop-cons ms j 0 h, drop-cons cs j 0 (omega arith), add-one j)

    pub search-here : eqb (get_or ms j 0) x ≡ true → count_in (drop j ms) (drop j cs) x ≡ get_or cs j 0
    search-here e = rw e at searched

    pub search-next : eqb (get_or ms j 0) x ≡ false → count_in (drop j ms) (drop j cs) x ≡ count_in (drop (j + 1) ms) (drop (j + 1) cs) x
    search-next e = rw e at searched

  pub search-end : length ms ≤ j → count_in (drop j ms) (drop j cs) x ≡ 0
  unfolding count_in
  search-end h = rw (drop_of_length-le ms {i = j} h)

found : (f : ℕ → ℕ) (ms : List ℕ) (x : ℕ) → Mem x ms → count_in ms (map f ms) x ≡ f x
unfolding count_in
found f [] x k = elim k [ ]
found f (m ∷ ms) x k = go (eqb m x) refl k (found f ms x)
  where
    go : (b : Bool) → eqb m x ≡ b → (x ≡ m) ⊎ Mem x ms → (Mem x ms → count_in ms (map f ms) x ≡ f x) → (if b then f m else count_in ms (map f ms) x) ≡ f x
    go true e k ih = ap f (eqb-true m x e)
    go false e (inl q) ih = absurd (eqb-false m x e (sym q))
    go false e (inr q) ih = ih q

pub counted-length : {ts : List (List ℕ)} {ms cs : List ℕ} → Counted ts ms cs → length cs ≡ length ms
counted-length {ts} {ms} c = ap length c.counts ∙ length-map ms (count ts)

pub count-found : {ts : List (List ℕ)} {ms cs : List ℕ} → Counted ts ms cs → (x : ℕ) → Mem x ms → count_in ms cs x ≡ count ts x
count-found {ts} {ms} {cs} c x k = rw c.counts (found (count ts) ms x k)
