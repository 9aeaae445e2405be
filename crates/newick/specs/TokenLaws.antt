-- The labels that a text's tokens mark are the first of a tree's leaves.
--
--   tokens-lie         the tokens of the first k leaves lie in the text
--   labels-first       and mark the labels of the first leaves
use Rattle.std.specs.Prelude.{◌≡◌, ℕ, zero, suc, ◌+◌, ◌*◌, ◌<◌, ◌≤◌, List, [], ◌∷◌, ◌++◌, length, get_or, take, slice_index, slice_index_or, slice_set}
use Rattle.std.proofs.Common.{arith, ap, ◌∙◌, length-set, get_or-set_same, get_or-set_other, take-suc}
use Rattle.std.proofs.Math.Path.{refl, ap₂, sym}
use Rattle.std.proofs.Math.Seq.{slice}
use Rattle.std.proofs.lemmas.List.Edits.{sets}
use Rattle.newick.specs.Shape.{Labels, none, one}
use Rattle.newick.specs.Running.{labels_at}
use Rattle.newick.specs.Leaves.{Tokens}

-- ---- a list with others put over it

sets-before : (vs l : List ℕ) (i n : ℕ) → n < i → slice_index (sets l i vs) n ≡ slice_index l n
sets-before [] l i n h = refl
sets-before (v ∷ vs) l i n h = sets-before vs (slice_set l i v) (suc i) n (omega arith) ∙ get_or-set_other l i n v 0 (λ e. omega arith)

sets-at : (vs l : List ℕ) (i n : ℕ) → n < length vs → i + n < length l → slice_index (sets l i vs) (i + n) ≡ slice_index vs n
sets-at [] l i n h k = absurd (omega arith)
sets-at (v ∷ vs) l i zero h k =
    ap (λ (m : ℕ). slice_index (sets (slice_set l i v) (suc i) vs) m) (omega arith)
    ∙ sets-before vs (slice_set l i v) (suc i) i (omega arith)
    ∙ get_or-set_same l i v 0 (omega arith)
sets-at (v ∷ vs) l i (suc n) h k =
    ap (λ (m : ℕ). slice_index (sets (slice_set l i v) (suc i) vs) m) (omega arith)
    ∙ sets-at vs (slice_set l i v) (suc i) n (omega arith) (omega (arith, length-set l i v))

pub over-at : (vs l : List ℕ) (n : ℕ) → n < length vs → n < length l → slice_index (sets l 0 vs) n ≡ slice_index vs n
over-at vs l n h k = ap (λ (m : ℕ). slice_index (sets l 0 vs) m) (omega arith) ∙ sets-at vs l 0 n h (omega arith)

-- ---- labels

module _ (s : List ℕ) where
  labels-size : {ts : List ℕ} {ws : List (List ℕ)} → Labels s ts ws → length ts ≡ 2 * length ws
  labels-size none = refl
  labels-size (one a b r) = omega (arith, labels-size r)

  -- token j begins no later than it ends, ends in the text, and has label j
  abbrev Lies : List ℕ → List (List ℕ) → ℕ → Type 0
  Lies ts ws j = (slice_index ts (2 * j) ≤ slice_index ts (2 * j + 1)) × (slice_index ts (2 * j + 1) ≤ length s) × (slice (slice_index ts (2 * j)) (slice_index ts (2 * j + 1)) s ≡ slice_index_or ws j [])

  labels_at_lem : {ts : List ℕ} {ws : List (List ℕ)} → Labels s ts ws → (j : ℕ) → j < length ws → Lies ts ws j
  labels_at_lem none j h = absurd (omega arith)
  labels_at_lem (one a b r) zero h = (a, b, refl)
  labels_at_lem (one {b = b} {e = e} {ts = ts} {ws = ws} p q r) (suc j) h =
      let n : 2 * suc j ≡ suc (suc (2 * j)) = omega arith in
      let m : 2 * suc j + 1 ≡ suc (suc (2 * j + 1)) = omega arith in
      let x : get_or (b ∷ e ∷ ts) (2 * suc j) 0 ≡ get_or ts (2 * j) 0 = ap (λ (k : ℕ). slice_index (b ∷ e ∷ ts) k) n in
      let y : get_or (b ∷ e ∷ ts) (2 * suc j + 1) 0 ≡ get_or ts (2 * j + 1) 0 = ap (λ (k : ℕ). slice_index (b ∷ e ∷ ts) k) m in
      let w = labels_at_lem r j (omega arith) in
      (omega (arith, x, y, w.0), omega (arith, y, w.1), ap₂ (λ (f g : ℕ). slice f g s) x y ∙ w.2)

  module _ {ts : List ℕ} {ws : List (List ℕ)} (l l' : List ℕ) (labels : Labels s ts ws) (e : l' ≡ sets l 0 ts) (k : ℕ) (few : k ≤ length ws) (room : 2 * k ≤ length l) where
    same_at : (n : ℕ) → n < 2 * k → slice_index l' n ≡ slice_index ts n
    same_at n h = ap (λ z. slice_index z n) e ∙ over-at ts l n (omega (arith, labels-size labels)) (omega arith)

    lies : (j : ℕ) → j < k → Lies l' ws j
    lies j h =
        rw (same_at (2 * j) (omega arith), same_at (2 * j + 1) (omega arith)) (labels_at_lem labels j (omega arith))

    pub tokens-lie : Tokens s l' k
    tokens-lie = record {
      begins = λ j h. (lies j h).0;
      ends = λ j h. (lies j h).1;
    }

    pub labels-first : (j : ℕ) → j ≤ k → labels_at s l' j ≡ take j ws
    unfolding labels_at
    labels-first zero h = refl
    labels-first (suc j) h = ap₂ (λ y z. y ++ (z ∷ [])) (labels-first j (omega arith)) (lies j h).2 ∙ sym (take-suc ws j [] (omega arith))
