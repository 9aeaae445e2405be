-- The laws of the recursion, as the code makes it. Assumes nothing.
--
--   step_less, step_fewer                the ones of the first child and of the other branches are fewer
--   step_room                            the room of the other branches
--   step-none, step-last, step-more      what is stored: nothing, one child, a child, a comma and the others
--   child-leaf-put, child-inner-put      a child: its name, or its branches in brackets
--   child-room                           the room of these branches
use Rattle.std.specs.Prelude.{ℕ, ◌+◌, ◌*◌, ◌<◌, ◌≡◌, refl, Bool, true, false, List, [], ◌∷◌, eqb, length, get_or, set}
use Rattle.std.proofs.Common.{arith, ap, ◌∙◌, length-append, eqb-true}
use Rattle.std.specs.Int.Count.{ones}
use Rattle.std.proofs.lemmas.Bool.{eqb-false}
use Rattle.trees.specs.Mask.{without}
use Rattle.trees.specs.Written.{written_name}
use Rattle.theorems.specs.OnesLaws.{ones-zero, ones_pos}
use Rattle.putting.specs.Put.{Put}
use Rattle.writer.specs.Branch.{branch_text, child_mask, child_text, Step}
use Rattle.writer.specs.BranchLaws.{positive, child-ones, rest-ones}
use Rattle.writer.specs.BranchTextLaws.{child-leaf, child-inner, text-none, text-last, text-more}
use Rattle.putting.specs.PutLaws.{put-none, put_one, put_then}

-- ---- the branches of m that have the taxa r: the child of i and x, and those that have the taxa q

pub step-none : (ns : List (List ℕ)) (s : List ℕ) (m r : ℕ) (l : List ℕ) (at : ℕ) → r ≡ 0 → Put l at (branch_text ns s m r) l at
step-none ns s m r l at z = rw (text-none ns s m r z) (put-none l at)

module _ {n : ℕ} {ns : List (List ℕ)} {s : List ℕ} {m r i x : ℕ} (k : Step n ns s m r i x) where
  pub step_less : 2 * (ones x + ones x) + 1 < 2 * (ones m + ones r)
  step_less = go (eqb x 0) refl
    where
      go : (b : Bool) → eqb x 0 ≡ b → 2 * (ones x + ones x) + 1 < 2 * (ones m + ones r)
      go true e = omega (arith, ap ones (eqb-true x 0 e) ∙ ones-zero, ones_pos r (positive k))
      go false e = omega (arith, child-ones k (eqb-false x 0 e))

  module _ {q : ℕ} (d : q ≡ without r (child_mask i x)) where
    pub step_fewer : 2 * (ones m + ones q) < 2 * (ones m + ones r)
    step_fewer = omega (arith, rest-ones k d)

    pub step_room : (q ≡ 0 → ⊥) → length (branch_text ns s m r) ≡ length (child_text ns s i x) + 1 + length (branch_text ns s m q)
    step_room z = ap length (text-more k d z) ∙ omega (arith, length-append (child_text ns s i x) (44 ∷ branch_text ns s m q))

    pub step-last : {l u : List ℕ} {at e : ℕ} → Put l at (child_text ns s i x) u e → q ≡ 0 → Put l at (branch_text ns s m r) u e
    step-last v z = rw (text-last k d z) v

    pub step-more : {l u v after : List ℕ} {at e f : ℕ} → Put l at (child_text ns s i x) u e → (q ≡ 0 → ⊥) → v ≡ set u e 44
        → Put v (e + 1) (branch_text ns s m q) after f → Put l at (branch_text ns s m r) after f
    step-more a z c b = rw (text-more k d z) (put_then a (put_then (put_one c) b))

-- ---- the child of i and x

module _ (ns : List (List ℕ)) (s : List ℕ) (i x : ℕ) where
  pub child-leaf-put : {w l after : List ℕ} {at e : ℕ} → x ≡ 0 → get_or ns i [] ≡ w → Put l at (written_name w) after e
      → Put l at (child_text ns s i x) after e
  child-leaf-put z q a = rw (child-leaf ns s i x z, q) a

  pub child-inner-put : {l u v after : List ℕ} {at e : ℕ} → (x ≡ 0 → ⊥) → u ≡ set l at 40 → Put u (at + 1) (branch_text ns s x x) v e
      → after ≡ set v e 41 → Put l at (child_text ns s i x) after (e + 1)
  child-inner-put z a b c = rw (child-inner ns s i x z) (put_then (put_one a) (put_then b (put_one c)))

  pub child-room : (x ≡ 0 → ⊥) → length (child_text ns s i x) ≡ length (branch_text ns s x x) + 2
  child-room z = ap length (child-inner ns s i x z) ∙ omega (arith, length-append (branch_text ns s x x) (41 ∷ []))
