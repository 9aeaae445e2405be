-- Unfinished text touches only its own lane.
--
--   recording-opening, recording-texts     a verdict changes neither the opening nor a lane
--   feeding-texts, closing-texts      which lane a call changes, and how
--   unfinished-keeps-trees, unfinished-keeps-lengths     a piece that ends no text leaves the trees and their lengths as they were
--   other-lanes-kept                  feeding a lane leaves every other lane as it was
--   other-lanes-kept-closing          so does closing it
--   own-lane-only                     collections that differ only in the texts of other lanes give the same answer to a piece,
--                                     and differ afterwards only there
--   own-lane-only-closing             so do they to a closing
use Rattle.std.specs.Prelude.{ℕ, zero, suc, ◌≡◌, Bool, ltb, length, if◌then◌else◌}
use Rattle.std.proofs.Common.{arith, ◌∙◌, subst₂, length-set}
use Rattle.std.proofs.Math.Path.{refl, ap, sym, subst}
use Rattle.std.proofs.Math.Bool.{true, false}
use mathlib.Core.List.{List, [], ◌∷◌}
use Rattle.std.proofs.Math.ListN.{get_or, set}
use Rattle.std.proofs.Math.Seq.{get_or-set_other}
use Rattle.trees.specs.Plain.{Answer, refused, gives}
use Rattle.trees.specs.Text.{has_end}
use Rattle.trees.specs.Verdict.{Branches}
use Rattle.trees.specs.Held.{Held, Lane, holding, lane_of, with_lane, with_tree, open_in, longer, verdict, Fed, recording, finishing, feeding, Closed, closing}
use Rattle.theorems.specs.FeedingLaws.{ends_at, last_part, feeding_by, feeding-by, closing_by, closing-by}
use Rattle.theorems.specs.Alike.{Alike, SaveOthers}
use Rattle.theorems.specs.AlikeLaws.{same_alike, feeding-alike, closing-alike}

-- ---- what a call leaves of the opening and of the lanes

-- a lane after a piece: "After a semicolon the lane is empty either way"
abbrev pub lane_after : Lane → List ℕ → Lane
lane_after x p = if has_end (open_in x) p then holding [] else longer x p

-- the lanes after a call that leaves x in lane l, if there is such a lane
abbrev pub lanes_after : Bool → List Lane → ℕ → Lane → List Lane
lanes_after b xs l x = if b then set xs l x else xs

pub recording-opening : (h : Held) (v : Answer Branches) → (recording h v).opening ≡ h.opening
unfolding recording with_tree
recording-opening h (refused k) = refl
recording-opening h (gives b) = refl

pub recording-texts : (h : Held) (v : Answer Branches) → (recording h v).texts ≡ h.texts
unfolding recording with_tree
recording-texts h (refused k) = refl
recording-texts h (gives b) = refl

module _ (h : Held) (l : ℕ) where
  pub feeding-opening : (p : List ℕ) → (feeding h l p).after.opening ≡ h.opening
  unfolding finishing with_lane
  feeding-opening p = ap (λ (f : Fed). f.after.opening) (feeding-by h l p) ∙ go (ltb l h.opening.numbers.lanes) (ends_at h l p)
    where
      go : (b c : Bool) → (feeding_by b c h l p).after.opening ≡ h.opening
      go true true = recording-opening h (verdict h (longer (lane_of h l) (last_part h l p)))
      go true false = refl
      go false c = refl

  pub feeding-texts : (p : List ℕ) → (feeding h l p).after.texts ≡ lanes_after (ltb l h.opening.numbers.lanes) h.texts l (lane_after (lane_of h l) p)
  unfolding finishing with_lane
  feeding-texts p = ap (λ (f : Fed). f.after.texts) (feeding-by h l p) ∙ go (ltb l h.opening.numbers.lanes) (ends_at h l p)
    where
      go : (b c : Bool) → (feeding_by b c h l p).after.texts ≡ lanes_after b h.texts l (if c then holding [] else longer (lane_of h l) p)
      go true true = ap (λ (xs : List Lane). set xs l (holding [])) (recording-texts h (verdict h (longer (lane_of h l) (last_part h l p))))
      go true false = refl
      go false true = refl
      go false false = refl

  pub unfinished-keeps-trees : (p : List ℕ) → ends_at h l p ≡ false → (feeding h l p).after.trees ≡ h.trees
  unfolding with_lane
  unfinished-keeps-trees p e = ap (λ (f : Fed). f.after.trees) (feeding-by h l p ∙ ap (λ c. feeding_by (ltb l h.opening.numbers.lanes) c h l p) e) ∙ go (ltb l h.opening.numbers.lanes)
    where
      go : (b : Bool) → (feeding_by b false h l p).after.trees ≡ h.trees
      go true = refl
      go false = refl

  pub unfinished-keeps-lengths : (p : List ℕ) → ends_at h l p ≡ false → (feeding h l p).after.lengths ≡ h.lengths
  unfolding with_lane
  unfinished-keeps-lengths p e =
      ap (λ (f : Fed). f.after.lengths) (feeding-by h l p ∙ ap (λ c. feeding_by (ltb l h.opening.numbers.lanes) c h l p) e) ∙ go (ltb l h.opening.numbers.lanes)
    where
      go : (b : Bool) → (feeding_by b false h l p).after.lengths ≡ h.lengths
      go true = refl
      go false = refl

  pub closing-opening : (closing h l).after.opening ≡ h.opening
  unfolding with_lane
  closing-opening = ap (λ (f : Closed). f.after.opening) (closing-by h l) ∙ go (ltb l h.opening.numbers.lanes)
    where
      go : (b : Bool) → (closing_by b h l).after.opening ≡ h.opening
      go true = refl
      go false = refl

  pub closing-texts : (closing h l).after.texts ≡ lanes_after (ltb l h.opening.numbers.lanes) h.texts l (holding [])
  unfolding with_lane
  closing-texts = ap (λ (f : Closed). f.after.texts) (closing-by h l) ∙ go (ltb l h.opening.numbers.lanes)
    where
      go : (b : Bool) → (closing_by b h l).after.texts ≡ lanes_after b h.texts l (holding [])
      go true = refl
      go false = refl

  -- ---- other lanes

  other-kept : (b : Bool) (x : Lane) (j : ℕ) → (j ≡ l → ⊥) → get_or (lanes_after b h.texts l x) j (holding []) ≡ lane_of h j
  unfolding lane_of
  other-kept true x j f = get_or-set_other h.texts l j x (holding []) f
  other-kept false x j f = refl

  pub other-lanes-kept : (p : List ℕ) (j : ℕ) → (j ≡ l → ⊥) → lane_of (feeding h l p).after j ≡ lane_of h j
  unfolding lane_of
  other-lanes-kept p j f = ap (λ (xs : List Lane). get_or xs j (holding [])) (feeding-texts p) ∙ other-kept (ltb l h.opening.numbers.lanes) (lane_after (lane_of h l) p) j f

  pub other-lanes-kept-closing : (j : ℕ) → (j ≡ l → ⊥) → lane_of (closing h l).after j ≡ lane_of h j
  unfolding lane_of
  other-lanes-kept-closing j f = ap (λ (xs : List Lane). get_or xs j (holding [])) closing-texts ∙ other-kept (ltb l h.opening.numbers.lanes) (holding []) j f

-- ---- the lane's own text decides

-- the lane l and the number of lanes, of two lists of lanes
record SameLane (l : ℕ) (xs ys : List Lane) : Type 0 where
  at : get_or xs l (holding []) ≡ get_or ys l (holding [])
  many : length xs ≡ length ys

set-same-lane : (xs ys : List Lane) (l : ℕ) (x : Lane) → length xs ≡ length ys → get_or (set xs l x) l (holding []) ≡ get_or (set ys l x) l (holding [])
set-same-lane [] [] l x e = refl
set-same-lane [] (y ∷ ys) l x e = absurd (omega arith)
set-same-lane (z ∷ xs) [] l x e = absurd (omega arith)
set-same-lane (z ∷ xs) (y ∷ ys) zero x e = refl
set-same-lane (z ∷ xs) (y ∷ ys) (suc l) x e = set-same-lane xs ys l x (omega arith)

after-same-lane : (b : Bool) (xs ys : List Lane) (l : ℕ) (x : Lane) → SameLane l xs ys → SameLane l (lanes_after b xs l x) (lanes_after b ys l x)
after-same-lane true xs ys l x s = record { at = set-same-lane xs ys l x s.many; many = length-set xs l x ∙ s.many ∙ sym (length-set ys l x) }
after-same-lane false xs ys l x s = s

module _ (l : ℕ) (h k : Held) (s : SaveOthers l h k) where
  save-alike : Alike h k
  save-alike = same_alike h k s.opening s.trees s.lengths

  -- the lanes after a call that leaves x in h's lane l and y, which is x, in k's
  save-lanes : (x y : Lane) → x ≡ y → SameLane l (lanes_after (ltb l h.opening.numbers.lanes) h.texts l x) (lanes_after (ltb l k.opening.numbers.lanes) k.texts l y)
  unfolding lane_of
  save-lanes x y e =
      subst (λ (zs : List Lane). SameLane l (lanes_after (ltb l h.opening.numbers.lanes) h.texts l x) zs)
      (λ i. lanes_after (ltb l (s.opening i).numbers.lanes) k.texts l (e i))
      (after-same-lane (ltb l h.opening.numbers.lanes) h.texts k.texts l x record { at = s.lane; many = s.lanes })

  fed-lanes : (p : List ℕ) → SameLane l (feeding h l p).after.texts (feeding k l p).after.texts
  fed-lanes p =
      subst₂ (SameLane l) (sym (feeding-texts h l p)) (sym (feeding-texts k l p))
      (save-lanes (lane_after (lane_of h l) p) (lane_after (lane_of k l) p) (ap (λ (x : Lane). lane_after x p) s.lane))

  closed-lanes : SameLane l (closing h l).after.texts (closing k l).after.texts
  closed-lanes = subst₂ (SameLane l) (sym (closing-texts h l)) (sym (closing-texts k l)) (save-lanes (holding []) (holding []) refl)

  pub own-lane-only : (p : List ℕ) → ((feeding h l p).taken ≡ (feeding k l p).taken) × ((feeding h l p).answer ≡ (feeding k l p).answer) × SaveOthers l (feeding h l p).after (feeding k l p).after
  unfolding lane_of
  own-lane-only p =
      let f = feeding-alike h k save-alike l p s.lane in
      let g = fed-lanes p in (
        f.taken,
        f.answer,
        record {
          opening = feeding-opening h l p ∙ s.opening ∙ sym (feeding-opening k l p);
          trees = f.after.trees;
          lengths = f.after.lengths;
          lane = g.at;
          lanes = g.many;
        },
      )

  pub own-lane-only-closing : ((closing h l).answer ≡ (closing k l).answer) × SaveOthers l (closing h l).after (closing k l).after
  unfolding lane_of
  own-lane-only-closing =
      let f = closing-alike h k save-alike l s.lane in
      let g = closed-lanes in (
        f.answer,
        record {
          opening = closing-opening h l ∙ s.opening ∙ sym (closing-opening k l);
          trees = f.after.trees;
          lengths = f.after.lengths;
          lane = g.at;
          lanes = g.many;
        },
      )
