-- Laws of alike collections: verdicts, feeding, closing, withdrawing and questions have the same answers.
--
--   same_alike, same-collisions    collections with the same opening, trees and lengths are alike, and have the same collision number
--   verdict-alike                  the verdict on a lane's text
--   feeding-alike, closing-alike   feeding and closing a lane that holds the same
--   judged-alike, recorded-alike   a text that is handed in
--   withdrawing-alike              withdrawing a tree
--   questions-alike                every question but that for the collision number
use Rattle.std.specs.Prelude.{ℕ, suc, ◌+◌, ◌≡◌, Bool, not, ltb, eqb, length, if◌then◌else◌}
use Rattle.std.proofs.Math.Path.{refl}
use Rattle.std.proofs.Common.{ap, sym, ◌∙◌, subst}
use Rattle.std.proofs.Math.Bool.{true, false}
use mathlib.Core.List.{List, [], ◌∷◌, ◌++◌}
use Rattle.trees.specs.Plain.{keep, member, Answer, refused, gives}
use Rattle.trees.specs.Text.{has_end, before_end}
use Rattle.trees.specs.Consensus.{recorded}
use Rattle.trees.specs.Value.{Length}
use Rattle.trees.specs.Verdict.{Branches, judged_with}
use Rattle.trees.specs.Held.{Held, Lane, holding, overrun, lane_of, with_lane, with_tree, open_in, longer, new_splits, room_for, with_room, verdict, accepted, Fed, finished, recording, finishing, feeding, closed, closing}
use Rattle.trees.specs.NexusCall.{on_text}
use Rattle.trees.specs.Withdrawing.{without_at, without_tree, withdrawing}
use Rattle.trees.specs.Questions.{trees_held, splits_held, split_list, split_number, tree_number, one_sided_of, doubled_of, matrix_of, collisions_of, strict_of, majority_of, both_of, written_of, weighted_of, sums_of}
use Rattle.trees.specs.SplitFileCall.{file_of, reading_of, merging_of, strict_file_of, majority_file_of}
use Rattle.trees.specs.PhylipCall.{phylip_of}
use Rattle.trees.specs.Claim.{claim_of}
use Rattle.theorems.specs.FeedingLaws.{ends_at, feeding_by, feeding-by, closing_by, closing-by}
use Rattle.theorems.specs.WithdrawLaws.{withdrawing_by, withdrawing-by}
use Rattle.theorems.specs.Alike.{Alike, SameFed, SameClosed, SameWithdrawn, SameAnswers}

-- ---- the same opening

module _ (h k : Held) (o : h.opening ≡ k.opening) (t : h.trees ≡ k.trees) where
  pub same_alike : h.lengths ≡ k.lengths → Alike h k
  same_alike l = record {
    taxa = λ i. (o i).numbers.taxa;
    names = λ i. (o i).names;
    lanes = λ i. (o i).numbers.lanes;
    tree_room = λ i. (o i).numbers.tree_room;
    split_room = λ i. (o i).numbers.split_room;
    kept = λ i. (o i).numbers.kept;
    trees = t;
    lengths = l;
  }

  pub same-collisions : collisions_of h ≡ collisions_of k
  unfolding collisions_of
  same-collisions = λ i. collisions_of (record { opening = o i; trees = t i; lengths = []; texts = [] })

-- ---- verdicts

-- the room for a tree, from what it depends on
abbrev room_by : ℕ → ℕ → List (List ℕ) → Branches → Answer Branches
room_by tree_room split_room ts b =
    if eqb (length ts) tree_room then refused 11
    else if ltb split_room (length (recorded ts) + length (keep (λ m. not (member m (recorded ts))) b.splits)) then refused 12
    else gives b

-- what feeding does where the piece p ends the text of lane l, which holds x
abbrev text_ended : Held → ℕ → List ℕ → Lane → Fed
text_ended h l p x = let q = before_end (open_in x) p in finishing h l (suc (length q)) (verdict h (longer x q))

module _ (h k : Held) (a : Alike h k) where
  room-alike : (b : Branches) → room_for h b ≡ room_for k b
  unfolding room_for new_splits
  room-alike b = λ i. room_by (a.tree_room i) (a.split_room i) (a.trees i) b

  with_room-alike : (v : Answer Branches) → with_room h v ≡ with_room k v
  unfolding with_room
  with_room-alike (refused n) = refl
  with_room-alike (gives b) = room-alike b

  pub verdict-alike : (x : Lane) → verdict h x ≡ verdict k x
  unfolding verdict
  verdict-alike (overrun q) = refl
  verdict-alike (holding s) =
      with_room-alike (judged_with h.opening.numbers.kept h.opening.names s) ∙ (λ i. with_room k (judged_with (a.kept i) (a.names i) s))

  -- ---- feeding

  -- the same openings, with other trees, lengths and lanes
  parts-alike : (ts us : List (List ℕ)) (xss yss : List (List Length)) (xs ys : List Lane) → ts ≡ us → xss ≡ yss
      → Alike (record { opening = h.opening; trees = ts; lengths = xss; texts = xs }) (record { opening = k.opening; trees = us; lengths = yss; texts = ys })
  parts-alike ts us xss yss xs ys t l =
      record {
        taxa = a.taxa;
        names = a.names;
        lanes = a.lanes;
        tree_room = a.tree_room;
        split_room = a.split_room;
        kept = a.kept;
        trees = t;
        lengths = l;
      }

  lane-alike : (l : ℕ) (x y : Lane) → Alike (with_lane h l x) (with_lane k l y)
  unfolding with_lane
  lane-alike l x y = parts-alike _ _ _ _ _ _ a.trees a.lengths

  -- with the tree b more
  abbrev more_trees : (b : Branches) → (h.trees ++ b.splits ∷ [] ≡ k.trees ++ b.splits ∷ []) × (h.lengths ++ b.lengths ∷ [] ≡ k.lengths ++ b.lengths ∷ [])
  more_trees b = (λ i. a.trees i ++ b.splits ∷ [], λ i. a.lengths i ++ b.lengths ∷ [])

  tree-alike : (b : Branches) → Alike (with_tree h b) (with_tree k b)
  unfolding with_tree
  tree-alike b = parts-alike _ _ _ _ _ _ (more_trees b).0 (more_trees b).1

  finishing-alike : (l n : ℕ) (v : Answer Branches) → SameFed (finishing h l n v) (finishing k l n v)
  unfolding finishing finished recording with_tree with_lane
  finishing-alike l n (refused r) = record { taken = refl; answer = refl; after = lane-alike l (holding []) (holding []) }
  finishing-alike l n (gives b) =
      record {
        taken = refl;
        answer = λ i. gives (accepted (length (a.trees i)));
        after = parts-alike _ _ _ _ _ _ (more_trees b).0 (more_trees b).1;
      }

  ended-alike : (l : ℕ) (p : List ℕ) (x : Lane) → SameFed (text_ended h l p x) (text_ended k l p x)
  ended-alike l p x =
      let q = before_end (open_in x) p in
      subst (λ (v : Answer Branches). SameFed (text_ended h l p x) (finishing k l (suc (length q)) v)) (verdict-alike (longer x q)) (finishing-alike l (suc (length q)) (verdict h (longer x q)))

  fed-alike : (l : ℕ) (p : List ℕ) (b c : Bool) → lane_of h l ≡ lane_of k l → SameFed (feeding_by b c h l p) (feeding_by b c k l p)
  fed-alike l p true true e = subst (λ (x : Lane). SameFed (text_ended h l p (lane_of h l)) (text_ended k l p x)) e (ended-alike l p (lane_of h l))
  fed-alike l p true false e = record { taken = refl; answer = refl; after = lane-alike l (longer (lane_of h l) p) (longer (lane_of k l) p) }
  fed-alike l p false c e = record { taken = refl; answer = refl; after = a }

  pub feeding-alike : (l : ℕ) (p : List ℕ) → lane_of h l ≡ lane_of k l → SameFed (feeding h l p) (feeding k l p)
  feeding-alike l p e =
      let b = ltb l h.opening.numbers.lanes in
      let forth : feeding k l p ≡ feeding_by b (ends_at h l p) k l p = feeding-by k l p ∙ sym (λ i. feeding_by (ltb l (a.lanes i)) (has_end (open_in (e i)) p) k l p) in
      subst (λ f. SameFed f (feeding k l p)) (sym (feeding-by h l p)) (subst (SameFed (feeding_by b (ends_at h l p) h l p)) (sym forth) (fed-alike l p b (ends_at h l p) e))

  -- ---- a text that is handed in

  recording-alike : (v : Answer Branches) → Alike (recording h v) (recording k v)
  unfolding recording with_tree
  recording-alike (refused n) = a
  recording-alike (gives b) = tree-alike b

  finished-alike : (v : Answer Branches) → finished h v ≡ finished k v
  unfolding finished
  finished-alike (refused n) = refl
  finished-alike (gives b) = λ i. gives (accepted (length (a.trees i)))

  text-alike : (t : List ℕ) → on_text h t ≡ on_text k t
  unfolding on_text
  text-alike t = verdict-alike (longer (holding []) t)

  pub judged-alike : (t : List ℕ) → finished h (on_text h t) ≡ finished k (on_text k t)
  judged-alike t = finished-alike (on_text h t) ∙ ap (finished k) (text-alike t)

  pub recorded-alike : (t : List ℕ) → Alike (recording h (on_text h t)) (recording k (on_text k t))
  recorded-alike t = subst (λ (v : Answer Branches). Alike (recording h (on_text h t)) (recording k v)) (text-alike t) (recording-alike (on_text h t))

  -- ---- closing

  shut-alike : (l : ℕ) (b : Bool) → lane_of h l ≡ lane_of k l → SameClosed (closing_by b h l) (closing_by b k l)
  shut-alike l true e = record { answer = ap closed e; after = lane-alike l (holding []) (holding []) }
  shut-alike l false e = record { answer = refl; after = a }

  pub closing-alike : (l : ℕ) → lane_of h l ≡ lane_of k l → SameClosed (closing h l) (closing k l)
  closing-alike l e =
      let forth : closing k l ≡ closing_by (ltb l h.opening.numbers.lanes) k l = closing-by k l ∙ ap (λ n. closing_by (ltb l n) k l) (sym a.lanes) in
      subst (λ f. SameClosed f (closing k l)) (sym (closing-by h l))
      (subst (SameClosed (closing_by (ltb l h.opening.numbers.lanes) h l)) (sym forth) (shut-alike l (ltb l h.opening.numbers.lanes) e))

  -- ---- withdrawing

  withdrawn-alike : (n : ℕ) (b : Bool) → SameWithdrawn (withdrawing_by b h n) (withdrawing_by b k n)
  unfolding without_tree
  withdrawn-alike n true = record { answer = refl; after = parts-alike _ _ _ _ _ _ (λ i. without_at n (a.trees i)) (λ i. without_at n (a.lengths i)) }
  withdrawn-alike n false = record { answer = refl; after = a }

  pub withdrawing-alike : (n : ℕ) → SameWithdrawn (withdrawing h n) (withdrawing k n)
  withdrawing-alike n =
      let forth : withdrawing k n ≡ withdrawing_by (ltb n (length h.trees)) k n = withdrawing-by k n ∙ (λ i. withdrawing_by (ltb n (length (sym a.trees i))) k n) in
      subst (λ f. SameWithdrawn f (withdrawing k n)) (sym (withdrawing-by h n))
      (subst (SameWithdrawn (withdrawing_by (ltb n (length h.trees)) h n)) (sym forth) (withdrawn-alike n (ltb n (length h.trees))))

-- ---- questions

-- a collection with so many taxa, these names, trees and lengths, kept or not, and nothing else: what the questions come from
abbrev bare : ℕ → ℕ → List (List ℕ) → List (List ℕ) → List (List Length) → Held
bare taxa kept ns ts xss =
    record {
      opening = record { numbers = record { taxa = taxa; lanes = 0; tree_room = 0; split_room = 0; places = 0; kept = kept }; names = ns; first = []; second = [] };
      trees = ts;
      lengths = xss;
      texts = [];
    }

abbrev bare_of : Held → Held
bare_of h = bare h.opening.numbers.taxa h.opening.numbers.kept h.opening.names h.trees h.lengths

pub questions-alike : (h k : Held) → Alike h k → SameAnswers h k
unfolding trees_held splits_held split_list split_number tree_number one_sided_of doubled_of matrix_of strict_of majority_of both_of written_of weighted_of sums_of file_of reading_of merging_of strict_file_of majority_file_of phylip_of claim_of
questions-alike h k a =
    record {
      number-of-trees = λ z. trees_held (same z);
      number-of-splits = λ z. splits_held (same z);
      splits-and-counts = λ m c z. split_list (same z) m c;
      split-and-count = λ s z. split_number (same z) s;
      splits-of-tree = λ i r z. tree_number (same z) i r;
      one-sided = λ i j z. one_sided_of (same z) i j;
      doubled = λ i j z. doubled_of (same z) i j;
      matrix = λ r z. matrix_of (same z) r;
      strict = λ r z. strict_of (same z) r;
      majority = λ r z. majority_of (same z) r;
      both = λ r q z. both_of (same z) r q;
      written = λ i r z. written_of (same z) i r;
      weighted = λ i j z. weighted_of (same z) i j;
      sums = λ s z. sums_of (same z) s;
      split-file = λ r z. file_of (same z) r;
      file-read = λ f m c z. reading_of (same z) f m c;
      files-merged = λ f g r z. merging_of (same z) f g r;
      file-strict = λ f r z. strict_file_of (same z) f r;
      file-majority = λ f r z. majority_file_of (same z) f r;
      phylip = λ r z. phylip_of (same z) r;
      claim = λ t z. claim_of (same z) t;
      taxa = a.taxa;
      names = a.names;
      trees = a.trees;
    }
  where
    same : bare_of h ≡ bare_of k
    same = λ z. bare (a.taxa z) (a.kept z) (a.names z) (a.trees z) (a.lengths z)
