-- Unfinished text touches only its own lane's next verdict or closing, over whole runs: two collections that differ in one lane's
-- unfinished text cannot be told apart until that text is ended or closed.
--
--   by_equal             two numbers are equal or they are not
--   quiet-run            a run that ends or closes the text of lane j on neither has the same answers on both, which differ afterwards only there
--   save-questions, save-collisions      such collections answer every question alike, that for the collision number too
--   quiet-questions, quiet-collisions    and so they do after the run
use Rattle.std.specs.Prelude.{ℕ, suc, ◌≡◌, refl, Bool, true, false, ltb, eqb}
use Rattle.std.proofs.Math.Path.{ap, ap₂, sym, subst}
use Rattle.std.proofs.Common.{◌∙◌, length-set, eqb-true}
use mathlib.Core.List.{List, [], ◌∷◌}
use Rattle.std.proofs.Math.ListN.{length, get_or}
use Rattle.std.proofs.lemmas.Bool.{eqb-false}
use Rattle.trees.specs.Plain.{Answer}
use Rattle.trees.specs.Held.{Held, Lane, holding, Progress, lane_of, recording, Fed, feeding, closing}
use Rattle.trees.specs.NexusCall.{on_text}
use Rattle.trees.specs.Withdrawing.{withdrawing}
use Rattle.trees.specs.Questions.{collisions_of}
use Rattle.trees.specs.Runs.{Call, feed, hand, close, withdraw, Heard, fed, closed_lane, withdrew, answer, next, answers, ending}
use Rattle.theorems.specs.Alike.{Alike, SaveOthers, SameAnswers}
use Rattle.theorems.specs.AlikeLaws.{same_alike, same-collisions, judged-alike, recorded-alike, withdrawing-alike, questions-alike}
use Rattle.theorems.specs.WithdrawLaws.{withdrawing-opening, withdrawing-texts}
use Rattle.theorems.specs.FeedingLaws.{ends_at, feeding_by, feeding-by}
use Rattle.theorems.specs.OwnLaneLaws.{lane_after, lanes_after, recording-opening, recording-texts, feeding-opening, feeding-texts, unfinished-keeps-trees, unfinished-keeps-lengths, other-lanes-kept, other-lanes-kept-closing, own-lane-only, own-lane-only-closing}
use Rattle.theorems.specs.Quiet.{Leaves, Quiet, SaveLane}

pub by_equal : (P : Type 0) (i j : ℕ) → (i ≡ j → P) → ((i ≡ j → ⊥) → P) → P
by_equal P i j f g = go (eqb i j) refl
  where
    go : (t : Bool) → eqb i j ≡ t → P
    go true e = f (eqb-true i j e)
    go false e = g (eqb-false i j e)

-- the same answer, and afterwards the same but for the text of lane j
abbrev Unseen : ℕ → Held → Held → Call → Type 0
Unseen j h k c = (answer h c ≡ answer k c) × SaveLane j (next h c) (next k c)

module _ (j : ℕ) (h k : Held) (s : SaveLane j h k) where
  -- ---- a call to another lane

  module _ (l : ℕ) (f : l ≡ j → ⊥) where
    other : SaveOthers l h k
    other = record { opening = s.opening; trees = s.trees; lengths = s.lengths; lane = s.others l f; lanes = s.lanes }

    unseen-fed : (p : List ℕ) → Unseen j h k (feed l p)
    unfolding answer next
    unseen-fed p =
        let o = own-lane-only l h k other p in (
          ap₂ (λ (n : ℕ) (a : Answer Progress). fed n a) o.0 o.1,
          record {
            opening = o.2.opening;
            trees = o.2.trees;
            lengths = o.2.lengths;
            lanes = o.2.lanes;
            others = λ i g. by_equal (lane_of (feeding h l p).after i ≡ lane_of (feeding k l p).after i) i l
                (λ e. subst (λ (x : ℕ). lane_of (feeding h l p).after x ≡ lane_of (feeding k l p).after x) (sym e) o.2.lane)
                (λ d. other-lanes-kept h l p i d ∙ s.others i g ∙ sym (other-lanes-kept k l p i d));
          },
        )

    unseen-closed : Unseen j h k (close l)
    unfolding answer next
    unseen-closed =
        let o = own-lane-only-closing l h k other in (
          ap closed_lane o.0,
          record {
            opening = o.1.opening;
            trees = o.1.trees;
            lengths = o.1.lengths;
            lanes = o.1.lanes;
            others = λ i g. by_equal (lane_of (closing h l).after i ≡ lane_of (closing k l).after i) i l
                (λ e. subst (λ (x : ℕ). lane_of (closing h l).after x ≡ lane_of (closing k l).after x) (sym e) o.1.lane)
                (λ d. other-lanes-kept-closing h l i d ∙ s.others i g ∙ sym (other-lanes-kept-closing k l i d));
          },
        )

  -- ---- a piece to lane j itself that does not end its text

  -- what is heard of it, from the test that there is such a lane
  abbrev heard_by : Bool → Held → List ℕ → Heard
  heard_by b x p = fed (feeding_by b false x j p).taken (feeding_by b false x j p).answer

  unfinished : (x : Held) (p : List ℕ) → ends_at x j p ≡ false → answer x (feed j p) ≡ heard_by (ltb j x.opening.numbers.lanes) x p
  unfolding answer
  unfinished x p e = ap (λ (f : Fed). fed f.taken f.answer) (feeding-by x j p ∙ ap (λ (c : Bool). feeding_by (ltb j x.opening.numbers.lanes) c x j p) e)

  heard-same : (b : Bool) (p : List ℕ) → heard_by b h p ≡ heard_by b k p
  heard-same true p = refl
  heard-same false p = refl

  lanes-many : (x : Held) (p : List ℕ) → length (feeding x j p).after.texts ≡ length x.texts
  lanes-many x p = ap length (feeding-texts x j p) ∙ go (ltb j x.opening.numbers.lanes)
    where
      go : (b : Bool) → length (lanes_after b x.texts j (lane_after (lane_of x j) p)) ≡ length x.texts
      go true = length-set x.texts j (lane_after (lane_of x j) p)
      go false = refl

  unseen-unfinished : (p : List ℕ) → ends_at h j p ≡ false → ends_at k j p ≡ false → Unseen j h k (feed j p)
  unfolding next
  unseen-unfinished p e f = (
    unfinished h p e ∙ heard-same (ltb j h.opening.numbers.lanes) p ∙ (λ i. heard_by (ltb j (s.opening i).numbers.lanes) k p) ∙ sym (unfinished k p f),
    record {
      opening = feeding-opening h j p ∙ s.opening ∙ sym (feeding-opening k j p);
      trees = unfinished-keeps-trees h j p e ∙ s.trees ∙ sym (unfinished-keeps-trees k j p f);
      lengths = unfinished-keeps-lengths h j p e ∙ s.lengths ∙ sym (unfinished-keeps-lengths k j p f);
      lanes = lanes-many h p ∙ s.lanes ∙ sym (lanes-many k p);
      others = λ i g. other-lanes-kept h j p i g ∙ s.others i g ∙ sym (other-lanes-kept k j p i g);
    },
  )

-- ---- a text that is handed in, and a withdrawal

save-alike : (j : ℕ) (h k : Held) → SaveLane j h k → Alike h k
save-alike j h k s = same_alike h k s.opening s.trees s.lengths

module _ (j : ℕ) (h k : Held) (s : SaveLane j h k) (t : List ℕ) where
  lane-kept : (x : Held) (i : ℕ) → lane_of (recording x (on_text x t)) i ≡ lane_of x i
  unfolding lane_of
  lane-kept x i = ap (λ (xs : List Lane). get_or xs i (holding [])) (recording-texts x (on_text x t))

  unseen-handed : Unseen j h k (hand t)
  unfolding answer next
  unseen-handed = (
    ap (fed (suc (length t))) (judged-alike h k (save-alike j h k s) t),
    record {
      opening = recording-opening h (on_text h t) ∙ s.opening ∙ sym (recording-opening k (on_text k t));
      trees = (recorded-alike h k (save-alike j h k s) t).trees;
      lengths = (recorded-alike h k (save-alike j h k s) t).lengths;
      lanes = ap length (recording-texts h (on_text h t)) ∙ s.lanes ∙ sym (ap length (recording-texts k (on_text k t)));
      others = λ i g. lane-kept h i ∙ s.others i g ∙ sym (lane-kept k i);
    },
  )

module _ (j : ℕ) (h k : Held) (s : SaveLane j h k) (n : ℕ) where
  lane-stays : (x : Held) (i : ℕ) → lane_of (withdrawing x n).after i ≡ lane_of x i
  unfolding lane_of
  lane-stays x i = ap (λ (xs : List Lane). get_or xs i (holding [])) (withdrawing-texts x n)

  unseen-withdrawn : Unseen j h k (withdraw n)
  unfolding answer next
  unseen-withdrawn =
      let w = withdrawing-alike h k (save-alike j h k s) n in (
        ap withdrew w.answer,
        record {
          opening = withdrawing-opening h n ∙ s.opening ∙ sym (withdrawing-opening k n);
          trees = w.after.trees;
          lengths = w.after.lengths;
          lanes = ap length (withdrawing-texts h n) ∙ s.lanes ∙ sym (ap length (withdrawing-texts k n));
          others = λ i g. lane-stays h i ∙ s.others i g ∙ sym (lane-stays k i);
        },
      )

-- ---- a run

unseen : (j : ℕ) (h k : Held) → SaveLane j h k → (c : Call) → Leaves j h c → Leaves j k c → Unseen j h k c
unfolding Leaves
unseen j h k s (feed l p) q r =
    by_equal (Unseen j h k (feed l p)) l j
    (λ e. subst (λ (x : ℕ). Unseen j h k (feed x p)) (sym e)
    (unseen-unfinished j h k s p (subst (λ (x : ℕ). ends_at h x p ≡ false) e (q e)) (subst (λ (x : ℕ). ends_at k x p ≡ false) e (r e))))
    (λ f. unseen-fed j h k s l f p)
unseen j h k s (hand t) q r = unseen-handed j h k s t
unseen j h k s (close l) q r = unseen-closed j h k s l q
unseen j h k s (withdraw n) q r = unseen-withdrawn j h k s n

pub quiet-run : (j : ℕ) (cs : List Call) (h k : Held) → SaveLane j h k → Quiet j h cs → Quiet j k cs → (answers h cs ≡ answers k cs) × SaveLane j (ending h cs) (ending k cs)
unfolding answers ending Quiet
quiet-run j [] h k s q r = (refl, s)
quiet-run j (c ∷ cs) h k s q r =
    let u = unseen j h k s c q.0 r.0 in
    let t = quiet-run j cs (next h c) (next k c) u.1 q.1 r.1 in
    (ap₂ (λ (a : Heard) (as' : List Heard). a ∷ as') u.0 t.0, t.1)

-- ---- the questions

pub save-questions : (j : ℕ) (h k : Held) → SaveLane j h k → SameAnswers h k
save-questions j h k s = questions-alike h k (save-alike j h k s)

pub save-collisions : (j : ℕ) (h k : Held) → SaveLane j h k → collisions_of h ≡ collisions_of k
save-collisions j h k s = same-collisions h k s.opening s.trees

module _ (j : ℕ) (cs : List Call) (h k : Held) (s : SaveLane j h k) (q : Quiet j h cs) (r : Quiet j k cs) where
  pub quiet-questions : SameAnswers (ending h cs) (ending k cs)
  quiet-questions = save-questions j (ending h cs) (ending k cs) (quiet-run j cs h k s q r).1

  pub quiet-collisions : collisions_of (ending h cs) ≡ collisions_of (ending k cs)
  quiet-collisions = save-collisions j (ending h cs) (ending k cs) (quiet-run j cs h k s q r).1
