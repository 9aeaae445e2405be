-- What nobody can tell of a run of calls on lent bytes: how its texts were cut and mixed over lanes and batches, and its constants.
-- Feedings, closings, batches, questions and refused openings stand in a run in any mixture, from one accepted opening on. Assumes nothing.
--
--   after-all, verdicts-all   a run of the definitions holds and judges what the feedings and closings do that it hands in
--   reply-same                collections with the same answers reply alike
--   run-follows               the lent bytes are whole and hold what the definitions' run holds, those past the size stay, and every
--                             answer is the definitions'
--   same-verdicts             the verdicts, those of a batch in their places, are those of the whole texts, handed in one after another
--   same-verdicts-so-far      and so they are at any point of the run
--   same-trees, same-lengths  so are the trees and their lengths
--   same-questions            a question at any point of the run is answered as the whole texts before it give, handed in one after another
--   constants-do-not-show     two runs of the same calls, whose openings differ in the number of places and the constants alone, have the
--                             same answers, but for the collision number
use Prim.Native.Nat.{ℕ}
use Rattle.std.specs.Prelude.{◌≡◌, Bool, true, false, length, take, if◌then◌else◌}
use Rattle.std.proofs.Math.Path.{refl, ap}
use Rattle.std.proofs.Common.{sym, ap₂, subst, ◌∙◌, true≢false}
use mathlib.Core.List.{List, [], ◌∷◌, ◌++◌}
use Rattle.std.proofs.Math.ListN.{get_or}
use Rattle.trees.specs.Plain.{Answer, refused, gives}
use Rattle.trees.specs.Opening.{Numbers, Opening}
use Rattle.trees.specs.Held.{Held, Lane, holding, more_wanted, accepted, opened, lane_of}
use Rattle.trees.specs.Questions.{collisions_of}
use Rattle.trees.specs.SplitFileCall.{Splits}
use Rattle.trees.specs.Runs.{Call, Heard, fed, closed_lane, withdrew, answers, ending, Final, accepted_as, refused_with, closed_with, withdrawn_with, finals, whole_texts}
use Rattle.theorems.specs.Alike.{Alike, with_places, SameAnswers}
use Rattle.theorems.specs.AlikeLaws.{questions-alike}
use Rattle.theorems.specs.RunLaws.{ending-append, answers-append, ending-opening}
use Rattle.theorems.specs.LaneLaws.{lanes-make-no-difference, questions-make-no-difference, collisions-make-no-difference}
use Rattle.theorems.specs.HashFree.{alike-run}
use Rattle.opening.specs.Given.{opening_of}
use Rattle.layout.specs.Store.{held_at}
use Rattle.layout.specs.WholeStore.{whole_at}
use Rattle.store.specs.Lent.{Holds}
use Rattle.summary.specs.PartLaws.{holds_then}
use Rattle.release.specs.AlikeLaws.{release-alike}
use Rattle.promises.specs.Calls.{Question, tree-count, split-count, one_split, split-list, tree-splits, one-sided, doubled, matrix, collisions, strict, majority, both, write-accepted, weighted, split-lengths, write-splits, read-splits, merge, strict_tree, majority-tree, write-matrix, claim, release, number, split, weight, sums, claimed, fill, fill_both, fill_each, fill_read, reply, Made, one, many, file, ask, reopen, Told, replied, told, after, told_all, after_all, handed, handed_all, verdicts_told, is_collisions, other_told}
use Rattle.promises.specs.Steps.{Opens, Steps}
use Rattle.promises.specs.BatchLaws.{after-handed, verdicts-handed, SameTexts, same-texts, handed-same, told_same}
use Rattle.promises.specs.StepLaws.{opening-follows, step_follows, all-opening, steps-follow, told-lent}

-- ---- a run of the definitions, by what it hands in

verdicts-append : (as' bs : List Heard) → finals (as' ++ bs) ≡ finals as' ++ finals bs
unfolding finals
verdicts-append [] bs = refl
verdicts-append (fed n (gives more_wanted) ∷ as') bs = verdicts-append as' bs
verdicts-append (fed n (gives (accepted t)) ∷ as') bs = ap (λ (vs : List Final). accepted_as t ∷ vs) (verdicts-append as' bs)
verdicts-append (fed n (refused k) ∷ as') bs = ap (λ (vs : List Final). refused_with k ∷ vs) (verdicts-append as' bs)
verdicts-append (closed_lane a ∷ as') bs = ap (λ (vs : List Final). closed_with a ∷ vs) (verdicts-append as' bs)
verdicts-append (withdrew a ∷ as') bs = ap (λ (vs : List Final). withdrawn_with a ∷ vs) (verdicts-append as' bs)

pub after-all : (cs : List Made) (h : Held) → after_all h cs ≡ ending h (handed_all h cs)
unfolding after_all handed_all ending
after-all [] h = refl
after-all (c ∷ cs) h =
    after-all cs (after h c) ∙ ap (λ (k : Held). ending k (handed_all (after h c) cs)) (after-handed h c)
    ∙ sym (ending-append h (handed h c) (handed_all (after h c) cs))

pub verdicts-all : (cs : List Made) (lent : ℕ) (h : Held) → verdicts_told (told_all lent h cs) ≡ finals (answers h (handed_all h cs))
unfolding told_all verdicts_told handed_all answers finals
verdicts-all [] lent h = refl
verdicts-all (c ∷ cs) lent h =
    verdicts-handed lent h c (told_all lent (after h c) cs)
    ∙ ap (λ (vs : List Final). finals (answers h (handed h c)) ++ vs)
    (verdicts-all cs lent (after h c) ∙ ap (λ (k : Held). finals (answers k (handed_all (after h c) cs))) (after-handed h c))
    ∙ sym (verdicts-append (answers h (handed h c)) (answers (ending h (handed h c)) (handed_all (after h c) cs)))
    ∙ ap finals (sym (answers-append h (handed h c) (handed_all (after h c) cs)))

-- the answers to the calls cs, and the one behind them
told-first : (lent : ℕ) (cs ds : List Made) (h : Held) → take (length cs) (told_all lent h (cs ++ ds)) ≡ told_all lent h cs
unfolding told_all
told-first lent [] ds h = refl
told-first lent (c ∷ cs) ds h = ap (λ (as' : List Told). told lent h c ∷ as') (told-first lent cs ds (after h c))

told_at : (lent : ℕ) (cs : List Made) (c : Made) (ds : List Made) (h : Held) (d : Told)
    → get_or (told_all lent h (cs ++ c ∷ ds)) (length cs) d ≡ told lent (after_all h cs) c
unfolding told_all after_all
told_at lent [] c ds h d = refl
told_at lent (b ∷ cs) c ds h d = told_at lent cs c ds (after h b) d

-- ---- questions

module _ (h k : Held) (s : SameAnswers h k) where
  pub reply-same : (q : Question) → (is_collisions (ask q) ≡ true → collisions_of h ≡ collisions_of k) → reply h q ≡ reply k q
  unfolding reply is_collisions
  reply-same tree-count c = ap number s.number-of-trees
  reply-same split-count c = ap number s.number-of-splits
  reply-same (one_split i) c = ap split (s.split-and-count i)
  reply-same (split-list masks counts) c = ap (λ (x : Answer (List ℕ × List ℕ)). fill_both x masks counts) (s.splits-and-counts (length masks) (length counts))
  reply-same (tree-splits i masks) c = ap (λ (x : Answer (List ℕ)). fill x masks) (s.splits-of-tree i (length masks))
  reply-same (one-sided i j) c = ap number (s.one-sided i j)
  reply-same (doubled i j) c = ap number (s.doubled i j)
  reply-same (matrix out) c = ap (λ (x : Answer (List ℕ)). fill x out) (s.matrix (length out))
  reply-same collisions c = ap number (c refl)
  reply-same (strict out) c = ap (λ (x : Answer (List ℕ)). fill x out) (s.strict (length out))
  reply-same (majority out) c = ap (λ (x : Answer (List ℕ)). fill x out) (s.majority (length out))
  reply-same (both xs ys) c = ap (λ (x : Answer (List ℕ × List ℕ)). fill_each x xs ys) (s.both (length xs) (length ys))
  reply-same (write-accepted i out) c = ap (λ (x : Answer (List ℕ)). fill x out) (s.written i (length out))
  reply-same (weighted i j) c = ap weight (s.weighted i j)
  reply-same (split-lengths i) c = ap sums (s.sums i)
  reply-same (write-splits out) c = ap (λ (x : Answer (List ℕ)). fill x out) (s.split-file (length out))
  reply-same (read-splits f masks counts) c = ap (λ (x : Answer Splits). fill_read x masks counts) (s.file-read f (length masks) (length counts))
  reply-same (merge f g out) c = ap (λ (x : Answer (List ℕ)). fill x out) (s.files-merged f g (length out))
  reply-same (strict_tree f out) c = ap (λ (x : Answer (List ℕ)). fill x out) (s.file-strict f (length out))
  reply-same (majority-tree f out) c = ap (λ (x : Answer (List ℕ)). fill x out) (s.file-majority f (length out))
  reply-same (write-matrix out) c = ap (λ (x : Answer (List ℕ)). fill x out) (s.phylip (length out))
  reply-same (claim t) c = ap claimed (s.claim t)
  reply-same (release n x out) c = ap (λ (y : Answer (List ℕ)). fill y out) (release-alike h k s.taxa s.names s.trees n x (length out))

-- ---- from one accepted opening on

module _ (x : Numbers) (names first second before s : List ℕ) (o : Opens x names first second before s) where
  abbrev begun : Held
  begun = opened (opening_of x names first second)

  -- the whole texts of the calls cs, handed in one after another in the order of their semicolons, closings and withdrawals in their places
  abbrev texts : List Made → List Call
  texts cs = whole_texts x.lanes (handed_all begun cs)

  -- the definitions' own run
  verdicts-whole : (cs : List Made) → verdicts_told (told_all (length before) begun cs) ≡ finals (answers begun (texts cs))
  verdicts-whole cs =
      verdicts-all cs (length before) begun
      ∙ (lanes-make-no-difference (opening_of x names first second) (handed_all begun cs)).0

  module _ (cs : List Made) (as' : List Told) (t : List ℕ) (run : Steps s cs as' t) where
    -- "Lent bytes past that size keep their values", those that were there before the opening
    pub run-follows : Holds (after_all begun cs) before t × (as' ≡ told_all (length before) begun cs)
    run-follows =
        let b = opening-follows x names first second before s o in
        let f = steps-follow cs s as' t b.whole run in (
          holds_then begun (after_all begun cs) before s t (all-opening cs begun) b (subst (λ (h : Held). Holds (after_all h cs) s t) b.held f.0),
          f.1 ∙ ap₂ (λ (n : ℕ) (h : Held). told_all n h cs) b.size b.held,
        )

    -- "Every verdict .. is the one that whole texts give when handed in one after another"
    pub same-verdicts : verdicts_told as' ≡ finals (answers begun (texts cs))
    same-verdicts = ap verdicts_told run-follows.1 ∙ verdicts-whole cs

    -- the trees too, and their lengths
    pub same-trees : (held_at t).trees ≡ (ending begun (texts cs)).trees
    same-trees =
        ap (λ (h : Held). h.trees) (run-follows.0.held ∙ after-all cs begun)
        ∙ (lanes-make-no-difference (opening_of x names first second) (handed_all begun cs)).1

    pub same-lengths : (held_at t).lengths ≡ (ending begun (texts cs)).lengths
    same-lengths =
        ap (λ (h : Held). h.lengths) (run-follows.0.held ∙ after-all cs begun)
        ∙ (lanes-make-no-difference (opening_of x names first second) (handed_all begun cs)).2

  -- and so at any point of a run, behind the calls cs
  pub same-verdicts-so-far : (cs ds : List Made) (as' : List Told) (t : List ℕ) → Steps s (cs ++ ds) as' t
      → verdicts_told (take (length cs) as') ≡ finals (answers begun (texts cs))
  same-verdicts-so-far cs ds as' t run =
      ap (λ (bs : List Told). verdicts_told (take (length cs) bs)) (run-follows (cs ++ ds) as' t run).1
      ∙ ap verdicts_told (told-first (length before) cs ds begun)
      ∙ verdicts-whole cs

  -- every distance, count and consensus tree, the collision number, the matrix in PHYLIP's layout, what is written, read, merged or summed up
  -- of split files, and what is said of a claim, at any point of a run
  pub same-questions : (cs ds : List Made) (q : Question) (as' : List Told) (t : List ℕ) → Steps s (cs ++ ask q ∷ ds) as' t
      → (d : Told) → get_or as' (length cs) d ≡ replied (reply (ending begun (texts cs)) q)
  unfolding told
  same-questions cs ds q as' t run d =
      ap (λ (bs : List Told). get_or bs (length cs) d) (run-follows (cs ++ ask q ∷ ds) as' t run).1
      ∙ told_at (length before) cs (ask q) ds begun d
      ∙ ap (λ (h : Held). replied (reply h q)) (after-all cs begun)
      ∙ ap replied (reply-same (ending begun (handed_all begun cs)) (ending begun (texts cs))
      (questions-make-no-difference (opening_of x names first second) (handed_all begun cs)) q
      (λ _. collisions-make-no-difference (opening_of x names first second) (handed_all begun cs)))

-- ---- places and constants

-- alike, and the same unfinished texts
record Twins (h k : Held) : Type 0 where
  alike : Alike h k
  unfinished : h.texts ≡ k.texts

-- a part of the opening after the calls cs, of two collections
part_stays : {A : Type 0} (f : Opening → A) (h k : Held) (cs : List Call) → f h.opening ≡ f k.opening
    → f (ending h cs).opening ≡ f (ending k cs).opening
part_stays f h k cs e = ap f (ending-opening h cs) ∙ e ∙ sym (ap f (ending-opening k cs))

module _ (h k : Held) (s : Twins h k) where
  twins-run : (cs : List Call) → Twins (ending h cs) (ending k cs)
  twins-run cs =
      let r = alike-run h k s.alike s.unfinished cs in
      record {
        alike = record {
          taxa = part_stays (λ y. y.numbers.taxa) h k cs s.alike.taxa;
          names = part_stays (λ y. y.names) h k cs s.alike.names;
          lanes = part_stays (λ y. y.numbers.lanes) h k cs s.alike.lanes;
          tree_room = part_stays (λ y. y.numbers.tree_room) h k cs s.alike.tree_room;
          split_room = part_stays (λ y. y.numbers.split_room) h k cs s.alike.split_room;
          kept = part_stays (λ y. y.numbers.kept) h k cs s.alike.kept;
          trees = r.trees;
          lengths = r.lengths;
        };
        unfinished = r.texts;
      }

  twins-texts : (c : Made) → SameTexts h k c
  unfolding lane_of
  twins-texts (one c) = tt
  twins-texts (many l p v) = same-texts h k l p (ap (λ (xs : List Lane). get_or xs l (holding [])) s.unfinished)
  twins-texts (file f v) = tt
  twins-texts (ask q) = tt
  twins-texts (reopen y names first second) = tt

  twins-after : (c : Made) → Twins (after h c) (after k c)
  twins-after c = rw (after-handed h c, after-handed k c, ← handed-same h k s.alike.lanes c (twins-texts c)) (twins-run (handed h c))

  twins-told : (lent : ℕ) (c : Made) → is_collisions c ≡ false → told lent h c ≡ told lent k c
  twins-told lent c e =
      told_same h k s.alike.lanes lent c (twins-texts c) (alike-run h k s.alike s.unfinished (handed h c)).heard
      (λ q d. reply-same h k (questions-alike h k s.alike) q (λ f. absurd (true≢false (sym f ∙ sym (ap is_collisions d) ∙ e))))

-- the answers to one call, and those to the rest
other-same : (c : Made) (cs : List Made) (a b : Told) (as' bs : List Told) → (is_collisions c ≡ false → a ≡ b) → other_told cs as' ≡ other_told cs bs
    → other_told (c ∷ cs) (a ∷ as') ≡ other_told (c ∷ cs) (b ∷ bs)
unfolding other_told
other-same c cs a b as' bs e rest = go (is_collisions c) refl
  where
    go : (t : Bool) → is_collisions c ≡ t → (if t then other_told cs as' else a ∷ other_told cs as') ≡ (if t then other_told cs bs else b ∷ other_told cs bs)
    go true f = rest
    go false f = ap₂ (λ (x : Told) (l : List Told). x ∷ l) (e f) rest

twins-steps : (cs : List Made) (s s' : List ℕ) (as' bs : List Told) (t t' : List ℕ) → whole_at s ≡ true → whole_at s' ≡ true → Twins (held_at s) (held_at s')
    → Steps s cs as' t → Steps s' cs bs t' → other_told cs as' ≡ other_told cs bs
unfolding Steps other_told
twins-steps [] s s' as' bs t t' w w' r p q = refl
twins-steps (c ∷ cs) s s' as' bs t t' w w' r p q =
    let x = step_follows s w p.2 c p.0 p.4 in
    let y = step_follows s' w' q.2 c q.0 q.4 in
    ap (other_told (c ∷ cs)) p.3
    ∙ other-same c cs p.0 q.0 p.1 q.1
    (λ e. x.1 ∙ twins-told (held_at s) (held_at s') r (length s) c e ∙ told-lent s s' c p.0 q.0 p.2 q.2 p.4 q.4 (held_at s') ∙ sym y.1)
    (twins-steps cs p.2 q.2 p.1 q.1 t t' x.0.whole y.0.whole
    (rw (x.0.held, y.0.held) (twins-after (held_at s) (held_at s') r c)) p.5 q.5)
    ∙ sym (ap (other_told (c ∷ cs)) q.3)

-- "it is the only answer that may depend on m or the constants"
module _ (x : Numbers) (m : ℕ) (names first second first' second' before before' s s' : List ℕ)
    (o : Opens x names first second before s) (o' : Opens (with_places x m) names first' second' before' s') where
  twins-begun : Twins (opened (opening_of x names first second)) (opened (opening_of (with_places x m) names first' second'))
  unfolding opened with_places
  twins-begun = record {
    alike = record { taxa = refl; names = refl; lanes = refl; tree_room = refl; split_room = refl; kept = refl; trees = refl; lengths = refl };
    unfinished = refl;
  }

  pub constants-do-not-show : (cs : List Made) (as' bs : List Told) (t t' : List ℕ) → Steps s cs as' t → Steps s' cs bs t'
      → other_told cs as' ≡ other_told cs bs
  constants-do-not-show cs as' bs t t' p q =
      let a = opening-follows x names first second before s o in
      let b = opening-follows (with_places x m) names first' second' before' s' o' in
      twins-steps cs s s' as' bs t t' a.whole b.whole (rw (a.held, b.held) twins-begun) p q
