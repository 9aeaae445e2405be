-- The number of places and the constants make no difference, save to the collision number: "After an accepted opening ..
-- it is the only answer that may depend on m or the constants."
--
--   alike-run                      alike collections with the same unfinished texts answer every run of calls the same
--   constants-make-no-difference   so do two openings that differ in the number of places and in the constants
use Rattle.std.specs.Prelude.{ℕ, suc, ◌≡◌, refl, ltb, length}
use Rattle.std.proofs.Math.Path.{ap, sym}
use Rattle.std.proofs.Common.{ap₂, ◌∙◌}
use mathlib.Core.List.{List, [], ◌∷◌}
use Rattle.std.proofs.Math.ListN.{get_or, replicate}
use Rattle.trees.specs.Plain.{gives}
use Rattle.trees.specs.Opening.{Numbers, Opening, opening}
use Rattle.trees.specs.Held.{Held, Lane, holding, opened, lane_of, recording, feeding, closing}
use Rattle.trees.specs.NexusCall.{on_text}
use Rattle.trees.specs.Withdrawing.{withdrawing}
use Rattle.theorems.specs.HeldLaws.{Accepted, opening-accepted}
use Rattle.trees.specs.Runs.{Call, feed, hand, close, withdraw, Heard, fed, closed_lane, withdrew, answer, next, answers, ending}
use Rattle.theorems.specs.Alike.{Alike, with_places, SameRun}
use Rattle.theorems.specs.AlikeLaws.{feeding-alike, judged-alike, recorded-alike, closing-alike, withdrawing-alike, questions-alike}
use Rattle.theorems.specs.WithdrawLaws.{withdrawing-texts}
use Rattle.theorems.specs.OwnLaneLaws.{lane_after, lanes_after, recording-texts, feeding-texts, closing-texts}

-- ---- one call

-- alike, and the same unfinished texts
record Same (h k : Held) : Type 0 where
  alike : Alike h k
  texts : h.texts ≡ k.texts

module _ (h k : Held) (s : Same h k) (l : ℕ) where
  same-lane : lane_of h l ≡ lane_of k l
  unfolding lane_of
  same-lane = ap (λ (xs : List Lane). get_or xs l (holding [])) s.texts

  same-lanes : (x y : Lane) → x ≡ y → lanes_after (ltb l h.opening.numbers.lanes) h.texts l x ≡ lanes_after (ltb l k.opening.numbers.lanes) k.texts l y
  same-lanes x y e = λ i. lanes_after (ltb l (s.alike.lanes i)) (s.texts i) l (e i)

  feeding-same : (p : List ℕ) → Same (feeding h l p).after (feeding k l p).after
  feeding-same p =
      record {
        alike = (feeding-alike h k s.alike l p same-lane).after;
        texts = feeding-texts h l p ∙ same-lanes (lane_after (lane_of h l) p) (lane_after (lane_of k l) p) (ap (λ (x : Lane). lane_after x p) same-lane) ∙ sym (feeding-texts k l p);
      }

  closing_same : Same (closing h l).after (closing k l).after
  closing_same =
      record {
        alike = (closing-alike h k s.alike l same-lane).after;
        texts = closing-texts h l ∙ same-lanes (holding []) (holding []) refl ∙ sym (closing-texts k l);
      }

  feeding-heard : (p : List ℕ) → answer h (feed l p) ≡ answer k (feed l p)
  unfolding answer
  feeding-heard p = let f = feeding-alike h k s.alike l p same-lane in λ i. fed (f.taken i) (f.answer i)

  closing-heard : answer h (close l) ≡ answer k (close l)
  unfolding answer
  closing-heard = ap closed_lane (closing-alike h k s.alike l same-lane).answer

module _ (h k : Held) (s : Same h k) (t : List ℕ) where
  handed-same : Same (recording h (on_text h t)) (recording k (on_text k t))
  handed-same = record { alike = recorded-alike h k s.alike t; texts = recording-texts h (on_text h t) ∙ s.texts ∙ sym (recording-texts k (on_text k t)) }

  handed-heard : answer h (hand t) ≡ answer k (hand t)
  unfolding answer
  handed-heard = ap (fed (suc (length t))) (judged-alike h k s.alike t)

module _ (h k : Held) (s : Same h k) (n : ℕ) where
  withdrawn-same : Same (withdrawing h n).after (withdrawing k n).after
  withdrawn-same = record { alike = (withdrawing-alike h k s.alike n).after; texts = withdrawing-texts h n ∙ s.texts ∙ sym (withdrawing-texts k n) }

  withdrawn-heard : answer h (withdraw n) ≡ answer k (withdraw n)
  unfolding answer
  withdrawn-heard = ap withdrew (withdrawing-alike h k s.alike n).answer

-- ---- a run of calls

run-answers : (h k : Held) → Same h k → (cs : List Call) → answers h cs ≡ answers k cs
unfolding answers next
run-answers h k s [] = refl
run-answers h k s (feed l p ∷ cs) = ap₂ (λ (a : Heard) (r : List Heard). a ∷ r) (feeding-heard h k s l p) (run-answers (feeding h l p).after (feeding k l p).after (feeding-same h k s l p) cs)
run-answers h k s (hand t ∷ cs) = ap₂ (λ (a : Heard) (r : List Heard). a ∷ r) (handed-heard h k s t) (run-answers (recording h (on_text h t)) (recording k (on_text k t)) (handed-same h k s t) cs)
run-answers h k s (close l ∷ cs) = ap₂ (λ (a : Heard) (r : List Heard). a ∷ r) (closing-heard h k s l) (run-answers (closing h l).after (closing k l).after (closing_same h k s l) cs)
run-answers h k s (withdraw n ∷ cs) = ap₂ (λ (a : Heard) (r : List Heard). a ∷ r) (withdrawn-heard h k s n) (run-answers (withdrawing h n).after (withdrawing k n).after (withdrawn-same h k s n) cs)

run-same : (h k : Held) → Same h k → (cs : List Call) → Same (ending h cs) (ending k cs)
unfolding ending next
run-same h k s [] = s
run-same h k s (feed l p ∷ cs) = run-same (feeding h l p).after (feeding k l p).after (feeding-same h k s l p) cs
run-same h k s (hand t ∷ cs) = run-same (recording h (on_text h t)) (recording k (on_text k t)) (handed-same h k s t) cs
run-same h k s (close l ∷ cs) = run-same (closing h l).after (closing k l).after (closing_same h k s l) cs
run-same h k s (withdraw n ∷ cs) = run-same (withdrawing h n).after (withdrawing k n).after (withdrawn-same h k s n) cs

pub alike-run : (h k : Held) → Alike h k → h.texts ≡ k.texts → (cs : List Call) → SameRun h k cs
alike-run h k a e cs =
    let s : Same h k = record { alike = a; texts = e } in
    let r = run-same h k s cs in
    record {
      heard = run-answers h k s cs;
      trees = r.alike.trees;
      lengths = r.alike.lengths;
      texts = r.texts;
      questions = questions-alike (ending h cs) (ending k cs) r.alike;
    }

-- ---- the theorem

module _ (x : Numbers) (m : ℕ) (name_list first second first' second' : List ℕ) (lent lent' : ℕ) (o q : Opening) where
  opened-alike : Accepted x name_list o → Accepted (with_places x m) name_list q → Alike (opened o) (opened q)
  unfolding opened with_places
  opened-alike a b =
      let e : (f : Numbers → ℕ) → f o.numbers ≡ f x = λ f. ap f a.numbers-as-given in
      let d : (f : Numbers → ℕ) → f (with_places x m) ≡ f q.numbers = λ f. sym (ap f b.numbers-as-given) in
      record {
        taxa = e (λ y. y.taxa) ∙ d (λ y. y.taxa);
        names = a.names-as-given ∙ sym b.names-as-given;
        lanes = e (λ y. y.lanes) ∙ d (λ y. y.lanes);
        tree_room = e (λ y. y.tree_room) ∙ d (λ y. y.tree_room);
        split_room = e (λ y. y.split_room) ∙ d (λ y. y.split_room);
        kept = e (λ y. y.kept) ∙ d (λ y. y.kept);
        trees = refl;
        lengths = refl;
      }

  opened-texts : Alike (opened o) (opened q) → (opened o).texts ≡ (opened q).texts
  unfolding opened
  opened-texts a = ap (λ n. replicate n (holding [])) a.lanes

  pub constants-make-no-difference : opening x name_list first second lent ≡ gives o → opening (with_places x m) name_list first' second' lent' ≡ gives q → (cs : List Call) → SameRun (opened o) (opened q) cs
  constants-make-no-difference e d cs =
      let a = opened-alike (opening-accepted x name_list first second lent o e) (opening-accepted (with_places x m) name_list first' second' lent' q d) in
      alike-run (opened o) (opened q) a (opened-texts a) cs
