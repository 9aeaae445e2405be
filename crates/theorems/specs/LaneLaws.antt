-- Lanes make no difference: pieces cut anywhere, between two apostrophes too, and mixed over lanes give what the whole texts give one after
-- another, closings and withdrawals in their places.
--
--   whole-text, whole-closing       a whole text on empty lanes: it ends, or its lane is closed; and all lanes are empty again
--   same-run                        from pending bytes on, a run comes to what its whole texts come to
--   any-lane-will-do                the same verdicts, trees and lengths, to whichever lanes the whole texts are fed
--   lanes-make-no-difference        each to its own lane: the same verdicts, in the same order, and the same trees and lengths
--   one-lane-will-do                all to lane 0
--   questions-make-no-difference    so every question has the same answer
use Rattle.std.specs.Prelude.{ℕ, ◌<◌, ◌≡◌, Bool, not, length, set, replicate, if◌then◌else◌}
use Rattle.std.proofs.Common.{arith, ap₂, ◌∙◌, length-set, get_or-set_same, set-set}
use Rattle.std.proofs.Math.Path.{refl, ap, sym}
use Rattle.std.proofs.Math.Bool.{true, false}
use mathlib.Core.List.{List, [], ◌∷◌, ◌++◌, map}
use Rattle.std.proofs.Math.Dec.{ltb}
use Rattle.std.proofs.Math.ListN.{get_or, length-replicate}
use borrow.Author.Tests.{ltb-true, lt-ltb, not-true}
use Rattle.trees.specs.Plain.{every, refused}
use Rattle.trees.specs.Text.{semicolon, open_after, has_end, before_end}
use Rattle.trees.specs.Opening.{Opening}
use Rattle.trees.specs.Questions.{collisions_of}
use Rattle.trees.specs.Held.{Held, Lane, opened, longer, finished, closed}
use Rattle.trees.specs.Withdrawing.{withdrawing}
use Rattle.theorems.specs.ListLaws.{if-true, if-false}
use Rattle.theorems.specs.OpeningLaws.{every-get_d}
use Rattle.theorems.specs.HeldLaws.{every_set, every-replicate}
use Rattle.trees.specs.Runs.{Call, feed, hand, close, withdraw, answers, ending, closed_with, withdrawn_with, finals, ends_in, texts_after, whole_texts, on_lane, on_one_lane}
use Rattle.theorems.specs.RunLaws.{ending-opening}
use Rattle.theorems.specs.Alike.{SameAnswers}
use Rattle.theorems.specs.AlikeLaws.{same_alike, same-collisions, questions-alike}
use Rattle.theorems.specs.QuoteLaws.{before-unended, before-end, has_end_lem}
use Rattle.theorems.specs.PieceLaws.{text, map-replicate, set-replicate, get_d-all, unended, unended-append, closed-append}
use Rattle.theorems.specs.OutcomeLaws.{Trees, trees_of, Outcome, outcome, noted, shut, state, part_of, grown, judgement, outcome-hand, outcome-text, outcome-more, outcome-no-lane, outcome-closed, outcome-not-closed, outcome-withdrawn}

module _ (o : Opening) where
  -- ---- a whole text, all lanes being empty

  abbrev empty : List (List ℕ)
  empty = replicate o.numbers.lanes []

  empty-closed : (l : ℕ) → open_after false (get_or empty l []) ≡ false
  unfolding open_after
  empty-closed l = ap (open_after false) (get_d-all o.numbers.lanes l [])

  empty-ends : (l : ℕ) (p : List ℕ) → ends_in empty l p ≡ has_end false p
  unfolding ends_in
  empty-ends l p = ap (λ (q : Bool). has_end q p) (empty-closed l)

  module _ (ts : Trees) (l : ℕ) (w : List ℕ) (cs : List Call) (e : ltb l o.numbers.lanes ≡ true) (f : has_end false w ≡ false) where
    -- no quotes are open where its semicolon stands
    whole-text : open_after false w ≡ false
        → outcome (state o ts empty) (feed l (w ++ semicolon ∷ []) ∷ cs) ≡ noted (finished (state o ts []) (judgement o ts w)) (outcome (state o (grown o ts (judgement o ts w)) empty) cs)
    whole-text c =
        outcome-text o ts empty l (w ++ semicolon ∷ []) cs e (empty-ends l (w ++ semicolon ∷ []) ∙ has_end_lem [] false w c)
        ∙ ap₂ (λ (v : List ℕ) (us : List (List ℕ)). noted (finished (state o ts []) (judgement o ts v)) (outcome (state o (grown o ts (judgement o ts v)) us) cs))
        (ap₂ (λ (a b : List ℕ). a ++ b) (get_d-all o.numbers.lanes l []) (ap (λ (q : Bool). before_end q (w ++ semicolon ∷ [])) (empty-closed l) ∙ before-end [] false w f c)) (set-replicate o.numbers.lanes l [])

    fed-lane : get_or (set empty l w) l [] ≡ w
    fed-lane = get_or-set_same empty l w [] (omega (arith, ltb-true l o.numbers.lanes e, length-replicate {A = List ℕ} o.numbers.lanes []))

    whole-closing : outcome (state o ts empty) (feed l w ∷ close l ∷ cs) ≡ shut (record { answer = closed (text w); after = state o ts empty }) cs
    whole-closing =
        outcome-more o ts empty l w (close l ∷ cs) e (empty-ends l w ∙ f)
        ∙ ap (λ (v : List ℕ). outcome (state o ts (set empty l (v ++ w))) (close l ∷ cs)) (get_d-all o.numbers.lanes l [])
        ∙ outcome-closed o ts (set empty l w) l cs e
        ∙ ap₂ (λ (v : List ℕ) (us : List (List ℕ)). shut (record { answer = closed (text v); after = state o ts us }) cs)
        fed-lane (set-set empty l w [] ∙ set-replicate o.numbers.lanes l [])

  -- ---- the run

  -- pending bytes: of every lane, and ending no text
  record Pending (us : List (List ℕ)) : Type 0 where
    many : length us ≡ o.numbers.lanes
    open-ended : every unended us ≡ true

  pending-at : (us : List (List ℕ)) → Pending us → (l : ℕ) → has_end false (get_or us l []) ≡ false
  unfolding has_end
  pending-at us d l = not-true (has_end false (get_or us l [])) (every-get_d unended us [] refl d.open-ended l)

  pending-set : (us : List (List ℕ)) → Pending us → (l : ℕ) (w : List ℕ) → has_end false w ≡ false → Pending (set us l w)
  pending-set us d l w e = record { many = length-set us l w ∙ d.many; open-ended = every_set unended us l w (ap not e) d.open-ended }

  -- no trees
  abbrev no_trees : Trees
  no_trees = ([], [])

  opened-state : opened o ≡ state o no_trees empty
  unfolding opened longer
  opened-state = ap (λ (xs : List Lane). record { opening = o; trees = []; lengths = []; texts = xs }) (sym (map-replicate text o.numbers.lanes []))

  opened-pending : Pending empty
  unfolding has_end
  opened-pending = record { many = length-replicate o.numbers.lanes []; open-ended = every-replicate unended o.numbers.lanes [] refl }

  -- whichever lanes the whole texts are fed to: g l in place of l, which exists if l does
  module _ (g : ℕ → ℕ) (stay : (l : ℕ) → ltb (g l) o.numbers.lanes ≡ ltb l o.numbers.lanes) where
    abbrev moved : List Call → List Call
    moved cs = map (on_lane g) cs

    -- from pending bytes on, the calls cs come to what their whole texts come to
    abbrev AsWhole : List Call → Type 0
    AsWhole cs = (ts : Trees) (us : List (List ℕ)) → Pending us → outcome (state o ts us) cs ≡ outcome (state o ts empty) (moved (texts_after us cs))

    module _ (l : ℕ) (cs : List Call) (rest : AsWhole cs) (ts : Trees) (us : List (List ℕ)) (d : Pending us) where
      is-lane : (b : Bool) → ltb l o.numbers.lanes ≡ b → ltb l (length us) ≡ b
      is-lane b e = ap (ltb l) d.many ∙ e

      run-text : (p : List ℕ) → ltb l o.numbers.lanes ≡ true → ends_in us l p ≡ true → outcome (state o ts us) (feed l p ∷ cs) ≡ outcome (state o ts empty) (moved (texts_after us (feed l p ∷ cs)))
      unfolding texts_after on_lane
      run-text p e f =
          let u = get_or us l [] in
          let w = u ++ part_of us l p in
          let v = judgement o ts w in
          outcome-text o ts us l p cs e f
          ∙ ap (noted (finished (state o ts []) v)) (rest (grown o ts v) (set us l []) (pending-set us d l [] refl))
          ∙ sym (whole-text ts (g l) w (moved (texts_after (set us l []) cs)) (stay l ∙ e) (unended-append u (part_of us l p) (pending-at us d l) (before-unended (open_after false u) p)) (closed-append u p f))
          ∙ ap (λ (ds : List Call). outcome (state o ts empty) (moved ds)) (sym (if-true _ _ (is-lane true e) ∙ if-true _ _ f))

      run_more : (p : List ℕ) → ltb l o.numbers.lanes ≡ true → ends_in us l p ≡ false → outcome (state o ts us) (feed l p ∷ cs) ≡ outcome (state o ts empty) (moved (texts_after us (feed l p ∷ cs)))
      unfolding texts_after on_lane
      run_more p e f =
          outcome-more o ts us l p cs e f
          ∙ rest ts (set us l (get_or us l [] ++ p)) (pending-set us d l (get_or us l [] ++ p) (unended-append (get_or us l []) p (pending-at us d l) f))
          ∙ ap (λ (ds : List Call). outcome (state o ts empty) (moved ds)) (sym (if-true _ _ (is-lane true e) ∙ if-false _ _ f))

      run-no-lane : (p : List ℕ) → ltb l o.numbers.lanes ≡ false → outcome (state o ts us) (feed l p ∷ cs) ≡ outcome (state o ts empty) (moved (texts_after us (feed l p ∷ cs)))
      unfolding texts_after on_lane
      run-no-lane p e =
          outcome-no-lane o ts us l p cs e ∙ ap (noted (refused 5)) (rest ts us d) ∙ sym (outcome-no-lane o ts empty (g l) p (moved (texts_after us cs)) (stay l ∙ e))
          ∙ ap (λ (ds : List Call). outcome (state o ts empty) (moved ds)) (sym (if-false _ _ (is-lane false e)))

      run-closing : ltb l o.numbers.lanes ≡ true → outcome (state o ts us) (close l ∷ cs) ≡ outcome (state o ts empty) (moved (texts_after us (close l ∷ cs)))
      unfolding texts_after on_lane
      run-closing e =
          let w = get_or us l [] in
          outcome-closed o ts us l cs e
          ∙ ap (λ (r : Outcome). (closed_with (closed (text w)) ∷ r.0, r.1)) (rest ts (set us l []) (pending-set us d l [] refl))
          ∙ sym (whole-closing ts (g l) w (moved (texts_after (set us l []) cs)) (stay l ∙ e) (pending-at us d l))
          ∙ ap (λ (ds : List Call). outcome (state o ts empty) (moved ds)) (sym (if-true _ _ (is-lane true e)))

      run-no-closing : ltb l o.numbers.lanes ≡ false → outcome (state o ts us) (close l ∷ cs) ≡ outcome (state o ts empty) (moved (texts_after us (close l ∷ cs)))
      unfolding texts_after on_lane
      run-no-closing e =
          outcome-not-closed o ts us l cs e
          ∙ ap (λ (r : Outcome). (closed_with (refused 5) ∷ r.0, r.1)) (rest ts us d)
          ∙ sym (outcome-not-closed o ts empty (g l) (moved (texts_after us cs)) (stay l ∙ e))
          ∙ ap (λ (ds : List Call). outcome (state o ts empty) (moved ds)) (sym (if-false _ _ (is-lane false e)))

    same-run : (cs : List Call) → AsWhole cs
    unfolding outcome texts_after on_lane
    same-run [] ts us d = refl
    same-run (feed l p ∷ cs) ts us d = go (ltb l o.numbers.lanes) (ends_in us l p) refl refl (same-run cs)
      where
        go : (b c : Bool) → ltb l o.numbers.lanes ≡ b → ends_in us l p ≡ c → AsWhole cs → outcome (state o ts us) (feed l p ∷ cs) ≡ outcome (state o ts empty) (moved (texts_after us (feed l p ∷ cs)))
        go true true e f r = run-text l cs r ts us d p e f
        go true false e f r = run_more l cs r ts us d p e f
        go false c e f r = run-no-lane l cs r ts us d p e
    same-run (hand t ∷ cs) ts us d =
        let v = judgement o ts t in
        outcome-hand o ts us t cs
        ∙ ap (noted (finished (state o ts []) v)) (same-run cs (grown o ts v) us d)
        ∙ sym (outcome-hand o ts empty t (moved (texts_after us cs)))
    same-run (close l ∷ cs) ts us d = go (ltb l o.numbers.lanes) refl (same-run cs)
      where
        go : (b : Bool) → ltb l o.numbers.lanes ≡ b → AsWhole cs → outcome (state o ts us) (close l ∷ cs) ≡ outcome (state o ts empty) (moved (texts_after us (close l ∷ cs)))
        go true e r = run-closing l cs r ts us d e
        go false e r = run-no-closing l cs r ts us d e
    same-run (withdraw k ∷ cs) ts us d =
        let w = withdrawing (state o ts []) k in
        outcome-withdrawn o ts us k cs
        ∙ ap (λ (r : Outcome). (withdrawn_with w.answer ∷ r.0, r.1)) (same-run cs (trees_of w.after) us d)
        ∙ sym (outcome-withdrawn o ts empty k (moved (texts_after us cs)))

    opened-run : (cs : List Call) → outcome (opened o) cs ≡ outcome (opened o) (moved (whole_texts o.numbers.lanes cs))
    unfolding whole_texts
    opened-run cs =
        ap (λ (h : Held). outcome h cs) opened-state ∙ same-run cs no_trees empty opened-pending
        ∙ ap (λ (h : Held). outcome h (moved (texts_after empty cs))) (sym opened-state)

-- ---- the theorem

module _ (o : Opening) (g : ℕ → ℕ) (stay : (l : ℕ) → ltb (g l) o.numbers.lanes ≡ ltb l o.numbers.lanes) (cs : List Call) where
  -- the whole texts may be fed to any lanes
  pub any-lane-will-do : (finals (answers (opened o) cs) ≡ finals (answers (opened o) (map (on_lane g) (whole_texts o.numbers.lanes cs))))
      × ((ending (opened o) cs).trees ≡ (ending (opened o) (map (on_lane g) (whole_texts o.numbers.lanes cs))).trees)
      × ((ending (opened o) cs).lengths ≡ (ending (opened o) (map (on_lane g) (whole_texts o.numbers.lanes cs))).lengths)
  unfolding outcome
  any-lane-will-do =
      let e = opened-run o g stay cs in
      (ap (λ (r : Outcome). r.0) e, ap (λ (r : Outcome). r.1.0) e, ap (λ (r : Outcome). r.1.1) e)

own-lanes : (cs : List Call) → map (on_lane (λ l. l)) cs ≡ cs
unfolding on_lane
own-lanes [] = refl
own-lanes (feed l p ∷ cs) = ap (λ (ds : List Call). feed l p ∷ ds) (own-lanes cs)
own-lanes (hand t ∷ cs) = ap (λ (ds : List Call). hand t ∷ ds) (own-lanes cs)
own-lanes (close l ∷ cs) = ap (λ (ds : List Call). close l ∷ ds) (own-lanes cs)
own-lanes (withdraw k ∷ cs) = ap (λ (ds : List Call). withdraw k ∷ ds) (own-lanes cs)

module _ (o : Opening) (cs : List Call) where
  pub lanes-make-no-difference : (finals (answers (opened o) cs) ≡ finals (answers (opened o) (whole_texts o.numbers.lanes cs)))
      × ((ending (opened o) cs).trees ≡ (ending (opened o) (whole_texts o.numbers.lanes cs)).trees)
      × ((ending (opened o) cs).lengths ≡ (ending (opened o) (whole_texts o.numbers.lanes cs)).lengths)
  lanes-make-no-difference =
      let r = any-lane-will-do o (λ l. l) (λ l. refl) cs in
      let e = own-lanes (whole_texts o.numbers.lanes cs) in (
        r.0 ∙ ap (λ (ds : List Call). finals (answers (opened o) ds)) e,
        r.1 ∙ ap (λ (ds : List Call). (ending (opened o) ds).trees) e,
        r.2 ∙ ap (λ (ds : List Call). (ending (opened o) ds).lengths) e,
      )

  -- and so all to lane 0
  pub one-lane-will-do : 0 < o.numbers.lanes
      → (finals (answers (opened o) cs) ≡ finals (answers (opened o) (map (on_lane (on_one_lane o.numbers.lanes)) (whole_texts o.numbers.lanes cs))))
      × ((ending (opened o) cs).trees ≡ (ending (opened o) (map (on_lane (on_one_lane o.numbers.lanes)) (whole_texts o.numbers.lanes cs))).trees)
      × ((ending (opened o) cs).lengths ≡ (ending (opened o) (map (on_lane (on_one_lane o.numbers.lanes)) (whole_texts o.numbers.lanes cs))).lengths)
  unfolding on_one_lane
  one-lane-will-do h = any-lane-will-do o (on_one_lane o.numbers.lanes) (λ l. go l (ltb l o.numbers.lanes) refl) cs
    where
      go : (l : ℕ) (b : Bool) → ltb l o.numbers.lanes ≡ b → ltb (if b then 0 else l) o.numbers.lanes ≡ b
      go l true e = lt-ltb 0 o.numbers.lanes h
      go l false e = e

  same-opening : (ending (opened o) cs).opening ≡ (ending (opened o) (whole_texts o.numbers.lanes cs)).opening
  same-opening = ending-opening (opened o) cs ∙ sym (ending-opening (opened o) (whole_texts o.numbers.lanes cs))

  pub questions-make-no-difference : SameAnswers (ending (opened o) cs) (ending (opened o) (whole_texts o.numbers.lanes cs))
  questions-make-no-difference =
      let h = ending (opened o) cs in
      let k = ending (opened o) (whole_texts o.numbers.lanes cs) in
      questions-alike h k (same_alike h k same-opening lanes-make-no-difference.1 lanes-make-no-difference.2)

  pub collisions-make-no-difference : collisions_of (ending (opened o) cs) ≡ collisions_of (ending (opened o) (whole_texts o.numbers.lanes cs))
  collisions-make-no-difference = same-collisions (ending (opened o) cs) (ending (opened o) (whole_texts o.numbers.lanes cs)) same-opening lanes-make-no-difference.1
