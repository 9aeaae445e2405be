-- What a run of calls comes to, call by call, on a collection whose lanes hold pending bytes.
--
--   Trees               accepted trees, and their lengths
--   outcome h cs        the final answers of a run, and the trees at its end
--   state o ts us       a collection with the trees ts, each lane of which was empty and got its bytes of us
--   part_of us l p       the bytes of the piece p before the end of lane l's text
--   judgement o ts w    the verdict on the text w: it does not depend on what the lanes hold
--   outcome-hand        a text that is handed in
--   outcome-text, outcome-more, outcome-closed    one call to a lane
--   outcome-no-lane, outcome-not-closed           one call to a lane that does not exist
--   outcome-withdrawn   a withdrawal: it does not depend on what the lanes hold, either
use Rattle.std.specs.Prelude.{ℕ, suc, ◌≡◌, Bool, ltb, length, get_or, set}
use Rattle.std.proofs.Math.Path.{refl, ap, ap₂}
use Rattle.std.proofs.Common.{sym, ◌∙◌}
use Rattle.std.proofs.Math.Bool.{true, false}
use mathlib.Core.List.{List, [], ◌∷◌, ◌++◌, map}
use Rattle.std.proofs.Math.ListN.{get_or-map}
use Rattle.trees.specs.Plain.{Answer, refused, gives}
use Rattle.trees.specs.Text.{open_after, has_end, before_end}
use Rattle.trees.specs.Value.{Length}
use Rattle.trees.specs.Opening.{Opening}
use Rattle.trees.specs.Verdict.{Branches}
use Rattle.trees.specs.Held.{Held, Lane, holding, lane_of, with_lane, with_tree, open_in, longer, verdict, Progress, more_wanted, accepted, Fed, finished, recording, finishing, feeding, Closed, closed, closing}
use Rattle.trees.specs.NexusCall.{on_text}
use Rattle.trees.specs.Withdrawing.{without_tree, Withdrawn, withdrawing}
use Rattle.theorems.specs.FeedingLaws.{ends_at, last_part, feeding_by, feeding-by, closing_by, closing-by}
use Rattle.trees.specs.Runs.{Call, feed, hand, close, withdraw, fed, answer, next, answers, ending, Final, accepted_as, refused_with, closed_with, withdrawn_with, finals, ends_in}
use Rattle.theorems.specs.WithdrawLaws.{withdrawing_by, withdrawing-by}
use Rattle.theorems.specs.Alike.{Alike}
use Rattle.theorems.specs.AlikeLaws.{verdict-alike}
use Rattle.theorems.specs.PieceLaws.{longer-longer, text, open-text, map-set}

-- ---- what a run comes to

-- the accepted trees, by their splits, and their lengths
abbrev pub Trees : Type 0
Trees = List (List ℕ) × List (List Length)

abbrev pub trees_of : Held → Trees
trees_of h = (h.trees, h.lengths)

-- its final answers and the trees at its end
abbrev pub Outcome : Type 0
Outcome = List Final × Trees

unfoldable pub outcome : Held → List Call → Outcome
unfolding finals answers ending
outcome h cs = (finals (answers h cs), trees_of (ending h cs))

-- an answer to a piece, and then the rest of the run
unfoldable pub noted : Answer Progress → Outcome → Outcome
noted (gives more_wanted) r = r
noted (gives (accepted t)) r = (accepted_as t ∷ r.0, r.1)
noted (refused k) r = (refused_with k ∷ r.0, r.1)

pub outcome-feed : (h : Held) (l : ℕ) (p : List ℕ) (cs : List Call) → outcome h (feed l p ∷ cs) ≡ noted (feeding h l p).answer (outcome (feeding h l p).after cs)
unfolding outcome noted answer next
outcome-feed h l p cs = go (feeding h l p).answer
  where
    go : (a : Answer Progress) → (finals (fed (feeding h l p).taken a ∷ answers (feeding h l p).after cs), trees_of (ending (feeding h l p).after cs)) ≡ noted a (outcome (feeding h l p).after cs)
    go (gives more_wanted) = refl
    go (gives (accepted t)) = refl
    go (refused k) = refl

-- a closing's answer, and then the rest of the run
abbrev pub shut : Closed → List Call → Outcome
shut c cs = (closed_with c.answer ∷ (outcome c.after cs).0, (outcome c.after cs).1)

pub outcome-close : (h : Held) (l : ℕ) (cs : List Call) → outcome h (close l ∷ cs) ≡ shut (closing h l) cs
unfolding outcome answer next
outcome-close h l cs = refl

-- a withdrawal's answer, and then the rest of the run
abbrev pub drawn : Withdrawn → List Call → Outcome
drawn w cs = (withdrawn_with w.answer ∷ (outcome w.after cs).0, (outcome w.after cs).1)

outcome-withdraw : (h : Held) (k : ℕ) (cs : List Call) → outcome h (withdraw k ∷ cs) ≡ drawn (withdrawing h k) cs
unfolding outcome answer next
outcome-withdraw h k cs = refl

-- ---- a collection whose lanes hold pending bytes

-- the bytes of the piece p before the end of lane l's text, where the bytes us are pending
abbrev pub part_of : List (List ℕ) → ℕ → List ℕ → List ℕ
part_of us l p = before_end (open_after false (get_or us l [])) p

module _ (o : Opening) where
  abbrev pub state : Trees → List (List ℕ) → Held
  state ts us = record { opening = o; trees = ts.0; lengths = ts.1; texts = map text us }

  state-lane : (ts : Trees) (us : List (List ℕ)) (l : ℕ) → lane_of (state ts us) l ≡ text (get_or us l [])
  unfolding lane_of longer
  state-lane ts us l = get_or-map text us l []

  state-open : (ts : Trees) (us : List (List ℕ)) (l : ℕ) → open_in (lane_of (state ts us) l) ≡ open_after false (get_or us l [])
  state-open ts us l = ap open_in (state-lane ts us l) ∙ open-text (get_or us l [])

  state-set : (ts : Trees) (us : List (List ℕ)) (l : ℕ) (u : List ℕ) → with_lane (state ts us) l (text u) ≡ state ts (set us l u)
  unfolding with_lane
  state-set ts us l u = ap (λ (xs : List Lane). record { opening = o; trees = ts.0; lengths = ts.1; texts = xs }) (sym (map-set text us l u))

  -- the trees with the one that a verdict gives
  abbrev pub grown : Trees → Answer Branches → Trees
  grown ts (refused k) = ts
  grown ts (gives b) = (ts.0 ++ b.splits ∷ [], ts.1 ++ b.lengths ∷ [])

  -- a verdict on the text w, whatever the lanes hold
  pub judgement : Trees → List ℕ → Answer Branches
  judgement ts w = verdict (state ts []) (text w)

  -- what feeding answers and leaves when the text w of lane l ends
  abbrev pub ended : Trees → List (List ℕ) → ℕ → ℕ → Answer Branches → Fed
  ended ts us l n v = record { taken = n; answer = finished (state ts []) v; after = state (grown ts v) (set us l []) }

  state-finishing : (ts : Trees) (us : List (List ℕ)) (l n : ℕ) (v : Answer Branches) → finishing (state ts us) l n v ≡ ended ts us l n v
  unfolding finishing finished recording with_tree longer
  state-finishing ts us l n (refused k) = ap (λ (h : Held). record { taken = n; answer = refused k; after = h }) (state-set ts us l [])
  state-finishing ts us l n (gives b) = ap (λ (h : Held). record { taken = n; answer = gives (accepted (length ts.0)); after = h }) (state-set (grown ts (gives b)) us l [])

  -- the verdict v on the text of lane l, and then the rest of the run
  abbrev pub judged_then : Trees → List (List ℕ) → ℕ → List Call → Answer Branches → Outcome
  judged_then ts us l cs v = noted (finished (state ts []) v) (outcome (state (grown ts v) (set us l [])) cs)

  -- ---- one call

  state-alike : (ts : Trees) (us vs : List (List ℕ)) → Alike (state ts us) (state ts vs)
  state-alike ts us vs = record { taxa = refl; names = refl; lanes = refl; tree_room = refl; split_room = refl; kept = refl; trees = refl; lengths = refl }

  state-verdict : (ts : Trees) (us : List (List ℕ)) (l : ℕ) (q : List ℕ) → verdict (state ts us) (longer (lane_of (state ts us) l) q) ≡ judgement ts (get_or us l [] ++ q)
  unfolding judgement
  state-verdict ts us l q =
      verdict-alike (state ts us) (state ts []) (state-alike ts us []) (longer (lane_of (state ts us) l) q)
      ∙ ap (verdict (state ts [])) (ap (λ (x : Lane). longer x q) (state-lane ts us l) ∙ longer-longer (holding []) (get_or us l []) q)

  -- a text that is handed in, and then the rest of the run
  module _ (ts : Trees) (us : List (List ℕ)) where
    state-recording : (v : Answer Branches) → recording (state ts us) v ≡ state (grown ts v) us
    unfolding recording with_tree
    state-recording (refused k) = refl
    state-recording (gives b) = refl

    state-finished : (v : Answer Branches) → finished (state ts us) v ≡ finished (state ts []) v
    unfolding finished
    state-finished (refused k) = refl
    state-finished (gives b) = refl

    handed-verdict : (t : List ℕ) → on_text (state ts us) t ≡ judgement ts t
    unfolding on_text judgement
    handed-verdict t = verdict-alike (state ts us) (state ts []) (state-alike ts us []) (text t)

    handed-noted : (h : Held) (t : List ℕ) (cs : List Call) → outcome h (hand t ∷ cs) ≡ noted (finished h (on_text h t)) (outcome (recording h (on_text h t)) cs)
    unfolding outcome noted answer next
    handed-noted h t cs = go (finished h (on_text h t))
      where
        go : (a : Answer Progress) → (finals (fed (suc (length t)) a ∷ answers (recording h (on_text h t)) cs), trees_of (ending (recording h (on_text h t)) cs)) ≡ noted a (outcome (recording h (on_text h t)) cs)
        go (gives more_wanted) = refl
        go (gives (accepted n)) = refl
        go (refused k) = refl

    pub outcome-hand : (t : List ℕ) (cs : List Call)
        → outcome (state ts us) (hand t ∷ cs) ≡ noted (finished (state ts []) (judgement ts t)) (outcome (state (grown ts (judgement ts t)) us) cs)
    outcome-hand t cs =
        handed-noted (state ts us) t cs
        ∙ ap (λ (v : Answer Branches). noted (finished (state ts us) v) (outcome (recording (state ts us) v) cs)) (handed-verdict t)
        ∙ ap₂ (λ (a : Answer Progress) (h : Held). noted a (outcome h cs)) (state-finished (judgement ts t)) (state-recording (judgement ts t))

  module _ (ts : Trees) (us : List (List ℕ)) (l : ℕ) where
    ends_as : (p : List ℕ) → ends_at (state ts us) l p ≡ ends_in us l p
    unfolding ends_in
    ends_as p = ap (λ (q : Bool). has_end q p) (state-open ts us l)

    part-as : (p : List ℕ) → last_part (state ts us) l p ≡ part_of us l p
    part-as p = ap (λ (q : Bool). before_end q p) (state-open ts us l)

    feeding-as : (p : List ℕ) (b c : Bool) → ltb l o.numbers.lanes ≡ b → ends_in us l p ≡ c → feeding (state ts us) l p ≡ feeding_by b c (state ts us) l p
    feeding-as p b c e f = feeding-by (state ts us) l p ∙ ap₂ (λ (x y : Bool). feeding_by x y (state ts us) l p) e (ends_as p ∙ f)

    -- the piece p ends the lane's text
    pub outcome-text : (p : List ℕ) (cs : List Call) → ltb l o.numbers.lanes ≡ true → ends_in us l p ≡ true
        → outcome (state ts us) (feed l p ∷ cs) ≡ judged_then ts us l cs (judgement ts (get_or us l [] ++ part_of us l p))
    outcome-text p cs e f =
        let w = last_part (state ts us) l p in
        outcome-feed (state ts us) l p cs
        ∙ ap (λ (r : Fed). noted r.answer (outcome r.after cs)) (feeding-as p true true e f ∙ state-finishing ts us l (suc (length w)) (verdict (state ts us) (longer (lane_of (state ts us) l) w)))
        ∙ ap (judged_then ts us l cs) (state-verdict ts us l w ∙ ap (λ (v : List ℕ). judgement ts (get_or us l [] ++ v)) (part-as p))

    -- the piece p only adds to it
    pub outcome-more : (p : List ℕ) (cs : List Call) → ltb l o.numbers.lanes ≡ true → ends_in us l p ≡ false
        → outcome (state ts us) (feed l p ∷ cs) ≡ outcome (state ts (set us l (get_or us l [] ++ p))) cs
    unfolding noted
    outcome-more p cs e f =
        outcome-feed (state ts us) l p cs
        ∙ ap (λ (r : Fed). noted r.answer (outcome r.after cs)) (feeding-as p true false e f)
        ∙ ap (λ (x : Lane). outcome (with_lane (state ts us) l x) cs) (ap (λ (x : Lane). longer x p) (state-lane ts us l) ∙ longer-longer (holding []) (get_or us l []) p)
        ∙ ap (λ (h : Held). outcome h cs) (state-set ts us l (get_or us l [] ++ p))

    pub outcome-no-lane : (p : List ℕ) (cs : List Call) → ltb l o.numbers.lanes ≡ false → outcome (state ts us) (feed l p ∷ cs) ≡ noted (refused 5) (outcome (state ts us) cs)
    outcome-no-lane p cs e = outcome-feed (state ts us) l p cs ∙ ap (λ (r : Fed). noted r.answer (outcome r.after cs)) (feeding-as p false (ends_in us l p) e refl)

    pub outcome-closed : (cs : List Call) → ltb l o.numbers.lanes ≡ true → outcome (state ts us) (close l ∷ cs) ≡ shut (record { answer = closed (text (get_or us l [])); after = state ts (set us l []) }) cs
    unfolding longer
    outcome-closed cs e =
        outcome-close (state ts us) l cs
        ∙ ap (λ (c : Closed). shut c cs) (closing-by (state ts us) l ∙ ap (λ b. closing_by b (state ts us) l) e)
        ∙ ap₂ (λ (x : Lane) (h : Held). shut (record { answer = closed x; after = h }) cs) (state-lane ts us l) (state-set ts us l [])

    pub outcome-not-closed : (cs : List Call) → ltb l o.numbers.lanes ≡ false → outcome (state ts us) (close l ∷ cs) ≡ shut (record { answer = refused 5; after = state ts us }) cs
    outcome-not-closed cs e = outcome-close (state ts us) l cs ∙ ap (λ (c : Closed). shut c cs) (closing-by (state ts us) l ∙ ap (λ b. closing_by b (state ts us) l) e)

  module _ (ts : Trees) (us : List (List ℕ)) (k : ℕ) where
    -- what withdrawing tree k answers and leaves
    abbrev pub drawn_from : Withdrawn
    drawn_from = let w = withdrawing (state ts []) k in record { answer = w.answer; after = state (trees_of w.after) us }

    state-withdrawing : withdrawing (state ts us) k ≡ drawn_from
    unfolding without_tree
    state-withdrawing =
        withdrawing-by (state ts us) k ∙ go (ltb k (length ts.0))
        ∙ ap (λ (w : Withdrawn). record { answer = w.answer; after = state (trees_of w.after) us }) (sym (withdrawing-by (state ts []) k))
      where
        go : (b : Bool) → withdrawing_by b (state ts us) k ≡ (let w = withdrawing_by b (state ts []) k in record { answer = w.answer; after = state (trees_of w.after) us })
        go true = refl
        go false = refl

    pub outcome-withdrawn : (cs : List Call) → outcome (state ts us) (withdraw k ∷ cs) ≡ drawn drawn_from cs
    outcome-withdrawn cs = outcome-withdraw (state ts us) k cs ∙ ap (λ (w : Withdrawn). drawn w cs) state-withdrawing
