-- "Opening says whether lengths are kept; if not .., all is as before": what the calls answer of whole bytes that keep none. Assumes nothing.
--
--   weighted-not-kept, split-lengths-not-kept     the calls on lengths are refused: 13 where there is no such tree or split, else 18
--   seventeen-not-kept     no verdict of a run is 17, those of batches and NEXUS files among them
use Rattle.std.specs.Prelude.{ℕ, suc, ◌≡◌, Bool, List, [], ◌∷◌, ltb, length, if◌then◌else◌}
use Rattle.std.proofs.Common.{arith, sym, ◌∙◌, inl, inr}
use Rattle.std.proofs.Math.Path.{ap, subst}
use Rattle.std.proofs.Math.Bool.{true, false}
use Rattle.trees.specs.Plain.{Answer, refused, gives}
use Rattle.trees.specs.Consensus.{recorded}
use Rattle.trees.specs.Verdict.{Branches}
use Rattle.trees.specs.Opening.{Opening}
use Rattle.trees.specs.Held.{Held, lane_of, longer, holding, verdict, more_wanted, accepted, Fed, finished, finishing}
use Rattle.trees.specs.NexusCall.{on_text}
use Rattle.trees.specs.Questions.{if_tree}
use Rattle.trees.specs.Runs.{Call, feed, hand, close, withdraw, Heard, fed, closed_lane, withdrew, answer, next, answers, ending, Final, accepted_as, refused_with, closed_with, withdrawn_with, finals}
use Rattle.theorems.specs.ListLaws.{Mem}
use Rattle.theorems.specs.FeedingLaws.{ends_at, last_part, feeding_by, feeding-by}
use Rattle.theorems.specs.RunLaws.{ending-opening}
use Rattle.theorems.specs.NotKeptLaws.{not-seventeen, weighted-not-kept as weighted-refused, sums-not-kept}
use Rattle.layout.specs.Store.{held_at}
use Rattle.layout.specs.WholeStore.{whole_at}
use Rattle.promises.specs.Calls.{weighted, split-lengths, Reply, weight, sums, reply, Made, Told, handed_all, verdicts_told}
use Rattle.promises.specs.Steps.{Asked, Steps}
use Rattle.promises.specs.StepLaws.{asked-follows, steps-follow}
use Rattle.promises.specs.RunLaws.{verdicts-all}

-- ---- the verdicts of a run of the definitions

-- the number that a verdict is refused with, 0 where it is none
refusal_of : Final → ℕ
refusal_of (accepted_as t) = 0
refusal_of (refused_with k) = k
refusal_of (closed_with a) = 0
refusal_of (withdrawn_with a) = 0

abbrev NotSeventeen : Heard → Type 0
NotSeventeen (fed n (refused k)) = k ≡ 17 → ⊥
NotSeventeen (fed n (gives p)) = Unit {0}
NotSeventeen (closed_lane a) = Unit {0}
NotSeventeen (withdrew a) = Unit {0}

-- a verdict of 17 behind an answer that is not
behind : (a : Heard) (as' : List Heard) → NotSeventeen a → Mem (refused_with 17) (finals (a ∷ as')) → Mem (refused_with 17) (finals as')
unfolding finals refusal_of
behind (fed n (gives more_wanted)) as' q m = m
behind (fed n (gives (accepted t))) as' q (inl e) = absurd (omega (arith, ap refusal_of e))
behind (fed n (gives (accepted t))) as' q (inr m) = m
behind (fed n (refused k)) as' q (inl e) = absurd (q (sym (ap refusal_of e)))
behind (fed n (refused k)) as' q (inr m) = m
behind (closed_lane a) as' q (inl e) = absurd (omega (arith, ap refusal_of e))
behind (closed_lane a) as' q (inr m) = m
behind (withdrew a) as' q (inl e) = absurd (omega (arith, ap refusal_of e))
behind (withdrew a) as' q (inr m) = m

module _ (h : Held) (none_kept : h.opening.numbers.kept ≡ 0) where
  judged-not : (n : ℕ) (v : Answer Branches) → (v ≡ refused 17 → ⊥) → NotSeventeen (fed n (finished h v))
  unfolding finished
  judged-not n (refused k) f = λ e. f (ap (λ (j : ℕ). refused j) e)
  judged-not n (gives b) f = tt

  fed-not : (b c : Bool) (l : ℕ) (p : List ℕ) → let f = feeding_by b c h l p in NotSeventeen (fed f.taken f.answer)
  unfolding finishing
  fed-not true true l p = let x = longer (lane_of h l) (last_part h l p) in judged-not (suc (length (last_part h l p))) (verdict h x) (not-seventeen h none_kept x)
  fed-not true false l p = tt
  fed-not false c l p = λ e. omega (arith, e)

  answer-not : (c : Call) → NotSeventeen (answer h c)
  unfolding answer on_text
  answer-not (feed l p) =
      subst (λ (f : Fed). NotSeventeen (fed f.taken f.answer)) (sym (feeding-by h l p)) (fed-not (ltb l h.opening.numbers.lanes) (ends_at h l p) l p)
  answer-not (hand t) = let x = longer (holding []) t in judged-not (suc (length t)) (verdict h x) (not-seventeen h none_kept x)
  answer-not (close l) = tt
  answer-not (withdraw k) = tt

next-opening : (h : Held) (c : Call) → (next h c).opening ≡ h.opening
unfolding ending
next-opening h c = ending-opening h (c ∷ [])

finals-not : (cs : List Call) (h : Held) → h.opening.numbers.kept ≡ 0 → Mem (refused_with 17) (finals (answers h cs)) → ⊥
unfolding answers finals
finals-not [] h e m = m
finals-not (c ∷ cs) h e m =
    finals-not cs (next h c) (ap (λ (o : Opening). o.numbers.kept) (next-opening h c) ∙ e) (behind (answer h c) (answers (next h c) cs) (answer-not h e c) m)

-- ---- whole bytes

module _ (s : List ℕ) (w : whole_at s ≡ true) (none_kept : (held_at s).opening.numbers.kept ≡ 0) where
  abbrev h : Held
  h = held_at s

  pub weighted-not-kept : (i j : ℕ) (a : Reply) → Asked s (weighted i j) a → a ≡ weight (if_tree h i (if_tree h j (refused 18)))
  unfolding reply
  weighted-not-kept i j a q = asked-follows s w (weighted i j) a q ∙ ap weight (weighted-refused h none_kept i j)

  pub split-lengths-not-kept : (k : ℕ) (a : Reply) → Asked s (split-lengths k) a → a ≡ sums (if ltb k (length (recorded h.trees)) then refused 18 else refused 13)
  unfolding reply
  split-lengths-not-kept k a q = asked-follows s w (split-lengths k) a q ∙ ap sums (sums-not-kept h none_kept k)

  pub seventeen-not-kept : (cs : List Made) (as' : List Told) (t : List ℕ) → Steps s cs as' t → Mem (refused_with 17) (verdicts_told as') → ⊥
  seventeen-not-kept cs as' t run m =
      let e : verdicts_told as' ≡ finals (answers h (handed_all h cs)) = ap verdicts_told (steps-follow cs s as' t w run).1 ∙ verdicts-all cs (length s) h in
      finals-not (handed_all h cs) h none_kept (subst (Mem (refused_with 17)) e m)
