-- A withdrawn tree's room serves again.
--
--   withdraw-just-handed, withdraw-just-fed      withdrawing the tree that was just accepted gives back what was held; where its text was
--                                                fed to a lane, with that lane empty
--   eleven-no-longer     behind a withdrawal the tree room is not full; so by `fed-eleven-exactly` no text is refused with 11
--   again-accepted       the text of a withdrawn tree is accepted again, at full room too
--   Turns h ws ks        trees withdrawn one after another, each text handed in again: nothing is refused, and as many trees and the same splits
--                        are held as before
--   room-serves-again    so it is for any number of trees, withdrawn one after another, and each time the same splits are recorded again
-- Which texts are refused with 12 goes by the trees that are left, and by nothing else: `fed-twelve-exactly`, of what is held then.
use Rattle.std.specs.Prelude.{ℕ, suc, ◌-◌, ◌<◌, refl, ◌↔◌, Bool, ltb, get_or}
use Rattle.std.proofs.Common.{arith, sym, ◌∙◌, inl, inr}
use Rattle.std.proofs.Math.Path.{◌≡◌, ap, ap₂, subst}
use Rattle.std.proofs.Math.Bool.{true, false}
use mathlib.Core.List.{List, [], ◌∷◌, ◌++◌}
use Rattle.std.proofs.Math.ListN.{length, length-append, get_or-map}
use Rattle.trees.specs.Plain.{Answer, refused, gives}
use Rattle.trees.specs.Verdict.{Branches}
use Rattle.trees.specs.Consensus.{recorded}
use Rattle.trees.specs.Opening.{Opening}
use Rattle.trees.specs.Held.{Held, holding, opened, lane_of, with_lane, with_tree, longer, verdict, accepted, Fed, finished, recording, finishing}
use Rattle.trees.specs.NexusCall.{on_text}
use Rattle.trees.specs.Withdrawing.{without_at, without_tree, Withdrawn, withdrawing}
use Rattle.trees.specs.Whole.{good_opening}
use Rattle.trees.specs.Runs.{Call, feed, hand, withdraw, fed, withdrew, answer, next, answers, ending}
use Rattle.theorems.specs.ListLaws.{Mem, mem-stands}
use Rattle.theorems.specs.RecordedLaws.{recorded-within, recorded-same}
use Rattle.theorems.specs.WithdrawLaws.{without_fewer, without-last, without-again, withdrawing-done}
use Rattle.theorems.specs.WholeHeld.{whole}
use Rattle.theorems.specs.HeldLaws.{whole-facts, opened-good, handed-whole, withdrawing-whole}
use Rattle.theorems.specs.WholeLengthLaws.{whole-lengths}
use Rattle.theorems.specs.Refusing.{TreesFull}
use Rattle.theorems.specs.RefusingLaws.{accepted-exactly}
use Rattle.theorems.specs.FeedingLaws.{ends_at, last_part, feeding_by, feeding-by}
use Rattle.theorems.specs.RunLaws.{ending-whole}
use Rattle.theorems.specs.Remaining.{remaining, turns, turns_heard}
use Rattle.theorems.specs.AfreshLaws.{accepts-elsewhere, branches_for, Left, left-many, left-more, left-without, left_end}

-- ---- the tree that was just accepted

-- withdrawn, it is as if it had not come
last-withdrawn : (h : Held) → length h.lengths ≡ length h.trees → (b : Branches) → (withdrawing (with_tree h b) (length h.trees)).after ≡ h
unfolding with_tree without_tree
last-withdrawn h e b =
    ap (λ (r : Withdrawn). r.after) (withdrawing-done (with_tree h b) (length h.trees) (omega (arith, length-append h.trees (b.splits ∷ []))))
    ∙ λ i. record {
      opening = h.opening;
      trees = without-last h.trees b.splits i;
      lengths = (ap (λ (n : ℕ). without_at n (h.lengths ++ b.lengths ∷ [])) (sym e) ∙ without-last h.lengths b.lengths) i;
      texts = h.texts;
    }

-- an answer that accepts
record Taken (h : Held) (v : Answer Branches) (k : ℕ) : Type 0 where
  branches : Branches
  given : v ≡ gives branches
  number : k ≡ length h.trees

accepted-taken : (h : Held) (v : Answer Branches) (k : ℕ) → finished h v ≡ gives (accepted k) → Taken h v k
unfolding finished
accepted-taken h (refused n) k e = let z : ◌≡◌ {A = ℕ} 0 1 = cc in absurd (omega arith)
accepted-taken h (gives b) k e = record { branches = b; given = refl; number = cc }

module _ (h : Held) (w : whole h ≡ true) where
  pub withdraw-just-handed : (t : List ℕ) (n k : ℕ) → answer h (hand t) ≡ fed n (gives (accepted k)) → next (next h (hand t)) (withdraw k) ≡ h
  unfolding answer next recording
  withdraw-just-handed t n k e =
      let r = accepted-taken h (on_text h t) k cc in
      ap₂ (λ (v : Answer Branches) (i : ℕ). (withdrawing (recording h v) i).after) r.given r.number ∙ last-withdrawn h (whole-lengths h w).as_many r.branches

  -- "After a semicolon the lane is empty either way"
  pub withdraw-just-fed : (l : ℕ) (p : List ℕ) (n k : ℕ) → answer h (feed l p) ≡ fed n (gives (accepted k)) → next (next h (feed l p)) (withdraw k) ≡ with_lane h l (holding [])
  unfolding answer next finishing recording with_tree with_lane
  withdraw-just-fed l p n k e = subst (λ (r : Fed). r.answer ≡ gives (accepted k) → (withdrawing r.after k).after ≡ with_lane h l (holding [])) (sym (feeding-by h l p)) (go (ltb l h.opening.numbers.lanes) (ends_at h l p)) cc
    where
      go : (b c : Bool) → (feeding_by b c h l p).answer ≡ gives (accepted k) → (withdrawing (feeding_by b c h l p).after k).after ≡ with_lane h l (holding [])
      go true true q =
          let r = accepted-taken h (verdict h (longer (lane_of h l) (last_part h l p))) k q in
          ap₂ (λ (v : Answer Branches) (i : ℕ). (withdrawing (with_lane (recording h v) l (holding [])) i).after) r.given r.number
          ∙ last-withdrawn (with_lane h l (holding [])) (whole-lengths h w).as_many r.branches
      go true false q = let z : ◌≡◌ {A = ℕ} 0 1 = cc in absurd (omega arith)
      go false c q = let z : ◌≡◌ {A = ℕ} 0 1 = cc in absurd (omega arith)

-- ---- rooms

-- "its room and the tree's serve again"
module _ (h : Held) (w : whole h ≡ true) (k : ℕ) (l : k < length h.trees) where
  pub eleven-no-longer : TreesFull (withdrawing h k).after → ⊥
  unfolding without_tree
  eleven-no-longer e =
      omega (arith, subst (λ (r : Withdrawn). TreesFull r.after) (withdrawing-done h k l) e, without_fewer k h.trees l, (whole-facts h w).trees-fit)

  module _ (ws : List (List ℕ)) (x : Left h ws) where
    -- the text of tree k, and its splits and lengths
    abbrev again : List ℕ
    again = get_or ws k []

    abbrev its_branches : Branches
    its_branches = branches_for h.opening again

    here : k < length ws
    here = omega (arith, l, left-many h ws x)

    -- the tree behind those that are left: all the trees of before
    same-trees : (t : List ℕ) → Mem t (without_at k h.trees ++ its_branches.splits ∷ []) ↔ Mem t h.trees
    same-trees t =
        subst (λ (u : List ℕ). Mem t (without_at k h.trees ++ u ∷ []) ↔ Mem t h.trees)
        (ap (λ (ts : List (List ℕ)). get_or ts k (branches_for h.opening []).splits) x.trees ∙ get_or-map (λ v. (branches_for h.opening v).splits) ws k [])
        (without-again k h.trees (branches_for h.opening []).splits l t)

    pub again-accepted : on_text (without_tree h k) again ≡ gives its_branches
    unfolding on_text opened without_tree
    again-accepted =
        let f = whole-facts h w in
        (accepted-exactly (without_tree h k) again its_branches).1
        (accepts-elsewhere (opened h.opening) again its_branches (x.each again (mem-stands ws k [] here)) (without_at k h.trees) (without_at k h.lengths) h.texts
        (λ e. omega (arith, without_fewer k h.trees l, f.trees-fit))
        (omega (arith, recorded-within (without_at k h.trees ++ its_branches.splits ∷ []) h.trees (λ t m. (same-trees t).0 m), f.splits-fit)))

    -- ---- withdrawn, and handed in again

    -- what is held then
    abbrev turned : Held
    turned = with_tree (without_tree h k) its_branches

    turn-after : next (next h (withdraw k)) (hand again) ≡ turned
    unfolding next recording
    turn-after = ap (λ (r : Withdrawn). recording r.after (on_text r.after again)) (withdrawing-done h k l) ∙ ap (recording (without_tree h k)) again-accepted

    turn-heard : answer (next h (withdraw k)) (hand again) ≡ fed (suc (length again)) (gives (accepted (length ws - 1)))
    unfolding answer next finished without_tree
    turn-heard =
        ap (λ (r : Withdrawn). fed (suc (length again)) (finished r.after (on_text r.after again))) (withdrawing-done h k l)
        ∙ ap (λ (v : Answer Branches). fed (suc (length again)) (finished (without_tree h k) v)) again-accepted
        ∙ ap (λ (n : ℕ). fed (suc (length again)) (gives (accepted n))) (let n : length (without_at k h.trees) ≡ length ws - 1 = omega (arith, without_fewer k h.trees l, left-many h ws x) in n)

    turn-whole : whole turned ≡ true
    unfolding next
    turn-whole = subst (λ (y : Held). whole y ≡ true) turn-after (handed-whole (withdrawing h k).after again (withdrawing-whole h k w))

    turn-left : Left turned (without_at k ws ++ again ∷ [])
    unfolding without_tree
    turn-left = left-more (without_tree h k) (without_at k ws) (left-without h ws x k) again its_branches (x.each again (mem-stands ws k [] here))

    turn_many : length turned.trees ≡ length h.trees
    unfolding with_tree without_tree
    turn_many = omega (arith, length-append (without_at k h.trees) (its_branches.splits ∷ []), without_fewer k h.trees l)

    turn-recorded : recorded turned.trees ≡ recorded h.trees
    unfolding with_tree without_tree
    turn-recorded = recorded-same (without_at k h.trees ++ its_branches.splits ∷ []) h.trees (λ t. (same-trees t).0) (λ t. (same-trees t).1)

-- ---- any number of times

-- nothing is refused, and there are as many trees as before and the same splits
pub record Turns (h : Held) (ws : List (List ℕ)) (ks : List ℕ) : Type 0 where
  pub heard : answers h (turns ws ks) ≡ turns_heard (length ws - 1) ws ks
  pub trees : length (ending h (turns ws ks)).trees ≡ length h.trees
  pub splits : recorded (ending h (turns ws ks)).trees ≡ recorded h.trees

turns-run : (ks : List ℕ) (h : Held) (ws : List (List ℕ)) → whole h ≡ true → Left h ws → ((k : ℕ) → Mem k ks → k < length h.trees) → Turns h ws ks
unfolding answers ending turns turns_heard answer
turns-run [] h ws w x f = record { heard = refl; trees = refl; splits = refl }
turns-run (k ∷ ks) h ws w x f =
    let l = f k (inl refl) in
    let a = get_or ws k [] in
    let vs = without_at k ws ++ a ∷ [] in
    let rest = turns-run ks (turned h w k l ws x) vs (turn-whole h w k l ws x) (turn-left h w k l ws x) (λ j m. omega (arith, f j (inr m), turn_many h w k l ws x)) in
    let many : length vs - 1 ≡ length ws - 1 = omega (arith, length-append (without_at k ws) (a ∷ []), without_fewer k ws (here h w k l ws x)) in
    let after : (P : Held → Type 0) → P (turned h w k l ws x) → P (next (next h (withdraw k)) (hand a)) = λ P p. subst P (sym (turn-after h w k l ws x)) p in
    record {
      heard = λ i. ap (λ (r : Withdrawn). withdrew r.answer) (withdrawing-done h k l) i ∷ turn-heard h w k l ws x i
          ∷ (after (λ y. answers y (turns vs ks) ≡ turns_heard (length vs - 1) vs ks) rest.heard ∙ ap (λ (n : ℕ). turns_heard n vs ks) many) i;
      trees = after (λ y. length (ending y (turns vs ks)).trees ≡ length (turned h w k l ws x).trees) rest.trees ∙ turn_many h w k l ws x;
      splits = after (λ y. recorded (ending y (turns vs ks)).trees ≡ recorded (turned h w k l ws x).trees) rest.splits ∙ turn-recorded h w k l ws x;
    }

-- "a thousand times in a row at full room": from a good opening on, after any run, and however full the rooms are
pub room-serves-again : (o : Opening) → good_opening o ≡ true → (cs : List Call) (ks : List ℕ) → ((k : ℕ) → Mem k ks → k < length (ending (opened o) cs).trees)
    → Turns (ending (opened o) cs) (remaining [] (opened o) cs) ks
room-serves-again o g cs ks f =
    turns-run ks (ending (opened o) cs) (remaining [] (opened o) cs) (ending-whole (opened o) cs (opened-good o g)) (left_end o g cs) f
