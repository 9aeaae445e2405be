-- What is held is what the remaining trees alone give: their texts handed in afresh, in their order, are all accepted and leave the same.
--
--   holding_trees ..                        a collection by its parts
--   accepts-elsewhere, accepts-alone       a text that is accepted is accepted as the same tree by any collection of the same opening that has room
--                                          for it, and so where nothing is held
--   branches_for, trees_for, lengths_for      the splits and lengths of a text, and those of texts
--   Left h ws                              the trees of the collection h are those of the texts ws, each of which is accepted where nothing is held
--   left-many, left-more, left-without     as many; one more tree, one withdrawn
--   left-run, left-opened, left_end        so are the trees after a run those of the texts that are left
-- from a good opening on:
--   afresh-accepted                        the texts that are left, handed in afresh, are accepted
--   afresh-trees, afresh-lengths           and leave the same trees and lengths
--   afresh-held                            so all that is held is the same, where no lane is in mid-text
--   afresh-questions, afresh-collisions    and so, whatever the lanes hold, every question has the same answer, in doubles bit for bit
use Rattle.std.specs.Prelude.{ℕ, suc, ◌≤◌, ◌≡◌, ◌⊎◌, Bool, ltb}
use native.Mathlib.Omega.{arith}
use Rattle.std.proofs.Math.Numerals.{add-one}
use Rattle.std.proofs.Math.Path.{refl, ap, ap₂, sym, subst}
use Rattle.std.proofs.Common.{◌∙◌, inl, inr, ltb-false}
use Rattle.std.proofs.Math.Bool.{true, false}
use mathlib.Core.List.{List, [], ◌∷◌, ◌++◌, map, map-append, append_assoc, append-nil}
use Rattle.std.proofs.Math.ListN.{length, length-append, length-map}
use Rattle.trees.specs.Plain.{Answer, refused, gives}
use Rattle.trees.specs.Value.{Length}
use Rattle.trees.specs.Verdict.{Branches}
use Rattle.trees.specs.Consensus.{recorded}
use Rattle.trees.specs.Opening.{Opening}
use Rattle.trees.specs.Held.{Held, Lane, holding, overrun, opened, lane_of, with_lane, with_tree, longer, verdict, accepted, Fed, finished, recording, finishing, feeding, Closed, closing}
use Rattle.trees.specs.NexusCall.{on_text}
use Rattle.trees.specs.Withdrawing.{without_at, without_tree, Withdrawn, withdrawing}
use Rattle.trees.specs.Whole.{good_opening}
use Rattle.trees.specs.Questions.{collisions_of}
use Rattle.trees.specs.Runs.{Call, feed, hand, close, withdraw, Heard, fed, answer, next, answers, ending}
use Rattle.theorems.specs.ListLaws.{Mem, mem-left, mem-right, mem-cases}
use Rattle.theorems.specs.RecordedLaws.{recorded-within}
use Rattle.theorems.specs.WholeHeld.{whole}
use Rattle.theorems.specs.HeldLaws.{whole-facts, opened-good, feeding-whole, handed-whole, closing-whole, withdrawing-whole}
use Rattle.theorems.specs.Refusing.{Accepts}
use Rattle.theorems.specs.RefusingLaws.{accepted-exactly}
use Rattle.theorems.specs.FeedingLaws.{ends_at, last_part, feeding_by, feeding-by, closing_by, closing-by}
use Rattle.theorems.specs.WithdrawLaws.{without-past, without-mem, without-map, withdrawing_by, withdrawing-by}
use Rattle.theorems.specs.RunLaws.{ending-opening, ending-whole}
use Rattle.theorems.specs.Alike.{SameAnswers}
use Rattle.theorems.specs.AlikeLaws.{same_alike, same-collisions, questions-alike}
use Rattle.theorems.specs.Remaining.{held_bytes, with_accepted, remaining_by, remaining, accepted_from}

-- ---- a text is judged alike, whatever is held

-- a collection with another's opening
abbrev pub holding_trees : Opening → List (List ℕ) → List (List Length) → List Lane → Held
holding_trees o ts xss xs = record { opening = o; trees = ts; lengths = xss; texts = xs }

module _ (h : Held) (w : List ℕ) (b : Branches) (a : Accepts h w b) where
  pub accepts-elsewhere : (ts : List (List ℕ)) (xss : List (List Length)) (xs : List Lane) → (length ts ≡ h.opening.numbers.tree_room → ⊥)
      → length (recorded (ts ++ b.splits ∷ [])) ≤ h.opening.numbers.split_room
      → Accepts (holding_trees h.opening ts xss xs) w b
  accepts-elsewhere ts xss xs free fits =
      record {
        tree = a.tree;
        faultless = record { short = a.faultless.short; tree = a.faultless.tree; leaves-fine = a.faultless.leaves-fine };
        in-range = a.in-range;
        tree-room = free;
        split-room = subst (λ (t : List ℕ). length (recorded (ts ++ t ∷ [])) ≤ h.opening.numbers.split_room) a.splits fits;
        splits = a.splits;
        lengths = a.lengths;
      }

  -- what is recorded of its tree alone is no more
  pub accepts-alone : length h.trees ≤ h.opening.numbers.tree_room → Accepts (opened h.opening) w b
  unfolding opened
  accepts-alone f =
      accepts-elsewhere [] [] _ (λ e. a.tree-room (omega arith))
      (omega (
        arith,
        recorded-within (b.splits ∷ []) (h.trees ++ b.splits ∷ []) (λ t m. mem-right t h.trees (b.splits ∷ []) m),
        a.split-room,
        ap (λ (t : List ℕ). length (recorded (h.trees ++ t ∷ []))) a.splits,
      ))

-- ---- trees and their texts

-- what an answer gives
abbrev given_by : Answer Branches → Branches
given_by (refused k) = record { splits = []; lengths = [] }
given_by (gives b) = b

-- the splits and lengths of the text w
abbrev pub branches_for : Opening → List ℕ → Branches
branches_for o w = given_by (on_text (opened o) w)

abbrev pub trees_for : Opening → List (List ℕ) → List (List ℕ)
trees_for o ws = map (λ w. (branches_for o w).splits) ws

abbrev pub lengths_for : Opening → List (List ℕ) → List (List Length)
lengths_for o ws = map (λ w. (branches_for o w).lengths) ws

pub record Left (h : Held) (ws : List (List ℕ)) : Type 0 where
  pub trees : h.trees ≡ trees_for h.opening ws
  pub lengths : h.lengths ≡ lengths_for h.opening ws
  pub each : (w : List ℕ) → Mem w ws → Accepts (opened h.opening) w (branches_for h.opening w)

-- whatever the lanes hold
left_lane : (h : Held) (ws : List (List ℕ)) → Left h ws → (l : ℕ) (x : Lane) → Left (with_lane h l x) ws
unfolding with_lane
left_lane h ws k l x = record { trees = k.trees; lengths = k.lengths; each = k.each }

module _ (h : Held) (ws : List (List ℕ)) (k : Left h ws) where
  pub left-many : length h.trees ≡ length ws
  left-many = ap length k.trees ∙ length-map ws _

  -- ---- one call

  pub left-more : (w : List ℕ) (b : Branches) → Accepts (opened h.opening) w b → Left (with_tree h b) (ws ++ w ∷ [])
  unfolding with_tree on_text
  left-more w b a =
      let e : branches_for h.opening w ≡ b = ap given_by ((accepted-exactly (opened h.opening) w b).1 a) in
      record {
        trees = (λ i. k.trees i ++ (sym e i).splits ∷ []) ∙ sym (map-append _ ws (w ∷ []));
        lengths = (λ i. k.lengths i ++ (sym e i).lengths ∷ []) ∙ sym (map-append _ ws (w ∷ []));
        each = λ v m. each_of v e (mem-cases v ws (w ∷ []) m);
      }
    where
      each_of : (v : List ℕ) → branches_for h.opening w ≡ b → Mem v ws ⊎ Mem v (w ∷ []) → Accepts (opened h.opening) v (branches_for h.opening v)
      each_of v e (inr (inr x'')) = elim x'' [ ]
      each_of v e (inl m) = k.each v m
      each_of v e (inr (inl q)) = subst (λ (u : List ℕ). Accepts (opened h.opening) u (branches_for h.opening u)) (sym q) (subst (Accepts (opened h.opening) w) (sym e) a)

  left-recorded : whole h ≡ true → (w : List ℕ) (v : Answer Branches) → verdict h (longer (holding []) w) ≡ v → Left (recording h v) (with_accepted ws (finished h v) w)
  unfolding recording finished with_accepted
  left-recorded f w (refused n) e = k
  left-recorded f w (gives b) e = left-more w b (accepts-alone h w b ((accepted-exactly h w b).0 e) (whole-facts h f).trees-fit)

  -- a lane that ran over is refused
  left-judged : whole h ≡ true → (x : Lane) (q : List ℕ) → let v = verdict h (longer x q) in Left (recording h v) (with_accepted ws (finished h v) (held_bytes x ++ q))
  unfolding verdict longer held_bytes recording finished with_accepted
  left-judged f (overrun r) q = k
  left-judged f (holding s) q = left-recorded f (s ++ q) (verdict h (longer (holding s) q)) refl

  left-fed : whole h ≡ true → (l : ℕ) (p : List ℕ) → Left (feeding h l p).after (remaining_by ws h (feed l p))
  unfolding remaining_by finishing with_accepted
  left-fed f l p =
      subst (λ (r : Fed). Left r.after (with_accepted ws r.answer (held_bytes (lane_of h l) ++ last_part h l p))) (sym (feeding-by h l p)) (go (ltb l h.opening.numbers.lanes) (ends_at h l p))
    where
      go : (b c : Bool) → Left (feeding_by b c h l p).after (with_accepted ws (feeding_by b c h l p).answer (held_bytes (lane_of h l) ++ last_part h l p))
      go true true =
          let v = verdict h (longer (lane_of h l) (last_part h l p)) in
          left_lane (recording h v) (with_accepted ws (finished h v) (held_bytes (lane_of h l) ++ last_part h l p)) (left-judged f (lane_of h l) (last_part h l p)) l (holding [])
      go true false = left_lane h ws k l (longer (lane_of h l) p)
      go false c = k

  left-closed : (l : ℕ) → Left (closing h l).after ws
  left-closed l = subst (λ (r : Closed). Left r.after ws) (sym (closing-by h l)) (go (ltb l h.opening.numbers.lanes))
    where
      go : (b : Bool) → Left (closing_by b h l).after ws
      go true = left_lane h ws k l (holding [])
      go false = k

  pub left-without : (n : ℕ) → Left (without_tree h n) (without_at n ws)
  unfolding without_tree
  left-without n =
      record {
        trees = ap (without_at n) k.trees ∙ sym (without-map _ n ws);
        lengths = ap (without_at n) k.lengths ∙ sym (without-map _ n ws);
        each = λ w m. k.each w (without-mem n ws w m);
      }

  left-withdrawn : (n : ℕ) → Left (withdrawing h n).after (without_at n ws)
  left-withdrawn n = subst (λ (r : Withdrawn). Left r.after (without_at n ws)) (sym (withdrawing-by h n)) (go (ltb n (length h.trees)) refl)
    where
      go : (b : Bool) → ltb n (length h.trees) ≡ b → Left (withdrawing_by b h n).after (without_at n ws)
      go true e = left-without n
      go false e = subst (Left h) (sym (without-past n ws (omega (arith, ltb-false n (length h.trees) e, left-many)))) k

-- ---- a run

pub left-run : (cs : List Call) (h : Held) (ws : List (List ℕ)) → whole h ≡ true → Left h ws → Left (ending h cs) (remaining ws h cs)
unfolding ending next remaining remaining_by on_text
left-run [] h ws f k = k
left-run (feed l p ∷ cs) h ws f k = left-run cs (feeding h l p).after (remaining_by ws h (feed l p)) (feeding-whole h l p f) (left-fed h ws k f l p)
left-run (hand t ∷ cs) h ws f k = left-run cs (recording h (on_text h t)) (remaining_by ws h (hand t)) (handed-whole h t f) (left-recorded h ws k f t (on_text h t) refl)
left-run (close l ∷ cs) h ws f k = left-run cs (closing h l).after ws (closing-whole h l f) (left-closed h ws k l)
left-run (withdraw n ∷ cs) h ws f k = left-run cs (withdrawing h n).after (without_at n ws) (withdrawing-whole h n f) (left-withdrawn h ws k n)

pub left-opened : (o : Opening) → Left (opened o) []
unfolding opened
left-opened o = record { trees = refl; lengths = refl; each = λ w m. absurd m }

-- ---- handed in afresh

module _ (o : Opening) (xs : List Lane) where
  -- the collection of the texts ws
  abbrev held_of : List (List ℕ) → Held
  held_of ws = holding_trees o (trees_for o ws) (lengths_for o ws) xs

  -- rooms that hold the trees of the texts ws, each of which is accepted where nothing is held
  record Fits (ws : List (List ℕ)) : Type 0 where
    trees-fit : length ws ≤ o.numbers.tree_room
    splits-fit : length (recorded (trees_for o ws)) ≤ o.numbers.split_room
    each : (w : List ℕ) → Mem w ws → Accepts (opened o) w (branches_for o w)

  -- the text w behind the texts vs
  handed-next : (vs : List (List ℕ)) (w : List ℕ) (ws : List (List ℕ)) → Fits (vs ++ w ∷ ws) → on_text (held_of vs) w ≡ gives (branches_for o w)
  unfolding on_text opened
  handed-next vs w ws f =
      let b = branches_for o w in
      let some : Mem w (vs ++ w ∷ ws) = mem-right w vs (w ∷ ws) (inl refl) in
      let fewer = recorded-within (trees_for o vs ++ b.splits ∷ []) (trees_for o (vs ++ w ∷ ws)) (λ t m. rw (map-append (λ v. (branches_for o v).splits) vs (w ∷ ws)) (first t (mem-cases t (trees_for o vs) (b.splits ∷ []) m))) in
      (accepted-exactly (held_of vs) w b).1
      (accepts-elsewhere (opened o) w b (f.each w some) (trees_for o vs) (lengths_for o vs) xs
      (λ e. omega (arith, f.trees-fit, length-append vs (w ∷ ws), length-map vs (λ v. (branches_for o v).splits)))
      (omega (arith, fewer, f.splits-fit)))
    where
      first : (t : List ℕ) → Mem t (trees_for o vs) ⊎ Mem t ((branches_for o w).splits ∷ []) → Mem t (trees_for o vs ++ ((branches_for o w).splits ∷ trees_for o ws))
      first t (inr (inr x'')) = elim x'' [ ]
      first t (inl m) = mem-left t (trees_for o vs) _ m
      first t (inr (inl e)) = mem-right t (trees_for o vs) _ (inl e)

  handed-one : (vs : List (List ℕ)) (w : List ℕ) (ws : List (List ℕ)) → Fits (vs ++ w ∷ ws)
      → (answer (held_of vs) (hand w) ≡ fed (suc (length w)) (gives (accepted (length vs)))) × (next (held_of vs) (hand w) ≡ held_of (vs ++ w ∷ []))
  unfolding answer next finished recording with_tree
  handed-one vs w ws f =
      let e = handed-next vs w ws f in (
        ap (λ (v : Answer Branches). fed (suc (length w)) (finished (held_of vs) v)) e ∙ ap (λ (n : ℕ). fed (suc (length w)) (gives (accepted n))) (length-map vs _),
        ap (recording (held_of vs)) e ∙ λ i. holding_trees o (sym (map-append (λ v. (branches_for o v).splits) vs (w ∷ [])) i) (sym (map-append (λ v. (branches_for o v).lengths) vs (w ∷ [])) i) xs,
      )

  handed-all : (vs ws : List (List ℕ)) → Fits (vs ++ ws) → (answers (held_of vs) (map hand ws) ≡ accepted_from (length vs) ws) × (ending (held_of vs) (map hand ws) ≡ held_of (vs ++ ws))
  unfolding answers ending accepted_from
  handed-all vs [] f = (refl, ap held_of (sym (append-nil vs)))
  handed-all vs (w ∷ ws) f =
      let one = handed-one vs w ws f in
      let rest = handed-all (vs ++ w ∷ []) ws (subst Fits (sym (append_assoc vs (w ∷ []) ws)) f) in (
        ap₂ (λ (a : Heard) (r : List Heard). a ∷ r) one.0
            (ap (λ (h : Held). answers h (map hand ws)) one.1 ∙ rest.0 ∙ ap (λ (n : ℕ). accepted_from n ws) (length-append vs (w ∷ []) ∙ add-one (length vs))),
        ap (λ (h : Held). ending h (map hand ws)) one.1 ∙ rest.1 ∙ ap held_of (append_assoc vs (w ∷ []) ws),
      )

-- ---- the theorem

left-fits : (h : Held) (ws : List (List ℕ)) (xs : List Lane) → whole h ≡ true → Left h ws → Fits h.opening xs ws
left-fits h ws xs f k =
    let w = whole-facts h f in
    record {
      trees-fit = omega (arith, w.trees-fit, left-many h ws k);
      splits-fit = subst (λ (ts : List (List ℕ)). length (recorded ts) ≤ h.opening.numbers.split_room) k.trees w.splits-fit;
      each = k.each;
    }

-- the texts whose trees are left after the calls cs, from a good opening on
module _ (o : Opening) (g : good_opening o ≡ true) (cs : List Call) where
  abbrev texts : List (List ℕ)
  texts = remaining [] (opened o) cs

  whole-end : whole (ending (opened o) cs) ≡ true
  whole-end = ending-whole (opened o) cs (opened-good o g)

  pub left_end : Left (ending (opened o) cs) texts
  left_end = left-run cs (opened o) [] (opened-good o g) (left-opened o)

  handed-afresh : (answers (opened o) (map hand texts) ≡ accepted_from 0 texts) × (ending (opened o) (map hand texts) ≡ held_of o (opened o).texts texts)
  unfolding opened
  handed-afresh =
      handed-all o (opened o).texts [] texts
      (subst (λ (p : Opening). Fits p (opened o).texts texts) (ending-opening (opened o) cs) (left-fits (ending (opened o) cs) texts (opened o).texts whole-end left_end))

  pub afresh-accepted : answers (opened o) (map hand texts) ≡ accepted_from 0 texts
  afresh-accepted = handed-afresh.0

  pub afresh-trees : (ending (opened o) cs).trees ≡ (ending (opened o) (map hand texts)).trees
  unfolding opened
  afresh-trees = left_end.trees ∙ ap (λ (p : Opening). trees_for p texts) (ending-opening (opened o) cs) ∙ ap (λ (h : Held). h.trees) (sym handed-afresh.1)

  pub afresh-lengths : (ending (opened o) cs).lengths ≡ (ending (opened o) (map hand texts)).lengths
  unfolding opened
  afresh-lengths = left_end.lengths ∙ ap (λ (p : Opening). lengths_for p texts) (ending-opening (opened o) cs) ∙ ap (λ (h : Held). h.lengths) (sym handed-afresh.1)

  same-opening : (ending (opened o) cs).opening ≡ (ending (opened o) (map hand texts)).opening
  same-opening = ending-opening (opened o) cs ∙ sym (ending-opening (opened o) (map hand texts))

  -- and so is every answer from there on, to a text too
  pub afresh-held : (ending (opened o) cs).texts ≡ (opened o).texts → ending (opened o) cs ≡ ending (opened o) (map hand texts)
  afresh-held e = λ i. holding_trees (same-opening i) (afresh-trees i) (afresh-lengths i) ((e ∙ sym (ap (λ (h : Held). h.texts) handed-afresh.1)) i)

  pub afresh-questions : SameAnswers (ending (opened o) cs) (ending (opened o) (map hand texts))
  afresh-questions =
      let h = ending (opened o) cs in
      let k = ending (opened o) (map hand texts) in
      questions-alike h k (same_alike h k same-opening afresh-trees afresh-lengths)

  pub afresh-collisions : collisions_of (ending (opened o) cs) ≡ collisions_of (ending (opened o) (map hand texts))
  afresh-collisions = same-collisions (ending (opened o) cs) (ending (opened o) (map hand texts)) same-opening afresh-trees
