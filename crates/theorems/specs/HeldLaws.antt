-- "Whole" is kept: a collection just opened is whole, and feeding, closing and withdrawing leave a whole one whole.
--
--   Whole h             what the test of a whole collection says, as facts
--   verdict-fits        a tree that a verdict gives is in order, with its lengths, and there is room for it
--   opening-accepted    what an accepted opening fixes
--   opened-good         a collection just opened, its opening being good, is whole
--   opened-whole, feeding-whole, handed-whole, closing-whole, withdrawing-whole    the calls keep "whole"
use Rattle.std.specs.Prelude.{ℕ, zero, suc, ◌+◌, ◌≤◌, ◌<◌, ◌≡◌, Bool, true, ◌&&◌, List, [], ◌∷◌, ◌++◌, leb, ltb, eqb, length, set, replicate}
use Rattle.std.proofs.Common.{arith, sym, ◌∙◌, true≢false, length-append, length-set, ltb-true, ltb-false, leb-true, le-leb, eqb-true, eq-eqb}
use Rattle.std.proofs.Math.Path.{refl, subst}
use Rattle.std.proofs.lemmas.List.{length-replicate}
use Rattle.std.proofs.lemmas.Bool.{eqb-false}
use Rattle.trees.specs.Plain.{every, Answer, refused, gives}
use Rattle.trees.specs.Names.{names_in, good_names}
use Rattle.trees.specs.Consensus.{recorded}
use Rattle.trees.specs.Value.{Length}
use Rattle.trees.specs.Verdict.{Branches, judged_with}
use Rattle.trees.specs.Opening.{Numbers, Opening, in_range, good_constants, store_size, opening}
use Rattle.trees.specs.Held.{Held, Lane, holding, overrun, most_text, opened, lane_of, with_lane, with_tree, longer, new_splits, room_for, with_room, verdict, Fed, recording, finishing, feeding, Closed, closing}
use Rattle.trees.specs.NexusCall.{on_text}
use Rattle.trees.specs.Withdrawing.{without_at, without_tree, Withdrawn, withdrawing}
use Rattle.trees.specs.Whole.{good_tree, good_branches, good_lengths, good_lane, good_opening}
use Rattle.theorems.specs.WholeHeld.{whole}
use Rattle.theorems.specs.ListLaws.{by-test, and_left, and_right, and-true}
use Rattle.theorems.specs.RisingLaws.{rising-true}
use Rattle.theorems.specs.RecordedLaws.{recorded_more, recorded-within}
use Rattle.theorems.specs.WithdrawLaws.{without_fewer, without-mem, every-without}
use Rattle.theorems.specs.LengthVerdictLaws.{with-good}
use Rattle.theorems.specs.OpeningLaws.{both, named}
use Rattle.theorems.specs.ConsensusLaws.{good-rising}
use Rattle.theorems.specs.FeedingLaws.{ends_at, last_part}

-- ---- the test and the facts

pub record Whole (h : Held) : Type 0 where
  pub opening-good : good_opening h.opening ≡ true
  pub trees-good : every (good_tree h.opening.numbers.taxa) h.trees ≡ true
  pub lengths-good : good_lengths h.opening.numbers.kept h.trees h.lengths ≡ true
  pub trees-fit : length h.trees ≤ h.opening.numbers.tree_room
  pub splits-fit : length (recorded h.trees) ≤ h.opening.numbers.split_room
  pub lanes_count : length h.texts ≡ h.opening.numbers.lanes
  pub lanes-good : every good_lane h.texts ≡ true

pub whole-facts : (h : Held) → whole h ≡ true → Whole h
unfolding whole
whole-facts h e =
    let a = both (good_opening h.opening) _ e in
    let b = both (every (good_tree h.opening.numbers.taxa) h.trees) _ a.1 in
    let g = both (good_lengths h.opening.numbers.kept h.trees h.lengths) _ b.1 in
    let c = both (leb (length h.trees) h.opening.numbers.tree_room) _ g.1 in
    let d = both (leb (length (recorded h.trees)) h.opening.numbers.split_room) _ c.1 in
    let f = both (eqb (length h.texts) h.opening.numbers.lanes) (every good_lane h.texts) d.1 in
    record {
      opening-good = a.0;
      trees-good = b.0;
      lengths-good = g.0;
      trees-fit = leb-true _ _ c.0;
      splits-fit = leb-true _ _ d.0;
      lanes_count = eqb-true _ _ f.0;
      lanes-good = f.1;
    }

pub facts-whole : (h : Held) → Whole h → whole h ≡ true
unfolding whole
facts-whole h w =
    and-true w.opening-good
    (and-true w.trees-good
    (and-true w.lengths-good (and-true (le-leb _ _ w.trees-fit) (and-true (le-leb _ _ w.splits-fit) (and-true (eq-eqb _ _ w.lanes_count) w.lanes-good)))))

-- ---- lanes

pub every_set : {A : Type 0} (p : A → Bool) (l : List A) (i : ℕ) (x : A) → p x ≡ true → every p l ≡ true → every p (set l i x) ≡ true
unfolding every
every_set p [] i x h e = refl
every_set p (y ∷ l) zero x h e = and-true h (and_right (p y) (every p l) e)
every_set p (y ∷ l) (suc i) x h e = and-true (and_left (p y) (every p l) e) (every_set p l i x h (and_right (p y) (every p l) e))

pub every-replicate : {A : Type 0} (p : A → Bool) (n : ℕ) (x : A) → p x ≡ true → every p (replicate n x) ≡ true
unfolding every
every-replicate p zero x h = refl
every-replicate p (suc n) x h = and-true h (every-replicate p n x h)

empty-good : good_lane (holding []) ≡ true
unfolding good_lane
empty-good = refl

-- past 4,608 held bytes, "blanks counted, the lane drops bytes"
longer-good : (x : Lane) (p : List ℕ) → good_lane (longer x p) ≡ true
unfolding longer good_lane
longer-good (overrun q) p = refl
longer-good (holding s) p =
    by-test (λ (y : Lane). good_lane y ≡ true) (ltb most_text (length (s ++ p))) (λ e. refl) (λ e. le-leb (length (s ++ p)) most_text (ltb-false most_text (length (s ++ p)) e))

lane_whole : (h : Held) (l : ℕ) (x : Lane) → good_lane x ≡ true → Whole h → Whole (with_lane h l x)
unfolding with_lane
lane_whole h l x g w =
    record {
      opening-good = w.opening-good;
      trees-good = w.trees-good;
      lengths-good = w.lengths-good;
      trees-fit = w.trees-fit;
      splits-fit = w.splits-fit;
      lanes_count = length-set h.texts l x ∙ w.lanes_count;
      lanes-good = every_set good_lane h.texts l x g w.lanes-good;
    }

-- ---- a tree that is accepted

-- of a verdict: a tree that it gives is in order, with its lengths, and there is room for it
pub record Fitting (h : Held) (b : Branches) : Type 0 where
  pub good : good_tree h.opening.numbers.taxa b.splits ≡ true
  pub good-lengths : good_branches h.opening.numbers.kept b.splits b.lengths ≡ true
  pub tree-room : length h.trees < h.opening.numbers.tree_room
  pub split-room : length (recorded h.trees) + length (new_splits h b.splits) ≤ h.opening.numbers.split_room

abbrev pub Fits : Held → Answer Branches → Type 0
Fits h (refused k) = Unit {0}
Fits h (gives b) = Fitting h b

room_fits : (h : Held) → Whole h → (b : Branches) → good_tree h.opening.numbers.taxa b.splits ≡ true → good_branches h.opening.numbers.kept b.splits b.lengths ≡ true
    → Fits h (room_for h b)
unfolding room_for
room_fits h w b g l =
    by-test (Fits h) (eqb (length h.trees) h.opening.numbers.tree_room) (λ e. tt)
    (λ e. by-test (Fits h) (ltb h.opening.numbers.split_room (length (recorded h.trees) + length (new_splits h b.splits))) (λ q. tt)
    (λ q. record {
      good = g;
      good-lengths = l;
      tree-room = omega (arith, w.trees-fit, eqb-false (length h.trees) h.opening.numbers.tree_room e);
      split-room = ltb-false _ _ q;
    }))

names-count : (o : Opening) → good_opening o ≡ true → length o.names ≡ o.numbers.taxa
unfolding good_opening
names-count o e = (named o.numbers.taxa o.names (and_right (good_constants o.numbers o.first o.second) _ (and_right (in_range o.numbers) _ e))).count

pub verdict-fits : (h : Held) → Whole h → (x : Lane) → Fits h (verdict h x)
unfolding verdict with_room
verdict-fits h w (overrun q) = tt
verdict-fits h w (holding s) = go (judged_with h.opening.numbers.kept h.opening.names s) refl
  where
    go : (a : Answer Branches) → judged_with h.opening.numbers.kept h.opening.names s ≡ a → Fits h (with_room h a)
    go (refused k) e = tt
    go (gives b) e =
        let g = with-good h.opening.numbers.kept h.opening.names s b e in
        room_fits h w b (subst (λ n. good_tree n b.splits ≡ true) (names-count h.opening w.opening-good) g.0) g.1

every_append : {A : Type 0} (p : A → Bool) (l : List A) (x : A) → every p l ≡ true → p x ≡ true → every p (l ++ x ∷ []) ≡ true
unfolding every
every_append p [] x e h = and-true h refl
every_append p (y ∷ l) x e h = and-true (and_left (p y) (every p l) e) (every_append p l x (and_right (p y) (every p l) e) h)

lengths-append : (kept : ℕ) (ts : List (List ℕ)) (xss : List (List Length)) (b : Branches) → good_lengths kept ts xss ≡ true → good_branches kept b.splits b.lengths ≡ true
    → good_lengths kept (ts ++ b.splits ∷ []) (xss ++ b.lengths ∷ []) ≡ true
unfolding good_lengths
lengths-append kept [] [] b e g = and-true g refl
lengths-append kept [] (xs ∷ xss) b e g = absurd (true≢false (sym e))
lengths-append kept (t ∷ ts) [] b e g = absurd (true≢false (sym e))
lengths-append kept (t ∷ ts) (xs ∷ xss) b e g =
    and-true (and_left (good_branches kept t xs) (good_lengths kept ts xss) e) (lengths-append kept ts xss b (and_right (good_branches kept t xs) (good_lengths kept ts xss) e) g)

splits-more : (h : Held) (b : Branches) → Fitting h b → length (recorded (h.trees ++ b.splits ∷ [])) ≡ length (recorded h.trees) + length (new_splits h b.splits)
unfolding new_splits
splits-more h b f = recorded_more h.trees b.splits (rising-true b.splits (good-rising h.opening.numbers.taxa b.splits f.good))

tree-whole : (h : Held) (b : Branches) → Whole h → Fitting h b → Whole (with_tree h b)
unfolding with_tree
tree-whole h b w f =
    record {
      opening-good = w.opening-good;
      trees-good = every_append (good_tree h.opening.numbers.taxa) h.trees b.splits w.trees-good f.good;
      lengths-good = lengths-append h.opening.numbers.kept h.trees h.lengths b w.lengths-good f.good-lengths;
      trees-fit = omega (arith, length-append h.trees (b.splits ∷ []), f.tree-room);
      splits-fit = omega (arith, splits-more h b f, f.split-room);
      lanes_count = w.lanes_count;
      lanes-good = w.lanes-good;
    }

recording-whole : (h : Held) (v : Answer Branches) → Whole h → Fits h v → Whole (recording h v)
unfolding recording
recording-whole h (refused k) w f = w
recording-whole h (gives b) w f = tree-whole h b w f

-- ---- the calls

-- what an opening that is accepted fixes
pub record Accepted (x : Numbers) (name_list : List ℕ) (o : Opening) : Type 0 where
  pub good : good_opening o ≡ true
  pub numbers-as-given : o.numbers ≡ x
  pub names-as-given : o.names ≡ names_in name_list

abbrev IfAccepted : Numbers → List ℕ → Answer Opening → Type 0
IfAccepted x name_list (refused k) = Unit {0}
IfAccepted x name_list (gives o) = Accepted x name_list o

pub opened-good : (o : Opening) → good_opening o ≡ true → whole (opened o) ≡ true
unfolding opened recorded every good_lengths
opened-good o g =
    facts-whole (opened o)
    record {
      opening-good = g;
      trees-good = refl;
      lengths-good = refl;
      trees-fit = omega arith;
      splits-fit = omega arith;
      lanes_count = length-replicate o.numbers.lanes (holding []);
      lanes-good = every-replicate good_lane o.numbers.lanes (holding []) empty-good;
    }

module _ (x : Numbers) (name_list first second : List ℕ) (lent : ℕ) (o : Opening) (e : opening x name_list first second lent ≡ gives o) where
  pub opening-accepted : Accepted x name_list o
  unfolding opening good_opening
  opening-accepted =
      subst (IfAccepted x name_list) e
      (by-test (IfAccepted x name_list) (in_range x && good_constants x first second)
      (λ a. by-test (IfAccepted x name_list) (good_names x.taxa (names_in name_list))
      (λ b. by-test (IfAccepted x name_list) (leb (store_size x) lent)
      (λ c. let r = both (in_range x) (good_constants x first second) a in record { good = and-true r.0 (and-true r.1 b); numbers-as-given = refl; names-as-given = refl })
      (λ c. tt))
      (λ b. tt))
      (λ a. tt))

  pub opened-whole : whole (opened o) ≡ true
  opened-whole = opened-good o opening-accepted.good

-- "After a semicolon the lane is empty either way"
finishing-whole : (h : Held) (l n : ℕ) (v : Answer Branches) → Whole h → Fits h v → Whole (finishing h l n v).after
unfolding finishing
finishing-whole h l n v w f = lane_whole (recording h v) l (holding []) empty-good (recording-whole h v w f)

feeding-facts : (h : Held) (l : ℕ) (p : List ℕ) → Whole h → Whole (feeding h l p).after
unfolding feeding
feeding-facts h l p w =
    by-test (λ (f : Fed). Whole f.after) (ltb l h.opening.numbers.lanes)
    (λ e. by-test (λ (f : Fed). Whole f.after) (ends_at h l p)
    (λ d. let x = longer (lane_of h l) (last_part h l p) in finishing-whole h l (suc (length (last_part h l p))) (verdict h x) w (verdict-fits h w x))
    (λ d. lane_whole h l _ (longer-good (lane_of h l) p) w))
    (λ e. w)

pub feeding-whole : (h : Held) (l : ℕ) (p : List ℕ) → whole h ≡ true → whole (feeding h l p).after ≡ true
feeding-whole h l p e = facts-whole (feeding h l p).after (feeding-facts h l p (whole-facts h e))

pub handed-whole : (h : Held) (t : List ℕ) → whole h ≡ true → whole (recording h (on_text h t)) ≡ true
unfolding on_text
handed-whole h t e =
    let w = whole-facts h e in
    facts-whole (recording h (on_text h t)) (recording-whole h (on_text h t) w (verdict-fits h w (longer (holding []) t)))

pub closing-whole : (h : Held) (l : ℕ) → whole h ≡ true → whole (closing h l).after ≡ true
unfolding closing
closing-whole h l e =
    by-test (λ (c : Closed). whole c.after ≡ true) (ltb l h.opening.numbers.lanes) (λ _. facts-whole _ (lane_whole h l (holding []) empty-good (whole-facts h e))) (λ _. e)

lengths-without : (kept k : ℕ) (ts : List (List ℕ)) (xss : List (List Length)) → good_lengths kept ts xss ≡ true → good_lengths kept (without_at k ts) (without_at k xss) ≡ true
unfolding good_lengths without_at
lengths-without kept k [] [] e = refl
lengths-without kept k [] (xs ∷ xss) e = absurd (true≢false (sym e))
lengths-without kept k (t ∷ ts) [] e = absurd (true≢false (sym e))
lengths-without kept zero (t ∷ ts) (xs ∷ xss) e = and_right (good_branches kept t xs) (good_lengths kept ts xss) e
lengths-without kept (suc k) (t ∷ ts) (xs ∷ xss) e =
    and-true (and_left (good_branches kept t xs) (good_lengths kept ts xss) e) (lengths-without kept k ts xss (and_right (good_branches kept t xs) (good_lengths kept ts xss) e))

without_tree-whole : (h : Held) (k : ℕ) → k < length h.trees → Whole h → Whole (without_tree h k)
unfolding without_tree
without_tree-whole h k l w =
    record {
      opening-good = w.opening-good;
      trees-good = every-without (good_tree h.opening.numbers.taxa) k h.trees w.trees-good;
      lengths-good = lengths-without h.opening.numbers.kept k h.trees h.lengths w.lengths-good;
      trees-fit = omega (arith, without_fewer k h.trees l, w.trees-fit);
      splits-fit = omega (arith, recorded-within (without_at k h.trees) h.trees (without-mem k h.trees), w.splits-fit);
      lanes_count = w.lanes_count;
      lanes-good = w.lanes-good;
    }

pub withdrawing-whole : (h : Held) (k : ℕ) → whole h ≡ true → whole (withdrawing h k).after ≡ true
unfolding withdrawing
withdrawing-whole h k e =
    by-test (λ (w : Withdrawn). whole w.after ≡ true) (ltb k (length h.trees))
    (λ l. facts-whole (without_tree h k) (without_tree-whole h k (ltb-true k (length h.trees) l) (whole-facts h e))) (λ _. e)
