-- What a call on lent bytes comes to, as its contract allows it, and what a run of calls does. Assumes nothing.
--
--   asking-changes-nothing, refusal-changes-nothing     a question, and a refused opening, leave every byte
--   asked-follows              a question of whole bytes is answered by the definitions
--   step_follows               a call on whole bytes: they stay whole, hold and answer what the definitions do, and keep those past the size
--   steps-follow               so does a run of calls
--   all-opening                the opening stays
--   opening-follows            an opening that is accepted leaves a whole collection just opened
--   refused-alike, told-lent   openings that are refused have the same number, in however many bytes
use Prim.Native.Nat.{ℕ}
use Rattle.std.specs.Prelude.{◌≡◌, Bool, ◌&&◌, leb, ltb, length, get_or, if◌then◌else◌, Result, ℕ}
use Rattle.std.proofs.Math.Path.{refl, ap, ap₂, subst}
use Rattle.std.proofs.Common.{sym, ◌∙◌}
use Rattle.std.proofs.Math.Bool.{true, false}
use mathlib.Core.List.{List, [], ◌∷◌}
use Rattle.trees.specs.Plain.{Answer, refused, gives}
use Rattle.trees.specs.Names.{names_in, good_names}
use Rattle.trees.specs.Opening.{Numbers, Opening, in_range, good_constants, store_size, opening}
use Rattle.trees.specs.Held.{Held, opened, feeding, closing}
use Rattle.trees.specs.Held as held
use Rattle.trees.specs.Batch.{Batched, batch}
use Rattle.trees.specs.NexusCall.{nexus}
use Rattle.trees.specs.Questions.{trees_held, splits_held, split_list, split_number, tree_number, one_sided_of, doubled_of, matrix_of, collisions_of, strict_of, majority_of, both_of, written_of, weighted_of, sums_of}
use Rattle.trees.specs.SplitFileCall.{Splits, file_of, reading_of, merging_of, strict_file_of, majority_file_of}
use Rattle.trees.specs.PhylipCall.{phylip_of}
use Rattle.trees.specs.Claim.{claim_of}
use Rattle.release.specs.Release.{release_of}
use Rattle.trees.specs.Withdrawing.{Withdrawn, withdrawing}
use Rattle.trees.specs.Runs.{feed, hand, close, withdraw, fed, closed_lane, withdrew, answer, next}
use Rattle.theorems.specs.ListLaws.{by-test}
use Rattle.theorems.specs.FeedingLaws.{feeding-by}
use Rattle.theorems.specs.WithdrawLaws.{withdrawing-by}
use Rattle.theorems.specs.RunLaws.{ending-opening}
use Rattle.answers.specs.Answers.{finish_given, number_given}
use Rattle.answers.specs.Filled.{length_given, front}
use Rattle.answers.specs.AnswerLaws.{gives≢refused}
use Rattle.opening.specs.Given.{opening_of}
use Rattle.layout.specs.Store.{held_at}
use Rattle.layout.specs.WholeStore.{whole_at}
use Rattle.store.specs.HeldWholeLaws.{held-numbers}
use Rattle.store.specs.RecordedAtLaws.{trees-length}
use Rattle.store.specs.Lent.{Holds}
use Rattle.store.specs.LentLaws.{when_whole}
use Rattle.table.specs.Promises.{OpenedAs}
use Rattle.feeding.specs.Feeding.{reached, fed_of, closed_of, batch_of, FedAs, ClosedAs, BatchedAs}
use Rattle.nexus.specs.Fed.{nexus_of, NexusAs}
use Rattle.withdrawing.specs.Withdrawn.{there, withdrawn_of, WithdrawnAs}
use Rattle.summary.specs.PartLaws.{holds_then}
use Rattle.promises.specs.Calls.{Question, tree-count, split-count, one_split, split-list, tree-splits, one-sided, doubled, matrix, collisions, strict, majority, both, write-accepted, weighted, split-lengths, write-splits, read-splits, merge, strict_tree, majority-tree, write-matrix, claim, release, Reply, number, split, filled, both_filled, each_filled, weight, sums, claimed, fill, fill_both, fill_each, fill_read, reply, Made, one, many, file, ask, reopen, Told, heard, batched, replied, not_opened, numbers_in, after_batch, refusal_in, told, after, told_all, after_all, handed}
use Rattle.promises.specs.Steps.{Asked, Opened, Opens, Step, Steps}
use Rattle.promises.specs.BatchLaws.{after-handed}
use Rattle.answers.specs.declared.Refusal.{Refusal}

-- ---- openings

module _ (x : Numbers) (names first second : List ℕ) where
  abbrev begun : Opening
  begun = opening_of x names first second

  -- the numbers, with k for whether lengths are kept
  abbrev keeping : ℕ → Numbers
  keeping k = record { taxa = x.taxa; lanes = x.lanes; tree_room = x.tree_room; split_room = x.split_room; places = x.places; kept = k }

  -- what is accepted is what was given
  abbrev AsGiven : Answer Opening → Type 0
  AsGiven (refused k) = Unit {0}
  AsGiven (gives o) = o ≡ begun

  as-given : (n : ℕ) → AsGiven (opening x names first second n)
  unfolding opening
  as-given n =
      by-test AsGiven (in_range x && good_constants x first second)
      (λ _. by-test AsGiven (good_names x.taxa (names_in names)) (λ _. by-test AsGiven (leb (store_size x) n) (λ _. refl) (λ _. tt)) (λ _. tt)) (λ _. tt)

  -- the checks of 2 and 3 do not look at the lent bytes, and where they pass a refusal is 4
  abbrev passes2 : Bool
  passes2 = in_range x && good_constants x first second

  abbrev passes3 : Bool
  passes3 = good_names x.taxa (names_in names)

  abbrev opened_by : Bool → Bool → Bool → Answer Opening
  opened_by a b c = if a then if b then if c then gives begun else refused 4 else refused 3 else refused 2

  opened-by : (n : ℕ) → opening x names first second n ≡ opened_by passes2 passes3 (leb (store_size x) n)
  unfolding opening
  opened-by n = refl

  refused-by : (a b c d : Bool) (j k : ℕ) → opened_by a b c ≡ refused j → opened_by a b d ≡ refused k → refusal_in (opened_by a b c) ≡ refusal_in (opened_by a b d)
  unfolding refusal_in
  refused-by false b c d j k e f = refl
  refused-by true false c d j k e f = refl
  refused-by true true false false j k e f = refl
  refused-by true true true d j k e f = absurd (gives≢refused begun j e)
  refused-by true true false true j k e f = absurd (gives≢refused begun k f)

  pub refused-alike : (n m j k : ℕ) → opening x names first second n ≡ refused j → opening x names first second m ≡ refused k
      → refusal_in (opening x names first second n) ≡ refusal_in (opening x names first second m)
  refused-alike n m j k e f =
      ap (λ (y : Answer Opening). refusal_in y) (opened-by n)
      ∙ refused-by passes2 passes3 (leb (store_size x) n) (leb (store_size x) m) j k (sym (opened-by n) ∙ e) (sym (opened-by m) ∙ f)
      ∙ sym (ap (λ (y : Answer Opening). refusal_in y) (opened-by m))

  module _ (s t : List ℕ) where
    -- an opening that answers a refusal is refused with it, and every byte stays
    refused-opening : (r : Result (Unit {0}) Refusal) (k : ℕ) (y : Answer Opening) → OpenedAs y r s t → finish_given r ≡ refused k → (y ≡ refused k) × (t ≡ s)
    unfolding OpenedAs refusal_in
    refused-opening r k (refused j) q e = (ap (λ (n : ℕ). refused n) (ap (λ (a : Answer (Unit {0})). refusal_in a) (sym q.0 ∙ e)), q.1)
    refused-opening r k (gives o) q e = absurd (gives≢refused tt k (sym q.0 ∙ e))

    accepted-opening : (r : Result (Unit {0}) Refusal) (y : Answer Opening) → AsGiven y → OpenedAs y r s t → finish_given r ≡ gives tt → Holds (opened begun) s t
    unfolding OpenedAs
    accepted-opening r (refused j) g q e = absurd (gives≢refused tt j (sym e ∙ q.0))
    accepted-opening r (gives o) g q e = subst (λ (y : Opening). Holds (opened y) s t) g q.1

    -- the numbers of the call's own arguments are these
    opened-as : (r : Result (Unit {0}) Refusal) → Opened x names first second s r t → OpenedAs (opening x names first second (length s)) r s t
    opened-as r q = subst (λ (k : ℕ). OpenedAs (opening (keeping k) names first second (length s)) r s t) q.1 q.2

    pub opening-follows : Opens x names first second s t → Holds (opened begun) s t
    unfolding Opens
    opening-follows q = accepted-opening q.0 (opening x names first second (length s)) (as-given (length s)) (opened-as q.0 q.1) q.2

    reopened : (a : Told) → Step s (reopen x names first second) a t
        → (k : ℕ) × (opening x names first second (length s) ≡ refused k) × (t ≡ s) × (a ≡ not_opened k)
    unfolding Step
    reopened a q = let r = refused-opening q.0 q.1 (opening x names first second (length s)) (opened-as q.0 q.2) q.3 in (q.1, r.0, r.1, q.4)

    -- "All lent memory stays as found"
    pub refusal-changes-nothing : (a : Told) → Step s (reopen x names first second) a t → t ≡ s
    refusal-changes-nothing a q = (reopened a q).2

-- ---- questions

pub asking-changes-nothing : (s : List ℕ) (q : Question) (a : Told) (t : List ℕ) → Step s (ask q) a t → t ≡ s
unfolding Step
asking-changes-nothing s q a t x = x.3

-- a buffer that is filled with the answer x, which is y
module _ (x y : Answer (List ℕ)) (e : x ≡ y) (r : Result ℕ Refusal) (out left : List ℕ) (p : number_given r ≡ length_given x) (q : left ≡ front x out) where
  filled_is : filled (number_given r) left ≡ fill y out
  unfolding fill
  filled_is = ap₂ filled p q ∙ ap (λ (z : Answer (List ℕ)). filled (length_given z) (front z out)) e

module _ (s : List ℕ) (w : whole_at s ≡ true) where
  pub asked-follows : (q : Question) (a : Reply) → Asked s q a → a ≡ reply (held_at s) q
  unfolding Asked reply
  asked-follows tree-count a x = x.2 ∙ ap number (x.1 ∙ when_whole s trees_held w)
  asked-follows split-count a x = x.2 ∙ ap number (x.1 ∙ when_whole s splits_held w)
  asked-follows (one_split k) a x = x.2 ∙ ap split (x.1 ∙ when_whole s (λ h. split_number h k) w)
  asked-follows (split-list m c) a x =
      x.4 ∙ (λ i. both_filled (x.3.0 i) (x.3.1.0 i) (x.3.1.1 i))
      ∙ ap (λ (y : Answer (List ℕ × List ℕ)). fill_both y m c) (when_whole s (λ h. split_list h (length m) (length c)) w)
  asked-follows (tree-splits i m) a x =
      x.3 ∙ filled_is _ _ (when_whole s (λ h. tree_number h i (length m)) w) x.0 m x.1 x.2.0 x.2.1
  asked-follows (one-sided i j) a x = x.2 ∙ ap number (x.1 ∙ when_whole s (λ h. one_sided_of h i j) w)
  asked-follows (doubled i j) a x = x.2 ∙ ap number (x.1 ∙ when_whole s (λ h. doubled_of h i j) w)
  asked-follows (matrix o) a x = x.3 ∙ filled_is _ _ (when_whole s (λ h. matrix_of h (length o)) w) x.0 o x.1 x.2.0 x.2.1
  asked-follows collisions a x = x.2 ∙ ap number (x.1 ∙ when_whole s collisions_of w)
  asked-follows (strict o) a x = x.3 ∙ filled_is _ _ (when_whole s (λ h. strict_of h (length o)) w) x.0 o x.1 x.2.0 x.2.1
  asked-follows (majority o) a x = x.3 ∙ filled_is _ _ (when_whole s (λ h. majority_of h (length o)) w) x.0 o x.1 x.2.0 x.2.1
  asked-follows (both m c) a x =
      x.4 ∙ (λ i. each_filled (x.3.0 i) (x.3.1.0 i) (x.3.1.1 i))
      ∙ ap (λ (y : Answer (List ℕ × List ℕ)). fill_each y m c) (when_whole s (λ h. both_of h (length m) (length c)) w)
  asked-follows (write-accepted i o) a x =
      x.3 ∙ filled_is _ _ (when_whole s (λ h. written_of h i (length o)) w) x.0 o x.1 x.2.0 x.2.1
  asked-follows (weighted i j) a x = x.2 ∙ ap weight (x.1 ∙ when_whole s (λ h. weighted_of h i j) w)
  asked-follows (split-lengths k) a x = x.2 ∙ ap sums (x.1 ∙ when_whole s (λ h. sums_of h k) w)
  asked-follows (write-splits o) a x = x.3 ∙ filled_is _ _ (when_whole s (λ h. file_of h (length o)) w) x.0 o x.1 x.2.0 x.2.1
  asked-follows (read-splits f m c) a x =
      x.4 ∙ (λ i. each_filled (x.3.0 i) (x.3.1.0 i) (x.3.1.1 i))
      ∙ ap (λ (y : Answer Splits). fill_read y m c) (when_whole s (λ h. reading_of h f (length m) (length c)) w)
  asked-follows (merge f g o) a x = x.3 ∙ filled_is _ _ (when_whole s (λ h. merging_of h f g (length o)) w) x.0 o x.1 x.2.0 x.2.1
  asked-follows (strict_tree f o) a x = x.3 ∙ filled_is _ _ (when_whole s (λ h. strict_file_of h f (length o)) w) x.0 o x.1 x.2.0 x.2.1
  asked-follows (majority-tree f o) a x = x.3 ∙ filled_is _ _ (when_whole s (λ h. majority_file_of h f (length o)) w) x.0 o x.1 x.2.0 x.2.1
  asked-follows (write-matrix o) a x = x.3 ∙ filled_is _ _ (when_whole s (λ h. phylip_of h (length o)) w) x.0 o x.1 x.2.0 x.2.1
  asked-follows (claim t) a x = x.2 ∙ ap claimed (x.1 ∙ when_whole s (λ h. claim_of h t) w)
  asked-follows (release n y o) a x = x.3 ∙ filled_is _ _ (when_whole s (λ h. release_of h n y (length o)) w) x.0 o x.1 x.2.0 x.2.1

-- ---- feeding and closing

module _ (s : List ℕ) (w : whole_at s ≡ true) (l : ℕ) where
  fed-whole : (p : List ℕ) → fed_of s l p ≡ feeding (held_at s) l p
  unfolding fed_of
  fed-whole p = rw w

  closed-whole : closed_of s l ≡ closing (held_at s) l
  unfolding closed_of
  closed-whole = rw w

  lane_test : reached s l ≡ ltb l (held_at s).opening.numbers.lanes
  unfolding reached
  lane_test = rw (w, held-numbers s)

  -- a lane that is not there changes nothing
  fed-nowhere : (p : List ℕ) → reached s l ≡ false → (feeding (held_at s) l p).after ≡ held_at s
  fed-nowhere p e = ap (λ (f : held.Fed). f.after) (feeding-by (held_at s) l p) ∙ rw (sym lane_test ∙ e) refl

  closed-nowhere : reached s l ≡ false → (closing (held_at s) l).after ≡ held_at s
  unfolding closing
  closed-nowhere e = rw (sym lane_test ∙ e) refl

-- ---- withdrawing

module _ (s : List ℕ) (w : whole_at s ≡ true) (k : ℕ) where
  pub withdrawn-whole : withdrawn_of s k ≡ withdrawing (held_at s) k
  unfolding withdrawn_of
  withdrawn-whole = rw w

  pub tree-test : there s k ≡ ltb k (length (held_at s).trees)
  unfolding there
  tree-test = rw (w, trees-length s)

  -- a tree that is not there changes nothing
  withdrawn-nowhere : there s k ≡ false → (withdrawing (held_at s) k).after ≡ held_at s
  withdrawn-nowhere e = ap (λ (x : Withdrawn). x.after) (withdrawing-by (held_at s) k) ∙ rw (sym tree-test ∙ e) refl

-- ---- every call

module _ (s : List ℕ) (w : whole_at s ≡ true) (t : List ℕ) where
  stays : t ≡ s → Holds (held_at s) s t
  stays e = record { whole = rw e w; held = ap held_at e; size = ap length e; behind = λ i _. ap (λ (b : List ℕ). get_or b i 0) e }

  batch-whole : (l : ℕ) (p v : List ℕ) → batch_of s l p (length v) ≡ batch (held_at s) l p (length v)
  batch-whole l p v = when_whole s (λ h. batch h l p (length v)) w

  -- a batch that is x
  batch-follows : (x : Answer Batched) (l : ℕ) (r : Result ℕ Refusal) (v u : List ℕ) → BatchedAs x l r s v t u
      → Holds (after_batch (held_at s) x) s t × (batched (number_given r) u ≡ batched (length_given (numbers_in x)) (front (numbers_in x) v))
  unfolding BatchedAs after_batch numbers_in length_given front
  batch-follows (refused k) l r v u q = (stays q.1, ap₂ batched q.0 q.2)
  batch-follows (gives b) l r v u q = (q.1, ap₂ batched q.0 q.2)

  -- a file that gives x
  file-follows : (x : Answer Batched) (r : Result ℕ Refusal) (v u : List ℕ) → NexusAs x r s v t u
      → Holds (after_batch (held_at s) x) s t × (batched (number_given r) u ≡ batched (length_given (numbers_in x)) (front (numbers_in x) v))
  unfolding NexusAs after_batch numbers_in length_given front
  file-follows (refused k) r v u q = (stays q.1, ap₂ batched q.0 q.2)
  file-follows (gives b) r v u q = (q.1, ap₂ batched q.0 q.2)

  pub step_follows : (c : Made) (a : Told) → Step s c a t → Holds (after (held_at s) c) s t × (a ≡ told (length s) (held_at s) c)
  unfolding Step after told next answer
  step_follows (one (feed l p)) a q =
      (go (reached s l) refl, q.2 ∙ ap heard (ap₂ fed (f.taken ∙ rw (fed-whole s w l p) refl) (f.answer ∙ rw (fed-whole s w l p) refl)))
    where
      f : FedAs s l p q.0 t
      f = q.1

      go : (b : Bool) → reached s l ≡ b → Holds (feeding (held_at s) l p).after s t
      go true e = rw (fed-whole s w l p) at (f.holds e)
      go false e = rw (fed-nowhere s w l p e) (stays (f.found e))
  step_follows (one (hand x)) a q = absurd q
  step_follows (one (close l)) a q = (go (reached s l) refl, q.2 ∙ ap (λ (x : Answer (Unit {0})). heard (closed_lane x)) (f.answer ∙ rw (closed-whole s w l) refl))
    where
      f : ClosedAs s l q.0 t
      f = q.1

      go : (b : Bool) → reached s l ≡ b → Holds (closing (held_at s) l).after s t
      go true e = rw (closed-whole s w l) at (f.holds e)
      go false e = rw (closed-nowhere s w l e) (stays (f.found e))
  step_follows (one (withdraw k)) a q =
      (go (there s k) refl, q.2 ∙ ap (λ (x : Answer (Unit {0})). heard (withdrew x)) (f.answer ∙ rw (withdrawn-whole s w k) refl))
    where
      f : WithdrawnAs s k q.0 t
      f = q.1

      go : (b : Bool) → there s k ≡ b → Holds (withdrawing (held_at s) k).after s t
      go true e = rw (withdrawn-whole s w k) at (f.holds e)
      go false e = rw (withdrawn-nowhere s w k e) (stays (f.found e))
  step_follows (many l p v) a q =
      let f : BatchedAs (batch_of s l p (length v)) l q.0 s v t q.1 = q.2 in
      let r = batch-follows (batch (held_at s) l p (length v)) l q.0 v q.1 (subst (λ (x : Answer Batched). BatchedAs x l q.0 s v t q.1) (batch-whole l p v) f) in
      (r.0, q.3 ∙ r.1)
  step_follows (file f v) a q =
      let g : NexusAs (nexus_of s f (length v)) q.0 s v t q.1 = q.2 in
      let r = file-follows (nexus (held_at s) f (length v)) q.0 v q.1
      (subst (λ (x : Answer Batched). NexusAs x q.0 s v t q.1) (when_whole s (λ h. nexus h f (length v)) w) g) in
      (r.0, q.3 ∙ r.1)
  step_follows (ask x) a q = (stays q.3, q.2 ∙ ap replied (asked-follows s w x q.0 q.1))
  step_follows (reopen x names first second) a q =
      let r = reopened x names first second s t a q in
      (stays r.2, r.3 ∙ ap not_opened (sym (ap (λ (y : Answer Opening). refusal_in y) r.1)))

-- ---- a run

after-opening : (h : Held) (c : Made) → (after h c).opening ≡ h.opening
after-opening h c = ap (λ (k : Held). k.opening) (after-handed h c) ∙ ending-opening h (handed h c)

pub all-opening : (cs : List Made) (h : Held) → (after_all h cs).opening ≡ h.opening
unfolding after_all
all-opening [] h = refl
all-opening (c ∷ cs) h = all-opening cs (after h c) ∙ after-opening h c

pub steps-follow : (cs : List Made) (s : List ℕ) (as' : List Told) (t : List ℕ) → whole_at s ≡ true → Steps s cs as' t
    → Holds (after_all (held_at s) cs) s t × (as' ≡ told_all (length s) (held_at s) cs)
unfolding Steps after_all told_all
steps-follow [] s as' t w q = (stays s w t q.1, q.0)
steps-follow (c ∷ cs) s as' t w q =
    let x = step_follows s w q.2 c q.0 q.4 in
    let y = steps-follow cs q.2 q.1 t x.0.whole q.5 in
    let h = after (held_at s) c in (
      holds_then h (after_all h cs) s q.2 t (all-opening cs h) x.0 (subst (λ (k : Held). Holds (after_all k cs) q.2 t) x.0.held y.0),
      q.3 ∙ ap₂ (λ (a : Told) (l : List Told). a ∷ l) x.1 (y.1 ∙ ap₂ (λ (n : ℕ) (k : Held). told_all n k cs) x.0.size x.0.held),
    )

-- ---- two runs of the same calls

-- what a call answers does not depend on how many bytes are lent, where it may be made in both
pub told-lent : (s s' : List ℕ) (c : Made) (a a' : Told) (t t' : List ℕ) → Step s c a t → Step s' c a' t' → (h : Held)
    → told (length s) h c ≡ told (length s') h c
unfolding told
told-lent s s' (one c) a a' t t' p q h = refl
told-lent s s' (many l x v) a a' t t' p q h = refl
told-lent s s' (file f v) a a' t t' p q h = refl
told-lent s s' (ask x) a a' t t' p q h = refl
told-lent s s' (reopen x names first second) a a' t t' p q h =
    let y = reopened x names first second s t a p in
    let z = reopened x names first second s' t' a' q in
    ap not_opened (refused-alike x names first second (length s) (length s') y.0 z.0 y.1 z.1)
