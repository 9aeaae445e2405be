-- The promises of the entry points leave one outcome each; a batch's stands in BatchOutcomes, a NEXUS file's in FileOutcomes, those of the summary in SheetOutcomes and
-- TextsOutcomes. Each theorem is over the function's own `Post`, and none asks anything of the arguments. Assumes nothing.
--
--   agree-once, is-whole-once                                     the tests
--   refusal-number-once, verdict-number-once, size-once, tree-count-once, split-count-once, one-split-once, one-sided-once, doubled-once, weighted-once, split-lengths-once,
--   collisions-once
--                                                                 the questions without a buffer
--   split-list-once, tree-splits-once, matrix-once, strict-once, majority-once, both-once, write-accepted-once
--                                                                 the questions with one: the answer, and every element of the buffer
--   opened_free, open-once                                         opening
--   fed_free, feed-once                                            feeding
--   closed_free, close-once                                        closing
--   withdrawn_free, withdraw-once                                  withdrawing
--   asked-same, fed-same, closed_same, withdrawn-same             no call tells two lent bytes apart that are the same as stores
use Rattle.std.specs.Prelude.{ℕ, ◌<◌, ◌≡◌, refl, Bool, true, false, List, length, if◌then◌else◌, Result}
use Rattle.std.proofs.Common.{sym, ap, subst, ◌∙◌}
use Rattle.std.proofs.Math.Path.{ap₂}
use Rattle.trees.specs.Plain.{Answer, refused, gives}
use Rattle.trees.specs.Opening.{Numbers, Opening, opening}
use Rattle.trees.specs.Held.{Held, Closed, opened, feeding, closing}
use Rattle.trees.specs.Held as held
use Rattle.trees.specs.Withdrawing.{Withdrawn, withdrawing}
use Rattle.theorems.specs.WithdrawLaws.{withdrawing-opening}
use Rattle.answers.specs.declared.Fed.{Fed}
use Rattle.head.specs.Head.{numbers_at}
use Rattle.opening.specs.Given.{numbers_of}
use Rattle.layout.specs.Store.{tree_from, held_at}
use Rattle.layout.specs.WholeStore.{whole_at}
use Rattle.store.specs.HeldWholeLaws.{held-numbers}
use Rattle.table.specs.Promises.{OpenedAs}
use Rattle.feeding.specs.Feeding.{reached, fed_of, closed_of, is_accepted, FedAs, ClosedAs}
use Rattle.withdrawing.specs.Withdrawn.{there, withdrawn_of, WithdrawnAs}
use Rattle.answers.proofs.refusal_number.Reads as refusal-number
use Rattle.answers.proofs.verdict_number.Reads as verdict-number
use Rattle.masks.proofs.agree.Reads as agree
use Rattle.store.proofs.is_whole.Reads as is_whole
use Rattle.store.specs.Lent.{if_whole, Holds}
use Rattle.table.proofs.size.Reads as size
use Rattle.table.proofs.open.Reads as open-call
use Rattle.table.proofs.tree_count.Reads as tree-count
use Rattle.table.proofs.split_count.Reads as split-count
use Rattle.table.proofs.one_split.Reads as one_split
use Rattle.table.proofs.split_list.Reads as split-list
use Rattle.table.proofs.tree_splits.Reads as tree-splits
use Rattle.table.proofs.split_lengths.Reads as split-lengths
use Rattle.comparing.proofs.one_sided.Reads as one-sided
use Rattle.comparing.proofs.doubled.Reads as doubled
use Rattle.comparing.proofs.matrix.Reads as matrix
use Rattle.comparing.proofs.weighted.Reads as weighted
use Rattle.comparing.proofs.collisions.Reads as collisions
use Rattle.consensus.proofs.strict.Reads as strict
use Rattle.consensus.proofs.majority.Reads as majority
use Rattle.consensus.proofs.both.Reads as both-trees
use Rattle.consensus.proofs.write_accepted.Reads as write-accepted
use Rattle.feeding.proofs.feed.Reads as feed
use Rattle.feeding.proofs.close.Reads as close
use Rattle.withdrawing.proofs.withdraw.Reads as withdraw
use Rattle.promises.specs.Once.{Once, AnswerOnce, arg1, arg2, arg3, arg4, arg5, arg6, arg7, arg8, arg9, arg10, SameStore, Free, nothing, lane, table, store, SameBut}
use Rattle.promises.specs.Outcomes.{both, split_one, weight-one, split-lengths-one, progress-one, finish-both, number-both, lengths-both, filled-both, holds-both, outside-both}
use Rattle.answers.specs.declared.Refusal.{Refusal}

-- ---- tests

pub agree-once : AnswerOnce agree.Post
agree-once k x q r y z a b = both a b

pub is-whole-once : AnswerOnce is_whole.Post
is-whole-once k x q r y z a b = both a b

-- ---- questions that answer

pub refusal-number-once : AnswerOnce refusal-number.Post
refusal-number-once k x q r y z a b = both a b

pub verdict-number-once : AnswerOnce verdict-number.Post
verdict-number-once k x q r y z a b = both a b

pub size-once : AnswerOnce size.Post
size-once k x q r y z a b = number-both q r a b

pub tree-count-once : AnswerOnce tree-count.Post
tree-count-once k x q r y z a b = number-both q r a b

pub split-count-once : AnswerOnce split-count.Post
split-count-once k x q r y z a b = number-both q r a b

pub one-split-once : AnswerOnce one_split.Post
one-split-once k x q r y z a b = split_one q r (both a b)

pub one-sided-once : AnswerOnce one-sided.Post
one-sided-once k x q r y z a b = number-both q r a b

pub doubled-once : AnswerOnce doubled.Post
doubled-once k x q r y z a b = number-both q r a b

pub weighted-once : AnswerOnce weighted.Post
weighted-once k x q r y z a b = weight-one q r (both a b)

pub split-lengths-once : AnswerOnce split-lengths.Post
split-lengths-once k x q r y z a b = split-lengths-one q r (both a b)

pub collisions-once : AnswerOnce collisions.Post
collisions-once k x q r y z a b = number-both q r a b

-- ---- questions that fill buffers

pub split-list-once : Once split-list.Post (λ x q r y z. (q ≡ r) × ((arg2 y).now ≡ (arg2 z).now) × ((arg3 y).now ≡ (arg3 z).now))
split-list-once k x q r y z a b = (number-both q r a.0 b.0, both a.1.0 b.1.0, both a.1.1 b.1.1)

pub tree-splits-once : Once tree-splits.Post (λ x q r y z. (q ≡ r) × ((arg3 y).now ≡ (arg3 z).now))
tree-splits-once k x q r y z a b = filled-both q r a b

pub matrix-once : Once matrix.Post (λ x q r y z. (q ≡ r) × ((arg2 y).now ≡ (arg2 z).now))
matrix-once k x q r y z a b = filled-both q r a b

pub strict-once : Once strict.Post (λ x q r y z. (q ≡ r) × ((arg2 y).now ≡ (arg2 z).now))
strict-once k x q r y z a b = filled-both q r a b

pub majority-once : Once majority.Post (λ x q r y z. (q ≡ r) × ((arg2 y).now ≡ (arg2 z).now))
majority-once k x q r y z a b = filled-both q r a b

pub both-once : Once both-trees.Post (λ x q r y z. (q ≡ r) × ((arg2 y).now ≡ (arg2 z).now) × ((arg3 y).now ≡ (arg3 z).now))
both-once k x q r y z a b = (lengths-both q r a.0 b.0, both a.1.0 b.1.0, both a.1.1 b.1.1)

pub write-accepted-once : Once write-accepted.Post (λ x q r y z. (q ≡ r) × ((arg3 y).now ≡ (arg3 z).now))
write-accepted-once k x q r y z a b = filled-both q r a b

-- ---- opening

-- a refused opening leaves every byte as found
unfoldable pub opened_free : Answer Opening → Free
opened_free (refused n) = nothing
opened_free (gives o) = store

pub opened_both : (o : Answer Opening) (q r : Result (Unit {0}) Refusal) (s t u : List ℕ) → OpenedAs o q s t → OpenedAs o r s u → (q ≡ r) × SameBut (opened_free o) t u
unfolding OpenedAs opened_free SameBut
opened_both (refused n) q r s t u a b = (finish-both q r a.0 b.0, both a.1 b.1)
opened_both (gives o) q r s t u a b = (finish-both q r a.0 b.0, holds-both (opened o) s t u a.1 b.1)

pub open-once : Once open-call.Post
    (λ x q r y z. (q ≡ r) × SameBut (opened_free (opening (numbers_of (arg2 x) (arg3 x) (arg4 x) (arg5 x) (arg6 x) (arg7 x))
    (arg8 x).now (arg9 x).now (arg10 x).now (length (arg1 x).now))) (arg1 y).now (arg1 z).now)
open-once k x q r y z a b = opened_both _ q r _ _ _ a b

-- ---- feeding and closing

-- "Refusals 1 and 5 take 0 bytes", and leave every byte as found; a text that is not accepted, every byte outside the lane
unfoldable pub fed_free : List ℕ → ℕ → List ℕ → Free
fed_free s l p = if reached s l then if is_accepted (fed_of s l p).answer then store else lane l else nothing

fed-both : (s : List ℕ) (l : ℕ) (p : List ℕ) (q r : Fed) (t u : List ℕ) → FedAs s l p q t → FedAs s l p r u → (q ≡ r) × SameBut (fed_free s l p) t u
unfolding fed_free SameBut
fed-both s l p q r t u a b = (
  λ i. record { taken = both a.taken b.taken i; progress = progress-one q.progress r.progress (both a.answer b.answer) i },
  go (reached s l) (is_accepted (fed_of s l p).answer) refl refl,
)
  where
    go : (m c : Bool) → reached s l ≡ m → is_accepted (fed_of s l p).answer ≡ c → SameBut (if m then if c then store else lane l else nothing) t u
    go false c e d = both (a.found e) (b.found e)
    go true true e d = holds-both (fed_of s l p).after s t u (a.holds e) (b.holds e)
    go true false e d = (holds-both (fed_of s l p).after s t u (a.holds e) (b.holds e), outside-both s l t u (a.outside d) (b.outside d))

pub feed-once : Once feed.Post (λ x q r y z. (q ≡ r) × SameBut (fed_free (arg1 x).now (arg2 x).0 (arg3 x).now) (arg1 y).now (arg1 z).now)
feed-once k x q r y z a b = fed-both _ _ _ q r _ _ a b

unfoldable pub closed_free : List ℕ → ℕ → Free
closed_free s l = if reached s l then lane l else nothing

closed-both : (s : List ℕ) (l : ℕ) (q r : Result (Unit {0}) Refusal) (t u : List ℕ) → ClosedAs s l q t → ClosedAs s l r u → (q ≡ r) × SameBut (closed_free s l) t u
unfolding closed_free SameBut
closed-both s l q r t u a b = (finish-both q r a.answer b.answer, go (reached s l) refl)
  where
    go : (m : Bool) → reached s l ≡ m → SameBut (if m then lane l else nothing) t u
    go false e = both (a.found e) (b.found e)
    go true e = (holds-both (closed_of s l).after s t u (a.holds e) (b.holds e), outside-both s l t u a.outside b.outside)

pub close-once : Once close.Post (λ x q r y z. (q ≡ r) × SameBut (closed_free (arg1 x).now (arg2 x).0) (arg1 y).now (arg1 z).now)
close-once k x q r y z a b = closed-both _ _ q r _ _ a b

-- ---- withdrawing

-- the opening and the lanes stay as found, and without such a tree every byte
unfoldable pub withdrawn_free : List ℕ → ℕ → Free
withdrawn_free s k = if there s k then table else nothing

-- what is held keeps its opening, so the lanes end where they did
withdrawn-numbers : (s : List ℕ) (k : ℕ) (t : List ℕ) → Holds (withdrawn_of s k).after s t → numbers_at t ≡ numbers_at s
unfolding withdrawn_of
withdrawn-numbers s k t h = sym (held-numbers t) ∙ ap (λ (x : Held). x.opening.numbers) h.held ∙ go (whole_at s) ∙ held-numbers s
  where
    go : (b : Bool) → (if b then withdrawing (held_at s) k else record { answer = refused 1; after = held_at s }).after.opening.numbers ≡ (held_at s).opening.numbers
    go true = ap (λ (o : Opening). o.numbers) (withdrawing-opening (held_at s) k)
    go false = refl

withdrawn-both : (s : List ℕ) (k : ℕ) (q r : Result (Unit {0}) Refusal) (t u : List ℕ) → WithdrawnAs s k q t → WithdrawnAs s k r u → (q ≡ r) × SameBut (withdrawn_free s k) t u
unfolding withdrawn_free SameBut
withdrawn-both s k q r t u a b = (finish-both q r a.answer b.answer, go (there s k) refl)
  where
    go : (m : Bool) → there s k ≡ m → SameBut (if m then table else nothing) t u
    go false e = both (a.found e) (b.found e)
    go true e = (
      holds-both (withdrawn_of s k).after s t u (a.holds e) (b.holds e),
      λ i l o. let m = subst (λ (n : Numbers). i < tree_from n 0) (withdrawn-numbers s k t (a.holds e)) l in both (b.front i m o) (a.front i m o),
    )

pub withdraw-once : Once withdraw.Post (λ x q r y z. (q ≡ r) × SameBut (withdrawn_free (arg1 x).now (arg2 x).0) (arg1 y).now (arg1 z).now)
withdraw-once k x q r y z a b = withdrawn-both _ _ q r _ _ a b

-- ---- two lent bytes that are the same as stores

module _ (t u : List ℕ) (e : SameStore t u) where
  -- every question asks of what is held, and a batch and a NEXUS file do
  pub asked-same : {A : Type 0} (f : Held → Answer A) → if_whole t f ≡ if_whole u f
  unfolding if_whole
  asked-same {A} f = ap₂ {C = Answer A} (λ (b : Bool) (h : Held). if b then f h else refused 1) e.whole e.holding

  pub fed-same : (l : ℕ) (p : List ℕ) → fed_of t l p ≡ fed_of u l p
  unfolding fed_of
  fed-same l p =
      ap₂ {C = held.Fed} (λ (b : Bool) (h : Held). if b then feeding h l p else record { taken = 0; answer = refused 1; after = h }) e.whole e.holding

  pub closed_same : (l : ℕ) → closed_of t l ≡ closed_of u l
  unfolding closed_of
  closed_same l = ap₂ {C = Closed} (λ (b : Bool) (h : Held). if b then closing h l else record { answer = refused 1; after = h }) e.whole e.holding

  pub withdrawn-same : (k : ℕ) → withdrawn_of t k ≡ withdrawn_of u k
  unfolding withdrawn_of
  withdrawn-same k = ap₂ {C = Withdrawn} (λ (b : Bool) (h : Held). if b then withdrawing h k else record { answer = refused 1; after = h }) e.whole e.holding
