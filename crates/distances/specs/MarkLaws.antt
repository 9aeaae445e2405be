-- Laws of marks. Assumes nothing.
--
--   marked-length, marked-at       the marks after a list's rows are marked
--   marked_more, marked-end        one turn of the loop that marks
--   none-length                    there is a mark for each of 4,096 rows
--   marks-made                     a list's marks, put where there are none
--   marks_of-length, marks_of-at     the marks of a list
--   marks-gone                     a list's marks, taken away
--   sum_more, sum-end              one turn of the loop that sums
--   sum-lacks                      the sum of the marks is how many rows the marked list lacks
use Rattle.std.specs.Prelude.{◌≡◌, ℕ, ◌+◌, ◌<◌, ◌≤◌, Bool, true, false, ◌||◌, List, [], ◌∷◌, length, drop, ◌==◌, slice_index, slice_set, refl, if◌then◌else◌}
use Rattle.std.proofs.Common.{add-one, arith, ap, sym, ◌∙◌, inl, inr, length-set, drop_of_length-le, drop-cons, get_or-set_same, get_or-set_other, ext_get_or, eqb-true}
use Rattle.std.proofs.lemmas.List.{length-replicate, get_or-replicate}
use Rattle.std.proofs.lemmas.Bool.{eqb-false}
use Rattle.trees.specs.Opening.{most_room}
use Rattle.trees.specs.Plain.{member}
use Rattle.trees.specs.Distance.{one_sided}
use Rattle.theorems.specs.ListLaws.{Mem}
use Rattle.theorems.specs.DistanceLaws.{one_sided-nil, one_sided-has, one_sided-lacks}
use Rattle.distances.specs.Marks.{marked, no_marks, marks_of, mark_sum}

-- ---- the marks after a list's rows are marked

pub marked-length : (v : ℕ) (l m : List ℕ) → length (marked v l m) ≡ length m
unfolding marked
marked-length v [] m = refl
marked-length v (k ∷ l) m = marked-length v l (slice_set m k v) ∙ length-set m k v

pub marked-at : (v : ℕ) (l m : List ℕ) (x : ℕ) → x < length m → slice_index (marked v l m) x ≡ (if member x l then v else slice_index m x)
unfolding marked member
marked-at v [] m x h = refl
marked-at v (k ∷ l) m x h = marked-at v l (slice_set m k v) x (rw length-set h) ∙ go (x == k) refl (member x l)
  where
    go : (b : Bool) → (x == k) ≡ b → (t : Bool) → (if t then v else slice_index (slice_set m k v) x) ≡ (if b || t then v else slice_index m x)
    go true e true = refl
    go true e false = let q = eqb-true x k e in rw (← q) (get_or-set_same m x v 0 h)
    go false e true = refl
    go false e false = get_or-set_other m k x v 0 (eqb-false x k e)

pub marked_more : (v : ℕ) (l m : List ℕ) (j k : ℕ) → j < length l → k ≡ slice_index l j → marked v (drop j l) m ≡ marked v (drop (j + 1) l) (slice_set m k v)
unfolding marked
marked_more v l m j k h q = rw (drop-cons l j 0 h, ← q, add-one j)

pub marked-end : (v : ℕ) (l m : List ℕ) (j : ℕ) → length l ≤ j → marked v (drop j l) m ≡ m
unfolding marked
marked-end v l m j h = rw (drop_of_length-le l h)

-- ---- the marks of a list

pub none-length : length no_marks ≡ most_room
unfolding no_marks
none-length = length-replicate {A = ℕ} most_room 1

none-at : (x : ℕ) → x < most_room → slice_index no_marks x ≡ 1
unfolding no_marks
none-at x h = get_or-replicate {A = ℕ} most_room x 1 0 h

pub marks-made : (l m : List ℕ) → m ≡ no_marks → marked 0 l m ≡ marks_of l
unfolding marks_of
marks-made l m e = ap (marked 0 l) e

pub marks_of-length : (l : List ℕ) → length (marks_of l) ≡ most_room
unfolding marks_of
marks_of-length l = marked-length 0 l no_marks ∙ none-length

pub marks_of-at : (l : List ℕ) (x : ℕ) → x < most_room → slice_index (marks_of l) x ≡ (if member x l then 0 else 1)
unfolding marks_of
marks_of-at l x h = marked-at 0 l no_marks x (omega (arith, none-length)) ∙ ap (λ (y : ℕ). if member x l then 0 else y) (none-at x h)

pub marks-gone : (l : List ℕ) → marked 1 l (marks_of l) ≡ no_marks
marks-gone l =
    let n = marked-length 1 l (marks_of l) ∙ marks_of-length l in
    ext_get_or 0 (marked 1 l (marks_of l)) no_marks (n ∙ sym none-length)
    (λ x h.
    let f : x < most_room = omega arith in
    marked-at 1 l (marks_of l) x (omega (arith, marks_of-length l)) ∙ rw (marks_of-at l x f) (same (member x l)) ∙ sym (none-at x f))
  where
    same : (b : Bool) → ◌≡◌ {A = ℕ} (if b then 1 else if b then 0 else 1) 1
    same true = refl
    same false = refl

-- ---- the sum of the marks

pub sum_more : (m l : List ℕ) (j k : ℕ) → j < length l → k ≡ slice_index l j → mark_sum m (drop j l) ≡ slice_index m k + mark_sum m (drop (j + 1) l)
unfolding mark_sum
sum_more m l j k h q = rw (drop-cons l j 0 h, ← q, add-one j)

pub sum-end : (m l : List ℕ) (j : ℕ) → length l ≤ j → mark_sum m (drop j l) ≡ 0
unfolding mark_sum
sum-end m l j h = rw (drop_of_length-le l h)

pub sum-lacks : (a b : List ℕ) → ((k : ℕ) → Mem k a → k < most_room) → mark_sum (marks_of b) a ≡ one_sided a b
unfolding mark_sum
sum-lacks [] b f = sym (one_sided-nil b)
sum-lacks (k ∷ a) b f = go (member k b) refl (sum-lacks a b (λ x h. f x (inr h)))
  where
    mark : (t : Bool) → member k b ≡ t → slice_index (marks_of b) k ≡ (if t then 0 else 1)
    mark t e = marks_of-at b k (f k (inl refl)) ∙ rw e

    go : (t : Bool) → member k b ≡ t → mark_sum (marks_of b) a ≡ one_sided a b
        → slice_index (marks_of b) k + mark_sum (marks_of b) a ≡ one_sided (k ∷ a) b
    go true e rest = omega (arith, mark true e, rest, one_sided-has k a b e)
    go false e rest = omega (arith, mark false e, rest, one_sided-lacks k a b e)
