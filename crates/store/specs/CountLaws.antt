-- The laws of the counts, as the code adds and compares them. Assumes nothing.
--
--   front-member, front-other membership in the first numbers of a list, one more at a time
--   counted_none              no tree
--   part_none, part-more, part-all     one turn of the loop over a tree's list
--   part-most                 a count never exceeds the trees' number
--   count-zero, count-wrong, count-right     a count's test, in the order of the code
use Rattle.std.specs.Prelude.{◌≡◌, ℕ, zero, suc, ◌+◌, ◌<◌, ◌≤◌, Bool, true, false, ◌||◌, ◌⊎◌, List, [], ◌∷◌, ◌++◌, length, take, replicate, ◌==◌, ◌≢◌, nat_le, slice_index, slice_index_or, slice_set, refl}
use Rattle.std.proofs.Math.Path.{sym}
use Rattle.std.proofs.Common.{ap, subst, ◌∙◌, inl, inr, add-zero, add-one, arith, length-set, take-suc, take_all, get_or-set_same, get_or-set_other}
use Rattle.std.proofs.Math.Bool.{and-false, or-false, or_assoc}
use Rattle.std.proofs.lemmas.List.{length-replicate}
use borrow.Author.Tests.{eq-eqb, ne_eqb, le-leb}
use Rattle.trees.specs.Opening.{most_room}
use Rattle.trees.specs.Plain.{member}
use Rattle.theorems.specs.ListLaws.{Mem, member-not, equal_or_not}
use Rattle.layout.specs.Store.{parts_at, trees_held_at, splits_held_at, count_at, list_at}
use Rattle.layout.specs.WholeStore.{listed, good_count, count_good}
use Rattle.layout.specs.UpToLaws.{one_if, one-most, listed_nil, listed-step, listed-most}
use Rattle.store.specs.ListTests.{CountedPart, Counted}

-- ---- the first numbers of a list

member-last : (k x : ℕ) (l : List ℕ) → member k (l ++ (x ∷ [])) ≡ (member k l || k == x)
unfolding member
member-last k x [] = or-false (k == x)
member-last k x (y ∷ l) = ap (λ (b : Bool). (k == y) || b) (member-last k x l) ∙ sym (or_assoc (k == y) (member k l) (k == x))

module _ (l : List ℕ) (j k : ℕ) (h : j < length l) where
  pub front-member : member k (take (j + 1) l) ≡ (member k (take j l) || k == slice_index l j)
  front-member = rw (add-one j, take-suc l j 0 h) (member-last k (slice_index l j) (take j l))

  pub front-other : (k ≢ slice_index l j) → one_if (member k (take (j + 1) l)) ≡ one_if (member k (take j l))
  front-other n = ap one_if (front-member ∙ rw (ne_eqb _ _ n) (or-false (member k (take j l))))

  front-here : (Mem k (take j l) → ⊥) → k ≡ slice_index l j → one_if (member k (take (j + 1) l)) ≡ one_if (member k (take j l)) + 1
  unfolding one_if
  front-here f e = rw (front-member, member-not k (take j l) f, eq-eqb k (slice_index l j) e)

-- ---- the counts of a part

module _ (s : List ℕ) (t : ℕ) (here : t < trees_held_at s) where
  pub part_none : (c : List ℕ) → Counted s t c → CountedPart s t 0 c
  unfolding one_if member
  part_none c p = record { size = p.size; entries = λ k h. p.entries k h ∙ sym (add-zero (listed s k t)) }

  pub part-all : (j : ℕ) (c : List ℕ) → length (list_at s t) ≤ j → CountedPart s t j c → Counted s (t + 1) c
  part-all j c h p =
      record {
        size = p.size;
        entries = λ k l. p.entries k l ∙ rw (take_all j (list_at s t) h, add-one t) (sym (listed-step (parts_at s) k t here));
      }

  pub part-most : (j : ℕ) (c : List ℕ) → CountedPart s t j c → (x : ℕ) → x < splits_held_at s → slice_index c x ≤ t + 1
  part-most j c p x h = omega (arith, p.entries x h, one-most (member x (take j (list_at s t))), listed-most (parts_at s) x t (omega arith))

  module _ (j : ℕ) (c : List ℕ) (p : CountedPart s t j c) (h : j < length (list_at s t)) where
    pub part-more : (x : ℕ) → slice_index (list_at s t) j ≡ x → x < most_room → (Mem x (take j (list_at s t)) → ⊥) → CountedPart s t (j + 1) (slice_set c x (slice_index c x + 1))
    part-more x e f n = record { size = length-set c x _ ∙ p.size; entries = λ k l. go k l (equal_or_not k x) }
      where
        go : (k : ℕ) → k < splits_held_at s → (k ≡ x) ⊎ (k ≢ x)
            → slice_index (slice_set c x (slice_index c x + 1)) k ≡ listed s k t + one_if (member k (take (j + 1) (list_at s t)))
        go k l (inl q) =
            let z = p.size in
            let m = front-here (list_at s t) j k h (λ o. n (subst (λ (i : ℕ). Mem i (take j (list_at s t))) q o)) (q ∙ sym e) in
            let w = p.entries k l in
            let u : slice_index_or c k 0 ≡ slice_index_or c x 0 = ap (λ (i : ℕ). slice_index c i) q in
            let v : slice_index_or c x 0 + 1 ≡ listed s k t + one_if (member k (take (j + 1) (list_at s t))) = omega arith in
            ap (λ (i : ℕ). slice_index (slice_set c x (slice_index c x + 1)) i) q ∙ get_or-set_same c x (slice_index c x + 1) 0 (omega arith) ∙ v
        go k l (inr q) =
            let m = front-other (list_at s t) j k h (λ d. q (d ∙ e)) in
            let w = p.entries k l in
            let v : slice_index_or c k 0 ≡ listed s k t + one_if (member k (take (j + 1) (list_at s t))) = omega arith in
            get_or-set_other c x k _ 0 q ∙ v

-- no tree is counted yet
pub counted_none : (s : List ℕ) → Counted s 0 (replicate most_room 0)
counted_none s = record { size = length-replicate {A = ℕ} most_room 0; entries = λ k h. zeros most_room k ∙ sym (listed_nil (parts_at s) k) }
  where
    zeros : (n k : ℕ) → ◌≡◌ {A = ℕ} (slice_index (replicate n 0) k) 0
    zeros zero k = refl
    zeros (suc n) zero = refl
    zeros (suc n) (suc k) = zeros n k

-- ---- a count's test, in the order of the code

module _ (s : List ℕ) (k x : ℕ) (q : x ≡ count_at s k) where
  pub count-zero : x ≡ 0 → good_count s k ≡ false
  unfolding count_good
  count-zero e = rw (← q, e)

  pub count-wrong : (x ≢ listed s k (trees_held_at s)) → good_count s k ≡ false
  unfolding count_good
  count-wrong n = rw (← q, ne_eqb _ _ n) (and-false (nat_le 1 x))

  pub count-right : (x ≢ 0) → x ≡ listed s k (trees_held_at s) → good_count s k ≡ true
  unfolding count_good
  count-right n e = rw (← q, le-leb 1 x (omega arith), eq-eqb _ _ e)
