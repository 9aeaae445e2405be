-- The laws of the keys and of the index. Assumes nothing.
--
--   key_below                          a key is below 128
--   same_not, other_key                other lists, and so those of other keys, are not the same bytes
--   next-none, next_here, next-later   `next_with`, a taxon at a time
--   next-cases                         what holds a taxon at a time holds of `next_with`
--   next-left                          the entries of a chain rise
--   index-none, index-more, index-all  the index as the loop makes it
use Rattle.std.specs.Prelude.{◌≡◌, ℕ, zero, suc, ◌+◌, ◌-◌, ◌<◌, ◌≤◌, Bool, true, false, ◌⊎◌, List, [], length, drop, replicate, ◌≢◌, slice_index, slice_index_or, slice_set, refl}
use Rattle.std.proofs.Math.Numerals.{add-one}
use Rattle.std.proofs.Common.{arith, ◌∙◌, inl, inr, drop_of_length-le, drop-cons, get_or-set_same, get_or-set_other, eq-eqb, ne_eqb}
use Rattle.std.proofs.Math.Path.{sym, ap}
use Rattle.std.proofs.lemmas.List.{get_or-replicate}
use Rattle.trees.specs.Plain.{same_bytes}
use Rattle.theorems.specs.ListLaws.{less-or-not, equal_or_not, if-true, if-false}
use Rattle.theorems.specs.NameLaws.{same_true}
use Rattle.head.specs.Index.{keys, key, next_from, next_with, Indexed, IndexedFrom, left}

-- ---- the key, and other bytes

pub key_below : (w : List ℕ) → key w < keys
unfolding key
key_below w = omega arith

pub same_not : (v w : List ℕ) → (v ≢ w) → same_bytes v w ≡ false
same_not v w n = go (same_bytes v w) refl
  where
    go : (t : Bool) → same_bytes v w ≡ t → t ≡ false
    go true e = absurd (n (same_true v w e))
    go false e = refl

pub other_key : (v w : List ℕ) → (key v ≢ key w) → same_bytes v w ≡ false
other_key v w n = same_not v w (λ e. n (ap key e))

-- ---- the next taxon of a key

module _ (ns : List (List ℕ)) (k i : ℕ) where
  pub next-none : length ns ≤ i → next_with ns k i ≡ 0
  unfolding next_with next_from
  next-none h = ap (next_from k i) (drop_of_length-le ns h)

  pub next_here : i < length ns → key (slice_index_or ns i []) ≡ k → next_with ns k i ≡ i + 1
  unfolding next_with next_from
  next_here h q =
      ap (next_from k i) (drop-cons ns i [] h)
      ∙ if-true (suc i) (next_from k (suc i) (drop (suc i) ns)) (eq-eqb _ _ q)
      ∙ sym (add-one i)

  pub next-later : i < length ns → (key (slice_index_or ns i []) ≢ k) → next_with ns k i ≡ next_with ns k (i + 1)
  unfolding next_with next_from
  next-later h q =
      ap (next_from k i) (drop-cons ns i [] h)
      ∙ if-false (suc i) (next_from k (suc i) (drop (suc i) ns)) (ne_eqb _ _ q)
      ∙ rw add-one

-- what holds past the last taxon, at a taxon of the key, and one taxon before where it holds, holds everywhere
module _ (ns : List (List ℕ)) (k : ℕ) (P : ℕ → ℕ → Type 0)
    (past : (i : ℕ) → length ns ≤ i → P i 0)
    (here : (i : ℕ) → i < length ns → key (slice_index_or ns i []) ≡ k → P i (i + 1))
    (later : (i n : ℕ) → i < length ns → (key (slice_index_or ns i []) ≢ k) → P (i + 1) n → P i n) where
  next-step : (i : ℕ) → (i < length ns → P (i + 1) (next_with ns k (i + 1))) → P i (next_with ns k i)
  next-step i f = go (less-or-not i (length ns)) (equal_or_not (key (slice_index_or ns i [])) k)
    where
      go : (i < length ns) ⊎ (length ns ≤ i) → (key (slice_index_or ns i []) ≡ k) ⊎ (key (slice_index_or ns i []) ≢ k) → P i (next_with ns k i)
      go (inr h) q = rw (next-none ns k i h) (past i h)
      go (inl h) (inl q) = rw (next_here ns k i h q) (here i h q)
      go (inl h) (inr q) = rw (next-later ns k i h q) (later i _ h q (f h))

  pub next-cases : (f i : ℕ) → length ns - i ≤ f → P i (next_with ns k i)
  next-cases zero i h = next-step i (λ l. absurd (omega arith))
  next-cases (suc f) i h = next-step i (λ l. next-cases f (i + 1) (omega arith))

-- the entries rise
pub next-left : (ns : List (List ℕ)) (k i : ℕ) → left (next_with ns k i) ≤ 64 - i
unfolding left
next-left ns k i =
    next-cases ns k (λ j n. left n ≤ 64 - j)
    (λ j h. omega arith) (λ j h q. rw (add-one j) (omega arith)) (λ j n h q l. omega arith)
    (length ns) i (omega arith)

-- ---- the index as the loop makes it

pub index-none : (ns : List (List ℕ)) (links : List ℕ) → IndexedFrom ns (length ns) (replicate keys 0) links
index-none ns links =
    record {
      firsts = λ k h. get_or-replicate keys k 0 0 h ∙ sym (next-none ns k (length ns) (omega arith));
      nexts = λ i f h. absurd (omega arith);
    }

module _ (ns : List (List ℕ)) (i k : ℕ) (starts links : List ℕ)
    (h : i < length ns) (q : key (slice_index_or ns i []) ≡ k) (a : length starts ≡ keys) (b : i < length links)
    (p : IndexedFrom ns (i + 1) starts links) where
  first_more : (j : ℕ) → j < keys → (j ≡ k) ⊎ (j ≢ k) → slice_index (slice_set starts k (i + 1)) j ≡ next_with ns j i
  first_more j l (inl e) = rw e (get_or-set_same starts k (i + 1) 0 (omega arith) ∙ sym (next_here ns k i h q))
  first_more j l (inr e) =
      get_or-set_other starts k j (i + 1) 0 e ∙ p.firsts j l ∙ sym (next-later ns j i h (λ d. e (sym d ∙ q)))

  next_more : (j : ℕ) → i ≤ j → j < length ns → (j ≡ i) ⊎ (j ≢ i)
      → slice_index (slice_set links i (slice_index starts k)) j ≡ next_with ns (key (slice_index_or ns j [])) (j + 1)
  next_more j f l (inl e) =
      let r = key_below (slice_index_or ns i []) in
      rw (e, q) (get_or-set_same links i (slice_index starts k) 0 b ∙ p.firsts k (omega arith))
  next_more j f l (inr e) = get_or-set_other links i j _ 0 e ∙ p.nexts j (omega (arith, e)) l

  pub index-more : IndexedFrom ns i (slice_set starts k (i + 1)) (slice_set links i (slice_index starts k))
  index-more =
      record {
        firsts = λ j l. first_more j l (equal_or_not j k);
        nexts = λ j f l. next_more j f l (equal_or_not j i);
      }

pub index-all : (ns : List (List ℕ)) (starts links : List ℕ) → IndexedFrom ns 0 starts links → Indexed ns starts links
index-all ns starts links p = record { firsts = p.firsts; nexts = λ i h. p.nexts i (omega arith) h }
