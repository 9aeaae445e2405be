-- The laws of the splits that are chosen from a file, as a walk over its records chooses them, and of their tree. Assumes nothing.
--
-- of agreement:
--   pairs-more, pairs-not           one mask more that agrees with all before it, or not
-- of the walk:
--   choose-start, choose-end        before the first record, and behind the last
--   choose-leaves, choose-takes     record i is in too few trees; it is in enough and agrees with those before
--   choose-full, choose-not         it is in enough, but there is no place left, or it disagrees with one before
-- of well-formed records:
--   least-chosen                    those that a rule chooses are those that so many trees have
--   chosen-good                     where they agree, they are those of a tree
use Rattle.std.specs.Prelude.{◌≡◌, ℕ, ◌+◌, ◌*◌, ◌/◌, ◌<◌, ◌≤◌, Bool, true, false, ◌⊎◌, List, [], ◌∷◌, ◌++◌, length, take, drop, ◌≢◌, nat_eq, nat_le, nat_lt, slice_set, Ok, Err}
use Rattle.std.proofs.Common.{add-one, arith, ◌∙◌, inl, inr, true≢false, append-nil, drop_of_length-le, take-suc-set}
use Rattle.std.proofs.Math.Path.{refl, sym, ap}
use Rattle.std.proofs.Math.ListN.{length-append}
use Rattle.std.proofs.Math.Seq.{length-take-le, append_snoc, drop-cons}
use borrow.Author.Tests.{leb-true, le-leb, lt-leb, ltb-true, lt-ltb, eqb-true, eq-eqb}
use Rattle.trees.specs.Plain.{every, keep}
use Rattle.trees.specs.Mask.{agree, proper}
use Rattle.trees.specs.Whole.{agree_in_pairs, good_tree}
use Rattle.trees.specs.SplitFile.{Record, records_in, trees_of, masks_of, proper_record, well_formed, strict_in, majority_in}
use Rattle.theorems.specs.ListLaws.{same_bool, by-test, and_left, and_right, and-true, Mem, mem-left, mem-right, mem-cases, every-at, every-intro, keep-mem}
use Rattle.theorems.specs.RisingLaws.{Rising, rising-true, true-rising}
use Rattle.theorems.specs.MaskLaws.{Ag, ag-self, ag-sym, agree-true, true-agree}
use Rattle.theorems.specs.SplitLaws.{pairs-at, pairs-intro}
use Rattle.splitfile.specs.declared.choosing.Rule.{Rule}
use Rattle.splitfile.specs.declared.choosing.Rule.TheVariants as rule
use Rattle.splitfile.specs.Entries.{mask_in, count_in, record_in}
use Rattle.splitfile.specs.EntryLaws.{records-length, record-at}
use Rattle.splitfile.specs.Choosing.{enough, chosen_in, chosen_by, least_for, ChosenAs, Chose}
use Rattle.answers.specs.declared.Refusal.TheVariants as why

-- ---- agreement

module _ (l : List ℕ) (m : ℕ) where
  pub pairs-more : agree_in_pairs l ≡ true → every (agree m) l ≡ true → agree_in_pairs (l ++ m ∷ []) ≡ true
  pairs-more a e = pairs-intro (l ++ m ∷ []) (λ x y h k. go x y (mem-cases x l (m ∷ []) h) (mem-cases y l (m ∷ []) k))
    where
      with-m : (y : ℕ) → Mem y l → Ag m y
      with-m y k = agree-true m y (every-at (agree m) l e y k)

      go : (x y : ℕ) → Mem x l ⊎ Mem x (m ∷ []) → Mem y l ⊎ Mem y (m ∷ []) → Ag x y
      go x y (inr (inr x7)) _ = elim x7 [ ]
      go x y (inr (inl h)) (inr (inr x8)) = elim x8 [ ]
      go x y (inl h) (inr (inr x5)) = elim x5 [ ]
      go x y (inl h) (inl k) = pairs-at l a x y h k
      go x y (inl h) (inr (inl k)) = rw k (ag-sym m x (with-m x h))
      go x y (inr (inl h)) (inl k) = rw h (with-m y k)
      go x y (inr (inl h)) (inr (inl k)) = rw (h, k) (ag-self m)

  pub pairs-not : (r : List ℕ) → every (agree m) l ≡ false → agree_in_pairs (l ++ m ∷ r) ≢ true
  pairs-not r e a =
      true≢false
      (sym (every-intro (agree m) l (λ y k. true-agree m y (pairs-at (l ++ m ∷ r) a m y (mem-right m l (m ∷ r) (inl refl)) (mem-left y l (m ∷ r) k)))) ∙ e)

-- ---- the walk, record by record

module _ (least n : ℕ) (f : List ℕ) where
  abbrev rs : List Record
  rs = records_in n f

  abbrev rest : ℕ → List ℕ
  rest i = chosen_in least (drop i rs)

  rest-takes : (i : ℕ) → i < n → least ≤ count_in f i → rest i ≡ mask_in f i ∷ rest (i + 1)
  unfolding chosen_in masks_of keep
  rest-takes i h e =
      let l = records-length n f in
      rw (add-one i, drop-cons rs i (record_in f i) (omega arith), record-at n f i (record_in f i) h, le-leb least (count_in f i) e)

  rest-leaves : (i : ℕ) → i < n → count_in f i < least → rest i ≡ rest (i + 1)
  unfolding chosen_in masks_of keep
  rest-leaves i h e =
      let l = records-length n f in
      rw (add-one i, drop-cons rs i (record_in f i) (omega arith), record-at n f i (record_in f i) h, lt-leb least (count_in f i) e)

  rest_end : (i : ℕ) → n ≤ i → rest i ≡ []
  unfolding chosen_in masks_of keep
  rest_end i h = rw (drop_of_length-le rs {i = i} (omega (arith, records-length n f)))

  pub choose-start : (list : List ℕ) → Chose least rs list 0 0
  unfolding agree_in_pairs
  choose-start list = record { all = refl; agreeing = refl }

  module _ {list : List ℕ} {k i : ℕ} (v : Chose least rs list k i) where
    pub choose-end : n ≤ i → k ≤ length list → ChosenAs (chosen_in least rs) (Ok k) list
    unfolding ChosenAs
    choose-end h l =
        let e : take k list ≡ chosen_in least rs = sym (append-nil (take k list)) ∙ (rw (rest_end i h) at v.all) in
        (e, l, sym (ap agree_in_pairs e) ∙ v.agreeing)

    module _ (h : i < n) where
      pub choose-leaves : count_in f i < least → Chose least rs list k (i + 1)
      choose-leaves e = record { all = rw (rest-leaves i h e) at v.all; agreeing = v.agreeing }

      module _ (e : least ≤ count_in f i) where
        taken : take k list ++ mask_in f i ∷ rest (i + 1) ≡ chosen_in least rs
        taken = rw (rest-takes i h e) at v.all

        pub choose-full : k ≡ length list → ChosenAs (chosen_in least rs) (Err why.Disagreeing) list
        unfolding ChosenAs
        choose-full q = (
          refl,
          λ a.
              omega (arith, ap length taken, length-append (take k list) (mask_in f i ∷ rest (i + 1)), length-take-le k list (omega arith)),
        )

        pub choose-not : (m : ℕ) → m ≡ mask_in f i → every (agree m) (take k list) ≡ false → ChosenAs (chosen_in least rs) (Err why.Disagreeing) list
        unfolding ChosenAs
        choose-not m p q = (refl, λ a. absurd (pairs-not (take k list) m (rest (i + 1)) q (rw (p, taken) a)))

        pub choose-takes : (m : ℕ) → m ≡ mask_in f i → k < length list → every (agree m) (take k list) ≡ true → Chose least rs (slice_set list k m) (k + 1) (i + 1)
        choose-takes m p l q =
            record {
              all = rw (add-one k, take-suc-set list k m l) (append_snoc (take k list) m (rest (i + 1)) ∙ rw p taken);
              agreeing = rw (add-one k, take-suc-set list k m l) (pairs-more (take k list) m v.agreeing q);
            }

-- ---- well-formed records

kept_same : (p q : Record → Bool) (rs : List Record) → ((r : Record) → Mem r rs → p r ≡ q r) → keep p rs ≡ keep q rs
unfolding keep
kept_same p q [] e = refl
kept_same p q (r ∷ rs) e = rw (e r (inl refl), kept_same p q rs (λ x h. e x (inr h)))

masks-mem : (rs : List Record) (m : ℕ) → Mem m (masks_of rs) → (r : Record) × Mem r rs × (m ≡ r.mask)
unfolding masks_of
masks-mem [] m x' = elim x' [ ]
masks-mem (r ∷ rs) m (inl e) = (r, inl refl, e)
masks-mem (r ∷ rs) m (inr h) = let x = masks-mem rs m h in (x.0, inr x.1, x.2)

mem-masks : (rs : List Record) (r : Record) → Mem r rs → Mem r.mask (masks_of rs)
unfolding masks_of
mem-masks [] r x' = elim x' [ ]
mem-masks (x ∷ rs) r (inl e) = inl (ap (λ (y : Record). y.mask) e)
mem-masks (x ∷ rs) r (inr h) = inr (mem-masks rs r h)

kept-rising : (p : Record → Bool) (rs : List Record) → Rising (masks_of rs) → Rising (masks_of (keep p rs))
unfolding masks_of keep
kept-rising p [] u = tt
kept-rising p (r ∷ rs) u =
    by-test (λ (l : List Record). Rising (masks_of l)) (p r) (λ e. (above, kept-rising p rs u.1)) (λ e. kept-rising p rs u.1)
  where
    above : (y : ℕ) → Mem y (masks_of (keep p rs)) → r.mask < y
    above y h = let x = masks-mem (keep p rs) y h in rw x.2 (u.0 x.0.mask (mem-masks rs x.0 (keep-mem p rs x.0 x.1).0))

module _ (n : ℕ) (rs : List Record) (w : well_formed n rs ≡ true) where
  each : (r : Record) → Mem r rs → proper_record n (trees_of rs) r ≡ true
  unfolding well_formed
  each r h = every-at (proper_record n (trees_of rs)) rs (and_left (every (proper_record n (trees_of rs)) rs) _ w) r h

  counts : (r : Record) → Mem r rs → (r.count ≤ r.trees) × (r.trees ≡ trees_of rs)
  unfolding proper_record
  counts r h =
      let c = and_right (nat_le 1 r.count) _ (and_right (proper n r.mask) _ (each r h)) in
      (leb-true r.count r.trees (and_left (nat_le r.count r.trees) _ c), eqb-true r.trees (trees_of rs) (and_right (nat_le r.count r.trees) _ c))

  pub least-chosen : (x : Rule) → chosen_in (least_for x (trees_of rs)) rs ≡ chosen_by x rs
  unfolding chosen_in chosen_by least_for strict_in majority_in
  least-chosen rule.Strict =
      ap masks_of
      (kept_same (enough (trees_of rs)) (λ r. nat_eq r.count r.trees) rs
      (λ r h.
      let c = counts r h in
      same_bool _ _ (λ e. eq-eqb r.count r.trees (omega (arith, c.0, c.1, leb-true (trees_of rs) r.count e)))
      (λ e. le-leb (trees_of rs) r.count (omega (arith, c.1, eqb-true r.count r.trees e)))))
  least-chosen rule.Majority =
      ap masks_of
      (kept_same (enough (trees_of rs / 2 + 1)) (λ r. nat_lt r.trees (2 * r.count)) rs
      (λ r h.
      let c = counts r h in
      same_bool _ _ (λ e. lt-ltb r.trees (2 * r.count) (omega (arith, c.1, leb-true (trees_of rs / 2 + 1) r.count e)))
      (λ e. le-leb (trees_of rs / 2 + 1) r.count (omega (arith, c.1, ltb-true r.trees (2 * r.count) e)))))

  pub chosen-good : (least : ℕ) → agree_in_pairs (chosen_in least rs) ≡ true → good_tree n (chosen_in least rs) ≡ true
  unfolding good_tree chosen_in well_formed
  chosen-good least a =
      and-true (every-intro (proper n) (masks_of kept) each-proper)
      (and-true (true-rising (masks_of kept) (kept-rising (enough least) rs (rising-true (masks_of rs) (and_right (every (proper_record n (trees_of rs)) rs) _ w)))) a)
    where
      kept : List Record
      kept = keep (enough least) rs

      is-proper : (r : Record) → Mem r rs → proper n r.mask ≡ true
      is-proper r h = unfold proper_record in and_left (proper n r.mask) _ (each r h)

      each-proper : (m : ℕ) → Mem m (masks_of kept) → proper n m ≡ true
      each-proper m h = let x = masks-mem kept m h in rw x.2 (is-proper x.0 (keep-mem (enough least) rs x.0 x.1).0)
