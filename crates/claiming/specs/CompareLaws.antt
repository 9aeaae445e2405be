-- Laws of the loop that compares the splits of a text with the majority's, a split at a time. Assumes nothing.
--
--   along-start                     before the first record and the first split
--   along-leaves                    split j is not in enough trees
--   majority-behind                 it is, and no record is left
--   text-first, majority-first      it is, and the next record's mask is smaller, or larger
--   along-both                      it is, and the next record's mask is the same
--   text-behind, both_end           no split is left, but a record; or none
use Rattle.std.specs.Prelude.{ℕ, zero, suc, ◌+◌, ◌*◌, ◌≤◌, ◌<◌, ◌≡◌, refl, true, List, [], ◌∷◌, get_or, drop}
use Rattle.std.proofs.Common.{add-one, arith, sym, ap, ap₂, ◌∙◌, subst, inl, inr, drop_of_length-le, drop-cons}
use Rattle.trees.specs.Claim.{Claimed, same, text_alone, majority_alone, compared}
use Rattle.theorems.specs.RisingLaws.{Above, Rising, keep-rising, recorded-rising}
use Rattle.theorems.specs.ComparedLaws.{text-ahead, majority-ahead, both-go-on, same-splits}
use Rattle.records.specs.Records.{wide, masks_of}
use Rattle.records.specs.RecordLaws.{masks-length, masks-at}
use Rattle.layout.specs.Store.{splits_held_at, mask_at, masks_at, held_at}
use Rattle.layout.specs.WholeStore.{whole_at}
use Rattle.store.specs.RecordedAtLaws.{recorded-at}
use Rattle.consensus.specs.Chosen.{in_enough, chosen, chosen_from, ReadSplit}
use Rattle.consensus.specs.ChooseLaws.{from_start, from_end, from-takes, from-leaves}
use Rattle.claiming.specs.Along.{Along}

rising-drop : (i : ℕ) (l : List ℕ) → Rising l → Rising (drop i l)
rising-drop zero l h = h
rising-drop (suc i) [] h = h
rising-drop (suc i) (x ∷ l) h = rising-drop i l h.1

-- what is smaller than the first of a rising list is smaller than all
below_all : (a b : ℕ) (l : List ℕ) → Rising (b ∷ l) → a < b → Above a (b ∷ l)
below_all a b l r h y (inl e) = omega arith
below_all a b l r h y (inr m) = omega (arith, r.0 y m)

below_none : (a : ℕ) → Above a []
below_none a y m = absurd m

module _ (least : ℕ) (s : List ℕ) (w : whole_at s ≡ true) (records : List ℕ) (k : ℕ) (r : Rising (masks_of k records)) where
  abbrev splits : List ℕ
  splits = masks_of k records

  abbrev answer : Claimed
  answer = compared splits (chosen least (held_at s).trees)

  -- ---- what is left of the records

  left_rising : (i : ℕ) → Rising (drop i splits)
  left_rising i = rising-drop i splits r

  left-none : (i : ℕ) → k ≤ i → drop i splits ≡ []
  left-none i h = drop_of_length-le splits {i = i} (omega (arith, masks-length k records))

  left-next : (i : ℕ) → i < k → {m : ℕ} → m ≡ get_or records (wide * i) 0 → drop i splits ≡ m ∷ drop (i + 1) splits
  left-next i h e =
      rw (add-one i, e, ← masks-at k records i h) (drop-cons splits i 0 (omega (arith, masks-length k records)))

  -- ---- what is left of the splits in enough trees

  from-rising : (j : ℕ) → Rising (chosen_from least s j)
  unfolding chosen_from
  from-rising j = keep-rising (in_enough least (held_at s).trees) (drop j (masks_at s)) (rising-drop j (masks_at s) (subst Rising (recorded-at s w) (recorded-rising (held_at s).trees)))

  -- ---- the loop

  pub along-start : Along least s records k 0 0
  along-start = record { rest = ap (compared splits) (sym (from_start s w least)) }

  module _ {i j : ℕ} (v : Along least s records k i j) where
    rest-is : {l m : List ℕ} → drop i splits ≡ l → chosen_from least s j ≡ m → answer ≡ compared l m
    rest-is e f = v.rest ∙ ap₂ compared e f

    module _ (h : splits_held_at s ≤ j) where
      pub both_end : k ≤ i → answer ≡ same
      both_end n = rest-is (left-none i n) (from_end s w least j h) ∙ (same-splits [] [] tt tt).1 refl

      pub text-behind : i < k → {m : ℕ} → m ≡ get_or records (wide * i) 0 → answer ≡ text_alone m
      text-behind l {m} e =
          let n = left-next i l e in
          rest-is n (from_end s w least j h) ∙ text-ahead m (drop (i + 1) splits) [] (subst Rising n (left_rising i)) tt (below_none m)

    module _ {row c : ℕ} (q : ReadSplit s j row c) where
      pub along-leaves : c < least → Along least s records k i (j + 1)
      along-leaves e = record { rest = rest-is refl (from-leaves s w q least e) }

      module _ (e : least ≤ c) {ours : ℕ} (o : ours ≡ mask_at s row) where
        from_next : chosen_from least s j ≡ ours ∷ chosen_from least s (j + 1)
        from_next = rw o (from-takes s w q least e)

        next-rising : Rising (ours ∷ chosen_from least s (j + 1))
        next-rising = subst Rising from_next (from-rising j)

        pub majority-behind : k ≤ i → answer ≡ majority_alone ours
        majority-behind n = rest-is (left-none i n) from_next ∙ majority-ahead ours (chosen_from least s (j + 1)) [] next-rising tt (below_none ours)

        module _ (l : i < k) {theirs : ℕ} (t : theirs ≡ get_or records (wide * i) 0) where
          theirs-rising : Rising (theirs ∷ drop (i + 1) splits)
          theirs-rising = subst Rising (left-next i l t) (left_rising i)

          pub text-first : theirs < ours → answer ≡ text_alone theirs
          text-first h =
              rest-is (left-next i l t) from_next
              ∙ text-ahead theirs (drop (i + 1) splits) (ours ∷ chosen_from least s (j + 1)) theirs-rising next-rising
              (below_all theirs ours (chosen_from least s (j + 1)) next-rising h)

          pub majority-first : ours < theirs → answer ≡ majority_alone ours
          majority-first h =
              rest-is (left-next i l t) from_next
              ∙ majority-ahead ours (chosen_from least s (j + 1)) (theirs ∷ drop (i + 1) splits) next-rising theirs-rising
              (below_all ours theirs (drop (i + 1) splits) theirs-rising h)

          pub along-both : theirs ≡ ours → Along least s records k (i + 1) (j + 1)
          along-both f =
              let n = subst (λ (x : ℕ). drop i splits ≡ x ∷ drop (i + 1) splits) f (left-next i l t) in
              record {
                rest = rest-is n from_next ∙ both-go-on ours (drop (i + 1) splits) (chosen_from least s (j + 1)) (subst Rising n (left_rising i)) next-rising;
              }
