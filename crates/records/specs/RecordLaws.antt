-- The laws of records and of their masks. Assumes nothing.
--   put-length       a list with words put in is longer by these words
--   records-length   as many records as masks
--   records-append   the records of masks, then those of others
--   records-put      the records of masks put in are put in
--   records-over     of records put over others, no fewer, nothing is left of the others
--   record-at        a word of record j is one of the record of mask j
--   masks-length     as many masks as records
--   masks-at         mask j is the first word of record j
--   masks-more       one more record, one more mask
--   masks-records    the masks of the records of a list are the list
use Prim.Native.Nat.{ℕ, zero, suc, ◌+◌, ◌-◌, ◌*◌, ◌≤◌, ◌<◌}
use native.Mathlib.Omega.{arith}
use Rattle.std.specs.Prelude.{◌≡◌, length, get_or}
use Rattle.std.proofs.Math.Path.{refl, ap, ap₂, sym}
use Rattle.std.proofs.Common.{◌∙◌, take-append-drop, get_or-append-add, get_or-drop, drop-drop}
use mathlib.Core.List.{List, [], ◌∷◌, ◌++◌, append_assoc}
use Rattle.std.proofs.Math.ListN.{take, drop, length-append, get_or-append}
use Rattle.std.proofs.Math.Seq.{take-nil, drop-nil, take-append-add, drop-append-add}
use Rattle.trees.specs.Opening.{Opening}
use Rattle.records.specs.Records.{wide, record_of, records_of, with_records, masks_of, put_in}

pub put-length : {A : Type 0} (j : ℕ) (v l : List A) → length (put_in j v l) ≡ length v + length l
unfolding put_in
put-length j v l =
    omega
    (arith, length-append (take j l) (v ++ drop j l), length-append v (drop j l), length-append (take j l) (drop j l), ap length (take-append-drop j l))

next-record : (j : ℕ) → wide * suc j ≡ wide + wide * j
next-record j = omega arith

-- ---- the records of a list of masks

module _ (o : Opening) where
  pub records-length : (l : List ℕ) → length (records_of o l) ≡ wide * length l
  unfolding records_of
  records-length [] = refl
  records-length (m ∷ l) = omega (arith, length-append (record_of o m) (records_of o l), records-length l)

  pub records-append : (a b : List ℕ) → records_of o (a ++ b) ≡ records_of o a ++ records_of o b
  unfolding records_of
  records-append [] b = refl
  records-append (m ∷ a) b = ap (λ r. record_of o m ++ r) (records-append a b) ∙ sym (append_assoc (record_of o m) (records_of o a) (records_of o b))

  records-take : (j : ℕ) (l : List ℕ) → records_of o (take j l) ≡ take (wide * j) (records_of o l)
  unfolding records_of
  records-take zero l = refl
  records-take (suc j) [] = sym (take-nil (wide * suc j))
  records-take (suc j) (m ∷ l) =
      ap (λ r. record_of o m ++ r) (records-take j l)
      ∙ sym (take-append-add (record_of o m) (records_of o l) (wide * j))
      ∙ ap (λ (n : ℕ). take n (record_of o m ++ records_of o l)) (sym (next-record j))

  records-drop : (j : ℕ) (l : List ℕ) → records_of o (drop j l) ≡ drop (wide * j) (records_of o l)
  unfolding records_of
  records-drop zero l = refl
  records-drop (suc j) [] = sym (drop-nil (wide * suc j))
  records-drop (suc j) (m ∷ l) =
      records-drop j l
      ∙ sym (drop-append-add (record_of o m) (records_of o l) (wide * j))
      ∙ ap (λ (n : ℕ). drop n (record_of o m ++ records_of o l)) (sym (next-record j))

  pub records-put : (j : ℕ) (v l : List ℕ) → records_of o (put_in j v l) ≡ put_in (wide * j) (records_of o v) (records_of o l)
  unfolding put_in
  records-put j v l =
      records-append (take j l) (v ++ drop j l)
      ∙ ap₂ ◌++◌ (records-take j l) (records-append v (drop j l) ∙ ap (λ r. records_of o v ++ r) (records-drop j l))

  pub records-over : (a b s : List ℕ) → length a ≤ length b → with_records o b (with_records o a s) ≡ with_records o b s
  records-over a b s h =
      let more = wide * (length b - length a) in
      let n : wide * length b ≡ length (records_of o a) + more = omega (arith, records-length a) in
      let q : wide * length a + more ≡ wide * length b = omega arith in
      ap (λ r. records_of o b ++ r)
      (ap (λ (k : ℕ). drop k (with_records o a s)) n
      ∙ drop-append-add (records_of o a) (drop (wide * length a) s) more
      ∙ drop-drop more (wide * length a) s
      ∙ ap (λ (k : ℕ). drop k s) q)

  pub record-at : (l r : List ℕ) (j x : ℕ) → j < length l → x < wide → get_or (records_of o l ++ r) (wide * j + x) 0 ≡ get_or (record_of o (get_or l j 0)) x 0
  unfolding records_of
  record-at [] r j x h g = absurd (omega arith)
  record-at (m ∷ l) r zero x h g =
      let e : wide * 0 + x ≡ x = omega arith in
      rw e (get_or-append (record_of o m) (records_of o l ++ r) 0 x g)
  record-at (m ∷ l) r (suc j) x h g =
      let e : wide * suc j + x ≡ wide + (wide * j + x) = omega arith in
      rw e (get_or-append-add (record_of o m) (records_of o l ++ r) (wide * j + x) 0 ∙ record-at l r j x (omega arith) g)

-- ---- the masks of records

pub masks-length : (k : ℕ) (s : List ℕ) → length (masks_of k s) ≡ k
unfolding masks_of
masks-length zero s = refl
masks-length (suc k) s = ap suc (masks-length k (drop wide s))

pub masks-at : (k : ℕ) (s : List ℕ) (j : ℕ) → j < k → get_or (masks_of k s) j 0 ≡ get_or s (wide * j) 0
unfolding masks_of
masks-at zero s j h = absurd (omega arith)
masks-at (suc k) s zero h = refl
masks-at (suc k) s (suc j) h =
    masks-at k (drop wide s) j (omega arith) ∙ get_or-drop wide s (wide * j) 0 ∙ ap (λ (n : ℕ). get_or s n 0) (sym (next-record j))

pub masks-more : (k : ℕ) (s : List ℕ) → masks_of (suc k) s ≡ masks_of k s ++ (get_or s (wide * k) 0 ∷ [])
unfolding masks_of
masks-more zero s = refl
masks-more (suc k) s =
    ap (λ l. get_or s 0 0 ∷ l) (masks-more k (drop wide s))
    ∙ ap (λ (x : ℕ). masks_of (suc k) s ++ (x ∷ [])) (get_or-drop wide s (wide * k) 0 ∙ ap (λ (n : ℕ). get_or s n 0) (sym (next-record k)))

pub masks-records : (o : Opening) (l r : List ℕ) → masks_of (length l) (records_of o l ++ r) ≡ l
unfolding masks_of records_of
masks-records o [] r = refl
masks-records o (m ∷ l) r = ap (λ k. m ∷ k) (masks-records o l r)
