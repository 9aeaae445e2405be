-- The laws of a file's records at their places, read and put one behind another. Assumes nothing.
--
--   number-of                       the number in some bytes, read at its place
--   records-listed                  the first k records of some bytes are those at the places 0, 1, ..
--   records-length, record-at       how many they are, and the one at place i
--   masks-length, mask_at, counts-length, count_at     their masks and counts
--   trees-none, trees-first         how many trees they are of
--   bytes-length, bytes-append      the bytes of records: 16 each, one behind the other
--   put-record-length               a record put into some bytes leaves their length
--   with-length, with_none          bytes with records at their front; with none of them
--   with-front                      so are they left where the records' bytes are a call's answer
--   with-more, with-next            one record more put behind them: any one, or the next of a list
--   with_all                        at the list's end
use Rattle.std.specs.Prelude.{◌≡◌, ℕ, zero, suc, ◌+◌, ◌*◌, ◌/◌, ◌%◌, ◌<◌, ◌≤◌, ◌⊎◌, List, [], ◌∷◌, ◌++◌, map, length, get_or, take, drop, ◌≢◌, slice_index, slice_index_or, slice_set, refl}
use Rattle.std.proofs.Common.{add-zero, add-one, arith, sym, ap, ◌∙◌, inl, inr, append_assoc, append-nil, length-drop, drop_of_length-le, take_at, take-suc, drop-cons, drop-drop, length-take-le}
use Rattle.std.proofs.Math.ListN.{length-append, length-map, get_or-eq_default}
use Rattle.std.proofs.lemmas.List.Edits.{sets, sets-eq}
use Rattle.std.proofs.Math.Seq.{take-length, drop-append-add}
use Rattle.trees.specs.SplitFile.{Record, record_bytes, low_first, number_of, bytes_of, records_in, trees_of, masks_of}
use Rattle.theorems.specs.ListLaws.{less-or-not}
use Rattle.fields.specs.Field.{number, put}
use Rattle.fields.specs.FieldLaws.{number-zero, put-length}
use Rattle.head.specs.Head.{from_to, up_to}
use Rattle.head.specs.HeadLaws.{up_to-length, up_to-at}
use Rattle.splitfile.specs.Entries.{mask_in, count_in, trees_in, record_in, put_record, with_records}

-- ---- numbers

pub number-of : (k : ℕ) (f : List ℕ) (a : ℕ) → number_of (take k (drop a f)) ≡ number k f a
unfolding number_of number
number-of zero f a = refl
number-of (suc k) f a = go (less-or-not a (length f)) (number-of k f (suc a))
  where
    go : (a < length f) ⊎ (length f ≤ a) → number_of (take k (drop (suc a) f)) ≡ number k f (suc a)
        → number_of (take (suc k) (drop a f)) ≡ number (suc k) f a
    go (inl h) e = rw (drop-cons f a 0, add-one a) (ap (λ (n : ℕ). slice_index f a + 256 * n) e)
    go (inr h) e =
        rw (drop_of_length-le f h)
        (sym (number-zero (suc k) f a (λ i l. get_or-eq_default f 0 (omega arith))))

-- ---- the records at their places

records-from : (k : ℕ) (f : List ℕ) (j : ℕ) → records_in k (drop (record_bytes * j) f) ≡ from_to (record_in f) j k
unfolding records_in from_to
records-from zero f j = refl
records-from (suc k) f j =
    let e : record_bytes * j + record_bytes ≡ record_bytes * suc j = omega arith in
    rw (drop-drop 8 (record_bytes * j) f, drop-drop 12 (record_bytes * j) f, drop-drop record_bytes (record_bytes * j) f, e)
    (rw (number-of 8 f (record_bytes * j), number-of 4 f (record_bytes * j + 8), number-of 4 f (record_bytes * j + 12))
    (ap (λ (l : List Record). record_in f j ∷ l) (records-from k f (suc j))))

-- the number that g takes from the record at i
taken_at : (g : Record → ℕ) (l : List Record) (i : ℕ) (d : Record) → i < length l → slice_index (map g l) i ≡ g (slice_index_or l i d)
taken_at g [] i d h = absurd (omega arith)
taken_at g (r ∷ l) zero d h = refl
taken_at g (r ∷ l) (suc i) d h = taken_at g l i d (omega arith)

module _ (k : ℕ) (f : List ℕ) where
  pub records-listed : records_in k f ≡ up_to (record_in f) k
  unfolding up_to
  records-listed = records-from k f 0

  pub records-length : length (records_in k f) ≡ k
  records-length = ap length records-listed ∙ up_to-length (record_in f) k

  pub record-at : (i : ℕ) (d : Record) → i < k → slice_index_or (records_in k f) i d ≡ record_in f i
  record-at i d h = ap (λ (l : List Record). get_or l i d) records-listed ∙ up_to-at (record_in f) k i d h

  -- the numbers that g takes from the records
  listed_at : (g : Record → ℕ) (i : ℕ) → i < k → slice_index (map g (records_in k f)) i ≡ g (record_in f i)
  listed_at g i h = taken_at g (records_in k f) i (record_in f i) (omega (arith, records-length)) ∙ ap g (record-at i (record_in f i) h)

  pub masks-length : length (masks_of (records_in k f)) ≡ k
  unfolding masks_of
  masks-length = length-map (records_in k f) (λ r. r.mask) ∙ records-length

  pub mask_at : (i : ℕ) → i < k → slice_index (masks_of (records_in k f)) i ≡ mask_in f i
  unfolding masks_of
  mask_at i h = listed_at (λ r. r.mask) i h

  pub counts-length : length (map (λ r. r.count) (records_in k f)) ≡ k
  counts-length = length-map (records_in k f) (λ r. r.count) ∙ records-length

  pub count_at : (i : ℕ) → i < k → slice_index (map (λ r. r.count) (records_in k f)) i ≡ count_in f i
  count_at i h = listed_at (λ r. r.count) i h

pub trees-none : (k : ℕ) (f : List ℕ) → k ≡ 0 → trees_of (records_in k f) ≡ 0
unfolding trees_of records_in
trees-none k f z = rw z

pub trees-first : (k : ℕ) (f : List ℕ) → (k ≢ 0) → trees_of (records_in k f) ≡ trees_in f 0
unfolding trees_of records_in
trees-first zero f z = absurd (z refl)
trees-first (suc k) f z = number-of 4 f 12

-- ---- the bytes of records

low-length : (k x : ℕ) → length (low_first k x) ≡ k
unfolding low_first
low-length zero x = refl
low-length (suc k) x = ap suc (low-length k (x / 256))

pub bytes-length : (rs : List Record) → length (bytes_of rs) ≡ record_bytes * length rs
unfolding bytes_of
bytes-length [] = refl
bytes-length (r ∷ rs) =
    simp length-append
    (omega (arith, low-length 8 r.mask, low-length 4 r.count, low-length 4 r.trees, bytes-length rs))

pub bytes-append : (a b : List Record) → bytes_of (a ++ b) ≡ bytes_of a ++ bytes_of b
unfolding bytes_of
bytes-append [] b = refl
bytes-append (r ∷ a) b = rw (bytes-append a b) (sym (simp append_assoc))

one-record : (r : Record) → bytes_of (r ∷ []) ≡ low_first 8 r.mask ++ low_first 4 r.count ++ low_first 4 r.trees
unfolding bytes_of
one-record r = append-nil (low_first 8 r.mask ++ low_first 4 r.count ++ low_first 4 r.trees)

-- ---- a record that is put

sets-append : (a b s : List ℕ) (at : ℕ) → sets s at (a ++ b) ≡ sets (sets s at a) (at + length a) b
sets-append [] b s at = rw add-zero
sets-append (x ∷ a) b s at =
    let e : suc at + length a ≡ at + suc (length a) = omega arith in
    sets-append a b (slice_set s at x) (suc at) ∙ rw e

put_low : (k : ℕ) (s : List ℕ) (at v : ℕ) → put k s at v ≡ sets s at (low_first k v)
unfolding put low_first
put_low zero s at v = refl
put_low (suc k) s at v = rw add-one (put_low k (slice_set s at (v % 256)) (suc at) (v / 256))

module _ (s : List ℕ) (i : ℕ) (r : Record) where
  pub put-record-length : length (put_record s i r) ≡ length s
  unfolding put_record
  put-record-length = rw (put-length, put-length, put-length)

  put-record-bytes : put_record s i r ≡ sets s (record_bytes * i) (bytes_of (r ∷ []))
  unfolding put_record
  put-record-bytes =
      rw (
        one-record r,
        put_low 8,
        put_low 4,
        put_low 4,
        sets-append (low_first 8 r.mask ++ low_first 4 r.count),
        length-append,
        low-length 8,
        low-length 4,
        sets-append (low_first 8 r.mask),
        low-length 8,
      )

-- ---- records at the front of a buffer

pub with_none : (s : List ℕ) → with_records [] s ≡ s
unfolding bytes_of
with_none s = refl

module _ (rs : List Record) (s : List ℕ) where
  pub with-length : record_bytes * length rs ≤ length s → length (with_records rs s) ≡ length s
  with-length h = omega (arith, length-append (bytes_of rs) (drop (record_bytes * length rs) s), bytes-length rs, length-drop (record_bytes * length rs) s)

  -- as a call leaves an answer at its buffer's front
  pub with-front : with_records rs s ≡ bytes_of rs ++ drop (length (bytes_of rs)) s
  with-front = rw (bytes-length rs)

  pub with-more : (t : List ℕ) (k : ℕ) (r : Record) → t ≡ with_records rs s → k ≡ length rs → record_bytes * k + record_bytes ≤ length s
      → put_record t k r ≡ with_records (rs ++ r ∷ []) s
  with-more t k r e q h =
      let n = record_bytes * length rs in
      let v = bytes_of (r ∷ []) in
      let w = with_records rs s in
      let b : length v ≡ record_bytes = bytes-length (r ∷ []) in
      let l : length (bytes_of rs) ≡ n = bytes-length rs in
      let m : n + record_bytes ≡ record_bytes * length (rs ++ r ∷ []) = omega (arith, length-append rs (r ∷ [])) in
      let p : sets w n v ≡ take n w ++ v ++ drop (n + record_bytes) w = rw b at (sets-eq v w n (omega (arith, with-length (omega arith)))) in
      let d : drop (n + record_bytes) w ≡ drop (n + record_bytes) s =
      rw l at (drop-append-add (bytes_of rs) (drop n s) record_bytes) ∙ drop-drop record_bytes n s in
      rw (put-record-bytes t k r, q, e, p, take_at (bytes_of rs) (drop n s) n l, d, bytes-append rs (r ∷ []), m)

-- a list's records, one after another
module _ (rs : List Record) (s t : List ℕ) (k : ℕ) (e : t ≡ with_records (take k rs) s) where
  pub with-next : (d : Record) → k < length rs → record_bytes * length rs ≤ length s → put_record t k (slice_index_or rs k d) ≡ with_records (take (k + 1) rs) s
  with-next d h f =
      let l = length-take-le k rs (omega arith) in
      rw (add-one k, take-suc rs k d h) (with-more (take k rs) s t k (slice_index_or rs k d) e (sym l) (omega arith))

  pub with_all : k ≡ length rs → t ≡ with_records rs s
  with_all q = e ∙ rw (q, take-length rs)
