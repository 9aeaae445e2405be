-- The laws of a file's form, as the walk over its records finds it and as a caller takes it. Assumes nothing.
--
-- of one record:
--   counted-read            one test of its count and its trees as one number
--   next-not, next-few, next-counted     its mask is not above, or has fewer than two taxa; else its count and its trees decide
-- of the walk, record by record:
--   rising-not, rising-next     a record that is not the next: the rest counts no more; else the rest decides
--   rising-end              behind the last there is no rest
-- of all records:
--   formed-none             no records are well formed
--   formed-last, formed-rising     a last mask that is improper; else what the walk over all records finds
-- of what is found:
--   form-bad-length, form-bad-record, form-good     each answer
--   if-refused, if-good     what a caller makes of each: the refusal, or what is asked of the records
--   good_length, good-formed        so many records are all of the file, and are well formed
use Rattle.std.specs.Prelude.{◌≡◌, ℕ, zero, suc, ◌+◌, ◌-◌, ◌*◌, ◌/◌, ◌%◌, ◌^◌, ◌<◌, ◌≤◌, Bool, true, false, not, ◌&&◌, ltb, ◌⊎◌, List, [], ◌∷◌, length, drop, ◌==◌, ◌≢◌, bit_or, count_ones, nat_eq, nat_le, nat_lt, slice_index, slice_index_or, if◌then◌else◌, Result, Ok, Err}
use Rattle.std.proofs.Common.{pow-suc, mod-eq_of_lt, add-one, ◌∙◌, inl, inr, true≢false, drop_of_length-le}
use Rattle.std.proofs.Math.Nat.{mod-eq-sub-mod, mod-le}
use native.Mathlib.Omega.{arith}
use Rattle.std.proofs.Math.Path.{refl, sym, ap}
use Rattle.std.proofs.lemmas.Nat.{and_comm}
use Rattle.std.specs.Int.Count.{ones_step}
use Rattle.std.proofs.Math.Seq.{drop-cons}
use borrow.Author.Tests.{ltb-true, leb-true, eqb-true, le-leb, lt-ltb, eq-eqb, ne_eqb, not-true}
use Rattle.trees.specs.Plain.{Answer, refused, gives, every}
use Rattle.trees.specs.Mask.{has, every_taxon, without, proper, lowest}
use Rattle.trees.specs.Whole.{rising}
use Rattle.trees.specs.SplitFile.{Record, record_bytes, records_in, trees_of, masks_of, proper_record, well_formed}
use Rattle.trees.specs.SplitFileCall.{records_from, if_records}
use Rattle.theorems.specs.ListLaws.{less-or-not, same_bool, and_left, and_right, and-true, Mem, mem-stands, every-at, every-intro}
use Rattle.theorems.specs.BitLaws.{On, even_odd, on-first, off_zero, on-or-l, on-or-r, or-on, sub-le}
use Rattle.theorems.specs.MaskLaws.{has-off, off-has}
use Rattle.theorems.specs.OnesLaws.{ones-zero, ones_pos}
use Rattle.theorems.specs.ProperLaws.{proper-even, proper-two, proper-most, proper-sub}
use Rattle.theorems.specs.RisingLaws.{Rising, rising-true, true-rising}
use Rattle.theorems.specs.SplitFileLaws.{mem-masks}
use Rattle.answers.specs.declared.Refusal.TheVariants as why
use Rattle.answers.specs.Answers.{refusal_number, refusing, number_given}
use Rattle.answers.specs.Filled.{length_given}
use Rattle.answers.specs.AnswerLaws.{gives≢refused}
use Rattle.masks.specs.MaskLaws.{two-less, proper-others}
use Rattle.masks.specs.LowestLaws.{and-before}
use Rattle.head.specs.Head.{numbers_at, opening_at}
use Rattle.layout.specs.Store.{held_in, held_at}
use Rattle.store.specs.SplitLaws.{proper-some}
use Rattle.splitfile.specs.Entries.{mask_in, count_in, trees_in, record_in}
use Rattle.splitfile.specs.EntryLaws.{records-length, record-at, masks-length, mask_at, trees-first}
use Rattle.splitfile.specs.Form.{FormAs, counted_record, next_record, rising_from}
use Rattle.answers.specs.declared.Refusal.{Refusal}

-- ---- one record

-- a sum that wraps falls below both of its parts

not-wrapped : (b d k w : ℕ) → d < b → k ≤ w → (d + k) % b ≡ w → d + k ≡ w
not-wrapped b d k w l h e = go (less-or-not (d + k) b)
  where
    go : (d + k < b) ⊎ (b ≤ d + k) → d + k ≡ w
    go (inl q) = sym (mod-eq_of_lt q) ∙ e
    go (inr q) = absurd (omega (arith, mod-eq-sub-mod q, mod-le (d + k - b) b))

-- d is how far the number of both stands above that of t trees and the count 1
module _ (t c u d : ℕ) (a : t < 2 ^ 32) (b : c < 2 ^ 32) (g : d < 2 ^ 64) (h : (d + (4294967296 * t + 1)) % 2 ^ 64 ≡ 4294967296 * u + c) where
  counted-test : (m : ℕ) → nat_lt d t ≡ counted_record t (record { mask = m; count = c; trees = u })
  unfolding counted_record
  counted-test m = same_bool _ _ to from
    where
      to : ltb d t ≡ true → (nat_le 1 c && (nat_le c u && u == t)) ≡ true
      to q =
          let l = ltb-true d t q in
          let e : d + (4294967296 * t + 1) ≡ 4294967296 * u + c = sym (mod-eq_of_lt (omega (arith, l, a))) ∙ h in
          let same : u ≡ t = omega (arith, e, l, a, b) in
          and-true (le-leb 1 c (omega (arith, e, same))) (and-true (le-leb c u (omega (arith, e, l, same))) (eq-eqb u t same))

      from : (nat_le 1 c && (nat_le c u && u == t)) ≡ true → nat_lt d t ≡ true
      from q =
          let r = and_right (nat_le 1 c) _ q in
          let i = leb-true 1 c (and_left (nat_le 1 c) _ q) in
          let j = leb-true c u (and_left (nat_le c u) _ r) in
          let k = eqb-true u t (and_right (nat_le c u) _ r) in
          let e = not-wrapped (2 ^ 64) d (4294967296 * t + 1) (4294967296 * u + c) g (omega (arith, i, k)) h in
          lt-ltb d t (omega (arith, e, i, j, k))

-- as it is read
pub counted-read : (f : List ℕ) (i t c u d : ℕ) → t < 2 ^ 32 → c < 2 ^ 32 → d < 2 ^ 64 → (d + (4294967296 * t + 1)) % 2 ^ 64 ≡ 4294967296 * u + c → c ≡ count_in f i → u ≡ trees_in f i
    → nat_lt d t ≡ counted_record t (record_in f i)
counted-read f i t c u d a b g h p q = rw (← p, ← q) (counted-test t c u d a b g h (mask_in f i))

-- x is the mask of the record
module _ (t m : ℕ) (r : Record) (x : ℕ) (q : x ≡ r.mask) where
  pub next-not : ltb m x ≡ false → next_record t m r ≡ false
  unfolding next_record
  next-not e = rw (← q, e)

  module _ (e : ltb m x ≡ true) (b : x < 2 ^ 64) (y : ℕ) (w : y ≡ without x (2 ^ lowest x)) where
    two : not (y == 0) ≡ nat_le 2 (count_ones x)
    two =
        let l = ltb-true m x e in
        rw (w, ← and-before x 64 b (λ z. omega arith), and_comm (x - 1) x) (two-less x (omega arith))

    pub next-few : nat_eq y 0 ≡ true → next_record t m r ≡ false
    unfolding next_record
    next-few z = rw (← q, e, ← two, z)

    pub next-counted : nat_eq y 0 ≡ false → next_record t m r ≡ counted_record t r
    unfolding next_record
    next-counted z = rw (← q, e, ← two, z)

-- ---- the walk, record by record

module _ (t k : ℕ) (f : List ℕ) (i u m : ℕ) where
  abbrev rest : Bool
  rest = rising_from t u m (drop i (records_in k f))

  module _ (h : i < k) where
    rest-cons : rest ≡ (next_record t m (record_in f i) && rising_from t (bit_or u (mask_in f i)) (mask_in f i) (drop (i + 1) (records_in k f)))
    unfolding rising_from
    rest-cons =
        let l = records-length k f in
        rw (add-one i, drop-cons (records_in k f) i (record_in f i) (omega arith), record-at k f i (record_in f i) h)

    pub rising-not : next_record t m (record_in f i) ≡ false → rest ≡ false
    rising-not p = rest-cons ∙ rw p

    pub rising-next : next_record t m (record_in f i) ≡ true → rest ≡ rising_from t (bit_or u (mask_in f i)) (mask_in f i) (drop (i + 1) (records_in k f))
    rising-next p = rest-cons ∙ rw p

  pub rising-end : k ≤ i → rest ≡ not (has u 0)
  unfolding rising_from
  rising-end h = rw (drop_of_length-le (records_in k f) {i = i} (omega (arith, records-length k f)))

-- ---- all records

even-of : (m : ℕ) → (On m 0 → ⊥) → m % 2 ≡ 0
even-of m f = go (even_odd m)
  where
    go : (m % 2 ≡ 0) ⊎ (m % 2 ≡ 1) → m % 2 ≡ 0
    go (inl e) = e
    go (inr e) = absurd (f (on-first m e))

few_ones : (x : ℕ) → x < 2 → count_ones x < 2
few_ones x h = let z : x / 2 ≡ 0 = omega arith in omega (arith, ones_step x, ap count_ones z, ones-zero)

odd-ones : (x : ℕ) → x % 2 ≡ 1 → 2 ≤ x → 2 ≤ count_ones x
odd-ones x e h = omega (arith, ones_step x, ones_pos (x / 2) (omega arith))

-- of masks without taxon 0 and of two taxa, one that is no higher than a proper one is proper
proper-lower : (n l m : ℕ) → proper n l ≡ true → m ≤ l → (On m 0 → ⊥) → 2 ≤ count_ones m → proper n m ≡ true
unfolding every_taxon
proper-lower zero l m p h f o = absurd (omega (arith, proper-two 0 l p, proper-most 0 l p))
proper-lower (suc k) l m p h f o =
    let n = suc k in
    let e = even-of m f in
    let w : l ≤ every_taxon n = sub-le l (every_taxon n) (proper-sub n l p) in
    let q = leb-true 2 (count_ones (every_taxon n - l)) (proper-others n l (even-of l (proper-even n l p)) (le-leb 2 (count_ones l) (proper-two n l p)) w ∙ p) in
    let two-left : every_taxon n - l < 2 → ⊥ = λ z. omega (arith, few_ones (every_taxon n - l) z) in
    sym (proper-others n m e (le-leb 2 (count_ones m) o) (omega arith))
    ∙ le-leb 2 (count_ones (every_taxon n - m)) (odd-ones (every_taxon n - m) (omega (arith, pow-suc 2 k)) (omega (arith, two-left)))

-- the last of rising masks is the highest
last-highest : (l : List ℕ) (k : ℕ) → length l ≡ suc k → Rising l → (y : ℕ) → Mem y l → y ≤ slice_index l k
last-highest (x ∷ []) zero e r y (inr h) = elim h [ ]
last-highest [] k e r y h = elim h [ ]
last-highest (x ∷ []) zero e r y (inl d) = omega arith
last-highest (x ∷ []) (suc k) e r y h = absurd (omega arith)
last-highest (x ∷ z ∷ l) zero e r y h = absurd (omega arith)
last-highest (x ∷ z ∷ l) (suc k) e r y (inl d) = omega (arith, r.0 z (inl refl), last-highest (z ∷ l) k (omega arith) r.1 z (inl refl))
last-highest (x ∷ z ∷ l) (suc k) e r y (inr h) = last-highest (z ∷ l) k (omega arith) r.1 y h

proper-found : (n t : ℕ) (r : Record) → proper n r.mask ≡ true → counted_record t r ≡ true → proper_record n t r ≡ true
unfolding proper_record counted_record
proper-found n t r p c = and-true p c

module _ (t : ℕ) where
  -- what the walk finds of each record
  pub record Found (r : Record) : Type 0 where
    pub even : On r.mask 0 → ⊥
    pub two-taxa : 2 ≤ count_ones r.mask
    pub counted : counted_record t r ≡ true

  found-rising : (rs : List Record) (u m : ℕ) → rising_from t u m rs ≡ true → (On u 0 → ⊥) × (((r : Record) → Mem r rs → Found r) × Rising (m ∷ masks_of rs))
  unfolding rising_from next_record masks_of
  found-rising [] u m e = (has-off u 0 (not-true (has u 0) e), ((λ r h. absurd h), ((λ y h. absurd h), tt)))
  found-rising (r ∷ rs) u m e =
      let p = and_left (next_record t m r) _ e in
      let q = and_right (nat_lt m r.mask) _ p in
      let l = ltb-true m r.mask (and_left (nat_lt m r.mask) _ p) in
      let found = found-rising rs (bit_or u r.mask) r.mask (and_right (next_record t m r) _ e) in
      let first : Found r = record {
        even = λ o. found.0 (on-or-r u r.mask 0 o);
        two-taxa = leb-true 2 (count_ones r.mask) (and_left (nat_le 2 (count_ones r.mask)) _ q);
        counted = and_right (nat_le 2 (count_ones r.mask)) _ q;
      } in
      ((λ o. found.0 (on-or-l u r.mask 0 o)), (each first found.1.0, (above l found.1.1.0, found.1.1)))
    where
      each : Found r → ((q : Record) → Mem q rs → Found q) → (q : Record) → Mem q (r ∷ rs) → Found q
      each x g q (inl d) = rw d x
      each x g q (inr h) = g q h

      above : m < r.mask → ((y : ℕ) → Mem y (masks_of rs) → r.mask < y) → (y : ℕ) → Mem y (r.mask ∷ masks_of rs) → m < y
      above l g y (inl d) = rw d l
      above l g y (inr h) = omega (arith, g y h)

module _ (n t : ℕ) where
  rising-found : (rs : List Record) (u m : ℕ) → every (proper_record n t) rs ≡ true → Rising (m ∷ masks_of rs) → (On u 0 → ⊥) → rising_from t u m rs ≡ true
  unfolding rising_from next_record counted_record every masks_of proper_record
  rising-found [] u m e h f = rw (off-has u 0 f)
  rising-found (r ∷ rs) u m e h f =
      let q = and_left (proper_record n t r) _ e in
      let p = and_left (proper n r.mask) _ q in
      and-true
      (and-true (lt-ltb m r.mask (h.0 r.mask (inl refl))) (and-true (le-leb 2 (count_ones r.mask) (proper-two n r.mask p)) (and_right (proper n r.mask) _ q)))
      (rising-found rs (bit_or u r.mask) r.mask (and_right (proper_record n t r) _ e) h.1 (λ o. proper-even n r.mask p (or-on u r.mask 0 o f)))

  -- no proper mask is 0
  some-taxa : (rs : List Record) → every (proper_record n t) rs ≡ true → (y : ℕ) → Mem y (masks_of rs) → 0 < y
  unfolding every masks_of proper_record
  some-taxa [] e y x'' = elim x'' [ ]
  some-taxa (r ∷ rs) e y (inl d) = rw d (proper-some n r.mask (and_left (proper n r.mask) _ (and_left (proper_record n t r) _ e)))
  some-taxa (r ∷ rs) e y (inr h) = some-taxa rs (and_right (proper_record n t r) _ e) y h

-- where the last mask is proper
well-formed : (n : ℕ) (rs : List Record) (k : ℕ) → length (masks_of rs) ≡ suc k → proper n (slice_index (masks_of rs) k) ≡ true → well_formed n rs ≡ rising_from (trees_of rs) 0 0 rs
unfolding well_formed
well-formed n rs k many last = same_bool _ _ to from
  where
    to : (every (proper_record n (trees_of rs)) rs && rising (masks_of rs)) ≡ true → rising_from (trees_of rs) 0 0 rs ≡ true
    to e =
        let p = and_left (every (proper_record n (trees_of rs)) rs) _ e in
        rising-found n (trees_of rs) rs 0 0 p (some-taxa n (trees_of rs) rs p, rising-true (masks_of rs) (and_right (every (proper_record n (trees_of rs)) rs) _ e)) (off_zero 0)

    from : rising_from (trees_of rs) 0 0 rs ≡ true → (every (proper_record n (trees_of rs)) rs && rising (masks_of rs)) ≡ true
    from e =
        let found = found-rising (trees_of rs) rs 0 0 e in
        let rises = found.1.1.1 in
        and-true (every-intro (proper_record n (trees_of rs)) rs (λ r h. each r (found.1.0 r h) (last-highest (masks_of rs) k many rises r.mask (mem-masks rs r h)))) (true-rising (masks_of rs) rises)
      where
        each : (r : Record) → Found (trees_of rs) r → r.mask ≤ slice_index (masks_of rs) k → proper_record n (trees_of rs) r ≡ true
        each r x l = proper-found n (trees_of rs) r (proper-lower n _ r.mask last l x.even x.two-taxa) x.counted

module _ (n k : ℕ) (f : List ℕ) where
  abbrev rs : List Record
  rs = records_in k f

  pub formed-none : k ≡ 0 → well_formed n rs ≡ true
  unfolding well_formed records_in every rising masks_of
  formed-none z = rw z

  -- m is the last mask
  module _ (z : k ≡ 0 → ⊥) (m : ℕ) (d : m ≡ mask_in f (k - 1)) where
    pub formed-last : proper n m ≡ false → well_formed n rs ≡ false
    unfolding well_formed proper_record
    formed-last e = go (well_formed n rs) refl
      where
        go : (b : Bool) → well_formed n rs ≡ b → well_formed n rs ≡ false
        go false q = q
        go true q =
            let r = record_in f (k - 1) in
            let p = proper_record n (trees_of rs) in
            let l = mem-stands rs (k - 1) r (omega (arith, records-length k f, z)) in
            let g : p r ≡ true = rw (record-at k f (k - 1) r (omega (arith, z))) at (every-at p rs (and_left (every p rs) _ q) (slice_index_or rs (k - 1) r) l) in
            absurd (true≢false (sym (and_left (proper n r.mask) _ g) ∙ ap (proper n) (sym d) ∙ e))

    pub formed-rising : proper n m ≡ true → (t : ℕ) → t ≡ trees_in f 0 → well_formed n rs ≡ rising_from t 0 0 rs
    formed-rising e t q =
        let last : proper n (slice_index (masks_of rs) (k - 1)) ≡ true = rw (mask_at k f (k - 1) (omega (arith, z)), ← d) e in
        rw (q, ← trees-first k f z) (well-formed n rs (k - 1) (omega (arith, masks-length k f, z)) last)

-- ---- what is found

module _ (n : ℕ) (f : List ℕ) where
  pub form-bad-length : (length f % record_bytes ≢ 0) → FormAs (records_from n f) (Err why.BadLength)
  unfolding records_from number_given length_given refusal_number
  form-bad-length z = rw (ne_eqb (length f % record_bytes) 0 z)

  module _ (k : ℕ) (z : length f % record_bytes ≡ 0) (q : k ≡ length f / record_bytes) where
    pub form-bad-record : well_formed n (records_in k f) ≡ false → FormAs (records_from n f) (Err why.BadRecord)
    unfolding records_from number_given length_given refusal_number
    form-bad-record w = rw (eq-eqb (length f % record_bytes) 0 z, ← q, w)

    pub form-good : well_formed n (records_in k f) ≡ true → FormAs (records_from n f) (Ok k)
    unfolding records_from number_given length_given
    form-good w = rw (eq-eqb (length f % record_bytes) 0 z, ← q, w, records-length k f)

-- ---- what a caller makes of it

refused-length : {A : Type 0} (x : Answer (List A)) (k : ℕ) → refused k ≡ length_given x → x ≡ refused k
unfolding length_given
refused-length (refused j) k e = ap (λ (i : ℕ). refused i) (cc)
refused-length (gives xs) k e = absurd (gives≢refused (length xs) k (sym e))

module _ (n : ℕ) (f : List ℕ) where
  abbrev found : List Record
  found = records_in (length f / record_bytes) f

  -- the records, where they are given
  found-good : (k : ℕ) → FormAs (records_from n f) (Ok k)
      → (records_from n f ≡ gives (records_in k f)) × (record_bytes * k ≡ length f) × (well_formed n (records_in k f) ≡ true)
  unfolding records_from number_given length_given
  found-good k e = go (length f % record_bytes == 0) (well_formed n found) refl refl e
    where
      go : (b w : Bool) → (length f % record_bytes == 0) ≡ b → well_formed n found ≡ w → gives k ≡ length_given (if b then (if w then gives found else refused 20) else refused 19)
          → ((if b then (if w then gives found else refused 20) else refused 19) ≡ gives (records_in k f)) × (record_bytes * k ≡ length f) × (well_formed n (records_in k f) ≡ true)
      go true true z w d =
          let q : k ≡ length found = cc in
          let l = records-length (length f / record_bytes) f in
          let j : length f / record_bytes ≡ k = omega arith in
          (ap (λ (i : ℕ). gives (records_in i f)) j, omega (arith, eqb-true (length f % record_bytes) 0 z), rw j at w)
      go true false z w d = absurd (gives≢refused k 20 d)
      go false true z w d = absurd (gives≢refused k 19 d)
      go false false z w d = absurd (gives≢refused k 19 d)

module _ (n : ℕ) (f : List ℕ) (r : Result ℕ Refusal) (q : FormAs (records_from n f) r) (k : ℕ) (d : r ≡ Ok k) where
  pub good_length : record_bytes * k ≡ length f
  good_length = (found-good n f k (rw d at q)).1

  pub good-formed : well_formed n (records_in k f) ≡ true
  good-formed = (found-good n f k (rw d at q)).2

module _ {A : Type 0} (s f : List ℕ) (make : List Record → Answer A) (n : ℕ) (e : n ≡ (numbers_at s).taxa) (r : Result ℕ Refusal) (q : FormAs (records_from n f) r) where
  abbrev taxa : ℕ
  taxa = (held_at s).opening.numbers.taxa

  held-taxa : (x : Answer (List Record)) → records_from n f ≡ x → records_from taxa f ≡ x
  unfolding held_in opening_at
  held-taxa x p = ap (λ (m : ℕ). records_from m f) (sym e) ∙ p

  pub if-refused : (w : Refusal) → r ≡ Err w → if_records (held_at s) f make ≡ refusing w
  unfolding if_records number_given
  if-refused w d = rw (held-taxa (refusing w) (refused-length (records_from n f) (refusal_number w) (sym (ap number_given d) ∙ q)), if_records)

  pub if-good : (k : ℕ) → r ≡ Ok k → if_records (held_at s) f make ≡ make (records_in k f)
  unfolding if_records
  if-good k d = rw (held-taxa (gives (records_in k f)) (found-good n f k (rw d at q)).0, if_records)
