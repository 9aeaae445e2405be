-- Laws of split files: records in bytes, what a file is that is well formed, and the records of a list of masks.
--
--   low-length, low-number       a number in k bytes: how many bytes, and the number back
--   bytes-length                 16 bytes for each record
--   InBytes r                    the numbers of the record r fit into their bytes
--   records-back                 records that fit are read as they were written
--   mem-some                     a list that has a member is not empty
--   masks-mem, mem-masks         the masks of records are those that a record has
--   count-there, count-absent    the count of a record's mask, and of a mask that no record has
--   Formed n rs                  what it says of records that they are well formed, as facts
--   formed, formed-true          the test and the facts
--   fits_below, below-fits       no count passes 32 bits exactly when the number of trees does not
--   formed-bytes                 so such records fit into their bytes
--   entry c t m, listed c t l    the record of the mask m, and those of the masks l, with the counts that c gives, of t trees
--   listed-mem, listed-masks, listed-trees, listed-count, listed_same     what stands in them
--   listed-formed                they are well formed where the masks are proper and rise and the counts are from 1 to t
use Rattle.std.specs.Prelude.{ℕ, zero, suc, ◌-◌, ◌*◌, ◌/◌, ◌%◌, ◌^◌, ◌≤◌, ◌<◌, ◌≡◌, ◌⊎◌, ◌&&◌, leb, length, if◌then◌else◌}
use Rattle.std.proofs.Common.{zero-lt-suc, pow-suc, div-lt_iff_lt-mul, arith, ap₂, sym, ◌∙◌, subst, inl, inr, length-append}
use Rattle.std.proofs.Math.Nat.{pow-le-pow_right}
use Rattle.std.proofs.Math.Path.{refl, ap}
use Rattle.std.proofs.Math.Bool.{true}
use mathlib.Core.List.{List, [], ◌∷◌, ◌++◌, map}
use Rattle.std.proofs.Math.Dec.{ltb, eqb}
use borrow.Author.Tests.{leb-true, le-leb, ltb-true, lt-ltb, eqb-true, eq-eqb, ne_eqb}
use Rattle.trees.specs.Plain.{every}
use Rattle.trees.specs.Mask.{ones_below, proper}
use Rattle.trees.specs.SplitFile.{low_first, number_of, Record, record_bytes, bytes_of, records_in, trees_of, masks_of, proper_record, well_formed, count_for, fits}
use Rattle.trees.specs.Whole.{rising}
use Rattle.theorems.specs.ListLaws.{equal_or_not, if-true, if-false, and_left, and_right, and-true, Mem, every-at, every-intro}
use Rattle.theorems.specs.RisingLaws.{Rising, rising-true, true-rising}

-- ---- bytes

pub low-length : (k x : ℕ) → length (low_first k x) ≡ k
unfolding low_first
low-length zero x = refl
low-length (suc k) x = ap suc (low-length k (x / 256))

-- "little-endian"
pub low-number : (k x : ℕ) → x < 256 ^ k → number_of (low_first k x) ≡ x
unfolding low_first number_of
low-number zero x h = omega arith
low-number (suc k) x h =
    let q : x / 256 < 256 ^ k = (div-lt_iff_lt-mul (zero-lt-suc 255)).1 (rw pow-suc at h) in
    omega (arith, low-number k (x / 256) q)

-- "files of 16-byte records"
pub bytes-length : (rs : List Record) → length (bytes_of rs) ≡ record_bytes * length rs
unfolding bytes_of
bytes-length [] = refl
bytes-length (r ∷ rs) =
    omega (
      arith,
      bytes-length rs,
      length-append (low_first 8 r.mask) (low_first 4 r.count ++ (low_first 4 r.trees ++ bytes_of rs)),
      length-append (low_first 4 r.count) (low_first 4 r.trees ++ bytes_of rs),
      length-append (low_first 4 r.trees) (bytes_of rs),
      low-length 8 r.mask,
      low-length 4 r.count,
      low-length 4 r.trees,
    )

-- "mask (8, little-endian), count (4), trees (4, the same in all)"
pub record InBytes (r : Record) : Type 0 where
  pub mask_below : r.mask < 2 ^ 64
  pub count-below : r.count < 2 ^ 32
  pub trees-below : r.trees < 2 ^ 32

record-back : (r : Record) → InBytes r → record { mask = number_of (low_first 8 r.mask); count = number_of (low_first 4 r.count); trees = number_of (low_first 4 r.trees) } ≡ r
record-back r h =
    rw (low-number 8 r.mask h.mask_below, low-number 4 r.count h.count-below, low-number 4 r.trees h.trees-below) refl

-- "Reading what was written gives the same list", of records
pub records-back : (rs : List Record) → ((r : Record) → Mem r rs → InBytes r) → records_in (length rs) (bytes_of rs) ≡ rs
unfolding records_in bytes_of low_first
records-back [] f = refl
records-back (r ∷ rs) f = ap₂ (λ x l. x ∷ l) (record-back r (f r (inl refl))) (records-back rs (λ x h. f x (inr h)))

-- ---- records

pub mem-some : {A : Type 0} (x : A) (l : List A) → Mem x l → 0 < length l
mem-some {A = A} x [] h = elim h [ ]
mem-some x (y ∷ l) h = omega arith

pub masks-mem : (rs : List Record) (m : ℕ) → Mem m (masks_of rs) → (r : Record) × Mem r rs × (r.mask ≡ m)
unfolding masks_of
masks-mem [] m x' = elim x' [ ]
masks-mem (r ∷ rs) m (inl e) = (r, inl refl, sym e)
masks-mem (r ∷ rs) m (inr h) = let x = masks-mem rs m h in (x.0, inr x.1, x.2)

pub mem-masks : (rs : List Record) (r : Record) → Mem r rs → Mem r.mask (masks_of rs)
unfolding masks_of
mem-masks [] r x' = elim x' [ ]
mem-masks (x ∷ rs) r (inl e) = inl (ap (λ (y : Record). y.mask) e)
mem-masks (x ∷ rs) r (inr h) = inr (mem-masks rs r h)

pub count-absent : (rs : List Record) (m : ℕ) → (Mem m (masks_of rs) → ⊥) → count_for m rs ≡ 0
unfolding count_for masks_of
count-absent [] m f = refl
count-absent (r ∷ rs) m f = if-false r.count (count_for m rs) (ne_eqb m r.mask (λ e. f (inl e))) ∙ count-absent rs m (λ h. f (inr h))

pub count-there : (rs : List Record) (r : Record) → Rising (masks_of rs) → Mem r rs → count_for r.mask rs ≡ r.count
unfolding count_for masks_of
count-there [] r h x'' = elim x'' [ ]
count-there (x ∷ rs) r h (inl e) =
    if-true x.count (count_for r.mask rs) (eq-eqb r.mask x.mask (ap (λ (y : Record). y.mask) e)) ∙ sym (ap (λ (y : Record). y.count) e)
count-there (x ∷ rs) r h (inr k) =
    let l : x.mask < r.mask = h.0 r.mask (mem-masks rs r k) in
    if-false x.count (count_for r.mask rs) (ne_eqb r.mask x.mask (λ e. omega arith)) ∙ count-there rs r h.1 k

-- ---- records that are well formed

-- "Masks rise, counts are from 1 to the trees", the trees "the same in all"
pub record Formed (n : ℕ) (rs : List Record) : Type 0 where
  pub masks-proper : (r : Record) → Mem r rs → proper n r.mask ≡ true
  pub least-count : (r : Record) → Mem r rs → 1 ≤ r.count
  pub most-count : (r : Record) → Mem r rs → r.count ≤ r.trees
  pub same-trees : (r : Record) → Mem r rs → r.trees ≡ trees_of rs
  pub masks-rise : Rising (masks_of rs)

module _ (n : ℕ) (rs : List Record) where
  pub formed : well_formed n rs ≡ true → Formed n rs
  unfolding well_formed proper_record
  formed e = record {
    masks-proper = λ r h. and_left (proper n r.mask) _ (one r h);
    least-count = λ r h. leb-true 1 r.count (and_left (leb 1 r.count) _ (counts r h));
    most-count = λ r h. leb-true r.count r.trees (and_left (leb r.count r.trees) _ (and_right (leb 1 r.count) _ (counts r h)));
    same-trees = λ r h. eqb-true r.trees (trees_of rs) (and_right (leb r.count r.trees) _ (and_right (leb 1 r.count) _ (counts r h)));
    masks-rise = rising-true (masks_of rs) (and_right (every (proper_record n (trees_of rs)) rs) _ e);
  }
    where
      one : (r : Record) → Mem r rs → proper_record n (trees_of rs) r ≡ true
      one = every-at (proper_record n (trees_of rs)) rs (and_left (every (proper_record n (trees_of rs)) rs) (rising (masks_of rs)) e)

      counts : (r : Record) → Mem r rs → (leb 1 r.count && (leb r.count r.trees && eqb r.trees (trees_of rs))) ≡ true
      counts r h = and_right (proper n r.mask) _ (one r h)

  pub formed-true : Formed n rs → well_formed n rs ≡ true
  unfolding well_formed proper_record
  formed-true f =
      and-true
      (every-intro (proper_record n (trees_of rs)) rs
      (λ r h. and-true (f.masks-proper r h) (and-true (le-leb _ _ (f.least-count r h)) (and-true (le-leb _ _ (f.most-count r h)) (eq-eqb _ _ (f.same-trees r h))))))
      (true-rising (masks_of rs) f.masks-rise)

  -- "a sum past 32 bits": a count is no more than the trees
  pub below-fits : Formed n rs → trees_of rs < 2 ^ 32 → fits rs ≡ true
  unfolding fits
  below-fits f l =
      every-intro (λ r. ltb r.count (2 ^ 32) && ltb r.trees (2 ^ 32)) rs
      (λ r h. and-true (lt-ltb r.count (2 ^ 32) (omega (arith, f.most-count r h, f.same-trees r h))) (lt-ltb r.trees (2 ^ 32) (omega (arith, f.same-trees r h))))

pub fits_below : (rs : List Record) → fits rs ≡ true → trees_of rs < 2 ^ 32
unfolding fits every trees_of
fits_below [] e = omega arith
fits_below (r ∷ rs) e = ltb-true r.trees (2 ^ 32) (and_right (ltb r.count (2 ^ 32)) _ (and_left (ltb r.count (2 ^ 32) && ltb r.trees (2 ^ 32)) _ e))

pub proper-below : (n m : ℕ) → n ≤ 64 → proper n m ≡ true → m < 2 ^ 64
unfolding proper
proper-below n m h e =
    let b = ltb-true m (2 ^ n) (and_right (leb (ones_below n m) (n - 2)) _ (and_right (leb 2 (ones_below n m)) _ (and_right (eqb (m % 2) 0) _ e))) in
    omega (arith, pow-le-pow_right (zero-lt-suc 1) h)

pub formed-bytes : (n : ℕ) (rs : List Record) → n ≤ 64 → Formed n rs → trees_of rs < 2 ^ 32 → (r : Record) → Mem r rs → InBytes r
formed-bytes n rs h f l r k = record {
  mask_below = proper-below n r.mask h (f.masks-proper r k);
  count-below = omega (arith, f.most-count r k, f.same-trees r k);
  trees-below = omega (arith, f.same-trees r k);
}

-- ---- the records of a list of masks

abbrev pub entry : (ℕ → ℕ) → ℕ → ℕ → Record
entry c t m = record { mask = m; count = c m; trees = t }

abbrev pub listed : (ℕ → ℕ) → ℕ → List ℕ → List Record
listed c t l = map (entry c t) l

module _ (c : ℕ → ℕ) (t : ℕ) where
  pub listed-mem : (l : List ℕ) (r : Record) → Mem r (listed c t l) → Mem r.mask l × (r.count ≡ c r.mask) × (r.trees ≡ t)
  listed-mem [] r x' = elim x' [ ]
  listed-mem (m ∷ l) r (inl e) =
      (inl (ap (λ (x : Record). x.mask) e), ap (λ (x : Record). x.count) e ∙ ap c (sym (ap (λ (x : Record). x.mask) e)), ap (λ (x : Record). x.trees) e)
  listed-mem (m ∷ l) r (inr h) = let x = listed-mem l r h in (inr x.0, x.1, x.2)

  pub listed-masks : (l : List ℕ) → masks_of (listed c t l) ≡ l
  unfolding masks_of
  listed-masks [] = refl
  listed-masks (m ∷ l) = ap (λ (k : List ℕ). m ∷ k) (listed-masks l)

  pub listed-trees : (l : List ℕ) → 0 < length l → trees_of (listed c t l) ≡ t
  unfolding trees_of
  listed-trees [] h = absurd (omega arith)
  listed-trees (m ∷ l) h = refl

  pub listed-count : (l : List ℕ) (m : ℕ) → Mem m l → count_for m (listed c t l) ≡ c m
  unfolding count_for
  listed-count [] m h = elim h [ ]
  listed-count (x ∷ l) m h = go (equal_or_not m x) h (λ k. listed-count l m k)
    where
      go : (m ≡ x) ⊎ (m ≡ x → ⊥) → (m ≡ x) ⊎ Mem m l → (Mem m l → count_for m (listed c t l) ≡ c m) → (if eqb m x then c x else count_for m (listed c t l)) ≡ c m
      go (inl e) k q = if-true (c x) _ (eq-eqb m x e) ∙ ap c (sym e)
      go (inr f) (inl e) q = absurd (f e)
      go (inr f) (inr k) q = if-false (c x) _ (ne_eqb m x f) ∙ q k

  pub listed_same : (d : ℕ → ℕ) (l : List ℕ) → ((m : ℕ) → Mem m l → c m ≡ d m) → listed c t l ≡ listed d t l
  listed_same d [] h = refl
  listed_same d (m ∷ l) h = ap₂ (λ (k : ℕ) (rs : List Record). record { mask = m; count = k; trees = t } ∷ rs) (h m (inl refl)) (listed_same d l (λ k q. h k (inr q)))

  pub listed-formed : (n : ℕ) (l : List ℕ) → ((m : ℕ) → Mem m l → proper n m ≡ true) → Rising l → ((m : ℕ) → Mem m l → (1 ≤ c m) × (c m ≤ t)) → Formed n (listed c t l)
  listed-formed n l p s b = record {
    masks-proper = λ r h. p r.mask (listed-mem l r h).0;
    least-count = λ r h. let x = listed-mem l r h in omega (arith, x.1, (b r.mask x.0).0);
    most-count = λ r h. let x = listed-mem l r h in omega (arith, x.1, x.2, (b r.mask x.0).1);
    same-trees = λ r h. let x = listed-mem l r h in x.2 ∙ sym (listed-trees l (mem-some r.mask l x.0));
    masks-rise = subst Rising (sym (listed-masks l)) s;
  }
