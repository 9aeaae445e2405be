-- The file of a collection's splits: it is well formed, and reads as what it was written from.
--
--   has-count, none-count        a tree that has a split counts; of trees that have it not, none does
--   splits-listed                the records of trees are those of their recorded splits
--   known_trees ts                how many trees their file says that there are: 0 where there are no splits
--   splits-masks, splits-counts, splits-trees, splits-count     what stands in the records of trees
--   splits-formed, written-well-formed     of good trees they are well formed
--   written-fits                 and no count passes 32 bits
--   records-read                 records that are well formed are read from their bytes
--   file-reads-back              so what was written is read as the same list
--   read-formed                  and what is read is well formed
--   ReadsAs h f rs               over the taxa of the collection h, the file f reads as the records rs
--   made_of, made_none           what a call makes of a file's records, or its refusal
--   file-room, file-no-room      the call that writes the file, where there is room for it and where there is none
--   file-is                      what it gives is the bytes of the records
--   file-records, file-trees     of a whole collection it reads as these records, of few trees
--   with_trees t                  a split list, with a number of trees
--   reading-back                 it reads as the split list, with the number of trees
use Prim.Native.Nat.{ℕ, suc, ◌*◌, ◌/◌, ◌%◌, ◌^◌, ◌≤◌, ◌<◌}
use Rattle.std.proofs.Math.Nat.{mul-mod_right, mul-div_cancel_left}
use Rattle.std.proofs.Common.{zero-lt-suc, arith, ◌∙◌, subst, inl, inr, le-ltb, lt-ltb, eq-eqb, ne_eqb}
use Rattle.std.proofs.Math.Path.{◌≡◌, refl, ap, ap₂, sym}
use Rattle.std.proofs.Math.Bool.{Bool, true, false}
use Rattle.std.specs.Prelude.{◌||◌, if◌then◌else◌}
use mathlib.Core.List.{List, [], ◌∷◌, map}
use Rattle.std.proofs.Math.Dec.{ltb, eqb}
use Rattle.std.proofs.Math.ListN.{length, length-map}
use Rattle.trees.specs.Plain.{member, Answer, refused, gives}
use Rattle.trees.specs.Mask.{proper}
use Rattle.trees.specs.Consensus.{recorded, count}
use Rattle.trees.specs.Held.{Held}
use Rattle.trees.specs.Questions.{if_room, split_list}
use Rattle.trees.specs.SplitFile.{Record, record_bytes, bytes_of, records_in, trees_of, masks_of, well_formed, splits_of, count_for, fits}
use Rattle.trees.specs.SplitFileCall.{records_from, if_records, file_of, Splits, reading_of}
use Rattle.theorems.specs.ListLaws.{by-test, if-true, if-false, Mem, member-mem, mem-member, not-member, member-not, every-at}
use Rattle.theorems.specs.RisingLaws.{recorded-rising, recorded-mem, mem-recorded}
use Rattle.theorems.specs.ConsensusLaws.{AllGood, good-proper, count-nil, count_most, count-step, count-has, count-lacks}
use Rattle.theorems.specs.OpeningLaws.{good-opening}
use Rattle.theorems.specs.WholeHeld.{whole}
use Rattle.theorems.specs.HeldLaws.{whole-facts}
use Rattle.theorems.specs.SplitFileLaws.{bytes-length, records-back, Formed, formed, formed-true, below-fits, formed-bytes, count-absent, listed, listed-masks, listed-trees, listed-count, listed-formed}

-- ---- counts

pub has-count : (ts : List (List ℕ)) (t : List ℕ) (m : ℕ) → Mem t ts → Mem m t → 1 ≤ count ts m
has-count [] t m x'' h = elim x'' [ ]
has-count (u ∷ ts) t m (inl e) h = omega (arith, count-has u ts m (mem-member m u (subst (Mem m) e h)))
has-count (u ∷ ts) t m (inr k) h =
    let q = has-count ts t m k h in
    subst (λ (x : ℕ). 1 ≤ x) (sym (count-step u ts m)) (by-test (λ (x : ℕ). 1 ≤ x) (member m u) (λ e. omega arith) (λ e. q))

pub none-count : (ts : List (List ℕ)) (m : ℕ) → ((t : List ℕ) → Mem t ts → Mem m t → ⊥) → count ts m ≡ 0
none-count [] m f = count-nil m
none-count (t ∷ ts) m f = count-lacks t ts m (member-not m t (f t (inl refl))) ∙ none-count ts m (λ u h. f u (inr h))

-- ---- the records of trees

-- "An empty file has no known number of trees"
abbrev pub known_trees : List (List ℕ) → ℕ
known_trees ts = if eqb (length (recorded ts)) 0 then 0 else length ts

module _ (ts : List (List ℕ)) where
  pub splits-listed : splits_of ts ≡ listed (count ts) (length ts) (recorded ts)
  unfolding splits_of
  splits-listed = refl

  pub splits-masks : masks_of (splits_of ts) ≡ recorded ts
  unfolding splits_of
  splits-masks = listed-masks (count ts) (length ts) (recorded ts)

  pub splits-counts : map (λ (r : Record). r.count) (splits_of ts) ≡ map (count ts) (recorded ts)
  unfolding splits_of
  splits-counts = go (recorded ts)
    where
      go : (l : List ℕ) → map (λ (r : Record). r.count) (listed (count ts) (length ts) l) ≡ map (count ts) l
      go [] = refl
      go (m ∷ l) = ap (λ (k : List ℕ). count ts m ∷ k) (go l)

  pub splits-length : length (splits_of ts) ≡ length (recorded ts)
  unfolding splits_of
  splits-length = length-map (recorded ts) _

  pub splits-known : 0 < length (recorded ts) → trees_of (splits_of ts) ≡ length ts
  unfolding splits_of
  splits-known h = listed-trees (count ts) (length ts) (recorded ts) h

  pub splits-trees : trees_of (splits_of ts) ≡ known_trees ts
  unfolding splits_of trees_of
  splits-trees = go (recorded ts)
    where
      go : (l : List ℕ) → trees_of (listed (count ts) (length ts) l) ≡ (if eqb (length l) 0 then 0 else length ts)
      go [] = refl
      go (m ∷ l) = sym (if-false 0 (length ts) (ne_eqb (suc (length l)) 0 (λ e. omega arith)))

  pub splits-count : (m : ℕ) → count_for m (splits_of ts) ≡ count ts m
  unfolding splits_of
  splits-count m = go (member m (recorded ts)) refl
    where
      go : (b : Bool) → member m (recorded ts) ≡ b → count_for m (listed (count ts) (length ts) (recorded ts)) ≡ count ts m
      go true e = listed-count (count ts) (length ts) (recorded ts) m (member-mem m (recorded ts) e)
      go false e =
          count-absent (listed (count ts) (length ts) (recorded ts)) m (λ h. not-member m (recorded ts) e (subst (Mem m) (listed-masks (count ts) (length ts) (recorded ts)) h))
          ∙ sym (none-count ts m (λ t h k. not-member m (recorded ts) e (mem-recorded ts t m h k)))

  pub splits-formed : (n : ℕ) → AllGood n ts → Formed n (splits_of ts)
  unfolding splits_of
  splits-formed n g =
      listed-formed (count ts) (length ts) n (recorded ts)
      (λ m h. let r = recorded-mem ts m h in every-at (proper n) r.0 (good-proper n r.0 (g r.0 r.1)) m r.2) (recorded-rising ts)
      (λ m h. let r = recorded-mem ts m h in (has-count ts r.0 m r.1 r.2, count_most ts m))

  -- "Masks rise, counts are from 1 to the trees"
  pub written-well-formed : (n : ℕ) → AllGood n ts → well_formed n (splits_of ts) ≡ true
  written-well-formed n g = formed-true n (splits_of ts) (splits-formed n g)

  trees-most : trees_of (splits_of ts) ≤ length ts
  trees-most = subst (λ (x : ℕ). x ≤ length ts) (sym splits-trees) (by-test (λ (x : ℕ). x ≤ length ts) (eqb (length (recorded ts)) 0) (λ e. omega arith) (λ e. omega arith))

  pub written-fits : (n : ℕ) → AllGood n ts → length ts ≤ 1024 → fits (splits_of ts) ≡ true
  written-fits n g h = below-fits n (splits_of ts) (splits-formed n g) (omega (arith, trees-most))

-- ---- reading

pub records-read : (n : ℕ) (rs : List Record) → n ≤ 64 → Formed n rs → trees_of rs < 2 ^ 32 → records_from n (bytes_of rs) ≡ gives rs
unfolding records_from
records-read n rs h f l =
    let k : length (bytes_of rs) ≡ 16 * length rs = bytes-length rs in
    let whole : length (bytes_of rs) % 16 ≡ 0 = ap (λ (x : ℕ). x % 16) k ∙ mul-mod_right 16 (length rs) in
    let many : length (bytes_of rs) / 16 ≡ length rs = ap (λ (x : ℕ). x / 16) k ∙ mul-div_cancel_left (length rs) (zero-lt-suc 15) in
    let back : records_in (length (bytes_of rs) / 16) (bytes_of rs) ≡ rs = ap (λ (x : ℕ). records_in x (bytes_of rs)) many ∙ records-back rs (formed-bytes n rs h f l) in
    if-true _ _ (eq-eqb _ _ whole) ∙ if-true _ _ (ap (well_formed n) back ∙ formed-true n rs f) ∙ ap gives back

-- "Reading what was written gives the same list"
pub file-reads-back : (n : ℕ) (ts : List (List ℕ)) → n ≤ 64 → AllGood n ts → length ts ≤ 1024 → records_from n (bytes_of (splits_of ts)) ≡ gives (splits_of ts)
file-reads-back n ts h g l = records-read n (splits_of ts) h (splits-formed ts n g) (omega (arith, trees-most ts))

pub read-formed : (n : ℕ) (f : List ℕ) (rs : List Record) → records_from n f ≡ gives rs → Formed n rs
unfolding records_from
read-formed n f rs e = go (eqb (length f % record_bytes) 0) (well_formed n (records_in (length f / record_bytes) f)) refl e
  where
    go : (x y : Bool) → well_formed n (records_in (length f / record_bytes) f) ≡ y
        → (if x then if y then gives (records_in (length f / record_bytes) f) else refused 20 else refused 19) ≡ gives rs → Formed n rs
    go true true p q = let same : records_in (length f / record_bytes) f ≡ rs = cc in formed n rs (subst (λ (l : List Record). well_formed n l ≡ true) same p)
    go true false p q = let z : ◌≡◌ {A = ℕ} 0 1 = cc in absurd (omega arith)
    go false y p q = let z : ◌≡◌ {A = ℕ} 0 1 = cc in absurd (omega arith)

-- ---- the calls

abbrev pub ReadsAs : Held → List ℕ → List Record → Type 0
ReadsAs h f rs = records_from h.opening.numbers.taxa f ≡ gives rs

module _ {A : Type 0} (h : Held) (f : List ℕ) (make : List Record → Answer A) where
  -- what is made of an answer's records
  making : Answer (List Record) → Answer A
  unfolding if_records
  making x = elim x as (λ _. Answer A) [ refused k ↦ refused k | gives rs ↦ make rs ]

  pub made_of : (rs : List Record) → ReadsAs h f rs → if_records h f make ≡ make rs
  unfolding if_records making
  made_of rs e = ap making e

  pub made_none : (k : ℕ) → records_from h.opening.numbers.taxa f ≡ refused k → if_records h f make ≡ refused k
  unfolding if_records making
  made_none k e = ap making e

-- what is read of records, from the tests of the two buffers
abbrev read_by : Bool → ℕ → List ℕ → List ℕ → Answer Splits
read_by true t ms cs = refused 4
read_by false t ms cs = gives (record { trees = t; masks = ms; counts = cs })

-- a split list, with a number of trees
abbrev pub with_trees : ℕ → Answer (List ℕ × List ℕ) → Answer Splits
with_trees t (refused k) = refused k
with_trees t (gives x) = gives (record { trees = t; masks = x.0; counts = x.1 })

module _ (h : Held) where
  abbrev taxa : ℕ
  taxa = h.opening.numbers.taxa

  abbrev file : List ℕ
  file = bytes_of (splits_of h.trees)

  pub file-room : (room : ℕ) → record_bytes * length (recorded h.trees) ≤ room → file_of h room ≡ gives file
  unfolding file_of if_room
  file-room room l = if-false _ _ (le-ltb room (length file) (omega (arith, bytes-length (splits_of h.trees), splits-length h.trees)))

  pub file-no-room : (room : ℕ) → room < record_bytes * length (recorded h.trees) → file_of h room ≡ refused 4
  unfolding file_of if_room
  file-no-room room l = if-true _ _ (lt-ltb room (length file) (omega (arith, bytes-length (splits_of h.trees), splits-length h.trees)))

  pub file-is : (room : ℕ) (f : List ℕ) → file_of h room ≡ gives f → f ≡ file
  unfolding file_of if_room
  file-is room f e = go (ltb room (length file)) e
    where
      go : (b : Bool) → ◌≡◌ {A = Answer (List ℕ)} (if b then refused 4 else gives file) (gives f) → f ≡ file
      go true q = cc
      go false q = cc

  module _ (w : whole h ≡ true) where
    few-trees : length h.trees ≤ 1024
    few-trees = let k = whole-facts h w in omega (arith, k.trees-fit, (good-opening h.opening k.opening-good).ranges.most-trees)

    pub file-trees : trees_of (splits_of h.trees) ≤ 1024
    file-trees = omega (arith, trees-most h.trees, few-trees)

    pub file-records : ReadsAs h file (splits_of h.trees)
    file-records =
        let k = whole-facts h w in
        let r = (good-opening h.opening k.opening-good).ranges in
        file-reads-back taxa h.trees r.most-taxa (λ t m. every-at _ h.trees k.trees-good t m) few-trees

    -- "Reading what was written gives the same list"; of an empty file "no known number of trees"
    pub reading-back : (room : ℕ) (f : List ℕ) → file_of h room ≡ gives f → (a b : ℕ) → reading_of h f a b ≡ with_trees (known_trees h.trees) (split_list h a b)
    unfolding reading_of split_list
    reading-back room f e a b =
        let ts = h.trees in
        let rs = splits_of ts in
        let short : ℕ → Bool = λ n. ltb a n || ltb b n in
        let counts : List ℕ = map (λ (r : Record). r.count) rs in
        ap (λ (x : List ℕ). reading_of h x a b) (file-is room f e) ∙ made_of h file _ rs file-records ∙ read-by (short (length rs)) (trees_of rs) (masks_of rs) counts
        ∙ ap₂ (λ (n t : ℕ). read_by (short n) t (masks_of rs) counts) (splits-length ts) (splits-trees ts)
        ∙ ap₂ (read_by (short (length (recorded ts))) (known_trees ts)) (splits-masks ts) (splits-counts ts)
        ∙ sym (list-by (short (length (recorded ts))) (known_trees ts) (recorded ts) (map (count ts) (recorded ts)))
      where
        read-by : (x : Bool) (t : ℕ) (ms cs : List ℕ) → (if x then refused 4 else gives (record { trees = t; masks = ms; counts = cs })) ≡ read_by x t ms cs
        read-by true t ms cs = refl
        read-by false t ms cs = refl

        list-by : (x : Bool) (t : ℕ) (ms cs : List ℕ) → with_trees t (if x then refused 4 else gives (ms, cs)) ≡ read_by x t ms cs
        list-by true t ms cs = refl
        list-by false t ms cs = refl
