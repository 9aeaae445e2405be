-- Laws of the call that merges two files.
--
--   merge_by, merge-by            what merging makes of records, from its tests
--   none-empty, some-both        the test for an empty file
--   MergedFile h f g u           the file u is merged of the files f and g
--   merging_of_lem                   what the call makes of two files
--   merging-done, merging-gives  it gives the merged file exactly where both are files, none is empty, no sum passes 32 bits and there is room
--   merging-reads                the merged file reads as the merged records
--   merging-comm                 two files in either order
--   merging-assoc, merging-three     three files either way
--   merging-trees                the files of two collections make the file of both
use Rattle.std.specs.Prelude.{ℕ, ◌+◌, ◌*◌, ◌^◌, ◌≤◌, ◌<◌, Bool, ◌||◌, ltb, eqb, length, if◌then◌else◌}
use native.Mathlib.Omega.{arith}
use Rattle.std.proofs.Math.Path.{◌≡◌, refl, ap, ap₂}
use Rattle.std.proofs.Common.{sym, ◌∙◌, inl, true≢false, le-ltb, ne_eqb}
use Rattle.std.proofs.Math.Bool.{true, false, or_comm}
use mathlib.Core.List.{List, ◌++◌}
use Rattle.std.proofs.lemmas.Bool.{eqb-false}
use Rattle.trees.specs.Plain.{Answer, refused, gives}
use Rattle.trees.specs.Consensus.{recorded}
use Rattle.trees.specs.Held.{Held}
use Rattle.trees.specs.Questions.{if_room}
use Rattle.trees.specs.SplitFile.{Record, record_bytes, bytes_of, trees_of, masks_of, splits_of, merged, fits}
use Rattle.trees.specs.SplitFileCall.{records_from, file_of, merge_records, merging_of}
use Rattle.theorems.specs.RisingLaws.{Rising}
use Rattle.theorems.specs.OpeningLaws.{good-opening}
use Rattle.theorems.specs.WholeHeld.{whole}
use Rattle.theorems.specs.HeldLaws.{whole-facts}
use Rattle.theorems.specs.SplitFileLaws.{bytes-length, fits_below}
use Rattle.theorems.specs.WrittenFileLaws.{splits-length, records-read, read-formed, ReadsAs, made_of, made_none, file-is, file-records, file-trees}
use Rattle.theorems.specs.MergeLaws.{merged_some, merged-trees, merge-comm, merge-assoc, merged-formed, merged-fits, merge-trees}

-- ---- the tests

-- what merging makes of records, from its tests: one is empty; no sum passes 32 bits
abbrev pub merge_by : Bool → Bool → List Record → ℕ → Answer (List ℕ)
merge_by true y rs room = refused 21
merge_by false true rs room = if_room room (bytes_of rs)
merge_by false false rs room = refused 22

abbrev pub one_empty : List Record → List Record → Bool
one_empty a b = eqb (length a) 0 || eqb (length b) 0

module _ (a b : List Record) where
  pub merge-by : (room : ℕ) → merge_records a b room ≡ merge_by (one_empty a b) (fits (merged a b)) (merged a b) room
  unfolding merge_records
  merge-by room = go (one_empty a b) (fits (merged a b))
    where
      go : (x y : Bool) → (if x then refused 21 else if y then if_room room (bytes_of (merged a b)) else refused 22) ≡ merge_by x y (merged a b) room
      go true y = refl
      go false true = refl
      go false false = refl

  pub none-empty : one_empty a b ≡ false → (0 < length a) × (0 < length b)
  none-empty e = go (eqb (length a) 0) (eqb (length b) 0) refl refl e
    where
      go : (x y : Bool) → eqb (length a) 0 ≡ x → eqb (length b) 0 ≡ y → (x || y) ≡ false → (0 < length a) × (0 < length b)
      go true y p q r = absurd (true≢false r)
      go false true p q r = absurd (true≢false r)
      go false false p q r = (omega (arith, eqb-false (length a) 0 p), omega (arith, eqb-false (length b) 0 q))

  pub some-both : 0 < length a → 0 < length b → one_empty a b ≡ false
  some-both p q = ap₂ (λ (x y : Bool). x || y) (ne_eqb (length a) 0 (λ e. omega arith)) (ne_eqb (length b) 0 (λ e. omega arith))

merge-three : (a b c : List Record) → Rising (masks_of c) → 0 < length a → 0 < length b → 0 < length c → (room : ℕ) → merge_records (merged a b) c room ≡ merge_records a (merged b c) room
merge-three a b c r p q s room =
    merge-by (merged a b) c room
    ∙ ap₂ (λ (x : Bool) (rs : List Record). merge_by x (fits rs) rs room)
    (some-both (merged a b) c (merged_some a b (inl p)) s ∙ sym (some-both a (merged b c) p (merged_some b c (inl q))))
    (merge-assoc a b c r)
    ∙ sym (merge-by a (merged b c) room)

-- the file u is merged of the files f and g
pub record MergedFile (h : Held) (f g u : List ℕ) : Type 0 where
  pub first : List Record
  pub second : List Record
  pub first_read : ReadsAs h f first
  pub second-read : ReadsAs h g second
  pub first_some : 0 < length first
  pub second-some : 0 < length second
  pub sums-fit : fits (merged first second) ≡ true
  pub both-written : u ≡ bytes_of (merged first second)

module _ (h : Held) where
  abbrev taxa : ℕ
  taxa = h.opening.numbers.taxa

  pub merging_of_lem : (f g : List ℕ) (a b : List Record) → ReadsAs h f a → ReadsAs h g b → (room : ℕ) → merging_of h f g room ≡ merge_records a b room
  unfolding merging_of
  merging_of_lem f g a b p q room = made_of h f _ a p ∙ made_of h g _ b q

  -- from its tests: one is empty; no sum passes 32 bits; there is no room
  merging-by : (f g : List ℕ) (a b : List Record) → ReadsAs h f a → ReadsAs h g b
      → (room : ℕ) {x y z : Bool} → one_empty a b ≡ x → fits (merged a b) ≡ y → ltb room (length (bytes_of (merged a b))) ≡ z
      → merging_of h f g room ≡ (if x then refused 21 else if y then if z then refused 4 else gives (bytes_of (merged a b)) else refused 22)
  unfolding merge_records if_room
  merging-by f g a b p q room r s t = merging_of_lem f g a b p q room ∙ rw (r, s, t) refl

  pub merging-done : (f g : List ℕ) (a b : List Record) → ReadsAs h f a → ReadsAs h g b → 0 < length a → 0 < length b → trees_of a + trees_of b < 2 ^ 32
      → (room : ℕ) → record_bytes * length (merged a b) ≤ room → merging_of h f g room ≡ gives (bytes_of (merged a b))
  merging-done f g a b p q x y l room k =
      merging-by f g a b p q room (some-both a b x y) (merged-fits taxa a b (read-formed taxa f a p) (read-formed taxa g b q) l)
      (le-ltb room (length (bytes_of (merged a b))) (omega (arith, bytes-length (merged a b))))

  pub merging-gives : (f g u : List ℕ) (room : ℕ) → merging_of h f g room ≡ gives u → MergedFile h f g u
  unfolding merging_of
  merging-gives f g u room e = go (records_from taxa f) (records_from taxa g) refl refl
    where
      not-refused : (k : ℕ) → merging_of h f g room ≡ refused k → ⊥
      not-refused k r = let z : ◌≡◌ {A = ℕ} 0 1 = cc in omega arith

      file : (a b : List Record) → ReadsAs h f a → ReadsAs h g b → (x y z : Bool)
          → one_empty a b ≡ x → fits (merged a b) ≡ y → ltb room (length (bytes_of (merged a b))) ≡ z → MergedFile h f g u
      file a b p q true y z s t r = absurd (not-refused 21 (merging-by f g a b p q room s t r))
      file a b p q false false z s t r = absurd (not-refused 22 (merging-by f g a b p q room s t r))
      file a b p q false true true s t r = absurd (not-refused 4 (merging-by f g a b p q room s t r))
      file a b p q false true false s t r = record {
        first = a;
        second = b;
        first_read = p;
        second-read = q;
        first_some = (none-empty a b s).0;
        second-some = (none-empty a b s).1;
        sums-fit = t;
        both-written = cc (merging-by f g a b p q room s t r);
      }

      go : (x y : Answer (List Record)) → records_from taxa f ≡ x → records_from taxa g ≡ y → MergedFile h f g u
      go (refused k) y p q = absurd (not-refused k (made_none h f _ k p))
      go (gives a) (refused k) p q = absurd (not-refused k (made_of h f _ a p ∙ made_none h g _ k q))
      go (gives a) (gives b) p q = file a b p q (one_empty a b) (fits (merged a b)) (ltb room (length (bytes_of (merged a b)))) refl refl refl

  -- "Two files over the same names are merged": where both are files, in either order
  pub merging-comm : (f g : List ℕ) (a b : List Record) → ReadsAs h f a → ReadsAs h g b → (room : ℕ) → merging_of h f g room ≡ merging_of h g f room
  merging-comm f g a b p q room =
      merging_of_lem f g a b p q room ∙ merge-by a b room
      ∙ ap₂ (λ (x : Bool) (rs : List Record). merge_by x (fits rs) rs room) (or_comm (eqb (length a) 0) (eqb (length b) 0))
      (merge-comm a b (read-formed taxa f a p).masks-rise (read-formed taxa g b q).masks-rise)
      ∙ sym (merging_of_lem g f b a q p room ∙ merge-by b a room)

  module _ (few : taxa ≤ 64) where
    -- "Reading what was written gives the same list": of what was merged, too
    pub merging-reads : (f g u : List ℕ) (m : MergedFile h f g u) → ReadsAs h u (merged m.first m.second)
    merging-reads f g u m =
        ap (records_from taxa) m.both-written
        ∙ records-read taxa (merged m.first m.second) few
        (merged-formed taxa m.first m.second (read-formed taxa f m.first m.first_read) (read-formed taxa g m.second m.second-read))
        (fits_below (merged m.first m.second) m.sums-fit)

    -- the merged file of f and g with k answers as f with that of g and k: the same bytes, or the same refusal
    pub merging-assoc : (f g k u v : List ℕ) (i j room : ℕ) → merging_of h f g i ≡ gives u → merging_of h g k j ≡ gives v → merging_of h u k room ≡ merging_of h f v room
    merging-assoc f g k u v i j room p q =
        let x = merging-gives f g u i p in
        let y = merging-gives g k v j q in
        let same : x.second ≡ y.first = one x.second y.first x.second-read y.first_read in
        merging_of_lem u k (merged x.first x.second) y.second (merging-reads f g u x) y.second-read room
        ∙ merge-three x.first x.second y.second (read-formed taxa k y.second y.second-read).masks-rise x.first_some x.second-some y.second-some room
        ∙ ap (λ (b : List Record). merge_records x.first (merged b y.second) room) same
        ∙ sym (merging_of_lem f v x.first (merged y.first y.second) x.first_read (merging-reads g k v y) room)
      where
        one : (a b : List Record) → ReadsAs h g a → ReadsAs h g b → a ≡ b
        one a b s t = cc

    -- "merged by adding counts and trees": where no sum passes 32 bits and there is room, three files give the same bytes either way
    pub merging-three : (f g k : List ℕ) (a b c : List Record) → ReadsAs h f a → ReadsAs h g b → ReadsAs h k c → 0 < length a → 0 < length b → 0 < length c
        → trees_of a + trees_of b + trees_of c < 2 ^ 32 → (i j room : ℕ) → record_bytes * length (merged a b) ≤ i → record_bytes * length (merged b c) ≤ j
        → record_bytes * length (merged (merged a b) c) ≤ room
        → (u v w : List ℕ) × (merging_of h f g i ≡ gives u) × (merging_of h g k j ≡ gives v) × (merging_of h u k room ≡ gives w) × (merging_of h f v room ≡ gives w)
    merging-three f g k a b c p q r x y z l i j room di dj d =
        let first = merging-done f g a b p q x y (omega arith) i di in
        let second = merging-done g k b c q r y z (omega arith) j dj in
        let read = records-read taxa (merged a b) few (merged-formed taxa a b (read-formed taxa f a p) (read-formed taxa g b q)) (omega (arith, merged-trees a b)) in
        let last = merging-done (bytes_of (merged a b)) k (merged a b) c read r (merged_some a b (inl x)) z (omega (arith, merged-trees a b)) room d in (
          bytes_of (merged a b),
          bytes_of (merged b c),
          bytes_of (merged (merged a b) c),
          first,
          second,
          last,
          sym (merging-assoc f g k (bytes_of (merged a b)) (bytes_of (merged b c)) i j room first second) ∙ last,
        )

-- ---- the call on the files of two collections

module _ (h k both : Held) (hw : whole h ≡ true) (kw : whole k ≡ true) (names : k.opening.names ≡ h.opening.names) (trees : both.trees ≡ h.trees ++ k.trees) where
  same-taxa : taxa k ≡ taxa h
  same-taxa =
      sym (good-opening k.opening (whole-facts k kw).opening-good).named.count ∙ ap length names
      ∙ (good-opening h.opening (whole-facts h hw).opening-good).named.count

  -- "Two files over the same names are merged": the result is the file of both collections' trees together
  pub merging-trees : (i j : ℕ) (f g : List ℕ) → file_of h i ≡ gives f → file_of k j ≡ gives g
      → 0 < length (recorded h.trees) → 0 < length (recorded k.trees) → (room : ℕ) → merging_of h f g room ≡ file_of both room
  unfolding file_of
  merging-trees i j f g p q x y room =
      let a = splits_of h.trees in
      let b = splits_of k.trees in
      let first : ReadsAs h f a = ap (records_from (taxa h)) (file-is h i f p) ∙ file-records h hw in
      let second : ReadsAs h g b = ap₂ records_from (sym same-taxa) (file-is k j g q) ∙ file-records k kw in
      let formed = read-formed (taxa h) f a first in
      let others = read-formed (taxa h) g b second in
      merging_of_lem h f g a b first second room ∙ merge-by a b room
      ∙ ap₂ (λ (x y : Bool). merge_by x y (merged a b) room)
      (some-both a b (omega (arith, splits-length h.trees)) (omega (arith, splits-length k.trees)))
      (merged-fits (taxa h) a b formed others (omega (arith, file-trees h hw, file-trees k kw)))
      ∙ ap (λ (rs : List Record). if_room room (bytes_of rs)) (merge-trees h.trees k.trees x y ∙ ap splits_of (sym trees))
