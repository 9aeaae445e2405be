-- The refusals of the calls on split files, each exactly where document 02 has it, and in its order.
--
--   BadLength f, BadRecord n f   19 and 20: what is wrong with a file
--   Improper, OutOfOrder         with a record, and with the order of masks
--   file-refusals-in-order       a file is refused exactly where one of these is, 19 first
--   nineteen-exactly, twenty-exactly     so of each number
--   InFile h f k P               a call on the file f answers k: the file's own refusal, or else P says so of its records
--   ReadRefused, reading-refusals-in-order      reading: 19, 20, 4
--   MergeRefused, merging-refusals-in-order     merging: 19 and 20 of the first file, then of the second, 21, 22, 4
--   TreeRefused, majority-refusals-in-order, strict-refusals-in-order     a file's trees: 19, 20, 14, 23, 4
--   majority-disagrees, strict-disagrees     23 exactly where two chosen splits disagree
use Rattle.std.specs.Prelude.{ℕ, zero, suc, ◌+◌, ◌*◌, ◌/◌, ◌%◌, ◌^◌, ◌≤◌, ◌<◌, ◌≡◌, ◌⊎◌, ◌↔◌, Bool, ◌&&◌, ◌||◌, leb, ltb, eqb, length, get_or, if◌then◌else◌}
use Rattle.std.proofs.Common.{arith, ap, ap₂, sym, ◌∙◌, ⊎_elim, true≢false, ltb-true, ltb-false, lt-ltb, leb-false, eqb-true, eq-eqb, ne_eqb}
use Rattle.std.proofs.Math.Path.{refl}
use Rattle.std.proofs.Math.Logic.{inl, inr, ⊎_map}
use Rattle.std.proofs.Math.Logic.Iff.{trans as iff_trans}
use Rattle.std.proofs.Math.Bool.{true, false}
use mathlib.Core.List.{List, [], ◌∷◌}
use Rattle.std.proofs.lemmas.Bool.{eqb-false}
use Rattle.trees.specs.Plain.{every, Answer, refused, gives}
use Rattle.trees.specs.Mask.{proper}
use Rattle.trees.specs.Written.{written}
use Rattle.trees.specs.Held.{Held}
use Rattle.trees.specs.Questions.{if_room}
use Rattle.trees.specs.Whole.{rising, agree_in_pairs}
use Rattle.trees.specs.SplitFile.{Record, record_bytes, bytes_of, records_in, trees_of, masks_of, proper_record, well_formed, merged, fits, strict_in, majority_in}
use Rattle.trees.specs.SplitFileCall.{records_from, if_records, Splits, reading_of, merge_records, merging_of, chosen_tree, strict_file_of, majority_file_of}
use Rattle.theorems.specs.ListLaws.{less-or-not, if-true, if-false, or_cases, or_left, or_right, Mem, mem-get_d}
use Rattle.theorems.specs.RisingLaws.{Rising, rising-true}
use Rattle.theorems.specs.SplitFileLaws.{mem-some, bytes-length, Formed, formed, fits_below}
use Rattle.theorems.specs.WrittenFileLaws.{read-formed, ReadsAs, made_of, made_none}
use Rattle.theorems.specs.MergeLaws.{merged-trees, merged-fits}
use Rattle.theorems.specs.MergeCallLaws.{merge_by, one_empty, merge-by, none-empty, some-both}
use Rattle.theorems.specs.FileConsensusLaws.{every-fails, Disagree, disagree-exactly, strict-in-exactly, majority-in-exactly, chosen_by, text_of, chosen_by_lem}

-- ---- answers

given : {A : Type 0} {X : Type 0} (k : ℕ) (y : A) → gives y ≡ refused k → X
given k y e = let z : ◌≡◌ {A = ℕ} 0 1 = cc in absurd (omega arith)

-- ---- a file's own refusals

-- "record improper": its mask not proper, its count 0 or more than its trees, or its trees not those of the first
abbrev pub Improper : ℕ → ℕ → Record → Type 0
Improper n t r = (proper n r.mask ≡ false) ⊎ ((r.count ≡ 0) ⊎ ((r.trees < r.count) ⊎ (r.trees ≡ t → ⊥)))

-- "or out of order": a mask that is not above the one before
abbrev pub OutOfOrder : List ℕ → Type 0
OutOfOrder l = (i : ℕ) × (suc i < length l) × (get_or l (suc i) 0 ≤ get_or l i 0)

abbrev pub Faulty : ℕ → List Record → Type 0
Faulty n rs = ((r : Record) × Mem r rs × Improper n (trees_of rs) r) ⊎ OutOfOrder (masks_of rs)

-- "length no multiple of 16"
abbrev pub BadLength : List ℕ → Type 0
BadLength f = length f % record_bytes ≡ 0 → ⊥

abbrev pub BadRecord : ℕ → List ℕ → Type 0
BadRecord n f = (length f % record_bytes ≡ 0) × Faulty n (records_in (length f / record_bytes) f)

improper-false : (n t : ℕ) (r : Record) → proper_record n t r ≡ false → Improper n t r
unfolding proper_record
improper-false n t r e = go (proper n r.mask) (leb 1 r.count) (leb r.count r.trees) (eqb r.trees t) refl refl refl refl e
  where
    go : (a b c d : Bool) → proper n r.mask ≡ a → leb 1 r.count ≡ b → leb r.count r.trees ≡ c → eqb r.trees t ≡ d → (a && (b && (c && d))) ≡ false → Improper n t r
    go false b c d p q s u z = inl p
    go true false c d p q s u z = let l = leb-false 1 r.count q in inr (inl (omega arith))
    go true true false d p q s u z = inr (inr (inl (leb-false r.count r.trees s)))
    go true true true false p q s u z = inr (inr (inr (eqb-false r.trees t u)))
    go true true true true p q s u z = absurd (true≢false z)

falls : (l : List ℕ) → rising l ≡ false → OutOfOrder l
unfolding rising
falls [] e = absurd (true≢false e)
falls (m ∷ l) e = go (rising l) (every (ltb m) l) refl refl e (falls l)
  where
    first : (k : List ℕ) → every (ltb m) k ≡ false → Rising k → OutOfOrder (m ∷ k)
    first k q s = let x = every-fails (ltb m) k q in at k x.0 x.1 (ltb-false m x.0 x.2) s
      where
        at : (k : List ℕ) (y : ℕ) → Mem y k → y ≤ m → Rising k → OutOfOrder (m ∷ k)
        at [] y x4 b s = elim x4 [ ]
        at (x ∷ k) y (inl e) b s = (0, omega arith, omega arith)
        at (x ∷ k) y (inr h) b s = (0, omega arith, omega (arith, s.0 y h))

    go : (b c : Bool) → rising l ≡ b → every (ltb m) l ≡ c → (c && b) ≡ false → (rising l ≡ false → OutOfOrder l) → OutOfOrder (m ∷ l)
    go true true p q z f = absurd (true≢false z)
    go true false p q z f = first l q (rising-true l p)
    go false c p q z f = let x = f p in (suc x.0, omega (arith, x.1), x.2)

in_order : (l : List ℕ) → Rising l → OutOfOrder l → ⊥
in_order [] r x = omega (arith, x.1)
in_order (m ∷ l) r x = go x.0 x.1 x.2 (in_order l r.1)
  where
    go : (i : ℕ) → suc i < suc (length l) → get_or (m ∷ l) (suc i) 0 ≤ get_or (m ∷ l) i 0 → (OutOfOrder l → ⊥) → ⊥
    go zero a b f = omega (arith, r.0 (get_or l 0 0) (mem-get_d l 0 (omega arith)))
    go (suc i) a b f = f (i, omega arith, b)

module _ (n : ℕ) (rs : List Record) where
  faulty : well_formed n rs ≡ false → Faulty n rs
  unfolding well_formed
  faulty e = go (every (proper_record n (trees_of rs)) rs) (rising (masks_of rs)) refl refl e
    where
      go : (a b : Bool) → every (proper_record n (trees_of rs)) rs ≡ a → rising (masks_of rs) ≡ b → (a && b) ≡ false → Faulty n rs
      go false b p q z = let x = every-fails (proper_record n (trees_of rs)) rs p in inl (x.0, x.1, improper-false n (trees_of rs) x.0 x.2)
      go true false p q z = inr (falls (masks_of rs) q)
      go true true p q z = absurd (true≢false z)

  formed-faultless : Formed n rs → Faulty n rs → ⊥
  formed-faultless f (inl x) = go x.2
    where
      go : Improper n (trees_of rs) x.0 → ⊥
      go (inl e) = true≢false (sym (f.masks-proper x.0 x.1) ∙ e)
      go (inr (inl e)) = omega (arith, f.least-count x.0 x.1)
      go (inr (inr (inl l))) = omega (arith, f.most-count x.0 x.1)
      go (inr (inr (inr g))) = g (f.same-trees x.0 x.1)
  formed-faultless f (inr o) = in_order (masks_of rs) f.masks-rise o

  faulty-false : Faulty n rs → well_formed n rs ≡ false
  faulty-false x = go (well_formed n rs) refl
    where
      go : (b : Bool) → well_formed n rs ≡ b → b ≡ false
      go true e = absurd (formed-faultless (formed n rs e) x)
      go false e = refl

module _ (n : ℕ) (f : List ℕ) where
  -- "19 length no multiple of 16, 20 record improper or out of order"
  abbrev pub FileRefused : ℕ → Type 0
  FileRefused k = ((k ≡ 19) × BadLength f) ⊎ ((k ≡ 20) × BadRecord n f)

  pub file-refusals-in-order : (k : ℕ) → (records_from n f ≡ refused k) ↔ FileRefused k
  unfolding records_from
  file-refusals-in-order k = (λ e. forth (eqb (length f % record_bytes) 0) (well_formed n rs) refl refl e, back)
    where
      rs : List Record
      rs = records_in (length f / record_bytes) f

      forth : (x y : Bool) → eqb (length f % record_bytes) 0 ≡ x → well_formed n rs ≡ y → (if x then if y then gives rs else refused 20 else refused 19) ≡ refused k → FileRefused k
      forth true true p q e = given k rs e
      forth true false p q e = inr (cc, (eqb-true _ _ p, faulty n rs q))
      forth false y p q e = inl (cc, eqb-false _ _ p)

      back : FileRefused k → records_from n f ≡ refused k
      back (inl x) = if-false _ _ (ne_eqb _ _ x.1) ∙ ap refused (sym x.0)
      back (inr x) = if-true _ _ (eq-eqb _ _ x.1.0) ∙ if-false _ _ (faulty-false n rs x.1.1) ∙ ap refused (sym x.0)

  -- "19 length no multiple of 16"
  pub nineteen-exactly : (records_from n f ≡ refused 19) ↔ BadLength f
  nineteen-exactly = (λ e. ⊎_elim (λ x. x.1) (λ x. absurd (omega (arith, x.0))) ((file-refusals-in-order 19).0 e), λ x. (file-refusals-in-order 19).1 (inl (refl, x)))

  -- "20 record improper or out of order"
  pub twenty-exactly : (records_from n f ≡ refused 20) ↔ BadRecord n f
  twenty-exactly = (λ e. ⊎_elim (λ x. absurd (omega (arith, x.0))) (λ x. x.1) ((file-refusals-in-order 20).0 e), λ x. (file-refusals-in-order 20).1 (inr (refl, x)))

-- ---- a call on a file

-- a call on the file f answers k: the file's own refusal, or else P says so of its records
abbrev pub InFile : Held → List ℕ → ℕ → (List Record → Type 0) → Type 0
InFile h f k P = (records_from h.opening.numbers.taxa f ≡ refused k) ⊎ ((rs : List Record) × ReadsAs h f rs × P rs)

module _ (h : Held) (f : List ℕ) (k : ℕ) where
  in-file : {P Q : List Record → Type 0} → ((rs : List Record) → ReadsAs h f rs → P rs → Q rs) → InFile h f k P → InFile h f k Q
  in-file g (inl e) = inl e
  in-file g (inr x) = inr (x.0, x.1, g x.0 x.1 x.2)

  made-refused : {A : Type 0} (make : List Record → Answer A) → (if_records h f make ≡ refused k) ↔ InFile h f k (λ rs. make rs ≡ refused k)
  made-refused make = (λ e. forth e (records_from h.opening.numbers.taxa f) refl, back)
    where
      forth : if_records h f make ≡ refused k → (x : Answer (List Record)) → records_from h.opening.numbers.taxa f ≡ x → InFile h f k (λ rs. make rs ≡ refused k)
      forth e (refused j) q = let same : j ≡ k = cc (made_none h f make j q) in inl (q ∙ ap refused same)
      forth e (gives rs) q = inr (rs, q, sym (made_of h f make rs q) ∙ e)

      back : InFile h f k (λ rs. make rs ≡ refused k) → if_records h f make ≡ refused k
      back (inl e) = made_none h f make k e
      back (inr x) = made_of h f make x.0 x.1 ∙ x.2

  made-exactly : {A : Type 0} (make : List Record → Answer A) (P : List Record → Type 0)
      → ((rs : List Record) → ReadsAs h f rs → (make rs ≡ refused k) ↔ P rs) → (if_records h f make ≡ refused k) ↔ InFile h f k P
  made-exactly make P g =
      let e = made-refused make in
      (λ x. in-file (λ rs q. (g rs q).0) (e.0 x), λ x. e.1 (in-file (λ rs q. (g rs q).1) x))

-- 4: "a lent buffer is too short for the whole answer"
room-refused : {A : Type 0} (room k : ℕ) (l : List A) → (if_room room l ≡ refused k) ↔ ((k ≡ 4) × (room < length l))
unfolding if_room
room-refused room k l = (λ e. forth (ltb room (length l)) refl e, λ x. if-true _ _ (lt-ltb room (length l) x.1) ∙ ap refused (sym x.0))
  where
    forth : (x : Bool) → ltb room (length l) ≡ x → (if x then refused 4 else gives l) ≡ refused k → (k ≡ 4) × (room < length l)
    forth true p e = (cc, ltb-true room (length l) p)
    forth false p e = given k l e

-- ---- reading

-- "4 last"
abbrev pub ReadRefused : ℕ → ℕ → ℕ → List Record → Type 0
ReadRefused a b k rs = (k ≡ 4) × ((a < length rs) ⊎ (b < length rs))

-- "Refusals, in order after 1: 19 .., 20 ..; 4 last"
pub reading-refusals-in-order : (h : Held) (f : List ℕ) (a b k : ℕ) → (reading_of h f a b ≡ refused k) ↔ InFile h f k (ReadRefused a b k)
unfolding reading_of
reading-refusals-in-order h f a b k = made-exactly h f k _ (ReadRefused a b k) (λ rs e. (λ q. forth rs (ltb a (length rs)) (ltb b (length rs)) refl refl _ q, λ x. back rs _ x))
  where
    forth : (rs : List Record) (x y : Bool) → ltb a (length rs) ≡ x → ltb b (length rs) ≡ y → (s : Splits) → (if x || y then refused 4 else gives s) ≡ refused k → ReadRefused a b k rs
    forth rs true y p q s e = (cc, inl (ltb-true a (length rs) p))
    forth rs false true p q s e = (cc, inr (ltb-true b (length rs) q))
    forth rs false false p q s e = given k s e

    back : (rs : List Record) (s : Splits) → ReadRefused a b k rs → (if ltb a (length rs) || ltb b (length rs) then refused 4 else gives s) ≡ refused k
    back rs s x = if-true _ _ (short x.1) ∙ ap refused (sym x.0)
      where
        short : (a < length rs) ⊎ (b < length rs) → (ltb a (length rs) || ltb b (length rs)) ≡ true
        short (inl l) = or_left (ltb a (length rs)) (ltb b (length rs)) (lt-ltb a (length rs) l)
        short (inr l) = or_right (ltb a (length rs)) (ltb b (length rs)) (lt-ltb b (length rs) l)

-- ---- merging

module _ (a b : List Record) (room k : ℕ) where
  -- "21 merge with an empty file, 22 a sum past 32 bits"; "4 last"
  abbrev pub MergeRefused : Type 0
  MergeRefused =
      ((k ≡ 21) × ((length a ≡ 0) ⊎ (length b ≡ 0)))
      ⊎ (((k ≡ 22) × (0 < length a) × (0 < length b) × (2 ^ 32 ≤ trees_of a + trees_of b))
      ⊎ ((k ≡ 4) × (0 < length a) × (0 < length b) × (trees_of a + trees_of b < 2 ^ 32) × (room < record_bytes * length (merged a b))))

  one-empty : (length a ≡ 0) ⊎ (length b ≡ 0) → one_empty a b ≡ true
  one-empty (inl e) = or_left (eqb (length a) 0) (eqb (length b) 0) (eq-eqb (length a) 0 e)
  one-empty (inr e) = or_right (eqb (length a) 0) (eqb (length b) 0) (eq-eqb (length b) 0 e)

  merge-refused : (n : ℕ) → Formed n a → Formed n b → (merge_records a b room ≡ refused k) ↔ MergeRefused
  merge-refused n f g = (λ e. forth (one_empty a b) (fits (merged a b)) refl refl (sym (merge-by a b room) ∙ e), back)
    where
      small : fits (merged a b) ≡ true → trees_of a + trees_of b < 2 ^ 32
      small e = omega (arith, merged-trees a b, fits_below (merged a b) e)

      large : fits (merged a b) ≡ false → 2 ^ 32 ≤ trees_of a + trees_of b
      large e = ⊎_elim (λ l. absurd (true≢false (sym (merged-fits n a b f g l) ∙ e))) (λ l. l) (less-or-not (trees_of a + trees_of b) (2 ^ 32))

      passes : 2 ^ 32 ≤ trees_of a + trees_of b → (x : Bool) → fits (merged a b) ≡ x → x ≡ false
      passes l true e = absurd (omega (arith, small e))
      passes l false e = refl

      forth : (x y : Bool) → one_empty a b ≡ x → fits (merged a b) ≡ y → merge_by x y (merged a b) room ≡ refused k → MergeRefused
      forth true y p q e = inl (cc, ⊎_map (eqb-true (length a) 0) (eqb-true (length b) 0) (or_cases (eqb (length a) 0) (eqb (length b) 0) p))
      forth false false p q e = let o = none-empty a b p in inr (inl (cc, o.0, o.1, large q))
      forth false true p q e =
          let o = none-empty a b p in
          let r = (room-refused room k (bytes_of (merged a b))).0 e in
          inr (inr (r.0, o.0, o.1, small q, omega (arith, r.1, bytes-length (merged a b))))

      by : (x y : Bool) → one_empty a b ≡ x → fits (merged a b) ≡ y → merge_records a b room ≡ merge_by x y (merged a b) room
      by x y p q = merge-by a b room ∙ ap₂ (λ (x y : Bool). merge_by x y (merged a b) room) p q

      back : MergeRefused → merge_records a b room ≡ refused k
      back (inl x) = by true (fits (merged a b)) (one-empty x.1) refl ∙ ap refused (sym x.0)
      back (inr (inl x)) = by false false (some-both a b x.1 x.2) (passes x.3 (fits (merged a b)) refl) ∙ ap refused (sym x.0)
      back (inr (inr x)) =
          by false true (some-both a b x.1 x.2) (merged-fits n a b f g x.3)
          ∙ (room-refused room k (bytes_of (merged a b))).1 (x.0, omega (arith, x.4, bytes-length (merged a b)))

-- 19 and 20 "both for the first file, then for the second"; then "21 .., 22 ..; 4 last"
pub merging-refusals-in-order : (h : Held) (f g : List ℕ) (room k : ℕ) → (merging_of h f g room ≡ refused k) ↔ InFile h f k (λ a. InFile h g k (λ b. MergeRefused a b room k))
unfolding merging_of
merging-refusals-in-order h f g room k =
    made-exactly h f k _ (λ a. InFile h g k (λ b. MergeRefused a b room k))
    (λ a p. made-exactly h g k _ (λ b. MergeRefused a b room k) (λ b q. merge-refused a b room k h.opening.numbers.taxa (read-formed _ f a p) (read-formed _ g b q)))

-- ---- the trees of a file

module _ (h : Held) (rs : List Record) (s : List ℕ) (room k : ℕ) where
  -- "its consensus is 14"; "23 two chosen splits disagree"; "4 last"
  abbrev pub TreeRefused : Type 0
  TreeRefused =
      ((k ≡ 14) × (length rs ≡ 0))
      ⊎ (((k ≡ 23) × (0 < length rs) × Disagree s) ⊎ ((k ≡ 4) × (0 < length rs) × (agree_in_pairs s ≡ true) × (room < length (written h.opening.names s))))

  tree-refused : (chosen_tree h rs s room ≡ refused k) ↔ TreeRefused
  tree-refused = (λ e. forth (eqb (length rs) 0) (agree_in_pairs s) refl refl (sym (chosen_by_lem h rs s room) ∙ e), back)
    where
      some-record : eqb (length rs) 0 ≡ false → 0 < length rs
      some-record e = let f = eqb-false (length rs) 0 e in omega (arith, f)

      forth : (x y : Bool) → eqb (length rs) 0 ≡ x → agree_in_pairs s ≡ y → chosen_by x y (text_of h s room) ≡ refused k → TreeRefused
      forth true y p q e = inl (cc, eqb-true (length rs) 0 p)
      forth false false p q e = inr (inl (cc, some-record p, (disagree-exactly s).0 q))
      forth false true p q e = let r = (room-refused room k (written h.opening.names s)).0 e in inr (inr (r.0, some-record p, q, r.1))

      by : (x y : Bool) → eqb (length rs) 0 ≡ x → agree_in_pairs s ≡ y → chosen_tree h rs s room ≡ chosen_by x y (text_of h s room)
      by x y p q = chosen_by_lem h rs s room ∙ ap₂ (λ (x y : Bool). chosen_by x y (text_of h s room)) p q

      back : TreeRefused → chosen_tree h rs s room ≡ refused k
      back (inl x) = by true (agree_in_pairs s) (eq-eqb (length rs) 0 x.1) refl ∙ ap refused (sym x.0)
      back (inr (inl x)) = by false false (ne_eqb (length rs) 0 (λ e. omega (arith, x.1))) ((disagree-exactly s).1 x.2) ∙ ap refused (sym x.0)
      back (inr (inr x)) =
          by false true (ne_eqb (length rs) 0 (λ e. omega (arith, x.1))) x.2 ∙ (room-refused room k (written h.opening.names s)).1 (x.0, x.3)

module _ (h : Held) (f : List ℕ) (room : ℕ) where
  -- "Refusals, in order after 1: 19 .., 20 ..; 14, .. 23 ..; 4 last"
  pub majority-refusals-in-order : (k : ℕ) → (majority_file_of h f room ≡ refused k) ↔ InFile h f k (λ rs. TreeRefused h rs (majority_in rs) room k)
  unfolding majority_file_of
  majority-refusals-in-order k = made-exactly h f k _ (λ rs. TreeRefused h rs (majority_in rs) room k) (λ rs e. tree-refused h rs (majority_in rs) room k)

  pub strict-refusals-in-order : (k : ℕ) → (strict_file_of h f room ≡ refused k) ↔ InFile h f k (λ rs. TreeRefused h rs (strict_in rs) room k)
  unfolding strict_file_of
  strict-refusals-in-order k = made-exactly h f k _ (λ rs. TreeRefused h rs (strict_in rs) room k) (λ rs e. tree-refused h rs (strict_in rs) room k)

-- ---- 23

-- "23 two chosen splits disagree": exactly those calls whose file is one, and has two
module _ (h : Held) (f : List ℕ) (room : ℕ) (choose : List Record → List ℕ) (from-records : (rs : List Record) (m : ℕ) → Mem m (choose rs) → 0 < length rs) where
  abbrev ChosenDisagree : Type 0
  ChosenDisagree = (rs : List Record) × ReadsAs h f rs × Disagree (choose rs)

  disagreeing : InFile h f 23 (λ rs. TreeRefused h rs (choose rs) room 23) ↔ ChosenDisagree
  disagreeing = (forth, λ x. inr (x.0, x.1, inr (inl (refl, from-records x.0 x.2.0 x.2.2, x.2))))
    where
      tree : (rs : List Record) → ReadsAs h f rs → TreeRefused h rs (choose rs) room 23 → ChosenDisagree
      tree rs q (inl x) = absurd (omega (arith, x.0))
      tree rs q (inr (inl x)) = (rs, q, x.2)
      tree rs q (inr (inr x)) = absurd (omega (arith, x.0))

      forth : InFile h f 23 (λ rs. TreeRefused h rs (choose rs) room 23) → ChosenDisagree
      forth (inl e) = ⊎_elim (λ x. absurd (omega (arith, x.0))) (λ x. absurd (omega (arith, x.0))) ((file-refusals-in-order h.opening.numbers.taxa f 23).0 e)
      forth (inr x) = tree x.0 x.1 x.2

module _ (h : Held) (f : List ℕ) (room : ℕ) where
  pub majority-disagrees : (majority_file_of h f room ≡ refused 23) ↔ ((rs : List Record) × ReadsAs h f rs × Disagree (majority_in rs))
  majority-disagrees =
      iff_trans (majority-refusals-in-order h f room 23) (disagreeing h f room majority_in (λ rs m k. let x = (majority-in-exactly rs m).0 k in mem-some x.0 rs x.1))

  pub strict-disagrees : (strict_file_of h f room ≡ refused 23) ↔ ((rs : List Record) × ReadsAs h f rs × Disagree (strict_in rs))
  strict-disagrees =
      iff_trans (strict-refusals-in-order h f room 23) (disagreeing h f room strict_in (λ rs m k. let x = (strict-in-exactly rs m).0 k in mem-some x.0 rs x.1))
