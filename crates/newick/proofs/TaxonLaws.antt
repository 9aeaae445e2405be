-- One more leaf: its fault, or the sums with its taxon.
--
--   hashed-as                    a hashed record, by numbers that are the same
--   prepared-opening, prepared-taxa     what a prepared head gives
--   taxon-64, place-small        what adding a taxon asks
--   added-below, added-over      the sums with one more taxon, by the two ways through `add_taxon`
--   leaf-none, leaf-before       a leaf that names no taxon, or one that came before
--   leaf-below, leaf-more        a leaf with a taxon of its own
use Rattle.std.specs.Prelude.{Option, None, Some, Ok, Err}
use Rattle.std.proofs.Common.{◌≡◌, ℕ, suc, ◌+◌, ◌-◌, ◌*◌, ◌%◌, ◌^◌, ◌<◌, ◌≤◌, true, false, List, get_or, sym, ap, ◌∙◌, subst, ap₂, ⊎_elim, mod-lt, mod-eq_of_lt, arith}
use native.Mathlib.Nat.{add-mod, add-mod_right}
use mathlib.Core.Option.{some}
use lib.Bits.{bit_or, bit_xor, or_disjoint}
use lib.Count.{ones}
use Rattle.trees.specs.Mask.{has}
use Rattle.trees.specs.Names.{taxon_of}
use Rattle.trees.specs.Splits.{bit_of, taxon}
use Rattle.trees.specs.Hash.{sum_over, place, identifier}
use Rattle.trees.specs.Opening.{Opening}
use Rattle.trees.specs.Verdict.{leaf_fault}
use Rattle.trees.specs.Whole.{good_opening}
use Rattle.fields.specs.Field.{number}
use Rattle.theorems.specs.BitLaws.{On, Dis, Sub, on?, only-on, or-on, dis-and, on-or-l, less-add}
use Rattle.theorems.specs.MaskLaws.{has_on, has-off, every-on, below_sub, sub-below}
use Rattle.theorems.specs.OnesLaws.{ones-part, ones_bit}
use Rattle.theorems.specs.HashLaws.{sum_over-join, sum_over-one}
use Rattle.theorems.specs.OpeningLaws.{GoodOpening, good-opening, first_below, second_below}
use Rattle.theorems.specs.VerdictLaws.{leaf-unknown, leaf-again, leaf-new}
use Rattle.answers.specs.Answers.{refusal_number}
use Rattle.answers.specs.declared.Refusal.TheVariants.{UnknownLeaf, RepeatedLeaf}
use Rattle.answers.specs.declared.Taxon.{Taxon}
use Rattle.head.specs.Head.{numbers_at, opening_at, names_at}
use Rattle.head.specs.HeadLaws.{first-at, second_at_lem}
use Rattle.head.specs.Index.{found_of, Below}
use Rattle.head.specs.FindLaws.{found_at, found_nothing, below_at}
use Rattle.newick.specs.Judge.{Prepared}
use Rattle.newick.specs.Splits.{Hashed}
use Rattle.newick.specs.Leaves.{LeafAdded}
use Rattle.newick.specs.declared.splits.Sums.{Sums}

pub hashed-as : (o : Opening) {m p i m' p' i' : ℕ} → m ≡ m' → p ≡ p' → i ≡ i' → Hashed o m' p' i' → Hashed o m p i
hashed-as o a b c h = rw (a, b, c) h

-- ---- a mask with one more taxon

module _ (m i : ℕ) (h : has m i ≡ false) where
  apart : Dis m (2 ^ i)
  apart j p q = has-off m i h (subst (On m) (sym (only-on i j q)) p)

  pub joined : bit_or m (2 ^ i) ≡ m + 2 ^ i
  joined = or_disjoint m (2 ^ i) (dis-and m (2 ^ i) apart)

  pub one_more : ones (bit_or m (2 ^ i)) ≡ suc (ones m)
  one_more =
      let s : Sub m (bit_or m (2 ^ i)) = λ j p. on-or-l m (2 ^ i) j p in
      let x : bit_xor (bit_or m (2 ^ i)) m ≡ 2 ^ i = omega (arith, less-add (bit_or m (2 ^ i)) m s, joined) in
      omega (arith, ones-part m (bit_or m (2 ^ i)) s, ap ones x, ones_bit i)

  joined-below : (n : ℕ) → m < 2 ^ n → i < n → bit_or m (2 ^ i) < 2 ^ n
  joined-below n b l =
      sub-below n (bit_or m (2 ^ i))
      (λ j p. ⊎_elim (λ f. rw (← only-on i j (or-on m (2 ^ i) j p f)) (every-on n i l)) (λ q. below_sub n m b j q) (on? m j))

-- a sum of two numbers below m, which is m or more, less m
less-modulo : (a b m : ℕ) → a < m → b < m → m ≤ a + b → a + b - m ≡ (a + b) % m
less-modulo a b m p q h =
    let e : a + b - m + m ≡ a + b = omega arith in
    sym (ap (λ (x : ℕ). x % m) (sym e) ∙ add-mod_right (a + b - m) m ∙ mod-eq_of_lt (omega arith))

-- the sum of constants with one more, below the modulus
sum_more : (cs : List ℕ) (m i q : ℕ) → has m i ≡ false → get_or cs i 0 < q → sum_over cs (bit_or m (2 ^ i)) % q ≡ (sum_over cs m % q + get_or cs i 0) % q
sum_more cs m i q h l =
    ap (λ (x : ℕ). x % q) (sum_over-join cs m (2 ^ i) (dis-and m (2 ^ i) (apart m i h)) ∙ ap (λ (x : ℕ). sum_over cs m + x) (sum_over-one cs i))
    ∙ add-mod (sum_over cs m) (get_or cs i 0) q
    ∙ ap (λ (x : ℕ). (sum_over cs m % q + x) % q) (mod-eq_of_lt l)

module _ (o : Opening) (g : GoodOpening o) (i : ℕ) (x : Sums) (l : i < o.numbers.taxa) (h : has x.mask i ≡ false) (s : Hashed o x.mask x.place x.identifier) where
  hashed-more : Hashed o (bit_or x.mask (2 ^ i)) ((x.place + get_or o.first i 0) % o.numbers.places) ((x.identifier + get_or o.second i 0) % 2 ^ 64)
  unfolding place identifier
  hashed-more = record {
    small = joined-below x.mask i h o.numbers.taxa s.small l;
    placed = rw s.placed (sym (sum_more o.first x.mask i o.numbers.places h (first_below o g i)));
    identified = rw s.identified (sym (sum_more o.second x.mask i (2 ^ 64) h (second_below o g i)));
  }

  place-below : x.place < o.numbers.places
  unfolding place
  place-below = rw s.placed (mod-lt (sum_over o.first x.mask) g.ranges.least-places)

-- ---- over a head

module _ (h starts links : List ℕ) (p : Prepared h starts links) where
  pub prepared-opening : GoodOpening (opening_at h)
  prepared-opening = good-opening (opening_at h) p.good

  pub prepared-taxa : (numbers_at h).taxa ≤ 64
  unfolding opening_at
  prepared-taxa = prepared-opening.ranges.most-taxa

module _ (h : List ℕ) (good : good_opening (opening_at h) ≡ true) where
  opened : GoodOpening (opening_at h)
  opened = good-opening (opening_at h) good

  pub taxon-64 : (i : ℕ) → i < (opening_at h).numbers.taxa → i < 64
  taxon-64 i l = omega (arith, opened.ranges.most-taxa)

  module _ (t : Taxon) (x : Sums) (l : t.0 < (opening_at h).numbers.taxa) (n : has x.mask t.0 ≡ false) (s : Hashed (opening_at h) x.mask x.place x.identifier) where
    pub place-small : x.place < 65536
    place-small = omega (arith, place-below (opening_at h) opened t.0 x l n s, opened.ranges.most-places, opened.ranges.most-splits)

    module _ (mask bit y i z m : ℕ) (b : bit ≡ 2 ^ t.0) (u : mask ≡ bit_or x.mask bit) (q : y ≡ number 8 h (2256 + 8 * t.0)) (e : i ≡ (x.identifier + y) % 2 ^ 64) (p : z ≡ number 2 h (2128 + 2 * t.0)) (k : m ≡ (numbers_at h).places) where
      first : z ≡ get_or (opening_at h).first t.0 0
      unfolding opening_at
      first = p ∙ sym (first-at h t.0 l)

      second : y ≡ get_or (opening_at h).second t.0 0
      unfolding opening_at
      second = q ∙ sym (second_at_lem h t.0 l)

      counts : m ≡ (opening_at h).numbers.places
      unfolding opening_at
      counts = k

      whole : mask ≡ bit_or x.mask (2 ^ t.0)
      whole = u ∙ ap (bit_or x.mask) b

      added : (r : ℕ) → r ≡ (x.place + z) % m → (mask ≡ x.mask + 2 ^ t.0) × Hashed (opening_at h) mask r i
      added r w = (
        whole ∙ joined x.mask t.0 n,
        hashed-as (opening_at h) whole (w ∙ ap₂ (λ (a c : ℕ). (x.place + a) % c) first counts) (e ∙ ap (λ (a : ℕ). (x.identifier + a) % 2 ^ 64) second)
            (hashed-more (opening_at h) opened t.0 x l n s),
      )

      pub added-below : x.place + z < m → (mask ≡ x.mask + 2 ^ t.0) × Hashed (opening_at h) mask (x.place + z) i
      added-below f = added (x.place + z) (sym (mod-eq_of_lt f))

      pub added-over : m ≤ x.place + z → (mask ≡ x.mask + 2 ^ t.0) × Hashed (opening_at h) mask (x.place + z - m) i
      added-over f =
          added (x.place + z - m)
          (less-modulo x.place z m (omega (arith, counts, place-below (opening_at h) opened t.0 x l n s))
          (omega (arith, counts, first, first_below (opening_at h) opened t.0)) f)

-- ---- one more leaf

module _ (h w : List ℕ) (m : ℕ) (f : Option Taxon) (e : f ≡ found_of (taxon_of (names_at h) w)) where
  pub leaf-none : f ≡ None → LeafAdded (opening_at h) w m (Err UnknownLeaf)
  unfolding LeafAdded opening_at refusal_number
  leaf-none n ws = leaf-unknown (names_at h) m w ws (found_nothing (taxon_of (names_at h) w) (sym n ∙ e))

  module _ (t : Taxon) (n : f ≡ Some t) where
    known : taxon_of (names_at h) w ≡ some t.0
    known = found_at (taxon_of (names_at h) w) t (sym n ∙ e)

    pub leaf-below : Below (numbers_at h).taxa f → t.0 < (opening_at h).numbers.taxa
    unfolding opening_at
    leaf-below b = below_at (numbers_at h).taxa t (subst (Below (numbers_at h).taxa) n b)

    pub leaf-before : has m t.0 ≡ true → LeafAdded (opening_at h) w m (Err RepeatedLeaf)
    unfolding LeafAdded opening_at refusal_number
    leaf-before b ws = leaf-again (names_at h) m w ws t.0 known (has_on m t.0 b)

    pub leaf-more : has m t.0 ≡ false → (y : Sums) → y.mask ≡ m + 2 ^ t.0 → Hashed (opening_at h) y.mask y.place y.identifier
        → LeafAdded (opening_at h) w m (Ok y)
    unfolding LeafAdded opening_at taxon
    leaf-more b y q s = record {
      masked = q ∙ sym (joined m t.0 b) ∙ ap (λ z. bit_or m (bit_of z)) (sym known);
      more = ap ones (q ∙ sym (joined m t.0 b)) ∙ one_more m t.0 b;
      judged = λ ws. leaf-new (names_at h) m w ws t.0 known (has-off m t.0 b) ∙ ap (λ (z : ℕ). leaf_fault (names_at h) z ws) (sym q);
      hashed = s;
    }
