-- What an opening that passes its checks is like: each check's test as facts.
--
--   InRange x         the numbers are in their ranges
--   Constants x f s   both lists are n long, and their constants are in their ranges
--   Named n ns        n different names
--   GoodOpening o     all of these
--   size-most, size-most-kept    a store is no larger than documents 01 and 02 allow
use Rattle.std.specs.Prelude.{ℕ, zero, suc, ◌+◌, ◌*◌, ◌^◌, ◌≤◌, ◌<◌, ◌≡◌, Bool, true, ◌&&◌, List, [], ◌∷◌, leb, ltb, eqb, length, get_or}
use Rattle.std.proofs.Common.{zero-mul, mul-le-mul_right, arith, ap, ◌∙◌, leb-true, ltb-true, lt-ltb, eqb-true}
use Rattle.trees.specs.Plain.{every}
use Rattle.trees.specs.Names.{is_name, different, good_names}
use Rattle.trees.specs.Opening.{Numbers, Opening, between, in_range, store_size, good_constants, most_room}
use Rattle.trees.specs.Whole.{good_opening}
use Rattle.theorems.specs.ListLaws.{and_left, and_right}

-- ---- a test of several parts

pub both : (a b : Bool) → (a && b) ≡ true → (a ≡ true) × (b ≡ true)
both a b e = (and_left a b e, and_right a b e)

between-true : (least most x : ℕ) → between least most x ≡ true → (least ≤ x) × (x ≤ most)
between-true least most x e = let p = both (leb least x) (leb x most) e in (leb-true least x p.0, leb-true x most p.1)

-- a member of a list whose members all pass, or what stands for one that is missing
pub every-get_d : {A : Type 0} (p : A → Bool) (l : List A) (d : A) → p d ≡ true → every p l ≡ true → (i : ℕ) → p (get_or l i d) ≡ true
unfolding every
every-get_d p [] d h e i = h
every-get_d p (x ∷ l) d h e zero = and_left (p x) (every p l) e
every-get_d p (x ∷ l) d h e (suc i) = every-get_d p l d h (and_right (p x) (every p l) e) i

-- ---- the numbers

pub record InRange (x : Numbers) : Type 0 where
  pub least-taxa : 4 ≤ x.taxa
  pub most-taxa : x.taxa ≤ 64
  pub least-lanes : 1 ≤ x.lanes
  pub most-lanes : x.lanes ≤ 8
  pub least-trees : 1 ≤ x.tree_room
  pub most-trees : x.tree_room ≤ 1024
  pub least-splits : 1 ≤ x.split_room
  pub most-splits : x.split_room ≤ most_room
  pub least-places : 1 ≤ x.places
  pub most-places : x.places ≤ 2 * x.split_room
  pub most-kept : x.kept ≤ 1

pub in-range : (x : Numbers) → in_range x ≡ true → InRange x
unfolding in_range
in-range x e =
    let a = both (between 4 64 x.taxa) _ e in
    let b = both (between 1 8 x.lanes) _ a.1 in
    let c = both (between 1 1024 x.tree_room) _ b.1 in
    let d = both (between 1 most_room x.split_room) _ c.1 in
    let f = both (between 1 (2 * x.split_room) x.places) (leb x.kept 1) d.1 in
    let n = between-true 4 64 x.taxa a.0 in
    let l = between-true 1 8 x.lanes b.0 in
    let t = between-true 1 1024 x.tree_room c.0 in
    let s = between-true 1 most_room x.split_room d.0 in
    let m = between-true 1 (2 * x.split_room) x.places f.0 in
    record {
      least-taxa = n.0;
      most-taxa = n.1;
      least-lanes = l.0;
      most-lanes = l.1;
      least-trees = t.0;
      most-trees = t.1;
      least-splits = s.0;
      most-splits = s.1;
      least-places = m.0;
      most-places = m.1;
      most-kept = leb-true x.kept 1 f.1;
    }

-- "at most 64 bytes per split of room, 256 per tree of room, 8,192 per lane and 8,192 besides", where lengths are not kept
pub size-most : (x : Numbers) → in_range x ≡ true → x.kept ≡ 0 → store_size x ≤ 64 * x.split_room + 256 * x.tree_room + 8192 * x.lanes + 8192
unfolding store_size
size-most x e k =
    let r = in-range x e in
    let none : x.kept * x.tree_room ≡ 0 = ap (λ n. n * x.tree_room) k ∙ zero-mul x.tree_room in
    omega (arith, r.most-places)

-- if they are kept, "memory per tree is up to 1,024 bytes"
pub size-most-kept : (x : Numbers) → in_range x ≡ true → store_size x ≤ 64 * x.split_room + 1024 * x.tree_room + 8192 * x.lanes + 8192
unfolding store_size
size-most-kept x e =
    let r = in-range x e in
    let most : x.kept * x.tree_room ≤ 1 * x.tree_room = mul-le-mul_right x.tree_room r.most-kept in
    omega (arith, r.most-places)

-- ---- the constants

pub record Constants (x : Numbers) (first second : List ℕ) : Type 0 where
  pub first-length : length first ≡ x.taxa
  pub second-length : length second ≡ x.taxa
  pub first-every : every (λ c. ltb c x.places) first ≡ true
  pub second-every : every (λ c. ltb c (2 ^ 64)) second ≡ true

pub constants : (x : Numbers) (first second : List ℕ) → good_constants x first second ≡ true → Constants x first second
unfolding good_constants
constants x first second e =
    let a = both (eqb (length first) x.taxa) _ e in
    let b = both (eqb (length second) x.taxa) _ a.1 in
    let c = both (every (λ c. ltb c x.places) first) (every (λ c. ltb c (2 ^ 64)) second) b.1 in
    record {
      first-length = eqb-true (length first) x.taxa a.0;
      second-length = eqb-true (length second) x.taxa b.0;
      first-every = c.0;
      second-every = c.1;
    }

-- ---- the names

pub record Named (n : ℕ) (ns : List (List ℕ)) : Type 0 where
  pub count : length ns ≡ n
  pub names : every is_name ns ≡ true
  pub apart : different ns ≡ true

pub named : (n : ℕ) (ns : List (List ℕ)) → good_names n ns ≡ true → Named n ns
unfolding good_names
named n ns e =
    let a = both (eqb (length ns) n) _ e in
    let b = both (every is_name ns) (different ns) a.1 in
    record { count = eqb-true (length ns) n a.0; names = b.0; apart = b.1 }

-- ---- all of it

pub record GoodOpening (o : Opening) : Type 0 where
  pub ranges : InRange o.numbers
  pub constants : Constants o.numbers o.first o.second
  pub named : Named o.numbers.taxa o.names

pub good-opening : (o : Opening) → good_opening o ≡ true → GoodOpening o
unfolding good_opening
good-opening o e =
    let a = both (in_range o.numbers) _ e in
    let b = both (good_constants o.numbers o.first o.second) (good_names o.numbers.taxa o.names) a.1 in
    record { ranges = in-range o.numbers a.0; constants = constants o.numbers o.first o.second b.0; named = named o.numbers.taxa o.names b.1 }

-- every first constant is below the number of places, and every second one is a 64-bit number; so is 0, for one that is missing
pub first_below : (o : Opening) → GoodOpening o → (i : ℕ) → get_or o.first i 0 < o.numbers.places
first_below o g i =
    ltb-true (get_or o.first i 0) o.numbers.places
    (every-get_d (λ c. ltb c o.numbers.places) o.first 0 (lt-ltb 0 o.numbers.places g.ranges.least-places) g.constants.first-every i)

pub second_below : (o : Opening) → GoodOpening o → (i : ℕ) → get_or o.second i 0 < 2 ^ 64
second_below o g i =
    ltb-true (get_or o.second i 0) (2 ^ 64) (every-get_d (λ c. ltb c (2 ^ 64)) o.second 0 (lt-ltb 0 (2 ^ 64) (omega arith)) g.constants.second-every i)
