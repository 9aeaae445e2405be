-- Laws of the sums of constants, and of the tables of them. Assumes nothing.
--
--   sum_over-most       constants below b give at most b for each
--   sum_over-parts      the taxa below n and those from n on
--   sum_over-taxon      one taxon more, above all others
--   constant-none, constant-second, constant-first     the constant of a taxon, as it is read
--   doubled-none, doubled-more                         the sums with a taxon more, one at a time
--   bytes-none, bytes-more, bytes-all                  the sums of a byte, a taxon at a time
--   constants-length                                   there are as many constants as taxa
--   sums_none, sums-more                               the table, a byte at a time
--   blank-new, blank-more, sums-all                    the bytes that the taxa do not reach
--   turn-less, turn-sum, turn_end                      the sum over a mask, a byte at a time
--   identifier-sum, first-sum                          the sums by the tables of the two lists
use Rattle.std.specs.Prelude.{◌≡◌, ℕ, zero, suc, ◌+◌, ◌-◌, ◌*◌, ◌/◌, ◌%◌, ◌^◌, ◌<◌, ◌≤◌, Bool, true, false, ◌⊎◌, List, [], ◌∷◌, length, drop, replicate, slice_index, slice_index_or, slice_set, refl}
use Rattle.std.proofs.Common.{mul-zero, mul-one, mul_assoc, mul_comm, add-zero, pow-suc, ap₂, ◌∙◌, inl, inr, length-set, drop_of_length-le, get_or-drop, drop-drop, get_or-set_same, get_or-set_other}
use Rattle.std.proofs.Math.Nat.{mod-add-mod}
use native.Mathlib.Omega.{arith}
use Rattle.std.proofs.Math.Path.{ap, sym}
use Rattle.std.proofs.lemmas.List.{length-replicate, get_or-replicate}
use Rattle.std.proofs.Math.ListN.{get_or-eq_default}
use Rattle.theorems.specs.ListLaws.{less-or-not}
use Rattle.trees.specs.Hash.{sum_over, identifier}
use Rattle.theorems.specs.BitLaws.{even_odd}
use Rattle.theorems.specs.HashLaws.{sum_over-zero, sum_over-one}
use Rattle.fields.specs.Field.{number}
use Rattle.head.specs.Head.{numbers_at, first_at, second_at}
use Rattle.head.specs.HeadLaws.{first-length, second-length, first-at, second_at_lem}
use Rattle.store.specs.Sums.{constants_at, byte_sum, Sums, SumBy, Blank, ByteSums, Doubled}

-- ---- the sum over a mask

one-most : (b c x : ℕ) → c < b → (x ≡ 0) ⊎ (x ≡ 1) → c * x ≤ b
one-most b c x h (inl e) = rw (e, mul-zero) (omega arith)
one-most b c x h (inr e) = rw (e, mul-one) (omega arith)

pub sum_over-most : (b : ℕ) (cs : List ℕ) (m : ℕ) → ((i : ℕ) → slice_index cs i < b) → sum_over cs m ≤ b * length cs
unfolding sum_over
sum_over-most b [] m h = omega arith
sum_over-most b (c ∷ cs) m h =
    let p = one-most b c (m % 2) (h 0) (even_odd m) in
    let q = sum_over-most b cs (m / 2) (λ i. h (suc i)) in
    omega arith

twice : (n x : ℕ) → 2 ^ suc n * x ≡ 2 * (2 ^ n * x)
twice n x = ap (λ (y : ℕ). y * x) (pow-suc 2 n ∙ mul_comm (2 ^ n) 2) ∙ mul_assoc 2 (2 ^ n) x

sum_over-parts : (n : ℕ) (cs : List ℕ) (a x : ℕ) → a < 2 ^ n → sum_over cs (a + 2 ^ n * x) ≡ sum_over cs a + sum_over (drop n cs) x
unfolding sum_over
sum_over-parts zero cs a x h =
    let z : a ≡ 0 = omega arith in
    let e : a + 2 ^ 0 * x ≡ x = omega arith in
    omega (arith, ap (sum_over cs) e, ap (sum_over cs) z, sum_over-zero cs)
sum_over-parts (suc n) [] a x h = refl
sum_over-parts (suc n) (c ∷ cs) a x h =
    let t = twice n x in
    let p = pow-suc 2 n in
    let odd : (a + 2 ^ suc n * x) % 2 ≡ a % 2 = omega (arith, t) in
    let half : (a + 2 ^ suc n * x) / 2 ≡ a / 2 + 2 ^ n * x = omega (arith, t) in
    omega (arith, ap (λ (y : ℕ). c * y) odd, ap (sum_over cs) half, sum_over-parts n cs (a / 2) x (omega (arith, p)))

sum_over-taxon : (cs : List ℕ) (i v : ℕ) → v < 2 ^ i → sum_over cs (2 ^ i + v) ≡ sum_over cs v + slice_index cs i
sum_over-taxon cs i v h =
    let e : 2 ^ i + v ≡ v + 2 ^ i * 1 = omega arith in
    let c : sum_over (drop i cs) 1 ≡ slice_index_or cs i 0 = sum_over-one (drop i cs) 0 ∙ get_or-drop i cs 0 0 ∙ rw add-zero in
    ap (sum_over cs) e ∙ sum_over-parts i cs v 1 h ∙ ap (λ (x : ℕ). sum_over cs v + x) c

-- ---- the constant of a taxon

module _ (s : List ℕ) (i : ℕ) where
  pub constant-none : (second : Bool) → (numbers_at s).taxa ≤ i → 0 ≡ slice_index (constants_at second s) i
  unfolding constants_at
  constant-none true h = sym (get_or-eq_default (second_at s) 0 (omega (arith, second-length s)))
  constant-none false h = sym (get_or-eq_default (first_at s) 0 (omega (arith, first-length s)))

  pub constant-second : (second : Bool) → second ≡ true → i < (numbers_at s).taxa → number 8 s (2256 + 8 * i) ≡ slice_index (constants_at second s) i
  unfolding constants_at
  constant-second second e h = rw e (sym (second_at_lem s i h))

  pub constant-first : (second : Bool) → second ≡ false → i < (numbers_at s).taxa → number 2 s (2128 + 2 * i) ≡ slice_index (constants_at second s) i
  unfolding constants_at
  constant-first second e h = rw e (sym (first-at s i h))

pub constants-length : (second : Bool) (s : List ℕ) → length (constants_at second s) ≡ (numbers_at s).taxa
unfolding constants_at
constants-length true s = second-length s
constants-length false s = first-length s

-- ---- the sums with a taxon more

module _ (at w c : ℕ) (old : List ℕ) where
  pub doubled-none : length old ≡ 2048 → Doubled at w c 0 old old
  doubled-none l = record { long = l; added = λ v h. absurd (omega arith); kept = λ k h. refl; behind = λ k h. refl }

  module _ (n : ℕ) (t : List ℕ) (d : Doubled at w c n old t) (h : n < w) (f : at + 2 * w ≤ 2048) where
    abbrev next : ℕ
    next = (slice_index t (at + n) + c) % 2 ^ 64

    added_next : (v : ℕ) → v < n + 1 → (v < n) ⊎ (n ≤ v) → slice_index (slice_set t (at + w + n) next) (at + w + v) ≡ (slice_index old (at + v) + c) % 2 ^ 64
    added_next v l (inl q) = get_or-set_other t (at + w + n) (at + w + v) next 0 (λ e. omega arith) ∙ d.added v q
    added_next v l (inr q) =
        let e : n ≡ v = omega arith in
        rw (← e) (get_or-set_same t (at + w + n) next 0 (omega (arith, d.long))
        ∙ ap (λ (x : ℕ). (x + c) % 2 ^ 64) (d.kept (at + n) (omega arith)))

    pub doubled-more : Doubled at w c (n + 1) old (slice_set t (at + w + n) next)
    doubled-more =
        record {
          long = simp length-set d.long;
          added = λ v l. added_next v l (less-or-not v n);
          kept = λ k l. get_or-set_other t (at + w + n) k next 0 (λ e. omega arith) ∙ d.kept k l;
          behind = λ k l. get_or-set_other t (at + w + n) k next 0 (λ e. omega arith) ∙ d.behind k l;
        }

-- ---- the sums of a byte

byte_sum-none : (cs : List ℕ) (b : ℕ) → byte_sum cs b 0 ≡ 0
unfolding byte_sum
byte_sum-none cs b = ap (λ (x : ℕ). x % 2 ^ 64) (sum_over-zero (drop (8 * b) cs))

byte_sum-taxon : (cs : List ℕ) (b i v : ℕ) → v < 2 ^ i → byte_sum cs b (2 ^ i + v) ≡ (byte_sum cs b v + slice_index cs (8 * b + i)) % 2 ^ 64
unfolding byte_sum
byte_sum-taxon cs b i v h =
    let e = sum_over-taxon (drop (8 * b) cs) i v h ∙ ap (λ (x : ℕ). sum_over (drop (8 * b) cs) v + x) (get_or-drop (8 * b) cs i 0) in
    ap (λ (x : ℕ). x % 2 ^ 64) e ∙ sym (mod-add-mod (sum_over (drop (8 * b) cs) v) (2 ^ 64) (slice_index cs (8 * b + i)))

module _ (cs : List ℕ) (b : ℕ) (old : List ℕ) where
  -- the sum over none of the taxa, with which the loop starts
  abbrev start : List ℕ
  start = slice_set old (256 * b) 0

  pub bytes-none : length old ≡ 2048 → b < 8 → ByteSums cs b 1 start start
  bytes-none l h =
      record {
        long = simp length-set l;
        here = λ v q.
            let e : 256 * b + v ≡ 256 * b = omega arith in
            let z : v ≡ 0 = omega arith in
            ap (λ (k : ℕ). slice_index start k) e
            ∙ get_or-set_same old (256 * b) 0 0 (omega arith)
            ∙ sym (ap (byte_sum cs b) z ∙ byte_sum-none cs b);
        kept = λ k q. refl;
        behind = λ k q. refl;
      }

  pub bytes-all : (t : List ℕ) → ByteSums cs b 256 start t → ByteSums cs b 256 old t
  bytes-all t s =
      record {
        long = s.long;
        here = s.here;
        kept = λ k q. s.kept k q ∙ get_or-set_other old (256 * b) k 0 0 (λ e. omega arith);
        behind = λ k q. s.behind k q ∙ get_or-set_other old (256 * b) k 0 0 (λ e. omega arith);
      }

  module _ (w i c : ℕ) (t u : List ℕ) (s : ByteSums cs b w old t) (e : w ≡ 2 ^ i) (q : c ≡ slice_index cs (8 * b + i)) (d : Doubled (256 * b) w c w t u)
      (m : w ≤ 128) where
    here-more : (v : ℕ) → v < w * 2 → (v < w) ⊎ (w ≤ v) → slice_index u (256 * b + v) ≡ byte_sum cs b v
    here-more v l (inl h) = d.kept (256 * b + v) (omega arith) ∙ s.here v h
    here-more v l (inr h) =
        let x = v - w in
        let p : 256 * b + v ≡ 256 * b + w + x = omega arith in
        let r : 2 ^ i + x ≡ v = omega arith in
        ap (λ (k : ℕ). slice_index u k) p
        ∙ d.added x (omega arith)
        ∙ ap₂ (λ (y z : ℕ). (y + z) % 2 ^ 64) (s.here x (omega arith)) q
        ∙ sym (byte_sum-taxon cs b i x (omega arith))
        ∙ ap (byte_sum cs b) r

    pub bytes-more : ByteSums cs b (w * 2) old u
    bytes-more =
        record {
          long = d.long;
          here = λ v l. here-more v l (less-or-not v w);
          kept = λ k l. d.kept k (omega arith) ∙ s.kept k l;
          behind = λ k l. d.behind k (omega arith) ∙ s.behind k l;
        }

-- ---- the table

pub sums_none : (cs t : List ℕ) → Sums cs 0 t
sums_none cs t = record { each = λ b v h l. absurd (omega arith) }

module _ (cs : List ℕ) (n : ℕ) (t u : List ℕ) (s : Sums cs n t) (d : ByteSums cs n 256 t u) where
  each_more : (b v : ℕ) → b < n + 1 → v < 256 → (b < n) ⊎ (n ≤ b) → slice_index u (256 * b + v) ≡ byte_sum cs b v
  each_more b v h l (inl q) = d.kept (256 * b + v) (omega arith) ∙ s.each b v q l
  each_more b v h l (inr q) = let e : n ≡ b = omega arith in rw (← e) (d.here v l)

  pub sums-more : Sums cs (n + 1) u
  sums-more = record { each = λ b v h l. each_more b v h l (less-or-not b n) }

-- ---- the bytes that the taxa do not reach

pub blank-new : (n : ℕ) → Blank n (replicate 2048 0)
blank-new n = record { long = length-replicate {A = ℕ} 2048 0; zero = λ b v h f l. get_or-replicate 2048 (256 * b + v) 0 0 (omega arith) }

pub blank-more : (cs : List ℕ) (n b : ℕ) (t u : List ℕ) → 8 * b < n → Blank n t → ByteSums cs b 256 t u → Blank n u
blank-more cs n b t u h k d = record { long = d.long; zero = λ a v g f l. d.behind (256 * a + v) (omega arith) ∙ k.zero a v g f l }

byte_sum-past : (cs : List ℕ) (b v : ℕ) → length cs ≤ 8 * b → byte_sum cs b v ≡ 0
unfolding byte_sum sum_over
byte_sum-past cs b v h = rw (drop_of_length-le cs h)

module _ (cs : List ℕ) (n b : ℕ) (t : List ℕ) (e : length cs ≡ n) (h : n ≤ 8 * b) (s : Sums cs b t) (k : Blank n t) where
  each_all : (a v : ℕ) → a < 8 → v < 256 → (a < b) ⊎ (b ≤ a) → slice_index t (256 * a + v) ≡ byte_sum cs a v
  each_all a v g l (inl q) = s.each a v q l
  each_all a v g l (inr q) = k.zero a v g (omega arith) l ∙ sym (byte_sum-past cs a v (omega arith))

  pub sums-all : Sums cs 8 t
  sums-all = record { each = λ a v g l. each_all a v g l (less-or-not a b) }

-- ---- the sum over a mask, one turn of the loop: byte b of the mask is the lowest of the rest

pub turn-less : (b rest : ℕ) → b < 8 → rest < 256 ^ (8 - b) → rest / 256 < 256 ^ (8 - (b + 1))
turn-less b rest h l =
    let n = 8 - (b + 1) in
    let e : 8 - b ≡ suc n = omega arith in
    let p = ap (λ (k : ℕ). 256 ^ k) e ∙ pow-suc 256 n in
    omega (arith, p)

sum_over-byte : (cs : List ℕ) (m : ℕ) → sum_over cs m ≡ sum_over cs (m % 256) + sum_over (drop 8 cs) (m / 256)
sum_over-byte cs m =
    let e : m ≡ m % 256 + 2 ^ 8 * (m / 256) = omega arith in
    ap (sum_over cs) e ∙ sum_over-parts 8 cs (m % 256) (m / 256) (omega arith)

sums-mod : (sum x y n : ℕ) → ((sum + x % n) % n + y) % n ≡ (sum + (x + y)) % n
sums-mod sum x y n =
    let e : sum + x % n + y ≡ x % n + (sum + y) = omega arith in
    let f : x + (sum + y) ≡ sum + (x + y) = omega arith in
    mod-add-mod (sum + x % n) n y ∙ ap (λ (z : ℕ). z % n) e ∙ mod-add-mod x n (sum + y) ∙ ap (λ (z : ℕ). z % n) f

module _ (cs t : List ℕ) (s : Sums cs 8 t) where
  pub turn-sum : (b rest sum : ℕ) → b < 8
      → ((sum + slice_index t (256 * b + rest % 256)) % 2 ^ 64 + sum_over (drop (8 * (b + 1)) cs) (rest / 256)) % 2 ^ 64
      ≡ (sum + sum_over (drop (8 * b) cs) rest) % 2 ^ 64
  unfolding byte_sum
  turn-sum b rest sum h =
      let ds = drop (8 * b) cs in
      let e : 8 * b + 8 ≡ 8 * (b + 1) = omega arith in
      let d : drop (8 * (b + 1)) cs ≡ drop 8 ds = sym (drop-drop 8 (8 * b) cs ∙ ap (λ (k : ℕ). drop k cs) e) in
      rw (s.each b (rest % 256) h (omega arith), d)
      (sums-mod sum (sum_over ds (rest % 256)) (sum_over (drop 8 ds) (rest / 256)) (2 ^ 64)
      ∙ ap (λ (x : ℕ). (sum + x) % 2 ^ 64) (sym (sum_over-byte ds rest)))

pub turn_end : (cs : List ℕ) (rest sum : ℕ) → rest < 256 ^ 0 → sum < 2 ^ 64 → (sum + sum_over cs rest) % 2 ^ 64 ≡ sum
turn_end cs rest sum h l =
    let z : rest ≡ 0 = omega arith in
    let e : sum_over cs rest ≡ 0 = ap (sum_over cs) z ∙ sum_over-zero cs in
    omega (arith, e)

-- ---- the sums by the tables of the two lists

module _ (s t : List ℕ) (m r : ℕ) where
  pub identifier-sum : Sums (constants_at true s) 8 t → SumBy t m r → r ≡ identifier (second_at s) m
  unfolding constants_at identifier
  identifier-sum h d = d.of (second_at s) h

  pub first-sum : Sums (constants_at false s) 8 t → SumBy t m r → r ≡ sum_over (first_at s) m % 2 ^ 64
  unfolding constants_at
  first-sum h d = d.of (first_at s) h
