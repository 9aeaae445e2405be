-- The laws of names as they are written. Assumes nothing.
--
--   name-from                              a name, as the code finds it
--   wants-mark, wants-none, wants-listed   the bytes that want quotes
--   put-plain, put-in-quotes               what a name is written as, and stored
--   underscored-more, underscored-end      a plain name, a byte at a time
--   doubled-other, doubled-quote           one byte in quotes
--   doubled-more, doubled-end              a name in quotes, a byte at a time
--   plain_more, plain-not, plain_end       whether a name is plain, a byte at a time
use Rattle.std.specs.Prelude.{ℕ, suc, ◌+◌, ◌-◌, ◌*◌, ◌≤◌, ◌<◌, ◌≡◌, refl, Bool, true, false, ◌&&◌, List, [], ◌∷◌, ◌++◌, map, eqb, length, get_or, set, if◌then◌else◌}
use Rattle.std.proofs.Common.{add-one, arith, ◌∙◌}
use Rattle.std.proofs.Math.Path.{ap, sym}
use Rattle.std.proofs.Math.Bool.{not}
use Rattle.std.proofs.Math.Seq.{slice, slice-cons, slice_empty}
use borrow.Author.Tests.{eqb-true, eq-eqb, ne_eqb}
use Rattle.trees.specs.Plain.{every, member, bytes}
use Rattle.trees.specs.Text.{apostrophe}
use Rattle.trees.specs.Written.{doubled, wants_quotes, underscored, written_name}
use Rattle.std.specs.List.{list_any}
use Rattle.theorems.specs.ListLaws.{if-true, if-false, same_bool, Mem, mem-member}
use Rattle.theorems.specs.WrittenNameLaws.{in_quotes}
use Rattle.head.specs.Head.{name_at}
use Rattle.head.specs.HeadLaws.{name-slice}
use Rattle.putting.specs.Put.{Put}
use Rattle.putting.specs.PutLaws.{put_one, put_then}
use Rattle.writer.specs.Name.{is_plain}

-- ---- a name, and what it is written as

pub name-from : (s : List ℕ) (i e : ℕ) → e ≡ 17 + 33 * i + get_or s (17 + 33 * i - 1) 0 → name_at s i ≡ slice (17 + 33 * i) e s
name-from s i e q =
    let p : 17 + 33 * i - 1 ≡ 16 + 33 * i = omega arith in
    name-slice s i ∙ ap (λ (z : ℕ). slice (17 + 33 * i) z s) (sym (q ∙ ap (λ (k : ℕ). 17 + 33 * i + get_or s k 0) p))

module _ (w : List ℕ) {l after : List ℕ} {at : ℕ} where
  pub put-plain : {e : ℕ} → is_plain w ≡ true → Put l at (map underscored w) after e → Put l at (written_name w) after e
  unfolding written_name is_plain
  put-plain q p = rw (if-true (map underscored w) (in_quotes w) q) p

  pub put-in-quotes : {u v : List ℕ} {z : ℕ} → is_plain w ≡ false → u ≡ set l at apostrophe → Put u (at + 1) (doubled w) v z → after ≡ set v z apostrophe
      → Put l at (written_name w) after (z + 1)
  unfolding written_name is_plain
  put-in-quotes q a p c = rw (if-false (map underscored w) (in_quotes w) q) (put_then (put_one a) (put_then p (put_one c)))

-- ---- the bytes that want quotes

abbrev marks : List ℕ
marks = 95 ∷ 40 ∷ 41 ∷ 91 ∷ 93 ∷ 39 ∷ 58 ∷ 59 ∷ 44 ∷ []

module _ (b : ℕ) where
  pub wants-mark : Mem b marks → true ≡ wants_quotes b
  unfolding wants_quotes
  wants-mark m = sym (mem-member b marks m)

  pub wants-none : (b ≡ 95 → ⊥) → (b ≡ 40 → ⊥) → (b ≡ 41 → ⊥) → (b ≡ 91 → ⊥) → (b ≡ 93 → ⊥) → (b ≡ 39 → ⊥) → (b ≡ 58 → ⊥) → (b ≡ 59 → ⊥) → (b ≡ 44 → ⊥) → false ≡ wants_quotes b
  unfolding wants_quotes member bytes
  wants-none a c d f g h i j k =
      simp (ne_eqb b 95 a, ne_eqb b 40 c, ne_eqb b 41 d, ne_eqb b 91 f, ne_eqb b 93 g, ne_eqb b 39 h, ne_eqb b 58 i, ne_eqb b 59 j, ne_eqb b 44 k)

eqb-swap : (a b : ℕ) → eqb a b ≡ eqb b a
eqb-swap a b = same_bool (eqb a b) (eqb b a) (λ e. eq-eqb b a (sym (eqb-true a b e))) (λ e. eq-eqb a b (sym (eqb-true b a e)))

any-member : (b : ℕ) (xs : List ℕ) → list_any (λ y. eqb y b) xs ≡ member b xs
unfolding member
any-member b [] = refl
any-member b (x ∷ xs) = rw (eqb-swap x b, any-member b xs)

pub wants-listed : (b : ℕ) → list_any (λ y. eqb y b) marks ≡ wants_quotes b
unfolding wants_quotes
wants-listed b = any-member b (bytes "_()[]':;,")

-- ---- bytes in quotes

module _ (b : ℕ) where
  pub doubled-other : (b ≡ apostrophe → ⊥) → doubled (b ∷ []) ≡ b ∷ []
  unfolding doubled
  doubled-other n = if-false _ _ (ne_eqb b apostrophe n)

  pub doubled-quote : b ≡ apostrophe → doubled (b ∷ []) ≡ b ∷ b ∷ []
  unfolding doubled
  doubled-quote e = if-true _ _ (eq-eqb b apostrophe e)

doubled-cons : (b : ℕ) (w : List ℕ) → doubled (b ∷ w) ≡ doubled (b ∷ []) ++ doubled w
unfolding doubled
doubled-cons b w = go (eqb b apostrophe)
  where
    go : (t : Bool) → (if t then b ∷ b ∷ doubled w else b ∷ doubled w) ≡ (if t then b ∷ b ∷ [] else b ∷ []) ++ doubled w
    go true = refl
    go false = refl

-- ---- the bytes of s from i up to e

module _ (s : List ℕ) (i e : ℕ) where
  module _ (h : i < e) (l : e ≤ length s) where
    pub plain_more : wants_quotes (get_or s i 0) ≡ false → is_plain (slice i e s) ≡ is_plain (slice (i + 1) e s)
    unfolding is_plain every
    plain_more q = ap is_plain (slice-cons i e s 0 h l) ∙ ap (λ (t : Bool). not t && is_plain (slice (suc i) e s)) q ∙ rw (add-one i)

    pub plain-not : wants_quotes (get_or s i 0) ≡ true → is_plain (slice i e s) ≡ false
    unfolding is_plain every
    plain-not q = ap is_plain (slice-cons i e s 0 h l) ∙ ap (λ (t : Bool). not t && is_plain (slice (suc i) e s)) q

    pub underscored-more : (x : ℕ) → x ≡ underscored (get_or s i 0) → map underscored (slice i e s) ≡ (x ∷ []) ++ map underscored (slice (i + 1) e s)
    underscored-more x p = ap (map underscored) (slice-cons i e s 0 h l) ∙ rw (add-one i, p)

    pub doubled-more : doubled (slice i e s) ≡ doubled (get_or s i 0 ∷ []) ++ doubled (slice (i + 1) e s)
    doubled-more = ap doubled (slice-cons i e s 0 h l) ∙ doubled-cons (get_or s i 0) (slice (suc i) e s) ∙ rw (add-one i)

  module _ (h : i ≤ e) (l : e ≤ i) where
    none_left : slice i e s ≡ []
    none_left =
        let z : i ≡ e = omega arith in
        rw z (slice_empty e s)

    pub plain_end : is_plain (slice i e s) ≡ true
    unfolding is_plain every
    plain_end = ap is_plain none_left

    pub underscored-end : map underscored (slice i e s) ≡ []
    underscored-end = ap (map underscored) none_left

    pub doubled-end : doubled (slice i e s) ≡ []
    unfolding doubled
    doubled-end = ap doubled none_left
