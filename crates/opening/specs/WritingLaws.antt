-- The laws of what is written into a head. Assumes nothing.
--
--   puts-length, puts-outside, number-puts-outside, puts-at     numbers put one behind the other
--   puts-more, puts-all                 numbers as the loop puts them
--   numbers-put                         the numbers as the code puts them
--   name-length, name-outside, name-lies     one name
--   names-length, names-outside, names-lie   names in their places
--   names_more, names-all               names as the loop writes them
--   copied-name                         a name, as the code copies it
use Prim.Native.Nat.{ℕ, zero, suc, ◌+◌, ◌*◌, ◌^◌, ◌≤◌, ◌<◌}
use Rattle.std.proofs.Math.Nat.{add-zero, mul-suc}
use Rattle.std.proofs.Common.{mul-zero, sym, ap, ◌∙◌, inl, inr, length-drop, drop_of_length-le, length-take-le, take_all}
use Rattle.std.proofs.Math.Numerals.{add-one}
use native.Mathlib.Omega.{arith}
use Rattle.std.specs.Prelude.{◌≡◌, ◌⊎◌, length, get_or, set, take, drop}
use Rattle.std.proofs.Math.Path.{refl}
use mathlib.Core.List.{List, [], ◌∷◌}
use Rattle.std.proofs.Math.ListN.{length-set}
use Rattle.std.proofs.lemmas.List.Edits.{sets}
use Rattle.std.proofs.Math.Seq.{drop-cons, get_or-set_same, get_or-set_other}
use Rattle.trees.specs.Opening.{Numbers}
use Rattle.fields.specs.Field.{number, put}
use Rattle.fields.specs.FieldLaws.{put-length, put-outside, number_same, number_put}
use Rattle.fields.specs.Run.{copied}
use Rattle.fields.specs.RunLaws.{copied-length, copied-inside, copied-outside}
use Rattle.head.specs.Head.{name_at}
use Rattle.opening.specs.Places.{Lies}
use Rattle.opening.specs.PlacesLaws.{lies-kept}
use Rattle.opening.specs.Writing.{puts, with_name, with_names, with_numbers}

-- ---- numbers, one behind the other

module _ (k : ℕ) where
  pub puts-length : (vs s : List ℕ) (at : ℕ) → length (puts k s at vs) ≡ length s
  unfolding puts
  puts-length [] s at = refl
  puts-length (v ∷ vs) s at = puts-length vs (put k s at v) (at + k) ∙ put-length k s at v

  pub puts-outside : (vs s : List ℕ) (at i : ℕ) → (i < at) ⊎ (at + k * length vs ≤ i) → get_or (puts k s at vs) i 0 ≡ get_or s i 0
  unfolding puts
  puts-outside [] s at i h = refl
  puts-outside (v ∷ vs) s at i (inl h) =
      puts-outside vs (put k s at v) (at + k) i (inl (omega arith)) ∙ put-outside k s at v i (inl h)
  puts-outside (v ∷ vs) s at i (inr h) =
      let m = mul-suc k (length vs) in
      puts-outside vs (put k s at v) (at + k) i (inr (omega arith)) ∙ put-outside k s at v i (inr (omega arith))

  -- a number of any width before or behind is kept
  pub number-puts-outside : (j : ℕ) (vs s : List ℕ) (at a : ℕ) → (a + j ≤ at) ⊎ (at + k * length vs ≤ a)
      → number j (puts k s at vs) a ≡ number j s a
  number-puts-outside j vs s at a (inl h) = number_same j _ _ a a (λ i l. puts-outside vs s at (a + i) (inl (omega arith)))
  number-puts-outside j vs s at a (inr h) = number_same j _ _ a a (λ i l. puts-outside vs s at (a + i) (inr (omega arith)))

  -- what was put is read
  pub puts-at : (vs s : List ℕ) (at i : ℕ) → at + k * length vs ≤ length s → ((j : ℕ) → get_or vs j 0 < 256 ^ k) → i < length vs
      → number k (puts k s at vs) (at + k * i) ≡ get_or vs i 0
  unfolding puts
  puts-at [] s at i f b h = absurd (omega arith)
  puts-at (v ∷ vs) s at zero f b h =
      let m = mul-suc k (length vs) in
      rw (mul-zero k, add-zero at)
      (number-puts-outside k vs (put k s at v) (at + k) at (inl (omega arith)) ∙ number_put k s at v (omega arith) (b 0))
  puts-at (v ∷ vs) s at (suc i) f b h =
      let m = mul-suc k (length vs) in
      let n = mul-suc k i in
      let l = put-length k s at v in
      let e : at + k * suc i ≡ at + k + k * i = omega arith in
      rw e (puts-at vs (put k s at v) (at + k) i (omega arith) (λ j. b (suc j)) (omega arith))

  -- ---- numbers as the loop puts them: those from i on are left

  pub puts-more : (vs s : List ℕ) (at i : ℕ) → i < length vs
      → puts k s (at + k * i) (drop i vs) ≡ puts k (put k s (at + k * i) (get_or vs i 0)) (at + k * (i + 1)) (drop (i + 1) vs)
  unfolding puts
  puts-more vs s at i h =
      let m = mul-suc k i in
      let e : at + k * suc i ≡ at + k * i + k = omega arith in
      rw (add-one i, drop-cons vs i 0 h, e)

  pub puts-all : (vs s : List ℕ) (at i : ℕ) → length vs ≤ i → puts k s at (drop i vs) ≡ s
  unfolding puts
  puts-all vs s at i h = rw (drop_of_length-le vs h)

-- the numbers
pub numbers-put : (s t u v w y z : List ℕ) (x : Numbers) → t ≡ put 2 s 0 x.taxa → u ≡ put 2 t 2 x.lanes → v ≡ put 2 u 4 x.tree_room
    → w ≡ put 2 v 6 x.split_room → y ≡ put 2 w 8 x.places → z ≡ put 2 y 14 x.kept → z ≡ with_numbers s x
unfolding with_numbers puts
numbers-put s t u v w y z x a b d e f g = rw (g, f, e, d, b, a)

-- ---- one name

module _ (s : List ℕ) (i : ℕ) (w : List ℕ) where
  pub name-length : length (with_name s i w) ≡ length s
  unfolding with_name
  name-length = copied-length (set s (16 + 33 * i) (length w)) (17 + 33 * i) w 0 (length w) ∙ length-set s (16 + 33 * i) (length w)

  module _ (short : length w ≤ 32) where
    pub name-outside : (j : ℕ) → (j < 16 + 33 * i) ⊎ (49 + 33 * i ≤ j) → get_or (with_name s i w) j 0 ≡ get_or s j 0
    unfolding with_name
    name-outside j (inl h) =
        copied-outside _ _ w 0 (length w) j (inl (omega arith)) ∙ get_or-set_other s (16 + 33 * i) j (length w) 0 (λ e. omega arith)
    name-outside j (inr h) =
        copied-outside _ _ w 0 (length w) j (inr (omega arith)) ∙ get_or-set_other s (16 + 33 * i) j (length w) 0 (λ e. omega arith)

    pub name-lies : 49 + 33 * i ≤ length s → Lies (with_name s i w) i w
    unfolding with_name
    name-lies f =
        let l = length-set s (16 + 33 * i) (length w) in
        record {
          size =
              copied-outside _ _ w 0 (length w) (16 + 33 * i) (inl (omega arith))
              ∙ get_or-set_same s (16 + 33 * i) (length w) 0 (omega arith);
          bytes = λ j h.
              copied-inside _ _ w 0 (length w) (17 + 33 * i + j) j (omega arith) (omega arith) (omega arith) (omega arith) (omega arith);
        }

-- ---- names in their places

pub names-length : (ws : List (List ℕ)) (s : List ℕ) (i : ℕ) → length (with_names s i ws) ≡ length s
unfolding with_names
names-length [] s i = refl
names-length (w ∷ ws) s i = names-length ws (with_name s i w) (suc i) ∙ name-length s i w

pub names-outside : (ws : List (List ℕ)) (s : List ℕ) (i j : ℕ) → ((m : ℕ) → length (get_or ws m []) ≤ 32)
    → (j < 16 + 33 * i) ⊎ (16 + 33 * (i + length ws) ≤ j) → get_or (with_names s i ws) j 0 ≡ get_or s j 0
unfolding with_names
names-outside [] s i j short h = refl
names-outside (w ∷ ws) s i j short (inl h) =
    names-outside ws (with_name s i w) (suc i) j (λ m. short (suc m)) (inl (omega arith)) ∙ name-outside s i w (short 0) j (inl h)
names-outside (w ∷ ws) s i j short (inr h) =
    names-outside ws (with_name s i w) (suc i) j (λ m. short (suc m)) (inr (omega arith))
    ∙ name-outside s i w (short 0) j (inr (omega arith))

pub names-lie : (ws : List (List ℕ)) (s : List ℕ) (i j : ℕ) → ((m : ℕ) → length (get_or ws m []) ≤ 32)
    → 16 + 33 * (i + length ws) ≤ length s → j < length ws → Lies (with_names s i ws) (i + j) (get_or ws j [])
unfolding with_names
names-lie [] s i j short f h = absurd (omega arith)
names-lie (w ∷ ws) s i zero short f h =
    rw (add-zero i)
    (lies-kept (with_name s i w) _ i w (short 0)
    (λ m a b. names-outside ws (with_name s i w) (suc i) m (λ n. short (suc n)) (inl (omega arith)))
    (name-lies s i w (short 0) (omega arith)))
names-lie (w ∷ ws) s i (suc j) short f h =
    let e : i + suc j ≡ suc i + j = omega arith in
    let l = name-length s i w in
    rw e (names-lie ws (with_name s i w) (suc i) j (λ m. short (suc m)) (omega arith) (omega arith))

-- ---- names as the loop writes them: those from i on are left

module _ (ns : List (List ℕ)) (s : List ℕ) (i : ℕ) where
  pub names_more : i < length ns → with_names s i (drop i ns) ≡ with_names (with_name s i (get_or ns i [])) (i + 1) (drop (i + 1) ns)
  unfolding with_names
  names_more h = rw (drop-cons ns i [] h, add-one i)

  pub names-all : length ns ≤ i → with_names s i (drop i ns) ≡ s
  unfolding with_names
  names-all h = rw (drop_of_length-le ns h)

-- ---- a name, copied with the byte of its length

pub copied-name : (s t : List ℕ) (i n : ℕ) → n ≡ get_or t (16 + 33 * i) 0 → 17 + 33 * i + n ≤ length t
    → copied s (16 + 33 * i) t (16 + 33 * i) (n + 1) ≡ with_name s i (name_at t i)
unfolding with_name copied name_at
copied-name s t i n q h =
    let k : suc (16 + 33 * i) ≡ 17 + 33 * i = omega arith in
    let d = length-drop (17 + 33 * i) t in
    let w : List ℕ = take n (drop (17 + 33 * i) t) in
    let l : length w ≡ n = length-take-le n (drop (17 + 33 * i) t) (omega arith) in
    let e : take (n + 1) (drop (16 + 33 * i) t) ≡ n ∷ w = rw (add-one n, drop-cons t (16 + 33 * i) 0 (omega arith), k, ← q) refl in
    ap (sets s (16 + 33 * i)) e
    ∙ ap (λ (m : ℕ). sets (set s (16 + 33 * i) n) m w) k
    ∙ rw (← q, l) (ap (sets (set s (16 + 33 * i) n) (17 + 33 * i)) (sym (take_all n w (omega arith))))
