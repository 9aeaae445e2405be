-- The laws of names that are counted, a byte at a time.
--
--   space-quoted, space-here, space-not     whether a byte is a space outside quotes
--   quote-turns, quote-stays                whether quotes are open behind it
--   names-all, names_more, names-last       the names from byte i on: from the first byte, with one byte more, behind the last
--   taxa-many, taxa-few                     how many taxa they are
use Rattle.std.specs.Prelude.{◌≡◌, ℕ, ◌+◌, ◌<◌, ◌≤◌, Bool, true, false, not, ◌&&◌, List, [], ◌∷◌, length, drop, Some, None, ◌==◌, ◌≢◌, slice_index, refl, if◌then◌else◌}
use Rattle.std.proofs.Common.{add-one, arith, drop_of_length-le, drop-cons}
use Rattle.std.proofs.Math.Path.{sym}
use borrow.Author.Tests.{lt-ltb, le-ltb, eq-eqb, ne_eqb}
use Rattle.trees.specs.Text.{turned, with_byte, parts}
use Rattle.trees.specs.Names.{name_count}
use Rattle.filing.specs.Names.{taxa_of, spaces_at}

module _ (q : Bool) (b : ℕ) where
  pub space-quoted : q ≡ true → 0 ≡ spaces_at q b
  unfolding spaces_at
  space-quoted e = rw e

  pub space-here : q ≡ false → b ≡ 32 → 1 ≡ spaces_at q b
  unfolding spaces_at
  space-here o e = rw (o, eq-eqb b 32 e)

  pub space-not : q ≡ false → (b ≢ 32) → 0 ≡ spaces_at q b
  unfolding spaces_at
  space-not o e = rw (o, ne_eqb b 32 e)

  pub quote-turns : b ≡ 39 → not q ≡ turned q b
  unfolding turned
  quote-turns e = sym (rw (eq-eqb b 39 e))

  pub quote-stays : (b ≢ 39) → q ≡ turned q b
  unfolding turned
  quote-stays e = sym (rw (ne_eqb b 39 e))

with-length : (b : ℕ) (ws : List (List ℕ)) → length (with_byte b ws) ≡ length ws
unfolding with_byte
with-length b [] = refl
with-length b (w ∷ ws) = refl

names-step : (q : Bool) (b : ℕ) (s : List ℕ) → length (parts 32 q (b ∷ s)) ≡ spaces_at q b + length (parts 32 (turned q b) s)
unfolding parts spaces_at
names-step q b s = go (not q && b == 32)
  where
    go : (t : Bool) → length (if t then [] ∷ parts 32 (turned q b) s else with_byte b (parts 32 (turned q b) s)) ≡ (if t then 1 else 0) + length (parts 32 (turned q b) s)
    go true = omega arith
    go false = omega (arith, with-length b (parts 32 (turned q b) s))

pub names-all : (s : List ℕ) → length (parts 32 false (drop 0 s)) ≡ name_count s
unfolding name_count
names-all s = refl

pub names_more : (q : Bool) (s : List ℕ) (i : ℕ) → i < length s → (n : ℕ) (r : Bool) → n ≡ spaces_at q (slice_index s i) → r ≡ turned q (slice_index s i)
    → length (parts 32 q (drop i s)) ≡ n + length (parts 32 r (drop (i + 1) s))
names_more q s i h n r e f = rw (drop-cons s i 0 h, add-one i, e, f) (names-step q (slice_index s i) _)

pub names-last : (q : Bool) (s : List ℕ) (i : ℕ) → length s ≤ i → length (parts 32 q (drop i s)) ≡ 1
unfolding parts
names-last q s i h = rw (drop_of_length-le s h)

pub taxa-many : (n : ℕ) → 64 < n → None ≡ taxa_of n
unfolding taxa_of
taxa-many n h = rw (lt-ltb 64 n h)

pub taxa-few : (n r : ℕ) → n ≤ 64 → r ≡ n → Some r ≡ taxa_of n
unfolding taxa_of
taxa-few n r h e = rw (le-ltb 64 n h, e) refl
