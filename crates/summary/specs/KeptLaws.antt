-- What is kept of a first line decides as the line itself. Assumes nothing.
--
--   fresh out            nothing is kept yet
--   keeps-none, keeps-after     nothing yet, and bytes more
--   names-short          a good name list of n names has fewer than 67 · n bytes
--   line-decides         with a buffer of 4,288 bytes, what is kept opens what the line asks for
use Prim.Native.Nat.{ℕ, suc, ◌+◌, ◌*◌, ◌≤◌, ◌<◌}
use Rattle.std.proofs.Common.{arith, ◌∙◌, inl, inr, true≢false, lt-ltb, le-ltb, eqb-true}
use Rattle.std.specs.Prelude.{◌≡◌, ◌⊎◌, Bool, ◌&&◌, ◌||◌, ltb, if◌then◌else◌}
use Rattle.std.proofs.Math.Path.{refl, sym, ap}
use Rattle.std.proofs.Math.Bool.{true, false, not}
use mathlib.Core.List.{List, [], ◌∷◌, ◌++◌, map, append_assoc, append-nil}
use Rattle.std.proofs.Math.Dec.{eqb}
use Rattle.std.proofs.Math.ListN.{length, take, length-append, length-set, length-map}
use Rattle.std.proofs.Math.Seq.{take_all, take-append-le, take-suc-set, set_out, length-take-le}
use Rattle.trees.specs.Plain.{every}
use Rattle.trees.specs.Text.{is_label_byte, is_quoted_byte, turned, open_after, with_byte, parts, is_quoted, is_label, spaced, unquoted, read_as}
use Rattle.trees.specs.Names.{name_of, names_in, is_name, different, good_names, name_count}
use Rattle.trees.specs.Opening.{opening}
use Rattle.theorems.specs.ListLaws.{and_left, and_right, less-or-not}
use Rattle.theorems.specs.QuoteLaws.{open-append}
use Rattle.theorems.specs.NameLaws.{is_name-some, is_name-short}
use Rattle.theorems.specs.LabelLaws.{plain-reads, QuotedLabel, label-cases}
use Rattle.summary.specs.Summary.{summary_numbers, names_opening, summary_opening}
use Rattle.summary.specs.FirstLine.{Kept, few, Keeps, spaces_with, used_with, kept_with, kept_after, kept_opening}
use Rattle.summary.specs.OpeningLaws.{many-names}

-- ---- one byte after another

with-length : (b : ℕ) (r : List (List ℕ)) → length (with_byte b r) ≡ length r
unfolding with_byte
with-length b [] = refl
with-length b (w ∷ ws) = refl

parts-step : (q : Bool) (b : ℕ) (v : List ℕ)
    → length (parts 32 q (b ∷ v)) ≡ (if not q && eqb b 32 then suc (length (parts 32 (turned q b) v)) else length (parts 32 (turned q b) v))
unfolding parts
parts-step q b v = go (not q && eqb b 32)
  where
    go : (t : Bool) → length (if t then [] ∷ parts 32 (turned q b) v else with_byte b (parts 32 (turned q b) v))
        ≡ (if t then suc (length (parts 32 (turned q b) v)) else length (parts 32 (turned q b) v))
    go true = refl
    go false = with-length b (parts 32 (turned q b) v)

parts_more : (q : Bool) (v : List ℕ) (b : ℕ)
    → length (parts 32 q (v ++ b ∷ [])) ≡ (if not (open_after q v) && eqb b 32 then suc (length (parts 32 q v)) else length (parts 32 q v))
unfolding open_after
parts_more q [] b = parts-step q b [] ∙ (unfold parts in refl)
parts_more q (a ∷ v) b =
    parts-step q a (v ++ b ∷ []) ∙ go (not q && eqb a 32) (not (open_after (turned q a) v) && eqb b 32) _ _ (parts_more (turned q a) v b)
    ∙ ap (λ (n : ℕ). if not (open_after (turned q a) v) && eqb b 32 then suc n else n) (sym (parts-step q a v))
  where
    go : (t u : Bool) (m n : ℕ) → m ≡ (if u then suc n else n)
        → (if t then suc m else m) ≡ (if u then suc (if t then suc n else n) else (if t then suc n else n))
    go true true m n e = ap suc e
    go true false m n e = ap suc e
    go false true m n e = e
    go false false m n e = e

few-more : (n m : ℕ) (q : Bool) (b : ℕ) → suc n ≡ few m → suc (spaces_with n q b) ≡ few (if not q && eqb b 32 then suc m else m)
unfolding spaces_with
few-more n m q b e = go (not q && eqb b 32) (less-or-not m 65)
  where
    last : m < 65 → (suc m < 65) ⊎ (65 ≤ suc m) → suc m ≡ few (suc m)
    last h (inl l) = sym (rw (lt-ltb (suc m) 65 l))
    last h (inr l) = rw (le-ltb (suc m) 65 l) (omega arith)

    go : (t : Bool) → (m < 65) ⊎ (65 ≤ m) → suc (if t && ltb n 64 then suc n else n) ≡ few (if t then suc m else m)
    go false s = e
    go true (inr h) =
        let f : suc n ≡ 65 = rw (le-ltb m 65 h) at e in
        rw (le-ltb n 64 (omega arith), le-ltb (suc m) 65 (omega arith)) f
    go true (inl h) =
        let f : suc n ≡ m = rw (lt-ltb m 65 h) at e in
        rw (lt-ltb n 64 (omega arith)) (ap suc f ∙ last h (less-or-not (suc m) 65))

module _ (room : ℕ) (v : List ℕ) (k : Kept) (g : Keeps room v k) (b : ℕ) where
  spaces-on : suc (spaces_with k.spaces k.quoted b) ≡ few (name_count (v ++ b ∷ []))
  unfolding name_count
  spaces-on =
      few-more k.spaces (name_count v) k.quoted b g.spaces
      ∙ ap (λ (q : Bool). few (if not q && eqb b 32 then suc (name_count v) else name_count v)) g.quoted
      ∙ ap few (sym (parts_more false v b))

  quotes-on : turned k.quoted b ≡ open_after false (v ++ b ∷ [])
  unfolding open_after
  quotes-on = ap (λ (q : Bool). turned q b) g.quoted ∙ sym (open-append false v (b ∷ []))

  fits : length v < room → Keeps room (v ++ b ∷ []) (kept_with k b)
  unfolding kept_with used_with
  fits h =
      let a : take room v ≡ v = take_all room v (omega arith) in
      let l : length (v ++ b ∷ []) ≡ length v + 1 = length-append v (b ∷ []) in
      let c : take room (v ++ b ∷ []) ≡ v ++ b ∷ [] = take_all room (v ++ b ∷ []) (omega arith) in
      let u : k.used ≡ length v = g.used ∙ ap length a in
      let i : k.used < length k.bytes = omega (arith, g.size) in
      record {
        size = length-set k.bytes k.used b ∙ g.size;
        used = rw (lt-ltb k.used (length k.bytes) i, c) (omega arith);
        bytes = rw (lt-ltb k.used (length k.bytes) i, take-suc-set k.bytes k.used b i, g.bytes, a, c) refl;
        spaces = spaces-on;
        quoted = quotes-on;
      }

  full : room ≤ length v → Keeps room (v ++ b ∷ []) (kept_with k b)
  unfolding kept_with used_with
  full h =
      let c : take room (v ++ b ∷ []) ≡ take room v = take-append-le room v (b ∷ []) h in
      let u : k.used ≡ room = g.used ∙ length-take-le room v h in
      let i : length k.bytes ≤ k.used = omega (arith, g.size) in
      record {
        size = length-set k.bytes k.used b ∙ g.size;
        used = rw (le-ltb k.used (length k.bytes) i, c) g.used;
        bytes = rw (le-ltb k.used (length k.bytes) i, set_out k.bytes k.used b i, c) g.bytes;
        spaces = spaces-on;
        quoted = quotes-on;
      }

  keeps-more : Keeps room (v ++ b ∷ []) (kept_with k b)
  keeps-more = go (less-or-not (length v) room)
    where
      go : (length v < room) ⊎ (room ≤ length v) → Keeps room (v ++ b ∷ []) (kept_with k b)
      go (inl h) = fits h
      go (inr h) = full h

pub keeps-after : (room : ℕ) (v w : List ℕ) (k : Kept) → Keeps room v k → Keeps room (v ++ w) (kept_after k w)
unfolding kept_after
keeps-after room v [] k g = rw (append-nil v) g
keeps-after room v (b ∷ w) k g = rw (← append_assoc v (b ∷ []) w) (keeps-after room (v ++ b ∷ []) w (kept_with k b) (keeps-more room v k g b))

-- nothing is kept yet, in a buffer of any bytes
abbrev pub fresh : List ℕ → Kept
fresh out = record { used = 0; spaces = 0; quoted = false; bytes = out }

pub keeps-none : (out : List ℕ) → Keeps (length out) [] (fresh out)
unfolding name_count open_after
keeps-none out = record { size = refl; used = ap length nothing; bytes = nothing; spaces = refl; quoted = refl }
  where
    nothing : take 0 out ≡ take (length out) []
    nothing = sym (take_all (length out) [] (omega arith))

-- ---- a long line is no name list

-- two quotes inside quotes mean one
quoted-most : (q : Bool) (v : List ℕ) → is_quoted q v ≡ true → length v ≤ 2 * length (unquoted q v) + (if q then 1 else 0)
unfolding is_quoted unquoted turned
quoted-most true [] e = absurd (true≢false (sym e))
quoted-most false [] e = omega arith
quoted-most true (b ∷ v) e = go (eqb b 39) (quoted-most false v) (quoted-most true v) e
  where
    go : (t : Bool) → (is_quoted false v ≡ true → length v ≤ 2 * length (unquoted false v) + 0)
        → (is_quoted true v ≡ true → length v ≤ 2 * length (unquoted true v) + 1)
        → ((t || is_quoted_byte b) && is_quoted (if t then false else true) v) ≡ true
        → suc (length v) ≤ 2 * length (if t then unquoted (if t then false else true) v else b ∷ unquoted (if t then false else true) v) + 1
    go true f g h = omega (arith, f h)
    go false f g h = omega (arith, g (and_right (is_quoted_byte b) (is_quoted true v) h))
quoted-most false (b ∷ v) e = go (eqb b 39) (quoted-most true v) e
  where
    go : (t : Bool) → (is_quoted true v ≡ true → length v ≤ 2 * length (unquoted true v) + 1)
        → ((t || false) && is_quoted (if t then true else false) v) ≡ true
        → suc (length v) ≤ 2 * length (b ∷ unquoted (if t then true else false) v) + 0
    go true f h = omega (arith, f h)
    go false f h = absurd (true≢false (sym h))

-- a name of 32 apostrophes has 66 bytes in quotes
label-most : (w : List ℕ) → is_label w ≡ true → length (read_as w) ≤ 32 → length w ≤ 66
label-most w e h = go (label-cases w e)
  where
    go : QuotedLabel w ⊎ (every is_label_byte w ≡ true) → length w ≤ 66
    go (inl c) =
        let r : length (read_as w) ≡ length (unquoted true c.0) = ap (λ (x : List ℕ). length (read_as x)) c.1 ∙ (unfold read_as in refl) in
        omega (arith, quoted-most true c.0 c.3, ap length c.1)
    go (inr p) = omega (arith, ap length (plain-reads w p), length-map w spaced)

name-most : (w : List ℕ) → is_name (name_of w) ≡ true → length w ≤ 66
unfolding name_of
name-most w e = go (is_label w) refl e
  where
    go : (t : Bool) → is_label w ≡ t → is_name (if t then read_as w else []) ≡ true → length w ≤ 66
    go true l f = label-most w l (is_name-short (read_as w) f)
    go false l f = absurd (omega (arith, is_name-some [] f))

-- the bytes of parts, and one more for each
with_spaces : List (List ℕ) → ℕ
with_spaces [] = 0
with_spaces (w ∷ ws) = suc (length w) + with_spaces ws

parts-bytes : (q : Bool) (v : List ℕ) → with_spaces (parts 32 q v) ≡ suc (length v)
unfolding parts with_spaces with_byte
parts-bytes q [] = refl
parts-bytes q (b ∷ v) = go (not q && eqb b 32) (parts 32 (turned q b) v) (parts-bytes (turned q b) v)
  where
    go : (t : Bool) (r : List (List ℕ)) → with_spaces r ≡ suc (length v) → with_spaces (if t then [] ∷ r else with_byte b r) ≡ suc (suc (length v))
    go true r e = omega arith
    go false [] e = absurd (omega arith)
    go false (w ∷ ws) e = omega arith

names-room : (ws : List (List ℕ)) → every is_name (map name_of ws) ≡ true → with_spaces ws ≤ 67 * length ws
unfolding every with_spaces
names-room [] e = omega arith
names-room (w ∷ ws) e =
    omega (arith, name-most w (and_left (is_name (name_of w)) _ e), names-room ws (and_right (is_name (name_of w)) _ e))

pub names-short : (n : ℕ) (v : List ℕ) → good_names n (names_in v) ≡ true → length v < 67 * n
unfolding good_names names_in
names-short n v e =
    let ws = parts 32 false v in
    let c = eqb-true (length (map name_of ws)) n (and_left (eqb (length (map name_of ws)) n) _ e) in
    let r = and_left (every is_name (map name_of ws)) (different (map name_of ws)) (and_right (eqb (length (map name_of ws)) n) _ e) in
    omega (arith, c, length-map ws name_of, parts-bytes false v, names-room ws r)

long-bad : (n : ℕ) (v : List ℕ) → n ≤ 64 → 4288 ≤ length v → good_names n (names_in v) ≡ false
long-bad n v h l = go (good_names n (names_in v)) refl
  where
    go : (t : Bool) → good_names n (names_in v) ≡ t → t ≡ false
    go false e = refl
    go true e = absurd (omega (arith, names-short n v e))

-- ---- the opening

bad-names : (n : ℕ) (a b : List ℕ) (lent : ℕ) → good_names n (names_in a) ≡ false → good_names n (names_in b) ≡ false → names_opening n a lent ≡ names_opening n b lent
unfolding names_opening summary_numbers opening
bad-names n a b lent e f = rw (e, f) refl

-- what is kept of a whole line, in a buffer that is long enough
module _ (room : ℕ) (line : List ℕ) (k : Kept) (g : Keeps room line k) (lent : ℕ) (h : 4288 ≤ room) where
  kept-names : kept_opening k lent ≡ names_opening (suc k.spaces) (take room line) lent
  unfolding kept_opening
  kept-names = rw g.bytes refl

  line-names : names_opening (name_count line) line lent ≡ summary_opening line lent
  unfolding summary_opening
  line-names = refl

  same_names : name_count line < 65 → names_opening (name_count line) (take room line) lent ≡ names_opening (name_count line) line lent
  same_names l = go (less-or-not room (length line))
    where
      go : (room < length line) ⊎ (length line ≤ room)
          → names_opening (name_count line) (take room line) lent ≡ names_opening (name_count line) line lent
      go (inr m) = ap (λ (v : List ℕ). names_opening (name_count line) v lent) (take_all room line m)
      go (inl m) =
          let t = length-take-le room line (omega arith) in
          bad-names (name_count line) (take room line) line lent
          (long-bad (name_count line) (take room line) (omega arith) (omega arith))
          (long-bad (name_count line) line (omega arith) (omega arith))

  -- "a count outside 4 to 64 gives 2, any other fault 3", however long the line
  pub line-decides : kept_opening k lent ≡ summary_opening line lent
  line-decides = kept-names ∙ go (less-or-not (name_count line) 65) ∙ line-names
    where
      go : (name_count line < 65) ⊎ (65 ≤ name_count line)
          → names_opening (suc k.spaces) (take room line) lent ≡ names_opening (name_count line) line lent
      go (inl l) = rw (g.spaces, lt-ltb (name_count line) 65 l) (same_names l)
      go (inr l) =
          rw (g.spaces, le-ltb (name_count line) 65 l)
          (many-names 65 (take room line) lent (omega arith) ∙ sym (many-names (name_count line) line lent (omega arith)))
