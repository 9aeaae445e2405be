-- Laws of tokens and keywords at places in a file. Assumes nothing.
-- Bytes: 61 `=`, 91 `[`, 39, the apostrophe, and 32, a blank.
--
--   name-equals, name-label     which bytes stand in a tree's name
--   Alike s b e k i             the first i bytes of the keyword k are those from b on, in any case: the rest up to e decides
--   word-unlike, word-begun, word_more, word-other, word_end     the comparison, a byte at a time
--   Run p s i r                 the bytes from i up to r pass the test p
--   run_none, run_more          such a run, a byte at a time
--   run-every, run-plain        every byte of it passes; a run without brackets and quotes stands as it is
--   run-stop                    no byte that passes is read where none stands
--   run_at, behind-at           the longest run from a place on, and what stands behind it
--   begun-at                    whether a byte of it stands there
--   label-every, label-plain, label-stop, label_at, label-behind     the same of label bytes
--   token-at, name-at           the first token, and a tree's name, from a place on
use Rattle.std.specs.Prelude.{ℕ, suc, ◌+◌, ◌-◌, ◌≤◌, ◌<◌, ◌≡◌, ◌⊎◌, Bool, true, false, ◌&&◌, not, eqb, get_or, drop}
use Rattle.std.proofs.Math.Numerals.{add-one}
use native.Mathlib.Omega.{arith}
use Rattle.std.proofs.Math.Path.{refl, sym, ap}
use Rattle.std.proofs.Common.{◌∙◌, inl, inr, get_or-take, get_or-drop, eq-eqb, ne_eqb, lt-ltb, le-ltb}
use Rattle.std.proofs.Math.Logic.{⊎_elim}
use Rattle.std.proofs.Math.Bool.{true≢false}
use mathlib.Core.List.{List, [], ◌∷◌, ◌++◌, map}
use Rattle.std.proofs.Math.Dec.{ltb}
use Rattle.std.proofs.Math.ListN.{length}
use Rattle.std.proofs.lemmas.List.{length-map}
use Rattle.std.proofs.Math.Seq.{drop-cons, drop-length}
use Rattle.trees.specs.Plain.{every, same_bytes}
use Rattle.trees.specs.Text.{is_label_byte}
use Rattle.trees.specs.Nexus.{run_of, behind_run, begins, uncommented, capital, is_name_byte}
use Rattle.trees.specs.NexusReading.{first_token, behind_first}
use Rattle.theorems.specs.ListLaws.{and-true, less-or-not}
use Rattle.theorems.specs.RunOfLaws.{run-of, behind-of}
use Rattle.text.specs.Read.{RunEnd}
use Rattle.head.specs.FindLaws.{run-unlike}
use Rattle.nexus.specs.Places.{part, plain_at, Skipped, TokenAt, NameEnd}
use Rattle.nexus.specs.PartLaws.{part-first, part_length, part-rest}
use Rattle.nexus.specs.PlaceLaws.{plain-none, plain-front, plain-as}
use Rattle.nexus.specs.ByteLaws.{plain-append}

-- ---- bytes of a tree's name

pub name-equals : (b : ℕ) → b ≡ 61 → is_name_byte b ≡ false
unfolding is_name_byte
name-equals b e = ap is_name_byte e

and_yes : (t : Bool) → (t && true) ≡ t
and_yes true = refl
and_yes false = refl

pub name-label : (b : ℕ) → (b ≡ 61 → ⊥) → is_name_byte b ≡ is_label_byte b
unfolding is_name_byte
name-label b n = ap (λ (t : Bool). is_label_byte b && not t) (ne_eqb b 61 n) ∙ and_yes (is_label_byte b)

-- ---- keywords

-- what is left to compare, behind i bytes
abbrev left : List ℕ → ℕ → ℕ → List ℕ → ℕ → Bool
left s b e k i = same_bytes (map capital (part (b + i) e s)) (drop i k)

pub record Alike (s : List ℕ) (b e : ℕ) (k : List ℕ) (i : ℕ) : Type 0 where
  pub within : i ≤ length k
  pub same : same_bytes (map capital (part b e s)) k ≡ left s b e k i

module _ (s : List ℕ) (b e : ℕ) (k : List ℕ) (h : b ≤ e) (l : e ≤ length s) where
  pub word-unlike : (e - b ≡ length k → ⊥) → same_bytes (map capital (part b e s)) k ≡ false
  word-unlike n =
      let q : length (map capital (part b e s)) ≡ e - b = length-map (part b e s) capital ∙ part_length s b e h l in
      run-unlike (map capital (part b e s)) k (λ z. n (sym q ∙ z))

  pub word-begun : Alike s b e k 0
  word-begun = record { within = omega arith; same = let z : b + 0 ≡ b = omega arith in rw z }

  module _ (f : e - b ≡ length k) (i : ℕ) (a : Alike s b e k i) where
    left-cons : i < length k → left s b e k i ≡ (eqb (capital (get_or s (b + i) 0)) (get_or k i 0) && left s b e k (i + 1))
    unfolding same_bytes
    left-cons m =
        let n : b + (i + 1) ≡ b + i + 1 = omega arith in
        rw (n, part-first s (b + i) e (omega arith) (omega arith), drop-cons k i 0 m, add-one i)

    pub word_more : i < length k → capital (get_or s (b + i) 0) ≡ get_or k i 0 → Alike s b e k (i + 1)
    word_more m q = record { within = omega arith; same = a.same ∙ left-cons m ∙ rw (eq-eqb _ _ q) }

    pub word-other : i < length k → (capital (get_or s (b + i) 0) ≡ get_or k i 0 → ⊥) → same_bytes (map capital (part b e s)) k ≡ false
    word-other m q = a.same ∙ left-cons m ∙ rw (ne_eqb _ _ q)

    pub word_end : length k ≤ i → same_bytes (map capital (part b e s)) k ≡ true
    unfolding same_bytes
    word_end m =
        let w = a.within in
        let z : e - (b + i) ≡ 0 = omega arith in
        let n : i ≡ length k = omega arith in
        a.same ∙ rw (z, n, drop-length k)

-- ---- runs of bytes that pass a test

pub record Run (p : ℕ → Bool) (s : List ℕ) (i r : ℕ) : Type 0 where
  pub past : i ≤ r
  pub within : r ≤ length s
  pub each : (j : ℕ) → i ≤ j → j < r → p (get_or s j 0) ≡ true

pub run_none : (p : ℕ → Bool) (s : List ℕ) (i : ℕ) → i ≤ length s → Run p s i i
run_none p s i h = record { past = omega arith; within = h; each = λ j f g. absurd (omega arith) }

pub run_more : {p : ℕ → Bool} {s : List ℕ} {i r : ℕ} → Run p s i r → r < length s → p (get_or s r 0) ≡ true → Run p s i (r + 1)
run_more {p} {s} {i} {r} w h e = record { past = let l = w.past in omega arith; within = omega arith; each = λ j f g. go j f (less-or-not j r) g }
  where
    go : (j : ℕ) → i ≤ j → (j < r) ⊎ (r ≤ j) → j < r + 1 → p (get_or s j 0) ≡ true
    go j f (inl l) g = w.each j f l
    go j f (inr l) g = let q : j ≡ r = omega arith in ap (λ (x : ℕ). p (get_or s x 0)) q ∙ e

-- no bracket and no apostrophe passes, and no blank as which a comment reads
module _ (p : ℕ → Bool) (n : p 91 ≡ false) (m : p 39 ≡ false) (z : p 32 ≡ false) where
  every-each : (w : List ℕ) → ((j : ℕ) → j < length w → p (get_or w j 0) ≡ true) → every p w ≡ true
  unfolding every
  every-each [] f = refl
  every-each (b ∷ w) f = and-true (f 0 (omega arith)) (every-each w (λ j h. f (suc j) (omega arith)))

  pub run-stop : (s : List ℕ) (r : ℕ) → (r < length s → p (get_or s r 0) ≡ false) → begins p (plain_at s r) ≡ false
  unfolding begins
  run-stop s r f =
      ⊎_elim
      (λ l. plain-as (λ x. begins p x ≡ false) s r l n (λ t. z) (λ t. f l))
      (λ l. ap (begins p) (plain-none s r l))
      (less-or-not r (length s))

  module _ (s : List ℕ) (i r : ℕ) (w : Run p s i r) where
    pub run-every : every p (part i r s) ≡ true
    run-every =
        let l = part_length s i r w.past w.within in
        let a = w.past in
        every-each (part i r s) (λ j h. let f : j < r - i = omega arith in
        ap p (get_or-take (r - i) (drop i s) j 0 f ∙ get_or-drop i s j 0) ∙ w.each (i + j) (omega arith) (omega arith))

    pub run-plain : plain_at s i ≡ part i r s ++ plain_at s r
    run-plain = ap (uncommented false) (part-rest s i r w.past) ∙ plain-append p n m (part i r s) (drop r s) run-every

    module _ (f : r < length s → p (get_or s r 0) ≡ false) where
      stops : begins p (plain_at s r) ≡ false
      stops = run-stop s r f

      run_at : run_of p (plain_at s i) ≡ part i r s
      run_at = ap (run_of p) run-plain ∙ run-of p (part i r s) (plain_at s r) run-every stops

      behind-at : behind_run p (plain_at s i) ≡ plain_at s r
      behind-at = ap (behind_run p) run-plain ∙ behind-of p (part i r s) (plain_at s r) run-every stops

      begun-at : begins p (plain_at s i) ≡ ltb i r
      unfolding begins
      begun-at = go (less-or-not i r)
        where
          go : (i < r) ⊎ (r ≤ i) → begins p (plain_at s i) ≡ ltb i r
          go (inl l) =
              let e = w.each i (omega arith) l in
              let h = w.within in
              ap (begins p) (plain-front s i (omega arith) (λ q. true≢false (sym e ∙ ap p q ∙ n))).1 ∙ e ∙ sym (lt-ltb i r l)
          go (inr l) =
              let h = w.past in
              let q : i ≡ r = omega arith in
              ap (λ (j : ℕ). begins p (plain_at s j)) q ∙ stops ∙ sym (le-ltb i r l)

-- ---- tokens and names

-- a longest run of label bytes
module _ (s : List ℕ) (i r : ℕ) (w : RunEnd s i r) where
  label-run : Run is_label_byte s i r
  label-run = record { past = w.past; within = w.within; each = w.each }

  pub label-every : every is_label_byte (part i r s) ≡ true
  unfolding is_label_byte
  label-every = run-every is_label_byte refl refl refl s i r label-run

  pub label-plain : plain_at s i ≡ part i r s ++ plain_at s r
  unfolding is_label_byte
  label-plain = run-plain is_label_byte refl refl refl s i r label-run

  pub label-stop : begins is_label_byte (plain_at s r) ≡ false
  unfolding is_label_byte
  label-stop = run-stop is_label_byte refl refl refl s r w.stop

  pub label_at : run_of is_label_byte (plain_at s i) ≡ part i r s
  unfolding is_label_byte
  label_at = run_at is_label_byte refl refl refl s i r label-run w.stop

  pub label-behind : behind_run is_label_byte (plain_at s i) ≡ plain_at s r
  unfolding is_label_byte
  label-behind = behind-at is_label_byte refl refl refl s i r label-run w.stop

pub token-at : (s : List ℕ) (i a e : ℕ) → Skipped s i a → RunEnd s a e → TokenAt s i (record { from = a; end = e })
unfolding first_token behind_first
token-at s i a e k w =
    record {
      past = k.past;
      order = w.past;
      within = w.within;
      blanks = k.plain;
      token = ap (run_of is_label_byte) k.plain ∙ label_at s a e w;
      behind = ap (behind_run is_label_byte) k.plain ∙ label-behind s a e w;
    }

pub name-at : (s : List ℕ) (i r : ℕ) → Run is_name_byte s i r → (r < length s → is_name_byte (get_or s r 0) ≡ false) → NameEnd s i r
unfolding is_name_byte
name-at s i r w f =
    record { past = w.past; within = w.within; begun = begun-at is_name_byte refl refl refl s i r w f; behind = behind-at is_name_byte refl refl refl s i r w f }
