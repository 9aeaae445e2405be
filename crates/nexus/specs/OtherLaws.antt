-- Laws of another block's end: its last token is END. A command is passed a token, a run in quotes or a byte at a time. Assumes nothing.
-- Bytes: 91 `[`, 39, the apostrophe, and the blanks 32, 9, 13 and 10.
--
--   last-not, ends_fresh, ends-inside, ends-token, ends-byte, ends-blanks     what stands at the front does not end it, and is passed
--   quote-not-last, ends-quoted     no END before an apostrophe is the last token
--   open-over, open-blanks, open-skipped     quotes behind bytes without an apostrophe, behind blanks, and where blanks are skipped
--   quotes-close        quotes that are paired close
--   word-past, bracket-past, quoted-past, byte_past     a token, the bracket of a comment that never ends, a run in quotes, any other byte is passed
--   Passed c i          what stands from i on decides, and is no blank
--   passed_first, passed-more     from the first place behind blanks on, and on from there
--   word_at             the token, if any, that stands there
--   not-word, not_last  it is not END, or not the last
--   end-here, end_none  it is the last END; nothing is left
use Rattle.std.specs.Prelude.{ℕ, ◌+◌, ◌≤◌, ◌<◌, ◌≡◌, Bool, ◌&&◌, ◌||◌, not, get_or, drop, if◌then◌else◌}
use native.Mathlib.Omega.{arith}
use Rattle.std.proofs.Math.Path.{refl, sym, ap}
use Rattle.std.proofs.Common.{◌∙◌, inl, inr, true≢false, eq-eqb, ne_eqb}
use Rattle.std.proofs.Math.Logic.{⊎_elim}
use Rattle.std.proofs.Math.Bool.{true, false}
use mathlib.Core.List.{List, [], ◌∷◌, ◌++◌, map, append_assoc}
use Rattle.std.proofs.Math.ListN.{length}
use Rattle.trees.specs.Plain.{every, same_bytes, bytes}
use Rattle.trees.specs.Text.{is_blank, is_label_byte, turned, open_after}
use Rattle.trees.specs.Nexus.{run_of, behind_run, begins, uncommented, behind_comment, capital, is_word}
use Rattle.trees.specs.NexusReading.{last_end, ends_after, ends_other}
use Rattle.theorems.specs.ListLaws.{less-or-not, by-test, and_left, and_right, Mem, member-mem}
use Rattle.theorems.specs.RunOfLaws.{run-over, run_join, run-every as run-every-of}
use Rattle.theorems.specs.QuoteLaws.{open-append, no-quote-open, other-turned}
use Rattle.theorems.specs.OutsideLaws.{leads-over, leads-open}
use Rattle.text.specs.Read.{RunEnd}
use Rattle.nexus.specs.Places.{part, plain_at, NextByte, Skipped}
use Rattle.nexus.specs.PartLaws.{part_length}
use Rattle.nexus.specs.PlaceLaws.{plain-none, plain_byte, plain-comment, quoted-part, plain-quoted, plain-unpaired, comment-as, blanks-only}
use Rattle.nexus.specs.TokenLaws.{Run, run-every, run-plain, run-stop, label_at, label-behind}
use Rattle.nexus.specs.Commands.{WordAt, WordEnd}

-- ---- bytes at the front

and-false : (t : Bool) → (t && false) ≡ false
and-false true = refl
and-false false = refl

last-not : (s : List ℕ) → begins is_label_byte s ≡ false → last_end s ≡ false
unfolding last_end is_word
last-not s e = rw (run-over is_label_byte s e)

ends_fresh : (s : List ℕ) → begins is_label_byte s ≡ false → ends_after false s ≡ ends_after true s
unfolding ends_after begins
ends_fresh [] e = refl
ends_fresh (b ∷ s) e = sym (ap (λ (t : Bool). t || ends_after (not (is_label_byte b)) s) (last-not (b ∷ s) e))

-- the rest of a token, and what stands behind it
ends-inside : (w r : List ℕ) → every is_label_byte w ≡ true → begins is_label_byte r ≡ false → ends_after false (w ++ r) ≡ ends_after true r
unfolding ends_after every
ends-inside [] r e f = ends_fresh r f
ends-inside (b ∷ w) r e f =
    ap (λ (t : Bool). ends_after (not t) (w ++ r)) (and_left (is_label_byte b) (every is_label_byte w) e)
    ∙ ends-inside w r (and_right (is_label_byte b) (every is_label_byte w) e) f

ends-token : (w r : List ℕ) → every is_label_byte w ≡ true → begins is_label_byte r ≡ false → 1 ≤ length w → last_end (w ++ r) ≡ false
    → ends_after true (w ++ r) ≡ ends_after true r
unfolding ends_after every
ends-token [] r e f h n = absurd (omega arith)
ends-token (b ∷ w) r e f h n =
    rw (n, and_left (is_label_byte b) (every is_label_byte w) e) (ends-inside w r (and_right (is_label_byte b) (every is_label_byte w) e) f)

ends-byte : (b : ℕ) (s : List ℕ) → is_label_byte b ≡ false → ends_after true (b ∷ s) ≡ ends_after true s
unfolding ends_after begins
ends-byte b s e = rw (last-not (b ∷ s) e, e)

blank-label : (b : ℕ) → is_blank b ≡ true → is_label_byte b ≡ false
unfolding is_blank is_label_byte
blank-label b e = go (member-mem b (32 ∷ 9 ∷ 13 ∷ 10 ∷ []) e)
  where
    go : Mem b (32 ∷ 9 ∷ 13 ∷ 10 ∷ []) → is_label_byte b ≡ false
    go (inl q) = ap is_label_byte q
    go (inr (inl q)) = ap is_label_byte q
    go (inr (inr (inl q))) = ap is_label_byte q
    go (inr (inr (inr (inl q)))) = ap is_label_byte q
    go (inr (inr (inr (inr h)))) = absurd h

ends-blanks : (s : List ℕ) → ends_after true s ≡ ends_after true (behind_run is_blank s)
unfolding behind_run
ends-blanks [] = refl
ends-blanks (b ∷ s) = go (is_blank b) refl (ends-blanks s)
  where
    go : (t : Bool) → is_blank b ≡ t → ends_after true s ≡ ends_after true (behind_run is_blank s)
        → ends_after true (b ∷ s) ≡ ends_after true (if t then behind_run is_blank s else b ∷ s)
    go true e f = ends-byte b s (blank-label b e) ∙ f
    go false e f = refl

-- an apostrophe is no blank and stands in no token, so that no END before it is the last token
quote-not-blank : (w t : List ℕ) → every is_blank (w ++ (39 ∷ t)) ≡ false
unfolding every is_blank
quote-not-blank [] t = refl
quote-not-blank (b ∷ w) t = ap (λ (x : Bool). is_blank b && x) (quote-not-blank w t) ∙ and-false (is_blank b)

quote-behind : (w t : List ℕ) → every is_blank (behind_run is_label_byte (w ++ (39 ∷ t))) ≡ false
unfolding behind_run is_label_byte
quote-behind [] t = quote-not-blank [] t
quote-behind (b ∷ w) t =
    by-test (λ l. every is_blank l ≡ false) (is_label_byte b) (λ e. quote-behind w t) (λ e. quote-not-blank (b ∷ w) t)

quote-not-last : (w t : List ℕ) → last_end (w ++ (39 ∷ t)) ≡ false
unfolding last_end
quote-not-last w t =
    let word = is_word "END" (run_of is_label_byte (w ++ (39 ∷ t))) in
    ap (λ (x : Bool). word && x) (quote-behind w t) ∙ and-false word

ends-quoted : (fresh : Bool) (w t : List ℕ) → ends_after fresh (w ++ (39 ∷ t)) ≡ ends_after true t
unfolding ends_after is_label_byte
ends-quoted fresh [] t = ap (λ (x : Bool). (fresh && x) || ends_after true t) (quote-not-last [] t) ∙ ap (λ (x : Bool). x || ends_after true t) (and-false fresh)
ends-quoted fresh (b ∷ w) t =
    let rest = ends_after (not (is_label_byte b)) (w ++ (39 ∷ t)) in
    ap (λ (x : Bool). (fresh && x) || rest) (quote-not-last (b ∷ w) t)
    ∙ ap (λ (x : Bool). x || rest) (and-false fresh)
    ∙ ends-quoted (not (is_label_byte b)) w t

-- ---- quotes

open-over : (p : ℕ → Bool) → p 39 ≡ false → (w r : List ℕ) → every p w ≡ true → open_after false (w ++ r) ≡ open_after false r
open-over p m w r e = open-append false w r ∙ ap (λ (q : Bool). open_after q r) (leads-open (leads-over 39 p m m false w e))

open-blanks : (s : List ℕ) → open_after false s ≡ open_after false (behind_run is_blank s)
unfolding is_blank
open-blanks s = ap (open_after false) (sym (run_join is_blank s)) ∙ open-over is_blank refl (run_of is_blank s) (behind_run is_blank s) (run-every-of is_blank s)

open-skipped : (c : List ℕ) (i r : ℕ) → Skipped c i r → open_after false (plain_at c i) ≡ false → open_after false (plain_at c r) ≡ false
open-skipped c i r k e = sym (open-blanks (plain_at c i) ∙ ap (open_after false) k.plain) ∙ e

-- ---- past a token, a run in quotes or a byte

-- a bracket that does not read as a blank
never_ends : (l : List ℕ) → begins is_blank (behind_comment l) ≡ false → behind_comment l ≡ 91 ∷ []
unfolding begins is_blank
never_ends = comment-as (λ s. begins is_blank s ≡ false → s ≡ 91 ∷ []) (λ e. refl) (λ t e. absurd (true≢false e))

module _ (c : List ℕ) (i e : ℕ) (w : WordAt c i e) where
  pub word-past : i < e → WordEnd c i e
  unfolding is_label_byte
  word-past h =
      let u : Run is_label_byte c i e = record { past = w.past; within = w.within; each = w.each } in
      let q = run-plain is_label_byte refl refl refl c i e u in
      let a = run-every is_label_byte refl refl refl c i e u in
      let z = run-stop is_label_byte refl refl refl c e w.stop in
      let l = part_length c i e w.past w.within in
      record { past = h; within = w.within; paired = sym (ap (open_after false) q ∙ open-over is_label_byte refl (part i e c) (plain_at c e) a) ∙ w.paired; same = λ n. ap (ends_after true) q ∙ ends-token (part i e c) (plain_at c e) a z (omega arith) (sym (ap last_end q) ∙ n) }

  pub bracket-past : get_or c i 0 ≡ 91 → WordEnd c i (length c)
  unfolding is_label_byte open_after
  bracket-past b =
      let h = w.there in
      let q : plain_at c i ≡ behind_comment (drop (i + 1) c) = plain-comment c i h b in
      let r : plain_at c i ≡ 91 ∷ [] = q ∙ never_ends (drop (i + 1) c) (sym (ap (begins is_blank) q) ∙ w.bare) in
      let z : plain_at c (length c) ≡ [] = plain-none c (length c) (omega arith) in
      record { past = h; within = omega arith; paired = ap (open_after false) z; same = λ n. ap (ends_after true) r ∙ ends-byte 91 [] refl ∙ sym (ap (ends_after true) z) }

  module _ (r : ℕ) (b : get_or c i 0 ≡ 39) (x : NextByte c 39 (i + 1) r) where
    -- they close, as quotes are paired
    quotes-close : r ≤ length c
    unfolding open_after turned
    quotes-close = ⊎_elim (λ l. absurd (true≢false (sym (never l) ∙ w.paired))) (λ l. l) (less-or-not (length c) r)
      where
        never : length c < r → open_after false (plain_at c i) ≡ true
        never l = ap (open_after false) (plain-unpaired c i w.there b r x l) ∙ no-quote-open true (drop (i + 1) c) (x.lacking l).1

    pub quoted-past : WordEnd c i r
    unfolding open_after turned
    quoted-past =
        let g = quotes-close in
        let f = quoted-part c i w.there b r x g in
        let v = f.0 in
        let q : plain_at c i ≡ (39 ∷ v) ++ (39 ∷ plain_at c r) =
        plain-quoted c i w.there b r x g ∙ ap (λ (l : List ℕ). l ++ plain_at c r) f.1 ∙ ap (λ (l : List ℕ). 39 ∷ l) (append_assoc v (39 ∷ []) (plain_at c r)) in
        let o : open_after true (v ++ (39 ∷ plain_at c r)) ≡ open_after false (plain_at c r) =
        open-append true v (39 ∷ plain_at c r) ∙ ap (λ (t : Bool). open_after t (39 ∷ plain_at c r)) (no-quote-open true v f.2) in
        record {
          past = omega (arith, (x.found g).0);
          within = g;
          paired = sym (ap (open_after false) q ∙ o) ∙ w.paired;
          same = λ _. ap (ends_after true) q ∙ ends-quoted true (39 ∷ v) (plain_at c r);
        }

  pub byte_past : e ≤ i → (get_or c i 0 ≡ 91 → ⊥) → (get_or c i 0 ≡ 39 → ⊥) → WordEnd c i (i + 1)
  unfolding open_after
  byte_past h b m =
      let t = w.there in
      let p = w.past in
      let q : e ≡ i = omega arith in
      let n : is_label_byte (get_or c i 0) ≡ false = ap (λ (j : ℕ). is_label_byte (get_or c j 0)) (sym q) ∙ w.stop (omega arith) in
      let l = plain_byte c i t b m in
      record {
        past = omega arith;
        within = omega arith;
        paired = sym (ap (open_after false) l ∙ ap (λ (x : Bool). open_after x (plain_at c (i + 1))) (other-turned false (get_or c i 0) (ne_eqb (get_or c i 0) 39 m))) ∙ w.paired;
        same = λ _. ap (ends_after true) l ∙ ends-byte (get_or c i 0) (plain_at c (i + 1)) n;
      }

-- ---- a command, a token at a time

pub record Passed (c : List ℕ) (i : ℕ) : Type 0 where
  pub within : i ≤ length c
  pub bare : begins is_blank (plain_at c i) ≡ false
  pub paired : open_after false (plain_at c i) ≡ false
  pub same : ends_other (uncommented false c) ≡ ends_after true (plain_at c i)

pub passed_first : (c : List ℕ) (i : ℕ) → open_after false (uncommented false c) ≡ false → Skipped c 0 i → Passed c i
unfolding ends_other
passed_first c i o k = record { within = k.within; bare = k.stop; paired = open-skipped c 0 i k o; same = ends-blanks (uncommented false c) ∙ ap (ends_after true) k.plain }

ends_last : (s : List ℕ) → last_end s ≡ true → ends_after true s ≡ true
unfolding ends_after last_end is_word run_of
ends_last [] e = absurd (true≢false (sym e))
ends_last (b ∷ s) e = ap (λ (t : Bool). t || ends_after (not (is_label_byte b)) s) e

module _ (c : List ℕ) (i : ℕ) (p : Passed c i) where
  pub passed-more : (j r : ℕ) → last_end (plain_at c i) ≡ false → WordEnd c i j → Skipped c j r → Passed c r
  passed-more j r n w k =
      record { within = k.within; bare = k.stop; paired = open-skipped c j r k w.paired; same = p.same ∙ w.same n ∙ ends-blanks (plain_at c j) ∙ ap (ends_after true) k.plain }

  pub end_none : length c ≤ i → ends_other (uncommented false c) ≡ false
  unfolding ends_after
  end_none h = p.same ∙ ap (ends_after true) (plain-none c i h)

  module _ (e : ℕ) (w : RunEnd c i e) where
    pub word_at : i < length c → WordAt c i e
    word_at h = record { there = h; bare = p.bare; paired = p.paired; past = w.past; within = w.within; each = w.each; stop = w.stop }

    last-is : last_end (plain_at c i) ≡ (same_bytes (map capital (part i e c)) (bytes "END") && every is_blank (plain_at c e))
    unfolding last_end is_word
    last-is = rw (label_at c i e w, label-behind c i e w)

    pub not-word : same_bytes (map capital (part i e c)) (bytes "END") ≡ false → last_end (plain_at c i) ≡ false
    not-word k = last-is ∙ rw k

    module _ (k : same_bytes (map capital (part i e c)) (bytes "END") ≡ true) (r : ℕ) (x : Skipped c e r) where
      pub not_last : (r ≡ length c → ⊥) → last_end (plain_at c i) ≡ false
      not_last n = last-is ∙ rw k (blanks-only c e r x ∙ ne_eqb r (length c) n)

      pub end-here : r ≡ length c → ends_other (uncommented false c) ≡ true
      end-here q = p.same ∙ ends_last (plain_at c i) (last-is ∙ rw k (blanks-only c e r x ∙ eq-eqb r (length c) q))
