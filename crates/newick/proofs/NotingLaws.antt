-- Noting the lengths of a text: one law for each way through the code.
--
--   run_end            where a run of label bytes ends
--   measured-there, length-stands, measured-outside, measured-inside     a length behind a colon
--   stop-colon, stop-closing, stop-comma, stop-quote, stop-not     the tests of a byte
--   passed_none, passed-byte, passed_on, passed-quoted     nothing, one byte more, and a label in quotes are passed
--   last-not, last_inner     the last word, behind a leaf or an inner node
--   Noting             what is noted before a place: what stands from there on decides the rest
--   noting-none        at the beginning
--   noting-asks        behind a colon stands a length
--   behind-length, behind-closing, behind-comma     what stands behind them is fine
--   noting-length, noting-outside, noting-closing, noting-comma, noting-quoted     one symbol more, up to the next stop
--   noting-done        at the end
use Rattle.std.proofs.Common.{◌≡◌, ℕ, zero, suc, ◌+◌, ◌-◌, ◌<◌, ◌≤◌, Bool, true, false, not, ◌&&◌, ◌||◌, eqb, ◌⊎◌, List, [], ◌∷◌, ◌++◌, length, get_or, drop, set, sym, refl, ap, ◌∙◌, subst, ap₂, inl, inr, ⊎_elim, true≢false, arith, length-set, drop-cons, ne_eqb, eqb-true}
use mathlib.Core.Option.{none, some}
use lib.Ieee.{Float, binary64, to_bits}
use lib.Seq.{slice, slice-cons, length-slice}
use Rattle.std.specs.Prelude.{if◌then◌else◌, None, Some, ℕ}
use Rattle.trees.specs.Plain.{every}
use Rattle.trees.specs.Text.{Symbol, Kind, blank, label, mark, kind, kind_in, apostrophe, is_label_byte, open_after, is_label, open_bracket, close_bracket, comma, colon, stray, token, symbols, symbols_after, ended}
use Rattle.trees.specs.Length.{is_digit, is_sign, is_point, is_e, is_digits, unsigned, without_point, before_e, is_decimal, is_length}
use Rattle.trees.specs.Value.{Length, length_of}
use Rattle.trees.specs.Lengths.{is_given}
use Rattle.theorems.specs.ListLaws.{and_right, or_cases, mem-left, mem-right, every-at, less-or-not, equal_or_not}
use Rattle.theorems.specs.QuoteLaws.{other-turned}
use Rattle.theorems.specs.TextLaws.{by_kind, symbols-cons, symbols-step}
use Rattle.theorems.specs.NameLaws.{every-label}
use Rattle.theorems.specs.LabelLaws.{QuotedLabel, plain_label, label-cases, quote-kind, plain-run, run-taken, label-run}
use Rattle.text.specs.Read.{kind_no, kind_at, symbols_at, Skipped, RunEnd, LabelEnd}
use Rattle.text.specs.PlaceLaws.{front, front-not, mark-at, there, kind-there, kind-is, kind-label, few, run-front, ends_at, IsMark, is-close, is-comma, is-colon}
use Rattle.text.specs.SliceLaws.{slice-join, every-slice}
use Rattle.doubles.specs.Stored.{all_ones}
use Rattle.lengths.specs.Read.{LengthStands}
use Rattle.newick.specs.Words.{word_of}
use Rattle.newick.specs.Noting.{Fine, lengths_in, is_exact, noted, is_stop, Passed, NextStop, MeasuredBehind, LengthsNoted}
use Rattle.newick.proofs.ShapeLaws.{symbols-none}

-- ---- a length behind a colon

fine-front : (ss : List Symbol) → Fine true ss → front ss ≡ 1
unfolding Fine
fine-front [] f = absurd f
fine-front (open_bracket ∷ r) f = absurd f
fine-front (close_bracket ∷ r) f = absurd f
fine-front (comma ∷ r) f = absurd f
fine-front (colon ∷ r) f = absurd f
fine-front (stray ∷ r) f = absurd f
fine-front (token w ∷ r) f = refl

fine-length : (w : List ℕ) (r : List Symbol) → Fine true (token w ∷ r) → is_length w ≡ true
unfolding Fine
fine-length w r f = f.0

no_stray : (c : Bool) (r : List Symbol) → Fine c (stray ∷ r) → ⊥
unfolding Fine
no_stray true r f = f
no_stray false r f = f

-- where a run of label bytes ends
module _ (s : List ℕ) where
  run-here : (i : ℕ) → i ≤ length s → (i < length s → is_label_byte (get_or s i 0) ≡ false) → (e : ℕ) × RunEnd s i e
  run-here i h f = (i, record { past = omega arith; within = h; each = λ j l m. absurd (omega arith); stop = f })

  run_more : (i : ℕ) → is_label_byte (get_or s i 0) ≡ true → (e : ℕ) × RunEnd s (i + 1) e → (e : ℕ) × RunEnd s i e
  run_more i f (e, w) = (e, record { past = omega (arith, w.past); within = w.within; each = each; stop = w.stop })
    where
      each : (j : ℕ) → i ≤ j → j < e → is_label_byte (get_or s j 0) ≡ true
      each j l m = ⊎_elim (λ (k : j < i + 1). let z : i ≡ j = omega arith in subst (λ (x : ℕ). is_label_byte (get_or s x 0) ≡ true) z f) (λ (k : i + 1 ≤ j). w.each j k m) (less-or-not j (i + 1))

  run_by : (i : ℕ) → i ≤ length s → (t : Bool) → is_label_byte (get_or s i 0) ≡ t → (e : ℕ) × RunEnd s (i + 1) e → (e : ℕ) × RunEnd s i e
  run_by i h true f r = run_more i f r
  run_by i h false f r = run-here i h (λ l. f)

  run-from : (n i : ℕ) → i + n ≡ length s → (e : ℕ) × RunEnd s i e
  run-from zero i z = run-here i (omega arith) (λ l. absurd (omega arith))
  run-from (suc n) i z = run_by i (omega arith) (is_label_byte (get_or s i 0)) refl (run-from n (i + 1) (omega arith))

  run_end : (i : ℕ) → i ≤ length s → (e : ℕ) × RunEnd s i e
  run_end i h = run-from (length s - i) i (omega arith)

quote-length : (x : List ℕ) → is_length (apostrophe ∷ x) ≡ false
unfolding is_length is_decimal is_digits every is_digit without_point is_point unsigned is_sign before_e is_e
quote-length x = refl

quote-no-label : is_label_byte apostrophe ≡ true → ⊥
unfolding is_label_byte
quote-no-label e = true≢false (sym e)

-- a run that is fine behind a colon is a label and a length
fine-run : (w : List ℕ) (r : List Symbol) (b : ℕ) → Fine true (ended (b ∷ w) r) → (is_label (b ∷ w) ≡ true) × (is_length (b ∷ w) ≡ true)
unfolding ended Fine
fine-run w r b f = go (is_label (b ∷ w)) refl f
  where
    go : (t : Bool) → is_label (b ∷ w) ≡ t → Fine true ((if t then token (b ∷ w) else stray) ∷ r) → (is_label (b ∷ w) ≡ true) × (is_length (b ∷ w) ≡ true)
    go true e f = (e, f.0)
    go false e f = absurd f

-- label bytes and an apostrophe are no label
odd-label : (b : ℕ) (w x : List ℕ) → is_label_byte b ≡ true → is_label (b ∷ ((w ++ apostrophe ∷ []) ++ x)) ≡ true → ⊥
odd-label b w x h e =
    ⊎_elim (λ (c : QuotedLabel (b ∷ ((w ++ apostrophe ∷ []) ++ x))). quote-no-label (sym (ap (λ (l : List ℕ). is_label_byte (get_or l 0 0)) c.1) ∙ h))
    (λ p. quote-no-label (every-at is_label_byte (b ∷ ((w ++ apostrophe ∷ []) ++ x)) p apostrophe (inr (mem-left apostrophe (w ++ apostrophe ∷ []) x (mem-right apostrophe w (apostrophe ∷ []) (inl refl))))))
    (label-cases (b ∷ ((w ++ apostrophe ∷ []) ++ x)) e)

quote-in : (q : Bool) → kind_in q apostrophe ≡ label
unfolding kind_in
quote-in true = refl
quote-in false = quote-kind

-- what is of the kind of labels, but no label byte
is-quote : (b : ℕ) → kind_no (kind b) ≡ 1 → is_label_byte b ≡ false → b ≡ apostrophe
is-quote b k f = eqb-true b apostrophe (sym (ap (λ (t : Bool). t || eqb b apostrophe) f) ∙ kind-label b k)

module _ (s : List ℕ) (i b : ℕ) (f : Fine true (symbols_at s i)) (p : Skipped s i b) where
  at-token : Fine true (symbols_at s b)
  at-token = subst (Fine true) p.tokens f

  begins : kind_at s b ≡ 1
  begins = ⊎_elim (λ k. k) (λ n. absurd (front-not s b 1 (λ z. omega arith) p.stop n (fine-front (symbols_at s b) at-token))) (equal_or_not (kind_at s b) 1)

  there-now : b < length s
  there-now = there s b 1 begins (omega arith)

  kind-now : kind_no (kind (get_or s b 0)) ≡ 1
  kind-now = sym (kind-there s b there-now) ∙ begins

  run-begun : symbols_at s b ≡ symbols_after (get_or s b 0 ∷ []) (drop (b + 1) s)
  unfolding by_kind kind_in open_after
  run-begun = symbols-step s b there-now label [] (kind-is 1 (sym kind-now) (omega arith))

  first-label : is_label_byte (get_or s b 0) ≡ true
  first-label = go (is_label_byte (get_or s b 0)) refl
    where
      go : (t : Bool) → is_label_byte (get_or s b 0) ≡ t → t ≡ true
      go true e = refl
      go false e =
          let r = run-front (get_or s b 0) [] (drop (b + 1) s) in
          let q = is-quote (get_or s b 0) kind-now e in
          absurd (true≢false (sym (fine-run r.0 r.1 (get_or s b 0) (subst (Fine true) (run-begun ∙ r.2) at-token)).1 ∙ ap (λ (x : ℕ). is_length (x ∷ r.0)) q ∙ quote-length r.0))

  module _ (e : ℕ) (w : RunEnd s b e) where
    some_bytes : b < e
    some_bytes = ⊎_elim (λ l. l) (λ (l : e ≤ b). let z : e ≡ b = omega (arith, w.past) in absurd (true≢false (sym first-label ∙ subst (λ (x : ℕ). is_label_byte (get_or s x 0) ≡ false) z (w.stop (omega (arith, there-now)))))) (less-or-not b e)

    bytes-label : every is_label_byte (slice b e s) ≡ true
    bytes-label = every-slice is_label_byte b e s w.past w.within w.each

    -- an apostrophe behind the run would make it no label
    no-quote : e < length s → get_or s e 0 ≡ apostrophe → ⊥
    unfolding open_after
    no-quote h q =
        let v = slice (suc b) e s in
        let u : slice b e s ≡ get_or s b 0 ∷ v = slice-cons b e s 0 some_bytes w.within in
        let d : drop e s ≡ apostrophe ∷ drop (suc e) s = drop-cons s e 0 h ∙ ap (λ (x : ℕ). x ∷ drop (suc e) s) q in
        let l : every is_label_byte (get_or s b 0 ∷ v) ≡ true = ap (every is_label_byte) (sym u) ∙ bytes-label in
        let r = run-front (get_or s b 0) (v ++ apostrophe ∷ []) (drop (suc e) s) in
        let y : symbols_at s b ≡ ended (get_or s b 0 ∷ ((v ++ apostrophe ∷ []) ++ r.0)) r.1 =
        ap symbols (slice-join s b e w.past w.within ∙ ap₂ (λ (x z : List ℕ). x ++ z) u d)
        ∙ run-taken [] (get_or s b 0 ∷ v) (apostrophe ∷ drop (suc e) s) (plain-run (get_or s b 0 ∷ v) (every-label (get_or s b 0 ∷ v) l))
        ∙ run-taken (get_or s b 0 ∷ v) (apostrophe ∷ []) (drop (suc e) s) (quote-in (open_after false (get_or s b 0 ∷ v)), tt)
        ∙ r.2 in
        odd-label (get_or s b 0) v r.0 first-label (fine-run ((v ++ apostrophe ∷ []) ++ r.0) r.1 (get_or s b 0) (subst (Fine true) y at-token)).0

    run-over : kind_at s e ≡ 1 → ⊥
    run-over k = let h = there s e 1 k (omega arith) in no-quote h (is-quote (get_or s e 0) (sym (kind-there s e h) ∙ k) (w.stop h))

    pub measured-there : (b < e) × (is_length (slice b e s) ≡ true) × (symbols_at s i ≡ token (slice b e s) ∷ symbols_at s e)
    measured-there =
        let y : symbols_at s b ≡ token (slice b e s) ∷ symbols_at s e =
        ap symbols (slice-join s b e w.past w.within) ∙ label-run (slice b e s) (drop e s) (plain_label (slice b e s) (omega (arith, some_bytes, length-slice b e s w.within)) bytes-label) (ends_at s e run-over) in
        (some_bytes, fine-length (slice b e s) (symbols_at s e) (subst (Fine true) y at-token), p.tokens ∙ y)

    given : (x : Length) → length_of (slice b e s) ≡ x → is_exact (slice b e s) ≡ is_given x
    given x q = ap is_given q

    pub measured-outside : length_of (slice b e s) ≡ none → MeasuredBehind s i None
    unfolding MeasuredBehind
    measured-outside q = (slice b e s, symbols_at s e, measured-there.2, given none q)

    pub measured-inside : (x : ℕ) (v : Float) → length_of (slice b e s) ≡ some v → x ≡ to_bits binary64 v → MeasuredBehind s i (Some (e, x))
    unfolding MeasuredBehind word_of
    measured-inside x v q z =
        let t = measured-there in
        record {
          length-token = slice b e s;
          symbol = t.2;
          exact = given (some v) q;
          word = z ∙ ap word_of (sym q);
          past = omega (arith, t.0, p.past);
          within = w.within;
        }

  pub length-stands : LengthStands s b
  length-stands = let r = run_end s b p.within in record { end = r.0; run = r.1; is-length = (measured-there r.0 r.1).1 }

-- ---- the tests of a byte

pub stop-colon : (b : ℕ) → b ≡ 58 → is_stop b ≡ true
unfolding is_stop
stop-colon b e = rw e

pub stop-closing : (b : ℕ) → b ≡ 41 → is_stop b ≡ true
unfolding is_stop
stop-closing b e = rw e

pub stop-comma : (b : ℕ) → b ≡ 44 → is_stop b ≡ true
unfolding is_stop
stop-comma b e = rw e

pub stop-else : (b : ℕ) → (b ≡ 58 → ⊥) → (b ≡ 41 → ⊥) → (b ≡ 44 → ⊥) → is_stop b ≡ eqb b apostrophe
unfolding is_stop
stop-else b x y z = simp (ne_eqb b 58 x, ne_eqb b 41 y, ne_eqb b 44 z)

stop-quote : (b : ℕ) → b ≡ apostrophe → is_stop b ≡ true
unfolding is_stop
stop-quote b e = rw e

-- ---- what is passed

pub passed_none : (s : List ℕ) (i : ℕ) → i ≤ length s → Fine false (symbols_at s i) → Passed s i i
passed_none s i h f = record { past = omega arith; within = h; fine = f; words = λ k n l. refl; lengths = refl }

passed-join : (s : List ℕ) (i j k : ℕ) → Passed s i j → Passed s j k → Passed s i k
passed-join s i j k p q = record {
  past = omega (arith, p.past, q.past);
  within = q.within;
  fine = q.fine;
  words = λ x n l. q.words x n l ∙ p.words x n l;
  lengths = q.lengths ∙ p.lengths;
}

-- the symbols ss pass for rr, which are fine
record Same (rr ss : List Symbol) : Type 0 where
  fine : Fine false ss
  words : (k : Bool) (n : ℕ) (l : List ℕ) → noted k false n l ss ≡ noted k false n l rr
  lengths : lengths_in false ss ≡ lengths_in false rr

same-token : (w : List ℕ) (ss : List Symbol) → Fine false (token w ∷ ss) → Same (token w ∷ ss) ss
unfolding Fine noted lengths_in
same-token w ss f = record { fine = f; words = λ k n l. refl; lengths = refl }

same-open : (ss : List Symbol) → Fine false (open_bracket ∷ ss) → Same (open_bracket ∷ ss) ss
unfolding Fine noted lengths_in
same-open ss f = record { fine = f; words = λ k n l. refl; lengths = refl }

label-rest : (b c : ℕ) (y : List ℕ) → is_label_byte b ≡ true → is_label (b ∷ c ∷ y) ≡ true → is_label (c ∷ y) ≡ true
unfolding every
label-rest b c y h e =
    ⊎_elim (λ (q : QuotedLabel (b ∷ c ∷ y)). absurd (quote-no-label (sym (ap (λ (l : List ℕ). is_label_byte (get_or l 0 0)) q.1) ∙ h)))
    (λ p. plain_label (c ∷ y) (omega arith) (and_right (is_label_byte b) (every is_label_byte (c ∷ y)) p)) (label-cases (b ∷ c ∷ y) e)

same-shorter : (b c : ℕ) (y : List ℕ) (ss : List Symbol) (t : Bool) → t ≡ true → Fine false ss → Same (token (b ∷ c ∷ y) ∷ ss) ((if t then token (c ∷ y) else stray) ∷ ss)
unfolding Fine noted lengths_in
same-shorter b c y ss true q f = record { fine = f; words = λ k n l. refl; lengths = refl }
same-shorter b c y ss false q f = absurd (true≢false (sym q))

same_rest : (b : ℕ) (x : List ℕ) (ss : List Symbol) → is_label_byte b ≡ true → is_label (b ∷ x) ≡ true → Fine false (token (b ∷ x) ∷ ss) → Same (token (b ∷ x) ∷ ss) (ended x ss)
unfolding ended Fine
same_rest b [] ss h e f = same-token (b ∷ []) ss f
same_rest b (c ∷ y) ss h e f = same-shorter b c y ss (is_label (c ∷ y)) (label-rest b c y h e) f

-- a label without its first byte, which may be all of it
same-less : (b : ℕ) (x : List ℕ) (ss : List Symbol) → is_label_byte b ≡ true → Fine false (ended (b ∷ x) ss) → Same (ended (b ∷ x) ss) (ended x ss)
unfolding ended Fine
same-less b x ss h f = go (is_label (b ∷ x)) refl f
  where
    go : (t : Bool) → is_label (b ∷ x) ≡ t → Fine false ((if t then token (b ∷ x) else stray) ∷ ss) → Same ((if t then token (b ∷ x) else stray) ∷ ss) (ended x ss)
    go true e f = same_rest b x ss h e f
    go false e f = absurd f

open-less : (b : ℕ) (w : List ℕ) → is_label_byte b ≡ true → open_after false (b ∷ w) ≡ open_after false w
unfolding open_after
open-less b w h = ap (λ (q : Bool). open_after q w) (other-turned false b (ne_eqb b apostrophe (λ e. quote-no-label (ap is_label_byte (sym e) ∙ h))))

-- the symbols behind a run and behind the run without its first byte end it at the same place
run-less : (b : ℕ) → is_label_byte b ≡ true → (w t : List ℕ) → (x : List ℕ) × (ss : List Symbol) × (symbols_after (b ∷ w) t ≡ ended (b ∷ x) ss) × (symbols_after w t ≡ ended x ss)
unfolding symbols_after by_kind
run-less b h w [] = (w, [], refl, refl)
run-less b h w (c ∷ t) = go (kind_in (open_after false w) c) refl (run-less b h (w ++ c ∷ []) t)
  where
    one : (k : Kind) → kind_in (open_after false w) c ≡ k → symbols_after (b ∷ w) (c ∷ t) ≡ by_kind k (b ∷ w) c t
    one k e = symbols-cons (b ∷ w) c t ∙ ap (λ (q : Bool). by_kind (kind_in q c) (b ∷ w) c t) (open-less b w h) ∙ ap (λ (x : Kind). by_kind x (b ∷ w) c t) e

    two : (k : Kind) → kind_in (open_after false w) c ≡ k → symbols_after w (c ∷ t) ≡ by_kind k w c t
    two k e = symbols-cons w c t ∙ ap (λ (x : Kind). by_kind x w c t) e

    go : (k : Kind) → kind_in (open_after false w) c ≡ k → (x : List ℕ) × (ss : List Symbol) × (symbols_after (b ∷ (w ++ c ∷ [])) t ≡ ended (b ∷ x) ss) × (symbols_after (w ++ c ∷ []) t ≡ ended x ss)
        → (x : List ℕ) × (ss : List Symbol) × (symbols_after (b ∷ w) (c ∷ t) ≡ ended (b ∷ x) ss) × (symbols_after w (c ∷ t) ≡ ended x ss)
    go blank e r = (w, symbols t, one blank e, two blank e)
    go label e r = (r.0, r.1, one label e ∙ r.2, two label e ∙ r.3)
    go (mark m) e r = (w, m ∷ symbols t, one (mark m) e, two (mark m) e)

module _ (s : List ℕ) (i : ℕ) (h : i < length s) where
  -- the byte at i is a mark
  mark-here : {n b : ℕ} → IsMark n b → get_or s i 0 ≡ b → kind_at s i ≡ n
  mark-here m e = kind-there s i h ∙ ap (λ (x : ℕ). kind_no (kind x)) e ∙ m.number

  passed-same : (j : ℕ) → i ≤ j → j ≤ length s → (rr ss : List Symbol) → symbols_at s i ≡ rr → symbols_at s j ≡ ss → Same rr ss → Passed s i j
  passed-same j l m rr ss p q r = record {
    past = l;
    within = m;
    fine = subst (Fine false) (sym q) r.fine;
    words = λ k n w. ap (noted k false n w) q ∙ r.words k n w ∙ ap (noted k false n w) (sym p);
    lengths = ap (lengths_in false) q ∙ r.lengths ∙ ap (lengths_in false) (sym p);
  }

  module _ (f : Fine false (symbols_at s i)) where
    next-byte : (rr ss : List Symbol) → symbols_at s i ≡ rr → symbols_at s (i + 1) ≡ ss → (Fine false rr → Same rr ss) → Passed s i (i + 1)
    next-byte rr ss p q r = passed-same (i + 1) (omega arith) (omega arith) rr ss p q (r (subst (Fine false) p f))

    other-stop : (x : ℕ) → is_stop x ≡ true → is_stop (get_or s i 0) ≡ false → get_or s i 0 ≡ x → ⊥
    other-stop x y n e = true≢false (sym (ap is_stop e ∙ y) ∙ n)

    pub passed-byte : is_stop (get_or s i 0) ≡ false → Passed s i (i + 1)
    unfolding by_kind kind_in open_after ended
    passed-byte n = go (kind (get_or s i 0)) refl
      where
        step : (k : Kind) → kind (get_or s i 0) ≡ k → symbols_at s i ≡ by_kind k [] (get_or s i 0) (drop (i + 1) s)
        step k e = symbols-step s i h k [] e

        go : (k : Kind) → kind (get_or s i 0) ≡ k → Passed s i (i + 1)
        go blank e = next-byte (symbols_at s (i + 1)) (symbols_at s (i + 1)) (step blank e) refl (λ g. record { fine = g; words = λ k n l. refl; lengths = refl })
        go label e =
            let b = get_or s i 0 in
            let l : is_label_byte b ≡ true = ⊎_elim (λ y. y) (λ y. absurd (other-stop apostrophe (stop-quote apostrophe refl) n (eqb-true b apostrophe y))) (or_cases (is_label_byte b) (eqb b apostrophe) (kind-label b (ap kind_no e))) in
            let r = run-less b l [] (drop (i + 1) s) in
            next-byte (ended (b ∷ r.0) r.1) (ended r.0 r.1) (step label e ∙ r.2) r.3 (same-less b r.0 r.1 l)
        go (mark open_bracket) e = next-byte (open_bracket ∷ symbols_at s (i + 1)) (symbols_at s (i + 1)) (step (mark open_bracket) e) refl (same-open (symbols_at s (i + 1)))
        go (mark close_bracket) e = absurd (other-stop 41 (stop-closing 41 refl) n (is-close.only (get_or s i 0) (ap kind_no e)))
        go (mark comma) e = absurd (other-stop 44 (stop-comma 44 refl) n (is-comma.only (get_or s i 0) (ap kind_no e)))
        go (mark colon) e = absurd (other-stop 58 (stop-colon 58 refl) n (is-colon.only (get_or s i 0) (ap kind_no e)))
        go (mark stray) e = absurd (no_stray false (symbols_at s (i + 1)) (subst (Fine false) (step (mark stray) e) f))
        go (mark (token w)) e = absurd (omega (arith, subst (λ k. kind_no k < 7) e (few (get_or s i 0))))

    -- a label in quotes
    pub passed-quoted : get_or s i 0 ≡ apostrophe → (e : ℕ) → LabelEnd s i e → Passed s i e × (i < e)
    passed-quoted q e w = go (less-or-not i e) (less-or-not (length s) e)
      where
        begins-label : kind_at s i ≡ 1
        begins-label = kind-there s i h ∙ ap (λ (x : ℕ). kind_no (kind x)) q ∙ ap kind_no quote-kind

        go : (i < e) ⊎ (e ≤ i) → (length s < e) ⊎ (e ≤ length s) → Passed s i e × (i < e)
        go x (inl l) = let g = w.fault l in absurd (no_stray false g.2 (subst (Fine false) g.3 f))
        go (inl k) (inr l) =
            let g = w.good k l in
            (passed-same e (omega arith) l (token (slice i e s) ∷ symbols_at s e) (symbols_at s e) g.2 refl (same-token (slice i e s) (symbols_at s e) (subst (Fine false) g.2 f)), k)
        go (inr k) (inr l) = absurd (w.absent (omega (arith, w.past)) begins-label)

-- one byte more
pub passed_on : (s : List ℕ) (i j : ℕ) → Passed s i j → j < length s → is_stop (get_or s j 0) ≡ false → Passed s i (j + 1)
passed_on s i j p h n = passed-join s i j (j + 1) p (passed-byte s j h p.fine n)

-- ---- the last word

pub last-not : (b : Bool) (l m : List ℕ) → not b ≡ true → l ≡ (if b then m else l)
last-not true l m e = absurd (let z : ◌≡◌ {A = ℕ} 0 1 = cc in omega arith)
last-not false l m e = refl

pub last_inner : (b : Bool) (l m t : List ℕ) → not b ≡ false → t ≡ m → t ≡ (if b then m else l)
last_inner true l m t e q = q
last_inner false l m t e q = absurd (let z : ◌≡◌ {A = ℕ} 0 1 = cc in omega arith)

-- ---- symbol by symbol

pub record Noting (s l₀ : List ℕ) (i : Bool) (n at : ℕ) (l : List ℕ) : Type 0 where
  pub within : at ≤ length s
  pub stop : at < length s → is_stop (get_or s at 0) ≡ true
  pub fine : Fine false (symbols_at s at)
  pub rest : noted i false n l (symbols_at s at) ≡ noted false false 0 l₀ (symbols s)
  pub exact : every is_exact (lengths_in false (symbols_at s at)) ≡ every is_exact (lengths_in false (symbols s))
  pub few : n ≤ at
  pub some-noted : i ≡ true → 0 < n
  pub size : length l ≡ length l₀

pub noting-none : (s l : List ℕ) (a : ℕ) → NextStop s 0 a → Noting s l false 0 a l
noting-none s l a p = record {
  within = p.passed.within;
  stop = p.stop;
  fine = p.passed.fine;
  rest = p.passed.words false 0 l;
  exact = ap (every is_exact) p.passed.lengths;
  few = omega arith;
  some-noted = λ e. absurd (let z : ◌≡◌ {A = ℕ} 0 1 = cc in omega arith);
  size = refl;
}

-- what one symbol more comes to
fine-colon : (r : List Symbol) → Fine false (colon ∷ r) → Fine true r
unfolding Fine
fine-colon r f = f

fine-behind : (w : List ℕ) (r : List Symbol) → Fine true (token w ∷ r) → Fine false r
unfolding Fine
fine-behind w r f = f.1

fine-closing : (r : List Symbol) → Fine false (close_bracket ∷ r) → Fine false r
unfolding Fine
fine-closing r f = f

fine-comma : (r : List Symbol) → Fine false (comma ∷ r) → Fine false r
unfolding Fine
fine-comma r f = f

module _ (s l₀ : List ℕ) (i : Bool) (n at : ℕ) (l : List ℕ) (w : Noting s l₀ i n at l) (h : at < length s) where
  colon-here : get_or s at 0 ≡ 58 → symbols_at s at ≡ colon ∷ symbols_at s (at + 1)
  colon-here e = mark-at s at colon (omega arith) (mark-here s at h is-colon e)

  pub noting-asks : get_or s at 0 ≡ 58 → Fine true (symbols_at s (at + 1))
  noting-asks e = fine-colon (symbols_at s (at + 1)) (subst (Fine false) (colon-here e) w.fine)

  -- up to j stands a symbol, and from there on nothing that is noted up to r
  next : (j m : ℕ) (k : Bool) (l' : List ℕ) → at < j
      → noted k false m l' (symbols_at s j) ≡ noted i false n l (symbols_at s at)
      → every is_exact (lengths_in false (symbols_at s j)) ≡ every is_exact (lengths_in false (symbols_at s at))
      → m ≤ n + 1 → (k ≡ true → 0 < m) → length l' ≡ length l → (r : ℕ) → NextStop s j r → Noting s l₀ k m r l'
  next j m k l' a q x y z u r p = record {
    within = p.passed.within;
    stop = p.stop;
    fine = p.passed.fine;
    rest = p.passed.words k m l' ∙ q ∙ w.rest;
    exact = ap (every is_exact) p.passed.lengths ∙ x ∙ w.exact;
    few = omega (arith, w.few, p.passed.past);
    some-noted = z;
    size = u ∙ w.size;
  }

  module _ (e : get_or s at 0 ≡ 58) where
    pub noting-outside : MeasuredBehind s (at + 1) None → LengthsNoted s l₀ false l
    unfolding MeasuredBehind lengths_in every
    noting-outside m = record {
      exact = sym (ap (λ (b : Bool). b && every is_exact (lengths_in false m.1)) m.3) ∙ ap (λ x. every is_exact (lengths_in false x)) (sym (colon-here e ∙ ap (λ x. colon ∷ x) m.2)) ∙ w.exact;
      words = λ q. absurd (let z : ◌≡◌ {A = ℕ} 0 1 = cc in omega arith);
    }

    module _ (j x : ℕ) (m : MeasuredBehind s (at + 1) (Some (j, x))) where
      pub length-past : (at < j) × (j ≤ length s)
      unfolding MeasuredBehind
      length-past = (omega (arith, m.past), m.within)

      pub behind-length : Fine false (symbols_at s j)
      unfolding MeasuredBehind
      behind-length =
          let v : symbols_at s at ≡ colon ∷ token m.length-token ∷ symbols_at s j = colon-here e ∙ ap (λ y. colon ∷ y) m.symbol in
          fine-behind m.length-token (symbols_at s j) (fine-colon (token m.length-token ∷ symbols_at s j) (subst (Fine false) v w.fine))

      pub noting-length : (l' : List ℕ) → l' ≡ (if i then set l (n - 1) x else l) → (r : ℕ) → NextStop s j r → Noting s l₀ i n r l'
      unfolding MeasuredBehind lengths_in every noted
      noting-length l' z =
          let v : symbols_at s at ≡ colon ∷ token m.length-token ∷ symbols_at s j = colon-here e ∙ ap (λ y. colon ∷ y) m.symbol in
          next j n i l' (omega (arith, m.past))
          (ap (λ y. noted i false n y (symbols_at s j)) (z ∙ ap (λ (y : ℕ). if i then set l (n - 1) y else l) m.word) ∙ ap (noted i false n l) (sym v))
          (sym (ap (λ (b : Bool). b && every is_exact (lengths_in false (symbols_at s j))) m.exact) ∙ ap (λ y. every is_exact (lengths_in false y)) (sym v))
          (omega arith) w.some-noted (ap length z ∙ kept i)
        where
          kept : (b : Bool) → length (if b then set l (n - 1) x else l) ≡ length l
          kept true = length-set l (n - 1) x
          kept false = refl

  module _ (e : get_or s at 0 ≡ 41) where
    closing-here : symbols_at s at ≡ close_bracket ∷ symbols_at s (at + 1)
    closing-here = mark-at s at close_bracket (omega arith) (mark-here s at h is-close e)

    pub behind-closing : Fine false (symbols_at s (at + 1))
    behind-closing = fine-closing (symbols_at s (at + 1)) (subst (Fine false) closing-here w.fine)

    pub noting-closing : (l' : List ℕ) → l' ≡ set l n all_ones → (r : ℕ) → NextStop s (at + 1) r → Noting s l₀ true (n + 1) r l'
    unfolding lengths_in noted
    noting-closing l' z =
        next (at + 1) (n + 1) true l' (omega arith)
        (ap₂ (λ (k : ℕ) y. noted true false k y (symbols_at s (at + 1))) (omega arith) z ∙ ap (noted i false n l) (sym closing-here))
        (ap (λ y. every is_exact (lengths_in false y)) (sym closing-here)) (omega arith) (λ q. omega arith) (ap length z ∙ length-set l n all_ones)

  module _ (e : get_or s at 0 ≡ 44) where
    comma-here : symbols_at s at ≡ comma ∷ symbols_at s (at + 1)
    comma-here = mark-at s at comma (omega arith) (mark-here s at h is-comma e)

    pub behind-comma : Fine false (symbols_at s (at + 1))
    behind-comma = fine-comma (symbols_at s (at + 1)) (subst (Fine false) comma-here w.fine)

    pub noting-comma : (r : ℕ) → NextStop s (at + 1) r → Noting s l₀ false n r l
    unfolding lengths_in noted
    noting-comma =
        next (at + 1) n false l (omega arith) (ap (noted i false n l) (sym comma-here)) (ap (λ y. every is_exact (lengths_in false y)) (sym comma-here)) (omega arith)
        (λ q. absurd (let z : ◌≡◌ {A = ℕ} 0 1 = cc in omega arith)) refl

  module _ (x : get_or s at 0 ≡ 58 → ⊥) (y : get_or s at 0 ≡ 41 → ⊥) (z : get_or s at 0 ≡ 44 → ⊥) (e : ℕ) (g : LabelEnd s at e) where
    pub behind-quoted : Passed s at e × (at < e)
    behind-quoted = passed-quoted s at h w.fine (eqb-true (get_or s at 0) apostrophe (sym (stop-else (get_or s at 0) x y z) ∙ w.stop h)) e g

    pub noting-quoted : (r : ℕ) → NextStop s e r → Noting s l₀ i n r l
    noting-quoted = let p = behind-quoted in next e n i l p.1 (p.0.words i n l) (ap (every is_exact) p.0.lengths) (omega arith) w.some-noted refl

pub noting-done : (s l₀ : List ℕ) (i : Bool) (n at : ℕ) (l : List ℕ) → Noting s l₀ i n at l → length s ≤ at → LengthsNoted s l₀ true l
unfolding noted lengths_in every
noting-done s l₀ i n at l w h =
    let v : symbols_at s at ≡ [] = symbols-none s at h in
    record {
      exact = sym (ap (λ x. every is_exact (lengths_in false x)) v) ∙ w.exact;
      words = λ _. sym (ap (noted i false n l) v) ∙ w.rest;
    }
