-- Laws of runs of a tree's text that hold no key to replace. Assumes nothing.
-- Bytes: 39 is the apostrophe, 40 `(`, 41 `)`, 44 a comma, 58 `:`.
--
--   mark-closing, mark-other            whether a byte is `)` or `:`
--   opening-bracket, opening-comma      whether it is `(` or a comma
--   kept_label, kept-mark               whether it is kept
--   mark-bare, opening-bare             such bytes are neither label bytes nor blanks nor quotes
--   free-blank, free-bare, last-join    whether a token may be replaced behind a blank, another byte, and behind two runs
--   opening-run, kept_run               the text from such a run on
--   quotes-kept, quotes-open            the text in quotes, up to the apostrophe that closes them, and where there is none
--   kept-none, kept-behind, kept-marked     a run of a text: none, behind a mark, and from a mark on
--   kept-quoted, kept-unpaired          a run in quotes, and from quotes on that never close
--   kept-opened                         and `(` and commas behind it
--   kept_next, kept_step                what may be replaced behind a run, and the run written
use Rattle.std.specs.Prelude.{ℕ, ◌+◌, ◌-◌, ◌≤◌, ◌<◌, ◌≡◌, Bool, ◌||◌, eqb}
use Rattle.std.proofs.Common.{add-one, ap₂, ◌∙◌, drop-cons}
use native.Mathlib.Omega.{arith}
use Rattle.std.proofs.Math.Path.{refl, sym, ap}
use Rattle.std.proofs.Math.Logic.{⊎_elim}
use Rattle.std.proofs.Math.Bool.{true, false, not, true≢false}
use mathlib.Core.List.{List, [], ◌∷◌, ◌++◌, append_assoc, append-nil}
use Rattle.std.proofs.Math.ListN.{length, get_or, drop}
use Rattle.std.proofs.Math.Seq.{drop-length}
use borrow.Author.Tests.{ne_eqb, not-true}
use Rattle.trees.specs.Plain.{every, member, bytes}
use Rattle.trees.specs.Text.{is_blank, is_label_byte, turned}
use Rattle.trees.specs.Nexus.{Pair, begins}
use Rattle.trees.specs.NexusCall.{shown, free_behind, replaced_after}
use Rattle.theorems.specs.ListLaws.{equal_or_not, if-true, if-false, and_left, and_right, or_cases, or_left}
use Rattle.theorems.specs.QuoteLaws.{other-turned}
use Rattle.nexus.specs.Places.{part, plain_at, other, NextByte}
use Rattle.nexus.specs.PlaceLaws.{plain-none, plain_byte, quoted-part, plain-quoted, plain-unpaired}
use Rattle.nexus.specs.PartLaws.{part_none, part-first, part_join, part-more, part-rest}
use Rattle.nexus.specs.TokenLaws.{Run, run-every, run-plain, run-stop}
use Rattle.nexus.specs.Texts.{is_mark, is_kept, is_opening, KeptEnd, last_free, KeptAs, PutAs, Stepped}
use Rattle.nexus.specs.TextLaws.{shown-kept, label-more, label-end, token_end}

-- ---- bytes

or-none : (t : Bool) → (t || false) ≡ t
or-none true = refl
or-none false = refl

module _ (b : ℕ) where
  pub mark-closing : b ≡ 41 → is_mark b ≡ true
  unfolding is_mark member bytes
  mark-closing e = ap is_mark e

  pub mark-other : (b ≡ 41 → ⊥) → is_mark b ≡ eqb b 58
  unfolding is_mark member bytes
  mark-other n = ap (λ (t : Bool). t || (eqb b 58 || false)) (ne_eqb b 41 n) ∙ or-none (eqb b 58)

  pub opening-bracket : b ≡ 40 → is_opening b ≡ true
  unfolding is_opening member bytes
  opening-bracket e = ap is_opening e

  pub opening-comma : (b ≡ 40 → ⊥) → is_opening b ≡ eqb b 44
  unfolding is_opening member bytes
  opening-comma n = ap (λ (t : Bool). t || (eqb b 44 || false)) (ne_eqb b 40 n) ∙ or-none (eqb b 44)

  pub kept_label : is_label_byte b ≡ true → is_kept b ≡ true
  unfolding is_kept
  kept_label e = or_left (is_label_byte b) (is_mark b) e

  pub kept-mark : is_label_byte b ≡ false → is_kept b ≡ is_mark b
  unfolding is_kept
  kept-mark e = ap (λ (t : Bool). t || is_mark b) e

  -- a byte that is neither a label byte nor a blank nor a quote
  record Bare : Type 0 where
    pub label : is_label_byte b ≡ false
    pub blank : is_blank b ≡ false
    pub quote : eqb b 39 ≡ false

  mark-bare : is_mark b ≡ true → Bare
  unfolding is_mark is_label_byte is_blank member bytes
  mark-bare e =
      ⊎_elim
      (λ (q : b ≡ 41). rw q (record { label = refl; blank = refl; quote = refl }))
      (λ (n : b ≡ 41 → ⊥).
      ⊎_elim
      (λ (q : b ≡ 58). rw q (record { label = refl; blank = refl; quote = refl }))
      (λ (m : b ≡ 58 → ⊥). absurd (true≢false (sym e ∙ mark-other n ∙ ne_eqb b 58 m)))
      (equal_or_not b 58))
      (equal_or_not b 41)

  opening-bare : is_opening b ≡ true → Bare
  unfolding is_opening is_label_byte is_blank member bytes
  opening-bare e =
      ⊎_elim
      (λ (q : b ≡ 40). rw q (record { label = refl; blank = refl; quote = refl }))
      (λ (n : b ≡ 40 → ⊥).
      ⊎_elim
      (λ (q : b ≡ 44). rw q (record { label = refl; blank = refl; quote = refl }))
      (λ (m : b ≡ 44 → ⊥). absurd (true≢false (sym e ∙ opening-comma n ∙ ne_eqb b 44 m)))
      (equal_or_not b 44))
      (equal_or_not b 40)

label-unmarked : (b : ℕ) → is_label_byte b ≡ true → is_mark b ≡ false
label-unmarked b e = go (is_mark b) refl
  where
    go : (t : Bool) → is_mark b ≡ t → t ≡ false
    go true q = absurd (true≢false (sym e ∙ (mark-bare b q).label))
    go false q = refl

-- ---- what stands behind a byte and a run

pub free-blank : (free : Bool) (b : ℕ) → is_blank b ≡ true → free_behind free [] b ≡ free
unfolding free_behind
free-blank free b e = if-true _ _ e

pub free-bare : (free : Bool) (w : List ℕ) (b : ℕ) → is_blank b ≡ false → free_behind free w b ≡ not (is_mark b)
unfolding free_behind is_mark
free-bare free w b e = if-false _ _ e

last-join : (free : Bool) (u v : List ℕ) → last_free free (u ++ v) ≡ last_free (last_free free u) v
unfolding last_free
last-join free [] v = refl
last-join free (b ∷ u) v = last-join (not (is_mark b)) u v

-- whether a run has a byte
abbrev some : List ℕ → Bool
some [] = false
some (x ∷ w) = true

some_more : (w : List ℕ) (b : ℕ) → some (w ++ b ∷ []) ≡ true
some_more [] b = refl
some_more (x ∷ w) b = refl

module _ (ps : List Pair) where
  -- behind a run w that is not replaced and has ended, before the byte b
  bare_step : (free : Bool) (w : List ℕ) (b : ℕ) (r : List ℕ) → Bare b
      → replaced_after ps false free w (b ∷ r) ≡ shown ps free w ++ (b ∷ replaced_after ps false (not (is_mark b)) [] r)
  bare_step free w b r x =
      label-end ps free w b r x.label
      ∙ ap₂ (λ (q t : Bool). shown ps free w ++ (b ∷ replaced_after ps q t [] r)) (other-turned false b x.quote) (free-bare free w b x.blank)

  opening-one : (free : Bool) (b : ℕ) (r : List ℕ) → Bare b → replaced_after ps false free [] (b ∷ r) ≡ b ∷ replaced_after ps false (not (is_mark b)) [] r
  unfolding shown
  opening-one free b r x = bare_step free [] b r x

  opening-run : (free : Bool) (u t : List ℕ) → every is_opening u ≡ true
      → replaced_after ps false free [] (u ++ t) ≡ u ++ replaced_after ps false (last_free free u) [] t
  unfolding every last_free shown
  opening-run free [] t e = refl
  opening-run free (b ∷ u) t e =
      opening-one free b (u ++ t) (opening-bare b (and_left (is_opening b) (every is_opening u) e))
      ∙ ap (λ (l : List ℕ). b ∷ l) (opening-run (not (is_mark b)) u t (and_right (is_opening b) (every is_opening u) e))

  kept-end : (w t : List ℕ) → begins is_label_byte t ≡ false → replaced_after ps false false w t ≡ w ++ replaced_after ps false (some w) [] t
  unfolding shown
  kept-end [] t n = refl
  kept-end (x ∷ w) t n = token_end ps false (x ∷ w) t (omega arith) n

  module _ (w : List ℕ) (b : ℕ) (u t : List ℕ) where
    label_kept : is_label_byte b ≡ true
        → replaced_after ps false false (w ++ b ∷ []) (u ++ t) ≡ (w ++ b ∷ []) ++ u ++ replaced_after ps false (last_free (some (w ++ b ∷ [])) u) [] t
        → replaced_after ps false false w (b ∷ (u ++ t)) ≡ w ++ (b ∷ u) ++ replaced_after ps false (last_free (not (is_mark b)) u) [] t
    label_kept q x =
        label-more ps false w b (u ++ t) q ∙ x
        ∙ ap (λ (l : List ℕ). l ++ replaced_after ps false (last_free (some (w ++ b ∷ [])) u) [] t) (append_assoc w (b ∷ []) u)
        ∙ ap (λ (f : Bool). w ++ (b ∷ u) ++ replaced_after ps false (last_free f u) [] t) (some_more w b ∙ sym (ap not (label-unmarked b q)))

    mark-kept : is_mark b ≡ true → replaced_after ps false false [] (u ++ t) ≡ u ++ replaced_after ps false (last_free false u) [] t
        → replaced_after ps false false w (b ∷ (u ++ t)) ≡ w ++ (b ∷ u) ++ replaced_after ps false (last_free (not (is_mark b)) u) [] t
    mark-kept q x =
        let m : not (is_mark b) ≡ false = ap not q in
        bare_step false w b (u ++ t) (mark-bare b q)
        ∙ ap (λ (l : List ℕ). l ++ (b ∷ replaced_after ps false (not (is_mark b)) [] (u ++ t))) (shown-kept ps w)
        ∙ ap (λ (f : Bool). w ++ (b ∷ replaced_after ps false f [] (u ++ t))) m
        ∙ ap (λ (l : List ℕ). w ++ (b ∷ l)) x
        ∙ sym (append_assoc w (b ∷ u) (replaced_after ps false (last_free false u) [] t))
        ∙ ap (λ (f : Bool). w ++ (b ∷ u) ++ replaced_after ps false (last_free f u) [] t) (sym m)

  kept_run : (w u t : List ℕ) → every is_kept u ≡ true → begins is_label_byte t ≡ false
      → replaced_after ps false false w (u ++ t) ≡ w ++ u ++ replaced_after ps false (last_free (some w) u) [] t
  unfolding every last_free is_kept
  kept_run w [] t e n = kept-end w t n ∙ ap (λ (l : List ℕ). l ++ replaced_after ps false (some w) [] t) (sym (append-nil w))
  kept_run w (b ∷ u) t e n =
      let f = and_right (is_kept b) (every is_kept u) e in
      ⊎_elim
      (λ q. label_kept w b u t q (kept_run (w ++ b ∷ []) u t f n))
      (λ q. mark-kept w b u t q (kept_run [] u t f n))
      (or_cases (is_label_byte b) (is_mark b) (and_left (is_kept b) (every is_kept u) e))

  -- ---- in quotes

  quote-opens : (free : Bool) (s : List ℕ) → replaced_after ps false free [] (39 ∷ s) ≡ 39 ∷ replaced_after ps true true [] s
  unfolding replaced_after shown free_behind is_label_byte is_blank turned member bytes
  quote-opens free s = refl

  quote-closes : (free : Bool) (s : List ℕ) → replaced_after ps true free [] (39 ∷ s) ≡ 39 ∷ replaced_after ps false true [] s
  unfolding replaced_after shown free_behind is_blank turned member bytes
  quote-closes free s = refl

  in-quotes : (free : Bool) (b : ℕ) (s : List ℕ) → eqb b 39 ≡ false → replaced_after ps true free [] (b ∷ s) ≡ b ∷ replaced_after ps true (free_behind free [] b) [] s
  unfolding replaced_after shown
  in-quotes free b s e = ap (λ (q : Bool). b ∷ replaced_after ps q (free_behind free [] b) [] s) (other-turned true b e)

  quotes-kept : (free : Bool) (w t : List ℕ) → every (other 39) w ≡ true
      → replaced_after ps true free [] (w ++ (39 ∷ t)) ≡ w ++ (39 ∷ replaced_after ps false true [] t)
  unfolding every
  quotes-kept free [] t e = quote-closes free t
  quotes-kept free (b ∷ w) t e =
      in-quotes free b (w ++ (39 ∷ t)) (not-true (eqb b 39) (and_left (other 39 b) (every (other 39) w) e))
      ∙ ap (λ (l : List ℕ). b ∷ l) (quotes-kept (free_behind free [] b) w t (and_right (other 39 b) (every (other 39) w) e))

  quotes-open : (free : Bool) (w : List ℕ) → every (other 39) w ≡ true → replaced_after ps true free [] w ≡ w
  unfolding every replaced_after shown
  quotes-open free [] e = refl
  quotes-open free (b ∷ w) e =
      in-quotes free b w (not-true (eqb b 39) (and_left (other 39 b) (every (other 39) w) e))
      ∙ ap (λ (l : List ℕ). b ∷ l) (quotes-open (free_behind free [] b) w (and_right (other 39 b) (every (other 39) w) e))

-- ---- runs in a text

kept-no : (b : ℕ) → is_kept b ≡ false → is_label_byte b ≡ false
kept-no b e = go (is_label_byte b) refl
  where
    go : (t : Bool) → is_label_byte b ≡ t → t ≡ false
    go true q = absurd (true≢false (sym (kept_label b q) ∙ e))
    go false q = refl

module _ (s : List ℕ) (i : ℕ) (free : Bool) where
  pub kept-none : i ≤ length s → KeptAs s i free i
  unfolding last_free
  kept-none h = record { past = omega arith; within = h; rest = λ ps. rw (part_none s i) }

  pub kept-behind : (r : ℕ) → free ≡ false → KeptEnd s i r → KeptAs s i free r
  unfolding is_kept is_label_byte is_mark member bytes
  kept-behind r f d =
      let x = d.run in
      record {
        past = x.past;
        within = x.within;
        rest = λ ps.
            rw f
            (ap (replaced_after ps false false []) (run-plain is_kept refl refl refl s i r x)
            ∙ kept_run ps [] (part i r s) (plain_at s r) (run-every is_kept refl refl refl s i r x) (run-stop is_label_byte refl refl refl s r (λ h. kept-no (get_or s r 0) (d.stop h))));
      }

  pub kept-marked : (r : ℕ) → i < length s → is_mark (get_or s i 0) ≡ true → KeptAs s (i + 1) false r → KeptAs s i free r
  unfolding last_free is_mark member bytes
  kept-marked r h m x =
      let b = get_or s i 0 in
      let l = x.past in
      let n : b ≡ 91 → ⊥ = λ q. true≢false (sym m ∙ ap is_mark q) in
      let k : b ≡ 39 → ⊥ = λ q. true≢false (sym m ∙ ap is_mark q) in
      let u = part (i + 1) r s in
      record {
        past = omega arith;
        within = x.within;
        rest = λ ps.
            rw (part-first s i r (omega arith) h)
            (ap (replaced_after ps false free []) (plain_byte s i h n k)
            ∙ opening-one ps free b (plain_at s (i + 1)) (mark-bare b m)
            ∙ ap (λ (f : Bool). b ∷ replaced_after ps false f [] (plain_at s (i + 1))) (ap not m)
            ∙ ap (λ (v : List ℕ). b ∷ v) (x.rest ps)
            ∙ ap (λ (f : Bool). b ∷ (u ++ replaced_after ps false (last_free f u) [] (plain_at s r))) (sym (ap not m)));
      }

  -- from the apostrophe at i on
  module _ (h : i < length s) (e : get_or s i 0 ≡ 39) (r : ℕ) (n : NextByte s 39 (i + 1) r) where
    pub kept-quoted : r ≤ length s → KeptAs s i free r
    unfolding last_free is_mark member bytes
    kept-quoted g =
        let f = quoted-part s i h e r n g in
        let w = f.0 in
        let l : (t : List ℕ) → part i r s ++ t ≡ 39 ∷ (w ++ (39 ∷ t)) =
        λ t. ap (λ (v : List ℕ). v ++ t) f.1 ∙ ap (λ (v : List ℕ). 39 ∷ v) (append_assoc w (39 ∷ []) t) in
        let last : last_free free (part i r s) ≡ true = ap (last_free free) f.1 ∙ last-join true w (39 ∷ []) in
        record {
          past = omega (arith, (n.found g).0);
          within = g;
          rest = λ ps.
              ap (replaced_after ps false free []) (plain-quoted s i h e r n g ∙ l (plain_at s r))
              ∙ quote-opens ps free (w ++ (39 ∷ plain_at s r))
              ∙ ap (λ (v : List ℕ). 39 ∷ v) (quotes-kept ps true w (plain_at s r) f.2)
              ∙ sym (l (replaced_after ps false true [] (plain_at s r)))
              ∙ ap (λ (o : Bool). part i r s ++ replaced_after ps false o [] (plain_at s r)) (sym last);
        }

    pub kept-unpaired : length s < r → KeptAs s i free (length s)
    unfolding replaced_after shown
    kept-unpaired g =
        let v = drop (i + 1) s in
        let c : drop i s ≡ 39 ∷ v = rw (add-one i, ← e) (drop-cons s i 0 h) in
        let z = length s in
        let d : drop i s ≡ part i z s ++ [] = part-rest s i z (omega arith) ∙ ap (λ (t : List ℕ). part i z s ++ t) (drop-length s) in
        record {
          past = omega arith;
          within = omega arith;
          rest = λ ps.
              ap (replaced_after ps false free []) (plain-unpaired s i h e r n g)
              ∙ quote-opens ps free v
              ∙ ap (λ (t : List ℕ). 39 ∷ t) (quotes-open ps true v (n.lacking g).1)
              ∙ sym c ∙ d
              ∙ ap (λ (t : List ℕ). part i z s ++ replaced_after ps false (last_free free (part i z s)) [] t) (sym (plain-none s z (omega arith)));
        }

  pub kept-opened : (m r : ℕ) → KeptAs s i free m → Run is_opening s m r → KeptAs s i free r
  unfolding is_opening member bytes
  kept-opened m r x y =
      let k = x.past in
      let l = y.past in
      let f = last_free free (part i m s) in
      record {
        past = omega arith;
        within = y.within;
        rest = λ ps.
            rw (part_join s i m r k l)
            (x.rest ps
            ∙ ap (λ (v : List ℕ). part i m s ++ v)
            (ap (replaced_after ps false f []) (run-plain is_opening refl refl refl s m r y)
            ∙ opening-run ps f (part m r s) (plain_at s r) (run-every is_opening refl refl refl s m r y))
            ∙ sym (append_assoc (part i m s) (part m r s) _)
            ∙ ap (λ (g : Bool). part i m s ++ part m r s ++ replaced_after ps false g [] (plain_at s r)) (sym (last-join free (part i m s) (part m r s))));
      }

  pub kept_next : (r : ℕ) → i < r → r ≤ length s → last_free free (part i r s) ≡ not (is_mark (get_or s (r - 1) 0))
  unfolding last_free
  kept_next r h g =
      let e : (r - 1) + 1 ≡ r = omega arith in
      ap (λ (k : ℕ). last_free free (part i k s)) (sym e)
      ∙ ap (last_free free) (part-more s i (r - 1) (omega arith) (omega arith))
      ∙ last-join free (part i (r - 1) s) (get_or s (r - 1) 0 ∷ [])

  pub kept_step : (ps : List Pair) (to : ℕ) (o : List ℕ) (e r : ℕ) (p : List ℕ) (next : Bool) → KeptAs s i free e → i < e
      → PutAs (part i e s) to r o p → next ≡ not (is_mark (get_or s (e - 1) 0)) → Stepped ps s i to free o e r next p
  kept_step ps to o e r p next x h q d =
      record {
        shows = part i e s;
        past = h;
        within = x.within;
        put = q;
        rest = x.rest ps ∙ ap (λ (f : Bool). part i e s ++ replaced_after ps false f [] (plain_at s e)) (kept_next e h x.within ∙ sym d);
      }
