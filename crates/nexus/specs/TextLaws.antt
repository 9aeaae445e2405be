-- Laws of writing a tree's plain text. Assumes nothing.
-- Bytes: 39 is the apostrophe, 91 `[`, and 32 a blank.
--
--   shown-blank, shown-bracket, shown-byte       the byte that is read at a place: for a comment, for a bracket whose comment never ends, any other
--   passed-blank, passed-bracket, passed-byte    past it, if it is no quote
--   put-over, put_byte, put-run                  bytes that are put
--   shown-kept, put-kept, put-named              a token that may not be replaced, and one that may
--   label-more, label-end, token_end             the text from a label byte on, from another byte, and behind a token
--   token-step, byte_step                        a token of the text, or a byte, written
--   written_none, written-more                   the text as the loop writes it
--   text-over, text-all                          it runs over, or is whole
use Rattle.std.specs.Prelude.{ℕ, ◌+◌, ◌-◌, ◌≤◌, ◌<◌, ◌≡◌, Bool, get_or, set}
use Rattle.std.proofs.Common.{add-one, ◌∙◌, ⊎_elim, true≢false, length-set, length-append, take_at, take-suc-set}
use native.Mathlib.Omega.{arith}
use Rattle.std.proofs.Math.Path.{refl, sym, ap}
use Rattle.std.proofs.Math.Bool.{true, false}
use mathlib.Core.List.{List, [], ◌∷◌, ◌++◌, append_assoc, append-nil}
use Rattle.std.proofs.Math.Dec.{eqb}
use Rattle.std.proofs.Math.ListN.{length, take}
use Rattle.std.proofs.lemmas.List.Edits.{sets-eq}
use Rattle.std.proofs.Math.Seq.{length-take-le}
use borrow.Author.Tests.{ne_eqb, eqb-false}
use Rattle.trees.specs.Plain.{every}
use Rattle.trees.specs.Text.{is_label_byte, turned}
use Rattle.trees.specs.Held.{most_text}
use Rattle.trees.specs.Nexus.{Pair, begins, uncommented}
use Rattle.trees.specs.NexusCall.{name_of, shown, free_behind, replaced, replaced_after}
use Rattle.theorems.specs.ListLaws.{less-or-not, by-elim, and_left, and_right}
use Rattle.theorems.specs.QuoteLaws.{other-turned}
use Rattle.fields.specs.Run.{copied}
use Rattle.fields.specs.RunLaws.{copied-length}
use Rattle.text.specs.Read.{RunEnd}
use Rattle.layout.specs.Store.{ran_over}
use Rattle.nexus.specs.Places.{part, plain_at, CommentEnd}
use Rattle.nexus.specs.PartLaws.{part_length}
use Rattle.nexus.specs.PlaceLaws.{plain-none, plain-front, plain_byte, plain-comment}
use Rattle.nexus.specs.TokenLaws.{label-every, label-plain, label-stop}
use Rattle.nexus.specs.LabelLaws.{none-begins}
use Rattle.nexus.specs.Texts.{behind_one, ShownAt, PassedAt, PutAs, TextAs, Written, Stepped}

-- ---- the byte that is read at a place

module _ (s : List ℕ) (i : ℕ) (h : i < length s) where
  first-shown : (b : ℕ) (r : List ℕ) → plain_at s i ≡ b ∷ r → ShownAt s i b
  unfolding behind_one
  first-shown b r e = record { is = e ∙ ap (λ (l : List ℕ). b ∷ l) (sym (ap behind_one e)) }

  rest-passed : (b z : ℕ) → ((get_or s i 0 ≡ 39 → ⊥) → plain_at s i ≡ b ∷ plain_at s z) → i < z → z ≤ length s → PassedAt s i z
  unfolding behind_one
  rest-passed b z e p q = record { past = p; within = q; is = λ n. ap behind_one (e n) }

  module _ (e : get_or s i 0 ≡ 91) (z : ℕ) (p : CommentEnd s (i + 1) z) where
    pub shown-blank : z ≤ length s → ShownAt s i 32
    shown-blank l = first-shown 32 _ (plain-comment s i h e ∙ (p.closed l).1)

    pub shown-bracket : length s < z → ShownAt s i (get_or s i 0)
    shown-bracket l = rw e (first-shown 91 [] (plain-comment s i h e ∙ (p.unclosed l).1))

    pub passed-blank : z ≤ length s → PassedAt s i z
    passed-blank l = let q = (p.closed l).0 in rest-passed 32 z (λ m. plain-comment s i h e ∙ (p.closed l).1) (omega arith) l

    pub passed-bracket : length s < z → PassedAt s i (length s)
    passed-bracket l =
        let q : [] ≡ plain_at s (length s) = sym (plain-none s (length s) (omega arith)) in
        rest-passed 91 (length s) (λ m. plain-comment s i h e ∙ (p.unclosed l).1 ∙ ap (λ (r : List ℕ). 91 ∷ r) q) h (omega arith)

  module _ (n : get_or s i 0 ≡ 91 → ⊥) where
    pub shown-byte : ShownAt s i (get_or s i 0)
    shown-byte = first-shown (get_or s i 0) _ (plain-front s i h n).1

    pub passed-byte : PassedAt s i (i + 1)
    passed-byte = rest-passed (get_or s i 0) (i + 1) (plain_byte s i h n) (omega arith) (omega arith)

-- ---- bytes that are put

module _ (w : List ℕ) (to : ℕ) (o : List ℕ) where
  pub put-over : most_text < to + length w → PutAs w to ran_over o o
  put-over h = record { size = refl; fits = λ l. absurd (omega arith); over = λ l. refl }

  put-fits : (r : ℕ) (p : List ℕ) → length p ≡ length o → to + length w ≤ most_text → r ≡ to + length w → take r p ≡ take to o ++ w
      → PutAs w to r o p
  put-fits r p s l e t = record { size = s; fits = λ m. (e, t); over = λ m. absurd (omega arith) }

pub put_byte : (b to : ℕ) (o : List ℕ) → length o ≡ most_text → to < most_text → PutAs (b ∷ []) to (to + 1) o (set o to b)
put_byte b to o l h =
    put-fits (b ∷ []) to o (to + 1) (set o to b) (length-set o to b) (omega arith) refl
    (rw (add-one to) (take-suc-set o to b (omega arith)))

pub put-run : (o s : List ℕ) (to b e : ℕ) (p : List ℕ) → length o ≡ most_text → b ≤ e → e ≤ length s → to + (e - b) ≤ most_text
    → p ≡ copied o to s b (e - b) → PutAs (part b e s) to (to + (e - b)) o p
unfolding copied
put-run o s to b e p l h f g q =
    let n = part_length s b e h f in
    let m = length-take-le to o (omega arith) in
    let k : length (take to o ++ part b e s) ≡ to + (e - b) = length-append (take to o) (part b e s) ∙ omega arith in
    put-fits (part b e s) to o (to + (e - b)) p (ap length q ∙ copied-length o to s b (e - b)) (omega arith) (omega arith)
    (rw q
    (ap (take (to + (e - b))) (sets-eq (part b e s) o to (omega arith)) ∙ take_at (take to o ++ part b e s) _ _ k))

-- ---- a token, as it is shown

pub shown-kept : (ps : List Pair) (w : List ℕ) → shown ps false w ≡ w
unfolding shown
shown-kept ps [] = refl
shown-kept ps (b ∷ w) = refl

shown-name : (ps : List Pair) (w : List ℕ) → 0 < length w → shown ps true w ≡ name_of ps w
unfolding shown
shown-name ps [] h = absurd (omega arith)
shown-name ps (b ∷ w) h = refl

module _ (ps : List Pair) (free : Bool) (w : List ℕ) (to r : ℕ) (o p : List ℕ) where
  pub put-kept : free ≡ false → PutAs w to r o p → PutAs (shown ps free w) to r o p
  put-kept e q = rw (e, shown-kept ps w) q

  pub put-named : (v : List ℕ) → free ≡ true → 0 < length w → name_of ps w ≡ v → PutAs v to r o p → PutAs (shown ps free w) to r o p
  put-named v e h n q = rw (e, shown-name ps w h, n) q

-- ---- a token of the text

module _ (ps : List Pair) where
  pub label-more : (free : Bool) (w : List ℕ) (b : ℕ) (r : List ℕ) → is_label_byte b ≡ true
      → replaced_after ps false free w (b ∷ r) ≡ replaced_after ps false free (w ++ b ∷ []) r
  unfolding replaced_after
  label-more free w b r e =
      by-elim (λ (l : List ℕ). l ≡ replaced_after ps false free (w ++ b ∷ []) r) (is_label_byte b) (λ q. refl) (λ q. absurd (true≢false (sym e ∙ q)))

  pub label-end : (free : Bool) (w : List ℕ) (b : ℕ) (r : List ℕ) → is_label_byte b ≡ false
      → replaced_after ps false free w (b ∷ r) ≡ shown ps free w ++ (b ∷ replaced_after ps (turned false b) (free_behind free w b) [] r)
  unfolding replaced_after
  label-end free w b r e =
      by-elim
      (λ (l : List ℕ). l ≡ shown ps free w ++ (b ∷ replaced_after ps (turned false b) (free_behind free w b) [] r))
      (is_label_byte b)
      (λ q. absurd (true≢false (sym q ∙ e)))
      (λ q. refl)

  -- behind a token the next may be replaced again, but for `)` and `:` between
  pub token_end : (free : Bool) (w r : List ℕ) → 0 < length w → begins is_label_byte r ≡ false
      → replaced_after ps false free w r ≡ shown ps free w ++ replaced_after ps false true [] r
  unfolding replaced_after shown begins free_behind
  token_end free [] r h n = absurd (omega arith)
  token_end free (x ∷ w) [] h n = sym (append-nil _)
  token_end free (x ∷ w) (b ∷ r) h n = label-end free (x ∷ w) b r n ∙ ap (λ (l : List ℕ). shown ps free (x ∷ w) ++ l) (sym (label-end true [] b r n))

  -- the bytes u of a token, behind its bytes w
  label-run : (free : Bool) (w u r : List ℕ) → every is_label_byte u ≡ true → replaced_after ps false free w (u ++ r) ≡ replaced_after ps false free (w ++ u) r
  unfolding every
  label-run free w [] r e = ap (λ (v : List ℕ). replaced_after ps false free v r) (sym (append-nil w))
  label-run free w (b ∷ u) r e =
      label-more free w b (u ++ r) (and_left (is_label_byte b) (every is_label_byte u) e)
      ∙ label-run free (w ++ b ∷ []) u r (and_right (is_label_byte b) (every is_label_byte u) e)
      ∙ ap (λ (v : List ℕ). replaced_after ps false free v r) (append_assoc w (b ∷ []) u)

module _ (ps : List Pair) (free : Bool) (s : List ℕ) where
  module _ (at to : ℕ) (o : List ℕ) (r : ℕ) (p : List ℕ) (e : ℕ) (x : RunEnd s at e) where
    pub token-step : at < e → PutAs (shown ps free (part at e s)) to r o p → Stepped ps s at to free o e r true p
    token-step h q =
        let l = part_length s at e x.past x.within in
        record {
          shows = shown ps free (part at e s);
          past = h;
          within = x.within;
          put = q;
          rest =
              ap (replaced_after ps false free []) (label-plain s at e x)
              ∙ label-run ps free [] (part at e s) (plain_at s e) (label-every s at e x)
              ∙ token_end ps free (part at e s) (plain_at s e) (omega arith) (label-stop s at e x);
        }

    pub byte_step : (b z : ℕ) (next : Bool) → e ≤ at → (get_or s at 0 ≡ 39 → ⊥) → ShownAt s at b → PassedAt s at z → PutAs (b ∷ []) to r o p
        → next ≡ free_behind free [] b → Stepped ps s at to free o z r next p
    unfolding begins shown
    byte_step b z next h j y m q d =
        let n = x.past in
        let g : e ≡ at = omega arith in
        let k : plain_at s at ≡ b ∷ plain_at s z = y.is ∙ ap (λ (l : List ℕ). b ∷ l) (m.is j) in
        let u : eqb 39 b ≡ false = sym (ap (begins (eqb 39)) k) ∙ none-begins s at (λ v. j) in
        let c : turned false b ≡ false = other-turned false b (ne_eqb b 39 (λ v. eqb-false 39 b u (sym v))) in
        let f : is_label_byte b ≡ false = sym (ap (begins is_label_byte) k) ∙ ap (λ (j : ℕ). begins is_label_byte (plain_at s j)) (sym g) ∙ label-stop s at e x in
        record {
          shows = b ∷ [];
          past = m.past;
          within = m.within;
          put = q;
          rest =
              rw d
              (ap (replaced_after ps false free []) k
              ∙ label-end ps free [] b (plain_at s z) f
              ∙ ap (λ (o : Bool). b ∷ replaced_after ps o (free_behind free [] b) [] (plain_at s z)) c);
        }

-- ---- the text as the loop writes it

module _ (ps : List Pair) (s : List ℕ) where
  pub written_none : (o : List ℕ) → length o ≡ most_text → Written ps s 0 0 true o
  unfolding replaced
  written_none o l = record { within = omega arith; few = omega arith; size = l; rest = refl }

  module _ (at to : ℕ) (free : Bool) (o : List ℕ) (x : Written ps s at to free o) where
    pub text-all : length s ≤ at → TextAs (replaced ps (uncommented false s)) to o
    unfolding replaced_after shown
    text-all h =
        let f = x.few in
        let g = x.size in
        let e : replaced ps (uncommented false s) ≡ take to o =
        x.rest ∙ ap (λ (l : List ℕ). take to o ++ replaced_after ps false free [] l) (plain-none s at h) ∙ append-nil (take to o) in
        let n : length (replaced ps (uncommented false s)) ≡ to = ap length e ∙ length-take-le to o (omega arith) in
        record { fits = λ l. (sym n, sym e); over = λ l. absurd (omega arith) }

    module _ (z r : ℕ) (next : Bool) (p : List ℕ) (y : Stepped ps s at to free o z r next p) where
      text-rest : replaced ps (uncommented false s) ≡ take to o ++ y.shows ++ replaced_after ps false next [] (plain_at s z)
      text-rest = x.rest ∙ ap (λ (l : List ℕ). take to o ++ l) y.rest ∙ sym (append_assoc (take to o) y.shows _)

      text-length : to + length y.shows ≤ length (replaced ps (uncommented false s))
      text-length =
          let f = x.few in
          let g = x.size in
          let k = length-take-le to o (omega arith) in
          rw (text-rest, length-append, length-append) (omega arith)

      pub written-more : (r ≡ ran_over → ⊥) → Written ps s z r next p
      written-more n =
          let f : to + length y.shows ≤ most_text =
          ⊎_elim
          (λ (h : most_text < to + length y.shows). absurd (n (y.put.over h)))
          (λ h. h)
          (less-or-not most_text (to + length y.shows)) in
          let q = y.put.fits f in
          record {
            within = y.within;
            few = omega arith;
            size = y.put.size ∙ x.size;
            rest = text-rest ∙ ap (λ (l : List ℕ). l ++ replaced_after ps false next [] (plain_at s z)) (sym q.1);
          }

      pub text-over : r ≡ ran_over → TextAs (replaced ps (uncommented false s)) r p
      text-over e =
          let n = text-length in
          let f : most_text < to + length y.shows =
          ⊎_elim
          (λ (h : most_text < to + length y.shows). h)
          (λ (h : to + length y.shows ≤ most_text). absurd (omega (arith, (y.put.fits h).0)))
          (less-or-not most_text (to + length y.shows)) in
          record { fits = λ l. absurd (omega arith); over = λ l. e }
