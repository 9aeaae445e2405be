-- Laws of a text without quotes whose keys are replaced. Assumes nothing.
-- Bytes: 39 is the apostrophe, 40 `(`, 41 `)`, 44 a comma, 58 `:`.
--
--   symbols-replaced     its symbols are those of the text, their keys replaced
--   replaced-bytes       it has no more bytes than the text and the names of the tokens that may be keys
use Rattle.std.specs.Prelude.{ℕ, ◌+◌, ◌≤◌, ◌≡◌, Bool, not, eqb, length}
use Rattle.std.proofs.Common.{arith, sym, ◌∙◌, length-append, ne_eqb}
use Rattle.std.proofs.Math.Path.{refl, ap}
use Rattle.std.proofs.Math.Logic.{⊎_elim}
use Rattle.std.proofs.Math.Bool.{true, false}
use mathlib.Core.List.{List, [], ◌∷◌, ◌++◌, map, append-nil}
use Rattle.std.proofs.lemmas.Bool.{eqb-false}
use Rattle.trees.specs.Plain.{every, member, same_bytes}
use Rattle.trees.specs.Text.{apostrophe, is_blank, is_label_byte, open_after, is_label, Symbol, token, stray, open_bracket, close_bracket, comma, colon, blank, mark, kind, kind_in, ended, symbols, symbols_after}
use Rattle.trees.specs.Nexus.{Pair}
use Rattle.trees.specs.NexusCall.{name_of, shown, free_behind, replaced, replaced_after}
use Rattle.theorems.specs.ListLaws.{equal_or_not, by-test, if-true, if-false, and_left, and_right, and-true, every_append}
use Rattle.theorems.specs.QuoteLaws.{other-turned, or-none, or-rest}
use Rattle.theorems.specs.TextLaws.{by_kind, symbols-cons}
use Rattle.theorems.specs.NameLaws.{label-kind}
use Rattle.theorems.specs.LabelLaws.{plain_label, label-closed, run-taken, Ends, ends-nil, ends-blank, ends-mark, label-run}
use Rattle.nexus.specs.TextLaws.{label-more, label-end}
use Rattle.nexus.specs.KeptLaws.{mark-other, free-bare}
use Rattle.nexus.specs.Named.{labelled, free_behind_symbol, named, free_tokens, bytes_of}

-- ---- runs of label bytes

-- a run with a byte is a label
run-label : (b : ℕ) (w : List ℕ) → every is_label_byte (b ∷ w) ≡ true → is_label (b ∷ w) ≡ true
run-label b w e = plain_label (b ∷ w) (omega arith) e

-- quotes are closed behind a run
run-closed : (w : List ℕ) → every is_label_byte w ≡ true → open_after false w ≡ false
unfolding open_after
run-closed [] e = refl
run-closed (b ∷ w) e = label-closed (b ∷ w) (run-label b w e)

-- a run with one label byte more
run_more : (w : List ℕ) (b : ℕ) → every is_label_byte w ≡ true → is_label_byte b ≡ true → every is_label_byte (w ++ b ∷ []) ≡ true
unfolding every
run_more w b e h = every_append is_label_byte w (b ∷ []) e (and-true h refl)

-- a run goes on with a label byte
symbols-more : (w : List ℕ) (b : ℕ) (s : List ℕ) → every is_label_byte w ≡ true → is_label_byte b ≡ true → symbols_after w (b ∷ s) ≡ symbols_after (w ++ b ∷ []) s
unfolding kind_in
symbols-more w b s e h = run-taken w (b ∷ []) s (rw (run-closed w e) (label-kind b h, tt))

-- whether a token is replaced behind the run w and a blank
abbrev behind_run : Bool → List ℕ → Bool
behind_run free [] = free
behind_run free (b ∷ w) = true

-- the name of a label is one
name-label : (ps : List Pair) → labelled ps ≡ true → (w : List ℕ) → is_label w ≡ true → is_label (name_of ps w) ≡ true
unfolding labelled name_of
name-label [] l w e = e
name-label (p ∷ ps) l w e =
    by-test (λ (v : List ℕ). is_label v ≡ true) (same_bytes p.0 w) (λ q. and_left (is_label p.1) (labelled ps) l)
    (λ q. name-label ps (and_right (is_label p.1) (labelled ps) l) w e)

-- the symbols of a run as it is shown, before a text that ends it
run-named : (ps : List Pair) → labelled ps ≡ true → (free : Bool) (w rest : List ℕ) (r : List Symbol) → every is_label_byte w ≡ true → Ends rest
    → symbols rest ≡ named ps (behind_run free w) r → symbols (shown ps free w ++ rest) ≡ named ps free (ended w r)
unfolding shown ended named
run-named ps l free [] rest r e n h = h
run-named ps l free (b ∷ w) rest r e n h =
    let v = b ∷ w in
    let k = run-label b w e in
    label-run (shown ps free v) rest (by-test (λ (u : List ℕ). is_label u ≡ true) free (λ q. name-label ps l v k) (λ q. k)) n
    ∙ ap (λ (x : List Symbol). token (shown ps free v) ∷ x) h
    ∙ sym (ap (λ (x : Symbol). named ps free (x ∷ r)) (if-true (token v) stray k))

-- ---- bytes that end a run

-- the byte b ends a run: where the symbols of u are those of s with their keys replaced, they are so with b before both, and b is no token
record Parting (b : ℕ) : Type 0 where
  pub ends : (u : List ℕ) → Ends (b ∷ u)
  pub names : (ps : List Pair) (free : Bool) (w s u : List ℕ) → symbols u ≡ named ps (free_behind free w b) (symbols s) → symbols (b ∷ u) ≡ named ps (behind_run free w) (symbols (b ∷ s))
  pub tokens : (free : Bool) (w s : List ℕ) → free_tokens (behind_run free w) (symbols (b ∷ s)) ≡ free_tokens (free_behind free w b) (symbols s)

-- a blank has no symbol
symbols-blank : (b : ℕ) (s : List ℕ) → kind b ≡ blank → symbols (b ∷ s) ≡ symbols s
unfolding by_kind kind_in open_after ended
symbols-blank b s e = symbols-cons [] b s ∙ ap (λ k. by_kind k [] b s) e

-- a mark has its own
symbols-mark : (b : ℕ) (m : Symbol) (s : List ℕ) → kind b ≡ mark m → symbols (b ∷ s) ≡ m ∷ symbols s
unfolding by_kind kind_in open_after ended
symbols-mark b m s e = symbols-cons [] b s ∙ ap (λ k. by_kind k [] b s) e

-- what is replaced behind a blank
behind-blank : (free : Bool) (w : List ℕ) (b : ℕ) → is_blank b ≡ true → free_behind free w b ≡ behind_run free w
unfolding free_behind
behind-blank free [] b e = if-true _ _ e
behind-blank free (x ∷ w) b e = if-true _ _ e

-- a blank ends a run
parting-blank : (b : ℕ) → is_blank b ≡ true → Parting b
unfolding kind
parting-blank b e =
    let k : kind b ≡ blank = if-true _ _ e in
    record {
      ends = λ u. ends-blank b u k;
      names = λ ps free w s u h. rw (symbols-blank b u k, symbols-blank b s k, ← behind-blank free w b e) h;
      tokens = λ free w s. rw (symbols-blank b s k, behind-blank free w b e) refl;
    }

-- so does a mark m, which is no token and says whether one is replaced behind it
parting-mark : (b : ℕ) (m : Symbol) → kind b ≡ mark m → ((free : Bool) (w : List ℕ) → free_behind free w b ≡ free_behind_symbol m)
    → ((ps : List Pair) (free : Bool) (r : List Symbol)
    → (named ps free (m ∷ r) ≡ m ∷ named ps (free_behind_symbol m) r) × (free_tokens free (m ∷ r) ≡ free_tokens (free_behind_symbol m) r)) → Parting b
parting-mark b m k f n =
    record {
      ends = λ u. ends-mark b u m k;
      names = λ ps free w s u h.
          symbols-mark b m u k
          ∙ ap (λ (r : List Symbol). m ∷ r) (h ∙ ap (λ (g : Bool). named ps g (symbols s)) (f free w))
          ∙ sym (ap (named ps (behind_run free w)) (symbols-mark b m s k) ∙ (n ps (behind_run free w) (symbols s)).0);
      tokens = λ free w s.
          ap (free_tokens (behind_run free w)) (symbols-mark b m s k)
          ∙ (n [] (behind_run free w) (symbols s)).1
          ∙ ap (λ (g : Bool). free_tokens g (symbols s)) (sym (f free w));
    }

-- and a byte that is none of the others
parting-stray : (b : ℕ) → is_blank b ≡ false → is_label_byte b ≡ false → eqb b 39 ≡ false → (b ≡ 40 → ⊥) → (b ≡ 41 → ⊥) → (b ≡ 44 → ⊥) → (b ≡ 58 → ⊥) → Parting b
unfolding kind named free_tokens
parting-stray b e l q n40 n41 n44 n58 =
    parting-mark b stray
    (if-false _ _ e ∙ if-false _ _ (ne_eqb b 40 n40) ∙ if-false _ _ (ne_eqb b 41 n41) ∙ if-false _ _ (ne_eqb b 44 n44) ∙ if-false _ _ (ne_eqb b 58 n58) ∙ if-false _ _ l ∙ if-false _ _ q)
    (λ free w. free-bare free w b e ∙ ap not (mark-other b n41 ∙ ne_eqb b 58 n58))
    (λ ps free r. (refl, refl))

-- a byte that is neither a label byte nor a quote
module _ (b : ℕ) (l : is_label_byte b ≡ false) (q : eqb b 39 ≡ false) where
  -- ends a run if it is no blank
  parting-other : is_blank b ≡ false → Parting b
  unfolding kind free_behind named free_tokens
  parting-other e =
      ⊎_elim (λ (p : b ≡ 40). rw p (parting-mark 40 open_bracket refl (λ free w. refl) (λ ps free r. (refl, refl))))
      (λ (n40 : b ≡ 40 → ⊥). ⊎_elim (λ (p : b ≡ 41). rw p (parting-mark 41 close_bracket refl (λ free w. refl) (λ ps free r. (refl, refl))))
      (λ (n41 : b ≡ 41 → ⊥). ⊎_elim (λ (p : b ≡ 44). rw p (parting-mark 44 comma refl (λ free w. refl) (λ ps free r. (refl, refl))))
      (λ (n44 : b ≡ 44 → ⊥). ⊎_elim (λ (p : b ≡ 58). rw p (parting-mark 58 colon refl (λ free w. refl) (λ ps free r. (refl, refl))))
      (λ (n58 : b ≡ 58 → ⊥). parting-stray b e l q n40 n41 n44 n58)
      (equal_or_not b 58)) (equal_or_not b 44)) (equal_or_not b 41)) (equal_or_not b 40)

  -- and if it is one
  parting : Parting b
  parting = go (is_blank b) refl
    where
      go : (t : Bool) → is_blank b ≡ t → Parting b
      go true e = parting-blank b e
      go false e = parting-other e

-- ---- a text

-- the first byte of a text without quotes is none
no-quote : (b : ℕ) (s : List ℕ) → member apostrophe (b ∷ s) ≡ false → eqb b apostrophe ≡ false
unfolding member
no-quote b s n = ne_eqb b apostrophe (λ e. eqb-false apostrophe b (or-none (eqb apostrophe b) (member apostrophe s) n) (sym e))

-- and the rest has none
rest-quoteless : (b : ℕ) (s : List ℕ) → member apostrophe (b ∷ s) ≡ false → member apostrophe s ≡ false
unfolding member
rest-quoteless b s n = or-rest (eqb apostrophe b) (member apostrophe s) n

-- the text behind a run, from a byte that ends it on
replaced-parting : (ps : List Pair) (free : Bool) (w : List ℕ) (b : ℕ) (s : List ℕ) → is_label_byte b ≡ false → eqb b apostrophe ≡ false
    → replaced_after ps false free w (b ∷ s) ≡ shown ps free w ++ (b ∷ replaced_after ps false (free_behind free w b) [] s)
replaced-parting ps free w b s l q =
    label-end ps free w b s l ∙ ap (λ (t : Bool). shown ps free w ++ (b ∷ replaced_after ps t (free_behind free w b) [] s)) (other-turned false b q)

-- and its symbols
symbols-parting : (w : List ℕ) (b : ℕ) (s : List ℕ) → every is_label_byte w ≡ true → Parting b → symbols_after w (b ∷ s) ≡ ended w (symbols (b ∷ s))
unfolding Ends
symbols-parting w b s e p = p.ends s w (run-closed w e)

-- what holds at the end of a text, and before a byte where it holds behind it, holds of every text without quotes, whatever run stands before it
module _ (P : Bool → List ℕ → List ℕ → Type 0) (none : (free : Bool) (w : List ℕ) → every is_label_byte w ≡ true → P free w [])
    (more : (free : Bool) (w : List ℕ) (b : ℕ) (s : List ℕ) → every is_label_byte w ≡ true → is_label_byte b ≡ true → P free (w ++ b ∷ []) s → P free w (b ∷ s))
    (parted : (free : Bool) (w : List ℕ) (b : ℕ) (s : List ℕ) → every is_label_byte w ≡ true → is_label_byte b ≡ false → eqb b apostrophe ≡ false → P (free_behind free w b) [] s → P free w (b ∷ s)) where
  by_bytes : (free : Bool) (w t : List ℕ) → every is_label_byte w ≡ true → member apostrophe t ≡ false → P free w t
  unfolding every
  by_bytes free w [] e n = none free w e
  by_bytes free w (b ∷ s) e n = go (is_label_byte b) refl (λ f v d. by_bytes f v s d (rest-quoteless b s n))
    where
      go : (t : Bool) → is_label_byte b ≡ t → ((f : Bool) (v : List ℕ) → every is_label_byte v ≡ true → P f v s) → P free w (b ∷ s)
      go true h r = more free w b s e h (r free (w ++ b ∷ []) (run_more w b e h))
      go false h r = parted free w b s e h (no-quote b s n) (r (free_behind free w b) [] refl)

-- ---- its symbols

-- those of the text t behind the run w
abbrev NamedAfter : List Pair → Bool → List ℕ → List ℕ → Type 0
NamedAfter ps free w t = symbols (replaced_after ps false free w t) ≡ named ps free (symbols_after w t)

module _ (ps : List Pair) (l : labelled ps ≡ true) where
  -- at the end of the text
  named_none : (free : Bool) (w : List ℕ) → every is_label_byte w ≡ true → NamedAfter ps free w []
  unfolding replaced_after symbols_after named
  named_none free w e = ap symbols (sym (append-nil (shown ps free w))) ∙ run-named ps l free w [] [] e ends-nil refl

  module _ (free : Bool) (w : List ℕ) (b : ℕ) (s : List ℕ) (e : every is_label_byte w ≡ true) where
    -- before a label byte
    named_more : is_label_byte b ≡ true → NamedAfter ps free (w ++ b ∷ []) s → NamedAfter ps free w (b ∷ s)
    named_more h r = ap symbols (label-more ps free w b s h) ∙ r ∙ ap (named ps free) (sym (symbols-more w b s e h))

    -- before another byte
    named-parted : is_label_byte b ≡ false → eqb b apostrophe ≡ false → NamedAfter ps (free_behind free w b) [] s → NamedAfter ps free w (b ∷ s)
    named-parted h q r =
        let p = parting b h q in
        let u = replaced_after ps false (free_behind free w b) [] s in
        ap symbols (replaced-parting ps free w b s h q)
        ∙ run-named ps l free w (b ∷ u) (symbols (b ∷ s)) e (p.ends u) (p.names ps free w s u r)
        ∙ ap (named ps free) (sym (symbols-parting w b s e p))

-- the symbols of a text whose keys are replaced are its own, their keys replaced
pub symbols-replaced : (ps : List Pair) → labelled ps ≡ true → (t : List ℕ) → member apostrophe t ≡ false → symbols (replaced ps t) ≡ named ps true (symbols t)
unfolding replaced every
symbols-replaced ps l t n = by_bytes (NamedAfter ps) (named_none ps l) (named_more ps l) (named-parted ps l) true [] t refl n

-- ---- how many bytes it has

-- how many bytes the names have of the tokens of ss that may be keys
abbrev name_bytes : List Pair → Bool → List Symbol → ℕ
name_bytes ps free ss = bytes_of (map (name_of ps) (free_tokens free ss))

-- a run as it is shown has no more bytes than itself and its name
run-bytes : (ps : List Pair) (free : Bool) (w : List ℕ) (r : List Symbol) → every is_label_byte w ≡ true
    → length (shown ps free w) + name_bytes ps (behind_run free w) r ≤ length w + name_bytes ps free (ended w r)
unfolding shown ended free_tokens bytes_of
run-bytes ps free [] r e = omega arith
run-bytes ps true (b ∷ w) r e = rw (run-label b w e) (omega arith)
run-bytes ps false (b ∷ w) r e = rw (run-label b w e) (omega arith)

-- the text t behind the run w has few enough
abbrev FewAfter : List Pair → Bool → List ℕ → List ℕ → Type 0
FewAfter ps free w t = length (replaced_after ps false free w t) ≤ length w + length t + name_bytes ps free (symbols_after w t)

module _ (ps : List Pair) where
  -- at the end of the text
  few-none : (free : Bool) (w : List ℕ) → every is_label_byte w ≡ true → FewAfter ps free w []
  unfolding replaced_after symbols_after
  few-none free w e = omega (arith, run-bytes ps free w [] e)

  module _ (free : Bool) (w : List ℕ) (b : ℕ) (s : List ℕ) (e : every is_label_byte w ≡ true) where
    -- before a label byte
    few-more : is_label_byte b ≡ true → FewAfter ps free (w ++ b ∷ []) s → FewAfter ps free w (b ∷ s)
    few-more h r = rw (label-more ps free w b s h, symbols-more w b s e h) (omega (arith, length-append w (b ∷ [])))

    -- before another byte
    few-parted : is_label_byte b ≡ false → eqb b apostrophe ≡ false → FewAfter ps (free_behind free w b) [] s → FewAfter ps free w (b ∷ s)
    few-parted h q r =
        let p = parting b h q in
        let k = run-bytes ps free w (symbols (b ∷ s)) e in
        let n = ap (λ (v : List (List ℕ)). bytes_of (map (name_of ps) v)) (p.tokens free w s) in
        rw (replaced-parting ps free w b s h q, symbols-parting w b s e p)
        (omega (arith, length-append (shown ps free w) (b ∷ replaced_after ps false (free_behind free w b) [] s)))

-- replacing adds no more bytes than the names have of the tokens that may be keys
pub replaced-bytes : (ps : List Pair) (t : List ℕ) → member apostrophe t ≡ false → length (replaced ps t) ≤ length t + bytes_of (map (name_of ps) (free_tokens true (symbols t)))
unfolding replaced every
replaced-bytes ps t n = omega (arith, by_bytes (FewAfter ps) (few-none ps) (few-more ps) (few-parted ps) true [] t refl n)
