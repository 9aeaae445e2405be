-- Laws of labels, as they stand in a text: with their quotes. Assumes nothing.
--
--   outside x q s        the byte x stands in s outside quotes; q: whether they are open before s
--   outside-append       it stands so in two runs where it does in one of them
--   end-outside          a text ends where a semicolon stands outside quotes
--   label-other          a label byte is none that is no label byte
--   plain_label          one label byte or more are a label
--   plain-reads          and what it is read as
--   QuotedLabel w        the bytes w are a label in quotes
--   label-cases          a label is one in quotes, or such a one
--   label-bytes          a label reads as bytes that may stand in quotes
--   label-some           and as one at least
--   label-closed         quotes are closed behind a label
--   label-hides          what is no label byte stands in a label only in quotes
--   label-unended        so no text ends in a label
--   InRun q w            the bytes w are of one run, each in its place
--   run-taken            a run goes on with them
--   Ends s               a run of bytes ends before the text s
--   ends-nil, ends-blank, ends-mark     as before nothing, a blank and a mark
--   label-run            a label, where a run ends behind it, is one token
use Rattle.std.specs.Prelude.{ℕ, ◌≤◌, ◌≡◌, ◌⊎◌, Bool, ◌&&◌, ◌||◌, leb, length, if◌then◌else◌}
use Rattle.std.proofs.Common.{arith, sym, ◌∙◌, subst, inl, inr, true≢false, eqb-true, ne_eqb, leb-true, le-leb}
use Rattle.std.proofs.Math.Path.{refl, ap}
use Rattle.std.proofs.Math.Logic.{⊎_elim}
use Rattle.std.proofs.Math.Bool.{true, false, not}
use mathlib.Core.List.{List, [], ◌∷◌, ◌++◌, map, append_assoc, append-nil}
use Rattle.std.proofs.Math.Dec.{eqb}
use Rattle.std.proofs.lemmas.List.{length-map}
use Rattle.trees.specs.Plain.{every}
use Rattle.trees.specs.Text.{semicolon, apostrophe, is_label_byte, is_quoted_byte, turned, open_after, has_end, is_quoted, is_label, spaced, unquoted, read_as, Symbol, token, Kind, blank, label, mark, kind, kind_in, symbols, symbols_after, ended}
use Rattle.theorems.specs.ListLaws.{by-test, if-true, if-false, and_left, and_right, and-true, or_cases, every-at, every-intro}
use Rattle.theorems.specs.QuoteLaws.{open-append, other-turned, no-quote-open}
use Rattle.theorems.specs.TextLaws.{by_kind, symbols-cons}
use Rattle.theorems.specs.NameLaws.{LabelBytes, every-label, label-kind}

-- ---- a byte outside quotes

unfoldable pub outside : ℕ → Bool → List ℕ → Bool
unfolding turned
outside x q [] = false
outside x q (b ∷ s) = (not q && eqb b x) || outside x (turned q b) s

or_assoc : (a b c : Bool) → a || (b || c) ≡ (a || b) || c
or_assoc true b c = refl
or_assoc false b c = refl

pub outside-append : (x : ℕ) (q : Bool) (s t : List ℕ) → outside x q (s ++ t) ≡ outside x q s || outside x (open_after q s) t
unfolding outside open_after
outside-append x q [] t = refl
outside-append x q (b ∷ s) t =
    ap (λ (o : Bool). (not q && eqb b x) || o) (outside-append x (turned q b) s t) ∙ or_assoc (not q && eqb b x) (outside x (turned q b) s) (outside x (open_after (turned q b) s) t)

pub end-outside : (q : Bool) (s : List ℕ) → has_end q s ≡ outside semicolon q s
unfolding outside has_end
end-outside q [] = refl
end-outside q (b ∷ s) = ap (λ (o : Bool). (not q && eqb b semicolon) || o) (end-outside (turned q b) s)

-- ---- labels without quotes

pub label-other : (b x : ℕ) → is_label_byte b ≡ true → is_label_byte x ≡ false → eqb b x ≡ false
label-other b x h n = ne_eqb b x (λ e. true≢false (sym h ∙ ap is_label_byte e ∙ n))

quote-no-label : is_label_byte apostrophe ≡ false
unfolding is_label_byte
quote-no-label = refl

no-quote : (b : ℕ) → is_label_byte b ≡ true → eqb b apostrophe ≡ false
no-quote b h = label-other b apostrophe h quote-no-label

pub plain_label : (w : List ℕ) → 1 ≤ length w → every is_label_byte w ≡ true → is_label w ≡ true
unfolding is_label every
plain_label [] l e = absurd (omega arith)
plain_label (b ∷ w) l e = if-false (leb 2 (length w) && is_quoted true w) (every is_label_byte (b ∷ w)) (no-quote b (and_left (is_label_byte b) (every is_label_byte w) e)) ∙ e

pub plain-reads : (w : List ℕ) → every is_label_byte w ≡ true → read_as w ≡ map spaced w
unfolding read_as every
plain-reads [] e = refl
plain-reads (b ∷ w) e = if-false _ (map spaced (b ∷ w)) (no-quote b (and_left (is_label_byte b) (every is_label_byte w) e))

-- ---- what a label is

abbrev pub QuotedLabel : List ℕ → Type 0
QuotedLabel w = (v : List ℕ) × (w ≡ apostrophe ∷ v) × (2 ≤ length v) × (is_quoted true v ≡ true)

pub label-cases : (w : List ℕ) → is_label w ≡ true → QuotedLabel w ⊎ (every is_label_byte w ≡ true)
unfolding is_label
label-cases [] e = absurd (true≢false (sym e))
label-cases (b ∷ w) e = go (eqb b apostrophe) refl e
  where
    go : (t : Bool) → eqb b apostrophe ≡ t → (if t then leb 2 (length w) && is_quoted true w else every is_label_byte (b ∷ w)) ≡ true → QuotedLabel (b ∷ w) ⊎ (every is_label_byte (b ∷ w) ≡ true)
    go true q f =
        inl (w, ap (λ (x : ℕ). x ∷ w) (eqb-true b apostrophe q), leb-true 2 (length w) (and_left (leb 2 (length w)) (is_quoted true w) f), and_right (leb 2 (length w)) (is_quoted true w) f)
    go false q f = inr f

-- a byte in or between quotes is in them, or is one
quoted-byte : (q : Bool) (b : ℕ) → eqb b apostrophe || (q && is_quoted_byte b) ≡ true → (q ≡ true) ⊎ (b ≡ apostrophe)
quoted-byte q b e = ⊎_elim (λ f. inr (eqb-true b apostrophe f)) (λ f. inl (and_left q (is_quoted_byte b) f)) (or_cases (eqb b apostrophe) (q && is_quoted_byte b) e)

-- ---- what a label reads as

space-quoted : is_quoted_byte 32 ≡ true
unfolding is_quoted_byte
space-quoted = refl

quote-quoted : is_quoted_byte apostrophe ≡ true
unfolding is_quoted_byte
quote-quoted = refl

spaced-quoted : (b : ℕ) → is_label_byte b ≡ true → is_quoted_byte (spaced b) ≡ true
unfolding spaced is_label_byte is_quoted_byte
spaced-quoted b h =
    by-test (λ (x : ℕ). is_quoted_byte x ≡ true) (eqb b 95) (λ e. space-quoted)
    (λ e. and-true (le-leb 32 b (omega (arith, leb-true 33 b (and_left (leb 33 b) _ h)))) (and_left (leb b 126) _ (and_right (leb 33 b) _ h)))

plain-bytes : (w : List ℕ) → every is_label_byte w ≡ true → every is_quoted_byte (map spaced w) ≡ true
unfolding every
plain-bytes [] e = refl
plain-bytes (b ∷ w) e = and-true (spaced-quoted b (and_left (is_label_byte b) _ e)) (plain-bytes w (and_right (is_label_byte b) _ e))

is-quoted : (q : Bool) (b : ℕ) → eqb b apostrophe || (q && is_quoted_byte b) ≡ true → is_quoted_byte b ≡ true
is-quoted q b e =
    ⊎_elim (λ f. ap is_quoted_byte (eqb-true b apostrophe f) ∙ quote-quoted) (λ f. and_right q (is_quoted_byte b) f) (or_cases (eqb b apostrophe) (q && is_quoted_byte b) e)

quoted-bytes : (q : Bool) (w : List ℕ) → is_quoted q w ≡ true → every is_quoted_byte (unquoted q w) ≡ true
unfolding is_quoted unquoted every
quoted-bytes q [] e = refl
quoted-bytes q (b ∷ w) e =
    let rest = quoted-bytes (turned q b) w (and_right (eqb b apostrophe || (q && is_quoted_byte b)) _ e) in
    by-test (λ (v : List ℕ). every is_quoted_byte v ≡ true) (q && eqb b apostrophe) (λ f. rest) (λ f. and-true (is-quoted q b (and_left (eqb b apostrophe || (q && is_quoted_byte b)) _ e)) rest)

pub label-bytes : (w : List ℕ) → is_label w ≡ true → every is_quoted_byte (read_as w) ≡ true
unfolding read_as
label-bytes w e =
    ⊎_elim (λ c. ap (λ (x : List ℕ). every is_quoted_byte (read_as x)) c.1 ∙ quoted-bytes true c.0 c.3) (λ p. ap (every is_quoted_byte) (plain-reads w p) ∙ plain-bytes w p) (label-cases w e)

-- of two bytes behind the quote that opens a label one is read at least
quoted-some : (v : List ℕ) → 2 ≤ length v → 1 ≤ length (unquoted true v)
unfolding unquoted turned
quoted-some [] l = absurd (omega arith)
quoted-some (b ∷ []) l = absurd (omega arith)
quoted-some (b ∷ c ∷ v) l =
    by-test (λ (r : List ℕ). 1 ≤ length r) (eqb b apostrophe)
    (λ e. subst (λ (x : ℕ). 1 ≤ length (unquoted (turned true x) (c ∷ v))) (sym (eqb-true b apostrophe e)) (omega arith)) (λ e. omega arith)

label-any : (w : List ℕ) → is_label w ≡ true → 1 ≤ length w
unfolding is_label
label-any [] e = absurd (true≢false (sym e))
label-any (b ∷ w) e = omega arith

pub label-some : (w : List ℕ) → is_label w ≡ true → 1 ≤ length (read_as w)
unfolding read_as
label-some w e =
    ⊎_elim (λ c. subst (λ (x : List ℕ). 1 ≤ length (read_as x)) (sym c.1) (quoted-some c.0 c.2))
    (λ p. omega (arith, label-any w e, ap length (plain-reads w p), length-map w spaced)) (label-cases w e)

-- ---- quotes in a label

quoted-closed : (q : Bool) (w : List ℕ) → is_quoted q w ≡ true → open_after q w ≡ false
unfolding is_quoted open_after
quoted-closed true [] e = absurd (true≢false (sym e))
quoted-closed false [] e = refl
quoted-closed q (b ∷ w) e = quoted-closed (turned q b) w (and_right (eqb b apostrophe || (q && is_quoted_byte b)) (is_quoted (turned q b) w) e)

plain_closed : (w : List ℕ) → every is_label_byte w ≡ true → open_after false w ≡ false
plain_closed w e = no-quote-open false w (every-intro (λ b. not (eqb b apostrophe)) w (λ b m. ap not (no-quote b (every-at is_label_byte w e b m))))

pub label-closed : (w : List ℕ) → is_label w ≡ true → open_after false w ≡ false
unfolding open_after turned
label-closed w e = ⊎_elim (λ c. ap (open_after false) c.1 ∙ quoted-closed true c.0 c.3) (plain_closed w) (label-cases w e)

module _ (x : ℕ) (n : is_label_byte x ≡ false) (other : eqb apostrophe x ≡ false) where
  quoted-hides : (q : Bool) (w : List ℕ) → is_quoted q w ≡ true → outside x q w ≡ false
  unfolding is_quoted outside
  quoted-hides q [] e = refl
  quoted-hides q (b ∷ w) e =
      ap (λ (o : Bool). o || outside x (turned q b) w) (head q (quoted-byte q b (and_left (eqb b apostrophe || (q && is_quoted_byte b)) _ e)))
      ∙ quoted-hides (turned q b) w (and_right (eqb b apostrophe || (q && is_quoted_byte b)) _ e)
    where
      head : (p : Bool) → (p ≡ true) ⊎ (b ≡ apostrophe) → not p && eqb b x ≡ false
      head true c = refl
      head false (inl f) = absurd (true≢false (sym f))
      head false (inr f) = ap (λ (y : ℕ). eqb y x) f ∙ other

  plain-hides : (w : List ℕ) → LabelBytes w → outside x false w ≡ false
  unfolding outside
  plain-hides [] h = refl
  plain-hides (b ∷ w) h =
      ap (λ (o : Bool). o || outside x (turned false b) w) (label-other b x h.0 n) ∙ ap (λ (q : Bool). outside x q w) (other-turned false b (no-quote b h.0)) ∙ plain-hides w h.1

  pub label-hides : (w : List ℕ) → is_label w ≡ true → outside x false w ≡ false
  unfolding outside turned
  label-hides w e =
      ⊎_elim (λ c. ap (outside x false) c.1 ∙ ap (λ (o : Bool). o || outside x true c.0) other ∙ quoted-hides true c.0 c.3) (λ p. plain-hides w (every-label w p)) (label-cases w e)

semicolon-no-label : is_label_byte semicolon ≡ false
unfolding is_label_byte
semicolon-no-label = refl

pub label-unended : (w : List ℕ) → is_label w ≡ true → has_end false w ≡ false
label-unended w e = end-outside false w ∙ label-hides semicolon semicolon-no-label refl w e

-- ---- a label is one run

-- each byte of w, in its place, is one of a label
abbrev pub InRun : Bool → List ℕ → Type 0
InRun q [] = Unit {0}
InRun q (b ∷ w) = (kind_in q b ≡ label) × InRun (turned q b) w

pub quote-kind : kind apostrophe ≡ label
unfolding kind
quote-kind = refl

quoted-run : (q : Bool) (w : List ℕ) → is_quoted q w ≡ true → InRun q w
unfolding is_quoted kind_in
quoted-run q [] e = tt
quoted-run q (b ∷ w) e =
    (head q (quoted-byte q b (and_left (eqb b apostrophe || (q && is_quoted_byte b)) _ e)), quoted-run (turned q b) w (and_right (eqb b apostrophe || (q && is_quoted_byte b)) _ e))
  where
    head : (p : Bool) → (p ≡ true) ⊎ (b ≡ apostrophe) → kind_in p b ≡ label
    head true c = refl
    head false (inl f) = absurd (true≢false (sym f))
    head false (inr f) = ap kind f ∙ quote-kind

pub plain-run : (w : List ℕ) → LabelBytes w → InRun false w
unfolding kind_in
plain-run [] h = tt
plain-run (b ∷ w) h = (label-kind b h.0, subst (λ q. InRun q w) (sym (other-turned false b (no-quote b h.0))) (plain-run w h.1))

in-run : (w : List ℕ) → is_label w ≡ true → InRun false w
unfolding kind_in turned
in-run w e = ⊎_elim (λ c. subst (InRun false) (sym c.1) (quote-kind, quoted-run true c.0 c.3)) (λ p. plain-run w (every-label w p)) (label-cases w e)

pub run-taken : (v w rest : List ℕ) → InRun (open_after false v) w → symbols_after v (w ++ rest) ≡ symbols_after (v ++ w) rest
unfolding by_kind open_after
run-taken v [] rest h = ap (λ x. symbols_after x rest) (sym (append-nil v))
run-taken v (b ∷ w) rest h =
    symbols-cons v b (w ++ rest) ∙ ap (λ k. by_kind k v b (w ++ rest)) h.0
    ∙ run-taken (v ++ b ∷ []) w rest (subst (λ q. InRun q w) (sym (open-append false v (b ∷ []))) h.1) ∙ ap (λ x. symbols_after x rest) (append_assoc v (b ∷ []) w)

unfoldable pub Ends : List ℕ → Type 0
Ends s = (v : List ℕ) → open_after false v ≡ false → symbols_after v s ≡ ended v (symbols s)

pub ends-nil : Ends []
unfolding Ends symbols_after
ends-nil v q = refl

-- before a byte of the kind k
module _ (b : ℕ) (s : List ℕ) where
  ends_by : (k : Kind) → kind b ≡ k → ((v : List ℕ) → by_kind k v b s ≡ ended v (by_kind k [] b s)) → Ends (b ∷ s)
  unfolding Ends kind_in open_after
  ends_by k e h v q =
      symbols-cons v b s ∙ ap (λ (p : Bool). by_kind (kind_in p b) v b s) q ∙ ap (λ x. by_kind x v b s) e
      ∙ h v ∙ ap (λ x. ended v (by_kind x [] b s)) (sym e) ∙ ap (ended v) (sym (symbols-cons [] b s))

  pub ends-blank : kind b ≡ blank → Ends (b ∷ s)
  unfolding by_kind ended
  ends-blank e = ends_by blank e (λ v. refl)

  pub ends-mark : (m : Symbol) → kind b ≡ mark m → Ends (b ∷ s)
  unfolding by_kind ended
  ends-mark m e = ends_by (mark m) e (λ v. refl)

label-token : (w : List ℕ) (r : List Symbol) → is_label w ≡ true → ended w r ≡ token w ∷ r
unfolding ended is_label
label-token [] r e = absurd (true≢false (sym e))
label-token (b ∷ w) r e = ap (λ (x : Symbol). x ∷ r) (if-true (token (b ∷ w)) _ e)

pub label-run : (w rest : List ℕ) → is_label w ≡ true → Ends rest → symbols (w ++ rest) ≡ token w ∷ symbols rest
unfolding Ends open_after
label-run w rest e h = run-taken [] w rest (in-run w e) ∙ h w (label-closed w e) ∙ label-token w (symbols rest) e
