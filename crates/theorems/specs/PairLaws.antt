-- Laws of labels at the front of bytes, and of the pairs of a TRANSLATE list: each is found exactly where it stands. Assumes nothing.
--
--   label-join         the label that is found, and what stands behind it
--   label-front        a label does not begin with a blank
--   LabelFound s n e   the label n is found at the front of s, and e behind it
--   label-found        a label before blanks is found
--   NameOk s n         the label n, if there is one, is what s is, and blanks
--   name-sound, name-complete     a pair's name
--   PairOk s p         the pair p, if there is one, is what s is
--   pair-sound, pair-complete     a pair
use Rattle.std.specs.Prelude.{ℕ, ◌≡◌, refl, Bool, ◌&&◌, ◌||◌, leb, eqb, length, if◌then◌else◌}
use Rattle.std.proofs.Common.{arith, ap₂, sym, ◌∙◌, subst, ⊎_elim, true≢false, leb-true, le-leb, ne_eqb}
use Rattle.std.proofs.Math.Path.{ap}
use Rattle.std.proofs.Math.Bool.{true, false}
use mathlib.Core.List.{List, [], ◌∷◌, ◌++◌, append-nil}
use Rattle.std.proofs.Math.Option.{Option, none, some}
use Rattle.std.proofs.lemmas.Bool.{not-true}
use Rattle.trees.specs.Plain.{every, member}
use Rattle.trees.specs.Text.{apostrophe, is_blank, is_label_byte, turned, is_quoted_byte, is_quoted, is_label}
use Rattle.trees.specs.Nexus.{run_of, behind_run, begins, First, Named, is-named, Pair}
use Rattle.trees.specs.NexusReading.{first_token, behind_first, quoted_run, behind_quoted, label_run, behind_label, read_name, with_key, read_pair}
use Rattle.theorems.specs.ListLaws.{if-true, if-false, by-test, and_left, and_right, and-true}
use Rattle.theorems.specs.NameLaws.{label-no-blank}
use Rattle.theorems.specs.LabelLaws.{label-cases}
use Rattle.theorems.specs.OutsideLaws.{other_byte}
use Rattle.theorems.specs.RunOfLaws.{run_join, run-every, run-of, behind-of, begins-apart, begins-other}
use Rattle.theorems.specs.TokenLaws.{blank-no-label, first-stands, first_found}

-- ---- runs in quotes

pub quoted-join : (q : Bool) (s : List ℕ) → quoted_run q s ++ behind_quoted q s ≡ s
unfolding quoted_run behind_quoted
quoted-join q [] = refl
quoted-join q (b ∷ s) = go (q || eqb b apostrophe) (quoted-join (turned q b) s)
  where
    go : (t : Bool) → quoted_run (turned q b) s ++ behind_quoted (turned q b) s ≡ s
        → (if t then b ∷ quoted_run (turned q b) s else []) ++ (if t then behind_quoted (turned q b) s else b ∷ s) ≡ b ∷ s
    go true f = ap (λ (l : List ℕ). b ∷ l) f
    go false f = refl

pub label-join : (s : List ℕ) → label_run s ++ behind_label s ≡ s
unfolding label_run behind_label
label-join s = go (begins (eqb apostrophe) s)
  where
    go : (t : Bool) → (if t then quoted_run false s else run_of is_label_byte s) ++ (if t then behind_quoted false s else behind_run is_label_byte s) ≡ s
    go true = quoted-join false s
    go false = run_join is_label_byte s

-- a byte of a label in quotes stands in them, or is one
quoted-here : (q t a : Bool) → (a || (q && t)) ≡ true → (q || a) ≡ true
quoted-here true t a e = refl
quoted-here false t true e = refl
quoted-here false t false e = e

-- a byte that passes a test is no apostrophe, which fails it
other-than : (p : ℕ → Bool) → p apostrophe ≡ false → (b : ℕ) → p b ≡ true → eqb apostrophe b ≡ false
other-than p f b e = ne_eqb apostrophe b (λ d. true≢false (sym e ∙ ap p (sym d) ∙ f))

blank-no-quote : (b : ℕ) → is_blank b ≡ true → eqb b apostrophe ≡ false
unfolding is_blank member
blank-no-quote b e = other_byte is_blank b apostrophe e refl

-- behind closed quotes, blanks
closed_run : (s : List ℕ) → every is_blank s ≡ true → quoted_run false s ≡ []
unfolding quoted_run every
closed_run [] h = refl
closed_run (b ∷ s) h = if-false _ _ (blank-no-quote b (and_left (is_blank b) _ h))

closed-behind : (s : List ℕ) → every is_blank s ≡ true → behind_quoted false s ≡ s
unfolding behind_quoted every
closed-behind [] h = refl
closed-behind (b ∷ s) h = if-false _ _ (blank-no-quote b (and_left (is_blank b) _ h))

-- a label in quotes, from a byte of it on, before the blanks e
module _ (e : List ℕ) (blank : every is_blank e ≡ true) where
  quoted-run : (q : Bool) (w : List ℕ) → is_quoted q w ≡ true → quoted_run q (w ++ e) ≡ w
  unfolding quoted_run is_quoted
  quoted-run q [] h = ap (λ (x : Bool). quoted_run x e) (not-true q h) ∙ closed_run e blank
  quoted-run q (b ∷ w) h =
      if-true _ _ (quoted-here q (is_quoted_byte b) (eqb b apostrophe) (and_left (eqb b apostrophe || (q && is_quoted_byte b)) _ h))
      ∙ ap (λ (l : List ℕ). b ∷ l) (quoted-run (turned q b) w (and_right (eqb b apostrophe || (q && is_quoted_byte b)) _ h))

  quoted-behind : (q : Bool) (w : List ℕ) → is_quoted q w ≡ true → behind_quoted q (w ++ e) ≡ e
  unfolding behind_quoted is_quoted
  quoted-behind q [] h = ap (λ (x : Bool). behind_quoted x e) (not-true q h) ∙ closed-behind e blank
  quoted-behind q (b ∷ w) h =
      if-true _ _ (quoted-here q (is_quoted_byte b) (eqb b apostrophe) (and_left (eqb b apostrophe || (q && is_quoted_byte b)) _ h))
      ∙ quoted-behind (turned q b) w (and_right (eqb b apostrophe || (q && is_quoted_byte b)) _ h)

-- ---- labels

pub record LabelFound (s n e : List ℕ) : Type 0 where
  pub run-found : label_run s ≡ n
  pub rest-found : behind_label s ≡ e

module _ (e : List ℕ) (blank : every is_blank e ≡ true) where
  quote-found : (w : List ℕ) → is_quoted true w ≡ true → LabelFound (apostrophe ∷ (w ++ e)) (apostrophe ∷ w) e
  unfolding label_run behind_label begins is_quoted
  quote-found w h =
      let q : is_quoted false (apostrophe ∷ w) ≡ true = h in
      record { run-found = quoted-run e blank false (apostrophe ∷ w) q; rest-found = quoted-behind e blank false (apostrophe ∷ w) q }

  -- blanks do not begin with a byte that passes a test which they fail
  blanks-begin : (p : ℕ → Bool) → ((b : ℕ) → is_blank b ≡ true → p b ≡ false) → begins p e ≡ false
  unfolding begins
  blanks-begin p apart = rw (← append-nil e) (begins-other is_blank p apart e [] blank refl)

  token-found : (n : List ℕ) → every is_label_byte n ≡ true → LabelFound (n ++ e) n e
  unfolding label_run behind_label is_label_byte is_blank member
  token-found n h =
      let c : begins (eqb apostrophe) (n ++ e) ≡ false
      = begins-other is_label_byte (eqb apostrophe) (other-than is_label_byte refl) n e h (blanks-begin (eqb apostrophe) (other-than is_blank refl)) in
      let l = blanks-begin is_label_byte blank-no-label in
      record { run-found = if-false _ _ c ∙ run-of is_label_byte n e h l; rest-found = if-false _ _ c ∙ behind-of is_label_byte n e h l }

  pub label-found : (n : List ℕ) → is_label n ≡ true → LabelFound (n ++ e) n e
  label-found n h = ⊎_elim (λ c. subst (λ (m : List ℕ). LabelFound (m ++ e) m e) (sym c.1) (quote-found c.0 c.3)) (token-found n) (label-cases n h)

pub label-front : (n e : List ℕ) → is_label n ≡ true → begins is_blank (n ++ e) ≡ false
unfolding is_label begins is_blank member
label-front [] e h = absurd (true≢false (sym h))
label-front (b ∷ w) e h =
    ⊎_elim (λ c. ap (λ (m : List ℕ). begins is_blank (m ++ e)) c.1) (begins-apart is_label_byte is_blank label-no-blank (b ∷ w) e (omega arith)) (label-cases (b ∷ w) h)

-- ---- a pair's name

abbrev NameOk : List ℕ → Option (List ℕ) → Type 0
NameOk s none = Unit {0}
NameOk s (some n) = Named s n

name-sound : (s : List ℕ) → NameOk s (read_name (behind_run is_blank s))
unfolding read_name
name-sound s =
    let r = behind_run is_blank s in
    by-test (NameOk s) (is_label (label_run r) && every is_blank (behind_label r))
    (λ e. is-named (run_of is_blank s) (behind_label r) (sym (ap (λ (x : List ℕ). run_of is_blank s ++ x) (label-join r) ∙ run_join is_blank s)) (run-every is_blank s)
    (and_left (is_label (label_run r)) _ e) (and_right (is_label (label_run r)) _ e))
    (λ e. tt)

name-complete : {s n : List ℕ} → Named s n → read_name (behind_run is_blank s) ≡ some n
unfolding read_name
name-complete {s} {n} (is-named a e q blank label blanks) =
    let f = label-found e blanks n label in
    ap (λ (x : List ℕ). read_name (behind_run is_blank x)) q
    ∙ ap read_name (behind-of is_blank a (n ++ e) blank (label-front n e label))
    ∙ if-true _ _ (and-true (ap is_label f.run-found ∙ label) (ap (every is_blank) f.rest-found ∙ blanks)) ∙ ap some f.run-found

-- ---- a pair

abbrev pub PairOk : List ℕ → Option Pair → Type 0
PairOk s none = Unit {0}
PairOk s (some p) = (e : List ℕ) × First s p.0 e × Named e p.1

pub pair-sound : (s : List ℕ) → PairOk s (read_pair s)
unfolding read_pair with_key
pair-sound s =
    by-test (PairOk s) (leb 1 (length (first_token s))) (λ e. go e (read_name (behind_run is_blank (behind_first s))) (name-sound (behind_first s))) (λ e. tt)
  where
    go : leb 1 (length (first_token s)) ≡ true → (o : Option (List ℕ)) → NameOk (behind_first s) o → PairOk s (with_key (first_token s) o)
    go e none n = tt
    go e (some w) n = (behind_first s, first-stands s (leb-true 1 _ e), n)

pub pair-complete : {s k e n : List ℕ} → First s k e → Named e n → read_pair s ≡ some (k, n)
unfolding read_pair with_key
pair-complete {s} {k} {e} {n} f i =
    let g = first_found f in
    if-true _ _ (ap (λ (w : List ℕ). leb 1 (length w)) g.token-found ∙ le-leb 1 (length k) g.some-found)
    ∙ ap₂ (λ (v w : List ℕ). with_key v (read_name (behind_run is_blank w))) g.token-found g.rest-found ∙ ap (with_key k) (name-complete i)
