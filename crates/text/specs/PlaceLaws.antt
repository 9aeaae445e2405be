-- What stands at a place of a text, by the kind of the byte there, and the symbol that it begins.
--
--   front ss               the number of the kind of the first symbol, or 8 where there is none
--   run-front              a run of bytes is one symbol, however it ends
--   front-not              the symbols from a place on do not begin with what does not stand there, if that is no blank
--   mark-at                with which mark they begin, and the rest
--   byte-there, byte-else  a byte that is a mark, and its kind
--   ends_at                a run ends where nothing of the kind of labels stands
--   kind-label             what is of the kind of labels is a label byte or an apostrophe
use Rattle.std.specs.Prelude.{ℕ, zero, suc, ◌+◌, ◌≤◌, ◌<◌, ◌≡◌, Bool, ◌||◌, get_or, drop, if◌then◌else◌}
use Rattle.std.proofs.Common.{arith, ◌∙◌, drop_of_length-le, drop-cons}
use Rattle.std.proofs.Math.Path.{refl, ap, sym, subst}
use Rattle.std.proofs.Math.Bool.{true, false}
use mathlib.Core.List.{List, [], ◌∷◌, ◌++◌, append_assoc, append-nil}
use Rattle.std.proofs.Math.Dec.{T, eqb, ltb}
use Rattle.std.proofs.Math.ListN.{length}
use borrow.Author.Tests.{lt-ltb, le-ltb, ltb-true, ltb-false, eqb-true, eqb-false}
use Rattle.trees.specs.Text.{Symbol, Kind, blank, label, mark, kind, kind_in, is_blank, is_label_byte, apostrophe, open_after, is_label, open_bracket, close_bracket, comma, colon, stray, token, symbols, symbols_after, ended}
use Rattle.theorems.specs.LabelLaws.{Ends, ends-nil, ends-blank, ends-mark}
use Rattle.theorems.specs.TextLaws.{by_kind, symbols-cons, symbols-step, symbols-end}
use Rattle.text.specs.Read.{kind_no, kind_at, NoBlank, has_byte, symbols_at}

abbrev pub front : List Symbol → ℕ
front [] = 8
front (open_bracket ∷ r) = 2
front (close_bracket ∷ r) = 3
front (comma ∷ r) = 4
front (colon ∷ r) = 5
front (stray ∷ r) = 6
front (token w ∷ r) = 1

-- ---- the kind of a byte

-- the kind of a number
abbrev pub kind_of : ℕ → Kind
kind_of zero = blank
kind_of (suc zero) = label
kind_of (suc (suc zero)) = mark open_bracket
kind_of (suc (suc (suc zero))) = mark close_bracket
kind_of (suc (suc (suc (suc zero)))) = mark comma
kind_of (suc (suc (suc (suc (suc zero))))) = mark colon
kind_of (suc (suc (suc (suc (suc (suc n)))))) = mark stray

back : (k : Kind) → kind_no k < 7 → kind_of (kind_no k) ≡ k
back blank h = refl
back label h = refl
back (mark open_bracket) h = refl
back (mark close_bracket) h = refl
back (mark comma) h = refl
back (mark colon) h = refl
back (mark stray) h = refl
back (mark (token w)) h = absurd (omega arith)

-- n is the number of the kind k
pub kind-is : {k : Kind} (n : ℕ) → n ≡ kind_no k → n < 7 → k ≡ kind_of n
kind-is {k} n e h = sym (back k (subst (λ (m : ℕ). m < 7) e h)) ∙ ap kind_of (sym e)

abbrev kind_by : Bool → Bool → Bool → Bool → Bool → Bool → Bool → Kind
kind_by x o c m d l q =
    if x then blank
    else if o then mark open_bracket
    else if c then mark close_bracket
    else if m then mark comma
    else if d then mark colon
    else if l then label
    else if q then label
    else mark stray

kind-few : (x o c m d l q : Bool) → kind_no (kind_by x o c m d l q) < 7
kind-few true o c m d l q = omega arith
kind-few false true c m d l q = omega arith
kind-few false false true m d l q = omega arith
kind-few false false false true d l q = omega arith
kind-few false false false false true l q = omega arith
kind-few false false false false false true q = omega arith
kind-few false false false false false false true = omega arith
kind-few false false false false false false false = omega arith

-- which test a byte's kind has passed
passed : (n : ℕ) → Bool → Bool → Bool → Bool → Bool → Bool → Type 0
passed n o c m d l q = (n ≡ 2 → o ≡ true) × (n ≡ 3 → c ≡ true) × (n ≡ 4 → m ≡ true) × (n ≡ 5 → d ≡ true) × (n ≡ 1 → l || q ≡ true)

kind-passed : (x o c m d l q : Bool) → passed (kind_no (kind_by x o c m d l q)) o c m d l q
unfolding passed
kind-passed true o c m d l q = (λ e. absurd (omega arith), λ e. absurd (omega arith), λ e. absurd (omega arith), λ e. absurd (omega arith), λ e. absurd (omega arith))
kind-passed false true c m d l q = (λ e. refl, λ e. absurd (omega arith), λ e. absurd (omega arith), λ e. absurd (omega arith), λ e. absurd (omega arith))
kind-passed false false true m d l q = (λ e. absurd (omega arith), λ e. refl, λ e. absurd (omega arith), λ e. absurd (omega arith), λ e. absurd (omega arith))
kind-passed false false false true d l q = (λ e. absurd (omega arith), λ e. absurd (omega arith), λ e. refl, λ e. absurd (omega arith), λ e. absurd (omega arith))
kind-passed false false false false true l q = (λ e. absurd (omega arith), λ e. absurd (omega arith), λ e. absurd (omega arith), λ e. refl, λ e. absurd (omega arith))
kind-passed false false false false false true q = (λ e. absurd (omega arith), λ e. absurd (omega arith), λ e. absurd (omega arith), λ e. absurd (omega arith), λ e. refl)
kind-passed false false false false false false true = (λ e. absurd (omega arith), λ e. absurd (omega arith), λ e. absurd (omega arith), λ e. absurd (omega arith), λ e. refl)
kind-passed false false false false false false false = (λ e. absurd (omega arith), λ e. absurd (omega arith), λ e. absurd (omega arith), λ e. absurd (omega arith), λ e. absurd (omega arith))

pub few : (b : ℕ) → kind_no (kind b) < 7
unfolding kind
few b = kind-few (is_blank b) (eqb b 40) (eqb b 41) (eqb b 44) (eqb b 58) (is_label_byte b) (eqb b apostrophe)

-- the byte b is the mark of the number n
pub record IsMark (n b : ℕ) : Type 0 where
  pub number : kind_no (kind b) ≡ n
  pub only : (x : ℕ) → kind_no (kind x) ≡ n → x ≡ b
  pub small : n < 8

tests : (x : ℕ) → passed (kind_no (kind x)) (eqb x 40) (eqb x 41) (eqb x 44) (eqb x 58) (is_label_byte x) (eqb x apostrophe)
unfolding kind
tests x = kind-passed (is_blank x) (eqb x 40) (eqb x 41) (eqb x 44) (eqb x 58) (is_label_byte x) (eqb x apostrophe)

pub kind-label : (x : ℕ) → kind_no (kind x) ≡ 1 → is_label_byte x || eqb x apostrophe ≡ true
unfolding passed
kind-label x e = (tests x).4 e

pub is_open : IsMark 2 40
unfolding kind passed
is_open = record { number = refl; only = λ x e. eqb-true x 40 ((tests x).0 e); small = omega arith }

pub is-close : IsMark 3 41
unfolding kind passed
is-close = record { number = refl; only = λ x e. eqb-true x 41 ((tests x).1 e); small = omega arith }

pub is-comma : IsMark 4 44
unfolding kind passed
is-comma = record { number = refl; only = λ x e. eqb-true x 44 ((tests x).2 e); small = omega arith }

pub is-colon : IsMark 5 58
unfolding kind passed
is-colon = record { number = refl; only = λ x e. eqb-true x 58 ((tests x).3 e); small = omega arith }

-- ---- what stands at a place

module _ (s : List ℕ) (i : ℕ) where
  pub kind-there : i < length s → kind_at s i ≡ kind_no (kind (get_or s i 0))
  unfolding kind_at
  kind-there h = simp (lt-ltb i (length s) h)

  pub kind-past : length s ≤ i → kind_at s i ≡ 8
  unfolding kind_at
  kind-past h = simp (le-ltb i (length s) h)

  pub there : (n : ℕ) → kind_at s i ≡ n → n < 8 → i < length s
  there n e h = go (ltb i (length s)) refl
    where
      go : (t : Bool) → ltb i (length s) ≡ t → i < length s
      go true l = ltb-true i (length s) l
      go false l = absurd (omega (arith, kind-past (ltb-false i (length s) l)))

  pub kind-small : i < length s → kind_at s i < 8
  kind-small h = let l = few (get_or s i 0) in omega (arith, kind-there h)

  pub behind : (n : ℕ) → kind_at s i ≡ n → n < 8 → i + 1 ≤ length s
  behind n e h = let l = there n e h in omega arith

  pub end-stops : length s ≤ i → NoBlank s i
  end-stops h e = omega (arith, kind-past h)

  -- ---- a byte that is a mark
  pub byte-there : {n b : ℕ} → IsMark n b → has_byte s i b ≡ true → kind_at s i ≡ n
  unfolding has_byte
  byte-there {n} {b} m = go (ltb i (length s)) refl
    where
      go : (t : Bool) → ltb i (length s) ≡ t → (if t then eqb (get_or s i 0) b else false) ≡ true → kind_at s i ≡ n
      go true l e = kind-there (ltb-true i (length s) l) ∙ ap (λ (x : ℕ). kind_no (kind x)) (eqb-true (get_or s i 0) b e) ∙ m.number
      go false l e = absurd (subst T (sym e) tt)

  pub byte-else : {n b : ℕ} → IsMark n b → has_byte s i b ≡ false → kind_at s i ≡ n → ⊥
  unfolding has_byte
  byte-else {n} {b} m e k =
      let h = there n k m.small in
      eqb-false (get_or s i 0) b (sym (ap (λ t. if t then eqb (get_or s i 0) b else false) (lt-ltb i (length s) h)) ∙ e) (m.only (get_or s i 0) (sym (kind-there h) ∙ k))

-- ---- the symbol that begins there

front-mark : (m : Symbol) (r : List Symbol) → kind_no (mark m) < 7 → front (m ∷ r) ≡ kind_no (mark m)
front-mark open_bracket r h = refl
front-mark close_bracket r h = refl
front-mark comma r h = refl
front-mark colon r h = refl
front-mark stray r h = refl
front-mark (token w) r h = absurd (omega arith)

pub run-front : (b : ℕ) (w s : List ℕ) → (x : List ℕ) × (ss : List Symbol) × (symbols_after (b ∷ w) s ≡ ended (b ∷ (w ++ x)) ss)
unfolding symbols_after by_kind
run-front b w [] = ([], [], ap (λ (v : List ℕ). ended (b ∷ v) []) (sym (append-nil w)))
run-front b w (c ∷ s) = go (kind_in (open_after false (b ∷ w)) c) (symbols-cons (b ∷ w) c s) (run-front b (w ++ c ∷ []) s)
  where
    here : (ss : List Symbol) → ended (b ∷ w) ss ≡ ended (b ∷ (w ++ [])) ss
    here ss = ap (λ (v : List ℕ). ended (b ∷ v) ss) (sym (append-nil w))

    go : (k : Kind) → symbols_after (b ∷ w) (c ∷ s) ≡ by_kind k (b ∷ w) c s → (x : List ℕ) × (ss : List Symbol) × (symbols_after (b ∷ (w ++ c ∷ [])) s ≡ ended (b ∷ ((w ++ c ∷ []) ++ x)) ss)
        → (x : List ℕ) × (ss : List Symbol) × (symbols_after (b ∷ w) (c ∷ s) ≡ ended (b ∷ (w ++ x)) ss)
    go blank e r = ([], symbols s, e ∙ here (symbols s))
    go label e r = (c ∷ r.0, r.1, e ∙ r.2 ∙ ap (λ (v : List ℕ). ended (b ∷ v) r.1) (append_assoc w (c ∷ []) r.0))
    go (mark m) e r = ([], m ∷ symbols s, e ∙ here (m ∷ symbols s))

-- a run is a token or a stray symbol
front-ended : (b : ℕ) (w : List ℕ) (ss : List Symbol) (n : ℕ) → (n ≡ 6 → ⊥) → front (ended (b ∷ w) ss) ≡ n → n ≡ 1
unfolding ended
front-ended b w ss n f = go (is_label (b ∷ w))
  where
    go : (t : Bool) → front ((if t then token (b ∷ w) else stray) ∷ ss) ≡ n → n ≡ 1
    go true e = sym e
    go false e = absurd (f (sym e))

module _ (s : List ℕ) (i : ℕ) (n : ℕ) (f : n ≡ 6 → ⊥) where
  front-there : i < length s → NoBlank s i → (k : Kind) → kind (get_or s i 0) ≡ k → front (symbols_at s i) ≡ n → kind_at s i ≡ n
  unfolding by_kind kind_in open_after ended
  front-there h m blank e g = absurd (m (kind-there s i h ∙ ap kind_no e))
  front-there h m label e g =
      let r = run-front (get_or s i 0) [] (drop (i + 1) s) in
      kind-there s i h ∙ ap kind_no e ∙ sym (front-ended (get_or s i 0) r.0 r.1 n f (sym (ap front (symbols-step s i h label [] e ∙ r.2)) ∙ g))
  front-there h m (mark x) e g =
      let q : kind_no (mark x) < 7 = subst (λ k. kind_no k < 7) e (few (get_or s i 0)) in
      kind-there s i h ∙ ap kind_no e ∙ sym (front-mark x (symbols_at s (i + 1)) q) ∙ sym (ap front (symbols-step s i h (mark x) [] e)) ∙ g

  front_at : NoBlank s i → front (symbols_at s i) ≡ n → kind_at s i ≡ n
  unfolding ended
  front_at m g = go (ltb i (length s)) refl
    where
      go : (t : Bool) → ltb i (length s) ≡ t → kind_at s i ≡ n
      go true l = front-there (ltb-true i (length s) l) m (kind (get_or s i 0)) refl g
      go false l = kind-past s i (ltb-false i (length s) l) ∙ sym (ap front (symbols-end s i (ltb-false i (length s) l) [])) ∙ g

  -- of the symbol of a run it is not known whether it is a token or a stray one
  pub front-not : NoBlank s i → (kind_at s i ≡ n → ⊥) → front (symbols_at s i) ≡ n → ⊥
  front-not m h e = h (front_at m e)

module _ (s : List ℕ) (i : ℕ) where
  pub mark-at : (m : Symbol) → kind_no (mark m) < 7 → kind_at s i ≡ kind_no (mark m) → symbols_at s i ≡ m ∷ symbols_at s (i + 1)
  unfolding by_kind kind_in open_after ended
  mark-at m q k =
      let h : i < length s = there s i (kind_no (mark m)) k (omega arith) in
      symbols-step s i h (mark m) [] (kind-is (kind_no (mark m)) (sym k ∙ kind-there s i h) q ∙ back (mark m) q)

-- ---- where a run ends

module _ (s : List ℕ) (r : ℕ) where
  pub ends_at : (kind_at s r ≡ 1 → ⊥) → Ends (drop r s)
  ends_at n = go (ltb r (length s)) refl
    where
      by : r < length s → (k : Kind) → kind (get_or s r 0) ≡ k → Ends (get_or s r 0 ∷ drop (suc r) s)
      by h blank e = ends-blank (get_or s r 0) (drop (suc r) s) e
      by h label e = absurd (n (kind-there s r h ∙ ap kind_no e))
      by h (mark m) e = ends-mark (get_or s r 0) (drop (suc r) s) m e

      go : (t : Bool) → ltb r (length s) ≡ t → Ends (drop r s)
      go true e = let h = ltb-true r (length s) e in subst Ends (sym (drop-cons s r 0 h)) (by h (kind (get_or s r 0)) refl)
      go false e = subst Ends (sym (drop_of_length-le s (ltb-false r (length s) e))) ends-nil
