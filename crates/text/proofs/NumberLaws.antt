-- The loops of `past_digits` and `past_number`, and what `past_decimal` finds.
--
--   Digits s i r        digits from i up to r
--   Walked s b i q      the bytes from b up to i are label bytes, and a length with them has come to q
use Prim.Native.Nat.{ℕ, zero, suc, ◌+◌, ◌-◌, ◌≤◌, ◌<◌}
use native.Mathlib.Nat.{add-zero, eq-or-lt_of_le}
use native.Mathlib.Omega.{arith}
use mathlib.Core.Path.{◌≡◌, refl, ap, sym, ◌∙◌, subst}
use mathlib.Core.Logic.{◌⊎◌, inl, inr, ⊎_elim}
use mathlib.Core.Bool.{Bool, true, false, ◌||◌, not}
use mathlib.Core.List.{List, [], ◌∷◌, ◌++◌}
use mathlib.Core.Option.{none, some}
use lib.Dec.{T, leb, eqb, ltb}
use lib.ListN.{length, get_or, drop}
use lib.Seq.{slice, slice_empty}
use borrow.Author.Tests.{leb-true, eqb-true, eqb-false, ltb-true, ltb-false, ne_eqb}
use Rattle.std.specs.Prelude.{if◌then◌else◌}
use Rattle.trees.specs.Text.{Symbol, label, kind, kind_in, apostrophe, is_label_byte, open_after, is_label, colon, stray, token, symbols_after, ended}
use Rattle.trees.specs.Length.{is_digit}
use Rattle.trees.specs.Reading.{read_length}
use Rattle.theorems.specs.ListLaws.{and_right, less-or-not}
use Rattle.theorems.specs.LabelLaws.{quote-kind}
use Rattle.theorems.specs.TextLaws.{by_kind, symbols-step}
use Rattle.text.specs.Automaton.{byte_class, move, run, is_end}
use Rattle.text.specs.Read.{kind_at, NoBlank, has_byte, has_label_byte, symbols_at, RunEnd, DigitsEnd, Unmeasured, NumberBehind, DecimalBehind}
use Rattle.text.specs.PlaceLaws.{IsMark, is-comma, is-close, front-not, run-front, byte-there}
use Rattle.text.specs.SliceLaws.{slice-more}
use Rattle.text.proofs.ByteLaws.{at}
use Rattle.text.proofs.SymbolLaws.{each_more}
use Rattle.text.proofs.TokenLaws.{StrayFirst, no-label-there, quote-there, byte-stands, other-there, token-at, run-label, run-stops, run-odd, quote-at}
use Rattle.text.proofs.PastLaws.{parted-label, colon-front}
use Rattle.text.proofs.AutomatonLaws.{run_length, quote-length}

-- ---- digits

last : (b : ℕ) → b < 58 → b ≤ 57
last b h = omega arith

digit-label : (x : ℕ) → is_digit x ≡ true → is_label_byte x ≡ true
unfolding is_digit is_label_byte
digit-label x h =
    let l : x ≤ 57 = leb-true x 57 (and_right (leb 48 x) (leb x 57) h) in
    ap (λ b. not b || is_label_byte x) (sym h) ∙ at (λ k. not (is_digit k) || is_label_byte k) 58 refl x (omega arith)

digit-class : (x : ℕ) → is_digit x ≡ true → byte_class x ≡ 0
unfolding byte_class
digit-class x h = simp h

-- a run of digits is as one digit
move-again : (q : ℕ) → q < 9 → move (move q 0) 0 ≡ move q 0
unfolding move
move-again zero h = refl
move-again (suc zero) h = refl
move-again (suc (suc zero)) h = refl
move-again (suc (suc (suc zero))) h = refl
move-again (suc (suc (suc (suc zero)))) h = refl
move-again (suc (suc (suc (suc (suc zero))))) h = refl
move-again (suc (suc (suc (suc (suc (suc zero)))))) h = refl
move-again (suc (suc (suc (suc (suc (suc (suc zero))))))) h = refl
move-again (suc (suc (suc (suc (suc (suc (suc (suc zero)))))))) h = refl
move-again (suc (suc (suc (suc (suc (suc (suc (suc (suc q))))))))) h = absurd (omega arith)

module _ (s : List ℕ) (i : ℕ) where
  pub record Digits (r : ℕ) : Type 0 where
    pub past : i ≤ r
    pub within : r ≤ length s
    pub each : (j : ℕ) → i ≤ j → j < r → is_digit (get_or s j 0) ≡ true

  pub digits-none : i ≤ length s → Digits i
  digits-none h = record { past = omega arith; within = h; each = λ j l m. absurd (omega arith) }

  pub digits_more : (r : ℕ) → Digits r → r < length s → true ≡ is_digit (get_or s r 0) → Digits (r + 1)
  digits_more r d h e = record {
    past = omega (arith, d.past);
    within = omega arith;
    each = λ j l m. ⊎_elim (λ (z : j ≡ r). ap (λ (n : ℕ). is_digit (get_or s n 0)) z ∙ sym e) (λ (z : j < r). d.each j l z) (eq-or-lt_of_le (omega arith));
  }

  pub digits-end : (r k : ℕ) → Digits r → k ≡ 0 → DigitsEnd s i k r
  digits-end r k d e = record { past = d.past; within = d.within; each = λ j l m. (e, d.each j l m) }

  pub digits-never : (k : ℕ) → i ≤ length s → DigitsEnd s i k i
  digits-never k h = record { past = omega arith; within = h; each = λ j l m. absurd (omega arith) }

-- ---- a token, byte by byte

run-snoc : (q : ℕ) (w : List ℕ) (x : ℕ) → run q (w ++ x ∷ []) ≡ move (run q w) (byte_class x)
unfolding run
run-snoc q [] x = refl
run-snoc q (b ∷ w) x = run-snoc (move q (byte_class b)) w x

-- behind a colon: a stray symbol, and a run that begins with an apostrophe
stray-reads : (l : List Symbol) → StrayFirst l → (t : Unmeasured) → read_length t (colon ∷ l) ≡ none
unfolding read_length
stray-reads l p t = ap (λ x. read_length t (colon ∷ x)) p.1

ended-reads : (w : List ℕ) (ss : List Symbol) (t : Unmeasured) → read_length t (colon ∷ ended (apostrophe ∷ w) ss) ≡ none
unfolding read_length ended
ended-reads w ss t = go (is_label (apostrophe ∷ w))
  where
    go : (c : Bool) → read_length t (colon ∷ (if c then token (apostrophe ∷ w) else stray) ∷ ss) ≡ none
    go true = ap (λ (x : Bool). if x then some (t (some (apostrophe ∷ w)), ss) else none) (quote-length w)
    go false = refl

quote-reads : (s : List ℕ) (b : ℕ) → b < length s → get_or s b 0 ≡ apostrophe → (t : Unmeasured) → read_length t (colon ∷ symbols_at s b) ≡ none
unfolding by_kind kind_in open_after
quote-reads s b h e t =
    let r = run-front apostrophe [] (drop (b + 1) s) in
    ap (λ x. read_length t (colon ∷ x)) (symbols-step s b h label [] (ap kind e ∙ quote-kind) ∙ ap (λ (x : ℕ). symbols_after (x ∷ []) (drop (b + 1) s)) e ∙ r.2) ∙ ended-reads r.0 r.1 t

module _ (s : List ℕ) (b : ℕ) where
  pub record Walked (i q : ℕ) : Type 0 where
    pub past : b ≤ i
    pub within : i ≤ length s
    pub small : q < 9
    pub each : (j : ℕ) → b ≤ j → j < i → is_label_byte (get_or s j 0) ≡ true
    pub state : run 0 (slice b i s) ≡ q

  pub walked_none : b ≤ length s → Walked b 0
  unfolding run
  walked_none h = record { past = omega arith; within = h; small = omega arith; each = λ j l m. absurd (omega arith); state = ap (run 0) (slice_empty b s) }

  walked-byte : (i q q' : ℕ) → Walked i q → i < length s → is_label_byte (get_or s i 0) ≡ true → q' ≡ move q (byte_class (get_or s i 0)) → q' < 9 → Walked (i + 1) q'
  walked-byte i q q' w h k e l = record {
    past = omega (arith, w.past);
    within = omega arith;
    small = l;
    each = λ j f m. each_more (λ (n : ℕ). is_label_byte (get_or s n 0) ≡ true) b i w.each k j f m;
    state = ap (run 0) (slice-more s b i w.past h) ∙ run-snoc 0 (slice b i s) (get_or s i 0) ∙ ap (λ (x : ℕ). move x (byte_class (get_or s i 0))) w.state ∙ sym e;
  }

  walked-digits : (n i q : ℕ) → q < 9 → Walked i (move q 0) → ((j : ℕ) → i ≤ j → j < i + n → is_digit (get_or s j 0) ≡ true) → i + n ≤ length s → Walked (i + n) (move q 0)
  walked-digits zero i q l w d h = subst (λ (x : ℕ). Walked x (move q 0)) (sym (add-zero i)) w
  walked-digits (suc n) i q l w d h =
      let p = walked-digits n i q l w (λ j y z. d j y (omega arith)) (omega arith) in
      let x : is_digit (get_or s (i + n) 0) ≡ true = d (i + n) (omega arith) (omega arith) in
      let m : move q 0 ≡ move (move q 0) (byte_class (get_or s (i + n) 0)) = sym (move-again q l) ∙ ap (move (move q 0)) (sym (digit-class (get_or s (i + n) 0) x)) in
      subst (λ (y : ℕ). Walked y (move q 0)) (omega arith) (walked-byte (i + n) (move q 0) (move q 0) p (omega arith) (digit-label (get_or s (i + n) 0) x) m w.small)

  -- a byte of the class k, and the digits behind it if it is one
  pub walked-turn : (i q k q' r : ℕ) → Walked i q → i < length s → is_label_byte (get_or s i 0) ≡ true → k ≡ byte_class (get_or s i 0) → q' ≡ move q k → q' < 9 → DigitsEnd s (i + 1) k r → Walked r q'
  walked-turn i q k q' r w h n c m l d = go (eqb k 0) refl
    where
      one : Walked (i + 1) q'
      one = walked-byte i q q' w h n (m ∙ ap (move q) c) l

      go : (t : Bool) → eqb k 0 ≡ t → Walked r q'
      go true e =
          let z : q' ≡ move q 0 = m ∙ ap (move q) (eqb-true k 0 e) in
          let y : i + 1 + (r - (i + 1)) ≡ r = omega (arith, d.past) in
          let p : Walked (i + 1 + (r - (i + 1))) (move q 0) =
          walked-digits (r - (i + 1)) (i + 1) q w.small (subst (Walked (i + 1)) z one) (λ j u v. (d.each j u (omega arith)).1) (omega (arith, d.within)) in
          subst (λ (x : ℕ). Walked r x) (sym z) (subst (λ (x : ℕ). Walked x (move q 0)) y p)
      go false e = subst (λ (x : ℕ). Walked x q') (same (ltb (i + 1) r) refl) one
        where
          same : (t : Bool) → ltb (i + 1) r ≡ t → i + 1 ≡ r
          same true u = absurd (eqb-false k 0 e (d.each (i + 1) (omega arith) (ltb-true (i + 1) r u)).0)
          same false u = omega (arith, d.past, ltb-false (i + 1) r u)

  -- ---- the token's end
  module _ (i q : ℕ) (w : Walked i q) (stop : has_label_byte s i ≡ false) where
    walked_end : RunEnd s b i
    walked_end = record { past = w.past; within = w.within; each = w.each; stop = no-label-there s i stop }

    -- an apostrophe behind it, or where it would begin
    pub number-quote : has_byte s i apostrophe ≡ true → NumberBehind s b (length s + 1)
    number-quote e = record { good = λ l. absurd (omega arith); fault = λ l. (refl, go (less-or-not b i)) }
      where
        go : (b < i) ⊎ (i ≤ b) → (t : Unmeasured) → read_length t (colon ∷ symbols_at s b) ≡ none
        go (inl h) = stray-reads (symbols_at s b) (run-odd s b i walked_end h (quote-there s i e).0 (quote-there s i e).1)
        go (inr h) = let p = quote-at s b i walked_end e h in quote-reads s b p.0 p.1

    module _ (clear : has_byte s i apostrophe ≡ false) where
      number-reads : b < i → (t : Unmeasured) → read_length t (colon ∷ symbols_at s b) ≡ (if is_end q then some (t (some (slice b i s)), symbols_at s i) else none)
      unfolding read_length
      number-reads h t =
          ap (λ x. read_length t (colon ∷ x)) (token-at s b i w.past w.within (run-label s b i walked_end h) (run-stops s b i walked_end clear))
          ∙ ap (λ (c : Bool). if c then some (t (some (slice b i s)), symbols_at s i) else none) (sym (run_length (slice b i s)))
          ∙ ap (λ (x : ℕ). if is_end x then some (t (some (slice b i s)), symbols_at s i) else none) w.state

      pub number-good : is_end q ≡ true → NumberBehind s b i
      unfolding run
      number-good e = record {
        good = λ l. ((λ t. number-reads begun t ∙ ap (λ x. if x then some (t (some (slice b i s)), symbols_at s i) else none) e), w.past, parted-label s b i (run-label s b i walked_end begun) (run-stops s b i walked_end clear));
        fault = λ l. absurd (omega (arith, w.within));
      }
        where
          go : (b < i) ⊎ (i ≤ b) → b < i
          go (inl h) = h
          go (inr h) =
              let z : i ≡ b = omega (arith, w.past) in
              let y : q ≡ 0 = sym w.state ∙ ap (λ (x : ℕ). run 0 (slice b x s)) z ∙ ap (run 0) (slice_empty b s) in
              absurd (subst T (sym e ∙ ap is_end y) tt)

          begun : b < i
          begun = go (less-or-not b i)

      pub number-odd : NoBlank s b → is_end q ≡ false → NumberBehind s b (length s + 1)
      number-odd f e = record { good = λ l. absurd (omega arith); fault = λ l. (refl, go (less-or-not b i)) }
        where
          go : (b < i) ⊎ (i ≤ b) → (t : Unmeasured) → read_length t (colon ∷ symbols_at s b) ≡ none
          go (inl h) = λ t. number-reads h t ∙ ap (λ x. if x then some (t (some (slice b i s)), symbols_at s i) else none) e
          go (inr h) =
              let z : i ≡ b = omega (arith, w.past) in
              λ t. colon-front t (symbols_at s b) (front-not s b 1 (λ n. omega arith) f (subst (λ (x : ℕ). kind_at s x ≡ 1 → ⊥) z (run-stops s b i walked_end clear)))

pub not_end : (q : ℕ) → (q ≡ 2 → ⊥) → (q ≡ 4 → ⊥) → (q ≡ 7 → ⊥) → is_end q ≡ false
not_end q f g h = simp (ne_eqb q 2 f, ne_eqb q 4 g, ne_eqb q 7 h)

-- ---- digits, a point and digits

module _ (s : List ℕ) (b : ℕ) where
  -- no decimal
  pub decimal-none : DecimalBehind s b (length s)
  decimal-none = record { within = omega arith; number = λ l. absurd (omega arith) }

  module _ (p r : ℕ) (d : DigitsEnd s b 0 p) (some-digits : p ≡ b → ⊥) (point : has_byte s p 46 ≡ true) (e : DigitsEnd s (p + 1) 0 r) where
    to-point : Walked s b p 2
    unfolding move
    to-point =
        let l : b < p = omega (arith, d.past, some-digits) in
        let m : b < length s = omega (arith, d.within) in
        let x : is_digit (get_or s b 0) ≡ true = (d.each b (omega arith) l).1 in
        let n : DigitsEnd s (b + 1) 0 p = record { past = omega arith; within = d.within; each = λ j u v. d.each j (omega arith) v } in
        walked-turn s b b 0 0 2 p (walked_none s b (omega arith)) m (digit-label (get_or s b 0) x) (sym (digit-class (get_or s b 0) x)) refl (omega arith) n

    past-point : Walked s b (p + 1) 4
    unfolding move byte_class is_label_byte
    past-point =
        let h = byte-stands s p 46 point in
        walked-byte s b p 2 4 to-point h.0 (ap is_label_byte h.1) (ap (λ (x : ℕ). move 2 (byte_class x)) (sym h.1)) (omega arith)

    decimal-walked : Walked s b r 4
    unfolding move
    decimal-walked =
        let y : p + 1 + (r - (p + 1)) ≡ r = omega (arith, e.past) in
        subst (λ (x : ℕ). Walked s b x 4) y (walked-digits s b (r - (p + 1)) (p + 1) 4 (omega arith) past-point (λ j u v. (e.each j u (omega arith)).1) (omega (arith, e.within)))

    decimal-behind : (n x : ℕ) → IsMark n x → 1 < n → is_label_byte x ≡ false → eqb x apostrophe ≡ false → has_byte s r x ≡ true → DecimalBehind s b r
    decimal-behind n x k o f g h =
        let q = other-there s r x h f g in
        let z : kind_at s r ≡ n = byte-there s r k h in
        record { within = e.within; number = λ l. (number-good s b r 4 decimal-walked q.0 q.1 refl, λ y. omega arith) }

    pub decimal-comma : has_byte s r 44 ≡ true → DecimalBehind s b r
    unfolding is_label_byte
    decimal-comma = decimal-behind 4 44 is-comma (omega arith) refl refl

    pub decimal-close : has_byte s r 41 ≡ true → DecimalBehind s b r
    unfolding is_label_byte
    decimal-close = decimal-behind 3 41 is-close (omega arith) refl refl
